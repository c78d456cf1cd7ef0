-- Some way comes to the place behind a statement where one is asked for.
use Rattle.std.proofs.Common.{◌≡◌, ◌⊎◌, inl, inr, ℕ, ◌+◌, suc, Bool, true, false, ◌&&◌, ◌||◌, not, if◌then◌else◌, nat_eq, List, [], ◌∷◌, ◌++◌, length, Option, Some, None, refl, sym, ap, ◌∙◌, subst, arith}
use Rattle.std.proofs.lemmas.Bool.{false≢true, true≢false}
use Rattle.pt_tree.specs.Syntax as S
use Rattle.pt_tree.specs.declared.expression.Constant.TheVariants as constant
use Rattle.pt_tree.specs.Syntax.{Name, Exp, Opt, Place, Tgt, Decorators, Items, Stm, Stms, Branches, Handlers, none, more}
use Rattle.pt_tree.specs.Sizes.{size, target_size, items_size, stm_size, stms_size}
use Rattle.pt_instr.specs.declared.Instr.TheVariants as instr
use Rattle.pt_instr.specs.Effects.{effect_of}
use Rattle.sem_control.specs.control.Turn.{Around}
use Rattle.sem_control.specs.control.Frames.{Definition, a_function, a_class}
use Rattle.sem_control.specs.control.Jump.{starts_on}
use Rattle.sem_control.specs.control.Numbers.{tested_body, behind_body, for_body, for_else, try_handlers, try_else, try_finally, handler_body}
use Rattle.sem_control.specs.control.Statements.{all_places}
use Rattle.pt_assembler.specs.declared.operation.Exit.TheVariants.{Break, Continue}
use Rattle.pt_assembler.specs.declared.operation.Jump.TheVariants.{Always as Jumps, IfFalse}
use Rattle.pt_assembler.specs.Piece as P
use Rattle.pt_assembler.specs.Piece.{Piece}
use Rattle.sem_fits.specs.fits.Block.{Links}
use Rattle.law_typed_pieces.specs.law_operands.law_files.sem_compile.emitter.ExpPiece.{null_piece}
use Rattle.sem_code.specs.slots.Slots.{or_else}
use Rattle.law_typed_pieces.specs.law_operands.law_files.sem_compile.stm_pieces.Needed.{some_exits, is_bound, either, all_go_on, goes_on, some_branch_goes_on, some_handler_goes_on, is_silent, leaves, Behind, needed, free, reached, is_needed, needed_if, in_front, behind_branches, behind_loop, behind_tried, is_nowhere}
use Rattle.law_typed_pieces.specs.law_operands.law_files.sem_compile.stm_pieces.StmPiece.{begun_piece, value_piece, all_deleted_piece, defined_piece, guarded_piece, ensured_piece, taken_piece, handled_piece, items_piece, stm_piece, all_piece, branches_piece, handlers_piece}
use Rattle.law_typed_pieces.specs.law_operands.law_files.sem_compile.stm_pieces.Names.{TakesCells, Value_named, Opt_named, All_deleted_named, Definition_named, Parameters_named, Items_named, Stm_named, All_named, Branches_named, Handlers_named}
use Rattle.law_pieces.specs.piece_kinds.Walk.{Known, StackMap, behind_op, aside_op, to_none, to_one, is_empty, deepened, Setting, with_label, with_none, with_loop, end_of, flow, behind}
use Rattle.law_pieces.specs.piece_kinds.Typed.{Over}
use Rattle.law_pieces.proofs.piece_kinds.ListLemmas.{over_itself, over_more}
use Rattle.law_pieces.proofs.piece_kinds.PieceLaw.{is_some_of, not_both}
use Rattle.law_typed_pieces.proofs.typed_pieces.Combine.{goes_if, deepened_is, Goes, act_of, move_of, nothing_there, both, next_to, in_closed, in_block, deeper_by_one, in_row, value, gives_one, takes_none, takes_one}
use Rattle.law_typed_pieces.proofs.typed_pieces.Operations.{stores, deletes}
use Rattle.law_typed_pieces.proofs.typed_pieces.Expressions.{jumps, tests_false, tests_true, null}
use Rattle.law_typed_pieces.proofs.typed_pieces.Statements as statements
use Rattle.law_typed_pieces.proofs.typed_pieces.Statements.{exception, exit, pending, catches, ends_handler, enters, exits_part, ends_finally, matches, ends_if, Out, closed_out, HoldsNone, val, stored, assigned, augmented, all_deleted, failed, imported, imported_from, defined, Outs, Branching, to_label, Tested, while_tested, while_test, for_tested, for_test, Taken_named, taken_so, all}
use Rattle.law_typed_pieces.proofs.typed_pieces.Plain.{IsPlain}
use Rattle.law_typed_pieces.proofs.typed_pieces.LeadsForms.{val_plain}
use Rattle.law_compile.proofs.loop_exits.Lying.{both_true}
use Rattle.law_compile.specs.loop_exits.Parts.{HasStatement, HasItem, HasParts, AllHaveParts, BranchesHaveParts, HandlersHaveParts}

-- some way must come behind a statement that is asked to go on, or goes on by itself where nothing else comes there
abbrev pub must : Behind → (goes_on : Bool) → Bool
must needed g = true
must free g = g
must reached g = false

or_some : (t : Bool) (B : StackMap) → or_else (goes_if t B) (Some B) ≡ Some B
or_some true B = refl
or_some false B = refl

-- where the first goes on, where the second sends something, and where something is sent between
first_some : (t : Bool) (B : StackMap) (o : Option StackMap) → or_else (goes_if t B) (or_else (Some B) o) ≡ Some B
first_some true B o = refl
first_some false B o = refl

between : (o s : Option StackMap) (t : Bool) (B : StackMap) → or_else o s ≡ Some B → or_else o (or_else (goes_if t B) s) ≡ Some B
between (Some x) s t B h = h
between None s true B h = refl
between None s false B h = h

last_some : (t : Bool) (B C : StackMap) → or_else (goes_if t B) (Some C) ≡ goes_if t B → t ≡ true
last_some true B C h = refl
last_some false B C h = not_both h

true_of : (t : Bool) (B C : StackMap) → goes_if t B ≡ Some C → t ≡ true
true_of true B C e = refl
true_of false B C e = not_both (sym e)

left_or_right : (s t : Bool) → (s || t) ≡ true → s ≡ false → t ≡ true
left_or_right true t e h = absurd (true≢false h)
left_or_right false t e h = e

-- what leaves doesn't go on, and is never silent

leaves_stops : (st : Stm) → leaves st ≡ true → goes_on st ≡ false
leaves_stops (S.return l e) h = refl
leaves_stops (S.raise l e c) h = refl
leaves_stops (S.raise_again l) h = refl
leaves_stops (S.break l) h = refl
leaves_stops (S.continue l) h = refl
leaves_stops st h = absurd (false≢true h)

silent_stays : (st : Stm) → is_silent st ≡ true → leaves st ≡ false
silent_stays (S.return l e) h = absurd (false≢true h)
silent_stays (S.raise l e c) h = absurd (false≢true h)
silent_stays (S.raise_again l) h = absurd (false≢true h)
silent_stays (S.break l) h = absurd (false≢true h)
silent_stays (S.continue l) h = absurd (false≢true h)
silent_stays st h = refl

stays : (st : Stm) (w : Behind) → must w (goes_on st) ≡ true → (leaves st && is_needed w) ≡ false → leaves st ≡ false
stays st w m h = by (leaves st) refl w m h
  where
    by : (t : Bool) → leaves st ≡ t → (w : Behind) → must w (goes_on st) ≡ true → (t && is_needed w) ≡ false → t ≡ false
    by true e needed m h = absurd (true≢false h)
    by true e free m h = absurd (false≢true (sym (leaves_stops st e) ∙ m))
    by true e reached m h = absurd (false≢true m)
    by false e w m h = refl

-- of statements, if there is one
abbrev pub MustAll : Behind → Stms → Type 0
MustAll w none = Unit {0}
MustAll w (more st ss) = must w (all_go_on (more st ss)) ≡ true

pub must_all : (w : Behind) (ss : Stms) → must w (all_go_on ss) ≡ true → MustAll w ss
must_all w none h = tt
must_all w (more st ss) h = h

module _ {A : Type 0} (around : Around A) (links : Links) (next : ℕ → ℕ) (cells : TakesCells around)
    (captures : (b : ℕ) → links.captures b ≡ length (around.captured b)) where
  -- from the slots of the parts around it, these are behind it
  abbrev pub Arrives : Piece → Type 0
  Arrives q = (c : Setting) (base : StackMap) (from : ℕ) → behind links next q c base from (Some base) ≡ Some base

  abbrev outs : Piece → Type 0
  outs q = Outs around links next cells captures q

  arrived : (q : Piece) (c : Setting) (base : StackMap) (from : ℕ) {τ : ℕ → Option StackMap} → Goes links next q c [] base from base (Some base) τ
      → behind links next q c base from (Some base) ≡ Some base
  arrived q c base from g = g.behind

  pub goes_past : {q : Piece} {c : Setting} {Ls : List (Option StackMap)} {base : StackMap} {from : ℕ} (u : Out links next q c Ls base from) → Arrives q → u.goes_on ≡ true
  goes_past {q} {c} {Ls} {base} {from} u h = true_of u.goes_on base base (sym (u.goes).behind ∙ h c base from)

  -- a statement without others in it
  simple : (st : Stm) (n : ℕ) (w : Behind) → HoldsNone st → leaves st ≡ false → Stm_named around st n → Arrives (stm_piece around st n w)
  unfolding effect_of
  simple (S.expr l e) n w z f h c base from = arrived (stm_piece around (S.expr l e) n w) c base from (next_to (val around links next cells captures e n h base (over_itself base)) (act_of (takes_one refl tt base (over_itself base))))
  simple (S.assign l ts e) n w z f h c base from =
      arrived (stm_piece around (S.assign l ts e) n w) c base from (next_to (val around links next cells captures e n h.0 base (over_itself base)) (assigned around links next cells captures ts (n + size e) h.1 base (over_itself base)))
  simple (S.augmented l p y e) n w z f h c base from = arrived (stm_piece around (S.augmented l p y e) n w) c base from (augmented around links next cells captures p y e l n h base (over_itself base))
  simple (S.annotated l p a S.absent) n w z f h c base from = arrived (stm_piece around (S.annotated l p a S.absent) n w) c base from (act_of (takes_none refl tt base (over_itself base)))
  simple (S.annotated l p a (S.given e)) n w z f h c base from =
      arrived (stm_piece around (S.annotated l p a (S.given e)) n w) c base from (next_to (val around links next cells captures e n h.0 base (over_itself base))
      (assigned around links next cells captures (S.more_targets (S.single p) S.no_targets) (n + size e) (h.1, tt) base (over_itself base)))
  simple (S.assert l e m) n w z f h c base from =
      arrived (stm_piece around (S.assert l e m) n w) c base from (in_block {r = Some base} (both (val around links next cells captures e n h.0 base (over_itself base)) (both (act_of (tests_true 0 base (over_itself base) refl))
      (failed around links next cells captures m l (n + size e + 1) h.1 base (over_itself base)))) refl)
  simple (S.pass l) n w z f h c base from = arrived (stm_piece around (S.pass l) n w) c base from (act_of (takes_none refl tt base (over_itself base)))
  simple (S.del l ts) n w z f h c base from = arrived (stm_piece around (S.del l ts) n w) c base from (all_deleted around links next cells captures (all_places ts) n h base (over_itself base))
  simple (S.import l xs) n w z f h c base from = arrived (stm_piece around (S.import l xs) n w) c base from (imported around links next cells captures xs l n base (over_itself base))
  simple (S.import_from l m xs) n w z f h c base from =
      arrived (stm_piece around (S.import_from l m xs) n w) c base from (next_to (act_of (gives_one refl (λ t. refl) base (over_itself base))) (imported_from around links next cells captures xs l (n + 1) base (over_itself base)))
  simple (S.global l xs) n w z f h c base from = refl
  simple (S.nonlocal l xs) n w z f h c base from = refl
  simple (S.def l ds k b y ps a body) n w z f h c base from = arrived (stm_piece around (S.def l ds k b y ps a body) n w) c base from (defined around links next cells captures ds (a_function b ps) [] k n y h base (over_itself base))
  simple (S.class l ds k b y super body) n w z f h c base from = arrived (stm_piece around (S.class l ds k b y super body) n w) c base from (defined around links next cells captures ds (a_class b super) [] k n y h base (over_itself base))
  simple (S.docstring l) n w z f h c base from = refl
  simple (S.return l e) n w z f h c base from = absurd (true≢false f)
  simple (S.raise l e d) n w z f h c base from = absurd (true≢false f)
  simple (S.raise_again l) n w z f h c base from = absurd (true≢false f)
  simple (S.break l) n w z f h c base from = absurd (true≢false f)
  simple (S.continue l) n w z f h c base from = absurd (true≢false f)
  simple (S.choice l bs els) n w z f h c base from = absurd z
  simple (S.while l e body els) n w z f h c base from = absurd z
  simple (S.for l t it body els) n w z f h c base from = absurd z
  simple (S.try l body hs els fin) n w z f h c base from = absurd z
  simple (S.with l is body) n w z f h c base from = absurd z

  pub begun_arrives : (st : Stm) (w : Behind) (p : Piece) → must w (goes_on st) ≡ true → outs p → (leaves st ≡ false → Arrives p) → Arrives (begun_piece st w p)
  unfolding effect_of
  begun_arrives st w p m f g c base from = by (is_silent st) (leaves st && is_needed w) refl refl
    where
      by : (s t : Bool) → is_silent st ≡ s → (leaves st && is_needed w) ≡ t
          → behind links next (if s then begun_piece (S.global 0 []) w p else if t then begun_piece (S.raise_again 0) needed p else p) c base from (Some base) ≡ Some base
      by true t e i = g (silent_stays st e) c base (next from)
      by false true e i =
          let leaving = P.seq (P.move (P.const (constant.Bool true))) (P.seq (P.move (P.to IfFalse 0)) (P.closed p)) in
          let u : Out links next (P.closed p) (with_label (end_of next leaving from) c) (Some base ∷ []) base (next (next from)) = closed_out links next (f _ _ _ _) in
          arrived (P.block leaving) c base from (in_block {r = Some base} (both (move_of (gives_one refl tt base (over_itself base)))
          (both (move_of (tests_false 0 base (over_itself base) refl)) u.goes)) (or_some u.goes_on base))
      by false false e i = g (stays st w m i) c base from

  pub in_a_block : (q : Piece) (c : Setting) (base : StackMap) (from : ℕ) → behind links next q (with_label (end_of next q from) c) base from (Some base) ≡ Some base
      → behind links next (P.block q) c base from (Some base) ≡ Some base
  in_a_block q c base from h = ap (λ o. or_else o (let f = flow links next q (with_label (end_of next q from) c) base from (Some base) in f.sent 0)) h

  -- 8.1

  -- what goes on from a piece, and what it sends to label 0
  abbrev EndsAll : Piece → Type 0
  EndsAll q = (c : Setting) (base : StackMap) (from : ℕ)
      → or_else (behind links next q c base from (Some base)) (let f = flow links next q c base from (Some base) in f.sent 0) ≡ Some base

  no_branch : (q : Piece) → Arrives q → EndsAll (P.closed q)
  no_branch q h c base from = ap (λ o. or_else o None) (h (with_none c) base from)

  -- a part that is tested, and goes to the end of them all
  record Branched (q : Piece) (c : Setting) (base : StackMap) (from : ℕ) (t : Bool) : Type 0 where
    behind : behind links next q c base from (Some base) ≡ Some base
    sent : (let f = flow links next q c base from (Some base) in f.sent 0) ≡ goes_if t base

  abbrev branch_piece : (l n : ℕ) → Exp → (body : Piece) → Piece
  branch_piece l n x q = P.block (P.seq (value_piece around x n) (P.seq (P.act (P.to IfFalse 0) (n + size x) l false) (P.seq (P.closed q) (P.move (P.to Jumps 1)))))

  branched : (l n : ℕ) (x : Exp) (q : Piece) → Value_named around x n → (f : outs q) (c : Setting) (base : StackMap) (from : ℕ)
      → (t : Bool) × Branched (branch_piece l n x q) c base from t × (Arrives q → t ≡ true)
  branched l n x q h f c base from =
      let u : Out links next q (with_none c) [] base (next (end_of next (value_piece around x n) from)) = f _ _ _ _ in
      let g : Goes links next (branch_piece l n x q) c (Some base ∷ []) base from base (Some base) _ =
      in_block {r = Some base} (both (val around links next cells captures x n h base (over_itself base)) (both (act_of (tests_false 0 base (over_itself base) refl))
      (to_label around links next cells captures 1 u.goes_on (in_closed u.goes) (λ k. refl) (λ t. refl)))) refl in
      (u.goes_on, record { behind = g.behind; sent = g.sent 0 }, goes_past u)

  pub branch_on : (l n : ℕ) (x : Exp) (q : Piece) → Value_named around x n → outs q → Arrives (branch_piece l n x q)
  branch_on l n x q h f c base from = let (t, b, on) = branched l n x q h f c base from in b.behind

  one_branch : (l n : ℕ) (x : Exp) (q rest : Piece) → Value_named around x n → outs q → ((c : Setting) (base : StackMap) (from : ℕ) → (t : Bool) × (behind links next rest c base from (Some base) ≡ goes_if t base))
      → (Arrives q → EndsAll (P.seq (branch_piece l n x q) rest)) × (EndsAll rest → EndsAll (P.seq (branch_piece l n x q) rest))
  one_branch l n x q rest h f v = (
    λ a c base from.
        let (t, b, on) = branched l n x q h f c base from in
        let (s, e) = v c base (end_of next (branch_piece l n x q) from) in
        ap (λ o. or_else (behind links next rest c base (end_of next (branch_piece l n x q) from) o) (or_else (let f = flow links next (branch_piece l n x q) c base from (Some base) in f.sent 0)
        (let f = flow links next rest c base (end_of next (branch_piece l n x q) from) o in f.sent 0))) b.behind
        ∙ (ap (λ o. or_else o (or_else (let f = flow links next (branch_piece l n x q) c base from (Some base) in f.sent 0)
        (let f = flow links next rest c base (end_of next (branch_piece l n x q) from) (Some base) in f.sent 0))) e
        ∙ (ap (λ o. or_else (goes_if s base) (or_else o (let f = flow links next rest c base (end_of next (branch_piece l n x q) from) (Some base) in f.sent 0)))
        (b.sent ∙ ap (λ t. goes_if t base) (on a)) ∙ first_some s base (let f = flow links next rest c base (end_of next (branch_piece l n x q) from) (Some base) in f.sent 0))),
    λ a c base from.
        let (t, b, on) = branched l n x q h f c base from in
        ap (λ o. or_else (behind links next rest c base (end_of next (branch_piece l n x q) from) o) (or_else (let f = flow links next (branch_piece l n x q) c base from (Some base) in f.sent 0)
        (let f = flow links next rest c base (end_of next (branch_piece l n x q) from) o in f.sent 0))) b.behind
        ∙ (ap (λ o. or_else (behind links next rest c base (end_of next (branch_piece l n x q) from) (Some base))
        (or_else o (let f = flow links next rest c base (end_of next (branch_piece l n x q) from) (Some base) in f.sent 0))) b.sent
        ∙ between _ _ t base (a c base (end_of next (branch_piece l n x q) from))),
  )

  -- 8.2, 8.3: behind a loop stands its `else` part

  otherwise_arrives : (q r : Piece) (k : ℕ) → ((c : Setting) (base : StackMap) (from : ℕ) → behind links next q c base from (Some base) ≡ Some base) → Arrives r
      → Arrives (P.block (P.seq q (P.numbered k (P.closed r))))
  otherwise_arrives q r k f h c base from =
      let inner = with_label (end_of next (P.seq q (P.numbered k (P.closed r))) from) c in
      in_a_block (P.seq q (P.numbered k (P.closed r))) c base from
      (ap (λ o. behind links next r (with_none inner) base (end_of next q from) o) (f inner base from) ∙ h (with_none inner) base (end_of next q from))

  -- 8.4

  two_arrive : (a b : Piece) → Arrives a → Arrives b → Arrives (P.seq a b)
  two_arrive a b f g c base from = ap (λ o. behind links next b c base (end_of next a from) o) (f c base from) ∙ g c base (end_of next a from)

  finally_arrives : (st : Stm) (ss : Stms) (tried part : Piece) (k : ℕ) → Arrives part → Arrives (ensured_piece (more st ss) tried (P.numbered k (P.closed part)))
  unfolding effect_of
  finally_arrives st ss tried part k h c base from =
      let begins = next (end_of next tried from) in
      let held = pending begins c.loop in
      ap (λ o. behind_op links (P.plain instr.EndFinally) (next (end_of next part begins)) c.loop o)
      (ap (λ z. behind links next part (with_none c) z begins (Some (held ∷ base))) (deepened_is [] held base) ∙ h (with_none c) (held ∷ base) begins)

  abbrev guarded_by : (body other handlers : Piece) (k : ℕ) → Piece
  guarded_by body other handlers k = P.seq (P.caught (P.closed body) (P.seq (P.numbered k (P.closed other)) (P.move (P.to Jumps 0)))) handlers

  some_first : (o s : Option StackMap) (t : Bool) (B C : StackMap) → or_else o (or_else (Some C) s) ≡ goes_if t B → t ≡ true
  some_first (Some x) s t B C e = true_of t B x (sym e)
  some_first None s t B C e = true_of t B C (sym e)

  some_last : (o s : Option StackMap) (t : Bool) (B C : StackMap) → or_else o (or_else s (Some C)) ≡ goes_if t B → t ≡ true
  some_last (Some x) s t B C e = true_of t B x (sym e)
  some_last None (Some x) t B C e = true_of t B x (sym e)
  some_last None None t B C e = true_of t B C (sym e)

  -- what it sends to label 0, from the slot of the tests
  abbrev SendsAll : Piece → Type 0
  SendsAll q = (c : Setting) (base : StackMap) (from p : ℕ) → (let f = flow links next q c base from (Some (exception p ∷ base)) in f.sent 0) ≡ Some base

  -- the body and its `else` part go on, and so they come to the end
  body_ends : (body other handlers : Piece) (k : ℕ) → outs (P.block (guarded_by body other handlers k)) → Arrives body → Arrives other → Arrives (P.block (guarded_by body other handlers k))
  unfolding effect_of
  body_ends body other handlers k f a h c base from =
      let inner = with_label (end_of next (guarded_by body other handlers k) from) c in
      let u : Out links next (P.block (guarded_by body other handlers k)) c [] base from = f c [] base from in
      let skipped = P.seq (P.numbered k (P.closed other)) (P.move (P.to Jumps 0)) in
      let caught : Piece = P.caught (P.closed body) skipped in
      let sends : (let g = flow links next skipped inner base (end_of next body from) (Some base) in g.sent 0) ≡ Some base =
      ap (λ o. to_one (P.to Jumps 0) (aside_op links (P.to Jumps 0) o) 0) (h (with_none inner) base (end_of next body from)) in
      let sent : (let g = flow links next caught inner base from (Some base) in g.sent 0) ≡ Some base =
      ap (λ o. let g = flow links next skipped inner base (end_of next body from) o in g.sent 0) (a (with_none inner) base from) ∙ sends in
      let on : u.goes_on ≡ true = some_first (behind links next (guarded_by body other handlers k) inner base from (Some base))
      (let g = flow links next handlers inner base (end_of next caught from) (behind links next caught inner base from (Some base)) in g.sent 0) u.goes_on base base
      (ap (λ o. or_else (behind links next (guarded_by body other handlers k) inner base from (Some base))
      (or_else o (let g = flow links next handlers inner base (end_of next caught from) (behind links next caught inner base from (Some base)) in g.sent 0))) (sym sent) ∙ (u.goes).behind) in
      (u.goes).behind ∙ ap (λ t. goes_if t base) on

  -- a handler goes on, and so it comes to the end
  handlers_end : (body other handlers : Piece) (k : ℕ) → outs (P.block (guarded_by body other handlers k)) → is_empty body ≡ false → SendsAll handlers
      → Arrives (P.block (guarded_by body other handlers k))
  handlers_end body other handlers k f some h c base from =
      let inner = with_label (end_of next (guarded_by body other handlers k) from) c in
      let u : Out links next (P.block (guarded_by body other handlers k)) c [] base from = f c [] base from in
      let caught : Piece = P.caught (P.closed body) (P.seq (P.numbered k (P.closed other)) (P.move (P.to Jumps 0))) in
      let tests = end_of next caught from in
      let start : behind links next caught inner base from (Some base) ≡ Some (exception tests ∷ base) = ap (λ t. if t then None else Some (exception tests ∷ base)) some in
      let sent : (let g = flow links next handlers inner base tests (behind links next caught inner base from (Some base)) in g.sent 0) ≡ Some base =
      ap (λ o. let g = flow links next handlers inner base tests o in g.sent 0) start ∙ h inner base tests tests in
      let on : u.goes_on ≡ true = some_last (behind links next (guarded_by body other handlers k) inner base from (Some base)) (let g = flow links next caught inner base from (Some base) in g.sent 0)
      u.goes_on base base
      (ap (λ o. or_else (behind links next (guarded_by body other handlers k) inner base from (Some base)) (or_else (let g = flow links next caught inner base from (Some base) in g.sent 0) o)) (sym sent)
      ∙ (u.goes).behind) in
      (u.goes).behind ∙ ap (λ t. goes_if t base) on

  -- 8.4.1

  -- a handler behind its Match, whose body goes on
  handled_none : (l n : ℕ) (body : ℕ → Piece) → outs (body (n + 1)) → Arrives (body (n + 1)) → (c : Setting) (base : StackMap) (from p : ℕ)
      → Goes links next (handled_piece around l n None body) c (Some (exception p ∷ base) ∷ Some base ∷ []) base from (exception p ∷ base) None (to_one (P.to Jumps 1) (Some base))
  unfolding effect_of
  handled_none l n body f a c base from p =
      let slot = exception (next from) in
      let u : Out links next (body (n + 1)) (with_none c) [] (slot ∷ base) (next (next from)) = f _ _ _ _ in
      let g : Goes links next (body (n + 1)) (with_none c) [] (slot ∷ base) (next (next from)) (slot ∷ base) (Some (slot ∷ base)) u.sent =
      subst (λ t. Goes links next (body (n + 1)) (with_none c) [] (slot ∷ base) (next (next from)) (slot ∷ base) (goes_if t (slot ∷ base)) u.sent) (goes_past u a) u.goes in
      both (move_of (catches p base (over_itself base))) (both (move_of (takes_one refl tt (slot ∷ base) (over_more slot (over_itself base))))
      (both (deeper_by_one [] slot (in_closed g)) (both (move_of (ends_handler (next from) base (over_itself base))) (move_of (jumps 1 base (over_itself base) refl)))))

  handled_some : (l n : ℕ) (y : Name) (body : ℕ → Piece) → outs (body (n + 1 + 1)) → (c : Setting) (base : StackMap) (from p : ℕ)
      → (σ : ℕ → Option StackMap) × Goes links next (handled_piece around l n (Some y) body) c (Some (exception p ∷ base) ∷ Some base ∷ []) base from (exception p ∷ base) None σ
      × (σ 1 ≡ Some base)
  unfolding effect_of
  handled_some l n y body f c base from p =
      let z = around.variable [] y in
      let slot = exception (next from) in
      let start = next (next from) in
      let after = next (end_of next (body (n + 1 + 1)) start) in
      let held = pending after c.loop in
      let u : Out links next (body (n + 1 + 1)) (with_none c) [] (slot ∷ base) start = f _ _ _ _ in (
        _,
        both (move_of (catches p base (over_itself base))) (both (stored around links next cells captures y (n + 1) l (slot ∷ base) (over_more slot (over_itself base)))
            (both (deeper_by_one [] slot (in_row (over_itself (slot ∷ base)) u.goes (ends_if u.goes_on (slot ∷ base))))
            (both (null around links next cells captures (held ∷ slot ∷ base) (over_more held (over_more slot (over_itself base))))
            (both (move_of (stores z.scope z.name (held ∷ slot ∷ base) (over_more held (over_more slot (over_itself base)))))
            (both (move_of (deletes z.scope z.name (held ∷ slot ∷ base) (over_more held (over_more slot (over_itself base)))))
            (both (move_of (ends_finally after (slot ∷ base) (over_more slot (over_itself base)))) (both (move_of (ends_handler (next from) base (over_itself base)))
            (move_of (jumps 1 base (over_itself base) refl))))))))),
        refl,
      )

  abbrev pub handler_piece : (class : Piece) (l n : ℕ) (y : Option Name) (body : ℕ → Piece) → Piece
  handler_piece class l n y body =
      P.block (P.seq class (P.seq (P.act (P.plain instr.Match) n l false) (P.seq (P.move (P.to IfFalse 0)) (handled_piece around l n y body))))

  abbrev pub Classes : Piece → Type 0
  Classes q = (F : StackMap) (c : Setting) (Ls : List (Option StackMap)) (base : StackMap) (from : ℕ) → Over base F → Goes links next q c Ls base from F (Some (value ∷ F)) to_none

  -- the rest stands behind a handler, which sends this
  pub record Handled (q : Piece) (c : Setting) (base : StackMap) (from p : ℕ) (o : Option StackMap) : Type 0 where
    pub behind : behind links next q c base from (Some (exception p ∷ base)) ≡ Some (exception p ∷ base)
    pub sent : (let f = flow links next q c base from (Some (exception p ∷ base)) in f.sent 0) ≡ o

  pub handled : (class : Piece) (l n : ℕ) (y : Option Name) (body : ℕ → Piece) → Classes class → (c : Setting) (base : StackMap) (from p : ℕ) {σ : ℕ → Option StackMap}
      → Goes links next (handled_piece around l n y body) (with_label (end_of next (P.seq class (P.seq (P.act (P.plain instr.Match) n l false) (P.seq (P.move (P.to IfFalse 0))
      (handled_piece around l n y body)))) from) c) (Some (exception p ∷ base) ∷ Some base ∷ []) base (next (next (end_of next class from))) (exception p ∷ base) None σ
      → Handled (handler_piece class l n y body) c base from p (σ 1)
  unfolding effect_of
  handled class l n y body k c base from p {σ} g =
      let whole : Goes links next (handler_piece class l n y body) c (Some base ∷ []) base from (exception p ∷ base) (Some (exception p ∷ base)) _ =
      in_block {r = Some (exception p ∷ base)} (both (k (exception p ∷ base) _ _ _ _ (over_more (exception p) (over_itself base))) (both (act_of (matches p base (over_itself base)))
      (both (move_of (tests_false 0 (exception p ∷ base) (over_more (exception p) (over_itself base)) refl)) g))) refl in
      record { behind = whole.behind; sent = whole.sent 0 }

  -- a handler goes on, or one behind it does
  this_sends : (class : Piece) (l n : ℕ) (y : Option Name) (body : ℕ → Piece) (rest : Piece) → Classes class → is_bound y ≡ true → ((m : ℕ) → m ≡ handler_body n y → outs (body m))
      → SendsAll (P.seq (handler_piece class l n y body) rest)
  this_sends class l n None body rest k b f c base from p = absurd (false≢true b)
  this_sends class l n (Some y) body rest k b f c base from p =
      let (σ, g, e) = handled_some l n y body (f (n + 1 + 1) refl) _ base (next (next (end_of next class from))) p in
      let h = handled class l n (Some y) body k c base from p g in
      ap (λ o. or_else o (let g = flow links next rest c base (end_of next (handler_piece class l n (Some y) body) from)
      (behind links next (handler_piece class l n (Some y) body) c base from (Some (exception p ∷ base))) in g.sent 0)) (h.sent ∙ e)

  body_sends : (class : Piece) (l n : ℕ) (y : Option Name) (body : ℕ → Piece) (rest : Piece) → Classes class → ((m : ℕ) → m ≡ handler_body n y → outs (body m))
      → ((m : ℕ) → m ≡ handler_body n y → Arrives (body m)) → SendsAll (P.seq (handler_piece class l n y body) rest)
  body_sends class l n (Some y) body rest k f a c base from p = this_sends class l n (Some y) body rest k refl f c base from p
  body_sends class l n None body rest k f a c base from p =
      let h = handled class l n None body k c base from p (handled_none l n body (f (n + 1) refl) (a (n + 1) refl) _ base (next (next (end_of next class from))) p) in
      ap (λ o. or_else o (let g = flow links next rest c base (end_of next (handler_piece class l n None body) from)
      (behind links next (handler_piece class l n None body) c base from (Some (exception p ∷ base))) in g.sent 0)) h.sent

  rest_sends : (class : Piece) (l n : ℕ) (y : Option Name) (body : Stms) (rest : Piece) → Classes class → ((m : ℕ) → m ≡ handler_body n y → outs (all_piece around body m free))
      → SendsAll rest → SendsAll (P.seq (handler_piece class l n y (λ m. all_piece around body m free)) rest)
  rest_sends class l n y body rest k f a c base from p =
      let made : ℕ → Piece = λ m. all_piece around body m free in
      let q = handler_piece class l n y made in
      let u = statements.handled around links next cells captures l n y made f in
      let h = handled class l n y made k c base from p (u.goes (Some (exception p ∷ base) ∷ Some base ∷ []) (λ t. refl)) in
      ap (λ o. or_else (let g = flow links next q c base from (Some (exception p ∷ base)) in g.sent 0) (let g = flow links next rest c base (end_of next q from) o in g.sent 0)) h.behind
      ∙ (ap (λ o. or_else o (let g = flow links next rest c base (end_of next q from) (Some (exception p ∷ base)) in g.sent 0)) h.sent
      ∙ (ap (λ o. or_else (goes_if u.sends base) o) (a c base (end_of next q from) p) ∙ or_some u.sends base))

  one_sends : (class : Piece) (l n : ℕ) (y : Option Name) (body : Stms) (rest : Piece) (more_go : Bool) → Classes class → ((m : ℕ) → m ≡ handler_body n y → outs (all_piece around body m free))
      → (all_go_on body ≡ true → (m : ℕ) → m ≡ handler_body n y → Arrives (all_piece around body m free)) → (more_go ≡ true → SendsAll rest)
      → ((is_bound y || all_go_on body) || more_go) ≡ true → SendsAll (P.seq (handler_piece class l n y (λ m. all_piece around body m free)) rest)
  one_sends class l n y body rest g k f a r e = by (is_bound y) refl (all_go_on body) refl e
    where
      by : (s : Bool) → is_bound y ≡ s → (t : Bool) → all_go_on body ≡ t → ((s || t) || g) ≡ true → SendsAll (P.seq (handler_piece class l n y (λ m. all_piece around body m free)) rest)
      by true i t j e = this_sends class l n y (λ m. all_piece around body m free) rest k i f
      by false i true j e = body_sends class l n y (λ m. all_piece around body m free) rest k f (a j)
      by false i false j e = rest_sends class l n y body rest k f (r e)

  -- 8.5

  item_arrives : (l : ℕ) (e : Exp) (t : Option Tgt) (rest : Piece) (k n : ℕ) → Value_named around e n → outs rest → Taken_named around links next cells captures t (n + size e + 1)
      → Arrives (P.seq (value_piece around e n) (P.seq (P.act (P.plain instr.Enter) (n + size e) l false)
      (P.seq (P.deeper 1 (P.ensured (P.seq (taken_piece around t (n + size e + 1)) rest)))
      (P.seq (P.act (P.plain instr.Exit) k l false) (P.move (P.plain instr.EndFinally))))))
  item_arrives l e t rest k n h f j c base from =
      let start = next (end_of next (value_piece around e n) from) in
      let slot = exit start in
      let ended = next (end_of next (P.seq (taken_piece around t (n + size e + 1)) rest) start) in
      let u : Out links next rest (with_none c) [] (slot ∷ base) (end_of next (taken_piece around t (n + size e + 1)) start) = f _ _ _ _ in
      arrived (P.seq (value_piece around e n) (P.seq (P.act (P.plain instr.Enter) (n + size e) l false)
      (P.seq (P.deeper 1 (P.ensured (P.seq (taken_piece around t (n + size e + 1)) rest)))
      (P.seq (P.act (P.plain instr.Exit) k l false) (P.move (P.plain instr.EndFinally)))))) c base from (both (val around links next cells captures e n h base (over_itself base)) (both (act_of (enters base (over_itself base))) (both (deeper_by_one (value ∷ []) slot
      (in_row (over_more value (over_itself (slot ∷ base))) (both (taken_so around links next cells captures t (n + size e + 1) j (slot ∷ base) (over_itself (slot ∷ base))) u.goes) (ends_if u.goes_on (slot ∷ base))))
      (both (act_of (exits_part ended start base (over_itself base))) (move_of (ends_finally (next ended) base (over_itself base)))))))

  items_arrive : (is : Items) (body : ℕ → Piece) (N : ℕ → Type 0) → HasItem is → ((m : ℕ) → N m → outs (body m)) → (k n : ℕ) → Items_named around is N n → Arrives (items_piece around is body k n)
  items_arrive S.no_items body N z f k n h = absurd z
  items_arrive (S.with_item l e None r) body N z f k n h =
      item_arrives l e None (items_piece around r body k (n + size e + 1)) (n + size e + 1 + items_size r k) n h.0
      (λ c Ls base from. statements.items around links next cells captures r body N f k (n + size e + 1) h.1) tt
  items_arrive (S.with_item l e (Some t) r) body N z f k n h =
      item_arrives l e (Some t) (items_piece around r body k (n + size e + 1 + target_size t)) (n + size e + 1 + target_size t + items_size r k) n h.0
      (λ c Ls base from. statements.items around links next cells captures r body N f k (n + size e + 1 + target_size t) h.2) h.1

  -- An instruction stands in the code of each statement.

  or_none : (o p s : Option StackMap) → o ≡ s → p ≡ None → or_else o p ≡ s
  or_none (Some x) p s e f = e
  or_none None p s e f = f ∙ e

  nothing_kept : (q : Piece) (c : Setting) (base : StackMap) (from : ℕ) (s : Option StackMap) → IsPlain q → is_empty q ≡ true
      → (behind links next q c base from s ≡ s) × ((k : ℕ) → (let f = flow links next q c base from s in f.sent k) ≡ None)
  nothing_kept P.empty c base from s h e = (refl, λ k. refl)
  nothing_kept (P.act op n l g) c base from s h e = absurd (false≢true e)
  nothing_kept (P.move op) c base from s h e = absurd (false≢true e)
  nothing_kept (P.seq a b) c base from s h e =
      let g = both_true (is_empty a) (is_empty b) e in
      let u = nothing_kept a c base from s h.0 g.0 in
      let v = nothing_kept b c base (end_of next a from) s h.1 g.1 in (
        ap (λ o. behind links next b c base (end_of next a from) o) u.0 ∙ v.0,
        λ k. ap (λ o. or_else (let f = flow links next a c base from s in f.sent k) (let f = flow links next b c base (end_of next a from) o in f.sent k)) u.0
            ∙ (ap (λ o. or_else o (let f = flow links next b c base (end_of next a from) s in f.sent k)) (u.1 k) ∙ v.1 k),
      )
  nothing_kept (P.block q) c base from s h e =
      let u = nothing_kept q (with_label (end_of next q from) c) base from s h e in
      (or_none _ _ s u.0 (u.1 0), λ k. u.1 (suc k))
  nothing_kept (P.headed q) c base from s h e = let u = nothing_kept q (with_label from c) base from s h e in (u.0, λ k. u.1 (suc k))
  nothing_kept (P.closed q) c base from s h e = ((nothing_kept q (with_none c) base from s h e).0, λ k. refl)
  nothing_kept (P.looped k q) c base from s h e = absurd h
  nothing_kept (P.leave x n l) c base from s h e = absurd h
  nothing_kept (P.ensured q) c base from s h e = absurd h
  nothing_kept (P.caught q r) c base from s h e = absurd h
  nothing_kept (P.deeper k q) c base from s h e = nothing_kept q c (deepened k base s) from s h e
  nothing_kept (P.started l q) c base from s h e = absurd h
  nothing_kept (P.numbered n q) c base from s h e = nothing_kept q c base from s h e

  value_stands : (e : Exp) (n : ℕ) → Value_named around e n → is_empty (value_piece around e n) ≡ false
  value_stands e n h = by (is_empty (value_piece around e n)) refl
    where
      nowhere : Setting
      nowhere = record { labels = []; loop = None }

      given : behind links next (value_piece around e n) nowhere [] 0 (Some []) ≡ Some (value ∷ [])
      given = (val around links next cells captures e n h [] {c = nowhere} {Ls = []} {base = []} {from = 0} (over_itself [])).behind

      by : (t : Bool) → is_empty (value_piece around e n) ≡ t → t ≡ false
      by true f =
          let k : Some [] ≡ Some (value ∷ []) = sym (nothing_kept (value_piece around e n) nowhere [] 0 (Some []) (val_plain around e n) f).0 ∙ given in
          absurd (let j : 0 ≡ 1 = ap length (is_some_of k) in omega (arith, j))
      by false f = refl

  left_false : (s t : Bool) → s ≡ false → (s && t) ≡ false
  left_false s t e = ap (λ x. x && t) e

  deleted_stands : (ps : List Place) (n : ℕ) → All_deleted_named around ps n → is_nowhere ps ≡ false → is_empty (all_deleted_piece around ps n) ≡ false
  deleted_stands [] n h f = absurd (true≢false f)
  deleted_stands (S.name_at l y ∷ ps) n h f = refl
  deleted_stands (S.attribute_at l a y ∷ ps) n h f = left_false _ _ (left_false _ _ (value_stands a n h.0))
  deleted_stands (S.item_at l a i ∷ ps) n h f = left_false _ _ (left_false _ _ (value_stands a n (h.0).0))

  abbrev Made_named : Definition → ℕ → Type 0
  Made_named (a_function b ps) n = Parameters_named around ps n
  Made_named (a_class b base) n = Opt_named around base n

  defined_stands : (ds : Decorators) (what : Definition) (ks : List ℕ) (l n : ℕ) (y : Name) → Definition_named around ds (Made_named what) n
      → is_empty (defined_piece around ds what ks l n y) ≡ false
  defined_stands S.no_decorators (a_function b (S.parameters ps s qs d)) ks l n y h =
      left_false _ _ (value_stands (S.lambda l b (S.parameters ps s qs d) (S.constant l constant.None)) n h)
  defined_stands S.no_decorators (a_class b S.absent) ks l n y h = refl
  defined_stands S.no_decorators (a_class b (S.given e)) ks l n y h = left_false _ _ (value_stands e n h)
  defined_stands (S.decorator j e r) what ks l n y h = left_false _ _ (value_stands e n h.0)

  stands : (st : Stm) (n : ℕ) (w : Behind) → Stm_named around st n → is_silent st ≡ false → is_empty (stm_piece around st n w) ≡ false
  stands (S.expr l e) n w h f = left_false _ _ (value_stands e n h)
  stands (S.assign l ts e) n w h f = left_false _ _ (value_stands e n h.0)
  stands (S.augmented l (S.name_at k y) o e) n w h f = refl
  stands (S.augmented l (S.attribute_at k a y) o e) n w h f = left_false _ _ (value_stands a n h.0)
  stands (S.augmented l (S.item_at k a i) o e) n w h f = left_false _ _ (value_stands a n h.0)
  stands (S.annotated l p a S.absent) n w h f = refl
  stands (S.annotated l p a (S.given e)) n w h f = left_false _ _ (value_stands e n h.0)
  stands (S.assert l e m) n w h f = left_false _ _ (value_stands e n h.0)
  stands (S.pass l) n w h f = refl
  stands (S.del l ts) n w h f = deleted_stands (all_places ts) n h f
  stands (S.return l S.absent) n w h f = refl
  stands (S.return l (S.given e)) n w h f = left_false _ _ (value_stands e n h)
  stands (S.raise l e d) n w h f = left_false _ _ (value_stands e n h.0)
  stands (S.raise_again l) n w h f = refl
  stands (S.break l) n w h f = refl
  stands (S.continue l) n w h f = refl
  stands (S.import l []) n w h f = absurd (true≢false f)
  stands (S.import l (a ∷ as')) n w h f = refl
  stands (S.import_from l m xs) n w h f = refl
  stands (S.global l xs) n w h f = absurd (true≢false f)
  stands (S.nonlocal l xs) n w h f = absurd (true≢false f)
  stands (S.docstring l) n w h f = absurd (true≢false f)
  stands (S.def l ds k b y ps a body) n w h f = defined_stands ds (a_function b ps) [] k n y h
  stands (S.class l ds k b y super body) n w h f = defined_stands ds (a_class b super) [] k n y h
  stands (S.choice l S.no_branches els) n w h f = absurd (true≢false f)
  stands (S.choice l (S.branch k x body r) els) n w h f = left_false _ _ (left_false _ _ (value_stands x n h.0))
  stands (S.while l e body els) n w h f = left_false _ _ (left_false _ _ (value_stands e n h.0))
  stands (S.for l t it body els) n w h f = left_false _ _ (left_false _ _ (value_stands it n h.0))
  stands (S.try l body hs els fin) n w h f = refl
  stands (S.with l S.no_items body) n w h f = absurd (true≢false f)
  stands (S.with l (S.with_item k e None r) body) n w h f = left_false _ _ (value_stands e n h.0)
  stands (S.with l (S.with_item k e (Some t) r) body) n w h f = left_false _ _ (value_stands e n h.0)

  begun_stands : (st : Stm) (w : Behind) (p : Piece) → (is_silent st ≡ false → is_empty p ≡ false) → is_empty (begun_piece st w p) ≡ false
  begun_stands st w p f = by (is_silent st) refl (leaves st && is_needed w)
    where
      by : (s : Bool) → is_silent st ≡ s → (t : Bool)
          → is_empty (if s then begun_piece (S.global 0 []) w p else if t then begun_piece (S.raise_again 0) needed p else p) ≡ false
      by true e t = refl
      by false e true = refl
      by false e false = f e

  pub body_stands : (ss : Stms) (n : ℕ) (w : Behind) → HasStatement ss → All_named around ss n → is_empty (all_piece around ss n w) ≡ false
  body_stands none n w h g = absurd h
  body_stands (more st ss) n w h g =
      left_false _ _ (begun_stands st (in_front ss w) (stm_piece around st n (in_front ss w)) (λ e. stands st n (in_front ss w) g.0 e))

  -- Statements.

  loop_must : (w : Behind) (b g : Bool) → must w (b || g) ≡ true → must (behind_loop b w) g ≡ true
  loop_must needed true g h = refl
  loop_must needed false g h = refl
  loop_must free true g h = refl
  loop_must free false g h = h
  loop_must reached b g h = absurd (false≢true h)

  -- a branch goes on, or the `else` part must
  choice_must : (w : Behind) (b g : Bool) → must w (b || g) ≡ true → b ≡ false → must (behind_branches b w) g ≡ true
  choice_must w true g h e = absurd (true≢false e)
  choice_must needed false g h e = refl
  choice_must free false g h e = h
  choice_must reached false g h e = h

  needed_must : (w : Behind) (g : Bool) → must w g ≡ true → must (needed_if (is_needed w)) g ≡ true
  needed_must needed g h = refl
  needed_must free g h = h
  needed_must reached g h = absurd (false≢true h)

  abbrev outs_of : (ss : Stms) (n : ℕ) (w : Behind) → All_named around ss n → outs (all_piece around ss n w)
  outs_of ss n w h = all around links next cells captures ss n w h

  one_more : (st : Stm) (ss : Stms) (n : ℕ) (w : Behind) → Arrives (begun_piece st (in_front ss w) (stm_piece around st n (in_front ss w)))
      → Arrives (all_piece around ss (n + stm_size st) w) → Arrives (all_piece around (more st ss) n w)
  one_more st ss n w f g c base from =
      let first = P.started (starts_on st) (begun_piece st (in_front ss w) (stm_piece around st n (in_front ss w))) in
      ap (λ o. behind links next (all_piece around ss (n + stm_size st) w) c base (end_of next first from) o) (f c base from) ∙ g c base (end_of next first from)

  or_false : (s t : Bool) → t ≡ false → (s || t) ≡ s
  or_false true t e = refl
  or_false false t e = e

  tried_must : (w : Behind) (g t : Bool) → must w (g || t) ≡ true → t ≡ false → must (needed_if (is_needed w && not t)) g ≡ true
  tried_must w g true h e = absurd (true≢false e)
  tried_must needed g false h e = refl
  tried_must free true false h e = refl
  tried_must free false false h e = h
  tried_must reached g false h e = absurd (false≢true h)

  -- a `try` without a `finally` part: its body and its `else` part go on, or a handler does
  guarded_arrives : (hs : Handlers) (body other handlers : Piece) (k : ℕ) → outs (guarded_piece hs (P.closed body) (P.numbered k (P.closed other)) handlers) → is_empty body ≡ false
      → (some_handler_goes_on hs ≡ false → Arrives body × Arrives other) → (some_handler_goes_on hs ≡ true → SendsAll handlers)
      → Arrives (guarded_piece hs (P.closed body) (P.numbered k (P.closed other)) handlers)
  guarded_arrives S.no_handlers body other handlers k f some a h =
      let b = a refl in two_arrive (P.closed body) (P.numbered k (P.closed other)) (λ c base from. b.0 (with_none c) base from) (λ c base from. b.1 (with_none c) base from)
  guarded_arrives (S.handler l x y q r) body other handlers k f some a h = by (some_handler_goes_on (S.handler l x y q r)) refl
    where
      by : (t : Bool) → some_handler_goes_on (S.handler l x y q r) ≡ t → Arrives (P.block (guarded_by body other handlers k))
      by true e = handlers_end body other handlers k f some (h e)
      by false e = let b = a e in body_ends body other handlers k f b.0 b.1

  -- where no handler goes on
  tried_body : (w : Behind) (body els : Stms) (t : Bool) → must w (either els (all_go_on body) (all_go_on els) || t) ≡ true → t ≡ false
      → must (in_front els (needed_if (is_needed w && not t))) (all_go_on body) ≡ true
  tried_body w body none t h e = tried_must w (all_go_on body) t h e
  tried_body w body (more st ss) t h e = refl

  tried_else : (w : Behind) (body els : Stms) (t : Bool) → must w (either els (all_go_on body) (all_go_on els) || t) ≡ true → t ≡ false
      → MustAll (needed_if (is_needed w && not t)) els
  tried_else w body none t h e = tt
  tried_else w body (more st ss) t h e = tried_must w (all_go_on (more st ss)) t h e

  -- what is behind them where there are handlers, and where there are none
  tried_with : (hs : Handlers) (w : Behind) (body els : Stms) → must w (either els (all_go_on body) (all_go_on els) || some_handler_goes_on hs) ≡ true → some_handler_goes_on hs ≡ false
      → (must (in_front els (behind_tried hs none w)) (all_go_on body) ≡ true) × MustAll (behind_tried hs none w) els
  tried_with S.no_handlers w body none h e = (subst (λ g. must w g ≡ true) (or_false (all_go_on body) false refl) h, tt)
  tried_with S.no_handlers w body (more st ss) h e = (refl, subst (λ g. must w g ≡ true) (or_false (all_go_on (more st ss)) false refl) h)
  tried_with (S.handler l x y q r) w body els h e =
      (tried_body w body els (some_handler_goes_on (S.handler l x y q r)) h e, tried_else w body els (some_handler_goes_on (S.handler l x y q r)) h e)

  after_nop : (q : Piece) (n l : ℕ) → Arrives q → Arrives (P.seq (P.act (P.plain instr.Nop) n l false) q)
  unfolding effect_of
  after_nop q n l h c base from = h c base (next from)

  choose : {X : Type 0} (b : Bool) → (b ≡ false → X) → (b ≡ true) ⊎ X
  choose true f = inl refl
  choose false f = inr (f refl)

  decide : {X R : Type 0} (s t : Bool) → ((s || t) ≡ true) ⊎ X → (s ≡ true → R) → ((t ≡ true) ⊎ X → R) → R
  decide true t (inl e) f g = f refl
  decide false t (inl e) f g = g (inl e)
  decide s t (inr x) f g = g (inr x)

  branches_go : (bs : Branches) (els : Stms) (w : Behind) (n : ℕ) → Branches_named around bs (λ m. All_named around els m) n → (c : Setting) (base : StackMap) (from : ℕ)
      → (t : Bool) × (behind links next (branches_piece around bs n (λ k. P.closed (all_piece around els k w))) c base from (Some base) ≡ goes_if t base)
  branches_go bs els w n h c base from =
      let u : Branching around links next cells captures (branches_piece around bs n (λ k. P.closed (all_piece around els k w))) c [] base from =
      statements.branches around links next cells captures bs els w (λ k i. outs_of els k w i) n h c [] base from in
      (u.goes_on, (u.goes (goes_if u.sends base) (λ t. ap (λ s. goes_if s base) t)).behind)

  first_then : (st : Stm) (ss : Stms) (n : ℕ) (w : Behind) → must w (all_go_on (more st ss)) ≡ true
      → (must (in_front ss w) (goes_on st) ≡ true → Arrives (begun_piece st (in_front ss w) (stm_piece around st n (in_front ss w))))
      → (MustAll w ss → Arrives (all_piece around ss (n + stm_size st) w)) → Arrives (all_piece around (more st ss) n w)
  first_then st none n w m f g = one_more st none n w (f m) (g tt)
  first_then st (more u ss) n w m f g = one_more st (more u ss) n w (f refl) (g m)

  tries_arrive : (l n : ℕ) (body : Stms) (hs : Handlers) (els fin : Stms) (w : Behind) → Stm_named around (S.try l body hs els fin) n → HasStatement body
      → must w (goes_on (S.try l body hs els fin)) ≡ true
      → (must (in_front els (behind_tried hs fin w)) (all_go_on body) ≡ true → Arrives (all_piece around body (n + 1) (in_front els (behind_tried hs fin w))))
      → (MustAll (behind_tried hs fin w) els → Arrives (all_piece around els (try_else n body hs) (behind_tried hs fin w)))
      → (MustAll (needed_if (is_needed w)) fin → Arrives (all_piece around fin (try_finally n body hs els) (needed_if (is_needed w))))
      → (some_handler_goes_on hs ≡ true → SendsAll (handlers_piece around hs (try_handlers n body))) → Arrives (stm_piece around (S.try l body hs els fin) n w)
  tries_arrive l n body hs els none w h p m f g k s =
      let tried = all_piece around body (n + 1) (in_front els (behind_tried hs none w)) in
      let other = all_piece around els (try_else n body hs) (behind_tried hs none w) in
      let caught_by = P.numbered (try_handlers n body) (handlers_piece around hs (try_handlers n body)) in
      let whole = guarded_piece hs (P.closed tried) (P.numbered (try_else n body hs) (P.closed other)) caught_by in
      after_nop (P.seq whole (P.numbered (try_finally n body hs els) (P.closed P.empty))) n l
      (two_arrive whole (P.numbered (try_finally n body hs els) (P.closed P.empty))
      (guarded_arrives hs tried other caught_by (try_else n body hs)
      (λ c Ls base from. statements.guarded around links next cells captures hs tried other caught_by (try_else n body hs) (outs_of body (n + 1) (in_front els (behind_tried hs none w)) h.0)
      (outs_of els (try_else n body hs) (behind_tried hs none w) h.2)
      (λ c Ls base from p. statements.counted around links next cells captures (statements.handlers around links next cells captures hs (try_handlers n body) h.1 c Ls base from p)))
      (body_stands body (n + 1) (in_front els (behind_tried hs none w)) p h.0)
      (λ i. let t = tried_with hs w body els m i in (f t.0, g t.1))
      (λ i c base from p. s i c base from p)) (λ c base from. refl))
  tries_arrive l n body hs els (more st ss) w h p m f g k s =
      let fin = more st ss in
      let tried = guarded_piece hs (P.closed (all_piece around body (n + 1) (in_front els (behind_tried hs fin w))))
      (P.numbered (try_else n body hs) (P.closed (all_piece around els (try_else n body hs) (behind_tried hs fin w)))) (P.numbered (try_handlers n body) (handlers_piece around hs (try_handlers n body))) in
      after_nop (ensured_piece fin tried (P.numbered (try_finally n body hs els) (P.closed (all_piece around fin (try_finally n body hs els) (needed_if (is_needed w)))))) n l
      (finally_arrives st ss tried (all_piece around fin (try_finally n body hs els) (needed_if (is_needed w))) (try_finally n body hs els) (k (needed_must w (all_go_on fin) m)))

  mutual
    pub stm_arrives : (st : Stm) (n : ℕ) (w : Behind) → Stm_named around st n → HasParts st → leaves st ≡ false → must w (goes_on st) ≡ true → Arrives (stm_piece around st n w)
    stm_arrives (S.choice l bs els) n w h p e m =
        let b = behind_branches (some_branch_goes_on bs) w in
        let ends = branches_end bs els b n h p.0 (choose (some_branch_goes_on bs)
        (λ i k j. all_arrives els k b j p.1 (must_all b els (choice_must w (some_branch_goes_on bs) (all_go_on els) m i)))) in
        λ c base from. ends (with_label (end_of next (branches_piece around bs n (λ k. P.closed (all_piece around els k b))) from) c) base from
    stm_arrives (S.while l x body els) n w h p e m =
        let q = all_piece around body (tested_body n x) (needed_if (some_exits Continue body)) in
        otherwise_arrives (P.block (while_tested around links next cells captures l n x q)) (all_piece around els (behind_body n x body) (behind_loop (some_exits Break body) w))
        (behind_body n x body)
        (λ c base from. ((while_test around links next cells captures l n x q h.0 (outs_of body (tested_body n x) (needed_if (some_exits Continue body)) h.1) c [] base from).goes).behind)
        (all_arrives els (behind_body n x body) (behind_loop (some_exits Break body) w) h.2 p.1
        (must_all (behind_loop (some_exits Break body) w) els (loop_must w (some_exits Break body) (all_go_on els) m)))
    stm_arrives (S.for l t it body els) n w h p e m =
        let q = all_piece around body (for_body (n + size it + 1) t) (needed_if (some_exits Continue body)) in
        otherwise_arrives (P.block (for_tested around links next cells captures l n t it q)) (all_piece around els (for_else (n + size it + 1) t body) (behind_loop (some_exits Break body) w))
        (for_else (n + size it + 1) t body)
        (λ c base from. ((for_test around links next cells captures l n t it q h.0 h.1 (outs_of body (for_body (n + size it + 1) t) (needed_if (some_exits Continue body)) h.2) c [] base from).goes).behind)
        (all_arrives els (for_else (n + size it + 1) t body) (behind_loop (some_exits Break body) w) h.3 p.1
        (must_all (behind_loop (some_exits Break body) w) els (loop_must w (some_exits Break body) (all_go_on els) m)))
    stm_arrives (S.try l body hs els fin) n w h p e m =
        let v = behind_tried hs fin w in
        tries_arrive l n body hs els fin w h p.0 m (λ q. all_arrives body (n + 1) (in_front els v) h.0 p.1 (must_all (in_front els v) body q))
        (λ q. all_arrives els (try_else n body hs) v h.2 p.3 q) (λ q. all_arrives fin (try_finally n body hs els) (needed_if (is_needed w)) h.3 p.4 q)
        (λ q. handlers_send hs (try_handlers n body) h.1 p.2 q)
    stm_arrives (S.with l is body) n w h p e m =
        items_arrive is (λ k. all_piece around body k free) (λ k. All_named around body k) p.0 (λ k i. outs_of body k free i) (stms_size body) n h
    stm_arrives st n w h p e m = simple st n w tt e h

    pub all_arrives : (ss : Stms) (n : ℕ) (w : Behind) → All_named around ss n → AllHaveParts ss → MustAll w ss → Arrives (all_piece around ss n w)
    all_arrives none n w h p m = λ c base from. refl
    all_arrives (more st ss) n w h p m =
        let v = in_front ss w in
        first_then st ss n w m (λ q. begun_arrives st v (stm_piece around st n v) q (statements.stm around links next cells captures st n v h.0) (λ e. stm_arrives st n v h.0 p.0 e q))
        (λ q. all_arrives ss (n + stm_size st) w h.1 p.1 q)

    branches_end : (bs : Branches) (els : Stms) (w : Behind) (n : ℕ) → Branches_named around bs (λ m. All_named around els m) n → BranchesHaveParts bs
        → (some_branch_goes_on bs ≡ true) ⊎ ((k : ℕ) → All_named around els k → Arrives (all_piece around els k w))
        → EndsAll (branches_piece around bs n (λ k. P.closed (all_piece around els k w)))
    branches_end S.no_branches els w n h p (inl e) = absurd (false≢true e)
    branches_end S.no_branches els w n h p (inr f) = no_branch (all_piece around els n w) (f n h)
    branches_end (S.branch l x body r) els w n h p f =
        let rest = branches_piece around r (behind_body n x body) (λ k. P.closed (all_piece around els k w)) in
        let one = one_branch l n x (all_piece around body (tested_body n x) free) rest h.0 (outs_of body (tested_body n x) free h.1)
        (branches_go r els w (behind_body n x body) h.2) in
        decide (all_go_on body) (some_branch_goes_on r) f (λ e. one.0 (all_arrives body (tested_body n x) free h.1 p.0 (must_all free body e)))
        (λ g. one.1 (branches_end r els w (behind_body n x body) h.2 p.1 g))

    handlers_send : (hs : Handlers) (n : ℕ) → Handlers_named around hs n → HandlersHaveParts hs → some_handler_goes_on hs ≡ true → SendsAll (handlers_piece around hs n)
    handlers_send S.no_handlers n h p e = absurd (false≢true e)
    handlers_send (S.handler l S.absent y body r) n h p e =
        one_sends null_piece l n y body (handlers_piece around r (handler_body n y + stms_size body)) (some_handler_goes_on r) (λ F c Ls base from o. null around links next cells captures F o)
        (λ m z. outs_of body m free (subst (λ k. All_named around body k) (sym z) h.0))
        (λ i m z. all_arrives body m free (subst (λ k. All_named around body k) (sym z) h.0) p.0 (must_all free body i))
        (λ i. handlers_send r (handler_body n y + stms_size body) h.1 p.1 i) e
    handlers_send (S.handler l (S.given x) y body r) n h p e =
        one_sends (value_piece around x n) l (n + size x) y body (handlers_piece around r (handler_body (n + size x) y + stms_size body)) (some_handler_goes_on r)
        (λ F c Ls base from o. val around links next cells captures x n h.0 F o)
        (λ m z. outs_of body m free (subst (λ k. All_named around body k) (sym z) h.1))
        (λ i m z. all_arrives body m free (subst (λ k. All_named around body k) (sym z) h.1) p.0 (must_all free body i))
        (λ i. handlers_send r (handler_body (n + size x) y + stms_size body) h.2 p.1 i) e
