-- Code goes on behind each statement behind which something must be reached: so some way comes to each statement of a block.
use Rattle.std.proofs.Common.{◌≡◌, ◌⊎◌, inl, inr, ℕ, ◌+◌, suc, Bool, true, false, not, ◌&&◌, ◌||◌, if◌then◌else◌, List, [], ◌∷◌, ◌++◌, length, Option, Some, None, refl, sym, ap, ◌∙◌, subst}
use Rattle.std.proofs.lemmas.Bool.{false≢true, true≢false}
use Rattle.pt_tree.specs.declared.expression.Constant.{Constant}
use Rattle.pt_tree.specs.declared.expression.Constant.TheVariants as constant
use Rattle.pt_tree.specs.Syntax as S
use Rattle.pt_tree.specs.Syntax.{Name, Exp, Tgt, Stm, Stms, Branches, Handlers, Items, none, more}
use Rattle.pt_tree.specs.Sizes.{size, stm_size, stms_size}
use Rattle.pt_instr.specs.declared.Instr.TheVariants as instr
use Rattle.pt_instr.specs.Effects.{effect_of}
use Rattle.sem_control.specs.control.Turn.{Around}
use Rattle.sem_control.specs.control.Frames.{a_function, a_class}
use Rattle.sem_control.specs.control.Statements.{all_places}
use Rattle.sem_control.specs.control.Numbers.{tested_body, behind_body, for_body, for_else, try_handlers, try_else, try_finally, handler_body}
use Rattle.pt_assembler.specs.declared.operation.Exit.TheVariants.{Break, Continue}
use Rattle.pt_assembler.specs.declared.operation.Jump.TheVariants.{Always as Jumps, IfFalse}
use Rattle.pt_assembler.specs.Piece as P
use Rattle.pt_assembler.specs.Piece.{Piece}
use Rattle.sem_compile.specs.emitter.Ops.{store}
use Rattle.sem_compile.specs.emitter.ExpPiece.{null_piece}
use Rattle.sem_fits.specs.fits.Block.{Links}
use Rattle.sem_code.specs.slots.Slots.{or_else}
use Rattle.sem_compile.specs.stm_pieces.Needed.{is_nowhere, some_exits, goes_on, all_go_on, some_branch_goes_on, some_handler_goes_on, either, is_bound, is_silent, leaves, Behind, needed, free, reached, is_needed, needed_if, in_front, behind_branches, behind_loop, behind_tried}
use Rattle.sem_compile.specs.stm_pieces.StmPiece.{delete, all_deleted_piece, defined_piece, begun_piece, value_piece, guarded_piece, ensured_piece, handled_piece, taken_piece, behind_taken, items_piece, stm_piece, all_piece, branches_piece, handlers_piece}
use Rattle.sem_compile.specs.stm_pieces.Names.{TakesCells, Value_named, Opt_named, All_deleted_named, Definition_named, Parameters_named, Items_named, Target_named, Stm_named, All_named, Branches_named, Handlers_named}
use Rattle.law_pieces.specs.piece_kinds.Walk.{Loop, Known, StackMap, behind_op, aside_op, to_none, to_one, is_empty, Setting, with_label, with_none, end_of, flow, behind, deepened}
use Rattle.law_pieces.specs.piece_kinds.Typed.{Over}
use Rattle.law_pieces.specs.piece_kinds.Laws.{outermost}
use Rattle.law_pieces.proofs.piece_kinds.ListLemmas.{over_itself, over_more}
use Rattle.law_pieces.proofs.piece_kinds.PieceLaw.{is_some_of, nothing}
use Rattle.law_typed_pieces.proofs.typed_pieces.Combine.{goes_if, Goes, deepened_is, act_of, move_of, both, in_closed, in_block, gives_one, value}
use Rattle.law_typed_pieces.proofs.typed_pieces.Plain.{IsPlain}
use Rattle.law_typed_pieces.proofs.typed_pieces.LeadsForms.{val_plain}
use Rattle.law_typed_pieces.proofs.typed_pieces.Operations.{stores, deletes}
use Rattle.law_typed_pieces.proofs.typed_pieces.Expressions.{tests_false, null}
use Rattle.law_typed_pieces.proofs.typed_pieces.Statements as statements
use Rattle.law_typed_pieces.proofs.typed_pieces.Statements.{exception, exit, pending, matches, Out, Branching, Handling, Handled, Tested, while_tested, while_test, for_tested, for_test, val, Outs, Handlings, HoldsNone, to_label}
use Rattle.law_parts.specs.part_slots.Text.{Grammatical, All_grammatical, Branches_grammatical, Handlers_grammatical}

-- what is asked of a statement: that it goes on, or nothing; code goes on where it is asked, and where the form of the statement does
abbrev pub Due : Behind → Bool → Type 0
Due needed t = Unit {0}
Due free t = t ≡ true
Due reached t = ⊥

or_false : (t : Bool) → (t || false) ≡ true → t ≡ true
or_false true e = refl
or_false false e = e

-- the `else` part of an `if` is due where no branch goes on, that of a loop always
by_branches : (t : Bool) (w : Behind) (u : Bool) → Due w (t || u) → (t ≡ true) ⊎ Due (behind_branches t w) u
by_branches true w u d = inl refl
by_branches false w u d = inr d

due_loop : (t : Bool) (w : Behind) (u : Bool) → Due w (t || u) → Due (behind_loop t w) u
due_loop true needed u d = tt
due_loop true free u d = tt
due_loop true reached u d = absurd d
due_loop false needed u d = tt
due_loop false free u d = d
due_loop false reached u d = absurd d

due_finally : (w : Behind) (u : Bool) → Due w u → Due (needed_if (is_needed w)) u
due_finally needed u d = tt
due_finally free u d = d
due_finally reached u d = absurd d

both_true : (s t : Bool) → (s && t) ≡ true → (s ≡ true) × (t ≡ true)
both_true true t e = (refl, e)
both_true false t e = absurd (false≢true e)

due_end : (w : Behind) (u : Bool) → Due w u → Due w true
due_end needed u d = tt
due_end free u d = refl
due_end reached u d = absurd d

-- the body of a `try` and its `else` part, behind which this is asked
due_tried : (els : Stms) (w : Behind) (u : Bool) → Due w (either els u (all_go_on els)) → Due (in_front els w) u × Due w (all_go_on els)
due_tried none w u d = (d, due_end w u d)
due_tried (more st ss) w u d = (tt, d)

-- with handlers, of which none goes on
due_guarded : (w : Behind) (u : Bool) → Due w (u || false) → Due (needed_if (is_needed w && true)) u
due_guarded needed u d = tt
due_guarded free u d = or_false u d
due_guarded reached u d = absurd d

due_bare : (w : Behind) (u : Bool) → Due w (u || false) → Due w u
due_bare needed u d = tt
due_bare free u d = or_false u d
due_bare reached u d = absurd d

-- what comes to the end of several parts
or_some : (t : Bool) (B : StackMap) → or_else (goes_if t B) (Some B) ≡ Some B
or_some true B = refl
or_some false B = refl

first_sent : (t : Bool) (B : StackMap) (o s : Option StackMap) → o ≡ Some B → or_else (goes_if t B) (or_else o s) ≡ Some B
first_sent t B o s e = ap (λ z. or_else (goes_if t B) (or_else z s)) e ∙ or_some t B

then_sent : (t u : Bool) (B : StackMap) (s : Option StackMap) → or_else (goes_if t B) s ≡ Some B → or_else (goes_if t B) (or_else (goes_if u B) s) ≡ Some B
then_sent true u B s e = refl
then_sent false true B s e = refl
then_sent false false B s e = e

module _ {A : Type 0} (around : Around A) (links : Links) (next : ℕ → ℕ) (cells : TakesCells around)
    (captures : (n : ℕ) → links.captures n ≡ length (around.captured n)) where
  abbrev sent_by : (q : Piece) (c : Setting) (base : StackMap) (from : ℕ) → Option StackMap → ℕ → Option StackMap
  sent_by q c base from s k = let f = flow links next q c base from s in f.sent k

  -- code goes on behind a piece from the slots of the parts around
  abbrev pub Ons : Piece → Type 0
  Ons q = (c : Setting) (base : StackMap) (from : ℕ) → behind links next q c base from (Some base) ≡ Some base

  pub behind_both : (a d : Piece) (c : Setting) (base : StackMap) (from : ℕ) (ks : StackMap) (o t : Option StackMap) → behind links next a c base from (Some ks) ≡ o
      → behind links next d c base (end_of next a from) o ≡ t → behind links next (P.seq a d) c base from (Some ks) ≡ t
  behind_both a d c base from ks o t e f = ap (λ s. behind links next d c base (end_of next a from) s) e ∙ f

  -- what is behind a piece, and what it sends to a label
  record Comes (q : Piece) (c : Setting) (base : StackMap) (from : ℕ) (ks : StackMap) (t : Option StackMap) : Type 0 where
    is : behind links next q c base from (Some ks) ≡ t

  record Sends (q : Piece) (c : Setting) (base : StackMap) (from : ℕ) (ks : StackMap) (k : ℕ) (t : Option StackMap) : Type 0 where
    is : sent_by q c base from (Some ks) k ≡ t

  comes_by : {a d : Piece} {c : Setting} {base : StackMap} {from : ℕ} {ks : StackMap} {t : Option StackMap} (ms : StackMap) → behind links next a c base from (Some ks) ≡ Some ms
      → Comes d c base (end_of next a from) ms t → Comes (P.seq a d) c base from ks t
  comes_by {a} {d} {c} {base} {from} {ks} {t} ms e w = record { is = behind_both a d c base from ks (Some ms) t e w.is }

  sends_by : {a d : Piece} {c : Setting} {base : StackMap} {from : ℕ} {ks : StackMap} {k : ℕ} {t : Option StackMap} (ms : StackMap) → behind links next a c base from (Some ks) ≡ Some ms
      → sent_by a c base from (Some ks) k ≡ None → Sends d c base (end_of next a from) ms k t → Sends (P.seq a d) c base from ks k t
  sends_by {a} {d} {c} {base} {from} {ks} {k} {t} ms e n w = record {
    is = ap (λ s. or_else s (sent_by d c base (end_of next a from) (behind links next a c base from (Some ks)) k)) n
        ∙ (ap (λ s. sent_by d c base (end_of next a from) s k) e ∙ w.is);
  }

  behind_block : (q : Piece) (c : Setting) (base : StackMap) (from : ℕ) (ks ms : StackMap) → behind links next q (with_label (end_of next q from) c) base from (Some ks) ≡ Some ms
      → behind links next (P.block q) c base from (Some ks) ≡ Some ms
  behind_block q c base from ks ms e = ap (λ o. or_else o (sent_by q (with_label (end_of next q from) c) base from (Some ks) 0)) e

  record Tells (q : Piece) (c : Setting) (Ls : List (Option StackMap)) (base : StackMap) (from : ℕ) (ks : StackMap) (t : Option StackMap) : Type 0 where
    sent : ℕ → Option StackMap
    goes : Goes links next q c Ls base from ks t sent
    behind : behind links next q c base from (Some ks) ≡ t

  told : {q : Piece} {c : Setting} {Ls : List (Option StackMap)} {base : StackMap} {from : ℕ} {ks : StackMap} {t : Option StackMap} {τ : ℕ → Option StackMap}
      → Goes links next q c Ls base from ks t τ → Tells q c Ls base from ks t
  told {τ = τ} g = record { sent = τ; goes = g; behind = g.behind }

  -- single instructions

  behind_nop : (p : ℕ) (x : Option Loop) (ks : StackMap) → behind_op links (P.plain instr.Nop) p x (Some ks) ≡ Some ks
  unfolding effect_of
  behind_nop p x ks = refl

  behind_const : (k : Constant) (p : ℕ) (x : Option Loop) (ks : StackMap) → behind_op links (P.const k) p x (Some ks) ≡ Some (value ∷ ks)
  unfolding effect_of
  behind_const k p x ks = refl

  behind_pop : (p : ℕ) (x : Option Loop) (ks : StackMap) → behind_op links (P.plain instr.Pop) p x (Some (value ∷ ks)) ≡ Some ks
  unfolding effect_of
  behind_pop p x ks = refl

  behind_enter : (p : ℕ) (x : Option Loop) (ks : StackMap) → behind_op links (P.plain instr.Enter) p x (Some (value ∷ ks)) ≡ Some (value ∷ exit p ∷ ks)
  unfolding effect_of
  behind_enter p x ks = refl

  behind_exit : (q w p : ℕ) (x : Option Loop) (ks : StackMap) → behind_op links (P.plain instr.Exit) p x (Some (pending q x ∷ exit w ∷ ks)) ≡ Some (pending p x ∷ ks)
  unfolding effect_of
  behind_exit q w p x ks = refl

  behind_caught : (e p : ℕ) (x : Option Loop) (ks : StackMap) → behind_op links (P.plain instr.Caught) p x (Some (exception e ∷ ks)) ≡ Some (value ∷ exception p ∷ ks)
  unfolding effect_of
  behind_caught e p x ks = refl

  behind_handler : (e p : ℕ) (x : Option Loop) (ks : StackMap) → behind_op links (P.plain instr.EndHandler) p x (Some (exception e ∷ ks)) ≡ Some ks
  unfolding effect_of
  behind_handler e p x ks = refl

  behind_finally : (q p : ℕ) (x : Option Loop) (ks : StackMap) → behind_op links (P.plain instr.EndFinally) p x (Some (pending q x ∷ ks)) ≡ Some ks
  unfolding effect_of
  behind_finally q p x ks = refl

  aside_jump : (l : ℕ) (ks : StackMap) → aside_op links (P.to Jumps l) (Some ks) ≡ Some ks
  unfolding effect_of
  aside_jump l ks = refl

  behind_value : (e : Exp) (n : ℕ) → Value_named around e n → (c : Setting) (base : StackMap) (from : ℕ)
      → behind links next (value_piece around e n) c base from (Some base) ≡ Some (value ∷ base)
  behind_value e n h c base from = (val around links next cells captures e n h base {c = c} {Ls = []} {base = base} {from = from} (over_itself base)).behind

  -- one more slot lies below
  behind_deeper : (q : Piece) (c : Setting) (above : StackMap) (k : Known) (base : StackMap) (from : ℕ) (t : Option StackMap)
      → behind links next q c (k ∷ base) from (Some (above ++ k ∷ base)) ≡ t → behind links next (P.deeper 1 q) c base from (Some (above ++ k ∷ base)) ≡ t
  behind_deeper q c above k base from t e = ap (λ z. behind links next q c z from (Some (above ++ k ∷ base))) (deepened_is above k base) ∙ e

  -- under a row, behind which a `finally` part or an exit begins
  behind_row : (q : Piece) (c : Setting) (above : StackMap) (k : Known) (base : StackMap) (from : ℕ)
      → behind links next (P.deeper 1 (P.ensured q)) c base from (Some (above ++ k ∷ base)) ≡ Some (pending (next (end_of next q from)) c.loop ∷ k ∷ base)
  behind_row q c above k base from = behind_deeper (P.ensured q) c above k base from _ refl

  -- statements that hold no other

  leave_on : (p : Piece) → Outs around links next cells captures p → Ons (begun_piece (S.raise_again 0) needed p)
  unfolding effect_of
  leave_on p f c base from = all.behind
    where
      inner : Setting
      inner = with_label (end_of next (P.seq (P.move (P.const (constant.Bool true))) (P.seq (P.move (P.to IfFalse 0)) (P.closed p))) from) c

      u : Out links next p (with_none inner) [] base (next (next from))
      u = f _ _ _ _

      all : Tells (begun_piece (S.raise_again 0) needed p) c [] base from base (Some base)
      all = told (in_block {r = Some base} (both (move_of (gives_one refl tt base (over_itself base)))
          (both (move_of (tests_false 0 base (over_itself base) refl)) (in_closed u.goes))) (or_some u.goes_on base))

  begun_on : (st : Stm) (w : Behind) (p : Piece) → leaves st ≡ false → Ons p → Ons (begun_piece st w p)
  begun_on st w p e f c base from = by (is_silent st) (leaves st) e
    where
      by : (s t : Bool) → t ≡ false
          → behind links next (if s then begun_piece (S.global 0 []) w p else if t && is_needed w then begun_piece (S.raise_again 0) needed p else p) c base from (Some base) ≡ Some base
      by true t z =
          behind_both (P.move (P.plain instr.Nop)) p c base from base (Some base) (Some base) (behind_nop (next from) c.loop base) (f c base (next from))
      by false true z = absurd (true≢false z)
      by false false z = f c base from

  simple_on : (st : Stm) (n : ℕ) (w : Behind) → HoldsNone st → leaves st ≡ false → Stm_named around st n → Ons (begun_piece st w (stm_piece around st n w))
  simple_on st n w h e i = begun_on st w (stm_piece around st n w) e (λ c base from.
      let u : statements.Through around links next cells captures (stm_piece around st n w) c [] base from =
      statements.simple around links next cells captures st n w h e i c [] base from in (u.goes).behind)

  -- one that leaves goes on where it must
  leaving_on : (st : Stm) (n : ℕ) (w : Behind) → is_silent st ≡ false → leaves st ≡ true → Stm_named around st n → Due w false
      → Ons (begun_piece st w (stm_piece around st n w))
  leaving_on st n needed s e i d c base from = by (is_silent st) (leaves st) s e
    where
      p : Piece
      p = stm_piece around st n needed

      by : (s t : Bool) → s ≡ false → t ≡ true
          → behind links next (if s then begun_piece (S.global 0 []) needed p else if t && true then begun_piece (S.raise_again 0) needed p else p) c base from (Some base) ≡ Some base
      by true t y z = absurd (true≢false y)
      by false false y z = absurd (false≢true z)
      by false true y z = leave_on p (statements.stm around links next cells captures st n needed i) c base from
  leaving_on st n free s e i d c base from = absurd (false≢true d)
  leaving_on st n reached s e i d c base from = absurd d

  -- 8.1: what comes to the end of the branches, by going on or by label 0

  abbrev Joins : Piece → Type 0
  Joins q = (c : Setting) (base : StackMap) (from : ℕ) → or_else (behind links next q c base from (Some base)) (sent_by q c base from (Some base) 0) ≡ Some base

  -- a branch, to whose end its body sends what goes on from it
  abbrev pub branch_of : (l n : ℕ) → Exp → (body : Piece) → Piece
  branch_of l n x q = P.seq (value_piece around x n) (P.seq (P.act (P.to IfFalse 0) (n + size x) l false) (P.seq (P.closed q) (P.move (P.to Jumps 1))))

  pub record Branch (l n : ℕ) (x : Exp) (q : Piece) (c : Setting) (base : StackMap) (from : ℕ) : Type 0 where
    pub goes : Bool
    pub body : behind links next q (with_none (with_label (end_of next (branch_of l n x q) from) c)) base (next (end_of next (value_piece around x n) from)) (Some base) ≡ goes_if goes base
    pub on : behind links next (P.block (branch_of l n x q)) c base from (Some base) ≡ Some base
    pub sends : sent_by (P.block (branch_of l n x q)) c base from (Some base) 0 ≡ goes_if goes base

  pub branch : (l n : ℕ) (x : Exp) (q : Piece) → Value_named around x n → Outs around links next cells captures q → (c : Setting) (base : StackMap) (from : ℕ)
      → Branch l n x q c base from
  branch l n x q h o c base from = record { goes = u.goes_on; body = (u.goes).behind; on = whole.behind; sends = whole.sent 0 ∙ one u.goes_on }
    where
      u : Out links next q (with_none (with_label (end_of next (branch_of l n x q) from) c)) [] base (next (end_of next (value_piece around x n) from))
      u = o _ _ _ _

      one : (t : Bool) → or_else None (or_else (to_one (P.to IfFalse 0) (Some base) 1) (to_one (P.to Jumps 1) (goes_if t base) 1)) ≡ goes_if t base
      one t = refl

      whole : Goes links next (P.block (branch_of l n x q)) c (Some base ∷ []) base from base (Some base)
          (λ k. or_else None (or_else (to_one (P.to IfFalse 0) (Some base) (suc k)) (to_one (P.to Jumps 1) (goes_if u.goes_on base) (suc k))))
      whole = in_block {r = Some base} (both (val around links next cells captures x n h base (over_itself base)) (both (act_of (tests_false 0 base (over_itself base) refl))
          (to_label around links next cells captures 1 u.goes_on (in_closed u.goes) (λ k. refl) (λ t. refl)))) refl

  one_branch : (l n : ℕ) (x : Exp) (q rest : Piece) → ((c : Setting) (base : StackMap) (from : ℕ) → Branch l n x q c base from)
      → ((c : Setting) (base : StackMap) (from : ℕ) → (s : Bool) × (behind links next rest c base from (Some base) ≡ goes_if s base))
      → Ons q ⊎ Joins rest → Joins (P.seq (P.block (branch_of l n x q)) rest)
  one_branch l n x q rest f g e c base from =
      ap (λ s. or_else (behind links next rest c base after s) (or_else (sent_by first c base from (Some base) 0) (sent_by rest c base after s 0))) b.on
      ∙ (ap (λ o. or_else o (or_else (sent_by first c base from (Some base) 0) (sent_by rest c base after (Some base) 0))) r.1 ∙ by e)
    where
      first : Piece
      first = P.block (branch_of l n x q)

      after : ℕ
      after = end_of next first from

      b : Branch l n x q c base from
      b = f c base from

      r : (s : Bool) × (behind links next rest c base after (Some base) ≡ goes_if s base)
      r = g c base after

      by : Ons q ⊎ Joins rest → or_else (goes_if r.0 base) (or_else (sent_by first c base from (Some base) 0) (sent_by rest c base after (Some base) 0)) ≡ Some base
      by (inl on) = first_sent r.0 base _ _ (b.sends ∙ (sym b.body ∙ on _ _ _))
      by (inr j) =
          ap (λ o. or_else (goes_if r.0 base) (or_else o (sent_by rest c base after (Some base) 0))) b.sends
          ∙ then_sent r.0 b.goes base _ (ap (λ o. or_else o (sent_by rest c base after (Some base) 0)) (sym r.1) ∙ j c base after)

  -- 8.4: handlers, from the slot of their tests; label 0 is the end of them all

  store_behind : (y : Name) (ks : StackMap) (p : ℕ) (x : Option Loop) → behind_op links (store (around.variable [] y)) p x (Some (value ∷ ks)) ≡ Some ks
  store_behind y ks p x = let z = around.variable [] y in (stores {links = links} {x = x} {Ls = []} {base = ks} {to = p} z.scope z.name ks (over_itself ks)).behind

  store_sends : (y : Name) (ks : StackMap) (k : ℕ) → to_one (store (around.variable [] y)) (aside_op links (store (around.variable [] y)) (Some (value ∷ ks))) k ≡ None
  store_sends y ks k = let z = around.variable [] y in (stores {links = links} {x = None} {Ls = []} {base = ks} {to = 0} z.scope z.name ks (over_itself ks)).sent k

  delete_behind : (y : Name) (ks : StackMap) (p : ℕ) (x : Option Loop) → behind_op links (delete (around.variable [] y)) p x (Some ks) ≡ Some ks
  delete_behind y ks p x = let z = around.variable [] y in (deletes {links = links} {x = x} {Ls = []} {base = ks} {to = p} z.scope z.name ks (over_itself ks)).behind

  delete_sends : (y : Name) (ks : StackMap) (k : ℕ) → to_one (delete (around.variable [] y)) (aside_op links (delete (around.variable [] y)) (Some ks)) k ≡ None
  delete_sends y ks k = let z = around.variable [] y in (deletes {links = links} {x = None} {Ls = []} {base = ks} {to = 0} z.scope z.name ks (over_itself ks)).sent k

  handler_left : {c : Setting} {base : StackMap} {from : ℕ} (e : ℕ)
      → Sends (P.seq (P.move (P.plain instr.EndHandler)) (P.move (P.to Jumps 1))) c base from (exception e ∷ base) 1 (Some base)
  handler_left {c} {base} {from} e = sends_by base (behind_handler e (next from) c.loop base) refl (record { is = aside_jump 1 base })

  -- a handler that goes on goes to the end
  handled_sends : (l n : ℕ) (y : Option Name) (body : ℕ → Piece) → ((m : ℕ) → m ≡ handler_body n y → is_bound y ≡ false → Ons (body m)) → (c : Setting) (base : StackMap) (from e : ℕ)
      → Sends (handled_piece around l n y body) c base from (exception e ∷ base) 1 (Some base)
  handled_sends l n None body f c base from e =
      sends_by (value ∷ slot ∷ base) (behind_caught e (next from) c.loop base) refl
      (sends_by (slot ∷ base) (behind_pop (next (next from)) c.loop (slot ∷ base)) refl
      (sends_by (slot ∷ base) (behind_deeper (P.closed (body (n + 1))) c [] slot base (next (next from)) (Some (slot ∷ base)) (f (n + 1) refl refl (with_none c) (slot ∷ base) (next (next from)))) refl
      (handler_left (next from))))
    where
      slot : Known
      slot = exception (next from)
  handled_sends l n (Some y) body f c base from e =
      sends_by (value ∷ slot ∷ base) (behind_caught e (next from) c.loop base) refl
      (sends_by (slot ∷ base) (store_behind y (slot ∷ base) (next (next from)) c.loop) (store_sends y (slot ∷ base) 1)
      (sends_by (held ∷ slot ∷ base) (behind_row (body (n + 1 + 1)) c [] slot base (next (next from))) refl
      (sends_by (value ∷ held ∷ slot ∷ base) (behind_const constant.None (next after) c.loop (held ∷ slot ∷ base)) refl
      (sends_by (held ∷ slot ∷ base) (store_behind y (held ∷ slot ∷ base) (next (next after)) c.loop) (store_sends y (held ∷ slot ∷ base) 1)
      (sends_by (held ∷ slot ∷ base) (delete_behind y (held ∷ slot ∷ base) (next (next (next after))) c.loop) (delete_sends y (held ∷ slot ∷ base) 1)
      (sends_by (slot ∷ base) (behind_finally after (next (next (next (next after)))) c.loop (slot ∷ base)) refl (handler_left (next from))))))))
    where
      slot : Known
      slot = exception (next from)

      after : ℕ
      after = next (end_of next (body (n + 1 + 1)) (next (next from)))

      held : Known
      held = pending after c.loop

  -- a handler with its test, which follows what gives the class
  abbrev pub handler_of : (class : Piece) (l n : ℕ) → Option Name → (body : ℕ → Piece) → Piece
  handler_of class l n y body = P.seq class (P.seq (P.act (P.plain instr.Match) n l false) (P.seq (P.move (P.to IfFalse 0)) (handled_piece around l n y body)))

  pub record Handler' (class : Piece) (l n : ℕ) (y : Option Name) (body : ℕ → Piece) (c : Setting) (base : StackMap) (from e : ℕ) : Type 0 where
    pub sends : Bool
    pub handled : sent_by (handled_piece around l n y body) (with_label (end_of next (handler_of class l n y body) from) c) base (next (next (end_of next class from)))
        (Some (exception e ∷ base)) 1 ≡ goes_if sends base
    pub on : behind links next (P.block (handler_of class l n y body)) c base from (Some (exception e ∷ base)) ≡ Some (exception e ∷ base)
    pub sent : sent_by (P.block (handler_of class l n y body)) c base from (Some (exception e ∷ base)) 0 ≡ goes_if sends base

  abbrev pub GivesClass : Piece → Type 0
  GivesClass class = (F : StackMap) (c : Setting) (Ls : List (Option StackMap)) (base : StackMap) (from : ℕ) → Over base F → Goes links next class c Ls base from F (Some (value ∷ F)) to_none

  pub handler : (class : Piece) (l n : ℕ) (y : Option Name) (body : ℕ → Piece) → GivesClass class
      → ((m : ℕ) → m ≡ handler_body n y → Outs around links next cells captures (body m)) → (c : Setting) (base : StackMap) (from e : ℕ) → Handler' class l n y body c base from e
  handler class l n y body k o c base from e = record {
    sends = u.sends;
    handled = (u.goes (Some base ∷ Some base ∷ []) (λ t. refl)).sent 1;
    on = whole.behind;
    sent = whole.sent 0;
  }
    where
      u : Handled around links next cells captures (handled_piece around l n y body) (with_label (end_of next (handler_of class l n y body) from) c) base
          (next (next (end_of next class from))) e
      u = statements.handled around links next cells captures l n y body o

      whole : Goes links next (P.block (handler_of class l n y body)) c (Some base ∷ []) base from (exception e ∷ base) (Some (exception e ∷ base))
          (λ k. or_else None (or_else None (or_else (to_one (P.to IfFalse 0) (Some (exception e ∷ base)) (suc k)) (to_one (P.to Jumps 1) (goes_if u.sends base) (suc k)))))
      whole = in_block {r = Some (exception e ∷ base)} (both (k (exception e ∷ base) _ _ _ _ (over_more (exception e) (over_itself base)))
          (both (act_of (matches e base (over_itself base))) (both (move_of (tests_false 0 (exception e ∷ base) (over_more (exception e) (over_itself base)) refl))
          (u.goes _ (λ t. refl))))) refl

  abbrev HandlersSend : Piece → Type 0
  HandlersSend q = (c : Setting) (base : StackMap) (from e : ℕ) → sent_by q c base from (Some (exception e ∷ base)) 0 ≡ Some base

  one_handler : (class : Piece) (l n : ℕ) (y : Option Name) (body : ℕ → Piece) (rest : Piece) (t u : Bool)
      → ((c : Setting) (base : StackMap) (from e : ℕ) → Handler' class l n y body c base from e)
      → (t ≡ true → (m : ℕ) → m ≡ handler_body n y → is_bound y ≡ false → Ons (body m)) → (u ≡ true → HandlersSend rest) → (t || u) ≡ true
      → HandlersSend (P.seq (P.block (handler_of class l n y body)) rest)
  one_handler class l n y body rest true u f g j z c base from e =
      ap (λ o. or_else o (sent_by rest c base (end_of next (P.block (handler_of class l n y body)) from) (behind links next (P.block (handler_of class l n y body)) c base from (Some (exception e ∷ base))) 0))
      (h.sent ∙ (sym h.handled ∙ (let w = handled_sends l n y body (g refl) (with_label (end_of next (handler_of class l n y body) from) c) base (next (next (end_of next class from))) e in w.is)))
    where
      h : Handler' class l n y body c base from e
      h = f c base from e
  one_handler class l n y body rest false u f g j z c base from e =
      ap (λ s. or_else (sent_by (P.block (handler_of class l n y body)) c base from (Some (exception e ∷ base)) 0) (sent_by rest c base after s 0)) h.on
      ∙ (ap (λ o. or_else o (sent_by rest c base after (Some (exception e ∷ base)) 0)) h.sent
      ∙ (ap (or_else (goes_if h.sends base)) (j z c base after e) ∙ or_some h.sends base))
    where
      h : Handler' class l n y body c base from e
      h = f c base from e

      after : ℕ
      after = end_of next (P.block (handler_of class l n y body)) from

  -- the body of a `try` with handlers, and its `else` part: both send what goes on from them to the end
  tried_sends : (body other : Piece) (k : ℕ) (c : Setting) (base : StackMap) (from : ℕ) (s t : Bool) → behind links next body (with_none c) base from (Some base) ≡ goes_if s base
      → behind links next other (with_none c) base (end_of next body from) (Some base) ≡ goes_if t base
      → sent_by (P.caught (P.closed body) (P.seq (P.numbered k (P.closed other)) (P.move (P.to Jumps 0)))) c base from (Some base) 0 ≡ goes_if (s && t) base
  tried_sends body other k c base from s t e f = ap (λ o. sent_by skipped c base mid o 0) e ∙ by s
    where
      skipped : Piece
      skipped = P.seq (P.numbered k (P.closed other)) (P.move (P.to Jumps 0))

      mid : ℕ
      mid = end_of next body from

      jumped : (t : Bool) → aside_op links (P.to Jumps 0) (goes_if t base) ≡ goes_if t base
      jumped true = aside_jump 0 base
      jumped false = refl

      by : (s : Bool) → sent_by skipped c base mid (goes_if s base) 0 ≡ goes_if (s && t) base
      by true = ap (λ o. aside_op links (P.to Jumps 0) o) f ∙ jumped t
      by false = let n = nothing links next skipped c base mid in n.sent 0

  guarded_on : (l : ℕ) (x : S.Opt) (y : Option Name) (r : Stms) (hs : Handlers) (body other handlers : Piece) (k j : ℕ) (t : Bool)
      → Outs around links next cells captures body → Outs around links next cells captures other
      → Handlings around links next cells captures handlers → is_empty body ≡ false → (t ≡ true → HandlersSend handlers) → (t ≡ false → Ons body × Ons other)
      → Ons (guarded_piece (S.handler l x y r hs) (P.closed body) (P.numbered k (P.closed other)) (P.numbered j handlers))
  guarded_on l x y r hs body other handlers k j t o p h e f g c base from =
      ap (λ z. or_else (behind links next handlers inner base tests z) (or_else sent (sent_by handlers inner base tests z 0))) entered
      ∙ (ap (λ z. or_else z (or_else sent (sent_by handlers inner base tests (Some (exception tests ∷ base)) 0))) (v.goes (Some base) (λ z. refl)).behind
      ∙ by t refl)
    where
      caught : Piece
      caught = P.caught (P.closed body) (P.seq (P.numbered k (P.closed other)) (P.move (P.to Jumps 0)))

      inner : Setting
      inner = with_label (end_of next (P.seq caught (P.numbered j handlers)) from) c

      tests : ℕ
      tests = end_of next caught from

      sent : Option StackMap
      sent = sent_by caught inner base from (Some base) 0

      u : Out links next body (with_none inner) [] base from
      u = o _ _ _ _

      w : Out links next other (with_none inner) [] base (end_of next body from)
      w = p _ _ _ _

      v : Handling around links next cells captures handlers inner [] base tests tests
      v = h _ _ _ _ _

      entered : behind links next caught inner base from (Some base) ≡ Some (exception tests ∷ base)
      entered = ap (λ t. if t then None else Some (exception tests ∷ base)) e

      sends : sent ≡ goes_if (u.goes_on && w.goes_on) base
      sends = tried_sends body other k inner base from u.goes_on w.goes_on (u.goes).behind (w.goes).behind

      last : Option StackMap
      last = sent_by handlers inner base tests (Some (exception tests ∷ base)) 0

      by : (z : Bool) → t ≡ z → or_else sent last ≡ Some base
      by true z =
          ap (λ o. or_else o last) sends ∙ (ap (or_else (goes_if (u.goes_on && w.goes_on) base)) (f z inner base tests tests) ∙ or_some (u.goes_on && w.goes_on) base)
      by false z =
          let both_on = g z in
          ap (λ o. or_else o last) (tried_sends body other k inner base from true true (both_on.0 (with_none inner) base from) (both_on.1 (with_none inner) base (end_of next body from)))

  finally_on : (st : Stm) (ss : Stms) (tried part : Piece) → Ons part → Ons (ensured_piece (more st ss) tried part)
  finally_on st ss tried part f c base from = r.is
    where
      begins : ℕ
      begins = next (end_of next tried from)

      r : Comes (ensured_piece (more st ss) tried part) c base from base (Some base)
      r = comes_by (pending begins c.loop ∷ base) refl
          (comes_by (pending begins c.loop ∷ base) (behind_deeper part c [] (pending begins c.loop) base begins (Some (pending begins c.loop ∷ base)) (f c (pending begins c.loop ∷ base) begins))
          (record { is = behind_finally begins (next (end_of next part begins)) c.loop base }))

  -- 8.5: behind an exit
  item_on : (l : ℕ) (e : Exp) (t : Option Tgt) (r : Items) (body : ℕ → Piece) (k n : ℕ) → Value_named around e n → Ons (items_piece around (S.with_item l e t r) body k n)
  item_on l e t r body k n h c base from = w.is
    where
      start : ℕ
      start = next (end_of next (value_piece around e n) from)

      within : Piece
      within = P.seq (taken_piece around t (n + size e + 1)) (items_piece around r body k (behind_taken around t (n + size e + 1)))

      ended : ℕ
      ended = next (end_of next within start)

      w : Comes (items_piece around (S.with_item l e t r) body k n) c base from base (Some base)
      w = comes_by (value ∷ base) (behind_value e n h c base from)
          (comes_by (value ∷ exit start ∷ base) (behind_enter start c.loop base)
          (comes_by (pending ended c.loop ∷ exit start ∷ base) (behind_row within c (value ∷ []) (exit start) base start)
          (comes_by (pending (next ended) c.loop ∷ base) (behind_exit ended start (next ended) c.loop base)
          (record { is = behind_finally (next ended) (next (next ended)) c.loop base }))))

  -- which pieces have an instruction

  record Unchanged (q : Piece) (c : Setting) (base : StackMap) (from : ℕ) (ks : StackMap) : Type 0 where
    on : behind links next q c base from (Some ks) ≡ Some ks
    none : (k : ℕ) → sent_by q c base from (Some ks) k ≡ None

  unchanged : (q : Piece) → IsPlain q → is_empty q ≡ true → (c : Setting) (base : StackMap) (from : ℕ) (ks : StackMap) → Unchanged q c base from ks
  unchanged P.empty h e c base from ks = record { on = refl; none = λ k. refl }
  unchanged (P.act op n l g) h e c base from ks = absurd (false≢true e)
  unchanged (P.move op) h e c base from ks = absurd (false≢true e)
  unchanged (P.seq a d) h e c base from ks =
      let (f, g) = both_true (is_empty a) (is_empty d) e in
      let u = unchanged a h.0 f c base from ks in
      let v = unchanged d h.1 g c base (end_of next a from) ks in record {
        on = behind_both a d c base from ks (Some ks) (Some ks) u.on v.on;
        none = λ k. (let w : Sends (P.seq a d) c base from ks k None = sends_by ks u.on (u.none k) (record { is = v.none k }) in w.is);
      }
  unchanged (P.block q) h e c base from ks =
      let u = unchanged q h e (with_label (end_of next q from) c) base from ks in record { on = behind_block q c base from ks ks u.on; none = λ k. u.none (suc k) }
  unchanged (P.headed q) h e c base from ks = let u = unchanged q h e (with_label from c) base from ks in record { on = u.on; none = λ k. u.none (suc k) }
  unchanged (P.closed q) h e c base from ks = let u = unchanged q h e (with_none c) base from ks in record { on = u.on; none = λ k. refl }
  unchanged (P.looped k q) h e c base from ks = absurd h
  unchanged (P.leave z n l) h e c base from ks = absurd h
  unchanged (P.ensured q) h e c base from ks = absurd h
  unchanged (P.caught q r) h e c base from ks = absurd h
  unchanged (P.deeper k q) h e c base from ks =
      let u = unchanged q h e c (deepened k base (Some ks)) from ks in record { on = u.on; none = u.none }
  unchanged (P.started l q) h e c base from ks = absurd h
  unchanged (P.numbered n q) h e c base from ks = let u = unchanged q h e c base from ks in record { on = u.on; none = u.none }

  value_some : (e : Exp) (n : ℕ) → Value_named around e n → is_empty (value_piece around e n) ≡ false
  value_some e n h = by (is_empty (value_piece around e n)) refl
    where
      by : (t : Bool) → is_empty (value_piece around e n) ≡ t → t ≡ false
      by true z =
          let u = unchanged (value_piece around e n) (val_plain around e n) z outermost [] 0 [] in
          let f : [] ≡ value ∷ [] = is_some_of (sym u.on ∙ behind_value e n h outermost [] 0) in absurd (let g : ⊥ = cc in g)
      by false z = refl

  -- an instruction stands in it
  record Some_in (q : Piece) : Type 0 where
    is : is_empty q ≡ false

  here : {q : Piece} → is_empty q ≡ false → Some_in q
  here e = record { is = e }

  in_first : {a d : Piece} → Some_in a → Some_in (P.seq a d)
  in_first {a} {d} s = record { is = ap (λ z. z && is_empty d) s.is }

  in_a_block : {q : Piece} → Some_in q → Some_in (P.block q)
  in_a_block s = record { is = s.is }

  valued : {d : Piece} (e : Exp) (n : ℕ) → Value_named around e n → Some_in (P.seq (value_piece around e n) d)
  valued e n h = in_first (here (value_some e n h))

  deleted_some : (ps : List S.Place) (n : ℕ) → is_nowhere ps ≡ false → All_deleted_named around ps n → Some_in (all_deleted_piece around ps n)
  deleted_some [] n e h = absurd (true≢false e)
  deleted_some (S.name_at l y ∷ ps) n e h = here refl
  deleted_some (S.attribute_at l a y ∷ ps) n e (h, i) = in_first (valued a n h)
  deleted_some (S.item_at l a k ∷ ps) n e ((h, j), i) = in_first (valued a n h)

  defined_some : (ds : S.Decorators) (b : ℕ) (ps : S.Params) (l n : ℕ) (y : Name) → Definition_named around ds (λ m. Parameters_named around ps m) n
      → Some_in (defined_piece around ds (a_function b ps) [] l n y)
  defined_some S.no_decorators b (S.parameters ps s qs d) l n y h = valued (S.lambda l b (S.parameters ps s qs d) (S.constant l constant.None)) n h
  defined_some (S.decorator j e r) b ps l n y (h, i) = valued e n h

  class_some : (ds : S.Decorators) (b : ℕ) (super : S.Opt) (l n : ℕ) (y : Name) → Definition_named around ds (λ m. Opt_named around super m) n
      → Some_in (defined_piece around ds (a_class b super) [] l n y)
  class_some S.no_decorators b S.absent l n y h = here refl
  class_some S.no_decorators b (S.given e) l n y h = valued e n h
  class_some (S.decorator j e r) b super l n y (h, i) = valued e n h

  stm_some : (st : Stm) (n : ℕ) (w : Behind) → is_silent st ≡ false → Grammatical st → Stm_named around st n → Some_in (stm_piece around st n w)
  stm_some (S.expr l e) n w s g h = valued e n h
  stm_some (S.assign l ts e) n w s g h = valued e n h.0
  stm_some (S.augmented l (S.name_at k y) o e) n w s g h = valued (S.name k y) n tt
  stm_some (S.augmented l (S.attribute_at k a y) o e) n w s g h = valued a n h.0
  stm_some (S.augmented l (S.item_at k a i) o e) n w s g h = valued a n h.0
  stm_some (S.annotated l p a S.absent) n w s g h = here refl
  stm_some (S.annotated l p a (S.given e)) n w s g h = valued e n h.0
  stm_some (S.assert l e m) n w s g h = in_a_block (valued e n h.0)
  stm_some (S.pass l) n w s g h = here refl
  stm_some (S.del l ts) n w s g h = deleted_some (all_places ts) n s h
  stm_some (S.return l S.absent) n w s g h = here refl
  stm_some (S.return l (S.given e)) n w s g h = valued e n h
  stm_some (S.raise l e d) n w s g h = valued e n h.0
  stm_some (S.raise_again l) n w s g h = here refl
  stm_some (S.break l) n w s g h = here refl
  stm_some (S.continue l) n w s g h = here refl
  stm_some (S.import l []) n w s g h = absurd (true≢false s)
  stm_some (S.import l (a ∷ as')) n w s g h = here refl
  stm_some (S.import_from l m xs) n w s g h = here refl
  stm_some (S.global l xs) n w s g h = absurd (true≢false s)
  stm_some (S.nonlocal l xs) n w s g h = absurd (true≢false s)
  stm_some (S.choice l S.no_branches els) n w s g h = absurd g
  stm_some (S.choice l (S.branch k x body r) els) n w s g h = in_a_block (in_first (in_a_block (valued x n h.0)))
  stm_some (S.while l e body els) n w s g h = in_a_block (in_first (in_a_block (valued e n h.0)))
  stm_some (S.for l t it body els) n w s g h = in_a_block (in_first (in_a_block (valued it n h.0)))
  stm_some (S.try l body hs els fin) n w s g h = here refl
  stm_some (S.with l S.no_items body) n w s g h = absurd g
  stm_some (S.with l (S.with_item k e None r) body) n w s g h = valued e n h.0
  stm_some (S.with l (S.with_item k e (Some t) r) body) n w s g h = valued e n h.0
  stm_some (S.def l ds k b y ps a body) n w s g h = defined_some ds b ps k n y h
  stm_some (S.class l ds k b y super body) n w s g h = class_some ds b super k n y h
  stm_some (S.docstring l) n w s g h = absurd (true≢false s)

  begun_some : (st : Stm) (n : ℕ) (w : Behind) → Grammatical st → Stm_named around st n → is_empty (begun_piece st w (stm_piece around st n w)) ≡ false
  begun_some st n w g h = by (is_silent st) (leaves st && is_needed w) refl
    where
      by : (s t : Bool) → is_silent st ≡ s
          → is_empty (if s then begun_piece (S.global 0 []) w (stm_piece around st n w) else if t then begun_piece (S.raise_again 0) needed (stm_piece around st n w) else stm_piece around st n w) ≡ false
      by true t e = refl
      by false true e = refl
      by false false e = let r = stm_some st n w e g h in r.is

  pub body_some : (st : Stm) (ss : Stms) (n : ℕ) (w : Behind) → Grammatical st → All_named around (more st ss) n → is_empty (all_piece around (more st ss) n w) ≡ false
  body_some st ss n w g h = ap (λ z. z && is_empty (all_piece around ss (n + stm_size st) w)) (begun_some st n (in_front ss w) g h.0)

  -- all statements

  try_on : (l n : ℕ) (st : Stm) (ss : Stms) (hs : Handlers) (els fin : Stms) (w : Behind) → Stm_named around (S.try l (more st ss) hs els fin) n → Grammatical st
      → ((v : Behind) → Due v (all_go_on (more st ss)) → Ons (all_piece around (more st ss) (n + 1) v))
      → (some_handler_goes_on hs ≡ true → HandlersSend (handlers_piece around hs (try_handlers n (more st ss))))
      → ((v : Behind) → Due v (all_go_on els) → Ons (all_piece around els (try_else n (more st ss) hs) v))
      → ((v : Behind) → Due v (all_go_on fin) → Ons (all_piece around fin (try_finally n (more st ss) hs els) v))
      → Due w (goes_on (S.try l (more st ss) hs els fin)) → Ons (stm_piece around (S.try l (more st ss) hs els fin) n w)
  try_on l n st ss hs els (more u us) w h gr f i j k d c base from = r.is
    where
      tried : Piece
      tried = guarded_piece hs (P.closed (all_piece around (more st ss) (n + 1) (in_front els free)))
          (P.numbered (try_else n (more st ss) hs) (P.closed (all_piece around els (try_else n (more st ss) hs) free)))
          (P.numbered (try_handlers n (more st ss)) (handlers_piece around hs (try_handlers n (more st ss))))

      r : Comes (stm_piece around (S.try l (more st ss) hs els (more u us)) n w) c base from base (Some base)
      r = comes_by base (behind_nop (next from) c.loop base)
          (record {
            is = finally_on u us tried (P.numbered (try_finally n (more st ss) hs els) (P.closed (all_piece around (more u us) (try_finally n (more st ss) hs els) (needed_if (is_needed w)))))
                (λ c base from. k (needed_if (is_needed w)) (due_finally w (all_go_on (more u us)) d) (with_none c) base from) c base (next from);
          })
  try_on l n st ss S.no_handlers els none w h gr f i j k d c base from = r.is
    where
      due : Due (in_front els w) (all_go_on (more st ss)) × Due w (all_go_on els)
      due = due_tried els w (all_go_on (more st ss)) (due_bare w (either els (all_go_on (more st ss)) (all_go_on els)) d)

      body : Piece
      body = all_piece around (more st ss) (n + 1) (in_front els w)

      guarded : Comes (P.seq (P.closed body) (P.numbered (try_else n (more st ss) S.no_handlers) (P.closed (all_piece around els (try_else n (more st ss) S.no_handlers) w)))) c base (next from) base
          (Some base)
      guarded = comes_by base (f (in_front els w) due.0 (with_none c) base (next from)) (record { is = j w due.1 (with_none c) base (end_of next body (next from)) })

      r : Comes (stm_piece around (S.try l (more st ss) S.no_handlers els none) n w) c base from base (Some base)
      r = comes_by base (behind_nop (next from) c.loop base) (comes_by base guarded.is (record { is = refl }))
  try_on l n st ss (S.handler z x y q r) els none w h gr f i j k d c base from = whole.is
    where
      hs : Handlers
      hs = S.handler z x y q r

      v : Behind
      v = behind_tried hs none w

      body : Piece
      body = all_piece around (more st ss) (n + 1) (in_front els v)

      other : Piece
      other = all_piece around els (try_else n (more st ss) hs) v

      handlers : Piece
      handlers = handlers_piece around hs (try_handlers n (more st ss))

      u : Bool
      u = either els (all_go_on (more st ss)) (all_go_on els)

      by : (t : Bool) → t ≡ false → Due w (u || t) → Due (needed_if (is_needed w && not t)) u
      by true e g = absurd (true≢false e)
      by false e g = due_guarded w u g

      both_on : some_handler_goes_on hs ≡ false → Ons body × Ons other
      both_on e = let due = due_tried els v (all_go_on (more st ss)) (by (some_handler_goes_on hs) e d) in (f (in_front els v) due.0, j v due.1)

      whole : Comes (stm_piece around (S.try l (more st ss) hs els none) n w) c base from base (Some base)
      whole = comes_by base (behind_nop (next from) c.loop base)
          (comes_by base (guarded_on z x y q r body other handlers (try_else n (more st ss) hs) (try_handlers n (more st ss)) (some_handler_goes_on hs)
          (statements.all around links next cells captures (more st ss) (n + 1) (in_front els v) h.0) (statements.all around links next cells captures els (try_else n (more st ss) hs) v h.2)
          (statements.handlers around links next cells captures hs (try_handlers n (more st ss)) h.1) (body_some st ss (n + 1) (in_front els v) gr h.0) i both_on c base (next from))
          (record { is = refl }))

  while_on : (l n : ℕ) (e : Exp) (body els : Stms) (w : Behind) → Value_named around e n
      → Outs around links next cells captures (all_piece around body (tested_body n e) (needed_if (some_exits Continue body)))
      → Ons (all_piece around els (behind_body n e body) (behind_loop (some_exits Break body) w)) → Ons (stm_piece around (S.while l e body els) n w)
  while_on l n e body els w h o f c base from =
      behind_block (P.seq (P.block tested) otherwise) c base from base base
      (behind_both (P.block tested) otherwise inner base from base (Some base) (Some base) (test.goes).behind (f (with_none inner) base (end_of next tested from)))
    where
      tested : Piece
      tested = while_tested around links next cells captures l n e (all_piece around body (tested_body n e) (needed_if (some_exits Continue body)))

      otherwise : Piece
      otherwise = P.numbered (behind_body n e body) (P.closed (all_piece around els (behind_body n e body) (behind_loop (some_exits Break body) w)))

      inner : Setting
      inner = with_label (end_of next (P.seq (P.block tested) otherwise) from) c

      test : Tested around links next cells captures (P.block tested) inner [] base from (Some base)
      test = while_test around links next cells captures l n e (all_piece around body (tested_body n e) (needed_if (some_exits Continue body))) h o inner [] base from

  for_on : (l n : ℕ) (t : Tgt) (it : Exp) (body els : Stms) (w : Behind) → Value_named around it n → Target_named around t (n + size it + 1 + 1) []
      → Outs around links next cells captures (all_piece around body (for_body (n + size it + 1) t) (needed_if (some_exits Continue body)))
      → Ons (all_piece around els (for_else (n + size it + 1) t body) (behind_loop (some_exits Break body) w)) → Ons (stm_piece around (S.for l t it body els) n w)
  for_on l n t it body els w h i o f c base from =
      behind_block (P.seq (P.block tested) otherwise) c base from base base
      (behind_both (P.block tested) otherwise inner base from base (Some base) (Some base) (test.goes).behind (f (with_none inner) base (end_of next tested from)))
    where
      tested : Piece
      tested = for_tested around links next cells captures l n t it (all_piece around body (for_body (n + size it + 1) t) (needed_if (some_exits Continue body)))

      otherwise : Piece
      otherwise = P.numbered (for_else (n + size it + 1) t body) (P.closed (all_piece around els (for_else (n + size it + 1) t body) (behind_loop (some_exits Break body) w)))

      inner : Setting
      inner = with_label (end_of next (P.seq (P.block tested) otherwise) from) c

      test : Tested around links next cells captures (P.block tested) inner [] base from (Some base)
      test = for_test around links next cells captures l n t it (all_piece around body (for_body (n + size it + 1) t) (needed_if (some_exits Continue body))) h i o inner [] base from

  value_of_item : (l : ℕ) (e : Exp) (t : Option Tgt) (r : Items) (N : ℕ → Type 0) (n : ℕ) → Items_named around (S.with_item l e t r) N n → Value_named around e n
  value_of_item l e None r N n h = h.0
  value_of_item l e (Some t) r N n h = h.0

  due_bound : (s t : Bool) → s ≡ false → (s || t) ≡ true → t ≡ true
  due_bound true t e f = absurd (true≢false e)
  due_bound false t e f = f

  then_none : (st : Stm) (n : ℕ) (w : Behind) → Ons (begun_piece st w (stm_piece around st n w)) → (c : Setting) (base : StackMap) (from : ℕ)
      → Comes (all_piece around (more st none) n w) c base from base (Some base)
  then_none st n w f c base from = comes_by base (f c base from) (record { is = refl })

  then_more : (st u : Stm) (ss : Stms) (n : ℕ) (w : Behind) → Ons (begun_piece st needed (stm_piece around st n needed)) → Ons (all_piece around (more u ss) (n + stm_size st) w)
      → (c : Setting) (base : StackMap) (from : ℕ) → Comes (all_piece around (more st (more u ss)) n w) c base from base (Some base)
  then_more st u ss n w f g c base from = comes_by base (f c base from) (record { is = g c base _ })

  else_due : (t : Bool) (w : Behind) (els : Stms) → Due w (t || all_go_on els)
      → ((v : Behind) → Due v (all_go_on els) → (m : ℕ) → All_named around els m → Ons (all_piece around els m v))
      → (t ≡ true) ⊎ ((m : ℕ) → All_named around els m → Ons (all_piece around els m (behind_branches t w)))
  else_due true w els d f = inl refl
  else_due false w els d f = inr (f w d)

  branch_due : (t u : Bool) (q rest : Piece) (R : Type 0) → (t ≡ true → Ons q) → (u ≡ true → Joins rest) → (R → Joins rest) → ((t || u) ≡ true) ⊎ R → Ons q ⊎ Joins rest
  branch_due true u q rest R f g h e = inl (f refl)
  branch_due false u q rest R f g h (inl e) = inr (g e)
  branch_due false u q rest R f g h (inr k) = inr (h k)

  mutual
    pub stm_on : (st : Stm) (n : ℕ) (w : Behind) → Stm_named around st n → Grammatical st → Due w (goes_on st) → Ons (begun_piece st w (stm_piece around st n w))
    stm_on (S.return l e) n w h g d = leaving_on (S.return l e) n w refl refl h d
    stm_on (S.raise l e k) n w h g d = leaving_on (S.raise l e k) n w refl refl h d
    stm_on (S.raise_again l) n w h g d = leaving_on (S.raise_again l) n w refl refl h d
    stm_on (S.break l) n w h g d = leaving_on (S.break l) n w refl refl h d
    stm_on (S.continue l) n w h g d = leaving_on (S.continue l) n w refl refl h d
    stm_on (S.choice l S.no_branches els) n w h g d = absurd g
    stm_on (S.choice l (S.branch k x body r) els) n w h g d = λ c base from.
        branches_on (S.branch k x body r) els (behind_branches (some_branch_goes_on (S.branch k x body r)) w) n h (g.0, g.1)
        (else_due (some_branch_goes_on (S.branch k x body r)) w els d (λ v e m i. all_on els m v i g.2 e)) _ base from
    stm_on (S.while l e body els) n w h g d =
        while_on l n e body els w h.0 (statements.all around links next cells captures body (tested_body n e) (needed_if (some_exits Continue body)) h.1)
        (all_on els (behind_body n e body) (behind_loop (some_exits Break body) w) h.2 g.1 (due_loop (some_exits Break body) w (all_go_on els) d))
    stm_on (S.for l t it body els) n w h g d =
        for_on l n t it body els w h.0 h.1 (statements.all around links next cells captures body (for_body (n + size it + 1) t) (needed_if (some_exits Continue body)) h.2)
        (all_on els (for_else (n + size it + 1) t body) (behind_loop (some_exits Break body) w) h.3 g.1 (due_loop (some_exits Break body) w (all_go_on els) d))
    stm_on (S.try l none hs els fin) n w h g d = absurd g
    stm_on (S.try l (more st ss) hs els fin) n w h g d =
        try_on l n st ss hs els fin w h g.0 (λ v e. all_on (more st ss) (n + 1) v h.0 (g.0, g.1) e) (handlers_on hs (try_handlers n (more st ss)) h.1 g.2)
        (λ v e. all_on els (try_else n (more st ss) hs) v h.2 g.3 e) (λ v e. all_on fin (try_finally n (more st ss) hs els) v h.3 g.4 e) d
    stm_on (S.with l S.no_items body) n w h g d = absurd g
    stm_on (S.with l (S.with_item k e t r) body) n w h g d =
        item_on k e t r (λ m. all_piece around body m free) (stms_size body) n (value_of_item k e t r (λ m. All_named around body m) n h)
    stm_on st n w h g d = simple_on st n w tt refl h

    pub all_on : (ss : Stms) (n : ℕ) (w : Behind) → All_named around ss n → All_grammatical ss → Due w (all_go_on ss) → Ons (all_piece around ss n w)
    all_on none n w h g d = λ c base from. refl
    all_on (more st none) n w h g d = λ c base from. (let r = then_none st n w (stm_on st n w h.0 g.0 d) c base from in r.is)
    all_on (more st (more u ss)) n w h g d = λ c base from. (let r = then_more st u ss n w (stm_on st n needed h.0 g.0 tt) (all_on (more u ss) (n + stm_size st) w h.1 g.1 d) c base from in r.is)

    branches_on : (bs : Branches) (els : Stms) (v : Behind) (n : ℕ) → Branches_named around bs (λ m. All_named around els m) n → Branches_grammatical bs
        → (some_branch_goes_on bs ≡ true) ⊎ ((m : ℕ) → All_named around els m → Ons (all_piece around els m v)) → Joins (branches_piece around bs n (λ m. P.closed (all_piece around els m v)))
    branches_on S.no_branches els v n h g (inl e) = absurd (false≢true e)
    branches_on S.no_branches els v n h g (inr f) = λ c base from. ap (λ o. or_else o None) (f n h (with_none c) base from)
    branches_on (S.branch l x body r) els v n h g e =
        one_branch l n x (all_piece around body (tested_body n x) free) (branches_piece around r (behind_body n x body) (λ m. P.closed (all_piece around els m v)))
        (branch l n x (all_piece around body (tested_body n x) free) h.0 (statements.all around links next cells captures body (tested_body n x) free h.1))
        (λ c base from.
        let u : Branching around links next cells captures (branches_piece around r (behind_body n x body) (λ m. P.closed (all_piece around els m v))) c [] base from =
        statements.branches around links next cells captures r els v (λ m i. statements.all around links next cells captures els m v i) (behind_body n x body) h.2 c [] base from in
        (u.goes_on, (u.goes (Some base) (λ t. refl)).behind))
        (branch_due (all_go_on body) (some_branch_goes_on r) (all_piece around body (tested_body n x) free)
        (branches_piece around r (behind_body n x body) (λ m. P.closed (all_piece around els m v))) ((m : ℕ) → All_named around els m → Ons (all_piece around els m v))
        (λ z. all_on body (tested_body n x) free h.1 g.0 z) (λ z. branches_on r els v (behind_body n x body) h.2 g.1 (inl z)) (λ f. branches_on r els v (behind_body n x body) h.2 g.1 (inr f)) e)

    handlers_on : (hs : Handlers) (n : ℕ) → Handlers_named around hs n → Handlers_grammatical hs → some_handler_goes_on hs ≡ true → HandlersSend (handlers_piece around hs n)
    handlers_on S.no_handlers n h g e = absurd (false≢true e)
    handlers_on (S.handler l S.absent y body r) n h g e =
        one_handler null_piece l n y (λ m. all_piece around body m free) (handlers_piece around r (handler_body n y + stms_size body)) (is_bound y || all_go_on body) (some_handler_goes_on r)
        (handler null_piece l n y (λ m. all_piece around body m free) (λ F c Ls base from o. null around links next cells captures F o)
        (λ m z. statements.all around links next cells captures body m free (subst (λ k. All_named around body k) (sym z) h.0)))
        (λ t m z b. all_on body m free (subst (λ k. All_named around body k) (sym z) h.0) g.0 (due_bound (is_bound y) (all_go_on body) b t))
        (handlers_on r (handler_body n y + stms_size body) h.1 g.1) e
    handlers_on (S.handler l (S.given x) y body r) n h g e =
        one_handler (value_piece around x n) l (n + size x) y (λ m. all_piece around body m free) (handlers_piece around r (handler_body (n + size x) y + stms_size body))
        (is_bound y || all_go_on body) (some_handler_goes_on r)
        (handler (value_piece around x n) l (n + size x) y (λ m. all_piece around body m free) (λ F c Ls base from o. val around links next cells captures x n h.0 F o)
        (λ m z. statements.all around links next cells captures body m free (subst (λ k. All_named around body k) (sym z) h.1)))
        (λ t m z b. all_on body m free (subst (λ k. All_named around body k) (sym z) h.1) g.0 (due_bound (is_bound y) (all_go_on body) b t))
        (handlers_on r (handler_body (n + size x) y + stms_size body) h.2 g.1) e
