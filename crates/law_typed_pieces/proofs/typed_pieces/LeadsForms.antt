-- Exits of loops lead below their loops in the pieces of statements, and so the walk over the piece of a block gives a table.
use Rattle.std.proofs.Common.{◌≡◌, ℕ, ◌+◌, Bool, true, false, ◌&&◌, not, if◌then◌else◌, List, [], ◌∷◌, length, Option, Some, None, refl, sym, ap, subst}
use Rattle.pt_base.specs.declared.operators.BinOp.{BinOp}
use Rattle.pt_tree.specs.declared.expression.Constant.{Constant}
use Rattle.pt_tree.specs.declared.expression.Constant.TheVariants as constant
use Rattle.pt_tree.specs.declared.statement.Alias.{Alias}
use Rattle.pt_tree.specs.Syntax as S
use Rattle.pt_tree.specs.Syntax.{Name, Exp, Opt, Place, Tgt, Tgts, Decorators, Items, Stm, Stms, Branches, Handlers, none, more}
use Rattle.pt_tree.specs.Sizes.{size, place_size, target_size, params_size, items_size, stm_size, stms_size}
use Rattle.pt_instr.specs.declared.Instr.TheVariants as instr
use Rattle.pt_instr.specs.Effects.{effect_of}
use Rattle.pt_code.specs.declared.Start.{Start}
use Rattle.sem_code.specs.slots.CodeObject.{CodeObject}
use Rattle.sem_control.specs.control.Turn as T
use Rattle.sem_control.specs.control.Turn.{Around, Scope}
use Rattle.sem_control.specs.control.Frames.{Definition, a_function, a_class}
use Rattle.sem_control.specs.control.Numbers.{tested_body, behind_body, for_body, for_else, try_handlers, try_else, try_finally, handler_body}
use Rattle.sem_control.specs.control.Statements.{all_places, bound_name}
use Rattle.pt_assembler.specs.declared.operation.Exit.TheVariants.{Break, Continue}
use Rattle.pt_assembler.specs.declared.operation.Jump.TheVariants.{AtEnd, Always as Jumps, IfFalse}
use Rattle.pt_assembler.specs.Piece as P
use Rattle.pt_assembler.specs.Piece.{Piece, pick}
use Rattle.pt_assembler.specs.declared.operation.Target.{Target}
use Rattle.pt_assembler.specs.PieceAt.{Context, Piece_at}
use Rattle.sem_fits.specs.fits.Block.{Block}
use Rattle.law_operands.specs.law_files.sem_compile.emitter.ExpPiece.{null_piece, exp_piece, target_piece}
use Rattle.law_operands.specs.law_files.sem_compile.stm_pieces.Needed.{some_exits, some_branch_goes_on, is_silent, leaves, Behind, needed, free, is_needed, needed_if, in_front, behind_branches, behind_loop, behind_tried}
use Rattle.law_operands.specs.law_files.sem_compile.stm_pieces.StmPiece.{delete_in, begun_piece, value_piece, store_piece, assigned_piece, augmented_piece, deleted_piece, all_deleted_piece, failed_piece, returned_piece, thrown_piece, imported_piece, imported_from_piece, bound_piece, definition_piece, defined_piece, guarded_piece, ensured_piece, handled_piece, taken_piece, items_piece, stm_piece, all_piece, branches_piece, handlers_piece}
use Rattle.law_operands.specs.law_files.sem_compile.stm_pieces.Names.{TakesCells, Value_named, Items_named, Target_named, Stm_named, All_named, Branches_named, Handlers_named}
use Rattle.law_pieces.specs.piece_kinds.Walk.{Loop, Known, StackMap, behind_op, to_none, is_empty, Setting, with_label, with_none, with_loop, end_of, behind}
use Rattle.law_pieces.specs.piece_kinds.Typed.{Over}
use Rattle.law_pieces.specs.piece_kinds.Table.{next_of, Rises, Table}
use Rattle.law_pieces.specs.piece_kinds.Exits.{NeverLeaves}
use Rattle.law_pieces.proofs.piece_kinds.ListLemmas.{over_itself, over_more}
use Rattle.law_pieces.proofs.piece_kinds.PieceLaw.{ends}
use Rattle.law_typed_pieces.proofs.typed_pieces.Combine.{goes_if, deepened_is, Goes, act_of, move_of, both, in_closed, in_block, in_count, deeper_by_one, value}
use Rattle.law_typed_pieces.proofs.typed_pieces.Expressions.{iterator, tests_false, null}
use Rattle.law_typed_pieces.proofs.typed_pieces.Plain as plain
use Rattle.law_typed_pieces.proofs.typed_pieces.Plain.{IsPlain}
use Rattle.law_typed_pieces.proofs.typed_pieces.Statements as statements
use Rattle.law_typed_pieces.proofs.typed_pieces.Statements.{exception, exit, pending, matches, in_loop, Out, Tested, while_tested, while_test, for_tested, for_test, val, to_target, stored, Outs, Handlings, Handled, HoldsNone, to_label, taken_so, Taken_named, all}
use Rattle.law_typed_pieces.proofs.typed_pieces.Leads.{EndsIn, any, inside, alike, Leads, plainly, after, beside, closed, blocked, headed, counted, started, deeper, looped, ensured, caught}

caught_is : (t : Bool) (ks : StackMap) → (if t then None else Some ks) ≡ goes_if (not t) ks
caught_is true ks = refl
caught_is false ks = refl

and_false : (t : Bool) → (t && false) ≡ false
and_false true = refl
and_false false = refl

pub deletes : (s : Scope) (x : Name) → NeverLeaves (delete_in s x)
deletes T.local x = λ i. refl
deletes T.cell x = λ i. refl
deletes T.free x = tt
deletes T.global x = λ t. refl
deletes T.of_class x = λ t. refl

module _ {A : Type 0} (around : Around A) where
  -- statements in whose code no other stands

  pub val_plain : (e : Exp) (n : ℕ) → IsPlain (value_piece around e n)
  val_plain e n = plain.exp around e n false []

  pub store_plain : (y : Name) (n l : ℕ) → IsPlain (store_piece around y n l)
  store_plain y n l = let z = around.variable [] y in plain.stores z.scope z.name

  pub delete_plain : (y : Name) → (let z = around.variable [] y in NeverLeaves (delete_in z.scope z.name))
  delete_plain y = let z = around.variable [] y in deletes z.scope z.name

  pub assigned_plain : (ts : Tgts) (n : ℕ) → IsPlain (assigned_piece around ts n)
  assigned_plain S.no_targets n = refl
  assigned_plain (S.more_targets t S.no_targets) n = plain.target around t n []
  assigned_plain (S.more_targets t (S.more_targets u ts)) n = (refl, (plain.target around t n [], assigned_plain (S.more_targets u ts) (n + target_size t)))

  pub augmented_plain : (p : Place) (o : BinOp) (e : Exp) (l n : ℕ) → IsPlain (augmented_piece around p o e l n)
  augmented_plain (S.name_at k y) o e l n = (val_plain (S.name k y) n, (val_plain e (n + 1), (refl, store_plain y (n + 1 + size e + 1) k)))
  augmented_plain (S.attribute_at k a y) o e l n =
      (val_plain a n, (refl, (plain.by_op around (T.get (around.spelled y)) k (n + size a) false 1, (val_plain e (n + size a + 1), (refl, (refl, (λ t. refl)))))))
  augmented_plain (S.item_at k a i) o e l n =
      (val_plain a n, (val_plain i (n + size a), (refl, (plain.by_op around T.item k (n + size a + size i) false 2, (val_plain e (n + size a + size i + 1), (refl, (refl, refl)))))))

  deleted_plain : (p : Place) (n : ℕ) → IsPlain (deleted_piece around p n)
  deleted_plain (S.name_at l y) n = delete_plain y
  deleted_plain (S.attribute_at l a y) n = (val_plain a n, (λ t. refl))
  deleted_plain (S.item_at l a i) n = (val_plain a n, (val_plain i (n + size a), refl))

  pub all_deleted_plain : (ps : List Place) (n : ℕ) → IsPlain (all_deleted_piece around ps n)
  all_deleted_plain [] n = tt
  all_deleted_plain (p ∷ ps) n = (deleted_plain p n, all_deleted_plain ps (n + place_size p))

  pub failed_plain : (m : Opt) (l n : ℕ) → IsPlain (failed_piece around m l n)
  failed_plain S.absent l n = refl
  failed_plain (S.given m) l n = (val_plain m n, refl)

  pub returned_plain : (e : Opt) (l n : ℕ) → IsPlain (returned_piece around e l n)
  returned_plain S.absent l n = (tt, refl)
  returned_plain (S.given e) l n = (val_plain e n, refl)

  pub thrown_plain : (e : Opt) (l n : ℕ) → IsPlain (thrown_piece around e l n)
  thrown_plain S.absent l n = refl
  thrown_plain (S.given e) l n = (val_plain e n, refl)

  pub imported_plain : (xs : List Alias) (l n : ℕ) → IsPlain (imported_piece around xs l n)
  imported_plain [] l n = tt
  imported_plain (a ∷ as') l n = ((λ t. refl), (store_plain (bound_name a) (n + 1) l, imported_plain as' l (n + 1 + 1)))

  pub imported_from_plain : (xs : List Alias) (l n : ℕ) → IsPlain (imported_from_piece around xs l n)
  imported_from_plain [] l n = refl
  imported_from_plain (a ∷ as') l n = ((λ t. refl), (store_plain (bound_name a) (n + 1) l, imported_from_plain as' l (n + 1 + 1)))

  bound_plain : (ks : List ℕ) (l n : ℕ) (y : Name) → IsPlain (bound_piece around ks l n y)
  bound_plain [] l n y = store_plain y n l
  bound_plain (k ∷ ks) l n y = (plain.does (T.call (T.positional ∷ [])) 1, bound_plain ks l (n + 1) y)

  definition_plain : (what : Definition) (ks : List ℕ) (l n : ℕ) (y : Name) → IsPlain (definition_piece around what ks l n y)
  definition_plain (a_function b ps) ks l n y = (val_plain (S.lambda l b ps (S.constant l constant.None)) n, bound_plain ks l (n + params_size ps + 1) y)
  definition_plain (a_class b S.absent) ks l n y = (tt, (plain.made around (around.captured b) (T.class b) l n false 1, bound_plain ks l (n + 1) y))
  definition_plain (a_class b (S.given e)) ks l n y =
      (val_plain e n, (plain.made around (around.captured b) (T.class b) l (n + size e) false 1, bound_plain ks l (n + size e + 1) y))

  pub defined_plain : (ds : Decorators) (what : Definition) (ks : List ℕ) (l n : ℕ) (y : Name) → IsPlain (defined_piece around ds what ks l n y)
  defined_plain S.no_decorators what ks l n y = definition_plain what ks l n y
  defined_plain (S.decorator j e r) what ks l n y = (val_plain e n, defined_plain r what (j ∷ ks) l (n + size e) y)

  pub taken_plain : (t : Option Tgt) (n : ℕ) → IsPlain (taken_piece around t n)
  taken_plain None n = refl
  taken_plain (Some t) n = plain.target around t n []

module _ {A V : Type 0} (around : Around A) (code : CodeObject V) (starts : List Start) (b : Block) (same : (pc : ℕ) → code.at pc ≡ b.at pc) (rises : Rises b) (at : Table)
    (cells : TakesCells around) (captures : (n : ℕ) → b.links.captures n ≡ length (around.captured n)) where
  abbrev next : ℕ → ℕ
  next = next_of b

  abbrev leads : (q : Piece) (c : Setting) (base : StackMap) (from : ℕ) (ks : StackMap) (end : Option StackMap) → Type 0
  leads q c base from ks end = Leads code starts b same rises at q c base from ks end

  -- a statement, or several
  abbrev AllLead : Piece → Type 0
  AllLead q = (c : Setting) (base : StackMap) (from : ℕ) → leads q c base from base (Some base)

  -- what is behind a piece, whatever goes to labels
  record Tells (q : Piece) (c : Setting) (Ls : List (Option StackMap)) (base : StackMap) (from : ℕ) (ks : StackMap) (t : Option StackMap) : Type 0 where
    sent : ℕ → Option StackMap
    goes : Goes b.links next q c Ls base from ks t sent
    behind : behind b.links next q c base from (Some ks) ≡ t

  told : {q : Piece} {c : Setting} {Ls : List (Option StackMap)} {base : StackMap} {from : ℕ} {ks : StackMap} {t : Option StackMap} {τ : ℕ → Option StackMap}
      → Goes b.links next q c Ls base from ks t τ → Tells q c Ls base from ks t
  told {τ = τ} g = record { sent = τ; goes = g; behind = g.behind }

  -- what is behind single instructions

  behind_nop : (p : ℕ) (x : Option Loop) (ks : StackMap) → behind_op b.links (P.plain instr.Nop) p x (Some ks) ≡ Some ks
  unfolding effect_of
  behind_nop p x ks = refl

  behind_const : (k : Constant) (p : ℕ) (x : Option Loop) (ks : StackMap) → behind_op b.links (P.const k) p x (Some ks) ≡ Some (value ∷ ks)
  unfolding effect_of
  behind_const k p x ks = refl

  behind_pop : (p : ℕ) (x : Option Loop) (ks : StackMap) → behind_op b.links (P.plain instr.Pop) p x (Some (value ∷ ks)) ≡ Some ks
  unfolding effect_of
  behind_pop p x ks = refl

  behind_test : (p : ℕ) (x : Option Loop) (ks : StackMap) → behind_op b.links (P.to IfFalse 0) p x (Some (value ∷ ks)) ≡ Some ks
  unfolding effect_of
  behind_test p x ks = refl

  behind_iter : (p : ℕ) (x : Option Loop) (ks : StackMap) → behind_op b.links (P.plain instr.Iter) p x (Some (value ∷ ks)) ≡ Some (iterator p ∷ ks)
  unfolding effect_of
  behind_iter p x ks = refl

  behind_next : (l i p : ℕ) (x : Option Loop) (ks : StackMap) → behind_op b.links (P.to AtEnd l) p x (Some (iterator i ∷ ks)) ≡ Some (value ∷ iterator i ∷ ks)
  unfolding effect_of
  behind_next l i p x ks = refl

  behind_enter : (p : ℕ) (x : Option Loop) (ks : StackMap) → behind_op b.links (P.plain instr.Enter) p x (Some (value ∷ ks)) ≡ Some (value ∷ exit p ∷ ks)
  unfolding effect_of
  behind_enter p x ks = refl

  behind_match : (e p : ℕ) (x : Option Loop) (ks : StackMap) → behind_op b.links (P.plain instr.Match) p x (Some (value ∷ exception e ∷ ks)) ≡ Some (value ∷ exception e ∷ ks)
  unfolding effect_of
  behind_match e p x ks = refl

  behind_caught : (e p : ℕ) (x : Option Loop) (ks : StackMap) → behind_op b.links (P.plain instr.Caught) p x (Some (exception e ∷ ks)) ≡ Some (value ∷ exception p ∷ ks)
  unfolding effect_of
  behind_caught e p x ks = refl

  behind_val : (e : Exp) (n : ℕ) → Value_named around e n → (ks : StackMap) (c : Setting) (from : ℕ)
      → behind b.links next (value_piece around e n) c ks from (Some ks) ≡ Some (value ∷ ks)
  behind_val e n h ks c from = (val around b.links next cells captures e n h ks {c = c} {Ls = []} {base = ks} {from = from} (over_itself ks)).behind

  alone : (st : Stm) (n : ℕ) (w : Behind) → HoldsNone st → AllLead (stm_piece around st n w)
  alone (S.expr l e) n w h c base from = plainly code starts b same rises at (val_plain around e n, refl)
  alone (S.assign l ts e) n w h c base from = plainly code starts b same rises at (val_plain around e n, assigned_plain around ts (n + size e))
  alone (S.augmented l p o e) n w h c base from = plainly code starts b same rises at (augmented_plain around p o e l n)
  alone (S.annotated l p a S.absent) n w h c base from = plainly code starts b same rises at refl
  alone (S.annotated l p a (S.given e)) n w h c base from =
      plainly code starts b same rises at (val_plain around e n, assigned_plain around (S.more_targets (S.single p) S.no_targets) (n + size e))
  alone (S.assert l e m) n w h c base from = plainly code starts b same rises at (val_plain around e n, (refl, failed_plain around m l (n + size e + 1)))
  alone (S.pass l) n w h c base from = plainly code starts b same rises at refl
  alone (S.del l ts) n w h c base from = plainly code starts b same rises at (all_deleted_plain around (all_places ts) n)
  alone (S.return l e) n w h c base from = plainly code starts b same rises at (returned_plain around e l n)
  alone (S.raise l e d) n w h c base from = plainly code starts b same rises at (val_plain around e n, thrown_plain around d l (n + size e))
  alone (S.raise_again l) n w h c base from = plainly code starts b same rises at refl
  alone (S.break l) n w h c base from = record { exits = λ L x Ls to q t k. k Break }
  alone (S.continue l) n w h c base from = record { exits = λ L x Ls to q t k. k Continue }
  alone (S.import l xs) n w h c base from = plainly code starts b same rises at (imported_plain around xs l n)
  alone (S.import_from l m xs) n w h c base from = plainly code starts b same rises at ((λ t. refl), imported_from_plain around xs l (n + 1))
  alone (S.global l xs) n w h c base from = plainly code starts b same rises at tt
  alone (S.nonlocal l xs) n w h c base from = plainly code starts b same rises at tt
  alone (S.def l ds k z y ps a body) n w h c base from = plainly code starts b same rises at (defined_plain around ds (a_function z ps) [] k n y)
  alone (S.class l ds k z y super body) n w h c base from = plainly code starts b same rises at (defined_plain around ds (a_class z super) [] k n y)
  alone (S.docstring l) n w h c base from = plainly code starts b same rises at tt
  alone (S.choice l bs els) n w h c base from = absurd h
  alone (S.while l e body els) n w h c base from = absurd h
  alone (S.for l t it body els) n w h c base from = absurd h
  alone (S.try l body hs els fin) n w h c base from = absurd h
  alone (S.with l is body) n w h c base from = absurd h

  begun : (st : Stm) (w : Behind) (p : Piece) → AllLead p → AllLead (begun_piece st w p)
  begun st w p f c base from = by (is_silent st) (leaves st && is_needed w)
    where
      by : (s t : Bool) → leads (if s then begun_piece (S.global 0 []) w p else if t then begun_piece (S.raise_again 0) needed p else p) c base from base (Some base)
      by true t = after code starts b same rises at base refl (behind_nop (next from) c.loop base) (f _ _ _)
      by false true =
          blocked code starts b same rises at (after code starts b same rises at (value ∷ base) tt (behind_const (constant.Bool true) (next from) c.loop base)
          (after code starts b same rises at base refl (behind_test (next (next from)) c.loop base) (closed code starts b same rises at (f _ _ _))))
      by false false = f _ _ _

  no_more : (n : ℕ) (w : Behind) → AllLead (all_piece around none n w)
  no_more n w c base from = plainly code starts b same rises at tt

  one_more : (st : Stm) (ss : Stms) (n : ℕ) (w : Behind) → Outs around b.links next cells captures (stm_piece around st n (in_front ss w))
      → AllLead (stm_piece around st n (in_front ss w)) → AllLead (all_piece around ss (n + stm_size st) w) → AllLead (all_piece around (more st ss) n w)
  one_more st ss n w o f g c base from =
      let u : Out b.links next (begun_piece st (in_front ss w) (stm_piece around st n (in_front ss w))) c [] base from =
      statements.begun around b.links next cells captures st (in_front ss w) (stm_piece around st n (in_front ss w)) o in
      beside code starts b same rises at u.goes_on base (u.goes).behind (alike refl)
      (started code starts b same rises at (begun st (in_front ss w) (stm_piece around st n (in_front ss w)) f c base from)) (g _ _ _)

  -- 8.1

  branch : (l n : ℕ) (x : Exp) (body : Stms) (rest : Piece) → Value_named around x n → Outs around b.links next cells captures (all_piece around body (tested_body n x) free)
      → AllLead (all_piece around body (tested_body n x) free) → AllLead rest
      → AllLead (P.seq (P.block (P.seq (value_piece around x n) (P.seq (P.act (P.to IfFalse 0) (n + size x) l false)
      (P.seq (P.closed (all_piece around body (tested_body n x) free)) (P.move (P.to Jumps 1)))))) rest)
  branch l n x body rest h o f g c base from =
      beside code starts b same rises at true base whole.behind (alike refl)
      (blocked code starts b same rises at (after code starts b same rises at (value ∷ base) (val_plain around x n) (behind_val x n h base inner from)
      (after code starts b same rises at base refl (behind_test (next begins) c.loop base)
      (beside code starts b same rises at u.goes_on base (u.goes).behind (inside refl) (closed code starts b same rises at (f _ _ _)) (plainly code starts b same rises at refl)))))
      (g _ _ _)
    where
      first : Piece
      first = P.seq (value_piece around x n) (P.seq (P.act (P.to IfFalse 0) (n + size x) l false)
          (P.seq (P.closed (all_piece around body (tested_body n x) free)) (P.move (P.to Jumps 1))))

      inner : Setting
      inner = with_label (end_of next first from) c

      begins : ℕ
      begins = end_of next (value_piece around x n) from

      u : Out b.links next (all_piece around body (tested_body n x) free) (with_none inner) [] base (next begins)
      u = o _ _ _ _

      whole : Tells (P.block first) c (Some base ∷ []) base from base (Some base)
      whole = told (in_block {r = Some base} (both (val around b.links next cells captures x n h base (over_itself base)) (both (act_of (tests_false 0 base (over_itself base) refl))
          (to_label around b.links next cells captures 1 u.goes_on (in_closed u.goes) (λ k. refl) (λ t. refl)))) refl)

  no_branch : {q : Piece} → AllLead q → AllLead (P.closed q)
  no_branch f c base from = closed code starts b same rises at (f _ _ _)

  choice : (l n : ℕ) (bs : Branches) (els : Stms) (w : Behind)
      → AllLead (branches_piece around bs n (λ m. P.closed (all_piece around els m (behind_branches (some_branch_goes_on bs) w)))) → AllLead (stm_piece around (S.choice l bs els) n w)
  choice l n bs els w f c base from = blocked code starts b same rises at (f _ _ _)

  -- 8.2, 8.3; label 0 of the setting is the end of the loop

  while_tests : (l n : ℕ) (e : Exp) (q : Piece) → Value_named around e n → Outs around b.links next cells captures q → AllLead q → (c : Setting) (base : StackMap) (from : ℕ)
      → EndsIn at (pick 0 c.labels 0) (Some base) → leads (P.block (while_tested around b.links next cells captures l n e q)) c base from base (Some base)
  while_tests l n e q h o f c base from t =
      blocked code starts b same rises at (after code starts b same rises at (value ∷ base) (val_plain around e n) (behind_val e n h base inner from)
      (after code starts b same rises at base refl (behind_test first c.loop base) (headed code starts b same rises at
      (beside code starts b same rises at u.goes_on base (u.goes).behind (inside (and_false (is_empty (exp_piece around e n true []))))
      (looped code starts b same rises at 2 base (over_itself base) t (f _ _ _)) (plainly code starts b same rises at (plain.exp around e n true [], refl))))))
    where
      inner : Setting
      inner = with_label (end_of next (while_tested around b.links next cells captures l n e q) from) c

      first : ℕ
      first = next (end_of next (value_piece around e n) from)

      u : Out b.links next q (with_loop 2 (end_of next q first) (length base) (with_label first inner)) [] base first
      u = o _ _ _ _

  whiles : (l n : ℕ) (e : Exp) (body els : Stms) (w : Behind) → Value_named around e n
      → Outs around b.links next cells captures (all_piece around body (tested_body n e) (needed_if (some_exits Continue body)))
      → AllLead (all_piece around body (tested_body n e) (needed_if (some_exits Continue body)))
      → AllLead (all_piece around els (behind_body n e body) (behind_loop (some_exits Break body) w)) → AllLead (stm_piece around (S.while l e body els) n w)
  whiles l n e body els w h o f g c base from = record { exits = λ L x Ls to k t m. (lead (ended L x to k.stands t)).exits L x Ls to k t m }
    where
      q : Piece
      q = all_piece around body (tested_body n e) (needed_if (some_exits Continue body))

      parts : Piece
      parts = P.seq (P.block (while_tested around b.links next cells captures l n e q))
          (P.numbered (behind_body n e body) (P.closed (all_piece around els (behind_body n e body) (behind_loop (some_exits Break body) w))))

      ended : (L : List Target) (x : Context) (to : ℕ) → Piece_at code starts (P.block parts) L x from to → EndsIn at to (Some base) → EndsIn at (end_of next parts from) (Some base)
      ended L x to h t = subst (λ m. EndsIn at m (Some base)) (sym (ends code starts b same rises (P.block parts) L x from to h)) t

      test : Tested around b.links next cells captures (P.block (while_tested around b.links next cells captures l n e q)) (with_label (end_of next parts from) c) [] base from (Some base)
      test = while_test around b.links next cells captures l n e q h o (with_label (end_of next parts from) c) [] base from

      lead : EndsIn at (end_of next parts from) (Some base) → leads (P.block parts) c base from base (Some base)
      lead t = blocked code starts b same rises at (beside code starts b same rises at true base (test.goes).behind (alike refl)
          (while_tests l n e q h o f (with_label (end_of next parts from) c) base from t) (counted code starts b same rises at (closed code starts b same rises at (g _ _ _))))

  for_tests : (l n : ℕ) (t : Tgt) (it : Exp) (q : Piece) → Value_named around it n → Target_named around t (n + size it + 1 + 1) [] → Outs around b.links next cells captures q
      → AllLead q → (c : Setting) (base : StackMap) (from : ℕ) → EndsIn at (pick 0 c.labels 0) (Some base)
      → leads (P.block (for_tested around b.links next cells captures l n t it q)) c base from base (Some base)
  for_tests l n t it q h d o f c base from k =
      blocked code starts b same rises at (after code starts b same rises at (value ∷ base) (val_plain around it n) (behind_val it n h base inner from)
      (after code starts b same rises at (slot ∷ base) refl (behind_iter taken c.loop base)
      (after code starts b same rises at (value ∷ slot ∷ base) refl (behind_next 0 taken (next taken) c.loop base) (headed code starts b same rises at
      (after code starts b same rises at (slot ∷ base) (plain.target around t (n + size it + 1 + 1) [])
      (to_target around b.links next cells captures t (n + size it + 1 + 1) d (slot ∷ base) {c = within} {Ls = []} {base = base} {from = next taken} (over_more slot (over_itself base))).behind
      (beside code starts b same rises at u.goes_on (slot ∷ base) (deeper_by_one {c = within} {Ls = []} {base = base} [] slot (in_loop {k = 2} u.goes)).behind (inside refl)
      (deeper code starts b same rises at [] slot (looped code starts b same rises at 2 base (over_more slot (over_itself base)) k (f _ _ _)))
      (plainly code starts b same rises at (refl, refl))))))))
    where
      inner : Setting
      inner = with_label (end_of next (for_tested around b.links next cells captures l n t it q) from) c

      taken : ℕ
      taken = next (end_of next (value_piece around it n) from)

      slot : Known
      slot = iterator taken

      within : Setting
      within = with_label (next taken) inner

      begins : ℕ
      begins = end_of next (P.closed (target_piece around t (n + size it + 1 + 1) [])) (next taken)

      u : Out b.links next q (with_loop 2 (end_of next q begins) (length (slot ∷ base)) within) [] (slot ∷ base) begins
      u = o _ _ _ _

  fors : (l n : ℕ) (t : Tgt) (it : Exp) (body els : Stms) (w : Behind) → Value_named around it n → Target_named around t (n + size it + 1 + 1) []
      → Outs around b.links next cells captures (all_piece around body (for_body (n + size it + 1) t) (needed_if (some_exits Continue body)))
      → AllLead (all_piece around body (for_body (n + size it + 1) t) (needed_if (some_exits Continue body)))
      → AllLead (all_piece around els (for_else (n + size it + 1) t body) (behind_loop (some_exits Break body) w)) → AllLead (stm_piece around (S.for l t it body els) n w)
  fors l n t it body els w h d o f g c base from = record { exits = λ L x Ls to k i m. (lead (ended L x to k.stands i)).exits L x Ls to k i m }
    where
      q : Piece
      q = all_piece around body (for_body (n + size it + 1) t) (needed_if (some_exits Continue body))

      parts : Piece
      parts = P.seq (P.block (for_tested around b.links next cells captures l n t it q))
          (P.numbered (for_else (n + size it + 1) t body) (P.closed (all_piece around els (for_else (n + size it + 1) t body) (behind_loop (some_exits Break body) w))))

      ended : (L : List Target) (x : Context) (to : ℕ) → Piece_at code starts (P.block parts) L x from to → EndsIn at to (Some base) → EndsIn at (end_of next parts from) (Some base)
      ended L x to h i = subst (λ m. EndsIn at m (Some base)) (sym (ends code starts b same rises (P.block parts) L x from to h)) i

      test : Tested around b.links next cells captures (P.block (for_tested around b.links next cells captures l n t it q)) (with_label (end_of next parts from) c) [] base from (Some base)
      test = for_test around b.links next cells captures l n t it q h d o (with_label (end_of next parts from) c) [] base from

      lead : EndsIn at (end_of next parts from) (Some base) → leads (P.block parts) c base from base (Some base)
      lead i = blocked code starts b same rises at (beside code starts b same rises at true base (test.goes).behind (alike refl)
          (for_tests l n t it q h d o f (with_label (end_of next parts from) c) base from i) (counted code starts b same rises at (closed code starts b same rises at (g _ _ _))))

  -- 8.4

  finally_part : (fin : Stms) (tried part : Piece) (k : ℕ) → Outs around b.links next cells captures tried → AllLead tried → Outs around b.links next cells captures part → AllLead part
      → AllLead (ensured_piece fin tried (P.numbered k (P.closed part)))
  finally_part none tried part k o f p g c base from =
      let u : Out b.links next tried c [] base from = o _ _ _ _ in
      beside code starts b same rises at u.goes_on base (u.goes).behind (alike refl) (f _ _ _) (counted code starts b same rises at (closed code starts b same rises at (g _ _ _)))
  finally_part (more st ss) tried part k o f p g c base from =
      beside code starts b same rises at true (held ∷ base) refl any (ensured code starts b same rises at (f _ _ _))
      (beside code starts b same rises at v.goes_on (held ∷ base) (deeper_by_one {c = c} {Ls = []} {base = base} [] held (in_count {n = k} (in_closed v.goes))).behind (inside refl)
      (deeper code starts b same rises at [] held (counted code starts b same rises at (closed code starts b same rises at (g _ _ _)))) (plainly code starts b same rises at refl))
    where
      begins : ℕ
      begins = next (end_of next tried from)

      held : Known
      held = pending begins c.loop

      v : Out b.links next part (with_none c) [] (held ∷ base) begins
      v = p _ _ _ _

  abbrev HandlersLead : Piece → Type 0
  HandlersLead q = (c : Setting) (base : StackMap) (from e : ℕ) → leads q c base from (exception e ∷ base) (Some base)

  guarded : (hs : Handlers) (body other handlers : Piece) (k : ℕ) → Outs around b.links next cells captures body → AllLead body
      → Outs around b.links next cells captures other → AllLead other → HandlersLead handlers
      → AllLead (guarded_piece hs (P.closed body) (P.numbered k (P.closed other)) handlers)
  guarded S.no_handlers body other handlers k o f p g h c base from =
      let u : Out b.links next body (with_none c) [] base from = o _ _ _ _ in
      beside code starts b same rises at u.goes_on base (u.goes).behind (alike refl) (closed code starts b same rises at (f _ _ _))
      (counted code starts b same rises at (closed code starts b same rises at (g _ _ _)))
  guarded (S.handler l x y q r) body other handlers k o f p g h c base from =
      blocked code starts b same rises at (beside code starts b same rises at (not (is_empty (P.closed body))) (exception tests ∷ base)
      (caught_is (is_empty (P.closed body)) (exception tests ∷ base)) any
      (caught code starts b same rises at u.goes_on (u.goes).behind (and_false (is_empty other)) (closed code starts b same rises at (f _ _ _))
      (beside code starts b same rises at v.goes_on base (v.goes).behind (inside refl) (counted code starts b same rises at (closed code starts b same rises at (g _ _ _)))
      (plainly code starts b same rises at refl))) (h _ _ _ _))
    where
      tests : ℕ
      tests = end_of next (P.caught (P.closed body) (P.seq (P.numbered k (P.closed other)) (P.move (P.to Jumps 0)))) from

      inner : Setting
      inner = with_label (end_of next (P.seq (P.caught (P.closed body) (P.seq (P.numbered k (P.closed other)) (P.move (P.to Jumps 0)))) handlers) from) c

      u : Out b.links next body (with_none inner) [] base from
      u = o _ _ _ _

      v : Out b.links next other (with_none inner) [] base (end_of next body from)
      v = p _ _ _ _

  tries : (l n : ℕ) (body : Stms) (hs : Handlers) (els fin : Stms) (w : Behind)
      → Outs around b.links next cells captures (all_piece around body (n + 1) (in_front els (behind_tried hs fin w)))
      → AllLead (all_piece around body (n + 1) (in_front els (behind_tried hs fin w)))
      → Handlings around b.links next cells captures (handlers_piece around hs (try_handlers n body)) → HandlersLead (handlers_piece around hs (try_handlers n body))
      → Outs around b.links next cells captures (all_piece around els (try_else n body hs) (behind_tried hs fin w))
      → AllLead (all_piece around els (try_else n body hs) (behind_tried hs fin w))
      → Outs around b.links next cells captures (all_piece around fin (try_finally n body hs els) (needed_if (is_needed w)))
      → AllLead (all_piece around fin (try_finally n body hs els) (needed_if (is_needed w))) → AllLead (stm_piece around (S.try l body hs els fin) n w)
  tries l n body hs els fin w o f oh h oe e oi i c base from =
      after code starts b same rises at base refl (behind_nop (next from) c.loop base)
      (finally_part fin (guarded_piece hs (P.closed tried) (P.numbered (try_else n body hs) (P.closed other)) caught_by)
      (all_piece around fin (try_finally n body hs els) (needed_if (is_needed w))) (try_finally n body hs els)
      (λ c Ls base from. statements.guarded around b.links next cells captures hs tried other caught_by (try_else n body hs) o oe
      (λ c Ls base from p. statements.counted around b.links next cells captures (oh c Ls base from p)))
      (guarded hs tried other caught_by (try_else n body hs) o f oe e (λ c base from p. counted code starts b same rises at (h c base from p))) oi i c base (next from))
    where
      tried : Piece
      tried = all_piece around body (n + 1) (in_front els (behind_tried hs fin w))

      other : Piece
      other = all_piece around els (try_else n body hs) (behind_tried hs fin w)

      caught_by : Piece
      caught_by = P.numbered (try_handlers n body) (handlers_piece around hs (try_handlers n body))

  -- 8.4.1

  handled : (l n : ℕ) (y : Option Name) (body : ℕ → Piece) → ((m : ℕ) → m ≡ handler_body n y → Outs around b.links next cells captures (body m))
      → ((m : ℕ) → m ≡ handler_body n y → AllLead (body m)) → (c : Setting) (base : StackMap) (from e : ℕ) → leads (handled_piece around l n y body) c base from (exception e ∷ base) None
  handled l n None body o f c base from e =
      after code starts b same rises at (value ∷ slot ∷ base) refl (behind_caught e (next from) c.loop base)
      (after code starts b same rises at (slot ∷ base) refl (behind_pop (next (next from)) c.loop (slot ∷ base))
      (beside code starts b same rises at u.goes_on (slot ∷ base) (deeper_by_one {c = c} {Ls = []} {base = base} [] slot (in_closed u.goes)).behind (inside refl)
      (deeper code starts b same rises at [] slot (closed code starts b same rises at (f (n + 1) refl _ _ _))) (plainly code starts b same rises at (refl, refl))))
    where
      slot : Known
      slot = exception (next from)

      u : Out b.links next (body (n + 1)) (with_none c) [] (slot ∷ base) (next (next from))
      u = o (n + 1) refl _ _ _ _
  handled l n (Some y) body o f c base from e =
      after code starts b same rises at (value ∷ slot ∷ base) refl (behind_caught e (next from) c.loop base)
      (after code starts b same rises at (slot ∷ base) (store_plain around y (n + 1) l)
      (stored around b.links next cells captures y (n + 1) l (slot ∷ base) {c = c} {Ls = []} {base = base} {from = next from} (over_more slot (over_itself base))).behind
      (beside code starts b same rises at true (pending (next (end_of next (body (n + 1 + 1)) (next (next from)))) c.loop ∷ slot ∷ base)
      (ap (λ z. Some (pending (next (end_of next (body (n + 1 + 1)) (next (next from)))) c.loop ∷ z)) (deepened_is [] slot base)) any
      (deeper code starts b same rises at [] slot (ensured code starts b same rises at (f (n + 1 + 1) refl _ _ _)))
      (plainly code starts b same rises at (tt, ((let z = around.variable [] y in plain.stores z.scope z.name), (delete_plain around y, (refl, (refl, refl))))))))
    where
      slot : Known
      slot = exception (next from)

  no_handler : HandlersLead (P.move (P.plain instr.Rethrow))
  no_handler c base from e = plainly code starts b same rises at refl

  -- a handler, whose test follows what gives the class
  handler : (class : Piece) (l n : ℕ) (y : Option Name) (body : Stms) (rest : Piece) → IsPlain class
      → ((F : StackMap) (c : Setting) (Ls : List (Option StackMap)) (base : StackMap) (from : ℕ) → Over base F
      → Goes b.links next class c Ls base from F (Some (value ∷ F)) to_none)
      → ((m : ℕ) → m ≡ handler_body n y → Outs around b.links next cells captures (all_piece around body m free))
      → ((m : ℕ) → m ≡ handler_body n y → AllLead (all_piece around body m free)) → HandlersLead rest
      → HandlersLead (P.seq (P.block (P.seq class (P.seq (P.act (P.plain instr.Match) n l false) (P.seq (P.move (P.to IfFalse 0))
      (handled_piece around l n y (λ m. all_piece around body m free)))))) rest)
  handler class l n y body rest p k o f g c base from e =
      beside code starts b same rises at true (exception e ∷ base) whole.behind any
      (blocked code starts b same rises at (after code starts b same rises at (value ∷ exception e ∷ base) p (k (exception e ∷ base) inner [] base from (over_more (exception e) (over_itself base))).behind
      (after code starts b same rises at (value ∷ exception e ∷ base) refl (behind_match e (next begins) c.loop base)
      (after code starts b same rises at (exception e ∷ base) refl (behind_test (next (next begins)) c.loop (exception e ∷ base))
      (handled l n y (λ m. all_piece around body m free) o f inner base (next (next begins)) e)))))
      (g _ _ _ _)
    where
      first : Piece
      first = P.seq class (P.seq (P.act (P.plain instr.Match) n l false) (P.seq (P.move (P.to IfFalse 0)) (handled_piece around l n y (λ m. all_piece around body m free))))

      inner : Setting
      inner = with_label (end_of next first from) c

      begins : ℕ
      begins = end_of next class from

      u : Handled around b.links next cells captures (handled_piece around l n y (λ m. all_piece around body m free)) inner base (next (next begins)) e
      u = statements.handled around b.links next cells captures l n y (λ m. all_piece around body m free) o

      whole : Tells (P.block first) c (Some base ∷ []) base from (exception e ∷ base) (Some (exception e ∷ base))
      whole = told (in_block {r = Some (exception e ∷ base)} (both (k (exception e ∷ base) _ _ _ _ (over_more (exception e) (over_itself base)))
          (both (act_of (matches e base (over_itself base))) (both (move_of (tests_false 0 (exception e ∷ base) (over_more (exception e) (over_itself base)) refl))
          (u.goes _ (λ t. refl))))) refl)

  -- 8.5

  item : (l : ℕ) (e : Exp) (t : Option Tgt) (rest : Piece) (k n : ℕ) → Value_named around e n → Taken_named around b.links next cells captures t (n + size e + 1)
      → Outs around b.links next cells captures rest → AllLead rest
      → AllLead (P.seq (value_piece around e n) (P.seq (P.act (P.plain instr.Enter) (n + size e) l false)
      (P.seq (P.deeper 1 (P.ensured (P.seq (taken_piece around t (n + size e + 1)) rest)))
      (P.seq (P.act (P.plain instr.Exit) k l false) (P.move (P.plain instr.EndFinally))))))
  item l e t rest k n h j o f c base from =
      after code starts b same rises at (value ∷ base) (val_plain around e n) (behind_val e n h base c from)
      (after code starts b same rises at (value ∷ slot ∷ base) refl (behind_enter start c.loop base)
      (beside code starts b same rises at true (pending ended c.loop ∷ slot ∷ base) (ap (λ z. Some (pending ended c.loop ∷ z)) (deepened_is (value ∷ []) slot base)) any
      (deeper code starts b same rises at (value ∷ []) slot (ensured code starts b same rises at (after code starts b same rises at (slot ∷ base) (taken_plain around t (n + size e + 1))
      (taken_so around b.links next cells captures t (n + size e + 1) j (slot ∷ base) {c = with_none c} {Ls = []} {base = slot ∷ base} {from = start} (over_itself (slot ∷ base))).behind
      (f _ _ _)))) (plainly code starts b same rises at (refl, refl))))
    where
      start : ℕ
      start = next (end_of next (value_piece around e n) from)

      slot : Known
      slot = exit start

      ended : ℕ
      ended = next (end_of next (P.seq (taken_piece around t (n + size e + 1)) rest) start)

  items : (is : Items) (body : Stms) → ((m : ℕ) → All_named around body m → Outs around b.links next cells captures (all_piece around body m free))
      → ((m : ℕ) → All_named around body m → AllLead (all_piece around body m free)) → (k n : ℕ) → Items_named around is (λ m. All_named around body m) n
      → AllLead (items_piece around is (λ m. all_piece around body m free) k n)
  items S.no_items body o f k n h = no_branch (f n h)
  items (S.with_item l e None r) body o f k n h =
      item l e None (items_piece around r (λ m. all_piece around body m free) k (n + size e + 1)) (n + size e + 1 + items_size r k) n h.0 tt
      (λ c Ls base from. statements.items around b.links next cells captures r (λ m. all_piece around body m free) (λ m. All_named around body m) o k (n + size e + 1) h.1)
      (items r body o f k (n + size e + 1) h.1)
  items (S.with_item l e (Some t) r) body o f k n h =
      item l e (Some t) (items_piece around r (λ m. all_piece around body m free) k (n + size e + 1 + target_size t)) (n + size e + 1 + target_size t + items_size r k) n h.0 h.1
      (λ c Ls base from. statements.items around b.links next cells captures r (λ m. all_piece around body m free) (λ m. All_named around body m) o k (n + size e + 1 + target_size t) h.2)
      (items r body o f k (n + size e + 1 + target_size t) h.2)

  abbrev outs : (ss : Stms) (n : ℕ) (w : Behind) → All_named around ss n → Outs around b.links next cells captures (all_piece around ss n w)
  outs ss n w h = all around b.links next cells captures ss n w h

  mutual
    stm : (st : Stm) (n : ℕ) (w : Behind) → Stm_named around st n → AllLead (stm_piece around st n w)
    stm (S.choice l bs els) n w h =
        choice l n bs els w (branches bs els (behind_branches (some_branch_goes_on bs) w) (λ m i. all_lead els m (behind_branches (some_branch_goes_on bs) w) i) n h)
    stm (S.while l e body els) n w h =
        whiles l n e body els w h.0 (outs body (tested_body n e) (needed_if (some_exits Continue body)) h.1)
        (all_lead body (tested_body n e) (needed_if (some_exits Continue body)) h.1) (all_lead els (behind_body n e body) (behind_loop (some_exits Break body) w) h.2)
    stm (S.for l t it body els) n w h =
        fors l n t it body els w h.0 h.1 (outs body (for_body (n + size it + 1) t) (needed_if (some_exits Continue body)) h.2)
        (all_lead body (for_body (n + size it + 1) t) (needed_if (some_exits Continue body)) h.2)
        (all_lead els (for_else (n + size it + 1) t body) (behind_loop (some_exits Break body) w) h.3)
    stm (S.try l body hs els fin) n w h =
        tries l n body hs els fin w (outs body (n + 1) (in_front els (behind_tried hs fin w)) h.0) (all_lead body (n + 1) (in_front els (behind_tried hs fin w)) h.0)
        (statements.handlers around b.links next cells captures hs (try_handlers n body) h.1) (handlers hs (try_handlers n body) h.1)
        (outs els (try_else n body hs) (behind_tried hs fin w) h.2) (all_lead els (try_else n body hs) (behind_tried hs fin w) h.2)
        (outs fin (try_finally n body hs els) (needed_if (is_needed w)) h.3) (all_lead fin (try_finally n body hs els) (needed_if (is_needed w)) h.3)
    stm (S.with l is body) n w h = items is body (λ m i. outs body m free i) (λ m i. all_lead body m free i) (stms_size body) n h
    stm st n w h = alone st n w tt

    pub all_lead : (ss : Stms) (n : ℕ) (w : Behind) → All_named around ss n → AllLead (all_piece around ss n w)
    all_lead none n w h = no_more n w
    all_lead (more st ss) n w h =
        one_more st ss n w (statements.stm around b.links next cells captures st n (in_front ss w) h.0) (stm st n (in_front ss w) h.0) (all_lead ss (n + stm_size st) w h.1)

    branches : (bs : Branches) (els : Stms) (w : Behind) → ((m : ℕ) → All_named around els m → AllLead (all_piece around els m w)) → (n : ℕ)
        → Branches_named around bs (λ m. All_named around els m) n → AllLead (branches_piece around bs n (λ m. P.closed (all_piece around els m w)))
    branches S.no_branches els w f n h = no_branch (f n h)
    branches (S.branch l x body r) els w f n h =
        branch l n x body (branches_piece around r (behind_body n x body) (λ m. P.closed (all_piece around els m w))) h.0 (outs body (tested_body n x) free h.1)
        (all_lead body (tested_body n x) free h.1) (branches r els w f (behind_body n x body) h.2)

    handlers : (hs : Handlers) (n : ℕ) → Handlers_named around hs n → HandlersLead (handlers_piece around hs n)
    handlers S.no_handlers n h = no_handler
    handlers (S.handler l S.absent y body r) n h =
        handler null_piece l n y body (handlers_piece around r (handler_body n y + stms_size body)) tt (λ F c Ls base from o. null around b.links next cells captures F o)
        (λ m z. outs body m free (subst (λ k. All_named around body k) (sym z) h.0)) (λ m z. all_lead body m free (subst (λ k. All_named around body k) (sym z) h.0))
        (handlers r (handler_body n y + stms_size body) h.1)
    handlers (S.handler l (S.given x) y body r) n h =
        handler (value_piece around x n) l (n + size x) y body (handlers_piece around r (handler_body (n + size x) y + stms_size body)) (val_plain around x n)
        (λ F c Ls base from o. val around b.links next cells captures x n h.0 F o)
        (λ m z. outs body m free (subst (λ k. All_named around body k) (sym z) h.1)) (λ m z. all_lead body m free (subst (λ k. All_named around body k) (sym z) h.1))
        (handlers r (handler_body (n + size x) y + stms_size body) h.2)
