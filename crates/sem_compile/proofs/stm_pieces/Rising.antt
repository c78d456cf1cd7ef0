-- Starts of statements rise: an instruction stands between each two of them.
use Rattle.std.proofs.Common.{◌≡◌, ℕ, suc, ◌+◌, ◌<◌, ◌≤◌, Bool, true, false, List, [], ◌∷◌, ◌++◌, Option, Some, None, refl, sym, ap, ◌∙◌, subst, arith}
use Rattle.std.specs.Prelude.{◌&&◌, if◌then◌else◌}
use Rattle.pt_base.specs.declared.operators.BinOp.{BinOp}
use Rattle.pt_code.specs.declared.Start.{Start}
use Rattle.pt_tree.specs.declared.expression.Constant.TheVariants as constant
use Rattle.pt_tree.specs.declared.statement.Alias.{Alias}
use Rattle.pt_tree.specs.Syntax as S
use Rattle.pt_tree.specs.Syntax.{Name, Exp, Opt, Place, Tgt, Tgts, Decorators, Items, Stm, Stms, Branches, Handlers, none, more}
use Rattle.pt_tree.specs.Sizes.{size, place_size, target_size, params_size, stm_size, stms_size}
use Rattle.pt_tree.specs.Blocks as B
use Rattle.pt_tree.specs.Blocks.{function_body}
use Rattle.sem_control.specs.control.Turn as T
use Rattle.sem_control.specs.control.Turn.{Around}
use Rattle.sem_control.specs.control.Frames.{Definition, a_function, a_class}
use Rattle.sem_control.specs.control.Numbers.{tested_body, behind_body, for_body, for_else, try_handlers, try_else, try_finally, handler_body}
use Rattle.sem_control.specs.control.Statements.{all_places}
use Rattle.pt_instr.specs.declared.Instr.TheVariants as instr
use Rattle.pt_assembler.specs.declared.operation.Exit.{Exit}
use Rattle.pt_assembler.specs.declared.operation.Label.{Label}
use Rattle.pt_assembler.specs.declared.operation.Jump.TheVariants.{Leave}
use Rattle.pt_assembler.specs.declared.operation.Operation.TheVariants.{Plain as PlainOperation, To}
use Rattle.pt_assembler.specs.declared.operation.Placed.{Placed}
use Rattle.pt_assembler.specs.Piece as P
use Rattle.pt_assembler.specs.Piece.{Piece, pick}
use Rattle.pt_assembler.specs.Layout.{Written, width, wide, at, operation_of, with_operand, put, put_act, act_of, put_row, put_start, new_label, next_label, bind, placed, numbered_from, deeper_in, loop_in, exit_label, layout, begun as begun_block}
use Rattle.pt_assembler.proofs.Shown.{wide_end, width_some}
use Rattle.pt_assembler.proofs.Growth.{operand_only}
use Rattle.sem_compile.specs.emitter.Ops.{store}
use Rattle.sem_compile.specs.emitter.ExpPiece.{made_piece, exp_piece, target_piece, targets_piece, clauses_piece}
use Rattle.sem_compile.specs.stm_pieces.Needed.{is_silent, is_nowhere, leaves, some_branch_goes_on, Behind, needed, free, is_needed, needed_if, in_front, behind_branches}
use Rattle.sem_compile.specs.stm_pieces.StmPiece.{begun_piece, value_piece, assigned_piece, changed_piece, augmented_piece, deleted_piece, all_deleted_piece, failed_piece, returned_piece, thrown_piece, imported_piece, imported_from_piece, bound_piece, definition_piece, defined_piece, guarded_piece, handled_piece, items_piece, stm_piece, all_piece, branches_piece, handlers_piece, block_piece, yielded_piece, code_piece}
use Rattle.sem_compile.specs.stm_pieces.Names.{TakesCells, Value_named, Opt_named, Changed_named, All_deleted_named, Definition_named, Parameters_named, Items_named, Place_named, Target_named, Targets_named, Stm_named, All_named, Branches_named, Handlers_named, Code_named}
use Rattle.sem_compile.specs.stm_pieces.Laws.{AllBehind, Rise, StartsRise, slots_of}
use Rattle.sem_compile.proofs.stm_pieces.Plain as plain
use Rattle.sem_compile.proofs.stm_pieces.Plain.{Plain}

-- whether the place behind a piece surely is another than that of the last start
abbrev clear : Piece → Bool → Bool
clear P.empty c = c
clear (P.act op n l g) c = true
clear (P.move op) c = true
clear (P.seq a b) c = clear b (clear a c)
clear (P.block p) c = clear p c
clear (P.headed p) c = clear p c
clear (P.closed p) c = clear p c
clear (P.looped b p) c = clear p c
clear (P.leave e n l) c = true
clear (P.ensured p) c = true
clear (P.caught p q) c = clear q (clear p c)
clear (P.deeper k p) c = clear p c
clear (P.started l p) c = clear p false
clear (P.numbered n p) c = clear p c

abbrev Apart : Piece → Bool → Type 0
Apart (P.seq a b) c = Apart a c × Apart b (clear a c)
Apart (P.block p) c = Apart p c
Apart (P.headed p) c = Apart p c
Apart (P.closed p) c = Apart p c
Apart (P.looped b p) c = Apart p c
Apart (P.ensured p) c = Apart p c
Apart (P.caught p q) c = Apart p c × Apart q (clear p c)
Apart (P.deeper k p) c = Apart p c
Apart (P.started l p) c = (c ≡ true) × Apart p false
Apart (P.numbered n p) c = Apart p c
Apart p c = Unit {0}

-- lists of starts

abbrev Below : List Start → ℕ → Type 0
Below [] b = Unit {0}
Below (s ∷ ss) b = (s.pc.0 < b) × Below ss b

below_more : (ss : List Start) (a b : ℕ) → a ≤ b → Below ss a → Below ss b
below_more [] a b e h = tt
below_more (s ∷ ss) a b e h = let i = h.0 in (omega arith, below_more ss a b e h.1)

below_end : (ss : List Start) (s : Start) (b : ℕ) → Below ss b → s.pc.0 < b → Below (ss ++ s ∷ []) b
below_end [] s b h e = (e, tt)
below_end (t ∷ ss) s b h e = (h.0, below_end ss s b h.1 e)

behind_end : (p : ℕ) (ss : List Start) (s : Start) → AllBehind p ss → p < s.pc.0 → AllBehind p (ss ++ s ∷ [])
behind_end p [] s h e = (e, tt)
behind_end p (t ∷ ss) s h e = (h.0, behind_end p ss s h.1 e)

rise_end : (ss : List Start) (s : Start) → Rise ss → Below ss s.pc.0 → Rise (ss ++ s ∷ [])
rise_end [] s h b = (tt, tt)
rise_end (t ∷ ss) s h b = (behind_end t.pc.0 ss s h.0 b.0, rise_end ss s h.1 b.1)

abbrev bound : Bool → ℕ → ℕ
bound true a = a
bound false a = suc a

bound_less : (c : Bool) (a b : ℕ) → a < b → bound c a ≤ b
bound_less true a b e = omega arith
bound_less false a b e = omega arith

-- so far they rise, and the last one stands before this place, or at it
record Rising (w : Written) (c : Bool) : Type 0 where
  rise : Rise w.starts
  below : Below w.starts (bound c (at w))

same_rising : (v z : Written) (c : Bool) → z.starts ≡ v.starts → z.instrs ≡ v.instrs → Rising v c → Rising z c
same_rising v z c s i g = record {
  rise = subst (λ ss. Rise ss) (sym s) g.rise;
  below = subst (λ ss. Below ss (bound c (at z))) (sym s) (subst (λ is. Below v.starts (bound c (wide is))) (sym i) g.below);
}

moved : (w v z : Written) (p : Placed) (c : Bool) → v.starts ≡ w.starts → v.instrs ≡ w.instrs → z.starts ≡ v.starts → z.instrs ≡ v.instrs ++ p ∷ []
    → Rising w c → Rising z true
moved w v z p c s i t j g =
    let e : at z ≡ at w + width p.operation = ap wide (j ∙ ap (λ is. is ++ p ∷ []) i) ∙ wide_end w.instrs p in
    let some = width_some p.operation in
    let less : at w < at z = omega arith in record {
      rise = subst (λ ss. Rise ss) (sym (t ∙ s)) g.rise;
      below = subst (λ ss. Below ss (at z)) (sym (t ∙ s)) (below_more w.starts (bound c (at w)) (at z) (bound_less c (at w) (at z) less) g.below);
    }

began : (l : ℕ) (w : Written) (c : Bool) → c ≡ true → Rising w c → Rising (put_start l w) false
unfolding put_start
began l w false e g = absurd cc
began l w true e g =
    let s : Start = record { pc = record { 0 = at w }; line = record { 0 = l } } in record {
      rise = rise_end w.starts s g.rise g.below;
      below = below_end w.starts s (suc (at w)) (below_more w.starts (at w) (suc (at w)) (omega arith) g.below) (omega arith);
    }

rising : (p : Piece) (L : List Label) (w : Written) (c : Bool) → Apart p c → Rising w c → Rising (layout p L w) (clear p c)
unfolding put put_act put_row new_label bind placed numbered_from
rising P.empty L w c a g = g
rising (P.act op n l h) L w c a g =
    let only = operand_only op w in
    moved w (with_operand op w) (layout (P.act op n l h) L w) (record { operation = operation_of op L w; act = Some (act_of n l h) }) c only.starts only.instrs refl refl g
rising (P.move op) L w c a g =
    let only = operand_only op w in
    moved w (with_operand op w) (layout (P.move op) L w) (record { operation = operation_of op L w; act = None }) c only.starts only.instrs refl refl g
rising (P.seq p q) L w c a g = rising q L (layout p L w) (clear p c) a.1 (rising p L w c a.0 g)
rising (P.block p) L w c a g =
    let v = layout p (next_label w ∷ L) (new_label w) in
    same_rising v (bind (next_label w) v) (clear p c) refl refl
    (rising p (next_label w ∷ L) (new_label w) c a (same_rising w (new_label w) c refl refl g))
rising (P.headed p) L w c a g = rising p (next_label w ∷ L) (new_label w) c a (same_rising w (new_label w) c refl refl g)
rising (P.closed p) L w c a g = rising p [] w c a g
rising (P.looped b p) L w c a g =
    let v = placed (loop_in (pick (record { 0 = 0 }) L b) (next_label w) w.place) (new_label w) in
    same_rising (layout p [] v) (layout (P.looped b p) L w) (clear p c) refl refl (rising p [] v c a (same_rising w v c refl refl g))
rising (P.leave e n l) L w c a g =
    moved w w (layout (P.leave e n l) L w) (record { operation = To Leave (exit_label e w.place.around); act = Some (act_of n l false) }) c refl refl refl refl g
rising (P.ensured p) L w c a g =
    let u = layout p [] w in
    moved u u (layout (P.ensured p) L w) (record { operation = PlainOperation instr.Normal; act = None }) (clear p c) refl refl refl refl (rising p [] w c a g)
rising (P.caught p q) L w c a g =
    let u = layout p [] w in
    same_rising (layout q L u) (layout (P.caught p q) L w) (clear q (clear p c)) refl refl (rising q L u (clear p c) a.1 (rising p [] w c a.0 g))
rising (P.deeper k p) L w c a g =
    let v = placed (deeper_in k w.place) w in
    same_rising (layout p L v) (layout (P.deeper k p) L w) (clear p c) refl refl (rising p L v c a (same_rising w v c refl refl g))
rising (P.started l p) L w c a g = rising p L (put_start l w) false a.1 (began l w c a.0 g)
rising (P.numbered n p) L w c a g = rising p L (numbered_from n w) c a (same_rising w (numbered_from n w) c refl refl g)

-- pieces

plain_apart : (p : Piece) → Plain p → (c : Bool) → Apart p c
plain_apart P.empty h c = tt
plain_apart (P.act op n l g) h c = tt
plain_apart (P.move op) h c = tt
plain_apart (P.seq a b) h c = (plain_apart a h.0 c, plain_apart b h.1 (clear a c))
plain_apart (P.block p) h c = plain_apart p h c
plain_apart (P.headed p) h c = plain_apart p h c
plain_apart (P.closed p) h c = plain_apart p h c
plain_apart (P.looped b p) h c = absurd h
plain_apart (P.leave e n l) h c = tt
plain_apart (P.ensured p) h c = absurd h
plain_apart (P.caught p q) h c = absurd h
plain_apart (P.deeper k p) h c = absurd h
plain_apart (P.started l p) h c = absurd h
plain_apart (P.numbered n p) h c = absurd h

plain_clear : (p : Piece) → Plain p → clear p true ≡ true
plain_clear P.empty h = refl
plain_clear (P.act op n l g) h = refl
plain_clear (P.move op) h = refl
plain_clear (P.seq a b) h = ap (λ c. clear b c) (plain_clear a h.0) ∙ plain_clear b h.1
plain_clear (P.block p) h = plain_clear p h
plain_clear (P.headed p) h = plain_clear p h
plain_clear (P.closed p) h = plain_clear p h
plain_clear (P.looped b p) h = absurd h
plain_clear (P.leave e n l) h = refl
plain_clear (P.ensured p) h = refl
plain_clear (P.caught p q) h = absurd h
plain_clear (P.deeper k p) h = absurd h
plain_clear (P.started l p) h = absurd h
plain_clear (P.numbered n p) h = absurd h

-- starts are apart in it, and the place behind is clear
record Fine (p : Piece) (c : Bool) : Type 0 where
  apart : Apart p c
  behind : clear p c ≡ true

abbrev Always : Piece → Type 0
Always p = (c : Bool) → Fine p c

an_act : {op : P.Op} {n l : ℕ} {g : Bool} (c : Bool) → Fine (P.act op n l g) c
an_act c = record { apart = tt; behind = refl }

a_move : {op : P.Op} (c : Bool) → Fine (P.move op) c
a_move c = record { apart = tt; behind = refl }

an_exit : {e : Exit} {n l : ℕ} (c : Bool) → Fine (P.leave e n l) c
an_exit c = record { apart = tt; behind = refl }

nothing : {c : Bool} → c ≡ true → Fine P.empty c
nothing e = record { apart = tt; behind = e }

both : {a b : Piece} {c : Bool} → Fine a c → Fine b true → Fine (P.seq a b) c
both {a} {b} {c} f g = record {
  apart = (f.apart, subst (λ d. Apart b d) (sym f.behind) g.apart);
  behind = ap (λ d. clear b d) f.behind ∙ g.behind;
}

-- an act or a move, and what stands behind it
acts : {op : P.Op} {n l : ℕ} {g : Bool} {b : Piece} {c : Bool} → Fine b true → Fine (P.seq (P.act op n l g) b) c
acts {c = c} f = both (an_act c) f

moves : {op : P.Op} {b : Piece} {c : Bool} → Fine b true → Fine (P.seq (P.move op) b) c
moves {c = c} f = both (a_move c) f

before : {a b : Piece} {c : Bool} → Apart a c → Always b → Fine (P.seq a b) c
before {a} {b} {c} p f = let q = f (clear a c) in record { apart = (p, q.apart); behind = q.behind }

in_block : {p : Piece} {c : Bool} → Fine p c → Fine (P.block p) c
in_block f = record { apart = f.apart; behind = f.behind }

in_head : {p : Piece} {c : Bool} → Fine p c → Fine (P.headed p) c
in_head f = record { apart = f.apart; behind = f.behind }

in_closed : {p : Piece} {c : Bool} → Fine p c → Fine (P.closed p) c
in_closed f = record { apart = f.apart; behind = f.behind }

in_loop : {b : ℕ} {p : Piece} {c : Bool} → Fine p c → Fine (P.looped b p) c
in_loop f = record { apart = f.apart; behind = f.behind }

in_depth : {k : ℕ} {p : Piece} {c : Bool} → Fine p c → Fine (P.deeper k p) c
in_depth f = record { apart = f.apart; behind = f.behind }

in_count : {n : ℕ} {p : Piece} {c : Bool} → Fine p c → Fine (P.numbered n p) c
in_count f = record { apart = f.apart; behind = f.behind }

in_row : {p : Piece} {c : Bool} → Fine p c → Fine (P.ensured p) c
in_row f = record { apart = f.apart; behind = refl }

in_guard : {p q : Piece} {c : Bool} → Fine p c → Fine q true → Fine (P.caught p q) c
in_guard {p} {q} {c} f g = record {
  apart = (f.apart, subst (λ d. Apart q d) (sym f.behind) g.apart);
  behind = ap (λ d. clear q d) f.behind ∙ g.behind;
}

at_start : {l : ℕ} {p : Piece} → Fine p false → Fine (P.started l p) true
at_start f = record { apart = (refl, f.apart); behind = f.behind }

module _ {V : Type 0} (around : Around V) (cells : TakesCells around) where
  -- a value, and what stands behind it
  value : (e : Exp) (n : ℕ) {p : Piece} {c : Bool} → Value_named around e n → Always p → Fine (P.seq (value_piece around e n) p) c
  value e n {p} {c} h f =
      before {a = value_piece around e n} {b = p} {c = c} (plain_apart (exp_piece around e n false []) (plain.plain around cells e n false [] h) c) f

  -- a target ends with an act, or begins with one
  target_clear : (t : Tgt) (n : ℕ) → Target_named around t n [] → (c : Bool) → clear (target_piece around t n []) c ≡ true
  target_clear (S.single (S.name_at l y)) n h c = refl
  target_clear (S.single (S.attribute_at l a y)) n h c = refl
  target_clear (S.single (S.item_at l a i)) n h c = refl
  target_clear (S.several l f ts) n h c = plain_clear (targets_piece around ts (n + 1) []) (plain.targets around cells ts (n + 1) [] h)
  target_clear (S.starred l t) n h c = target_clear t n h c

  target : (t : Tgt) (n : ℕ) → Target_named around t n [] → Always (P.closed (target_piece around t n []))
  target t n h c = record {
    apart = plain_apart (target_piece around t n []) (plain.target around cells t n [] h) c;
    behind = target_clear t n h c;
  }

  assigned : (ts : Tgts) (n : ℕ) → Targets_named around ts n [] → Always (assigned_piece around ts n)
  assigned S.no_targets n h c = a_move c
  assigned (S.more_targets t S.no_targets) n h c = target t n h.0 c
  assigned (S.more_targets t (S.more_targets u ts)) n h c = moves (both (target t n h.0 true) (assigned (S.more_targets u ts) (n + target_size t) h.1 true))

  changed : (o : BinOp) (e : Exp) (l n : ℕ) (back : ℕ → Piece) → Value_named around e n → ((m : ℕ) → Always (back m)) → Always (changed_piece around o e l n back)
  changed o e l n back h f c = value e n h (λ d. acts (f (n + size e + 1) true))

  augmented : (p : Place) (o : BinOp) (e : Exp) (l n : ℕ) → Changed_named around p e n → Always (augmented_piece around p o e l n)
  augmented (S.name_at k y) o e l n h c =
      value (S.name k y) n tt (changed o e l (n + 1) (λ m. P.act (store (around.variable [] y)) m k false) h (λ m d. an_act d))
  augmented (S.attribute_at k a y) o e l n (h, i) c =
      let back : ℕ → Piece = λ m. P.seq (P.move (P.plain instr.Swap)) (P.act (P.with_text instr.SetAttr (around.spelled y)) m k false) in
      value a n h (λ d. moves (acts (changed o e l (n + size a + 1) back i (λ m d. moves (an_act true)) true)))
  augmented (S.item_at k a q) o e l n (h, i, j) c =
      let back : ℕ → Piece = λ m. P.seq (P.move (P.plain instr.Rot3)) (P.act (P.plain instr.SetItem) m k false) in
      value a n h (λ d. value q (n + size a) i (λ d. moves (acts (changed o e l (n + size a + size q + 1) back j (λ m d. moves (an_act true)) true))))

  deleted : (p : Place) (n : ℕ) → Place_named around p n [] → Always (deleted_piece around p n)
  deleted (S.name_at l y) n h c = an_act c
  deleted (S.attribute_at l a y) n h c = value a n h (λ d. an_act d)
  deleted (S.item_at l a q) n (h, i) c = value a n h (λ d. value q (n + size a) i (λ d. an_act d))

  either_true : (b : Bool) → (if b then true else true) ≡ true
  either_true true = refl
  either_true false = refl

  -- a statement that has nothing to delete is silent
  all_deleted : (ps : List Place) (n : ℕ) (c : Bool) → (if is_nowhere ps then c else true) ≡ true → All_deleted_named around ps n
      → Fine (all_deleted_piece around ps n) c
  all_deleted [] n c e h = nothing e
  all_deleted (p ∷ ps) n c e (h, i) = both (deleted p n h c) (all_deleted ps (n + place_size p) true (either_true (is_nowhere ps)) i)

  failed : (m : Opt) (l n : ℕ) → Opt_named around m n → Always (failed_piece around m l n)
  failed S.absent l n h c = an_act c
  failed (S.given m) l n h c = value m n h (λ d. an_act d)

  returned : (e : Opt) (l n : ℕ) → Opt_named around e n → Always (returned_piece around e l n)
  returned S.absent l n h c = moves (an_act true)
  returned (S.given e) l n h c = value e n h (λ d. an_act d)

  thrown : (e : Opt) (l n : ℕ) → Opt_named around e n → Always (thrown_piece around e l n)
  thrown S.absent l n h c = an_act c
  thrown (S.given e) l n h c = value e n h (λ d. an_act d)

  imported : (xs : List Alias) (l n : ℕ) → Fine (imported_piece around xs l n) true
  imported [] l n = nothing refl
  imported (a ∷ as') l n = acts (acts (imported as' l (n + 1 + 1)))

  imported_from : (xs : List Alias) (l n : ℕ) → Fine (imported_from_piece around xs l n) true
  imported_from [] l n = a_move true
  imported_from (a ∷ as') l n = acts (acts (imported_from as' l (n + 1 + 1)))

  called : (ks : List ℕ) (l n : ℕ) (y : Name) → Always (bound_piece around ks l n y)
  called [] l n y c = an_act c
  called (k ∷ ks) l n y c = acts (called ks l (n + 1) y true)

  class_apart : (b l n : ℕ) (c : Bool) → Apart (made_piece around (around.captured b) (T.class b) l n false 1) c
  class_apart b l n c =
      plain_apart (made_piece around (around.captured b) (T.class b) l n false 1)
      (plain.made_plain around cells (around.captured b) (T.class b) l n false 1 (cells b) tt) c

  abbrev Made : Definition → ℕ → Type 0
  Made (a_function b ps) n = Parameters_named around ps n
  Made (a_class b base) n = Opt_named around base n

  definition : (what : Definition) (ks : List ℕ) (l n : ℕ) (y : Name) → Made what n → Always (definition_piece around what ks l n y)
  definition (a_function b (S.parameters ps s qs d)) ks l n y h c =
      value (S.lambda l b (S.parameters ps s qs d) (S.constant l constant.None)) n h (called ks l (n + params_size (S.parameters ps s qs d) + 1) y)
  definition (a_class b S.absent) ks l n y h c = moves (before (class_apart b l n true) (called ks l (n + 1) y))
  definition (a_class b (S.given e)) ks l n y h c =
      value e n h (λ d. before (class_apart b l (n + size e) d) (called ks l (n + size e + 1) y))

  defined : (ds : Decorators) (what : Definition) (ks : List ℕ) (l n : ℕ) (y : Name) → Definition_named around ds (Made what) n
      → Always (defined_piece around ds what ks l n y)
  defined S.no_decorators what ks l n y h c = definition what ks l n y h c
  defined (S.decorator j e r) what ks l n y (h, i) c = value e n h (defined r what (j ∷ ks) l (n + size e) y i)

  -- a statement without an instruction in front of those within gets one
  begun : (st : Stm) (q : Behind) (p : Piece) → ((c : Bool) → (if is_silent st then c else true) ≡ true → Fine p c) → Fine (begun_piece st q p) false
  begun st q p f = by (is_silent st) (leaves st && is_needed q) f
    where
      by : (s b : Bool) → ((c : Bool) → (if s then c else true) ≡ true → Fine p c)
          → Fine (if s then begun_piece (S.global 0 []) q p else if b then begun_piece (S.raise_again 0) needed p else p) false
      by true b f = moves (f true refl)
      by false true f = in_block (moves (moves (in_closed (f true refl))))
      by false false f = f false refl

  guarded : (hs : Handlers) (body otherwise handlers : Piece) → Fine body true → Fine otherwise true → Fine handlers true
      → Fine (guarded_piece hs body otherwise handlers) true
  guarded S.no_handlers body otherwise handlers a b c = both a b
  guarded (S.handler l x y q r) body otherwise handlers a b c = in_block (both (in_guard a (both b (a_move true))) c)

  handled : (l n : ℕ) (y : Option Name) (body : ℕ → Piece) → ((m : ℕ) → m ≡ handler_body n y → Fine (body m) true)
      → Fine (handled_piece around l n y body) true
  handled l n None body f = moves (moves (both (in_depth (in_closed (f (n + 1) refl))) (moves (a_move true))))
  handled l n (Some y) body f =
      moves (acts (both (in_depth (in_row (f (n + 1 + 1) refl))) (moves (moves (moves (moves (moves (a_move true))))))))

  items : (is : Items) (l : ℕ) (ss : Stms) (body : ℕ → Piece) (N : ℕ → Type 0) → ((m : ℕ) → N m → Fine (body m) true) → (k n : ℕ) → Items_named around is N n
      → (c : Bool) → (if is_silent (S.with l is ss) then c else true) ≡ true → Fine (items_piece around is body k n) c
  items S.no_items l ss body N f k n h c e = in_closed (subst (λ d. Fine (body n) d) (sym e) (f n h))
  items (S.with_item j x None r) l ss body N f k n (h, i) c e =
      let within = items r l ss body N f k (n + size x + 1) i true (either_true (is_silent (S.with l r ss))) in
      value x n h (λ d. acts (both (in_depth (in_row (moves within))) (acts (a_move true))))
  items (S.with_item j x (Some t) r) l ss body N f k n (h, b, i) c e =
      let within = items r l ss body N f k (n + size x + 1 + target_size t) i true (either_true (is_silent (S.with l r ss))) in
      value x n h (λ d. acts (both (in_depth (in_row (both (target t (n + size x + 1) b true) within))) (acts (a_move true))))

  mutual
    stm : (st : Stm) (n : ℕ) (q : Behind) → Stm_named around st n → (c : Bool) → (if is_silent st then c else true) ≡ true → Fine (stm_piece around st n q) c
    stm (S.expr l x) n q h c e = value x n h (λ d. an_act d)
    stm (S.assign l ts x) n q (a, b) c e = value x n a (assigned ts (n + size x) b)
    stm (S.augmented l p o x) n q h c e = augmented p o x l n h c
    stm (S.annotated l p a S.absent) n q h c e = an_act c
    stm (S.annotated l p a (S.given x)) n q (h, b) c e = value x n h (assigned (S.more_targets (S.single p) S.no_targets) (n + size x) (b, tt))
    stm (S.assert l x m) n q (a, b) c e = in_block (value x n a (λ d. acts (failed m l (n + size x + 1) b true)))
    stm (S.pass l) n q h c e = an_act c
    stm (S.del l ts) n q h c e = all_deleted (all_places ts) n c e h
    stm (S.return l x) n q h c e = returned x l n h c
    stm (S.raise l x y) n q (a, b) c e = value x n a (thrown y l (n + size x) b)
    stm (S.raise_again l) n q h c e = an_act c
    stm (S.break l) n q h c e = an_exit c
    stm (S.continue l) n q h c e = an_exit c
    stm (S.import l []) n q h c e = nothing e
    stm (S.import l (a ∷ as')) n q h c e = acts (acts (imported as' l (n + 1 + 1)))
    stm (S.import_from l m xs) n q h c e = acts (imported_from xs l (n + 1))
    stm (S.global l xs) n q h c e = nothing e
    stm (S.nonlocal l xs) n q h c e = nothing e
    stm (S.choice l S.no_branches els) n q h c e =
        in_block (in_closed (subst (λ d. Fine (all_piece around els n (behind_branches (some_branch_goes_on S.no_branches) q)) d) (sym e) (all els n _ h)))
    stm (S.choice l (S.branch k x body r) els) n q (a, b, d) c e =
        in_block (both (in_block (value x n a (λ d. acts (both (in_closed (all body (tested_body n x) free b)) (a_move true)))))
        (branches r els _ (λ m i. all els m _ i) (behind_body n x body) d))
    stm (S.while l x body els) n q (a, b, d) c e =
        in_block (both (in_block (value x n a (λ d. acts (in_head (both (in_loop (all body (tested_body n x) _ b))
        (in_count (before (plain_apart (exp_piece around x n true []) (plain.plain around cells x n true [] a) true) (λ d. an_act d))))))))
        (in_count (in_closed (all els (behind_body n x body) _ d))))
    stm (S.for l t it body els) n q (a, d, b, o) c e =
        in_block (both (in_block (value it n a (λ z. acts (acts (in_head (both (target t (n + size it + 1 + 1) d true)
        (both (in_depth (in_loop (all body (for_body (n + size it + 1) t) _ b))) (both (in_count (an_act true)) (a_move true)))))))))
        (in_count (in_closed (all els (for_else (n + size it + 1) t body) _ o))))
    stm (S.try l body hs els none) n q (a, b, d, o) c e =
        acts (both (guarded hs _ _ _ (in_closed (all body (n + 1) _ a)) (in_count (in_closed (all els (try_else n body hs) _ d)))
        (in_count (handlers hs (try_handlers n body) b))) (in_count (in_closed (nothing refl))))
    stm (S.try l body hs els (more u us)) n q (a, b, d, o) c e =
        acts (both (in_row (guarded hs _ _ _ (in_closed (all body (n + 1) _ a)) (in_count (in_closed (all els (try_else n body hs) _ d)))
        (in_count (handlers hs (try_handlers n body) b))))
        (both (in_depth (in_count (in_closed (all (more u us) (try_finally n body hs els) (needed_if (is_needed q)) o)))) (a_move true)))
    stm (S.with l is body) n q h c e =
        items is l body _ (λ m. All_named around body m) (λ m i. all body m free i) (stms_size body) n h c e
    stm (S.def l ds k b y ps a body) n q h c e = defined ds (a_function b ps) [] k n y h c
    stm (S.class l ds k b y base body) n q h c e = defined ds (a_class b base) [] k n y h c
    stm (S.docstring l) n q h c e = nothing e

    all : (ss : Stms) (n : ℕ) (q : Behind) → All_named around ss n → Fine (all_piece around ss n q) true
    all none n q h = nothing refl
    all (more st ss) n q (a, b) =
        both (at_start (begun st (in_front ss q) (stm_piece around st n (in_front ss q)) (λ c e. stm st n (in_front ss q) a c e)))
        (all ss (n + stm_size st) q b)

    branches : (bs : Branches) (els : Stms) (q : Behind) → ((m : ℕ) → All_named around els m → Fine (all_piece around els m q) true)
        → (n : ℕ) → Branches_named around bs (λ m. All_named around els m) n
        → Fine (branches_piece around bs n (λ m. P.closed (all_piece around els m q))) true
    branches S.no_branches els q f n h = in_closed (f n h)
    branches (S.branch l x body r) els q f n (a, b, d) =
        both (in_block (value x n a (λ d. acts (both (in_closed (all body (tested_body n x) free b)) (a_move true)))))
        (branches r els q f (behind_body n x body) d)

    handlers : (hs : Handlers) (n : ℕ) → Handlers_named around hs n → Fine (handlers_piece around hs n) true
    handlers S.no_handlers n h = a_move true
    handlers (S.handler l S.absent y body r) n (b, d) =
        both (in_block (moves (acts (moves (handled l n y (λ m. all_piece around body m free)
        (λ m e. subst (λ k. Fine (all_piece around body k free) true) (sym e) (all body (handler_body n y) free b)))))))
        (handlers r (handler_body n y + stms_size body) d)
    handlers (S.handler l (S.given x) y body r) n (a, b, d) =
        both (in_block (value x n a (λ z. acts (moves (handled l (n + size x) y (λ m. all_piece around body m free)
        (λ m e. subst (λ k. Fine (all_piece around body k free) true) (sym e) (all body (handler_body (n + size x) y) free b)))))))
        (handlers r (handler_body (n + size x) y + stms_size body) d)

  ended : (ss : Stms) → All_named around ss 0 → Fine (block_piece around ss) true
  ended ss h = both (all ss 0 free h) (moves (a_move true))

  apart : (c : B.Code) → Code_named around c → Apart (code_piece around c) true
  apart (B.of_module ss) h = let f = ended ss h in f.apart
  apart (B.of_function ss) h = let f = ended (function_body ss) h in f.apart
  apart (B.of_class ss) h = let f = ended ss h in f.apart
  apart (B.of_lambda l x) h = (plain_apart (exp_piece around x 0 false []) (plain.plain around cells x 0 false [] h) true, tt)
  apart (B.of_generator l x k t cs) h =
      let f = target t (0 + 1) h.0 true in
      let p = clauses_piece around cs l (0 + 1 + target_size t) 1 [] (λ n d. yielded_piece around l x n) in
      ((tt, (f.apart, plain_apart p (plain.clauses_of_generator around cells cs x l (0 + 1 + target_size t) 1 h.1) _)), (tt, tt))

pub starts_rise : {V : Type 0} → StartsRise V
starts_rise {V} around c texts constants lists locals cells frees takes h =
    let w = begun_block texts constants lists locals cells frees (slots_of c) in
    let start : Rising w true = record { rise = tt; below = tt } in
    let end = rising (code_piece around c) [] w true (apart around takes c h) start in end.rise
