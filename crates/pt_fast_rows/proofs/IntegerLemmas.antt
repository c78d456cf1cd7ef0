-- Rows of operators at two integers.
use Rattle.std.proofs.Common.{◌≡◌, ◌∙◌, ℤ, Bool, List, [], ◌∷◌, Some, refl, sym, ap, subst}
use Rattle.std.specs.Prelude.{drop, slice_get}
use Rattle.pt_base.specs.declared.numbers.Pc.{Pc}
use Rattle.pt_base.specs.declared.operators.BinOp.{BinOp}
use Rattle.pt_base.specs.declared.operators.BinOp.TheVariants as binary
use Rattle.pt_base.specs.declared.operators.CompareOp.{CompareOp}
use Rattle.pt_base.specs.declared.operators.CompareOp.TheVariants as compare
use Rattle.pt_instr.specs.declared.Instr.TheVariants as instr
use Rattle.pt_heap.specs.declared.value.Value.{Value}
use Rattle.pt_heap.specs.declared.value.Value.TheVariants as value
use Rattle.pt_heap.specs.declared.object.Object.{Object}
use Rattle.pt_frames.specs.declared.slot.Slot.{Slot}
use Rattle.pt_frames.specs.declared.slot.Slot.TheVariants as slot
use Rattle.pt_frames.specs.Slots.{active_in}
use Rattle.pt_ints.specs.declared.answer.IntAns.TheVariants as integer
use Rattle.pt_ints.specs.Answer.{binary_answer}
use Rattle.pt_content.specs.declared.op.Op.{Op}
use Rattle.pt_content.specs.declared.op.Op.TheVariants as op
use Rattle.pt_content.specs.declared.content.Content.TheVariants as content
use Rattle.pt_prims.specs.Arithmetic.{integer_content}
use Rattle.pt_comparisons.specs.Comparisons.{comparison_content}
use Rattle.pt_prims.specs.InPlace.{in_place_content}
use Rattle.pt_prims.specs.Operations.{content_of, placed, grown, prim_answer}
use Rattle.pt_content.specs.declared.answer.PrimAns.TheVariants as prim
use Rattle.pt_operators.specs.pt_moves.sem_rows.declared.heap_rows.progress.Progress.TheVariants as progress
use Rattle.pt_operators.specs.pt_moves.Operands.{two_values}
use Rattle.pt_operators.proofs.pt_moves.TakeLemmas.{two_on, two_off}
use Rattle.pt_operators.specs.Operates.{Operates, progress_of, value_given}
use Rattle.pt_operators.proofs.OperatorLemmas.{operates, binary_values, in_place_values, compare_values}
use Rattle.pt_fast_rows.specs.FastPaths.{FastRow, Led, integer_in, integers_compare}
use Rattle.pt_fast_rows.proofs.ValueLemmas.{at_next}

in_slot : (s : Slot) (n : ℤ) → integer_in (Some s) ≡ Some n → s ≡ slot.Value (value.Int n)
in_slot (slot.Value (value.Int m)) n e = let same : m ≡ n = cc in ap (λ k. slot.Value (value.Int k)) same
in_slot (slot.Value value.None) n e = absurd (cc)
in_slot (slot.Value (value.Bool b)) n e = absurd (cc)
in_slot (slot.Value value.Ellipsis) n e = absurd (cc)
in_slot (slot.Value value.NotImplemented) n e = absurd (cc)
in_slot (slot.Value (value.Obj id)) n e = absurd (cc)
in_slot (slot.Cell c) n e = absurd (cc)
in_slot (slot.Iter v) n e = absurd (cc)
in_slot (slot.Exc v) n e = absurd (cc)
in_slot (slot.Pending c) n e = absurd (cc)
in_slot (slot.With v) n e = absurd (cc)

pub two_there : (slots : List Slot) (a b : ℤ) → integer_in (slice_get slots 0) ≡ Some b → integer_in (slice_get slots 1) ≡ Some a
    → two_values slots ≡ Some (value.Int a, value.Int b)
two_there [] a b e f = absurd (cc)
two_there (s ∷ []) a b e f = absurd (cc)
two_there (s ∷ t ∷ slots) a b e f =
    subst (λ x. two_values (x ∷ t ∷ slots) ≡ Some (value.Int a, value.Int b)) (sym (in_slot s b e))
    (subst (λ x. two_values (slot.Value (value.Int b) ∷ x ∷ slots) ≡ Some (value.Int a, value.Int b)) (sym (in_slot t a f)) refl)

pub replaced : (v : Value) (old mid low new : List Slot) → mid ≡ drop 1 old → low ≡ drop 1 mid → new ≡ slot.Value v ∷ low → new ≡ slot.Value v ∷ drop 2 old
replaced v old mid low new e f g = g ∙ ap (λ l. slot.Value v ∷ l) (f ∙ (ap (λ l. drop 1 l) e ∙ two_off old))

-- the slots below two values are as busy as they are with them
quiet_two : (old : List Slot) (v w : Value) → two_values old ≡ Some (v, w) → (x : Value) (new : List Slot) → new ≡ slot.Value x ∷ drop 2 old
    → active_in new ≡ active_in old
quiet_two old v w e x new f = ap active_in f ∙ sym (ap active_in (two_on old v w e))

-- an augmented assignment to an integer is an operator
integers_in_place : (o : BinOp) (a b : ℤ) (heap : List Object) → in_place_content o heap (value.Int a) (value.Int b) ≡ integer_content (binary_answer o a b)
integers_in_place binary.Add a b heap = refl
integers_in_place binary.Sub a b heap = refl
integers_in_place binary.Mul a b heap = refl
integers_in_place binary.Div a b heap = refl
integers_in_place binary.FloorDiv a b heap = refl
integers_in_place binary.Mod a b heap = refl
integers_in_place binary.Pow a b heap = refl
integers_in_place binary.BitAnd a b heap = refl
integers_in_place binary.BitOr a b heap = refl
integers_in_place binary.BitXor a b heap = refl
integers_in_place binary.LeftShift a b heap = refl
integers_in_place binary.RightShift a b heap = refl

module _ (a b : ℤ) (old new : List Slot) (x : Value) (two : two_values old ≡ Some (value.Int a, value.Int b)) (is : new ≡ slot.Value x ∷ drop 2 old) where
  -- what an operation with a value does
  gives_value : (o : Op) (heap : List Object) → content_of o (value.Int a ∷ value.Int b ∷ []) heap ≡ content.Value x
      → Operates o (value.Int a ∷ value.Int b ∷ []) (drop 2 old) heap progress.Next new heap
  gives_value o heap e =
      operates o (value.Int a ∷ value.Int b ∷ []) (drop 2 old) heap progress.Next new heap (Some x)
      (ap (λ c. value_given (placed c (value.Int a ∷ value.Int b ∷ []) heap)) (sym e)) (ap (λ c. grown c heap) (sym e))
      (ap (λ c. progress_of (placed c (value.Int a ∷ value.Int b ∷ []) heap)) (sym e)) is

  given_value : (o : Op) (heap : List Object) → content_of o (value.Int a ∷ value.Int b ∷ []) heap ≡ content.Value x
      → prim_answer o (value.Int a ∷ value.Int b ∷ []) heap ≡ prim.Value x
  given_value o heap e = ap (λ c. placed c (value.Int a ∷ value.Int b ∷ []) heap) e

  row_of_compare : (o : CompareOp) → ((heap : List Object) → comparison_content o heap (value.Int a) (value.Int b) ≡ content.Value x)
      → FastRow (instr.Compare o) progress.Next old new
  row_of_compare o e = (
    λ heap. compare_values old (drop 2 old) heap progress.Next new heap (value.Int a) (value.Int b) x two refl o
        (given_value (op.Compare o) heap (e heap)) (gives_value (op.Compare o) heap (e heap)),
    quiet_two old _ _ two x new is,
  )

  row_of_binary : (o : BinOp) → integer_content (binary_answer o a b) ≡ content.Value x → FastRow (instr.Binary o) progress.Next old new
  row_of_binary o e = (
    λ heap. binary_values old (drop 2 old) heap progress.Next new heap (value.Int a) (value.Int b) x two refl o
        (given_value (op.Binary o) heap e) (gives_value (op.Binary o) heap e),
    quiet_two old _ _ two x new is,
  )

  row_of_in_place : (o : BinOp) → integer_content (binary_answer o a b) ≡ content.Value x → FastRow (instr.InPlace o) progress.Next old new
  row_of_in_place o e = (
    λ heap. in_place_values old (drop 2 old) heap progress.Next new heap (value.Int a) (value.Int b) x two refl o
        (given_value (op.InPlace o) heap (integers_in_place o a b heap ∙ e)) (gives_value (op.InPlace o) heap (integers_in_place o a b heap ∙ e)),
    quiet_two old _ _ two x new is,
  )

compares : (o : CompareOp) (a b : ℤ) (t : Bool) (heap : List Object) → integers_compare o a b ≡ Some t
    → comparison_content o heap (value.Int a) (value.Int b) ≡ content.Value (value.Bool t)
compares compare.Less a b t heap e = cc
compares compare.LessEqual a b t heap e = cc
compares compare.Greater a b t heap e = cc
compares compare.GreaterEqual a b t heap e = cc
compares compare.Equal a b t heap e = cc
compares compare.NotEqual a b t heap e = cc
compares compare.In a b t heap e = absurd (cc)
compares compare.NotIn a b t heap e = absurd (cc)
compares compare.Is a b t heap e = absurd (cc)
compares compare.IsNot a b t heap e = absurd (cc)

module _ (q : ℤ × ℤ) (next : Pc) (old new : List Slot) (two : two_values old ≡ Some (value.Int q.0, value.Int q.1)) where
  pub compared : (o : CompareOp) (t : Bool) → integers_compare o q.0 q.1 ≡ Some t → new ≡ slot.Value (value.Bool t) ∷ drop 2 old
      → Led next next (λ p. FastRow (instr.Compare o) p old new)
  compared o t e f = at_next next (row_of_compare q.0 q.1 old new (value.Bool t) two f o (λ heap. compares o q.0 q.1 t heap e))

  pub operated : (o : BinOp) (z : ℤ) → integer.Value z ≡ binary_answer o q.0 q.1 → new ≡ slot.Value (value.Int z) ∷ drop 2 old
      → Led next next (λ p. FastRow (instr.Binary o) p old new)
  operated o z e f = at_next next (row_of_binary q.0 q.1 old new (value.Int z) two f o (ap integer_content (sym e)))

  pub operated_in_place : (o : BinOp) (z : ℤ) → integer.Value z ≡ binary_answer o q.0 q.1 → new ≡ slot.Value (value.Int z) ∷ drop 2 old
      → Led next next (λ p. FastRow (instr.InPlace o) p old new)
  operated_in_place o z e f = at_next next (row_of_in_place q.0 q.1 old new (value.Int z) two f o (ap integer_content (sym e)))
