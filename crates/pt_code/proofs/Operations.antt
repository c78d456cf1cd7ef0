-- Each operation with operands that are below their bounds is an instruction, and each instruction is one.
use Rattle.std.proofs.Common.{◌≡◌, ℕ, zero, suc, ◌+◌, ◌<◌, Bool, true, false, cond, List, [], ◌∷◌, Option, Some, None, refl, sym, ap, subst, arith}
use Rattle.std.specs.Prelude.{slice_index_or}
use Rattle.pt_base.specs.declared.operators.UnOp.{UnOp}
use Rattle.pt_base.specs.declared.operators.UnOp.TheVariants as unary
use Rattle.pt_base.specs.declared.operators.BinOp.{BinOp}
use Rattle.pt_base.specs.declared.operators.BinOp.TheVariants as binary
use Rattle.pt_base.specs.declared.operators.CompareOp.{CompareOp}
use Rattle.pt_base.specs.declared.operators.CompareOp.TheVariants as comparison
use Rattle.pt_instr.specs.declared.Conversion.{Conversion}
use Rattle.pt_instr.specs.declared.Conversion.TheVariants as conversion
use Rattle.pt_instr.specs.declared.Instr.{Instr}
use Rattle.pt_instr.specs.declared.Instr.TheVariants as instr
use Rattle.pt_instr.specs.Encoding.{code_of, unary_number, binary_number, comparison_number, conversion_number}
use Rattle.pt_code.specs.declared.parts.Within.{Within}
use Rattle.pt_code.specs.declared.parts.Operand.{Operand}
use Rattle.pt_code.specs.declared.parts.Operand.TheVariants as operand
use Rattle.pt_code.specs.File.{operands, bound, AreBelow}
use Rattle.pt_code.specs.Reading.{operations, operands_of}

abbrev unary_at : ℕ → UnOp
unary_at zero = unary.Plus
unary_at (suc zero) = unary.Minus
unary_at x = unary.Invert

unary_is : (x : ℕ) → x < 3 → unary_number (unary_at x) ≡ x
unary_is zero h = refl
unary_is (suc zero) h = refl
unary_is (suc (suc zero)) h = refl
unary_is (suc (suc (suc x))) h = absurd (omega arith)

abbrev binary_at : ℕ → BinOp
binary_at zero = binary.Add
binary_at (suc zero) = binary.Sub
binary_at (suc (suc zero)) = binary.Mul
binary_at (suc (suc (suc zero))) = binary.Div
binary_at (suc (suc (suc (suc zero)))) = binary.FloorDiv
binary_at (suc (suc (suc (suc (suc zero))))) = binary.Mod
binary_at (suc (suc (suc (suc (suc (suc zero)))))) = binary.Pow
binary_at (suc (suc (suc (suc (suc (suc (suc zero))))))) = binary.BitAnd
binary_at (suc (suc (suc (suc (suc (suc (suc (suc zero)))))))) = binary.BitOr
binary_at (suc (suc (suc (suc (suc (suc (suc (suc (suc zero))))))))) = binary.BitXor
binary_at (suc (suc (suc (suc (suc (suc (suc (suc (suc (suc zero)))))))))) = binary.LeftShift
binary_at x = binary.RightShift

binary_is : (x : ℕ) → x < 12 → binary_number (binary_at x) ≡ x
binary_is zero h = refl
binary_is (suc zero) h = refl
binary_is (suc (suc zero)) h = refl
binary_is (suc (suc (suc zero))) h = refl
binary_is (suc (suc (suc (suc zero)))) h = refl
binary_is (suc (suc (suc (suc (suc zero))))) h = refl
binary_is (suc (suc (suc (suc (suc (suc zero)))))) h = refl
binary_is (suc (suc (suc (suc (suc (suc (suc zero))))))) h = refl
binary_is (suc (suc (suc (suc (suc (suc (suc (suc zero)))))))) h = refl
binary_is (suc (suc (suc (suc (suc (suc (suc (suc (suc zero))))))))) h = refl
binary_is (suc (suc (suc (suc (suc (suc (suc (suc (suc (suc zero)))))))))) h = refl
binary_is (suc (suc (suc (suc (suc (suc (suc (suc (suc (suc (suc zero))))))))))) h = refl
binary_is (suc (suc (suc (suc (suc (suc (suc (suc (suc (suc (suc (suc x)))))))))))) h = absurd (omega arith)

abbrev comparison_at : ℕ → CompareOp
comparison_at zero = comparison.Less
comparison_at (suc zero) = comparison.LessEqual
comparison_at (suc (suc zero)) = comparison.Greater
comparison_at (suc (suc (suc zero))) = comparison.GreaterEqual
comparison_at (suc (suc (suc (suc zero)))) = comparison.Equal
comparison_at (suc (suc (suc (suc (suc zero))))) = comparison.NotEqual
comparison_at (suc (suc (suc (suc (suc (suc zero)))))) = comparison.In
comparison_at (suc (suc (suc (suc (suc (suc (suc zero))))))) = comparison.NotIn
comparison_at (suc (suc (suc (suc (suc (suc (suc (suc zero)))))))) = comparison.Is
comparison_at x = comparison.IsNot

comparison_is : (x : ℕ) → x < 10 → comparison_number (comparison_at x) ≡ x
comparison_is zero h = refl
comparison_is (suc zero) h = refl
comparison_is (suc (suc zero)) h = refl
comparison_is (suc (suc (suc zero))) h = refl
comparison_is (suc (suc (suc (suc zero)))) h = refl
comparison_is (suc (suc (suc (suc (suc zero))))) h = refl
comparison_is (suc (suc (suc (suc (suc (suc zero)))))) h = refl
comparison_is (suc (suc (suc (suc (suc (suc (suc zero))))))) h = refl
comparison_is (suc (suc (suc (suc (suc (suc (suc (suc zero)))))))) h = refl
comparison_is (suc (suc (suc (suc (suc (suc (suc (suc (suc zero))))))))) h = refl
comparison_is (suc (suc (suc (suc (suc (suc (suc (suc (suc (suc x)))))))))) h = absurd (omega arith)

abbrev conversion_at : ℕ → Conversion
conversion_at zero = conversion.Plain
conversion_at (suc zero) = conversion.Str
conversion_at x = conversion.Repr

conversion_is : (x : ℕ) → x < 3 → conversion_number (conversion_at x) ≡ x
conversion_is zero h = refl
conversion_is (suc zero) h = refl
conversion_is (suc (suc zero)) h = refl
conversion_is (suc (suc (suc x))) h = absurd (omega arith)

abbrev flag_at : ℕ → Bool
flag_at zero = false
flag_at x = true

flag_is : (x : ℕ) → x < 2 → cond (flag_at x) 1 0 ≡ x
flag_is zero h = refl
flag_is (suc zero) h = refl
flag_is (suc (suc x)) h = absurd (omega arith)

-- an instruction with this number, these operands, and what they are
pub record IsInstr (number : ℕ) (os : List Operand) (xs : List ℕ) : Type 0 where
  pub instr : Instr
  pub numbered : (code_of instr).number ≡ number
  pub has : (code_of instr).operands ≡ xs
  pub kinds : operands instr ≡ os

abbrev Row : Within → ℕ → Option (List Operand) → Type 0
Row within number None = Unit {0}
Row within number (Some os) = (xs : List ℕ) → AreBelow within os xs → IsInstr number os xs

abbrev Rows : Within → ℕ → List (Option (List Operand)) → Type 0
Rows within number [] = Unit {0}
Rows within number (row ∷ rows) = Row within number row × Rows within (suc number) rows

none_row : (within : Within) (i : Instr) → (code_of i).operands ≡ [] → operands i ≡ [] → Row within (code_of i).number (Some [])
none_row within i has kinds [] below = record { instr = i; numbered = refl; has = has; kinds = kinds }
none_row within i has kinds (x ∷ xs) below = absurd below

one_row : (within : Within) (o : Operand) (number : ℕ) (make : ℕ → Instr) → ((x : ℕ) → (code_of (make x)).number ≡ number) → ((x : ℕ) → x < bound within o → (code_of (make x)).operands ≡ x ∷ []) → ((x : ℕ) → operands (make x) ≡ o ∷ []) → Row within number (Some (o ∷ []))
one_row within o number make numbered has kinds [] below = absurd below
one_row within o number make numbered has kinds (x ∷ []) below = record { instr = make x; numbered = numbered x; has = has x below.0.1; kinds = kinds x }
one_row within o number make numbered has kinds (x ∷ y ∷ xs) below = absurd below.1

two_row : (within : Within) (o p : Operand) (number : ℕ) (make : ℕ → ℕ → Instr) → ((x y : ℕ) → (code_of (make x y)).number ≡ number) → ((x y : ℕ) → (code_of (make x y)).operands ≡ x ∷ y ∷ []) → ((x y : ℕ) → operands (make x y) ≡ o ∷ p ∷ []) → Row within number (Some (o ∷ p ∷ []))
two_row within o p number make numbered has kinds [] below = absurd below
two_row within o p number make numbered has kinds (x ∷ []) below = absurd below.1
two_row within o p number make numbered has kinds (x ∷ y ∷ []) below = record { instr = make x y; numbered = numbered x y; has = has x y; kinds = kinds x y }
two_row within o p number make numbered has kinds (x ∷ y ∷ z ∷ xs) below = absurd below.1.1

three_row : (within : Within) (o p q : Operand) (number : ℕ) (make : ℕ → ℕ → ℕ → Instr) → ((x y z : ℕ) → (code_of (make x y z)).number ≡ number) → ((x y z : ℕ) → (code_of (make x y z)).operands ≡ x ∷ y ∷ z ∷ []) → ((x y z : ℕ) → operands (make x y z) ≡ o ∷ p ∷ q ∷ []) → Row within number (Some (o ∷ p ∷ q ∷ []))
three_row within o p q number make numbered has kinds [] below = absurd below
three_row within o p q number make numbered has kinds (x ∷ []) below = absurd below.1
three_row within o p q number make numbered has kinds (x ∷ y ∷ []) below = absurd below.1.1
three_row within o p q number make numbered has kinds (x ∷ y ∷ z ∷ []) below = record { instr = make x y z; numbered = numbered x y z; has = has x y z; kinds = kinds x y z }
three_row within o p q number make numbered has kinds (x ∷ y ∷ z ∷ u ∷ xs) below = absurd below.1.1.1

all_rows : (within : Within) → Rows within 0 operations
unfolding code_of
all_rows within = (
  none_row within instr.Nop refl refl,
  (
    one_row within operand.Constant 1 (λ x. instr.Const (record { 0 = x })) (λ x. refl) (λ x h. refl) (λ x. refl),
    (
      one_row within operand.Local 2 (λ x. instr.Local (record { 0 = x })) (λ x. refl) (λ x h. refl) (λ x. refl),
      (
        one_row within operand.Local 3 (λ x. instr.SetLocal (record { 0 = x })) (λ x. refl) (λ x h. refl) (λ x. refl),
        (
          one_row within operand.Local 4 (λ x. instr.DelLocal (record { 0 = x })) (λ x. refl) (λ x h. refl) (λ x. refl),
          (
            one_row within operand.Cell 5 (λ x. instr.Cell (record { 0 = x })) (λ x. refl) (λ x h. refl) (λ x. refl),
            (
              one_row within operand.Cell 6 (λ x. instr.SetCell (record { 0 = x })) (λ x. refl) (λ x h. refl) (λ x. refl),
              (
                one_row within operand.Cell 7 (λ x. instr.DelCell (record { 0 = x })) (λ x. refl) (λ x h. refl) (λ x. refl),
                (
                  one_row within operand.Text 8 (λ x. instr.Global (record { 0 = x })) (λ x. refl) (λ x h. refl) (λ x. refl),
                  (
                    one_row within operand.Text 9 (λ x. instr.SetGlobal (record { 0 = x })) (λ x. refl) (λ x h. refl) (λ x. refl),
                    (
                      one_row within operand.Text 10 (λ x. instr.DelGlobal (record { 0 = x })) (λ x. refl) (λ x h. refl) (λ x. refl),
                      (
                        one_row within operand.Text 11 (λ x. instr.Name (record { 0 = x })) (λ x. refl) (λ x h. refl) (λ x. refl),
                        (
                          one_row within operand.Text 12 (λ x. instr.SetName (record { 0 = x })) (λ x. refl) (λ x h. refl) (λ x. refl),
                          (
                            one_row within operand.Text 13 (λ x. instr.DelName (record { 0 = x })) (λ x. refl) (λ x h. refl) (λ x. refl),
                            (
                              one_row within operand.Cell 14 (λ x. instr.PushCell (record { 0 = x })) (λ x. refl) (λ x h. refl) (λ x. refl),
                              (
                                none_row within instr.Pop refl refl,
                                (
                                  none_row within instr.Copy refl refl,
                                  (
                                    none_row within instr.Copy2 refl refl,
                                    (
                                      none_row within instr.Swap refl refl,
                                      (
                                        none_row within instr.Rot3 refl refl,
                                        (
                                          one_row within operand.Text 20 (λ x. instr.Attr (record { 0 = x })) (λ x. refl) (λ x h. refl) (λ x. refl),
                                          (
                                            one_row within operand.Text 21 (λ x. instr.SetAttr (record { 0 = x })) (λ x. refl) (λ x h. refl) (λ x. refl),
                                            (
                                              one_row within operand.Text 22 (λ x. instr.DelAttr (record { 0 = x })) (λ x. refl) (λ x h. refl) (λ x. refl),
                                              (
                                                none_row within instr.Item refl refl,
                                                (
                                                  none_row within instr.SetItem refl refl,
                                                  (
                                                    none_row within instr.DelItem refl refl,
                                                    (
                                                      none_row within instr.Slice refl refl,
                                                      (
                                                        one_row within operand.Unary 27 (λ x. instr.Unary (unary_at x)) (λ x. refl) (λ x h. ap (λ n. n ∷ []) (unary_is x h)) (λ x. refl),
                                                        (
                                                          none_row within instr.Not refl refl,
                                                          (
                                                            one_row within operand.Binary 29 (λ x. instr.Binary (binary_at x)) (λ x. refl) (λ x h. ap (λ n. n ∷ []) (binary_is x h)) (λ x. refl),
                                                            (
                                                              one_row within operand.Binary 30 (λ x. instr.InPlace (binary_at x)) (λ x. refl) (λ x h. ap (λ n. n ∷ []) (binary_is x h)) (λ x. refl),
                                                              (
                                                                one_row within operand.Comparison 31 (λ x. instr.Compare (comparison_at x)) (λ x. refl) (λ x h. ap (λ n. n ∷ []) (comparison_is x h)) (λ x. refl),
                                                                (
                                                                  one_row within operand.Number 32 (λ x. instr.Tuple x) (λ x. refl) (λ x h. refl) (λ x. refl),
                                                                  (
                                                                    one_row within operand.Number 33 (λ x. instr.List x) (λ x. refl) (λ x h. refl) (λ x. refl),
                                                                    (
                                                                      one_row within operand.Number 34 (λ x. instr.Set x) (λ x. refl) (λ x h. refl) (λ x. refl),
                                                                      (
                                                                        one_row within operand.Number 35 (λ x. instr.Dict x) (λ x. refl) (λ x h. refl) (λ x. refl),
                                                                        (
                                                                          one_row within operand.Number 36 (λ x. instr.ListAdd x) (λ x. refl) (λ x h. refl) (λ x. refl),
                                                                          (
                                                                            one_row within operand.Number 37 (λ x. instr.SetAdd x) (λ x. refl) (λ x h. refl) (λ x. refl),
                                                                            (
                                                                              one_row within operand.Number 38 (λ x. instr.DictAdd x) (λ x. refl) (λ x h. refl) (λ x. refl),
                                                                              (
                                                                                one_row within operand.Conversion 39 (λ x. instr.Format (conversion_at x)) (λ x. refl) (λ x h. ap (λ n. n ∷ []) (conversion_is x h)) (λ x. refl),
                                                                                (
                                                                                  one_row within operand.Number 40 (λ x. instr.Join x) (λ x. refl) (λ x h. refl) (λ x. refl),
                                                                                  (
                                                                                    one_row within operand.Number 41 (λ x. instr.Unpack x) (λ x. refl) (λ x h. refl) (λ x. refl),
                                                                                    (
                                                                                      two_row within operand.Number operand.Number 42 (λ x y. instr.UnpackStar x y) (λ x y. refl) (λ x y. refl) (λ x y. refl),
                                                                                      (
                                                                                        none_row within instr.Spread refl refl,
                                                                                        (
                                                                                          none_row within instr.SpreadMap refl refl,
                                                                                          (
                                                                                            one_row within operand.Number 45 (λ x. instr.Call x) (λ x. refl) (λ x h. refl) (λ x. refl),
                                                                                            (
                                                                                              two_row within operand.Number operand.List 46 (λ x y. instr.CallKw x (record { 0 = y })) (λ x y. refl) (λ x y. refl) (λ x y. refl),
                                                                                              (
                                                                                                two_row within operand.Number operand.List 47 (λ x y. instr.CallSpread x (record { 0 = y })) (λ x y. refl) (λ x y. refl) (λ x y. refl),
                                                                                                (
                                                                                                  three_row within operand.Block operand.Number operand.List 48 (λ x y z. instr.MakeFunction (record { 0 = x }) y (record { 0 = z })) (λ x y z. refl) (λ x y z. refl) (λ x y z. refl),
                                                                                                  (
                                                                                                    one_row within operand.Block 49 (λ x. instr.MakeClass (record { 0 = x })) (λ x. refl) (λ x h. refl) (λ x. refl),
                                                                                                    (
                                                                                                      one_row within operand.Block 50 (λ x. instr.MakeGenerator (record { 0 = x })) (λ x. refl) (λ x h. refl) (λ x. refl),
                                                                                                      (
                                                                                                        none_row within instr.Iter refl refl,
                                                                                                        (
                                                                                                          one_row within operand.Number 52 (λ x. instr.Next (record { 0 = x })) (λ x. refl) (λ x h. refl) (λ x. refl),
                                                                                                          (
                                                                                                            one_row within operand.Number 53 (λ x. instr.Jump (record { 0 = x })) (λ x. refl) (λ x h. refl) (λ x. refl),
                                                                                                            (
                                                                                                              one_row within operand.Number 54 (λ x. instr.JumpIf (record { 0 = x })) (λ x. refl) (λ x h. refl) (λ x. refl),
                                                                                                              (
                                                                                                                one_row within operand.Number 55 (λ x. instr.JumpUnless (record { 0 = x })) (λ x. refl) (λ x h. refl) (λ x. refl),
                                                                                                                (
                                                                                                                  one_row within operand.Number 56 (λ x. instr.JumpIfKeep (record { 0 = x })) (λ x. refl) (λ x h. refl) (λ x. refl),
                                                                                                                  (
                                                                                                                    one_row within operand.Number 57 (λ x. instr.JumpUnlessKeep (record { 0 = x })) (λ x. refl) (λ x h. refl) (λ x. refl),
                                                                                                                    (
                                                                                                                      none_row within instr.Return refl refl,
                                                                                                                      (
                                                                                                                        none_row within instr.Yield refl refl,
                                                                                                                        (
                                                                                                                          none_row within instr.Delegate refl refl,
                                                                                                                          (
                                                                                                                            none_row within instr.Raise refl refl,
                                                                                                                            (
                                                                                                                              none_row within instr.RaiseFrom refl refl,
                                                                                                                              (
                                                                                                                                none_row within instr.RaiseAgain refl refl,
                                                                                                                                (
                                                                                                                                  none_row within instr.Match refl refl,
                                                                                                                                  (
                                                                                                                                    none_row within instr.Caught refl refl,
                                                                                                                                    (
                                                                                                                                      none_row within instr.EndHandler refl refl,
                                                                                                                                      (
                                                                                                                                        none_row within instr.Rethrow refl refl,
                                                                                                                                        (
                                                                                                                                          none_row within instr.Enter refl refl,
                                                                                                                                          (
                                                                                                                                            none_row within instr.Normal refl refl,
                                                                                                                                            (
                                                                                                                                              none_row within instr.Exit refl refl,
                                                                                                                                              (
                                                                                                                                                none_row within instr.EndFinally refl refl,
                                                                                                                                                (
                                                                                                                                                  one_row within operand.Number 72 (λ x. instr.Leave (record { 0 = x })) (λ x. refl) (λ x h. refl) (λ x. refl),
                                                                                                                                                  (
                                                                                                                                                    one_row within operand.Text 73 (λ x. instr.Import (record { 0 = x })) (λ x. refl) (λ x h. refl) (λ x. refl),
                                                                                                                                                    (
                                                                                                                                                      one_row within operand.Text 74 (λ x. instr.ImportName (record { 0 = x })) (λ x. refl) (λ x h. refl) (λ x. refl),
                                                                                                                                                      (
                                                                                                                                                        one_row within operand.Flag 75 (λ x. instr.AssertFail (flag_at x)) (λ x. refl) (λ x h. ap (λ n. n ∷ []) (flag_is x h)) (λ x. refl),
                                                                                                                                                        (
                                                                                                                                                          none_row within instr.TupleJoin refl refl,
                                                                                                                                                          (
                                                                                                                                                            none_row within instr.DictMerge refl refl,
                                                                                                                                                            (
                                                                                                                                                              none_row within instr.Super refl refl,
                                                                                                                                                              (
                                                                                                                                                                one_row within operand.Local 79 (λ x. instr.FreshLocal (record { 0 = x })) (λ x. refl) (λ x h. refl) (λ x. refl),
                                                                                                                                                                (
                                                                                                                                                                  one_row within operand.Cell 80 (λ x. instr.FreshCell (record { 0 = x })) (λ x. refl) (λ x h. refl) (λ x. refl),
                                                                                                                                                                  tt,
                                                                                                                                                                ),
                                                                                                                                                              ),
                                                                                                                                                            ),
                                                                                                                                                          ),
                                                                                                                                                        ),
                                                                                                                                                      ),
                                                                                                                                                    ),
                                                                                                                                                  ),
                                                                                                                                                ),
                                                                                                                                              ),
                                                                                                                                            ),
                                                                                                                                          ),
                                                                                                                                        ),
                                                                                                                                      ),
                                                                                                                                    ),
                                                                                                                                  ),
                                                                                                                                ),
                                                                                                                              ),
                                                                                                                            ),
                                                                                                                          ),
                                                                                                                        ),
                                                                                                                      ),
                                                                                                                    ),
                                                                                                                  ),
                                                                                                                ),
                                                                                                              ),
                                                                                                            ),
                                                                                                          ),
                                                                                                        ),
                                                                                                      ),
                                                                                                    ),
                                                                                                  ),
                                                                                                ),
                                                                                              ),
                                                                                            ),
                                                                                          ),
                                                                                        ),
                                                                                      ),
                                                                                    ),
                                                                                  ),
                                                                                ),
                                                                              ),
                                                                            ),
                                                                          ),
                                                                        ),
                                                                      ),
                                                                    ),
                                                                  ),
                                                                ),
                                                              ),
                                                            ),
                                                          ),
                                                        ),
                                                      ),
                                                    ),
                                                  ),
                                                ),
                                              ),
                                            ),
                                          ),
                                        ),
                                      ),
                                    ),
                                  ),
                                ),
                              ),
                            ),
                          ),
                        ),
                      ),
                    ),
                  ),
                ),
              ),
            ),
          ),
        ),
      ),
    ),
  ),
)

row_at : (within : Within) (rows : List (Option (List Operand))) (from k number : ℕ) (os : List Operand) → Rows within from rows → number ≡ from + k → slice_index_or rows k None ≡ Some os → Row within number (Some os)
row_at within [] from k number os all at e = absurd cc
row_at within (row ∷ rows) from zero number os all at e = let here : number ≡ from = omega arith in subst (Row within number) e (subst (λ (n : ℕ). Row within n row) (sym here) all.0)
row_at within (row ∷ rows) from (suc k) number os all at e = row_at within rows (suc from) k number os all.1 (omega arith) e

-- an operation with operands below their bounds is an instruction
pub operation_is : (within : Within) (number : ℕ) (os : List Operand) (xs : List ℕ) → operands_of number ≡ Some os → AreBelow within os xs → IsInstr number os xs
unfolding operands_of
operation_is within number os xs e below = row_at within operations 0 number number os (all_rows within) (omega arith) e xs below

-- an instruction's number tells its operands
pub operands_again : (i : Instr) → operands_of (code_of i).number ≡ Some (operands i)
unfolding operands_of code_of
operands_again instr.Nop = refl
operands_again i = refl
