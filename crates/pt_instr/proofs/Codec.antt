-- What reading makes of bytes is what spells them, and what is spelled is read.
use Rattle.std.proofs.Common.{◌≡◌, ◌≤◌, ◌<◌, ◌+◌, ◌*◌, ◌^◌, ℕ, zero, suc, Bool, true, false, cond, List, [], ◌∷◌, ◌++◌, length, take, drop, get_or, Option, None, Some, refl, sym, ap, ◌∙◌, arith, append_assoc, length-append, length-drop}
use Rattle.std.proofs.lemmas.List.{get_or-drop}
use Rattle.std.specs.Prelude.{nat_lt, Result, Ok, Err, OnOk}
use Rattle.std.specs.Option.{option_map}
use Rattle.std.specs.Int.{w32, to_le_bytes, from_le_bytes}
use Rattle.std.specs.List.{AllByRecursion}
use Rattle.std.proofs.lemmas.Nat.{le_bytes_4, from_le_bytes-to_le_bytes_4}
use Rattle.std.proofs.lemmas.Bool.Decides.{nat_tests}
use Rattle.pt_base.specs.declared.operators.UnOp.{UnOp}
use Rattle.pt_base.specs.declared.operators.UnOp.TheVariants as unary
use Rattle.pt_base.specs.declared.operators.BinOp.{BinOp}
use Rattle.pt_base.specs.declared.operators.BinOp.TheVariants as binary
use Rattle.pt_base.specs.declared.operators.CompareOp.{CompareOp}
use Rattle.pt_base.specs.declared.operators.CompareOp.TheVariants as comparison
use Rattle.pt_instr.specs.declared.Conversion.{Conversion}
use Rattle.pt_instr.specs.declared.Conversion.TheVariants as conversion
use Rattle.pt_instr.specs.declared.Instr.{Instr}
use Rattle.pt_instr.specs.declared.Instr.TheVariants as instr
use Rattle.pt_instr.specs.Encoding.{code_of, spelled, encoding, Fits, BeginsWith, StandsAt, unary_number, binary_number, comparison_number, conversion_number}
use Rattle.pt_instr.specs.Decoding.{instr_of, word_of, front_of, unary_of, binary_of, comparison_of, conversion_of, flag_of}

abbrev pub AreBytes : List ℕ → Type 0
AreBytes bytes = (i : ℕ) → get_or bytes i 0 < 256

pub length-spelled : (xs : List ℕ) → length (spelled xs) ≡ 4 * length xs
length-spelled [] = refl
length-spelled (x ∷ xs) = let rest : length (spelled xs) ≡ 4 * length xs = length-spelled xs in omega arith

-- four bytes are those of the word that they spell
word_back : (bytes : List ℕ) → AreBytes bytes → 4 ≤ length bytes → bytes ≡ to_le_bytes w32 (word_of bytes) ++ drop 4 bytes
word_back (a ∷ b ∷ c ∷ d ∷ bytes) are enough =
    sym (ap (λ v. v ++ bytes) (le_bytes_4 (a ∷ b ∷ c ∷ d ∷ []) (from_le_bytes w32 (a ∷ b ∷ c ∷ d ∷ [])) refl (first_four a b c d bytes are) refl))
  where
    first_four : (a b c d : ℕ) (bytes : List ℕ) → AreBytes (a ∷ b ∷ c ∷ d ∷ bytes) → AreBytes (a ∷ b ∷ c ∷ d ∷ [])
    first_four a b c d bytes are zero = are 0
    first_four a b c d bytes are (suc zero) = are 1
    first_four a b c d bytes are (suc (suc zero)) = are 2
    first_four a b c d bytes are (suc (suc (suc zero))) = are 3
    first_four a b c d bytes are (suc (suc (suc (suc i)))) = omega arith
word_back bytes are enough = absurd (omega arith)

bytes_behind : (k : ℕ) (bytes : List ℕ) → AreBytes bytes → AreBytes (drop k bytes)
bytes_behind k bytes are i = rw get_or-drop (are (k + i))

words_from : ℕ → List ℕ → List ℕ
words_from zero bytes = []
words_from (suc k) bytes = word_of bytes ∷ words_from k (drop 4 bytes)

spelled_back : (k : ℕ) (xs bytes : List ℕ) → AreBytes bytes → xs ≡ take (length xs) (words_from k bytes) → 4 * length xs ≤ length bytes
    → (rest : List ℕ) × (bytes ≡ spelled xs ++ rest)
unfolding words_from
spelled_back k [] bytes are e enough = (bytes, refl)
spelled_back zero (x ∷ xs) bytes are e enough = absurd (none_left x xs e)
  where
    none_left : (x : ℕ) (xs : List ℕ) → x ∷ xs ≡ [] → ⊥
    none_left x xs e = cc
spelled_back (suc k) (x ∷ xs) bytes are e enough =
    let head : x ≡ word_of bytes = cc in
    let tail : xs ≡ take (length xs) (words_from k (drop 4 bytes)) = cc in
    let behind = spelled_back k xs (drop 4 bytes) (bytes_behind 4 bytes are) tail (simp length-drop (omega arith)) in
    (behind.0, word_back bytes are (omega arith) ∙ ap (λ w. to_le_bytes w32 w ++ drop 4 bytes) (sym head) ∙ ap (λ r. to_le_bytes w32 x ++ r) behind.1)

front_found : (n : ℕ) (bytes : List ℕ) (i : Instr) → AreBytes bytes → (code_of i).number ≡ n
    → (code_of i).operands ≡ take (length (code_of i).operands) (word_of bytes ∷ word_of (drop 4 bytes) ∷ word_of (drop 4 (drop 4 bytes)) ∷ [])
    → 4 * length (code_of i).operands ≤ length bytes → BeginsWith (n ∷ bytes) i (1 + 4 * length (code_of i).operands)
unfolding words_from
front_found n bytes i are number operands enough =
    let back = spelled_back 3 (code_of i).operands bytes are operands enough in
    (back.0, ap (λ m. m ∷ bytes) (sym number) ∙ ap (λ r. (code_of i).number ∷ r) back.1, omega (arith, length-spelled (code_of i).operands))

-- what is read at the front stands there
pub front_read : (bytes : List ℕ) (n : ℕ) (rest second third : List ℕ) (x y z count : ℕ) (i : Instr) → AreBytes bytes → bytes ≡ n ∷ rest → second ≡ drop 4 rest → third ≡ drop 4 second
    → x ≡ word_of rest → y ≡ word_of second → z ≡ word_of third → (code_of i).number ≡ n → (code_of i).operands ≡ take (length (code_of i).operands) (x ∷ y ∷ z ∷ [])
    → count ≡ length (code_of i).operands → 4 * count ≤ length rest → BeginsWith bytes i (1 + 4 * count)
front_read bytes n rest second third x y z count i are split second_is third_is x_is y_is z_is number operands counted enough =
    let are_rest : AreBytes rest = λ k. let at : get_or rest k 0 ≡ get_or bytes (suc k) 0 = ap (λ v. get_or v (suc k) 0) (sym split) in rw at (are (suc k)) in
    let y_at : y ≡ word_of (drop 4 rest) = y_is ∙ ap word_of second_is in
    let z_at : z ≡ word_of (drop 4 (drop 4 rest)) = z_is ∙ ap word_of (third_is ∙ ap (drop 4) second_is) in
    let words : take (length (code_of i).operands) (x ∷ y ∷ z ∷ []) ≡ take (length (code_of i).operands) (word_of rest ∷ word_of (drop 4 rest) ∷ word_of (drop 4 (drop 4 rest)) ∷ []) =
    λ k. take (length (code_of i).operands) (x_is k ∷ y_at k ∷ z_at k ∷ []) in
    let enough_rest : 4 * length (code_of i).operands ≤ length rest = omega (arith, counted) in
    let found = front_found n rest i are_rest number (operands ∙ words) enough_rest in
    (found.0, split ∙ found.1, ap (λ m. 1 + 4 * m) counted ∙ found.2)

-- an operand that is there is the word at its place
first_again : (xs rest : List ℕ) → AllByRecursion (λ n. n < 2 ^ 32) xs → word_of (spelled xs ++ rest) ≡ get_or xs 0 (word_of (spelled xs ++ rest))
first_again [] rest fit = refl
first_again (x ∷ xs) rest fit = from_le_bytes-to_le_bytes_4 x fit.0

second_again : (xs rest : List ℕ) → AllByRecursion (λ n. n < 2 ^ 32) xs → word_of (drop 4 (spelled xs ++ rest)) ≡ get_or xs 1 (word_of (drop 4 (spelled xs ++ rest)))
second_again [] rest fit = refl
second_again (x ∷ xs) rest fit = first_again xs rest fit.1

third_again : (xs rest : List ℕ) → AllByRecursion (λ n. n < 2 ^ 32) xs → word_of (drop 4 (drop 4 (spelled xs ++ rest))) ≡ get_or xs 2 (word_of (drop 4 (drop 4 (spelled xs ++ rest))))
third_again [] rest fit = refl
third_again (x ∷ xs) rest fit = second_again xs rest fit.1

unary_again : (o : UnOp) → unary_of (unary_number o) ≡ Some o
unary_again unary.Plus = refl
unary_again o = refl

binary_again : (o : BinOp) → binary_of (binary_number o) ≡ Some o
binary_again binary.Add = refl
binary_again o = refl

comparison_again : (o : CompareOp) → comparison_of (comparison_number o) ≡ Some o
comparison_again comparison.Less = refl
comparison_again o = refl

conversion_again : (c : Conversion) → conversion_of (conversion_number c) ≡ Some c
conversion_again conversion.Plain = refl
conversion_again c = refl

flag_again : (b : Bool) → flag_of (cond b 1 0) ≡ Some b
flag_again true = refl
flag_again false = refl

-- an instruction's number and operands stand for it, whatever words follow
instr_again : (i : Instr) (x y z : ℕ) → instr_of (code_of i).number (get_or (code_of i).operands 0 x) (get_or (code_of i).operands 1 y) (get_or (code_of i).operands 2 z) ≡ Some i
unfolding instr_of code_of
instr_again (instr.Unary o) x y z = ap (option_map instr.Unary) (unary_again o)
instr_again (instr.Binary o) x y z = ap (option_map instr.Binary) (binary_again o)
instr_again (instr.InPlace o) x y z = ap (option_map instr.InPlace) (binary_again o)
instr_again (instr.Compare o) x y z = ap (option_map instr.Compare) (comparison_again o)
instr_again (instr.Format c) x y z = ap (option_map instr.Format) (conversion_again c)
instr_again (instr.AssertFail given) x y z = ap (option_map instr.AssertFail) (flag_again given)
instr_again i x y z = refl

not_below : (a b : ℕ) → b ≤ a → nat_lt a b ≡ false
not_below a b h = grind (arith, nat_tests)

front_again : (i : Instr) (rest : List ℕ) → Fits i → front_of (encoding i ++ rest) ≡ Some (i, length (encoding i))
front_again i rest fit =
    let words : instr_of (code_of i).number (word_of (spelled (code_of i).operands ++ rest)) (word_of (drop 4 (spelled (code_of i).operands ++ rest))) (word_of (drop 4 (drop 4 (spelled (code_of i).operands ++ rest)))) ≡ Some i =
    (λ k. instr_of (code_of i).number (first_again (code_of i).operands rest fit k) (second_again (code_of i).operands rest fit k) (third_again (code_of i).operands rest fit k)) ∙ instr_again i _ _ _ in
    let enough : 4 * length (code_of i).operands ≤ length (spelled (code_of i).operands ++ rest) =
    omega (arith, length-append {A = ℕ}, length-spelled (code_of i).operands) in
    let long : nat_lt (length (spelled (code_of i).operands ++ rest)) (4 * length (code_of i).operands) ≡ false = not_below _ _ enough in
    let width : 1 + 4 * length (code_of i).operands ≡ suc (length (spelled (code_of i).operands)) = omega (arith, length-spelled (code_of i).operands) in
    rw (words, long) (ap (λ w. Some (i, w)) width)

-- what begins with the bytes of two instructions begins with those of one
pub one_front : (i j : Instr) (x y : List ℕ) → Fits i → Fits j → encoding i ++ x ≡ encoding j ++ y → i ≡ j
one_front i j x y fit_i fit_j e = ap (first_or i) (sym (front_again i x fit_i) ∙ ap front_of e ∙ front_again j y fit_j)
  where
    first_or : Instr → Option (Instr × ℕ) → Instr
    first_or i None = i
    first_or i (Some found) = found.0

-- where the bytes begin with an instruction, it is read at the front
front_only : (bytes : List ℕ) (i : Instr) (width : ℕ) → Fits i → BeginsWith bytes i width → front_of bytes ≡ Some (i, width)
front_only bytes i width fit begins = ap front_of begins.1 ∙ front_again i begins.0 fit ∙ ap (λ w. Some (i, w)) (sym begins.2)

abbrev pub moved : ℕ → Instr × ℕ → Instr × ℕ
moved at f = (f.0, at + f.1)

-- the same at any place
pub decode_only : (bytes : List ℕ) (at : ℕ) (i : Instr) (end : ℕ) (found : Option (Instr × ℕ)) → found ≡ front_of (drop at bytes) → Fits i → StandsAt bytes i at end
    → option_map (moved at) found ≡ Some (i, end)
decode_only bytes at i end found is fit stands =
    ap (option_map (moved at)) (is ∙ front_only (drop at bytes) i stands.0 fit stands.1) ∙ ap (λ e. Some (i, e)) (sym stands.2)

-- what follows from a fact at an answer
pub on_ok : {A F : Type 0} {P Q : Type 0} (r : Result A F) → (P → Q) → OnOk r P → OnOk r Q
on_ok (Ok x) f h = f h
on_ok (Err e) f h = tt

pub ruleset joined = (append_assoc)
