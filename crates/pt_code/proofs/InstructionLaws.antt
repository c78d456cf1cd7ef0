-- Instructions in a row are read as they are spelled.
use Rattle.std.proofs.Common.{◌≡◌, ℕ, zero, suc, ◌+◌, ◌-◌, ◌*◌, ◌<◌, ◌≤◌, Bool, true, false, cond, List, [], ◌∷◌, ◌++◌, length, take, Option, Some, None, Result, Ok, Err, refl, sym, ap, subst, ◌∙◌, append_assoc, arith}
use Rattle.std.specs.Prelude.{nat_lt, nat_eq}
use Rattle.std.specs.List.{flat_map, AllByRecursion}
use Rattle.std.proofs.lemmas.Bool.{ltb-false, le-ltb}
use Rattle.std.proofs.lemmas.Bool.Decides.{nat_tests}
use Rattle.std.proofs.lemmas.List.{take_at, length-append}
use Rattle.std.proofs.lemmas.List.Concat.{flat_map-cons}
use Rattle.pt_instr.specs.declared.Instr.{Instr}
use Rattle.pt_instr.specs.Encoding.{code_of, encoding, spelled}
use Rattle.pt_instr.proofs.Codec.{length-spelled}
use Rattle.pt_code.specs.declared.parts.Bad.{Bad}
use Rattle.pt_code.specs.declared.parts.Bad.TheVariants as bad
use Rattle.pt_code.specs.declared.parts.Within.{Within}
use Rattle.pt_code.specs.declared.parts.Operand.{Operand}
use Rattle.pt_code.specs.File.{number, text, operands, bound, IsNumber, AreBelow, NamesAll, AreInstructions}
use Rattle.pt_code.specs.Reading.{◌>>=◌, kept, number_at, below_at, taken_at, operands_of, operands_at, behind_operation, instr_at, pass, instructions_at}
use Rattle.pt_code.proofs.Codecs.{AreBytes, rest_are, Takes, takes_then, bind_ok, ok_is, IsCodec, kept_codec, number_codec, below_codec, taken_codec}
use Rattle.pt_code.proofs.Operations.{operation_is, operands_again}

as_many : (within : Within) (os : List Operand) (xs : List ℕ) → AreBelow within os xs → length os ≡ length xs
as_many within [] [] below = refl
as_many within [] (x ∷ xs) below = absurd below
as_many within (o ∷ os) [] below = absurd below
as_many within (o ∷ os) (x ∷ xs) below = ap suc (as_many within os xs below.1)

-- operands that are read
record ReadOperands (within : Within) (os : List Operand) (bytes rest : List ℕ) : Type 0 where
  pub xs : List ℕ
  pub takes : Takes bytes (spelled xs) rest
  pub below : AreBelow within os xs

abbrev done_at : List ℕ → Result (List ℕ) Bad
done_at x = Ok x

done_is : (x y : List ℕ) → done_at x ≡ done_at y → x ≡ y
done_is x y e = cc

operands_take : (within : Within) (os : List Operand) (bytes rest : List ℕ) → AreBytes bytes → operands_at within os bytes ≡ Ok rest → ReadOperands within os bytes rest
unfolding number
operands_take within [] bytes rest fits e = record { xs = []; takes = record { parts = done_is bytes rest e; rest_fits = subst AreBytes (done_is bytes rest e) fits }; below = tt }
operands_take within (o ∷ os) bytes rest fits e =
    let a = bind_ok (below_at (bound within o) bytes) (λ n. operands_at within os n.1) rest e in
    let one = (below_codec (bound within o)).takes bytes a.0.0 a.0.1 fits a.1 in
    let more = operands_take within os a.0.1 rest one.0.rest_fits a.2 in
    record { xs = a.0.0 ∷ more.xs; takes = takes_then bytes (number a.0.0) a.0.1 (spelled more.xs) rest one.0 more.takes; below = (one.1, more.below) }

operands_read : (within : Within) (os : List Operand) (xs rest : List ℕ) → AreBelow within os xs → operands_at within os (spelled xs ++ rest) ≡ Ok rest
unfolding number
operands_read within [] [] rest below = refl
operands_read within [] (x ∷ xs) rest below = absurd below
operands_read within (o ∷ os) [] rest below = absurd below
operands_read within (o ∷ os) (x ∷ xs) rest below =
    ap (operands_at within (o ∷ os)) (append_assoc (number x) (spelled xs) rest) ∙ rw ((below_codec (bound within o)).again x (spelled xs ++ rest) below.0) (operands_read within os xs rest below.1)

record ReadInstr (within : Within) (left : ℕ) (bytes behind : List ℕ) (less : ℕ) : Type 0 where
  pub instr : Instr
  pub takes : Takes bytes (encoding instr) behind
  pub named : NamesAll within instr
  pub width : left ≡ length (encoding instr) + less

width_of : (within : Within) (i : Instr) → NamesAll within i → 1 + 4 * length (operands i) ≡ length (encoding i)
width_of within i named =
    let same : length (operands i) ≡ length (code_of i).operands = as_many within (operands i) (code_of i).operands named in
    omega (arith, same, length-spelled (code_of i).operands)

guard_bind : {A : Type 0} (b : Bool) (d : Bad) (r : Result A Bad) (y : A) → cond b (Err d) r ≡ Ok y → (b ≡ false) × (r ≡ Ok y)
guard_bind true d r y e = absurd cc
guard_bind false d r y e = (refl, e)

operation_takes : (within : Within) (left n : ℕ) (rest : List ℕ) (os : Option (List Operand)) (behind : List ℕ) (less : ℕ) → AreBytes (n ∷ rest) → operands_of n ≡ os → behind_operation within left (n ∷ rest) rest os ≡ Ok (behind, less)
    → ReadInstr within left (n ∷ rest) behind less
operation_takes within left n rest None behind less fits is e = absurd cc
operation_takes within left n rest (Some os) behind less fits is e =
    let g = guard_bind (nat_lt left (1 + 4 * length os)) (bad.Field (length (n ∷ rest))) (operands_at within os rest >>= λ end. Ok (end, left - (1 + 4 * length os))) (behind, less) e in
    let a = bind_ok (operands_at within os rest) (λ end. Ok (end, left - (1 + 4 * length os))) (behind, less) g.1 in
    let read = operands_take within os rest a.0 (rest_are n rest fits) a.1 in
    let is_one = operation_is within n os read.xs is read.below in
    let fields = ok_is (a.0, left - (1 + 4 * length os)) (behind, less) a.2 in
    let end_is : a.0 ≡ behind = ap (λ (p : List ℕ × ℕ). p.0) fields in
    let less_is : left - (1 + 4 * length os) ≡ less = ap (λ (p : List ℕ × ℕ). p.1) fields in
    let long : 1 + 4 * length os ≤ left = ltb-false _ _ g.0 in
    let named : NamesAll within is_one.instr = subst (λ (k : List Operand). AreBelow within k (code_of is_one.instr).operands) (sym is_one.kinds) (subst (AreBelow within os) (sym is_one.has) read.below) in
    let wide = width_of within is_one.instr named in
    let kinds : length (operands is_one.instr) ≡ length os = ap length is_one.kinds in
    let numbered = sym is_one.numbered in
    let has = sym is_one.has in
    let spelling : n ∷ spelled read.xs ≡ encoding is_one.instr = λ k. numbered k ∷ spelled (has k) in
    record {
      instr = is_one.instr;
      takes = record { parts = ap (λ (l : List ℕ). n ∷ l) read.takes.parts ∙ ap (λ (l : List ℕ). l ++ a.0) spelling ∙ ap (λ (l : List ℕ). encoding is_one.instr ++ l) end_is; rest_fits = subst AreBytes end_is read.takes.rest_fits };
      named = named;
      width = omega (arith, wide, kinds, less_is);
    }

instr_takes : (within : Within) (left : ℕ) (bytes behind : List ℕ) (less : ℕ) → AreBytes bytes → instr_at within left bytes ≡ Ok (behind, less) → ReadInstr within left bytes behind less
unfolding instr_at
instr_takes within left [] behind less fits e = absurd cc
instr_takes within left (n ∷ rest) behind less fits e = operation_takes within left n rest (operands_of n) behind less fits refl e

instr_read : (within : Within) (left : ℕ) (i : Instr) (rest : List ℕ) → NamesAll within i → length (encoding i) ≤ left → instr_at within left (encoding i ++ rest) ≡ Ok (rest, left - length (encoding i))
unfolding instr_at
instr_read within left i rest named fits =
    let wide = width_of within i named in
    let long : nat_lt left (1 + 4 * length (operands i)) ≡ false = le-ltb _ _ (omega (arith, wide)) in
    rw (operands_again i, long, operands_read within (operands i) (code_of i).operands rest named) (λ k. Ok (rest, left - wide k))

record ReadInstrs (within : Within) (left : ℕ) (bytes behind : List ℕ) : Type 0 where
  pub instrs : List Instr
  pub takes : Takes bytes (flat_map encoding instrs) behind
  pub named : AllByRecursion (NamesAll within) instrs
  pub width : left ≡ length (flat_map encoding instrs)

none_left : (within : Within) (left : ℕ) (bytes behind : List ℕ) → AreBytes bytes → left ≡ 0 → done_at bytes ≡ done_at behind → ReadInstrs within left bytes behind
none_left within left bytes behind fits none e = record { instrs = []; takes = record { parts = done_is bytes behind e; rest_fits = subst AreBytes (done_is bytes behind e) fits }; named = tt; width = none }

not_done : (b : Bool) (x : List ℕ) (r : Result (List ℕ) Bad) (y : List ℕ) → b ≡ false → cond b (Ok x) r ≡ Ok y → r ≡ Ok y
not_done true x r y not e = absurd cc
not_done false x r y not e = e

not_zero : (n : ℕ) → nat_eq (suc n) 0 ≡ false
not_zero n = grind (arith, nat_tests)

pass_takes : (within : Within) (most left : ℕ) (bytes behind : List ℕ) → AreBytes bytes → left ≤ most → pass within most left bytes ≡ Ok behind → ReadInstrs within left bytes behind
pass_takes within zero left bytes behind fits few e = none_left within left bytes behind fits (omega arith) e
pass_takes within (suc most) zero bytes behind fits few e = none_left within zero bytes behind fits refl e
pass_takes within (suc most) (suc left) bytes behind fits few e =
    let goes_on = not_done (nat_eq (suc left) 0) bytes (instr_at within (suc left) bytes >>= λ i. pass within most i.1 i.0) behind (not_zero left) e in
    let a = bind_ok (instr_at within (suc left) bytes) (λ i. pass within most i.1 i.0) behind goes_on in
    let one = instr_takes within (suc left) bytes a.0.0 a.0.1 fits a.1 in
    let wide : length (encoding one.instr) ≡ suc (length (spelled (code_of one.instr).operands)) = refl in
    let more = pass_takes within most a.0.1 a.0.0 behind one.takes.rest_fits (omega (arith, one.width, wide)) a.2 in
    let cons = flat_map-cons encoding one.instr more.instrs in
    record {
      instrs = one.instr ∷ more.instrs;
      takes = rw cons (takes_then bytes (encoding one.instr) a.0.0 (flat_map encoding more.instrs) behind one.takes more.takes);
      named = (one.named, more.named);
      width = one.width ∙ ap (λ (k : ℕ). length (encoding one.instr) + k) more.width ∙ sym (length-append (encoding one.instr) (flat_map encoding more.instrs)) ∙ ap length (sym cons);
    }

pass_reads : (within : Within) (instrs : List Instr) (most : ℕ) (rest : List ℕ) → AllByRecursion (NamesAll within) instrs → length (flat_map encoding instrs) ≤ most → pass within most (length (flat_map encoding instrs)) (flat_map encoding instrs ++ rest) ≡ Ok rest
pass_reads within [] zero rest named few = refl
pass_reads within [] (suc most) rest named few = refl
pass_reads within (i ∷ instrs) zero rest named few = absurd (omega (arith, ap length (flat_map-cons encoding i instrs), length-append (encoding i) (flat_map encoding instrs)))
pass_reads within (i ∷ instrs) (suc most) rest named few =
    let tail = flat_map encoding instrs in
    let cons = flat_map-cons encoding i instrs in
    let total : length (flat_map encoding (i ∷ instrs)) ≡ length (encoding i) + length tail = ap length cons ∙ length-append (encoding i) tail in
    let some : nat_eq (length (encoding i) + length tail) 0 ≡ false = grind (arith, nat_tests) in
    let left : length (encoding i) + length tail - length (encoding i) ≡ length tail = omega arith in
    let more : length tail ≤ most = omega (arith, total) in
    let regrouped : flat_map encoding (i ∷ instrs) ++ rest ≡ encoding i ++ (tail ++ rest) = ap (λ (l : List ℕ). l ++ rest) cons ∙ append_assoc (encoding i) tail rest in
    (λ k. pass within (suc most) (total k) (regrouped k))
    ∙ rw (some, instr_read within (length (encoding i) + length tail) i (tail ++ rest) named.0 (omega arith), left) (pass_reads within instrs most rest named.1 more)

nat_lt_zero : (n : ℕ) → nat_lt 0 n ≡ true → 0 < n
nat_lt_zero n e = grind (arith, nat_tests)

zero_nat_lt : (n : ℕ) → 0 < n → nat_lt 0 n ≡ true
zero_nat_lt n h = grind (arith, nat_tests)

pub size_codec : IsCodec (λ n. IsNumber n × (nat_lt 0 n ≡ true)) number (kept (nat_lt 0) number_at)
size_codec = kept_codec IsNumber number (nat_lt 0) number_at number_codec

instructions_take : (within : Within) (bytes x rest : List ℕ) → AreBytes bytes → instructions_at within bytes ≡ Ok (x, rest) → Takes bytes (text x) rest × AreInstructions within x
unfolding instructions_at
instructions_take within bytes x rest fits e =
    let a = bind_ok (kept (nat_lt 0) number_at bytes) (λ count. pass within count.0 count.0 count.1 >>= λ behind. taken_at count.0 count.1) (x, rest) e in
    let b = bind_ok (pass within a.0.0 a.0.0 a.0.1) (λ behind. taken_at a.0.0 a.0.1) (x, rest) a.2 in
    let one = size_codec.takes bytes a.0.0 a.0.1 fits a.1 in
    let instrs = pass_takes within a.0.0 a.0.0 a.0.1 b.0 one.0.rest_fits (omega arith) b.1 in
    let two = (taken_codec a.0.0).takes a.0.1 x rest one.0.rest_fits b.2 in
    let taken : x ≡ flat_map encoding instrs.instrs = sym (take_at x rest a.0.0 two.1) ∙ ap (take a.0.0) (sym two.0.parts ∙ instrs.takes.parts) ∙ take_at (flat_map encoding instrs.instrs) b.0 a.0.0 (sym instrs.width) in
    let together = takes_then bytes (number a.0.0) a.0.1 x rest one.0 two.0 in (
      subst (λ (k : ℕ). Takes bytes (number k ++ x) rest) (sym two.1) together,
      record { some = nat_lt_zero (length x) (subst (λ (k : ℕ). nat_lt 0 k ≡ true) (sym two.1) one.1.1); counted = subst IsNumber (sym two.1) one.1.0; instrs = instrs.instrs; spelled = taken; named = instrs.named },
    )

instructions_again : (within : Within) (x rest : List ℕ) → AreInstructions within x → instructions_at within (text x ++ rest) ≡ Ok (x, rest)
unfolding instructions_at
instructions_again within x rest w =
    let passes : pass within (length x) (length x) (x ++ rest) ≡ Ok rest = rw w.spelled (pass_reads within w.instrs (length (flat_map encoding w.instrs)) rest w.named (omega arith)) in
    ap (instructions_at within) (append_assoc (number (length x)) x rest)
    ∙ rw (size_codec.again (length x) (x ++ rest) (w.counted, zero_nat_lt (length x) w.some), passes) ((taken_codec (length x)).again x rest refl)

pub instructions_codec : (within : Within) → IsCodec (AreInstructions within) text (instructions_at within)
instructions_codec within = record { takes = instructions_take within; again = instructions_again within }
