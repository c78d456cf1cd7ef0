-- The bytes of an instruction have room for four bytes of each operand. Where its operands are below their bounds, some instruction has the same
-- bytes, whose operands are such numbers and below the same bounds.
use Rattle.std.proofs.Common.{◌≡◌, ℕ, ◌<◌, ◌%◌, ◌/◌, ◌^◌, List, [], ◌∷◌, ◌++◌, map, refl, sym, ap, ◌∙◌, subst, arith, flat_map}
use Rattle.std.specs.Int.{w32, to_le_bytes}
use Rattle.std.specs.List.{AllByRecursion}
use Rattle.std.proofs.lemmas.List.Concat.{flat_map-cons}
use Rattle.pt_instr.specs.declared.Instr.{Instr}
use Rattle.pt_instr.specs.Encoding.{code_of, spelled, encoding}
use Rattle.pt_code.specs.declared.parts.Within.{Within}
use Rattle.pt_code.specs.declared.parts.Operand.{Operand}
use Rattle.pt_code.specs.declared.parts.Operand.TheVariants as operand
use Rattle.pt_code.specs.File.{operands, bound, AreBelow, NamesAll}
use Rattle.pt_code.proofs.Operations.{operation_is, operands_again}

-- an operand that is no number names something
abbrev pub NamesOne : Within → Operand → ℕ → Type 0
NamesOne within operand.Number n = Unit {0}
NamesOne within operand.Constant n = n < within.constants
NamesOne within operand.Text n = n < within.texts
NamesOne within operand.Local n = n < within.locals
NamesOne within operand.Cell n = n < within.cells
NamesOne within operand.List n = n < within.lists
NamesOne within operand.Block n = n < within.blocks
NamesOne within operand.Unary n = n < 3
NamesOne within operand.Binary n = n < 12
NamesOne within operand.Comparison n = n < 10
NamesOne within operand.Conversion n = n < 3
NamesOne within operand.Flag n = n < 2

abbrev pub Names : Within → List Operand → List ℕ → Type 0
Names within [] [] = Unit {0}
Names within (o ∷ os) (n ∷ ns) = NamesOne within o n × Names within os ns
Names within os ns = ⊥

abbrev pub NamesIn : Within → Instr → Type 0
NamesIn within i = Names within (operands i) (code_of i).operands

abbrev wrap : ℕ → ℕ
wrap n = n % 4294967296

wrap_small : (n : ℕ) → wrap n < 2 ^ 32
wrap_small n = omega arith

wrap_less : (b n : ℕ) → n < b → wrap n < b
wrap_less b n h = omega arith

wrap_same : (n : ℕ) → to_le_bytes w32 (wrap n) ≡ to_le_bytes w32 n
wrap_same n =
    let first : wrap n % 256 ≡ n % 256 = omega arith in
    let second : wrap n / 256 % 256 ≡ n / 256 % 256 = omega arith in
    let third : wrap n / 65536 % 256 ≡ n / 65536 % 256 = omega arith in
    let fourth : wrap n / 16777216 % 256 ≡ n / 16777216 % 256 = omega arith in
    λ i. first i ∷ second i ∷ third i ∷ fourth i ∷ []

one_below : (within : Within) (o : Operand) (n : ℕ) → NamesOne within o n → wrap n < bound within o
one_below within operand.Number n h = wrap_small n
one_below within operand.Constant n h = wrap_less within.constants n h
one_below within operand.Text n h = wrap_less within.texts n h
one_below within operand.Local n h = wrap_less within.locals n h
one_below within operand.Cell n h = wrap_less within.cells n h
one_below within operand.List n h = wrap_less within.lists n h
one_below within operand.Block n h = wrap_less within.blocks n h
one_below within operand.Unary n h = wrap_less 3 n h
one_below within operand.Binary n h = wrap_less 12 n h
one_below within operand.Comparison n h = wrap_less 10 n h
one_below within operand.Conversion n h = wrap_less 3 n h
one_below within operand.Flag n h = wrap_less 2 n h

all_below : (within : Within) (os : List Operand) (ns : List ℕ) → Names within os ns → AreBelow within os (map wrap ns)
all_below within [] [] h = tt
all_below within (o ∷ os) (n ∷ ns) h = ((wrap_small n, one_below within o n h.0), all_below within os ns h.1)
all_below within [] (n ∷ ns) h = absurd h
all_below within (o ∷ os) [] h = absurd h

spelled_same : (ns : List ℕ) → spelled (map wrap ns) ≡ spelled ns
spelled_same [] = refl
spelled_same (n ∷ ns) = ap (λ front. front ++ spelled (map wrap ns)) (wrap_same n) ∙ ap (λ rest. to_le_bytes w32 n ++ rest) (spelled_same ns)

record Wrapped (within : Within) (i : Instr) : Type 0 where
  instr : Instr
  same : encoding instr ≡ encoding i
  named : NamesAll within instr

wrapped : (within : Within) (i : Instr) → NamesIn within i → Wrapped within i
wrapped within i h =
    let ns = map wrap (code_of i).operands in
    let below = all_below within (operands i) (code_of i).operands h in
    let r = operation_is within (code_of i).number (operands i) ns (operands_again i) below in
    record {
      instr = r.instr;
      same = ap (λ n. n ∷ spelled (code_of r.instr).operands) r.numbered ∙ ap (λ xs. (code_of i).number ∷ spelled xs) r.has
          ∙ ap (λ bytes. (code_of i).number ∷ bytes) (spelled_same (code_of i).operands);
      named = subst (λ xs. AreBelow within (operands r.instr) xs) (sym r.has) (subst (λ os. AreBelow within os ns) (sym r.kinds) below);
    }

-- instructions that spell the same bytes, and whose operands are below their bounds
pub record Spelled (within : Within) (is : List Instr) : Type 0 where
  pub instrs : List Instr
  pub same : flat_map encoding instrs ≡ flat_map encoding is
  pub named : AllByRecursion (NamesAll within) instrs

pub spelled_again : (within : Within) (is : List Instr) → AllByRecursion (NamesIn within) is → Spelled within is
spelled_again within [] h = record { instrs = []; same = refl; named = tt }
spelled_again within (i ∷ is) h =
    let first = wrapped within i h.0 in
    let rest = spelled_again within is h.1 in
    record {
      instrs = first.instr ∷ rest.instrs;
      same = flat_map-cons encoding first.instr rest.instrs ∙ ap (λ front. front ++ flat_map encoding rest.instrs) first.same
          ∙ ap (λ behind. encoding i ++ behind) rest.same ∙ sym (flat_map-cons encoding i is);
      named = (first.named, rest.named);
    }
