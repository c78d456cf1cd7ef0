-- Instructions that are laid down stand one behind another.
use Rattle.std.proofs.Common.{◌≡◌, ◌≤◌, ◌<◌, ◌+◌, ℕ, Bool, true, false, if◌then◌else◌, nat_eq, List, [], ◌∷◌, length, map, Option, Some, None, refl, sym, ap, ◌∙◌, arith, length-append}
use Rattle.std.specs.List.{flat_map}
use Rattle.std.proofs.lemmas.Bool.Decides.{nat_tests}
use Rattle.pt_instr.specs.declared.Instr.{Instr}
use Rattle.pt_instr.specs.Encoding.{encoding}
use Rattle.pt_code.specs.declared.CodeBlock.{CodeBlock}
use Rattle.pt_code.specs.View.{Ins, ins_at, laid_from}
use Rattle.sem_code.specs.slots.CodeObject.{CodeObject}
use Rattle.pt_assembler.specs.declared.operation.Placed.{Placed}
use Rattle.pt_assembler.specs.Layout.{Written, instr_in, wide}
use Rattle.pt_assembler.proofs.Shown.{width_in}
use Rattle.law_pieces.specs.forward_pieces.Laws.{InOrder}

not_there : {A : Type 0} (i : Ins) → None ≡ Some i → A
not_there i e = absurd cc

equal : (p q : ℕ) → nat_eq p q ≡ true → p ≡ q
equal p q e = grind (arith, nat_tests)

other : (p q : ℕ) → q < p → nat_eq p q ≡ false
other p q h = grind (arith, nat_tests)

other_behind : (p q : ℕ) → p < q → nat_eq p q ≡ false
other_behind p q h = grind (arith, nat_tests)

next_is : (b : CodeBlock) (pc : ℕ) (j : Instr) (i : Ins) → Some (ins_at b pc j) ≡ Some i → i.next ≡ pc + length (encoding j)
next_is b pc j i e = sym (ap (λ o. elim o [ None ↦ 0 | Some x ↦ x.next ]) e)

some_bytes : (j : Instr) → 0 < length (encoding j)
some_bytes j = omega arith

module _ (b : CodeBlock) where
  abbrev rest : (p : ℕ) → Instr → List Instr → (pc : ℕ) → Option Ins
  rest p j js pc = laid_from b (p + length (encoding j)) js pc

  -- in front of the first there is none
  early : (p : ℕ) (is : List Instr) (q : ℕ) → q < p → laid_from b p is q ≡ None
  early p [] q h = refl
  early p (j ∷ js) q h =
      ap (λ t. if t then Some (ins_at b q j) else rest p j js q) (other p q h) ∙ early (p + length (encoding j)) js q (omega (arith, h))

  -- an instruction is the first, or one of the others, which stand behind it
  by_first : (A : Type 0) (p : ℕ) (j : Instr) (js : List Instr) (pc : ℕ) (i : Ins) → (p ≡ pc → i.next ≡ pc + length (encoding j) → A)
      → (rest p j js pc ≡ Some i → A) → laid_from b p (j ∷ js) pc ≡ Some i → A
  by_first A p j js pc i first more e = by (nat_eq p pc) refl e
    where
      by : (t : Bool) → nat_eq p pc ≡ t → (if t then Some (ins_at b pc j) else rest p j js pc) ≡ Some i → A
      by true f g = first (equal p pc f) (next_is b pc j i g)
      by false f g = more g

  rises : (p : ℕ) (is : List Instr) (pc : ℕ) (i : Ins) → laid_from b p is pc ≡ Some i → (p ≤ pc) × (pc < i.next)
  rises p [] pc i e = not_there i e
  rises p (j ∷ js) pc i e = by_first ((p ≤ pc) × (pc < i.next)) p j js pc i
      (λ f g. (omega (arith, f), let n = some_bytes j in omega (arith, g, n)))
      (λ f. let h = rises (p + length (encoding j)) js pc i f in let l = h.0 in (omega (arith, l), h.1)) e

  apart : (p : ℕ) (is : List Instr) (pc q : ℕ) (i : Ins) → laid_from b p is pc ≡ Some i → pc < q → q < i.next → laid_from b p is q ≡ None
  apart p [] pc q i e h l = refl
  apart p (j ∷ js) pc q i e h l =
      by_first (laid_from b p (j ∷ js) q ≡ None) p j js pc i
      (λ f g. behind (omega (arith, f, h)) ∙ early (p + length (encoding j)) js q (omega (arith, f, g, l)))
      (λ f. let n = (rises (p + length (encoding j)) js pc i f).0 in behind (omega (arith, n, h)) ∙ apart (p + length (encoding j)) js pc q i f h l) e
    where
      behind : p < q → laid_from b p (j ∷ js) q ≡ rest p j js q
      behind g = ap (λ t. if t then Some (ins_at b q j) else rest p j js q) (other_behind p q g)

  inside : (p : ℕ) (is : List Instr) (pc : ℕ) (i : Ins) → laid_from b p is pc ≡ Some i → pc < p + length (flat_map encoding is)
  inside p [] pc i e = not_there i e
  inside p (j ∷ js) pc i e =
      let many = length-append (encoding j) (flat_map encoding js) in
      by_first (pc < p + length (flat_map encoding (j ∷ js))) p j js pc i
      (λ f g. let n = some_bytes j in omega (arith, many, f, n))
      (λ f. let h = inside (p + length (encoding j)) js pc i f in omega (arith, many, h)) e

-- as many bytes as a writer's instructions have
pub bytes_wide : (w : Written) (ps : List Placed) → length (flat_map encoding (map (λ p. instr_in w p.operation) ps)) ≡ wide ps
bytes_wide w [] = refl
bytes_wide w (p ∷ ps) =
    length-append (encoding (instr_in w p.operation)) (flat_map encoding (map (λ q. instr_in w q.operation) ps))
    ∙ (let a = width_in w p.operation in let b = bytes_wide w ps in omega (arith, a, b))

-- a code object that shows them
pub in_order : {V : Type 0} (object : CodeObject V) (b : CodeBlock) (is : List Instr) → object.at ≡ laid_from b 0 is
    → InOrder object (length (flat_map encoding is))
in_order object b is e = record {
  rises = λ pc i f. (rises b 0 is pc i (there pc ∙ f)).1;
  apart = λ pc q i f h l. sym (there q) ∙ apart b 0 is pc q i (there pc ∙ f) h l;
  inside = λ pc i f. let h = inside b 0 is pc i (there pc ∙ f) in omega (arith, h);
}
  where
    there : (pc : ℕ) → laid_from b 0 is pc ≡ object.at pc
    there pc = ap (λ f. f pc) (sym e)
