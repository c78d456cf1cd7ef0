-- What was written is shown by the view of its block.
use Rattle.std.proofs.Common.{◌≡◌, ℕ, ◌<◌, ◌+◌, Bool, false, cond, List, [], ◌∷◌, ◌++◌, map, length, find, filter, nat_eq, Option, Some, None, refl, sym, ap, ◌∙◌, subst, arith, add-zero, zero-add, eq-eqb, ne_eqb, if◌then◌else◌}
use Rattle.pt_ranges.specs.declared.lines.ActMark.{ActMark}
use Rattle.pt_ranges.specs.declared.handlers.Handler.{Handler}
use Rattle.pt_ranges.specs.Rows.{covers}
use Rattle.pt_instr.specs.declared.Instr.{Instr}
use Rattle.pt_instr.specs.Encoding.{encoding, code_of}
use Rattle.pt_code.specs.declared.CodeBlock.{CodeBlock}
use Rattle.pt_code.specs.View.{ins_at, laid_from}
use Rattle.sem_code.specs.slots.Stretches.{ins}
use Rattle.pt_assembler.specs.declared.operation.Jump.{Jump}
use Rattle.pt_assembler.specs.declared.operation.Jump.TheVariants as jump
use Rattle.pt_assembler.specs.declared.operation.FreeUse.{FreeUse}
use Rattle.pt_assembler.specs.declared.operation.FreeUse.TheVariants as free_use
use Rattle.pt_assembler.specs.declared.operation.Act.{Act}
use Rattle.pt_assembler.specs.declared.operation.Operation.{Operation}
use Rattle.pt_assembler.specs.declared.operation.Operation.TheVariants.{Plain, To, Free}
use Rattle.pt_assembler.specs.declared.operation.Placed.{Placed}
use Rattle.pt_assembler.specs.PieceAt.{instr_to, instr_of_free}
use Rattle.pt_assembler.specs.Layout.{Written, width, wide, instr_in, mark_at, listed, marks_from, instrs_of}

abbrev pub rows_at : List Handler → ℕ → List Handler
rows_at rows q = filter (λ row. covers row (record { 0 = q })) rows

pub wide-append : (xs ys : List Placed) → wide (xs ++ ys) ≡ wide xs + wide ys
wide-append [] ys = omega arith
wide-append (p ∷ xs) ys = let h = wide-append xs ys in omega arith

pub wide_end : (xs : List Placed) (p : Placed) → wide (xs ++ p ∷ []) ≡ wide xs + width p.operation
wide_end xs p = wide-append xs (p ∷ []) ∙ omega arith

-- an instruction to a label or on a free name has one operand
to_width : (j : Jump) (pc : ℕ) → length (encoding (instr_to j pc)) ≡ 5
unfolding code_of
to_width jump.AtEnd pc = refl
to_width j pc = refl

free_width : (u : FreeUse) (i : ℕ) → length (encoding (instr_of_free u i)) ≡ 5
unfolding code_of
free_width free_use.Load i = refl
free_width u i = refl

pub width_in : (w : Written) (o : Operation) → length (encoding (instr_in w o)) ≡ width o
width_in w (Plain i) = refl
width_in w (To j k) = to_width j _
width_in w (Free u i) = free_width u _

pub width_some : (o : Operation) → 0 < width o
width_some (Plain i) = omega arith
width_some (To j k) = omega arith
width_some (Free u i) = omega arith

module _ (b : CodeBlock) (w : Written) where
  abbrev made : Placed → Instr
  made p = instr_in w p.operation

  shown_at : (k : ℕ) (xs ys : List Placed) (p : Placed) → laid_from b k (map made (xs ++ p ∷ ys)) (k + wide xs) ≡ Some (ins_at b (k + wide xs) (made p))
  shown_at k [] ys p =
      let e : k + 0 ≡ k = omega arith in
      ap (λ c. if c then Some (ins_at b (k + 0) (made p)) else laid_from b (k + length (encoding (made p))) (map made ys) (k + 0)) (eq-eqb k (k + 0) (sym e))
  shown_at k (x ∷ xs) ys p =
      let s = width_some x.operation in
      let apart : nat_eq k (k + (width x.operation + wide xs)) ≡ false = ne_eqb k (k + (width x.operation + wide xs)) (λ e. omega arith) in
      let e : k + (width x.operation + wide xs) ≡ k + length (encoding (made x)) + wide xs = omega (arith, width_in w x.operation) in
      ap (λ c. if c then Some (ins_at b (k + (width x.operation + wide xs)) (made x))
      else laid_from b (k + length (encoding (made x))) (map made (xs ++ p ∷ ys)) (k + (width x.operation + wide xs))) apart
      ∙ subst (λ n. laid_from b (k + length (encoding (made x))) (map made (xs ++ p ∷ ys)) n ≡ Some (ins_at b n (made p))) (sym e)
      (shown_at (k + length (encoding (made x))) xs ys p)

-- the mark at a place is that of the instruction which stands there
abbrev is_at : ℕ → ActMark → Bool
is_at pc m = nat_eq m.pc.0 pc

none_later : (pc k : ℕ) (ps : List Placed) → pc < k → find (is_at pc) (marks_from k ps) ≡ None
none_later pc k [] h = refl
none_later pc k (p ∷ ps) h = by p.act (none_later pc (k + width p.operation) ps (omega arith))
  where
    by : (a : Option Act) → find (is_at pc) (marks_from (k + width p.operation) ps) ≡ None
        → find (is_at pc) (listed (mark_at k a) ++ marks_from (k + width p.operation) ps) ≡ None
    by None rest = rest
    by (Some a) rest = ap (λ c. cond c (mark_at k (Some a)) (find (is_at pc) (marks_from (k + width p.operation) ps))) (ne_eqb k pc (λ e. omega arith)) ∙ rest

mark_seam : (k : ℕ) (xs ys : List Placed) (p : Placed) → find (is_at (k + wide xs)) (marks_from k (xs ++ p ∷ ys)) ≡ mark_at (k + wide xs) p.act
mark_seam k [] ys p = subst (λ n. find (is_at n) (marks_from k (p ∷ ys)) ≡ mark_at n p.act) (sym (add-zero k)) (by p.act)
  where
    by : (a : Option Act) → find (is_at k) (listed (mark_at k a) ++ marks_from (k + width p.operation) ys) ≡ mark_at k a
    by None = let s = width_some p.operation in none_later k (k + width p.operation) ys (omega arith)
    by (Some a) = ap (λ c. cond c (mark_at k (Some a)) (find (is_at k) (marks_from (k + width p.operation) ys))) (eq-eqb k k refl)
mark_seam k (x ∷ xs) ys p =
    let e : k + (width x.operation + wide xs) ≡ k + width x.operation + wide xs = omega arith in
    by x.act ∙ subst (λ n. find (is_at n) (marks_from (k + width x.operation) (xs ++ p ∷ ys)) ≡ mark_at n p.act) (sym e)
    (mark_seam (k + width x.operation) xs ys p)
  where
    by : (a : Option Act)
        → find (is_at (k + (width x.operation + wide xs))) (listed (mark_at k a) ++ marks_from (k + width x.operation) (xs ++ p ∷ ys))
        ≡ find (is_at (k + (width x.operation + wide xs))) (marks_from (k + width x.operation) (xs ++ p ∷ ys))
    by None = refl
    by (Some a) =
        let s = width_some x.operation in
        ap (λ c. cond c (mark_at k (Some a)) (find (is_at (k + (width x.operation + wide xs))) (marks_from (k + width x.operation) (xs ++ p ∷ ys))))
        (ne_eqb k (k + (width x.operation + wide xs)) (λ e. omega arith))

-- what stands at the place of an instruction that was written
pub shown : (b : CodeBlock) (w : Written) (xs ys : List Placed) (p : Placed) → b.marks ≡ marks_from 0 w.instrs → b.handlers ≡ w.rows → w.instrs ≡ xs ++ p ∷ ys
    → laid_from b 0 (instrs_of w) (wide xs) ≡ Some (ins (instr_in w p.operation) (mark_at (wide xs) p.act) (wide xs + width p.operation) (rows_at w.rows (wide xs)))
shown b w xs ys p m h e =
    let there : laid_from b 0 (map (made b w) (xs ++ p ∷ ys)) (wide xs) ≡ Some (ins_at b (wide xs) (made b w p)) =
    subst (λ n. laid_from b 0 (map (made b w) (xs ++ p ∷ ys)) n ≡ Some (ins_at b n (made b w p))) (zero-add (wide xs)) (shown_at b w 0 xs ys p) in
    let mark : find (is_at (wide xs)) (marks_from 0 (xs ++ p ∷ ys)) ≡ mark_at (wide xs) p.act =
    subst (λ n. find (is_at n) (marks_from 0 (xs ++ p ∷ ys)) ≡ mark_at n p.act) (zero-add (wide xs)) (mark_seam 0 xs ys p) in
    let marked : find (is_at (wide xs)) b.marks ≡ mark_at (wide xs) p.act = ap (find (is_at (wide xs))) (m ∙ ap (marks_from 0) e) ∙ mark in
    ap (λ l. laid_from b 0 (map (made b w) l) (wide xs)) e ∙ there
    ∙ (λ i. Some (ins (instr_in w p.operation) (marked i) (wide xs + width_in w p.operation i) (rows_at (h i) (wide xs))))
