-- In a block as it is seen no instruction stands behind the end.
use Rattle.std.proofs.Common.{◌≡◌, ℕ, ◌+◌, ◌≤◌, Bool, true, false, List, [], ◌∷◌, length, Some, None, refl, sym, ap, ◌∙◌, subst, arith, length-append}
use Rattle.std.specs.Prelude.{cond, nat_eq}
use Rattle.std.specs.List.{flat_map}
use Rattle.std.proofs.lemmas.Bool.{eqb-true}
use Rattle.pt_instr.specs.declared.Instr.{Instr}
use Rattle.pt_instr.specs.Encoding.{encoding}
use Rattle.pt_code.specs.declared.CodeBlock.{CodeBlock}
use Rattle.pt_code.specs.View.{Ins, ins_at, laid_from}
use Rattle.sem_fits.specs.fits.Laws.{ViewIsLaid}

none_is_some : {A : Type 0} (x : A) → None ≡ Some x → ⊥
none_is_some x e = cc

within : (b : CodeBlock) (at : ℕ) (is : List Instr) (pc : ℕ) (i : Ins) → laid_from b at is pc ≡ Some i → pc ≤ at + length (flat_map encoding is)
within b at [] pc i e = absurd (none_is_some i e)
within b at (j ∷ js) pc i e = by_place (λ f. within b (at + length (encoding j)) js pc i f) (nat_eq at pc) refl e
  where
    total : length (flat_map encoding (j ∷ js)) ≡ length (encoding j) + length (flat_map encoding js)
    total = length-append (encoding j) (flat_map encoding js)

    by_place : (laid_from b (at + length (encoding j)) js pc ≡ Some i → pc ≤ at + length (encoding j) + length (flat_map encoding js))
        → (t : Bool) → nat_eq at pc ≡ t → cond t (Some (ins_at b pc j)) (laid_from b (at + length (encoding j)) js pc) ≡ Some i → pc ≤ at + length (flat_map encoding (j ∷ js))
    by_place ih true f e = let same : at ≡ pc = eqb-true at pc f in omega (arith, same)
    by_place ih false f e = let l = ih e in let t = total in omega (arith, l, t)

pub view_is_laid : ViewIsLaid
view_is_laid c b view v pc i e = subst (λ n. pc ≤ n) (sym (ap length v.spelled))
    (let l = within b 0 v.instrs pc i (sym (ap (λ f. f pc) v.view_is) ∙ e) in let h : pc ≤ length (flat_map encoding v.instrs) = omega (arith, l) in h)
