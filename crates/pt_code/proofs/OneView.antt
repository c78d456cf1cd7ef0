-- The bytes of a block are those of one list of instructions alone.
use Rattle.std.proofs.Common.{◌≡◌, ℕ, List, [], ◌∷◌, ◌++◌, Option, refl, sym, ap, ◌∙◌}
use Rattle.std.specs.List.{flat_map, AllByRecursion}
use Rattle.std.proofs.lemmas.List.{append_cancel_left}
use Rattle.pt_instr.specs.declared.Instr.{Instr}
use Rattle.pt_instr.specs.Encoding.{encoding, Fits}
use Rattle.pt_instr.proofs.Codec.{one_front}
use Rattle.pt_code.specs.declared.CodeBlock.{CodeBlock}
use Rattle.pt_code.specs.View.{Ins, laid_from, IsView}

none_is_some : (x : ℕ) (xs : List ℕ) → [] ≡ x ∷ xs → ⊥
none_is_some x xs e = cc

joined : (i j : Instr) (is js : List Instr) → i ≡ j → is ≡ js → i ∷ is ≡ j ∷ js
joined i j is js e f = cc

same_rest : (i j : Instr) (x y : List ℕ) → i ≡ j → encoding i ++ x ≡ encoding j ++ y → x ≡ y
same_rest i j x y same e = append_cancel_left (encoding i) x y (e ∙ ap (λ k. encoding k ++ y) (sym same))

one_list : (is js : List Instr) → AllByRecursion Fits is → AllByRecursion Fits js → flat_map encoding is ≡ flat_map encoding js → is ≡ js
one_list [] [] f g e = refl
one_list [] (j ∷ js) f g e = absurd (none_is_some _ _ e)
one_list (i ∷ is) [] f g e = absurd (none_is_some _ _ (sym e))
one_list (i ∷ is) (j ∷ js) f g e =
    let same = one_front i j (flat_map encoding is) (flat_map encoding js) f.0 g.0 e in
    joined i j is js same (one_list is js f.1 g.1 (same_rest i j (flat_map encoding is) (flat_map encoding js) same e))

pub one_view : (b : CodeBlock) (v w : ℕ → Option Ins) → IsView b v → IsView b w → v ≡ w
one_view b v w p q = p.view_is ∙ ap (laid_from b 0) (one_list p.instrs q.instrs p.fits q.fits (sym p.spelled ∙ q.spelled)) ∙ sym q.view_is
