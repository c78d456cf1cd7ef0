use Rattle.std.proofs.Common.{◌≡◌, ◌∙◌, ◌≤◌, ◌==◌, ℕ, zero, suc, Bool, true, false, not, List, [], ◌∷◌, drop, length, ap, refl, eqb-true, arith}
use Rattle.pt_heap.specs.declared.value.Value.{Value}
use Rattle.pt_heap.specs.declared.object.Object.{Object}
use Rattle.pt_sorting.specs.Keys.{row_before}
use Rattle.pt_sorting.proofs.keys.row_before.Goals as goal

some : (n : ℕ) → not (suc n == 0) ≡ true
some n = by (suc n == 0) refl
  where
    by : (b : Bool) → (suc n == 0) ≡ b → not b ≡ true
    by true e = let none : suc n ≡ 0 = eqb-true (suc n) 0 e in absurd (omega arith)
    by false e = refl

-- one that ended stands before one that goes on
ended : (h : List Object) (i : ℕ) (vs ws : List Value) → length vs ≤ i → not (length ws == 0) ≡ row_before h (drop i vs) ws
ended h zero [] [] l = refl
ended h zero [] (w ∷ ws) l = some (length ws)
ended h zero (v ∷ vs) ws l = absurd (omega arith)
ended h (suc i) [] [] l = refl
ended h (suc i) [] (w ∷ ws) l = some (length ws)
ended h (suc i) (v ∷ vs) ws l = ended h i vs ws (omega arith)

pub returns : goal.returns
returns c =
    ap not c.is_empty.ensures
    ∙ ended c.args.heap.now c.loop-item.item-index c.args.first.now c.loop-item.others.now c.loop-item-test.false
    ∙ c.loop-item.invariant
