use Rattle.std.proofs.Common.{◌≡◌, ◌∙◌, ◌+◌, ◌-◌, ◌++◌, ℕ, List, ap, sym, arith, append_assoc}
use Rattle.std.specs.Prelude.{option_to_list}
use Rattle.pt_heap.specs.declared.value.Value.{Value}
use Rattle.pt_heap.specs.declared.object.Range.{Range}
use Rattle.pt_sequences.specs.Ranges.{range_value}
use Rattle.pt_sequences.specs.Unpacking.{integers_from}
use Rattle.pt_sequences.proofs.UnpackLemmas.{integers-more}
use Rattle.pt_sequences.proofs.unpacking.integers.Goals as goal

one-more : (r : Range) (f p n : ℕ) (xs ys : List Value) → ys ≡ xs ++ option_to_list (range_value r (f + p)) → n - p ≡ (n - (p + 1)) + 1
    → xs ++ integers_from r (f + p) (n - p) ≡ integers_from r f n
    → ys ++ integers_from r (f + (p + 1)) (n - (p + 1)) ≡ integers_from r f n
one-more r f p n xs ys put more so =
    let m : ℕ = n - (p + 1) in
    let next : f + (p + 1) ≡ f + p + 1 = omega arith in
    ap (λ k. ys ++ integers_from r k m) next
    ∙ ap (λ l. l ++ integers_from r (f + p + 1) m) put
    ∙ append_assoc xs (option_to_list (range_value r (f + p))) (integers_from r (f + p + 1) m)
    ∙ ap (λ l. xs ++ l) (sym (integers-more r (f + p) (n - p) m more)) ∙ so

pub loop-place-preserved : goal.loop-place-preserved
loop-place-preserved c =
    one-more c.args.range c.args.first c.loop-place.place c.args.count c.loop-place.items _ c.in_ok-push_integer.ensures
    (omega (arith, c.loop-place-test.true)) c.loop-place.invariant
