use Rattle.std.proofs.Common.{◌≡◌, ◌∙◌, ◌+◌, ◌-◌, ◌<◌, ℕ, suc, List, ◌∷◌, drop, sym, ap, arith}
use Rattle.pt_heap.specs.Entries.{Entry}
use Rattle.pt_views.proofs.items.pass.Goals as goal

one-fewer : (x : Entry) (xs : List Entry) (n i : ℕ) → i < n → drop (n - i) (x ∷ xs) ≡ drop (n - (i + 1)) xs
one-fewer x xs n i h = let e : n - i ≡ suc (n - (i + 1)) = omega (arith, h) in ap (λ k. drop k (x ∷ xs)) e

pub loop-passed-preserved : goal.loop-passed-preserved
loop-passed-preserved c =
    let n = c.args.count in
    let i = c.loop-passed._passed in
    sym (one-fewer _ c.next.new.self n i (omega (arith, c.loop-passed-test.true))) ∙ ap (λ l. drop (n - i) l) (sym c.in-Some.ensures.first) ∙ c.loop-passed.invariant
