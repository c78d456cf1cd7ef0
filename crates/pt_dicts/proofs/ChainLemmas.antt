-- One class more of a chain.
use Rattle.std.proofs.Common.{◌≡◌, ℕ, suc, ◌+◌, ◌-◌, ◌<◌, ◌≤◌, List, None, slice_get, ap, arith}
use Rattle.pt_heap.specs.declared.object.Object.{Object}
use Rattle.pt_dicts.specs.Chain.{class_in, found_in, found_along}

pub along-more : (h : List Object) (n i : ℕ) (key : List ℕ) (p : ℕ) → i < n → found_along h (n - i) key p ≡ found_in (found_along h (n - (i + 1)) key) key (class_in (slice_get h p))
unfolding found_along
along-more h n i key p l =
    let one : n - i ≡ suc (n - (i + 1)) = omega arith in
    ap (λ m. found_along h m key p) one

pub along-none : (h : List Object) (n i : ℕ) (key : List ℕ) (p : ℕ) → n ≤ i → found_along h (n - i) key p ≡ None
unfolding found_along
along-none h n i key p l = let zero : n - i ≡ 0 = omega arith in ap (λ m. found_along h m key p) zero
