-- One class more of a chain of bases.
use Rattle.std.proofs.Common.{◌≡◌, ℕ, suc, ◌+◌, ◌-◌, ◌<◌, ◌≤◌, List, false, slice_get, ap, arith}
use Rattle.std.specs.Prelude.{◌==◌, ◌||◌}
use Rattle.std.proofs.lemmas.Bool.Decides.{nat_tests}
use Rattle.pt_heap.specs.declared.object.Object.{Object}
use Rattle.pt_content.specs.pt_attrs.pt_dicts.Chain.{class_in}
use Rattle.pt_prims.specs.Classes.{base_of, or_base, derives_within}

pub base-more : (h : List Object) (n i from p : ℕ) → i < n
    → derives_within h (n - i) from p ≡ ((p == from) || or_base (derives_within h (n - (i + 1)) from) (base_of (class_in (slice_get h p))))
base-more h n i from p l =
    let one : n - i ≡ suc (n - (i + 1)) = omega arith in
    ap (λ m. derives_within h m from p) one

pub base-none : (h : List Object) (n i from p : ℕ) → n ≤ i → derives_within h (n - i) from p ≡ false
base-none h n i from p l = let zero : n - i ≡ 0 = omega arith in ap (λ m. derives_within h m from p) zero

pub other-class : (a b : ℕ) → (a ≡ b → ⊥) → (a == b) ≡ false
other-class a b other = grind (arith, nat_tests)
