-- What stands at a number, by the list of those from number 1 on.
use Rattle.std.proofs.Common.{◌≡◌, ◌∙◌, ◌-◌, ℕ, zero, suc, List, [], ◌∷◌, Some, None, refl, sym, ap, arith}
use Rattle.std.specs.Prelude.{slice_get, slice_index_or}
use Rattle.pt_code_facts.specs.Numbered.{by_number}

module _ {A : Type 0} (given : A) where
  found_in : (xs : List A) (n : ℕ) (x : A) → slice_get xs n ≡ Some x → slice_index_or xs n given ≡ x
  found_in [] n x e = absurd (cc)
  found_in (y ∷ ys) zero x e = let h : Some y ≡ Some x = e in cc
  found_in (y ∷ ys) (suc n) x e = found_in ys n x e

  pub none_in : (xs : List A) (n : ℕ) → slice_get xs n ≡ None → slice_index_or xs n given ≡ given
  none_in [] n e = refl
  none_in (y ∷ ys) zero e = absurd (cc)
  none_in (y ∷ ys) (suc n) e = none_in ys n e

  behind : (xs : List A) (n : ℕ) → (n ≡ 0 → ⊥) → by_number given xs n ≡ slice_index_or xs (n - 1) given
  behind xs zero h = absurd (h refl)
  behind xs (suc n) h = ap (λ k. slice_index_or xs k given) (let e : n ≡ suc n - 1 = omega arith in e)

  pub first : (xs : List A) (n : ℕ) → n ≡ 0 → given ≡ by_number given xs n
  first xs n e = ap (λ k. by_number given xs k) (sym e)

  pub later : (xs : List A) (n : ℕ) (x : A) → (n ≡ 0 → ⊥) → slice_get xs (n - 1) ≡ Some x → x ≡ by_number given xs n
  later xs n x h e = sym (behind xs n h ∙ found_in xs (n - 1) x e)

  pub missing : (xs : List A) (n : ℕ) → (n ≡ 0 → ⊥) → slice_get xs (n - 1) ≡ None → given ≡ by_number given xs n
  missing xs n h e = sym (behind xs n h ∙ none_in xs (n - 1) e)
