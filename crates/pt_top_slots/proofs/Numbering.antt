-- A number for each class.
use Rattle.std.proofs.Common.{◌≡◌, ℕ, ◌+◌, ◌<◌, Bool, true, false, Some, None, refl, sym, ap, ◌∙◌, subst, arith}
use Rattle.std.specs.Prelude.{Option, cond}
use Rattle.std.specs.BTreeMap.{get, Updates}
use Rattle.std.specs.declared.cmp.Ordering.{Ordering}
use Rattle.std.specs.declared.cmp.Ordering.TheVariants.{Less, Equal, Greater}
use Rattle.std.specs.Ordering.{nat_cmp, is_eq}
use Rattle.std.proofs.lemmas.Bool.{false≢true}
use Rattle.std.proofs.lemmas.Option.{same_Some}
use Rattle.std.proofs.lemmas.Map.Lookups.{CmpEqualImpliesEq, exact_pairs, exact_unsigned}
use Rattle.pt_top_slots.specs.declared.numbers.Numbers.{Numbers}
use Rattle.pt_top_slots.specs.Numbers.{key_cmp, number_at, AreNumbers, IsNumbered}

exact : CmpEqualImpliesEq key_cmp
exact = exact_pairs nat_cmp nat_cmp exact_unsigned exact_unsigned

is_equal : (o : Ordering) → is_eq o ≡ true → o ≡ Equal
is_equal Less e = absurd (false≢true e)
is_equal Equal e = refl
is_equal Greater e = absurd (false≢true e)

abbrev key : (root level : ℕ) → ℕ × ℕ
key r l = (r, l)

-- what a map with one more key has is new or old
was : (x y : ℕ × ℕ) (number i : ℕ) (old new : Option ℕ) (t : Bool) → is_eq (key_cmp x y) ≡ t → new ≡ cond t (Some number) old → new ≡ Some i
    → (P : Type 0) → (old ≡ Some i → P) → (x ≡ y → number ≡ i → P) → P
was x y number i old new true e u h P f g = g (exact x y (is_equal _ e)) (same_Some _ _ (sym u ∙ h))
was x y number i old new false e u h P f g = f (sym u ∙ h)

none_some : {X : Type 0} (o : Option X) (x : X) → o ≡ None → o ≡ Some x → ⊥
none_some o x e f = let h : None ≡ Some x = sym e ∙ f in cc

-- a key that had no number gets the next one
pub numbered_new : (root level count : ℕ) (old new : Numbers) → AreNumbers old → number_at old root level ≡ None
    → Updates key_cmp old.known new.known (key root level) (Some old.count) → count ≡ old.count + 1 → new.count ≡ count
    → IsNumbered root level old.count old new
numbered_new root level count old new are none up more is = record {
  are = record {
    low = λ r l i h. is_was r l i h (i < new.count) (λ o. omega (arith, are.low r l i o, more, is)) (λ k e. omega (arith, more, is, e));
    one = λ r l s m i h g. is_was r l i h ((r ≡ s) × (l ≡ m))
        (λ o. is_was s m i g ((r ≡ s) × (l ≡ m)) (λ p. are.one r l s m i o p) (λ k e. absurd (omega (arith, are.low r l i o, e))))
        (λ k e. is_was s m i g ((r ≡ s) × (l ≡ m)) (λ p. absurd (omega (arith, are.low s m i p, e)))
        (λ k' e'. (ap (λ p. p.0) (sym k ∙ k'), ap (λ p. p.1) (sym k ∙ k'))));
  };
  here = up.1;
  kept = λ r l i h. stays r l i h (is_eq (key_cmp (key root level) (key r l))) refl;
} where
  is_was : (r l i : ℕ) → number_at new r l ≡ Some i → (P : Type 0) → (number_at old r l ≡ Some i → P) → (key root level ≡ key r l → old.count ≡ i → P) → P
  is_was r l i h = was (key root level) (key r l) old.count i (number_at old r l) (number_at new r l) (is_eq (key_cmp (key root level) (key r l))) refl (up.0 (key r l)) h

  stays : (r l i : ℕ) → number_at old r l ≡ Some i → (t : Bool) → is_eq (key_cmp (key root level) (key r l)) ≡ t → number_at new r l ≡ Some i
  stays r l i h true e = let k = exact (key root level) (key r l) (is_equal _ e) in
      absurd (none_some (number_at old r l) i (subst (λ p. get key_cmp old.known p ≡ None) k none) h)
  stays r l i h false e = up.2 (key r l) e ∙ h

pub numbered_old : (root level number : ℕ) (numbers : Numbers) → AreNumbers numbers → number_at numbers root level ≡ Some number
    → IsNumbered root level number numbers numbers
numbered_old root level number numbers are h = record { are = are; here = h; kept = λ r l i k. k }
