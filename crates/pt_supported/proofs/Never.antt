-- Lists of which no item passes a test, and lines that aren't told.
use Rattle.std.proofs.Common.{◌≡◌, ℕ, zero, suc, List, [], ◌∷◌, ◌++◌, Bool, false, Option, Some, None, refl, sym, ap, ◌∙◌}
use Rattle.std.specs.Prelude.{◌||◌, slice_get}
use Rattle.std.specs.List.{list_any}
use Rattle.std.specs.Option.{option_or, unwrap_or}

pub data Never {T : Type 0} (f : T → Bool) : List T → Type 0 where
  nothing : Never f []
  item : {x : T} {xs : List T} → f x ≡ false → Never f xs → Never f (x ∷ xs)

pub both : {T : Type 0} {f : T → Bool} {xs ys : List T} → Never f xs → Never f ys → Never f (xs ++ ys)
both nothing q = q
both (item is p) q = item is (both p q)

pub none_passes : {T : Type 0} {f : T → Bool} {xs : List T} → Never f xs → list_any f xs ≡ false
none_passes nothing = refl
none_passes {f = f} (item {x = x} {xs = xs} is p) = ap (λ b. b || list_any f xs) is ∙ none_passes p

pub at_its_place : {T : Type 0} {f : T → Bool} {xs : List T} → Never f xs → (n : ℕ) (x : T) → slice_get xs n ≡ Some x → f x ≡ false
at_its_place nothing n x e = absurd (cc)
at_its_place {f = f} (item {x = y} is p) zero x e = ap (λ o. f (unwrap_or o y)) (sym e) ∙ is
at_its_place (item is p) (suc n) x e = at_its_place p n x e

-- a line that is told is there
pub told : {l : ℕ} {A : Type 0} → Some l ≡ None → A
told h = absurd (cc)

-- where neither of two lines is told, the first isn't, and the second
pub first : (o p : Option ℕ) → option_or o p ≡ None → o ≡ None
first (Some l) p h = told h
first None p h = refl

pub second : (o p : Option ℕ) → option_or o p ≡ None → p ≡ None
second (Some l) p h = told h
second None p h = h
