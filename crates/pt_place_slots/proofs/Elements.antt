-- Elements of lists that are put together, and entries of tables that grow.
use Rattle.std.proofs.Common.{◌≡◌, ◌⊎◌, inl, inr, ℕ, zero, suc, ◌+◌, ◌<◌, ◌≤◌, List, [], ◌∷◌, ◌++◌, length, Option, Some, None, refl, ap, ◌∙◌, arith, replicate}
use Rattle.std.specs.Prelude.{slice_get}
use Rattle.std.proofs.lemmas.Option.{same_Some}
use Rattle.pt_places.specs.PlaceTable.{entry}

module _ {X : Type 0} where
  pub none_some : (x : X) → None ≡ Some x → ⊥
  none_some x e = cc

  pub some_none : (x : X) → Some x ≡ None → ⊥
  some_none x e = cc

  pub got_below : (xs : List X) (i : ℕ) (x : X) → slice_get xs i ≡ Some x → i < length xs
  got_below [] i x e = absurd (none_some x e)
  got_below (y ∷ xs) zero x e = omega arith
  got_below (y ∷ xs) (suc i) x e = let h = got_below xs i x e in omega (arith, h)

  pub got_left : (xs ys : List X) (i : ℕ) (x : X) → slice_get xs i ≡ Some x → slice_get (xs ++ ys) i ≡ Some x
  got_left [] ys i x e = absurd (none_some x e)
  got_left (y ∷ xs) ys zero x e = e
  got_left (y ∷ xs) ys (suc i) x e = got_left xs ys i x e

  pub got_right : (xs ys : List X) (j : ℕ) → slice_get (xs ++ ys) (length xs + j) ≡ slice_get ys j
  got_right [] ys j = ap (slice_get ys) (let e : length {A = X} [] + j ≡ j = omega arith in e)
  got_right (x ∷ xs) ys j = ap (slice_get (x ∷ (xs ++ ys))) (let e : length (x ∷ xs) + j ≡ suc (length xs + j) = omega arith in e) ∙ got_right xs ys j

  pub got_cases : (xs ys : List X) (i : ℕ) (x : X) → slice_get (xs ++ ys) i ≡ Some x
      → (slice_get xs i ≡ Some x) ⊎ ((j : ℕ) × (slice_get ys j ≡ Some x))
  got_cases [] ys i x e = inr (i, e)
  got_cases (y ∷ xs) ys zero x e = inl e
  got_cases (y ∷ xs) ys (suc i) x e = got_cases xs ys i x e

  pub same_got : (c j : ℕ) (y x : X) → slice_get (replicate c y) j ≡ Some x → y ≡ x
  same_got zero j y x e = absurd (none_some x e)
  same_got (suc c) zero y x e = same_Some y x e
  same_got (suc c) (suc j) y x e = same_got c j y x e

  pub last_got : (c : ℕ) (y : X) → slice_get (replicate (suc c) y) c ≡ Some y
  last_got zero y = refl
  last_got (suc c) y = last_got c y

  -- a table with one entry more
  pub entry_last : (table : List (Option X)) (o : Option X) → entry (table ++ o ∷ []) (length table) ≡ o
  entry_last [] o = refl
  entry_last (x ∷ table) o = entry_last table o

  pub entry_left : (table : List (Option X)) (o : Option X) (pc : ℕ) → pc < length table → entry (table ++ o ∷ []) pc ≡ entry table pc
  entry_left [] o pc lt = absurd (omega (arith, lt))
  entry_left (x ∷ table) o zero lt = refl
  entry_left (x ∷ table) o (suc pc) lt = entry_left table o pc (omega (arith, lt))

  pub entry_cases : (table : List (Option X)) (o : Option X) (pc : ℕ)
      → (entry (table ++ o ∷ []) pc ≡ o) ⊎ (entry (table ++ o ∷ []) pc ≡ entry table pc)
  entry_cases [] o zero = inl refl
  entry_cases [] o (suc pc) = inr refl
  entry_cases (x ∷ table) o zero = inr refl
  entry_cases (x ∷ table) o (suc pc) = entry_cases table o pc

  pub entry_behind : (table : List (Option X)) (pc : ℕ) → length table ≤ pc → entry table pc ≡ None
  entry_behind [] pc le = refl
  entry_behind (x ∷ table) zero le = absurd (omega (arith, le))
  entry_behind (x ∷ table) (suc pc) le = entry_behind table pc (omega (arith, le))

  pub entry_below : (table : List (Option X)) (pc : ℕ) (x : X) → entry table pc ≡ Some x → pc < length table
  entry_below [] pc x e = absurd (none_some x e)
  entry_below (o ∷ table) zero x e = omega arith
  entry_below (o ∷ table) (suc pc) x e = let h = entry_below table pc x e in omega (arith, h)

pub below_or : (a b : ℕ) → a < b + 1 → (a < b) ⊎ (a ≡ b)
below_or zero zero h = inr refl
below_or zero (suc b) h = inl (omega arith)
below_or (suc a) zero h = absurd (omega (arith, h))
below_or (suc a) (suc b) h = elim (below_or a b (omega (arith, h))) [ inl l ↦ inl (omega (arith, l)) | inr e ↦ inr (ap (λ n. suc n) e) ]

pub low_or : (a b : ℕ) → (a < b) ⊎ (b ≤ a)
low_or zero zero = inr (omega arith)
low_or zero (suc b) = inl (omega arith)
low_or (suc a) zero = inr (omega arith)
low_or (suc a) (suc b) = elim (low_or a b) [ inl l ↦ inl (omega (arith, l)) | inr h ↦ inr (omega (arith, h)) ]
