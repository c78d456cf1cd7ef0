-- The places that have sizes, by their numbers.
use Rattle.std.proofs.Common.{◌≡◌, ℕ, ◌+◌, ◌<◌, ◌≤◌, zero, suc, if◌then◌else◌, List, [], ◌∷◌, ◌++◌, length, Option, Some, None, refl, sym, ap, ◌∙◌, subst, arith, ◌⊎◌, inl, inr, length-append}
use Rattle.std.specs.Prelude.{is_some}
use Rattle.std.proofs.lemmas.List.{get_or_append_left}
use Rattle.pt_sizes.specs.Flow.{entry}
use Rattle.pt_row_joins.specs.Rows.{sized_below, rank, nth}

pub below_or : (a b : ℕ) → (a < b) ⊎ (b ≤ a)
below_or zero zero = inr (omega arith)
below_or zero (suc b) = inl (omega arith)
below_or (suc a) zero = inr (omega arith)
below_or (suc a) (suc b) = elim (below_or a b) [ inl h ↦ inl (omega arith) | inr h ↦ inr (omega arith) ]

pub last_or : (a b : ℕ) → a < b + 1 → (a < b) ⊎ (a ≡ b)
last_or a b lt = elim (below_or a b) [ inl h ↦ inl h | inr h ↦ inr (omega (arith, h, lt)) ]

nth_last : (xs : List ℕ) (x : ℕ) → nth (xs ++ x ∷ []) (length xs) ≡ x
nth_last [] x = refl
nth_last (y ∷ xs) x = nth_last xs x

entry_out : {X : Type 0} (T : List (Option X)) (q : ℕ) → length T ≤ q → entry T q ≡ None
entry_out [] q h = refl
entry_out (x ∷ T) zero h = absurd (omega arith)
entry_out (x ∷ T) (suc q) h = entry_out T q (omega arith)

-- a number below a limit that has a size
pub record IsSized (sizes : List (Option ℕ)) (pc : ℕ) : Type 0 where
  pub size : ℕ
  pub is : entry sizes pc ≡ Some size

module _ (sizes : List (Option ℕ)) where
  abbrev S : ℕ → List ℕ
  S p = sized_below sizes p

  pub below_some : (p n : ℕ) → entry sizes p ≡ Some n → S (suc p) ≡ S p ++ p ∷ []
  below_some p n e = ap (λ o. if is_some o then S p ++ p ∷ [] else S p) e

  pub below_none : (p : ℕ) → entry sizes p ≡ None → S (suc p) ≡ S p
  below_none p e = ap (λ o. if is_some o then S p ++ p ∷ [] else S p) e

  pub rank_some : (p n : ℕ) → entry sizes p ≡ Some n → rank sizes (suc p) ≡ rank sizes p + 1
  rank_some p n e = ap length (below_some p n e) ∙ length-append (S p) (p ∷ [])

  rank_step : (p : ℕ) → rank sizes p ≤ rank sizes (suc p)
  rank_step p = by (entry sizes p) refl
    where
      by : (o : Option ℕ) → entry sizes p ≡ o → rank sizes p ≤ rank sizes (suc p)
      by None e = (let g = ap length (below_none p e) in omega (arith, g))
      by (Some n) e = (let g = rank_some p n e in omega (arith, g))

  pub rank_rises : (p q : ℕ) → p ≤ q → rank sizes p ≤ rank sizes q
  rank_rises p zero le = let e : p ≡ zero = omega (arith, le) in subst (λ x. rank sizes x ≤ rank sizes zero) (sym e) (omega arith)
  rank_rises p (suc q) le = elim (below_or q p) [
    | inl lt ↦ (let e : p ≡ suc q = omega (arith, le, lt) in subst (λ x. rank sizes x ≤ rank sizes (suc q)) (sym e) (omega arith))
    | inr h ↦ (let g = rank_rises p q h in let s = rank_step q in omega (arith, g, s))
  ]

  step_front : (q i : ℕ) → i < rank sizes q → nth (S (suc q)) i ≡ nth (S q) i
  step_front q i lt = by (entry sizes q) refl
    where
      by : (o : Option ℕ) → entry sizes q ≡ o → nth (S (suc q)) i ≡ nth (S q) i
      by None e = ap (λ xs. nth xs i) (below_none q e)
      by (Some n) e = ap (λ xs. nth xs i) (below_some q n e) ∙ get_or_append_left (S q) (q ∷ []) 0 i lt

  front : (p q i : ℕ) → p ≤ q → i < rank sizes p → nth (S q) i ≡ nth (S p) i
  front p zero i le lt = let e : p ≡ zero = omega (arith, le) in ap (λ x. nth (S x) i) (sym e)
  front p (suc q) i le lt = elim (below_or q p) [
    | inl h ↦ (let e : p ≡ suc q = omega (arith, le, h) in ap (λ x. nth (S x) i) (sym e))
    | inr h ↦ (let g = rank_rises p q h in step_front q i (omega (arith, g, lt)) ∙ front p q i h lt)
  ]

  -- the number of a place that has a size
  pub rank_below : (limit q n : ℕ) → q < limit → entry sizes q ≡ Some n → rank sizes q < rank sizes limit
  rank_below limit q n lt e = let g = rank_some q n e in let h = rank_rises (suc q) limit (omega (arith, lt)) in omega (arith, g, h)

  pub nth_rank : (limit q n : ℕ) → q < limit → entry sizes q ≡ Some n → nth (S limit) (rank sizes q) ≡ q
  nth_rank limit q n lt e = front (suc q) limit (rank sizes q) (omega (arith, lt)) (let g = rank_some q n e in omega (arith, g))
      ∙ (ap (λ xs. nth xs (rank sizes q)) (below_some q n e) ∙ nth_last (S q) q)

  -- what stands at a number
  pub record StandsAt (limit i x : ℕ) : Type 0 where
    pub low : x < limit
    pub sized : IsSized sizes x
    pub rank_is : rank sizes x ≡ i

  pub numbered : (limit i : ℕ) → i < rank sizes limit → StandsAt limit i (nth (S limit) i)
  numbered zero i lt = absurd (omega (arith, lt))
  numbered (suc l) i lt = by (λ lt. numbered l i lt) (entry sizes l) refl
    where
      up : (x : ℕ) → StandsAt l i x → StandsAt (suc l) i x
      up x m = record { low = omega (arith, m.low); sized = m.sized; rank_is = m.rank_is }

      by : (i < rank sizes l → StandsAt l i (nth (S l) i)) → (o : Option ℕ) → entry sizes l ≡ o → StandsAt (suc l) i (nth (S (suc l)) i)
      by ih None e = let g = ap length (below_none l e) in
          subst (λ xs. StandsAt (suc l) i (nth xs i)) (sym (below_none l e)) (up (nth (S l) i) (ih (omega (arith, g, lt))))
      by ih (Some n) e = let g = rank_some l n e in
          subst (λ xs. StandsAt (suc l) i (nth xs i)) (sym (below_some l n e)) (elim (last_or i (rank sizes l) (omega (arith, g, lt))) [
            | inl h ↦ subst (λ x. StandsAt (suc l) i x) (sym (get_or_append_left (S l) (l ∷ []) 0 i h)) (up (nth (S l) i) (ih h))
            | inr h ↦ subst (λ x. StandsAt (suc l) i x) (sym (ap (λ k. nth (S l ++ l ∷ []) k) h ∙ nth_last (S l) l))
                (record { low = omega arith; sized = record { size = n; is = e }; rank_is = sym h })
          ])

  -- none has a size behind the end
  pub rank_behind : (p : ℕ) → length sizes ≤ p → rank sizes p ≡ rank sizes (length sizes)
  rank_behind zero le = ap (λ x. rank sizes x) (let e : zero ≡ length sizes = omega (arith, le) in e)
  rank_behind (suc p) le = elim (below_or p (length sizes)) [
    | inl lt ↦ (let e : suc p ≡ length sizes = omega (arith, le, lt) in ap (λ x. rank sizes x) e)
    | inr h ↦ ap length (below_none p (entry_out sizes p h)) ∙ rank_behind p h
  ]

  pub rank_most : (p : ℕ) → rank sizes p ≤ rank sizes (length sizes)
  rank_most p = elim (below_or p (length sizes)) [
    | inl lt ↦ rank_rises p (length sizes) (omega (arith, lt))
    | inr h ↦ (let e = rank_behind p h in omega (arith, e))
  ]

  -- a number lies from that of one place up to that of another just where its place does
  pub between_from : (limit i from : ℕ) → i < rank sizes limit → rank sizes from ≤ i → from ≤ nth (S limit) i
  between_from limit i from lt le = let m = numbered limit i lt in elim (below_or (nth (S limit) i) from) [
    | inl h ↦ (let g = rank_below from (nth (S limit) i) m.sized.size h m.sized.is in absurd (omega (arith, g, m.rank_is, le)))
    | inr h ↦ h
  ]

  pub between_to : (limit i to : ℕ) → i < rank sizes limit → i < rank sizes to → nth (S limit) i < to
  between_to limit i to lt lt' = let m = numbered limit i lt in elim (below_or (nth (S limit) i) to) [
    | inl h ↦ h
    | inr h ↦ (let g = rank_rises to (nth (S limit) i) h in absurd (omega (arith, g, m.rank_is, lt')))
  ]
