-- Chains grow, and are halved.
use Rattle.std.proofs.Common.{◌≡◌, ◌⊎◌, inl, inr, ℕ, zero, suc, ◌+◌, ◌-◌, ◌<◌, ◌≤◌, Bool, true, false, if◌then◌else◌, List, [], ◌∷◌, ◌++◌, length, take, get_or, Option, Some, None, refl, sym, ap, ◌∙◌, subst, arith}
use Rattle.std.specs.Prelude.{slice_get, find, nat_lt}
use Rattle.std.proofs.lemmas.Bool.Decides.{nat_tests}
use Rattle.std.proofs.lemmas.List.{take_more}
use Rattle.std.proofs.lemmas.Option.{same_Some}
use Rattle.pt_ranges.specs.declared.handlers.Handler.{Handler}
use Rattle.pt_takers.specs.declared.sides.Side.{Side}
use Rattle.pt_takers.specs.Sides.{key, is_below}
use Rattle.pt_takers.specs.Chains.{Falls, IsChain, is_lower, add_lower}
use Rattle.pt_takers.proofs.Lists.{none_some, got_below, got_cases, find_none, find_at_point, find_push, find_as_before}

pub less : (a b : ℕ) → nat_lt a b ≡ true → a < b
less a b e = grind (arith, nat_tests)

pub not_less : (a b : ℕ) → nat_lt a b ≡ false → b ≤ a
not_less a b e = grind (arith, nat_tests)

pub is_less : (a b : ℕ) → a < b → nat_lt a b ≡ true
is_less a b lt = grind (arith, nat_tests)

pub no_chain : (side : Side) → IsChain side [] []
no_chain side = record { first = λ b. refl; falls = λ i j r s le e g. absurd (none_some r e) }

last_of : (xs : List Handler) (i : ℕ) (r : Handler) → slice_get xs i ≡ Some r
    → (l : Handler) × (slice_get xs (length xs - 1) ≡ Some l)
last_of [] i r e = absurd (none_some r e)
last_of (x ∷ []) i r e = (x, refl)
last_of (x ∷ y ∷ xs) i r e = let (l, g) = last_of (y ∷ xs) 0 y refl in
    let n : length (x ∷ y ∷ xs) - 1 ≡ suc (length (y ∷ xs) - 1) = omega arith in
    (l, ap (λ k. slice_get (x ∷ y ∷ xs) k) n ∙ g)

module _ (side : Side) (rows chain : List Handler) (row : Handler) (c : IsChain side rows chain) where
  -- each row of the chain is above the new one
  above_all : ((l : Handler) → slice_get chain (length chain - 1) ≡ Some l → key side row ≤ key side l)
      → (i : ℕ) (r : Handler) → slice_get chain i ≡ Some r → key side row ≤ key side r
  above_all above i r e =
      let (l, g) = last_of chain i r e in
      let lt = got_below chain i r e in
      let h = c.falls i (length chain - 1) r l (omega (arith, lt)) e g in
      let k = above l g in omega (arith, h, k)

  added : ((l : Handler) → slice_get chain (length chain - 1) ≡ Some l → key side row ≤ key side l)
      → IsChain side (rows ++ row ∷ []) (chain ++ row ∷ [])
  added above = record {
    first = λ b. find_push (is_below side b) chain rows row (c.first b);
    falls = λ i j r s le e g. falls i j r s le (got_cases chain row i r e) (got_cases chain row j s g);
  } where
    falls : (i j : ℕ) (r s : Handler) → i ≤ j → (slice_get chain i ≡ Some r) ⊎ ((i ≡ length chain) × (row ≡ r))
        → (slice_get chain j ≡ Some s) ⊎ ((j ≡ length chain) × (row ≡ s)) → key side s ≤ key side r
    falls i j r s le (inl e) (inl g) = c.falls i j r s le e g
    falls i j r s le (inl e) (inr (m, g)) = subst (λ x. key side x ≤ key side r) g (above_all above i r e)
    falls i j r s le (inr (m, e)) (inl g) = let lt = got_below chain j s g in absurd (omega (arith, lt, m, le))
    falls i j r s le (inr (m, e)) (inr (n, g)) =
        subst (λ x. key side s ≤ key side x) e (subst (λ x. key side x ≤ key side row) g (omega arith))

  kept : (l : Handler) → slice_get chain (length chain - 1) ≡ Some l → key side l ≤ key side row
      → IsChain side (rows ++ row ∷ []) chain
  kept l g low = record {
    first = λ b. c.first b ∙ sym (find_as_before (is_below side b) rows row (passed b));
    falls = c.falls;
  } where
    passed : (b : ℕ) → find (is_below side b) rows ≡ None → is_below side b row ≡ true → ⊥
    passed b none t = let lt = less (key side row) b t in
        find_none (is_below side b) chain (length chain - 1) l (c.first b ∙ none) g (is_less (key side l) b (omega (arith, lt, low)))

  pub chain_add : IsChain side (rows ++ row ∷ []) (add_lower side chain row)
  chain_add = by_last (slice_get chain (length chain - 1)) refl
    where
      by_test : (l : Handler) → slice_get chain (length chain - 1) ≡ Some l → (t : Bool) → is_below side (key side l) row ≡ t
          → IsChain side (rows ++ row ∷ []) (if t then chain ++ row ∷ [] else chain)
      by_test l g true e = added (λ m h. let lt = less (key side row) (key side l) e in
          let same : l ≡ m = same_Some l m (sym g ∙ h) in
          subst (λ x. key side row ≤ key side x) same (omega (arith, lt)))
      by_test l g false e = kept l g (not_less (key side row) (key side l) e)

      by_last : (o : Option Handler) → slice_get chain (length chain - 1) ≡ o
          → IsChain side (rows ++ row ∷ []) (if is_lower side o row then chain ++ row ∷ [] else chain)
      by_last None e = added (λ l g. absurd (none_some l (sym e ∙ g)))
      by_last (Some l) e = by_test l e (is_below side (key side l) row) refl

pub chain_more : (side : Side) (rows : List Handler) (i : ℕ) (d : Handler) → i < length rows → (chain chain' : List Handler)
    → IsChain side (take i rows) chain → chain' ≡ add_lower side chain (get_or rows i d)
    → IsChain side (take (i + 1) rows) chain'
chain_more side rows i d lt chain chain' c e = subst (λ xs. IsChain side xs chain') (sym (take_more rows i d lt))
    (subst (λ xs. IsChain side (take i rows ++ get_or rows i d ∷ []) xs) (sym e) (chain_add side (take i rows) chain (get_or rows i d) c))

-- the test fails below, and holds at the end of what is left
pub record Halving (side : Side) (bound : ℕ) (chain : List Handler) (low high : ℕ) : Type 0 where
  pub ordered : low ≤ high
  pub inside : high ≤ length chain
  pub left : Falls side chain → (i : ℕ) (r : Handler) → i < low → slice_get chain i ≡ Some r → is_below side bound r ≡ false
  pub here : (r : Handler) → slice_get chain high ≡ Some r → is_below side bound r ≡ true

past_end : (xs : List Handler) (i : ℕ) (x : Handler) → length xs ≤ i → slice_get xs i ≡ Some x → ⊥
past_end xs i x le e = let lt = got_below xs i x e in omega (arith, lt, le)

module _ (side : Side) (bound : ℕ) (chain : List Handler) where
  pub halving_start : Halving side bound chain 0 (length chain)
  halving_start = record {
    ordered = omega arith;
    inside = omega arith;
    left = λ f i r lt e. absurd (omega (arith, lt));
    here = λ r e. absurd (past_end chain (length chain) r (omega arith) e);
  }

  module _ (low high middle : ℕ) (h : Halving side bound chain low high) (from : low ≤ middle) (lt : middle < high) (d : Handler) where
    at_middle : slice_get chain middle ≡ Some (get_or chain middle d)
    at_middle = got chain middle (let i = h.inside in omega (arith, lt, i))
      where
        got : (xs : List Handler) (i : ℕ) → i < length xs → slice_get xs i ≡ Some (get_or xs i d)
        got [] i l = absurd (omega (arith, l))
        got (x ∷ xs) zero l = refl
        got (x ∷ xs) (suc i) l = got xs i (omega (arith, l))

    pub halving_low : is_below side bound (get_or chain middle d) ≡ true → Halving side bound chain low middle
    halving_low t = record {
      ordered = from;
      inside = let i = h.inside in omega (arith, lt, i);
      left = h.left;
      here = λ r e. subst (λ x. is_below side bound x ≡ true) (same_Some (get_or chain middle d) r (sym at_middle ∙ e)) t;
    }

    pub halving_high : is_below side bound (get_or chain middle d) ≡ false → Halving side bound chain (middle + 1) high
    halving_high t = record {
      ordered = omega (arith, lt);
      inside = h.inside;
      left = λ f i r l e. by_order (is_below side bound r) r refl f i l e;
      here = h.here;
    } where
      by_order : (b : Bool) → (r : Handler) → is_below side bound r ≡ b → Falls side chain → (i : ℕ) → i < middle + 1
          → slice_get chain i ≡ Some r → b ≡ false
      by_order false r t' f i l e = refl
      by_order true r t' f i l e =
          let k = f i middle r (get_or chain middle d) (omega (arith, l)) e at_middle in
          let a = less (key side r) bound t' in
          let m = not_less (key side (get_or chain middle d)) bound t in absurd (omega (arith, k, a, m))

  pub halving_ends : (n high : ℕ) → Halving side bound chain n high → high ≤ n → Falls side chain
      → slice_get chain n ≡ find (is_below side bound) chain
  halving_ends n high h le f = let o = h.ordered in let same : high ≡ n = omega (arith, o, le) in
      sym (find_at_point (is_below side bound) chain n (h.left f) (subst (λ k. (r : Handler) → slice_get chain k ≡ Some r → is_below side bound r ≡ true) same h.here))
