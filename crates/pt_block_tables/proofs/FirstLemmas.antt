-- The first test that is false, and rows in their order.
use Rattle.std.proofs.Common.{◌≡◌, ℕ, ◌+◌, ◌<◌, ◌≤◌, List, [], ◌∷◌, ◌++◌, length, map, Bool, true, false, Option, Some, None, refl, sym, ap, ◌∙◌, subst, arith, zero, suc, ◌⊎◌, inl, inr}
use Rattle.std.specs.Prelude.{slice_get, option_map}
use Rattle.std.proofs.lemmas.Option.{same_Some}
use Rattle.std.proofs.lemmas.Bool.{false≢true}
use Rattle.pt_ranges.specs.declared.handlers.Handler.{Handler}
use Rattle.pt_ranges.specs.declared.lines.ActMark.{ActMark}
use Rattle.sem_fits.specs.fits.Block.{Block}
use Rattle.sem_fits.specs.fits.Tables.{in_order, is_laid, rows_hold}
use Rattle.sem_fits.specs.fits.Fits.{IsLeast}
use Rattle.pt_block_tables.specs.FirstRow.{IsFalseAt, IsFirstFalse, TellsRows}

abbrev pub NoneBelow : List Bool → ℕ → Type 0
NoneBelow xs n = (m : ℕ) → m < n → IsFalseAt xs m → ⊥

below_or : (q l : ℕ) → q < l + 1 → (q < l) ⊎ (q ≡ l)
below_or zero zero h = inr refl
below_or zero (suc l) h = inl (omega arith)
below_or (suc q) zero h = absurd (omega arith)
below_or (suc q) (suc l) h = elim (below_or q l (omega arith)) [ inl a ↦ inl (omega arith) | inr a ↦ inr (ap (λ n. suc n) a) ]

get_in : {X : Type 0} (xs : List X) (i : ℕ) (x : X) → slice_get xs i ≡ Some x → i < length xs
get_in [] i x e = absurd (cc)
get_in (y ∷ xs) zero x e = omega arith
get_in (y ∷ xs) (suc i) x e = omega (arith, get_in xs i x e)

get_map : {X Y : Type 0} (f : X → Y) (xs : List X) (i : ℕ) (x : X) → slice_get xs i ≡ Some x → slice_get (map f xs) i ≡ Some (f x)
get_map f [] i x e = absurd (cc)
get_map f (y ∷ xs) zero x e = ap (λ z. Some (f z)) (same_Some _ _ e)
get_map f (y ∷ xs) (suc i) x e = get_map f xs i x e

map_length : {X Y : Type 0} (f : X → Y) (xs : List X) → length (map f xs) ≡ length xs
map_length f [] = refl
map_length f (x ∷ xs) = omega (arith, map_length f xs)

get_left : {X : Type 0} (xs ys : List X) (i : ℕ) → i < length xs → slice_get (xs ++ ys) i ≡ slice_get xs i
get_left [] ys i h = absurd (omega arith)
get_left (x ∷ xs) ys zero h = refl
get_left (x ∷ xs) ys (suc i) h = get_left xs ys i (omega arith)

get_behind : {X : Type 0} (xs ys : List X) (n i : ℕ) → n ≡ length xs + i → slice_get (xs ++ ys) n ≡ slice_get ys i
get_behind [] ys n i e = ap (λ k. slice_get ys k) (let f : n ≡ i = omega arith in f)
get_behind (x ∷ xs) ys zero i e = absurd (omega arith)
get_behind (x ∷ xs) ys (suc n) i e = get_behind xs ys n i (omega arith)

left_or : (n k : ℕ) → (n < k) ⊎ ((i : ℕ) × (n ≡ k + i))
left_or zero zero = inr (zero, omega arith)
left_or zero (suc k) = inl (omega arith)
left_or (suc n) zero = inr (suc n, omega arith)
left_or (suc n) (suc k) = elim (left_or n k) [ inl h ↦ inl (omega arith) | inr (i, e) ↦ inr (i, omega arith) ]

module _ (xs : List Bool) where
  pub least_at : (n : ℕ) → NoneBelow xs n → IsFalseAt xs n → IsLeast (IsFalseAt xs) n
  least_at n none here = record { holds = here; least = none }

  pub none_more : (n : ℕ) → NoneBelow xs n → slice_get xs n ≡ Some true → NoneBelow xs (n + 1)
  none_more n none here m lt h = elim (below_or m n lt) [
    | inl k ↦ none m k h
    | inr e ↦ false≢true (same_Some _ _ (sym h ∙ subst (λ k. slice_get xs k ≡ Some true) (sym e) here))
  ]

  pub none_at_all : (n : ℕ) → NoneBelow xs n → length xs ≤ n → IsFirstFalse xs None
  none_at_all n none le m h = none m (omega (arith, le, get_in xs m false h)) h

-- two lists, the one behind the other
module _ (xs ys : List Bool) where
  pub first_left : (n : ℕ) → IsFirstFalse xs (Some n) → IsFirstFalse (xs ++ ys) (Some n)
  first_left n l = let in_xs : n < length xs = get_in xs n false l.holds in record {
    holds = get_left xs ys n in_xs ∙ l.holds;
    least = λ m lt h. l.least m lt (sym (get_left xs ys m (omega arith)) ∙ h);
  }

  pub first_behind : (o r : Option ℕ) → IsFirstFalse xs None → IsFirstFalse ys o → r ≡ option_map (λ k. length xs + k) o → IsFirstFalse (xs ++ ys) r
  first_behind o r none first e = subst (λ x. IsFirstFalse (xs ++ ys) x) (sym e) (by_cases o first)
    where
      at : (n : ℕ) → IsFalseAt (xs ++ ys) n → (i : ℕ) × ((n ≡ length xs + i) × IsFalseAt ys i)
      at n h = elim (left_or n (length xs)) [
        | inl lt ↦ absurd (none n (sym (get_left xs ys n lt) ∙ h))
        | inr (i, e) ↦ (i, (e, sym (get_behind xs ys n i e) ∙ h))
      ]

      by_cases : (o : Option ℕ) → IsFirstFalse ys o → IsFirstFalse (xs ++ ys) (option_map (λ k. length xs + k) o)
      by_cases None f = λ n h. (let (i, (e, k)) = at n h in f i k)
      by_cases (Some k) f = record {
        holds = get_behind xs ys (length xs + k) k refl ∙ f.holds;
        least = λ m lt h. (let (i, (e, j)) = at m h in f.least i (omega (arith, e, lt)) j);
      }

-- marks and starts in their order
abbrev pub before_of : (before : Option ℕ) → List ℕ → (number : ℕ) → Option ℕ
before_of before pcs zero = before
before_of before pcs (suc i) = slice_get pcs i

module _ (b : Block) where
  in_turn : (before : Option ℕ) (pcs : List ℕ) (i pc : ℕ) → slice_get pcs i ≡ Some pc
      → slice_get (in_order b before pcs) i ≡ slice_get (in_order b (before_of before pcs i) (pc ∷ [])) 0
  in_turn before [] i pc e = absurd (cc)
  in_turn before (p ∷ pcs) zero pc e = ap (λ q. slice_get (in_order b before (q ∷ [])) 0) (same_Some _ _ e)
  in_turn before (p ∷ pcs) (suc zero) pc e = in_turn (Some p) pcs zero pc e
  in_turn before (p ∷ pcs) (suc (suc i)) pc e = in_turn (Some p) pcs (suc i) pc e

  order_length : (before : Option ℕ) (pcs : List ℕ) → length (in_order b before pcs) ≡ length pcs
  order_length before [] = refl
  order_length before (p ∷ pcs) = omega (arith, order_length (Some p) pcs)

  module _ {X : Type 0} (f : X → ℕ) (xs : List X) where
    abbrev pcs : List ℕ
    pcs = map f xs

    pub next_is : (i : ℕ) (x : X) (before : Option ℕ) (r : Bool) → slice_get xs i ≡ Some x → before ≡ before_of None pcs i → r ∷ [] ≡ in_order b before (f x ∷ [])
        → slice_get (in_order b None pcs) i ≡ Some r
    next_is i x before r e w is = in_turn None pcs i (f x) (get_map f xs i x e)
        ∙ (ap (λ o. slice_get (in_order b o (f x ∷ [])) 0) (sym w) ∙ sym (ap (λ rs. slice_get rs 0) is))

    pub none_in_order : (n : ℕ) → NoneBelow (in_order b None pcs) n → length xs ≤ n → IsFirstFalse (in_order b None pcs) None
    none_in_order n none le = none_at_all (in_order b None pcs) n none (let h : length pcs ≡ length xs = map_length f xs in omega (arith, order_length None pcs, h, le))

pub before_next : {X : Type 0} (f : X → ℕ) (xs : List X) (i : ℕ) (x : X) → slice_get xs i ≡ Some x → Some (f x) ≡ before_of None (map f xs) (i + 1)
before_next f xs i x e = let h : suc i ≡ i + 1 = omega arith in subst (λ n. Some (f x) ≡ before_of None (map f xs) n) h (sym (get_map f xs i x e))

pub mapped_is : {X : Type 0} (f : X → Bool) (xs : List X) (i : ℕ) (x : X) (r : Bool) → slice_get xs i ≡ Some x → r ≡ f x → slice_get (map f xs) i ≡ Some r
mapped_is f xs i x r e is = get_map f xs i x e ∙ ap (λ b. Some b) (sym is)

pub none_in_map : {X : Type 0} (f : X → Bool) (xs : List X) (n : ℕ) → NoneBelow (map f xs) n → length xs ≤ n → IsFirstFalse (map f xs) None
none_in_map f xs n none le = none_at_all (map f xs) n none (let h : length (map f xs) ≡ length xs = map_length f xs in omega (arith, h, le))

pub tells : (b : Block) (o : Option ℕ) → IsFirstFalse (rows_hold b) o → TellsRows b o
tells b None f = f
tells b (Some n) f = f

-- rows that are counted behind so many
pub counted : (xs ys : List Bool) (n : ℕ) (o r : Option ℕ) → length xs ≡ n → IsFirstFalse xs None → IsFirstFalse ys o → r ≡ option_map (λ k. n + k) o → IsFirstFalse (xs ++ ys) r
counted xs ys n o r e none first is = first_behind xs ys o r none first (subst (λ m. r ≡ option_map (λ k. m + k) o) (sym e) is)

pub laid_length : (b : Block) (rows : List Handler) → length (map (is_laid b) rows) ≡ length rows
laid_length b rows = map_length (is_laid b) rows

pub marks_length : (b : Block) (marks : List ActMark) → length (in_order b None (map (λ m. m.pc.0) marks)) ≡ length marks
marks_length b marks = order_length b None (map (λ m. m.pc.0) marks) ∙ map_length (λ m. m.pc.0) marks
