-- Lists, clusters and the states of vertices.
use Rattle.std.proofs.Common.{◌≡◌, ℕ, ◌+◌, ◌<◌, ◌≤◌, List, [], ◌∷◌, ◌++◌, length, Some, refl, sym, ap, ◌∙◌, arith, subst, zero, suc, ◌⊎◌, inl, inr, get_or, set, replicate}
use Rattle.std.specs.Prelude.{Contains, slice_get}
use Rattle.std.proofs.lemmas.List.{get_or_append_left, get_or-append-add, get_or-set_same, get_or-set_other}
use Rattle.std.proofs.lemmas.Option.{same_Some}
use Rattle.pt_cycles.specs.declared.search.State.{State}
use Rattle.pt_cycles.specs.declared.search.State.TheVariants.{New, OnPath, Done}
use Rattle.pt_cycles.specs.declared.search.Cluster.{Cluster}
use Rattle.pt_cycles.specs.Search.{at, state_of, number_in, Rises}

pub eq_or : (a b : ℕ) → (a ≡ b) ⊎ (a ≡ b → ⊥)
eq_or zero zero = inl refl
eq_or zero (suc b) = inr (λ h. omega arith)
eq_or (suc a) zero = inr (λ h. omega arith)
eq_or (suc a) (suc b) = elim (eq_or a b) [ inl h ↦ inl (ap (λ n. suc n) h) | inr ne ↦ inr (λ h. ne (omega arith)) ]

pub below_or : (a b : ℕ) → (a < b) ⊎ (b ≤ a)
below_or zero zero = inr (omega arith)
below_or zero (suc b) = inl (omega arith)
below_or (suc a) zero = inr (omega arith)
below_or (suc a) (suc b) = elim (below_or a b) [ inl h ↦ inl (omega arith) | inr h ↦ inr (omega arith) ]

pub none_in_empty : {X : Type 0} (x : X) → Contains [] x → ⊥
none_in_empty x (k, lt, is) = absurd (omega arith)

-- what stands in a list that one is pushed to
pub at_left : (xs ys : List ℕ) (i : ℕ) → i < length xs → at (xs ++ ys) i ≡ at xs i
at_left xs ys i h = get_or_append_left xs ys 0 i h

pub at_last : (xs : List ℕ) (x : ℕ) → at (xs ++ x ∷ []) (length xs) ≡ x
at_last [] x = refl
at_last (y ∷ xs) x = at_last xs x

pub at_behind : (xs ys : List ℕ) (i : ℕ) → at (xs ++ ys) (length xs + i) ≡ at ys i
at_behind xs ys i = get_or-append-add xs ys i 0

pub pushed_length : {X : Type 0} (xs : List X) (x : X) → length (xs ++ x ∷ []) ≡ length xs + 1
pushed_length [] x = refl
pushed_length (y ∷ xs) x = omega (arith, pushed_length xs x)

pub contains_at : (xs : List ℕ) (x : ℕ) → Contains xs x → (i : ℕ) × ((i < length xs) × (at xs i ≡ x))
contains_at [] x c = absurd (none_in_empty x c)
contains_at (y ∷ ys) x (zero, l, e) = (zero, (omega arith, e))
contains_at (y ∷ ys) x (suc k, l, e) = let (i, (m, g)) = contains_at ys x (k, (omega (arith, l)), e) in (suc i, (omega (arith, m), g))

pub at_contains : (xs : List ℕ) (i : ℕ) → i < length xs → Contains xs (at xs i)
at_contains [] i h = absurd (omega arith)
at_contains (x ∷ xs) zero h = (zero, omega arith, refl)
at_contains (x ∷ xs) (suc i) h = let (k, l, e) = at_contains xs i (omega arith) in (suc k, omega (arith, l), e)

-- clusters

contains_get : {X : Type 0} (xs : List X) (x : X) → Contains xs x → (i : ℕ) × ((i < length xs) × (slice_get xs i ≡ Some x))
contains_get [] x c = absurd (none_in_empty x c)
contains_get (y ∷ ys) x (zero, l, e) = (zero, (omega arith, ap (λ z. Some z) e))
contains_get (y ∷ ys) x (suc k, l, e) = let (i, (m, g)) = contains_get ys x (k, (omega (arith, l)), e) in (suc i, (omega (arith, m), g))

get_left : {X : Type 0} (xs ys : List X) (i : ℕ) (x : X) → slice_get xs i ≡ Some x → slice_get (xs ++ ys) i ≡ Some x
get_left [] ys i x e = absurd (cc)
get_left (y ∷ xs) ys zero x e = e
get_left (y ∷ xs) ys (suc i) x e = get_left xs ys i x e

get_last : {X : Type 0} (xs : List X) (x : X) → slice_get (xs ++ x ∷ []) (length xs) ≡ Some x
get_last [] x = refl
get_last (y ∷ xs) x = get_last xs x

-- an element of a list that one is pushed to
get_cases : (xs : List Cluster) (x : Cluster) (i : ℕ) (y : Cluster) → slice_get (xs ++ x ∷ []) i ≡ Some y
    → ((i < length xs) × (slice_get xs i ≡ Some y)) ⊎ ((i ≡ length xs) × (x ≡ y))
get_cases [] x zero y e = inr (refl, same_Some _ _ e)
get_cases [] x (suc i) y e = absurd (cc)
get_cases (z ∷ xs) x zero y e = inl (omega arith, e)
get_cases (z ∷ xs) x (suc i) y e = elim (get_cases xs x i y e) [ inl (a, b) ↦ inl (omega arith, b) | inr (a, b) ↦ inr (ap (λ n. suc n) a, b) ]

got : (xs : List Cluster) (i : ℕ) (x : Cluster) → slice_get xs i ≡ Some x → Contains xs x
got [] i x e = absurd (cc)
got (y ∷ xs) zero x e = (zero, omega arith, same_Some _ _ e)
got (y ∷ xs) (suc i) x e = let (k, l, f) = got xs i x e in (suc k, omega (arith, l), f)

pub rises_left : (bs : List Cluster) (b : Cluster) → Rises (bs ++ b ∷ []) → Rises bs
rises_left bs b r i j c d lt e f = r i j c d lt (get_left bs (b ∷ []) i c e) (get_left bs (b ∷ []) j d f)

pub rises_last : (bs : List Cluster) (b : Cluster) → Rises (bs ++ b ∷ []) → (c : Cluster) → Contains bs c → (c.path < b.path) × (c.work ≤ b.work)
rises_last bs b r c k = let (i, (m, g)) = contains_get bs c k in r i (length bs) c b m (get_left bs (b ∷ []) i c g) (get_last bs b)

pub rises_push : (bs : List Cluster) (b : Cluster) → Rises bs → ((c : Cluster) → Contains bs c → (c.path < b.path) × (c.work ≤ b.work)) → Rises (bs ++ b ∷ [])
rises_push bs b r low i j c d lt e f = by_cases (get_cases bs b i c e) (get_cases bs b j d f)
  where
    by_cases : ((i < length bs) × (slice_get bs i ≡ Some c)) ⊎ ((i ≡ length bs) × (b ≡ c))
        → ((j < length bs) × (slice_get bs j ≡ Some d)) ⊎ ((j ≡ length bs) × (b ≡ d)) → (c.path < d.path) × (c.work ≤ d.work)
    by_cases (inl (a, x)) (inl (k, y)) = r i j c d lt x y
    by_cases (inl (a, x)) (inr (k, y)) = subst (λ z. (c.path < z.path) × (c.work ≤ z.work)) y (low c (got bs i c x))
    by_cases (inr (a, x)) (inl (k, y)) = absurd (omega arith)
    by_cases (inr (a, x)) (inr (k, y)) = absurd (omega arith)

pub rises_none : Rises []
rises_none i j c d lt e f = absurd (cc)

-- states

abbrev place_in : State → ℕ
place_in New = 0
place_in (OnPath i) = i
place_in (Done k) = k

pub new_or_path : (i : ℕ) → New ≡ OnPath i → ⊥
new_or_path i h = cc

pub new_or_done : (k : ℕ) → New ≡ Done k → ⊥
new_or_done k h = cc

pub path_or_done : (i k : ℕ) → OnPath i ≡ Done k → ⊥
path_or_done i k h = cc

pub same_place : (i j : ℕ) → OnPath i ≡ OnPath j → i ≡ j
same_place i j h = ap (λ s. place_in s) h

pub same_component : (i j : ℕ) → Done i ≡ Done j → i ≡ j
same_component i j h = ap (λ s. place_in s) h

pub state_here : (T : List State) (v : ℕ) (s : State) → v < length T → state_of (set T v s) v ≡ s
state_here T v s h = get_or-set_same T v s New h

pub state_other : (T : List State) (v w : ℕ) (s : State) → (w ≡ v → ⊥) → state_of (set T v s) w ≡ state_of T w
state_other T v w s ne = get_or-set_other T v w s New ne

pub is_empty : {X : Type 0} (xs : List X) → length xs ≡ 0 → xs ≡ []
is_empty [] h = refl
is_empty (x ∷ xs) h = absurd (omega arith)

pub no_more : {X : Type 0} (xs ys : List X) → xs ≡ ys ++ [] → ys ≡ [] → xs ≡ []
no_more xs ys e h = e ∙ ap (λ zs. zs ++ []) h

get_same : {X : Type 0} (xs : List X) (i : ℕ) (x y : X) → i < length xs → get_or xs i x ≡ get_or xs i y
get_same [] i x y h = absurd (omega arith)
get_same (z ∷ xs) zero x y h = refl
get_same (z ∷ xs) (suc i) x y h = get_same xs i x y (omega arith)

-- the state that an index read
pub state_is : (T : List State) (v : ℕ) (s t : State) → v < length T → s ≡ get_or T v s → s ≡ t → state_of T v ≡ t
state_is T v s t h e f = get_same T v New s h ∙ (sym e ∙ f)

pub number_is : (xs : List ℕ) (i x : ℕ) → i < length xs → x ≡ get_or xs i x → at xs i ≡ x
number_is xs i x h e = get_same xs i 0 x h ∙ sym e

-- one number more
pub numbers_more : (T : List State) (table : List ℕ) (i : ℕ) (d : State) (x : ℕ) → length table ≡ i → i < length T
    → ((v k : ℕ) → v < i → state_of T v ≡ Done k → at table v ≡ k) → x ≡ number_in (get_or T i d)
    → (v k : ℕ) → v < i + 1 → state_of T v ≡ Done k → at (table ++ x ∷ []) v ≡ k
numbers_more T table i d x long in_T has is v k lt e = elim (below_or v i) [
  | inl h ↦ at_left table (x ∷ []) v (omega arith) ∙ has v k h e
  | inr h ↦ (let same : v ≡ length table = omega arith in let w : v ≡ i = omega arith in
      subst (λ n. at (table ++ x ∷ []) n ≡ k) (sym same)
      (at_last table x ∙ (is ∙ ap (λ s. number_in s) (get_same T i d New in_T ∙ subst (λ n. state_of T n ≡ Done k) w e))))
]

pub state_back : (T : List State) (v : ℕ) (s t : State) → v < length T → s ≡ get_or T v s → state_of T v ≡ t → s ≡ t
state_back T v s t h e f = e ∙ (get_same T v s New h ∙ f)

pub done_in : (T : List State) (v k : ℕ) → state_of T v ≡ Done k → v < length T
done_in [] v k e = absurd (new_or_done k e)
done_in (s ∷ T) zero k e = omega arith
done_in (s ∷ T) (suc v) k e = omega (arith, done_in T v k e)

pub all_new : (n v : ℕ) → state_of (replicate n New) v ≡ New
all_new zero v = refl
all_new (suc n) zero = refl
all_new (suc n) (suc v) = all_new n v
