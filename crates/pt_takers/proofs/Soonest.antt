-- The row with the least number of some.
use Rattle.std.proofs.Common.{◌≡◌, ◌⊎◌, inl, inr, ℕ, zero, suc, ◌/◌, ◌≤◌, Bool, true, false, if◌then◌else◌, List, [], ◌∷◌, Option, Some, None, refl, sym, ap, ◌∙◌, subst, arith}
use Rattle.std.specs.Prelude.{Contains, slice_get, find, nat_le}
use Rattle.std.proofs.lemmas.Bool.{false≢true}
use Rattle.std.proofs.lemmas.Bool.Decides.{nat_tests}
use Rattle.pt_ranges.specs.declared.handlers.Handler.{Handler}
use Rattle.pt_sizes.specs.Waiting.{Level, up, stretch_of, stretch}
use Rattle.pt_takers.specs.declared.sides.Side.{Side}
use Rattle.pt_takers.specs.Sides.{is_below}
use Rattle.pt_takers.specs.Stretches.{sooner, first_up}
use Rattle.pt_takers.proofs.Lists.{none_in, in_got, find_here, find_later}

-- the row of some that has the least number, or none
abbrev pub IsSoonest : (Handler → Type 0) → Option Handler → Type 0
IsSoonest Q (Some h) = Q h × ((x : Handler) → Q x → h.target.0 ≤ x.target.0)
IsSoonest Q None = (x : Handler) → Q x → ⊥

pub soonest_as : (Q R : Handler → Type 0) → ((x : Handler) → Q x → R x) → ((x : Handler) → R x → Q x) → (o : Option Handler) → IsSoonest Q o → IsSoonest R o
soonest_as Q R to from (Some h) (q, least) = (to h q, λ x r. least x (from x r))
soonest_as Q R to from None none = λ x r. none x (from x r)

at_most : (a b : ℕ) → nat_le a b ≡ true → a ≤ b
at_most a b e = grind (arith, nat_tests)

more_than : (a b : ℕ) → nat_le a b ≡ false → b ≤ a
more_than a b e = grind (arith, nat_tests)

pub soonest_both : (Q R : Handler → Type 0) (o p : Option Handler) → IsSoonest Q o → IsSoonest R p → IsSoonest (λ x. Q x ⊎ R x) (sooner o p)
soonest_both Q R None None n m = λ x e. elim e [ inl q ↦ n x q | inr r ↦ m x r ]
soonest_both Q R None (Some k) n (r, low) = (inr r, λ x e. elim e [ inl q ↦ absurd (n x q) | inr s ↦ low x s ])
soonest_both Q R (Some h) None (q, least) m = (inl q, λ x e. elim e [ inl s ↦ least x s | inr r ↦ absurd (m x r) ])
soonest_both Q R (Some h) (Some k) (q, least) (r, low) = by_test (nat_le h.target.0 k.target.0) refl
  where
    by_test : (t : Bool) → nat_le h.target.0 k.target.0 ≡ t → IsSoonest (λ x. Q x ⊎ R x) (if t then Some h else Some k)
    by_test true e = (inl q, λ x f. elim f [ inl s ↦ least x s | inr s ↦ (let a = at_most h.target.0 k.target.0 e in let b = low x s in omega (arith, a, b)) ])
    by_test false e = (inr r, λ x f. elim f [ inl s ↦ (let a = more_than h.target.0 k.target.0 e in let b = least x s in omega (arith, a, b)) | inr s ↦ low x s ])

abbrev pub RisesByNumber : List Handler → Type 0
RisesByNumber rows = (i j : ℕ) (r s : Handler) → i ≤ j → slice_get rows i ≡ Some r → slice_get rows j ≡ Some s → r.target.0 ≤ s.target.0

-- rows of a list of which a test holds
abbrev pub Passing : (Handler → Bool) → List Handler → Handler → Type 0
Passing p rows x = Contains rows x × (p x ≡ true)

module _ (p : Handler → Bool) where
  later_in : (y : Handler) (rows : List Handler) (x : Handler) → Passing p rows x → Passing p (y ∷ rows) x
  later_in y rows x ((k, l, e), t) = ((suc k, omega (arith, l), e), t)

  behind : (y : Handler) (rows : List Handler) → p y ≡ false → (x : Handler) → Passing p (y ∷ rows) x → Passing p rows x
  behind y rows h x ((zero, l, e), t) = absurd (false≢true (sym h ∙ (ap p e ∙ t)))
  behind y rows h x ((suc k, l, e), t) = ((k, omega (arith, l), e), t)

  pub soonest_in : (rows : List Handler) → RisesByNumber rows → IsSoonest (Passing p rows) (find p rows)
  soonest_in [] rises = λ x (c, t). none_in x c
  soonest_in (y ∷ rows) rises = by_test (soonest_in rows (λ i j r s le e g. rises (suc i) (suc j) r s (omega (arith, le)) e g)) (p y) refl
    where
      by_test : IsSoonest (Passing p rows) (find p rows) → (t : Bool) → p y ≡ t → IsSoonest (Passing p (y ∷ rows)) (find p (y ∷ rows))
      by_test more true h = subst (IsSoonest (Passing p (y ∷ rows))) (sym (find_here p y rows h))
          (((zero, omega arith, refl), h), λ x (c, t). let (i, g) = in_got (y ∷ rows) x c in rises 0 i y x (omega arith) refl g)
      by_test more false h = subst (IsSoonest (Passing p (y ∷ rows))) (sym (find_later p y rows h))
          (soonest_as (Passing p rows) (Passing p (y ∷ rows)) (later_in y rows) (behind y rows h) (find p rows) more)

up_half : (k n : ℕ) → up k (n / 2) ≡ up k n / 2
up_half zero n = refl
up_half (suc k) n = ap (λ m. m / 2) (up_half k n)

-- a row in a stretch around a place of which a test holds
pub record Around (p : Handler → Bool) (levels : List Level) (node : ℕ) (x : Handler) : Type 0 where
  pub level : ℕ
  pub among : Contains (stretch levels level (up level node)) x
  pub passes : p x ≡ true

module _ (side : Side) (bound : ℕ) where
  above : (level : Level) (levels : List Level) (node : ℕ) (x : Handler)
      → Passing (is_below side bound) (stretch_of level node) x ⊎ Around (is_below side bound) levels (node / 2) x
      → Around (is_below side bound) (level ∷ levels) node x
  above level levels node x (inl (c, t)) = record { level = zero; among = c; passes = t }
  above level levels node x (inr a) = record {
    level = suc a.level;
    among = subst (λ v. Contains (stretch levels a.level v) x) (up_half a.level node) a.among;
    passes = a.passes;
  }

  around : (level : Level) (levels : List Level) (node : ℕ) (x : Handler) → Around (is_below side bound) (level ∷ levels) node x
      → Passing (is_below side bound) (stretch_of level node) x ⊎ Around (is_below side bound) levels (node / 2) x
  around level levels node x a = by_level a.level a.among
    where
      by_level : (k : ℕ) → Contains (stretch (level ∷ levels) k (up k node)) x
          → Passing (is_below side bound) (stretch_of level node) x ⊎ Around (is_below side bound) levels (node / 2) x
      by_level zero c = inl (c, a.passes)
      by_level (suc k) c = inr (record {
        level = k;
        among = subst (λ v. Contains (stretch levels k v) x) (sym (up_half k node)) c;
        passes = a.passes;
      })

  pub soonest_up : (levels : List Level) (node : ℕ) → ((k : ℕ) → RisesByNumber (stretch levels k (up k node)))
      → IsSoonest (Around (is_below side bound) levels node) (first_up side bound levels node)
  soonest_up [] node rises = λ x a. none_in x a.among
  soonest_up (level ∷ levels) node rises =
      soonest_as (λ x. Passing (is_below side bound) (stretch_of level node) x ⊎ Around (is_below side bound) levels (node / 2) x)
      (Around (is_below side bound) (level ∷ levels) node) (above level levels node) (around level levels node)
      (first_up side bound (level ∷ levels) node)
      (soonest_both (Passing (is_below side bound) (stretch_of level node)) (Around (is_below side bound) levels (node / 2))
      (find (is_below side bound) (stretch_of level node)) (first_up side bound levels (node / 2))
      (soonest_in (is_below side bound) (stretch_of level node) (rises 0))
      (soonest_up levels (node / 2) (λ k. subst (λ v. RisesByNumber (stretch levels k v)) (sym (up_half k node)) (rises (suc k)))))
