-- The first place of a statement on a line is the least.
use Rattle.std.proofs.Common.{◌≡◌, ◌⊎◌, inl, inr, ℕ, zero, suc, min, ◌<◌, ◌≤◌, Bool, true, false, if◌then◌else◌, List, [], ◌∷◌, Option, Some, None, refl, sym, ap, ◌∙◌, subst, arith}
use Rattle.std.specs.Prelude.{Contains}
use Rattle.std.proofs.lemmas.Bool.{cases_order}
use Rattle.std.proofs.lemmas.Option.{same_Some}
use Rattle.pt_code.specs.declared.Start.{Start}
use Rattle.pt_jump.specs.Slots.{SlotsTold}
use Rattle.pt_jump.specs.Targets.{first_on, nearer, starts_on}

module _ (t : SlotsTold) (line : ℕ) where
  -- a start on the line at this place
  pub record Among (ss : List Start) (pc : ℕ) : Type 0 where
    pub start : Start
    pub listed : Contains ss start
    pub on : starts_on t line start ≡ true
    pub at : start.pc.0 ≡ pc

  none_among : (q : ℕ) → Among [] q → ⊥
  none_among q a = let (k, l, e) = a.listed in omega (arith, l)

  later : (s : Start) (ss : List Start) (q : ℕ) → Among ss q → Among (s ∷ ss) q
  later s ss q a = record {
    start = a.start;
    listed = let (k, l, e) = a.listed in (suc k, (omega (arith, l)), e);
    on = a.on;
    at = a.at;
  }

  here : (s : Start) (ss : List Start) (q : ℕ) → starts_on t line s ≡ true → s.pc.0 ≡ q → Among (s ∷ ss) q
  here s ss q on at = record { start = s; listed = (zero, (omega arith), refl); on = on; at = at }

  -- of what was known, or a start
  pub is_one : (first : Option ℕ) (ss : List Start) (pc : ℕ) → first_on t line first ss ≡ Some pc
      → (first ≡ Some pc) ⊎ Among ss pc
  is_one first [] pc e = inl e
  is_one first (s ∷ ss) pc e = by_test (λ o f. is_one o ss pc f) (starts_on t line s) refl e
    where
      by_least : (q : ℕ) → starts_on t line s ≡ true → min q s.pc.0 ≡ pc
          → (q ≡ s.pc.0) ⊎ ((q < s.pc.0) ⊎ (s.pc.0 < q)) → (Some q ≡ Some pc) ⊎ Among (s ∷ ss) pc
      by_least q on e (inl f) = inl (ap (λ n. Some n) (let g : q ≡ pc = omega (arith, e, f) in g))
      by_least q on e (inr (inl f)) = inl (ap (λ n. Some n) (let g : q ≡ pc = omega (arith, e, f) in g))
      by_least q on e (inr (inr f)) = inr (here s ss pc on (omega (arith, e, f)))

      by_nearer : (o : Option ℕ) → starts_on t line s ≡ true → (nearer o s.pc.0 ≡ Some pc) ⊎ Among ss pc
          → (o ≡ Some pc) ⊎ Among (s ∷ ss) pc
      by_nearer None on (inl f) = inr (here s ss pc on (same_Some _ _ f))
      by_nearer (Some q) on (inl f) = by_least q on (same_Some _ _ f) (cases_order q s.pc.0)
      by_nearer o on (inr a) = inr (later s ss pc a)

      by_test : ((o : Option ℕ) → first_on t line o ss ≡ Some pc → (o ≡ Some pc) ⊎ Among ss pc) → (b : Bool)
          → starts_on t line s ≡ b → first_on t line (if b then nearer first s.pc.0 else first) ss ≡ Some pc
          → (first ≡ Some pc) ⊎ Among (s ∷ ss) pc
      by_test ih true on f = by_nearer first on (ih (nearer first s.pc.0) f)
      by_test ih false on f = elim (ih first f) [ inl g ↦ inl g | inr a ↦ inr (later s ss pc a) ]

  -- none is less
  pub is_low : (first : Option ℕ) (ss : List Start) (pc : ℕ) → first_on t line first ss ≡ Some pc → (q : ℕ)
      → (first ≡ Some q) ⊎ Among ss q → pc ≤ q
  is_low first [] pc e q (inl f) = let g = same_Some _ _ (sym f ∙ e) in omega (arith, g)
  is_low first [] pc e q (inr a) = absurd (none_among q a)
  is_low first (s ∷ ss) pc e q known = by_test (λ o f r k. is_low o ss pc f r k) (starts_on t line s) refl e known
    where
      Low : Type 0
      Low = (o : Option ℕ) → first_on t line o ss ≡ Some pc → (r : ℕ) → (o ≡ Some r) ⊎ Among ss r → pc ≤ r

      split : Among (s ∷ ss) q → ((starts_on t line s ≡ true) × (s.pc.0 ≡ q)) ⊎ Among ss q
      split a = by_place a.start a.listed a.on a.at
        where
          by_place : (x : Start) → Contains (s ∷ ss) x → starts_on t line x ≡ true → x.pc.0 ≡ q
              → ((starts_on t line s ≡ true) × (s.pc.0 ≡ q)) ⊎ Among ss q
          by_place x (zero, l, e) on at =
              inl (subst (λ y. starts_on t line y ≡ true) (sym e) on, ap (λ (y : Start). y.pc.0) e ∙ at)
          by_place x (suc k, l, e) on at = inr (record { start = x; listed = (k, (omega (arith, l)), e); on = on; at = at })

      of_first : (o : Option ℕ) → Low → first_on t line (nearer o s.pc.0) ss ≡ Some pc → o ≡ Some q → pc ≤ q
      of_first None ih f g = absurd (let no : None ≡ Some q = g in cc)
      of_first (Some r) ih f g = let h = ih (Some (min r s.pc.0)) f (min r s.pc.0) (inl refl) in let i = same_Some _ _ g in omega (arith, h, i)

      of_start : (o : Option ℕ) → Low → first_on t line (nearer o s.pc.0) ss ≡ Some pc → s.pc.0 ≡ q → pc ≤ q
      of_start None ih f g = let h = ih (Some s.pc.0) f s.pc.0 (inl refl) in omega (arith, h, g)
      of_start (Some r) ih f g = let h = ih (Some (min r s.pc.0)) f (min r s.pc.0) (inl refl) in omega (arith, h, g)

      by_test : Low → (b : Bool) → starts_on t line s ≡ b
          → first_on t line (if b then nearer first s.pc.0 else first) ss ≡ Some pc → (first ≡ Some q) ⊎ Among (s ∷ ss) q → pc ≤ q
      by_test ih true on f (inl g) = of_first first ih f g
      by_test ih true on f (inr a) = elim (split a) [
        | inl x ↦ of_start first ih f x.1
        | inr x ↦ ih (nearer first s.pc.0) f q (inr x)
      ]
      by_test ih false on f (inl g) = ih first f q (inl g)
      by_test ih false on f (inr a) = elim (split a) [
        | inl x ↦ absurd (let no : false ≡ true = sym on ∙ x.0 in cc)
        | inr x ↦ ih first f q (inr x)
      ]

  some_on : (o : Option ℕ) (ss : List Start) → first_on t line o ss ≡ None → o ≡ None
  some_on o [] e = e
  some_on o (s ∷ ss) e = by_test (λ p f. some_on p ss f) (starts_on t line s) e
    where
      not_none : (p : Option ℕ) → nearer p s.pc.0 ≡ None → o ≡ None
      not_none None f = absurd (let no : Some s.pc.0 ≡ None = f in cc)
      not_none (Some q) f = absurd (let no : Some (min q s.pc.0) ≡ None = f in cc)

      by_test : ((p : Option ℕ) → first_on t line p ss ≡ None → p ≡ None) → (b : Bool)
          → first_on t line (if b then nearer o s.pc.0 else o) ss ≡ None → o ≡ None
      by_test ih true f = not_none o (ih (nearer o s.pc.0) f)
      by_test ih false f = ih o f

  -- where none is told none is there
  pub none_on : (o : Option ℕ) (ss : List Start) → first_on t line o ss ≡ None → (s : Start) → Contains ss s
      → starts_on t line s ≡ true → ⊥
  none_on o [] e s (k, l, is) on = omega (arith, l)
  none_on o (x ∷ ss) e s (zero, l, is) on = by_test (starts_on t line x) refl e
    where
      by_test : (b : Bool) → starts_on t line x ≡ b → first_on t line (if b then nearer o x.pc.0 else o) ss ≡ None → ⊥
      by_test true h f = is_some_nearer o (some_on (nearer o x.pc.0) ss f)
        where
          is_some_nearer : (p : Option ℕ) → nearer p x.pc.0 ≡ None → ⊥
          is_some_nearer None g = let no : Some x.pc.0 ≡ None = g in cc
          is_some_nearer (Some q) g = let no : Some (min q x.pc.0) ≡ None = g in cc
      by_test false h f = let no : false ≡ true = sym h ∙ subst (λ y. starts_on t line y ≡ true) (sym is) on in cc
  none_on o (x ∷ ss) e s (suc k, l, is) on =
      none_on (if starts_on t line x then nearer o x.pc.0 else o) ss e s (k, (omega (arith, l)), is) on
