-- What going on from a place adds.
use Rattle.std.proofs.Common.{◌≡◌, ℕ, ◌+◌, ◌<◌, ◌≤◌, Bool, true, false, List, [], ◌∷◌, ◌++◌, length, Option, Some, None, refl, sym, ap, ◌∙◌, subst, arith, zero, suc, ◌⊎◌, inl, inr, get_or, set, length-append}
use Rattle.std.specs.Prelude.{Contains, ◌||◌, nat_lt, if◌then◌else◌, nat_le}
use Rattle.std.proofs.lemmas.List.Elements.{Contains-append_left, Contains-append_right, Contains-append_cases}
use Rattle.std.proofs.lemmas.Bool.{false≢true}
use Rattle.std.proofs.lemmas.Bool.Decides.{nat_tests}
use Rattle.pt_ranges.specs.declared.handlers.Handler.{Handler}
use Rattle.pt_sizes.specs.declared.places.Place.{Place}
use Rattle.pt_sizes.specs.declared.places.SizeStep.{SizeStep}
use Rattle.pt_sizes.specs.Flow.{Body, entry, left, own_steps, step_to, step_again, is_under}
use Rattle.pt_sizes.specs.Waiting.{Level, Waits, AllDescend, levels_size, IsDeepest}
use Rattle.pt_sizes.specs.Search.{Open, RowsLanding, SearchLanding, Expansion, SearchExpansion, Stepped, AfterStep, weight, nones}
use Rattle.pt_sizes.proofs.Tables.{some_or_none, entry_in}
use Rattle.pt_sizes.proofs.Theory.{open_seen, open_above, open_below, meets}

or_first : (t : Bool) (a c : ℕ) → t ≡ true → (t || nat_lt a c) ≡ true
or_first true a c h = refl
or_first false a c h = absurd (false≢true h)

or_second : (t : Bool) (a c : ℕ) → a < c → (t || nat_lt a c) ≡ true
or_second true a c h = refl
or_second false a c h = grind (arith, nat_tests)

or_cases : (t : Bool) (a c : ℕ) → (t || nat_lt a c) ≡ true → (t ≡ true) ⊎ (a < c)
or_cases true a c h = inl refl
or_cases false a c h = inr (grind (arith, nat_tests))

pub or_same : (xs : List ℕ) (i d e : ℕ) → i < length xs → get_or xs i d ≡ get_or xs i e
or_same [] i d e h = absurd (omega arith)
or_same (x ∷ xs) zero d e h = refl
or_same (x ∷ xs) (suc i) d e h = or_same xs i d e (omega arith)

at_most_one : (t : Bool) (q n : ℕ) → length (step_again t q n) ≤ 1
at_most_one true q n = omega arith
at_most_one false q n = omega arith

at_most_to : (to below : ℕ) (o : Option ℕ) → length (step_to to below o) ≤ 1
at_most_to to below None = omega arith
at_most_to to below (Some given) = omega arith

few_steps : (place : Place) (q n : ℕ) → length (own_steps place q n) ≤ 3
few_steps place q n = by_test (nat_le place.needs n)
  where
    all : List SizeStep
    all = step_to place.next (left place n) place.onward ++ (step_to place.target (left place n) place.aside ++ step_again place.again q n)

    by_test : (t : Bool) → length (if t then (step_to place.next (left place n) place.onward ++ (step_to place.target (left place n) place.aside ++ step_again place.again q n)) else []) ≤ 3
    by_test true =
        let a = at_most_to place.next (left place n) place.onward in
        let c = at_most_to place.target (left place n) place.aside in
        let d = at_most_one place.again q n in
        let e : length (step_to place.next (left place n) place.onward ++ (step_to place.target (left place n) place.aside ++ step_again place.again q n))
        ≡ length (step_to place.next (left place n) place.onward) + length (step_to place.target (left place n) place.aside ++ step_again place.again q n)
        = length-append (step_to place.next (left place n) place.onward) (step_to place.target (left place n) place.aside ++ step_again place.again q n) in
        let f : length (step_to place.target (left place n) place.aside ++ step_again place.again q n)
        ≡ length (step_to place.target (left place n) place.aside) + length (step_again place.again q n)
        = length-append (step_to place.target (left place n) place.aside) (step_again place.again q n) in
        omega (arith, a, c, d, e, f)
    by_test false = omega arith

module _ (b : Body) (q n : ℕ) (place : Place) (T : List (Option ℕ)) (W before after : List SizeStep) (levels levels' : List Level) (d f : Bool) (deepest : ℕ)
    (own : before ≡ W ++ own_steps place q n) (all : SearchLanding levels levels' q (left place n) before after) (is : IsDeepest b.rows q deepest) where
  abbrev L : RowsLanding (Waits levels) (Waits levels') q (left place n) before after
  L = all.landed

  into : (s : SizeStep) → Contains (W ++ own_steps place q n) s → Contains after s
  into s c = L.kept s (subst (λ w. Contains w s) (sym own) c)

  from : (s : SizeStep) → Contains before s → Contains W s ⊎ Contains (own_steps place q n) s
  from s c = Contains-append_cases W (own_steps place q n) s (subst (λ w. Contains w s) own c)

  deepest_found : (row : Handler) → Contains b.rows row → is_under row q ≡ true → left place n < row.depth → (d || nat_lt (left place n) deepest) ≡ true
  deepest_found row c u lt = let h = is.most row c u in or_second d (left place n) deepest (omega (arith, h, lt))

  deepest_came : (left place n < deepest) → (row : Handler) × (Contains b.rows row × ((is_under row q ≡ true) × (left place n < row.depth)))
  deepest_came lt = let (row, (c, (u, e))) = is.one (omega (arith, lt)) in (row, (c, (u, (omega (arith, e, lt)))))

  went : Expansion b q n place W after (Waits levels) (Waits levels') d (d || nat_lt (left place n) deepest) f (f || nat_lt n place.needs)
  went = record {
    kept = λ s c. into s (Contains-append_left W (own_steps place q n) s c);
    came = λ s c. elim (L.came s c) [ inl a ↦ elim (from s a) [ inl x ↦ inl x | inr x ↦ inr (inl x) ] | inr x ↦ inr (inr x) ];
    own = λ s c. into s (Contains-append_right W (own_steps place q n) s c);
    fewer = L.fewer;
    on = L.on;
    clear = L.clear;
    deep_kept = or_first d (left place n) deepest;
    deep_came = λ h. elim (or_cases d (left place n) deepest h) [ inl a ↦ inl a | inr lt ↦ inr (deepest_came lt) ];
    deep_found = deepest_found;
    few_kept = or_first f n place.needs;
    few_came = or_cases f n place.needs;
    few_found = or_second f n place.needs;
  }

  pub went_on : SearchExpansion b q n place T T W after levels levels' d (d || nat_lt (left place n) deepest) f (f || nat_lt n place.needs)
  went_on = record {
    went = went;
    same = refl;
    sorted = all.sorted;
    lighter = (let e : length before ≡ length W + length (own_steps place q n) = ap (λ w. length w) own ∙ length-append W (own_steps place q n) in
        let h = all.lighter in let k = few_steps place q n in omega (arith, e, h, k));
  }

nones-set : (T : List (Option ℕ)) (q z : ℕ) → q < length T → entry T q ≡ None → nones T ≡ nones (set T q (Some z)) + 1
nones-set [] q z h e = absurd (omega arith)
nones-set (None ∷ T) zero z h e = refl
nones-set (Some x ∷ T) zero z h e = absurd (some_or_none x e)
nones-set (None ∷ T) (suc q) z h e = ap (λ n. n + 1) (nones-set T q z (omega arith) e)
nones-set (Some x ∷ T) (suc q) z h e = nones-set T q z (omega arith) e

module _ (b : Body) (limit : ℕ) (T : List (Option ℕ)) (W : List SizeStep) (levels : List Level) (d f : Bool) (s : SizeStep)
    (o : Open b limit T (W ++ s ∷ []) (Waits levels) d f) (sorted : AllDescend levels) where
  abbrev Most : ℕ
  Most = weight T W (levels_size levels)

  pub step_seen : (entry T s.to ≡ Some s.size) ⊎ (entry b.places s.to ≡ None) → Stepped b limit Most T W levels d f
  step_seen h = record { opens = open_seen b limit T W (Waits levels) d f s o h; sorted = sorted; lighter = omega arith }

  pub step_some : (place : Place) → entry b.places s.to ≡ Some place → (n : ℕ) (same : Bool) → entry T s.to ≡ Some n → (same ≡ true → n ≡ s.size) → (same ≡ false → n ≡ s.size → ⊥)
      → AfterStep same b limit Most T W levels d f
  step_some place is n true e agree differ = step_seen (inl (e ∙ ap (λ x. Some x) (agree refl)))
  step_some place is n false e agree differ = meets b limit T W (Waits levels) d f s o n place is e (differ refl)

  module _ (place : Place) (is : entry b.places s.to ≡ Some place) (none : entry T s.to ≡ None) where
    lt : s.to < length T
    lt = let h = entry_in b.places s.to place is in let l = o.long in omega (arith, h, l)

    pub step_above : limit ≤ s.to → Stepped b limit Most (set T s.to (Some s.size)) W levels d f
    step_above h = record {
      opens = open_above b limit T W (Waits levels) d f s o place is none h;
      sorted = sorted;
      lighter = (let e = nones-set T s.to s.size lt none in omega (arith, e));
    }

    pub step_below : s.to < limit → (T' : List (Option ℕ)) (W' : List SizeStep) (levels' : List Level) (d' f' : Bool)
        → SearchExpansion b s.to s.size place (set T s.to (Some s.size)) T' W W' levels levels' d d' f f' → Stepped b limit Most T' W' levels' d' f'
    step_below h T' W' levels' d' f' w = subst (λ t. Stepped b limit Most t W' levels' d' f') (sym w.same) (record {
      opens = open_below b limit T W (Waits levels) d f s o place is none h W' (Waits levels') d' f' w.went;
      sorted = w.sorted;
      lighter = (let e = nones-set T s.to s.size lt none in let g = w.lighter in omega (arith, e, g));
    })
