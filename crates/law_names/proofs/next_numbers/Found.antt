-- A comprehension is found by the number of its Next.
use Rattle.std.proofs.Common.{◌≡◌, ℕ, zero, suc, ◌+◌, Bool, true, false, if◌then◌else◌, ◌&&◌, ◌==◌, List, [], ◌∷◌, length, Option, Some, None, refl, ap, ◌∙◌, subst, eq-eqb, eqb-true, arith}
use Rattle.std.specs.Prelude.{slice_get}
use Rattle.pt_scopes.specs.declared.region.Region.{Region}
use Rattle.pt_scopes.specs.Mentions.{places_script, places_stms}
use Rattle.pt_scopes.specs.Places.{module_context}
use Rattle.pt_tree.specs.Syntax.{Stms}
use Rattle.pt_tree.specs.Sizes.{stms_size}
use Rattle.sem_names.specs.Nexts.{nexts_script, nexts_stms}
use Rattle.sem_names.specs.Regions.{is_number, numbered, numbered_behind}
use Rattle.law_names.proofs.next_numbers.Claims.{Apart, Distinct, Every, In, every_as, homes}
use Rattle.law_names.proofs.next_numbers.Statements.{in_stms}

number_is : (o : Option ℕ) (n : ℕ) → is_number o n ≡ true → o ≡ Some n
number_is None n is = absurd (let no : false ≡ true = is in cc)
number_is (Some m) n is = ap (λ k. Some k) (eqb-true m n is)

both_true : (b c : Bool) → (b && c) ≡ true → (b ≡ true) × (c ≡ true)
both_true true c is = (refl, is)
both_true false c is = absurd (let no : false ≡ true = is in cc)

no_region : {X : Type 0} (here : Region) → None ≡ Some here → X
no_region here is = absurd cc

no_number : {X : Type 0} (m : Option ℕ) → None ≡ Some m → X
no_number m is = absurd cc

-- a region behind one that is apart from it has another block or number
not_first : (b : Bool) (k j : ℕ) (o : Option ℕ) → (b ≡ true → ⊥) → o ≡ Some j → (if b then Some k else o) ≡ Some j
not_first true k j o never is = absurd (never refl)
not_first false k j o never is = is

apart_from : (x : ℕ × Option ℕ) (rs : List Region) (ms : List (Option ℕ)) → Every (Apart x) (homes rs ms)
    → (r : ℕ) (here : Region) (m : Option ℕ) → slice_get rs r ≡ Some here → slice_get ms r ≡ Some m → Apart x (here.home, m)
apart_from x [] ms h r here m at as_well = no_region here at
apart_from x (q ∷ rs) [] h r here m at as_well = no_number m as_well
apart_from x (q ∷ rs) (o ∷ ms) h zero here m at as_well =
    let a : q ≡ here = (let there : Some q ≡ Some here = at in cc) in
    let b : o ≡ m = (let there : Some o ≡ Some m = as_well in cc) in
    subst (λ n. Apart x (here.home, n)) b (subst (λ (p : Region). Apart x (p.home, o)) a h.0)
apart_from x (q ∷ rs) (o ∷ ms) h (suc r) here m at as_well = apart_from x rs ms h.1 r here m at as_well

found_behind : (k : ℕ) (rs : List Region) (ms : List (Option ℕ)) → Distinct (homes rs ms) → (r n : ℕ) (here : Region)
    → slice_get rs r ≡ Some here → slice_get ms r ≡ Some (Some n) → numbered_behind k rs ms here.home n ≡ Some (k + r)
found_behind k [] ms d r n here at as_well = no_region here at
found_behind k (q ∷ rs) [] d r n here at as_well = no_number (Some n) as_well
found_behind k (q ∷ rs) (o ∷ ms) d zero n here at as_well =
    let a : q ≡ here = (let there : Some q ≡ Some here = at in cc) in
    let b : o ≡ Some n = (let there : Some o ≡ Some (Some n) = as_well in cc) in
    let home : (q.home == here.home) ≡ true = ap (λ (p : Region). p.home == here.home) a ∙ eq-eqb here.home here.home refl in
    let number : is_number o n ≡ true = ap (λ p. is_number p n) b ∙ eq-eqb n n refl in
    let hit : ((q.home == here.home) && is_number o n) ≡ true = ap (λ c. c && is_number o n) home ∙ number in
    let place : Some k ≡ Some (k + 0) = ap (λ j. Some j) (omega arith) in
    ap (λ c. if c then Some k else numbered_behind (suc k) rs ms here.home n) hit ∙ place
found_behind k (q ∷ rs) (o ∷ ms) d (suc r) n here at as_well =
    let further = found_behind (suc k) rs ms d.1 r n here at as_well in
    let same : suc k + r ≡ k + suc r = omega arith in
    let apart = apart_from (q.home, o) rs ms d.0 r here (Some n) at as_well in
    not_first ((q.home == here.home) && is_number o n) k (k + suc r) (numbered_behind (suc k) rs ms here.home n)
    (λ is. let parts = both_true (q.home == here.home) (is_number o n) is in
    apart n (eqb-true q.home here.home parts.0) (number_is o n parts.1) refl)
    (further ∙ ap (λ j. Some j) same)

module_apart : (x : ℕ × Option ℕ) → Apart (0, None) x
module_apart x n same is as_well = absurd (let no : None ≡ Some n = is in cc)

pub all_distinct : (ss : Stms) → Distinct (homes (places_script ss).regions (nexts_script ss))
all_distinct ss =
    let p = places_stms module_context [] ss 1 in
    let s = (in_stms ss 0 module_context []).sound 1 (omega arith) in
    (every_as (In true 0 0 (0 + stms_size ss) 1 (1 + length p.regions)) (Apart (0, None)) (λ x h. module_apart x) (homes p.regions (nexts_stms ss 0)) s.all, s.distinct)

pub found : (ss : Stms) (r n : ℕ) (here : Region) → slice_get (places_script ss).regions r ≡ Some here
    → slice_get (nexts_script ss) r ≡ Some (Some n) → numbered (places_script ss).regions (nexts_script ss) here.home n ≡ Some r
found ss r n here at as_well = found_behind 0 (places_script ss).regions (nexts_script ss) (all_distinct ss) r n here at as_well ∙ ap (λ j. Some j) (omega arith)
