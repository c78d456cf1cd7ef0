-- Arguments and parameters, one by one.
use Rattle.std.proofs.Common.{◌≡◌, ◌∙◌, ◌+◌, ◌<◌, ◌≤◌, ℕ, zero, suc, Bool, true, false, cond, not, List, [], ◌∷◌, ◌++◌, length, take, drop, map, get_or, Option, None, Some, refl, ap, sym, arith, add-one, min, ◌-◌, length-drop}
use Rattle.std.specs.Prelude.{◌||◌, slice_get}
use Rattle.std.specs.Str.{bytes_eq}
use Rattle.std.proofs.Math.Seq.{drop-cons, take-length}
use Rattle.std.proofs.lemmas.List.Folds.{list_any-append}
use Rattle.pt_heap.specs.declared.value.Value.{Value}
use Rattle.pt_heap.specs.declared.view.Binding.{Binding}
use Rattle.pt_bind.specs.declared.arguments.Args.{Args}
use Rattle.pt_bind.specs.Binding.{value_of, by_name, plain_values, first_again, first_unfilled}
use Rattle.pt_bind.specs.NameSets.{is_among}

-- an item is the first of what is left
first-left : {X : Type 0} (xs : List X) (i : ℕ) (x : X) → i < length xs → x ≡ get_or xs i x → drop i xs ≡ x ∷ drop (i + 1) xs
first-left xs i x within is = drop-cons xs i x within ∙ (λ j. sym is j ∷ drop (sym (add-one i) j) xs)

pub value_of-next : (name : List ℕ) (bs : List Binding) (i : ℕ) (b : Binding) → i < length bs → b ≡ get_or bs i b → bytes_eq b.name name ≡ false
    → value_of name (drop i bs) ≡ value_of name (drop (i + 1) bs)
value_of-next name bs i b within is off = ap (value_of name) (first-left bs i b within is) ∙ ap (λ t. cond t (Some b.value) (value_of name (drop (i + 1) bs))) off

pub first_again-found : (now : List (List ℕ)) (bs : List Binding) (i : ℕ) (b : Binding) → i < length bs → b ≡ get_or bs i b → is_among now b.name ≡ true
    → first_again now (drop i bs) ≡ Some b.name
first_again-found now bs i b within is on =
    ap (first_again now) (first-left bs i b within is) ∙ ap (λ t. cond t (Some b.name) (first_again (b.name ∷ now) (drop (i + 1) bs))) on

pub first_again-next : (now : List (List ℕ)) (bs : List Binding) (i : ℕ) (b : Binding) → i < length bs → b ≡ get_or bs i b → is_among now b.name ≡ false
    → first_again now (drop i bs) ≡ first_again (b.name ∷ now) (drop (i + 1) bs)
first_again-next now bs i b within is off =
    ap (first_again now) (first-left bs i b within is) ∙ ap (λ t. cond t (Some b.name) (first_again (b.name ∷ now) (drop (i + 1) bs))) off

plain_values-none : (defaults : List Binding) (args : Args) (names : List (List ℕ)) → plain_values defaults args names [] ≡ map (by_name defaults args) names
plain_values-none defaults args [] = refl
plain_values-none defaults args (name ∷ names) = ap (λ l. by_name defaults args name ∷ l) (plain_values-none defaults args names)

-- those that a place fills, and then those that a name or a default fills
pub plain_values-parts : (defaults : List Binding) (args : Args) (names : List (List ℕ)) (vs : List Value)
    → plain_values defaults args names vs ≡ map Some (take (length names) vs) ++ map (by_name defaults args) (drop (length vs) names)
plain_values-parts defaults args [] [] = refl
plain_values-parts defaults args [] (v ∷ vs) = refl
plain_values-parts defaults args (name ∷ names) (v ∷ vs) = ap (λ l. Some v ∷ l) (plain_values-parts defaults args names vs)
plain_values-parts defaults args (name ∷ names) [] = plain_values-none defaults args (name ∷ names)

drop-none : {X : Type 0} (n : ℕ) → drop {A = X} n [] ≡ []
drop-none zero = refl
drop-none (suc n) = refl

-- what stands behind as many as there are, or all
pub drop-least : {X : Type 0} (xs : List X) (n : ℕ) → drop (min (length xs) n) xs ≡ drop n xs
drop-least [] n = drop-none (min 0 n) ∙ sym (drop-none n)
drop-least (x ∷ xs) zero = let none : min (length (x ∷ xs)) 0 ≡ 0 = omega arith in ap (λ m. drop m (x ∷ xs)) none
drop-least (x ∷ xs) (suc n) = let both : min (length (x ∷ xs)) (suc n) ≡ suc (min (length xs) n) = omega arith in ap (λ m. drop m (x ∷ xs)) both ∙ drop-least xs n

-- a slice up to the end is all that stands behind its start
pub slice-rest : {X : Type 0} (xs : List X) (n : ℕ) → take (length xs - n) (drop n xs) ≡ drop n xs
slice-rest xs n = ap (λ m. take m (drop n xs)) (sym (length-drop n xs)) ∙ take-length (drop n xs)

pub first_unfilled-here : (names : List (List ℕ)) (vs : List (Option Value)) (i : ℕ) (d : Option Value) → i < length vs → get_or vs i d ≡ None
    → first_unfilled (drop i names) (drop i vs) ≡ slice_get names i
first_unfilled-here names [] i d h n = absurd (omega arith)
first_unfilled-here [] (v ∷ vs) zero d h n = refl
first_unfilled-here [] (v ∷ vs) (suc i) d h n = refl
first_unfilled-here (name ∷ names) (None ∷ vs) zero d h n = refl
first_unfilled-here (name ∷ names) (Some v ∷ vs) zero d h n = cc
first_unfilled-here (name ∷ names) (v ∷ vs) (suc i) d h n = first_unfilled-here names vs i d (omega arith) n

next-suc : (names : List (List ℕ)) (vs : List (Option Value)) (i : ℕ) (d : Option Value) (x : Value) → i < length vs → get_or vs i d ≡ Some x
    → first_unfilled (drop i names) (drop i vs) ≡ first_unfilled (drop (suc i) names) (drop (suc i) vs)
next-suc names [] i d x h n = absurd (omega arith)
next-suc [] (v ∷ vs) zero d x h n = refl
next-suc [] (v ∷ vs) (suc i) d x h n = refl
next-suc (name ∷ names) (None ∷ vs) zero d x h n = cc
next-suc (name ∷ names) (Some v ∷ vs) zero d x h n = refl
next-suc (name ∷ names) (v ∷ vs) (suc i) d x h n = next-suc names vs i d x (omega arith) n

pub first_unfilled-next : (names : List (List ℕ)) (vs : List (Option Value)) (i : ℕ) (d : Option Value) (x : Value) → i < length vs → get_or vs i d ≡ Some x
    → first_unfilled (drop i names) (drop i vs) ≡ first_unfilled (drop (i + 1) names) (drop (i + 1) vs)
first_unfilled-next names vs i d x h n = next-suc names vs i d x h n ∙ (λ j. first_unfilled (drop (sym (add-one i) j) names) (drop (sym (add-one i) j) vs))

drop-past : {X : Type 0} (xs : List X) (i : ℕ) → length xs ≤ i → drop i xs ≡ []
drop-past [] i h = drop-none i
drop-past (x ∷ xs) zero h = absurd (omega arith)
drop-past (x ∷ xs) (suc i) h = drop-past xs i (omega arith)

all-filled : (names : List (List ℕ)) → first_unfilled names [] ≡ None
all-filled [] = refl
all-filled (name ∷ names) = refl

pub first_unfilled-end : (names : List (List ℕ)) (vs : List (Option Value)) (i : ℕ) → length vs ≤ i → first_unfilled (drop i names) (drop i vs) ≡ None
first_unfilled-end names vs i h = ap (first_unfilled (drop i names)) (drop-past vs i h) ∙ all-filled (drop i names)

or-swap : (a b : Bool) → (a || (b || false)) ≡ (b || a)
or-swap true true = refl
or-swap true false = refl
or-swap false true = refl
or-swap false false = refl

-- names of both sorts of parameters
pub is_among-both : (plain only : List (List ℕ)) (x : List ℕ) → (is_among only x || (is_among plain x || false)) ≡ is_among (plain ++ only) x
is_among-both plain only x = or-swap (is_among only x) (is_among plain x) ∙ sym (list_any-append (bytes_eq x) plain only)

pub or-cond : (a b : Bool) → cond a true b ≡ (a || b)
or-cond true b = refl
or-cond false b = refl

pub not-off : (b t : Bool) → t ≡ not b → t ≡ false → b ≡ true
not-off true t e f = refl
not-off false t e f = cc

pub not-on : (b t : Bool) → t ≡ not b → t ≡ true → b ≡ false
not-on true t e f = cc
not-on false t e f = refl
