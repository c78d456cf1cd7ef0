-- Lines and names that are given, each once: none comes twice.
use Rattle.std.proofs.Common.{◌≡◌, ◌<◌, ◌≤◌, ◌∙◌, ℕ, Bool, true, false, cond, List, [], ◌∷◌, ◌++◌, map, fold, refl, sym, ap, subst, inl, inr, arith, Less, Equal, Greater}
use Rattle.std.specs.Prelude.{◌==◌, ◌||◌, nat_lt}
use Rattle.std.specs.List.{list_any, AllByRecursion, IsDistinct}
use Rattle.std.specs.Str.{bytes_eq}
use Rattle.std.specs.BTreeSet.{insert_key}
use Rattle.std.specs.Ordering.{nat_cmp, match_ordering}
use Rattle.std.proofs.lemmas.Bool.{cases_Bool, ltb-true, ltb-false, eqb-true, eqb-false, ne_eqb, false≢true}
use Rattle.std.proofs.lemmas.Slice.Eq.{bytes_eq-Decides}
use Rattle.pt_base.specs.declared.numbers.Line.{Line}
use Rattle.pt_cover.specs.Pieces.{Text}
use Rattle.pt_cover.specs.Given.{rising, with_name, first_given}
use Rattle.pt_cover.specs.declared.counts.Counts.TheVariants.{Lines, Names}
use Rattle.pt_cover.specs.declared.rows.LineCount.{LineCount}
use Rattle.pt_cover.specs.declared.rows.NameCount.{NameCount}
use Rattle.pt_cover.specs.Tallies.{NameTally, line_row, lines_of, name_row, names_of}
use Rattle.pt_cover.specs.Kept.{HasDifferentRows}
use Rattle.pt_cover.proofs.LineLemmas.{lines_of-line_rows}
use Rattle.pt_cover.proofs.NameLemmas.{names_of-name_tally}

all-snoc : {X : Type 0} (P : X → Type 0) (xs : List X) (x : X) → AllByRecursion P xs → P x → AllByRecursion P (xs ++ x ∷ [])
all-snoc P [] x all p = (p, tt)
all-snoc P (y ∷ ys) x all p = (all.0, all-snoc P ys x all.1 p)

-- names
flipped : (x y : Text) → bytes_eq y x ≡ false → bytes_eq x y ≡ false
flipped x y e = elim (cases_Bool (bytes_eq x y)) [
  | inl t ↦ absurd (false≢true (sym e ∙ (bytes_eq-Decides y x).1 (sym ((bytes_eq-Decides x y).0 t))))
  | inr f ↦ f
]

new-name : (xs : List Text) (n : Text) → list_any (bytes_eq n) xs ≡ false → IsDistinct bytes_eq xs → IsDistinct bytes_eq (xs ++ n ∷ [])
unfolding IsDistinct
new-name [] n new d = (tt, tt)
new-name (x ∷ xs) n new d = go (bytes_eq n x) refl new (λ later. new-name xs n later d.1)
  where
    go : (b : Bool) → bytes_eq n x ≡ b → (b || list_any (bytes_eq n) xs) ≡ false
        → (list_any (bytes_eq n) xs ≡ false → IsDistinct bytes_eq (xs ++ n ∷ [])) → IsDistinct bytes_eq (x ∷ (xs ++ n ∷ []))
    go true e some more = absurd (false≢true (sym some))
    go false e later more = (all-snoc (λ y. bytes_eq x y ≡ false) xs n d.0 (flipped x n e), more later)

with_name-differ : (xs : List Text) (n : Text) → IsDistinct bytes_eq xs → IsDistinct bytes_eq (with_name xs n)
unfolding IsDistinct
with_name-differ xs n d = elim (cases_Bool (list_any (bytes_eq n) xs)) [
  | inl e ↦ subst (λ b. IsDistinct bytes_eq (cond b xs (xs ++ n ∷ []))) (sym e) d
  | inr e ↦ subst (λ b. IsDistinct bytes_eq (cond b xs (xs ++ n ∷ []))) (sym e) (new-name xs n e d)
]

names-differ : (xs ns : List Text) → IsDistinct bytes_eq xs → IsDistinct bytes_eq (fold with_name xs ns)
unfolding IsDistinct
names-differ xs [] d = d
names-differ xs (n ∷ ns) d = names-differ (with_name xs n) ns (with_name-differ xs n d)

pub first_given-differ : (names : List Text) → IsDistinct bytes_eq (first_given names)
unfolding IsDistinct
first_given-differ names = names-differ [] names tt

-- lines
abbrev Rise : List ℕ → Type 0
Rise [] = Unit {0}
Rise (x ∷ xs) = AllByRecursion (λ y. x < y) xs × Rise xs

all-above : (a b : ℕ) (xs : List ℕ) → a < b → AllByRecursion (λ y. b < y) xs → AllByRecursion (λ y. a < y) xs
all-above a b [] less all = tt
all-above a b (x ∷ xs) less all = (omega (arith, less, all.0), all-above a b xs less all.1)

insert-all : (a : ℕ) (xs : List ℕ) (k : ℕ) → a < k → AllByRecursion (λ y. a < y) xs → AllByRecursion (λ y. a < y) (insert_key nat_cmp xs k)
insert-all a [] k less all = (less, tt)
insert-all a (x ∷ xs) k less all = go (nat_lt k x) (k == x) (insert-all a xs k less all.1)
  where
    go : (b c : Bool) → AllByRecursion (λ y. a < y) (insert_key nat_cmp xs k)
        → AllByRecursion (λ y. a < y) (match_ordering (cond b Less (cond c Equal Greater)) (k ∷ x ∷ xs) (x ∷ xs) (x ∷ insert_key nat_cmp xs k))
    go true c more = (less, all)
    go false true more = all
    go false false more = (all.0, more)

insert-rise : (xs : List ℕ) (k : ℕ) → Rise xs → Rise (insert_key nat_cmp xs k)
insert-rise [] k r = (tt, tt)
insert-rise (x ∷ xs) k r = go (nat_lt k x) (k == x) refl refl (insert-rise xs k r.1)
  where
    go : (b c : Bool) → nat_lt k x ≡ b → (k == x) ≡ c → Rise (insert_key nat_cmp xs k)
        → Rise (match_ordering (cond b Less (cond c Equal Greater)) (k ∷ x ∷ xs) (x ∷ xs) (x ∷ insert_key nat_cmp xs k))
    go true c e f more = let less : k < x = ltb-true k x e in ((less, all-above k x xs less r.0), r)
    go false true e f more = r
    go false false e f more = let above : x ≤ k = ltb-false k x e in let other : k ≡ x → ⊥ = eqb-false k x f in
        (insert-all x xs k (omega (arith, above, other)) r.0, more)

rise-fold : (xs ns : List ℕ) → Rise xs → Rise (fold (insert_key nat_cmp) xs ns)
rise-fold xs [] r = r
rise-fold xs (n ∷ ns) r = rise-fold (insert_key nat_cmp xs n) ns (insert-rise xs n r)

apart : (x : ℕ) (xs : List ℕ) → AllByRecursion (λ y. x < y) xs → AllByRecursion (λ y. (x == y) ≡ false) xs
apart x [] all = tt
apart x (y ∷ ys) all = (ne_eqb x y (λ e. omega (arith, all.0, e)), apart x ys all.1)

rise-differ : (xs : List ℕ) → Rise xs → IsDistinct (λ a b. a == b) xs
unfolding IsDistinct
rise-differ [] r = tt
rise-differ (x ∷ xs) r = (apart x xs r.0, rise-differ xs r.1)

pub rising-differ : (lines : List Line) → IsDistinct (λ a b. a == b) (rising lines)
unfolding IsDistinct
rising-differ lines = rise-differ (rising lines) (rise-fold [] (map (λ l. l.0) lines) tt)

-- so their rows are different ones
pub lines-apart : (lines : List Line) (rows : List LineCount) → rows ≡ map (line_row []) (rising lines) → HasDifferentRows (Lines rows)
lines-apart lines rows is =
    subst (λ ls. IsDistinct (λ a b. a == b) ls) (sym (ap lines_of is ∙ lines_of-line_rows (rising lines) [])) (rising-differ lines)

pub names-apart : (names : List Text) (rows : List NameCount) (t : NameTally) → rows ≡ map (name_row []) (first_given names)
    → t ≡ record { rows = rows; calls = record { spans = []; deeper = 0 }; total = 0 } → HasDifferentRows (Names t)
names-apart names rows t is made =
    subst (λ ns. IsDistinct bytes_eq ns) (sym (ap (λ u. names_of u.rows) made ∙ ap names_of is ∙ names_of-name_tally (first_given names) []))
    (first_given-differ names)
