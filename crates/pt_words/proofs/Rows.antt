-- What the rows of a walk say of an argument after a use of it or of another one.
use Rattle.std.proofs.Common.{◌≡◌, ◌∙◌, ◌++◌, ◌||◌, ℕ, Bool, true, false, cond, List, [], ◌∷◌, Option, Some, None, refl, sym, ap, subst, unwrap_or, option_map}
use Rattle.std.specs.Prelude.{find}
use Rattle.std.specs.Option.{option_map_or}
use Rattle.std.specs.Str.{bytes_eq}
use Rattle.std.proofs.lemmas.Slice.Eq.{bytes_eq-Decides}
use Rattle.clap.specs.Walk.{Row, Text, all_of, at_row, count_of, first_as_count, has_row, stronger, with_count, with_values, without}
use Rattle.clap.specs.Matches.{count_text}
use Rattle.clap.specs.declared.builder.value_parser.Reading.{Reading}
use Rattle.clap.specs.declared.parser.matches.ValueSource.{ValueSource}
use Rattle.pt_words.specs.Form.{listed}

abbrev has : Text → Row → Bool
has id r = bytes_eq r.id id

same_text : (x : Text) → bytes_eq x x ≡ true
same_text x = (bytes_eq-Decides x x).1 refl

-- a row has one id
apart : (id other : Text) → bytes_eq id other ≡ false → (x : Text) → bytes_eq x id ≡ true → bytes_eq x other ≡ false
apart id other e x is = subst (λ y. bytes_eq y other ≡ false) (sym ((bytes_eq-Decides x id).0 is)) e

module _ (id : Text) (change : Row → Row) (new : Row) (keeps : (r : Row) → (change r).id ≡ r.id) (is_new : new.id ≡ id) where
  abbrev changed : List Row → List Row
  changed = at_row id (λ r. change r ∷ []) (new ∷ [])

  found_here : (b : Bool) (r : Row) (rs : List Row) → has id r ≡ b → find (has id) (changed rs) ≡ Some (option_map_or change (find (has id) rs) new)
      → find (has id) (cond b ((change r ∷ []) ++ rs) (r ∷ changed rs)) ≡ Some (option_map_or change (cond b (Some r) (find (has id) rs)) new)
  found_here true r rs e h = let there : has id (change r) ≡ true = ap (λ x. bytes_eq x id) (keeps r) ∙ e in rw there refl
  found_here false r rs e h = rw e h

  pub found : (rows : List Row) → find (has id) (changed rows) ≡ Some (option_map_or change (find (has id) rows) new)
  found [] = let there : has id new ≡ true = ap (λ x. bytes_eq x id) is_new ∙ same_text id in rw there refl
  found (r ∷ rs) = found_here (has id r) r rs refl (found rs)

  module _ (other : Text) (differ : bytes_eq id other ≡ false) where
    passed_here : (b : Bool) (r : Row) (rs : List Row) → has id r ≡ b → find (has other) (changed rs) ≡ find (has other) rs
        → find (has other) (cond b ((change r ∷ []) ++ rs) (r ∷ changed rs)) ≡ find (has other) (r ∷ rs)
    passed_here true r rs e h =
        let one : has other r ≡ false = apart id other differ r.id e in
        let two : has other (change r) ≡ false = ap (λ x. bytes_eq x other) (keeps r) ∙ one in
        rw (two, one) refl
    passed_here false r rs e h = ap (cond (has other r) (Some r)) h

    pub passed : (rows : List Row) → find (has other) (changed rows) ≡ find (has other) rows
    passed [] = let one : has other new ≡ false = ap (λ x. bytes_eq x other) is_new ∙ differ in rw one refl
    passed (r ∷ rs) = passed_here (has id r) r rs refl (passed rs)

module _ (id other : Text) (differ : bytes_eq id other ≡ false) where
  without_here : (b : Bool) (r : Row) (rs : List Row) → has id r ≡ b → find (has other) (without id rs) ≡ find (has other) rs
      → find (has other) (cond b ([] ++ rs) (r ∷ without id rs)) ≡ find (has other) (r ∷ rs)
  without_here true r rs e h = let one : has other r ≡ false = apart id other differ r.id e in rw one refl
  without_here false r rs e h = ap (cond (has other r) (Some r)) h

  pub without_other : (rows : List Row) → find (has other) (without id rows) ≡ find (has other) rows
  without_other [] = refl
  without_other (r ∷ rs) = without_here (has id r) r rs refl (without_other rs)

-- values that are put behind others
module _ (id : Text) (how : Reading) (src : ValueSource) (vs : List Text) where
  abbrev more : Row → Row
  more r = record r { values = r.values ++ vs; source = Some (stronger r.source src) }

  abbrev first_use : Row
  first_use = record { id = id; values = vs; count = None; source = Some src; reading = how }

  put_behind : (o : Option Row) (xs : List Text) → option_map (λ (r : Row). r.values) o ≡ listed xs
      → Some (option_map_or more o first_use).values ≡ Some (xs ++ vs)
  put_behind None [] e = refl
  put_behind None (x ∷ xs) e = absurd cc
  put_behind (Some r) [] e = absurd cc
  put_behind (Some r) (x ∷ xs) e = let same : r.values ≡ x ∷ xs = cc in ap (λ q. Some (q ++ vs)) same

  pub values_added : (rows : List Row) (xs : List Text) → all_of id rows ≡ listed xs → all_of id (with_values id how src vs rows) ≡ Some (xs ++ vs)
  values_added rows xs e = ap (option_map (λ (r : Row). r.values)) (found id more first_use (λ r. refl) refl rows) ∙ put_behind (find (has id) rows) xs e

  module _ (other : Text) (differ : bytes_eq id other ≡ false) where
    pub values_apart : (rows : List Row) → all_of other (with_values id how src vs rows) ≡ all_of other rows
    values_apart rows = ap (option_map (λ (r : Row). r.values)) (passed id more first_use (λ r. refl) refl other differ rows)

    pub values_uncounted : (rows : List Row) → count_of other (with_values id how src vs rows) ≡ count_of other rows
    values_uncounted rows =
        ap (λ o. option_map_or (λ (r : Row). unwrap_or r.count (first_as_count r.values)) o 0) (passed id more first_use (λ r. refl) refl other differ rows)

-- a count in the place of another one
module _ (id : Text) (how : Reading) (src : ValueSource) (n : ℕ) where
  abbrev recount : Row → Row
  recount r = record r { values = r.values ++ count_text n ∷ []; count = Some n; source = Some (stronger r.source src) }

  abbrev first_count : Row
  first_count = record { id = id; values = count_text n ∷ []; count = Some n; source = Some src; reading = how }

  is_count : (o : Option Row) → unwrap_or (option_map_or recount o first_count).count (first_as_count (option_map_or recount o first_count).values) ≡ n
  is_count None = refl
  is_count (Some r) = refl

  pub count_given : (rows : List Row) → count_of id (with_count id how src n rows) ≡ n
  count_given rows =
      ap (λ o. option_map_or (λ (r : Row). unwrap_or r.count (first_as_count r.values)) o 0) (found id recount first_count (λ r. refl) refl rows)
      ∙ is_count (find (has id) rows)

  module _ (other : Text) (differ : bytes_eq id other ≡ false) where
    pub count_apart : (rows : List Row) → all_of other (with_count id how src n (without id rows)) ≡ all_of other rows
    count_apart rows =
        ap (option_map (λ (r : Row). r.values)) (passed id recount first_count (λ r. refl) refl other differ (without id rows)
        ∙ without_other id other differ rows)

    pub counts_apart : (rows : List Row) → count_of other (with_count id how src n (without id rows)) ≡ count_of other rows
    counts_apart rows =
        ap (λ o. option_map_or (λ (r : Row). unwrap_or r.count (first_as_count r.values)) o 0)
        (passed id recount first_count (λ r. refl) refl other differ (without id rows) ∙ without_other id other differ rows)

-- an argument without a row has no count
not_found : (id : Text) (rows : List Row) → has_row id rows ≡ false → find (has id) rows ≡ None
not_found id [] e = refl
not_found id (r ∷ rs) e = no_first (has id r) e (not_found id rs)
  where
    no_first : (b : Bool) → (b || has_row id rs) ≡ false → (has_row id rs ≡ false → find (has id) rs ≡ None) → cond b (Some r) (find (has id) rs) ≡ None
    no_first true e f = absurd cc
    no_first false e f = f e

pub none_counted : (id : Text) (rows : List Row) → has_row id rows ≡ false → count_of id rows ≡ 0
none_counted id rows e =
    ap (λ o. option_map_or (λ (r : Row). unwrap_or r.count (first_as_count r.values)) o 0) (not_found id rows e)

-- an argument that isn't used has the count that its default values write
pub default_counted : (id : Text) (how : Reading) (src : ValueSource) (vs : List Text) (rows : List Row) → has_row id rows ≡ false
    → count_of id (with_values id how src vs rows) ≡ first_as_count vs
default_counted id how src vs rows e =
    ap (λ o. option_map_or (λ (r : Row). unwrap_or r.count (first_as_count r.values)) o 0)
    (found id (more id how src vs) (first_use id how src vs) (λ r. refl) refl rows
    ∙ ap (λ o. Some (option_map_or (more id how src vs) o (first_use id how src vs))) (not_found id rows e))
