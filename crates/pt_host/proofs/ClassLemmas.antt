-- What code does that makes classes, and tells the names that these don't bind.
use Rattle.std.proofs.Common.{◌≡◌, ◌∙◌, ◌<◌, ◌≤◌, ◌+◌, ◌||◌, ℕ, suc, Bool, true, false, List, [], ◌∷◌, Option, Some, length, drop, get_or, is_some, if◌then◌else◌, refl, sym, ap, add-one}
use Rattle.std.specs.Str.{bytes_eq}
use Rattle.std.proofs.Math.Seq.{drop-cons}
use Rattle.std.proofs.lemmas.Bool.Decides.{same_from_decides}
use Rattle.std.proofs.lemmas.Slice.Eq.{bytes_eq-Decides}
use Rattle.pt_tables.specs.Rows.{numbered, value_of}
use Rattle.pt_heap.specs.declared.value.Value.TheVariants as value
use Rattle.pt_heap.specs.declared.view.Binding.{Binding}
use Rattle.pt_heap.specs.Entries.{Entry, put}
use Rattle.pt_bind.specs.NameSets.{is_among}
use Rattle.pt_dicts.specs.Keys.{name_codes}
use Rattle.pt_host.specs.Classes.{bound_entries}
use Rattle.pt_host.proofs.StarredLemmas.{past}

-- one name behind another
module _ (es : List Entry) (xs : List Binding) (at : ℕ) where
  pub bound_next : (fs : List Entry) (b d : Binding) → at < length xs → b ≡ get_or xs at d → fs ≡ put (name_codes b.name) value.None b.value es
      → bound_entries fs (drop (at + 1) xs) ≡ bound_entries es (drop at xs)
  bound_next fs b d l is e =
      ap (λ n. bound_entries fs (drop n xs)) (add-one at)
      ∙ (ap (λ y. bound_entries y (drop (suc at) xs)) e
      ∙ (ap (λ y. bound_entries es (y ∷ drop (suc at) xs)) is ∙ sym (ap (λ ys. bound_entries es ys) (drop-cons xs at d l))))

  pub bound_end : length xs ≤ at → bound_entries es (drop at xs) ≡ es
  bound_end l = ap (λ ys. bound_entries es ys) (past xs at l)

-- a name that stands in a table
swapped : (x y : List ℕ) → bytes_eq y x ≡ bytes_eq x y
swapped x y = same_from_decides (bytes_eq y x) (bytes_eq x y) (bytes_eq-Decides y x) (λ e. sym ((bytes_eq-Decides x y).0 e), λ e. (bytes_eq-Decides x y).1 (sym e))

some_if : (b : Bool) (n : ℕ) (o : Option ℕ) → is_some (if b then Some n else o) ≡ (b || is_some o)
some_if true n o = refl
some_if false n o = refl

pub found_among : (n : ℕ) (xs : List (List ℕ)) (x : List ℕ) → is_some (value_of (numbered n xs) x) ≡ is_among xs x
found_among n [] x = refl
found_among n (y ∷ ys) x =
    some_if (bytes_eq y x) n (value_of (numbered (n + 1) ys) x)
    ∙ (ap (λ b. b || is_some (value_of (numbered (n + 1) ys) x)) (swapped x y) ∙ ap (λ b. bytes_eq x y || b) (found_among (n + 1) ys x))
