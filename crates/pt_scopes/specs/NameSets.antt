-- Which names are in a set of names of regions.
use Rattle.std.specs.Prelude.{ℕ, Bool, false, slice_get, Option, Some, None, String}
use Rattle.std.specs.BTreeSet.{BTreeSet, contains_text}
use Rattle.pt_scopes.specs.declared.name_set.NameSet.{NameSet}
use Rattle.pt_tree.specs.Syntax.{Name}

abbrev pub has_name : {Y : Type 0} → Option (BTreeSet (String Y)) → Name → Bool
has_name None x = false
has_name (Some row) x = contains_text row x

abbrev pub is_in : NameSet → (region : ℕ) → Name → Bool
is_in s r x = has_name (slice_get s.rows.items r) x
