-- How the items of two sets are put together.
use Rattle.std.specs.Prelude.{◌≡◌, Bool, true, not, List, None, Result, Ok, Err}
use Rattle.std.specs.List.{filter, AllByRecursion}
use Rattle.pt_heap.specs.Entries.{Entry, found}
use Rattle.pt_heap.specs.declared.dict.DictErr.{DictErr}
use Rattle.pt_heap.specs.declared.dict.DictErr.TheVariants.{Length, Memory}
use Rattle.pt_dicts.specs.declared.sets.Choice.{Choice}
use Rattle.pt_dicts.specs.declared.sets.Choice.TheVariants.{All, Common, Missing}
use Rattle.pt_dicts.specs.Combine.{has}

-- whether an item is taken that another set has or lacks
abbrev pub is_chosen : Choice → (there : Bool) → Bool
is_chosen All there = true
is_chosen Common there = there
is_chosen Missing there = not there

abbrev pub chosen : Choice → (other es : List Entry) → List Entry
chosen choice other es = filter (λ e. is_chosen choice (has other e)) es

-- none of the entries has a key that is there
abbrev pub AreNew : (there es : List Entry) → Type 0
AreNew there es = AllByRecursion (λ e. found e.key there ≡ None) es

-- the entries were put in, unless memory ran out or there are too many
abbrev pub Adds : (new : List Entry) → Result (Unit {0}) DictErr → Result (List Entry) DictErr → Type 0
Adds new (Ok u) wanted = wanted ≡ Ok new
Adds new (Err Length) wanted = wanted ≡ Err Length
Adds new (Err Memory) wanted = Unit {0}
