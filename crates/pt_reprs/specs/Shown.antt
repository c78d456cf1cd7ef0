-- What a view shows of the entries of a dictionary (Library Reference, "Dictionary view objects").
use Rattle.std.specs.Prelude.{List, [], ◌∷◌, Option, Some, flat_map, slice_get}
use Rattle.pt_heap.specs.declared.value.Value.{Value}
use Rattle.pt_heap.specs.declared.object.DictView.{DictView}
use Rattle.pt_heap.specs.declared.object.Object.{Object}
use Rattle.pt_heap.specs.declared.object.Object.TheVariants as object
use Rattle.pt_heap.specs.declared.object.Part.{Part}
use Rattle.pt_heap.specs.declared.object.Part.TheVariants.{Keys, Values, Items}
use Rattle.pt_heap.specs.Entries.{Entry}

abbrev pub shown_of : Part → Entry → List Value
shown_of Keys e = e.first ∷ []
shown_of Values e = e.value ∷ []
shown_of Items e = e.first ∷ e.value ∷ []

abbrev pub shown : Part → List Entry → List Value
shown p es = flat_map (shown_of p) es

abbrev pub entries_in : Option Object → List Entry
entries_in (Some (object.Dict es)) = es
entries_in o = []

-- the entries of the dictionary that a view is of
abbrev pub viewed : List Object → DictView → List Entry
viewed h v = entries_in (slice_get h v.dict.0)
