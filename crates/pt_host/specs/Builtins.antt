-- What a name means that neither a block nor the module binds (Library Reference, "Built-in
-- Functions", "Built-in Constants", "Built-in Exceptions").
use Rattle.std.specs.Prelude.{ℕ, Bool, List, [], ◌∷◌, ◌++◌, Option, Some, None, codes, map, position}
use Rattle.std.specs.Prelude.{if◌then◌else◌}
use Rattle.std.specs.Str.{bytes_eq}
use Rattle.pt_tables.specs.Names.{builtin_names, unbuilt_names}
use Rattle.pt_tree.specs.Syntax.{Name}
use Rattle.pt_heap.specs.declared.value.Value.{Value}
use Rattle.pt_heap.specs.declared.value.Value.TheVariants as value
use Rattle.pt_builtin_objects.specs.Start.{start_rows}
use Rattle.pt_bind.specs.NameSets.{is_among}
use Rattle.pt_helper_objects.specs.Objects.{hidden_place}

pub data Builtin : Type 0 where
  is : Value → Builtin
  -- a run doesn't have it
  unavailable : Builtin
  no_builtin : Builtin

abbrev pub at_place : Option ℕ → Builtin
at_place (Some place) = is (value.Obj (record { 0 = place }))
at_place None = unavailable

-- one of the objects of the start
abbrev pub start_object : Name → Builtin
start_object x = at_place (position (bytes_eq x) (map (λ r. r.0) start_rows))

-- those that are functions written in Python; of others that are to be some a run has none yet
abbrev pub written_names : List Name
written_names = codes "sum" ∷ codes "min" ∷ codes "max" ∷ codes "any" ∷ codes "all" ∷ codes "sorted" ∷ []

abbrev pub written_function : Name → Builtin
written_function x = at_place (hidden_place (x ++ codes "_of"))

abbrev pub listed_builtin : Name → Builtin
listed_builtin x =
    if bytes_eq x (codes "NotImplemented") then is value.NotImplemented
    else if bytes_eq x (codes "Ellipsis") then is value.Ellipsis
    else if is_among unbuilt_names x then unavailable
    else if is_among written_names x then written_function x
    else start_object x

-- the module that runs has the name `__main__` (Library Reference, "__main__")
abbrev pub builtin : Name → Builtin
builtin x =
    if is_among builtin_names x then listed_builtin x
    else if bytes_eq x (codes "__name__") then start_object (codes "__main__")
    else no_builtin

-- in a function that is written in Python: one of these, else what they alone ask, else a builtin
abbrev pub hidden_builtin : Option ℕ → Name → Builtin
hidden_builtin (Some place) x = at_place (Some place)
hidden_builtin None x = builtin x

-- what a name means by itself in a block
abbrev pub meaning : (hidden : Bool) → Name → Builtin
meaning hidden x = if hidden then hidden_builtin (hidden_place x) x else builtin x
