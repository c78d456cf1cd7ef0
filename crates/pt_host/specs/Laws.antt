-- What the laws of the host say.
use Rattle.std.specs.Prelude.{ℕ, List, [], ◌++◌, Option, Some, None, codes, map, option_map, slice_get}
use Rattle.pt_base.specs.declared.numbers.ObjId.{ObjId}
use Rattle.pt_builtin_objects.specs.declared.Kind.{Kind}
use Rattle.pt_builtin_objects.specs.declared.Kind.TheVariants as kind
use Rattle.pt_builtin_objects.specs.Start.{start_rows}
use Rattle.pt_helper_objects.specs.Objects.{kind_named}
use Rattle.pt_helper_objects.specs.declared.HelperKind.{HelperKind}
use Rattle.pt_helper_objects.specs.declared.HelperKind.TheVariants as hidden
use Rattle.pt_helper_objects.specs.pt_prelude.declared.kinds.Helper.{Helper}
use Rattle.pt_helper_objects.specs.pt_prelude.Helpers.{builtin_helper, name_of}
use Rattle.pt_content.specs.Functions.{of_function}
use Rattle.pt_content.specs.declared.function.Function.{Function}
use Rattle.pt_host.specs.Builtins.{written_names}
use Rattle.pt_host.specs.Calls.{class_helpers}

abbrev pub name_of_row : Option (List ℕ × Kind) → List ℕ
name_of_row (Some r) = r.0
name_of_row None = []

-- the name of the object at a place as a run starts
abbrev pub start_name : ObjId → List ℕ
start_name id = name_of_row (slice_get start_rows id.0)

-- the operation on values that the function at a place is
abbrev pub function_of_row : Option (List ℕ × Kind) → Option Function
function_of_row (Some (x, kind.Function n)) = of_function n
function_of_row o = None

abbrev pub start_function : ObjId → Option Function
start_function id = function_of_row (slice_get start_rows id.0)

-- the operation on values that only hidden blocks name so
abbrev pub function_of_kind : Option HelperKind → Option Function
function_of_kind (Some (hidden.Primitive n)) = of_function n
function_of_kind o = None

abbrev pub hidden_function : (name : List ℕ) → Option Function
hidden_function x = function_of_kind (kind_named x)

-- the functions of the prelude that the builtin classes which ask one are by their names, and those that they ask
abbrev pub functions_by_name : List (Option Helper)
functions_by_name = map (λ r. builtin_helper (start_name (record { 0 = r.0 }))) class_helpers

abbrev pub functions_asked : List (Option Helper)
functions_asked = map (λ r. Some r.1) class_helpers

-- the names that the prelude gives the other builtins which are functions of it, and those by which they are found
abbrev pub names_in_prelude : List (Option (List ℕ))
names_in_prelude = map (λ x. option_map name_of (builtin_helper x)) written_names

abbrev pub names_with_suffix : List (Option (List ℕ))
names_with_suffix = map (λ x. Some (x ++ codes "_of")) written_names
