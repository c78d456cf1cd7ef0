-- The objects of functions written in Python that a run starts with, behind the builtin ones, in the order of their places (Library Reference,
-- "Built-in Functions"; names and order by the table of `src/lib`).
use Rattle.std.specs.Prelude.{ℕ, ◌+◌, pos, Bool, true, false, List, [], ◌∷◌, codes, length, map, position, Option, Some, None, option_map, if◌then◌else◌}
use Rattle.std.specs.Map.{lookup}
use Rattle.std.specs.Str.{bytes_eq}
use Rattle.pt_base.specs.declared.numbers.BlockId.{BlockId}
use Rattle.pt_heap.specs.declared.object.Object.{Object}
use Rattle.pt_heap.specs.declared.object.Object.TheVariants.{Builtin, Function as FunctionObject, Instance, Tuple}
use Rattle.pt_heap.specs.declared.value.Value.{Value}
use Rattle.pt_heap.specs.declared.value.Value.TheVariants as value
use Rattle.pt_heap.specs.declared.view.Binding.{Binding}
use Rattle.pt_builtin_objects.specs.Start.{start_rows}
use Rattle.pt_prelude.specs.declared.kinds.Helper.{Helper}
use Rattle.pt_prelude.specs.declared.kinds.Helper.TheVariants as helper
use Rattle.pt_prelude.specs.declared.kinds.Preset.{Preset}
use Rattle.pt_prelude.specs.declared.kinds.Preset.TheVariants as preset
use Rattle.pt_prelude.specs.Helpers.{block_of, name_of, presets_of}
use Rattle.pt_helper_objects.specs.declared.HelperKind.{HelperKind}
use Rattle.pt_helper_objects.specs.declared.HelperKind.TheVariants as kind
use Rattle.pt_helper_objects.specs.declared.TheConstants.{EMPTY_TUPLE, HELPERS}

-- the parameters that have a default, and what stands for an argument that isn't given
abbrev pub default_names : Helper → List (List ℕ)
default_names helper.ListOf = codes "x" ∷ []
default_names helper.TupleOf = codes "x" ∷ []
default_names helper.SetOf = codes "x" ∷ []
default_names helper.DictOf = codes "x" ∷ []
default_names helper.SumOf = codes "start" ∷ []
default_names helper.BestOf = codes "key" ∷ []
default_names helper.SortedOf = codes "key" ∷ codes "reverse" ∷ []
default_names h = []

abbrev pub preset_value : Preset → Value
preset_value preset.None = value.None
preset_value preset.False = value.Bool false
preset_value preset.Zero = value.Int (pos 0)
preset_value preset.Empty = value.Obj EMPTY_TUPLE

abbrev pub bindings : List (List ℕ) → List Preset → List Binding
bindings (x ∷ xs) (p ∷ ps) = record { name = x; value = preset_value p } ∷ bindings xs ps
bindings _ _ = []

abbrev pub hidden_function : Helper → BlockId → Object
hidden_function h b = FunctionObject (record {
  block = b;
  hidden = true;
  defaults = bindings (default_names h) (presets_of h);
  cells = [];
})

-- a bare object, which no call takes
abbrev pub bare : Object
bare = Instance (record { class = record { 0 = 0 }; names = [] })

abbrev pub function_by : (stands : Bool) → Helper → Option BlockId → Object
function_by true h (Some b) = hidden_function h b
function_by _ h _ = bare

-- a function stands there whose block takes no cells along
abbrev pub object_of : (stands : Helper → Bool) → HelperKind → Object
object_of stands (kind.Function h) = function_by (stands h) h (block_of h)
object_of stands kind.EmptyTuple = Tuple []
object_of stands (kind.Primitive n) = Builtin (record { number = n; receiver = None })

abbrev pub helper_rows : List (List ℕ × HelperKind)
helper_rows = map (λ r. (r.0.now, r.1)) HELPERS

abbrev pub helper_objects : (stands : Helper → Bool) → List Object
helper_objects stands = map (λ r. object_of stands r.1) helper_rows

-- what stands in the row of a name
abbrev pub kind_named : (name : List ℕ) → Option HelperKind
kind_named x = lookup (bytes_eq x) helper_rows

-- the place of the one of a name
abbrev pub hidden_place : (name : List ℕ) → Option ℕ
hidden_place x = option_map (λ p. length start_rows + p) (position (bytes_eq x) (map (λ r. r.0) helper_rows))

abbrev pub helper_place : Helper → Option ℕ
helper_place h = hidden_place (name_of h)
