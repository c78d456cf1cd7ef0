-- The functions of the prelude (Library Reference, "Built-in Functions"): their names, the builtins that are among them, their
-- blocks in the text, and their defaults.
use Rattle.std.specs.Prelude.{ℕ, ◌+◌, List, [], ◌∷◌, codes, find, position, option_map, Option}
use Rattle.std.specs.Str.{bytes_eq}
use Rattle.pt_base.specs.declared.numbers.BlockId.{BlockId}
use Rattle.pt_tables.specs.Rows.{value_of}
use Rattle.pt_prelude.specs.declared.source.TheConstants.{PRELUDE}
use Rattle.pt_prelude.specs.declared.kinds.Helper.{Helper}
use Rattle.pt_prelude.specs.declared.kinds.Helper.TheVariants as helper
use Rattle.pt_prelude.specs.declared.kinds.Preset.{Preset}
use Rattle.pt_prelude.specs.declared.kinds.Preset.TheVariants as preset
use Rattle.pt_prelude.specs.Functions.{function_names}

-- in the order of the text
abbrev pub helpers : List Helper
helpers =
    helper.IterOf ∷ helper.NextOf ∷ helper.NextOrOf ∷ helper.LenOf ∷ helper.TruthOf ∷ helper.BinaryOf ∷ helper.SameOf ∷
    helper.PairsOf ∷ helper.InOf ∷ helper.ListOf ∷ helper.TakeOf ∷ helper.TupleOf ∷ helper.SetOf ∷ helper.UpdateOf ∷
    helper.DictOf ∷ helper.ExtendOf ∷ helper.JoinOf ∷ helper.SumOf ∷ helper.AnyOf ∷ helper.AllOf ∷ helper.BestOf ∷ helper.MinOf ∷
    helper.MaxOf ∷ helper.SortedOf ∷ helper.SortOf ∷ helper.MapGo ∷ helper.MapOf ∷ helper.FilterGo ∷ helper.FilterOf ∷
    helper.ZipGo ∷ helper.ZipOf ∷ helper.EnumerateGo ∷ helper.EnumerateOf ∷ helper.ReversedGo ∷ helper.ReversedOf ∷
    helper.ReprOf ∷ helper.ReprIn ∷ helper.StrOf ∷ helper.PrintOf ∷ []

abbrev pub name_of : Helper → List ℕ
name_of helper.IterOf = codes "iter_of"
name_of helper.NextOf = codes "next_of"
name_of helper.NextOrOf = codes "next_or_of"
name_of helper.LenOf = codes "len_of"
name_of helper.TruthOf = codes "truth_of"
name_of helper.BinaryOf = codes "binary_of"
name_of helper.SameOf = codes "same_of"
name_of helper.PairsOf = codes "pairs_of"
name_of helper.InOf = codes "in_of"
name_of helper.ListOf = codes "list_of"
name_of helper.TakeOf = codes "take_of"
name_of helper.TupleOf = codes "tuple_of"
name_of helper.SetOf = codes "set_of"
name_of helper.UpdateOf = codes "update_of"
name_of helper.DictOf = codes "dict_of"
name_of helper.ExtendOf = codes "extend_of"
name_of helper.JoinOf = codes "join_of"
name_of helper.SumOf = codes "sum_of"
name_of helper.AnyOf = codes "any_of"
name_of helper.AllOf = codes "all_of"
name_of helper.BestOf = codes "best_of"
name_of helper.MinOf = codes "min_of"
name_of helper.MaxOf = codes "max_of"
name_of helper.SortedOf = codes "sorted_of"
name_of helper.SortOf = codes "sort_of"
name_of helper.MapGo = codes "map_go"
name_of helper.MapOf = codes "map_of"
name_of helper.FilterGo = codes "filter_go"
name_of helper.FilterOf = codes "filter_of"
name_of helper.ZipGo = codes "zip_go"
name_of helper.ZipOf = codes "zip_of"
name_of helper.EnumerateGo = codes "enumerate_go"
name_of helper.EnumerateOf = codes "enumerate_of"
name_of helper.ReversedGo = codes "reversed_go"
name_of helper.ReversedOf = codes "reversed_of"
name_of helper.ReprOf = codes "repr_of"
name_of helper.ReprIn = codes "repr_in"
name_of helper.StrOf = codes "str_of"
name_of helper.PrintOf = codes "print_of"

abbrev pub helper_named : (name : List ℕ) → Option Helper
helper_named name = find (λ h. bytes_eq (name_of h) name) helpers

-- the builtins among them, each a function of its own name with a suffix
abbrev pub builtins : List (List ℕ × Helper)
builtins =
    (codes "list", helper.ListOf) ∷ (codes "tuple", helper.TupleOf) ∷ (codes "set", helper.SetOf) ∷
    (codes "dict", helper.DictOf) ∷ (codes "sum", helper.SumOf) ∷ (codes "min", helper.MinOf) ∷
    (codes "max", helper.MaxOf) ∷ (codes "any", helper.AnyOf) ∷ (codes "all", helper.AllOf) ∷
    (codes "sorted", helper.SortedOf) ∷ (codes "map", helper.MapOf) ∷ (codes "filter", helper.FilterOf) ∷
    (codes "zip", helper.ZipOf) ∷ (codes "enumerate", helper.EnumerateOf) ∷ (codes "reversed", helper.ReversedOf) ∷ []

abbrev pub builtin_helper : (name : List ℕ) → Option Helper
builtin_helper name = value_of builtins name

-- blocks are numbered as they stand in the text, behind the module
abbrev pub block_at : ℕ → BlockId
block_at place = record { 0 = place + 1 }

abbrev pub block_in : (text : List ℕ) → Helper → Option BlockId
block_in text h = option_map block_at (position (bytes_eq (name_of h)) (function_names text))

abbrev pub block_of : Helper → Option BlockId
block_of h = block_in PRELUDE.now h

abbrev pub presets_of : Helper → List Preset
presets_of helper.ListOf = preset.Empty ∷ []
presets_of helper.TupleOf = preset.Empty ∷ []
presets_of helper.SetOf = preset.Empty ∷ []
presets_of helper.DictOf = preset.Empty ∷ []
presets_of helper.SumOf = preset.Zero ∷ []
presets_of helper.EnumerateOf = preset.Zero ∷ []
presets_of helper.BestOf = preset.None ∷ []
presets_of helper.SortedOf = preset.None ∷ preset.False ∷ []
presets_of _ = []
