-- Which instructions may stand in a block of which kind, and what they may name (Language Reference 4.2.2, 6.2.8, 6.2.9, 6.3.4, 8.7, 8.8).
use Rattle.std.specs.Prelude.{ℕ, List, [], ◌∷◌, length, Bool, true, false, not, ◌&&◌, nat_eq, nat_le, Option, Some}
use Rattle.std.specs.Str.{bytes_eq}
use Rattle.std.specs.List.{list_any, list_all}
use Rattle.pt_tree.specs.Syntax.{Name}
use Rattle.pt_instr.specs.declared.Instr.{Instr}
use Rattle.pt_instr.specs.declared.Instr.TheVariants as instr
use Rattle.pt_code.specs.declared.BlockKind.{BlockKind}
use Rattle.pt_code.specs.declared.BlockKind.TheVariants as block
use Rattle.sem_fits.specs.fits.Block.{Links}

abbrev pub may_yield : BlockKind → Bool
may_yield block.Generator = true
may_yield block.GeneratorExpression = true
may_yield k = false

-- its names are looked up by their texts
abbrev pub has_names : BlockKind → Bool
has_names block.Module = true
has_names block.Class = true
has_names k = false

abbrev pub is_function : Option BlockKind → Bool
is_function (Some block.Function) = true
is_function (Some block.Generator) = true
is_function k = false

abbrev pub is_class : Option BlockKind → Bool
is_class (Some block.Class) = true
is_class k = false

abbrev pub is_generator_expression : Option BlockKind → Bool
is_generator_expression (Some block.GeneratorExpression) = true
is_generator_expression k = false

abbrev pub is_among : List Name → Name → Bool
is_among xs x = list_any (bytes_eq x) xs

abbrev pub are_distinct : List Name → Bool
are_distinct [] = true
are_distinct (x ∷ xs) = not (is_among xs x) && are_distinct xs

-- so many defaults, each of another of these parameters
abbrev pub names_defaults : (parameters : List Name) → (count : ℕ) → List Name → Bool
names_defaults ps n xs = nat_eq (length xs) n && (are_distinct xs && list_all (is_among ps) xs)

abbrev pub may_stand : BlockKind → Links → Instr → Bool
may_stand k links instr.Yield = may_yield k
may_stand k links instr.Delegate = may_yield k
may_stand k links (instr.Name t) = has_names k
may_stand k links (instr.SetName t) = has_names k
may_stand k links (instr.DelName t) = has_names k
may_stand k links (instr.CallKw n l) = nat_le (length (links.texts l.0)) n
may_stand k links (instr.CallSpread n l) = nat_eq (length (links.texts l.0)) n
may_stand k links (instr.MakeFunction b n l) = is_function (links.kind b.0) && names_defaults (links.parameters b.0) n (links.texts l.0)
may_stand k links (instr.MakeClass b) = is_class (links.kind b.0)
may_stand k links (instr.MakeGenerator b) = is_generator_expression (links.kind b.0)
may_stand k links i = true
