-- What the law says of the free names of a script's blocks.
use Rattle.std.specs.Prelude.{◌≡◌, ℕ, length, slice_get, Some, None}
use Rattle.pt_tree.specs.Syntax.{Stms}
use Rattle.sem_control.specs.numbering.Numbered.{IsNumbered}
use Rattle.pt_scopes.specs.Mentions.{places_script}
use Rattle.pt_scopes.specs.Refusals.{fault_of}
use Rattle.sem_names.specs.Around.{names_of}
use Rattle.law_files.specs.sem_compile.compile.ScriptCode.{BlockLayout, script_layouts}
use Rattle.law_operands.specs.free_names.FreeNames.{ClassNameIsUnused}

-- In a script whose declarations have no fault and whose blocks have their numbers, each block of the code has as many free names as the script's block (4.2.2).
abbrev pub BlocksHaveTheirFreeNames : Type 0
BlocksHaveTheirFreeNames = (ss : Stms) → fault_of (places_script ss) ≡ None → IsNumbered ss → ClassNameIsUnused ss
    → (n : ℕ) (layout : BlockLayout) → slice_get (script_layouts ss) n ≡ Some layout → length layout.written.free ≡ length (names_of ss n).frees
