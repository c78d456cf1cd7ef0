-- What the laws say of the names of the blocks of a supported script.
use Rattle.std.specs.Prelude.{◌≡◌, ℕ, Bool, false, List, ◌∷◌, ◌++◌, map, slice_get, Some, None}
use Rattle.std.specs.List.{AllByRecursion, IsDistinct}
use Rattle.std.specs.Str.{bytes_eq}
use Rattle.pt_tree.specs.Syntax.{Name, Stms}
use Rattle.sem_control.specs.numbering.Numbered.{IsNumbered}
use Rattle.pt_scopes.specs.declared.region.Mention.{Mention}
use Rattle.pt_scopes.specs.Mentions.{places_script}
use Rattle.pt_scopes.specs.Refusals.{fault_of}
use Rattle.sem_names.specs.Around.{Names, names_of}
use Rattle.sem_names.specs.BlockNames.{class_if}
use Rattle.sem_names.specs.Naming.{dot}
use Rattle.pt_instr.specs.declared.TextNo.{TextNo}
use Rattle.sem_code.specs.slots.BlockObject.{text_in}
use Rattle.pt_assembler.specs.Layout.{Written}
use Rattle.law_operands.specs.law_files.sem_compile.compile.ScriptCode.{BlockLayout, code_of, script_layouts}
use Rattle.law_operands.specs.free_names.FreeNames.{ClassNameIsUnused}
use Rattle.pt_supported.specs.Built.{Built}

abbrev pub texts_of : List Name → List TextNo → List Name
texts_of texts xs = map (λ (x : TextNo). text_in texts x.0) xs

-- a block has in code the names that it is said to have, and no others (4.2.2)
pub record HasNames (ss : Stms) (n : ℕ) (w : Written) : Type 0 where
  pub locals : texts_of (code_of ss).texts w.locals ≡ (names_of ss n).locals
  pub cells : texts_of (code_of ss).texts w.cells ≡ (names_of ss n).cells
  pub frees : texts_of (code_of ss).texts w.free ≡ (names_of ss n).frees

-- so has each block of a supported script whose declarations have no fault and whose blocks have their numbers
abbrev pub BuiltBlocksHaveTheirNames : Type 0
BuiltBlocksHaveTheirNames = (ss : Stms) → fault_of (places_script ss) ≡ None → IsNumbered ss → ClassNameIsUnused ss → Built ss
    → (n : ℕ) (b : BlockLayout) → slice_get (script_layouts ss) n ≡ Some b → HasNames ss n b.written

-- no name that is mentioned begins with a dot, as those of comprehensions do in code: no name of a script has one
abbrev pub NamesBeginWithoutDot : Stms → Type 0
NamesBeginWithoutDot ss = (x : Name) → AllByRecursion (λ (m : Mention). bytes_eq m.name (dot ∷ x) ≡ false) (places_script ss).mentions

-- No name in a cell of a block stands twice, and no free one does. None is both but that of the class for `super`, which stands behind the other cells where
-- a block makes a class, and is free in a block within one.
pub record CellsDiffer (ns : Names) : Type 0 where
  pub others : List Name
  pub makes_class : Bool
  pub cells_are : ns.cells ≡ others ++ class_if makes_class
  pub cells : IsDistinct bytes_eq ns.cells
  pub frees : IsDistinct bytes_eq ns.frees
  pub apart : IsDistinct bytes_eq (others ++ ns.frees)

abbrev pub BuiltCellsAreDifferent : Type 0
BuiltCellsAreDifferent = (ss : Stms) → NamesBeginWithoutDot ss → Built ss → (n : ℕ) → CellsDiffer (names_of ss n)
