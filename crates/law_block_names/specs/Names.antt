-- The names of the blocks of a script, which no line end parts (Language Reference 2.3).
use Rattle.std.specs.Prelude.{◌≡◌, ◌==◌, ℕ, false, List}
use Rattle.std.specs.List.{AllByRecursion}
use Rattle.pt_tree.specs.Syntax.{Name, Stms}
use Rattle.pt_tree.specs.Blocks.{Block, blocks_script}
use Rattle.pt_front.specs.Text.{IsScript}

abbrev pub HasNoLineEnd : Name → Type 0
HasNoLineEnd x = AllByRecursion (λ c. (c == 10) ≡ false) x

abbrev pub BlocksHaveSuchNames : Type 0
BlocksHaveSuchNames = (text : List ℕ) (script : Stms) → IsScript text script → AllByRecursion (λ (b : Block). HasNoLineEnd b.name) (blocks_script script)
