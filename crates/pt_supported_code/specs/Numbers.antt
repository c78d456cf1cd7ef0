-- What is asked of a block to tell whether it is supported.
use Rattle.std.specs.Prelude.{◌≡◌, ◌<◌, ◌≤◌, ℕ, List, length, Option, Some}
use Rattle.std.specs.List.{AllByRecursion}
use Rattle.pt_instr.specs.declared.TextNo.{TextNo}
use Rattle.pt_code.specs.declared.CodeBlock.{CodeBlock}
use Rattle.pt_code.specs.declared.Code.{Code}
use Rattle.pt_code.specs.View.{Ins, IsView}
use Rattle.pt_places.specs.declared.places.Place.{Place}
use Rattle.pt_places.specs.PlaceTable.{entry}
use Rattle.pt_supported_code.specs.Built.{TakesAsListed}

-- names are texts that are there
abbrev pub AreThere : Code → List TextNo → Type 0
AreThere c xs = AllByRecursion (λ (x : TextNo). x.0 < length c.texts) xs

-- a block names texts that are there, and its bytes are those of instructions
pub record IsReadBlock (c : Code) (b : CodeBlock) : Type 0 where
  pub locals : AreThere c b.locals
  pub cells : AreThere c b.cells
  pub free : AreThere c b.free
  pub view : ℕ → Option Ins
  pub is_view : IsView b view

-- at each place up to the end a function is made with as many defaults as are listed
abbrev pub AllTake : (lists : List (List ℕ)) → (size : ℕ) → List (Option Place) → Type 0
AllTake lists size table = (pc : ℕ) (p : Place) → pc ≤ size → entry table pc ≡ Some p → TakesAsListed lists p.instr
