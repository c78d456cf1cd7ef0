-- Which code is supported yet. No rule of code asks for it: each condition is what the machine lacks. The code of each supported script that has a file
-- meets them (Library Reference, "inspect": code objects; Language Reference 4.2.2, 6.2.8, 6.2.9).
use Rattle.std.specs.Prelude.{◌≡◌, ◌<◌, ℕ, List, [], length, map, slice_get, slice_index_or, Bool, true, false, Option, Some}
use Rattle.std.specs.List.{IsDistinct}
use Rattle.std.specs.Str.{bytes_eq}
use Rattle.pt_base.specs.declared.numbers.Line.{Line}
use Rattle.pt_tree.specs.Syntax.{Name}
use Rattle.pt_instr.specs.declared.TextNo.{TextNo}
use Rattle.pt_instr.specs.declared.Instr.{Instr}
use Rattle.pt_instr.specs.declared.Instr.TheVariants as instr
use Rattle.pt_code.specs.declared.BlockKind.{BlockKind}
use Rattle.pt_code.specs.declared.BlockKind.TheVariants as kind
use Rattle.pt_code.specs.declared.CodeBlock.{CodeBlock}
use Rattle.pt_code.specs.declared.Code.{Code}
use Rattle.pt_code.specs.View.{Ins, IsView}
use Rattle.sem_code.specs.slots.BlockObject.{text_in}

-- no generator
abbrev pub is_plain_kind : BlockKind → Bool
is_plain_kind kind.Module = true
is_plain_kind kind.Function = true
is_plain_kind kind.Class = true
is_plain_kind k = false

abbrev pub named_by : (texts : List Name) → List TextNo → List Name
named_by texts xs = map (λ x. text_in texts x.0) xs

-- a function is made with as many defaults as a list names
abbrev pub TakesAsListed : (lists : List (List ℕ)) → Instr → Type 0
TakesAsListed lists (instr.MakeFunction b n l) = n ≡ length (slice_index_or lists l.0 [])
TakesAsListed lists i = Unit {0}

pub record IsBuiltBlock (c : Code) (b : CodeBlock) : Type 0 where
  pub is_plain : is_plain_kind b.kind ≡ true
  -- no two local names are the same text, no two names of cells, and no two free ones; a name of a cell may be free too, as that of the class for `super` is
  -- where a block of a class makes one
  pub locals : IsDistinct bytes_eq (named_by c.texts b.locals)
  pub cells : IsDistinct bytes_eq (named_by c.texts b.cells)
  pub free : IsDistinct bytes_eq (named_by c.texts b.free)
  -- at each place, also where no way comes
  pub takes : (view : ℕ → Option Ins) → IsView b view → (pc : ℕ) (i : Ins) → view pc ≡ Some i → TakesAsListed c.lists i.instr

-- each block is
abbrev pub BuiltCode : Code → Type 0
BuiltCode c = (n : ℕ) (b : CodeBlock) → slice_get c.blocks n ≡ Some b → IsBuiltBlock c b

-- the first block that isn't has this line
pub record IsUnbuiltCode (c : Code) (line : Line) : Type 0 where
  pub number : ℕ
  pub block : CodeBlock
  pub is : slice_get c.blocks number ≡ Some block
  pub unbuilt : IsBuiltBlock c block → ⊥
  pub first : (n : ℕ) (b : CodeBlock) → n < number → slice_get c.blocks n ≡ Some b → IsBuiltBlock c b
  pub line_is : line ≡ block.first_line
