-- What laws say of the first start on a line.
use Rattle.std.specs.Prelude.{◌≡◌, ℕ, ◌<◌, List, [], Some}
use Rattle.pt_tree.specs.Syntax.{Name}
use Rattle.pt_instr.specs.declared.TextNo.{TextNo}
use Rattle.pt_code.specs.declared.Const.{Const}
use Rattle.pt_code.specs.declared.Code.{Code}
use Rattle.pt_code.specs.declared.CodeBlock.{CodeBlock}
use Rattle.sem_code.specs.slots.CodeObject.{CodeObject}
use Rattle.pt_assembler.specs.Piece.{Piece}
use Rattle.pt_assembler.specs.Layout.{begun, layout}
use Rattle.pt_assembler.specs.Laws.{IsBlockOf, Shows}
use Rattle.sem_fits.specs.fits.Block.{Block}
use Rattle.sem_fits.specs.fits.Jumps.{Starts}
use Rattle.law_pieces.specs.piece_kinds.Table.{next_of, Rises}
use Rattle.law_pieces.specs.first_starts.First.{first_start}

-- in a block that was laid out from a piece nothing starts on the line in front of it
abbrev pub FirstIsLeast : (V : Type 0) → Type 0
FirstIsLeast V = (p : Piece) (texts : List Name) (constants : List Const) (lists : List (List ℕ)) (locals cells free : List TextNo) (depth : ℕ)
    (code : Code) (block : CodeBlock) (object : CodeObject V) (b : Block)
    → IsBlockOf (layout p [] (begun texts constants lists locals cells free depth)) code block
    → Shows (layout p [] (begun texts constants lists locals cells free depth)) code block object
    → ((pc : ℕ) → object.at pc ≡ b.at pc) → Rises b → b.starts ≡ block.starts
    → (line place : ℕ) → first_start (next_of b) line p 0 ≡ Some place → (pc : ℕ) → pc < place → Starts b line pc → ⊥
