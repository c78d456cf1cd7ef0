-- Each loop in the code of a block of a script has an act.
use Rattle.std.proofs.Common.{◌≡◌, ℕ, [], slice_get, Some, None, refl, sym, ap, ◌∙◌, subst}
use Rattle.pt_tree.specs.Syntax.{Stms}
use Rattle.pt_tree.specs.Blocks.{Block, blocks_script}
use Rattle.pt_scopes.specs.Mentions.{places_script}
use Rattle.pt_scopes.specs.Refusals.{fault_of}
use Rattle.sem_code.specs.slots.CodeObject.{CodeObject}
use Rattle.pt_assembler.specs.PieceAt.{Piece_at}
use Rattle.pt_assembler.specs.Layout.{Written, instrs_of}
use Rattle.pt_assembler.specs.Laws.{IsBlockOf, Shows}
use Rattle.sem_names.specs.Around.{names_of}
use Rattle.sem_fits.specs.fits.Fits.{SilentLoop}
use Rattle.law_operands.specs.law_files.sem_compile.stm_pieces.Names.{Code_named}
use Rattle.law_operands.specs.law_files.sem_compile.stm_pieces.Laws.{outermost, slots_of}
use Rattle.law_operands.specs.law_files.sem_compile.stm_pieces.StmPiece.{code_piece}
use Rattle.law_operands.proofs.law_files.sem_compile.stm_pieces.Fitting.{pieces_fit}
use Rattle.law_pieces.proofs.script_pieces.Cells.{takes_cells}
use Rattle.law_pieces.proofs.script_pieces.Statements.{exits_in_loops}
use Rattle.law_operands.specs.law_files.sem_compile.compile.ScriptCode.{Tables, begun_block, BlockLayout, layout_of, code_block, code_of}
use Rattle.law_operands.specs.law_files.sem_compile.compile.Laws.{IsLayoutIn}
use Rattle.law_operands.proofs.law_files.sem_compile.compile.Blocks.{blocks_are_laid_out}
use Rattle.law_pieces.proofs.piece_kinds.PieceLaw.{is_some_of}
use Rattle.law_pieces.proofs.script_code.Begun.{block_begun, stands_whole}
use Rattle.law_typed_pieces.specs.script_tables.Laws.{around_block, block_in, TakesAll}
use Rattle.law_typed_pieces.proofs.script_tables.Tables.{begins_so}
use Rattle.law_pieces.proofs.forward_pieces.InOrder.{bytes_wide, in_order}
use Rattle.law_typed_pieces.proofs.silent_loops.Loops.{blocks_have_acts_in_loops}
use Rattle.law_typed_pieces.specs.script_loops.Laws.{ScriptsHaveActsInLoops}

-- of a block with the layout of its piece over some tables
abbrev HasActs : {V : Type 0} → Stms → (n : ℕ) → CodeObject V → BlockLayout → Type 0
HasActs ss n object b = IsBlockOf b.written (code_of ss) (code_block b) → Shows b.written (code_of ss) (code_block b) object → TakesAll ss n (block_in ss b object)
    → (pc : ℕ) → SilentLoop (block_in ss b object) pc → ⊥

of_layout : {V : Type 0} (ss : Stms) (n : ℕ) (k : Block) (object : CodeObject V) (t : Tables) → fault_of (places_script ss) ≡ None → slice_get (blocks_script ss) n ≡ Some k
    → Code_named (around_block ss n) k.code → HasActs ss n object (layout_of t (around_block ss n) (names_of ss n) k)
of_layout {V} ss n k object t no_fault is_block named whole shows takes =
    blocks_have_acts_in_loops (around_block ss n) k.code object (code_block b).starts (block_in ss b object) (takes_cells {V = Unit {0}} tt ss n) takes named (λ pc. refl)
    (in_order object (code_block b) (instrs_of w) shows.view)
    (subst (λ m. Piece_at object (code_block b).starts (code_piece (around_block ss n) k.code) [] (outermost (slots_of k.code)) 0 m) (sym (bytes_wide w w.instrs))
    (stands_whole (code_piece (around_block ss n) k.code) (slots_of k.code) (begun_block t (names_of ss n) k) (code_of ss) (code_block b) object
    (block_begun t (names_of ss n) k) (pieces_fit (around_block ss n) k.code (takes_cells {V = Unit {0}} tt ss n) (exits_in_loops ss n k no_fault is_block) named) whole shows))
    (begins_so k.code)
  where
    b : BlockLayout
    b = layout_of t (around_block ss n) (names_of ss n) k

    w : Written
    w = b.written

pub scripts_have_acts_in_loops : {V : Type 0} → ScriptsHaveActsInLoops V
scripts_have_acts_in_loops {V} ss n k b object no_fault is_block is_layout shows named takes =
    subst (HasActs ss n object) (sym (laid.is ∙ ap (layout_of laid.tables (around_block ss n) (names_of ss n)) same_block))
    (of_layout ss n k object laid.tables no_fault is_block named) laid.whole shows takes
  where
    laid : IsLayoutIn ss n b
    laid = blocks_are_laid_out ss n b is_layout

    same_block : laid.block ≡ k
    same_block = is_some_of (sym laid.is_block ∙ is_block)
