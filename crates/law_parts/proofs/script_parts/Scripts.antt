-- The statements of each block of a script lie in their parts, and start at the least places of their lines.
use Rattle.std.proofs.Common.{◌≡◌, ℕ, [], slice_get, Some, None, refl, sym, ap, ◌∙◌, subst}
use Rattle.pt_tree.specs.Syntax.{Stms}
use Rattle.pt_tree.specs.Blocks.{Block, blocks_script}
use Rattle.pt_scopes.specs.Mentions.{places_script}
use Rattle.pt_scopes.specs.Refusals.{fault_of}
use Rattle.sem_control.specs.control.Jump.{Target, starts_of, on_line}
use Rattle.sem_code.specs.slots.CodeObject.{CodeObject}
use Rattle.pt_assembler.specs.PieceAt.{Piece_at}
use Rattle.pt_assembler.specs.Layout.{Written, instrs_of, layout}
use Rattle.pt_assembler.specs.Laws.{IsBlockOf, Shows}
use Rattle.sem_names.specs.Around.{names_of}
use Rattle.sem_fits.specs.fits.Fits.{IsLeast}
use Rattle.sem_fits.specs.fits.Jumps.{Starts}
use Rattle.sem_compile.specs.stm_pieces.Laws.{outermost, slots_of}
use Rattle.sem_compile.specs.stm_pieces.StmPiece.{code_piece}
use Rattle.sem_compile.specs.stm_pieces.Names.{Code_named}
use Rattle.sem_compile.proofs.stm_pieces.Fitting.{pieces_fit}
use Rattle.law_pieces.proofs.script_pieces.Cells.{takes_cells}
use Rattle.law_pieces.proofs.script_pieces.Statements.{exits_in_loops}
use Rattle.sem_compile.specs.compile.ScriptCode.{Tables, begun_block, BlockLayout, layout_of, code_block, code_of}
use Rattle.sem_compile.specs.compile.Laws.{IsLayoutIn}
use Rattle.sem_compile.proofs.compile.Blocks.{blocks_are_laid_out}
use Rattle.law_pieces.specs.piece_kinds.Table.{Rises}
use Rattle.law_pieces.proofs.piece_kinds.PieceLaw.{is_some_of}
use Rattle.law_pieces.proofs.first_starts.Least.{first_is_least}
use Rattle.law_parts.specs.part_slots.Text.{Code_grammatical, Code_else_apart}
use Rattle.law_parts.specs.part_slots.Laws.{HasParts}
use Rattle.law_parts.proofs.part_slots.Blocks.{have_parts}
use Rattle.law_pieces.proofs.script_code.Begun.{IsBegun, block_begun, stands_whole}
use Rattle.law_typed_pieces.specs.script_tables.Laws.{around_block, block_in, TakesAll}
use Rattle.law_typed_pieces.proofs.script_tables.Tables.{bytes_wide, laid_rise, begins_so}
use Rattle.law_parts.specs.script_parts.Laws.{HasLeastStarts, BlocksHaveParts}

abbrev Has : {V : Type 0} → Stms → (n : ℕ) → Block → CodeObject V → BlockLayout → Type 0
Has ss n k object b = IsBlockOf b.written (code_of ss) (code_block b) → Shows b.written (code_of ss) (code_block b) object → TakesAll ss n (block_in ss b object)
    → HasLeastStarts (around_block ss n) k.code (block_in ss b object)

-- of a block with the layout of its piece over some tables
of_layout : {V : Type 0} (ss : Stms) (n : ℕ) (k : Block) (object : CodeObject V) (t : Tables) → fault_of (places_script ss) ≡ None → slice_get (blocks_script ss) n ≡ Some k
    → Code_named (around_block ss n) k.code → Code_grammatical k.code → Code_else_apart k.code → Has ss n k object (layout_of t (around_block ss n) (names_of ss n) k)
of_layout {V} ss n k object t no_fault is_block named grammatical apart whole shows takes = record { parts = parts; least = least }
  where
    b : BlockLayout
    b = layout_of t (around_block ss n) (names_of ss n) k

    w : Written
    w = b.written

    h : IsBegun (slots_of k.code) (begun_block t (names_of ss n) k)
    h = block_begun t (names_of ss n) k

    rises : Rises (block_in ss b object)
    rises pc i e = laid_rise (code_block b) 0 (instrs_of w) pc i (ap (λ f. f pc) (sym shows.view) ∙ e)

    parts : HasParts (around_block ss n) k.code (code_block b).starts (block_in ss b object)
    parts = have_parts (around_block ss n) k.code object (code_block b).starts (block_in ss b object) (takes_cells {V = Unit {0}} tt ss n) takes named (λ pc. refl) rises
        (subst (λ m. Piece_at object (code_block b).starts (code_piece (around_block ss n) k.code) [] (outermost (slots_of k.code)) 0 m) (sym (bytes_wide w w.instrs))
        (stands_whole (code_piece (around_block ss n) k.code) (slots_of k.code) (begun_block t (names_of ss n) k) (code_of ss) (code_block b) object
        h (pieces_fit (around_block ss n) k.code (takes_cells {V = Unit {0}} tt ss n) (exits_in_loops ss n k no_fault is_block) named) whole shows))
        (begins_so k.code) grammatical apart

    least : (line : ℕ) (u : Target) (e : on_line line (starts_of k.code) ≡ Some u) → (let s = parts.statements line u e in IsLeast (Starts (block_in ss b object) line) s.place)
    least line u e =
        let s = parts.statements line u e in record {
          holds = record { kinds = s.kinds; gets = s.gets; listed = s.listed };
          least = λ pc l z. first_is_least (code_piece (around_block ss n) k.code) h.texts h.constants h.lists h.locals h.cells h.free (slots_of k.code) (code_of ss) (code_block b) object
              (block_in ss b object)
              (subst (λ v. IsBlockOf (layout (code_piece (around_block ss n) k.code) [] v) (code_of ss) (code_block b)) h.is whole)
              (subst (λ v. Shows (layout (code_piece (around_block ss n) k.code) [] v) (code_of ss) (code_block b) object) h.is shows)
              (λ pc. refl) rises refl line s.place s.first pc l z;
        }

pub blocks_have_parts : {V : Type 0} → BlocksHaveParts V
blocks_have_parts {V} ss n k b object no_fault is_block is_layout shows named takes grammatical apart =
    subst (Has ss n k object) (sym (laid.is ∙ ap (layout_of laid.tables (around_block ss n) (names_of ss n)) same_block))
    (of_layout ss n k object laid.tables no_fault is_block named grammatical apart) laid.whole shows takes
  where
    laid : IsLayoutIn ss n b
    laid = blocks_are_laid_out ss n b is_layout

    same_block : laid.block ≡ k
    same_block = is_some_of (sym laid.is_block ∙ is_block)
