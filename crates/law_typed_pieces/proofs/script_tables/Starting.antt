-- The starts of each block of a script have statements.
use Rattle.std.proofs.Common.{◌≡◌, ℕ, [], Contains, None, sym, ap, ◌∙◌, subst}
use Rattle.pt_tree.specs.Syntax.{Stms}
use Rattle.pt_tree.specs.Blocks.{Block}
use Rattle.sem_control.specs.control.Jump.{starts_of, on_line}
use Rattle.sem_code.specs.slots.CodeObject.{CodeObject}
use Rattle.pt_assembler.specs.Layout.{layout}
use Rattle.sem_names.specs.Around.{names_of}
use Rattle.sem_fits.specs.fits.Jumps.{Starts}
use Rattle.law_operands.specs.law_files.sem_compile.stm_pieces.Laws.{slots_of}
use Rattle.law_operands.specs.law_files.sem_compile.stm_pieces.StmPiece.{code_piece}
use Rattle.law_operands.specs.law_files.sem_compile.compile.ScriptCode.{Tables, begun_block, layout_of}
use Rattle.law_operands.specs.law_files.sem_compile.compile.Laws.{IsLayoutIn}
use Rattle.law_operands.proofs.law_files.sem_compile.compile.Blocks.{blocks_are_laid_out}
use Rattle.law_pieces.proofs.piece_kinds.PieceLaw.{is_some_of}
use Rattle.law_typed_pieces.proofs.start_lines.Pieces.{starts_have_statements}
use Rattle.law_pieces.proofs.script_code.Begun.{IsBegun, block_begun}
use Rattle.law_typed_pieces.specs.script_tables.Laws.{around_block, block_in, StartsHaveStatements}

of_layout : {V : Type 0} (ss : Stms) (n : ℕ) (k : Block) (object : CodeObject V) (t : Tables) (line pc : ℕ) → on_line line (starts_of k.code) ≡ None
    → Starts (block_in ss (layout_of t (around_block ss n) (names_of ss n) k) object) line pc → ⊥
of_layout ss n k object t line pc none s =
    let h : IsBegun (slots_of k.code) (begun_block t (names_of ss n) k) = block_begun t (names_of ss n) k in
    starts_have_statements (around_block ss n) k.code h.texts h.constants h.lists h.locals h.cells h.free pc line
    (subst (λ w. Contains (layout (code_piece (around_block ss n) k.code) [] w).starts (record { pc = record { 0 = pc }; line = record { 0 = line } })) h.is s.listed) none

pub script_starts_have_statements : {V : Type 0} → StartsHaveStatements V
script_starts_have_statements {V} ss n k b object line pc is_block is_layout none s =
    of_layout ss n k object laid.tables line pc none
    (subst (λ z. Starts (block_in ss z object) line pc) (laid.is ∙ ap (layout_of laid.tables (around_block ss n) (names_of ss n)) same_block) s)
  where
    laid : IsLayoutIn ss n b
    laid = blocks_are_laid_out ss n b is_layout

    same_block : laid.block ≡ k
    same_block = is_some_of (sym laid.is_block ∙ is_block)
