-- The machine of a script's code knows its acts.
use Rattle.std.proofs.Common.{◌≡◌, ℕ, false, [], length, Option, Some, None, sym, ap, ◌∙◌, subst}
use Rattle.pt_tree.specs.Syntax.{Stms}
use Rattle.pt_tree.specs.Blocks.{Block, acts_of_code}
use Rattle.pt_scopes.specs.Mentions.{places_script}
use Rattle.pt_scopes.specs.Refusals.{fault_of}
use Rattle.sem_control.specs.control.Laws.{IsActOrEnd}
use Rattle.pt_code.specs.declared.CodeBlock.{CodeBlock}
use Rattle.sem_code.specs.slots.CodeObject.{CodeObject}
use Rattle.sem_code.specs.slots.Machine as slots
use Rattle.sem_code.specs.slots.Destinations.{unhindered}
use Rattle.pt_assembler.specs.Piece.{Piece}
use Rattle.pt_assembler.specs.Layout.{Written, at, instrs_of, layout, marks_from}
use Rattle.pt_assembler.specs.Laws.{IsBlockOf, Shows}
use Rattle.pt_assembler.specs.PieceAt.{Piece_at, Fits}
use Rattle.sem_names.specs.Around.{around_of, names_of}
use Rattle.sem_compile.specs.stm_pieces.Laws.{outermost, slots_of}
use Rattle.sem_compile.specs.stm_pieces.StmPiece.{code_piece}
use Rattle.sem_compile.proofs.stm_pieces.Fitting.{pieces_fit}
use Rattle.law_pieces.proofs.script_pieces.Cells.{takes_cells}
use Rattle.law_pieces.proofs.script_pieces.Statements.{exits_in_loops}
use Rattle.law_pieces.proofs.script_code.Begun.{IsBegun, block_begun, stands_whole}
use Rattle.law_typed_pieces.proofs.law_operands.piece_names.Script.{names_are_found}
use Rattle.sem_compile.specs.compile.ScriptCode.{begun_block, code_block, code_of}
use Rattle.sem_compile.specs.compile.Laws.{IsLayoutIn}
use Rattle.sem_compile.proofs.compile.Blocks.{blocks_are_laid_out}
use Rattle.sem_code.specs.silent_turns.Ahead.{GoesAhead, turns_to_act}
use Rattle.sem_code.proofs.silent_turns.Rest.{comes_to_rest}
use Rattle.law_pieces.proofs.forward_pieces.InOrder.{bytes_wide, in_order}
use Rattle.law_pieces.proofs.forward_pieces.Places.{pieces_go_ahead}
use Rattle.law_pieces.proofs.forward_pieces.Statements.{pieces_go_forward}
use Rattle.law_pieces.specs.piece_acts.Counting.{acts_in}
use Rattle.law_pieces.proofs.piece_acts.Marks.{marks_tell_acts}
use Rattle.law_code_runs.specs.code_follows.Laws.{HasObject}
use Rattle.law_code_runs.proofs.code_run.Following.{has_the_runs}
use Rattle.law_code_runs.proofs.code_follows.Objects.{code_same, script_has_its_code, shows}
use Rattle.law_jumps.specs.script_acts.Laws.{ScriptKnowsItsActs, ScriptsRunAsTheirCode}
use Rattle.law_jumps.proofs.script_acts.Coming.{comes_to_act}

is_some : (j k : Block) (o : Option Block) → o ≡ Some j → o ≡ Some k → j ≡ k
is_some j k o e f = let there : Some j ≡ Some k = sym e ∙ f in cc

module _ {V : Type 0} (null : V) (ss : Stms) (n : ℕ) (block : Block) (object : CodeObject V) (none : fault_of (places_script ss) ≡ None)
    (has : HasObject null ss n block object) where
  abbrev piece : Piece
  piece = code_piece (around_of {V = Unit {0}} tt ss n) block.code

  abbrev code : CodeBlock
  code = code_block has.layout

  laid : IsLayoutIn ss n has.layout
  laid = blocks_are_laid_out ss n has.layout has.is_layout

  abbrev first : Written
  first = begun_block laid.tables (names_of ss n) block

  written : has.layout.written ≡ layout piece [] first
  written = ap (λ l. l.written) laid.is
      ∙ ap (λ (k : Block). layout (code_piece (around_of {V = Unit {0}} tt ss n) k.code) [] (begun_block laid.tables (names_of ss n) k))
      (is_some laid.block block _ laid.is_block has.is_block)

  begins : IsBegun (slots_of block.code) first
  begins = block_begun laid.tables (names_of ss n) block

  fits : Fits piece [] false
  fits = subst (λ p. Fits p [] false) (code_same null ss n block.code)
      (pieces_fit (around_of null ss n) block.code (takes_cells null ss n) (exits_in_loops ss n block none has.is_block)
      (names_are_found null ss n block has.is_block has.plain))

  stands : Piece_at object code.starts piece [] (outermost (slots_of block.code)) 0 (at (layout piece [] first))
  stands = stands_whole piece (slots_of block.code) first (code_of ss) code object begins fits (subst (λ w. IsBlockOf w (code_of ss) code) written laid.whole)
      (subst (λ w. Shows w (code_of ss) code object) written (shows null ss n block object has))

  size_is : at (layout piece [] first) ≡ length code.instructions
  size_is = ap (λ w. at w) (sym written) ∙ sym (bytes_wide has.layout.written has.layout.written.instrs)

  goes : GoesAhead object (length code.instructions)
  goes = pieces_go_ahead object code.starts piece (slots_of block.code) (length code.instructions) (pieces_go_forward (around_of {V = Unit {0}} tt ss n) block.code)
      (in_order object code (instrs_of has.layout.written) (shows null ss n block object has).view)
      (subst (λ m. Piece_at object code.starts piece [] (outermost (slots_of block.code)) 0 m) size_is stands)

  count_is : acts_in code.marks ≡ length (acts_of_code block.code)
  count_is = ap (λ w. acts_in (marks_from 0 w.instrs)) (written ∙ ap (λ w. layout piece [] w) begins.is)
      ∙ marks_tell_acts (around_of {V = Unit {0}} tt ss n) block.code begins.texts begins.constants begins.lists begins.locals begins.cells begins.free (slots_of block.code)

pub script_knows_its_acts : {V : Type 0} → ScriptKnowsItsActs V
script_knows_its_acts null ss source code b none of told = record {
  same_count = ap (λ c. length (acts_of_code c)) of.same_code
      ∙ (sym (count_is null ss of.number of.block (code.object b) none of.has_object) ∙ sym told.acts);
  enough = λ c t r h.
      let size = length (code_block of.has_object.layout).instructions in
      subst (λ n. IsActOrEnd (slots.turn (code.object b) (unhindered (code.object b) n t))) (sym (told.most_turns t))
      (comes_to_act (source.around b) (code.object b) (turns_to_act size t) c t h
      (comes_to_rest (code.object b) size (goes null ss of.number of.block (code.object b) none of.has_object) t));
}

pub scripts_run_as_their_code : {D N V W : Type 0} → ScriptsRunAsTheirCode D N V W
scripts_run_as_their_code null ss source code none keeps theirs parts =
    has_the_runs source code (script_has_its_code null ss source code none keeps (λ b. let t = theirs b in t.of_script)) parts
    (λ b. let t = theirs b in script_knows_its_acts null ss source code b none t.of_script t.is_told)
