-- The statements of a script start in their parts, and code goes on there as control does.
use Rattle.std.proofs.Common.{◌≡◌, ℕ, false, [], Option, Some, None, refl, sym, ap, ◌∙◌, subst}
use Rattle.pt_tree.specs.Syntax.{Stms}
use Rattle.pt_tree.specs.Blocks.{Block}
use Rattle.pt_scopes.specs.Mentions.{places_script}
use Rattle.pt_scopes.specs.Refusals.{fault_of}
use Rattle.pt_code.specs.declared.CodeBlock.{CodeBlock}
use Rattle.sem_control.specs.control.Turn.{Around}
use Rattle.sem_control.specs.control.Frames.{stms}
use Rattle.sem_control.specs.control.Jump as J
use Rattle.sem_control.specs.control.Jump.{Target, starts_of, on_line}
use Rattle.sem_code.specs.slots.CodeObject.{CodeObject}
use Rattle.pt_assembler.specs.Piece.{Piece}
use Rattle.pt_assembler.specs.Layout.{Written, at, instrs_of, layout}
use Rattle.pt_assembler.specs.Laws.{IsBlockOf, Shows}
use Rattle.pt_assembler.specs.PieceAt.{Piece_at, Fits}
use Rattle.sem_names.specs.Around.{around_of, names_of}
use Rattle.sem_fits.specs.fits.Block as F
use Rattle.sem_compile.specs.stm_pieces.Names.{Code_named}
use Rattle.sem_compile.specs.stm_pieces.Laws.{outermost, slots_of}
use Rattle.sem_compile.specs.stm_pieces.StmPiece.{code_piece}
use Rattle.sem_compile.proofs.stm_pieces.Fitting.{pieces_fit}
use Rattle.law_pieces.proofs.script_pieces.Cells.{takes_cells}
use Rattle.law_pieces.proofs.script_pieces.Statements.{exits_in_loops}
use Rattle.law_pieces.proofs.script_code.Begun.{block_begun, stands_whole}
use Rattle.law_typed_pieces.proofs.law_operands.piece_names.Script.{names_are_found}
use Rattle.law_pieces.specs.piece_kinds.Table.{next_of, Rises}
use Rattle.sem_compile.specs.compile.ScriptCode.{begun_block, code_block, code_of}
use Rattle.sem_compile.specs.compile.Laws.{IsLayoutIn}
use Rattle.sem_compile.proofs.compile.Blocks.{blocks_are_laid_out}
use Rattle.law_typed_pieces.proofs.script_tables.Tables.{laid_rise}
use Rattle.law_pieces.specs.first_starts.First.{first_start}
use Rattle.law_code_runs.specs.code_run.Parts.{endings_of}
use Rattle.sem_code.specs.comp.Law.{Way_on}
use Rattle.law_code_runs.specs.code_follows.Laws.{HasItsFreeNames, HasObject}
use Rattle.law_code_runs.proofs.code_follows.Objects.{code_same, shows}
use Rattle.law_code_runs.proofs.code_follows.Agreement.{agrees, free_names_have_cells}
use Rattle.law_parts.specs.part_slots.Text.{Code_grammatical, Code_else_apart}
use Rattle.law_typed_pieces.specs.script_tables.Laws.{block_in}
use Rattle.law_jumps.specs.start_nests.Loops.{ending_in, loops_of_code}
use Rattle.law_jumps.specs.start_nests.Laws.{own_ending, ScriptStartsInParts}
use Rattle.law_jumps.proofs.start_nests.Blocks.{Goes_on, starts_go_on}

is_some : (j k : Block) (o : Option Block) → o ≡ Some j → o ≡ Some k → j ≡ k
is_some j k o e f = let there : Some j ≡ Some k = sym e ∙ f in cc

module _ {V : Type 0} (null : V) (ss : Stms) (n : ℕ) (block : Block) (object : CodeObject V) (no_fault : fault_of (places_script ss) ≡ None)
    (keeps : HasItsFreeNames ss)
    (has : HasObject null ss n block object) where
  abbrev around : Around V
  around = around_of null ss n

  abbrev piece : Piece
  piece = code_piece (around_of {V = Unit {0}} tt ss n) block.code

  abbrev code : CodeBlock
  code = code_block has.layout

  abbrev own : F.Block
  own = block_in ss has.layout object

  laid : IsLayoutIn ss n has.layout
  laid = blocks_are_laid_out ss n has.layout has.is_layout

  abbrev first : Written
  first = begun_block laid.tables (names_of ss n) block

  written : has.layout.written ≡ layout piece [] first
  written = ap (λ l. l.written) laid.is
      ∙ ap (λ (k : Block). layout (code_piece (around_of {V = Unit {0}} tt ss n) k.code) [] (begun_block laid.tables (names_of ss n) k))
      (is_some laid.block block _ laid.is_block has.is_block)

  named : Code_named around block.code
  named = names_are_found null ss n block has.is_block has.plain

  fits : Fits piece [] false
  fits = subst (λ p. Fits p [] false) (code_same null ss n block.code)
      (pieces_fit around block.code (takes_cells null ss n) (exits_in_loops ss n block no_fault has.is_block) named)

  stands : Piece_at object code.starts piece [] (outermost (slots_of block.code)) 0 (at (layout piece [] first))
  stands = stands_whole piece (slots_of block.code) first (code_of ss) code object (block_begun laid.tables (names_of ss n) block) fits
      (subst (λ w. IsBlockOf w (code_of ss) code) written laid.whole) (subst (λ w. Shows w (code_of ss) code object) written (shows null ss n block object has))

  stands_so : Piece_at object code.starts (code_piece around block.code) [] (outermost (slots_of block.code)) 0 (at (layout piece [] first))
  stands_so = subst (λ p. Piece_at object code.starts p [] (outermost (slots_of block.code)) 0 (at (layout piece [] first)))
      (sym (code_same null ss n block.code)) stands

  -- from its first place to its end
  pub stands_in_whole : Piece_at object code.starts (code_piece around block.code) [] (outermost (slots_of block.code)) 0 (at has.layout.written)
  stands_in_whole = subst (λ w. Piece_at object code.starts (code_piece around block.code) [] (outermost (slots_of block.code)) 0 (at w)) (sym written) stands_so

  pub rises : Rises own
  rises pc i e =
      let s = shows null ss n block object has in laid_rise code 0 (instrs_of has.layout.written) pc i (ap (λ f. f pc) (sym s.view) ∙ e)

  -- a statement starts at its place
  goes_on : Code_grammatical block.code → Code_else_apart block.code → (line : ℕ) (t : Target) (place : ℕ) → on_line line (starts_of block.code) ≡ Some t
      → first_start (next_of own) line piece 0 ≡ Some place
      → Goes_on around object code.starts own (λ pc. refl) rises
      (agrees ss keeps null n block has.layout object has.is_block has.is_layout has.same_null has.is_object.pool)
      has.knows_truths (takes_cells null ss n) (λ m. free_names_have_cells ss n m keeps) (ending_in (loops_of_code around (next_of own) block.code)) t place
  goes_on g d line t place e f =
      starts_go_on around object code.starts own (λ pc. refl) rises
      (agrees ss keeps null n block has.layout object has.is_block has.is_layout has.same_null has.is_object.pool)
      has.knows_truths (takes_cells null ss n) (λ m. free_names_have_cells ss n m keeps) block.code
      (at (layout piece [] first)) named g d stands_so line t place e
      (ap (λ p. first_start (next_of own) line p 0) (code_same null ss n block.code) ∙ f)

pub script_starts_in_parts : {V : Type 0} → ScriptStartsInParts V
script_starts_in_parts {V} null ss source code b no_fault keeps of parts g d line t e =
    let first : on_line line (starts_of of.block.code) ≡ Some t = ap (λ c. on_line line (starts_of c)) (sym of.same_code) ∙ e in
    let s = parts.parts.statements line t first in
    let h = goes_on null ss of.number of.block (code.object b) no_fault keeps of.has_object g d line t s.place first s.first in
    let f = h.front in
    record {
      stands = record {
        place = s.place;
        surroundings = h.surroundings;
        endings = endings_of (own_ending null ss source code b of) (J.parts t.within);
        listed = h.listed;
        goes_on = λ n σ q. subst (λ (a : Around V). Way_on a (code.object b) (stms t.n t.ss n) h.surroundings σ s.place) (sym of.same_around) (h.goes_on n σ q);
      };
      endings = refl;
      least = parts.least line t first;
      kinds = s.kinds;
      gets = s.gets;
      fills = s.fills;
      around = s.around_place;
      ins = f.ins;
      there = f.there;
      under = f.under;
    }
