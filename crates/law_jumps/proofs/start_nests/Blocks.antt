-- From the start of each statement that is the first on its line code goes on as the statement's nest does.
use Rattle.std.proofs.Common.{◌≡◌, ℕ, List, [], length, Option, Some, None, refl, sym, subst}
use Rattle.pt_tree.specs.Syntax.{Stms}
use Rattle.pt_tree.specs.Blocks as B
use Rattle.pt_tree.specs.Blocks.{Code, function_body}
use Rattle.pt_instr.specs.declared.Instr.TheVariants as instr
use Rattle.pt_code.specs.declared.Start.{Start}
use Rattle.sem_control.specs.control.Turn.{Around}
use Rattle.sem_control.specs.control.Jump as J
use Rattle.sem_control.specs.control.Jump.{starts, starts_of, on_line}
use Rattle.sem_code.specs.slots.CodeObject.{CodeObject}
use Rattle.pt_assembler.specs.PieceAt.{Piece_at}
use Rattle.sem_compile.specs.emitter.Laws.{Agrees}
use Rattle.sem_compile.proofs.emitter.Doing.{null_given}
use Rattle.sem_code.specs.comp.Surroundings.{Surroundings}
use Rattle.sem_fits.specs.fits.Block.{Block}
use Rattle.sem_compile.specs.stm_pieces.Needed.{free}
use Rattle.sem_compile.specs.stm_pieces.StmPiece.{block_piece, code_piece}
use Rattle.sem_compile.specs.stm_pieces.Names.{TakesCells, All_named, Code_named}
use Rattle.sem_compile.specs.stm_pieces.Laws.{outermost, slots_of, KnowsTruths}
use Rattle.sem_compile.proofs.stm_pieces.Targets as targets
use Rattle.law_pieces.specs.piece_kinds.Table.{next_of, Rises}
use Rattle.law_pieces.proofs.piece_kinds.PieceLaw.{not_both, is_some_of}
use Rattle.law_pieces.specs.first_starts.First.{first_start}
use Rattle.law_parts.specs.part_slots.Text.{All_grammatical, All_else_apart, Code_grammatical, Code_else_apart}
use Rattle.law_jumps.specs.start_nests.Loops.{ending_in, loops_of_all, loops_of_code}
use Rattle.law_jumps.proofs.start_nests.Keys.{block_told}
use Rattle.law_jumps.proofs.start_nests.Nests.{goes_end}
use Rattle.law_jumps.proofs.start_nests.Walks.{GoesOn, Meets, neither, both, Walks, before, all_stand}

module _ {V : Type 0} (around : Around V) (code : CodeObject V) (table : List Start) (b : Block) (same : (pc : ℕ) → code.at pc ≡ b.at pc) (rises : Rises b)
    (agree : Agrees around code) (truths : KnowsTruths code) (cells : TakesCells around)
    (captures : (n : ℕ) → b.links.captures n ≡ length (around.captured n)) where
  abbrev pub Goes_on : (endings : ℕ → Surroundings) → J.Target → ℕ → Type 0
  Goes_on f t place = GoesOn around code table b same rises agree truths cells captures f t place

  met : (f : ℕ → Surroundings) (line : ℕ) (o : Option J.Target) (p : Option ℕ) → Meets around code table b same rises agree truths cells captures f line o p
      → (t : J.Target) (place : ℕ) → o ≡ Some t → p ≡ Some place → Goes_on f t place
  met f line _ _ neither t place e g = not_both (sym e)
  met f line _ _ (both u q h) t place e g = subst (λ v. Goes_on f v place) (is_some_of e) (subst (λ r. Goes_on f u r) (is_some_of g) h)

  of_statements : (ss : Stms) (to : ℕ) → All_named around ss 0 → All_grammatical ss → All_else_apart ss 0 []
      → Piece_at code table (block_piece around ss) [] (outermost 0) 0 to
      → (line : ℕ) (t : J.Target) (place : ℕ) → on_line line (starts ss 0 []) ≡ Some t → first_start (next_of b) line (block_piece around ss) 0 ≡ Some place
      → Goes_on (ending_in (loops_of_all around (next_of b) ss 0 free 0 None 0)) t place
  of_statements ss to named grammatical apart (end, a, (mid, (j, i, h), (j', i', h'))) line t place e g =
      let f = ending_in (loops_of_all around (next_of b) ss 0 free 0 None 0) in
      let w = all_stand around code table b same rises agree truths cells captures f line ss 0 free [] named grammatical apart [] (outermost 0) 0 end a
      (goes_end around code table f (outermost 0) end to refl
      (mid, null_given around code [] [] agree.null end mid j i h, targets.same_instr around code table agree (outermost 0) instr.Return j' None mid to i' h'))
      (block_told around (next_of b) ss) in
      let whole : Walks around code table b same rises agree truths cells captures f line (block_piece around ss) 0 (on_line line (starts ss 0 [])) =
      before around code table b same rises agree truths cells captures f line w (tt, tt) in
      met f line (on_line line (starts ss 0 [])) (first_start (next_of b) line (block_piece around ss) 0) whole.meets t place e g

  pub starts_go_on : (c : Code) (to : ℕ) → Code_named around c → Code_grammatical c → Code_else_apart c
      → Piece_at code table (code_piece around c) [] (outermost (slots_of c)) 0 to
      → (line : ℕ) (t : J.Target) (place : ℕ) → on_line line (starts_of c) ≡ Some t → first_start (next_of b) line (code_piece around c) 0 ≡ Some place
      → Goes_on (ending_in (loops_of_code around (next_of b) c)) t place
  starts_go_on (B.of_module ss) to n g d a line t place e f = of_statements ss to n g d a line t place e f
  starts_go_on (B.of_function ss) to n g d a line t place e f = of_statements (function_body ss) to n g d a line t place e f
  starts_go_on (B.of_class ss) to n g d a line t place e f = of_statements ss to n g d a line t place e f
  starts_go_on (B.of_lambda l x) to n g d a line t place e f = not_both (sym e)
  starts_go_on (B.of_generator l x k y cs) to n g d a line t place e f = not_both (sym e)
