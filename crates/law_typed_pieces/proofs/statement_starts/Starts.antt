-- Each start in a piece that stands in code is in the table, and an instruction stands there.
use Rattle.std.proofs.Common.{◌≡◌, ℕ, true, false, List, [], ◌∷◌, None}
use Rattle.pt_tree.specs.Syntax.{Stms}
use Rattle.pt_tree.specs.Blocks as B
use Rattle.pt_tree.specs.Blocks.{Code, function_body}
use Rattle.pt_instr.specs.declared.Instr.TheVariants as instr
use Rattle.pt_code.specs.declared.Start.{Start}
use Rattle.sem_control.specs.control.Turn.{Around}
use Rattle.sem_control.specs.control.Jump.{starts_of}
use Rattle.sem_code.specs.slots.CodeObject.{CodeObject}
use Rattle.pt_assembler.specs.declared.operation.Target.{Target}
use Rattle.pt_assembler.specs.Piece as P
use Rattle.pt_assembler.specs.Piece.{Piece, pick}
use Rattle.pt_assembler.specs.PieceAt.{target, start_of, Context, in_loop, under, over, row_of, Piece_at}
use Rattle.sem_fits.specs.fits.Block.{Block}
use Rattle.law_operands.specs.law_files.sem_compile.stm_pieces.Needed.{free}
use Rattle.law_operands.specs.law_files.sem_compile.stm_pieces.Laws.{outermost, slots_of}
use Rattle.law_operands.specs.law_files.sem_compile.stm_pieces.StmPiece.{all_piece, block_piece, lambda_piece, generator_piece, code_piece}
use Rattle.law_typed_pieces.proofs.typed_pieces.Tables.{lambda_plain, generator_plain}
use Rattle.law_typed_pieces.proofs.start_lines.Lines.{EachLine, plain_lines}
use Rattle.law_typed_pieces.proofs.leave_targets.Targets.{Holds, holds, front}
use Rattle.law_typed_pieces.specs.statement_starts.Laws.{HasStart, StatementsHaveStarts}
use Rattle.law_typed_pieces.proofs.statement_starts.Walk.{on_first, in_code}

module _ {V : Type 0} (code : CodeObject V) (starts : List Start) (b : Block) (same : (pc : ℕ) → code.at pc ≡ b.at pc) where
  abbrev HasStarts : Piece → Type 0
  HasStarts p = EachLine (HasStart b starts) p

  -- where an instruction stands behind a piece
  in_piece : (p : Piece) (L : List Target) (x : Context) (from to : ℕ) → Piece_at code starts p L x from to → Holds b to → HasStarts p
  in_piece P.empty L x from to s h = tt
  in_piece (P.act op n l g) L x from to s h = tt
  in_piece (P.move op) L x from to s h = tt
  in_piece (P.seq a d) L x from to (m, s, t) h = (in_piece a L x from m s (front code starts b same d L x m to t h), in_piece d L x m to t h)
  in_piece (P.block q) L x from to s h = in_piece q (target to x.depth ∷ L) x from to s h
  in_piece (P.headed q) L x from to s h = in_piece q (target from x.depth ∷ L) x from to s h
  in_piece (P.closed q) L x from to s h = in_piece q [] x from to s h
  in_piece (P.looped k q) L x from to (u, v, s) h = in_piece q [] (in_loop (pick start_of L k) to x) from to s h
  in_piece (P.leave e n l) L x from to s h = tt
  in_piece (P.ensured q) L x from to (u, (m, s, t)) h =
      in_piece q [] (under (row_of from to to x.depth true) x) from m s
      (holds code starts b same (row_of from to to x.depth true ∷ x.rows) instr.Normal None m to t)
  in_piece (P.caught q r) L x from to (m, s, t) h =
      (in_piece q [] (under (row_of from m to x.depth false) x) from m s (front code starts b same r L x m to t h), in_piece r L x m to t h)
  in_piece (P.deeper k q) L x from to s h = in_piece q L (over k x) from to s h
  in_piece (P.started l q) L x from to (u, s) h =
      (record { place = from; listed = u; stands = front code starts b same q L x from to s h }, in_piece q L x from to s h)
  in_piece (P.numbered n q) L x from to s h = in_piece q L x from to s h

  module _ {A : Type 0} (around : Around A) where
    in_statements : (ss : Stms) → Piece_at code starts (block_piece around ss) [] (outermost 0) 0 b.size → HasStarts (block_piece around ss)
    in_statements ss (m, u, (k, (j, i, v), t)) =
        (in_piece (all_piece around ss 0 free) [] (outermost 0) 0 m u (holds code starts b same [] j None m k v), (tt, tt))

    of_code : (c : Code) → Piece_at code starts (code_piece around c) [] (outermost (slots_of c)) 0 b.size → HasStarts (code_piece around c)
    of_code (B.of_module ss) s = in_statements ss s
    of_code (B.of_function ss) s = in_statements (function_body ss) s
    of_code (B.of_class ss) s = in_statements ss s
    of_code (B.of_lambda l e) s = plain_lines (HasStart b starts) (lambda_piece around l e) (lambda_plain around l e)
    of_code (B.of_generator l e k t cs) s = plain_lines (HasStart b starts) (generator_piece around l e k t cs) (generator_plain around l e k t cs)

pub statements_have_starts : {A V : Type 0} → StatementsHaveStarts A V
statements_have_starts {A} {V} around c code starts b same stands line t e =
    on_first (HasStart b starts) line (starts_of c) t (in_code around (HasStart b starts) c (of_code code starts b same around c stands)) e
