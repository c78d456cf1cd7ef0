-- The pieces of blocks are typed.
use Rattle.std.proofs.Common.{◌≡◌, ℕ, [], length}
use Rattle.pt_tree.specs.Blocks as B
use Rattle.pt_tree.specs.Blocks.{function_body}
use Rattle.pt_tree.specs.Syntax.{Stms}
use Rattle.sem_control.specs.control.Turn.{Around}
use Rattle.sem_fits.specs.fits.Block.{Block}
use Rattle.law_operands.specs.law_files.sem_compile.stm_pieces.Names.{TakesCells, All_named}
use Rattle.law_operands.specs.law_files.sem_compile.stm_pieces.StmPiece.{block_piece}
use Rattle.law_pieces.specs.piece_kinds.Table.{next_of}
use Rattle.law_pieces.specs.piece_kinds.Laws.{outermost}
use Rattle.law_typed_pieces.specs.typed_pieces.Laws.{IsWhole, PiecesAreTyped}
use Rattle.law_typed_pieces.proofs.typed_pieces.Statements.{ended, lambda_ended, generator_ended}

module _ {V : Type 0} (around : Around V) (b : Block) (cells : TakesCells around) (captures : (n : ℕ) → b.links.captures n ≡ length (around.captured n)) where
  statements : (ss : Stms) → All_named around ss 0 → IsWhole b (block_piece around ss) []
  statements ss h =
      let f = ended around b.links (next_of b) cells captures ss h {c = outermost} {Ls = []} {base = []} {from = 0} in let g = f.goes in record { typed = g.typed; ends = g.behind }

pub pieces_are_typed : {V : Type 0} → PiecesAreTyped V
pieces_are_typed {V} around b cells captures (B.of_module ss) h = statements around b cells captures ss h
pieces_are_typed {V} around b cells captures (B.of_function ss) h = statements around b cells captures (function_body ss) h
pieces_are_typed {V} around b cells captures (B.of_class ss) h = statements around b cells captures ss h
pieces_are_typed {V} around b cells captures (B.of_lambda l e) h =
    let f = lambda_ended around b.links (next_of b) cells captures l e h {c = outermost} {Ls = []} {base = []} {from = 0} in let g = f.goes in record { typed = g.typed; ends = g.behind }
pieces_are_typed {V} around b cells captures (B.of_generator l e k t cs) h =
    let f = generator_ended around b.links (next_of b) cells captures l e k t cs h.0 h.1 {c = outermost} {from = 0} in let g = f.goes in record { typed = g.typed; ends = g.behind }
