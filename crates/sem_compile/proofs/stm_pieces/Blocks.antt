-- The code of blocks from their pieces.
use Rattle.std.proofs.Common.{ℕ, ◌+◌, false, List, [], ◌∷◌, None}
use Rattle.pt_tree.specs.Syntax.{Exp, Tgt, Clauses, Stms}
use Rattle.pt_tree.specs.Sizes.{size, target_size}
use Rattle.pt_tree.specs.Blocks as B
use Rattle.pt_tree.specs.Blocks.{function_body}
use Rattle.pt_instr.specs.declared.Instr.TheVariants as instr
use Rattle.pt_code.specs.declared.Start.{Start}
use Rattle.sem_control.specs.control.Turn.{Around}
use Rattle.sem_code.specs.slots.CodeObject.{CodeObject}
use Rattle.sem_code.specs.slots.Stretches.{act_mark}
use Rattle.pt_assembler.specs.PieceAt.{Piece_at, target}
use Rattle.pt_assembler.proofs.Standing.{stands_where_laid}
use Rattle.sem_compile.specs.emitter.Laws.{Agrees}
use Rattle.sem_compile.proofs.emitter.Doing.{null_given}
use Rattle.sem_code.specs.comp.Places.{Block_at, Lambda_at, Generator_at}
use Rattle.sem_code.proofs.comp.Steps as steps
use Rattle.sem_compile.specs.stm_pieces.Needed.{free}
use Rattle.sem_compile.specs.stm_pieces.StmPiece.{block_piece, lambda_piece, generator_piece, code_piece}
use Rattle.sem_compile.specs.stm_pieces.Laws.{outermost, KnowsTruths, Code_at, slots_of, BlocksAreCode, BlocksBegin}
use Rattle.sem_compile.proofs.stm_pieces.Targets.{same_instr, exp, tgt, clauses}
use Rattle.sem_compile.proofs.stm_pieces.Statements.{statements_are_code}

module _ {V : Type 0} (block : Around V) (code : CodeObject V) (starts : List Start) (agree : Agrees block code) (truths : KnowsTruths code) where
  of_statements : (ss : Stms) (to : ℕ) → Piece_at code starts (block_piece block ss) [] (outermost 0) 0 to → Block_at block code starts ss
  of_statements ss to (end, a, (mid, (j, i, h), (j', i', h'))) = (
    end,
    to,
    statements_are_code block code starts agree truths ss 0 free [] (outermost 0) 0 end a,
    (mid, null_given block code [] [] agree.null end mid j i h, same_instr block code starts agree (outermost 0) instr.Return j' None mid to i' h'),
  )

  of_lambda : (l : ℕ) (e : Exp) (to : ℕ) → Piece_at code starts (lambda_piece block l e) [] (outermost 0) 0 to → Lambda_at block code l e
  of_lambda l e to (mid, a, (j, i, h)) = (
    to,
    (
      mid,
      exp block code starts agree (outermost 0) e 0 false [] [] 0 mid a,
      same_instr block code starts agree (outermost 0) instr.Return j (act_mark mid (size e) l false) mid to i h,
    ),
  )

  of_generator : (l : ℕ) (e : Exp) (k : ℕ) (t : Tgt) (cs : Clauses) (to : ℕ) → Piece_at code starts (generator_piece block l e k t cs) [] (outermost 1) 0 to
      → Generator_at block code l e k t cs
  of_generator l e k t cs to (end, (m1, (j, i, h), (m2, b, c)), (mid, (j', i', h'), (j'', i'', h''))) = (
    end,
    end,
    to,
    (
      m1,
      same_instr block code starts agree (outermost 1) _ j (act_mark 0 0 k false) 0 m1 i h,
      (
        m2,
        tgt block code starts agree (outermost 1) t (0 + 1) [] [] m1 m2 b,
        clauses block code starts agree (outermost 1) cs e l (0 + 1 + target_size t) 1 0 1 (target end 1 ∷ []) m2 end c,
      ),
    ),
    (mid, null_given block code [] [] agree.null end mid j' i' h', same_instr block code starts agree (outermost 1) instr.Return j'' None mid to i'' h''),
  )

  of_code : (c : B.Code) (to : ℕ) → Piece_at code starts (code_piece block c) [] (outermost (slots_of c)) 0 to → Code_at block code starts c
  of_code (B.of_module ss) to h = of_statements ss to h
  of_code (B.of_function ss) to h = of_statements (function_body ss) to h
  of_code (B.of_class ss) to h = of_statements ss to h
  of_code (B.of_lambda l e) to h = of_lambda l e to h
  of_code (B.of_generator l e k t cs) to h = of_generator l e k t cs to h

pub blocks_are_code : {V : Type 0} → BlocksAreCode V
blocks_are_code {V} around c texts constants lists locals cells frees code block object fits is shows agree truths =
    of_code around object block.starts agree truths c _
    (stands_where_laid (code_piece around c) texts constants lists locals cells frees (slots_of c) code block object fits is shows)

pub blocks_begin : {V : Type 0} → BlocksBegin V
blocks_begin {V} around object starts (B.of_module ss) h = steps.blocks_begin around object starts ss h
blocks_begin {V} around object starts (B.of_function ss) h = steps.blocks_begin around object starts (function_body ss) h
blocks_begin {V} around object starts (B.of_class ss) h = steps.blocks_begin around object starts ss h
blocks_begin {V} around object starts (B.of_lambda l e) h = steps.lambdas_begin around object l e h
blocks_begin {V} around object starts (B.of_generator l e k t cs) h = λ i. steps.generators_begin around object l e k t cs i h
