-- What the writer has behind all of a block.
use Rattle.std.specs.Prelude.{ℕ, Bool, List, [], false}
use Rattle.pt_tree.specs.Syntax as S
use Rattle.pt_tree.specs.Syntax.{Exp, Stm, Stms}
use Rattle.pt_tree.specs.Blocks.{Code, is_string}
use Rattle.pt_tree.specs.Fold.{ClauseOf}
use Rattle.pt_instr.specs.declared.Instr.TheVariants as instr
use Rattle.pt_block_names.specs.declared.block_names.BlockNames.{BlockNames}
use Rattle.pt_assembler.specs.declared.operation.Label.{Label}
use Rattle.pt_assembler.specs.declared.operation.Jump.TheVariants.{Always}
use Rattle.pt_assembler.specs.declared.operation.Operation.TheVariants.{Plain, To}
use Rattle.pt_assembler.specs.Layout.{Written, layout, put, new_label, next_label, bind}
use Rattle.pt_expr_forms.specs.declared.comprehension.Innermost.{Innermost}
use Rattle.pt_expr_forms.specs.Behind.{known, no_value, plain_act}
use Rattle.pt_expr_forms.specs.Loops.{behind_clauses, behind_turn, last_loop}
use Rattle.pt_write_ops.specs.sem_compile.stm_pieces.Needed.{free}
use Rattle.pt_write_ops.specs.sem_compile.stm_pieces.StmPiece.{code_piece}
use Rattle.pt_stm_forms.specs.Simple.{behind_value}
use Rattle.pt_stm_forms.specs.Compound.{behind_suite}

-- a block as its piece is laid out
unfoldable pub behind_code : BlockNames → Code → Written → Written
behind_code b c w = layout (code_piece (known b) c) [] w

-- None is given at its end
abbrev pub returned_none : Written → Written
returned_none w = put (Plain instr.Return) (no_value w)

abbrev pub behind_statements : BlockNames → Stms → Written → Written
behind_statements b ss w = returned_none (behind_suite b ss free w)

abbrev pub behind_lambda : BlockNames → Exp → (l : ℕ) → Written → Written
behind_lambda b e l w = plain_act instr.Return l false (behind_value b e w)

-- an item is given on, and what is sent for it is dropped (6.2.9.1)
abbrev pub behind_yielded : BlockNames → Exp → (head : Label) → (l : ℕ) → Written → Written
behind_yielded b e head l w = put (To Always head) (plain_act instr.Pop l false (plain_act instr.Yield l false (behind_value b e w)))

-- the first loop goes over the iterator with which the block begins (6.2.8)
abbrev pub outermost : Label → Innermost
outermost head = record { head = head; loops = 1 }

abbrev pub behind_outermost : BlockNames → ClauseOf → (l : ℕ) → Written → Written
behind_outermost b c l w = behind_turn b [] c (next_label w) l (new_label w)

abbrev pub behind_generator : BlockNames → Exp → ClauseOf → (rest : List ClauseOf) → (l : ℕ) → Written → Written
behind_generator b e c cs l w = returned_none (bind (next_label w)
    (behind_yielded b e (last_loop b [] cs l (outermost (next_label (new_label w))) (behind_outermost b c l w)).head l
    (behind_clauses b [] cs l (outermost (next_label (new_label w))) (behind_outermost b c l w))))

-- a documentation string, where a function begins with it (8.7)
abbrev pub is_docstring : Stm → Bool
is_docstring (S.expr l e) = is_string e
is_docstring st = false
