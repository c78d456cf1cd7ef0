-- What the writer has behind each part of a comprehension (6.2.4): its first iterator and what it builds, its turns, and its item.
use Rattle.std.specs.Prelude.{ℕ, suc, List, [], ◌∷◌, ◌++◌, Bool, false}
use Rattle.pt_base.specs.declared.numbers.ActNo.{ActNo}
use Rattle.pt_tree.specs.Syntax as S
use Rattle.pt_tree.specs.Syntax.{Name, Exp, Made}
use Rattle.pt_tree.specs.Fold.{ClauseOf, behind}
use Rattle.pt_instr.specs.declared.Instr.{Instr}
use Rattle.pt_instr.specs.declared.Instr.TheVariants as instr
use Rattle.sem_control.specs.control.Expressions.{target_names, clause_names}
use Rattle.pt_block_names.specs.declared.block_names.BlockNames.{BlockNames}
use Rattle.pt_assembler.specs.declared.operation.Label.{Label}
use Rattle.pt_assembler.specs.declared.operation.Jump.TheVariants.{AtEnd, Always, IfFalse}
use Rattle.pt_assembler.specs.declared.operation.Operation.TheVariants.{Plain, To}
use Rattle.pt_assembler.specs.Piece.{move}
use Rattle.pt_assembler.specs.Layout.{Written, layout, put, new_label, next_label, bind}
use Rattle.pt_write_ops.specs.sem_compile.emitter.Ops.{renew}
use Rattle.pt_expr_forms.specs.declared.comprehension.Built.{Built}
use Rattle.pt_expr_forms.specs.declared.comprehension.Built.TheVariants as built
use Rattle.pt_expr_forms.specs.declared.comprehension.Begun.{Begun}
use Rattle.pt_expr_forms.specs.declared.comprehension.Innermost.{Innermost}
use Rattle.pt_expr_forms.specs.Behind.{known, numbers, plain_act, jump_act, behind_exp, behind_target}

abbrev pub whole : (line : ℕ) → Made → (first : ClauseOf) → (rest : List ClauseOf) → Exp
whole l m c cs = S.comprehension l m c.line c.target c.iterable (behind c cs)

abbrev pub empty_instr : Built → Instr
empty_instr built.List = instr.List 0
empty_instr built.Set = instr.Set 0
empty_instr built.Dict = instr.Dict 0

-- so many slots lie between what is built and the top
abbrev pub addition : Built → (depth : ℕ) → Instr
addition built.List k = instr.ListAdd k
addition built.Set k = instr.SetAdd k
addition built.Dict k = instr.DictAdd k

-- names are made anew
abbrev pub behind_renewal : BlockNames → List ActNo → List Name → Written → Written
behind_renewal b ns [] w = w
behind_renewal b ns (x ∷ xs) w = behind_renewal b ns xs (layout (move (renew ((known b).variable (numbers ns) x))) [] w)

-- the iterator of a clause
unfoldable pub behind_iterator : BlockNames → List ActNo → ClauseOf → (again : Bool) → Written → Written
behind_iterator b ns c g w = plain_act instr.Iter c.line false (behind_exp b ns c.iterable g w)

-- the conditions of a clause; where one doesn't hold, the next item is taken
abbrev pub behind_conditions : BlockNames → List ActNo → List Exp → (head : Label) → (l : ℕ) → Written → Written
behind_conditions b ns [] h l w = w
behind_conditions b ns (e ∷ es) h l w = behind_conditions b ns es h l (jump_act IfFalse h l (behind_exp b ns e false w))

-- a turn: the next item, which is bound to the target, and the conditions
unfoldable pub behind_turn : BlockNames → List ActNo → ClauseOf → (end : Label) → (l : ℕ) → Written → Written
behind_turn b ns c end l w =
    behind_conditions b ns c.conditions (next_label w) l (behind_target b ns c.target (jump_act AtEnd end c.line (new_label w)))

-- the clauses behind the first
abbrev pub last_loop : BlockNames → List ActNo → List ClauseOf → (l : ℕ) → Innermost → Written → Innermost
last_loop b ns [] l i w = i
last_loop b ns (c ∷ cs) l i w =
    last_loop b ns cs l (record { head = next_label (behind_iterator b ns c false w); loops = suc i.loops }) (behind_turn b ns c i.head l (behind_iterator b ns c false w))

abbrev pub behind_clauses : BlockNames → List ActNo → List ClauseOf → (l : ℕ) → Innermost → Written → Written
behind_clauses b ns [] l i w = w
behind_clauses b ns (c ∷ cs) l i w =
    behind_clauses b ns cs l (record { head = next_label (behind_iterator b ns c false w); loops = suc i.loops }) (behind_turn b ns c i.head l (behind_iterator b ns c false w))

-- what is built lies below the iterator
unfoldable pub behind_beginning : BlockNames → List ActNo → Built → (l : ℕ) → ClauseOf → (again : Bool) → Written → Written
behind_beginning b ns k l c g w = put (Plain instr.Swap) (plain_act (empty_instr k) l false (behind_iterator b ns c g (new_label w)))

abbrev pub inner : BlockNames → List ActNo → Built → (l : ℕ) → ClauseOf → (again : Bool) → Written → List ActNo
inner b ns k l c g w = record { 0 = (behind_beginning b ns k l c g w).act } ∷ ns

unfoldable pub with_new_names : BlockNames → List ActNo → Built → (l : ℕ) → ClauseOf → List ClauseOf → (again : Bool) → Written → Written
with_new_names b ns k l c cs g w =
    behind_renewal b (inner b ns k l c g w) (target_names c.target ++ clause_names (behind c cs)) (behind_beginning b ns k l c g w)

-- up to its first turn, and with it
unfoldable pub begun : BlockNames → List ActNo → Built → (l : ℕ) → ClauseOf → List ClauseOf → (again : Bool) → Written → Begun
begun b ns k l c cs g w = record { end = next_label w; head = next_label (with_new_names b ns k l c cs g w); within = inner b ns k l c g w }

unfoldable pub behind_begun : BlockNames → List ActNo → Built → (l : ℕ) → ClauseOf → List ClauseOf → (again : Bool) → Written → Written
behind_begun b ns k l c cs g w = behind_turn b (inner b ns k l c g w) c (next_label w) l (with_new_names b ns k l c cs g w)

-- the item is added, the next is taken, and behind the last there is the end
unfoldable pub ended : Built → (l : ℕ) → Innermost → (end : Label) → Written → Written
ended k l i end w = bind end (put (To Always i.head) (plain_act (addition k (suc i.loops)) l false w))
