-- What the writer has behind each form of compound statements, one part after the other.
use Rattle.std.specs.Prelude.{ℕ, ◌+◌, List, [], ◌∷◌, true, false, Option, Some, None}
use Rattle.pt_tree.specs.Syntax as S
use Rattle.pt_tree.specs.Syntax.{Name, Exp, Opt, Tgt, Items, Stm, Stms, Branches, Handlers, none, more}
use Rattle.pt_tree.specs.declared.expression.Constant.TheVariants as constant
use Rattle.pt_tree.specs.Sizes.{handlers_size, stms_size}
use Rattle.pt_instr.specs.declared.Instr.TheVariants as instr
use Rattle.sem_control.specs.control.Jump.{starts_on}
use Rattle.pt_block_names.specs.declared.block_names.BlockNames.{BlockNames}
use Rattle.pt_assembler.specs.declared.operation.Label.{Label}
use Rattle.pt_assembler.specs.declared.operation.Exit.TheVariants.{Break, Continue}
use Rattle.pt_assembler.specs.declared.operation.Jump.TheVariants.{AtEnd, Always, IfTrue, IfFalse}
use Rattle.pt_assembler.specs.declared.operation.Operation.TheVariants.{Plain, To}
use Rattle.pt_assembler.specs.Piece.{const, move, started}
use Rattle.pt_assembler.specs.PieceAt.{row_of}
use Rattle.pt_assembler.specs.Layout.{Written, layout, at, put, put_act, act_of, put_row, new_label, next_label, bind, placed, deeper_in, loop_in, numbered_from}
use Rattle.pt_expr_forms.specs.Behind.{known, plain_act, jump_act, behind_exp, behind_target, behind_opt}
use Rattle.pt_write_ops.specs.sem_compile.stm_pieces.Needed as needed
use Rattle.pt_write_ops.specs.sem_compile.stm_pieces.Needed.{Behind, free, in_front, is_needed, needed_if, some_exits}
use Rattle.pt_write_ops.specs.sem_compile.stm_pieces.StmPiece.{all_piece, begun_piece, stm_piece}
use Rattle.pt_stm_forms.specs.declared.contexts.OpenContext.{OpenContext}
use Rattle.pt_stm_forms.specs.Simple.{behind_stm, behind_store, behind_unbinding, behind_value}

-- Statements one after the other, and a statement with its start, as their pieces are laid out.

unfoldable pub behind_suite : BlockNames → Stms → Behind → Written → Written
behind_suite b ss k w = layout (all_piece (known b) ss w.act k) [] w

unfoldable pub behind_start : BlockNames → Stm → Behind → Written → Written
behind_start b st k w = layout (started (starts_on st) (begun_piece st k (stm_piece (known b) st w.act k))) [] w

-- a statement that leaves stands behind a branch to behind it, which is never taken
abbrev pub behind_untaken : BlockNames → Stm → Behind → Written → Written
behind_untaken b st k w =
    bind (next_label w) (behind_stm b st k (put (To IfFalse (next_label w)) (layout (move (const (constant.Bool true))) [] (new_label w))))

-- `if` (8.1): where a test is false its branch is passed over, and behind each branch is the end.

abbrev pub behind_branch : BlockNames → Exp → Stms → (end : Label) → (l : ℕ) → Written → Written
behind_branch b c body end l w =
    bind (next_label w) (put (To Always end) (behind_suite b body free (jump_act IfFalse (next_label w) l (behind_value b c (new_label w)))))

abbrev pub behind_branches : BlockNames → Branches → (end : Label) → Written → Written
behind_branches b S.no_branches end w = w
behind_branches b (S.branch l c body r) end w = behind_branches b r end (behind_branch b c body end l w)

abbrev pub behind_choice : BlockNames → Branches → (otherwise : Stms) → Behind → Written → Written
behind_choice b bs els k w =
    bind (next_label w) (behind_suite b els (needed.behind_branches (needed.some_branch_goes_on bs) k) (behind_branches b bs (next_label w) (new_label w)))

-- Loops (8.2, 8.3): the body, where `break` goes to the end and `continue` behind the body; the loop up to its `else` part; and that part.

unfoldable pub behind_loop_body : BlockNames → Stms → (end : Label) → Written → Written
behind_loop_body b body end w =
    bind (next_label w) (placed w.place (behind_suite b body (needed_if (some_exits Continue body)) (placed (loop_in end (next_label w) w.place) (new_label w))))

abbrev pub behind_loop_else : BlockNames → (body otherwise : Stms) → Behind → (end : Label) → Written → Written
behind_loop_else b body els k end w = bind end (behind_suite b els (needed.behind_loop (some_exits Break body) k) w)

-- the acts of the second test have the numbers of the first
abbrev pub tested_again : BlockNames → Exp → (n : ℕ) → (head : Label) → (l : ℕ) → Written → Written
tested_again b c n head l w = jump_act IfTrue head l (behind_exp b [] c true (numbered_from n w))

abbrev pub behind_tested : BlockNames → Exp → (l : ℕ) → Written → Written
behind_tested b c l w = jump_act IfFalse (next_label (new_label w)) l (behind_value b c (new_label (new_label w)))

abbrev pub behind_while_body : BlockNames → Exp → Stms → (l : ℕ) → Written → Written
behind_while_body b c body l w = behind_loop_body b body (next_label w) (new_label (behind_tested b c l w))

unfoldable pub behind_while : BlockNames → Exp → Stms → (l : ℕ) → Written → Written
behind_while b c body l w =
    numbered_from (behind_while_body b c body l w).act
    (bind (next_label (new_label w)) (tested_again b c w.act (next_label (behind_tested b c l w)) l (behind_while_body b c body l w)))

-- the next item of a `for`, under the number of the first
abbrev pub next_again : (n : ℕ) → (head over : Label) → (l : ℕ) → Written → Written
next_again n head over l w = put (To Always head) (put_act (To AtEnd over) (act_of n l true) (numbered_from n w))

abbrev pub behind_iterator : BlockNames → Exp → (l : ℕ) → Written → Written
behind_iterator b it l w = plain_act instr.Iter l false (behind_value b it (new_label (new_label w)))

abbrev pub behind_first : BlockNames → Exp → (l : ℕ) → Written → Written
behind_first b it l w = jump_act AtEnd (next_label (new_label w)) l (behind_iterator b it l w)

abbrev pub over_more : (count : ℕ) → Written → Written
over_more k w = placed (deeper_in k w.place) w

-- the body, over the iterator
abbrev pub behind_deep_body : BlockNames → Stms → (end : Label) → Written → Written
behind_deep_body b body end w = placed w.place (behind_loop_body b body end (over_more 1 w))

abbrev pub behind_for_body : BlockNames → Tgt → Exp → Stms → (l : ℕ) → Written → Written
behind_for_body b t it body l w = behind_deep_body b body (next_label w) (behind_target b [] t (new_label (behind_first b it l w)))

unfoldable pub behind_for : BlockNames → Tgt → Exp → Stms → (l : ℕ) → Written → Written
behind_for b t it body l w =
    numbered_from (behind_for_body b t it body l w).act
    (bind (next_label (new_label w))
    (next_again (behind_iterator b it l w).act (next_label (behind_first b it l w)) (next_label (new_label w)) l (behind_for_body b t it body l w)))

-- what was written from a place on is under a handler row that takes each completion, with a normal one where nothing leaves
abbrev pub ensured_from : (from depth : ℕ) → Written → Written
ensured_from f d w = put_row (row_of f (at (put (Plain instr.Normal) w)) (at (put (Plain instr.Normal) w)) d true) (put (Plain instr.Normal) w)

-- `with` (8.5): what Enter gives goes to the target of an item, or is dropped; items are left from the last on.

abbrev pub behind_taken : BlockNames → Option Tgt → Written → Written
behind_taken b None w = put (Plain instr.Pop) w
behind_taken b (Some t) w = behind_target b [] t w

abbrev pub behind_entered : BlockNames → Exp → (l : ℕ) → Written → Written
behind_entered b e l w = plain_act instr.Enter l false (behind_value b e w)

abbrev pub open_context : (l : ℕ) → Written → OpenContext
open_context l w = record { line = record { 0 = l }; from = at (over_more 1 w); place = w.place }

abbrev pub behind_item : BlockNames → Exp → Option Tgt → (l : ℕ) → Written → Written
behind_item b e t l w = behind_taken b t (over_more 1 (behind_entered b e l w))

unfoldable pub behind_left : OpenContext → Written → Written
behind_left c w = put (Plain instr.EndFinally) (plain_act instr.Exit c.line.0 false (placed c.place (ensured_from c.from (c.place.depth + 1) w)))

-- the innermost first
abbrev pub behind_all_left : List OpenContext → Written → Written
behind_all_left [] w = w
behind_all_left (c ∷ cs) w = behind_all_left cs (behind_left c w)

abbrev pub behind_items : BlockNames → Items → (body : Stms) → (entered : List OpenContext) → Written → Written
behind_items b S.no_items body cs w = behind_all_left cs (behind_suite b body free w)
behind_items b (S.with_item l e t r) body cs w =
    behind_items b r body (open_context l (behind_entered b e l w) ∷ cs) (behind_item b e t l w)

-- Handlers (8.4.1): what a handler does that has taken an exception, over the slot of that; its name is bound, and unbound whatever happens.

abbrev pub behind_unnamed : BlockNames → Stms → Written → Written
behind_unnamed b body w = placed w.place (behind_suite b body free (over_more 1 w))

abbrev pub behind_covered : BlockNames → Stms → Written → Written
behind_covered b body w =
    placed w.place (ensured_from (at (over_more 1 w)) (over_more 1 w).place.depth (behind_suite b body free (over_more 1 w)))

abbrev pub behind_handled : BlockNames → Option Name → Stms → (l : ℕ) → Written → Written
behind_handled b None body l w = behind_unnamed b body (put (Plain instr.Pop) (put (Plain instr.Caught) w))
behind_handled b (Some y) body l w =
    put (Plain instr.EndFinally) (behind_unbinding b y (behind_covered b body (behind_store b y l (put (Plain instr.Caught) w))))

abbrev pub behind_handler : BlockNames → Opt → Option Name → Stms → (end : Label) → (l : ℕ) → Written → Written
behind_handler b c y body end l w = bind (next_label w) (put (To Always end) (put (Plain instr.EndHandler)
    (behind_handled b y body l (put (To IfFalse (next_label w)) (plain_act instr.Match l false (behind_opt b [] c false (new_label w)))))))

abbrev pub behind_handlers : BlockNames → Handlers → (end : Label) → Written → Written
behind_handlers b S.no_handlers end w = put (Plain instr.Rethrow) w
behind_handlers b (S.handler l c y body r) end w = behind_handlers b r end (behind_handler b c y body end l w)

-- `try` (8.4): the body, and its `else` part, whose acts are numbered behind those of the handlers, of which there are so many.

abbrev pub behind_body : BlockNames → (body otherwise : Stms) → Behind → Written → Written
behind_body b body els q w = behind_suite b body (in_front els q) w

-- the next acts are numbered behind so many others
abbrev pub acts_skipped : (count : ℕ) → Written → Written
acts_skipped k w = numbered_from (w.act + k) w

abbrev pub behind_else : BlockNames → (body otherwise : Stms) → Behind → (count : ℕ) → Written → Written
behind_else b body els q k w = behind_suite b els q (acts_skipped k (behind_body b body els q w))

-- a handler row covers the body, from a place to another; the handlers are numbered from behind that
abbrev pub row_caught : (from to depth : ℕ) → Written → Written
row_caught f t d w = put_row (row_of f t (at w) d false) w

abbrev pub else_ended : (from to depth first : ℕ) → (end : Label) → Written → Written
else_ended f t d n end w = numbered_from n (row_caught f t d (put (To Always end) w))

unfoldable pub behind_caught : BlockNames → (body otherwise : Stms) → Behind → (count : ℕ) → (end : Label) → Written → Written
behind_caught b body els q k end w = else_ended (at w) (at (behind_body b body els q w)) w.place.depth (behind_body b body els q w).act end
    (behind_else b body els q k w)

abbrev pub behind_guarded : BlockNames → Stms → Handlers → (otherwise : Stms) → Behind → Written → Written
behind_guarded b body S.no_handlers els q w = behind_suite b els q (behind_body b body els q w)
behind_guarded b body (S.handler l c y hbody r) els q w =
    bind (next_label w) (behind_handlers b (S.handler l c y hbody r) (next_label w)
    (behind_caught b body els q (handlers_size (S.handler l c y hbody r)) (next_label w) (new_label w)))

-- the `finally` part, over the completion with which it goes on; n numbers its first act
abbrev pub behind_final : BlockNames → (finally : Stms) → Behind → (n : ℕ) → Written → Written
behind_final b fin k n w =
    put (Plain instr.EndFinally) (placed w.place (behind_suite b fin (needed_if (is_needed k)) (numbered_from n (over_more 1 w))))

abbrev pub behind_ensured : BlockNames → (finally : Stms) → Behind → (from depth n : ℕ) → Written → Written
behind_ensured b none k f d n w = numbered_from n w
behind_ensured b (more st ss) k f d n w = behind_final b (more st ss) k n (ensured_from f d w)

-- behind the first act of a `try`
abbrev pub behind_try : BlockNames → Stms → Handlers → (otherwise finally : Stms) → Behind → Written → Written
behind_try b body hs els fin k w = behind_ensured b fin k (at w) w.place.depth (w.act + stms_size body + handlers_size hs + stms_size els)
    (behind_guarded b body hs els (needed.behind_tried hs fin k) w)
