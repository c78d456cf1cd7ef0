-- What the writer has behind each form of simple statements and of definitions, one part after the other.
use Rattle.std.specs.Prelude.{ℕ, List, [], ◌∷◌, true, false}
use Rattle.pt_base.specs.declared.operators.BinOp.{BinOp}
use Rattle.pt_tree.specs.declared.statement.Alias.{Alias}
use Rattle.pt_tree.specs.Syntax as S
use Rattle.pt_tree.specs.Syntax.{Name, Exp, Opt, Place, Tgt, Tgts, Params, Decorators, Stm}
use Rattle.pt_tree.specs.declared.expression.Constant.TheVariants as constant
use Rattle.pt_instr.specs.declared.Instr.TheVariants as instr
use Rattle.sem_control.specs.control.Statements.{bound_name}
use Rattle.pt_block_names.specs.declared.block_names.BlockNames.{BlockNames}
use Rattle.pt_assembler.specs.declared.operation.Exit.{Exit}
use Rattle.pt_assembler.specs.declared.operation.Jump.TheVariants.{IfTrue, Leave}
use Rattle.pt_assembler.specs.declared.operation.Operation.TheVariants.{Plain}
use Rattle.pt_assembler.specs.Piece.{act, move, with_text, ◌▸◌}
use Rattle.pt_assembler.specs.Layout.{Written, layout, put, new_label, next_label, bind, exit_label}
use Rattle.pt_write_ops.specs.sem_compile.emitter.Ops.{store}
use Rattle.pt_write_ops.specs.sem_compile.emitter.ExpPiece.{null_piece}
use Rattle.pt_write_ops.specs.Written.{cells_piece}
use Rattle.pt_expr_forms.specs.Behind.{known, plain_act, jump_act, behind_exp, behind_target, behind_opt}
use Rattle.pt_write_ops.specs.sem_compile.stm_pieces.Needed.{Behind}
use Rattle.pt_write_ops.specs.sem_compile.stm_pieces.StmPiece.{delete, store_piece, stm_piece}

-- A statement, as its piece is laid out, whatever is asked of the place behind it.
unfoldable pub behind_stm : BlockNames → Stm → Behind → Written → Written
behind_stm b st k w = layout (stm_piece (known b) st w.act k) [] w

-- an expression outside of comprehensions
abbrev pub behind_value : BlockNames → Exp → Written → Written
behind_value b e w = behind_exp b [] e false w

-- A name is bound to the value on top, and unbound; a handler unbinds its name without an act, bound to None before (8.4.1).

unfoldable pub behind_store : BlockNames → Name → (l : ℕ) → Written → Written
behind_store b y l w = layout (store_piece (known b) y w.act l) [] w

unfoldable pub behind_delete : BlockNames → Name → (l : ℕ) → Written → Written
behind_delete b y l w = layout (act (delete ((known b).variable [] y)) w.act l false) [] w

unfoldable pub behind_unbinding : BlockNames → Name → Written → Written
behind_unbinding b y w =
    layout (null_piece ▸ move (store ((known b).variable [] y)) ▸ move (delete ((known b).variable [] y))) [] w

-- Attributes of the object on top.

abbrev pub behind_attribute : BlockNames → Name → (l : ℕ) → Written → Written
behind_attribute b y l w = layout (act (with_text instr.Attr ((known b).spelled y)) w.act l false) [] w

abbrev pub behind_set_attribute : BlockNames → Name → (l : ℕ) → Written → Written
behind_set_attribute b y l w = layout (act (with_text instr.SetAttr ((known b).spelled y)) w.act l false) [] w

abbrev pub behind_delete_attribute : BlockNames → Name → (l : ℕ) → Written → Written
behind_delete_attribute b y l w = layout (act (with_text instr.DelAttr ((known b).spelled y)) w.act l false) [] w

-- Assignments (7.2): the value is copied for each target but the last, and dropped where there is none.

abbrev pub copied_for : (rest : Tgts) → Written → Written
copied_for S.no_targets w = w
copied_for (S.more_targets t ts) w = put (Plain instr.Copy) w

abbrev pub behind_each : BlockNames → Tgts → Written → Written
behind_each b S.no_targets w = w
behind_each b (S.more_targets t ts) w = behind_each b ts (behind_target b [] t (copied_for ts w))

abbrev pub behind_assigned : BlockNames → Tgts → Written → Written
behind_assigned b S.no_targets w = put (Plain instr.Pop) w
behind_assigned b (S.more_targets t ts) w = behind_each b (S.more_targets t ts) w

-- Augmented assignments (7.2.1): the present value of a place, whose parts stay below it, and what puts the new one there.

abbrev pub behind_present : BlockNames → Place → Written → Written
behind_present b (S.name_at l y) w = behind_value b (S.name l y) w
behind_present b (S.attribute_at l a y) w = behind_attribute b y l (put (Plain instr.Copy) (behind_value b a w))
behind_present b (S.item_at l a i) w = plain_act instr.Item l false (put (Plain instr.Copy2) (behind_value b i (behind_value b a w)))

abbrev pub behind_put_back : BlockNames → Place → Written → Written
behind_put_back b (S.name_at l y) w = behind_store b y l w
behind_put_back b (S.attribute_at l a y) w = behind_set_attribute b y l (put (Plain instr.Swap) w)
behind_put_back b (S.item_at l a i) w = plain_act instr.SetItem l false (put (Plain instr.Rot3) w)

abbrev pub behind_augmented : BlockNames → Place → BinOp → Exp → (l : ℕ) → Written → Written
behind_augmented b p o e l w =
    behind_put_back b p (plain_act (instr.InPlace o) l false (behind_value b e (behind_present b p w)))

-- an annotation isn't evaluated (7.2.2)
abbrev pub behind_annotated : BlockNames → Place → Opt → (l : ℕ) → Written → Written
behind_annotated b p S.absent l w = plain_act instr.Nop l false w
behind_annotated b p (S.given e) l w = behind_target b [] (S.single p) (behind_value b e w)

-- Deletions (7.5): each place for itself.

abbrev pub behind_place_deleted : BlockNames → Place → Written → Written
behind_place_deleted b (S.name_at l y) w = behind_delete b y l w
behind_place_deleted b (S.attribute_at l a y) w = behind_delete_attribute b y l (behind_value b a w)
behind_place_deleted b (S.item_at l a i) w = plain_act instr.DelItem l false (behind_value b i (behind_value b a w))

abbrev mutual
  pub behind_deleted : BlockNames → Tgt → Written → Written
  behind_deleted b (S.single p) w = behind_place_deleted b p w
  behind_deleted b (S.several l f ts) w = behind_all_deleted b ts w
  behind_deleted b (S.starred l t) w = behind_deleted b t w

  pub behind_all_deleted : BlockNames → Tgts → Written → Written
  behind_all_deleted b S.no_targets w = w
  behind_all_deleted b (S.more_targets t ts) w = behind_all_deleted b ts (behind_deleted b t w)

-- Assertions, `raise` and the exits of loops (7.3, 7.8 to 7.10).

abbrev pub behind_failed : BlockNames → Opt → (l : ℕ) → Written → Written
behind_failed b S.absent l w = plain_act (instr.AssertFail false) l false w
behind_failed b (S.given m) l w = plain_act (instr.AssertFail true) l false (behind_value b m w)

abbrev pub behind_assertion : BlockNames → Exp → Opt → (l : ℕ) → Written → Written
behind_assertion b c m l w =
    bind (next_label w) (behind_failed b m l (jump_act IfTrue (next_label w) l (behind_value b c (new_label w))))

abbrev pub behind_returned : BlockNames → Opt → (l : ℕ) → Written → Written
behind_returned b e l w = plain_act instr.Return l false (behind_opt b [] e false w)

abbrev pub behind_thrown : BlockNames → Opt → (l : ℕ) → Written → Written
behind_thrown b S.absent l w = plain_act instr.Raise l false w
behind_thrown b (S.given c) l w = plain_act instr.RaiseFrom l false (behind_value b c w)

abbrev pub behind_exit : Exit → (l : ℕ) → Written → Written
behind_exit e l w = jump_act Leave (exit_label e w.place.around) l w

-- Imports (7.11): each name is bound by itself.

abbrev pub behind_module : BlockNames → Name → (l : ℕ) → Written → Written
behind_module b y l w = layout (act (with_text instr.Import ((known b).spelled y)) w.act l false) [] w

abbrev pub behind_module_name : BlockNames → Name → (l : ℕ) → Written → Written
behind_module_name b y l w = layout (act (with_text instr.ImportName ((known b).spelled y)) w.act l false) [] w

abbrev pub behind_imports : BlockNames → List Alias → (l : ℕ) → Written → Written
behind_imports b [] l w = w
behind_imports b (a ∷ as') l w = behind_imports b as' l (behind_store b (bound_name a) l (behind_module b a.name l w))

-- the module lies below until the last
abbrev pub behind_module_names : BlockNames → List Alias → (l : ℕ) → Written → Written
behind_module_names b [] l w = put (Plain instr.Pop) w
behind_module_names b (a ∷ as') l w =
    behind_module_names b as' l (behind_store b (bound_name a) l (behind_module_name b a.name l w))

-- Functions and classes (8.7, 8.8): the values of decorators, what is made, their calls, the last decorator's first, and the name.

abbrev pub behind_decorators : BlockNames → Decorators → Written → Written
behind_decorators b S.no_decorators w = w
behind_decorators b (S.decorator j e r) w = behind_decorators b r (behind_value b e w)

abbrev pub behind_calls : Decorators → Written → Written
behind_calls S.no_decorators w = w
behind_calls (S.decorator j e r) w = plain_act (instr.Call 1) j false (behind_calls r w)

abbrev pub behind_function : BlockNames → (block : ℕ) → Params → (l : ℕ) → Written → Written
behind_function b c ps l w = behind_value b (S.lambda l c ps (S.constant l constant.None)) w

abbrev pub behind_class : BlockNames → (block : ℕ) → (base : Opt) → (l : ℕ) → Written → Written
behind_class b c base l w =
    plain_act (instr.MakeClass (record { 0 = c })) l false (layout (cells_piece ((known b).captured c)) [] (behind_opt b [] base false w))

abbrev pub behind_named : BlockNames → Decorators → Name → (l : ℕ) → Written → Written
behind_named b ds y l w = behind_store b y l (behind_calls ds w)
