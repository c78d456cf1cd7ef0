-- What the writer has behind each part of an expression, one part after the other.
use Rattle.std.specs.Prelude.{ℕ, zero, suc, List, [], ◌∷◌, Bool, false}
use Rattle.pt_base.specs.declared.numbers.ActNo.{ActNo}
use Rattle.pt_base.specs.declared.operators.CompareOp.{CompareOp}
use Rattle.pt_tree.specs.declared.expression.Constant.TheVariants as constant
use Rattle.pt_tree.specs.Syntax as S
use Rattle.pt_tree.specs.Syntax.{Name, Exp, Exps, Opt, Pieces, Entries, Links, Args, Tgt, Tgts, Formals}
use Rattle.pt_instr.specs.declared.Instr.{Instr}
use Rattle.pt_instr.specs.declared.Instr.TheVariants as instr
use Rattle.sem_control.specs.control.Turn.{Around}
use Rattle.pt_block_names.specs.declared.block_names.BlockNames.{BlockNames}
use Rattle.pt_block_names.specs.Named as named
pub use Rattle.pt_block_names.specs.Named.{numbers}
use Rattle.pt_assembler.specs.declared.operation.Label.{Label}
use Rattle.pt_assembler.specs.declared.operation.Jump.{Jump}
use Rattle.pt_assembler.specs.declared.operation.Jump.TheVariants.{Always, IfFalseKeep}
use Rattle.pt_assembler.specs.declared.operation.Operation.TheVariants.{Plain, To}
use Rattle.pt_assembler.specs.Piece.{const, act}
use Rattle.pt_assembler.specs.Layout.{Written, layout, put, put_act, act_of, new_label, next_label, bind}
use Rattle.pt_write_ops.specs.sem_compile.emitter.Ops.{formatting_of}
use Rattle.pt_write_ops.specs.sem_compile.emitter.ExpPiece.{exp_piece, target_piece, null_piece}
use Rattle.pt_expr_forms.specs.declared.display.Display.{Display}
use Rattle.pt_expr_forms.specs.declared.display.Display.TheVariants as display
use Rattle.pt_expr_forms.specs.declared.links.LinkEnds.{LinkEnds}

-- what code asks of a block; the value None is no part of it
abbrev pub known : BlockNames → Around (Unit {0})
known b = named.around tt b

-- an act of an instruction that names nothing of the block, and of a jump
abbrev pub plain_act : Instr → (l : ℕ) → Bool → Written → Written
plain_act i l g w = put_act (Plain i) (act_of w.act l g) w

abbrev pub jump_act : Jump → Label → (l : ℕ) → Written → Written
jump_act j to l w = put_act (To j to) (act_of w.act l false) w

abbrev pub no_value : Written → Written
no_value w = layout null_piece [] w

-- whether the mark of a re-test is still due behind so many operands
abbrev pub still : Bool → ℕ → Bool
still g zero = g
still g (suc n) = false

-- An expression and a target: what code says of them, as their pieces are laid out.

unfoldable pub behind_exp : BlockNames → List ActNo → Exp → (again : Bool) → Written → Written
behind_exp b ns e g w = layout (exp_piece (known b) e w.act g (numbers ns)) [] w

unfoldable pub behind_target : BlockNames → List ActNo → Tgt → Written → Written
behind_target b ns t w = layout (target_piece (known b) t w.act (numbers ns)) [] w

abbrev pub behind_targets : BlockNames → List ActNo → Tgts → Written → Written
behind_targets b ns S.no_targets w = w
behind_targets b ns (S.more_targets t ts) w = behind_targets b ns ts (behind_target b ns t w)

-- Displays (6.2.5 to 6.2.7).

abbrev pub display_of : Display → (l : ℕ) → Exps → Exp
display_of display.Tuple l es = S.tuple l es
display_of display.List l es = S.list l es
display_of display.Set l es = S.set l es

abbrev pub display_instr : Display → (count : ℕ) → Instr
display_instr display.Tuple k = instr.Tuple k
display_instr display.List k = instr.List k
display_instr display.Set k = instr.Set k

abbrev pub exps_count : Exps → ℕ
exps_count S.no_exps = 0
exps_count (S.more_exps e es) = suc (exps_count es)

abbrev pub behind_all : BlockNames → List ActNo → Exps → (again : Bool) → Written → Written
behind_all b ns S.no_exps g w = w
behind_all b ns (S.more_exps e es) g w = behind_all b ns es false (behind_exp b ns e g w)

abbrev pub entries_count : Entries → ℕ
entries_count S.no_entries = 0
entries_count (S.entry a b r) = suc (entries_count r)

abbrev pub behind_entries : BlockNames → List ActNo → Entries → (again : Bool) → Written → Written
behind_entries b ns S.no_entries g w = w
behind_entries b ns (S.entry k e r) g w = behind_entries b ns r false (behind_exp b ns e false (behind_exp b ns k g w))

-- F-strings (2.4.3).

abbrev pub pieces_count : Pieces → ℕ
pieces_count S.no_pieces = 0
pieces_count (S.literal l t r) = suc (pieces_count r)
pieces_count (S.field l e c sp r) = suc (pieces_count r)

-- so many parts of a spec are joined; none are None
abbrev pub joined : (count l : ℕ) → Written → Written
joined zero l w = no_value w
joined (suc zero) l w = w
joined k l w = plain_act (instr.Join k) l false w

abbrev pub behind_literal : (l : ℕ) → Name → (again : Bool) → Written → Written
behind_literal l t g w = layout (act (const (constant.Str t)) w.act l g) [] w

abbrev pub behind_pieces : BlockNames → List ActNo → Pieces → (again : Bool) → Written → Written
behind_pieces b ns S.no_pieces g w = w
behind_pieces b ns (S.literal l t r) g w = behind_pieces b ns r false (behind_literal l t g w)
behind_pieces b ns (S.field l e c sp r) g w = behind_pieces b ns r false
    (plain_act (instr.Format (formatting_of c)) l false (joined (pieces_count sp) l (behind_pieces b ns sp false (behind_exp b ns e g w))))

-- Slices (6.3.3).

abbrev pub opt_count : Opt → ℕ
opt_count S.absent = 0
opt_count (S.given e) = 1

abbrev pub behind_opt : BlockNames → List ActNo → Opt → (again : Bool) → Written → Written
behind_opt b ns S.absent g w = no_value w
behind_opt b ns (S.given e) g w = behind_exp b ns e g w

-- Comparisons (6.10): the labels of a link, its beginning, and its end behind all that is chained to it.

abbrev pub ends_of : Written → LinkEnds
ends_of w = record { end = next_label w; dropping = next_label (new_label w) }

abbrev pub link_begun : CompareOp → (l : ℕ) → Written → Written
link_begun o l w = jump_act IfFalseKeep (ends_of w).dropping l
    (plain_act (instr.Compare o) l false (put (Plain instr.Rot3) (put (Plain instr.Copy) (new_label (new_label w)))))

abbrev pub link_ended : LinkEnds → Written → Written
link_ended ends w = bind ends.end (put (Plain instr.Pop) (put (Plain instr.Swap) (bind ends.dropping (put (To Always ends.end) w))))

-- the innermost first
abbrev pub links_ended : List LinkEnds → Written → Written
links_ended [] w = w
links_ended (x ∷ xs) w = links_ended xs (link_ended x w)

abbrev pub behind_links : BlockNames → List ActNo → Links → CompareOp → (l : ℕ) → Written → Written
behind_links b ns S.no_links o l w = plain_act (instr.Compare o) l false w
behind_links b ns (S.link p e r) o l w = link_ended (ends_of w) (behind_links b ns r p l (behind_exp b ns e false (link_begun o l w)))

-- the operands behind the first of an `and` or `or`, each behind a jump to the end of the whole (6.11)
abbrev pub behind_operands : BlockNames → List ActNo → Jump → Exps → (end : Label) → (l : ℕ) → Written → Written
behind_operands b ns j S.no_exps end l w = w
behind_operands b ns j (S.more_exps e es) end l w = behind_operands b ns j es end l (behind_exp b ns e false (jump_act j end l w))

-- the arguments of a call (6.3.4)
abbrev pub behind_args : BlockNames → List ActNo → Args → (l : ℕ) → Written → Written
behind_args b ns S.no_args l w = w
behind_args b ns (S.positional e r) l w = behind_args b ns r l (behind_exp b ns e false w)
behind_args b ns (S.named x e r) l w = behind_args b ns r l (behind_exp b ns e false w)
behind_args b ns (S.spread e r) l w = behind_args b ns r l (plain_act instr.Spread l false (behind_exp b ns e false w))
behind_args b ns (S.spread_named e r) l w = behind_args b ns r l (plain_act instr.SpreadMap l false (behind_exp b ns e false w))

-- the defaults of parameters (8.7)
abbrev pub defaults_count : Formals → ℕ
defaults_count S.no_formals = 0
defaults_count (S.formal l x a S.absent r) = defaults_count r
defaults_count (S.formal l x a (S.given d) r) = suc (defaults_count r)

abbrev pub behind_defaults : BlockNames → List ActNo → Formals → (again : Bool) → Written → Written
behind_defaults b ns S.no_formals g w = w
behind_defaults b ns (S.formal l x a S.absent r) g w = behind_defaults b ns r g w
behind_defaults b ns (S.formal l x a (S.given d) r) g w = behind_defaults b ns r false (behind_exp b ns d g w)
