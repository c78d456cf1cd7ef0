-- The counts and places in what is laid out from a piece.
use Rattle.std.proofs.Common.{ℕ, ◌≤◌, false, List, [], ◌∷◌, ◌++◌, Option, Some, None, sym, subst}
use Rattle.std.specs.List.{AllByRecursion}
use Rattle.pt_instr.specs.declared.Instr.TheVariants as instr
use Rattle.pt_instr.specs.Encoding.{code_of}
use Rattle.pt_assembler.specs.declared.operation.Jump.{Jump}
use Rattle.pt_assembler.specs.declared.operation.Jump.TheVariants as jump
use Rattle.pt_assembler.specs.declared.operation.FreeUse.{FreeUse}
use Rattle.pt_assembler.specs.declared.operation.FreeUse.TheVariants as use_of
use Rattle.pt_assembler.specs.declared.operation.Label.{Label}
use Rattle.pt_assembler.specs.declared.operation.Act.{Act}
use Rattle.pt_assembler.specs.declared.operation.Operation.TheVariants.{Plain, To}
use Rattle.pt_assembler.specs.declared.operation.Placed.{Placed}
use Rattle.pt_assembler.specs.PieceAt.{instr_to, instr_of_free}
use Rattle.pt_assembler.specs.Layout.{Written, local_no, cell_no, number_of_text, list_no, with_operand, operation_of, act_of, put, put_act, put_row, put_start, new_label, next_label, bind, placed, numbered_from, deeper_in, loop_in, exit_label, layout, label_at, instr_in}
use Rattle.pt_assembler.specs.Piece as P
use Rattle.pt_assembler.specs.Piece.{Op, Piece, pick}
use Rattle.pt_assembler.proofs.Growth.{operand_only}
use Rattle.law_files.proofs.code_files.Each.{both}
use Rattle.law_files.specs.piece_counts.Counts.{NumbersIn, NumbersOp, NumbersPiece}

module _ (F : Written) (most : ℕ) (labels : (k : Label) → (label_at F k).pc.0 ≤ most) where
  to-place : (j : Jump) (pc : ℕ) → pc ≤ most → NumbersIn most (instr_to j pc)
  unfolding code_of
  to-place jump.AtEnd p h = (h, tt)
  to-place jump.Always p h = (h, tt)
  to-place jump.IfTrue p h = (h, tt)
  to-place jump.IfFalse p h = (h, tt)
  to-place jump.IfTrueKeep p h = (h, tt)
  to-place jump.IfFalseKeep p h = (h, tt)
  to-place jump.Leave p h = (h, tt)

  of-free : (u : FreeUse) (i : ℕ) → NumbersIn most (instr_of_free u i)
  unfolding code_of
  of-free use_of.Load i = (tt, tt)
  of-free use_of.Store i = (tt, tt)
  of-free use_of.Delete i = (tt, tt)
  of-free use_of.Renew i = (tt, tt)
  of-free use_of.Push i = (tt, tt)

  abbrev pub Small : Placed → Type 0
  Small p = NumbersIn most (instr_in F p.operation)

  operand : (op : Op) (L : List Label) (w : Written) → NumbersOp most op → NumbersIn most (instr_in F (operation_of op L w))
  unfolding code_of
  operand (P.plain i) L w h = h
  operand P.never L w h = tt
  operand (P.const k) L w h = (tt, tt)
  operand (P.with_local f x) L w h = h (record { 0 = local_no x w })
  operand (P.with_cell f x) L w h = h (record { 0 = cell_no x w })
  operand (P.with_free u x) L w h = of-free u _
  operand (P.with_text f x) L w h = h (number_of_text x w)
  operand (P.with_list f xs) L w h = h (record { 0 = list_no xs w })
  operand (P.to j l) L w h = to-place j _ (labels (pick (record { 0 = 0 }) L l))

  one : (op : Op) (L : List Label) (w : Written) (a : Option Act) → NumbersOp most op → AllByRecursion Small w.instrs
      → AllByRecursion Small ((with_operand op w).instrs ++ record { operation = operation_of op L w; act = a } ∷ [])
  one op L w a h g =
      both Small (with_operand op w).instrs (record { operation = operation_of op L w; act = a } ∷ [])
      (subst (AllByRecursion Small) (sym (operand_only op w).instrs) g) (operand op L w h, tt)

  pub small : (p : Piece) (L : List Label) (w : Written) → NumbersPiece most p → AllByRecursion Small w.instrs → AllByRecursion Small (layout p L w).instrs
  unfolding code_of put put_act put_row put_start new_label bind placed numbered_from
  small P.empty L w h g = g
  small (P.act op k l again) L w h g = one op L w (Some (act_of k l again)) h g
  small (P.move op) L w h g = one op L w None h g
  small (P.seq p q) L w h g = small q L (layout p L w) h.1 (small p L w h.0 g)
  small (P.block p) L w h g = small p (next_label w ∷ L) (new_label w) h g
  small (P.headed p) L w h g = small p (next_label w ∷ L) (new_label w) h g
  small (P.closed p) L w h g = small p [] w h g
  small (P.looped b p) L w h g = small p [] (placed (loop_in (pick (record { 0 = 0 }) L b) (next_label w) w.place) (new_label w)) h g
  small (P.leave e k l) L w h g =
      let o = To jump.Leave (exit_label e w.place.around) in
      both Small w.instrs (record { operation = o; act = Some (act_of k l false) } ∷ []) g (to-place jump.Leave _ (labels (exit_label e w.place.around)), tt)
  small (P.ensured p) L w h g =
      both Small (layout p [] w).instrs (record { operation = Plain instr.Normal; act = None } ∷ []) (small p [] w h g) (tt, tt)
  small (P.caught p q) L w h g = small q L (layout p [] w) h.1 (small p [] w h.0 g)
  small (P.deeper k p) L w h g = small p L (placed (deeper_in k w.place) w) h g
  small (P.started l p) L w h g = small p L (put_start l w) h g
  small (P.numbered k p) L w h g = small p L (numbered_from k w) h g
