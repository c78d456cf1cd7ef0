-- What is laid out of a piece whose instructions may stand in a block may stand there.
use Rattle.std.proofs.Common.{◌≡◌, ℕ, true, false, not, List, [], ◌∷◌, ◌++◌, Option, Some, None, refl, sym, subst}
use Rattle.std.proofs.lemmas.Bool.{and_parts, not-true}
use Rattle.std.specs.List.{AllByRecursion}
use Rattle.pt_instr.specs.declared.Instr.{Instr}
use Rattle.pt_instr.specs.declared.Instr.TheVariants as instr
use Rattle.pt_code.specs.declared.BlockKind.{BlockKind}
use Rattle.pt_code.specs.declared.Code.{Code}
use Rattle.pt_code.specs.declared.CodeBlock.{CodeBlock}
use Rattle.pt_assembler.specs.declared.operation.Jump.{Jump}
use Rattle.pt_assembler.specs.declared.operation.Jump.TheVariants as jump
use Rattle.pt_assembler.specs.declared.operation.FreeUse.{FreeUse}
use Rattle.pt_assembler.specs.declared.operation.FreeUse.TheVariants as use_of
use Rattle.pt_assembler.specs.declared.operation.Label.{Label}
use Rattle.pt_assembler.specs.declared.operation.Act.{Act}
use Rattle.pt_assembler.specs.declared.operation.Operation.TheVariants.{Plain, To}
use Rattle.pt_assembler.specs.declared.operation.Placed.{Placed}
use Rattle.pt_assembler.specs.Piece as P
use Rattle.pt_assembler.specs.Piece.{Op, Piece, pick}
use Rattle.pt_assembler.specs.PieceAt.{instr_to, instr_of_free, start_of}
use Rattle.pt_assembler.specs.Layout.{Written, act_of, bind, deeper_in, exit_label, label_at, layout, list_no, local_no, cell_no, loop_in, new_label, next_label, number_of_text, numbered_from, operation_of, placed, put, put_act, put_row, put_start, with_operand}
use Rattle.pt_assembler.specs.Laws.{IsBlockOf}
use Rattle.pt_assembler.proofs.Growth.{Tabled, grows, operand_only, put_act_grows, put_grows, tabled_then}
use Rattle.pt_assembler.proofs.Named.{operand_is}
use Rattle.sem_fits.specs.fits.Block.{Links, links_of}
use Rattle.sem_fits.specs.fits.Standing.{may_stand}
use Rattle.law_pieces.specs.piece_kinds.Exits.{is_leave}
use Rattle.law_operands.proofs.law_files.code_files.Each.{both}
use Rattle.law_typed_pieces.specs.standing_pieces.Pieces.{StandsOp, StandsPiece, stands}
use Rattle.law_typed_pieces.specs.standing_pieces.Laws.{StandsLaid}

module _ (kind : BlockKind) (links : Links) where
  to_place : (j : Jump) (pc : ℕ) → may_stand kind links (instr_to j pc) ≡ true
  to_place jump.AtEnd n = refl
  to_place jump.Always n = refl
  to_place jump.IfTrue n = refl
  to_place jump.IfFalse n = refl
  to_place jump.IfTrueKeep n = refl
  to_place jump.IfFalseKeep n = refl
  to_place jump.Leave n = refl

  of_free : (u : FreeUse) (i : ℕ) → may_stand kind links (instr_of_free u i) ≡ true
  of_free use_of.Load i = refl
  of_free use_of.Store i = refl
  of_free use_of.Delete i = refl
  of_free use_of.Renew i = refl
  of_free use_of.Push i = refl

module _ (kind : BlockKind) (F : Written) (code : Code) (b : CodeBlock) (is : IsBlockOf F code b) (zero_is : label_at F (record { 0 = 0 }) ≡ start_of) where
  abbrev links : Links
  links = links_of code

  abbrev Fine : Placed → Type 0
  Fine p = StandsLaid kind links F p

  plainly : (i : Instr) (a : Option Act) → stands kind links i ≡ true → Fine (record { operation = Plain i; act = a })
  plainly i a h =
      let parts = and_parts (may_stand kind links i) (not (is_leave i)) h in
      record { stands = parts.0; leaves = not-true (is_leave i) parts.1 }

  operand : (op : Op) (L : List Label) (w : Written) (a : Option Act) → StandsOp kind links op → Tabled (with_operand op w) F
      → Fine (record { operation = operation_of op L w; act = a })
  operand (P.plain i) L w a h t = plainly i a h
  operand P.never L w a h t = plainly instr.Nop a refl
  operand (P.const k) L w a h t = plainly (instr.Const _) a refl
  operand (P.with_local f x) L w a h t = plainly (f (record { 0 = local_no x w })) a (h (record { 0 = local_no x w }))
  operand (P.with_cell f x) L w a h t = plainly (f (record { 0 = cell_no x w })) a (h (record { 0 = cell_no x w }))
  operand (P.with_free u x) L w a h t = record { stands = of_free kind links u _; leaves = tt }
  operand (P.with_text f x) L w a h t = plainly (f (number_of_text x w)) a (h (number_of_text x w))
  operand (P.with_list f xs) L w a h t =
      let (l, same, named) = operand_is F code b is zero_is (P.with_list f xs) L w tt t in
      plainly (f (record { 0 = list_no xs w })) a (subst (λ j. stands kind links j ≡ true) (sym same) (h l named))
  operand (P.to j l) L w a h t = record { stands = to_place kind links j _; leaves = tt }

  one : (op : Op) (L : List Label) (w v : Written) (a : Option Act)
      → v.instrs ≡ (with_operand op w).instrs ++ record { operation = operation_of op L w; act = a } ∷ []
      → StandsOp kind links op → Tabled (with_operand op w) F → AllByRecursion Fine w.instrs → AllByRecursion Fine v.instrs
  one op L w v a e h t g =
      subst (AllByRecursion Fine) (sym e) (both Fine (with_operand op w).instrs (record { operation = operation_of op L w; act = a } ∷ [])
      (subst (AllByRecursion Fine) (sym (operand_only op w).instrs) g) (operand op L w a h t, tt))

  pub laid : (p : Piece) (L : List Label) (w : Written) → StandsPiece kind links p → Tabled (layout p L w) F → AllByRecursion Fine w.instrs
      → AllByRecursion Fine (layout p L w).instrs
  unfolding put put_act put_row put_start new_label bind placed numbered_from
  laid P.empty L w h t g = g
  laid (P.act op k l again) L w h t g =
      let v = with_operand op w in
      one op L w (layout (P.act op k l again) L w) (Some (act_of k l again)) refl h
      (tabled_then v (layout (P.act op k l again) L w) F (put_act_grows (operation_of op L w) (act_of k l again) v).tables t) g
  laid (P.move op) L w h t g =
      let v = with_operand op w in
      one op L w (layout (P.move op) L w) None refl h (tabled_then v (layout (P.move op) L w) F (put_grows (operation_of op L w) v).tables t) g
  laid (P.seq p q) L w h t g =
      let v = layout p L w in
      laid q L v h.1 t (laid p L w h.0 (tabled_then v (layout q L v) F (grows q L v).tables t) g)
  laid (P.block p) L w h t g = laid p (next_label w ∷ L) (new_label w) h t g
  laid (P.headed p) L w h t g = laid p (next_label w ∷ L) (new_label w) h t g
  laid (P.closed p) L w h t g = laid p [] w h t g
  laid (P.looped i p) L w h t g = laid p [] (placed (loop_in (pick (record { 0 = 0 }) L i) (next_label w) w.place) (new_label w)) h t g
  laid (P.leave e k l) L w h t g =
      both Fine w.instrs (record { operation = To jump.Leave (exit_label e w.place.around); act = Some (act_of k l false) } ∷ []) g
      (record { stands = refl; leaves = tt }, tt)
  laid (P.ensured p) L w h t g =
      let u = layout p [] w in
      both Fine u.instrs (record { operation = Plain instr.Normal; act = None } ∷ [])
      (laid p [] w h (tabled_then u (put (Plain instr.Normal) u) F (put_grows (Plain instr.Normal) u).tables t) g) (plainly instr.Normal None refl, tt)
  laid (P.caught p q) L w h t g =
      let u = layout p [] w in
      laid q L u h.1 t (laid p [] w h.0 (tabled_then u (layout q L u) F (grows q L u).tables t) g)
  laid (P.deeper k p) L w h t g = laid p L (placed (deeper_in k w.place) w) h t g
  laid (P.started l p) L w h t g = laid p L (put_start l w) h t g
  laid (P.numbered k p) L w h t g = laid p L (numbered_from k w) h t g
