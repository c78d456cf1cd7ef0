-- Each instruction of a piece that is laid out names what the tables have, where each operation of the piece does.
use Rattle.std.proofs.Common.{◌≡◌, ℕ, ◌<◌, ◌≤◌, ◌+◌, List, [], ◌∷◌, ◌++◌, length, Some, None, refl, sym, subst, arith, bytes_eq, Option, true, false}
use Rattle.std.specs.List.{AllByRecursion}
use Rattle.pt_tree.specs.declared.expression.Constant.{Constant}
use Rattle.pt_tree.specs.declared.expression.Constant.TheVariants as constant
use Rattle.pt_tree.specs.Syntax.{Name}
use Rattle.pt_instr.specs.declared.ConstNo.{ConstNo}
use Rattle.pt_instr.specs.declared.TextNo.{TextNo}
use Rattle.pt_instr.specs.declared.ListNo.{ListNo}
use Rattle.pt_instr.specs.declared.SlotNo.{SlotNo}
use Rattle.pt_instr.specs.declared.Instr.TheVariants as instr
use Rattle.pt_instr.specs.Encoding.{code_of}
use Rattle.pt_code.specs.declared.Const.TheVariants as const
use Rattle.pt_code.specs.declared.parts.Within.{Within}
use Rattle.pt_assembler.specs.declared.operation.Label.{Label}
use Rattle.pt_assembler.specs.declared.operation.Jump.{Jump}
use Rattle.pt_assembler.specs.declared.operation.Jump.TheVariants as jump
use Rattle.pt_assembler.specs.declared.operation.FreeUse.{FreeUse}
use Rattle.pt_assembler.specs.declared.operation.FreeUse.TheVariants as use_of
use Rattle.pt_assembler.specs.declared.operation.Operation.TheVariants.{Plain, To}
use Rattle.pt_assembler.specs.declared.operation.Act.{Act}
use Rattle.pt_assembler.specs.declared.operation.Placed.{Placed}
use Rattle.pt_assembler.specs.Tables.{Begins, is_text, is_const, number_in}
use Rattle.pt_assembler.specs.Piece as P
use Rattle.pt_assembler.specs.Piece.{Op, Piece, pick}
use Rattle.pt_assembler.specs.PieceAt.{instr_to, instr_of_free}
use Rattle.pt_assembler.specs.Layout.{Written, text_no, number_of_text, with_text, keep_constant, with_constant, constant_no, with_texts, list_for, keep_list, with_list, list_no, keep_local, keep_cell, keep_free, with_local, local_no, with_cell, cell_no, with_free, free_no, operation_of, with_operand, put, put_act, act_of, put_row, put_start, new_label, next_label, bind, placed, numbered_from, deeper_in, loop_in, exit_label, layout, label_at, instr_in}
use Rattle.pt_assembler.proofs.TableLemmas.{kept_within, begins_length}
use Rattle.pt_assembler.proofs.Growth.{Tabled, tabled_then, operand_only, grows}
use Rattle.law_files.proofs.code_files.Each.{both}
use Rattle.law_files.proofs.code_files.Wrapped.{NamesIn}

-- what an operation's instruction names, where a code has so many blocks, and what is so of each free name; what its operand names is in the tables
abbrev pub NamesOp : (Name → Type 0) → (blocks : ℕ) → Op → Type 0
NamesOp Q n (P.plain i) = (within : Within) → within.blocks ≡ n → NamesIn within i
NamesOp Q n P.never = Unit {0}
NamesOp Q n (P.const k) = Unit {0}
NamesOp Q n (P.with_local f x) = (within : Within) (i : SlotNo) → i.0 < within.locals → NamesIn within (f i)
NamesOp Q n (P.with_cell f x) = (within : Within) (i : SlotNo) → i.0 < within.cells → NamesIn within (f i)
NamesOp Q n (P.with_free u x) = Q x
NamesOp Q n (P.with_text f x) = (within : Within) (t : TextNo) → t.0 < within.texts → NamesIn within (f t)
NamesOp Q n (P.with_list f xs) = (within : Within) (l : ListNo) → within.blocks ≡ n → l.0 < within.lists → NamesIn within (f l)
NamesOp Q n (P.to j l) = Unit {0}

abbrev pub NamesPiece : (Name → Type 0) → (blocks : ℕ) → Piece → Type 0
NamesPiece Q n P.empty = Unit {0}
NamesPiece Q n (P.act op k l g) = NamesOp Q n op
NamesPiece Q n (P.move op) = NamesOp Q n op
NamesPiece Q n (P.seq a b) = NamesPiece Q n a × NamesPiece Q n b
NamesPiece Q n (P.block p) = NamesPiece Q n p
NamesPiece Q n (P.headed p) = NamesPiece Q n p
NamesPiece Q n (P.closed p) = NamesPiece Q n p
NamesPiece Q n (P.looped b p) = NamesPiece Q n p
NamesPiece Q n (P.leave e k l) = Unit {0}
NamesPiece Q n (P.ensured p) = NamesPiece Q n p
NamesPiece Q n (P.caught p q) = NamesPiece Q n p × NamesPiece Q n q
NamesPiece Q n (P.deeper k p) = NamesPiece Q n p
NamesPiece Q n (P.started l p) = NamesPiece Q n p
NamesPiece Q n (P.numbered k p) = NamesPiece Q n p

nop_names : (within : Within) → NamesIn within instr.Nop
unfolding code_of
nop_names within = tt

normal_names : (within : Within) → NamesIn within instr.Normal
unfolding code_of
normal_names within = tt

constant_names : (within : Within) (c : ConstNo) → c.0 < within.constants → NamesIn within (instr.Const c)
unfolding code_of
constant_names within c h = (h, tt)

to_names : (within : Within) (j : Jump) (pc : ℕ) → NamesIn within (instr_to j pc)
unfolding code_of
to_names within jump.AtEnd p = (tt, tt)
to_names within jump.Always p = (tt, tt)
to_names within jump.IfTrue p = (tt, tt)
to_names within jump.IfFalse p = (tt, tt)
to_names within jump.IfTrueKeep p = (tt, tt)
to_names within jump.IfFalseKeep p = (tt, tt)
to_names within jump.Leave p = (tt, tt)

free_names : (within : Within) (u : FreeUse) (i : ℕ) → i < within.cells → NamesIn within (instr_of_free u i)
unfolding code_of
free_names within use_of.Load i h = (h, tt)
free_names within use_of.Store i h = (h, tt)
free_names within use_of.Delete i h = (h, tt)
free_names within use_of.Renew i h = (h, tt)
free_names within use_of.Push i h = (h, tt)

-- where operands are kept

text_kept : (x : Name) (w : Written) → text_no x w < length (with_text x w).texts
unfolding with_text
text_kept x w = kept_within (bytes_eq x) x w.texts

constant_kept : (k : Constant) (w : Written) → constant_no k w < length (with_constant k w).constants
unfolding with_text keep_constant
constant_kept (constant.Str x) w = kept_within (is_const (const.Text (number_of_text x w))) (const.Text (number_of_text x w)) w.constants
constant_kept constant.None w = kept_within (is_const const.None) const.None w.constants
constant_kept (constant.Bool true) w = kept_within (is_const const.True) const.True w.constants
constant_kept (constant.Bool false) w = kept_within (is_const const.False) const.False w.constants
constant_kept constant.Ellipsis w = kept_within (is_const const.Ellipsis) const.Ellipsis w.constants
constant_kept (constant.Int n) w = kept_within (is_const (const.Int n)) (const.Int n) w.constants

local_kept : (x : Name) (w : Written) → local_no x w < length (with_local x w).locals
unfolding with_text keep_local
local_kept x w = kept_within (is_text (number_of_text x w)) (number_of_text x w) w.locals

cell_kept : (x : Name) (w : Written) → cell_no x w < length (with_cell x w).cells
unfolding with_text keep_cell
cell_kept x w = kept_within (is_text (number_of_text x w)) (number_of_text x w) w.cells

free_kept : (x : Name) (w : Written) → free_no x w < length (with_free x w).free
unfolding with_text keep_free
free_kept x w = kept_within (is_text (number_of_text x w)) (number_of_text x w) w.free

lists_same : (xs : List Name) (w : Written) → (with_texts xs w).lists ≡ w.lists
unfolding with_text
lists_same [] w = refl
lists_same (x ∷ xs) w = lists_same xs (with_text x w)

list_kept : (xs : List Name) (w : Written) → list_no xs w < length (with_list xs w).lists
unfolding keep_list
list_kept xs w =
    let ts = list_for xs w in
    subst (λ (ls : List (List ℕ)). number_in (bytes_eq ts) ls < length (with_list xs w).lists) (lists_same xs w)
    (kept_within (bytes_eq ts) ts (with_texts xs w).lists)

within_all : {A : Type 0} (xs ys : List A) (i n : ℕ) → Begins xs ys → length ys ≤ n → i < length xs → i < n
within_all xs ys i n b e h = let k = begins_length xs ys i b h in omega arith

module _ (Q : Name → Type 0) (F : Written) (within : Within) (n : ℕ) (blocks : within.blocks ≡ n) (texts : length F.texts ≤ within.texts)
    (constants : length F.constants ≤ within.constants) (lists : length F.lists ≤ within.lists) (locals : length F.locals ≤ within.locals)
    (cells : length F.cells + length F.free ≤ within.cells) where
  abbrev Good : Placed → Type 0
  Good p = NamesIn within (instr_in F p.operation)

  operand_good : (op : Op) (L : List Label) (w : Written) → NamesOp Q n op → Tabled (with_operand op w) F → NamesIn within (instr_in F (operation_of op L w))
  operand_good (P.plain i) L w h t = h within blocks
  operand_good P.never L w h t = nop_names within
  operand_good (P.const k) L w h t =
      constant_names within (record { 0 = constant_no k w })
      (within_all (with_constant k w).constants F.constants (constant_no k w) within.constants t.1.0 constants (constant_kept k w))
  operand_good (P.with_local f x) L w h t =
      h within (record { 0 = local_no x w }) (within_all (with_local x w).locals F.locals (local_no x w) within.locals t.1.1.1.0 locals (local_kept x w))
  operand_good (P.with_cell f x) L w h t =
      h within (record { 0 = cell_no x w })
      (within_all (with_cell x w).cells F.cells (cell_no x w) within.cells t.1.1.1.1.0 (omega (arith, cells)) (cell_kept x w))
  operand_good (P.with_free u x) L w h t =
      let i : free_no x w < length F.free = begins_length (with_free x w).free F.free (free_no x w) t.1.1.1.1.1.0 (free_kept x w) in
      free_names within u (length F.cells + free_no x w) (omega (arith, cells))
  operand_good (P.with_text f x) L w h t =
      h within (number_of_text x w) (within_all (with_text x w).texts F.texts (text_no x w) within.texts t.0 texts (text_kept x w))
  operand_good (P.with_list f xs) L w h t =
      h within (record { 0 = list_no xs w }) blocks
      (within_all (with_list xs w).lists F.lists (list_no xs w) within.lists t.1.1.0 lists (list_kept xs w))
  operand_good (P.to j l) L w h t = to_names within j (label_at F (pick (record { 0 = 0 }) L l)).pc.0

  one_more : (op : Op) (L : List Label) (w : Written) (a : Option Act) → NamesOp Q n op → Tabled (with_operand op w) F → AllByRecursion Good w.instrs
      → AllByRecursion Good ((with_operand op w).instrs ++ record { operation = operation_of op L w; act = a } ∷ [])
  one_more op L w a h t g =
      both Good (with_operand op w).instrs (record { operation = operation_of op L w; act = a } ∷ [])
      (subst (AllByRecursion Good) (sym (operand_only op w).instrs) g) (operand_good op L w h t, tt)

  pub layout_good : (p : Piece) (L : List Label) (w : Written) → NamesPiece Q n p → Tabled (layout p L w) F → AllByRecursion Good w.instrs
      → AllByRecursion Good (layout p L w).instrs
  unfolding put put_act put_row put_start new_label bind placed numbered_from
  layout_good P.empty L w h t g = g
  layout_good (P.act op k l again) L w h t g = one_more op L w (Some (act_of k l again)) h t g
  layout_good (P.move op) L w h t g = one_more op L w None h t g
  layout_good (P.seq a b) L w h t g =
      let v = layout a L w in
      layout_good b L v h.1 t (layout_good a L w h.0 (tabled_then v (layout b L v) F (grows b L v).tables t) g)
  layout_good (P.block p) L w h t g = layout_good p (next_label w ∷ L) (new_label w) h t g
  layout_good (P.headed p) L w h t g = layout_good p (next_label w ∷ L) (new_label w) h t g
  layout_good (P.closed p) L w h t g = layout_good p [] w h t g
  layout_good (P.looped b p) L w h t g =
      layout_good p [] (placed (loop_in (pick (record { 0 = 0 }) L b) (next_label w) w.place) (new_label w)) h t g
  layout_good (P.leave e k l) L w h t g =
      let o = To jump.Leave (exit_label e w.place.around) in
      both Good w.instrs (record { operation = o; act = Some (act_of k l false) } ∷ []) g (to_names within jump.Leave (label_at F (exit_label e w.place.around)).pc.0, tt)
  layout_good (P.ensured p) L w h t g =
      both Good (layout p [] w).instrs (record { operation = Plain instr.Normal; act = None } ∷ []) (layout_good p [] w h t g) (normal_names within, tt)
  layout_good (P.caught p q) L w h t g =
      let u = layout p [] w in
      layout_good q L u h.1 t (layout_good p [] w h.0 (tabled_then u (layout q L u) F (grows q L u).tables t) g)
  layout_good (P.deeper k p) L w h t g = layout_good p L (placed (deeper_in k w.place) w) h t g
  layout_good (P.started l p) L w h t g = layout_good p L (put_start l w) h t g
  layout_good (P.numbered k p) L w h t g = layout_good p L (numbered_from k w) h t g
