-- A piece without free names leaves those of its block as they are.
use Rattle.std.proofs.Common.{◌≡◌, ℕ, true, false, List, [], ◌∷◌, refl, ◌∙◌}
use Rattle.pt_tree.specs.declared.expression.Constant.{Constant}
use Rattle.pt_tree.specs.declared.expression.Constant.TheVariants as constant
use Rattle.pt_tree.specs.Syntax.{Name}
use Rattle.pt_assembler.specs.declared.operation.Label.{Label}
use Rattle.pt_assembler.specs.Piece as P
use Rattle.pt_assembler.specs.Piece.{Op, Piece, pick}
use Rattle.pt_assembler.specs.Layout.{Written, with_text, keep_constant, with_constant, with_texts, keep_list, with_list, keep_local, keep_cell, with_local, with_cell, with_operand, put, put_act, put_row, put_start, new_label, next_label, bind, placed, numbered_from, deeper_in, loop_in, layout}
use Rattle.sem_compile.specs.compile.ScriptCode.{with_all}
use Rattle.law_files.proofs.code_files.Placed.{NamesOp, NamesPiece}

abbrev pub Nothing : Name → Type 0
Nothing x = ⊥

constant_free : (k : Constant) (w : Written) → (with_constant k w).free ≡ w.free
unfolding with_text keep_constant
constant_free (constant.Str x) w = refl
constant_free constant.None w = refl
constant_free (constant.Bool true) w = refl
constant_free (constant.Bool false) w = refl
constant_free constant.Ellipsis w = refl
constant_free (constant.Int n) w = refl

pub text_free : (x : Name) (w : Written) → (with_text x w).free ≡ w.free
unfolding with_text
text_free x w = refl

pub local_free : (x : Name) (w : Written) → (with_local x w).free ≡ w.free
unfolding with_text keep_local
local_free x w = refl

pub cell_free : (x : Name) (w : Written) → (with_cell x w).free ≡ w.free
unfolding with_text keep_cell
cell_free x w = refl

texts_free : (xs : List Name) (w : Written) → (with_texts xs w).free ≡ w.free
texts_free [] w = refl
texts_free (x ∷ xs) w = texts_free xs (with_text x w) ∙ text_free x w

list_free : (xs : List Name) (w : Written) → (with_list xs w).free ≡ w.free
unfolding keep_list
list_free xs w = texts_free xs w

pub all_free : (f : Name → Written → Written) → ((x : Name) (w : Written) → (f x w).free ≡ w.free) → (xs : List Name) (w : Written)
    → (with_all f xs w).free ≡ w.free
all_free f g [] w = refl
all_free f g (x ∷ xs) w = all_free f g xs (f x w) ∙ g x w

operand_free : (n : ℕ) (op : Op) (w : Written) → NamesOp Nothing n op → (with_operand op w).free ≡ w.free
operand_free n (P.plain i) w h = refl
operand_free n P.never w h = refl
operand_free n (P.const k) w h = constant_free k w
operand_free n (P.with_local f x) w h = local_free x w
operand_free n (P.with_cell f x) w h = cell_free x w
operand_free n (P.with_free u x) w h = absurd h
operand_free n (P.with_text f x) w h = text_free x w
operand_free n (P.with_list f xs) w h = list_free xs w
operand_free n (P.to j l) w h = refl

pub layout_free : (n : ℕ) (p : Piece) (L : List Label) (w : Written) → NamesPiece Nothing n p → (layout p L w).free ≡ w.free
unfolding put put_act put_row put_start new_label bind placed numbered_from
layout_free n P.empty L w h = refl
layout_free n (P.act op k l again) L w h = operand_free n op w h
layout_free n (P.move op) L w h = operand_free n op w h
layout_free n (P.seq a b) L w h = layout_free n b L (layout a L w) h.1 ∙ layout_free n a L w h.0
layout_free n (P.block p) L w h = layout_free n p (next_label w ∷ L) (new_label w) h
layout_free n (P.headed p) L w h = layout_free n p (next_label w ∷ L) (new_label w) h
layout_free n (P.closed p) L w h = layout_free n p [] w h
layout_free n (P.looped b p) L w h =
    layout_free n p [] (placed (loop_in (pick (record { 0 = 0 }) L b) (next_label w) w.place) (new_label w)) h
layout_free n (P.leave e k l) L w h = refl
layout_free n (P.ensured p) L w h = layout_free n p [] w h
layout_free n (P.caught p q) L w h = layout_free n q L (layout p [] w) h.1 ∙ layout_free n p [] w h.0
layout_free n (P.deeper k p) L w h = layout_free n p L (placed (deeper_in k w.place) w) h
layout_free n (P.started l p) L w h = layout_free n p L (put_start l w) h
layout_free n (P.numbered k p) L w h = layout_free n p L (numbered_from k w) h
