-- A name of a block stays one where code goes on, and is kept once.
use Rattle.std.proofs.Common.{if◌then◌else◌, ◌≡◌, ℕ, suc, Bool, true, false, List, [], ◌∷◌, ◌++◌, refl, sym, ap, ◌∙◌, subst, bytes_eq}
use Rattle.std.specs.Prelude.{◌||◌}
use Rattle.std.specs.List.{list_any}
use Rattle.pt_tree.specs.declared.expression.Constant.{Constant}
use Rattle.pt_tree.specs.declared.expression.Constant.TheVariants as constant
use Rattle.pt_tree.specs.Syntax.{Name}
use Rattle.pt_assembler.specs.declared.operation.Label.{Label}
use Rattle.pt_assembler.specs.Tables.{Begins, is_text, kept, number_in}
use Rattle.pt_assembler.specs.Piece as P
use Rattle.pt_assembler.specs.Piece.{Op, Piece, pick}
use Rattle.pt_assembler.specs.Layout.{Written, number_of_text, with_text, keep_constant, with_constant, with_texts, keep_list, with_list, keep_local, keep_cell, keep_free, with_local, with_cell, with_free, with_operand, put, put_act, put_row, put_start, new_label, next_label, bind, placed, numbered_from, deeper_in, loop_in, layout}
use Rattle.pt_assembler.proofs.Growth.{Tabled, tabled_then, grows}
use Rattle.sem_control.specs.control.Turn as T
use Rattle.sem_control.specs.control.Turn.{Scope}
use Rattle.pt_instr.specs.declared.TextNo.{TextNo}
use Rattle.law_operands.specs.free_names.FreeNames.{NamedOperand, NamedOperands}

pub any_front : {A : Type 0} (is : A → Bool) (xs ys : List A) → list_any is xs ≡ true → list_any is (xs ++ ys) ≡ true
any_front is [] ys h = absurd (let same : false ≡ true = h in cc)
any_front is (x ∷ xs) ys h = by (is x) h (any_front is xs ys)
  where
    by : (b : Bool) → (b || list_any is xs) ≡ true → (list_any is xs ≡ true → list_any is (xs ++ ys) ≡ true) → (b || list_any is (xs ++ ys)) ≡ true
    by true e rest = refl
    by false e rest = rest e

pub any_begins : {A : Type 0} (is : A → Bool) (xs ys : List A) → Begins xs ys → list_any is xs ≡ true → list_any is ys ≡ true
any_begins is xs ys b h = subst (λ l. list_any is l ≡ true) (sym b.1) (any_front is xs b.0 h)

number_front : {A : Type 0} (is : A → Bool) (xs ys : List A) → list_any is xs ≡ true → number_in is (xs ++ ys) ≡ number_in is xs
number_front is [] ys h = absurd (let same : false ≡ true = h in cc)
number_front is (x ∷ xs) ys h = by (is x) h (number_front is xs ys)
  where
    by : (b : Bool) → (b || list_any is xs) ≡ true → (list_any is xs ≡ true → number_in is (xs ++ ys) ≡ number_in is xs)
        → (if b then 0 else suc (number_in is (xs ++ ys))) ≡ (if b then 0 else suc (number_in is xs))
    by true e rest = refl
    by false e rest = ap suc (rest e)

number_begins : {A : Type 0} (is : A → Bool) (xs ys : List A) → Begins xs ys → list_any is xs ≡ true → number_in is ys ≡ number_in is xs
number_begins is xs ys b h = ap (number_in is) b.1 ∙ number_front is xs b.0 h

pub kept_there : {A : Type 0} (is : A → Bool) (a : A) (xs : List A) → list_any is xs ≡ true → kept is a xs ≡ xs
kept_there is a [] h = absurd (let same : false ≡ true = h in cc)
kept_there is a (x ∷ xs) h = by (is x) h (kept_there is a xs)
  where
    by : (b : Bool) → (b || list_any is xs) ≡ true → (list_any is xs ≡ true → kept is a xs ≡ xs) → (if b then x ∷ xs else x ∷ kept is a xs) ≡ x ∷ xs
    by true e rest = refl
    by false e rest = ap (λ l. x ∷ l) (rest e)

-- one of the lists of names of a block
abbrev pub Choice : Type 0
Choice = (locals cells free : List TextNo) → List TextNo

abbrev pub the_locals : Choice
the_locals xs ys zs = xs

abbrev pub the_cells : Choice
the_cells xs ys zs = ys

abbrev pub the_frees : Choice
the_frees xs ys zs = zs

abbrev pub chosen : Choice → Written → List TextNo
chosen c w = c w.locals w.cells w.free

-- the name is a text of the writer, and one of its names in the list
pub record Holds (c : Choice) (w : Written) (x : Name) : Type 0 where
  pub text : list_any (bytes_eq x) w.texts ≡ true
  pub listed : list_any (is_text (number_of_text x w)) (chosen c w) ≡ true

pub holds_on : (c : Choice) (v w : Written) (x : Name) → Tabled v w → Begins (chosen c v) (chosen c w) → Holds c v x → Holds c w x
holds_on c v w x t b h = record {
  text = any_begins (bytes_eq x) v.texts w.texts t.0 h.text;
  listed = subst (λ (n : ℕ). list_any (is_text (record { 0 = n })) (chosen c w) ≡ true) (sym (number_begins (bytes_eq x) v.texts w.texts t.0 h.text))
      (any_begins (is_text (number_of_text x v)) (chosen c v) (chosen c w) b h.listed);
}

-- a name that is there isn't listed anew

pub local_there : (x : Name) (w : Written) → Holds the_locals w x → (with_local x w).locals ≡ w.locals
unfolding with_text keep_local
local_there x w h = kept_there (is_text (number_of_text x w)) (number_of_text x w) w.locals h.listed

pub cell_there : (x : Name) (w : Written) → Holds the_cells w x → (with_cell x w).cells ≡ w.cells
unfolding with_text keep_cell
cell_there x w h = kept_there (is_text (number_of_text x w)) (number_of_text x w) w.cells h.listed

pub free_there : (x : Name) (w : Written) → Holds the_frees w x → (with_free x w).free ≡ w.free
unfolding with_text keep_free
free_there x w h = kept_there (is_text (number_of_text x w)) (number_of_text x w) w.free h.listed

module _ (c : Choice) where
  text_kept : (x : Name) (w : Written) → chosen c (with_text x w) ≡ chosen c w
  unfolding with_text
  text_kept x w = refl

  constant_kept : (k : Constant) (w : Written) → chosen c (with_constant k w) ≡ chosen c w
  unfolding with_text keep_constant
  constant_kept (constant.Str x) w = refl
  constant_kept constant.None w = refl
  constant_kept (constant.Bool true) w = refl
  constant_kept (constant.Bool false) w = refl
  constant_kept constant.Ellipsis w = refl
  constant_kept (constant.Int n) w = refl

  texts_kept : (xs : List Name) (w : Written) → chosen c (with_texts xs w) ≡ chosen c w
  texts_kept [] w = refl
  texts_kept (x ∷ xs) w = texts_kept xs (with_text x w) ∙ text_kept x w

  list_kept : (xs : List Name) (w : Written) → chosen c (with_list xs w) ≡ chosen c w
  unfolding keep_list
  list_kept xs w = texts_kept xs w

  -- a list stays as it is where operands that name what Q says leave it
  module _ (v : Written) (Q : Scope → Name → Type 0)
      (locals : (x : Name) (w : Written) → Tabled v w → Q T.local x → chosen c (with_local x w) ≡ chosen c w)
      (cells : (x : Name) (w : Written) → Tabled v w → Q T.cell x → chosen c (with_cell x w) ≡ chosen c w)
      (frees : (x : Name) (w : Written) → Tabled v w → Q T.free x → chosen c (with_free x w) ≡ chosen c w) where
    operand_kept : (op : Op) (w : Written) → Tabled v w → NamedOperand Q op → chosen c (with_operand op w) ≡ chosen c w
    operand_kept (P.plain i) w t h = refl
    operand_kept P.never w t h = refl
    operand_kept (P.const k) w t h = constant_kept k w
    operand_kept (P.with_local f x) w t h = locals x w t h
    operand_kept (P.with_cell f x) w t h = cells x w t h
    operand_kept (P.with_free u x) w t h = frees x w t h
    operand_kept (P.with_text f x) w t h = text_kept x w
    operand_kept (P.with_list f xs) w t h = list_kept xs w
    operand_kept (P.to j l) w t h = refl

    start_tabled : (l : ℕ) (w : Written) → Tabled v w → Tabled v (put_start l w)
    start_tabled l w t = tabled_then v w (put_start l w) t (grows (P.started l P.empty) [] w).tables

    pub layout_kept : (p : Piece) (L : List Label) (w : Written) → Tabled v w → NamedOperands Q p → chosen c (layout p L w) ≡ chosen c w
    unfolding put put_act put_row put_start new_label bind placed numbered_from
    layout_kept P.empty L w t h = refl
    layout_kept (P.act op k l again) L w t h = operand_kept op w t h
    layout_kept (P.move op) L w t h = operand_kept op w t h
    layout_kept (P.seq a b) L w t h =
        layout_kept b L (layout a L w) (tabled_then v w (layout a L w) t (grows a L w).tables) h.1 ∙ layout_kept a L w t h.0
    layout_kept (P.block p) L w t h = layout_kept p (next_label w ∷ L) (new_label w) t h
    layout_kept (P.headed p) L w t h = layout_kept p (next_label w ∷ L) (new_label w) t h
    layout_kept (P.closed p) L w t h = layout_kept p [] w t h
    layout_kept (P.looped b p) L w t h =
        layout_kept p [] (placed (loop_in (pick (record { 0 = 0 }) L b) (next_label w) w.place) (new_label w)) t h
    layout_kept (P.leave e k l) L w t h = refl
    layout_kept (P.ensured p) L w t h = layout_kept p [] w t h
    layout_kept (P.caught p q) L w t h =
        layout_kept q L (layout p [] w) (tabled_then v w (layout p [] w) t (grows p [] w).tables) h.1 ∙ layout_kept p [] w t h.0
    layout_kept (P.deeper k p) L w t h = layout_kept p L (placed (deeper_in k w.place) w) t h
    layout_kept (P.started l p) L w t h = layout_kept p L (put_start l w) (start_tabled l w t) h
    layout_kept (P.numbered k p) L w t h = layout_kept p L (numbered_from k w) t h
