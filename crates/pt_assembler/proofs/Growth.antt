-- What is written stays, and tables only grow.
use Rattle.std.proofs.Common.{◌≡◌, ℕ, ◌<◌, ◌≤◌, ◌+◌, inl, inr, ◌⊎◌, true, false, List, [], ◌∷◌, ◌++◌, length, get_or, Some, None, refl, sym, ap, ◌∙◌, append_assoc, append-nil, length-append, arith, bytes_eq, if◌then◌else◌}
use Rattle.std.proofs.lemmas.Bool.Decides.{nat_tests}
use Rattle.std.proofs.lemmas.List.{get_or_append_left, get_or-set_same, get_or-set_other, length-set}
use Rattle.std.proofs.lemmas.List.Elements.{filter-append}
use Rattle.pt_ranges.specs.declared.handlers.Handler.{Handler}
use Rattle.pt_ranges.specs.Rows.{covers}
use Rattle.pt_tree.specs.declared.expression.Constant.{Constant}
use Rattle.pt_tree.specs.declared.expression.Constant.TheVariants as constant
use Rattle.pt_tree.specs.Syntax.{Name}
use Rattle.pt_instr.specs.declared.TextNo.{TextNo}
use Rattle.pt_instr.specs.declared.Instr.TheVariants as instr
use Rattle.pt_code.specs.declared.Const.{Const}
use Rattle.pt_assembler.specs.declared.operation.Label.{Label}
use Rattle.pt_assembler.specs.declared.operation.Act.{Act}
use Rattle.pt_assembler.specs.declared.operation.Operation.{Operation}
use Rattle.pt_assembler.specs.declared.operation.Operation.TheVariants.{Plain}
use Rattle.pt_assembler.specs.declared.operation.Placed.{Placed}
use Rattle.pt_assembler.specs.declared.operation.Place.{Place}
use Rattle.pt_assembler.specs.Tables.{is_text, Begins, is_const}
use Rattle.pt_assembler.specs.Piece as P
use Rattle.pt_assembler.specs.Piece.{Op, Piece, empty, act, move, seq, block, headed, closed, looped, leave, ensured, caught, deeper, started, numbered, pick}
use Rattle.pt_assembler.specs.PieceAt.{target, start_of, row_of}
use Rattle.pt_assembler.specs.Layout.{Written, width, wide, at, number_of_text, with_text, keep_constant, keep_list, keep_local, keep_cell, keep_free, with_texts, list_for, with_constant_text, const_for, operation_of, with_operand, put, put_act, act_of, put_row, put_start, new_label, next_label, bind, placed, numbered_from, deeper_in, loop_in, layout, label_at}
use Rattle.pt_assembler.proofs.TableLemmas.{begins_same, begins_then, begins_more, kept_begins}
use Rattle.pt_assembler.proofs.Shown.{rows_at, wide-append, wide_end}

-- the tables, and the starts: texts, constants, lists, local names, cell names, free names, starts
abbrev pub Tabled : (a b : Written) → Type 0
Tabled a b = Begins a.texts b.texts × (Begins a.constants b.constants × (Begins a.lists b.lists
    × (Begins a.locals b.locals × (Begins a.cells b.cells × (Begins a.free b.free × Begins a.starts b.starts)))))

pub tabled_same : (w : Written) → Tabled w w
tabled_same w = (
  begins_same w.texts,
  (begins_same w.constants, (begins_same w.lists, (begins_same w.locals, (begins_same w.cells, (begins_same w.free, begins_same w.starts))))),
)

pub tabled_then : (a b c : Written) → Tabled a b → Tabled b c → Tabled a c
tabled_then a b c (t, (k, (l, (x, (y, (z, s)))))) (t', (k', (l', (x', (y', (z', s')))))) = (
  begins_then a.texts b.texts c.texts t t',
  (
    begins_then a.constants b.constants c.constants k k',
    (
      begins_then a.lists b.lists c.lists l l',
      (
        begins_then a.locals b.locals c.locals x x',
        (
          begins_then a.cells b.cells c.cells y y',
          (begins_then a.free b.free c.free z z', begins_then a.starts b.starts c.starts s s'),
        ),
      ),
    ),
  ),
)

-- tables alone are other
pub record OnlyTables (a b : Written) : Type 0 where
  pub tables : Tabled a b
  pub instrs : b.instrs ≡ a.instrs
  pub rows : b.rows ≡ a.rows
  pub starts : b.starts ≡ a.starts
  pub labels : b.labels ≡ a.labels
  pub place : b.place ≡ a.place

only_none : (w : Written) → OnlyTables w w
only_none w = record { tables = tabled_same w; instrs = refl; rows = refl; starts = refl; labels = refl; place = refl }

pub only_then : (a b c : Written) → OnlyTables a b → OnlyTables b c → OnlyTables a c
only_then a b c s t = record {
  tables = tabled_then a b c s.tables t.tables;
  instrs = t.instrs ∙ s.instrs;
  rows = t.rows ∙ s.rows;
  starts = t.starts ∙ s.starts;
  labels = t.labels ∙ s.labels;
  place = t.place ∙ s.place;
}

pub text_only : (x : Name) (w : Written) → OnlyTables w (with_text x w)
unfolding with_text
text_only x w = record { tables = (kept_begins (bytes_eq x) x w.texts, (begins_same w.constants, (begins_same w.lists, (begins_same w.locals, (begins_same w.cells, (begins_same w.free, begins_same w.starts)))))); instrs = refl; rows = refl; starts = refl; labels = refl; place = refl }

pub texts_only : (xs : List Name) (w : Written) → OnlyTables w (with_texts xs w)
texts_only [] w = only_none w
texts_only (x ∷ xs) w = only_then w (with_text x w) _ (text_only x w) (texts_only xs (with_text x w))

pub constant_only : (c : Const) (w : Written) → OnlyTables w (keep_constant c w)
unfolding keep_constant
constant_only c w = record { tables = (begins_same w.texts, (kept_begins (is_const c) c w.constants, (begins_same w.lists, (begins_same w.locals, (begins_same w.cells, (begins_same w.free, begins_same w.starts)))))); instrs = refl; rows = refl; starts = refl; labels = refl; place = refl }

pub list_only : (ts : List ℕ) (w : Written) → OnlyTables w (keep_list ts w)
unfolding keep_list
list_only ts w = record { tables = (begins_same w.texts, (begins_same w.constants, (kept_begins (bytes_eq ts) ts w.lists, (begins_same w.locals, (begins_same w.cells, (begins_same w.free, begins_same w.starts)))))); instrs = refl; rows = refl; starts = refl; labels = refl; place = refl }

pub local_only : (t : TextNo) (w : Written) → OnlyTables w (keep_local t w)
unfolding keep_local
local_only t w = record { tables = (begins_same w.texts, (begins_same w.constants, (begins_same w.lists, (kept_begins (is_text t) t w.locals, (begins_same w.cells, (begins_same w.free, begins_same w.starts)))))); instrs = refl; rows = refl; starts = refl; labels = refl; place = refl }

pub cell_only : (t : TextNo) (w : Written) → OnlyTables w (keep_cell t w)
unfolding keep_cell
cell_only t w = record { tables = (begins_same w.texts, (begins_same w.constants, (begins_same w.lists, (begins_same w.locals, (kept_begins (is_text t) t w.cells, (begins_same w.free, begins_same w.starts)))))); instrs = refl; rows = refl; starts = refl; labels = refl; place = refl }

pub free_only : (t : TextNo) (w : Written) → OnlyTables w (keep_free t w)
unfolding keep_free
free_only t w = record { tables = (begins_same w.texts, (begins_same w.constants, (begins_same w.lists, (begins_same w.locals, (begins_same w.cells, (kept_begins (is_text t) t w.free, begins_same w.starts)))))); instrs = refl; rows = refl; starts = refl; labels = refl; place = refl }

pub constant_text_only : (k : Constant) (w : Written) → OnlyTables w (with_constant_text k w)
constant_text_only (constant.Str x) w = text_only x w
constant_text_only constant.None w = only_none w
constant_text_only (constant.Bool b) w = only_none w
constant_text_only constant.Ellipsis w = only_none w
constant_text_only (constant.Int n) w = only_none w

pub operand_only : (op : Op) (w : Written) → OnlyTables w (with_operand op w)
operand_only (P.plain i) w = only_none w
operand_only P.never w = only_none w
operand_only (P.const k) w = only_then w (with_constant_text k w) _ (constant_text_only k w) (constant_only (const_for k w) (with_constant_text k w))
operand_only (P.with_local f x) w = only_then w (with_text x w) _ (text_only x w) (local_only (number_of_text x w) (with_text x w))
operand_only (P.with_cell f x) w = only_then w (with_text x w) _ (text_only x w) (cell_only (number_of_text x w) (with_text x w))
operand_only (P.with_free u x) w = only_then w (with_text x w) _ (text_only x w) (free_only (number_of_text x w) (with_text x w))
operand_only (P.with_text f x) w = text_only x w
operand_only (P.with_list f xs) w = only_then w (with_texts xs w) _ (texts_only xs w) (list_only (list_for xs w) (with_texts xs w))
operand_only (P.to j l) w = only_none w

-- rows and the places that they cover

covers_not : (r : Handler) (q : ℕ) → (q < r.from.0) ⊎ (r.to.0 ≤ q) → covers r (record { 0 = q }) ≡ false
covers_not r q h = grind (arith, nat_tests)

pub covers_in : (r : Handler) (q : ℕ) → r.from.0 ≤ q → q < r.to.0 → covers r (record { 0 = q }) ≡ true
covers_in r q h k = grind (arith, nat_tests)

pub covers_out : (r : Handler) (q : ℕ) → r.to.0 ≤ q → covers r (record { 0 = q }) ≡ false
covers_out r q h = covers_not r q (inr h)

pub one_not : (rows : List Handler) (r : Handler) (q : ℕ) → (q < r.from.0) ⊎ (r.to.0 ≤ q) → rows_at (rows ++ r ∷ []) q ≡ rows_at rows q
one_not rows r q h =
    filter-append (λ row. covers row (record { 0 = q })) rows (r ∷ [])
    ∙ ap (λ c. rows_at rows q ++ (if c then r ∷ [] else [])) (covers_not r q h) ∙ append-nil (rows_at rows q)

pub one_in : (rows : List Handler) (r : Handler) (q : ℕ) → r.from.0 ≤ q → q < r.to.0 → rows_at (rows ++ r ∷ []) q ≡ rows_at rows q ++ r ∷ []
one_in rows r q h k =
    filter-append (λ row. covers row (record { 0 = q })) rows (r ∷ []) ∙ ap (λ c. rows_at rows q ++ (if c then r ∷ [] else [])) (covers_in r q h k)

-- no row of it covers what is not yet written
abbrev pub Fresh : Written → Type 0
Fresh w = (q : ℕ) → at w ≤ q → rows_at w.rows q ≡ []

pub record Grows (a b : Written) : Type 0 where
  pub more : List Placed
  pub code : b.instrs ≡ a.instrs ++ more
  pub count : length a.labels ≤ length b.labels
  pub labels : (k : Label) → k.0 < length a.labels → label_at b k ≡ label_at a k
  pub rows : (q : ℕ) → q < at a → rows_at b.rows q ≡ rows_at a.rows q
  pub fresh : Fresh a → Fresh b
  pub tables : Tabled a b

pub later : (a b : Written) → Grows a b → at a ≤ at b
later a b g = let e : at b ≡ at a + wide g.more = ap wide g.code ∙ wide-append a.instrs g.more in omega arith

pub grows_not : (w : Written) → Grows w w
grows_not w = record {
  more = [];
  code = sym (append-nil w.instrs);
  count = omega arith;
  labels = λ k h. refl;
  rows = λ q h. refl;
  fresh = λ f. f;
  tables = tabled_same w;
}

pub grows_on : (a b c : Written) → Grows a b → Grows b c → Grows a c
grows_on a b c g h = let l = later a b g in record {
  more = g.more ++ h.more;
  code = h.code ∙ ap (λ xs. xs ++ h.more) g.code ∙ append_assoc a.instrs g.more h.more;
  count = let i = g.count in let j = h.count in omega arith;
  labels = λ k u. h.labels k (let i = g.count in omega arith) ∙ g.labels k u;
  rows = λ q u. h.rows q (omega arith) ∙ g.rows q u;
  fresh = λ f. h.fresh (g.fresh f);
  tables = tabled_then a b c g.tables h.tables;
}

pub one_more : (w b : Written) (p : Placed) → b.instrs ≡ w.instrs ++ p ∷ [] → b.labels ≡ w.labels → b.rows ≡ w.rows → Tabled w b → Grows w b
one_more w b p e l r t =
    let n : at b ≡ at w + width p.operation = ap wide e ∙ wide_end w.instrs p in record {
      more = p ∷ [];
      code = e;
      count = let m = ap length l in omega arith;
      labels = λ k h. ap (λ ls. get_or ls k.0 start_of) l;
      rows = λ q h. ap (λ rs. rows_at rs q) r;
      fresh = λ f q u. ap (λ rs. rows_at rs q) r ∙ f q (omega arith);
      tables = t;
    }

pub put_grows : (o : Operation) (w : Written) → Grows w (put o w)
unfolding put
put_grows o w = one_more w (put o w) (record { operation = o; act = None }) refl refl refl (tabled_same w)

pub put_act_grows : (o : Operation) (a : Act) (w : Written) → Grows w (put_act o a w)
unfolding put_act
put_act_grows o a w = one_more w (put_act o a w) (record { operation = o; act = Some a }) refl refl refl (tabled_same w)

pub only_grows : (w v : Written) → OnlyTables w v → Grows w v
only_grows w v o =
    let n : at v ≡ at w = ap wide o.instrs in record {
      more = [];
      code = o.instrs ∙ sym (append-nil w.instrs);
      count = let m = ap length o.labels in omega arith;
      labels = λ k h. ap (λ ls. get_or ls k.0 start_of) o.labels;
      rows = λ q h. ap (λ rs. rows_at rs q) o.rows;
      fresh = λ f q u. ap (λ rs. rows_at rs q) o.rows ∙ f q (omega arith);
      tables = o.tables;
    }

pub to_place : (a b : Written) (p : Place) → Grows a b → Grows a (placed p b)
unfolding placed
to_place a b p g = record {
  more = g.more;
  code = g.code;
  count = g.count;
  labels = g.labels;
  rows = g.rows;
  fresh = g.fresh;
  tables = g.tables;
}

pub from_place : (a b : Written) (p : Place) → Grows (placed p a) b → Grows a b
unfolding placed
from_place a b p g = record {
  more = g.more;
  code = g.code;
  count = g.count;
  labels = g.labels;
  rows = g.rows;
  fresh = g.fresh;
  tables = g.tables;
}

pub from_number : (a b : Written) (n : ℕ) → Grows (numbered_from n a) b → Grows a b
unfolding numbered_from
from_number a b n g = record {
  more = g.more;
  code = g.code;
  count = g.count;
  labels = g.labels;
  rows = g.rows;
  fresh = g.fresh;
  tables = g.tables;
}

pub start_grows : (l : ℕ) (w : Written) → Grows w (put_start l w)
unfolding put_start
start_grows l w = record {
  more = [];
  code = sym (append-nil w.instrs);
  count = omega arith;
  labels = λ k h. refl;
  rows = λ q h. refl;
  fresh = λ f. f;
  tables = (begins_same w.texts, (begins_same w.constants, (begins_same w.lists, (begins_same w.locals, (begins_same w.cells, (begins_same w.free, begins_more w.starts _))))));
}

pub label_grows : (w : Written) → Grows w (new_label w)
unfolding new_label
label_grows w = record {
  more = [];
  code = sym (append-nil w.instrs);
  count = omega (arith, length-append w.labels (target (at w) w.place.depth ∷ []));
  labels = λ k h. get_or_append_left w.labels (target (at w) w.place.depth ∷ []) start_of k.0 h;
  rows = λ q h. refl;
  fresh = λ f. f;
  tables = tabled_same w;
}

pub labels_one_more : (w : Written) → length (new_label w).labels ≡ length w.labels + 1
unfolding new_label
labels_one_more w = omega (arith, length-append w.labels (target (at w) w.place.depth ∷ []))

pub bind_other : (b : Written) (j k : Label) → (k.0 < j.0) ⊎ (j.0 < k.0) → label_at (bind j b) k ≡ label_at b k
unfolding bind
bind_other b j k h = get_or-set_other b.labels j.0 k.0 (target (at b) b.place.depth) start_of (λ e. elim h [ inl u ↦ omega arith | inr u ↦ omega arith ])

pub bind_same : (b : Written) (j : Label) → j.0 < length b.labels → label_at (bind j b) j ≡ target (at b) b.place.depth
unfolding bind
bind_same b j h = get_or-set_same b.labels j.0 (target (at b) b.place.depth) start_of h

pub bind_count : (b : Written) (j : Label) → length (bind j b).labels ≡ length b.labels
unfolding bind
bind_count b j = length-set b.labels j.0 (target (at b) b.place.depth)

bound_grows : (w b : Written) → Grows w b → length (bind (next_label w) b).labels ≡ length b.labels
    → ((k : Label) → k.0 < length w.labels → label_at (bind (next_label w) b) k ≡ label_at w k) → Grows w (bind (next_label w) b)
unfolding bind
bound_grows w b h n ls = record {
  more = h.more;
  code = h.code;
  count = let i = h.count in omega arith;
  labels = ls;
  rows = h.rows;
  fresh = h.fresh;
  tables = h.tables;
}

pub bind_grows : (w b : Written) → Grows (new_label w) b → Grows w (bind (next_label w) b)
bind_grows w b g =
    let h = grows_on w (new_label w) b (label_grows w) g in
    bound_grows w b h (bind_count b (next_label w)) (λ k u. bind_other b (next_label w) k (inl u) ∙ h.labels k u)

pub row_grows : (w b : Written) (r : Handler) → Grows w b → at w ≤ r.from.0 → r.to.0 ≤ at b → Grows w (put_row r b)
unfolding put_row
row_grows w b r g i j = record {
  more = g.more;
  code = g.code;
  count = g.count;
  labels = g.labels;
  rows = λ q u. one_not b.rows r q (inl (omega arith)) ∙ g.rows q u;
  fresh = λ f q u. one_not b.rows r q (inr (omega arith)) ∙ g.fresh f q u;
  tables = g.tables;
}

pub grows : (p : Piece) (L : List Label) (w : Written) → Grows w (layout p L w)
grows empty L w = grows_not w
grows (act op n l g) L w =
    grows_on w (with_operand op w) _ (only_grows w (with_operand op w) (operand_only op w)) (put_act_grows (operation_of op L w) (act_of n l g) (with_operand op w))
grows (move op) L w =
    grows_on w (with_operand op w) _ (only_grows w (with_operand op w) (operand_only op w)) (put_grows (operation_of op L w) (with_operand op w))
grows (seq a b) L w = grows_on w (layout a L w) _ (grows a L w) (grows b L (layout a L w))
grows (block p) L w = bind_grows w _ (grows p (next_label w ∷ L) (new_label w))
grows (headed p) L w = grows_on w (new_label w) _ (label_grows w) (grows p (next_label w ∷ L) (new_label w))
grows (closed p) L w = grows p [] w
grows (looped b p) L w =
    let v = placed (loop_in (pick (record { 0 = 0 }) L b) (next_label w) w.place) (new_label w) in
    bind_grows w _ (to_place (new_label w) (layout p [] v) w.place (from_place (new_label w) (layout p [] v) _ (grows p [] v)))
grows (leave e n l) L w = put_act_grows _ _ w
grows (ensured p) L w =
    let u = layout p [] w in
    let v = put (Plain instr.Normal) u in
    let g = grows_on w u v (grows p [] w) (put_grows (Plain instr.Normal) u) in
    row_grows w v (row_of (at w) (at v) (at v) w.place.depth true) g (omega arith) (omega arith)
grows (caught p q) L w =
    let u = layout p [] w in
    let v = layout q L u in
    let h = grows q L u in
    row_grows w v (row_of (at w) (at u) (at v) w.place.depth false) (grows_on w u v (grows p [] w) h) (omega arith) (later u v h)
grows (deeper k p) L w =
    let v = placed (deeper_in k w.place) w in
    to_place w (layout p L v) w.place (from_place w (layout p L v) (deeper_in k w.place) (grows p L v))
grows (started l p) L w = grows_on w (put_start l w) _ (start_grows l w) (grows p L (put_start l w))
grows (numbered n p) L w = from_number w _ n (grows p L (numbered_from n w))

-- where the next statement stands is as before
pub layout_place : (p : Piece) (L : List Label) (w : Written) → (layout p L w).place ≡ w.place
unfolding put put_act put_row put_start new_label bind placed numbered_from
layout_place empty L w = refl
layout_place (act op n l g) L w = (operand_only op w).place
layout_place (move op) L w = (operand_only op w).place
layout_place (seq a b) L w = layout_place b L (layout a L w) ∙ layout_place a L w
layout_place (block p) L w = layout_place p (next_label w ∷ L) (new_label w)
layout_place (headed p) L w = layout_place p (next_label w ∷ L) (new_label w)
layout_place (closed p) L w = layout_place p [] w
layout_place (looped b p) L w = refl
layout_place (leave e n l) L w = refl
layout_place (ensured p) L w = layout_place p [] w
layout_place (caught p q) L w = layout_place q L (layout p [] w) ∙ layout_place p [] w
layout_place (deeper k p) L w = refl
layout_place (started l p) L w = layout_place p L (put_start l w)
layout_place (numbered n p) L w = layout_place p L (numbered_from n w)
