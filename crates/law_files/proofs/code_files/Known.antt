-- Each text that constants, lists and names have by its number is one of the texts.
use Rattle.std.proofs.Common.{if◌then◌else◌, ℕ, ◌<◌, ◌≤◌, Bool, true, false, List, [], ◌∷◌, length, bytes_eq, ap, arith, length-append}
use Rattle.std.specs.List.{AllByRecursion}
use Rattle.pt_tree.specs.declared.expression.Constant.{Constant}
use Rattle.pt_tree.specs.declared.expression.Constant.TheVariants as constant
use Rattle.pt_tree.specs.Syntax.{Name}
use Rattle.pt_instr.specs.declared.TextNo.{TextNo}
use Rattle.pt_code.specs.declared.Const.{Const}
use Rattle.pt_code.specs.declared.Const.TheVariants as const
use Rattle.pt_assembler.specs.declared.operation.Label.{Label}
use Rattle.pt_assembler.specs.Tables.{Begins, kept, is_text, is_const}
use Rattle.pt_assembler.specs.Piece as P
use Rattle.pt_assembler.specs.Piece.{Op, Piece, pick}
use Rattle.pt_assembler.specs.Layout.{Written, text_no, number_of_text, with_text, keep_constant, with_constant, with_texts, list_for, keep_list, keep_local, keep_cell, keep_free, with_local, with_cell, with_free, with_operand, put, put_act, put_row, put_start, new_label, next_label, bind, placed, numbered_from, deeper_in, loop_in, layout}
use Rattle.pt_assembler.proofs.TableLemmas.{kept_begins, kept_within, begins_length}
use Rattle.pt_assembler.proofs.Growth.{texts_only}
use Rattle.sem_compile.specs.compile.ScriptCode.{with_all}
use Rattle.law_files.specs.code_files.Laws.{TextIn, ConstantIn, ListIn}
use Rattle.law_files.proofs.code_files.Each.{weaken}

pub record KnownIn (ts : List Name) (ks : List Const) (ls : List (List ℕ)) (xs ys zs : List TextNo) : Type 0 where
  pub constants : AllByRecursion (ConstantIn (length ts)) ks
  pub lists : AllByRecursion (ListIn (length ts)) ls
  pub locals : AllByRecursion (TextIn (length ts)) xs
  pub cells : AllByRecursion (TextIn (length ts)) ys
  pub free : AllByRecursion (TextIn (length ts)) zs

abbrev pub Known : Written → Type 0
Known w = KnownIn w.texts w.constants w.lists w.locals w.cells w.free

-- with more texts

pub text_later : (m n : ℕ) → m ≤ n → (t : TextNo) → TextIn m t → TextIn n t
text_later m n e t h = omega arith

number_later : (m n : ℕ) → m ≤ n → (k : ℕ) → k < m → k < n
number_later m n e k h = omega arith

pub constant_later : (m n : ℕ) → m ≤ n → (k : Const) → ConstantIn m k → ConstantIn n k
constant_later m n e (const.Text t) h = text_later m n e t h
constant_later m n e const.None h = tt
constant_later m n e const.False h = tt
constant_later m n e const.True h = tt
constant_later m n e (const.Int k) h = tt
constant_later m n e const.Ellipsis h = tt

pub list_later : (m n : ℕ) → m ≤ n → (l : List ℕ) → ListIn m l → ListIn n l
list_later m n e l h = weaken (λ k. k < m) (λ k. k < n) (number_later m n e) l h

pub begins_count : {A : Type 0} (xs ys : List A) → Begins xs ys → length xs ≤ length ys
begins_count xs ys b = let e = ap length b.1 in omega (arith, e, length-append xs b.0)

texts_later : (x : Name) (w : Written) → length w.texts ≤ length (with_text x w).texts
unfolding with_text
texts_later x w = begins_count w.texts (with_text x w).texts (kept_begins (bytes_eq x) x w.texts)

pub known_text : (x : Name) (w : Written) → Known w → Known (with_text x w)
unfolding with_text
known_text x w h =
    let m = length w.texts in
    let n = length (kept (bytes_eq x) x w.texts) in
    let e : m ≤ n = begins_count w.texts (kept (bytes_eq x) x w.texts) (kept_begins (bytes_eq x) x w.texts) in
    record {
      constants = weaken (ConstantIn m) (ConstantIn n) (constant_later m n e) w.constants h.constants;
      lists = weaken (ListIn m) (ListIn n) (list_later m n e) w.lists h.lists;
      locals = weaken (TextIn m) (TextIn n) (text_later m n e) w.locals h.locals;
      cells = weaken (TextIn m) (TextIn n) (text_later m n e) w.cells h.cells;
      free = weaken (TextIn m) (TextIn n) (text_later m n e) w.free h.free;
    }

pub text_in : (x : Name) (w : Written) → TextIn (length (with_text x w).texts) (number_of_text x w)
unfolding with_text
text_in x w = kept_within (bytes_eq x) x w.texts

-- what is kept

all_kept : {A : Type 0} (P : A → Type 0) (is : A → Bool) (a : A) (xs : List A) → P a → AllByRecursion P xs → AllByRecursion P (kept is a xs)
all_kept P is a [] k h = (k, tt)
all_kept {A} P is a (x ∷ xs) k h = by (is x) (all_kept P is a xs k h.1)
  where
    by : (b : Bool) → AllByRecursion P (kept is a xs) → AllByRecursion P (if b then x ∷ xs else x ∷ kept is a xs)
    by true rest = h
    by false rest = (h.0, rest)

known_constant : (c : Const) (w : Written) → ConstantIn (length w.texts) c → Known w → Known (keep_constant c w)
unfolding keep_constant
known_constant c w k h = record {
  constants = all_kept (ConstantIn (length w.texts)) (is_const c) c w.constants k h.constants;
  lists = h.lists;
  locals = h.locals;
  cells = h.cells;
  free = h.free;
}

known_list : (l : List ℕ) (w : Written) → ListIn (length w.texts) l → Known w → Known (keep_list l w)
unfolding keep_list
known_list l w k h = record {
  constants = h.constants;
  lists = all_kept (ListIn (length w.texts)) (bytes_eq l) l w.lists k h.lists;
  locals = h.locals;
  cells = h.cells;
  free = h.free;
}

known_local : (t : TextNo) (w : Written) → TextIn (length w.texts) t → Known w → Known (keep_local t w)
unfolding keep_local
known_local t w k h = record {
  constants = h.constants;
  lists = h.lists;
  locals = all_kept (TextIn (length w.texts)) (is_text t) t w.locals k h.locals;
  cells = h.cells;
  free = h.free;
}

known_cell : (t : TextNo) (w : Written) → TextIn (length w.texts) t → Known w → Known (keep_cell t w)
unfolding keep_cell
known_cell t w k h = record {
  constants = h.constants;
  lists = h.lists;
  locals = h.locals;
  cells = all_kept (TextIn (length w.texts)) (is_text t) t w.cells k h.cells;
  free = h.free;
}

known_free : (t : TextNo) (w : Written) → TextIn (length w.texts) t → Known w → Known (keep_free t w)
unfolding keep_free
known_free t w k h = record {
  constants = h.constants;
  lists = h.lists;
  locals = h.locals;
  cells = h.cells;
  free = all_kept (TextIn (length w.texts)) (is_text t) t w.free k h.free;
}

pub local_known : (x : Name) (w : Written) → Known w → Known (with_local x w)
local_known x w h = known_local (number_of_text x w) (with_text x w) (text_in x w) (known_text x w h)

pub cell_known : (x : Name) (w : Written) → Known w → Known (with_cell x w)
cell_known x w h = known_cell (number_of_text x w) (with_text x w) (text_in x w) (known_text x w h)

pub free_known : (x : Name) (w : Written) → Known w → Known (with_free x w)
free_known x w h = known_free (number_of_text x w) (with_text x w) (text_in x w) (known_text x w h)

texts_known : (xs : List Name) (w : Written) → Known w → Known (with_texts xs w)
texts_known [] w h = h
texts_known (x ∷ xs) w h = texts_known xs (with_text x w) (known_text x w h)

list_known : (xs : List Name) (w : Written) → ListIn (length (with_texts xs w).texts) (list_for xs w)
list_known [] w = tt
list_known (x ∷ xs) w = (
  begins_length (with_text x w).texts (with_texts xs (with_text x w)).texts (text_no x w) (texts_only xs (with_text x w)).tables.0 (text_in x w),
  list_known xs (with_text x w),
)

constant_known : (k : Constant) (w : Written) → Known w → Known (with_constant k w)
constant_known (constant.Str x) w h = known_constant (const.Text (number_of_text x w)) (with_text x w) (text_in x w) (known_text x w h)
constant_known constant.None w h = known_constant const.None w tt h
constant_known (constant.Bool true) w h = known_constant const.True w tt h
constant_known (constant.Bool false) w h = known_constant const.False w tt h
constant_known constant.Ellipsis w h = known_constant const.Ellipsis w tt h
constant_known (constant.Int n) w h = known_constant (const.Int n) w tt h

operand_known : (op : Op) (w : Written) → Known w → Known (with_operand op w)
operand_known (P.plain i) w h = h
operand_known P.never w h = h
operand_known (P.const k) w h = constant_known k w h
operand_known (P.with_local f x) w h = local_known x w h
operand_known (P.with_cell f x) w h = cell_known x w h
operand_known (P.with_free u x) w h = free_known x w h
operand_known (P.with_text f x) w h = known_text x w h
operand_known (P.with_list f xs) w h = known_list (list_for xs w) (with_texts xs w) (list_known xs w) (texts_known xs w h)
operand_known (P.to j l) w h = h

pub known : (p : Piece) (L : List Label) (w : Written) → Known w → Known (layout p L w)
unfolding put put_act put_row put_start new_label bind placed numbered_from
known P.empty L w h = h
known (P.act op n l g) L w h = operand_known op w h
known (P.move op) L w h = operand_known op w h
known (P.seq a b) L w h = known b L (layout a L w) (known a L w h)
known (P.block p) L w h = known p (next_label w ∷ L) (new_label w) h
known (P.headed p) L w h = known p (next_label w ∷ L) (new_label w) h
known (P.closed p) L w h = known p [] w h
known (P.looped b p) L w h = known p [] (placed (loop_in (pick (record { 0 = 0 }) L b) (next_label w) w.place) (new_label w)) h
known (P.leave e n l) L w h = h
known (P.ensured p) L w h = known p [] w h
known (P.caught p q) L w h = known q L (layout p [] w) (known p [] w h)
known (P.deeper k p) L w h = known p L (placed (deeper_in k w.place) w) h
known (P.started l p) L w h = known p L (put_start l w) h
known (P.numbered n p) L w h = known p L (numbered_from n w) h

-- the names with which a block begins

pub all_known : (f : Name → Written → Written) → ((x : Name) (w : Written) → Known w → Known (f x w)) → (xs : List Name) (w : Written) → Known w
    → Known (with_all f xs w)
all_known f g [] w h = h
all_known f g (x ∷ xs) w h = all_known f g xs (f x w) (g x w h)
