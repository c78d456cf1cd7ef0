-- How pieces are laid out: from one state of the writer to the next.
use Rattle.std.specs.Prelude.{ℕ, ◌+◌, Bool, true, false, List, [], ◌∷◌, ◌++◌, length, map, get_or, slice_set, Option, Some, None}
use Rattle.std.specs.Str.{bytes_eq}
use Rattle.std.specs.List.{flat_map}
use Rattle.pt_ranges.specs.declared.lines.ActMark.{ActMark}
use Rattle.pt_ranges.specs.declared.handlers.Handler.{Handler}
use Rattle.pt_tree.specs.declared.expression.Constant.{Constant}
use Rattle.pt_tree.specs.declared.expression.Constant.TheVariants as constant
use Rattle.pt_tree.specs.Syntax.{Name}
use Rattle.pt_instr.specs.declared.TextNo.{TextNo}
use Rattle.pt_instr.specs.declared.Instr.{Instr}
use Rattle.pt_instr.specs.declared.Instr.TheVariants as instr
use Rattle.pt_instr.specs.Encoding.{encoding, Fits as InstrFits}
use Rattle.pt_code.specs.declared.Const.{Const}
use Rattle.pt_code.specs.declared.Const.TheVariants as const
use Rattle.pt_code.specs.declared.Start.{Start}
use Rattle.pt_code.specs.declared.CodeBlock.{CodeBlock}
use Rattle.sem_code.specs.slots.Stretches.{act_mark}
use Rattle.pt_assembler.specs.declared.operation.Label.{Label}
use Rattle.pt_assembler.specs.declared.operation.Jump.TheVariants.{Leave}
use Rattle.pt_assembler.specs.declared.operation.Operation.{Operation}
use Rattle.pt_assembler.specs.declared.operation.Operation.TheVariants.{Plain, To, Free}
use Rattle.pt_assembler.specs.declared.operation.Act.{Act}
use Rattle.pt_assembler.specs.declared.operation.Placed.{Placed}
use Rattle.pt_assembler.specs.declared.operation.Target.{Target}
use Rattle.pt_assembler.specs.declared.operation.Exit.{Exit}
use Rattle.pt_assembler.specs.declared.operation.Exit.TheVariants.{Break, Continue}
use Rattle.pt_assembler.specs.declared.operation.Loop.{Loop}
use Rattle.pt_assembler.specs.declared.operation.Place.{Place}
use Rattle.pt_assembler.specs.declared.image.Heading.{Heading}
use Rattle.pt_assembler.specs.declared.image.Image.{Image}
use Rattle.pt_assembler.specs.Tables.{number_in, kept, is_text, is_const}
use Rattle.pt_assembler.specs.Piece as P
use Rattle.pt_assembler.specs.Piece.{Op, Piece, empty, act, move, seq, block, headed, closed, looped, leave, ensured, caught, deeper, started, numbered, pick}
use Rattle.pt_assembler.specs.PieceAt.{instr_to, instr_of_free, target, start_of, row_of}

-- what the writer has: the tables of the code, those of the block, its instructions in the making, its handler rows and starts, the places of its
-- labels, the number of the next act, and where the next statement stands
pub record Written : Type 0 where
  pub texts : List Name
  pub constants : List Const
  pub lists : List (List ℕ)
  pub locals : List TextNo
  pub cells : List TextNo
  pub free : List TextNo
  pub instrs : List Placed
  pub rows : List Handler
  pub starts : List Start
  pub labels : List Target
  pub act : ℕ
  pub place : Place

abbrev pub width : Operation → ℕ
width (Plain i) = length (encoding i)
width (To j l) = 5
width (Free u i) = 5

abbrev pub wide : List Placed → ℕ
wide [] = 0
wide (p ∷ ps) = width p.operation + wide ps

abbrev pub at : Written → ℕ
at w = wide w.instrs

-- Texts, constants, lists of texts and names of the block: the number of each, and the tables with it.

abbrev pub text_no : Name → Written → ℕ
text_no x w = number_in (bytes_eq x) w.texts

unfoldable pub with_text : Name → Written → Written
with_text x w = record w { texts = kept (bytes_eq x) x w.texts }

abbrev pub number_of_text : Name → Written → TextNo
number_of_text x w = record { 0 = text_no x w }

abbrev pub with_constant_text : Constant → Written → Written
with_constant_text (constant.Str x) w = with_text x w
with_constant_text k w = w

abbrev pub const_for : Constant → Written → Const
const_for constant.None w = const.None
const_for (constant.Bool true) w = const.True
const_for (constant.Bool false) w = const.False
const_for constant.Ellipsis w = const.Ellipsis
const_for (constant.Int n) w = const.Int n
const_for (constant.Str x) w = const.Text (number_of_text x w)

abbrev pub constant_no : Constant → Written → ℕ
constant_no k w = number_in (is_const (const_for k w)) w.constants

unfoldable pub keep_constant : Const → Written → Written
keep_constant c w = record w { constants = kept (is_const c) c w.constants }

abbrev pub with_constant : Constant → Written → Written
with_constant k w = keep_constant (const_for k w) (with_constant_text k w)

abbrev pub with_texts : List Name → Written → Written
with_texts [] w = w
with_texts (x ∷ xs) w = with_texts xs (with_text x w)

abbrev pub list_for : List Name → Written → List ℕ
list_for [] w = []
list_for (x ∷ xs) w = text_no x w ∷ list_for xs (with_text x w)

abbrev pub list_no : List Name → Written → ℕ
list_no xs w = number_in (bytes_eq (list_for xs w)) w.lists

unfoldable pub keep_list : List ℕ → Written → Written
keep_list ts w = record w { lists = kept (bytes_eq ts) ts w.lists }

abbrev pub with_list : List Name → Written → Written
with_list xs w = keep_list (list_for xs w) (with_texts xs w)

abbrev pub local_no : Name → Written → ℕ
local_no x w = number_in (is_text (number_of_text x w)) w.locals

unfoldable pub keep_local : TextNo → Written → Written
keep_local t w = record w { locals = kept (is_text t) t w.locals }

abbrev pub with_local : Name → Written → Written
with_local x w = keep_local (number_of_text x w) (with_text x w)

abbrev pub cell_no : Name → Written → ℕ
cell_no x w = number_in (is_text (number_of_text x w)) w.cells

unfoldable pub keep_cell : TextNo → Written → Written
keep_cell t w = record w { cells = kept (is_text t) t w.cells }

abbrev pub with_cell : Name → Written → Written
with_cell x w = keep_cell (number_of_text x w) (with_text x w)

abbrev pub free_no : Name → Written → ℕ
free_no x w = number_in (is_text (number_of_text x w)) w.free

unfoldable pub keep_free : TextNo → Written → Written
keep_free t w = record w { free = kept (is_text t) t w.free }

abbrev pub with_free : Name → Written → Written
with_free x w = keep_free (number_of_text x w) (with_text x w)

abbrev pub operation_of : Op → List Label → Written → Operation
operation_of (P.plain i) L w = Plain i
operation_of P.never L w = Plain instr.Nop
operation_of (P.const k) L w = Plain (instr.Const (record { 0 = constant_no k w }))
operation_of (P.with_local f x) L w = Plain (f (record { 0 = local_no x w }))
operation_of (P.with_cell f x) L w = Plain (f (record { 0 = cell_no x w }))
operation_of (P.with_free u x) L w = Free u (record { 0 = free_no x w })
operation_of (P.with_text f x) L w = Plain (f (number_of_text x w))
operation_of (P.with_list f xs) L w = Plain (f (record { 0 = list_no xs w }))
operation_of (P.to j l) L w = To j (pick (record { 0 = 0 }) L l)

abbrev pub with_operand : Op → Written → Written
with_operand (P.plain i) w = w
with_operand P.never w = w
with_operand (P.const k) w = with_constant k w
with_operand (P.with_local f x) w = with_local x w
with_operand (P.with_cell f x) w = with_cell x w
with_operand (P.with_free u x) w = with_free x w
with_operand (P.with_text f x) w = with_text x w
with_operand (P.with_list f xs) w = with_list xs w
with_operand (P.to j l) w = w

-- Instructions, rows, starts, labels and places.

abbrev pub act_of : (n l : ℕ) → Bool → Act
act_of n l g = record { number = record { 0 = n }; line = record { 0 = l }; again = g }

unfoldable pub put : Operation → Written → Written
put o w = record w { instrs = w.instrs ++ record { operation = o; act = None } ∷ [] }

unfoldable pub put_act : Operation → Act → Written → Written
put_act o a w = record w { instrs = w.instrs ++ record { operation = o; act = Some a } ∷ []; act = w.act + 1 }

unfoldable pub put_row : Handler → Written → Written
put_row r w = record w { rows = w.rows ++ r ∷ [] }

unfoldable pub put_start : (line : ℕ) → Written → Written
put_start l w = record w { starts = w.starts ++ record { pc = record { 0 = at w }; line = record { 0 = l } } ∷ [] }

-- a label of this place, which stays where none is bound
unfoldable pub new_label : Written → Written
new_label w = record w { labels = w.labels ++ target (at w) w.place.depth ∷ [] }

abbrev pub next_label : Written → Label
next_label w = record { 0 = length w.labels }

unfoldable pub bind : Label → Written → Written
bind k w = record w { labels = slice_set w.labels k.0 (target (at w) w.place.depth) }

unfoldable pub placed : Place → Written → Written
placed p w = record w { place = p }

unfoldable pub numbered_from : ℕ → Written → Written
numbered_from n w = record w { act = n }

abbrev pub deeper_in : ℕ → Place → Place
deeper_in k p = record p { depth = p.depth + k }

abbrev pub loop_in : (break_to continue_to : Label) → Place → Place
loop_in b c p = record p { around = Some (record { break_to = b; continue_to = c }) }

-- (outside of a loop nothing leaves it)
abbrev pub exit_label : Exit → Option Loop → Label
exit_label e None = record { 0 = 0 }
exit_label Break (Some x) = x.break_to
exit_label Continue (Some x) = x.continue_to

abbrev pub layout : Piece → List Label → Written → Written
layout empty L w = w
layout (act op n l g) L w = put_act (operation_of op L w) (act_of n l g) (with_operand op w)
layout (move op) L w = put (operation_of op L w) (with_operand op w)
layout (seq a b) L w = layout b L (layout a L w)
layout (block p) L w = bind (next_label w) (layout p (next_label w ∷ L) (new_label w))
layout (headed p) L w = layout p (next_label w ∷ L) (new_label w)
layout (closed p) L w = layout p [] w
layout (looped b p) L w =
    bind (next_label w) (placed w.place (layout p [] (placed (loop_in (pick (record { 0 = 0 }) L b) (next_label w) w.place) (new_label w))))
layout (leave e n l) L w = put_act (To Leave (exit_label e w.place.around)) (act_of n l false) w
layout (ensured p) L w =
    let v = put (Plain instr.Normal) (layout p [] w) in
    put_row (row_of (at w) (at v) (at v) w.place.depth true) v
layout (caught p q) L w =
    let u = layout p [] w in
    let v = layout q L u in
    put_row (row_of (at w) (at u) (at v) w.place.depth false) v
layout (deeper k p) L w = placed w.place (layout p L (placed (deeper_in k w.place) w))
layout (started l p) L w = layout p L (put_start l w)
layout (numbered n p) L w = layout p L (numbered_from n w)

-- a block begins: with these tables of the code and names of the block, and so many slots. Label 0 is its start
abbrev pub begun : (texts : List Name) (constants : List Const) (lists : List (List ℕ)) (locals cells free : List TextNo) (depth : ℕ) → Written
begun ts cs ls xs ys zs d = record {
  texts = ts;
  constants = cs;
  lists = ls;
  locals = xs;
  cells = ys;
  free = zs;
  instrs = [];
  rows = [];
  starts = [];
  labels = start_of ∷ [];
  act = 0;
  place = record { around = None; depth = d };
}

-- What comes of it: instructions with places for labels and numbers for free names, and marks at the places of acts.

abbrev pub label_at : Written → Label → Target
label_at w k = get_or w.labels k.0 start_of

abbrev pub instr_in : Written → Operation → Instr
instr_in w (Plain i) = i
instr_in w (To j k) = instr_to j (label_at w k).pc.0
instr_in w (Free u i) = instr_of_free u (length w.cells + i.0)

abbrev pub mark_at : (pc : ℕ) → Option Act → Option ActMark
mark_at pc None = None
mark_at pc (Some a) = act_mark pc a.number.0 a.line.0 a.again

abbrev pub listed : {A : Type 0} → Option A → List A
listed None = []
listed (Some a) = a ∷ []

abbrev pub marks_from : (pc : ℕ) → List Placed → List ActMark
marks_from pc [] = []
marks_from pc (p ∷ ps) = listed (mark_at pc p.act) ++ marks_from (pc + width p.operation) ps

abbrev pub instrs_of : Written → List Instr
instrs_of w = map (λ p. instr_in w p.operation) w.instrs

abbrev pub bytes_of : Written → List ℕ
bytes_of w = flat_map encoding (instrs_of w)

-- each operand has four bytes; that of a label or of a free name is known later
abbrev pub FitsWell : Operation → Type 0
FitsWell (Plain i) = InstrFits i
FitsWell (To j l) = Unit {0}
FitsWell (Free u i) = Unit {0}

abbrev pub AllFitWell : List Placed → Type 0
AllFitWell [] = Unit {0}
AllFitWell (p ∷ ps) = FitsWell p.operation × AllFitWell ps

-- The bytes and the marks, one instruction after the other.

abbrev pub no_image : Image
no_image = record { instructions = []; marks = [] }

abbrev pub image_with : Written → Image → Placed → Image
image_with w image p = record {
  instructions = image.instructions ++ encoding (instr_in w p.operation);
  marks = image.marks ++ listed (mark_at (length image.instructions) p.act);
}

abbrev pub image_on : Written → List Placed → Image → Image
image_on w [] image = image
image_on w (p ∷ ps) image = image_on w ps (image_with w image p)

-- the block that comes of it
abbrev pub block_of : Heading → Written → CodeBlock
block_of h w = record {
  name = h.name;
  kind = h.kind;
  first_line = h.first_line;
  parameters = h.parameters;
  rest = h.rest;
  keyword_only = h.keyword_only;
  locals = w.locals;
  cells = w.cells;
  free = w.free;
  instructions = bytes_of w;
  marks = marks_from 0 w.instrs;
  handlers = w.rows;
  starts = w.starts;
}
