-- How many acts the pieces of expressions have: as many as sizes say.
use Rattle.std.proofs.Common.{◌≡◌, ℕ, ◌+◌, List, [], ◌∷◌, Bool, false, Option, refl, ap, sym, ◌∙◌, arith, add-zero}
use Rattle.pt_base.specs.declared.operators.CompareOp.{CompareOp}
use Rattle.pt_tree.specs.declared.expression.Constant.{Constant}
use Rattle.pt_tree.specs.declared.expression.Constant.TheVariants as constant
use Rattle.pt_tree.specs.declared.expression.Conversion.{Conversion}
use Rattle.pt_tree.specs.Syntax as S
use Rattle.pt_tree.specs.Syntax.{Name, Exp, Exps, Opt, Pieces, Entries, Links, Args, Made, Clauses, Place, Tgt, Tgts, Formals}
use Rattle.pt_tree.specs.Sizes.{size, all_size, operands_size, opt_size, pieces_size, joins, entries_size, links_size, args_size, made_size, clauses_size, place_size, target_size, targets_size, formals_size}
use Rattle.pt_instr.specs.declared.TextNo.{TextNo}
use Rattle.sem_control.specs.control.Turn as T
use Rattle.sem_control.specs.control.Turn.{Around, Variable, Operation}
use Rattle.sem_control.specs.control.Expressions.{cells_of, making}
use Rattle.pt_code.specs.declared.Const.{Const}
use Rattle.pt_assembler.specs.declared.operation.Label.{Label}
use Rattle.pt_assembler.specs.declared.operation.Act.{Act}
use Rattle.pt_assembler.specs.declared.operation.Operation.{Operation as Written_operation}
use Rattle.pt_assembler.specs.Piece as P
use Rattle.pt_assembler.specs.Piece.{Op, Piece, empty, act, move, block, headed, closed, ◌▸◌}
use Rattle.pt_assembler.specs.Layout.{Written, layout, put, put_act, new_label, next_label, bind, with_text, keep_constant, keep_list, keep_local, keep_cell, keep_free, with_texts, with_constant_text, const_for, number_of_text, list_for, with_operand}
use Rattle.pt_write_ops.specs.sem_compile.emitter.ExpPiece.{null_piece, made_piece, op_piece, renewed_piece, exp_piece, part_piece, exps_piece, entries_piece, args_piece, pieces_piece, spec_piece, links_piece, ands_piece, ors_piece, formals_piece, first_piece, clauses_piece, item_piece, target_piece, targets_piece, place_piece}

-- The number of the next act, behind each step of a writer.

pub put-act : (o : Written_operation) (w : Written) → (put o w).act ≡ w.act
unfolding put
put-act o w = refl

pub put_act-act : (o : Written_operation) (a : Act) (w : Written) → (put_act o a w).act ≡ w.act + 1
unfolding put_act
put_act-act o a w = refl

pub new_label-act : (w : Written) → (new_label w).act ≡ w.act
unfolding new_label
new_label-act w = refl

pub bind-act : (k : Label) (w : Written) → (bind k w).act ≡ w.act
unfolding bind
bind-act k w = refl

text-act : (x : Name) (w : Written) → (with_text x w).act ≡ w.act
unfolding with_text
text-act x w = refl

texts-act : (xs : List Name) (w : Written) → (with_texts xs w).act ≡ w.act
texts-act [] w = refl
texts-act (x ∷ xs) w = texts-act xs (with_text x w) ∙ text-act x w

constant-act : (c : Const) (w : Written) → (keep_constant c w).act ≡ w.act
unfolding keep_constant
constant-act c w = refl

constant_text-act : (k : Constant) (w : Written) → (with_constant_text k w).act ≡ w.act
constant_text-act constant.None w = refl
constant_text-act (constant.Bool b) w = refl
constant_text-act constant.Ellipsis w = refl
constant_text-act (constant.Int n) w = refl
constant_text-act (constant.Str x) w = text-act x w

list-act : (ts : List ℕ) (w : Written) → (keep_list ts w).act ≡ w.act
unfolding keep_list
list-act ts w = refl

local-act : (t : TextNo) (w : Written) → (keep_local t w).act ≡ w.act
unfolding keep_local
local-act t w = refl

cell-act : (t : TextNo) (w : Written) → (keep_cell t w).act ≡ w.act
unfolding keep_cell
cell-act t w = refl

free-act : (t : TextNo) (w : Written) → (keep_free t w).act ≡ w.act
unfolding keep_free
free-act t w = refl

operand-act : (op : Op) (w : Written) → (with_operand op w).act ≡ w.act
operand-act (P.plain i) w = refl
operand-act P.never w = refl
operand-act (P.const k) w = constant-act (const_for k w) (with_constant_text k w) ∙ constant_text-act k w
operand-act (P.with_local f x) w = local-act (number_of_text x w) (with_text x w) ∙ text-act x w
operand-act (P.with_cell f x) w = cell-act (number_of_text x w) (with_text x w) ∙ text-act x w
operand-act (P.with_free u x) w = free-act (number_of_text x w) (with_text x w) ∙ text-act x w
operand-act (P.with_text f x) w = text-act x w
operand-act (P.with_list f xs) w = list-act (list_for xs w) (with_texts xs w) ∙ texts-act xs w
operand-act (P.to j l) w = refl

-- a piece has so many acts
pub record Has (p : Piece) (k : ℕ) : Type 0 where
  pub acts : (L : List Label) (w : Written) → (layout p L w).act ≡ w.act + k

pub counts : (p : Piece) (i k : ℕ) → Has p i → i ≡ k → Has p k
counts p i k h e = record { acts = λ L w. h.acts L w ∙ ap (λ m. w.act + m) e }

empty_has : Has empty 0
empty_has = record { acts = λ L w. sym (add-zero w.act) }

pub act_has : (op : Op) (n l : ℕ) (g : Bool) → Has (act op n l g) 1
act_has op n l g = record { acts = λ L w. put_act-act _ _ _ ∙ ap (λ m. m + 1) (operand-act op w) }

pub move_has : (op : Op) → Has (move op) 0
move_has op = record { acts = λ L w. put-act _ _ ∙ operand-act op w ∙ sym (add-zero w.act) }

and_then : (a c : Piece) (i j : ℕ) → Has a i → Has c j → Has (a ▸ c) (i + j)
and_then a c i j first second = record {
  acts = λ L w.
      let one : (layout a L w).act ≡ w.act + i = first.acts L w in
      let two : (layout c L (layout a L w)).act ≡ (layout a L w).act + j = second.acts L (layout a L w) in
      let more : w.act + i + j ≡ w.act + (i + j) = omega arith in
      two ∙ ap (λ m. m + j) one ∙ more;
}

block_has : (p : Piece) (k : ℕ) → Has p k → Has (block p) k
block_has p k h = record { acts = λ L w. bind-act _ _ ∙ h.acts (next_label w ∷ L) (new_label w) ∙ ap (λ m. m + k) (new_label-act w) }

headed_has : (p : Piece) (k : ℕ) → Has p k → Has (headed p) k
headed_has p k h = record { acts = λ L w. h.acts (next_label w ∷ L) (new_label w) ∙ ap (λ m. m + k) (new_label-act w) }

closed_has : (p : Piece) (k : ℕ) → Has p k → Has (closed p) k
closed_has p k h = record { acts = λ L w. h.acts [] w }

pub null_has : Has null_piece 0
null_has = move_has _

module _ {V : Type 0} (around : Around V) where
  made_has : (xs : List Variable) (op : Operation) (l n : ℕ) (g : Bool) (k : ℕ) → Has (made_piece around xs op l n g k) 1
  made_has [] op l n g k = act_has _ _ _ _
  made_has (x ∷ xs) op l n g k = counts _ _ 1 (and_then _ _ _ _ (move_has _) (made_has xs op l n g k)) refl

  op_has : (op : Operation) (l n : ℕ) (g : Bool) (k : ℕ) → Has (op_piece around op l n g k) 1
  op_has op l n g k = made_has (cells_of around op) op l n g k

  renewed_has : (xs : List Variable) → Has (renewed_piece around xs) 0
  renewed_has [] = empty_has
  renewed_has (x ∷ xs) = counts _ _ 0 (and_then _ _ _ _ (move_has _) (renewed_has xs)) refl

  mutual
    pub exp_has : (e : Exp) (n : ℕ) (g : Bool) (v : List ℕ) → Has (exp_piece around e n g v) (size e)
    exp_has (S.constant l k) n g v = act_has _ _ _ _
    exp_has (S.name l x) n g v = act_has _ _ _ _
    exp_has (S.joined l S.no_pieces) n g v = act_has _ _ _ _
    exp_has (S.joined l (S.literal k t r)) n g v =
        counts _ _ _ (and_then _ _ _ _ (act_has _ _ _ _) (pieces_has r l (n + 1) 1 v)) (omega arith)
    exp_has (S.joined l (S.field k e c sp r)) n g v =
        counts _ _ _ (and_then _ _ _ _ (closed_has _ _ (exp_has e n g v)) (and_then _ _ _ _ (spec_has sp k (n + size e) c v) (pieces_has r l _ 1 v))) (omega arith)
    exp_has (S.tuple l S.no_exps) n g v = act_has _ _ _ _
    exp_has (S.tuple l (S.more_exps e es)) n g v = counts _ _ _ (and_then _ _ _ _ (closed_has _ _ (exp_has e n g v)) (exps_has es _ l _ 1 v)) (omega arith)
    exp_has (S.list l S.no_exps) n g v = act_has _ _ _ _
    exp_has (S.list l (S.more_exps e es)) n g v = counts _ _ _ (and_then _ _ _ _ (closed_has _ _ (exp_has e n g v)) (exps_has es _ l _ 1 v)) (omega arith)
    exp_has (S.set l S.no_exps) n g v = act_has _ _ _ _
    exp_has (S.set l (S.more_exps e es)) n g v = counts _ _ _ (and_then _ _ _ _ (closed_has _ _ (exp_has e n g v)) (exps_has es _ l _ 1 v)) (omega arith)
    exp_has (S.dict l S.no_entries) n g v = act_has _ _ _ _
    exp_has (S.dict l (S.entry a b r)) n g v =
        counts _ _ _ (and_then _ _ _ _ (closed_has _ _ (exp_has a n g v)) (and_then _ _ _ _ (closed_has _ _ (exp_has b _ false v)) (entries_has r l _ 1 v))) (omega arith)
    exp_has (S.attribute l a x) n g v = and_then _ _ _ _ (closed_has _ _ (exp_has a n g v)) (act_has _ _ _ _)
    exp_has (S.item l a i) n g v =
        counts _ _ _ (and_then _ _ _ _ (closed_has _ _ (exp_has a n g v)) (and_then _ _ _ _ (closed_has _ _ (exp_has i _ false v)) (act_has _ _ _ _))) (omega arith)
    exp_has (S.slice l S.absent S.absent S.absent) n g v =
        counts _ _ _ (and_then _ _ _ _ null_has (and_then _ _ _ _ null_has (and_then _ _ _ _ null_has (act_has _ _ _ _)))) refl
    exp_has (S.slice l S.absent S.absent (S.given c)) n g v =
        counts _ _ _ (and_then _ _ _ _ null_has (and_then _ _ _ _ null_has (and_then _ _ _ _ (closed_has _ _ (exp_has c n g v)) (act_has _ _ _ _)))) (omega arith)
    exp_has (S.slice l S.absent (S.given b) c) n g v =
        counts _ _ _ (and_then _ _ _ _ null_has (and_then _ _ _ _ (closed_has _ _ (exp_has b n g v)) (part_has c _ v _ 1 (λ m. act_has _ _ _ _)))) (omega arith)
    exp_has (S.slice l (S.given a) b c) n g v =
        counts _ _ _ (and_then _ _ _ _ (closed_has _ _ (exp_has a n g v)) (part_has b _ v _ (opt_size c + 1) (λ m. part_has c m v _ 1 (λ k. act_has _ _ _ _)))) (omega arith)
    exp_has (S.unary l o a) n g v = and_then _ _ _ _ (closed_has _ _ (exp_has a n g v)) (act_has _ _ _ _)
    exp_has (S.not_of l a) n g v = and_then _ _ _ _ (closed_has _ _ (exp_has a n g v)) (act_has _ _ _ _)
    exp_has (S.binary l o a b) n g v =
        counts _ _ _ (and_then _ _ _ _ (closed_has _ _ (exp_has a n g v)) (and_then _ _ _ _ (closed_has _ _ (exp_has b _ false v)) (act_has _ _ _ _))) (omega arith)
    exp_has (S.compare l a o b r) n g v =
        counts _ _ _ (and_then _ _ _ _ (closed_has _ _ (exp_has a n g v)) (and_then _ _ _ _ (closed_has _ _ (exp_has b _ false v)) (closed_has _ _ (links_has r o l _ v)))) (omega arith)
    exp_has (S.and l a es) n g v = block_has _ _ (and_then _ _ _ _ (closed_has _ _ (exp_has a n g v)) (ands_has es l _ v))
    exp_has (S.or l a es) n g v = block_has _ _ (and_then _ _ _ _ (closed_has _ _ (exp_has a n g v)) (ors_has es l _ v))
    exp_has (S.conditional l c a b) n g v = counts _ _ _ (block_has _ _ (and_then _ _ _ _
        (block_has _ _ (and_then _ _ _ _ (closed_has _ _ (exp_has c n g v)) (and_then _ _ _ _ (act_has _ _ _ _) (and_then _ _ _ _ (closed_has _ _ (exp_has a _ false v)) (move_has _)))))
        (closed_has _ _ (exp_has b _ false v)))) (omega arith)
    exp_has (S.call l f args) n g v = counts _ _ _ (and_then _ _ _ _ (closed_has _ _ (exp_has f n g v)) (args_has args _ l _ 1 v)) (omega arith)
    exp_has (S.lambda l b (S.parameters ps s ks d) e) n g v = counts _ _ _
        (first_has ps n g v _ _ (formals_size ks + 1) (first_has ks n g v _ _ 1 (op_has (making around b ps ks) l n g 0) (λ m k. op_has (making around b ps ks) l m false k))
        (λ m k. formals_has ks m k v _ 1 (λ i j. op_has (making around b ps ks) l i false j))) (omega arith)
    exp_has (S.comprehension l m k t it cs) n g v = counts _ _ _ (block_has _ _ (and_then _ _ _ _ (closed_has _ _ (exp_has it n g v)) (and_then _ _ _ _ (act_has _ _ _ _)
        (and_then _ _ _ _ (act_has _ _ _ _) (and_then _ _ _ _ (move_has _) (and_then _ _ _ _ (renewed_has _)
        (headed_has _ _ (and_then _ _ _ _ (act_has _ _ _ _) (and_then _ _ _ _ (closed_has _ _ (target_has t _ _))
        (clauses_has cs l _ 1 _ _ (made_size m) (λ j d. item_has m l j d _))))))))))) (omega arith)
    exp_has (S.generator l b e k t it cs) n g v =
        counts _ _ _ (and_then _ _ _ _ (closed_has _ _ (exp_has it n g v)) (and_then _ _ _ _ (act_has _ _ _ _) (made_has (around.captured b) (T.generator b) l _ false 1))) (omega arith)
    exp_has (S.yield l S.absent) n g v = counts _ _ _ (and_then _ _ _ _ null_has (act_has _ _ _ _)) refl
    exp_has (S.yield l (S.given e)) n g v = and_then _ _ _ _ (closed_has _ _ (exp_has e n g v)) (act_has _ _ _ _)
    exp_has (S.yield_from l e) n g v =
        counts _ _ _ (and_then _ _ _ _ (closed_has _ _ (exp_has e n g v)) (and_then _ _ _ _ (act_has _ _ _ _) (and_then _ _ _ _ null_has (act_has _ _ _ _)))) (omega arith)

    part_has : (o : Opt) (n : ℕ) (v : List ℕ) (behind : ℕ → Piece) (k : ℕ) → ((m : ℕ) → Has (behind m) k) → Has (part_piece around o n v behind) (opt_size o + k)
    part_has S.absent n v behind k h = and_then _ _ _ _ null_has (h n)
    part_has (S.given e) n v behind k h = and_then _ _ _ _ (closed_has _ _ (exp_has e n false v)) (h (n + size e))

    exps_has : (es : Exps) (op : Operation) (l n k : ℕ) (v : List ℕ) → Has (exps_piece around es op l n k v) (all_size es + 1)
    exps_has S.no_exps op l n k v = op_has op l n false k
    exps_has (S.more_exps e es) op l n k v = counts _ _ _ (and_then _ _ _ _ (closed_has _ _ (exp_has e n false v)) (exps_has es op l _ _ v)) (omega arith)

    entries_has : (es : Entries) (l n k : ℕ) (v : List ℕ) → Has (entries_piece around es l n k v) (entries_size es + 1)
    entries_has S.no_entries l n k v = act_has _ _ _ _
    entries_has (S.entry a b r) l n k v =
        counts _ _ _ (and_then _ _ _ _ (closed_has _ _ (exp_has a n false v)) (and_then _ _ _ _ (closed_has _ _ (exp_has b _ false v)) (entries_has r l _ _ v))) (omega arith)

    args_has : (es : Args) (op : Operation) (l n k : ℕ) (v : List ℕ) → Has (args_piece around es op l n k v) (args_size es + 1)
    args_has S.no_args op l n k v = op_has op l n false k
    args_has (S.positional e r) op l n k v = counts _ _ _ (and_then _ _ _ _ (closed_has _ _ (exp_has e n false v)) (args_has r op l _ _ v)) (omega arith)
    args_has (S.named x e r) op l n k v = counts _ _ _ (and_then _ _ _ _ (closed_has _ _ (exp_has e n false v)) (args_has r op l _ _ v)) (omega arith)
    args_has (S.spread e r) op l n k v =
        counts _ _ _ (and_then _ _ _ _ (closed_has _ _ (exp_has e n false v)) (and_then _ _ _ _ (act_has _ _ _ _) (args_has r op l _ _ v))) (omega arith)
    args_has (S.spread_named e r) op l n k v =
        counts _ _ _ (and_then _ _ _ _ (closed_has _ _ (exp_has e n false v)) (and_then _ _ _ _ (act_has _ _ _ _) (args_has r op l _ _ v))) (omega arith)

    pub pieces_has : (ps : Pieces) (l n k : ℕ) (v : List ℕ) → Has (pieces_piece around ps l n k v) (pieces_size ps + 1)
    pieces_has S.no_pieces l n k v = act_has _ _ _ _
    pieces_has (S.literal a t r) l n k v = counts _ _ _ (and_then _ _ _ _ (act_has _ _ _ _) (pieces_has r l _ _ v)) (omega arith)
    pieces_has (S.field a e c sp r) l n k v =
        counts _ _ _ (and_then _ _ _ _ (closed_has _ _ (exp_has e n false v)) (and_then _ _ _ _ (spec_has sp a _ c v) (pieces_has r l _ _ v))) (omega arith)

    pub spec_has : (ps : Pieces) (l n : ℕ) (c : Option Conversion) (v : List ℕ) → Has (spec_piece around ps l n c v) (pieces_size ps + joins ps + 1)
    spec_has S.no_pieces l n c v = counts _ _ _ (and_then _ _ _ _ null_has (act_has _ _ _ _)) refl
    spec_has (S.literal a t S.no_pieces) l n c v = counts _ _ _ (and_then _ _ _ _ (act_has _ _ _ _) (act_has _ _ _ _)) refl
    spec_has (S.field a e d sp S.no_pieces) l n c v =
        counts _ _ _ (and_then _ _ _ _ (closed_has _ _ (exp_has e n false v)) (and_then _ _ _ _ (spec_has sp a _ d v) (act_has _ _ _ _))) (omega arith)
    spec_has (S.literal a t (S.literal b u r)) l n c v = counts _ _ _
        (and_then _ _ _ _ (act_has _ _ _ _) (and_then _ _ _ _ (pieces_has (S.literal b u r) l _ 1 v) (act_has _ _ _ _))) (omega arith)
    spec_has (S.literal a t (S.field b e d sp r)) l n c v = counts _ _ _
        (and_then _ _ _ _ (act_has _ _ _ _) (and_then _ _ _ _ (pieces_has (S.field b e d sp r) l _ 1 v) (act_has _ _ _ _))) (omega arith)
    spec_has (S.field a e d sp (S.literal b u r)) l n c v = counts _ _ _ (and_then _ _ _ _ (closed_has _ _ (exp_has e n false v)) (and_then _ _ _ _ (spec_has sp a _ d v)
        (and_then _ _ _ _ (pieces_has (S.literal b u r) l _ 1 v) (act_has _ _ _ _)))) (omega arith)
    spec_has (S.field a e d sp (S.field b f o sq r)) l n c v = counts _ _ _ (and_then _ _ _ _ (closed_has _ _ (exp_has e n false v)) (and_then _ _ _ _ (spec_has sp a _ d v)
        (and_then _ _ _ _ (pieces_has (S.field b f o sq r) l _ 1 v) (act_has _ _ _ _)))) (omega arith)

    links_has : (ls : Links) (o : CompareOp) (l n : ℕ) (v : List ℕ) → Has (links_piece around ls o l n v) (1 + links_size ls)
    links_has S.no_links o l n v = act_has _ _ _ _
    links_has (S.link p b r) o l n v = counts _ _ _ (block_has _ _ (and_then _ _ _ _ (block_has _ _ (and_then _ _ _ _ (move_has _)
        (and_then _ _ _ _ (move_has _) (and_then _ _ _ _ (act_has _ _ _ _) (and_then _ _ _ _ (act_has _ _ _ _) (and_then _ _ _ _ (closed_has _ _ (exp_has b _ false v))
        (and_then _ _ _ _ (closed_has _ _ (links_has r p l _ v)) (move_has _)))))))) (and_then _ _ _ _ (move_has _) (move_has _)))) (omega arith)

    ands_has : (es : Exps) (l n : ℕ) (v : List ℕ) → Has (ands_piece around es l n v) (operands_size es)
    ands_has S.no_exps l n v = empty_has
    ands_has (S.more_exps e es) l n v =
        counts _ _ _ (and_then _ _ _ _ (act_has _ _ _ _) (and_then _ _ _ _ (closed_has _ _ (exp_has e _ false v)) (ands_has es l _ v))) (omega arith)

    ors_has : (es : Exps) (l n : ℕ) (v : List ℕ) → Has (ors_piece around es l n v) (operands_size es)
    ors_has S.no_exps l n v = empty_has
    ors_has (S.more_exps e es) l n v =
        counts _ _ _ (and_then _ _ _ _ (act_has _ _ _ _) (and_then _ _ _ _ (closed_has _ _ (exp_has e _ false v)) (ors_has es l _ v))) (omega arith)

    formals_has : (ps : Formals) (n k : ℕ) (v : List ℕ) (behind : (n k : ℕ) → Piece) (j : ℕ) → ((n k : ℕ) → Has (behind n k) j)
        → Has (formals_piece around ps n k v behind) (formals_size ps + j)
    formals_has S.no_formals n k v behind j h = counts _ _ _ (h n k) (omega arith)
    formals_has (S.formal a x t S.absent r) n k v behind j h = counts _ _ _ (formals_has r n k v behind j h) (omega arith)
    formals_has (S.formal a x t (S.given d) r) n k v behind j h =
        counts _ _ _ (and_then _ _ _ _ (closed_has _ _ (exp_has d n false v)) (formals_has r _ _ v behind j h)) (omega arith)

    first_has : (ps : Formals) (n : ℕ) (g : Bool) (v : List ℕ) (none : Piece) (behind : (n k : ℕ) → Piece) (j : ℕ) → Has none j
        → ((n k : ℕ) → Has (behind n k) j) → Has (first_piece around ps n g v none behind) (formals_size ps + j)
    first_has S.no_formals n g v none behind j h more = counts _ _ _ h (omega arith)
    first_has (S.formal a x t S.absent r) n g v none behind j h more = counts _ _ _ (first_has r n g v none behind j h more) (omega arith)
    first_has (S.formal a x t (S.given d) r) n g v none behind j h more =
        counts _ _ _ (and_then _ _ _ _ (closed_has _ _ (exp_has d n g v)) (formals_has r _ _ v behind j more)) (omega arith)

    clauses_has : (cs : Clauses) (l n d : ℕ) (v : List ℕ) (item : (n d : ℕ) → Piece) (k : ℕ) → ((n d : ℕ) → Has (item n d) k)
        → Has (clauses_piece around cs l n d v item) (clauses_size cs + k)
    clauses_has S.no_clauses l n d v item k h = counts _ _ _ (h n d) (omega arith)
    clauses_has (S.only_if c cs) l n d v item k h =
        counts _ _ _ (and_then _ _ _ _ (closed_has _ _ (exp_has c n false v)) (and_then _ _ _ _ (act_has _ _ _ _) (clauses_has cs l _ d v item k h))) (omega arith)
    clauses_has (S.for_each a t it cs) l n d v item k h = counts _ _ _ (and_then _ _ _ _ (closed_has _ _ (exp_has it n false v)) (and_then _ _ _ _ (act_has _ _ _ _)
        (headed_has _ _ (and_then _ _ _ _ (act_has _ _ _ _) (and_then _ _ _ _ (closed_has _ _ (target_has t _ v)) (clauses_has cs l _ _ v item k h))))))
        (omega arith)

    item_has : (m : Made) (l n d : ℕ) (v : List ℕ) → Has (item_piece around m l n d v) (made_size m)
    item_has (S.a_list e) l n d v = counts _ _ _ (and_then _ _ _ _ (closed_has _ _ (exp_has e n false v)) (and_then _ _ _ _ (act_has _ _ _ _) (move_has _))) (omega arith)
    item_has (S.a_set e) l n d v = counts _ _ _ (and_then _ _ _ _ (closed_has _ _ (exp_has e n false v)) (and_then _ _ _ _ (act_has _ _ _ _) (move_has _))) (omega arith)
    item_has (S.a_dict k e) l n d v = counts _ _ _
        (and_then _ _ _ _ (closed_has _ _ (exp_has k n false v)) (and_then _ _ _ _ (closed_has _ _ (exp_has e _ false v)) (and_then _ _ _ _ (act_has _ _ _ _) (move_has _)))) (omega arith)

    pub target_has : (t : Tgt) (n : ℕ) (v : List ℕ) → Has (target_piece around t n v) (target_size t)
    target_has (S.single p) n v = place_has p n v
    target_has (S.several l f ts) n v = and_then _ _ _ _ (act_has _ _ _ _) (targets_has ts _ v)
    target_has (S.starred l t) n v = target_has t n v

    targets_has : (ts : Tgts) (n : ℕ) (v : List ℕ) → Has (targets_piece around ts n v) (targets_size ts)
    targets_has S.no_targets n v = empty_has
    targets_has (S.more_targets t ts) n v = and_then _ _ _ _ (closed_has _ _ (target_has t n v)) (targets_has ts _ v)

    place_has : (p : Place) (n : ℕ) (v : List ℕ) → Has (place_piece around p n v) (place_size p)
    place_has (S.name_at l x) n v = act_has _ _ _ _
    place_has (S.attribute_at l a x) n v = and_then _ _ _ _ (closed_has _ _ (exp_has a n false v)) (act_has _ _ _ _)
    place_has (S.item_at l a i) n v =
        counts _ _ _ (and_then _ _ _ _ (closed_has _ _ (exp_has a n false v)) (and_then _ _ _ _ (closed_has _ _ (exp_has i _ false v)) (act_has _ _ _ _))) (omega arith)
