-- How many acts the pieces of statements have. A piece may number its acts anew: then it ends with a number, whatever it begins with.
use Rattle.std.proofs.Common.{◌≡◌, ℕ, ◌+◌, List, [], ◌∷◌, ◌++◌, length, Bool, true, false, Option, Some, None, refl, ap, sym, ◌∙◌, arith, add-zero}
use Rattle.std.specs.Prelude.{if◌then◌else◌, ◌&&◌}
use Rattle.pt_base.specs.declared.operators.BinOp.{BinOp}
use Rattle.pt_ranges.specs.declared.handlers.Handler.{Handler}
use Rattle.pt_tree.specs.declared.statement.Alias.{Alias}
use Rattle.pt_tree.specs.Syntax as S
use Rattle.pt_tree.specs.Syntax.{Name, Exp, Opt, Place as TreePlace, Tgt, Tgts, Decorators, Items, Stm, Stms, Branches, Handlers, none, more}
use Rattle.pt_tree.specs.declared.expression.Constant.TheVariants as constant
use Rattle.pt_tree.specs.Sizes.{size, opt_size, place_size, target_size, targets_size, params_size, deleted_size, all_deleted_size, decorators_size, decorator_calls, items_size, stm_size, stms_size, branches_size, handlers_size}
use Rattle.pt_instr.specs.declared.Instr.TheVariants as instr
use Rattle.sem_control.specs.control.Turn as T
use Rattle.sem_control.specs.control.Turn.{Around, Variable, Operation}
use Rattle.sem_control.specs.control.Frames.{Definition, a_function, a_class}
use Rattle.sem_control.specs.control.Numbers.{tested_body, behind_body, for_body, for_else, try_handlers, try_else, try_finally, handler_body}
use Rattle.sem_control.specs.control.Statements.{all_places, places}
use Rattle.sem_control.specs.control.Jump.{starts_on}
use Rattle.pt_assembler.specs.declared.operation.Exit.{Exit}
use Rattle.pt_assembler.specs.declared.operation.Label.{Label}
use Rattle.pt_assembler.specs.declared.operation.Place.{Place}
use Rattle.pt_assembler.specs.Piece.{Op, plain, with_text, Piece, empty, act, move, block, headed, closed, looped, leave, ensured, caught, deeper, started, numbered, ◌▸◌}
use Rattle.pt_assembler.specs.Layout.{Written, layout, put_row, put_start, new_label, next_label, placed, numbered_from}
use Rattle.pt_write_ops.specs.sem_compile.emitter.ExpPiece.{made_piece, exp_piece, target_piece}
use Rattle.pt_expr_forms.proofs.Acts.{Has, put-act, put_act-act, new_label-act, bind-act, act_has, move_has, exp_has, target_has}
use Rattle.pt_write_ops.specs.sem_compile.stm_pieces.Needed.{Behind, is_needed, is_silent, leaves, in_front, free}
use Rattle.pt_write_ops.specs.sem_compile.stm_pieces.StmPiece.{guarded_piece, ensured_piece, begun_piece, store_piece, assigned_piece, changed_piece, augmented_piece, deleted_piece, all_deleted_piece, failed_piece, returned_piece, thrown_piece, imported_piece, imported_from_piece, bound_piece, definition_piece, defined_piece, handled_piece, items_piece, stm_piece, all_piece, branches_piece, handlers_piece}

pub put_row-act : (r : Handler) (w : Written) → (put_row r w).act ≡ w.act
unfolding put_row
put_row-act r w = refl

pub put_start-act : (l : ℕ) (w : Written) → (put_start l w).act ≡ w.act
unfolding put_start
put_start-act l w = refl

pub placed-act : (p : Place) (w : Written) → (placed p w).act ≡ w.act
unfolding placed
placed-act p w = refl

pub numbered-act : (n : ℕ) (w : Written) → (numbered_from n w).act ≡ n
unfolding numbered_from
numbered-act n w = refl

-- a piece that begins with the one number ends with the other
pub record Ends (p : Piece) (n m : ℕ) : Type 0 where
  pub acts : (L : List Label) (w : Written) → w.act ≡ n → (layout p L w).act ≡ m

has_ends : (p : Piece) (n k m : ℕ) → Has p k → n + k ≡ m → Ends p n m
has_ends p n k m h e = record { acts = λ L w is. h.acts L w ∙ ap (λ i. i + k) is ∙ e }

ends_at : (p : Piece) (n i m : ℕ) → Ends p n i → i ≡ m → Ends p n m
ends_at p n i m h e = record { acts = λ L w is. h.acts L w is ∙ e }

and_ends : (a c : Piece) (n i m : ℕ) → Ends a n i → Ends c i m → Ends (a ▸ c) n m
and_ends a c n i m first second = record { acts = λ L w is. second.acts L (layout a L w) (first.acts L w is) }

block_ends : (p : Piece) (n m : ℕ) → Ends p n m → Ends (block p) n m
block_ends p n m h = record { acts = λ L w is. bind-act _ _ ∙ h.acts (next_label w ∷ L) (new_label w) (new_label-act w ∙ is) }

headed_ends : (p : Piece) (n m : ℕ) → Ends p n m → Ends (headed p) n m
headed_ends p n m h = record { acts = λ L w is. h.acts (next_label w ∷ L) (new_label w) (new_label-act w ∙ is) }

closed_ends : (p : Piece) (n m : ℕ) → Ends p n m → Ends (closed p) n m
closed_ends p n m h = record { acts = λ L w is. h.acts [] w is }

looped_ends : (b : ℕ) (p : Piece) (n m : ℕ) → Ends p n m → Ends (looped b p) n m
looped_ends b p n m h = record { acts = λ L w is. bind-act _ _ ∙ placed-act _ _ ∙ h.acts [] _ (placed-act _ _ ∙ new_label-act w ∙ is) }

leave_ends : (e : Exit) (n l : ℕ) → Ends (leave e n l) n (n + 1)
leave_ends e n l = record { acts = λ L w is. put_act-act _ _ _ ∙ ap (λ i. i + 1) is }

ensured_ends : (p : Piece) (n m : ℕ) → Ends p n m → Ends (ensured p) n m
ensured_ends p n m h = record { acts = λ L w is. put_row-act _ _ ∙ put-act _ _ ∙ h.acts [] w is }

caught_ends : (p q : Piece) (n i m : ℕ) → Ends p n i → Ends q i m → Ends (caught p q) n m
caught_ends p q n i m first second =
    record { acts = λ L w is. put_row-act _ _ ∙ second.acts L (layout p [] w) (first.acts [] w is) }

deeper_ends : (k : ℕ) (p : Piece) (n m : ℕ) → Ends p n m → Ends (deeper k p) n m
deeper_ends k p n m h = record { acts = λ L w is. placed-act _ _ ∙ h.acts L _ (placed-act _ _ ∙ is) }

started_ends : (l : ℕ) (p : Piece) (n m : ℕ) → Ends p n m → Ends (started l p) n m
started_ends l p n m h = record { acts = λ L w is. h.acts L (put_start l w) (put_start-act l w ∙ is) }

numbered_ends : (k : ℕ) (p : Piece) (n m : ℕ) → Ends p k m → Ends (numbered k p) n m
numbered_ends k p n m h = record { acts = λ L w is. h.acts L (numbered_from k w) (numbered-act k w) }

empty_ends : (n : ℕ) → Ends empty n n
empty_ends n = record { acts = λ L w is. is }

act_ends : (op : Op) (n l : ℕ) (g : Bool) → Ends (act op n l g) n (n + 1)
act_ends op n l g = has_ends (act op n l g) n 1 (n + 1) (act_has op n l g) refl

move_ends : (op : Op) (n : ℕ) → Ends (move op) n n
move_ends op n = has_ends (move op) n 0 n (move_has op) (add-zero n)

-- what stands under the handler row of a `finally` part, and that part
finally_ends : (fin : Stms) (guarded part : Piece) (n i m : ℕ) → Ends guarded n i → ((j : ℕ) → Ends part j m) → Ends (ensured_piece fin guarded part) n m
finally_ends none g p n i m first second = and_ends g p n i m first (second i)
finally_ends (more st ss) g p n i m first second =
    and_ends _ _ n i m (ensured_ends g n i first) (and_ends _ _ i m m (deeper_ends 1 p i m (second i)) (move_ends _ m))

-- behind handlers the number is theirs
abbrev last_of : Handlers → (otherwise handlers : ℕ) → ℕ
last_of S.no_handlers a c = a
last_of (S.handler l e y body r) a c = c

guarded_ends : (hs : Handlers) (body els handlers : Piece) (n i m k : ℕ) → Ends body n i → Ends els i m → Ends handlers m k
    → Ends (guarded_piece hs body els handlers) n (last_of hs m k)
guarded_ends S.no_handlers body els handlers n i m k first second third = and_ends body els n i m first second
guarded_ends (S.handler l e y hb r) body els handlers n i m k first second third =
    block_ends _ n k (and_ends _ _ n m k (caught_ends _ _ n i m first (and_ends _ _ i m m second (move_ends _ m))) third)

chosen_ends : (c d : Bool) (p q r : Piece) (n m : ℕ) → Ends p n m → Ends q n m → Ends r n m → Ends (if c then p else if d then q else r) n m
chosen_ends true d p q r n m first second third = first
chosen_ends false true p q r n m first second third = second
chosen_ends false false p q r n m first second third = third

pub begun_ends : (st : Stm) (q : Behind) (n m : ℕ) (p : Piece) → Ends p n m → Ends (started (starts_on st) (begun_piece st q p)) n m
begun_ends st q n m p h = started_ends _ _ n m (chosen_ends (is_silent st) (leaves st && is_needed q) _ _ _ n m
    (and_ends _ _ n n m (move_ends _ n) h)
    (block_ends _ n m (and_ends _ _ n n m (move_ends _ n) (and_ends _ _ n n m (move_ends _ n) (closed_ends p n m h)))) h)

module _ {V : Type 0} (around : Around V) where
  value_ends : (e : Exp) (n : ℕ) (g : Bool) → Ends (closed (exp_piece around e n g [])) n (n + size e)
  value_ends e n g = closed_ends _ n _ (has_ends _ n (size e) (n + size e) (exp_has around e n g []) refl)

  target_ends : (t : Tgt) (n : ℕ) → Ends (closed (target_piece around t n [])) n (n + target_size t)
  target_ends t n = closed_ends _ n _ (has_ends _ n (target_size t) (n + target_size t) (target_has around t n []) refl)

  made_ends : (xs : List Variable) (op : Operation) (l n : ℕ) (k : ℕ) → Ends (made_piece around xs op l n false k) n (n + 1)
  made_ends [] op l n k = act_ends _ n l false
  made_ends (x ∷ xs) op l n k = and_ends _ _ n n (n + 1) (move_ends _ n) (made_ends xs op l n k)

  assigned_ends : (ts : Tgts) (n : ℕ) → Ends (assigned_piece around ts n) n (n + targets_size ts)
  assigned_ends S.no_targets n = ends_at _ n n _ (move_ends _ n) (sym (add-zero n))
  assigned_ends (S.more_targets t S.no_targets) n = ends_at _ n _ _ (target_ends t n) (omega arith)
  assigned_ends (S.more_targets t (S.more_targets u ts)) n =
      ends_at _ n _ _ (and_ends _ _ n n _ (move_ends _ n)
      (and_ends _ _ n (n + target_size t) _ (target_ends t n) (assigned_ends (S.more_targets u ts) (n + target_size t)))) (omega arith)

  changed_ends : (o : BinOp) (e : Exp) (l n : ℕ) (back : ℕ → Piece) → ((m : ℕ) → Ends (back m) m (m + 1))
      → Ends (changed_piece around o e l n back) n (n + size e + 1 + 1)
  changed_ends o e l n back h =
      and_ends _ _ n (n + size e) _ (value_ends e n false)
      (and_ends _ _ (n + size e) (n + size e + 1) _ (act_ends _ (n + size e) l false) (h (n + size e + 1)))

  augmented_ends : (p : TreePlace) (o : BinOp) (e : Exp) (l n : ℕ) → Ends (augmented_piece around p o e l n) n (n + (place_size p + size e + 2))
  augmented_ends (S.name_at k y) o e l n =
      ends_at _ n _ _ (and_ends _ _ n (n + 1) _ (value_ends (S.name k y) n false) (changed_ends o e l (n + 1) (λ m. store_piece around y m k) (λ m. act_ends _ m k false))) (omega arith)
  augmented_ends (S.attribute_at k a y) o e l n =
      ends_at _ n _ _ (and_ends _ _ n (n + size a) _ (value_ends a n false) (and_ends _ _ _ (n + size a) _ (move_ends _ _)
      (and_ends _ _ _ (n + size a + 1) _ (act_ends _ (n + size a) k false)
      (changed_ends o e l (n + size a + 1) (λ m. move (plain instr.Swap) ▸ act (with_text instr.SetAttr (around.spelled y)) m k false) (λ m. and_ends _ _ m m (m + 1) (move_ends _ m) (act_ends _ m k false)))))) (omega arith)
  augmented_ends (S.item_at k a i) o e l n =
      ends_at _ n _ _ (and_ends _ _ n (n + size a) _ (value_ends a n false) (and_ends _ _ _ (n + size a + size i) _ (value_ends i (n + size a) false)
      (and_ends _ _ _ (n + size a + size i) _ (move_ends _ _) (and_ends _ _ _ (n + size a + size i + 1) _ (act_ends _ (n + size a + size i) k false)
      (changed_ends o e l (n + size a + size i + 1) (λ m. move (plain instr.Rot3) ▸ act (plain instr.SetItem) m k false) (λ m. and_ends _ _ m m (m + 1) (move_ends _ m) (act_ends _ m k false))))))) (omega arith)

  pub deleted_ends : (p : TreePlace) (n : ℕ) → Ends (deleted_piece around p n) n (n + place_size p)
  deleted_ends (S.name_at l y) n = act_ends _ n l false
  deleted_ends (S.attribute_at l a y) n =
      ends_at _ n _ _ (and_ends _ _ n (n + size a) _ (value_ends a n false) (act_ends _ (n + size a) l false)) (omega arith)
  deleted_ends (S.item_at l a i) n =
      ends_at _ n _ _ (and_ends _ _ n (n + size a) _ (value_ends a n false)
      (and_ends _ _ _ (n + size a + size i) _ (value_ends i (n + size a) false) (act_ends _ (n + size a + size i) l false))) (omega arith)

  abbrev all_places_size : List TreePlace → ℕ
  all_places_size [] = 0
  all_places_size (p ∷ ps) = place_size p + all_places_size ps

  all_deleted_ends : (ps : List TreePlace) (n : ℕ) → Ends (all_deleted_piece around ps n) n (n + all_places_size ps)
  all_deleted_ends [] n = ends_at _ n n _ (empty_ends n) (sym (add-zero n))
  all_deleted_ends (p ∷ ps) n =
      ends_at _ n _ _ (and_ends _ _ n (n + place_size p) _ (deleted_ends p n) (all_deleted_ends ps (n + place_size p))) (omega arith)

  places_size-append : (ps qs : List TreePlace) → all_places_size (ps ++ qs) ≡ all_places_size ps + all_places_size qs
  places_size-append [] qs = omega arith
  places_size-append (p ∷ ps) qs = ap (λ n. place_size p + n) (places_size-append ps qs) ∙ omega arith

  mutual
    places_size-one : (t : Tgt) → all_places_size (places t) ≡ deleted_size t
    places_size-one (S.single p) = add-zero (place_size p)
    places_size-one (S.several l f ts) = places_size-all ts
    places_size-one (S.starred l t) = places_size-one t

    places_size-all : (ts : Tgts) → all_places_size (all_places ts) ≡ all_deleted_size ts
    places_size-all S.no_targets = refl
    places_size-all (S.more_targets t ts) =
        places_size-append (places t) (all_places ts)
        ∙ ap (λ n. n + all_places_size (all_places ts)) (places_size-one t) ∙ ap (λ n. deleted_size t + n) (places_size-all ts)

  failed_ends : (m : Opt) (l n : ℕ) → Ends (failed_piece around m l n) n (n + (opt_size m + 1))
  failed_ends S.absent l n = ends_at _ n _ _ (act_ends _ n l false) (omega arith)
  failed_ends (S.given m) l n = ends_at _ n _ _ (and_ends _ _ n (n + size m) _ (value_ends m n false) (act_ends _ (n + size m) l false)) (omega arith)

  returned_ends : (e : Opt) (l n : ℕ) → Ends (returned_piece around e l n) n (n + (opt_size e + 1))
  returned_ends S.absent l n = ends_at _ n _ _ (and_ends _ _ n n _ (move_ends _ n) (act_ends _ n l false)) (omega arith)
  returned_ends (S.given e) l n = ends_at _ n _ _ (and_ends _ _ n (n + size e) _ (value_ends e n false) (act_ends _ (n + size e) l false)) (omega arith)

  thrown_ends : (c : Opt) (l n : ℕ) → Ends (thrown_piece around c l n) n (n + (opt_size c + 1))
  thrown_ends S.absent l n = ends_at _ n _ _ (act_ends _ n l false) (omega arith)
  thrown_ends (S.given c) l n = ends_at _ n _ _ (and_ends _ _ n (n + size c) _ (value_ends c n false) (act_ends _ (n + size c) l false)) (omega arith)

  imported_ends : (as' : List Alias) (l n : ℕ) → Ends (imported_piece around as' l n) n (n + (length as' + length as'))
  imported_ends [] l n = ends_at _ n n _ (empty_ends n) (sym (add-zero n))
  imported_ends (a ∷ as') l n = ends_at _ n _ _ (and_ends _ _ n (n + 1) _ (act_ends _ n l false)
      (and_ends _ _ (n + 1) (n + 1 + 1) _ (act_ends _ (n + 1) l false) (imported_ends as' l (n + 1 + 1)))) (omega arith)

  imported_from_ends : (as' : List Alias) (l n : ℕ) → Ends (imported_from_piece around as' l n) n (n + (length as' + length as'))
  imported_from_ends [] l n = ends_at _ n n _ (move_ends _ n) (sym (add-zero n))
  imported_from_ends (a ∷ as') l n = ends_at _ n _ _ (and_ends _ _ n (n + 1) _ (act_ends _ n l false)
      (and_ends _ _ (n + 1) (n + 1 + 1) _ (act_ends _ (n + 1) l false) (imported_from_ends as' l (n + 1 + 1)))) (omega arith)

  bound_ends : (ks : List ℕ) (l n : ℕ) (y : Name) → Ends (bound_piece around ks l n y) n (n + length ks + 1)
  bound_ends [] l n y = ends_at _ n _ _ (act_ends _ n l false) (omega arith)
  bound_ends (k ∷ ks) l n y = ends_at _ n _ _ (and_ends _ _ n (n + 1) _ (act_ends _ n k false) (bound_ends ks l (n + 1) y)) (omega arith)

  abbrev made_size : Definition → ℕ
  made_size (a_function b ps) = params_size ps + 1
  made_size (a_class b base) = opt_size base + 1

  definition_ends : (what : Definition) (ks : List ℕ) (l n : ℕ) (y : Name) → Ends (definition_piece around what ks l n y) n (n + made_size what + length ks + 1)
  definition_ends (a_function b ps) ks l n y = ends_at _ n _ _
      (and_ends _ _ n (n + params_size ps + 1) _ (ends_at _ n _ _ (value_ends (S.lambda l b ps (S.constant l constant.None)) n false) (omega arith))
      (bound_ends ks l (n + params_size ps + 1) y)) (omega arith)
  definition_ends (a_class b S.absent) ks l n y = ends_at _ n _ _
      (and_ends _ _ n n _ (move_ends _ n) (and_ends _ _ n (n + 1) _ (made_ends (around.captured b) (T.class b) l n 1) (bound_ends ks l (n + 1) y))) (omega arith)
  definition_ends (a_class b (S.given e)) ks l n y = ends_at _ n _ _
      (and_ends _ _ n (n + size e) _ (value_ends e n false)
      (and_ends _ _ _ (n + size e + 1) _ (made_ends (around.captured b) (T.class b) l (n + size e) 1) (bound_ends ks l (n + size e + 1) y))) (omega arith)

  defined_ends : (ds : Decorators) (what : Definition) (ks : List ℕ) (l n : ℕ) (y : Name)
      → Ends (defined_piece around ds what ks l n y) n (n + (decorators_size ds + made_size what + (decorator_calls ds + length ks) + 1))
  defined_ends S.no_decorators what ks l n y = ends_at _ n _ _ (definition_ends what ks l n y) (omega arith)
  defined_ends (S.decorator j e r) what ks l n y = ends_at _ n _ _
      (and_ends _ _ n (n + size e) _ (value_ends e n false) (defined_ends r what (j ∷ ks) l (n + size e) y)) (omega arith)

  -- a handler behind its Match, and the items of a `with`, around bodies of so many acts
  handled_ends : (l n : ℕ) (y : Option Name) (body : ℕ → Piece) (k : ℕ) → ((m : ℕ) → Ends (body m) m (m + k))
      → Ends (handled_piece around l n y body) (n + 1) (handler_body n y + k)
  handled_ends l n None body k h =
      and_ends _ _ (n + 1) (n + 1) _ (move_ends _ _) (and_ends _ _ (n + 1) (n + 1) _ (move_ends _ _)
      (and_ends _ _ (n + 1) (n + 1 + k) _ (deeper_ends 1 _ (n + 1) _ (closed_ends _ (n + 1) _ (h (n + 1))))
      (and_ends _ _ _ (n + 1 + k) _ (move_ends _ _) (move_ends _ _))))
  handled_ends l n (Some y) body k h =
      and_ends _ _ (n + 1) (n + 1) _ (move_ends _ _) (and_ends _ _ (n + 1) (n + 1 + 1) _ (act_ends _ (n + 1) l false)
      (and_ends _ _ (n + 1 + 1) (n + 1 + 1 + k) _ (deeper_ends 1 _ (n + 1 + 1) _ (ensured_ends _ (n + 1 + 1) _ (h (n + 1 + 1))))
      (and_ends _ _ _ (n + 1 + 1 + k) _ (move_ends _ _) (and_ends _ _ _ (n + 1 + 1 + k) _ (move_ends _ _) (and_ends _ _ _ (n + 1 + 1 + k) _ (move_ends _ _)
      (and_ends _ _ _ (n + 1 + 1 + k) _ (move_ends _ _) (and_ends _ _ _ (n + 1 + 1 + k) _ (move_ends _ _) (move_ends _ _))))))))

  pub items_ends : (is : Items) (body : ℕ → Piece) (k n : ℕ) → ((m : ℕ) → Ends (body m) m (m + k))
      → Ends (items_piece around is body k n) n (n + items_size is k)
  items_ends S.no_items body k n h = closed_ends _ n _ (h n)
  items_ends (S.with_item l e None r) body k n h = ends_at _ n _ _
      (and_ends _ _ n (n + size e) _ (value_ends e n false) (and_ends _ _ _ (n + size e + 1) _ (act_ends _ (n + size e) l false)
      (and_ends _ _ (n + size e + 1) (n + size e + 1 + items_size r k) _
      (deeper_ends 1 _ _ _ (ensured_ends _ _ _ (and_ends _ _ (n + size e + 1) (n + size e + 1) _ (move_ends _ _) (items_ends r body k (n + size e + 1) h))))
      (and_ends _ _ _ (n + size e + 1 + items_size r k + 1) _ (act_ends _ (n + size e + 1 + items_size r k) l false) (move_ends _ _))))) (omega arith)
  items_ends (S.with_item l e (Some t) r) body k n h = ends_at _ n _ _
      (and_ends _ _ n (n + size e) _ (value_ends e n false) (and_ends _ _ _ (n + size e + 1) _ (act_ends _ (n + size e) l false)
      (and_ends _ _ (n + size e + 1) (n + size e + 1 + target_size t + items_size r k) _
      (deeper_ends 1 _ _ _ (ensured_ends _ _ _ (and_ends _ _ (n + size e + 1) (n + size e + 1 + target_size t) _ (target_ends t (n + size e + 1))
      (items_ends r body k (n + size e + 1 + target_size t) h))))
      (and_ends _ _ _ (n + size e + 1 + target_size t + items_size r k + 1) _ (act_ends _ (n + size e + 1 + target_size t + items_size r k) l false)
      (move_ends _ _))))) (omega arith)

  mutual
    pub stm_ends : (st : Stm) (n : ℕ) (q : Behind) → Ends (stm_piece around st n q) n (n + stm_size st)
    stm_ends (S.expr l e) n q = ends_at _ n _ _ (and_ends _ _ n (n + size e) _ (value_ends e n false) (act_ends _ (n + size e) l false)) (omega arith)
    stm_ends (S.assign l ts e) n q = ends_at _ n _ _ (and_ends _ _ n (n + size e) _ (value_ends e n false) (assigned_ends ts (n + size e))) (omega arith)
    stm_ends (S.augmented l p o e) n q = augmented_ends p o e l n
    stm_ends (S.annotated l p a S.absent) n q = act_ends _ n l false
    stm_ends (S.annotated l p a (S.given e)) n q = ends_at _ n _ _
        (and_ends _ _ n (n + size e) _ (value_ends e n false) (assigned_ends (S.more_targets (S.single p) S.no_targets) (n + size e))) (omega arith)
    stm_ends (S.assert l c m) n q = ends_at _ n _ _ (block_ends _ n _ (and_ends _ _ n (n + size c) _ (value_ends c n false)
        (and_ends _ _ _ (n + size c + 1) _ (act_ends _ (n + size c) l false) (failed_ends m l (n + size c + 1))))) (omega arith)
    stm_ends (S.pass l) n q = act_ends _ n l false
    stm_ends (S.del l ts) n q = ends_at _ n _ _ (all_deleted_ends (all_places ts) n) (ap (λ i. n + i) (places_size-all ts))
    stm_ends (S.return l e) n q = returned_ends e l n
    stm_ends (S.raise l e c) n q = ends_at _ n _ _ (and_ends _ _ n (n + size e) _ (value_ends e n false) (thrown_ends c l (n + size e))) (omega arith)
    stm_ends (S.raise_again l) n q = act_ends _ n l false
    stm_ends (S.break l) n q = leave_ends _ n l
    stm_ends (S.continue l) n q = leave_ends _ n l
    stm_ends (S.import l xs) n q = imported_ends xs l n
    stm_ends (S.import_from l m xs) n q = ends_at _ n _ _ (and_ends _ _ n (n + 1) _ (act_ends _ n l false) (imported_from_ends xs l (n + 1))) (omega arith)
    stm_ends (S.global l xs) n q = ends_at _ n n _ (empty_ends n) (sym (add-zero n))
    stm_ends (S.nonlocal l xs) n q = ends_at _ n n _ (empty_ends n) (sym (add-zero n))
    stm_ends (S.choice l bs els) n q = block_ends _ n _ (branches_ends bs n _ (stms_size els) (λ m. closed_ends _ m _ (all_ends els m _)))
    stm_ends (S.while l c body els) n q = ends_at _ n _ _ (block_ends _ n _ (and_ends _ _ n (n + size c + 1) _
        (block_ends _ n _ (and_ends _ _ n (n + size c) _ (value_ends c n false) (and_ends _ _ _ (n + size c + 1) _ (act_ends _ (n + size c) l false)
        (headed_ends _ (n + size c + 1) _ (and_ends _ _ _ (tested_body n c + stms_size body) _ (looped_ends 2 _ _ _ (all_ends body (tested_body n c) _))
        (numbered_ends n _ _ _ (and_ends _ _ n (n + size c) _ (value_ends c n true) (act_ends _ (n + size c) l false))))))))
        (numbered_ends (behind_body n c body) _ _ _ (closed_ends _ _ _ (all_ends els (behind_body n c body) _))))) (omega arith)
    stm_ends (S.for l t it body els) n q = ends_at _ n _ _ (block_ends _ n _ (and_ends _ _ n (n + size it + 1 + 1) _
        (block_ends _ n _ (and_ends _ _ n (n + size it) _ (value_ends it n false) (and_ends _ _ _ (n + size it + 1) _ (act_ends _ (n + size it) l false)
        (and_ends _ _ _ (n + size it + 1 + 1) _ (act_ends _ (n + size it + 1) l false)
        (headed_ends _ (n + size it + 1 + 1) _ (and_ends _ _ _ (n + size it + 1 + 1 + target_size t) _ (target_ends t (n + size it + 1 + 1))
        (and_ends _ _ _ (for_body (n + size it + 1) t + stms_size body) _
        (deeper_ends 1 _ _ _ (looped_ends 2 _ _ _ (all_ends body (for_body (n + size it + 1) t) _)))
        (and_ends _ _ _ (n + size it + 1 + 1) _ (numbered_ends (n + size it + 1) _ _ _ (act_ends _ (n + size it + 1) l true)) (move_ends _ _)))))))))
        (numbered_ends (for_else (n + size it + 1) t body) _ _ _ (closed_ends _ _ _ (all_ends els (for_else (n + size it + 1) t body) _))))) (omega arith)
    stm_ends (S.try l body hs els fin) n q = ends_at _ n _ _ (and_ends _ _ n (n + 1) _ (act_ends _ n l false)
        (finally_ends fin _ _ (n + 1) _ (try_finally n body hs els + stms_size fin)
        (guarded_ends hs _ _ _ (n + 1) (n + 1 + stms_size body) (try_else n body hs + stms_size els) (try_handlers n body + handlers_size hs)
        (closed_ends _ (n + 1) _ (all_ends body (n + 1) _))
        (numbered_ends (try_else n body hs) _ _ _ (closed_ends _ _ _ (all_ends els (try_else n body hs) _)))
        (numbered_ends (try_handlers n body) _ _ _ (handlers_ends hs (try_handlers n body))))
        (λ j. numbered_ends (try_finally n body hs els) _ _ _ (closed_ends _ _ _ (all_ends fin (try_finally n body hs els) _))))) (omega arith)
    stm_ends (S.with l is body) n q = items_ends is (λ m. all_piece around body m free) (stms_size body) n (λ m. all_ends body m free)
    stm_ends (S.def l ds k c y ps r body) n q = ends_at _ n _ _ (defined_ends ds (a_function c ps) [] k n y) (omega arith)
    stm_ends (S.class l ds k c y base body) n q = ends_at _ n _ _ (defined_ends ds (a_class c base) [] k n y) (omega arith)
    stm_ends (S.docstring l) n q = ends_at _ n n _ (empty_ends n) (sym (add-zero n))

    pub all_ends : (ss : Stms) (n : ℕ) (q : Behind) → Ends (all_piece around ss n q) n (n + stms_size ss)
    all_ends none n q = ends_at _ n n _ (empty_ends n) (sym (add-zero n))
    all_ends (more st ss) n q = ends_at _ n _ _ (and_ends _ _ n (n + stm_size st) _
        (begun_ends st (in_front ss q) n (n + stm_size st) (stm_piece around st n (in_front ss q)) (stm_ends st n (in_front ss q)))
        (all_ends ss (n + stm_size st) q)) (omega arith)

    branches_ends : (bs : Branches) (n : ℕ) (els : ℕ → Piece) (k : ℕ) → ((m : ℕ) → Ends (els m) m (m + k))
        → Ends (branches_piece around bs n els) n (n + (branches_size bs + k))
    branches_ends S.no_branches n els k h = ends_at _ n _ _ (h n) (omega arith)
    branches_ends (S.branch l c body r) n els k h = ends_at _ n _ _ (and_ends _ _ n (behind_body n c body) _
        (block_ends _ n _ (and_ends _ _ n (n + size c) _ (value_ends c n false) (and_ends _ _ _ (n + size c + 1) _ (act_ends _ (n + size c) l false)
        (and_ends _ _ _ (behind_body n c body) _ (closed_ends _ _ _ (all_ends body (tested_body n c) free)) (move_ends _ _)))))
        (branches_ends r (behind_body n c body) els k h)) (omega arith)

    handlers_ends : (hs : Handlers) (n : ℕ) → Ends (handlers_piece around hs n) n (n + handlers_size hs)
    handlers_ends S.no_handlers n = ends_at _ n n _ (move_ends _ n) (sym (add-zero n))
    handlers_ends (S.handler l S.absent None body r) n = ends_at _ n _ _ (and_ends _ _ n (handler_body n None + stms_size body) _
        (block_ends _ n _ (and_ends _ _ n n _ (move_ends _ n) (and_ends _ _ n (n + 1) _ (act_ends _ n l false) (and_ends _ _ _ (n + 1) _ (move_ends _ _)
        (handled_ends l n None _ (stms_size body) (λ m. all_ends body m free))))))
        (handlers_ends r (handler_body n None + stms_size body))) (omega arith)
    handlers_ends (S.handler l S.absent (Some y) body r) n = ends_at _ n _ _ (and_ends _ _ n (handler_body n (Some y) + stms_size body) _
        (block_ends _ n _ (and_ends _ _ n n _ (move_ends _ n) (and_ends _ _ n (n + 1) _ (act_ends _ n l false) (and_ends _ _ _ (n + 1) _ (move_ends _ _)
        (handled_ends l n (Some y) _ (stms_size body) (λ m. all_ends body m free))))))
        (handlers_ends r (handler_body n (Some y) + stms_size body))) (omega arith)
    handlers_ends (S.handler l (S.given c) None body r) n = ends_at _ n _ _ (and_ends _ _ n (handler_body (n + size c) None + stms_size body) _
        (block_ends _ n _ (and_ends _ _ n (n + size c) _ (value_ends c n false) (and_ends _ _ _ (n + size c + 1) _ (act_ends _ (n + size c) l false)
        (and_ends _ _ _ (n + size c + 1) _ (move_ends _ _) (handled_ends l (n + size c) None _ (stms_size body) (λ m. all_ends body m free))))))
        (handlers_ends r (handler_body (n + size c) None + stms_size body))) (omega arith)
    handlers_ends (S.handler l (S.given c) (Some y) body r) n = ends_at _ n _ _ (and_ends _ _ n (handler_body (n + size c) (Some y) + stms_size body) _
        (block_ends _ n _ (and_ends _ _ n (n + size c) _ (value_ends c n false) (and_ends _ _ _ (n + size c + 1) _ (act_ends _ (n + size c) l false)
        (and_ends _ _ _ (n + size c + 1) _ (move_ends _ _) (handled_ends l (n + size c) (Some y) _ (stms_size body) (λ m. all_ends body m free))))))
        (handlers_ends r (handler_body (n + size c) (Some y) + stms_size body))) (omega arith)
