-- The acts of statements are numbered up to their sizes: those that come again, in the re-tests of loops, have numbers that were there.
use Rattle.std.proofs.Common.{◌≡◌, ℕ, ◌+◌, max, List, [], ◌∷◌, ◌++◌, length, Bool, true, false, Option, Some, None, refl, ap, ◌∙◌, arith, add-zero}
use Rattle.std.specs.Prelude.{if◌then◌else◌, ◌&&◌}
use Rattle.pt_base.specs.declared.operators.BinOp.{BinOp}
use Rattle.pt_tree.specs.declared.statement.Alias.{Alias}
use Rattle.pt_tree.specs.Syntax as S
use Rattle.pt_tree.specs.Syntax.{Name, Exp, Opt, Place as TreePlace, Tgt, Tgts, Decorators, Items, Stm, Stms, Branches, Handlers, none, more}
use Rattle.pt_tree.specs.declared.expression.Constant.TheVariants as constant
use Rattle.pt_tree.specs.Sizes.{size, opt_size, place_size, target_size, targets_size, params_size, deleted_size, all_deleted_size, decorators_size, decorator_calls, items_size, stm_size, stms_size, branches_size, handlers_size}
use Rattle.pt_instr.specs.declared.Instr.TheVariants as instr
use Rattle.sem_control.specs.control.Turn as T
use Rattle.sem_control.specs.control.Turn.{Around}
use Rattle.sem_control.specs.control.Frames.{Definition, a_function, a_class}
use Rattle.sem_control.specs.control.Numbers.{tested_body, behind_body, for_body, for_else, try_handlers, try_else, try_finally, handler_body}
use Rattle.sem_control.specs.control.Statements.{all_places, places}
use Rattle.sem_control.specs.control.Jump.{starts_on}
use Rattle.pt_assembler.specs.Piece.{plain, with_text, Piece, act, move, closed, started, ◌▸◌}
use Rattle.sem_compile.specs.emitter.ExpPiece.{exp_piece, target_piece}
use Rattle.sem_compile.specs.stm_pieces.Needed.{Behind, needed, is_needed, is_silent, leaves, in_front, free}
use Rattle.sem_compile.specs.stm_pieces.StmPiece.{guarded_piece, ensured_piece, begun_piece, store_piece, assigned_piece, changed_piece, augmented_piece, deleted_piece, all_deleted_piece, failed_piece, returned_piece, thrown_piece, imported_piece, imported_from_piece, bound_piece, definition_piece, defined_piece, handled_piece, items_piece, stm_piece, all_piece, branches_piece, handlers_piece}
use Rattle.law_pieces.proofs.piece_acts.Above.{above, Tops, act_tops, no_tops, and_tops, ends, again_tops}
use Rattle.law_pieces.proofs.piece_acts.Expressions as expressions
use Rattle.law_pieces.proofs.piece_acts.Expressions.{exp_tops, made_tops}

-- what stands under the handler row of a `finally` part, and that part
finally_tops : (fin : Stms) (guarded part : Piece) (n e m : ℕ) → Tops guarded n e → Tops part e m → Tops (ensured_piece fin guarded part) n m
finally_tops none g p n e m first second = and_tops n e m _ _ first second
finally_tops (more st ss) g p n e m first second = and_tops n e m _ _ first (and_tops e m m _ _ second (no_tops m))

-- the acts of the handlers are numbered before those of the `else` part, which stands in front of them
all_three : (n i h e b o d : ℕ) → max n b ≡ i → max i d ≡ h → max h o ≡ e → max n (max (max b (max o 0)) d) ≡ e
all_three n i h e b o d f g k = omega (arith, f, g, k)

no_third : (n i h e b o : ℕ) → h ≡ i + 0 → max n b ≡ i → max h o ≡ e → max n (max b o) ≡ e
no_third n i h e b o s f k = omega (arith, s, f, k)

guarded_tops : (hs : Handlers) (body otherwise handlers : Piece) (n i h e : ℕ) → h ≡ i + handlers_size hs → Tops body n i → Tops handlers i h
    → Tops otherwise h e → Tops (guarded_piece hs body otherwise handlers) n e
guarded_tops S.no_handlers body otherwise handlers n i h e s f g k = no_third n i h e (above body) (above otherwise) s f k
guarded_tops (S.handler l c y hb r) body otherwise handlers n i h e s f g k = all_three n i h e (above body) (above otherwise) (above handlers) f g k

pub begun_tops : (st : Stm) (q : Behind) (n m : ℕ) (p : Piece) → Tops p n m → Tops (started (starts_on st) (begun_piece st q p)) n m
begun_tops st q n m p h = by (is_silent st) (leaves st && is_needed q)
  where
    by : (s b : Bool) → Tops (if s then begun_piece (S.global 0 []) q p else if b then begun_piece (S.raise_again 0) needed p else p) n m
    by true b = and_tops n n m _ _ (no_tops n) h
    by false true = and_tops n n m _ _ (no_tops n) (and_tops n n m _ _ (no_tops n) h)
    by false false = h

module _ {V : Type 0} (around : Around V) where
  value_tops : (e : Exp) (n : ℕ) (g : Bool) → Tops (closed (exp_piece around e n g [])) n (n + size e)
  value_tops e n g = exp_tops around e n g []

  target_tops : (t : Tgt) (n : ℕ) → Tops (closed (target_piece around t n [])) n (n + target_size t)
  target_tops t n = expressions.target_tops around t n []

  assigned_tops : (ts : Tgts) (n : ℕ) → Tops (assigned_piece around ts n) n (n + targets_size ts)
  assigned_tops S.no_targets n = ends _ _ _ (no_tops n) (omega arith)
  assigned_tops (S.more_targets t S.no_targets) n = ends _ _ _ (target_tops t n) (omega arith)
  assigned_tops (S.more_targets t (S.more_targets u ts)) n =
      ends _ _ _ (and_tops _ n _ _ _ (no_tops n)
      (and_tops _ (n + target_size t) _ _ _ (target_tops t n) (assigned_tops (S.more_targets u ts) (n + target_size t)))) (omega arith)

  changed_tops : (o : BinOp) (e : Exp) (l n : ℕ) (back : ℕ → Piece) → ((m : ℕ) → Tops (back m) m (m + 1))
      → Tops (changed_piece around o e l n back) n (n + size e + 1 + 1)
  changed_tops o e l n back h =
      and_tops _ (n + size e) _ _ _ (value_tops e n false)
      (and_tops _ (n + size e + 1) _ _ _ (act_tops (n + size e)) (h (n + size e + 1)))

  augmented_tops : (p : TreePlace) (o : BinOp) (e : Exp) (l n : ℕ) → Tops (augmented_piece around p o e l n) n (n + (place_size p + size e + 2))
  augmented_tops (S.name_at k y) o e l n =
      ends _ _ _ (and_tops _ (n + 1) _ _ _ (value_tops (S.name k y) n false) (changed_tops o e l (n + 1) (λ m. store_piece around y m k) (λ m. act_tops m))) (omega arith)
  augmented_tops (S.attribute_at k a y) o e l n =
      ends _ _ _ (and_tops _ (n + size a) _ _ _ (value_tops a n false) (and_tops _ (n + size a) _ _ _ (no_tops _)
      (and_tops _ (n + size a + 1) _ _ _ (act_tops (n + size a))
      (changed_tops o e l (n + size a + 1) (λ m. move (plain instr.Swap) ▸ act (with_text instr.SetAttr (around.spelled y)) m k false) (λ m. and_tops _ m _ _ _ (no_tops m) (act_tops m)))))) (omega arith)
  augmented_tops (S.item_at k a i) o e l n =
      ends _ _ _ (and_tops _ (n + size a) _ _ _ (value_tops a n false) (and_tops _ (n + size a + size i) _ _ _ (value_tops i (n + size a) false)
      (and_tops _ (n + size a + size i) _ _ _ (no_tops _) (and_tops _ (n + size a + size i + 1) _ _ _ (act_tops (n + size a + size i))
      (changed_tops o e l (n + size a + size i + 1) (λ m. move (plain instr.Rot3) ▸ act (plain instr.SetItem) m k false) (λ m. and_tops _ m _ _ _ (no_tops m) (act_tops m))))))) (omega arith)

  pub deleted_tops : (p : TreePlace) (n : ℕ) → Tops (deleted_piece around p n) n (n + place_size p)
  deleted_tops (S.name_at l y) n = act_tops n
  deleted_tops (S.attribute_at l a y) n =
      ends _ _ _ (and_tops _ (n + size a) _ _ _ (value_tops a n false) (act_tops (n + size a))) (omega arith)
  deleted_tops (S.item_at l a i) n =
      ends _ _ _ (and_tops _ (n + size a) _ _ _ (value_tops a n false)
      (and_tops _ (n + size a + size i) _ _ _ (value_tops i (n + size a) false) (act_tops (n + size a + size i)))) (omega arith)

  abbrev all_places_size : List TreePlace → ℕ
  all_places_size [] = 0
  all_places_size (p ∷ ps) = place_size p + all_places_size ps

  all_deleted_tops : (ps : List TreePlace) (n : ℕ) → Tops (all_deleted_piece around ps n) n (n + all_places_size ps)
  all_deleted_tops [] n = ends _ _ _ (no_tops n) (omega arith)
  all_deleted_tops (p ∷ ps) n =
      ends _ _ _ (and_tops _ (n + place_size p) _ _ _ (deleted_tops p n) (all_deleted_tops ps (n + place_size p))) (omega arith)

  places_size-append : (ps qs : List TreePlace) → all_places_size (ps ++ qs) ≡ all_places_size ps + all_places_size qs
  places_size-append [] qs = omega arith
  places_size-append (p ∷ ps) qs = ap (λ n. place_size p + n) (places_size-append ps qs) ∙ omega arith

  mutual
    places_size-one : (t : Tgt) → all_places_size (places t) ≡ deleted_size t
    places_size-one (S.single p) = add-zero (place_size p)
    places_size-one (S.several l f ts) = places_size-all ts
    places_size-one (S.starred l t) = places_size-one t

    places_size-all : (ts : Tgts) → all_places_size (all_places ts) ≡ all_deleted_size ts
    places_size-all S.no_targets = refl
    places_size-all (S.more_targets t ts) =
        places_size-append (places t) (all_places ts)
        ∙ ap (λ n. n + all_places_size (all_places ts)) (places_size-one t) ∙ ap (λ n. deleted_size t + n) (places_size-all ts)

  failed_tops : (m : Opt) (l n : ℕ) → Tops (failed_piece around m l n) n (n + (opt_size m + 1))
  failed_tops S.absent l n = ends _ _ _ (act_tops n) (omega arith)
  failed_tops (S.given m) l n = ends _ _ _ (and_tops _ (n + size m) _ _ _ (value_tops m n false) (act_tops (n + size m))) (omega arith)

  returned_tops : (e : Opt) (l n : ℕ) → Tops (returned_piece around e l n) n (n + (opt_size e + 1))
  returned_tops S.absent l n = ends _ _ _ (and_tops _ n _ _ _ (no_tops n) (act_tops n)) (omega arith)
  returned_tops (S.given e) l n = ends _ _ _ (and_tops _ (n + size e) _ _ _ (value_tops e n false) (act_tops (n + size e))) (omega arith)

  thrown_tops : (c : Opt) (l n : ℕ) → Tops (thrown_piece around c l n) n (n + (opt_size c + 1))
  thrown_tops S.absent l n = ends _ _ _ (act_tops n) (omega arith)
  thrown_tops (S.given c) l n = ends _ _ _ (and_tops _ (n + size c) _ _ _ (value_tops c n false) (act_tops (n + size c))) (omega arith)

  imported_tops : (as' : List Alias) (l n : ℕ) → Tops (imported_piece around as' l n) n (n + (length as' + length as'))
  imported_tops [] l n = ends _ _ _ (no_tops n) (omega arith)
  imported_tops (a ∷ as') l n = ends _ _ _ (and_tops _ (n + 1) _ _ _ (act_tops n)
      (and_tops _ (n + 1 + 1) _ _ _ (act_tops (n + 1)) (imported_tops as' l (n + 1 + 1)))) (omega arith)

  imported_from_tops : (as' : List Alias) (l n : ℕ) → Tops (imported_from_piece around as' l n) n (n + (length as' + length as'))
  imported_from_tops [] l n = ends _ _ _ (no_tops n) (omega arith)
  imported_from_tops (a ∷ as') l n = ends _ _ _ (and_tops _ (n + 1) _ _ _ (act_tops n)
      (and_tops _ (n + 1 + 1) _ _ _ (act_tops (n + 1)) (imported_from_tops as' l (n + 1 + 1)))) (omega arith)

  bound_tops : (ks : List ℕ) (l n : ℕ) (y : Name) → Tops (bound_piece around ks l n y) n (n + length ks + 1)
  bound_tops [] l n y = ends _ _ _ (act_tops n) (omega arith)
  bound_tops (k ∷ ks) l n y = ends _ _ _ (and_tops _ (n + 1) _ _ _ (act_tops n) (bound_tops ks l (n + 1) y)) (omega arith)

  abbrev made_size : Definition → ℕ
  made_size (a_function b ps) = params_size ps + 1
  made_size (a_class b base) = opt_size base + 1

  definition_tops : (what : Definition) (ks : List ℕ) (l n : ℕ) (y : Name) → Tops (definition_piece around what ks l n y) n (n + made_size what + length ks + 1)
  definition_tops (a_function b ps) ks l n y = ends _ _ _
      (and_tops _ (n + params_size ps + 1) _ _ _ (ends _ _ _ (value_tops (S.lambda l b ps (S.constant l constant.None)) n false) (omega arith))
      (bound_tops ks l (n + params_size ps + 1) y)) (omega arith)
  definition_tops (a_class b S.absent) ks l n y = ends _ _ _
      (and_tops _ n _ _ _ (no_tops n) (and_tops _ (n + 1) _ _ _ (made_tops around (around.captured b) (T.class b) l n false 1) (bound_tops ks l (n + 1) y))) (omega arith)
  definition_tops (a_class b (S.given e)) ks l n y = ends _ _ _
      (and_tops _ (n + size e) _ _ _ (value_tops e n false)
      (and_tops _ (n + size e + 1) _ _ _ (made_tops around (around.captured b) (T.class b) l (n + size e) false 1) (bound_tops ks l (n + size e + 1) y))) (omega arith)

  defined_tops : (ds : Decorators) (what : Definition) (ks : List ℕ) (l n : ℕ) (y : Name)
      → Tops (defined_piece around ds what ks l n y) n (n + (decorators_size ds + made_size what + (decorator_calls ds + length ks) + 1))
  defined_tops S.no_decorators what ks l n y = ends _ _ _ (definition_tops what ks l n y) (omega arith)
  defined_tops (S.decorator j e r) what ks l n y = ends _ _ _
      (and_tops _ (n + size e) _ _ _ (value_tops e n false) (defined_tops r what (j ∷ ks) l (n + size e) y)) (omega arith)

  -- a handler behind its Match, and the items of a `with`, around bodies of so many acts
  handled_tops : (l n : ℕ) (y : Option Name) (body : ℕ → Piece) (k : ℕ) → ((m : ℕ) → Tops (body m) m (m + k))
      → Tops (handled_piece around l n y body) (n + 1) (handler_body n y + k)
  handled_tops l n None body k h =
      and_tops _ (n + 1) _ _ _ (no_tops _) (and_tops _ (n + 1) _ _ _ (no_tops _)
      (and_tops _ (n + 1 + k) _ _ _ (((h (n + 1))))
      (and_tops _ (n + 1 + k) _ _ _ (no_tops _) (no_tops _))))
  handled_tops l n (Some y) body k h =
      and_tops _ (n + 1) _ _ _ (no_tops _) (and_tops _ (n + 1 + 1) _ _ _ (act_tops (n + 1))
      (and_tops _ (n + 1 + 1 + k) _ _ _ (((h (n + 1 + 1))))
      (and_tops _ (n + 1 + 1 + k) _ _ _ (no_tops _) (and_tops _ (n + 1 + 1 + k) _ _ _ (no_tops _) (and_tops _ (n + 1 + 1 + k) _ _ _ (no_tops _)
      (and_tops _ (n + 1 + 1 + k) _ _ _ (no_tops _) (and_tops _ (n + 1 + 1 + k) _ _ _ (no_tops _) (no_tops _))))))))

  pub items_tops : (is : Items) (body : ℕ → Piece) (k n : ℕ) → ((m : ℕ) → Tops (body m) m (m + k))
      → Tops (items_piece around is body k n) n (n + items_size is k)
  items_tops S.no_items body k n h = (h n)
  items_tops (S.with_item l e None r) body k n h = ends _ _ _
      (and_tops _ (n + size e) _ _ _ (value_tops e n false) (and_tops _ (n + size e + 1) _ _ _ (act_tops (n + size e))
      (and_tops _ (n + size e + 1 + items_size r k) _ _ _
      (((and_tops _ (n + size e + 1) _ _ _ (no_tops _) (items_tops r body k (n + size e + 1) h))))
      (and_tops _ (n + size e + 1 + items_size r k + 1) _ _ _ (act_tops (n + size e + 1 + items_size r k)) (no_tops _))))) (omega arith)
  items_tops (S.with_item l e (Some t) r) body k n h = ends _ _ _
      (and_tops _ (n + size e) _ _ _ (value_tops e n false) (and_tops _ (n + size e + 1) _ _ _ (act_tops (n + size e))
      (and_tops _ (n + size e + 1 + target_size t + items_size r k) _ _ _
      (((and_tops _ (n + size e + 1 + target_size t) _ _ _ (target_tops t (n + size e + 1))
      (items_tops r body k (n + size e + 1 + target_size t) h))))
      (and_tops _ (n + size e + 1 + target_size t + items_size r k + 1) _ _ _ (act_tops (n + size e + 1 + target_size t + items_size r k))
      (no_tops _))))) (omega arith)

  mutual
    pub stm_tops : (st : Stm) (n : ℕ) (q : Behind) → Tops (stm_piece around st n q) n (n + stm_size st)
    stm_tops (S.expr l e) n q = ends _ _ _ (and_tops _ (n + size e) _ _ _ (value_tops e n false) (act_tops (n + size e))) (omega arith)
    stm_tops (S.assign l ts e) n q = ends _ _ _ (and_tops _ (n + size e) _ _ _ (value_tops e n false) (assigned_tops ts (n + size e))) (omega arith)
    stm_tops (S.augmented l p o e) n q = augmented_tops p o e l n
    stm_tops (S.annotated l p a S.absent) n q = act_tops n
    stm_tops (S.annotated l p a (S.given e)) n q = ends _ _ _
        (and_tops _ (n + size e) _ _ _ (value_tops e n false) (assigned_tops (S.more_targets (S.single p) S.no_targets) (n + size e))) (omega arith)
    stm_tops (S.assert l c m) n q = ends _ _ _ ((and_tops _ (n + size c) _ _ _ (value_tops c n false)
        (and_tops _ (n + size c + 1) _ _ _ (act_tops (n + size c)) (failed_tops m l (n + size c + 1))))) (omega arith)
    stm_tops (S.pass l) n q = act_tops n
    stm_tops (S.del l ts) n q = ends _ _ _ (all_deleted_tops (all_places ts) n) (ap (λ i. n + i) (places_size-all ts))
    stm_tops (S.return l e) n q = returned_tops e l n
    stm_tops (S.raise l e c) n q = ends _ _ _ (and_tops _ (n + size e) _ _ _ (value_tops e n false) (thrown_tops c l (n + size e))) (omega arith)
    stm_tops (S.raise_again l) n q = act_tops n
    stm_tops (S.break l) n q = act_tops n
    stm_tops (S.continue l) n q = act_tops n
    stm_tops (S.import l xs) n q = imported_tops xs l n
    stm_tops (S.import_from l m xs) n q = ends _ _ _ (and_tops _ (n + 1) _ _ _ (act_tops n) (imported_from_tops xs l (n + 1))) (omega arith)
    stm_tops (S.global l xs) n q = ends _ _ _ (no_tops n) (omega arith)
    stm_tops (S.nonlocal l xs) n q = ends _ _ _ (no_tops n) (omega arith)
    stm_tops (S.choice l bs els) n q = (branches_tops bs n _ (stms_size els) (λ m. (all_tops els m _)))
    stm_tops (S.while l c body els) n q = ends _ _ _ (and_tops _ (behind_body n c body) _ _ _
        (and_tops _ (n + size c) _ _ _ (value_tops c n false) (and_tops _ (n + size c + 1) _ _ _ (act_tops (n + size c))
        (and_tops _ (behind_body n c body) _ _ _ (all_tops body (tested_body n c) _)
        (again_tops n (n + size c + 1) (behind_body n c body) _ (and_tops _ (n + size c) _ _ _ (value_tops c n true) (act_tops (n + size c))) (omega arith)))))
        (all_tops els (behind_body n c body) _)) (omega arith)
    stm_tops (S.for l t it body els) n q = ends _ _ _ (and_tops _ (for_else (n + size it + 1) t body) _ _ _
        (and_tops _ (n + size it) _ _ _ (value_tops it n false) (and_tops _ (n + size it + 1) _ _ _ (act_tops (n + size it))
        (and_tops _ (n + size it + 1 + 1) _ _ _ (act_tops (n + size it + 1))
        (and_tops _ (n + size it + 1 + 1 + target_size t) _ _ _ (target_tops t (n + size it + 1 + 1))
        (and_tops _ (for_else (n + size it + 1) t body) _ _ _ (all_tops body (for_body (n + size it + 1) t) _)
        (and_tops _ (for_else (n + size it + 1) t body) _ _ _
        (again_tops (n + size it + 1) (n + size it + 1 + 1) (for_else (n + size it + 1) t body) _ (act_tops (n + size it + 1)) (omega arith)) (no_tops _)))))))
        (all_tops els (for_else (n + size it + 1) t body) _)) (omega arith)
    stm_tops (S.try l body hs els fin) n q = ends _ _ _ (and_tops _ (n + 1) _ _ _ (act_tops n)
        (finally_tops fin _ _ (n + 1) (try_finally n body hs els) (try_finally n body hs els + stms_size fin)
        (guarded_tops hs _ _ _ (n + 1) (n + 1 + stms_size body) (try_else n body hs) (try_finally n body hs els) refl
        (all_tops body (n + 1) _) (handlers_tops hs (try_handlers n body)) (all_tops els (try_else n body hs) _))
        (all_tops fin (try_finally n body hs els) _))) (omega arith)
    stm_tops (S.with l is body) n q = items_tops is (λ m. all_piece around body m free) (stms_size body) n (λ m. all_tops body m free)
    stm_tops (S.def l ds k c y ps r body) n q = ends _ _ _ (defined_tops ds (a_function c ps) [] k n y) (omega arith)
    stm_tops (S.class l ds k c y base body) n q = ends _ _ _ (defined_tops ds (a_class c base) [] k n y) (omega arith)
    stm_tops (S.docstring l) n q = ends _ _ _ (no_tops n) (omega arith)

    pub all_tops : (ss : Stms) (n : ℕ) (q : Behind) → Tops (all_piece around ss n q) n (n + stms_size ss)
    all_tops none n q = ends _ _ _ (no_tops n) (omega arith)
    all_tops (more st ss) n q = ends _ _ _ (and_tops _ (n + stm_size st) _ _ _
        (begun_tops st (in_front ss q) n (n + stm_size st) (stm_piece around st n (in_front ss q)) (stm_tops st n (in_front ss q)))
        (all_tops ss (n + stm_size st) q)) (omega arith)

    branches_tops : (bs : Branches) (n : ℕ) (els : ℕ → Piece) (k : ℕ) → ((m : ℕ) → Tops (els m) m (m + k))
        → Tops (branches_piece around bs n els) n (n + (branches_size bs + k))
    branches_tops S.no_branches n els k h = ends _ _ _ (h n) (omega arith)
    branches_tops (S.branch l c body r) n els k h = ends _ _ _ (and_tops _ (behind_body n c body) _ _ _
        ((and_tops _ (n + size c) _ _ _ (value_tops c n false) (and_tops _ (n + size c + 1) _ _ _ (act_tops (n + size c))
        (and_tops _ (behind_body n c body) _ _ _ ((all_tops body (tested_body n c) free)) (no_tops _)))))
        (branches_tops r (behind_body n c body) els k h)) (omega arith)

    handlers_tops : (hs : Handlers) (n : ℕ) → Tops (handlers_piece around hs n) n (n + handlers_size hs)
    handlers_tops S.no_handlers n = ends _ _ _ (no_tops n) (omega arith)
    handlers_tops (S.handler l S.absent None body r) n = ends _ _ _ (and_tops _ (handler_body n None + stms_size body) _ _ _
        ((and_tops _ n _ _ _ (no_tops n) (and_tops _ (n + 1) _ _ _ (act_tops n) (and_tops _ (n + 1) _ _ _ (no_tops _)
        (handled_tops l n None (λ m. all_piece around body m free) (stms_size body) (λ m. all_tops body m free))))))
        (handlers_tops r (handler_body n None + stms_size body))) (omega arith)
    handlers_tops (S.handler l S.absent (Some y) body r) n = ends _ _ _ (and_tops _ (handler_body n (Some y) + stms_size body) _ _ _
        ((and_tops _ n _ _ _ (no_tops n) (and_tops _ (n + 1) _ _ _ (act_tops n) (and_tops _ (n + 1) _ _ _ (no_tops _)
        (handled_tops l n (Some y) (λ m. all_piece around body m free) (stms_size body) (λ m. all_tops body m free))))))
        (handlers_tops r (handler_body n (Some y) + stms_size body))) (omega arith)
    handlers_tops (S.handler l (S.given c) None body r) n = ends _ _ _ (and_tops _ (handler_body (n + size c) None + stms_size body) _ _ _
        ((and_tops _ (n + size c) _ _ _ (value_tops c n false) (and_tops _ (n + size c + 1) _ _ _ (act_tops (n + size c))
        (and_tops _ (n + size c + 1) _ _ _ (no_tops _) (handled_tops l (n + size c) None (λ m. all_piece around body m free) (stms_size body) (λ m. all_tops body m free))))))
        (handlers_tops r (handler_body (n + size c) None + stms_size body))) (omega arith)
    handlers_tops (S.handler l (S.given c) (Some y) body r) n = ends _ _ _ (and_tops _ (handler_body (n + size c) (Some y) + stms_size body) _ _ _
        ((and_tops _ (n + size c) _ _ _ (value_tops c n false) (and_tops _ (n + size c + 1) _ _ _ (act_tops (n + size c))
        (and_tops _ (n + size c + 1) _ _ _ (no_tops _) (handled_tops l (n + size c) (Some y) (λ m. all_piece around body m free) (stms_size body) (λ m. all_tops body m free))))))
        (handlers_tops r (handler_body (n + size c) (Some y) + stms_size body))) (omega arith)
