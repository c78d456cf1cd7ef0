-- From the beginning of a part a raise comes to the nest around it, or the part has no act.
use Rattle.std.proofs.Common.{◌≡◌, ℕ, ◌+◌, ◌≤◌, Bool, false, List, [], ◌∷◌, ◌++◌, ◌⊎◌, inl, inr, refl, sym, arith}
use Rattle.pt_base.specs.declared.operators.BinOp.{BinOp}
use Rattle.pt_tree.specs.Syntax as S
use Rattle.pt_tree.specs.Syntax.{Name, Exp, Opt, Place, Tgt, Tgts, Params, Formals, Items, Stm, Stms}
use Rattle.pt_tree.specs.Sizes.{place_size, deleted_size, all_deleted_size, stm_size, stms_size}
use Rattle.sem_control.specs.control.Turn as T
use Rattle.sem_control.specs.control.Turn.{Variable, Around, Operation, Reply, raised}
use Rattle.sem_control.specs.control.Frames as F
use Rattle.sem_control.specs.control.Frames.{Abrupt, Operand, raise, normal, by, Nest, Way, Wait, Definition, Decorating, Control}
use Rattle.sem_control.specs.control.Bases.{base, way_base}
use Rattle.sem_control.specs.control.Expressions.{begin_operation, begin_exp, begin_defaults, begin_function}
use Rattle.sem_control.specs.control.Statements.{places, all_places, begin_place, begin_deletes, begin_definition, begin_stm, begin_all, begin_items}
use Rattle.sem_control.specs.control.Completions.{complete}
use Rattle.sem_control.specs.control.Reached.{Reaches, here, then}
use Rattle.sem_control.proofs.control.MarksPaths.{reaches_then}

-- the size of several places
abbrev pub places_size : List Place → ℕ
places_size [] = 0
places_size (p ∷ ps) = place_size p + places_size ps

places_size_append : (ps qs : List Place) → places_size (ps ++ qs) ≡ places_size ps + places_size qs
places_size_append [] qs = omega arith
places_size_append (p ∷ ps) qs = omega (arith, places_size_append ps qs)

mutual
  deleted_places_size : (t : Tgt) → places_size (places t) ≡ deleted_size t
  deleted_places_size (S.single p) = omega arith
  deleted_places_size (S.several l f ts) = all_deleted_places_size ts
  deleted_places_size (S.starred l t) = deleted_places_size t

  pub all_deleted_places_size : (ts : Tgts) → places_size (all_places ts) ≡ all_deleted_size ts
  all_deleted_places_size S.no_targets = refl
  all_deleted_places_size (S.more_targets t ts) =
      omega (arith, places_size_append (places t) (all_places ts), deleted_places_size t, all_deleted_places_size ts)

module _ {V : Type 0} (block : Around V) where
  -- a nest to which a raise came
  abbrev pub Raised : Nest V → Control V
  Raised s = complete block (by (raise block.null)) s

  value_raises : {m : T.Mark} {a : T.Seek V} {w : Wait V} → Reaches block (F.for_value m a w) (Raised (base w))
  value_raises = then here (raised block.null, refl)

  operation_raises : (xs : List Variable) (l n : ℕ) (g : Bool) (op : Operation) (vs : List V) (w : Wait V)
      → Reaches block (begin_operation block xs l n g op vs w) (Raised (base w))
  operation_raises [] l n g op vs w = value_raises
  operation_raises (x ∷ xs) l n g op vs w = then here (raised block.null, refl)

  deed_raises : {m : T.Mark} {a : T.Deed V} {k : Way V} {s : Nest V} → Reaches block (F.for_deed m a k s) (Raised s)
  deed_raises = then here (raised block.null, refl)

  leave_raises : {m : T.Mark} {a : Abrupt V} {s : Nest V} → Reaches block (F.for_leave m a s) (Raised s)
  leave_raises = then here (raised block.null, refl)

  throw_raises : {m : T.Mark} {a : T.Throw V} {s : Nest V} → Reaches block (F.for_throw m a s) (Raised s)
  throw_raises = then here (raised block.null, refl)

  pub truth_raises : {m : T.Mark} {a : T.Test V} {t f : Way V} {s : Nest V} → Reaches block (F.for_truth m a t f s) (Raised s)
  truth_raises = then here (raised block.null, refl)

  mutual
    pub exp_raises : (e : Exp) (n : ℕ) (g : Bool) (w : Wait V) → Reaches block (begin_exp block e n g w) (Raised (base w))
    exp_raises (S.constant l k) n g w = value_raises
    exp_raises (S.name l x) n g w = value_raises
    exp_raises (S.joined l S.no_pieces) n g w = value_raises
    exp_raises (S.joined l (S.literal k t r)) n g w = value_raises
    exp_raises (S.joined l (S.field k e c sp r)) n g w = exp_raises e n g _
    exp_raises (S.tuple l S.no_exps) n g w = value_raises
    exp_raises (S.tuple l (S.more_exps e es)) n g w = exp_raises e n g _
    exp_raises (S.list l S.no_exps) n g w = value_raises
    exp_raises (S.list l (S.more_exps e es)) n g w = exp_raises e n g _
    exp_raises (S.set l S.no_exps) n g w = value_raises
    exp_raises (S.set l (S.more_exps e es)) n g w = exp_raises e n g _
    exp_raises (S.dict l S.no_entries) n g w = value_raises
    exp_raises (S.dict l (S.entry k v r)) n g w = exp_raises k n g _
    exp_raises (S.attribute l a x) n g w = exp_raises a n g _
    exp_raises (S.item l a i) n g w = exp_raises a n g _
    exp_raises (S.slice l S.absent S.absent S.absent) n g w = value_raises
    exp_raises (S.slice l S.absent S.absent (S.given c)) n g w = exp_raises c n g _
    exp_raises (S.slice l S.absent (S.given b) c) n g w = exp_raises b n g _
    exp_raises (S.slice l (S.given a) b c) n g w = exp_raises a n g _
    exp_raises (S.unary l o a) n g w = exp_raises a n g _
    exp_raises (S.not_of l a) n g w = exp_raises a n g _
    exp_raises (S.binary l o a b) n g w = exp_raises a n g _
    exp_raises (S.compare l a o b r) n g w = exp_raises a n g _
    exp_raises (S.and l a es) n g w = exp_raises a n g _
    exp_raises (S.or l a es) n g w = exp_raises a n g _
    exp_raises (S.conditional l c a b) n g w = exp_raises c n g _
    exp_raises (S.call l f xs) n g w = exp_raises f n g _
    exp_raises (S.lambda l b (S.parameters ps s ks d) e) n g w = defaults_raise ps _ _ l n g w _ (defaults_raise ks _ _ l n g w _ (operation_raises (block.captured b) l n _ _ _ w))
    exp_raises (S.comprehension l m k t it cs) n g w = exp_raises it n g _
    exp_raises (S.generator l b e k t it cs) n g w = exp_raises it n g _
    exp_raises (S.yield l S.absent) n g w = value_raises
    exp_raises (S.yield l (S.given e)) n g w = exp_raises e n g _
    exp_raises (S.yield_from l e) n g w = exp_raises e n g _

    defaults_raise : (fs : Formals) (os : List Operand) (op : Operation) (l n : ℕ) (g : Bool) (w : Wait V) (after : Control V)
        → Reaches block after (Raised (base w)) → Reaches block (begin_defaults block fs os op l n g w after) (Raised (base w))
    defaults_raise S.no_formals os op l n g w after h = h
    defaults_raise (S.formal k x a S.absent r) os op l n g w after h = defaults_raise r os op l n g w after h
    defaults_raise (S.formal k x a (S.given d) r) os op l n g w after h = exp_raises d n g _

  function_raises : (b : ℕ) (ps : Params) (l n : ℕ) (w : Wait V) → Reaches block (begin_function block b ps l n w) (Raised (base w))
  function_raises b (S.parameters ps s ks d) l n w = defaults_raise ps _ _ l n false w _ (defaults_raise ks _ _ l n false w _ (operation_raises (block.captured b) l n _ _ _ w))

  -- so many acts, and one that may raise, or none
  abbrev pub Out : Control V → Nest V → (many : ℕ) → Type 0
  Out c s k = Reaches block c (Raised s) ⊎ ((k ≡ 0) × Reaches block c (complete block normal s))

  delete_raises : (p : Place) (n : ℕ) (k : Way V) → Reaches block (begin_place block p n (F.deleting k)) (Raised (way_base k))
  delete_raises (S.name_at l x) n k = deed_raises
  delete_raises (S.attribute_at l a x) n k = exp_raises a n false _
  delete_raises (S.item_at l a i) n k = exp_raises a n false _

  deletes_out : (ps : List Place) (n k : ℕ) (s : Nest V) → places_size ps ≡ k → Out (begin_deletes block ps n s (complete block normal s)) s k
  deletes_out [] n k s e = inr (sym e, here)
  deletes_out (p ∷ ps) n k s e = inl (delete_raises p n _)

  change_raises : (l : ℕ) (p : Place) (n : ℕ) (o : BinOp) (e : Exp) (s : Nest V) → Reaches block (begin_place block p n (F.changing_by l o e s)) (Raised s)
  change_raises l (S.name_at k x) n o e s = value_raises
  change_raises l (S.attribute_at k a x) n o e s = exp_raises a n false _
  change_raises l (S.item_at k a i) n o e s = exp_raises a n false _

  definition_raises : (l n : ℕ) (x : Name) (what : Definition) (calls : List (Decorating V)) (s : Nest V)
      → Reaches block (begin_definition block l n x what calls s) (Raised s)
  definition_raises l n x (F.a_function b ps) calls s = function_raises b ps l n _
  definition_raises l n x (F.a_class b S.absent) calls s = operation_raises (block.captured b) l n _ _ _ _
  definition_raises l n x (F.a_class b (S.given e)) calls s = exp_raises e n false _

  mutual
    stm_out : (st : Stm) (n : ℕ) (s : Nest V) → Out (begin_stm block st n s (complete block normal s)) s (stm_size st)
    stm_out (S.expr l e) n s = inl (exp_raises e n false _)
    stm_out (S.assign l ts e) n s = inl (exp_raises e n false _)
    stm_out (S.augmented l p o e) n s = inl (change_raises l p n o e s)
    stm_out (S.annotated l p a S.absent) n s = inl deed_raises
    stm_out (S.annotated l p a (S.given e)) n s = inl (exp_raises e n false _)
    stm_out (S.assert l c m) n s = inl (exp_raises c n false _)
    stm_out (S.pass l) n s = inl deed_raises
    stm_out (S.del l ts) n s = deletes_out (all_places ts) n (all_deleted_size ts) s (all_deleted_places_size ts)
    stm_out (S.return l S.absent) n s = inl leave_raises
    stm_out (S.return l (S.given e)) n s = inl (exp_raises e n false _)
    stm_out (S.raise l e c) n s = inl (exp_raises e n false _)
    stm_out (S.raise_again l) n s = inl throw_raises
    stm_out (S.break l) n s = inl leave_raises
    stm_out (S.continue l) n s = inl leave_raises
    stm_out (S.import l []) n s = inr (refl, here)
    stm_out (S.import l (x ∷ xs)) n s = inl value_raises
    stm_out (S.import_from l m xs) n s = inl value_raises
    stm_out (S.global l xs) n s = inr (refl, here)
    stm_out (S.nonlocal l xs) n s = inr (refl, here)
    stm_out (S.choice l S.no_branches els) n s = elim (all_out els n s) [ inl r ↦ inl r | inr u ↦ inr (omega (arith, u.0), u.1) ]
    stm_out (S.choice l (S.branch k c body r) els) n s = inl (exp_raises c n false _)
    stm_out (S.while l c body els) n s = inl (exp_raises c n false _)
    stm_out (S.for l t it body els) n s = inl (exp_raises it n false _)
    stm_out (S.try l body hds els fin) n s = inl deed_raises
    stm_out (S.with l S.no_items body) n s = all_out body n s
    stm_out (S.with l (S.with_item k e t r) body) n s = inl (exp_raises e n false _)
    stm_out (S.def l S.no_decorators k b x ps a body) n s = inl (definition_raises k n x (F.a_function b ps) [] s)
    stm_out (S.def l (S.decorator j e r) k b x ps a body) n s = inl (exp_raises e n false _)
    stm_out (S.class l S.no_decorators k b x base' body) n s = inl (definition_raises k n x (F.a_class b base') [] s)
    stm_out (S.class l (S.decorator j e r) k b x base' body) n s = inl (exp_raises e n false _)
    stm_out (S.docstring l) n s = inr (refl, here)

    pub all_out : (ss : Stms) (n : ℕ) (s : Nest V) → Out (begin_all block ss n s (complete block normal s)) s (stms_size ss)
    all_out S.none n s = inr (refl, here)
    all_out (S.more st ss) n s = elim (stm_out st n (F.rest (n + stm_size st) ss ∷ s)) [
      | inl r ↦ inl r
      | inr u ↦ elim (all_out ss (n + stm_size st) s) [ inl r ↦ inl (reaches_then block u.1 r) | inr v ↦ inr (omega (arith, u.0, v.0), reaches_then block u.1 v.1) ]
    ]

  -- a block with an act
  pub block_raises : (ss : Stms) (n : ℕ) (s : Nest V) → 1 ≤ stms_size ss → Reaches block (begin_all block ss n s (complete block normal s)) (Raised s)
  block_raises ss n s some = elim (all_out ss n s) [ inl r ↦ r | inr u ↦ absurd (omega (arith, u.0)) ]

  -- the items of a `with` and its body are left
  pub items_out : (is : Items) (body : Stms) (n : ℕ) (s : Nest V)
      → Reaches block (begin_items block is body n s (complete block normal s)) (Raised s) ⊎ Reaches block (begin_items block is body n s (complete block normal s)) (complete block normal s)
  items_out S.no_items body n s = elim (all_out body n s) [ inl r ↦ inl r | inr u ↦ inr u.1 ]
  items_out (S.with_item k e t r) body n s = inl (exp_raises e n false _)
