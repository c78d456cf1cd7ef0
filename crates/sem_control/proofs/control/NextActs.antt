-- Behind notes and unmarked asks, none of which raises, an act or the end of the block comes, and not too late.
use Rattle.std.proofs.Common.{◌≡◌, ℕ, zero, suc, ◌+◌, ◌*◌, ◌≤◌, Bool, true, false, Option, Some, None, List, [], ◌∷◌, ◌++◌, length, refl, ap, subst, arith}
use Rattle.pt_tree.specs.declared.expression.Conversion.{Conversion}
use Rattle.pt_tree.specs.declared.statement.Alias.{Alias}
use Rattle.pt_tree.specs.Syntax as S
use Rattle.pt_tree.specs.Syntax.{Name, Exp, Opt, Pieces, Made, Clauses, Place, Tgt, Tgts, Params, Formals, Items, Stm, Stms, Branches, Handlers}
use Rattle.pt_tree.specs.Sizes.{items_size, stms_size}
use Rattle.pt_tree.specs.Blocks as B
use Rattle.pt_tree.specs.Blocks.{Code, function_body}
use Rattle.sem_control.specs.control.Turn as T
use Rattle.sem_control.specs.control.Turn.{Mark, Variable, Around, Operation, Seek, Deed, Test, Delegated, Reply, got, raised}
use Rattle.sem_control.specs.control.Frames as F
use Rattle.sem_control.specs.control.Frames.{Abrupt, raise, normal, by, Completion, Nest, Operand, Address, Stores, Definition, Decorating, Way, Wait, Purpose, Over, Rounds, Control}
use Rattle.sem_control.specs.control.Bases.{base, way_base, over_base}
use Rattle.sem_control.specs.control.Expressions.{cells_of, begin_operation, begin_exp, begin_defaults, begin_function, next_operand, begin_spec, begin_made, begin_last, begin_clauses}
use Rattle.sem_control.specs.control.Statements.{all_places, at_place, begin_place, begin_store, begin_stores, begin_assign, begin_deletes, begin_imports, begin_imports_from, begin_definition, begin_stm, begin_all, begin_branches, begin_items, begin_tests, each_gets}
use Rattle.sem_control.specs.control.CompletionTable as C
use Rattle.sem_control.specs.control.CompletionTable.{Follows, row, onward}
use Rattle.sem_control.specs.control.Completions.{pass_on, follow, complete, let_go}
use Rattle.sem_control.specs.control.Control.{make_anew, deliver, next_round, take_iter, go, after_value, after_deed, after_leave, after_throw, after_truth, after_iter, after_item, after_entry, after_delegate, turn, unhindered}
use Rattle.sem_control.specs.control.Reached.{Leads, start_code}
use Rattle.sem_control.specs.control.Laws.{IsActOrEnd, ComesToAct}

module _ {V : Type 0} where
  -- an act or the end, or what is passed over at once
  abbrev IsNext : Control V → Type 0
  IsNext (F.silent_value a (F.celled l n g op before behind w)) = Unit {0}
  IsNext (F.silent_value a w) = ⊥
  IsNext (F.silent_deed a (F.made_anew xs l n i t cs r) s) = Unit {0}
  IsNext (F.silent_deed a k s) = ⊥
  IsNext (F.noting a k s) = ⊥
  IsNext c = Unit {0}

  -- or a note or an unmarked ask in the nest in which it goes on
  abbrev Formed : Control V → Type 0
  Formed (F.silent_value a (F.celled l n g op before behind w)) = Unit {0}
  Formed (F.silent_value a w) = ⊥
  Formed (F.silent_deed a (F.made_anew xs l n i t cs r) s) = Unit {0}
  Formed (F.silent_deed a (F.unbinds x c t) s) = t ≡ s
  Formed (F.silent_deed a (F.lets_go c t) s) = t ≡ s
  Formed (F.silent_deed a k s) = ⊥
  Formed (F.noting a (F.raises v t) s) = t ≡ s
  Formed (F.noting a k s) = ⊥
  Formed c = Unit {0}

  next_formed : (c : Control V) → IsNext c → Formed c
  next_formed (F.silent_value a (F.celled l n g op before behind w)) h = tt
  next_formed (F.silent_value a w) h = absurd h
  next_formed (F.silent_deed a (F.made_anew xs l n i t cs r) s) h = tt
  next_formed (F.silent_deed a k s) h = absurd h
  next_formed (F.noting a k s) h = absurd h
  next_formed c h = tt

module _ {V : Type 0} (block : Around V) where
  abbrev Comes : Control V → (most : ℕ) → Type 0
  Comes c m = IsActOrEnd (turn block (unhindered block c m))

  next_comes : (m : ℕ) (c : Control V) → IsNext c → Comes c m
  next_comes m (F.silent_value a (F.celled l n g op before behind w)) h = tt
  next_comes m (F.silent_value a w) h = absurd h
  next_comes m (F.silent_deed a (F.made_anew xs l n i t cs r) s) h = tt
  next_comes m (F.silent_deed a k s) h = absurd h
  next_comes m (F.noting a k s) h = absurd h
  next_comes m c h = tt

  operation_next : (xs : List Variable) (l n : ℕ) (g : Bool) (op : Operation) (vs : List V) (w : Wait V) → IsNext (begin_operation block xs l n g op vs w)
  operation_next [] l n g op vs w = tt
  operation_next (x ∷ xs) l n g op vs w = tt

  mutual
    exp_next : (e : Exp) (n : ℕ) (g : Bool) (w : Wait V) → IsNext (begin_exp block e n g w)
    exp_next (S.constant l k) n g w = tt
    exp_next (S.name l x) n g w = tt
    exp_next (S.joined l S.no_pieces) n g w = tt
    exp_next (S.joined l (S.literal k t r)) n g w = tt
    exp_next (S.joined l (S.field k e c sp r)) n g w = exp_next e n g _
    exp_next (S.tuple l S.no_exps) n g w = tt
    exp_next (S.tuple l (S.more_exps e es)) n g w = exp_next e n g _
    exp_next (S.list l S.no_exps) n g w = tt
    exp_next (S.list l (S.more_exps e es)) n g w = exp_next e n g _
    exp_next (S.set l S.no_exps) n g w = tt
    exp_next (S.set l (S.more_exps e es)) n g w = exp_next e n g _
    exp_next (S.dict l S.no_entries) n g w = tt
    exp_next (S.dict l (S.entry k v r)) n g w = exp_next k n g _
    exp_next (S.attribute l a x) n g w = exp_next a n g _
    exp_next (S.item l a i) n g w = exp_next a n g _
    exp_next (S.slice l S.absent S.absent S.absent) n g w = tt
    exp_next (S.slice l S.absent S.absent (S.given c)) n g w = exp_next c n g _
    exp_next (S.slice l S.absent (S.given b) c) n g w = exp_next b n g _
    exp_next (S.slice l (S.given a) b c) n g w = exp_next a n g _
    exp_next (S.unary l o a) n g w = exp_next a n g _
    exp_next (S.not_of l a) n g w = exp_next a n g _
    exp_next (S.binary l o a b) n g w = exp_next a n g _
    exp_next (S.compare l a o b r) n g w = exp_next a n g _
    exp_next (S.and l a es) n g w = exp_next a n g _
    exp_next (S.or l a es) n g w = exp_next a n g _
    exp_next (S.conditional l c a b) n g w = exp_next c n g _
    exp_next (S.call l f xs) n g w = exp_next f n g _
    exp_next (S.lambda l b (S.parameters ps s ks d) e) n g w = defaults_next ps _ _ l n g w _ (defaults_next ks _ _ l n g w _ (operation_next (block.captured b) l n g _ _ w))
    exp_next (S.comprehension l m k t it cs) n g w = exp_next it n g _
    exp_next (S.generator l b e k t it cs) n g w = exp_next it n g _
    exp_next (S.yield l S.absent) n g w = tt
    exp_next (S.yield l (S.given e)) n g w = exp_next e n g _
    exp_next (S.yield_from l e) n g w = exp_next e n g _

    defaults_next : (fs : Formals) (os : List Operand) (op : Operation) (l n : ℕ) (g : Bool) (w : Wait V) (after : Control V)
        → IsNext after → IsNext (begin_defaults block fs os op l n g w after)
    defaults_next S.no_formals os op l n g w after h = h
    defaults_next (S.formal k x a S.absent r) os op l n g w after h = defaults_next r os op l n g w after h
    defaults_next (S.formal k x a (S.given d) r) os op l n g w after h = exp_next d n g _

  function_next : (b : ℕ) (ps : Params) (l n : ℕ) (w : Wait V) → IsNext (begin_function block b ps l n w)
  function_next b (S.parameters ps s ks d) l n w =
      defaults_next ps _ _ l n false w _ (defaults_next ks _ _ l n false w _ (operation_next (block.captured b) l n false _ _ w))

  operand_next : (os : List Operand) (l n : ℕ) (op : Operation) (vs : List V) (w : Wait V) → IsNext (next_operand block l n op vs os w)
  operand_next [] l n op vs w = operation_next (cells_of block op) l n false op vs w
  operand_next (F.missing ∷ os) l n op vs w = operand_next os l n op (block.null ∷ vs) w
  operand_next (F.plain e ∷ os) l n op vs w = exp_next e n false _
  operand_next (F.spread_of k e ∷ os) l n op vs w = exp_next e n false _
  operand_next (F.spread_named_of k e ∷ os) l n op vs w = exp_next e n false _
  operand_next (F.literal_of k t ∷ os) l n op vs w = tt
  operand_next (F.field_of k e c sp ∷ os) l n op vs w = exp_next e n false _

  spec_next : (l n : ℕ) (c : Option Conversion) (v : V) (ps : Pieces) (w : Wait V) → IsNext (begin_spec block l n c v ps w)
  spec_next l n c v S.no_pieces w = tt
  spec_next l n c v (S.literal k t S.no_pieces) w = tt
  spec_next l n c v (S.field k e d sp S.no_pieces) w = exp_next e n false _
  spec_next l n c v (S.literal k t r) w = tt
  spec_next l n c v (S.field k e d sp r) w = exp_next e n false _

  made_next : (m : Made) (l n : ℕ) (v : V) (r : Rounds V) → IsNext (begin_made block m l n v r)
  made_next (S.a_list e) l n v r = exp_next e n false _
  made_next (S.a_set e) l n v r = exp_next e n false _
  made_next (S.a_dict k e) l n v r = exp_next k n false _

  last_next : (q : Rounds V) (n : ℕ) (r : Rounds V) → IsNext (begin_last block q n r)
  last_next (F.collecting l k m v w) n r = made_next m l n v r
  last_next (F.generating l e s) n r = exp_next e n false _
  last_next (F.round_of l k i t cs q) n r = last_next q n r

  clauses_next : (cs : Clauses) (n : ℕ) (r : Rounds V) → IsNext (begin_clauses block cs n r)
  clauses_next S.no_clauses n r = last_next r n r
  clauses_next (S.only_if c cs) n r = exp_next c n false _
  clauses_next (S.for_each l t it cs) n r = exp_next it n false _

  -- places and targets
  at_next : (p : Purpose V) (to : Address V) (l n : ℕ) → IsNext (at_place block p to l n)
  at_next (F.storing v k) (F.a_name x) l n = tt
  at_next (F.storing v k) (F.an_attribute a x) l n = tt
  at_next (F.storing v k) (F.an_item a i) l n = tt
  at_next (F.deleting k) (F.a_name x) l n = tt
  at_next (F.deleting k) (F.an_attribute a x) l n = tt
  at_next (F.deleting k) (F.an_item a i) l n = tt
  at_next (F.changing_by j o e s) (F.a_name x) l n = tt
  at_next (F.changing_by j o e s) (F.an_attribute a x) l n = tt
  at_next (F.changing_by j o e s) (F.an_item a i) l n = tt

  place_next : (p : Place) (n : ℕ) (q : Purpose V) → IsNext (begin_place block p n q)
  place_next (S.name_at l x) n q = at_next q (F.a_name x) l n
  place_next (S.attribute_at l a x) n q = exp_next a n false _
  place_next (S.item_at l a i) n q = exp_next a n false _

  store_next : (t : Tgt) (v : V) (n : ℕ) (k : Way V) → IsNext (begin_store block t v n k)
  store_next (S.single p) v n k = place_next p n (F.storing v k)
  store_next (S.several l f ts) v n k = tt
  store_next (S.starred l t) v n k = store_next t v n k

  definition_next : (l n : ℕ) (x : Name) (what : Definition) (calls : List (Decorating V)) (s : Nest V) → IsNext (begin_definition block l n x what calls s)
  definition_next l n x (F.a_function b ps) calls s = function_next b ps l n _
  definition_next l n x (F.a_class b S.absent) calls s = operation_next (block.captured b) l n false _ _ _
  definition_next l n x (F.a_class b (S.given e)) calls s = exp_next e n false _

  -- what begins, or goes on with something, has what both have
  module _ (P : Control V → Type 0) (next : (c : Control V) → IsNext c → P c) where
    stores_have : (st : Stores V) (n : ℕ) (k : Way V) (after : Control V) → P after → P (begin_stores block st n k after)
    stores_have F.no_more n k after h = h
    stores_have (F.and_store t v st) n k after h = next _ (store_next t v n _)

    assign_has : (ts : Tgts) (v : V) (n : ℕ) (s : Nest V) (after : Control V) → P after → P (begin_assign block v ts n s after)
    assign_has S.no_targets v n s after h = h
    assign_has (S.more_targets t S.no_targets) v n s after h = next _ (store_next t v n _)
    assign_has (S.more_targets t (S.more_targets u ts)) v n s after h = next _ (store_next t v n _)

    deletes_have : (ps : List Place) (n : ℕ) (s : Nest V) (after : Control V) → P after → P (begin_deletes block ps n s after)
    deletes_have [] n s after h = h
    deletes_have (p ∷ ps) n s after h = next _ (place_next p n _)

    imports_have : (xs : List Alias) (l n : ℕ) (s : Nest V) (after : Control V) → P after → P (begin_imports block l n xs s after)
    imports_have [] l n s after h = h
    imports_have (x ∷ xs) l n s after h = next _ tt

    imports_from_have : (xs : List Alias) (l n : ℕ) (m : V) (s : Nest V) (after : Control V) → P after → P (begin_imports_from block l n xs m s after)
    imports_from_have [] l n m s after h = h
    imports_from_have (x ∷ xs) l n m s after h = next _ tt

    mutual
      stm_has : (st : Stm) (n : ℕ) (s : Nest V) (after : Control V) → P after → P (begin_stm block st n s after)
      stm_has (S.expr l e) n s after h = next _ (exp_next e n false _)
      stm_has (S.assign l ts e) n s after h = next _ (exp_next e n false _)
      stm_has (S.augmented l p o e) n s after h = next _ (place_next p n _)
      stm_has (S.annotated l p a S.absent) n s after h = next _ tt
      stm_has (S.annotated l p a (S.given e)) n s after h = next _ (exp_next e n false _)
      stm_has (S.assert l c m) n s after h = next _ (exp_next c n false _)
      stm_has (S.pass l) n s after h = next _ tt
      stm_has (S.del l ts) n s after h = deletes_have (all_places ts) n s after h
      stm_has (S.return l S.absent) n s after h = next _ tt
      stm_has (S.return l (S.given e)) n s after h = next _ (exp_next e n false _)
      stm_has (S.raise l e c) n s after h = next _ (exp_next e n false _)
      stm_has (S.raise_again l) n s after h = next _ tt
      stm_has (S.break l) n s after h = next _ tt
      stm_has (S.continue l) n s after h = next _ tt
      stm_has (S.import l xs) n s after h = imports_have xs l n s after h
      stm_has (S.import_from l m xs) n s after h = next _ tt
      stm_has (S.global l xs) n s after h = h
      stm_has (S.nonlocal l xs) n s after h = h
      stm_has (S.choice l S.no_branches els) n s after h = all_have els n s after h
      stm_has (S.choice l (S.branch k c body r) els) n s after h = next _ (exp_next c n false _)
      stm_has (S.while l c body els) n s after h = next _ (exp_next c n false _)
      stm_has (S.for l t it body els) n s after h = next _ (exp_next it n false _)
      stm_has (S.try l body hs els fin) n s after h = next _ tt
      stm_has (S.with l S.no_items body) n s after h = all_have body n s after h
      stm_has (S.with l (S.with_item k e t r) body) n s after h = next _ (exp_next e n false _)
      stm_has (S.def l S.no_decorators k b x ps a body) n s after h = next _ (definition_next k n x (F.a_function b ps) [] s)
      stm_has (S.def l (S.decorator j e r) k b x ps a body) n s after h = next _ (exp_next e n false _)
      stm_has (S.class l S.no_decorators k b x base body) n s after h = next _ (definition_next k n x (F.a_class b base) [] s)
      stm_has (S.class l (S.decorator j e r) k b x base body) n s after h = next _ (exp_next e n false _)
      stm_has (S.docstring l) n s after h = h

      all_have : (ss : Stms) (n : ℕ) (s : Nest V) (after : Control V) → P after → P (begin_all block ss n s after)
      all_have S.none n s after h = h
      all_have (S.more st ss) n s after h = stm_has st n _ _ (all_have ss _ s after h)

    branches_have : (bs : Branches) (els : Stms) (n : ℕ) (s : Nest V) (after : Control V) → P after → P (begin_branches block bs els n s after)
    branches_have S.no_branches els n s after h = all_have els n s after h
    branches_have (S.branch k c body r) els n s after h = next _ (exp_next c n false _)

    items_have : (is : Items) (body : Stms) (n : ℕ) (s : Nest V) (after : Control V) → P after → P (begin_items block is body n s after)
    items_have S.no_items body n s after h = all_have body n s after h
    items_have (S.with_item k e t r) body n s after h = next _ (exp_next e n false _)

    tests_have : (hs : Handlers) (k n : ℕ) (e : V) (s : Nest V) (after : Control V) → P after → P (begin_tests block k hs n e s after)
    tests_have S.no_handlers k n e s after h = h
    tests_have (S.handler l S.absent x body r) k n e s after h = next _ tt
    tests_have (S.handler l (S.given c) x body r) k n e s after h = next _ (exp_next c n false _)

  -- a completion comes to an act or the end, three notes and asks for each frame at most
  abbrev Completes : Nest V → Type 0
  Completes s = (c : Completion V) (m : ℕ) → 3 * length s ≤ m → Comes (complete block c s) m

  pass_comes : (s : Nest V) → Completes s → (c : Completion V) (m : ℕ) → 3 * length s + 1 ≤ m → Comes (pass_on c s (complete block c s)) m
  pass_comes s f (by (raise v)) zero h = absurd (omega (arith, h))
  pass_comes s f (by (raise v)) (suc m) h = f (by (raise v)) m (omega (arith, h))
  pass_comes s f normal m h = f normal m (omega (arith, h))
  pass_comes s f (by (F.return v)) m h = f (by (F.return v)) m (omega (arith, h))
  pass_comes s f (by F.break) m h = f (by F.break) m (omega (arith, h))
  pass_comes s f (by F.continue) m h = f (by F.continue) m (omega (arith, h))

  letting_comes : (s t : Nest V) → Completes s → (a : Deed V) (c : Completion V) (m : ℕ) → 3 * length s + 2 ≤ m → Comes (F.silent_deed a (F.lets_go c s) t) m
  letting_comes s t f a c zero h = absurd (omega (arith, h))
  letting_comes s t f a c (suc m) h = pass_comes s f c m (omega (arith, h))

  unbinding_comes : (s t : Nest V) → Completes s → (a : Deed V) (x : Name) (c : Completion V) (m : ℕ) → 3 * length s + 3 ≤ m → Comes (F.silent_deed a (F.unbinds x c s) t) m
  unbinding_comes s t f a x c zero h = absurd (omega (arith, h))
  unbinding_comes s t f a x c (suc m) h = letting_comes s s f _ c m (omega (arith, h))

  follow_comes : (r : Follows V) (s : Nest V) → Completes s → (m : ℕ) → 3 * length s + 3 ≤ m → Comes (follow block r s (complete block (onward r) s)) m
  follow_comes (C.outwards c) s f m h = f c m (omega (arith, h))
  follow_comes (C.lets_go c) s f m h = pass_comes s f c m (omega (arith, h))
  follow_comes (C.begins n ss within c) s f m h = all_have (λ d. Comes d m) (next_comes m) ss n (within ++ s) _ (pass_comes s f c m (omega (arith, h)))
  follow_comes (C.tests_again l n c body els) s f m h = next_comes m _ (exp_next c n true _)
  follow_comes (C.takes_next l n i t body els) s f m h = tt
  follow_comes (C.tries n hs v) s f m h = tests_have (λ d. Comes d m) (next_comes m) hs n n v s _ (pass_comes s f (by (raise v)) m (omega (arith, h)))
  follow_comes (C.unbinds x c) s f m h = unbinding_comes s s f _ x c m h
  follow_comes (C.exits l n w c) s f m h = tt

  completes : (s : Nest V) → Completes s
  completes [] c m h = tt
  completes (f ∷ s) c m h = follow_comes (row c f) s (completes s) m (omega (arith, h))

  -- so does what is formed, within the most that is said of it
  noting_comes : (s t : Nest V) (a : T.Note V) (v : V) (m : ℕ) → 3 * length s + 1 ≤ m → Comes (F.noting a (F.raises v s) t) m
  noting_comes s t a v zero h = absurd (omega (arith, h))
  noting_comes s t a v (suc m) h = completes s (by (raise v)) m (omega (arith, h))

  formed_comes : (c : Control V) → Formed c → ComesToAct block c
  formed_comes (F.silent_value a (F.celled l n g op before behind w)) h = tt
  formed_comes (F.silent_value a w) h = absurd h
  formed_comes (F.silent_deed a (F.made_anew xs l n i t cs r) s) h = tt
  formed_comes (F.silent_deed a (F.unbinds x c t) s) h = unbinding_comes t s (completes t) a x c (3 * suc (length s)) (omega (arith, ap (λ u. length u) h))
  formed_comes (F.silent_deed a (F.lets_go c t) s) h = letting_comes t s (completes t) a c (3 * suc (length s)) (omega (arith, ap (λ u. length u) h))
  formed_comes (F.silent_deed a k s) h = absurd h
  formed_comes (F.noting a (F.raises v t) s) h = noting_comes t s a v (3 * suc (length s)) (omega (arith, ap (λ u. length u) h))
  formed_comes (F.noting a k s) h = absurd h
  formed_comes c h = tt

  -- all that control comes to is formed
  pass_formed : (c : Completion V) (s : Nest V) (after : Control V) → Formed after → Formed (pass_on c s after)
  pass_formed (by (raise v)) s after h = refl
  pass_formed normal s after h = h
  pass_formed (by (F.return v)) s after h = h
  pass_formed (by F.break) s after h = h
  pass_formed (by F.continue) s after h = h

  follow_formed : (r : Follows V) (s : Nest V) (after : Control V) → Formed after → Formed (follow block r s after)
  follow_formed (C.outwards c) s after h = h
  follow_formed (C.lets_go c) s after h = pass_formed c s after h
  follow_formed (C.begins n ss within c) s after h = all_have (λ d. Formed d) next_formed ss n (within ++ s) _ (pass_formed c s after h)
  follow_formed (C.tests_again l n c body els) s after h = next_formed _ (exp_next c n true _)
  follow_formed (C.takes_next l n i t body els) s after h = tt
  follow_formed (C.tries n hs v) s after h = tests_have (λ d. Formed d) next_formed hs n n v s _ (pass_formed (by (raise v)) s after h)
  follow_formed (C.unbinds x c) s after h = refl
  follow_formed (C.exits l n w c) s after h = tt

  complete_formed : (s : Nest V) (c : Completion V) → Formed (complete block c s)
  complete_formed [] c = tt
  complete_formed (f ∷ s) c = follow_formed (row c f) s _ (complete_formed s (onward (row c f)))

  let_go_formed : (c : Completion V) (s : Nest V) → Formed (let_go block c s)
  let_go_formed c s = pass_formed c s _ (complete_formed s c)

  anew_formed : (xs : List Variable) (l n : ℕ) (i : V) (t : Tgt) (cs : Clauses) (r : Rounds V) → Formed (make_anew xs l n i t cs r)
  anew_formed [] l n i t cs r = tt
  anew_formed (x ∷ xs) l n i t cs r = tt

  mutual
    deliver_formed : (w : Wait V) (v : V) → Formed (deliver block v w)
    deliver_formed (F.operands l n op before behind w) v = next_formed _ (operand_next behind l n op _ w)
    deliver_formed (F.celled l n g op before behind w) v = next_formed _ (operation_next behind l n g op _ w)
    deliver_formed (F.yielded l n w) v = tt
    deliver_formed (F.formatted l n c sp w) v = next_formed _ (spec_next l n c v sp w)
    deliver_formed (F.comparing l n o b r w) v = next_formed _ (exp_next b n false _)
    deliver_formed (F.compared l n a o S.no_links w) v = tt
    deliver_formed (F.compared l n a o (S.link p b r) w) v = tt
    deliver_formed (F.linked l n a o b r w) v = tt
    deliver_formed (F.anded l n S.no_exps w) v = deliver_formed w v
    deliver_formed (F.anded l n (S.more_exps e es) w) v = tt
    deliver_formed (F.ored l n S.no_exps w) v = deliver_formed w v
    deliver_formed (F.ored l n (S.more_exps e es) w) v = tt
    deliver_formed (F.asked l n t f) v = tt
    deliver_formed (F.iterated l n o) v = tt
    deliver_formed (F.built_in l n k i t cs m w) v = anew_formed _ k n i t cs _
    deliver_formed (F.added_to_list l n made r) v = tt
    deliver_formed (F.added_to_set l n made r) v = tt
    deliver_formed (F.keyed l n e made r) v = next_formed _ (exp_next e n false _)
    deliver_formed (F.added_to_dict l n k made r) v = tt
    deliver_formed (F.item_yielded l n r) v = tt
    deliver_formed (F.item_sent l n r) v = tt
    deliver_formed (F.dropped l n s) v = tt
    deliver_formed (F.assigned n ts s) v = assign_has (λ d. Formed d) next_formed ts v n s _ (complete_formed s normal)
    deliver_formed (F.of_attribute l n x p) v = next_formed _ (at_next p _ l n)
    deliver_formed (F.of_item l n i p) v = next_formed _ (exp_next i n false _)
    deliver_formed (F.at_item l n a p) v = next_formed _ (at_next p _ l n)
    deliver_formed (F.changing l n k to o e s) v = next_formed _ (exp_next e n false _)
    deliver_formed (F.changed_by l n k to u o s) v = tt
    deliver_formed (F.change_stored n k to s) v = next_formed _ (at_next (F.storing v (F.finished s)) to k n)
    deliver_formed (F.returned_by l n s) v = tt
    deliver_formed (F.thrown l n S.absent s) v = tt
    deliver_formed (F.thrown l n (S.given c) s) v = next_formed _ (exp_next c n false _)
    deliver_formed (F.caused l n u s) v = tt
    deliver_formed (F.message_of l n s) v = tt
    deliver_formed (F.imported l n x xs s) v = tt
    deliver_formed (F.imported_origin l n xs s) v = imports_from_have (λ d. Formed d) next_formed xs l n v s _ (complete_formed s normal)
    deliver_formed (F.imported_name l n x xs m s) v = tt
    deliver_formed (F.matched l k n e t f) v = tt
    deliver_formed (F.entered l n t is body s) v = tt
    deliver_formed (F.decorated k n before S.no_decorators l x what s) v = next_formed _ (definition_next l n x what _ s)
    deliver_formed (F.decorated k n before (S.decorator j e r) l x what s) v = next_formed _ (exp_next e n false _)
    deliver_formed (F.defined l n x [] s) v = tt
    deliver_formed (F.defined l n x (c ∷ cs) s) v = tt

    round_formed : (r : Rounds V) → Formed (next_round block r)
    round_formed (F.collecting l n m v w) = deliver_formed w v
    round_formed (F.generating l e s) = complete_formed s normal
    round_formed (F.round_of l n i t cs r) = tt

  iter_formed : (o : Over V) (i : V) → Formed (take_iter block i o)
  iter_formed (F.for_over l n t body els s) i = tt
  iter_formed (F.comprehension_over l n k t cs m w) i = tt
  iter_formed (F.generator_over l n b w) i = next_formed _ (operation_next (block.captured b) l n false _ _ w)
  iter_formed (F.clause_over l n t cs r) i = tt
  iter_formed (F.delegated_over l n w) i = tt

  go_formed : (k : Way V) → Formed (go block k)
  go_formed (F.finished s) = complete_formed s normal
  go_formed (F.stms n ss s) = all_have (λ d. Formed d) next_formed ss n s _ (complete_formed s normal)
  go_formed (F.branches n bs els s) = branches_have (λ d. Formed d) next_formed bs els n s _ (complete_formed s normal)
  go_formed (F.value n e w) = next_formed _ (exp_next e n false w)
  go_formed (F.given v w) = deliver_formed w v
  go_formed (F.linked_on l n v o b r w) = next_formed _ (exp_next b n false _)
  go_formed (F.lets_go c s) = let_go_formed c s
  go_formed (F.raises v s) = complete_formed s (by (raise v))
  go_formed (F.unbinds x c s) = refl
  go_formed (F.made_anew xs l n i t cs r) = anew_formed xs l n i t cs r
  go_formed (F.assigns n v ts s) = assign_has (λ d. Formed d) next_formed ts v n s _ (complete_formed s normal)
  go_formed (F.tests k n hs e s) = tests_have (λ d. Formed d) next_formed hs k n e s _ (let_go_formed (by (raise e)) s)
  go_formed (F.binding l n x v k s) = tt
  go_formed (F.stores n st k) = stores_have (λ d. Formed d) next_formed st n k _ (go_formed k)
  go_formed (F.deletes n ps s) = deletes_have (λ d. Formed d) next_formed ps n s _ (complete_formed s normal)
  go_formed (F.imports l n xs s) = imports_have (λ d. Formed d) next_formed xs l n s _ (complete_formed s normal)
  go_formed (F.imports_from l n xs m s) = imports_from_have (λ d. Formed d) next_formed xs l n m s _ (complete_formed s normal)
  go_formed (F.within_items n is body s) = items_have (λ d. Formed d) next_formed is body n s _ (complete_formed s normal)
  go_formed (F.failed l n S.absent s) = tt
  go_formed (F.failed l n (S.given m) s) = next_formed _ (exp_next m n false _)
  go_formed (F.round r) = round_formed r
  go_formed (F.clauses n cs r) = next_formed _ (clauses_next cs n r)

  -- behind each reply
  value_formed : (w : Wait V) (r : Reply V V) → Formed (after_value block w r)
  value_formed w (got v) = deliver_formed w v
  value_formed w (raised v) = complete_formed (base w) (by (raise v))

  deed_formed : (k : Way V) (s : Nest V) (r : Reply V (Unit {0})) → Formed (after_deed block k s r)
  deed_formed k s (got t) = go_formed k
  deed_formed k s (raised v) = complete_formed s (by (raise v))

  leave_formed : (a : Abrupt V) (s : Nest V) (r : Reply V (Unit {0})) → Formed (after_leave block a s r)
  leave_formed a s (got t) = complete_formed s (by a)
  leave_formed a s (raised v) = complete_formed s (by (raise v))

  throw_formed : (s : Nest V) (r : Reply V ⊥) → Formed (after_throw block s r)
  throw_formed s (got x) = absurd x
  throw_formed s (raised v) = complete_formed s (by (raise v))

  truth_formed : (t f : Way V) (s : Nest V) (r : Reply V Bool) → Formed (after_truth block t f s r)
  truth_formed t f s (got true) = go_formed t
  truth_formed t f s (got false) = go_formed f
  truth_formed t f s (raised v) = complete_formed s (by (raise v))

  over_formed : (o : Over V) (r : Reply V V) → Formed (after_iter block o r)
  over_formed o (got i) = iter_formed o i
  over_formed o (raised v) = complete_formed (over_base o) (by (raise v))

  item_formed : (n : ℕ) (t : Tgt) (k f : Way V) (r : Reply V (Option V)) → Formed (after_item block n t k f r)
  item_formed n t k f (got (Some v)) = next_formed _ (store_next t v n _)
  item_formed n t k f (got None) = go_formed f
  item_formed n t k f (raised v) = complete_formed (way_base k) (by (raise v))

  entry_formed : (l n : ℕ) (t : Option Tgt) (is : Items) (body : Stms) (s : Nest V) (r : Reply V (V × V)) → Formed (after_entry block l n t is body s r)
  entry_formed l n None is body s (got (w, v)) =
      items_have (λ d. Formed d) next_formed is body n _ _ (complete_formed (F.withing l (n + items_size is (stms_size body)) w ∷ s) normal)
  entry_formed l n (Some t) is body s (got (w, v)) = next_formed _ (store_next t v n _)
  entry_formed l n None is body s (raised v) = complete_formed s (by (raise v))
  entry_formed l n (Some t) is body s (raised v) = complete_formed s (by (raise v))

  delegate_formed : (m : Mark) (i : V) (w : Wait V) (r : Reply V (Delegated V)) → Formed (after_delegate block m i w r)
  delegate_formed m i w (got (T.returned v)) = deliver_formed w v
  delegate_formed m i w (got (T.resumed r)) = tt
  delegate_formed m i w (raised v) = complete_formed (base w) (by (raise v))

  lead_formed : (c d : Control V) → Leads (turn block c) d → Formed d
  lead_formed (F.for_value m a w) d (r, e) = subst Formed e (value_formed w r)
  lead_formed (F.for_deed m a k s) d (r, e) = subst Formed e (deed_formed k s r)
  lead_formed (F.for_leave m a s) d (r, e) = subst Formed e (leave_formed a s r)
  lead_formed (F.for_throw m a s) d (r, e) = subst Formed e (throw_formed s r)
  lead_formed (F.for_truth m a t f s) d (r, e) = subst Formed e (truth_formed t f s r)
  lead_formed (F.for_iter m v o) d (r, e) = subst Formed e (over_formed o r)
  lead_formed (F.for_item m i n t k f) d (r, e) = subst Formed e (item_formed n t k f r)
  lead_formed (F.for_entry m v l n t is body s) d (r, e) = subst Formed e (entry_formed l n t is body s r)
  lead_formed (F.for_unpack m v n ts k s) d (got vs, e) = subst Formed e (stores_have (λ d. Formed d) next_formed (each_gets ts vs) n k _ (go_formed k))
  lead_formed (F.for_unpack m v n ts k s) d (raised v', e) = subst Formed e (complete_formed s (by (raise v')))
  lead_formed (F.for_delegate m i s w) d (r, e) = subst Formed e (delegate_formed m i w r)
  lead_formed (F.silent_value a w) d (r, e) = subst Formed e (value_formed w r)
  lead_formed (F.silent_deed a k s) d (r, e) = subst Formed e (deed_formed k s r)
  lead_formed (F.noting a k s) d (r, e) = subst Formed e (deed_formed k s r)
  lead_formed (F.closed a) d h = absurd h

  start_formed : (code : Code) (i : V) → Formed (start_code block code i)
  start_formed (B.of_module ss) i = all_have (λ d. Formed d) next_formed ss 0 [] _ tt
  start_formed (B.of_function ss) i = all_have (λ d. Formed d) next_formed (function_body ss) 0 [] _ tt
  start_formed (B.of_class ss) i = all_have (λ d. Formed d) next_formed ss 0 [] _ tt
  start_formed (B.of_lambda l e) i = next_formed _ (exp_next e 0 false _)
  start_formed (B.of_generator l e k t cs) i = tt

  pub behind_replies : (c d : Control V) → Leads (turn block c) d → ComesToAct block d
  behind_replies c d h = formed_comes d (lead_formed c d h)

  pub behind_ways : (k : Way V) → ComesToAct block (go block k)
  behind_ways k = formed_comes _ (go_formed k)

  pub behind_starts : (code : Code) (i : V) → ComesToAct block (start_code block code i)
  behind_starts code i = formed_comes _ (start_formed code i)
