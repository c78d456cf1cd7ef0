-- How targets, statements and blocks begin (Language Reference 7, 8).
use Rattle.std.specs.Prelude.{ℕ, ◌+◌, zero, suc, List, [], ◌∷◌, ◌++◌, Bool, false, Option, Some, None, option_map}
use Rattle.pt_tree.specs.declared.statement.Alias.{Alias}
use Rattle.pt_tree.specs.Syntax as S
use Rattle.pt_tree.specs.Syntax.{Name, Exp, Opt, Place, Tgt, Tgts, Items, Stm, Stms, Branches, Handlers, none, more}
use Rattle.pt_tree.specs.Sizes.{size, place_size, target_size, params_size, stm_size, stms_size}
use Rattle.sem_control.specs.control.Turn as T
use Rattle.sem_control.specs.control.Turn.{Row, mark, Around, load, operate, yielding, store, set_attribute, set_item, delete, delete_attribute, delete_item, nothing, raising, raising_again, failing}
use Rattle.sem_control.specs.control.Frames as F
use Rattle.sem_control.specs.control.Frames.{return, break, continue, Nest, Way, Wait, Purpose, Address, Stores, no_more, and_store, Definition, a_function, a_class, Decorating, Control, for_value, for_deed, for_leave, for_throw, for_truth, for_item, for_unpack}
use Rattle.sem_control.specs.control.Bases.{way_base, around_way}
use Rattle.sem_control.specs.control.Numbers.{tested_body, behind_body, for_body, for_else, try_handlers, try_finally, handler_body}
use Rattle.sem_control.specs.control.Expressions.{begin_operation, begin_exp, begin_function}

abbrev pub count : Tgts → ℕ
count S.no_targets = 0
count (S.more_targets t ts) = suc (count ts)

-- what is unpacked, each target with its own value
abbrev pub each_gets : {V : Type 0} → (ts : Tgts) → Row V (count ts) → Stores V
each_gets S.no_targets u = no_more
each_gets (S.more_targets t ts) (v, vs) = and_store t v (each_gets ts vs)

-- the place of the first starred target
abbrev pub star_of : Tgts → Option ℕ
star_of S.no_targets = None
star_of (S.more_targets (S.starred l t) ts) = Some zero
star_of (S.more_targets (S.single p) ts) = option_map suc (star_of ts)
star_of (S.more_targets (S.several l f us) ts) = option_map suc (star_of ts)

-- the single targets within others, in order
abbrev mutual
  pub places : Tgt → List Place
  places (S.single p) = p ∷ []
  places (S.several l f ts) = all_places ts
  places (S.starred l t) = places t

  pub all_places : Tgts → List Place
  all_places S.no_targets = []
  all_places (S.more_targets t ts) = places t ++ all_places ts

-- the name that an import binds
abbrev pub name_or : Name → Option Name → Name
name_or x None = x
name_or x (Some y) = y

abbrev pub bound_name : Alias → Name
bound_name a = name_or a.name a.alias

module _ {V : Type 0} (block : Around V) where
  -- 7.2, 7.2.1, 7.5: the act at a place whose parts are evaluated; an operator takes the present value before the other operand
  abbrev pub at_place : Purpose V → Address V → (l n : ℕ) → Control V
  at_place (F.storing v k) (F.a_name x) l n = for_deed (mark n l false) (store (block.variable (around_way k) x) v) k (way_base k)
  at_place (F.storing v k) (F.an_attribute a x) l n = for_deed (mark n l false) (set_attribute (block.spelled x) a v) k (way_base k)
  at_place (F.storing v k) (F.an_item a i) l n = for_deed (mark n l false) (set_item a i v) k (way_base k)
  at_place (F.deleting k) (F.a_name x) l n = for_deed (mark n l false) (delete (block.variable (around_way k) x)) k (way_base k)
  at_place (F.deleting k) (F.an_attribute a x) l n = for_deed (mark n l false) (delete_attribute (block.spelled x) a) k (way_base k)
  at_place (F.deleting k) (F.an_item a i) l n = for_deed (mark n l false) (delete_item a i) k (way_base k)
  at_place (F.changing_by j o e s) (F.a_name x) l n = for_value (mark n l false) (load (block.variable [] x)) (F.changing j (n + 1) l (F.a_name x) o e s)
  at_place (F.changing_by j o e s) (F.an_attribute a x) l n =
      for_value (mark n l false) (operate (T.get (block.spelled x)) (a ∷ [])) (F.changing j (n + 1) l (F.an_attribute a x) o e s)
  at_place (F.changing_by j o e s) (F.an_item a i) l n =
      for_value (mark n l false) (operate T.item (a ∷ i ∷ [])) (F.changing j (n + 1) l (F.an_item a i) o e s)

  -- a place is evaluated once, whatever it is for
  abbrev pub begin_place : Place → (n : ℕ) → Purpose V → Control V
  begin_place (S.name_at l x) n p = at_place p (F.a_name x) l n
  begin_place (S.attribute_at l a x) n p = begin_exp block a n false (F.of_attribute l (n + size a) x p)
  begin_place (S.item_at l a i) n p = begin_exp block a n false (F.of_item l (n + size a) i p)

  -- a value goes to a target, and then on
  abbrev pub begin_store : Tgt → V → (n : ℕ) → Way V → Control V
  begin_store (S.single p) v n k = begin_place p n (F.storing v k)
  begin_store (S.several l f ts) v n k = for_unpack (mark n l false) v (n + 1) ts k (way_base k)
  begin_store (S.starred l t) v n k = begin_store t v n k

  abbrev pub begin_stores : Stores V → (n : ℕ) → Way V → (after : Control V) → Control V
  begin_stores no_more n k after = after
  begin_stores (and_store t v st) n k after = begin_store t v n (F.stores (n + target_size t) st k)

  -- 7.2: each target gets the one value, which is held for as long as there is another
  abbrev pub begin_assign : V → Tgts → (n : ℕ) → Nest V → (after : Control V) → Control V
  begin_assign v S.no_targets n s after = after
  begin_assign v (S.more_targets t S.no_targets) n s after = begin_store t v n (F.finished s)
  begin_assign v (S.more_targets t (S.more_targets u ts)) n s after = begin_store t v n (F.assigns (n + target_size t) v (S.more_targets u ts) s)

  abbrev pub begin_deletes : List Place → (n : ℕ) → Nest V → (after : Control V) → Control V
  begin_deletes [] n s after = after
  begin_deletes (p ∷ ps) n s after = begin_place p n (F.deleting (F.deletes (n + place_size p) ps s))

  -- 7.11
  abbrev pub begin_imports : (l n : ℕ) → List Alias → Nest V → (after : Control V) → Control V
  begin_imports l n [] s after = after
  begin_imports l n (a ∷ as') s after = for_value (mark n l false) (operate (T.import (block.spelled a.name)) []) (F.imported l (n + 1) (bound_name a) as' s)

  abbrev pub begin_imports_from : (l n : ℕ) → List Alias → (origin : V) → Nest V → (after : Control V) → Control V
  begin_imports_from l n [] m s after = after
  begin_imports_from l n (a ∷ as') m s after =
      for_value (mark n l false) (operate (T.import_name (block.spelled a.name)) (m ∷ [])) (F.imported_name l (n + 1) (bound_name a) as' m s)

  -- 8.7, 8.8: what is decorated is made behind the decorators, which are then called, the last first
  abbrev pub begin_definition : (l n : ℕ) → Name → Definition → List (Decorating V) → Nest V → Control V
  begin_definition l n x (a_function b ps) calls s = begin_function block b ps l n (F.defined l (n + params_size ps + 1) x calls s)
  begin_definition l n x (a_class b S.absent) calls s = begin_operation block (block.captured b) l n false (T.class b) (block.null ∷ []) (F.defined l (n + 1) x calls s)
  begin_definition l n x (a_class b (S.given e)) calls s =
      begin_exp block e n false (F.operands l (n + size e) (T.class b) [] [] (F.defined l (n + size e + 1) x calls s))

  -- 8.2: the test of a `while`
  abbrev pub begin_test : (l n : ℕ) → (is_retest : Bool) → Exp → (body els : Stms) → Nest V → Control V
  begin_test l n g c body els s =
      begin_exp block c n g
      (F.asked l (n + size c) (F.stms (tested_body n c) body (F.looping l n c body els ∷ s)) (F.stms (behind_body n c body) els s))

  -- 8.3: the next item of a `for`
  abbrev pub begin_next : (l n : ℕ) → (is_retest : Bool) → (iterator : V) → Tgt → (body els : Stms) → Nest V → Control V
  begin_next l n g i t body els s =
      for_item (mark n l g) i (n + 1) t (F.stms (for_body n t) body (F.iterating l n i t body els ∷ s)) (F.stms (for_else n t body) els s)

  abbrev mutual
    -- a statement begins in a nest; where it has no act, control goes on with `after`
    pub begin_stm : Stm → (n : ℕ) → Nest V → (after : Control V) → Control V
    begin_stm (S.expr l e) n s after = begin_exp block e n false (F.dropped l (n + size e) s)
    begin_stm (S.assign l ts e) n s after = begin_exp block e n false (F.assigned (n + size e) ts s)
    begin_stm (S.augmented l p o e) n s after = begin_place p n (F.changing_by l o e s)
    begin_stm (S.annotated l p a S.absent) n s after = for_deed (mark n l false) nothing (F.finished s) s
    begin_stm (S.annotated l p a (S.given e)) n s after = begin_exp block e n false (F.assigned (n + size e) (S.more_targets (S.single p) S.no_targets) s)
    begin_stm (S.assert l c m) n s after = begin_exp block c n false (F.asked l (n + size c) (F.finished s) (F.failed l (n + size c + 1) m s))
    begin_stm (S.pass l) n s after = for_deed (mark n l false) nothing (F.finished s) s
    begin_stm (S.del l ts) n s after = begin_deletes (all_places ts) n s after
    begin_stm (S.return l S.absent) n s after = for_leave (mark n l false) (return block.null) s
    begin_stm (S.return l (S.given e)) n s after = begin_exp block e n false (F.returned_by l (n + size e) s)
    begin_stm (S.raise l e c) n s after = begin_exp block e n false (F.thrown l (n + size e) c s)
    begin_stm (S.raise_again l) n s after = for_throw (mark n l false) raising_again s
    begin_stm (S.break l) n s after = for_leave (mark n l false) break s
    begin_stm (S.continue l) n s after = for_leave (mark n l false) continue s
    begin_stm (S.import l xs) n s after = begin_imports l n xs s after
    begin_stm (S.import_from l m xs) n s after = for_value (mark n l false) (operate (T.import (block.spelled m)) []) (F.imported_origin l (n + 1) xs s)
    begin_stm (S.global l xs) n s after = after
    begin_stm (S.nonlocal l xs) n s after = after
    begin_stm (S.choice l S.no_branches els) n s after = begin_all els n s after
    begin_stm (S.choice l (S.branch k c body r) els) n s after =
        begin_exp block c n false (F.asked k (n + size c) (F.stms (tested_body n c) body s) (F.branches (behind_body n c body) r els s))
    begin_stm (S.while l c body els) n s after = begin_test l n false c body els s
    begin_stm (S.for l t it body els) n s after = begin_exp block it n false (F.iterated l (n + size it) (F.for_over l (n + size it + 1) t body els s))
    begin_stm (S.try l body hs els fin) n s after =
        for_deed (mark n l false) nothing
        (F.stms (n + 1) body (F.guarded (try_handlers n body) hs els ∷ F.ensuring n (try_finally n body hs els) fin ∷ s)) s
    begin_stm (S.with l S.no_items body) n s after = begin_all body n s after
    begin_stm (S.with l (S.with_item k e t r) body) n s after = begin_exp block e n false (F.entered k (n + size e) t r body s)
    begin_stm (S.def l S.no_decorators k b x ps a body) n s after = begin_definition k n x (a_function b ps) [] s
    begin_stm (S.def l (S.decorator j e r) k b x ps a body) n s after = begin_exp block e n false (F.decorated j (n + size e) [] r k x (a_function b ps) s)
    begin_stm (S.class l S.no_decorators k b x base body) n s after = begin_definition k n x (a_class b base) [] s
    begin_stm (S.class l (S.decorator j e r) k b x base body) n s after = begin_exp block e n false (F.decorated j (n + size e) [] r k x (a_class b base) s)
    begin_stm (S.docstring l) n s after = after

    -- statements begin, each in front of the rest
    pub begin_all : Stms → (n : ℕ) → Nest V → (after : Control V) → Control V
    begin_all none n s after = after
    begin_all (more st ss) n s after = begin_stm st n (F.rest (n + stm_size st) ss ∷ s) (begin_all ss (n + stm_size st) s after)

  -- 8.1: the next test of an `if`, or its `else`
  abbrev pub begin_branches : Branches → (els : Stms) → (n : ℕ) → Nest V → (after : Control V) → Control V
  begin_branches S.no_branches els n s after = begin_all els n s after
  begin_branches (S.branch k c body r) els n s after =
      begin_exp block c n false (F.asked k (n + size c) (F.stms (tested_body n c) body s) (F.branches (behind_body n c body) r els s))

  -- 8.5: the next item of a `with`, or its body
  abbrev pub begin_items : Items → (body : Stms) → (n : ℕ) → Nest V → (after : Control V) → Control V
  begin_items S.no_items body n s after = begin_all body n s after
  begin_items (S.with_item k e t r) body n s after = begin_exp block e n false (F.entered k (n + size e) t r body s)

  -- 8.4.1: a handler binds its name, if it has one, and runs; n numbers its Match
  abbrev pub handler_way : (l n : ℕ) → Option Name → (body : Stms) → (exception : V) → Nest V → Way V
  handler_way l n None body e s = F.stms (n + 1) body (F.handling n e ∷ s)
  handler_way l n (Some x) body e s = F.binding l (n + 1) x e (F.stms (n + 1 + 1) body (F.naming x ∷ F.handling n e ∷ s)) (F.handling n e ∷ s)

  -- the handlers are tried in order; behind them the raise goes on
  abbrev pub begin_tests : (k : ℕ) → Handlers → (n : ℕ) → (exception : V) → Nest V → (none_left : Control V) → Control V
  begin_tests k S.no_handlers n e s none_left = none_left
  begin_tests k (S.handler l S.absent x body r) n e s none_left =
      for_truth (mark n l false) (T.matches e block.null) (handler_way l n x body e s) (F.tests k (handler_body n x + stms_size body) r e s) (F.testing k e ∷ s)
  begin_tests k (S.handler l (S.given c) x body r) n e s none_left =
      begin_exp block c n false
      (F.matched l k (n + size c) e (handler_way l (n + size c) x body e s) (F.tests k (handler_body (n + size c) x + stms_size body) r e s))
