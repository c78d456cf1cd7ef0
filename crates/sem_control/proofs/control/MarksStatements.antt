-- Where the acts of a target or a statement stand, its beginning has marked acts.
use Rattle.std.proofs.Common.{ℕ, ◌+◌, List, [], ◌∷◌, Bool, false, Option, Some, None}
use Rattle.pt_base.specs.declared.operators.BinOp.{BinOp}
use Rattle.pt_tree.specs.declared.act.ActKind.TheVariants as K
use Rattle.pt_tree.specs.declared.statement.Alias.{Alias}
use Rattle.pt_tree.specs.Syntax as S
use Rattle.pt_tree.specs.Syntax.{Name, Exp, Opt, Place, Tgt, Tgts, Items, Stm, Stms, Branches, Handlers, none, more}
use Rattle.pt_tree.specs.Sizes.{size, target_size, stm_size, stms_size}
use Rattle.sem_control.specs.control.Turn.{Around, Row}
use Rattle.sem_control.specs.control.Frames as F
use Rattle.sem_control.specs.control.Frames.{Nest, Way, Purpose, Stores, Definition, Decorating, Control}
use Rattle.sem_control.specs.control.Statements.{count, each_gets, all_places, at_place, begin_place, begin_store, begin_stores, begin_assign, begin_deletes, begin_imports, begin_imports_from, begin_definition, begin_test, begin_next, begin_stm, begin_all, begin_branches, begin_items, begin_tests, handler_way}
use Rattle.sem_control.specs.control.Bases.{way_base}
use Rattle.sem_control.specs.control.Jump.{Shape, shape}
use Rattle.sem_control.specs.control.Numbers.{handler_body}
use Rattle.sem_control.proofs.control.MarksTree.{Numbering, Target_in, Targets_in, Delete_in, Deletes_in, Augmented_in, Imports_in, Items_in, Name_in, Stm_in, Stms_in, Branches_in, Handlers_in}
use Rattle.sem_control.proofs.control.MarksFrames.{lines, Stores_in, Definition_in, While_in, For_in, Nest_in, numbers, Way_in, Purpose_in, Control_in}
use Rattle.sem_control.proofs.control.MarksBases.{way_base_in}
use Rattle.sem_control.proofs.control.MarksExpressions.{no_test, begin_operation_in, begin_exp_in, begin_function_in}

pub each_gets_in : (R : Numbering) (V : Type 0) (ts : Tgts) (vs : Row V (count ts)) (n : ℕ) → Targets_in R ts n → Stores_in R (each_gets ts vs) n
each_gets_in R V S.no_targets u n h = h
each_gets_in R V (S.more_targets t ts) vs n (ht, hs) = (ht, each_gets_in R V ts vs.1 (n + target_size t) hs)

module _ (R : Shape → Numbering) {V : Type 0} (block : Around V) where
  -- the act at a name, an attribute, an item
  at_name_in : (p : Purpose V) (x : Name) (l n : ℕ) → Purpose_in R p K.Store K.Delete K.Load l n → Control_in R (at_place block p (F.a_name x) l n)
  at_name_in (F.storing v k) x l n (h, hk) = ((h, no_test), hk, way_base_in R k hk)
  at_name_in (F.deleting k) x l n (h, hk) = ((h, no_test), hk, way_base_in R k hk)
  at_name_in (F.changing_by j o e s) x l n (h, he, hs) = ((h, no_test), (he, hs))

  pub at_attribute_in : (p : Purpose V) (a : V) (x : Name) (l n : ℕ)
      → Purpose_in R p K.SetAttr K.DelAttr K.Attr l n → Control_in R (at_place block p (F.an_attribute a x) l n)
  at_attribute_in (F.storing v k) a x l n (h, hk) = ((h, no_test), hk, way_base_in R k hk)
  at_attribute_in (F.deleting k) a x l n (h, hk) = ((h, no_test), hk, way_base_in R k hk)
  at_attribute_in (F.changing_by j o e s) a x l n (h, he, hs) = ((h, no_test), (he, hs))

  pub at_item_in : (p : Purpose V) (a i : V) (l n : ℕ)
      → Purpose_in R p K.SetItem K.DelItem K.Item l n → Control_in R (at_place block p (F.an_item a i) l n)
  at_item_in (F.storing v k) a i l n (h, hk) = ((h, no_test), hk, way_base_in R k hk)
  at_item_in (F.deleting k) a i l n (h, hk) = ((h, no_test), hk, way_base_in R k hk)
  at_item_in (F.changing_by j o e s) a i l n (h, he, hs) = ((h, no_test), (he, hs))

  pub begin_store_in : (t : Tgt) (v : V) (n : ℕ) (k : Way V) → Target_in (numbers R (way_base k)) t n → Way_in R k → Control_in R (begin_store block t v n k)
  begin_store_in (S.single (S.name_at l x)) v n k h hk = at_name_in (F.storing v k) x l n (h, hk)
  begin_store_in (S.single (S.attribute_at l a x)) v n k (ha, h) hk = begin_exp_in R block a n false _ ha no_test (h, hk)
  begin_store_in (S.single (S.item_at l a i)) v n k (ha, hi, h) hk = begin_exp_in R block a n false _ ha no_test (hi, (h, hk))
  begin_store_in (S.several l f ts) v n k (h, hs) hk = ((h, no_test), hs, hk, way_base_in R k hk)
  begin_store_in (S.starred l t) v n k h hk = begin_store_in t v n k h hk

  pub begin_stores_in : (st : Stores V) (n : ℕ) (k : Way V) (after : Control V)
      → Stores_in (numbers R (way_base k)) st n → Way_in R k → Control_in R after → Control_in R (begin_stores block st n k after)
  begin_stores_in F.no_more n k after h hk ha = ha
  begin_stores_in (F.and_store t v st) n k after (ht, hs) hk ha = begin_store_in t v n _ ht (hs, hk)

  pub begin_assign_in : (v : V) (ts : Tgts) (n : ℕ) (s : Nest V) (after : Control V)
      → Targets_in (numbers R s) ts n → Nest_in R s → Control_in R after → Control_in R (begin_assign block v ts n s after)
  begin_assign_in v S.no_targets n s after h hs ha = ha
  begin_assign_in v (S.more_targets t S.no_targets) n s after h hs ha = begin_store_in t v n _ h.0 hs
  begin_assign_in v (S.more_targets t (S.more_targets u ts)) n s after h hs ha = begin_store_in t v n _ h.0 (h.1, hs)

  begin_delete_in : (p : Place) (n : ℕ) (k : Way V) → Delete_in (numbers R (way_base k)) p n → Way_in R k → Control_in R (begin_place block p n (F.deleting k))
  begin_delete_in (S.name_at l x) n k h hk = at_name_in (F.deleting k) x l n (h, hk)
  begin_delete_in (S.attribute_at l a x) n k (ha, h) hk = begin_exp_in R block a n false _ ha no_test (h, hk)
  begin_delete_in (S.item_at l a i) n k (ha, hi, h) hk = begin_exp_in R block a n false _ ha no_test (hi, (h, hk))

  pub begin_deletes_in : (ps : List Place) (n : ℕ) (s : Nest V) (after : Control V)
      → Deletes_in (numbers R s) ps n → Nest_in R s → Control_in R after → Control_in R (begin_deletes block ps n s after)
  begin_deletes_in [] n s after h hs ha = ha
  begin_deletes_in (p ∷ ps) n s after (h, hp) hs ha = begin_delete_in p n _ h (hp, hs)

  begin_change_in : (l : ℕ) (p : Place) (n : ℕ) (o : BinOp) (e : Exp) (s : Nest V)
      → Augmented_in (numbers R s) l p e n → Nest_in R s → Control_in R (begin_place block p n (F.changing_by l o e s))
  begin_change_in l (S.name_at k x) n o e s (h, he) hs = at_name_in (F.changing_by l o e s) x k n (h, he, hs)
  begin_change_in l (S.attribute_at k a x) n o e s (ha, h, he) hs = begin_exp_in R block a n false _ ha no_test (h, he, hs)
  begin_change_in l (S.item_at k a i) n o e s (ha, hi, h, he) hs = begin_exp_in R block a n false _ ha no_test (hi, (h, he, hs))

  pub begin_imports_in : (l n : ℕ) (xs : List Alias) (s : Nest V) (after : Control V)
      → Imports_in (numbers R s) K.Import l xs n → Nest_in R s → Control_in R after → Control_in R (begin_imports block l n xs s after)
  begin_imports_in l n [] s after h hs ha = ha
  begin_imports_in l n (x ∷ xs) s after (h, hx, hr) hs ha = ((h, no_test), (hx, hr, hs))

  pub begin_imports_from_in : (l n : ℕ) (xs : List Alias) (m : V) (s : Nest V) (after : Control V)
      → Imports_in (numbers R s) K.ImportName l xs n → Nest_in R s → Control_in R after → Control_in R (begin_imports_from block l n xs m s after)
  begin_imports_from_in l n [] m s after h hs ha = ha
  begin_imports_from_in l n (x ∷ xs) m s after (h, hx, hr) hs ha = ((h, no_test), (hx, hr, hs))

  pub begin_definition_in : (l n : ℕ) (x : Name) (what : Definition) (calls : List (Decorating V)) (s : Nest V)
      → Definition_in (numbers R s) l what n (lines calls) → Nest_in R s → Control_in R (begin_definition block l n x what calls s)
  begin_definition_in l n x (F.a_function b ps) calls s (hp, hc) hs = begin_function_in R block b ps l n _ hp (hc, hs)
  begin_definition_in l n x (F.a_class b S.absent) calls s (h, hc) hs = begin_operation_in R block (block.captured b) l n false _ _ _ h no_test (hc, hs)
  begin_definition_in l n x (F.a_class b (S.given e)) calls s (he, (h, hc)) hs = begin_exp_in R block e n false _ he no_test (h, (hc, hs))

  pub begin_test_in : (l n : ℕ) (g : Bool) (c : Exp) (body els : Stms) (s : Nest V)
      → While_in R l n c body els (shape s) → Nest_in R s → Control_in R (begin_test block l n g c body els s)
  begin_test_in l n g c body els s (hc, a, h, hb, he) hs =
      begin_exp_in R block c n g _ hc (λ t. a) (h, (hb, ((hc, a, h, hb, he), hs)), (he, hs))

  pub begin_next_in : (l n : ℕ) (g : Bool) (i : V) (t : Tgt) (body els : Stms) (s : Nest V)
      → For_in R l n t body els (shape s) → Nest_in R s → Control_in R (begin_next block l n g i t body els s)
  begin_next_in l n g i t body els s (h, a, ht, hb, he) hs = ((h, λ j. a), ht, (hb, ((h, a, ht, hb, he), hs)), (he, hs))

  mutual
    begin_stm_in : (st : Stm) (n : ℕ) (s : Nest V) (after : Control V)
        → Stm_in R st n (shape s) → Nest_in R s → Control_in R after → Control_in R (begin_stm block st n s after)
    begin_stm_in (S.expr l e) n s after (he, h) hs ha = begin_exp_in R block e n false _ he no_test (h, hs)
    begin_stm_in (S.assign l ts e) n s after (he, ht) hs ha = begin_exp_in R block e n false _ he no_test (ht, hs)
    begin_stm_in (S.augmented l p o e) n s after h hs ha = begin_change_in l p n o e s h hs
    begin_stm_in (S.annotated l p a S.absent) n s after h hs ha = ((h, no_test), hs, hs)
    begin_stm_in (S.annotated l p a (S.given e)) n s after (he, hp) hs ha = begin_exp_in R block e n false _ he no_test ((hp, tt), hs)
    begin_stm_in (S.assert l c m) n s after (hc, h, hm) hs ha = begin_exp_in R block c n false _ hc no_test (h, hs, (hm, hs))
    begin_stm_in (S.pass l) n s after h hs ha = ((h, no_test), hs, hs)
    begin_stm_in (S.del l ts) n s after h hs ha = begin_deletes_in (all_places ts) n s after h hs ha
    begin_stm_in (S.return l S.absent) n s after h hs ha = ((h, no_test), hs)
    begin_stm_in (S.return l (S.given e)) n s after (he, h) hs ha = begin_exp_in R block e n false _ he no_test (h, hs)
    begin_stm_in (S.raise l e c) n s after (he, h) hs ha = begin_exp_in R block e n false _ he no_test (h, hs)
    begin_stm_in (S.raise_again l) n s after h hs ha = ((h, no_test), hs)
    begin_stm_in (S.break l) n s after h hs ha = ((h, no_test), hs)
    begin_stm_in (S.continue l) n s after h hs ha = ((h, no_test), hs)
    begin_stm_in (S.import l xs) n s after h hs ha = begin_imports_in l n xs s after h hs ha
    begin_stm_in (S.import_from l m xs) n s after (h, hx) hs ha = ((h, no_test), (hx, hs))
    begin_stm_in (S.global l xs) n s after h hs ha = ha
    begin_stm_in (S.nonlocal l xs) n s after h hs ha = ha
    begin_stm_in (S.choice l S.no_branches els) n s after h hs ha = begin_all_in els n s after h hs ha
    begin_stm_in (S.choice l (S.branch k c body r) els) n s after (hc, h, hb, hr) hs ha =
        begin_exp_in R block c n false _ hc no_test (h, (hb, hs), (hr, hs))
    begin_stm_in (S.while l c body els) n s after h hs ha = begin_test_in l n false c body els s h hs
    begin_stm_in (S.for l t it body els) n s after (hi, h₁, h₂, a, ht, hb, he) hs ha =
        begin_exp_in R block it n false _ hi no_test (h₁, ((h₂, a, ht, hb, he), hs))
    begin_stm_in (S.try l body hds els fin) n s after (h, hb, hh, he, hf) hs ha = ((h, no_test), (hb, ((hh, he), (hf, hs))), hs)
    begin_stm_in (S.with l S.no_items body) n s after h hs ha = begin_all_in body n s after h hs ha
    begin_stm_in (S.with l (S.with_item k e t r) body) n s after (he, h, ht) hs ha = begin_exp_in R block e n false _ he no_test (h, ht, hs)
    begin_stm_in (S.def l S.no_decorators k b x ps a body) n s after h hs ha = begin_definition_in k n x (F.a_function b ps) [] s h hs
    begin_stm_in (S.def l (S.decorator j e r) k b x ps a body) n s after (he, hr) hs ha = begin_exp_in R block e n false _ he no_test (hr, hs)
    begin_stm_in (S.class l S.no_decorators k b x base body) n s after h hs ha = begin_definition_in k n x (F.a_class b base) [] s h hs
    begin_stm_in (S.class l (S.decorator j e r) k b x base body) n s after (he, hr) hs ha = begin_exp_in R block e n false _ he no_test (hr, hs)
    begin_stm_in (S.docstring l) n s after h hs ha = ha

    pub begin_all_in : (ss : Stms) (n : ℕ) (s : Nest V) (after : Control V)
        → Stms_in R ss n (shape s) → Nest_in R s → Control_in R after → Control_in R (begin_all block ss n s after)
    begin_all_in none n s after h hs ha = ha
    begin_all_in (more st ss) n s after (h, hr) hs ha =
        begin_stm_in st n _ _ h (hr, hs) (begin_all_in ss (n + stm_size st) s after hr hs ha)

  pub begin_branches_in : (bs : Branches) (els : Stms) (n : ℕ) (s : Nest V) (after : Control V)
      → Branches_in R bs n (shape s) (λ m. Stms_in R els m (shape s)) → Nest_in R s → Control_in R after → Control_in R (begin_branches block bs els n s after)
  begin_branches_in S.no_branches els n s after h hs ha = begin_all_in els n s after h hs ha
  begin_branches_in (S.branch k c body r) els n s after (hc, h, hb, hr) hs ha =
      begin_exp_in R block c n false _ hc no_test (h, (hb, hs), (hr, hs))

  pub begin_items_in : (is : Items) (body : Stms) (n : ℕ) (s : Nest V) (after : Control V)
      → Items_in R is (stms_size body) (λ m u. Stms_in R body m u) n (shape s) → Nest_in R s
      → Control_in R after → Control_in R (begin_items block is body n s after)
  begin_items_in S.no_items body n s after h hs ha = begin_all_in body n s after h hs ha
  begin_items_in (S.with_item k e t r) body n s after (he, h, ht) hs ha = begin_exp_in R block e n false _ he no_test (h, ht, hs)

  -- a handler's way, and the handlers behind it
  handler_in : (l n : ℕ) (x : Option Name) (body : Stms) (r : Handlers) (k : ℕ) (e : V) (s : Nest V)
      → Name_in R l x n (shape s) (λ o u. Stms_in R body o u × Handlers_in R k r (o + stms_size body) (shape s)) → Nest_in R s
      → Way_in R (handler_way block l n x body e s) × Way_in R (F.tests k (handler_body n x + stms_size body) r e s)
  handler_in l n None body r k e s (hb, hr) hs = ((hb, (tt, hs)), (hr, hs))
  handler_in l n (Some x) body r k e s (h, (hb, hr)) hs = ((h, (hb, (tt, (tt, hs))), (tt, hs)), (hr, hs))

  pub begin_tests_in : (k : ℕ) (hds : Handlers) (n : ℕ) (e : V) (s : Nest V) (after : Control V)
      → Handlers_in R k hds n (shape s) → Nest_in R s → Control_in R after → Control_in R (begin_tests block k hds n e s after)
  begin_tests_in k S.no_handlers n e s after h hs ha = ha
  begin_tests_in k (S.handler l S.absent x body r) n e s after (h, hx) hs ha =
      let ways = handler_in l n x body r k e s hx hs in ((h, no_test), ways.0, ways.1, (tt, hs))
  begin_tests_in k (S.handler l (S.given c) x body r) n e s after (hc, (h, hx)) hs ha =
      let ways = handler_in l (n + size c) x body r k e s hx hs in begin_exp_in R block c n false _ hc no_test (h, ways.0, ways.1)
