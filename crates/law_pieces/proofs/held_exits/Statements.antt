-- Targets and statements begin in the loops that they stand in.
use Rattle.std.proofs.Common.{ℕ, ◌+◌, List, [], ◌∷◌, Bool, false, Option, Some, None}
use Rattle.pt_tree.specs.declared.statement.Alias.{Alias}
use Rattle.pt_tree.specs.Syntax as S
use Rattle.pt_tree.specs.Syntax.{Name, Exp, Opt, Place, Tgt, Tgts, Items, Stm, Stms, Branches, Handlers, none, more}
use Rattle.pt_tree.specs.Sizes.{size, stm_size}
use Rattle.sem_control.specs.control.Turn.{Around}
use Rattle.sem_control.specs.control.Frames as F
use Rattle.sem_control.specs.control.Frames.{Nest, Way, Purpose, Address, Stores, Definition, Decorating, Control}
use Rattle.sem_control.specs.control.Numbers.{tested_body, behind_body, for_body, for_else, handler_body}
use Rattle.sem_control.specs.control.Statements.{all_places, at_place, begin_place, begin_store, begin_stores, begin_assign, begin_deletes, begin_imports, begin_imports_from, begin_definition, begin_test, begin_next, begin_stm, begin_all, begin_branches, begin_items, begin_tests, handler_way}
use Rattle.sem_control.specs.control.Jump.{body_at, behind_branches}
use Rattle.law_pieces.specs.held_exits.Bodies.{Body, body_of}
use Rattle.law_pieces.proofs.held_exits.Fits.{Stm_fits, Stms_fit, Branches_fit, Handlers_fit, Loop_fits, Nest_fits, Way_fits, Purpose_fits, Control_fits}
use Rattle.law_pieces.proofs.held_exits.Bases.{way_base_fits}
use Rattle.law_pieces.proofs.held_exits.Expressions.{begin_operation_fits, begin_exp_fits, begin_function_fits}

module _ (bodies : ℕ → Option Body) {V : Type 0} (block : Around V) where
  pub at_place_fits : (p : Purpose V) (to : Address V) (l n : ℕ) → Purpose_fits bodies p → Control_fits bodies (at_place block p to l n)
  at_place_fits (F.storing v k) (F.a_name x) l n h = (h, way_base_fits bodies k h)
  at_place_fits (F.storing v k) (F.an_attribute a x) l n h = (h, way_base_fits bodies k h)
  at_place_fits (F.storing v k) (F.an_item a i) l n h = (h, way_base_fits bodies k h)
  at_place_fits (F.deleting k) (F.a_name x) l n h = (h, way_base_fits bodies k h)
  at_place_fits (F.deleting k) (F.an_attribute a x) l n h = (h, way_base_fits bodies k h)
  at_place_fits (F.deleting k) (F.an_item a i) l n h = (h, way_base_fits bodies k h)
  at_place_fits (F.changing_by j o e s) (F.a_name x) l n h = h
  at_place_fits (F.changing_by j o e s) (F.an_attribute a x) l n h = h
  at_place_fits (F.changing_by j o e s) (F.an_item a i) l n h = h

  begin_place_fits : (p : Place) (n : ℕ) (q : Purpose V) → Purpose_fits bodies q → Control_fits bodies (begin_place block p n q)
  begin_place_fits (S.name_at l x) n q h = at_place_fits q (F.a_name x) l n h
  begin_place_fits (S.attribute_at l a x) n q h = begin_exp_fits bodies block a n false _ h
  begin_place_fits (S.item_at l a i) n q h = begin_exp_fits bodies block a n false _ h

  pub begin_store_fits : (t : Tgt) (v : V) (n : ℕ) (k : Way V) → Way_fits bodies k → Control_fits bodies (begin_store block t v n k)
  begin_store_fits (S.single p) v n k h = begin_place_fits p n (F.storing v k) h
  begin_store_fits (S.several l f ts) v n k h = (h, way_base_fits bodies k h)
  begin_store_fits (S.starred l t) v n k h = begin_store_fits t v n k h

  pub begin_stores_fit : (st : Stores V) (n : ℕ) (k : Way V) (after : Control V) → Way_fits bodies k → Control_fits bodies after
      → Control_fits bodies (begin_stores block st n k after)
  begin_stores_fit F.no_more n k after h a = a
  begin_stores_fit (F.and_store t v st) n k after h a = begin_store_fits t v n _ h

  pub begin_assign_fits : (v : V) (ts : Tgts) (n : ℕ) (s : Nest V) (after : Control V) → Nest_fits bodies s → Control_fits bodies after
      → Control_fits bodies (begin_assign block v ts n s after)
  begin_assign_fits v S.no_targets n s after h a = a
  begin_assign_fits v (S.more_targets t S.no_targets) n s after h a = begin_store_fits t v n _ h
  begin_assign_fits v (S.more_targets t (S.more_targets u ts)) n s after h a = begin_store_fits t v n _ h

  pub begin_deletes_fit : (ps : List Place) (n : ℕ) (s : Nest V) (after : Control V) → Nest_fits bodies s → Control_fits bodies after
      → Control_fits bodies (begin_deletes block ps n s after)
  begin_deletes_fit [] n s after h a = a
  begin_deletes_fit (p ∷ ps) n s after h a = begin_place_fits p n _ h

  pub begin_imports_fit : (l n : ℕ) (xs : List Alias) (s : Nest V) (after : Control V) → Nest_fits bodies s → Control_fits bodies after
      → Control_fits bodies (begin_imports block l n xs s after)
  begin_imports_fit l n [] s after h a = a
  begin_imports_fit l n (x ∷ xs) s after h a = h

  pub begin_imports_from_fit : (l n : ℕ) (xs : List Alias) (m : V) (s : Nest V) (after : Control V) → Nest_fits bodies s → Control_fits bodies after
      → Control_fits bodies (begin_imports_from block l n xs m s after)
  begin_imports_from_fit l n [] m s after h a = a
  begin_imports_from_fit l n (x ∷ xs) m s after h a = h

  pub begin_definition_fits : (l n : ℕ) (x : Name) (what : Definition) (calls : List (Decorating V)) (s : Nest V) → Nest_fits bodies s
      → Control_fits bodies (begin_definition block l n x what calls s)
  begin_definition_fits l n x (F.a_function b ps) calls s h = begin_function_fits bodies block b ps l n _ h
  begin_definition_fits l n x (F.a_class b S.absent) calls s h = begin_operation_fits bodies block (block.captured b) l n false _ _ _ h
  begin_definition_fits l n x (F.a_class b (S.given e)) calls s h = begin_exp_fits bodies block e n false _ h

  pub begin_test_fits : (l n : ℕ) (g : Bool) (c : Exp) (body els : Stms) (s : Nest V)
      → Loop_fits bodies (tested_body n c) body (behind_body n c body) els (body_of s) → Nest_fits bodies s → Control_fits bodies (begin_test block l n g c body els s)
  begin_test_fits l n g c body els s (hb, he) hs = begin_exp_fits bodies block c n g _ ((hb, ((hb, he), hs)), (he, hs))

  pub begin_next_fits : (l n : ℕ) (g : Bool) (i : V) (t : Tgt) (body els : Stms) (s : Nest V)
      → Loop_fits bodies (for_body n t) body (for_else n t body) els (body_of s) → Nest_fits bodies s → Control_fits bodies (begin_next block l n g i t body els s)
  begin_next_fits l n g i t body els s (hb, he) hs = ((hb, ((hb, he), hs)), (he, hs))

  mutual
    begin_stm_fits : (st : Stm) (n : ℕ) (s : Nest V) (after : Control V) → Stm_fits bodies st n (body_of s) → Nest_fits bodies s → Control_fits bodies after
        → Control_fits bodies (begin_stm block st n s after)
    begin_stm_fits (S.expr l e) n s after h hs a = begin_exp_fits bodies block e n false _ hs
    begin_stm_fits (S.assign l ts e) n s after h hs a = begin_exp_fits bodies block e n false _ hs
    begin_stm_fits (S.augmented l p o e) n s after h hs a = begin_place_fits p n _ hs
    begin_stm_fits (S.annotated l p b S.absent) n s after h hs a = (hs, hs)
    begin_stm_fits (S.annotated l p b (S.given e)) n s after h hs a = begin_exp_fits bodies block e n false _ hs
    begin_stm_fits (S.assert l c m) n s after h hs a = begin_exp_fits bodies block c n false _ (hs, hs)
    begin_stm_fits (S.pass l) n s after h hs a = (hs, hs)
    begin_stm_fits (S.del l ts) n s after h hs a = begin_deletes_fit (all_places ts) n s after hs a
    begin_stm_fits (S.return l S.absent) n s after h hs a = (tt, hs)
    begin_stm_fits (S.return l (S.given e)) n s after h hs a = begin_exp_fits bodies block e n false _ hs
    begin_stm_fits (S.raise l e c) n s after h hs a = begin_exp_fits bodies block e n false _ hs
    begin_stm_fits (S.raise_again l) n s after h hs a = hs
    begin_stm_fits (S.break l) n s after h hs a = (h, hs)
    begin_stm_fits (S.continue l) n s after h hs a = (h, hs)
    begin_stm_fits (S.import l xs) n s after h hs a = begin_imports_fit l n xs s after hs a
    begin_stm_fits (S.import_from l m xs) n s after h hs a = hs
    begin_stm_fits (S.global l xs) n s after h hs a = a
    begin_stm_fits (S.nonlocal l xs) n s after h hs a = a
    begin_stm_fits (S.choice l S.no_branches els) n s after h hs a = begin_all_fits els n s after h.1 hs a
    begin_stm_fits (S.choice l (S.branch k c body r) els) n s after ((hb, hr), he) hs a = begin_exp_fits bodies block c n false _ ((hb, hs), ((hr, he), hs))
    begin_stm_fits (S.while l c body els) n s after h hs a = begin_test_fits l n false c body els s h hs
    begin_stm_fits (S.for l t it body els) n s after h hs a = begin_exp_fits bodies block it n false _ (h, hs)
    begin_stm_fits (S.try l body hds els fin) n s after (hf, hb, hh, he, hl) hs a = ((hb, ((hh, he), ((hf, hl), hs))), hs)
    begin_stm_fits (S.with l S.no_items body) n s after h hs a = begin_all_fits body n s after h hs a
    begin_stm_fits (S.with l (S.with_item k e None r) body) n s after h hs a = begin_exp_fits bodies block e n false _ (h, hs)
    begin_stm_fits (S.with l (S.with_item k e (Some t) r) body) n s after h hs a = begin_exp_fits bodies block e n false _ (h, hs)
    begin_stm_fits (S.def l S.no_decorators k b x ps r body) n s after h hs a = begin_definition_fits k n x (F.a_function b ps) [] s hs
    begin_stm_fits (S.def l (S.decorator j e ds) k b x ps r body) n s after h hs a = begin_exp_fits bodies block e n false _ hs
    begin_stm_fits (S.class l S.no_decorators k b x base body) n s after h hs a = begin_definition_fits k n x (F.a_class b base) [] s hs
    begin_stm_fits (S.class l (S.decorator j e ds) k b x base body) n s after h hs a = begin_exp_fits bodies block e n false _ hs
    begin_stm_fits (S.docstring l) n s after h hs a = a

    pub begin_all_fits : (ss : Stms) (n : ℕ) (s : Nest V) (after : Control V) → Stms_fit bodies ss n (body_of s) → Nest_fits bodies s → Control_fits bodies after
        → Control_fits bodies (begin_all block ss n s after)
    begin_all_fits none n s after h hs a = a
    begin_all_fits (more st ss) n s after (h, hr) hs a = begin_stm_fits st n _ _ h (hr, hs) (begin_all_fits ss (n + stm_size st) s after hr hs a)

  pub begin_branches_fit : (bs : Branches) (els : Stms) (n : ℕ) (s : Nest V) (after : Control V)
      → Branches_fit bodies bs n (body_of s) × Stms_fit bodies els (behind_branches bs n) (body_of s) → Nest_fits bodies s → Control_fits bodies after
      → Control_fits bodies (begin_branches block bs els n s after)
  begin_branches_fit S.no_branches els n s after h hs a = begin_all_fits els n s after h.1 hs a
  begin_branches_fit (S.branch k c body r) els n s after ((hb, hr), he) hs a = begin_exp_fits bodies block c n false _ ((hb, hs), ((hr, he), hs))

  pub begin_items_fit : (is : Items) (body : Stms) (n : ℕ) (s : Nest V) (after : Control V) → Stms_fit bodies body (body_at is n) (body_of s) → Nest_fits bodies s
      → Control_fits bodies after → Control_fits bodies (begin_items block is body n s after)
  begin_items_fit S.no_items body n s after h hs a = begin_all_fits body n s after h hs a
  begin_items_fit (S.with_item k e None r) body n s after h hs a = begin_exp_fits bodies block e n false _ (h, hs)
  begin_items_fit (S.with_item k e (Some t) r) body n s after h hs a = begin_exp_fits bodies block e n false _ (h, hs)

  handler_fits : (l n : ℕ) (x : Option Name) (body : Stms) (e : V) (s : Nest V) → Stms_fit bodies body (handler_body n x) (body_of s) → Nest_fits bodies s
      → Way_fits bodies (handler_way block l n x body e s)
  handler_fits l n None body e s h hs = (h, (tt, hs))
  handler_fits l n (Some x) body e s h hs = ((h, (tt, (tt, hs))), (tt, hs))

  pub begin_tests_fit : (k : ℕ) (hds : Handlers) (n : ℕ) (e : V) (s : Nest V) (after : Control V) → Handlers_fit bodies hds n (body_of s) → Nest_fits bodies s
      → Control_fits bodies after → Control_fits bodies (begin_tests block k hds n e s after)
  begin_tests_fit k S.no_handlers n e s after h hs a = a
  begin_tests_fit k (S.handler l S.absent x body r) n e s after (hb, hr) hs a = (handler_fits l n x body e s hb hs, (hr, hs), (tt, hs))
  begin_tests_fit k (S.handler l (S.given c) x body r) n e s after (hb, hr) hs a =
      begin_exp_fits bodies block c n false _ (handler_fits l (n + size c) x body e s hb hs, (hr, hs))
