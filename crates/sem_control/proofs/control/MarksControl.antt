-- Where the acts of what waits stand, each reply goes on with marked acts.
use Rattle.std.proofs.Common.{ℕ, ◌+◌, List, [], ◌∷◌, ◌++◌, Bool, true, false, Option, Some, None, subst, map}
use Rattle.pt_tree.specs.declared.act.ActKind.TheVariants as K
use Rattle.pt_tree.specs.Syntax as S
use Rattle.pt_tree.specs.Syntax.{Exp, Clauses, Tgt, Tgts, Items, Stms}
use Rattle.pt_tree.specs.Sizes.{items_size, stms_size}
use Rattle.sem_control.specs.control.Turn.{Mark, Variable, Around, Row, Delegated, returned, resumed, Reply, got, raised}
use Rattle.sem_control.specs.control.Frames as F
use Rattle.sem_control.specs.control.Frames.{Abrupt, raise, normal, by, Nest, no_more, Address, Way, Wait, Over, Rounds, Control}
use Rattle.sem_control.specs.control.Bases.{base, way_base, over_base, rounds_base, around, rounds_line}
use Rattle.sem_control.specs.control.Expressions.{target_names, clause_names}
use Rattle.sem_control.specs.control.Statements.{at_place, each_gets, count}
use Rattle.sem_control.specs.control.Control.{make_anew, deliver, next_round, take_iter, go, after_value, after_deed, after_leave, after_throw, after_truth, after_iter, after_item, after_entry, after_unpack, after_delegate, turn}
use Rattle.sem_control.specs.control.Jump.{Shape, shape}
use Rattle.sem_control.specs.control.Reached.{Leads}
use Rattle.sem_control.proofs.control.MarksTree.{Numbering, Target_in, Targets_in}
use Rattle.sem_control.proofs.control.MarksFrames.{store_kind, Round_in, Last_in, Nest_in, numbers, Way_in, Wait_in, Over_in, Rounds_in, Entry_in, Control_in, Marked}
use Rattle.sem_control.proofs.control.MarksBases.{base_in, way_base_in, over_base_in, rounds_base_in}
use Rattle.sem_control.proofs.control.MarksExpressions.{no_test, begin_operation_in, begin_exp_in, next_operand_in, begin_spec_in, begin_clauses_in, take_item_in}
use Rattle.sem_control.proofs.control.MarksStatements.{at_attribute_in, at_item_in, each_gets_in, begin_store_in, begin_assign_in, begin_stores_in, begin_deletes_in, begin_imports_in, begin_imports_from_in, begin_definition_in, begin_next_in, begin_all_in, begin_branches_in, begin_items_in, begin_tests_in}
use Rattle.sem_control.proofs.control.MarksCompletions.{complete_in, let_go_in}

module _ (R : Shape → Numbering) {V : Type 0} where
  make_anew_in : (xs : List Variable) (l n : ℕ) (i : V) (t : Tgt) (cs : Clauses) (r : Rounds V)
      → Round_in (numbers R (rounds_base r)) (rounds_line r) l n t cs (λ m. Last_in (numbers R (rounds_base r)) r m)
      → Rounds_in R r → Control_in R (make_anew xs l n i t cs r)
  make_anew_in [] l n i t cs r h hr = ((h.0, no_test), h.1, (h.2, (h, hr)), hr)
  make_anew_in (x ∷ xs) l n i t cs r h hr = ((h, hr), rounds_base_in R r hr)

module _ (R : Shape → Numbering) {V : Type 0} (block : Around V) where
  store_back_in : (to : Address V) (v : V) (l n : ℕ) (s : Nest V)
      → (numbers R s).is (store_kind to) l n → Nest_in R s → Control_in R (at_place block (F.storing v (F.finished s)) to l n)
  store_back_in (F.a_name x) v l n s h hs = ((h, no_test), hs, hs)
  store_back_in (F.an_attribute a x) v l n s h hs = ((h, no_test), hs, hs)
  store_back_in (F.an_item a i) v l n s h hs = ((h, no_test), hs, hs)

  mutual
    deliver_in : (v : V) (w : Wait V) → Wait_in R w → Control_in R (deliver block v w)
    deliver_in v (F.operands l n op before behind w) (h, hw) = next_operand_in R block behind l n op (v ∷ before) w h hw
    deliver_in v (F.celled l n g op before behind w) (h, a, hw) = begin_operation_in R block behind l n g op (v ∷ before) w h a hw
    deliver_in v (F.yielded l n w) (h, hw) = ((h, no_test), hw)
    deliver_in v (F.formatted l n c sp w) (h, hw) = begin_spec_in R block sp l n c v w h hw
    deliver_in v (F.comparing l n o b r w) (hb, h, hr, hw) = begin_exp_in R block b n false _ hb no_test (h, hr, hw)
    deliver_in v (F.compared l n a o S.no_links w) (h, hr, hw) = ((h, no_test), hw)
    deliver_in v (F.compared l n a o (S.link p b r) w) (h, (hd, hb, hc, hr), hw) = ((h, no_test), (hd, hb, hc, hr, hw))
    deliver_in v (F.linked l n a o b r w) (h, hb, hc, hr, hw) = ((h, no_test), (hb, hc, hr, hw), hw, base_in R w hw)
    deliver_in v (F.anded l n S.no_exps w) (h, hw) = deliver_in v w hw
    deliver_in v (F.anded l n (S.more_exps e es) w) ((h, he, hs), hw) = ((h, no_test), (he, (hs, hw)), hw, base_in R w hw)
    deliver_in v (F.ored l n S.no_exps w) (h, hw) = deliver_in v w hw
    deliver_in v (F.ored l n (S.more_exps e es) w) ((h, he, hs), hw) = ((h, no_test), hw, (he, (hs, hw)), base_in R w hw)
    deliver_in v (F.asked l n t f) (h, ht, hf) = ((h, no_test), ht, hf, way_base_in R f hf)
    deliver_in v (F.iterated l n o) (h, ho) = ((h, no_test), ho)
    deliver_in v (F.built_in l n k i t cs m w) (h, hw) =
        make_anew_in R (map (block.variable (n ∷ around w)) (target_names t ++ clause_names cs)) k n i t cs (F.collecting l n m v w) h hw
    deliver_in v (F.added_to_list l n made r) (h, hr) = ((h, no_test), hr, rounds_base_in R r hr)
    deliver_in v (F.added_to_set l n made r) (h, hr) = ((h, no_test), hr, rounds_base_in R r hr)
    deliver_in v (F.keyed l n e made r) (he, h, hr) = begin_exp_in R block e n false _ he no_test (h, hr)
    deliver_in v (F.added_to_dict l n k made r) (h, hr) = ((h, no_test), hr, rounds_base_in R r hr)
    deliver_in v (F.item_yielded l n r) (h, hd, hr) = ((h, no_test), (hd, hr))
    deliver_in v (F.item_sent l n r) (h, hr) = ((h, no_test), hr, rounds_base_in R r hr)
    deliver_in v (F.dropped l n s) (h, hs) = ((h, no_test), hs, hs)
    deliver_in v (F.assigned n ts s) (h, hs) = begin_assign_in R block v ts n s _ h hs (complete_in R block normal s hs)
    deliver_in a (F.of_attribute l n x p) h = at_attribute_in R block p a x l n h
    deliver_in a (F.of_item l n i p) (hi, h) = begin_exp_in R block i n false _ hi no_test h
    deliver_in i (F.at_item l n a p) h = at_item_in R block p a i l n h
    deliver_in v (F.changing l n k to o e s) ((he, h, ht), hs) = begin_exp_in R block e n false _ he no_test (h, ht, hs)
    deliver_in u (F.changed_by l n k to v o s) (h, ht, hs) = ((h, no_test), (ht, hs))
    deliver_in v (F.change_stored n k to s) (h, hs) = store_back_in to v k n s h hs
    deliver_in v (F.returned_by l n s) (h, hs) = ((h, no_test), hs)
    deliver_in v (F.thrown l n S.absent s) (h, hs) = ((h, no_test), hs)
    deliver_in v (F.thrown l n (S.given c) s) ((hc, h), hs) = begin_exp_in R block c n false _ hc no_test (h, hs)
    deliver_in c (F.caused l n v s) (h, hs) = ((h, no_test), hs)
    deliver_in v (F.message_of l n s) (h, hs) = ((h, no_test), hs)
    deliver_in m (F.imported l n x xs s) (h, hx, hs) = ((h, no_test), (hx, hs), hs)
    deliver_in m (F.imported_origin l n xs s) (h, hs) = begin_imports_from_in R block l n xs m s _ h hs (complete_in R block normal s hs)
    deliver_in v (F.imported_name l n x xs m s) (h, hx, hs) = ((h, no_test), (hx, hs), hs)
    deliver_in c (F.matched l k n e t f) (h, ht, hf) = ((h, no_test), ht, hf, (tt, way_base_in R f hf))
    deliver_in v (F.entered l n t is body s) (h, he, hs) = ((h, no_test), he, hs)
    deliver_in v (F.decorated k n before S.no_decorators l x what s) (h, hs) = begin_definition_in R block l n x what _ s h hs
    deliver_in v (F.decorated k n before (S.decorator j e r) l x what s) ((he, h), hs) = begin_exp_in R block e n false _ he no_test (h, hs)
    deliver_in v (F.defined l n x [] s) (h, hs) = ((h, no_test), hs, hs)
    deliver_in v (F.defined l n x (c ∷ cs) s) ((h, hc), hs) = ((h, no_test), (hc, hs))

    next_round_in : (r : Rounds V) → Rounds_in R r → Control_in R (next_round block r)
    next_round_in (F.collecting l n m v w) h = deliver_in v w h
    next_round_in (F.generating l e s) h = complete_in R block normal s h
    next_round_in (F.round_of l n i t cs r) (h, hr) = take_item_in R block l n i t cs r h hr

  take_iter_in : (i : V) (o : Over V) → Over_in R o → Control_in R (take_iter block i o)
  take_iter_in i (F.for_over l n t body els s) (h, hs) = begin_next_in R block l n false i t body els s h hs
  take_iter_in i (F.comprehension_over l n k t cs (S.a_list e) w) (h, hr, hw) = ((h, no_test), (hr, hw))
  take_iter_in i (F.comprehension_over l n k t cs (S.a_set e) w) (h, hr, hw) = ((h, no_test), (hr, hw))
  take_iter_in i (F.comprehension_over l n k t cs (S.a_dict j e) w) (h, hr, hw) = ((h, no_test), (hr, hw))
  take_iter_in i (F.generator_over l n b w) (h, hw) = begin_operation_in R block (block.captured b) l n false _ _ w h no_test hw
  take_iter_in i (F.clause_over l n t cs r) (h, hr) = take_item_in R block l n i t cs r h hr
  take_iter_in i (F.delegated_over l n w) (h, hw) = ((h, no_test), hw)

  pub go_in : (k : Way V) → Way_in R k → Control_in R (go block k)
  go_in (F.finished s) h = complete_in R block normal s h
  go_in (F.stms n ss s) (h, hs) = begin_all_in R block ss n s _ h hs (complete_in R block normal s hs)
  go_in (F.branches n bs els s) (h, hs) = begin_branches_in R block bs els n s _ h hs (complete_in R block normal s hs)
  go_in (F.value n e w) (he, hw) = begin_exp_in R block e n false w he no_test hw
  go_in (F.given v w) h = deliver_in v w h
  go_in (F.linked_on l n v o b r w) (hb, h, hr, hw) = begin_exp_in R block b n false _ hb no_test (h, hr, hw)
  go_in (F.lets_go c s) h = let_go_in R block c s h
  go_in (F.raises v s) h = complete_in R block (by (raise v)) s h
  go_in (F.unbinds x c s) h = (h, h)
  go_in (F.made_anew xs l n i t cs r) (h, hr) = make_anew_in R xs l n i t cs r h hr
  go_in (F.assigns n v ts s) (h, hs) = begin_assign_in R block v ts n s _ h hs (complete_in R block normal s hs)
  go_in (F.tests k n hds e s) (h, hs) = begin_tests_in R block k hds n e s _ h hs (let_go_in R block (by (raise e)) s hs)
  go_in (F.binding l n x v k s) (h, hk, hs) = ((h, no_test), hk, hs)
  go_in (F.stores n st k) (h, hk) = begin_stores_in R block st n k _ h hk (go_in k hk)
  go_in (F.deletes n ps s) (h, hs) = begin_deletes_in R block ps n s _ h hs (complete_in R block normal s hs)
  go_in (F.imports l n xs s) (h, hs) = begin_imports_in R block l n xs s _ h hs (complete_in R block normal s hs)
  go_in (F.imports_from l n xs m s) (h, hs) = begin_imports_from_in R block l n xs m s _ h hs (complete_in R block normal s hs)
  go_in (F.within_items n is body s) (h, hs) = begin_items_in R block is body n s _ h hs (complete_in R block normal s hs)
  go_in (F.failed l n S.absent s) (h, hs) = ((h, no_test), hs)
  go_in (F.failed l n (S.given m) s) ((hm, h), hs) = begin_exp_in R block m n false _ hm no_test (h, hs)
  go_in (F.round r) h = next_round_in r h
  go_in (F.clauses n cs r) (h, hr) = begin_clauses_in R block cs n r h hr

  after_value_in : (w : Wait V) (r : Reply V V) → Wait_in R w → Control_in R (after_value block w r)
  after_value_in w (got v) h = deliver_in v w h
  after_value_in w (raised v) h = complete_in R block (by (raise v)) (base w) (base_in R w h)

  after_deed_in : (k : Way V) (s : Nest V) (r : Reply V (Unit {0})) → Way_in R k → Nest_in R s → Control_in R (after_deed block k s r)
  after_deed_in k s (got t) hk hs = go_in k hk
  after_deed_in k s (raised v) hk hs = complete_in R block (by (raise v)) s hs

  after_leave_in : (a : Abrupt V) (s : Nest V) (r : Reply V (Unit {0})) → Nest_in R s → Control_in R (after_leave block a s r)
  after_leave_in a s (got t) hs = complete_in R block (by a) s hs
  after_leave_in a s (raised v) hs = complete_in R block (by (raise v)) s hs

  after_throw_in : (s : Nest V) (r : Reply V ⊥) → Nest_in R s → Control_in R (after_throw block s r)
  after_throw_in s (got x) hs = absurd x
  after_throw_in s (raised v) hs = complete_in R block (by (raise v)) s hs

  after_truth_in : (t f : Way V) (s : Nest V) (r : Reply V Bool) → Way_in R t → Way_in R f → Nest_in R s → Control_in R (after_truth block t f s r)
  after_truth_in t f s (got true) ht hf hs = go_in t ht
  after_truth_in t f s (got false) ht hf hs = go_in f hf
  after_truth_in t f s (raised v) ht hf hs = complete_in R block (by (raise v)) s hs

  after_iter_in : (o : Over V) (r : Reply V V) → Over_in R o → Control_in R (after_iter block o r)
  after_iter_in o (got i) h = take_iter_in i o h
  after_iter_in o (raised v) h = complete_in R block (by (raise v)) (over_base o) (over_base_in R o h)

  after_item_in : (n : ℕ) (t : Tgt) (k f : Way V) (r : Reply V (Option V))
      → Target_in (numbers R (way_base k)) t n → Way_in R k → Way_in R f → Control_in R (after_item block n t k f r)
  after_item_in n t k f (got (Some v)) ht hk hf = begin_store_in R block t v n _ ht (tt, hk)
  after_item_in n t k f (got None) ht hk hf = go_in f hf
  after_item_in n t k f (raised v) ht hk hf = complete_in R block (by (raise v)) (way_base k) (way_base_in R k hk)

  after_entry_in : (l n : ℕ) (t : Option Tgt) (is : Items) (body : Stms) (s : Nest V) (r : Reply V (V × V))
      → Entry_in R l n t is body (shape s) → Nest_in R s → Control_in R (after_entry block l n t is body s r)
  after_entry_in l n None is body s (got (w, v)) (hi, h) hs =
      begin_items_in R block is body n (F.withing l (n + items_size is (stms_size body)) w ∷ s) _ hi (h, hs)
      (complete_in R block normal (F.withing l (n + items_size is (stms_size body)) w ∷ s) (h, hs))
  after_entry_in l n (Some t) is body s (got (w, v)) (ht, (hi, h)) hs = begin_store_in R block t v n _ ht (hi, (h, hs))
  after_entry_in l n None is body s (raised v) h hs = complete_in R block (by (raise v)) s hs
  after_entry_in l n (Some t) is body s (raised v) h hs = complete_in R block (by (raise v)) s hs

  after_unpack_in : (n : ℕ) (ts : Tgts) (k : Way V) (s : Nest V) (r : Reply V (Row V (count ts)))
      → Targets_in (numbers R (way_base k)) ts n → Way_in R k → Nest_in R s → Control_in R (after_unpack block n ts k s r)
  after_unpack_in n ts k s (got vs) h hk hs =
      begin_stores_in R block (each_gets ts vs) n k _ (each_gets_in (numbers R (way_base k)) V ts vs n h) hk (go_in k hk)
  after_unpack_in n ts k s (raised v) h hk hs = complete_in R block (by (raise v)) s hs

  after_delegate_in : (m : Mark) (i : V) (w : Wait V) (r : Reply V (Delegated V))
      → Marked (numbers R (base w)) m K.Delegate → Wait_in R w → Control_in R (after_delegate block m i w r)
  after_delegate_in m i w (got (returned v)) hm hw = deliver_in v w hw
  after_delegate_in m i w (got (resumed r)) hm hw = (hm, hw)
  after_delegate_in m i w (raised v) hm hw = complete_in R block (by (raise v)) (base w) (base_in R w hw)

  -- by a turn
  pub turn_in : (c d : Control V) → Control_in R c → Leads (turn block c) d → Control_in R d
  turn_in (F.for_value m a w) d (hm, hw) (r, e) = subst (λ u. Control_in R u) e (after_value_in w r hw)
  turn_in (F.for_deed m a k s) d (hm, hk, hs) (r, e) = subst (λ u. Control_in R u) e (after_deed_in k s r hk hs)
  turn_in (F.for_leave m a s) d (hm, hs) (r, e) = subst (λ u. Control_in R u) e (after_leave_in a s r hs)
  turn_in (F.for_throw m a s) d (hm, hs) (r, e) = subst (λ u. Control_in R u) e (after_throw_in s r hs)
  turn_in (F.for_truth m a t f s) d (hm, ht, hf, hs) (r, e) = subst (λ u. Control_in R u) e (after_truth_in t f s r ht hf hs)
  turn_in (F.for_iter m v o) d (hm, ho) (r, e) = subst (λ u. Control_in R u) e (after_iter_in o r ho)
  turn_in (F.for_item m i n t k f) d (hm, ht, hk, hf) (r, e) = subst (λ u. Control_in R u) e (after_item_in n t k f r ht hk hf)
  turn_in (F.for_entry m v l n t is body s) d (hm, h, hs) (r, e) = subst (λ u. Control_in R u) e (after_entry_in l n t is body s r h hs)
  turn_in (F.for_unpack m v n ts k s) d (hm, h, hk, hs) (r, e) = subst (λ u. Control_in R u) e (after_unpack_in n ts k s r h hk hs)
  turn_in (F.for_delegate m i s w) d (hm, hw) (r, e) = subst (λ u. Control_in R u) e (after_delegate_in m i w r hm hw)
  turn_in (F.silent_value a w) d hw (r, e) = subst (λ u. Control_in R u) e (after_value_in w r hw)
  turn_in (F.silent_deed a k s) d (hk, hs) (r, e) = subst (λ u. Control_in R u) e (after_deed_in k s r hk hs)
  turn_in (F.noting a k s) d (hk, hs) (r, e) = subst (λ u. Control_in R u) e (after_deed_in k s r hk hs)
  turn_in (F.closed x) d h e = absurd e
