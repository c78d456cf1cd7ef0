-- By each turn control comes to where what is held comes from the loop around.
use Rattle.std.proofs.Common.{ℕ, ◌+◌, List, [], ◌∷◌, ◌++◌, Bool, true, false, Option, Some, None, subst, map}
use Rattle.pt_tree.specs.Syntax as S
use Rattle.pt_tree.specs.Syntax.{Clauses, Tgt, Tgts, Items, Stms, none, more}
use Rattle.pt_tree.specs.Sizes.{items_size, stms_size}
use Rattle.sem_control.specs.control.Turn.{Mark, Variable, Around, Row, Delegated, returned, resumed, Reply, got, raised}
use Rattle.sem_control.specs.control.Frames as F
use Rattle.sem_control.specs.control.Frames.{Abrupt, raise, return, break, continue, Completion, normal, by, Frame, Nest, Way, Wait, Over, Rounds, Control}
use Rattle.sem_control.specs.control.Numbers.{tested_body, behind_body, for_body, for_else}
use Rattle.sem_control.specs.control.Bases.{base, way_base, over_base, around}
use Rattle.sem_control.specs.control.CompletionTable as P
use Rattle.sem_control.specs.control.CompletionTable.{Follows, row, onward}
use Rattle.sem_control.specs.control.Completions.{swallowed, pass_on, follow, complete, let_go}
use Rattle.sem_control.specs.control.Expressions.{target_names, clause_names}
use Rattle.sem_control.specs.control.Statements.{each_gets, count}
use Rattle.sem_control.specs.control.Control.{make_anew, deliver, next_round, take_iter, go, after_value, after_deed, after_leave, after_throw, after_truth, after_iter, after_item, after_entry, after_unpack, after_delegate, turn}
use Rattle.sem_control.specs.control.Reached.{Leads, Reaches, here, then}
use Rattle.law_pieces.specs.held_exits.Bodies.{Body, body_of, ComesFrom}
use Rattle.law_pieces.proofs.held_exits.Fits.{Stms_fit, Handlers_fit, Loop_fits, Entry_fits, Frame_fits, Nest_fits, Way_fits, Wait_fits, Over_fits, Rounds_fit, Control_fits}
use Rattle.law_pieces.proofs.held_exits.Bases.{way_base_fits, base_fits, over_base_fits, rounds_base_fits}
use Rattle.law_pieces.proofs.held_exits.Expressions.{begin_operation_fits, begin_exp_fits, next_operand_fits, begin_spec_fits, begin_clauses_fit, take_item_fits}
use Rattle.law_pieces.proofs.held_exits.Statements.{at_place_fits, begin_store_fits, begin_stores_fit, begin_assign_fits, begin_deletes_fit, begin_imports_fit, begin_imports_from_fit, begin_definition_fits, begin_test_fits, begin_next_fits, begin_all_fits, begin_branches_fit, begin_items_fit, begin_tests_fit}

module _ (bodies : ℕ → Option Body) {V : Type 0} where
  -- what follows a frame stands in its loops
  abbrev Follows_fit : Follows V → Nest V → Type 0
  Follows_fit (P.outwards c) s = Unit {0}
  Follows_fit (P.lets_go c) s = Unit {0}
  Follows_fit (P.begins n ss within c) s = Stms_fit bodies ss n (body_of (within ++ s)) × Nest_fits bodies (within ++ s)
  Follows_fit (P.tests_again l n c body els) s = Loop_fits bodies (tested_body n c) body (behind_body n c body) els (body_of s)
  Follows_fit (P.takes_next l n i t body els) s = Loop_fits bodies (for_body n t) body (for_else n t body) els (body_of s)
  Follows_fit (P.tries n hs v) s = Handlers_fit bodies hs n (body_of s)
  Follows_fit (P.unbinds x c) s = ComesFrom c (body_of s)
  Follows_fit (P.exits l n w c) s = ComesFrom c (body_of s)

  row_fits : (c : Completion V) (f : Frame V) (s : Nest V) → ComesFrom c (body_of (f ∷ s)) → Frame_fits bodies f (body_of s) → Nest_fits bodies s → Follows_fit (row c f) s
  row_fits normal (F.rest n ss) s g h hs = (h, hs)
  row_fits (by a) (F.rest n ss) s g h hs = tt
  row_fits normal (F.looping l n c body els) s g h hs = h
  row_fits (by continue) (F.looping l n c body els) s g h hs = h
  row_fits (by break) (F.looping l n c body els) s g h hs = tt
  row_fits (by (raise v)) (F.looping l n c body els) s g h hs = tt
  row_fits (by (return v)) (F.looping l n c body els) s g h hs = tt
  row_fits normal (F.iterating l n i t body els) s g h hs = h
  row_fits (by continue) (F.iterating l n i t body els) s g h hs = h
  row_fits (by break) (F.iterating l n i t body els) s g h hs = tt
  row_fits (by (raise v)) (F.iterating l n i t body els) s g h hs = tt
  row_fits (by (return v)) (F.iterating l n i t body els) s g h hs = tt
  row_fits normal (F.guarded n hds els) s g h hs = (h.1, hs)
  row_fits (by (raise v)) (F.guarded n S.no_handlers els) s g h hs = tt
  row_fits (by (raise v)) (F.guarded n (S.handler l c x body r) els) s g h hs = h.0
  row_fits (by (return v)) (F.guarded n hds els) s g h hs = tt
  row_fits (by break) (F.guarded n hds els) s g h hs = tt
  row_fits (by continue) (F.guarded n hds els) s g h hs = tt
  row_fits c (F.testing n e) s g h hs = tt
  row_fits c (F.handling n e) s g h hs = tt
  row_fits c (F.naming x) s g h hs = g
  row_fits c (F.ensuring t n none) s g h hs = tt
  row_fits c (F.ensuring t n (more st ss)) s g h hs = (h.1, ((h.0, g), hs))
  row_fits normal (F.ending t held) s g h hs = tt
  row_fits (by a) (F.ending t held) s g h hs = tt
  row_fits c (F.withing l n w) s g h hs = g
  row_fits c (F.exiting n w held) s g h hs = tt

  onward_comes : (c : Completion V) (f : Frame V) (s : Nest V) → ComesFrom c (body_of (f ∷ s)) → Frame_fits bodies f (body_of s) → ComesFrom (onward (row c f)) (body_of s)
  onward_comes normal (F.rest n ss) s g h = tt
  onward_comes (by a) (F.rest n ss) s g h = g
  onward_comes normal (F.looping l n c body els) s g h = tt
  onward_comes (by continue) (F.looping l n c body els) s g h = tt
  onward_comes (by break) (F.looping l n c body els) s g h = tt
  onward_comes (by (raise v)) (F.looping l n c body els) s g h = tt
  onward_comes (by (return v)) (F.looping l n c body els) s g h = tt
  onward_comes normal (F.iterating l n i t body els) s g h = tt
  onward_comes (by continue) (F.iterating l n i t body els) s g h = tt
  onward_comes (by break) (F.iterating l n i t body els) s g h = tt
  onward_comes (by (raise v)) (F.iterating l n i t body els) s g h = tt
  onward_comes (by (return v)) (F.iterating l n i t body els) s g h = tt
  onward_comes normal (F.guarded n hds els) s g h = tt
  onward_comes (by (raise v)) (F.guarded n S.no_handlers els) s g h = tt
  onward_comes (by (raise v)) (F.guarded n (S.handler l c x body r) els) s g h = tt
  onward_comes (by (return v)) (F.guarded n hds els) s g h = tt
  onward_comes (by break) (F.guarded n hds els) s g h = g
  onward_comes (by continue) (F.guarded n hds els) s g h = g
  onward_comes c (F.testing n e) s g h = g
  onward_comes c (F.handling n e) s g h = g
  onward_comes c (F.naming x) s g h = g
  onward_comes c (F.ensuring t n none) s g h = g
  onward_comes c (F.ensuring t n (more st ss)) s g h = g
  onward_comes normal (F.ending t held) s g h = h.1
  onward_comes (by a) (F.ending t held) s g h = g
  onward_comes c (F.withing l n w) s g h = g
  onward_comes c (F.exiting n w held) s g h = g

  swallowed_comes : (c : Completion V) (o : Option Body) → ComesFrom c o → ComesFrom (swallowed c) o
  swallowed_comes normal o h = h
  swallowed_comes (by (raise v)) o h = tt
  swallowed_comes (by (return v)) o h = h
  swallowed_comes (by break) o h = h
  swallowed_comes (by continue) o h = h

  pass_on_fits : (c : Completion V) (s : Nest V) (k : Control V) → Nest_fits bodies s → Control_fits bodies k → Control_fits bodies (pass_on c s k)
  pass_on_fits normal s k hs hk = hk
  pass_on_fits (by (raise v)) s k hs hk = (hs, hs)
  pass_on_fits (by (return v)) s k hs hk = hk
  pass_on_fits (by break) s k hs hk = hk
  pass_on_fits (by continue) s k hs hk = hk

module _ (bodies : ℕ → Option Body) {V : Type 0} (block : Around V) where
  abbrev Nests : Nest V → Type 0
  Nests s = Nest_fits bodies s

  abbrev Ways : Way V → Type 0
  Ways k = Way_fits bodies k

  abbrev Controls : Control V → Type 0
  Controls c = Control_fits bodies c

  follow_fits : (w : Follows V) (s : Nest V) (k : Control V) → Follows_fit bodies w s → Nests s → Controls k → Controls (follow block w s k)
  follow_fits (P.outwards c) s k h hs hk = hk
  follow_fits (P.lets_go c) s k h hs hk = pass_on_fits bodies c s k hs hk
  follow_fits (P.begins n ss within c) s k (h, hw) hs hk = begin_all_fits bodies block ss n (within ++ s) _ h hw (pass_on_fits bodies c s k hs hk)
  follow_fits (P.tests_again l n c body els) s k h hs hk = begin_test_fits bodies block l n true c body els s h hs
  follow_fits (P.takes_next l n i t body els) s k h hs hk = begin_next_fits bodies block l n true i t body els s h hs
  follow_fits (P.tries n hds v) s k h hs hk = begin_tests_fit bodies block n hds n v s _ h hs (pass_on_fits bodies (by (raise v)) s k hs hk)
  follow_fits (P.unbinds x c) s k h hs hk = ((h, hs), hs)
  follow_fits (P.exits l n w c) s k h hs hk = ((swallowed_comes bodies c (body_of s) h, hs), (h, hs), (tt, hs))

  pub complete_fits : (c : Completion V) (s : Nest V) → ComesFrom c (body_of s) → Nests s → Controls (complete block c s)
  complete_fits c [] g h = tt
  complete_fits c (f ∷ s) g (h, hs) =
      follow_fits (row c f) s (complete block (onward (row c f)) s) (row_fits bodies c f s g h hs) hs (complete_fits (onward (row c f)) s (onward_comes bodies c f s g h) hs)

  let_go_fits : (c : Completion V) (s : Nest V) → ComesFrom c (body_of s) → Nests s → Controls (let_go block c s)
  let_go_fits c s g h = pass_on_fits bodies c s _ h (complete_fits c s g h)

  make_anew_fits : (xs : List Variable) (l n : ℕ) (i : V) (t : Tgt) (cs : Clauses) (r : Rounds V) → Rounds_fit bodies r → Controls (make_anew xs l n i t cs r)
  make_anew_fits [] l n i t cs r h = (h, h)
  make_anew_fits (x ∷ xs) l n i t cs r h = (h, rounds_base_fits bodies r h)

  mutual
    deliver_fits : (v : V) (w : Wait V) → Wait_fits bodies w → Controls (deliver block v w)
    deliver_fits v (F.operands l n op before os w) h = next_operand_fits bodies block os l n op (v ∷ before) w h
    deliver_fits v (F.celled l n g op before xs w) h = begin_operation_fits bodies block xs l n g op (v ∷ before) w h
    deliver_fits v (F.yielded l n w) h = h
    deliver_fits v (F.formatted l n c sp w) h = begin_spec_fits bodies block sp l n c v w h
    deliver_fits v (F.comparing l n o b r w) h = begin_exp_fits bodies block b n false _ h
    deliver_fits v (F.compared l n a o S.no_links w) h = h
    deliver_fits v (F.compared l n a o (S.link p b r) w) h = h
    deliver_fits v (F.linked l n a o b r w) h = (h, h, base_fits bodies w h)
    deliver_fits v (F.anded l n S.no_exps w) h = deliver_fits v w h
    deliver_fits v (F.anded l n (S.more_exps e es) w) h = (h, h, base_fits bodies w h)
    deliver_fits v (F.ored l n S.no_exps w) h = deliver_fits v w h
    deliver_fits v (F.ored l n (S.more_exps e es) w) h = (h, h, base_fits bodies w h)
    deliver_fits v (F.asked l n t f) (ht, hf) = (ht, hf, way_base_fits bodies f hf)
    deliver_fits v (F.iterated l n o) h = h
    deliver_fits v (F.built_in l n k i t cs m w) h =
        make_anew_fits (map (block.variable (n ∷ around w)) (target_names t ++ clause_names cs)) k n i t cs (F.collecting l n m v w) h
    deliver_fits v (F.added_to_list l n made r) h = (h, rounds_base_fits bodies r h)
    deliver_fits v (F.added_to_set l n made r) h = (h, rounds_base_fits bodies r h)
    deliver_fits v (F.keyed l n e made r) h = begin_exp_fits bodies block e n false _ h
    deliver_fits v (F.added_to_dict l n k made r) h = (h, rounds_base_fits bodies r h)
    deliver_fits v (F.item_yielded l n r) h = h
    deliver_fits v (F.item_sent l n r) h = (h, rounds_base_fits bodies r h)
    deliver_fits v (F.dropped l n s) h = (h, h)
    deliver_fits v (F.assigned n ts s) h = begin_assign_fits bodies block v ts n s _ h (complete_fits normal s tt h)
    deliver_fits a (F.of_attribute l n x p) h = at_place_fits bodies block p (F.an_attribute a x) l n h
    deliver_fits a (F.of_item l n i p) h = begin_exp_fits bodies block i n false _ h
    deliver_fits i (F.at_item l n a p) h = at_place_fits bodies block p (F.an_item a i) l n h
    deliver_fits v (F.changing l n k to o e s) h = begin_exp_fits bodies block e n false _ h
    deliver_fits u (F.changed_by l n k to v o s) h = h
    deliver_fits v (F.change_stored n k to s) h = at_place_fits bodies block (F.storing v (F.finished s)) to k n h
    deliver_fits v (F.returned_by l n s) h = (tt, h)
    deliver_fits v (F.thrown l n S.absent s) h = h
    deliver_fits v (F.thrown l n (S.given c) s) h = begin_exp_fits bodies block c n false _ h
    deliver_fits c (F.caused l n v s) h = h
    deliver_fits v (F.message_of l n s) h = h
    deliver_fits m (F.imported l n x xs s) h = (h, h)
    deliver_fits m (F.imported_origin l n xs s) h = begin_imports_from_fit bodies block l n xs m s _ h (complete_fits normal s tt h)
    deliver_fits v (F.imported_name l n x xs m s) h = (h, h)
    deliver_fits c (F.matched l k n e t f) (ht, hf) = (ht, hf, (tt, way_base_fits bodies f hf))
    deliver_fits v (F.entered l n t is body s) h = h
    deliver_fits v (F.decorated k n before S.no_decorators l x what s) h = begin_definition_fits bodies block l n x what _ s h
    deliver_fits v (F.decorated k n before (S.decorator j e r) l x what s) h = begin_exp_fits bodies block e n false _ h
    deliver_fits v (F.defined l n x [] s) h = (h, h)
    deliver_fits v (F.defined l n x (c ∷ cs) s) h = h

    next_round_fits : (r : Rounds V) → Rounds_fit bodies r → Controls (next_round block r)
    next_round_fits (F.collecting l n m v w) h = deliver_fits v w h
    next_round_fits (F.generating l e s) h = complete_fits normal s tt h
    next_round_fits (F.round_of l n i t cs r) h = take_item_fits bodies block l n i t cs r h

  take_iter_fits : (i : V) (o : Over V) → Over_fits bodies o → Controls (take_iter block i o)
  take_iter_fits i (F.for_over l n t body els s) (h, hs) = begin_next_fits bodies block l n false i t body els s h hs
  take_iter_fits i (F.comprehension_over l n k t cs m w) h = h
  take_iter_fits i (F.generator_over l n b w) h = begin_operation_fits bodies block (block.captured b) l n false _ _ w h
  take_iter_fits i (F.clause_over l n t cs r) h = take_item_fits bodies block l n i t cs r h
  take_iter_fits i (F.delegated_over l n w) h = h

  pub go_fits : (k : Way V) → Ways k → Controls (go block k)
  go_fits (F.finished s) h = complete_fits normal s tt h
  go_fits (F.stms n ss s) (h, hs) = begin_all_fits bodies block ss n s _ h hs (complete_fits normal s tt hs)
  go_fits (F.branches n bs els s) (h, hs) = begin_branches_fit bodies block bs els n s _ h hs (complete_fits normal s tt hs)
  go_fits (F.value n e w) h = begin_exp_fits bodies block e n false w h
  go_fits (F.given v w) h = deliver_fits v w h
  go_fits (F.linked_on l n v o b r w) h = begin_exp_fits bodies block b n false _ h
  go_fits (F.lets_go c s) (g, h) = let_go_fits c s g h
  go_fits (F.raises v s) h = complete_fits (by (raise v)) s tt h
  go_fits (F.unbinds x c s) h = (h, h.1)
  go_fits (F.made_anew xs l n i t cs r) h = make_anew_fits xs l n i t cs r h
  go_fits (F.assigns n v ts s) h = begin_assign_fits bodies block v ts n s _ h (complete_fits normal s tt h)
  go_fits (F.tests k n hds e s) (h, hs) = begin_tests_fit bodies block k hds n e s _ h hs (let_go_fits (by (raise e)) s tt hs)
  go_fits (F.binding l n x v k s) h = h
  go_fits (F.stores n st k) h = begin_stores_fit bodies block st n k _ h (go_fits k h)
  go_fits (F.deletes n ps s) h = begin_deletes_fit bodies block ps n s _ h (complete_fits normal s tt h)
  go_fits (F.imports l n xs s) h = begin_imports_fit bodies block l n xs s _ h (complete_fits normal s tt h)
  go_fits (F.imports_from l n xs m s) h = begin_imports_from_fit bodies block l n xs m s _ h (complete_fits normal s tt h)
  go_fits (F.within_items n is body s) (h, hs) = begin_items_fit bodies block is body n s _ h hs (complete_fits normal s tt hs)
  go_fits (F.failed l n S.absent s) h = h
  go_fits (F.failed l n (S.given m) s) h = begin_exp_fits bodies block m n false _ h
  go_fits (F.round r) h = next_round_fits r h
  go_fits (F.clauses n cs r) h = begin_clauses_fit bodies block cs n r h

  raise_fits : (v : V) (s : Nest V) → Nests s → Controls (complete block (by (raise v)) s)
  raise_fits v s h = complete_fits (by (raise v)) s tt h

  value_fits : (w : Wait V) (r : Reply V V) → Wait_fits bodies w → Controls (after_value block w r)
  value_fits w (got v) h = deliver_fits v w h
  value_fits w (raised v) h = raise_fits v (base w) (base_fits bodies w h)

  deed_fits : (k : Way V) (s : Nest V) (r : Reply V (Unit {0})) → Ways k → Nests s → Controls (after_deed block k s r)
  deed_fits k s (got t) hk hs = go_fits k hk
  deed_fits k s (raised v) hk hs = raise_fits v s hs

  leave_fits : (a : Abrupt V) (s : Nest V) (r : Reply V (Unit {0})) → ComesFrom (by a) (body_of s) → Nests s → Controls (after_leave block a s r)
  leave_fits a s (got t) g hs = complete_fits (by a) s g hs
  leave_fits a s (raised v) g hs = raise_fits v s hs

  throw_fits : (s : Nest V) (r : Reply V ⊥) → Nests s → Controls (after_throw block s r)
  throw_fits s (got x) hs = absurd x
  throw_fits s (raised v) hs = raise_fits v s hs

  truth_fits : (t f : Way V) (s : Nest V) (r : Reply V Bool) → Ways t → Ways f → Nests s → Controls (after_truth block t f s r)
  truth_fits t f s (got true) ht hf hs = go_fits t ht
  truth_fits t f s (got false) ht hf hs = go_fits f hf
  truth_fits t f s (raised v) ht hf hs = raise_fits v s hs

  iter_fits : (o : Over V) (r : Reply V V) → Over_fits bodies o → Controls (after_iter block o r)
  iter_fits o (got i) h = take_iter_fits i o h
  iter_fits o (raised v) h = raise_fits v (over_base o) (over_base_fits bodies o h)

  item_fits : (n : ℕ) (t : Tgt) (k f : Way V) (r : Reply V (Option V)) → Ways k → Ways f → Controls (after_item block n t k f r)
  item_fits n t k f (got (Some v)) hk hf = begin_store_fits bodies block t v n _ hk
  item_fits n t k f (got None) hk hf = go_fits f hf
  item_fits n t k f (raised v) hk hf = raise_fits v (way_base k) (way_base_fits bodies k hk)

  entry_fits : (l n : ℕ) (t : Option Tgt) (is : Items) (body : Stms) (s : Nest V) (r : Reply V (V × V)) → Entry_fits bodies n t is body (body_of s) → Nests s
      → Controls (after_entry block l n t is body s r)
  entry_fits l n None is body s (got (w, v)) h hs =
      begin_items_fit bodies block is body n (F.withing l (n + items_size is (stms_size body)) w ∷ s) _ h (tt, hs)
      (complete_fits normal (F.withing l (n + items_size is (stms_size body)) w ∷ s) tt (tt, hs))
  entry_fits l n (Some t) is body s (got (w, v)) h hs = begin_store_fits bodies block t v n _ (h, (tt, hs))
  entry_fits l n None is body s (raised v) h hs = raise_fits v s hs
  entry_fits l n (Some t) is body s (raised v) h hs = raise_fits v s hs

  unpack_fits : (n : ℕ) (ts : Tgts) (k : Way V) (s : Nest V) (r : Reply V (Row V (count ts))) → Ways k → Nests s → Controls (after_unpack block n ts k s r)
  unpack_fits n ts k s (got vs) hk hs = begin_stores_fit bodies block (each_gets ts vs) n k _ hk (go_fits k hk)
  unpack_fits n ts k s (raised v) hk hs = raise_fits v s hs

  delegate_fits : (m : Mark) (i : V) (w : Wait V) (r : Reply V (Delegated V)) → Wait_fits bodies w → Controls (after_delegate block m i w r)
  delegate_fits m i w (got (returned v)) h = deliver_fits v w h
  delegate_fits m i w (got (resumed r)) h = h
  delegate_fits m i w (raised v) h = raise_fits v (base w) (base_fits bodies w h)

  turn_fits : (c d : Control V) → Controls c → Leads (turn block c) d → Controls d
  turn_fits (F.for_value m a w) d h (r, e) = subst Controls e (value_fits w r h)
  turn_fits (F.for_deed m a k s) d (hk, hs) (r, e) = subst Controls e (deed_fits k s r hk hs)
  turn_fits (F.for_leave m a s) d (g, hs) (r, e) = subst Controls e (leave_fits a s r g hs)
  turn_fits (F.for_throw m a s) d hs (r, e) = subst Controls e (throw_fits s r hs)
  turn_fits (F.for_truth m a t f s) d (ht, hf, hs) (r, e) = subst Controls e (truth_fits t f s r ht hf hs)
  turn_fits (F.for_iter m v o) d h (r, e) = subst Controls e (iter_fits o r h)
  turn_fits (F.for_item m i n t k f) d (hk, hf) (r, e) = subst Controls e (item_fits n t k f r hk hf)
  turn_fits (F.for_entry m v l n t is body s) d (h, hs) (r, e) = subst Controls e (entry_fits l n t is body s r h hs)
  turn_fits (F.for_unpack m v n ts k s) d (hk, hs) (r, e) = subst Controls e (unpack_fits n ts k s r hk hs)
  turn_fits (F.for_delegate m i s w) d h (r, e) = subst Controls e (delegate_fits m i w r h)
  turn_fits (F.silent_value a w) d h (r, e) = subst Controls e (value_fits w r h)
  turn_fits (F.silent_deed a k s) d (hk, hs) (r, e) = subst Controls e (deed_fits k s r hk hs)
  turn_fits (F.noting a k s) d (hk, hs) (r, e) = subst Controls e (deed_fits k s r hk hs)
  turn_fits (F.closed x) d h e = absurd e

  pub reached_fits : (c d : Control V) → Controls c → Reaches block c d → Controls d
  reached_fits c _ h here = h
  reached_fits c e h (then {d = d} r leads) = turn_fits d e (reached_fits c d h r) leads
