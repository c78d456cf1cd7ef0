-- From the beginning of a statement each of its acts is met, where each statement inside can be reached; and it comes to its end, or breaks the
-- loop around, where its form tells so.
use Rattle.std.proofs.Common.{◌≡◌, ℕ, ◌+◌, ◌≤◌, true, false, Option, Some, None, List, [], ◌∷◌, length, ◌⊎◌, inl, inr, refl, subst, arith}
use Rattle.pt_base.specs.declared.operators.BinOp.{BinOp}
use Rattle.pt_tree.specs.declared.statement.Alias.{Alias}
use Rattle.pt_tree.specs.Syntax as S
use Rattle.pt_tree.specs.Syntax.{Name, Exp, Opt, Place, Tgt, Tgts, Decorators, Items, Stm, Stms, Branches, Handlers}
use Rattle.pt_tree.specs.Sizes.{size, opt_size, place_size, target_size, targets_size, params_size, decorators_size, decorator_calls, items_size, stored_by, stm_size, stms_size, branches_size, handlers_size}
use Rattle.sem_control.specs.control.Turn as T
use Rattle.sem_control.specs.control.Turn.{Around, got, mark}
use Rattle.sem_control.specs.control.Frames as F
use Rattle.sem_control.specs.control.Frames.{raise, break, normal, by, Completion, Nest, Way, Definition, Decorating, Control}
use Rattle.sem_control.specs.control.Statements.{all_places, begin_assign, begin_place, begin_deletes, begin_imports, begin_imports_from, begin_definition, begin_next, begin_stm, begin_all, begin_branches, begin_items, begin_tests, handler_way}
use Rattle.sem_control.specs.control.Numbers.{handler_body}
use Rattle.sem_control.specs.control.Completions.{complete, let_go}
use Rattle.sem_control.specs.control.Control.{deliver, go}
use Rattle.sem_control.specs.control.Reached.{Reaches, here, then}
use Rattle.sem_control.specs.control.Endings.{Ends, All_end, A_branch_ends, A_handler_ends, Breaks, One_breaks, A_branch_breaks, A_handler_breaks, Leads_on, Reached_within, All_reached, Branches_reached, Handlers_reached}
use Rattle.sem_control.proofs.control.MarksPaths.{reaches_then, Met, met_along, met_both, met_none, met_to, met_one, met_then, met_fork, stays, along, Runs, runs_then, runs_to, value_runs, operation_runs, deed_runs, true_runs, false_runs, iter_runs, some_runs, none_runs, entry_runs}
use Rattle.sem_control.proofs.control.MarksMetExpressions.{exp_runs, target_runs, place_runs, function_runs}
use Rattle.sem_control.proofs.control.MarksRaises.{places_size, all_deleted_places_size, Raised, truth_raises, exp_raises, all_out, block_raises, items_out}

module _ {V : Type 0} (block : Around V) where
  abbrev Done : Nest V → Control V
  Done s = complete block normal s

  gets_run : (ts : Tgts) (v : V) (n : ℕ) (s : Nest V) → Runs block (begin_assign block v ts n s (Done s)) n (n + targets_size ts) (Done s)
  gets_run S.no_targets v n s = stays block
  gets_run (S.more_targets t S.no_targets) v n s = runs_to block (target_runs block t v n _) (omega arith)
  gets_run (S.more_targets t (S.more_targets u ts)) v n s =
      runs_to block (runs_then block (target_runs block t v n _) (gets_run (S.more_targets u ts) v (n + target_size t) s)) (omega arith)

  delete_runs : (p : Place) (n : ℕ) (k : Way V) → Runs block (begin_place block p n (F.deleting k)) n (n + place_size p) (go block k)
  delete_runs (S.name_at l x) n k = deed_runs block
  delete_runs (S.attribute_at l a x) n k = runs_to block (runs_then block (exp_runs block a n false _) (deed_runs block)) (omega arith)
  delete_runs (S.item_at l a i) n k =
      runs_to block (runs_then block (exp_runs block a n false _) (runs_then block (exp_runs block i (n + size a) false _) (deed_runs block))) (omega arith)

  deletes_run : (ps : List Place) (n : ℕ) (s : Nest V) → Runs block (begin_deletes block ps n s (Done s)) n (n + places_size ps) (Done s)
  deletes_run [] n s = stays block
  deletes_run (p ∷ ps) n s = runs_to block (runs_then block (delete_runs p n _) (deletes_run ps (n + place_size p) s)) (omega arith)

  change_runs : (l : ℕ) (p : Place) (n : ℕ) (o : BinOp) (e : Exp) (s : Nest V)
      → Runs block (begin_place block p n (F.changing_by l o e s)) n (n + (place_size p + size e + 2)) (Done s)
  change_runs l (S.name_at k x) n o e s =
      runs_to block (runs_then block (value_runs block) (runs_then block (exp_runs block e (n + 1) false _) (runs_then block (value_runs block) (deed_runs block)))) (omega arith)
  change_runs l (S.attribute_at k a x) n o e s =
      runs_to block (runs_then block (exp_runs block a n false _) (runs_then block (value_runs block)
      (runs_then block (exp_runs block e (n + size a + 1) false _) (runs_then block (value_runs block) (deed_runs block))))) (omega arith)
  change_runs l (S.item_at k a i) n o e s =
      runs_to block (runs_then block (exp_runs block a n false _) (runs_then block (exp_runs block i (n + size a) false _) (runs_then block (value_runs block)
      (runs_then block (exp_runs block e (n + size a + size i + 1) false _) (runs_then block (value_runs block) (deed_runs block)))))) (omega arith)

  imports_run : (l n : ℕ) (xs : List Alias) (s : Nest V) → Runs block (begin_imports block l n xs s (Done s)) n (n + (length xs + length xs)) (Done s)
  imports_run l n [] s = stays block
  imports_run l n (x ∷ xs) s = runs_to block (runs_then block (value_runs block) (runs_then block (deed_runs block) (imports_run l (n + 1 + 1) xs s))) (omega arith)

  imports_from_run : (l n : ℕ) (xs : List Alias) (m : V) (s : Nest V)
      → Runs block (begin_imports_from block l n xs m s (Done s)) n (n + (length xs + length xs)) (Done s)
  imports_from_run l n [] m s = stays block
  imports_from_run l n (x ∷ xs) m s =
      runs_to block (runs_then block (value_runs block) (runs_then block (deed_runs block) (imports_from_run l (n + 1 + 1) xs m s))) (omega arith)

  -- definitions
  abbrev making_size : Definition → ℕ
  making_size (F.a_function b ps) = params_size ps + 1
  making_size (F.a_class b base) = opt_size base + 1

  calls_run : (cs : List (Decorating V)) (l n : ℕ) (x : Name) (s : Nest V) → Runs block (deliver block block.null (F.defined l n x cs s)) n (n + (length cs + 1)) (Done s)
  calls_run [] l n x s = deed_runs block
  calls_run (c ∷ cs) l n x s = runs_to block (runs_then block (value_runs block) (calls_run cs l (n + 1) x s)) (omega arith)

  definition_runs : (what : Definition) (l n : ℕ) (x : Name) (cs : List (Decorating V)) (s : Nest V)
      → Runs block (begin_definition block l n x what cs s) n (n + (making_size what + length cs + 1)) (Done s)
  definition_runs (F.a_function b ps) l n x cs s =
      runs_to block (runs_then block (function_runs block b ps l n _) (calls_run cs l (n + params_size ps + 1) x s)) (omega arith)
  definition_runs (F.a_class b S.absent) l n x cs s = runs_to block (runs_then block (operation_runs block (block.captured b) _ _ _ _ _ _) (calls_run cs l (n + 1) x s)) (omega arith)
  definition_runs (F.a_class b (S.given e)) l n x cs s =
      runs_to block (runs_then block (exp_runs block e n false _) (runs_then block (operation_runs block (block.captured b) _ _ _ _ _ _) (calls_run cs l (n + size e + 1) x s))) (omega arith)

  decorated_runs : (r : Decorators) (k n : ℕ) (before : List (Decorating V)) (l : ℕ) (x : Name) (what : Definition) (s : Nest V)
      → Runs block (deliver block block.null (F.decorated k n before r l x what s)) n (n + (decorators_size r + making_size what + decorator_calls r + length before + 1 + 1)) (Done s)
  decorated_runs S.no_decorators k n before l x what s =
      runs_to block (definition_runs what l n x (record { line = k; value = block.null } ∷ before) s) (omega arith)
  decorated_runs (S.decorator j e r) k n before l x what s =
      runs_to block (runs_then block (exp_runs block e n false _) (decorated_runs r j (n + size e) (record { line = k; value = block.null } ∷ before) l x what s)) (omega arith)

  -- the acts that are met, and the way to an end
  record Goes (c : Control V) (n m : ℕ) (E : Type 0) (d : Control V) : Type 0 where
    met : Met block c n m
    ends : E → Reaches block c d

  by_run : {c d : Control V} {n m : ℕ} {E : Type 0} → Runs block c n m d → Goes c n m E d
  by_run p = record { met = p.met; ends = λ e. p.reaches }

  never : {c d : Control V} {n m : ℕ} → Met block c n m → Goes c n m ⊥ d
  never h = record { met = h; ends = λ e. absurd e }

  -- a block in any nest
  abbrev Block_goes : Stms → Type 0
  Block_goes ss = (n : ℕ) (s : Nest V) → Goes (begin_all block ss n s (Done s)) n (n + stms_size ss) (All_end ss) (Done s)

  turn_true : {m : T.Mark} {a : T.Test V} {t f : Way V} {s : Nest V} → Reaches block (F.for_truth m a t f s) (go block t)
  turn_true = then here (got true, refl)

  turn_false : {m : T.Mark} {a : T.Test V} {t f : Way V} {s : Nest V} → Reaches block (F.for_truth m a t f s) (go block f)
  turn_false = then here (got false, refl)

  turn_deed : {m : T.Mark} {a : T.Deed V} {s : Nest V} (k : Way V) → Reaches block (F.for_deed m a k s) (go block k)
  turn_deed k = then here (got tt, refl)

  -- 8.5
  exit_runs : {x : Control V} {l k : ℕ} {s : Nest V}
      → Reaches block x (Raised block (F.withing l k block.null ∷ s)) ⊎ Reaches block x (Done (F.withing l k block.null ∷ s)) → Runs block x k (k + 1) (Done s)
  exit_runs (inl p) = along block p (true_runs block)
  exit_runs (inr p) = along block p (true_runs block)

  items_goes : (is : Items) (l : ℕ) (body : Stms) → Block_goes body → (n : ℕ) (s : Nest V)
      → Goes (begin_items block is body n s (Done s)) n (n + items_size is (stms_size body)) (Ends (S.with l is body)) (Done s)
  items_goes S.no_items l body b n s = b n s
  items_goes (S.with_item k e None r) l body b n s =
      let m = n + size e + 1 in
      let at = F.withing k (m + items_size r (stms_size body)) block.null ∷ s in
      let x = exit_runs (items_out block r body m at) in
      by_run (runs_to block (runs_then block (exp_runs block e n false _) (runs_then block (entry_runs block)
      (record { met = met_both block (items_goes r l body b m at).met x.met; reaches = x.reaches }))) (omega arith))
  items_goes (S.with_item k e (Some t) r) l body b n s =
      let m = n + size e + 1 + target_size t in
      let at = F.withing k (m + items_size r (stms_size body)) block.null ∷ s in
      let x = exit_runs (items_out block r body m at) in
      by_run (runs_to block (runs_then block (exp_runs block e n false _) (runs_then block (entry_runs block) (runs_then block (target_runs block t block.null (n + size e + 1) _)
      (record { met = met_both block (items_goes r l body b m at).met x.met; reaches = x.reaches })))) (omega arith))

  -- 8.4.1
  unbinds : (x : Name) (s : Nest V) → Reaches block (Done (F.naming x ∷ s)) (Done s)
  unbinds x s = then (then here (got tt, refl)) (got tt, refl)

  named_goes : (l n : ℕ) (x : Name) (body : Stms) (e : V) (s : Nest V)
      → Goes (begin_all block body (n + 1 + 1) (F.naming x ∷ F.handling n e ∷ s) (Done (F.naming x ∷ F.handling n e ∷ s))) (n + 1 + 1) (n + 1 + 1 + stms_size body) (All_end body) (Done (F.naming x ∷ F.handling n e ∷ s))
      → Goes (go block (handler_way block l n (Some x) body e s)) (n + 1) (n + 1 + 1 + stms_size body) (All_end body) (Done s)
  named_goes l n x body e s u = record {
    met = met_then block (deed_runs block) u.met;
    ends = λ h. reaches_then block (turn_deed (F.stms (n + 1 + 1) body (F.naming x ∷ F.handling n e ∷ s))) (reaches_then block (u.ends h) (unbinds x (F.handling n e ∷ s)));
  }

  way_goes : (l n : ℕ) (x : Option Name) (body : Stms) (e : V) (s : Nest V) → Block_goes body
      → Goes (go block (handler_way block l n x body e s)) (n + 1) (handler_body n x + stms_size body) (All_end body) (Done s)
  way_goes l n None body e s b = b (n + 1) (F.handling n e ∷ s)
  way_goes l n (Some x) body e s b =
      named_goes l n x body e s (b (n + 1 + 1) (F.naming x ∷ F.handling n e ∷ s))

  abbrev Tests_go : Handlers → Type 0
  Tests_go hds = (k n : ℕ) (e : V) (s : Nest V) (x : Control V) → Goes (begin_tests block k hds n e s x) n (n + handlers_size hds) (A_handler_ends hds) (Done s)

  abbrev Some_act_before : Stms → Handlers → Type 0
  Some_act_before body S.no_handlers = Unit {0}
  Some_act_before body (S.handler l c x b r) = 1 ≤ stms_size body

  tests_raise : (k l : ℕ) (c : Opt) (x : Option Name) (b : Stms) (r : Handlers) (n : ℕ) (e : V) (s : Nest V) (z : Control V)
      → Reaches block (begin_tests block k (S.handler l c x b r) n e s z) (Raised block s)
  tests_raise k l S.absent x b r n e s z = truth_raises block
  tests_raise k l (S.given c) x b r n e s z = exp_raises block c n false _

  -- a `try`: its handlers, its `else` part and its `finally` part begin (8.4)
  handlers_met : (body : Stms) (hds : Handlers) (els : Stms) (n k : ℕ) (s : Nest V) → Some_act_before body hds → Tests_go hds
      → Met block (begin_all block body n (F.guarded k hds els ∷ s) (Done (F.guarded k hds els ∷ s))) k (k + handlers_size hds)
  handlers_met body S.no_handlers els n k s some t = met_to block (met_none block) (omega arith)
  handlers_met body (S.handler l c x b r) els n k s some t =
      met_along block (block_raises block body n (F.guarded k (S.handler l c x b r) els ∷ s) some) (t k k block.null s _).met

  else_met : (body : Stms) (hds : Handlers) (els : Stms) (n k : ℕ) (s : Nest V) → Block_goes body → Leads_on (All_end body) els → Block_goes els
      → Met block (begin_all block body n (F.guarded k hds els ∷ s) (Done (F.guarded k hds els ∷ s))) (k + handlers_size hds) (k + handlers_size hds + stms_size els)
  else_met body hds S.none n k s b on e = met_to block (met_none block) (omega arith)
  else_met body hds (S.more st ss) n k s b on e =
      met_along block ((b n (F.guarded k hds (S.more st ss) ∷ s)).ends on) (e (k + handlers_size hds) s).met

  -- a completion comes to the `finally` part
  after_raise : (hds : Handlers) (els : Stms) (k : ℕ) (s : Nest V) → Reaches block (Raised block (F.guarded k hds els ∷ s)) (Raised block s)
  after_raise S.no_handlers els k s = here
  after_raise (S.handler l c x b r) els k s = tests_raise k l c x b r k block.null s _

  to_finally : (body : Stms) (hds : Handlers) (els : Stms) (n k : ℕ) (s : Nest V)
      → (c : Completion V) × Reaches block (begin_all block body n (F.guarded k hds els ∷ s) (Done (F.guarded k hds els ∷ s))) (complete block c s)
  to_finally body hds els n k s = elim (all_out block body n (F.guarded k hds els ∷ s)) [
    | inl p ↦ (by (raise block.null), reaches_then block p (after_raise hds els k s))
    | inr u ↦ elim (all_out block els (k + handlers_size hds) s) [
      | inl q ↦ (by (raise block.null), reaches_then block u.1 q)
      | inr v ↦ (normal, reaches_then block u.1 v.1)
    ]
  ]

  finally_met : (x : Control V) (fin : Stms) (t m : ℕ) (s : Nest V) → (c : Completion V) → Reaches block x (complete block c (F.ensuring t m fin ∷ s)) → Block_goes fin
      → Met block x m (m + stms_size fin)
  finally_met x S.none t m s c p f = met_to block (met_none block) (omega arith)
  finally_met x (S.more st ss) t m s c p f = met_along block p (f m (F.ending t c ∷ s)).met

  finally_ends : (fin : Stms) (t m : ℕ) (s : Nest V) → Block_goes fin → All_end fin → Reaches block (Done (F.ensuring t m fin ∷ s)) (Done s)
  finally_ends S.none t m s f e = here
  finally_ends (S.more st ss) t m s f e = (f m (F.ending t normal ∷ s)).ends e

  handlers_end : (body : Stms) (hds : Handlers) (els : Stms) (n k : ℕ) (s : Nest V) → Tests_go hds → 1 ≤ stms_size body → A_handler_ends hds
      → Reaches block (begin_all block body n (F.guarded k hds els ∷ s) (Done (F.guarded k hds els ∷ s))) (Done s)
  handlers_end body S.no_handlers els n k s t some e = absurd e
  handlers_end body (S.handler l c x b r) els n k s t some e =
      reaches_then block (block_raises block body n (F.guarded k (S.handler l c x b r) els ∷ s) some) ((t k k block.null s _).ends e)

  try_goes : (l : ℕ) (body : Stms) (hds : Handlers) (els fin : Stms) → Block_goes body → Tests_go hds → Block_goes els → Block_goes fin
      → Some_act_before body hds → Leads_on (All_end body) els → (n : ℕ) (s : Nest V)
      → Goes (begin_stm block (S.try l body hds els fin) n s (Done s)) n (n + stm_size (S.try l body hds els fin)) (Ends (S.try l body hds els fin)) (Done s)
  try_goes l body hds els fin b t e f some on n s =
      let k = n + 1 + stms_size body in
      let m = k + handlers_size hds + stms_size els in
      let around = F.ensuring n m fin ∷ s in
      let g = b (n + 1) (F.guarded k hds els ∷ around) in
      let p : Runs block (begin_stm block (S.try l body hds els fin) n s (Done s)) n (n + 1) _ = deed_runs block in
      let c = to_finally body hds els (n + 1) k around in
      let parts = met_both block g.met (met_both block (handlers_met body hds els (n + 1) k around some t)
      (met_both block (else_met body hds els (n + 1) k around b on e) (finally_met _ fin n m s c.0 c.1 f))) in
      record {
        met = met_to block (met_then block p parts) (omega arith);
        ends = λ h. reaches_then block p.reaches (reaches_then block
            (elim h.0 [ inl u ↦ reaches_then block (g.ends u.0) ((e (k + handlers_size hds) around).ends u.1) | inr u ↦ handlers_end body hds els (n + 1) k around t u.0 u.1 ])
            (finally_ends fin n m s f h.1));
      }

  -- a `break` passes frames on its way to the loop around
  abbrev Broken : Nest V → Control V
  Broken s = complete block (by break) s

  -- statements break, in any nest
  abbrev Block_breaks : Stms → Type 0
  Block_breaks ss = (n : ℕ) (s : Nest V) → Reaches block (begin_all block ss n s (Done s)) (Broken s)

  withing_breaks : (l k : ℕ) (s : Nest V) → Reaches block (Broken (F.withing l k block.null ∷ s)) (Broken s)
  withing_breaks l k s = turn_false

  items_break : (is : Items) (body : Stms) → Block_breaks body → (n : ℕ) (s : Nest V) → Reaches block (begin_items block is body n s (Done s)) (Broken s)
  items_break S.no_items body b n s = b n s
  items_break (S.with_item k e None r) body b n s =
      let m = n + size e + 1 in
      let at = F.withing k (m + items_size r (stms_size body)) block.null ∷ s in
      let p = runs_then block (exp_runs block e n false (F.entered k (n + size e) None r body s)) (entry_runs block) in
      reaches_then block p.reaches (reaches_then block (items_break r body b m at) (withing_breaks k _ s))
  items_break (S.with_item k e (Some t) r) body b n s =
      let m = n + size e + 1 + target_size t in
      let at = F.withing k (m + items_size r (stms_size body)) block.null ∷ s in
      let p = runs_then block (exp_runs block e n false (F.entered k (n + size e) (Some t) r body s)) (runs_then block (entry_runs block) (target_runs block t block.null (n + size e + 1) (F.within_items m r body at))) in
      reaches_then block p.reaches (reaches_then block (items_break r body b m at) (withing_breaks k _ s))

  naming_breaks : (x : Name) (s : Nest V) → Reaches block (Broken (F.naming x ∷ s)) (Broken s)
  naming_breaks x s = then (then here (got tt, refl)) (got tt, refl)

  way_breaks : (l n : ℕ) (x : Option Name) (body : Stms) (e : V) (s : Nest V) → Block_breaks body → Reaches block (go block (handler_way block l n x body e s)) (Broken s)
  way_breaks l n None body e s b = b (n + 1) (F.handling n e ∷ s)
  way_breaks l n (Some x) body e s b =
      reaches_then block (turn_deed (F.stms (n + 1 + 1) body (F.naming x ∷ F.handling n e ∷ s)))
      (reaches_then block (b (n + 1 + 1) (F.naming x ∷ F.handling n e ∷ s)) (naming_breaks x (F.handling n e ∷ s)))

  abbrev Tests_break : Handlers → Type 0
  Tests_break hds = (k n : ℕ) (e : V) (s : Nest V) (x : Control V) → Reaches block (begin_tests block k hds n e s x) (Broken s)

  handlers_break : (body : Stms) (hds : Handlers) (els : Stms) (n k : ℕ) (s : Nest V) → Some_act_before body hds → A_handler_breaks hds → Tests_break hds
      → Reaches block (begin_all block body n (F.guarded k hds els ∷ s) (Done (F.guarded k hds els ∷ s))) (Broken s)
  handlers_break body S.no_handlers els n k s some u t = absurd u
  handlers_break body (S.handler l c x b r) els n k s some u t =
      reaches_then block (block_raises block body n (F.guarded k (S.handler l c x b r) els ∷ s) some) (t k k block.null s _)

  -- a `finally` part lets it go on, or breaks by itself
  finally_passes : (fin : Stms) (t m : ℕ) (s : Nest V) → Block_goes fin → All_end fin → Reaches block (Broken (F.ensuring t m fin ∷ s)) (Broken s)
  finally_passes S.none t m s f e = here
  finally_passes (S.more st ss) t m s f e = (f m (F.ending t (by break) ∷ s)).ends e

  finally_breaks : (fin : Stms) (t m : ℕ) (s : Nest V) (c : Completion V) → One_breaks fin → Block_breaks fin
      → Reaches block (complete block c (F.ensuring t m fin ∷ s)) (Broken s)
  finally_breaks S.none t m s c u f = absurd u
  finally_breaks (S.more st ss) t m s c u f = f m (F.ending t c ∷ s)

  failed_met : (m : Opt) (l n : ℕ) (s : Nest V) → Met block (go block (F.failed l n m s)) n (n + opt_size m + 1)
  failed_met S.absent l n s = met_to block (met_one block refl) (omega arith)
  failed_met (S.given e) l n s = met_then block (exp_runs block e n false _) (met_one block refl)

  choice_is : (l : ℕ) (bs : Branches) (els : Stms) (n : ℕ) (s : Nest V) → begin_branches block bs els n s (Done s) ≡ begin_stm block (S.choice l bs els) n s (Done s)
  choice_is l S.no_branches els n s = refl
  choice_is l (S.branch k c body r) els n s = refl

  with_is : (l : ℕ) (is : Items) (body : Stms) (n : ℕ) (s : Nest V) → begin_items block is body n s (Done s) ≡ begin_stm block (S.with l is body) n s (Done s)
  with_is l S.no_items body n s = refl
  with_is l (S.with_item k e t r) body n s = refl

  body_at : (n : ℕ) (x : Option Name) → handler_body n x ≡ n + 1 + stored_by x
  body_at n None = omega arith
  body_at n (Some x) = refl

  match_goes : (l k n : ℕ) (x : Option Name) (b : Stms) (r : Handlers) (e v : V) (s : Nest V) → Block_goes b → Tests_go r
      → Goes (F.for_truth (mark n l false) (T.matches e v) (handler_way block l n x b e s) (F.tests k (handler_body n x + stms_size b) r e s) (F.testing k e ∷ s))
      n (handler_body n x + stms_size b + handlers_size r) (All_end b ⊎ A_handler_ends r) (Done s)
  match_goes l k n x b r e v s hb hr =
      let w = way_goes l n x b e s hb in
      let u = hr k (handler_body n x + stms_size b) e s (let_go block (by (raise e)) s) in
      record {
        met = met_fork block (met_then block (true_runs block) w.met) (false_runs block) u.met;
        ends = λ h. elim h [ inl y ↦ reaches_then block turn_true (w.ends y) | inr y ↦ reaches_then block turn_false (u.ends y) ];
      }

  some_act : (body : Stms) (hds : Handlers) → Handlers_reached body hds → Some_act_before body hds
  some_act body S.no_handlers h = tt
  some_act body (S.handler l c x b r) h = h.0

  mutual
    stm_goes : (st : Stm) → Reached_within st → (n : ℕ) (s : Nest V) → Goes (begin_stm block st n s (Done s)) n (n + stm_size st) (Ends st) (Done s)
    stm_goes (S.expr l e) h n s = by_run (runs_to block (runs_then block (exp_runs block e n false _) (deed_runs block)) (omega arith))
    stm_goes (S.assign l ts e) h n s =
        by_run (runs_to block (runs_then block (exp_runs block e n false _) (gets_run ts block.null (n + size e) s)) (omega arith))
    stm_goes (S.augmented l p o e) h n s = by_run (change_runs l p n o e s)
    stm_goes (S.annotated l p a S.absent) h n s = by_run (deed_runs block)
    stm_goes (S.annotated l p a (S.given e)) h n s =
        by_run (runs_to block (runs_then block (exp_runs block e n false _) (place_runs block p block.null (n + size e) _)) (omega arith))
    stm_goes (S.assert l c m) h n s =
        let p = exp_runs block c n false (F.asked l (n + size c) (F.finished s) (F.failed l (n + size c + 1) m s)) in
        let q : Runs block (deliver block block.null (F.asked l (n + size c) (F.finished s) (F.failed l (n + size c + 1) m s))) (n + size c) _ _ = true_runs block in
        record {
          met = met_to block (met_then block p (met_fork block q.met (false_runs block) (failed_met m l (n + size c + 1) s))) (omega arith);
          ends = λ e. reaches_then block p.reaches q.reaches;
        }
    stm_goes (S.pass l) h n s = by_run (deed_runs block)
    stm_goes (S.del l ts) h n s = by_run (runs_to block (deletes_run (all_places ts) n s) (omega (arith, all_deleted_places_size ts)))
    stm_goes (S.return l S.absent) h n s = never (met_one block refl)
    stm_goes (S.return l (S.given e)) h n s = never (met_to block (met_then block (exp_runs block e n false _) (met_one block refl)) (omega arith))
    stm_goes (S.raise l e S.absent) h n s = never (met_to block (met_then block (exp_runs block e n false _) (met_one block refl)) (omega arith))
    stm_goes (S.raise l e (S.given c)) h n s =
        never (met_to block (met_then block (exp_runs block e n false _) (met_then block (exp_runs block c (n + size e) false _) (met_one block refl))) (omega arith))
    stm_goes (S.raise_again l) h n s = never (met_one block refl)
    stm_goes (S.break l) h n s = never (met_one block refl)
    stm_goes (S.continue l) h n s = never (met_one block refl)
    stm_goes (S.import l xs) h n s = by_run (imports_run l n xs s)
    stm_goes (S.import_from l m xs) h n s = by_run (runs_to block (runs_then block (value_runs block) (imports_from_run l (n + 1) xs block.null s)) (omega arith))
    stm_goes (S.global l xs) h n s = by_run (stays block)
    stm_goes (S.nonlocal l xs) h n s = by_run (stays block)
    stm_goes (S.choice l bs els) (hb, he) n s =
        subst (λ c. Goes c n (n + (branches_size bs + stms_size els)) (A_branch_ends bs ⊎ All_end els) (Done s)) (choice_is l bs els n s)
        (branches_go bs hb els (all_go els he) n s)
    stm_goes (S.while l c body els) (hb, he) n s =
        let p = exp_runs block c n false (F.asked l (n + size c) (F.stms (n + size c + 1) body (F.looping l n c body els ∷ s)) (F.stms (n + size c + 1 + stms_size body) els s)) in
        let b = all_go body hb (n + size c + 1) (F.looping l n c body els ∷ s) in
        let e = all_go els he (n + size c + 1 + stms_size body) s in
        record {
          met = met_to block (met_then block p (met_fork block (met_then block (true_runs block) b.met) (false_runs block) e.met)) (omega arith);
          ends = λ h. reaches_then block p.reaches (elim h [
            | inl u ↦ reaches_then block turn_false (e.ends u)
            | inr u ↦ reaches_then block turn_true (all_break body hb u (n + size c + 1) (F.looping l n c body els ∷ s))
          ]);
        }
    stm_goes (S.for l t it body els) (hb, he) n s =
        let m = n + size it + 1 in
        let p = exp_runs block it n false (F.iterated l (n + size it) (F.for_over l m t body els s)) in
        let q : Runs block (deliver block block.null (F.iterated l (n + size it) (F.for_over l m t body els s))) (n + size it) m (begin_next block l m false block.null t body els s) = iter_runs block in
        let b = all_go body hb (m + 1 + target_size t) (F.iterating l m block.null t body els ∷ s) in
        let e = all_go els he (m + 1 + target_size t + stms_size body) s in
        let r : Runs block (begin_next block l m false block.null t body els s) m (m + 1) _ = none_runs block in
        let i : Runs block (begin_next block l m false block.null t body els s) m (m + 1 + target_size t) (begin_all block body (m + 1 + target_size t) (F.iterating l m block.null t body els ∷ s) _) =
        runs_then block (some_runs block) (target_runs block t block.null (m + 1) _) in
        record {
          met = met_to block (met_then block p (met_then block q (met_fork block (met_then block (some_runs block) (met_then block (target_runs block t block.null (m + 1) _) b.met)) (none_runs block) e.met))) (omega arith);
          ends = λ h. reaches_then block p.reaches (reaches_then block q.reaches (elim h [
            | inl u ↦ reaches_then block r.reaches (e.ends u)
            | inr u ↦ reaches_then block i.reaches (all_break body hb u (m + 1 + target_size t) (F.iterating l m block.null t body els ∷ s))
          ]));
        }
    stm_goes (S.try l body hds els fin) (hb, hh, on, he, hf) n s =
        try_goes l body hds els fin (all_go body hb) (tests_go hds body hh) (all_go els he) (all_go fin hf) (some_act body hds hh) on n s
    stm_goes (S.with l is body) h n s =
        subst (λ c. Goes c n (n + items_size is (stms_size body)) (Ends (S.with l is body)) (Done s)) (with_is l is body n s)
        (items_goes is l body (all_go body h) n s)
    stm_goes (S.def l S.no_decorators k b x ps a body) h n s = by_run (runs_to block (definition_runs (F.a_function b ps) k n x [] s) (omega arith))
    stm_goes (S.def l (S.decorator j e r) k b x ps a body) h n s =
        by_run (runs_to block (runs_then block (exp_runs block e n false _) (decorated_runs r j (n + size e) [] k x (F.a_function b ps) s)) (omega arith))
    stm_goes (S.class l S.no_decorators k b x base body) h n s = by_run (runs_to block (definition_runs (F.a_class b base) k n x [] s) (omega arith))
    stm_goes (S.class l (S.decorator j e r) k b x base body) h n s =
        by_run (runs_to block (runs_then block (exp_runs block e n false _) (decorated_runs r j (n + size e) [] k x (F.a_class b base) s)) (omega arith))
    stm_goes (S.docstring l) h n s = by_run (stays block)

    all_go : (ss : Stms) → All_reached ss → Block_goes ss
    all_go S.none h n s = by_run (stays block)
    all_go (S.more st S.none) (h, on, hs) n s =
        let g = stm_goes st h n (F.rest (n + stm_size st) S.none ∷ s) in record { met = met_to block g.met (omega arith); ends = λ e. g.ends e.0 }
    all_go (S.more st (S.more su ss)) (h, on, hs) n s =
        let g = stm_goes st h n (F.rest (n + stm_size st) (S.more su ss) ∷ s) in
        let r = all_go (S.more su ss) hs (n + stm_size st) s in
        record { met = met_to block (met_both block g.met (met_along block (g.ends on) r.met)) (omega arith); ends = λ e. reaches_then block (g.ends e.0) (r.ends e.1) }

    branches_go : (bs : Branches) → Branches_reached bs → (els : Stms) → Block_goes els → (n : ℕ) (s : Nest V)
        → Goes (begin_branches block bs els n s (Done s)) n (n + (branches_size bs + stms_size els)) (A_branch_ends bs ⊎ All_end els) (Done s)
    branches_go S.no_branches h els e n s =
        let u = e n s in record { met = met_to block u.met (omega arith); ends = λ h. elim h [ inl x ↦ absurd x | inr x ↦ u.ends x ] }
    branches_go (S.branch k c body r) (hb, hr) els e n s =
        let p = exp_runs block c n false (F.asked k (n + size c) (F.stms (n + size c + 1) body s) (F.branches (n + size c + 1 + stms_size body) r els s)) in
        let b = all_go body hb (n + size c + 1) s in
        let q = branches_go r hr els e (n + size c + 1 + stms_size body) s in
        record {
          met = met_to block (met_then block p (met_fork block (met_then block (true_runs block) b.met) (false_runs block) q.met)) (omega arith);
          ends = λ h. reaches_then block p.reaches (elim h [
            | inl x ↦ elim x [ inl y ↦ reaches_then block turn_true (b.ends y) | inr y ↦ reaches_then block turn_false (q.ends (inl y)) ]
            | inr x ↦ reaches_then block turn_false (q.ends (inr x))
          ]);
        }

    tests_go : (hds : Handlers) (body : Stms) → Handlers_reached body hds → Tests_go hds
    tests_go S.no_handlers body h k n e s x = record { met = met_to block (met_none block) (omega arith); ends = λ h. absurd h }
    tests_go (S.handler l S.absent x b r) body (some, hb, hr) k n e s z =
        let q = match_goes l k n x b r e block.null s (all_go b hb) (tests_go r body hr) in
        record { met = met_to block q.met (omega (arith, body_at n x)); ends = q.ends }
    tests_go (S.handler l (S.given c) x b r) body (some, hb, hr) k n e s z =
        let p = exp_runs block c n false (F.matched l k (n + size c) e (handler_way block l (n + size c) x b e s) (F.tests k (handler_body (n + size c) x + stms_size b) r e s)) in
        let q = match_goes l k (n + size c) x b r e block.null s (all_go b hb) (tests_go r body hr) in
        record { met = met_to block (met_then block p q.met) (omega (arith, body_at (n + size c) x)); ends = λ h. reaches_then block p.reaches (q.ends h) }

    -- where a `break` in them leaves the loop around, it is reached
    stm_breaks : (st : Stm) → Reached_within st → Breaks st → (n : ℕ) (s : Nest V) → Reaches block (begin_stm block st n s (Done s)) (Broken s)
    stm_breaks (S.break l) h u n s = then here (got tt, refl)
    stm_breaks (S.choice l bs els) (hb, he) u n s =
        subst (λ c. Reaches block c (Broken s)) (choice_is l bs els n s) (branches_break bs hb els (all_break els he) u n s)
    stm_breaks (S.while l c body els) (hb, he) u n s =
        let p = exp_runs block c n false (F.asked l (n + size c) (F.stms (n + size c + 1) body (F.looping l n c body els ∷ s)) (F.stms (n + size c + 1 + stms_size body) els s)) in
        reaches_then block p.reaches (reaches_then block turn_false (all_break els he u (n + size c + 1 + stms_size body) s))
    stm_breaks (S.for l t it body els) (hb, he) u n s =
        let m = n + size it + 1 in
        let p = exp_runs block it n false (F.iterated l (n + size it) (F.for_over l m t body els s)) in
        let q : Runs block (deliver block block.null (F.iterated l (n + size it) (F.for_over l m t body els s))) (n + size it) m (begin_next block l m false block.null t body els s) = iter_runs block in
        let r : Runs block (begin_next block l m false block.null t body els s) m (m + 1) _ = none_runs block in
        reaches_then block p.reaches (reaches_then block q.reaches (reaches_then block r.reaches (all_break els he u (m + 1 + target_size t + stms_size body) s)))
    stm_breaks (S.try l body hds els fin) (hb, hh, on, he, hf) u n s =
        let k = n + 1 + stms_size body in
        let m = k + handlers_size hds + stms_size els in
        let around = F.ensuring n m fin ∷ s in
        let p : Runs block (begin_stm block (S.try l body hds els fin) n s (Done s)) n (n + 1) _ = deed_runs block in
        let c = to_finally body hds els (n + 1) k around in
        let g = all_go body hb (n + 1) (F.guarded k hds els ∷ around) in
        reaches_then block p.reaches (elim u [
          | inl v ↦ reaches_then block (elim v.0 [
            | inl w ↦ all_break body hb w (n + 1) (F.guarded k hds els ∷ around)
            | inr w ↦ elim w [
              | inl y ↦ handlers_break body hds els (n + 1) k around (some_act body hds hh) y.1 (tests_break hds body hh y.1)
              | inr y ↦ reaches_then block (g.ends y.0) (all_break els he y.1 (k + handlers_size hds) around)
            ]
          ]) (finally_passes fin n m s (all_go fin hf) v.1)
          | inr v ↦ reaches_then block c.1 (finally_breaks fin n m s c.0 v (all_break fin hf v))
        ])
    stm_breaks (S.with l is body) h u n s =
        subst (λ c. Reaches block c (Broken s)) (with_is l is body n s) (items_break is body (all_break body h u) n s)
    stm_breaks st h u n s = absurd u

    all_break : (ss : Stms) → All_reached ss → One_breaks ss → Block_breaks ss
    all_break S.none h u n s = absurd u
    all_break (S.more st ss) (h, on, hs) u n s = elim u [
      | inl v ↦ stm_breaks st h v n (F.rest (n + stm_size st) ss ∷ s)
      | inr v ↦ reaches_then block ((stm_goes st h n (F.rest (n + stm_size st) ss ∷ s)).ends v.0) (all_break ss hs v.1 (n + stm_size st) s)
    ]

    branches_break : (bs : Branches) → Branches_reached bs → (els : Stms) → (One_breaks els → Block_breaks els) → A_branch_breaks bs ⊎ One_breaks els → (n : ℕ) (s : Nest V)
        → Reaches block (begin_branches block bs els n s (Done s)) (Broken s)
    branches_break S.no_branches h els e u n s = elim u [ inl x ↦ absurd x | inr x ↦ e x n s ]
    branches_break (S.branch k c body r) (hb, hr) els e u n s =
        let p = exp_runs block c n false (F.asked k (n + size c) (F.stms (n + size c + 1) body s) (F.branches (n + size c + 1 + stms_size body) r els s)) in
        reaches_then block p.reaches (elim u [
          | inl x ↦ elim x [
            | inl y ↦ reaches_then block turn_true (all_break body hb y (n + size c + 1) s)
            | inr y ↦ reaches_then block turn_false (branches_break r hr els e (inl y) (n + size c + 1 + stms_size body) s)
          ]
          | inr x ↦ reaches_then block turn_false (branches_break r hr els e (inr x) (n + size c + 1 + stms_size body) s)
        ])

    tests_break : (hds : Handlers) (body : Stms) → Handlers_reached body hds → A_handler_breaks hds → Tests_break hds
    tests_break S.no_handlers body h u k n e s x = absurd u
    tests_break (S.handler l S.absent x b r) body (some, hb, hr) u k n e s z = elim u [
      | inl y ↦ reaches_then block turn_true (way_breaks l n x b e s (all_break b hb y))
      | inr y ↦ reaches_then block turn_false (tests_break r body hr y k (handler_body n x + stms_size b) e s _)
    ]
    tests_break (S.handler l (S.given c) x b r) body (some, hb, hr) u k n e s z =
        let p = exp_runs block c n false (F.matched l k (n + size c) e (handler_way block l (n + size c) x b e s) (F.tests k (handler_body (n + size c) x + stms_size b) r e s)) in
        reaches_then block p.reaches (elim u [
          | inl y ↦ reaches_then block turn_true (way_breaks l (n + size c) x b e s (all_break b hb y))
          | inr y ↦ reaches_then block turn_false (tests_break r body hr y k (handler_body (n + size c) x + stms_size b) e s _)
        ])

  pub all_met : (ss : Stms) → All_reached ss → (n : ℕ) (s : Nest V) → Met block (begin_all block ss n s (Done s)) n (n + stms_size ss)
  all_met ss h n s = (all_go ss h n s).met
