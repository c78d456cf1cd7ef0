-- A bare run is a run: each stride is the steps from one turn to the next.
use Rattle.std.proofs.Common.{◌≡◌, ℕ, List, [], ◌∷◌, ◌++◌, Bool, true, false, Option, Some, None, refl, sym, ap, ◌∙◌, subst, append-nil, append_assoc, suc, ◌+◌, if◌then◌else◌}
use Rattle.std.specs.Prelude.{nat_lt, map}
use Rattle.pt_base.specs.declared.what.What.{What}
use Rattle.sem_control.specs.control.Turn as T
use Rattle.sem_control.specs.control.Turn.{Mark, Ask, Answer, Reply, got, raised, End, gave, left_by, Turn}
use Rattle.sem_control.specs.control.Events as E
use Rattle.sem_control.specs.control.LineEvents.{is_told}
use Rattle.sem_run.specs.run.Machine.{BlockId, Machine}
use Rattle.sem_run.specs.run.Events as Told
use Rattle.sem_run.specs.run.Events.{Happening, trace_kind, starts}
use Rattle.sem_run.specs.run.Host as H
use Rattle.sem_run.specs.run.Host.{Host, Store, Opening, BlockResult, Frame, Answering, Finding, Callee, Made, made, beyond, Leaving, too_deep}
use Rattle.sem_run.specs.run.State as run
use Rattle.sem_run.specs.run.State.{OpenAsk, Phase, turning, telling, answering, closing, starting, doing, going, ending, at, store}
use Rattle.sem_run.specs.run.Views as Views
use Rattle.sem_run.specs.run.Outcome as O
use Rattle.sem_run.specs.run.Hooks.{world_with_entry, world_behind}
use Rattle.sem_run.specs.run.Requests as Q
use Rattle.sem_run.specs.run.Step as P
use Rattle.sem_run.specs.run.Step.{step, by_phase, begin_turn, happening, of_builtin, of_call, only_raises, stop_event, line_before, callee_of, do_ask}
use Rattle.sem_run.specs.run.Step.{reply_to, reply_and_tell}
use Rattle.sem_run.specs.run.Run as R
use Rattle.sem_run.specs.run.Run.{Write, writes, write, to_out, ends_so, nobody}
use Rattle.sem_run.specs.run.Laws.{session}
use Rattle.sem_run.proofs.run.RunLemmas.{has_parts, runs_once}
use Rattle.sem_run.proofs.run.Showing.{writes_append}
use Rattle.sem_run.specs.transitions.Transitions as transitions
use Rattle.sem_run.specs.transitions.Transitions.{by_answer, by_finding}
use Rattle.sem_run.specs.transitions.Successors.{Successor, successor}
use Rattle.pt_bare_runs.specs.Strides as B
use Rattle.pt_bare_runs.specs.Strides.{Stride, behind, logged}
use Rattle.pt_bare_runs.specs.Laws.{ending_with, IsAlike, BareRunsAreRuns, RunsAreAlike, HasOneOutcome}
use Rattle.pt_bare_runs.proofs.Steps.{Waiter, Point, if_true, if_false, waitings_of, stand, bare, ArePlain, IsPlain, at_store, at_world, same_full, same_active}
use Rattle.pt_bare_runs.proofs.Steps.{same_here, same_line, solo, Leads, to_turn, to_ending, is_stuck, arrives, stopped, stepped, quiet, turned, all_turned, all_logged, all_told, told, block_begins}

either : {A : Type 0} (b : Bool) (x : A) → (if b then x else x) ≡ x
either true x = refl
either false x = refl

-- happenings that the log has no line for, so that none is a raise; and those with one raise among such ones
abbrev AreQuiet : {V : Type 0} → List (Happening V) → Type 0
AreQuiet [] = Unit {0}
AreQuiet (h ∷ hs) = (trace_kind h ≡ None) × AreQuiet hs

data HasRaise {V : Type 0} (v : V) : List (Happening V) → Type 0 where
  at_head : (hs : List (Happening V)) → AreQuiet hs → HasRaise v (Told.raises v ∷ hs)
  further : (h : Happening V) (hs : List (Happening V)) → trace_kind h ≡ None → HasRaise v hs → HasRaise v (h ∷ hs)

module _ {V : Type 0} where
  quiet_append : (hs ks : List (Happening V)) → AreQuiet hs → AreQuiet ks → AreQuiet (hs ++ ks)
  quiet_append [] ks p q = q
  quiet_append (h ∷ hs) ks p q = (p.0, quiet_append hs ks p.1 q)

  no_raise : (hs : List (Happening V)) → AreQuiet hs → only_raises hs ≡ []
  no_raise [] q = refl
  no_raise (Told.raises v ∷ hs) q = let e = q.0 in absurd cc
  no_raise (h ∷ hs) q = no_raise hs q.1

  raise_last : (v : V) (hs ks : List (Happening V)) → AreQuiet hs → HasRaise v ks → HasRaise v (hs ++ ks)
  raise_last v [] ks p q = q
  raise_last v (h ∷ hs) ks p q = further h (hs ++ ks) p.0 (raise_last v hs ks p.1 q)

  raise_only : (v : V) (hs : List (Happening V)) → HasRaise v hs → HasRaise v (only_raises hs)
  raise_only v _ (at_head hs q) = at_head (only_raises hs) (subst AreQuiet (sym (no_raise hs q)) tt)
  raise_only v _ (further h hs e r) = only_behind h e (raise_only v hs r)
    where
      only_behind : (h : Happening V) → trace_kind h ≡ None → HasRaise v (only_raises hs) → HasRaise v (only_raises (h ∷ hs))
      only_behind (Told.raises u) e k = absurd cc
      only_behind h e k = k

  builtin_quiet : {A : Type 0} (f : V) (c : Callee V) (r : Reply V A) → AreQuiet (of_builtin f c r)
  builtin_quiet f c (got u) = by c.is_builtin
    where
      by : (b : Bool) → AreQuiet (if b then Told.returns_from f c.first ∷ [] else [])
      by true = (refl, tt)
      by false = tt
  builtin_quiet f c (raised v) = by c.is_builtin
    where
      by : (b : Bool) → AreQuiet (if b then Told.raises_from f c.first ∷ [] else [])
      by true = (refl, tt)
      by false = tt

  call_quiet : {A : Type 0} (a : Ask V) (c : Option (Callee V)) (r : Reply V A) → AreQuiet (of_call a c r)
  call_quiet (T.seek (T.operate (T.call rs) (f ∷ vs))) (Some c) r = builtin_quiet f c r
  call_quiet a c r = tt

  stop_quiet : (e : Option V) → AreQuiet (stop_event e)
  stop_quiet (Some e) = (refl, tt)
  stop_quiet None = tt

  answered_quiet : (d : ℕ) (null : V) (c : Option (Callee V)) (a : Ask V) (u : Answer V a) → AreQuiet (map (happening d null c) (E.answered a u))
  answered_quiet d null c (T.test (T.branch v)) u = (refl, tt)
  answered_quiet d null c (T.test (T.matches e v)) true = (refl, tt)
  answered_quiet d null c (T.next_of i) u = (refl, tt)
  answered_quiet d null c a u = tt

  before_quiet : (d : ℕ) (null : V) (c : Option (Callee V)) (a : Ask V) → AreQuiet (map (happening d null c) (E.before a))
  before_quiet d null c (T.seek (T.operate (T.call rs) (f ∷ vs))) = (refl, tt)
  before_quiet d null c (T.leave T.jumping) = (refl, tt)
  before_quiet d null c a = tt

-- an exception that arises is told as a raise, or as one that goes on
data IsRaise {V : Type 0} (v : V) : E.Event V → Type 0 where
  first_time : IsRaise v (E.raises v)
  once_more : IsRaise v (E.raises_again v)

arisen_is_raise : {V : Type 0} (active : Option V) (a : Ask V) (v : V) → IsRaise v (E.arisen active a v)
arisen_is_raise (Some e) (T.throw T.raising_again) v = once_more
arisen_is_raise active a v = first_time

module _ {S N V W : Type 0} (machine : Machine S V) (host : Host N V W) (n : ℕ) where
  abbrev RunState : Type 0
  RunState = run.State S N V W

  abbrev Led : RunState → Stride S N V W → Type 0
  Led s x = Leads machine host n s x

  world_stays : (h : Happening V) (f : Frame N V) (w : W) → trace_kind h ≡ None → world_behind host h f w ≡ w
  world_stays (Told.raises v) f w e = absurd cc
  world_stays h f w e = refl

  stays_turned : (h : Happening V) (x : Point S N V W) → trace_kind h ≡ None → turned machine host n h x ≡ x
  stays_turned h x e = ap (λ w. at_world w x) (world_stays h x.here.frame x.world e)

  all_stay : (hs : List (Happening V)) (x : Point S N V W) → AreQuiet hs → all_turned machine host n hs x ≡ x
  all_stay [] x q = refl
  all_stay (h ∷ hs) x q = ap (all_turned machine host n hs) (stays_turned h x q.0) ∙ all_stay hs x q.1

  entering : V → Point S N V W → Point S N V W
  entering v x = at_world (world_with_entry host v x.here.frame x.world) x

  enters : (v : V) (hs : List (Happening V)) (x : Point S N V W) → HasRaise v hs → all_turned machine host n hs x ≡ entering v x
  unfolding entering
  enters v _ x (at_head hs q) = all_stay hs (turned machine host n (Told.raises v) x) q
  enters v _ x (further h hs e r) = ap (all_turned machine host n hs) (stays_turned h x e) ∙ enters v hs x r

  unlogged : (h : Happening V) (s : B.State S N V W) → trace_kind h ≡ None → logged machine host h s ≡ []
  unlogged h s e = ap (λ k. if s.here.frame.block.hidden then [] else B.line_of_kind machine host k h s) e ∙ either s.here.frame.block.hidden []

  quiet_unlogged : (hs : List (Happening V)) (x : Point S N V W) → AreQuiet hs → all_logged machine host n hs x ≡ []
  quiet_unlogged [] x q = refl
  quiet_unlogged (h ∷ hs) x q =
      ap (λ ws. ws ++ all_logged machine host n hs (turned machine host n h x)) (unlogged h (bare (turned machine host n h x)) q.0) ∙ quiet_unlogged hs (turned machine host n h x) q.1

  raise_logged : (v : V) (hs : List (Happening V)) (x : Point S N V W) → HasRaise v hs → all_logged machine host n hs x ≡ logged machine host (Told.raises v) (bare (entering v x))
  unfolding entering
  raise_logged v _ x (at_head hs q) =
      ap (λ ws. logged machine host (Told.raises v) (bare (turned machine host n (Told.raises v) x)) ++ ws) (quiet_unlogged hs (turned machine host n (Told.raises v) x) q)
      ∙ append-nil (logged machine host (Told.raises v) (bare (turned machine host n (Told.raises v) x)))
  raise_logged v _ x (further h hs e r) =
      ap (λ ws. ws ++ all_logged machine host n hs (turned machine host n h x)) (unlogged h (bare (turned machine host n h x)) e)
      ∙ ap (all_logged machine host n hs) (stays_turned h x e) ∙ raise_logged v hs x r

  -- a reply that is told leads on, from where all of that had its turn
  tells : (q : OpenAsk S V) (r : Reply V (Answer V q.ask)) (hs : List (Happening V)) (p : Phase S N V W) (x y : Point S N V W) (ws : List Write) → IsPlain y
      → all_turned machine host n hs x ≡ y → all_logged machine host n hs x ≡ ws
      → Led (reply_and_tell machine host q r hs (stand p x)) (B.goes ws (B.in_state (q.next r) (bare y)))
  tells q r hs p x y ws plain e l =
      subst (λ z. Led (stand (telling hs (going (q.next r) (λ v. q.next (raised v)))) x) (B.goes z (B.in_state (q.next r) (bare y)))) (append-nil (all_logged machine host n hs x) ∙ l)
      (all_told machine host n (going (q.next r) (λ v. q.next (raised v))) (B.goes [] (B.in_state (q.next r) (bare y))) hs x
      (subst (λ z. Led (stand turning (record z { here = record z.here { state = q.next r } })) (B.goes [] (B.in_state (q.next r) (bare y)))) (sym e)
      (arrives machine host n (record y { here = record y.here { state = q.next r } }) plain)))

  tells_quietly : (q : OpenAsk S V) (r : Reply V (Answer V q.ask)) (hs : List (Happening V)) (p : Phase S N V W) (x : Point S N V W) → IsPlain x → AreQuiet hs
      → Led (reply_and_tell machine host q r hs (stand p x)) (B.goes [] (B.in_state (q.next r) (bare x)))
  tells_quietly q r hs p x plain h = tells q r hs p x x [] plain (all_stay hs x h) (quiet_unlogged hs x h)

  abbrev told_of : (is_act : Bool) → List (Happening V) → List (Happening V)
  told_of b hs = if b then hs else only_raises hs

  told_quiet : (b : Bool) (hs : List (Happening V)) → AreQuiet hs → AreQuiet (told_of b hs)
  told_quiet true hs q = q
  told_quiet false hs q = subst AreQuiet (sym (no_raise hs q)) tt

  got_leads : (q : OpenAsk S V) (u : Answer V q.ask) (es : List (Happening V)) (p : Phase S N V W) (x : Point S N V W) → IsPlain x → AreQuiet es
      → Led (reply_to machine host q (got u) es (stand p x)) (B.goes [] (B.in_state (q.next (got u)) (bare x)))
  got_leads q u es p x plain h =
      tells_quietly q (got u) (told_of q.is_act (P.events_behind machine host q (got u) es (stand p x))) p x plain
      (told_quiet q.is_act _ (quiet_append (of_call q.ask q.callee (got u) ++ es) _ (quiet_append (of_call q.ask q.callee (got u)) es (call_quiet q.ask q.callee (got u)) h)
      (answered_quiet (P.destination machine host (q.next (got u)) (stand p x)) host.null None q.ask u)))

  module _ (q : OpenAsk S V) (v : V) (p : Phase S N V W) (x : Point S N V W) (plain : IsPlain x) where
    abbrev reply : Reply V (Answer V q.ask)
    reply = raised v

    -- what is told before the raise
    abbrev before : List (Happening V)
    before = of_call q.ask q.callee reply ++ []

    before_is_quiet : AreQuiet before
    before_is_quiet = quiet_append (of_call q.ask q.callee reply) [] (call_quiet q.ask q.callee reply) tt

    abbrev told_with : E.Event V → List (Happening V)
    told_with e = before ++ happening (P.destination machine host (q.next reply) (stand p x)) host.null None e ∷ []

    has_raise : (b : Bool) → HasRaise v (told_of b (before ++ Told.raises v ∷ []))
    has_raise true = raise_last v before (Told.raises v ∷ []) before_is_quiet (at_head [] tt)
    has_raise false = raise_only v _ (raise_last v before (Told.raises v ∷ []) before_is_quiet (at_head [] tt))

    arising : (e : E.Event V) → IsRaise v e → Led (reply_and_tell machine host q reply (told_of q.is_act (told_with e)) (stand p x)) (B.arise machine host e (q.next reply) (bare x))
    unfolding entering
    arising _ first_time =
        tells q reply _ p x (entering v x) (logged machine host (Told.raises v) (bare (entering v x))) plain (enters v _ x (has_raise q.is_act)) (raise_logged v _ x (has_raise q.is_act))
    arising _ once_more = tells_quietly q reply _ p x plain (told_quiet q.is_act _ (quiet_append before (Told.raises_again v ∷ []) before_is_quiet (refl, tt)))

    raised_leads : Led (reply_to machine host q (raised v) [] (stand p x)) (B.arise machine host (E.arisen (B.here_of machine host (bare x)).active q.ask v) (q.next (raised v)) (bare x))
    raised_leads =
        subst (λ o. Led (reply_to machine host q (raised v) [] (stand p x)) (B.arise machine host (E.arisen o q.ask v) (q.next (raised v)) (bare x))) (same_active machine host p x)
        (arising (E.arisen (Views.active machine (stand p x)) q.ask v) (arisen_is_raise (Views.active machine (stand p x)) q.ask v))

  leave_leads : (q : OpenAsk S V) (what : What) (x : Point S N V W)
      → Led (stand (answering q (H.leave what)) x) (B.ends [] x.units (B.outside_at what (B.visible_line machine host (bare x))))
  leave_leads q what x =
      stopped machine host n (stand (answering q (H.leave what)) x) (B.outside_at what (B.visible_line machine host (bare x))) []
      (ap (λ l. O.ends (O.outside what l)) (same_line machine host (answering q (H.leave what)) x))

  abbrev ask_of : (a : Ask V) → (Reply V (Answer V a) → S) → Bool → Option (Callee V) → OpenAsk S V
  ask_of a k b c = record { ask = a; next = k; is_act = b; callee = c }

  abbrev answered : (q : OpenAsk S V) → Answering N V W (Finding V q.ask) → Point S N V W → RunState
  answered q a x = stand (answering q a) x

  finding_leads : (a : Ask V) (k : Reply V (Answer V a) → S) (b : Bool) (c : Option (Callee V)) (v : Finding V a) (st : Store N W) (x : Point S N V W) → IsPlain x
      → Led (answered (ask_of a k b c) (H.answer v st) x) (B.lead machine host a (successor (by_finding a k (ask_of a k b c) v st)) (bare x))
  finding_leads (T.next_of i) k b c (H.an_item v) st x p =
      quiet machine host n _ _ [] _ refl refl (got_leads (ask_of (T.next_of i) k b c) (Some v) [] (answering (ask_of (T.next_of i) k b c) (H.answer (H.an_item v) st)) (at_store st x) p tt)
  finding_leads (T.next_of i) k b c (H.no_item e) st x p =
      quiet machine host n _ _ [] _ refl refl (got_leads (ask_of (T.next_of i) k b c) None (stop_event e) (answering (ask_of (T.next_of i) k b c) (H.answer (H.no_item e) st)) (at_store st x) p (stop_quiet e))
  finding_leads (T.delegate i r) k b c (H.passes_on v) st x p = is_stuck
  finding_leads (T.delegate i r) k b c (H.ends_with v) st x p =
      quiet machine host n _ _ [] _ refl refl (got_leads (ask_of (T.delegate i r) k b c) (T.returned v) [] (answering (ask_of (T.delegate i r) k b c) (H.answer (H.ends_with v) st)) (at_store st x) p tt)
  finding_leads (T.seek a) k b c v st x p = quiet machine host n _ _ [] _ refl refl (got_leads (ask_of (T.seek a) k b c) v [] (answering (ask_of (T.seek a) k b c) (H.answer v st)) (at_store st x) p tt)
  finding_leads (T.deed a) k b c v st x p = quiet machine host n _ _ [] _ refl refl (got_leads (ask_of (T.deed a) k b c) v [] (answering (ask_of (T.deed a) k b c) (H.answer v st)) (at_store st x) p tt)
  finding_leads (T.leave a) k b c v st x p = quiet machine host n _ _ [] _ refl refl (got_leads (ask_of (T.leave a) k b c) v [] (answering (ask_of (T.leave a) k b c) (H.answer v st)) (at_store st x) p tt)
  finding_leads (T.throw a) k b c v st x p = quiet machine host n _ _ [] _ refl refl (got_leads (ask_of (T.throw a) k b c) v [] (answering (ask_of (T.throw a) k b c) (H.answer v st)) (at_store st x) p tt)
  finding_leads (T.test a) k b c v st x p = quiet machine host n _ _ [] _ refl refl (got_leads (ask_of (T.test a) k b c) v [] (answering (ask_of (T.test a) k b c) (H.answer v st)) (at_store st x) p tt)
  finding_leads (T.iter_of a) k b c v st x p = quiet machine host n _ _ [] _ refl refl (got_leads (ask_of (T.iter_of a) k b c) v [] (answering (ask_of (T.iter_of a) k b c) (H.answer v st)) (at_store st x) p tt)
  finding_leads (T.enter a) k b c v st x p = quiet machine host n _ _ [] _ refl refl (got_leads (ask_of (T.enter a) k b c) v [] (answering (ask_of (T.enter a) k b c) (H.answer v st)) (at_store st x) p tt)
  finding_leads (T.unpack a m t) k b c v st x p =
      quiet machine host n _ _ [] _ refl refl (got_leads (ask_of (T.unpack a m t) k b c) v [] (answering (ask_of (T.unpack a m t) k b c) (H.answer v st)) (at_store st x) p tt)

  -- a block opens, or the RecursionError in its place leads on
  module _ (q : OpenAsk S V) (o : Opening N V) (f : BlockResult N V → Store N W → Answering N V W (Finding V q.ask)) where
    abbrev leads : BlockResult N V → Store N W → Successor S N V W
    leads r st = successor (by_answer q (f r st))

    abbrev goes_on : BlockResult N V → B.State S N V W → Stride S N V W
    goes_on r z = B.lead machine host q.ask (leads r (B.store z)) z

    abbrev opened : Point S N V W → Point S N V W
    opened x = record x {
      here = run.begin machine o x.frames false;
      waiters = record { activation = x.here; ask = q; rest = f } ∷ x.waiters;
      frames = x.frames + 1;
    }

    opening_leads : (p : Phase S N V W) (x : Point S N V W) → IsPlain x
        → ((r : BlockResult N V) (st : Store N W) (y : Point S N V W) → IsPlain y → Led (answered q (f r st) y) (B.lead machine host q.ask (leads r st) (bare y)))
        → Led (Q.run_block machine host o (run.of_ask q f) (stand p x)) (B.open_or_fail machine host q.ask leads goes_on o (bare x))
    opening_leads p x plain ih =
        subst (λ b. Led (if b then Q.fail_opening machine host (run.of_ask q f) (λ v. record { end = left_by v; names = o.names }) (host.makes too_deep (Views.here_of machine (stand p x)) x.world) (stand p x) else stand (telling (starts ∷ []) (starting (machine.start o.block o.iterator))) (opened x))
        (B.open_or_fail machine host q.ask leads goes_on o (bare x))) (sym (same_full p x)) (by (B.is_full (bare x)))
      where
        failing : (m : Made V W) → Led (Q.fail_opening machine host (run.of_ask q f) (λ v. record { end = left_by v; names = o.names }) m (stand p x)) (B.fail_opening machine host goes_on o m (bare x))
        failing (made v w) = ih (record { end = left_by v; names = o.names }) (record { names = x.here.frame.names; world = w }) (at_world w x) plain
        failing (beyond what) = leave_leads q what x

        by : (b : Bool) → Led (if b then Q.fail_opening machine host (run.of_ask q f) (λ v. record { end = left_by v; names = o.names }) (host.makes too_deep (Views.here_of machine (stand p x)) x.world) (stand p x) else stand (telling (starts ∷ []) (starting (machine.start o.block o.iterator))) (opened x))
            (if b then B.fail_opening machine host goes_on o (host.makes too_deep (B.here_of machine host (bare x)) x.world) (bare x) else B.goes (logged machine host starts (bare (opened x))) (bare (opened x)))
        by true =
            subst (λ h. Led (Q.fail_opening machine host (run.of_ask q f) (λ v. record { end = left_by v; names = o.names }) (host.makes too_deep (Views.here_of machine (stand p x)) x.world) (stand p x))
            (B.fail_opening machine host goes_on o (host.makes too_deep h x.world) (bare x))) (same_here machine host p x) (failing (host.makes too_deep (Views.here_of machine (stand p x)) x.world))
        by false = block_begins machine host n (opened x) (refl, (plain.0, plain.1))

  module _ (q : OpenAsk S V) where
    answer_leads : (a : Answering N V W (Finding V q.ask)) (x : Point S N V W) → IsPlain x
        → Led (answered q a x) (B.lead machine host q.ask (successor (by_answer q a)) (bare x))
    answer_leads (H.answer v st) x p = finding_leads q.ask q.next q.is_act q.callee v st x p
    answer_leads (H.raise v st) x p = quiet machine host n _ _ [] _ refl refl (raised_leads q v (answering q (H.raise v st)) (at_store st x) p)
    answer_leads (H.print t f) x p = stepped machine host n _ _ (O.prints t ∷ []) (write to_out t ∷ []) _ refl refl (answer_leads f x p)
    answer_leads (H.leave what) x p = leave_leads q what x
    answer_leads (H.request (H.opens o) st f) x p =
        quiet machine host n _ _ [] _ refl refl
        (opening_leads q o f (answering q (H.request (H.opens o) st f)) (at_store st x) p (λ r st1 y py. answer_leads (f r st1) y py))
    answer_leads (H.request r st f) x p = is_stuck

  -- the block ends: its result goes to what waits, or the run ends
  module_ends : (v : V) (x : Point S N V W) (l : Leaving) → host.leaving v x.world ≡ l
      → Led (stand (closing (left_by v)) (record x { waiters = [] })) (B.ends [] x.units (B.end_by_exception machine host v l (bare (record x { waiters = [] }))))
  module_ends v x (H.exits k t) e =
      stopped machine host n _ _ [] (ap (λ l. O.ends (P.end_by_exception machine host v l (P.close_frame machine host (stand (closing (left_by v)) (record x { waiters = [] }))))) e)
  module_ends v x H.exits_oddly e =
      stopped machine host n _ _ [] (ap (λ l. O.ends (P.end_by_exception machine host v l (P.close_frame machine host (stand (closing (left_by v)) (record x { waiters = [] }))))) e)
  module_ends v x (H.fails es) e =
      stopped machine host n _ _ (Views.frames_of_trace host.first_line es (P.close_frame machine host (stand (closing (left_by v)) (record x { waiters = [] }))))
      (ap (λ l. O.ends (P.end_by_exception machine host v l (P.close_frame machine host (stand (closing (left_by v)) (record x { waiters = [] }))))) e)

  closing_leads : (e : End V) (ws : List (Waiter S N V W)) (x : Point S N V W) → ArePlain ws
      → Led (stand (closing e) (record x { waiters = ws })) (B.close machine host e (waitings_of ws) (bare (record x { waiters = ws })))
  closing_leads (gave v) [] x p = stopped machine host n _ B.done [] refl
  closing_leads (left_by v) [] x p = module_ends v x (host.leaving v x.world) refl
  closing_leads e (w ∷ ws) x p =
      quiet machine host n _ _ [] _ refl refl
      (answer_leads w.ask (w.rest (record { end = e; names = x.here.frame.names }) (record { names = w.activation.frame.names; world = x.world }))
      (record x { here = w.activation; waiters = ws; past = P.frame_left machine host (stand (closing e) (record x { waiters = w ∷ ws })) ∷ x.past }) (p.0, p.1))

  ask_leads : (a : Ask V) (k : Reply V (Answer V a) → S) (b : Bool) (c : Option (Callee V)) (p : Phase S N V W) (x : Point S N V W) → IsPlain x
      → Led (do_ask machine host a k b c (stand p x))
      (B.lead machine host a (successor (transitions.of_open_ask host (ask_of a k b c) (Views.here_of machine (stand p x)) (store (stand p x)))) (bare x))
  ask_leads (T.seek (T.yielding v)) k b c p x plain = is_stuck
  ask_leads a k b c p x plain =
      answer_leads (ask_of a k b c) (host.answers a (Views.here_of machine (stand p x)) (store (stand p x))) x plain

  done_leads : (a : Ask V) (k : Reply V (Answer V a) → S) (b : Bool) (c : Option (Callee V)) (p : Phase S N V W) (x : Point S N V W) → IsPlain x
      → Led (do_ask machine host a k b c (stand p x))
      (B.lead machine host a (successor (transitions.of_open_ask host (ask_of a k b c) (B.here_of machine host (bare x)) (B.store (bare x)))) (bare x))
  done_leads a k b c p x plain =
      subst (λ h. Led (do_ask machine host a k b c (stand p x)) (B.lead machine host a (successor (transitions.of_open_ask host (ask_of a k b c) h (B.store (bare x)))) (bare x)))
      (same_here machine host p x) (ask_leads a k b c p x plain)

  abbrev begun : Mark → Point S N V W → Point S N V W
  begun m x = record x { here = record x.here { frame = record x.here.frame { line = Some m.line }; act = m.act; behind_jump = false }; units = suc x.units }

  -- before an act: its line, if it is told, and then what the log has no line for
  abbrev line_before_act : (m : Mark) (l : Option ℕ) (j : Bool) → List (Happening V)
  line_before_act m l j = if is_told l m then Told.line j ∷ [] else []

  line_stays : (m : Mark) (l : Option ℕ) (j : Bool) (hs : List (Happening V)) (x : Point S N V W) → AreQuiet hs → all_turned machine host n (line_before_act m l j ++ hs) x ≡ x
  line_stays m l j hs x q = by (is_told l m)
    where
      by : (b : Bool) → all_turned machine host n ((if b then Told.line j ∷ [] else []) ++ hs) x ≡ x
      by true = all_stay hs x q
      by false = all_stay hs x q

  line_logged : (m : Mark) (l : Option ℕ) (j : Bool) (hs : List (Happening V)) (x : Point S N V W) → j ≡ false → AreQuiet hs
      → all_logged machine host n (line_before_act m l j ++ hs) x ≡ B.line_logged machine host m l (bare x)
  line_logged m l j hs x e q = by (is_told l m)
    where
      by : (b : Bool) → all_logged machine host n ((if b then Told.line j ∷ [] else []) ++ hs) x ≡ (if b then logged machine host (Told.line false) (bare x) else [])
      by true =
          ap (λ ws. logged machine host (Told.line j) (bare x) ++ ws) (quiet_unlogged hs x q) ∙ append-nil (logged machine host (Told.line j) (bare x))
          ∙ ap (λ i. logged machine host (Told.line i) (bare x)) e
      by false = quiet_unlogged hs x q

  act_leads : (m : Mark) (a : Ask V) (k : Reply V (Answer V a) → S) (x : Point S N V W) → IsPlain x → machine.turn x.here.frame.block x.here.state ≡ T.act (Some m) a k
      → (b : Bool) → nat_lt x.units n ≡ b
      → Led (stand turning x)
      (if b then behind (B.line_logged machine host m (line_before x.here) (bare (begun m x)))
      (B.lead machine host a (successor (transitions.transition host (T.act (Some m) a k) (B.here_of machine host (bare (begun m x))) (B.store (bare (begun m x))))) (bare (begun m x)))
      else B.ends [] x.units B.spent)
  act_leads m a k x plain turns false e =
      stopped machine host n (stand turning x) B.spent [] (ap (λ t. begin_turn machine host n t (stand turning x)) turns ∙ if_false (nat_lt x.units n) _ _ e)
  act_leads m a k x plain turns true e =
      quiet machine host n _ _ (O.begins x.here.frame.block m ∷ []) _ (ap (λ t. begin_turn machine host n t (stand turning x)) turns ∙ if_true (nat_lt x.units n) _ _ e) refl
      (subst (λ ws. Led (stand (telling hs (doing q)) (begun m x)) (behind ws next)) logs
      (all_told machine host n (doing q) next hs (begun m x)
      (subst (λ y. Led (P.proceed machine host (doing q) (stand (telling [] (doing q)) y)) next) (sym turns_stay) (done_leads a k true c (telling [] (doing q)) (begun m x) (refl, plain.1)))))
    where
      c : Option (Callee V)
      c = callee_of host a x.world

      q : OpenAsk S V
      q = ask_of a k true (callee_of host a x.world)

      hs : List (Happening V)
      hs = P.events_before machine host m a k (callee_of host a x.world) (stand turning x)

      next : Stride S N V W
      next = B.lead machine host a (successor (transitions.transition host (T.act (Some m) a k) (B.here_of machine host (bare (begun m x))) (B.store (bare (begun m x))))) (bare (begun m x))

      quietly : AreQuiet (map (happening (P.leads_to machine host a k (stand turning x)) host.null (callee_of host a x.world)) (E.before a))
      quietly = before_quiet (P.leads_to machine host a k (stand turning x)) host.null (callee_of host a x.world) a

      turns_stay : all_turned machine host n hs (begun m x) ≡ begun m x
      turns_stay = line_stays m (line_before x.here) x.here.behind_jump _ (begun m x) quietly

      logs : all_logged machine host n hs (begun m x) ≡ B.line_logged machine host m (line_before x.here) (bare (begun m x))
      logs = line_logged m (line_before x.here) x.here.behind_jump _ (begun m x) plain.0 quietly

  pub turn_leads : (t : Turn S V) (x : Point S N V W) → IsPlain x → machine.turn x.here.frame.block x.here.state ≡ t → Led (stand turning x) (B.take_turn machine host n t (bare x))
  turn_leads (T.act (Some m) a k) x plain turns = act_leads m a k x plain turns (nat_lt x.units n) refl
  turn_leads (T.act None a k) x plain turns =
      quiet machine host n _ _ [] _ (ap (λ t. begin_turn machine host n t (stand turning x)) turns) refl
      (quiet machine host n (stand (telling [] (doing (ask_of a k false None))) x) _ [] _ refl refl (done_leads a k false None (telling [] (doing (ask_of a k false None))) x plain))
  turn_leads (T.note (T.raised_again v) k) x plain turns =
      quiet machine host n _ _ [] _ (ap (λ t. begin_turn machine host n t (stand turning x)) turns) refl
      (subst (λ ws. Led (stand (telling (Told.raises_again v ∷ []) (going (k (got tt)) (λ u. k (raised u)))) x) (B.goes ws (B.in_state (k (got tt)) (bare x))))
      (append-nil (logged machine host (Told.raises_again v) (bare x)) ∙ unlogged (Told.raises_again v) (bare x) refl)
      (told machine host n (going (k (got tt)) (λ u. k (raised u))) (B.goes [] (B.in_state (k (got tt)) (bare x))) (Told.raises_again v) x (arrives machine host n (record x { here = record x.here { state = k (got tt) } }) plain)))
  turn_leads (T.move c) x plain turns =
      quiet machine host n _ _ [] _ (ap (λ t. begin_turn machine host n t (stand turning x)) turns) refl (arrives machine host n (record x { here = record x.here { state = c } }) plain)
  turn_leads (T.over (gave v)) x plain turns =
      quiet machine host n _ _ [] _ (ap (λ t. begin_turn machine host n t (stand turning x)) turns) refl
      (told machine host n (ending (gave v)) _ (Told.returns v) x (closing_leads (gave v) x.waiters x plain.1))
  turn_leads (T.over (left_by v)) x plain turns =
      quiet machine host n _ _ [] _ (ap (λ t. begin_turn machine host n t (stand turning x)) turns) refl
      (told machine host n (ending (left_by v)) _ (Told.unwinds v) x (closing_leads (left_by v) x.waiters x plain.1))
  turn_leads T.stuck x plain turns = is_stuck

  one_outcome : (m : Stride S N V W) (o p : B.Outcome V W) → B.Comes machine host n m o → B.Comes machine host n m p → o ≡ p
  one_outcome _ _ _ (B.ends_so ws u e) (B.ends_so _ _ _) = refl
  one_outcome _ _ _ (B.goes_on ws s o c) (B.goes_on _ _ p d) = ap (B.outcome_behind ws) (one_outcome _ o p c d)

  pub bare_runs_once : (b : BlockId) (names : N) (world : W) → HasOneOutcome machine host n b names world
  bare_runs_once b names world o p c d = one_outcome _ o p c d

  -- so a run comes to an outcome that is alike
  abbrev HasAlike : RunState → B.Outcome V W → Type 0
  HasAlike s o = (p : R.Outcome (Unit {0}) N V W) × R.Runs machine host nobody n (solo machine host n s) p × IsAlike p o

  pub comes : (m : Stride S N V W) (s : RunState) (o : B.Outcome V W) → Led s m → B.Comes machine host n m o → HasAlike s o
  comes _ s _ (to_ending _ _ _ h) (B.ends_so ws u e) = (
    R.outcome_behind h.outputs (record { outputs = []; units = h.last.units; ending = ending_with h.frames e; debugger = tt }),
    has_parts machine host nobody n (solo machine host n s) h.outputs (solo machine host n h.last) _ h.goes
        (subst (λ m. R.Comes machine host nobody n h.last.units m (record { outputs = []; units = h.last.units; ending = ending_with h.frames e; debugger = tt }))
        (sym (ap (R.move_by machine host nobody tt) h.stops)) (ends_so h.last.units [] tt (ending_with h.frames e))),
    record { written = ap (writes true) (append-nil h.outputs) ∙ h.written; units = h.units; frames = h.frames; ending = refl },
  )
  comes _ s _ (to_turn _ _ h) (B.goes_on ws b o c) =
      let k = comes _ (stand turning h.point) o (subst (λ z. Led (stand turning h.point) (B.stride machine host n z)) h.is_bare (turn_leads _ h.point h.plain refl)) c in (
        R.outcome_behind h.outputs k.0,
        has_parts machine host nobody n (solo machine host n s) h.outputs (solo machine host n (stand turning h.point)) k.0 h.goes k.1,
        record {
          written = writes_append h.outputs k.0.outputs ∙ ap (λ x. x ++ writes true k.0.outputs) h.written ∙ ap (λ x. ws ++ x) k.2.written;
          units = k.2.units;
          frames = k.2.frames;
          ending = k.2.ending;
        },
      )
  comes _ s _ is_stuck c = elim c [ ]

  pub bare_runs_are_runs : (b : BlockId) (names : N) (world : W) → BareRunsAreRuns machine host n b names world
  bare_runs_are_runs b names world o c = comes _ _ o (block_begins machine host n first (refl, tt)) c
    where
      first : Point S N V W
      first = record { here = run.activation_of machine b None names 0 false; waiters = []; world = world; units = 0; frames = 1; past = [] }

  pub runs_are_alike : (b : BlockId) (names : N) (world : W) → RunsAreAlike machine host n b names world
  runs_are_alike b names world o p c r =
      let k = bare_runs_are_runs b names world o c in
      subst (λ q. IsAlike q o) (runs_once machine host nobody n (session machine b names world tt) k.0 p k.1 r) k.2
