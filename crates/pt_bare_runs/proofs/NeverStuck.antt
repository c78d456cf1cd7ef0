-- A bare run is never stuck where no value is given on and nothing is requested but that blocks run.
use Rattle.std.proofs.Common.{ℕ, List, [], ◌∷◌, Bool, true, false, Some, None, subst, if◌then◌else◌}
use Rattle.std.specs.Prelude.{nat_lt}
use Rattle.sem_control.specs.control.Turn as T
use Rattle.sem_control.specs.control.Turn.{Ask, Answer, Reply, got, raised, End, gave, left_by, Turn}
use Rattle.sem_control.specs.control.Events as E
use Rattle.sem_run.specs.run.Machine.{BlockId, Machine}
use Rattle.sem_run.specs.run.Host as H
use Rattle.sem_run.specs.run.Host.{Host, Here, Store, Opening, BlockResult, Answering, Finding, Made, made, beyond, too_deep}
use Rattle.sem_run.specs.run.State.{OpenAsk}
use Rattle.sem_run.specs.run.Step.{callee_of, line_before}
use Rattle.sem_run.specs.run.Run.{Write, write, to_out}
use Rattle.sem_run.specs.transitions.Transitions.{by_answer, by_finding, of_open_ask}
use Rattle.sem_run.specs.transitions.Successors.{Successor, to, arises, behind_print, behind_request, outside, successor}
use Rattle.pt_bare_runs.specs.Strides as B
use Rattle.pt_bare_runs.specs.Strides.{Waiting, State, Stride, behind}
use Rattle.pt_bare_runs.specs.Laws.{RunsOnlyBlocks, OpensOnly, AsksPlainly, TurnStays, GivesNothingOn, Reaches, here, further, NeverStuck}

-- where an ask leads, behind whatever its blocks give, lies among these states
abbrev LeadsIn : {S N V W : Type 0} → (S → Type 0) → Successor S N V W → Type 0
LeadsIn Within (to c st) = Within c
LeadsIn Within (arises v c st) = Within c
LeadsIn Within (behind_print t x) = LeadsIn Within x
LeadsIn {N = N} {V = V} {W = W} Within (behind_request (H.opens o) st f) = (r : BlockResult N V) (st1 : Store N W) → LeadsIn Within (f r st1)
LeadsIn Within (outside what) = Unit {0}
LeadsIn Within x = ⊥

module _ {S N V W : Type 0} (machine : Machine S V) (host : Host N V W) (n : ℕ) (Within : BlockId → S → Type 0) (plain : GivesNothingOn machine Within) (opens : OpensOnly host) where
  abbrev AllIn : List (Waiting S N V W) → Type 0
  AllIn [] = Unit {0}
  AllIn (o ∷ os) = ((r : BlockResult N V) (st : Store N W) → LeadsIn (Within o.activation.frame.block) (o.leads r st)) × AllIn os

  abbrev IsIn : State S N V W → Type 0
  IsIn s = Within s.here.frame.block s.here.state × AllIn s.waiting

  data Stays : Stride S N V W → Type 0 where
    goes_in : (ws : List Write) (s : State S N V W) → IsIn s → Stays (B.goes ws s)
    stops : (ws : List Write) (u : ℕ) (e : B.Ending V W) → Stays (B.ends ws u e)

  stays_behind : (ws : List Write) (x : Stride S N V W) → Stays x → Stays (behind ws x)
  stays_behind ws _ (goes_in vs s i) = goes_in _ s i
  stays_behind ws _ (stops vs u e) = stops _ u e

  either_stays : (b : Bool) (x y : Stride S N V W) → Stays x → Stays y → Stays (if b then x else y)
  either_stays true x y p q = p
  either_stays false x y p q = q

  arise_stays : (e : E.Event V) (c : S) (s : State S N V W) → Within s.here.frame.block c → AllIn s.waiting → Stays (B.arise machine host e c s)
  arise_stays (E.raises v) c s i all = goes_in _ _ (i, all)
  arise_stays e c s i all = goes_in _ _ (i, all)

  lead_stays : (a : Ask V) (x : Successor S N V W) (s : State S N V W) → LeadsIn (Within s.here.frame.block) x → AllIn s.waiting → Stays (B.lead machine host a x s)
  lead_stays a (to c st) s i all = goes_in _ _ (i, all)
  lead_stays a (arises v c st) s i all = arise_stays _ c (B.with_store st s) i all
  lead_stays a (behind_print t x) s i all = stays_behind (write to_out t ∷ []) _ (lead_stays a x s i all)
  lead_stays a (outside what) s i all = stops _ _ _
  lead_stays a (behind_request (H.opens o) st f) s i all =
      either_stays (B.is_full (B.with_store st s)) _ _
      (failing (λ r z j k. lead_stays a (f r (B.store z)) z j k) (host.makes too_deep (B.here_of machine host (B.with_store st s)) st.world))
      (goes_in _ _ (plain.starts o.block o.iterator, (i, all)))
    where
      failing : ((r : BlockResult N V) (z : State S N V W) → LeadsIn (Within z.here.frame.block) (f r (B.store z)) → AllIn z.waiting → Stays (B.lead machine host a (f r (B.store z)) z))
          → (m : Made V W) → Stays (B.fail_opening machine host (λ r z. B.lead machine host a (f r (B.store z)) z) o m (B.with_store st s))
      failing go (made v w) = go _ (B.in_world w (B.with_store st s)) (i _ _) all
      failing go (beyond what) = stops _ _ _
  lead_stays a x s i all = absurd i

  -- the answers of the host lead on among these states
  finding_leads : (P : S → Type 0) (q : OpenAsk S V) (a : Ask V) (k : Reply V (Answer V a) → S) (v : Finding V a) (st : Store N W) → AsksPlainly a
      → ((r : Reply V (Answer V a)) → P (k r)) → LeadsIn P (successor (by_finding a k q v st))
  finding_leads P q (T.next_of i) k (H.an_item v) st p h = h _
  finding_leads P q (T.next_of i) k (H.no_item e) st p h = h _
  finding_leads P q (T.delegate i r) k v st p h = absurd p
  finding_leads P q (T.seek a) k v st p h = h _
  finding_leads P q (T.deed a) k v st p h = h _
  finding_leads P q (T.leave a) k v st p h = h _
  finding_leads P q (T.throw a) k v st p h = h _
  finding_leads P q (T.test a) k v st p h = h _
  finding_leads P q (T.iter_of a) k v st p h = h _
  finding_leads P q (T.enter a) k v st p h = h _
  finding_leads P q (T.unpack a m t) k v st p h = h _

  module _ (P : S → Type 0) (q : OpenAsk S V) (asks : AsksPlainly q.ask) (stay : (r : Reply V (Answer V q.ask)) → P (q.next r)) where
    answer_leads : (t : Answering N V W (Finding V q.ask)) → RunsOnlyBlocks t → LeadsIn P (successor (by_answer q t))
    answer_leads (H.answer v st) o = finding_leads P q q.ask q.next v st asks stay
    answer_leads (H.raise v st) o = stay (raised v)
    answer_leads (H.print t f) o = answer_leads f o
    answer_leads (H.leave what) o = tt
    answer_leads (H.request (H.opens x) st f) o = λ r st1. answer_leads (f r st1) (o r st1)
    answer_leads (H.request r st f) o = absurd o

  ask_leads : (P : S → Type 0) (q : OpenAsk S V) (a : Ask V) (k : Reply V (Answer V a) → S) (h : Here V) (st : Store N W) → AsksPlainly a
      → ((r : Reply V (Answer V a)) → P (k r)) → LeadsIn P (successor (of_open_ask host (record { ask = a; next = k; is_act = q.is_act; callee = q.callee }) h st))
  ask_leads P q (T.seek (T.yielding v)) k h st p stay = absurd p
  ask_leads P q a k h st p stay = answer_leads P (record { ask = a; next = k; is_act = q.is_act; callee = q.callee }) p stay (host.answers a h st) (opens a h st)

  close_stays : (e : End V) (os : List (Waiting S N V W)) (s : State S N V W) → AllIn os → Stays (B.close machine host e os s)
  close_stays e [] s all = stops _ _ _
  close_stays e (o ∷ os) s all =
      let r : BlockResult N V = record { end = e; names = s.here.frame.names } in
      let t : State S N V W = B.return_to machine host o os s in
      lead_stays o.ask (o.leads r (B.store t)) t (all.0 r (B.store t)) all.1

  turn_stays : (t : Turn S V) (s : State S N V W) → TurnStays (Within s.here.frame.block) t → AllIn s.waiting → Stays (B.take_turn machine host n t s)
  turn_stays (T.act (Some m) a k) s p all =
      let t : State S N V W = B.take_unit m s in
      let q : OpenAsk S V = record { ask = a; next = k; is_act = true; callee = callee_of host a s.world } in
      either_stays (nat_lt s.units n) _ _
      (stays_behind (B.line_logged machine host m (line_before s.here) t) (B.lead machine host a (successor (of_open_ask host q (B.here_of machine host t) (B.store t))) t)
      (lead_stays a (successor (of_open_ask host q (B.here_of machine host t) (B.store t))) t (ask_leads (Within s.here.frame.block) q a k (B.here_of machine host t) (B.store t) p.0 p.1) all)) (stops _ _ _)
  turn_stays (T.act None a k) s p all =
      let q : OpenAsk S V = record { ask = a; next = k; is_act = false; callee = None } in
      lead_stays a (successor (of_open_ask host q (B.here_of machine host s) (B.store s))) s (ask_leads (Within s.here.frame.block) q a k (B.here_of machine host s) (B.store s) p.0 p.1) all
  turn_stays (T.note v k) s p all = goes_in _ _ (p (got tt), all)
  turn_stays (T.move c) s p all = goes_in _ _ (p, all)
  turn_stays (T.over e) s p all = stays_behind (B.end_logged machine host e s) (B.close machine host e s.waiting s) (close_stays e s.waiting s all)
  turn_stays T.stuck s p all = absurd p

  stride_stays : (s : State S N V W) → IsIn s → Stays (B.stride machine host n s)
  stride_stays s i = turn_stays (machine.turn s.here.frame.block s.here.state) s (plain.turns s.here.frame.block s.here.state i.0) i.1

  next_in : (ws : List Write) (s : State S N V W) → Stays (B.goes ws s) → IsIn s
  next_in ws s (goes_in _ _ i) = i

  not_stuck : Stays B.is_stuck → ⊥
  not_stuck h = elim h [ ]

  reached_in : (s t : State S N V W) → IsIn s → Reaches machine host n s t → IsIn t
  reached_in s _ i here = i
  reached_in s _ i (further t u ws r e) = next_in ws u (subst Stays e (stride_stays t (reached_in s t i r)))

  pub never_stuck : (b : BlockId) (names : N) (world : W) → NeverStuck machine host n b names world
  never_stuck b names world s r e = not_stuck (subst Stays e (stride_stays s (reached_in _ s (plain.starts b None, tt) r)))
