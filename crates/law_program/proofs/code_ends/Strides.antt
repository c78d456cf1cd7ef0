-- Two machines that begin alike, and whose turns are alike wherever the first one comes, have the same strides there.
use Rattle.std.proofs.Common.{◌≡◌, ℕ, List, [], ◌∷◌, Bool, true, false, Option, Some, None, ◌∙◌, subst, if◌then◌else◌, refl}
use Rattle.std.specs.Prelude.{nat_lt}
use Rattle.sem_control.specs.control.Turn as T
use Rattle.sem_control.specs.control.Turn.{Ask, Answer, Reply, got, raised, End, gave, left_by, Turn}
use Rattle.sem_control.specs.control.Events as E
use Rattle.sem_run.specs.run.Machine.{BlockId, Machine}
use Rattle.sem_run.specs.run.Host as H
use Rattle.sem_run.specs.run.Host.{Host, Here, Store, BlockResult, Answering, Finding, Made, made, beyond, too_deep}
use Rattle.sem_run.specs.run.State.{OpenAsk}
use Rattle.sem_run.specs.run.Step.{callee_of, line_before}
use Rattle.sem_run.specs.run.Run.{Write, write, to_out}
use Rattle.sem_run.specs.transitions.Transitions.{by_answer, by_finding, of_open_ask}
use Rattle.sem_run.specs.transitions.Successors.{Successor, to, arises, behind_print, behind_request, behind_note, outside, successor}
use Rattle.pt_bare_runs.specs.Strides as B
use Rattle.pt_bare_runs.specs.Strides.{Waiting, State, Stride, behind, take_turn, stride}

-- a turn leads to such states alone, whatever is replied
abbrev pub TurnIn : {S V : Type 0} → (S → Type 0) → Turn S V → Type 0
TurnIn {V = V} Within (T.act m a k) = (r : Reply V (Answer V a)) → Within (k r)
TurnIn {V = V} Within (T.note v k) = (r : Reply V (Unit {0})) → Within (k r)
TurnIn Within (T.move c) = Within c
TurnIn Within t = Unit {0}

-- and so does what an ask leads to, behind whatever its blocks give
abbrev pub LeadsIn : {S N V W : Type 0} → (S → Type 0) → Successor S N V W → Type 0
LeadsIn Within (to c st) = Within c
LeadsIn Within (arises v c st) = Within c
LeadsIn Within (behind_print t x) = LeadsIn Within x
LeadsIn {N = N} {V = V} {W = W} Within (behind_request (H.opens o) st f) = (r : BlockResult N V) (st1 : Store N W) → LeadsIn Within (f r st1)
LeadsIn {V = V} Within (behind_note v k) = (r : Reply V (Unit {0})) → Within (k r)
LeadsIn Within x = Unit {0}

module _ {S N V W : Type 0} (host : Host N V W) (Within : S → Type 0) where
  finding_leads : (q : OpenAsk S V) (a : Ask V) (k : Reply V (Answer V a) → S) (v : Finding V a) (st : Store N W)
      → ((r : Reply V (Answer V a)) → Within (k r)) → LeadsIn Within (successor (by_finding a k q v st))
  finding_leads q (T.next_of i) k (H.an_item v) st h = h _
  finding_leads q (T.next_of i) k (H.no_item e) st h = h _
  finding_leads q (T.delegate i r) k (H.passes_on v) st h = tt
  finding_leads q (T.delegate i r) k (H.ends_with v) st h = h _
  finding_leads q (T.seek a) k v st h = h _
  finding_leads q (T.deed a) k v st h = h _
  finding_leads q (T.leave a) k v st h = h _
  finding_leads q (T.throw a) k v st h = h _
  finding_leads q (T.test a) k v st h = h _
  finding_leads q (T.iter_of a) k v st h = h _
  finding_leads q (T.enter a) k v st h = h _
  finding_leads q (T.unpack a m t) k v st h = h _

  answer_leads : (q : OpenAsk S V) → ((r : Reply V (Answer V q.ask)) → Within (q.next r)) → (t : Answering N V W (Finding V q.ask))
      → LeadsIn Within (successor (by_answer q t))
  answer_leads q h (H.answer v st) = finding_leads q q.ask q.next v st h
  answer_leads q h (H.raise v st) = h (raised v)
  answer_leads q h (H.print t f) = answer_leads q h f
  answer_leads q h (H.leave what) = tt
  answer_leads q h (H.request (H.opens x) st f) = λ r st1. answer_leads q h (f r st1)
  answer_leads q h (H.request r st f) = tt

  ask_leads : (q : OpenAsk S V) (a : Ask V) (k : Reply V (Answer V a) → S) (h : Here V) (st : Store N W) → ((r : Reply V (Answer V a)) → Within (k r))
      → LeadsIn Within (successor (of_open_ask host (record { ask = a; next = k; is_act = q.is_act; callee = q.callee }) h st))
  ask_leads q (T.seek (T.yielding v)) k h st stay = tt
  ask_leads q a k h st stay = answer_leads (record { ask = a; next = k; is_act = q.is_act; callee = q.callee }) stay (host.answers a h st)

module _ {S N V W : Type 0} (machine : Machine S V) (turn : BlockId → S → Turn S V) (host : Host N V W) (n : ℕ) (Within : BlockId → S → Type 0)
    (starts : (b : BlockId) (iterator : Option V) → Within b (machine.start b iterator)) where
  -- the machine with these turns
  abbrev pub other : Machine S V
  other = record machine { turn = turn }

  abbrev pub AllIn : List (Waiting S N V W) → Type 0
  AllIn [] = Unit {0}
  AllIn (o ∷ os) = ((r : BlockResult N V) (st : Store N W) → LeadsIn (Within o.activation.frame.block) (o.leads r st)) × AllIn os

  -- all activations are in such states
  abbrev pub IsIn : State S N V W → Type 0
  IsIn s = Within s.here.frame.block s.here.state × AllIn s.waiting

  -- both machines make this stride, and it leads to such a state
  data Same : Stride S N V W → Stride S N V W → Type 0 where
    same_goes : (ws : List Write) (s : State S N V W) → IsIn s → Same (B.goes ws s) (B.goes ws s)
    same_ends : (ws : List Write) (u : ℕ) (e : B.Ending V W) → Same (B.ends ws u e) (B.ends ws u e)
    both_stuck : Same B.is_stuck B.is_stuck

  same_behind : (ws : List Write) (x y : Stride S N V W) → Same x y → Same (behind ws x) (behind ws y)
  same_behind ws _ _ (same_goes vs s i) = same_goes _ s i
  same_behind ws _ _ (same_ends vs u e) = same_ends _ u e
  same_behind ws _ _ both_stuck = both_stuck

  either_same : (b : Bool) (x y z t : Stride S N V W) → Same x z → Same y t → Same (if b then x else y) (if b then z else t)
  either_same true x y z t p q = p
  either_same false x y z t p q = q

  arise_same : (e : E.Event V) (c : S) (s : State S N V W) → Within s.here.frame.block c → AllIn s.waiting → Same (B.arise machine host e c s) (B.arise other host e c s)
  arise_same (E.raises v) c s i all = same_goes _ _ (i, all)
  arise_same e c s i all = same_goes _ _ (i, all)

  lead_same : (a : Ask V) (x : Successor S N V W) (s : State S N V W) → LeadsIn (Within s.here.frame.block) x → AllIn s.waiting
      → Same (B.lead machine host a x s) (B.lead other host a x s)
  lead_same a (to c st) s i all = same_goes _ _ (i, all)
  lead_same a (arises v c st) s i all = arise_same _ c (B.with_store st s) i all
  lead_same a (behind_print t x) s i all = same_behind (write to_out t ∷ []) _ _ (lead_same a x s i all)
  lead_same a (behind_request (H.opens o) st f) s i all =
      either_same (B.is_full (B.with_store st s)) _ _ _ _
      (failing (λ r z j k. lead_same a (f r (B.store z)) z j k) (host.makes too_deep (B.here_of machine host (B.with_store st s)) st.world))
      (same_goes _ _ (starts o.block o.iterator, (i, all)))
    where
      failing : ((r : BlockResult N V) (z : State S N V W) → LeadsIn (Within z.here.frame.block) (f r (B.store z)) → AllIn z.waiting
          → Same (B.lead machine host a (f r (B.store z)) z) (B.lead other host a (f r (B.store z)) z)) → (m : Made V W)
          → Same (B.fail_opening machine host (λ r z. B.lead machine host a (f r (B.store z)) z) o m (B.with_store st s))
          (B.fail_opening other host (λ r z. B.lead other host a (f r (B.store z)) z) o m (B.with_store st s))
      failing go (made v w) = go _ (B.in_world w (B.with_store st s)) (i _ _) all
      failing go (beyond what) = same_ends _ _ _
  lead_same a (behind_note v k) s i all = same_goes _ _ (i (got tt), all)
  lead_same a (outside what) s i all = same_ends _ _ _
  lead_same a x s i all = both_stuck

  close_same : (e : End V) (os : List (Waiting S N V W)) (s : State S N V W) → AllIn os → Same (B.close machine host e os s) (B.close other host e os s)
  close_same e [] s all = ended e
    where
      ended : (e : End V) → Same (B.ends [] s.units (B.end_of_module machine host e s)) (B.ends [] s.units (B.end_of_module other host e s))
      ended (gave v) = same_ends _ _ _
      ended (left_by v) = left (host.leaving v s.world)
        where
          left : (l : H.Leaving) → Same (B.ends [] s.units (B.end_by_exception machine host v l s)) (B.ends [] s.units (B.end_by_exception other host v l s))
          left (H.exits m x) = same_ends _ _ _
          left H.exits_oddly = same_ends _ _ _
          left (H.fails es) = same_ends _ _ _
  close_same e (o ∷ os) s all =
      let r : BlockResult N V = record { end = e; names = s.here.frame.names } in
      let t : State S N V W = B.return_to machine host o os s in
      lead_same o.ask (o.leads r (B.store t)) t (all.0 r (B.store t)) all.1

  end_same : (e : End V) (s : State S N V W) → B.end_logged machine host e s ≡ B.end_logged other host e s
  end_same (gave v) s = refl
  end_same (left_by v) s = refl

  turn_same : (t : Turn S V) (s : State S N V W) → TurnIn (Within s.here.frame.block) t → AllIn s.waiting
      → Same (take_turn machine host n t s) (take_turn other host n t s)
  turn_same (T.act (Some m) a k) s p all =
      let t : State S N V W = B.take_unit m s in
      let q : OpenAsk S V = record { ask = a; next = k; is_act = true; callee = callee_of host a s.world } in
      let x : Successor S N V W = successor (of_open_ask host q (B.here_of machine host t) (B.store t)) in
      either_same (nat_lt s.units n) _ _ _ _
      (same_behind (B.line_logged machine host m (line_before s.here) t) (B.lead machine host a x t) (B.lead other host a x t)
      (lead_same a x t (ask_leads host (Within s.here.frame.block) q a k (B.here_of machine host t) (B.store t) p) all)) (same_ends _ _ _)
  turn_same (T.act None a k) s p all =
      let q : OpenAsk S V = record { ask = a; next = k; is_act = false; callee = None } in
      lead_same a (successor (of_open_ask host q (B.here_of machine host s) (B.store s))) s
      (ask_leads host (Within s.here.frame.block) q a k (B.here_of machine host s) (B.store s) p) all
  turn_same (T.note v k) s p all = same_goes _ _ (p (got tt), all)
  turn_same (T.move c) s p all = same_goes _ _ (p, all)
  turn_same (T.over e) s p all =
      subst (λ ws. Same (behind (B.end_logged machine host e s) (B.close machine host e s.waiting s)) (behind ws (B.close other host e s.waiting s))) (end_same e s)
      (same_behind (B.end_logged machine host e s) (B.close machine host e s.waiting s) (B.close other host e s.waiting s) (close_same e s.waiting s all))
  turn_same T.stuck s p all = both_stuck

  are_same : (x y : Stride S N V W) → Same x y → x ≡ y
  are_same _ _ (same_goes ws s i) = refl
  are_same _ _ (same_ends ws u e) = refl
  are_same _ _ both_stuck = refl

  -- where a stride leads
  abbrev pub Stays : Stride S N V W → Type 0
  Stays (B.goes ws s) = IsIn s
  Stays x = Unit {0}

  stay : (x y : Stride S N V W) → Same x y → Stays x
  stay _ _ (same_goes ws s i) = i
  stay _ _ (same_ends ws u e) = tt
  stay _ _ both_stuck = tt

  -- where its turns stay among the states, and the turns of the other lead to the same strides there
  module _ (turns : (b : BlockId) (c : S) → Within b c → TurnIn (Within b) (machine.turn b c))
      (alike : (b : BlockId) (c : S) → Within b c → (s : State S N V W) → take_turn other host n (machine.turn b c) s ≡ take_turn other host n (turn b c) s) where
    own_same : (s : State S N V W) → IsIn s
        → Same (stride machine host n s) (take_turn other host n (machine.turn s.here.frame.block s.here.state) s)
    own_same s i = turn_same (machine.turn s.here.frame.block s.here.state) s (turns s.here.frame.block s.here.state i.0) i.1

    pub stride_same : (s : State S N V W) → IsIn s → stride machine host n s ≡ stride other host n s
    stride_same s i = are_same _ _ (own_same s i) ∙ alike s.here.frame.block s.here.state i.0 s

    pub stride_stays : (s : State S N V W) → IsIn s → Stays (stride machine host n s)
    stride_stays s i = stay _ _ (own_same s i)
