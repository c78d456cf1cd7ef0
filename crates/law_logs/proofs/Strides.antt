-- Each stride of a bare run writes lines of events to the log, and nothing else.
use Rattle.std.proofs.Common.{◌≡◌, ℕ, List, [], ◌∷◌, ◌++◌, Bool, true, false, Option, Some, None, refl, if◌then◌else◌}
use Rattle.std.specs.Prelude.{nat_lt}
use Rattle.sem_control.specs.control.Turn as T
use Rattle.sem_control.specs.control.Turn.{Mark, Ask, End, gave, left_by, Turn}
use Rattle.sem_control.specs.control.LineEvents.{is_told}
use Rattle.sem_control.specs.control.Events as E
use Rattle.sem_run.specs.run.Machine.{Machine}
use Rattle.sem_run.specs.run.Events as Told
use Rattle.sem_run.specs.run.Events.{Happening, starts, returns, unwinds, TraceKind, trace_kind}
use Rattle.sem_run.specs.run.Host as H
use Rattle.sem_run.specs.run.Host.{Host, Store, Opening, BlockResult, too_deep, Made, made, beyond}
use Rattle.sem_run.specs.run.Step.{line_before}
use Rattle.sem_run.specs.run.Run.{Write, write, to_out}
use Rattle.sem_run.specs.transitions.Transitions.{transition}
use Rattle.sem_run.specs.transitions.Successors.{Successor, to, arises, behind_yield, behind_print, behind_request, behind_note, outside, end, none, successor}
use Rattle.pt_bare_runs.specs.Strides as B
use Rattle.pt_bare_runs.specs.Strides.{State, Stride, goes, ends, is_stuck, behind, Waiting, Outcome, Comes, ends_so, goes_on}
use Rattle.law_logs.specs.LogLines.{AreLoggedSo, OutcomesLogTheirEvents}

module _ {S N V W : Type 0} (machine : Machine S V) (host : Host N V W) where
  abbrev Are : List Write → Type 0
  Are ws = AreLoggedSo host ws

  abbrev Tells : Stride S N V W → Type 0
  Tells (goes ws s) = Are ws
  Tells (ends ws n e) = Are ws
  Tells is_stuck = Unit {0}

  both : (ws vs : List Write) → Are ws → Are vs → Are (ws ++ vs)
  both [] vs p q = q
  both (w ∷ ws) vs p q = (p.0, both ws vs p.1 q)

  further : (ws : List Write) (x : Stride S N V W) → Are ws → Tells x → Tells (behind ws x)
  further ws (goes vs s) p q = both ws vs p q
  further ws (ends vs n e) p q = both ws vs p q
  further ws is_stuck p q = tt

  logged : (h : Happening V) (s : State S N V W) → Are (B.logged machine host h s)
  logged h s = go s.here.frame.block.hidden refl (trace_kind h)
    where
      go : (b : Bool) → s.here.frame.block.hidden ≡ b → (k : Option TraceKind) → Are (if b then [] else B.line_of_kind machine host k h s)
      go true e k = tt
      go false e None = tt
      go false e (Some k) = ((λ is_log. record { event = B.event_of machine host h s; world = s.world; visible = e; is_text = refl }), tt)

  line_logged : (m : Mark) (l : Option ℕ) (s : State S N V W) → Are (B.line_logged machine host m l s)
  line_logged m l s = go (is_told l m)
    where
      go : (b : Bool) → Are (if b then B.logged machine host (Told.line false) s else [])
      go true = logged (Told.line false) s
      go false = tt

  arise : (e : E.Event V) (c : S) (s : State S N V W) → Tells (B.arise machine host e c s)
  arise (E.raises v) c s = logged (Told.raises v) (B.raise_here machine host v s)
  arise e c s = tt

  end_logged : (e : End V) (s : State S N V W) → Are (B.end_logged machine host e s)
  end_logged (gave v) s = logged (returns v) s
  end_logged (left_by v) s = logged (unwinds v) s

  fail_opening : (g : BlockResult N V → State S N V W → Stride S N V W) → ((r : BlockResult N V) (z : State S N V W) → Tells (g r z))
      → (o : Opening N V) (m : Made V W) (s : State S N V W) → Tells (B.fail_opening machine host g o m s)
  fail_opening g all o (made v w) s = all (record { end = left_by v; names = o.names }) (B.in_world w s)
  fail_opening g all o (beyond what) s = tt

  open_or_fail : (a : Ask V) (f : BlockResult N V → Store N W → Successor S N V W) (g : BlockResult N V → State S N V W → Stride S N V W)
      → ((r : BlockResult N V) (z : State S N V W) → Tells (g r z)) → (o : Opening N V) (s : State S N V W)
      → Tells (B.open_or_fail machine host a f g o s)
  open_or_fail a f g all o s = go (B.is_full s)
    where
      go : (b : Bool) → Tells (if b then B.fail_opening machine host g o (host.makes too_deep (B.here_of machine host s) s.world) s
          else goes (B.logged machine host starts (B.open_above machine host a f o s)) (B.open_above machine host a f o s))
      go true = fail_opening g all o (host.makes too_deep (B.here_of machine host s) s.world) s
      go false = logged starts (B.open_above machine host a f o s)

  lead : (a : Ask V) (x : Successor S N V W) (s : State S N V W) → Tells (B.lead machine host a x s)
  lead a (to c st) s = tt
  lead a (arises v c st) s = arise (E.arisen (B.here_of machine host (B.with_store st s)).active a v) c (B.with_store st s)
  lead a (behind_yield v k st) s = tt
  lead a (behind_print t x) s = further (write to_out t ∷ []) (B.lead machine host a x s) ((λ is_log. absurd cc), tt) (lead a x s)
  lead a (behind_request (H.opens o) st f) s =
      open_or_fail a f (λ r z. B.lead machine host a (f r (B.store z)) z) (λ r z. lead a (f r (B.store z)) z) o (B.with_store st s)
  lead a (behind_request r st f) s = tt
  lead a (behind_note v k) s = tt
  lead a (outside what) s = tt
  lead a (end e) s = tt
  lead a none s = tt

  close : (e : End V) (os : List (Waiting S N V W)) (s : State S N V W) → Tells (B.close machine host e os s)
  close e [] s = tt
  close e (o ∷ os) s =
      lead o.ask (o.leads (record { end = e; names = s.here.frame.names }) (B.store (B.return_to machine host o os s))) (B.return_to machine host o os s)

  begin_act : (n : ℕ) (m : Mark) (a : Ask V) (t : Turn S V) (s : State S N V W) → Tells (B.begin_act machine host n m a t s)
  begin_act n m a t s = go (nat_lt s.units n)
    where
      next : Stride S N V W
      next = B.lead machine host a (successor (transition host t (B.here_of machine host (B.take_unit m s)) (B.store (B.take_unit m s)))) (B.take_unit m s)

      go : (b : Bool) → Tells (if b then behind (B.line_logged machine host m (line_before s.here) (B.take_unit m s)) next else ends [] s.units B.spent)
      go true =
          further (B.line_logged machine host m (line_before s.here) (B.take_unit m s)) next (line_logged m (line_before s.here) (B.take_unit m s))
          (lead a (successor (transition host t (B.here_of machine host (B.take_unit m s)) (B.store (B.take_unit m s)))) (B.take_unit m s))
      go false = tt

  take_turn : (n : ℕ) (t : Turn S V) (s : State S N V W) → Tells (B.take_turn machine host n t s)
  take_turn n (T.act (Some m) a k) s = begin_act n m a (T.act (Some m) a k) s
  take_turn n (T.act None a k) s = lead a (successor (transition host (T.act None a k) (B.here_of machine host s) (B.store s))) s
  take_turn n (T.note v k) s = tt
  take_turn n (T.move c) s = tt
  take_turn n (T.over e) s = further (B.end_logged machine host e s) (B.close machine host e s.waiting s) (end_logged e s) (close e s.waiting s)
  take_turn n T.stuck s = tt

  comes : (n : ℕ) (x : Stride S N V W) (o : Outcome V W) → Comes machine host n x o → Tells x → Are o.written
  comes n _ _ (ends_so ws u e) t = t
  comes n _ _ (goes_on ws s o c) t =
      both ws o.written t (comes n (B.stride machine host n s) o c (take_turn n (machine.turn s.here.frame.block s.here.state) s))

pub outcomes_log_their_events : {S N V W : Type 0} → OutcomesLogTheirEvents S N V W
outcomes_log_their_events machine host n b names world o c =
    comes machine host n (goes (B.logged machine host starts (B.start machine host b names world)) (B.start machine host b names world)) o c
    (logged machine host starts (B.start machine host b names world))
