-- Where two machines have the same strides, a run of the one comes to the same outcome, and by the same work, as that of the other.
use Rattle.std.proofs.Common.{◌≡◌, ℕ, Option, None, sym, ap, subst}
use Rattle.sem_control.specs.control.Turn.{Turn}
use Rattle.sem_code.specs.slots.Slots as slots
use Rattle.sem_run.specs.run.Machine.{BlockId, Machine}
use Rattle.sem_run.specs.run.Events as events
use Rattle.sem_run.specs.run.Host.{Host}
use Rattle.pt_bare_runs.specs.Strides.{State, Stride, goes, stride, take_turn, logged, start, Outcome, outcome_behind}
use Rattle.pt_prog.specs.pt_run_script.pt_run_code.pt_runner.Work.{Work, both, work_of, work_at, slots_next, ends_spent, Does, ends_so, goes_on, RunDoes}
use Rattle.law_program.proofs.code_ends.Strides.{TurnIn, Stays, stride_same, stride_stays}

module _ {V N W : Type 0} (machine : Machine (slots.State V) V) (turn : BlockId → slots.State V → Turn (slots.State V) V) (host : Host N V W) (n : ℕ)
    (Within : BlockId → slots.State V → Type 0) (starts : (b : BlockId) (iterator : Option V) → Within b (machine.start b iterator))
    (turns : (b : BlockId) (c : slots.State V) → Within b c → TurnIn (Within b) (machine.turn b c)) where
  abbrev other : Machine (slots.State V) V
  other = record machine { turn = turn }

  module _ (alike : (b : BlockId) (c : slots.State V) → Within b c → (s : State (slots.State V) N V W)
      → take_turn other host n (machine.turn b c) s ≡ take_turn other host n (turn b c) s) where
    does_too : (x : Stride (slots.State V) N V W) (o : Outcome V W) (k : Work) → Does machine host n x o k → Stays machine turn host n Within starts x
        → Does other host n x o k
    does_too _ _ _ (ends_so ws u e) i = ends_so ws u e
    does_too _ _ _ (goes_on ws s o k d) i =
        let same : stride machine host n s ≡ stride other host n s = stride_same machine turn host n Within starts turns alike s i in
        let later = does_too (stride machine host n s) o k d (stride_stays machine turn host n Within starts turns alike s i) in
        let works : work_of other host n s ≡ work_of machine host n s = ap (λ x. work_at (slots_next s.here.state) (ends_spent x)) (sym same) in
        subst (λ l. Does other host n (goes ws s) (outcome_behind ws o) (both l k)) works (goes_on ws s o k (subst (λ x. Does other host n x o k) same later))

    pub run_does_too : (b : BlockId) (names : N) (world : W) (o : Outcome V W) (k : Work) → RunDoes machine host n b names world o k
        → RunDoes other host n b names world o k
    run_does_too b names world o k d =
        does_too (goes (logged machine host events.starts (start machine host b names world)) (start machine host b names world)) o k d (starts b None, tt)
