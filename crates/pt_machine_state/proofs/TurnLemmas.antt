-- A stride from an instruction is that to which its row leads, behind its unit and its line where it has a mark.
use Rattle.std.proofs.Common.{◌≡◌, ◌∙◌, ℕ, [], true, false, Option, Some, None, refl, sym, ap, subst}
use Rattle.std.specs.Prelude.{nat_lt, if◌then◌else◌}
use Rattle.pt_heap.specs.declared.value.Value.{Value}
use Rattle.sem_control.specs.control.Turn as T
use Rattle.sem_control.specs.control.Turn.{Mark, Ask, Answer, Reply, Turn}
use Rattle.sem_code.specs.slots.Slots.{State}
use Rattle.sem_code.specs.slots.Needs.{Begins}
use Rattle.sem_run.specs.run.Host.{Here}
use Rattle.pt_code_facts.specs.sem_rows.pt_host.World.{Names, World, Stores, Program}
use Rattle.pt_code_facts.specs.sem_rows.pt_host.HeapHost.{heap_host}
use Rattle.sem_run.specs.transitions.Transitions.{transition}
use Rattle.sem_run.specs.transitions.Successors.{Successor, successor}
use Rattle.pt_bare_runs.specs.Strides as bare
use Rattle.pt_bare_runs.specs.Strides.{behind, store, take_unit, here_of, line_logged, lead, take_turn}
use Rattle.sem_run.specs.run.Step.{line_before}
use Rattle.sem_code_machine.specs.code_machine.CodeBlocks.{CodeBlocks, machine}
use Rattle.pt_machine_state.specs.declared.machine.Machine.{Machine}
use Rattle.pt_machine_state.specs.declared.machine.MachineEnd.TheVariants as end
use Rattle.pt_machine_state.specs.declared.machine.Stride.{Stride}
use Rattle.pt_machine_state.specs.declared.machine.Stride.TheVariants as stride
use Rattle.pt_machine_state.specs.declared.writes.Writes.{Writes}
use Rattle.pt_machine_state.specs.Views.{Bare, IsPlain}
use Rattle.pt_machine_state.specs.Strode.{Strode}
use Rattle.pt_machine_state.proofs.WriteLemmas.{adds_none}
use Rattle.pt_machine_state.proofs.PlainLemmas.{Plainly, plain_deed}

module _ (program : Program) (code : CodeBlocks Value) (n : ℕ) where
  abbrev HeapSuccessor : Type 0
  HeapSuccessor = bare.Stride (State Value) Names Value World

  abbrev row : Turn (State Value) Value → Here Value → Stores → Successor (State Value) Names Value World
  row t h st = successor (transition (heap_host program) t h st)

  module _ (r : Stride) (old : Writes) (m : Machine) (new : Writes) where
    abbrev Done : HeapSuccessor → Type 0
    Done d = Strode program code d r old m new

    -- where no act begins
    pub unmarked : (t : Turn (State Value) Value) (s : Bare) → Begins None t → Plainly t
        → ((a : Ask Value) → IsPlain a → Done (lead (machine code) (heap_host program) a (row t (here_of (machine code) (heap_host program) s) (store s)) s))
        → Done (take_turn (machine code) (heap_host program) n t s)
    unmarked (T.act None a k) s b p f = f a p
    unmarked (T.act (Some w) a k) s b p f = absurd (cc)
    unmarked (T.move c) s b p f = f (T.deed T.nothing) (plain_deed T.nothing)
    unmarked (T.note a k) s b p f = absurd b
    unmarked (T.over e) s b p f = absurd b
    unmarked T.stuck s b p f = tt

    -- an act that begins where a unit is left
    pub begun : (w : Mark) (a : Ask Value) (k : Reply Value (Answer Value a) → State Value) (s : Bare) → nat_lt s.units n ≡ true
        → Done (behind (line_logged (machine code) (heap_host program) w (line_before s.here) (take_unit w s))
        (lead (machine code) (heap_host program) a (row (T.act (Some w) a k) (here_of (machine code) (heap_host program) (take_unit w s)) (store (take_unit w s))) (take_unit w s)))
        → Done (take_turn (machine code) (heap_host program) n (T.act (Some w) a k) s)
    begun w a k s is_left f =
        subst (λ x. Done (if x then behind (line_logged (machine code) (heap_host program) w (line_before s.here) (take_unit w s))
        (lead (machine code) (heap_host program) a (row (T.act (Some w) a k) (here_of (machine code) (heap_host program) (take_unit w s)) (store (take_unit w s))) (take_unit w s))
        else bare.ends [] s.units bare.spent)) (sym is_left) f

    -- where one does, and a unit is left
    pub marked : (w : Mark) (t : Turn (State Value) Value) (s : Bare) → Begins (Some w) t → Plainly t → nat_lt s.units n ≡ true
        → ((a : Ask Value) → IsPlain a → Done (behind (line_logged (machine code) (heap_host program) w (line_before s.here) (take_unit w s))
        (lead (machine code) (heap_host program) a (row t (here_of (machine code) (heap_host program) (take_unit w s)) (store (take_unit w s))) (take_unit w s))))
        → Done (take_turn (machine code) (heap_host program) n t s)
    marked w (T.act (Some v) a k) s b p is_left f =
        subst (λ x. Done (take_turn (machine code) (heap_host program) n (T.act x a k) s)) (sym b) (begun w a k s is_left (f a p))
    marked w (T.act None a k) s b p is_left f = absurd (cc)
    marked w (T.move c) s b p is_left f = absurd (cc)
    marked w (T.note a k) s b p is_left f = absurd b
    marked w (T.over e) s b p is_left f = absurd b
    marked w T.stuck s b p is_left f = tt

  -- where one would begin, and no unit is left
  pub spent : (m : Machine) (old : Writes) (w : Mark) (t : Turn (State Value) Value) (s : Bare) → Begins (Some w) t → s.units ≡ m.units → nat_lt m.units n ≡ false
      → Strode program code (take_turn (machine code) (heap_host program) n t s) (stride.Ends end.Spent) old m old
  spent m old w (T.act (Some v) a k) s b same none =
      subst (λ x. Strode program code (if x then behind (line_logged (machine code) (heap_host program) v (line_before s.here) (take_unit v s))
      (lead (machine code) (heap_host program) a (row (T.act (Some v) a k) (here_of (machine code) (heap_host program) (take_unit v s)) (store (take_unit v s))) (take_unit v s))
      else bare.ends [] s.units bare.spent) (stride.Ends end.Spent) old m old) (sym (ap (λ u. nat_lt u n) same ∙ none))
      (end.Spent, (refl, (adds_none old, (same, refl))))
  spent m old w (T.act None a k) s b same none = absurd (cc)
  spent m old w (T.move c) s b same none = absurd (cc)
  spent m old w (T.note a k) s b same none = absurd b
  spent m old w (T.over e) s b same none = absurd b
  spent m old w T.stuck s b same none = tt
