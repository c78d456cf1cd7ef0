-- Wherever strides lead, all activations have their names.
use Rattle.std.proofs.Common.{ℕ, List, [], ◌∷◌}
use Rattle.std.specs.List.{AllByRecursion}
use Rattle.pt_heap.specs.declared.value.Value.{Value}
use Rattle.sem_code.specs.slots.Slots.{State}
use Rattle.sem_rows.specs.pt_host.World.{Names, World, Program}
use Rattle.sem_rows.specs.pt_host.HeapHost.{heap_host}
use Rattle.pt_bare_runs.specs.Strides as bare
use Rattle.pt_bare_runs.specs.Strides.{start, Waiting}
use Rattle.pt_bare_runs.specs.Laws.{Reaches, here, further}
use Rattle.sem_rows.specs.sem_code_machine.code_machine.CodeBlocks.{CodeBlocks, machine}
use Rattle.law_frames.specs.RunNames.{WaitingHasNames}
use Rattle.law_frames.specs.Operands.{CodeNamesItsBlocks}
use Rattle.law_frames.specs.Laws.{RunsHaveTheirNames}
use Rattle.law_frames.proofs.Turns.{turn-names}
use Rattle.law_frames.proofs.Strides.{GoesOn, Named, next-named}

module _ (program : Program) (code : CodeBlocks Value) (known : CodeNamesItsBlocks program code) (n : ℕ) where
  abbrev Bare : Type 0
  Bare = bare.State (State Value) Names Value World

  all-named : (os : List (Waiting (State Value) Names Value World)) → AllByRecursion (GoesOn program) os → AllByRecursion (WaitingHasNames program) os
  all-named [] all = tt
  all-named (o ∷ os) all = (all.0.0, all-named os all.1)

  reached-named : (s t : Bare) → Named program s → Reaches (machine code) (heap_host program) n s t → Named program t
  reached-named s _ p here = p
  reached-named s _ p (further t u ws r e) =
      next-named program (machine code) n (λ b c. turn-names program code known b c) t u ws (reached-named s t p r) e

pub reached_has_names : RunsHaveTheirNames
reached_has_names program code known n b x w has s r =
    let p = reached-named program code known n (start (machine code) (heap_host program) b x w) s
    (record { here = has.names; waiting = tt; functions = has.functions }) r in
    record { here = p.here; waiting = all-named program code known n s.waiting p.waiting; functions = p.functions }
