-- What the law says of acts that wait, once the row of their instruction is done in the machine: each
-- run for which it stands comes to where the row leads, and what the row came to is applied there.
use Rattle.std.specs.Prelude.{◌≡◌, ◌⊎◌, ◌-◌, ℕ, [], length, Bool, Option, Some, is_some}
use Rattle.pt_base.specs.declared.numbers.ActNo.{ActNo}
use Rattle.pt_base.specs.declared.numbers.Pc.{Pc}
use Rattle.pt_heap.specs.declared.value.Value.{Value}
use Rattle.pt_instr.specs.declared.Instr.{Instr}
use Rattle.pt_instr.specs.declared.Instr.TheVariants as instr
use Rattle.pt_code.specs.View.{Ins}
use Rattle.sem_code.specs.slots.Slots.{State as CodeState}
use Rattle.sem_code_machine.specs.code_machine.CodeBlocks.{CodeBlocks}
use Rattle.law_takes.specs.Taking.{taken}
use Rattle.sem_run.specs.run.Machine.{Machine}
use Rattle.sem_run.specs.run.Events.{Event}
use Rattle.sem_run.specs.run.State.{State}
use Rattle.sem_run.specs.run.Views.{here_of}
use Rattle.sem_run.specs.transitions.Successors.{behind_yield}
use Rattle.pt_pendings.specs.declared.reply.Callee.{Callee}
use Rattle.pt_pendings.specs.declared.pending.Pending.TheVariants.{Doing}
use Rattle.law_doing.specs.pt_answering.pt_opening.pt_host.World.{Names, World, Program}
use Rattle.law_doing.specs.pt_machine_state.pt_code_facts.sem_rows.heap_rows.Leads.{HeapSuccessor}
use Rattle.law_doing.specs.pt_machine_state.pt_code_facts.sem_rows.heap_rows.Told.{KeepsActive}
use Rattle.law_doing.specs.pt_machine_state.pt_code_facts.sem_rows.declared.heap_rows.progress.Progress.{Progress}
use Rattle.law_doing.specs.pt_machine_state.pt_code_facts.sem_rows.declared.heap_rows.progress.Progress.TheVariants as progress
use Rattle.law_doing.specs.pt_machine_state.declared.blocks.BlockCode.{BlockCode}
use Rattle.law_doing.specs.pt_machine_state.declared.blocks.Blocks.{Blocks}
use Rattle.law_doing.specs.pt_machine_state.Blocks.{IsBlockOf, AreBlocksOf}
use Rattle.law_doing.specs.pt_machine_state.Laws.{RowDone, behind_row, row_at, IsRow}
use Rattle.law_doing.specs.pt_answering.pt_opening.pt_purposes.declared.standing.Standing.TheVariants.{AtPlace}
use Rattle.law_doing.specs.pt_answering.pt_opening.pt_purposes.Seen.{block_of}
use Rattle.law_doing.specs.pt_answering.pt_opening.pt_purposes.Openers.{Ways, origin_in}
use Rattle.law_doing.specs.pt_answering.pt_opening.pt_run_state.declared.machine.Machine.{Machine as Held}
use Rattle.law_doing.specs.pt_answering.pt_opening.pt_run_state.Stands.{IsToTell}
use Rattle.law_doing.specs.pt_answering.pt_replying.pt_turning.Ways.{state_at}
use Rattle.law_doing.specs.pt_answering.pt_replying.pt_turning.Laws.{waiting}
use Rattle.law_doing.specs.pt_answering.pt_replying.Replying.{given_told}
use Rattle.law_doing.specs.pt_answering.pt_replying.Laws.{IfBranches}
use Rattle.law_doing.specs.pt_answering.declared.answering.Asked.{Asked}
use Rattle.law_doing.specs.pt_answering.Answering.{given_of, moved, stands_by, answer_writes}
use Rattle.law_doing.specs.pt_answering.Laws.{IfGiven}
use Rattle.pt_applying.specs.declared.applying.Applied.{Applied}
use Rattle.pt_applying.specs.Applying.{AppliesSo}
use Rattle.pt_applying.specs.Known.{HasSilentExtras, is_decision, known_call, known_decision}
use Rattle.pt_applying.specs.Laws.{BehindApplied}

-- `raise` alone raises again, and no other instruction does
abbrev pub RaisesAsItself : Instr → Progress → Type 0
RaisesAsItself j progress.RaisesAgain = j ≡ instr.RaiseAgain
RaisesAsItself j p = j ≡ instr.RaiseAgain → ⊥

abbrev pub IfCalls : Progress → Type 0 → Type 0
IfCalls (progress.Calls b hidden ls why) A = A
IfCalls p A = Unit {0}

-- a completion leaves the place, or a raise goes on that was held
abbrev pub IfLeaves : Progress → Type 0 → Type 0
IfLeaves (progress.Leaves how) A = A
IfLeaves (progress.Reraises e) A = A
IfLeaves p A = Unit {0}

abbrev pub GivesOn : HeapSuccessor → Type 0
GivesOn (behind_yield v k st) = Unit {0}
GivesOn l = ⊥

-- the row is done, which changes this alone
abbrev pub behind_act : RowDone → Held → Held
behind_act done m = record m { code = behind_row done m.code }

module _ {S : Type 0} (program : Program) (code : CodeBlocks Value) (machine : Machine S Value)
    (embed : CodeState Value → S) (ways : Ways S) where
  -- what is known of an act by its instruction and the slots before and behind the row. A raise in place
  -- of its reply comes from its place, with the slots below those that it takes. What leaves its place
  -- tells nothing, and of a call of a block is known whether it decides
  pub record IsAskedSo (m : Held) (i : Ins) (next : Pc) (block : BlockCode)
      (callee : Option Callee) (active : Option Value) (done : RowDone) (d : Asked) : Type 0 where
    pub is_act : d.is_act ≡ is_some i.mark
    pub active_is : d.active ≡ active
    pub place : d.from.pc ≡ m.code.here.pc
    pub below : d.from.below ≡ length m.code.here.slots
        - taken (code.object (block_of m.code.here)).pool i.instr
    pub again : RaisesAsItself i.instr done.progress
    pub extras : HasSilentExtras (code.object (block_of m.code.here))
    pub called : d.called ≡ known_call i.instr m.code.here.slots callee
    pub next_act : ActNo
    pub decided : d.decided ≡ known_decision i.instr m.code.here.slots done.slots next_act
    pub leaves : IfLeaves done.progress
        ((given_told (given_of d) ≡ []) × (i.instr ≡ instr.Match → ⊥))
    pub decides : IfCalls done.progress
        ((ways.decides (behind_act done m).code.here (origin_in (behind_act done m).code.here)
        ≡ is_decision i.instr) × (i.instr ≡ instr.Match → ⊥))
    pub destination : IfGiven done.progress (IfBranches d.decided
        (λ k. machine.destination (block_of m.code.here)
        (embed (state_at code (stands_by block next done.progress (behind_act done m))
        (moved block next done.progress (behind_act done m)).code.here)) ≡ k.0))

module _ {S : Type 0} (program : Program) (code : CodeBlocks Value) (machine : Machine S Value)
    (embed : CodeState Value → S) (ways : Ways S) (minds : Event Value → Bool) (n : ℕ) where
  abbrev Run : Type 0
  Run = State S Names Value World

  -- of an instruction that gives a value on nothing is said
  abbrev pub ActsApply : Type 0
  ActsApply = (m : Held) (active : Option Value) (callee : Option Callee) (s : Run)
      → IsToTell program machine ways m (waiting AtPlace active (Doing callee)) [] s → (i : Ins)
      → (code.object (block_of m.code.here)).at m.code.here.pc.0 ≡ Some i → (next : Pc)
      → i.next ≡ next.0 → (done : RowDone)
      → KeepsActive done.progress m.code.here.slots done.slots
      → IsRow program code i done m.code → (blocks : Blocks) → AreBlocksOf program code blocks
      → (block : BlockCode) → IsBlockOf program code (block_of m.code.here) block → (d : Asked)
      → IsAskedSo program code machine embed ways m i next block callee active done d
      → (r : Applied) (new : Held)
      → AppliesSo blocks block next done.progress d (behind_act done m) r new
      → GivesOn (row_at program code i m.code (here_of machine s))
      ⊎ BehindApplied program code machine embed ways minds n s
      (answer_writes done.progress) r new
