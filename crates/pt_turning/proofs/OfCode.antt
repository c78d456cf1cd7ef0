-- The machine of code has the turns of its code objects.
use Rattle.std.proofs.Common.{◌≡◌, Option, Some, None, refl}
use Rattle.pt_heap.specs.declared.value.Value.{Value}
use Rattle.pt_code.specs.View.{Ins}
use Rattle.pt_frames.specs.declared.activation.Activation.{Activation}
use Rattle.pt_frames.specs.declared.purpose.Purpose.{Purpose as For}
use Rattle.pt_frames.specs.declared.purpose.Purpose.TheVariants as why
use Rattle.sem_control.specs.control.Turn as T
use Rattle.sem_code.specs.slots.Slots.{State}
use Rattle.sem_code.specs.comp_expr.Law.{active_at as active_in_state}
use Rattle.sem_code_machine.specs.code_machine.CodeBlocks.{CodeBlocks}
use Rattle.sem_run.specs.run.Machine.{turn_in}
use Rattle.sem_run.specs.run.Host.{Here, BlockResult}
use Rattle.pt_telling.proofs.pt_transfers.pt_machine_state.LandLemmas.{active-view}
use Rattle.pt_telling.specs.pt_run_state.pt_purposes.declared.standing.Standing.{Standing}
use Rattle.pt_telling.specs.pt_run_state.pt_purposes.declared.standing.Standing.TheVariants as standing
use Rattle.pt_telling.specs.pt_run_state.pt_purposes.Seen.{active_at}
use Rattle.pt_telling.specs.pt_run_state.pt_purposes.Asks.{led_in}
use Rattle.pt_telling.specs.pt_run_state.pt_purposes.sem_rows.pt_host.World.{Names, Stores, CodeFacts, Program}
use Rattle.pt_turning.specs.Ways.{instruction_at, resumed_by, state_at, IsOfItself}

same-turn : {S V : Type 0} (t : T.Turn S V) → t ≡ turn_in (λ c. c) t
same-turn (T.act m a k) = refl
same-turn (T.note a k) = refl
same-turn (T.move c) = refl
same-turn (T.over e) = refl
same-turn T.stuck = refl

same-active : (code : CodeBlocks Value) (s : Standing) (a : Activation)
    → active_in_state (state_at code s a) ≡ active_at s a.slots
same-active code standing.AtPlace a = active-view a.slots
same-active code standing.Landed a = active-view a.slots
same-active code (standing.ThrownTo v) a = active-view a.slots
same-active code (standing.Reraises v) a = active-view a.slots
same-active code (standing.Returns v) a = refl
same-active code (standing.Raises v) a = refl

-- of a program nothing else is known there
module _ (code : CodeBlocks Value) (x y : Program) (a : Activation) (facts : CodeFacts)
    (r : BlockResult Names Value) (h : Here Value) (st : Stores) where
  same-resumed : (o : Option Ins) (w : For)
      → led_in (λ c. c) (resumed_by code o x a facts w r h st)
      ≡ led_in (λ c. c) (resumed_by code o y a facts w r h st)
  same-resumed None w = refl
  same-resumed (Some i) why.Result = refl
  same-resumed (Some i) why.Discard = refl
  same-resumed (Some i) (why.Class base cell) = refl
  same-resumed (Some i) (why.Init i1) = refl
  same-resumed (Some i) why.Opposite = refl
  same-resumed (Some i) (why.Truth wanted target kept) = refl
  same-resumed (Some i) why.Iterate = refl
  same-resumed (Some i) (why.Item it end) = refl
  same-resumed (Some i) (why.Unpack before after) = refl
  same-resumed (Some i) (why.Enter exit) = refl
  same-resumed (Some i) (why.Exit completion) = refl
  same-resumed (Some i) (why.Format spec) = refl
  same-resumed (Some i) (why.Resume g) = refl
  same-resumed (Some i) (why.Answer hook event block act args pending) = refl

pub is_of_itself : (code : CodeBlocks Value) → IsOfItself code
is_of_itself code program asked decides = record {
  start = λ b i. refl;
  turn = λ b c. same-turn _;
  stands = λ s a. refl;
  active = λ s a. same-active code s a;
  lands = λ a from v. refl;
  resumes = λ other a facts w r h st.
      same-resumed code program other a facts r h st (instruction_at code a) w;
  ends = λ a w v h st. refl;
}
