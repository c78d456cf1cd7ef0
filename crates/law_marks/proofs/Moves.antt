-- Instructions that move silently go on as in a run.
use Rattle.std.proofs.Common.{◌≡◌, ◌∙◌, ◌⊎◌, inl, inr, ℕ, List, [], Bool, true, false, Option, Some, None, refl, sym, ap, subst}
use Rattle.pt_base.specs.declared.numbers.Pc.{Pc}
use Rattle.pt_heap.specs.declared.value.Value.{Value}
use Rattle.pt_heap.specs.declared.completion.Completion.{Completion}
use Rattle.pt_heap.specs.declared.completion.Completion.TheVariants.{Normal, Raise, Return, Leave}
use Rattle.pt_frames.specs.declared.slot.Slot.{Slot}
use Rattle.pt_frames.specs.declared.activation.Activation.{Activation}
use Rattle.pt_code.specs.View.{Ins}
use Rattle.sem_control.specs.control.Turn as T
use Rattle.sem_code.specs.slots.Slots as C
use Rattle.sem_code.specs.slots.Slots.{Slots, State as CodeState, on}
use Rattle.sem_code.specs.slots.CodeObject.{CodeObject}
use Rattle.sem_code_machine.specs.code_machine.CodeBlocks.{CodeBlocks}
use Rattle.sem_run.specs.run.Machine.{Machine}
use Rattle.sem_run.specs.run.Events.{Event}
use Rattle.sem_run.specs.run.Host.{Host, Here, Frame, made, beyond}
use Rattle.sem_run.specs.run.State.{State, in_state}
use Rattle.sem_run.specs.run.Views.{here_of}
use Rattle.sem_run.specs.run.Outcome as O
use Rattle.sem_run.specs.run.Step.{step, begin_turn}
use Rattle.sem_run.specs.run.Machine.{turn_in}
use Rattle.sem_run.specs.transitions.Transitions.{transition}
use Rattle.sem_run.specs.transitions.Successors as leads
use Rattle.sem_run.specs.transitions.Successors.{successor}
use Rattle.sem_steps.specs.Steps.{behind_step, stays}
use Rattle.pt_pendings.specs.declared.pending.Pending.TheVariants.{Going}
use Rattle.pt_applying.specs.law_doing.pt_answering.pt_opening.pt_host.World.{Names, World, Stores, Program, Allotted, allot}
use Rattle.pt_applying.specs.law_doing.pt_answering.pt_opening.pt_host.HeapHost.{heap_host}
use Rattle.pt_applying.specs.law_doing.pt_answering.pt_opening.pt_host.Errors.{error, error_saying}
use Rattle.pt_applying.specs.law_doing.pt_answering.pt_opening.pt_host.Trees.{raise_with}
use Rattle.pt_applying.specs.law_doing.pt_answering.pt_opening.pt_host.Raising.{raise_active}
use Rattle.pt_applying.specs.law_doing.pt_answering.pt_opening.pt_host.Primitives.{arguments_of}
use Rattle.pt_applying.specs.law_doing.pt_answering.pt_opening.pt_host.declared.places.TheConstants.{RUNTIME_ERROR}
use Rattle.std.specs.Prelude.{codes}
use Rattle.pt_applying.specs.law_doing.pt_machine_state.pt_code_facts.sem_rows.heap_rows.Leads.{HeapSuccessor, IsStuck, by_tree, giving}
use Rattle.pt_applying.specs.law_doing.pt_machine_state.pt_code_facts.sem_rows.heap_rows.Told.{behind_leave, told}
use Rattle.pt_applying.specs.law_doing.pt_machine_state.pt_code_facts.sem_rows.heap_rows.Views.{slots_view}
use Rattle.pt_applying.specs.law_doing.pt_machine_state.pt_code_facts.sem_rows.declared.heap_rows.progress.Progress.{Progress}
use Rattle.pt_applying.specs.law_doing.pt_machine_state.pt_code_facts.sem_rows.declared.heap_rows.progress.Progress.TheVariants as progress
use Rattle.pt_applying.specs.law_doing.pt_machine_state.declared.blocks.BlockCode.{BlockCode}
use Rattle.pt_applying.specs.law_doing.pt_machine_state.declared.blocks.Blocks.{Blocks}
use Rattle.pt_applying.specs.law_doing.pt_machine_state.declared.machine.Standing.{Standing as CodeStanding}
use Rattle.pt_applying.specs.law_doing.pt_machine_state.declared.machine.Standing.TheVariants as code_standing
use Rattle.pt_applying.specs.law_doing.pt_machine_state.Blocks.{IsBlockOf}
use Rattle.pt_applying.specs.law_doing.pt_machine_state.Changes.{left_place}
use Rattle.pt_applying.specs.law_doing.pt_machine_state.Laws.{RowDone, row_at, IsRow}
use Rattle.pt_applying.specs.law_doing.pt_machine_state.Views.{state_of, stores_of}
use Rattle.pt_applying.proofs.law_doing.pt_answering.pt_machine_state.LandLemmas.{landed-state}
use Rattle.pt_applying.specs.law_doing.pt_answering.pt_opening.pt_purposes.declared.standing.Standing.{Standing}
use Rattle.pt_applying.specs.law_doing.pt_answering.pt_opening.pt_purposes.declared.standing.Standing.TheVariants as standing
use Rattle.pt_applying.specs.law_doing.pt_answering.pt_opening.pt_purposes.Seen.{block_of, frame_of}
use Rattle.pt_applying.specs.law_doing.pt_answering.pt_opening.pt_purposes.Openers.{Ways, settled}
use Rattle.pt_applying.specs.law_doing.pt_answering.pt_opening.pt_run_state.declared.machine.Machine.{Machine as Held}
use Rattle.pt_applying.specs.law_doing.pt_answering.pt_opening.pt_run_state.declared.machine.Phase.TheVariants.{Turning}
use Rattle.pt_applying.specs.law_doing.pt_answering.pt_opening.pt_run_state.Stands as stands
use Rattle.pt_applying.specs.law_doing.pt_answering.pt_opening.pt_run_state.Stands.{newest, Stands, StandsAround, IsPhase}
use Rattle.pt_applying.specs.law_doing.pt_answering.pt_opening.pt_telling.Telling.{Told, told_in, is_silent}
use Rattle.pt_applying.specs.law_doing.pt_answering.pt_opening.pt_telling.Laws.{Comes}
use Rattle.pt_applying.specs.law_doing.pt_answering.pt_replying.pt_turning.Turning.{gone_on, standing_of}
use Rattle.pt_applying.specs.law_doing.pt_answering.pt_replying.pt_turning.Laws.{waiting}
use Rattle.pt_applying.specs.law_doing.pt_answering.pt_replying.pt_turning.Ways.{IsOfCode, rows_of, state_at}
use Rattle.pt_applying.specs.law_doing.pt_answering.pt_replying.Replying.{beyond as beyond_told, replied}
use Rattle.pt_applying.specs.law_doing.pt_answering.declared.answering.Answered.TheVariants as answer
use Rattle.pt_applying.specs.law_doing.pt_answering.declared.answering.Asked.{Asked}
use Rattle.pt_applying.specs.law_doing.pt_answering.Answering.{given_of, replied_there, answer_writes}
use Rattle.pt_applying.specs.declared.applying.Applied.{Applied}
use Rattle.pt_applying.specs.declared.applying.Applied.TheVariants.{Goes}
use Rattle.pt_applying.specs.Applying.{failing_of, AppliesIn, AppliesSo}
use Rattle.pt_applying.specs.Laws.{BehindApplied, goes_on}
use Rattle.pt_applying.specs.Acting.{behind_act}
use Rattle.law_marks.specs.Laws.{IsNext, turn_here, MovesAsRun}
use Rattle.law_marks.proofs.Next as next_at

-- behind a jump that has landed the instruction at the place is next too
settles : (code : CodeBlocks Value) (z : Standing) (a : Activation)
    → state_at code z a ≡ state_at code (settled z) a
settles code standing.AtPlace a = refl
settles code standing.Landed a = refl
settles code (standing.ThrownTo v) a = refl
settles code (standing.Reraises v) a = refl
settles code (standing.Returns v) a = refl
settles code (standing.Raises v) a = refl

-- nothing is told without a mark, and what waits goes on by the next turn
module _ (block : BlockCode) (d : Asked) (silent : d.is_act ≡ false) (z : Standing) (x : Held) where
  by-silence : (b : Bool)
      → beyond_told z (told_in block b (waiting z d.active (Going d.from)) [] x)
      ≡ record { event = false; machine = gone_on z x }
  by-silence true = refl
  by-silence false = refl

  nothing-told : replied_there block d z x ≡ record { event = false; machine = gone_on z x }
  nothing-told =
      ap (λ b. replied block (given_of d) b z d.active d.from x) silent ∙ by-silence (is_silent x)

module _ {S : Type 0} (program : Program) (code : CodeBlocks Value) (machine : Machine S Value)
    (embed : CodeState Value → S) (ways : Ways S) (is_of : IsOfCode code machine embed ways)
    (minds : Event Value → Bool) (n : ℕ) (m : Held) (i : Ins) (s : State S Names Value World)
    (is : IsNext program code machine embed ways minds n m i s) (c : CodeState Value)
    (moves : turn_here program code machine embed ways minds n m i ≡ T.move c) (next : Pc)
    (next_is : i.next ≡ next.0) (done : RowDone) (row : IsRow program code i done m.code)
    (block : BlockCode) (known : IsBlockOf program code (block_of m.code.here) block) (d : Asked)
    (silent : d.is_act ≡ false) (blocks : Blocks) where
  abbrev Run : Type 0
  Run = State S Names Value World

  abbrev host : Host Names Value World
  host = heap_host program

  abbrev obj : CodeObject Value
  obj = code.object (block_of m.code.here)

  abbrev k : Held
  k = behind_act done m

  abbrev over : Slots Value
  over = slots_view done.slots

  abbrev st0 : Stores
  st0 = stores_of program m.code

  abbrev st1 : Stores
  st1 = stores_of program k.code

  abbrev h : Here Value
  h = here_of machine s

  abbrev t : Run
  t = in_state (embed c) s

  went : step machine host n s ≡ O.goes [] t
  went =
      next_at.stepped program code machine embed ways is_of minds n m i s is
      ∙ ap (λ x. begin_turn machine host n (turn_in embed x) s) moves

  comes : Comes program machine ways minds n s [] t
  comes = record { outputs = []; steps = behind_step s t t [] [] went (stays t); written = refl }

  row-is : row_at program code i m.code h ≡ leads.to c st0
  row-is = ap (λ x. successor (transition host x h st0)) moves

  led : told program obj i h done.progress over st1 ≡ leads.to c st0
  led = by (row h (next_at.block-so program code machine embed ways is_of minds n m i s is))
    where
      by : IsStuck (row_at program code i m.code h) ⊎ (told program obj i h done.progress over st1 ≡ row_at program code i m.code h)
          → told program obj i h done.progress over st1 ≡ leads.to c st0
      by (inl stuck) = absurd (subst IsStuck row-is stuck)
      by (inr e) = e ∙ row-is

  -- the parts of where it leads
  abbrev state_in : HeapSuccessor → CodeState Value
  state_in (leads.to x u) = x
  state_in l = c

  abbrev stores_in : HeapSuccessor → Stores
  stores_in (leads.to x u) = u
  stores_in l = st0

  -- the machine at a place, standing so
  abbrev final : Standing → Pc → List Slot → Held
  final z pc slots = record k {
    code = record k.code { here = record k.code.here { pc = pc; slots = slots } };
    phase = Turning (settled z);
  }

  abbrev named : Stores → Frame Names Value
  named u = record (frame_of program m.hooks (newest m)) { names = u.names }

  module _ (z : Standing) (pc : Pc) (slots : List Slot) (same : st1 ≡ st0)
      (at : c ≡ state_at code z (final z pc slots).code.here) where
    around-final : StandsAround program machine ways (final z pc slots) t
    around-final = record {
      at_place = is.stands.around.at_place;
      here = record {
        frame = is.stands.around.here.frame ∙ ap named (sym same);
        act = is.stands.around.here.act;
        behind_jump = is.stands.around.here.behind_jump;
      };
      openers = is.stands.around.openers;
      generators = is.stands.around.generators;
      world = is.stands.around.world ∙ ap (λ u. u.world) (sym same);
      trace = is.stands.around.trace;
      tools = is.stands.around.tools;
      units = is.stands.around.units;
      frames = is.stands.around.frames;
      numbers = is.stands.around.numbers;
      untraced = is.stands.around.untraced;
    }

    state-so : embed c ≡ ways.position (settled z) (final z pc slots).code.here
    state-so =
        ap embed (at ∙ settles code z (final z pc slots).code.here)
        ∙ sym (is_of.stands z (final z pc slots).code.here)

    stands-final : Stands program machine ways (final z pc slots) t
    stands-final = record {
      around = around-final;
      active = ap (λ x. machine.active x) state-so
          ∙ is_of.active (settled z) (final z pc slots).code.here;
      phase = subst (λ q. IsPhase program machine ways m.hooks (final z pc slots).code.here (embed c) (Turning (settled z)) q)
          (sym (next_at.so program code machine embed ways is_of minds n m i s is).0) (stands.turning (settled z) state-so);
    }

    -- the machine before what waits goes on
    abbrev there : Held
    there = record k { code = record k.code { here = record k.code.here { pc = pc; slots = slots } } }

    abbrev Behind : Applied → Held → Type 0
    Behind r new = BehindApplied program code machine embed ways minds n s [] r new

    abbrev BehindTold : Told → Type 0
    BehindTold x = Behind (Goes x.event) x.machine

    replied-so : (r : Applied) (new : Held)
        → AppliesIn blocks block (failing_of d) (answer.Goes (replied_there block d z there).event) (replied_there block d z there).machine r new
        → Behind r new
    replied-so r new did =
        subst (λ x. Behind x new) (sym did.0)
        (subst (λ x. Behind (Goes (replied_there block d z there).event) x) (sym did.1)
        (subst BehindTold (sym (nothing-told block d silent z there))
        (goes_on false (final z pc slots) t comes stands-final)))

  -- no exception arises where a run moves
  no-raise : (a : Allotted) (u : Stores)
      → by_tree obj i (giving obj i over) over (raise_with a u) ≡ leads.to c st0 → ⊥
  no-raise (made v x) u e = absurd cc
  no-raise (beyond what) u e = absurd cc

  no-active : (o : Option Value)
      → by_tree obj i (giving obj i over) over (raise_active o h st1) ≡ leads.to c st0 → ⊥
  no-active (Some v) e = absurd cc
  no-active None e =
      no-raise (error_saying RUNTIME_ERROR (codes "no active exception") None h.active st1.world.heap) st1 e

  -- what leaves a place is where it lands
  state-there : (cs : CodeStanding) (a b : Activation)
      → state_at code (standing_of cs) (record a { pc = b.pc; slots = b.slots }) ≡ state_of cs b
  state-there code_standing.AtPlace a b = refl
  state-there (code_standing.Returns v) a b = refl
  state-there (code_standing.Raises v) a b = refl

  left-state : (how : Completion)
      → state_of (left_place block next how k.code).standing (left_place block next how k.code).here
      ≡ behind_leave program obj i how over
  left-state Normal =
      ap (λ x. state_of x (left_place block next Normal k.code).here) is.stands.around.at_place
      ∙ ap (λ x. C.on x over) (sym next_is)
  left-state (Raise v) =
      landed-state program code block (block_of m.code.here) i k.code (C.raise v) known is.stands.around.at_place is.there
  left-state (Return v) =
      landed-state program code block (block_of m.code.here) i k.code (C.return v) known is.stands.around.at_place is.there
  left-state (Leave x) =
      landed-state program code block (block_of m.code.here) i k.code (C.jump_to x.0) known is.stands.around.at_place is.there

  by-progress : (p : Progress) → told program obj i h p over st1 ≡ leads.to c st0 → (r : Applied)
      (new : Held) → AppliesSo blocks block next p d k r new
      → BehindApplied program code machine embed ways minds n s (answer_writes p) r new
  by-progress progress.Next e r new did =
      replied-so standing.AtPlace next done.slots (ap stores_in e)
      (sym (ap state_in e) ∙ ap (λ x. on x over) next_is) r new did
  by-progress (progress.Goto pc) e r new did =
      replied-so standing.AtPlace pc done.slots (ap stores_in e) (sym (ap state_in e)) r new did
  by-progress (progress.Leaves how) e r new did =
      let cs = (left_place block next how k.code).standing in
      replied-so (standing_of cs) (left_place block next how k.code).here.pc (left_place block next how k.code).here.slots (ap stores_in e)
      (sym (ap state_in e) ∙ sym (state-there cs k.code.here (left_place block next how k.code).here ∙ left-state how)) r new did
  by-progress (progress.Reraises x) e r new did =
      replied-so (standing.Reraises x) m.code.here.pc done.slots (ap stores_in e)
      (sym (ap state_in e) ∙ ap (λ y. C.reraises x y over) (ap rows_of (sym is.there))) r new did
  by-progress (progress.Print x) e r new did = absurd cc
  by-progress (progress.Calls b hidden ls why) e r new did = absurd cc
  by-progress (progress.Raises x) e r new did = absurd cc
  by-progress progress.RaisesAgain e r new did = absurd (no-active h.active e)
  by-progress (progress.Fails class a) e r new did =
      absurd (no-raise (allot (error class (arguments_of a) None h.active) st1.world.heap) st1 e)
  by-progress (progress.FailsSaying class x) e r new did =
      absurd (no-raise (error_saying class x None h.active st1.world.heap) st1 e)
  by-progress (progress.Outside what) e r new did = absurd cc
  by-progress progress.Lacks e r new did = absurd cc

  pub moves-so : (r : Applied) (new : Held) → AppliesSo blocks block next done.progress d k r new
      → BehindApplied program code machine embed ways minds n s (answer_writes done.progress) r new
  moves-so r new did = by-progress done.progress led r new did

pub moves_as_run : {S : Type 0} (program : Program) (code : CodeBlocks Value)
    (machine : Machine S Value) (embed : CodeState Value → S) (ways : Ways S)
    → IsOfCode code machine embed ways → (minds : Event Value → Bool) (n : ℕ)
    → MovesAsRun program code machine embed ways minds n
moves_as_run program code machine embed ways is_of minds n m i s is c moves next next_is done row block known d silent blocks r new did =
    moves-so program code machine embed ways is_of minds n m i s is c moves next next_is done row block known d silent blocks r new did
