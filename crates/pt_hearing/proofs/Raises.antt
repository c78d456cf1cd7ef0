-- A hook's exception takes the place of what waits as in a run.
use Rattle.std.proofs.Common.{◌≡◌, ◌∙◌, ℕ, List, [], ◌∷◌, Bool, Option, Some, None, refl, sym, ap, subst}
use Rattle.pt_heap.specs.declared.value.Value.{Value}
use Rattle.pt_code.specs.View.{Ins}
use Rattle.sem_control.specs.control.Turn as T
use Rattle.sem_code.specs.slots.Slots.{State as CodeState, raise}
use Rattle.sem_code.specs.slots.Landing.{land}
use Rattle.sem_code_machine.specs.code_machine.CodeBlocks.{CodeBlocks}
use Rattle.sem_run.specs.run.Machine.{Machine}
use Rattle.sem_run.specs.run.Events as Told
use Rattle.sem_run.specs.run.Events.{Event}
use Rattle.sem_run.specs.run.Host.{Host}
use Rattle.sem_run.specs.run.State as run
use Rattle.sem_run.specs.run.State.{State, at, in_state}
use Rattle.sem_run.specs.run.Hooks as hooks
use Rattle.sem_steps.specs.Steps.{Steps, stays, minded}
use Rattle.pt_closing.specs.pt_host.World.{Names, World, Program}
use Rattle.pt_closing.specs.pt_host.HeapHost.{heap_host}
use Rattle.pt_happenings.specs.declared.happening.Happening.TheVariants as told
use Rattle.pt_pendings.specs.declared.reply.End.TheVariants.{Gave, LeftBy}
use Rattle.pt_pendings.specs.declared.pending.Origin.{Origin}
use Rattle.pt_pendings.specs.declared.pending.Pending.{Pending}
use Rattle.pt_pendings.specs.declared.pending.Pending.TheVariants as pending
use Rattle.pt_pendings.specs.declared.pending.Instead.{Instead}
use Rattle.pt_pendings.specs.declared.pending.Instead.TheVariants.{Lands, Unwinds, Closes}
use Rattle.pt_pendings.specs.Pendings.{instead_of}
use Rattle.pt_pendings.specs.Stands as pend
use Rattle.pt_pendings.specs.Laws.{by_instead}
use Rattle.pt_pendings.proofs.Raising.{raises_take_place}
use Rattle.pt_closing.specs.pt_turning.pt_telling.pt_transfers.pt_machine_state.declared.blocks.BlockCode.{BlockCode}
use Rattle.pt_closing.specs.pt_turning.pt_telling.pt_transfers.pt_machine_state.declared.machine.Standing.{Standing as CodeStanding}
use Rattle.pt_closing.specs.pt_turning.pt_telling.pt_transfers.pt_machine_state.Blocks.{IsBlockOf}
use Rattle.pt_closing.proofs.pt_machine_state.LandLemmas.{cut-view}
use Rattle.pt_closing.specs.pt_purposes.declared.standing.Standing.{Standing}
use Rattle.pt_closing.specs.pt_purposes.Seen.{block_of}
use Rattle.pt_closing.specs.pt_purposes.Openers.{Ways, UnlessGone, settled, standpoint}
use Rattle.pt_closing.specs.pt_turning.pt_telling.pt_run_state.declared.machine.Machine.{Machine as Held}
use Rattle.pt_closing.specs.pt_turning.pt_telling.pt_run_state.declared.machine.Phase.TheVariants.{Turning}
use Rattle.pt_closing.specs.pt_turning.pt_telling.pt_run_state.declared.machine.Waiting.{Waiting}
use Rattle.pt_closing.specs.pt_turning.pt_telling.pt_run_state.Stands.{Stands, StandsAround, IsToTell}
use Rattle.pt_closing.specs.pt_asking.declared.asked.Hook.{Hook}
use Rattle.pt_closing.specs.pt_asking.declared.asked.Hook.TheVariants.{Tool, Tracer}
use Rattle.pt_closing.specs.pt_asking.Asking.{hook_view}
use Rattle.pt_closing.proofs.pt_tracing.Keeps.{fails_as_run}
use Rattle.pt_closing.specs.pt_turning.pt_telling.Telling.{Told as Result, entered_by, told as tell}
use Rattle.pt_closing.specs.pt_turning.pt_telling.Laws as telling
use Rattle.pt_closing.specs.pt_turning.pt_telling.Laws.{IsNamed, Comes, BehindTold}
use Rattle.pt_closing.proofs.pt_telling.Around.{around-told}
use Rattle.pt_closing.proofs.pt_telling.Tells.{tells_as_run}
use Rattle.pt_closing.specs.pt_turning.Ways.{rows_at, IsOfCode}
use Rattle.pt_closing.specs.pt_turning.Turning.{standing_of, behind_raise, raised_in}
use Rattle.pt_closing.specs.pt_turning.Laws.{waiting}
use Rattle.pt_closing.proofs.pt_turning.Turns.{named-by, around-at, turning-so, onward-is, settled-there}
use Rattle.pt_hearing.specs.declared.raising.Raised.TheVariants as raised
use Rattle.pt_hearing.specs.Raising.{RaisedSo, unset, at_origin, beyond, left_by, landed_from, in_place}
use Rattle.pt_hearing.specs.Laws as laws
use Rattle.pt_hearing.specs.Laws.{BehindRaise, Waits, HasOrigin, RaisesAsRun, HookRaisesAsRun}

module _ {S : Type 0} (program : Program) (code : CodeBlocks Value) (machine : Machine S Value)
    (embed : CodeState Value → S) (ways : Ways S) (is_of : IsOfCode code machine embed ways)
    (minds : Event Value → Bool) (n : ℕ) (m : Held) (v : Value) (block : BlockCode)
    (known : IsBlockOf program code (block_of m.code.here) block) where
  abbrev Run : Type 0
  Run = State S Names Value World

  abbrev host : Host Names Value World
  host = heap_host program

  abbrev Behind : Run → RaisedSo → Type 0
  Behind t r = BehindRaise program code machine ways minds n t r

  abbrev To : Run → RaisedSo → Type 0
  To s r = (t : Run) × (Comes program machine ways minds n s [] t × Behind t r)

  at-once : (s t : Run) (r : RaisedSo) → s ≡ t → Behind t r → To s r
  at-once s t r e behind = (
    t,
    (
      record { outputs = []; steps = subst (λ u. Steps machine host (minded minds) n u [] t) (sym e) (stays t); written = refl },
      behind,
    ),
  )

  -- it lands from an origin
  module _ (s : Run) (around : StandsAround program machine ways m s) (from : Origin) (i : Ins)
      (there : (code.object (block_of m.code.here)).at from.pc.0 ≡ Some i) where
    abbrev m0 : Held
    m0 = at_origin from m

    abbrev m2 : Held
    m2 = raised_in block v m0

    abbrev cs : CodeStanding
    cs = (behind_raise block v m0).standing

    around-there : StandsAround program machine ways m2 s
    around-there = record {
      at_place = around.at_place;
      here = record {
        frame = around.here.frame;
        act = around.here.act;
        behind_jump = around.here.behind_jump;
      };
      openers = around.openers;
      generators = around.generators;
      world = around.world;
      trace = around.trace;
      tools = around.tools;
      units = around.units;
      frames = around.frames;
      numbers = around.numbers;
      untraced = around.untraced;
    }

    lands-there : ways.lands m.code.here from v ≡ ways.position (standing_of cs) m2.code.here
    lands-there =
        is_of.lands m.code.here from v
        ∙ ap (λ ss. embed (land (code.object (block_of m.code.here)) (rows_at code m.code.here from.pc) (raise v) ss)) (sym (cut-view from.below m.code.here.slots))
        ∙ sym (onward-is program code machine embed ways is_of minds n m0 v i around.at_place there block known)
        ∙ ap (λ z. ways.position z m2.code.here) (settled-there program code machine embed ways is_of minds n cs)

    from-there : To (at run.turning (in_state (ways.lands m.code.here from v) s))
        (record { raised = raised.Goes; machine = landed_from block v from m })
    from-there =
        at-once (at run.turning (in_state (ways.lands m.code.here from v) s))
        (at run.turning (in_state (ways.lands m.code.here from v) s))
        (record { raised = raised.Goes; machine = landed_from block v from m }) refl
        (laws.goes (landed_from block v from m)
        (turning-so program code machine embed ways is_of minds n m2 (standing_of cs) (ways.lands m.code.here from v) s around-there lands-there))

  behind-told : (w : Waiting) (t : Run) (r : Result)
      → BehindTold program machine ways minds n w t r → Behind t (beyond w r)
  behind-told w t _ (telling.event m2 st) = laws.event m2 st
  behind-told w t _ (telling.onward m2 st) = laws.onward m2 w st

  module _ (z : Standing) (active : Option Value) (s : Run)
      (around : StandsAround program machine ways m s)
      (active_is : machine.active s.here.state ≡ active) where
    abbrev unwinding : run.Phase S Names Value World
    unwinding = run.telling (Told.unwinds v ∷ []) (run.ending (T.left_by v))

    unwinds-so : (p : Pending) → s.here.state ≡ ways.position z m.code.here
        → To (at unwinding s) (in_place block v Unwinds (waiting z active p) m)
    unwinds-so p stands =
        let w : Waiting = left_by v (waiting z active p) in
        let is : IsToTell program machine ways m w (told.Unwinds v ∷ []) (at unwinding s) = record {
          around = around-at program code machine embed ways is_of minds n m s unwinding around;
          active = active_is;
          pending = run.ending (T.left_by v);
          phase = refl;
          waits = pend.ending (LeftBy v);
          stands = stands;
        } in
        let to = tells_as_run program machine ways minds n m w (told.Unwinds v ∷ []) (at unwinding s) is block
        (named-by program code machine embed ways is_of minds n (block_of m.code.here) block known) in
        (to.0, (to.1.0, behind-told w to.0 (tell block w (told.Unwinds v ∷ []) m) to.1.1))

    closes-so : (p : Pending)
        → To (at (run.closing (T.left_by v)) s) (in_place block v Closes (waiting z active p) m)
    closes-so p =
        at-once (at (run.closing (T.left_by v)) s) (at (run.closing (T.left_by v)) s)
        (record { raised = raised.Closes v; machine = m }) refl
        (laws.closes m v (around-at program code machine embed ways is_of minds n m s (run.closing (T.left_by v)) around) refl)

    -- by what a raise does in place of what waits
    by : (asked : Origin) (p : Pending) → UnlessGone p z (s.here.state ≡ ways.position z m.code.here)
        → HasOrigin program code machine ways minds n m p asked
        → To (by_instead (ways.lands m.code.here) (instead_of p asked) v s) (in_place block v (instead_of p asked) (waiting z active p) m)
    by asked pending.Starting stands has = unwinds-so pending.Starting stands
    by asked (pending.Doing c) stands has =
        let i = has asked refl in from-there s around asked i.0 i.1
    by asked (pending.Going from) stands has =
        let i = has from refl in from-there s around from i.0 i.1
    by asked (pending.GivingOn u) stands has =
        let i = has asked refl in from-there s around asked i.0 i.1
    by asked (pending.GoingOn r) stands has =
        let i = has asked refl in from-there s around asked i.0 i.1
    by asked (pending.Ending (Gave u)) stands has = unwinds-so (pending.Ending (Gave u)) stands
    by asked (pending.Ending (LeftBy u)) stands has = closes-so (pending.Ending (LeftBy u))

pub raises_as_run : {S : Type 0} (program : Program) (code : CodeBlocks Value)
    (machine : Machine S Value) (embed : CodeState Value → S) (ways : Ways S)
    → IsOfCode code machine embed ways → (minds : Event Value → Bool) (n : ℕ)
    → RaisesAsRun program code machine ways minds n
raises_as_run program code machine embed ways is_of minds n m z active p q s waits v asked is has block known =
    let to = by program code machine embed ways is_of minds n m v block known z active s waits.around waits.active_is asked p waits.stands has in
    let same : hooks.instead_of machine (heap_host program) q v s ≡ by_instead (ways.lands m.code.here) (instead_of p asked) v s =
    raises_take_place machine (heap_host program) (standpoint ways s.here.state z m.code.here) p q waits.pending v s
    ∙ ap (λ o. by_instead (ways.lands m.code.here) (instead_of p o) v s) is in (
      to.0,
      (
        record {
          outputs = to.1.0.outputs;
          steps = subst (λ u. Steps machine (heap_host program) (minded minds) n u to.1.0.outputs to.0) (sym same) to.1.0.steps;
          written = to.1.0.written;
        },
        to.1.1,
      ),
    )

-- a trace function that raises is unset
unset-around : {S : Type 0} (program : Program) (machine : Machine S Value) (ways : Ways S)
    (m : Held) (s : State S Names Value World) → StandsAround program machine ways m s
    → (hook : Hook)
    → StandsAround program machine ways (unset hook m) (hooks.unset_by machine (heap_host program) (hook_view hook) s)
unset-around program machine ways m s around Tracer = fails_as_run program machine ways m s around
unset-around program machine ways m s around (Tool id) = around

pub hook_raises_as_run : {S : Type 0} (program : Program) (code : CodeBlocks Value)
    (machine : Machine S Value) (embed : CodeState Value → S) (ways : Ways S)
    → IsOfCode code machine embed ways → (minds : Event Value → Bool) (n : ℕ)
    → HookRaisesAsRun program code machine ways minds n
hook_raises_as_run {S = S} program code machine embed ways is_of minds n m z active p x s waits v hook e asked is has block known =
    let host : Host Names Value World = heap_host program in
    let s0 : State S Names Value World = hooks.unset_by machine host (hook_view hook) s in
    let s1 : State S Names Value World = hooks.enter_frame machine host v s0 in
    let m0 : Held = unset hook m in
    let m1 : Held = entered_by block (told.Raises v) m0 in
    let named : IsNamed program (block_of m.code.here) block =
    named-by program code machine embed ways is_of minds n (block_of m.code.here) block known in
    let waits1 : Waits program code machine ways minds n m1 z active p x.telling.pending s1 = record {
      around = around-told program machine ways m0 block named (told.Raises v) s0 (unset-around program machine ways m s waits.around hook);
      active_is = waits.active_is;
      pending = waits.pending;
      stands = waits.stands;
    } in
    let to = raises_as_run program code machine embed ways is_of minds n m1 z active p x.telling.pending s1 waits1 v asked is has block known in
    let same : hooks.raise_of_hook machine host x v s ≡ hooks.instead_of machine host x.telling.pending v s1 =
    ap (λ h. hooks.instead_of machine host x.telling.pending v (hooks.enter_frame machine host v (hooks.unset_by machine host h s))) e in (
      to.0,
      (
        record {
          outputs = to.1.0.outputs;
          steps = subst (λ u. Steps machine host (minded minds) n u to.1.0.outputs to.0) (sym same) to.1.0.steps;
          written = to.1.0.written;
        },
        to.1.1,
      ),
    )
