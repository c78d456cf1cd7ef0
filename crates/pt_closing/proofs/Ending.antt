-- The run ends with the module's block.
use Rattle.std.proofs.Common.{◌≡◌, ◌∙◌, ℕ, List, [], ◌∷◌, Bool, true, false, Option, refl, sym, ap, subst}
use Rattle.std.specs.Prelude.{if◌then◌else◌}
use Rattle.std.specs.Option.{option_map}
use Rattle.pt_base.specs.declared.what.What.TheVariants.{Exit}
use Rattle.pt_heap.specs.declared.value.Value.{Value}
use Rattle.sem_control.specs.control.Turn as T
use Rattle.sem_run.specs.run.Machine.{Machine, BlockId}
use Rattle.sem_run.specs.run.Events.{Event}
use Rattle.sem_run.specs.run.Host.{Host, Frame, Leaving, exits, exits_oddly, fails}
use Rattle.sem_run.specs.run.State as run
use Rattle.sem_run.specs.run.State.{State, at}
use Rattle.sem_run.specs.run.Outcome as O
use Rattle.sem_run.specs.run.Views as views
use Rattle.sem_run.specs.run.Views.{line_or, line_of_first}
use Rattle.sem_run.specs.run.Step.{step, by_phase, close, close_frame, end_by_exception, end_of_module}
use Rattle.sem_steps.specs.Steps.{Steps, stays, behind_step, minded}
use Rattle.pt_beginning.specs.pt_host.World.{Names, World, Program}
use Rattle.pt_beginning.specs.pt_host.Leaving.{leaving}
use Rattle.pt_beginning.specs.pt_host.HeapHost.{heap_host}
use Rattle.pt_pendings.specs.declared.reply.End.{End}
use Rattle.pt_pendings.specs.declared.reply.End.TheVariants.{Gave, LeftBy}
use Rattle.pt_pendings.specs.declared.pending.Pending.{Pending}
use Rattle.pt_pendings.specs.declared.pending.Pending.TheVariants as pending
use Rattle.pt_pendings.specs.Stands as pend
use Rattle.pt_pendings.specs.Views.{end_view}
use Rattle.pt_beginning.specs.pt_machine_state.declared.blocks.BlockCode.{BlockCode}
use Rattle.pt_beginning.specs.pt_machine_state.Changes.{line_of}
use Rattle.pt_beginning.specs.pt_purposes.declared.standing.Standing.{Standing}
use Rattle.pt_beginning.specs.pt_purposes.declared.opener.Opener.{Opener}
use Rattle.pt_beginning.specs.pt_purposes.Seen.{block_of, frame_of}
use Rattle.pt_beginning.specs.pt_purposes.Openers as openers
use Rattle.pt_beginning.specs.pt_purposes.Openers.{Ways, AreOpeners, standpoint}
use Rattle.pt_beginning.specs.pt_run_state.declared.machine.Machine.{Machine as Held}
use Rattle.pt_beginning.specs.pt_run_state.declared.machine.Turn.TheVariants.{Ends}
use Rattle.pt_beginning.specs.pt_run_state.Stands.{world_of, newest, StandsAround, IsToTell}
use Rattle.pt_beginning.specs.pt_run_state.Advances as advances
use Rattle.pt_beginning.specs.pt_run_state.Advances.{IsEnding, Behind}
use Rattle.pt_beginning.specs.pt_telling.Laws.{IsNamed, Comes}
use Rattle.pt_closing.specs.Ending.{module_end}
use Rattle.pt_closing.specs.Laws.{ending_so, ModuleEndsAsRun}

module _ {S : Type 0} (program : Program) (machine : Machine S Value) (ways : Ways S)
    (minds : Event Value → Bool) (n : ℕ) (m : Held) where
  abbrev Run : Type 0
  Run = State S Names Value World

  abbrev host : Host Names Value World
  host = heap_host program

  -- none wait in the run either
  abbrev None_if : List Opener → List (run.Opener S Names Value World) → Type 0
  None_if [] os = os ≡ []
  None_if (e ∷ es) os = Unit {0}

  none-if : (above : BlockId) (es : List Opener) (os : List (run.Opener S Names Value World))
      → AreOpeners program machine ways m.hooks above es os → None_if es os
  none-if _ _ _ (openers.none above) = refl
  none-if _ _ _ (openers.more above e o es os is rest) = tt

  -- what waits in the run is that end
  abbrev Ends_so : Pending → run.Pending S Value → Type 0
  Ends_so (pending.Ending e) q = q ≡ run.ending (end_view e)
  Ends_so p q = Unit {0}

  ends-so : (here : pend.Standpoint S) (p : Pending) (q : run.Pending S Value)
      → pend.IsPending machine here p q → Ends_so p q
  ends-so here _ _ pend.starting = tt
  ends-so here _ _ (pend.doing q c x e) = tt
  ends-so here _ _ (pend.going from f e) = tt
  ends-so here _ _ (pend.giving_on y v x) = tt
  ends-so here _ _ (pend.going_on y r x) = tt
  ends-so here _ _ (pend.ending e) = refl

  module _ (s : Run) (around : StandsAround program machine ways m s) (alone : m.openers ≡ [])
      (block : BlockCode) (named : IsNamed program (block_of m.code.here) block) where
    none : s.openers ≡ []
    none = subst (λ es. None_if es s.openers) alone (none-if (block_of m.code.here) m.openers s.openers around.openers)

    abbrev closing_by : T.End Value → Run
    closing_by e = at (run.closing e) s

    abbrev closed : T.End Value → Run
    closed e = close_frame machine host (closing_by e)

    closes : (e : T.End Value)
        → step machine host n (closing_by e) ≡ O.ends (end_of_module machine host e (closed e))
    closes e = ap (λ os. close machine host e os (closing_by e)) none

    -- the line of its frame
    only-line : (f : Frame Names Value) (hidden : Bool)
        → line_of_first host.first_line f (if hidden then [] else f ∷ []) ≡ views.line_of host.first_line f
    only-line f true = refl
    only-line f false = refl

    line-is : (e : T.End Value)
        → views.visible_line host.first_line (closed e) ≡ line_of block m.code
    line-is e =
        ap (λ os. line_of_first host.first_line s.here.frame (views.visible (s.here.frame ∷ views.frames_of os))) none
        ∙ only-line s.here.frame s.here.frame.block.hidden
        ∙ ap (λ f. views.line_of host.first_line f) around.here.frame
        ∙ ap (λ l. line_or l (option_map (λ k. k.0) m.code.here.line)) (sym named.first_line)

    -- an exception leaves the module
    by-leaving : (v : Value) (l : Leaving) → leaving v (world_of m) ≡ l
        → IsEnding m (module_end block (LeftBy v) m) (end_by_exception machine host v l (closed (T.left_by v)))
    by-leaving v (exits k t) e = advances.exited v (record { 0 = line_of block m.code }) k t e
    by-leaving v exits_oddly e =
        subst (λ l. IsEnding m (module_end block (LeftBy v) m) (O.outside Exit l))
        (sym (line-is (T.left_by v))) (advances.exited_oddly v (record { 0 = line_of block m.code }) e)
    by-leaving v (fails es) e =
        advances.raised v (record { 0 = line_of block m.code }) es
        (record { frames = views.frames_of_trace host.first_line es (closed (T.left_by v)); world = s.world })
        e around.world

    is-ending : (e : End) → IsEnding m (module_end block e m) (end_of_module machine host (end_view e) (closed (end_view e)))
    is-ending (Gave v) = advances.done
    is-ending (LeftBy v) =
        subst (λ w. IsEnding m (module_end block (LeftBy v) m) (end_by_exception machine host v (leaving v w) (closed (T.left_by v))))
        (sym around.world) (by-leaving v (leaving v (world_of m)) refl)

pub module_ends_as_run : {S : Type 0} (program : Program) (machine : Machine S Value)
    (ways : Ways S) (minds : Event Value → Bool) (n : ℕ) → ModuleEndsAsRun program machine ways minds n
module_ends_as_run program machine ways minds n m z active e s is alone block named =
    let q : is.pending ≡ run.ending (end_view e) =
    ends-so program machine ways minds n m (standpoint ways s.here.state z m.code.here) (pending.Ending e) is.pending is.waits in
    let host : Host Names Value World = heap_host program in
    let t = at (run.closing (end_view e)) s in (
      t,
      (
        record {
          outputs = [];
          steps = behind_step s t t [] [] (ap (λ p. by_phase machine host n p s) (is.phase ∙ ap (λ p. run.telling [] p) q)) (stays t);
          written = refl;
        },
        advances.ends (module_end block e m) (end_of_module machine host (end_view e) (closed program machine ways minds n m s is.around alone block named (end_view e)))
            (closes program machine ways minds n m s is.around alone block named (end_view e))
            (is-ending program machine ways minds n m s is.around alone block named e) is.around.units,
      ),
    )
