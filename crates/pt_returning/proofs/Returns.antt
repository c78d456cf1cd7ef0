-- Results go to what waits, as in a run.
use Rattle.std.proofs.Common.{◌≡◌, ◌∙◌, ℕ, List, [], ◌∷◌, Bool, Option, Some, None, ◌++◌, map, refl, ap, subst}
use Rattle.pt_heap.specs.declared.value.Value.{Value}
use Rattle.sem_run.specs.run.Machine.{BlockId, Machine}
use Rattle.sem_run.specs.run.Events.{Event}
use Rattle.sem_run.specs.run.Host.{Host, Frame, BlockResult}
use Rattle.sem_run.specs.run.State as run
use Rattle.sem_run.specs.run.State.{State, at, answering, hearing, store}
use Rattle.sem_run.specs.run.Outcome as O
use Rattle.sem_run.specs.run.Step.{by_phase, close, close_frame, return_to, pass_result}
use Rattle.sem_steps.specs.Steps.{stays, behind_step}
use Rattle.pt_opening.specs.pt_host.World.{Names, World, CodeFacts, Program}
use Rattle.pt_opening.specs.pt_host.HeapHost.{heap_host}
use Rattle.pt_pendings.specs.declared.reply.End.{End}
use Rattle.pt_pendings.specs.declared.pending.Pending.{Pending}
use Rattle.pt_pendings.specs.declared.pending.Pending.TheVariants as pending
use Rattle.pt_pendings.specs.Stands as pend
use Rattle.pt_pendings.specs.Views.{end_view}
use Rattle.pt_opening.specs.pt_purposes.declared.opener.Opener.{Opener}
use Rattle.pt_opening.specs.pt_purposes.declared.purpose.Purpose.{Purpose}
use Rattle.pt_opening.specs.pt_purposes.Seen.{block_of, frame_of}
use Rattle.pt_opening.specs.pt_purposes.Openers as openers
use Rattle.pt_opening.specs.pt_purposes.Openers.{Ways, AreOpeners, IsOpener, IsOpenFor, standpoint}
use Rattle.pt_opening.specs.pt_run_state.declared.machine.Machine.{Machine as Held}
use Rattle.pt_opening.specs.pt_run_state.Stands.{newest, AreGivenOnce, numbers_kept, StandsAround}
use Rattle.pt_returning.specs.Returning.{returned_to}
use Rattle.pt_returning.specs.Laws as laws
use Rattle.pt_returning.specs.Laws.{asked_by, facts_here, result_here, GoesTo, ReturnsAsRun}

module _ {S : Type 0} (program : Program) (machine : Machine S Value) (ways : Ways S)
    (minds : Event Value → Bool) (n : ℕ) (m : Held) where
  abbrev Run : Type 0
  Run = State S Names Value World

  abbrev host : Host Names Value World
  host = heap_host program

  abbrev here_block : BlockId
  here_block = block_of m.code.here

  abbrev known : CodeFacts
  known = facts_here program m

  -- one waits in the run too
  record OneWaits (o : Opener) (os : List Opener) (rs : List (run.Opener S Names Value World))
      : Type 0 where
    first : run.Opener S Names Value World
    others : List (run.Opener S Names Value World)
    these : rs ≡ first ∷ others
    is : IsOpener program machine ways m.hooks here_block o first
    rest : AreOpeners program machine ways m.hooks (block_of o.running.activation) os others

  abbrev One_if : List Opener → List (run.Opener S Names Value World) → Type 0
  One_if [] rs = Unit {0}
  One_if (o ∷ os) rs = OneWaits o os rs

  one-if : (above : BlockId) (es : List Opener) (rs : List (run.Opener S Names Value World))
      → AreOpeners program machine ways m.hooks above es rs → above ≡ here_block → One_if es rs
  one-if _ _ _ (openers.none above) same = tt
  one-if _ _ _ (openers.more above e o es os is rest) same = record {
    first = o;
    others = os;
    these = refl;
    is = subst (λ b. IsOpener program machine ways m.hooks b e o) same is;
    rest = rest;
  }

  -- what waits in the run is that end
  abbrev Ends_so : Pending → run.Pending S Value → Type 0
  Ends_so (pending.Ending e) q = q ≡ run.ending (end_view e)
  Ends_so p q = Unit {0}

  ends-so : (here : pend.Standpoint S) (p : Pending) (q : run.Pending S Value)
      → pend.IsPending machine here p q → Ends_so p q
  ends-so here _ _ pend.starting = tt
  ends-so here _ _ (pend.doing q c x e) = tt
  ends-so here _ _ (pend.going from f e) = tt
  ends-so here _ _ (pend.giving_on y v x) = tt
  ends-so here _ _ (pend.going_on y r x) = tt
  ends-so here _ _ (pend.ending e) = refl

  module _ (e : End) (o : Opener) (os : List Opener) (r : run.Opener S Names Value World)
      (rs : List (run.Opener S Names Value World)) (s : Run)
      (frame-is : s.here.frame ≡ frame_of program m.hooks (newest m)) where
    abbrev closing_s : Run
    closing_s = at (run.closing (end_view e)) s

    abbrev closed : Run
    closed = return_to machine host r rs (close_frame machine host closing_s)

    -- it is passed to what it was open for
    abbrev Passed : Option ℕ → run.Purpose S Names Value World → Type 0
    Passed None p =
        (ph : run.Phase S Names Value World)
        × ((pass_result machine host p (end_view e) r rs closing_s ≡ at ph closed)
        × GoesTo program machine ways minds n known (result_here program m e) o (at ph closed))
    Passed (Some g) p = Unit {0}

    -- it gives so
    abbrev given : BlockResult Names Value
    given = record { end = end_view e; names = s.here.frame.names }

    abbrev with_names_of : Frame Names Value → BlockResult Names Value
    with_names_of x = record { end = end_view e; names = x.names }

    given-is : given ≡ result_here program m e
    given-is = ap (λ x. with_names_of x) frame-is

    goes-so : (t : Run) → GoesTo program machine ways minds n known given o t
        → GoesTo program machine ways minds n known (result_here program m e) o t
    goes-so t goes = subst (λ g. GoesTo program machine ways minds n known g o t) given-is goes

    passed : (g : Option ℕ) (u : Purpose) (p : run.Purpose S Names Value World) → o.purpose ≡ u
        → IsOpenFor machine ways o.running.activation r.activation.state o.why (asked_by o) known g
        u p → Passed g p
    passed _ _ _ same (openers.block_of_ask called is_act q f waits leads) =
        let ph : run.Phase S Names Value World = answering q (f given (store closed)) in (
          ph,
          (refl, goes-so (at ph closed) (laws.ask called is_act q (f given (store closed)) same waits refl (leads given (store closed)))),
        )
    passed _ _ _ same (openers.block_of_hook hook z active t x f hears by) =
        let ph : run.Phase S Names Value World = hearing x (f given (store closed)) in (
          ph,
          (refl, goes-so (at ph closed) (laws.hook hook z active t x same hears (ap (λ a. hearing x a) (by given (store closed))))),
        )
    passed _ _ _ same (openers.generator_of_ask g called is_act q f waits leads) = tt
    passed _ _ _ same (openers.generator_of_delegation g z i k y b f c asked by) = tt

    around-closed : (ph : run.Phase S Names Value World) → StandsAround program machine ways m s
        → m.openers ≡ o ∷ os → IsOpener program machine ways m.hooks here_block o r
        → AreOpeners program machine ways m.hooks (block_of o.running.activation) os rs
        → StandsAround program machine ways (returned_to o os m) (at ph closed)
    around-closed ph around waits is rest = record {
      at_place = around.at_place;
      here = is.running;
      openers = rest;
      generators = around.generators;
      world = around.world;
      trace = around.trace;
      tools = around.tools;
      units = around.units;
      frames = around.frames;
      numbers = (subst (λ es. AreGivenOnce m.code.frames.frame_count (m.code.here.frame.0 ∷ map (λ u. u.running.activation.frame.0) es ++ numbers_kept m.generators)) waits around.numbers).1.1;
      untraced = around.untraced;
    }

pub returns_as_run : {S : Type 0} (program : Program) (machine : Machine S Value) (ways : Ways S)
    (minds : Event Value → Bool) (n : ℕ) → ReturnsAsRun program machine ways minds n
returns_as_run {S = S} program machine ways minds n m z active e s is o os waits none =
    let host : Host Names Value World = heap_host program in
    let q : is.pending ≡ run.ending (end_view e) =
    ends-so program machine ways minds n m (standpoint ways s.here.state z m.code.here) (pending.Ending e) is.pending is.waits in
    let one : OneWaits program machine ways minds n m o os s.openers =
    subst (λ es. One_if program machine ways minds n m es s.openers) waits (one-if program machine ways minds n m (block_of m.code.here) m.openers s.openers is.around.openers refl) in
    let pass : Passed program machine ways minds n m e o os one.first one.others s is.around.here.frame None one.first.purpose =
    subst (λ g. Passed program machine ways minds n m e o os one.first one.others s is.around.here.frame g one.first.purpose) none
    (passed program machine ways minds n m e o os one.first one.others s is.around.here.frame o.generator o.purpose one.first.purpose refl one.is.purpose) in
    let u : State S Names Value World = at (run.closing (end_view e)) s in
    let t : State S Names Value World = at pass.0 (closed program machine ways minds n m e o os one.first one.others s is.around.here.frame) in (
      t,
      (
        record {
          outputs = [];
          steps = behind_step s u t [] [] (ap (λ p. by_phase machine host n p s) (is.phase ∙ ap (λ p. run.telling [] p) q))
              (behind_step u t t [] [] (ap (λ rs. close machine host (end_view e) rs u) one.these ∙ ap (λ y. O.goes [] y) pass.1.0) (stays t));
          written = refl;
        },
        (
          around-closed program machine ways minds n m e o os one.first one.others s is.around.here.frame pass.0 is.around waits one.is one.rest,
          (one.is.active, pass.1.1),
        ),
      ),
    )
