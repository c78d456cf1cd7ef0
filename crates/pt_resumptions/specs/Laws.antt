-- What the law says of generators that go on.
use Rattle.std.specs.Prelude.{◌≡◌, ℕ, Some}
use Rattle.pt_heap.specs.declared.value.Value.{Value}
use Rattle.pt_heap.specs.declared.value.Value.TheVariants as value
use Rattle.sem_control.specs.control.Turn.{got, raised}
use Rattle.pt_gen.specs.declared.generator.How.{How}
use Rattle.sem_run.specs.run.Machine.{Machine}
use Rattle.sem_run.specs.run.Events.{starts, resumes, throws}
use Rattle.sem_run.specs.run.Host as run
use Rattle.sem_run.specs.run.Host.{Host, GeneratorResult, generator_exit}
use Rattle.sem_run.specs.run.State.{Rest, Generator, fresh, suspended, finished, starting, going_on, State}
use Rattle.sem_run.specs.run.Views.{here_of}
use Rattle.sem_run.specs.run.Requests.{give, wake, throw_exit, with_generator, resume_by}
use Rattle.pt_resumptions.specs.declared.resumption.Resumption.{Resumption}
use Rattle.pt_resumptions.specs.declared.resumption.Resumption.TheVariants as by
use Rattle.pt_resumptions.specs.Resumptions.{resumption}
use Rattle.pt_settrace.specs.Tracing.{unless_none}
use Rattle.pt_resumptions.specs.Views.{how_view, obstacle_view, state_of}

module _ {S N W : Type 0} (machine : Machine S Value) (host : Host N Value W) (g : ℕ)
    (r : Rest S N Value W (GeneratorResult Value)) (s : State S N Value W) where
  -- one that can't be thrown to, or closed, is finished
  abbrev pub given_back : Resumption → State S N Value W
  given_back (by.Cannot o) = give machine host r (run.cannot (obstacle_view o)) s
  given_back (by.ThrowsBack v) = give machine host r (run.throws_back v) (with_generator g finished s)
  given_back by.NothingToClose =
      give machine host r run.nothing_to_close (with_generator g finished s)
  given_back x = s

  -- so does a run: an activation opens, or the result is there
  abbrev pub resumed : Generator S N Value → Resumption → State S N Value W
  resumed (fresh a) by.Starts = wake machine host g a starts (starting a.state) r s
  resumed (suspended a y) (by.GoesOn v) =
      wake machine host g a resumes (going_on y (got v)) r s
  resumed (suspended a y) (by.Throws v) =
      wake machine host g a (throws v) (going_on y (raised v)) r s
  resumed (suspended a y) by.Closes =
      throw_exit machine host g a y r (host.makes generator_exit (here_of machine s) s.world) s
  resumed x how = given_back how

-- None is the value that stands for nothing
pub record KnowsNone {N W : Type 0} (host : Host N Value W) : Type 0 where
  pub null : host.null ≡ value.None
  pub nothing : (v : Value) → host.unless_null v ≡ unless_none v

-- a generator that stands at its number goes on as its state tells; one that is finished stays so
abbrev pub GoesOnByState : {S N W : Type 0} → Machine S Value → Host N Value W → Type 0
GoesOnByState {S = S} {N = N} {W = W} machine host =
    KnowsNone host → (x : Generator S N Value) (how : How) (g : ℕ)
    (r : Rest S N Value W (GeneratorResult Value)) (s : State S N Value W)
    → with_generator g x s ≡ s
    → resume_by machine host (Some x) (how_view how) g r s
    ≡ resumed machine host g r s x (resumption (state_of x) how)
