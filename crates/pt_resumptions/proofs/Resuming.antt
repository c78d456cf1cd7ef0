-- Generators go on as their state tells.
use Rattle.std.proofs.Common.{◌≡◌, ℕ, Some, refl, sym, ap, ◌∙◌}
use Rattle.pt_heap.specs.declared.value.Value.{Value}
use Rattle.pt_heap.specs.declared.value.Value.TheVariants as value
use Rattle.sem_control.specs.control.Turn.{got}
use Rattle.pt_gen.specs.declared.generator.How.{How}
use Rattle.pt_gen.specs.declared.generator.How.TheVariants.{Next, Send, Throw, Close}
use Rattle.sem_run.specs.run.Machine.{Machine}
use Rattle.sem_run.specs.run.Events.{resumes}
use Rattle.sem_run.specs.run.Host as run
use Rattle.sem_run.specs.run.Host.{Host, GeneratorResult}
use Rattle.sem_run.specs.run.State.{Activation, OpenYield, Rest, Generator, fresh, suspended, running, finished, going_on, State}
use Rattle.sem_run.specs.run.Requests.{give, wake, send_early, with_generator, resume_by}
use Rattle.pt_resumptions.specs.Resumptions.{resumption}
use Rattle.pt_settrace.specs.Tracing.{unless_none}
use Rattle.pt_resumptions.specs.Views.{how_view, state_of}
use Rattle.pt_resumptions.specs.Laws.{resumed, KnowsNone, GoesOnByState}

module _ {S N W : Type 0} (machine : Machine S Value) (host : Host N Value W)
    (knows : KnowsNone host) (g : ℕ) (r : Rest S N Value W (GeneratorResult Value))
    (s : State S N Value W) where
  abbrev Alike : Generator S N Value → How → Type 0
  Alike x how =
      resume_by machine host (Some x) (how_view how) g r s
      ≡ resumed machine host g r s x (resumption (state_of x) how)

  -- what is sent to one that hasn't started
  early : (a : Activation S N Value) (v : Value) → unless_none v ≡ Some v
      → resume_by machine host (Some (fresh a)) (how_view (Send v)) g r s
      ≡ give machine host r (run.cannot run.is_fresh) s
  early a v e = ap (λ o. send_early machine host o g a r s) (knows.nothing v ∙ e)

  to_fresh : (a : Activation S N Value) (how : How) → Alike (fresh a) how
  to_fresh a Next = refl
  to_fresh a (Throw v) = refl
  to_fresh a Close = refl
  to_fresh a (Send value.None) =
      ap (λ o. send_early machine host o g a r s) (knows.nothing value.None)
  to_fresh a (Send (value.Bool b)) = early a (value.Bool b) refl
  to_fresh a (Send (value.Int z)) = early a (value.Int z) refl
  to_fresh a (Send value.Ellipsis) = early a value.Ellipsis refl
  to_fresh a (Send value.NotImplemented) = early a value.NotImplemented refl
  to_fresh a (Send (value.Obj id)) = early a (value.Obj id) refl

  to_suspended : (a : Activation S N Value) (y : OpenYield S Value) (how : How) → Alike (suspended a y) how
  to_suspended a y Next =
      ap (λ v. wake machine host g a resumes (going_on y (got v)) r s) knows.null
  to_suspended a y (Send v) = refl
  to_suspended a y (Throw v) = refl
  to_suspended a y Close = refl

  to_running : (how : How) → Alike running how
  to_running Next = refl
  to_running (Send v) = refl
  to_running (Throw v) = refl
  to_running Close = refl

  -- one that is finished stays as it is
  to_finished : with_generator g finished s ≡ s → (how : How) → Alike finished how
  to_finished e Next = refl
  to_finished e (Send v) = refl
  to_finished e (Throw v) = ap (λ t. give machine host r (run.throws_back v) t) (sym e)
  to_finished e Close = ap (λ t. give machine host r run.nothing_to_close t) (sym e)

  alike : (x : Generator S N Value) (how : How) → with_generator g x s ≡ s → Alike x how
  alike (fresh a) how e = to_fresh a how
  alike (suspended a y) how e = to_suspended a y how
  alike running how e = to_running how
  alike finished how e = to_finished e how

pub goes_on_by_state : {S N W : Type 0} (machine : Machine S Value) (host : Host N Value W)
    → GoesOnByState machine host
goes_on_by_state machine host knows x how g r s e = alike machine host knows g r s x how e
