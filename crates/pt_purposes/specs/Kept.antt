-- When a generator that is kept stands for one of a run: a fresh one stands at the beginning of its
-- block, and a suspended one at the ask that gave a value on, with all its slots (Language
-- Reference 6.2.9).
use Rattle.std.specs.Prelude.{◌≡◌, List, [], ◌∷◌}
use Rattle.pt_heap.specs.declared.value.Value.{Value}
use Rattle.pt_gen.specs.declared.generator.Generator.{Generator}
use Rattle.pt_gen.specs.declared.generator.Generator.TheVariants.{Fresh, Suspended, Running, Finished}
use Rattle.sem_run.specs.run.Machine.{Machine}
use Rattle.sem_run.specs.run.State as run
use Rattle.sem_run.specs.run.State.{OpenYield}
use Rattle.sem_rows.specs.pt_host.World.{Names, Program}
use Rattle.pt_settrace.specs.Tracing.{Tracing}
use Rattle.pt_pendings.specs.Stands.{IsYield}
use Rattle.pt_purposes.specs.declared.standing.Standing.TheVariants.{AtPlace}
use Rattle.pt_purposes.specs.declared.opener.Running.{Running as Kept}
use Rattle.pt_purposes.specs.Openers.{Ways, IsRunning, standpoint}

module _ {S : Type 0} (program : Program) (machine : Machine S Value) (ways : Ways S)
    (h : Tracing) where
  abbrev pub there : Kept → S
  there r = ways.position AtPlace r.activation

  -- it isn't open, and its machine stands at its place
  pub record IsAtPlace (r : Kept) (a : run.Activation S Names Value) : Type 0 where
    pub runs : IsRunning program h r a
    pub state : a.state ≡ there r

  pub data IsKept : Generator Kept → run.Generator S Names Value → Type 0 where
    fresh : (r : Kept) (a : run.Activation S Names Value) → IsAtPlace r a
        → IsKept (Fresh r) (run.fresh a)
    suspended : (r : Kept) (a : run.Activation S Names Value) (y : OpenYield S Value)
        → IsAtPlace r a
        → IsYield machine (standpoint ways (there r) AtPlace r.activation) y
        → IsKept (Suspended r) (run.suspended a y)
    running : IsKept Running run.running
    finished : IsKept Finished run.finished

  pub data AreKept : List (Generator Kept) → List (run.Generator S Names Value) → Type 0 where
    none : AreKept [] []
    more : (g : Generator Kept) (x : run.Generator S Names Value) (gs : List (Generator Kept))
        (xs : List (run.Generator S Names Value)) → IsKept g x → AreKept gs xs
        → AreKept (g ∷ gs) (x ∷ xs)
