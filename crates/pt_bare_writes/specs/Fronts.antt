-- What a bare run writes first, whether or not it comes to an outcome.
use Rattle.std.specs.Prelude.{◌≡◌, ℕ, List, [], ◌++◌}
use Rattle.sem_run.specs.run.Machine.{BlockId, Machine}
use Rattle.sem_run.specs.run.Events.{starts}
use Rattle.sem_run.specs.run.Host.{Host}
use Rattle.sem_run.specs.run.Run.{Write}
use Rattle.sem_run.specs.run.Shown as shown
use Rattle.pt_bare_runs.specs.Strides.{State, Stride, goes, ends, is_stuck, stride, logged, start, Outcome, Runs}

abbrev pub written_by : {S N V W : Type 0} → Stride S N V W → List Write
written_by (goes ws s) = ws
written_by (ends ws u e) = ws
written_by is_stuck = []

module _ {S N V W : Type 0} (machine : Machine S V) (host : Host N V W) (n : ℕ) where
  -- these come first of all that a stride writes, and the strides behind it
  pub data WritesFirst : Stride S N V W → List Write → Type 0 where
    within : (x : Stride S N V W) (ws rest : List Write) → written_by x ≡ ws ++ rest → WritesFirst x ws
    beyond : (ws : List Write) (s : State S N V W) (vs : List Write) → WritesFirst (stride machine host n s) vs → WritesFirst (goes ws s) (ws ++ vs)

  -- of all that the run of a block as the module's writes
  abbrev pub RunWritesFirst : BlockId → N → W → List Write → Type 0
  RunWritesFirst b x w ws = WritesFirst (goes (logged machine host starts (start machine host b x w)) (start machine host b x w)) ws

  -- so does the run in which nobody is asked
  abbrev pub RunWritesItFirst : BlockId → N → W → Type 0
  RunWritesItFirst b x w = (ws : List Write) → RunWritesFirst b x w ws → shown.WritesFirst machine host n b x w ws

  -- an outcome's writes begin so
  abbrev pub OutcomesBeginSo : BlockId → N → W → Type 0
  OutcomesBeginSo b x w =
      (o : Outcome V W) (ws : List Write) → Runs machine host n b x w o → RunWritesFirst b x w ws → (rest : List Write) × (o.written ≡ ws ++ rest)
