-- What shows of a run in which nobody is asked: what it writes, how many acts it takes, and how it ends.
use Rattle.std.specs.Prelude.{◌≡◌, ℕ, List, ◌++◌, true, Option}
use Rattle.pt_base.specs.declared.what.What.{What}
use Rattle.sem_run.specs.run.Machine.{BlockId, Machine}
use Rattle.sem_run.specs.run.Host.{Host, FrameView}
use Rattle.sem_run.specs.run.Outcome as O
use Rattle.sem_run.specs.run.Outcome.{Output}
use Rattle.sem_run.specs.run.Run as R
use Rattle.sem_run.specs.run.Run.{Write, writes, nobody, move}
use Rattle.sem_run.specs.run.Laws.{Begins, session}

pub data Ending (V W : Type 0) : Type 0 where
  done : Ending V W
  exited : (status : ℕ) → (text : Option (List ℕ)) → Ending V W
  -- an exception left the module
  raised : V → W → Ending V W
  -- all units are taken, and another act would begin
  spent : Ending V W
  outside_at : What → (line : ℕ) → Ending V W

pub record Outcome (V W : Type 0) : Type 0 where
  pub written : List Write
  pub units : ℕ
  pub ending : Ending V W

module _ {N V W : Type 0} where
  -- an ending with the frames that a debugger sees at it
  abbrev pub ending_with : List (FrameView N V) → Ending V W → O.Ending N V W
  ending_with fs done = O.done
  ending_with fs (exited n x) = O.exited n x
  ending_with fs (raised v w) = O.raised v (record { frames = fs; world = w })
  ending_with fs spent = O.spent
  ending_with fs (outside_at what l) = O.outside what l

  -- the same is written, to out and to the log, by the same number of acts, and the ending is the same
  pub record IsAlike {D : Type 0} (p : R.Outcome D N V W) (o : Outcome V W) : Type 0 where
    pub written : writes true p.outputs ≡ o.written
    pub units : p.units ≡ o.units
    pub frames : List (FrameView N V)
    pub ending : p.ending ≡ ending_with frames o.ending

module _ {S N V W : Type 0} (machine : Machine S V) (host : Host N V W) (n : ℕ) where
  -- the run of a block as the module's comes to an outcome of which this shows
  abbrev pub RunsTo : BlockId → N → W → Outcome V W → Type 0
  RunsTo b x w o =
      (p : R.Outcome (Unit {0}) N V W) × R.Runs machine host nobody n (session machine b x w tt) p × IsAlike p o

  -- it writes this first, whether or not it comes to an outcome
  pub record WritesFirst (b : BlockId) (x : N) (w : W) (ws : List Write) : Type 0 where
    pub outputs : List (Output V)
    pub begins : Begins machine host nobody n (move machine host nobody n (session machine b x w tt)) outputs
    pub rest : List Write
    pub front : writes true outputs ≡ ws ++ rest

  abbrev pub ShowsOnce : BlockId → N → W → Type 0
  ShowsOnce b x w = (o p : Outcome V W) → RunsTo b x w o → RunsTo b x w p → o ≡ p

  -- all that a run writes begins with what it writes first
  abbrev pub WritesItFirst : BlockId → N → W → Type 0
  WritesItFirst b x w =
      (o : Outcome V W) (ws : List Write) → RunsTo b x w o → WritesFirst b x w ws → (rest : List Write) × (o.written ≡ ws ++ rest)
