-- What a bare run writes to the log: lines of events in visible blocks, and nothing else.
use Rattle.std.specs.Prelude.{◌≡◌, ℕ, false, List, [], ◌∷◌}
use Rattle.sem_run.specs.run.Machine.{BlockId, Machine}
use Rattle.sem_run.specs.run.Events.{Event}
use Rattle.sem_run.specs.run.Host.{Host}
use Rattle.sem_run.specs.run.Run.{Write, to_log}
use Rattle.pt_bare_runs.specs.Strides.{Outcome, Runs}

module _ {N V W : Type 0} (host : Host N V W) where
  pub record IsLogLine (text : List ℕ) : Type 0 where
    pub event : Event V
    pub world : W
    pub visible : event.block.hidden ≡ false
    pub is_text : text ≡ host.log_line event world

  abbrev pub IsLoggedSo : Write → Type 0
  IsLoggedSo w = w.sink ≡ to_log → IsLogLine w.text

  abbrev pub AreLoggedSo : List Write → Type 0
  AreLoggedSo [] = Unit {0}
  AreLoggedSo (w ∷ ws) = IsLoggedSo w × AreLoggedSo ws

-- so it is with an outcome of the run of a block as the module's
abbrev pub OutcomesLogTheirEvents : (S N V W : Type 0) → Type 0
OutcomesLogTheirEvents S N V W = (machine : Machine S V) (host : Host N V W) (n : ℕ) (b : BlockId) (names : N) (world : W) (o : Outcome V W)
    → Runs machine host n b names world o → AreLoggedSo host o.written
