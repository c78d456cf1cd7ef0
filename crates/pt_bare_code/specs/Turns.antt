-- When one machine follows the turns of another, so that it has the same runs where nothing hooks into them: there no jump is asked for, and no event
-- tells which act comes next.
use Rattle.std.specs.Prelude.{◌≡◌, ℕ, ◌↔◌, List, Option}
use Rattle.sem_control.specs.control.Turn as T
use Rattle.sem_control.specs.control.Turn.{Mark, Ask, Answer, Reply, Note, End, Turn}
use Rattle.sem_run.specs.run.Machine.{BlockId, Machine}
use Rattle.sem_run.specs.run.Host.{Host}
use Rattle.sem_run.specs.run.Follows.{Nears}
use Rattle.sem_run.specs.run.Run.{Write}
use Rattle.pt_bare_runs.specs.Strides.{Outcome, Runs}
use Rattle.pt_bare_runs.specs.Laws.{NeverStuck}
use Rattle.pt_bare_writes.specs.Fronts.{RunWritesFirst}

module _ {S R V : Type 0} (first : Machine S V) (second : Machine R V) (At : BlockId → S → R → Type 0) where
  -- the same ask with the same mark, the same note, or the same end; behind each reply the second comes, by silent moves, to a state that stands for
  -- the first one's. Or both move, or both are stuck
  pub data AlikeTurns (b : BlockId) : Turn S V → Turn R V → Type 0 where
    alike_acts : (m : Option Mark) (a : Ask V) (k : Reply V (Answer V a) → S) (k' : Reply V (Answer V a) → R)
        → ((r : Reply V (Answer V a)) → Nears first second At b (k r) (k' r)) → AlikeTurns b (T.act m a k) (T.act m a k')
    alike_notes : (a : Note V) (k : Reply V (Unit {0}) → S) (k' : Reply V (Unit {0}) → R)
        → ((r : Reply V (Unit {0})) → Nears first second At b (k r) (k' r)) → AlikeTurns b (T.note a k) (T.note a k')
    alike_moves : (c : S) (t : R) → Nears first second At b c t → AlikeTurns b (T.move c) (T.move t)
    alike_ends : (e : End V) → AlikeTurns b (T.over e) (T.over e)
    alike_stuck : AlikeTurns b T.stuck T.stuck

  -- At relates states whose turns are alike, and in which the same exception is active
  pub record FollowsTurns : Type 0 where
    pub turns : (b : BlockId) (c : S) (t : R) → At b c t → AlikeTurns b (first.turn b c) (second.turn b t)
    pub begins : (b : BlockId) (i : Option V) → Nears first second At b (first.start b i) (second.start b i)
    pub active : (b : BlockId) (c : S) (t : R) → At b c t → first.active c ≡ second.active t

-- two machines have the same bare runs
abbrev pub HaveTheSameBareRuns : {S R N V W : Type 0} → Machine S V → Machine R V → Host N V W → (n : ℕ) → BlockId → N → W → Type 0
HaveTheSameBareRuns {V = V} {W = W} first second host n b names w =
    (o : Outcome V W) → Runs first host n b names w o ↔ Runs second host n b names w o

-- a bare run of the second is never stuck where one of the first isn't
abbrev pub IsStuckNowhereElse : {S R N V W : Type 0} → Machine S V → Machine R V → Host N V W → (n : ℕ) → BlockId → N → W → Type 0
IsStuckNowhereElse first second host n b names w = NeverStuck first host n b names w → NeverStuck second host n b names w

-- what a bare run of the second writes first, one of the first writes first too
abbrev pub WritesNothingElse : {S R N V W : Type 0} → Machine S V → Machine R V → Host N V W → (n : ℕ) → BlockId → N → W → Type 0
WritesNothingElse first second host n b names w = (ws : List Write) → RunWritesFirst second host n b names w ws → RunWritesFirst first host n b names w ws
