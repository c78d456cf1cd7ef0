-- A machine: it gives the turns of a block's activation. Control of a script's tree is one, code on slots is another; nothing
-- else of a run knows which it is.
use Rattle.std.specs.Prelude.{ℕ, ◌==◌, Bool, true, false, not, ◌&&◌, Option, Some, if◌then◌else◌}
use Rattle.sem_control.specs.control.Turn as T
use Rattle.sem_control.specs.control.Turn.{Turn}

-- a block, by its number among those of the script or those of the prelude; the prelude's are hidden
pub record BlockId : Type 0 where
  pub hidden : Bool
  pub number : ℕ

abbrev pub same_block : BlockId → BlockId → Bool
same_block b c = (if b.hidden then c.hidden else not c.hidden) && b.number == c.number

-- why a jump is refused: it isn't asked for at a line event, or not for the newest frame that is traced; no statement of the
-- block starts on the line; a `finally` part would be entered or left; another closed part would be entered
pub data Reason : Type 0 where
  not_at_line : Reason
  not_newest : Reason
  no_statement : Reason
  out_of_finally : Reason
  into_block : Reason

-- a jump lands in a state in which nothing has begun, as hooks look at it; the block goes on in another, or by a raise in a third
pub data Jump (S V : Type 0) : Type 0 where
  refuses : Reason → Jump S V
  lands : (to onward : S) (instead : V → S) → Jump S V

-- an act begins with its mark, so that a line may be told
abbrev pub is_act : {S V : Type 0} → Turn S V → Bool
is_act (T.act (Some m) a k) = true
is_act t = false

-- turns and jumps of states that are parts of others
abbrev pub turn_in : {S R V : Type 0} → (S → R) → Turn S V → Turn R V
turn_in f (T.act m a k) = T.act m a (λ r. f (k r))
turn_in f (T.note a k) = T.note a (λ r. f (k r))
turn_in f (T.move c) = T.move (f c)
turn_in f (T.over e) = T.over e
turn_in f T.stuck = T.stuck

abbrev pub jump_in : {S R V : Type 0} → (S → R) → Jump S V → Jump R V
jump_in f (refuses r) = refuses r
jump_in f (lands to c g) = lands (f to) (f c) (λ v. f (g v))

pub record Machine (S V : Type 0) : Type 0 where
  -- a block begins; a generator expression has the iterator that it goes over
  pub start : BlockId → (iterator : Option V) → S
  pub turn : BlockId → S → Turn S V
  -- a jump to a line (`frame.f_lineno`, Library Reference, sys.settrace)
  pub jump : BlockId → S → (line : ℕ) → Jump S V
  -- the exception that is active there (Language Reference 7.8)
  pub active : S → Option V
  -- the number of the act that comes next if nothing is raised, and that of all acts where the block ends (PEP 669, JUMP and
  -- BRANCH)
  pub destination : BlockId → S → ℕ

-- the blocks of the prelude by one machine, and those of the script by another
pub data Side (S R : Type 0) : Type 0 where
  of_prelude : S → Side S R
  of_script : R → Side S R

module _ {S R V : Type 0} (prelude : Machine S V) (script : Machine R V) where
  abbrev pub side_turn : BlockId → Side S R → Turn (Side S R) V
  side_turn b (of_prelude c) = turn_in of_prelude (prelude.turn b c)
  side_turn b (of_script c) = turn_in of_script (script.turn b c)

  abbrev pub side_jump : BlockId → Side S R → (line : ℕ) → Jump (Side S R) V
  side_jump b (of_prelude c) l = jump_in of_prelude (prelude.jump b c l)
  side_jump b (of_script c) l = jump_in of_script (script.jump b c l)

  abbrev pub side_active : Side S R → Option V
  side_active (of_prelude c) = prelude.active c
  side_active (of_script c) = script.active c

  abbrev pub side_destination : BlockId → Side S R → ℕ
  side_destination b (of_prelude c) = prelude.destination b c
  side_destination b (of_script c) = script.destination b c

  abbrev pub both_sides : Machine (Side S R) V
  both_sides = record {
    start = λ b i. if b.hidden then of_prelude (prelude.start b i) else of_script (script.start b i);
    turn = side_turn;
    jump = side_jump;
    active = side_active;
    destination = side_destination;
  }
