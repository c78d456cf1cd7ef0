-- When one machine follows another: from states that stand for each other each turn, each jump and each reply leads to such
-- states again (simulation). The machine that follows may move silently before its turn; where the other one moves, it moves too.
use Rattle.std.specs.Prelude.{◌≡◌, ℕ, true, Option}
use Rattle.sem_control.specs.control.Turn as T
use Rattle.sem_control.specs.control.Turn.{Mark, Ask, Answer, Reply, Note, End, Turn}
use Rattle.sem_run.specs.run.Machine.{BlockId, Machine, Reason, Jump, refuses, lands, is_act, turn_in, jump_in}

-- states of two machines, in a block
pub record Related (S R : Type 0) : Type 0 where
  pub block : BlockId
  pub one : S
  pub other : R

-- the relation of those that a type Q lists
abbrev pub By : {Q S R : Type 0} → (Q → Related S R) → BlockId → S → R → Type 0
By {Q = Q} list b c t = (q : Q) × (list q ≡ record { block = b; one = c; other = t })

module _ {S R V : Type 0} (first : Machine S V) (second : Machine R V) (At : BlockId → S → R → Type 0) where
  -- the second comes, behind silent moves, to a state that stands for one of the first
  pub data Nears (b : BlockId) (c : S) : R → Type 0 where
    there : (t : R) → At b c t → Nears b c t
    moves : (t t' : R) → second.turn b t ≡ T.move t' → Nears b c t' → Nears b c t

  -- behind a reply it comes so to a state that stands for the first one's, and the same act comes next
  pub record BehindReply (b : BlockId) (c : S) (t : R) : Type 0 where
    pub nears : Nears b c t
    pub same_next : first.destination b c ≡ second.destination b t

  -- the same ask with the same mark, the same note, or the same end, and whatever the reply is, the states behind it; or both move
  pub data SameTurn (b : BlockId) : Turn S V → Turn R V → Type 0 where
    same_act : (m : Option Mark) (a : Ask V) (k : Reply V (Answer V a) → S) (k' : Reply V (Answer V a) → R) →
        ((r : Reply V (Answer V a)) → BehindReply b (k r) (k' r)) → SameTurn b (T.act m a k) (T.act m a k')
    same_note : (a : Note V) (k : Reply V (Unit {0}) → S) (k' : Reply V (Unit {0}) → R) →
        ((r : Reply V (Unit {0})) → Nears b (k r) (k' r)) → SameTurn b (T.note a k) (T.note a k')
    same_move : (c : S) (t : R) → Nears b c t → SameTurn b (T.move c) (T.move t)
    same_end : (e : End V) → SameTurn b (T.over e) (T.over e)

  -- the same verdict, and where it lands states that stand for each other there, and from which the block goes on alike
  pub data SameJump (Lands : BlockId → S → R → Type 0) (b : BlockId) : Jump S V → Jump R V → Type 0 where
    same_refusal : (r : Reason) → SameJump Lands b (refuses r) (refuses r)
    same_landing : (to on : S) (to' on' : R) (f : V → S) (f' : V → R) → Lands b to to' → Nears b on on' →
        ((v : V) → Nears b (f v) (f' v)) → SameJump Lands b (lands to on f) (lands to' on' f')

  -- a jump is asked for at a line event: where an act begins with its mark, and where a jump has landed
  pub data AtLine (Lands : BlockId → S → R → Type 0) (b : BlockId) : S → R → Type 0 where
    at_act : (c : S) (t : R) → At b c t → is_act (first.turn b c) ≡ true → AtLine Lands b c t
    at_landing : (c : S) (t : R) → Lands b c t → AtLine Lands b c t

  -- At relates states whose turns are alike; Lands those where jumps have landed; Stands all that hooks may look at: these, the
  -- starts of blocks, and the places of acts and notes
  pub record Follows (Stands Lands : BlockId → S → R → Type 0) : Type 0 where
    pub turns : (b : BlockId) (c : S) (t : R) → At b c t → SameTurn b (first.turn b c) (second.turn b t)
    pub stands : (b : BlockId) (c : S) (t : R) → At b c t → Stands b c t
    pub landings : (b : BlockId) (c : S) (t : R) → Lands b c t → Stands b c t
    pub starts : (b : BlockId) (i : Option V) → Stands b (first.start b i) (second.start b i)
    pub begins : (b : BlockId) (i : Option V) → Nears b (first.start b i) (second.start b i)
    pub active : (b : BlockId) (c : S) (t : R) → Stands b c t → first.active c ≡ second.active t
    pub jumps : (b : BlockId) (c : S) (t : R) (l : ℕ) → AtLine Lands b c t → SameJump Lands b (first.jump b c l) (second.jump b t l)

-- a state of an activation of a block; those that a type Q lists
pub record Standing (S : Type 0) : Type 0 where
  pub block : BlockId
  pub state : S

abbrev pub Among : {Q S : Type 0} → (Q → Standing S) → BlockId → S → Type 0
Among {Q = Q} list b c = (q : Q) × (list q ≡ record { block = b; state = c })

module _ {S V : Type 0} (machine : Machine S V) (Within Landed : BlockId → S → Type 0) where
  -- a turn is there, and leads to such states alone
  abbrev pub TurnStays : BlockId → Turn S V → Type 0
  TurnStays b (T.act m a k) = (r : Reply V (Answer V a)) → Within b (k r)
  TurnStays b (T.note a k) = (r : Reply V (Unit {0})) → Within b (k r)
  TurnStays b (T.move c) = Within b c
  TurnStays b (T.over e) = Unit {0}
  TurnStays b T.stuck = ⊥

  -- a permitted jump lands in one of those where jumps land, and the block goes on among the others
  abbrev pub JumpStays : BlockId → Jump S V → Type 0
  JumpStays b (refuses r) = Unit {0}
  JumpStays b (lands to on f) = Landed b to × Within b on × ((v : V) → Within b (f v))

  -- the machine stays among these states, whatever is replied and wherever is jumped
  pub record Stays : Type 0 where
    pub starts : (b : BlockId) (i : Option V) → Within b (machine.start b i)
    pub turns : (b : BlockId) (c : S) → Within b c → TurnStays b (machine.turn b c)
    pub jumps : (b : BlockId) (c : S) (l : ℕ) → Within b c → is_act (machine.turn b c) ≡ true → JumpStays b (machine.jump b c l)
    pub jumps_again : (b : BlockId) (c : S) (l : ℕ) → Landed b c → JumpStays b (machine.jump b c l)

-- a machine that moves silently before each turn, as code does
pub data Slow (S : Type 0) : Type 0 where
  before : S → Slow S
  at : S → Slow S

abbrev pub state_of : {S : Type 0} → Slow S → S
state_of (before c) = c
state_of (at c) = c

module _ {S V : Type 0} (machine : Machine S V) where
  abbrev pub turn_of : BlockId → Slow S → Turn (Slow S) V
  turn_of b (before c) = T.move (at c)
  turn_of b (at c) = turn_in before (machine.turn b c)

  abbrev pub slowly : Machine (Slow S) V
  slowly = record {
    start = λ b i. before (machine.start b i);
    turn = turn_of;
    jump = λ b c l. jump_in before (machine.jump b (state_of c) l);
    active = λ c. machine.active (state_of c);
    destination = λ b c. machine.destination b (state_of c);
  }

  -- its turns are asks, notes and ends alone
  pub record NeverMoves : Type 0 where
    pub moves : (b : BlockId) (c d : S) → machine.turn b c ≡ T.move d → ⊥
    pub stuck : (b : BlockId) (c : S) → machine.turn b c ≡ T.stuck → ⊥
