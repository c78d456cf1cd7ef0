-- What is told of an act, of a reply and of a note, by the turn alone (PEP 669; sys.monitoring, "Events"). The line of an act comes before its other
-- events; what depends on the values, and the start and the end of a block, is told outside of control. Of an ask without a mark nothing is told.
use Rattle.std.specs.Prelude.{ℕ, List, [], ◌∷◌, true, Option, Some, None}
use Rattle.sem_control.specs.control.Turn as T
use Rattle.sem_control.specs.control.Turn.{Ask, Answer, Around, Role, seek, leave, throw, test, next_of, Note, raised_again, Reply, got, raised, Turn}
use Rattle.sem_control.specs.control.Frames.{Control}
use Rattle.sem_control.specs.control.Control.{turn, most_silent, unhindered}

pub data Event (V : Type 0) : Type 0 where
  -- a break or continue
  jumps : Event V
  -- a decision was taken
  branches : Event V
  -- this is called with these arguments, each passed so; which is the first positional one shows once what is spread is known
  calls : (callee : V) → List Role → (arguments : List V) → Event V
  -- an exception arises or arrives, or goes on
  raises : V → Event V
  raises_again : V → Event V
  -- a handler takes it
  handled : V → Event V

abbrev pub before : {V : Type 0} → Ask V → List (Event V)
before (seek (T.operate (T.call rs) (f ∷ vs))) = calls f rs vs ∷ []
before (leave T.jumping) = jumps ∷ []
before a = []

-- `raise` alone raises the exception again that is active in the run: in this block, or in the newest one around that has one
abbrev pub arisen : {V : Type 0} → (active : Option V) → Ask V → V → Event V
arisen (Some e) (throw T.raising_again) v = raises_again v
arisen active a v = raises v

abbrev pub answered : {V : Type 0} → (a : Ask V) → Answer V a → List (Event V)
answered (test (T.branch v)) b = branches ∷ []
answered (test (T.matches e c)) true = handled e ∷ []
answered (next_of i) o = branches ∷ []
answered a r = []

abbrev pub after : {V : Type 0} → (active : Option V) → (a : Ask V) → Reply V (Answer V a) → List (Event V)
after active a (got r) = answered a r
after active a (raised v) = arisen active a v ∷ []

abbrev pub at_note : {V : Type 0} → Note V → List (Event V)
at_note (raised_again v) = raises_again v ∷ []

abbrev number_of : {S V : Type 0} → Turn S V → Option ℕ
number_of (T.act (Some m) a k) = Some m.act
number_of t = None

-- the act that comes next if nothing is raised; none where the block ends
abbrev pub destination : {V : Type 0} → (block : Around V) → Control V → Option ℕ
destination block c = number_of (turn block (unhindered block c (most_silent block c)))
