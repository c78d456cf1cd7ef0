-- What laws say of control, whatever the replies.
use Rattle.std.specs.Prelude.{◌≡◌, ℕ, ◌<◌, [], ◌∷◌, Some, length}
use Rattle.pt_tree.specs.Blocks.{Code, acts_of_code}
use Rattle.pt_tree.specs.Syntax.{Stms}
use Rattle.sem_control.specs.control.Turn as T
use Rattle.sem_control.specs.control.Turn.{Around, Turn}
use Rattle.sem_control.specs.control.Frames.{by, raise, Completion, Frame, Nest, Way, Control, closed}
use Rattle.sem_control.specs.control.Bases.{way_base}
use Rattle.sem_control.specs.control.CompletionTable.{row, onward}
use Rattle.sem_control.specs.control.Completions.{end_of, follow, complete}
use Rattle.sem_control.specs.control.Control.{go, turn, most_silent, unhindered}
use Rattle.sem_control.specs.control.Endings.{Code_reached}
use Rattle.sem_control.specs.control.ClosedParts.{parts_of, Among}
use Rattle.sem_control.specs.control.Jump.{Target, starts, starts_of, on_line, parts, verdict, permitted, Landing, Shape, jump, lands}
use Rattle.sem_control.specs.control.Nests.{Code_says, Next_says}
use Rattle.sem_control.specs.control.Reached.{IsRow, Reaches, Meets, start_code}

abbrev pub IsActOrEnd : {S V : Type 0} → Turn S V → Type 0
IsActOrEnd (T.act (Some m) a k) = Unit {0}
IsActOrEnd (T.over e) = Unit {0}
IsActOrEnd t = ⊥

module _ {V : Type 0} where
  -- behind the notes and unmarked asks, if none of them raises, an act or the end is next
  abbrev pub ComesToAct : Around V → Control V → Type 0
  ComesToAct block c = IsActOrEnd (turn block (unhindered block c (most_silent block c)))

  -- each act that comes from there is the row with its number
  abbrev pub GoesByRows : Code → Around V → Control V → Type 0
  GoesByRows code block c = (d : Control V) → Reaches block c d → IsRow (acts_of_code code) block d

  -- so it is from a block's start, where a jump to a line lands, and behind a raise that comes before the target's statement begins
  abbrev pub StartsByRows : Code → Around V → (first : V) → Type 0
  StartsByRows code block i = GoesByRows code block (start_code block code i)

  abbrev pub LandsByRows : Code → Around V → (place : Nest V) → (line : ℕ) → Type 0
  LandsByRows code block p l = (k : Way V) → jump code p l ≡ lands k → GoesByRows code block (go block k)

  abbrev pub RaisesByRows : Code → Around V → (place : Nest V) → (line : ℕ) → Type 0
  RaisesByRows code block p l =
      (k : Way V) (v : V) → jump code p l ≡ lands k → GoesByRows code block (complete block (by (raise v)) (way_base k))

  -- each act that comes from there has what is said of it, in the nest in which control then is
  abbrev pub GoesInNests : (Says : Shape → (act : ℕ) → Type 0) → Around V → Control V → Type 0
  GoesInNests Says block c = (d : Control V) → Reaches block c d → Next_says Says block d

  -- so it is from a block's start, from where a jump to a line lands, and behind a raise there, if it
  -- is said of each act of the block in the nest that the tree gives it
  abbrev pub StartsInNests : (Says : Shape → (act : ℕ) → Type 0) → Code → Around V → (first : V)
      → Type 0
  StartsInNests Says code block i =
      Code_says Says code → GoesInNests Says block (start_code block code i)

  abbrev pub LandsInNests : (Says : Shape → (act : ℕ) → Type 0) → Code → Around V
      → (place : Nest V) → (line : ℕ) → Type 0
  LandsInNests Says code block p l =
      Code_says Says code → (k : Way V) → jump code p l ≡ lands k → GoesInNests Says block (go block k)

  abbrev pub RaisesInNests : (Says : Shape → (act : ℕ) → Type 0) → Code → Around V
      → (place : Nest V) → (line : ℕ) → Type 0
  RaisesInNests Says code block p l = Code_says Says code → (k : Way V) (v : V)
      → jump code p l ≡ lands k → GoesInNests Says block (complete block (by (raise v)) (way_base k))

  -- where each statement can be reached, each row is that of an act that comes with some replies
  abbrev pub MeetsAllRows : Code → Around V → (first : V) → Type 0
  MeetsAllRows code block i = Code_reached code → (n : ℕ) → n < length (acts_of_code code) → Meets block (start_code block code i) n

  -- a completion leaves a block, or takes off a frame as the table has it
  abbrev pub ClosesBy : Around V → Completion V → Type 0
  ClosesBy block c = complete block c [] ≡ closed (end_of block c)

  abbrev pub TakesOff : Around V → Completion V → Frame V → Nest V → Type 0
  TakesOff block c f s = complete block c (f ∷ s) ≡ follow block (row c f) s (complete block (onward (row c f)) s)

  -- where the jump to a line is permitted, it lands
  abbrev pub LandsPermitted : Code → (line : ℕ) → (place : Nest V) → Type 0
  LandsPermitted code l p = (t : Target) → on_line l (starts_of code) ≡ Some t → verdict (parts p) (parts t.within) ≡ permitted → Landing t p

-- the statement that a line's first one is lies in parts of its block alone
abbrev pub LiesInParts : Stms → (line : ℕ) → Type 0
LiesInParts ss l = (t : Target) → on_line l (starts ss 0 []) ≡ Some t → Among (parts t.within) (parts_of ss 0)
