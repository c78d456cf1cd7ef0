-- The line events of a run whose answers are given, to follow control by (PEP 626). All values are the number 0; a list says how each test
-- ends, which iterator has another item, what is raised, and which call or item runs a block of its own.
use Rattle.std.specs.Prelude.{ℕ, ◌+◌, zero, suc, List, [], ◌∷◌, reverse, Bool, true, false, Option, Some, None, if◌then◌else◌}
use Rattle.sem_control.specs.control.Turn as T
use Rattle.sem_control.specs.control.Turn.{Mark, Around, Ask, Answer, Row, Seek, seek, deed, leave, throw, test, iter_of, next_of, enter, unpack, delegate, operate, yielding, returned, Reply, got, raised, End, gave, left_by, Turn, act, note}
use Rattle.sem_control.specs.control.Frames.{Control}
use Rattle.pt_tree.specs.Blocks.{of_module}
use Rattle.pt_tree.specs.Syntax.{Stms}
use Rattle.sem_control.specs.control.Control.{nest_at, start, turn}
use Rattle.sem_control.specs.control.Jump.{Jumped, jump}
use Rattle.sem_control.specs.control.LineEvents.{is_told}

-- every name is spelled as it is written and no cells are taken along
abbrev pub numbers : Around ℕ
numbers = record { null = 0; variable = λ within x. record { scope = T.local; name = x }; spelled = λ x. x; captured = λ block. [] }

pub data Given : Type 0 where
  -- the truth of a test
  truth : Bool → Given
  -- whether there is another item
  item : Bool → Given
  -- the exception of a `raise`, or of a tool at a test
  throws : ℕ → Given
  -- a call has a value at once
  value : Given
  -- a call, or the first item of a generator, runs this block
  opens : Control ℕ → Given
  -- the next item resumes the generator that was suspended
  resumes : Given

-- a block that runs, and its line, if it has one yet
pub record Block : Type 0 where
  pub control : Control ℕ
  pub line : Option ℕ

-- the blocks that wait, the innermost first, each for a value or for an item
pub data Waiting : Type 0 where
  nothing : Waiting
  for_result : (Reply ℕ ℕ → Control ℕ) → (line : Option ℕ) → Waiting → Waiting
  for_an_item : (Reply ℕ (Option ℕ) → Control ℕ) → (line : Option ℕ) → Waiting → Waiting

-- the block that runs, those that wait, the generator that is suspended, what is given, the line events, the last first, and how many acts there were
pub record State : Type 0 where
  pub runs : Block
  pub waits : Waiting
  pub suspended : Option Block
  pub given : List Given
  pub lines : List ℕ
  pub acts : ℕ

abbrev block : Control ℕ → (line : Option ℕ) → Block
block c l = record { control = c; line = l }

abbrev goes_on : Control ℕ → State → State
goes_on c st = record st { runs = block c st.runs.line }

-- an act gives its frame its line
abbrev told : Mark → State → State
told m st = record {
  runs = block st.runs.control (Some m.line);
  waits = st.waits;
  suspended = st.suspended;
  given = st.given;
  acts = st.acts + 1;
  lines = if is_told st.runs.line m then m.line ∷ st.lines else st.lines;
}

abbrev zeros : (n : ℕ) → Row ℕ n
zeros zero = tt
zeros (suc n) = (0, zeros n)

abbrev called : List Given → (Reply ℕ ℕ → Control ℕ) → State → State
called (value ∷ gs) k st = record st { runs = block (k (got 0)) st.runs.line; given = gs }
called (opens c ∷ gs) k st = record st { runs = block c None; waits = for_result k st.runs.line st.waits; given = gs }
called gs k st = goes_on (k (got 0)) st

abbrev tested : List Given → (Reply ℕ Bool → Control ℕ) → State → State
tested (truth b ∷ gs) k st = record st { runs = block (k (got b)) st.runs.line; given = gs }
tested (throws v ∷ gs) k st = record st { runs = block (k (raised v)) st.runs.line; given = gs }
tested gs k st = goes_on (k (got false)) st

abbrev resumed_by : Option Block → (Reply ℕ (Option ℕ) → Control ℕ) → State → State
resumed_by (Some b) k st = record st { runs = b; waits = for_an_item k st.runs.line st.waits }
resumed_by None k st = goes_on (k (got None)) st

abbrev next_item : List Given → (Reply ℕ (Option ℕ) → Control ℕ) → State → State
next_item (item true ∷ gs) k st = record st { runs = block (k (got (Some 0))) st.runs.line; given = gs }
next_item (item false ∷ gs) k st = record st { runs = block (k (got None)) st.runs.line; given = gs }
next_item (opens c ∷ gs) k st = record st { runs = block c None; waits = for_an_item k st.runs.line st.waits; given = gs }
next_item (resumes ∷ gs) k st = resumed_by st.suspended k (record st { given = gs })
next_item gs k st = goes_on (k (got None)) st

abbrev thrown : List Given → (Reply ℕ ⊥ → Control ℕ) → State → State
thrown (throws v ∷ gs) k st = record st { runs = block (k (raised v)) st.runs.line; given = gs }
thrown gs k st = goes_on (k (raised 0)) st

-- a yield gives the block that waits its item
abbrev yields : Waiting → (Reply ℕ ℕ → Control ℕ) → State → State
yields (for_an_item f l w) k st = record st { runs = block (f (got (Some 0))) l; waits = w; suspended = Some (block (k (got 0)) st.runs.line) }
yields w k st = goes_on (k (got 0)) st

abbrev answered : (a : Ask ℕ) → (Reply ℕ (Answer ℕ a) → Control ℕ) → State → State
answered (seek (operate (T.call rs) vs)) k st = called st.given k st
answered (seek (yielding v)) k st = yields st.waits k st
answered (seek s) k st = goes_on (k (got 0)) st
answered (deed d) k st = goes_on (k (got tt)) st
answered (leave a) k st = goes_on (k (got tt)) st
answered (throw a) k st = thrown st.given k st
answered (test a) k st = tested st.given k st
answered (iter_of v) k st = goes_on (k (got 0)) st
answered (next_of i) k st = next_item st.given k st
answered (enter v) k st = goes_on (k (got (0, 0))) st
answered (unpack v n star) k st = goes_on (k (got (zeros n))) st
answered (delegate i r) k st = goes_on (k (got (returned 0))) st

abbrev result : End ℕ → Reply ℕ ℕ
result (gave v) = got v
result (left_by v) = raised v

abbrev no_item : End ℕ → Reply ℕ (Option ℕ)
no_item (left_by v) = raised v
no_item e = got None

abbrev closes : Waiting → End ℕ → State → State
closes (for_result k l w) e st = record st { runs = block (k (result e)) l; waits = w }
closes (for_an_item k l w) e st = record st { runs = block (k (no_item e)) l; waits = w }
closes nothing e st = st

abbrev next : Turn (Control ℕ) ℕ → State → State
next (act (Some m) a k) st = answered a k (told m st)
next (act None a k) st = answered a k st
next (note a k) st = goes_on (k (got tt)) st
next (T.over e) st = closes st.waits e st
next t st = st

abbrev run : (steps : ℕ) → State → State
run zero st = st
run (suc n) st = run n (next (turn numbers st.runs.control) st)

abbrev state : Control ℕ → List Given → State
state c gs = record { runs = block c None; waits = nothing; suspended = None; given = gs; lines = []; acts = 0 }

-- the line events of a hundred steps, and how many acts they are
abbrev pub lines_from : Control ℕ → List Given → List ℕ
lines_from c gs = reverse (run 100 (state c gs)).lines

abbrev pub acts_from : Control ℕ → List Given → ℕ
acts_from c gs = (run 100 (state c gs)).acts

-- control behind so many steps
abbrev pub control_after : (steps : ℕ) → Control ℕ → List Given → Control ℕ
control_after n c gs = (run n (state c gs)).runs.control

-- what a turn asks, if it is an act
abbrev pub ask_of : Turn (Control ℕ) ℕ → Option (Ask ℕ)
ask_of (act (Some m) a k) = Some a
ask_of t = None

-- of a script from its start
abbrev pub starts : Stms → Control ℕ
starts ss = start numbers ss

abbrev pub lines_of : Stms → List Given → List ℕ
lines_of ss gs = lines_from (starts ss) gs

-- a jump from behind so many steps of it
abbrev pub jump_after : (steps : ℕ) → Stms → List Given → (line : ℕ) → Jumped ℕ
jump_after n ss gs l = jump (of_module ss) (nest_at (control_after n (starts ss) gs)) l
