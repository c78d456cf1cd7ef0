-- What a machine tells of its turns where the answers are given, to hold machines beside each other. All values are numbers.
use Rattle.std.specs.Prelude.{ℕ, zero, suc, List, [], ◌∷◌, Bool, false, Option, Some, None}
use Rattle.sem_control.specs.control.Turn as T
use Rattle.sem_control.specs.control.Turn.{Mark, Ask, Answer, Row, Note, End, Reply, got, raised, Turn, act, note, move, over, stuck}

-- the answer to an act: a value or an iterator, a truth, whether there is another item, nothing, or what is raised instead
pub data Given : Type 0 where
  value : ℕ → Given
  truth : Bool → Given
  item : Option ℕ → Given
  done : Given
  throws : ℕ → Given

pub data Told : Type 0 where
  asked : Option Mark → Ask ℕ → Told
  noted : Note ℕ → Told
  ended : End ℕ → Told
  lost : Told

abbrev zeros : (n : ℕ) → Row ℕ n
zeros zero = tt
zeros (suc n) = (0, zeros n)

-- an answer of another kind than the ask's is 0, false or none
abbrev reply : (a : Ask ℕ) → List Given → Reply ℕ (Answer ℕ a)
reply a (throws v ∷ gs) = raised v
reply (T.seek s) (value v ∷ gs) = got v
reply (T.seek s) gs = got 0
reply (T.deed d) gs = got tt
reply (T.leave l) gs = got tt
reply (T.throw t) gs = raised 0
reply (T.test t) (truth b ∷ gs) = got b
reply (T.test t) gs = got false
reply (T.iter_of v) (value i ∷ gs) = got i
reply (T.iter_of v) gs = got 0
reply (T.next_of i) (item o ∷ gs) = got o
reply (T.next_of i) gs = got None
reply (T.enter v) (value w ∷ gs) = got (w, v)
reply (T.enter v) gs = got (0, v)
reply (T.unpack v n star) gs = got (zeros n)
reply (T.delegate i r) gs = got (T.returned 0)

abbrev behind : List Given → List Given
behind [] = []
behind (g ∷ gs) = gs

abbrev told : {S : Type 0} → Turn S ℕ → (onward : List Given → S → List Told) → List Given → List Told
told (act (Some m) a next) onward gs = asked (Some m) a ∷ onward (behind gs) (next (reply a gs))
told (act None a next) onward gs = asked None a ∷ onward gs (next (reply a []))
told (note a next) onward gs = noted a ∷ onward gs (next (got tt))
told (move s) onward gs = onward gs s
told (over e) onward gs = ended e ∷ []
told stuck onward gs = lost ∷ []

-- so many turns from a state; each act takes an answer
abbrev pub trace : {S : Type 0} → (turn : S → Turn S ℕ) → (turns : ℕ) → List Given → S → List Told
trace turn zero gs s = []
trace turn (suc n) gs s = told (turn s) (trace turn n) gs
