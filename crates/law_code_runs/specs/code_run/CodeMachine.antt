-- Code on slots as a machine of a run: the code object of each block, and where jumps lead in it.
use Rattle.std.specs.Prelude.{ℕ, Bool, List, Option, Some, None, if◌then◌else◌}
use Rattle.sem_control.specs.control.Turn.{Turn}
use Rattle.sem_code.specs.slots.Slots.{raise, Slots, State, on, thrown_to, reraises, off, active}
use Rattle.sem_code.specs.slots.CodeObject.{CodeObject}
use Rattle.sem_code.specs.slots.Landing.{land}
use Rattle.sem_code.specs.slots.Machine as slots
use Rattle.sem_code.specs.slots.Destinations as destinations
use Rattle.pt_code.specs.View.{Ins}
use Rattle.sem_code.specs.comp_expr.Law.{active_at}
use Rattle.sem_run.specs.run.Machine as M
use Rattle.sem_run.specs.run.Machine.{BlockId, Reason, not_at_line, Jump, Machine, is_act, turn_in}
use Rattle.sem_run.specs.run.Source.{or_null, number_or_all}

-- a place with what lies in its slots
pub record Place (V : Type 0) : Type 0 where
  pub pc : ℕ
  pub slots : Slots V

-- a jump of code: refused, or to a place
pub data CodeJump (V : Type 0) : Type 0 where
  refuses : Reason → CodeJump V
  goes_to : Place V → CodeJump V

pub record CodeSource (V : Type 0) : Type 0 where
  pub object : BlockId → CodeObject V
  -- the block is that of a generator expression, and begins with its first iterator
  pub iterates : BlockId → Bool
  pub jump : BlockId → Place V → (line : ℕ) → CodeJump V
  -- how many acts the block has, and how many turns may lead from a state to the next one
  pub acts : BlockId → ℕ
  pub most_turns : BlockId → State V → ℕ

-- code is at what comes next, or at the statement where a jump has landed, before it goes on
pub data Position (V : Type 0) : Type 0 where
  at : State V → Position V
  at_statement : Place V → Position V

abbrev pub state_at : {V : Type 0} → Place V → State V
state_at p = on p.pc p.slots

abbrev pub state_of : {V : Type 0} → Position V → State V
state_of (at t) = t
state_of (at_statement p) = state_at p

abbrev pub context_of : {V : Type 0} → Position V → Option V
context_of (at t) = active_at t
context_of (at_statement p) = active p.slots

abbrev pub place_of : {V : Type 0} → State V → Option (Place V)
place_of (on pc ss) = Some (record { pc = pc; slots = ss })
place_of (thrown_to pc e ss) = Some (record { pc = pc; slots = ss })
place_of (reraises e rows ss) = None
place_of (off e) = None

module _ {V : Type 0} (object : CodeObject V) where
  -- a raise at a place lands by the rows that cover it
  abbrev pub raised_under : Option Ins → Slots V → (exception : V) → State V
  raised_under (Some i) ss e = land object i.rows (raise e) ss
  raised_under None ss e = land object List.[] (raise e) ss

  abbrev pub raised_at : Place V → (exception : V) → State V
  raised_at p e = raised_under (object.at p.pc) p.slots e

module _ {V : Type 0} (code : CodeSource V) where
  abbrev pub start_of : BlockId → Option V → State V
  start_of b i = if code.iterates b then slots.start_generator (or_null (code.object b).null i) else slots.start

  abbrev turn : BlockId → Position V → Turn (Position V) V
  turn b q = turn_in at (slots.turn (code.object b) (state_of q))

  abbrev pub landing : BlockId → CodeJump V → Jump (Position V) V
  landing b (refuses r) = M.refuses r
  landing b (goes_to p) = M.lands (at_statement p) (at (state_at p)) (λ e. at (raised_at (code.object b) p e))

  abbrev pub jump_from : BlockId → Option (Place V) → (line : ℕ) → Jump (Position V) V
  jump_from b (Some p) l = landing b (code.jump b p l)
  jump_from b None l = M.refuses not_at_line

  abbrev jump : BlockId → Position V → (line : ℕ) → Jump (Position V) V
  jump b (at t) l = if is_act (slots.turn (code.object b) t) then jump_from b (place_of t) l else M.refuses not_at_line
  jump b (at_statement p) l = landing b (code.jump b p l)

  abbrev pub machine : Machine (Position V) V
  machine = record {
    start = λ b i. at (start_of b i);
    turn = turn;
    jump = jump;
    active = context_of;
    destination = λ b q. number_or_all (code.acts b) (destinations.destination (code.object b) (code.most_turns b (state_of q)) (state_of q));
  }
