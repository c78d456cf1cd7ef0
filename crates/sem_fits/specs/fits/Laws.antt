-- What laws say of code that fits: the machine on its slots is never stuck.
use Rattle.std.specs.Prelude.{◌≡◌, ℕ, ◌≤◌, List, [], ◌∷◌, length, map, reverse, false, Option, Some}
use Rattle.pt_instr.specs.declared.Instr.TheVariants.{Delegate}
use Rattle.pt_instr.specs.declared.kinds.Kind.{Kind}
use Rattle.pt_instr.specs.declared.kinds.Kind.TheVariants.{Iter}
use Rattle.pt_instr.specs.Effects.{Kinds}
use Rattle.pt_ranges.specs.declared.handlers.Handler.{Handler}
use Rattle.pt_code.specs.declared.CodeBlock.{CodeBlock}
use Rattle.pt_code.specs.declared.Code.{Code}
use Rattle.pt_code.specs.View.{Ins, IsView}
use Rattle.sem_control.specs.control.Turn.{Mark, Ask, Note, Reply, Turn, Answer, act, note, move, over, stuck}
use Rattle.sem_code.specs.slots.Slots.{jump_to, by, Slot, pending, Slots, State, on, thrown_to, reraises, off, kind_of}
use Rattle.sem_code.specs.slots.CodeObject.{CodeObject}
use Rattle.sem_code.specs.slots.Landing.{cut}
use Rattle.sem_code.specs.slots.Machine as machine
use Rattle.sem_code.specs.slots.Needs.{is_stuck}
use Rattle.sem_fits.specs.fits.Block.{Block, effect, kinds_at_start, block_of}
use Rattle.sem_fits.specs.fits.Steps.{below}
use Rattle.sem_fits.specs.fits.Places.{Gets, Reached}
use Rattle.sem_fits.specs.fits.Leaves.{Holds}
use Rattle.sem_fits.specs.fits.Fits.{Fits, Misfit, Refused}
use Rattle.sem_fits.specs.fits.Jumps.{lands, Jumps}

-- no instruction stands behind the end
abbrev pub IsLaid : Block → Type 0
IsLaid b = (pc : ℕ) (i : Ins) → b.at pc ≡ Some i → pc ≤ b.size

-- the machine runs the instructions of the block: with as many cells as its blocks take along, and it knows how many slots lie where a jump leads
pub record Runs {V : Type 0} (code : CodeObject V) (b : Block) : Type 0 where
  pub at : (pc : ℕ) → code.at pc ≡ b.at pc
  pub captures : (n : ℕ) → code.pool.captures n ≡ b.links.captures n
  pub depth_at : (pc : ℕ) (ks : Kinds) → Gets b b.size pc ks → code.depth_at pc ≡ length ks
  pub inside : IsLaid b

module _ {V : Type 0} (b : Block) where
  -- what slot d of a place holds, if it is a jump, is one that the slot may hold
  abbrev pub MayHold : (pc d : ℕ) → Slot V → Type 0
  MayHold pc d (pending (by (jump_to t))) = Holds b b.size t pc d
  MayHold pc d s = Unit {0}

  -- of slots, the top first
  abbrev pub AllMayHold : (pc : ℕ) → Slots V → Type 0
  AllMayHold pc [] = Unit {0}
  AllMayHold pc (s ∷ ss) = MayHold pc (length ss) s × AllMayHold pc ss

  -- the slots at a place have these kinds (with the top first), and what they hold they may hold
  pub record Stack (pc : ℕ) (ks : List Kind) (ss : Slots V) : Type 0 where
    pub kinds : map kind_of ss ≡ ks
    pub holds : AllMayHold pc ss

  -- slots of kinds that the place gets
  pub record At (pc : ℕ) (ss : Slots V) : Type 0 where
    pub kinds : Kinds
    pub gets : Gets b b.size pc kinds
    pub stack : Stack pc (reverse kinds) ss

  -- a raise is sent to a delegation
  pub record Sent (pc : ℕ) (ss : Slots V) : Type 0 where
    pub here : At pc ss
    pub ins : Ins
    pub stands : b.at pc ≡ Some ins
    pub delegates : ins.instr ≡ Delegate

  -- a raise goes on from a place, under its rows and with the slots that its instruction doesn't take
  pub record Rising (rows : List Handler) (ss : Slots V) : Type 0 where
    pub pc : ℕ
    pub ins : Ins
    pub kinds : Kinds
    pub reached : Reached b b.size pc ins kinds
    pub under : rows ≡ ins.rows
    pub stack : Stack pc (reverse (below (effect b.links ins.instr) kinds)) ss

  abbrev pub Sound : State V → Type 0
  Sound (on pc ss) = At pc ss
  Sound (thrown_to pc e ss) = Sent pc ss
  Sound (reraises e rows ss) = Rising rows ss
  Sound (off e) = Unit {0}

  -- whatever is replied, it goes on soundly
  abbrev pub GoesOn : Turn (State V) V → Type 0
  GoesOn (act m a next) = (r : Reply V (Answer V a)) → Sound (next r)
  GoesOn (note n next) = (r : Reply V (Unit {0})) → Sound (next r)
  GoesOn (move s) = Sound s
  GoesOn (over e) = Unit {0}
  GoesOn stuck = ⊥

module _ {V : Type 0} (code : CodeObject V) (b : Block) where
  -- the states that a machine comes to, whatever is replied and wherever a debugger jumps
  pub data Comes : (from to : State V) → Type 0 where
    here : {s : State V} → Comes s s
    moves : {s t u : State V} → Comes s t → machine.turn code t ≡ move u → Comes s u
    acts : {s t : State V} → Comes s t → {m : Option Mark} {a : Ask V} {next : Reply V (Answer V a) → State V} → machine.turn code t ≡ act m a next
        → (r : Reply V (Answer V a)) → Comes s (next r)
    notes : {s t : State V} → Comes s t → {n : Note V} {next : Reply V (Unit {0}) → State V} → machine.turn code t ≡ note n next → (r : Reply V (Unit {0})) → Comes s (next r)
    jumps : {s : State V} {pc : ℕ} {ss : Slots V} → Comes s (on pc ss) → (ks : Kinds) → Gets b b.size pc ks → (line to depth : ℕ) → Jumps b pc ks line (lands to depth)
        → Comes s (on to (cut depth ss))

-- a block starts with no slots, a generator expression with its iterator (6.2.8)
pub data Starts {V : Type 0} (b : Block) : State V → Type 0 where
  empty : (i : Ins) → b.at 0 ≡ Some i → kinds_at_start b.kind ≡ [] → Starts b machine.start
  iterating : (i : Ins) → b.at 0 ≡ Some i → kinds_at_start b.kind ≡ Iter ∷ [] → (iterator : V) → Starts b (machine.start_generator iterator)

-- from slots of the kinds of a place a turn finds all that it takes, and leaves slots of the kinds of the place to which it goes
abbrev pub SlotsFit : {V : Type 0} → CodeObject V → Block → Type 0
SlotsFit {V} code b = Runs code b → Fits b → (s : State V) → Sound b s → GoesOn b (machine.turn code s)

-- no state to which the machine comes from the start of the block is stuck
abbrev pub NeverStuck : {V : Type 0} → CodeObject V → Block → Type 0
NeverStuck {V} code b = Runs code b → Fits b → (s t : State V) → Starts b s → Comes code b s t → is_stuck (machine.turn code t) ≡ false

-- behind a jump that is permitted the slots have the kinds of its target, and what they hold they may hold
abbrev pub JumpsLand : (V : Type 0) → Block → Type 0
JumpsLand V b = Fits b → (from : ℕ) (ss : Slots V) (a : At b from ss) (line to depth : ℕ) → Jumps b from a.kinds line (lands to depth) → At b to (cut depth ss)

-- code that fits isn't refused
abbrev pub FitsUnrefused : Block → Type 0
FitsUnrefused b = IsLaid b → Fits b → (m : Misfit) → Refused b m → ⊥

-- what is refused is so for one reason at one place
abbrev pub OneRefusal : Block → Type 0
OneRefusal b = IsLaid b → (m n : Misfit) → Refused b m → Refused b n → m ≡ n

-- in a block as it is seen no instruction stands behind the end
abbrev pub ViewIsLaid : Type 0
ViewIsLaid = (c : Code) (b : CodeBlock) (view : ℕ → Option Ins) → IsView b view → IsLaid (block_of c b view)
