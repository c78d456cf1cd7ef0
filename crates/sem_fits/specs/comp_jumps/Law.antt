-- What laws say of jumps in the code of a block.
use Rattle.std.specs.Prelude.{◌≡◌, ℕ, List, ◌++◌, length, Bool, false, Some, None}
use Rattle.std.specs.List.{list_any}
use Rattle.pt_tree.specs.Blocks.{Code}
use Rattle.pt_code.specs.declared.Start.{Start}
use Rattle.pt_instr.specs.Effects.{Kinds}
use Rattle.sem_control.specs.control.Turn.{Around}
use Rattle.sem_control.specs.control.Frames.{Nest, Way}
use Rattle.sem_control.specs.control.Bases.{way_base}
use Rattle.sem_control.specs.control.Control.{go}
use Rattle.sem_control.specs.control.Jump.{Part, Held, is_final, kept, parts, Shape, Target, starts_of}
use Rattle.sem_control.specs.control.Jump.{statements_of, on_line, shape, verdict, jump, lands}
use Rattle.sem_code.specs.slots.Slots.{Slots, on}
use Rattle.sem_code.specs.slots.CodeObject.{CodeObject}
use Rattle.sem_code.specs.slots.Landing.{cut}
use Rattle.sem_code.specs.comp.Surroundings.{Surroundings}
use Rattle.sem_code.specs.comp.Places.{Block_at}
use Rattle.sem_code.specs.comp.Law.{Above, Nest_on, Comes}
use Rattle.sem_fits.specs.fits.Block.{Block}
use Rattle.sem_fits.specs.fits.Places.{Gets}
use Rattle.sem_fits.specs.fits.Leaves.{Common}
use Rattle.sem_fits.specs.fits.Fits.{IsLeast}
use Rattle.sem_fits.specs.fits.Jumps.{Starts, Jumps}
use Rattle.sem_fits.specs.comp_jumps.Filled.{Filled, Stands}
use Rattle.sem_fits.specs.comp_jumps.Parts.{Lies, Begins, Fills, Told_apart, answer_of, answer_to}
use Rattle.sem_fits.specs.comp_jumps.Parts.{Shut, Closed, Around_place}

module _ {V : Type 0} (block : Around V) (code : CodeObject V) where
  -- the first statement on a line stands in code
  abbrev pub StatementsStand : Type 0
  StatementsStand = (c : Code) (starts : List Start) → Block_at block code starts (statements_of c)
      → (line : ℕ) (t : Target) → on_line line (starts_of c) ≡ Some t → Stands block code starts t

  -- where a jump lands: at the start of its target, from where code comes to states that match
  -- those of control
  pub record Landing (c : Code) (starts : List Start) (line : ℕ) (k : Way V) : Type 0 where
    pub target : Target
    pub first : on_line line (starts_of c) ≡ Some target
    pub stands : Stands block code starts target
    pub comes : (σ : Slots V) → Filled code target.within stands.endings (way_base k) σ
        → Comes block code (go block k) (on stands.place σ)

  abbrev pub JumpsLand : Type 0
  JumpsLand = (c : Code) (starts : List Start) → Block_at block code starts (statements_of c)
      → (place : Nest V) (line : ℕ) (k : Way V) → jump c place line ≡ lands k
      → Landing c starts line k

  -- where code goes on as a nest does, its slots are those of the closed parts
  abbrev pub NestsAreFilled : Type 0
  NestsAreFilled = (s : Nest V) (x : Surroundings) (σ : Slots V) (p : ℕ)
      → Nest_on block code s x σ p → (xs : List Surroundings) × Filled code (shape s) xs s σ

-- of these closed parts none holds a completion
abbrev pub NoFinally : {V : Type 0} → List (Part × Held V) → Type 0
NoFinally ks = list_any (λ k. is_final k.0) ks ≡ false

-- the slots of a place, cut to as many as closed parts lie around a target, are those of the
-- target's nest, where its parts are the outer ones of the place and no `finally` part is left
abbrev pub SlotsAreCut : {V : Type 0} → CodeObject V → Type 0
SlotsAreCut {V = V} code = (sh : Shape) (xs : List Surroundings) (place target : Nest V)
    (σ τ : Slots V) → Filled code sh xs place σ → Above σ τ → (left : List (Part × Held V))
    → kept place ≡ left ++ kept target → NoFinally left
    → Filled code (shape target) xs target (cut (length (kept target)) τ)

-- a part that lies around two places has one slot
abbrev pub Level : (ps ts : List Part) → Type 0
Level ps ts = (d e : ℕ) (q : Part) → Lies d q ps → Lies e q ts → d ≡ e

-- the state behind a permitted jump: with the slots of the place, cut to as many as closed parts
-- lie around the target, code comes from the target's start to states that match, where what
-- `finally` parts hold is held in the same surroundings
abbrev pub JumpsMatch : {V : Type 0} → Around V → CodeObject V → Type 0
JumpsMatch {V = V} block code = (c : Code) (starts : List Start) (sh : Shape)
    (xs : List Surroundings) (place : Nest V) (σ τ : Slots V) (line : ℕ) (k : Way V)
    → jump c place line ≡ lands k → (l : Landing block code c starts line k)
    → l.stands.endings ≡ xs → Filled code sh xs place σ → Above σ τ
    → Level (parts place) (parts place) → Level (parts place) (parts l.target.within)
    → Comes block code (go block k) (on l.stands.place (cut (length (parts l.target.within)) τ))

-- two places between which slots are told apart by parts: a jump said of slots has the verdict of
-- the parts, and leaves as many slots as the target has
abbrev pub JumpsByParts : Block → Type 0
JumpsByParts b = (from to line : ℕ) (ks ls : Kinds) (ps ts : List Part)
    → IsLeast (Starts b line) to → Gets b b.size to ls → Begins ks ps → Fills ls ts
    → Told_apart b from to ps ts → Jumps b from ks line (answer_of (verdict ps ts) to (length ls))

-- so it permits and refuses as control's jump does, with the same refusal
abbrev pub AnsweredAlike : (V : Type 0) → Block → Type 0
AnsweredAlike V b = (c : Code) (place : Nest V) (from to line : ℕ) (ks ls : Kinds) (t : Target)
    → on_line line (starts_of c) ≡ Some t → IsLeast (Starts b line) to → Gets b b.size to ls
    → Begins ks (parts place) → Fills ls (parts t.within)
    → Told_apart b from to (parts place) (parts t.within)
    → Jumps b from ks line (answer_to (jump c place line) to (length ls))

-- and also where nothing starts on the line
abbrev pub RefusedAlike : (V : Type 0) → Block → Type 0
RefusedAlike V b = (c : Code) (place : Nest V) (from line to depth : ℕ) (ks : Kinds)
    → on_line line (starts_of c) ≡ None → ((pc : ℕ) → Starts b line pc → ⊥)
    → Jumps b from ks line (answer_to (jump c place line) to depth)

-- a slot in common is that of places on one side of a border across which no step keeps it
abbrev pub StaysIn : Block → Type 0
StaysIn b = (range : ℕ → Bool) (d : ℕ) → Shut b range d → (q r : ℕ) → Common b b.size d q r
    → range q ≡ range r

-- closed parts tell slots apart
abbrev pub ClosedTellApart : Block → Type 0
ClosedTellApart b = (part : Part → Closed b) (from to : ℕ) (ps ts : List Part)
    → Around_place b part from ps → Around_place b part to ts → Told_apart b from to ps ts
