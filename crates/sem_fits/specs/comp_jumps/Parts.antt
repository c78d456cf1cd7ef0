-- Closed parts as sets of places in code, each with one slot (Library Reference, "inspect":
-- `f_lineno`).
use Rattle.std.specs.Prelude.{◌≡◌, ◌⊎◌, ℕ, ◌<◌, List, [], ◌∷◌, length, slice_get, Bool, true, Some}
use Rattle.pt_instr.specs.declared.kinds.Kind.{Kind}
use Rattle.pt_instr.specs.declared.kinds.Kind.TheVariants as kind
use Rattle.pt_instr.specs.Effects.{Kinds}
use Rattle.sem_control.specs.control.Jump as control
use Rattle.sem_control.specs.control.Jump.{Part, for_part, with_part, tests_part, handler_part}
use Rattle.sem_control.specs.control.Jump.{finally_part, exit_part, is_final, same, Verdict, Jumped}
use Rattle.sem_fits.specs.fits.Block.{Block}
use Rattle.sem_fits.specs.fits.Leaves.{Goes, Common}
use Rattle.sem_fits.specs.fits.Jumps.{Answer, no_statement, out_of_finally, into_block, lands}

abbrev pub kind_of_part : Part → Kind
kind_of_part (for_part n) = kind.Iter
kind_of_part (with_part n) = kind.With
kind_of_part (tests_part n) = kind.Exc
kind_of_part (handler_part n) = kind.Exc
kind_of_part (finally_part n) = kind.Pending
kind_of_part (exit_part n) = kind.Pending

-- of parts around a place, the innermost first, this one has slot d: slots are counted from the
-- lowest
abbrev pub Lies : (d : ℕ) → Part → List Part → Type 0
Lies d q [] = ⊥
Lies d q (p ∷ ps) = ((d ≡ length ps) × (same q p ≡ true)) ⊎ Lies d q ps

-- slots of these kinds begin with those of the parts, and no other holds a completion
pub record Begins (ks : Kinds) (ps : List Part) : Type 0 where
  pub each : (d : ℕ) (q : Part) → Lies d q ps → slice_get ks d ≡ Some (kind_of_part q)
  pub pending : (d : ℕ) → slice_get ks d ≡ Some kind.Pending
      → (q : Part) × Lies d q ps × (is_final q ≡ true)

-- at the start of a statement no other slot lies
pub record Fills (ks : Kinds) (ps : List Part) : Type 0 where
  pub begins : Begins ks ps
  pub all : (d : ℕ) → d < length ks → (q : Part) × Lies d q ps

-- at two places slots are in common that are of the same part, and no others
pub record Told_apart (b : Block) (from to : ℕ) (ps ts : List Part) : Type 0 where
  pub stays : (d : ℕ) (q : Part) → Common b b.size d from to → Lies d q ps → Lies d q ts
  pub stayed : (d : ℕ) (q : Part) → Common b b.size d from to → Lies d q ts → Lies d q ps
  pub together : (d : ℕ) (q : Part) → Lies d q ps → Lies d q ts → Common b b.size d from to
  pub level : (d e : ℕ) (q : Part) → Lies d q ps → Lies e q ts → d ≡ e

abbrev pub answer_of : Verdict → (to depth : ℕ) → Answer
answer_of control.permitted to d = lands to d
answer_of control.no_statement to d = no_statement
answer_of control.into_block to d = into_block
answer_of control.out_of_finally to d = out_of_finally

-- control's answer, as one said of slots
abbrev pub answer_to : {V : Type 0} → Jumped V → (to depth : ℕ) → Answer
answer_to (control.refused v) to d = answer_of v to d
answer_to (control.lands k) to d = lands to d

-- places to and from which no step keeps the slot but from one of them to another: the slot is made
-- anew on each way in, and kept by no way out
abbrev pub Shut : Block → (range : ℕ → Bool) → (slot : ℕ) → Type 0
Shut b range d = (q r k : ℕ) → Goes b b.size q r k → d < k → range q ≡ range r

-- a closed part: its places, which of the slots there is its own, and that this is the same in all
-- of them
pub record Closed (b : Block) : Type 0 where
  pub range : ℕ → Bool
  pub slot : ℕ
  pub shut : Shut b range slot
  pub whole : (q r : ℕ) → range q ≡ true → range r ≡ true → Common b b.size slot q r

-- the parts around a place are those in whose ranges it lies
pub record Around_place (b : Block) (part : Part → Closed b) (pc : ℕ) (ps : List Part)
    : Type 0 where
  pub lies : (d : ℕ) (q : Part) → Lies d q ps
      → ((part q).range pc ≡ true) × (d ≡ (part q).slot)
  pub found : (q : Part) → (part q).range pc ≡ true → Lies (part q).slot q ps
