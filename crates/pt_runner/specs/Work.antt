-- What a run of code does beside what it writes: how many instructions, and over how many slots (Library Reference, "dis").
use Rattle.std.specs.Prelude.{◌≡◌, ℕ, ◌+◌, max, List, length, Bool, true, false, Option, Some, None, if◌then◌else◌}
use Rattle.sem_code.specs.slots.Slots.{State, on}
use Rattle.sem_run.specs.run.Machine.{BlockId, Machine}
use Rattle.sem_run.specs.run.Events.{starts}
use Rattle.sem_run.specs.run.Host.{Host}
use Rattle.sem_run.specs.run.Run.{Write}
use Rattle.pt_bare_runs.specs.Strides as bare
use Rattle.pt_bare_runs.specs.Strides.{Ending, Stride, goes, ends, stride, Outcome, outcome_behind, logged, start}

pub record Work : Type 0 where
  pub instructions : ℕ
  -- the most slots that one activation held where an instruction was next
  pub depth : ℕ

abbrev pub no_work : Work
no_work = record { instructions = 0; depth = 0 }

-- the one and then the other
abbrev pub both : Work → Work → Work
both v w = record { instructions = v.instructions + w.instructions; depth = max v.depth w.depth }

-- where an instruction is next, over so many slots, a stride does it, unless no act may begin any more
abbrev pub work_at : (next : Option ℕ) → (is_spent : Bool) → Work
work_at (Some slots) is_spent = record { instructions = if is_spent then 0 else 1; depth = slots }
work_at None is_spent = no_work

-- how many slots lie there, if one is next
abbrev pub slots_next : {V : Type 0} → State V → Option ℕ
slots_next (on pc ss) = Some (length ss)
slots_next s = None

abbrev pub is_spent : {V W : Type 0} → Ending V W → Bool
is_spent bare.spent = true
is_spent e = false

abbrev pub ends_spent : {S N V W : Type 0} → Stride S N V W → Bool
ends_spent (ends ws u e) = is_spent e
ends_spent x = false

module _ {N V W : Type 0} (machine : Machine (State V) V) (host : Host N V W) (n : ℕ) where
  -- the work of the stride from a state
  abbrev pub work_of : bare.State (State V) N V W → Work
  work_of s = work_at (slots_next s.here.state) (ends_spent (stride machine host n s))

  -- a run comes from a stride to an outcome, and does this work behind the stride
  pub data Does : Stride (State V) N V W → Outcome V W → Work → Type 0 where
    ends_so : (ws : List Write) (u : ℕ) (e : Ending V W) → Does (ends ws u e) (record { written = ws; units = u; ending = e }) no_work
    goes_on : (ws : List Write) (s : bare.State (State V) N V W) (o : Outcome V W) (w : Work) → Does (stride machine host n s) o w
        → Does (goes ws s) (outcome_behind ws o) (both (work_of s) w)

  -- the run of a block as the module's
  abbrev pub RunDoes : BlockId → N → W → Outcome V W → Work → Type 0
  RunDoes b x w o k = Does (goes (logged machine host starts (start machine host b x w)) (start machine host b x w)) o k

  abbrev pub DoesOneWork : BlockId → N → W → Type 0
  DoesOneWork b x w = (o p : Outcome V W) (k l : Work) → RunDoes b x w o k → RunDoes b x w p l → (o ≡ p) × (k ≡ l)
