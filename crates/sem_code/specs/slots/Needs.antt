-- What an instruction needs of the slots, by the row of its effect; and which turns begin an act.
use Rattle.std.specs.Prelude.{◌≡◌, ℕ, zero, suc, List, [], ◌∷◌, length, reverse, drop, Bool, true, false, ◌&&◌, ◌||◌, Option, Some, None}
use Rattle.pt_instr.specs.declared.Instr.{Instr}
use Rattle.pt_instr.specs.declared.Instr.TheVariants as instr
use Rattle.pt_instr.specs.declared.effects.Effect.{Effect}
use Rattle.pt_instr.specs.declared.kinds.Kind.{Kind}
use Rattle.pt_instr.specs.declared.kinds.Kind.TheVariants as kind
use Rattle.pt_instr.specs.Effects.{effect_of}
use Rattle.sem_control.specs.control.Turn.{Mark, Turn, act, note, move, over, stuck}
use Rattle.sem_code.specs.slots.Slots.{Slot, value, cell, iterator, exception, pending, exit, Slots}
use Rattle.sem_code.specs.slots.CodeObject.{Pool}

abbrev pub is_stuck : {S V : Type 0} → Turn S V → Bool
is_stuck stuck = true
is_stuck t = false

abbrev pub has_kind : {V : Type 0} → Kind → Slot V → Bool
has_kind kind.Value (value v) = true
has_kind kind.Cell (cell v) = true
has_kind kind.Iter (iterator v) = true
has_kind kind.Exc (exception v) = true
has_kind kind.Pending (pending c) = true
has_kind kind.With (exit v) = true
has_kind k s = false

-- the uppermost slots have these kinds, the top first
abbrev pub begin_with : {V : Type 0} → List Kind → Slots V → Bool
begin_with [] ss = true
begin_with (k ∷ ks) (s ∷ ss) = has_kind k s && begin_with ks ss
begin_with (k ∷ ks) [] = false

-- a value stands so many slots down, the uppermost being the first
abbrev pub has_value_at : {V : Type 0} → (n : ℕ) → Slots V → Bool
has_value_at zero ss = false
has_value_at (suc n) [] = false
has_value_at (suc zero) (s ∷ ss) = has_kind kind.Value s
has_value_at (suc (suc n)) (s ∷ ss) = has_value_at (suc n) ss

abbrev pub has_value_below : {V : Type 0} → Option ℕ → Slots V → Bool
has_value_below None ss = true
has_value_below (Some n) ss = has_value_at n ss

abbrev pub on_top : {V : Type 0} → (swaps : Bool) → List Kind → Slots V → Bool
on_top false ks ss = begin_with ks ss
on_top true ks ss = begin_with ks ss || begin_with (kind.Value ∷ kind.Iter ∷ []) ss

-- the slots have what an effect takes and reads; where it swaps two, the lower one may be an iterator
abbrev pub have : {V : Type 0} → Slots V → Effect → Bool
have ss e = has_value_below e.above (drop (length e.takes) ss) && on_top e.swaps (reverse e.takes) ss

-- how many cells the block takes along that an instruction names
abbrev pub captured_by : Pool → Instr → ℕ
captured_by pool (instr.MakeFunction b n l) = pool.captures b.0
captured_by pool (instr.MakeClass b) = pool.captures b.0
captured_by pool (instr.MakeGenerator b) = pool.captures b.0
captured_by pool i = zero

abbrev pub needs : Pool → Instr → Effect
needs pool i = effect_of i (captured_by pool i)

-- a turn is an act with a mark, or is no act where there is none
abbrev pub Begins : {S V : Type 0} → Option Mark → Turn S V → Type 0
Begins m (act n a next) = n ≡ m
Begins m (move s) = None ≡ m
Begins m (note a next) = ⊥
Begins m (over e) = ⊥
Begins m stuck = Unit {0}
