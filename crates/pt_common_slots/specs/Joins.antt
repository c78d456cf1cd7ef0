-- Pairs of places, and how many of their lowest slots the own steps of instructions keep.
use Rattle.std.specs.Prelude.{◌≡◌, ℕ, ◌+◌, ◌-◌, ◌<◌, min, nat_le, if◌then◌else◌, List, [], ◌++◌, length, Contains, Option, Some, None, option_to_list}
use Rattle.pt_instr.specs.declared.Instr.{Instr}
use Rattle.pt_instr.specs.declared.Instr.TheVariants.{Leave}
use Rattle.pt_instr.specs.Effects.{Kinds, effect_of}
use Rattle.pt_places.specs.declared.places.Place.{Place}
use Rattle.pt_places.specs.PlaceTable as P
use Rattle.sem_code.specs.slots.BlockObject.{target_of}
use Rattle.pt_sizes.specs.Flow.{entry}
use Rattle.pt_joins.specs.declared.joins.Join.{Join}
use Rattle.pt_row_joins.specs.Rows.{join}

-- of the slots that lie there, those below what an instruction gives, and what it keeps of that
abbrev pub stay : (size given keeps : ℕ) → ℕ
stay size given keeps = (size - given) + min keeps given

abbrev pub given_join : (pc to : ℕ) → (there : Option ℕ) → Option Kinds → (keeps : ℕ) → Option Join
given_join pc to (Some size) (Some given) keeps = Some (join pc to (stay size (length given) keeps))
given_join pc to (Some size) None keeps = None
given_join pc to None given keeps = None

abbrev pub onward_join : (sizes : List (Option ℕ)) → (pc : ℕ) → Place → Option Join
onward_join sizes pc p = given_join pc p.next.0 (entry sizes p.next.0) (effect_of p.instr 0).gives (effect_of p.instr 0).keeps

abbrev pub aside_join : (sizes : List (Option ℕ)) → (pc : ℕ) → (target : Option ℕ) → Option Kinds → (keeps : ℕ) → Option Join
aside_join sizes pc (Some t) given keeps = given_join pc t (entry sizes t) given keeps
aside_join sizes pc None given keeps = None

abbrev pub join_if : (pc to size : ℕ) → (there : Option ℕ) → Option Join
join_if pc to size (Some there) = Some (join pc to (min there size))
join_if pc to size None = None

abbrev pub leave_join : (sizes : List (Option ℕ)) → (pc : ℕ) → Instr → (size : ℕ) → Option Join
leave_join sizes pc (Leave t) size = join_if pc t.0 size (entry sizes t.0)
leave_join sizes pc i size = None

abbrev pub own_joins : (sizes : List (Option ℕ)) → (pc : ℕ) → Option Place → (size : Option ℕ) → List Join
own_joins sizes pc (Some p) (Some size) = option_to_list (onward_join sizes pc p)
    ++ (option_to_list (aside_join sizes pc (target_of p.instr) (effect_of p.instr 0).aside (effect_of p.instr 0).keeps)
    ++ option_to_list (leave_join sizes pc p.instr size))
own_joins sizes pc (Some p) None = []
own_joins sizes pc None size = []

pub record IsOwnBelow (places : List (Option Place)) (sizes : List (Option ℕ)) (limit : ℕ) (j : Join) : Type 0 where
  pub pc : ℕ
  pub low : pc < limit
  pub among : Contains (own_joins sizes pc (P.entry places pc) (entry sizes pc)) j

-- of the instructions at the limit and below
abbrev pub IsOwn : (places : List (Option Place)) → (sizes : List (Option ℕ)) → (limit : ℕ) → Join → Type 0
IsOwn places sizes limit j = IsOwnBelow places sizes (min (length sizes) (limit + 1)) j

-- the sizes of the places at the limit and below alone
abbrev pub low_size : (limit pc : ℕ) → Option ℕ → Option ℕ
low_size limit pc size = if nat_le pc limit then size else None

pub record AreLowSizes (limit : ℕ) (sizes low : List (Option ℕ)) : Type 0 where
  pub long : length low ≡ length sizes
  pub each : (pc : ℕ) → entry low pc ≡ low_size limit pc (entry sizes pc)
