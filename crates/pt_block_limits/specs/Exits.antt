-- Where the instructions go on to at which no act begins and whose places have sizes.
use Rattle.std.specs.Prelude.{◌≡◌, ℕ, List, length, is_some, if◌then◌else◌, Option, Some, None}
use Rattle.pt_instr.specs.declared.Instr.{Instr}
use Rattle.pt_instr.specs.declared.Instr.TheVariants.{Leave}
use Rattle.pt_instr.specs.Effects.{Kinds, effect_of}
use Rattle.pt_places.specs.declared.places.Place.{Place}
use Rattle.pt_sizes.specs.Flow.{entry}
use Rattle.sem_code.specs.slots.BlockObject.{target_of}
use Rattle.pt_step_graph.specs.declared.exits.Exits.{Exits}

abbrev pub if_given : (next : ℕ) → Option Kinds → Option ℕ
if_given next (Some given) = Some next
if_given next None = None

-- a Leave goes to its target, also where a row takes it
abbrev pub jump_of : Instr → Option ℕ
jump_of (Leave t) = Some t.0
jump_of i = target_of i

abbrev pub exits_of : Instr → (next : ℕ) → (held : Option ℕ) → Exits
exits_of i next held = record {
  onward = if_given next (effect_of i 0).gives;
  aside = jump_of i;
  again = (effect_of i 0).again;
  held = held;
}

abbrev pub exits_at : Option Place → (size : Option ℕ) → (held : Option ℕ) → Option Exits
exits_at (Some p) (Some n) held = if is_some p.mark then None else Some (exits_of p.instr p.next.0 held)
exits_at p n held = None

pub record HasExits (places : List (Option Place)) (sizes : List (Option ℕ)) (held : List (Option ℕ)) (table : List (Option Exits)) : Type 0 where
  pub long : length table ≡ length sizes
  pub each : (pc : ℕ) → entry table pc ≡ exits_at (entry places pc) (entry sizes pc) (entry held pc)
