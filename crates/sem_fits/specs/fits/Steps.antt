-- The ways on from an instruction, with the kinds of the slots there. In a list of kinds the top stands last (Library Reference, "dis").
use Rattle.std.specs.Prelude.{ℕ, zero, suc, ◌+◌, ◌-◌, min, List, [], ◌∷◌, ◌++◌, length, map, reverse, take, drop, filter, slice_get, Bool, true, false, ◌&&◌, ◌||◌, nat_le, if◌then◌else◌, Option, Some, None}
use Rattle.pt_instr.specs.declared.effects.Effect.{Effect}
use Rattle.pt_instr.specs.declared.kinds.Kind.{Kind}
use Rattle.pt_instr.specs.declared.kinds.Kind.TheVariants as kind
use Rattle.pt_instr.specs.Effects.{Kinds}
use Rattle.pt_ranges.specs.declared.handlers.Handler.{Handler}
use Rattle.pt_code.specs.View.{Ins}
pub use Rattle.sem_code.specs.slots.BlockObject.{target_of}
use Rattle.sem_fits.specs.fits.Block.{Links, Block, effect}

abbrev pub is_kind : Kind → Kind → Bool
is_kind kind.Value kind.Value = true
is_kind kind.Cell kind.Cell = true
is_kind kind.Iter kind.Iter = true
is_kind kind.Exc kind.Exc = true
is_kind kind.Pending kind.Pending = true
is_kind kind.With kind.With = true
is_kind k l = false

abbrev pub are_kinds : Kinds → Kinds → Bool
are_kinds [] [] = true
are_kinds (k ∷ ks) (l ∷ ls) = is_kind k l && are_kinds ks ls
are_kinds ks ls = false

-- the second list begins with the first
abbrev pub is_prefix : Kinds → Kinds → Bool
is_prefix [] ls = true
is_prefix (k ∷ ks) (l ∷ ls) = is_kind k l && is_prefix ks ls
is_prefix (k ∷ ks) [] = false

-- how many slots lie below those that are taken, which these are, and which are taken: by their number, whatever their kinds
abbrev pub spared : Effect → Kinds → ℕ
spared e ks = length ks - length e.takes

abbrev pub below : Effect → Kinds → Kinds
below e ks = take (spared e ks) ks

abbrev pub taken : Effect → Kinds → Kinds
taken e ks = drop (spared e ks) ks

-- how deep the slot lies that is read below those that are taken, from 1
abbrev pub reads : Option ℕ → ℕ
reads None = 0
reads (Some n) = n

-- there are as many slots as are taken and read
abbrev pub has_enough : Effect → Kinds → Bool
has_enough e ks = nat_le (length e.takes + reads e.above) (length ks)

abbrev pub is_value : Option Kind → Bool
is_value (Some kind.Value) = true
is_value k = false

-- a value lies so deep, from 1
abbrev pub has_value : Option ℕ → Kinds → Bool
has_value None ks = true
has_value (Some zero) ks = false
has_value (Some (suc n)) ks = is_value (slice_get (reverse ks) n)

-- two are swapped of which the lower one is an iterator
abbrev pub swaps_iterator : Effect → Kinds → Bool
swaps_iterator e ks = e.swaps && are_kinds (taken e ks) (kind.Iter ∷ kind.Value ∷ [])

-- an instruction finds what it takes and reads
abbrev pub finds : Effect → Kinds → Bool
finds e ks = (are_kinds (taken e ks) e.takes || swaps_iterator e ks) && has_value e.above (below e ks)

-- of two that are swapped the lower one comes to the top, and a value lies below
abbrev pub swapped : Kinds → (given : Kinds) → Kinds
swapped (k ∷ l ∷ []) given = kind.Value ∷ k ∷ []
swapped ks given = given

abbrev pub given_behind : Effect → Kinds → Kinds → Kinds
given_behind e ks given = if e.swaps then swapped (taken e ks) given else given

-- a way on: where to, with slots of which kinds, and how many of the lowest of them are the same as before
pub record Step : Type 0 where
  pub to : ℕ
  pub kinds : Kinds
  pub kept : ℕ

abbrev pub step : (to : ℕ) → Kinds → (kept : ℕ) → Step
step to ks kept = record { to = to; kinds = ks; kept = kept }

-- what is given lies above the slots that aren't taken
abbrev pub gives : Effect → Kinds → (to : ℕ) → (given : Kinds) → Step
gives e ks to given = step to (below e ks ++ given) (spared e ks + min e.keeps (length given))

abbrev pub onward : Effect → Kinds → (next : ℕ) → Option Kinds → List Step
onward e ks next (Some given) = gives e ks next (given_behind e ks given) ∷ []
onward e ks next None = []

abbrev pub aside : Effect → Kinds → (target : Option ℕ) → Option Kinds → List Step
aside e ks (Some t) (Some given) = gives e ks t given ∷ []
aside e ks t given = []

-- a delegation stays at its place, with all that it takes (6.2.9)
abbrev pub again : Effect → Kinds → (pc : ℕ) → List Step
again e ks pc = if e.again then step pc ks (length ks) ∷ [] else []

-- the ways on of an instruction itself; none where it has too few slots
abbrev pub by_instruction : Effect → Kinds → (pc : ℕ) → Ins → List Step
by_instruction e ks pc i =
    if has_enough e ks then onward e ks i.next e.gives ++ (aside e ks (target_of i.instr) e.aside ++ again e ks pc) else []

-- what a handler row holds: an except row the exception, an always row the completion (8.4)
abbrev pub held_by : Handler → Kind
held_by row = if row.always then kind.Pending else kind.Exc

-- the row leaves no more slots than lie below those that are taken
abbrev pub is_within : Effect → Kinds → Handler → Bool
is_within e ks row = nat_le row.depth (spared e ks)

abbrev pub cut : Handler → Kinds → Kinds
cut row ks = take row.depth ks

abbrev pub landing : Kinds → Handler → Step
landing ks row = step row.target.0 (cut row ks ++ held_by row ∷ []) row.depth

-- the ways on to the handlers that cover the place, whether or not its instruction can raise
abbrev pub by_handlers : Effect → Kinds → List Handler → List Step
by_handlers e ks rows = map (landing ks) (filter (is_within e ks) rows)

abbrev pub steps_of : Links → (pc : ℕ) → Kinds → Option Ins → List Step
steps_of links pc ks None = []
steps_of links pc ks (Some i) = by_instruction (effect links i.instr) ks pc i ++ by_handlers (effect links i.instr) ks i.rows

-- the ways on from a place with slots of these kinds
abbrev pub steps : Block → (pc : ℕ) → Kinds → List Step
steps b pc ks = steps_of b.links pc ks (b.at pc)
