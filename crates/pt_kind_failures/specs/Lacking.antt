-- Where an instruction finds another kind than it takes, by the lists of its place.
use Rattle.std.specs.Prelude.{◌≡◌, ℕ, ◌≤◌, List, Bool, true, false, not, ◌||◌, Option, Some}
use Rattle.pt_instr.specs.declared.effects.Effect.{Effect}
use Rattle.pt_instr.specs.Effects.{Kinds}
use Rattle.pt_code.specs.View.{Ins}
use Rattle.pt_places.specs.declared.places.Place.{Place}
use Rattle.pt_places.specs.PlaceTable.{entry}
use Rattle.sem_fits.specs.fits.Block.{Links, Block, effect}
use Rattle.sem_fits.specs.fits.Steps.{are_kinds, taken, swaps_iterator, finds}
use Rattle.sem_fits.specs.fits.Places.{Reached}
use Rattle.pt_kinds.specs.declared.forest.Forest.{Forest}
use Rattle.pt_kinds.specs.Forest.{IsInside, list_at}

-- an instruction that is reached finds another kind
pub record FindsAnother (b : Block) (p : ℕ) : Type 0 where
  pub pc : ℕ
  pub ins : Ins
  pub kinds : Kinds
  pub reached : Reached b p pc ins kinds
  pub fails : finds (effect b.links ins.instr) kinds ≡ false

-- it finds the kinds that it takes, whatever it reads
abbrev pub has_taken : Effect → Kinds → Bool
has_taken e ks = are_kinds (taken e ks) e.takes || swaps_iterator e ks

-- of a place with one list
abbrev pub lacks_in : Forest → Links → (list : Option ℕ) → Option Place → Bool
lacks_in f links (Some l) (Some p) = not (finds (effect links p.instr) (list_at f l))
lacks_in f links list place = false

abbrev pub lacks_at : Forest → Links → (lists : List (Option ℕ)) → List (Option Place) → (pc : ℕ)
    → Bool
lacks_at f links lists places pc = lacks_in f links (entry lists pc) (entry places pc)

pub record AnyLacks (f : Forest) (links : Links) (lists : List (Option ℕ))
    (places : List (Option Place)) (p : ℕ) : Type 0 where
  pub pc : ℕ
  pub low : pc ≤ p
  pub here : lacks_at f links lists places pc ≡ true

abbrev pub AreInside : Forest → (lists : List (Option ℕ)) → Type 0
AreInside f lists = (v i : ℕ) → entry lists v ≡ Some i → IsInside f i
