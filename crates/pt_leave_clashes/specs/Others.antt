-- Where the target of a Leave has other kinds than lie at the Leave's own place, and what is asked of lists.
use Rattle.std.specs.Prelude.{◌≡◌, ℕ, ◌<◌, List, Bool, true, false, not, ◌&&◌, is_some, Option, Some, None}
use Rattle.pt_instr.specs.declared.Instr.{Instr}
use Rattle.pt_instr.specs.declared.Instr.TheVariants.{Leave}
use Rattle.pt_instr.specs.Effects.{Kinds}
use Rattle.pt_code.specs.View.{Ins}
use Rattle.pt_places.specs.declared.places.Place.{Place}
use Rattle.pt_sizes.specs.Flow.{entry}
use Rattle.sem_fits.specs.fits.Block.{Block}
use Rattle.sem_fits.specs.fits.Steps.{is_prefix}
use Rattle.sem_fits.specs.fits.Places.{Gets, Reached}
use Rattle.pt_kinds.specs.declared.forest.Forest.{Forest}
use Rattle.pt_kinds.specs.Forest.{list_at}
use Rattle.pt_kind_flow.specs.declared.flow.Flow.{Flow}

pub record LeavesOthers (b : Block) (p : ℕ) : Type 0 where
  pub pc : ℕ
  pub ins : Ins
  pub kinds : Kinds
  pub reached : Reached b p pc ins kinds
  pub target : ℕ
  pub leaves : ins.instr ≡ Leave (record { 0 = target })
  pub there : Kinds
  pub gets : Gets b p target there
  pub differs : is_prefix there kinds ≡ false

-- the list of a place doesn't begin with that of another
abbrev pub lists_differ : Forest → (here there : Option ℕ) → Bool
lists_differ f (Some l) (Some m) = not (is_prefix (list_at f m) (list_at f l))
lists_differ f (Some l) None = false
lists_differ f None there = false

abbrev pub leave_differs : Flow → (sizes : List (Option ℕ)) → (pc : ℕ) → Instr → Bool
leave_differs f sizes pc (Leave t) = is_some (entry sizes t.0)
    && lists_differ f.forest (entry f.table.items pc) (entry f.table.items t.0)
leave_differs f sizes pc i = false

abbrev pub place_differs : Flow → (sizes : List (Option ℕ)) → (pc : ℕ) → Option Place → Bool
place_differs f sizes pc (Some p) = leave_differs f sizes pc p.instr
place_differs f sizes pc None = false

pub record AnyDiffers (f : Flow) (places : List (Option Place)) (sizes : List (Option ℕ)) (limit : ℕ) : Type 0 where
  pub pc : ℕ
  pub low : pc < limit
  pub here : place_differs f sizes pc (entry places pc) ≡ true
