-- A turn does what the phase of the machine wants.
use Rattle.std.proofs.Common.{◌≡◌, ◌∙◌, Bool, true, Some, None, refl, ap}
use Rattle.pt_closing.specs.pt_beginning.pt_machine_state.declared.blocks.BlockCode.{BlockCode}
use Rattle.pt_closing.specs.pt_beginning.pt_machine_state.declared.blocks.Blocks.{Blocks}
use Rattle.pt_closing.specs.pt_beginning.pt_machine_state.declared.writes.Writes.{Writes}
use Rattle.pt_closing.specs.pt_purposes.declared.standing.Standing.{Standing}
use Rattle.pt_closing.specs.pt_beginning.pt_run_state.declared.machine.Machine.{Machine}
use Rattle.pt_closing.specs.pt_beginning.pt_run_state.declared.machine.Phase.{Phase}
use Rattle.pt_closing.specs.pt_beginning.pt_run_state.declared.machine.Phase.TheVariants.{Turning, Telling as Tells}
use Rattle.pt_closing.specs.pt_turning.pt_telling.declared.asking.Found.{Found}
use Rattle.pt_closing.specs.pt_turning.pt_telling.Asks.{is_telling, FindsIn}
use Rattle.pt_advancing.specs.declared.onward.Advanced.{Advanced}
use Rattle.pt_advancing.specs.Proceeding.{turned}
use Rattle.pt_advancing.specs.Advancing.{turning_in, found_on, AdvancesIn}

module _ (blocks : Blocks) (block : BlockCode) (minds : Bool) (old : Machine) (written : Writes) where
  told-in : (p : Phase) (found : Found) (mid : Machine) (a : Advanced) (new : Machine) (writes : Writes)
      → is_telling p ≡ true → FindsIn block minds p found old written mid writes
      → record { advanced = a; machine = new } ≡ found_on blocks block found mid
      → AdvancesIn blocks block minds p a old written new writes
  told-in (Turning z) found mid a new writes tells finds e = absurd cc
  told-in (Tells z active t) found mid a new writes tells finds e =
      record { finding = found; reached = mid; finds = finds; advances = e }

  pub told_so : (found : Found) (mid : Machine) (a : Advanced) (new : Machine) (writes : Writes)
      → is_telling old.phase ≡ true → FindsIn block minds old.phase found old written mid writes
      → record { advanced = a; machine = new } ≡ found_on blocks block found mid
      → AdvancesIn blocks block minds old.phase a old written new writes
  told_so found mid a new writes tells finds e = told-in old.phase found mid a new writes tells finds e

  turned-in : (p : Phase) (z : Standing) (a : Advanced) (new : Machine) → Some z ≡ turning_in p
      → record { advanced = a; machine = new } ≡ turned block z old
      → AdvancesIn blocks block minds p a old written new written
  turned-in (Turning y) z a new is e =
      let same : z ≡ y = cc in (e ∙ ap (λ x. turned block x old) same, refl)
  turned-in (Tells y active t) z a new is e = absurd cc

  pub turned_so : (z : Standing) (a : Advanced) (new : Machine) → Some z ≡ turning_in old.phase
      → record { advanced = a; machine = new } ≡ turned block z old
      → AdvancesIn blocks block minds old.phase a old written new written
  turned_so z a new is e = turned-in old.phase z a new is e

pub is_told : (p : Phase) → None ≡ turning_in p → is_telling p ≡ true
is_told (Turning z) is = absurd cc
is_told (Tells z active t) is = refl
