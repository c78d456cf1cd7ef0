-- Where as many activations are open as may be.
use Rattle.std.proofs.Common.{◌≡◌, Bool, true, false, refl, sym, ap, subst}
use Rattle.pt_base.specs.declared.numbers.BlockId.{BlockId}
use Rattle.pt_bind.specs.declared.arguments.Locals.{Locals}
use Rattle.pt_frames.specs.declared.purpose.Purpose.{Purpose as For}
use Rattle.pt_openers.specs.Openers.{is_full}
use Rattle.pt_reraising.specs.pt_machine_state.declared.blocks.BlockCode.{BlockCode}
use Rattle.pt_reraising.specs.pt_machine_state.declared.blocks.Blocks.{Blocks}
use Rattle.pt_reraising.specs.pt_machine_state.pt_code_facts.sem_rows.declared.heap_rows.progress.Progress.{Progress}
use Rattle.pt_reraising.specs.pt_opening.pt_run_state.declared.machine.Machine.{Machine}
use Rattle.pt_reraising.specs.pt_failing.declared.failing.Failed.{Failed}
use Rattle.pt_reraising.specs.pt_failing.declared.failing.Failed.TheVariants.{Further}
use Rattle.pt_reraising.specs.pt_failing.declared.failing.Failing.{Failing}
use Rattle.pt_reraising.specs.pt_failing.Failing.{FailsSo, FailedSo}
use Rattle.pt_calling.specs.Calling.{is_item, too_many, RefusesIf, RefusesSo, CallsIn, CallsSo}

pub said_so : (block : BlockCode) (f : Failing) (old : Machine) (r : Failed) (new : Machine)
    (p : Progress) → p ≡ too_many → FailsSo block p f old r new → FailsSo block too_many f old r new
said_so block f old r new p is did = subst (λ x. FailsSo block x f old r new) is did

abbrev left_so : Progress → Machine → FailedSo
left_so p m = record { failed = Further p; machine = m }

pub where_item : (block : BlockCode) (f : Failing) (old : Machine) (why : For) (p : Progress)
    → is_item why ≡ true → p ≡ too_many → RefusesSo block why f old (Further p) old
where_item block f old why p item is =
    subst (λ b. RefusesIf b block why f old (Further p) old) (sym item) (ap (λ x. left_so x old) is)

pub where_other : (block : BlockCode) (f : Failing) (old : Machine) (r : Failed) (new : Machine)
    (why : For) → is_item why ≡ false → RefusesIf false block why f old r new
    → RefusesSo block why f old r new
where_other block f old r new why other did =
    subst (λ b. RefusesIf b block why f old r new) (sym other) did

pub where_full : (blocks : Blocks) (block : BlockCode) (b : BlockId) (hidden : Bool) (ls : Locals)
    (why : For) (f : Failing) (old : Machine) (r : Failed) (new : Machine)
    → is_full old.openers ≡ true → RefusesSo block why f old r new
    → CallsSo blocks block b hidden ls why f old r new
where_full blocks block b hidden ls why f old r new full did =
    subst (λ c. CallsIn c blocks block b hidden ls why f old r new) (sym full) did
