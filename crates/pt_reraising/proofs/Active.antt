-- By whether an exception is active.
use Rattle.std.proofs.Common.{◌≡◌, ℕ, List, Bool, Option, Some, None, sym, subst}
use Rattle.std.specs.Prelude.{codes}
use Rattle.pt_heap.specs.declared.value.Value.{Value}
use Rattle.pt_failing.specs.pt_arising.pt_replying.pt_turning.pt_telling.pt_transfers.pt_machine_state.declared.blocks.BlockCode.{BlockCode}
use Rattle.pt_failing.specs.pt_arising.pt_replying.pt_turning.sem_rows.pt_host.declared.places.TheConstants.{RUNTIME_ERROR}
use Rattle.pt_failing.specs.pt_arising.pt_replying.pt_turning.sem_rows.declared.heap_rows.progress.Progress.TheVariants.{FailsSaying}
use Rattle.pt_failing.specs.pt_arising.pt_replying.pt_turning.pt_telling.pt_run_state.declared.machine.Machine.{Machine}
use Rattle.pt_failing.specs.declared.failing.Failed.{Failed}
use Rattle.pt_failing.specs.Failing.{FailsSo, context_of, goes}
use Rattle.pt_reraising.specs.Raising.{raised_again, none_active, alone, RaisesIn, RaisesSo}

pub said_so : (block : BlockCode) (acts : Bool) (active : Option Value) (old : Machine) (r : Failed)
    (new : Machine) (t : List ℕ) → t ≡ codes "no active exception"
    → FailsSo block (FailsSaying RUNTIME_ERROR t) (alone acts active) old r new
    → FailsSo block none_active (alone acts active) old r new
said_so block acts active old r new t is did =
    subst (λ u. FailsSo block (FailsSaying RUNTIME_ERROR u) (alone acts active) old r new) is did

pub where_none : (block : BlockCode) (acts : Bool) (active : Option Value) (old : Machine)
    (r : Failed) (new : Machine) → context_of active old ≡ None
    → FailsSo block none_active (alone acts active) old r new
    → RaisesSo block acts active old r new
where_none block acts active old r new none did =
    subst (λ o. RaisesIn o block acts active old r new) (sym none) did

pub where_active : (block : BlockCode) (acts : Bool) (active : Option Value) (old : Machine)
    (r : Failed) (new : Machine) (v : Value) → context_of active old ≡ Some v
    → record { failed = r; machine = new } ≡ goes (raised_again block v acts active old)
    → RaisesSo block acts active old r new
where_active block acts active old r new v some did =
    subst (λ o. RaisesIn o block acts active old r new) (sym some) did
