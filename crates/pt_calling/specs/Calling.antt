-- What the machine does where an instruction calls a block: that opens above the newest activation,
-- which waits for what it was called for, and its beginning is told; where as many activations are
-- open as may be, a RecursionError arises, but what comes of that for the next item of an iterator
-- isn't there (Language Reference 2.4.3, 3.3.1, 4.1, 6.3.4, 6.10.2, 8.5, 8.8).
use Rattle.std.specs.Prelude.{◌≡◌, [], ◌∷◌, Bool, true, false, codes}
use Rattle.pt_base.specs.declared.numbers.BlockId.{BlockId}
use Rattle.pt_bind.specs.declared.arguments.Locals.{Locals}
use Rattle.pt_frames.specs.declared.purpose.Purpose.{Purpose as For}
use Rattle.pt_frames.specs.declared.purpose.Purpose.TheVariants.{Item}
use Rattle.pt_happenings.specs.declared.happening.Happening.TheVariants.{Starts}
use Rattle.pt_openers.specs.Openers.{is_full}
use Rattle.pt_reraising.specs.pt_machine_state.declared.blocks.BlockCode.{BlockCode}
use Rattle.pt_reraising.specs.pt_machine_state.declared.blocks.Blocks.{Blocks}
use Rattle.pt_reraising.specs.pt_machine_state.Blocks.{block_at}
use Rattle.pt_reraising.specs.pt_machine_state.Changes.{behind_block}
use Rattle.pt_reraising.specs.pt_opening.pt_host.declared.places.TheConstants.{RECURSION_ERROR}
use Rattle.pt_reraising.specs.pt_machine_state.pt_code_facts.sem_rows.heap_rows.Told.{block_id}
use Rattle.pt_reraising.specs.pt_machine_state.pt_code_facts.sem_rows.declared.heap_rows.progress.Progress.{Progress}
use Rattle.pt_reraising.specs.pt_machine_state.pt_code_facts.sem_rows.declared.heap_rows.progress.Progress.TheVariants.{FailsSaying}
use Rattle.pt_reraising.specs.pt_opening.pt_purposes.declared.purpose.Purpose.TheVariants.{Ask}
use Rattle.pt_reraising.specs.pt_opening.pt_run_state.declared.machine.Machine.{Machine}
use Rattle.pt_reraising.specs.pt_opening.pt_telling.Telling.{Told}
use Rattle.pt_reraising.specs.pt_failing.pt_arising.pt_replying.Replying.{told_on}
use Rattle.pt_reraising.specs.pt_opening.declared.opening.Wanted.{Wanted}
use Rattle.pt_reraising.specs.pt_opening.Opening.{opened, beginning}
use Rattle.pt_reraising.specs.pt_failing.declared.failing.Failed.{Failed}
use Rattle.pt_reraising.specs.pt_failing.declared.failing.Failing.{Failing}
use Rattle.pt_reraising.specs.pt_failing.Failing.{FailsSo, context_of, goes, left}

abbrev pub wanted_for : For → Failing → Machine → Wanted
wanted_for why f m = record {
  purpose = Ask f.called f.is_act;
  why = why;
  context = context_of f.active m;
}

abbrev pub called_in : BlockCode → BlockId → (hidden : Bool) → Locals → For → Failing → Machine
    → Told
called_in callee b hidden ls why f m =
    told_on callee beginning (Starts ∷ [])
    (opened callee.iterates b hidden ls (wanted_for why f m) m)

abbrev pub too_many : Progress
too_many = FailsSaying RECURSION_ERROR (codes "too many activations")

-- the block was to give the next item of an iterator
abbrev pub is_item : For → Bool
is_item (Item iterator end) = true
is_item why = false

-- the slots of an exit come off, which stayed on while its block ran
abbrev pub cleared : For → Machine → Machine
cleared why m = record m { code = behind_block why m.code }

-- the machine did what comes of one activation too many
abbrev pub RefusesIf : (item : Bool) → BlockCode → For → Failing → (old : Machine) → Failed
    → (new : Machine) → Type 0
RefusesIf true block why f old r new = record { failed = r; machine = new } ≡ left too_many old
RefusesIf false block why f old r new = FailsSo block too_many f (cleared why old) r new

abbrev pub RefusesSo : BlockCode → For → Failing → (old : Machine) → Failed → (new : Machine)
    → Type 0
RefusesSo block why f old r new = RefusesIf (is_item why) block why f old r new

-- the machine did what an instruction came to that called a block
abbrev pub CallsIn : (full : Bool) → Blocks → BlockCode → BlockId → (hidden : Bool) → Locals → For
    → Failing → (old : Machine) → Failed → (new : Machine) → Type 0
CallsIn true blocks block b hidden ls why f old r new = RefusesSo block why f old r new
CallsIn false blocks block b hidden ls why f old r new =
    record { failed = r; machine = new }
    ≡ goes (called_in (block_at blocks (block_id b hidden)) b hidden ls why f old)

abbrev pub CallsSo : Blocks → BlockCode → BlockId → (hidden : Bool) → Locals → For → Failing
    → (old : Machine) → Failed → (new : Machine) → Type 0
CallsSo blocks block b hidden ls why f old r new =
    CallsIn (is_full old.openers) blocks block b hidden ls why f old r new
