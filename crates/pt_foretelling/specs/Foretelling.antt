-- What is told before the act of an instruction (Library Reference, `sys.monitoring`).
use Rattle.std.specs.Prelude.{ℕ, List, length, Option, Some, None, slice_get}
use Rattle.pt_base.specs.declared.numbers.ActNo.{ActNo}
use Rattle.pt_heap.specs.declared.value.Value.{Value}
use Rattle.pt_heap.specs.declared.object.Object.{Object}
use Rattle.pt_content.specs.pt_attrs.Look.{object_of}
use Rattle.pt_instr.specs.declared.Instr.{Instr}
use Rattle.pt_instr.specs.declared.Instr.TheVariants as instr
use Rattle.pt_frames.specs.declared.slot.Slot.{Slot}
use Rattle.pt_tree.specs.Syntax.{Name}
use Rattle.pt_happenings.specs.declared.happening.Happening.TheVariants as told
use Rattle.pt_host.specs.HeapHost.{is_builtin_object}
use Rattle.pt_foretelling.specs.declared.acts.Foretold.{Foretold}
use Rattle.pt_foretelling.specs.Calls.{value_in, first_by, first_plain, or_missing}

abbrev pub calling_first : List Object → (function first : Value) → Foretold
calling_first h f v = record {
  before = Some (told.Calls f v);
  callee = Some (record { first = v; builtin = is_builtin_object (object_of h f) });
}

-- a call with so many arguments
abbrev pub calling : List Object → (count : ℕ) → (first : Option Value) → List Slot → Foretold
calling h n o slots = calling_first h (value_in (slice_get slots n)) (or_missing o)

abbrev pub nothing : Foretold
nothing = record { before = None; callee = None }

abbrev pub foretold : List Object → Instr → (texts : List Name) → List Slot → ActNo → Foretold
foretold h (instr.Call n) xs slots d = calling h n (first_plain n 0 slots) slots
foretold h (instr.CallKw n l) xs slots d = calling h n (first_plain n (length xs) slots) slots
foretold h (instr.CallSpread n l) xs slots d = calling h n (first_by h xs n slots) slots
foretold h (instr.Leave t) xs slots d = record { before = Some (told.Jumps d); callee = None }
foretold h j xs slots d = nothing
