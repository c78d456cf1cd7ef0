-- What the calls of `Tools` answer: what the calls of sys.monitoring do, unless memory has run out.
use Rattle.std.specs.Prelude.{◌≡◌, ℕ, ℤ, pos, negsuc, List, true, false, Option, Some, None, Result, Ok, Err, if◌then◌else◌}
use Rattle.pt_heap.specs.declared.value.Value.{Value}
use Rattle.pt_settrace.specs.Tracing.{or_none}
use Rattle.sem_run.specs.run.Tools as run
use Rattle.sem_run.specs.run.Tools.{Location, ToolError, ToolAnswer, is_id, is_local, switch_off, without}
use Rattle.pt_monitor.specs.declared.error.ToolErr.{ToolErr}
use Rattle.pt_monitor.specs.declared.error.ToolErr.TheVariants.{InUse, BadId, NotInUse, BadSet, NotLocal, Memory}
use Rattle.pt_monitor.specs.Alike.{ToolsAlike}

abbrev pub Tools : Type 0
Tools = run.Tools Value

abbrev pub refusal : ToolError → ToolErr
refusal run.bad_id = BadId
refusal run.in_use = InUse
refusal run.not_in_use = NotInUse
refusal run.bad_set = BadSet

-- the refusal, or what is told of the answer
abbrev pub reply : {A : Type 0} → (ToolAnswer Value → A) → ToolAnswer Value → Result A ToolErr
reply f (run.wrong e) = Err (refusal e)
reply f a = Ok (f a)

abbrev pub nothing : ToolAnswer Value → Unit {0}
nothing a = tt

abbrev pub set_told : ToolAnswer Value → ℕ
set_told (run.a_set s) = s
set_told a = 0

abbrev pub name_told : ToolAnswer Value → Option (List ℕ)
name_told (run.a_name x) = x
name_told a = None

-- None where there was no callback
abbrev pub callback_told : ToolAnswer Value → Value
callback_told (run.a_callback f) = or_none f
callback_told a = or_none None

-- a fact about what is answered where memory hasn't run out
abbrev pub UnlessMemory : {A : Type 0} → Result A ToolErr → Type 0 → Type 0
UnlessMemory (Err Memory) P = Unit {0}
UnlessMemory r P = P

-- the place of a tool among the six
abbrev pub tool_place : ℤ → Option ℕ
tool_place (pos n) = if is_id n then Some n else None
tool_place (negsuc n) = None

-- a callback answered DISABLE
abbrev pub Disables : Location → (old new : Tools) → Result (Unit {0}) ToolErr → Type 0
Disables l old new (Ok u) = (is_local l.bit ≡ true) × ToolsAlike new (switch_off l old)
Disables l old new (Err NotLocal) = (is_local l.bit ≡ false) × ToolsAlike new (without l old)
Disables l old new (Err Memory) = (is_local l.bit ≡ true) × (new ≡ old)
Disables l old new (Err e) = ⊥
