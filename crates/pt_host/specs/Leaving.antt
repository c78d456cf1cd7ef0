-- What an exception is that leaves the module (Library Reference, `sys.exit`, "Built-in
-- Exceptions").
use Rattle.std.specs.Prelude.{ℕ, ℤ, pos, negsuc, ◌-◌, ◌%◌, Bool, false}
use Rattle.std.specs.Prelude.{List, [], ◌∷◌, map, reverse, Option, Some, None, slice_get}
use Rattle.std.specs.Prelude.{if◌then◌else◌}
use Rattle.pt_base.specs.declared.numbers.ObjId.{ObjId}
use Rattle.pt_heap.specs.declared.value.Value.{Value}
use Rattle.pt_heap.specs.declared.value.Value.TheVariants as value
use Rattle.pt_heap.specs.declared.object.Error.{Error as ErrorObject}
use Rattle.pt_heap.specs.declared.object.TraceEntry.{TraceEntry}
use Rattle.pt_heap.specs.declared.object.Object.{Object}
use Rattle.pt_heap.specs.declared.object.Object.TheVariants as object
use Rattle.pt_dicts.specs.Keys.{truth}
use Rattle.pt_prims.specs.Classes.{derives}
use Rattle.sem_run.specs.run.Host.{Leaving, exits, exits_oddly, fails, Entry}
use Rattle.pt_host.specs.declared.places.TheConstants.{SYSTEM_EXIT, STOP_ITERATION}
use Rattle.pt_host.specs.World.{World}

abbrev pub error_in : Option Object → Option ErrorObject
error_in (Some (object.Error x)) = Some x
error_in _ = None

abbrev pub error_at : List Object → Value → Option ErrorObject
error_at h (value.Obj id) = error_in (slice_get h id.0)
error_at h v = None

abbrev pub is_error_of : List Object → ObjId → Option ErrorObject → Bool
is_error_of h class (Some x) = derives h class x.class
is_error_of h class None = false

abbrev pub is_stop_in : List Object → Value → Bool
is_stop_in h v = is_error_of h STOP_ITERATION (error_at h v)

abbrev pub is_stop : Value → World → Bool
is_stop v w = is_stop_in w.heap v

-- an integer modulo 256
abbrev pub status_of : ℤ → ℕ
status_of (pos n) = n % 256
status_of (negsuc n) = 255 - n % 256

abbrev pub exits_with_object : Option Object → Leaving
exits_with_object (Some (object.Str t)) = exits 1 (Some t)
exits_with_object o = exits_oddly

abbrev pub exits_with : List Object → List Value → Leaving
exits_with h [] = exits 0 None
exits_with h (value.None ∷ []) = exits 0 None
exits_with h (value.Bool b ∷ []) = exits (status_of (truth b)) None
exits_with h (value.Int z ∷ []) = exits (status_of z) None
exits_with h (value.Obj id ∷ []) = exits_with_object (slice_get h id.0)
exits_with h vs = exits_oddly

-- the newest entry of a traceback is that of the oldest frame
abbrev pub entry_of : TraceEntry → Entry
entry_of t = record {
  frame = t.frame.0;
  block = record { hidden = false; number = t.block.0 };
  line = t.line.0;
}

abbrev pub leaves_by : List Object → Option ErrorObject → Leaving
leaves_by h (Some x) =
    if derives h SYSTEM_EXIT x.class then exits_with h x.args
    else fails (reverse (map entry_of x.trace))
leaves_by h None = fails []

abbrev pub leaving : Value → World → Leaving
leaving v w = leaves_by w.heap (error_at w.heap v)
