-- Exceptions that a run makes (Language Reference 7.8; Library Reference, "Built-in Exceptions").
use Rattle.std.specs.Prelude.{ℕ, zero, suc, Bool, true, false, List, [], ◌∷◌, ◌++◌, Option, Some, None, codes}
use Rattle.std.specs.Prelude.{length, slice_get, slice_set, ◌==◌, if◌then◌else◌}
use Rattle.pt_base.specs.declared.numbers.ObjId.{ObjId}
use Rattle.pt_heap.specs.declared.value.Value.{Value}
use Rattle.pt_heap.specs.declared.value.Value.TheVariants as value
use Rattle.pt_heap.specs.declared.object.Object.{Object}
use Rattle.pt_heap.specs.declared.object.Object.TheVariants.{Str, Error}
use Rattle.pt_heap.specs.declared.object.TraceEntry.{TraceEntry}
use Rattle.sem_run.specs.run.Host as H
use Rattle.sem_run.specs.run.Host.{Here, Entry, Failure, Made, made, beyond}
use Rattle.pt_host.specs.declared.places.TheConstants.{GENERATOR_EXIT, RECURSION_ERROR}
use Rattle.pt_host.specs.declared.places.TheConstants.{RUNTIME_ERROR, VALUE_ERROR}
use Rattle.pt_host.specs.World.{World, Stores, Allotted, with_heap, allot, allot_then}
use Rattle.pt_host.specs.Trees.{Tree, raise_with}

abbrev pub object_place : Option Value → Option ObjId
object_place (Some (value.Obj id)) = Some id
object_place _ = None

abbrev pub is_given : Option Value → Bool
is_given (Some v) = true
is_given None = false

-- one that arises while another one is active has that as its context, which a cause hides
abbrev pub error : (class : ObjId) → List Value → (cause active : Option Value) → Object
error c args cause active =
    Error (record {
      class = c;
      args = args;
      cause = object_place cause;
      context = object_place active;
      hides_context = is_given cause;
      trace = [];
      names = [];
    })

-- its text is an object before it
abbrev pub error_saying : ObjId → List ℕ → (cause active : Option Value) → List Object → Allotted
error_saying c t cause active h =
    allot_then (allot (Str t) h) (λ v k. allot (error c (v ∷ []) cause active) k)

abbrev pub raise_error : {A : Type 0} → ObjId → List Value → Here Value → Stores → Tree A
raise_error c args h st = raise_with (allot (error c args None h.active) st.world.heap) st

abbrev pub raise_saying : {A : Type 0} → ObjId → List ℕ → Here Value → Stores → Tree A
raise_saying c t h st = raise_with (error_saying c t None h.active st.world.heap) st

-- those that a run makes by itself
abbrev pub failure : Failure Value → (active : Option Value) → List Object → Allotted
failure H.too_deep x h = error_saying RECURSION_ERROR (codes "too many activations") None x h
-- a GeneratorExit gets its context where it arises
failure H.generator_exit x h = allot (error GENERATOR_EXIT [] None None) h
failure (H.stop_iteration v) x h =
    error_saying RUNTIME_ERROR (codes "generator raised StopIteration") (Some v) (Some v) h
failure H.not_local x h = error_saying VALUE_ERROR (codes "event is not local") None x h

abbrev pub in_heap_of : World → Allotted → Made Value World
in_heap_of w (made v h) = made v (with_heap h w)
in_heap_of w (beyond what) = beyond what

abbrev pub makes : Failure Value → Here Value → World → Made Value World
makes f h w = in_heap_of w (failure f h.active w.heap)

-- where an exception arises that was made before, another one that is active becomes its context
abbrev pub with_context : (context : Option ObjId) → (id : ObjId) → Option Object → List Object → List Object
with_context c id (Some (Error x)) h = slice_set h id.0 (Error (record x { context = c }))
with_context c id o h = h

abbrev pub context_in : Option Object → Option ObjId
context_in (Some (Error x)) = x.context
context_in o = None

-- a chain of contexts is cut where it would lead back to the exception, among at most so many
abbrev pub cut_at : (further : ObjId → List Object) → (back id : ObjId) → Option ObjId → List Object → List Object
cut_at further back id None h = h
cut_at further back id (Some c) h =
    if c.0 == back.0 then with_context None id (slice_get h id.0) h else further c

unfoldable pub cut_within : List Object → (most : ℕ) → (back id : ObjId) → List Object
cut_within h zero back id = h
cut_within h (suc most) back id = cut_at (cut_within h most back) back id (context_in (slice_get h id.0)) h

abbrev pub cut : (back id : ObjId) → List Object → List Object
cut back id h = cut_within h (length h) back id

abbrev pub in_context : (context id : ObjId) → List Object → List Object
in_context c id h = with_context (Some c) id (slice_get h id.0) h

abbrev pub arise_while : (active : Option ObjId) → (id : ObjId) → List Object → List Object
arise_while (Some c) id h = if c.0 == id.0 then h else in_context c id (cut id c h)
arise_while None id h = h

abbrev pub arises : Value → Here Value → World → World
arises (value.Obj id) h w = with_heap (arise_while (object_place h.active) id w.heap) w
arises v h w = w

-- a traceback stands in its exception, the newest entry last
abbrev pub trace_entry : Entry → TraceEntry
trace_entry e = record {
  frame = record { 0 = e.frame };
  block = record { 0 = e.block.number };
  line = record { 0 = e.line };
}

abbrev pub with_entry : Entry → ObjId → Option Object → List Object → List Object
with_entry e id (Some (Error x)) h =
    slice_set h id.0 (Error (record x { trace = x.trace ++ trace_entry e ∷ [] }))
with_entry e id o h = h

abbrev pub enters : Value → Entry → World → World
enters (value.Obj id) e w = with_heap (with_entry e id (slice_get w.heap id.0) w.heap) w
enters v e w = w
