-- When code does with calls what rows say (Language Reference 6.3.4).
use Rattle.std.specs.Prelude.{◌≡◌, ℕ, zero, suc, List, Bool, true, false, Option, Some, None, slice_get, codes, if◌then◌else◌}
use Rattle.pt_base.specs.declared.numbers.ObjId.{ObjId}
use Rattle.pt_tree.specs.Syntax.{Name}
use Rattle.pt_instr.specs.declared.Instr.{Instr}
use Rattle.pt_heap.specs.declared.value.Value.{Value}
use Rattle.pt_heap.specs.declared.value.Value.TheVariants as value
use Rattle.pt_heap.specs.declared.object.Object.{Object}
use Rattle.pt_heap.specs.declared.object.Object.TheVariants as object
use Rattle.pt_heap.specs.declared.object.Class.{Class}
use Rattle.pt_content.specs.pt_attrs.pt_dicts.Chain.{class_in}
use Rattle.pt_content.specs.pt_attrs.declared.look.Found.{Found}
use Rattle.pt_content.specs.pt_attrs.declared.look.Found.TheVariants as found
use Rattle.pt_bind.specs.declared.arguments.Args.{Args}
use Rattle.pt_frames.specs.declared.slot.Slot.{Slot}
use Rattle.pt_content.specs.Classes.{class_name}
use Rattle.pt_content.specs.Functions.{of_class, of_function}
use Rattle.pt_content.specs.declared.op.Op.TheVariants as op
use Rattle.pt_block_calls.specs.pt_operators.pt_prims.Classes.{derives}
use Rattle.pt_block_calls.specs.pt_operators.pt_prims.pt_special_methods.Instances.{method_of as special_method}
use Rattle.pt_content.specs.declared.method_name.MethodName.{MethodName}
use Rattle.pt_content.specs.declared.method_name.MethodName.TheVariants as method
use Rattle.pt_block_calls.specs.pt_operators.pt_moves.sem_rows.pt_host.pt_methods.Names.{of_method_number}
use Rattle.pt_content.specs.declared.function.Function.{Function as Builtin}
use Rattle.pt_content.specs.declared.function.Function.TheVariants as builtin
use Rattle.sem_run.specs.run.Host.{Here}
use Rattle.pt_block_calls.specs.pt_operators.pt_moves.sem_rows.pt_host.declared.places.TheConstants.{BASE_EXCEPTION, RECURSION_ERROR, TYPE_ERROR}
use Rattle.pt_block_calls.specs.pt_operators.pt_moves.sem_rows.pt_host.World.{Stores, Program}
use Rattle.pt_block_calls.specs.pt_operators.pt_moves.sem_rows.pt_host.Texts.{not_callable_text}
use Rattle.pt_block_calls.specs.pt_operators.pt_moves.sem_rows.pt_host.Calls.{call_builtin, call_class, call_method, call_other_class, call_value, called_within, helper_of_class, make_exception, make_instance, operands_of, operate_or_ask, unnamed_operands}
use Rattle.pt_block_calls.specs.pt_operators.pt_moves.sem_rows.declared.heap_rows.progress.Progress.{Progress}
use Rattle.pt_block_calls.specs.pt_operators.pt_moves.sem_rows.declared.heap_rows.progress.Progress.TheVariants as progress
use Rattle.pt_block_calls.specs.pt_operators.pt_moves.sem_rows.heap_rows.RowsIn.{RowsIn}
use Rattle.pt_block_calls.specs.pt_function_rows.pt_code_facts.declared.facts.Blocks.{Blocks}
use Rattle.pt_block_calls.specs.pt_function_rows.pt_code_facts.Facts.{KnowsBlocks}
use Rattle.pt_block_calls.specs.pt_class_rows.Calls.{Calls, Makes, Running, Runs, with_parts}

-- what a value is where it is called

-- what a builtin function does, if that is an operation on values
abbrev pub function_by : (number : ℕ) → (receiver : Option Value) → Option (Option Builtin)
function_by n None = Some (of_function n)
function_by n (Some r) = None

abbrev pub builtin_in : Option Object → Option (Option Builtin)
builtin_in (Some (object.Builtin b)) = function_by b.number b.receiver
builtin_in o = None

abbrev pub builtin_of : List Object → Value → Option (Option Builtin)
builtin_of heap (value.Obj id) = builtin_in (slice_get heap id.0)
builtin_of heap v = None

-- a method of a builtin value, with the value
abbrev pub method_by : (number : ℕ) → (receiver : Option Value) → Option (Option MethodName × Value)
method_by n None = None
method_by n (Some r) = Some (of_method_number n, r)

abbrev pub method_in : Option Object → Option (Option MethodName × Value)
method_in (Some (object.Builtin b)) = method_by b.number b.receiver
method_in o = None

abbrev pub method_of : List Object → Value → Option (Option MethodName × Value)
method_of heap (value.Obj id) = method_in (slice_get heap id.0)
method_of heap v = None

-- the class that a value is
abbrev pub class_in_place : ObjId → Option Object → Option ObjId
class_in_place id (Some (object.Class c)) = Some id
class_in_place id o = None

abbrev pub class_id_of : List Object → Value → Option ObjId
class_id_of heap (value.Obj id) = class_in_place id (slice_get heap id.0)
class_id_of heap v = None

-- a class of exceptions by its place
abbrev pub exception_at : List Object → ObjId → Option ObjId
exception_at heap id = if derives heap BASE_EXCEPTION id then Some id else None

-- `print` and `sort`, which take arguments by names, and `setattr`, which is no operation on values
abbrev pub is_print : Builtin → Bool
is_print builtin.Print = true
is_print f = false

abbrev pub is_setattr : Builtin → Bool
is_setattr builtin.Setattr = true
is_setattr f = false

abbrev pub is_sort : MethodName → Bool
is_sort method.Sort = true
is_sort m = false

-- what is raised

abbrev pub not_callable : List Object → Value → Progress
not_callable heap v = progress.FailsSaying TYPE_ERROR (not_callable_text (class_name heap v))

abbrev pub too_deep : Progress
too_deep = progress.FailsSaying RECURSION_ERROR (codes "too many activations")

-- an instance is called by its `__call__`; another value than a function of a script is called in its place, so many at most
abbrev pub special_of : List Object → Value → Option Found
special_of heap v = special_method heap v (codes "__call__")

abbrev pub plain_in : Option Found → Option Value
plain_in (Some (found.Plain w)) = Some w
plain_in o = None

abbrev pub next_callee : List Object → Value → Option Value
next_callee heap v = plain_in (special_of heap v)

abbrev pub last_by : Value → (Value → Option Value) → Option Value → Option Value
last_by v last (Some w) = last w
last_by v last None = Some v

unfoldable pub last_callee : (left : ℕ) → List Object → Value → Option Value
last_callee zero heap v = None
last_callee (suc n) heap v = last_by v (last_callee n heap) (next_callee heap v)

-- of a builtin by its operands, of a builtin function, of a method, of a value
unfoldable pub CallsOperation : Builtin → Args → Blocks → (old : List Slot) (cells : List (Option Value)) (heap : List Object)
    → Progress → (new : List Slot) (changed : List (Option Value)) (grown : List Object) → Type 0
CallsOperation f args blocks old cells heap p new changed grown =
    Calls (λ program h st. KnowsBlocks program blocks) (λ program h st. operate_or_ask program (op.Call f) (operands_of f args) h st) old cells heap p new changed grown

unfoldable pub CallsBuiltin : Option Builtin → Args → Blocks → (old : List Slot) (cells : List (Option Value)) (heap : List Object)
    → Progress → (new : List Slot) (changed : List (Option Value)) (grown : List Object) → Type 0
CallsBuiltin f args blocks old cells heap p new changed grown =
    Calls (λ program h st. KnowsBlocks program blocks) (λ program h st. call_builtin program f args h st) old cells heap p new changed grown

unfoldable pub CallsMethod : Blocks → Option MethodName → (receiver : Value) → Args → (old : List Slot) (cells : List (Option Value)) (heap : List Object)
    → Progress → (new : List Slot) (changed : List (Option Value)) (grown : List Object) → Type 0
CallsMethod blocks m r args old cells heap p new changed grown =
    Calls (λ program h st. KnowsBlocks program blocks) (λ program h st. call_method program m r args h st) old cells heap p new changed grown

unfoldable pub MakesException : Option ObjId → Args → (old : List Slot) (heap : List Object) → Progress → (new : List Slot) (grown : List Object) → Type 0
MakesException class args old heap p new grown = Makes (λ h st. make_exception class (unnamed_operands args.named args.plain) st) old heap p new grown

-- the blocks of the program, and the one that runs
abbrev pub KnowsRunning : Blocks → Running → Program → Here Value → Stores → Type 0
KnowsRunning blocks r program h st = KnowsBlocks program blocks × Runs r program h st

-- of a class of a script
unfoldable pub CallsScripted : Blocks → ObjId → Args → (old : List Slot) (cells : List (Option Value)) (heap : List Object)
    → Progress → (new : List Slot) (changed : List (Option Value)) (grown : List Object) → Type 0
CallsScripted blocks id args old cells heap p new changed grown =
    (c : Class) → class_in (slice_get heap id.0) ≡ Some c
    → Calls (λ program h st. KnowsBlocks program blocks) (λ program h st. make_instance program id c args h st) old cells heap p new changed grown

-- of a class that is none of those which an operation makes instances of, and of any
unfoldable pub CallsOtherClass : Blocks → ObjId → Args → (old : List Slot) (cells : List (Option Value)) (heap : List Object)
    → Progress → (new : List Slot) (changed : List (Option Value)) (grown : List Object) → Type 0
CallsOtherClass blocks id args old cells heap p new changed grown =
    (c : Class) → class_in (slice_get heap id.0) ≡ Some c
    → Calls (λ program h st. KnowsBlocks program blocks)
    (λ program h st. call_other_class program (helper_of_class (value.Obj id)) c (value.Obj id) args h st) old cells heap p new changed grown

unfoldable pub CallsAnyClass : Blocks → Running → ObjId → Args → (old : List Slot) (cells : List (Option Value)) (heap : List Object)
    → Progress → (new : List Slot) (changed : List (Option Value)) (grown : List Object) → Type 0
CallsAnyClass blocks r id args old cells heap p new changed grown =
    (c : Class) → class_in (slice_get heap id.0) ≡ Some c
    → Calls (λ program h st. KnowsRunning blocks r program h st)
    (λ program h st. call_class program (of_class id) c (value.Obj id) args h st) old cells heap p new changed grown

-- of a value for which no other one is called
unfoldable pub CallsOnce : Blocks → Running → Value → Args → (old : List Slot) (cells : List (Option Value)) (heap : List Object)
    → Progress → (new : List Slot) (changed : List (Option Value)) (grown : List Object) → Type 0
CallsOnce blocks r v args old cells heap p new changed grown =
    next_callee heap v ≡ None
    → Calls (λ program h st. KnowsRunning blocks r program h st) (λ program h st. called_within program 1 v args h st) old cells heap p new changed grown

unfoldable pub CallsValue : Blocks → Running → Value → Args → (old : List Slot) (cells : List (Option Value)) (heap : List Object)
    → Progress → (new : List Slot) (changed : List (Option Value)) (grown : List Object) → Type 0
CallsValue blocks r v args old cells heap p new changed grown =
    Calls (λ program h st. KnowsRunning blocks r program h st) (λ program h st. call_value program v args h st) old cells heap p new changed grown

-- what code did with the slots, the cells and the heap is the row of a call in the block that runs
unfoldable pub RowsCall : Blocks → Running → Instr → (old : List Slot) (cells : List (Option Value)) (heap : List Object)
    → Progress → (new : List Slot) (changed : List (Option Value)) (grown : List Object) → Type 0
RowsCall blocks r j old cells heap p new changed grown =
    (st : Stores) → RowsIn (λ s. KnowsRunning blocks r s.program s.here st) j old (with_parts cells heap st) p new (with_parts changed grown st)

-- the same where an operand names the names of arguments
unfoldable pub RowsNamedCall : List Name → (list : ℕ) → Blocks → Running → Instr → (old : List Slot) (cells : List (Option Value)) (heap : List Object)
    → Progress → (new : List Slot) (changed : List (Option Value)) (grown : List Object) → Type 0
RowsNamedCall xs l blocks r j old cells heap p new changed grown =
    (st : Stores) → RowsIn (λ s. KnowsRunning blocks r s.program s.here st × (s.code.pool.texts l ≡ xs)) j old (with_parts cells heap st) p new (with_parts changed grown st)
