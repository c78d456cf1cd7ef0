-- What is known of an ask by its instruction and the slots before and behind its row: what is called,
-- and what is decided (Library Reference, "dis"; Language Reference 6.3.4, 8.1 to 8.4).
use Rattle.std.specs.Prelude.{◌≡◌, List, ◌∷◌, Bool, true, false, Option, Some, None, slice_get}
use Rattle.std.specs.Option.{option_map}
use Rattle.pt_base.specs.declared.numbers.ActNo.{ActNo}
use Rattle.pt_heap.specs.declared.value.Value.{Value}
use Rattle.pt_heap.specs.declared.value.Value.TheVariants as value
use Rattle.pt_instr.specs.declared.Instr.{Instr}
use Rattle.pt_instr.specs.declared.Instr.TheVariants as instr
use Rattle.pt_frames.specs.declared.slot.Slot.{Slot}
use Rattle.pt_frames.specs.declared.slot.Slot.TheVariants as slot
use Rattle.sem_control.specs.control.Turn as T
use Rattle.sem_control.specs.control.Turn.{Ask, Operation}
use Rattle.sem_code.specs.slots.CodeObject.{CodeObject}
use Rattle.pt_pendings.specs.declared.reply.Callee.{Callee}
use Rattle.law_doing.specs.pt_answering.pt_opening.pt_purposes.declared.purpose.Called.{Called}
use Rattle.law_doing.specs.pt_answering.pt_replying.declared.replying.Decided.{Decided}
use Rattle.law_doing.specs.pt_answering.pt_replying.declared.replying.Decided.TheVariants.{Nothing, Branches, Handles}

-- a call is known with what is called, and nothing else is one
abbrev pub CalledSo : Ask Value → Option Callee → Option Called → Type 0
CalledSo (T.seek (T.operate (T.call rs) (f ∷ vs))) callee called =
    called ≡ option_map (λ c. record { function = f; told = c }) callee
CalledSo a callee called = called ≡ None

-- operations that no tree asks for call nothing
abbrev pub CallsNothing : Operation → Type 0
CallsNothing o =
    (callee : Option Callee) (vs : List Value) → CalledSo (T.seek (T.operate o vs)) callee None

pub record HasSilentExtras (code : CodeObject Value) : Type 0 where
  pub tuple_join : CallsNothing code.extras.tuple_join
  pub dict_merge : CallsNothing code.extras.dict_merge
  pub super : CallsNothing code.extras.super

abbrev pub value_at : Option Slot → Option Value
value_at (Some (slot.Value v)) = Some v
value_at o = None

-- what is called lies below its arguments
abbrev pub what_is_called : Instr → List Slot → Option Value
what_is_called (instr.Call n) slots = value_at (slice_get slots n)
what_is_called (instr.CallKw n l) slots = value_at (slice_get slots n)
what_is_called (instr.CallSpread n l) slots = value_at (slice_get slots n)
what_is_called j slots = None

abbrev pub call_of : (function : Option Value) → Option Callee → Option Called
call_of (Some f) callee = option_map (λ c. record { function = f; told = c }) callee
call_of None callee = None

abbrev pub known_call : Instr → List Slot → Option Callee → Option Called
known_call j slots callee = call_of (what_is_called j slots) callee

-- an exception is tested that lies below a class; a handler takes it, if that is true then
abbrev pub tested : (top under : Option Slot) → Option Value
tested (Some (slot.Value c)) (Some (slot.Exc e)) = Some e
tested top under = None

abbrev pub tested_in : (before : List Slot) → Option Value
tested_in before = tested (slice_get before 0) (slice_get before 1)

abbrev pub handled_by : (tested : Option Value) → (top : Option Slot) → Decided
handled_by (Some e) (Some (slot.Value (value.Bool true))) = Handles e
handled_by o top = Nothing

abbrev pub is_decision : Instr → Bool
is_decision (instr.JumpIf t) = true
is_decision (instr.JumpUnless t) = true
is_decision (instr.JumpIfKeep t) = true
is_decision (instr.JumpUnlessKeep t) = true
is_decision (instr.Next t) = true
is_decision j = false

-- behind a decision this act comes next
abbrev pub decision_of : Instr → (tested : Option Value) → (behind : List Slot)
    → (destination : ActNo) → Decided
decision_of (instr.JumpIf t) e behind k = Branches k
decision_of (instr.JumpUnless t) e behind k = Branches k
decision_of (instr.JumpIfKeep t) e behind k = Branches k
decision_of (instr.JumpUnlessKeep t) e behind k = Branches k
decision_of (instr.Next t) e behind k = Branches k
decision_of instr.Match e behind k = handled_by e (slice_get behind 0)
decision_of j e behind k = Nothing

abbrev pub known_decision : Instr → (before behind : List Slot) → (destination : ActNo) → Decided
known_decision j before behind k = decision_of j (tested_in before) behind k
