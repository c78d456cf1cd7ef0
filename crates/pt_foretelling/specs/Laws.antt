-- What the law says of what is told before acts: a run tells it of the turn of an instruction.
use Rattle.std.specs.Prelude.{◌≡◌, ℕ, List, [], ◌∷◌, map, Option, Some, None}
use Rattle.std.specs.Option.{option_map}
use Rattle.pt_base.specs.declared.numbers.ActNo.{ActNo}
use Rattle.pt_heap.specs.declared.value.Value.{Value}
use Rattle.pt_instr.specs.declared.Instr.{Instr}
use Rattle.pt_instr.specs.declared.Instr.TheVariants as instr
use Rattle.pt_frames.specs.declared.slot.Slot.{Slot}
use Rattle.pt_code.specs.View.{Ins}
use Rattle.pt_tree.specs.Syntax.{Name}
use Rattle.sem_control.specs.control.Turn as T
use Rattle.sem_control.specs.control.Turn.{Ask, Answer, Reply, got, Operation, Turn}
use Rattle.sem_control.specs.control.Events.{before as told_before}
use Rattle.sem_code.specs.slots.Slots.{jump_to, State}
use Rattle.sem_code.specs.slots.CodeObject.{CodeObject}
use Rattle.sem_code.specs.slots.Landing.{land}
use Rattle.sem_code.specs.slots.Instructions.{perform}
use Rattle.sem_run.specs.run.Step.{happening, callee_of}
use Rattle.pt_happenings.specs.declared.happening.Happening.{Happening}
use Rattle.pt_happenings.specs.Views.{happening_view}
use Rattle.pt_pendings.specs.Views.{callee_view}
use Rattle.pt_host.specs.World.{World, Program}
use Rattle.pt_host.specs.HeapHost.{heap_host}
use Rattle.sem_rows.specs.heap_rows.Views.{slots_view}
use Rattle.pt_foretelling.specs.declared.acts.Foretold.{Foretold}
use Rattle.pt_foretelling.specs.Foretelling.{foretold}

abbrev pub listed : Option Happening → List Happening
listed (Some h) = h ∷ []
listed None = []

-- where a `break` or `continue` leads, by what is told of a state
abbrev pub led_to : (State Value → ℕ) → (a : Ask Value) → (Reply Value (Answer Value a) → State Value)
    → ℕ
led_to leads (T.leave T.jumping) next = leads (next (got tt))
led_to leads a next = 0

-- what a run tells before an act, and of a call
abbrev pub TellsBefore : Program → World → (leads : State Value → ℕ) → Foretold
    → Turn (State Value) Value → Type 0
TellsBefore program w leads f (T.act mark a next) =
    (map happening_view (listed f.before)
    ≡ map (happening (led_to leads a next) (heap_host program).null
    (callee_of (heap_host program) a w)) (told_before a))
    × (callee_of (heap_host program) a w ≡ option_map callee_view f.callee)
TellsBefore program w leads f t = Unit {0}

-- no call
abbrev pub IsNoCall : Operation → Type 0
IsNoCall (T.call rs) = ⊥
IsNoCall o = Unit {0}

-- no operation that no tree asks for is one
pub record HasNoCalls (code : CodeObject Value) : Type 0 where
  pub tuple_join : IsNoCall code.extras.tuple_join
  pub dict_merge : IsNoCall code.extras.dict_merge
  pub super : IsNoCall code.extras.super

-- the texts of a call are those of its list
abbrev pub HasTexts : CodeObject Value → Instr → List Name → Type 0
HasTexts code (instr.CallKw n l) xs = xs ≡ code.pool.texts l.0
HasTexts code (instr.CallSpread n l) xs = xs ≡ code.pool.texts l.0
HasTexts code j xs = Unit {0}

-- this act comes next where a `break` or `continue` leads
abbrev pub LeadsTo : CodeObject Value → Ins → Instr → List Slot → (leads : State Value → ℕ)
    → ActNo → Type 0
LeadsTo code i (instr.Leave t) slots leads d =
    leads (land code i.rows (jump_to t.0) (slots_view slots)) ≡ d.0
LeadsTo code i j slots leads d = Unit {0}

abbrev pub AreForetold : Program → Type 0
AreForetold program =
    (code : CodeObject Value) → HasNoCalls code → (pc : ℕ) (i : Ins) (slots : List Slot)
    (xs : List Name) → HasTexts code i.instr xs → (leads : State Value → ℕ) (d : ActNo)
    → LeadsTo code i i.instr slots leads d → (w : World)
    → TellsBefore program w leads (foretold w.heap i.instr xs slots d)
    (perform code pc i i.instr (slots_view slots))
