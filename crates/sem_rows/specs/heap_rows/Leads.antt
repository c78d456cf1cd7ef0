-- Where an instruction leads by the host's answer to what it asks.
use Rattle.std.specs.Prelude.{◌≡◌, ◌∷◌, List, Bool, Option, Some, None}
use Rattle.pt_base.specs.declared.what.What.TheVariants.{Feature}
use Rattle.sem_control.specs.control.Turn as T
use Rattle.sem_control.specs.control.Turn.{Ask, Answer, Operation}
use Rattle.pt_heap.specs.declared.value.Value.{Value}
use Rattle.pt_heap.specs.declared.value.Value.TheVariants as value
use Rattle.pt_code.specs.View.{Ins}
use Rattle.sem_code.specs.slots.Slots as S
use Rattle.sem_code.specs.slots.Slots.{Slots, State, on}
use Rattle.sem_code.specs.slots.CodeObject.{CodeObject}
use Rattle.sem_code.specs.slots.Landing.{land}
use Rattle.sem_run.specs.run.Host as H
use Rattle.sem_run.specs.run.Host.{Here, Finding}
use Rattle.pt_host.specs.World.{Names, World, Stores, Program}
use Rattle.pt_host.specs.Trees.{Tree}
use Rattle.pt_host.specs.Answers.{operate}
use Rattle.sem_run.specs.transitions.Successors.{Successor, to, arises, behind_yield, behind_print, behind_request, outside, none}

abbrev pub HeapSuccessor : Type 0
HeapSuccessor = Successor (State Value) Names Value World

-- what a host found is the answer; an item is there, or there is none
abbrev pub found : (a : Ask Value) → (Answer Value a → State Value) → Finding Value a → State Value
found (T.next_of i) next (H.an_item v) = next (Some v)
found (T.next_of i) next (H.no_item e) = next None
found (T.delegate i r) next (H.passes_on v) = next (T.resumed (T.got v))
found (T.delegate i r) next (H.ends_with v) = next (T.returned v)
found (T.seek a) next v = next v
found (T.deed a) next v = next v
found (T.leave a) next v = next v
found (T.throw a) next v = next v
found (T.test a) next v = next v
found (T.iter_of a) next v = next v
found (T.enter a) next v = next v
found (T.unpack a n s) next v = next v

-- all but those that give a value on (6.2.9)
abbrev pub IsAnswered : Ask Value → Type 0
IsAnswered (T.seek (T.yielding v)) = ⊥
IsAnswered (T.delegate i r) = ⊥
IsAnswered a = Unit {0}

module _ (code : CodeObject Value) (i : Ins) where
  -- to where the reply does; a raise lands by the rows that cover the place, with the slots below what was taken
  abbrev pub by_tree : {A : Type 0} → (A → State Value) → Slots Value → Tree A → HeapSuccessor
  by_tree next ss (H.answer x st) = to (next x) st
  by_tree next ss (H.raise v st) = arises v (land code i.rows (S.raise v) ss) st
  by_tree next ss (H.print t f) = behind_print t (by_tree next ss f)
  by_tree next ss (H.leave what) = outside what
  by_tree next ss (H.request r st k) = behind_request r st (λ x st1. by_tree next ss (k x st1))

  -- a value is given above them
  abbrev pub giving : Slots Value → Value → State Value
  giving ss v = on i.next (S.value v ∷ ss)

  -- nothing is given
  abbrev pub behind : Slots Value → Unit {0} → State Value
  behind ss u = on i.next ss

-- the code of a run over the heap knows its None, True and False
abbrev pub known_truth : Value → Option Bool
known_truth (value.Bool b) = Some b
known_truth v = None

pub record HasHeapTruths (code : CodeObject Value) : Type 0 where
  pub null : code.null ≡ value.None
  pub truth : (b : Bool) → code.truth b ≡ value.Bool b
  pub is_truth : (v : Value) → code.is_truth v ≡ known_truth v

-- its operations that no tree asks for aren't supported yet
abbrev pub LeavesFeature : Operation → Type 0
LeavesFeature o = (program : Program) (vs : List Value) (h : Here Value) (st : Stores) → operate program o vs h st ≡ H.leave Feature

pub record HasHeapExtras (code : CodeObject Value) : Type 0 where
  pub tuple_join : LeavesFeature code.extras.tuple_join
  pub dict_merge : LeavesFeature code.extras.dict_merge
  pub super : LeavesFeature code.extras.super

-- a bare run is stuck where slots lack what is taken, and where a value is given on (6.2.9)
abbrev pub IsStuck : HeapSuccessor → Type 0
IsStuck none = Unit {0}
IsStuck (behind_yield v k st) = Unit {0}
IsStuck s = ⊥
