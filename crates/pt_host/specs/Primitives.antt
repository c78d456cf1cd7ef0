-- What the host answers by an operation on values. Each operation changes the heap first; what it answers is a value, several values, or that an
-- iterator has no further item, of which an ask awaits one.
use Rattle.std.specs.Prelude.{ℕ, zero, suc, List, [], ◌∷◌, Bool, Option, Some, None, option_map}
use Rattle.pt_base.specs.declared.what.What.TheVariants.{Feature, Helper}
use Rattle.sem_control.specs.control.Turn.{Row}
use Rattle.pt_heap.specs.declared.value.Value.{Value}
use Rattle.pt_heap.specs.declared.value.Value.TheVariants as value
use Rattle.pt_content.specs.declared.op.Op.{Op}
use Rattle.pt_content.specs.declared.answer.PrimAns.{PrimAns}
use Rattle.pt_content.specs.declared.answer.PrimAns.TheVariants as prim
use Rattle.pt_prims.specs.Operations.{prim_answer, prim_heap}
use Rattle.sem_run.specs.run.Host.{Here, Item, an_item, no_item, answer, print, leave}
use Rattle.pt_host.specs.World.{Stores, with_objects}
use Rattle.pt_host.specs.Trees.{Tree}
use Rattle.pt_host.specs.Errors.{raise_error}

-- what an ask makes of each kind of answer; nothing of those that it doesn't await
pub record Awaited (A : Type 0) : Type 0 where
  pub value : Value → Option A
  pub values : List Value → Option A
  pub end : Option A

-- what isn't awaited isn't there yet
abbrev pub answer_if : {A : Type 0} → Option A → Stores → Tree A
answer_if (Some a) st = answer a st
answer_if None st = leave Feature

abbrev pub arguments_of : Option Value → List Value
arguments_of (Some v) = v ∷ []
arguments_of None = []

-- a function of the prelude is asked where it may be (`operated` of Calls)
abbrev pub of_prim : {A : Type 0} → Awaited A → PrimAns → Here Value → Stores → Tree A
of_prim w (prim.Value v) h st = answer_if (w.value v) st
of_prim w (prim.Values vs) h st = answer_if (w.values vs) st
of_prim w prim.End h st = answer_if w.end st
of_prim w (prim.Raise class v) h st = raise_error class (arguments_of v) h st
of_prim w (prim.Help helper vs inverted) h st = leave Helper
of_prim w (prim.Print t) h st = print t (answer_if (w.value value.None) st)
of_prim w (prim.Outside what) h st = leave what

-- an operation that asks none
unfoldable pub prim_asked : {A : Type 0} → Awaited A → Op → List Value → Here Value → Stores → Tree A
prim_asked w op vs h st =
    of_prim w (prim_answer op vs st.world.heap) h
    (with_objects (prim_heap op vs st.world.heap) st)

abbrev pub one_value : Awaited Value
one_value = record { value = λ v. Some v; values = λ vs. None; end = None }

abbrev pub by_prim : Op → List Value → Here Value → Stores → Tree Value
by_prim op vs h st = prim_asked one_value op vs h st

-- that something is done, whatever its value
abbrev pub done : Awaited (Unit {0})
done = record { value = λ v. Some tt; values = λ vs. None; end = None }

abbrev pub truth_in : Value → Option Bool
truth_in (value.Bool b) = Some b
truth_in v = None

abbrev pub a_truth : Awaited Bool
a_truth = record { value = truth_in; values = λ vs. None; end = None }

-- so many values, if they are as many
abbrev pub row_from : (n : ℕ) → List Value → Option (Row Value n)
row_from zero [] = Some tt
row_from (suc n) (v ∷ vs) = option_map (λ r. (v, r)) (row_from n vs)
row_from n vs = None

abbrev pub so_many : (n : ℕ) → Awaited (Row Value n)
so_many n = record { value = λ v. None; values = row_from n; end = None }

-- the next item of an iterator, or that there is none
abbrev pub item_or_end : Awaited (Item Value)
item_or_end = record { value = λ v. Some (an_item v); values = λ vs. None; end = Some (no_item None) }
