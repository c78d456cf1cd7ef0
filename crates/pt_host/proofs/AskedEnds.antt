-- Where answers in the making end that request nothing, as those of operations on values are.
use Rattle.std.proofs.Common.{List, Option, None, Some}
use Rattle.pt_base.specs.declared.numbers.ObjId.{ObjId}
use Rattle.pt_heap.specs.declared.value.Value.{Value}
use Rattle.pt_heap.specs.declared.value.Value.TheVariants as value
use Rattle.pt_content.specs.declared.op.Op.{Op}
use Rattle.pt_content.specs.declared.answer.PrimAns.{PrimAns}
use Rattle.pt_content.specs.declared.answer.PrimAns.TheVariants as prim
use Rattle.pt_prims.specs.Operations.{prim_answer, prim_heap}
use Rattle.sem_run.specs.run.Host.{Here, answer, raise, print, leave, request, made, beyond}
use Rattle.pt_host.specs.World.{Stores, Allotted, allot, with_objects}
use Rattle.pt_host.specs.Trees.{Tree, raise_with}
use Rattle.pt_host.specs.Errors.{error}
use Rattle.pt_host.specs.Primitives.{Awaited, answer_if, arguments_of, of_prim, prim_asked}

-- nothing is requested, and this holds of the stores at each end
abbrev pub Ends : {A : Type 0} → (Stores → Type 0) → Tree A → Type 0
Ends S (answer a st) = S st
Ends S (raise v st) = S st
Ends S (print t k) = Ends S k
Ends S (leave what) = Unit {0}
Ends S (request r st k) = ⊥

abbrev pub AllotsIn : (Stores → Type 0) → Stores → Allotted → Type 0
AllotsIn S st (made v h) = S (with_objects h st)
AllotsIn S st (beyond what) = Unit {0}

-- it holds wherever an exception was made
abbrev pub RaisesIn : (Stores → Type 0) → Here Value → Stores → Type 0
RaisesIn S h st = (c : ObjId) (args : List Value) → AllotsIn S st (allot (error c args None h.active) st.world.heap)

module _ {A : Type 0} (S : Stores → Type 0) (w : Awaited A) (h : Here Value) where
  given-ends : (o : Option A) (st : Stores) → S st → Ends S (answer_if o st)
  given-ends None st s = tt
  given-ends (Some a) st s = s

  thrown-ends : (a : Allotted) (st : Stores) → AllotsIn S st a → Ends S (raise_with {A = A} a st)
  thrown-ends (made v k) st s = s
  thrown-ends (beyond what) st s = tt

  pub answered-ends : (a : PrimAns) (st : Stores) → S st → RaisesIn S h st → Ends S (of_prim w a h st)
  answered-ends (prim.Value v) st s x = given-ends (w.value v) st s
  answered-ends (prim.Values vs) st s x = given-ends (w.values vs) st s
  answered-ends prim.End st s x = given-ends w.end st s
  answered-ends (prim.Raise class v) st s x =
      thrown-ends (allot (error class (arguments_of v) None h.active) st.world.heap) st (x class (arguments_of v))
  answered-ends (prim.Help helper vs inverted) st s x = tt
  answered-ends (prim.Print t) st s x = given-ends (w.value value.None) st s
  answered-ends (prim.Outside what) st s x = tt

  -- an operation's answer ends where this holds of the heap that it changed
  pub asked-ends : (o : Op) (vs : List Value) (st : Stores) → S (with_objects (prim_heap o vs st.world.heap) st) → RaisesIn S h (with_objects (prim_heap o vs st.world.heap) st)
      → Ends S (prim_asked w o vs h st)
  unfolding prim_asked
  asked-ends o vs st s x = answered-ends (prim_answer o vs st.world.heap) (with_objects (prim_heap o vs st.world.heap) st) s x
