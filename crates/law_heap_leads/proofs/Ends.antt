-- No exception ends an iterator of the host over the heap but one that left a block.
use Rattle.std.proofs.Common.{◌≡◌, ℕ, List, [], ◌∷◌, Bool, true, false, Option, Some, None, refl, sym, subst, if◌then◌else◌}
use Rattle.std.specs.Prelude.{Result, Ok, Err, slice_get}
use Rattle.pt_base.specs.declared.what.What.TheVariants.{Feature}
use Rattle.sem_control.specs.control.Turn as T
use Rattle.sem_control.specs.control.Turn.{Ask, End, gave, left_by}
use Rattle.pt_heap.specs.declared.value.Value.{Value}
use Rattle.pt_heap.specs.declared.object.Function.{Function}
use Rattle.pt_heap.specs.declared.object.Object.{Object}
use Rattle.pt_heap.specs.declared.object.Object.TheVariants as object
use Rattle.pt_bind.specs.Binding.{binding_with}
use Rattle.pt_bind.specs.declared.arguments.Args.{Args}
use Rattle.pt_bind.specs.declared.arguments.BindErr.{BindErr}
use Rattle.pt_bind.specs.declared.arguments.Locals.{Locals}
use Rattle.pt_content.specs.declared.answer.Helper.{Helper as Asked}
use Rattle.pt_content.specs.declared.op.Op.TheVariants as op
use Rattle.pt_content.specs.declared.answer.PrimAns.{PrimAns}
use Rattle.pt_content.specs.declared.answer.PrimAns.TheVariants as prim
use Rattle.pt_prims.specs.Operations.{prim_answer, prim_heap}
use Rattle.sem_run.specs.run.Host as H
use Rattle.sem_run.specs.run.Host.{Here, BlockResult, Finding, an_item, no_item, opens, made, beyond}
use Rattle.law_leads.specs.Leads.{left_with, left_behind, FindsWith, FindsSo, EndsWith, AnswersSo}
use Rattle.pt_host.specs.pt_helper_objects.Objects.{helper_place}
use Rattle.pt_host.specs.pt_helper_objects.pt_prelude.Asked.{function_of}
use Rattle.pt_host.specs.World.{Names, Stores, CodeFacts, Program, Allotted, allot, with_objects}
use Rattle.pt_host.specs.Trees.{Tree, answer_with, made_all, raise_with, then_with}
use Rattle.pt_host.specs.Errors.{error, error_saying}
use Rattle.pt_host.specs.declared.places.TheConstants.{TYPE_ERROR}
use Rattle.pt_host.specs.Texts.{binding_text}
use Rattle.pt_host.specs.Leaving.{is_stop}
use Rattle.pt_host.specs.Primitives.{arguments_of, item_or_end, of_prim}
use Rattle.pt_host.specs.Calls.{Values, ask_with, block_of, call_at, call_block, call_bound, call_function, call_hidden, helper_arguments, misfit, objects_for, result_of, run_given, values_given}
use Rattle.pt_host.specs.Answers.{answers, next_by, next_item, or_end, or_end_behind}
use Rattle.law_heap_leads.specs.Laws.{IteratorsEndByThemselves}

-- all but those for the next item
abbrev IsOther : Ask Value → Type 0
IsOther (T.next_of i) = ⊥
IsOther a = Unit {0}

module _ (stop : Option Value) where
  -- what is found for others tells of no iterator
  finds_with : (a : Ask Value) → IsOther a → (x : Finding Value a) → FindsWith stop a x
  finds_with (T.seek a) other x = tt
  finds_with (T.deed a) other x = tt
  finds_with (T.leave a) other x = tt
  finds_with (T.throw a) other x = tt
  finds_with (T.test a) other x = tt
  finds_with (T.iter_of a) other x = tt
  finds_with (T.next_of i) other x = absurd other
  finds_with (T.enter a) other x = tt
  finds_with (T.unpack a n s) other x = tt
  finds_with (T.delegate i r) other x = tt

others_end : (a : Ask Value) → IsOther a → (stop : Option Value) (t : Tree (Finding Value a))
    → EndsWith a stop t
others_end a other stop (H.answer x st) = finds_with stop a other x
others_end a other stop (H.raise v st) = tt
others_end a other stop (H.print t f) = others_end a other stop f
others_end a other stop (H.leave what) = tt
others_end a other stop (H.request r st f) =
    λ x st1. others_end a other (left_behind r x) (f x st1)

-- a tree that requests nothing
abbrev IsQuiet : {A : Type 0} → Tree A → Type 0
IsQuiet (H.answer x st) = Unit {0}
IsQuiet (H.raise v st) = Unit {0}
IsQuiet (H.print t f) = IsQuiet f
IsQuiet (H.leave what) = Unit {0}
IsQuiet (H.request r st f) = ⊥

-- one that calls a block for its value, if it requests anything
abbrev IsCall : Tree Value → Type 0
IsCall (H.answer x st) = Unit {0}
IsCall (H.raise v st) = Unit {0}
IsCall (H.print t f) = IsCall f
IsCall (H.leave what) = Unit {0}
IsCall (H.request (opens o) st f) =
    (r : BlockResult Names Value) (st1 : Stores) → f r st1 ≡ result_of r.end st1
IsCall (H.request r st f) = ⊥

then_quiet : {A B : Type 0} (t : Tree A) (g : A → Stores → Tree B) → IsQuiet t
    → ((a : A) (st : Stores) → IsQuiet (g a st)) → IsQuiet (then_with t g)
unfolding then_with
then_quiet (H.answer a st) g q k = k a st
then_quiet (H.raise v st) g q k = tt
then_quiet (H.print t f) g q k = then_quiet f g q k
then_quiet (H.leave what) g q k = tt
then_quiet (H.request r st f) g q k = absurd q

then_call : {A : Type 0} (t : Tree A) (g : A → Stores → Tree Value) → IsQuiet t
    → ((a : A) (st : Stores) → IsCall (g a st)) → IsCall (then_with t g)
unfolding then_with
then_call (H.answer a st) g q k = k a st
then_call (H.raise v st) g q k = tt
then_call (H.print t f) g q k = then_call f g q k
then_call (H.leave what) g q k = tt
then_call (H.request r st f) g q k = absurd q

answered_quiet : (a : Allotted) (st : Stores) → IsQuiet (answer_with a st)
answered_quiet (made v h) st = tt
answered_quiet (beyond what) st = tt

made_quiet : (os : List Object) (st : Stores) → IsQuiet (made_all os st)
made_quiet [] st = tt
made_quiet (o ∷ os) st =
    then_quiet (answer_with (allot o st.world.heap) st)
    (λ v st1. then_with (made_all os st1) (λ vs st2. H.answer (v ∷ vs) st2))
    (answered_quiet (allot o st.world.heap) st)
    (λ v st1. then_quiet (made_all os st1) (λ vs st2. H.answer (v ∷ vs) st2) (made_quiet os st1)
    (λ vs st2. tt))

raised_call : (a : Allotted) (st : Stores) → IsCall (raise_with a st)
raised_call (made v h) st = tt
raised_call (beyond what) st = tt

given_call : (facts : CodeFacts) (f : Function) (v : Values) (st : Stores)
    → IsCall (run_given facts f v st)
given_call facts f (made vs k) st = λ r st1. refl
given_call facts f (beyond what) st = tt

misfit_call : (b : Bool) (t : Tree Value) → IsCall t
    → IsCall (if b then H.leave Feature else t)
misfit_call true t c = tt
misfit_call false t c = c

bound_call : (facts : CodeFacts) (f : Function) (r : Result Locals BindErr) (h : Here Value)
    (st : Stores) → IsCall (call_bound facts f r h st)
bound_call facts f (Ok ls) h st =
    given_call facts f (values_given facts.params ls st.world.heap) st
bound_call facts f (Err e) h st =
    misfit_call f.hidden _
    (raised_call (error_saying TYPE_ERROR (binding_text facts.name e) None h.active st.world.heap)
    st)

block_call : (facts : CodeFacts) (f : Function) (r : Result Locals BindErr) (h : Here Value)
    (st : Stores) → IsCall (call_block facts f r h st)
block_call facts f r h st =
    misfit_call facts.yields (call_bound facts f r h st) (bound_call facts f r h st)

module _ (program : Program) where
  hidden_call : (o : Option Object) (args : Args) (h : Here Value) (st : Stores)
      → IsCall (call_hidden program o args h st)
  hidden_call (Some (object.Function f)) args h st =
      block_call (program.facts (block_of f)) f (binding_with (program.facts (block_of f)).params f.defaults args) h st
  hidden_call (Some o) args h st = tt
  hidden_call None args h st = tt

  at_call : (o : Option ℕ) (args : Args) (h : Here Value) (st : Stores)
      → IsCall (call_at program o args h st)
  at_call (Some place) args h st = hidden_call (slice_get st.world.heap place) args h st
  at_call None args h st = tt

  asked_call : (a : Asked) (vs : List Value) (h : Here Value) (st : Stores)
      → IsCall (ask_with program a vs h st)
  asked_call a vs h st =
      then_call (made_all (objects_for a vs) st) _ (made_quiet (objects_for a vs) st)
      (λ ms st1. at_call (helper_place (function_of a)) (helper_arguments a vs ms) h st1)

module _ (i : Value) where
  abbrev item : Value → Stores → Tree (Finding Value (T.next_of i))
  item v st = H.answer (an_item v) st

  ended_so : (v : Value) (st : Stores) (b : Bool)
      → EndsWith (T.next_of i) (Some v) (if b then H.answer (no_item (Some v)) st else H.raise v st)
  ended_so v st true = refl
  ended_so v st false = tt

  -- only a StopIteration that left the block is the end
  by_end : (e : End Value) (st : Stores)
      → EndsWith (T.next_of i) (left_with e) (or_end (then_with (result_of e st) item))
  unfolding then_with or_end
  by_end (gave v) st = tt
  by_end (left_by v) st = ended_so v st (is_stop v st.world)

module _ (ends : Option Value → Bool) where
  others : (a : Ask Value) → IsOther a → (x : Finding Value a) → FindsSo ends a x
  others (T.seek a) other x = tt
  others (T.deed a) other x = tt
  others (T.leave a) other x = tt
  others (T.throw a) other x = tt
  others (T.test a) other x = tt
  others (T.iter_of a) other x = tt
  others (T.next_of i) other x = absurd other
  others (T.enter a) other x = tt
  others (T.unpack a n s) other x = tt
  others (T.delegate i r) other x = tt

  others_answer : (a : Ask Value) → IsOther a → (t : Tree (Finding Value a)) → AnswersSo ends a t
  others_answer a other (H.answer x st) = others a other x
  others_answer a other (H.raise v st) = tt
  others_answer a other (H.print t f) = others_answer a other f
  others_answer a other (H.leave what) = tt
  others_answer a other (H.request r st f) = λ x st1. others_end a other (left_behind r x) (f x st1)

  module _ (by_itself : ends None ≡ true) (i : Value) where
    raised_with : (a : Allotted) (st : Stores)
        → AnswersSo ends (T.next_of i) (raise_with a st)
    raised_with (made v k) st = tt
    raised_with (beyond what) st = tt

    answered : (a : PrimAns) (h : Here Value) (st : Stores)
        → AnswersSo ends (T.next_of i) (of_prim item_or_end a h st)
    answered (prim.Value v) h st = tt
    answered (prim.Values vs) h st = tt
    answered prim.End h st = by_itself
    answered (prim.Raise class v) h st =
        raised_with (allot (error class (arguments_of v) None h.active) st.world.heap) st
    answered (prim.Help helper vs inverted) h st = tt
    answered (prim.Print t) h st = tt
    answered (prim.Outside what) h st = tt

    -- a block that is asked for it is called first
    asked : (t : Tree Value) → IsCall t
        → AnswersSo ends (T.next_of i) (or_end_behind (then_with t (item i)))
    unfolding then_with
    asked (H.answer v st) c = tt
    asked (H.raise v st) c = tt
    asked (H.print t f) c = asked f c
    asked (H.leave what) c = tt
    asked (H.request (opens o) st f) c = λ r st1.
        subst (λ t. EndsWith (T.next_of i) (left_with r.end) (or_end (then_with t (item i)))) (sym (c r st1))
        (by_end i r.end st1)
    asked (H.request r st f) c = absurd c

    items : (program : Program) (a : PrimAns) (h : Here Value) (st : Stores)
        → AnswersSo ends (T.next_of i) (next_by program a h st)
    items program (prim.Value v) h st = answered (prim.Value v) h st
    items program (prim.Values vs) h st = answered (prim.Values vs) h st
    items program prim.End h st = answered prim.End h st
    items program (prim.Raise class v) h st = answered (prim.Raise class v) h st
    items program (prim.Help helper vs inverted) h st =
        asked (ask_with program helper vs h st) (asked_call program helper vs h st)
    items program (prim.Print t) h st = answered (prim.Print t) h st
    items program (prim.Outside what) h st = answered (prim.Outside what) h st

pub iterators_end_by_themselves : IteratorsEndByThemselves
iterators_end_by_themselves ends by_itself program (T.next_of i) h st =
    items ends by_itself i program (prim_answer op.Next (i ∷ []) st.world.heap) h
    (with_objects (prim_heap op.Next (i ∷ []) st.world.heap) st)
iterators_end_by_themselves ends by_itself program (T.seek a) h st = others_answer ends (T.seek a) tt (answers program (T.seek a) h st)
iterators_end_by_themselves ends by_itself program (T.deed a) h st = others_answer ends (T.deed a) tt (answers program (T.deed a) h st)
iterators_end_by_themselves ends by_itself program (T.leave a) h st = others_answer ends (T.leave a) tt (answers program (T.leave a) h st)
iterators_end_by_themselves ends by_itself program (T.throw a) h st = others_answer ends (T.throw a) tt (answers program (T.throw a) h st)
iterators_end_by_themselves ends by_itself program (T.test a) h st = others_answer ends (T.test a) tt (answers program (T.test a) h st)
iterators_end_by_themselves ends by_itself program (T.iter_of a) h st = others_answer ends (T.iter_of a) tt (answers program (T.iter_of a) h st)
iterators_end_by_themselves ends by_itself program (T.enter a) h st = others_answer ends (T.enter a) tt (answers program (T.enter a) h st)
iterators_end_by_themselves ends by_itself program (T.unpack a n s) h st = others_answer ends (T.unpack a n s) tt (answers program (T.unpack a n s) h st)
iterators_end_by_themselves ends by_itself program (T.delegate i r) h st = others_answer ends (T.delegate i r) tt (answers program (T.delegate i r) h st)
