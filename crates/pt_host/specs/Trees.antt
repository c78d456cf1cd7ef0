-- Answers in the making, over the names and the world of a run.
use Rattle.std.specs.Prelude.{List, [], ◌∷◌}
use Rattle.pt_heap.specs.declared.value.Value.{Value}
use Rattle.pt_heap.specs.declared.object.Object.{Object}
use Rattle.sem_run.specs.run.Host.{Answering, answer, raise, print, leave, request, made, beyond}
use Rattle.pt_host.specs.World.{Names, World, Stores, Allotted, allot, with_objects}

abbrev pub Tree : Type 0 → Type 0
Tree A = Answering Names Value World A

-- an object that was made is the answer, or it is raised
abbrev pub answer_with : Allotted → Stores → Tree Value
answer_with (made v h) st = answer v (with_objects h st)
answer_with (beyond what) st = leave what

-- an answer in the making, and then what is made of the answer
unfoldable pub then_with : {A B : Type 0} → Tree A → (A → Stores → Tree B) → Tree B
then_with (answer a st) f = f a st
then_with (raise v st) f = raise v st
then_with (print t k) f = print t (then_with k f)
then_with (leave what) f = leave what
then_with (request r st k) f = request r st (λ x st1. then_with (k x st1) f)

-- new objects, one behind the other
abbrev pub made_all : List Object → Stores → Tree (List Value)
made_all [] st = answer [] st
made_all (o ∷ os) st =
    then_with (answer_with (allot o st.world.heap) st) (λ v st1. then_with (made_all os st1) (λ vs st2. answer (v ∷ vs) st2))

abbrev pub raise_with : {A : Type 0} → Allotted → Stores → Tree A
raise_with (made v h) st = raise v (with_objects h st)
raise_with (beyond what) st = leave what
