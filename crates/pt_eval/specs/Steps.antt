-- The steps of an evaluation, which follow one another as long as each gives something.
use Rattle.std.specs.Prelude.{◌≡◌, List, Result, Ok, Err}
use Rattle.pt_base.specs.declared.failure.Failure.{Failure}
use Rattle.pt_base.specs.declared.failure.Failure.TheVariants.{Refused, Memory}
use Rattle.pt_heap.specs.declared.object.Object.{Object}
use Rattle.pt_eval.specs.declared.no_value.NoValue.{NoValue}

-- what a step gives, and the objects behind it, or why it gives nothing
abbrev pub Came : Type 0 → Type 0
Came A = Result (A × List Object) NoValue

abbrev pub gives : {A : Type 0} → A → List Object → Came A
gives v h = Ok (v, h)

abbrev pub and_then : {A B : Type 0} → Came A → (A → List Object → Came B) → Came B
and_then (Ok (v, h)) next = next v h
and_then (Err e) next = Err e

-- a call came to that, unless memory ran out
abbrev pub Comes : {A : Type 0} → Came A → Result A (Failure NoValue) → (behind : List Object) → Type 0
Comes c (Ok v) h = c ≡ Ok (v, h)
Comes c (Err (Refused e)) h = c ≡ Err e
Comes c (Err Memory) h = Unit {0}
