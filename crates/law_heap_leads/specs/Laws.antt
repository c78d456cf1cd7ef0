-- What the law says of the answers of the host over the heap.
use Rattle.std.specs.Prelude.{◌≡◌, Bool, true, Option, None}
use Rattle.sem_control.specs.control.Turn.{Ask}
use Rattle.pt_heap.specs.declared.value.Value.{Value}
use Rattle.sem_run.specs.run.Host.{Here}
use Rattle.law_leads.specs.Leads.{AnswersSo}
use Rattle.pt_host.specs.World.{Stores, Program}
use Rattle.pt_host.specs.Answers.{answers}

-- where an iterator may be at its end by itself, each answer ends iterators as it may; behind a
-- request that is the exception that left what was requested
abbrev pub IteratorsEndByThemselves : Type 0
IteratorsEndByThemselves =
    (ends : Option Value → Bool) → ends None ≡ true → (program : Program) (a : Ask Value)
    (h : Here Value) (st : Stores) → AnswersSo ends a (answers program a h st)
