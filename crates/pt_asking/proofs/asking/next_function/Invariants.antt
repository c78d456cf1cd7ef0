use Rattle.std.proofs.Common.{◌+◌, Bool}
use Rattle.pt_happenings.specs.Views.{event_view}
use Rattle.pt_asking.specs.declared.asked.Next.{Next}
use Rattle.pt_asking.specs.Due.{due_by}
use Rattle.pt_asking.specs.Asking.{IsNextFrom}
use Rattle.pt_asking.proofs.asking.next_function.Given as goal

-- who is next from this tool on is next from the first
abbrev pub invariant-loop-tool : goal.invariant-loop-tool
invariant-loop-tool l =
    (minds : Bool) (r : Next)
    → IsNextFrom minds (due_by l.hooks l.tools (event_view l.event)) (event_view l.event) (l.tool + 2) r
    → IsNextFrom minds (due_by l.hooks l.tools (event_view l.event)) (event_view l.event) (l.first + 2) r
