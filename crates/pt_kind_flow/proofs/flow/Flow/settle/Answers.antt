use Rattle.std.proofs.Common.{refl}
use Rattle.std.specs.BinaryHeap.{heap_items}
use Rattle.pt_kind_flow.specs.Flow.{graph}
use Rattle.pt_kind_flow.proofs.Waiting.{open_taken}
use Rattle.pt_kind_flow.proofs.Stages.{goes_twice}
use Rattle.pt_kind_flow.proofs.flow.Flow.settle.Goals as goal

pub loop-left-init : goal.loop-left-init
loop-left-init c = record { search = c.requires; same = refl }

pub loop-left-preserved : goal.loop-left-preserved
loop-left-preserved c = let g = c.in_ok-arrive.ensures in goes_twice c.args.self.now c.loop-left.self c.arrive.new.self c.loop-left.invariant g.search g.same

pub arrive-requires-clause-opens : goal.arrive-requires-clause-opens
arrive-requires-clause-opens c = let s = c.loop-left.self in
    open_taken (graph s) s.forest s.table.items (heap_items s.work) (heap_items c.pop.new.self) c.in-Some.arrival c.loop-left.invariant.search.opens c.in-Some.ensures.permutation
