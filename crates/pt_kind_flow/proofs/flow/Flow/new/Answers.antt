use Rattle.std.proofs.Common.{sym, subst}
use Rattle.pt_kind_flow.specs.Search.{Open}
use Rattle.pt_kinds.specs.Forest.{list_at}
use Rattle.pt_kind_flow.proofs.Stages.{none_sorted, started}
use Rattle.pt_kind_flow.proofs.flow.Flow.new.Goals as goal

pub returns-clause-flow : goal.returns-clause-flow
returns-clause-flow c =
    let f = c.push_runs.new.forest in
    let first = c.in_ok-first.first in
    let edges = c.in_ok-edges.edges in
    let h = c.in_ok-first.ensures in
    record {
      opens = subst (λ W. Open (record { edges = edges; first = list_at f first }) f c.in_ok-table.table.items W) (sym c.new-3.ensures.items)
          (started f first c.args.count edges c.in_ok-table.table.items h.forest h.inside c.in_ok-edges.ensures c.in_ok-table.ensures);
      first = h.inside;
      sorted = none_sorted edges c.args.count (list_at f first) c.in_ok-edges.ensures;
      none = c.new-3.ensures.items;
    }
