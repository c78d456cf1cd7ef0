use Rattle.pt_kind_failures.proofs.Seen.{is_flow}
use Rattle.bench_fits.proofs.kinds.Goals as goal

pub least_cut-requires-clause-flow : goal.least_cut-requires-clause-flow
least_cut-requires-clause-flow c =
    is_flow c.args.code.now c.args.block.now c.args.places.now c.args.table.now c.len-limit.result c.in_ok-kinds.kinds c.in_ok-kinds.ensures

pub kind_failures-requires-clause-flow : goal.kind_failures-requires-clause-flow
kind_failures-requires-clause-flow c =
    is_flow c.args.code.now c.args.block.now c.args.places.now c.args.table.now c.len-limit.result c.in_ok-kinds.kinds c.in_ok-kinds.ensures
