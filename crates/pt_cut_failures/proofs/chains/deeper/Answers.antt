use Rattle.std.proofs.Common.{rules}
use Rattle.std.proofs.lemmas.List.Sorted.{IsPartitionPoint-from_clause}
use Rattle.pt_cut_failures.proofs.Chaining.{is_deeper, parted, first_is}
use Rattle.pt_cut_failures.proofs.chains.deeper.Goals as goal

pub returns : goal.returns
returns c = let rows = c.args.rows.now in let point = c.partition_point in
    let split = IsPartitionPoint-from_clause (is_deeper c.args.below) rows point.result point.ensures.partitioned (parted rows c.args.below c.requires) (λ a r f called. search rules) in
    first_is rows c.args.below point.result point.ensures.bound split.0 split.1
