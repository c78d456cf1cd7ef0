use Rattle.std.proofs.Common.{rules, ◌∙◌}
use Rattle.std.proofs.lemmas.List.Sorted.{IsPartitionPoint-from_clause}
use Rattle.pt_ranges.proofs.MarkLemmas.{stands_by, parted, mark_over-parted}
use Rattle.pt_ranges.proofs.lines.last_up_to.Goals as goal

pub returns : goal.returns
returns c =
    let split = IsPartitionPoint-from_clause (stands_by c.args.pc) c.args.rows.now c.partition_point-behind.result c.partition_point-behind.ensures.partitioned (parted c.args.rows.now c.args.pc c.requires) (λ a r f called. search rules) in
    c.copied.ensures ∙ c.last.ensures.value ∙ mark_over-parted c.args.rows.now c.args.pc c.partition_point-behind.result c.partition_point-behind.ensures.bound split.0 split.1
