use Rattle.std.proofs.Common.{◌≡◌, ◌++◌}
use Rattle.pt_sizes.specs.Waiting.{levels_of, up}
use Rattle.pt_block_kinds.specs.Leads.{leads_of}
use Rattle.pt_cut_failures.specs.Chains.{starts_of}
use Rattle.pt_cut_failures.specs.Leads.{entering}
use Rattle.pt_cut_failures.proofs.chains.Chains.add_entries.Given as goal

abbrev pub invariant-loop-level : goal.invariant-loop-level
invariant-loop-level l = (l.node ≡ up l.level l.at)
    × (leads_of l.edges.items ≡ leads_of l.initial.edges.items ++ entering l.links_from (levels_of l.self.waiting.levels) (starts_of l.self.starts) l.at l.below l.level)
