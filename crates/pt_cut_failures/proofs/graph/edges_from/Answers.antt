use Rattle.pt_cut_failures.proofs.graph.edges_from.Goals as goal

pub add_entries-requires : goal.add_entries-requires
add_entries-requires c = c.requires.1.index.sorted
