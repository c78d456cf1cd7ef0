-- The depth of clauses and of entries.
use Rattle.std.proofs.Common.{◌≡◌, max, List, [], ◌∷◌, ◌++◌, arith}
use Rattle.pt_wide.specs.Syntax.{Entry}
use Rattle.pt_wide.specs.Measure.{depth_clauses, depth_entry, depth_entries}
use Rattle.pt_grammar.specs.Nodes.{OneClause, clauses_of, entries_of}

pub depth_clauses_snoc : (cs : List OneClause) (c : OneClause) → depth_clauses (clauses_of (cs ++ (c ∷ []))) ≡ max (depth_clauses (clauses_of cs)) (depth_clauses (clauses_of (c ∷ [])))
depth_clauses_snoc [] c = omega arith
depth_clauses_snoc (d ∷ cs) c = omega (arith, depth_clauses_snoc cs c)

pub depth_entries_snoc : (gs : List Entry) (g : Entry) → depth_entries (entries_of (gs ++ (g ∷ []))) ≡ max (depth_entries (entries_of gs)) (depth_entry g)
depth_entries_snoc [] g = omega arith
depth_entries_snoc (h ∷ gs) g = omega (arith, depth_entries_snoc gs g)
