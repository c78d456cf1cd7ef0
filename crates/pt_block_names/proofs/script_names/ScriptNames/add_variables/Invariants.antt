use Rattle.std.proofs.Common.{◌≡◌, map, drop, List, ℕ}
use Rattle.pt_symbols.specs.sem_names.BlockNames.{distinct_behind, is_cell, is_local, named_at, names_in}
use Rattle.pt_symbols.specs.Tables.{mentions_at}
use Rattle.pt_block_names.proofs.script_names.ScriptNames.add_variables.Given as goal

abbrev pub invariant-loop-place : goal.invariant-loop-place
invariant-loop-place l =
    let of = λ (is : List ℕ). map (named_at l.self.places l.block.0 l.region) (mentions_at l.self.places.mentions is) in
    (distinct_behind l.locals (names_in is_local (of (drop l.place-index l.mentions))) ≡ distinct_behind l.fn.locals (names_in is_local (of l.mentions)))
    × (distinct_behind l.cells (names_in is_cell (of (drop l.place-index l.mentions))) ≡ distinct_behind l.fn.cells (names_in is_cell (of l.mentions)))
