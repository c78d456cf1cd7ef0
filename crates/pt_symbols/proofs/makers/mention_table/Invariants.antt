use Rattle.std.proofs.Common.{◌≡◌, ℕ, filter, take}
use Rattle.std.specs.Prelude.{◌==◌}
use Rattle.pt_scopes.specs.Scope.{home_of}
use Rattle.pt_symbols.specs.Tables.{mentions_at, mentions_in}
use Rattle.pt_symbols.proofs.makers.mention_table.Given as goal

abbrev pub invariant-loop-place : goal.invariant-loop-place
invariant-loop-place l = (h : ℕ) → mentions_at l.mentions (mentions_in l.table h)
    ≡ filter (λ m. home_of l.places.regions m.region == h) (take l.place l.mentions)
