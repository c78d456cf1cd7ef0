use Rattle.std.proofs.Common.{ℕ, ◌<◌, ◌≡◌, true}
use Rattle.sem_fits.specs.fits.Block.{links_of}
use Rattle.pt_block_kinds.specs.Astray.{is_astray}
use Rattle.pt_block_kinds.proofs.graph.BlockKinds.any_astray.Given as goal

abbrev pub invariant-loop-at : goal.invariant-loop-at
invariant-loop-at l = (pc : ℕ) → pc < l.at → is_astray l.self.flow (links_of l.code) l.places l.sizes pc ≡ true → ⊥
