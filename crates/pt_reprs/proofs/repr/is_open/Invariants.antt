use Rattle.std.proofs.Common.{◌≡◌, drop}
use Rattle.pt_reprs.specs.Reprs.{is_open}
use Rattle.pt_reprs.proofs.repr.is_open.Given as goal

abbrev pub invariant-loop-place : goal.invariant-loop-place
invariant-loop-place l = is_open l.id.0 (drop l.place-index l.path) ≡ is_open l.id.0 l.path
