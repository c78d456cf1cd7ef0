use Rattle.std.proofs.Common.{◌≡◌, drop}
use Rattle.pt_scopes.specs.Behind.{behind}
use Rattle.pt_scopes.specs.Mentions.{places_names}
use Rattle.pt_scopes.proofs.statements.declared.Given as goal

abbrev pub invariant-loop-name : goal.invariant-loop-name
invariant-loop-name l = behind l.g (places_names l.role l.at l.class l.line.0 (drop l.name-index l.names)) ≡ behind l.fn.g (places_names l.role l.at l.class l.line.0 l.names)
