use Rattle.std.proofs.Common.{◌≡◌, drop}
use Rattle.pt_scopes.specs.Behind.{behind}
use Rattle.pt_scopes.specs.Mentions.{places_imports}
use Rattle.pt_scopes.proofs.statements.imports.Given as goal

abbrev pub invariant-loop-alias : goal.invariant-loop-alias
invariant-loop-alias l = behind l.g (places_imports l.at l.class l.line.0 (drop l.alias-index l.list)) ≡ behind l.fn.g (places_imports l.at l.class l.line.0 l.list)
