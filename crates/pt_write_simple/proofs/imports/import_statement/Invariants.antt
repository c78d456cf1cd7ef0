use Rattle.std.proofs.Common.{◌≡◌, drop}
use Rattle.pt_stm_forms.specs.Simple.{behind_imports}
use Rattle.pt_write_simple.proofs.imports.import_statement.Given as goal

abbrev pub invariant-loop-alias : goal.invariant-loop-alias
invariant-loop-alias l = behind_imports l.names (drop l.alias-index l.aliases) l.line.0 l.w ≡ behind_imports l.names l.aliases l.line.0 l.fn.w
