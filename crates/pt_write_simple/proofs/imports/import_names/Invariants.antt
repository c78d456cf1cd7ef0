use Rattle.std.proofs.Common.{◌≡◌, drop}
use Rattle.pt_stm_forms.specs.Simple.{behind_module_names}
use Rattle.pt_write_simple.proofs.imports.import_names.Given as goal

abbrev pub invariant-loop-alias : goal.invariant-loop-alias
invariant-loop-alias l =
    behind_module_names l.names (drop l.alias-index l.aliases) l.line.0 l.w ≡ behind_module_names l.names l.aliases l.line.0 l.fn.w
