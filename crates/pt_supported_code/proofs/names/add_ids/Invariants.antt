use Rattle.std.proofs.Common.{◌≡◌, ◌++◌, map, take}
use Rattle.pt_instr.specs.declared.TextNo.{TextNo}
use Rattle.pt_standing.specs.Texts.{id_at}
use Rattle.pt_supported_code.proofs.names.add_ids.Given as goal

abbrev pub invariant-loop-name : goal.invariant-loop-name
invariant-loop-name l = l.to ≡ l.fn.to ++ map (λ (name : TextNo). id_at l.ids name.0) (take l.name-index l.names)
