use Rattle.std.proofs.Common.{◌∙◌, false, ap}
use Rattle.pt_transfers.specs.pt_machine_state.declared.blocks.BlockCode.{BlockCode}
use Rattle.pt_runner.proofs.naming.TableNamesBlockNames.name.Goals as goal

pub returns : goal.returns
returns c = c.as_str.ensures ∙ ap (λ (b : BlockCode). b.name) c.at.ensures
