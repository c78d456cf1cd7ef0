use Rattle.std.proofs.Common.{◌∙◌, ap}
use Rattle.pt_tables.specs.Rows.{value_of}
use Rattle.pt_prelude.proofs.helpers.helper.Goals as goal

pub returns : goal.returns
returns c = c.get.ensures.value ∙ ap (λ rows. value_of rows c.args.name.now) c.new-table.ensures
