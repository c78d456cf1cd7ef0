use Rattle.std.proofs.Common.{◌∙◌, ap}
use Rattle.pt_tables.specs.Rows.{value_of}
use Rattle.pt_grammar.proofs.lexemes.spelled.Goals as goal

pub returns : goal.returns
returns c = c.get.ensures.value ∙ ap (λ rows. value_of rows c.args.text.now) c.new-signs.ensures
