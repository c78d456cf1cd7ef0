use Rattle.std.proofs.Common.{◌∙◌, ap}
use Rattle.std.specs.Prelude.{is_some}
use Rattle.pt_tables.specs.Rows.{value_of}
use Rattle.pt_lexer.proofs.WordLemmas.{keyword_listed}
use Rattle.pt_lexer.proofs.words.is_keyword_text.Goals as goal

pub returns : goal.returns
returns c = c.is_some.ensures ∙ (ap is_some (c.get.ensures.value ∙ ap (λ t. value_of t c.args.text.now) c.keywords.ensures) ∙ keyword_listed c.args.text.now)
