use Rattle.std.proofs.Common.{◌∙◌, ap}
use Rattle.std.proofs.lemmas.List.{take_rest}
use Rattle.pt_grammar.specs.Lexemes.{lexemes}
use Rattle.pt_parser.proofs.BaseLemmas.{last_told}
use Rattle.pt_parser.proofs.heads.comma_before_last.Goals as goal

pub returns : goal.returns
returns c = last_told c.args.tokens.now _ _ c.is.result c.saturating_sub-at.ensures (c.new.ensures ∙ ap lexemes (take_rest c.args.tokens.now c.saturating_sub-at.result)) c.is.ensures.value
