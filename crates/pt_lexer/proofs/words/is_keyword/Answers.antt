use Rattle.std.proofs.Common.{sym, ◌∙◌}
use Rattle.pt_lexer.proofs.WordLemmas.{keyword_text, no_keyword}
use Rattle.pt_lexer.proofs.words.is_keyword.Goals as goal

pub returns-then-are_ascii : goal.returns-then-are_ascii
returns-then-are_ascii c = keyword_text c.args.front.now c.args.text.now c.is_keyword_text.result (sym c.are_ascii.ensures ∙ c.if-are_ascii.true) c.requires c.is_keyword_text.ensures

pub returns : goal.returns
returns c = no_keyword c.args.front.now (sym c.are_ascii.ensures ∙ c.if-are_ascii.false)
