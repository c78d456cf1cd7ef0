use Rattle.std.proofs.Common.{sym, ◌∙◌, ap, option_map}
use Rattle.pt_grammar.specs.Lexemes.{lexeme_of, sign_at}
use Rattle.pt_grammar.proofs.LexemeLemmas.{next_lexeme}
use Rattle.pt_grammar.proofs.lexemes.first_sign.Goals as goal

pub returns-in-Some : goal.returns-in-Some
returns-in-Some c = c.sign_of.ensures ∙ ap sign_at (ap (λ o. option_map lexeme_of o) c.in-Some.ensures ∙ sym (next_lexeme c.args.tokens.now))
