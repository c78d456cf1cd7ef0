use Rattle.std.proofs.Common.{sym, ◌∙◌, ap, option_map}
use Rattle.pt_readers.specs.Reading.{next_of}
use Rattle.pt_grammar.specs.Lexemes.{lexeme_of, line_at}
use Rattle.pt_grammar.proofs.LexemeLemmas.{next_lexeme, line_same}
use Rattle.pt_grammar.proofs.lexemes.Lexemes.line.Goals as goal

pub returns-in-Some : goal.returns-in-Some
returns-in-Some c =
    sym (line_same c.in-Some.token.now)
    ∙ ap line_at (ap (λ o. option_map lexeme_of o) c.in-Some.ensures ∙ sym (next_lexeme c.self.inside.tokens) ∙ ap next_of c.self.view_is)
