use Rattle.std.proofs.Common.{sym, ◌∙◌, ap, option_map}
use Rattle.pt_readers.specs.Reading.{next_of}
use Rattle.pt_grammar.specs.Lexemes.{lexeme_of}
use Rattle.pt_grammar.proofs.LexemeLemmas.{next_lexeme}
use Rattle.pt_grammar.proofs.lexemes.Lexemes.peek.Goals as goal

pub returns : goal.returns
returns c = ap (λ o. option_map lexeme_of o) c.peek.ensures ∙ sym (next_lexeme c.self.inside.tokens) ∙ ap next_of c.self.view_is
