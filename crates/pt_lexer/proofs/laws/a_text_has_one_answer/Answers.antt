use Rattle.pt_lexer.proofs.Once.{lines_once, lines_or_fault}
use Rattle.pt_lexer.proofs.LineLemmas.{refused_once}
use Rattle.pt_lexer.proofs.laws.a_text_has_one_answer.Goals as goal

pub returns : goal.returns
returns c = record {
  one_list = λ bytes all every l m. lines_once l m;
  one_refusal = λ bytes e f r q. refused_once bytes e f r q;
  never_both = λ bytes all e l r. lines_or_fault l r.found;
}
