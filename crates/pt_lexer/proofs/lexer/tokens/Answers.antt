use Rattle.pt_lexer.proofs.LineLemmas.{one_list, one_refusal}
use Rattle.pt_lexer.proofs.StringShape.{shape_of}
use Rattle.pt_lexer.proofs.lexer.tokens.Goals as goal

pub returns-clause-one_list : goal.returns-clause-one_list
returns-clause-one_list c = one_list c.args.bytes.now c.lex.result c.lex.ensures

pub returns-clause-one_refusal : goal.returns-clause-one_refusal
returns-clause-one_refusal c = one_refusal c.args.bytes.now c.lex.result c.lex.ensures

pub returns-clause-shape : goal.returns-clause-shape
returns-clause-shape c = shape_of c.args.bytes.now c.lex.result c.lex.ensures
