use Rattle.std.proofs.Common.{ap}
use Rattle.pt_grammar.specs.Lexemes.{line_at}
use Rattle.pt_grammar.proofs.Ranks.{signed_next}
use Rattle.pt_grammar.proofs.Atoms.{singleton_found}
use Rattle.pt_expr.proofs.reader.Reader.singleton.Goals as goal

pub returns : goal.returns
returns c = λ d h. let n = signed_next _ c.requires in rw (c.in_ok-singleton.ensures, c.skip.ensures.value, c.line-line.ensures, ap line_at n.1) (singleton_found d h _ n.0 c.args.which n.1)
