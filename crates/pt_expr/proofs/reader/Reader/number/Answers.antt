use Rattle.std.proofs.lemmas.Int.{to_z-of_z}
use Rattle.std.specs.Int.{w128}
use Rattle.pt_grammar.proofs.Atoms.{int_found}
use Rattle.pt_expr.proofs.reader.Reader.number.Goals as goal

pub returns : goal.returns
returns c = λ d h. rw (c.in_ok-int.ensures, to_z-of_z w128 c.args.value c.ranges.value, c.skip.ensures.value) (int_found d h _ c.args.line.0 c.args.value c.requires)
