use Rattle.std.proofs.Common.{refl, arith}
use Rattle.pt_readers.proofs.Readers.{carries_all}
use Rattle.pt_grammar.proofs.BraceLemmas.{unclosed, closed_found}
use Rattle.pt_expr.proofs.reader.Reader.closed_entry.Goals as goal

pub returns-then-not-take : goal.returns-then-not-take
returns-then-not-take c = λ d f. let m = c.take.ensures.none (grind arith) in rw m.1 (unclosed carries_all m.0 f)

pub returns : goal.returns
returns c = λ d f. let m = c.take.ensures.found (grind arith) in rw c.in_ok-dict_comprehension.ensures (closed_found carries_all m.0 m.1 refl f)
