use Rattle.std.proofs.Common.{arith}
use Rattle.std.proofs.lemmas.Str.Pattern.{strip_prefix_char}
use Rattle.pt_name_rows.proofs.DotLemmas.{found_dot, no_dot}
use Rattle.pt_name_rows.proofs.unbound.behind_dot.Goals as goal

pub returns-in-Some : goal.returns-in-Some
returns-in-Some c = found_dot c.args.text.now c.strip_prefix.result c.in-Some.behind (strip_prefix_char 46 c.args.text.now c.strip_prefix.result c.strip_prefix.ensures.cases (omega arith)) c.in-Some.is

pub returns-in-None : goal.returns-in-None
returns-in-None c = no_dot c.args.text.now c.strip_prefix.result (strip_prefix_char 46 c.args.text.now c.strip_prefix.result c.strip_prefix.ensures.cases (omega arith)) c.in-None.is
