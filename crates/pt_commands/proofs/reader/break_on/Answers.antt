use Rattle.std.proofs.Common.{Some, None, arith}
use Rattle.std.proofs.lemmas.Str.Pattern.{strip_prefix_char}
use Rattle.pt_commands.proofs.CommandLemmas.{break_found, break_plain, line_number}
use Rattle.pt_commands.proofs.reader.break_on.Goals as goal

pub returns-in-Some : goal.returns-in-Some
returns-in-Some c =
    let number = line_number c.args.rest.now c.cut.result.0.now c.without_end.result.now c.number-line.result c.cut.ensures.front c.without_end.ensures c.number-line.ensures in
    let found = strip_prefix_char 44 c.cut.result.1.now (Some c.in-Some.condition) c.in-Some.ensures.cases (omega arith) in
    break_found c.args.temporary c.args.rest.now c.cut.result.1.now c.in-Some.condition.now c.without_front.result.now c.number-line.result c.break_if.result
    c.break_if.ensures number c.cut.ensures.behind c.without_front.ensures found

pub returns-in-None : goal.returns-in-None
returns-in-None c =
    let number = line_number c.args.rest.now c.cut.result.0.now c.without_end.result.now c.number-line.result c.cut.ensures.front c.without_end.ensures c.number-line.ensures in
    let none = strip_prefix_char 44 c.cut.result.1.now None c.in-None.ensures.cases (omega arith) in
    break_plain c.args.temporary c.args.rest.now c.cut.result.1.now c.number-line.result c.break_always.result c.break_always.ensures number c.cut.ensures.behind none
