use Rattle.std.proofs.Common.{rules, sym, ◌≤◌, None}
use Rattle.std.proofs.lemmas.List.{get_or_past}
use Rattle.pt_code.specs.Reading.{operands_of, operations}
use Rattle.pt_instr.proofs.Numbers.{IsNoneBelow-≤}
use Rattle.pt_code.proofs.instructions.operands_of.Goals as goal

pub returns-in_default-clause-exact : goal.returns-in_default-clause-exact
unfolding operands_of
returns-in_default-clause-exact c =
    let past : 81 ≤ c.args.operation = IsNoneBelow-≤ 81 c.args.operation (search rules) in
    sym (get_or_past operations c.args.operation None past)
