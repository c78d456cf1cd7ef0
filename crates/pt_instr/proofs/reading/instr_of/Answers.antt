use Rattle.std.proofs.Common.{rules, sym, ◌≤◌, None}
use Rattle.std.proofs.lemmas.List.{get_or_past}
use Rattle.pt_instr.specs.Decoding.{instr_of, instrs}
use Rattle.pt_instr.proofs.Numbers.{IsNoneBelow-≤}
use Rattle.pt_instr.proofs.reading.instr_of.Goals as goal

pub returns-in_default-clause-exact : goal.returns-in_default-clause-exact
unfolding instr_of
returns-in_default-clause-exact c =
    let past : 81 ≤ c.args.number = IsNoneBelow-≤ 81 c.args.number (search rules) in
    sym (get_or_past (instrs c.args.x c.args.y c.args.z) c.args.number None past)
