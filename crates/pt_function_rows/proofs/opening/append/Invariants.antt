use Rattle.std.proofs.Common.{◌≡◌, ◌++◌, take}
use Rattle.pt_function_rows.proofs.opening.append.Given as goal

abbrev pub invariant-loop-number : goal.invariant-loop-number
invariant-loop-number l = l.numbers ≡ l.fn.numbers ++ take l.number-index l.others
