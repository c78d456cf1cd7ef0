use Rattle.std.proofs.Common.{◌≡◌, ◌≤◌, length, take}
use Rattle.pt_tree.specs.StatementFold.{decorators_of}
use Rattle.pt_stm_forms.specs.Simple.{behind_calls}
use Rattle.pt_write_simple.proofs.definitions.call_decorators.Given as goal

abbrev pub invariant-loop-left : goal.invariant-loop-left
invariant-loop-left l = record {
  within : l.left ≤ length l.decorators;
  code : behind_calls (decorators_of (take l.left l.decorators)) l.w ≡ behind_calls (decorators_of l.decorators) l.fn.w;
}

abbrev pub decreases-loop-left : goal.decreases-loop-left
decreases-loop-left l = l.left
