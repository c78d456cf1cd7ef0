use Rattle.std.proofs.Common.{◌≡◌, length}
use Rattle.pt_write_simple.specs.pt_stm_forms.Compound.{behind_all_left}
use Rattle.pt_comp.proofs.contexts.leave_all.Given as goal

abbrev pub invariant-loop-context : goal.invariant-loop-context
invariant-loop-context l = behind_all_left l.entered l.w ≡ behind_all_left l.fn.entered l.fn.w

abbrev pub decreases-loop-context : goal.decreases-loop-context
decreases-loop-context l = length l.entered
