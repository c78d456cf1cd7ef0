use Rattle.std.proofs.Common.{◌+◌, ◌*◌}
use Rattle.pt_reprs.proofs.texts.+strs.Given as goal

abbrev pub decreases-push_text_within : goal.decreases-push_text_within
decreases-push_text_within l = 3 * l.depth + 2

abbrev pub decreases-push_error_within : goal.decreases-push_error_within
decreases-push_error_within l = 3 * l.depth + 1

abbrev pub decreases-push_args : goal.decreases-push_args
decreases-push_args l = 3 * l.depth
