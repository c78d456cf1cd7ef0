-- Why `jump` fails, and which of several reasons is told.
use Rattle.std.specs.Prelude.{ℕ, Bool, not, List, [], ◌∷◌, codes, Option, Some, None, if◌then◌else◌}
use Rattle.std.specs.List.{concat}
use Rattle.std.specs.Fmt.{decimal}
use Rattle.pt_base.specs.declared.numbers.Line.{Line}
use Rattle.pt_pdb.specs.declared.jumps.JumpRefused.{JumpRefused}
use Rattle.pt_pdb.specs.declared.jumps.JumpRefused.TheVariants as refused
use Rattle.pt_pdb.specs.declared.jumps.JumpReason.{JumpReason}
use Rattle.pt_pdb.specs.declared.jumps.JumpReason.TheVariants as reason

-- that the script has ended comes first, then the event, then the frame; only then the run is asked
abbrev pub jump_reason : (has_ended is_at_line is_bottom : Bool) → Option JumpReason
jump_reason ended at_line bottom =
    if ended then Some reason.Ended
    else if not at_line then Some reason.NotAtLine
    else if not bottom then Some reason.NotBottom
    else None

abbrev pub refused_reason : JumpRefused → Line → JumpReason
refused_reason refused.NoStatement line = reason.NoStatement line
refused_reason refused.IntoBlock line = reason.IntoBlock line
refused_reason refused.OutOfFinally line = reason.OutOfFinally

abbrev pub jump_failed_text : JumpReason → List ℕ
jump_failed_text (reason.NoStatement line) =
    concat (codes "*** Jump failed: line " ∷ decimal line.0 ∷ codes " is not a statement of this block\n" ∷ [])
jump_failed_text (reason.IntoBlock line) =
    concat (codes "*** Jump failed: line " ∷ decimal line.0 ∷ codes " is inside a block that is not open here\n" ∷ [])
jump_failed_text reason.OutOfFinally = codes "*** Jump failed: a finally part can be neither entered nor left\n"
jump_failed_text reason.NotBottom = codes "*** Jump failed: only the bottom frame can jump\n"
jump_failed_text reason.NotAtLine = codes "*** Jump failed: not at a line event\n"
jump_failed_text reason.Ended = codes "*** Jump failed: the script has ended\n"
