-- What waits as a run sees it: what is told of a call, what comes back to a generator, how a block
-- ends, and who is still to be asked at an event.
use Rattle.std.specs.Prelude.{List, [], ◌∷◌, drop}
use Rattle.pt_heap.specs.declared.value.Value.{Value}
use Rattle.sem_control.specs.control.Turn as T
use Rattle.sem_run.specs.run.Host as run
use Rattle.sem_run.specs.run.Machine as reasons
use Rattle.sem_run.specs.run.Hooks.{all_hooks}
use Rattle.pt_pendings.specs.declared.reply.Callee.{Callee}
use Rattle.pt_pendings.specs.declared.reply.Reply.{Reply}
use Rattle.pt_pendings.specs.declared.reply.Reply.TheVariants.{Got, Raised}
use Rattle.pt_pendings.specs.declared.reply.End.{End}
use Rattle.pt_pendings.specs.declared.reply.End.TheVariants.{Gave, LeftBy}
use Rattle.pt_pendings.specs.declared.telling.Reason.{Reason}
use Rattle.pt_pendings.specs.declared.telling.Reason.TheVariants as reason
use Rattle.pt_pendings.specs.declared.telling.Left.{Left}
use Rattle.pt_pendings.specs.declared.telling.Left.TheVariants as left

abbrev pub callee_view : Callee → run.Callee Value
callee_view c = record { first = c.first; is_builtin = c.builtin }

abbrev pub reply_view : Reply → T.Reply Value Value
reply_view (Got v) = T.got v
reply_view (Raised v) = T.raised v

abbrev pub end_view : End → T.End Value
end_view (Gave v) = T.gave v
end_view (LeftBy v) = T.left_by v

abbrev pub reason_view : Reason → reasons.Reason
reason_view reason.NotAtLine = reasons.not_at_line
reason_view reason.NotNewest = reasons.not_newest
reason_view reason.NoStatement = reasons.no_statement
reason_view reason.OutOfFinally = reasons.out_of_finally
reason_view reason.IntoBlock = reasons.into_block

-- from a place on in the order of all; a debugger alone, that is told of its jump's landing; or one
-- that is told of its refusal, before the others
abbrev pub left_view : Left → List run.Hook
left_view (left.From n) = drop n all_hooks
left_view (left.Landing l) = run.landing l.0 ∷ []
left_view (left.Refusal r n) = run.refusal (reason_view r) ∷ drop n all_hooks
