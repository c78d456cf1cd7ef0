-- What a raise of a hook does in place of what waits (Library Reference, `sys.settrace`): a block
-- that begins or returns is left by it, and that is told; one that an exception leaves is left by it
-- with nothing more told; all else is a raise where it was asked, or from where it goes on.
use Rattle.pt_pendings.specs.declared.reply.End.TheVariants.{Gave, LeftBy}
use Rattle.pt_pendings.specs.declared.pending.Origin.{Origin}
use Rattle.pt_pendings.specs.declared.pending.Pending.{Pending}
use Rattle.pt_pendings.specs.declared.pending.Pending.TheVariants as pending
use Rattle.pt_pendings.specs.declared.pending.Instead.{Instead}
use Rattle.pt_pendings.specs.declared.pending.Instead.TheVariants.{Lands, Unwinds, Closes}

abbrev pub instead_of : Pending → (asked : Origin) → Instead
instead_of pending.Starting o = Unwinds
instead_of (pending.Doing c) o = Lands o
instead_of (pending.Going from) o = Lands from
instead_of (pending.GivingOn v) o = Lands o
instead_of (pending.GoingOn r) o = Lands o
instead_of (pending.Ending (Gave v)) o = Unwinds
instead_of (pending.Ending (LeftBy v)) o = Closes
