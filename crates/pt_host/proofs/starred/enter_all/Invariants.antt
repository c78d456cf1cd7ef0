use Rattle.std.proofs.Common.{◌≡◌, drop}
use Rattle.sem_run.specs.run.Host.{made}
use Rattle.pt_host.specs.Starred.{entries_from}
use Rattle.pt_host.proofs.starred.enter_all.Given as goal

abbrev pub invariant-loop-binding : goal.invariant-loop-binding
invariant-loop-binding l = entries_from (made l.dict l.heap) (drop l.binding-index l.named) ≡ entries_from (made l.fn.dict l.fn.heap) l.named
