-- A raise of a hook does what is said of what waits.
use Rattle.std.proofs.Common.{◌≡◌, refl, ap}
use Rattle.pt_heap.specs.declared.value.Value.{Value}
use Rattle.sem_run.specs.run.Machine.{Machine}
use Rattle.sem_run.specs.run.Host.{Host}
use Rattle.sem_run.specs.run.State as run
use Rattle.sem_run.specs.run.State.{State, turning, at, in_state}
use Rattle.sem_run.specs.run.Hooks as hooks
use Rattle.pt_pendings.specs.declared.reply.End.TheVariants.{Gave, LeftBy}
use Rattle.pt_pendings.specs.declared.pending.Pending.{Pending}
use Rattle.pt_pendings.specs.Pendings.{instead_of}
use Rattle.pt_pendings.specs.Stands.{Standpoint, IsPending, starting, doing, going, giving_on, going_on, ending, of_yield, of_delegation}
use Rattle.pt_pendings.specs.Laws.{by_instead, RaisesTakePlace}

module _ {S N W : Type 0} (machine : Machine S Value) (host : Host N Value W) (here : Standpoint S)
    (v : Value) (s : State S N Value W) where
  taken : (p : Pending) (q : run.Pending S Value) → IsPending machine here p q
      → hooks.instead_of machine host q v s ≡ by_instead here.lands (instead_of p here.asked) v s
  taken _ _ starting = refl
  taken _ _ (doing q c is e) = ap (λ c. at turning (in_state c s)) (is.raises v)
  taken _ _ (going from f e) = ap (λ c. at turning (in_state c s)) (e v)
  taken _ _ (giving_on _ u (of_yield w k b c is)) = ap (λ c. at turning (in_state c s)) (is.raises v)
  taken _ _ (giving_on _ u (of_delegation i r k b c is)) =
      ap (λ c. at turning (in_state c s)) (is.raises v)
  taken _ _ (going_on _ r (of_yield w k b c is)) = ap (λ c. at turning (in_state c s)) (is.raises v)
  taken _ _ (going_on _ r (of_delegation i x k b c is)) =
      ap (λ c. at turning (in_state c s)) (is.raises v)
  taken _ _ (ending (Gave u)) = refl
  taken _ _ (ending (LeftBy u)) = refl

pub raises_take_place : {S N W : Type 0} (machine : Machine S Value) (host : Host N Value W)
    → RaisesTakePlace machine host
raises_take_place machine host here p q is v s = taken machine host here v s p q is
