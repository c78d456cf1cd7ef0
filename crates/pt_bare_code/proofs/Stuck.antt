-- Where one machine follows the turns of another, its bare runs are stuck nowhere but where the other's are.
use Rattle.std.proofs.Common.{◌≡◌, ℕ, List, [], refl, sym, ap, ◌∙◌, subst}
use Rattle.sem_run.specs.run.Machine.{BlockId, Machine}
use Rattle.sem_run.specs.run.Host.{Host}
use Rattle.sem_run.specs.run.Run.{Write}
use Rattle.sem_run.specs.run.Follows.{Nears, there, moves}
use Rattle.pt_bare_runs.specs.Strides.{State, Stride, goes, is_stuck, take_turn, stride, start}
use Rattle.pt_bare_runs.specs.Laws.{Reaches, here, further, NeverStuck}
use Rattle.pt_bare_code.specs.Turns.{FollowsTurns, IsStuckNowhereElse}
use Rattle.pt_bare_code.proofs.Relation.{Pair, left, right, SameState, same_state, SameStride, same_goes, same_ends, both_stuck}
use Rattle.pt_bare_code.proofs.Strides.{takes}
use Rattle.pt_bare_code.proofs.Runs.{same_start}

module _ {S R N V W : Type 0} (first : Machine S V) (second : Machine R V) (host : Host N V W) (At : BlockId → S → R → Type 0)
    (law : FollowsTurns first second At) (n : ℕ) where
  abbrev Both : Type 0
  Both = Pair N W first second At

  abbrev one : Both → State S N V W
  one p = left first second At p

  abbrev other : Both → R → State R N V W
  other p t = right first second At (record p { other = t })

  abbrev Near : Both → R → Type 0
  Near p t = Nears first second At p.frame.block p.one t

  abbrev Same : State S N V W → State R N V W → Type 0
  Same s t = SameState first second At s t

  -- behind a stride of the second: a silent one, or both make one
  data Goes_too (s : State S N V W) (ws : List Write) (u : State R N V W) : Type 0 where
    stays : Same s u → Goes_too s ws u
    goes_too : (s' : State S N V W) → stride first host n s ≡ goes ws s' → Same s' u → Goes_too s ws u

  same_stride : (s : State S N V W) (x : Stride S N V W) → stride first host n s ≡ x → (y : Stride R N V W) → SameStride first second At x y
      → (ws : List Write) (u : State R N V W) → y ≡ goes ws u → Goes_too s ws u
  same_stride s _ f _ (same_goes vs s' t h) ws u e =
      let a : vs ≡ ws = cc in
      let b : t ≡ u = cc in
      goes_too s' (f ∙ ap (λ z. goes z s') a) (subst (λ z. Same s' z) b h)
  same_stride s _ f _ (same_ends vs k e1) ws u e = absurd cc
  same_stride s _ f _ both_stuck ws u e = absurd cc

  goes_by : (p : Both) (t : R) → Near p t → (ws : List Write) (u : State R N V W) → stride second host n (other p t) ≡ goes ws u → Goes_too (one p) ws u
  goes_by p _ (there t h) ws u e =
      same_stride (one p) _ refl _ (takes first second host At law n (record p { other = t }) h _ _ (law.turns p.frame.block p.one t h)) ws u e
  goes_by p _ (moves t t' m h) ws u e =
      let r : goes ws u ≡ goes [] (other p t') = sym e ∙ ap (λ z. take_turn second host n z (other p t)) m in
      let b : u ≡ other p t' = cc in
      stays (subst (λ z. Same (one p) z) (sym b) (same_state (record p { other = t' }) h))

  goes_on : (s : State S N V W) (t : State R N V W) → Same s t → (ws : List Write) (u : State R N V W) → stride second host n t ≡ goes ws u → Goes_too s ws u
  goes_on _ _ (same_state p h) ws u e = goes_by p p.other h ws u e

  -- each state that the second comes to stands for one that the first comes to
  record StandsFor (a : State S N V W) (t : State R N V W) : Type 0 where
    state : State S N V W
    reached : Reaches first host n a state
    same : Same state t

  behind_one : (a : State S N V W) (t u : State R N V W) (ws : List Write) → (k : StandsFor a t) → Goes_too k.state ws u → StandsFor a u
  behind_one a t u ws k (stays h) = record { state = k.state; reached = k.reached; same = h }
  behind_one a t u ws k (goes_too s e h) = record { state = s; reached = further k.state s ws k.reached e; same = h }

  stands_for : (a : State S N V W) (b t : State R N V W) → Same a b → Reaches second host n b t → StandsFor a t
  stands_for a b _ h here = record { state = a; reached = here; same = h }
  stands_for a b _ h (further t u ws r e) =
      let k = stands_for a b t h r in behind_one a t u ws k (goes_on k.state t k.same ws u e)

  -- a stuck stride
  both_are : (s : State S N V W) (x : Stride S N V W) → stride first host n s ≡ x → (y : Stride R N V W) → SameStride first second At x y → y ≡ is_stuck
      → stride first host n s ≡ is_stuck
  both_are s _ f _ (same_goes vs s' t h) e = absurd cc
  both_are s _ f _ (same_ends vs k e1) e = absurd cc
  both_are s _ f _ both_stuck e = f

  stuck_by : (p : Both) (t : R) → Near p t → stride second host n (other p t) ≡ is_stuck → stride first host n (one p) ≡ is_stuck
  stuck_by p _ (there t h) e =
      both_are (one p) _ refl _ (takes first second host At law n (record p { other = t }) h _ _ (law.turns p.frame.block p.one t h)) e
  stuck_by p _ (moves t t' m h) e =
      let r : is_stuck ≡ goes [] (other p t') = sym e ∙ ap (λ z. take_turn second host n z (other p t)) m in absurd cc

  stuck_too : (s : State S N V W) (t : State R N V W) → Same s t → stride second host n t ≡ is_stuck → stride first host n s ≡ is_stuck
  stuck_too _ _ (same_state p h) e = stuck_by p p.other h e

  pub never_stuck : (b : BlockId) (names : N) (w : W) → NeverStuck first host n b names w → NeverStuck second host n b names w
  never_stuck b names w never t r e =
      let k = stands_for (start first host b names w) (start second host b names w) t (same_start first second host At law n b names w) r in
      never k.state k.reached (stuck_too k.state t k.same e)

module _ {S R N V W : Type 0} (first : Machine S V) (second : Machine R V) (At : BlockId → S → R → Type 0) (law : FollowsTurns first second At)
    (host : Host N V W) where
  pub stuck_nowhere_else : (n : ℕ) (b : BlockId) (names : N) (w : W) → IsStuckNowhereElse first second host n b names w
  stuck_nowhere_else n b names w never = never_stuck first second host At law n b names w never
