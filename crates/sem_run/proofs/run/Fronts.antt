-- What runs of two machines that follow each other give first, and that they never halt unfinished.
use Rattle.std.proofs.Common.{◌≡◌, ℕ, List, [], ◌∷◌, ◌++◌, refl, sym, ap, ◌∙◌, subst}
use Rattle.sem_run.specs.run.Machine.{BlockId, Machine}
use Rattle.sem_run.specs.run.Host.{Host}
use Rattle.sem_run.specs.run.State.{State, start}
use Rattle.sem_run.specs.run.Outcome.{Output, Step, goes}
use Rattle.sem_run.specs.run.Step.{step}
use Rattle.sem_run.specs.run.Run.{Debugger, Session, Move, moves, stops, halts, move, move_by, Goes, stays, goes_further}
use Rattle.sem_run.specs.run.Laws.{Begins, so_far, further, BeginAlike, NeverHalts, session}
use Rattle.sem_run.specs.run.Follows.{Follows}
use Rattle.sem_run.proofs.run.RunLemmas.{NotStuck, NotHalted, not_halted, halted}
use Rattle.sem_run.proofs.run.Relation.{SameState, SameStep, same_goes, same_consults, same_ends}
use Rattle.sem_run.proofs.run.Following.{Catches, in_step, behind_one_step, catches}
use Rattle.sem_run.proofs.run.Runs.{SameMove, same_moves, same_stops, same_halts, same_move_by, same_start}

a_goes_is_not_stuck : {S N V W : Type 0} (s : State S N V W) → NotStuck (goes [] s)
unfolding NotStuck
a_goes_is_not_stuck s = tt

module _ {D S R N V W : Type 0} (first : Machine S V) (second : Machine R V) (host : Host N V W) (At Stands Lands : BlockId → S → R → Type 0) (law : Follows first second At Stands Lands)
    (ask : Debugger D N V W) (m : ℕ) where
  abbrev Same : State S N V W → State R N V W → Type 0
  Same s t = SameState first second At Stands Lands s t

  abbrev Catch : State S N V W → State R N V W → Type 0
  Catch s t = Catches first second host At Stands Lands law m s t

  abbrev Alike : Move D S N V W → Move D R N V W → Type 0
  Alike x y = SameMove first second host At Stands Lands law ask m x y

  abbrev First : D → State S N V W → Move D S N V W
  First d s = move_by first host ask d (step first host m s)

  abbrev Second : D → State R N V W → Move D R N V W
  Second d t = move_by second host ask d (step second host m t)

  alike : (d : D) (x : Step S N V W) (y : Step R N V W) → SameStep first second At Stands Lands x y → Alike (move_by first host ask d x) (move_by second host ask d y)
  alike d x y i = same_move_by first second host At Stands Lands law ask m d x y i

  caught : (s : State S N V W) (t : State R N V W) → Same s t → Catch s t
  caught s t i = catches first second host At Stands Lands law m s t i

  -- forwards
  reach : (d : D) (s : State S N V W) (ps : List (Output V)) → ((y : Move D R N V W) → Alike (First d s) y → Begins second host ask m y ps) →
      (t : State R N V W) → Catch s t → Begins second host ask m (Second d t) ps
  reach d s ps f _ (in_step t e i) = f _ (alike d _ _ i)
  reach d s ps f _ (behind_one_step t t' e k) =
      subst (λ z. Begins second host ask m (move_by second host ask d z) ps) (sym e) (further [] ps (record { debugger = d; state = t' }) (reach d s ps f t' k))

  forward : (x : Move D S N V W) (os : List (Output V)) → Begins first host ask m x os → (y : Move D R N V W) → Alike x y → Begins second host ask m y os
  forward _ _ (so_far _) y i = so_far y
  forward _ _ (further os ps _ b) _ (same_moves _ d s t h) =
      further os ps (record { debugger = d; state = t }) (reach d s ps (λ y i. forward _ ps b y i) t (caught s t h))

  -- backwards
  go_same : (x : Move D S N V W) (y : Move D R N V W) → Alike x y → (os ps : List (Output V)) (z : Session D R N V W) → moves os z ≡ y →
      ((d : D) (s : State S N V W) (t : State R N V W) → Catch s t → z ≡ record { debugger = d; state = t } → Begins first host ask m (First d s) ps) →
      Begins first host ask m x (os ++ ps)
  go_same _ _ (same_moves qs d s t h) os ps z e f =
      let a : os ≡ qs = cc in
      let b : z ≡ record { debugger = d; state = t } = cc in
      subst (λ k. Begins first host ask m (moves qs (record { debugger = d; state = s })) (k ++ ps)) (sym a)
      (further qs ps (record { debugger = d; state = s }) (f d s t (caught s t h) b))
  go_same _ _ (same_stops qs d k) os ps z e f = absurd cc
  go_same _ _ same_halts os ps z e f = absurd cc

  backward : (y : Move D R N V W) (os : List (Output V)) → Begins second host ask m y os → (d : D) (s : State S N V W) (t : State R N V W) → Catch s t → y ≡ Second d t →
      Begins first host ask m (First d s) os
  backward _ _ (so_far _) d s t k q = so_far _
  backward _ _ (further os ps z b) d s _ (in_step t e i) q =
      go_same _ _ (alike d _ _ i) os ps z q (λ d' s' t' k p. backward _ ps b d' s' t' k (ap (move second host ask m) p))
  backward _ _ (further os ps z b) d s _ (behind_one_step t t' e k) q =
      let r : moves os z ≡ moves [] (record { debugger = d; state = t' }) = q ∙ ap (move_by second host ask d) e in
      let a : os ≡ [] = cc in
      let p : z ≡ record { debugger = d; state = t' } = cc in
      subst (λ w. Begins first host ask m (First d s) (w ++ ps)) (sym a) (backward _ ps b d s t' k (ap (move second host ask m) p))

  -- no step is stuck
  first_goes : (x : Step S N V W) (y : Step R N V W) → SameStep first second At Stands Lands x y → NotStuck x
  unfolding NotStuck
  first_goes _ _ (same_goes os s t h) = tt
  first_goes _ _ (same_consults q p h x y u u' i) = tt
  first_goes _ _ (same_ends e) = tt

  second_goes : (x : Step S N V W) (y : Step R N V W) → SameStep first second At Stands Lands x y → NotStuck y
  unfolding NotStuck
  second_goes _ _ (same_goes os s t h) = tt
  second_goes _ _ (same_consults q p h x y u u' i) = tt
  second_goes _ _ (same_ends e) = tt

  first_not_stuck : (s : State S N V W) (t : State R N V W) → Catch s t → NotStuck (step first host m s)
  first_not_stuck s _ (in_step t e i) = first_goes _ _ i
  first_not_stuck s _ (behind_one_step t t' e k) = first_not_stuck s t' k

  second_not_stuck : (s : State S N V W) (t : State R N V W) → Catch s t → NotStuck (step second host m t)
  second_not_stuck s _ (in_step t e i) = second_goes _ _ i
  second_not_stuck s _ (behind_one_step t t' e k) = subst NotStuck (sym e) (a_goes_is_not_stuck t')

  -- where a run of one has come the other one's has come as well
  left_moves : (C : Type 0) (x : Move D S N V W) (y : Move D R N V W) → Alike x y → (os : List (Output V)) (z : Session D S N V W) → x ≡ moves os z →
      ((d : D) (s : State S N V W) (t : State R N V W) → Catch s t → z ≡ record { debugger = d; state = s } → C) → C
  left_moves C _ _ (same_moves qs d s t h) os z e f = let b : z ≡ record { debugger = d; state = s } = cc in f d s t (caught s t h) b
  left_moves C _ _ (same_stops qs d k) os z e f = absurd cc
  left_moves C _ _ same_halts os z e f = absurd cc

  right_moves : (C : Type 0) (x : Move D S N V W) (y : Move D R N V W) → Alike x y → (os : List (Output V)) (z : Session D R N V W) → y ≡ moves os z →
      ((d : D) (s : State S N V W) (t : State R N V W) → Catch s t → z ≡ record { debugger = d; state = t } → C) → C
  right_moves C _ _ (same_moves qs d s t h) os z e f = let b : z ≡ record { debugger = d; state = t } = cc in f d s t (caught s t h) b
  right_moves C _ _ (same_stops qs d k) os z e f = absurd cc
  right_moves C _ _ same_halts os z e f = absurd cc

  left_further : (C : Type 0) (d : D) (s : State S N V W) (t : State R N V W) → Catch s t → (os : List (Output V)) (z : Session D S N V W) → First d s ≡ moves os z →
      ((d : D) (s : State S N V W) (t : State R N V W) → Catch s t → z ≡ record { debugger = d; state = s } → C) → C
  left_further C d s _ (in_step t e i) os z q f = left_moves C _ _ (alike d _ _ i) os z q f
  left_further C d s _ (behind_one_step t t' e k) os z q f = left_further C d s t' k os z q f

  right_further : (C : Type 0) (d : D) (s : State S N V W) (t : State R N V W) → Catch s t → (os : List (Output V)) (z : Session D R N V W) → Second d t ≡ moves os z →
      ((d : D) (s : State S N V W) (t : State R N V W) → Catch s t → z ≡ record { debugger = d; state = t } → C) → C
  right_further C d s _ (in_step t e i) os z q f = right_moves C _ _ (alike d _ _ i) os z q f
  right_further C d s _ (behind_one_step t t' e k) os z q f =
      let r : moves os z ≡ moves [] (record { debugger = d; state = t' }) = sym q ∙ ap (move_by second host ask d) e in
      let b : z ≡ record { debugger = d; state = t' } = cc in f d s t' k b

  first_comes : (x y : Session D S N V W) (os : List (Output V)) → Goes first host ask m x os y → (d : D) (s : State S N V W) (t : State R N V W) → Catch s t →
      x ≡ record { debugger = d; state = s } → NotStuck (step first host m y.state)
  first_comes x _ _ (stays _) d s t k b = subst (λ z. NotStuck (step first host m z.state)) (sym b) (first_not_stuck s t k)
  first_comes x _ _ (goes_further _ y z os ps e g) d s t k b =
      left_further (NotStuck (step first host m z.state)) d s t k os y (ap (move first host ask m) (sym b) ∙ e) (λ d' s' t' k' b'. first_comes y z ps g d' s' t' k' b')

  second_comes : (x y : Session D R N V W) (os : List (Output V)) → Goes second host ask m x os y → (d : D) (s : State S N V W) (t : State R N V W) → Catch s t →
      x ≡ record { debugger = d; state = t } → NotStuck (step second host m y.state)
  second_comes x _ _ (stays _) d s t k b = subst (λ z. NotStuck (step second host m z.state)) (sym b) (second_not_stuck s t k)
  second_comes x _ _ (goes_further _ y z os ps e g) d s t k b =
      right_further (NotStuck (step second host m z.state)) d s t k os y (ap (move second host ask m) (sym b) ∙ e) (λ d' s' t' k' b'. second_comes y z ps g d' s' t' k' b')

  module _ (b : BlockId) (names : N) (w : W) (d : D) where
    abbrev begun : Catch (start first b names w) (start second b names w)
    begun = caught _ _ (same_start first second At Stands Lands law host ask b names w)

    pub begin_alike : BeginAlike first second host ask m b names w d
    begin_alike os =
        (λ h. reach d _ os (λ y i. forward _ os h y i) _ begun, λ h. backward _ os h d _ _ begun refl)

    pub first_never_halts : NeverHalts first host ask m (session first b names w d)
    first_never_halts os y g e = halted first host ask m _ (not_halted first host ask m y.debugger _ (first_comes _ y os g d _ _ begun refl)) e

    pub second_never_halts : NeverHalts second host ask m (session second b names w d)
    second_never_halts os y g e = halted second host ask m _ (not_halted second host ask m y.debugger _ (second_comes _ y os g d _ _ begun refl)) e
