-- Runs of two machines that follow each other come to the same outcomes.
use Rattle.std.proofs.Common.{◌≡◌, ℕ, List, [], ◌∷◌, true, false, None, refl, sym, ap, ◌∙◌, subst}
use Rattle.sem_run.specs.run.Machine.{BlockId, Machine}
use Rattle.sem_run.specs.run.Events.{starts}
use Rattle.sem_run.specs.run.Host.{Host}
use Rattle.sem_run.specs.run.State.{State, Phase, start}
use Rattle.sem_run.specs.run.Views.{view_frames, visible}
use Rattle.sem_run.specs.run.Tools.{no_tools}
use Rattle.sem_run.specs.run.Outcome.{Output, Ending, Step}
use Rattle.sem_run.specs.run.Step.{step}
use Rattle.sem_run.specs.run.Run.{Debugger, Session, Move, moves, stops, halts, move, move_by, move_by_advice, consult, view_of, Outcome, outcome_behind, Comes, ends_so, goes_on}
use Rattle.sem_run.specs.run.Laws.{HaveTheSameRuns}
use Rattle.sem_run.specs.run.Follows.{Follows}
use Rattle.sem_run.proofs.run.Lines.{alone}
use Rattle.sem_run.proofs.run.Relation.{SameState, SameStep, same_goes, same_consults, same_ends, Pair, left, right, in_phase, same_tells, same_starting, same_frames, no_openers, no_generators}
use Rattle.sem_run.proofs.run.Following.{Catches, in_step, behind_one_step, catches, same_advice}

module _ {D S R N V W : Type 0} (first : Machine S V) (second : Machine R V) (host : Host N V W) (At Stands Lands : BlockId → S → R → Type 0) (law : Follows first second At Stands Lands)
    (ask : Debugger D N V W) (m : ℕ) where
  abbrev Same : State S N V W → State R N V W → Type 0
  Same s t = SameState first second At Stands Lands s t

  abbrev Catch : State S N V W → State R N V W → Type 0
  Catch s t = Catches first second host At Stands Lands law m s t

  -- moves that are the same
  pub data SameMove : Move D S N V W → Move D R N V W → Type 0 where
    same_moves : (os : List (Output V)) (d : D) (s : State S N V W) (t : State R N V W) → Same s t → SameMove (moves os (record { debugger = d; state = s })) (moves os (record { debugger = d; state = t }))
    same_stops : (os : List (Output V)) (d : D) (e : Ending N V W) → SameMove (stops os d e) (stops os d e)
    same_halts : SameMove halts halts

  same_by_advice : (os : List (Output V)) (d : D) (x : Step S N V W) (y : Step R N V W) → SameStep first second At Stands Lands x y →
      SameMove (move_by_advice first host ask os d x) (move_by_advice second host ask os d y)
  same_by_advice os d _ _ (same_goes ps s t h) = same_moves _ d s t h
  same_by_advice os d _ _ (same_consults q p h x y u u' i) = same_halts
  same_by_advice os d _ _ (same_ends e) = same_stops os d e

  same_views : (p : Pair N W first second At Stands Lands) (x : Phase S N V W) (y : Phase R N V W) →
      view_of first host ask (left first second At Stands Lands p x) ≡ view_of second host ask (right first second At Stands Lands p y)
  same_views p x y = ap (λ fs. record { frames = view_frames host.first_line (visible (p.frame ∷ fs)); world = p.world }) (same_frames first second At Stands Lands p.openers p.other_openers p.same_openers)

  pub same_move_by : (d : D) (x : Step S N V W) (y : Step R N V W) → SameStep first second At Stands Lands x y → SameMove (move_by first host ask d x) (move_by second host ask d y)
  same_move_by d _ _ (same_goes os s t h) = same_moves os d s t h
  same_move_by d _ _ (same_ends e) = same_stops [] d e
  same_move_by d _ _ (same_consults q p h x y u u' i) =
      subst (λ v. SameMove (consult first host ask (ask q (view_of first host ask (left first second At Stands Lands p x)) d) u (left first second At Stands Lands p x))
      (consult second host ask (ask q v d) u' (right first second At Stands Lands p y))) (same_views p x y)
      (same_by_advice _ _ _ _ (same_advice first second host At Stands Lands law p h x y _ u u' i))

  -- the second run has what the first comes to, and the other way round
  abbrev First : ℕ → Move D S N V W → Outcome D N V W → Type 0
  First u x o = Comes first host ask m u x o

  abbrev Second : ℕ → Move D R N V W → Outcome D N V W → Type 0
  Second u x o = Comes second host ask m u x o

  reach : (d : D) (s : State S N V W) (o : Outcome D N V W) → ((y : Move D R N V W) → SameMove (move_by first host ask d (step first host m s)) y → Second s.units y o) →
      (t : State R N V W) → Catch s t → Second t.units (move_by second host ask d (step second host m t)) o
  reach d s o f _ (in_step t e i) = subst (λ u. Second u (move_by second host ask d (step second host m t)) o) e (f _ (same_move_by d _ _ i))
  reach d s o f _ (behind_one_step t t' e k) =
      subst (λ z. Second t.units (move_by second host ask d z) o) (sym e) (goes_on t.units [] (record { debugger = d; state = t' }) o (reach d s o f t' k))

  forward : (u : ℕ) (x : Move D S N V W) (o : Outcome D N V W) → First u x o → (y : Move D R N V W) → SameMove x y → Second u y o
  forward u _ _ (ends_so _ os d e) _ (same_stops _ _ _) = ends_so u os d e
  forward u _ _ (goes_on _ os _ o c) _ (same_moves _ d s t h) =
      goes_on u os (record { debugger = d; state = t }) o (reach d s o (λ y i. forward s.units _ o c y i) t (catches first second host At Stands Lands law m s t h))

  pub follows_forward : (d : D) (s : State S N V W) (t : State R N V W) → Same s t → (o : Outcome D N V W) →
      First s.units (move_by first host ask d (step first host m s)) o → Second t.units (move_by second host ask d (step second host m t)) o
  follows_forward d s t h o c = reach d s o (λ y i. forward s.units _ o c y i) t (catches first second host At Stands Lands law m s t h)

  -- where the second run goes on
  go_same : (x : Move D S N V W) (y : Move D R N V W) → SameMove x y → (os : List (Output V)) (z : Session D R N V W) (o : Outcome D N V W) → moves os z ≡ y →
      ((d : D) (s : State S N V W) (t : State R N V W) → Catch s t → z ≡ record { debugger = d; state = t } → First s.units (move_by first host ask d (step first host m s)) o) →
      (u : ℕ) → First u x (outcome_behind os o)
  go_same _ _ (same_moves ps d s t h) os z o q f u =
      let a : os ≡ ps = cc in
      let b : z ≡ record { debugger = d; state = t } = cc in
      subst (λ k. First u (moves ps (record { debugger = d; state = s })) (outcome_behind k o)) (sym a)
      (goes_on u ps (record { debugger = d; state = s }) o (f d s t (catches first second host At Stands Lands law m s t h) b))
  go_same _ _ (same_stops ps d e) os z o q f u = absurd cc
  go_same _ _ same_halts os z o q f u = absurd cc

  -- where it ends
  end_same : (x : Move D S N V W) (y : Move D R N V W) → SameMove x y → (os : List (Output V)) (d : D) (e : Ending N V W) → stops os d e ≡ y → (u : ℕ) →
      First u x (record { outputs = os; units = u; ending = e; debugger = d })
  end_same _ _ (same_moves ps d1 s t h) os d e q u = absurd cc
  end_same _ _ (same_stops ps d1 e1) os d e q u =
      let a : os ≡ ps = cc in
      let b : d ≡ d1 = cc in
      let c : e ≡ e1 = cc in
      subst (λ k. First u (stops ps d1 e1) (record { outputs = k; units = u; ending = e; debugger = d })) (sym a)
      (subst (λ k. First u (stops ps d1 e1) (record { outputs = ps; units = u; ending = e; debugger = k })) (sym b)
      (subst (λ k. First u (stops ps d1 e1) (record { outputs = ps; units = u; ending = k; debugger = d1 })) (sym c) (ends_so u ps d1 e1)))
  end_same _ _ same_halts os d e q u = absurd cc

  backward : (u : ℕ) (y : Move D R N V W) (o : Outcome D N V W) → Second u y o → (d : D) (s : State S N V W) (t : State R N V W) → Catch s t → u ≡ t.units →
      y ≡ move_by second host ask d (step second host m t) → First s.units (move_by first host ask d (step first host m s)) o
  backward u _ _ (ends_so _ os d1 e1) d s _ (in_step t e i) n q =
      subst (λ k. First s.units (move_by first host ask d (step first host m s)) (record { outputs = os; units = k; ending = e1; debugger = d1 })) (e ∙ sym n)
      (end_same _ _ (same_move_by d _ _ i) os d1 e1 q s.units)
  backward u _ _ (ends_so _ os d1 e1) d s _ (behind_one_step t t' e k) n q =
      let r : stops os d1 e1 ≡ moves [] (record { debugger = d; state = t' }) = q ∙ ap (move_by second host ask d) e in absurd cc
  backward u _ _ (goes_on _ os z o c) d s _ (in_step t e i) n q =
      go_same _ _ (same_move_by d _ _ i) os z o q
      (λ d' s' t' k b. backward z.state.units _ o c d' s' t' k (ap (λ w. w.state.units) b) (ap (move second host ask m) b)) s.units
  backward u _ _ (goes_on _ os z o c) d s _ (behind_one_step t t' e k) n q =
      let r : moves os z ≡ moves [] (record { debugger = d; state = t' }) = q ∙ ap (move_by second host ask d) e in
      let a : os ≡ [] = cc in
      let b : z ≡ record { debugger = d; state = t' } = cc in
      subst (λ w. First s.units (move_by first host ask d (step first host m s)) (outcome_behind w o)) (sym a)
      (backward z.state.units _ o c d s t' k (ap (λ w. w.state.units) b) (ap (move second host ask m) b))

  pub follows_backward : (d : D) (s : State S N V W) (t : State R N V W) → Same s t → (o : Outcome D N V W) →
      Second t.units (move_by second host ask d (step second host m t)) o → First s.units (move_by first host ask d (step first host m s)) o
  follows_backward d s t h o c = backward t.units _ o c d s t (catches first second host At Stands Lands law m s t h) refl refl

module _ {D S R N V W : Type 0} (first : Machine S V) (second : Machine R V) (At Stands Lands : BlockId → S → R → Type 0) (law : Follows first second At Stands Lands)
    (host : Host N V W) (ask : Debugger D N V W) where
  start_pair : (b : BlockId) (names : N) (w : W) → Pair N W first second At Stands Lands
  start_pair b names w = record {
    frame = record { number = 0; block = b; names = names; line = None; trace = None; traces_lines = true; of_generator = false };
    one = first.start b None;
    other = second.start b None;
    act = 0;
    behind_jump = false;
    openers = [];
    other_openers = [];
    same_openers = no_openers;
    generators = [];
    other_generators = [];
    same_generators = no_generators;
    past = [];
    world = w;
    trace = None;
    tools = no_tools;
    units = 0;
    frames = 1;
  }

  pub same_start : (b : BlockId) (names : N) (w : W) → SameState first second At Stands Lands (start first b names w) (start second b names w)
  unfolding start_pair
  same_start b names w = in_phase (start_pair b names w) (law.starts b None) _ _ (same_tells (starts ∷ []) _ _ (same_starting _ _ (law.begins b None)) (alone {V = V} _ starts refl))

  pub have_the_same_runs : (n : ℕ) (b : BlockId) (names : N) (w : W) (d : D) → HaveTheSameRuns first second host ask n b names w d
  have_the_same_runs n b names w d o =
      (follows_forward first second host At Stands Lands law ask n d _ _ (same_start b names w) o, follows_backward first second host At Stands Lands law ask n d _ _ (same_start b names w) o)
