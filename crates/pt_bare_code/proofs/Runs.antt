-- Bare runs of two machines of which the one follows the turns of the other come to the same outcomes.
use Rattle.std.proofs.Common.{◌≡◌, ℕ, List, [], true, false, None, refl, sym, ap, ◌∙◌, subst}
use Rattle.sem_run.specs.run.Machine.{BlockId, Machine}
use Rattle.sem_run.specs.run.Events.{starts}
use Rattle.sem_run.specs.run.Host.{Host}
use Rattle.sem_run.specs.run.Run.{Write}
use Rattle.pt_bare_runs.specs.Strides.{State, Ending, Stride, goes, ends, stride, logged, start, Outcome, outcome_behind, Comes, ends_so, goes_on}
use Rattle.pt_bare_code.specs.Turns.{FollowsTurns, HaveTheSameBareRuns}
use Rattle.pt_bare_code.proofs.Relation.{Pair, SameState, same_state, SameStride, same_goes, same_ends, both_stuck, none_wait}
use Rattle.pt_bare_code.proofs.Strides.{Catches, in_stride, behind_one_stride, catches}

module _ {S R N V W : Type 0} (first : Machine S V) (second : Machine R V) (host : Host N V W) (At : BlockId → S → R → Type 0)
    (law : FollowsTurns first second At) (n : ℕ) where
  abbrev Same : Stride S N V W → Stride R N V W → Type 0
  Same x y = SameStride first second At x y

  abbrev Catch : State S N V W → State R N V W → Type 0
  Catch s t = Catches first second host At law n s t

  abbrev First : Stride S N V W → Outcome V W → Type 0
  First x o = Comes first host n x o

  abbrev Second : Stride R N V W → Outcome V W → Type 0
  Second y o = Comes second host n y o

  -- the second run has what the first comes to
  reach : (s : State S N V W) (o : Outcome V W) → ((y : Stride R N V W) → Same (stride first host n s) y → Second y o)
      → (t : State R N V W) → Catch s t → Second (stride second host n t) o
  reach s o f _ (in_stride t i) = f _ i
  reach s o f _ (behind_one_stride t t' e k) = subst (λ z. Second z o) (sym e) (goes_on [] t' o (reach s o f t' k))

  forward : (x : Stride S N V W) (o : Outcome V W) → First x o → (y : Stride R N V W) → Same x y → Second y o
  forward _ _ (ends_so ws u e) _ (same_ends _ _ _) = ends_so ws u e
  forward _ _ (goes_on ws _ o c) _ (same_goes _ s t h) = goes_on ws t o (reach s o (λ y i. forward _ o c y i) t (catches first second host At law n s t h))

  -- and the other way round: where the second run goes on, and where it ends
  go_same : (x : Stride S N V W) (y : Stride R N V W) → Same x y → (ws : List Write) (z : State R N V W) (o : Outcome V W) → goes ws z ≡ y
      → ((s : State S N V W) (t : State R N V W) → Catch s t → z ≡ t → First (stride first host n s) o) → First x (outcome_behind ws o)
  go_same _ _ (same_goes vs s t h) ws z o q f =
      let a : ws ≡ vs = cc in
      let b : z ≡ t = cc in
      subst (λ k. First (goes vs s) (outcome_behind k o)) (sym a) (goes_on vs s o (f s t (catches first second host At law n s t h) b))
  go_same _ _ (same_ends vs u e) ws z o q f = absurd cc
  go_same _ _ both_stuck ws z o q f = absurd cc

  end_same : (x : Stride S N V W) (y : Stride R N V W) → Same x y → (ws : List Write) (u : ℕ) (e : Ending V W) → ends ws u e ≡ y
      → First x (record { written = ws; units = u; ending = e })
  end_same _ _ (same_goes vs s t h) ws u e q = absurd cc
  end_same _ _ (same_ends vs u1 e1) ws u e q =
      let a : ws ≡ vs = cc in
      let b : u ≡ u1 = cc in
      let c : e ≡ e1 = cc in
      subst (λ k. First (ends vs u1 e1) (record { written = k; units = u; ending = e })) (sym a)
      (subst (λ k. First (ends vs u1 e1) (record { written = vs; units = k; ending = e })) (sym b)
      (subst (λ k. First (ends vs u1 e1) (record { written = vs; units = u1; ending = k })) (sym c) (ends_so vs u1 e1)))
  end_same _ _ both_stuck ws u e q = absurd cc

  backward : (y : Stride R N V W) (o : Outcome V W) → Second y o → (s : State S N V W) (t : State R N V W) → Catch s t → y ≡ stride second host n t
      → First (stride first host n s) o
  backward _ _ (ends_so ws u e) s _ (in_stride t i) q = end_same _ _ i ws u e q
  backward _ _ (ends_so ws u e) s _ (behind_one_stride t t' f k) q = let r : ends ws u e ≡ goes [] t' = q ∙ f in absurd cc
  backward _ _ (goes_on ws z o c) s _ (in_stride t i) q =
      go_same _ _ i ws z o q (λ s' t' k b. backward _ o c s' t' k (ap (stride second host n) b))
  backward _ _ (goes_on ws z o c) s _ (behind_one_stride t t' f k) q =
      let r : goes ws z ≡ goes [] t' = q ∙ f in
      let a : ws ≡ [] = cc in
      let b : z ≡ t' = cc in
      subst (λ w. First (stride first host n s) (outcome_behind w o)) (sym a) (backward _ o c s t' k (ap (stride second host n) b))

  start_pair : BlockId → N → W → Pair N W first second At
  start_pair b names w = record {
    frame = record { number = 0; block = b; names = names; line = None; trace = None; traces_lines = true; of_generator = false };
    one = first.start b None;
    other = second.start b None;
    act = 0;
    behind_jump = false;
    waiting = [];
    other_waiting = [];
    same_waiting = none_wait;
    world = w;
    units = 0;
    frames = 1;
  }

  pub same_start : (b : BlockId) (names : N) (w : W) → SameState first second At (start first host b names w) (start second host b names w)
  unfolding start_pair
  same_start b names w = same_state (start_pair b names w) (law.begins b None)

  abbrev starting : (b : BlockId) (names : N) (w : W) → Same (goes (logged first host starts (start first host b names w)) (start first host b names w))
      (goes (logged second host starts (start second host b names w)) (start second host b names w))
  starting b names w = same_goes _ _ _ (same_start b names w)

  abbrev started : (b : BlockId) (names : N) (w : W) → Stride S N V W
  started b names w = goes (logged first host starts (start first host b names w)) (start first host b names w)

  goes_back : (b : BlockId) (names : N) (w : W) (o : Outcome V W) → Second (goes (logged second host starts (start second host b names w)) (start second host b names w)) o
      → First (goes (logged first host starts (start first host b names w)) (start first host b names w)) o
  goes_back b names w _ (goes_on ws z o c) =
      goes_on _ _ o (backward _ o c (start first host b names w) (start second host b names w) (catches first second host At law n _ _ (same_start b names w)) refl)

module _ {S R N V W : Type 0} (first : Machine S V) (second : Machine R V) (At : BlockId → S → R → Type 0) (law : FollowsTurns first second At)
    (host : Host N V W) where
  pub have_the_same_bare_runs : (n : ℕ) (b : BlockId) (names : N) (w : W) → HaveTheSameBareRuns first second host n b names w
  have_the_same_bare_runs n b names w o =
      (λ c. forward first second host At law n _ o c _ (starting first second host At law n b names w), goes_back first second host At law n b names w o)
