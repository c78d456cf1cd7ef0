-- Where one machine follows the turns of another, its bare runs write nothing first but what the other's write.
use Rattle.std.proofs.Common.{◌≡◌, ℕ, List, [], ◌∷◌, ◌++◌, refl, sym, ap, ◌∙◌, subst}
use Rattle.sem_run.specs.run.Machine.{BlockId, Machine}
use Rattle.sem_run.specs.run.Host.{Host}
use Rattle.sem_run.specs.run.Run.{Write}
use Rattle.pt_bare_runs.specs.Strides.{State, Stride, goes, stride, start}
use Rattle.pt_bare_writes.specs.Fronts.{written_by, WritesFirst, within, beyond, RunWritesFirst}
use Rattle.pt_bare_code.specs.Turns.{FollowsTurns, WritesNothingElse}
use Rattle.pt_bare_code.proofs.Relation.{SameState, SameStride, same_goes, same_ends, both_stuck}
use Rattle.pt_bare_code.proofs.Strides.{Catches, in_stride, behind_one_stride, catches}
use Rattle.pt_bare_code.proofs.Runs.{same_start}

none_before : (ws rest : List Write) → ws ++ rest ≡ [] → ws ≡ []
none_before [] rest e = refl
none_before (w ∷ ws) rest e = absurd cc

module _ {S R N V W : Type 0} (first : Machine S V) (second : Machine R V) (host : Host N V W) (At : BlockId → S → R → Type 0)
    (law : FollowsTurns first second At) (n : ℕ) where
  abbrev Same : Stride S N V W → Stride R N V W → Type 0
  Same x y = SameStride first second At x y

  abbrev Catch : State S N V W → State R N V W → Type 0
  Catch s t = Catches first second host At law n s t

  abbrev First : Stride S N V W → List Write → Type 0
  First x ws = WritesFirst first host n x ws

  abbrev Second : Stride R N V W → List Write → Type 0
  Second y ws = WritesFirst second host n y ws

  same_written : (x : Stride S N V W) (y : Stride R N V W) → Same x y → written_by x ≡ written_by y
  same_written _ _ (same_goes ws s t h) = refl
  same_written _ _ (same_ends ws u e) = refl
  same_written _ _ both_stuck = refl

  go_same : (x : Stride S N V W) (y : Stride R N V W) → Same x y → (ws : List Write) (z : State R N V W) (vs : List Write) → goes ws z ≡ y
      → ((s : State S N V W) (t : State R N V W) → Catch s t → z ≡ t → First (stride first host n s) vs) → First x (ws ++ vs)
  go_same _ _ (same_goes us s t h) ws z vs q f =
      let a : ws ≡ us = cc in
      let b : z ≡ t = cc in
      subst (λ k. First (goes us s) (k ++ vs)) (sym a) (beyond us s vs (f s t (catches first second host At law n s t h) b))
  go_same _ _ (same_ends us u e) ws z vs q f = absurd cc
  go_same _ _ both_stuck ws z vs q f = absurd cc

  backward : (y : Stride R N V W) (ws : List Write) → Second y ws → (s : State S N V W) (t : State R N V W) → Catch s t → y ≡ stride second host n t
      → First (stride first host n s) ws
  backward _ _ (within y ws rest is) s _ (in_stride t i) q = within _ ws rest (same_written _ _ i ∙ ap written_by (sym q) ∙ is)
  backward _ _ (within y ws rest is) s _ (behind_one_stride t t' e k) q =
      let silent : ws ++ rest ≡ [] = sym is ∙ ap written_by (q ∙ e) in
      subst (First (stride first host n s)) (sym (none_before ws rest silent)) (within _ [] (written_by (stride first host n s)) refl)
  backward _ _ (beyond ws z vs f) s _ (in_stride t i) q =
      go_same _ _ i ws z vs q (λ s' t' k b. backward _ vs f s' t' k (ap (stride second host n) b))
  backward _ _ (beyond ws z vs f) s _ (behind_one_stride t t' e k) q =
      let r : goes ws z ≡ goes [] t' = q ∙ e in
      let a : ws ≡ [] = cc in
      let b : z ≡ t' = cc in
      subst (λ us. First (stride first host n s) (us ++ vs)) (sym a) (backward _ vs f s t' k (ap (stride second host n) b))

  goes_back : (b : BlockId) (names : N) (w : W) (ws : List Write) → RunWritesFirst second host n b names w ws → RunWritesFirst first host n b names w ws
  goes_back b names w _ (within _ ws rest is) = within _ ws rest is
  goes_back b names w _ (beyond ws z vs f) =
      beyond _ _ vs (backward _ vs f (start first host b names w) (start second host b names w) (catches first second host At law n _ _ (same_start first second host At law n b names w)) refl)

module _ {S R N V W : Type 0} (first : Machine S V) (second : Machine R V) (At : BlockId → S → R → Type 0) (law : FollowsTurns first second At)
    (host : Host N V W) where
  pub writes_nothing_else : (n : ℕ) (b : BlockId) (names : N) (w : W) → WritesNothingElse first second host n b names w
  writes_nothing_else n b names w = goes_back first second host At law n b names w
