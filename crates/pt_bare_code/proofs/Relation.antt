-- States of two bare runs that stand for each other: all is the same but the machines' states, and these stand for each other, also in the
-- activations that wait.
use Rattle.std.proofs.Common.{◌≡◌, ℕ, suc, List, [], ◌∷◌, length, Bool, refl, ap, ◌∙◌}
use Rattle.sem_control.specs.control.Bases.{or_else}
use Rattle.sem_control.specs.control.Turn.{Ask}
use Rattle.sem_run.specs.run.Machine.{BlockId, Machine}
use Rattle.sem_run.specs.run.Host.{Host, Store, BlockResult, Frame}
use Rattle.sem_run.specs.run.State.{Activation}
use Rattle.sem_run.specs.run.Follows.{Nears}
use Rattle.sem_run.specs.run.Run.{Write}
use Rattle.sem_run.specs.transitions.Successors.{Successor}
use Rattle.pt_bare_runs.specs.Strides.{Waiting, State, Ending, Stride, goes, ends, is_stuck, behind, frames_in, active_in}
use Rattle.pt_bare_code.specs.Alike.{Alike}

abbrev pub act_of : {X N V : Type 0} → Frame N V → X → ℕ → Bool → Activation X N V
act_of f c n j = record { frame = f; state = c; act = n; behind_jump = j }

module _ {S R N V W : Type 0} (first : Machine S V) (second : Machine R V) (At : BlockId → S → R → Type 0) where
  pub data SameWaiting : List (Waiting S N V W) → List (Waiting R N V W) → Type 0 where
    none_wait : SameWaiting [] []
    more_wait : (f : Frame N V) (c : S) (t : R) (n : ℕ) (j : Bool) (a : Ask V) (leads : BlockResult N V → Store N W → Successor S N V W)
        (leads' : BlockResult N V → Store N W → Successor R N V W) (os : List (Waiting S N V W)) (ps : List (Waiting R N V W)) → At f.block c t
        → ((r : BlockResult N V) (st : Store N W) → Alike (Nears first second At f.block) (leads r st) (leads' r st)) → SameWaiting os ps
        → SameWaiting (record { activation = act_of f c n j; ask = a; leads = leads } ∷ os) (record { activation = act_of f t n j; ask = a; leads = leads' } ∷ ps)

  pub same_depth : (os : List (Waiting S N V W)) (ps : List (Waiting R N V W)) → SameWaiting os ps → length os ≡ length ps
  same_depth _ _ none_wait = refl
  same_depth _ _ (more_wait f c t n j a g g' os ps h k r) = ap suc (same_depth os ps r)

  pub same_frames : (os : List (Waiting S N V W)) (ps : List (Waiting R N V W)) → SameWaiting os ps → frames_in os ≡ frames_in ps
  same_frames _ _ none_wait = refl
  same_frames _ _ (more_wait f c t n j a g g' os ps h k r) = ap (◌∷◌ f) (same_frames os ps r)

module _ {S R N V W : Type 0} (first : Machine S V) (second : Machine R V) (host : Host N V W) (At : BlockId → S → R → Type 0)
    (active : (b : BlockId) (c : S) (t : R) → At b c t → first.active c ≡ second.active t) where
  pub same_active_in : (os : List (Waiting S N V W)) (ps : List (Waiting R N V W)) → SameWaiting first second At os ps
      → active_in first host os ≡ active_in second host ps
  same_active_in _ _ none_wait = refl
  same_active_in _ _ (more_wait f c t n j a g g' os ps h k r) =
      ap (λ x. or_else x (active_in first host os)) (active f.block c t h) ∙ ap (or_else (second.active t)) (same_active_in os ps r)

module _ {S R V : Type 0} (N W : Type 0) (first : Machine S V) (second : Machine R V) (At : BlockId → S → R → Type 0) where
  -- what the two states have in common, and their machines' states with all that waits
  pub record Pair : Type 0 where
    pub frame : Frame N V
    pub one : S
    pub other : R
    pub act : ℕ
    pub behind_jump : Bool
    pub waiting : List (Waiting S N V W)
    pub other_waiting : List (Waiting R N V W)
    pub same_waiting : SameWaiting first second At waiting other_waiting
    pub world : W
    pub units : ℕ
    pub frames : ℕ

module _ {S R N V W : Type 0} (first : Machine S V) (second : Machine R V) (At : BlockId → S → R → Type 0) where
  abbrev pub left : Pair N W first second At → State S N V W
  left p = record { here = act_of p.frame p.one p.act p.behind_jump; waiting = p.waiting; world = p.world; units = p.units; frames = p.frames }

  abbrev pub right : Pair N W first second At → State R N V W
  right p = record { here = act_of p.frame p.other p.act p.behind_jump; waiting = p.other_waiting; world = p.world; units = p.units; frames = p.frames }

  pub data SameState : State S N V W → State R N V W → Type 0 where
    same_state : (p : Pair N W first second At) → Nears first second At p.frame.block p.one p.other → SameState (left p) (right p)

  pub data SameStride : Stride S N V W → Stride R N V W → Type 0 where
    same_goes : (ws : List Write) (s : State S N V W) (t : State R N V W) → SameState s t → SameStride (goes ws s) (goes ws t)
    same_ends : (ws : List Write) (u : ℕ) (e : Ending V W) → SameStride (ends ws u e) (ends ws u e)
    both_stuck : SameStride is_stuck is_stuck

  pub same_behind : (ws : List Write) (x : Stride S N V W) (y : Stride R N V W) → SameStride x y → SameStride (behind ws x) (behind ws y)
  same_behind ws _ _ (same_goes vs s t h) = same_goes _ s t h
  same_behind ws _ _ (same_ends vs u e) = same_ends _ u e
  same_behind ws _ _ both_stuck = both_stuck
