-- What the law says of what is seen.
use Rattle.std.specs.Prelude.{◌≡◌, ℕ, List}
use Rattle.sem_run.specs.run.Machine.{BlockId, Machine}
use Rattle.sem_run.specs.run.State.{State, is_silent, is_full}
use Rattle.sem_run.specs.run.Views.{here_of, visible_frames, visible_line}
use Rattle.law_steps.specs.waiting.Seen.{Seen, IsSeenSo, is_silent_by, is_full_by, here_by, visible_by, line_by}

-- what a run asks of its open activations is told by what is seen of them: whether nothing is told,
-- whether another one may open, where something is asked, the visible frames and the line of the
-- innermost of them
pub record IsToldBySeen {S N V W : Type 0} (machine : Machine S V) (x : Seen N V)
    (xs : List (Seen N V)) (s : State S N V W) : Type 0 where
  pub silent : is_silent s ≡ is_silent_by x xs
  pub full : is_full s ≡ is_full_by xs
  pub here : here_of machine s ≡ here_by x xs
  pub frames : visible_frames s ≡ visible_by x xs
  pub line : (first_line : BlockId → ℕ) → visible_line first_line s ≡ line_by first_line x xs

abbrev pub SeenTells : {S V : Type 0} → (N W : Type 0) → Machine S V → Type 0
SeenTells {S = S} {V = V} N W machine =
    (x : Seen N V) (xs : List (Seen N V)) (s : State S N V W) → IsSeenSo machine x xs s
    → IsToldBySeen machine x xs s
