-- What is seen of open activations tells what a run asks of them.
use Rattle.std.proofs.Common.{◌≡◌, suc, ◌||◌, List, ◌∷◌, length, Option, refl, ap, ◌∙◌}
use Rattle.std.specs.Prelude.{nat_le}
use Rattle.sem_control.specs.control.Bases.{or_else}
use Rattle.sem_run.specs.run.Machine.{Machine}
use Rattle.sem_run.specs.run.Host.{Frame, Here}
use Rattle.sem_run.specs.run.State.{Opener, State, hook_runs, most_activations}
use Rattle.sem_run.specs.run.Views.{active_in, frames_of, visible, line_of_first}
use Rattle.law_steps.specs.waiting.Seen.{Seen, AllSeen, none, more, IsSeenSo, hook_runs_by, active_by, frames_by}
use Rattle.law_steps.specs.waiting.Laws.{IsToldBySeen, SeenTells}

module _ {S N V W : Type 0} (machine : Machine S V) where
  same_hooks : (xs : List (Seen N V)) (os : List (Opener S N V W)) → AllSeen machine xs os
      → hook_runs os ≡ hook_runs_by xs
  same_hooks _ _ none = refl
  same_hooks _ _ (more x o xs os is all) =
      ap (λ b. b || hook_runs os) is.hook
      ∙ ap (λ b. x.waits_for_hook || b) (same_hooks xs os all)

  same_active : (xs : List (Seen N V)) (os : List (Opener S N V W)) → AllSeen machine xs os
      → active_in machine os ≡ active_by xs
  same_active _ _ none = refl
  same_active _ _ (more x o xs os is all) =
      ap (λ a. or_else a (active_in machine os)) is.active
      ∙ ap (λ a. or_else x.active a) (same_active xs os all)

  same_frames : (xs : List (Seen N V)) (os : List (Opener S N V W)) → AllSeen machine xs os
      → frames_of os ≡ frames_by xs
  same_frames _ _ none = refl
  same_frames _ _ (more x o xs os is all) =
      ap (λ f. f ∷ frames_of os) is.frame ∙ ap (λ fs. x.frame ∷ fs) (same_frames xs os all)

  same_length : (xs : List (Seen N V)) (os : List (Opener S N V W)) → AllSeen machine xs os
      → length os ≡ length xs
  same_length _ _ none = refl
  same_length _ _ (more x o xs os is all) = ap (λ k. suc k) (same_length xs os all)

  module _ (x : Seen N V) (xs : List (Seen N V)) (s : State S N V W) (is : IsSeenSo machine x xs s)
    where
      all_frames : s.here.frame ∷ frames_of s.openers ≡ x.frame ∷ frames_by xs
      all_frames =
          ap (λ f. f ∷ frames_of s.openers) is.frame
          ∙ ap (λ fs. x.frame ∷ fs) (same_frames xs s.openers is.others)

      all_active : or_else (machine.active s.here.state) (active_in machine s.openers)
          ≡ active_by (x ∷ xs)
      all_active =
          ap (λ a. or_else a (active_in machine s.openers)) is.active
          ∙ ap (λ a. or_else x.active a) (same_active xs s.openers is.others)

      abbrev asked_in : Frame N V → Option V → Here V
      asked_in f a = record { frame = f.number; block = f.block; active = a }

      told : IsToldBySeen machine x xs s
      told = record {
        silent = ap (λ (f : Frame N V). f.block.hidden || hook_runs s.openers) is.frame
            ∙ ap (λ b. x.frame.block.hidden || b) (same_hooks xs s.openers is.others);
        full = ap (λ k. nat_le most_activations (suc k)) (same_length xs s.openers is.others);
        here = ap (λ f. asked_in f (or_else (machine.active s.here.state) (active_in machine s.openers))) is.frame
            ∙ ap (λ a. asked_in x.frame a) all_active;
        frames = ap (λ fs. visible fs) all_frames;
        line = λ first_line. ap (λ f. line_of_first first_line f (visible (s.here.frame ∷ frames_of s.openers))) is.frame
            ∙ ap (λ fs. line_of_first first_line x.frame (visible fs)) all_frames;
      }

pub seen_tells : {S V : Type 0} (N W : Type 0) (machine : Machine S V) → SeenTells N W machine
seen_tells N W machine x xs s is = told machine x xs s is
