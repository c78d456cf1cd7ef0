-- What is seen of the open activations, whatever they are open for: their frames, the exceptions that
-- are active in them, and which wait for hooks (Language Reference 4.1, 7.8).
use Rattle.std.specs.Prelude.{◌≡◌, ℕ, suc, nat_le, List, [], ◌∷◌, length, map, Bool, false, ◌||◌, Option, None}
use Rattle.sem_control.specs.control.Bases.{or_else}
use Rattle.sem_run.specs.run.Machine.{BlockId, Machine}
use Rattle.sem_run.specs.run.Host.{Frame, Here}
use Rattle.sem_run.specs.run.State.{Opener, State, is_hook_open, most_activations}
use Rattle.sem_run.specs.run.Views.{visible, line_of_first}

pub record Seen (N V : Type 0) : Type 0 where
  pub frame : Frame N V
  -- the exception that is active in it
  pub active : Option V
  -- a hook's function is open above it
  pub waits_for_hook : Bool

module _ {S N V W : Type 0} (machine : Machine S V) where
  pub record IsSeen (x : Seen N V) (o : Opener S N V W) : Type 0 where
    pub frame : o.activation.frame ≡ x.frame
    pub active : machine.active o.activation.state ≡ x.active
    pub hook : is_hook_open o.purpose ≡ x.waits_for_hook

  pub data AllSeen : List (Seen N V) → List (Opener S N V W) → Type 0 where
    none : AllSeen [] []
    more : (x : Seen N V) (o : Opener S N V W) (xs : List (Seen N V))
        (os : List (Opener S N V W)) → IsSeen x o → AllSeen xs os → AllSeen (x ∷ xs) (o ∷ os)

  -- the newest activation and those that wait, the newest first
  pub record IsSeenSo (x : Seen N V) (xs : List (Seen N V)) (s : State S N V W) : Type 0 where
    pub frame : s.here.frame ≡ x.frame
    pub active : machine.active s.here.state ≡ x.active
    pub others : AllSeen xs s.openers

module _ {N V : Type 0} where
  abbrev pub hook_runs_by : List (Seen N V) → Bool
  hook_runs_by [] = false
  hook_runs_by (x ∷ xs) = x.waits_for_hook || hook_runs_by xs

  abbrev pub active_by : List (Seen N V) → Option V
  active_by [] = None
  active_by (x ∷ xs) = or_else x.active (active_by xs)

  abbrev pub frames_by : List (Seen N V) → List (Frame N V)
  frames_by xs = map (λ x. x.frame) xs

  abbrev pub is_silent_by : Seen N V → List (Seen N V) → Bool
  is_silent_by x xs = x.frame.block.hidden || hook_runs_by xs

  abbrev pub is_full_by : List (Seen N V) → Bool
  is_full_by xs = nat_le most_activations (suc (length xs))

  abbrev pub here_by : Seen N V → List (Seen N V) → Here V
  here_by x xs = record {
    frame = x.frame.number;
    block = x.frame.block;
    active = active_by (x ∷ xs);
  }

  abbrev pub visible_by : Seen N V → List (Seen N V) → List (Frame N V)
  visible_by x xs = visible (frames_by (x ∷ xs))

  abbrev pub line_by : (first_line : BlockId → ℕ) → Seen N V → List (Seen N V) → ℕ
  line_by first_line x xs = line_of_first first_line x.frame (visible_by x xs)
