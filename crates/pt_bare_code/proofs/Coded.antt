-- The code of a script's blocks follows the turns of their control.
use Rattle.std.proofs.Common.{◌≡◌, ℕ, sym}
use Rattle.sem_control.specs.control.Turn.{Turn}
use Rattle.sem_control.specs.control.Frames.{Control}
use Rattle.sem_code.specs.slots.Slots.{State}
use Rattle.sem_code.specs.comp.Law as comp
use Rattle.sem_code.specs.comp.Law.{Match}
use Rattle.sem_code.proofs.comp.Steps as steps
use Rattle.sem_run.specs.run.Machine.{BlockId, Machine, turn_in}
use Rattle.sem_run.specs.run.Host.{Host}
use Rattle.sem_run.specs.run.Source as source_of
use Rattle.sem_run.specs.run.Source.{Source}
use Rattle.sem_run.specs.run.Follows.{Nears, there, moves}
use Rattle.law_code_runs.proofs.code_run.Following.{begin_by}
use Rattle.sem_code_machine.specs.code_machine.CodeBlocks as code_of
use Rattle.sem_code_machine.specs.code_machine.CodeBlocks.{CodeBlocks}
use Rattle.pt_bare_code.specs.Turns.{AlikeTurns, alike_acts, alike_notes, alike_ends, FollowsTurns, HaveTheSameBareRuns, IsStuckNowhereElse, WritesNothingElse}
use Rattle.pt_bare_code.specs.Law.{HaveTheirCode}
use Rattle.pt_bare_code.proofs.Runs.{have_the_same_bare_runs}
use Rattle.pt_bare_code.proofs.Stuck.{stuck_nowhere_else}
use Rattle.pt_bare_code.proofs.Writes.{writes_nothing_else}

module _ {V : Type 0} (source : Source V) (code : CodeBlocks V) where
  abbrev Script : Machine (source_of.Position V) V
  Script = source_of.machine source

  abbrev Coded : Machine (State V) V
  Coded = code_of.machine code

  -- states whose turns are alike
  data At (b : BlockId) : source_of.Position V → State V → Type 0 where
    at_match : (c : Control V) (t : State V) → Match (source.around b) (code.object b) c t → At b (source_of.at c) t

  comes_near : (b : BlockId) (c : Control V) (t : State V) → comp.Comes (source.around b) (code.object b) c t → Nears Script Coded At b (source_of.at c) t
  comes_near b _ _ (comp.there c t m) = there _ (at_match c t m)
  comes_near b _ _ (comp.moves c t u e h) = moves _ _ e (comes_near b c u h)

  same : (b : BlockId) (x : Turn (Control V) V) (y : Turn (State V) V) → comp.Same (source.around b) (code.object b) x y
      → AlikeTurns Script Coded At b (turn_in source_of.at x) y
  same b _ _ (comp.same_act m a k k' h) = alike_acts m a _ _ (λ r. comes_near b _ _ (h r))
  same b _ _ (comp.same_note a k k' h) = alike_notes a _ _ (λ r. comes_near b _ _ (h r))
  same b _ _ (comp.same_over e) = alike_ends e

  turns : (b : BlockId) (p : source_of.Position V) (t : State V) → At b p t → AlikeTurns Script Coded At b (Script.turn b p) (Coded.turn b t)
  turns b _ _ (at_match c t m) = same b _ _ (steps.follows (source.around b) (code.object b) c t m)

  same_active : (b : BlockId) (p : source_of.Position V) (t : State V) → At b p t → Script.active p ≡ Coded.active t
  same_active b _ _ (at_match c t m) = sym (steps.active_alike (source.around b) (code.object b) c t m)

  code_follows : HaveTheirCode source code → FollowsTurns Script Coded At
  code_follows of = record {
    turns = turns;
    begins = λ b i. comes_near b _ _ (begin_by (source.around b) (code.object b) (code.iterates b) (source.code b) i (of b));
    active = same_active;
  }

module _ {N V W : Type 0} where
  pub has_the_bare_runs : (source : Source V) (code : CodeBlocks V) → HaveTheirCode source code → (host : Host N V W) (n : ℕ) (block : BlockId) (names : N) (world : W)
      → HaveTheSameBareRuns (source_of.machine source) (code_of.machine code) host n block names world
  has_the_bare_runs source code of host n block names world =
      have_the_same_bare_runs (Script source code) (Coded source code) (At source code) (code_follows source code of) host n block names world

  pub is_stuck_nowhere_else : (source : Source V) (code : CodeBlocks V) → HaveTheirCode source code → (host : Host N V W) (n : ℕ) (block : BlockId) (names : N)
      (world : W) → IsStuckNowhereElse (source_of.machine source) (code_of.machine code) host n block names world
  is_stuck_nowhere_else source code of host n block names world =
      stuck_nowhere_else (Script source code) (Coded source code) (At source code) (code_follows source code of) host n block names world

  pub code_writes_nothing_else : (source : Source V) (code : CodeBlocks V) → HaveTheirCode source code → (host : Host N V W) (n : ℕ) (block : BlockId) (names : N)
      (world : W) → WritesNothingElse (source_of.machine source) (code_of.machine code) host n block names world
  code_writes_nothing_else source code of host n block names world =
      writes_nothing_else (Script source code) (Coded source code) (At source code) (code_follows source code of) host n block names world
