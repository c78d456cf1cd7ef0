-- The line at which the machine leaves the profile is that which is visible in the run.
use Rattle.std.proofs.Common.{◌≡◌, ◌∙◌, ℕ, List, ◌∷◌, Bool, true, false, refl, sym, ap}
use Rattle.std.specs.Prelude.{if◌then◌else◌}
use Rattle.std.specs.Option.{option_map}
use Rattle.pt_heap.specs.declared.value.Value.{Value}
use Rattle.sem_code_machine.specs.code_machine.CodeBlocks.{CodeBlocks}
use Rattle.sem_run.specs.run.Machine.{Machine, BlockId}
use Rattle.sem_run.specs.run.Host.{Host, Frame}
use Rattle.sem_run.specs.run.State as run
use Rattle.sem_run.specs.run.State.{State}
use Rattle.sem_run.specs.run.Views as views
use Rattle.sem_run.specs.run.Views.{line_or, line_of_first}
use Rattle.pt_closing.specs.pt_host.World.{Names, World, Program}
use Rattle.pt_closing.specs.pt_host.HeapHost.{heap_host}
use Rattle.pt_closing.specs.pt_beginning.pt_machine_state.declared.blocks.Blocks.{Blocks}
use Rattle.pt_closing.specs.pt_beginning.pt_machine_state.Blocks.{AreBlocksOf}
use Rattle.pt_closing.specs.pt_beginning.pt_machine_state.Changes.{line_in}
use Rattle.pt_closing.specs.pt_purposes.declared.opener.Opener.{Opener}
use Rattle.pt_closing.specs.pt_purposes.declared.opener.Running.{Running}
use Rattle.pt_closing.specs.pt_purposes.Seen.{block_of, frame_of}
use Rattle.pt_closing.specs.pt_purposes.Openers as openers
use Rattle.pt_closing.specs.pt_purposes.Openers.{Ways, AreOpeners}
use Rattle.pt_closing.specs.pt_beginning.pt_run_state.declared.machine.Machine.{Machine as Held}
use Rattle.pt_closing.specs.pt_beginning.pt_run_state.Stands.{newest, StandsAround}
use Rattle.pt_advancing.specs.Lines.{first_visible, visible_line}

module _ {S : Type 0} (program : Program) (code : CodeBlocks Value) (machine : Machine S Value)
    (ways : Ways S) (blocks : Blocks) (are : AreBlocksOf program code blocks) (m : Held) where
  abbrev host : Host Names Value World
  host = heap_host program

  abbrev frame : Running → Frame Names Value
  frame r = frame_of program m.hooks r

  line-so : (r : Running) → views.line_of host.first_line (frame r) ≡ line_in blocks r.activation
  line-so r =
      ap (λ l. line_or l (option_map (λ k. k.0) r.activation.line)) (sym (are (block_of r.activation)).first_line)

  abbrev Others : List (run.Opener S Names Value World) → List (Frame Names Value)
  Others os = views.visible (views.frames_of os)

  -- the first that is visible has the line
  first-so : (r : Running) (f : Frame Names Value) (fs : List (Frame Names Value)) (b : Bool) (l : ℕ)
      → line_of_first host.first_line f fs ≡ l
      → line_of_first host.first_line f (if b then fs else frame r ∷ fs)
      ≡ (if b then l else line_in blocks r.activation)
  first-so r f fs true l e = e
  first-so r f fs false l e = line-so r

  others-so : (f : Frame Names Value) (above : BlockId) (es : List Opener)
      (os : List (run.Opener S Names Value World)) → AreOpeners program machine ways m.hooks above es os
      → line_of_first host.first_line f (Others os)
      ≡ first_visible blocks (views.line_of host.first_line f) es
  others-so f _ _ _ (openers.none above) = refl
  others-so f _ _ _ (openers.more above e o es os is rest) =
      ap (λ g. line_of_first host.first_line f (views.visible (g ∷ views.frames_of os))) is.running.frame
      ∙ first-so e.running f (Others os) e.running.activation.hidden
      (first_visible blocks (views.line_of host.first_line f) es)
      (others-so f (block_of e.running.activation) es os rest)

  here-so : (r : Running) (b : Bool) (es : List Opener) (fs : List (Frame Names Value))
      → line_of_first host.first_line (frame r) fs
      ≡ first_visible blocks (views.line_of host.first_line (frame r)) es
      → line_of_first host.first_line (frame r) (if b then fs else frame r ∷ fs)
      ≡ (if b then first_visible blocks (line_in blocks r.activation) es else line_in blocks r.activation)
  here-so r true es fs e = e ∙ ap (λ l. first_visible blocks l es) (line-so r)
  here-so r false es fs e = line-so r

  pub line_is : (s : State S Names Value World) → StandsAround program machine ways m s
      → views.visible_line host.first_line s ≡ visible_line blocks m
  line_is s around =
      ap (λ f. line_of_first host.first_line f (views.visible (f ∷ views.frames_of s.openers))) around.here.frame
      ∙ here-so (newest m) m.code.here.hidden m.openers (Others s.openers)
      (others-so (frame (newest m)) (block_of m.code.here) m.openers s.openers around.openers)
