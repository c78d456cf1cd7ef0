-- The line of the innermost visible frame, and how a run leaves the profile there.
use Rattle.std.proofs.Common.{◌≡◌, ◌∙◌, ℕ, List, [], ◌∷◌, Bool, true, false, refl, sym, ap}
use Rattle.std.specs.Prelude.{if◌then◌else◌}
use Rattle.std.specs.Option.{option_map}
use Rattle.pt_base.specs.declared.numbers.Pc.{Pc}
use Rattle.pt_base.specs.declared.numbers.Line.{Line}
use Rattle.pt_base.specs.declared.what.What.{What}
use Rattle.pt_heap.specs.declared.value.Value.{Value}
use Rattle.pt_frames.specs.declared.activation.Activation.{Activation}
use Rattle.pt_frames.specs.declared.activations.OpenActivation.{OpenActivation}
use Rattle.sem_code.specs.slots.Slots.{State}
use Rattle.sem_run.specs.run.Machine.{BlockId}
use Rattle.sem_run.specs.run.Host.{Frame}
use Rattle.sem_run.specs.run.Views as views
use Rattle.sem_run.specs.run.Views.{line_or, visible, line_of_first}
use Rattle.pt_code_facts.specs.sem_rows.pt_host.World.{Names, Stores, Program}
use Rattle.pt_code_facts.specs.sem_rows.pt_host.HeapHost.{heap_host}
use Rattle.sem_run.specs.transitions.Successors as leads
use Rattle.pt_bare_runs.specs.Strides as bare
use Rattle.pt_bare_runs.specs.Strides.{with_store, frames_in, outside_at}
use Rattle.sem_code_machine.specs.code_machine.CodeBlocks.{CodeBlocks, machine}
use Rattle.pt_machine_state.specs.declared.blocks.BlockCode.{BlockCode}
use Rattle.pt_machine_state.specs.declared.blocks.Blocks.{Blocks}
use Rattle.pt_machine_state.specs.declared.machine.Machine.{Machine}
use Rattle.pt_machine_state.specs.declared.machine.MachineEnd.TheVariants as end
use Rattle.pt_machine_state.specs.declared.machine.Stride.TheVariants as stride
use Rattle.pt_machine_state.specs.declared.writes.Writes.{Writes}
use Rattle.pt_machine_state.specs.Blocks.{AreBlocksOf}
use Rattle.pt_machine_state.specs.Views.{Bare, Waits, Beside, AllWait, none, more, block_of, frame_of, run_in, stores_of}
use Rattle.pt_machine_state.specs.Changes.{line_in, first_visible, visible_line}
use Rattle.pt_machine_state.specs.Applies.{Asking, Stands, LedTo}
use Rattle.pt_machine_state.proofs.WriteLemmas.{adds_none}

module _ (program : Program) (code : CodeBlocks Value) (blocks : Blocks) (known : AreBlocksOf program code blocks) where
  abbrev first : BlockId → ℕ
  first b = (program.facts b).first_line

  line-is : (a : Activation) → views.line_of first (frame_of program a) ≡ line_in blocks a
  line-is a = ap (λ l. line_or l (option_map (λ k. k.0) a.line)) (sym (known (block_of a)).first_line)

  waiting-line : (f : Frame Names Value) (above : BlockId) (os : List OpenActivation) (ws : List Waits) → AllWait program code above os ws
      → line_of_first first f (visible (frames_in ws)) ≡ first_visible blocks (views.line_of first f) os
  waiting-line f _ _ _ (none b) = refl
  waiting-line f _ _ _ (more b o w os ws waits rest) =
      ap (λ a. line_of_first first f (if a.frame.block.hidden then visible (frames_in ws) else a.frame ∷ visible (frames_in ws))) waits.seen
      ∙ by o.activation.hidden (waiting-line f (block_of o.activation) os ws rest)
    where
      by : (b : Bool) → line_of_first first f (visible (frames_in ws)) ≡ first_visible blocks (views.line_of first f) os
          → line_of_first first f (if b then visible (frames_in ws) else frame_of program o.activation ∷ visible (frames_in ws))
          ≡ (if b then first_visible blocks (views.line_of first f) os else line_in blocks o.activation)
      by true e = e
      by false e = line-is o.activation

  pub visible-line : (m : Machine) (x : Beside) (c : State Value) → AllWait program code (block_of m.here) m.frames.activations x.waiting
      → bare.visible_line (machine code) (heap_host program) (run_in program c m x) ≡ visible_line blocks m
  visible-line m x c waiting = by m.here.hidden
    where
      by : (b : Bool) → line_of_first first (frame_of program m.here) (if b then visible (frames_in x.waiting) else frame_of program m.here ∷ visible (frames_in x.waiting))
          ≡ (if b then first_visible blocks (line_in blocks m.here) m.frames.activations else line_in blocks m.here)
      by true = waiting-line (frame_of program m.here) (block_of m.here) m.frames.activations x.waiting waiting
          ∙ ap (λ l. first_visible blocks l m.frames.activations) (line-is m.here)
      by false = line-is m.here

-- names have no part in it
stored-line : (program : Program) (code : CodeBlocks Value) (st : Stores) (s : Bare)
    → bare.visible_line (machine code) (heap_host program) s ≡ bare.visible_line (machine code) (heap_host program) (with_store st s)
stored-line program code st s = by s.here.frame.block.hidden
  where
    otherwise : (fs : List (Frame Names Value)) → line_of_first (λ b. (program.facts b).first_line) s.here.frame fs ≡ line_of_first (λ b. (program.facts b).first_line) (record s.here.frame { names = st.names }) fs
    otherwise [] = refl
    otherwise (f ∷ fs) = refl

    by : (b : Bool) → line_of_first (λ b. (program.facts b).first_line) s.here.frame (if b then visible (frames_in s.waiting) else s.here.frame ∷ visible (frames_in s.waiting))
        ≡ line_of_first (λ b. (program.facts b).first_line) (record s.here.frame { names = st.names }) (if b then visible (frames_in s.waiting) else record s.here.frame { names = st.names } ∷ visible (frames_in s.waiting))
    by true = otherwise (visible (frames_in s.waiting))
    by false = refl

-- the run leaves the profile
pub outside-led : (blocks : Blocks) (block : BlockCode) (next : Pc) (m new : Machine) (w : Writes) (what : What) (line : Line) (q : Asking) → Stands blocks block next m q
    → new.units ≡ m.units → line.0 ≡ visible_line blocks m → LedTo (leads.outside what) q (stride.Ends (end.Outside what line)) m w new w
outside-led blocks block next m new w what line q stands same is s stored = (
  end.Outside what line,
  (
    refl,
    (
      adds_none w,
      (
        ap (λ t. t.units) stored ∙ sym same,
        ap (λ l. outside_at what l) (stored-line q.program q.code (stores_of q.program m) s ∙ ap (λ t. bare.visible_line (machine q.code) (heap_host q.program) t) stored
            ∙ visible-line q.program q.code blocks stands.blocks_known m q.beside q.before stands.waiting ∙ sym is),
      ),
    ),
  ),
)
