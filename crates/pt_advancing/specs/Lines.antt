-- The line at which the machine leaves the profile of the language: that of the innermost visible
-- frame, which is the newest one where none is.
use Rattle.std.specs.Prelude.{ℕ, List, [], ◌∷◌, if◌then◌else◌}
use Rattle.pt_base.specs.declared.what.What.{What}
use Rattle.pt_closing.specs.pt_beginning.pt_machine_state.declared.blocks.Blocks.{Blocks}
use Rattle.pt_closing.specs.pt_beginning.pt_machine_state.declared.machine.MachineEnd.{MachineEnd}
use Rattle.pt_closing.specs.pt_beginning.pt_machine_state.declared.machine.MachineEnd.TheVariants.{Outside}
use Rattle.pt_closing.specs.pt_beginning.pt_machine_state.Changes.{line_in}
use Rattle.pt_closing.specs.pt_purposes.declared.opener.Opener.{Opener}
use Rattle.pt_closing.specs.pt_beginning.pt_run_state.declared.machine.Machine.{Machine}

abbrev pub first_visible : Blocks → (otherwise : ℕ) → List Opener → ℕ
first_visible blocks l [] = l
first_visible blocks l (o ∷ os) =
    if o.running.activation.hidden then first_visible blocks l os
    else line_in blocks o.running.activation

abbrev pub visible_line : Blocks → Machine → ℕ
visible_line blocks m =
    if m.code.here.hidden then first_visible blocks (line_in blocks m.code.here) m.openers
    else line_in blocks m.code.here

abbrev pub left_at : Blocks → What → Machine → MachineEnd
left_at blocks what m = Outside what (record { 0 = visible_line blocks m })
