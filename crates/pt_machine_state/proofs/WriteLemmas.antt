-- What is put behind what a run has to write.
use Rattle.std.proofs.Common.{◌≡◌, ◌∙◌, List, [], ◌∷◌, ◌++◌, Bool, true, false, refl, sym, ap, append_assoc, append-nil}
use Rattle.sem_run.specs.run.Run as run
use Rattle.sem_run.specs.run.Run.{to_out, to_log}
use Rattle.pt_heap.specs.declared.value.Value.{Value}
use Rattle.sem_code.specs.slots.Slots.{State}
use Rattle.pt_code_facts.specs.sem_rows.pt_host.World.{Names, World, Program}
use Rattle.pt_bare_runs.specs.Strides as bare
use Rattle.pt_bare_runs.specs.Strides.{behind}
use Rattle.sem_code_machine.specs.code_machine.CodeBlocks.{CodeBlocks}
use Rattle.pt_machine_state.specs.declared.machine.Machine.{Machine}
use Rattle.pt_machine_state.specs.declared.machine.Stride.{Stride}
use Rattle.pt_machine_state.specs.declared.writes.Writes.{Writes}
use Rattle.pt_machine_state.specs.Strode.{Strode}
use Rattle.pt_machine_state.specs.Writing.{Adds, pieces_of, kept, prints_among, put_if_printed}

pub kept-nil : (b : Bool) → kept b [] ≡ []
kept-nil true = refl
kept-nil false = refl

pub adds_none : (w : Writes) → Adds w w []
adds_none w = record { pieces = sym (append-nil (pieces_of w)) ∙ ap (λ ps. pieces_of w ++ ps) (sym (kept-nil w.events)); events = refl }

prints-append : (ws vs : List run.Write) → prints_among (ws ++ vs) ≡ prints_among ws ++ prints_among vs
prints-append [] vs = refl
prints-append (w ∷ ws) vs = by w.sink (prints-append ws vs)
  where
    by : (k : run.Sink) → prints_among (ws ++ vs) ≡ prints_among ws ++ prints_among vs → put_if_printed k w (prints_among (ws ++ vs)) ≡ put_if_printed k w (prints_among ws) ++ prints_among vs
    by to_out e = ap (λ l. w ∷ l) e
    by to_log e = e

pub kept-append : (b : Bool) (ws vs : List run.Write) → kept b (ws ++ vs) ≡ kept b ws ++ kept b vs
kept-append true ws vs = refl
kept-append false ws vs = prints-append ws vs

pub adds_both : (old mid new : Writes) (ws vs : List run.Write) → Adds old mid ws → Adds mid new vs → Adds old new (ws ++ vs)
adds_both old mid new ws vs a b = record {
  pieces = b.pieces ∙ ap (λ l. l ++ kept mid.events vs) a.pieces ∙ append_assoc (pieces_of old) (kept old.events ws) (kept mid.events vs)
      ∙ ap (λ e. pieces_of old ++ (kept old.events ws ++ kept e vs)) a.events ∙ ap (λ l. pieces_of old ++ l) (sym (kept-append old.events ws vs));
  events = b.events ∙ a.events;
}

-- what is written first stands before what a stride writes

pub behind-strode : (program : Program) (code : CodeBlocks Value) (d : bare.Stride (State Value) Names Value World) (ws : List run.Write) (r : Stride) (old mid : Writes) (m : Machine) (new : Writes)
    → Adds old mid ws → Strode program code d r mid m new → Strode program code (behind ws d) r old m new
behind-strode program code (bare.goes vs s) ws r old mid m new adds (is, (more, rest)) = (is, (adds_both old mid new ws vs adds more, rest))
behind-strode program code (bare.ends vs u e) ws r old mid m new adds (x, (is, (more, rest))) = (x, (is, (adds_both old mid new ws vs adds more, rest)))
behind-strode program code bare.is_stuck ws r old mid m new adds done = tt
