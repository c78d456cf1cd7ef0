-- What the law says of where the acts of a script begin (Library Reference, "inspect": `f_lineno`).
use Rattle.std.specs.Prelude.{◌≡◌, ℕ, true, Some, None}
use Rattle.pt_tree.specs.Syntax.{Stms}
use Rattle.pt_scopes.specs.Mentions.{places_script}
use Rattle.pt_scopes.specs.Refusals.{fault_of}
use Rattle.sem_control.specs.control.Frames.{Control}
use Rattle.sem_control.specs.control.Control.{turn, nest_at}
use Rattle.sem_control.specs.control.Jump.{Part}
use Rattle.sem_code.specs.slots.Slots.{State}
use Rattle.sem_code.specs.comp.Surroundings.{Surroundings}
use Rattle.sem_code.specs.comp.Law.{Match}
use Rattle.sem_fits.specs.comp_jumps.Parts.{Closed}
use Rattle.sem_fits.specs.fits.Block as F
use Rattle.sem_fits.specs.fits.Fits.{Fits}
use Rattle.sem_run.specs.run.Machine.{BlockId, is_act}
use Rattle.sem_run.specs.run.Source.{Source}
use Rattle.law_code_runs.specs.code_run.CodeMachine.{Place, CodeSource, place_of}
use Rattle.law_code_runs.specs.code_run.Parts.{InParts}
use Rattle.law_code_runs.specs.code_run.Reached.{Reached}
use Rattle.law_code_runs.specs.code_follows.Laws.{HasItsFreeNames, IsOfScript}
pub use Rattle.law_code_jumps.specs.told_code.Laws.{JumpsBySlots}
use Rattle.law_parts.specs.part_slots.Text.{Code_grammatical, Code_else_apart}
use Rattle.law_jumps.specs.start_nests.Laws.{own_block, own_ending, HasOwnParts}

-- where an act begins, the place lies in the parts of control's nest, with what they hold
abbrev pub ActsInParts : {V : Type 0} → Source V → CodeSource V → BlockId → (block : F.Block)
    → (Part → Closed block) → (ℕ → Surroundings) → Type 0
ActsInParts {V = V} source code b block part ending = (c : Control V) (t : State V) (p : Place V)
    → Reached source code b c t → Match (source.around b) (code.object b) c t
    → is_act (turn (source.around b) c) ≡ true → place_of t ≡ Some p
    → InParts source code b block part ending (nest_at c) p

-- so it is in the code of a script whose tree is that of a text, where its blocks fit and the
-- machine of code jumps so
abbrev pub ScriptActsAreInParts : (V : Type 0) → Type 0
ScriptActsAreInParts V = (null : V) (ss : Stms) (source : Source V) (code : CodeSource V)
    (b : BlockId) → fault_of (places_script ss) ≡ None → HasItsFreeNames ss
    → (of : IsOfScript null ss source code b) (parts : HasOwnParts null ss source code b of)
    → Code_grammatical of.block.code → Code_else_apart of.block.code
    → (let own = own_block null ss source code b of in
    JumpsBySlots code b own → Fits own
    → ActsInParts source code b own parts.parts.part (own_ending null ss source code b of))
