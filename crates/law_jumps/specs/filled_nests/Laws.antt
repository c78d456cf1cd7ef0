-- What the law says of the slots in reached states (Library Reference, "inspect": `f_lineno`).
use Rattle.std.specs.Prelude.{◌≡◌, ℕ, ◌∷◌, None}
use Rattle.pt_tree.specs.Syntax.{Stms}
use Rattle.pt_scopes.specs.Mentions.{places_script}
use Rattle.pt_scopes.specs.Refusals.{fault_of}
use Rattle.sem_control.specs.control.Frames as F
use Rattle.sem_control.specs.control.Frames.{Completion, Nest, Control}
use Rattle.sem_control.specs.control.Control.{nest_at}
use Rattle.sem_control.specs.control.Jump.{parts, shape}
use Rattle.sem_code.specs.slots.Slots.{Slots, State}
use Rattle.sem_code.specs.slots.CodeObject.{CodeObject}
use Rattle.sem_code.specs.comp_expr.Law.{slots_in}
use Rattle.sem_code.specs.comp.Surroundings.{Surroundings}
use Rattle.sem_code.specs.comp.Law.{Above, Match}
use Rattle.sem_fits.specs.comp_jumps.Filled.{Filled}
use Rattle.sem_run.specs.run.Machine.{BlockId}
use Rattle.sem_run.specs.run.Source.{Source}
use Rattle.law_code_runs.specs.code_run.CodeMachine.{CodeSource}
use Rattle.law_code_runs.specs.code_run.Parts.{endings_of}
use Rattle.law_code_runs.specs.code_run.Reached.{Reached}
use Rattle.law_code_runs.specs.code_follows.Laws.{HasItsFreeNames, IsOfScript}
use Rattle.law_parts.specs.part_slots.Text.{Code_grammatical}
use Rattle.law_jumps.specs.start_nests.Laws.{own_ending}

module _ {V : Type 0} (code : CodeObject V) (ending : ℕ → Surroundings) where
  -- the slots of a nest's closed parts lie below all others, with what its `finally` parts hold in
  -- these surroundings; at an exit that is due nothing is said of them
  pub data HoldsEnds : Nest V → Slots V → Type 0 where
    in_nest : (s : Nest V) (σ τ : Slots V)
        → Filled code (shape s) (endings_of ending (parts s)) s σ → Above σ τ → HoldsEnds s τ
    in_exit : (n : ℕ) (w : V) (held : Completion V) (s : Nest V) (τ : Slots V)
        → HoldsEnds (F.exiting n w held ∷ s) τ

-- so it is in each reached state that matches, where each `finally` part holds what leaves the loop
-- around it
abbrev pub ReachedHoldEnds : (V : Type 0) → Type 0
ReachedHoldEnds V = (null : V) (ss : Stms) (source : Source V) (code : CodeSource V) (b : BlockId)
    → fault_of (places_script ss) ≡ None → HasItsFreeNames ss
    → (of : IsOfScript null ss source code b) → Code_grammatical of.block.code
    → (c : Control V) (t : State V) → Reached source code b c t
    → Match (source.around b) (code.object b) c t
    → HoldsEnds (code.object b) (own_ending null ss source code b of) (nest_at c) (slots_in t)
