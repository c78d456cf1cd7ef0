-- That the acts of a script's code lie in their parts (Library Reference, "inspect": `f_lineno`).
use Rattle.std.specs.Prelude.{◌≡◌, ℕ, Some, None}
use Rattle.pt_tree.specs.Syntax.{Stms}
use Rattle.pt_scopes.specs.Mentions.{places_script}
use Rattle.pt_scopes.specs.Refusals.{fault_of}
use Rattle.pt_instr.specs.Effects.{Kinds}
use Rattle.pt_ranges.specs.declared.lines.ActMark.{ActMark}
use Rattle.pt_code.specs.View.{Ins}
use Rattle.sem_control.specs.control.Nests.{Code_says}
use Rattle.sem_fits.specs.fits.Places.{Gets}
use Rattle.sem_run.specs.run.Machine.{BlockId}
use Rattle.sem_run.specs.run.Source.{Source}
use Rattle.law_code_runs.specs.code_run.CodeMachine.{CodeSource}
use Rattle.law_code_runs.specs.code_run.Parts.{LiesIn}
use Rattle.law_code_runs.specs.code_follows.Laws.{HasItsFreeNames, IsOfScript}
use Rattle.law_parts.specs.part_slots.Text.{Code_grammatical}
use Rattle.law_parts.specs.act_parts.Laws.{placed_in}
use Rattle.law_jumps.specs.start_nests.Laws.{own_block, HasOwnParts}

-- a place to which some way comes and at which an act begins lies in the parts of the nest that
-- the tree gives the act
abbrev pub ScriptActsLieInParts : (V : Type 0) → Type 0
ScriptActsLieInParts V = (null : V) (ss : Stms) (source : Source V) (code : CodeSource V)
    (b : BlockId) → fault_of (places_script ss) ≡ None → HasItsFreeNames ss
    → (of : IsOfScript null ss source code b) (parts : HasOwnParts null ss source code b of)
    → Code_grammatical of.block.code → (let own = own_block null ss source code b of in
    (pc : ℕ) (i : Ins) (mark : ActMark) (ks : Kinds) → own.at pc ≡ Some i → i.mark ≡ Some mark
    → Gets own own.size pc ks
    → Code_says (λ s act. act ≡ mark.act.0 → LiesIn own parts.parts.part pc (placed_in s))
    of.block.code)
