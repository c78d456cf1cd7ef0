-- The blocks of a text that is a script have their closed parts.
use Rattle.std.proofs.Common.{ℕ, List, sym, ap, ◌∙◌}
use Rattle.pt_tree.specs.Syntax.{Stms}
use Rattle.sem_control.specs.control.Jump.{starts_of, on_line}
use Rattle.sem_run.specs.run.Machine.{BlockId}
use Rattle.sem_run.specs.run.Source.{Source}
use Rattle.law_code_runs.specs.code_run.CodeMachine.{CodeSource}
use Rattle.law_code_runs.specs.code_run.Parts.{HasClosedParts}
use Rattle.law_code_runs.specs.code_follows.Laws.{IsOfScript}
use Rattle.law_code_runs.proofs.code_follows.Objects.{shows}
use Rattle.law_typed_pieces.proofs.script_tables.Starting.{script_starts_have_statements}
use Rattle.pt_front.specs.Text.{IsScript}
use Rattle.law_jumps.proofs.script_acts.Script.{scripts_run_as_their_code}
use Rattle.law_jumps.specs.start_nests.Laws.{own_block, own_ending, HasOwnParts}
use Rattle.law_jumps.proofs.start_nests.Scripts.{script_starts_in_parts}
use Rattle.law_jumps.proofs.text_parts.Texts.{free_names, grammatical, apart, blocks_of_texts_have_parts}
use Rattle.sem_fits.specs.fits.Fits.{TooDeep}
use Rattle.law_compile.proofs.fitting_scripts.Fitting.{blocks_of_texts_fit}
use Rattle.law_jumps.specs.acts_in_parts.Laws.{JumpsBySlots}
use Rattle.law_jumps.proofs.acts_in_parts.Scripts.{script_acts_are_in_parts}
use Rattle.law_jumps.specs.text_runs.Laws.{TextsRunAsTheirCode}

module _ {V : Type 0} (null : V) (text : List ℕ) (script : Stms) (source : Source V) (code : CodeSource V) (is : IsScript text script) (b : BlockId)
    (of : IsOfScript null script source code b) where
  own_parts : HasOwnParts null script source code b of
  own_parts =
      let has = of.has_object in
      blocks_of_texts_have_parts text script of.number of.block has.layout (code.object b) is has.is_block has.is_layout
      (shows null script of.number of.block (code.object b) has)

  pub closed_parts : JumpsBySlots code b (own_block null script source code b of)
      → (TooDeep (own_block null script source code b of) → ⊥) → HasClosedParts source code b
  closed_parts jumps shallow =
      let has = of.has_object in
      let whole = grammatical text script is of.number of.block has.is_block in
      let blocks = apart text script is of.number of.block has.is_block in
      let fits = blocks_of_texts_fit text script is of.number has.layout has.is_layout has.fits
      (code.object b).at has.is_object.view shallow in
      record {
        block = own_block null script source code b of;
        part = own_parts.parts.part;
        ending = own_ending null script source code b of;
        by_slots = jumps;
        starts = script_starts_in_parts null script source code b is.no_fault (free_names text script is) of own_parts
            whole blocks;
        no_others = λ line pc e s. script_starts_have_statements script of.number of.block has.layout (code.object b) line pc has.is_block has.is_layout
            (ap (λ c. on_line line (starts_of c)) (sym of.same_code) ∙ e) s;
        acts = script_acts_are_in_parts null script source code b is.no_fault (free_names text script is) of
            own_parts whole blocks jumps fits;
      }

pub texts_run_as_their_code : {D N V W : Type 0} → TextsRunAsTheirCode D N V W
texts_run_as_their_code null text script source code is theirs jumps shallow =
    scripts_run_as_their_code null script source code is.no_fault (free_names text script is) theirs
    (λ b. closed_parts null text script source code is b (theirs b).of_script (jumps b) (shallow b))
