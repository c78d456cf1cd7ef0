-- A block of a text's code has the closed parts of its block, where it is told of its slots.
use Rattle.std.proofs.Common.{◌≡◌, ℕ, List, Option, Some, None, refl, sym, ap, ◌∙◌, subst}
use Rattle.std.specs.Prelude.{slice_get, option_map}
use Rattle.std.proofs.lemmas.Option.{slice_get-map}
use Rattle.pt_tree.specs.Syntax.{Stms}
use Rattle.pt_tree.specs.Blocks.{Block, blocks_script}
use Rattle.pt_code.specs.View.{IsView}
use Rattle.sem_names.specs.Around.{around_of}
use Rattle.sem_code.specs.slots.Slots.{State}
use Rattle.sem_code.specs.silent_turns.Ahead.{turns_to_act}
use Rattle.sem_fits.specs.fits.Block as F
use Rattle.sem_fits.specs.fits.Fits.{Fits, TooDeep}
use Rattle.sem_compile.specs.compile.ScriptCode.{BlockLayout, code_block, code_of, script_layouts}
use Rattle.sem_run.specs.run.Machine.{BlockId}
use Rattle.sem_run.specs.run.Source.{Source}
use Rattle.law_pieces.specs.piece_acts.Counting.{acts_in}
use Rattle.law_code_runs.specs.code_run.CodeMachine.{Place, CodeSource}
use Rattle.law_code_runs.specs.code_run.Law.{Of}
use Rattle.law_code_runs.specs.code_run.Parts.{HasClosedParts, KnowsActs}
use Rattle.law_code_runs.specs.code_follows.Laws.{iterates, HasObject, IsOfScript}
use Rattle.law_code_runs.proofs.code_follows.Objects.{block_has_its_code}
use Rattle.law_jumps.proofs.law_compile.read_forms.Texts.{scripts_of_texts_are_formed}
use Rattle.law_jumps.proofs.law_compile.formed_scripts.Statements.{scripts_are_formed}
use Rattle.law_jumps.proofs.law_compile.script_objects.Objects.{objects_have_their_code}
use Rattle.law_jumps.proofs.law_compile.fitting_scripts.Fitting.{blocks_of_texts_fit}
use Rattle.law_jumps.specs.law_compile.script_runs.Blocks.{number_or_module, code_or_module, block_of, number_of, script_trees, script_code}
use Rattle.law_jumps.specs.script_acts.Laws.{IsTold}
use Rattle.law_jumps.specs.start_nests.Laws.{own_block}
use Rattle.law_jumps.specs.acts_in_parts.Laws.{JumpsBySlots}
use Rattle.law_jumps.proofs.script_acts.Script.{script_knows_its_acts}
use Rattle.law_jumps.proofs.text_parts.Texts.{free_names}
use Rattle.law_jumps.proofs.text_runs.Texts.{closed_parts}
use Rattle.law_jumps.specs.law_code_jumps.told_code.Told.{marks_in, size_of}
use Rattle.law_jumps.specs.law_code_jumps.told_code.Laws.{AnswersJumps}
use Rattle.law_jumps.proofs.law_code_jumps.told_code.Answered.{answers_are_jumps, told_code_answers_jumps}
use Rattle.law_text_code.specs.Texts.{TextCode, IsCodeOfText, text_code}

-- a block of trees and of code is that of a text
pub record IsOfText {V : Type 0} (null : V) (source : Source V) (code : CodeSource V) (b : BlockId)
    (t : TextCode V) : Type 0 where
  pub tree : source.code b ≡ (script_trees t.script null).code b
  pub around : source.around b ≡ (script_trees t.script null).around b
  pub object : code.object b ≡ (text_code t).object b
  pub iterates : code.iterates b ≡ (text_code t).iterates b
  pub jump : (p : Place V) (line : ℕ) → code.jump b p line ≡ (text_code t).jump b p line
  pub acts : code.acts b ≡ (text_code t).acts b
  pub most_turns : (s : State V) → code.most_turns b s ≡ (text_code t).most_turns b s

module _ {V : Type 0} (null : V) (source : Source V) (code : CodeSource V) (b : BlockId)
    (text : List ℕ) (t : TextCode V) (are : IsCodeOfText null text t)
    (is : IsOfText null source code b t) where
  abbrev ss : Stms
  ss = t.script

  has_object : (n : ℕ) (block : Block) → slice_get (blocks_script ss) n ≡ Some block
      → HasObject null ss n block (t.object n)
  has_object n block there =
      let wide = scripts_of_texts_are_formed text ss are.is_script in
      objects_have_their_code null ss n block (t.object n) are.is_script.no_fault
      (scripts_are_formed wide.0 ss wide.1.is_formed wide.1.is_script)
      (free_names text ss are.is_script) (are.of_blocks n block there)

  -- the block is one of the script, with this number
  record Placed : Type 0 where
    pub of : IsOfScript null ss source code b
    pub numbered : number_of ss b ≡ of.number

  placed_at : (n : ℕ) (block : Block) → slice_get (blocks_script ss) n ≡ Some block
      → number_of ss b ≡ n → code_or_module ss (block_of ss b) ≡ block.code → Placed
  placed_at n block there e f = record {
    of = record {
      number = n;
      block = block;
      has_object = subst (λ o. HasObject null ss n block o)
          (sym (is.object ∙ ap (λ m. t.object m) e)) (has_object n block there);
      same_code = is.tree ∙ f;
      same_around = is.around ∙ ap (λ m. around_of null ss m) e;
      same_start = is.iterates ∙ ap iterates f;
    };
    numbered = e;
  }

  placed_by : (o : Option Block) → block_of ss b ≡ o → Placed
  placed_by (Some block) e =
      placed_at b.number block e (ap (λ o. number_or_module o b.number) e)
      (ap (code_or_module ss) e)
  placed_by None e =
      placed_at 0 _ refl (ap (λ o. number_or_module o b.number) e) (ap (code_or_module ss) e)

  placed : Placed
  placed = placed_by (block_of ss b) refl

  abbrev of : IsOfScript null ss source code b
  of = placed.of

  abbrev layout : BlockLayout
  layout = of.has_object.layout

  -- its code stands in the code of the script
  in_code : slice_get (code_of ss).blocks (number_of ss b) ≡ Some (code_block layout)
  in_code =
      ap (slice_get (code_of ss).blocks) placed.numbered
      ∙ (slice_get-map code_block (script_layouts ss) of.number
      ∙ ap (option_map code_block) of.has_object.is_layout)

  is_told : IsTold code b (code_block layout)
  is_told = record {
    acts = is.acts ∙ ap (λ o. acts_in (marks_in o)) in_code;
    most_turns = λ s. is.most_turns s ∙ ap (λ o. turns_to_act (size_of o) s) in_code;
  }

  abbrev own : F.Block
  own = own_block null ss source code b of

  abbrev seen : IsView (code_block layout) (code.object b).at
  seen = of.has_object.is_object.view

  shallow : TooDeep own → ⊥
  shallow = are.shallow (number_of ss b) (code_block layout) in_code (code.object b).at seen

  fits : Fits own
  fits =
      let has = of.has_object in
      blocks_of_texts_fit text ss are.is_script of.number has.layout has.is_layout has.fits
      (code.object b).at seen shallow

  answers : AnswersJumps code b own
  answers p ks line got =
      let so = told_code_answers_jumps (script_code ss t.object)
      (λ k. slice_get (code_of ss).blocks (number_of ss k)) (λ k. t.known (number_of ss k)) b
      (code_of ss) (code_block layout) (code.object b).at in_code
      (are.known_so.each (number_of ss b) (code_block layout) in_code (code.object b).at seen) p ks
      line got in
      record { answer = so.answer; said = so.said; given = is.jump p line ∙ so.given }

  jumps : JumpsBySlots code b own
  jumps = answers_are_jumps code b own fits answers

  pub has_code : Of (source.around b) (code.object b) (code.iterates b) (source.code b)
  has_code =
      block_has_its_code null ss source code b are.is_script.no_fault
      (free_names text ss are.is_script) of

  pub has_parts : HasClosedParts source code b
  has_parts = closed_parts null text ss source code are.is_script b of jumps shallow

  pub knows_acts : KnowsActs source code b
  knows_acts = script_knows_its_acts null ss source code b are.is_script.no_fault of is_told
