-- Code that is told of its slots jumps as is said of slots.
use Rattle.std.proofs.Common.{ap, ◌∙◌}
use Rattle.sem_fits.specs.fits.Block.{Block}
use Rattle.sem_run.specs.run.Machine.{BlockId}
use Rattle.pt_bare_code.specs.law_code_runs.code_run.CodeMachine.{CodeSource}
use Rattle.pt_bare_code.specs.law_code_runs.code_run.Parts.{jump_of_answer}
use Rattle.law_code_jumps.specs.jump_answers.Known.{answer_by}
use Rattle.law_code_jumps.proofs.jump_answers.Answering.{answers_by_slots}
use Rattle.law_code_jumps.proofs.jump_answers.OneAnswer.{one_answer}
use Rattle.law_code_jumps.specs.told_code.Told.{starts_in}
use Rattle.law_code_jumps.specs.told_code.Laws.{AnswersAreJumps, ToldCodeAnswersJumps}

pub answers_are_jumps : {V : Type 0} (code : CodeSource V) (b : BlockId) (block : Block)
    → AnswersAreJumps code b block
answers_are_jumps code b block fits answers p ks line a got j =
    let so = answers p ks line got in
    so.given ∙ ap (λ c. jump_of_answer c p) (one_answer block fits p.pc ks line so.answer a so.said j)

pub told_code_answers_jumps : {V : Type 0} → ToldCodeAnswersJumps V
told_code_answers_jumps code block known b file k view is knows p ks line got = record {
  answer = answer_by (known b) k.starts p.pc line;
  said = answers_by_slots _ (known b) knows p.pc ks line got;
  given = ap (λ o. jump_of_answer (answer_by (known b) (starts_in o) p.pc line) p) is;
}
