-- Code that is told of its slots as a machine of a run: where its jumps lead, and which act comes
-- next (Library Reference, "inspect": `f_lineno`; PEP 669, JUMP and BRANCH).
use Rattle.std.specs.Prelude.{ℕ, List, [], length, Option, Some, None}
use Rattle.pt_ranges.specs.declared.lines.ActMark.{ActMark}
use Rattle.pt_code.specs.declared.CodeBlock.{CodeBlock}
use Rattle.pt_code.specs.declared.Start.{Start}
use Rattle.sem_code.specs.silent_turns.Ahead.{turns_to_act}
use Rattle.sem_run.specs.run.Machine.{BlockId}
use Rattle.sem_code_machine.specs.code_machine.CodeBlocks.{CodeBlocks}
use Rattle.law_pieces.specs.piece_acts.Counting.{acts_in}
use Rattle.pt_bare_code.specs.law_code_runs.code_run.CodeMachine.{CodeSource}
use Rattle.pt_bare_code.specs.law_code_runs.code_run.Parts.{jump_of_answer}
use Rattle.law_code_jumps.specs.jump_answers.Known.{SlotsKnown, answer_by}

-- the tables of a block; a block that a code doesn't have has none

abbrev pub starts_in : Option CodeBlock → List Start
starts_in (Some k) = k.starts
starts_in None = []

abbrev pub marks_in : Option CodeBlock → List ActMark
marks_in (Some k) = k.marks
marks_in None = []

abbrev pub size_of : Option CodeBlock → ℕ
size_of (Some k) = length k.instructions
size_of None = 0

-- code objects of blocks, which are told of their slots
abbrev pub told_code : {V : Type 0} → CodeBlocks V → (block : BlockId → Option CodeBlock)
    → (known : BlockId → SlotsKnown) → CodeSource V
told_code code block known = record {
  object = code.object;
  iterates = code.iterates;
  jump = λ b p line. jump_of_answer (answer_by (known b) (starts_in (block b)) p.pc line) p;
  acts = λ b. acts_in (marks_in (block b));
  most_turns = λ b t. turns_to_act (size_of (block b)) t;
}
