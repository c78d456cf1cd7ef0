use Rattle.std.proofs.Common.{◌≡◌, drop}
use Rattle.pt_text_operations.specs.Answers.{texts_of}
use Rattle.pt_text_operations.proofs.JoinLemmas.{behind}
use Rattle.pt_text_operations.proofs.joining.texts_of.Given as goal

abbrev pub invariant-loop-value : goal.invariant-loop-value
invariant-loop-value l = texts_of l.heap l.values ≡ behind l.texts (texts_of l.heap (drop l.value-index l.values))
