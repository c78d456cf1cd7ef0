use Rattle.std.proofs.Common.{◌≡◌, ◌<◌, ℕ, Some}
use Rattle.std.specs.Prelude.{slice_get}
use Rattle.pt_code.specs.declared.CodeBlock.{CodeBlock}
use Rattle.pt_supported_code.specs.Built.{IsBuiltBlock}
use Rattle.pt_supported_code.proofs.built.unbuilt.Given as goal

abbrev pub invariant-loop-block : goal.invariant-loop-block
invariant-loop-block l = (n : ℕ) (b : CodeBlock) → n < l.block-index → slice_get l.code.blocks n ≡ Some b → IsBuiltBlock l.code b
