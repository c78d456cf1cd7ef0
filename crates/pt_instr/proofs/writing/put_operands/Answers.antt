use Rattle.std.proofs.Common.{append_assoc, ◌++◌, ap, ◌∙◌}
use Rattle.std.specs.Int.{w32, to_le_bytes}
use Rattle.pt_instr.proofs.Codec.{on_ok}
use Rattle.pt_instr.proofs.writing.put_operands.Goals as goal

pub returns-in_ok-put_words-in-Three-clause-ok : goal.returns-in_ok-put_words-in-Three-clause-ok
returns-in_ok-put_words-in-Three-clause-ok c =
    rw c.in-Three.is
    (on_ok c.put_word-in-Three.result
    (λ is. is ∙ ap (λ v. v ++ to_le_bytes w32 c.in-Three.z) c.in_ok-put_words-in-Three.ensures.ok ∙ append_assoc c.args.into.now (to_le_bytes w32 c.in-Three.x ++ to_le_bytes w32 c.in-Three.y) (to_le_bytes w32 c.in-Three.z))
    c.put_word-in-Three.ensures.ok)
