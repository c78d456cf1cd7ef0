use Rattle.std.proofs.Common.{◌++◌, ap, ◌∙◌}
use Rattle.std.specs.Int.{w128, to_le_bytes, cast_unsigned}
use Rattle.std.proofs.lemmas.Int.{to_z-of_z}
use Rattle.pt_code.specs.File.{integer}
use Rattle.pt_code.proofs.writing.put_integer.Goals as goal

pub returns : goal.returns
unfolding integer
returns c =
    c.in_ok-extend_from_slice.ensures.items
    ∙ ap (λ v. c.args.out.now.items ++ v) (c.to_le_bytes.ensures ∙ ap (λ z. to_le_bytes w128 (cast_unsigned w128 z)) (to_z-of_z w128 c.args.n c.ranges.n))
