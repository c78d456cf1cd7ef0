use Rattle.pt_commands.specs.Parts.{is_in}
use Rattle.pt_commands.proofs.PartLemmas.{cut_behind, cut_boundary, cut_front}
use Rattle.pt_commands.proofs.parts.cut.Goals as goal

pub split_at-requires : goal.split_at-requires
split_at-requires c =
    cut_boundary c.args.part c.args.text.now c.as_bytes.result.now c.part_len-len.result c.as_bytes.ensures.value c.as_bytes.ensures.utf8 c.part_len-len.ensures

pub returns-clause-front : goal.returns-clause-front
returns-clause-front c =
    cut_front (is_in c.args.part) c.args.text.now c.as_bytes.result.now c.split_at.result.0.now c.part_len-len.result c.as_bytes.ensures.value c.part_len-len.ensures
    c.split_at.ensures.front

pub returns-clause-behind : goal.returns-clause-behind
returns-clause-behind c =
    cut_behind (is_in c.args.part) c.args.text.now c.as_bytes.result.now c.split_at.result.1.now c.part_len-len.result c.as_bytes.ensures.value c.part_len-len.ensures
    c.split_at.ensures.back
