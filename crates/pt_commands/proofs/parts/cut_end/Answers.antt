use Rattle.pt_commands.proofs.PartLemmas.{cut_end_boundary, cut_end_kept}
use Rattle.pt_commands.proofs.parts.cut_end.Goals as goal

pub split_at-requires : goal.split_at-requires
split_at-requires c =
    cut_end_boundary c.args.text.now c.as_bytes.result.now c.kept_len-len.result c.as_bytes.ensures.value c.kept_len-len.ensures

pub returns : goal.returns
returns c =
    cut_end_kept c.args.text.now c.as_bytes.result.now c.split_at.result.0.now c.kept_len-len.result c.as_bytes.ensures.value c.kept_len-len.ensures
    c.split_at.ensures.front
