use Rattle.std.proofs.Common.{[], ◌∷◌}
use Rattle.std.proofs.lemmas.Str.Pattern.{starts_text}
use Rattle.pt_attrs.proofs.unbuilt.begins.Goals as goal

pub returns : goal.returns
returns c = starts_text c.starts_with.result (95 ∷ 95 ∷ []) c.args.name.now c.starts_with.ensures.cases
