use Rattle.std.proofs.Common.{[], ◌∷◌}
use Rattle.std.proofs.lemmas.Str.Pattern.{ends_text}
use Rattle.pt_attrs.proofs.unbuilt.ends.Goals as goal

pub returns : goal.returns
returns c = ends_text c.ends_with.result (95 ∷ 95 ∷ []) c.args.name.now c.ends_with.ensures.cases
