use Rattle.std.proofs.Common.{◌∙◌, ap, map}
use Rattle.pt_methods.specs.Names.{among, of_texts}
use Rattle.pt_methods.proofs.names.of_texts.Goals as goal

pub returns : goal.returns
unfolding of_texts
returns c = c.among.ensures ∙ ap (λ rows. among c.args.name.now (map (λ r. (r.0.now, r.1)) rows)) c.as_slice.ensures
