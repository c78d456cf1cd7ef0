use Rattle.std.proofs.Common.{◌∙◌, ap, map}
use Rattle.pt_methods.specs.Names.{among, of_tuples}
use Rattle.pt_methods.proofs.names.of_tuples.Goals as goal

pub returns : goal.returns
unfolding of_tuples
returns c = c.among.ensures ∙ ap (λ rows. among c.args.name.now (map (λ r. (r.0.now, r.1)) rows)) c.as_slice.ensures
