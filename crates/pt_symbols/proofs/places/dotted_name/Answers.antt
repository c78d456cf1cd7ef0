use Rattle.std.proofs.Common.{◌∙◌, ◌++◌, ap, List, ℕ}
use Rattle.sem_names.specs.Regions.{depth_of}
use Rattle.pt_symbols.proofs.PlaceLemmas.{dotted_all}
use Rattle.pt_symbols.proofs.places.dotted_name.Goals as goal

pub returns : goal.returns
returns c =
    c.in_ok-push_str.ensures.ok
    ∙ ap (λ (t : List ℕ). t ++ c.args.name.now) c.in_ok-text.ensures
    ∙ dotted_all (depth_of c.args.places.now.regions c.args.region) c.args.name.now
