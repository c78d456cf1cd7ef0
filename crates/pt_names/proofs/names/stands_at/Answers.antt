use Rattle.std.proofs.Common.{◌∙◌, ap, sym}
use Rattle.std.specs.Str.{bytes_eq}
use Rattle.pt_names.proofs.PlaceLemmas.{stands_there}
use Rattle.pt_names.proofs.names.stands_at.Goals as goal

pub returns-in-Some : goal.returns-in-Some
returns-in-Some c is =
    stands_there c.args.name.now c.args.map.now.entries c.args.place (c.in-Some.there.now, c.in-Some.field-0-1.now) c.requires c.in-Some.ensures.entry
    (ap (λ t. bytes_eq t c.args.name.now) (sym c.as_str.ensures.value) ∙ (sym c.eq.ensures ∙ is))
