use Rattle.std.proofs.Common.{◌∙◌, ap, not}
use Rattle.pt_places.specs.PlaceTable.{entry}
use Rattle.pt_place_slots.proofs.Listing.{one_listed, place_stands}
use Rattle.pt_place_slots.proofs.lists.listed_at.Goals as goal

pub returns-in_ok-kind_list-in-Some-clause-exact : goal.returns-in_ok-kind_list-in-Some-clause-exact
returns-in_ok-kind_list-in-Some-clause-exact c =
    one_listed c.args.kinds.now (entry c.args.places.now c.args.at) c.args.at c.in-Some.list c.in_ok-kind_list-in-Some.field-0
    (place_stands c.in_ok-place.place (entry c.args.places.now c.args.at) c.in_ok-place.ensures (c.is_none.ensures ∙ ap not c.if-is_none.false))
    c.in_ok-kind_list-in-Some.ensures.same c.in-Some.ensures
