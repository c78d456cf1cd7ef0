use Rattle.std.proofs.Common.{◌∙◌, ap, map, reverse}
use Rattle.std.proofs.lemmas.List.{reverse-reverse}
use Rattle.pt_parser.specs.Views.{item_in}
use Rattle.pt_parser.proofs.HeldLemmas.{map_reverse}
use Rattle.pt_parser.proofs.item_nodes.plain_items.Goals as goal

pub returns : goal.returns
returns c = ap (map item_in) c.in_ok-items.ensures ∙ map_reverse item_in c.in_ok-turned.turned ∙ ap reverse c.in_ok-turned.ensures ∙ reverse-reverse _
