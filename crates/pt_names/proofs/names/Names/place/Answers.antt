use Rattle.std.proofs.Common.{◌∙◌, Some, ap, sym}
use Rattle.std.specs.Str.{bytes_eq}
use Rattle.indexmap.proofs.MapLemmas.{Missing-position}
use Rattle.pt_names.specs.Names.{by_text, place_of}
use Rattle.pt_names.proofs.NameLemmas.{lookup-by_text}
use Rattle.pt_names.proofs.PlaceLemmas.{length-by_text, placed-last}
use Rattle.pt_names.proofs.names.Names.place.Goals as goal

pub append-requires : goal.append-requires
append-requires c =
    let name = c.args.name.now in
    let es = c.self.inside.map.entries in
    lookup-by_text name es ∙ (Missing-position (bytes_eq name) (by_text es) (sym c.in-None.ensures)).value

pub returns-in_ok-append-in-None-clause-place : goal.returns-in_ok-append-in-None-clause-place
returns-in_ok-append-in-None-clause-place c =
    let name = c.args.name.now in
    let es = c.self.inside.map.entries in
    ap (place_of name) c.in_ok-append-in-None.ensures.ok
    ∙ placed-last name (by_text es) (sym c.in-None.ensures)
    ∙ ap Some (length-by_text es ∙ sym c.len-place.ensures.len)
