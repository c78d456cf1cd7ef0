use Rattle.std.proofs.Common.{◌∙◌, ap}
use Rattle.std.specs.Map.{lookup}
use Rattle.std.specs.Str.{bytes_eq}
use Rattle.std.specs.Option.{option_flatten}
use Rattle.pt_names.proofs.NameLemmas.{lookup-by_text}
use Rattle.pt_names.proofs.names.Names.get.Goals as goal

pub returns-in-Some : goal.returns-in-Some
returns-in-Some c = ap option_flatten (c.in-Some.ensures.value ∙ lookup-by_text c.args.name.now c.self.inside.map.entries ∙ ap (lookup (bytes_eq c.args.name.now)) c.self.view_is)

pub returns-in-None : goal.returns-in-None
returns-in-None c = ap option_flatten (c.in-None.ensures.value ∙ lookup-by_text c.args.name.now c.self.inside.map.entries ∙ ap (lookup (bytes_eq c.args.name.now)) c.self.view_is)
