use Rattle.std.proofs.Common.{◌∙◌, ap}
use Rattle.std.specs.Option.{is_some}
use Rattle.pt_tables.specs.Names.{special_names}
use Rattle.pt_tables.specs.Rows.{value_of}
use Rattle.pt_host.proofs.ClassLemmas.{found_among}
use Rattle.pt_host.proofs.classes.is_special_method.Goals as goal

pub returns : goal.returns
returns c =
    c.is_some.ensures ∙ ap is_some (c.get.ensures.value ∙ ap (λ rows. value_of rows c.args.name.now) c.specials.ensures)
    ∙ found_among 0 special_names c.args.name.now
