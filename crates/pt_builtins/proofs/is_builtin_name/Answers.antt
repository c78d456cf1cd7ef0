use Rattle.std.proofs.Common.{◌≡◌, ◌∙◌, ap, sym}
use Rattle.pt_tables.specs.Names.{builtin_names}
use Rattle.pt_tables.specs.Rows.{numbered, value_of}
use Rattle.pt_builtins.proofs.TableLemmas.{listed, unlisted}
use Rattle.pt_builtins.proofs.is_builtin_name.Goals as goal

pub returns-in-Some : goal.returns-in-Some
returns-in-Some c =
    sym (listed 0 builtin_names c.args.name.now _
    (ap (λ rows. value_of rows c.args.name.now) (sym c.builtins.ensures) ∙ (sym c.get.ensures.value ∙ c.in-Some.is)))

pub returns-in-None : goal.returns-in-None
returns-in-None c =
    sym (unlisted 0 builtin_names c.args.name.now
    (ap (λ rows. value_of rows c.args.name.now) (sym c.builtins.ensures) ∙ (sym c.get.ensures.value ∙ c.in-None.is)))
