use Rattle.std.proofs.Common.{◌∙◌, List, ap, sym}
use Rattle.pt_ranges.specs.declared.handlers.Handler.{Handler}
use Rattle.pt_ranges.specs.Rows.{first_over}
use Rattle.pt_unwind.specs.Landings.{landing_of}
use Rattle.pt_unwind.proofs.LandingLemmas.{landing_of-none}
use Rattle.pt_unwind.proofs.land.Goals as goal

pub land_from-requires : goal.land_from-requires
land_from-requires c = ap (λ (rows : List Handler). first_over rows c.args.pc) (c.as_slice.ensures ∙ sym c.requires) ∙ sym c.in-Some.ensures

pub returns-in-Some : goal.returns-in-Some
returns-in-Some c = c.land_from.ensures ∙ ap (λ (rows : List Handler). landing_of rows c.args.pc c.args.how) c.as_slice.ensures

pub returns-in-None : goal.returns-in-None
returns-in-None c =
    let none = c.in-None.ensures ∙ ap (λ (rows : List Handler). first_over rows c.args.pc) c.requires in
    c.pass.ensures ∙ sym (landing_of-none c.args.block.now.handlers c.args.pc c.args.how (sym none))
