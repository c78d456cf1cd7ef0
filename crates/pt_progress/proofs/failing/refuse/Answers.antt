use Rattle.std.proofs.Common.{◌≡◌, ◌∷◌, [], refl, rules, sym, subst}
use Rattle.pt_base.specs.declared.what.What.TheVariants.{Feature}
use Rattle.pt_content.specs.declared.answer.PrimAns.{PrimAns}
use Rattle.pt_content.specs.declared.answer.PrimAns.TheVariants.{Print}
use Rattle.pt_transfers.specs.pt_machine_state.Writing.{Adds, print_piece}
use Rattle.pt_progress.specs.Taking.{IsOutside, Refuses}
use Rattle.pt_progress.proofs.failing.refuse.Goals as goal

pub returns-in-Print : goal.returns-in-Print
returns-in-Print c =
    let same : c.args.answer ≡ Print c.in-Print.text = search rules in
    let printed : Adds c.args.writes.now c.print.new.writes (print_piece c.in-Print.text ∷ []) = search rules in
    let out : IsOutside Feature c.args.blocks.now c.outside-in-Print.result c.args.machine.now c.print.new.writes c.args.machine.now c.print.new.writes =
    (c.outside-in-Print.ensures.0, (c.outside-in-Print.ensures.1, (c.outside-in-Print.ensures.2, (refl, refl)))) in
    subst (λ (p : PrimAns). Refuses c.args.blocks.now c.args.block.now c.args.why.now p c.outside-in-Print.result c.args.machine.now c.args.writes.now c.args.machine.now c.print.new.writes)
    (sym same) (c.print.new.writes, (printed, out))
