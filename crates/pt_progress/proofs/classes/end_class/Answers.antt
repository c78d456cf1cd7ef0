use Rattle.std.proofs.Common.{◌≡◌, rules}
use Rattle.std.specs.Prelude.{codes}
use Rattle.std.proofs.lemmas.Result.{IfOk-weaker}
use Rattle.sem_rows.specs.pt_host.Classes.{base_of}
use Rattle.sem_rows.specs.pt_host.declared.classes.Base.TheVariants.{On, Unavailable, NoBase}
use Rattle.pt_progress.proofs.ClassLemmas.{base_unavailable, no_base}
use Rattle.pt_progress.proofs.classes.end_class.Goals as goal

pub returns-in-On : goal.returns-in-On
returns-in-On c =
    let is : base_of c.args.machine.now.heap c.args.base ≡ On c.in-On.base = search rules in
    IfOk-weaker c.make_class.result _ _ (λ r h. h c.args.base is c.args.caller.now c.args.writes.now) c.make_class.ensures

pub returns-in-Unavailable : goal.returns-in-Unavailable
returns-in-Unavailable c v =
    let is : base_of c.args.machine.now.heap c.args.base ≡ Unavailable = search rules in
    base_unavailable c.args.blocks.now c.args.next c.args.closed.now c.args.machine.now c.args.caller.now c.args.writes.now c.args.base c.args.cell c.outside.result is
    (c.outside.ensures.0, (c.outside.ensures.1, c.outside.ensures.2)) v

pub returns-in_ok-text-in-NoBase : goal.returns-in_ok-text-in-NoBase
returns-in_ok-text-in-NoBase c =
    let is : base_of c.args.machine.now.heap c.args.base ≡ NoBase = search rules in
    let said : c.in_ok-text-in-NoBase.text ≡ codes "bad argument" = search rules in
    IfOk-weaker c.raise_saying.result _ _
    (λ r h. no_base c.args.blocks.now c.args.next c.args.closed.now c.args.machine.now c.args.caller.now c.args.writes.now c.args.base c.args.cell
    r c.raise_saying.new.machine c.raise_saying.new.writes c.in_ok-text-in-NoBase.text said is h)
    c.raise_saying.ensures
