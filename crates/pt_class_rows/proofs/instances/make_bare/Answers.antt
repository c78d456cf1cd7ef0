use Rattle.std.proofs.Common.{rules, ◌≡◌}
use Rattle.std.proofs.lemmas.Result.{IfOk-weaker}
use Rattle.pt_class_rows.proofs.InstanceLemmas.{bare_made, bare_refused}
use Rattle.pt_class_rows.proofs.instances.make_bare.Goals as goal

pub returns-in-Ok-clause-row : goal.returns-in-Ok-clause-row
returns-in-Ok-clause-row c =
    let plain : c.in_ok-values-in-Ok.values ≡ c.args.args.now.plain = search rules in
    IfOk-weaker c.place.result _ _
    (λ p done. bare_made c.args.is_exception c.args.class c.args.args.now c.args.slots.now c.args.heap.now c.parameters_without-params.result c.bind_with.result
    c.in-Ok.field-0 c.in_ok-values-in-Ok.values c.instance-made.result p c.place.new.slots c.place.new.heap c.parameters_without-params.ensures
    c.bind_with.ensures.ok c.in-Ok.is plain c.instance-made.ensures done)
    c.place.ensures.row

pub returns-clause-row : goal.returns-clause-row
returns-clause-row c =
    IfOk-weaker c.class_refuses.result _ _
    (λ p refused. bare_refused c.args.is_exception c.args.class c.args.args.now c.args.slots.now c.args.heap.now c.parameters_without-params.result c.bind_with.result
    c.in-Err.error p c.parameters_without-params.ensures c.bind_with.ensures.err c.in-Err.is refused)
    c.class_refuses.ensures
