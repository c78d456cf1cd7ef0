use Rattle.std.proofs.Common.{rules, ◌≡◌, Some, subst}
use Rattle.pt_content.specs.pt_attrs.declared.look.Found.TheVariants as found
use Rattle.pt_moves.specs.sem_rows.pt_host.World.{IsAllotted, allot}
use Rattle.pt_class_rows.proofs.InstanceLemmas.{no_room}
use Rattle.pt_class_rows.proofs.instances.make_instance.Goals as goal

pub returns-in-None-2-clause-row : goal.returns-in-None-2-clause-row
returns-in-None-2-clause-row c =
    let bound : c.in_ok-initializer.field-0 ≡ Some (found.Bound c.in-Some-Bound.function) = search rules in
    let plain : c.in_ok-values-in-Some-Bound.values ≡ c.args.args.now.plain = search rules in
    no_room c.args.class c.args.args.now c.args.slots.now c.args.heap.now c.in_ok-initializer.field-0 c.in-Some-Bound.function c.derives-is_exception.result
    c.in_ok-values-in-Some-Bound.values c.instance-made.result c.allot.new.heap c.in_ok-initializer.ensures bound c.derives-is_exception.ensures plain
    c.instance-made.ensures
    (subst (λ o. IsAllotted (allot c.instance-made.result c.args.heap.now) o c.allot.new.heap) c.in-None-2.is c.in_ok-made-in-Some-Bound.ensures.ok)
