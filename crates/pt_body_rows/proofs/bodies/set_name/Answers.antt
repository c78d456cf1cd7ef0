use Rattle.std.proofs.Common.{◌∙◌, rules, sym}
use Rattle.pt_body_rows.proofs.BodyLemmas.{unbindable}
use Rattle.pt_body_rows.proofs.bodies.set_name.Goals as goal

pub returns-then-is_left_out-clause-row : goal.returns-then-is_left_out-clause-row
returns-then-is_left_out-clause-row c = unbindable c.args.name.now c.args.in_class c.args.facts.now c.args.text c.args.slots.now c.args.locals.now c.args.own.now
    c.args.globals.now c.take_one.new.slots c.in-Some.value (search rules) (sym c.is_left_out.ensures ∙ c.if-is_left_out.true)
    (sym c.take_one.ensures.value ∙ c.in-Some.is) c.in-Some.ensures.below
