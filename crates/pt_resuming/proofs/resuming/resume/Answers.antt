use Rattle.std.proofs.Common.{rules, ◌≡◌, true, Option, subst}
use Rattle.pt_resuming.specs.Resuming.{Place, LaidSo, placed_for, given_there}
use Rattle.pt_resuming.proofs.Laying.{where_there}
use Rattle.pt_resuming.proofs.resuming.resume.Goals as goal

pub returns : goal.returns
returns c =
    let o : Option Place = placed_for c.args.why.now c.args.next c.args.value in
    let there : c.in_ok-lay.field-0 ≡ true = search rules in
    let laid : LaidSo o c.args.machine.now true c.lay.new.machine =
    subst (λ b. LaidSo o c.args.machine.now b c.lay.new.machine) there c.in_ok-lay.ensures in
    let told : record { event = c.in_ok-event.event; machine = c.reply.new.machine }
    ≡ given_there c.args.block.now c.args.called c.args.is_act c.args.decided c.args.machine.now c.lay.new.machine =
    search rules in
    where_there c.args.block.now o c.args.called c.args.is_act c.args.decided c.args.machine.now c.lay.new.machine laid
    c.in_ok-event.event c.reply.new.machine told
