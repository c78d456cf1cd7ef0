use Rattle.std.proofs.lemmas.Result.{on_ok_weaker}
use Rattle.pt_act_counts.proofs.statements.count_changed.Goals as goal

pub returns : goal.returns
returns c = on_ok_weaker c.count_place.result (λ h. h c.args.place.now.line.0) c.count_place.ensures
