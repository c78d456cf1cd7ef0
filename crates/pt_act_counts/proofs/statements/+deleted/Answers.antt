use Rattle.std.proofs.Common.{◌+◌, ◌∙◌, ap, sym}
use Rattle.std.proofs.lemmas.Result.{on_ok_weaker}
use Rattle.pt_tree.proofs.Folds.{target_of-Place}
use Rattle.pt_tree.specs.Sizes.{deleted_size, target_size}
use Rattle.pt_act_counts.proofs.statements.+deleted.Goals as goal

pub count_deleted-returns-in-Place : goal.count_deleted-returns-in-Place
count_deleted-returns-in-Place t c =
    let place = target_of-Place c.args.target.now _ c.in-Place.is in
    on_ok_weaker c.count_target.result (λ is. is ∙ ap (λ u. c.args.acts.now + target_size u) place ∙ sym (ap (λ u. c.args.acts.now + deleted_size u) place))
    c.count_target.ensures
