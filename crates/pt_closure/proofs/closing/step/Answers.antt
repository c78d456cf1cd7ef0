use Rattle.std.proofs.Common.{◌++◌, sym, subst}
use Rattle.pt_closure.specs.Closure.{Adds, Open}
use Rattle.pt_closure.proofs.LeastSet.{open_known, open_new}
use Rattle.pt_closure.proofs.closing.step.Goals as goal

pub returns-in_ok-add_next-clause-known : goal.returns-in_ok-add_next-clause-known
returns-in_ok-add_next-clause-known g c = λ next t seeds o.
    let work = c.args.work.now.items in
    let a = subst (λ b. Adds b c.args.pair c.args.found.now c.add.new.self) c.if-branch.true c.in_ok-add.ensures in
    subst (λ ws. Open next seeds ws c.add.new.self.pairs.items) (sym (c.in_ok-add_next.ensures next t))
    (subst (λ ps. Open next seeds (work ++ next c.args.pair) ps) (sym a.pairs)
    (open_new next seeds work c.args.found.now.pairs.items c.args.pair o))

pub returns-else-branch-clause-known : goal.returns-else-branch-clause-known
returns-else-branch-clause-known g c = λ next t seeds o.
    let a = subst (λ b. Adds b c.args.pair c.args.found.now c.add.new.self) c.if-branch.false c.in_ok-add.ensures in
    subst (λ ps. Open next seeds c.args.work.now.items ps) (sym a.pairs)
    (open_known next seeds c.args.work.now.items c.args.found.now.pairs.items c.args.pair o a.among)
