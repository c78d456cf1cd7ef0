use Rattle.std.proofs.Common.{◌≡◌, ◌<◌, ◌≤◌, ◌∙◌, Option, None, Some, cond, length, get_or, ap, sym, subst, arith}
use Rattle.pt_bdb.proofs.Turns.{break_off, go_on, none_stops, on_err, stop_at}
use Rattle.pt_bdb.specs.declared.row.Breakpoint.{Breakpoint}
use Rattle.pt_bdb.proofs.breaks.first_hit.Goals as goal

pub returns-in_err-hit-clause-err : goal.returns-in_err-hit-clause-err
returns-in_err-hit-clause-err g c =
    let judge = g.J.Judge.verdict (g.J.Judge.held c.args.judge.now) in
    let within : c.loop-at.at < length c.args.rows.now = omega arith in
    let within' : c.loop-at.at < length c.loop-at.rows = omega arith in
    on_err c.from_residual.result
    (break_off judge c.args.line c.args.rows.now c.loop-at.rows c.loop-at.at (get_or c.loop-at.rows c.loop-at.at c.index-rows-at.result) c.turn.new.self within within' c.loop-at.invariant.turned
    (ap (λ (d : Breakpoint). get_or c.loop-at.rows c.loop-at.at d) c.index-rows-at.is) c.in_err-hit.ensures.tried c.in_err-hit.ensures.err)

pub returns-in-Some-clause-ok : goal.returns-in-Some-clause-ok
returns-in-Some-clause-ok g c =
    let first = g.J.Judge.verdict (g.J.Judge.held c.loop-at.judge) in
    let judge = g.J.Judge.verdict (g.J.Judge.held c.args.judge.now) in
    let within : c.loop-at.at < length c.args.rows.now = omega arith in
    let within' : c.loop-at.at < length c.loop-at.rows = omega arith in
    stop_at first judge (ap g.J.Judge.verdict c.loop-at.invariant.kept) c.args.line c.args.rows.now c.loop-at.rows c.loop-at.at (get_or c.loop-at.rows c.loop-at.at c.index-rows-at.result)
    c.turn.new.self c.in-Some.hit within within' c.loop-at.invariant.turned (ap (λ (d : Breakpoint). get_or c.loop-at.rows c.loop-at.at d) c.index-rows-at.is) (sym c.in-Some.is ∙ c.in_ok-hit.ensures.hit) c.in_ok-hit.ensures.row

pub loop-at-preserved : goal.loop-at-preserved
loop-at-preserved g c =
    let first = g.J.Judge.verdict (g.J.Judge.held c.loop-at.judge) in
    let judge = g.J.Judge.verdict (g.J.Judge.held c.args.judge.now) in
    let within : c.loop-at.at < length c.args.rows.now = omega arith in
    let within' : c.loop-at.at < length c.loop-at.rows = omega arith in
    record {
      kept = c.turn.ensures.kept ∙ c.loop-at.invariant.kept;
      turned = go_on first judge (ap g.J.Judge.verdict c.loop-at.invariant.kept) c.args.line c.args.rows.now c.loop-at.rows c.loop-at.at (get_or c.loop-at.rows c.loop-at.at c.index-rows-at.result)
          c.turn.new.self within within' c.loop-at.invariant.turned (ap (λ (d : Breakpoint). get_or c.loop-at.rows c.loop-at.at d) c.index-rows-at.is) (sym c.in_default.is ∙ c.in_ok-hit.ensures.hit) c.in_ok-hit.ensures.row;
    }

pub returns-clause-ok : goal.returns-clause-ok
returns-clause-ok g c =
    let judge = g.J.Judge.verdict (g.J.Judge.held c.args.judge.now) in
    let past : length c.args.rows.now ≤ c.loop-at.at = omega arith in
    let past' : length c.loop-at.rows ≤ c.loop-at.at = omega arith in
    none_stops judge c.args.line c.args.rows.now c.loop-at.rows c.loop-at.at past past' c.loop-at.invariant.turned
