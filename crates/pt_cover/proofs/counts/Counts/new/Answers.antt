use Rattle.std.proofs.Common.{sym, subst}
use Rattle.pt_cover.proofs.GivenLemmas.{names-apart, lines-apart}
use Rattle.pt_cover.proofs.counts.Counts.new.Goals as goal

pub returns-in_ok-line_rows-in-Lines-clause-different : goal.returns-in_ok-line_rows-in-Lines-clause-different
returns-in_ok-line_rows-in-Lines-clause-different c = lines-apart c.args.lines.now _ c.in_ok-line_rows-in-Lines.ensures

pub returns-in_ok-new-in-Names-clause-different : goal.returns-in_ok-new-in-Names-clause-different
returns-in_ok-new-in-Names-clause-different c =
    names-apart c.args.names.now _ _ c.in_ok-rows-in-Names.ensures c.in_ok-new-in-Names.ensures
