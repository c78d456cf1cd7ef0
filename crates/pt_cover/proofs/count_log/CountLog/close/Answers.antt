use Rattle.std.proofs.Common.{◌∷◌, []}
use Rattle.pt_cover.specs.Kept.{report_of}
use Rattle.pt_cover.specs.Reports.{if_asked}
use Rattle.pt_cover.proofs.PassedLemmas.{on-further}
use Rattle.pt_cover.proofs.count_log.CountLog.close.Goals as goal

pub returns-in_err-pass-clause-taken : goal.returns-in_err-pass-clause-taken
returns-in_err-pass-clause-taken g c =
    let s = c.args.self.now in
    on-further s.log.failed c.pass.new.log.failed _ (g.L.Sink.taken s.log.log.now) (g.L.Sink.taken c.pass.new.log.log.now)
    (report_of s.report ∷ []) (if_asked s.totals (c.args.totals.now ∷ [])) c.in_err-pass.ensures.first c.in_err-pass.ensures.taken
