use Rattle.std.proofs.Common.{◌∙◌, IfOk, ◌≡◌, sym, ap, subst}
use Rattle.pt_tracebacks.specs.Chain.{chain}
use Rattle.pt_tracebacks.specs.Summaries.{summaries, summary}
use Rattle.pt_tracebacks.proofs.SummaryLemmas.{turned}
use Rattle.pt_tracebacks.proofs.traceback.summaries.Goals as goal

pub returns-in_ok-links-in-Obj-2 : goal.returns-in_ok-links-in-Obj-2
returns-in_ok-links-in-Obj-2 g c =
    let name = g.N.BlockNames.name c.args.names.now in
    let h = c.args.heap.now in
    subst (λ z. IfOk c.each_summary.result (λ told. told ≡ z))
    (turned (summary name h) (λ l. (l.error.now, l.role)) c.in_ok-links-in-Obj.links.items c.in_ok-links-in-Obj-2.links.items c.as_slice.result.now
    c.as_slice-in-Obj.result.now (chain h c.in-Obj.id) c.as_slice.ensures.value c.in_ok-links-in-Obj-2.ensures c.as_slice-in-Obj.ensures.value
    c.in_ok-links-in-Obj.ensures
    ∙ ap (summaries name h) (sym c.in-Obj.is))
    c.each_summary.ensures
