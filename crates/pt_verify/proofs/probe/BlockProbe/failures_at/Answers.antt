use Rattle.std.proofs.Common.{◌∙◌, ap, length, sym, Some}
use Rattle.std.proofs.lemmas.Result.{IfOk-weaker}
use Rattle.pt_verify.proofs.ProbeLemmas.{agree_before, meets}
use Rattle.pt_verify.proofs.probe.BlockProbe.failures_at.Goals as goal

pub returns-in-Some-Meet : goal.returns-in-Some-Meet
returns-in-Some-Meet c = λ b t le. meets b c.args.place c.args.self.now.sizes.now t.sizes (sym c.disagreement_at.ensures ∙ (c.in-Some-Meet.is ∙ ap (λ d. Some d) c.in-Some-Meet.field-0-is))

pub returns-in-Some-TooDeep : goal.returns-in-Some-TooDeep
returns-in-Some-TooDeep c = IfOk-weaker c.too_deep.result _ _ (λ told h b t le. h b t (sym c.disagreement_at.ensures ∙ (c.in-Some-TooDeep.is ∙ ap (λ d. Some d) c.in-Some-TooDeep.field-0-is))) c.too_deep.ensures

pub returns-in-Some-TooFew : goal.returns-in-Some-TooFew
returns-in-Some-TooFew c = IfOk-weaker c.too_few.result _ _ (λ told h b t le. h b t (sym c.disagreement_at.ensures ∙ (c.in-Some-TooFew.is ∙ ap (λ d. Some d) c.in-Some-TooFew.field-0-is))) c.too_few.ensures

pub returns-in-None : goal.returns-in-None
returns-in-None c = IfOk-weaker c.agreeing.result _ _
    (λ told h b t le. h b t (agree_before b c.args.place c.args.self.now.sizes.now (length c.args.self.now.block.now.instructions) t.sizes (sym c.disagreement_at.ensures ∙ c.in-None.is) le))
    c.agreeing.ensures
