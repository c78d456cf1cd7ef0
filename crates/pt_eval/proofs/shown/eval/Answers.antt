use Rattle.std.proofs.Common.{◌∙◌, ap}
use Rattle.std.proofs.lemmas.Result.{IfOk-weaker}
use Rattle.pt_tree.specs.Fold.{exp_of}
use Rattle.pt_eval.specs.Answers.{answer, locals_at}
use Rattle.pt_eval.proofs.shown.eval.Goals as goal

pub returns-clause-answer : goal.returns-clause-answer
returns-clause-answer c =
    IfOk-weaker c.answer-answer.result _ _
    (λ a is. is
    ∙ (ap (λ ls. answer ls c.names_at-names.result.globals.now (exp_of c.args.expr.now) c.above-scratch.result.objects) c.names_at-names.ensures.locals
    ∙ (ap (λ gs. answer (locals_at c.args.view.now.frames c.args.frame) gs (exp_of c.args.expr.now) c.above-scratch.result.objects) c.names_at-names.ensures.globals
    ∙ ap (answer (locals_at c.args.view.now.frames c.args.frame) c.args.view.now.globals (exp_of c.args.expr.now)) (c.above-scratch.ensures.objects ∙ c.replace.ensures.value))))
    c.answer-answer.ensures.answer
