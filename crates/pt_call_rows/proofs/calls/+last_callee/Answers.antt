use Rattle.std.proofs.Common.{◌≡◌, ◌∙◌, Option, Some, refl, sym, arith}
use Rattle.std.proofs.lemmas.Result.{IfOk-weaker}
use Rattle.pt_call_rows.proofs.ValueLemmas.{one_less}
use Rattle.pt_call_rows.proofs.calls.+last_callee.Goals as goal

pub returns-in-Some : goal.returns-in-Some
returns-in-Some n c =
    IfOk-weaker c.last_callee.result _ _
    (λ last so. one_less c.args.heap.now c.args.callee c.args.left c.in_ok-next.field-0 c.in-Some.next last (λ z. absurd (omega (arith, c.if-left-eq0.false, z))) c.in_ok-next.ensures c.in-Some.is so)
    c.last_callee.ensures
