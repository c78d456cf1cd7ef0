use Rattle.std.proofs.Common.{arith}
use Rattle.pt_jump.proofs.Targeting.{none_apart, top_apart}
use Rattle.pt_jump.proofs.landing.is_apart.Goals as goal

pub returns-then-count-eq0 : goal.returns-then-count-eq0
returns-then-count-eq0 g c = λ b tells. none_apart b c.args.from.0 c.args.to.0 c.args.count (omega (arith, c.if-count-eq0.true))

pub returns : goal.returns
returns g c = λ b tells. top_apart b c.args.from.0 c.args.to.0 c.args.count
    (λ z. omega (arith, z, c.if-count-eq0.false)) c.is_shared.result (c.is_shared.ensures b tells)
