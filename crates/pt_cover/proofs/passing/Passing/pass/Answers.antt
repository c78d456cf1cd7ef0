use Rattle.std.proofs.Common.{rules, ◌≡◌, ◌∷◌, [], true, false}
use Rattle.std.specs.Prelude.{is_some}
use Rattle.pt_cover.proofs.PassedLemmas.{first_now, in_part, silent, whole}
use Rattle.pt_cover.proofs.passing.Passing.pass.Goals as goal

pub returns-then-is_some-clause-taken : goal.returns-then-is_some-clause-taken
returns-then-is_some-clause-taken g c =
    let some : is_some c.args.self.now.failed ≡ true = search rules in
    silent c.args.self.now.failed (g.L.Sink.taken c.args.self.now.log.now) (c.args.piece.now ∷ []) some

pub returns-in-Ok-clause-taken : goal.returns-in-Ok-clause-taken
returns-in-Ok-clause-taken g c =
    let none : is_some c.args.self.now.failed ≡ false = search rules in
    whole c.args.self.now.failed (g.L.Sink.taken c.args.self.now.log.now) (g.L.Sink.taken c.write.new.self) (c.args.piece.now ∷ []) none c.in-Ok.ensures.ok

pub returns-in-Err-clause-taken : goal.returns-in-Err-clause-taken
returns-in-Err-clause-taken g c =
    let none : is_some c.args.self.now.failed ≡ false = search rules in
    in_part c.args.self.now.failed c.in-Err.error (g.L.Sink.taken c.args.self.now.log.now) (g.L.Sink.taken c.write.new.self) (c.args.piece.now ∷ []) none
    c.in-Err.ensures.err
