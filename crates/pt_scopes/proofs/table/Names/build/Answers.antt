use Rattle.std.proofs.Common.{◌≡◌, ◌∷◌, ◌++◌, ◌+◌, [], List, ap, sym, take, ◌∙◌, arith}
use Rattle.std.proofs.lemmas.Grind.{common_steps}
use Rattle.pt_scopes.specs.declared.region.Facts.{Facts}
use Rattle.pt_scopes.specs.declared.region.Mention.{Mention}
use Rattle.pt_scopes.specs.Scope.{facts}
use Rattle.pt_scopes.specs.Tables.{noted}
use Rattle.pt_scopes.proofs.TableLemmas.{facts-more}
use Rattle.pt_scopes.proofs.table.Names.build.Goals as goal

pub loop-m-preserved : goal.loop-m-preserved
loop-m-preserved c = λ x r.
    let m = c.m-item.result in
    let cut : take (c.loop-m.m-index + 1) c.args.mentions.now ≡ take c.loop-m.m-index c.args.mentions.now ++ m ∷ [] = grind (arith, common_steps) in
    c.in_ok-note.ensures x r
    ∙ ap (λ (f : Facts). noted m.role m x r f) (c.loop-m.invariant x r)
    ∙ sym (facts-more (take c.loop-m.m-index c.args.mentions.now) m x r)
    ∙ ap (λ (ms : List Mention). facts ms x r) (sym cut)
