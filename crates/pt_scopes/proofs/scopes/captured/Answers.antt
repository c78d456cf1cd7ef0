use Rattle.std.proofs.Common.{◌≡◌, ◌∷◌, ◌++◌, ◌+◌, [], List, Bool, ap, sym, take, ◌∙◌, arith}
use Rattle.std.proofs.lemmas.Grind.{common_steps}
use Rattle.pt_scopes.specs.declared.region.Mention.{Mention}
use Rattle.pt_scopes.specs.Scope.{is_captured}
use Rattle.pt_scopes.specs.Tables.{captured_too, facts_in}
use Rattle.pt_scopes.proofs.SeenLemmas.{captured-more}
use Rattle.pt_scopes.proofs.scopes.captured.Goals as goal

pub loop-m-preserved : goal.loop-m-preserved
loop-m-preserved c = λ r x.
    let m = c.m-item.result in
    let rs = c.args.table.now.regions in
    let look = facts_in c.args.table.now.names in
    let ms = c.args.mentions.now in
    let i = c.loop-m.m-index in
    let cut : take (i + 1) ms ≡ take i ms ++ m ∷ [] = grind (arith, common_steps) in
    c.in_ok-note_captured.ensures r x
    ∙ ap (λ (b : Bool). captured_too rs look m r x b) (c.loop-m.invariant r x)
    ∙ sym (captured-more rs look (take i ms) m r x)
    ∙ ap (λ (ts : List Mention). is_captured rs look ts r x) (sym cut)
