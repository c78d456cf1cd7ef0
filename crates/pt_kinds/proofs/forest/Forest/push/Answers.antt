use Rattle.std.proofs.Common.{◌≡◌, ◌++◌, ◌∙◌, replicate, sym, ap, subst}
use Rattle.std.specs.Prelude.{IfOk}
use Rattle.std.proofs.lemmas.Option.{same_Some}
use Rattle.pt_kinds.specs.Forest.{Has, HasTop, list_at}
use Rattle.pt_kinds.proofs.WayLemmas.{low_inside, top_apart, joined}
use Rattle.pt_kinds.proofs.forest.Forest.push.Goals as goal

pub add_run-requires-in-Some-clause-inside : goal.add_run-requires-in-Some-clause-inside
add_run-requires-in-Some-clause-inside c = low_inside c.args.self.now c.requires.forest c.args.list c.at-top.result c.requires.inside c.at-top.ensures

pub add_run-requires-in-Some-clause-apart : goal.add_run-requires-in-Some-clause-apart
add_run-requires-in-Some-clause-apart c =
    let h : HasTop c.args.self.now c.args.list c.args.kind = c.if-is_apart.ensures in
    let same : c.at-top.result.kind ≡ c.args.kind = ap (λ m. m.kind) (sym (same_Some h.top c.at-top.result (sym h.stands ∙ c.at-top.ensures))) ∙ h.same in
    top_apart c.args.self.now c.requires.forest c.args.list c.at-top.result c.args.kind h.behind c.at-top.ensures same

pub returns-in-Some : goal.returns-in-Some
returns-in-Some c =
    let f = c.args.self.now in
    let h : HasTop f c.args.list c.args.kind = c.if-is_apart.ensures in
    let same : c.at-top.result.kind ≡ c.args.kind = ap (λ m. m.kind) (sym (same_Some h.top c.at-top.result (sym h.stands ∙ c.at-top.ensures))) ∙ h.same in
    subst (λ ks. IfOk c.add_run-in-Some.result (λ node. Has f c.add_run-in-Some.new.self node ks))
    (ap (λ m. list_at f c.at-top.result.parent ++ replicate m c.args.kind) c.in-Some.ensures.1 ∙ joined f c.requires.forest c.args.list c.args.count c.at-top.result c.args.kind h.behind c.at-top.ensures same)
    c.add_run-in-Some.ensures
