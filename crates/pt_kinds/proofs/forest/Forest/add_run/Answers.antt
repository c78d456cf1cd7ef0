use Rattle.std.proofs.Common.{◌+◌, ◌∙◌, sym, ap, arith}
use Rattle.pt_kinds.proofs.WayLemmas.{length_is, known_has, run_has}
use Rattle.pt_kinds.proofs.forest.Forest.add_run.Goals as goal

pub returns-in-Some : goal.returns-in-Some
returns-in-Some c = known_has c.args.self.now c.requires.forest c.args.parent c.args.count c.in-Some.node c.args.kind (sym c.find.ensures ∙ c.in-Some.is)

pub returns : goal.returns
returns c =
    let f = c.args.self.now in
    run_has f (record { nodes = c.push.new.self; known = c.add.new.self })
    (record { parent = c.args.parent; kind = c.args.kind; count = c.args.count; length = c.in-Some-checked_add.length; runs = c.saturating_add.result; shortcut = c.shortcut_of-shortcut.result })
    c.len-node.result c.requires.forest c.requires.inside c.requires.some c.requires.apart
    (c.in-Some-checked_add.ensures.1 ∙ ap (λ m. m + c.args.count) (length_is f c.requires.forest c.args.parent c.at-below.result c.at-below.ensures))
    c.shortcut_of-shortcut.ensures.inside c.shortcut_of-shortcut.ensures.begins (sym c.find.ensures ∙ c.in_default.is) c.in_ok-add.ensures.ok (omega (arith, c.len-node.ensures)) c.in_ok-push.ensures.items
