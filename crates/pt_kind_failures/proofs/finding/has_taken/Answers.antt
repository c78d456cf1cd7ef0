use Rattle.std.proofs.lemmas.Result.{IfOk-weaker}
use Rattle.pt_kinds.specs.Forest.{list_at}
use Rattle.pt_kind_failures.proofs.Tops.{tells_found, tells_unswapped, tells_swapped}
use Rattle.pt_kind_failures.proofs.finding.has_taken.Goals.{then-found-via-then-found, then-found-via-else-found+then-not-effect}
use Rattle.pt_kind_failures.proofs.finding.has_taken.Goals as goal

pub returns-then-found-clause-exact : goal.returns-then-found-clause-exact
returns-then-found-clause-exact c =
    let f = c.args.forest.now in
    let ks = list_at f c.args.list in
    let h = c.in_ok-found.ensures in
    elim c.then-found.branch [
      | then-found-via-then-found w ↦ tells_found c.args.effect.now ks (list_at f c.args.lower) c.requires.stays c.in_ok-found.found h.exact w.if-found.true
      | then-found-via-else-found+then-not-effect w ↦
          tells_unswapped c.args.effect.now ks (list_at f c.args.lower) c.requires.stays c.in_ok-found.found h.exact w.if-found.false w.if-not-effect.true
    ]

pub returns-clause-exact : goal.returns-clause-exact
returns-clause-exact c =
    let f = c.args.forest.now in
    let g = c.is_upon.new.forest in
    let ks = list_at f c.args.list in
    let lower = list_at f c.args.lower in
    let h = c.in_ok-found.ensures in
    IfOk-weaker c.has_iterator.result _ _ (λ s x. tells_swapped c.args.effect.now ks lower c.requires.stays c.in_ok-found.found h.exact c.if-found.false c.if-not-effect.false
    (list_at g c.args.list) (list_at g c.args.lower) (h.grows.kept c.args.list c.requires.inside) (h.grows.kept c.args.lower c.requires.lower) s x) c.has_iterator.ensures.exact
