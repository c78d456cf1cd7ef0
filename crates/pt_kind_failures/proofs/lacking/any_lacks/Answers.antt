use Rattle.std.proofs.Common.{◌≤◌, length, ap, ◌∙◌, arith}
use Rattle.pt_places.specs.PlaceTable.{entry}
use Rattle.sem_fits.specs.fits.Block.{links_of}
use Rattle.pt_kind_failures.specs.Lacking.{lacks_in}
use Rattle.pt_kind_failures.proofs.Looking.{none_looked, inside_still, look, looked_found, looked_up_to, looked_at_all}
use Rattle.pt_kind_failures.proofs.lacking.any_lacks.Goals as goal

pub loop-at-init : goal.loop-at-init
loop-at-init c = none_looked c.args.forest.now (links_of c.args.code.now) c.args.lists.now c.args.places.now c.requires.forest

pub returns-then-at-limit : goal.returns-then-at-limit
returns-then-at-limit c = looked_up_to c.args.forest.now (links_of c.args.code.now) c.args.lists.now c.args.places.now c.loop-at.forest c.loop-at.at c.args.limit c.loop-at.invariant c.if-at-limit.true

pub lacks_in-requires-clause-forest : goal.lacks_in-requires-clause-forest
lacks_in-requires-clause-forest c = c.loop-at.invariant.grows.forest

pub lacks_in-requires-clause-inside : goal.lacks_in-requires-clause-inside
lacks_in-requires-clause-inside c =
    inside_still c.args.forest.now (links_of c.args.code.now) c.args.lists.now c.args.places.now c.loop-at.forest c.loop-at.at c.loop-at.invariant c.requires.inside

pub returns-then-branch : goal.returns-then-branch
returns-then-branch c =
    let links = links_of c.args.code.now in
    let list = entry c.args.lists.now c.loop-at.at in
    looked_found c.args.forest.now links c.args.lists.now c.args.places.now c.loop-at.forest c.loop-at.at c.args.limit c.loop-at.invariant c.requires.inside c.if-at-limit.false
    c.in_ok-lacks_in.field-0 (c.in_ok-lacks_in.ensures.exact ∙ ap (λ o. lacks_in c.loop-at.forest links list o) c.in_ok-place.ensures)
    c.if-branch.true

pub loop-at-preserved : goal.loop-at-preserved
loop-at-preserved c =
    let links = links_of c.args.code.now in
    let list = entry c.args.lists.now c.loop-at.at in
    look c.args.forest.now links c.args.lists.now c.args.places.now c.loop-at.forest c.lacks_in.new.forest c.loop-at.at c.loop-at.invariant c.requires.inside c.in_ok-lacks_in.ensures.grows
    c.in_ok-lacks_in.field-0 (c.in_ok-lacks_in.ensures.exact ∙ ap (λ o. lacks_in c.loop-at.forest links list o) c.in_ok-place.ensures)
    c.if-branch.false

pub returns : goal.returns
returns c = looked_at_all c.args.forest.now (links_of c.args.code.now) c.args.lists.now c.args.places.now c.loop-at.forest c.loop-at.at c.args.limit c.loop-at.invariant
    (let h : length c.args.lists.now ≤ c.loop-at.at = omega (arith, c.loop-at-test.false, c.loop-at.auto.at-end) in h)
