use Rattle.std.proofs.Common.{◌≡◌, ◌≤◌, length, refl, sym, subst, arith}
use Rattle.pt_joins.specs.declared.joins.Joins.{Joins}
use Rattle.sem_fits.specs.fits.Block.{block_of}
use Rattle.pt_verify_depths.specs.PlaceTable.{AreSizesUpTo}
use Rattle.pt_block_kinds.specs.Drawing.{Draws}
use Rattle.pt_common_slots.specs.Common.{TellsCommon}
use Rattle.pt_kind_failures.proofs.Seen.{is_flow, is_seen}
use Rattle.pt_place_slots.proofs.Seen.{all_sizes, rows_lead}
use Rattle.pt_place_slots.proofs.Assembly.{tells_block}
use Rattle.pt_place_slots.proofs.tables.block_slots.Goals as goal

pub with_lists-requires-clause-flow : goal.with_lists-requires-clause-flow
with_lists-requires-clause-flow c = is_flow c.args.code.now c.args.block.now c.args.places.now c.args.sizes.now c.len-end.result c.in_ok-kinds.kinds
    c.in_ok-kinds.ensures

pub returns-clause-exact : goal.returns-clause-exact
returns-clause-exact c view v has are fits =
    let b = block_of c.args.code.now c.args.block.now view in
    let s = c.in_ok-slots.slots in
    let end : c.in-Ok.limit ≡ length c.args.block.now.instructions = omega (arith, c.in-Ok.ensures, c.len-end.ensures) in
    let long : length c.args.block.now.instructions ≤ length c.args.sizes.now = omega (arith, c.if-sizes-end.false, c.len-end.ensures) in
    let seen = is_seen c.args.code.now c.args.block.now view v (length c.args.sizes.now) long in
    let sizes = subst (λ n. AreSizesUpTo b n c.args.sizes.now) (sym end) (all_sizes b c.args.sizes.now are) in
    let common = c.in_ok-joins.ensures.exact c.args.code.now view v has sizes (rows_lead b (length c.args.sizes.now) seen fits.tables) in
    tells_block b fits c.args.places.now has c.args.sizes.now are seen
    c.in_ok-kinds.kinds (subst (λ n. Draws b n c.args.sizes.now c.in_ok-kinds.kinds) c.len-end.ensures (c.in_ok-kinds.ensures view has))
    s.places.items c.in_ok-slots.ensures.lists.lists s refl c.in_ok-slots.ensures.lists.forest
    (subst (λ (j : Joins). TellsCommon b b.size j.nodes.items) (sym c.in_ok-slots.ensures.joins)
    (subst (λ n. TellsCommon b n c.in_ok-joins.joins.nodes.items) end common))
