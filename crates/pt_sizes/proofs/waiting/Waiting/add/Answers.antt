use Rattle.std.proofs.Common.{◌≡◌, ◌+◌, ◌/◌, ◌%◌, ◌<◌, ◌≤◌, length, map, sym, ap, ◌∙◌, subst, arith, [], get_or, set}
use Rattle.std.proofs.lemmas.List.{map-set, get_or-map, with_items_is}
use Rattle.pt_sizes.specs.Waiting.{Added, Adding, Ready, level_of, levels_of, placed}
use Rattle.pt_sizes.proofs.Landings.{in_map, out_map, same_long}
use Rattle.pt_sizes.proofs.Adding.{add_start, adding_more, adding_end, half_up}
use Rattle.pt_sizes.proofs.waiting.Waiting.add.Goals as goal

pub loop-level-init : goal.loop-level-init
loop-level-init c = add_start c.args.count c.min-high.result c.args.row (map level_of c.deref_mut-level-items.result.now)
    (subst (λ xs. Ready c.args.count c.args.row (map level_of xs)) (sym c.deref_mut-level-items.ensures.value) c.requires) c.min-high.ensures

pub loop-level-preserved : goal.loop-level-preserved
loop-level-preserved c =
    let l = c.loop-level in
    let items = l.level-items in let k = l.level-index in
    let lt : k < length items = omega (arith, c.loop-level-test.true) in
    let e = get_or-map level_of items k c.level-item.result [] lt in
    let p = c.in_ok-place_on.ensures ∙ ap (λ x. placed x l.low l.high c.args.row) (sym e) in
    let start = map level_of c.deref_mut-level-items.result.now in
    let more = adding_more c.args.count c.args.row start (map level_of items) k l.low l.high l.invariant (in_map level_of items k lt) in
    let more' = subst (λ n. Adding c.args.count c.args.row start (set (map level_of items) k (placed (get_or (map level_of items) k []) l.low l.high c.args.row)) (k + 1) n (l.high / 2)) (half_up l.low) more in
    subst (λ x. Adding c.args.count c.args.row start x (k + 1) (l.low / 2 + l.low % 2) (l.high / 2))
    (ap (λ y. set (map level_of items) k y) (sym p) ∙ sym (map-set level_of items k c.place_on.new.level)) more'

pub returns : goal.returns
returns c =
    let l = c.loop-level in
    let items = l.level-items in
    let start = c.deref_mut-level-items.result.now in
    let le : length items ≤ l.level-index = omega (arith, c.loop-level-test.false) in
    let long : length items ≡ length start = same_long level_of items start l.invariant.long in
    let all = subst (λ x. Added c.args.count c.args.row (map level_of x) (map level_of items)) c.deref_mut-level-items.ensures.value
    (adding_end c.args.count c.args.row (map level_of start) (map level_of items) l.level-index l.low l.high l.invariant (out_map level_of items l.level-index le)) in
    subst (λ x. Added c.args.count c.args.row (levels_of c.args.self.now.levels) (map level_of x))
    (sym (with_items_is c.args.self.now.levels items (omega (arith, long, c.deref_mut-level-items.ensures.len)))) all
