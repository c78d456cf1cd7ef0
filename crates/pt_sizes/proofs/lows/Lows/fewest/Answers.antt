use Rattle.std.proofs.Common.{◌≡◌, ◌+◌, ◌-◌, ◌/◌, ◌%◌, ◌<◌, ◌≤◌, ℕ, [], length, map, if◌then◌else◌, ap, ◌∙◌, sym, subst, arith, get_or}
use Rattle.std.specs.Prelude.{min}
use Rattle.std.proofs.lemmas.List.{length-map}
use Rattle.pt_sizes.specs.Waiting.{at_low, at_high}
use Rattle.pt_sizes.specs.Lows.{low_at, no_place, FewestSoFar}
use Rattle.pt_sizes.proofs.LowLemmas.{seeking_start, seeking_more, seeking_end, level_here}
use Rattle.pt_sizes.proofs.lows.Lows.fewest.Goals as goal

pub loop-level-init : goal.loop-level-init
loop-level-init c = λ numbers count lows le. seeking_start numbers count c.args.from c.args.to le

pub loop-level-preserved : goal.loop-level-preserved
loop-level-preserved c = λ numbers count lows le.
    let items = c.deref-level-items.result.now in
    let k = c.loop-level.level-index in
    let low = c.loop-level.low in
    let high = c.loop-level.high in
    let levels = map (λ level. level.items) c.args.self.now.levels.items in
    let long : length levels ≡ length items = length-map c.args.self.now.levels.items (λ level. level.items) ∙ sym (ap (λ xs. length xs) c.deref-level-items.ensures.value) in
    let lt : k < length levels = omega (arith, long, c.loop-level-test.true) in
    let here : get_or levels k [] ≡ c.level-item.result.items = ap (λ xs. get_or (map (λ level. level.items) xs) k []) (sym c.deref-level-items.ensures.value)
    ∙ level_here items c.level-item.result k c.loop-level-test.true c.level-item.is in
    let e : c.min-fewest.result ≡ min c.loop-level.fewest (if at_low low high then low_at (get_or levels k []) low else no_place) = c.min-fewest.ensures ∙ ap (λ x. min c.loop-level.fewest x)
    (c.low_of.ensures ∙ (ap (λ t. if t then low_at c.deref.result.now low else no_place) c.at_low.ensures
    ∙ ap (λ xs. if at_low low high then low_at xs low else no_place) (c.deref.ensures.value ∙ sym here))) in
    let g : c.min-fewest-in-loop-level.result ≡ min c.min-fewest.result (if at_high low high then low_at (get_or levels k []) (high - 1) else no_place) =
    c.min-fewest-in-loop-level.ensures ∙ ap (λ x. min c.min-fewest.result x)
    (c.low_of-in-loop-level.ensures ∙ (ap (λ t. if t then low_at c.deref-in-loop-level.result.now c.saturating_sub.result else no_place) c.at_high.ensures
    ∙ (ap (λ n. if at_high low high then low_at c.deref-in-loop-level.result.now n else no_place) c.saturating_sub.ensures
    ∙ ap (λ xs. if at_high low high then low_at xs (high - 1) else no_place) (c.deref-in-loop-level.ensures.value ∙ sym here)))) in
    subst (λ n. FewestSoFar numbers count c.args.from c.args.to (k + 1) n (high / 2) c.min-fewest-in-loop-level.result) (let z : (low + 1) / 2 ≡ low / 2 + low % 2 = omega arith in z)
    (seeking_more numbers count c.args.from c.args.to levels lows k low high c.loop-level.fewest (c.loop-level.invariant numbers count lows le) lt c.min-fewest.result
    c.min-fewest-in-loop-level.result e g)

pub returns : goal.returns
returns c = λ numbers count lows le.
    let levels = map (λ level. level.items) c.args.self.now.levels.items in
    let long : length levels ≡ length c.deref-level-items.result.now = length-map c.args.self.now.levels.items (λ level. level.items) ∙ sym (ap (λ xs. length xs) c.deref-level-items.ensures.value) in
    seeking_end numbers count c.args.from c.args.to levels lows c.loop-level.level-index c.loop-level.low c.loop-level.high c.loop-level.fewest (c.loop-level.invariant numbers count lows le)
    (omega (arith, long, c.loop-level-test.false))
