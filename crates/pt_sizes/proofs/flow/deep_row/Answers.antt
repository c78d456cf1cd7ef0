use Rattle.std.proofs.Common.{◌≡◌, ◌+◌, ◌<◌, ℕ, map, Some, inl, inr, sym, subst}
use Rattle.std.specs.Prelude.{slice_get}
use Rattle.std.proofs.lemmas.Option.{get_or_from_slice_get}
use Rattle.pt_sizes.specs.Lows.{AreAllLows, below}
use Rattle.pt_sizes.specs.Search.{DeepBelow}
use Rattle.pt_sizes.proofs.Tables.{below_or}
use Rattle.pt_sizes.proofs.flow.deep_row.Goals as goal

pub loop-number-preserved : goal.loop-number-preserved
loop-number-preserved c = λ n r h e d.
    let places = c.args.asked.now.places.items in
    let table = c.args.table.now in
    let items = c.deref-row-items.result.now in
    let number = c.loop-number.number in
    let lows : AreAllLows (below places table c.args.limit) c.args.limit (map (λ level. level.items) c.in_ok-lows.lows.levels.items) =
    subst (λ ps. AreAllLows (below ps table c.args.limit) c.args.limit (map (λ level. level.items) c.in_ok-lows.lows.levels.items)) c.deref.ensures.value c.in_ok-lows.ensures in
    elim (below_or n number h) [
      | inl a ↦ c.loop-number.invariant n r a e d
      | inr a ↦ (let at : slice_get items number ≡ Some r = subst (λ xs. slice_get xs number ≡ Some r) (sym c.deref-row-items.ensures.value)
          (subst (λ m. slice_get c.args.asked.now.rows.items m ≡ Some r) a e) in
          c.if-is_deep.ensures places table lows (subst (λ x. DeepBelow places table c.args.limit x) (sym (get_or_from_slice_get items number r _ at)) d))
    ]
