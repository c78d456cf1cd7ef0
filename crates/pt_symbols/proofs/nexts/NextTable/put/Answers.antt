use Rattle.std.proofs.Common.{◌≡◌, ◌∙◌, ap, refl, Option, ℕ, if◌then◌else◌}
use Rattle.std.specs.Prelude.{◌&&◌, ◌==◌, slice_get, Some}
use Rattle.std.proofs.lemmas.Option.{slice_get_read}
use Rattle.pt_symbols.proofs.TableLemmas.{next_put}
use Rattle.pt_symbols.proofs.nexts.NextTable.put.Goals as goal

pub returns : goal.returns
returns c = λ h n.
    let rows = c.reach.new.self.rows.items in
    let found : slice_get rows c.args.block ≡ Some c.index_mut.result.now = slice_get_read rows _ c.args.block c.index_mut.result.now refl c.in_ok-reach.ensures.within c.index_mut.ensures.value in
    next_put rows c.args.block h c.index_mut.result.now c.insert.new.self c.args.next n c.args.region found (c.in_ok-insert.ensures.updates.0 n)
    ∙ ap (λ (o : Option ℕ). if (c.args.block == h) && (c.args.next == n) then Some c.args.region else o) (c.in_ok-reach.ensures.same h n)
