use Rattle.std.proofs.Common.{◌≡◌, ℕ, List, Bool, ap, refl, ◌∙◌}
use Rattle.std.specs.Prelude.{◌&&◌, ◌||◌, ◌==◌, bytes_eq, slice_get, string_bytes, Some}
use Rattle.std.proofs.lemmas.Map.Text.{btree_set_updates_text}
use Rattle.std.proofs.lemmas.Option.{slice_get_read}
use Rattle.pt_scopes.specs.NameSets.{is_in}
use Rattle.pt_scopes.proofs.NameSetLemmas.{row-added}
use Rattle.pt_scopes.proofs.name_set.NameSet.add.Goals as goal

pub returns : goal.returns
returns c = λ r x.
    let found : slice_get c.reach.new.self.rows.items c.args.region ≡ Some c.index_mut.result.now = slice_get_read c.reach.new.self.rows.items _ c.args.region c.index_mut.result.now refl c.in_ok-reach.ensures.within c.index_mut.ensures.value in
    let wrote = btree_set_updates_text (string_bytes c.in_ok-name.name) c.index_mut.result.now c.insert.new.self _ c.in_ok-insert.ensures.updates x in
    row-added c.reach.new.self.rows.items c.args.region r c.index_mut.result.now c.insert.new.self (string_bytes c.in_ok-name.name) x found wrote
    ∙ ap (λ (b : Bool). b || ((c.args.region == r) && bytes_eq (string_bytes c.in_ok-name.name) x)) (c.in_ok-reach.ensures.same r x)
    ∙ ap (λ (n : List ℕ). is_in c.args.self.now r x || ((c.args.region == r) && bytes_eq n x)) c.in_ok-name.ensures.ok
