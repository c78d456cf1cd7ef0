use Rattle.std.proofs.Common.{◌≡◌, subst, Some, None, List, ℕ, rules}
use Rattle.std.specs.BTreeMap.{get_by_text}
use Rattle.std.specs.Map.{update}
use Rattle.std.specs.Str.{bytes_eq}
use Rattle.std.proofs.lemmas.Map.Text.{btree_map_updates_text}
use Rattle.pt_standing.proofs.IdLemmas.{given_new}
use Rattle.pt_standing.proofs.ids.id_of.Goals as goal

pub returns : goal.returns
returns c =
    let text = c.args.text.now in
    let old = c.args.known.now in
    let new = c.insert.new.self in
    let none : get_by_text old text ≡ None = search rules in
    given_new old new text c.args.number none
    (λ x. subst (λ (t : List ℕ). get_by_text new x ≡ update bytes_eq (get_by_text old) t (Some c.args.number) x) c.in_ok-from_str.ensures.ok
    (btree_map_updates_text _ old new (Some c.args.number) c.in_ok-insert.ensures.updates x))
