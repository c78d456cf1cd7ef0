use Rattle.std.proofs.Common.{◌≡◌, ◌∙◌, ◌++◌, ◌∷◌, [], ℕ, List, Option, None, ap, sym}
use Rattle.std.specs.Str.{bytes_eq}
use Rattle.std.specs.Map.{lookup}
use Rattle.indexmap.specs.IndexMap.{get}
use Rattle.indexmap.proofs.CallerLemmas.{insert_entry-new}
use Rattle.pt_heap.specs.declared.items.Item.{Item}
use Rattle.pt_heap.proofs.HoleLemmas.{take-next, lookup-before}
use Rattle.pt_heap.proofs.items.copy_place.Goals as goal

pub returns-in_ok-insert : goal.returns-in_ok-insert
returns-in_ok-insert c =
    let es = c.args.items.now.entries in
    let e : List ℕ × Option Item = (c.in-Some.key.now, c.in-Some.item.now) in
    let key : c.in_ok-key.key ≡ c.in-Some.key.now = c.in_ok-key.ensures in
    let absent : get bytes_eq c.args.copy.now c.in_ok-key.key ≡ None =
    ap (λ k. lookup (bytes_eq k) c.args.copy.now.entries) key
    ∙ ap (lookup (bytes_eq c.in-Some.key.now)) c.requires.before
    ∙ lookup-before es c.args.at e c.requires.unique c.in-Some.ensures.entry in
    c.in_ok-insert.ensures.entries
    ∙ insert_entry-new bytes_eq c.args.copy.now c.in_ok-key.key c.in-Some.item.now absent
    ∙ (λ j. c.requires.before j ++ (key j, c.in-Some.item.now) ∷ [])
    ∙ sym (take-next es c.args.at e c.in-Some.ensures.entry)
