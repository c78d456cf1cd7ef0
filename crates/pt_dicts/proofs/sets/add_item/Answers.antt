use Rattle.std.proofs.Common.{◌≡◌, ◌≢◌, ◌≤◌, ◌∙◌, ◌++◌, ◌∷◌, [], Ok, ap, sym, length, arith, length-append}
use Rattle.pt_heap.specs.Entries.{entry, found}
use Rattle.pt_heap.specs.Limits.{entry_limit}
use Rattle.pt_heap.proofs.HoleLemmas.{put-new}
use Rattle.pt_dicts.proofs.SetLemmas.{limited-ok}
use Rattle.pt_dicts.proofs.sets.add_item.Goals as goal

pub returns-in-Ok : goal.returns-in-Ok
returns-in-Ok c =
    let k = c.in_ok-key.key in
    let old = c.args.to.now in
    let all = old ++ entry c.args.key.now c.args.first c.args.value ∷ [] in
    let key : k ≡ c.args.key.now = c.in_ok-key.ensures in
    let new : found k old ≡ _ = ap (λ j. found j old) key ∙ c.requires.new in
    let put_in : c.insert.new.self ≡ all = c.in-Ok.ensures.ok ∙ put-new k c.args.first c.args.value old new ∙ ap (λ j. old ++ entry j c.args.first c.args.value ∷ []) key in
    let room : length old ≢ entry_limit = (λ full. let bad = c.in-Ok.ensures.full.1 (new, full) in cc) in
    let within : length all ≤ entry_limit = omega (arith, room, c.requires.room, length-append old (entry c.args.key.now c.args.first c.args.value ∷ [])) in
    limited-ok all within ∙ ap Ok (sym put_in)
