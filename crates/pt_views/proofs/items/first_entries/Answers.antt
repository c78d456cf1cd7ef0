use Rattle.std.proofs.Common.{◌≡◌, ◌∙◌, ◌+◌, ◌-◌, ◌++◌, ◌<◌, ℕ, suc, List, [], ◌∷◌, map, take, sym, ap, arith, append_assoc}
use Rattle.pt_heap.specs.Entries.{Entry}
use Rattle.pt_heap.specs.declared.object.Part.{Part}
use Rattle.pt_views.specs.declared.items.Item.{Item}
use Rattle.pt_views.specs.Unpacking.{entry_item}
use Rattle.pt_views.proofs.items.first_entries.Goals as goal

taken-more : (p : Part) (n i : ℕ) (items new : List Item) (left rest : List Entry) (x : Entry) → i < n → left ≡ x ∷ rest → new ≡ items ++ entry_item p x ∷ []
    → new ++ map (entry_item p) (take (n - (i + 1)) rest) ≡ items ++ map (entry_item p) (take (n - i) left)
taken-more p n i items new left rest x h e w =
    let more : n - i ≡ suc (n - (i + 1)) = omega (arith, h) in
    let behind : List Item = map (entry_item p) (take (n - (i + 1)) rest) in
    let step : take (n - i) left ≡ x ∷ take (n - (i + 1)) rest = ap (λ l. take (n - i) l) e ∙ ap (λ k. take k (x ∷ rest)) more in
    ap (λ l. l ++ behind) w ∙ append_assoc items (entry_item p x ∷ []) behind ∙ ap (λ l. items ++ map (entry_item p) l) (sym step)

pub loop-taken-preserved : goal.loop-taken-preserved
loop-taken-preserved c =
    taken-more c.args.part c.args.most c.loop-taken._taken c.loop-taken.items c.push.new.self c.loop-taken.left c.next.new.self _
    (omega (arith, c.loop-taken-test.true)) c.in-Some.ensures.first
    (c.in_ok-push-in-Some.ensures.ok ∙ ap (λ (item : Item). c.loop-taken.items ++ item ∷ []) c.item_by.ensures)
    ∙ c.loop-taken.invariant
