use Rattle.std.proofs.Common.{◌≡◌, ◌∙◌, ap, sym, subst, [], ◌∷◌, ◌++◌, length, cond, Some, List, ℕ, rules}
use Rattle.std.specs.Str.{bytes_eq}
use Rattle.std.proofs.lemmas.Slice.Eq.{bytes_eq-Decides}
use Rattle.pt_assembler.specs.Tables.{found_in, by_items}
use Rattle.pt_assembler.proofs.FoundLemmas.{finds_more}
use Rattle.pt_assembler.proofs.ListLemmas.{list_updates}
use Rattle.pt_assembler.proofs.lists.Lists.append.Goals as goal

pub invariant_of-self-in-Ok : goal.invariant_of-self-in-Ok
invariant_of-self-in-Ok c =
    let list = c.args.list.now in
    let items = c.args.self.now in
    let old = c.self.inside.numbers in
    let new = c.insert.new.self in
    let pushed : c.push.new.self ≡ items ++ list ∷ [] = c.in_ok-push.ensures.ok ∙ (λ i. c.self.view_is i ++ c.in_ok-item.ensures i ∷ []) in
    let number : c.in_ok-number.number ≡ length items = search rules in
    let finds = λ (x : List ℕ). c.self.invariant x ∙ ap (found_in (bytes_eq x)) c.self.view_is in
    let updates = λ (x : List ℕ).
    subst (λ (t : List ℕ). by_items new x ≡ cond (bytes_eq t x) (Some c.in_ok-number.number) (by_items old x)) c.in_ok-key.ensures.items
    (list_updates _ old new (Some c.in_ok-number.number) c.in-Ok.ensures.updates x)
    ∙ ap (λ n. cond (bytes_eq list x) (Some n) (by_items old x)) number in
    λ x. finds_more bytes_eq bytes_eq-Decides (by_items old) (by_items new) list items finds (finds list ∙ c.requires) (bytes_eq list)
    (bytes_eq-Decides list) updates x ∙ ap (found_in (bytes_eq x)) (sym pushed)
