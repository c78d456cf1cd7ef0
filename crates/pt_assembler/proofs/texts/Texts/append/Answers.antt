use Rattle.std.proofs.Common.{◌≡◌, ◌∙◌, ap, sym, subst, [], ◌∷◌, ◌++◌, length, cond, Some, List, ℕ, rules}
use Rattle.std.specs.BTreeMap.{get_by_text}
use Rattle.std.specs.Map.{update}
use Rattle.std.specs.Str.{bytes_eq}
use Rattle.std.proofs.lemmas.Map.Text.{btree_map_updates_text}
use Rattle.std.proofs.lemmas.Slice.Eq.{bytes_eq-Decides}
use Rattle.pt_assembler.specs.Tables.{found_in}
use Rattle.pt_assembler.proofs.FoundLemmas.{finds_more}
use Rattle.pt_assembler.proofs.texts.Texts.append.Goals as goal

pub invariant_of-self-in-Ok : goal.invariant_of-self-in-Ok
invariant_of-self-in-Ok c =
    let text = c.args.text.now in
    let items = c.args.self.now in
    let old = c.self.inside.numbers in
    let new = c.insert.new.self in
    let pushed : c.push.new.self ≡ items ++ text ∷ [] = c.in_ok-push.ensures.ok ∙ (λ i. c.self.view_is i ++ c.in_ok-from_str.ensures i ∷ []) in
    let number : c.in_ok-number.number ≡ length items = search rules in
    let finds = λ (x : List ℕ). c.self.invariant x ∙ ap (found_in (bytes_eq x)) c.self.view_is in
    let updates = λ (x : List ℕ).
    subst (λ (t : List ℕ). get_by_text new x ≡ update bytes_eq (get_by_text old) t (Some c.in_ok-number.number) x) c.in_ok-key.ensures.ok
    (btree_map_updates_text _ old new (Some c.in_ok-number.number) c.in-Ok.ensures.updates x)
    ∙ ap (λ n. cond (bytes_eq text x) (Some n) (get_by_text old x)) number in
    λ x. finds_more bytes_eq bytes_eq-Decides (get_by_text old) (get_by_text new) text items finds (finds text ∙ c.requires) (bytes_eq text)
    (bytes_eq-Decides text) updates x ∙ ap (found_in (bytes_eq x)) (sym pushed)
