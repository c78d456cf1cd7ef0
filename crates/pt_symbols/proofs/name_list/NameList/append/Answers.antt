use Rattle.std.proofs.Common.{◌≡◌, ◌∙◌, ap, sym, [], ◌∷◌, ◌++◌, true, List, ℕ, Bool, bytes_eq}
use Rattle.std.specs.Prelude.{◌||◌, string_bytes}
use Rattle.std.specs.BTreeSet.{contains_text}
use Rattle.std.specs.List.{list_any}
use Rattle.std.proofs.lemmas.Map.Text.{btree_set_updates_text}
use Rattle.pt_symbols.proofs.TableLemmas.{any_more, or_hit}
use Rattle.pt_symbols.proofs.name_list.NameList.append.Goals as goal

pub invariant_of-self-in-Ok : goal.invariant_of-self-in-Ok
invariant_of-self-in-Ok c = λ x.
    let key = string_bytes c.in_ok-key.key in
    let old = c.self.inside.known in
    let names = c.self.inside.names in
    let name = c.args.name.now in
    let pushed : c.push.new.self ≡ names ++ name ∷ [] = c.in_ok-push.ensures.ok ∙ ap (λ (t : List ℕ). names ++ t ∷ []) c.in_ok-from_str.ensures in
    btree_set_updates_text key old c.insert.new.self true c.in-Ok.ensures.updates x
    ∙ or_hit (contains_text old x) (bytes_eq key x)
    ∙ ap (λ (n : List ℕ). contains_text old x || bytes_eq n x) c.in_ok-key.ensures.ok
    ∙ ap (λ (b : Bool). b || bytes_eq name x) (c.self.invariant x)
    ∙ sym (any_more (λ (y : List ℕ). bytes_eq y x) names name)
    ∙ ap (list_any (λ (y : List ℕ). bytes_eq y x)) (sym pushed)
