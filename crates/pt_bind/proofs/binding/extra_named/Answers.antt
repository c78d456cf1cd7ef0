use Rattle.std.proofs.Common.{◌≡◌, ◌∙◌, ℕ, List, ap, not, filter}
use Rattle.std.specs.Prelude.{◌||◌}
use Rattle.pt_heap.specs.declared.view.Binding.{Binding}
use Rattle.pt_bind.specs.NameSets.{has_name, is_among}
use Rattle.pt_bind.specs.Binding.{names_of}
use Rattle.pt_bind.proofs.BindingLemmas.{is_among-both}
use Rattle.pt_bind.proofs.binding.extra_named.Goals as goal

pub returns : goal.returns
returns c =
    let plain = c.args.params.now.plain in
    let only = c.args.params.now.only in
    let names : (x : List ℕ) → has_name c.add_all-2.new.self x ≡ is_among (names_of c.args.params.now) x = λ x.
    c.in_ok-add_all-2.ensures x
    ∙ ap (λ l. is_among l x || has_name c.add_all.new.self x) c.as_slice-2.ensures
    ∙ ap (λ t. is_among only x || t) (c.in_ok-add_all.ensures x ∙ ap (λ l. is_among l x || has_name c.new-names.result x) c.as_slice.ensures ∙ ap (λ t. is_among plain x || t) (c.new-names.ensures x))
    ∙ is_among-both plain only x in
    c.in_ok-others.ensures
    ∙ ap (λ l. filter (λ (b : Binding). not (has_name c.add_all-2.new.self b.name)) l) c.as_slice-3.ensures
    ∙ (λ j. filter (λ (b : Binding). not (names b.name j)) c.args.args.now.named)
