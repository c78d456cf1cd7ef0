use Rattle.std.proofs.Common.{◌≡◌, ◌∙◌, ◌++◌, List, ℕ, Option, map, drop, length, min, ap, sym}
use Rattle.pt_heap.specs.declared.value.Value.{Value}
use Rattle.pt_bind.specs.Binding.{by_name}
use Rattle.pt_bind.proofs.BindingLemmas.{plain_values-parts, drop-least, slice-rest}
use Rattle.pt_bind.proofs.binding.values_of.Goals as goal

pub returns : goal.returns
returns c =
    let plain = c.args.params.now.plain in
    let only = c.args.params.now.only in
    let vs = c.args.args.now.plain in
    let named : List (List ℕ) → List (Option Value) = λ names. map (by_name c.args.defaults.now c.args.args.now) names in
    let placed : c.min-placed.result ≡ min (length plain) (length vs) = c.min-placed.ensures ∙ (λ j. min (c.len.ensures j) (c.len-2.ensures j)) in
    let behind : drop c.min-placed.result plain ≡ drop (length vs) plain = ap (λ n. drop n plain) placed ∙ drop-least plain (length vs) in
    c.in_ok-fill_by_name-2.ensures
    ∙ ap (λ l. c.fill_by_name.new.values ++ named l) c.as_slice-2.ensures
    ∙ ap (λ l. l ++ named only) (
    c.in_ok-fill_by_name.ensures
    ∙ ap (λ l. c.in_ok-values.values ++ named l) (slice-rest c.as_slice.result.now c.min-placed.result)
    ∙ ap (λ l. c.in_ok-values.values ++ named (drop c.min-placed.result l)) c.as_slice.ensures
    ∙ ap (λ l. c.in_ok-values.values ++ named l) behind
    ∙ ap (λ l. l ++ named (drop (length vs) plain)) c.in_ok-values.ensures
    ∙ sym (plain_values-parts c.args.defaults.now c.args.args.now plain vs))
