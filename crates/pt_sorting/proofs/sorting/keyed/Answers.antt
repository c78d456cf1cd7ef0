use Rattle.std.proofs.Common.{◌≡◌, ◌∙◌, ◌++◌, List, [], ◌∷◌, drop, append-nil, ap, sym, refl}
use Rattle.std.proofs.lemmas.List.{nil_from_length}
use Rattle.pt_heap.specs.declared.value.Value.{Value}
use Rattle.pt_sorting.specs.Sorting.{keyed}
use Rattle.pt_sorting.proofs.sorting.keyed.Goals as goal

of-nothing : (ks : List Value) → keyed ks [] ≡ []
of-nothing [] = refl
of-nothing (k ∷ ks) = refl

pub returns-in_default : goal.returns-in_default
returns-in_default c =
    let left = drop c.loop-key.key-index c.args.keys.now in
    let none : c.loop-key.others.now ≡ [] = nil_from_length c.loop-key.others.now c.in_default.ensures.cases in
    sym (append-nil c.loop-key.pairs.items)
    ∙ ap (λ l. c.loop-key.pairs.items ++ l) (sym (of-nothing left) ∙ ap (keyed left) (sym none))
    ∙ c.loop-key.invariant
