use Rattle.std.proofs.Common.{◌≡◌, ◌∙◌, ◌++◌, [], drop, map, ap, sym, append-nil}
use Rattle.std.proofs.lemmas.List.{nil_from_length}
use Rattle.pt_helper_objects.specs.Objects.{bindings}
use Rattle.pt_helper_objects.proofs.TableLemmas.{bound-to-none}
use Rattle.pt_helper_objects.proofs.bindings.Goals as goal

pub returns-in_default : goal.returns-in_default
returns-in_default c =
    let left = map (λ name. name.now) (drop c.loop-name.name-index c.args.names.now) in
    let none : c.loop-name.others.now ≡ [] = nil_from_length c.loop-name.others.now c.in_default.ensures.cases in
    sym (c.loop-name.invariant ∙ (ap (λ l. c.loop-name.defaults ++ l) (ap (bindings left) none ∙ bound-to-none left) ∙ append-nil c.loop-name.defaults))
