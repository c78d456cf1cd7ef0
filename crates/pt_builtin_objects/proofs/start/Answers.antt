use Rattle.std.proofs.Common.{◌≡◌, ◌++◌, ◌∙◌, ap, sym, subst}
use Rattle.pt_heap.specs.Sound.{IsSound}
use Rattle.pt_builtin_objects.specs.Start.{start_objects}
use Rattle.pt_builtin_objects.proofs.StartLemmas.{start-is-sound}
use Rattle.pt_builtin_objects.proofs.start.Goals as goal

pub returns-clause-objects : goal.returns-clause-objects
returns-clause-objects c = c.in_ok-add_all.ensures.ok ∙ ap (λ h. h ++ start_objects) c.new-heap.ensures

pub returns-clause-sound : goal.returns-clause-sound
returns-clause-sound c =
    let objects : c.add_all.new.heap ≡ start_objects = c.in_ok-add_all.ensures.ok ∙ ap (λ h. h ++ start_objects) c.new-heap.ensures in
    subst (IsSound start_objects) (sym objects) start-is-sound
