use Rattle.std.proofs.Common.{◌≡◌, ◌++◌, ◌∷◌, [], ◌∙◌, ap, sym, subst}
use Rattle.pt_heap.specs.Sound.{StaysSound, Fits}
use Rattle.std.proofs.Common.{length}
use Rattle.pt_heap.proofs.SoundLemmas.{sound-add}
use Rattle.pt_heap.proofs.heap.Heap.add.Goals as goal

pub returns-clause-sound : goal.returns-clause-sound
returns-clause-sound c =
    let h = c.args.self.now in
    let o = c.args.object in
    let new : c.push.new.objects.items ≡ h ++ o ∷ [] = c.in_ok-push.ensures.ok ∙ ap (λ l. l ++ o ∷ []) c.self.view_is in
    subst (λ l. StaysSound h l (λ _. Fits h (length h) o)) (sym new) (sound-add h o)
