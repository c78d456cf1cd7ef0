use Rattle.std.proofs.Common.{◌≡◌, ◌∙◌, ap, sym, subst, take}
use Rattle.pt_heap.specs.Sound.{StaysSound, IsClosedBelow}
use Rattle.pt_heap.proofs.SoundLemmas.{sound-back}
use Rattle.pt_heap.proofs.heap.Heap.back.Goals as goal

pub returns-clause-sound : goal.returns-clause-sound
returns-clause-sound c =
    let h = c.args.self.now in
    let n = c.args.mark.0 in
    let new : c.truncate.new.self.items ≡ take n h = c.truncate.ensures.items ∙ ap (take n) c.self.view_is in
    subst (λ l. StaysSound h l (λ builtins. IsClosedBelow builtins h n)) (sym new) (sound-back h n)
