use Rattle.std.proofs.Common.{◌≡◌, sym, subst, set}
use Rattle.pt_heap.specs.Sound.{StaysSound, MayReplace}
use Rattle.pt_heap.proofs.SoundLemmas.{sound-set}
use Rattle.pt_heap.proofs.heap.Heap.set.Goals as goal

pub returns-clause-sound : goal.returns-clause-sound
returns-clause-sound c =
    let h = c.args.self.now in
    let i = c.args.id.0 in
    let o = c.args.object in
    let new : set c.self.inside.objects.items i c.replace.new.dest ≡ set h i o = λ j. set (c.self.view_is j) i (c.replace.ensures.after j) in
    subst (λ l. StaysSound h l (λ builtins. MayReplace builtins h i o)) (sym new) (sound-set h i o)
