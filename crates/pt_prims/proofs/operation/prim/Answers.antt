use Rattle.std.proofs.Common.{◌≡◌, true, Ok, sym, subst}
use Rattle.pt_heap.specs.declared.value.Value.TheVariants as value
use Rattle.pt_heap.specs.Sound.{IsSound}
use Rattle.pt_builtin_objects.specs.Start.{start_objects}
use Rattle.pt_content.specs.declared.answer.PrimAns.TheVariants as answer
use Rattle.pt_prims.specs.Laws.{AllWithin}
use Rattle.pt_prims.specs.Operations.{content_of}
use Rattle.pt_prims.specs.Updates.{IsMade}
use Rattle.pt_prims.proofs.SoundLemmas.{place-sound}
use Rattle.pt_prims.proofs.WithinLemmas.{content-within}
use Rattle.pt_prims.proofs.operation.prim.Goals as goal

pub returns-then-branch-clause-sound : goal.returns-then-branch-clause-sound
returns-then-branch-clause-sound c s w =
    let h = c.args.heap.now in
    let made : IsMade c.args.op c.args.args.now h c.update.new.heap true =
    subst (λ b. IsMade c.args.op c.args.args.now h c.update.new.heap b) c.if-branch.true c.in_ok-update.ensures.ok in
    place-sound (Ok (answer.Value value.None)) (content_of c.args.op c.args.args.now h) h c.update.new.heap made.1 tt s
    (content-within h s c.args.op c.args.args.now w)

pub returns-clause-sound : goal.returns-clause-sound
returns-clause-sound c s w =
    let h = c.args.heap.now in
    let g = c.update.new.heap in
    let same : g ≡ h = subst (λ b. IsMade c.args.op c.args.args.now h g b) c.if-branch.false c.in_ok-update.ensures.ok in
    let sound : IsSound start_objects g = subst (IsSound start_objects) (sym same) s in
    let within : AllWithin g c.args.args.now = subst (λ x. AllWithin x c.args.args.now) (sym same) w in
    place-sound c.answered.result (content_of c.args.op c.args.args.now g) g c.answered.new.heap c.answered.ensures.heap c.answered.ensures.memory sound
    (content-within g sound c.args.op c.args.args.now within)
