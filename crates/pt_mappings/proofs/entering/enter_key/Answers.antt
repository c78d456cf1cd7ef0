use Rattle.std.proofs.Common.{◌≡◌, ◌∙◌, Ok, Err, ap}
use Rattle.pt_heap.specs.Entries.{HasNoRoomFor}
use Rattle.pt_mappings.proofs.RoomLemmas.{enters, refuses}
use Rattle.pt_mappings.proofs.entering.enter_key.Goals as goal

pub returns-in-Ok-clause-answer : goal.returns-in-Ok-clause-answer
returns-in-Ok-clause-answer c =
    ap Ok c.in-Ok.ensures.ok
    ∙ enters c.args.key c.args.first c.args.value c.args.entries.now (λ full. let bad = c.in-Ok.ensures.full.1 full in cc)
