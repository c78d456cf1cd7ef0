-- What leaves a place changes the place and the slots of the newest activation alone.
use Rattle.std.proofs.Common.{◌≡◌, ◌∙◌, refl, sym, ap}
use Rattle.pt_base.specs.declared.numbers.Pc.{Pc}
use Rattle.pt_heap.specs.declared.completion.Completion.{Completion}
use Rattle.pt_heap.specs.declared.completion.Completion.TheVariants.{Normal, Raise, Return, Leave}
use Rattle.pt_unwind.specs.declared.Landing.{Landing}
use Rattle.pt_unwind.specs.declared.Landing.TheVariants.{Enter, Jump, Out}
use Rattle.pt_unwind.specs.Landings.{landing_of}
use Rattle.pt_arising.specs.pt_replying.pt_turning.pt_telling.pt_transfers.pt_machine_state.declared.blocks.BlockCode.{BlockCode}
use Rattle.pt_arising.specs.pt_replying.pt_turning.pt_telling.pt_transfers.pt_machine_state.declared.machine.Machine.{Machine as Code}
use Rattle.pt_arising.specs.pt_replying.pt_turning.pt_telling.pt_transfers.pt_machine_state.declared.machine.Standing.TheVariants as code
use Rattle.pt_arising.specs.pt_replying.pt_turning.pt_telling.pt_transfers.pt_machine_state.Changes.{landed_at, left_place}
use Rattle.pt_arising.specs.pt_replying.pt_turning.pt_telling.pt_run_state.declared.machine.Machine.{Machine}
use Rattle.pt_answering.specs.Answering.{left_in}

abbrev only : Code → Code → Code
only c d = record c { here = record c.here { pc = d.here.pc; slots = d.here.slots }; standing = code.AtPlace }

landing-only : (block : BlockCode) (how : Completion) (l : Landing) (c : Code)
    → record (landed_at block how l c) { standing = code.AtPlace } ≡ only c (landed_at block how l c)
landing-only block how (Enter pc depth holds) c = refl
landing-only block how (Jump pc) c = refl
landing-only block Normal Out c = refl
landing-only block (Raise v) Out c = refl
landing-only block (Return v) Out c = refl
landing-only block (Leave target) Out c = refl

leaving-only : (block : BlockCode) (next : Pc) (how : Completion) (c : Code)
    → record (left_place block next how c) { standing = code.AtPlace } ≡ only c (left_place block next how c)
leaving-only block next Normal c = refl
leaving-only block next (Raise v) c = landing-only block (Raise v) (landing_of block.handlers c.here.pc (Raise v)) c
leaving-only block next (Return v) c = landing-only block (Return v) (landing_of block.handlers c.here.pc (Return v)) c
leaving-only block next (Leave t) c = landing-only block (Leave t) (landing_of block.handlers c.here.pc (Leave t)) c

pub only_place_and_slots : (block : BlockCode) (next : Pc) (how : Completion) (m : Machine)
    → m.code.standing ≡ code.AtPlace
    → record m { code = record (left_place block next how m.code) { standing = code.AtPlace } }
    ≡ left_in block next how m
only_place_and_slots block next how m at_place =
    ap (λ c. record m { code = c })
    (leaving-only block next how m.code
    ∙ ap (λ s. record m.code {
      here = record m.code.here { pc = (left_place block next how m.code).here.pc; slots = (left_place block next how m.code).here.slots };
      standing = s;
    }) (sym at_place))
