-- A raise that lands changes the place and the slots of the newest activation alone.
use Rattle.std.proofs.Common.{◌≡◌, ◌∙◌, ◌-◌, List, [], ◌∷◌, length, Bool, true, false, Option, Some, None, refl, sym, ap, subst}
use Rattle.pt_heap.specs.declared.value.Value.{Value}
use Rattle.pt_heap.specs.declared.completion.Completion.TheVariants.{Raise}
use Rattle.pt_ranges.specs.declared.handlers.Handler.{Handler}
use Rattle.pt_unwind.specs.declared.Landing.{Landing}
use Rattle.pt_unwind.specs.declared.Landing.TheVariants.{Enter, Jump, Out}
use Rattle.pt_unwind.specs.Landings.{landing_of}
use Rattle.pt_telling.specs.pt_transfers.pt_machine_state.declared.blocks.BlockCode.{BlockCode}
use Rattle.pt_telling.specs.pt_transfers.pt_machine_state.declared.machine.Machine.{Machine as Code}
use Rattle.pt_telling.specs.pt_transfers.pt_machine_state.declared.machine.Standing.TheVariants as code
use Rattle.pt_telling.specs.pt_transfers.pt_machine_state.Changes.{landed, landed_at}
use Rattle.pt_telling.specs.pt_run_state.declared.machine.Machine.{Machine}
use Rattle.pt_turning.specs.Turning.{behind_raise, raised_in}

abbrev only : Code → Code → Code
only c d = record c { here = record c.here { pc = d.here.pc; slots = d.here.slots }; standing = code.AtPlace }

landing-only : (block : BlockCode) (v : Value) (l : Landing) (c : Code)
    → record (landed_at block (Raise v) l c) { standing = code.AtPlace } ≡ only c (landed_at block (Raise v) l c)
landing-only block v (Enter pc depth holds) c = refl
landing-only block v (Jump pc) c = refl
landing-only block v Out c = refl

pub only_place_and_slots : (block : BlockCode) (v : Value) (m : Machine) → m.code.standing ≡ code.AtPlace
    → record m { code = record (behind_raise block v m) { standing = code.AtPlace } } ≡ raised_in block v m
only_place_and_slots block v m at_place =
    ap (λ c. record m { code = c })
    (landing-only block v (landing_of block.handlers m.code.here.pc (Raise v)) m.code
    ∙ ap (λ s. record m.code {
      here = record m.code.here { pc = (behind_raise block v m).here.pc; slots = (behind_raise block v m).here.slots };
      standing = s;
    }) (sym at_place))
