-- What the machine does with what an instruction's row tells: the newest activation goes to a place, a
-- completion leaves the place, or a raise that was held goes on; a text is printed first; and the
-- reply is told (Language Reference 4.1, 7.6 to 7.10, 8.4).
use Rattle.std.specs.Prelude.{List, [], ◌∷◌, None}
use Rattle.pt_base.specs.declared.numbers.Pc.{Pc}
use Rattle.pt_heap.specs.declared.completion.Completion.{Completion}
use Rattle.sem_run.specs.run.Run.{Write}
use Rattle.pt_arising.specs.pt_replying.pt_turning.pt_telling.pt_transfers.pt_machine_state.declared.blocks.BlockCode.{BlockCode}
use Rattle.pt_arising.specs.pt_replying.pt_turning.pt_telling.pt_transfers.pt_machine_state.Changes.{left_place}
use Rattle.pt_arising.specs.pt_replying.pt_turning.pt_telling.pt_transfers.pt_machine_state.Writing.{print_piece}
use Rattle.pt_arising.specs.pt_replying.pt_turning.sem_rows.declared.heap_rows.progress.Progress.{Progress}
use Rattle.pt_arising.specs.pt_replying.pt_turning.sem_rows.declared.heap_rows.progress.Progress.TheVariants as progress
use Rattle.pt_arising.specs.pt_replying.pt_turning.pt_telling.pt_run_state.pt_purposes.declared.standing.Standing.{Standing}
use Rattle.pt_arising.specs.pt_replying.pt_turning.pt_telling.pt_run_state.pt_purposes.declared.standing.Standing.TheVariants.{AtPlace, Reraises}
use Rattle.pt_arising.specs.pt_replying.pt_turning.pt_telling.pt_run_state.declared.machine.Machine.{Machine}
use Rattle.pt_arising.specs.pt_replying.pt_turning.pt_telling.Telling.{Told}
use Rattle.pt_arising.specs.pt_replying.pt_turning.Turning.{standing_of}
use Rattle.pt_arising.specs.pt_replying.declared.replying.Given.{Given}
use Rattle.pt_arising.specs.pt_replying.Replying.{replied}
use Rattle.pt_answering.specs.declared.answering.Asked.{Asked}
use Rattle.pt_answering.specs.declared.answering.Answered.{Answered}
use Rattle.pt_answering.specs.declared.answering.Answered.TheVariants.{Goes, Further}

-- what came of it, and the machine then
pub record AnsweredSo : Type 0 where
  pub answer : Answered
  pub machine : Machine

abbrev pub goes : Told → AnsweredSo
goes r = record { answer = Goes r.event; machine = r.machine }

-- no exception has ended an iterator
abbrev pub given_of : Asked → Given
given_of d = record { called = d.called; stops = None; decided = d.decided }

abbrev pub replied_there : BlockCode → Asked → Standing → Machine → Told
replied_there block d z m = replied block (given_of d) d.is_act z d.active d.from m

-- the newest activation is at a place
abbrev pub at_pc : Pc → Machine → Machine
at_pc pc m = record m { code = record m.code { here = record m.code.here { pc = pc } } }

abbrev pub behind : BlockCode → Asked → Pc → Machine → Told
behind block d pc m = replied_there block d AtPlace (at_pc pc m)

-- a completion leaves the place, and nothing but the place and the slots changes
abbrev pub left_in : BlockCode → (next : Pc) → Completion → Machine → Machine
left_in block next how m = record m {
  code = record m.code {
    here = record m.code.here {
      pc = (left_place block next how m.code).here.pc;
      slots = (left_place block next how m.code).here.slots;
    };
  };
}

-- where it is behind that, and where it stands there
abbrev pub moved : BlockCode → (next : Pc) → Progress → Machine → Machine
moved block next progress.Next m = at_pc next m
moved block next (progress.Goto pc) m = at_pc pc m
moved block next (progress.Leaves how) m = left_in block next how m
moved block next (progress.Print t) m = at_pc next m
moved block next p m = m

abbrev pub stands_by : BlockCode → (next : Pc) → Progress → Machine → Standing
stands_by block next (progress.Leaves how) m =
    standing_of (left_place block next how m.code).standing
stands_by block next (progress.Reraises e) m = Reraises e
stands_by block next p m = AtPlace

abbrev pub answered : BlockCode → (next : Pc) → Progress → Asked → Machine → AnsweredSo
answered block next progress.Next d m = goes (behind block d next m)
answered block next (progress.Goto pc) d m = goes (behind block d pc m)
answered block next (progress.Leaves how) d m =
    goes (replied_there block d (standing_of (left_place block next how m.code).standing)
    (left_in block next how m))
answered block next (progress.Reraises e) d m = goes (replied_there block d (Reraises e) m)
answered block next (progress.Print t) d m = goes (behind block d next m)
answered block next p d m = record { answer = Further p; machine = m }

-- what is written
abbrev pub answer_writes : Progress → List Write
answer_writes (progress.Print t) = print_piece t ∷ []
answer_writes p = []
