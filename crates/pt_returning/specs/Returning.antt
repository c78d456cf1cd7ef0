-- The newest activation closes, and the one that waits for it is the newest (Language Reference 4.1).
use Rattle.std.specs.Prelude.{List, [], ◌∷◌, Option, Some, None}
use Rattle.pt_opening.specs.pt_purposes.declared.opener.Opener.{Opener}
use Rattle.pt_opening.specs.pt_run_state.declared.machine.Machine.{Machine}
use Rattle.pt_opening.specs.pt_run_state.Stands.{newest}
use Rattle.pt_returning.specs.declared.closing.Returned.{Returned}

-- what the activation that waits is open for, with the one that closed, and the machine then
pub record Closed : Type 0 where
  pub returned : Option Returned
  pub machine : Machine

abbrev pub returned_of : Opener → Machine → Returned
returned_of o m = record {
  closed = newest m;
  purpose = o.purpose;
  why = o.why;
  context = o.context;
  generator = o.generator;
}

abbrev pub returned_to : Opener → List Opener → Machine → Machine
returned_to o os m = record m {
  code = record m.code { here = o.running.activation };
  course = o.running.course;
  openers = os;
}

abbrev pub closed_by : List Opener → Machine → Closed
closed_by [] m = record { returned = None; machine = m }
closed_by (o ∷ os) m = record { returned = Some (returned_of o m); machine = returned_to o os m }
