-- Steps between places: those of instructions, and those to the targets of the handler rows around them (Library Reference, "dis").
use Rattle.std.specs.Prelude.{◌≡◌, ℕ, ◌<◌, List, [], ◌∷◌, ◌++◌, length, Contains, slice_index_or, true, if◌then◌else◌, Option, Some, None}
use Rattle.pt_ranges.specs.declared.handlers.Handler.{Handler}
use Rattle.pt_sizes.specs.Flow.{entry, is_under}
use Rattle.pt_cycles.specs.declared.cycles.Cycles.{Cycles}
use Rattle.pt_cycles.specs.declared.cycles.Cycles.TheVariants as cycles
use Rattle.pt_cycles.specs.Graphs.{number_of}
use Rattle.pt_step_graph.specs.declared.exits.Exits.{Exits}

abbrev pub some_of : Option ℕ → List ℕ
some_of None = []
some_of (Some r) = r ∷ []

-- the places to which an instruction itself goes on
abbrev pub own : Exits → (pc : ℕ) → List ℕ
own e pc = some_of e.onward ++ (some_of e.aside ++ (if e.again then pc ∷ [] else []))

-- the instructions from which steps are asked, at their places; bundles of places to which what they hold may go on; the handler rows
pub record Ways : Type 0 where
  pub exits : List (Option Exits)
  pub bundles : List (List ℕ)
  pub rows : List Handler

abbrev pub bundle : Ways → (number : ℕ) → List ℕ
bundle w c = slice_index_or w.bundles c []

pub data Leads (w : Ways) (pc : ℕ) (e : Exits) : ℕ → Type 0 where
  own_step : {r : ℕ} → Contains (own e pc) r → Leads w pc e r
  held_step : {c r : ℕ} → e.held ≡ Some c → Contains (bundle w c) r → Leads w pc e r
  lands : {row : Handler} → Contains w.rows row → is_under row pc ≡ true → Leads w pc e row.target.0

pub record StepTo (w : Ways) (q r : ℕ) : Type 0 where
  pub exits : Exits
  pub is : entry w.exits q ≡ Some exits
  pub inside : r < length w.exits
  pub leads : Leads w q exits r

-- one step or more
pub data Way (w : Ways) : (from to : ℕ) → Type 0 where
  once : {q r : ℕ} → StepTo w q r → Way w q r
  more : {q r s : ℕ} → Way w q r → StepTo w r s → Way w q s

pub record IsLeastLoop (w : Ways) (pc : ℕ) : Type 0 where
  pub round : Way w pc pc
  pub least : (q : ℕ) → q < pc → Way w q q → ⊥

-- what an answer tells: numbers that fall along each way, or the least place on a cycle of steps
abbrev pub TellsSteps : Ways → Cycles → Type 0
TellsSteps w (cycles.Ranks table) = (q r : ℕ) → Way w q r → number_of table.items r < number_of table.items q
TellsSteps w (cycles.Least pc) = IsLeastLoop w pc
