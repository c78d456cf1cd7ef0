-- Positions of control and of code that stand for each other.
use Rattle.std.proofs.Common.{◌≡◌, ap, Option}
use Rattle.sem_control.specs.control.Frames.{Control, Way}
use Rattle.sem_control.specs.control.Bases.{way_base}
use Rattle.sem_control.specs.control.Bases as bases
use Rattle.sem_code.specs.slots.Slots.{State, active}
use Rattle.sem_code.specs.comp.Law as comp
use Rattle.sem_code.specs.comp.Law.{Match}
use Rattle.sem_run.specs.run.Machine.{BlockId, turn_in}
use Rattle.sem_run.specs.run.Source as source_of
use Rattle.sem_run.specs.run.Source.{Source}
use Rattle.sem_run.specs.run.Follows.{Nears, there, moves}
use Rattle.law_code_runs.specs.code_run.CodeMachine as code_of
use Rattle.law_code_runs.specs.code_run.CodeMachine.{Place, CodeSource}
use Rattle.law_code_runs.specs.code_run.Reached as R
use Rattle.law_code_runs.specs.code_run.Reached.{Reached, Landed}
use Rattle.law_code_runs.specs.code_run.Parts.{InParts, HasClosedParts}
use Rattle.law_code_runs.specs.code_run.Law.{Script, Coded}

module _ {V : Type 0} (source : Source V) (code : CodeSource V) where
  -- positions whose turns are alike
  pub data At (b : BlockId) : source_of.Position V → code_of.Position V → Type 0 where
    at_match : (c : Control V) (t : State V) → Match (source.around b) (code.object b) c t → Reached source code b c t
        → At b (source_of.at c) (code_of.at t)

  abbrev pub Near : BlockId → source_of.Position V → code_of.Position V → Type 0
  Near b p q = Nears (Script source code) (Coded source code) At b p q

  pub comes_near : (b : BlockId) (c : Control V) (t : State V) → Reached source code b c t → comp.Comes (source.around b) (code.object b) c t
      → Near b (source_of.at c) (code_of.at t)
  comes_near b _ _ r (comp.there c t m) = there _ (at_match c t m r)
  comes_near b _ _ r (comp.moves c t u e h) = moves _ _ (ap (turn_in code_of.at) e) (comes_near b c u (R.moves c t u r e) h)

module _ {V : Type 0} (source : Source V) (code : CodeSource V) (has : (b : BlockId) → HasClosedParts source code b) where
  -- positions where jumps have landed
  pub data Lands (b : BlockId) : source_of.Position V → code_of.Position V → Type 0 where
    at_landing : (k : Way V) (p : Place V) → Landed source code b k p
        → InParts source code b (has b).block (has b).part (has b).ending (way_base k) p → active p.slots ≡ bases.active (way_base k)
        → Lands b (source_of.at_statement k) (code_of.at_statement p)

  -- all positions that hooks may look at
  pub data Stands (b : BlockId) : source_of.Position V → code_of.Position V → Type 0 where
    at_turn : (c : Control V) (t : State V) → Match (source.around b) (code.object b) c t → Stands b (source_of.at c) (code_of.at t)
    at_start : (i : Option V) → Stands b ((Script source code).start b i) ((Coded source code).start b i)
    behind_jump : (p : source_of.Position V) (q : code_of.Position V) → Lands b p q → Stands b p q
