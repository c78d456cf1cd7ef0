-- That the code of a block has its closed parts: its jumps are those said of slots, and each place from which and to which they go lies in the parts
-- of the nest there, each with its slot (Library Reference, "inspect": `f_lineno`).
use Rattle.std.specs.Prelude.{◌≡◌, ℕ, List, [], ◌∷◌, length, true, Some, None}
use Rattle.pt_tree.specs.Blocks.{acts_of_code}
use Rattle.pt_instr.specs.Effects.{Kinds}
use Rattle.pt_code.specs.View.{Ins}
use Rattle.sem_control.specs.control.Frames as F
use Rattle.sem_control.specs.control.Frames.{Completion, Nest, Control}
use Rattle.sem_control.specs.control.Control.{turn, nest_at}
use Rattle.sem_control.specs.control.Jump.{Part, with_part, finally_part, exit_part, parts, shape, Target, starts_of, on_line}
use Rattle.sem_control.specs.control.Laws.{IsActOrEnd}
use Rattle.sem_code.specs.slots.Slots.{Slots, State}
use Rattle.sem_code.specs.slots.Landing.{cut}
use Rattle.sem_code.specs.slots.Machine as slots
use Rattle.sem_code.specs.slots.Destinations.{unhindered}
use Rattle.sem_fits.specs.fits.Block.{Block}
use Rattle.sem_fits.specs.fits.Places.{Gets}
use Rattle.sem_fits.specs.fits.Fits.{IsLeast}
use Rattle.sem_fits.specs.fits.Jumps as S
use Rattle.sem_fits.specs.fits.Jumps.{Starts, Answer, Jumps}
use Rattle.sem_code.specs.comp.Surroundings.{Surroundings}
use Rattle.sem_code.specs.comp.Law.{Above, Match, Comes}
use Rattle.sem_fits.specs.comp_jumps.Filled.{Filled, Stands}
use Rattle.sem_fits.specs.comp_jumps.Parts.{Begins, Fills, Closed, Around_place}
use Rattle.sem_run.specs.run.Machine.{BlockId, no_statement, out_of_finally, into_block, is_act}
use Rattle.sem_run.specs.run.Source.{Source}
use Rattle.law_code_runs.specs.code_run.CodeMachine.{Place, CodeJump, refuses, goes_to, CodeSource, place_of}
use Rattle.law_code_runs.specs.code_run.Reached.{Reached}

-- an answer that is said of slots, from a place
abbrev pub jump_of_answer : {V : Type 0} → Answer → Place V → CodeJump V
jump_of_answer S.no_statement p = refuses no_statement
jump_of_answer S.out_of_finally p = refuses out_of_finally
jump_of_answer S.into_block p = refuses into_block
jump_of_answer (S.lands pc d) p = goes_to (record { pc = pc; slots = cut d p.slots })

-- the surroundings in which the `finally` parts among these let go on what they hold
abbrev pub endings_of : (ending : ℕ → Surroundings) → List Part → List Surroundings
endings_of f [] = []
endings_of f (finally_part t ∷ ps) = f t ∷ endings_of f ps
endings_of f (p ∷ ps) = endings_of f ps

-- a place lies in these closed parts, and its slots begin with theirs
pub record LiesIn (block : Block) (part : Part → Closed block) (pc : ℕ) (ps : List Part) : Type 0 where
  pub kinds : Kinds
  pub gets : Gets block block.size pc kinds
  pub begins : Begins kinds ps
  pub around : Around_place block part pc ps

module _ {V : Type 0} (source : Source V) (code : CodeSource V) (b : BlockId) (block : Block) (part : Part → Closed block)
    (ending : ℕ → Surroundings) where
  -- code is at a place where control is in a nest: in its parts, with what they hold below all other slots. An exit that is due lies in the part of
  -- the body of its `with` too; from there no jump is permitted
  pub data InParts : Nest V → Place V → Type 0 where
    in_nest : (s : Nest V) (p : Place V) (σ : Slots V) → LiesIn block part p.pc (parts s)
        → Filled (code.object b) (shape s) (endings_of ending (parts s)) s σ → Above σ p.slots → InParts s p
    at_exit : (n : ℕ) (w : V) (held : Completion V) (s : Nest V) (p : Place V)
        → LiesIn block part p.pc (exit_part n ∷ with_part n ∷ parts s) → InParts (F.exiting n w held ∷ s) p

  -- the first statement on a line starts at the least place that the table of starts has for the line, in its parts, with no other slots. The
  -- instruction there is under the rows of the statement, so that a raise goes from there as from its nest
  pub record StartsInParts (line : ℕ) (t : Target) : Type 0 where
    pub stands : Stands (source.around b) (code.object b) block.starts t
    pub endings : stands.endings ≡ endings_of ending (parts t.within)
    pub least : IsLeast (Starts block line) stands.place
    pub kinds : Kinds
    pub gets : Gets block block.size stands.place kinds
    pub fills : Fills kinds (parts t.within)
    pub around : Around_place block part stands.place (parts t.within)
    pub ins : Ins
    pub there : (code.object b).at stands.place ≡ Some ins
    pub under : ins.rows ≡ stands.surroundings.rows

module _ {V : Type 0} (source : Source V) (code : CodeSource V) where
  pub record HasClosedParts (b : BlockId) : Type 0 where
    pub block : Block
    pub part : Part → Closed block
    pub ending : ℕ → Surroundings
    pub by_slots : (p : Place V) (ks : Kinds) (line : ℕ) (a : Answer) → Gets block block.size p.pc ks → Jumps block p.pc ks line a
        → code.jump b p line ≡ jump_of_answer a p
    pub starts : (line : ℕ) (t : Target) → on_line line (starts_of (source.code b)) ≡ Some t
        → StartsInParts source code b block part ending line t
    pub no_others : (line pc : ℕ) → on_line line (starts_of (source.code b)) ≡ None → Starts block line pc → ⊥
    pub acts : (c : Control V) (t : State V) (p : Place V) → Reached source code b c t → Match (source.around b) (code.object b) c t
        → is_act (turn (source.around b) c) ≡ true → place_of t ≡ Some p → InParts source code b block part ending (nest_at c) p

  -- the machine knows how many acts a block has, and how many turns lead at most from a state that stands for one of control to an act or to the end
  pub record KnowsActs (b : BlockId) : Type 0 where
    pub same_count : length (acts_of_code (source.code b)) ≡ code.acts b
    pub enough : (c : Control V) (t : State V) → Reached source code b c t → Comes (source.around b) (code.object b) c t
        → IsActOrEnd (slots.turn (code.object b) (unhindered (code.object b) (code.most_turns b t) t))
