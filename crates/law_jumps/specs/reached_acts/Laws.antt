-- What laws say of the states to which control of a block and its code both come, also behind jumps
-- of a debugger (Library Reference, "inspect": `f_lineno`).
use Rattle.std.specs.Prelude.{◌≡◌, ℕ, List, true, Option, Some, None}
use Rattle.pt_instr.specs.Effects.{Kinds}
use Rattle.pt_ranges.specs.declared.lines.ActMark.{ActMark}
use Rattle.pt_code.specs.View.{Ins}
use Rattle.sem_control.specs.control.Frames.{Control}
use Rattle.sem_control.specs.control.Control.{turn, nest_at}
use Rattle.sem_control.specs.control.Jump.{Part, Shape, shape, Target, starts_of, on_line}
use Rattle.sem_control.specs.control.Nests.{Code_says}
use Rattle.sem_code.specs.slots.Slots.{State}
use Rattle.sem_code.specs.slots.CodeObject.{CodeObject}
use Rattle.sem_code.specs.comp.Surroundings.{Surroundings}
use Rattle.sem_code.specs.comp.Law.{Match}
use Rattle.sem_fits.specs.comp_jumps.Parts.{Closed}
use Rattle.sem_fits.specs.fits.Block.{Block}
use Rattle.sem_fits.specs.fits.Places.{Gets}
use Rattle.sem_fits.specs.fits.Fits.{Fits}
use Rattle.sem_fits.specs.fits.Laws as laws
use Rattle.sem_fits.specs.fits.Laws.{Runs, Sound, At}
use Rattle.sem_fits.specs.fits.Jumps.{Starts, Answer, Jumps}
use Rattle.sem_run.specs.run.Machine.{BlockId, is_act}
use Rattle.sem_run.specs.run.Source.{Source}
use Rattle.law_code_runs.specs.code_run.CodeMachine.{Place, CodeSource, place_of, start_of}
use Rattle.law_code_runs.specs.code_run.Parts.{jump_of_answer, LiesIn, StartsInParts}
use Rattle.law_code_runs.specs.code_run.Reached.{Reached}

-- the act with this number begins at a place
pub record ActBegins {V : Type 0} (object : CodeObject V) (act pc : ℕ) : Type 0 where
  pub ins : Ins
  pub there : object.at pc ≡ Some ins
  pub mark : ActMark
  pub marked : ins.mark ≡ Some mark
  pub number : act ≡ mark.act.0

-- an act of which something is said in a nest begins at a place
pub record SaidAct {V : Type 0} (Says : Shape → (act : ℕ) → Type 0) (object : CodeObject V)
    (s : Shape) (pc : ℕ)
    : Type 0 where
  pub act : ℕ
  pub begins : ActBegins object act pc
  pub said : Says s act

module _ {V : Type 0} (source : Source V) (code : CodeSource V) (b : BlockId) where
  -- control and code have come to where an act begins
  pub record AtAct (c : Control V) (t : State V) (p : Place V) : Type 0 where
    pub reached : Reached source code b c t
    pub alike : Match (source.around b) (code.object b) c t
    pub acts : is_act (turn (source.around b) c) ≡ true
    pub placed : place_of t ≡ Some p

  -- what is said of each act in the nest that the tree gives it is said there, in control's nest,
  -- of the act that begins at the place of code
  abbrev pub ActsAreSaid : (Says : Shape → (act : ℕ) → Type 0) → Type 0
  ActsAreSaid Says = Code_says Says (source.code b) → (c : Control V) (t : State V) (p : Place V)
      → AtAct c t p → SaidAct Says (code.object b) (shape (nest_at c)) p.pc

  -- a block fits, and its jumps are those said of slots. Each statement starts in its closed parts,
  -- and each act to which a run comes begins in some
  pub record KeepsToParts (block : Block) (part : Part → Closed block) (ending : ℕ → Surroundings)
      : Type 0 where
    pub runs : Runs (code.object b) block
    pub fits : Fits block
    pub begins : (i : Option V) → laws.Starts block (start_of code b i)
    pub by_slots : (p : Place V) (ks : Kinds) (line : ℕ) (a : Answer)
        → Gets block block.size p.pc ks
        → Jumps block p.pc ks line a → code.jump b p line ≡ jump_of_answer a p
    pub starts : (line : ℕ) (t : Target) → on_line line (starts_of (source.code b)) ≡ Some t
        → StartsInParts source code b block part ending line t
    pub no_others : (line pc : ℕ) → on_line line (starts_of (source.code b)) ≡ None
        → Starts block line pc → ⊥
    pub acts : (c : Control V) (t : State V) (p : Place V) (ks : Kinds) → AtAct c t p
        → Gets block block.size p.pc ks → (ps : List Part) × LiesIn block part p.pc ps

  -- so wherever runs come, the slots have the kinds of their place
  abbrev pub ReachedAreSound : Block → Type 0
  ReachedAreSound block = (part : Part → Closed block) (ending : ℕ → Surroundings)
      → KeepsToParts block part ending
      → (c : Control V) (t : State V) → Reached source code b c t → Sound block t

  abbrev pub ActsAreAtKinds : Block → Type 0
  ActsAreAtKinds block = (part : Part → Closed block) (ending : ℕ → Surroundings)
      → KeepsToParts block part ending
      → (c : Control V) (t : State V) (p : Place V) → AtAct c t p → At block p.pc p.slots
