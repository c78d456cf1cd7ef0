-- The code of texts has the runs of their scripts.
use Rattle.std.proofs.Common.{◌≡◌, ℕ, Bool, true, false, if◌then◌else◌, List, refl, ap}
use Rattle.sem_run.specs.run.Machine.{BlockId}
use Rattle.sem_run.specs.run.Source.{Source}
use Rattle.law_code_runs.specs.code_run.CodeMachine.{CodeSource}
use Rattle.law_code_runs.specs.code_run.Law.{IsCodeOf, Script, Coded}
use Rattle.law_code_runs.specs.code_run.Parts.{HasClosedParts, KnowsActs}
use Rattle.law_code_runs.proofs.code_run.Following.{has_the_runs}
use Rattle.law_code_runs.proofs.code_run.Fronts.{begins_so, never_halts}
use Rattle.law_jumps.specs.law_compile.script_runs.Blocks.{script_trees}
use Rattle.law_text_code.specs.Texts.{TextCode, IsCodeOfText, text_code, ProgramCode, IsCodeOfProgram, text_of, program_trees, program_code}
use Rattle.law_text_code.specs.Laws.{RunsAsIt, TextRunsAsItsCode, ProgramRunsAsItsCode}
use Rattle.law_text_code.proofs.Blocks.{IsOfText, has_code, has_parts, knows_acts}

module _ {V : Type 0} (null : V) (source : Source V) (code : CodeSource V) where
  -- a block is that of some text
  pub record HasText (b : BlockId) : Type 0 where
    pub text : List ℕ
    pub told : TextCode V
    pub is_code : IsCodeOfText null text told
    pub of_text : IsOfText null source code b told

  module _ (has : (b : BlockId) → HasText b) where
    of : IsCodeOf source code
    of b =
        let h = has b in
        has_code null source code b h.text h.told h.is_code h.of_text

    parts : (b : BlockId) → HasClosedParts source code b
    parts b =
        let h = has b in
        has_parts null source code b h.text h.told h.is_code h.of_text

    knows : (b : BlockId) → KnowsActs source code b
    knows b =
        let h = has b in
        knows_acts null source code b h.text h.told h.is_code h.of_text

    runs_as_texts : {D N W : Type 0} → RunsAsIt D N V W (Script source code) (Coded source code)
    runs_as_texts host ask n block names world d = (
      has_the_runs source code of parts knows host ask n block names world d,
      begins_so source code of parts knows host ask n block names world d,
      never_halts source code of parts knows host ask n block names world d,
    )

module _ {V : Type 0} (null : V) where
  of_itself : (b : BlockId) (t : TextCode V)
      → IsOfText null (script_trees t.script null) (text_code t) b t
  of_itself b t = record {
    tree = refl;
    around = refl;
    object = refl;
    iterates = refl;
    jump = λ p line. refl;
    acts = refl;
    most_turns = λ s. refl;
  }

  -- a block of a program is that of its own text
  of_its_text : (p : ProgramCode V) (b : BlockId) (t : TextCode V) → text_of p b ≡ t
      → IsOfText null (program_trees p null) (program_code p) b t
  of_its_text p b t e = record {
    tree = ap (λ (u : TextCode V). (script_trees u.script null).code b) e;
    around = ap (λ (u : TextCode V). (script_trees u.script null).around b) e;
    object = ap (λ (u : TextCode V). (text_code u).object b) e;
    iterates = ap (λ (u : TextCode V). (text_code u).iterates b) e;
    jump = λ q line. ap (λ (u : TextCode V). (text_code u).jump b q line) e;
    acts = ap (λ (u : TextCode V). (text_code u).acts b) e;
    most_turns = λ s. ap (λ (u : TextCode V). (text_code u).most_turns b s) e;
  }

  has_text : (prelude script : List ℕ) (p : ProgramCode V) → IsCodeOfProgram null prelude script p
      → (b : BlockId) (hidden : Bool) → b.hidden ≡ hidden
      → HasText null (program_trees p null) (program_code p) b
  has_text prelude script p is b true e = record {
    text = prelude;
    told = p.prelude;
    is_code = is.of_prelude;
    of_text = of_its_text p b p.prelude (ap (λ h. if h then p.prelude else p.script) e);
  }
  has_text prelude script p is b false e = record {
    text = script;
    told = p.script;
    is_code = is.of_script;
    of_text = of_its_text p b p.script (ap (λ h. if h then p.prelude else p.script) e);
  }

module _ {D N V W : Type 0} where
  pub text_runs_as_its_code : TextRunsAsItsCode D N V W
  text_runs_as_its_code null text t is =
      runs_as_texts null (script_trees t.script null) (text_code t)
      (λ b. record { text = text; told = t; is_code = is; of_text = of_itself null b t })

  pub program_runs_as_its_code : ProgramRunsAsItsCode D N V W
  program_runs_as_its_code null prelude script p is =
      runs_as_texts null (program_trees p null) (program_code p)
      (λ b. has_text null prelude script p is b b.hidden refl)
