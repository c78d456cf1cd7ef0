-- What is left behind an answer is done.
use Rattle.std.proofs.Common.{◌≡◌, Bool, refl, sym, subst}
use Rattle.pt_base.specs.declared.numbers.Pc.{Pc}
use Rattle.law_doing.specs.pt_machine_state.declared.blocks.BlockCode.{BlockCode}
use Rattle.law_doing.specs.pt_machine_state.declared.blocks.Blocks.{Blocks}
use Rattle.law_doing.specs.pt_machine_state.declared.machine.Standing.TheVariants as code
use Rattle.law_doing.specs.pt_machine_state.pt_code_facts.sem_rows.declared.heap_rows.progress.Progress.{Progress}
use Rattle.law_doing.specs.pt_machine_state.pt_code_facts.sem_rows.declared.heap_rows.progress.Progress.TheVariants as progress
use Rattle.law_doing.specs.pt_answering.pt_opening.pt_run_state.declared.machine.Machine.{Machine}
use Rattle.law_doing.specs.pt_answering.declared.answering.Asked.{Asked}
use Rattle.law_doing.specs.pt_answering.declared.answering.Answered.{Answered}
use Rattle.law_doing.specs.pt_answering.declared.answering.Answered.TheVariants as answer
use Rattle.law_doing.specs.pt_answering.Answering.{AnsweredSo, answered}
use Rattle.law_doing.specs.pt_failing.declared.failing.Failed.{Failed}
use Rattle.pt_applying.specs.declared.applying.Applied.TheVariants.{Goes}
use Rattle.pt_applying.specs.Applying.{failing_of, of_failed, DoesSo, AppliesBehind, AppliesSo}

module _ (blocks : Blocks) (block : BlockCode) (next : Pc) (p : Progress) (d : Asked) (old : Machine) where
  pub by_answer : (event : Bool) (new : Machine)
      → record { answer = answer.Goes event; machine = new } ≡ answered block next p d old
      → AppliesSo blocks block next p d old (Goes event) new
  by_answer event new e =
      subst (λ a. AppliesBehind blocks block (failing_of d) a (Goes event) new) e (refl, refl)

  pub by_failure : (left : Progress) (mid new : Machine) (x : Failed)
      → record { answer = answer.Further left; machine = mid } ≡ answered block next p d old
      → DoesSo blocks block left (failing_of d) mid x new
      → AppliesSo blocks block next p d old (of_failed x) new
  by_failure left mid new x e does =
      subst (λ a. AppliesBehind blocks block (failing_of d) a (of_failed x) new) e (x, (refl, does))

  -- where something is left the machine is as it was
  abbrev Left : AnsweredSo → Type 0
  Left a = Left_by a.answer a
    where
      Left_by : Answered → AnsweredSo → Type 0
      Left_by (answer.Goes event) b = Unit {0}
      Left_by (answer.Further left) b = b.machine ≡ old

  left-so : (q : Progress) → Left (answered block next q d old)
  left-so progress.Next = tt
  left-so (progress.Goto pc) = tt
  left-so (progress.Leaves how) = tt
  left-so (progress.Reraises e) = tt
  left-so (progress.Print t) = tt
  left-so (progress.Calls b hidden ls why) = refl
  left-so (progress.Raises e) = refl
  left-so progress.RaisesAgain = refl
  left-so (progress.Fails c a) = refl
  left-so (progress.FailsSaying c t) = refl
  left-so (progress.Outside what) = refl
  left-so progress.Lacks = refl

  pub stays_at_place : (left : Progress) (mid : Machine)
      → record { answer = answer.Further left; machine = mid } ≡ answered block next p d old
      → old.code.standing ≡ code.AtPlace → mid.code.standing ≡ code.AtPlace
  stays_at_place left mid e at_place =
      subst (λ k. k.code.standing ≡ code.AtPlace) (sym same) at_place
    where
      same : mid ≡ old
      same = subst Left (sym e) (left-so p)
