-- What instructions come to is done as in a run.
use Rattle.std.proofs.Common.{◌≡◌, ◌∙◌, ℕ, List, [], Bool, false, Some, refl, sym, ap, subst}
use Rattle.pt_base.specs.declared.numbers.Pc.{Pc}
use Rattle.pt_heap.specs.declared.value.Value.{Value}
use Rattle.pt_code.specs.View.{Ins}
use Rattle.pt_frames.specs.declared.purpose.Purpose.{Purpose as For}
use Rattle.sem_code.specs.slots.Slots.{State as CodeState}
use Rattle.sem_code_machine.specs.code_machine.CodeBlocks.{CodeBlocks}
use Rattle.sem_run.specs.run.Machine.{Machine}
use Rattle.sem_run.specs.run.Events.{Event}
use Rattle.sem_run.specs.run.State.{State, OpenAsk}
use Rattle.sem_run.specs.run.Run.{Write}
use Rattle.sem_run.specs.run.Views.{here_of}
use Rattle.sem_steps.specs.Steps.{stays}
use Rattle.law_doing.specs.pt_answering.pt_opening.pt_host.World.{Names, World, Program}
use Rattle.law_doing.specs.pt_machine_state.pt_code_facts.sem_rows.declared.heap_rows.progress.Progress.{Progress}
use Rattle.law_doing.specs.pt_machine_state.pt_code_facts.sem_rows.declared.heap_rows.progress.Progress.TheVariants as progress
use Rattle.law_doing.specs.pt_machine_state.declared.blocks.BlockCode.{BlockCode}
use Rattle.law_doing.specs.pt_machine_state.declared.blocks.Blocks.{Blocks}
use Rattle.law_doing.specs.pt_machine_state.Blocks.{IsBlockOf, AreBlocksOf}
use Rattle.law_doing.specs.pt_answering.pt_opening.pt_purposes.Seen.{block_of}
use Rattle.law_doing.specs.pt_answering.pt_opening.pt_purposes.Openers.{Ways}
use Rattle.law_doing.specs.pt_answering.pt_opening.pt_run_state.declared.machine.Machine.{Machine as Held}
use Rattle.law_doing.specs.pt_answering.pt_replying.pt_turning.Ways.{IsOfCode}
use Rattle.law_doing.specs.pt_answering.declared.answering.Asked.{Asked}
use Rattle.law_doing.specs.pt_answering.declared.answering.Answered.{Answered}
use Rattle.law_doing.specs.pt_answering.declared.answering.Answered.TheVariants as answer
use Rattle.law_doing.specs.pt_answering.Answering.{AnsweredSo, answered, answer_writes}
use Rattle.law_doing.specs.pt_answering.Laws as answers
use Rattle.law_doing.specs.pt_answering.Laws.{by_itself, BehindAnswer}
use Rattle.law_doing.proofs.pt_answering.Answers.{answers_as_run}
use Rattle.law_doing.specs.pt_failing.declared.failing.Failed.{Failed}
use Rattle.law_doing.specs.pt_failing.declared.failing.Failed.TheVariants as failed
use Rattle.law_doing.specs.pt_failing.declared.failing.Failing.{Failing}
use Rattle.law_doing.specs.pt_failing.Laws as fails
use Rattle.law_doing.specs.pt_failing.Laws.{BehindFailure}
use Rattle.law_doing.proofs.pt_failing.Fails.{fails_as_run}
use Rattle.law_doing.specs.pt_calling.Laws as calls
use Rattle.law_doing.specs.pt_calling.Laws.{BehindCall}
use Rattle.law_doing.proofs.pt_calling.Calls.{calls_as_run}
use Rattle.law_doing.proofs.pt_reraising.Raises.{raises_again_as_run}
use Rattle.pt_applying.specs.declared.applying.Applied.{Applied}
use Rattle.pt_applying.specs.declared.applying.Applied.TheVariants as applied
use Rattle.pt_applying.specs.Applying.{failing_of, of_failed, AppliesBehind, AppliesSo}
use Rattle.pt_applying.specs.Laws.{IsApplied, BehindApplied, goes_on, leaves, lacks, AppliesAsRun}

-- no exception ends an iterator
never-ends : (v : Value) → by_itself (Some v) ≡ false
never-ends v = refl

-- a value is the reply
abbrev IsReply : Answered → Type 0
IsReply (answer.Goes event) = Unit {0}
IsReply (answer.Further p) = ⊥

module _ {S : Type 0} (program : Program) (code : CodeBlocks Value) (machine : Machine S Value)
    (embed : CodeState Value → S) (ways : Ways S) (is_of : IsOfCode code machine embed ways)
    (minds : Event Value → Bool) (n : ℕ) (m : Held) (q : OpenAsk (CodeState Value) Value) (i : Ins)
    (next : Pc) (d : Asked) (block : BlockCode) (s : State S Names Value World)
    (known : IsBlockOf program code (block_of m.code.here) block) (blocks : Blocks)
    (are : AreBlocksOf program code blocks) where
  abbrev Behind : List Write → Applied → Held → Type 0
  Behind ws r new = BehindApplied program code machine embed ways minds n s ws r new

  abbrev f : Failing
  f = failing_of d

  of-answer : (ws : List Write) (a : AnsweredSo)
      → BehindAnswer program code machine embed ways minds n s ws a → IsReply a.answer
      → (r : Applied) (new : Held) → AppliesBehind blocks block f a r new → Behind ws r new
  of-answer ws _ (answers.goes_on event k t c stands) reply r new did =
      subst (λ x. Behind ws x new) (sym did.0)
      (subst (λ u. Behind ws (applied.Goes event) u) (sym did.1) (goes_on event k t c stands))
  of-answer ws _ (answers.further p k) reply r new did = absurd reply

  of-failure : (x : Failed) (new : Held)
      → BehindFailure program code machine embed ways minds n by_itself s x new
      → Behind [] (of_failed x) new
  of-failure _ _ (fails.goes_on event k t c stands) = goes_on event k t c stands
  of-failure _ _ (fails.leaves what k e) =
      leaves what k s (record { outputs = []; steps = stays s; written = refl }) e
  of-failure _ _ (fails.further p k) = lacks k

  of-call : (why : For) (x : Failed) (new : Held)
      → BehindCall program code machine embed ways minds n by_itself why s x new
      → Behind [] (of_failed x) new
  of-call why _ _ (calls.goes_on event k t c stands) = goes_on event k t c stands
  of-call why _ _ (calls.leaves what k t c e) = leaves what k t c e
  of-call why _ _ (calls.further p k item) = lacks k

  abbrev Is : Progress → Type 0
  Is p = IsApplied program code machine embed ways minds n m q i next p d block s

  abbrev To : Progress → Type 0
  To p = (r : Applied) (new : Held) → AppliesSo blocks block next p d m r new
      → Behind (answer_writes p) r new

  replies : (p : Progress)
      → answers.IsAnswered program code machine embed ways minds n m q i next p d (here_of machine s) block s
      → IsReply (answered block next p d m).answer → To p
  replies p is reply r new did =
      of-answer (answer_writes p) (answered block next p d m)
      (answers_as_run program code machine embed ways is_of minds n m q i next p d (here_of machine s) block s is known)
      reply r new did

  applies : (p : Progress) → Is p → To p
  applies progress.Next is r new did = replies progress.Next is tt r new did
  applies (progress.Goto pc) is r new did = replies (progress.Goto pc) is tt r new did
  applies (progress.Leaves how) is r new did = replies (progress.Leaves how) is tt r new did
  applies (progress.Reraises e) is r new did = replies (progress.Reraises e) is tt r new did
  applies (progress.Print t) is r new did = replies (progress.Print t) is tt r new did
  applies (progress.Calls b hidden ls why) is r new did =
      subst (λ x. Behind [] x new) (sym did.1.0)
      (of-call why did.0 new (calls_as_run program code machine embed ways is_of minds n by_itself never-ends m q i b hidden ls why f s is blocks are block known did.0 new did.1.1))
  applies (progress.Raises e) is r new did =
      subst (λ x. Behind [] x new) (sym did.1.0)
      (of-failure did.0 new (fails_as_run program code machine embed ways is_of minds n by_itself m q i (progress.Raises e) f s is block known did.0 new did.1.1))
  applies progress.RaisesAgain is r new did =
      subst (λ x. Behind [] x new) (sym did.1.0)
      (of-failure did.0 new (raises_again_as_run program code machine embed ways is_of minds n by_itself m q i d.is_act d.active s is block known did.0 new did.1.1))
  applies (progress.Fails c a) is r new did =
      subst (λ x. Behind [] x new) (sym did.1.0)
      (of-failure did.0 new (fails_as_run program code machine embed ways is_of minds n by_itself m q i (progress.Fails c a) f s is block known did.0 new did.1.1))
  applies (progress.FailsSaying c t) is r new did =
      subst (λ x. Behind [] x new) (sym did.1.0)
      (of-failure did.0 new (fails_as_run program code machine embed ways is_of minds n by_itself m q i (progress.FailsSaying c t) f s is block known did.0 new did.1.1))
  applies (progress.Outside what) is r new did =
      subst (λ x. Behind [] x new) (sym did.1.0)
      (of-failure did.0 new (fails_as_run program code machine embed ways is_of minds n by_itself m q i (progress.Outside what) f s is block known did.0 new did.1.1))
  applies progress.Lacks is r new did =
      let left : did.0 ≡ failed.Further progress.Lacks = ap (λ x. x.failed) did.1.1 in
      subst (λ x. Behind [] x new) (sym (did.1.0 ∙ ap of_failed left)) (lacks new)

pub applies_as_run : {S : Type 0} (program : Program) (code : CodeBlocks Value)
    (machine : Machine S Value) (embed : CodeState Value → S) (ways : Ways S)
    → IsOfCode code machine embed ways → (minds : Event Value → Bool) (n : ℕ)
    → AppliesAsRun program code machine embed ways minds n
applies_as_run program code machine embed ways is_of minds n m q i next p d block s is known blocks are r new did =
    applies program code machine embed ways is_of minds n m q i next d block s known blocks are p is r new did
