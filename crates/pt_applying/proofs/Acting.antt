-- Acts that wait are applied as in a run, once the rows of their instructions are done.
use Rattle.std.proofs.Common.{◌≡◌, ◌∙◌, ◌⊎◌, inl, inr, ℕ, List, [], ◌∷◌, ◌++◌, length, drop, Bool, true, Option, Some, None, is_some, refl, sym, ap, subst}
use Rattle.std.specs.Prelude.{◌-◌}
use Rattle.std.specs.Option.{option_map}
use Rattle.std.proofs.lemmas.List.{length-map}
use Rattle.pt_base.specs.declared.numbers.Pc.{Pc}
use Rattle.pt_heap.specs.declared.value.Value.{Value}
use Rattle.pt_frames.specs.Slots.{active_in}
use Rattle.pt_instr.specs.declared.Instr.TheVariants as instr
use Rattle.pt_ranges.specs.declared.lines.ActMark.{ActMark}
use Rattle.pt_code.specs.View.{Ins}
use Rattle.sem_control.specs.control.Turn as T
use Rattle.sem_control.specs.control.Turn.{Ask, Answer, Reply, Mark, got, raised, Turn}
use Rattle.sem_control.specs.control.Events as E
use Rattle.sem_code.specs.slots.Slots.{Slots, on, State as CodeState}
use Rattle.sem_code.specs.slots.CodeObject.{CodeObject}
use Rattle.sem_code.specs.slots.Instructions.{perform}
use Rattle.sem_code.specs.slots.Machine as slots
use Rattle.sem_code.specs.slots.Needs.{Begins}
use Rattle.sem_code.specs.slots.Steps.{mark_of}
use Rattle.sem_code.proofs.slots.MarkLaw.{begins_at}
use Rattle.sem_code_machine.specs.code_machine.CodeBlocks.{CodeBlocks}
use Rattle.sem_code_machine.specs.rows.Rows.{row_of}
use Rattle.law_takes.specs.Taking.{taken}
use Rattle.law_leads.specs.Leads.{Leads}
use Rattle.law_origins.specs.Landings.{lands_with}
use Rattle.sem_run.specs.run.Machine.{Machine}
use Rattle.sem_run.specs.run.Events.{Event}
use Rattle.sem_run.specs.run.Host as H
use Rattle.sem_run.specs.run.State as run
use Rattle.sem_run.specs.run.Host.{Host, Here}
use Rattle.sem_run.specs.run.State.{State, OpenAsk, at, store, with_store}
use Rattle.sem_run.specs.run.Views.{active, here_of}
use Rattle.sem_run.specs.run.Run.{Write, writes}
use Rattle.sem_run.specs.run.Step.{of_call}
use Rattle.sem_run.specs.transitions.Successors as to
use Rattle.sem_steps.specs.Steps.{minded}
use Rattle.sem_steps.proofs.Moves.{join}
use Rattle.law_doing.proofs.pt_telling.Asks.{writes-append}
use Rattle.pt_pendings.specs.declared.reply.Callee.{Callee}
use Rattle.pt_pendings.specs.declared.pending.Pending.TheVariants.{Doing}
use Rattle.law_doing.specs.pt_answering.pt_opening.pt_host.World.{Names, World, Stores, Program}
use Rattle.law_doing.specs.pt_answering.pt_opening.pt_host.HeapHost.{heap_host}
use Rattle.law_doing.specs.pt_machine_state.pt_code_facts.sem_rows.heap_rows.Leads.{HeapSuccessor, IsStuck}
use Rattle.law_doing.specs.pt_machine_state.pt_code_facts.sem_rows.heap_rows.Told.{told, KeepsActive}
use Rattle.law_doing.specs.pt_machine_state.pt_code_facts.sem_rows.heap_rows.Views.{slots_view, slot_view, names_view}
use Rattle.law_doing.specs.pt_machine_state.pt_code_facts.sem_rows.declared.heap_rows.progress.Progress.{Progress}
use Rattle.law_doing.specs.pt_machine_state.pt_code_facts.sem_rows.declared.heap_rows.progress.Progress.TheVariants as progress
use Rattle.law_doing.specs.pt_machine_state.declared.blocks.BlockCode.{BlockCode}
use Rattle.law_doing.specs.pt_machine_state.declared.blocks.Blocks.{Blocks}
use Rattle.law_doing.specs.pt_machine_state.Blocks.{IsBlockOf, AreBlocksOf}
use Rattle.law_doing.specs.pt_machine_state.Laws.{RowDone, row_at}
use Rattle.law_doing.specs.pt_machine_state.Views.{IsPlain, stores_of}
use Rattle.law_doing.proofs.pt_telling.pt_transfers.pt_machine_state.PlainLemmas.{Plainly, plain_instruction}
use Rattle.law_doing.specs.pt_answering.pt_opening.pt_purposes.declared.standing.Standing.TheVariants.{AtPlace}
use Rattle.law_doing.specs.pt_answering.pt_opening.pt_purposes.Seen.{block_of}
use Rattle.law_doing.specs.pt_answering.pt_opening.pt_purposes.Asks.{told_by_control, told_of_call}
use Rattle.law_doing.specs.pt_answering.pt_opening.pt_purposes.Openers.{Ways, origin_in}
use Rattle.law_doing.specs.pt_answering.pt_opening.pt_run_state.declared.machine.Machine.{Machine as Held}
use Rattle.law_doing.specs.pt_answering.pt_opening.pt_run_state.Stands.{IsToTell, StandsAround}
use Rattle.law_doing.specs.pt_answering.pt_opening.pt_telling.Laws.{Comes}
use Rattle.law_doing.specs.pt_answering.pt_replying.pt_turning.Ways.{IsOfCode, rows_of, state_at}
use Rattle.law_doing.specs.pt_answering.pt_replying.pt_turning.Laws.{waiting}
use Rattle.law_doing.specs.pt_answering.pt_replying.Replying.{decided_events, given_told, reply_told}
use Rattle.law_doing.specs.pt_answering.pt_replying.Laws.{IfBranches, IsTold}
use Rattle.law_doing.specs.pt_failing.Laws.{IsFailing}
use Rattle.law_doing.specs.pt_answering.declared.answering.Asked.{Asked}
use Rattle.law_doing.specs.pt_answering.Answering.{given_of, moved, stands_by, answer_writes}
use Rattle.law_doing.specs.pt_answering.Laws.{by_itself, IfGiven, TellsOf, IsAnswered}
use Rattle.law_doing.specs.Laws.{IsDone}
use Rattle.law_doing.proofs.Acts.{acts_as_run}
use Rattle.pt_applying.specs.declared.applying.Applied.{Applied}
use Rattle.pt_applying.specs.Applying.{failing_of, AppliesSo}
use Rattle.pt_applying.specs.Laws.{IsApplied, BehindApplied, goes_on, leaves, lacks}
use Rattle.pt_applying.specs.Known.{CalledSo}
use Rattle.pt_applying.specs.Acting.{RaisesAsItself, IfLeaves, GivesOn, behind_act, IsAskedSo, ActsApply}
use Rattle.pt_applying.proofs.Known.{tells_instruction}
use Rattle.pt_applying.proofs.AsksTold.{TellsTurn, calls-so, raises-told, untold, gives-so}
use Rattle.pt_applying.proofs.Applies.{applies_as_run}

-- `raise` alone asks for nothing else
abbrev TellsItself : Turn (CodeState Value) Value → Type 0
TellsItself (T.act m a k) =
    ((c : Option (H.Callee Value)) (v : Value) → of_call {A = Answer Value a} a c (raised v) ≡ [])
    × ((active : Option Value) (v : Value) → E.after active a (raised v) ≡ E.arisen active (T.throw T.raising_again) v ∷ [])
TellsItself t = Unit {0}

module _ {S : Type 0} (program : Program) (code : CodeBlocks Value) (machine : Machine S Value)
    (embed : CodeState Value → S) (ways : Ways S) (is_of : IsOfCode code machine embed ways)
    (minds : Event Value → Bool) (n : ℕ) (m : Held) (is_active : Option Value)
    (callee : Option Callee) (s : State S Names Value World)
    (is : IsToTell program machine ways m (waiting AtPlace is_active (Doing callee)) [] s) (i : Ins)
    (there : (code.object (block_of m.code.here)).at m.code.here.pc.0 ≡ Some i) (next : Pc)
    (next_is : i.next ≡ next.0) (done : RowDone)
    (keeps : KeepsActive done.progress m.code.here.slots done.slots) (block : BlockCode)
    (known : IsBlockOf program code (block_of m.code.here) block) (d : Asked)
    (asked : IsAskedSo program code machine embed ways m i next block callee is_active done d) where
  abbrev Run : Type 0
  Run = State S Names Value World

  abbrev host : Host Names Value World
  host = heap_host program

  abbrev obj : CodeObject Value
  obj = code.object (block_of m.code.here)

  abbrev ss : Slots Value
  ss = slots_view m.code.here.slots

  abbrev k : Held
  k = behind_act done m

  abbrev st : Stores
  st = stores_of program k.code

  reached : (p : run.Phase S Names Value World)
      × (Comes program machine ways minds n s [] (at p s)
      × IsDone program code machine embed ways minds n by_itself m i callee (here_of machine s) (store s) (at p s))
  reached = acts_as_run program code machine embed ways is_of minds n by_itself refl m is_active callee s is i there

  abbrev t : Run
  t = at reached.0 s

  comes : Comes program machine ways minds n s [] t
  comes = reached.1.0

  is_done : IsDone program code machine embed ways minds n by_itself m i callee (here_of machine s) (store s) t
  is_done = reached.1.1

  abbrev q : OpenAsk (CodeState Value) Value
  q = is_done.ask

  abbrev stores_by : Names → World → Stores
  stores_by ns w = record { names = ns; world = w }

  store-is : store s ≡ stores_of program m.code
  store-is =
      ap (λ f. stores_by f.names s.world) is.around.here.frame
      ∙ ap (λ w. stores_by (names_view (program.facts (block_of m.code.here)) m.code.here) w) is.around.world

  block-is : (here_of machine s).block ≡ block_of m.code.here
  block-is = ap (λ f. f.block) is.around.here.frame

  abbrev row : HeapSuccessor
  row = row_at program code i m.code (here_of machine s)

  abbrev To : HeapSuccessor → Type 0
  To l = Leads machine host (minded minds) n by_itself embed q l t

  leads-by : (l : HeapSuccessor) → l ≡ row → To l
  leads-by l e =
      is_done.leads l (e ∙ ap (λ x. row_of host obj m.code.here.pc.0 i i.instr ss (here_of machine s) x) (sym store-is))

  -- where the run isn't stuck a value alone is given on
  only-given : (l : HeapSuccessor) → IsStuck l → To l → GivesOn l
  only-given (to.behind_yield v f u) stuck leads = tt
  only-given to.none stuck leads = absurd leads
  only-given (to.to c u) stuck leads = absurd stuck
  only-given (to.arises v c u) stuck leads = absurd stuck
  only-given (to.behind_print x l) stuck leads = absurd stuck
  only-given (to.behind_request r u f) stuck leads = absurd stuck
  only-given (to.behind_note a f) stuck leads = absurd stuck
  only-given (to.outside what) stuck leads = absurd stuck
  only-given (to.end e) stuck leads = absurd stuck

  abbrev renamed : H.Frame Names Value → H.Frame Names Value
  renamed f = record f { names = st.names }

  -- behind the row the machine stands for the run with its stores
  around : StandsAround program machine ways k (with_store st t)
  around = record {
    at_place = is.around.at_place;
    here = record {
      frame = ap renamed is.around.here.frame;
      act = is.around.here.act;
      behind_jump = is.around.here.behind_jump;
    };
    openers = is.around.openers;
    generators = is.around.generators;
    world = refl;
    trace = is.around.trace;
    tools = is.around.tools;
    units = is.around.units;
    frames = is.around.frames;
    numbers = is.around.numbers;
    untraced = is.around.untraced;
  }

  active_is : machine.active t.here.state ≡ d.active
  active_is = is.active ∙ sym asked.active_is

  begins : Begins (option_map mark_of i.mark) (perform obj m.code.here.pc.0 i i.instr ss)
  begins =
      subst (λ o. Begins (option_map mark_of i.mark) (slots.here obj m.code.here.pc.0 o ss)) there
      (begins_at obj m.code.here.pc.0 i ss there)

  marked : (o : Option ActMark) → is_some (option_map mark_of o) ≡ is_some o
  marked None = refl
  marked (Some x) = refl

  is_act : q.is_act ≡ d.is_act
  is_act =
      is_done.is_act
      ∙ ap (λ x. is_some x) (subst (λ x. Begins (option_map mark_of i.mark) x) is_done.turn begins)
      ∙ marked i.mark ∙ sym asked.is_act

  abbrev decides : Bool
  decides = ways.decides k.code.here (origin_in k.code.here)

  abbrev there_of : Progress → CodeState Value
  there_of p = state_at code (stands_by block next p k) (moved block next p k).code.here

  abbrev Tells : Progress → Turn (CodeState Value) Value → Type 0
  Tells p x = TellsTurn callee decides (there_of p) p d x

  -- what a value gives lies in the slots behind the row, but where a completion has left the place
  abbrev Lies : Progress → Type 0
  Lies p = IfGiven p ((pc : ℕ) × (there_of p ≡ on pc (slots_view done.slots)))

  lies : (p : Progress) → IfLeaves p ((given_told (given_of d) ≡ []) × (i.instr ≡ instr.Match → ⊥))
      → i.instr ≡ instr.Match → Lies p
  lies progress.Next left is_match = (next.0, refl)
  lies (progress.Goto pc) left is_match = (pc.0, refl)
  lies (progress.Print x) left is_match = (next.0, refl)
  lies (progress.Leaves how) left is_match = absurd (left.1 is_match)
  lies (progress.Reraises e) left is_match = absurd (left.1 is_match)
  lies (progress.Calls b hidden ls why) left is_match = tt
  lies (progress.Raises e) left is_match = tt
  lies progress.RaisesAgain left is_match = tt
  lies (progress.Fails c a) left is_match = tt
  lies (progress.FailsSaying c x) left is_match = tt
  lies (progress.Outside what) left is_match = tt
  lies progress.Lacks left is_match = tt

  turn-tells : Tells done.progress (T.act is_done.mark q.ask q.next)
  turn-tells =
      subst (λ x. Tells done.progress x) is_done.turn
      (tells_instruction callee obj asked.extras m.code.here.pc.0 i decides (there_of done.progress) done.progress d known.truths i.instr m.code.here.slots done.slots asked.next_act
      asked.called asked.decided asked.decides (lies done.progress asked.leaves))

  called : CalledSo q.ask callee d.called
  called = turn-tells.0

  call-told : {A : Type 0} (r : Reply Value A) → of_call q.ask q.callee r ≡ told_of_call d.called r
  call-told r = ap (λ c. of_call q.ask c r) is_done.called ∙ calls-so q.ask callee d.called called r

  plain : (i.instr ≡ instr.RaiseAgain → ⊥) → IsPlain q.ask
  plain other = subst Plainly is_done.turn (plain_instruction obj m.code.here.pc.0 i i.instr ss other)

  itself : i.instr ≡ instr.RaiseAgain → TellsItself (T.act is_done.mark q.ask q.next)
  itself again =
      subst TellsItself is_done.turn
      (subst (λ j. TellsItself (perform obj m.code.here.pc.0 i j ss)) (sym again) ((λ c v. refl), (λ a v. refl)))

  abbrev size : ℕ
  size = taken obj.pool i.instr

  abbrev over : Slots Value
  over = slots_view done.slots

  rows-are : i.rows ≡ rows_of (obj.at d.from.pc.0)
  rows-are = ap rows_of (sym there) ∙ ap (λ x. rows_of (obj.at x.0)) (sym asked.place)

  below-is : length ss - size ≡ d.from.below
  below-is = ap (λ l. l - size) (length-map m.code.here.slots slot_view) ∙ sym asked.below

  -- so is told of replies that lead to a place
  abbrev Decides : CodeState Value → Type 0
  Decides c = (x : Answer Value q.ask) → q.next (got x) ≡ c → E.answered q.ask x ≡ decided_events d.decided

  abbrev Destined : CodeState Value → Type 0
  Destined c = IfBranches d.decided (λ j. machine.destination (block_of m.code.here) (embed c) ≡ j.0)

  abbrev Lands : CodeState Value → Slots Value → Type 0
  Lands c slots =
      IsTold (reply_told (given_of d) d.is_act) → (x : Answer Value q.ask) → q.next (got x) ≡ c
      → (v : Value) → q.next (raised v) ≡ lands_with obj (rows_of (obj.at d.from.pc.0)) d.from.below slots v

  lands-at : (pc : ℕ) → Decides (on pc over) → Lands (on pc over) over
  lands-at pc tells told x e v =
      sym (is_done.takes.given (gives-so q.ask callee d called x (tells x e) told) x pc over e v)
      ∙ ap (λ r. lands_with obj r (length ss - size) over v) rows-are
      ∙ ap (λ b. lands_with obj (rows_of (obj.at d.from.pc.0)) b over v) below-is

  lands-nowhere : (c : CodeState Value) (slots : Slots Value) → given_told (given_of d) ≡ [] → Lands c slots
  lands-nowhere c slots none told = absurd (told (untold d d.is_act none))

  destined : (c : CodeState Value) → Destined c
      → IfBranches d.decided (λ j. machine.destination t.here.frame.block (embed c) ≡ j.0)
  destined c is = subst (λ b. IfBranches d.decided (λ j. machine.destination b (embed c) ≡ j.0)) (sym block-is) is

  abbrev Told : Progress → Type 0
  Told p = To (told program obj i (here_of machine s) p over st)

  abbrev Is : Progress → Type 0
  Is p = IsApplied program code machine embed ways minds n k q i next p d block t

  abbrev TellsAt : Progress → Type 0
  TellsAt p = TellsOf program code machine embed ways minds n (moved block next p k) (stands_by block next p k) q d t

  answers : (p : Progress) → Told p → IfGiven p (TellsAt p)
      → IsAnswered program code machine embed ways minds n k q i next p d (here_of machine t) block t
  answers p leads tells = record {
    around = around;
    active_is = active_is;
    is_act = is_act;
    there = there;
    next_is = next_is;
    leads = leads;
    tells = tells;
  }

  fails : (p : Progress) → Told p → IsPlain q.ask
      → IsFailing program code machine embed ways minds n by_itself k q i p (failing_of d) t
  fails p leads plainly = record {
    around = around;
    active_is = active_is;
    tells = record {
      is_act = is_act;
      call = λ v. call-told (raised v);
      control = λ v. ap (λ x. x ∷ []) (plainly (active machine t) v);
    };
    there = there;
    below = drop size ss;
    raises = is_done.takes.raises;
    leads = leads;
  }

  told-so : IsPlain q.ask → ((x : Answer Value q.ask) → E.answered q.ask x ≡ told_by_control decides (got x))
      → (a : Option Value) (r : Reply Value (Answer Value q.ask)) → E.after a q.ask r ≡ told_by_control decides r
  told-so plainly tells a (got x) = tells x
  told-so plainly tells a (raised v) = ap (λ x. x ∷ []) (plainly a v) ∙ sym (raises-told (Answer Value q.ask) decides v)

  active-there : active_in m.code.here.slots ≡ d.active
  active-there =
      sym (is_of.active AtPlace m.code.here) ∙ ap (λ c. machine.active c) (sym is.stands) ∙ active_is

  applied : (p : Progress) → RaisesAsItself i.instr p → IfLeaves p ((given_told (given_of d) ≡ []) × (i.instr ≡ instr.Match → ⊥))
      → KeepsActive p m.code.here.slots done.slots → Tells p (T.act is_done.mark q.ask q.next)
      → IfGiven p (Destined (there_of p))
      → Told p → Is p
  applied progress.Next again none same tells dest leads = answers progress.Next leads (record {
    call = λ x e. call-told (got x);
    control = tells.1.0;
    destination = destined (there_of progress.Next) dest;
    lands = lands-at next.0 tells.1.0;
  })
  applied (progress.Goto pc) again none same tells dest leads = answers (progress.Goto pc) leads (record {
    call = λ x e. call-told (got x);
    control = tells.1.0;
    destination = destined (there_of (progress.Goto pc)) dest;
    lands = lands-at pc.0 tells.1.0;
  })
  applied (progress.Print x) again none same tells dest leads = answers (progress.Print x) leads (record {
    call = λ x e. call-told (got x);
    control = tells.1.0;
    destination = destined (there_of (progress.Print x)) dest;
    lands = lands-at next.0 tells.1.0;
  })
  applied (progress.Leaves how) again none same tells dest leads = answers (progress.Leaves how) leads (record {
    call = λ x e. call-told (got x);
    control = tells.1.0;
    destination = destined (there_of (progress.Leaves how)) dest;
    lands = lands-nowhere (there_of (progress.Leaves how)) (slots_view (moved block next (progress.Leaves how) k).code.here.slots) none.0;
  })
  applied (progress.Reraises e) again none same tells dest leads = answers (progress.Reraises e) leads (record {
    call = λ x e. call-told (got x);
    control = tells.1.0;
    destination = destined (there_of (progress.Reraises e)) dest;
    lands = lands-nowhere (there_of (progress.Reraises e)) over none.0;
  })
  applied (progress.Calls b hidden ls why) again none same tells dest leads = record {
    around = around;
    active_is = active_is;
    keeps_active = same ∙ active-there;
    tells = record {
      is_act = is_act;
      call = λ r. call-told r;
      control = told-so (plain again) tells.1.1;
    };
    there = there;
    leads = leads;
  }
  applied progress.RaisesAgain again none same tells dest leads = record {
    around = around;
    active_is = active_is;
    tells = record {
      is_act = is_act;
      call = λ v. (itself again).0 q.callee v;
      control = (itself again).1;
    };
    there = there;
    below = drop size ss;
    raises = is_done.takes.raises;
    leads = leads;
  }
  applied (progress.Raises e) again none same tells dest leads = fails (progress.Raises e) leads (plain again)
  applied (progress.Fails c a) again none same tells dest leads = fails (progress.Fails c a) leads (plain again)
  applied (progress.FailsSaying c x) again none same tells dest leads = fails (progress.FailsSaying c x) leads (plain again)
  applied (progress.Outside what) again none same tells dest leads = fails (progress.Outside what) leads (plain again)
  applied progress.Lacks again none same tells dest leads = tt

  comes-behind : (ws : List Write) (u : Run) → Comes program machine ways minds n t ws u
      → Comes program machine ways minds n s ws u
  comes-behind ws u c = record {
    outputs = comes.outputs ++ c.outputs;
    steps = join machine host (minded minds) n s t u comes.outputs c.outputs comes.steps c.steps;
    written = writes-append true comes.outputs c.outputs ∙ ap (λ x. x ++ writes true c.outputs) comes.written ∙ c.written;
  }

  behind : (ws : List Write) (r : Applied) (new : Held)
      → BehindApplied program code machine embed ways minds n t ws r new
      → BehindApplied program code machine embed ways minds n s ws r new
  behind ws _ _ (goes_on event g u c stands) = goes_on event g u (comes-behind ws u c) stands
  behind ws _ _ (leaves what g u c e) = leaves what g u (comes-behind [] u c) e
  behind ws _ _ (lacks g) = lacks g

  module _ (blocks : Blocks) (are : AreBlocksOf program code blocks)
      (r : Applied) (new : Held)
      (did : AppliesSo blocks block next done.progress d k r new) where
    by-row : IsStuck row ⊎ (told program obj i (here_of machine s) done.progress over st ≡ row)
        → GivesOn row ⊎ BehindApplied program code machine embed ways minds n s (answer_writes done.progress) r new
    by-row (inl stuck) = inl (only-given row stuck (leads-by row refl))
    by-row (inr e) = inr (behind (answer_writes done.progress) r new
        (applies_as_run program code machine embed ways is_of minds n k q i next done.progress d block t
        (applied done.progress asked.again asked.leaves keeps turn-tells asked.destination (leads-by _ e))
        known blocks are r new did))

pub acts_apply : {S : Type 0} (program : Program) (code : CodeBlocks Value) (machine : Machine S Value)
    (embed : CodeState Value → S) (ways : Ways S) → IsOfCode code machine embed ways
    → (minds : Event Value → Bool) (n : ℕ) → ActsApply program code machine embed ways minds n
acts_apply program code machine embed ways is_of minds n m is_active callee s is i there next next_is done keeps row blocks are block known d asked r new did =
    by-row program code machine embed ways is_of minds n m is_active callee s is i there next next_is done keeps block known d asked blocks are r new did
    (row (here_of machine s) (block-is program code machine embed ways is_of minds n m is_active callee s is i there next next_is done keeps block known d asked))
