-- Answers go on as in a run.
use Rattle.std.proofs.Common.{◌≡◌, ◌∙◌, ℕ, List, [], ◌++◌, Bool, true, Option, Some, None, refl, sym, ap, subst, append-nil}
use Rattle.pt_base.specs.declared.numbers.Pc.{Pc}
use Rattle.pt_heap.specs.declared.value.Value.{Value}
use Rattle.pt_heap.specs.declared.completion.Completion.{Completion}
use Rattle.pt_heap.specs.declared.completion.Completion.TheVariants.{Normal, Raise, Return, Leave}
use Rattle.pt_code.specs.View.{Ins}
use Rattle.pt_frames.specs.declared.activation.Activation.{Activation}
use Rattle.sem_control.specs.control.Turn as T
use Rattle.sem_control.specs.control.Turn.{Ask, Answer, got}
use Rattle.sem_code.specs.slots.Slots as C
use Rattle.sem_code.specs.slots.Slots.{Slots, State as CodeState}
use Rattle.sem_code_machine.specs.code_machine.CodeBlocks.{CodeBlocks}
use Rattle.law_leads.specs.Leads.{ToldBy, RepliesSo, in_run}
use Rattle.sem_run.specs.run.Machine.{Machine}
use Rattle.sem_run.specs.run.Events.{Event, Happening as Said}
use Rattle.sem_run.specs.run.Host.{Host, Here}
use Rattle.sem_run.specs.run.State as run
use Rattle.sem_run.specs.run.State.{State, OpenAsk, at, with_store}
use Rattle.sem_run.specs.run.Outcome.{Output}
use Rattle.sem_run.specs.run.Run.{Write, writes}
use Rattle.sem_run.specs.run.Step.{reply_to}
use Rattle.sem_steps.specs.Steps.{Steps, minded}
use Rattle.sem_steps.proofs.Moves.{join}
use Rattle.pt_arising.specs.pt_replying.pt_turning.sem_rows.pt_host.World.{Names, World, Stores, Program}
use Rattle.pt_arising.specs.pt_replying.pt_turning.sem_rows.pt_host.HeapHost.{heap_host}
use Rattle.pt_arising.specs.pt_replying.pt_turning.sem_rows.heap_rows.Views.{slots_view}
use Rattle.pt_arising.specs.pt_replying.pt_turning.sem_rows.heap_rows.Told.{behind_leave}
use Rattle.pt_arising.specs.pt_replying.pt_turning.sem_rows.declared.heap_rows.progress.Progress.{Progress}
use Rattle.pt_arising.specs.pt_replying.pt_turning.sem_rows.declared.heap_rows.progress.Progress.TheVariants as progress
use Rattle.pt_arising.specs.pt_replying.pt_turning.pt_telling.pt_transfers.pt_machine_state.declared.blocks.BlockCode.{BlockCode}
use Rattle.pt_arising.specs.pt_replying.pt_turning.pt_telling.pt_transfers.pt_machine_state.declared.machine.Standing.{Standing as CodeStanding}
use Rattle.pt_arising.specs.pt_replying.pt_turning.pt_telling.pt_transfers.pt_machine_state.declared.machine.Standing.TheVariants as code_standing
use Rattle.pt_arising.specs.pt_replying.pt_turning.pt_telling.pt_transfers.pt_machine_state.Blocks.{IsBlockOf}
use Rattle.pt_arising.specs.pt_replying.pt_turning.pt_telling.pt_transfers.pt_machine_state.Views.{state_of, stores_of}
use Rattle.pt_arising.specs.pt_replying.pt_turning.pt_telling.pt_transfers.pt_machine_state.Changes.{left_place}
use Rattle.pt_arising.proofs.pt_replying.pt_turning.pt_telling.pt_transfers.pt_machine_state.LandLemmas.{landed-state}
use Rattle.pt_arising.specs.pt_replying.pt_turning.pt_telling.pt_run_state.pt_purposes.declared.standing.Standing.{Standing}
use Rattle.pt_arising.specs.pt_replying.pt_turning.pt_telling.pt_run_state.pt_purposes.declared.standing.Standing.TheVariants.{AtPlace, Reraises}
use Rattle.pt_arising.specs.pt_replying.pt_turning.pt_telling.pt_run_state.pt_purposes.Seen.{block_of}
use Rattle.pt_arising.specs.pt_replying.pt_turning.pt_telling.pt_run_state.pt_purposes.Openers.{Ways, settled}
use Rattle.pt_arising.specs.pt_replying.pt_turning.pt_telling.pt_run_state.declared.machine.Machine.{Machine as Held}
use Rattle.pt_arising.specs.pt_replying.pt_turning.pt_telling.pt_run_state.Stands.{Stands, StandsAround}
use Rattle.pt_arising.specs.pt_replying.pt_turning.pt_telling.Laws.{Comes}
use Rattle.pt_arising.proofs.pt_replying.pt_turning.pt_telling.Asks.{writes-append}
use Rattle.pt_arising.proofs.pt_replying.pt_turning.Turns.{around-at, settled-there}
use Rattle.pt_arising.specs.pt_replying.pt_turning.Ways.{IsOfCode, rows_of, state_at}
use Rattle.pt_arising.specs.pt_replying.pt_turning.Turning.{standing_of}
use Rattle.pt_arising.specs.pt_replying.declared.replying.Decided.{Decided}
use Rattle.pt_arising.specs.pt_replying.declared.replying.Decided.TheVariants as decided
use Rattle.pt_arising.specs.pt_replying.Laws.{IfBranches, IsGiven}
use Rattle.pt_arising.proofs.pt_replying.Replies.{replies_as_run}
use Rattle.pt_answering.specs.declared.answering.Asked.{Asked}
use Rattle.pt_answering.specs.Answering.{given_of, replied_there, at_pc, left_in, answered, answer_writes}
use Rattle.pt_answering.specs.Laws.{by_itself, TellsOf, IsAnswered, BehindAnswer, goes_on, further, AnswersAsRun}

-- where an iterator is at its end by itself nothing is told by the answer
module _ {V : Type 0} where
  tells-nothing : (ends : Option V → Bool) → ((e : V) → ends (Some e) ≡ true → ⊥) → (a : Ask V) (x : Answer V a)
      (hs : List (Said V)) → ToldBy ends a x hs → hs ≡ []
  tells-nothing ends never (T.next_of i) None hs (None, (is, e)) = e
  tells-nothing ends never (T.next_of i) None hs (Some v, (is, e)) = absurd (never v is)
  tells-nothing ends never (T.next_of i) (Some v) hs e = e
  tells-nothing ends never (T.seek a) x hs e = e
  tells-nothing ends never (T.deed a) x hs e = e
  tells-nothing ends never (T.leave a) x hs e = e
  tells-nothing ends never (T.throw a) x hs e = e
  tells-nothing ends never (T.test a) x hs e = e
  tells-nothing ends never (T.iter_of a) x hs e = e
  tells-nothing ends never (T.enter a) x hs e = e
  tells-nothing ends never (T.unpack a n t) x hs e = e
  tells-nothing ends never (T.delegate i r) x hs e = e

no-exception : (e : Value) → by_itself (Some e) ≡ true → ⊥
no-exception e is = absurd cc

module _ {S : Type 0} (program : Program) (code : CodeBlocks Value) (machine : Machine S Value)
    (embed : CodeState Value → S) (ways : Ways S) (is_of : IsOfCode code machine embed ways)
    (minds : Event Value → Bool) (n : ℕ) where
  abbrev Run : Type 0
  Run = State S Names Value World

  abbrev host : Host Names Value World
  host = heap_host program

  abbrev Go : Run → List (Output Value) → Run → Type 0
  Go = Steps machine host (minded minds) n

  abbrev To : Run → List Write → Held → Type 0
  To s ws m = (t : Run) × (Comes program machine ways minds n s ws t × Stands program machine ways m t)

  comes-behind : (s u t : Run) (os : List (Output Value)) → Go s os u
      → Comes program machine ways minds n u [] t
      → Comes program machine ways minds n s (writes true os) t
  comes-behind s u t os g c = record {
    outputs = os ++ c.outputs;
    steps = join machine host (minded minds) n s u t os c.outputs g c.steps;
    written = writes-append true os c.outputs ∙ ap (λ ws. writes true os ++ ws) c.written ∙ append-nil (writes true os);
  }

  -- a reply is taken that leads to where the activation stands
  module _ (m : Held) (z : Standing) (q : OpenAsk (CodeState Value) Value) (d : Asked) (st : Stores)
      (s : Run) (around : StandsAround program machine ways m (with_store st s))
      (active_is : machine.active s.here.state ≡ d.active) (is_act : q.is_act ≡ d.is_act)
      (settles : settled z ≡ z) (tells : TellsOf program code machine embed ways minds n m z q d s)
      (block : BlockCode) (known : IsBlockOf program code (block_of m.code.here) block) where
    abbrev there : CodeState Value
    there = state_at code z m.code.here

    comes-next : (o : Decided) (c : CodeState Value) → c ≡ there
        → IfBranches o (λ k. machine.destination s.here.frame.block (embed there) ≡ k.0)
        → IfBranches o (λ k. machine.destination s.here.frame.block (embed c) ≡ k.0)
    comes-next decided.Nothing c e is = tt
    comes-next (decided.Branches k) c e is = ap (λ y. machine.destination s.here.frame.block (embed y)) e ∙ is
    comes-next (decided.Handles v) c e is = tt

    given : (x : Answer Value q.ask) (e : q.next (got x) ≡ there)
        → IsGiven program code machine embed ways minds n m (in_run embed q) x (given_of d) d.is_act z d.active d.from (with_store st s)
    given x e = record {
      around = around;
      active_is = active_is;
      is_act = is_act;
      call = tells.call x e;
      control = tells.control x e;
      destination = comes-next d.decided (q.next (got x)) e tells.destination;
      leads = ap embed e;
      settles = settles;
      lands = λ something v. ap embed (tells.lands something x e v);
    }

    replied-so : (c : CodeState Value) → c ≡ there
        → RepliesSo machine host (minded minds) n by_itself embed q c st s
        → To s [] (replied_there block d z m).machine
    replied-so c e r =
        let to = replies_as_run program code machine embed ways is_of minds n m (in_run embed q) r.answer (given_of d) d.is_act z d.active d.from (with_store st s)
        (given r.answer (r.leads ∙ e)) block known in
        let nothing : r.told ≡ [] = tells-nothing by_itself no-exception q.ask r.answer r.told r.tells in (
          to.0,
          (
            comes-behind s _ to.0 [] (subst (λ hs. Go s [] (reply_to machine host (in_run embed q) (got r.answer) hs (with_store st s))) nothing r.goes) to.1.0,
            to.1.1,
          ),
        )

  tells-at : (m : Held) (z : Standing) (q : OpenAsk (CodeState Value) Value) (d : Asked) (s : Run)
      (p : run.Phase S Names Value World)
      → TellsOf program code machine embed ways minds n m z q d s
      → TellsOf program code machine embed ways minds n m z q d (at p s)
  tells-at m z q d s p tells = record {
    call = tells.call;
    control = tells.control;
    destination = tells.destination;
    lands = tells.lands;
  }

  -- a place is another one
  around-pc : (m : Held) (pc : Pc) (s : Run) → StandsAround program machine ways m s
      → StandsAround program machine ways (at_pc pc m) s
  around-pc m pc s around = record {
    at_place = around.at_place;
    here = record {
      frame = around.here.frame;
      act = around.here.act;
      behind_jump = around.here.behind_jump;
    };
    openers = around.openers;
    generators = around.generators;
    world = around.world;
    trace = around.trace;
    tools = around.tools;
    units = around.units;
    frames = around.frames;
    numbers = around.numbers;
    untraced = around.untraced;
  }

  around-left : (m : Held) (block : BlockCode) (next : Pc) (how : Completion) (s : Run)
      → StandsAround program machine ways m s
      → StandsAround program machine ways (left_in block next how m) s
  around-left m block next how s around = record {
    at_place = around.at_place;
    here = record {
      frame = around.here.frame;
      act = around.here.act;
      behind_jump = around.here.behind_jump;
    };
    openers = around.openers;
    generators = around.generators;
    world = around.world;
    trace = around.trace;
    tools = around.tools;
    units = around.units;
    frames = around.frames;
    numbers = around.numbers;
    untraced = around.untraced;
  }

  -- what leaves a place is where it lands
  abbrev in_place_of : Activation → Activation → Activation
  in_place_of a b = record a { pc = b.pc; slots = b.slots }

  state-there : (cs : CodeStanding) (a b : Activation)
      → state_at code (standing_of cs) (in_place_of a b) ≡ state_of cs b
  state-there code_standing.AtPlace a b = refl
  state-there (code_standing.Returns v) a b = refl
  state-there (code_standing.Raises v) a b = refl

  left-state : (m : Held) (i : Ins) (block : BlockCode) (next : Pc) (how : Completion)
      → m.code.standing ≡ code_standing.AtPlace → i.next ≡ next.0
      → (code.object (block_of m.code.here)).at m.code.here.pc.0 ≡ Some i
      → IsBlockOf program code (block_of m.code.here) block
      → state_of (left_place block next how m.code).standing (left_place block next how m.code).here
      ≡ behind_leave program (code.object (block_of m.code.here)) i how (slots_view m.code.here.slots)
  left-state m i block next Normal at_place e there known =
      ap (λ s. state_of s (left_place block next Normal m.code).here) at_place
      ∙ ap (λ k. C.on k (slots_view m.code.here.slots)) (sym e)
  left-state m i block next (Raise v) at_place e there known =
      landed-state program code block (block_of m.code.here) i m.code (C.raise v) known at_place there
  left-state m i block next (Return v) at_place e there known =
      landed-state program code block (block_of m.code.here) i m.code (C.return v) known at_place there
  left-state m i block next (Leave t) at_place e there known =
      landed-state program code block (block_of m.code.here) i m.code (C.jump_to t.0) known at_place there

  module _ (m : Held) (q : OpenAsk (CodeState Value) Value) (i : Ins) (next : Pc) (d : Asked)
      (h : Here Value) (block : BlockCode) (s : Run)
      (known : IsBlockOf program code (block_of m.code.here) block) where
    abbrev st : Stores
    st = stores_of program m.code

    abbrev Is : Progress → Type 0
    Is p = IsAnswered program code machine embed ways minds n m q i next p d h block s

    abbrev ss : Slots Value
    ss = slots_view m.code.here.slots

    abbrev Behind : Progress → Type 0
    Behind p = BehindAnswer program code machine embed ways minds n s (answer_writes p) (answered block next p d m)

    by-row : (p : Progress) → Is p → Behind p
    by-row progress.Next is =
        let to = replied-so (at_pc next m) AtPlace q d st s (around-pc m next (with_store st s) is.around) is.active_is is.is_act refl is.tells block known
        (C.on i.next ss) (ap (λ k. C.on k ss) is.next_is) is.leads in
        goes_on _ _ to.0 to.1.0 to.1.1
    by-row (progress.Goto pc) is =
        let to = replied-so (at_pc pc m) AtPlace q d st s (around-pc m pc (with_store st s) is.around) is.active_is is.is_act refl is.tells block known
        (C.on pc.0 ss) refl is.leads in
        goes_on _ _ to.0 to.1.0 to.1.1
    by-row (progress.Leaves how) is =
        let cs = (left_place block next how m.code).standing in
        let to = replied-so (left_in block next how m) (standing_of cs) q d st s (around-left m block next how (with_store st s) is.around) is.active_is is.is_act
        (settled-there program code machine embed ways is_of minds n cs) is.tells block known
        (behind_leave program (code.object (block_of m.code.here)) i how ss)
        (sym (state-there cs m.code.here (left_place block next how m.code).here ∙ left-state m i block next how is.around.at_place is.next_is is.there known)) is.leads in
        goes_on _ _ to.0 to.1.0 to.1.1
    by-row (progress.Reraises e) is =
        let to = replied-so m (Reraises e) q d st s is.around is.active_is is.is_act refl is.tells block known
        (C.reraises e i.rows ss) (ap (λ r. C.reraises e r ss) (ap rows_of (sym is.there))) is.leads in
        goes_on _ _ to.0 to.1.0 to.1.1
    by-row (progress.Print t) is =
        let p = is.leads.0 in
        let u : Run = at p s in
        let to = replied-so (at_pc next m) AtPlace q d st u (around-at program code machine embed ways is_of minds n (at_pc next m) (with_store st s) p (around-pc m next (with_store st s) is.around)) is.active_is is.is_act refl (tells-at (at_pc next m) AtPlace q d s p is.tells) block known
        (C.on i.next ss) (ap (λ k. C.on k ss) is.next_is) is.leads.1.1 in
        goes_on _ _ to.0 (comes-behind s u to.0 _ is.leads.1.0 to.1.0) to.1.1
    by-row (progress.Calls b hidden ls why) is = further _ _
    by-row (progress.Raises e) is = further _ _
    by-row progress.RaisesAgain is = further _ _
    by-row (progress.Fails c a) is = further _ _
    by-row (progress.FailsSaying c t) is = further _ _
    by-row (progress.Outside what) is = further _ _
    by-row progress.Lacks is = further _ _

pub answers_as_run : {S : Type 0} (program : Program) (code : CodeBlocks Value)
    (machine : Machine S Value) (embed : CodeState Value → S) (ways : Ways S)
    → IsOfCode code machine embed ways → (minds : Event Value → Bool) (n : ℕ)
    → AnswersAsRun program code machine embed ways minds n
answers_as_run program code machine embed ways is_of minds n m q i next p d h block s is known =
    by-row program code machine embed ways is_of minds n m q i next d h block s known p is
