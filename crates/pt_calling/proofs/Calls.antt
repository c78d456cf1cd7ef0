-- Calls of blocks do as in a run.
use Rattle.std.proofs.Common.{◌≡◌, ◌∙◌, ℕ, ◌+◌, suc, List, [], ◌∷◌, ◌++◌, drop, Bool, true, false, true≢false, Option, Some, None, refl, sym, ap, subst}
use Rattle.std.specs.Prelude.{if◌then◌else◌, length, codes}
use Rattle.pt_base.specs.declared.numbers.BlockId.{BlockId}
use Rattle.pt_base.specs.declared.what.What.TheVariants.{Heap}
use Rattle.pt_heap.specs.declared.value.Value.{Value}
use Rattle.pt_bind.specs.declared.arguments.Locals.{Locals}
use Rattle.pt_code.specs.View.{Ins}
use Rattle.pt_frames.specs.declared.slot.Slot.{Slot}
use Rattle.pt_frames.specs.declared.purpose.Purpose.{Purpose as For}
use Rattle.pt_frames.specs.declared.purpose.Purpose.TheVariants as aim
use Rattle.sem_control.specs.control.Bases.{or_else}
use Rattle.sem_control.specs.control.Turn as T
use Rattle.sem_control.specs.control.Turn.{raised}
use Rattle.sem_code.specs.slots.Slots as C
use Rattle.sem_code.specs.slots.Slots.{Slots, State as CodeState}
use Rattle.sem_code.specs.slots.CodeObject.{CodeObject}
use Rattle.sem_code.specs.slots.Landing.{land}
use Rattle.sem_code_machine.specs.code_machine.CodeBlocks.{CodeBlocks}
use Rattle.law_origins.specs.Landings.{lands_with}
use Rattle.law_origins.proofs.Landing.{below_what_is_given}
use Rattle.law_leads.specs.Leads.{left_with, EndsWith, Leads, in_run}
use Rattle.law_leads.proofs.Leading.{answers_lead}
use Rattle.law_steps.proofs.waiting.Telling.{seen_tells}
use Rattle.sem_run.specs.run.Machine.{Machine}
use Rattle.sem_run.specs.run.Events as Told
use Rattle.sem_run.specs.run.Events.{Event}
use Rattle.sem_run.specs.run.Host as H
use Rattle.sem_run.specs.run.Host.{Host, Here, Finding, BlockResult, Opening, too_deep, made, beyond}
use Rattle.sem_run.specs.run.State as run
use Rattle.sem_run.specs.run.State.{State, OpenAsk, Rest, of_ask, begin, with_store}
use Rattle.sem_run.specs.run.Views.{active, here_of}
use Rattle.sem_run.specs.run.Requests.{run_block, open_above, fail_opening}
use Rattle.sem_run.specs.run.Outcome.{Output}
use Rattle.sem_run.specs.run.Run.{writes}
use Rattle.sem_run.specs.transitions.Transitions.{by_answer}
use Rattle.sem_run.specs.transitions.Successors as leads
use Rattle.sem_run.specs.transitions.Successors.{successor}
use Rattle.sem_steps.specs.Steps.{Steps, stays, minded}
use Rattle.sem_steps.proofs.Moves.{join}
use Rattle.pt_reraising.specs.pt_machine_state.pt_code_facts.sem_rows.pt_host.World.{Names, World, Stores, CodeFacts, Program, Allotted, with_objects}
use Rattle.pt_reraising.specs.pt_machine_state.pt_code_facts.sem_rows.pt_host.Errors.{error_saying, in_heap_of}
use Rattle.pt_reraising.specs.pt_machine_state.pt_code_facts.sem_rows.pt_host.Trees.{Tree, raise_with}
use Rattle.pt_reraising.specs.pt_machine_state.pt_code_facts.sem_rows.pt_host.HeapHost.{heap_host}
use Rattle.pt_reraising.specs.pt_machine_state.pt_code_facts.sem_rows.pt_host.Leaving.{is_stop}
use Rattle.pt_reraising.specs.pt_machine_state.pt_code_facts.sem_rows.pt_host.declared.places.TheConstants.{RECURSION_ERROR}
use Rattle.pt_reraising.specs.pt_machine_state.pt_code_facts.sem_rows.heap_rows.Leads as rows
use Rattle.pt_reraising.specs.pt_machine_state.pt_code_facts.sem_rows.heap_rows.Leads.{giving}
use Rattle.pt_reraising.specs.pt_machine_state.pt_code_facts.sem_rows.heap_rows.Views.{slots_view}
use Rattle.pt_reraising.specs.pt_machine_state.pt_code_facts.sem_rows.heap_rows.Told.{block_id, opening_of, resumed, told}
use Rattle.pt_reraising.specs.pt_machine_state.pt_code_facts.sem_rows.declared.heap_rows.progress.Progress.{Progress}
use Rattle.pt_happenings.specs.declared.happening.Happening.TheVariants.{Starts}
use Rattle.pt_pendings.specs.declared.pending.Origin.{Origin}
use Rattle.pt_openers.specs.Openers.{is_full, active_in}
use Rattle.pt_reraising.specs.pt_machine_state.declared.blocks.BlockCode.{BlockCode}
use Rattle.pt_reraising.specs.pt_machine_state.declared.blocks.Blocks.{Blocks}
use Rattle.pt_reraising.specs.pt_machine_state.Blocks.{IsBlockOf, AreBlocksOf, block_at}
use Rattle.pt_reraising.specs.pt_machine_state.Views.{stores_of}
use Rattle.pt_reraising.specs.pt_machine_state.Changes.{left_slots}
use Rattle.pt_reraising.specs.pt_failing.pt_arising.pt_replying.pt_turning.pt_telling.pt_run_state.pt_purposes.declared.standing.Standing.TheVariants.{AtPlace}
use Rattle.pt_reraising.specs.pt_failing.pt_arising.pt_replying.pt_turning.pt_telling.pt_run_state.pt_purposes.Seen.{block_of, active_of}
use Rattle.pt_reraising.specs.pt_failing.pt_arising.pt_replying.pt_turning.pt_telling.pt_run_state.pt_purposes.Asks.{led_in, DoneSo}
use Rattle.pt_reraising.specs.pt_failing.pt_arising.pt_replying.pt_turning.pt_telling.pt_run_state.pt_purposes.Laws.{IsAnswered}
use Rattle.pt_reraising.specs.pt_failing.pt_arising.pt_replying.pt_turning.pt_telling.pt_run_state.pt_purposes.Openers as openers
use Rattle.pt_reraising.specs.pt_failing.pt_arising.pt_replying.pt_turning.pt_telling.pt_run_state.pt_purposes.Openers.{Ways, origin_in, origin_for, IsWaiting, BlockLeads, asked_in}
use Rattle.pt_reraising.proofs.pt_purposes.Doing.{results_go_on}
use Rattle.pt_reraising.proofs.pt_purposes.Seeing.{parts_tell}
use Rattle.pt_reraising.specs.pt_failing.pt_arising.pt_replying.pt_turning.pt_telling.pt_run_state.declared.machine.Machine.{Machine as Held}
use Rattle.pt_reraising.specs.pt_failing.pt_arising.pt_replying.pt_turning.pt_telling.pt_run_state.Stands.{Stands, StandsAround}
use Rattle.pt_reraising.specs.pt_failing.pt_arising.pt_replying.pt_turning.pt_telling.Telling as telling
use Rattle.pt_reraising.specs.pt_failing.pt_arising.pt_replying.pt_turning.pt_telling.Laws as laws
use Rattle.pt_reraising.specs.pt_failing.pt_arising.pt_replying.pt_turning.pt_telling.Laws.{Comes, BehindTold}
use Rattle.pt_reraising.proofs.pt_telling.Around.{are-seen}
use Rattle.pt_reraising.proofs.pt_telling.Tells.{tells_as_run}
use Rattle.pt_reraising.proofs.pt_telling.Asks.{writes-append}
use Rattle.pt_reraising.specs.pt_failing.pt_arising.pt_replying.pt_turning.Ways.{IsOfCode, resumed_by, rows_of, rows_at}
use Rattle.pt_reraising.proofs.pt_turning.Turns.{around-at, named-by, begins_as_run}
use Rattle.pt_reraising.specs.pt_failing.pt_arising.pt_replying.Replying.{beyond as beyond_told}
use Rattle.pt_reraising.specs.pt_opening.declared.opening.Wanted.{Wanted}
use Rattle.pt_reraising.specs.pt_opening.Opening.{opened, beginning}
use Rattle.pt_reraising.specs.pt_opening.Laws.{IsWanted}
use Rattle.pt_reraising.proofs.pt_opening.Opens.{opens_as_run}
use Rattle.pt_reraising.specs.pt_failing.declared.failing.Failed.{Failed}
use Rattle.pt_reraising.specs.pt_failing.declared.failing.Failed.TheVariants.{Goes, Leaves, Further}
use Rattle.pt_reraising.specs.pt_failing.declared.failing.Failing.{Failing}
use Rattle.pt_reraising.specs.pt_failing.Failing.{FailedSo, context_of, arisen_by, failed_by, with_heap as with_objects_of, FailsSo}
use Rattle.pt_reraising.specs.pt_failing.Laws as failing
use Rattle.pt_reraising.specs.pt_failing.Laws.{IsFailing, BehindFailure}
use Rattle.pt_reraising.proofs.pt_arising.Arises.{tells_raise}
use Rattle.pt_reraising.proofs.pt_failing.Fails.{fails_as_run}
use Rattle.pt_calling.specs.Calling.{wanted_for, called_in, cleared, is_item, too_many, RefusesIf, CallsIn}
use Rattle.pt_calling.specs.Laws.{IsCalling, BehindCall, goes_on, leaves, further, CallsAsRun}
use Rattle.pt_calling.proofs.Replies as replies
use Rattle.pt_calling.proofs.Results.{no_stop, two_off, cut_two, result_answers, left_lands}

-- one that was made for a failure is nothing that is left to be done
never-left : (block : BlockCode) (o : Option Value) (f : Failing) (m new : Held)
    (p : Progress)
    → record { failed = Further p; machine = new } ≡ failed_by block o f m → ⊥
never-left block None f m new p e = let no : Further p ≡ Leaves Heap = ap (λ x. x.failed) e in absurd cc
never-left block (Some v) f m new p e =
    let no : Further p ≡ Goes (arisen_by block v f m).event = ap (λ x. x.failed) e in absurd cc

length-view : (slots : List Slot) → length (slots_view slots) ≡ length slots
length-view [] = refl
length-view (s ∷ ss) = ap suc (length-view ss)

module _ {S : Type 0} (program : Program) (code : CodeBlocks Value) (machine : Machine S Value)
    (embed : CodeState Value → S) (ways : Ways S) (is_of : IsOfCode code machine embed ways)
    (minds : Event Value → Bool) (n : ℕ) (ends : Option Value → Bool)
    (never : (v : Value) → ends (Some v) ≡ false) (m : Held)
    (q : OpenAsk (CodeState Value) Value) (i : Ins) (b : BlockId) (hidden : Bool) (ls : Locals)
    (why : For) (f : Failing) (s : State S Names Value World)
    (is : IsCalling program code machine embed ways minds n ends m q i b hidden ls why f s)
    (block : BlockCode) (known : IsBlockOf program code (block_of m.code.here) block) where
  abbrev Run : Type 0
  Run = State S Names Value World

  abbrev host : Host Names Value World
  host = heap_host program

  abbrev Go : Run → List (Output Value) → Run → Type 0
  Go = Steps machine host (minded minds) n

  abbrev Comes_to : Run → Run → Type 0
  Comes_to u t = Comes program machine ways minds n u [] t

  abbrev Behind : Failed → Held → Type 0
  Behind r k = BehindCall program code machine embed ways minds n ends why s r k

  abbrev BehindSo : FailedSo → Type 0
  BehindSo x = Behind x.failed x.machine

  abbrev st : Stores
  st = stores_of program m.code

  -- with the stores of the machine
  abbrev here_s : Run
  here_s = with_store st s

  abbrev obj : CodeObject Value
  obj = code.object (block_of m.code.here)

  abbrev ss : Slots Value
  ss = slots_view m.code.here.slots

  abbrev asked : OpenAsk S Value
  asked = in_run embed q

  abbrev from : Origin
  from = origin_in m.code.here

  abbrev facts : CodeFacts
  facts = program.facts (block_id b hidden)

  abbrev opening : Opening Names Value
  opening = opening_of program (block_id b hidden) ls

  abbrev Answers : Type 0
  Answers = BlockResult Names Value → Stores → Tree (Finding Value q.ask)

  -- the rest of the answer, by what is known of it
  abbrev rest : Answers
  rest = is.leads.0

  abbrev h : Here Value
  h = here_of machine s

  leads-so : (r : BlockResult Names Value) (u : Stores)
      → successor (by_answer q (rest r u)) ≡ resumed program obj i facts why ss r h u
  leads-so r u = is.leads.1.0 r u

  ends-so : (r : BlockResult Names Value) (u : Stores)
      → EndsWith q.ask (left_with r.end) (rest r u)
  ends-so r u = is.leads.1.1.0 r u

  answered-so : (r : BlockResult Names Value) (u : Stores)
      → IsAnswered (successor (by_answer q (rest r u)))
  answered-so r u =
      subst (λ l. IsAnswered l) (sym (leads-so r u)) (result_answers obj i program facts m.code.here.slots h why r u)

  -- the exception that leaves the block
  abbrev left_result : Value → BlockResult Names Value
  left_result v = record { end = T.left_by v; names = opening.names }

  -- the slots below what is taken, as a raise finds them
  abbrev slots_below : For → Slots Value
  slots_below w = slots_view (left_slots w m.code.here.slots)

  abbrev below : Slots Value
  below = slots_below why

  left-leads : (v : Value) (u : Stores) → (is_item why ≡ true → is_stop v u.world ≡ false)
      → successor (by_answer q (rest (left_result v) u))
      ≡ leads.arises v (land obj i.rows (C.raise v) below) u
  left-leads v u unstopped =
      leads-so (left_result v) u ∙ left_lands obj i program facts m.code.here.slots h why v opening.names u unstopped

  -- so it does whatever it is, for it would without objects
  raises-so : (v : Value) → q.next (raised v) ≡ land obj i.rows (C.raise v) below
  raises-so v =
      replies.raising q (rest (left_result v) (with_objects [] st)) v (land obj i.rows (C.raise v) below) (with_objects [] st)
      (left-leads v (with_objects [] st) (λ item. no_stop v))

  rows-are : rows_at code m.code.here m.code.here.pc ≡ i.rows
  rows-are = ap rows_of is.there

  abbrev Lands_for : For → Value → Type 0
  Lands_for w v =
      ways.lands m.code.here (origin_for w m.code.here) v ≡ embed (land obj i.rows (C.raise v) (slots_below w))

  lands-below : (v : Value)
      → ways.lands m.code.here from v ≡ embed (land obj i.rows (C.raise v) ss)
  lands-below v =
      is_of.lands m.code.here from v
      ∙ ap embed
      (ap (λ k. lands_with obj (rows_at code m.code.here m.code.here.pc) k ss v) (sym (length-view m.code.here.slots))
      ∙ below_what_is_given obj (rows_at code m.code.here m.code.here.pc) [] ss v
      ∙ ap (λ rs. land obj rs (C.raise v) ss) rows-are)

  lands-for : (w : For) (v : Value) → Lands_for w v
  lands-for aim.Result v = lands-below v
  lands-for aim.Discard v = lands-below v
  lands-for (aim.Class base cell) v = lands-below v
  lands-for (aim.Init x) v = lands-below v
  lands-for aim.Opposite v = lands-below v
  lands-for (aim.Truth wanted target kept) v = lands-below v
  lands-for aim.Iterate v = lands-below v
  lands-for (aim.Item it end) v = lands-below v
  lands-for (aim.Unpack before after) v = lands-below v
  lands-for (aim.Enter exit) v = lands-below v
  lands-for (aim.Exit completion) v =
      is_of.lands m.code.here (origin_for (aim.Exit completion) m.code.here) v
      ∙ ap embed
      (ap (λ k. land obj (rows_at code m.code.here m.code.here.pc) (C.raise v) k) (cut_two m.code.here.slots)
      ∙ ap (λ rs. land obj rs (C.raise v) (slots_view (drop 2 m.code.here.slots))) rows-are)
  lands-for (aim.Format spec) v = lands-below v
  lands-for (aim.Resume g) v = lands-below v
  lands-for (aim.Answer hook event block act args pending) v = lands-below v

  resumes-so : (r : BlockResult Names Value) (u : Stores)
      → ways.resumed m.code.here facts why r h u
      ≡ led_in embed (resumed program obj i facts why ss r h u)
  resumes-so r u =
      is_of.resumes program m.code.here facts why r h u
      ∙ ap (λ o. led_in embed (resumed_by code o program m.code.here facts why r h u)) is.there

  abbrev Leads_so : Here Value → Type 0
  Leads_so x = BlockLeads ways m.code.here asked x facts why rest

  block-leads : Leads_so h
  block-leads r u =
      subst (λ l. DoneSo asked (left_with r.end) l (by_answer asked (rest r u)))
      (ap (λ l. led_in embed l) (leads-so r u) ∙ sym (resumes-so r u))
      (results_go_on embed q (left_with r.end) (rest r u) (ends-so r u) (answered-so r u))

  waits-so : IsWaiting ways m.code.here why f.called f.is_act asked
  waits-so = record {
    raises = λ v. ap embed (raises-so v) ∙ sym (lands-for why v);
    told = is.tells;
  }

  -- where it was asked
  abbrev here_with : Option Value → Here Value
  here_with o = asked_in m.code.here o

  here-is : h ≡ here_with (context_of f.active m)
  here-is =
      (seen_tells Names World machine _ _ here_s (are-seen program machine ways m block here_s is.around)).here
      ∙ ap (λ o. here_with (or_else (machine.active s.here.state) o)) (sym (parts_tell program m.hooks m.openers).active)
      ∙ ap (λ o. here_with (or_else o (active_in active_of m.openers))) is.active_is

  abbrev wanted : Wanted
  wanted = wanted_for why f m

  wanted-so : IsWanted program code machine ways m (block_id b hidden) wanted here_s (of_ask asked rest)
  wanted-so = record {
    active = is.active_is ∙ sym is.keeps_active;
    purpose = openers.block_of_ask f.called f.is_act asked rest waits-so (subst Leads_so here-is block-leads);
  }

  full-is : run.is_full here_s ≡ is_full m.openers
  full-is =
      (seen_tells Names World machine _ _ here_s (are-seen program machine ways m block here_s is.around)).full
      ∙ sym (parts_tell program m.hooks m.openers).full

  behind : (u t : Run) → Go s [] u → Comes_to u t → Comes_to s t
  behind u t g c = record {
    outputs = c.outputs;
    steps = join machine host (minded minds) n s u t [] c.outputs g c.steps;
    written = c.written;
  }

  abbrev To : Run → Held → Type 0
  To u k = (t : Run) × (Comes_to u t × Stands program machine ways k t)

  joined : (u t v : Run) → Comes_to u t → Comes_to t v → Comes_to u v
  joined u t v x y = record {
    outputs = x.outputs ++ y.outputs;
    steps = join machine host (minded minds) n u t v x.outputs y.outputs x.steps y.steps;
    written = writes-append true x.outputs y.outputs ∙ ap (λ ws. ws ++ writes true y.outputs) x.written ∙ y.written;
  }

  -- the block begins, if no event is told
  begins-beyond : (r : telling.Told) (t : Run) → BehindTold program machine ways minds n beginning t r
      → To t (beyond_told AtPlace r).machine
  begins-beyond _ t (laws.event k stands) =
      (t, (record { outputs = []; steps = stays t; written = refl }, stands))
  begins-beyond _ t (laws.onward k tells) =
      begins_as_run program code machine embed ways is_of minds n k AtPlace None t tells

  -- the state in which the block is asked for
  abbrev requested : Run
  requested = run_block machine host opening (of_ask asked rest) here_s

  opens : is_full m.openers ≡ false → (callee : BlockCode)
      → IsBlockOf program code (block_id b hidden) callee
      → To requested (called_in callee b hidden ls why f m).machine
  opens room callee is_callee =
      let tells = opens_as_run program code machine embed ways is_of m here_s is.around room b hidden wanted (of_ask asked rest) wanted-so ls callee is_callee in
      let m2 : Held = opened callee.iterates b hidden ls wanted m in
      let to = tells_as_run program machine ways minds n m2 beginning (Starts ∷ []) requested tells callee
      (named-by program code machine embed ways is_of minds n (block_id b hidden) callee is_callee) in
      let on = begins-beyond (telling.told callee beginning (Starts ∷ []) m2) to.0 to.1.1 in
      (on.0, (joined requested to.0 on.0 to.1.0 on.1.0, on.1.1))

  -- in place of one too many an exception is made
  abbrev instead : Allotted → Run
  instead a = fail_opening machine host (of_ask asked rest) (λ v. left_result v) (in_heap_of st.world a) here_s

  abbrev too_deep_in : Option Value → Allotted
  too_deep_in o = error_saying RECURSION_ERROR (codes "too many activations") None o st.world.heap

  abbrev above : Run
  above = open_above machine host (begin machine opening here_s.frames false)
      (run.telling (Told.starts ∷ []) (run.starting (machine.start opening.block opening.iterator)))
      (run.for_block (of_ask asked rest)) (record here_s { frames = here_s.frames + 1 })

  instead-is : is_full m.openers ≡ true → requested ≡ instead (too_deep_in h.active)
  instead-is full =
      ap (λ c. if c then instead (too_deep_in h.active) else above) (full-is ∙ full)

  abbrev Leading : leads.Successor (CodeState Value) Names Value World → Run → Type 0
  Leading l t = Leads machine host (minded minds) n ends embed q l t

  instead-leads : is_item why ≡ false → (a : Allotted)
      → Leading (rows.by_tree obj i (giving obj i below) below (raise_with a st)) (instead a)
  instead-leads other (made v k) =
      let e = left-leads v (with_objects k st) (λ item. absurd (true≢false (sym item ∙ other))) in
      subst (λ l. Leading l (instead (made v k))) e
      (answers_lead machine host (minded minds) n ends embed q (rest (left_result v) (with_objects k st))
      (record here_s { world = (with_objects k st).world })
      (replies.raises_so ends q (rest (left_result v) (with_objects k st)) v (land obj i.rows (C.raise v) below) (with_objects k st) e))
  instead-leads other (beyond what) = refl

  instead-here : (a : Allotted) → here_of machine (instead a) ≡ h
  instead-here (made v k) = refl
  instead-here (beyond what) = refl

  instead-active : (a : Allotted) → machine.active (instead a).here.state ≡ f.active
  instead-active (made v k) = is.active_is
  instead-active (beyond what) = is.active_is

  -- the machine without the slots that an exit has left on
  abbrev m2 : Held
  m2 = cleared why m

  around-cleared : (t : Run) → StandsAround program machine ways m t
      → StandsAround program machine ways m2 t
  around-cleared t around = record {
    at_place = around.at_place;
    here = record {
      frame = around.here.frame;
      act = around.here.act;
      behind_jump = around.here.behind_jump;
    };
    openers = around.openers;
    generators = around.generators;
    world = around.world;
    trace = around.trace;
    tools = around.tools;
    units = around.units;
    frames = around.frames;
    numbers = around.numbers;
    untraced = around.untraced;
  }

  instead-around : (a : Allotted) → StandsAround program machine ways m (with_store st (instead a))
  instead-around (made v k) =
      around-at program code machine embed ways is_of minds n m here_s (instead (made v k)).phase is.around
  instead-around (beyond what) =
      around-at program code machine embed ways is_of minds n m here_s (instead (beyond what)).phase is.around

  fails-so : is_item why ≡ false → (a : Allotted) → a ≡ too_deep_in h.active
      → IsFailing program code machine embed ways minds n ends m2 q i too_many f (instead a)
  fails-so other a e = record {
    around = around-cleared (with_store st (instead a)) (instead-around a);
    active_is = instead-active a;
    tells = tells_raise asked f.called f.is_act (ways.decides m.code.here from) (active machine (instead a)) is.tells;
    there = is.there;
    below = below;
    raises = raises-so;
    leads = subst (λ x. Leading (told program obj i x too_many below st) (instead a)) (sym (instead-here a))
        (subst (λ y. Leading (rows.by_tree obj i (giving obj i below) below (raise_with y st)) (instead a)) e (instead-leads other a));
  }

  of-failure : (r : Failed) (new : Held) → FailsSo block too_many f m2 r new → Go s [] (instead (too_deep_in h.active))
      → BehindFailure program code machine embed ways minds n ends (instead (too_deep_in h.active)) r new
      → Behind r new
  of-failure _ _ did g (failing.goes_on event k t c stands) =
      goes_on event k t (behind (instead (too_deep_in h.active)) t g c) stands
  of-failure _ _ did g (failing.leaves what k e) =
      leaves what k (instead (too_deep_in h.active))
      (record { outputs = []; steps = g; written = refl }) e
  of-failure _ _ did g (failing.further p k) =
      absurd (never-left block did.exception f (with_objects_of did.heap m2) k p did.comes)

  refuses : (item : Bool) → is_item why ≡ item → Go s [] (instead (too_deep_in h.active))
      → (r : Failed) (new : Held) → RefusesIf item block why f m r new → Behind r new
  refuses true item g r new did = subst BehindSo (sym did) (further too_many m item)
  refuses false other g r new did =
      of-failure r new did g
      (fails_as_run program code machine embed ways is_of minds n ends m2 q i too_many f (instead (too_deep_in h.active)) (fails-so other (too_deep_in h.active) refl) block known r new did)

  calls : (full : Bool) → is_full m.openers ≡ full → (blocks : Blocks) → AreBlocksOf program code blocks
      → (r : Failed) (new : Held) → CallsIn full blocks block b hidden ls why f m r new → Behind r new
  calls true full blocks are r new did =
      refuses (is_item why) refl (subst (λ u. Go s [] u) (instead-is full) is.leads.1.1.1) r new did
  calls false room blocks are r new did =
      let to = opens room (block_at blocks (block_id b hidden)) (are (block_id b hidden)) in
      subst BehindSo (sym did) (goes_on _ _ to.0 (behind requested to.0 is.leads.1.1.1 to.1.0) to.1.1)

pub calls_as_run : {S : Type 0} (program : Program) (code : CodeBlocks Value)
    (machine : Machine S Value) (embed : CodeState Value → S) (ways : Ways S)
    → IsOfCode code machine embed ways → (minds : Event Value → Bool) (n : ℕ)
    (ends : Option Value → Bool) → ((v : Value) → ends (Some v) ≡ false)
    → CallsAsRun program code machine embed ways minds n ends
calls_as_run program code machine embed ways is_of minds n ends never m q i b hidden ls why f s is blocks are block known r new did =
    calls program code machine embed ways is_of minds n ends never m q i b hidden ls why f s is block known
    (is_full m.openers) refl blocks are r new did
