-- Results are used as in a run.
use Rattle.std.proofs.Common.{◌≡◌, ◌∙◌, ℕ, List, [], ◌∷◌, ◌++◌, Bool, true, false, Option, Some, None, refl, sym, ap, subst}
use Rattle.pt_base.specs.declared.numbers.Pc.{Pc}
use Rattle.pt_heap.specs.declared.value.Value.{Value}
use Rattle.pt_heap.specs.declared.value.Value.TheVariants as value
use Rattle.pt_code.specs.View.{Ins}
use Rattle.pt_frames.specs.Slots.{active_in}
use Rattle.pt_frames.specs.declared.slot.Slot.{Slot}
use Rattle.pt_frames.specs.declared.activation.Activation.{Activation}
use Rattle.pt_frames.specs.declared.purpose.Purpose.{Purpose as For}
use Rattle.pt_frames.specs.declared.purpose.Purpose.TheVariants as aim
use Rattle.sem_control.specs.control.Turn as T
use Rattle.sem_control.specs.control.Turn.{Answer, Reply, gave, got, raised}
use Rattle.sem_code.specs.slots.Slots as C
use Rattle.sem_code.specs.slots.Slots.{Slots, State as CodeState, on}
use Rattle.sem_code.specs.slots.CodeObject.{CodeObject}
use Rattle.sem_code_machine.specs.code_machine.CodeBlocks.{CodeBlocks}
use Rattle.law_leads.specs.Leads.{left_with}
use Rattle.law_origins.specs.Landings.{lands_with}
use Rattle.sem_run.specs.run.Machine.{Machine}
use Rattle.sem_run.specs.run.Events.{Event}
use Rattle.sem_run.specs.run.Host.{Here, BlockResult, Finding}
use Rattle.sem_run.specs.run.State.{State, OpenAsk, answering, at, store}
use Rattle.sem_run.specs.transitions.Transitions.{by_answer, replies}
use Rattle.sem_run.specs.transitions.Successors as leads
use Rattle.pt_giving.specs.pt_host.World.{Names, World, Stores, CodeFacts, Program}
use Rattle.pt_giving.specs.pt_host.Trees.{Tree, then_with}
use Rattle.pt_giving.specs.pt_host.Answers.{or_end}
use Rattle.pt_giving.specs.pt_purposes.sem_rows.heap_rows.Leads.{HeapSuccessor}
use Rattle.pt_giving.specs.pt_purposes.sem_rows.heap_rows.Told.{resumed}
use Rattle.pt_giving.specs.pt_purposes.sem_rows.heap_rows.Views.{slots_view}
use Rattle.pt_pendings.specs.declared.pending.Origin.{Origin}
use Rattle.pt_giving.specs.pt_calling.pt_machine_state.declared.blocks.BlockCode.{BlockCode}
use Rattle.pt_giving.specs.pt_calling.pt_machine_state.Blocks.{IsBlockOf}
use Rattle.pt_giving.specs.pt_purposes.declared.purpose.Called.{Called}
use Rattle.pt_giving.specs.pt_purposes.declared.standing.Standing.TheVariants.{AtPlace}
use Rattle.pt_giving.specs.pt_purposes.Seen.{block_of}
use Rattle.pt_giving.specs.pt_purposes.Asks.{led_in, told_by_control, DoneSo}
use Rattle.pt_giving.specs.pt_purposes.Openers.{Ways, origin_in, origin_for}
use Rattle.pt_giving.specs.pt_calling.pt_arising.pt_opening.pt_run_state.declared.machine.Machine.{Machine as Held}
use Rattle.pt_giving.specs.pt_calling.pt_arising.pt_opening.pt_run_state.Stands.{StandsAround}
use Rattle.pt_giving.specs.pt_turning.Ways.{IsOfCode, resumed_by as resumed_at, rows_at, state_at}
use Rattle.pt_giving.proofs.pt_turning.Turns.{around-at}
use Rattle.pt_giving.specs.pt_calling.pt_arising.pt_replying.declared.replying.Decided.{Decided}
use Rattle.pt_giving.specs.pt_calling.pt_arising.pt_replying.Replying.{decided_events}
use Rattle.pt_giving.specs.pt_calling.pt_arising.pt_replying.Laws.{IfBranches, IsGiven}
use Rattle.pt_giving.proofs.pt_calling.pt_replying.Replies.{replies_as_run}
use Rattle.pt_giving.specs.Giving.{left}
use Rattle.pt_giving.specs.Laws.{BehindResult, goes_on, further}
use Rattle.pt_giving.proofs.Taken as taking
use Rattle.pt_giving.proofs.Gives.{none_stops}
use Rattle.pt_resuming.specs.Resuming.{Place, placed_for, decided_place, laid, given_with, resumed_if}
use Rattle.pt_resuming.specs.Laws.{DecidesSo, IsResuming, ResumesAsRun}

-- what lies above other slots
laid-view : (over slots : List Slot) → slots_view (over ++ slots) ≡ slots_view over ++ slots_view slots
laid-view [] slots = refl
laid-view (x ∷ over) slots = ap (λ k. slots_view (x ∷ []) ++ k) (laid-view over slots)

-- where the value of a block leads that was called for this
module _ (program : Program) (code : CodeObject Value) (i : Ins) (facts : CodeFacts)
    (here : Here Value) (ns : Names) (ss : Slots Value) (st : Stores) (next : Pc)
    (next_is : i.next ≡ next.0) where
  abbrev led_by : For → Value → HeapSuccessor
  led_by w v = resumed program code i facts w ss (record { end = gave v; names = ns }) here st

  abbrev led_at : Place → HeapSuccessor
  led_at p = leads.to (on p.pc.0 (slots_view p.over ++ ss)) st

  abbrev led_if : Place → Option Place → HeapSuccessor
  led_if q (Some p) = led_at p
  led_if q None = led_at q

  abbrev behind_at : Slots Value → ℕ → HeapSuccessor
  behind_at over pc = leads.to (on pc (over ++ ss)) st

  by-truth : (wanted : Bool) (target : Pc) (kept : Option Value) (b : Bool)
      → led_by (aim.Truth wanted target kept) (value.Bool b) ≡ led_at (decided_place wanted target kept next b)
  unfolding then_with
  by-truth true target (Some k) true = refl
  by-truth true target None true = refl
  by-truth true target kept false = ap (λ x. behind_at [] x) next_is
  by-truth false target kept true = ap (λ x. behind_at [] x) next_is
  by-truth false target (Some k) false = refl
  by-truth false target None false = refl

  value-led : (w : For) (v : Value) (p : Place) → placed_for w next v ≡ Some p
      → led_by w v ≡ led_at p
  unfolding then_with or_end
  value-led aim.Result v p e = absurd cc
  value-led aim.Discard v p e =
      ap (λ x. behind_at [] x) next_is ∙ ap (λ o. led_if p o) e
  value-led (aim.Class base cell) v p e = absurd cc
  value-led (aim.Init made) v p e = absurd cc
  value-led aim.Opposite v p e = absurd cc
  value-led (aim.Truth wanted target kept) (value.Bool b) p e =
      by-truth wanted target kept b ∙ ap (λ o. led_if p o) e
  value-led (aim.Truth wanted target kept) value.None p e = absurd cc
  value-led (aim.Truth wanted target kept) (value.Int z) p e = absurd cc
  value-led (aim.Truth wanted target kept) value.Ellipsis p e = absurd cc
  value-led (aim.Truth wanted target kept) value.NotImplemented p e = absurd cc
  value-led (aim.Truth wanted target kept) (value.Obj id) p e = absurd cc
  value-led aim.Iterate v p e =
      ap (λ x. behind_at (C.iterator v ∷ []) x) next_is ∙ ap (λ o. led_if p o) e
  value-led (aim.Item it end) v p e =
      ap (λ x. behind_at (C.value v ∷ C.iterator it ∷ []) x) next_is ∙ ap (λ o. led_if p o) e
  value-led (aim.Unpack before after) v p e = absurd cc
  value-led (aim.Enter exit) v p e =
      ap (λ x. behind_at (C.value v ∷ C.exit exit ∷ []) x) next_is ∙ ap (λ o. led_if p o) e
  value-led (aim.Exit completion) v p e = absurd cc
  value-led (aim.Format spec) v p e = absurd cc
  value-led (aim.Resume g) v p e = absurd cc
  value-led (aim.Answer hook event block act args pending) v p e = absurd cc

module _ (next : Pc) (a : Activation) where
  placed-plain : (w : For) (v : Value) (p : Place) → placed_for w next v ≡ Some p
      → origin_for w a ≡ origin_in a
  placed-plain aim.Result v p e = refl
  placed-plain aim.Discard v p e = refl
  placed-plain (aim.Class base cell) v p e = refl
  placed-plain (aim.Init made) v p e = refl
  placed-plain aim.Opposite v p e = refl
  placed-plain (aim.Truth wanted target kept) v p e = refl
  placed-plain aim.Iterate v p e = refl
  placed-plain (aim.Item it end) v p e = refl
  placed-plain (aim.Unpack before after) v p e = refl
  placed-plain (aim.Enter exit) v p e = refl
  placed-plain (aim.Exit completion) v p e = absurd cc
  placed-plain (aim.Format spec) v p e = refl
  placed-plain (aim.Resume g) v p e = refl
  placed-plain (aim.Answer hook event block act args pending) v p e = refl

module _ {S : Type 0} (program : Program) (code : CodeBlocks Value) (machine : Machine S Value)
    (embed : CodeState Value → S) (ways : Ways S) (is_of : IsOfCode code machine embed ways)
    (minds : Event Value → Bool) (n : ℕ) (m : Held) (q : OpenAsk S Value)
    (u : Tree (Finding Value q.ask)) (i : Ins) (next : Pc) (v : Value) (why : For)
    (called : Option Called) (acts : Bool) (d : Decided) (here : Here Value) (facts : CodeFacts)
    (r : BlockResult Names Value) (s : State S Names Value World)
    (is : IsResuming program code machine embed ways minds n m q u i next v why called acts d here facts r s)
    (block : BlockCode) (known : IsBlockOf program code (block_of m.code.here) block) where
  abbrev Run : Type 0
  Run = State S Names Value World

  abbrev obj : CodeObject Value
  obj = code.object (block_of m.code.here)

  abbrev ss : Slots Value
  ss = slots_view m.code.here.slots

  abbrev st : Stores
  st = store s

  abbrev from : Origin
  from = origin_in m.code.here

  around-there : StandsAround program machine ways m (at (answering q u) s)
  around-there = around-at program code machine embed ways is_of minds n m s (answering q u) is.around

  abbrev result_with : T.End Value → BlockResult Names Value
  result_with x = record { end = x; names = r.names }

  resumes-so : ways.resumed m.code.here facts why r here st
      ≡ led_in embed (resumed program obj i facts why ss r here st)
  resumes-so =
      is_of.resumes program m.code.here facts why r here st
      ∙ ap (λ o. led_in embed (resumed_at code o program m.code.here facts why r here st)) is.there

  abbrev Done : Option Value → HeapSuccessor → Type 0
  Done left l = DoneSo q left (led_in embed l) (by_answer q u)

  leads-value : Done None (resumed program obj i facts why ss (result_with (gave v)) here st)
  leads-value =
      subst (λ y. Done (left_with y) (resumed program obj i facts why ss (result_with y) here st)) is.ended
      (subst (λ l. DoneSo q (left_with r.end) l (by_answer q u)) resumes-so is.leads)

  decided-so : (b : Bool) → DecidesSo b d → (x : Answer Value q.ask)
      → told_by_control {A = Answer Value q.ask} b (got x) ≡ decided_events d
  decided-so true (k, e) x = ap decided_events (sym e)
  decided-so false e x = ap decided_events (sym e)

  module _ (p : Place) (placed : placed_for why next v ≡ Some p) where
    abbrev m2 : Held
    m2 = laid p m

    plain : origin_for why m.code.here ≡ origin_in m.code.here
    plain = placed-plain next m.code.here why v p placed

    around-laid : StandsAround program machine ways m2 (at (answering q u) s)
    around-laid = record {
      at_place = around-there.at_place;
      here = record {
        frame = around-there.here.frame;
        act = around-there.here.act;
        behind_jump = around-there.here.behind_jump;
      };
      openers = around-there.openers;
      generators = around-there.generators;
      world = around-there.world;
      trace = around-there.trace;
      tools = around-there.tools;
      units = around-there.units;
      frames = around-there.frames;
      numbers = around-there.numbers;
      untraced = around-there.untraced;
    }

    done : Done None (led_at program obj i facts here r.names ss st next is.next_is p)
    done =
        subst (λ l. Done None l) (value-led program obj i facts here r.names ss st next is.next_is why v p placed) leads-value

    abbrev x : Answer Value q.ask
    x = done.0

    replied-so : by_answer q u ≡ replies q (got x) None st
    replied-so = done.1.0 ∙ ap (λ o. replies q (got x) o st) (none_stops q.ask x)

    leads-so : q.next (got x) ≡ embed (state_at code AtPlace m2.code.here)
    leads-so =
        done.1.1 ∙ ap (λ k. embed (on p.pc.0 k)) (sym (laid-view p.over m.code.here.slots))

    raises-so : (w : Value) → q.next (raised w)
        ≡ embed (lands_with obj (rows_at code m2.code.here from.pc) from.below (slots_view m2.code.here.slots) w)
    raises-so w =
        taking.raises-so program code machine embed ways is_of minds n m q u i called acts s st around-there is.active_is is.phase why is.waits plain is.there block known w
        ∙ ap embed
        (sym (taking.lands-below program code machine embed ways is_of minds n m q u i called acts s st around-there is.active_is is.phase why is.waits plain is.there block known (slots_view p.over) w)
        ∙ ap (λ k. lands_with obj (rows_at code m2.code.here from.pc) from.below k w) (sym (laid-view p.over m.code.here.slots)))

    given-so : IsGiven program code machine embed ways minds n m2 q x (given_with called d) acts AtPlace (active_in m.code.here.slots) from (at (answering q u) s)
    given-so = record {
      around = around-laid;
      active_is = is.active_is;
      is_act = is.waits.told.is_act;
      call = is.waits.told.call (got x);
      control = is.waits.told.control None (got x) ∙ decided-so (ways.decides m.code.here from) is.decides x;
      destination = subst (λ y. IfBranches d (λ k. machine.destination s.here.frame.block y ≡ k.0)) (sym leads-so) (is.destination p placed);
      leads = leads-so;
      settles = refl;
      lands = λ something w. raises-so w;
    }

  by-place : (o : Option Place) → placed_for why next v ≡ o
      → BehindResult program code machine embed ways minds n s (resumed_if block o called acts d m)
  by-place None none = further m
  by-place (Some p) placed =
      let to = replies_as_run program code machine embed ways is_of minds n (laid p m) q (x p placed) (given_with called d) acts AtPlace (active_in m.code.here.slots) from (at (answering q u) s) (given-so p placed) block known in
      let step = taking.taken program code machine embed ways is_of minds n m q u i called acts s st around-there is.active_is is.phase why is.waits (plain p placed) is.there block known (got (x p placed)) (replied-so p placed) in
      goes_on _ _ to.0
      (taking.behind program code machine embed ways is_of minds n m q u i called acts s st around-there is.active_is is.phase why is.waits (plain p placed) is.there block known _ to.0 step to.1.0)
      to.1.1

pub resumes_as_run : {S : Type 0} (program : Program) (code : CodeBlocks Value)
    (machine : Machine S Value) (embed : CodeState Value → S) (ways : Ways S)
    → IsOfCode code machine embed ways → (minds : Event Value → Bool) (n : ℕ)
    → ResumesAsRun program code machine embed ways minds n
resumes_as_run program code machine embed ways is_of minds n m q u i next v why called acts d here facts r s is block known =
    by-place program code machine embed ways is_of minds n m q u i next v why called acts d here facts r s is block known (placed_for why next v) refl
