-- Results are given as in a run.
use Rattle.std.proofs.Common.{◌≡◌, ◌∙◌, ℕ, List, [], ◌∷◌, Bool, true, false, Option, Some, None, refl, ap, subst}
use Rattle.std.specs.Prelude.{if◌then◌else◌}
use Rattle.pt_base.specs.declared.numbers.Pc.{Pc}
use Rattle.pt_heap.specs.declared.value.Value.{Value}
use Rattle.pt_code.specs.View.{Ins}
use Rattle.pt_frames.specs.declared.activation.Activation.{Activation}
use Rattle.pt_frames.specs.Slots.{active_in}
use Rattle.sem_control.specs.control.Turn as T
use Rattle.sem_control.specs.control.Turn.{Ask, Reply, Answer, got, raised}
use Rattle.sem_code.specs.slots.Slots.{Slots, State as CodeState}
use Rattle.sem_code.specs.slots.CodeObject.{CodeObject}
use Rattle.sem_code.specs.slots.Slots as C
use Rattle.sem_code.specs.slots.Landing.{land}
use Rattle.sem_code_machine.specs.code_machine.CodeBlocks.{CodeBlocks}
use Rattle.sem_run.specs.run.Machine.{Machine}
use Rattle.sem_run.specs.run.Events.{Event}
use Rattle.sem_run.specs.run.Host.{Host, Here, BlockResult, Finding}
use Rattle.sem_run.specs.run.State.{State, OpenAsk, answering, at, store}
use Rattle.sem_run.specs.transitions.Transitions.{by_answer, replies}
use Rattle.sem_run.specs.transitions.Successors as leads
use Rattle.pt_calling.specs.pt_arising.pt_opening.pt_host.World.{Names, World, Stores, CodeFacts, Program}
use Rattle.pt_calling.specs.pt_arising.pt_opening.pt_host.Trees.{Tree, then_with}
use Rattle.pt_calling.specs.pt_arising.pt_opening.pt_host.HeapHost.{heap_host}
use Rattle.pt_calling.specs.pt_machine_state.pt_code_facts.sem_rows.heap_rows.Leads.{HeapSuccessor, giving}
use Rattle.pt_calling.specs.pt_machine_state.pt_code_facts.sem_rows.heap_rows.Told.{resumed}
use Rattle.pt_calling.specs.pt_machine_state.pt_code_facts.sem_rows.heap_rows.Views.{slots_view}
use Rattle.pt_pendings.specs.declared.reply.End.{End}
use Rattle.pt_pendings.specs.declared.reply.End.TheVariants.{Gave, LeftBy}
use Rattle.pt_frames.specs.declared.purpose.Purpose.{Purpose as For}
use Rattle.pt_frames.specs.declared.purpose.Purpose.TheVariants as aim
use Rattle.law_leads.specs.Leads.{left_with}
use Rattle.pt_calling.specs.pt_machine_state.declared.blocks.BlockCode.{BlockCode}
use Rattle.pt_calling.specs.pt_machine_state.Blocks.{IsBlockOf}
use Rattle.pt_calling.specs.pt_arising.pt_opening.pt_purposes.declared.purpose.Called.{Called}
use Rattle.pt_calling.specs.pt_arising.pt_opening.pt_purposes.Seen.{block_of}
use Rattle.pt_calling.specs.pt_arising.pt_opening.pt_purposes.Asks.{led_in, stop_of, DoneSo}
use Rattle.pt_calling.specs.pt_arising.pt_opening.pt_purposes.Openers.{Ways, origin_in, origin_for}
use Rattle.pt_calling.specs.pt_arising.pt_opening.pt_run_state.declared.machine.Machine.{Machine as Held}
use Rattle.pt_calling.specs.pt_arising.pt_opening.pt_run_state.Stands.{StandsAround}
use Rattle.pt_calling.specs.pt_arising.pt_replying.pt_turning.Ways.{IsOfCode, resumed_by}
use Rattle.pt_calling.proofs.pt_turning.Turns.{around-at}
use Rattle.pt_calling.specs.pt_arising.Arising.{arisen}
use Rattle.pt_pendings.specs.Views.{end_view}
use Rattle.pt_giving.specs.declared.giving.Received.TheVariants.{Further}
use Rattle.pt_giving.specs.Giving.{ReceivedSo, goes, value_behind, arises_there, given_if, received}
use Rattle.pt_giving.proofs.Taken.{gives, arises}
use Rattle.pt_giving.specs.Laws.{IsReceiving, BehindResult, goes_on, further, GivesAsRun}

-- where a value and an exception lead that a block gives
module _ (program : Program) (code : CodeObject Value) (i : Ins) (facts : CodeFacts)
    (here : Here Value) (ns : Names) (ss : Slots Value) (st : Stores) where
  abbrev led_by : For → T.End Value → HeapSuccessor
  led_by w e = resumed program code i facts w ss (record { end = e; names = ns }) here st

  abbrev led_to : (otherwise : Value) → Option Value → HeapSuccessor
  led_to x (Some y) = leads.to (giving code i ss y) st
  led_to x None = leads.to (giving code i ss x) st

  value-led : (w : For) (v x : Value) → value_behind w v ≡ Some x
      → led_by w (T.gave v) ≡ leads.to (giving code i ss x) st
  unfolding then_with
  value-led aim.Result v x e = ap (λ o. led_to x o) e
  value-led aim.Discard v x e = absurd cc
  value-led (aim.Class base cell) v x e = absurd cc
  value-led (aim.Init made) v x e = ap (λ o. led_to x o) e
  value-led aim.Opposite v x e = ap (λ o. led_to x o) e
  value-led (aim.Truth wanted target kept) v x e = absurd cc
  value-led aim.Iterate v x e = absurd cc
  value-led (aim.Item it end) v x e = absurd cc
  value-led (aim.Unpack before after) v x e = absurd cc
  value-led (aim.Enter exit) v x e = absurd cc
  value-led (aim.Exit completion) v x e = absurd cc
  value-led (aim.Format spec) v x e = absurd cc
  value-led (aim.Resume g) v x e = ap (λ o. led_to x o) e
  value-led (aim.Answer hook event block act args pending) v x e = ap (λ o. led_to x o) e

  raise-led : (w : For) (v : Value) → arises_there w ≡ true
      → led_by w (T.left_by v) ≡ leads.arises v (land code i.rows (C.raise v) ss) st
  unfolding then_with
  raise-led aim.Result v e = refl
  raise-led aim.Discard v e = refl
  raise-led (aim.Class base cell) v e = refl
  raise-led (aim.Init made) v e = refl
  raise-led aim.Opposite v e = refl
  raise-led (aim.Truth wanted target kept) v e = refl
  raise-led aim.Iterate v e = refl
  raise-led (aim.Item it end) v e = absurd cc
  raise-led (aim.Unpack before after) v e = refl
  raise-led (aim.Enter exit) v e = refl
  raise-led (aim.Exit completion) v e = absurd cc
  raise-led (aim.Format spec) v e = refl
  raise-led (aim.Resume g) v e = refl
  raise-led (aim.Answer hook event block act args pending) v e = refl

module _ (a : Activation) where
  value-plain : (w : For) (v x : Value) → value_behind w v ≡ Some x
      → origin_for w a ≡ origin_in a
  value-plain aim.Result v x e = refl
  value-plain aim.Discard v x e = refl
  value-plain (aim.Class base cell) v x e = refl
  value-plain (aim.Init made) v x e = refl
  value-plain aim.Opposite v x e = refl
  value-plain (aim.Truth wanted target kept) v x e = refl
  value-plain aim.Iterate v x e = refl
  value-plain (aim.Item it end) v x e = refl
  value-plain (aim.Unpack before after) v x e = refl
  value-plain (aim.Enter exit) v x e = refl
  value-plain (aim.Exit completion) v x e = absurd cc
  value-plain (aim.Format spec) v x e = refl
  value-plain (aim.Resume g) v x e = refl
  value-plain (aim.Answer hook event block act args pending) v x e = refl

  raise-plain : (w : For) → arises_there w ≡ true → origin_for w a ≡ origin_in a
  raise-plain aim.Result e = refl
  raise-plain aim.Discard e = refl
  raise-plain (aim.Class base cell) e = refl
  raise-plain (aim.Init made) e = refl
  raise-plain aim.Opposite e = refl
  raise-plain (aim.Truth wanted target kept) e = refl
  raise-plain aim.Iterate e = refl
  raise-plain (aim.Item it end) e = refl
  raise-plain (aim.Unpack before after) e = refl
  raise-plain (aim.Enter exit) e = refl
  raise-plain (aim.Exit completion) e = absurd cc
  raise-plain (aim.Format spec) e = refl
  raise-plain (aim.Resume g) e = refl
  raise-plain (aim.Answer hook event block act args pending) e = refl

-- no exception has ended an iterator behind a block that gave a value
pub none_stops : (a : Ask Value) (x : Answer Value a) → stop_of a x None ≡ None
none_stops (T.next_of i) (Some v) = refl
none_stops (T.next_of i) None = refl
none_stops (T.delegate i r) x = refl
none_stops (T.seek a) x = refl
none_stops (T.deed a) x = refl
none_stops (T.leave a) x = refl
none_stops (T.throw a) x = refl
none_stops (T.test a) x = refl
none_stops (T.iter_of a) x = refl
none_stops (T.enter a) x = refl
none_stops (T.unpack a n t) x = refl

module _ {S : Type 0} (program : Program) (code : CodeBlocks Value) (machine : Machine S Value)
    (embed : CodeState Value → S) (ways : Ways S) (is_of : IsOfCode code machine embed ways)
    (minds : Event Value → Bool) (n : ℕ) (m : Held) (q : OpenAsk S Value)
    (u : Tree (Finding Value q.ask)) (i : Ins) (next : Pc) (e : End) (why : For)
    (called : Option Called) (acts : Bool) (here : Here Value) (facts : CodeFacts)
    (r : BlockResult Names Value) (s : State S Names Value World)
    (is : IsReceiving program code machine embed ways minds n m q u i next e why called acts here facts r s)
    (block : BlockCode) (known : IsBlockOf program code (block_of m.code.here) block) where
  abbrev Run : Type 0
  Run = State S Names Value World

  abbrev host : Host Names Value World
  host = heap_host program

  abbrev obj : CodeObject Value
  obj = code.object (block_of m.code.here)

  abbrev ss : Slots Value
  ss = slots_view m.code.here.slots

  around-there : StandsAround program machine ways m (at (answering q u) s)
  around-there = around-at program code machine embed ways is_of minds n m s (answering q u) is.around

  -- what is done on the result, by how the block has ended
  abbrev result_with : T.End Value → BlockResult Names Value
  result_with x = record { end = x; names = r.names }

  abbrev st : Stores
  st = store s

  resumes-so : ways.resumed m.code.here facts why r here st
      ≡ led_in embed (resumed program obj i facts why ss r here st)
  resumes-so =
      is_of.resumes program m.code.here facts why r here st
      ∙ ap (λ o. led_in embed (resumed_by code o program m.code.here facts why r here st)) is.there

  abbrev Done : Option Value → HeapSuccessor → Type 0
  Done left l = DoneSo q left (led_in embed l) (by_answer q u)

  leads-with : (x : T.End Value) → r.end ≡ x
      → Done (left_with x) (resumed program obj i facts why ss (result_with x) here st)
  leads-with x same =
      subst (λ y. Done (left_with y) (resumed program obj i facts why ss (result_with y) here st)) same
      (subst (λ l. DoneSo q (left_with r.end) l (by_answer q u)) resumes-so is.leads)

  abbrev Behind : ReceivedSo → Type 0
  Behind x = BehindResult program code machine embed ways minds n s x

  of-value : (v : Value) → r.end ≡ T.gave v → (o : Option Value) → value_behind why v ≡ o
      → Behind (given_if block next o called acts m)
  of-value v same None none = further m
  of-value v same (Some w) some =
      let l = subst (λ k. Done None k) (value-led program obj i facts here r.names ss st why v w some)
      (leads-with (T.gave v) same) in
      let e = l.1.0 ∙ ap (λ o. replies q (got l.0) o st) (none_stops q.ask l.0) in
      let to = gives program code machine embed ways is_of minds n m q u i called acts s st around-there is.active_is is.phase why is.waits (value-plain m.code.here why v w some) is.there block known
      next is.next_is is.decides w l.0 e l.1.1 in
      goes_on _ _ to.0 to.1.0 to.1.1

  of-raise : (v : Value) → r.end ≡ T.left_by v → (b : Bool) → arises_there why ≡ b
      → Behind (if b then goes (arisen block v called acts (active_in m.code.here.slots) m) else record { received = Further; machine = m })
  of-raise v same false elsewhere = further m
  of-raise v same true there =
      let l = subst (λ k. Done (Some v) k) (raise-led program obj i facts here r.names ss st why v there)
      (leads-with (T.left_by v) same) in
      let to = arises program code machine embed ways is_of minds n m q u i called acts s st around-there is.active_is is.phase why is.waits (raise-plain m.code.here why there) is.there block known v l.0 in
      goes_on _ _ to.0 to.1.0 to.1.1

  by-end : (x : End) → r.end ≡ end_view x → Behind (received block next x why called acts m)
  by-end (Gave v) same = of-value v same (value_behind why v) refl
  by-end (LeftBy v) same = of-raise v same (arises_there why) refl

pub gives_as_run : {S : Type 0} (program : Program) (code : CodeBlocks Value)
    (machine : Machine S Value) (embed : CodeState Value → S) (ways : Ways S)
    → IsOfCode code machine embed ways → (minds : Event Value → Bool) (n : ℕ)
    → GivesAsRun program code machine embed ways minds n
gives_as_run program code machine embed ways is_of minds n m q u i next e why called acts here facts r s is block known =
    by-end program code machine embed ways is_of minds n m q u i next e why called acts here facts r s is block known e is.ended
