-- A block opens above the newest activation, or in place of one too many an exception arises.
use Rattle.std.proofs.Common.{inl, ◌≡◌, ◌∙◌, suc, ◌+◌, ◌<◌, ◌≤◌, List, [], ◌∷◌, Bool, true, false, Option, Some, None, refl, sym, ap, subst, length, arith}
use Rattle.std.proofs.lemmas.Bool.Decides.{nat_tests}
use Rattle.std.specs.Prelude.{codes, if◌then◌else◌}
use Rattle.pt_base.specs.declared.numbers.Pc.{Pc}
use Rattle.pt_base.specs.declared.numbers.Line.{Line}
use Rattle.pt_base.specs.declared.numbers.BlockId.{BlockId}
use Rattle.pt_base.specs.declared.what.What.{What}
use Rattle.pt_base.specs.declared.what.What.TheVariants.{Heap}
use Rattle.pt_heap.specs.declared.value.Value.{Value}
use Rattle.pt_frames.specs.Slots.{active_in}
use Rattle.sem_code.specs.comp_expr.Law.{active_at}
use Rattle.pt_heap.specs.declared.object.Object.{Object}
use Rattle.pt_bind.specs.declared.arguments.Locals.{Locals}
use Rattle.pt_frames.specs.declared.activations.OpenActivation.{OpenActivation}
use Rattle.pt_frames.specs.declared.purpose.Purpose.{Purpose}
use Rattle.sem_control.specs.control.Turn.{left_by}
use Rattle.sem_code.specs.slots.Slots.{State, on, iterator}
use Rattle.sem_code.specs.slots.Machine as slots
use Rattle.sem_run.specs.run.Machine as M
use Rattle.sem_run.specs.run.State.{most_activations}
use Rattle.sem_run.specs.run.Source.{or_null}
use Rattle.sem_run.specs.run.Events as Told
use Rattle.sem_run.specs.run.Host as H
use Rattle.sem_run.specs.run.Host.{Opening, BlockResult, Store, Made, made, beyond}
use Rattle.pt_code_facts.specs.sem_rows.pt_host.World.{Names, World, Program, Allotted, IsAllotted}
use Rattle.pt_code_facts.specs.sem_rows.pt_host.Errors.{error_saying, in_heap_of}
use Rattle.pt_code_facts.specs.sem_rows.pt_host.HeapHost.{heap_host}
use Rattle.pt_code_facts.specs.sem_rows.pt_host.declared.places.TheConstants.{RECURSION_ERROR}
use Rattle.sem_run.specs.transitions.Successors.{Successor}
use Rattle.pt_bare_runs.specs.Strides as bare
use Rattle.pt_bare_runs.specs.Strides.{logged, open_above, open_or_fail, fail_opening, is_full, store, lead}
use Rattle.sem_code_machine.specs.code_machine.CodeBlocks.{CodeBlocks, machine, start_of}
use Rattle.pt_code_facts.specs.sem_rows.declared.heap_rows.progress.Progress.TheVariants as progress
use Rattle.pt_code_facts.specs.sem_rows.heap_rows.Leads.{HasHeapTruths}
use Rattle.pt_code_facts.specs.sem_rows.heap_rows.Told.{block_id, opening_of}
use Rattle.pt_code_facts.specs.sem_rows.heap_rows.Views.{slots_view, world_view}
use Rattle.pt_machine_state.specs.declared.blocks.BlockCode.{BlockCode}
use Rattle.pt_machine_state.specs.declared.blocks.Blocks.{Blocks}
use Rattle.pt_machine_state.specs.declared.machine.Machine.{Machine}
use Rattle.pt_machine_state.specs.declared.machine.MachineEnd.TheVariants as end
use Rattle.pt_machine_state.specs.declared.machine.Stride.{Stride}
use Rattle.pt_machine_state.specs.declared.machine.Stride.TheVariants as stride
use Rattle.pt_machine_state.specs.declared.writes.Writes.{Writes}
use Rattle.pt_machine_state.specs.Writing.{Adds}
use Rattle.pt_machine_state.specs.Blocks.{block_at, IsBlockOf}
use Rattle.pt_machine_state.specs.Views.{Bare, Waits, Beside, AllWait, none, more, WaitsFor, active_of, block_of, state_of, run_in, run_of, led_to}
use Rattle.pt_machine_state.specs.Strode.{Strode}
use Rattle.pt_machine_state.specs.Changes.{behind_block, end_in, left_at, left_events, opened, slots_at_start, events_of, visible_line}
use Rattle.pt_machine_state.specs.Applies.{Asking, Stands, Applied, run_at, here_at}
use Rattle.pt_machine_state.proofs.ApplyLemmas.{logged-start}
use Rattle.pt_machine_state.proofs.FailLemmas.{active-here, saying-heap, grown, stands-grown}
use Rattle.pt_machine_state.proofs.LeftLemmas.{left-led}
use Rattle.pt_machine_state.proofs.LineLemmas.{outside-led}

pub count-waiting : (program : Program) (code : CodeBlocks Value) (above : M.BlockId) (os : List OpenActivation) (ws : List Waits) → AllWait program code above os ws → length ws ≡ length os
count-waiting program code _ _ _ (none b) = refl
count-waiting program code _ _ _ (more b o w os ws waits rest) = ap suc (count-waiting program code (block_of o.activation) os ws rest)

-- a block begins where its code does

start-is : (code : CodeBlocks Value) (b : M.BlockId) (it : Bool) → code.iterates b ≡ it → HasHeapTruths (code.object b) → start_of code b None ≡ on 0 (slots_view (slots_at_start it))
start-is code b it e truths = ap (λ x. if x then slots.start_generator (or_null (code.object b).null None) else slots.start) e ∙ by it
  where
    by : (x : Bool) → (if x then slots.start_generator (or_null (code.object b).null None) else slots.start) ≡ on 0 (slots_view (slots_at_start x))
    by true = ap (λ v. on 0 (iterator v ∷ [])) truths.null
    by false = refl

module _ (blocks : Blocks) (block : BlockCode) (next : Pc) (m : Machine) (w : Writes) (b : BlockId) (hidden : Bool) (ls : Locals) (why : Purpose) where
  abbrev callee : BlockCode
  callee = block_at blocks (block_id b hidden)

  abbrev above : Machine
  above = opened callee.iterates b hidden ls why m

  module _ (q : Asking) (stands : Stands blocks block next m q) where
    abbrev rest : BlockResult Names Value → Store Names World → Successor (State Value) Names Value World
    rest r st = led_to q.program q.code (block_id b hidden) why (here_at q m) (q.code.object (block_of m.here)) q.ins (slots_view m.here.slots) r st

    abbrev o : Opening Names Value
    o = opening_of q.program (block_id b hidden) ls

    abbrev on_with : BlockResult Names Value → Bare → bare.Stride (State Value) Names Value World
    on_with r z = lead (machine q.code) (heap_host q.program) q.ask (rest r (store z)) z

    abbrev the_waiting : Waits
    the_waiting = record { activation = (run_at q m).here; ask = q.ask; leads = rest }

    abbrev beside : Beside
    beside = record { act = 0; waiting = the_waiting ∷ q.beside.waiting }

    callee-known : IsBlockOf q.program q.code (block_id b hidden) callee
    callee-known = stands.blocks_known (block_id b hidden)

    abbrev the_open : OpenActivation
    the_open = record { activation = m.here; why = why }

    waits-here : active_at q.before ≡ active_in m.here.slots → WaitsFor q.program q.code (block_id b hidden) the_open the_waiting q.beside.waiting
    waits-here active = record { state = q.before; act = q.beside.act; seen = refl; active = active; ins = q.ins; there = stands.there; leads = refl; plain = stands.plain; placed = stands.placed }

    opens-above : open_above (machine q.code) (heap_host q.program) q.ask rest o (run_at q m) ≡ run_of q.program above beside
    opens-above =
        ap (λ c. run_in q.program c above beside) (start-is q.code (block_id b hidden) callee.iterates callee-known.iterates callee-known.truths
        ∙ ap (λ s. state_of s above.here) (sym stands.at_place))

    is-room : length m.frames.activations + 1 < most_activations → is_full (run_at q m) ≡ false
    is-room room = grind (arith, nat_tests, count-waiting q.program q.code (block_of m.here) m.frames.activations q.beside.waiting stands.waiting)

    abbrev Done : Stride → Machine → Writes → bare.Stride (State Value) Names Value World → Type 0
    Done r new w1 d = Strode q.program q.code d r w new w1

    opened-done : (w1 : Writes) → active_at q.before ≡ active_in m.here.slots → Adds w w1 (events_of (codes "call") [] callee above)
        → Done stride.Goes above w1 (bare.goes (logged (machine q.code) (heap_host q.program) Told.starts (open_above (machine q.code) (heap_host q.program) q.ask rest o (run_at q m)))
        (open_above (machine q.code) (heap_host q.program) q.ask rest o (run_at q m)))
    opened-done w1 active adds = subst (λ t. Done stride.Goes above w1 (bare.goes (logged (machine q.code) (heap_host q.program) Told.starts t) t)) (sym opens-above) (
      refl,
      (
        subst (λ ws. Adds w w1 ws) (sym (logged-start q.program q.code callee above beside (state_of above.standing above.here) callee-known)) adds,
        (beside, (inl refl, (more (block_id b hidden) the_open the_waiting m.frames.activations q.beside.waiting (waits-here active) stands.waiting, inl refl))),
      ),
    )

  pub applied_calls : (w1 : Writes) → length m.frames.activations + 1 < most_activations → Adds w w1 (events_of (codes "call") [] callee above)
      → Applied blocks block next (progress.Calls b hidden ls why) stride.Goes m w above w1
  unfolding Applied
  applied_calls w1 room adds q stands active s stored =
      subst (λ t. Done q stands stride.Goes above w1 (open_or_fail (machine q.code) (heap_host q.program) q.ask (rest q stands) (on_with q stands) (o q stands) t)) (sym stored)
      (subst (λ x. Done q stands stride.Goes above w1 (if x then fail_opening (machine q.code) (heap_host q.program) (on_with q stands) (o q stands) ((heap_host q.program).makes H.too_deep (here_at q m) (run_at q m).world) (run_at q m)
      else bare.goes (logged (machine q.code) (heap_host q.program) Told.starts (open_above (machine q.code) (heap_host q.program) q.ask (rest q stands) (o q stands) (run_at q m)))
      (open_above (machine q.code) (heap_host q.program) q.ask (rest q stands) (o q stands) (run_at q m)))) (sym (is-room q stands room))
      (opened-done q stands w1 active adds))

  -- one too many is a RecursionError at the call
  module _ (q : Asking) (stands : Stands blocks block next m q) where
    is-full : most_activations ≤ length m.frames.activations + 1 → is_full (run_at q m) ≡ true
    is-full full = grind (arith, nat_tests, count-waiting q.program q.code (block_of m.here) m.frames.activations q.beside.waiting stands.waiting)

    abbrev too_many : Option Value → Allotted
    too_many active = error_saying RECURSION_ERROR (codes "too many activations") None active m.heap

    abbrev fails : Made Value World → bare.Stride (State Value) Names Value World
    fails x = fail_opening (machine q.code) (heap_host q.program) (on_with q stands) (o q stands) x (run_at q m)

    -- the machine with the exception, where that left the block which wasn't opened
    abbrev failed : (v : Value) → List Object → Machine
    failed v h = left_at block v (end_in why v h) (behind_block why (grown blocks block next m w h))

    abbrev tells : (v : Value) → List Object → Writes → Type 0
    tells v h w1 = Adds w w1 (left_events v block (end_in why v h) (behind_block why (grown blocks block next m w h)))

    fails-made : (t : Allotted) (v : Value) (h : List Object) (w1 : Writes) → IsAllotted t (Some v) h → tells v h w1
        → Strode q.program q.code (fails (in_heap_of (world_view m.frames m.heap) t)) stride.Goes w (failed v h) w1
    fails-made (made u k) v h w1 (e, f) adds =
        let same : u ≡ v = cc in
        subst (λ x. Strode q.program q.code (fails (made x (world_view m.frames k))) stride.Goes w (failed v h) w1) (sym same)
        (subst (λ j. Strode q.program q.code (fails (made v (world_view m.frames j))) stride.Goes w (failed v h) w1) f
        (left-led blocks block next (grown blocks block next m w h) w why v w1 adds q (stands-grown blocks block next m w h q stands) (q.program.facts (block_id b hidden)) (o q stands).names
        (run_at q (grown blocks block next m w h)) refl))
    fails-made (beyond what) v h w1 e adds = absurd (cc)

    fails-full : (t : Allotted) (h : List Object) (new : Machine) (line : Line) → IsAllotted t None h → ((what : What) → t ≡ beyond what → what ≡ Heap) → new.units ≡ m.units
        → line.0 ≡ visible_line blocks m → Strode q.program q.code (fails (in_heap_of (world_view m.frames m.heap) t)) (stride.Ends (end.Outside Heap line)) w new w
    fails-full (made u k) h new line (e, f) only same is = absurd (cc)
    fails-full (beyond what) h new line e only same is =
        subst (λ x. Strode q.program q.code (fails (beyond x)) (stride.Ends (end.Outside Heap line)) w new w) (sym (only what refl))
        (outside-led blocks block next m new w Heap line q stands same is (run_at q m) refl)

  pub fails_to_open : (v : Value) (h : List Object) (w1 : Writes) → most_activations ≤ length m.frames.activations + 1
      → IsAllotted (error_saying RECURSION_ERROR (codes "too many activations") None (active_of m) m.heap) (Some v) h
      → Adds w w1 (left_events v block (end_in why v h) (behind_block why (grown blocks block next m w h)))
      → Applied blocks block next (progress.Calls b hidden ls why) stride.Goes m w (left_at block v (end_in why v h) (behind_block why (grown blocks block next m w h))) w1
  unfolding Applied
  fails_to_open v h w1 full given adds q stands active s stored =
      subst (λ t. Done q stands stride.Goes (left_at block v (end_in why v h) (behind_block why (grown blocks block next m w h))) w1 (open_or_fail (machine q.code) (heap_host q.program) q.ask (rest q stands) (on_with q stands) (o q stands) t)) (sym stored)
      (subst (λ x. Done q stands stride.Goes (left_at block v (end_in why v h) (behind_block why (grown blocks block next m w h))) w1 (if x then fails q stands ((heap_host q.program).makes H.too_deep (here_at q m) (run_at q m).world)
      else bare.goes (logged (machine q.code) (heap_host q.program) Told.starts (open_above (machine q.code) (heap_host q.program) q.ask (rest q stands) (o q stands) (run_at q m)))
      (open_above (machine q.code) (heap_host q.program) q.ask (rest q stands) (o q stands) (run_at q m)))) (sym (is-full q stands full))
      (fails-made q stands (too_many q stands (here_at q m).active) v h w1
      (subst (λ x. IsAllotted (too_many q stands x) (Some v) h) (sym (active-here blocks block next m q stands active)) given) adds))

  pub no_room_to_fail : (h : List Object) (new : Machine) (line : Line) → most_activations ≤ length m.frames.activations + 1
      → IsAllotted (error_saying RECURSION_ERROR (codes "too many activations") None (active_of m) m.heap) None h → new.units ≡ m.units → line.0 ≡ visible_line blocks m
      → Applied blocks block next (progress.Calls b hidden ls why) (stride.Ends (end.Outside Heap line)) m w new w
  unfolding Applied
  no_room_to_fail h new line full given same is q stands active s stored =
      subst (λ t. Done q stands (stride.Ends (end.Outside Heap line)) new w (open_or_fail (machine q.code) (heap_host q.program) q.ask (rest q stands) (on_with q stands) (o q stands) t)) (sym stored)
      (subst (λ x. Done q stands (stride.Ends (end.Outside Heap line)) new w (if x then fails q stands ((heap_host q.program).makes H.too_deep (here_at q m) (run_at q m).world)
      else bare.goes (logged (machine q.code) (heap_host q.program) Told.starts (open_above (machine q.code) (heap_host q.program) q.ask (rest q stands) (o q stands) (run_at q m)))
      (open_above (machine q.code) (heap_host q.program) q.ask (rest q stands) (o q stands) (run_at q m)))) (sym (is-full q stands full))
      (fails-full q stands (too_many q stands (here_at q m).active) h new line
      (subst (λ x. IsAllotted (too_many q stands x) None h) (sym (active-here blocks block next m q stands active)) given)
      (λ what. saying-heap RECURSION_ERROR (codes "too many activations") None (here_at q m).active m.heap what) same is))
