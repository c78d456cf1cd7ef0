-- A block ends: its result goes to the activation that waits for it, or the run ends.
use Rattle.std.proofs.Common.{◌≡◌, ◌∙◌, ℕ, List, [], ◌∷◌, ◌++◌, Some, refl, sym, ap, subst, append-nil}
use Rattle.std.specs.Prelude.{codes}
use Rattle.pt_base.specs.declared.numbers.Pc.{Pc}
use Rattle.pt_base.specs.declared.numbers.Line.{Line}
use Rattle.pt_base.specs.declared.what.What.TheVariants.{Exit}
use Rattle.pt_heap.specs.declared.value.Value.{Value}
use Rattle.pt_frames.specs.declared.activation.Activation.{Activation}
use Rattle.pt_frames.specs.declared.activations.OpenActivation.{OpenActivation}
use Rattle.pt_frames.specs.declared.purpose.Purpose.{Purpose}
use Rattle.sem_control.specs.control.Turn.{End, gave, left_by}
use Rattle.sem_code.specs.slots.Slots.{State, off}
use Rattle.pt_places.specs.declared.places.Place.{Place}
use Rattle.pt_places.specs.PlaceTable.{entry, place_at, place_of}
use Rattle.sem_run.specs.transitions.Successors.{Successor}
use Rattle.sem_run.specs.run.Machine.{BlockId}
use Rattle.sem_run.specs.run.Host as H
use Rattle.sem_run.specs.run.Host.{Leaving, BlockResult, Store}
use Rattle.sem_run.specs.run.Run as run
use Rattle.pt_code_facts.specs.sem_rows.pt_host.World.{Names, World, Program}
use Rattle.pt_code_facts.specs.sem_rows.pt_host.HeapHost.{heap_host}
use Rattle.pt_code_facts.specs.sem_rows.pt_host.Leaving.{leaving}
use Rattle.pt_bare_runs.specs.Strides as bare
use Rattle.pt_bare_runs.specs.Strides.{outside_at, behind, close, end_by_exception, end_logged, lead, return_to, store, stride as stride_of}
use Rattle.sem_code_machine.specs.code_machine.CodeBlocks.{CodeBlocks, machine}
use Rattle.pt_code_facts.specs.sem_rows.heap_rows.Views.{names_view, slots_view, world_view}
use Rattle.pt_machine_state.specs.declared.blocks.BlockCode.{BlockCode}
use Rattle.pt_machine_state.specs.declared.blocks.Blocks.{Blocks}
use Rattle.pt_machine_state.specs.declared.machine.Machine.{Machine}
use Rattle.pt_machine_state.specs.declared.machine.MachineEnd.{MachineEnd}
use Rattle.pt_machine_state.specs.declared.machine.MachineEnd.TheVariants as end
use Rattle.pt_machine_state.specs.declared.machine.Stride.{Stride}
use Rattle.pt_machine_state.specs.declared.machine.Stride.TheVariants as stride
use Rattle.pt_machine_state.specs.declared.machine.Standing.{Standing}
use Rattle.pt_machine_state.specs.declared.machine.Standing.TheVariants as standing
use Rattle.pt_machine_state.specs.declared.writes.Writes.{Writes}
use Rattle.pt_machine_state.specs.Writing.{Adds}
use Rattle.pt_machine_state.specs.Blocks.{AreBlocksOf, IsBlockOf, block_at}
use Rattle.pt_machine_state.specs.Views.{Bare, Waits, Beside, WaitsFor, AllWait, HasOwnNames, none, more, block_of, state_of, run_in, run_of, led_to, stores_of}
use Rattle.pt_machine_state.specs.Strode.{Strode, left}
use Rattle.pt_machine_state.specs.Changes.{behind_block, end_in, events_of, left_at, left_events, suspended, visible_line}
use Rattle.pt_machine_state.specs.Applies.{Asking, Stands, Closes, LedTo, Takes, here_at, run_at}
use Rattle.pt_machine_state.proofs.WriteLemmas.{behind-strode}
use Rattle.pt_machine_state.proofs.ApplyLemmas.{logged-return, logged-unwind}
use Rattle.pt_machine_state.proofs.LeftLemmas.{left-led}
use Rattle.pt_machine_state.proofs.LineLemmas.{visible-line}

some-same : {A : Type 0} (a b : A) → Some a ≡ Some b → a ≡ b
some-same a b e = cc

module _ (program : Program) (code : CodeBlocks Value) (blocks : Blocks) (known : AreBlocksOf program code blocks) where
  -- the module's end, of a run with nothing that waits

  left-is : (m : Machine) (x : Beside) (c : State Value) (v : Value) (l : Leaving) (line : ℕ) → line ≡ bare.visible_line (machine code) (heap_host program) (run_in program c m x)
      → end_by_exception (machine code) (heap_host program) v l (run_in program c m x) ≡ left l v line (world_view m.frames m.heap)
  left-is m x c v (H.exits n t) line is = refl
  left-is m x c v H.exits_oddly line is = ap (λ k. outside_at Exit k) (sym is)
  left-is m x c v (H.fails es) line is = refl

  abbrev end_events : BlockCode → Machine → List run.Write
  end_events block m = events_of (codes "return") [] block m

  abbrev end_by : End Value → Line → MachineEnd
  end_by (gave v) line = end.Done
  end_by (left_by v) line = end.Left v line

  end-logged : (m : Machine) (x : Beside) (c : State Value) (e : End Value)
      → end_logged (machine code) (heap_host program) e (run_in program c m x) ≡ end_events (block_at blocks (block_of m.here)) m
  end-logged m x c (gave v) = logged-return program code (block_at blocks (block_of m.here)) m x c (known (block_of m.here)) v
  end-logged m x c (left_by v) = logged-unwind program code (block_at blocks (block_of m.here)) m x c (known (block_of m.here)) v

  adds-ended : (m : Machine) (x : Beside) (w w1 : Writes) (c : State Value) (e : End Value) → Adds w w1 (end_events (block_at blocks (block_of m.here)) m)
      → Adds w w1 (end_logged (machine code) (heap_host program) e (run_in program c m x) ++ [])
  adds-ended m x w w1 c e adds = subst (λ ws. Adds w w1 ws) (sym (append-nil _ ∙ end-logged m x c e)) adds

  module-ends : (m : Machine) (x : Beside) (w w1 : Writes) (e : End Value) (line : Line) → x.waiting ≡ [] → AllWait program code (block_of m.here) m.frames.activations x.waiting
      → state_of m.standing m.here ≡ off e → Adds w w1 (end_events (block_at blocks (block_of m.here)) m) → line.0 ≡ visible_line blocks m
      → (n : ℕ) → Strode program code (stride_of (machine code) (heap_host program) n (run_of program m x)) (stride.Ends (end_by e line)) w m w1
  module-ends m x w w1 (gave v) line alone waits is adds at n =
      subst (λ c. Strode program code (stride_of (machine code) (heap_host program) n (run_in program c m x)) (stride.Ends end.Done) w m w1) (sym is)
      (subst (λ os. Strode program code (behind (end_logged (machine code) (heap_host program) (gave v) (run_in program (off (gave v)) m x)) (close (machine code) (heap_host program) (gave v) os (run_in program (off (gave v)) m x))) (stride.Ends end.Done) w m w1) (sym alone)
      (end.Done, (refl, (adds-ended m x w w1 (off (gave v)) (gave v) adds, (refl, refl)))))
  module-ends m x w w1 (left_by v) line alone waits is adds at n =
      subst (λ c. Strode program code (stride_of (machine code) (heap_host program) n (run_in program c m x)) (stride.Ends (end.Left v line)) w m w1) (sym is)
      (subst (λ os. Strode program code (behind (end_logged (machine code) (heap_host program) (left_by v) (run_in program (off (left_by v)) m x)) (close (machine code) (heap_host program) (left_by v) os (run_in program (off (left_by v)) m x))) (stride.Ends (end.Left v line)) w m w1) (sym alone) (
        end.Left v line,
        (
          refl,
          (
            adds-ended m x w w1 (off (left_by v)) (left_by v) adds,
            (
              refl,
              left-is m x (off (left_by v)) v (leaving v (world_view m.frames m.heap)) line.0 (at ∙ sym (visible-line program code blocks known m x (off (left_by v)) waits)),
            ),
          ),
        ),
      ))

  -- the result goes to the activation that waits

  module _ (m : Machine) (a : Activation) (why : Purpose) (next : Pc) (block : BlockCode) (is_block : block ≡ block_at blocks (block_of m.here)) (at_place : m.standing ≡ standing.AtPlace) where
    abbrev before : Standing → Machine
    before s = suspended a s why m

    abbrev open_here : OpenActivation
    open_here = record { activation = m.here; why = why }

    abbrev WaitsHere : Waits → List Waits → Type 0
    WaitsHere W ws = WaitsFor program code (block_of a) open_here W ws

    abbrev WaitBelow : List Waits → Type 0
    WaitBelow ws = AllWait program code (block_of m.here) m.frames.activations ws

    abbrev asking : (W : Waits) (ws : List Waits) → WaitsHere W ws → Asking
    asking W ws waits = record { program = program; code = code; ins = waits.ins; ask = W.ask; beside = record { act = waits.act; waiting = ws }; before = waits.state }

    stands-again : (W : Waits) (ws : List Waits) (waits : WaitsHere W ws) → WaitBelow ws → waits.ins.next ≡ next.0 → Stands blocks block next m (asking W ws waits)
    stands-again W ws waits rest next_is = record {
      blocks_known = known;
      known = subst (λ b. IsBlockOf program code (block_of m.here) b) (sym is_block) (known (block_of m.here));
      there = waits.there;
      next_is = next_is;
      at_place = at_place;
      plain = waits.plain;
      waiting = rest;
      placed = waits.placed;
    }

    module _ (r : Stride) (w w1 : Writes) (new : Machine) (e : End Value) (s : Standing) (act : ℕ) (W : Waits) (ws : List Waits) (waits : WaitsHere W ws) where
      abbrev ended : Bare
      ended = run_in program (off e) (before s) (record { act = act; waiting = W ∷ ws })

      abbrev result : BlockResult Names Value
      result = record { end = e; names = ended.here.frame.names }

      abbrev leads_back : Store Names World → Successor (State Value) Names Value World
      leads_back st = led_to program code (block_of a) why (here_at (asking W ws waits) m) (code.object (block_of m.here)) waits.ins (slots_view m.here.slots) result st

      back : LedTo (leads_back (stores_of program m)) (asking W ws waits) r m w new w1
          → Strode program code (lead (machine code) (heap_host program) W.ask (W.leads result (store (return_to (machine code) (heap_host program) W ws ended))) (return_to (machine code) (heap_host program) W ws ended)) r w new w1
      back led =
          subst (λ f. Strode program code (lead (machine code) (heap_host program) W.ask (f result (store (return_to (machine code) (heap_host program) W ws ended))) (return_to (machine code) (heap_host program) W ws ended)) r w new w1) (sym waits.leads)
          (subst (λ y. Strode program code (lead (machine code) (heap_host program) W.ask
          (leads_back (store (record ended { here = y; waiting = ws }))) (record ended { here = y; waiting = ws })) r w new w1) (sym waits.seen)
          (led (run_at (asking W ws waits) m) refl))

    -- there is one that waits

    record Waited (x : Beside) : Type 0 where
      pub first : Waits
      pub others : List Waits
      pub are : x.waiting ≡ first ∷ others
      pub waits : WaitsHere first others
      pub wait : WaitBelow others

    waited : (x : Beside) (b : BlockId) (os : List OpenActivation) (xs : List Waits) → AllWait program code b os xs → b ≡ block_of a → os ≡ open_here ∷ m.frames.activations → xs ≡ x.waiting → Waited x
    waited x _ _ _ (none b) same e f = absurd (cc)
    waited x _ _ _ (more b o W os ws waits rest) same e f =
        let same_os : os ≡ m.frames.activations = cc in
        let same_o : o ≡ open_here = ap (λ l. first_of l) e in
        record {
          first = W;
          others = ws;
          are = sym f;
          waits = subst (λ c. WaitsFor program code c open_here W ws) same (subst (λ p. WaitsFor program code b p W ws) same_o waits);
          wait = subst (λ p. AllWait program code (block_of p.activation) m.frames.activations ws) same_o (subst (λ l. AllWait program code (block_of o.activation) l ws) same_os rest);
        }
      where
        first_of : List OpenActivation → OpenActivation
        first_of [] = open_here
        first_of (p ∷ ps) = p

    -- a block ended, and its result goes behind its call

    -- the place of the call that waits
    next-of : (W : Waits) (ws : List Waits) (waits : WaitsHere W ws) (p : Place) → entry block.places m.here.pc.0 ≡ Some p → p.next ≡ next → waits.ins.next ≡ next.0
    next-of W ws waits p is at =
        let placed : Some p ≡ place_at (Some waits.ins) = sym is ∙ (ap (λ b. entry b.places m.here.pc.0) is_block ∙ ((known (block_of m.here)).places m.here.pc.0 ∙ ap place_at waits.there)) in
        let same : p ≡ place_of waits.ins.instr waits.ins.mark waits.ins.next = some-same p _ placed in
        sym (ap (λ q. q.next.0) same) ∙ ap (λ pc. pc.0) at

    module _ (x : Beside) (at : Waited x) (w w0 w1 : Writes) (p : Place) (is : entry block.places m.here.pc.0 ≡ Some p) (next_is : p.next ≡ next) where
      abbrev the_asking : Asking
      the_asking = asking at.first at.others at.waits

      the-stands : Stands blocks block next m the_asking
      the-stands = stands-again at.first at.others at.waits at.wait (next-of at.first at.others at.waits p is next_is)

      -- a stride is what is told of the end, and then where the result leads
      closed : (e : End Value) (s : Standing) (r : Stride) (new : Machine) → state_of s a ≡ off e → Adds w w0 (end_events (block_at blocks (block_of a)) (before s))
          → LedTo (leads_back r w0 w1 new e s x.act at.first at.others at.waits (stores_of program m)) the_asking r m w0 new w1
          → (n : ℕ) → Strode program code (stride_of (machine code) (heap_host program) n (run_of program (before s) x)) r w new w1
      closed e s r new is_off adds led n =
          subst (λ c. Strode program code (stride_of (machine code) (heap_host program) n (run_in program c (before s) x)) r w new w1) (sym is_off)
          (subst (λ os. Strode program code (behind (end_logged (machine code) (heap_host program) e (run_in program (off e) (before s) (record { act = x.act; waiting = os })))
          (close (machine code) (heap_host program) e os (run_in program (off e) (before s) (record { act = x.act; waiting = os })))) r w new w1) (sym at.are)
          (behind-strode program code (lead (machine code) (heap_host program) at.first.ask (at.first.leads (result r w0 w1 new e s x.act at.first at.others at.waits)
          (store (return_to (machine code) (heap_host program) at.first at.others (ended r w0 w1 new e s x.act at.first at.others at.waits)))) (return_to (machine code) (heap_host program) at.first at.others (ended r w0 w1 new e s x.act at.first at.others at.waits)))
          (end_logged (machine code) (heap_host program) e (ended r w0 w1 new e s x.act at.first at.others at.waits)) r w w0 new w1
          (subst (λ ws. Adds w w0 ws) (sym (end-logged (before s) (record { act = x.act; waiting = at.first ∷ at.others }) (off e) e)) adds)
          (back r w0 w1 new e s x.act at.first at.others at.waits led)))

      returned : (v : Value) (r : Stride) (new : Machine) → Adds w w0 (end_events (block_at blocks (block_of a)) (before (standing.Returns v)))
          → Takes blocks block next a why v r m w0 new w1 → HasOwnNames program a
          → (n : ℕ) → Strode program code (stride_of (machine code) (heap_host program) n (run_of program (before (standing.Returns v)) x)) r w new w1
      unfolding Takes
      returned v r new adds takes own n = closed (gave v) (standing.Returns v) r new refl adds (takes the_asking the-stands at.waits.active own) n

      raised : (v : Value) → Adds w w0 (end_events (block_at blocks (block_of a)) (before (standing.Raises v))) → Adds w0 w1 (left_events v block (end_in why v m.heap) (behind_block why m))
          → (n : ℕ) → Strode program code (stride_of (machine code) (heap_host program) n (run_of program (before (standing.Raises v)) x)) stride.Goes w
          (left_at block v (end_in why v m.heap) (behind_block why m)) w1
      raised v adds rise n =
          closed (left_by v) (standing.Raises v) stride.Goes (left_at block v (end_in why v m.heap) (behind_block why m)) refl adds
          (left-led blocks block next m w0 why v w1 rise the_asking the-stands (program.facts (block_of a)) (names_view (program.facts (block_of a)) a)) n

-- the same whatever runs and waits

none-waits : (program : Program) (code : CodeBlocks Value) (b : BlockId) (os : List OpenActivation) (xs : List Waits) → AllWait program code b os xs → os ≡ [] → xs ≡ []
none-waits program code _ _ _ (none b) e = refl
none-waits program code _ _ _ (more b o W os ws waits rest) e = absurd (cc)

module _ (blocks : Blocks) (m : Machine) (w w1 : Writes) (alone : m.frames.activations ≡ []) (adds : Adds w w1 (events_of (codes "return") [] (block_at blocks (block_of m.here)) m)) where
  pub module_returns : (v : Value) → m.standing ≡ standing.Returns v → Closes blocks (stride.Ends end.Done) m w m w1
  unfolding Closes
  module_returns v is program code n x known own waits =
      module-ends program code blocks known m x w w1 (gave v) (record { 0 = visible_line blocks m }) (none-waits program code (block_of m.here) m.frames.activations x.waiting waits alone) waits
      (ap (λ s. state_of s m.here) is) adds refl n

  pub module_raises : (v : Value) (line : Line) → m.standing ≡ standing.Raises v → line.0 ≡ visible_line blocks m → Closes blocks (stride.Ends (end.Left v line)) m w m w1
  unfolding Closes
  module_raises v line is at program code n x known own waits =
      module-ends program code blocks known m x w w1 (left_by v) line (none-waits program code (block_of m.here) m.frames.activations x.waiting waits alone) waits
      (ap (λ s. state_of s m.here) is) adds at n

module _ (blocks : Blocks) (m : Machine) (a : Activation) (why : Purpose) (p : Place) (w w0 w1 : Writes) (at_place : m.standing ≡ standing.AtPlace)
    (is : entry (block_at blocks (block_of m.here)).places m.here.pc.0 ≡ Some p) where
  abbrev caller : BlockCode
  caller = block_at blocks (block_of m.here)

  waiting-for : (program : Program) (code : CodeBlocks Value) (known : AreBlocksOf program code blocks) (x : Beside)
      → AllWait program code (block_of a) (record { activation = m.here; why = why } ∷ m.frames.activations) x.waiting
      → Waited program code blocks known m a why p.next caller refl at_place x
  waiting-for program code known x waits =
      waited program code blocks known m a why p.next caller refl at_place x (block_of a) (record { activation = m.here; why = why } ∷ m.frames.activations) x.waiting waits refl refl refl

  pub block_returns : (v : Value) (r : Stride) (new : Machine) → Adds w w0 (events_of (codes "return") [] (block_at blocks (block_of a)) (suspended a (standing.Returns v) why m))
      → Takes blocks caller p.next a why v r m w0 new w1
      → Closes blocks r (suspended a (standing.Returns v) why m) w new w1
  unfolding Closes
  block_returns v r new adds takes program code n x known own waits =
      returned program code blocks known m a why p.next caller refl at_place x (waiting-for program code known x waits) w w0 w1 p is refl v r new adds takes own n

  pub block_raises : (v : Value) → Adds w w0 (events_of (codes "return") [] (block_at blocks (block_of a)) (suspended a (standing.Raises v) why m))
      → Adds w0 w1 (left_events v caller (end_in why v m.heap) (behind_block why m))
      → Closes blocks stride.Goes (suspended a (standing.Raises v) why m) w (left_at caller v (end_in why v m.heap) (behind_block why m)) w1
  unfolding Closes
  block_raises v adds rise program code n x known own waits =
      raised program code blocks known m a why p.next caller refl at_place x (waiting-for program code known x waits) w w0 w1 p is refl v adds rise n
