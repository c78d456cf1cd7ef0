-- Each stride keeps the names of all activations.
use Rattle.std.proofs.Common.{◌≡◌, ℕ, Bool, true, false, List, [], ◌∷◌, Option, Some, None, refl, subst, if◌then◌else◌}
use Rattle.std.specs.Prelude.{nat_lt, slice_get}
use Rattle.std.specs.List.{AllByRecursion}
use Rattle.sem_control.specs.control.Turn as T
use Rattle.sem_control.specs.control.Turn.{Ask, Answer, Reply, got, raised, End, gave, left_by, Turn}
use Rattle.sem_control.specs.control.Events as E
use Rattle.pt_heap.specs.declared.value.Value.{Value}
use Rattle.pt_heap.specs.declared.value.Value.TheVariants as value
use Rattle.pt_heap.specs.declared.object.Object.{Object}
use Rattle.pt_heap.specs.declared.object.Object.TheVariants as object
use Rattle.pt_base.specs.declared.numbers.ObjId.{ObjId}
use Rattle.sem_run.specs.run.Machine.{BlockId, Machine}
use Rattle.sem_run.specs.run.Host as H
use Rattle.sem_run.specs.run.Host.{Here, Entry, Opening, BlockResult, Finding, Failure, Made, made, beyond, too_deep}
use Rattle.sem_run.specs.run.State.{OpenAsk}
use Rattle.sem_run.specs.run.Step.{callee_of, line_before}
use Rattle.sem_run.specs.run.Run.{Write, write, to_out}
use Rattle.sem_run.specs.run.Views.{line_of}
use Rattle.sem_run.specs.transitions.Transitions.{by_answer, by_finding, of_open_ask}
use Rattle.sem_run.specs.transitions.Successors.{Successor, to, arises, behind_yield, behind_print, behind_request, behind_note, outside, end, none, successor}
use Rattle.pt_bare_runs.specs.Strides as B
use Rattle.pt_bare_runs.specs.Strides.{Waiting, Stride, behind}
use Rattle.sem_rows.specs.pt_host.World.{Names, World, Stores, Program, Allotted}
use Rattle.sem_rows.specs.pt_host.Errors.{failure, in_heap_of, with_entry, enters}
use Rattle.sem_rows.specs.pt_host.HeapHost.{heap_host}
use Rattle.sem_rows.specs.pt_host.Trees.{Tree}
use Rattle.sem_rows.specs.pt_host.Answers.{answers}
use Rattle.sem_rows.specs.pt_host.declared.places.TheConstants.{GENERATOR_EXIT, RECURSION_ERROR, RUNTIME_ERROR, VALUE_ERROR}
use Rattle.std.specs.Prelude.{codes}
use Rattle.law_frames.specs.RunNames.{HasItsNames, TakesCells, AllTakeCells, StoresHaveNames, WaitingHasNames}
use Rattle.law_frames.proofs.Stores.{all-set, AllotsCells, error-allotted, saying-allotted}
use Rattle.law_frames.proofs.Answers.{NamesInAsk, Keeps, answers-keep}
use Rattle.law_frames.proofs.Turns.{NamesInTurn}

module _ (program : Program) where
  abbrev host : H.Host Names Value World
  host = heap_host program

  -- where an ask leads
  abbrev pub LeadsOn : {S : Type 0} → BlockId → Successor S Names Value World → Type 0
  LeadsOn b (to c st) = StoresHaveNames program b st
  LeadsOn b (arises v c st) = StoresHaveNames program b st
  LeadsOn b (behind_print t x) = LeadsOn b x
  LeadsOn b (behind_request (H.opens o) st f) =
      StoresHaveNames program b st × (HasItsNames (program.facts o.block) o.names
      × ((r : BlockResult Names Value) (st1 : Stores) → StoresHaveNames program b st1 → LeadsOn b (f r st1)))
  LeadsOn b x = Unit {0}

  -- exceptions that a run makes by itself, and entries of tracebacks
  failures-allotted : (f : Failure Value) (active : Option Value) (h : List Object) → AllTakeCells program h → AllotsCells program (failure f active h)
  failures-allotted H.too_deep x h all = saying-allotted program RECURSION_ERROR (codes "too many activations") None x h all
  failures-allotted H.generator_exit x h all = error-allotted program GENERATOR_EXIT [] None None h all
  failures-allotted (H.stop_iteration v) x h all = saying-allotted program RUNTIME_ERROR (codes "generator raised StopIteration") (Some v) (Some v) h all
  failures-allotted H.not_local x h all = saying-allotted program VALUE_ERROR (codes "event is not local") None x h all

  abbrev MadeTakesCells : Made Value World → Type 0
  MadeTakesCells (made v w) = AllTakeCells program w.heap
  MadeTakesCells (beyond what) = Unit {0}

  made-world : (w : World) (a : Allotted) → AllotsCells program a → MadeTakesCells (in_heap_of w a)
  made-world w (made v h) all = all
  made-world w (beyond what) all = tt

  entry-keeps : (e : Entry) (id : ObjId) (o : Option Object) (h : List Object) → AllTakeCells program h → AllTakeCells program (with_entry e id o h)
  entry-keeps e id (Some (object.Error x)) h all = all-set (TakesCells program) h id.0 _ all tt
  entry-keeps e id o h all = all

  enters-keeps : (v : Value) (e : Entry) (w : World) → AllTakeCells program w.heap → AllTakeCells program (enters v e w).heap
  enters-keeps (value.Obj id) e w all = entry-keeps e id (slice_get w.heap id.0) w.heap all
  enters-keeps v e w all = all

  hidden-keeps : (c : Bool) (v : Value) (e : Entry) (w : World) → AllTakeCells program w.heap → AllTakeCells program (if c then w else enters v e w).heap
  hidden-keeps true v e w all = all
  hidden-keeps false v e w all = enters-keeps v e w all

  module _ {S : Type 0} where
    -- what waits goes on so, from stores that have the names of its block
    abbrev pub GoesOn : Waiting S Names Value World → Type 0
    GoesOn o = WaitingHasNames program o
        × ((r : BlockResult Names Value) (st : Stores) → StoresHaveNames program o.activation.frame.block st → LeadsOn o.activation.frame.block (o.leads r st))

    abbrev AllGoOn : List (Waiting S Names Value World) → Type 0
    AllGoOn os = AllByRecursion GoesOn os

    pub record Named (s : B.State S Names Value World) : Type 0 where
      pub here : HasItsNames (program.facts s.here.frame.block) s.here.frame.names
      pub waiting : AllGoOn s.waiting
      pub functions : AllTakeCells program s.world.heap

    abbrev Stays : Stride S Names Value World → Type 0
    Stays (B.goes ws s) = Named s
    Stays (B.ends ws u e) = Unit {0}
    Stays B.is_stuck = Unit {0}

    stays-behind : (ws : List Write) (x : Stride S Names Value World) → Stays x → Stays (behind ws x)
    stays-behind ws (B.goes vs s) p = record { here = p.here; waiting = p.waiting; functions = p.functions }
    stays-behind ws (B.ends vs u e) p = tt
    stays-behind ws B.is_stuck p = tt

    either-stays : (c : Bool) (x y : Stride S Names Value World) → Stays x → Stays y → Stays (if c then x else y)
    either-stays true x y p q = p
    either-stays false x y p q = q

    stores : (s : B.State S Names Value World) → Named s → StoresHaveNames program s.here.frame.block (B.store s)
    stores s p = record { names = p.here; functions = p.functions }

    with-stores : (s : B.State S Names Value World) (st : Stores) → AllGoOn s.waiting → StoresHaveNames program s.here.frame.block st
        → Named (B.with_store st s)
    with-stores s st all h = record { here = h.names; waiting = all; functions = h.functions }

    module _ (machine : Machine S Value) where
      raised-here : (v : Value) (s : B.State S Names Value World) → Named s → Named (B.raise_here machine host v s)
      raised-here v s p = record {
        here = p.here;
        waiting = p.waiting;
        functions = hidden-keeps s.here.frame.block.hidden v
            (record { frame = s.here.frame.number; block = s.here.frame.block; line = line_of host.first_line s.here.frame }) s.world p.functions;
      }

      arise-stays : (e : E.Event Value) (c : S) (s : B.State S Names Value World) → Named s → Stays (B.arise machine host e c s)
      arise-stays (E.raises v) c s p = let q = raised-here v s p in record { here = q.here; waiting = q.waiting; functions = q.functions }
      arise-stays e c s p = record { here = p.here; waiting = p.waiting; functions = p.functions }

      lead-stays : (a : Ask Value) (x : Successor S Names Value World) (s : B.State S Names Value World) → LeadsOn s.here.frame.block x → Named s
          → Stays (B.lead machine host a x s)
      lead-stays a (to c st) s i p = let q = with-stores s st p.waiting i in record { here = q.here; waiting = q.waiting; functions = q.functions }
      lead-stays a (arises v c st) s i p = arise-stays _ c (B.with_store st s) (with-stores s st p.waiting i)
      lead-stays a (behind_yield v k st) s i p = tt
      lead-stays a (behind_print t x) s i p = stays-behind (write to_out t ∷ []) _ (lead-stays a x s i p)
      lead-stays a (behind_request (H.opens o) st f) s i p =
          either-stays (B.is_full (B.with_store st s)) _ _
          (failing (λ r z j k. lead-stays a (f r (B.store z)) z j k) (host.makes too_deep (B.here_of machine host (B.with_store st s)) st.world)
          (made-world st.world (failure too_deep (B.here_of machine host (B.with_store st s)).active st.world.heap)
          (failures-allotted too_deep (B.here_of machine host (B.with_store st s)).active st.world.heap i.0.functions)))
          (record { here = i.1.0; waiting = ((i.0.names, i.1.1), p.waiting); functions = i.0.functions })
        where
          failing : ((r : BlockResult Names Value) (z : B.State S Names Value World) → LeadsOn z.here.frame.block (f r (B.store z)) → Named z
              → Stays (B.lead machine host a (f r (B.store z)) z))
              → (m : Made Value World) → MadeTakesCells m → Stays (B.fail_opening machine host (λ r z. B.lead machine host a (f r (B.store z)) z) o m
              (B.with_store st s))
          failing go (made v w) all =
              let z : B.State S Names Value World = B.in_world w (B.with_store st s) in
              let q : Named z = record { here = i.0.names; waiting = p.waiting; functions = all } in
              go _ z (i.1.1 _ (B.store z) (stores z q)) q
          failing go (beyond what) all = tt
      lead-stays a (behind_request r st f) s i p = tt
      lead-stays a (behind_note v k) s i p = record { here = p.here; waiting = p.waiting; functions = p.functions }
      lead-stays a (outside what) s i p = tt
      lead-stays a (end e) s i p = tt
      lead-stays a none s i p = tt

      -- the answers of the host lead on so
      finding-leads : (b : BlockId) (q : OpenAsk S Value) (a : Ask Value) (k : Reply Value (Answer Value a) → S) (v : Finding Value a) (st : Stores)
          → StoresHaveNames program b st
          → LeadsOn b (successor (by_finding a k q v st))
      finding-leads b q (T.next_of i) k (H.an_item v) st h = h
      finding-leads b q (T.next_of i) k (H.no_item e) st h = h
      finding-leads b q (T.delegate i r) k (H.passes_on v) st h = tt
      finding-leads b q (T.delegate i r) k (H.ends_with v) st h = h
      finding-leads b q (T.seek a) k v st h = h
      finding-leads b q (T.deed a) k v st h = h
      finding-leads b q (T.leave a) k v st h = h
      finding-leads b q (T.throw a) k v st h = h
      finding-leads b q (T.test a) k v st h = h
      finding-leads b q (T.iter_of a) k v st h = h
      finding-leads b q (T.enter a) k v st h = h
      finding-leads b q (T.unpack a m t) k v st h = h

      module _ (b : BlockId) (q : OpenAsk S Value) where
        answer-leads : (t : Tree (Finding Value q.ask)) → Keeps program b t → LeadsOn b (successor (by_answer q t))
        answer-leads (H.answer v st) h = finding-leads b q q.ask q.next v st h
        answer-leads (H.raise v st) h = h
        answer-leads (H.print t f) h = answer-leads f h
        answer-leads (H.leave what) h = tt
        answer-leads (H.request (H.opens o) st f) h = (h.0, (h.1.0, λ r st1 g. answer-leads (f r st1) (h.1.1 r st1 g)))
        answer-leads (H.request r st f) h = tt

      module _ (b : BlockId) (h : Here Value) (is : h.block ≡ b) (st : Stores) (has : StoresHaveNames program b st) where
        ask-leads : (q : OpenAsk S Value) (a : Ask Value) (k : Reply Value (Answer Value a) → S) → NamesInAsk program b a
            → LeadsOn b (successor (of_open_ask host (record { ask = a; next = k; is_act = q.is_act; callee = q.callee }) h st))
        ask-leads q (T.seek (T.yielding v)) k i = tt
        ask-leads q a k i = answer-leads b (record { ask = a; next = k; is_act = q.is_act; callee = q.callee }) (answers program a h st)
            (answers-keep program b h is st has a i)

      close-stays : (e : End Value) (os : List (Waiting S Names Value World)) (s : B.State S Names Value World) → AllGoOn os → Named s
          → Stays (B.close machine host e os s)
      close-stays e [] s all p = tt
      close-stays e (o ∷ os) s all p =
          let r : BlockResult Names Value = record { end = e; names = s.here.frame.names } in
          let t : B.State S Names Value World = B.return_to machine host o os s in
          let q : Named t = record { here = all.0.0; waiting = all.1; functions = p.functions } in
          lead-stays o.ask (o.leads r (B.store t)) t (all.0.1 r (B.store t) (stores t q)) q

      turn-stays : (n : ℕ) (t : Turn S Value) (s : B.State S Names Value World) → NamesInTurn program s.here.frame.block t → Named s
          → Stays (B.take_turn machine host n t s)
      turn-stays n (T.act (Some m) a k) s i p =
          let t : B.State S Names Value World = B.take_unit m s in
          let q : OpenAsk S Value = record { ask = a; next = k; is_act = true; callee = callee_of host a s.world } in
          let z : Named t = record { here = p.here; waiting = p.waiting; functions = p.functions } in
          either-stays (nat_lt s.units n) _ _
          (stays-behind (B.line_logged machine host m (line_before s.here) t) (B.lead machine host a
          (successor (of_open_ask host q (B.here_of machine host t) (B.store t))) t)
          (lead-stays a (successor (of_open_ask host q (B.here_of machine host t) (B.store t))) t
          (ask-leads s.here.frame.block (B.here_of machine host t) refl (B.store t) (stores t z) q a k i) z)) tt
      turn-stays n (T.act None a k) s i p =
          let q : OpenAsk S Value = record { ask = a; next = k; is_act = false; callee = None } in
          lead-stays a (successor (of_open_ask host q (B.here_of machine host s) (B.store s))) s
          (ask-leads s.here.frame.block (B.here_of machine host s) refl (B.store s) (stores s p) q a k i) p
      turn-stays n (T.note v k) s i p = record { here = p.here; waiting = p.waiting; functions = p.functions }
      turn-stays n (T.move c) s i p = record { here = p.here; waiting = p.waiting; functions = p.functions }
      turn-stays n (T.over e) s i p = stays-behind (B.end_logged machine host e s) (B.close machine host e s.waiting s) (close-stays e s.waiting s p.waiting p)
      turn-stays n T.stuck s i p = tt

      pub stride-stays : (n : ℕ) → ((b : BlockId) (c : S) → NamesInTurn program b (machine.turn b c)) → (s : B.State S Names Value World) → Named s
          → Stays (B.stride machine host n s)
      stride-stays n names s p = turn-stays n (machine.turn s.here.frame.block s.here.state) s (names s.here.frame.block s.here.state) p

      pub next-named : (n : ℕ) → ((b : BlockId) (c : S) → NamesInTurn program b (machine.turn b c)) → (s t : B.State S Names Value World) (ws : List Write)
          → Named s
          → B.stride machine host n s ≡ B.goes ws t → Named t
      next-named n names s t ws p e = subst Stays e (stride-stays n names s p)
