-- A block opens as in a run.
use Rattle.std.proofs.Common.{◌≡◌, ◌∙◌, ℕ, ◌+◌, ◌<◌, ◌≢◌, suc, List, [], ◌∷◌, map, Bool, true, false, Option, Some, None, refl, sym, ap, subst, arith}
use Rattle.std.specs.Prelude.{if◌then◌else◌}
use Rattle.pt_base.specs.declared.numbers.BlockId.{BlockId}
use Rattle.pt_heap.specs.declared.value.Value.{Value}
use Rattle.pt_heap.specs.declared.value.Value.TheVariants as value
use Rattle.pt_bind.specs.declared.arguments.Locals.{Locals}
use Rattle.sem_code.specs.slots.Slots.{State as CodeState, on, iterator}
use Rattle.sem_code.specs.slots.Machine as slots
use Rattle.sem_code_machine.specs.code_machine.CodeBlocks.{CodeBlocks, start_of}
use Rattle.sem_run.specs.run.Machine.{Machine}
use Rattle.sem_run.specs.run.Events as Told
use Rattle.sem_run.specs.run.Host.{Host, Frame, BlockResult, Opening}
use Rattle.sem_run.specs.run.State as run
use Rattle.sem_run.specs.run.State.{State, Rest, begin}
use Rattle.sem_run.specs.run.Requests.{run_block, open_above, fail_opening}
use Rattle.sem_run.specs.run.Host.{too_deep}
use Rattle.sem_run.specs.run.Views.{here_of}
use Rattle.sem_control.specs.control.Turn as T
use Rattle.law_steps.proofs.waiting.Telling.{seen_tells}
use Rattle.pt_hearing.specs.pt_host.World.{Names, World, Program}
use Rattle.pt_hearing.specs.pt_host.HeapHost.{heap_host}
use Rattle.pt_hearing.specs.pt_purposes.sem_rows.heap_rows.Told.{block_id, opening_of}
use Rattle.pt_hearing.specs.pt_purposes.sem_rows.heap_rows.Views.{slots_view}
use Rattle.pt_settrace.specs.Frames.{untraced}
use Rattle.pt_settrace.specs.Tracing.{tracing_in}
use Rattle.pt_frames.specs.Slots.{active_in}
use Rattle.pt_happenings.specs.declared.happening.Happening.TheVariants.{Starts}
use Rattle.pt_pendings.specs.Stands as pend
use Rattle.pt_openers.specs.Openers.{is_full}
use Rattle.pt_hearing.specs.pt_turning.pt_telling.pt_transfers.pt_machine_state.declared.blocks.BlockCode.{BlockCode}
use Rattle.pt_hearing.specs.pt_turning.pt_telling.pt_transfers.pt_machine_state.Blocks.{IsBlockOf}
use Rattle.pt_hearing.specs.pt_turning.pt_telling.pt_transfers.pt_machine_state.Changes.{slots_at_start}
use Rattle.pt_hearing.specs.pt_purposes.declared.standing.Standing.TheVariants.{AtPlace}
use Rattle.pt_hearing.specs.pt_purposes.Seen.{frame_of}
use Rattle.pt_hearing.specs.pt_purposes.Openers as openers
use Rattle.pt_hearing.specs.pt_purposes.Openers.{Ways}
use Rattle.pt_hearing.proofs.pt_purposes.Seeing.{parts_tell}
use Rattle.pt_hearing.specs.pt_turning.pt_telling.pt_run_state.declared.machine.Machine.{Machine as Held}
use Rattle.pt_hearing.specs.pt_turning.pt_telling.pt_run_state.Stands.{newest, frame_numbers, IsNotAmong, AreGivenOnce, StandsAround, IsToTell}
use Rattle.pt_hearing.proofs.pt_telling.Around.{are-seen}
use Rattle.pt_hearing.specs.pt_turning.Ways.{state_at, IsOfCode}
use Rattle.pt_opening.specs.declared.opening.Wanted.{Wanted}
use Rattle.pt_opening.specs.Opening.{opener_of, opened, beginning}
use Rattle.pt_opening.specs.Laws.{IsWanted, OpensAsRun}

-- the next number was given to none of those that have one
not-among : (n k : ℕ) (ks : List ℕ) → n < suc k → AreGivenOnce n ks → IsNotAmong k ks
not-among n k [] within given = tt
not-among n k (j ∷ js) within (below, (apart, rest)) =
    (λ e. let no : ⊥ = omega (arith, below, within, e) in no, not-among n k js within rest)

given-behind : (n : ℕ) (ks : List ℕ) → AreGivenOnce n ks → AreGivenOnce (n + 1) ks
given-behind n [] given = tt
given-behind n (k ∷ ks) (below, (apart, rest)) =
    (omega (arith, below), (apart, given-behind n ks rest))

given-next : (n : ℕ) (ks : List ℕ) → AreGivenOnce n ks → AreGivenOnce (n + 1) (n ∷ ks)
given-next n ks given =
    (omega arith, (not-among n n ks (omega arith) given, given-behind n ks given))

module _ {S : Type 0} (program : Program) (code : CodeBlocks Value) (machine : Machine S Value)
    (embed : CodeState Value → S) (ways : Ways S) (is_of : IsOfCode code machine embed ways)
    (m : Held) (s : State S Names Value World) (around : StandsAround program machine ways m s)
    (b : BlockId) (hidden : Bool) (w : Wanted)
    (r : Rest S Names Value World (BlockResult Names Value))
    (wanted : IsWanted program code machine ways m (block_id b hidden) w s r)
    (ls : Locals) (block : BlockCode)
    (known : IsBlockOf program code (block_id b hidden) block) where
  abbrev Run : Type 0
  Run = State S Names Value World

  abbrev host : Host Names Value World
  host = heap_host program

  abbrev opening : Opening Names Value
  opening = opening_of program (block_id b hidden) ls

  abbrev m2 : Held
  m2 = opened block.iterates b hidden ls w m

  full-is : run.is_full s ≡ is_full m.openers
  full-is =
      (seen_tells Names World machine _ _ s (are-seen program machine ways m block s around)).full
      ∙ sym (parts_tell program m.hooks m.openers).full

  abbrev above : Run
  above =
      open_above machine host (begin machine opening s.frames false)
      (run.telling (Told.starts ∷ []) (run.starting (machine.start opening.block opening.iterator)))
      (run.for_block r) (record s { frames = s.frames + 1 })

  opens-above : is_full m.openers ≡ false → run_block machine host opening r s ≡ above
  opens-above room =
      ap (λ c. if c then fail_opening machine host r (λ v. record { end = T.left_by v; names = opening.names }) (host.makes too_deep (here_of machine s) s.world) s else above)
      (full-is ∙ room)

  -- the block's code begins there
  slots-begin : (iterates : Bool) (null : Value) → null ≡ value.None
      → (if iterates then slots.start_generator null else slots.start) ≡ on 0 (slots_view (slots_at_start iterates))
  slots-begin true null e = ap (λ v. on 0 (iterator v ∷ [])) e
  slots-begin false null e = refl

  start-is : machine.start (block_id b hidden) None ≡ ways.position AtPlace m2.code.here
  start-is =
      is_of.start (block_id b hidden) None
      ∙ ap embed (ap (λ c. if c then slots.start_generator (code.object (block_id b hidden)).null else slots.start) known.iterates
      ∙ slots-begin block.iterates (code.object (block_id b hidden)).null known.truths.null)
      ∙ sym (is_of.stands AtPlace m2.code.here)

  -- nothing is traced in a frame of the next number
  abbrev frame_with : (number : ℕ) → Option Value → Bool → Frame Names Value
  frame_with number trace lines = record {
    number = number;
    block = block_id b hidden;
    names = opening.names;
    line = None;
    trace = trace;
    traces_lines = lines;
    of_generator = false;
  }

  untraced-next : tracing_in m.code.frames.frame_count m.hooks ≡ untraced
  untraced-next = around.untraced m.code.frames.frame_count (omega arith)

  frame-is : frame_with s.frames None true ≡ frame_of program m.hooks (newest m2)
  frame-is =
      ap (λ k. frame_with k None true) around.frames
      ∙ ap (λ t. frame_with m.code.frames.frame_count t.function t.lines) (sym untraced-next)

  around-above : StandsAround program machine ways m2 above
  around-above = record {
    at_place = around.at_place;
    here = record { frame = frame-is; act = refl; behind_jump = refl };
    openers = openers.more (block_id b hidden) (opener_of w m) (record { activation = s.here; purpose = run.for_block r }) m.openers s.openers
        (record { running = around.here; active = wanted.active; purpose = wanted.purpose }) around.openers;
    generators = around.generators;
    world = around.world;
    trace = around.trace;
    tools = around.tools;
    units = around.units;
    frames = ap (λ k. k + 1) around.frames;
    numbers = given-next m.code.frames.frame_count (frame_numbers m) around.numbers;
    untraced = λ k later. around.untraced k (omega (arith, later));
  }

  no-exception : (iterates : Bool) → active_in (slots_at_start iterates) ≡ None
  no-exception true = refl
  no-exception false = refl

  to-tell : IsToTell program machine ways m2 beginning (Starts ∷ []) above
  to-tell = record {
    around = around-above;
    active = ap (λ c. machine.active c) start-is ∙ is_of.active AtPlace m2.code.here ∙ no-exception block.iterates;
    pending = run.starting (machine.start opening.block opening.iterator);
    phase = refl;
    waits = pend.starting;
    stands = start-is;
  }

pub opens_as_run : {S : Type 0} (program : Program) (code : CodeBlocks Value)
    (machine : Machine S Value) (embed : CodeState Value → S) (ways : Ways S)
    → IsOfCode code machine embed ways → OpensAsRun program code machine ways
opens_as_run program code machine embed ways is_of m s around room b hidden w r wanted ls block known =
    subst (λ u. IsToTell program machine ways (opened block.iterates b hidden ls w m) beginning (Starts ∷ []) u)
    (sym (opens-above program code machine embed ways is_of m s around b hidden w r wanted ls block known room))
    (to-tell program code machine embed ways is_of m s around b hidden w r wanted ls block known)
