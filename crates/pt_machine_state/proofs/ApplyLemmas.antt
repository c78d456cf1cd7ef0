-- What the machine did is what a run does with what an instruction comes to.
use Rattle.std.proofs.Common.{inl, inr, ◌≡◌, ◌∙◌, ℕ, List, [], ◌∷◌, Bool, true, false, refl, sym, ap, subst}
use Rattle.std.specs.Prelude.{codes, if◌then◌else◌}
use Rattle.std.specs.Option.{option_map}
use Rattle.pt_base.specs.declared.numbers.Pc.{Pc}
use Rattle.pt_heap.specs.declared.value.Value.{Value}
use Rattle.pt_heap.specs.declared.value.Value.TheVariants as value
use Rattle.pt_heap.specs.declared.completion.Completion.{Completion}
use Rattle.pt_heap.specs.declared.completion.Completion.TheVariants as completion
use Rattle.sem_control.specs.control.Events as E
use Rattle.sem_code.specs.slots.Slots as S
use Rattle.sem_code.specs.slots.Slots.{State, on, reraises}
use Rattle.sem_code.specs.slots.Landing.{land}
use Rattle.pt_unwind.specs.declared.Landing.{Landing}
use Rattle.pt_unwind.specs.declared.Landing.TheVariants.{Enter, Jump, Out}
use Rattle.pt_unwind.specs.Landings.{landing_of}
use Rattle.pt_unwind.specs.Steps.{completion_of}
use Rattle.sem_run.specs.run.Events as Told
use Rattle.sem_run.specs.run.Host.{Host, Entry}
use Rattle.sem_run.specs.run.Views.{line_or}
use Rattle.sem_run.specs.run.Run as run
use Rattle.pt_code_facts.specs.sem_rows.pt_host.World.{Names, World, Program}
use Rattle.pt_code_facts.specs.sem_rows.pt_host.Errors.{enters}
use Rattle.pt_content.specs.Classes.{class_name}
use Rattle.pt_code_facts.specs.sem_rows.pt_host.HeapHost.{heap_host}
use Rattle.sem_run.specs.transitions.Successors as leads
use Rattle.pt_bare_runs.specs.Strides as bare
use Rattle.pt_bare_runs.specs.Strides.{goes, stride as stride_of, in_state, in_world, raise_here, logged, arise, here_of}
use Rattle.sem_code_machine.specs.code_machine.CodeBlocks.{CodeBlocks, machine}
use Rattle.pt_code_facts.specs.sem_rows.declared.heap_rows.progress.Progress.TheVariants as progress
use Rattle.pt_code_facts.specs.sem_rows.heap_rows.Views.{slots_view, world_view}
use Rattle.pt_machine_state.specs.declared.blocks.BlockCode.{BlockCode}
use Rattle.pt_machine_state.specs.declared.blocks.Blocks.{Blocks}
use Rattle.pt_machine_state.specs.declared.machine.Machine.{Machine}
use Rattle.pt_machine_state.specs.declared.machine.Stride.{Stride}
use Rattle.pt_machine_state.specs.declared.machine.Stride.TheVariants as stride
use Rattle.pt_machine_state.specs.declared.writes.Writes.{Writes}
use Rattle.pt_machine_state.specs.Writing.{Adds, print_piece, event_text}
use Rattle.pt_machine_state.specs.Blocks.{IsBlockOf}
use Rattle.pt_machine_state.specs.Views.{Bare, Beside, AllWait, IsPlaced, block_of, state_of, run_in, run_of, stores_of}
use Rattle.pt_machine_state.specs.Strode.{Strode}
use Rattle.pt_machine_state.specs.Changes.{gone_to, landed, landed_at, left_place, line_of, entry_of, heap_with_entry, entered, raised_at, events_of, exception_events, raise_events}
use Rattle.pt_machine_state.specs.Applies.{Asking, Stands, LedTo, Applied, object_of, run_at}
use Rattle.pt_machine_state.proofs.WriteLemmas.{adds_none}
use Rattle.pt_machine_state.proofs.LandLemmas.{landed-state}

module _ (program : Program) (block : BlockCode) (m : Machine) (x : Beside) where
  -- a landing changes nothing else of a run
  landed-run : (how : Completion) (l : Landing) (c : State Value) → run_in program c (landed_at block how l m) x ≡ run_in program c m x
  landed-run how (Enter pc depth holds) c = refl
  landed-run how (Jump pc) c = refl
  landed-run completion.Normal Out c = refl
  landed-run (completion.Raise v) Out c = refl
  landed-run (completion.Return v) Out c = refl
  landed-run (completion.Leave t) Out c = refl

-- what waits below the machine, and that its local names have places
abbrev pub Keeps : Program → CodeBlocks Value → Machine → Beside → Type 0
Keeps program code m x = AllWait program code (block_of m.here) m.frames.activations x.waiting × IsPlaced program m.here

landed-keeps : (program : Program) (code : CodeBlocks Value) (block : BlockCode) (m : Machine) (x : Beside) (how : Completion) (l : Landing)
    → Keeps program code m x → Keeps program code (landed_at block how l m) x
landed-keeps program code block m x how (Enter pc depth holds) k = k
landed-keeps program code block m x how (Jump pc) k = k
landed-keeps program code block m x completion.Normal Out k = k
landed-keeps program code block m x (completion.Raise v) Out k = k
landed-keeps program code block m x (completion.Return v) Out k = k
landed-keeps program code block m x (completion.Leave t) Out k = k

-- it goes on in a state of the newest activation, with nothing written

module _ (blocks : Blocks) (block : BlockCode) (next : Pc) (m : Machine) where
  -- the newest activation is in a state, and all else is as it was
  abbrev IsIn : Asking → Machine → State Value → Type 0
  IsIn q new c = run_of q.program new q.beside ≡ run_in q.program c m q.beside

  abbrev StillKeeps : Asking → Machine → Type 0
  StillKeeps q new = Keeps q.program q.code new q.beside

  keeps-here : (q : Asking) → Stands blocks block next m q → StillKeeps q m
  keeps-here q stands = (stands.waiting, stands.placed)

  pub to_state : (q : Asking) (w : Writes) (new : Machine) (c : State Value) → IsIn q new c → StillKeeps q new
      → LedTo (leads.to c (stores_of q.program m)) q stride.Goes m w new w
  to_state q w new c is_in keeps s stored = (refl, (adds_none w, (q.beside, (inl (ap (λ t. in_state c t) stored ∙ sym is_in), keeps))))

  -- with a text printed
  pub printed_to_state : (q : Asking) (w w1 : Writes) (new : Machine) (c : State Value) (t : List ℕ) → Adds w w1 (print_piece t ∷ []) → IsIn q new c → StillKeeps q new
      → LedTo (leads.behind_print t (leads.to c (stores_of q.program m))) q stride.Goes m w new w1
  printed_to_state q w w1 new c t adds is_in keeps s stored = (refl, (adds, (q.beside, (inl (ap (λ s1. in_state c s1) stored ∙ sym is_in), keeps))))

  gone-in : (q : Asking) → Stands blocks block next m q → (pc : Pc) → IsIn q (gone_to pc m) (on pc.0 (slots_view m.here.slots))
  gone-in q stands pc = ap (λ s. run_in q.program (state_of s (gone_to pc m).here) m q.beside) stands.at_place

  gone-next : (q : Asking) → Stands blocks block next m q → IsIn q (gone_to next m) (on q.ins.next (slots_view m.here.slots))
  gone-next q stands = gone-in q stands next ∙ ap (λ pc. run_in q.program (on pc (slots_view m.here.slots)) m q.beside) (sym stands.next_is)

  landed-in : (q : Asking) → Stands blocks block next m q → (a : S.Abrupt Value) → IsIn q (landed block (completion_of a) m) (land (object_of q m) q.ins.rows a (slots_view m.here.slots))
  landed-in q stands a =
      landed-run q.program block m q.beside (completion_of a) (landing_of block.handlers m.here.pc (completion_of a)) (state_of (landed block (completion_of a) m).standing (landed block (completion_of a) m).here)
      ∙ ap (λ c. run_in q.program c m q.beside) (landed-state q.program q.code block (block_of m.here) q.ins m a stands.known stands.at_place stands.there)

  landed-to : (q : Asking) → Stands blocks block next m q → (w : Writes) (a : S.Abrupt Value)
      → LedTo (leads.to (land (object_of q m) q.ins.rows a (slots_view m.here.slots)) (stores_of q.program m)) q stride.Goes m w (landed block (completion_of a) m) w
  landed-to q stands w a =
      to_state q w (landed block (completion_of a) m) (land (object_of q m) q.ins.rows a (slots_view m.here.slots)) (landed-in q stands a)
      (landed-keeps q.program q.code block m q.beside (completion_of a) (landing_of block.handlers m.here.pc (completion_of a)) (keeps-here q stands))

  module _ (w : Writes) where
    pub applied_next : Applied blocks block next progress.Next stride.Goes m w (gone_to next m) w
    unfolding Applied
    applied_next q stands active = to_state q w (gone_to next m) (on q.ins.next (slots_view m.here.slots)) (gone-next q stands) (keeps-here q stands)

    pub applied_goto : (pc : Pc) → Applied blocks block next (progress.Goto pc) stride.Goes m w (gone_to pc m) w
    unfolding Applied
    applied_goto pc q stands active = to_state q w (gone_to pc m) (on pc.0 (slots_view m.here.slots)) (gone-in q stands pc) (keeps-here q stands)

    pub applied_leaves : (how : Completion) → Applied blocks block next (progress.Leaves how) stride.Goes m w (left_place block next how m) w
    unfolding Applied
    applied_leaves completion.Normal q stands active = to_state q w (gone_to next m) (on q.ins.next (slots_view m.here.slots)) (gone-next q stands) (keeps-here q stands)
    applied_leaves (completion.Raise v) q stands active = landed-to q stands w (S.raise v)
    applied_leaves (completion.Return v) q stands active = landed-to q stands w (S.return v)
    applied_leaves (completion.Leave t) q stands active = landed-to q stands w (S.jump_to t.0)

    -- a raise that was held goes on by itself: the run comes by a note to where it lands
    pub applied_reraises : (v : Value) → Applied blocks block next (progress.Reraises v) stride.Goes m w (landed block (completion.Raise v) m) w
    unfolding Applied
    applied_reraises v q stands active s stored =
        let is_landed : in_state (land (object_of q m) q.ins.rows (S.raise v) (slots_view m.here.slots)) (run_at q m) ≡ run_of q.program (landed block (completion.Raise v) m) q.beside
        = sym (landed-in q stands (S.raise v)) in (
          refl,
          (
            adds_none w,
            (
              q.beside,
              (
                inr (
                  (v, q.ins.rows, slots_view m.here.slots, refl),
                  (λ n. ap (λ t. stride_of (machine q.code) (heap_host q.program) n (in_state (reraises v q.ins.rows (slots_view m.here.slots)) t)) stored ∙ ap (λ t. goes [] t) is_landed),
                ),
                landed-keeps q.program q.code block m q.beside (completion.Raise v) (landing_of block.handlers m.here.pc (completion.Raise v)) (keeps-here q stands),
              ),
            ),
          ),
        )

    pub applied_lacks : (r : Stride) (new : Machine) (w1 : Writes) → Applied blocks block next progress.Lacks r m w new w1
    unfolding Applied
    applied_lacks r new w1 q stands active s stored = tt

    pub applied_print : (t : List ℕ) (w1 : Writes) → Adds w w1 (print_piece t ∷ []) → Applied blocks block next (progress.Print t) stride.Goes m w (gone_to next m) w1
    unfolding Applied
    applied_print t w1 adds q stands active =
        printed_to_state q w w1 (gone_to next m) (on q.ins.next (slots_view m.here.slots)) t adds (gone-next q stands) (keeps-here q stands)

-- what is told of an event, and the line of the frame

module _ (program : Program) (code : CodeBlocks Value) (block : BlockCode) (m : Machine) (x : Beside) (c : State Value)
    (known : IsBlockOf program code (block_of m.here) block) where
  abbrev the_run : Bare
  the_run = run_in program c m x

  abbrev host : Host Names Value World
  host = heap_host program

  line-is : line_or (program.facts (block_of m.here)).first_line (option_map (λ l. l.0) m.here.line) ≡ line_of block m
  line-is = ap (λ l. line_or l (option_map (λ k. k.0) m.here.line)) (sym known.first_line)

  -- of an event whose word this is
  logged-line : (word behind : List ℕ) → (if m.here.hidden then [] else run.write run.to_log (event_text word (line_or (program.facts (block_of m.here)).first_line (option_map (λ l. l.0) m.here.line)) (program.facts (block_of m.here)).name behind) ∷ [])
      ≡ events_of word behind block m
  logged-line word behind =
      ap (λ l. if m.here.hidden then [] else run.write run.to_log (event_text word l (program.facts (block_of m.here)).name behind) ∷ []) line-is
      ∙ ap (λ t. if m.here.hidden then [] else run.write run.to_log (event_text word (line_of block m) t behind) ∷ []) (sym known.name)

  pub logged-start : logged (machine code) host Told.starts the_run ≡ events_of (codes "call") [] block m
  logged-start = logged-line (codes "call") []

  pub logged-line-event : logged (machine code) host (Told.line false) the_run ≡ events_of (codes "line") [] block m
  logged-line-event = logged-line (codes "line") []

  pub logged-return : (v : Value) → logged (machine code) host (Told.returns v) the_run ≡ events_of (codes "return") [] block m
  logged-return v = logged-line (codes "return") []

  pub logged-unwind : (v : Value) → logged (machine code) host (Told.unwinds v) the_run ≡ events_of (codes "return") [] block m
  logged-unwind v = logged-line (codes "return") []

  pub logged-raise : (v : Value) → logged (machine code) host (Told.raises v) the_run ≡ exception_events v block m
  logged-raise v = logged-line (codes "exception") (32 ∷ class_name m.heap v)

  enters-view : (v : Value) (e : Entry) → enters v e (world_view m.frames m.heap) ≡ world_view m.frames (heap_with_entry v e m.heap)
  enters-view (value.Obj id) e = refl
  enters-view value.None e = refl
  enters-view (value.Bool b) e = refl
  enters-view (value.Int z) e = refl
  enters-view value.Ellipsis e = refl
  enters-view value.NotImplemented e = refl

  entered-world : (v : Value) (e : Entry) (b : Bool)
      → (if b then world_view m.frames m.heap else enters v e (world_view m.frames m.heap)) ≡ world_view m.frames (if b then m.heap else heap_with_entry v e m.heap)
  entered-world v e true = refl
  entered-world v e false = enters-view v e

  pub raise-here : (v : Value) → raise_here (machine code) host v the_run ≡ run_in program c (entered block v m) x
  raise-here v =
      ap (λ l. in_world (if m.here.hidden then world_view m.frames m.heap else enters v (record { frame = m.here.frame.0; block = block_of m.here; line = l }) (world_view m.frames m.heap)) the_run) line-is
      ∙ ap (λ w. in_world w the_run) (entered-world v (entry_of block m) m.here.hidden)

-- an exception arises

module _ (blocks : Blocks) (block : BlockCode) (next : Pc) (m : Machine) (w : Writes) where
  stands-entered : (v : Value) (q : Asking) → Stands blocks block next m q → Stands blocks block next (entered block v m) q
  stands-entered v q stands = record {
    blocks_known = stands.blocks_known;
    known = stands.known;
    there = stands.there;
    next_is = stands.next_is;
    at_place = stands.at_place;
    plain = stands.plain;
    waiting = stands.waiting;
    placed = stands.placed;
  }

  module _ (v : Value) (w1 : Writes) (q : Asking) (stands : Stands blocks block next m q) where
    abbrev landing : State Value
    landing = land (object_of q m) q.ins.rows (S.raise v) (slots_view m.here.slots)

    abbrev Done : bare.Stride (State Value) Names Value World → Type 0
    Done d = Strode q.program q.code d stride.Goes w (raised_at block v m) w1

    here : raise_here (machine q.code) (heap_host q.program) v (run_at q m) ≡ run_at q (entered block v m)
    here = raise-here q.program q.code block m q.beside q.before stands.known v

    written : logged (machine q.code) (heap_host q.program) (Told.raises v) (raise_here (machine q.code) (heap_host q.program) v (run_at q m)) ≡ raise_events v block m
    written = ap (λ t. logged (machine q.code) (heap_host q.program) (Told.raises v) t) here
        ∙ logged-raise q.program q.code block (entered block v m) q.beside q.before stands.known v

    goes-to : in_state landing (raise_here (machine q.code) (heap_host q.program) v (run_at q m)) ≡ run_of q.program (raised_at block v m) q.beside
    goes-to = ap (λ t. in_state landing t) here ∙ sym (landed-in blocks block next (entered block v m) q (stands-entered v q stands) (S.raise v))

    keeps-raised : Keeps q.program q.code (raised_at block v m) q.beside
    keeps-raised = landed-keeps q.program q.code block (entered block v m) q.beside (completion.Raise v) (landing_of block.handlers m.here.pc (completion.Raise v))
        (stands.waiting, stands.placed)

    pub raise-led : Adds w w1 (raise_events v block m) → LedTo (leads.arises v landing (stores_of q.program m)) q stride.Goes m w (raised_at block v m) w1
    raise-led adds s stored =
        subst (λ t. Done (arise (machine q.code) (heap_host q.program) (E.arisen (here_of (machine q.code) (heap_host q.program) t).active q.ask v) landing t)) (sym stored)
        (subst (λ e. Done (arise (machine q.code) (heap_host q.program) e landing (run_at q m))) (sym (stands.plain (here_of (machine q.code) (heap_host q.program) (run_at q m)).active v))
        (refl, (subst (λ ws. Adds w w1 ws) (sym written) adds, (q.beside, (inl goes-to, keeps-raised)))))
