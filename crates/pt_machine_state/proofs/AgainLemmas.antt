-- The machine did a stride of a run at `raise` alone where it did what that comes to: what lands again is not told.
use Rattle.std.proofs.Common.{◌≡◌, ◌∙◌, ℕ, [], true, Option, Some, None, refl, sym, ap, subst}
use Rattle.std.specs.Prelude.{codes, nat_lt}
use Rattle.std.specs.Option.{option_map}
use Rattle.pt_base.specs.declared.numbers.Pc.{Pc}
use Rattle.pt_instr.specs.declared.Instr.TheVariants as instr
use Rattle.pt_heap.specs.declared.value.Value.{Value}
use Rattle.pt_ranges.specs.declared.lines.ActMark.{ActMark}
use Rattle.pt_code.specs.View.{Ins}
use Rattle.sem_control.specs.control.Turn as T
use Rattle.sem_control.specs.control.Turn.{Mark, Ask, Answer, Reply, Turn}
use Rattle.sem_control.specs.control.Events as E
use Rattle.sem_code.specs.slots.Slots as S
use Rattle.sem_code.specs.slots.Slots.{Slots, State, on}
use Rattle.sem_code.specs.slots.CodeObject.{CodeObject}
use Rattle.sem_code.specs.slots.Landing.{land}
use Rattle.sem_code.specs.slots.Steps.{after, mark_of, throws}
use Rattle.sem_code.specs.slots.Instructions.{perform}
use Rattle.sem_code.specs.comp_expr.Law.{active_at}
use Rattle.pt_frames.specs.Slots.{active_in}
use Rattle.sem_run.specs.run.Host.{Here, made, beyond}
use Rattle.sem_run.specs.transitions.Transitions.{transition}
use Rattle.sem_run.specs.transitions.Successors.{successor}
use Rattle.sem_run.specs.run.Step.{line_before}
use Rattle.pt_code_facts.specs.sem_rows.pt_host.World.{Stores, Program, Allotted, with_objects}
use Rattle.pt_code_facts.specs.sem_rows.pt_host.HeapHost.{heap_host}
use Rattle.pt_code_facts.specs.sem_rows.pt_host.Trees.{raise_with}
use Rattle.pt_code_facts.specs.sem_rows.pt_host.Errors.{error_saying}
use Rattle.pt_code_facts.specs.sem_rows.pt_host.Raising.{raise_active}
use Rattle.pt_code_facts.specs.sem_rows.pt_host.declared.places.TheConstants.{RUNTIME_ERROR}
use Rattle.pt_code_facts.specs.sem_rows.heap_rows.Leads.{HeapSuccessor, by_tree, found, giving}
use Rattle.pt_code_facts.specs.sem_rows.heap_rows.Told.{told, IfActive}
use Rattle.pt_code_facts.specs.sem_rows.heap_rows.Views.{slots_view}
use Rattle.pt_code_facts.proofs.sem_rows.heap_rows.RowLemmas.{asks_lead}
use Rattle.pt_bare_runs.specs.Strides.{arise, behind, here_of, lead, line_logged, store, take_turn, take_unit, with_store, stride as stride_of}
use Rattle.sem_code_machine.specs.code_machine.CodeBlocks.{CodeBlocks, machine}
use Rattle.pt_machine_state.specs.declared.blocks.BlockCode.{BlockCode}
use Rattle.pt_machine_state.specs.declared.blocks.Blocks.{Blocks}
use Rattle.pt_machine_state.specs.declared.machine.Machine.{Machine}
use Rattle.pt_machine_state.specs.declared.machine.Stride.{Stride}
use Rattle.pt_machine_state.specs.declared.writes.Writes.{Writes}
use Rattle.pt_machine_state.specs.Writing.{Adds}
use Rattle.pt_machine_state.specs.Blocks.{IsBlockOf}
use Rattle.pt_machine_state.specs.Views.{Bare, Beside, AllWait, active_of, block_of, run_in, run_of, stores_of}
use Rattle.pt_machine_state.specs.Strode.{Strode}
use Rattle.pt_machine_state.specs.Changes.{at_act, line_events}
use Rattle.pt_machine_state.specs.Applies.{Asking, Stands, Applied}
use Rattle.pt_machine_state.specs.Laws.{AtAgain, UnmarkedAgain, MarkedAgain, again_of}
use Rattle.pt_machine_state.proofs.WriteLemmas.{behind-strode}
use Rattle.pt_machine_state.proofs.LandLemmas.{active-view}
use Rattle.pt_machine_state.proofs.FailLemmas.{active-here}
use Rattle.pt_machine_state.proofs.PlainLemmas.{plain_deed}
use Rattle.pt_machine_state.proofs.TurnLemmas.{begun}
use Rattle.pt_machine_state.proofs.StrideLemmas.{at-place, acting, from_start, line-told}

again_active : {A : Type 0} (o : Option Value) → A → IfActive (again_of o) A
again_active (Some v) a = tt
again_active None a = a

abbrev again : Ask Value
again = T.throw T.raising_again

abbrev nothing : Ask Value
nothing = T.deed T.nothing

-- from a state of a run: where that leads, what it comes to leads plainly
module _ (program : Program) (code : CodeBlocks Value) (obj : CodeObject Value) (i : Ins) (ss : Slots Value) (s : Bare) where
  abbrev here : Here Value
  here = here_of (machine code) (heap_host program) s

  abbrev leads_to : Ask Value → HeapSuccessor → Rattle.pt_bare_runs.specs.Strides.Stride (State Value) Rattle.pt_code_facts.specs.sem_rows.pt_host.World.Names Value Rattle.pt_code_facts.specs.sem_rows.pt_host.World.World
  leads_to a t = lead (machine code) (heap_host program) a t s

  -- one that is made where none is active
  saying_led : (next : Answer Value again → State Value) (t : Allotted) → here.active ≡ None
      → leads_to again (by_tree obj i next ss (raise_with t (store s))) ≡ leads_to nothing (by_tree obj i (giving obj i ss) ss (raise_with t (store s)))
  saying_led next (made u k) none =
      let lands : State Value = land obj i.rows (S.raise u) ss in
      ap (λ o. arise (machine code) (heap_host program) (E.arisen o again u) lands (with_store (with_objects k (store s)) s)) none
      ∙ sym (ap (λ o. arise (machine code) (heap_host program) (E.arisen o nothing u) lands (with_store (with_objects k (store s)) s)) none)
  saying_led next (beyond what) none = refl

  again_by : (next : Answer Value again → State Value) (o : Option Value) → here.active ≡ o
      → leads_to again (by_tree obj i next ss (raise_active o here (store s))) ≡ leads_to nothing (told program obj i here (again_of o) ss (store s))
  again_by next (Some v) is =
      ap (λ o. arise (machine code) (heap_host program) (E.arisen o again v) (land obj i.rows (S.raise v) ss) (with_store (store s) s)) is
  again_by next None is = saying_led next (error_saying RUNTIME_ERROR (codes "no active exception") None here.active (store s).world.heap) is

  abbrev raises : Reply Value (Answer Value again) → State Value
  raises = after obj i ss (λ x. elim x [ ])

  abbrev row : Option Mark → HeapSuccessor
  row m = successor (transition (heap_host program) (T.act m again raises) here (store s))

  pub again_led : (m : Option Mark) → option_map mark_of i.mark ≡ m → leads_to again (row m) ≡ leads_to nothing (told program obj i here (again_of here.active) ss (store s))
  again_led m is =
      ap (λ t. leads_to again t) (subst (λ x. row x ≡ by_tree obj i (found again (λ x. elim x [ ])) ss (raise_active here.active here (store s))) is
      (asks_lead program obj i here (store s) again (λ x. elim x [ ]) ss tt))
      ∙ again_by (found again (λ x. elim x [ ])) here.active refl

module _ (program : Program) (code : CodeBlocks Value) (blocks : Blocks) (block : BlockCode) (next : Pc) (m : Machine) (i : Ins)
    (at : AtAgain program code blocks block next i m) (x : Beside) (waits : AllWait program code (block_of m.here) m.frames.activations x.waiting) where
  abbrev obj : CodeObject Value
  obj = code.object (block_of m.here)

  abbrev start : Bare
  start = run_in program (on m.here.pc.0 (slots_view m.here.slots)) m x

  abbrev asking : Asking
  asking = record { program = program; code = code; ins = i; ask = nothing; beside = x; before = on m.here.pc.0 (slots_view m.here.slots) }

  stands : Stands blocks block next m asking
  stands = record {
    blocks_known = at.known;
    known = subst (λ b. IsBlockOf program code (block_of m.here) b) (sym at.is_block) (at.known (block_of m.here));
    there = at.there;
    next_is = at.next_is;
    at_place = at.at_place;
    plain = plain_deed T.nothing;
    waiting = waits;
    placed = at.placed;
  }

  -- where the turn leads the machine went
  pub led_again : (mark : Option Mark) → option_map mark_of i.mark ≡ mark → (r : Stride) (w w1 : Writes) (new : Machine) → Applied blocks block next (again_of (active_of m)) r m w new w1
      → Strode program code (lead (machine code) (heap_host program) again (row program code obj i (slots_view m.here.slots) start mark) start) r w new w1
  unfolding Applied
  led_again mark is r w w1 new applied =
      let seen : active_at (on m.here.pc.0 (slots_view m.here.slots)) ≡ active_in m.here.slots = active-view m.here.slots in
      subst (λ d. Strode program code d r w new w1) (sym (again_led program code obj i (slots_view m.here.slots) start mark is))
      (subst (λ o. Strode program code (lead (machine code) (heap_host program) nothing (told program obj i (here_of (machine code) (heap_host program) start) (again_of o) (slots_view m.here.slots) (store start)) start) r w new w1)
      (sym (active-here blocks block next m asking stands seen))
      (applied asking stands (again_active (active_of m) seen) start refl))

  turns_again : (n : ℕ) (s : Bare) (r : Stride) (w w1 : Writes) (new : Machine) (mark : Option Mark) → option_map mark_of i.mark ≡ mark
      → Strode program code (take_turn (machine code) (heap_host program) n (T.act mark again (after obj i (slots_view m.here.slots) (λ x. elim x [ ]))) s) r w new w1
      → Strode program code (take_turn (machine code) (heap_host program) n (perform obj m.here.pc.0 i i.instr (slots_view m.here.slots)) s) r w new w1
  turns_again n s r w w1 new mark is f =
      subst (λ j. Strode program code (take_turn (machine code) (heap_host program) n (perform obj m.here.pc.0 i j (slots_view m.here.slots)) s) r w new w1) (sym at.again)
      (subst (λ k. Strode program code (take_turn (machine code) (heap_host program) n (T.act k again (after obj i (slots_view m.here.slots) (λ x. elim x [ ]))) s) r w new w1) (sym is) f)

pub unmarked_again : UnmarkedAgain
unfolding UnmarkedAgain
unmarked_again program code blocks block next n m i at none x waits r w w1 new applied =
    let is : option_map mark_of i.mark ≡ None = ap (λ k. option_map mark_of k) none in
    at-place program code n m x r w new w1 i at.at_place at.there
    (turns_again program code blocks block next m i at x waits n (start program code blocks block next m i at x waits) r w w1 new None is
    (led_again program code blocks block next m i at x waits None is r w w1 new applied))

acts_again : (program : Program) (code : CodeBlocks Value) (blocks : Blocks) (block : BlockCode) (next : Pc) (m : Machine) (i : Ins) (k : ActMark)
    → AtAgain program code blocks block next i m → AtAgain program code blocks block next i (at_act k m)
acts_again program code blocks block next m i k at = record {
  known = at.known;
  is_block = at.is_block;
  at_place = at.at_place;
  there = at.there;
  next_is = at.next_is;
  placed = at.placed;
  again = at.again;
}

pub marked_again : MarkedAgain
unfolding MarkedAgain
marked_again program code blocks block next n m i k at is_mark left x waits r w w0 w1 new adds applied =
    let known : IsBlockOf program code (block_of m.here) block = subst (λ b. IsBlockOf program code (block_of m.here) b) (sym at.is_block) (at.known (block_of m.here)) in
    let is : option_map mark_of i.mark ≡ Some (mark_of k) = ap (λ j. option_map mark_of j) is_mark in
    let begin : Bare = from_start program code block m k known x in
    let beside : Beside = acting program code block m k known x in
    at-place program code n m x r w new w1 i at.at_place at.there
    (turns_again program code blocks block next m i at x waits n begin r w w1 new (Some (mark_of k)) is
    (begun program code n r w new w1 (mark_of k) again (after (code.object (block_of m.here)) i (slots_view m.here.slots) (λ x. elim x [ ])) begin left
    (behind-strode program code (lead (machine code) (heap_host program) again
    (row program code (code.object (block_of m.here)) i (slots_view m.here.slots) (take_unit (mark_of k) begin) (Some (mark_of k))) (take_unit (mark_of k) begin))
    (line_logged (machine code) (heap_host program) (mark_of k) (line_before begin.here) (take_unit (mark_of k) begin)) r w w0 new w1
    (subst (λ ws. Adds w w0 ws) (sym (line-told program code block m k known x)) adds)
    (led_again program code blocks block next (at_act k m) i (acts_again program code blocks block next m i k at) beside waits (Some (mark_of k)) is r w0 w1 new applied))))
