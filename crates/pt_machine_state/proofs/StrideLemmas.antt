-- The machine did a stride of a run where it took the unit and told the line, did the row of the instruction, and did what that came to.
use Rattle.std.proofs.Common.{inl, inr, ◌≡◌, ◌∙◌, ℕ, [], true, Some, None, refl, sym, ap, subst}
use Rattle.std.specs.Prelude.{◌⊎◌, nat_lt, if◌then◌else◌}
use Rattle.std.specs.Option.{option_map}
use Rattle.pt_base.specs.declared.numbers.Pc.{Pc}
use Rattle.pt_instr.specs.declared.Instr.TheVariants as instr
use Rattle.pt_heap.specs.declared.value.Value.{Value}
use Rattle.pt_ranges.specs.declared.lines.ActMark.{ActMark}
use Rattle.pt_code.specs.View.{Ins}
use Rattle.sem_control.specs.control.Turn.{Ask}
use Rattle.sem_control.specs.control.LineEvents.{is_told}
use Rattle.sem_code.specs.slots.Slots.{on}
use Rattle.sem_code.specs.slots.Steps.{mark_of}
use Rattle.sem_code.specs.slots.Machine as slots
use Rattle.sem_code.specs.slots.Instructions.{perform}
use Rattle.sem_code.specs.slots.Needs.{Begins}
use Rattle.sem_code.proofs.slots.MarkLaw.{begins_at}
use Rattle.pt_code_facts.specs.sem_rows.pt_host.World.{Program}
use Rattle.pt_code_facts.specs.sem_rows.pt_host.HeapHost.{heap_host}
use Rattle.sem_code_machine.specs.rows.Rows.{row_of}
use Rattle.pt_bare_runs.specs.Strides.{behind, here_of, lead, line_logged, store, take_turn, take_unit, stride as stride_of}
use Rattle.sem_run.specs.run.Step.{line_before}
use Rattle.sem_code_machine.specs.code_machine.CodeBlocks.{CodeBlocks, machine}
use Rattle.sem_code.specs.comp_expr.Law.{active_at}
use Rattle.pt_frames.specs.Slots.{active_in}
use Rattle.sem_run.specs.transitions.Successors as leads
use Rattle.pt_code_facts.specs.sem_rows.declared.heap_rows.progress.Progress.{Progress}
use Rattle.pt_code_facts.specs.sem_rows.declared.heap_rows.progress.Progress.TheVariants as progress
use Rattle.pt_code_facts.specs.sem_rows.heap_rows.Leads.{HeapSuccessor, IsStuck}
use Rattle.pt_code_facts.specs.sem_rows.heap_rows.Told.{told, IfActive}
use Rattle.pt_code_facts.specs.sem_rows.heap_rows.Views.{slots_view}
use Rattle.pt_machine_state.specs.declared.blocks.BlockCode.{BlockCode}
use Rattle.pt_machine_state.specs.declared.blocks.Blocks.{Blocks}
use Rattle.pt_machine_state.specs.declared.machine.Machine.{Machine}
use Rattle.pt_machine_state.specs.declared.machine.Standing.TheVariants as standing
use Rattle.pt_machine_state.specs.declared.machine.Stride.{Stride}
use Rattle.pt_machine_state.specs.declared.writes.Writes.{Writes}
use Rattle.pt_machine_state.specs.Writing.{Adds}
use Rattle.pt_machine_state.specs.Blocks.{IsBlockOf}
use Rattle.pt_machine_state.specs.Views.{Bare, Beside, IsPlain, AllWait, block_of, state_of, run_in, run_of, stores_of}
use Rattle.pt_machine_state.specs.Strode.{Strode}
use Rattle.pt_machine_state.specs.Changes.{at_act, line_events}
use Rattle.pt_machine_state.specs.Applies.{Asking, Stands, Applied}
use Rattle.pt_machine_state.specs.Laws.{RowDone, behind_row, row_at, AtRow, UnmarkedStrides, MarkedStrides}
use Rattle.pt_machine_state.proofs.WriteLemmas.{behind-strode}
use Rattle.pt_machine_state.proofs.LandLemmas.{active-view}
use Rattle.pt_machine_state.proofs.ApplyLemmas.{logged-line-event}
use Rattle.pt_machine_state.proofs.PlainLemmas.{Plainly, plain_instruction}
use Rattle.pt_machine_state.proofs.TurnLemmas.{unmarked, marked}

module _ (program : Program) (code : CodeBlocks Value) (n : ℕ) (m : Machine) (x : Beside) (r : Stride) (w : Writes) (new : Machine) (w1 : Writes)
    (i : Ins) (is : m.standing ≡ standing.AtPlace) (there : (code.object (block_of m.here)).at m.here.pc.0 ≡ Some i) where
  abbrev pub before : Bare
  before = run_in program (on m.here.pc.0 (slots_view m.here.slots)) m x

  -- where the row of the instruction leads from a state
  abbrev Led : Bare → Ask Value → Type 0
  Led s a =
      Strode program code (lead (machine code) (heap_host program) a
      (row_of (heap_host program) (code.object (block_of m.here)) m.here.pc.0 i i.instr (slots_view m.here.slots) (here_of (machine code) (heap_host program) s) (store s)) s) r w new w1

  pub at-place : Strode program code (take_turn (machine code) (heap_host program) n (perform (code.object (block_of m.here)) m.here.pc.0 i i.instr (slots_view m.here.slots)) before) r w new w1
      → Strode program code (stride_of (machine code) (heap_host program) n (run_of program m x)) r w new w1
  at-place f = subst (λ s. Strode program code (stride_of (machine code) (heap_host program) n (run_in program (state_of s m.here) m x)) r w new w1) (sym is)
      (subst (λ o. Strode program code (take_turn (machine code) (heap_host program) n (slots.here (code.object (block_of m.here)) m.here.pc.0 o (slots_view m.here.slots)) before) r w new w1) (sym there) f)

  begins : Begins (option_map mark_of i.mark) (perform (code.object (block_of m.here)) m.here.pc.0 i i.instr (slots_view m.here.slots))
  begins = subst (λ o. Begins (option_map mark_of i.mark) (slots.here (code.object (block_of m.here)) m.here.pc.0 o (slots_view m.here.slots))) there
      (begins_at (code.object (block_of m.here)) m.here.pc.0 i (slots_view m.here.slots) there)

  plainly : (i.instr ≡ instr.RaiseAgain → ⊥) → Plainly (perform (code.object (block_of m.here)) m.here.pc.0 i i.instr (slots_view m.here.slots))
  plainly other = plain_instruction (code.object (block_of m.here)) m.here.pc.0 i i.instr (slots_view m.here.slots) other

  -- without a mark the stride is where the row leads
  pub unmarked_stride : (i.instr ≡ instr.RaiseAgain → ⊥) → i.mark ≡ None → ((a : Ask Value) → IsPlain a → Led before a)
      → Strode program code (stride_of (machine code) (heap_host program) n (run_of program m x)) r w new w1
  unmarked_stride other none f =
      at-place (unmarked program code n r w new w1 (perform (code.object (block_of m.here)) m.here.pc.0 i i.instr (slots_view m.here.slots)) before
      (subst (λ k. Begins (option_map mark_of k) (perform (code.object (block_of m.here)) m.here.pc.0 i i.instr (slots_view m.here.slots))) none begins) (plainly other) f)

  -- with a mark the act takes its unit, and the line is told before it
  pub marked_stride : (i.instr ≡ instr.RaiseAgain → ⊥) → (k : ActMark) → i.mark ≡ Some k → nat_lt m.units n ≡ true
      → ((a : Ask Value) → IsPlain a → Strode program code (behind (line_logged (machine code) (heap_host program) (mark_of k) (line_before before.here) (take_unit (mark_of k) before))
      (lead (machine code) (heap_host program) a
      (row_of (heap_host program) (code.object (block_of m.here)) m.here.pc.0 i i.instr (slots_view m.here.slots)
      (here_of (machine code) (heap_host program) (take_unit (mark_of k) before)) (store (take_unit (mark_of k) before))) (take_unit (mark_of k) before))) r w new w1)
      → Strode program code (stride_of (machine code) (heap_host program) n (run_of program m x)) r w new w1
  marked_stride other k is_mark left f =
      at-place (marked program code n r w new w1 (mark_of k) (perform (code.object (block_of m.here)) m.here.pc.0 i i.instr (slots_view m.here.slots)) before
      (subst (λ j. Begins (option_map mark_of j) (perform (code.object (block_of m.here)) m.here.pc.0 i i.instr (slots_view m.here.slots))) is_mark begins) (plainly other) left f)

-- the same by what the machine did

-- of a run that is stuck nothing is said
stuck-led : (program : Program) (code : CodeBlocks Value) (r : Stride) (w : Writes) (new : Machine) (w1 : Writes) (a : Ask Value) (s : Bare) (t : HeapSuccessor) → IsStuck t
    → Strode program code (lead (machine code) (heap_host program) a t s) r w new w1
stuck-led program code r w new w1 a s leads.none stuck = tt
stuck-led program code r w new w1 a s (leads.behind_yield v k st) stuck = tt
stuck-led program code r w new w1 a s (leads.to c st) stuck = absurd stuck
stuck-led program code r w new w1 a s (leads.arises v c st) stuck = absurd stuck
stuck-led program code r w new w1 a s (leads.behind_print t k) stuck = absurd stuck
stuck-led program code r w new w1 a s (leads.behind_request q st k) stuck = absurd stuck
stuck-led program code r w new w1 a s (leads.behind_note v k) stuck = absurd stuck
stuck-led program code r w new w1 a s (leads.outside what) stuck = absurd stuck
stuck-led program code r w new w1 a s (leads.end e) stuck = absurd stuck

if-active : {A B : Type 0} (p : Progress) → (A → B) → IfActive p A → IfActive p B
if-active (progress.Raises e) f a = f a
if-active progress.RaisesAgain f a = f a
if-active (progress.Fails class arg) f a = f a
if-active (progress.FailsSaying class t) f a = f a
if-active (progress.Calls b hidden ls why) f a = f a
if-active progress.Next f a = tt
if-active (progress.Goto pc) f a = tt
if-active (progress.Leaves how) f a = tt
if-active (progress.Reraises e) f a = tt
if-active (progress.Print t) f a = tt
if-active (progress.Outside what) f a = tt
if-active progress.Lacks f a = tt

module _ (program : Program) (code : CodeBlocks Value) (blocks : Blocks) (block : BlockCode) (next : Pc) (m : Machine) (i : Ins) (d : RowDone)
    (at : AtRow program code blocks block next i d m m) (x : Beside) (waits : AllWait program code (block_of m.here) m.frames.activations x.waiting) where
  abbrev at_instruction : Bare
  at_instruction = run_in program (on m.here.pc.0 (slots_view m.here.slots)) m x

  abbrev asking : Ask Value → Asking
  asking a = record { program = program; code = code; ins = i; ask = a; beside = x; before = on m.here.pc.0 (slots_view m.here.slots) }

  stands-behind : (a : Ask Value) → IsPlain a → Stands blocks block next (behind_row d m) (asking a)
  stands-behind a plain = record {
    blocks_known = at.known;
    known = subst (λ b. IsBlockOf program code (block_of m.here) b) (sym at.is_block) (at.known (block_of m.here));
    there = at.there;
    next_is = at.next_is;
    at_place = at.at_place;
    plain = plain;
    waiting = waits;
    placed = at.placed;
  }

  -- what it needs to know of the active exception
  active-known : IfActive d.progress (active_at (on m.here.pc.0 (slots_view m.here.slots)) ≡ active_in d.slots)
  active-known = if-active d.progress (λ same. active-view m.here.slots ∙ sym same) at.same_active

  -- where the row leads the machine went
  pub row-led : (r : Stride) (w w1 : Writes) (new : Machine) → Applied blocks block next d.progress r (behind_row d m) w new w1 → (a : Ask Value) → IsPlain a
      → Strode program code (lead (machine code) (heap_host program) a
      (row_of (heap_host program) (code.object (block_of m.here)) m.here.pc.0 i i.instr (slots_view m.here.slots)
      (here_of (machine code) (heap_host program) at_instruction) (stores_of program m)) at_instruction) r w new w1
  unfolding Applied
  row-led r w w1 new applied a plain =
      by (at.row (here_of (machine code) (heap_host program) at_instruction) refl)
    where
      by : IsStuck (row_at program code i m (here_of (machine code) (heap_host program) at_instruction))
          ⊎ (told program (code.object (block_of m.here)) i (here_of (machine code) (heap_host program) at_instruction) d.progress (slots_view d.slots) (stores_of program (behind_row d m))
          ≡ row_at program code i m (here_of (machine code) (heap_host program) at_instruction))
          → Strode program code (lead (machine code) (heap_host program) a (row_at program code i m (here_of (machine code) (heap_host program) at_instruction)) at_instruction) r w new w1
      by (inl stuck) = stuck-led program code r w new w1 a at_instruction (row_at program code i m (here_of (machine code) (heap_host program) at_instruction)) stuck
      by (inr row) = subst (λ t. Strode program code (lead (machine code) (heap_host program) a t at_instruction) r w new w1) row
          (applied (asking a) (stands-behind a plain) active-known at_instruction refl)

pub unmarked_done : UnmarkedStrides
unfolding UnmarkedStrides
unmarked_done program code blocks block next n m i d at none x waits r w w1 new applied =
    unmarked_stride program code n m x r w new w1 i at.at_place at.there at.other none (row-led program code blocks block next m i d at x waits r w w1 new applied)

-- with a mark

module _ (program : Program) (code : CodeBlocks Value) (block : BlockCode) (m : Machine) (k : ActMark) (known : IsBlockOf program code (block_of m.here) block) (x : Beside) where
  abbrev pub acting : Beside
  acting = record { act = k.act.0; waiting = x.waiting }

  abbrev pub from_start : Bare
  from_start = run_in program (on m.here.pc.0 (slots_view m.here.slots)) m x

  pub line-told : line_logged (machine code) (heap_host program) (mark_of k) (line_before from_start.here) (take_unit (mark_of k) from_start) ≡ line_events k block m
  line-told = ap (λ l. if is_told (option_map (λ j. j.0) m.here.line) (mark_of k) then l else [])
      (logged-line-event program code block (at_act k m) acting (on m.here.pc.0 (slots_view m.here.slots)) known)

at-act : (program : Program) (code : CodeBlocks Value) (blocks : Blocks) (block : BlockCode) (next : Pc) (m : Machine) (i : Ins) (d : RowDone) (k : ActMark)
    → AtRow program code blocks block next i d m (at_act k m) → AtRow program code blocks block next i d (at_act k m) (at_act k m)
at-act program code blocks block next m i d k at = record {
  known = at.known;
  is_block = at.is_block;
  at_place = at.at_place;
  there = at.there;
  next_is = at.next_is;
  other = at.other;
  same_active = at.same_active;
  placed = at.placed;
  row = at.row;
}

pub marked_done : MarkedStrides
unfolding MarkedStrides
marked_done program code blocks block next n m i d k at is_mark left x waits r w w0 w1 new adds applied =
    let known : IsBlockOf program code (block_of m.here) block = subst (λ b. IsBlockOf program code (block_of m.here) b) (sym at.is_block) (at.known (block_of m.here)) in
    marked_stride program code n m x r w new w1 i at.at_place at.there at.other k is_mark left
    (λ a plain. behind-strode program code (lead (machine code) (heap_host program) a
    (row_of (heap_host program) (code.object (block_of m.here)) m.here.pc.0 i i.instr (slots_view m.here.slots)
    (here_of (machine code) (heap_host program) (run_in program (on m.here.pc.0 (slots_view m.here.slots)) (at_act k m) (acting program code block m k known x))) (stores_of program (at_act k m)))
    (run_in program (on m.here.pc.0 (slots_view m.here.slots)) (at_act k m) (acting program code block m k known x))) (line_logged (machine code) (heap_host program) (mark_of k) (line_before (from_start program code block m k known x).here) (take_unit (mark_of k) (from_start program code block m k known x)))
    r w w0 new w1 (subst (λ ws. Adds w w0 ws) (sym (line-told program code block m k known x)) adds)
    (row-led program code blocks block next (at_act k m) i d (at-act program code blocks block next m i d k at) (acting program code block m k known x) waits r w0 w1 new applied a plain))
