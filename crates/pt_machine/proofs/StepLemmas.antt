-- The machine did a stride where it did what stands at its place, or closed its block.
use Rattle.std.proofs.Common.{inl, inr, ◌≡◌, ◌∙◌, ℕ, ◌≤◌, true, false, Option, Some, None, length, refl, sym, ap, subst}
use Rattle.std.specs.Prelude.{nat_lt}
use Rattle.std.specs.Option.{option_map}
use Rattle.pt_instr.specs.declared.Instr.TheVariants as instr
use Rattle.pt_heap.specs.declared.value.Value.{Value}
use Rattle.pt_ranges.specs.declared.lines.ActMark.{ActMark}
use Rattle.pt_code.specs.View.{Ins}
use Rattle.sem_control.specs.control.Turn.{Turn}
use Rattle.sem_code.specs.slots.Slots.{State, on}
use Rattle.sem_code.specs.slots.Steps.{mark_of}
use Rattle.sem_code.specs.slots.Machine as slots
use Rattle.sem_code.specs.slots.Needs.{Begins}
use Rattle.sem_code.proofs.slots.MarkLaw.{begins_at}
use Rattle.pt_code_tables.specs.pt_machine_state.pt_code_facts.sem_rows.heap_rows.Views.{slots_view}
use Rattle.pt_places.specs.declared.places.Place.{Place}
use Rattle.pt_places.specs.PlaceTable.{entry, place_at, place_of}
use Rattle.pt_code_tables.specs.pt_builtins.pt_host.World.{Program}
use Rattle.pt_code_tables.specs.pt_builtins.pt_host.HeapHost.{heap_host}
use Rattle.pt_bare_runs.specs.Strides.{take_turn, stride as stride_of}
use Rattle.sem_code_machine.specs.code_machine.CodeBlocks.{CodeBlocks, machine}
use Rattle.pt_code_tables.specs.pt_machine_state.pt_code_facts.sem_rows.declared.heap_rows.progress.Progress.{Progress}
use Rattle.pt_code_tables.specs.pt_machine_state.pt_code_facts.sem_rows.declared.heap_rows.progress.Progress.TheVariants as progress
use Rattle.pt_base.specs.declared.numbers.Pc.{Pc}
use Rattle.pt_fast_rows.specs.FastPaths.{Led, place_behind}
use Rattle.pt_code_tables.specs.pt_machine_state.declared.blocks.BlockCode.{BlockCode}
use Rattle.pt_code_tables.specs.pt_machine_state.declared.machine.Machine.{Machine}
use Rattle.pt_code_tables.specs.pt_machine_state.declared.machine.MachineEnd.TheVariants as end
use Rattle.pt_code_tables.specs.pt_machine_state.declared.machine.Standing.TheVariants as standing
use Rattle.pt_code_tables.specs.pt_machine_state.declared.machine.Stride.{Stride}
use Rattle.pt_code_tables.specs.pt_machine_state.declared.machine.Stride.TheVariants as stride
use Rattle.pt_code_tables.specs.pt_machine_state.declared.writes.Writes.{Writes}
use Rattle.pt_code_tables.specs.pt_machine_state.Writing.{Adds}
use Rattle.pt_code_tables.specs.pt_machine_state.Blocks.{block_at}
use Rattle.pt_code_tables.specs.pt_machine_state.Views.{Bare, Beside, active_of, block_of, state_of, run_in, run_of}
use Rattle.pt_code_tables.specs.pt_machine_state.Strode.{Strode}
use Rattle.pt_code_tables.specs.pt_machine_state.Changes.{at_act, line_events, gone_to}
use Rattle.pt_code_tables.specs.pt_machine_state.Applies.{Applied, Closes}
use Rattle.pt_code_tables.specs.pt_machine_state.Laws as laws
use Rattle.pt_code_tables.specs.pt_machine_state.Laws.{AtAgain, AtRow, again_of, behind_row}
use Rattle.pt_code_tables.proofs.pt_machine_state.ApplyLemmas.{applied_next, applied_goto}
use Rattle.pt_code_tables.proofs.pt_machine_state.TurnLemmas.{spent}
use Rattle.pt_code_tables.proofs.pt_machine_state.StrideLemmas.{unmarked_done, marked_done}
use Rattle.pt_code_tables.proofs.pt_machine_state.AgainLemmas.{unmarked_again, marked_again}
use Rattle.pt_code_tables.specs.declared.tables.CodeTables.{CodeTables}
use Rattle.pt_code_tables.specs.Tables.{AreTablesOf}
use Rattle.pt_machine.specs.Strides.{MachineHasNames, Strides}
use Rattle.pt_machine.proofs.OwnNames.{cells-placed, has-own-names, locals-placed}
use Rattle.pt_machine.specs.Performing.{Does, NamesPlaces, Performs, GoesOn, IsRowIn, row_done}

-- the turn of a run at a place

module _ (program : Program) (code : CodeBlocks Value) (n : ℕ) (m : Machine) (x : Beside) (r : Stride) (w : Writes) (new : Machine) (w1 : Writes) where
  abbrev standing_there : Bare
  standing_there = run_in program (on m.here.pc.0 (slots_view m.here.slots)) m x

  abbrev turned : Option Ins → Turn (State Value) Value
  turned o = slots.here (code.object (block_of m.here)) m.here.pc.0 o (slots_view m.here.slots)

  at-place : m.standing ≡ standing.AtPlace → (o : Option Ins) → (code.object (block_of m.here)).at m.here.pc.0 ≡ o
      → Strode program code (take_turn (machine code) (heap_host program) n (turned o) standing_there) r w new w1
      → Strode program code (stride_of (machine code) (heap_host program) n (run_of program m x)) r w new w1
  at-place is o there f =
      subst (λ s. Strode program code (stride_of (machine code) (heap_host program) n (run_in program (state_of s m.here) m x)) r w new w1) (sym is)
      (subst (λ q. Strode program code (take_turn (machine code) (heap_host program) n (turned q) standing_there) r w new w1) (sym there) f)

-- no unit is left for the act that would begin
spent-done : (program : Program) (code : CodeBlocks Value) (n : ℕ) (m : Machine) (x : Beside) (w : Writes) (i : Ins) → m.standing ≡ standing.AtPlace
    → (code.object (block_of m.here)).at m.here.pc.0 ≡ Some i → (k : ActMark) → i.mark ≡ Some k → nat_lt m.units n ≡ false
    → Strode program code (stride_of (machine code) (heap_host program) n (run_of program m x)) (stride.Ends end.Spent) w m w
spent-done program code n m x w i is there k is_mark none =
    at-place program code n m x (stride.Ends end.Spent) w m w is (Some i) there
    (spent program code n m w (mark_of k) (turned program code n m x (stride.Ends end.Spent) w m w (Some i)) (standing_there program code n m x (stride.Ends end.Spent) w m w)
    (subst (λ j. Begins (option_map mark_of j) (turned program code n m x (stride.Ends end.Spent) w m w (Some i))) is_mark
    (subst (λ o. Begins (option_map mark_of i.mark) (turned program code n m x (stride.Ends end.Spent) w m w o)) there
    (begins_at (code.object (block_of m.here)) m.here.pc.0 i (slots_view m.here.slots) there))) refl none)

-- an instruction that stands at the place of the machine names places of its activation
names-places : (program : Program) (code : CodeBlocks Value) (m : Machine) → MachineHasNames program code m → (i : Ins)
    → (code.object (block_of m.here)).at m.here.pc.0 ≡ Some i → NamesPlaces program code i.instr m
names-places program code m names i there = record {
  operands = names.names_blocks.operands (block_of m.here) m.here.pc.0 i there;
  locals = locals-placed program code m names;
  cells = cells-placed program code m names;
}

-- what stands at the place of the machine
record Found (code : CodeBlocks Value) (m : Machine) (place : Place) : Type 0 where
  pub ins : Ins
  pub there : (code.object (block_of m.here)).at m.here.pc.0 ≡ Some ins
  pub is : place ≡ place_of ins.instr ins.mark ins.next

some-same : {A : Type 0} (a b : A) → Some a ≡ Some b → a ≡ b
some-same a b e = cc

module _ (tables : CodeTables) (block : BlockCode) (place : Place) (m : Machine) (is_block : block ≡ block_at tables.blocks (block_of m.here))
    (is_there : entry block.places m.here.pc.0 ≡ Some place) (at_place : m.standing ≡ standing.AtPlace) where
  found : (program : Program) (code : CodeBlocks Value) → AreTablesOf program code tables → Found code m place
  found program code known =
      by ((code.object (block_of m.here)).at m.here.pc.0) refl (sym ((known.blocks (block_of m.here)).places m.here.pc.0) ∙ (ap (λ b. entry b.places m.here.pc.0) (sym is_block) ∙ is_there))
    where
      by : (o : Option Ins) → (code.object (block_of m.here)).at m.here.pc.0 ≡ o → place_at o ≡ Some place → Found code m place
      by (Some i) e f = record { ins = i; there = e; is = sym (some-same _ place f) }
      by None e f = absurd (cc)

  -- it names places of the activation
  can : (program : Program) (code : CodeBlocks Value) → AreTablesOf program code tables → MachineHasNames program code m → NamesPlaces program code place.instr m
  can program code known names =
      let f = found program code known in
      subst (λ j. NamesPlaces program code j m) (ap (λ q. q.instr) (sym f.is)) (names-places program code m names f.ins f.there)

  can-act : (program : Program) (code : CodeBlocks Value) → AreTablesOf program code tables → MachineHasNames program code m → (k : ActMark)
      → NamesPlaces program code place.instr (at_act k m)
  can-act program code known names k =
      let c = can program code known names in record { operands = c.operands; locals = c.locals; cells = c.cells }

  -- without an act
  unmarked-by : (p : Progress) (mid new : Machine) (w w1 : Writes) (r : Stride) (n : ℕ) → place.mark ≡ None → (place.instr ≡ instr.RaiseAgain → ⊥) → Performs tables place.instr p m mid
      → Applied tables.blocks block place.next p r mid w new w1 → Strides tables n r m w new w1
  unfolding Strides IsRowIn laws.UnmarkedStrides
  unmarked-by p mid new w w1 r n none other performs applied program code x known names waits =
      let f = found program code known in
      unmarked_done program code tables.blocks block place.next n m f.ins (row_done p mid) (record {
        known = known.blocks;
        is_block = is_block;
        at_place = at_place;
        there = f.there;
        next_is = ap (λ q. q.next.0) (sym f.is);
        other = λ e. other (ap (λ q. q.instr) f.is ∙ e);
        same_active = performs.active;
        placed = inr (subst (λ n. length (program.facts (block_of m.here)).locals ≤ n) (sym performs.places) (locals-placed program code m names));
        row = performs.row program code known (can program code known names) f.ins (ap (λ q. q.instr) (sym f.is));
      }) (ap (λ q. q.mark) (sym f.is) ∙ none) x waits r w w1 new
      (subst (λ o. Applied tables.blocks block place.next p r o w new w1) performs.rest applied)

  -- with one, whose unit is taken and whose line is told first
  marked-by : (p : Progress) (mid new : Machine) (w w0 w1 : Writes) (r : Stride) (n : ℕ) (k : ActMark) → place.mark ≡ Some k → nat_lt m.units n ≡ true
      → Adds w w0 (line_events k block m) → (place.instr ≡ instr.RaiseAgain → ⊥) → Performs tables place.instr p (at_act k m) mid
      → Applied tables.blocks block place.next p r mid w0 new w1 → Strides tables n r m w new w1
  unfolding Strides IsRowIn laws.MarkedStrides
  marked-by p mid new w w0 w1 r n k is_mark left adds other performs applied program code x known names waits =
      let f = found program code known in
      marked_done program code tables.blocks block place.next n m f.ins (row_done p mid) k (record {
        known = known.blocks;
        is_block = is_block;
        at_place = at_place;
        there = f.there;
        next_is = ap (λ q. q.next.0) (sym f.is);
        other = λ e. other (ap (λ q. q.instr) f.is ∙ e);
        same_active = performs.active;
        placed = inr (subst (λ n. length (program.facts (block_of m.here)).locals ≤ n) (sym performs.places) (locals-placed program code m names));
        row = performs.row program code known (can-act program code known names k) f.ins (ap (λ q. q.instr) (sym f.is));
      }) (ap (λ q. q.mark) (sym f.is) ∙ is_mark) left x waits r w w0 w1 new adds
      (subst (λ o. Applied tables.blocks block place.next p r o w0 new w1) performs.rest applied)

  -- `raise` alone
  again-at : (program : Program) (code : CodeBlocks Value) (known : AreTablesOf program code tables) → MachineHasNames program code m → place.instr ≡ instr.RaiseAgain
      → AtAgain program code tables.blocks block place.next (found program code known).ins m
  again-at program code known names is =
      let f = found program code known in
      record {
        known = known.blocks;
        is_block = is_block;
        at_place = at_place;
        there = f.there;
        next_is = ap (λ q. q.next.0) (sym f.is);
        placed = names.placed;
        again = ap (λ q. q.instr) (sym f.is) ∙ is;
      }

  unmarked-again : (new : Machine) (w w1 : Writes) (r : Stride) (n : ℕ) → place.mark ≡ None → place.instr ≡ instr.RaiseAgain
      → Applied tables.blocks block place.next (again_of (active_of m)) r m w new w1 → Strides tables n r m w new w1
  unfolding Strides laws.UnmarkedAgain
  unmarked-again new w w1 r n none is applied program code x known names waits =
      let f = found program code known in
      unmarked_again program code tables.blocks block place.next n m f.ins (again-at program code known names is)
      (ap (λ q. q.mark) (sym f.is) ∙ none) x waits r w w1 new applied

  marked-again : (new : Machine) (w w0 w1 : Writes) (r : Stride) (n : ℕ) (k : ActMark) → place.mark ≡ Some k → nat_lt m.units n ≡ true → Adds w w0 (line_events k block m)
      → place.instr ≡ instr.RaiseAgain → Applied tables.blocks block place.next (again_of (active_of m)) r (at_act k m) w0 new w1 → Strides tables n r m w new w1
  unfolding Strides laws.MarkedAgain
  marked-again new w w0 w1 r n k is_mark left adds is applied program code x known names waits =
      let f = found program code known in
      marked_again program code tables.blocks block place.next n m f.ins k (again-at program code known names is)
      (ap (λ q. q.mark) (sym f.is) ∙ is_mark) left x waits r w w0 w1 new adds applied

  pub unmarked_stride : (new : Machine) (w w1 : Writes) (r : Stride) (n : ℕ) → place.mark ≡ None → GoesOn tables block place r m w new w1 → Strides tables n r m w new w1
  unmarked_stride new w w1 r n none goes = by goes.done
    where
      by : Does tables place.instr goes.progress m goes.mid → Strides tables n r m w new w1
      by (inl (other, performed)) = unmarked-by goes.progress goes.mid new w w1 r n none other performed goes.applied
      by (inr (is, (comes, same))) =
          unmarked-again new w w1 r n none is
          (subst (λ p. Applied tables.blocks block place.next p r m w new w1) comes (subst (λ o. Applied tables.blocks block place.next goes.progress r o w new w1) same goes.applied))

  pub marked_stride : (new : Machine) (w w0 w1 : Writes) (r : Stride) (n : ℕ) (k : ActMark) → place.mark ≡ Some k → nat_lt m.units n ≡ true
      → Adds w w0 (line_events k block m) → GoesOn tables block place r (at_act k m) w0 new w1 → Strides tables n r m w new w1
  marked_stride new w w0 w1 r n k is_mark left adds goes = by goes.done
    where
      by : Does tables place.instr goes.progress (at_act k m) goes.mid → Strides tables n r m w new w1
      by (inl (other, performed)) = marked-by goes.progress goes.mid new w w0 w1 r n k is_mark left adds other performed goes.applied
      by (inr (is, (comes, same))) =
          marked-again new w w0 w1 r n k is_mark left adds is
          (subst (λ p. Applied tables.blocks block place.next p r (at_act k m) w0 new w1) comes (subst (λ o. Applied tables.blocks block place.next goes.progress r o w0 new w1) same goes.applied))

  -- no unit is left for it
  pub spent_stride : (w : Writes) (n : ℕ) (k : ActMark) → place.mark ≡ Some k → nat_lt m.units n ≡ false → Strides tables n (stride.Ends end.Spent) m w m w
  unfolding Strides
  spent_stride w n k is_mark none program code x known names waits =
      let f = found program code known in
      spent-done program code n m x w f.ins at_place f.there k (ap (λ q. q.mark) (sym f.is) ∙ is_mark) none

pub none_there : {X : Type 0} (f : X → Place) (o : Option X) (e : Option Place) → option_map f o ≡ e → o ≡ None → e ≡ None
none_there f o e a b = sym a ∙ ap (λ q. option_map f q) b

-- nothing stands at the place, so the run is stuck
pub stuck_stride : (tables : CodeTables) (block : BlockCode) (m new : Machine) (w w1 : Writes) (r : Stride) (n : ℕ) → m.standing ≡ standing.AtPlace
    → block ≡ block_at tables.blocks (block_of m.here) → entry block.places m.here.pc.0 ≡ None → Strides tables n r m w new w1
unfolding Strides
stuck_stride tables block m new w w1 r n at_place is_block none program code x known names waits =
    by ((code.object (block_of m.here)).at m.here.pc.0) refl
    (sym ((known.blocks (block_of m.here)).places m.here.pc.0) ∙ (ap (λ b. entry b.places m.here.pc.0) (sym is_block) ∙ none))
  where
    by : (o : Option Ins) → (code.object (block_of m.here)).at m.here.pc.0 ≡ o → place_at o ≡ None
        → Strode program code (stride_of (machine code) (heap_host program) n (run_of program m x)) r w new w1
    by (Some i) e f = absurd (cc)
    by None e f = at-place program code n m x r w new w1 at_place None e tt

-- what was done at a place
pub done_there : (tables : CodeTables) (block : BlockCode) (place : Place) (p : Progress) (r : Stride) (old mid new : Machine) (w w1 : Writes)
    → (place.instr ≡ instr.RaiseAgain → ⊥) → Performs tables place.instr p old mid → Applied tables.blocks block place.next p r mid w new w1
    → GoesOn tables block place r old w new w1
done_there tables block place p r old mid new w w1 other performed applied = record { progress = p; mid = mid; done = inl (other, performed); applied = applied }

pub raised_there : (tables : CodeTables) (block : BlockCode) (place : Place) (p : Progress) (r : Stride) (old new : Machine) (w w1 : Writes)
    → place.instr ≡ instr.RaiseAgain → p ≡ again_of (active_of old) → Applied tables.blocks block place.next p r old w new w1 → GoesOn tables block place r old w new w1
raised_there tables block place p r old new w w1 is comes applied = record { progress = p; mid = old; done = inr (is, (comes, refl)); applied = applied }

-- what was done by a fast path
pub done_fast : (tables : CodeTables) (block : BlockCode) (place : Place) (pc : Pc) (old mid : Machine) (w : Writes)
    → (place.instr ≡ instr.RaiseAgain → ⊥) → Led place.next pc (λ p. Performs tables place.instr p old mid) → GoesOn tables block place stride.Goes old w (gone_to pc mid) w
done_fast tables block place pc old mid w other led = record { progress = led.progress; mid = mid; done = inl (other, led.row); applied = applied led.progress led.to }
  where
    applied : (p : Progress) → place_behind place.next p ≡ Some pc → Applied tables.blocks block place.next p stride.Goes mid w (gone_to pc mid) w
    applied progress.Next e =
        subst (λ q. Applied tables.blocks block place.next progress.Next stride.Goes mid w (gone_to q mid) w) (some-same place.next pc e)
        (applied_next tables.blocks block place.next mid w)
    applied (progress.Goto to) e =
        subst (λ q. Applied tables.blocks block place.next (progress.Goto to) stride.Goes mid w (gone_to q mid) w) (some-same to pc e)
        (applied_goto tables.blocks block place.next mid w to)
    applied (progress.Leaves how) e = absurd (cc)
    applied (progress.Reraises v) e = absurd (cc)
    applied (progress.Print t) e = absurd (cc)
    applied (progress.Calls b hidden ls why) e = absurd (cc)
    applied (progress.Raises id) e = absurd (cc)
    applied progress.RaisesAgain e = absurd (cc)
    applied (progress.Fails class arg) e = absurd (cc)
    applied (progress.FailsSaying class t) e = absurd (cc)
    applied (progress.Outside what) e = absurd (cc)
    applied progress.Lacks e = absurd (cc)

-- the block ended
pub closed_stride : (tables : CodeTables) (m new : Machine) (w w1 : Writes) (r : Stride) (n : ℕ) → Closes tables.blocks r m w new w1 → Strides tables n r m w new w1
unfolding Strides Closes
closed_stride tables m new w w1 r n closes program code x known names waits = closes program code n x known.blocks (has-own-names program code m names) waits
