-- A stride that a fast path did, and of which nothing is written.
use Rattle.std.proofs.Common.{inl, ◌≡◌, ◌∙◌, ℕ, ◌++◌, List, [], ◌∷◌, Bool, true, false, Option, Some, None, refl, sym, ap, append-nil}
use Rattle.std.specs.Prelude.{MatchBool}
use Rattle.std.specs.Option.{option_map}
use Rattle.pt_base.specs.declared.numbers.Pc.{Pc}
use Rattle.sem_control.specs.control.LineEvents.{is_told}
use Rattle.sem_code.specs.slots.Steps.{mark_of}
use Rattle.pt_ranges.specs.declared.lines.ActMark.{ActMark}
use Rattle.pt_instr.specs.declared.Instr.{Instr}
use Rattle.pt_instr.specs.declared.Instr.TheVariants as instr
use Rattle.pt_heap.specs.declared.value.Value.{Value}
use Rattle.pt_heap.specs.declared.completion.Completion.TheVariants as completion
use Rattle.pt_frames.specs.declared.slot.Slot.{Slot}
use Rattle.pt_code_tables.specs.pt_machine_state.pt_code_facts.sem_rows.declared.heap_rows.progress.Progress.TheVariants as progress
use Rattle.pt_code_tables.proofs.pt_machine_state.ApplyLemmas.{applied_leaves}
use Rattle.pt_places.specs.declared.places.Place.{Place}
use Rattle.pt_places.specs.PlaceTable.{entry}
use Rattle.pt_code_tables.specs.pt_machine_state.pt_code_facts.sem_rows.declared.heap_rows.progress.Progress.{Progress}
use Rattle.pt_fast_rows.specs.FastPaths.{FastReturn, Leads, Led}
use Rattle.sem_run.specs.run.Run as run
use Rattle.pt_code_tables.specs.pt_machine_state.declared.blocks.BlockCode.{BlockCode}
use Rattle.pt_code_tables.specs.pt_machine_state.declared.machine.Machine.{Machine}
use Rattle.pt_code_tables.specs.pt_machine_state.declared.machine.Standing.TheVariants as standing
use Rattle.pt_code_tables.specs.pt_machine_state.declared.machine.Stride.TheVariants as stride
use Rattle.pt_code_tables.specs.pt_machine_state.declared.writes.Writes.{Writes}
use Rattle.pt_code_tables.specs.pt_machine_state.Blocks.{block_at}
use Rattle.pt_code_tables.specs.pt_machine_state.Changes.{at_act, events_of, gone_to, left_place, line_events, line_of}
use Rattle.pt_code_tables.specs.pt_machine_state.Views.{block_of}
use Rattle.pt_code_tables.specs.pt_machine_state.Writing.{Adds, event_line, kept, pieces_of}
use Rattle.std.specs.Prelude.{codes, if◌then◌else◌}
use Rattle.pt_code_tables.specs.declared.tables.CodeTables.{CodeTables}
use Rattle.pt_machine.specs.FastStrides.{GoesSilently, HasUnit, IsSilent, begun}
use Rattle.pt_machine.specs.Performing.{GoesOn, IsRowIn, Performs}
use Rattle.pt_machine.specs.Strides.{Strides}
use Rattle.pt_machine.proofs.RowLemmas.{of_instr, slots_row}
use Rattle.pt_machine.proofs.StepLemmas.{done_fast, marked_stride, unmarked_stride}

-- what isn't written changes nothing
silent : (w : Writes) (ws : List run.Write) → kept w.events ws ≡ [] → Adds w w ws
silent w ws none = record { pieces = sym (append-nil (pieces_of w)) ∙ ap (λ ps. pieces_of w ++ ps) (sym none); events = refl }

kept_none : (b : Bool) → kept b [] ≡ []
kept_none true = refl
kept_none false = refl

pub untold : (k : ActMark) (block : BlockCode) (w : Writes) (m : Machine) → is_told (option_map (λ l. l.0) m.here.line) (mark_of k) ≡ false
    → Adds w w (line_events k block m)
untold k block w m quiet =
    silent w (line_events k block m)
    (ap (λ b. kept w.events (if b then events_of (codes "line") [] block (at_act k m) else [])) quiet ∙ kept_none w.events)

-- without events in the log no line is written
unlogged : (k : ActMark) (block : BlockCode) (m : Machine) (told hidden : Bool) → m.here.hidden ≡ hidden
    → kept false (if told then events_of (codes "line") [] block (at_act k m) else []) ≡ []
unlogged k block m false hidden e = refl
unlogged k block m true true e = ap (λ b. kept false (if b then [] else event_line (codes "line") (line_of block (at_act k m)) block.name [] ∷ [])) e
unlogged k block m true false e = ap (λ b. kept false (if b then [] else event_line (codes "line") (line_of block (at_act k m)) block.name [] ∷ [])) e

pub without_events : (k : ActMark) (block : BlockCode) (w : Writes) (m : Machine) → w.events ≡ false → Adds w w (line_events k block m)
without_events k block w m off =
    silent w (line_events k block m)
    (ap (λ b. kept b (line_events k block m)) off
    ∙ unlogged k block m (is_told (option_map (λ l. l.0) m.here.line) (mark_of k)) m.here.hidden refl)

-- a row stays one where the act of its instruction has begun
begun_row : (tables : CodeTables) (j : Instr) (p : Progress) (mark : Option ActMark) (old new : Machine) → Performs tables j p old new
    → Performs tables j p (begun mark old) (begun mark new)
unfolding IsRowIn
begun_row tables j p None old new did = did
begun_row tables j p (Some k) old new did = record {
  rest = ap (λ m. at_act k m) did.rest;
  active = did.active;
  row = λ program code known names i is.
      did.row program code known (record { operands = names.operands; locals = names.locals; cells = names.cells }) i is;
  places = did.places;
}

return-other : (j : Instr) → j ≡ instr.Return → j ≡ instr.RaiseAgain → ⊥
return-other j is e = let both : instr.Return ≡ instr.RaiseAgain = sym is ∙ e in absurd (cc)

module _ (tables : CodeTables) (block : BlockCode) (place : Place) where
  -- by a fast path it came to a place
  pub went_fast : (pc : Pc) (m mid : Machine) → (place.instr ≡ instr.RaiseAgain → ⊥) → Led place.next pc (λ p. Performs tables place.instr p m mid)
      → GoesSilently tables block place m (gone_to pc (begun place.mark mid))
  went_fast pc m mid other led w = done_fast tables block place pc (begun place.mark m) (begun place.mark mid) w other (record {
    progress = led.progress;
    to = led.to;
    row = begun_row tables place.instr led.progress place.mark m mid led.row;
  })

  -- a return left its place
  pub returned : (v : Value) (m : Machine) (slots : List Slot) → place.instr ≡ instr.Return → FastReturn v m.here.slots slots
      → GoesSilently tables block place m
      (left_place block place.next (completion.Return v) (begun place.mark (record m { here = record m.here { slots = slots } })))
  returned v m slots is row w = record {
    progress = progress.Leaves (completion.Return v);
    mid = begun place.mark (record m { here = record m.here { slots = slots } });
    done = inl (
      return-other place.instr is,
      begun_row tables place.instr (progress.Leaves (completion.Return v)) place.mark m (record m { here = record m.here { slots = slots } })
          (of_instr is (slots_row tables instr.Return (progress.Leaves (completion.Return v)) m slots row.0 row.1)),
    );
    applied = applied_leaves tables.blocks block place.next (begun place.mark (record m { here = record m.here { slots = slots } })) w (completion.Return v);
  }

  -- that is a stride
  module _ (m new : Machine) (w : Writes) (n : ℕ) (is_block : block ≡ block_at tables.blocks (block_of m.here))
      (there : entry block.places m.here.pc.0 ≡ Some place) (at_place : m.standing ≡ standing.AtPlace) where
    stridden : (mark : Option ActMark) → place.mark ≡ mark → HasUnit mark n m.units → IsSilent mark block w m
        → GoesOn tables block place stride.Goes (begun mark m) w new w → Strides tables n stride.Goes m w new w
    stridden None is unit quiet goes = unmarked_stride tables block place m is_block there at_place new w w stride.Goes n is goes
    stridden (Some k) is unit quiet goes = marked_stride tables block place m is_block there at_place new w w w stride.Goes n k is unit quiet goes

    pub silent_stride : HasUnit place.mark n m.units → IsSilent place.mark block w m → GoesSilently tables block place m new
        → Strides tables n stride.Goes m w new w
    silent_stride unit quiet goes = stridden place.mark refl unit quiet (goes w)

    -- or nothing was done
    pub silent_step : HasUnit place.mark n m.units → IsSilent place.mark block w m → (done : Bool)
        → MatchBool done (GoesSilently tables block place m new) (new ≡ m) → MatchBool done (Strides tables n stride.Goes m w new w) (new ≡ m)
    silent_step unit quiet true goes = silent_stride unit quiet goes
    silent_step unit quiet false left = left

-- what a fast path leaves has as many units
pub same_units : (tables : CodeTables) (place : Place) (pc : Pc) (o : Option Pc) (m mid : Machine)
    → Leads place.next o (λ p. Performs tables place.instr p m mid) (mid ≡ m) → o ≡ Some pc → mid.units ≡ m.units
same_units tables place pc (Some to) m mid led e = ap (λ q. q.units) led.row.rest
same_units tables place pc None m mid left e = absurd (cc)
