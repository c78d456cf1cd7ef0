-- What a stride of the machine says of the run.
use Rattle.std.proofs.Common.{◌≡◌, ℕ, List, [], ◌++◌, false, Result, Ok, Err, refl, sym, ap, ◌∙◌, subst, append-nil}
use Rattle.std.specs.Prelude.{OnOk, IfErr, IsErr, IsErrAnd, codes}
use Rattle.pt_base.specs.declared.numbers.Line.{Line}
use Rattle.pt_base.specs.Taken.{Pieces}
use Rattle.pt_heap.specs.declared.value.Value.{Value}
use Rattle.sem_code.specs.slots.Slots.{State}
use Rattle.sem_run.specs.run.Host as H
use Rattle.sem_run.specs.run.Host.{Leaving}
use Rattle.sem_run.specs.run.Run.{Write}
use Rattle.sem_rows.specs.pt_host.World.{Names, Program, World}
use Rattle.sem_rows.specs.pt_host.Leaving.{leaving}
use Rattle.pt_bare_runs.specs.Strides as bare
use Rattle.pt_bare_runs.specs.Strides.{goes, ends, is_stuck}
use Rattle.pt_bare_writes.specs.Fronts.{written_by, within}
use Rattle.pt_tracebacks.specs.Summaries.{summaries}
use Rattle.pt_sinks.specs.Writing.{Took, TookFront}
use Rattle.pt_sinks.specs.declared.writing.WriteErr.{WriteErr}
use Rattle.pt_sinks.specs.declared.writing.WriteErr.TheVariants as error
use Rattle.pt_sinks.proofs.WritingLemmas.{took_nothing, front_of_all, front_before}
use Rattle.sem_rows.specs.heap_rows.Views.{world_view}
use Rattle.sem_rows.specs.sem_code_machine.code_machine.CodeBlocks.{CodeBlocks}
use Rattle.pt_transfers.specs.pt_machine_state.declared.blocks.BlockCode.{BlockCode}
use Rattle.pt_transfers.specs.pt_machine_state.declared.machine.Machine.{Machine}
use Rattle.pt_transfers.specs.pt_machine_state.declared.machine.MachineEnd.{MachineEnd}
use Rattle.pt_transfers.specs.pt_machine_state.declared.machine.MachineEnd.TheVariants as ended
use Rattle.pt_transfers.specs.pt_machine_state.declared.machine.Stride.{Stride}
use Rattle.pt_transfers.specs.pt_machine_state.declared.machine.Stride.TheVariants as stride
use Rattle.pt_transfers.specs.pt_machine_state.declared.writes.Writes.{Writes}
use Rattle.pt_transfers.specs.pt_machine_state.Changes.{events_of}
use Rattle.pt_transfers.specs.pt_machine_state.Strode.{Strode, left, ending_of}
use Rattle.pt_transfers.specs.pt_machine_state.Writing.{Adds, kept, pieces_of}
use Rattle.pt_machine.specs.pt_code_tables.declared.tables.CodeTables.{CodeTables}
use Rattle.pt_machine.specs.pt_code_tables.Tables.{AreTablesOf}
use Rattle.pt_machine.specs.Strides.{Strides}
use Rattle.pt_runner.specs.declared.ending.RunEnd.{RunEnd}
use Rattle.pt_runner.specs.Ends.{IsEnding, block_name, end_by, end_of, table_name}
use Rattle.pt_runner.specs.Advancing.{Point, stride_at, StandsAt, WentOn, CameToEnd, BrokeOffAt}

-- what the exit of a `?` returns
pub if_err : {T E : Type 0} (P : E → Type 0) (r : Result T E) (e : E) → IsErr r × IsErrAnd r (λ f. f ≡ e) → P e → IfErr r P
if_err P (Ok x) e from p = tt
if_err P (Err f) e from p = subst P (sym from.1) p

-- the end that is told is that of the run, over the names of blocks
module _ (name : ℕ → List ℕ) where
  left_so : (line : Line) (l : Leaving) (v : Value) (w : World) → IsEnding name (end_by line (summaries name w.heap v) l) (left l v line.0 w)
  left_so line (H.exits n x) v w = (refl, refl)
  left_so line H.exits_oddly v w = (refl, refl)
  left_so line (H.fails es) v w = refl

  ended_so : (e : MachineEnd) (m : Machine) → IsEnding name (end_of name e m) (ending_of e m)
  ended_so ended.Done m = tt
  ended_so (ended.Left v line) m = left_so line (leaving v (world_view m.frames m.heap)) v (world_view m.frames m.heap)
  ended_so ended.Spent m = tt
  ended_so (ended.Outside what line) m = (refl, refl)

-- tables name blocks as their program does
same_names : (program : Program) (code : CodeBlocks Value) (tables : CodeTables) → AreTablesOf program code tables → table_name tables ≡ block_name program
same_names program code tables are = λ i n. (are.blocks (record { hidden = false; number = n })).name i

-- what is put into an empty list is all that is there
all_new : (w w1 : Writes) (ws : List Write) → pieces_of w ≡ [] → Adds w w1 ws → pieces_of w1 ≡ kept w.events ws
all_new w w1 ws empty adds = adds.pieces ∙ ap (λ ps. ps ++ kept w.events ws) empty

-- nothing was taken yet
pub front_none : (oo on lo ln : Pieces → Pieces → Type 0) (ws : List Write) → ((g h : Pieces) → oo g h → on g h)
    → ((g h : Pieces) → lo g h → ln g h) → TookFront oo on lo ln error.Memory ws
front_none oo on lo ln ws a b = front_before oo on lo ln error.Memory [] ws (front_of_all oo on lo ln [] (took_nothing oo on lo ln a b))

-- the start is told, of the block that stands there
module _ (w w1 : Writes) (block known : BlockCode) (m : Machine) (empty : pieces_of w ≡ []) (same : block ≡ known)
    (adds : Adds w w1 (events_of (codes "call") [] block m)) where
  told : pieces_of w1 ≡ kept w.events (events_of (codes "call") [] known m)
  told =
      all_new w w1 (events_of (codes "call") [] block m) empty adds
      ∙ ap (λ b. kept w.events (events_of (codes "call") [] b m)) same

  module _ (oo on lo ln : Pieces → Pieces → Type 0) where
    pub told_whole : {T E : Type 0} (x : Result T E) → OnOk x (Took oo on lo ln (pieces_of w1))
        → OnOk x (Took oo on lo ln (kept w.events (events_of (codes "call") [] known m)))
    told_whole x t = subst (λ ws. OnOk x (Took oo on lo ln ws)) told t

    pub told_front : {T : Type 0} (x : Result T WriteErr) → IfErr x (λ why. TookFront oo on lo ln why (pieces_of w1))
        → IfErr x (λ why. TookFront oo on lo ln why (kept w.events (events_of (codes "call") [] known m)))
    told_front x t = subst (λ ws. IfErr x (λ why. TookFront oo on lo ln why ws)) told t

module _ (tables : CodeTables) (n : ℕ) (old : Machine) (w : Writes) (empty : pieces_of w ≡ []) where
  abbrev Bare : Type 0
  Bare = bare.Stride (State Value) Names Value World

  module _ (p : Point) where
    abbrev Turned : Bare → Stride → Machine → Writes → Type 0
    Turned s r new w1 = Strode p.program p.code s r w new w1

    strode : (at : StandsAt tables n old p) (r : Stride) (new : Machine) (w1 : Writes) → Strides tables n r old w new w1
        → Turned (stride_at n p old) r new w1
    unfolding Strides
    strode at r new w1 all = all p.program p.code p.beside at.tables_are at.names at.waits

    -- what the stride of the run has, where it isn't stuck
    module _ (oo on lo ln : Pieces → Pieces → Type 0) (r : Stride) (new : Machine) (w1 : Writes) where
      broke_within : (why : WriteErr) (s : Bare) → stride_at n p old ≡ s → (s ≡ is_stuck → ⊥) → Turned s r new w1
          → TookFront oo on lo ln why (pieces_of w1) → BrokeOffAt n w.events p old oo on lo ln why
      broke_within why (goes ws t) e some (is, (adds, rest)) took = record {
        written = ws;
        writes_first = within (stride_at n p old) ws [] (ap written_by e ∙ sym (append-nil ws));
        took = subst (TookFront oo on lo ln why) (all_new w w1 ws empty adds) took;
      }
      broke_within why (ends ws u f) e some (x, (is, (adds, rest))) took = record {
        written = ws;
        writes_first = within (stride_at n p old) ws [] (ap written_by e ∙ sym (append-nil ws));
        took = subst (TookFront oo on lo ln why) (all_new w w1 ws empty adds) took;
      }
      broke_within why is_stuck e some done took = absurd (some refl)

      went : (s : Bare) → stride_at n p old ≡ s → (s ≡ is_stuck → ⊥) → r ≡ stride.Goes → Turned s r new w1 → Took oo on lo ln (pieces_of w1)
          → WentOn n w.events p old new oo on lo ln
      went (goes ws t) e some goes_on (is, (adds, (x, (comes, (waits, placed))))) took = record {
        written = ws;
        state = t;
        goes_on = e;
        beside = x;
        comes = comes;
        waits = waits;
        placed = placed;
        took = subst (Took oo on lo ln) (all_new w w1 ws empty adds) took;
      }
      went (ends ws u f) e some goes_on (x, (is, rest)) took = let no : stride.Goes ≡ stride.Ends x = sym goes_on ∙ is in absurd cc
      went is_stuck e some goes_on done took = absurd (some refl)

      came : (s : Bare) → stride_at n p old ≡ s → (s ≡ is_stuck → ⊥) → (x : MachineEnd) → r ≡ stride.Ends x → Turned s r new w1
          → Took oo on lo ln (pieces_of w1) → (names : table_name tables ≡ block_name p.program)
          → CameToEnd n w.events p old new oo on lo ln (end_of (table_name tables) x new)
      came (goes ws t) e some x is_end (is, rest) took names = let no : stride.Ends x ≡ stride.Goes = sym is_end ∙ is in absurd cc
      came (ends ws u f) e some x is_end (y, (is, (adds, (units, ending)))) took names =
          let same : stride.Ends x ≡ stride.Ends y = sym is_end ∙ is in
          let is_x : x ≡ y = cc in
          record {
            written = ws;
            units = u;
            ending = f;
            is_end = e;
            units_are = units;
            ends_so = subst (λ name. IsEnding name (end_of (table_name tables) x new) f) names
                (subst (IsEnding (table_name tables) (end_of (table_name tables) x new)) (sym (ending ∙ ap (λ k. ending_of k new) (sym is_x)))
                (ended_so (table_name tables) x new));
            took = subst (Took oo on lo ln) (all_new w w1 ws empty adds) took;
          }
      came is_stuck e some x is_end done took names = absurd (some refl)

    same_events : (s : Bare) → (s ≡ is_stuck → ⊥) → (r : Stride) (new : Machine) (w1 : Writes) → Turned s r new w1 → w1.events ≡ w.events
    same_events (goes ws t) some r new w1 (is, (adds, rest)) = adds.events
    same_events (ends ws u f) some r new w1 (x, (is, (adds, rest))) = adds.events
    same_events is_stuck some r new w1 done = absurd (some refl)

    lacking : (s : Bare) → (s ≡ is_stuck → ⊥) → (r : Stride) → r ≡ stride.Lacks → (new : Machine) (w1 : Writes) → Turned s r new w1 → ⊥
    lacking (goes ws t) some r lacks new w1 (is, rest) = let no : stride.Lacks ≡ stride.Goes = sym lacks ∙ is in absurd cc
    lacking (ends ws u f) some r lacks new w1 (x, (is, rest)) = let no : stride.Lacks ≡ stride.Ends x = sym lacks ∙ is in absurd cc
    lacking is_stuck some r lacks new w1 done = some refl

  -- what the machine says of all points at which it stands
  pub broken_before : (oo on lo ln : Pieces → Pieces → Type 0) → ((g h : Pieces) → oo g h → on g h) → ((g h : Pieces) → lo g h → ln g h)
      → (p : Point) → StandsAt tables n old p → BrokeOffAt n w.events p old oo on lo ln error.Memory
  broken_before oo on lo ln a b p at = record {
    written = [];
    writes_first = within (stride_at n p old) [] (written_by (stride_at n p old)) refl;
    took = front_none oo on lo ln (kept w.events []) a b;
  }

  module _ (r : Stride) (new : Machine) (w1 : Writes) (all : Strides tables n r old w new w1) where
    module _ (oo on lo ln : Pieces → Pieces → Type 0) where
      pub broken_within : (why : WriteErr) → TookFront oo on lo ln why (pieces_of w1) → (p : Point) → StandsAt tables n old p
          → BrokeOffAt n w.events p old oo on lo ln why
      broken_within why took p at =
          broke_within p oo on lo ln r new w1 why (stride_at n p old) refl at.not_stuck (strode p at r new w1 all) took

      pub went_on : r ≡ stride.Goes → Took oo on lo ln (pieces_of w1) → (p : Point) → StandsAt tables n old p
          → WentOn n w.events p old new oo on lo ln
      went_on is took p at = went p oo on lo ln r new w1 (stride_at n p old) refl at.not_stuck is (strode p at r new w1 all) took

      pub came_to_end : (x : MachineEnd) → r ≡ stride.Ends x → (e : RunEnd) → e ≡ end_of (table_name tables) x new → Took oo on lo ln (pieces_of w1)
          → (p : Point) → StandsAt tables n old p → CameToEnd n w.events p old new oo on lo ln e
      came_to_end x is e same took p at =
          subst (CameToEnd n w.events p old new oo on lo ln) (sym same)
          (came p oo on lo ln r new w1 (stride_at n p old) refl at.not_stuck x is (strode p at r new w1 all) took
          (same_names p.program p.code tables at.tables_are))

    pub events_stay : (p : Point) × StandsAt tables n old p → w1.events ≡ w.events
    events_stay (p, at) = same_events p (stride_at n p old) at.not_stuck r new w1 (strode p at r new w1 all)

    -- nothing is lacking where it stands
    pub lacks_nothing : r ≡ stride.Lacks → (p : Point) × StandsAt tables n old p → ⊥
    lacks_nothing lacks (p, at) = lacking p (stride_at n p old) at.not_stuck r lacks new w1 (strode p at r new w1 all)

  -- a stride that writes nothing
  pub went_silently : (new : Machine) → Strides tables n stride.Goes old w new w → (oo lo : Pieces → Pieces → Type 0) → (p : Point)
      → StandsAt tables n old p → WentOn n w.events p old new oo oo lo lo
  went_silently new all oo lo p at =
      went_on stride.Goes new w all oo oo lo lo refl
      (subst (Took oo oo lo lo) (sym empty) (took_nothing oo oo lo lo (λ _ _ t. t) (λ _ _ t. t))) p at
