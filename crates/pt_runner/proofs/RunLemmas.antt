-- The run of code on its way from stride to stride.
use Rattle.std.proofs.Common.{◌≡◌, ℕ, List, [], ◌++◌, Bool, false, Option, Some, None, refl, sym, ap, ◌∙◌, subst, append-nil, inl, inr}
use Rattle.std.specs.Prelude.{codes}
use Rattle.pt_base.specs.Taken.{Pieces}
use Rattle.pt_heap.specs.declared.value.Value.{Value}
use Rattle.sem_code.specs.slots.Slots.{State}
use Rattle.pt_frames.specs.declared.activations.OpenActivation.{OpenActivation}
use Rattle.sem_run.specs.run.Machine.{BlockId}
use Rattle.sem_run.specs.run.Events.{starts}
use Rattle.sem_run.specs.run.Run.{Write}
use Rattle.sem_rows.specs.pt_host.World.{Names, World}
use Rattle.sem_rows.specs.pt_host.HeapHost.{heap_host}
use Rattle.pt_bare_runs.specs.Strides as bare
use Rattle.pt_bare_runs.specs.Strides.{goes, stride, Outcome}
use Rattle.pt_bare_runs.specs.Laws.{Reaches}
use Rattle.pt_bare_writes.specs.Fronts.{written_by, within}
use Rattle.pt_sinks.specs.Writing.{Took, TookFront}
use Rattle.pt_sinks.specs.declared.writing.WriteErr.{WriteErr}
use Rattle.pt_sinks.specs.declared.writing.WriteErr.TheVariants as error
use Rattle.pt_sinks.proofs.WritingLemmas.{took_behind, front_behind, front_of_all}
use Rattle.sem_rows.specs.sem_code_machine.code_machine.CodeBlocks.{machine}
use Rattle.pt_transfers.specs.pt_machine_state.declared.machine.Machine.{Machine}
use Rattle.pt_transfers.specs.pt_machine_state.Blocks.{block_at}
use Rattle.pt_transfers.specs.pt_machine_state.Views.{Bare, Beside, Waits, AllWait, IsPlaced, none, block_of, state_of, run_of}
use Rattle.pt_transfers.specs.pt_machine_state.Strode.{ComesTo, GoesOnRaising}
use Rattle.pt_transfers.specs.pt_machine_state.Changes.{events_of}
use Rattle.pt_transfers.specs.pt_machine_state.Writing.{kept}
use Rattle.pt_transfers.proofs.pt_machine_state.ApplyLemmas.{logged-start}
use Rattle.pt_transfers.proofs.pt_machine_state.WriteLemmas.{kept-append}
use Rattle.pt_machine.specs.pt_code_tables.declared.tables.CodeTables.{CodeTables}
use Rattle.pt_machine.specs.law_frames.RunNames.{RunHasNames}
use Rattle.pt_machine.proofs.law_frames.Runs.{reached_has_names}
use Rattle.pt_runner.specs.declared.ending.Ended.{Ended}
use Rattle.pt_runner.specs.declared.ending.RunEnd.{RunEnd}
use Rattle.pt_runner.specs.declared.ending.Totals.{Totals}
use Rattle.pt_runner.specs.Ends.{block_name}
use Rattle.pt_runner.specs.Runs.{ModuleRun, IsReady, Finished, BrokeOff}
use Rattle.pt_runner.specs.Work.{Work, no_work, both, work_at, slots_next, ends_spent, work_of, Does, ends_so}
use Rattle.pt_runner.specs.Advancing.{Point, StandsAt, WentOn, CameToEnd, Advanced, BrokeOffAt, counted, next_over, stopped_spent}
use Rattle.pt_runner.proofs.GoesTo.{GoesTo, there, further, does_behind, writes_behind, reaches, both_none}
use Rattle.pt_runner.proofs.CountLemmas.{TellsOf, tells_more, same_next, same_spent}

module _ (r : ModuleRun) (n : ℕ) (events : Bool) where
  abbrev first_state : Bare
  first_state = bare.start (machine r.code) (heap_host r.program) r.block r.names r.world

  abbrev told : List Write
  told = bare.logged (machine r.code) (heap_host r.program) starts first_state

  abbrev begun : bare.Stride (State Value) Names Value World
  begun = goes told first_state

  abbrev stride_of : Bare → bare.Stride (State Value) Names Value World
  stride_of s = stride (machine r.code) (heap_host r.program) n s

  abbrev stride_work : Bare → Work
  stride_work s = work_of (machine r.code) (heap_host r.program) n s

  abbrev Goes : List Write → Bare → Work → Type 0
  Goes ws s w = GoesTo (machine r.code) (heap_host r.program) n begun ws s w

  -- the run came to where the machine stands, what it wrote was taken, and the totals tell of what it did
  pub record Reached (m : Machine) (t : Totals) (oo on lo ln : Pieces → Pieces → Type 0) : Type 0 where
    pub beside : Beside
    pub waits : AllWait r.program r.code (block_of m.here) m.frames.activations beside.waiting
    pub placed : IsPlaced r.program m.here
    pub written : List Write
    pub work : Work
    pub goes : GoesTo (machine r.code) (heap_host r.program) n begun written (run_of r.program m beside) work
    pub tells : TellsOf t work
    pub took : Took oo on lo ln (kept events written)

  none_waits : (b : BlockId) (os : List OpenActivation) (ws : List Waits) → os ≡ [] → ws ≡ [] → AllWait r.program r.code b os ws
  none_waits b os ws e f = subst (λ l. AllWait r.program r.code b l ws) (sym e) (subst (AllWait r.program r.code b []) (sym f) (none b))

  module _ (tables : CodeTables) (first : Machine) (ready : IsReady tables n first r) where
    abbrev start_events : List Write
    start_events = events_of (codes "call") [] (block_at tables.blocks (block_of first.here)) first

    told_so : told ≡ start_events
    told_so =
        ap (bare.logged (machine r.code) (heap_host r.program) starts) (sym ready.starts)
        ∙ logged-start r.program r.code (block_at tables.blocks (block_of first.here)) first ready.beside (state_of first.standing first.here)
        (ready.tables_are.blocks (block_of first.here))

    module _ (oo on lo ln : Pieces → Pieces → Type 0) where
      -- the start is told, whole or a front of it
      pub started : (t : Totals) → TellsOf t no_work → Took oo on lo ln (kept events start_events) → Reached first t oo on lo ln
      started t tells took = record {
        beside = ready.beside;
        waits = none_waits (block_of first.here) first.frames.activations ready.beside.waiting ready.none_waits (ap (λ s. s.waiting) ready.starts);
        placed = inl ready.no_names;
        written = told;
        work = no_work;
        goes = subst (λ s. Goes told s no_work) (sym ready.starts) (there told first_state);
        tells = tells;
        took = subst (λ ws. Took oo on lo ln (kept events ws)) (sym told_so) took;
      }

      pub broken_at_start : (why : WriteErr) → TookFront oo on lo ln why (kept events start_events) → BrokeOff r n events oo on lo ln why
      broken_at_start why took = record {
        written = told;
        writes_first = within begun told [] (sym (append-nil told));
        took = subst (λ ws. TookFront oo on lo ln why (kept events ws)) (sym told_so) took;
      }

    module _ (m : Machine) (totals : Totals) (oo om lo lm : Pieces → Pieces → Type 0) (reached : Reached m totals oo om lo lm) where
      abbrev point : Point
      point = record { program = r.program; code = r.code; beside = reached.beside }

      abbrev state : Bare
      state = run_of r.program m reached.beside

      is_reached : Reaches (machine r.code) (heap_host r.program) n first_state state
      is_reached = reaches (machine r.code) (heap_host r.program) n told first_state reached.written state reached.work reached.goes

      named : RunHasNames r.program state
      named = reached_has_names r.program r.code ready.names_blocks n r.block r.names r.world ready.has_names state is_reached

      stands : StandsAt tables n m point
      stands = record {
        tables_are = ready.tables_are;
        names = record { names_blocks = ready.names_blocks; here = named.here; placed = reached.placed };
        waits = reached.waits;
        not_stuck = ready.never_stuck state is_reached;
      }

      pub standing : (p : Point) × StandsAt tables n m p
      standing = (point, stands)

      -- broken off between two strides
      pub broken_between : BrokeOff r n events oo om lo lm error.Memory
      broken_between = record {
        written = reached.written ++ [];
        writes_first = writes_behind (machine r.code) (heap_host r.program) n begun reached.written state reached.work reached.goes []
            (within (stride_of state) [] (written_by (stride_of state)) refl);
        took = subst (λ ws. TookFront oo om lo lm error.Memory (kept events ws)) (sym (append-nil reached.written))
            (front_of_all oo om lo lm (kept events reached.written) reached.took);
      }

      -- behind a stride, of which each point is told at which the machine stood
      module _ (on ln : Pieces → Pieces → Type 0) where
        taken : (ws : List Write) → Took om on lm ln (kept events ws) → Took oo on lo ln (kept events (reached.written ++ ws))
        taken ws t =
            subst (Took oo on lo ln) (sym (kept-append events reached.written ws))
            (took_behind oo om on lo lm ln (kept events reached.written) (kept events ws) reached.took t)

        -- where a raise goes on, no instruction is next
        no_more : (s : Bare) (w : Work) → GoesOnRaising s → both w (stride_work s) ≡ w
        no_more s w (e, rows, ss, is) = ap (λ c. both w (work_at (slots_next c) (ends_spent (stride_of s)))) is ∙ both_none w

        comes_to : (s t : Bare) (ws : List Write) (w : Work) → ComesTo r.program r.code s t → Goes ws s w → Goes ws t w
        comes_to s t ws w (inl e) g = subst (λ u. Goes ws u w) e g
        comes_to s t ws w (inr (raises, f)) g =
            subst (λ v. Goes ws t v) (no_more s w raises) (subst (λ k. Goes k t (both w (stride_work s))) (append-nil ws) (further begun ws s w [] t g (f n)))

        -- the work of the next stride is what is counted of it
        counts : (spent : Bool) → ends_spent (stride_of state) ≡ spent → work_at (next_over m.standing m.here) spent ≡ stride_work state
        counts spent is = ap (λ k. work_at k spent) (same_next m.standing m.here) ∙ ap (λ b. work_at (slots_next state.here.state) b) (sym is)

        abbrev totals_behind : Bool → (units : ℕ) → Totals
        totals_behind spent units = counted (next_over m.standing m.here) spent units totals

        tells_on : (spent : Bool) (units : ℕ) → ends_spent (stride_of state) ≡ spent → TellsOf (totals_behind spent units) (both reached.work (stride_work state))
        tells_on spent units is =
            subst (λ w. TellsOf (totals_behind spent units) (both reached.work w)) (counts spent is)
            (tells_more totals reached.work (next_over m.standing m.here) spent units reached.tells)

        went : (new : Machine) → WentOn n events point m new om on lm ln → Reached new (totals_behind false new.units) oo on lo ln
        went new x = record {
          beside = x.beside;
          waits = x.waits;
          placed = x.placed;
          written = reached.written ++ x.written;
          work = both reached.work (stride_work state);
          goes = comes_to x.state (run_of r.program new x.beside) (reached.written ++ x.written) (both reached.work (stride_work state)) x.comes
              (further begun reached.written state reached.work x.written x.state reached.goes x.goes_on);
          tells = tells_on false new.units (ap ends_spent x.goes_on);
          took = taken x.written x.took;
        }

        came : (new : Machine) (x : Ended) → x.totals ≡ totals_behind (stopped_spent (Some x.end)) new.units → CameToEnd n events point m new om on lm ln x.end
            → Finished r n events x oo on lo ln
        came new x are e =
            let o : Outcome Value World = record { written = e.written; units = e.units; ending = e.ending } in
            let own : Does (machine r.code) (heap_host r.program) n (stride_of state) o no_work =
            subst (λ y. Does (machine r.code) (heap_host r.program) n y o no_work) (sym e.is_end) (ends_so e.written e.units e.ending) in
            let all : Does (machine r.code) (heap_host r.program) n begun (record o { written = reached.written ++ e.written }) (both reached.work (both (stride_work state) no_work))
            = does_behind (machine r.code) (heap_host r.program) n begun reached.written state reached.work reached.goes o no_work own in
            let tells : TellsOf x.totals (both reached.work (stride_work state)) =
            subst (λ t. TellsOf t (both reached.work (stride_work state))) (sym are)
            (tells_on (stopped_spent (Some x.end)) new.units (ap ends_spent e.is_end ∙ same_spent (block_name r.program) x.end e.ending e.ends_so)) in
            record {
              outcome = record { written = reached.written ++ e.written; units = e.units; ending = e.ending };
              work = both reached.work (stride_work state);
              does = subst (λ w. Does (machine r.code) (heap_host r.program) n begun (record o { written = reached.written ++ e.written }) (both reached.work w))
                  (both_none (stride_work state)) all;
              units = e.units_are ∙ sym (ap (λ t. t.acts) are);
              instructions = tells.instructions;
              depth = tells.depth;
              ends = e.ends_so;
              took = taken e.written e.took;
            }

        broke : (why : WriteErr) → BrokeOffAt n events point m om on lm ln why → BrokeOff r n events oo on lo ln why
        broke why b = record {
          written = reached.written ++ b.written;
          writes_first = writes_behind (machine r.code) (heap_host r.program) n begun reached.written state reached.work reached.goes b.written b.writes_first;
          took = subst (TookFront oo on lo ln why) (sym (kept-append events reached.written b.written))
              (front_behind oo om on lo lm ln why (kept events reached.written) (kept events b.written) reached.took b.took);
        }

        module _ (b : Bool) (same : b ≡ events) where
          pub broken : (why : WriteErr) → ((p : Point) → StandsAt tables n m p → BrokeOffAt n b p m om on lm ln why) → BrokeOff r n events oo on lo ln why
          broken why says = broke why (subst (λ k. BrokeOffAt n k point m om on lm ln why) same (says point stands))

          module _ (new : Machine) (s : Option RunEnd) (says : (p : Point) → StandsAt tables n m p → Advanced n b p m new om on lm ln s) where
            advanced : (z : Option RunEnd) → s ≡ z → Advanced n events point m new om on lm ln z
            advanced z is =
                subst (λ k. Advanced n k point m new om on lm ln z) same (subst (Advanced n b point m new om on lm ln) is (says point stands))

            pub one_more : (t : Totals) → t ≡ totals_behind (stopped_spent s) new.units → s ≡ None → Reached new t oo on lo ln
            one_more t are is =
                subst (λ u. Reached new u oo on lo ln) (sym (are ∙ ap (λ z. totals_behind (stopped_spent z) new.units) is)) (went new (advanced None is))

            pub finished : (x : Ended) → x.totals ≡ totals_behind (stopped_spent s) new.units → s ≡ Some x.end → Finished r n events x oo on lo ln
            finished x are is = came new x (are ∙ ap (λ z. totals_behind (stopped_spent z) new.units) is) (advanced (Some x.end) is)
