-- What a run begins where an instruction is next in the machine.
use Rattle.std.proofs.Common.{◌≡◌, ◌∙◌, ◌-◌, ◌≤◌, ℕ, List, Bool, Option, length, drop, arith, refl, sym, ap, subst}
use Rattle.std.proofs.lemmas.List.{length-map}
use Rattle.std.specs.Option.{option_map}
use Rattle.pt_base.specs.declared.numbers.Line.{Line}
use Rattle.pt_heap.specs.declared.value.Value.{Value}
use Rattle.pt_frames.specs.declared.slot.Slot.{Slot}
use Rattle.pt_frames.specs.declared.activation.Activation.{Activation}
use Rattle.pt_frames.specs.Slots.{active_in}
use Rattle.pt_ranges.specs.declared.handlers.Handler.{Handler}
use Rattle.pt_code.specs.View.{Ins}
use Rattle.sem_control.specs.control.Turn as T
use Rattle.sem_control.specs.control.Turn.{Turn, Ask, Reply, Answer, raised}
use Rattle.sem_control.specs.control.Turn.{Mark}
use Rattle.sem_code.specs.slots.Slots.{Slots, State as CodeState, raise, on}
use Rattle.sem_code.specs.slots.CodeObject.{CodeObject}
use Rattle.sem_code.specs.slots.Landing.{cut, land}
use Rattle.sem_code.specs.slots.Steps.{mark_of}
use Rattle.sem_code.specs.slots.Machine as slots
use Rattle.sem_code.specs.slots.Needs.{Begins}
use Rattle.sem_code.proofs.slots.MarkLaw.{begins_at}
use Rattle.sem_code_machine.specs.code_machine.CodeBlocks.{CodeBlocks}
use Rattle.law_origins.specs.Landings.{lands_with}
use Rattle.law_takes.specs.Taking.{taken}
use Rattle.law_takes.specs.Laws.{Takes, TakesIfAsked}
use Rattle.law_takes.proofs.Taking.{instructions_take}
use Rattle.sem_run.specs.run.Machine.{Machine, turn_in}
use Rattle.sem_run.specs.run.Events.{Event}
use Rattle.sem_run.specs.run.Host.{Host}
use Rattle.sem_run.specs.run.State as run
use Rattle.sem_run.specs.run.State.{State}
use Rattle.sem_run.specs.run.Step.{step, by_phase, begin_turn}
use Rattle.pt_pendings.specs.declared.pending.Origin.{Origin}
use Rattle.pt_applying.specs.law_doing.pt_answering.pt_opening.pt_host.World.{Names, World, Program}
use Rattle.pt_applying.specs.law_doing.pt_answering.pt_opening.pt_host.HeapHost.{heap_host}
use Rattle.pt_applying.specs.law_doing.pt_machine_state.pt_code_facts.sem_rows.heap_rows.Views.{slot_view, slots_view}
use Rattle.pt_applying.specs.law_doing.pt_answering.pt_opening.pt_purposes.declared.standing.Standing.TheVariants.{AtPlace}
use Rattle.pt_applying.specs.law_doing.pt_answering.pt_opening.pt_purposes.Seen.{block_of}
use Rattle.pt_applying.specs.law_doing.pt_answering.pt_opening.pt_purposes.Openers.{Ways}
use Rattle.pt_applying.specs.law_doing.pt_answering.pt_opening.pt_run_state.declared.machine.Machine.{Machine as Held}
use Rattle.pt_applying.specs.law_doing.pt_answering.pt_opening.pt_run_state.declared.machine.Phase.{Phase}
use Rattle.pt_applying.specs.law_doing.pt_answering.pt_opening.pt_run_state.declared.machine.Phase.TheVariants.{Turning, Telling}
use Rattle.pt_applying.specs.law_doing.pt_answering.pt_opening.pt_run_state.Stands as stands
use Rattle.pt_applying.specs.law_doing.pt_answering.pt_opening.pt_run_state.Stands.{IsPhase}
use Rattle.pt_applying.specs.law_doing.pt_answering.pt_replying.pt_turning.Ways.{IsOfCode, rows_of, rows_at}
use Rattle.law_marks.specs.Places.{below, AsksByPlace}
use Rattle.law_marks.specs.Laws.{IsNext, turn_here}

-- the slots below those that are taken
cut_off : (n : ℕ) (slots : List Slot) → n ≤ length (slots_view slots)
    → cut (length slots - n) (slots_view slots) ≡ drop n (slots_view slots)
cut_off n slots there =
    let e : length (slots_view slots) - (length slots - n) ≡ n =
    omega (arith, length-map slots slot_view, there) in
    ap (λ k. drop k (slots_view slots)) e

module _ {S : Type 0} (program : Program) (code : CodeBlocks Value) (machine : Machine S Value)
    (embed : CodeState Value → S) (ways : Ways S) (is_of : IsOfCode code machine embed ways)
    (minds : Event Value → Bool) (n : ℕ) (m : Held) (i : Ins) (s : State S Names Value World)
    (is : IsNext program code machine embed ways minds n m i s) where
  abbrev Run : Type 0
  Run = State S Names Value World

  abbrev host : Host Names Value World
  host = heap_host program

  abbrev obj : CodeObject Value
  obj = code.object (block_of m.code.here)

  abbrev ss : Slots Value
  ss = slots_view m.code.here.slots

  abbrev turn : Turn (CodeState Value) Value
  turn = turn_here program code machine embed ways minds n m i

  abbrev Stands_so : Phase → Type 0
  Stands_so (Turning z) = (s.phase ≡ run.turning) × (s.here.state ≡ ways.position z m.code.here)
  Stands_so (Telling z a t) = Unit {0}

  so-in : (p : Phase) (q : run.Phase S Names Value World) → s.phase ≡ q
      → IsPhase program machine ways m.hooks m.code.here s.here.state p q → Stands_so p
  so-in _ _ e (stands.turning z c) = (e, c)
  so-in _ _ e (stands.telling z a t x event told un) = tt

  pub so : Stands_so (Turning AtPlace)
  so = subst Stands_so is.turning (so-in m.phase s.phase refl is.stands.phase)

  pub active-so : machine.active s.here.state ≡ active_in m.code.here.slots
  active-so = is.stands.active ∙ ap (λ p. stands.active_in p m.code.here.slots) is.turning

  pub block-so : s.here.frame.block ≡ block_of m.code.here
  block-so = ap (λ f. f.block) is.stands.around.here.frame

  -- it is the turn of the instruction
  turn-at : machine.turn (block_of m.code.here) s.here.state ≡ turn_in embed turn
  turn-at =
      ap (λ x. machine.turn (block_of m.code.here) x) (so.1 ∙ is_of.stands AtPlace m.code.here)
      ∙ is_of.turn (block_of m.code.here) (on m.code.here.pc.0 ss)
      ∙ ap (λ o. turn_in embed (slots.here obj m.code.here.pc.0 o ss)) is.there

  pub turn-so : machine.turn s.here.frame.block s.here.state ≡ turn_in embed turn
  turn-so = ap (λ b. machine.turn b s.here.state) block-so ∙ turn-at

  pub turn-placed : machine.turn (block_of m.code.here) s.here.state ≡ turn_in embed turn
  turn-placed = turn-at

  pub stepped : step machine host n s ≡ begin_turn machine host n (turn_in embed turn) s
  stepped =
      ap (λ q. by_phase machine host n q s) so.0
      ∙ ap (λ t. begin_turn machine host n t s) turn-so

  -- its mark is that of the instruction
  pub begins : Begins (option_map mark_of i.mark) turn
  begins =
      subst (λ o. Begins (option_map mark_of i.mark) (slots.here obj m.code.here.pc.0 o ss)) is.there
      (begins_at obj m.code.here.pc.0 i ss is.there)

  -- a raise in place of the reply comes from its place, whatever its line is
  module _ (by_place : AsksByPlace code ways) (l : Option Line) where
    abbrev a : Activation
    a = record m.code.here { line = l }

    abbrev size : ℕ
    size = taken obj.pool i.instr

    abbrev rows : List Handler
    rows = rows_at code a a.pc

    pub raises-so : (mark : Option Mark) (q : Ask Value) (k : Reply Value (Answer Value q) → CodeState Value)
        → turn ≡ T.act mark q k → (v : Value) → embed (k (raised v)) ≡ ways.lands a (ways.asked a) v
    raises-so mark q k e v =
        let takes : Takes obj i size ss q k =
        subst (λ t. TakesIfAsked obj i size ss t) e (instructions_take obj i m.code.here.pc.0 i.instr ss) in
        let from : Origin = record { pc = a.pc; below = length a.slots - size } in
        let asked : ways.asked a ≡ from =
        by_place.asked a ∙ ap (λ o. record { pc = a.pc; below = below code a o }) is.there in
        ap embed
        (takes.raises v
        ∙ ap (λ x. land obj i.rows (raise v) x) (sym (cut_off size m.code.here.slots takes.there))
        ∙ ap (λ r. lands_with obj r (length a.slots - size) ss v) (ap rows_of (sym is.there)))
        ∙ sym (is_of.lands a from v)
        ∙ ap (λ o. ways.lands a o v) (sym asked)
