-- Turns in which no instruction is done are steps of a run.
use Rattle.std.proofs.Common.{◌≡◌, ◌∙◌, ℕ, suc, ◌+◌, ◌-◌, List, [], ◌∷◌, length, map, Bool, true, false, Option, Some, None, refl, sym, ap, subst, arith}
use Rattle.std.specs.Prelude.{if◌then◌else◌}
use Rattle.pt_heap.specs.declared.value.Value.{Value}
use Rattle.pt_heap.specs.declared.completion.Completion.TheVariants.{Raise}
use Rattle.pt_ranges.specs.declared.handlers.Handler.{Handler}
use Rattle.pt_code.specs.View.{Ins}
use Rattle.pt_frames.specs.declared.slot.Slot.{Slot}
use Rattle.pt_frames.specs.declared.activation.Activation.{Activation}
use Rattle.sem_control.specs.control.Turn as T
use Rattle.sem_control.specs.control.Turn.{gave, left_by, got}
use Rattle.sem_code.specs.slots.Slots.{State as CodeState, Slots, raise, on, off, reraises}
use Rattle.sem_code.specs.slots.CodeObject.{CodeObject}
use Rattle.sem_code.specs.slots.Machine.{turn as slots_turn}
use Rattle.sem_code.specs.slots.Landing.{land, held_by, cut}
use Rattle.sem_code_machine.specs.code_machine.CodeBlocks.{CodeBlocks}
use Rattle.law_origins.specs.Landings.{lands_with}
use Rattle.law_origins.proofs.Landing.{where_the_first_did, as_the_first_did}
use Rattle.sem_run.specs.run.Machine.{Machine, BlockId, turn_in}
use Rattle.sem_run.specs.run.Events as Told
use Rattle.sem_run.specs.run.Events.{Event, Happening}
use Rattle.sem_run.specs.run.Host.{Host}
use Rattle.sem_run.specs.run.State as run
use Rattle.sem_run.specs.run.State.{State, at, in_state}
use Rattle.sem_run.specs.run.Outcome as O
use Rattle.sem_run.specs.run.Outcome.{Output}
use Rattle.sem_run.specs.run.Step.{step, by_phase, begin_turn, proceed}
use Rattle.sem_steps.specs.Steps.{Steps, stays, behind_step, minded}
use Rattle.pt_telling.specs.pt_run_state.pt_purposes.sem_rows.pt_host.World.{Names, World, Program}
use Rattle.pt_telling.specs.pt_run_state.pt_purposes.sem_rows.pt_host.HeapHost.{heap_host}
use Rattle.pt_telling.specs.pt_run_state.pt_purposes.sem_rows.heap_rows.Views.{slots_view}
use Rattle.pt_pendings.specs.declared.reply.End.{End}
use Rattle.pt_pendings.specs.declared.reply.End.TheVariants.{Gave, LeftBy}
use Rattle.pt_pendings.specs.declared.pending.Origin.{Origin}
use Rattle.pt_pendings.specs.declared.pending.Pending.{Pending}
use Rattle.pt_pendings.specs.declared.pending.Pending.TheVariants as pending
use Rattle.pt_pendings.specs.Stands as pend
use Rattle.pt_pendings.specs.Stands.{IsPending}
use Rattle.pt_pendings.specs.Views.{end_view}
use Rattle.pt_happenings.specs.declared.happening.Happening.{Happening as Tells}
use Rattle.pt_happenings.specs.declared.happening.Happening.TheVariants as told
use Rattle.pt_happenings.specs.Views.{happening_view}
use Rattle.pt_telling.specs.pt_transfers.pt_machine_state.declared.blocks.BlockCode.{BlockCode}
use Rattle.pt_telling.specs.pt_transfers.pt_machine_state.declared.machine.Standing.{Standing as CodeStanding}
use Rattle.pt_telling.specs.pt_transfers.pt_machine_state.declared.machine.Standing.TheVariants as code_standing
use Rattle.pt_telling.specs.pt_transfers.pt_machine_state.Blocks.{IsBlockOf}
use Rattle.pt_telling.specs.pt_transfers.pt_machine_state.Views.{state_of}
use Rattle.pt_telling.specs.pt_transfers.pt_machine_state.Changes.{landed}
use Rattle.pt_telling.proofs.pt_transfers.pt_machine_state.LandLemmas.{landed-state}
use Rattle.pt_telling.specs.pt_run_state.pt_purposes.declared.standing.Standing.{Standing}
use Rattle.pt_telling.specs.pt_run_state.pt_purposes.declared.standing.Standing.TheVariants as standing
use Rattle.pt_telling.specs.pt_run_state.pt_purposes.Seen.{block_of, active_at}
use Rattle.pt_telling.specs.pt_run_state.pt_purposes.Openers.{Ways, UnlessGone, settled, standpoint}
use Rattle.pt_telling.specs.pt_run_state.declared.machine.Machine.{Machine as Held}
use Rattle.pt_telling.specs.pt_run_state.declared.machine.Phase.{Phase}
use Rattle.pt_telling.specs.pt_run_state.declared.machine.Phase.TheVariants.{Turning, Telling}
use Rattle.pt_telling.specs.pt_run_state.declared.machine.Waiting.{Waiting}
use Rattle.pt_telling.specs.pt_run_state.Stands as stands
use Rattle.pt_telling.specs.pt_run_state.Stands.{Stands, StandsAround, IsPhase, IsToTell}
use Rattle.pt_telling.specs.Telling.{Told as Result, told as tell}
use Rattle.pt_telling.specs.Laws.{IsNamed, Comes, BehindTold}
use Rattle.pt_telling.proofs.Tells.{tells_as_run}
use Rattle.pt_turning.specs.Ways.{rows_of, rows_at, state_at, IsOfCode}
use Rattle.pt_turning.specs.Turning.{end_told, ends_as, ending, block_ended, standing_of, behind_raise, raised_in, going, reraised, begun, gone_on}
use Rattle.pt_turning.specs.Laws.{BeginsAsRun, EndsAsRun, ReraisesAsRun, GoesOnAsRun}

module _ {S : Type 0} (program : Program) (code : CodeBlocks Value) (machine : Machine S Value)
    (embed : CodeState Value → S) (ways : Ways S) (is_of : IsOfCode code machine embed ways)
    (minds : Event Value → Bool) (n : ℕ) where
  abbrev Run : Type 0
  Run = State S Names Value World

  abbrev host : Host Names Value World
  host = heap_host program

  abbrev To : Run → Waiting → Result → Type 0
  To s w r = (t : Run) × (Comes program machine ways minds n s [] t × BehindTold program machine ways minds n w t r)

  pub named-by : (b : BlockId) (block : BlockCode) → IsBlockOf program code b block → IsNamed program b block
  named-by b block known = record { name = known.name; first_line = known.first_line }

  -- behind a step that writes nothing all of this is to be told
  pub told-behind : (s s1 : Run) (m : Held) (w : Waiting) (hs : List Tells) (block : BlockCode)
      → step machine host n s ≡ O.goes [] s1 → IsToTell program machine ways m w hs s1
      → IsNamed program (block_of m.code.here) block → To s w (tell block w hs m)
  told-behind s s1 m w hs block e is named =
      let to = tells_as_run program machine ways minds n m w hs s1 is block named in (
        to.0,
        (
          record {
            outputs = to.1.0.outputs;
            steps = behind_step s s1 to.0 [] to.1.0.outputs e to.1.0.steps;
            written = to.1.0.written;
          },
          to.1.1,
        ),
      )

  -- the machine turns, standing so
  module _ (m : Held) (z : Standing) (s : Run) (is : Stands program machine ways m s)
      (turns : m.phase ≡ Turning z) where
    abbrev Stands_so : Phase → Type 0
    Stands_so (Turning y) = (s.phase ≡ run.turning) × (s.here.state ≡ ways.position y m.code.here)
    Stands_so (Telling y active t) = Unit {0}

    so-in : (p : Phase) (q : run.Phase S Names Value World) → s.phase ≡ q
        → IsPhase program machine ways m.hooks m.code.here s.here.state p q → Stands_so p
    so-in _ _ e (stands.turning y c) = (e, c)
    so-in _ _ e (stands.telling y a t x event told un) = tt

    so : Stands_so (Turning z)
    so = subst Stands_so turns (so-in m.phase s.phase refl is.phase)

    active-so : machine.active s.here.state ≡ active_at z m.code.here.slots
    active-so = is.active ∙ ap (λ p. stands.active_in p m.code.here.slots) turns

    block-so : s.here.frame.block ≡ block_of m.code.here
    block-so = ap (λ f. f.block) is.around.here.frame

    -- its turn is that of code
    turn-so : (c : CodeState Value) → ways.position z m.code.here ≡ embed c
        → machine.turn s.here.frame.block s.here.state
        ≡ turn_in embed (slots_turn (code.object (block_of m.code.here)) c)
    turn-so c e =
        ap (λ b. machine.turn b s.here.state) block-so
        ∙ ap (λ t. machine.turn (block_of m.code.here) t) (so.1 ∙ e)
        ∙ is_of.turn (block_of m.code.here) c

    stepped : (c : CodeState Value) → ways.position z m.code.here ≡ embed c
        → step machine host n s
        ≡ begin_turn machine host n (turn_in embed (slots_turn (code.object (block_of m.code.here)) c)) s
    stepped c e =
        ap (λ q. by_phase machine host n q s) so.0
        ∙ ap (λ t. begin_turn machine host n t s) (turn-so c e)

  pub around-at : (m : Held) (s : Run) (q : run.Phase S Names Value World)
      → StandsAround program machine ways m s → StandsAround program machine ways m (at q s)
  around-at m s q around = record {
    at_place = around.at_place;
    here = around.here;
    openers = around.openers;
    generators = around.generators;
    world = around.world;
    trace = around.trace;
    tools = around.tools;
    units = around.units;
    frames = around.frames;
    numbers = around.numbers;
    untraced = around.untraced;
  }

  ends : (m : Held) (e : End) (s : Run) → Stands program machine ways m s
      → m.phase ≡ Turning (ends_as e) → (block : BlockCode)
      → IsBlockOf program code (block_of m.code.here) block
      → To s (ending e) (block_ended block e m)
  ends m (Gave v) s is turns block known =
      let s1 : Run = at (run.telling (Told.returns v ∷ []) (run.ending (gave v))) s in
      let to_tell : IsToTell program machine ways m (ending (Gave v)) (end_told (Gave v) ∷ []) s1 = record {
        around = around-at m s (run.telling (Told.returns v ∷ []) (run.ending (gave v))) is.around;
        active = active-so m (standing.Returns v) s is turns;
        pending = run.ending (gave v);
        phase = refl;
        waits = pend.ending (Gave v);
        stands = (so m (standing.Returns v) s is turns).1;
      } in
      told-behind s s1 m (ending (Gave v)) (end_told (Gave v) ∷ []) block
      (stepped m (standing.Returns v) s is turns (off (gave v)) (is_of.stands (standing.Returns v) m.code.here))
      to_tell (named-by (block_of m.code.here) block known)
  ends m (LeftBy v) s is turns block known =
      let s1 : Run = at (run.telling (Told.unwinds v ∷ []) (run.ending (left_by v))) s in
      let to_tell : IsToTell program machine ways m (ending (LeftBy v)) (end_told (LeftBy v) ∷ []) s1 = record {
        around = around-at m s (run.telling (Told.unwinds v ∷ []) (run.ending (left_by v))) is.around;
        active = active-so m (standing.Raises v) s is turns;
        pending = run.ending (left_by v);
        phase = refl;
        waits = pend.ending (LeftBy v);
        stands = (so m (standing.Raises v) s is turns).1;
      } in
      told-behind s s1 m (ending (LeftBy v)) (end_told (LeftBy v) ∷ []) block
      (stepped m (standing.Raises v) s is turns (off (left_by v)) (is_of.stands (standing.Raises v) m.code.here))
      to_tell (named-by (block_of m.code.here) block known)

  -- what waits in the run
  abbrev Waits_so : pend.Standpoint S → Pending → run.Pending S Value → Type 0
  Waits_so here pending.Starting q = q ≡ run.starting here.state
  Waits_so here (pending.Going from) q = (f : Value → S) × (q ≡ run.going here.onward f)
  Waits_so here p q = Unit {0}

  waits-so : (here : pend.Standpoint S) (p : Pending) (q : run.Pending S Value)
      → IsPending machine here p q → Waits_so here p q
  waits-so here _ _ pend.starting = refl
  waits-so here _ _ (pend.doing q c x e) = tt
  waits-so here _ _ (pend.going from f e) = (f, refl)
  waits-so here _ _ (pend.giving_on y v x) = tt
  waits-so here _ _ (pend.going_on y r x) = tt
  waits-so here _ _ (pend.ending e) = tt

  -- the run goes on by the next turn, in a state
  abbrev onward : S → Run → Run
  onward c s = at run.turning (in_state c s)

  pub turning-so : (m : Held) (z : Standing) (c : S) (s : Run) → StandsAround program machine ways m s
      → c ≡ ways.position z m.code.here
      → Stands program machine ways (record m { phase = Turning z }) (onward c s)
  turning-so m z c s around e = record {
    around = record {
      at_place = around.at_place;
      here = record {
        frame = around.here.frame;
        act = around.here.act;
        behind_jump = around.here.behind_jump;
      };
      openers = around.openers;
      generators = around.generators;
      world = around.world;
      trace = around.trace;
      tools = around.tools;
      units = around.units;
      frames = around.frames;
      numbers = around.numbers;
      untraced = around.untraced;
    };
    active = ap (λ d. machine.active d) e ∙ is_of.active z m.code.here;
    phase = stands.turning z e;
  }

  one-step : (m : Held) (c : S) (s : Run) → step machine host n s ≡ O.goes [] (onward c s)
      → Stands program machine ways m (onward c s)
      → (t : Run) × (Comes program machine ways minds n s [] t × Stands program machine ways m t)
  one-step m c s e is = (
    onward c s,
    (
      record {
        outputs = [];
        steps = behind_step s (onward c s) (onward c s) [] [] e (stays (onward c s));
        written = refl;
      },
      is,
    ),
  )

  begins : BeginsAsRun program code machine ways minds n
  begins m z active s is =
      let q : is.pending ≡ run.starting s.here.state = waits-so _ pending.Starting is.pending is.waits in
      one-step (begun z m) s.here.state s
      (ap (λ p. by_phase machine host n p s) (is.phase ∙ ap (λ p. run.telling [] p) q))
      (turning-so m z s.here.state s is.around is.stands)

  goes-on : GoesOnAsRun program code machine ways minds n
  goes-on m z active from s is =
      let q = waits-so (standpoint ways s.here.state z m.code.here) (pending.Going from) is.pending is.waits in
      one-step (gone_on z m) (ways.position (settled z) m.code.here) s
      (ap (λ p. by_phase machine host n p s) (is.phase ∙ ap (λ p. run.telling [] p) q.1))
      (turning-so m (settled z) (ways.position (settled z) m.code.here) s is.around refl)

  -- a raise goes on
  state-there : (cs : CodeStanding) (a : Activation)
      → state_at code (settled (standing_of cs)) a ≡ state_of cs a
  state-there code_standing.AtPlace a = refl
  state-there (code_standing.Returns v) a = refl
  state-there (code_standing.Raises v) a = refl

  abbrev moved : Activation → Activation → Activation
  moved a b = record a { pc = b.pc; slots = b.slots }

  pub settled-there : (cs : CodeStanding) → settled (standing_of cs) ≡ standing_of cs
  settled-there code_standing.AtPlace = refl
  settled-there (code_standing.Returns v) = refl
  settled-there (code_standing.Raises v) = refl

  state-moved : (cs : CodeStanding) (a b : Activation) → state_of cs (moved a b) ≡ state_of cs b
  state-moved code_standing.AtPlace a b = refl
  state-moved (code_standing.Returns v) a b = refl
  state-moved (code_standing.Raises v) a b = refl

  pub not-landed : (cs : CodeStanding) (from : Origin) (P : Type 0)
      → UnlessGone (pending.Going from) (standing_of cs) P
  not-landed code_standing.AtPlace from P = tt
  not-landed (code_standing.Returns v) from P = tt
  not-landed (code_standing.Raises v) from P = tt

  length-view : (slots : List Slot) → length (slots_view slots) ≡ length slots
  length-view [] = refl
  length-view (s ∷ ss) = ap suc (length-view ss)

  nothing-held : (obj : CodeObject Value) (rows : List Handler) (ss : Slots Value) (v : Value)
      (pc : ℕ) → land obj rows (raise v) ss ≡ on pc [] → ⊥
  nothing-held obj [] ss v pc e = absurd cc
  nothing-held obj (row ∷ rows) ss v pc e = absurd cc

  -- a raise in its place lands where it would have landed
  module _ (obj : CodeObject Value) (rows : List Handler) (ss : Slots Value) (v w : Value) where
    abbrev same_with : List Slot → Type 0
    same_with slots = lands_with obj rows (length slots - 1) (slots_view slots) w ≡ land obj rows (raise w) ss

    where-it-landed : (pc : ℕ) (slots : List Slot)
        → land obj rows (raise v) ss ≡ on pc (slots_view slots) → same_with slots
    where-it-landed pc [] e = absurd (nothing-held obj rows ss v pc e)
    where-it-landed pc (t ∷ ts) e =
        let k : length (t ∷ ts) - 1 ≡ length (slots_view ts) = omega (arith, length-view ts) in
        ap (λ d. lands_with obj rows d (slots_view (t ∷ ts)) w) k
        ∙ where_the_first_did obj rows ss (slots_view ts) _ pc v w e

    lands-same : (cs : CodeStanding) (a : Activation)
        → land obj rows (raise v) ss ≡ state_of cs a → same_with a.slots
    lands-same code_standing.AtPlace a e = where-it-landed a.pc.0 a.slots e
    lands-same (code_standing.Returns u) a e =
        as_the_first_did obj rows ss (slots_view a.slots) (length a.slots - 1) (gave u) v w e
    lands-same (code_standing.Raises u) a e =
        as_the_first_did obj rows ss (slots_view a.slots) (length a.slots - 1) (left_by u) v w e

  -- where a raise leads from the place of the newest activation
  module _ (m : Held) (v : Value) (i : Ins) (at_place : m.code.standing ≡ code_standing.AtPlace)
      (there : (code.object (block_of m.code.here)).at m.code.here.pc.0 ≡ Some i)
      (block : BlockCode) (known : IsBlockOf program code (block_of m.code.here) block) where
    abbrev obj : CodeObject Value
    obj = code.object (block_of m.code.here)

    abbrev rows : List Handler
    rows = rows_at code m.code.here m.code.here.pc

    abbrev below : Slots Value
    below = slots_view m.code.here.slots

    abbrev m2 : Held
    m2 = raised_in block v m

    abbrev cs : CodeStanding
    cs = (behind_raise block v m).standing

    abbrev instead : Value → S
    instead w = embed (land obj rows (raise w) below)

    abbrev came_from : Origin
    came_from = record {
      pc = m.code.here.pc;
      below = length (behind_raise block v m).here.slots - 1;
    }

    rows-are : i.rows ≡ rows
    rows-are = ap rows_of (sym there)

    landed-there : state_of cs m2.code.here ≡ land obj rows (raise v) below
    landed-there =
        state-moved cs m.code.here (behind_raise block v m).here
        ∙ landed-state program code block (block_of m.code.here) i m.code (raise v) known at_place there
        ∙ ap (λ r. land obj r (raise v) below) rows-are

    pub onward-is : ways.position (settled (standing_of cs)) m2.code.here ≡ instead v
    onward-is =
        is_of.stands (standing_of cs) m2.code.here
        ∙ ap embed (state-there cs m2.code.here ∙ landed-there)

    pub lands-so : (w : Value) → instead w ≡ ways.lands m2.code.here came_from w
    lands-so w =
        ap embed (sym (lands-same obj rows below v w cs m2.code.here (sym landed-there)))
        ∙ sym (is_of.lands m2.code.here came_from w)

    pub around-raised : (s : Run) (q : run.Phase S Names Value World)
        → StandsAround program machine ways m s → StandsAround program machine ways m2 (at q s)
    around-raised s q around = record {
      at_place = around.at_place;
      here = record {
        frame = around.here.frame;
        act = around.here.act;
        behind_jump = around.here.behind_jump;
      };
      openers = around.openers;
      generators = around.generators;
      world = around.world;
      trace = around.trace;
      tools = around.tools;
      units = around.units;
      frames = around.frames;
      numbers = around.numbers;
      untraced = around.untraced;
    }

    abbrev telling_it : run.Phase S Names Value World
    telling_it = run.telling (Told.raises_again v ∷ []) (run.going (instead v) (λ w. instead w))

    to-tell : (s : Run) (is : Stands program machine ways m s)
        → m.phase ≡ Turning (standing.Reraises v)
        → IsToTell program machine ways m2 (going block v m) (told.RaisesAgain v ∷ []) (at telling_it s)
    to-tell s is turns = record {
      around = around-raised s telling_it is.around;
      active = active-so m (standing.Reraises v) s is turns;
      pending = run.going (ways.position (settled (standing_of cs)) m2.code.here) (λ w. instead w);
      phase = ap (λ c. run.telling (Told.raises_again v ∷ []) (run.going c (λ w. instead w))) (sym onward-is);
      waits = pend.going came_from (λ w. instead w) lands-so;
      stands = not-landed cs came_from (s.here.state ≡ ways.position (standing_of cs) m2.code.here);
    }

    reraises-so : (s : Run) → Stands program machine ways m s
        → m.phase ≡ Turning (standing.Reraises v) → To s (going block v m) (reraised block v m)
    reraises-so s is turns =
        told-behind s (at telling_it s) m2 (going block v m) (told.RaisesAgain v ∷ []) block
        (stepped m (standing.Reraises v) s is turns (reraises v rows below) (is_of.stands (standing.Reraises v) m.code.here))
        (to-tell s is turns) (named-by (block_of m.code.here) block known)

pub begins_as_run : {S : Type 0} (program : Program) (code : CodeBlocks Value) (machine : Machine S Value)
    (embed : CodeState Value → S) (ways : Ways S) → IsOfCode code machine embed ways
    → (minds : Event Value → Bool) (n : ℕ) → BeginsAsRun program code machine ways minds n
begins_as_run program code machine embed ways is_of minds n = begins program code machine embed ways is_of minds n

pub ends_as_run : {S : Type 0} (program : Program) (code : CodeBlocks Value) (machine : Machine S Value)
    (embed : CodeState Value → S) (ways : Ways S) → IsOfCode code machine embed ways
    → (minds : Event Value → Bool) (n : ℕ) → EndsAsRun program code machine ways minds n
ends_as_run program code machine embed ways is_of minds n m e s is turns block known =
    ends program code machine embed ways is_of minds n m e s is turns block known

pub goes_on_as_run : {S : Type 0} (program : Program) (code : CodeBlocks Value) (machine : Machine S Value)
    (embed : CodeState Value → S) (ways : Ways S) → IsOfCode code machine embed ways
    → (minds : Event Value → Bool) (n : ℕ) → GoesOnAsRun program code machine ways minds n
goes_on_as_run program code machine embed ways is_of minds n = goes-on program code machine embed ways is_of minds n

pub reraises_as_run : {S : Type 0} (program : Program) (code : CodeBlocks Value) (machine : Machine S Value)
    (embed : CodeState Value → S) (ways : Ways S) → IsOfCode code machine embed ways
    → (minds : Event Value → Bool) (n : ℕ) → ReraisesAsRun program code machine ways minds n
reraises_as_run program code machine embed ways is_of minds n m v i s is turns there block known =
    reraises-so program code machine embed ways is_of minds n m v i is.around.at_place there block known s is turns
