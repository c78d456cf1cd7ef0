-- A turn in which no instruction is done is steps of a run.
use Rattle.std.proofs.Common.{◌≡◌, ◌∙◌, ℕ, List, [], ◌∷◌, ◌++◌, Bool, true, false, Option, Some, None, refl, sym, ap, subst, append-nil}
use Rattle.std.specs.Prelude.{is_some, if◌then◌else◌}
use Rattle.pt_base.specs.declared.what.What.TheVariants.{Feature}
use Rattle.pt_heap.specs.declared.value.Value.{Value}
use Rattle.pt_code.specs.View.{Ins}
use Rattle.pt_frames.specs.declared.activation.Activation.{Activation}
use Rattle.pt_places.specs.PlaceTable.{place_at}
use Rattle.sem_code.specs.slots.Slots.{State as CodeState}
use Rattle.sem_code_machine.specs.code_machine.CodeBlocks.{CodeBlocks}
use Rattle.sem_run.specs.run.Machine.{Machine}
use Rattle.sem_run.specs.run.Events.{Event}
use Rattle.sem_run.specs.run.Host.{Host, leave}
use Rattle.sem_run.specs.run.State as run
use Rattle.sem_run.specs.run.State.{State, Hearing, hearing, at}
use Rattle.sem_run.specs.run.Views as views
use Rattle.sem_run.specs.run.Outcome as O
use Rattle.sem_run.specs.run.Run.{Write, writes}
use Rattle.sem_run.specs.run.Step.{by_phase}
use Rattle.sem_steps.specs.Steps.{stays, minded}
use Rattle.sem_steps.proofs.Moves.{join}
use Rattle.pt_closing.specs.pt_host.World.{Names, World, Program}
use Rattle.pt_closing.specs.pt_host.HeapHost.{heap_host}
use Rattle.pt_happenings.specs.declared.happening.Happening.{Happening}
use Rattle.pt_happenings.specs.declared.happening.Happening.TheVariants.{RaisesAgain}
use Rattle.pt_happenings.specs.Views.{event_view}
use Rattle.pt_pendings.specs.declared.reply.End.{End}
use Rattle.pt_pendings.specs.declared.reply.End.TheVariants.{Gave, LeftBy}
use Rattle.pt_pendings.specs.declared.pending.Pending.{Pending}
use Rattle.pt_pendings.specs.declared.pending.Pending.TheVariants as pending
use Rattle.pt_pendings.specs.declared.telling.Telling.{Telling}
use Rattle.pt_closing.specs.pt_asking.declared.asked.Next.{Next}
use Rattle.pt_closing.specs.pt_asking.declared.asked.Next.TheVariants as next
use Rattle.pt_closing.specs.pt_beginning.pt_machine_state.declared.blocks.BlockCode.{BlockCode}
use Rattle.pt_closing.specs.pt_beginning.pt_machine_state.declared.blocks.Blocks.{Blocks}
use Rattle.pt_closing.specs.pt_beginning.pt_machine_state.declared.writes.Writes.{Writes}
use Rattle.pt_closing.specs.pt_beginning.pt_machine_state.Blocks.{IsBlockOf, AreBlocksOf, block_at}
use Rattle.pt_closing.specs.pt_beginning.pt_machine_state.Writing.{Adds}
use Rattle.pt_closing.proofs.pt_machine_state.WriteLemmas.{adds_none}
use Rattle.pt_closing.specs.pt_purposes.declared.standing.Standing.{Standing}
use Rattle.pt_closing.specs.pt_purposes.declared.standing.Standing.TheVariants as standing
use Rattle.pt_closing.specs.pt_purposes.declared.opener.Opener.{Opener}
use Rattle.pt_closing.specs.pt_purposes.Seen.{block_of}
use Rattle.pt_closing.specs.pt_purposes.Openers.{Ways}
use Rattle.pt_closing.specs.pt_beginning.pt_run_state.declared.machine.Machine.{Machine as Held}
use Rattle.pt_closing.specs.pt_beginning.pt_run_state.declared.machine.Phase.{Phase}
use Rattle.pt_closing.specs.pt_beginning.pt_run_state.declared.machine.Phase.TheVariants.{Turning, Telling as Tells}
use Rattle.pt_closing.specs.pt_beginning.pt_run_state.declared.machine.Waiting.{Waiting}
use Rattle.pt_closing.specs.pt_beginning.pt_run_state.declared.machine.Turn.{Turn}
use Rattle.pt_closing.specs.pt_beginning.pt_run_state.declared.machine.Turn.TheVariants.{Goes, Asks, Ends}
use Rattle.pt_closing.specs.pt_beginning.pt_run_state.Stands.{Stands, StandsAround, IsToTell}
use Rattle.pt_closing.specs.pt_beginning.pt_run_state.Advances as advances
use Rattle.pt_closing.specs.pt_turning.pt_telling.Telling as telling
use Rattle.pt_closing.specs.pt_turning.pt_telling.Telling.{entered_by, entered_by_all, told_in, told, is_silent}
use Rattle.pt_closing.specs.pt_turning.pt_telling.Asks.{FoundSo, IsNext, event_lines, found_by}
use Rattle.pt_closing.specs.pt_turning.pt_telling.Laws as tells
use Rattle.pt_closing.specs.pt_turning.pt_telling.Laws.{IsNamed, Comes, BehindTold, BehindAsked}
use Rattle.pt_closing.proofs.pt_telling.Asks.{asks_as_run, writes-append}
use Rattle.pt_closing.specs.pt_turning.Ways.{IsOfCode}
use Rattle.pt_closing.specs.pt_turning.Turning.{ending, end_told, ends_as, going, raised_in}
use Rattle.pt_closing.specs.pt_turning.Laws.{waiting}
use Rattle.pt_closing.proofs.pt_turning.Turns.{begins_as_run, ends_as_run, goes_on_as_run, reraises_as_run}
use Rattle.pt_closing.proofs.Ending.{module_ends_as_run}
use Rattle.pt_advancing.specs.declared.onward.Advanced.{Advanced}
use Rattle.pt_advancing.specs.Lines.{left_at, visible_line}
use Rattle.pt_advancing.specs.Proceeding.{AdvancedSo, goes, ended_in, proceeded, told_on, raised_if, turned}
use Rattle.pt_advancing.specs.Advancing.{found_on, TellsOn, AdvancesIn}
use Rattle.pt_advancing.specs.Laws as laws
use Rattle.pt_advancing.specs.declared.onward.Advanced.TheVariants as advanced
use Rattle.pt_advancing.specs.Laws.{MindsSo, BehindSo, AdvancesAsRun, TurnsAdvance}
use Rattle.pt_advancing.proofs.SeenLines.{line_is}

-- what is told changes nothing of the newest activation
module _ (block : BlockCode) where
  entered-here : (hs : List Happening) (m : Held) → (entered_by_all block hs m).code.here ≡ m.code.here
  entered-here [] m = refl
  entered-here (h ∷ hs) m = entered-here hs (entered_by block h m)

  told-in-here : (silent : Bool) (w : Waiting) (hs : List Happening) (m : Held)
      → (told_in block silent w hs m).machine.code.here ≡ m.code.here
  told-in-here true w hs m = entered-here hs m
  told-in-here false w [] m = refl
  told-in-here false w (h ∷ hs) m = refl

  pub told-here : (w : Waiting) (hs : List Happening) (m : Held)
      → (told block w hs m).machine.code.here ≡ m.code.here
  told-here w hs m = told-in-here (is_silent m) w hs m

  -- nor does what is found at an event
  found-here : (k : Next) (z : Standing) (active : Option Value) (t : Telling) (m : Held)
      → (found_by block k z active t m).machine.code.here ≡ m.code.here
  found-here next.Nobody z active t m =
      told-here (record { standing = z; active = active; pending = t.pending }) t.behind
      (record m { phase = Turning standing.AtPlace })
  found-here (next.Consulted q left) z active t m = refl
  found-here (next.Called h f left) z active t m = refl

not-none : {A : Type 0} (os : List A) (o : A) (ps : List A) → os ≡ o ∷ ps → os ≡ [] → ⊥
not-none os o ps e f = cc

module _ {S : Type 0} (program : Program) (code : CodeBlocks Value) (machine : Machine S Value)
    (embed : CodeState Value → S) (ways : Ways S) (is_of : IsOfCode code machine embed ways)
    (minds : Event Value → Bool) (n : ℕ) where
  abbrev Run : Type 0
  Run = State S Names Value World

  abbrev host : Host Names Value World
  host = heap_host program

  abbrev ComesTo : Run → List Write → Run → Type 0
  ComesTo = Comes program machine ways minds n

  abbrev BehindTurn : Held → Run → Turn → Type 0
  BehindTurn = advances.Behind program machine host ways (minded minds) n

  abbrev Behind_so : Held → Run → Advanced → Type 0
  Behind_so = BehindSo program code machine ways minds n

  -- a run comes to what became of the turn
  abbrev To : Run → List Write → AdvancedSo → Type 0
  To s ws a = (t : Run) × (ComesTo s ws t × Behind_so a.machine t a.advanced)

  named-by : (m : Held) (block : BlockCode) → IsBlockOf program code (block_of m.code.here) block
      → IsNamed program (block_of m.code.here) block
  named-by m block known = record { name = known.name; first_line = known.first_line }

  joined : (s t u : Run) (ws : List Write) → ComesTo s ws t → ComesTo t [] u → ComesTo s ws u
  joined s t u ws a b = record {
    outputs = a.outputs ++ b.outputs;
    steps = join machine host (minded minds) n s t u a.outputs b.outputs a.steps b.steps;
    written = writes-append true a.outputs b.outputs
        ∙ ap (λ vs. vs ++ writes true b.outputs) a.written
        ∙ ap (λ vs. ws ++ vs) b.written ∙ append-nil ws;
  }

  stay : (s : Run) → ComesTo s [] s
  stay s = record { outputs = []; steps = stays s; written = refl }

  behind-goes : (m : Held) (t : Run) → Stands program machine ways m t → Behind_so m t (advanced.Turned Goes)
  behind-goes m t is = laws.turned Goes (advances.goes is)

  -- what waits goes on
  module _ (m : Held) (z : Standing) (active : Option Value) (s : Run) (block : BlockCode)
      (known : IsBlockOf program code (block_of m.code.here) block) where
    ends-in : (e : End) → IsToTell program machine ways m (waiting z active (pending.Ending e)) [] s
        → (os : List Opener) → m.openers ≡ os
        → To s [] (record { advanced = ended_in os block e (waiting z active (pending.Ending e)) m; machine = m })
    ends-in e is [] alone =
        let to = module_ends_as_run program machine ways minds n m z active e s is alone block (named-by m block known) in
        (to.0, (to.1.0, laws.turned _ to.1.1))
    ends-in e is (o ∷ os) some =
        (s, (stay s, laws.onward (waiting z active (pending.Ending e)) is (λ none. not-none m.openers o os some none)))

    by-pending : (p : Pending) → IsToTell program machine ways m (waiting z active p) [] s
        → To s [] (proceeded block (waiting z active p) m)
    by-pending pending.Starting is =
        let to = begins_as_run program code machine embed ways is_of minds n m z active s is in
        (to.0, (to.1.0, behind-goes _ to.0 to.1.1))
    by-pending (pending.Going from) is =
        let to = goes_on_as_run program code machine embed ways is_of minds n m z active from s is in
        (to.0, (to.1.0, behind-goes _ to.0 to.1.1))
    by-pending (pending.Ending e) is = ends-in e is m.openers refl
    by-pending (pending.Doing c) is = (s, (stay s, laws.onward (waiting z active (pending.Doing c)) is tt))
    by-pending (pending.GivingOn v) is = (s, (stay s, laws.onward (waiting z active (pending.GivingOn v)) is tt))
    by-pending (pending.GoingOn r) is = (s, (stay s, laws.onward (waiting z active (pending.GoingOn r)) is tt))

  proceeds : (m : Held) (w : Waiting) (s : Run) → IsToTell program machine ways m w [] s
      → (block : BlockCode) → IsBlockOf program code (block_of m.code.here) block
      → To s [] (proceeded block w m)
  proceeds m w s is block known = by-pending m w.standing w.active s block known w.pending is

  abbrev KnownIn : BlockCode → Activation → Type 0
  KnownIn block a = IsBlockOf program code (block_of a) block

  behind-told : (s t : Run) (w : Waiting) (block : BlockCode) (r : telling.Told) → ComesTo s [] t
      → BehindTold program machine ways minds n w t r → KnownIn block r.machine.code.here
      → To s [] (told_on block w r)
  behind-told s t w block _ comes (tells.event m is) known = (t, (comes, behind-goes m t is))
  behind-told s t w block _ comes (tells.onward m is) known =
      let to = proceeds m w t is block known in
      (to.0, (joined s t to.0 [] comes to.1.0, to.1.1))

  -- what was found at an event goes on
  module _ (blocks : Blocks) (are : AreBlocksOf program code blocks) where
    -- the function of a hook cannot be called
    ends-there : (m : Held) (t : Run) (x : Hearing S Value) → t.phase ≡ hearing x (leave Feature)
        → StandsAround program machine ways m (at (run.asking x.telling) t)
        → BehindTurn m t (Ends (left_at blocks Feature m))
    ends-there m t x is around =
        let same : views.visible_line host.first_line t ≡ visible_line blocks m =
        line_is program code machine ways blocks are m (at (run.asking x.telling) t) around in
        advances.ends (left_at blocks Feature m) (O.outside Feature (visible_line blocks m))
        (ap (λ p. by_phase machine host n p t) is ∙ ap (λ l. O.ends (O.outside Feature l)) same)
        (advances.outside Feature (record { 0 = visible_line blocks m })) around.units

    founds : (t : Run) (block : BlockCode) (f : FoundSo)
        → BehindAsked program machine ways minds n t f → KnownIn block f.machine.code.here
        → To t [] (found_on blocks block f.found f.machine)
    founds t block _ (tells.event m is) known = (t, (stay t, behind-goes m t is))
    founds t block _ (tells.onward m w is) known = proceeds m w t is block known
    founds t block _ (tells.asks m q r z e is) known =
        (t, (stay t, laws.turned (Asks q) (advances.asks q r z e is)))
    founds t block _ (tells.calls m h f x same is stands) known =
        (t, (stay t, laws.turned _ (ends-there m t x is stands.around)))

  -- a turn of code begins
  module _ (m : Held) (s : Run) (is : Stands program machine ways m s) (block : BlockCode)
      (known : IsBlockOf program code (block_of m.code.here) block) where
    known-told : (w : Waiting) (hs : List Happening) (k : Held) → KnownIn block k.code.here
        → KnownIn block (told block w hs k).machine.code.here
    known-told w hs k is_known = subst (λ a. KnownIn block a) (sym (told-here block w hs k)) is_known

    ends : (e : End) → m.phase ≡ Turning (ends_as e) → To s [] (turned block (ends_as e) m)
    ends (Gave v) turns =
        let to = ends_as_run program code machine embed ways is_of minds n m (Gave v) s is turns block known in
        behind-told s to.0 (ending (Gave v)) block _ to.1.0 to.1.1
        (known-told (ending (Gave v)) (end_told (Gave v) ∷ []) m known)
    ends (LeftBy v) turns =
        let to = ends_as_run program code machine embed ways is_of minds n m (LeftBy v) s is turns block known in
        behind-told s to.0 (ending (LeftBy v)) block _ to.1.0 to.1.1
        (known-told (ending (LeftBy v)) (end_told (LeftBy v) ∷ []) m known)

    raises-if : (v : Value) → m.phase ≡ Turning (standing.Reraises v) → (o : Option Ins)
        → (code.object (block_of m.code.here)).at m.code.here.pc.0 ≡ o
        → To s [] (raised_if (is_some (place_at o)) block v m)
    raises-if v turns (Some i) there =
        let to = reraises_as_run program code machine embed ways is_of minds n m v i s is turns there block known in
        behind-told s to.0 (going block v m) block _ to.1.0 to.1.1
        (known-told (going block v m) (RaisesAgain v ∷ []) (raised_in block v m) known)
    raises-if v turns None none =
        (s, (stay s, laws.at_instruction (standing.Reraises v) is turns none))

    raises : (v : Value) → m.phase ≡ Turning (standing.Reraises v)
        → To s [] (turned block (standing.Reraises v) m)
    raises v turns =
        subst (λ o. To s [] (raised_if (is_some o) block v m)) (sym (known.places m.code.here.pc.0))
        (raises-if v turns ((code.object (block_of m.code.here)).at m.code.here.pc.0) refl)

    turns : (z : Standing) → m.phase ≡ Turning z → To s [] (turned block z m)
    turns (standing.Returns v) e = ends (Gave v) e
    turns (standing.Raises v) e = ends (LeftBy v) e
    turns (standing.Reraises v) e = raises v e
    turns standing.AtPlace e = (s, (stay s, laws.at_instruction standing.AtPlace is e tt))
    turns standing.Landed e = (s, (stay s, laws.at_instruction standing.Landed is e tt))
    turns (standing.ThrownTo v) e = (s, (stay s, laws.at_instruction (standing.ThrownTo v) is e tt))

    abbrev Lead : Advanced → Writes → Held → Writes → Type 0
    Lead a written new writes =
        (t : Run) × (advances.Comes program machine host ways (minded minds) n s written writes t × Behind_so new t a)

    -- with what was written
    led : (ws : List Write) (a : AdvancedSo) (written writes : Writes) → Adds written writes ws
        → To s ws a → Lead a.advanced written a.machine writes
    led ws a written writes adds to = (
      to.0,
      (
        record {
          outputs = to.1.0.outputs;
          steps = to.1.0.steps;
          written = subst (λ vs. Adds written writes vs) (sym to.1.0.written) adds;
        },
        to.1.1,
      ),
    )

    module _ (blocks : Blocks) (are : AreBlocksOf program code blocks) (debugs : Bool) (a : Advanced)
        (written : Writes) (new : Held) (writes : Writes) where
      by-turning : (z : Standing) → m.phase ≡ Turning z
          → AdvancesIn blocks block debugs (Turning z) a m written new writes → Lead a written new writes
      by-turning z e so =
          led [] (record { advanced = a; machine = new }) written writes
          (subst (λ w. Adds written w []) (sym so.1) (adds_none written))
          (subst (λ r. To s [] r) (sym so.0) (turns z e))

      tells-on : (z : Standing) (active : Option Value) (t : Telling) → m.phase ≡ Tells z active t
          → debugs ≡ minds (event_view t.event)
          → TellsOn blocks block debugs z active t (record { advanced = a; machine = new }) m written writes
          → Lead a written new writes
      tells-on z active t e same so =
          let ws : List Write = if so.finds.asked.logs then event_lines block t.event m.code.heap else [] in
          let asked : IsNext (minds (event_view t.event)) m t so.finds.asked =
          subst (λ b. IsNext b m t so.finds.asked) same so.finds.next in
          let to = asks_as_run program machine ways minds n m z active t s is e block (named-by m block known) so.finds.asked asked in
          let behind : BehindAsked program machine ways minds n to.0 (record { found = so.finding; machine = so.reached }) =
          subst (λ f. BehindAsked program machine ways minds n to.0 f) (sym so.finds.found) to.1.1 in
          let known_there : KnownIn block so.reached.code.here =
          subst (λ f. KnownIn block f.machine.code.here) (sym so.finds.found)
          (subst (λ b. KnownIn block b) (sym (found-here block so.finds.asked.next z active t m)) known) in
          let on = founds blocks are to.0 block (record { found = so.finding; machine = so.reached }) behind known_there in
          led ws (record { advanced = a; machine = new }) written writes so.finds.adds
          (subst (λ r. To s ws r) (sym so.advances) (on.0, (joined s to.0 on.0 ws to.1.0 on.1.0, on.1.1)))

      by-phase : (p : Phase) → m.phase ≡ p → MindsSo program code machine ways minds n p debugs
          → AdvancesIn blocks block debugs p a m written new writes → Lead a written new writes
      by-phase (Turning z) e same so = by-turning z e so
      by-phase (Tells z active t) e same so = tells-on z active t e same so

pub advances_as_run : {S : Type 0} (program : Program) (code : CodeBlocks Value) (machine : Machine S Value)
    (embed : CodeState Value → S) (ways : Ways S) → IsOfCode code machine embed ways
    → (minds : Event Value → Bool) (n : ℕ) → AdvancesAsRun program code machine ways minds n
advances_as_run program code machine embed ways is_of minds n m s is blocks are debugs same a written new writes so =
    by-phase program code machine embed ways is_of minds n m s is (block_at blocks (block_of m.code.here))
    (are (block_of m.code.here)) blocks are debugs a written new writes m.phase refl same so

pub turns_advance : {S : Type 0} (program : Program) (code : CodeBlocks Value) (machine : Machine S Value)
    (embed : CodeState Value → S) (ways : Ways S) → IsOfCode code machine embed ways
    → (minds : Event Value → Bool) (n : ℕ) → TurnsAdvance program code machine ways minds n
turns_advance {S = S} program code machine embed ways is_of minds n m blocks are debugs same turn written new writes so s is =
    let to = advances_as_run program code machine embed ways is_of minds n m s is blocks are debugs same (advanced.Turned turn) written new writes so in
    (to.0, (to.1.0, done to.0 to.1.1))
  where
    done : (t : State S Names Value World) → BehindSo program code machine ways minds n new t (advanced.Turned turn)
        → advances.Behind program machine (heap_host program) ways (minded minds) n new t turn
    done t (laws.turned _ b) = b
