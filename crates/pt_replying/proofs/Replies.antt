-- A reply with a value goes on as in a run.
use Rattle.std.proofs.Common.{◌≡◌, ◌∙◌, ℕ, List, [], ◌∷◌, ◌++◌, map, Bool, true, false, Option, Some, None, refl, sym, ap, subst}
use Rattle.std.specs.Prelude.{if◌then◌else◌}
use Rattle.pt_heap.specs.declared.value.Value.{Value}
use Rattle.sem_control.specs.control.Turn.{got, raised, Answer}
use Rattle.sem_control.specs.control.Events as E
use Rattle.sem_code.specs.slots.Slots.{State as CodeState}
use Rattle.sem_code_machine.specs.code_machine.CodeBlocks.{CodeBlocks}
use Rattle.sem_run.specs.run.Machine.{Machine}
use Rattle.sem_run.specs.run.Events as Told
use Rattle.sem_run.specs.run.Events.{Event, Happening as Said}
use Rattle.sem_run.specs.run.Host.{Host}
use Rattle.sem_run.specs.run.State as run
use Rattle.sem_run.specs.run.State.{State, OpenAsk, at, in_state}
use Rattle.sem_run.specs.run.Step.{by_phase, reply_to, happening, destination, only_raises, events_behind, stop_event}
use Rattle.sem_steps.specs.Steps.{stays, behind_step}
use Rattle.pt_returning.specs.pt_host.World.{Names, World, Program}
use Rattle.pt_returning.specs.pt_host.HeapHost.{heap_host}
use Rattle.pt_happenings.specs.declared.happening.Happening.{Happening}
use Rattle.pt_happenings.specs.declared.happening.Happening.TheVariants.{ReturnsFrom}
use Rattle.pt_happenings.specs.Views.{happening_view}
use Rattle.pt_pendings.specs.declared.pending.Origin.{Origin}
use Rattle.pt_pendings.specs.declared.pending.Pending.TheVariants.{Going}
use Rattle.pt_pendings.specs.Stands as pend
use Rattle.pt_returning.specs.pt_turning.pt_telling.pt_transfers.pt_machine_state.declared.blocks.BlockCode.{BlockCode}
use Rattle.pt_returning.specs.pt_turning.pt_telling.pt_transfers.pt_machine_state.Blocks.{IsBlockOf}
use Rattle.pt_returning.specs.pt_purposes.declared.purpose.Called.{Called}
use Rattle.pt_returning.specs.pt_purposes.declared.standing.Standing.{Standing}
use Rattle.pt_returning.specs.pt_purposes.declared.standing.Standing.TheVariants as standing
use Rattle.pt_returning.specs.pt_purposes.Seen.{block_of}
use Rattle.pt_returning.specs.pt_purposes.Asks.{told_of_call}
use Rattle.pt_returning.specs.pt_purposes.Openers.{Ways, UnlessGone, settled}
use Rattle.pt_returning.specs.pt_turning.pt_telling.pt_run_state.declared.machine.Machine.{Machine as Held}
use Rattle.pt_returning.specs.pt_turning.pt_telling.pt_run_state.declared.machine.Waiting.{Waiting}
use Rattle.pt_returning.specs.pt_turning.pt_telling.pt_run_state.Stands.{Stands, StandsAround, IsToTell}
use Rattle.pt_returning.specs.pt_turning.pt_telling.Telling.{is_silent, told_in}
use Rattle.pt_returning.specs.pt_turning.pt_telling.Laws.{Comes}
use Rattle.pt_returning.specs.pt_turning.Ways.{IsOfCode, state_at}
use Rattle.pt_returning.specs.pt_turning.Turning.{gone_on}
use Rattle.pt_returning.specs.pt_turning.Laws.{waiting}
use Rattle.pt_returning.proofs.pt_turning.Turns.{around-at, turning-so}
use Rattle.pt_replying.specs.declared.replying.Decided.{Decided}
use Rattle.pt_replying.specs.declared.replying.Decided.TheVariants as decided
use Rattle.pt_replying.specs.declared.replying.Given.{Given}
use Rattle.pt_replying.specs.Replying.{call_told, stop_told, decided_told, decided_events, given_told, reply_told, beyond, told_on, replied}
use Rattle.pt_replying.specs.Laws.{IfBranches, IsTold, IsGiven, RepliesAsRun}
use Rattle.pt_replying.proofs.Goes.{tells_on_as_run}

-- nothing is there to be told, whether or not anything would be
nothing-told : (block : BlockCode) (w : Waiting) (m : Held) (b : Bool)
    → told_in block b w [] m ≡ record { event = false; machine = m }
nothing-told block w m true = refl
nothing-told block w m false = refl

-- what is told of a reply in a run
of_call_told : (A : Type 0) (x : A) (called : Option Called)
    → told_of_call called (got x) ≡ map happening_view (call_told called)
of_call_told A x None = refl
of_call_told A x (Some c) = by c.told.builtin
  where
    by : (b : Bool)
        → (if b then Told.returns_from c.function c.told.first ∷ [] else [])
        ≡ map happening_view (if b then ReturnsFrom c.function c.told.first ∷ [] else [])
    by true = refl
    by false = refl

module _ {S : Type 0} (program : Program) (code : CodeBlocks Value) (machine : Machine S Value)
    (embed : CodeState Value → S) (ways : Ways S) (is_of : IsOfCode code machine embed ways)
    (minds : Event Value → Bool) (n : ℕ) (m : Held) (q : OpenAsk S Value)
    (x : Answer Value q.ask) (g : Given) (acts : Bool) (z : Standing) (active : Option Value)
    (from : Origin) (s : State S Names Value World)
    (is : IsGiven program code machine embed ways minds n m q x g acts z active from s)
    (block : BlockCode) (known : IsBlockOf program code (block_of m.code.here) block) where
  abbrev Run : Type 0
  Run = State S Names Value World

  abbrev host : Host Names Value World
  host = heap_host program

  abbrev to_state : S
  to_state = q.next (got x)

  abbrev instead : Value → S
  instead v = q.next (raised v)

  abbrev s1 : Run
  s1 = reply_to machine host q (got x) (stop_event g.stops) s

  -- it goes on where the activation stands
  onward-is : to_state ≡ ways.position (settled z) m.code.here
  onward-is =
      is.leads
      ∙ ap (λ y. embed (state_at code y m.code.here)) (sym is.settles)
      ∙ sym (is_of.stands z m.code.here)

  abbrev by_control : List (E.Event Value) → List (Said Value)
  by_control es = map (happening (destination machine host to_state s) host.null None) es

  decided-so : (d : Decided)
      → IfBranches d (λ k. machine.destination s.here.frame.block to_state ≡ k.0)
      → by_control (decided_events d) ≡ map happening_view (decided_told d)
  decided-so decided.Nothing e = refl
  decided-so (decided.Branches d) e = ap (λ k. Told.branches k ∷ []) e
  decided-so (decided.Handles v) e = refl

  stopped-so : (o : Option Value) → stop_event o ≡ map happening_view (stop_told o)
  stopped-so (Some e) = refl
  stopped-so None = refl

  appended : (hs ks : List Happening)
      → map happening_view (hs ++ ks) ≡ map happening_view hs ++ map happening_view ks
  appended [] ks = refl
  appended (h ∷ hs) ks = ap (λ us. happening_view h ∷ us) (appended hs ks)

  grouped : (xs ys zs : List (Said Value)) → xs ++ ys ++ zs ≡ (xs ++ ys) ++ zs
  grouped [] ys zs = refl
  grouped (x ∷ xs) ys zs = ap (λ us. x ∷ us) (grouped xs ys zs)

  behind-is : events_behind machine host q (got x) (stop_event g.stops) s ≡ map happening_view (given_told g)
  behind-is =
      ap (λ hs. hs ++ stop_event g.stops ++ by_control (E.answered q.ask x)) (is.call ∙ of_call_told (Answer Value q.ask) x g.called)
      ∙ ap (λ hs. map happening_view (call_told g.called) ++ hs ++ by_control (E.answered q.ask x)) (stopped-so g.stops)
      ∙ ap (λ es. map happening_view (call_told g.called) ++ map happening_view (stop_told g.stops) ++ by_control es) is.control
      ∙ ap (λ hs. map happening_view (call_told g.called) ++ map happening_view (stop_told g.stops) ++ hs) (decided-so g.decided is.destination)
      ∙ grouped (map happening_view (call_told g.called)) (map happening_view (stop_told g.stops)) (map happening_view (decided_told g.decided))
      ∙ ap (λ hs. hs ++ map happening_view (decided_told g.decided)) (sym (appended (call_told g.called) (stop_told g.stops)))
      ∙ sym (appended (call_told g.called ++ stop_told g.stops) (decided_told g.decided))

  -- without a mark nothing is told of a value
  unraised : (c : Option Called) (o : Option Value) (d : Decided)
      → only_raises (map happening_view ((call_told c ++ stop_told o) ++ decided_told d)) ≡ []
  unraised None None decided.Nothing = refl
  unraised None None (decided.Branches d) = refl
  unraised None None (decided.Handles v) = refl
  unraised None (Some e) decided.Nothing = refl
  unraised None (Some e) (decided.Branches d) = refl
  unraised None (Some e) (decided.Handles v) = refl
  unraised (Some c) o d = by c.told.builtin o d
    where
      by : (b : Bool) (o : Option Value) (d : Decided)
          → only_raises (map happening_view (((if b then ReturnsFrom c.function c.told.first ∷ [] else []) ++ stop_told o) ++ decided_told d)) ≡ []
      by true None decided.Nothing = refl
      by true None (decided.Branches d) = refl
      by true None (decided.Handles v) = refl
      by true (Some e) decided.Nothing = refl
      by true (Some e) (decided.Branches d) = refl
      by true (Some e) (decided.Handles v) = refl
      by false None decided.Nothing = refl
      by false None (decided.Branches d) = refl
      by false None (decided.Handles v) = refl
      by false (Some e) decided.Nothing = refl
      by false (Some e) (decided.Branches d) = refl
      by false (Some e) (decided.Handles v) = refl

  by-act : (b : Bool)
      → (if b then map happening_view (given_told g) else only_raises (map happening_view (given_told g)))
      ≡ map happening_view (reply_told g b)
  by-act true = refl
  by-act false = unraised g.called g.stops g.decided

  abbrev telling_so : List (Said Value) → S → run.Phase S Names Value World
  telling_so hs c = run.telling hs (run.going c (λ v. instead v))

  phase-is : s1.phase ≡ telling_so (map happening_view (reply_told g acts)) (ways.position (settled z) m.code.here)
  phase-is =
      ap (λ b. telling_so (if b then events_behind machine host q (got x) (stop_event g.stops) s else only_raises (events_behind machine host q (got x) (stop_event g.stops) s)) to_state) is.is_act
      ∙ ap (λ hs. telling_so (if acts then hs else only_raises hs) to_state) behind-is
      ∙ ap (λ hs. telling_so hs to_state) (by-act acts)
      ∙ ap (λ c. telling_so (map happening_view (reply_told g acts)) c) onward-is

  around-is : StandsAround program machine ways m s1
  around-is = around-at program code machine embed ways is_of minds n m s s1.phase is.around

  gone : (y : Standing) → settled y ≡ y → (P : Type 0) → UnlessGone (Going from) y P
  gone standing.AtPlace e P = tt
  gone standing.Landed e P = absurd cc
  gone (standing.ThrownTo v) e P = tt
  gone (standing.Reraises v) e P = tt
  gone (standing.Returns v) e P = tt
  gone (standing.Raises v) e P = tt

  to-tell : IsTold (reply_told g acts)
      → IsToTell program machine ways m (waiting z active (Going from)) (reply_told g acts) s1
  to-tell something = record {
    around = around-is;
    active = is.active_is;
    pending = run.going (ways.position (settled z) m.code.here) (λ v. instead v);
    phase = phase-is;
    waits = pend.going from (λ v. instead v) (λ v. is.lands something v ∙ sym (is_of.lands m.code.here from v));
    stands = gone z is.settles (s1.here.state ≡ ways.position z m.code.here);
  }

  abbrev To : Held → Type 0
  To k = (t : Run) × (Comes program machine ways minds n s1 [] t × Stands program machine ways k t)

  abbrev t1 : Run
  t1 = at run.turning (in_state (ways.position (settled z) m.code.here) s1)

  -- where nothing is told it goes on at once
  silently : reply_told g acts ≡ [] → To (gone_on z m)
  silently e = (
    t1,
    (
      record {
        outputs = [];
        steps = behind_step s1 t1 t1 [] []
            (ap (λ p. by_phase machine host n p s1) (phase-is ∙ ap (λ hs. telling_so (map happening_view hs) (ways.position (settled z) m.code.here)) e))
            (stays t1);
        written = refl;
      },
      turning-so program code machine embed ways is_of minds n m (settled z) (ways.position (settled z) m.code.here) s1 around-is refl,
    ),
  )

  quiet-is : (hs : List Happening) → hs ≡ []
      → (told_on block (waiting z active (Going from)) hs m).machine ≡ gone_on z m
  quiet-is hs e =
      ap (λ ks. (told_on block (waiting z active (Going from)) ks m).machine) e
      ∙ ap (λ r. (beyond z r).machine) (nothing-told block (waiting z active (Going from)) m (is_silent m))

  by-told : (hs : List Happening) → reply_told g acts ≡ hs
      → To (replied block g acts z active from m).machine
  by-told [] e =
      subst (λ k. To k) (sym (quiet-is (reply_told g acts) e)) (silently e)
  by-told (h ∷ hs) e =
      tells_on_as_run program code machine embed ways is_of minds n m z active from (reply_told g acts) s1
      (to-tell (λ none. absurd (cons-nil (sym e ∙ none)))) block known
    where
      cons-nil : h ∷ hs ≡ [] → ⊥
      cons-nil e = absurd cc

pub replies_as_run : {S : Type 0} (program : Program) (code : CodeBlocks Value)
    (machine : Machine S Value) (embed : CodeState Value → S) (ways : Ways S)
    → IsOfCode code machine embed ways → (minds : Event Value → Bool) (n : ℕ)
    → RepliesAsRun program code machine embed ways minds n
replies_as_run program code machine embed ways is_of minds n m q x g acts z active from s is block known =
    by-told program code machine embed ways is_of minds n m q x g acts z active from s is block known (reply_told g acts) refl
