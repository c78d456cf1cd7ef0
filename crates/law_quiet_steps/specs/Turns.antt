-- What a turn comes to where nothing hooks in: its events write lines of the log alone, and its ask
-- is done, its reply leads on, its block begins or closes (Language Reference 4.1; PEP 626).
use Rattle.std.specs.Prelude.{◌≡◌, ℕ, nat_lt, List, [], ◌∷◌, map, Bool, true, false, Some, None, if◌then◌else◌}
use Rattle.sem_control.specs.control.Turn as T
use Rattle.sem_control.specs.control.Turn.{Mark, Ask, Answer, Note, Reply, got, End, gave, left_by}
use Rattle.sem_control.specs.control.Events.{at_note}
use Rattle.sem_run.specs.run.Machine.{Machine}
use Rattle.sem_run.specs.run.Events as Told
use Rattle.sem_run.specs.run.Events.{Happening}
use Rattle.sem_run.specs.run.Host.{Host}
use Rattle.sem_run.specs.run.State.{OpenAsk, Pending, starting, doing, telling, turning, closing, State, at, in_state}
use Rattle.sem_run.specs.run.Outcome.{Output, begins, Question}
use Rattle.sem_run.specs.run.Step.{happening, callee_of, events_before, events_behind, take_unit, reply_to, do_ask, only_raises}
use Rattle.law_telling.specs.Quiet.{told_to, all_told}
use Rattle.sem_steps.specs.Steps.{Steps}
use Rattle.law_quiet_steps.specs.Quiet.{NothingHooksIn}

-- an act, and an ask that isn't one
abbrev pub act_of : {S N V W : Type 0} → Host N V W → (a : Ask V) → (Reply V (Answer V a) → S) → W
    → OpenAsk S V
act_of host a k w = record { ask = a; next = k; is_act = true; callee = callee_of host a w }

abbrev pub unmarked_ask : {S V : Type 0} → (a : Ask V) → (Reply V (Answer V a) → S) → OpenAsk S V
unmarked_ask a k = record { ask = a; next = k; is_act = false; callee = None }

-- what is told of the end of a block
abbrev pub end_told : {V : Type 0} → End V → List (Happening V)
end_told (gave v) = Told.returns v ∷ []
end_told (left_by v) = Told.unwinds v ∷ []

-- the machine's turn is this one
module _ {S N V W : Type 0} (machine : Machine S V) where
  pub record IsTurn (s : State S N V W) (t : T.Turn S V) : Type 0 where
    pub phase : s.phase ≡ turning
    pub turn : machine.turn s.here.frame.block s.here.state ≡ t

module _ {S N V W : Type 0} (machine : Machine S V) (host : Host N V W) (minds : Question V → Bool)
    (n : ℕ) where
  abbrev Go : State S N V W → List (Output V) → State S N V W → Type 0
  Go = Steps machine host minds n

  -- the run once all of this was told, and that is to go on
  abbrev pub behind_all : List (Happening V) → Pending S V → State S N V W → State S N V W
  behind_all hs p s = at (telling [] p) (told_to machine host hs s)

  abbrev pub asks_now : OpenAsk S V → State S N V W → State S N V W
  asks_now q s = do_ask machine host q.ask q.next q.is_act q.callee s

  -- what is told before an act
  abbrev pub before_act : Mark → (a : Ask V) → (Reply V (Answer V a) → S) → State S N V W
      → List (Happening V)
  before_act m a k s = events_before machine host m a k (callee_of host a s.world) s

  -- what is told of a reply
  abbrev pub reply_told : (q : OpenAsk S V) → Reply V (Answer V q.ask) → List (Happening V)
      → State S N V W → List (Happening V)
  reply_told q r es s =
      if q.is_act then events_behind machine host q r es s
      else only_raises (events_behind machine host q r es s)

  -- what is told of a note
  abbrev pub note_told : Note V → List (Happening V)
  note_told a = map (happening 0 host.null None) (at_note a)

  -- an act takes its unit, its line and what comes before it are told, and it is done
  abbrev pub ActsAreDone : Type 0
  ActsAreDone = (m : Mark) (a : Ask V) (k : Reply V (Answer V a) → S) (s : State S N V W)
      → NothingHooksIn minds s → IsTurn machine s (T.act (Some m) a k) → nat_lt s.units n ≡ true
      → Go s
      (begins s.here.frame.block m
      ∷ all_told machine host (before_act m a k s) (take_unit machine host m s))
      (asks_now (act_of host a k s.world)
      (behind_all (before_act m a k s) (doing (act_of host a k s.world))
      (take_unit machine host m s)))

  -- an ask without a mark takes none
  abbrev pub AsksAreDone : Type 0
  AsksAreDone = (a : Ask V) (k : Reply V (Answer V a) → S) (s : State S N V W)
      → IsTurn machine s (T.act None a k)
      → Go s []
      (asks_now (unmarked_ask a k) (at (telling [] (doing (unmarked_ask a k))) s))

  -- a reply is told and leads on
  abbrev pub RepliesLeadOn : Type 0
  RepliesLeadOn = (q : OpenAsk S V) (r : Reply V (Answer V q.ask)) (es : List (Happening V))
      (s : State S N V W) → NothingHooksIn minds s
      → Go (reply_to machine host q r es s) (all_told machine host (reply_told q r es s) s)
      (at turning (in_state (q.next r) (told_to machine host (reply_told q r es s) s)))

  -- so is a note
  abbrev pub NotesLeadOn : Type 0
  NotesLeadOn = (a : Note V) (k : Reply V (Unit {0}) → S) (s : State S N V W)
      → NothingHooksIn minds s → IsTurn machine s (T.note a k)
      → Go s (all_told machine host (note_told a) s)
      (at turning (in_state (k (got tt)) (told_to machine host (note_told a) s)))

  -- a block begins; a block is over
  abbrev pub BlocksBegin : Type 0
  BlocksBegin = (c : S) (s : State S N V W) → NothingHooksIn minds s
      → Go (at (telling (Told.starts ∷ []) (starting c)) s)
      (all_told machine host (Told.starts ∷ []) s) (at turning (in_state c s))

  abbrev pub BlocksEnd : Type 0
  BlocksEnd = (e : End V) (s : State S N V W) → NothingHooksIn minds s → IsTurn machine s (T.over e)
      → Go s (all_told machine host (end_told e) s) (at (closing e) s)
