-- What a turn comes to where nothing hooks in.
use Rattle.std.proofs.Common.{◌≡◌, ℕ, Bool, true, if◌then◌else◌, List, [], ◌∷◌, Some, None, refl, ap, ◌∙◌}
use Rattle.std.specs.Prelude.{nat_lt}
use Rattle.sem_control.specs.control.Turn as T
use Rattle.sem_control.specs.control.Turn.{Mark, Ask, Answer, Reply, got, raised, End, gave, left_by}
use Rattle.sem_run.specs.run.Machine.{Machine}
use Rattle.sem_run.specs.run.Events as Told
use Rattle.sem_run.specs.run.Events.{Happening}
use Rattle.sem_run.specs.run.Host.{Host}
use Rattle.sem_run.specs.run.State.{Pending, starting, doing, going, ending, telling, State, at}
use Rattle.sem_run.specs.run.Outcome as O
use Rattle.sem_run.specs.run.Outcome.{Output, begins, Question}
use Rattle.sem_run.specs.run.Step.{step, by_phase, begin_turn, callee_of, act_with, take_unit, proceed}
use Rattle.law_telling.specs.Quiet.{told_to, all_told}
use Rattle.sem_steps.specs.Steps.{Steps, stays, behind_step}
use Rattle.law_quiet_steps.specs.Quiet.{NothingHooksIn}
use Rattle.law_quiet_steps.specs.Turns.{act_of, end_told, before_act, reply_told, note_told, IsTurn, ActsAreDone, AsksAreDone, RepliesLeadOn, NotesLeadOn, BlocksBegin, BlocksEnd}
use Rattle.law_quiet_steps.proofs.Quietly.{tells_quietly}

module _ {S N V W : Type 0} (machine : Machine S V) (host : Host N V W) (minds : Question V → Bool)
    (n : ℕ) where
  abbrev Go : State S N V W → List (Output V) → State S N V W → Type 0
  Go = Steps machine host minds n

  tells : (s : State S N V W) → NothingHooksIn minds s → (hs : List (Happening V)) (p : Pending S V)
      → Go (at (telling hs p) s) (all_told machine host hs s)
      (proceed machine host p (at (telling [] p) (told_to machine host hs s)))
  tells = tells_quietly machine host minds n

  still_quiet : (m : Mark) (s : State S N V W) → NothingHooksIn minds s
      → NothingHooksIn minds (take_unit machine host m s)
  still_quiet m s q = record {
    no_trace = q.no_trace;
    no_tool = q.no_tool;
    no_debugger = q.no_debugger;
  }

  by_turn : (s : State S N V W) (t : T.Turn S V) → IsTurn machine s t
      → step machine host n s ≡ begin_turn machine host n t s
  by_turn s t is =
      ap (λ p. by_phase machine host n p s) is.phase
      ∙ ap (λ u. begin_turn machine host n u s) is.turn

  with_unit : (m : Mark) (a : Ask V) (k : Reply V (Answer V a) → S) (s : State S N V W)
      → nat_lt s.units n ≡ true
      → begin_turn machine host n (T.act (Some m) a k) s
      ≡ O.goes (begins s.here.frame.block m ∷ []) (act_with machine host m a k (callee_of host a s.world) s)
  with_unit m a k s e =
      ap (λ b. if b then O.goes (begins s.here.frame.block m ∷ []) (act_with machine host m a k (callee_of host a s.world) s) else O.ends O.spent) e

  pub acts_are_done : ActsAreDone machine host minds n
  acts_are_done m a k s q e u =
      behind_step _ _ _ (begins s.here.frame.block m ∷ [])
      (all_told machine host (before_act machine host minds n m a k s) (take_unit machine host m s))
      (by_turn s (T.act (Some m) a k) e ∙ with_unit m a k s u)
      (tells (take_unit machine host m s) (still_quiet m s q) (before_act machine host minds n m a k s)
      (doing (act_of host a k s.world)))

  pub asks_are_done : AsksAreDone machine host minds n
  asks_are_done a k s e =
      behind_step _ _ _ [] [] (by_turn s (T.act None a k) e)
      (behind_step _ _ _ [] [] refl (stays _))

  pub replies_lead_on : RepliesLeadOn machine host minds n
  replies_lead_on q r es s quiet =
      tells s quiet (reply_told machine host minds n q r es s)
      (going (q.next r) (λ v. q.next (raised v)))

  pub notes_lead_on : NotesLeadOn machine host minds n
  notes_lead_on a k s quiet e =
      behind_step _ _ _ [] (all_told machine host (note_told machine host minds n a) s)
      (by_turn s (T.note a k) e)
      (tells s quiet (note_told machine host minds n a) (going (k (got tt)) (λ v. k (raised v))))

  pub blocks_begin : BlocksBegin machine host minds n
  blocks_begin c s quiet = tells s quiet (Told.starts ∷ []) (starting c)

  ends_told : (e : End V) (s : State S N V W)
      → begin_turn machine host n (T.over e) s
      ≡ O.goes [] (at (telling (end_told e) (ending e)) s)
  ends_told (gave v) s = refl
  ends_told (left_by v) s = refl

  ends : (e : End V) (s : State S N V W) → NothingHooksIn minds s
      → Go (at (telling (end_told e) (ending e)) s) (all_told machine host (end_told e) s)
      (proceed machine host (ending e) (at (telling [] (ending e)) s))
  ends (gave v) s quiet = tells s quiet (Told.returns v ∷ []) (ending (gave v))
  ends (left_by v) s quiet = tells s quiet (Told.unwinds v ∷ []) (ending (left_by v))

  pub blocks_end : BlocksEnd machine host minds n
  blocks_end e s quiet is =
      behind_step _ _ _ [] (all_told machine host (end_told e) s)
      (by_turn s (T.over e) is ∙ ends_told e s) (ends e s quiet)
