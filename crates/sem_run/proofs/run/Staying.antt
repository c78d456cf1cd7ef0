-- A machine that stays among states in each of which it has a turn follows itself, so its runs never halt unfinished.
use Rattle.std.proofs.Common.{◌≡◌, ℕ, true, Option, refl}
use Rattle.sem_control.specs.control.Turn as T
use Rattle.sem_control.specs.control.Turn.{Turn}
use Rattle.sem_run.specs.run.Machine.{BlockId, Machine, Jump, refuses, lands}
use Rattle.sem_run.specs.run.Host.{Host}
use Rattle.sem_run.specs.run.Run.{Debugger}
use Rattle.sem_run.specs.run.Laws.{NeverHalts, session}
use Rattle.sem_run.specs.run.Follows.{Nears, there, SameTurn, same_act, same_note, same_move, same_end, SameJump, same_refusal, same_landing, AtLine, at_act, at_landing, Follows, TurnStays, JumpStays, Stays}
use Rattle.sem_run.proofs.run.Fronts.{first_never_halts}

data Twice {S : Type 0} (P : BlockId → S → Type 0) (b : BlockId) : S → S → Type 0 where
  twice : (c : S) → P b c → Twice P b c c

data Alike {S : Type 0} (b : BlockId) : S → S → Type 0 where
  alike : (c : S) → Alike b c c

module _ {S V : Type 0} (machine : Machine S V) (Within Landed : BlockId → S → Type 0) (stays : Stays machine Within Landed) where
  abbrev At : BlockId → S → S → Type 0
  At b c t = Twice Within b c t

  abbrev Lands : BlockId → S → S → Type 0
  Lands b c t = Twice Landed b c t

  near : (b : BlockId) (c : S) → Within b c → Nears machine machine At b c c
  near b c w = there c (twice c w)

  same : (b : BlockId) (t : Turn S V) → TurnStays machine Within Landed b t → SameTurn machine machine At b t t
  same b (T.act m a k) h = same_act m a k k (λ r. record { nears = near b (k r) (h r); same_next = refl })
  same b (T.note a k) h = same_note a k k (λ r. near b (k r) (h r))
  same b (T.move c) h = same_move c c (near b c h)
  same b (T.over e) h = same_end e
  same b T.stuck h = absurd h

  turns : (b : BlockId) (c t : S) → At b c t → SameTurn machine machine At b (machine.turn b c) (machine.turn b t)
  turns b _ _ (twice c w) = same b (machine.turn b c) (stays.turns b c w)

  jump : (b : BlockId) (j : Jump S V) → JumpStays machine Within Landed b j → SameJump machine machine At Lands b j j
  jump b (refuses r) h = same_refusal r
  jump b (lands to on f) h = same_landing to on to on f f (twice to h.0) (near b on h.1) (λ v. near b (f v) (h.2 v))

  jumps : (b : BlockId) (c t : S) (l : ℕ) → AtLine machine machine At Lands b c t → SameJump machine machine At Lands b (machine.jump b c l) (machine.jump b t l)
  jumps b _ _ l (at_act _ _ (twice c w) e) = jump b (machine.jump b c l) (stays.jumps b c l w e)
  jumps b _ _ l (at_landing _ _ (twice c w)) = jump b (machine.jump b c l) (stays.jumps_again b c l w)

  at_stands : (b : BlockId) (c t : S) → At b c t → Alike b c t
  at_stands b _ _ (twice c w) = alike c

  lands_stands : (b : BlockId) (c t : S) → Lands b c t → Alike b c t
  lands_stands b _ _ (twice c w) = alike c

  active : (b : BlockId) (c t : S) → Alike b c t → machine.active c ≡ machine.active t
  active b _ _ (alike c) = refl

  follows_itself : Follows machine machine At Alike Lands
  follows_itself = record {
    turns = turns;
    stands = at_stands;
    landings = lands_stands;
    starts = λ b i. alike (machine.start b i);
    begins = λ b i. near b (machine.start b i) (stays.starts b i);
    active = active;
    jumps = jumps;
  }

module _ {D S N V W : Type 0} (machine : Machine S V) (Within Landed : BlockId → S → Type 0) (stays : Stays machine Within Landed) (host : Host N V W) (ask : Debugger D N V W) where
  pub stays_never_halts : (n : ℕ) (b : BlockId) (names : N) (w : W) (d : D) → NeverHalts machine host ask n (session machine b names w d)
  stays_never_halts n b names w d =
      first_never_halts machine machine host (Twice Within) Alike (Twice Landed) (follows_itself machine Within Landed stays) ask n b names w d
