-- A machine is followed by the one that moves silently before each of its turns.
use Rattle.std.proofs.Common.{◌≡◌, ℕ, refl}
use Rattle.sem_control.specs.control.Turn as T
use Rattle.sem_control.specs.control.Turn.{Turn}
use Rattle.sem_run.specs.run.Machine.{BlockId, Machine, Jump, refuses, lands, turn_in, jump_in}
use Rattle.sem_run.specs.run.Host.{Host}
use Rattle.sem_run.specs.run.Run.{Debugger}
use Rattle.sem_run.specs.run.Laws.{HaveTheSameRuns}
use Rattle.sem_run.specs.run.Follows.{Nears, there, moves, SameTurn, same_act, same_note, same_end, SameJump, same_refusal, same_landing, AtLine, at_act, at_landing, Follows, Slow, before, at, state_of, turn_of, slowly, NeverMoves}
use Rattle.sem_run.proofs.run.Runs.{have_the_same_runs}

module _ {S : Type 0} where
  data IsAt (b : BlockId) (c : S) : Slow S → Type 0 where
    is_at : IsAt b c (at c)

  data IsNear (b : BlockId) (c : S) : Slow S → Type 0 where
    near_before : IsNear b c (before c)
    near_at : IsNear b c (at c)

module _ {S V : Type 0} (machine : Machine S V) (never : NeverMoves machine) where
  abbrev Near : BlockId → S → Slow S → Type 0
  Near b c t = Nears machine (slowly machine) IsAt b c t

  comes : (b : BlockId) (c : S) → Near b c (before c)
  comes b c = moves _ (at c) refl (there _ is_at)

  same : (b : BlockId) (t : Turn S V) → ((d : S) → t ≡ T.move d → ⊥) → (t ≡ T.stuck → ⊥) → SameTurn machine (slowly machine) IsAt b t (turn_in before t)
  same b (T.act m a k) f g = same_act m a k _ (λ r. record { nears = comes b (k r); same_next = refl })
  same b (T.note a k) f g = same_note a k _ (λ r. comes b (k r))
  same b (T.move c) f g = absurd (f c refl)
  same b (T.over e) f g = same_end e
  same b T.stuck f g = absurd (g refl)

  turns : (b : BlockId) (c : S) (t : Slow S) → IsAt b c t → SameTurn machine (slowly machine) IsAt b (machine.turn b c) (turn_of machine b t)
  turns b c _ is_at = same b (machine.turn b c) (never.moves b c) (never.stuck b c)

  stands : (b : BlockId) (c : S) (t : Slow S) → IsAt b c t → IsNear b c t
  stands b c _ is_at = near_at

  jump : (b : BlockId) (j : Jump S V) → SameJump machine (slowly machine) IsAt IsNear b j (jump_in before j)
  jump b (refuses r) = same_refusal r
  jump b (lands to c f) = same_landing to c (before to) (before c) f _ near_before (comes b c) (λ v. comes b (f v))

  near_jump : (b : BlockId) (c : S) (t : Slow S) (l : ℕ) → IsNear b c t → SameJump machine (slowly machine) IsAt IsNear b (machine.jump b c l) (jump_in before (machine.jump b (state_of t) l))
  near_jump b c _ l near_before = jump b (machine.jump b c l)
  near_jump b c _ l near_at = jump b (machine.jump b c l)

  jumps : (b : BlockId) (c : S) (t : Slow S) (l : ℕ) → AtLine machine (slowly machine) IsAt IsNear b c t
      → SameJump machine (slowly machine) IsAt IsNear b (machine.jump b c l) (jump_in before (machine.jump b (state_of t) l))
  jumps b _ _ l (at_act c t h e) = near_jump b c t l (stands b c t h)
  jumps b _ _ l (at_landing c t h) = near_jump b c t l h

  active : (b : BlockId) (c : S) (t : Slow S) → IsNear b c t → machine.active c ≡ machine.active (state_of t)
  active b c _ near_before = refl
  active b c _ near_at = refl

  follows : Follows machine (slowly machine) IsAt IsNear IsNear
  follows = record {
    turns = turns;
    stands = stands;
    landings = λ b c t h. h;
    starts = λ b i. near_before;
    begins = λ b i. comes b (machine.start b i);
    active = active;
    jumps = jumps;
  }

module _ {D S N V W : Type 0} (machine : Machine S V) (host : Host N V W) (ask : Debugger D N V W) where
  pub runs_slowly : NeverMoves machine → (n : ℕ) (b : BlockId) (names : N) (w : W) (d : D) → HaveTheSameRuns machine (slowly machine) host ask n b names w d
  runs_slowly never n b names w d = have_the_same_runs machine (slowly machine) IsAt IsNear IsNear (follows machine never) host ask n b names w d
