-- Where one machine follows another, it does so beside a third one, which runs the blocks of the prelude for both.
use Rattle.std.proofs.Common.{◌≡◌, ℕ, Bool, true, false, Some, None, refl, ap, if◌then◌else◌}
use Rattle.sem_control.specs.control.Turn as T
use Rattle.sem_control.specs.control.Turn.{Turn}
use Rattle.sem_run.specs.run.Machine.{BlockId, Machine, Jump, refuses, lands, is_act, turn_in, jump_in, Side, of_prelude, of_script, side_turn, side_jump, side_active, both_sides}
use Rattle.sem_run.specs.run.Host.{Host}
use Rattle.sem_run.specs.run.Run.{Debugger}
use Rattle.sem_run.specs.run.Laws.{HaveTheSameRuns}
use Rattle.sem_run.specs.run.Follows.{Nears, there, moves, SameTurn, same_act, same_note, same_move, same_end, SameJump, same_refusal, same_landing, AtLine, at_act, at_landing, Follows, NeverMoves}
use Rattle.sem_run.proofs.run.Runs.{have_the_same_runs}

module _ {P S R : Type 0} (Is : BlockId → S → R → Type 0) where
  data SideIs (b : BlockId) : Side P S → Side P R → Type 0 where
    side_prelude : (c : P) → SideIs b (of_prelude c) (of_prelude c)
    side_script : (c : S) (t : R) → Is b c t → SideIs b (of_script c) (of_script t)

module _ {P S R V : Type 0} (prelude : Machine P V) (first : Machine S V) (second : Machine R V) (At Stands Lands : BlockId → S → R → Type 0) (law : Follows first second At Stands Lands)
    (never : NeverMoves prelude) where
  abbrev one : Machine (Side P S) V
  one = both_sides prelude first

  abbrev two : Machine (Side P R) V
  two = both_sides prelude second

  abbrev SideAt : BlockId → Side P S → Side P R → Type 0
  SideAt b c t = SideIs At b c t

  abbrev SideStands : BlockId → Side P S → Side P R → Type 0
  SideStands b c t = SideIs Stands b c t

  abbrev SideLands : BlockId → Side P S → Side P R → Type 0
  SideLands b c t = SideIs Lands b c t

  abbrev Near : BlockId → Side P S → Side P R → Type 0
  Near b c t = Nears one two SideAt b c t

  near_prelude : (b : BlockId) (c : P) → Near b (of_prelude c) (of_prelude c)
  near_prelude b c = there _ (side_prelude c)

  near_script : (b : BlockId) (c : S) (t : R) → Nears first second At b c t → Near b (of_script c) (of_script t)
  near_script b c _ (there t h) = there _ (side_script c t h)
  near_script b c _ (moves t t' e k) = moves _ _ (ap (turn_in of_script) e) (near_script b c t' k)

  -- turns and jumps
  same_prelude : (b : BlockId) (t : Turn P V) → ((d : P) → t ≡ T.move d → ⊥) → (t ≡ T.stuck → ⊥) → SameTurn one two SideAt b (turn_in of_prelude t) (turn_in of_prelude t)
  same_prelude b (T.act m a k) f g = same_act m a _ _ (λ r. record { nears = near_prelude b (k r); same_next = refl })
  same_prelude b (T.note a k) f g = same_note a _ _ (λ r. near_prelude b (k r))
  same_prelude b (T.move c) f g = absurd (f c refl)
  same_prelude b (T.over e) f g = same_end e
  same_prelude b T.stuck f g = absurd (g refl)

  same_script : (b : BlockId) (t : Turn S V) (t' : Turn R V) → SameTurn first second At b t t' → SameTurn one two SideAt b (turn_in of_script t) (turn_in of_script t')
  same_script b _ _ (same_act m a k k' h) = same_act m a _ _ (λ r. record { nears = near_script b _ _ (h r).nears; same_next = (h r).same_next })
  same_script b _ _ (same_note a k k' h) = same_note a _ _ (λ r. near_script b _ _ (h r))
  same_script b _ _ (same_move c t n) = same_move _ _ (near_script b c t n)
  same_script b _ _ (same_end e) = same_end e

  turns : (b : BlockId) (c : Side P S) (t : Side P R) → SideAt b c t → SameTurn one two SideAt b (side_turn prelude first b c) (side_turn prelude second b t)
  turns b _ _ (side_prelude c) = same_prelude b (prelude.turn b c) (never.moves b c) (never.stuck b c)
  turns b _ _ (side_script c t h) = same_script b _ _ (law.turns b c t h)

  jump_prelude : (b : BlockId) (j : Jump P V) → SameJump one two SideAt SideLands b (jump_in of_prelude j) (jump_in of_prelude j)
  jump_prelude b (refuses r) = same_refusal r
  jump_prelude b (lands to c f) = same_landing _ _ _ _ _ _ (side_prelude to) (near_prelude b c) (λ v. near_prelude b (f v))

  jump_script : (b : BlockId) (j : Jump S V) (j' : Jump R V) → SameJump first second At Lands b j j' → SameJump one two SideAt SideLands b (jump_in of_script j) (jump_in of_script j')
  jump_script b _ _ (same_refusal r) = same_refusal r
  jump_script b _ _ (same_landing to c to' c' f f' s m n) =
      same_landing _ _ _ _ _ _ (side_script to to' s) (near_script b c c' m) (λ v. near_script b _ _ (n v))

  script_act : (f : S → Side P S) (t : Turn S V) → is_act (turn_in f t) ≡ true → is_act t ≡ true
  script_act f (T.act (Some m) a k) e = refl
  script_act f (T.act None a k) e = e
  script_act f (T.note a k) e = e
  script_act f (T.move c) e = e
  script_act f (T.over r) e = e
  script_act f T.stuck e = e

  act_jump : (b : BlockId) (c : Side P S) (t : Side P R) (l : ℕ) → SideAt b c t → is_act (side_turn prelude first b c) ≡ true
      → SameJump one two SideAt SideLands b (side_jump prelude first b c l) (side_jump prelude second b t l)
  act_jump b _ _ l (side_prelude c) e = jump_prelude b (prelude.jump b c l)
  act_jump b _ _ l (side_script c t h) e = jump_script b _ _ (law.jumps b c t l (at_act c t h (script_act of_script (first.turn b c) e)))

  landing_jump : (b : BlockId) (c : Side P S) (t : Side P R) (l : ℕ) → SideLands b c t
      → SameJump one two SideAt SideLands b (side_jump prelude first b c l) (side_jump prelude second b t l)
  landing_jump b _ _ l (side_prelude c) = jump_prelude b (prelude.jump b c l)
  landing_jump b _ _ l (side_script c t h) = jump_script b _ _ (law.jumps b c t l (at_landing c t h))

  jumps : (b : BlockId) (c : Side P S) (t : Side P R) (l : ℕ) → AtLine one two SideAt SideLands b c t
      → SameJump one two SideAt SideLands b (side_jump prelude first b c l) (side_jump prelude second b t l)
  jumps b _ _ l (at_act c t h e) = act_jump b c t l h e
  jumps b _ _ l (at_landing c t h) = landing_jump b c t l h

  stands : (b : BlockId) (c : Side P S) (t : Side P R) → SideAt b c t → SideStands b c t
  stands b _ _ (side_prelude c) = side_prelude c
  stands b _ _ (side_script c t h) = side_script c t (law.stands b c t h)

  landings : (b : BlockId) (c : Side P S) (t : Side P R) → SideLands b c t → SideStands b c t
  landings b _ _ (side_prelude c) = side_prelude c
  landings b _ _ (side_script c t h) = side_script c t (law.landings b c t h)

  start : (b : BlockId) (h : Bool) (p : P) (c : S) (t : R) → Stands b c t → SideStands b (if h then of_prelude p else of_script c) (if h then of_prelude p else of_script t)
  start b true p c t s = side_prelude p
  start b false p c t s = side_script c t s

  begin : (b : BlockId) (h : Bool) (p : P) (c : S) (t : R) → Nears first second At b c t → Near b (if h then of_prelude p else of_script c) (if h then of_prelude p else of_script t)
  begin b true p c t n = near_prelude b p
  begin b false p c t n = near_script b c t n

  active : (b : BlockId) (c : Side P S) (t : Side P R) → SideStands b c t → side_active prelude first c ≡ side_active prelude second t
  active b _ _ (side_prelude c) = refl
  active b _ _ (side_script c t h) = law.active b c t h

  follows : Follows one two SideAt SideStands SideLands
  follows = record {
    turns = turns;
    stands = stands;
    landings = landings;
    starts = λ b i. start b b.hidden (prelude.start b i) (first.start b i) (second.start b i) (law.starts b i);
    begins = λ b i. begin b b.hidden (prelude.start b i) (first.start b i) (second.start b i) (law.begins b i);
    active = active;
    jumps = jumps;
  }

module _ {D P S R N V W : Type 0} (prelude : Machine P V) (never : NeverMoves prelude) (first : Machine S V) (second : Machine R V) (At Stands Lands : BlockId → S → R → Type 0)
    (law : Follows first second At Stands Lands) (host : Host N V W) (ask : Debugger D N V W) where
  pub follow_beside : (n : ℕ) (b : BlockId) (names : N) (w : W) (d : D) → HaveTheSameRuns (both_sides prelude first) (both_sides prelude second) host ask n b names w d
  follow_beside n b names w d =
      have_the_same_runs (both_sides prelude first) (both_sides prelude second) (SideIs At) (SideIs Stands) (SideIs Lands) (follows prelude first second At Stands Lands law never) host ask n b names w d
