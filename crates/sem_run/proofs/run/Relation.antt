-- States of two runs that stand for each other: all is the same but the machines' states, and those stand for each other.
use Rattle.std.proofs.Common.{◌≡◌, ℕ, zero, suc, List, [], ◌∷◌, ◌++◌, length, Bool, ◌||◌, Option, Some, None, refl, ap, ◌∙◌}
use Rattle.sem_control.specs.control.Bases.{or_else}
use Rattle.sem_control.specs.control.Turn.{Ask, Answer, Reply, End}
use Rattle.sem_run.specs.run.Machine.{BlockId, Machine}
use Rattle.sem_run.specs.run.Events.{Happening, Event}
use Rattle.sem_run.specs.run.Rows.{row_at, put_at}
use Rattle.sem_run.specs.run.Tools.{Tools}
use Rattle.sem_run.specs.run.Host.{Store, BlockResult, GeneratorResult, Frame, Answering, Finding, Callee, Hook}
use Rattle.sem_run.specs.run.State.{Activation, OpenAsk, OpenYield, Pending, starting, doing, going, giving_on, going_on, ending, Telling, Hearing, Rest, of_ask, of_hook, Purpose, for_block, for_generator, Opener, Generator, fresh, suspended, running, finished, Phase, turning, telling, asking, answering, hearing, closing, State, hook_runs, is_hook_open}
use Rattle.sem_run.specs.run.Views.{frames_of, active_in, frames_in}
use Rattle.sem_run.specs.run.Outcome.{Output, Question, Ending, Step, goes, consults, ends}
use Rattle.sem_run.specs.run.Follows.{Nears, BehindReply, AtLine}
use Rattle.sem_run.proofs.run.Lines.{Lines}

module _ {S R V : Type 0} (first : Machine S V) (second : Machine R V) (At : BlockId → S → R → Type 0) (b : BlockId) where
  pub data SameAsk : OpenAsk S V → OpenAsk R V → Type 0 where
    same_ask : (a : Ask V) (k : Reply V (Answer V a) → S) (k' : Reply V (Answer V a) → R) (i : Bool) (c : Option (Callee V)) →
        ((r : Reply V (Answer V a)) → BehindReply first second At b (k r) (k' r)) →
        SameAsk (record { ask = a; next = k; is_act = i; callee = c }) (record { ask = a; next = k'; is_act = i; callee = c })

  pub data SameYield : OpenYield S V → OpenYield R V → Type 0 where
    same_yield : (a : Ask V) (k : Reply V (Answer V a) → S) (k' : Reply V (Answer V a) → R) (i : Bool) (c : Option (Callee V))
        (g : Reply V V → Reply V (Answer V a)) → ((r : Reply V (Answer V a)) → BehindReply first second At b (k r) (k' r)) →
        SameYield (record { ask = record { ask = a; next = k; is_act = i; callee = c }; reply = g }) (record { ask = record { ask = a; next = k'; is_act = i; callee = c }; reply = g })

  pub data SamePending : Pending S V → Pending R V → Type 0 where
    same_starting : (c : S) (t : R) → Nears first second At b c t → SamePending (starting c) (starting t)
    same_doing : (q : OpenAsk S V) (q' : OpenAsk R V) → SameAsk q q' → SamePending (doing q) (doing q')
    same_going : (to : S) (to' : R) (f : V → S) (f' : V → R) → Nears first second At b to to' → ((v : V) → Nears first second At b (f v) (f' v)) →
        SamePending (going to f) (going to' f')
    same_giving_on : (y : OpenYield S V) (y' : OpenYield R V) (v : V) → SameYield y y' → SamePending (giving_on y v) (giving_on y' v)
    same_going_on : (y : OpenYield S V) (y' : OpenYield R V) (r : Reply V V) → SameYield y y' → SamePending (going_on y r) (going_on y' r)
    same_ending : (e : End V) → SamePending (ending e) (ending e)

module _ {S R V : Type 0} (first : Machine S V) (second : Machine R V) (At : BlockId → S → R → Type 0) (b : BlockId) (Line : Type 0) where
  pub data SameTelling : Telling S V → Telling R V → Type 0 where
    same_telling : (e : Event V) (hs : List Hook) (bs : List (Happening V)) (p : Pending S V) (p' : Pending R V) → SamePending first second At b p p' →
        Lines Line (e.what ∷ bs) → SameTelling (record { event = e; hooks = hs; behind = bs; pending = p }) (record { event = e; hooks = hs; behind = bs; pending = p' })

  pub data SameHearing : Hearing S V → Hearing R V → Type 0 where
    same_hearing : (h : Hook) (t : Telling S V) (t' : Telling R V) → SameTelling t t' → SameHearing (record { hook = h; telling = t }) (record { hook = h; telling = t' })

module _ {S R N V W : Type 0} (first : Machine S V) (second : Machine R V) (At : BlockId → S → R → Type 0) (b : BlockId) (Line : Type 0) where
  pub data SameRest {G : Type 0} : Rest S N V W G → Rest R N V W G → Type 0 where
    same_of_ask : (a : Ask V) (k : Reply V (Answer V a) → S) (k' : Reply V (Answer V a) → R) (i : Bool) (c : Option (Callee V))
        (f : G → Store N W → Answering N V W (Finding V a)) → ((r : Reply V (Answer V a)) → BehindReply first second At b (k r) (k' r)) →
        SameRest (of_ask (record { ask = a; next = k; is_act = i; callee = c }) f) (of_ask (record { ask = a; next = k'; is_act = i; callee = c }) f)
    same_of_hook : (h : Hearing S V) (h' : Hearing R V) (f : G → Store N W → Answering N V W V) → SameHearing first second At b Line h h' → SameRest (of_hook h f) (of_hook h' f)

  pub data SamePurpose : Purpose S N V W → Purpose R N V W → Type 0 where
    same_for_block : (r : Rest S N V W (BlockResult N V)) (r' : Rest R N V W (BlockResult N V)) → SameRest r r' → SamePurpose (for_block r) (for_block r')
    same_for_generator : (g : ℕ) (r : Rest S N V W (GeneratorResult V)) (r' : Rest R N V W (GeneratorResult V)) → SameRest r r' → SamePurpose (for_generator g r) (for_generator g r')

  -- a phase but that in which a turn begins
  pub data SamePhase : Phase S N V W → Phase R N V W → Type 0 where
    same_tells : (hs : List (Happening V)) (p : Pending S V) (p' : Pending R V) → SamePending first second At b p p' → Lines Line hs → SamePhase (telling hs p) (telling hs p')
    same_asking : (t : Telling S V) (t' : Telling R V) → SameTelling first second At b Line t t' → SamePhase (asking t) (asking t')
    same_answering : (a : Ask V) (k : Reply V (Answer V a) → S) (k' : Reply V (Answer V a) → R) (i : Bool) (c : Option (Callee V))
        (x : Answering N V W (Finding V a)) → ((r : Reply V (Answer V a)) → BehindReply first second At b (k r) (k' r)) →
        SamePhase (answering (record { ask = a; next = k; is_act = i; callee = c }) x) (answering (record { ask = a; next = k'; is_act = i; callee = c }) x)
    same_hears : (h : Hearing S V) (h' : Hearing R V) (x : Answering N V W V) → SameHearing first second At b Line h h' → SamePhase (hearing h x) (hearing h' x)
    same_closing : (e : End V) → SamePhase (closing e) (closing e)

abbrev pub act_of : {X N V : Type 0} → Frame N V → X → ℕ → Bool → Activation X N V
act_of f c n j = record { frame = f; state = c; act = n; behind_jump = j }

module _ {S R N V W : Type 0} (first : Machine S V) (second : Machine R V) (At Stands Lands : BlockId → S → R → Type 0) where
  pub data SameOpeners : List (Opener S N V W) → List (Opener R N V W) → Type 0 where
    no_openers : SameOpeners [] []
    more_openers : (f : Frame N V) (c : S) (t : R) (n : ℕ) (j : Bool) (u : Purpose S N V W) (u' : Purpose R N V W) (os : List (Opener S N V W)) (os' : List (Opener R N V W)) →
        Stands f.block c t → SamePurpose first second At f.block (AtLine first second At Lands f.block c t) u u' → SameOpeners os os' →
        SameOpeners (record { activation = act_of f c n j; purpose = u } ∷ os) (record { activation = act_of f t n j; purpose = u' } ∷ os')

module _ {S R N V : Type 0} (first : Machine S V) (second : Machine R V) (At Stands : BlockId → S → R → Type 0) where
  pub data SameGenerator : Generator S N V → Generator R N V → Type 0 where
    same_fresh : (f : Frame N V) (c : S) (t : R) (n : ℕ) (j : Bool) → Stands f.block c t → Nears first second At f.block c t → SameGenerator (fresh (act_of f c n j)) (fresh (act_of f t n j))
    same_suspended : (f : Frame N V) (c : S) (t : R) (n : ℕ) (j : Bool) (y : OpenYield S V) (y' : OpenYield R V) → Stands f.block c t → SameYield first second At f.block y y' →
        SameGenerator (suspended (act_of f c n j) y) (suspended (act_of f t n j) y')
    same_running : SameGenerator running running
    same_finished : SameGenerator finished finished

  pub data SameGenerators : List (Generator S N V) → List (Generator R N V) → Type 0 where
    no_generators : SameGenerators [] []
    more_generators : (x : Generator S N V) (y : Generator R N V) (gs : List (Generator S N V)) (hs : List (Generator R N V)) →
        SameGenerator x y → SameGenerators gs hs → SameGenerators (x ∷ gs) (y ∷ hs)

  pub data SameRow : Option (Generator S N V) → Option (Generator R N V) → Type 0 where
    no_row : SameRow None None
    a_row : (x : Generator S N V) (y : Generator R N V) → SameGenerator x y → SameRow (Some x) (Some y)

  pub same_row : (k : ℕ) (gs : List (Generator S N V)) (hs : List (Generator R N V)) → SameGenerators gs hs → SameRow (row_at k gs) (row_at k hs)
  same_row k _ _ no_generators = no_row
  same_row zero _ _ (more_generators x y gs hs h r) = a_row x y h
  same_row (suc k) _ _ (more_generators x y gs hs h r) = same_row k gs hs r

  pub same_put : (k : ℕ) (x : Generator S N V) (y : Generator R N V) (gs : List (Generator S N V)) (hs : List (Generator R N V)) → SameGenerator x y → SameGenerators gs hs →
      SameGenerators (put_at k x gs) (put_at k y hs)
  same_put k x y _ _ i no_generators = no_generators
  same_put zero x y _ _ i (more_generators x' y' gs hs h r) = more_generators x y gs hs i r
  same_put (suc k) x y _ _ i (more_generators x' y' gs hs h r) = more_generators x' y' _ _ h (same_put k x y gs hs i r)

  pub same_append : (x : Generator S N V) (y : Generator R N V) (gs : List (Generator S N V)) (hs : List (Generator R N V)) → SameGenerator x y → SameGenerators gs hs →
      SameGenerators (gs ++ x ∷ []) (hs ++ y ∷ [])
  same_append x y _ _ i no_generators = more_generators x y [] [] i no_generators
  same_append x y _ _ i (more_generators x' y' gs hs h r) = more_generators x' y' _ _ h (same_append x y gs hs i r)

  pub same_count : (gs : List (Generator S N V)) (hs : List (Generator R N V)) → SameGenerators gs hs → length gs ≡ length hs
  same_count _ _ no_generators = refl
  same_count _ _ (more_generators x y gs hs h r) = ap suc (same_count gs hs r)

  pub same_frames_in : (gs : List (Generator S N V)) (hs : List (Generator R N V)) → SameGenerators gs hs → frames_in gs ≡ frames_in hs
  same_frames_in _ _ no_generators = refl
  same_frames_in _ _ (more_generators _ _ gs hs (same_fresh f c t n j s m) r) = ap (◌∷◌ f) (same_frames_in gs hs r)
  same_frames_in _ _ (more_generators _ _ gs hs (same_suspended f c t n j y y' s i) r) = ap (◌∷◌ f) (same_frames_in gs hs r)
  same_frames_in _ _ (more_generators _ _ gs hs same_running r) = same_frames_in gs hs r
  same_frames_in _ _ (more_generators _ _ gs hs same_finished r) = same_frames_in gs hs r

module _ {S R N V W : Type 0} (first : Machine S V) (second : Machine R V) (At Stands Lands : BlockId → S → R → Type 0) where
  pub same_depth : (os : List (Opener S N V W)) (ps : List (Opener R N V W)) → SameOpeners first second At Stands Lands os ps → length os ≡ length ps
  same_depth _ _ no_openers = refl
  same_depth _ _ (more_openers f c t n j u u' os os' s h r) = ap suc (same_depth os os' r)

  pub same_frames : (os : List (Opener S N V W)) (ps : List (Opener R N V W)) → SameOpeners first second At Stands Lands os ps → frames_of os ≡ frames_of ps
  same_frames _ _ no_openers = refl
  same_frames _ _ (more_openers f c t n j u u' os os' s h r) = ap (◌∷◌ f) (same_frames os os' r)

  same_open : (b : BlockId) (Line : Type 0) (u : Purpose S N V W) (u' : Purpose R N V W) → SamePurpose first second At b Line u u' → is_hook_open u ≡ is_hook_open u'
  same_open b l _ _ (same_for_block _ _ (same_of_ask a k k' i c f h)) = refl
  same_open b l _ _ (same_for_block _ _ (same_of_hook q q' f h)) = refl
  same_open b l _ _ (same_for_generator g _ _ (same_of_ask a k k' i c f h)) = refl
  same_open b l _ _ (same_for_generator g _ _ (same_of_hook q q' f h)) = refl

  pub same_hook_runs : (os : List (Opener S N V W)) (ps : List (Opener R N V W)) → SameOpeners first second At Stands Lands os ps → hook_runs os ≡ hook_runs ps
  same_hook_runs _ _ no_openers = refl
  same_hook_runs _ _ (more_openers f c t n j u u' os os' s h r) =
      ap (λ a. a || hook_runs os) (same_open f.block _ u u' h) ∙ ap (λ a. is_hook_open u' || a) (same_hook_runs os os' r)

  pub same_active_in : ((b : BlockId) (c : S) (t : R) → Stands b c t → first.active c ≡ second.active t) → (os : List (Opener S N V W)) (ps : List (Opener R N V W)) →
      SameOpeners first second At Stands Lands os ps → active_in first os ≡ active_in second ps
  same_active_in e _ _ no_openers = refl
  same_active_in e _ _ (more_openers f c t n j u u' os os' s h r) =
      ap (λ a. or_else a (active_in first os)) (e f.block c t s) ∙ ap (or_else (second.active t)) (same_active_in e os os' r)

module _ {S R V : Type 0} (N W : Type 0) (first : Machine S V) (second : Machine R V) (At Stands Lands : BlockId → S → R → Type 0) where
  -- what the two states have in common, and their machines' states with all that waits
  pub record Pair : Type 0 where
    pub frame : Frame N V
    pub one : S
    pub other : R
    pub act : ℕ
    pub behind_jump : Bool
    pub openers : List (Opener S N V W)
    pub other_openers : List (Opener R N V W)
    pub same_openers : SameOpeners first second At Stands Lands openers other_openers
    pub generators : List (Generator S N V)
    pub other_generators : List (Generator R N V)
    pub same_generators : SameGenerators {N = N} first second At Stands generators other_generators
    pub past : List (Frame N V)
    pub world : W
    pub trace : Option V
    pub tools : Tools V
    pub units : ℕ
    pub frames : ℕ

module _ {S R N V W : Type 0} (first : Machine S V) (second : Machine R V) (At Stands Lands : BlockId → S → R → Type 0) where
  abbrev pub left : Pair N W first second At Stands Lands → Phase S N V W → State S N V W
  left p x = record {
    here = act_of p.frame p.one p.act p.behind_jump;
    phase = x;
    openers = p.openers;
    generators = p.generators;
    past = p.past;
    world = p.world;
    trace = p.trace;
    tools = p.tools;
    units = p.units;
    frames = p.frames;
  }

  abbrev pub right : Pair N W first second At Stands Lands → Phase R N V W → State R N V W
  right p x = record {
    here = act_of p.frame p.other p.act p.behind_jump;
    phase = x;
    openers = p.other_openers;
    generators = p.other_generators;
    past = p.past;
    world = p.world;
    trace = p.trace;
    tools = p.tools;
    units = p.units;
    frames = p.frames;
  }

  pub data SameState : State S N V W → State R N V W → Type 0 where
    at_turn : (p : Pair N W first second At Stands Lands) → Nears first second At p.frame.block p.one p.other → SameState (left p turning) (right p turning)
    in_phase : (p : Pair N W first second At Stands Lands) → Stands p.frame.block p.one p.other → (x : Phase S N V W) (y : Phase R N V W) →
        SamePhase first second At p.frame.block (AtLine first second At Lands p.frame.block p.one p.other) x y →
        SameState (left p x) (right p y)

  pub data SameStep : Step S N V W → Step R N V W → Type 0 where
    same_goes : (os : List (Output V)) (s : State S N V W) (t : State R N V W) → SameState s t → SameStep (goes os s) (goes os t)
    same_consults : (q : Question V) (p : Pair N W first second At Stands Lands) → Stands p.frame.block p.one p.other → (x : Phase S N V W) (y : Phase R N V W) (u : Telling S V) (u' : Telling R V) →
        SameTelling first second At p.frame.block (AtLine first second At Lands p.frame.block p.one p.other) u u' → SameStep (consults q u (left p x)) (consults q u' (right p y))
    same_ends : (e : Ending N V W) → SameStep (ends e) (ends e)
