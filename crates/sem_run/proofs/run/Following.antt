-- Steps of two runs whose machines follow each other: from states that stand for each other the same comes.
use Rattle.std.proofs.Common.{◌≡◌, ℕ, ◌+◌, suc, ℤ, List, [], ◌∷◌, ◌++◌, length, map, Bool, true, false, ◌||◌, ◌&&◌, Option, Some, None, refl, ap, ◌∙◌, subst, if◌then◌else◌}
use Rattle.std.specs.Prelude.{nat_le, nat_lt, ◌==◌}
use Rattle.pt_base.specs.declared.what.What.{What}
use Rattle.pt_base.specs.declared.what.What.TheVariants.{Exit}
use Rattle.sem_control.specs.control.Bases.{or_else}
use Rattle.sem_control.specs.control.Turn as T
use Rattle.sem_control.specs.control.Turn.{Ask, Answer, Reply, got, raised, End, gave, left_by, Turn, Mark}
use Rattle.sem_control.specs.control.Events as E
use Rattle.sem_run.specs.run.Machine.{BlockId, Machine, is_act, Reason, Jump, refuses, no_statement, not_newest, not_at_line}
use Rattle.sem_run.specs.run.Events as Told
use Rattle.sem_run.specs.run.Events.{Happening, Event, starts, resumes, throws, unwinds, is_line, is_for_debugger, trace_kind, bit, TraceKind}
use Rattle.sem_run.specs.run.Rows.{put_at}
use Rattle.sem_run.specs.run.Tools as Tool
use Rattle.sem_run.specs.run.Tools.{Tools, is_local, wants, Location}
use Rattle.sem_run.specs.run.Host as H
use Rattle.sem_run.specs.run.Host.{Host, Store, Here, Opening, BlockResult, GeneratorResult, gives_on, ends_by, cannot, throws_back, nothing_to_close, is_running, is_fresh, is_finished, How, by_next, by_send, by_throw, by_close, Frame, FrameView, Request, Response, Answering, Finding, Callee, Failure, Made, too_deep, generator_exit, Hook, log, debugger, landing, refusal, tool, tracer, Leaving, Entry}
use Rattle.sem_run.specs.run.State.{by_leaving, OpenYield, Pending, starting, doing, Telling, Hearing, Rest, Purpose, for_block, for_generator, Opener, Generator, fresh, running, finished, Phase, turning, telling, answering, hearing, State, is_full, is_silent, most_activations}
use Rattle.sem_run.specs.run.Views as View
use Rattle.sem_run.specs.run.Views.{active, here_of, frames_of, active_in, frames_in, open_frames, frame_numbered, visible_numbers, visible_line, Change, new_names, new_trace, new_lines, change_frame, change_one, change_opener, change_generator}
use Rattle.sem_run.specs.run.Outcome as O
use Rattle.sem_run.specs.run.Outcome.{Output, Question, Ending, Step, goes, consults, ends, is_stuck, Advice, go, jump_to, give_up}
use Rattle.sem_run.specs.run.Requests.{give, fail_opening, run_block, make_generator, wake, send_early, throw_exit, resume_by, JumpBelow, cannot_jump, changes, behind_one, by_jump, to_line, line_number, from_hook, by_hook, hook_of, hook_of_rest, land_rest, land_purpose, is_tracer, jump_below, write_line, perform}
use Rattle.sem_run.specs.run.Hooks.{world_with_entry, world_behind, instead_of, raise_of_hook, trace_unless, trace_behind, call_hook, ask_next, try_jump, take_advice, refuse_disable, disable, take_hook_answer}
use Rattle.sem_run.specs.run.Step.{happening, of_call, only_raises, stop_event, reply_and_tell, events_behind, reply_to, begin_yield, take_finding, take_answer, take_hearing, ask_host, do_ask, go_on_alone, frame_left, give_on, finish_by, finish_by_stop, pass_result, end_by_exception, end_of_module, close, arise_by, reply_to_yield, proceed, first_event, tell_first, tell, by_phase, step, begin_turn, act_with, line_event, leads_to, callee_of}
use Rattle.sem_run.specs.run.Follows.{Nears, there, moves, BehindReply, SameTurn, same_act, same_note, same_move, same_end, SameJump, same_refusal, same_landing, AtLine, at_act, at_landing, Follows}
use Rattle.sem_run.proofs.run.Lines.{Lines, of_and, alone, lines_append, line_before, of_control, of_stop, of_reply}
use Rattle.sem_run.proofs.run.Relation.{same_ask, SameYield, same_yield, SamePending, same_starting, same_doing, same_going, same_giving_on, same_going_on, same_ending, SameTelling, same_telling, SameHearing, same_hearing, SameRest, same_of_ask, same_of_hook, SamePurpose, same_for_block, same_for_generator, SamePhase, same_tells, same_asking, same_answering, same_hears, same_closing, act_of, SameOpeners, no_openers, more_openers, SameGenerator, same_fresh, same_suspended, same_running, same_finished, SameGenerators, no_generators, more_generators, SameRow, no_row, a_row, same_row, same_put, same_append, same_count, same_frames_in, same_depth, same_frames, same_hook_runs, same_active_in, Pair, left, right, SameState, at_turn, in_phase, SameStep, same_goes, same_consults, same_ends}

module _ {S R N V W : Type 0} (first : Machine S V) (second : Machine R V) (host : Host N V W) (At Stands Lands : BlockId → S → R → Type 0) (law : Follows first second At Stands Lands) where
  abbrev Both : Type 0
  Both = Pair N W first second At Stands Lands

  abbrev Stand : Both → Type 0
  Stand p = Stands p.frame.block p.one p.other

  abbrev Lined : BlockId → S → R → Type 0
  Lined b c t = AtLine first second At Lands b c t

  abbrev Line : Both → Type 0
  Line p = Lined p.frame.block p.one p.other

  abbrev one : Both → Phase S N V W → State S N V W
  one p x = left first second At Stands Lands p x

  abbrev two : Both → Phase R N V W → State R N V W
  two p x = right first second At Stands Lands p x

  abbrev Same : State S N V W → State R N V W → Type 0
  Same s t = SameState first second At Stands Lands s t

  abbrev Near : BlockId → S → R → Type 0
  Near b c t = Nears first second At b c t

  abbrev Behind : BlockId → S → R → Type 0
  Behind b c t = BehindReply first second At b c t

  if_state : (b : Bool) (s s' : State S N V W) (t t' : State R N V W) → Same s t → Same s' t' → Same (if b then s else s') (if b then t else t')
  if_state true s s' t t' h k = h
  if_state false s s' t t' h k = k

  if_states : (a b : Bool) → a ≡ b → (s s' : State S N V W) (t t' : State R N V W) → Same s t → Same s' t' → Same (if a then s else s') (if b then t else t')
  if_states a b e s s' t t' h k = subst (λ x. Same (if a then s else s') (if x then t else t')) e (if_state a s s' t t' h k)

  if_step : (b : Bool) (s s' : Step S N V W) (t t' : Step R N V W) → SameStep first second At Stands Lands s t → SameStep first second At Stands Lands s' t' →
      SameStep first second At Stands Lands (if b then s else s') (if b then t else t')
  if_step true s s' t t' h k = h
  if_step false s s' t t' h k = k

  same_active : (p : Both) → Stand p → (x : Phase S N V W) (y : Phase R N V W) → active first (one p x) ≡ active second (two p y)
  same_active p h x y =
      ap (λ a. or_else a (active_in first p.openers)) (law.active p.frame.block p.one p.other h)
      ∙ ap (or_else (second.active p.other)) (same_active_in first second At Stands Lands law.active p.openers p.other_openers p.same_openers)

  same_here : (p : Both) → Stand p → (x : Phase S N V W) (y : Phase R N V W) → here_of first (one p x) ≡ here_of second (two p y)
  same_here p h x y = ap (λ a. record { frame = p.frame.number; block = p.frame.block; active = a }) (same_active p h x y)

  same_full : (p : Both) (x : Phase S N V W) (y : Phase R N V W) → is_full (one p x) ≡ is_full (two p y)
  same_full p x y = ap (λ n. nat_le most_activations (suc n)) (same_depth first second At Stands Lands p.openers p.other_openers p.same_openers)

  same_silent : (p : Both) (x : Phase S N V W) (y : Phase R N V W) → is_silent (one p x) ≡ is_silent (two p y)
  same_silent p x y = ap (λ a. p.frame.block.hidden || a) (same_hook_runs first second At Stands Lands p.openers p.other_openers p.same_openers)

  -- requests
  same_give : (p : Both) → Stand p → (x : Phase S N V W) (y : Phase R N V W) → {G : Type 0} (r : Rest S N V W G) (r' : Rest R N V W G) →
      SameRest first second At p.frame.block (Line p) r r' → (g : G) → Same (give first host r g (one p x)) (give second host r' g (two p y))
  same_give p h x y _ _ (same_of_ask a k k' i c f n) g = in_phase p h _ _ (same_answering a k k' i c _ n)
  same_give p h x y _ _ (same_of_hook q q' f n) g = in_phase p h _ _ (same_hears q q' _ n)

  same_leaving_rest : (p : Both) → Stand p → (x : Phase S N V W) (y : Phase R N V W) → {G : Type 0} (r : Rest S N V W G) (r' : Rest R N V W G) →
      SameRest first second At p.frame.block (Line p) r r' → (what : What) → Same (one p (by_leaving r what)) (two p (by_leaving r' what))
  same_leaving_rest p h x y _ _ (same_of_ask a k k' i c f n) what = in_phase p h _ _ (same_answering a k k' i c _ n)
  same_leaving_rest p h x y _ _ (same_of_hook q q' f n) what = in_phase p h _ _ (same_hears q q' _ n)

  same_failing : (p : Both) → Stand p → (x : Phase S N V W) (y : Phase R N V W) → {G : Type 0} (r : Rest S N V W G) (r' : Rest R N V W G) →
      SameRest first second At p.frame.block (Line p) r r' → (f : V → G) (z : Made V W) → Same (fail_opening first host r f z (one p x)) (fail_opening second host r' f z (two p y))
  same_failing p h x y r r' k f (H.made v w) = same_give (record p { world = w }) h x y r r' k (f v)
  same_failing p h x y r r' k f (H.beyond what) = same_leaving_rest p h x y r r' k what

  same_fail : (p : Both) → Stand p → (x : Phase S N V W) (y : Phase R N V W) → {G : Type 0} (r : Rest S N V W G) (r' : Rest R N V W G) →
      SameRest first second At p.frame.block (Line p) r r' → (f : V → G) (z : Failure V) →
      Same (fail_opening first host r f (host.makes z (here_of first (one p x)) p.world) (one p x)) (fail_opening second host r' f (host.makes z (here_of second (two p y)) p.world) (two p y))
  same_fail p h x y r r' k f z =
      subst (λ e. Same (fail_opening first host r f (host.makes z (here_of first (one p x)) p.world) (one p x)) (fail_opening second host r' f (host.makes z e p.world) (two p y)))
      (same_here p h x y) (same_failing p h x y r r' k f _)

  -- the newest activation waits
  abbrev opener_here : (p : Both) (u : Purpose S N V W) → List (Opener S N V W)
  opener_here p u = record { activation = act_of p.frame p.one p.act p.behind_jump; purpose = u } ∷ p.openers

  abbrev other_opener_here : (p : Both) (u : Purpose R N V W) → List (Opener R N V W)
  other_opener_here p u = record { activation = act_of p.frame p.other p.act p.behind_jump; purpose = u } ∷ p.other_openers

  abbrev behind_opener : (p : Both) → Stand p → (u : Purpose S N V W) (u' : Purpose R N V W) → SamePurpose first second At p.frame.block (Line p) u u' →
      Frame N V → S → R → ℕ → Bool → Both
  behind_opener p h u u' i f c t n j = record p {
    frame = f;
    one = c;
    other = t;
    act = n;
    behind_jump = j;
    openers = opener_here p u;
    other_openers = other_opener_here p u';
    same_openers = more_openers p.frame p.one p.other p.act p.behind_jump u u' p.openers p.other_openers h i p.same_openers;
  }

  abbrev new_frame : Opening N V → (number : ℕ) → Bool → Frame N V
  new_frame o k g = record { number = k; block = o.block; names = o.names; line = None; trace = None; traces_lines = true; of_generator = g }

  same_run_block : (p : Both) → Stand p → (x : Phase S N V W) (y : Phase R N V W) (o : Opening N V) (r : Rest S N V W (BlockResult N V)) (r' : Rest R N V W (BlockResult N V)) →
      SameRest first second At p.frame.block (Line p) r r' → Same (run_block first host o r (one p x)) (run_block second host o r' (two p y))
  same_run_block p h x y o r r' k =
      if_states _ _ (same_full p x y) _ _ _ _ (same_fail p h x y r r' k (λ v. record { end = left_by v; names = o.names }) too_deep)
      (in_phase (behind_opener (record p { frames = p.frames + 1 }) h (for_block r) (for_block r') (same_for_block r r' k) (new_frame o p.frames false) (first.start o.block o.iterator) (second.start o.block o.iterator) 0 false)
      (law.starts o.block o.iterator) _ _ (same_tells (starts ∷ []) _ _ (same_starting _ _ (law.begins o.block o.iterator)) (alone {V = V} _ starts refl)))

  same_make : (p : Both) → Stand p → (x : Phase S N V W) (y : Phase R N V W) (o : Opening N V) (r : Rest S N V W ℕ) (r' : Rest R N V W ℕ) →
      SameRest first second At p.frame.block (Line p) r r' → Same (make_generator first host o r (one p x)) (make_generator second host o r' (two p y))
  same_make p h x y o r r' k =
      let q = record p {
        generators = p.generators ++ fresh (act_of (new_frame o p.frames true) (first.start o.block o.iterator) 0 false) ∷ [];
        other_generators = p.other_generators ++ fresh (act_of (new_frame o p.frames true) (second.start o.block o.iterator) 0 false) ∷ [];
        same_generators = same_append first second At Stands _ _ p.generators p.other_generators (same_fresh (new_frame o p.frames true) _ _ 0 false (law.starts o.block o.iterator) (law.begins o.block o.iterator)) p.same_generators;
        frames = p.frames + 1;
      } in
      subst (λ n. Same (give first host r (length p.generators) (one q x)) (give second host r' n (two q y)))
      (same_count first second At Stands p.generators p.other_generators p.same_generators) (same_give q h x y r r' k (length p.generators))

  abbrev with_rows : (p : Both) (g : ℕ) (x : Generator S N V) (y : Generator R N V) → SameGenerator first second At Stands x y → Both
  with_rows p g x y i = record p {
    generators = put_at g x p.generators;
    other_generators = put_at g y p.other_generators;
    same_generators = same_put first second At Stands g x y p.generators p.other_generators i p.same_generators;
  }

  same_wake : (p : Both) → Stand p → (x : Phase S N V W) (y : Phase R N V W) (g : ℕ) (f : Frame N V) (c : S) (t : R) (n : ℕ) (j : Bool) → Stands f.block c t →
      (e : Happening V) → is_line e ≡ false → (w : Pending S V) (w' : Pending R V) → SamePending first second At f.block w w' →
      (r : Rest S N V W (GeneratorResult V)) (r' : Rest R N V W (GeneratorResult V)) → SameRest first second At p.frame.block (Line p) r r' →
      Same (wake first host g (act_of f c n j) e w r (one p x)) (wake second host g (act_of f t n j) e w' r' (two p y))
  same_wake p h x y g f c t n j i e z w w' m r r' k =
      if_states _ _ (same_full p x y) _ _ _ _ (same_fail p h x y r r' k (λ v. ends_by (left_by v)) too_deep)
      (in_phase (behind_opener (with_rows p g running running same_running) h (for_generator g r) (for_generator g r') (same_for_generator g r r' k) f c t n j) i _ _ (same_tells (e ∷ []) w w' m (alone _ e z)))

  same_early : (p : Both) → Stand p → (x : Phase S N V W) (y : Phase R N V W) (o : Option V) (g : ℕ) (f : Frame N V) (c : S) (t : R) (n : ℕ) (j : Bool) → Stands f.block c t → Near f.block c t →
      (r : Rest S N V W (GeneratorResult V)) (r' : Rest R N V W (GeneratorResult V)) → SameRest first second At p.frame.block (Line p) r r' →
      Same (send_early first host o g (act_of f c n j) r (one p x)) (send_early second host o g (act_of f t n j) r' (two p y))
  same_early p h x y None g f c t n j i m r r' k = same_wake p h x y g f c t n j i starts refl _ _ (same_starting c t m) r r' k
  same_early p h x y (Some v) g f c t n j i m r r' k = same_give p h x y r r' k (cannot is_fresh)

  same_exit : (p : Both) → Stand p → (x : Phase S N V W) (y : Phase R N V W) (g : ℕ) (f : Frame N V) (c : S) (t : R) (n : ℕ) (j : Bool) → Stands f.block c t →
      (q : OpenYield S V) (q' : OpenYield R V) → SameYield first second At f.block q q' → (r : Rest S N V W (GeneratorResult V)) (r' : Rest R N V W (GeneratorResult V)) →
      SameRest first second At p.frame.block (Line p) r r' → (z : Made V W) →
      Same (throw_exit first host g (act_of f c n j) q r z (one p x)) (throw_exit second host g (act_of f t n j) q' r' z (two p y))
  same_exit p h x y g f c t n j i q q' m r r' k (H.beyond what) = same_leaving_rest p h x y r r' k what
  same_exit p h x y g f c t n j i q q' m r r' k (H.made v w) =
      same_wake (record p { world = w }) h x y g f c t n j i (throws v) refl _ _ (same_going_on q q' (raised v) m) r r' k

  same_resume : (p : Both) → Stand p → (x : Phase S N V W) (y : Phase R N V W) (o : Option (Generator S N V)) (o' : Option (Generator R N V)) → SameRow first second At Stands o o' →
      (z : How V) (g : ℕ) (r : Rest S N V W (GeneratorResult V)) (r' : Rest R N V W (GeneratorResult V)) → SameRest first second At p.frame.block (Line p) r r' →
      Same (resume_by first host o z g r (one p x)) (resume_by second host o' z g r' (two p y))
  same_resume p h x y _ _ (a_row _ _ (same_fresh f c t n j i m)) by_next g r r' k = same_wake p h x y g f c t n j i starts refl _ _ (same_starting c t m) r r' k
  same_resume p h x y _ _ (a_row _ _ (same_fresh f c t n j i m)) (by_send v) g r r' k = same_early p h x y (host.unless_null v) g f c t n j i m r r' k
  same_resume p h x y _ _ (a_row _ _ (same_fresh f c t n j i m)) (by_throw v) g r r' k = same_give (with_rows p g finished finished same_finished) h x y r r' k (throws_back v)
  same_resume p h x y _ _ (a_row _ _ (same_fresh f c t n j i m)) by_close g r r' k = same_give (with_rows p g finished finished same_finished) h x y r r' k nothing_to_close
  same_resume p h x y _ _ (a_row _ _ (same_suspended f c t n j q q' i m)) by_next g r r' k = same_wake p h x y g f c t n j i resumes refl _ _ (same_going_on q q' (got host.null) m) r r' k
  same_resume p h x y _ _ (a_row _ _ (same_suspended f c t n j q q' i m)) (by_send v) g r r' k = same_wake p h x y g f c t n j i resumes refl _ _ (same_going_on q q' (got v) m) r r' k
  same_resume p h x y _ _ (a_row _ _ (same_suspended f c t n j q q' i m)) (by_throw v) g r r' k = same_wake p h x y g f c t n j i (throws v) refl _ _ (same_going_on q q' (raised v) m) r r' k
  same_resume p h x y _ _ (a_row _ _ (same_suspended f c t n j q q' i m)) by_close g r r' k =
      subst (λ e. Same (throw_exit first host g (act_of f c n j) q r (host.makes generator_exit (here_of first (one p x)) p.world) (one p x)) (throw_exit second host g (act_of f t n j) q' r' (host.makes generator_exit e p.world) (two p y)))
      (same_here p h x y) (same_exit p h x y g f c t n j i q q' m r r' k _)
  same_resume p h x y _ _ (a_row _ _ same_running) z g r r' k = same_give p h x y r r' k (cannot is_running)
  same_resume p h x y _ _ (a_row _ _ same_finished) by_next g r r' k = same_give p h x y r r' k (cannot is_finished)
  same_resume p h x y _ _ (a_row _ _ same_finished) (by_send v) g r r' k = same_give p h x y r r' k (cannot is_finished)
  same_resume p h x y _ _ (a_row _ _ same_finished) (by_throw v) g r r' k = same_give p h x y r r' k (throws_back v)
  same_resume p h x y _ _ (a_row _ _ same_finished) by_close g r r' k = same_give p h x y r r' k nothing_to_close
  same_resume p h x y _ _ no_row z g r r' k = same_give p h x y r r' k (cannot is_finished)

  -- writes to frames
  same_changed_openers : (k : ℕ) (z : Change N V) (os : List (Opener S N V W)) (ps : List (Opener R N V W)) → SameOpeners first second At Stands Lands os ps →
      SameOpeners first second At Stands Lands (map (change_opener k z) os) (map (change_opener k z) ps)
  same_changed_openers k z _ _ no_openers = no_openers
  same_changed_openers k z _ _ (more_openers f c t n j u u' os os' s i r) =
      more_openers (change_one k z f) c t n j u u' _ _ s i (same_changed_openers k z os os' r)

  same_changed_generators : (k : ℕ) (z : Change N V) (gs : List (Generator S N V)) (hs : List (Generator R N V)) → SameGenerators first second At Stands gs hs →
      SameGenerators first second At Stands (map (change_generator k z) gs) (map (change_generator k z) hs)
  same_changed_generators k z _ _ no_generators = no_generators
  same_changed_generators k z _ _ (more_generators _ _ gs hs (same_fresh f c t n j s m) r) =
      more_generators _ _ _ _ (same_fresh (change_one k z f) c t n j s m) (same_changed_generators k z gs hs r)
  same_changed_generators k z _ _ (more_generators _ _ gs hs (same_suspended f c t n j y y' s i) r) =
      more_generators _ _ _ _ (same_suspended (change_one k z f) c t n j y y' s i) (same_changed_generators k z gs hs r)
  same_changed_generators k z _ _ (more_generators _ _ gs hs same_running r) = more_generators running running _ _ same_running (same_changed_generators k z gs hs r)
  same_changed_generators k z _ _ (more_generators _ _ gs hs same_finished r) = more_generators finished finished _ _ same_finished (same_changed_generators k z gs hs r)

  same_change : (p : Both) → Stand p → (x : Phase S N V W) (y : Phase R N V W) (k : ℕ) (z : Change N V) (r : Rest S N V W (Unit {0})) (r' : Rest R N V W (Unit {0})) →
      SameRest first second At p.frame.block (Line p) r r' → Same (give first host r tt (change_frame k z (one p x))) (give second host r' tt (change_frame k z (two p y)))
  same_change p h x y k z r r' i =
      same_give (record p {
        frame = change_one k z p.frame;
        openers = map (change_opener k z) p.openers;
        other_openers = map (change_opener k z) p.other_openers;
        same_openers = same_changed_openers k z p.openers p.other_openers p.same_openers;
        generators = map (change_generator k z) p.generators;
        other_generators = map (change_generator k z) p.other_generators;
        same_generators = same_changed_generators k z p.generators p.other_generators p.same_generators;
        past = map (change_one k z) p.past;
      }) h x y r r' i tt

  -- a trace function's jump
  data SameBelow : JumpBelow S N V W → JumpBelow R N V W → Type 0 where
    same_cannot : (e : Reason) → SameBelow (cannot_jump e) (cannot_jump e)
    same_changes : (os : List (Opener S N V W)) (ps : List (Opener R N V W)) → SameOpeners first second At Stands Lands os ps → SameBelow (changes os) (changes ps)

  if_below : (b : Bool) (j k : JumpBelow S N V W) (j' k' : JumpBelow R N V W) → (b ≡ true → SameBelow j j') → SameBelow k k' →
      SameBelow (if b then j else k) (if b then j' else k')
  if_below true j k j' k' h i = h refl
  if_below false j k j' k' h i = i

  same_behind : (f : Frame N V) (c : S) (t : R) (n : ℕ) (j : Bool) (u : Purpose S N V W) (u' : Purpose R N V W) → Stands f.block c t → SamePurpose first second At f.block (Lined f.block c t) u u' →
      (a : JumpBelow S N V W) (b : JumpBelow R N V W) → SameBelow a b →
      SameBelow (behind_one first host (record { activation = act_of f c n j; purpose = u }) a) (behind_one second host (record { activation = act_of f t n j; purpose = u' }) b)
  same_behind f c t n j u u' s i _ _ (same_cannot e) = same_cannot e
  same_behind f c t n j u u' s i _ _ (same_changes os ps r) = same_changes _ _ (more_openers f c t n j u u' os ps s i r)

  same_land_rest : (b : BlockId) (K L : Type 0) → L → (to : S) (to' : R) (f : V → S) (f' : V → R) → Near b to to' → ((v : V) → Near b (f v) (f' v)) → {G : Type 0}
      (r : Rest S N V W G) (r' : Rest R N V W G) → SameRest first second At b K r r' → SameRest first second At b L (land_rest first host to f r) (land_rest second host to' f' r')
  same_land_rest b K L o to to' f f' m i _ _ (same_of_ask a k k' l c g n) = same_of_ask a k k' l c g n
  same_land_rest b K L o to to' f f' m i _ _ (same_of_hook _ _ g (same_hearing h _ _ (same_telling e hs bs w w' z j))) =
      same_of_hook _ _ g (same_hearing h _ _ (same_telling e hs [] _ _ (same_going to to' f f' m i) (λ q. o, tt)))

  same_land : (b : BlockId) (K L : Type 0) → L → (to : S) (to' : R) (f : V → S) (f' : V → R) → Near b to to' → ((v : V) → Near b (f v) (f' v)) →
      (u : Purpose S N V W) (u' : Purpose R N V W) → SamePurpose first second At b K u u' →
      SamePurpose first second At b L (land_purpose first host to f u) (land_purpose second host to' f' u')
  same_land b K L o to to' f f' m i _ _ (same_for_block r r' k) = same_for_block _ _ (same_land_rest b K L o to to' f f' m i r r' k)
  same_land b K L o to to' f f' m i _ _ (same_for_generator g r r' k) = same_for_generator g _ _ (same_land_rest b K L o to to' f f' m i r r' k)

  same_by_jump : (l : ℕ) (f : Frame N V) (c : S) (t : R) (n : ℕ) (j : Bool) (u : Purpose S N V W) (u' : Purpose R N V W) → SamePurpose first second At f.block (Lined f.block c t) u u' →
      (os : List (Opener S N V W)) (ps : List (Opener R N V W)) → SameOpeners first second At Stands Lands os ps → (z : Jump S V) (z' : Jump R V) → SameJump first second At Lands f.block z z' →
      SameBelow (by_jump first host l (record { activation = act_of f c n j; purpose = u }) os z) (by_jump second host l (record { activation = act_of f t n j; purpose = u' }) ps z')
  same_by_jump l f c t n j u u' i os ps r _ _ (same_refusal e) = same_cannot e
  same_by_jump l f c t n j u u' i os ps r _ _ (same_landing to d to' d' g g' s k m) =
      same_changes _ _ (more_openers (record f { line = Some l }) to to' n true _ _ os ps (law.landings f.block to to' s)
      (same_land f.block _ _ (at_landing to to' s) d d' g g' k m u u' i) r)

  same_to_line : (o : Option ℕ) (f : Frame N V) (c : S) (t : R) (n : ℕ) (j : Bool) (u : Purpose S N V W) (u' : Purpose R N V W) → Lined f.block c t → SamePurpose first second At f.block (Lined f.block c t) u u' →
      (os : List (Opener S N V W)) (ps : List (Opener R N V W)) → SameOpeners first second At Stands Lands os ps →
      SameBelow (to_line first host o (record { activation = act_of f c n j; purpose = u }) os) (to_line second host o (record { activation = act_of f t n j; purpose = u' }) ps)
  same_to_line None f c t n j u u' s i os ps r = same_cannot no_statement
  same_to_line (Some l) f c t n j u u' s i os ps r = same_by_jump l f c t n j u u' i os ps r _ _ (law.jumps f.block c t l s)

  same_from_hook : (k : ℕ) (l : ℤ) (z : Hearing S V) (z' : Hearing R V) (f : Frame N V) (c : S) (t : R) (n : ℕ) (j : Bool) (u : Purpose S N V W) (u' : Purpose R N V W) → SameHearing first second At f.block (Lined f.block c t) z z' →
      SamePurpose first second At f.block (Lined f.block c t) u u' → (os : List (Opener S N V W)) (ps : List (Opener R N V W)) → SameOpeners first second At Stands Lands os ps →
      SameBelow (from_hook first host k l z (record { activation = act_of f c n j; purpose = u }) os) (from_hook second host k l z' (record { activation = act_of f t n j; purpose = u' }) ps)
  same_from_hook k l _ _ f c t n j u u' (same_hearing h _ _ (same_telling e hs bs w w' q (y, z))) i os ps r =
      if_below (is_tracer h && is_line e.what) _ _ _ _
      (λ d. if_below (f.number == k) _ _ _ _ (λ g. same_to_line (line_number l) f c t n j u u' (y (of_and (is_tracer h) _ d)) i os ps r) (same_cannot not_newest))
      (same_cannot not_at_line)

  same_jump_below : (k : ℕ) (l : ℤ) (os : List (Opener S N V W)) (ps : List (Opener R N V W)) → SameOpeners first second At Stands Lands os ps →
      SameBelow (jump_below first host k l os) (jump_below second host k l ps)
  same_jump_below k l _ _ no_openers = same_cannot not_at_line
  same_jump_below k l _ _ (more_openers f c t n j u u' os ps s i r) = by_purpose u u' i (same_jump_below k l os ps r)
    where
      by_rest_of : {G : Type 0} (z : Rest S N V W G) (z' : Rest R N V W G) → SameRest first second At f.block (Lined f.block c t) z z' → (v : Purpose S N V W) (v' : Purpose R N V W) →
          SamePurpose first second At f.block (Lined f.block c t) v v' → SameBelow (jump_below first host k l os) (jump_below second host k l ps) →
          SameBelow (by_hook first host (hook_of_rest first host z) k l (record { activation = act_of f c n j; purpose = v }) os (behind_one first host (record { activation = act_of f c n j; purpose = v }) (jump_below first host k l os)))
          (by_hook second host (hook_of_rest second host z') k l (record { activation = act_of f t n j; purpose = v' }) ps (behind_one second host (record { activation = act_of f t n j; purpose = v' }) (jump_below second host k l ps)))
      by_rest_of _ _ (same_of_ask a g g' b e q m) v v' w x = same_behind f c t n j v v' s w _ _ x
      by_rest_of _ _ (same_of_hook h h' q m) v v' w x = same_from_hook k l h h' f c t n j v v' m w os ps r

      by_purpose : (v : Purpose S N V W) (v' : Purpose R N V W) → SamePurpose first second At f.block (Lined f.block c t) v v' → SameBelow (jump_below first host k l os) (jump_below second host k l ps) →
          SameBelow (by_hook first host (hook_of first host v) k l (record { activation = act_of f c n j; purpose = v }) os (behind_one first host (record { activation = act_of f c n j; purpose = v }) (jump_below first host k l os)))
          (by_hook second host (hook_of second host v') k l (record { activation = act_of f t n j; purpose = v' }) ps (behind_one second host (record { activation = act_of f t n j; purpose = v' }) (jump_below second host k l ps)))
      by_purpose _ _ (same_for_block z z' m) x = by_rest_of z z' m _ _ (same_for_block z z' m) x
      by_purpose _ _ (same_for_generator g z z' m) x = by_rest_of z z' m _ _ (same_for_generator g z z' m) x

  same_write_line : (p : Both) → Stand p → (x : Phase S N V W) (y : Phase R N V W) (r : Rest S N V W (Option Reason)) (r' : Rest R N V W (Option Reason)) → SameRest first second At p.frame.block (Line p) r r' →
      (a : JumpBelow S N V W) (b : JumpBelow R N V W) → SameBelow a b → Same (write_line first host r a (one p x)) (write_line second host r' b (two p y))
  same_write_line p h x y r r' i _ _ (same_cannot e) = same_give p h x y r r' i (Some e)
  same_write_line p h x y r r' i _ _ (same_changes os ps k) = same_give (record p { openers = os; other_openers = ps; same_openers = k }) h x y r r' i None

  same_view : (p : Both) (x : Phase S N V W) (y : Phase R N V W) (k : ℕ) → frame_numbered host.first_line k (one p x) ≡ frame_numbered host.first_line k (two p y)
  same_view p x y k =
      ap (λ fs. or_else (View.view_open host.first_line k (p.frame ∷ fs)) (View.view_alone host.first_line k (frames_in p.generators ++ p.past)))
      (same_frames first second At Stands Lands p.openers p.other_openers p.same_openers)
      ∙ ap (λ gs. or_else (View.view_open host.first_line k (p.frame ∷ frames_of p.other_openers)) (View.view_alone host.first_line k (gs ++ p.past)))
      (same_frames_in first second At Stands p.generators p.other_generators p.same_generators)

  same_give_by : (p : Both) → Stand p → (x : Phase S N V W) (y : Phase R N V W) → {G : Type 0} (r : Rest S N V W G) (r' : Rest R N V W G) → SameRest first second At p.frame.block (Line p) r r' →
      (g g' : G) → g ≡ g' → Same (give first host r g (one p x)) (give second host r' g' (two p y))
  same_give_by p h x y r r' i g g' e = subst (λ z. Same (give first host r g (one p x)) (give second host r' z (two p y))) e (same_give p h x y r r' i g)

  same_perform : (p : Both) → Stand p → (x : Phase S N V W) (y : Phase R N V W) (q : Request N V) (r : Rest S N V W (Response N V q)) (r' : Rest R N V W (Response N V q)) →
      SameRest first second At p.frame.block (Line p) r r' → Same (perform first host q r (one p x)) (perform second host q r' (two p y))
  same_perform p h x y (H.opens o) r r' i = same_run_block p h x y o r r' i
  same_perform p h x y (H.makes o) r r' i = same_make p h x y o r r' i
  same_perform p h x y (H.resumes g z) r r' i = same_resume p h x y _ _ (same_row first second At Stands g p.generators p.other_generators p.same_generators) z g r r' i
  same_perform p h x y (H.gives_trace f) r r' i = same_give (record p { trace = f }) h x y r r' i tt
  same_perform p h x y H.trace r r' i = same_give p h x y r r' i p.trace
  same_perform p h x y (H.calls_tools c) r r' i = same_give (record p { tools = (Tool.tool_call c p.tools).1 }) h x y r r' i (Tool.tool_call c p.tools).0
  same_perform p h x y H.frames r r' i =
      same_give_by p h x y r r' i _ _ (ap (λ fs. View.numbers (View.visible (p.frame ∷ fs))) (same_frames first second At Stands Lands p.openers p.other_openers p.same_openers))
  same_perform p h x y (H.frame k) r r' i = same_give_by p h x y r r' i _ _ (same_view p x y k)
  same_perform p h x y (H.gives_frame_names k n) r r' i = same_change p h x y k (new_names n) r r' i
  same_perform p h x y (H.gives_frame_trace k f) r r' i = same_change p h x y k (new_trace f) r r' i
  same_perform p h x y (H.gives_frame_lines k b) r r' i = same_change p h x y k (new_lines b) r r' i
  same_perform p h x y (H.jumps_to k l) r r' i = same_write_line p h x y r r' i _ _ (same_jump_below k l p.openers p.other_openers p.same_openers)

  -- hooks
  same_instead : (p : Both) → Stand p → (x : Phase S N V W) (y : Phase R N V W) (w : Pending S V) (w' : Pending R V) → SamePending first second At p.frame.block w w' → (v : V) →
      Same (instead_of first host w v (one p x)) (instead_of second host w' v (two p y))
  same_instead p h x y _ _ (same_starting c t m) v = in_phase p h _ _ (same_tells (unwinds v ∷ []) _ _ (same_ending (left_by v)) (alone _ (unwinds v) refl))
  same_instead p h x y _ _ (same_doing _ _ (same_ask a k k' i c n)) v = at_turn (record p { one = k (raised v); other = k' (raised v) }) (n (raised v)).nears
  same_instead p h x y _ _ (same_going to to' f f' m n) v = at_turn (record p { one = f v; other = f' v }) (n v)
  same_instead p h x y _ _ (same_giving_on _ _ u (same_yield a k k' i c g n)) v = at_turn (record p { one = k (raised v); other = k' (raised v) }) (n (raised v)).nears
  same_instead p h x y _ _ (same_going_on _ _ r (same_yield a k k' i c g n)) v = at_turn (record p { one = k (raised v); other = k' (raised v) }) (n (raised v)).nears
  same_instead p h x y _ _ (same_ending (gave u)) v = in_phase p h _ _ (same_tells (unwinds v ∷ []) _ _ (same_ending (left_by v)) (alone _ (unwinds v) refl))
  same_instead p h x y _ _ (same_ending (left_by u)) v = in_phase p h _ _ (same_closing (left_by v))

  same_raise : (p : Both) → Stand p → (x : Phase S N V W) (y : Phase R N V W) (z : Hearing S V) (z' : Hearing R V) → SameHearing first second At p.frame.block (Line p) z z' → (v : V) →
      Same (raise_of_hook first host z v (one p x)) (raise_of_hook second host z' v (two p y))
  same_raise p h x y _ _ (same_hearing k _ _ (same_telling e hs bs w w' m z)) v =
      same_instead (record p { world = world_with_entry host v p.frame p.world; trace = trace_unless k p.trace }) h x y w w' m v

  abbrev SameSteps : Step S N V W → Step R N V W → Type 0
  SameSteps s t = SameStep first second At Stands Lands s t

  same_call : (p : Both) → Stand p → (x : Phase S N V W) (y : Phase R N V W) (o : Option V) (k : Hook) (ks : List Hook) (t : Telling S V) (t' : Telling R V) → SameTelling first second At p.frame.block (Line p) t t' →
      SameSteps (call_hook first host o k ks t (one p x)) (call_hook second host o k ks t' (two p y))
  same_call p h x y None k ks _ _ (same_telling e hs bs w w' m z) = same_goes [] _ _ (in_phase p h _ _ (same_asking _ _ (same_telling e ks bs w w' m z)))
  same_call p h x y (Some f) k ks _ _ (same_telling e hs bs w w' m z) =
      subst (λ z. SameStep first second At Stands Lands (call_hook first host (Some f) k ks (record { event = e; hooks = hs; behind = bs; pending = w }) (one p x))
      (goes [] (two p (hearing (record { hook = k; telling = record { event = e; hooks = ks; behind = bs; pending = w' } }) (host.hears k f e z (record { names = p.frame.names; world = p.world }))))))
      (same_here p h x y) (same_goes [] _ _ (in_phase p h _ _ (same_hears _ _ _ (same_hearing k _ _ (same_telling e ks bs w w' m z)))))

  same_ask_next : (p : Both) → Stand p → (x : Phase S N V W) (y : Phase R N V W) (ks : List Hook) (t : Telling S V) (t' : Telling R V) → SameTelling first second At p.frame.block (Line p) t t' →
      SameSteps (ask_next first host ks t (one p x)) (ask_next second host ks t' (two p y))
  same_ask_next p h x y [] _ _ (same_telling e hs bs w w' m z) = same_goes [] _ _ (in_phase p h _ _ (same_tells bs w w' m z.1))
  same_ask_next p h x y (log ∷ ks) _ _ (same_telling e hs bs w w' m z) = same_goes _ _ _ (in_phase p h _ _ (same_asking _ _ (same_telling e ks bs w w' m z)))
  same_ask_next p h x y (debugger ∷ ks) _ _ (same_telling e hs bs w w' m z) =
      if_step (is_for_debugger e.what) _ _ _ _ (same_consults _ p h x y _ _ (same_telling e ks bs w w' m z)) (same_goes [] _ _ (in_phase p h _ _ (same_asking _ _ (same_telling e ks bs w w' m z))))
  same_ask_next p h x y (landing l ∷ ks) _ _ (same_telling e hs bs w w' m z) = same_consults _ p h x y _ _ (same_telling e ks bs w w' m z)
  same_ask_next p h x y (refusal r ∷ ks) _ _ (same_telling e hs bs w w' m z) = same_consults _ p h x y _ _ (same_telling e ks bs w w' m z)
  same_ask_next p h x y (tool i ∷ ks) _ _ (same_telling e hs bs w w' m z) = same_call p h x y _ (tool i) ks _ _ (same_telling e hs bs w w' m z)
  same_ask_next p h x y (tracer ∷ ks) _ _ (same_telling e hs bs w w' m z) = same_call p h x y _ tracer ks _ _ (same_telling e hs bs w w' m z)

  same_try : (p : Both) → Stand p → (x : Phase S N V W) (y : Phase R N V W) (l : ℕ) (z : Jump S V) (z' : Jump R V) → SameJump first second At Lands p.frame.block z z' →
      (t : Telling S V) (t' : Telling R V) → SameTelling first second At p.frame.block (Line p) t t' → SameSteps (try_jump first host l z t (one p x)) (try_jump second host l z' t' (two p y))
  same_try p h x y l _ _ (same_refusal r) _ _ (same_telling e hs bs w w' m z) = same_goes _ _ _ (in_phase p h _ _ (same_asking _ _ (same_telling e (refusal r ∷ hs) bs w w' m z)))
  same_try p h x y l _ _ (same_landing to c to' c' f f' s k n) _ _ (same_telling e hs bs w w' m z) =
      same_goes [] _ _ (in_phase (record p { frame = record p.frame { line = Some l }; one = to; other = to'; behind_jump = true }) (law.landings p.frame.block to to' s) _ _
      (same_asking _ _ (same_telling e (landing l ∷ []) [] _ _ (same_going c c' f f' k n) (λ q. at_landing to to' s, tt))))

  if_jump : (b : BlockId) (a : Bool) (z : Jump S V) (z' : Jump R V) (e : Reason) → (a ≡ true → SameJump first second At Lands b z z') →
      SameJump first second At Lands b (if a then z else refuses e) (if a then z' else refuses e)
  if_jump b true z z' e h = h refl
  if_jump b false z z' e h = same_refusal e

  pub same_advice : (p : Both) → Stand p → (x : Phase S N V W) (y : Phase R N V W) (a : Advice) (t : Telling S V) (t' : Telling R V) → SameTelling first second At p.frame.block (Line p) t t' →
      SameSteps (take_advice first host a t (one p x)) (take_advice second host a t' (two p y))
  same_advice p h x y go t t' m = same_goes [] _ _ (in_phase p h _ _ (same_asking t t' m))
  same_advice p h x y (jump_to l) _ _ (same_telling e hs bs w w' m z) =
      same_try p h x y l _ _ (if_jump p.frame.block (is_line e.what) _ _ not_at_line (λ d. law.jumps p.frame.block p.one p.other l (z.0 d))) _ _ (same_telling e hs bs w w' m z)
  same_advice p h x y give_up t t' m = same_ends O.quit

  same_refuse_disable : (p : Both) → Stand p → (x : Phase S N V W) (y : Phase R N V W) (l : Location) (z : Hearing S V) (z' : Hearing R V) → SameHearing first second At p.frame.block (Line p) z z' → (e : Made V W) →
      Same (refuse_disable first host l z e (one p x)) (refuse_disable second host l z' e (two p y))
  same_refuse_disable p h x y l z z' m (H.made v w) = same_raise (record p { world = w; tools = Tool.without l p.tools }) h x y z z' m v
  same_refuse_disable p h x y l z z' m (H.beyond what) = in_phase p h _ _ (same_hears z z' _ m)

  same_disable : (p : Both) → Stand p → (x : Phase S N V W) (y : Phase R N V W) (l : Location) (z : Hearing S V) (z' : Hearing R V) → SameHearing first second At p.frame.block (Line p) z z' →
      Same (disable first host l z (one p x)) (disable second host l z' (two p y))
  same_disable p h x y l _ _ (same_hearing k t t' m) =
      if_state (is_local l.bit) _ _ _ _ (in_phase (record p { tools = Tool.switch_off l p.tools }) h _ _ (same_asking t t' m))
      (subst (λ e. Same (refuse_disable first host l (record { hook = k; telling = t }) (host.makes H.not_local (here_of first (one p x)) p.world) (one p x)) (refuse_disable second host l (record { hook = k; telling = t' }) (host.makes H.not_local e p.world) (two p y)))
      (same_here p h x y) (same_refuse_disable p h x y l _ _ (same_hearing k t t' m) _))

  same_hook_answer : (p : Both) → Stand p → (x : Phase S N V W) (y : Phase R N V W) (k : Hook) (v : V) (z : Hearing S V) (z' : Hearing R V) → SameHearing first second At p.frame.block (Line p) z z' →
      Same (take_hook_answer first host k v z (one p x)) (take_hook_answer second host k v z' (two p y))
  same_hook_answer p h x y (tool n) v _ _ (same_hearing k _ _ (same_telling e hs bs w w' m z)) =
      if_state (host.is_disable v) _ _ _ _ (same_disable p h x y (record { tool = n; bit = bit e.what; block = e.block; act = e.act }) _ _ (same_hearing k _ _ (same_telling e hs bs w w' m z)))
      (in_phase p h _ _ (same_asking _ _ (same_telling e hs bs w w' m z)))
  same_hook_answer p h x y tracer v _ _ (same_hearing k _ _ (same_telling e hs bs w w' m z)) =
      in_phase (record p { frame = record p.frame { trace = trace_behind (trace_kind e.what) (host.unless_null v) p.frame.trace } }) h _ _ (same_asking _ _ (same_telling e hs bs w w' m z))
  same_hook_answer p h x y log v _ _ (same_hearing k t t' m) = in_phase p h _ _ (same_asking t t' m)
  same_hook_answer p h x y debugger v _ _ (same_hearing k t t' m) = in_phase p h _ _ (same_asking t t' m)
  same_hook_answer p h x y (landing l) v _ _ (same_hearing k t t' m) = in_phase p h _ _ (same_asking t t' m)
  same_hook_answer p h x y (refusal r) v _ _ (same_hearing k t t' m) = in_phase p h _ _ (same_asking t t' m)

  -- replies
  same_tell_reply : (p : Both) → Stand p → (x : Phase S N V W) (y : Phase R N V W) (a : Ask V) (k : Reply V (Answer V a) → S) (k' : Reply V (Answer V a) → R) (i : Bool) (c : Option (Callee V)) →
      ((r : Reply V (Answer V a)) → Behind p.frame.block (k r) (k' r)) → (r : Reply V (Answer V a)) (hs : List (Happening V)) → Lines (Line p) hs →
      Same (reply_and_tell first host (record { ask = a; next = k; is_act = i; callee = c }) r hs (one p x)) (reply_and_tell second host (record { ask = a; next = k'; is_act = i; callee = c }) r hs (two p y))
  same_tell_reply p h x y a k k' i c n r hs z =
      in_phase p h _ _ (same_tells hs _ _ (same_going (k r) (k' r) _ _ (n r).nears (λ v. (n (raised v)).nears)) z)

  same_events : (p : Both) → Stand p → (x : Phase S N V W) (y : Phase R N V W) (a : Ask V) (k : Reply V (Answer V a) → S) (k' : Reply V (Answer V a) → R) (i : Bool) (c : Option (Callee V)) →
      ((r : Reply V (Answer V a)) → Behind p.frame.block (k r) (k' r)) → (r : Reply V (Answer V a)) (es : List (Happening V)) →
      events_behind first host (record { ask = a; next = k; is_act = i; callee = c }) r es (one p x) ≡ events_behind second host (record { ask = a; next = k'; is_act = i; callee = c }) r es (two p y)
  same_events p h x y a k k' i c n r es =
      ap (λ d. of_call a c r ++ es ++ map (happening d host.null None) (E.after (active first (one p x)) a r)) (n r).same_next
      ∙ ap (λ o. of_call a c r ++ es ++ map (happening (second.destination p.frame.block (k' r)) host.null None) (E.after o a r)) (same_active p h x y)

  same_reply : (p : Both) → Stand p → (x : Phase S N V W) (y : Phase R N V W) (a : Ask V) (k : Reply V (Answer V a) → S) (k' : Reply V (Answer V a) → R) (i : Bool) (c : Option (Callee V)) →
      ((r : Reply V (Answer V a)) → Behind p.frame.block (k r) (k' r)) → (r : Reply V (Answer V a)) (es : List (Happening V)) → Lines (Line p) es →
      Same (reply_to first host (record { ask = a; next = k; is_act = i; callee = c }) r es (one p x)) (reply_to second host (record { ask = a; next = k'; is_act = i; callee = c }) r es (two p y))
  same_reply p h x y a k k' i c n r es o =
      subst (λ z. Same (reply_to first host (record { ask = a; next = k; is_act = i; callee = c }) r es (one p x))
      (reply_and_tell second host (record { ask = a; next = k'; is_act = i; callee = c }) r (if i then z else only_raises z) (two p y)))
      (same_events p h x y a k k' i c n r es) (same_tell_reply p h x y a k k' i c n r _ (of_reply (Line p) i a c r es o _ host.null _))

  same_begin_yield : (p : Both) → Stand p → (x : Phase S N V W) (y : Phase R N V W) (q : OpenYield S V) (q' : OpenYield R V) → SameYield first second At p.frame.block q q' → (v : V) →
      Same (begin_yield first host q v (one p x)) (begin_yield second host q' v (two p y))
  same_begin_yield p h x y q q' m v = in_phase p h _ _ (same_tells (Told.yields v ∷ []) _ _ (same_giving_on q q' v m) (alone _ (Told.yields v) refl))

  same_finding : (p : Both) → Stand p → (x : Phase S N V W) (y : Phase R N V W) (a : Ask V) (k : Reply V (Answer V a) → S) (k' : Reply V (Answer V a) → R) (i : Bool) (c : Option (Callee V)) →
      ((r : Reply V (Answer V a)) → Behind p.frame.block (k r) (k' r)) → (z : Finding V a) → Same (take_finding first host a k i c z (one p x)) (take_finding second host a k' i c z (two p y))
  same_finding p h x y (T.next_of a) k k' i c n (H.an_item v) = same_reply p h x y (T.next_of a) k k' i c n (got (Some v)) [] tt
  same_finding p h x y (T.next_of a) k k' i c n (H.no_item e) = same_reply p h x y (T.next_of a) k k' i c n (got None) (stop_event e) (of_stop _ e)
  same_finding p h x y (T.delegate a r) k k' i c n (H.passes_on v) = same_begin_yield p h x y _ _ (same_yield (T.delegate a r) k k' i c (λ q. got (T.resumed q)) n) v
  same_finding p h x y (T.delegate a r) k k' i c n (H.ends_with v) = same_reply p h x y (T.delegate a r) k k' i c n (got (T.returned v)) [] tt
  same_finding p h x y (T.seek a) k k' i c n z = same_reply p h x y (T.seek a) k k' i c n (got z) [] tt
  same_finding p h x y (T.deed a) k k' i c n z = same_reply p h x y (T.deed a) k k' i c n (got z) [] tt
  same_finding p h x y (T.leave a) k k' i c n z = same_reply p h x y (T.leave a) k k' i c n (got z) [] tt
  same_finding p h x y (T.throw a) k k' i c n z = same_reply p h x y (T.throw a) k k' i c n (got z) [] tt
  same_finding p h x y (T.test a) k k' i c n z = same_reply p h x y (T.test a) k k' i c n (got z) [] tt
  same_finding p h x y (T.iter_of a) k k' i c n z = same_reply p h x y (T.iter_of a) k k' i c n (got z) [] tt
  same_finding p h x y (T.enter a) k k' i c n z = same_reply p h x y (T.enter a) k k' i c n (got z) [] tt
  same_finding p h x y (T.unpack a m t) k k' i c n z = same_reply p h x y (T.unpack a m t) k k' i c n (got z) [] tt

  same_line : (p : Both) (x : Phase S N V W) (y : Phase R N V W) → visible_line host.first_line (one p x) ≡ visible_line host.first_line (two p y)
  same_line p x y = ap (λ fs. View.line_of_first host.first_line p.frame (View.visible (p.frame ∷ fs))) (same_frames first second At Stands Lands p.openers p.other_openers p.same_openers)

  same_outside : (p : Both) (x : Phase S N V W) (y : Phase R N V W) (what : What) → SameSteps (ends (O.outside what (visible_line host.first_line (one p x)))) (ends (O.outside what (visible_line host.first_line (two p y))))
  same_outside p x y what = subst (λ l. SameSteps (ends (O.outside what (visible_line host.first_line (one p x)))) (ends (O.outside what l))) (same_line p x y) (same_ends _)

  abbrev with_stored : (p : Both) → Store N W → Both
  with_stored p st = record p { frame = record p.frame { names = st.names }; world = st.world }

  same_answer : (p : Both) → Stand p → (x : Phase S N V W) (y : Phase R N V W) (a : Ask V) (k : Reply V (Answer V a) → S) (k' : Reply V (Answer V a) → R) (i : Bool) (c : Option (Callee V)) →
      ((r : Reply V (Answer V a)) → Behind p.frame.block (k r) (k' r)) → (z : Answering N V W (Finding V a)) →
      SameSteps (take_answer first host (record { ask = a; next = k; is_act = i; callee = c }) z (one p x)) (take_answer second host (record { ask = a; next = k'; is_act = i; callee = c }) z (two p y))
  same_answer p h x y a k k' i c n (H.answer r st) = same_goes [] _ _ (same_finding (with_stored p st) h x y a k k' i c n r)
  same_answer p h x y a k k' i c n (H.raise v st) = same_goes [] _ _ (same_reply (with_stored p st) h x y a k k' i c n (raised v) [] tt)
  same_answer p h x y a k k' i c n (H.print t f) = same_goes _ _ _ (in_phase p h _ _ (same_answering a k k' i c f n))
  same_answer p h x y a k k' i c n (H.leave what) = same_outside p x y what
  same_answer p h x y a k k' i c n (H.request q st f) = same_goes [] _ _ (same_perform (with_stored p st) h x y q _ _ (same_of_ask a k k' i c f n))

  same_hear : (p : Both) → Stand p → (x : Phase S N V W) (y : Phase R N V W) (q : Hearing S V) (q' : Hearing R V) → SameHearing first second At p.frame.block (Line p) q q' → (z : Answering N V W V) →
      SameSteps (take_hearing first host q z (one p x)) (take_hearing second host q' z (two p y))
  same_hear p h x y _ _ (same_hearing k t t' m) (H.answer v st) = same_goes [] _ _ (same_hook_answer (with_stored p st) h x y k v _ _ (same_hearing k t t' m))
  same_hear p h x y q q' m (H.raise v st) = same_goes [] _ _ (same_raise (with_stored p st) h x y q q' m v)
  same_hear p h x y q q' m (H.print t f) = same_goes _ _ _ (in_phase p h _ _ (same_hears q q' f m))
  same_hear p h x y q q' m (H.leave what) = same_outside p x y what
  same_hear p h x y q q' m (H.request r st f) = same_goes [] _ _ (same_perform (with_stored p st) h x y r _ _ (same_of_hook q q' f m))

  -- an ask is done, and what waited goes on
  same_ask_host : (p : Both) → Stand p → (x : Phase S N V W) (y : Phase R N V W) (a : Ask V) (k : Reply V (Answer V a) → S) (k' : Reply V (Answer V a) → R) (i : Bool) (c : Option (Callee V)) →
      ((r : Reply V (Answer V a)) → Behind p.frame.block (k r) (k' r)) →
      Same (ask_host first host (record { ask = a; next = k; is_act = i; callee = c }) (one p x)) (ask_host second host (record { ask = a; next = k'; is_act = i; callee = c }) (two p y))
  same_ask_host p h x y a k k' i c n =
      subst (λ e. Same (ask_host first host (record { ask = a; next = k; is_act = i; callee = c }) (one p x))
      (two p (answering (record { ask = a; next = k'; is_act = i; callee = c }) (host.answers a e (record { names = p.frame.names; world = p.world })))))
      (same_here p h x y) (in_phase p h _ _ (same_answering a k k' i c _ n))

  same_do_seek : (p : Both) → Stand p → (x : Phase S N V W) (y : Phase R N V W) (a : T.Seek V) (k : Reply V V → S) (k' : Reply V V → R) (i : Bool) (c : Option (Callee V)) →
      ((r : Reply V V) → Behind p.frame.block (k r) (k' r)) → Same (do_ask first host (T.seek a) k i c (one p x)) (do_ask second host (T.seek a) k' i c (two p y))
  same_do_seek p h x y (T.yielding v) k k' i c n = same_begin_yield p h x y _ _ (same_yield (T.seek (T.yielding v)) k k' i c (λ r. r) n) v
  same_do_seek p h x y (T.const v) k k' i c n = same_ask_host p h x y (T.seek (T.const v)) k k' i c n
  same_do_seek p h x y (T.load v) k k' i c n = same_ask_host p h x y (T.seek (T.load v)) k k' i c n
  same_do_seek p h x y (T.operate o vs) k k' i c n = same_ask_host p h x y (T.seek (T.operate o vs)) k k' i c n
  same_do_seek p h x y (T.cell_of v) k k' i c n = same_ask_host p h x y (T.seek (T.cell_of v)) k k' i c n

  same_do_ask : (p : Both) → Stand p → (x : Phase S N V W) (y : Phase R N V W) (a : Ask V) (k : Reply V (Answer V a) → S) (k' : Reply V (Answer V a) → R) (i : Bool) (c : Option (Callee V)) →
      ((r : Reply V (Answer V a)) → Behind p.frame.block (k r) (k' r)) → Same (do_ask first host a k i c (one p x)) (do_ask second host a k' i c (two p y))
  same_do_ask p h x y (T.seek a) k k' i c n = same_do_seek p h x y a k k' i c n
  same_do_ask p h x y (T.deed a) k k' i c n = same_ask_host p h x y (T.deed a) k k' i c n
  same_do_ask p h x y (T.leave a) k k' i c n = same_ask_host p h x y (T.leave a) k k' i c n
  same_do_ask p h x y (T.throw a) k k' i c n = same_ask_host p h x y (T.throw a) k k' i c n
  same_do_ask p h x y (T.test a) k k' i c n = same_ask_host p h x y (T.test a) k k' i c n
  same_do_ask p h x y (T.iter_of a) k k' i c n = same_ask_host p h x y (T.iter_of a) k k' i c n
  same_do_ask p h x y (T.next_of a) k k' i c n = same_ask_host p h x y (T.next_of a) k k' i c n
  same_do_ask p h x y (T.enter a) k k' i c n = same_ask_host p h x y (T.enter a) k k' i c n
  same_do_ask p h x y (T.unpack a m t) k k' i c n = same_ask_host p h x y (T.unpack a m t) k k' i c n
  same_do_ask p h x y (T.delegate a r) k k' i c n = same_ask_host p h x y (T.delegate a r) k k' i c n

  -- an activation goes back to the one that waited for it
  abbrev back : (p : Both) → Frame N V → S → R → ℕ → Bool → (os : List (Opener S N V W)) (ps : List (Opener R N V W)) → SameOpeners first second At Stands Lands os ps → Both
  back p f c t n j os ps r = record p { frame = f; one = c; other = t; act = n; behind_jump = j; openers = os; other_openers = ps; same_openers = r }

  same_alone : (p : Both) → Stand p → (x : Phase S N V W) (y : Phase R N V W) (q : OpenYield S V) (q' : OpenYield R V) → SameYield first second At p.frame.block q q' →
      Same (go_on_alone first host q (one p x)) (go_on_alone second host q' (two p y))
  same_alone p h x y _ _ (same_yield a k k' i c g n) = same_reply p h x y a k k' i c n (g (got host.null)) [] tt

  same_give_on : (p : Both) → Stand p → (x : Phase S N V W) (y : Phase R N V W) (q : OpenYield S V) (q' : OpenYield R V) → SameYield first second At p.frame.block q q' → (v : V) →
      (os : List (Opener S N V W)) (ps : List (Opener R N V W)) → SameOpeners first second At Stands Lands os ps → Same (give_on first host os q v (one p x)) (give_on second host ps q' v (two p y))
  same_give_on p h x y q q' m v _ _ no_openers = same_alone p h x y q q' m
  same_give_on p h x y q q' m v _ _ (more_openers f c t n j _ _ os ps s (same_for_block r r' i) z) = same_alone p h x y q q' m
  same_give_on p h x y q q' m v _ _ (more_openers f c t n j _ _ os ps s (same_for_generator g r r' i) z) =
      same_give (back (with_rows p g _ _ (same_suspended p.frame p.one p.other p.act p.behind_jump q q' h m)) f c t n j os ps z) s x y r r' i (gives_on v)

  abbrev left_behind : Both → Frame N V
  left_behind p = record p.frame { names = host.names_left p.frame.names p.world }

  same_finish : (p : Both) (x : Phase S N V W) (y : Phase R N V W) (g : ℕ) (r : Rest S N V W (GeneratorResult V)) (r' : Rest R N V W (GeneratorResult V)) (e : End V) →
      (f : Frame N V) (c : S) (t : R) (n : ℕ) (j : Bool) → Stands f.block c t → (u : Purpose S N V W) (u' : Purpose R N V W) → SameRest first second At f.block (Lined f.block c t) r r' →
      (os : List (Opener S N V W)) (ps : List (Opener R N V W)) → SameOpeners first second At Stands Lands os ps →
      Same (finish_by first host g r e (record { activation = act_of f c n j; purpose = u }) os (one p x)) (finish_by second host g r' e (record { activation = act_of f t n j; purpose = u' }) ps (two p y))
  same_finish p x y g r r' e f c t n j s u u' i os ps z =
      same_give (back (record (with_rows p g finished finished same_finished) { past = left_behind p ∷ p.past }) f c t n j os ps z) s x y r r' i (ends_by e)

  same_finish_by_stop : (p : Both) (x : Phase S N V W) (y : Phase R N V W) (g : ℕ) (r : Rest S N V W (GeneratorResult V)) (r' : Rest R N V W (GeneratorResult V)) (e : Made V W) →
      (f : Frame N V) (c : S) (t : R) (n : ℕ) (j : Bool) → Stands f.block c t → (u : Purpose S N V W) (u' : Purpose R N V W) → SameRest first second At f.block (Lined f.block c t) r r' →
      (os : List (Opener S N V W)) (ps : List (Opener R N V W)) → SameOpeners first second At Stands Lands os ps →
      Same (finish_by_stop first host g r e (record { activation = act_of f c n j; purpose = u }) os (one p x)) (finish_by_stop second host g r' e (record { activation = act_of f t n j; purpose = u' }) ps (two p y))
  same_finish_by_stop p x y g r r' (H.made v w) f c t n j s u u' i os ps z = same_finish (record p { world = w }) x y g r r' (left_by v) f c t n j s u u' i os ps z
  same_finish_by_stop p x y g r r' (H.beyond what) f c t n j s u u' i os ps z = same_leaving_rest (back p f c t n j os ps z) s x y r r' i what

  same_pass : (p : Both) → Stand p → (x : Phase S N V W) (y : Phase R N V W) (e : End V) (f : Frame N V) (c : S) (t : R) (n : ℕ) (j : Bool) → Stands f.block c t →
      (u : Purpose S N V W) (u' : Purpose R N V W) → SamePurpose first second At f.block (Lined f.block c t) u u' → (os : List (Opener S N V W)) (ps : List (Opener R N V W)) → SameOpeners first second At Stands Lands os ps →
      Same (pass_result first host u e (record { activation = act_of f c n j; purpose = u }) os (one p x)) (pass_result second host u' e (record { activation = act_of f t n j; purpose = u' }) ps (two p y))
  same_pass p h x y e f c t n j s _ _ (same_for_block r r' i) os ps z =
      same_give (back (record p { past = left_behind p ∷ p.past }) f c t n j os ps z) s x y r r' i (record { end = e; names = p.frame.names })
  same_pass p h x y (gave v) f c t n j s _ _ (same_for_generator g r r' i) os ps z = same_finish p x y g r r' (gave v) f c t n j s (for_generator g r) (for_generator g r') i os ps z
  same_pass p h x y (left_by v) f c t n j s _ _ (same_for_generator g r r' i) os ps z =
      if_state (host.is_stop v p.world) _ _ _ _
      (subst (λ e. Same (finish_by_stop first host g r (host.makes (H.stop_iteration v) (here_of first (one p x)) p.world) (record { activation = act_of f c n j; purpose = for_generator g r }) os (one p x))
      (finish_by_stop second host g r' (host.makes (H.stop_iteration v) e p.world) (record { activation = act_of f t n j; purpose = for_generator g r' }) ps (two p y)))
      (same_here p h x y)
      (same_finish_by_stop p x y g r r' _ f c t n j s (for_generator g r) (for_generator g r') i os ps z))
      (same_finish p x y g r r' (left_by v) f c t n j s (for_generator g r) (for_generator g r') i os ps z)

  same_trace : (p : Both) (x : Phase S N V W) (y : Phase R N V W) (es : List Entry) → View.frames_of_trace host.first_line es (one p x) ≡ View.frames_of_trace host.first_line es (two p y)
  same_trace p x y [] = refl
  same_trace p x y (e ∷ es) =
      ap (λ o. View.at_entry e o (View.frames_of_trace host.first_line es (one p x))) (same_view p x y e.frame)
      ∙ ap (View.at_entry e (frame_numbered host.first_line e.frame (two p y))) (same_trace p x y es)

  same_leaving : (p : Both) (x : Phase S N V W) (y : Phase R N V W) (v : V) (z : Leaving) → end_by_exception first host v z (one p x) ≡ end_by_exception second host v z (two p y)
  same_leaving p x y v (H.exits n t) = refl
  same_leaving p x y v H.exits_oddly = ap (O.outside Exit) (same_line p x y)
  same_leaving p x y v (H.fails es) = ap (λ fs. O.raised v (record { frames = fs; world = p.world })) (same_trace p x y es)

  same_module_end : (p : Both) (x : Phase S N V W) (y : Phase R N V W) (e : End V) → end_of_module first host e (one p x) ≡ end_of_module second host e (two p y)
  same_module_end p x y (gave v) = refl
  same_module_end p x y (left_by v) = same_leaving p x y v (host.leaving v p.world)

  same_close : (p : Both) → Stand p → (x : Phase S N V W) (y : Phase R N V W) (e : End V) (os : List (Opener S N V W)) (ps : List (Opener R N V W)) → SameOpeners first second At Stands Lands os ps →
      SameSteps (close first host e os (one p x)) (close second host e ps (two p y))
  same_close p h x y e _ _ no_openers =
      subst (λ z. SameSteps (close first host e [] (one p x)) (ends z)) (same_module_end (record p { past = left_behind p ∷ p.past }) x y e) (same_ends _)
  same_close p h x y e _ _ (more_openers f c t n j u u' os ps s i r) = same_goes [] _ _ (same_pass p h x y e f c t n j s u u' i os ps r)

  -- what comes back to an ask that gave a value on
  same_arising : (p : Both) → Stand p → (x : Phase S N V W) (y : Phase R N V W) (a : Ask V) (k : Reply V (Answer V a) → S) (k' : Reply V (Answer V a) → R) (i : Bool) (c : Option (Callee V)) →
      ((r : Reply V (Answer V a)) → Behind p.frame.block (k r) (k' r)) → (r : Reply V (Answer V a)) →
      Same (reply_to first host (record { ask = a; next = k; is_act = i; callee = c }) r [] (arise_by first host r (one p x)))
      (reply_to second host (record { ask = a; next = k'; is_act = i; callee = c }) r [] (arise_by second host r (two p y)))
  same_arising p h x y a k k' i c n (got u) = same_reply p h x y a k k' i c n (got u) [] tt
  same_arising p h x y a k k' i c n (raised v) =
      subst (λ e. Same (reply_to first host (record { ask = a; next = k; is_act = i; callee = c }) (raised v) [] (arise_by first host {A = Answer V a} (raised v) (one p x)))
      (reply_to second host (record { ask = a; next = k'; is_act = i; callee = c }) (raised v) [] (two (record p { world = host.arises v e p.world }) y)))
      (same_here p h x y) (same_reply (record p { world = host.arises v (here_of first (one p x)) p.world }) h x y a k k' i c n (raised v) [] tt)

  same_proceed : (p : Both) → Stand p → (x : Phase S N V W) (y : Phase R N V W) (w : Pending S V) (w' : Pending R V) → SamePending first second At p.frame.block w w' →
      Same (proceed first host w (one p x)) (proceed second host w' (two p y))
  same_proceed p h x y _ _ (same_starting c t m) = at_turn (record p { one = c; other = t }) m
  same_proceed p h x y _ _ (same_doing _ _ (same_ask a k k' i c n)) = same_do_ask p h x y a k k' i c n
  same_proceed p h x y _ _ (same_going to to' f f' m n) = at_turn (record p { one = to; other = to' }) m
  same_proceed p h x y _ _ (same_giving_on q q' v m) = same_give_on p h x y q q' m v p.openers p.other_openers p.same_openers
  same_proceed p h x y _ _ (same_going_on _ _ r (same_yield a k k' i c g n)) = same_arising p h x y a k k' i c n (g r)
  same_proceed p h x y _ _ (same_ending e) = in_phase p h _ _ (same_closing e)

  same_tell : (p : Both) → Stand p → (x : Phase S N V W) (y : Phase R N V W) (hs : List (Happening V)) (w : Pending S V) (w' : Pending R V) → SamePending first second At p.frame.block w w' →
      Lines (Line p) hs → SameSteps (tell first host hs w (one p x)) (tell second host hs w' (two p y))
  same_tell p h x y [] w w' m z = same_goes [] _ _ (same_proceed p h x y w w' m)
  same_tell p h x y (e ∷ hs) w w' m z =
      subst (λ b. SameSteps (tell first host (e ∷ hs) w (one p x)) (if b then goes [] (two q (telling hs w')) else first_event second host e hs w' (two q y))) (same_silent q x y)
      (if_step (is_silent (one q x)) _ _ _ _ (same_goes [] _ _ (in_phase q h _ _ (same_tells hs w w' m z.1)))
      (same_goes _ _ _ (in_phase q h _ _ (same_asking _ _ (same_telling _ _ hs w w' m z)))))
    where
      q : Both
      q = record p { world = world_behind host e p.frame p.world }

  same_leads : (p : Both) (x : Phase S N V W) (y : Phase R N V W) (a : Ask V) (k : Reply V (Answer V a) → S) (k' : Reply V (Answer V a) → R) → ((r : Reply V (Answer V a)) → Behind p.frame.block (k r) (k' r)) →
      leads_to first host a k (one p x) ≡ leads_to second host a k' (two p y)
  same_leads p x y (T.leave T.jumping) k k' n = (n (got tt)).same_next
  same_leads p x y a k k' n = refl

  same_turn : (p : Both) → Stand p → (m : ℕ) (t : Turn S V) (t' : Turn R V) → SameTurn first second At p.frame.block t t' → (is_act t ≡ true → Line p) →
      SameSteps (begin_turn first host m t (one p turning)) (begin_turn second host m t' (two p turning))
  same_turn p h m _ _ (same_act (Some z) a k k' n) l =
      if_step (nat_lt p.units m) _ _ _ _
      (subst (λ d. SameSteps (goes (O.begins p.frame.block z ∷ []) (act_with first host z a k (callee_of host a p.world) (one p turning)))
      (goes (O.begins p.frame.block z ∷ []) (two q (telling (line_event second host z (two p turning) ++ map (happening d host.null (callee_of host a p.world)) (E.before a)) (doing (record { ask = a; next = k'; is_act = true; callee = callee_of host a p.world }))))))
      (same_leads p turning turning a k k' n) (same_goes _ _ _ (in_phase q h _ _ (same_tells _ _ _ (same_doing _ _ (same_ask a k k' true (callee_of host a p.world) n))
      (lines_append (Line p) (line_event first host z (one p turning)) _ (line_before V (Line p) (l refl) _ _) (of_control (Line p) _ host.null (callee_of host a p.world) (E.before a)))))))
      (same_ends _)
    where
      q : Both
      q = record p { frame = record p.frame { line = Some z.line }; act = z.act; behind_jump = false; units = suc p.units }
  same_turn p h m _ _ (same_act None a k k' n) l = same_goes [] _ _ (in_phase p h _ _ (same_tells [] _ _ (same_doing _ _ (same_ask a k k' false None n)) tt))
  same_turn p h m _ _ (same_note a k k' n) l =
      same_goes [] _ _ (in_phase p h _ _ (same_tells _ _ _ (same_going _ _ _ _ (n (got tt)) (λ v. n (raised v))) (of_control (Line p) 0 host.null None (E.at_note a))))
  same_turn p h m _ _ (same_move c t n) l = same_goes [] _ _ (at_turn (record p { one = c; other = t }) n)
  same_turn p h m _ _ (same_end (gave v)) l = same_goes [] _ _ (in_phase p h _ _ (same_tells _ _ _ (same_ending (gave v)) (alone _ (Told.returns v) refl)))
  same_turn p h m _ _ (same_end (left_by v)) l = same_goes [] _ _ (in_phase p h _ _ (same_tells _ _ _ (same_ending (left_by v)) (alone _ (unwinds v) refl)))

  same_phase : (p : Both) → Stand p → (m : ℕ) (x : Phase S N V W) (y : Phase R N V W) → SamePhase first second At p.frame.block (Line p) x y →
      SameSteps (by_phase first host m x (one p x)) (by_phase second host m y (two p y))
  same_phase p h m _ _ (same_tells hs w w' i z) = same_tell p h _ _ hs w w' i z
  same_phase p h m _ _ (same_asking _ _ (same_telling e hs bs w w' i z)) = same_ask_next p h _ _ hs _ _ (same_telling e hs bs w w' i z)
  same_phase p h m _ _ (same_answering a k k' i c z n) = same_answer p h _ _ a k k' i c n z
  same_phase p h m _ _ (same_hears q q' z i) = same_hear p h _ _ q q' i z
  same_phase p h m _ _ (same_closing e) = same_close p h _ _ e p.openers p.other_openers p.same_openers

  -- the second machine's run makes the same step, behind silent ones
  pub data Catches (m : ℕ) (s : State S N V W) : State R N V W → Type 0 where
    in_step : (t : State R N V W) → s.units ≡ t.units → SameSteps (step first host m s) (step second host m t) → Catches m s t
    behind_one_step : (t t' : State R N V W) → step second host m t ≡ goes [] t' → Catches m s t' → Catches m s t

  catches_turn : (p : Both) (m : ℕ) (t : R) → Near p.frame.block p.one t → Catches m (one p turning) (two (record p { other = t }) turning)
  catches_turn p m _ (there t i) = in_step _ refl (same_turn (record p { other = t }) (law.stands p.frame.block p.one t i) m _ _ (law.turns p.frame.block p.one t i) (λ e. at_act p.one t i e))
  catches_turn p m _ (moves t t' e i) =
      behind_one_step _ (two (record p { other = t' }) turning) (ap (λ z. begin_turn second host m z (two (record p { other = t }) turning)) e) (catches_turn p m t' i)

  pub catches : (m : ℕ) (s : State S N V W) (t : State R N V W) → Same s t → Catches m s t
  catches m _ _ (at_turn p i) = catches_turn p m p.other i
  catches m _ _ (in_phase p h x y i) = in_step _ refl (same_phase p h m x y i)
