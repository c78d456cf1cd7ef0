-- Strides of two bare runs of which the one's machine follows the turns of the other's: from states that stand for each other the same comes.
use Rattle.std.proofs.Common.{◌≡◌, ℕ, ◌+◌, suc, List, [], ◌∷◌, Bool, true, false, Some, None, refl, sym, ap, ◌∙◌, subst, if◌then◌else◌}
use Rattle.std.specs.Prelude.{nat_le, nat_lt}
use Rattle.pt_base.specs.declared.what.What.{What}
use Rattle.pt_base.specs.declared.what.What.TheVariants.{Exit}
use Rattle.sem_control.specs.control.Bases.{or_else}
use Rattle.sem_control.specs.control.Turn as T
use Rattle.sem_control.specs.control.Turn.{Ask, got, End, gave, left_by, Turn}
use Rattle.sem_control.specs.control.Events as E
use Rattle.sem_run.specs.run.Machine.{BlockId, Machine}
use Rattle.sem_run.specs.run.Host as H
use Rattle.sem_run.specs.run.Host.{Host, Store, Opening, BlockResult, Frame, Made, Leaving, too_deep}
use Rattle.sem_run.specs.run.State.{most_activations}
use Rattle.sem_run.specs.run.Views.{visible, line_of_first}
use Rattle.sem_run.specs.run.Hooks.{world_with_entry}
use Rattle.sem_run.specs.run.Step.{line_before}
use Rattle.sem_run.specs.run.Run.{write, to_out}
use Rattle.sem_run.specs.run.Follows.{Nears, there, moves}
use Rattle.sem_run.specs.transitions.Transitions.{transition}
use Rattle.sem_run.specs.transitions.Successors.{Successor, successor}
use Rattle.pt_bare_runs.specs.Strides.{Waiting, State, outside_at, Stride, goes, ends, is_full, visible_line, here_of, active_in, line_logged, behind, arise, end_by_exception, end_of_module, end_logged, lead, open_or_fail, fail_opening, close, take_turn, stride, store}
use Rattle.pt_bare_code.specs.Alike.{Alike, alike_to, alike_arises, alike_yield, alike_print, alike_request, alike_note, both_outside, both_end, neither}
use Rattle.pt_bare_code.specs.Turns.{AlikeTurns, alike_acts, alike_notes, alike_moves, alike_ends, alike_stuck, FollowsTurns}
use Rattle.pt_bare_code.proofs.Successors.{alike_successors}
use Rattle.pt_bare_code.proofs.Relation.{act_of, SameWaiting, none_wait, more_wait, same_depth, same_frames, same_active_in, Pair, left, right, SameState, same_state, SameStride, same_goes, same_ends, both_stuck, same_behind}

module _ {S R N V W : Type 0} (first : Machine S V) (second : Machine R V) (host : Host N V W) (At : BlockId → S → R → Type 0)
    (law : FollowsTurns first second At) where
  abbrev Both : Type 0
  Both = Pair N W first second At

  abbrev AtBoth : Both → Type 0
  AtBoth p = At p.frame.block p.one p.other

  abbrev Near : BlockId → S → R → Type 0
  Near b c t = Nears first second At b c t

  abbrev one : Both → State S N V W
  one p = left first second At p

  abbrev two : Both → State R N V W
  two p = right first second At p

  abbrev Same : Stride S N V W → Stride R N V W → Type 0
  Same x y = SameStride first second At x y

  same_line : (p : Both) → visible_line first host (one p) ≡ visible_line second host (two p)
  same_line p = ap (λ fs. line_of_first host.first_line p.frame (visible (p.frame ∷ fs))) (same_frames first second At p.waiting p.other_waiting p.same_waiting)

  same_here : (p : Both) → AtBoth p → here_of first host (one p) ≡ here_of second host (two p)
  same_here p h =
      ap (λ a. record { frame = p.frame.number; block = p.frame.block; active = a })
      (ap (λ a. or_else a (active_in first host p.waiting)) (law.active p.frame.block p.one p.other h)
      ∙ ap (or_else (second.active p.other)) (same_active_in first second host At law.active p.waiting p.other_waiting p.same_waiting))

  same_full : (p : Both) → is_full (one p) ≡ is_full (two p)
  same_full p = ap (λ n. nat_le most_activations (suc n)) (same_depth first second At p.waiting p.other_waiting p.same_waiting)

  -- an exit that leaves the profile
  same_outside : (p : Both) (what : What) → Same (ends [] p.units (outside_at what (visible_line first host (one p)))) (ends [] p.units (outside_at what (visible_line second host (two p))))
  same_outside p what =
      subst (λ l. Same (ends [] p.units (outside_at what (visible_line first host (one p)))) (ends [] p.units (outside_at what l))) (same_line p) (same_ends [] p.units _)

  -- an exception arises
  same_event : (p : Both) (e : E.Event V) (c : S) (t : R) → Near p.frame.block c t → Same (arise first host e c (one p)) (arise second host e t (two p))
  same_event p (E.raises v) c t h = same_goes _ _ _ (same_state (record p { one = c; other = t; world = world_with_entry host v p.frame p.world }) h)
  same_event p E.jumps c t h = same_goes _ _ _ (same_state (record p { one = c; other = t }) h)
  same_event p E.branches c t h = same_goes _ _ _ (same_state (record p { one = c; other = t }) h)
  same_event p (E.calls f rs vs) c t h = same_goes _ _ _ (same_state (record p { one = c; other = t }) h)
  same_event p (E.raises_again v) c t h = same_goes _ _ _ (same_state (record p { one = c; other = t }) h)
  same_event p (E.handled v) c t h = same_goes _ _ _ (same_state (record p { one = c; other = t }) h)

  same_arising : (p : Both) → AtBoth p → (a : Ask V) (v : V) (c : S) (t : R) → Near p.frame.block c t
      → Same (arise first host (E.arisen (here_of first host (one p)).active a v) c (one p)) (arise second host (E.arisen (here_of second host (two p)).active a v) t (two p))
  same_arising p i a v c t h =
      subst (λ z. Same (arise first host (E.arisen (here_of first host (one p)).active a v) c (one p)) (arise second host (E.arisen z.active a v) t (two p)))
      (same_here p i) (same_event p _ c t h)

  if_stride : (b c : Bool) → b ≡ c → (x x' : Stride S N V W) (y y' : Stride R N V W) → Same x y → Same x' y'
      → Same (if b then x else x') (if c then y else y')
  if_stride true true e x x' y y' h k = h
  if_stride false false e x x' y y' h k = k
  if_stride true false e x x' y y' h k = absurd cc
  if_stride false true e x x' y y' h k = absurd cc

  -- the newest activation waits, and another one is open above it
  abbrev new_frame : Opening N V → (number : ℕ) → Frame N V
  new_frame o k = record { number = k; block = o.block; names = o.names; line = None; trace = None; traces_lines = true; of_generator = false }

  abbrev opened : (p : Both) → AtBoth p → (a : Ask V) (f : BlockResult N V → Store N W → Successor S N V W) (g : BlockResult N V → Store N W → Successor R N V W)
      → ((r : BlockResult N V) (st : Store N W) → Alike (Near p.frame.block) (f r st) (g r st)) → Opening N V → Both
  opened p i a f g h o = record {
    frame = new_frame o p.frames;
    one = first.start o.block o.iterator;
    other = second.start o.block o.iterator;
    act = 0;
    behind_jump = false;
    waiting = record { activation = act_of p.frame p.one p.act p.behind_jump; ask = a; leads = f } ∷ p.waiting;
    other_waiting = record { activation = act_of p.frame p.other p.act p.behind_jump; ask = a; leads = g } ∷ p.other_waiting;
    same_waiting = more_wait p.frame p.one p.other p.act p.behind_jump a f g p.waiting p.other_waiting i h p.same_waiting;
    world = p.world;
    units = p.units;
    frames = p.frames + 1;
  }

  -- a block opens, or its result goes on by an exception
  fails : (p : Both) (o : Opening N V) (f : BlockResult N V → State S N V W → Stride S N V W) (g : BlockResult N V → State R N V W → Stride R N V W)
      → ((r : BlockResult N V) (w : W) → Same (f r (one (record p { world = w }))) (g r (two (record p { world = w })))) → (m : Made V W)
      → Same (fail_opening first host f o m (one p)) (fail_opening second host g o m (two p))
  fails p o f g h (H.made v w) = h _ w
  fails p o f g h (H.beyond what) = same_outside p what

  opens : (a : Ask V) (p : Both) → AtBoth p → (o : Opening N V) (f : BlockResult N V → Store N W → Successor S N V W)
      (g : BlockResult N V → Store N W → Successor R N V W) → ((r : BlockResult N V) (st : Store N W) → Alike (Near p.frame.block) (f r st) (g r st))
      → (f' : BlockResult N V → State S N V W → Stride S N V W) (g' : BlockResult N V → State R N V W → Stride R N V W)
      → ((r : BlockResult N V) (w : W) → Same (f' r (one (record p { world = w }))) (g' r (two (record p { world = w }))))
      → Same (open_or_fail first host a f f' o (one p)) (open_or_fail second host a g g' o (two p))
  opens a p i o f g h f' g' k =
      if_stride _ _ (same_full p) _ _ _ _
      (subst (λ z. Same (fail_opening first host f' o (host.makes too_deep (here_of first host (one p)) p.world) (one p)) (fail_opening second host g' o (host.makes too_deep z p.world) (two p)))
      (same_here p i) (fails p o f' g' k (host.makes too_deep (here_of first host (one p)) p.world)))
      (same_goes _ _ _ (same_state (opened p i a f g h o) (law.begins o.block o.iterator)))

  -- where an ask leads
  module _ (b : BlockId) (a : Ask V) where
    near : (p : Both) → p.frame.block ≡ b → (c : S) (t : R) → Near b c t → Near p.frame.block c t
    near p e c t h = subst (λ z. Near z c t) (sym e) h

    leads_in : (x : Successor S N V W) (y : Successor R N V W) → Alike (Near b) x y → (p : Both) → p.frame.block ≡ b → AtBoth p
        → Same (lead first host a x (one p)) (lead second host a y (two p))
    leads_in _ _ (alike_to c t st h) p e i =
        same_goes _ _ _ (same_state (record p { frame = record p.frame { names = st.names }; one = c; other = t; world = st.world }) (near p e c t h))
    leads_in _ _ (alike_arises v c t st h) p e i =
        same_arising (record p { frame = record p.frame { names = st.names }; world = st.world }) i a v c t (near p e c t h)
    leads_in _ _ (alike_yield v k k' st h) p e i = both_stuck
    leads_in _ _ (alike_print text x y h) p e i = same_behind first second At (write to_out text ∷ []) _ _ (leads_in x y h p e i)
    leads_in _ _ (alike_request (H.opens o) st f g h) p e i =
        opens a (record p { frame = record p.frame { names = st.names }; world = st.world }) i o f g
        (λ r st1. subst (λ z. Alike (Near z) (f r st1) (g r st1)) (sym e) (h r st1))
        (λ r s. lead first host a (f r (store s)) s) (λ r s. lead second host a (g r (store s)) s)
        (λ r w. leads_in _ _ (h r (record { names = st.names; world = w })) (record p { frame = record p.frame { names = st.names }; world = w }) e i)
    leads_in _ _ (alike_request (H.makes o) st f g h) p e i = both_stuck
    leads_in _ _ (alike_request (H.resumes k w) st f g h) p e i = both_stuck
    leads_in _ _ (alike_request (H.gives_trace w) st f g h) p e i = both_stuck
    leads_in _ _ (alike_request H.trace st f g h) p e i = both_stuck
    leads_in _ _ (alike_request (H.calls_tools w) st f g h) p e i = both_stuck
    leads_in _ _ (alike_request H.frames st f g h) p e i = both_stuck
    leads_in _ _ (alike_request (H.frame k) st f g h) p e i = both_stuck
    leads_in _ _ (alike_request (H.gives_frame_names k w) st f g h) p e i = both_stuck
    leads_in _ _ (alike_request (H.gives_frame_trace k w) st f g h) p e i = both_stuck
    leads_in _ _ (alike_request (H.gives_frame_lines k w) st f g h) p e i = both_stuck
    leads_in _ _ (alike_request (H.jumps_to k w) st f g h) p e i = both_stuck
    leads_in _ _ (alike_note w k k' h) p e i = same_goes _ _ _ (same_state (record p { one = k (got tt); other = k' (got tt) }) (near p e _ _ (h (got tt))))
    leads_in _ _ (both_outside what) p e i = same_outside p what
    leads_in _ _ (both_end z) p e i = both_stuck
    leads_in _ _ neither p e i = both_stuck

  leads : (a : Ask V) (p : Both) → AtBoth p → (x : Successor S N V W) (y : Successor R N V W) → Alike (Near p.frame.block) x y
      → Same (lead first host a x (one p)) (lead second host a y (two p))
  leads a p i x y h = leads_in p.frame.block a x y h p refl i

  -- how the module ends
  same_leaving : (p : Both) (v : V) (l : Leaving) → end_by_exception first host v l (one p) ≡ end_by_exception second host v l (two p)
  same_leaving p v (H.exits k x) = refl
  same_leaving p v H.exits_oddly = ap (λ l. outside_at Exit l) (same_line p)
  same_leaving p v (H.fails es) = refl

  same_end_of_module : (p : Both) (e : End V) → end_of_module first host e (one p) ≡ end_of_module second host e (two p)
  same_end_of_module p (gave v) = refl
  same_end_of_module p (left_by v) = same_leaving p v (host.leaving v p.world)

  closes : (p : Both) (e : End V) (os : List (Waiting S N V W)) (ps : List (Waiting R N V W)) → SameWaiting first second At os ps
      → Same (close first host e os (one p)) (close second host e ps (two p))
  closes p e _ _ none_wait =
      subst (λ z. Same (ends [] p.units (end_of_module first host e (one p))) (ends [] p.units z)) (same_end_of_module p e) (same_ends [] p.units _)
  closes p e _ _ (more_wait f c t n j a g g' os ps h k r) =
      leads a (record p { frame = f; one = c; other = t; act = n; behind_jump = j; waiting = os; other_waiting = ps; same_waiting = r }) h _ _ (k _ _)

  same_end_logged : (p : Both) (e : End V) → end_logged first host e (one p) ≡ end_logged second host e (two p)
  same_end_logged p (gave v) = refl
  same_end_logged p (left_by v) = refl

  module _ (n : ℕ) where
    -- an ask is done, from turns that are alike
    asks : (p : Both) → AtBoth p → (a : Ask V) (x : Turn S V) (y : Turn R V) → AlikeTurns first second At p.frame.block x y
        → Same (lead first host a (successor (transition host x (here_of first host (one p)) (store (one p)))) (one p))
        (lead second host a (successor (transition host y (here_of second host (two p)) (store (two p)))) (two p))
    asks p i a x y h =
        subst (λ z. Same (lead first host a (successor (transition host x (here_of first host (one p)) (store (one p)))) (one p))
        (lead second host a (successor (transition host y z (store (two p)))) (two p)))
        (same_here p i) (leads a p i _ _ (alike_successors first second At host p.frame.block x y h _ _))

    pub takes : (p : Both) → AtBoth p → (x : Turn S V) (y : Turn R V) → AlikeTurns first second At p.frame.block x y
        → Same (take_turn first host n x (one p)) (take_turn second host n y (two p))
    takes p i _ _ (alike_acts (Some m) a k k' h) =
        let q = record p { frame = record p.frame { line = Some m.line }; act = m.act; behind_jump = false; units = suc p.units } in
        if_stride (nat_lt p.units n) (nat_lt p.units n) refl _ _ _ _
        (same_behind first second At (line_logged first host m (line_before (one p).here) (one q)) _ _ (asks q i a _ _ (alike_acts (Some m) a k k' h)))
        (same_ends [] p.units _)
    takes p i _ _ (alike_acts None a k k' h) = asks p i a _ _ (alike_acts None a k k' h)
    takes p i _ _ (alike_notes a k k' h) = same_goes _ _ _ (same_state (record p { one = k (got tt); other = k' (got tt) }) (h (got tt)))
    takes p i _ _ (alike_moves c t h) = same_goes _ _ _ (same_state (record p { one = c; other = t }) h)
    takes p i _ _ (alike_ends e) =
        subst (λ ws. Same (take_turn first host n (T.over e) (one p)) (behind ws (close second host e p.other_waiting (two p)))) (same_end_logged p e)
        (same_behind first second At (end_logged first host e (one p)) _ _ (closes p e p.waiting p.other_waiting p.same_waiting))
    takes p i _ _ alike_stuck = both_stuck

    -- the second catches up with the first, behind silent strides
    pub data Catches (s : State S N V W) : State R N V W → Type 0 where
      in_stride : (t : State R N V W) → Same (stride first host n s) (stride second host n t) → Catches s t
      behind_one_stride : (t t' : State R N V W) → stride second host n t ≡ goes [] t' → Catches s t' → Catches s t

    by_moves : (p : Both) (t : R) → Near p.frame.block p.one t → Catches (one p) (two (record p { other = t }))
    by_moves p _ (there t h) = in_stride _ (takes (record p { other = t }) h _ _ (law.turns p.frame.block p.one t h))
    by_moves p _ (moves t t' e h) =
        behind_one_stride _ (two (record p { other = t' })) (ap (λ z. take_turn second host n z (two (record p { other = t }))) e) (by_moves p t' h)

    pub catches : (s : State S N V W) (t : State R N V W) → SameState first second At s t → Catches s t
    catches _ _ (same_state p h) = by_moves p p.other h
