-- From slots of the kinds of a place, each turn finds all that it takes, and leaves slots of the kinds of the place to which it goes.
use Rattle.std.proofs.Common.{◌≡◌, ℕ, ◌+◌, ◌-◌, ◌≤◌, ◌<◌, zero, suc, min, Bool, true, false, ◌||◌, if◌then◌else◌, List, [], ◌∷◌, ◌++◌, length, map, reverse, replicate, drop, take, Option, Some, None, refl, sym, ap, ◌∙◌, subst, arith, append_assoc}
use Rattle.std.specs.Prelude.{Contains, cond, slice_get}
use Rattle.std.proofs.lemmas.List.{reverse-append, replicate-append-replicate, map-append, drop-map, length-map, length-reverse, length-take-le, take-append-drop}
use Rattle.std.proofs.lemmas.Bool.{false≢true, leb-true}
use Rattle.pt_ranges.specs.declared.lines.ActMark.{ActMark}
use Rattle.pt_ranges.specs.declared.handlers.Handler.{Handler}
use Rattle.pt_tree.specs.declared.expression.Constant.{Constant}
use Rattle.pt_instr.specs.declared.TextNo.{TextNo}
use Rattle.pt_instr.specs.declared.Instr.{Instr}
use Rattle.pt_instr.specs.declared.Instr.TheVariants as instr
use Rattle.pt_instr.specs.declared.effects.Effect.{Effect}
use Rattle.pt_instr.specs.declared.kinds.Kind.{Kind}
use Rattle.pt_instr.specs.declared.kinds.Kind.TheVariants as kind
use Rattle.pt_instr.specs.Effects.{Kinds, effect_of}
use Rattle.pt_base.specs.declared.numbers.Pc.{Pc}
use Rattle.pt_code.specs.View.{Ins}
use Rattle.sem_control.specs.control.Turn as T
use Rattle.sem_control.specs.control.Turn.{Row, Seek, Deed, Throw, Ask, Answer, Reply, got, raised, Delegated, Turn, act, note, move, stuck}
use Rattle.sem_code.specs.slots.Slots.{Abrupt, raise, return, jump_to, Completion, normal, by, Slot, value, cell, iterator, exception, pending, exit, Slots, State, on, thrown_to, reraises, off, kind_of, raise_of, left_of}
use Rattle.sem_code.specs.slots.CodeObject.{CodeObject, local, global, named}
use Rattle.sem_code.specs.slots.Landing as landing
use Rattle.sem_code.specs.slots.Landing.{land, takes}
use Rattle.sem_code.specs.slots.Pops.{Next, values, cells, one, two, three, an_iterator, movable, an_exception, a_completion, an_exit, the_value, giving}
use Rattle.sem_code.specs.slots.Steps.{dropped, kept, unmarked, after, asks, gives, does, decided, throws, goes, leaves, gives_known, branches, with_item, delegated, delegates, lets_go}
use Rattle.sem_code.specs.slots.Instructions.{conversion_of, all_positional, last_named, role_of, operates, jumps, perform}
use Rattle.sem_code.specs.slots.Machine.{turn, here, thrown_here, after_note}
use Rattle.sem_fits.specs.fits.Block.{Block, captured, effect}
use Rattle.sem_fits.specs.fits.Steps as F
use Rattle.sem_fits.specs.fits.Steps.{is_kind, spared, below, is_value, has_value, has_enough, finds, is_within, given_behind, swaps_iterator, target_of, are_kinds, taken}
use Rattle.sem_fits.specs.fits.Places.{Gets, Reached}
use Rattle.sem_fits.specs.fits.Leaves as L
use Rattle.sem_fits.specs.fits.Leaves.{Departs, Goes, Common, Holds, Leaving, taker, takes_leave}
use Rattle.sem_fits.specs.fits.Fits.{Fits, Arrives}
use Rattle.sem_fits.specs.fits.Laws.{SlotsFit, Runs, MayHold, AllMayHold, Stack, At, Sent, Rising, Sound, GoesOn}
use Rattle.sem_fits.proofs.fits.KindLemmas.{both, either, same_kinds, prefix_taken, reverse_replicate, split, no_swap, length_below, lowest, take_take}
use Rattle.sem_fits.proofs.fits.Swaps.{given_lifted, given_found}
use Rattle.sem_fits.proofs.fits.Ways.{place_of, first, later, found_contained, Way, within, behind, at_target, stays, at_handler, found, departs_arrive, target_fits}

-- a list begins with a kind
abbrev Heads : Kind → List Kind → Type 0
Heads k [] = ⊥
Heads k (l ∷ ls) = is_kind k l ≡ true

abbrev rest : List Kind → List Kind
rest [] = []
rest (k ∷ ks) = ks

itself : (k : Kind) → is_kind k k ≡ true
itself kind.Value = refl
itself kind.Cell = refl
itself kind.Iter = refl
itself kind.Exc = refl
itself kind.Pending = refl
itself kind.With = refl

module _ {V : Type 0} (b : Block) where
  -- what is no jump that is held
  abbrev IsFree : Slot V → Type 0
  IsFree (pending (by (jump_to t))) = ⊥
  IsFree s = Unit {0}

  abbrev AreFree : Slots V → Type 0
  AreFree [] = Unit {0}
  AreFree (s ∷ ss) = IsFree s × AreFree ss

  free_holds : (pc d : ℕ) (s : Slot V) → IsFree s → MayHold b pc d s
  free_holds pc d (pending (by (jump_to t))) f = absurd f
  free_holds pc d (pending (by (raise v))) f = tt
  free_holds pc d (pending (by (return v))) f = tt
  free_holds pc d (pending normal) f = tt
  free_holds pc d (value v) f = tt
  free_holds pc d (cell v) f = tt
  free_holds pc d (iterator v) f = tt
  free_holds pc d (exception v) f = tt
  free_holds pc d (exit v) f = tt

  -- a slot that a step keeps may hold what it held
  kept_holds : (q r k d : ℕ) (s : Slot V) → Goes b b.size q r k → d < k → MayHold b q d s → MayHold b r d s
  kept_holds q r k d (pending (by (jump_to t))) g l h = L.shared (L.kept g l) h
  kept_holds q r k d (pending (by (raise v))) g l h = tt
  kept_holds q r k d (pending (by (return v))) g l h = tt
  kept_holds q r k d (pending normal) g l h = tt
  kept_holds q r k d (value v) g l h = tt
  kept_holds q r k d (cell v) g l h = tt
  kept_holds q r k d (iterator v) g l h = tt
  kept_holds q r k d (exception v) g l h = tt
  kept_holds q r k d (exit v) g l h = tt

  all_kept : (q r k : ℕ) (ss : Slots V) → Goes b b.size q r k → length ss ≤ k → AllMayHold b q ss → AllMayHold b r ss
  all_kept q r k [] g l h = tt
  all_kept q r k (s ∷ ss) g l (h, hs) = (kept_holds q r k (length ss) s g (omega (arith, l)) h, all_kept q r k ss g (omega (arith, l)) hs)

  above : (pc : ℕ) (top ss : Slots V) → AreFree top → AllMayHold b pc ss → AllMayHold b pc (top ++ ss)
  above pc [] ss f h = h
  above pc (s ∷ top) ss (f, fs) h = (free_holds pc (length (top ++ ss)) s f, above pc top ss fs h)

  dropped_holds : (pc n : ℕ) (ss : Slots V) → AllMayHold b pc ss → AllMayHold b pc (drop n ss)
  dropped_holds pc zero ss h = h
  dropped_holds pc (suc n) [] h = tt
  dropped_holds pc (suc n) (s ∷ ss) (h, hs) = dropped_holds pc n ss hs

  head_of : (pc : ℕ) (k : Kind) (ls : List Kind) (ss : Slots V) → Stack b pc (k ∷ ls) ss → Heads k (map kind_of ss)
  head_of pc k ls ss st = subst (Heads k) (sym st.kinds) (itself k)

  under : (pc : ℕ) (ls : List Kind) (k : Kind) (s : Slot V) (ss : Slots V) → Stack b pc (k ∷ ls) (s ∷ ss) → Stack b pc ls ss
  under pc ls k s ss st = record { kinds = let h : rest (map kind_of (s ∷ ss)) ≡ rest (k ∷ ls) = ap rest st.kinds in h; holds = st.holds.1 }

  pub size_of : (pc : ℕ) (ks : Kinds) (ss : Slots V) → Stack b pc (reverse ks) ss → length ss ≡ length ks
  size_of pc ks ss st = sym (length-map ss kind_of) ∙ (ap length st.kinds ∙ length-reverse ks)

  -- the lowest slots
  pub cut_stack : (pc d : ℕ) (ks : Kinds) (ss : Slots V) → Stack b pc (reverse ks) ss → Stack b pc (reverse (take d ks)) (landing.cut d ss)
  cut_stack pc d ks ss st = record {
    kinds = sym (drop-map kind_of (length ss - d) ss) ∙ (ap (drop (length ss - d)) st.kinds ∙ (ap (λ n. drop (n - d) (reverse ks)) (size_of pc ks ss st) ∙ lowest d ks));
    holds = dropped_holds pc (length ss - d) ss st.holds;
  }

  -- what is popped, by the kinds of the slots
  module _ (pc : ℕ) where
    abbrev Q : Turn (State V) V → Type 0
    Q t = GoesOn b t

    if_one : (ls : List Kind) (ss : Slots V) (next : Next V V) → Stack b pc (kind.Value ∷ ls) ss → ((v : V) (below : Slots V) → Stack b pc ls below → Q (next v below)) → Q (one ss next)
    if_one ls (value v ∷ ss) next st f = f v ss (under pc ls kind.Value (value v) ss st)
    if_one ls [] next st f = absurd (head_of pc kind.Value ls [] st)
    if_one ls (s ∷ ss) next st f = absurd (false≢true (head_of pc kind.Value ls (s ∷ ss) st))

    if_iterator : (ls : List Kind) (ss : Slots V) (next : Next V V) → Stack b pc (kind.Iter ∷ ls) ss → ((v : V) (below : Slots V) → Stack b pc ls below → Q (next v below)) → Q (an_iterator ss next)
    if_iterator ls (iterator v ∷ ss) next st f = f v ss (under pc ls kind.Iter (iterator v) ss st)
    if_iterator ls [] next st f = absurd (head_of pc kind.Iter ls [] st)
    if_iterator ls (s ∷ ss) next st f = absurd (false≢true (head_of pc kind.Iter ls (s ∷ ss) st))

    if_movable_value : (ls : List Kind) (ss : Slots V) (next : Next V (Slot V)) → Stack b pc (kind.Value ∷ ls) ss → ((v : V) (below : Slots V) → Stack b pc ls below → Q (next (value v) below))
        → Q (movable ss next)
    if_movable_value ls (value v ∷ ss) next st f = f v ss (under pc ls kind.Value (value v) ss st)
    if_movable_value ls [] next st f = absurd (head_of pc kind.Value ls [] st)
    if_movable_value ls (s ∷ ss) next st f = absurd (false≢true (head_of pc kind.Value ls (s ∷ ss) st))

    if_movable_iterator : (ls : List Kind) (ss : Slots V) (next : Next V (Slot V)) → Stack b pc (kind.Iter ∷ ls) ss → ((v : V) (below : Slots V) → Stack b pc ls below → Q (next (iterator v) below))
        → Q (movable ss next)
    if_movable_iterator ls (iterator v ∷ ss) next st f = f v ss (under pc ls kind.Iter (iterator v) ss st)
    if_movable_iterator ls [] next st f = absurd (head_of pc kind.Iter ls [] st)
    if_movable_iterator ls (s ∷ ss) next st f = absurd (false≢true (head_of pc kind.Iter ls (s ∷ ss) st))

    -- with the slots themselves
    if_exception : (ls : List Kind) (ss : Slots V) (next : Next V V) → Stack b pc (kind.Exc ∷ ls) ss
        → ((v : V) (below : Slots V) → ss ≡ exception v ∷ below → Stack b pc ls below → Q (next v below)) → Q (an_exception ss next)
    if_exception ls (exception v ∷ ss) next st f = f v ss refl (under pc ls kind.Exc (exception v) ss st)
    if_exception ls [] next st f = absurd (head_of pc kind.Exc ls [] st)
    if_exception ls (s ∷ ss) next st f = absurd (false≢true (head_of pc kind.Exc ls (s ∷ ss) st))

    if_completion : (ls : List Kind) (ss : Slots V) (next : Next V (Completion V)) → Stack b pc (kind.Pending ∷ ls) ss
        → ((c : Completion V) (below : Slots V) → length ss ≡ suc (length below) → MayHold b pc (length below) (pending c) → Stack b pc ls below → Q (next c below)) → Q (a_completion ss next)
    if_completion ls (pending c ∷ ss) next st f = f c ss refl st.holds.0 (under pc ls kind.Pending (pending c) ss st)
    if_completion ls [] next st f = absurd (head_of pc kind.Pending ls [] st)
    if_completion ls (s ∷ ss) next st f = absurd (false≢true (head_of pc kind.Pending ls (s ∷ ss) st))

    if_exit : (ls : List Kind) (ss : Slots V) (next : Next V V) → Stack b pc (kind.With ∷ ls) ss
        → ((v : V) (below : Slots V) → length ss ≡ suc (length below) → Stack b pc ls below → Q (next v below)) → Q (an_exit ss next)
    if_exit ls (exit v ∷ ss) next st f = f v ss refl (under pc ls kind.With (exit v) ss st)
    if_exit ls [] next st f = absurd (head_of pc kind.With ls [] st)
    if_exit ls (s ∷ ss) next st f = absurd (false≢true (head_of pc kind.With ls (s ∷ ss) st))

    if_values : (n : ℕ) (ls : List Kind) (over : List V) (ss : Slots V) (next : Next V (List V)) → Stack b pc (replicate n kind.Value ++ ls) ss
        → ((vs : List V) (below : Slots V) → Stack b pc ls below → Q (next vs below)) → Q (values n over ss next)
    if_values zero ls over ss next st f = f over ss st
    if_values (suc n) ls over (value v ∷ ss) next st f = if_values n ls (v ∷ over) ss next (under pc _ kind.Value (value v) ss st) f
    if_values (suc n) ls over [] next st f = absurd (head_of pc kind.Value _ [] st)
    if_values (suc n) ls over (s ∷ ss) next st f = absurd (false≢true (head_of pc kind.Value _ (s ∷ ss) st))

    if_cells : (n : ℕ) (ls : List Kind) (over : List V) (ss : Slots V) (next : Next V (List V)) → Stack b pc (replicate n kind.Cell ++ ls) ss
        → ((vs : List V) (below : Slots V) → Stack b pc ls below → Q (next vs below)) → Q (cells n over ss next)
    if_cells zero ls over ss next st f = f over ss st
    if_cells (suc n) ls over (cell v ∷ ss) next st f = if_cells n ls (v ∷ over) ss next (under pc _ kind.Cell (cell v) ss st) f
    if_cells (suc n) ls over [] next st f = absurd (head_of pc kind.Cell _ [] st)
    if_cells (suc n) ls over (s ∷ ss) next st f = absurd (false≢true (head_of pc kind.Cell _ (s ∷ ss) st))

    if_two : (ls : List Kind) (ss : Slots V) (next : V → Next V V) → Stack b pc (kind.Value ∷ kind.Value ∷ ls) ss
        → ((u v : V) (below : Slots V) → Stack b pc ls below → Q (next u v below)) → Q (two ss next)
    if_two ls (value v ∷ value u ∷ ss) next st f = f u v ss (under pc ls kind.Value (value u) ss (under pc _ kind.Value (value v) _ st))
    if_two ls [] next st f = absurd (head_of pc kind.Value _ [] st)
    if_two ls (value v ∷ []) next st f = absurd (head_of pc kind.Value _ [] (under pc _ kind.Value (value v) [] st))
    if_two ls (value v ∷ s ∷ ss) next st f = absurd (false≢true (head_of pc kind.Value _ (s ∷ ss) (under pc _ kind.Value (value v) (s ∷ ss) st)))
    if_two ls (s ∷ ss) next st f = absurd (false≢true (head_of pc kind.Value _ (s ∷ ss) st))

    if_three : (ls : List Kind) (ss : Slots V) (next : V → V → Next V V) → Stack b pc (kind.Value ∷ kind.Value ∷ kind.Value ∷ ls) ss
        → ((u v w : V) (below : Slots V) → Stack b pc ls below → Q (next u v w below)) → Q (three ss next)
    if_three ls (value w ∷ value v ∷ value u ∷ ss) next st f =
        f u v w ss (under pc ls kind.Value (value u) ss (under pc _ kind.Value (value v) _ (under pc _ kind.Value (value w) _ st)))
    if_three ls [] next st f = absurd (head_of pc kind.Value _ [] st)
    if_three ls (value w ∷ []) next st f = absurd (head_of pc kind.Value _ [] (under pc _ kind.Value (value w) [] st))
    if_three ls (value w ∷ value v ∷ []) next st f =
        absurd (head_of pc kind.Value _ [] (under pc _ kind.Value (value v) [] (under pc _ kind.Value (value w) _ st)))
    if_three ls (value w ∷ value v ∷ s ∷ ss) next st f =
        absurd (false≢true (head_of pc kind.Value _ (s ∷ ss) (under pc _ kind.Value (value v) (s ∷ ss) (under pc _ kind.Value (value w) _ st))))
    if_three ls (value w ∷ s ∷ ss) next st f = absurd (false≢true (head_of pc kind.Value _ (s ∷ ss) (under pc _ kind.Value (value w) (s ∷ ss) st)))
    if_three ls (s ∷ ss) next st f = absurd (false≢true (head_of pc kind.Value _ (s ∷ ss) st))

    -- a value lies so deep
    value_there : (n : ℕ) (ss : Slots V) (next : V → Turn (State V) V) → is_value (slice_get (map kind_of ss) n) ≡ true → ((v : V) → Q (next v)) → Q (the_value (suc n) ss next)
    value_there zero [] next e f = absurd (false≢true e)
    value_there (suc n) [] next e f = absurd (false≢true e)
    value_there zero (value v ∷ ss) next e f = f v
    value_there zero (s ∷ ss) next e f = absurd (false≢true e)
    value_there (suc n) (s ∷ ss) next e f = value_there n ss next e f

    if_value_below : (n : ℕ) (low : Kinds) (ss : Slots V) (next : V → Turn (State V) V) → has_value (Some n) low ≡ true → Stack b pc (reverse low) ss → ((v : V) → Q (next v))
        → Q (the_value n ss next)
    if_value_below zero low ss next e st f = absurd (false≢true e)
    if_value_below (suc n) low ss next e st f = value_there n ss next (subst (λ ls. is_value (slice_get ls n) ≡ true) (sym st.kinds) e) f

free_giving : {V : Type 0} (b : Block) (n : ℕ) (vs : Row V n) (ss : Slots V) → ss ≡ giving n vs [] → AreFree b ss
free_giving b zero u ss e = subst (AreFree b) (sym e) tt
free_giving b (suc n) (v, vs) ss e = subst (AreFree b) (sym e) (tt, free_giving b n vs _ refl)

giving_kinds : {V : Type 0} (n : ℕ) (vs : Row V n) (ss : Slots V) → ss ≡ giving n vs [] → map kind_of ss ≡ replicate n kind.Value
giving_kinds zero u ss e = ap (map kind_of) e
giving_kinds (suc n) (v, vs) ss e = ap (map kind_of) e ∙ ap (λ ks. kind.Value ∷ ks) (giving_kinds n vs _ refl)

giving_above : {V : Type 0} (n : ℕ) (vs : Row V n) (ss : Slots V) → giving n vs [] ++ ss ≡ giving n vs ss
giving_above zero u ss = refl
giving_above (suc n) (v, vs) ss = ap (λ ts. value v ∷ ts) (giving_above n vs ss)

abbrev Cuts : {V : Type 0} (b : Block) (pc : ℕ) (i : Ins) (ks : Kinds) (ss : Slots V) → Type 0
Cuts b pc i ks ss = (row : Handler) → Contains i.rows row → Stack b pc (reverse (F.cut row ks)) (landing.cut row.depth ss)

module _ {V : Type 0} (code : CodeObject V) (b : Block) (runs : Runs code b) (fits : Fits b) where
  module _ (q : ℕ) (i : Ins) (ks : Kinds) (reached : Reached b b.size q i ks) where
    abbrev Eff : Effect
    Eff = effect b.links i.instr

    abbrev Low : Kinds
    Low = below Eff ks

    abbrev Lows : List Kind
    Lows = reverse Low

    -- slots below those that are taken
    abbrev Base : Slots V → Type 0
    Base ss = Stack b q Lows ss

    shallow : (row : Handler) → Contains i.rows row → row.depth ≤ spared Eff ks
    shallow row c = leb-true row.depth (spared Eff ks) (within b fits q i ks reached row c)

    base_size : (ss : Slots V) → Base ss → length ss ≡ spared Eff ks
    base_size ss st = size_of b q Low ss st ∙ length_below Eff ks

    base_cuts : (ss : Slots V) → Base ss → Cuts b q i ks ss
    base_cuts ss st row c = subst (λ ls. Stack b q (reverse ls) (landing.cut row.depth ss)) (take_take row.depth (spared Eff ks) ks (shallow row c)) (cut_stack b q row.depth Low ss st)

    -- also under a slot more
    over_cuts : (s : Slot V) (ss : Slots V) → Base ss → Cuts b q i ks (s ∷ ss)
    over_cuts s ss st row c = subst (λ n. Stack b q (reverse (F.cut row ks)) (drop n (s ∷ ss))) fewer (base_cuts ss st row c)
      where
        fewer : suc (length ss - row.depth) ≡ suc (length ss) - row.depth
        fewer = let l = shallow row c in let m = base_size ss st in omega (arith, l, m)

    -- slots of a way on: what is given, above those that lie below
    placed : (r : ℕ) (given : Kinds) (k : ℕ) → Way b q r (Low ++ given) k → spared Eff ks ≤ k → (top : Slots V) → map kind_of top ≡ reverse given → AreFree b top → (ss : Slots V)
        → Base ss → At b r (top ++ ss)
    placed r given k w l top e f ss st = record {
      kinds = Low ++ given;
      gets = w.gets;
      stack = record {
        kinds = map-append kind_of top ss ∙ (ap (λ xs. xs ++ map kind_of ss) e ∙ (ap (λ xs. reverse given ++ xs) st.kinds ∙ sym (reverse-append Low given)));
        holds = above b r top ss f (all_kept b q r k ss w.goes (subst (λ n. n ≤ k) (sym (base_size ss st)) l) st.holds);
      };
    }

    kind_held : (always : Bool) (a : Abrupt V) → always ≡ true → kind_of (landing.held_by always a) ≡ kind.Pending
    kind_held true a e = refl
    kind_held false a e = absurd (false≢true e)

    -- what a row takes lies above the lowest slots
    landed : (row : Handler) → Contains i.rows row → (s : Slot V) → kind_of s ≡ F.held_by row → MayHold b row.target.0 row.depth s
        → (ss : Slots V) → Stack b q (reverse (F.cut row ks)) ss → At b row.target.0 (s ∷ ss)
    landed row c s e h ss st = record {
      kinds = F.cut row ks ++ F.held_by row ∷ [];
      gets = (at_handler b fits q i ks reached row c).gets;
      stack = record {
        kinds = ap (λ k. k ∷ map kind_of ss) e ∙ (ap (λ xs. F.held_by row ∷ xs) st.kinds ∙ sym (reverse-append (F.cut row ks) (F.held_by row ∷ [])));
        holds = (
          subst (λ d. MayHold b row.target.0 d s) (sym counted) h,
          all_kept b q row.target.0 row.depth ss (at_handler b fits q i ks reached row c).goes (let m = counted in omega (arith, m)) st.holds,
        );
      };
    }
      where
        counted : length ss ≡ row.depth
        counted = size_of b q (F.cut row ks) ss st ∙ length-take-le row.depth ks (let l = shallow row c in let h : row.depth ≤ length ks = omega (arith, l) in h)

    except_holds : (row : Handler) (v : V) → kind_of (landing.held_by row.always (raise v)) ≡ F.held_by row
    except_holds row v = by_kind row.always
      where
        by_kind : (always : Bool) → kind_of (landing.held_by always (raise v)) ≡ (if always then kind.Pending else kind.Exc)
        by_kind true = refl
        by_kind false = refl

    except_free : (row : Handler) (v : V) → IsFree b (landing.held_by row.always (raise v))
    except_free row v = by_kind row.always
      where
        by_kind : (always : Bool) → IsFree b (landing.held_by always (raise v))
        by_kind true = tt
        by_kind false = tt

    always_holds : (row : Handler) (a : Abrupt V) → row.always ≡ true → kind_of (landing.held_by row.always a) ≡ F.held_by row
    always_holds row a f = kind_held row.always a f ∙ ap (λ t. if t then kind.Pending else kind.Exc) (sym f)

    by_test : (t : Bool) (s u : State V) → (t ≡ true → Sound b s) → (t ≡ false → Sound b u) → Sound b (if t then s else u)
    by_test true s u f g = f refl
    by_test false s u f g = g refl

    -- a raise and a return land soundly
    raise_lands : (ss : Slots V) → Cuts b q i ks ss → (v : V) (rows : List Handler) → ((row : Handler) → Contains rows row → Contains i.rows row) → Sound b (land code rows (raise v) ss)
    raise_lands ss cuts v [] f = tt
    raise_lands ss cuts v (row ∷ rows) f = landed row (f row (first row rows)) (landing.held_by row.always (raise v)) (except_holds row v)
        (free_holds b row.target.0 row.depth (landing.held_by row.always (raise v)) (except_free row v)) (landing.cut row.depth ss) (cuts row (f row (first row rows)))

    return_free : (row : Handler) (v : V) → IsFree b (landing.held_by row.always (return v))
    return_free row v = by_kind row.always
      where
        by_kind : (always : Bool) → IsFree b (landing.held_by always (return v))
        by_kind true = tt
        by_kind false = tt

    return_lands : (ss : Slots V) → Cuts b q i ks ss → (v : V) (rows : List Handler) → ((row : Handler) → Contains rows row → Contains i.rows row) → Sound b (land code rows (return v) ss)
    return_lands ss cuts v [] f = tt
    return_lands ss cuts v (row ∷ rows) f = by_test row.always _ _
        (λ t. landed row (f row (first row rows)) (landing.held_by row.always (return v)) (always_holds row (return v) t)
        (free_holds b row.target.0 row.depth (landing.held_by row.always (return v)) (return_free row v)) (landing.cut row.depth ss) (cuts row (f row (first row rows))))
        (λ t. return_lands ss cuts v rows (λ r c. f r (later row rows r c)))

    -- of rows the first that takes a jump, or none
    module _ (t : ℕ) (ss : Slots V) where
      abbrev Taken : List Handler → Type 0
      Taken rows = (row : Handler) → taker rows t ≡ Some row → At b row.target.0 (landing.held_by row.always (jump_to t) ∷ landing.cut row.depth ss)

      abbrev Untaken : List Handler → Type 0
      Untaken rows = taker rows t ≡ None → Sound b (landing.leaves code (jump_to t) ss)

      by_rows : (rows : List Handler) → Taken rows → Untaken rows → Sound b (land code rows (jump_to t) ss)
      by_rows [] f g = g refl
      by_rows (row ∷ rows) f g = at_head (takes_leave t row) (λ r e. f r e) (λ e. g e) (λ f g. by_rows rows f g)
        where
          at_head : (x : Bool) → ((r : Handler) → cond x (Some row) (taker rows t) ≡ Some r → At b r.target.0 (landing.held_by r.always (jump_to t) ∷ landing.cut r.depth ss))
              → (cond x (Some row) (taker rows t) ≡ None → Sound b (landing.leaves code (jump_to t) ss))
              → (((r : Handler) → taker rows t ≡ Some r → At b r.target.0 (landing.held_by r.always (jump_to t) ∷ landing.cut r.depth ss))
              → (taker rows t ≡ None → Sound b (landing.leaves code (jump_to t) ss)) → Sound b (land code rows (jump_to t) ss))
              → Sound b (if x then on row.target.0 (landing.held_by row.always (jump_to t) ∷ landing.cut row.depth ss) else land code rows (jump_to t) ss)
          at_head true f g ih = f row refl
          at_head false f g ih = ih f g

    always_free : (row : Handler) (t : ℕ) → row.always ≡ true → Holds b b.size t row.target.0 row.depth → MayHold {V = V} b row.target.0 row.depth (landing.held_by row.always (jump_to t))
    always_free row t f h = subst (λ x. MayHold {V = V} b row.target.0 row.depth (landing.held_by x (jump_to t))) (sym f) h

    -- a jump that goes on with these slots lands soundly
    jump_lands : (t : ℕ) (low : Kinds) (ss : Slots V) → Departs b b.size t q i.rows low → Cuts b q i ks ss → Stack b q (reverse low) ss → Sound b (land code i.rows (jump_to t) ss)
    jump_lands t low ss dep cuts st = by_rows t ss i.rows is_taken (λ n. arrived (departs_arrive b fits dep))
      where
        is_taken : (row : Handler) → taker i.rows t ≡ Some row → At b row.target.0 (landing.held_by row.always (jump_to t) ∷ landing.cut row.depth ss)
        is_taken row e = let (c, f) = found_contained (takes_leave t) i.rows row e in
            let a = (both row.always _ f).0 in
            landed row c (landing.held_by row.always (jump_to t)) (always_holds row (jump_to t) a) (always_free row t a (L.caught dep row e)) (landing.cut row.depth ss) (cuts row c)

        arrived : Arrives b t → At b t (landing.cut (code.depth_at t) ss)
        arrived a = let (l, p) = target_fits b fits (L.free dep) a.gets in
            let s = subst (λ xs. Stack b q (reverse xs) (landing.cut (length a.kinds) ss)) (prefix_taken a.kinds low p) (cut_stack b q (length a.kinds) low ss st) in
            let m = size_of b q a.kinds (landing.cut (length a.kinds) ss) s in
            subst (λ d. At b t (landing.cut d ss)) (sym (runs.depth_at t a.kinds a.gets))
            (record { kinds = a.kinds; gets = a.gets; stack = record { kinds = s.kinds; holds = all_kept b q t _ (landing.cut (length a.kinds) ss) (L.by_leave dep a.gets) (omega (arith, l, m)) s.holds } })

    -- what holds of the instruction, as it is known
    record Facts (j : Instr) : Type 0 where
      is : i.instr ≡ j
      no_swap : (effect b.links j).swaps ≡ false → swaps_iterator Eff ks ≡ false
      top : swaps_iterator Eff ks ≡ false → reverse ks ≡ reverse (effect b.links j).takes ++ Lows
      onward : swaps_iterator Eff ks ≡ false → (given : Kinds) → (effect b.links j).gives ≡ Some given
          → Way b q i.next (Low ++ given) (spared Eff ks + min (effect b.links j).keeps (length given))
      top_swapped : swaps_iterator Eff ks ≡ true → reverse ks ≡ kind.Value ∷ kind.Iter ∷ Lows
      onward_swapped : swaps_iterator Eff ks ≡ true → (given : Kinds) → (effect b.links j).gives ≡ Some given
          → Way b q i.next (Low ++ kind.Value ∷ kind.Iter ∷ []) (spared Eff ks + min (effect b.links j).keeps 2)
      aside : (t : ℕ) (given : Kinds) → target_of j ≡ Some t → (effect b.links j).aside ≡ Some given
          → Way b q t (Low ++ given) (spared Eff ks + min (effect b.links j).keeps (length given))
      again : (effect b.links j).again ≡ true → Way b q q ks (length ks)
      reads : has_value (effect b.links j).above Low ≡ true

    on_top : (ts : Kinds) → taken Eff ks ≡ ts → reverse ks ≡ reverse ts ++ Lows
    on_top ts e = ap reverse (sym (take-append-drop (spared Eff ks) ks)) ∙ (reverse-append Low (taken Eff ks) ∙ ap (λ us. reverse us ++ Lows) e)

    facts : Facts i.instr
    facts = let f = both (are_kinds (taken Eff ks) Eff.takes || swaps_iterator Eff ks) (has_value Eff.above Low) (found b fits q i ks reached) in record {
      is = refl;
      no_swap = no_swap Eff ks;
      top = λ n. split Eff ks (either (are_kinds (taken Eff ks) Eff.takes) (swaps_iterator Eff ks) f.0 n);
      onward = λ n given e. subst (λ gs. Way b q i.next (Low ++ gs) (spared Eff ks + min Eff.keeps (length gs)))
          (given_found i.instr (captured b.links i.instr) ks given
          (same_kinds (taken Eff ks) Eff.takes (either (are_kinds (taken Eff ks) Eff.takes) (swaps_iterator Eff ks) f.0 n)) e)
          (behind b fits q i ks reached given e);
      top_swapped = λ y. on_top (kind.Iter ∷ kind.Value ∷ []) (same_kinds (taken Eff ks) _ (both Eff.swaps _ y).1);
      onward_swapped = λ y given e. subst (λ gs. Way b q i.next (Low ++ gs) (spared Eff ks + min Eff.keeps (length gs)))
          (given_lifted Eff ks given (both Eff.swaps _ y).0 (same_kinds (taken Eff ks) _ (both Eff.swaps _ y).1)) (behind b fits q i ks reached given e);
      aside = λ t given e f. at_target b fits q i ks reached t given e f;
      again = λ e. stays b fits q i ks reached e;
      reads = f.1;
    }

    more : (k : ℕ) → spared Eff ks ≤ spared Eff ks + k
    more k = omega arith

    tops : {j : Instr} → Facts j → (effect b.links j).swaps ≡ false → (ss : Slots V) → Stack b q (reverse ks) ss → Stack b q (reverse (effect b.links j).takes ++ Lows) ss
    tops fs n ss st = record { kinds = st.kinds ∙ fs.top (fs.no_swap n); holds = st.holds }

    next_with : {j : Instr} → Facts j → (effect b.links j).swaps ≡ false → (given : Kinds) → (effect b.links j).gives ≡ Some given
        → (top : Slots V) → map kind_of top ≡ reverse given → AreFree b top → (ss : Slots V) → Base ss → At b i.next (top ++ ss)
    next_with fs n given g top e f ss st = placed i.next given _ (fs.onward (fs.no_swap n) given g) (more _) top e f ss st

    aside_with : {j : Instr} → Facts j → (t : ℕ) → target_of j ≡ Some t → (given : Kinds) → (effect b.links j).aside ≡ Some given
        → (top : Slots V) → map kind_of top ≡ reverse given → AreFree b top → (ss : Slots V) → Base ss → At b t (top ++ ss)
    aside_with fs t is given g top e f ss st = placed t given _ (fs.aside t given is g) (more _) top e f ss st

    all_rows : (row : Handler) → Contains i.rows row → Contains i.rows row
    all_rows row c = c

    asks_ok : (ss : Slots V) → Cuts b q i ks ss → (a : Ask V) (next : Answer V a → State V) → ((x : Answer V a) → Sound b (next x)) → GoesOn b (asks code i a ss next)
    asks_ok ss cuts a next f = λ r. replied r
      where
        replied : (r : Reply V (Answer V a)) → Sound b (after code i ss next r)
        replied (got x) = f x
        replied (raised v) = raise_lands ss cuts v i.rows all_rows

    unmarked_ok : (m : Option ActMark) (s : State V) (t : Turn (State V) V) → Sound b s → GoesOn b t → GoesOn b (unmarked m s t)
    unmarked_ok None s t f g = f
    unmarked_ok (Some m) s t f g = g

    goes_ok : (s : State V) (ss : Slots V) → Cuts b q i ks ss → Sound b s → GoesOn b (goes code i s ss)
    goes_ok s ss cuts f = unmarked_ok i.mark s _ f (asks_ok ss cuts (T.deed T.nothing) (λ u. s) (λ u. f))

    leaves_ok : (a : T.Leave V) (ab : Abrupt V) (ss : Slots V) → Cuts b q i ks ss → Sound b (land code i.rows ab ss) → GoesOn b (leaves code i a ab ss)
    leaves_ok a ab ss cuts f = unmarked_ok i.mark _ _ f (asks_ok ss cuts (T.leave a) (λ u. land code i.rows ab ss) (λ u. f))

    gives_ok : {j : Instr} → Facts j → (effect b.links j).swaps ≡ false → (effect b.links j).gives ≡ Some (kind.Value ∷ []) → (a : Seek V) (ss : Slots V) → Base ss
        → GoesOn b (gives code i a ss)
    gives_ok fs n g a ss st = asks_ok ss (base_cuts ss st) (T.seek a) (λ v. on i.next (value v ∷ ss)) (λ v. next_with fs n (kind.Value ∷ []) g (value v ∷ []) refl (tt, tt) ss st)

    does_ok : {j : Instr} → Facts j → (effect b.links j).swaps ≡ false → (effect b.links j).gives ≡ Some [] → (d : Deed V) (ss : Slots V) → Base ss → GoesOn b (does code i d ss)
    does_ok fs n g d ss st = asks_ok ss (base_cuts ss st) (T.deed d) (λ u. on i.next ss) (λ u. next_with fs n [] g [] refl tt ss st)

    throws_ok : (t : Throw V) (ss : Slots V) → Base ss → GoesOn b (throws code i t ss)
    throws_ok t ss st = asks_ok ss (base_cuts ss st) (T.throw t) (λ x. elim x [ ]) (λ x. absurd x)

    known_ok : {j : Instr} → Facts j → (effect b.links j).swaps ≡ false → (effect b.links j).gives ≡ Some (kind.Value ∷ []) → (k : Constant) (o : Option V) (ss : Slots V) → Base ss
        → GoesOn b (gives_known code i k o ss)
    known_ok fs n g k None ss st = gives_ok fs n g (T.const k) ss st
    known_ok fs n g k (Some v) ss st = unmarked_ok i.mark _ _ (next_with fs n (kind.Value ∷ []) g (value v ∷ []) refl (tt, tt) ss st) (gives_ok fs n g (T.const k) ss st)

    branches_ok : (o : Option Bool) (on_true on_false : V → Slots V → State V) (v : V) (ss : Slots V) → Cuts b q i ks ss → Sound b (on_true v ss) → Sound b (on_false v ss)
        → GoesOn b (branches code i o on_true on_false v ss)
    branches_ok o on_true on_false v ss cuts f g = by_truth o
      where
        either_way : (t : Bool) → Sound b (decided code t on_true on_false v ss)
        either_way true = f
        either_way false = g

        asked : GoesOn b (asks code i (T.test (T.branch v)) ss (λ t. decided code t on_true on_false v ss))
        asked = asks_ok ss cuts (T.test (T.branch v)) (λ t. decided code t on_true on_false v ss) (λ t. either_way t)

        by_truth : (o : Option Bool) → GoesOn b (branches code i o on_true on_false v ss)
        by_truth None = asked
        by_truth (Some true) = unmarked_ok i.mark _ _ f asked
        by_truth (Some false) = unmarked_ok i.mark _ _ g asked

    operates_ok : {j : Instr} → Facts j → (effect b.links j).swaps ≡ false → (effect b.links j).gives ≡ Some (kind.Value ∷ []) → (op : T.Operation) (n : ℕ) (ss : Slots V)
        → Stack b q (replicate n kind.Value ++ Lows) ss → GoesOn b (operates code q i op n ss)
    operates_ok fs n g op m ss st = if_values b q m Lows [] ss _ st (λ vs low st. gives_ok fs n g (T.operate op vs) low st)

    rising : {j : Instr} → Facts j → (ss : Slots V) → Base ss → Rising b i.rows ss
    rising fs ss st = record { pc = q; ins = i; kinds = ks; reached = reached; under = refl; stack = st }

    turned : (n : ℕ) (ss : Slots V) → Stack b q (reverse (replicate n kind.Value) ++ Lows) ss → Stack b q (replicate n kind.Value ++ Lows) ss
    turned n ss st = record { kinds = st.kinds ∙ ap (λ xs. xs ++ Lows) (reverse_replicate n kind.Value); holds = st.holds }

    -- one value is taken and nothing is given, whatever is done
    stores : {j : Instr} → Facts j → (effect b.links j).swaps ≡ false → (effect b.links j).gives ≡ Some [] → (d : V → Deed V) (ss : Slots V) → Stack b q (kind.Value ∷ Lows) ss
        → GoesOn b (one ss (λ v low. does code i (d v) low))
    stores fs n g d ss st = if_one b q Lows ss _ st (λ v low st. does_ok fs n g (d v) low st)

    stores_two : {j : Instr} → Facts j → (effect b.links j).swaps ≡ false → (effect b.links j).gives ≡ Some [] → (d : V → V → Deed V) (ss : Slots V)
        → Stack b q (kind.Value ∷ kind.Value ∷ Lows) ss → GoesOn b (two ss (λ u v low. does code i (d u v) low))
    stores_two fs n g d ss st = if_two b q Lows ss _ st (λ u v low st. does_ok fs n g (d u v) low st)

    adds : {j : Instr} → Facts j → (effect b.links j).swaps ≡ false → (effect b.links j).gives ≡ Some [] → (m : ℕ) → (effect b.links j).above ≡ Some m → (d : V → V → Deed V) (ss : Slots V)
        → Stack b q (kind.Value ∷ Lows) ss → GoesOn b (one ss (λ v low. the_value m low (λ made. does code i (d v made) low)))
    adds fs n g m a d ss st = if_one b q Lows ss _ st
        (λ v low st. if_value_below b q m Low low _ (subst (λ o. has_value o Low ≡ true) a fs.reads) st (λ made. does_ok fs n g (d v made) low st))

    adds_entry : {j : Instr} → Facts j → (effect b.links j).swaps ≡ false → (effect b.links j).gives ≡ Some [] → (m : ℕ) → (effect b.links j).above ≡ Some m → (d : V → V → V → Deed V)
        (ss : Slots V) → Stack b q (kind.Value ∷ kind.Value ∷ Lows) ss → GoesOn b (two ss (λ u v low. the_value m low (λ made. does code i (d u v made) low)))
    adds_entry fs n g m a d ss st = if_two b q Lows ss _ st
        (λ u v low st. if_value_below b q m Low low _ (subst (λ o. has_value o Low ≡ true) a fs.reads) st (λ made. does_ok fs n g (d u v made) low st))

    given_values : {j : Instr} → Facts j → (effect b.links j).swaps ≡ false → (n : ℕ) (given : Kinds) → (effect b.links j).gives ≡ Some given → reverse given ≡ replicate n kind.Value
        → (vs : Row V n) (low : Slots V) → Base low → At b i.next (giving n vs low)
    given_values fs s n given g r vs low st = subst (At b i.next) (giving_above n vs low)
        (next_with fs s given g (giving n vs []) (giving_kinds n vs _ refl ∙ sym r) (free_giving b n vs _ refl) low st)

    tests : {j : Instr} → Facts j → (effect b.links j).swaps ≡ false → (on_true on_false : V → Slots V → State V) (ss : Slots V) → Stack b q (kind.Value ∷ Lows) ss
        → ((v : V) (low : Slots V) → Base low → Sound b (on_true v low)) → ((v : V) (low : Slots V) → Base low → Sound b (on_false v low)) → GoesOn b (jumps code q i on_true on_false ss)
    tests fs n on_true on_false ss st f g = if_one b q Lows ss _ st
        (λ v low st. branches_ok (code.is_truth v) on_true on_false v low (base_cuts low st) (f v low st) (g v low st))

    -- the slots with which an act delegates stand there again
    delegated_ok : {j : Instr} → Facts j → j ≡ instr.Delegate → (sent : Reply V V) (it u : V) (low : Slots V) → Base low → (effect b.links j).swaps ≡ false
        → (effect b.links j).gives ≡ Some (kind.Value ∷ []) → (effect b.links j).again ≡ true → reverse (effect b.links j).takes ≡ kind.Value ∷ kind.Iter ∷ []
        → GoesOn b (delegates code q i sent it u low)
    delegated_ok fs is sent it u low st n g a ts = asks_ok low (base_cuts low st) (T.delegate it sent) (delegated code q i it u low) (λ d. answered d)
      where
        back : (v : V) → At b q (value v ∷ iterator it ∷ low)
        back v = record {
          kinds = ks;
          gets = (fs.again a).gets;
          stack = record {
            kinds = ap (λ xs. kind.Value ∷ kind.Iter ∷ xs) st.kinds ∙ sym (fs.top (fs.no_swap n) ∙ ap (λ xs. xs ++ Lows) ts);
            holds = (tt, (tt, st.holds));
          };
        }

        answered : (d : Delegated V) → Sound b (delegated code q i it u low d)
        answered (T.returned v) = next_with fs n (kind.Value ∷ []) g (value v ∷ []) refl (tt, tt) low st
        answered (T.resumed (got v)) = back v
        answered (T.resumed (raised x)) = record { here = back u; ins = i; stands = reached.stands; delegates = fs.is ∙ is }

    -- the cells that a block takes along
    captures_top : (n : ℕ) (ks : List Kind) (ss : Slots V) → Stack b q (reverse (ks ++ replicate (b.links.captures n) kind.Cell) ++ Lows) ss
        → Stack b q (replicate (code.pool.captures n) kind.Cell ++ (reverse ks ++ Lows)) ss
    captures_top n ks ss st = subst (λ m. Stack b q (replicate m kind.Cell ++ (reverse ks ++ Lows)) ss) (sym (runs.captures n))
        (record { kinds = st.kinds ∙ (ap (λ xs. xs ++ Lows) (reverse-append ks cells) ∙ (append_assoc (reverse cells) (reverse ks) Lows ∙ ap (λ xs. xs ++ (reverse ks ++ Lows)) (reverse_replicate (b.links.captures n) kind.Cell))); holds = st.holds })
      where
        cells : List Kind
        cells = replicate (b.links.captures n) kind.Cell

    by_swap : Facts instr.Swap → (ss : Slots V) → Stack b q (reverse ks) ss → GoesOn b (perform code q i instr.Swap ss)
    unfolding effect_of
    by_swap fs ss st = by_kinds (swaps_iterator Eff ks) refl
      where
        by_kinds : (t : Bool) → swaps_iterator Eff ks ≡ t → GoesOn b (perform code q i instr.Swap ss)
        by_kinds false n = if_one b q (kind.Value ∷ Lows) ss _ (record { kinds = st.kinds ∙ fs.top n; holds = st.holds })
            (λ v under st. if_movable_value b q Lows under _ st
            (λ u low st. goes_ok (on i.next (value u ∷ value v ∷ low)) low (base_cuts low st)
            (placed i.next (kind.Value ∷ kind.Value ∷ []) _ (fs.onward n _ refl) (more _) (value u ∷ value v ∷ []) refl (tt, (tt, tt)) low st)))
        by_kinds true y = if_one b q (kind.Iter ∷ Lows) ss _ (record { kinds = st.kinds ∙ fs.top_swapped y; holds = st.holds })
            (λ v under st. if_movable_iterator b q Lows under _ st
            (λ u low st. goes_ok (on i.next (iterator u ∷ value v ∷ low)) low (base_cuts low st)
            (placed i.next (kind.Value ∷ kind.Iter ∷ []) _ (fs.onward_swapped y _ refl) (more _) (iterator u ∷ value v ∷ []) refl (tt, (tt, tt)) low st)))

    exited_holds : i.instr ≡ instr.Exit → (low : Slots V) → length ks ≡ suc (suc (length low)) → (t : ℕ) → Holds b b.size t q (suc (length low)) → Holds b b.size t i.next (length low)
    exited_holds is low n t h = subst (Holds b b.size t i.next) (let e : length ks - 2 ≡ length low = omega (arith, n) in e)
        (L.exited reached is (subst (Holds b b.size t q) (let e : suc (length low) ≡ length ks - 1 = omega (arith, n) in e) h))

    -- the exit of a `with` makes its slot anew, which may hold what the slot held that it takes
    exit_holds : i.instr ≡ instr.Exit → (low : Slots V) → length ks ≡ suc (suc (length low)) → (c : Completion V) (t : Bool) → MayHold b q (suc (length low)) (pending c)
        → MayHold {V = V} b i.next (length low) (pending (left_of t c))
    exit_holds is low n normal true h = tt
    exit_holds is low n normal false h = tt
    exit_holds is low n (by (raise v)) true h = tt
    exit_holds is low n (by (raise v)) false h = tt
    exit_holds is low n (by (return v)) true h = tt
    exit_holds is low n (by (return v)) false h = tt
    exit_holds is low n (by (jump_to t)) true h = exited_holds is low n t h
    exit_holds is low n (by (jump_to t)) false h = exited_holds is low n t h

    lets_go_ok : (fs : Facts instr.EndFinally) (c : Completion V) (low : Slots V) → MayHold b q (length low) (pending c) → length ks ≡ suc (length low)
        → Stack b q (reverse (take (length ks - 1) ks)) low → Base low → GoesOn b (lets_go code i c low)
    unfolding effect_of
    lets_go_ok fs normal low h n st base = goes_ok (on i.next low) low (base_cuts low base) (next_with fs refl [] refl [] refl tt low base)
    lets_go_ok fs (by (raise v)) low h n st base = goes_ok (reraises v i.rows low) low (base_cuts low base) (rising fs low base)
    lets_go_ok fs (by (return v)) low h n st base = goes_ok (land code i.rows (return v) low) low (base_cuts low base) (return_lands low (base_cuts low base) v i.rows all_rows)
    lets_go_ok fs (by (jump_to t)) low h n st base = goes_ok (land code i.rows (jump_to t) low) low (base_cuts low base)
        (jump_lands t (take (length ks - 1) ks) low (L.let_go reached fs.is (subst (Holds b b.size t q) (let e : length low ≡ length ks - 1 = omega (arith, n) in e) h)) (base_cuts low base) st)

    by_caught : Facts instr.Caught → (ss : Slots V) → Stack b q (reverse ks) ss → GoesOn b (perform code q i instr.Caught ss)
    unfolding effect_of
    by_caught fs ss st = if_exception b q Lows ss _ (tops fs refl ss st)
        (λ x low e base. goes_ok (on i.next (value x ∷ ss)) ss (subst (Cuts b q i ks) (sym e) (over_cuts (exception x) low base))
        (subst (λ ss. At b i.next (value x ∷ ss)) (sym e) (next_with fs refl (kind.Exc ∷ kind.Value ∷ []) refl (value x ∷ exception x ∷ []) refl (tt, (tt, tt)) low base)))

    by_import : {t : TextNo} → Facts (instr.ImportName t) → (ss : Slots V) → Stack b q (reverse ks) ss → GoesOn b (perform code q i (instr.ImportName t) ss)
    unfolding effect_of
    by_import {t = t} fs [] st = absurd (head_of b q kind.Value _ [] (tops fs refl [] st))
    by_import {t = t} fs (value m ∷ low) st = let base = under b q Lows kind.Value (value m) low (tops fs refl (value m ∷ low) st) in
        asks_ok (value m ∷ low) (over_cuts (value m) low base) (T.seek (T.operate (T.import_name (code.pool.text t.0)) (m ∷ []))) (λ v. on i.next (value v ∷ value m ∷ low))
        (λ v. next_with fs refl (kind.Value ∷ kind.Value ∷ []) refl (value v ∷ value m ∷ []) refl (tt, (tt, tt)) low base)
    by_import {t = t} fs (s ∷ low) st = absurd (false≢true (head_of b q kind.Value _ (s ∷ low) (tops fs refl (s ∷ low) st)))

    around : (n m : ℕ) → reverse (replicate m kind.Value ++ (kind.Value ∷ replicate n kind.Value)) ≡ replicate (n + 1 + m) kind.Value
    around n m = ap reverse (replicate-append-replicate m (suc n) kind.Value) ∙ (reverse_replicate (m + suc n) kind.Value ∙ ap (λ k. replicate k kind.Value) counted)
      where
        counted : m + suc n ≡ n + 1 + m
        counted = omega arith

    by_next : {t : Pc} → Facts (instr.Next t) → (it : V) (low : Slots V) → Base low → (o : Option V) → Sound b (with_item code i t.0 it low o)
    unfolding effect_of
    by_next fs it low st (Some v) = next_with fs refl (kind.Iter ∷ kind.Value ∷ []) refl (value v ∷ iterator it ∷ []) refl (tt, (tt, tt)) low st
    by_next fs it low st None = aside_with fs _ refl [] refl [] refl tt low st

    by_exit : Facts instr.Exit → (low : Slots V) → length ks ≡ suc (suc (length low)) → (c : Completion V) (t : Bool) → MayHold b q (suc (length low)) (pending c) → Base low
        → At b i.next (pending (left_of t c) ∷ low)
    unfolding effect_of
    by_exit fs low n c t h base = let w = next_with fs refl (kind.Pending ∷ []) refl (pending normal ∷ []) refl (tt, tt) low base in
        record { kinds = w.kinds; gets = w.gets; stack = record { kinds = w.stack.kinds; holds = (exit_holds fs.is low n c t h, w.stack.holds.1) } }

    by_end : Facts instr.EndFinally → (low : Slots V) (c : Completion V) → length ks ≡ suc (length low) → MayHold b q (length low) (pending c) → Base low → GoesOn b (lets_go code i c low)
    by_end fs low c n h base = lets_go_ok fs c low h n
        (subst (λ k. Stack b q (reverse (take k ks)) low) (let m = base_size low base in let e : spared Eff ks ≡ length ks - 1 = omega (arith, n, m) in e) base) base

    by_instruction : (j : Instr) → Facts j → (ss : Slots V) → Stack b q (reverse ks) ss → GoesOn b (perform code q i j ss)
    unfolding effect_of
    by_instruction instr.Nop fs ss st = goes_ok (on i.next ss) ss (base_cuts ss (tops fs refl ss st)) (next_with fs refl [] refl [] refl tt ss (tops fs refl ss st))
    by_instruction (instr.Const k) fs ss st = known_ok fs refl refl (code.pool.constant k.0) _ ss (tops fs refl ss st)
    by_instruction (instr.Local x) fs ss st = gives_ok fs refl refl (T.load (local (code.pool.local x.0))) ss (tops fs refl ss st)
    by_instruction (instr.SetLocal x) fs ss st = stores fs refl refl (λ v. T.store (local (code.pool.local x.0)) v) ss (tops fs refl ss st)
    by_instruction (instr.DelLocal x) fs ss st = does_ok fs refl refl (T.delete (local (code.pool.local x.0))) ss (tops fs refl ss st)
    by_instruction (instr.Cell x) fs ss st = gives_ok fs refl refl (T.load (code.pool.cell x.0)) ss (tops fs refl ss st)
    by_instruction (instr.SetCell x) fs ss st = stores fs refl refl (λ v. T.store (code.pool.cell x.0) v) ss (tops fs refl ss st)
    by_instruction (instr.DelCell x) fs ss st = does_ok fs refl refl (T.delete (code.pool.cell x.0)) ss (tops fs refl ss st)
    by_instruction (instr.Global x) fs ss st = gives_ok fs refl refl (T.load (global (code.pool.text x.0))) ss (tops fs refl ss st)
    by_instruction (instr.SetGlobal x) fs ss st = stores fs refl refl (λ v. T.store (global (code.pool.text x.0)) v) ss (tops fs refl ss st)
    by_instruction (instr.DelGlobal x) fs ss st = does_ok fs refl refl (T.delete (global (code.pool.text x.0))) ss (tops fs refl ss st)
    by_instruction (instr.Name x) fs ss st = gives_ok fs refl refl (T.load (named code.pool.name_scope (code.pool.text x.0))) ss (tops fs refl ss st)
    by_instruction (instr.SetName x) fs ss st = stores fs refl refl (λ v. T.store (named code.pool.name_scope (code.pool.text x.0)) v) ss (tops fs refl ss st)
    by_instruction (instr.DelName x) fs ss st = does_ok fs refl refl (T.delete (named code.pool.name_scope (code.pool.text x.0))) ss (tops fs refl ss st)
    by_instruction (instr.FreshLocal x) fs ss st = does_ok fs refl refl (T.fresh (local (code.pool.local x.0))) ss (tops fs refl ss st)
    by_instruction (instr.FreshCell x) fs ss st = does_ok fs refl refl (T.fresh (code.pool.cell x.0)) ss (tops fs refl ss st)
    by_instruction (instr.PushCell x) fs ss st = asks_ok ss (base_cuts ss (tops fs refl ss st)) (T.seek (T.cell_of (code.pool.cell x.0))) (λ v. on i.next (cell v ∷ ss))
        (λ v. next_with fs refl (kind.Cell ∷ []) refl (cell v ∷ []) refl (tt, tt) ss (tops fs refl ss st))
    by_instruction instr.Pop fs ss st = if_one b q Lows ss _ (tops fs refl ss st)
        (λ v low st. unmarked_ok i.mark _ _ (next_with fs refl [] refl [] refl tt low st) (does_ok fs refl refl (T.discard v) low st))
    by_instruction instr.Copy fs ss st = if_one b q Lows ss _ (tops fs refl ss st) (λ v low st. goes_ok (on i.next (value v ∷ value v ∷ low)) low (base_cuts low st)
        (next_with fs refl (kind.Value ∷ kind.Value ∷ []) refl (value v ∷ value v ∷ []) refl (tt, (tt, tt)) low st))
    by_instruction instr.Copy2 fs ss st = if_two b q Lows ss _ (tops fs refl ss st) (λ u v low st. goes_ok (on i.next (value v ∷ value u ∷ value v ∷ value u ∷ low)) low (base_cuts low st)
        (next_with fs refl (kind.Value ∷ kind.Value ∷ kind.Value ∷ kind.Value ∷ []) refl (value v ∷ value u ∷ value v ∷ value u ∷ []) refl (tt, (tt, (tt, (tt, tt)))) low st))
    by_instruction instr.Swap fs ss st = by_swap fs ss st
    by_instruction instr.Rot3 fs ss st = if_three b q Lows ss _ (tops fs refl ss st) (λ u v w low st. goes_ok (on i.next (value v ∷ value u ∷ value w ∷ low)) low (base_cuts low st)
        (next_with fs refl (kind.Value ∷ kind.Value ∷ kind.Value ∷ []) refl (value v ∷ value u ∷ value w ∷ []) refl (tt, (tt, (tt, tt))) low st))
    by_instruction (instr.Attr t) fs ss st = operates_ok fs refl refl (T.get (code.pool.text t.0)) 1 ss (tops fs refl ss st)
    by_instruction (instr.SetAttr t) fs ss st = stores_two fs refl refl (λ v u. T.set_attribute (code.pool.text t.0) u v) ss (tops fs refl ss st)
    by_instruction (instr.DelAttr t) fs ss st = stores fs refl refl (λ u. T.delete_attribute (code.pool.text t.0) u) ss (tops fs refl ss st)
    by_instruction instr.Item fs ss st = operates_ok fs refl refl (T.item) 2 ss (tops fs refl ss st)
    by_instruction instr.SetItem fs ss st = if_three b q Lows ss _ (tops fs refl ss st) (λ v u w low st. does_ok fs refl refl (T.set_item u w v) low st)
    by_instruction instr.DelItem fs ss st = stores_two fs refl refl (λ u w. T.delete_item u w) ss (tops fs refl ss st)
    by_instruction instr.Slice fs ss st = operates_ok fs refl refl (T.slice) 3 ss (tops fs refl ss st)
    by_instruction (instr.Unary o) fs ss st = operates_ok fs refl refl (T.unary o) 1 ss (tops fs refl ss st)
    by_instruction instr.Not fs ss st = operates_ok fs refl refl (T.inverted) 1 ss (tops fs refl ss st)
    by_instruction (instr.Binary o) fs ss st = operates_ok fs refl refl (T.binary o) 2 ss (tops fs refl ss st)
    by_instruction (instr.InPlace o) fs ss st = operates_ok fs refl refl (T.in_place o) 2 ss (tops fs refl ss st)
    by_instruction (instr.Compare o) fs ss st = operates_ok fs refl refl (T.compare o) 2 ss (tops fs refl ss st)
    by_instruction (instr.Tuple n) fs ss st = operates_ok fs refl refl T.tuple n ss (turned n ss (tops fs refl ss st))
    by_instruction (instr.List n) fs ss st = operates_ok fs refl refl T.list n ss (turned n ss (tops fs refl ss st))
    by_instruction (instr.Set n) fs ss st = operates_ok fs refl refl T.set n ss (turned n ss (tops fs refl ss st))
    by_instruction (instr.Join n) fs ss st = operates_ok fs refl refl T.join n ss (turned n ss (tops fs refl ss st))
    by_instruction (instr.Dict n) fs ss st = operates_ok fs refl refl T.dict (n + n) ss
        (turned (n + n) ss (subst (λ xs. Stack b q (reverse xs ++ Lows) ss) (replicate-append-replicate n n kind.Value) (tops fs refl ss st)))
    by_instruction (instr.ListAdd n) fs ss st = adds fs refl refl n refl (λ v made. T.add_to_list made v) ss (tops fs refl ss st)
    by_instruction (instr.SetAdd n) fs ss st = adds fs refl refl n refl (λ v made. T.add_to_set made v) ss (tops fs refl ss st)
    by_instruction (instr.DictAdd n) fs ss st = adds_entry fs refl refl n refl (λ u v made. T.add_to_dict made u v) ss (tops fs refl ss st)
    by_instruction (instr.Format c) fs ss st = operates_ok fs refl refl (T.format (conversion_of c)) 2 ss (tops fs refl ss st)
    by_instruction instr.TupleJoin fs ss st = operates_ok fs refl refl (code.extras.tuple_join) 2 ss (tops fs refl ss st)
    by_instruction instr.DictMerge fs ss st = operates_ok fs refl refl (code.extras.dict_merge) 2 ss (tops fs refl ss st)
    by_instruction instr.Super fs ss st = operates_ok fs refl refl (code.extras.super) 2 ss (tops fs refl ss st)
    by_instruction (instr.Unpack n) fs ss st = if_one b q Lows ss _ (tops fs refl ss st) (λ v low st. asks_ok low (base_cuts low st) (T.unpack v n None) (λ vs. on i.next (giving n vs low))
        (λ vs. given_values fs refl n (replicate n kind.Value) refl (reverse_replicate n kind.Value) vs low st))
    by_instruction (instr.UnpackStar n m) fs ss st = if_one b q Lows ss _ (tops fs refl ss st)
        (λ v low st. asks_ok low (base_cuts low st) (T.unpack v (n + 1 + m) (Some n)) (λ vs. on i.next (giving (n + 1 + m) vs low))
        (λ vs. given_values fs refl (n + 1 + m) (replicate m kind.Value ++ (kind.Value ∷ replicate n kind.Value)) refl (around n m) vs low st))
    by_instruction instr.Spread fs ss st = operates_ok fs refl refl (T.spread_out) 1 ss (tops fs refl ss st)
    by_instruction instr.SpreadMap fs ss st = operates_ok fs refl refl (T.spread_named_out) 1 ss (tops fs refl ss st)
    by_instruction (instr.Call n) fs ss st = operates_ok fs refl refl (T.call (all_positional n)) (suc n) ss (turned (suc n) ss (tops fs refl ss st))
    by_instruction (instr.CallKw n l) fs ss st = operates_ok fs refl refl (T.call (last_named n (code.pool.texts l.0))) (suc n) ss (turned (suc n) ss (tops fs refl ss st))
    by_instruction (instr.CallSpread n l) fs ss st = operates_ok fs refl refl (T.call (map role_of (code.pool.texts l.0))) (suc n) ss (turned (suc n) ss (tops fs refl ss st))
    by_instruction (instr.MakeFunction f n l) fs ss st = if_cells b q (code.pool.captures f.0) _ [] ss _ (captures_top f.0 (replicate n kind.Value) ss (tops fs refl ss st))
        (λ cs low st. if_values b q n Lows cs low _ (turned n low st) (λ vs under st. gives_ok fs refl refl (T.operate (T.function f.0 (code.pool.texts l.0)) vs) under st))
    by_instruction (instr.MakeClass f) fs ss st = if_cells b q (code.pool.captures f.0) _ [] ss _ (captures_top f.0 (kind.Value ∷ []) ss (tops fs refl ss st))
        (λ cs low st. if_one b q Lows low _ st (λ v under st. gives_ok fs refl refl (T.operate (T.class f.0) (v ∷ cs)) under st))
    by_instruction (instr.MakeGenerator f) fs ss st = if_cells b q (code.pool.captures f.0) _ [] ss _ (captures_top f.0 (kind.Iter ∷ []) ss (tops fs refl ss st))
        (λ cs low st. if_iterator b q Lows low _ st (λ v under st. gives_ok fs refl refl (T.operate (T.generator f.0) (v ∷ cs)) under st))
    by_instruction instr.Iter fs ss st = if_one b q Lows ss _ (tops fs refl ss st) (λ v low st. asks_ok low (base_cuts low st) (T.iter_of v) (λ it. on i.next (iterator it ∷ low))
        (λ it. next_with fs refl (kind.Iter ∷ []) refl (iterator it ∷ []) refl (tt, tt) low st))
    by_instruction (instr.Next t) fs ss st = if_iterator b q Lows ss _ (tops fs refl ss st) (λ it low st. asks_ok low (base_cuts low st) (T.next_of it) (with_item code i t.0 it low) (λ o. by_next fs it low st o))
    by_instruction (instr.Jump t) fs ss st = goes_ok (on t.0 ss) ss (base_cuts ss (tops fs refl ss st)) (aside_with fs t.0 refl [] refl [] refl tt ss (tops fs refl ss st))
    by_instruction (instr.JumpIf t) fs ss st = tests fs refl (dropped t.0) (dropped i.next) ss (tops fs refl ss st)
        (λ v low st. aside_with fs t.0 refl [] refl [] refl tt low st) (λ v low st. next_with fs refl [] refl [] refl tt low st)
    by_instruction (instr.JumpUnless t) fs ss st = tests fs refl (dropped i.next) (dropped t.0) ss (tops fs refl ss st)
        (λ v low st. next_with fs refl [] refl [] refl tt low st) (λ v low st. aside_with fs t.0 refl [] refl [] refl tt low st)
    by_instruction (instr.JumpIfKeep t) fs ss st = tests fs refl (kept t.0) (dropped i.next) ss (tops fs refl ss st)
        (λ v low st. aside_with fs t.0 refl (kind.Value ∷ []) refl (value v ∷ []) refl (tt, tt) low st) (λ v low st. next_with fs refl [] refl [] refl tt low st)
    by_instruction (instr.JumpUnlessKeep t) fs ss st = tests fs refl (dropped i.next) (kept t.0) ss (tops fs refl ss st)
        (λ v low st. next_with fs refl [] refl [] refl tt low st) (λ v low st. aside_with fs t.0 refl (kind.Value ∷ []) refl (value v ∷ []) refl (tt, tt) low st)
    by_instruction instr.Return fs ss st = if_one b q Lows ss _ (tops fs refl ss st) (λ v low st. leaves_ok (T.returning v) (return v) low (base_cuts low st) (return_lands low (base_cuts low st) v i.rows all_rows))
    by_instruction instr.Yield fs ss st = if_one b q Lows ss _ (tops fs refl ss st) (λ v low st. gives_ok fs refl refl (T.yielding v) low st)
    by_instruction instr.Delegate fs ss st = if_one b q _ ss _ (tops fs refl ss st) (λ v under st. if_iterator b q Lows under _ st (λ it low st. delegated_ok fs refl (got v) it v low st refl refl refl refl))
    by_instruction instr.Raise fs ss st = if_one b q Lows ss _ (tops fs refl ss st) (λ v low st. throws_ok (T.raising v None) low st)
    by_instruction instr.RaiseFrom fs ss st = if_two b q Lows ss _ (tops fs refl ss st) (λ u v low st. throws_ok (T.raising u (Some v)) low st)
    by_instruction instr.RaiseAgain fs ss st = throws_ok T.raising_again ss (tops fs refl ss st)
    by_instruction (instr.AssertFail false) fs ss st = throws_ok (T.failing None) ss (tops fs refl ss st)
    by_instruction (instr.AssertFail true) fs ss st = if_one b q Lows ss _ (tops fs refl ss st) (λ m low st. throws_ok (T.failing (Some m)) low st)
    by_instruction (instr.Leave t) fs ss st = leaves_ok T.jumping (jump_to t.0) ss (base_cuts ss (tops fs refl ss st)) (jump_lands t.0 ks ss (L.leaves reached fs.is) (base_cuts ss (tops fs refl ss st)) st)
    by_instruction instr.Match fs ss st = if_one b q _ ss _ (tops fs refl ss st) (λ v under st. if_exception b q Lows under _ st
        (λ x low e base. asks_ok under (subst (Cuts b q i ks) (sym e) (over_cuts (exception x) low base)) (T.test (T.matches x v)) (λ t. on i.next (value (code.truth t) ∷ under))
        (λ t. subst (λ us. At b i.next (value (code.truth t) ∷ us)) (sym e)
        (next_with fs refl (kind.Exc ∷ kind.Value ∷ []) refl (value (code.truth t) ∷ exception x ∷ []) refl (tt, (tt, tt)) low base))))
    by_instruction instr.Caught fs ss st = by_caught fs ss st
    by_instruction instr.EndHandler fs ss st = if_exception b q Lows ss _ (tops fs refl ss st) (λ x low e base. goes_ok (on i.next low) low (base_cuts low base) (next_with fs refl [] refl [] refl tt low base))
    by_instruction instr.Rethrow fs ss st = if_exception b q Lows ss _ (tops fs refl ss st) (λ x low e base. goes_ok (reraises x i.rows low) low (base_cuts low base) (rising fs low base))
    by_instruction instr.Enter fs ss st = if_one b q Lows ss _ (tops fs refl ss st) (λ v low st. asks_ok low (base_cuts low st) (T.enter v) (λ p. on i.next (value p.1 ∷ exit p.0 ∷ low))
        (λ p. next_with fs refl (kind.With ∷ kind.Value ∷ []) refl (value p.1 ∷ exit p.0 ∷ []) refl (tt, (tt, tt)) low st))
    by_instruction instr.Normal fs ss st = goes_ok (on i.next (pending normal ∷ ss)) ss (base_cuts ss (tops fs refl ss st)) (next_with fs refl (kind.Pending ∷ []) refl (pending normal ∷ []) refl (tt, tt) ss (tops fs refl ss st))
    by_instruction instr.Exit fs ss st = if_completion b q _ ss _ (tops fs refl ss st) (λ v under m h st2. if_exit b q Lows under _ st2
        (λ w low n base. asks_ok low (base_cuts low base) (T.test (T.exit_of w (raise_of v))) (λ t. on i.next (pending (left_of t v) ∷ low))
        (λ t. by_exit fs low (sym (size_of b q ks ss st) ∙ (m ∙ ap suc n)) v t (subst (λ d. MayHold b q d (pending v)) n h) base)))
    by_instruction instr.EndFinally fs ss st = if_completion b q _ ss _ (tops fs refl ss st) (λ v low m h base. by_end fs low v (sym (size_of b q ks ss st) ∙ m) h base)
    by_instruction (instr.Import t) fs ss st = operates_ok fs refl refl (T.import (code.pool.text t.0)) 0 ss (tops fs refl ss st)
    by_instruction (instr.ImportName t) fs ss st = by_import fs ss st

  known : {pc : ℕ} {ks : Kinds} (i : Ins) → b.at pc ≡ Some i → Gets b b.size pc ks → Reached b b.size pc i ks
  known {pc = pc} i e g = record { gets = g; low = runs.inside pc i e; stands = e }

  at_place : (pc : ℕ) (ss : Slots V) → At b pc ss → (o : Option Ins) → code.at pc ≡ o → GoesOn b (here code pc o ss)
  at_place pc ss a o e = let (i, f) = place_of a.gets in
      subst (λ o. GoesOn b (here code pc o ss)) (sym (runs.at pc ∙ f) ∙ e)
      (by_instruction pc i a.kinds (known i f a.gets) i.instr (facts pc i a.kinds (known i f a.gets)) ss a.stack)

  sent_ok : (pc : ℕ) (i : Ins) (ks : Kinds) (reached : Reached b b.size pc i ks) → Facts pc i ks reached instr.Delegate → (v : V) (ss : Slots V) → Stack b pc (reverse ks) ss
      → GoesOn b (thrown_here code pc (Some i) v ss)
  unfolding effect_of
  sent_ok pc i ks reached fs v ss st = if_one b pc _ ss _ (tops pc i ks reached fs refl ss st)
      (λ u under st. if_iterator b pc _ under _ st (λ it low st. delegated_ok pc i ks reached fs refl (raised v) it u low st refl refl refl refl))

  at_sent : (pc : ℕ) (v : V) (ss : Slots V) → Sent b pc ss → GoesOn b (thrown_here code pc (code.at pc) v ss)
  at_sent pc v ss s = let r = known s.ins s.stands s.here.gets in
      subst (λ o. GoesOn b (thrown_here code pc o v ss)) (sym (runs.at pc ∙ s.stands))
      (sent_ok pc s.ins s.here.kinds r (subst (Facts pc s.ins s.here.kinds r) s.delegates (facts pc s.ins s.here.kinds r)) v ss s.here.stack)

  at_rising : (v : V) (rows : List Handler) (ss : Slots V) → Rising b rows ss → Sound b (land code rows (raise v) ss)
  at_rising v rows ss r = subst (λ rows. Sound b (land code rows (raise v) ss)) (sym r.under)
      (raise_lands r.pc r.ins r.kinds r.reached ss (base_cuts r.pc r.ins r.kinds r.reached ss r.stack) v r.ins.rows (λ row c. c))

  by_state : (s : State V) → Sound b s → GoesOn b (turn code s)
  by_state (on pc ss) a = at_place pc ss a (code.at pc) refl
  by_state (thrown_to pc v ss) s = at_sent pc v ss s
  by_state (reraises v rows ss) r = λ w. told w
    where
      told : (w : Reply V (Unit {0})) → Sound b (after_note code v rows ss w)
      told (got u) = at_rising v rows ss r
      told (raised u) = at_rising u rows ss r
  by_state (off e) s = tt

pub slots_fit : {V : Type 0} (code : CodeObject V) (b : Block) → SlotsFit code b
slots_fit code b runs fits s sound = by_state code b runs fits s sound
