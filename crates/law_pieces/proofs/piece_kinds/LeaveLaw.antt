-- A jump out of a loop that `finally` parts and exits hold on its way leaves the slots of its target as they were.
use Rattle.std.proofs.Common.{◌≡◌, ℕ, ◌+◌, ◌-◌, ◌≤◌, ◌<◌, zero, suc, min, Bool, true, false, ◌&&◌, not, cond, if◌then◌else◌, List, [], ◌∷◌, ◌++◌, length, reverse, take, slice_get, Contains, Option, Some, None, refl, sym, ap, ◌∙◌, subst, arith}
use Rattle.std.proofs.lemmas.Bool.{false≢true}
use Rattle.std.proofs.lemmas.List.{take-append-le, length-reverse, length-take-le, reverse-append, reverse-reverse}
use Rattle.std.specs.List.{find}
use Rattle.pt_instr.specs.declared.Instr.TheVariants as instr
use Rattle.pt_instr.specs.declared.effects.Effect.{Effect}
use Rattle.pt_instr.specs.declared.kinds.Kind.{Kind}
use Rattle.pt_instr.specs.declared.kinds.Kind.TheVariants as kinds
use Rattle.pt_instr.specs.Effects.{Kinds, effect_of}
use Rattle.pt_ranges.specs.declared.handlers.Handler.{Handler}
use Rattle.pt_ranges.specs.Rows.{covers}
use Rattle.pt_code.specs.View.{Ins}
use Rattle.pt_assembler.specs.declared.operation.Exit.{Exit}
use Rattle.sem_fits.specs.fits.Block.{Block, effect, kinds_at_start}
use Rattle.sem_fits.specs.fits.Steps.{held_by}
use Rattle.sem_fits.specs.fits.Places.{Gets, Reached}
use Rattle.sem_fits.specs.fits.Leaves as L
use Rattle.sem_fits.specs.fits.Leaves.{takes_leave, taker, Departs, Goes, Common, Holds}
use Rattle.law_pieces.specs.piece_kinds.Walk.{Loop, Known, StackMap, kinds_of, made, lowest, onward}
use Rattle.law_pieces.specs.piece_kinds.Typed.{Over, Takes, plainly, HoldsIn, AllHoldIn}
use Rattle.law_pieces.specs.piece_kinds.Typed as typed
use Rattle.law_pieces.specs.piece_kinds.Table.{Table, AgreesWith, slot_of}
use Rattle.law_pieces.specs.piece_kinds.Exits.{exit_in, depth_of, LeadsBelow}
use Rattle.law_pieces.proofs.piece_kinds.ListLemmas.{reverse_cons, lowest_is, length_kinds, over_all, over_length}
use Rattle.law_pieces.proofs.piece_kinds.PieceLaw.{not_both, is_some_of}
use Rattle.law_pieces.proofs.piece_kinds.Finds.{IsExit, RowFits, RowsFit, row_fits, Finds}
use Rattle.law_pieces.proofs.piece_kinds.OriginLaw.{get_taken, has_kinds, led, slot_kept}

module _ {A : Type 0} where
  -- lists that are the same up to a number
  take_same : (n : ℕ) (xs ys : List A) → ((i : ℕ) → i < n → slice_get xs i ≡ slice_get ys i) → take n xs ≡ take n ys
  take_same zero xs ys f = refl
  take_same (suc n) [] [] f = refl
  take_same (suc n) [] (y ∷ ys) f = not_both (sym (f 0 (omega arith)))
  take_same (suc n) (x ∷ xs) [] f = not_both (f 0 (omega arith))
  take_same (suc n) (x ∷ xs) (y ∷ ys) f =
      ap (λ z. z ∷ take n xs) (is_some_of (f 0 (omega arith))) ∙ ap (λ zs. y ∷ zs) (take_same n xs ys (λ i l. f (suc i) (omega (arith, l))))

  pub take_less : (n m : ℕ) (xs : List A) → n ≤ m → take n (take m xs) ≡ take n xs
  take_less zero m xs l = refl
  take_less (suc n) zero xs l = absurd (let h : ⊥ = omega (arith, l) in h)
  take_less (suc n) (suc m) [] l = refl
  take_less (suc n) (suc m) (x ∷ xs) l = ap (λ zs. x ∷ zs) (take_less n m xs (omega (arith, l)))

  -- the element behind a list
  get_behind : (xs : List A) (y : A) (zs : List A) (n : ℕ) → n ≡ length xs → slice_get (xs ++ y ∷ zs) n ≡ Some y
  get_behind [] y zs zero e = refl
  get_behind [] y zs (suc n) e = absurd (let h : ⊥ = omega (arith, e) in h)
  get_behind (x ∷ xs) y zs zero e = absurd (let h : ⊥ = omega (arith, e) in h)
  get_behind (x ∷ xs) y zs (suc n) e = get_behind xs y zs n (omega (arith, e))

-- the lowest slots of what lies over others are theirs
pub over_front : {base ks : StackMap} (n : ℕ) → Over base ks → n ≤ length base → take n (reverse ks) ≡ take n (reverse base)
over_front {base} {ks} n (more, e) l =
    ap (λ zs. take n (reverse zs)) e ∙ (ap (take n) (reverse-append more base) ∙ take-append-le n (reverse base) (reverse more) (let h = length-reverse base in omega (arith, h, l)))

take_all : (xs : StackMap) (n : ℕ) → n ≡ length xs → take n (reverse xs) ≡ reverse xs
take_all xs n e = by (reverse xs) n (let h = length-reverse xs in omega (arith, h, e))
  where
    by : (zs : StackMap) (n : ℕ) → n ≡ length zs → take n zs ≡ zs
    by [] zero e = refl
    by [] (suc n) e = refl
    by (z ∷ zs) zero e = absurd (let h : ⊥ = omega (arith, e) in h)
    by (z ∷ zs) (suc n) e = ap (λ ys. z ∷ ys) (by zs n (omega (arith, e)))

all_true : (a b : Bool) → (a && b) ≡ true → a ≡ true
all_true true b e = refl
all_true false b e = e

pub record Takes_it (t : ℕ) (rows : List Handler) (row : Handler) : Type 0 where
  pub among : Contains rows row
  pub takes : takes_leave t row ≡ true

pub found_row : (t : ℕ) (rows : List Handler) (row : Handler) → taker rows t ≡ Some row → Takes_it t rows row
found_row t [] row e = not_both (sym e)
found_row t (r ∷ rows) row e = by (λ h. found_row t rows row h) (takes_leave t r) refl e
  where
    by : (find (takes_leave t) rows ≡ Some row → Takes_it t rows row) → (s : Bool) → takes_leave t r ≡ s → cond s (Some r) (find (takes_leave t) rows) ≡ Some row
        → Takes_it t (r ∷ rows) row
    by ih true f h = record { among = (zero, omega arith, is_some_of h); takes = ap (takes_leave t) (sym (is_some_of h)) ∙ f }
    by ih false f h = let w = ih h in let i = w.among in record { among = (suc i.0, (let l = i.1 in omega (arith, l)), i.2); takes = w.takes }

-- one slot is taken, and two
one_kind : (k : Kind) (ts : StackMap) → kinds_of ts ≡ k ∷ [] → (p : Known) × (ts ≡ p ∷ []) × (p.kind ≡ k)
one_kind k ts e = by ts e (length_kinds ts)
  where
    by : (ts : StackMap) → kinds_of ts ≡ k ∷ [] → length (kinds_of ts) ≡ length ts → (p : Known) × (ts ≡ p ∷ []) × (p.kind ≡ k)
    by [] e n = absurd (let m : 0 ≡ 1 = sym n ∙ ap length e in let h : ⊥ = omega (arith, m) in h)
    by (p ∷ []) e n = (p, refl, is_some_of (ap (λ ks. slice_get ks 0) e))
    by (p ∷ r ∷ ts) e n = absurd (let m : suc (suc (length ts)) ≡ 1 = sym n ∙ ap length e in let h : ⊥ = omega (arith, m) in h)

two_kinds : (k l : Kind) (ts : StackMap) → kinds_of ts ≡ k ∷ l ∷ [] → (p : Known) × (r : Known) × (ts ≡ p ∷ r ∷ []) × (p.kind ≡ l)
two_kinds k l ts e = by ts e (length_kinds ts)
  where
    by : (ts : StackMap) → kinds_of ts ≡ k ∷ l ∷ [] → length (kinds_of ts) ≡ length ts → (p : Known) × (r : Known) × (ts ≡ p ∷ r ∷ []) × (p.kind ≡ l)
    by [] e n = absurd (let m : 0 ≡ 2 = sym n ∙ ap length e in let h : ⊥ = omega (arith, m) in h)
    by (p ∷ []) e n = absurd (let m : 1 ≡ 2 = sym n ∙ ap length e in let h : ⊥ = omega (arith, m) in h)
    by (p ∷ r ∷ []) e n = (p, r, refl, is_some_of (ap (λ ks. slice_get ks 1) e))
    by (p ∷ r ∷ s ∷ ts) e n = absurd (let m : suc (suc (suc (length ts))) ≡ 2 = sym n ∙ ap length e in let h : ⊥ = omega (arith, m) in h)

-- they are taken as they are
plain_kinds : (e : Effect) (ts : StackMap) (ks : Kinds) → Takes e ts → e.takes ≡ ks → e.swaps ≡ false → kinds_of ts ≡ ks
plain_kinds e ts ks (plainly h) f s = h ∙ f
plain_kinds e ts ks (typed.turned w n h) f s = absurd (false≢true (sym s ∙ w))

pending_in : (x : Option Loop) (p : Known) → p.kind ≡ kinds.Pending → HoldsIn x p.kind p → p.loop ≡ x
pending_in x p e h = subst (λ k. HoldsIn x k p) e h

module _ (b : Block) (at : Table) (first : StackMap) (start : at 0 ≡ Some first) (begins : kinds_of first ≡ kinds_at_start b.kind) (agrees : AgreesWith b at)
    (found : (q : ℕ) (ks : StackMap) → at q ≡ Some ks → Finds b at (LeadsBelow at) [] [] q ks) where
  -- the slots of the target lie below
  abbrev pub Below : (t : ℕ) → (slots : StackMap) → (depth : ℕ) → Type 0
  Below t ks d = (ls : StackMap) → at t ≡ Some ls → (take (length ls) (reverse ks) ≡ reverse ls) × (length ls ≤ d)

  -- a jump leaves from here with so many slots, under these rows
  pub record Departing (t q : ℕ) (rows : List Handler) (count : ℕ) : Type 0 where
    pub slots : StackMap
    pub there : at q ≡ Some slots
    pub base : StackMap
    pub loop : Loop
    pub over : Over base slots
    pub fit : RowsFit at base (Some loop) rows
    pub exit : IsExit t (Some loop)
    pub deep : loop.depth ≤ length base
    pub high : length base ≤ count
    pub below : Below t slots loop.depth

  -- a slot may hold it
  record Holding (t q d : ℕ) : Type 0 where
    slots : StackMap
    there : at q ≡ Some slots
    slot : Known
    is : slice_get (reverse slots) d ≡ Some slot
    loop : Loop
    holds : slot.loop ≡ Some loop
    exit : IsExit t (Some loop)
    deep : loop.depth ≤ d
    below : Below t slots loop.depth

  pub in_place : {q : ℕ} {i : Ins} {ks : Kinds} → Reached b b.size q i ks → (slots : StackMap) × (at q ≡ Some slots) × (kinds_of slots ≡ ks)
  in_place h = let k = has_kinds b at first start begins agrees h.gets in (k.slots, k.there, k.kinds)

  below_base : (t : ℕ) (ks base : StackMap) (d : ℕ) → Over base ks → d ≤ length base → Below t ks d → Below t base d
  below_base t ks base d o l f ls h =
      let u = f ls h in
      let m = u.1 in
      (sym (over_front (length ls) o (omega (arith, l, m))) ∙ u.0, m)

  leaves_from : (t q : ℕ) (i : Ins) (ks : StackMap) → (u : Finds b at (LeadsBelow at) [] [] q ks) → at q ≡ Some ks → u.here ≡ i → i.instr ≡ instr.Leave (record { 0 = t })
      → Departing t q i.rows (length ks)
  leaves_from t q i ks u h e f = by u.loop refl
    where
      w : (e : Exit) × IsExit t u.loop × (t ≡ exit_in e u.loop) × LeadsBelow at u.loop u.base e
      w = u.leaves t (ap (λ j. j.instr) e ∙ f)

      over_here : Over u.base ks
      over_here = subst (Over u.base) (sym u.is) (over_all u.taken u.over)

      by : (o : Option Loop) → u.loop ≡ o → Departing t q i.rows (length ks)
      by None g = absurd (subst (IsExit t) g w.1)
      by (Some x) g =
          let d : x.depth ≤ length u.base = subst (λ o. depth_of o ≤ length u.base) g u.deep in record {
            slots = ks;
            there = h;
            base = u.base;
            loop = x;
            over = over_here;
            fit = subst (λ rows. RowsFit at u.base (Some x) rows) (ap (λ j. j.rows) e) (subst (λ o. RowsFit at u.base o (u.here).rows) g u.fit);
            exit = subst (IsExit t) g w.1;
            deep = d;
            high = over_length over_here;
            below = λ ls z. let v = w.3 ls (ap at (sym w.2) ∙ z) in
                let m : length ls ≤ x.depth = subst (λ o. length ls ≤ depth_of o) g v.1 in
                (over_front (length ls) over_here (omega (arith, d, m)) ∙ (over_front (length ls) v.0 (omega arith) ∙ take_all ls (length ls) refl), m);
          }

  -- a `finally` part lets it go
  lets_go : (t q : ℕ) (i : Ins) (ks : StackMap) → (u : Finds b at (LeadsBelow at) [] [] q ks) → at q ≡ Some ks → u.here ≡ i → i.instr ≡ instr.EndFinally
      → Holding t q (length ks - 1) → Departing t q i.rows (length ks - 1)
  unfolding effect_of
  lets_go t q i ks u h e f v = record {
    slots = ks;
    there = h;
    base = u.base;
    loop = v.loop;
    over = subst (Over u.base) (sym u.is) (over_all u.taken u.over);
    fit = subst (λ rows. RowsFit at u.base (Some v.loop) rows) (ap (λ j. j.rows) e) (subst (λ o. RowsFit at u.base o (u.here).rows) in_loop u.fit);
    exit = v.exit;
    deep = subst (λ o. depth_of o ≤ length u.base) in_loop u.deep;
    high = let o = over_length u.over in let n = ap length whole in omega (arith, o, n);
    below = subst (λ zs. Below t zs (v.loop).depth) same v.below;
  }
    where
      same : v.slots ≡ ks
      same = is_some_of (sym v.there ∙ h)

      instr_is : (u.here).instr ≡ instr.EndFinally
      instr_is = ap (λ j. j.instr) e ∙ f

      taken : (p : Known) × (u.taken ≡ p ∷ []) × (p.kind ≡ kinds.Pending)
      taken = one_kind kinds.Pending u.taken (plain_kinds (effect b.links (u.here).instr) u.taken (kinds.Pending ∷ []) u.takes
          (ap (λ j. let e = effect b.links j in e.takes) instr_is) (ap (λ j. let e = effect b.links j in e.swaps) instr_is))

      whole : ks ≡ taken.0 ∷ u.rest
      whole = u.is ∙ ap (λ ts. ts ++ u.rest) taken.1

      slot_is : v.slot ≡ taken.0
      slot_is = is_some_of (sym v.is ∙ (ap (λ zs. slice_get (reverse zs) (length ks - 1)) (same ∙ whole) ∙ (ap (λ zs. slice_get zs (length ks - 1)) (reverse_cons taken.0 u.rest)
          ∙ get_behind (reverse u.rest) taken.0 [] (length ks - 1) (let n = ap length whole in let r = length-reverse u.rest in omega (arith, n, r)))))

      in_loop : u.loop ≡ Some v.loop
      in_loop = sym (pending_in u.loop taken.0 taken.2 (subst (AllHoldIn u.loop) taken.1 u.holds).0) ∙ (ap (λ k. k.loop) (sym slot_is) ∙ v.holds)

  -- an exit of a `with` holds it on
  holds_on : (t q : ℕ) (i : Ins) (ks : StackMap) → (u : Finds b at (LeadsBelow at) [] [] q ks) → at q ≡ Some ks → u.here ≡ i → i.instr ≡ instr.Exit
      → Holding t q (length ks - 1) → Holding t i.next (length ks - 2)
  unfolding effect_of
  holds_on t q i ks u h e f v = record {
    slots = given;
    there = ap at (sym next_is) ∙ u.after given goes;
    slot = made (u.here).next u.loop kinds.Pending;
    is = ap (λ zs. slice_get zs (length ks - 2)) (reverse_cons (made (u.here).next u.loop kinds.Pending) u.rest)
        ∙ get_behind (reverse u.rest) (made (u.here).next u.loop kinds.Pending) [] (length ks - 2) (let n = ap length whole in let r = length-reverse u.rest in omega (arith, n, r));
    loop = v.loop;
    holds = in_loop;
    exit = v.exit;
    deep = let d = deep_rest in let n = ap length whole in omega (arith, d, n);
    below = λ ls z. let w = v.below ls z in
        let m = w.1 in
        let d = deep_rest in (
          over_front {base = u.rest} (length ls) (made (u.here).next u.loop kinds.Pending ∷ [], refl) (omega (arith, m, d))
              ∙ (sym (over_front {base = u.rest} (length ls) (taken.0 ∷ taken.1 ∷ [], refl) (omega (arith, m, d)))
              ∙ (ap (λ zs. take (length ls) (reverse zs)) (sym (same ∙ whole)) ∙ w.0)),
          m,
        );
  }
    where
      same : v.slots ≡ ks
      same = is_some_of (sym v.there ∙ h)

      next_is : (u.here).next ≡ i.next
      next_is = ap (λ j. j.next) e

      instr_is : (u.here).instr ≡ instr.Exit
      instr_is = ap (λ j. j.instr) e ∙ f

      taken : (p : Known) × (r : Known) × (u.taken ≡ p ∷ r ∷ []) × (p.kind ≡ kinds.Pending)
      taken = two_kinds kinds.With kinds.Pending u.taken (plain_kinds (effect b.links (u.here).instr) u.taken (kinds.With ∷ kinds.Pending ∷ []) u.takes
          (ap (λ j. let e = effect b.links j in e.takes) instr_is) (ap (λ j. let e = effect b.links j in e.swaps) instr_is))

      whole : ks ≡ taken.0 ∷ taken.1 ∷ u.rest
      whole = u.is ∙ ap (λ ts. ts ++ u.rest) taken.2

      given : StackMap
      given = made (u.here).next u.loop kinds.Pending ∷ u.rest

      goes : (let e = effect b.links (u.here).instr in onward e (u.here).next u.loop ks e.gives) ≡ Some given
      goes = ap (λ j. let e = effect b.links j in onward e (u.here).next u.loop ks e.gives) instr_is
          ∙ ap (λ zs. let e = effect b.links instr.Exit in onward e (u.here).next u.loop zs e.gives) whole

      slot_is : v.slot ≡ taken.0
      slot_is = is_some_of (sym v.is ∙ (ap (λ zs. slice_get (reverse zs) (length ks - 1)) (same ∙ whole) ∙ (ap (λ zs. slice_get zs (length ks - 1)) (reverse_cons taken.0 (taken.1 ∷ u.rest))
          ∙ get_behind (reverse (taken.1 ∷ u.rest)) taken.0 [] (length ks - 1) (let n = ap length whole in let r = length-reverse (taken.1 ∷ u.rest) in omega (arith, n, r)))))

      in_loop : u.loop ≡ Some v.loop
      in_loop = sym (pending_in u.loop taken.0 taken.3 (subst (AllHoldIn u.loop) taken.2 u.holds).0) ∙ (ap (λ k. k.loop) (sym slot_is) ∙ v.holds)

      deep_rest : (v.loop).depth ≤ length u.rest
      deep_rest = let d = subst (λ o. depth_of o ≤ length u.base) in_loop u.deep in let o = over_length u.over in omega (arith, d, o)

  -- a row takes it
  caught_by : (t q : ℕ) (rows : List Handler) (n : ℕ) (row : Handler) → taker rows t ≡ Some row → Departing t q rows n → Holding t row.target.0 row.depth
  caught_by t q rows n row e v = record {
    slots = slots;
    there = f.there;
    slot = slot;
    is = ap (λ zs. slice_get zs row.depth) (reverse_cons slot (lowest row.depth v.base))
        ∙ get_behind (reverse (lowest row.depth v.base)) slot [] row.depth (sym count);
    loop = v.loop;
    holds = ap (λ a. let m = made row.target.0 f.loop (if a then kinds.Pending else kinds.Exc) in m.loop) (all_true row.always (not (covers row (record { 0 = t }))) w.takes) ∙ s.0;
    exit = v.exit;
    deep = s.1;
    below = λ ls z. let y = v.below ls z in
        let m = y.1 in
        let d = s.1 in
        let i = f.within in (
          ap (take (length ls)) (reverse_cons slot (lowest row.depth v.base)) ∙ (take-append-le (length ls) (reverse (lowest row.depth v.base)) (slot ∷ []) (let c = count in omega (arith, m, d, c))
              ∙ (ap (take (length ls)) lowest_reversed ∙ (take_less (length ls) row.depth (reverse v.base) (omega (arith, m, d))
              ∙ (sym (over_front (length ls) v.over (omega (arith, m, d, i))) ∙ y.0)))),
          m,
        );
  }
    where
      w : Takes_it t rows row
      w = found_row t rows row e

      f : RowFits at v.base (Some v.loop) row
      f = row_fits at v.base (Some v.loop) rows v.fit row w.among

      s : (f.loop ≡ Some v.loop) × ((v.loop).depth ≤ row.depth)
      s = f.takes t v.exit w.takes

      slot : Known
      slot = made row.target.0 f.loop (held_by row)

      slots : StackMap
      slots = slot ∷ lowest row.depth v.base

      lowest_reversed : reverse (lowest row.depth v.base) ≡ take row.depth (reverse v.base)
      lowest_reversed = ap reverse (lowest_is row.depth v.base) ∙ reverse-reverse (take row.depth (reverse v.base))

      count : length (reverse (lowest row.depth v.base)) ≡ row.depth
      count = ap length lowest_reversed ∙ length-take-le row.depth (reverse v.base) (let i = f.within in let r = length-reverse v.base in omega (arith, i, r))

  abbrev Same : (slot one other : ℕ) → Type 0
  Same d q r = (e : ℕ) → e ≤ d → slot_of (at q) e ≡ slot_of (at r) e

  -- the same slot somewhere else
  shared_with : (t q r d : ℕ) → Same d q r → Holding t q d → Holding t r d
  shared_with t q r d f v = by (at r) refl
    where
      here : slot_of (at q) d ≡ Some v.slot
      here = ap (λ o. slot_of o d) v.there ∙ v.is

      by : (o : Option StackMap) → at r ≡ o → Holding t r d
      by None e = not_both (sym here ∙ (f d (omega arith) ∙ ap (λ o. slot_of o d) e))
      by (Some zs) e = record {
        slots = zs;
        there = e;
        slot = v.slot;
        is = ap (λ o. slot_of o d) (sym e) ∙ (sym (f d (omega arith)) ∙ here);
        loop = v.loop;
        holds = v.holds;
        exit = v.exit;
        deep = v.deep;
        below = λ ls z. let y = v.below ls z in
            let m = y.1 in
            let d = v.deep in
            (take_same (length ls) (reverse zs) (reverse v.slots) (λ i l. ap (λ o. slot_of o i) (sym e) ∙ (sym (f i (omega (arith, l, m, d))) ∙ ap (λ o. slot_of o i) v.there)) ∙ y.0, m);
      }

  departed : (t q d : ℕ) (rows : List Handler) (n : ℕ) (ls : Kinds) → Departing t q rows n → Gets b b.size t ls → d < length ls → slot_of (at q) d ≡ slot_of (at t) d
  departed t q d rows c ls v g l =
      let k = has_kinds b at first start begins agrees g in
      let n : length ls ≡ length k.slots = ap length (sym k.kinds) ∙ length_kinds k.slots in
      let u = v.below k.slots k.there in
      ap (λ o. slot_of o d) v.there ∙ (sym (get_taken (length k.slots) d (reverse v.slots) (omega (arith, n, l))) ∙ (ap (λ zs. slice_get zs d) u.0
      ∙ ap (λ o. slot_of o d) (sym k.there)))

  mutual
    pub departs : {t q : ℕ} {rows : List Handler} {ks : Kinds} → Departs b b.size t q rows ks → Departing t q rows (length ks)
    departs (L.leaves {t = t} {q = q} {i = i} {ks = ks} h e) =
        let p = in_place h in
        let u = found q p.0 p.1 in
        subst (λ n. Departing t q i.rows n) (sym (length_kinds p.0) ∙ ap length p.2) (leaves_from t q i p.0 u p.1 (is_some_of (sym u.stands ∙ h.stands)) e)
    departs (L.let_go {t = t} {q = q} {i = i} {ks = ks} h e v) =
        let p = in_place h in
        let u = found q p.0 p.1 in
        let n : length p.0 ≡ length ks = sym (length_kinds p.0) ∙ ap length p.2 in
        subst (λ m. Departing t q i.rows m) (ap (λ m. m - 1) n ∙ sym (length-take-le (length ks - 1) ks (omega arith)))
        (lets_go t q i p.0 u p.1 (is_some_of (sym u.stands ∙ h.stands)) e (subst (λ m. Holding t q (m - 1)) (sym n) (holding v)))

    goes : {q r k : ℕ} → Goes b b.size q r k → (d : ℕ) → d < k → slot_of (at q) d ≡ slot_of (at r) d
    goes (L.by_row u c e) d l = slot_kept b at first start begins agrees d (led b at first start begins agrees u.gets c) l
    goes (L.by_leave {q = q} {t = t} {rows = rows} {ks = ks} {ls = ls} h g) d l = departed t q d rows (length ks) ls (departs h) g (omega (arith, l))

    common : {d q r : ℕ} → Common b b.size d q r → Same d q r
    common (L.kept g l) = λ e m. goes g e (omega (arith, l, m))
    common L.same = λ e m. refl
    common (L.back c) = λ e m. sym (common c e m)
    common (L.along c f) = λ e m. common c e m ∙ common f e m

    holding : {t q d : ℕ} → Holds b b.size t q d → Holding t q d
    holding (L.caught {t = t} {q = q} {rows = rows} {ks = ks} h row e) = caught_by t q rows (length ks) row e (departs h)
    holding (L.exited {t = t} {q = q} {i = i} {ks = ks} h e v) =
        let p = in_place h in
        let u = found q p.0 p.1 in
        let n : length ks ≡ length p.0 = ap length (sym p.2) ∙ length_kinds p.0 in
        subst (λ m. Holding t i.next (m - 2)) (sym n)
        (holds_on t q i p.0 u p.1 (is_some_of (sym u.stands ∙ h.stands)) e (subst (λ m. Holding t q (m - 1)) n (holding v)))
    holding (L.shared {t = t} {q = q} {r = r} {d = d} c v) = shared_with t q r d (common c) (holding v)

  pub leaves_keep : (t q d : ℕ) (rows : List Handler) (ks ls : Kinds) → Departs b b.size t q rows ks → Gets b b.size t ls → d < min (length ls) (length ks)
      → slot_of (at q) d ≡ slot_of (at t) d
  leaves_keep t q d rows ks ls h g l = departed t q d rows (length ks) ls (departs h) g (omega (arith, l))
