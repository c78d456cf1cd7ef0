-- A Leave lacks slots just where it does by sizes.
use Rattle.std.proofs.Common.{◌≡◌, ℕ, zero, suc, ◌-◌, ◌<◌, ◌≤◌, min, Bool, true, false, List, [], ◌∷◌, length, take, get_or, Option, Some, None, refl, sym, ap, ◌∙◌, subst, arith, ◌⊎◌, inl, inr}
use Rattle.std.specs.Prelude.{Contains, nat_le, ◌||◌}
use Rattle.std.specs.List.{list_any}
use Rattle.std.proofs.lemmas.Bool.{false≢true, leb-true, le-leb, lt-ltb, ltb-true}
use Rattle.std.proofs.lemmas.Option.{same_Some}
use Rattle.std.proofs.lemmas.List.{length-take-le}
use Rattle.pt_instr.specs.declared.Instr.{Instr}
use Rattle.pt_instr.specs.declared.Instr.TheVariants.{Leave, EndFinally}
use Rattle.pt_instr.specs.Effects.{Kinds}
use Rattle.pt_base.specs.declared.numbers.Pc.{Pc}
use Rattle.pt_ranges.specs.declared.handlers.Handler.{Handler}
use Rattle.pt_code.specs.View.{Ins}
use Rattle.pt_places.specs.declared.places.Place.{Place}
use Rattle.pt_places.specs.PlaceTable as T
use Rattle.pt_places.specs.PlaceTable.{HasPlaces}
use Rattle.pt_sizes.specs.Flow.{entry}
use Rattle.pt_sizes.proofs.Tables.{entry_in}
use Rattle.sem_fits.specs.fits.Block.{Block}
use Rattle.sem_fits.specs.fits.Steps.{cut}
use Rattle.sem_fits.specs.fits.Places.{Gets, Reached}
use Rattle.sem_fits.specs.fits.Leaves as L
use Rattle.sem_fits.specs.fits.Leaves.{Departs, Holds, Leaving, taker}
use Rattle.pt_verify_depths.specs.PlaceTable.{AreSizesUpTo}
use Rattle.pt_verify_depths.specs.Refusals as R
use Rattle.pt_verify_depths.specs.Refusals.{LeaveLacks}
use Rattle.pt_verify_depths.proofs.SizeLemmas.{sizes_have_kinds}
use Rattle.pt_common_slots.proofs.Law.{takes_one}
use Rattle.pt_verify_leaves.specs.Gathering.{list_at}
use Rattle.pt_verify_leaves.specs.Onto.{rows_at}
use Rattle.pt_verify_leaves.specs.Lacks.{is_few, few_for, targets_at, lacks_by, lacks_at}
use Rattle.pt_verify_leaves.specs.Held.{HasHeldUpTo}
use Rattle.pt_verify_leaves.proofs.Gathers.{none_in, low_or}
use Rattle.pt_verify_leaves.proofs.Parts.{Seen, seen}
use Rattle.pt_verify_leaves.proofs.Sized.{sized, reached_with, among, depth_low}

-- tests

not_le : (m n : ℕ) → n < m → nat_le m n ≡ false
not_le m n lt = by_test (nat_le m n) refl
  where
    by_test : (t : Bool) → nat_le m n ≡ t → t ≡ false
    by_test false e = refl
    by_test true e = absurd (omega (arith, lt, leb-true m n e))

less_of : (m n : ℕ) → nat_le m n ≡ false → n < m
less_of m n f = elim (low_or n m) [ inl lt ↦ lt | inr le ↦ absurd (false≢true (sym f ∙ le-leb m n le)) ]

-- what is few

few_none : (n low : ℕ) → is_few (Some n) low None ≡ true → low < n
few_none n low e = ltb-true low n e

few_some : (n low : ℕ) (row : Handler) → is_few (Some n) low (Some row) ≡ true → min low row.depth < n
few_some n low row e = ltb-true (min low row.depth) n e

none_few : (n low : ℕ) → low < n → is_few (Some n) low None ≡ true
none_few n low lt = lt-ltb low n lt

some_few : (n low : ℕ) (row : Handler) → min low row.depth < n → is_few (Some n) low (Some row) ≡ true
some_few n low row lt = lt-ltb (min low row.depth) n lt

record There (o : Option ℕ) : Type 0 where
  n : ℕ
  is : o ≡ Some n

there : (o : Option ℕ) (low : ℕ) (r : Option Handler) → is_few o low r ≡ true → There o
there (Some n) low r e = record { n = n; is = refl }
there None low r e = absurd (false≢true e)

-- any of several

pub record AnyOf (f : ℕ → Bool) (xs : List ℕ) : Type 0 where
  pub one : ℕ
  pub among : Contains xs one
  pub holds : f one ≡ true

or_parts : (a b : Bool) → (a || b) ≡ true → (a ≡ true) ⊎ (b ≡ true)
or_parts true b e = inl refl
or_parts false b e = inr e

later_of : (f : ℕ → Bool) (x : ℕ) (xs : List ℕ) → AnyOf f xs → AnyOf f (x ∷ xs)
later_of f x xs a = let (k, lt, is) = a.among in record { one = a.one; among = (suc k, omega (arith, lt), is); holds = a.holds }

pub any_of : (f : ℕ → Bool) (xs : List ℕ) → list_any f xs ≡ true → AnyOf f xs
any_of f [] e = absurd (false≢true e)
any_of f (x ∷ xs) e = elim (or_parts (f x) (list_any f xs) e) [
  | inl h ↦ record { one = x; among = (zero, omega arith, refl); holds = h }
  | inr h ↦ later_of f x xs (any_of f xs h)
]

or_left : (a b : Bool) → a ≡ true → (a || b) ≡ true
or_left true b e = refl
or_left false b e = absurd (false≢true e)

or_right : (a b : Bool) → b ≡ true → (a || b) ≡ true
or_right true b e = refl
or_right false b e = e

pub of_any : (f : ℕ → Bool) (xs : List ℕ) (x : ℕ) → Contains xs x → f x ≡ true → list_any f xs ≡ true
of_any f [] x c e = absurd (none_in x c)
of_any f (y ∷ ys) x (zero, lt, is) e = or_left (f y) (list_any f ys) (ap f is ∙ e)
of_any f (y ∷ ys) x (suc k, lt, is) e = or_right (f y) (list_any f ys) (of_any f ys x (k, omega (arith, lt), is) e)

-- which test fails at a place

data LacksHow (rows : List Handler) (sizes : List (Option ℕ)) (pc : ℕ) (i : Instr) (n : ℕ) (targets : List ℕ) : Type 0 where
  by_own : {t : ℕ} → i ≡ Leave (record { 0 = t }) → few_for rows sizes pc n t ≡ true → LacksHow rows sizes pc i n targets
  by_end : {t : ℕ} → i ≡ EndFinally → Contains targets t → few_for rows sizes pc (n - 1) t ≡ true → LacksHow rows sizes pc i n targets

lacks_how : (rows : List Handler) (sizes : List (Option ℕ)) (pc : ℕ) (i : Instr) (n : ℕ) (targets : List ℕ) → lacks_by rows sizes pc i n targets ≡ true
    → LacksHow rows sizes pc i n targets
lacks_how rows sizes pc (Leave t) n targets e = by_own refl e
lacks_how rows sizes pc EndFinally n targets e = let a = any_of (λ t. few_for rows sizes pc (n - 1) t) targets e in by_end refl a.among a.holds
lacks_how rows sizes pc i n targets e = absurd (false≢true e)

record LacksParts (rows : List Handler) (sizes : List (Option ℕ)) (pc : ℕ) (place : Option Place) (size : Option ℕ) (targets : List ℕ) : Type 0 where
  p : Place
  stands : place ≡ Some p
  n : ℕ
  sized : size ≡ Some n
  how : LacksHow rows sizes pc p.instr n targets

lacks_parts : (rows : List Handler) (sizes : List (Option ℕ)) (pc : ℕ) (place : Option Place) (size : Option ℕ) (targets : List ℕ)
    → lacks_at rows sizes pc place size targets ≡ true → LacksParts rows sizes pc place size targets
lacks_parts rows sizes pc (Some p) (Some n) targets e = record { p = p; stands = refl; n = n; sized = refl; how = lacks_how rows sizes pc p.instr n targets e }
lacks_parts rows sizes pc (Some p) None targets e = absurd (false≢true e)
lacks_parts rows sizes pc None size targets e = absurd (false≢true e)

record IsTarget (bundles : List (List ℕ)) (bundle : Option ℕ) (t : ℕ) : Type 0 where
  number : ℕ
  is : bundle ≡ Some number
  among : Contains (list_at bundles number) t

is_target : (bundles : List (List ℕ)) (bundle : Option ℕ) (t : ℕ) → Contains (targets_at bundles bundle) t → IsTarget bundles bundle t
is_target bundles (Some k) t c = record { number = k; is = refl; among = c }
is_target bundles None t c = absurd (none_in t c)

module _ (b : Block) (p : ℕ) (sizes : List (Option ℕ)) (are : AreSizesUpTo b p sizes) where
  -- where a Leave goes on from, with so many slots, no fewer than a row over it leaves
  record GoesFrom (t q : ℕ) (rows : List Handler) (low : ℕ) : Type 0 where
    slots : Kinds
    departs : Departs b p t q rows slots
    long : length slots ≡ low
    deep : (row : Handler) → taker rows t ≡ Some row → row.depth ≤ low

  from_own : (t q n : ℕ) (i : Ins) (ks : Kinds) → Reached b p q i ks → i.instr ≡ Leave (record { 0 = t }) → length ks ≡ n → GoesFrom t q i.rows n
  from_own t q n i ks reached is long = record {
    slots = ks;
    departs = L.leaves reached is;
    long = long;
    deep = λ row f. let d = depth_low b p sizes are q i ks reached row (among b p sizes are q i ks reached t row f) in omega (arith, d, long);
  }

  from_end : (t q : ℕ) (i : Ins) (ks : Kinds) → Reached b p q i ks → i.instr ≡ EndFinally → Holds b p t q (length ks - 1) → GoesFrom t q i.rows (length ks - 1)
  from_end t q i ks reached is holds = record {
    slots = take (length ks - 1) ks;
    departs = L.let_go reached is holds;
    long = length-take-le (length ks - 1) ks (let h : length ks - 1 ≤ length ks = omega arith in h);
    deep = λ row f.
        let d = depth_low b p sizes are q i ks reached row (among b p sizes are q i ks reached t row f) in
        let one = takes_one b.links i.instr is in
        omega (arith, d, one);
  }

  cut_long : (row : Handler) (ks : Kinds) → row.depth ≤ length ks → length (cut row ks) ≡ row.depth
  cut_long row ks le = length-take-le row.depth ks le

  few_lacks : (t q low : ℕ) (rows : List Handler) → GoesFrom t q rows low → (o : Option Handler) → taker rows t ≡ o → (n : ℕ) → entry sizes t ≡ Some n
      → is_few (Some n) low o ≡ true → LeaveLacks b p
  few_lacks t q low rows g None f n s e =
      let k = sizes_have_kinds b p t n (are.sound t n s) in
      R.leaves (L.free g.departs) k.gets (not_le (length k.kinds) (length g.slots) (omega (arith, few_none n low e, k.long, g.long)))
  few_lacks t q low rows g (Some row) f n s e =
      let k = sizes_have_kinds b p t n (are.sound t n s) in
      let d = g.deep row f in
      let l = cut_long row g.slots (omega (arith, d, g.long)) in
      R.leaves (L.held g.departs row f) k.gets (not_le (length k.kinds) (length (cut row g.slots)) (omega (arith, few_some n low row e, k.long, l, d)))

  for_lacks : (t q low : ℕ) (rows : List Handler) → GoesFrom t q rows low → is_few (entry sizes t) low (taker rows t) ≡ true → LeaveLacks b p
  for_lacks t q low rows g e =
      let a = there (entry sizes t) low (taker rows t) e in
      few_lacks t q low rows g (taker rows t) refl a.n a.is (subst (λ o. is_few o low (taker rows t) ≡ true) a.is e)

  -- the other way round

  few_by : (n low : ℕ) (o : Option Handler) → low < n → is_few (Some n) low o ≡ true
  few_by n low None lt = none_few n low lt
  few_by n low (Some row) lt = some_few n low row (omega (arith, lt))

  free_few : (t low : ℕ) (rows : List Handler) (ls : Kinds) → Gets b p t ls → low < length ls → is_few (entry sizes t) low (taker rows t) ≡ true
  free_few t low rows ls got lt = subst (λ o. is_few o low (taker rows t) ≡ true) (sym (sized b p sizes are t ls got)) (few_by (length ls) low (taker rows t) lt)

  held_few : (t low : ℕ) (rows : List Handler) (row : Handler) → taker rows t ≡ Some row → (ls : Kinds) → Gets b p t ls → min low row.depth < length ls
      → is_few (entry sizes t) low (taker rows t) ≡ true
  held_few t low rows row f ls got lt = subst (λ o. is_few o low (taker rows t) ≡ true) (sym (sized b p sizes are t ls got))
      (subst (λ o. is_few (Some (length ls)) low o ≡ true) (sym f) (some_few (length ls) low row lt))

  module _ (places : List (Option Place)) (shown : HasPlaces b.at places)
      (rows_are : (pc : ℕ) (i : Ins) → b.at pc ≡ Some i → i.rows ≡ rows_at b.handlers pc)
      (bundles : List (List ℕ)) (held : List (Option ℕ)) (has : HasHeldUpTo b p bundles held) where
    abbrev lacks : (pc : ℕ) → Bool
    lacks pc = lacks_at b.handlers sizes pc (entry places pc) (entry sizes pc) (targets_at bundles (entry held pc))

    goes_lack : (pc : ℕ) (pl : Place) (n : ℕ) → pc ≤ p → entry sizes pc ≡ Some n → Seen (b.at pc) pl
        → LacksHow b.handlers sizes pc pl.instr n (targets_at bundles (entry held pc)) → LeaveLacks b p
    goes_lack pc pl n le s i (by_own {t = t} is e) =
        let w = reached_with b p sizes are pc n i.ins s le i.is in
        for_lacks t pc n i.ins.rows (from_own t pc n i.ins w.kinds w.reached (sym i.instr ∙ is) w.long)
        (subst (λ rs. is_few (entry sizes t) n (taker rs t) ≡ true) (sym (rows_are pc i.ins i.is)) e)
    goes_lack pc pl n le s i (by_end {t = t} is c e) =
        let k = is_target bundles (entry held pc) t c in
        let g = has.sound pc t (record { bundle = k.number; is = k.is; among = k.among }) in
        let same : n ≡ length g.kinds = same_Some _ _ (sym s ∙ sized b p sizes are pc g.kinds g.reached.gets) in
        for_lacks t pc (length g.kinds - 1) g.ins.rows (from_end t pc g.ins g.kinds g.reached g.ends g.holds)
        (subst (λ rs. is_few (entry sizes t) (length g.kinds - 1) (taker rs t) ≡ true) (sym (rows_are pc g.ins g.reached.stands))
        (subst (λ m. is_few (entry sizes t) (m - 1) (taker (rows_at b.handlers pc) t) ≡ true) same e))

    pub lacks_here : (pc : ℕ) → pc ≤ p → lacks pc ≡ true → LeaveLacks b p
    lacks_here pc le e =
        let l = lacks_parts b.handlers sizes pc (entry places pc) (entry sizes pc) (targets_at bundles (entry held pc)) e in
        goes_lack pc l.p l.n le l.sized (seen (b.at pc) l.p (sym (shown pc) ∙ l.stands)) l.how

    -- none lacks slots where no test says so

    module _ (none : (pc : ℕ) → pc < length sizes → pc ≤ p → lacks pc ≡ false) where
      at_place : (q : ℕ) (i : Ins) (ks : Kinds) → Reached b p q i ks
          → lacks_by b.handlers sizes q i.instr (length ks) (targets_at bundles (entry held q)) ≡ false
      at_place q i ks reached =
          let s = sized b p sizes are q ks reached.gets in
          sym (ap (λ o. lacks_at b.handlers sizes q o (entry sizes q) (targets_at bundles (entry held q))) (shown q ∙ ap T.place_at reached.stands)
          ∙ ap (λ o. lacks_at b.handlers sizes q (Some (T.place_of i.instr i.mark i.next)) o (targets_at bundles (entry held q))) s)
          ∙ none q (entry_in sizes q (length ks) s) reached.low

      own_not : (t q : ℕ) (i : Ins) (ks : Kinds) → Reached b p q i ks → i.instr ≡ Leave (record { 0 = t })
          → is_few (entry sizes t) (length ks) (taker i.rows t) ≡ true → ⊥
      own_not t q i ks reached is e = false≢true (sym (at_place q i ks reached)
          ∙ (ap (λ j. lacks_by b.handlers sizes q j (length ks) (targets_at bundles (entry held q))) is
          ∙ subst (λ rs. is_few (entry sizes t) (length ks) (taker rs t) ≡ true) (rows_are q i reached.stands) e))

      end_not : (t q : ℕ) (i : Ins) (ks : Kinds) → Reached b p q i ks → i.instr ≡ EndFinally → Holds b p t q (length ks - 1)
          → is_few (entry sizes t) (length ks - 1) (taker i.rows t) ≡ true → ⊥
      end_not t q i ks reached is holds e =
          let k = has.whole q t (record { ins = i; kinds = ks; reached = reached; ends = is; holds = holds }) in
          let c : Contains (targets_at bundles (entry held q)) t = subst (λ o. Contains (targets_at bundles o) t) (sym k.is) k.among in
          false≢true (sym (at_place q i ks reached)
          ∙ (ap (λ j. lacks_by b.handlers sizes q j (length ks) (targets_at bundles (entry held q))) is
          ∙ of_any (λ u. few_for b.handlers sizes q (length ks - 1) u) (targets_at bundles (entry held q)) t c
          (subst (λ rs. is_few (entry sizes t) (length ks - 1) (taker rs t) ≡ true) (rows_are q i reached.stands) e)))

      low_take : (n : ℕ) (ks : Kinds) → length (take (n - 1) ks) ≤ length ks
      low_take n ks = short (n - 1) ks
        where
          short : (k : ℕ) (xs : Kinds) → length (take k xs) ≤ length xs
          short zero xs = omega arith
          short (suc k) [] = omega arith
          short (suc k) (x ∷ xs) = omega (arith, short k xs)

      free_not : {t q : ℕ} {rows : List Handler} {ks : Kinds} → Departs b p t q rows ks → (ls : Kinds) → Gets b p t ls → length ks < length ls → ⊥
      free_not {t = t} (L.leaves {q = q} {i = i} {ks = ks} reached is) ls got lt = own_not t q i ks reached is (free_few t (length ks) i.rows ls got lt)
      free_not {t = t} (L.let_go {q = q} {i = i} {ks = ks} reached is holds) ls got lt =
          let long = length-take-le (length ks - 1) ks (let h : length ks - 1 ≤ length ks = omega arith in h) in
          end_not t q i ks reached is holds (free_few t (length ks - 1) i.rows ls got (omega (arith, lt, long)))

      held_not : {t q : ℕ} {rows : List Handler} {ks : Kinds} → Departs b p t q rows ks → (row : Handler) → taker rows t ≡ Some row → (ls : Kinds) → Gets b p t ls
          → length (cut row ks) < length ls → ⊥
      held_not {t = t} (L.leaves {q = q} {i = i} {ks = ks} reached is) row f ls got lt =
          let g = from_own t q (length ks) i ks reached is refl in
          let d = g.deep row f in
          let l = cut_long row ks d in
          own_not t q i ks reached is (held_few t (length ks) i.rows row f ls got (omega (arith, lt, l, d)))
      held_not {t = t} (L.let_go {q = q} {i = i} {ks = ks} reached is holds) row f ls got lt =
          let g = from_end t q i ks reached is holds in
          let d = g.deep row f in
          let long = length-take-le (length ks - 1) ks (let h : length ks - 1 ≤ length ks = omega arith in h) in
          let l = cut_long row (take (length ks - 1) ks) (omega (arith, d, long)) in
          end_not t q i ks reached is holds (held_few t (length ks - 1) i.rows row f ls got (omega (arith, lt, l, d)))

      leaving_not : (t : ℕ) (ks ls : Kinds) → Leaving b p t ks → Gets b p t ls → length ks < length ls → ⊥
      leaving_not t _ ls (L.free d) got lt = free_not d ls got lt
      leaving_not t _ ls (L.held d row f) got lt = held_not d row f ls got lt

      pub none_lacks : LeaveLacks b p → ⊥
      none_lacks (R.leaves {t = t} {ks = ks} {ls = ls} leaving got few) = leaving_not t ks ls leaving got (less_of (length ls) (length ks) few)

-- what loops know

pub none_any : (f : ℕ → Bool) (xs : List ℕ) → ((k : ℕ) → k < length xs → f (get_or xs k 0) ≡ false) → list_any f xs ≡ false
none_any f [] none = refl
none_any f (x ∷ xs) none = ap (λ t. t || list_any f xs) (none 0 (omega arith)) ∙ none_any f xs (λ k lt. none (suc k) (omega (arith, lt)))

pub item_in : (xs : List ℕ) (k : ℕ) → k < length xs → Contains xs (get_or xs k 0)
item_in [] k lt = absurd (omega (arith, lt))
item_in (x ∷ xs) zero lt = (zero, omega arith, refl)
item_in (x ∷ xs) (suc k) lt = let (j, l, e) = item_in xs k (omega (arith, lt)) in (suc j, omega (arith, l), e)

pub same_lack : (rows : List Handler) (sizes : List (Option ℕ)) (bundles : List (List ℕ)) (held : List (Option ℕ)) (pc at : ℕ) {place other : Option Place}
    (size : Option ℕ) → pc ≡ at → place ≡ other
    → lacks_at rows sizes pc place size (targets_at bundles (entry held pc)) ≡ lacks_at rows sizes at other size (targets_at bundles (entry held at))
same_lack rows sizes bundles held pc at {place = place} size e f = ap (λ q. lacks_at rows sizes q place size (targets_at bundles (entry held q))) e
    ∙ ap (λ o. lacks_at rows sizes at o size (targets_at bundles (entry held at))) f

-- what is tested where a Leave and where an EndFinally stands

pub leave_lacks_is : (rows : List Handler) (sizes : List (Option ℕ)) (pc : ℕ) {place : Option Place} {size : Option ℕ} (p : Place) (n : ℕ) (t : Pc) (targets : List ℕ)
    → place ≡ Some p → size ≡ Some n → p.instr ≡ Leave t → lacks_at rows sizes pc place size targets ≡ few_for rows sizes pc n t.0
leave_lacks_is rows sizes pc {size = size} p n t targets e f is = ap (λ o. lacks_at rows sizes pc o size targets) e
    ∙ (ap (λ o. lacks_at rows sizes pc (Some p) o targets) f ∙ ap (λ i. lacks_by rows sizes pc i n targets) is)

pub end_lacks_is : (rows : List Handler) (sizes : List (Option ℕ)) (pc : ℕ) {place : Option Place} {size : Option ℕ} (p : Place) (n : ℕ) (targets : List ℕ)
    → place ≡ Some p → size ≡ Some n → p.instr ≡ EndFinally → lacks_at rows sizes pc place size targets ≡ list_any (λ t. few_for rows sizes pc (n - 1) t) targets
end_lacks_is rows sizes pc {size = size} p n targets e f is = ap (λ o. lacks_at rows sizes pc o size targets) e
    ∙ (ap (λ o. lacks_at rows sizes pc (Some p) o targets) f ∙ ap (λ i. lacks_by rows sizes pc i n targets) is)

pub few_same : (rows : List Handler) (sizes : List (Option ℕ)) (pc low less t u : ℕ) → low ≡ less → t ≡ u → few_for rows sizes pc low t ≡ few_for rows sizes pc less u
few_same rows sizes pc low less t u e f = ap (λ n. few_for rows sizes pc n t) e ∙ ap (λ v. few_for rows sizes pc less v) f
