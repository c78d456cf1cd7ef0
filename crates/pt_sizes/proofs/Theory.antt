-- A search that is closed under the ways on has found what places get.
use Rattle.std.proofs.Common.{◌≡◌, ℕ, ◌+◌, ◌<◌, ◌≤◌, Bool, true, false, List, [], ◌∷◌, ◌++◌, length, Option, Some, None, sym, ◌∙◌, subst, arith, ◌⊎◌, inl, inr, set}
use Rattle.std.specs.Prelude.{Contains}
use Rattle.std.proofs.lemmas.List.{length-set}
use Rattle.std.proofs.lemmas.List.Elements.{Contains-push, Contains-push_cases, Contains-append_left}
use Rattle.std.proofs.lemmas.Option.{same_Some}
use Rattle.std.proofs.lemmas.Bool.{false≢true}
use Rattle.pt_ranges.specs.declared.handlers.Handler.{Handler}
use Rattle.pt_sizes.specs.declared.places.Place.{Place}
use Rattle.pt_sizes.specs.declared.places.SizeStep.{SizeStep}
use Rattle.pt_sizes.specs.Flow as F
use Rattle.pt_sizes.specs.Flow.{Body, entry, left, own_steps, landing, is_under, sized, Lands, Leads, Gets, Stands, SizesMeet, TooDeep, Lacks, Disagrees, Agrees, RowTooDeep, IsFirst, IsTable, IsMeeting, IsDeepRow, IsLack}
use Rattle.pt_sizes.specs.Search.{Seen, Consequences, AnyDeep, Open, Expansion}
use Rattle.pt_sizes.proofs.Tables.{below_or, none_in_empty, some_or_none, entry_in, entry_after, entry_grow, entry_here}

module _ (b : Body) where
  pub more_gets : (l m : ℕ) → l ≤ m → (q n : ℕ) → Gets b l q n → Gets b m q n
  more_gets l m h _ _ (F.start place e) = F.start place e
  more_gets l m h _ _ (F.goes {q} {n} {s} g lt e leads there) = F.goes (more_gets l m h q n g) (omega arith) e leads there

  pub more_stands : (l m : ℕ) → l ≤ m → (q n : ℕ) (place : Place) → Stands b l q n place → Stands b m q n place
  more_stands l m h q n place s = record { gets = more_gets l m h q n s.gets; low = (let k = s.low in omega arith); is = s.is }

  pub more_deep : (l m : ℕ) → l ≤ m → (row : Handler) → TooDeep b l row → TooDeep b m row
  more_deep l m h row (F.deep {q} {n} {place} s c u d) = F.deep (more_stands l m h q n place s) c u d

  pub more_lacks : (l m : ℕ) → l ≤ m → Lacks b l → Lacks b m
  more_lacks l m h (F.lacks {q} {n} {place} s d) = F.lacks (more_stands l m h q n place s) d

  module _ (l m : ℕ) (le : l ≤ m) (T T' : List (Option ℕ)) (W W' : List SizeStep) (w w' : ℕ → Handler → Type 0) (d d' f f' : Bool) (o : Open b l T W w d f)
      (long : length T' ≡ length b.places)
      (grow : (q n : ℕ) → entry T q ≡ Some n → entry T' q ≡ Some n)
      (sound : (q n : ℕ) → entry T' q ≡ Some n → Gets b m q n)
      (stands : (q n : ℕ) → entry T' q ≡ Some n → entry b.places q ≡ None → ⊥)
      (due : (s : SizeStep) → Contains W' s → (there : Place) → entry b.places s.to ≡ Some there → Gets b m s.to s.size)
      (keep : (s : SizeStep) → Contains W s → Seen b T' W' s)
      (fewer : (pc : ℕ) (row : Handler) → w' pc row → w pc row)
      (on : (pc : ℕ) (row : Handler) → w pc row → w' pc row ⊎ Contains W' (landing row))
      (deep_kept : d ≡ true → d' ≡ true) (few_kept : f ≡ true → f' ≡ true)
      (deep_is : d' ≡ true → AnyDeep b m) (few_is : f' ≡ true → Lacks b m)
      (new : (q n : ℕ) (place : Place) → q < m → entry T' q ≡ Some n → entry b.places q ≡ Some place
      → ((q < l) × (entry T q ≡ Some n)) ⊎ Consequences b T' W' d' f' q n place) where
    seen_on : (s : SizeStep) → Seen b T W s → Seen b T' W' s
    seen_on s (inl h) = inl (grow s.to s.size h)
    seen_on s (inr (inl h)) = inr (inl h)
    seen_on s (inr (inr c)) = keep s c

    led_on : (q n : ℕ) (place : Place) → Consequences b T W d f q n place → Consequences b T' W' d' f' q n place
    led_on q n place r = record {
      own = λ s c. seen_on s (r.own s c);
      lands = λ row c u h. seen_on (landing row) (r.lands row c u h);
      deeper = λ row c u h. deep_kept (r.deeper row c u h);
      fewer = λ h. few_kept (r.fewer h);
    }

    rest_on : (pc : ℕ) (row : Handler) → w pc row ⊎ Seen b T W (landing row) → w' pc row ⊎ Seen b T' W' (landing row)
    rest_on pc row (inl h) = elim (on pc row h) [ inl a ↦ inl a | inr c ↦ inr (inr (inr c)) ]
    rest_on pc row (inr h) = inr (seen_on (landing row) h)

    pub open_next : Open b m T' W' w' d' f'
    open_next = record {
      long = long;
      start = λ place e. seen_on (sized 0 b.first) (o.start place e);
      sound = sound;
      stands = stands;
      due = due;
      known = λ pc row h. o.known pc row (fewer pc row h);
      rest = λ pc row lt c u. rest_on pc row (o.rest pc row lt c u);
      deep_is = deep_is;
      few_is = few_is;
      goes_on = λ q n place lt h e. elim (new q n place lt h e) [ inl (a, k) ↦ led_on q n place (o.goes_on q n place a k e) | inr r ↦ r ];
    }

  -- one more place is gone on from
  went_on : (l m : ℕ) → l ≤ m → (T T' : List (Option ℕ)) (V W W' : List SizeStep) (w w' : ℕ → Handler → Type 0) (d d' f f' : Bool) (q n : ℕ) (place : Place)
      → Open b l T V w d f
      → length T' ≡ length b.places
      → ((q n : ℕ) → entry T q ≡ Some n → entry T' q ≡ Some n)
      → ((q n : ℕ) → entry T' q ≡ Some n → Gets b m q n)
      → ((q n : ℕ) → entry T' q ≡ Some n → entry b.places q ≡ None → ⊥)
      → ((r : SizeStep) → Contains W r → (there : Place) → entry b.places r.to ≡ Some there → Gets b m r.to r.size)
      → ((r : SizeStep) → Contains V r → Seen b T' W' r)
      → q < m → entry b.places q ≡ Some place → entry T' q ≡ Some n
      → ((r k : ℕ) (p : Place) → r < m → entry T' r ≡ Some k → entry b.places r ≡ Some p → ((r < l) × (entry T r ≡ Some k)) ⊎ ((r ≡ q) × (k ≡ n)))
      → Expansion b q n place W W' w w' d d' f f' → Open b m T' W' w' d' f'
  went_on l m le T T' V W W' w w' d d' f f' q n place o long grow sound stands due keep low is here new went =
      open_next l m le T T' V W' w w' d d' f f' o long grow sound stands due' keep went.fewer went.on went.deep_kept went.few_kept deep_is few_is new'
    where
      at_q : Stands b m q n place
      at_q = record { gets = sound q n here; low = low; is = is }

      due' : (r : SizeStep) → Contains W' r → (there : Place) → entry b.places r.to ≡ Some there → Gets b m r.to r.size
      due' r c there e = elim (went.came r c) [
        | inl a ↦ due r a there e
        | inr x ↦ elim x [
          | inl a ↦ F.goes (sound q n here) low is (F.own a) e
          | inr (row, (h, (deep, same))) ↦ let k = o.known q row h in
              F.goes (sound q n here) low is (subst (λ y. Leads b q n place y) same (F.lands (record { among = k.0; under = k.1; within = deep }))) e
        ]
      ]

      deep_is : d' ≡ true → AnyDeep b m
      deep_is k = elim (went.deep_came k) [
        | inl a ↦ (let x = o.deep_is a in record { row = x.row; deep = more_deep l m le x.row x.deep })
        | inr (row, (c, (u, h))) ↦ record { row = row; deep = F.deep at_q c u h }
      ]

      few_is : f' ≡ true → Lacks b m
      few_is k = elim (went.few_came k) [ inl a ↦ more_lacks l m le (o.few_is a) | inr h ↦ F.lacks at_q h ]

      seen_on : (s : SizeStep) → Seen b T V s → Seen b T' W' s
      seen_on s (inl h) = inl (grow s.to s.size h)
      seen_on s (inr (inl h)) = inr (inl h)
      seen_on s (inr (inr c)) = keep s c

      lands : (row : Handler) → Contains b.rows row → is_under row q ≡ true → row.depth ≤ left place n → Seen b T' W' (landing row)
      lands row c u h = elim (o.rest q row (entry_in b.places q place is) c u) [
        | inl k ↦ elim (went.on q row k) [ inl k' ↦ absurd (went.clear row k' h) | inr x ↦ inr (inr x) ]
        | inr k ↦ seen_on (landing row) k
      ]

      led : Consequences b T' W' d' f' q n place
      led = record { own = λ s c. inr (inr (went.own s c)); lands = lands; deeper = went.deep_found; fewer = went.few_found }

      led_at : (r k : ℕ) (p : Place) → entry b.places r ≡ Some p → r ≡ q → k ≡ n → Consequences b T' W' d' f' r k p
      led_at r k p e a c = subst (λ y. Consequences b T' W' d' f' y k p) (sym a) (subst (λ y. Consequences b T' W' d' f' q y p) (sym c)
          (subst (λ y. Consequences b T' W' d' f' q n y) (same_Some _ _ (sym is ∙ subst (λ y. entry b.places y ≡ Some p) a e)) led))

      new' : (r k : ℕ) (p : Place) → r < m → entry T' r ≡ Some k → entry b.places r ≡ Some p → ((r < l) × (entry T r ≡ Some k)) ⊎ Consequences b T' W' d' f' r k p
      new' r k p lt h e = elim (new r k p lt h e) [ inl a ↦ inl a | inr (a, c) ↦ inr (led_at r k p e a c) ]

  -- the edge that is due
  module _ (l : ℕ) (T : List (Option ℕ)) (W : List SizeStep) (w : ℕ → Handler → Type 0) (d f : Bool) (s : SizeStep) (o : Open b l T (W ++ s ∷ []) w d f) where
    due_left : (r : SizeStep) → Contains W r → (there : Place) → entry b.places r.to ≡ Some there → Gets b l r.to r.size
    due_left r c = o.due r (Contains-append_left W (s ∷ []) r c)

    keep_left : (T' : List (Option ℕ)) → Seen b T' W s → (r : SizeStep) → Contains (W ++ s ∷ []) r → Seen b T' W r
    keep_left T' here r c = elim (Contains-push_cases W s r c) [ inl a ↦ inr (inr a) | inr same ↦ subst (λ (x : SizeStep). Seen b T' W x) same here ]

    pub open_seen : (entry T s.to ≡ Some s.size) ⊎ (entry b.places s.to ≡ None) → Open b l T W w d f
    open_seen h = open_next l l (omega arith) T T (W ++ s ∷ []) W w w d d f f o o.long (λ q n k. k) o.sound o.stands due_left
        (keep_left T (elim h [ inl a ↦ inl a | inr a ↦ inr (inl a) ])) (λ pc row k. k) (λ pc row k. inl k) (λ k. k) (λ k. k) o.deep_is o.few_is
        (λ q n place lt k e. inl (lt, k))

    pub meets : (n : ℕ) (place : Place) → entry b.places s.to ≡ Some place → entry T s.to ≡ Some n → (n ≡ s.size → ⊥) → SizesMeet b l
    meets n place e h ne = F.two (o.sound s.to n h) (o.due s (Contains-push W s) place e) ne

    module _ (place : Place) (is : entry b.places s.to ≡ Some place) (none : entry T s.to ≡ None) where
      pub inside : s.to < length T
      inside = subst (λ n. s.to < n) (sym o.long) (entry_in b.places s.to place is)

      abbrev T' : List (Option ℕ)
      T' = set T s.to (Some s.size)

      got : Gets b l s.to s.size
      got = o.due s (Contains-push W s) place is

      sound_set : (q n : ℕ) → entry T' q ≡ Some n → Gets b l q n
      sound_set q n h = elim (entry_after T s.to s.size q n h) [ inl a ↦ o.sound q n a | inr (a, c) ↦ rw (a, c) got ]

      stands_set : (q n : ℕ) → entry T' q ≡ Some n → entry b.places q ≡ None → ⊥
      stands_set q n h e = elim (entry_after T s.to s.size q n h) [ inl a ↦ o.stands q n a e | inr (a, c) ↦ some_or_none place (sym is ∙ (subst (λ x. entry b.places x ≡ None) a e)) ]

      long_set : length T' ≡ length b.places
      long_set = length-set T s.to (Some s.size) ∙ o.long

      here_set : entry T' s.to ≡ Some s.size
      here_set = entry_here T s.to s.size inside

      grow_set : (q n : ℕ) → entry T q ≡ Some n → entry T' q ≡ Some n
      grow_set q n k = entry_grow T s.to s.size q n none k

      pub open_above : l ≤ s.to → Open b l T' W w d f
      open_above h = open_next l l (omega arith) T T' (W ++ s ∷ []) W w w d d f f o long_set grow_set sound_set stands_set due_left
          (keep_left T' (inl here_set)) (λ pc row k. k) (λ pc row k. inl k) (λ k. k) (λ k. k) o.deep_is o.few_is
          (λ q n p lt k e. elim (entry_after T s.to s.size q n k) [ inl a ↦ inl (lt, a) | inr (a, c) ↦ absurd (omega (arith, a, lt, h)) ])

      pub open_below : s.to < l → (W' : List SizeStep) (w' : ℕ → Handler → Type 0) (d' f' : Bool) → Expansion b s.to s.size place W W' w w' d d' f f' → Open b l T' W' w' d' f'
      open_below lt W' w' d' f' went = went_on l l (omega arith) T T' (W ++ s ∷ []) W W' w w' d d' f f' s.to s.size place o long_set grow_set sound_set stands_set
          due_left (λ r c. elim (Contains-push_cases W s r c) [ inl a ↦ inr (inr (went.kept r a)) | inr same ↦ subst (λ (x : SizeStep). Seen b T' W' x) same (inl here_set) ])
          lt is here_set (λ q n p lq k e. elim (entry_after T s.to s.size q n k) [ inl a ↦ inl (lq, a) | inr a ↦ inr a ]) went

  -- nothing is due
  module _ (l : ℕ) (T : List (Option ℕ)) (w : ℕ → Handler → Type 0) (d f : Bool) (o : Open b l T [] w d f) where
    known_now : (s : SizeStep) (there : Place) → entry b.places s.to ≡ Some there → Seen b T [] s → entry T s.to ≡ Some s.size
    known_now s there e (inl h) = h
    known_now s there e (inr (inl h)) = absurd (some_or_none there (sym e ∙ h))
    known_now s there e (inr (inr c)) = absurd (none_in_empty s c)

    by_way : (q n : ℕ) (place : Place) {s : SizeStep} → Consequences b T [] d f q n place → Leads b q n place s → Seen b T [] s
    by_way q n place led (F.own c) = led.own _ c
    by_way q n place led (F.lands {row} r) = led.lands row r.among r.under r.within

    pub whole : (q n : ℕ) → Gets b l q n → entry T q ≡ Some n
    whole _ _ (F.start place e) = known_now (sized 0 b.first) place e (o.start place e)
    whole _ _ (F.goes {q} {n} {s} {place} {there} g lt e leads is) = known_now s there is (by_way q n place (o.goes_on q n place lt (whole q n g) e) leads)

    pub one_size : SizesMeet b l → ⊥
    one_size (F.two {q} {n} {m} g h ne) = ne (same_Some _ _ (sym (whole q n g) ∙ whole q m h))

    pub deep_told : (row : Handler) → TooDeep b l row → d ≡ true
    deep_told row (F.deep {q} {n} {place} s c u h) = (o.goes_on q n place s.low (whole q n s.gets) s.is).deeper row c u h

    pub few_told : Lacks b l → f ≡ true
    few_told (F.lacks {q} {n} {place} s h) = (o.goes_on q n place s.low (whole q n s.gets) s.is).fewer h

  pub agrees : (l : ℕ) (T : List (Option ℕ)) (w : ℕ → Handler → Type 0) → Open b l T [] w false false → Agrees b l
  agrees l T w o (F.meet x) = one_size l T w false false o x
  agrees l T w o (F.too_deep row x) = false≢true (deep_told l T w false false o row x)
  agrees l T w o (F.few x) = false≢true (few_told l T w false false o x)

  -- the next stage
  module _ (l : ℕ) (T : List (Option ℕ)) (w : ℕ → Handler → Type 0) (o : Open b l T [] w false false) where
    sound_more : (q n : ℕ) → entry T q ≡ Some n → Gets b (l + 1) q n
    sound_more q n h = more_gets l (l + 1) (omega arith) q n (o.sound q n h)

    nothing_due : (r : SizeStep) → Contains [] r → (there : Place) → entry b.places r.to ≡ Some there → Gets b (l + 1) r.to r.size
    nothing_due r c = absurd (none_in_empty r c)

    pub stage_none : entry T l ≡ None → Open b (l + 1) T [] w false false
    stage_none none = open_next l (l + 1) (omega arith) T T [] [] w w false false false false o o.long (λ q n k. k) sound_more o.stands nothing_due
        (λ s c. inr (inr c)) (λ pc row k. k) (λ pc row k. inl k) (λ k. k) (λ k. k) (λ k. absurd (false≢true k)) (λ k. absurd (false≢true k))
        (λ q n place lt k e. elim (below_or q l lt) [ inl a ↦ inl (a, k) | inr a ↦ absurd (some_or_none n (sym (subst (λ x. entry T x ≡ Some n) a k) ∙ none)) ])

    pub stage_some : (n : ℕ) (place : Place) → entry T l ≡ Some n → entry b.places l ≡ Some place → (W' : List SizeStep) (w' : ℕ → Handler → Type 0) (d' f' : Bool)
        → Expansion b l n place [] W' w w' false d' false f' → Open b (l + 1) T W' w' d' f'
    stage_some n place h is W' w' d' f' went = went_on l (l + 1) (omega arith) T T [] [] W' w w' false d' false f' l n place o o.long (λ q n k. k) sound_more o.stands
        nothing_due (λ s c. absurd (none_in_empty s c)) (omega arith) is h
        (λ q k p lt e i. elim (below_or q l lt) [ inl a ↦ inl (a, e) | inr a ↦ inr (a, same_Some _ _ (sym (subst (λ x. entry T x ≡ Some k) a e) ∙ h)) ]) went
