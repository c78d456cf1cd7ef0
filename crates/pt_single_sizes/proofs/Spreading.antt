-- Sizes spread by one way on.
use Rattle.std.proofs.Common.{◌≡◌, ℕ, ◌<◌, ◌≤◌, List, [], ◌∷◌, ◌++◌, length, filter, Bool, true, false, Option, Some, None, refl, sym, ap, ◌∙◌, subst, arith, ◌⊎◌, inl, inr, set, replicate}
use Rattle.std.specs.Prelude.{Contains, nat_eq}
use Rattle.std.proofs.lemmas.Bool.{le-leb, leb-true}
use Rattle.std.proofs.lemmas.Bool.Decides.{nat_tests}
use Rattle.std.proofs.lemmas.List.{length-replicate, length-set}
use Rattle.std.proofs.lemmas.List.Elements.{Contains-push, Contains-push_cases, Contains-append_left, Contains-append_right, Contains-append_cases}
use Rattle.pt_ranges.specs.declared.handlers.Handler.{Handler}
use Rattle.pt_ranges.specs.Rows.{covers}
use Rattle.pt_code.specs.View.{Ins}
use Rattle.pt_sizes.specs.Flow.{entry, is_under}
use Rattle.pt_sizes.specs.Waiting.{AllWait, Level, Waits}
use Rattle.pt_sizes.proofs.Tables.{entry_after, entry_grow, entry_here, entry_none, some_or_none}
use Rattle.pt_step_graph.proofs.Numbers.{none_in, only_one, the_one}
use Rattle.sem_fits.specs.fits.Block.{Block, effect, kinds_at_start}
use Rattle.sem_fits.specs.fits.Steps.{target_of}
use Rattle.pt_verify_depths.specs.Sizes as S
use Rattle.pt_verify_depths.specs.Sizes.{SizeStep, Sized, SizesMeet, left, leaves_enough, landing_size, handler_sizes, size_steps, size_steps_of, sized}
use Rattle.pt_block_kinds.specs.Graph.{IsSeen}
use Rattle.pt_block_kinds.proofs.Lists.{filter_has, in_filter, in_map, map_has}
use Rattle.pt_single_sizes.specs.Single.{AreSingle, own_steps}
use Rattle.pt_single_sizes.specs.Search.{Known, Spreads, Went}

module _ (b : Block) (p count : ℕ) (seen : IsSeen b count) where
  abbrev own : (q n : ℕ) → Ins → List SizeStep
  own q n i = own_steps (effect b.links i.instr) n q i.next (target_of i.instr)

  -- the ways on are those of an instruction itself, and to the rows that cover it
  is_way : (q n : ℕ) (i : Ins) (s : SizeStep) → b.at q ≡ Some i
      → Contains (own q n i) s ⊎ Contains (handler_sizes (effect b.links i.instr) n i.rows) s → Contains (size_steps b q n) s
  is_way q n i s e c = subst (λ o. Contains (size_steps_of b.links q n o) s) (sym e) (elim c [
    | inl d ↦ Contains-append_left (own q n i) (handler_sizes (effect b.links i.instr) n i.rows) s d
    | inr d ↦ Contains-append_right (own q n i) (handler_sizes (effect b.links i.instr) n i.rows) s d
  ])

  by_way : (q n : ℕ) (i : Ins) (s : SizeStep) → b.at q ≡ Some i → Contains (size_steps b q n) s
      → Contains (own q n i) s ⊎ Contains (handler_sizes (effect b.links i.instr) n i.rows) s
  by_way q n i s e c = Contains-append_cases (own q n i) (handler_sizes (effect b.links i.instr) n i.rows) s (subst (λ o. Contains (size_steps_of b.links q n o) s) e c)

  lands : (q n : ℕ) (i : Ins) (row : Handler) → b.at q ≡ Some i → Contains b.handlers row → is_under row q ≡ true → row.depth ≤ left (effect b.links i.instr) n
      → Contains (size_steps b q n) (landing_size row)
  lands q n i row e c u h = is_way q n i (landing_size row) e (inr (map_has landing_size (filter (leaves_enough (effect b.links i.instr) n) i.rows) row
      (filter_has (leaves_enough (effect b.links i.instr) n) i.rows row
      (subst (λ rs. Contains rs row) (sym (seen.rows q i e)) (filter_has (λ r. covers r (record { 0 = q })) b.handlers row c u))
      (le-leb row.depth (left (effect b.links i.instr) n) h))))

  pub record Landing (q n : ℕ) (i : Ins) (s : SizeStep) : Type 0 where
    pub row : Handler
    pub among : Contains b.handlers row
    pub under : is_under row q ≡ true
    pub within : row.depth ≤ left (effect b.links i.instr) n
    pub is : landing_size row ≡ s

  landed : (q n : ℕ) (i : Ins) (s : SizeStep) → b.at q ≡ Some i → Contains (handler_sizes (effect b.links i.instr) n i.rows) s → Landing q n i s
  landed q n i s e c =
      let (row, (k, f)) = in_map landing_size (filter (leaves_enough (effect b.links i.instr) n) i.rows) s c in
      let (d, t) = in_filter (leaves_enough (effect b.links i.instr) n) i.rows row k in
      let (a, u) = in_filter (λ r. covers r (record { 0 = q })) b.handlers row (subst (λ rs. Contains rs row) (seen.rows q i e) d) in
      record { row = row; among = a; under = u; within = leb-true row.depth (left (effect b.links i.instr) n) t; is = f }

  module _ (T T' : List (Option ℕ)) (V W : List SizeStep) (levels levels' : List Level) (o : Spreads b p count T V levels) (long : length T' ≡ length T)
      (keep : (s : SizeStep) → Contains V s → Known b T' W s)
      (grow : (q n : ℕ) → entry T q ≡ Some n → entry T' q ≡ Some n)
      (sound : (q n : ℕ) → entry T' q ≡ Some n → Sized b p q n)
      (due : (s : SizeStep) → Contains W s → (i : Ins) → b.at s.to ≡ Some i → Sized b p s.to s.size)
      (fewer : (q : ℕ) (row : Handler) → Waits levels' q row → Waits levels q row)
      (on : (q : ℕ) (row : Handler) → Waits levels q row → Waits levels' q row ⊎ Contains W (landing_size row))
      (new : (q n : ℕ) (i : Ins) → q ≤ p → entry T' q ≡ Some n → b.at q ≡ Some i
      → (entry T q ≡ Some n) ⊎ ((s : SizeStep) → Contains (size_steps b q n) s → Known b T' W s)) where
    known_on : (s : SizeStep) → Known b T V s → Known b T' W s
    known_on s (inl h) = inl (grow s.to s.size h)
    known_on s (inr (inl h)) = inr (inl h)
    known_on s (inr (inr c)) = keep s c

    rest_on : (q : ℕ) (row : Handler) → Waits levels q row ⊎ Known b T V (landing_size row) → Waits levels' q row ⊎ Known b T' W (landing_size row)
    rest_on q row (inl w) = elim (on q row w) [ inl x ↦ inl x | inr c ↦ inr (inr (inr c)) ]
    rest_on q row (inr k) = inr (known_on (landing_size row) k)

    spreads_on : Spreads b p count T' W levels'
    spreads_on = record {
      long = long ∙ o.long;
      start = λ i e. known_on (sized 0 (length (kinds_at_start b.kind))) (o.start i e);
      sound = sound;
      due = due;
      waits = λ q row w. o.waits q row (fewer q row w);
      rest = λ q row lt c u. rest_on q row (o.rest q row lt c u);
      goes_on = λ q n i le h e s c. elim (new q n i le h e) [ inl k ↦ known_on s (o.goes_on q n i le k e s c) | inr f ↦ f s c ];
    }

  -- the way on that is due
  module _ (T : List (Option ℕ)) (W : List SizeStep) (levels : List Level) (s : SizeStep) (o : Spreads b p count T (W ++ s ∷ []) levels) where
    due_left : (r : SizeStep) → Contains W r → (i : Ins) → b.at r.to ≡ Some i → Sized b p r.to r.size
    due_left r c = o.due r (Contains-append_left W (s ∷ []) r c)

    keep_left : (T' : List (Option ℕ)) → Known b T' W s → (r : SizeStep) → Contains (W ++ s ∷ []) r → Known b T' W r
    keep_left T' here r c = elim (Contains-push_cases W s r c) [ inl a ↦ inr (inr a) | inr same ↦ subst (λ (x : SizeStep). Known b T' W x) same here ]

    known : Known b T W s → Spreads b p count T W levels
    known here = spreads_on T T (W ++ s ∷ []) W levels levels o refl (keep_left T here) (λ q n k. k) o.sound due_left (λ q row w. w) (λ q row w. inl w) (λ q n i le h e. inl h)

    -- no instruction stands there
    pub passed : b.at s.to ≡ None → Spreads b p count T W levels
    passed none = known (inr (inl none))

    -- the place has a size already, and gets no other one
    pub met : (SizesMeet b p → ⊥) → (n : ℕ) → entry T s.to ≡ Some n → Spreads b p count T W levels
    met none n h = by (b.at s.to) refl
      where
        same : (i : Ins) → b.at s.to ≡ Some i → (t : Bool) → nat_eq n s.size ≡ t → n ≡ s.size
        same i e true t = grind (arith, nat_tests)
        same i e false t = absurd (none (S.two (o.sound s.to n h) (o.due s (Contains-push W s) i e) t))

        by : (x : Option Ins) → b.at s.to ≡ x → Spreads b p count T W levels
        by None e = passed e
        by (Some i) e = known (inl (h ∙ ap (λ m. Some m) (same i e (nat_eq n s.size) refl)))

    module _ (i : Ins) (is : b.at s.to ≡ Some i) (none : entry T s.to ≡ None) where
      abbrev T' : List (Option ℕ)
      T' = set T s.to (Some s.size)

      got : Sized b p s.to s.size
      got = o.due s (Contains-push W s) i is

      here : entry T' s.to ≡ Some s.size
      here = entry_here T s.to s.size (subst (λ n. s.to < n) (sym o.long) (seen.below s.to i is))

      grow_set : (q n : ℕ) → entry T q ≡ Some n → entry T' q ≡ Some n
      grow_set q n k = entry_grow T s.to s.size q n none k

      sound_set : (q n : ℕ) → entry T' q ≡ Some n → Sized b p q n
      sound_set q n h = elim (entry_after T s.to s.size q n h) [ inl a ↦ o.sound q n a | inr (a, c) ↦ rw (a, c) got ]

      -- it lies behind the limit
      pub ends : p < s.to → Spreads b p count T' W levels
      ends lt = spreads_on T T' (W ++ s ∷ []) W levels levels o (length-set T s.to (Some s.size)) (keep_left T' (inl here)) grow_set sound_set due_left
          (λ q row w. w) (λ q row w. inl w)
          (λ q n j le h e. elim (entry_after T s.to s.size q n h) [ inl a ↦ inl a | inr (a, c) ↦ absurd (omega (arith, a, lt, le)) ])

      module _ (le : s.to ≤ p) (W' : List SizeStep) (levels' : List Level)
          (w : Went (effect b.links i.instr) s.to s.size i.next (target_of i.instr) T' T' W W' levels levels') where
        into : (r : SizeStep) → Contains (W ++ own s.to s.size i) r → Contains W' r
        into r c = w.landed.landed.kept r (subst (λ xs. Contains xs r) (sym w.own) c)

        goes : (r : SizeStep) → Contains (size_steps b s.to s.size) r → (j : Ins) → b.at r.to ≡ Some j → Sized b p r.to r.size
        goes r c j e = S.onward got le c j e

        due_now : (r : SizeStep) → Contains W' r → (j : Ins) → b.at r.to ≡ Some j → Sized b p r.to r.size
        due_now r c j e = elim (w.landed.landed.came r c) [
          | inl a ↦ elim (Contains-append_cases W (own s.to s.size i) r (subst (λ xs. Contains xs r) w.own a)) [
            | inl x ↦ due_left r x j e
            | inr x ↦ goes r (is_way s.to s.size i r is (inl x)) j e
          ]
          | inr (row, (x, (h, same))) ↦ (let k = o.waits s.to row x in goes r (subst (λ y. Contains (size_steps b s.to s.size) y) same (lands s.to s.size i row is k.0 k.1 h)) j e)
        ]

        keep_now : (r : SizeStep) → Contains (W ++ s ∷ []) r → Known b T' W' r
        keep_now r c = elim (Contains-push_cases W s r c) [
          | inl a ↦ inr (inr (into r (Contains-append_left W (own s.to s.size i) r a)))
          | inr same ↦ subst (λ (x : SizeStep). Known b T' W' x) same (inl here)
        ]

        known_now : (r : SizeStep) → Known b T (W ++ s ∷ []) r → Known b T' W' r
        known_now r (inl h) = inl (grow_set r.to r.size h)
        known_now r (inr (inl h)) = inr (inl h)
        known_now r (inr (inr c)) = keep_now r c

        to_row : (r : SizeStep) → Landing s.to s.size i r → Known b T' W' r
        to_row r l = subst (λ (x : SizeStep). Known b T' W' x) l.is (elim (o.rest s.to l.row (seen.below s.to i is) l.among l.under) [
          | inl x ↦ elim (w.landed.landed.on s.to l.row x) [ inl y ↦ absurd (w.landed.landed.clear l.row y l.within) | inr c ↦ inr (inr c) ]
          | inr k ↦ known_now (landing_size l.row) k
        ])

        all_known : (r : SizeStep) → Contains (size_steps b s.to s.size) r → Known b T' W' r
        all_known r c = elim (by_way s.to s.size i r is c) [
          | inl a ↦ inr (inr (into r (Contains-append_right W (own s.to s.size i) r a)))
          | inr a ↦ to_row r (landed s.to s.size i r is a)
        ]

        known_at : (q n : ℕ) → q ≡ s.to → n ≡ s.size → (r : SizeStep) → Contains (size_steps b q n) r → Known b T' W' r
        known_at q n a c r d = all_known r (subst (λ m. Contains (size_steps b s.to m) r) c (subst (λ x. Contains (size_steps b x n) r) a d))

        pub goes_on : Spreads b p count T' W' levels'
        goes_on = spreads_on T T' (W ++ s ∷ []) W' levels levels' o (length-set T s.to (Some s.size)) keep_now grow_set sound_set due_now
            w.landed.landed.fewer w.landed.landed.on
            (λ q n j le h e. elim (entry_after T s.to s.size q n h) [ inl a ↦ inl a | inr (a, c) ↦ inr (known_at q n a c) ])

  -- nothing is due
  module _ (T : List (Option ℕ)) (levels : List Level) (o : Spreads b p count T [] levels) where
    known_there : (s : SizeStep) (i : Ins) → b.at s.to ≡ Some i → Known b T [] s → entry T s.to ≡ Some s.size
    known_there s i e (inl h) = h
    known_there s i e (inr (inl h)) = absurd (some_or_none i (sym e ∙ h))
    known_there s i e (inr (inr c)) = absurd (none_in s c)

    whole : (q n : ℕ) → Sized b p q n → entry T q ≡ Some n
    whole _ _ (S.start i e) = known_there (sized 0 (length (kinds_at_start b.kind))) i e (o.start i e)
    whole _ _ (S.onward {q} {r} {n} {m} s le c i e) = by (whole q n s) (b.at q) refl
      where
        by : entry T q ≡ Some n → (x : Option Ins) → b.at q ≡ x → entry T r ≡ Some m
        by h None f = absurd (none_in (sized r m) (subst (λ x. Contains (size_steps_of b.links q n x) (sized r m)) f c))
        by h (Some j) f = known_there (sized r m) i e (o.goes_on q n j le h f (sized r m) c)

    pub are_single : AreSingle b p T
    are_single = record { sound = o.sound; whole = whole }

  -- the first place alone is due
  pub opening : (levels : List Level) → AllWait b.handlers count levels
      → Spreads b p count (replicate count None) (sized 0 (length (kinds_at_start b.kind)) ∷ []) levels
  opening levels all = record {
    long = length-replicate count None;
    start = λ i e. inr (inr (the_one (sized 0 (length (kinds_at_start b.kind)))));
    sound = λ q n e. absurd (some_or_none n (sym e ∙ entry_none count q));
    due = λ s c i e. first s c i e;
    waits = all.known;
    rest = λ q row lt c u. inl (all.whole q row lt c u);
    goes_on = λ q n i le h. absurd (some_or_none n (sym h ∙ entry_none count q));
  }
    where
      first : (s : SizeStep) → Contains (sized 0 (length (kinds_at_start b.kind)) ∷ []) s → (i : Ins) → b.at s.to ≡ Some i → Sized b p s.to s.size
      first s c i e = by s (only_one (sized 0 (length (kinds_at_start b.kind))) s c) i e
        where
          by : (s : SizeStep) → sized 0 (length (kinds_at_start b.kind)) ≡ s → (i : Ins) → b.at s.to ≡ Some i → Sized b p s.to s.size
          by s same = subst (λ (x : SizeStep). (i : Ins) → b.at x.to ≡ Some i → Sized b p x.to x.size) same (λ i e. S.start i e)
