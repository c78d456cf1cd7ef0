-- What a log that counts lines has taken, of one piece more; and what it tells of the log below, from where it begins to where it ends.
use Rattle.std.proofs.Common.{◌≡◌, ◌∙◌, ◌+◌, ◌*◌, ◌<◌, ◌≤◌, ℕ, zero, suc, Bool, true, false, cond, List, [], ◌∷◌, ◌++◌, take, inl, inr, refl, sym, ap, subst, append_assoc, append-nil, arith}
use Rattle.pt_base.specs.Faults.{Rose}
use Rattle.pt_base.specs.Taken.{Pieces, Takes, TakesFront, TookFront}
use Rattle.pt_cover.specs.Counts.{lines_begun}
use Rattle.pt_cover.specs.Fixed.{pair, faults_within, fixed}
use Rattle.pt_cover.specs.Numbers.{limited}
use Rattle.pt_cover.specs.Pieces.{Text, is_line, kind_of}
use Rattle.pt_cover.specs.Reports.{if_asked}
use Rattle.pt_cover.specs.Since.{TookSince, bit, start_of}
use Rattle.pt_cover.proofs.FixedLemmas as below
use Rattle.pt_cover.proofs.FixedLemmas.{pair-first, pair-second}
use Rattle.pt_cover.proofs.ListLemmas.{count-snoc}
use Rattle.pt_cover.proofs.PassedLemmas.{front-mapped}
use Rattle.pt_cover.proofs.SinceLemmas.{same-first, same-later}
use Rattle.pt_generated.specs.Lines.{CountsLines, HasTakenLines, counted_then, events_key, line_count, told_faults, unchanged}

-- a piece more
limited-behind : (n : ℕ) → limited (limited n + 1) ≡ limited (n + 1)
limited-behind n = omega arith

limited-none : (n : ℕ) → limited n ≡ limited (n + 0)
limited-none n = omega arith

count-by : (b : Bool) (n m : ℕ) → n ≡ limited m → cond b (limited (n + 1)) n ≡ limited (m + cond b 1 0)
count-by true n m e = ap (λ k. limited (k + 1)) e ∙ limited-behind m
count-by false n m e = e ∙ limited-none m

count-then : (n : ℕ) (h : Pieces) (p : Text) → n ≡ line_count h → counted_then n p ≡ line_count (h ++ p ∷ [])
count-then n h p e =
    count-by (is_line (kind_of p)) n (lines_begun h) e ∙ ap limited (sym (count-snoc (λ q. is_line (kind_of q)) h p))

module _ (n : ℕ) (p : Text) where
  more-counted : (g h : Pieces) → CountsLines n g h → CountsLines (counted_then n p) g (h ++ p ∷ [])
  more-counted g h t = record { starts = t.starts; counts = count-then n h p t.counts }

  -- where nothing is passed on
  pub counted-takes : (e : Bool) (Log : Pieces → Pieces → Type 0) → e ≡ false → Takes (HasTakenLines n e Log) (HasTakenLines (counted_then n p) e Log) (p ∷ [])
  counted-takes true Log is g h t = absurd (let no : ◌≡◌ {A = Bool} true false = is in cc)
  counted-takes false Log is g h t = elim t [ inl c ↦ inl (more-counted g h c) | inr s ↦ inr s ]

  -- where the piece is passed on whole
  pub passed-takes : (e : Bool) (old new : Pieces → Pieces → Type 0) → e ≡ true → Takes old new (p ∷ [])
      → Takes (HasTakenLines n e old) (HasTakenLines (counted_then n p) e new) (p ∷ [])
  passed-takes false old new is took g h t = absurd (let no : ◌≡◌ {A = Bool} false true = is in cc)
  passed-takes true old new is took g h t = elim t [
    | inl c ↦ inl (more-counted g h c)
    | inr s ↦ inr (record {
      first = s.first;
      later = s.later;
      starts = s.starts;
      took = subst (new s.first) (append_assoc s.later h (p ∷ [])) (took s.first (s.later ++ h) s.took);
    })
  ]

  -- a front of what comes later than the first pieces, as a front since the start
  since-front : (new : Pieces → Pieces → Type 0) (g h first later : Pieces) → g ≡ start_of (events_key true) first later
      → TookFront (new first) (later ++ h) (p ∷ []) → TookFront (HasTakenLines n true new g) h (p ∷ [])
  since-front new g h first later is t = elim t [
    | inl a ↦ inl (inr (record { first = first; later = later; starts = is; took = a }))
    | inr b ↦ inr (elim b [
      | inl c ↦ inl (c.0, inr (record { first = first; later = later; starts = is; took = subst (new first) (append_assoc later h (take c.0 p ∷ [])) c.1 }))
      | inr d ↦ inr (inr (record { first = first; later = later; starts = is; took = subst (new first) (append_assoc later h (p ∷ [])) d }))
    ])
  ]

  -- where it is passed on in part
  pub passed-front : (e : Bool) (old new : Pieces → Pieces → Type 0) → e ≡ true → TakesFront old new (p ∷ [])
      → TakesFront (HasTakenLines n e old) (HasTakenLines n e new) (p ∷ [])
  passed-front false old new is took = absurd (let no : ◌≡◌ {A = Bool} false true = is in cc)
  passed-front true old new is took = record {
    front = λ g h t. elim t [
      | inl c ↦ inl (inl c)
      | inr s ↦ since-front new g h s.first s.later s.starts (took.front s.first (s.later ++ h) s.took)
    ];
  }

-- a call of the log below never leads beyond its bound
module _ (e : Bool) (passes : e ≡ true) (n n' f f' m m' : ℕ) (later : f ≤ f') (most : m' ≡ m) (counted : f' ≤ m') where
  never : m' < f' → f' ≡ f
  never beyond = absurd (omega (arith, beyond, counted))

  pub faults-later : told_faults e f m ≤ told_faults e f' m'
  faults-later = subst (λ b. told_faults b f m ≤ told_faults b f' m') (sym passes) (below.goes-on f f' m m' later most never)

  pub faults-rise : Rose f f' → Rose (told_faults e f m) (told_faults e f' m')
  faults-rise rose =
      subst (λ b. Rose (told_faults b f m) (told_faults b f' m')) (sym passes) (below.rose-within f f' m m' later most never (rose, counted))

  pub still-unchanged : n' ≡ n → unchanged e n' f' m' ≡ unchanged e n f m
  still-unchanged same =
      subst (λ b. unchanged b n' f' m' ≡ unchanged b n f m) (sym passes) (ap (pair 1) (below.same-fixed f f' m m' later most never n n' same))

second-within : (a b : ℕ) → b ≤ pair a b
second-within a zero = omega arith
second-within a (suc b) =
    let square : (a + suc b) * (a + suc b) ≡ (a + b) * (a + b) + 2 * (a + b) + 1 = grind arith in
    omega (arith, square)

pub faults-bounded : (e : Bool) (n f m : ℕ) → told_faults e f m ≤ unchanged e n f m
faults-bounded true n f m = omega (arith, below.within-fixed n f m, second-within 1 (fixed n f m))
faults-bounded false n f m = omega arith

-- what such a log tells of the log below, behind calls of it
one-or-none : ◌≡◌ {A = ℕ} 1 0 → ⊥
one-or-none e = absurd (omega (arith, e))

module _ (e e' : Bool) (n n' f f' m m' : ℕ) (same : unchanged e' n' f' m' ≡ unchanged e n f m) where
  -- from what doesn't change
  of-both : (P : Bool → Bool → Type 0)
      → (fixed n' f' m' ≡ fixed n f m → P true true)
      → (pair m' (pair n' f') ≡ pair m (pair n f) → P false false) → P e e'
  of-both P passing silent = go e e' same
    where
      go : (b c : Bool) → unchanged c n' f' m' ≡ unchanged b n f m → P b c
      go true true x = passing (pair-second 1 _ 1 _ x)
      go true false x = absurd (one-or-none (sym (pair-first 0 _ 1 _ x)))
      go false true x = absurd (one-or-none (pair-first 1 _ 0 _ x))
      go false false x = silent (pair-second 0 _ 0 _ x)

  pub same-events : e' ≡ e
  same-events = of-both (λ b c. c ≡ b) (λ x. refl) (λ x. refl)

  pub same-name : n' ≡ n
  same-name = of-both (λ b c. n' ≡ n) (below.same-name n n' f f' m m') (λ x. pair-first n' f' n f (pair-second m' _ m _ x))

  pub same-most : m' ≡ m
  same-most = of-both (λ b c. m' ≡ m) (below.same-most n n' f f' m m') (λ x. pair-first m' _ m _ x)

  pub went-on : told_faults e f m ≤ told_faults e' f' m' → f ≤ f'
  went-on = of-both (λ b c. told_faults b f m ≤ told_faults c f' m' → f ≤ f') (below.went-on n n' f f' m m')
      (λ x l. let z : f' ≡ f = pair-second n' f' n f (pair-second m' _ m _ x) in omega (arith, z))

  pub rose : Rose (told_faults e f m) (told_faults e' f' m') → (e ≡ true) × (Rose f f' × (f' ≤ m'))
  rose = of-both (λ b c. Rose (told_faults b f m) (told_faults c f' m') → (b ≡ true) × (Rose f f' × (f' ≤ m')))
      (λ x r. (refl, below.rose n n' f f' m m' x r)) (λ x r. absurd (omega (arith, r)))

-- the log that counts, as it begins and as it ends
module _ (n : ℕ) (e : Bool) (old : Pieces → Pieces → Type 0) (none : n ≡ 0) where
  pub counts-nothing : HasTakenLines n e old [] []
  counts-nothing = inl (record { starts = refl; counts = none })

  asked-nothing : (b : Bool) → if_asked b [] ≡ []
  asked-nothing true = refl
  asked-nothing false = refl

  pub begins : (g h : Pieces) → old g h → HasTakenLines n e old (start_of (events_key e) g h) []
  begins g h took = inr (record {
    first = g;
    later = h;
    starts = refl;
    took = subst (old g) (sym (ap (λ ps. h ++ ps) (asked-nothing e) ∙ append-nil h)) took;
  })

module _ (n : ℕ) (e : Bool) (new : Pieces → Pieces → Type 0) where
  pub has-counted : (ps : Pieces) → HasTakenLines n e new [] ps → n ≡ line_count ps
  has-counted ps t = elim t [ inl c ↦ c.counts | inr s ↦ absurd (let no : [] ≡ start_of (events_key e) s.first s.later = s.starts in cc) ]

  pub has-taken : (g h ps : Pieces) → HasTakenLines n e new (start_of (events_key e) g h) ps → new g (h ++ if_asked e ps)
  has-taken g h ps t = elim t [
    | inl c ↦ absurd (let no : start_of (events_key e) g h ≡ [] = c.starts in cc)
    | inr s ↦
        let first : g ≡ s.first = same-first (events_key e) (events_key e) g s.first h s.later s.starts in
        let later : h ≡ s.later = same-later (events_key e) (events_key e) g s.first h s.later s.starts in
        subst (λ X. X) (λ i. new (sym first i) (sym later i ++ if_asked e ps)) s.took
  ]

  -- a front of pieces behind others, where they are passed on
  module _ (passes : e ≡ true) (g h : Pieces) where
    taken-since : (q : Pieces) → HasTakenLines n e new (start_of (events_key e) g h) q → new g (h ++ q)
    taken-since q t = subst (λ b. new g (h ++ if_asked b q)) passes (has-taken g h q t)

    pub has-front : (q ps : Pieces) → TookFront (HasTakenLines n e new (start_of (events_key e) g h)) q ps → TookFront (new g) (h ++ q) ps
    has-front q [] t = taken-since q t
    has-front q (p ∷ ps) t = elim t [
      | inl a ↦ inl (taken-since q a)
      | inr b ↦ inr (elim b [
        | inl c ↦ inl (c.0, subst (new g) (sym (append_assoc h q (take c.0 p ∷ []))) (taken-since (q ++ take c.0 p ∷ []) c.1))
        | inr d ↦ inr (subst (λ r. TookFront (new g) r ps) (sym (append_assoc h q (p ∷ []))) (has-front (q ++ p ∷ []) ps d))
      ])
    ]

  -- and where they aren't
  module _ (silent : e ≡ false) (g h : Pieces) where
    nothing-since : (q : Pieces) → HasTakenLines n e new (start_of (events_key e) g h) q → new g h
    nothing-since q t = subst (new g) (append-nil h) (subst (λ b. new g (h ++ if_asked b q)) silent (has-taken g h q t))

    pub nothing-taken : (q ps : Pieces) → TookFront (HasTakenLines n e new (start_of (events_key e) g h)) q ps → new g h
    nothing-taken q [] t = nothing-since q t
    nothing-taken q (p ∷ ps) t = elim t [
      | inl a ↦ nothing-since q a
      | inr b ↦ elim b [ inl c ↦ nothing-since (q ++ take c.0 p ∷ []) c.1 | inr d ↦ nothing-taken (q ++ p ∷ []) ps d ]
    ]
