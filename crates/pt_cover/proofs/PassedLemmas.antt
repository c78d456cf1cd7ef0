-- Pieces that are passed on behind others.
use Rattle.std.proofs.Common.{◌≡◌, Bool, true, false, List, [], ◌∷◌, ◌++◌, ℕ, take, Option, Some, None, Result, Ok, Err, inl, inr, refl, sym, subst, append_assoc, append-nil}
use Rattle.std.specs.Prelude.{is_some, ◌⊎◌}
use Rattle.std.proofs.lemmas.Bool.{false≢true}
use Rattle.pt_base.specs.Taken.{Pieces, Takes, TookFront, TakesFront}
use Rattle.pt_base.proofs.TakenLemmas.{takes_then_front, front_of_more}
use Rattle.pt_base.specs.declared.sink.SinkErr.{SinkErr}
use Rattle.pt_cover.specs.Passed.{Passed, PassesOn, first_failure}
use Rattle.pt_cover.specs.Since.{TookSince, start_of}

-- a front of some pieces is a front of more
pub front-more : (Took : Pieces → Type 0) (ps qs : Pieces) → TookFront Took [] ps → TookFront Took [] (ps ++ qs)
front-more Took ps qs t =
    (front_of_more (λ _ h. h ≡ []) (λ _. Took) ps qs (record { front = λ g h e. subst (λ q. TookFront Took q ps) (sym e) t })).front [] [] refl

-- and so is a front of what stands behind them
pub front-behind : (Took : Pieces → Type 0) (ps qs : Pieces) → TookFront Took ps qs → TookFront Took [] (ps ++ qs)
front-behind Took ps qs t =
    (takes_then_front (λ _ h. h ≡ []) (λ _ h. h ≡ ps) (λ _. Took) ps qs (λ g h e. subst (λ q. q ++ ps ≡ ps) (sym e) refl)
    (record { front = λ g h e. subst (λ q. TookFront Took q qs) (sym e) t })).front [] [] refl

-- a front, and pieces behind which a test is made, of another test
pub front-mapped : (T U : Pieces → Type 0) → ((ps : Pieces) → T ps → U ps) → (h ps : Pieces) → TookFront T h ps → TookFront U h ps
front-mapped T U f h [] t = f h t
front-mapped T U f h (p ∷ ps) t = elim t [
  | inl a ↦ inl (f h a)
  | inr b ↦ inr (elim b [ inl c ↦ inl (c.0, f (h ++ take c.0 p ∷ []) c.1) | inr d ↦ inr (front-mapped T U f (h ++ p ∷ []) ps d) ])
]

pub passed-mapped : (failed : Option SinkErr) (T U : Pieces → Type 0) → ((ps : Pieces) → T ps → U ps) → (h : Pieces) → Passed failed T h → Passed failed U h
passed-mapped None T U f h t = f h t
passed-mapped (Some error) T U f h t = front-mapped T U f [] h t

-- the front of what is taken later than the first pieces
front-later : (T : Pieces → Type 0) (later h ps : Pieces) → TookFront T (later ++ h) ps → TookFront (λ qs. T (later ++ qs)) h ps
front-later T later h [] t = t
front-later T later h (p ∷ ps) t = elim t [
  | inl a ↦ inl a
  | inr b ↦ inr (elim b [
    | inl c ↦ inl (c.0, subst T (append_assoc later h (take c.0 p ∷ [])) c.1)
    | inr d ↦ inr (front-later T later (h ++ p ∷ []) ps (subst (λ qs. TookFront T qs ps) (append_assoc later h (p ∷ [])) d))
  ])
]

-- where a write failed before, nothing is passed on
pub silent : (f : Option SinkErr) (old : Pieces → Pieces → Type 0) (qs : Pieces) → is_some f ≡ true → PassesOn f f old old qs
silent (Some error) old qs e = λ first later h t. front-more (λ ps. old first (later ++ ps)) h qs t
silent None old qs e = absurd (false≢true e)

pub nothing-on : (f : Option SinkErr) (old : Pieces → Pieces → Type 0) → PassesOn f f old old []
nothing-on f old first later h t = subst (Passed f (λ ps. old first (later ++ ps))) (sym (append-nil h)) t

-- where none did, as this one answers
pub whole : (f : Option SinkErr) (old new : Pieces → Pieces → Type 0) (qs : Pieces) → is_some f ≡ false → Takes old new qs → PassesOn f f old new qs
whole (Some error) old new qs e took = absurd (false≢true (sym e))
whole None old new qs e took = λ first later h t. subst (new first) (append_assoc later h qs) (took first (later ++ h) t)

pub in_part : (f : Option SinkErr) (error : SinkErr) (old new : Pieces → Pieces → Type 0) (qs : Pieces) → is_some f ≡ false → TakesFront old new qs
    → PassesOn f (Some error) old new qs
in_part (Some other) error old new qs e took = absurd (false≢true (sym e))
in_part None error old new qs e took =
    λ first later h t. front-behind (λ ps. new first (later ++ ps)) h qs (front-later (new first) later h qs (took.front first (later ++ h) t))

pub first_now : (f : Option SinkErr) (error : SinkErr) → is_some f ≡ false → Some error ≡ first_failure f (Err error)
first_now (Some other) error e = absurd (false≢true (sym e))
first_now None error e = refl

-- an answer that is Ok changes nothing
pub failure-ok : (f : Option SinkErr) (u : Unit {0}) → first_failure f (Ok u) ≡ f
failure-ok (Some e) u = refl
failure-ok None u = refl

-- where a write has failed, what would come behind it is passed on too
pub on-further : (f f' : Option SinkErr) (error : SinkErr) (old new : Pieces → Pieces → Type 0) (ps qs : Pieces) → f' ≡ first_failure f (Err error)
    → PassesOn f f' old new ps → PassesOn f f' old new (ps ++ qs)
on-further f f' error old new ps qs is on first later h t =
    subst (Passed f' (λ rs. new first (later ++ rs))) (append_assoc h ps qs) (go f is (on first later h t))
  where
    go : (x : Option SinkErr) → f' ≡ first_failure x (Err error) → Passed f' (λ rs. new first (later ++ rs)) (h ++ ps)
        → Passed f' (λ rs. new first (later ++ rs)) ((h ++ ps) ++ qs)
    go (Some e) same had = subst (λ y. Passed y (λ rs. new first (later ++ rs)) ((h ++ ps) ++ qs)) (sym same)
        (front-more (λ rs. new first (later ++ rs)) (h ++ ps) qs (subst (λ y. Passed y (λ rs. new first (later ++ rs)) (h ++ ps)) same had))
    go None same had = subst (λ y. Passed y (λ rs. new first (later ++ rs)) ((h ++ ps) ++ qs)) (sym same)
        (front-more (λ rs. new first (later ++ rs)) (h ++ ps) qs (subst (λ y. Passed y (λ rs. new first (later ++ rs)) (h ++ ps)) same had))

pub on-then : (f f' f'' : Option SinkErr) (old mid new : Pieces → Pieces → Type 0) (ps qs : Pieces) → PassesOn f f' old mid ps → PassesOn f' f'' mid new qs
    → PassesOn f f'' old new (ps ++ qs)
on-then f f' f'' old mid new ps qs a b first later h t =
    subst (Passed f'' (λ rs. new first (later ++ rs))) (append_assoc h ps qs) (b first later (h ++ ps) (a first later h t))

-- what was passed on since a start
pub record Split (failed : Option SinkErr) (key : Pieces) (Taken : Pieces → Pieces → Type 0) (start h : Pieces) : Type 0 where
  pub first : Pieces
  pub later : Pieces
  pub starts : start ≡ start_of key first later
  pub passed : Passed failed (λ ps. Taken first (later ++ ps)) h

pub record FrontSplit (key : Pieces) (Taken : Pieces → Pieces → Type 0) (start h ps : Pieces) : Type 0 where
  first : Pieces
  later : Pieces
  starts : start ≡ start_of key first later
  front : TookFront (λ qs. Taken first (later ++ qs)) h ps

split-front : (key : Pieces) (Taken : Pieces → Pieces → Type 0) (start h ps : Pieces) → TookFront (TookSince key Taken start) h ps
    → FrontSplit key Taken start h ps
split-front key Taken start h [] t = record { first = t.first; later = t.later; starts = t.starts; front = t.took }
split-front key Taken start h (p ∷ ps) t = elim t [
  | inl a ↦ record { first = a.first; later = a.later; starts = a.starts; front = inl a.took }
  | inr b ↦ elim b [
    | inl c ↦ record { first = c.1.first; later = c.1.later; starts = c.1.starts; front = inr (inl (c.0, c.1.took)) }
    | inr d ↦ let s = split-front key Taken start (h ++ p ∷ []) ps d in
        record { first = s.first; later = s.later; starts = s.starts; front = inr (inr s.front) }
  ]
]

pub split-since : (failed : Option SinkErr) (key : Pieces) (Taken : Pieces → Pieces → Type 0) (start h : Pieces)
    → Passed failed (TookSince key Taken start) h → Split failed key Taken start h
split-since None key Taken start h t = record { first = t.first; later = t.later; starts = t.starts; passed = t.took }
split-since (Some error) key Taken start h t = let s = split-front key Taken start [] h t in
    record { first = s.first; later = s.later; starts = s.starts; passed = s.front }

pub since : (f f' : Option SinkErr) (key : Pieces) (old new : Pieces → Pieces → Type 0) (qs : Pieces) → PassesOn f f' old new qs
    → (start h : Pieces) → Passed f (TookSince key old start) h → Passed f' (TookSince key new start) (h ++ qs)
since f f' key old new qs on start h t =
    let s = split-since f key old start h t in
    passed-mapped f' (λ ps. new s.first (s.later ++ ps)) (TookSince key new start)
    (λ ps took. record { first = s.first; later = s.later; starts = s.starts; took = took }) (h ++ qs) (on s.first s.later h s.passed)
