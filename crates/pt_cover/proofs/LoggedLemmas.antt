-- What the log gets of one piece more.
use Rattle.std.proofs.Common.{◌≡◌, ◌∙◌, Bool, true, false, cond, List, [], ◌∷◌, ◌++◌, refl, sym, ap, subst, inl, inr, append-nil, append_assoc}
use Rattle.std.specs.Prelude.{◌||◌}
use Rattle.std.specs.List.{list_any}
use Rattle.std.proofs.lemmas.Bool.{cases_Bool, false≢true}
use Rattle.std.proofs.lemmas.List.Folds.{list_any-append}
use Rattle.pt_base.specs.Taken.{Pieces}
use Rattle.pt_cover.specs.Pieces.{Text, is_totals, events_in, from_totals}
use Rattle.pt_cover.specs.Reports.{if_asked, from_report, logged}

-- behind the totals there are no events
pub events-over : (h : Pieces) (p : Text) → list_any is_totals h ≡ true → events_in (h ++ p ∷ []) ≡ events_in h
events-over [] p over = absurd (false≢true over)
events-over (x ∷ xs) p over = go (is_totals x) over (events-over xs p)
  where
    go : (b : Bool) → (b || list_any is_totals xs) ≡ true → (list_any is_totals xs ≡ true → events_in (xs ++ p ∷ []) ≡ events_in xs)
        → cond b [] (x ∷ events_in (xs ++ p ∷ [])) ≡ cond b [] (x ∷ events_in xs)
    go true = λ _ more. refl
    go false = λ later more. ap (λ es. x ∷ es) (more later)

totals-over : (h : Pieces) (p : Text) → list_any is_totals h ≡ true → from_totals (h ++ p ∷ []) ≡ from_totals h ++ p ∷ []
totals-over [] p over = absurd (false≢true over)
totals-over (x ∷ xs) p over = go (is_totals x) over (totals-over xs p)
  where
    go : (b : Bool) → (b || list_any is_totals xs) ≡ true → (list_any is_totals xs ≡ true → from_totals (xs ++ p ∷ []) ≡ from_totals xs ++ p ∷ [])
        → cond b (x ∷ (xs ++ p ∷ [])) (from_totals (xs ++ p ∷ [])) ≡ cond b (x ∷ xs) (from_totals xs) ++ p ∷ []
    go true = λ _ more. refl
    go false = λ later more. more later

some_totals : (h : Pieces) → list_any is_totals h ≡ true → (t : Text) × (later : Pieces) × (from_totals h ≡ t ∷ later)
some_totals [] over = absurd (false≢true over)
some_totals (x ∷ xs) over = go (is_totals x) over (some_totals xs)
  where
    go : (b : Bool) → (b || list_any is_totals xs) ≡ true
        → (list_any is_totals xs ≡ true → (t : Text) × (later : Pieces) × (from_totals xs ≡ t ∷ later))
        → (t : Text) × (later : Pieces) × (cond b (x ∷ xs) (from_totals xs) ≡ t ∷ later)
    go true = λ _ more. (x, xs, refl)
    go false = λ later more. more later

-- before them there are events alone
pub events-all : (h : Pieces) → list_any is_totals h ≡ false → events_in h ≡ h
events-all [] none = refl
events-all (x ∷ xs) none = go (is_totals x) none (events-all xs)
  where
    go : (b : Bool) → (b || list_any is_totals xs) ≡ false → (list_any is_totals xs ≡ false → events_in xs ≡ xs) → cond b [] (x ∷ events_in xs) ≡ x ∷ xs
    go true = λ some more. absurd (false≢true (sym some))
    go false = λ later more. ap (λ es. x ∷ es) (more later)

totals-none : (h : Pieces) → list_any is_totals h ≡ false → from_totals h ≡ []
totals-none [] none = refl
totals-none (x ∷ xs) none = go (is_totals x) none (totals-none xs)
  where
    go : (b : Bool) → (b || list_any is_totals xs) ≡ false → (list_any is_totals xs ≡ false → from_totals xs ≡ []) → cond b (x ∷ xs) (from_totals xs) ≡ []
    go true = λ some more. absurd (false≢true (sym some))
    go false = λ later more. more later

events-then : (h qs : Pieces) → list_any is_totals h ≡ false → events_in (h ++ qs) ≡ h ++ events_in qs
events-then [] qs none = refl
events-then (x ∷ xs) qs none = go (is_totals x) none (events-then xs qs)
  where
    go : (b : Bool) → (b || list_any is_totals xs) ≡ false → (list_any is_totals xs ≡ false → events_in (xs ++ qs) ≡ xs ++ events_in qs)
        → cond b [] (x ∷ events_in (xs ++ qs)) ≡ x ∷ (xs ++ events_in qs)
    go true = λ some more. absurd (false≢true (sym some))
    go false = λ later more. ap (λ es. x ∷ es) (more later)

totals-then : (h qs : Pieces) → list_any is_totals h ≡ false → from_totals (h ++ qs) ≡ from_totals qs
totals-then [] qs none = refl
totals-then (x ∷ xs) qs none = go (is_totals x) none (totals-then xs qs)
  where
    go : (b : Bool) → (b || list_any is_totals xs) ≡ false → (list_any is_totals xs ≡ false → from_totals (xs ++ qs) ≡ from_totals qs)
        → cond b (x ∷ (xs ++ qs)) (from_totals (xs ++ qs)) ≡ from_totals qs
    go true = λ some more. absurd (false≢true (sym some))
    go false = λ later more. more later

events-one : (p : Text) (b : Bool) → is_totals p ≡ b → events_in (p ∷ []) ≡ cond b [] (p ∷ [])
events-one p b e = ap (λ c. cond c [] (p ∷ [])) e

totals-one : (p : Text) (b : Bool) → is_totals p ≡ b → from_totals (p ∷ []) ≡ cond b (p ∷ []) []
totals-one p b e = ap (λ c. cond c (p ∷ []) []) e

asked-append : (b : Bool) (ps qs : Pieces) → if_asked b (ps ++ qs) ≡ if_asked b ps ++ if_asked b qs
asked-append true ps qs = refl
asked-append false ps qs = refl

pub events-totals : (h : Pieces) (p : Text) → list_any is_totals h ≡ false → is_totals p ≡ true → events_in (h ++ p ∷ []) ≡ events_in h
events-totals h p none is = events-then h (p ∷ []) none ∙ ap (λ es. h ++ es) (events-one p true is) ∙ append-nil h ∙ sym (events-all h none)

pub events-event : (h : Pieces) (p : Text) → list_any is_totals h ≡ false → is_totals p ≡ false → events_in (h ++ p ∷ []) ≡ events_in h ++ p ∷ []
events-event h p none is = events-then h (p ∷ []) none ∙ ap (λ es. h ++ es) (events-one p false is) ∙ ap (λ es. es ++ p ∷ []) (sym (events-all h none))

pub over-then : (h : Pieces) (p : Text) (b c : Bool) → list_any is_totals h ≡ b → is_totals p ≡ c → list_any is_totals (h ++ p ∷ []) ≡ (b || (c || false))
over-then h p b c e f = list_any-append is_totals h (p ∷ []) ∙ ap (λ x. x || (is_totals p || false)) e ∙ ap (λ x. b || (x || false)) f

module _ (events totals : Bool) (report : Pieces → Text) where
  rest_then : (r : Text) (ps : Pieces) (p t : Text) (later : Pieces) → ps ≡ t ∷ later → from_report totals r (ps ++ p ∷ []) ≡ from_report totals r ps ++ p ∷ []
  rest_then r ps p t later is =
      subst (λ qs. from_report totals r (qs ++ p ∷ []) ≡ from_report totals r qs ++ p ∷ []) (sym is)
      (ap (λ qs. r ∷ qs) (sym (append_assoc (if_asked totals (t ∷ [])) later (p ∷ []))))

  pub logged-over : (h : Pieces) (p : Text) → list_any is_totals h ≡ true → logged events totals report (h ++ p ∷ []) ≡ logged events totals report h ++ p ∷ []
  logged-over h p over =
      let some = some_totals h over in
      ap (λ es. if_asked events es ++ from_report totals (report es) (from_totals (h ++ p ∷ []))) (events-over h p over)
      ∙ ap (λ ps. if_asked events (events_in h) ++ ps)
      (ap (from_report totals (report (events_in h))) (totals-over h p over) ∙ rest_then (report (events_in h)) (from_totals h) p some.0 some.1 some.2)
      ∙ sym (append_assoc (if_asked events (events_in h)) (from_report totals (report (events_in h)) (from_totals h)) (p ∷ []))

  logged-before : (h : Pieces) → list_any is_totals h ≡ false → logged events totals report h ≡ if_asked events (events_in h)
  logged-before h none = ap (λ ps. if_asked events (events_in h) ++ from_report totals (report (events_in h)) ps) (totals-none h none) ∙ append-nil (if_asked events (events_in h))

  pub logged-totals : (h : Pieces) (p : Text) → list_any is_totals h ≡ false → is_totals p ≡ true
      → logged events totals report (h ++ p ∷ []) ≡ logged events totals report h ++ (report (events_in h) ∷ if_asked totals (p ∷ []))
  logged-totals h p none is =
      ap (λ es. if_asked events es ++ from_report totals (report es) (from_totals (h ++ p ∷ []))) (events-totals h p none is)
      ∙ ap (λ ps. if_asked events (events_in h) ++ from_report totals (report (events_in h)) ps) (totals-then h (p ∷ []) none ∙ totals-one p true is)
      ∙ ap (λ ps. if_asked events (events_in h) ++ report (events_in h) ∷ ps) (append-nil (if_asked totals (p ∷ [])))
      ∙ ap (λ ps. ps ++ (report (events_in h) ∷ if_asked totals (p ∷ []))) (sym (logged-before h none))

  pub logged-event : (h : Pieces) (p : Text) → list_any is_totals h ≡ false → is_totals p ≡ false
      → logged events totals report (h ++ p ∷ []) ≡ logged events totals report h ++ if_asked events (p ∷ [])
  logged-event h p none is =
      ap (λ ps. if_asked events (events_in (h ++ p ∷ [])) ++ from_report totals (report (events_in (h ++ p ∷ []))) ps) (totals-then h (p ∷ []) none ∙ totals-one p false is)
      ∙ append-nil (if_asked events (events_in (h ++ p ∷ [])))
      ∙ ap (if_asked events) (events-event h p none is)
      ∙ asked-append events (events_in h) (p ∷ [])
      ∙ ap (λ ps. ps ++ if_asked events (p ∷ [])) (sym (logged-before h none))
