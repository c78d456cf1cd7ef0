-- What a log that counts has taken, of one piece more.
use Rattle.std.proofs.Common.{◌≡◌, ◌∙◌, Bool, true, false, List, [], ◌∷◌, ◌++◌, Option, Some, None, Result, Ok, Err, refl, sym, ap, subst, inr}
use Rattle.std.specs.Prelude.{OnOk, OnErr}
use Rattle.std.specs.List.{list_any}
use Rattle.pt_base.specs.Taken.{Pieces, Takes, TakesFront}
use Rattle.pt_base.specs.declared.sink.SinkErr.{SinkErr}
use Rattle.pt_cover.specs.declared.counts.Counts.{Counts}
use Rattle.pt_cover.specs.declared.counts.Counts.TheVariants.{Lines, Names}
use Rattle.pt_cover.specs.Pieces.{Text, kind_of, line_of, name_of, is_totals, events_in, from_totals}
use Rattle.pt_cover.specs.Reports.{if_asked, from_report, logged}
use Rattle.pt_cover.specs.Kept.{counted, counts_then, report_of, HasDifferentRows}
use Rattle.pt_cover.specs.Passed.{Passed, PassesOn}
use Rattle.pt_cover.specs.Since.{TookSince, bit, key_of}
use Rattle.pt_cover.specs.HasTaken.{HasTaken}
use Rattle.pt_cover.proofs.KeptLemmas.{counts-snoc, counted-then}
use Rattle.pt_cover.proofs.LineLemmas.{lines_of-then}
use Rattle.pt_cover.proofs.NameLemmas.{names_of-then}
use Rattle.pt_cover.proofs.PassedLemmas.{since}
use Rattle.pt_cover.proofs.LoggedLemmas.{events-over, events-totals, events-event, over-then, logged-over, logged-totals, logged-event}

module _ (c : Counts) (events totals : Bool) (old new : Pieces → Type 0) where
  abbrev report : Counts → Pieces → Text
  report k es = report_of (counted k es)

  -- behind the totals
  pub taken-over : (h : Pieces) (p : Text) → HasTaken c true events totals old h → ((ps : Pieces) → old ps → new (ps ++ p ∷ []))
      → HasTaken c true events totals new (h ++ p ∷ [])
  taken-over h p t step = record {
    counts_are = t.counts_are ∙ ap (counted c) (sym (events-over h p (sym t.over)));
    over = sym (over-then h p true (is_totals p) (sym t.over) refl);
    log = subst new (sym (logged-over events totals (report c) h p (sym t.over))) (step _ t.log);
  }

  -- the totals
  pub taken-totals : (h : Pieces) (p : Text) → HasTaken c false events totals old h → is_totals p ≡ true
      → ((ps : Pieces) → old ps → new (ps ++ (report_of c ∷ if_asked totals (p ∷ [])))) → HasTaken c true events totals new (h ++ p ∷ [])
  taken-totals h p t is step = record {
    counts_are = t.counts_are ∙ ap (counted c) (sym (events-totals h p (sym t.over) is));
    over = sym (over-then h p false true (sym t.over) is);
    log = subst new (sym (logged-totals events totals (report c) h p (sym t.over) is))
        (subst (λ r. new (logged events totals (report c) h ++ (r ∷ if_asked totals (p ∷ [])))) (ap report_of t.counts_are) (step _ t.log));
  }

  -- an event
  pub taken-event : (h : Pieces) (p : Text) → HasTaken c false events totals old h → is_totals p ≡ false → HasDifferentRows c
      → ((ps : Pieces) → old ps → new (ps ++ if_asked events (p ∷ []))) → HasTaken (counts_then c p) false events totals new (h ++ p ∷ [])
  taken-event h p t is d step = record {
    counts_are = counts-snoc c (events_in h) p d t.counts_are ∙ sym (counted-then c p (events_in h ++ p ∷ []))
        ∙ ap (counted (counts_then c p)) (sym (events-event h p (sym t.over) is));
    over = sym (over-then h p false false (sym t.over) is);
    log = subst new (sym (logged-event events totals (report c) h p (sym t.over) is)
        ∙ ap (λ r. if_asked events (events_in (h ++ p ∷ [])) ++ from_report totals r (from_totals (h ++ p ∷ [])))
        (ap report_of (sym (counted-then c p (events_in (h ++ p ∷ [])))))) (step _ t.log);
  }

-- what a log that counts has taken, over one that has taken pieces behind others
abbrev pub Taken : Counts → (is_over events totals : Bool) → Option SinkErr → (Pieces → Pieces → Type 0) → Pieces → Pieces → Type 0
Taken c is_over events totals failed below start h =
    HasTaken c is_over events totals (Passed failed (TookSince (key_of c events totals) below start)) h

-- lines and names stay the same
same-key : (c : Counts) (p : Text) (events totals : Bool) → key_of (counts_then c p) events totals ≡ key_of c events totals
same-key (Lines rows) p events totals = ap (λ ls. (0 ∷ bit events ∷ bit totals ∷ ls) ∷ []) (lines_of-then rows (kind_of p) (line_of p))
same-key (Names t) p events totals = ap (λ ns. (1 ∷ bit events ∷ bit totals ∷ []) ∷ ns) (names_of-then t (kind_of p) (name_of p))

-- a piece more, from what is kept and what was passed on
module _ (c c' : Counts) (o o' events events' totals totals' : Bool) (f f' : Option SinkErr) (old new : Pieces → Pieces → Type 0) (p : Text)
    (same_events : events' ≡ events) (same_totals : totals' ≡ totals) where
  is_now : (k : Counts) (b : Bool) → c' ≡ k → o' ≡ b → Taken c' o' events' totals' f' new ≡ Taken k b events totals f' new
  is_now k b same_counts same_over = λ i. Taken (same_counts i) (same_over i) (same_events i) (same_totals i) f' new

  abbrev Below : Pieces → Pieces → Type 0
  Below g = Passed f' (TookSince (key_of c events totals) new g)

  pub over-takes : o ≡ true → c' ≡ c → o' ≡ o → PassesOn f f' old new (p ∷ []) → Takes (Taken c o events totals f old) (Taken c' o' events' totals' f' new) (p ∷ [])
  over-takes over same_counts same_over on g h t =
      subst (λ X. X g (h ++ p ∷ [])) (sym (is_now c true same_counts (same_over ∙ over)))
      (taken-over c events totals (Passed f (TookSince (key_of c events totals) old g)) (Below g) h p
      (subst (λ b. HasTaken c b events totals (Passed f (TookSince (key_of c events totals) old g)) h) over t)
      (λ ps. since f f' (key_of c events totals) old new (p ∷ []) on g ps))

  pub close-takes : o ≡ false → is_totals p ≡ true → c' ≡ c → o' ≡ true → PassesOn f f' old new (report_of c ∷ if_asked totals (p ∷ []))
      → Takes (Taken c o events totals f old) (Taken c' o' events' totals' f' new) (p ∷ [])
  close-takes over is same_counts same_over on g h t =
      subst (λ X. X g (h ++ p ∷ [])) (sym (is_now c true same_counts same_over))
      (taken-totals c events totals (Passed f (TookSince (key_of c events totals) old g)) (Below g) h p
      (subst (λ b. HasTaken c b events totals (Passed f (TookSince (key_of c events totals) old g)) h) over t) is
      (λ ps. since f f' (key_of c events totals) old new (report_of c ∷ if_asked totals (p ∷ [])) on g ps))

  pub count-takes : o ≡ false → is_totals p ≡ false → c' ≡ counts_then c p → o' ≡ o → HasDifferentRows c → PassesOn f f' old new (if_asked events (p ∷ []))
      → Takes (Taken c o events totals f old) (Taken c' o' events' totals' f' new) (p ∷ [])
  count-takes over is same_counts same_over different on g h t =
      subst (λ X. X g (h ++ p ∷ [])) (sym (is_now (counts_then c p) false same_counts (same_over ∙ over)))
      (subst (λ k. HasTaken (counts_then c p) false events totals (Passed f' (TookSince k new g)) (h ++ p ∷ [])) (sym (same-key c p events totals))
      (taken-event c events totals (Passed f (TookSince (key_of c events totals) old g)) (Below g) h p
      (subst (λ b. HasTaken c b events totals (Passed f (TookSince (key_of c events totals) old g)) h) over t) is different
      (λ ps. since f f' (key_of c events totals) old new (if_asked events (p ∷ [])) on g ps)))

-- whatever the answer, all of the piece was taken
module _ (old new : Pieces → Pieces → Type 0) (p : Text) (takes : Takes old new (p ∷ [])) where
  pub on_ok : (r : Result (Unit {0}) SinkErr) → OnOk r (Takes old new (p ∷ []))
  on_ok (Ok u) = takes
  on_ok (Err e) = tt

  pub on_err : (r : Result (Unit {0}) SinkErr) → OnErr r (TakesFront old new (p ∷ []))
  on_err (Ok u) = tt
  on_err (Err e) = record { front = λ g h t. inr (inr (takes g h t)) }
