-- Sizes tell exactly how lengths refuse a block.
use Rattle.std.proofs.Common.{◌≡◌, ◌⊎◌, inl, inr, ℕ, ◌+◌, ◌<◌, length, refl, sym, ap, subst, arith}
use Rattle.std.proofs.lemmas.Bool.{cases_order}
use Rattle.pt_ranges.specs.declared.handlers.Handler.{Handler}
use Rattle.pt_sizes.specs.declared.flow.Sizes.{Sizes}
use Rattle.pt_sizes.specs.declared.flow.Sizes.TheVariants as sizes
use Rattle.sem_fits.specs.fits.Block.{Block}
use Rattle.sem_fits.specs.fits.Agreement as A
use Rattle.sem_fits.specs.fits.Agreement.{LengthsMeet, HandlerFails, TooFew}
use Rattle.sem_fits.specs.fits.Fits as F
use Rattle.sem_fits.specs.fits.Fits.{IsLeast, Disagrees, NumberFails, RefusedAt, stack, table}
use Rattle.pt_verify_depths.specs.Sizes.{SizesMeet, RowTooDeep, Lacks}
use Rattle.pt_verify_depths.specs.PlaceTable as T
use Rattle.pt_verify_depths.specs.PlaceTable.{SizesDisagree, NumberTooDeep, DeepFirst, FewFirst, MeetFirst, TellsSizes}
use Rattle.pt_verify_depths.specs.Laws.{Deep, Few}
use Rattle.pt_verify_depths.specs.Refusals as R
use Rattle.pt_verify_depths.specs.Refusals.{CutsDiffer, LeaveLacks, NeedsKinds, CutsOf, NeedsKindsBelow, Refuses, RefusesMeeting, RefusesRow, RefusesFew, IsDeepAt, TellsFirst, AsRefused, SizesRefuse, RefusedFirst}
use Rattle.pt_verify_depths.proofs.SizeLemmas.{sizes_meet_as_lengths, rows_are_as_deep, lack_as_few}

module _ (b : Block) where
  met : (p : ℕ) → LengthsMeet b p → SizesMeet b p
  met p m = (sizes_meet_as_lengths b p).sizes m

  deep : (p : ℕ) (row : Handler) → Deep b p row → RowTooDeep b p row
  deep p row d = (rows_are_as_deep b p row).sizes d

  few : (p : ℕ) → Few b p → Lacks b p
  few p f = (lack_as_few b p).sizes f

  -- how a row fails, and how slots are too few
  row_fails : (p : ℕ) (row : Handler) → HandlerFails b p row → Deep b p row ⊎ CutsDiffer b p row
  row_fails p row (A.too_deep {q = q} {i = i} {ks = ks} r c e) = inl (record { pc = q; ins = i; kinds = ks; reached = r; under = c; fails = e })
  row_fails p row (A.differs r c s d e) = inr (R.differs r c s d e)

  deep_fails : (p : ℕ) (row : Handler) → Deep b p row → HandlerFails b p row
  deep_fails p row d = A.too_deep d.reached d.under d.fails

  cuts_fail : (p : ℕ) (row : Handler) → CutsDiffer b p row → HandlerFails b p row
  cuts_fail p row (R.differs r c s d e) = A.differs r c s d e

  too_few : (p : ℕ) → TooFew b p → Few b p ⊎ LeaveLacks b p
  too_few p (A.lacks {q = q} {i = i} {ks = ks} r e) = inl (record { pc = q; ins = i; kinds = ks; reached = r; fails = e })
  too_few p (A.leaves l g e) = inr (R.leaves l g e)

  -- a failure is one of sizes, or needs kinds
  by_sizes : (p : ℕ) → Disagrees b p → SizesDisagree b p ⊎ NeedsKinds b p
  by_sizes p (F.lengths m) = inl (T.meet (met p m))
  by_sizes p (F.handlers row h) = elim (row_fails p row h) [ inl d ↦ inl (T.deep row (deep p row d)) | inr c ↦ inr (R.cuts row c) ]
  by_sizes p (F.enough f) = elim (too_few p f) [ inl g ↦ inl (T.few (few p g)) | inr l ↦ inr (R.leaves l) ]
  by_sizes p (F.kinds k) = inr (R.kinds k)
  by_sizes p (F.inside s) = inr (R.inside s)

  disagree : (p : ℕ) → SizesDisagree b p → Disagrees b p
  disagree p (T.meet m) = F.lengths ((sizes_meet_as_lengths b p).lengths m)
  disagree p (T.deep row d) = F.handlers row (deep_fails p row ((rows_are_as_deep b p row).kinds d))
  disagree p (T.few f) = F.enough (let g = (lack_as_few b p).kinds f in A.lacks g.reached g.fails)

  unless_sizes : (p : ℕ) → (SizesDisagree b p → ⊥) → Disagrees b p → NeedsKinds b p
  unless_sizes p n d = elim (by_sizes p d) [ inl s ↦ absurd (n s) | inr k ↦ k ]

  needs_below : (p : ℕ) → IsLeast (SizesDisagree b) p → NeedsKindsBelow b p
  needs_below p f q l d = unless_sizes q (λ s. f.least q l s) d

  -- a row that fails is too deep, or the cuts under it differ
  by_number : (p m : ℕ) → (f : NumberFails b p m) → Deep b p f.row ⊎ CutsOf b p m
  by_number p m f = elim (row_fails p f.row f.fails) [ inl d ↦ inl d | inr c ↦ inr (record { row = f.row; number = f.number; differ = c }) ]

  fails_by_cuts : (p m : ℕ) → CutsOf b p m → NumberFails b p m
  fails_by_cuts p m c = record { row = c.row; number = c.number; fails = cuts_fail p c.row c.differ }

  refuses_row : (p n : ℕ) → DeepFirst b p n → RefusesRow b p (length b.marks + n)
  refuses_row p n t = record {
    below = needs_below p t.first;
    here = λ none. F.handlers apart (length b.marks + n) (record {
      holds = record { row = t.deep.holds.row; number = record { among = n; is = t.deep.holds.is; counted = refl }; fails = deep_fails p t.deep.holds.row ((rows_are_as_deep b p t.deep.holds.row).kinds t.deep.holds.deep) };
      least = λ m l f. elim (by_number p m f) [ inl d ↦ not_deep m l f d | inr c ↦ none m l c ];
    });
    cuts = λ m l c. F.handlers apart m (record {
      holds = fails_by_cuts p m c.holds;
      least = λ k lt f. elim (by_number p k f) [ inl d ↦ not_deep k (omega (arith, l, lt)) f d | inr d ↦ c.least k lt d ];
    });
  }
    where
      apart : LengthsMeet b p → ⊥
      apart m = t.apart (met p m)

      not_deep : (m : ℕ) → m < length b.marks + n → (f : NumberFails b p m) → Deep b p f.row → ⊥
      not_deep m l f d = t.deep.least f.number.among (let e = f.number.counted in omega (arith, l, e)) (record { row = f.row; is = f.number.is; deep = deep p f.row d })

  refuses_few : (p : ℕ) → FewFirst b p → RefusesFew b p
  refuses_few p t = record {
    below = needs_below p t.first;
    here = λ none. F.enough apart (λ row h. elim (row_fails p row h) [ inl d ↦ not_deep row d | inr c ↦ none row c ]) (let g = (lack_as_few b p).kinds t.few in A.lacks g.reached g.fails);
    cuts = λ m c. F.handlers apart m (record {
      holds = fails_by_cuts p m c.holds;
      least = λ k lt f. elim (by_number p k f) [ inl d ↦ not_deep f.row d | inr d ↦ c.least k lt d ];
    });
  }
    where
      apart : LengthsMeet b p → ⊥
      apart m = t.apart (met p m)

      not_deep : (row : Handler) → Deep b p row → ⊥
      not_deep row d = t.shallow row (deep p row d)

  refuses : (s : Sizes) → TellsSizes b s → Refuses b s
  refuses (sizes.Agree t) x = λ p d. unless_sizes p (λ s. x.agree p s) d
  refuses (sizes.Meet p) x = record { below = needs_below p x.first; here = F.lengths ((sizes_meet_as_lengths b p).lengths x.meet) }
  refuses (sizes.TooDeep p n) x = refuses_row p n x
  refuses (sizes.TooFew p) x = refuses_few p x

  -- sizes that disagree first at a place do so where the block first disagrees, if they do there
  same_place : (p q : ℕ) → IsLeast (Disagrees b) p → SizesDisagree b p → IsLeast (SizesDisagree b) q → q ≡ p
  same_place p q f s g = by_order (cases_order q p)
    where
      by_order : (q ≡ p) ⊎ ((q < p) ⊎ (p < q)) → q ≡ p
      by_order (inl e) = e
      by_order (inr (inl l)) = absurd (f.least q l (disagree q g.holds))
      by_order (inr (inr l)) = absurd (g.least p l s)

  module _ (p : ℕ) (first : IsLeast (Disagrees b) p) where
    tells_meeting : (s : Sizes) → TellsSizes b s → SizesMeet b p → s ≡ sizes.Meet p
    tells_meeting (sizes.Agree t) x m = absurd (x.agree p (T.meet m))
    tells_meeting (sizes.Meet q) x m = ap (λ n. sizes.Meet n) (same_place p q first (T.meet m) x.first)
    tells_meeting (sizes.TooDeep q n) x m = absurd (x.apart (subst (λ r. SizesMeet b r) (sym (same_place p q first (T.meet m) x.first)) m))
    tells_meeting (sizes.TooFew q) x m = absurd (x.apart (subst (λ r. SizesMeet b r) (sym (same_place p q first (T.meet m) x.first)) m))

    tells_deep : (s : Sizes) → TellsSizes b s → (SizesMeet b p → ⊥) → (row : Handler) → RowTooDeep b p row → IsDeepAt p s
    tells_deep (sizes.Agree t) x none row d = absurd (x.agree p (T.deep row d))
    tells_deep (sizes.Meet q) x none row d = absurd (none (subst (λ r. SizesMeet b r) (same_place p q first (T.deep row d) x.first) x.meet))
    tells_deep (sizes.TooDeep q n) x none row d = record { row = n; is = ap (λ r. sizes.TooDeep r n) (same_place p q first (T.deep row d) x.first) }
    tells_deep (sizes.TooFew q) x none row d = absurd (x.shallow row (subst (λ r. RowTooDeep b r row) (sym (same_place p q first (T.deep row d) x.first)) d))

    tells_few : (s : Sizes) → TellsSizes b s → (SizesMeet b p → ⊥) → ((row : Handler) → RowTooDeep b p row → ⊥) → Lacks b p → s ≡ sizes.TooFew p
    tells_few (sizes.Agree t) x none shallow l = absurd (x.agree p (T.few l))
    tells_few (sizes.Meet q) x none shallow l = absurd (none (subst (λ r. SizesMeet b r) (same_place p q first (T.few l) x.first) x.meet))
    tells_few (sizes.TooDeep q n) x none shallow l = absurd (shallow x.deep.holds.row (subst (λ r. RowTooDeep b r x.deep.holds.row) (same_place p q first (T.few l) x.first) x.deep.holds.deep))
    tells_few (sizes.TooFew q) x none shallow l = ap (λ n. sizes.TooFew n) (same_place p q first (T.few l) x.first)

  tells_first : (s : Sizes) → TellsSizes b s → (p : ℕ) → IsLeast (Disagrees b) p → TellsFirst b s p
  tells_first s x p f = record {
    meet = λ m. tells_meeting p f s x (met p m);
    deep = λ none row d. tells_deep p f s x (λ m. none ((sizes_meet_as_lengths b p).lengths m)) row (deep p row d);
    few = λ none shallow g. tells_few p f s x (λ m. none ((sizes_meet_as_lengths b p).lengths m)) (λ row d. shallow row ((rows_are_as_deep b p row).kinds d)) (few p g);
  }

pub sizes_refuse : (b : Block) → SizesRefuse b
sizes_refuse b s x = record { refuses = refuses b s x; first = tells_first b s x }

-- what is refused at a place holds there
refused_disagrees : {b : Block} {p : ℕ} {m : F.Misfit} → RefusedAt b p m → Disagrees b p
refused_disagrees (F.lengths m) = F.lengths m
refused_disagrees (F.handlers none n f) = F.handlers f.holds.row f.holds.fails
refused_disagrees (F.enough none h f) = F.enough f
refused_disagrees (F.kinds none h e k) = F.kinds k
refused_disagrees (F.inside none h e k s) = F.inside s

pub refused_first : (b : Block) → RefusedFirst b
refused_first b p below none tables m r = F.disagrees tables p (record { holds = refused_disagrees r; least = λ q l d. none q l (below q l d) }) r
