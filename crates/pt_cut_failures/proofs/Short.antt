-- Where fewer slots are in common under a row, cuts differ; and where they differ fewer are.
use Rattle.std.proofs.Common.{◌≡◌, ℕ, ◌+◌, ◌<◌, ◌≤◌, Bool, true, false, List, length, Option, Some, None, refl, sym, ap, ◌∙◌, subst, arith, get_or}
use Rattle.std.specs.Prelude.{Contains, slice_get}
use Rattle.std.proofs.lemmas.Bool.{leb-true}
use Rattle.std.proofs.lemmas.Option.{get_or_from_slice_get, slice_get_within}
use Rattle.pt_instr.specs.Effects.{Kinds}
use Rattle.pt_ranges.specs.declared.handlers.Handler.{Handler}
use Rattle.pt_code.specs.View.{Ins}
use Rattle.pt_sizes.specs.Flow.{entry}
use Rattle.sem_fits.specs.fits.Block.{Block, effect}
use Rattle.sem_fits.specs.fits.Steps.{are_kinds, cut, spared}
use Rattle.sem_fits.specs.fits.Places.{Reached}
use Rattle.pt_verify_depths.specs.PlaceTable.{NumberTooDeep}
use Rattle.pt_verify_depths.specs.Refusals as R
use Rattle.pt_verify_depths.specs.Refusals.{CutsDiffer, CutsOf}
use Rattle.pt_verify_depths.specs.Sizes as S
use Rattle.pt_verify_depths.specs.Sizes.{Sized, leaves_enough}
use Rattle.pt_verify_depths.proofs.SizeLemmas.{kinds_have_sizes}
use Rattle.pt_kind_flow.specs.declared.flow.Flow.{Flow}
use Rattle.pt_kind_flow.specs.Flow as F
use Rattle.pt_kind_flow.specs.Flow.{Graph, Comes, graph, IsExact}
use Rattle.pt_block_kinds.specs.Graph.{IsSeen}
use Rattle.pt_block_kinds.specs.Told.{IsShort, CutsUnder}
use Rattle.pt_block_kinds.proofs.Lists.{take_long}
use Rattle.pt_block_kinds.proofs.Failing.{differ, longest, same_list, take_short}
use Rattle.pt_cut_failures.specs.Graph.{DrawsCuts, IsLanding}
use Rattle.pt_cut_failures.specs.Cuts.{ShortRow, TellsCutBelow, TellsShortBelow}
use Rattle.pt_cut_failures.proofs.Coming.{landings_come, are_landings}

-- the row at which a search is
pub row_short : (f : Flow) (count : ℕ) (rows : List Handler) (n at v : ℕ) (d : Handler) → n ≡ at → v ≡ count + at → ShortRow f count rows n → IsShort f v (get_or rows at d).depth
row_short f count rows n at v d e g s = subst (λ w. IsShort f w (get_or rows at d).depth) (ap (λ m. count + m) e ∙ sym g)
    (subst (λ r. IsShort f (count + n) r.depth) (sym (get_or_from_slice_get rows at s.row d (subst (λ m. slice_get rows m ≡ Some s.row) e s.is))) s.short)

module _ (b : Block) (p : ℕ) (T : List (Option ℕ)) (f : Flow) (d : DrawsCuts b p T f) (seen : IsSeen b (length T)) (whole : (q m : ℕ) → Sized b p q m → entry T q ≡ Some m)
    (some : 0 < length T) (asked : ℕ) (shallow : (n : ℕ) → n < asked → NumberTooDeep b p n → ⊥) where
  abbrev g : Graph
  g = graph f

  abbrev count : ℕ
  count = length T

  -- each cut under a row that is not too deep is of a place that has enough for it
  within : (n : ℕ) (row : Handler) → n < asked → slice_get b.handlers n ≡ Some row → (q : ℕ) (i : Ins) (ks : Kinds) → Reached b p q i ks → Contains i.rows row
      → row.depth ≤ spared (effect b.links i.instr) ks
  within n row lt is q i ks r c = by (leaves_enough (effect b.links i.instr) (length ks) row) refl
    where
      by : (t : Bool) → leaves_enough (effect b.links i.instr) (length ks) row ≡ t → row.depth ≤ spared (effect b.links i.instr) ks
      by true e = leb-true row.depth (spared (effect b.links i.instr) ks) e
      by false e = absurd (shallow n lt (record { row = row; is = is; deep = S.deep (kinds_have_sizes b p q ks r.gets) r.low r.stands c e }))

  short_differs : (n : ℕ) (row : Handler) → slice_get b.handlers n ≡ Some row → IsShort f (count + n) row.depth → CutsDiffer b p row
  short_differs n row is short = by ((longest f d.flow).sound (count + n) short.kinds short.is).exact
    where
      landing : (ks : Kinds) → Comes g (count + n) ks → IsLanding b p row ks
      landing ks c = are_landings b p T d.chains g d.is seen whole n row ks is c some

      by : IsExact g (count + n) short.kinds → CutsDiffer b p row
      by (F.whole c) = let k = landing short.kinds c in
          absurd (let h = k.within in let l = take_long row.depth row.depth k.kinds (omega arith) (omega (arith, h)) in let e = ap length k.is in let s = short.fewer in omega (arith, l, e, s))
      by (F.parts {one} {other} c e q) = let k = landing one c in let m = landing other e in
          R.differs k.reached k.under m.reached m.under
          (subst (λ xs. are_kinds (cut row k.kinds) xs ≡ false) m.is (subst (λ xs. are_kinds xs other ≡ false) k.is (differ short.kinds one other q)))

  vertex_in : (n : ℕ) (row : Handler) → slice_get b.handlers n ≡ Some row → count + n < length f.edges
  vertex_in n row is = let h = slice_get_within b.handlers n row is in let e = d.is.long in omega (arith, h, e)

  cuts_same : (n : ℕ) (row : Handler) → n < asked → slice_get b.handlers n ≡ Some row → (IsShort f (count + n) row.depth → ⊥) → CutsDiffer b p row → ⊥
  cuts_same n row lt is none (R.differs {q = q} {r = r} {i = i} {j = j} {ks = ks} {ls = ls} one c other e apart) =
      same_list f d.flow (count + n) row.depth (vertex_in n row is) none (cut row ks) (cut row ls)
      (landings_come b p T d.chains g d.is seen whole n row (cut row ks) is
      (record { pc = q; ins = i; kinds = ks; reached = one; under = c; within = within n row lt is q i ks one c; is = refl }))
      (landings_come b p T d.chains g d.is seen whole n row (cut row ls) is
      (record { pc = r; ins = j; kinds = ls; reached = other; under = e; within = within n row lt is r j ls other e; is = refl }))
      (take_short row.depth ks) (take_short row.depth ls) apart

  short_cuts : (n : ℕ) → ShortRow f count b.handlers n → CutsUnder b p n
  short_cuts n s = record { row = s.row; number = record { among = n; is = s.is; counted = refl }; differ = short_differs n s.row s.is s.short }

  cuts_short : (n : ℕ) → n < asked → (ShortRow f count b.handlers n → ⊥) → CutsUnder b p n → ⊥
  cuts_short n lt none c =
      let same : c.number.among ≡ n = (let k = c.number.counted in omega (arith, k)) in
      let is = subst (λ m. slice_get b.handlers m ≡ Some c.row) same c.number.is in
      cuts_same n c.row lt is (λ s. none (record { row = c.row; is = is; short = s })) c.differ

  pub tells_below : (o : Option ℕ) → TellsShortBelow f count b.handlers asked o → TellsCutBelow b p asked o
  tells_below (Some n) (lt, t) = (lt, record { holds = short_cuts n t.holds; least = λ m h c. cuts_short m (omega (arith, lt, h)) (t.least m h) c })
  tells_below None t = λ n lt c. cuts_short n lt (t n lt) c
