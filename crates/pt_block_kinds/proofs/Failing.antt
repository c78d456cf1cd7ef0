-- Where fewer slots are in common, lists differ; and where they differ fewer are.
use Rattle.std.proofs.Common.{◌≡◌, ℕ, ◌+◌, ◌<◌, ◌≤◌, zero, suc, Bool, true, false, List, [], ◌∷◌, ◌++◌, length, take, Option, Some, None, refl, sym, ap, ◌∙◌, subst, arith, inl, inr, length-append, get_or}
use Rattle.std.specs.Prelude.{◌&&◌, nat_eq, slice_get}
use Rattle.std.specs.Bool.{Decides}
use Rattle.std.proofs.lemmas.Bool.{false≢true}
use Rattle.std.proofs.lemmas.Option.{same_Some, get_or_from_slice_get}
use Rattle.pt_instr.specs.declared.kinds.Kind.{Kind}
use Rattle.pt_instr.specs.declared.kinds.Kind.TheVariants as kind
use Rattle.pt_instr.specs.Effects.{Kinds}
use Rattle.pt_ranges.specs.declared.handlers.Handler.{Handler}
use Rattle.pt_code.specs.View.{Ins}
use Rattle.sem_fits.specs.fits.Block.{Block}
use Rattle.sem_fits.specs.fits.Steps.{is_kind, are_kinds, cut}
use Rattle.sem_fits.specs.fits.Places.{Gets}
use Rattle.sem_fits.proofs.fits.KindLemmas.{same_kinds}
use Rattle.sem_fits.proofs.fits.Ways.{place_of}
use Rattle.pt_verify_depths.specs.Refusals as R
use Rattle.pt_verify_depths.specs.Refusals.{CutsDiffer, CutsOf}
use Rattle.pt_verify_depths.proofs.SizeLemmas.{kinds_have_sizes}
use Rattle.pt_kinds.specs.Forest.{Begins}
use Rattle.pt_kind_flow.specs.declared.flow.Flow.{Flow}
use Rattle.pt_kind_flow.specs.Flow as F
use Rattle.pt_kind_flow.specs.Flow.{Graph, Comes, graph, told, Part, IsExact, IsLongest, AreLongest}
use Rattle.pt_kind_flow.specs.Search.{IsFlow}
use Rattle.pt_kind_flow.proofs.Stages.{are_longest}
use Rattle.pt_block_kinds.specs.declared.graph.BlockKinds.{BlockKinds}
use Rattle.pt_block_kinds.specs.Graph.{HasSizes, IsSeen, rows_from}
use Rattle.pt_block_kinds.specs.Laws.{ComesAsGotten}
use Rattle.pt_block_kinds.specs.Drawing.{Draws}
use Rattle.pt_block_kinds.specs.Told as Tell
use Rattle.pt_block_kinds.specs.Told.{IsShort, ShortRow, ShortPlace, CutsUnder, TellsShortRow, TellsCut, TellsListAt, TwoMeet}
use Rattle.pt_block_kinds.proofs.Lists.{below_or, got_below}
use Rattle.pt_block_kinds.proofs.Walks.{cut_long}
use Rattle.pt_block_kinds.proofs.Gotten.{come_as_gotten}

is_itself : (k : Kind) → is_kind k k ≡ true
is_itself kind.Value = refl
is_itself kind.Cell = refl
is_itself kind.Iter = refl
is_itself kind.Exc = refl
is_itself kind.Pending = refl
is_itself kind.With = refl

are_themselves : (ks : Kinds) → are_kinds ks ks ≡ true
are_themselves [] = refl
are_themselves (k ∷ ks) = ap (λ t. t && are_kinds ks ks) (is_itself k) ∙ are_themselves ks

apart : (xs one other : Kinds) → Part xs one other → one ≡ other → ⊥
apart xs one other p e = same xs one (subst (Part xs one) (sym e) p)
  where
    same : (xs one : Kinds) → Part xs one one → ⊥
    same [] [] q = q
    same [] (k ∷ one) q = q refl
    same (x ∷ xs) [] q = q
    same (x ∷ xs) (k ∷ one) q = same xs one q.1.1

pub differ : (xs one other : Kinds) → Part xs one other → are_kinds one other ≡ false
differ xs one other p = by (are_kinds one other) refl
  where
    by : (t : Bool) → are_kinds one other ≡ t → t ≡ false
    by false e = refl
    by true e = absurd (apart xs one other p (same_kinds one other e))

all_begun : (l ks : Kinds) → Begins l ks → length ks ≤ length l → ks ≡ l
all_begun l ks b h = b.is ∙ none_more b.more (let n = ap length b.is in let m = length-append l b.more in let e : length b.more ≡ 0 = omega (arith, n, m, h) in e)
  where
    none_more : (more : Kinds) → length more ≡ 0 → l ++ more ≡ l
    none_more [] e = nil l
      where
        nil : (xs : Kinds) → xs ++ [] ≡ xs
        nil [] = refl
        nil (x ∷ xs) = ap (λ ys. x ∷ ys) (nil xs)
    none_more (k ∷ more) e = absurd (omega (arith, e))

pub take_short : (n : ℕ) (ks : Kinds) → length (take n ks) ≤ n
take_short zero ks = omega arith
take_short (suc n) [] = omega arith
take_short (suc n) (k ∷ ks) = let r = take_short n ks in omega (arith, r)

pub some_places : (T : List (Option ℕ)) (t : Bool) → t ≡ nat_eq (length T) 0 → t ≡ false → 0 < length T
some_places [] t e f = absurd (false≢true (sym f ∙ e))
some_places (x ∷ T) t e f = omega arith

-- the row at which a search is
pub row_short : (kinds : BlockKinds) (rows : List Handler) (n at v : ℕ) (d : Handler) → n ≡ at → v ≡ kinds.rows_from + at → ShortRow kinds rows n
    → IsShort kinds.flow v (get_or rows at d).depth
row_short kinds rows n at v d e f s = subst (λ w. IsShort kinds.flow w (get_or rows at d).depth) (ap (λ m. kinds.rows_from + m) e ∙ sym f)
    (subst (λ r. IsShort kinds.flow (kinds.rows_from + n) r.depth) (sym (get_or_from_slice_get rows at s.row d (subst (λ m. slice_get rows m ≡ Some s.row) e s.is))) s.short)

-- what the flow of a graph tells of the lists that come to a vertex
module _ (f : Flow) (flow : IsFlow f) where
  pub longest : AreLongest f
  longest = are_longest f flow

  -- the one list that comes, where not fewer slots are in common
  one_list : (v n : ℕ) → v < length f.edges → (IsShort f v n → ⊥) → (ks : Kinds) → Comes (graph f) v ks → length ks ≤ n
      → (l : Kinds) × ((told f v ≡ Some l) × (ks ≡ l))
  one_list v n lt none ks c h = by (told f v) refl
    where
      by : (o : Option Kinds) → told f v ≡ o → (l : Kinds) × ((told f v ≡ Some l) × (ks ≡ l))
      by None e = absurd (longest.whole v ks lt c e)
      by (Some l) e = (
        l,
        (
          e,
          all_begun l ks ((longest.sound v l e).begins ks c) (elim (below_or (length l) n) [
            | inl k ↦ absurd (none (record { kinds = l; is = e; fewer = k }))
            | inr k ↦ omega (arith, h, k)
          ]),
        ),
      )

  pub same_list : (v n : ℕ) → v < length f.edges → (IsShort f v n → ⊥) → (ks ls : Kinds) → Comes (graph f) v ks → Comes (graph f) v ls → length ks ≤ n → length ls ≤ n
      → are_kinds ks ls ≡ false → ⊥
  same_list v n lt none ks ls c e h k differ =
      let (l, (s, x)) = one_list v n lt none ks c h in
      let (m, (t, y)) = one_list v n lt none ls e k in
      let same : ks ≡ ls = x ∙ (same_Some l m (sym s ∙ t) ∙ sym y) in
      false≢true (sym differ ∙ (ap (are_kinds ks) (sym same) ∙ are_themselves ks))

module _ (b : Block) (p : ℕ) (T : List (Option ℕ)) (kinds : BlockKinds) (d : Draws b p T kinds) (seen : IsSeen b (length T)) (sizes : HasSizes b p T) where
  abbrev f : Flow
  f = kinds.flow

  abbrev g : Graph
  g = graph f

  abbrev base : ℕ
  base = rows_from T d.levels

  gotten : ComesAsGotten b p (length T) base g
  gotten = come_as_gotten b p T d.levels g d.is seen sizes

  vertices : length f.edges ≡ base + length b.handlers
  vertices = d.is.long

  -- rows

  short_differs : 0 < length T → (n : ℕ) (row : Handler) → slice_get b.handlers n ≡ Some row → IsShort f (base + n) row.depth → CutsDiffer b p row
  short_differs some n row is short = by ((longest f d.flow).sound (base + n) short.kinds short.is).exact
    where
      by : IsExact g (base + n) short.kinds → CutsDiffer b p row
      by (F.whole c) = let k = gotten.are_cuts n row short.kinds some is c in
          absurd (let l = cut_long b p T d.levels g d.is seen sizes k.pc k.ins k.kinds k.reached row k.under in let e = ap length k.is in let s = short.fewer in omega (arith, l, e, s))
      by (F.parts {one} {other} c e q) = let k = gotten.are_cuts n row one some is c in let m = gotten.are_cuts n row other some is e in
          R.differs k.reached k.under m.reached m.under
          (subst (λ xs. are_kinds (cut row k.kinds) xs ≡ false) m.is (subst (λ xs. are_kinds xs other ≡ false) k.is (differ short.kinds one other q)))

  cuts_same : (n : ℕ) (row : Handler) → slice_get b.handlers n ≡ Some row → (IsShort f (base + n) row.depth → ⊥) → CutsDiffer b p row → ⊥
  cuts_same n row is none (R.differs {q = q} {r = r} {i = i} {j = j} {ks = ks} {ls = ls} one c other e apart) =
      same_list f d.flow (base + n) row.depth (let h = got_below b.handlers n row is in let v = vertices in omega (arith, h, v)) none (cut row ks) (cut row ls)
      (gotten.cuts n row (cut row ks) is (record { pc = q; ins = i; kinds = ks; reached = one; under = c; is = refl }))
      (gotten.cuts n row (cut row ls) is (record { pc = r; ins = j; kinds = ls; reached = other; under = e; is = refl }))
      (take_short row.depth ks) (take_short row.depth ls) apart

  module _ (rows : List Handler) (e : b.handlers ≡ rows) where
    short_here : (n : ℕ) (row : Handler) → IsShort f (kinds.rows_from + n) row.depth → IsShort f (base + n) row.depth
    short_here n row s = subst (λ v. IsShort f (v + n) row.depth) d.rows s

    short_cuts : 0 < length T → (n : ℕ) → ShortRow kinds rows n → CutsUnder b p n
    short_cuts some n s = let is = subst (λ xs. slice_get xs n ≡ Some s.row) (sym e) s.is in
        record { row = s.row; number = record { among = n; is = is; counted = refl }; differ = short_differs some n s.row is (short_here n s.row s.short) }

    cuts_short : (n : ℕ) → (ShortRow kinds rows n → ⊥) → CutsUnder b p n → ⊥
    cuts_short n none c =
        let same : c.number.among ≡ n = (let k = c.number.counted in omega (arith, k)) in
        let is = subst (λ m. slice_get b.handlers m ≡ Some c.row) same c.number.is in
        cuts_same n c.row is (λ s. none (record { row = c.row; is = subst (λ xs. slice_get xs n ≡ Some c.row) e is; short = subst (λ v. IsShort f (v + n) c.row.depth) (sym d.rows) s })) c.differ

    pub tells_cut : 0 < length T → (o : Option ℕ) → TellsShortRow kinds rows o → TellsCut b p o
    tells_cut some (Some n) t = record { holds = short_cuts some n t.holds; least = λ m lt c. cuts_short m (t.least m lt) c }
    tells_cut some None t = λ n c. cuts_short n (t n) c

  -- a block without places reaches none
  pub no_cut : length T ≡ 0 → TellsCut b p None
  no_cut none n c = by c.differ
    where
      by : CutsDiffer b p c.row → ⊥
      by (R.differs {q = q} {i = i} r x s y z) = let h = seen.below q i r.stands in omega (arith, none, h)

  -- places

  pub place_below : (q : ℕ) (i : Ins) → b.at q ≡ Some i → q < length f.edges
  place_below q i e = let h = seen.below q i e in let v = vertices in omega (arith, h, v)

  pub short_meets : ShortPlace f T → TwoMeet b p
  short_meets s = by_ins (b.at s.pc) refl
    where
      by : (i : Ins) → b.at s.pc ≡ Some i → IsExact g s.pc s.here.short.kinds → TwoMeet b p
      by i e (F.whole c) = let h = sizes.whole s.pc (length s.here.short.kinds) (kinds_have_sizes b p s.pc s.here.short.kinds (gotten.comes s.pc i s.here.short.kinds e c)) in
          absurd (let m = same_Some s.here.size (length s.here.short.kinds) (sym s.here.has ∙ h) in let l = s.here.short.fewer in omega (arith, m, l))
      by i e (F.parts {one} {other} c x q) = Tell.two (gotten.comes s.pc i one e c) (gotten.comes s.pc i other e x) (differ s.here.short.kinds one other q)

      by_ins : (o : Option Ins) → b.at s.pc ≡ o → TwoMeet b p
      by_ins None e = absurd (sizes.stands s.pc s.here.size s.here.has e)
      by_ins (Some i) e = by i e ((longest f d.flow).sound s.pc s.here.short.kinds s.here.short.is).exact

  pub none_meet : (ShortPlace f T → ⊥) → TwoMeet b p → ⊥
  none_meet none (Tell.two {q = q} {ks = ks} {ls = ls} x y apart) =
      let (i, e) = place_of x in
      let here = sizes.whole q (length ks) (kinds_have_sizes b p q ks x) in
      let there = sizes.whole q (length ls) (kinds_have_sizes b p q ls y) in
      let same = same_Some (length ks) (length ls) (sym here ∙ there) in
      same_list f d.flow q (length ks) (place_below q i e) (λ s. none (record { pc = q; here = record { size = length ks; has = here; short = s } })) ks ls
      (gotten.gets q ks x) (gotten.gets q ls y) (omega arith) (omega (arith, same)) apart

  pub decides_meeting : (t : Bool) → Decides t (ShortPlace f T) → Decides t (TwoMeet b p)
  decides_meeting t d = (λ e. short_meets (d.0 e), λ m. by t m d)
    where
      by : (t : Bool) → TwoMeet b p → Decides t (ShortPlace f T) → t ≡ true
      by true m d = refl
      by false m d = absurd (none_meet (λ s. false≢true (d.1 s)) m)

  -- where no place gets two lists
  pub kinds_told : (TwoMeet b p → ⊥) → (q : ℕ) (i : Ins) → b.at q ≡ Some i → TellsListAt b p q (told f q)
  kinds_told none q i at = by (told f q) refl
    where
      same : (ks ls : Kinds) → Gets b p q ks → Gets b p q ls → (t : Bool) → are_kinds ks ls ≡ t → ls ≡ ks
      same ks ls x y true e = sym (same_kinds ks ls e)
      same ks ls x y false e = absurd (none (Tell.two x y e))

      exact : (l : Kinds) → IsExact g q l → Gets b p q l × ((ls : Kinds) → Gets b p q ls → ls ≡ l)
      exact l (F.whole c) = let x = gotten.comes q i l at c in (x, λ ls y. same l ls x y (are_kinds l ls) refl)
      exact l (F.parts {one} {other} c e r) = absurd (none (Tell.two (gotten.comes q i one at c) (gotten.comes q i other at e) (differ l one other r)))

      by : (o : Option Kinds) → told f q ≡ o → TellsListAt b p q (told f q)
      by None e = subst (TellsListAt b p q) (sym e) (λ ks x. (longest f d.flow).whole q ks (place_below q i at) (gotten.gets q ks x) e)
      by (Some l) e = subst (TellsListAt b p q) (sym e) (exact l ((longest f d.flow).sound q l e).exact)
