-- A block agrees that has a table of its slots, found in a walk over its piece.
use Rattle.std.proofs.Common.{◌≡◌, ℕ, ◌≤◌, zero, suc, Bool, true, false, ◌&&◌, ◌||◌, ◌-◌, List, [], ◌∷◌, ◌++◌, map, length, reverse, take, drop, slice_get, Contains, Option, Some, None, refl, sym, ap, ◌∙◌, subst, arith, eq-eqb}
use Rattle.std.proofs.lemmas.Bool.{false≢true, le-leb}
use Rattle.std.proofs.lemmas.List.{reverse-reverse, length-take-le}
use Rattle.pt_instr.specs.declared.effects.Effect.{Effect}
use Rattle.pt_instr.specs.declared.kinds.Kind.{Kind}
use Rattle.pt_instr.specs.declared.kinds.Kind.TheVariants as kind
use Rattle.pt_instr.specs.Effects.{Kinds}
use Rattle.pt_ranges.specs.declared.handlers.Handler.{Handler}
use Rattle.pt_code.specs.View.{Ins}
use Rattle.sem_fits.proofs.fits.KindLemmas.{prefix_taken}
use Rattle.sem_fits.specs.fits.Block.{Block, effect, kinds_at_start}
use Rattle.sem_fits.specs.fits.Steps.{is_kind, are_kinds, is_prefix, spared, below, taken, swaps_iterator, is_value, has_value, finds, has_enough, is_within, cut}
use Rattle.sem_fits.specs.fits.Places.{Gets, Reached}
use Rattle.sem_fits.specs.fits.Leaves.{Departs}
use Rattle.sem_fits.specs.fits.Agreement as A
use Rattle.sem_fits.specs.fits.Agreement.{LengthsMeet, HandlerFails, TooFew, KindsClash, Strays}
use Rattle.sem_fits.specs.fits.Leaves as L
use Rattle.law_pieces.specs.piece_kinds.Walk.{Known, StackMap, kinds_of, lowest}
use Rattle.law_pieces.specs.piece_kinds.Typed.{Over, Takes, plainly, turned, HasValue}
use Rattle.law_pieces.specs.piece_kinds.Table.{Table, AgreesWith}
use Rattle.law_pieces.specs.piece_kinds.Exits.{LeadsBelow}
use Rattle.law_pieces.specs.piece_kinds.Laws.{table_of}
use Rattle.law_pieces.proofs.piece_kinds.ListLemmas.{kind as kind_of, map_take, map_reverse, lowest_is, length_kinds, over_all, over_length}
use Rattle.law_pieces.proofs.piece_kinds.StepLemmas.{counted, below_is, taken_is}
use Rattle.law_pieces.proofs.piece_kinds.PieceLaw.{not_both, is_some_of}
use Rattle.law_pieces.proofs.piece_kinds.Finds.{row_fits, Finds}
use Rattle.law_pieces.proofs.piece_kinds.OriginLaw.{has_kinds, led}
use Rattle.law_pieces.proofs.piece_kinds.Reached.{counts, enough}
use Rattle.law_pieces.proofs.piece_kinds.LeaveLaw.{take_less, over_front, found_row, Departing, in_place, departs}
use Rattle.law_pieces.proofs.piece_kinds.TableLaw.{found_at}
use Rattle.law_typed_pieces.specs.typed_pieces.Laws.{first_slots}
use Rattle.law_typed_pieces.proofs.typed_pieces.Tables.{have_tables, all_ready}
use Rattle.law_operands.specs.law_files.sem_compile.stm_pieces.StmPiece.{code_piece}
use Rattle.law_typed_pieces.specs.agreement.Laws.{Misplaced, StrayLeave, MostlyAgrees, BlocksAgree}

is_itself : (k : Kind) → is_kind k k ≡ true
is_itself kind.Value = refl
is_itself kind.Cell = refl
is_itself kind.Iter = refl
is_itself kind.Exc = refl
is_itself kind.Pending = refl
is_itself kind.With = refl

are_themselves : (ks : Kinds) → are_kinds ks ks ≡ true
are_themselves [] = refl
are_themselves (k ∷ ks) = ap (λ t. t && are_kinds ks ks) (is_itself k) ∙ are_themselves ks

both_hold : (s t : Bool) → s ≡ true → t ≡ true → (s && t) ≡ true
both_hold s t e f = ap (λ z. z && t) e ∙ f

either_holds : (s t : Bool) → t ≡ true → (s || t) ≡ true
either_holds true t f = refl
either_holds false t f = f

abbrev head_of : Kind → Kinds → Kind
head_of l [] = l
head_of l (k ∷ ks) = k

is_prefix_of : (ls ks : Kinds) → take (length ls) ks ≡ ls → is_prefix ls ks ≡ true
is_prefix_of [] ks e = refl
is_prefix_of (l ∷ ls) [] e = absurd cc
is_prefix_of (l ∷ ls) (k ∷ ks) e =
    let h : k ≡ l = ap (λ zs. head_of l zs) e in
    let t : take (length ls) ks ≡ ls = ap (drop 1) e in
    subst (λ z. (is_kind l z && is_prefix ls ks) ≡ true) (sym h) (ap (λ s. s && is_prefix ls ks) (is_itself l) ∙ is_prefix_of ls ks t)

get_kind : (rs : StackMap) (n : ℕ) (k : Known) → slice_get rs n ≡ Some k → slice_get (map kind_of rs) n ≡ Some k.kind
get_kind [] n k e = not_both (sym e)
get_kind (r ∷ rs) zero k e = ap (λ z. Some z.kind) (is_some_of e)
get_kind (r ∷ rs) (suc n) k e = get_kind rs n k e

reads_value : (o : Option ℕ) (rs : StackMap) → HasValue o rs → has_value o (kinds_of rs) ≡ true
reads_value None rs h = refl
reads_value (Some zero) rs h = absurd h
reads_value (Some (suc n)) rs (k, e, v) =
    ap (λ zs. is_value (slice_get zs n)) (reverse-reverse (map kind_of rs)) ∙ (ap is_value (get_kind rs n k e) ∙ ap (λ z. is_value (Some z)) v)

-- an instruction finds what it takes and reads
finds_them : (e : Effect) (ts rs : StackMap) → Takes e ts → HasValue e.above rs → finds e (kinds_of (ts ++ rs)) ≡ true
finds_them e ts rs h v = both_hold (are_kinds (taken e (kinds_of (ts ++ rs))) e.takes || swaps_iterator e (kinds_of (ts ++ rs))) (has_value e.above (below e (kinds_of (ts ++ rs))))
    (takes_them h) (ap (has_value e.above) (below_is e ts rs (counted h)) ∙ reads_value e.above rs v)
  where
    takes_them : Takes e ts → (are_kinds (taken e (kinds_of (ts ++ rs))) e.takes || swaps_iterator e (kinds_of (ts ++ rs))) ≡ true
    takes_them (plainly f) = ap (λ s. s || swaps_iterator e (kinds_of (ts ++ rs)))
        (ap (λ zs. are_kinds zs e.takes) (taken_is e ts rs (counted h) ∙ f) ∙ are_themselves e.takes)
    takes_them (turned s n f) = either_holds (are_kinds (taken e (kinds_of (ts ++ rs))) e.takes) (swaps_iterator e (kinds_of (ts ++ rs)))
        (both_hold e.swaps (are_kinds (taken e (kinds_of (ts ++ rs))) (kind.Iter ∷ kind.Value ∷ [])) s
        (ap (λ zs. are_kinds zs (kind.Iter ∷ kind.Value ∷ [])) (taken_is e ts rs (counted h) ∙ f)))

abbrev tail_of : StackMap → StackMap
tail_of [] = []
tail_of (k ∷ ks) = ks

module _ (b : Block) (at : Table) (first : StackMap) (start : at 0 ≡ Some first) (begins : kinds_of first ≡ kinds_at_start b.kind) (agrees : AgreesWith b at)
    (found : (q : ℕ) (ks : StackMap) → at q ≡ Some ks → Finds b at (LeadsBelow at) [] [] q ks) where
  -- two lists of kinds that a place gets are that of the table
  one_list : {q : ℕ} {ks ls : Kinds} → Gets b b.size q ks → Gets b b.size q ls → ks ≡ ls
  one_list g h =
      let u = has_kinds b at first start begins agrees g in
      let v = has_kinds b at first start begins agrees h in
      sym u.kinds ∙ (ap kinds_of (is_some_of (sym u.there ∙ v.there)) ∙ v.kinds)

  lengths : LengthsMeet b b.size → ⊥
  lengths (A.two {ks = ks} {ls = ls} g h e) = false≢true (sym e ∙ eq-eqb (length ks) (length ls) (ap length (one_list g h)))

  -- a row over a place leaves no more than lies below what is taken there
  within : {q : ℕ} {i : Ins} {ks : Kinds} (row : Handler) → Reached b b.size q i ks → Contains i.rows row → is_within (effect b.links i.instr) ks row ≡ true
  within {q} {i} {ks} row r c =
      let p = in_place b at first start begins agrees found r in
      let u = found q p.0 p.1 in
      let same : u.here ≡ i = is_some_of (sym u.stands ∙ r.stands) in
      let f = row_fits at u.base u.loop (u.here).rows u.fit row (subst (λ j. Contains j.rows row) (sym same) c) in
      subst (λ j. is_within (effect b.links j.instr) ks row ≡ true) same
      (subst (λ z. is_within (effect b.links (u.here).instr) z row ≡ true) p.2
      (le-leb row.depth (spared (effect b.links (u.here).instr) (kinds_of p.0))
      (let n = counts b at (LeadsBelow at) [] [] q p.0 u in let o = over_length u.over in let w = f.within in omega (arith, n, o, w))))

  -- the kinds that a row leaves are those of its target
  left_by : {q : ℕ} {i : Ins} {ks : Kinds} (row : Handler) → Reached b b.size q i ks → Contains i.rows row
      → (base : StackMap) × (cut row ks ≡ map kind_of (reverse base)) × ((ls : StackMap) → at row.target.0 ≡ Some ls → tail_of ls ≡ base)
  left_by {q} {i} {ks} row r c =
      let p = in_place b at first start begins agrees found r in
      let u = found q p.0 p.1 in
      let same : u.here ≡ i = is_some_of (sym u.stands ∙ r.stands) in
      let f = row_fits at u.base u.loop (u.here).rows u.fit row (subst (λ j. Contains j.rows row) (sym same) c) in
      let over : Over u.base p.0 = subst (Over u.base) (sym u.is) (over_all u.taken u.over) in (
        lowest row.depth u.base,
        ap (take row.depth) (sym p.2 ∙ sym (map_reverse kind_of p.0)) ∙ (sym (map_take kind_of row.depth (reverse p.0)) ∙ ap (map kind_of)
            (over_front row.depth over f.within ∙ (sym (reverse-reverse (take row.depth (reverse u.base))) ∙ ap reverse (sym (lowest_is row.depth u.base))))),
        λ ls h. ap tail_of (is_some_of (sym h ∙ f.there)),
      )

  target_there : {q : ℕ} {i : Ins} {ks : Kinds} (row : Handler) → Reached b b.size q i ks → Contains i.rows row → (ls : StackMap) × (at row.target.0 ≡ Some ls)
  target_there {q} {i} {ks} row r c =
      let p = in_place b at first start begins agrees found r in
      let u = found q p.0 p.1 in
      let same : u.here ≡ i = is_some_of (sym u.stands ∙ r.stands) in
      let f = row_fits at u.base u.loop (u.here).rows u.fit row (subst (λ j. Contains j.rows row) (sym same) c) in (_, f.there)

  handlers : (row : Handler) → HandlerFails b b.size row → ⊥
  handlers row (A.too_deep r c e) = false≢true (sym e ∙ within row r c)
  handlers row (A.differs {ks = ks} {ls = ls} r c s d e) =
      let u = left_by row r c in
      let v = left_by row s d in
      let t = target_there row r c in
      let same : cut row ks ≡ cut row ls = u.1 ∙ (ap (λ z. map kind_of (reverse z)) (sym (u.2 t.0 t.1) ∙ v.2 t.0 t.1) ∙ sym v.1) in
      false≢true (sym e ∙ subst (λ z. are_kinds (cut row ks) z ≡ true) same (are_themselves (cut row ks)))

  -- a target has no more slots than a jump leaves
  target_lower : {t q n : ℕ} {rows : List Handler} {ls : Kinds} → Departing b at first start begins agrees found t q rows n → Gets b b.size t ls
      → length ls ≤ n
  target_lower v g =
      let k = has_kinds b at first start begins agrees g in
      let m = (v.below k.slots k.there).1 in
      let e = ap length (sym k.kinds) ∙ length_kinds k.slots in
      let d = v.deep in
      let h = v.high in omega (arith, m, e, d, h)

  too_few : TooFew b b.size → ⊥
  too_few (A.lacks {q = q} {i = i} {ks = ks} r e) =
      let p = in_place b at first start begins agrees found r in
      let u = found q p.0 p.1 in
      let same : u.here ≡ i = is_some_of (sym u.stands ∙ r.stands) in
      false≢true (sym e ∙ subst (λ j. has_enough (effect b.links j.instr) ks ≡ true) same
      (subst (λ z. has_enough (effect b.links (u.here).instr) z ≡ true) p.2 (enough b at (LeadsBelow at) [] [] q p.0 u)))
  too_few (A.leaves {ks = ks} {ls = ls} (L.free d) g e) =
      false≢true (sym e ∙ le-leb (length ls) (length ks) (target_lower (departs b at first start begins agrees found d) g))
  too_few (A.leaves {t = t} {ls = ls} (L.held {rows = rows} {ks = ks} d row k) g e) =
      let v = departs b at first start begins agrees found d in
      let w = found_row t rows row k in
      let f = row_fits at v.base (Some v.loop) rows v.fit row w.among in
      let s = f.takes t v.exit w.takes in
      let m = has_kinds b at first start begins agrees g in
      let n : length (cut row ks) ≡ row.depth = length-take-le row.depth ks (let i = f.within in let h = v.high in omega (arith, i, h)) in
      false≢true (sym e ∙ le-leb (length ls) (length (cut row ks))
      (let z = (v.below m.slots m.there).1 in let c = ap length (sym m.kinds) ∙ length_kinds m.slots in let y = s.1 in omega (arith, z, c, y, n)))

  -- a jump leaves the lowest slots of its place
  same_front : {t q : ℕ} {rows : List Handler} {ks : Kinds} → Departs b b.size t q rows ks → (n : ℕ) → n ≤ length ks → (zs : StackMap) → at q ≡ Some zs
      → take n ks ≡ take n (kinds_of zs)
  same_front (L.leaves h e) n l zs g =
      let p = in_place b at first start begins agrees found h in ap (take n) (sym p.2 ∙ ap kinds_of (is_some_of (sym p.1 ∙ g)))
  same_front (L.let_go {ks = ks} h e v) n l zs g =
      let p = in_place b at first start begins agrees found h in
      let m = length-take-le (length ks - 1) ks (omega arith) in
      take_less n (length ks - 1) ks (omega (arith, l, m)) ∙ ap (take n) (sym p.2 ∙ ap kinds_of (is_some_of (sym p.1 ∙ g)))

  -- and so it has those of its target
  prefix : {t q : ℕ} {rows : List Handler} {ks ls : Kinds} (d : Departs b b.size t q rows ks) → Gets b b.size t ls → is_prefix ls ks ≡ true
  prefix {ks = ks} {ls = ls} d g =
      let v = departs b at first start begins agrees found d in
      let k = has_kinds b at first start begins agrees g in
      let u = v.below k.slots k.there in
      let c : length ls ≡ length k.slots = ap length (sym k.kinds) ∙ length_kinds k.slots in
      is_prefix_of ls ks (same_front d (length ls) (target_lower v g) v.slots v.there
      ∙ (ap (take (length ls)) (sym (map_reverse kind_of v.slots)) ∙ (sym (map_take kind_of (length ls) (reverse v.slots))
      ∙ (ap (λ n. map kind_of (take n (reverse v.slots))) c ∙ (ap (map kind_of) u.0 ∙ (map_reverse kind_of k.slots ∙ k.kinds))))))

  clashes : KindsClash b b.size → Misplaced b
  clashes (A.two {ks = ks} {ls = ls} g h e) = absurd (false≢true (sym e ∙ subst (λ z. are_kinds ks z ≡ true) (one_list g h) (are_themselves ks)))
  clashes (A.lacks {q = q} {i = i} {ks = ks} r e) =
      let p = in_place b at first start begins agrees found r in
      let u = found q p.0 p.1 in
      let same : u.here ≡ i = is_some_of (sym u.stands ∙ r.stands) in
      absurd (false≢true (sym e ∙ subst (λ j. finds (effect b.links j.instr) ks ≡ true) same
      (subst (λ z. finds (effect b.links (u.here).instr) z ≡ true) (ap kinds_of (sym u.is) ∙ p.2) (finds_them (effect b.links (u.here).instr) u.taken u.rest u.takes u.value))))
  clashes (A.misplaced {q = q} {i = i} {ks = ks} r e) = record { pc = q; ins = i; kinds = ks; reached = r; misplaced = e }
  clashes (A.leaves (L.free d) g e) = absurd (false≢true (sym e ∙ prefix d g))
  clashes (A.leaves {t = t} {ls = ls} (L.held {rows = rows} {ks = ks} d row k) g e) =
      let v = departs b at first start begins agrees found d in
      let w = found_row t rows row k in
      let f = row_fits at v.base (Some v.loop) rows v.fit row w.among in
      let s = f.takes t v.exit w.takes in
      let m = has_kinds b at first start begins agrees g in
      absurd (false≢true (sym e ∙ is_prefix_of ls (cut row ks) (take_less (length ls) row.depth ks
      (let z = (v.below m.slots m.there).1 in let c = ap length (sym m.kinds) ∙ length_kinds m.slots in let y = s.1 in omega (arith, z, c, y))
      ∙ prefix_taken ls ks (prefix d g))))

  strays : Strays b b.size → StrayLeave b
  strays (A.goes {q = q} {r = r} {kept = kept} {ks = ks} {ls = ls} h c e) =
      let u = led b at first start begins agrees h.gets c in
      let f = u.follows in
      let v = found r f.slots f.there in
      not_both (sym v.stands ∙ e)
  strays (A.leaves {q = q} {i = i} {ks = ks} h t l e) = record { pc = q; ins = i; kinds = ks; reached = h; target = t; leaves = l; nowhere = e }

  pub mostly_agrees : MostlyAgrees b
  mostly_agrees = record { lengths = lengths; handlers = handlers; enough = too_few; kinds = clashes; inside = strays }

pub blocks_agree : {A V : Type 0} → BlocksAgree A V
blocks_agree {A} {V} around c code starts b cells captures h same rises stands e =
    let r = all_ready around c code starts b cells captures h same rises stands e in
    let t = have_tables around c code starts b cells captures h same rises stands e in
    mostly_agrees b (table_of b (code_piece around c) (first_slots c)) t.first t.start t.kinds t.agrees
    (found_at code b starts (code_piece around c) (first_slots c) same rises r.stands (r.whole).typed (r.whole).ends r.exits)
