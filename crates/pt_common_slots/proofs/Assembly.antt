-- The pairs of all steps join just what is in common.
use Rattle.std.proofs.Common.{◌≡◌, ℕ, ◌<◌, ◌≤◌, List, [], ◌++◌, length, filter, Option, Some, None, Bool, true, false, refl, sym, ap, ◌∙◌, subst, arith, inl, inr}
use Rattle.std.specs.Prelude.{Contains, MatchBool, ◌↔◌}
use Rattle.std.proofs.lemmas.List.Elements.{Contains-append_left, Contains-append_right, Contains-append_cases}
use Rattle.pt_ranges.specs.declared.handlers.Handler.{Handler}
use Rattle.pt_ranges.specs.Rows.{covers}
use Rattle.pt_code.specs.View.{Ins}
use Rattle.pt_places.specs.declared.places.Place.{Place}
use Rattle.pt_places.specs.PlaceTable as T
use Rattle.pt_places.specs.PlaceTable.{place_at}
use Rattle.pt_sizes.specs.Flow.{entry, is_under}
use Rattle.pt_sizes.proofs.Tables.{entry_in}
use Rattle.sem_fits.specs.fits.Block.{Block, effect}
use Rattle.sem_fits.specs.fits.Steps.{step, steps_of, by_instruction, by_handlers, is_within, landing}
use Rattle.sem_fits.specs.fits.Places.{Gets, Reached}
use Rattle.sem_fits.specs.fits.Places as P
use Rattle.sem_fits.specs.fits.Leaves as L
use Rattle.sem_fits.specs.fits.Leaves.{Common}
use Rattle.sem_fits.proofs.fits.Ways.{place_of}
use Rattle.pt_verify_depths.specs.PlaceTable.{AreSizesUpTo}
use Rattle.pt_verify_depths.proofs.SizeLemmas.{kinds_have_sizes, sizes_have_kinds}
use Rattle.pt_joins.specs.declared.joins.Join.{Join}
use Rattle.pt_joins.specs.declared.joins.Node.{Node}
use Rattle.pt_joins.specs.Joins.{IsPair, Joined, paired, related, same, back, along, AreWithin, Root}
use Rattle.pt_joins.proofs.Joining.{least_in}
use Rattle.pt_row_joins.specs.Rows.{Lists, Under, lands}
use Rattle.pt_row_joins.proofs.Lists.{none_in, some_none}
use Rattle.pt_row_joins.proofs.Ranks.{below_or}
use Rattle.pt_common_slots.specs.Joins.{own_joins, IsOwn, AreLowSizes}
use Rattle.pt_common_slots.specs.Common.{Keeps, by_row, by_leave, AreCommon, RowsLead, TellsCommon}
use Rattle.pt_common_slots.proofs.Lists.{kept, keeps, mapped}
use Rattle.pt_common_slots.proofs.Low.{low_here, low_behind}
use Rattle.pt_common_slots.proofs.Law.{at_handler, keeps_common, common_kept, kept_joined}
use Rattle.pt_common_slots.proofs.OwnLemmas.{sized, own_common, own_joined, leave_joined, own_within}

no_size : (sizes : List (Option ℕ)) (pc : ℕ) (o : Option Place) → own_joins sizes pc o None ≡ []
no_size sizes pc None = refl
no_size sizes pc (Some p) = refl

-- more pairs join no less
more_pairs : (xs zs : List Join) → ((j : Join) → Contains xs j → Contains zs j) → (d q r : ℕ) → IsPair xs d q r → Joined zs d q r
more_pairs xs zs f d _ _ (paired {j = j} c lt) = related (paired (f j c) lt)

wider : (xs zs : List Join) → ((j : Join) → Contains xs j → Contains zs j) → (d q r : ℕ) → Joined xs d q r → Joined zs d q r
wider xs zs f d q r h = least_in (more_pairs xs zs f d) q r h

module _ (b : Block) (p : ℕ) (lead : RowsLead b)
    (rows : (pc : ℕ) (i : Ins) → b.at pc ≡ Some i → i.rows ≡ filter (λ row. covers row (record { 0 = pc })) b.handlers)
    (sizes : List (Option ℕ)) (are : AreSizesUpTo b p sizes) (low : List (Option ℕ)) (up_to : AreLowSizes p sizes low)
    (places : List (Option Place)) (shown : (pc : ℕ) → T.entry places pc ≡ place_at (b.at pc))
    (own landings : List Join) (lists : Lists (IsOwn places sizes p) own)
    (under : (d q r : ℕ) → Joined landings d q r ↔ Under low b.handlers d q r) where
  -- a place under a row leads to its target
  pub record LeadsToTarget (q : ℕ) (row : Handler) : Type 0 where
    pub keeps : Keeps b p q row.target.0 row.depth
    pub size : ℕ
    pub is : entry sizes row.target.0 ≡ Some size

  landed : (q n : ℕ) → q ≤ p → entry sizes q ≡ Some n → (row : Handler) → Contains b.handlers row → is_under row q ≡ true → LeadsToTarget q row
  landed q n le e row c u =
      let g = sizes_have_kinds b p q n (are.sound q n e) in
      let (i, at) = place_of g.gets in
      let s = at_handler b p are.agree q i g.kinds (record { gets = g.gets; low = le; stands = at }) lead row
      (subst (λ hs. Contains hs row) (sym (rows q i at)) (keeps (λ row. covers row (record { 0 = q })) b.handlers row c u)) in
      record { keeps = s.keeps; size = _; is = are.whole row.target.0 _ (kinds_have_sizes b p row.target.0 _ s.gets) }

  -- those up to the limit alone have sizes in the lower table
  from_low : (q n : ℕ) → entry low q ≡ Some n → (q ≤ p) × (entry sizes q ≡ Some n)
  from_low q n e = elim (below_or p q) [
    | inl h ↦ absurd (some_none n (sym (low_behind p sizes low up_to q h) ∙ e))
    | inr h ↦ (h, sym (low_here p sizes low up_to q h) ∙ e)
  ]

  under_common : (d q r : ℕ) → Under low b.handlers d q r → Common b p d q r
  under_common d _ _ (related (lands {q = q} {n = n} {row = row} e c u lt inside)) = let (le, f) = from_low q n e in
      keeps_common b p q row.target.0 row.depth d (landed q n le f row c u).keeps lt
  under_common d q _ same = L.same
  under_common d q r (back h) = L.back (under_common d r q h)
  under_common d q s (along {b = r} h g) = L.along (under_common d q r h) (under_common d r s g)

  own_is_common : (j : Join) (d : ℕ) → IsOwn places sizes p j → d < j.levels → Common b p d j.one j.other
  own_is_common j d o lt = by (entry sizes o.pc) refl
    where
      by : (s : Option ℕ) → entry sizes o.pc ≡ s → Common b p d j.one j.other
      by None e = absurd (none_in j (subst (λ xs. Contains xs j) (ap (λ s. own_joins sizes o.pc (T.entry places o.pc) s) e ∙ no_size sizes o.pc (T.entry places o.pc)) o.among))
      by (Some n) e =
          let g = sizes_have_kinds b p o.pc n (are.sound o.pc n e) in
          let (i, at) = place_of g.gets in
          let h = o.low in
          own_common b p sizes are places shown o.pc i g.kinds (record { gets = g.gets; low = omega (arith, h); stands = at }) j d o.among lt

  sound : (j : Join) (d : ℕ) → Contains (own ++ landings) j → d < j.levels → Common b p d j.one j.other
  sound j d c lt = elim (Contains-append_cases own landings j c) [
    | inl x ↦ own_is_common j d (lists.only j x) lt
    | inr y ↦ under_common d j.one j.other ((under d j.one j.other).0 (related (paired y lt)))
  ]

  joined_common : (d q r : ℕ) → Joined (own ++ landings) d q r → Common b p d q r
  joined_common d _ _ (related (paired {j = j} c lt)) = sound j d c lt
  joined_common d q _ same = L.same
  joined_common d q r (back h) = L.back (joined_common d r q h)
  joined_common d q s (along {b = r} h g) = L.along (joined_common d q r h) (joined_common d r s g)

  has_own : (q n : ℕ) → q ≤ p → entry sizes q ≡ Some n → (j : Join)
      → Contains (own_joins sizes q (T.entry places q) (entry sizes q)) j → Contains (own ++ landings) j
  has_own q n le e j c = let h = entry_in sizes q n e in
      Contains-append_left own landings j (lists.all j (record { pc = q; low = omega (arith, h, le); among = c }))

  row_joined : (q n d : ℕ) → q ≤ p → entry sizes q ≡ Some n → (row : Handler) → Contains b.handlers row → is_under row q ≡ true → d < row.depth
      → Joined (own ++ landings) d q row.target.0
  row_joined q n d le e row c u lt = let l = landed q n le e row c u in
      wider landings (own ++ landings) (λ j y. Contains-append_right own landings j y) d q row.target.0
      ((under d q row.target.0).1 (related (lands (low_here p sizes low up_to q le ∙ e) c u lt
      (subst (λ n. row.target.0 < n) (sym up_to.long) (entry_in sizes row.target.0 l.size l.is)))))

  whole : (q r k d : ℕ) → Keeps b p q r k → d < k → Joined (own ++ landings) d q r
  whole q r k d (by_row {i = i} {j = j} {ks = ks} {ls = ls} reached c at) lt =
      elim (Contains-append_cases (by_instruction (effect b.links i.instr) ks q i) (by_handlers (effect b.links i.instr) ks i.rows) (step r ls k)
      (subst (λ o. Contains (steps_of b.links q ks o) (step r ls k)) reached.stands c)) [
        | inl a ↦ own_joined b p sizes are places shown q i ks reached (own ++ landings) (has_own q (length ks) reached.low (sized b p sizes are places shown q ks reached.gets)) d (step r ls k) a
            (P.onward reached.gets reached.low c j at) lt
        | inr a ↦ (let (row, (x, is)) = mapped (landing ks) (filter (is_within (effect b.links i.instr) ks) i.rows) (step r ls k) a in
            let y = kept (is_within (effect b.links i.instr) ks) i.rows row x in
            let z = kept (λ h. covers h (record { 0 = q })) b.handlers row (subst (λ hs. Contains hs row) (rows q i reached.stands) y.0) in
            subst (λ s. d < s.kept → Joined (own ++ landings) d q s.to) is
            (λ lt. row_joined q (length ks) d reached.low (sized b p sizes are places shown q ks reached.gets) row z.0 z.1 lt) lt)
      ]
  whole q t k d (by_leave {i = i} {ks = ks} {ls = ls} reached is got) lt =
      leave_joined b p sizes are places shown q i ks reached (own ++ landings) (has_own q (length ks) reached.low (sized b p sizes are places shown q ks reached.gets)) d t ls is got lt

  pub are_common : AreCommon b p (own ++ landings)
  are_common = record { exact = λ d q r. ((λ h. joined_common d q r h), (λ c. kept_joined b p (own ++ landings) whole d q r (common_kept b p are.agree lead c))) }

-- the pairs are of places that are counted
pub all_within : (places : List (Option Place)) (sizes : List (Option ℕ)) (limit : ℕ) (own landings : List Join) → Lists (IsOwn places sizes limit) own
    → AreWithin (length sizes) landings → AreWithin (length sizes) (own ++ landings)
all_within places sizes limit own landings lists within j c = elim (Contains-append_cases own landings j c) [
  | inl x ↦ (let o = lists.only j x in
      let (e, (n, f)) = own_within sizes o.pc (T.entry places o.pc) (entry sizes o.pc) j o.among in
      let low = o.low in let h : j.other < length sizes = entry_in sizes j.other n f in (omega (arith, e, low), h))
  | inr y ↦ within j y
]

pub decided : (b : Block) (p : ℕ) (nodes : List Node) (t : TellsCommon b p nodes) (slot q r : ℕ) (test : Bool)
    → MatchBool test (Joined t.joins slot q r) (Joined t.joins slot q r → ⊥)
    → MatchBool test (Common b p slot q r) (Common b p slot q r → ⊥)
decided b p nodes t slot q r true m = (t.common.exact slot q r).0 m
decided b p nodes t slot q r false m = λ c. m ((t.common.exact slot q r).1 c)

pub one_number : (b : Block) (p : ℕ) (nodes : List Node) → TellsCommon b p nodes → (slot q r i j : ℕ) → Root nodes slot q i
    → Root nodes slot r j → (i ≡ j) ↔ Common b p slot q r
one_number b p nodes t slot q r i j k k' = (
  (λ e. (t.common.exact slot q r).0 ((t.tells.exact slot q r i j k k').0 e)),
  (λ c. (t.tells.exact slot q r i j k k').1 ((t.common.exact slot q r).1 c)),
)
