-- What is in common is so by plain steps alone: those by which an EndFinally lets a Leave go on keep nothing else.
use Rattle.std.proofs.Common.{◌≡◌, ℕ, ◌+◌, ◌-◌, ◌<◌, ◌≤◌, min, Bool, true, if◌then◌else◌, List, [], ◌∷◌, ◌++◌, length, Option, Some, None, refl, sym, ap, ◌∙◌, subst, arith}
use Rattle.std.specs.Prelude.{Contains}
use Rattle.std.proofs.lemmas.List.{length-take-le}
use Rattle.std.proofs.lemmas.List.Elements.{Contains-append_left, Contains-append_right}
use Rattle.std.proofs.lemmas.Bool.{true_from_ne_false, leb-true}
use Rattle.pt_instr.specs.declared.Instr.{Instr}
use Rattle.pt_instr.specs.declared.Instr.TheVariants.{EndFinally, Exit}
use Rattle.pt_instr.specs.declared.effects.Effect.{Effect}
use Rattle.pt_instr.specs.declared.kinds.Kind.TheVariants.{Pending}
use Rattle.pt_instr.specs.Effects.{Kinds, effect_of}
use Rattle.pt_ranges.specs.declared.handlers.Handler.{Handler}
use Rattle.pt_code.specs.View.{Ins}
use Rattle.sem_fits.specs.fits.Block.{Links, Block, effect, captured}
use Rattle.sem_fits.specs.fits.Steps.{step, steps, steps_of, by_instruction, by_handlers, onward, aside, again, gives, given_behind, spared, below, has_enough, is_within, cut, held_by, landing, target_of}
use Rattle.sem_fits.specs.fits.Places.{Gets, Reached}
use Rattle.sem_fits.specs.fits.Places as P
use Rattle.sem_fits.specs.fits.Leaves as L
use Rattle.sem_fits.specs.fits.Leaves.{Departs, Goes, Common, Holds, taker, takes_leave}
use Rattle.sem_fits.proofs.fits.Ways.{first, found_contained, place_of}
use Rattle.pt_verify_depths.specs.PlaceTable.{SizesDisagree, deep, few}
use Rattle.pt_verify_depths.proofs.SizeLemmas.{rows_are_as_deep, lack_as_few}
use Rattle.pt_common_slots.proofs.Lists.{keeps, maps}
use Rattle.pt_joins.specs.declared.joins.Join.{Join}
use Rattle.pt_joins.specs.Joins.{Joined, related, same, back, along}
use Rattle.pt_joins.proofs.Joining.{least_in}
use Rattle.pt_common_slots.specs.Common.{Keeps, by_row, by_leave, IsKept, KeepsSlot, one_step, RowsLead}

-- what an EndFinally and an Exit take and give

end_takes : (f : ℕ) → length (effect_of EndFinally f).takes ≡ 1
unfolding effect_of
end_takes f = refl

exit_takes : (f : ℕ) → length (effect_of Exit f).takes ≡ 2
unfolding effect_of
exit_takes f = refl

exit_gives : (f : ℕ) → (effect_of Exit f).gives ≡ Some (Pending ∷ [])
unfolding effect_of
exit_gives f = refl

pub takes_one : (links : Links) (i : Instr) → i ≡ EndFinally → length (effect links i).takes ≡ 1
takes_one links i e = ap (λ x. length (effect links x).takes) e ∙ end_takes (captured links EndFinally)

pub takes_two : (links : Links) (i : Instr) → i ≡ Exit → length (effect links i).takes ≡ 2
takes_two links i e = ap (λ x. length (effect links x).takes) e ∙ exit_takes (captured links Exit)

pub gives_one : (links : Links) (i : Instr) → i ≡ Exit → (effect links i).gives ≡ Some (Pending ∷ [])
gives_one links i e = ap (λ x. (effect links x).gives) e ∙ exit_gives (captured links Exit)

-- a place where an instruction stands
abbrev pub IsPlace : Block → (pc : ℕ) → Type 0
IsPlace b pc = (j : Ins) × (b.at pc ≡ Some j)

-- a step to a place that gets its kinds
pub record Stays (b : Block) (p from to : ℕ) (ks : Kinds) (kept : ℕ) : Type 0 where
  pub gets : Gets b p to ks
  pub keeps : Keeps b p from to kept

module _ (b : Block) (p : ℕ) (agree : SizesDisagree b p → ⊥) (q : ℕ) (i : Ins) (ks : Kinds) (reached : Reached b p q i ks) where
  abbrev e : Effect
  e = effect b.links i.instr

  enough : has_enough e ks ≡ true
  enough = true_from_ne_false _ (λ f. agree (few ((lack_as_few b p).sizes
      (record { pc = q; ins = i; kinds = ks; reached = reached; fails = f }))))

  within : (row : Handler) → Contains i.rows row → is_within e ks row ≡ true
  within row c = true_from_ne_false _ (λ f. agree (deep row ((rows_are_as_deep b p row).sizes
      (record { pc = q; ins = i; kinds = ks; reached = reached; under = c; fails = f }))))

  way : (r : ℕ) (ls : Kinds) (k : ℕ) → Contains (steps_of b.links q ks (Some i)) (step r ls k) → IsPlace b r → Stays b p q r ls k
  way r ls k c (j, at) = record { gets = P.onward reached.gets reached.low among j at; keeps = by_row reached among at }
    where
      among : Contains (steps b q ks) (step r ls k)
      among = subst (λ o. Contains (steps_of b.links q ks o) (step r ls k)) (sym reached.stands) c

  by_itself : (r : ℕ) (ls : Kinds) (k : ℕ)
      → Contains (onward e ks i.next e.gives ++ (aside e ks (target_of i.instr) e.aside ++ again e ks q)) (step r ls k)
      → IsPlace b r → Stays b p q r ls k
  by_itself r ls k c there = way r ls k (Contains-append_left (by_instruction e ks q i) (by_handlers e ks i.rows) (step r ls k) (chosen (has_enough e ks) enough)) there
    where
      chosen : (t : Bool) → t ≡ true
          → Contains (if t then (onward e ks i.next e.gives ++ (aside e ks (target_of i.instr) e.aside ++ again e ks q)) else []) (step r ls k)
      chosen t f = subst (λ t. Contains (if t then (onward e ks i.next e.gives ++ (aside e ks (target_of i.instr) e.aside ++ again e ks q)) else []) (step r ls k)) (sym f) c

  pub behind : (given : Kinds) → e.gives ≡ Some given → IsPlace b i.next
      → Stays b p q i.next (below e ks ++ given_behind e ks given) (spared e ks + min e.keeps (length (given_behind e ks given)))
  behind given f there = by_itself _ _ _ (Contains-append_left (onward e ks i.next e.gives) (aside e ks (target_of i.instr) e.aside ++ again e ks q) _
      (subst (λ o. Contains (onward e ks i.next o) (gives e ks i.next (given_behind e ks given))) (sym f) (first _ []))) there

  pub at_target : (t : ℕ) (given : Kinds) → target_of i.instr ≡ Some t → e.aside ≡ Some given → IsPlace b t
      → Stays b p q t (below e ks ++ given) (spared e ks + min e.keeps (length given))
  at_target t given f g there = by_itself _ _ _ (Contains-append_right (onward e ks i.next e.gives) (aside e ks (target_of i.instr) e.aside ++ again e ks q) _
      (Contains-append_left (aside e ks (target_of i.instr) e.aside) (again e ks q) _
      (subst (λ o. Contains (aside e ks (target_of i.instr) o) (gives e ks t given)) (sym g)
      (subst (λ o. Contains (aside e ks o (Some given)) (gives e ks t given)) (sym f) (first _ []))))) there

  pub at_handler : RowsLead b → (row : Handler) → Contains i.rows row → Stays b p q row.target.0 (cut row ks ++ held_by row ∷ []) row.depth
  at_handler lead row c = arrives (b.at row.target.0) refl
    where
      arrives : (o : Option Ins) → b.at row.target.0 ≡ o → Stays b p q row.target.0 (cut row ks ++ held_by row ∷ []) row.depth
      arrives (Some j) at = way _ _ _ (Contains-append_right (by_instruction e ks q i) (by_handlers e ks i.rows) (landing ks row)
          (maps (landing ks) _ row (keeps (is_within e ks) i.rows row c (within row c)))) (j, at)
      arrives None at = absurd (lead q i reached.stands row c at)

  pub depth_spared : (row : Handler) → Contains i.rows row → row.depth ≤ spared e ks
  depth_spared row c = leb-true row.depth (spared e ks) (within row c)

-- a plain step keeps what is in common
pub keeps_common : (b : Block) (p q r k d : ℕ) → Keeps b p q r k → d < k → Common b p d q r
keeps_common b p q r k d (by_row reached c at) lt = L.kept (L.by_row reached c at) lt
keeps_common b p q r k d (by_leave reached e got) lt = L.kept (L.by_leave (L.leaves reached e) got) lt

pub kept_common : (b : Block) (p d q r : ℕ) → IsKept b p d q r → Common b p d q r
kept_common b p d _ _ (related (one_step {q = q} {r = r} {k = k} keeps lt)) = keeps_common b p q r k d keeps lt
kept_common b p d q _ same = L.same
kept_common b p d q r (back h) = L.back (kept_common b p d r q h)
kept_common b p d q s (along {b = r} h g) = L.along (kept_common b p d q r h) (kept_common b p d r s g)

less_step : (b : Block) (p d e : ℕ) → e ≤ d → (q r : ℕ) → KeepsSlot b p d q r → IsKept b p e q r
less_step b p d e le _ _ (one_step keeps lt) = related (one_step keeps (omega (arith, le, lt)))

less : (b : Block) (p d e q r : ℕ) → e ≤ d → IsKept b p d q r → IsKept b p e q r
less b p d e q r le h = least_in (less_step b p d e le) q r h

-- what has a slot in common with a place is one, too

pub record ArePlaces (b : Block) (q r : ℕ) : Type 0 where
  pub onward : IsPlace b q → IsPlace b r
  pub backward : IsPlace b r → IsPlace b q

departs_place : {b : Block} {p t q : ℕ} {hs : List Handler} {low : Kinds} → Departs b p t q hs low → IsPlace b q
departs_place (L.leaves {i = i} reached is) = (i, reached.stands)
departs_place (L.let_go {i = i} reached is holds) = (i, reached.stands)

goes_places : {b : Block} {p q r k : ℕ} → Goes b p q r k → ArePlaces b q r
goes_places (L.by_row {i = i} {j = j} reached c at) = record { onward = λ q. (j, at); backward = λ r. (i, reached.stands) }
goes_places (L.by_leave departs got) = record { onward = λ q. place_of got; backward = λ r. departs_place departs }

pub common_places : {b : Block} {p d q r : ℕ} → Common b p d q r → ArePlaces b q r
common_places (L.kept goes lt) = goes_places goes
common_places L.same = record { onward = λ q. q; backward = λ q. q }
common_places (L.back c) = let s = common_places c in record { onward = s.backward; backward = s.onward }
common_places (L.along c e) = let s = common_places c in let t = common_places e in
    record { onward = λ q. t.onward (s.onward q); backward = λ r. s.backward (t.backward r) }

-- what the steps join, pairs join
step_joined : (b : Block) (p : ℕ) (joins : List Join) → ((q r k d : ℕ) → Keeps b p q r k → d < k → Joined joins d q r)
    → (d q r : ℕ) → KeepsSlot b p d q r → Joined joins d q r
step_joined b p joins whole d _ _ (one_step {q = q} {r = r} {k = k} keeps lt) = whole q r k d keeps lt

pub kept_joined : (b : Block) (p : ℕ) (joins : List Join) → ((q r k d : ℕ) → Keeps b p q r k → d < k → Joined joins d q r)
    → (d q r : ℕ) → IsKept b p d q r → Joined joins d q r
kept_joined b p joins whole d q r h = least_in (step_joined b p joins whole d) q r h

module _ (b : Block) (p : ℕ) (agree : SizesDisagree b p → ⊥) (lead : RowsLead b) where
  taken_row : {t q : ℕ} {hs : List Handler} {low : Kinds} → Departs b p t q hs low → (row : Handler) → taker hs t ≡ Some row
      → (row.depth ≤ length low) × Keeps b p q row.target.0 row.depth
  taken_row {t = t} (L.leaves {q = q} {i = i} {ks = ks} reached is) row f =
      let c = (found_contained (takes_leave t) i.rows row f).0 in
      let le = depth_spared b p agree q i ks reached row c in
      (omega (arith, le), (at_handler b p agree q i ks reached lead row c).keeps)
  taken_row {t = t} (L.let_go {q = q} {i = i} {ks = ks} reached is holds) row f =
      let c = (found_contained (takes_leave t) i.rows row f).0 in
      let le = depth_spared b p agree q i ks reached row c in
      let one = takes_one b.links i.instr is in
      let long = length-take-le (length ks - 1) ks (let h : length ks - 1 ≤ length ks = omega arith in h) in
      (omega (arith, le, one, long), (at_handler b p agree q i ks reached lead row c).keeps)

  mutual
    -- the slots of a target are the same where a Leave goes on, and below the slot of a place that holds it
    pub departs_kept : {t q : ℕ} {hs : List Handler} {low ls : Kinds} → Departs b p t q hs low → Gets b p t ls
        → (x : ℕ) → x < length ls → x < length low
        → IsKept b p x q t
    departs_kept {t = t} (L.leaves {q = q} reached is) got x lt lt' = related (one_step (by_leave reached is got) (omega (arith, lt, lt')))
    departs_kept (L.let_go {i = i} {ks = ks} reached is holds) got x lt lt' =
        let long = length-take-le (length ks - 1) ks (let h : length ks - 1 ≤ length ks = omega arith in h) in
        holds_kept holds (i, reached.stands) got x lt (omega (arith, lt', long))

    holds_kept : {t q d : ℕ} {ls : Kinds} → Holds b p t q d → IsPlace b q → Gets b p t ls → (x : ℕ) → x < length ls → x < d → IsKept b p x q t
    holds_kept (L.caught {q = q} departs row f) there got x lt lt' = let (le, k) = taken_row departs row f in
        along (back (related (one_step k lt'))) (departs_kept departs got x lt (omega (arith, le, lt')))
    holds_kept (L.exited {q = q} {i = i} {ks = ks} reached is holds) there got x lt lt' =
        let two = takes_two b.links i.instr is in
        along (back (related (one_step (behind b p agree q i ks reached (Pending ∷ []) (gives_one b.links i.instr is) there).keeps (omega (arith, lt', two)))))
        (holds_kept holds (i, reached.stands) got x lt (omega (arith, lt')))
    holds_kept (L.shared {q = q} {r = r} {d = d} common holds) there got x lt lt' =
        along (back (less b p d x q r (omega (arith, lt')) (common_kept common)))
        (holds_kept holds ((common_places common).backward there) got x lt lt')

    goes_kept : {d q r k : ℕ} → Goes b p q r k → d < k → IsKept b p d q r
    goes_kept {d = d} (L.by_row {q = q} {r = r} {k = k} reached c at) lt = related (one_step (by_row reached c at) lt)
    goes_kept {d = d} (L.by_leave departs got) lt = departs_kept departs got d (omega (arith, lt)) (omega (arith, lt))

    pub common_kept : {d q r : ℕ} → Common b p d q r → IsKept b p d q r
    common_kept (L.kept goes lt) = goes_kept goes lt
    common_kept L.same = same
    common_kept (L.back c) = back (common_kept c)
    common_kept (L.along c e) = along (common_kept c) (common_kept e)
