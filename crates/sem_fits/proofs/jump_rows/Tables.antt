-- That places are a closed part, computed from a table of the kinds that places get. The last entries stand first.
use Rattle.std.proofs.Common.{◌≡◌, ◌⊎◌, inl, inr, ℕ, ◌≤◌, ◌<◌, zero, suc, Bool, true, false, not, ◌&&◌, ◌||◌, List, [], ◌∷◌, Option, Some, None, refl, sym, ap, ◌∙◌, subst, arith}
use Rattle.std.specs.Prelude.{Contains, nat_eq, nat_le, nat_lt, is_some}
use Rattle.std.specs.List.{list_all, list_any}
use Rattle.std.proofs.lemmas.Bool.{true≢false, false≢true, leb-true, ltb-true, eqb-true}
use Rattle.pt_instr.specs.declared.Instr.TheVariants as instr
use Rattle.pt_instr.specs.Effects.{Kinds}
use Rattle.pt_code.specs.View.{Ins}
use Rattle.sem_fits.specs.fits.Block.{Block, kinds_at_start}
use Rattle.sem_fits.specs.fits.Steps.{step, steps, are_kinds}
use Rattle.sem_fits.specs.fits.Places as P
use Rattle.sem_fits.specs.fits.Places.{Gets, Reached}
use Rattle.sem_fits.specs.fits.Leaves as L
use Rattle.sem_fits.specs.fits.Leaves.{Departs, Goes, Common, Holds}
use Rattle.sem_fits.specs.fits.Tables.{is_place}
use Rattle.sem_fits.proofs.fits.KindLemmas.{both, same_kinds}
use Rattle.sem_fits.proofs.fits.Ways.{place_of}
use Rattle.pt_ranges.specs.declared.handlers.Handler.{Handler}
use Rattle.sem_fits.proofs.fits.Certificates.{Entry, has, lands_in, is_leave, of_ins}
use Rattle.sem_fits.specs.jump_rows.Rows.{is_among, Is_closed}

module _ {X : Type 0} where
  at_item : (test : X → Bool) (xs : List X) → list_all test xs ≡ true → (x : X) → Contains xs x → test x ≡ true
  at_item test [] e x (k, l, f) = absurd (let h : ⊥ = omega (arith, l) in h)
  at_item test (y ∷ ys) e x (zero, l, f) = subst (λ z. test z ≡ true) f (both (test y) (list_all test ys) e).0
  at_item test (y ∷ ys) e x (suc k, l, f) = at_item test ys (both (test y) (list_all test ys) e).1 x (k, (omega (arith, l)), f)

  some_item : (test : X → Bool) (xs : List X) → list_any test xs ≡ true → (x : X) × Contains xs x × (test x ≡ true)
  some_item test [] e = absurd (false≢true e)
  some_item test (y ∷ ys) e = by_first (test y) refl (some_item test ys) e
    where
      by_first : (b : Bool) → test y ≡ b → (list_any test ys ≡ true → (x : X) × Contains ys x × (test x ≡ true)) → (b || list_any test ys) ≡ true
          → (x : X) × Contains (y ∷ ys) x × (test x ≡ true)
      by_first true is f h = (y, (0, omega arith, refl), is)
      by_first false is f h = let r = f h in let (k, l, g) = r.1 in (r.0, (suc k, omega (arith, l), g), r.2)

follows_or : (x y : Bool) → (x || y) ≡ true → x ≡ false → y ≡ true
follows_or true y e f = absurd (true≢false f)
follows_or false y e f = e

follows : (x y : Bool) → (not x || y) ≡ true → x ≡ true → y ≡ true
follows true y e f = e
follows false y e f = absurd (false≢true f)

abbrev alike : Bool → Bool → Bool
alike true true = true
alike false false = true
alike x y = false

are_alike : (x y : Bool) → alike x y ≡ true → x ≡ y
are_alike true true e = refl
are_alike true false e = absurd (false≢true e)
are_alike false true e = absurd (false≢true e)
are_alike false false e = refl

not_low : (k d : ℕ) → d < k → nat_le k d ≡ false
not_low k d l = by_truth (nat_le k d) refl
  where
    by_truth : (b : Bool) → nat_le k d ≡ b → nat_le k d ≡ false
    by_truth true e = absurd (let m = leb-true k d e in let x : ⊥ = omega (arith, l, m) in x)
    by_truth false e = e

some_of : (o : Option Ins) → is_some o ≡ true → (i : Ins) × (o ≡ Some i)
some_of (Some i) e = (i, refl)
some_of None e = absurd (false≢true e)

-- what is tried of a block: its table has all that places get, and no Leave; each entry is got; a step keeps a slot on one side of the border alone
abbrev pub has_all : Block → List Entry → Bool
has_all b t = has t 0 (kinds_at_start b.kind) && list_all (λ e. list_all (lands_in b t) (steps b e.pc e.kinds)) t

abbrev pub leaves_nowhere : Block → List Entry → Bool
leaves_nowhere b t = list_all (λ e. of_ins (λ i q ks. not (is_leave i.instr)) (b.at e.pc) e.pc e.kinds) t

abbrev pub leads_to : Block → Entry → Entry → Bool
leads_to b f e = list_any (λ s. nat_eq s.to e.pc && are_kinds s.kinds e.kinds) (steps b f.pc f.kinds)

abbrev pub grown : Block → List Entry → Bool
grown b [] = true
grown b (e ∷ t) =
    (nat_le e.pc b.size && is_some (b.at e.pc)) && (((nat_eq 0 e.pc && are_kinds (kinds_at_start b.kind) e.kinds) || list_any (λ f. leads_to b f e) t) && grown b t)

abbrev pub keeps_aside : Block → List Entry → (range : ℕ → Bool) → (slot : ℕ) → Bool
keeps_aside b t range d = list_all (λ e. list_all (λ s. nat_le s.kept d || alike (range e.pc) (range s.to)) (steps b e.pc e.kinds)) t

-- each place but the first is led to from one before it by a step that keeps the slot
abbrev pub linked : Block → List Entry → (places : List ℕ) → (slot : ℕ) → Bool
linked b t [] d = true
linked b t (p ∷ []) d = true
linked b t (p ∷ (q ∷ ps)) d =
    (is_some (b.at p) && list_any (λ e. is_among (q ∷ ps) e.pc && list_any (λ s. nat_eq p s.to && nat_lt d s.kept) (steps b e.pc e.kinds)) t) && linked b t (q ∷ ps) d

module _ (b : Block) (t : List Entry) where
  -- what holds of each entry holds of what is listed
  of_listed : (test : ℕ → Kinds → Bool) → list_all (λ e. test e.pc e.kinds) t ≡ true → (q : ℕ) (ks : Kinds) → has t q ks ≡ true → test q ks ≡ true
  of_listed test f q ks h =
      let r = some_item (λ e. nat_eq e.pc q && are_kinds e.kinds ks) t h in
      let e = r.0 in
      let m = both (nat_eq e.pc q) (are_kinds e.kinds ks) r.2 in
      subst (λ ks. test q ks ≡ true) (same_kinds e.kinds ks m.1) (subst (λ q. test q e.kinds ≡ true) (eqb-true e.pc q m.0) (at_item (λ e. test e.pc e.kinds) t f e r.1))

  listed : has_all b t ≡ true → {q : ℕ} {ks : Kinds} → Gets b b.size q ks → has t q ks ≡ true
  listed w (P.start j e) = (both (has t 0 (kinds_at_start b.kind)) _ w).0
  listed w (P.onward {q = q} {r = r} {kept = k} {ks = ks} {ls = ls} g l c j e) =
      follows (is_place b r) (has t r ls) (at_item (lands_in b t) (steps b q ks)
      (of_listed (λ q ks. list_all (lands_in b t) (steps b q ks)) (both (has t 0 (kinds_at_start b.kind)) _ w).1 q ks (listed w g)) (step r ls k) c) (ap is_some e)

  no_leave : has_all b t ≡ true → leaves_nowhere b t ≡ true → {q target : ℕ} {i : Ins} {ks : Kinds} → Reached b b.size q i ks
      → i.instr ≡ instr.Leave (record { 0 = target }) → ⊥
  no_leave w n {q = q} {i = i} {ks = ks} r e =
      let h = of_listed (λ q ks. of_ins (λ i q ks. not (is_leave i.instr)) (b.at q) q ks) n q ks (listed w r.gets) in
      let g : not (is_leave i.instr) ≡ true = subst (λ o. of_ins (λ i q ks. not (is_leave i.instr)) o q ks ≡ true) r.stands h in
      false≢true (subst (λ j. not (is_leave j) ≡ true) e g)

  mutual
    never_departs : has_all b t ≡ true → leaves_nowhere b t ≡ true → {u q : ℕ} {rows : List Handler} {ks : Kinds} → Departs b b.size u q rows ks → ⊥
    never_departs w n (L.leaves r e) = no_leave w n r e
    never_departs w n (L.let_go r e h) = never_holds w n h

    never_holds : has_all b t ≡ true → leaves_nowhere b t ≡ true → {u q d : ℕ} → Holds b b.size u q d → ⊥
    never_holds w n (L.caught c row e) = never_departs w n c
    never_holds w n (L.exited r e h) = never_holds w n h
    never_holds w n (L.shared c h) = never_holds w n h

  shut_by : has_all b t ≡ true → leaves_nowhere b t ≡ true → (range : ℕ → Bool) (d : ℕ) → keeps_aside b t range d ≡ true
      → {q r k : ℕ} → Goes b b.size q r k → d < k → range q ≡ range r
  shut_by w n range d f (L.by_row {q = q} {r = r} {k = k} {ks = ks} {ls = ls} g c e) l =
      are_alike (range q) (range r) (follows_or (nat_le k d) _
      (at_item (λ s. nat_le s.kept d || alike (range q) (range s.to)) (steps b q ks)
      (of_listed (λ q ks. list_all (λ s. nat_le s.kept d || alike (range q) (range s.to)) (steps b q ks)) f q ks (listed w g.gets)) (step r ls k) c) (not_low k d l))
  shut_by w n range d f (L.by_leave c g) l = absurd (never_departs w n c)

  got_by : (e : Entry) → (nat_le e.pc b.size && is_some (b.at e.pc)) ≡ true → (us : List Entry) → ((f : Entry) → Contains us f → Gets b b.size f.pc f.kinds × (f.pc ≤ b.size))
      → (x : Bool) → (nat_eq 0 e.pc && are_kinds (kinds_at_start b.kind) e.kinds) ≡ x → (x || list_any (λ f. leads_to b f e) us) ≡ true
      → Gets b b.size e.pc e.kinds × (e.pc ≤ b.size)
  got_by e low us f true is h =
      let l = both (nat_le e.pc b.size) _ low in
      let i = some_of (b.at e.pc) l.1 in
      let m = both (nat_eq 0 e.pc) _ is in
      let zero_is : 0 ≡ e.pc = eqb-true 0 e.pc m.0 in (
        subst (λ ks. Gets b b.size e.pc ks) (same_kinds _ e.kinds m.1)
            (subst (λ q. Gets b b.size q (kinds_at_start b.kind)) zero_is (P.start i.0 (subst (λ q. b.at q ≡ Some i.0) (sym zero_is) i.1))),
        leb-true e.pc b.size l.0,
      )
  got_by e low us f false is h =
      let l = both (nat_le e.pc b.size) _ low in
      let i = some_of (b.at e.pc) l.1 in
      let r = some_item (λ f. leads_to b f e) us h in
      let s = some_item (λ s. nat_eq s.to e.pc && are_kinds s.kinds e.kinds) (steps b r.0.pc r.0.kinds) r.2 in
      let m = both (nat_eq s.0.to e.pc) _ s.2 in
      let g = f r.0 r.1 in
      let to_is : s.0.to ≡ e.pc = eqb-true s.0.to e.pc m.0 in (
        subst (λ ks. Gets b b.size e.pc ks) (same_kinds s.0.kinds e.kinds m.1)
            (subst (λ q. Gets b b.size q s.0.kinds) to_is (P.onward {kept = s.0.kept} g.0 g.1 s.1 i.0 (subst (λ q. b.at q ≡ Some i.0) (sym to_is) i.1))),
        leb-true e.pc b.size l.0,
      )

  all_got : (us : List Entry) → grown b us ≡ true → (e : Entry) → Contains us e → Gets b b.size e.pc e.kinds × (e.pc ≤ b.size)
  all_got [] g e (k, l, f) = absurd (let h : ⊥ = omega (arith, l) in h)
  all_got (u ∷ us) g e (zero, l, f) =
      let m = both (nat_le u.pc b.size && is_some (b.at u.pc)) _ g in
      let o = both _ (grown b us) m.1 in
      subst (λ (e : Entry). Gets b b.size e.pc e.kinds × (e.pc ≤ b.size)) f (got_by u m.0 us (all_got us o.1) _ refl o.0)
  all_got (u ∷ us) g e (suc k, l, f) =
      let m = both (nat_le u.pc b.size && is_some (b.at u.pc)) _ g in
      all_got us (both _ (grown b us) m.1).1 e (k, omega (arith, l), f)

  -- one step between a place and one before it
  link : grown b t ≡ true → (d p : ℕ) (ps : List ℕ)
      → (is_some (b.at p) && list_any (λ e. is_among ps e.pc && list_any (λ s. nat_eq p s.to && nat_lt d s.kept) (steps b e.pc e.kinds)) t) ≡ true
      → (q : ℕ) × (is_among ps q ≡ true) × Common b b.size d q p
  link w d p ps h =
      let m = both (is_some (b.at p)) _ h in
      let j = some_of (b.at p) m.0 in
      let r = some_item (λ e. is_among ps e.pc && list_any (λ s. nat_eq p s.to && nat_lt d s.kept) (steps b e.pc e.kinds)) t m.1 in
      let e = r.0 in
      let n = both (is_among ps e.pc) _ r.2 in
      let s = some_item (λ s. nat_eq p s.to && nat_lt d s.kept) (steps b e.pc e.kinds) n.1 in
      let o = both (nat_eq p s.0.to) _ s.2 in
      let g = all_got t w e r.1 in
      let i = place_of g.0 in
      let to_is : p ≡ s.0.to = eqb-true p s.0.to o.0 in (
        e.pc,
        n.0,
        subst (λ r. Common b b.size d e.pc r) (sym to_is) (L.kept (L.by_row (record { gets = g.0; low = g.1; stands = i.1 }) s.1
            (subst (λ r. b.at r ≡ Some j.0) to_is j.1)) (ltb-true d s.0.kept o.1)),
      )

  among : (p : ℕ) (ps : List ℕ) (q : ℕ) → is_among (p ∷ ps) q ≡ true → (x : Bool) → nat_eq q p ≡ x → (q ≡ p) ⊎ (is_among ps q ≡ true)
  among p ps q h true is = inl (eqb-true q p is)
  among p ps q h false is = inr (follows_or (nat_eq q p) _ h is)

  linked_all : grown b t ≡ true → (d : ℕ) (ps : List ℕ) → linked b t ps d ≡ true → (q r : ℕ) → is_among ps q ≡ true → is_among ps r ≡ true → Common b b.size d q r
  linked_all w d [] h q r m n = absurd (false≢true m)
  linked_all w d (p ∷ []) h q r m n = alone (among p [] q m _ refl) (among p [] r n _ refl)
    where
      alone : (q ≡ p) ⊎ (is_among [] q ≡ true) → (r ≡ p) ⊎ (is_among [] r ≡ true) → Common b b.size d q r
      alone (inl e) (inl f) = subst (λ z. Common b b.size d q z) (e ∙ sym f) L.same
      alone (inr e) f = absurd (false≢true e)
      alone e (inr f) = absurd (false≢true f)
  linked_all w d (p ∷ (u ∷ ps)) h q r m n =
      let o = both (is_some (b.at p) && list_any (λ e. is_among (u ∷ ps) e.pc && list_any (λ s. nat_eq p s.to && nat_lt d s.kept) (steps b e.pc e.kinds)) t) _ h in
      by_place (linked_all w d (u ∷ ps) o.1) (link w d p (u ∷ ps) o.0) (among p (u ∷ ps) q m _ refl) (among p (u ∷ ps) r n _ refl)
    where
      by_place : ((q r : ℕ) → is_among (u ∷ ps) q ≡ true → is_among (u ∷ ps) r ≡ true → Common b b.size d q r)
          → ((v : ℕ) × (is_among (u ∷ ps) v ≡ true) × Common b b.size d v p)
          → (q ≡ p) ⊎ (is_among (u ∷ ps) q ≡ true) → (r ≡ p) ⊎ (is_among (u ∷ ps) r ≡ true) → Common b b.size d q r
      by_place f k (inl e) (inl g) = subst (λ z. Common b b.size d q z) (e ∙ sym g) L.same
      by_place f k (inl e) (inr g) = subst (λ z. Common b b.size d z r) (sym e) (L.along (L.back k.2) (f k.0 r k.1 g))
      by_place f k (inr e) (inl g) = subst (λ z. Common b b.size d q z) (sym g) (L.along (f q k.0 e k.1) k.2)
      by_place f k (inr e) (inr g) = f q r e g

  pub closed_by : has_all b t ≡ true → leaves_nowhere b t ≡ true → grown b t ≡ true → (ps : List ℕ) (d : ℕ) → keeps_aside b t (is_among ps) d ≡ true
      → linked b t ps d ≡ true → Is_closed b ps d
  closed_by w n g ps d f h = record { shut = λ q r k s l. shut_by w n (is_among ps) d f s l; whole = linked_all g d ps h }
