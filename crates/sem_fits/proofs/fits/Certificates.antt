-- A table of the kinds of places, from which what holds of a block is computed.
use Rattle.std.proofs.Common.{◌≡◌, ℕ, ◌≤◌, ◌<◌, zero, suc, Bool, true, false, not, ◌&&◌, ◌||◌, List, [], ◌∷◌, length, Option, Some, None, refl, sym, ap, ◌∙◌, subst, arith}
use Rattle.std.specs.Prelude.{Contains, nat_eq, nat_le, nat_lt, slice_get, is_some}
use Rattle.std.specs.List.{list_all, list_any}
use Rattle.std.proofs.lemmas.Bool.{true≢false, false≢true, leb-true, le-leb, ltb-true, eqb-true, eq-eqb}
use Rattle.pt_instr.specs.declared.Instr.{Instr}
use Rattle.pt_instr.specs.declared.Instr.TheVariants as instr
use Rattle.pt_instr.specs.Effects.{Kinds}
use Rattle.pt_ranges.specs.declared.handlers.Handler.{Handler}
use Rattle.pt_code.specs.View.{Ins}
use Rattle.sem_fits.specs.fits.Block.{Block, effect, kinds_at_start}
use Rattle.sem_fits.specs.fits.Steps.{Step, step, steps, are_kinds, has_enough, finds, is_within, cut}
use Rattle.sem_fits.specs.fits.Places as P
use Rattle.sem_fits.specs.fits.Places.{Gets, Reached}
use Rattle.sem_fits.specs.fits.Leaves as L
use Rattle.sem_fits.specs.fits.Leaves.{Departs, Goes, Holds, Leaving}
use Rattle.sem_fits.specs.fits.Standing.{may_stand}
use Rattle.sem_fits.specs.fits.Tables.{is_place, rows_hold}
use Rattle.sem_fits.specs.fits.Agreement as A
use Rattle.sem_fits.specs.fits.Agreement.{LengthsMeet, HandlerFails, TooFew, KindsClash, Strays, Agrees}
use Rattle.sem_fits.specs.fits.Fits as F
use Rattle.sem_fits.specs.fits.Fits.{Fits, Disagrees, MOST, TooDeep, Unmarked, Silent, once, more, AllArrive, IsLost, SilentLoop, TablesHold}
use Rattle.sem_fits.proofs.fits.KindLemmas.{both, same_kinds}

pub record Entry : Type 0 where
  pub pc : ℕ
  pub kinds : Kinds

abbrev pub entry : ℕ → Kinds → Entry
entry pc ks = record { pc = pc; kinds = ks }

abbrev pub has : List Entry → ℕ → Kinds → Bool
has t q ks = list_any (λ e. nat_eq e.pc q && are_kinds e.kinds ks) t

abbrev pub of_ins : (Ins → ℕ → Kinds → Bool) → Option Ins → ℕ → Kinds → Bool
of_ins test (Some i) q ks = test i q ks
of_ins test None q ks = true

-- each entry up to a place passes a test
abbrev pub pass_up_to : Block → ℕ → (Ins → ℕ → Kinds → Bool) → List Entry → Bool
pass_up_to b n test t = list_all (λ e. not (nat_le e.pc n) || of_ins test (b.at e.pc) e.pc e.kinds) t

abbrev pub lands_in : Block → List Entry → Step → Bool
lands_in b t s = not (is_place b s.to) || has t s.to s.kinds

-- the table has all that places get through the instructions up to a place
abbrev pub closed : Block → ℕ → List Entry → Bool
closed b n t = has t 0 (kinds_at_start b.kind) && list_all (λ e. not (nat_le e.pc n) || list_all (lands_in b t) (steps b e.pc e.kinds)) t

abbrev pub one_length : List Entry → Bool
one_length t = list_all (λ e. list_all (λ f. not (nat_eq e.pc f.pc) || nat_eq (length e.kinds) (length f.kinds)) t) t

abbrev pub one_list : List Entry → Bool
one_list t = list_all (λ e. list_all (λ f. not (nat_eq e.pc f.pc) || are_kinds e.kinds f.kinds) t) t

abbrev is_empty : List Handler → Bool
is_empty [] = true
is_empty (r ∷ rs) = false

abbrev pub rows_within : Block → ℕ → List Entry → Bool
rows_within b n t = pass_up_to b n (λ i q ks. list_all (is_within (effect b.links i.instr) ks) i.rows) t

-- the cuts of all rows are the same wherever there are rows
abbrev pub cuts_alike : Block → ℕ → List Entry → Bool
cuts_alike b n t = pass_up_to b n (λ i q ks. pass_up_to b n (λ j r ls. is_empty j.rows || list_all (λ row. are_kinds (cut row ks) (cut row ls)) i.rows) t) t

abbrev pub all_enough : Block → ℕ → List Entry → Bool
all_enough b n t = pass_up_to b n (λ i q ks. has_enough (effect b.links i.instr) ks) t

abbrev pub all_find : Block → ℕ → List Entry → Bool
all_find b n t = pass_up_to b n (λ i q ks. finds (effect b.links i.instr) ks) t

abbrev pub all_may_stand : Block → ℕ → List Entry → Bool
all_may_stand b n t = pass_up_to b n (λ i q ks. may_stand b.kind b.links i.instr) t

abbrev pub is_leave : Instr → Bool
is_leave (instr.Leave t) = true
is_leave i = false

abbrev pub no_leaves : Block → ℕ → List Entry → Bool
no_leaves b n t = pass_up_to b n (λ i q ks. not (is_leave i.instr)) t

abbrev pub all_inside : Block → ℕ → List Entry → Bool
all_inside b n t = pass_up_to b n (λ i q ks. list_all (λ s. is_place b s.to) (steps b q ks)) t

abbrev pub is_unmarked : Ins → Bool
is_unmarked i = not (is_some i.mark)

-- without an act it goes on to places behind
abbrev pub all_forward : Block → ℕ → List Entry → Bool
all_forward b n t = pass_up_to b n (λ i q ks. not (is_unmarked i) || list_all (λ s. nat_lt q s.to) (steps b q ks)) t

abbrev pub all_shallow : List Entry → Bool
all_shallow t = list_all (λ e. nat_le (length e.kinds) MOST) t

two_truths : (x : Bool) → x ≡ true → x ≡ false → ⊥
two_truths x e f = true≢false (sym e ∙ f)

follows_or : (x y : Bool) → (x || y) ≡ true → x ≡ false → y ≡ true
follows_or true y e f = absurd (true≢false f)
follows_or false y e f = e

-- where the premise holds, what follows from it does
follows : (x y : Bool) → (not x || y) ≡ true → x ≡ true → y ≡ true
follows true y e f = e
follows false y e f = absurd (false≢true f)

at_item : {X : Type 0} (test : X → Bool) (xs : List X) → list_all test xs ≡ true → (x : X) → Contains xs x → test x ≡ true
at_item test [] e x (k, l, f) = absurd (let h : ⊥ = omega (arith, l) in h)
at_item test (y ∷ ys) e x (zero, l, f) = subst (λ z. test z ≡ true) f (both (test y) (list_all test ys) e).0
at_item test (y ∷ ys) e x (suc k, l, f) = at_item test ys (both (test y) (list_all test ys) e).1 x (k, (omega (arith, l)), f)

same_entry : (test : ℕ → Kinds → Bool) (e : Entry) (q : ℕ) (ks : Kinds) → (nat_eq e.pc q && are_kinds e.kinds ks) ≡ true → test e.pc e.kinds ≡ true → test q ks ≡ true
same_entry test e q ks f g = let (m, n) = both (nat_eq e.pc q) (are_kinds e.kinds ks) f in
    subst (λ ks. test q ks ≡ true) (same_kinds e.kinds ks n) (subst (λ q. test q e.kinds ≡ true) (eqb-true e.pc q m) g)

at_entry : (test : ℕ → Kinds → Bool) (t : List Entry) → list_all (λ e. test e.pc e.kinds) t ≡ true → (q : ℕ) (ks : Kinds) → has t q ks ≡ true → test q ks ≡ true
at_entry test [] f q ks h = absurd (false≢true h)
at_entry test (e ∷ es) f q ks h = here (nat_eq e.pc q && are_kinds e.kinds ks) refl h (λ g. at_entry test es (both (test e.pc e.kinds) _ f).1 q ks g)
  where
    here : (x : Bool) → (nat_eq e.pc q && are_kinds e.kinds ks) ≡ x → (x || has es q ks) ≡ true → (has es q ks ≡ true → test q ks ≡ true) → test q ks ≡ true
    here true g h ih = same_entry test e q ks g (both (test e.pc e.kinds) (list_all (λ e. test e.pc e.kinds) es) f).0
    here false g h ih = ih h

-- a Leave that departs stands somewhere
pub record Stands (b : Block) (p : ℕ) : Type 0 where
  pub pc : ℕ
  pub ins : Ins
  pub kinds : Kinds
  pub reached : Reached b p pc ins kinds
  pub target : ℕ
  pub is : ins.instr ≡ instr.Leave (record { 0 = target })

mutual
  pub departs_stands : {b : Block} {p t q : ℕ} {rows : List Handler} {ks : Kinds} → Departs b p t q rows ks → Stands b p
  departs_stands {t = t} (L.leaves {q = q} {i = i} {ks = ks} r e) = record { pc = q; ins = i; kinds = ks; reached = r; target = t; is = e }
  departs_stands (L.let_go r e h) = holds_stands h

  pub holds_stands : {b : Block} {p t q d : ℕ} → Holds b p t q d → Stands b p
  holds_stands (L.caught c row e) = departs_stands c
  holds_stands (L.exited r e h) = holds_stands h
  holds_stands (L.shared c h) = holds_stands h

leaving_stands : {b : Block} {p t : ℕ} {ks : Kinds} → Leaving b p t ks → Stands b p
leaving_stands (L.free c) = departs_stands c
leaving_stands (L.held c row e) = departs_stands c

none_is_some : {x : Bool} → None ≡ Some x → ⊥
none_is_some e = cc

some_same : {x y : Bool} → Some x ≡ Some y → x ≡ y
some_same e = cc

not_empty : (rows : List Handler) (row : Handler) → Contains rows row → is_empty rows ≡ false
not_empty [] row (k, l, f) = absurd (let h : ⊥ = omega (arith, l) in h)
not_empty (r ∷ rows) row c = refl

passes : (b : Block) (n : ℕ) (test : Ins → ℕ → Kinds → Bool) (t : List Entry) → pass_up_to b n test t ≡ true → (q : ℕ) (ks : Kinds) → has t q ks ≡ true → q ≤ n → (i : Ins) → b.at q ≡ Some i
    → test i q ks ≡ true
passes b n test t f q ks h l i e = subst (λ o. of_ins test o q ks ≡ true) e
    (follows (nat_le q n) (of_ins test (b.at q) q ks) (at_entry (λ q ks. not (nat_le q n) || of_ins test (b.at q) q ks) t f q ks h) (le-leb q n l))

module _ (b : Block) (n : ℕ) (t : List Entry) (whole : closed b n t ≡ true) (p : ℕ) (up : p ≤ n) where
  listed : {q : ℕ} {ks : Kinds} → Gets b p q ks → has t q ks ≡ true
  listed (P.start j e) = (both (has t 0 (kinds_at_start b.kind)) _ whole).0
  listed (P.onward {q = q} {r = r} {kept = k} {ks = ks} {ls = ls} g l c j e) =
      follows (is_place b r) (has t r ls) (at_item (lands_in b t) (steps b q ks)
      (follows (nat_le q n) _ (at_entry (λ q ks. not (nat_le q n) || list_all (lands_in b t) (steps b q ks)) t (both (has t 0 (kinds_at_start b.kind)) _ whole).1 q ks (listed g))
      (le-leb q n (omega (arith, l, up)))) (step r ls k) c) (ap is_some e)

  reached_passes : (test : Ins → ℕ → Kinds → Bool) → pass_up_to b n test t ≡ true → {q : ℕ} {i : Ins} {ks : Kinds} → Reached b p q i ks → test i q ks ≡ true
  reached_passes test f {q = q} {i = i} {ks = ks} r = passes b n test t f q ks (listed r.gets) (let l = r.low in omega (arith, l, up)) i r.stands

  pub no_lengths_meet : one_length t ≡ true → LengthsMeet b p → ⊥
  no_lengths_meet f (A.two {q = q} {ks = ks} {ls = ls} g h e) = two_truths (nat_eq (length ks) (length ls))
      (follows (nat_eq q q) _ (at_entry (λ r ls. not (nat_eq q r) || nat_eq (length ks) (length ls)) t
      (at_entry (λ q ks. list_all (λ f. not (nat_eq q f.pc) || nat_eq (length ks) (length f.kinds)) t) t f q ks (listed g)) q ls (listed h)) (eq-eqb q q refl)) e

  no_lists_meet : one_list t ≡ true → {q : ℕ} {ks ls : Kinds} → Gets b p q ks → Gets b p q ls → are_kinds ks ls ≡ true
  no_lists_meet f {q = q} {ks = ks} {ls = ls} g h =
      follows (nat_eq q q) _ (at_entry (λ r ls. not (nat_eq q r) || are_kinds ks ls) t
      (at_entry (λ q ks. list_all (λ f. not (nat_eq q f.pc) || are_kinds ks f.kinds) t) t f q ks (listed g)) q ls (listed h)) (eq-eqb q q refl)

  pub no_handler_fails : rows_within b n t ≡ true → cuts_alike b n t ≡ true → (row : Handler) → HandlerFails b p row → ⊥
  no_handler_fails f g row (A.too_deep {i = i} {ks = ks} r c e) = two_truths (is_within (effect b.links i.instr) ks row)
      (at_item (is_within (effect b.links i.instr) ks) i.rows (reached_passes (λ i q ks. list_all (is_within (effect b.links i.instr) ks) i.rows) f r) row c) e
  no_handler_fails f g row (A.differs {i = i} {j = j} {ks = ks} {ls = ls} r c u d e) = two_truths (are_kinds (cut row ks) (cut row ls))
      (at_item (λ row. are_kinds (cut row ks) (cut row ls)) i.rows
      (follows_or (is_empty j.rows) _
      (reached_passes (λ j r ls. is_empty j.rows || list_all (λ row. are_kinds (cut row ks) (cut row ls)) i.rows)
      (reached_passes (λ i q ks. pass_up_to b n (λ j r ls. is_empty j.rows || list_all (λ row. are_kinds (cut row ks) (cut row ls)) i.rows) t) g r) u)
      (not_empty j.rows row d)) row c) e

  no_leave_stands : no_leaves b n t ≡ true → Stands b p → ⊥
  no_leave_stands f s = false≢true (subst (λ j. not (is_leave j) ≡ true) s.is (reached_passes (λ i q ks. not (is_leave i.instr)) f s.reached))

  pub never_too_few : all_enough b n t ≡ true → no_leaves b n t ≡ true → TooFew b p → ⊥
  never_too_few f g (A.lacks r e) = two_truths _ (reached_passes (λ i q ks. has_enough (effect b.links i.instr) ks) f r) e
  never_too_few f g (A.leaves l h e) = no_leave_stands g (leaving_stands l)

  pub no_kinds_clash : one_list t ≡ true → all_find b n t ≡ true → all_may_stand b n t ≡ true → no_leaves b n t ≡ true → KindsClash b p → ⊥
  no_kinds_clash o f m g (A.two g1 g2 e) = two_truths _ (no_lists_meet o g1 g2) e
  no_kinds_clash o f m g (A.lacks r e) = two_truths _ (reached_passes (λ i q ks. finds (effect b.links i.instr) ks) f r) e
  no_kinds_clash o f m g (A.misplaced r e) = two_truths _ (reached_passes (λ i q ks. may_stand b.kind b.links i.instr) m r) e
  no_kinds_clash o f m g (A.leaves l h e) = no_leave_stands g (leaving_stands l)

  never_strays : all_inside b n t ≡ true → no_leaves b n t ≡ true → Strays b p → ⊥
  never_strays f g (A.goes {q = q} {ks = ks} r c e) =
      two_truths _ (at_item (λ s. is_place b s.to) (steps b q ks) (reached_passes (λ i q ks. list_all (λ s. is_place b s.to) (steps b q ks)) f r) _ c) (ap is_some e)
  never_strays f g (A.leaves {q = q} {i = i} {ks = ks} r t e n) = no_leave_stands g (record { pc = q; ins = i; kinds = ks; reached = r; target = t.0; is = e })

-- all that is computed of a block up to a place, so that it agrees there
abbrev pub agrees_by : Block → ℕ → List Entry → Bool
agrees_by b n t = closed b n t && (one_length t && (rows_within b n t && (cuts_alike b n t
    && (all_enough b n t && (one_list t && (all_find b n t && (all_may_stand b n t && (all_inside b n t && no_leaves b n t))))))))

pub record Agreeing (b : Block) (n : ℕ) (t : List Entry) : Type 0 where
  pub whole : closed b n t ≡ true
  pub lengths : one_length t ≡ true
  pub within : rows_within b n t ≡ true
  pub alike : cuts_alike b n t ≡ true
  pub enough : all_enough b n t ≡ true
  pub one : one_list t ≡ true
  pub find : all_find b n t ≡ true
  pub stand : all_may_stand b n t ≡ true
  pub inside : all_inside b n t ≡ true
  pub leaves : no_leaves b n t ≡ true

pub agrees_up_to : (b : Block) (n : ℕ) (t : List Entry) → Agreeing b n t → (p : ℕ) → p ≤ n → Agrees b p
agrees_up_to b n t a p l = record {
  lengths = no_lengths_meet b n t a.whole p l a.lengths;
  handlers = no_handler_fails b n t a.whole p l a.within a.alike;
  enough = never_too_few b n t a.whole p l a.enough a.leaves;
  kinds = no_kinds_clash b n t a.whole p l a.one a.find a.stand a.leaves;
  inside = never_strays b n t a.whole p l a.inside a.leaves;
}

pub no_disagreement : {b : Block} {p : ℕ} → Agrees b p → Disagrees b p → ⊥
no_disagreement a (F.lengths f) = a.lengths f
no_disagreement a (F.handlers row f) = a.handlers row f
no_disagreement a (F.enough f) = a.enough f
no_disagreement a (F.kinds f) = a.kinds f
no_disagreement a (F.inside f) = a.inside f

pub tables_hold : (b : Block) → list_all (λ x. x) (rows_hold b) ≡ true → TablesHold b
tables_hold b f n e = each (rows_hold b) f n e
  where
    each : (xs : List Bool) → list_all (λ x. x) xs ≡ true → (n : ℕ) → slice_get xs n ≡ Some false → ⊥
    each [] f n e = none_is_some e
    each (x ∷ xs) f zero e = two_truths x (both x (list_all (λ x. x) xs) f).0 (some_same e)
    each (x ∷ xs) f (suc n) e = each xs (both x (list_all (λ x. x) xs) f).1 n e

module _ (b : Block) (t : List Entry) (a : Agreeing b b.size t) where
  pub all_arrive : AllArrive b
  all_arrive pc i ks r t2 e = absurd (no_leave_stands b b.size t a.whole b.size refl_le a.leaves (record { pc = pc; ins = i; kinds = ks; reached = r; target = t2; is = e }))
    where
      refl_le : b.size ≤ b.size
      refl_le = omega arith

  pub never_deep : all_shallow t ≡ true → TooDeep b → ⊥
  never_deep f d = let h : length d.kinds ≤ MOST = leb-true (length d.kinds) MOST
      (at_entry (λ q ks. nat_le (length ks) MOST) t f d.pc d.kinds (listed b b.size t a.whole b.size (let l : b.size ≤ b.size = omega arith in l) d.gets)) in
      let m = d.more in let never : ⊥ = omega (arith, h, m) in never

  goes_forward : all_forward b b.size t ≡ true → {q r k : ℕ} → Unmarked b q → Goes b b.size q r k → q < r
  goes_forward f u (L.by_row {q = q} {r = r} {i = i} {ks = ks} g c e) = ltb-true q r (at_item (λ s. nat_lt q s.to) (steps b q ks)
      (follows (is_unmarked i) _ (reached_passes b b.size t a.whole b.size (let l : b.size ≤ b.size = omega arith in l)
      (λ i q ks. not (is_unmarked i) || list_all (λ s. nat_lt q s.to) (steps b q ks)) f g) silent) _ c)
    where
      same_ins : Some i ≡ Some u.ins
      same_ins = sym g.stands ∙ u.stands

      silent : is_unmarked i ≡ true
      silent = subst (λ o. elim o as (λ z. Type 0) [ None ↦ ⊥ | Some z ↦ is_unmarked z ≡ true ]) (sym same_ins) (ap (λ m. not (is_some m)) u.silent)
  goes_forward f u (L.by_leave c g) = absurd (no_leave_stands b b.size t a.whole b.size (let l : b.size ≤ b.size = omega arith in l) a.leaves (departs_stands c))

  silent_forward : all_forward b b.size t ≡ true → {q r : ℕ} → Silent b q r → q < r
  silent_forward f (once u g) = goes_forward f u g
  silent_forward f (more {q = q} {r = r} {s = s} w u g) = let m = silent_forward f w in let n = goes_forward f u g in let h : q < s = omega (arith, m, n) in h

  pub fits_by : list_all (λ x. x) (rows_hold b) ≡ true → all_shallow t ≡ true → all_forward b b.size t ≡ true → Fits b
  fits_by f g h = record {
    tables = tables_hold b f;
    agrees = agrees_up_to b b.size t a b.size (let l : b.size ≤ b.size = omega arith in l);
    arrives = all_arrive;
    shallow = never_deep g;
    loops = λ pc w. let m = silent_forward h w in let never : ⊥ = omega (arith, m) in never;
  }
