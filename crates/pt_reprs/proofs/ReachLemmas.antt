-- What is reached through containers.
use Rattle.std.proofs.Common.{◌≡◌, ◌∙◌, ◌+◌, ◌-◌, ◌<◌, ◌≤◌, ◌⊎◌, ℕ, zero, suc, Bool, true, false, ◌||◌, List, [], ◌∷◌, ◌++◌, Option, Some, None, length, nat_eq, slice_get, if◌then◌else◌, refl, sym, ap, subst, inl, inr, arith, add-zero}
use Rattle.std.proofs.lemmas.Bool.{cases_lt, eqb-true}
use Rattle.std.proofs.lemmas.List.{length-append}
use Rattle.std.proofs.lemmas.Map.Steps.{length-le_from_distinct_below}
use Rattle.std.specs.List.{IsDistinct, list_any}
use Rattle.indexmap.specs.IndexSet.{insert_key}
use Rattle.pt_base.specs.declared.numbers.ObjId.{ObjId}
use Rattle.pt_heap.specs.declared.value.Value.{Value}
use Rattle.pt_heap.specs.declared.value.Value.TheVariants as value
use Rattle.pt_heap.specs.declared.object.Object.{Object}
use Rattle.pt_heap.specs.declared.object.Object.TheVariants as object
use Rattle.pt_content.specs.Operands.{operand_of}
use Rattle.pt_reprs.specs.Reached.{any_of, is_instance, needs_help, parts_in, parts_of, reaches}
use Rattle.pt_reprs.specs.Marks.{at_place, has_instance, is_container, with_mark, Follows, IsMarked, Leads, MarksFirst, Settled}

either-right : (a b : Bool) → b ≡ true → (a || b) ≡ true
either-right true b e = refl
either-right false b e = e

-- any of a list
pub any-more : (p q : Value → Bool) (vs : List Value) → ((v : Value) → p v ≡ true → q v ≡ true) → any_of p vs ≡ true → any_of q vs ≡ true
any-more p q [] more e = e
any-more p q (v ∷ vs) more e = by (p v) refl e (any-more p q vs more)
  where
    by : (a : Bool) → p v ≡ a → (a || any_of p vs) ≡ true → (any_of p vs ≡ true → any_of q vs ≡ true) → (q v || any_of q vs) ≡ true
    by true f e rest = ap (λ c. c || any_of q vs) (more v f)
    by false f e rest = either-right (q v) (any_of q vs) (rest e)

pub any-at : (p : Value → Bool) (vs : List Value) (j : ℕ) (v : Value) → slice_get vs j ≡ Some v → p v ≡ true → any_of p vs ≡ true
any-at p [] j v at holds = absurd cc
any-at p (w ∷ vs) zero v at holds =
    let same : w ≡ v = cc in
    ap (λ c. c || any_of p vs) (ap p same ∙ holds)
any-at p (w ∷ vs) (suc j) v at holds = either-right (p w) (any_of p vs) (any-at p vs j v at holds)

pub any-none : (p : Value → Bool) (vs : List Value) → ((j : ℕ) (v : Value) → slice_get vs j ≡ Some v → p v ≡ false) → any_of p vs ≡ false
any-none p [] none = refl
any-none p (v ∷ vs) none = ap (λ c. c || any_of p vs) (none 0 v refl) ∙ any-none p vs (λ j w at. none (suc j) w at)

-- what is reached in some steps is reached in more
pub step-more : (h : List Object) (n : ℕ) (v : Value) → reaches h n v ≡ true → reaches h (suc n) v ≡ true
unfolding reaches
step-more h zero v e = ap (λ c. c || any_of (reaches h zero) (parts_of h v)) e
step-more h (suc n) v e = by (is_instance (operand_of h v)) e (λ w. step-more h n w)
  where
    by : (b : Bool) → (b || any_of (reaches h n) (parts_of h v)) ≡ true → ((w : Value) → reaches h n w ≡ true → reaches h (suc n) w ≡ true) → (b || any_of (reaches h (suc n)) (parts_of h v)) ≡ true
    by true e more = refl
    by false e more = any-more (reaches h n) (reaches h (suc n)) (parts_of h v) more e

pub steps-more : (h : List Object) (n k m : ℕ) (v : Value) → n + k ≡ m → reaches h n v ≡ true → reaches h m v ≡ true
steps-more h n zero m v e r = let same : n ≡ m = omega (arith, e) in subst (λ x. reaches h x v ≡ true) same r
steps-more h n (suc k) m v e r = steps-more h (suc n) k m v (omega (arith, e)) (step-more h n v r)

pub in-part : (h : List Object) (n j : ℕ) (v w : Value) → slice_get (parts_of h v) j ≡ Some w → reaches h n w ≡ true → reaches h (suc n) v ≡ true
unfolding reaches
in-part h n j v w at r = either-right (is_instance (operand_of h v)) (any_of (reaches h n) (parts_of h v)) (any-at (reaches h n) (parts_of h v) j w at r)

pub instance-reached : (h : List Object) (v : Value) → has_instance h (parts_of h v) ≡ true → reaches h 1 v ≡ true
unfolding reaches
instance-reached h v e = either-right (is_instance (operand_of h v)) (has_instance h (parts_of h v)) e

pub instance-now : (h : List Object) (n : ℕ) (v : Value) → is_instance (operand_of h v) ≡ true → reaches h n v ≡ true
unfolding reaches
instance-now h zero v e = e
instance-now h (suc n) v e = ap (λ c. c || any_of (reaches h n) (parts_of h v)) e

pub nothing-inside : (h : List Object) (n : ℕ) (v : Value) → is_instance (operand_of h v) ≡ false → parts_of h v ≡ [] → reaches h n v ≡ false
unfolding reaches
nothing-inside h zero v e none = e
nothing-inside h (suc n) v e none = ap (λ c. c || any_of (reaches h n) (parts_of h v)) e ∙ ap (any_of (reaches h n)) none

-- marks
get-append : (ks ls : List ℕ) (i p : ℕ) → slice_get ks i ≡ Some p → slice_get (ks ++ ls) i ≡ Some p
get-append [] ls i p at = absurd cc
get-append (k ∷ ks) ls zero p at = at
get-append (k ∷ ks) ls (suc i) p at = get-append ks ls i p at

get-appended : (ks : List ℕ) (k i p : ℕ) → slice_get (ks ++ k ∷ []) i ≡ Some p → (slice_get ks i ≡ Some p) ⊎ ((length ks ≤ i) × (p ≡ k))
get-appended [] k zero p at = inr (omega arith, cc)
get-appended [] k (suc i) p at = absurd cc
get-appended (l ∷ ks) k zero p at = inl at
get-appended (l ∷ ks) k (suc i) p at = elim (get-appended ks k i p at) [ inl e ↦ inl e | inr e ↦ inr (omega (arith, e.0), e.1) ]

get-last : (ks : List ℕ) (k : ℕ) → IsMarked (ks ++ k ∷ []) k
get-last [] k = (0, refl)
get-last (l ∷ ks) k = (suc (get-last ks k).0, (get-last ks k).1)

any-marked : (ks : List ℕ) (k : ℕ) → list_any (nat_eq k) ks ≡ true → IsMarked ks k
any-marked [] k e = absurd cc
any-marked (l ∷ ks) k e = by (nat_eq k l) refl e (any-marked ks k)
  where
    by : (b : Bool) → nat_eq k l ≡ b → (b || list_any (nat_eq k) ks) ≡ true → (list_any (nat_eq k) ks ≡ true → IsMarked ks k) → IsMarked (l ∷ ks) k
    by true f e rest = (0, ap Some (sym (eqb-true k l f)))
    by false f e rest = (suc (rest e).0, (rest e).1)

insert-stays : (ks : List ℕ) (k i p : ℕ) → slice_get ks i ≡ Some p → slice_get (insert_key nat_eq ks k) i ≡ Some p
insert-stays ks k i p at = by (list_any (nat_eq k) ks)
  where
    by : (b : Bool) → slice_get (if b then ks else ks ++ k ∷ []) i ≡ Some p
    by true = at
    by false = get-append ks (k ∷ []) i p at

insert-added : (ks : List ℕ) (k i p : ℕ) → slice_get (insert_key nat_eq ks k) i ≡ Some p → (slice_get ks i ≡ Some p) ⊎ ((length ks ≤ i) × (p ≡ k))
insert-added ks k i p at = by (list_any (nat_eq k) ks) at
  where
    by : (b : Bool) → slice_get (if b then ks else ks ++ k ∷ []) i ≡ Some p → (slice_get ks i ≡ Some p) ⊎ ((length ks ≤ i) × (p ≡ k))
    by true at = inl at
    by false at = get-appended ks k i p at

insert-marked : (ks : List ℕ) (k : ℕ) → IsMarked (insert_key nat_eq ks k) k
insert-marked ks k = by (list_any (nat_eq k) ks) refl
  where
    by : (b : Bool) → list_any (nat_eq k) ks ≡ b → IsMarked (if b then ks else ks ++ k ∷ []) k
    by true e = any-marked ks k e
    by false e = get-last ks k

get-within : (h : List Object) (p : ℕ) (o : Object) → slice_get h p ≡ Some o → p < length h
get-within [] p o at = absurd cc
get-within (x ∷ h) zero o at = omega arith
get-within (x ∷ h) (suc p) o at = let l : p < length h = get-within h p o at in omega (arith, l)

container-within : (h : List Object) (p : ℕ) → is_container (slice_get h p) ≡ true → p < length h
container-within h p e = by (slice_get h p) refl e
  where
    by : (o : Option Object) → slice_get h p ≡ o → is_container o ≡ true → p < length h
    by None at e = absurd cc
    by (Some o) at e = get-within h p o at

-- what isn't marked has no parts
no-parts : (h : List Object) (o : Option Object) → is_container o ≡ false → parts_in h o ≡ []
no-parts h (Some (object.List vs)) e = absurd cc
no-parts h (Some (object.Tuple vs)) e = absurd cc
no-parts h (Some (object.Dict es)) e = absurd cc
no-parts h (Some (object.Set es)) e = absurd cc
no-parts h (Some (object.View v)) e = absurd cc
no-parts h (Some (object.Error x)) e = absurd cc
no-parts h o e = refl

marked-stays : (h : List Object) (ks : List ℕ) (v : Value) (i p : ℕ) → slice_get ks i ≡ Some p → slice_get (with_mark h ks v) i ≡ Some p
marked-stays h ks value.None i p at = at
marked-stays h ks (value.Bool b) i p at = at
marked-stays h ks (value.Int z) i p at = at
marked-stays h ks value.Ellipsis i p at = at
marked-stays h ks value.NotImplemented i p at = at
marked-stays h ks (value.Obj id) i p at = by (is_container (slice_get h id.0))
  where
    by : (b : Bool) → slice_get (if b then insert_key nat_eq ks id.0 else ks) i ≡ Some p
    by true = insert-stays ks id.0 i p at
    by false = at

marked-added : (h : List Object) (ks : List ℕ) (v : Value) (i p : ℕ) → slice_get (with_mark h ks v) i ≡ Some p → (slice_get ks i ≡ Some p) ⊎ ((length ks ≤ i) × (p < length h) × (v ≡ at_place p))
marked-added h ks value.None i p at = inl at
marked-added h ks (value.Bool b) i p at = inl at
marked-added h ks (value.Int z) i p at = inl at
marked-added h ks value.Ellipsis i p at = inl at
marked-added h ks value.NotImplemented i p at = inl at
marked-added h ks (value.Obj id) i p at = by (is_container (slice_get h id.0)) refl at
  where
    by : (b : Bool) → is_container (slice_get h id.0) ≡ b → slice_get (if b then insert_key nat_eq ks id.0 else ks) i ≡ Some p → (slice_get ks i ≡ Some p) ⊎ ((length ks ≤ i) × (p < length h) × (value.Obj id ≡ at_place p))
    by true e at = elim (insert-added ks id.0 i p at) [
      | inl old ↦ inl old
      | inr new ↦ inr (new.0, subst (λ q. q < length h) (sym new.1) (container-within h id.0 e), ap at_place (sym new.1))
    ]
    by false e at = inl at

marked-grows : (h : List Object) (ks : List ℕ) (v : Value) → length ks ≤ length (with_mark h ks v)
marked-grows h ks value.None = omega arith
marked-grows h ks (value.Bool b) = omega arith
marked-grows h ks (value.Int z) = omega arith
marked-grows h ks value.Ellipsis = omega arith
marked-grows h ks value.NotImplemented = omega arith
marked-grows h ks (value.Obj id) = by (is_container (slice_get h id.0)) (list_any (nat_eq id.0) ks)
  where
    by : (b c : Bool) → length ks ≤ length (if b then (if c then ks else ks ++ id.0 ∷ []) else ks)
    by true true = omega arith
    by true false = omega (arith, length-append ks (id.0 ∷ []))
    by false c = omega arith

marked-settled : (h : List Object) (ks : List ℕ) (v : Value) → is_instance (operand_of h v) ≡ false → Settled h (with_mark h ks v) v
marked-settled h ks value.None plain = (plain, inl refl)
marked-settled h ks (value.Bool b) plain = (plain, inl refl)
marked-settled h ks (value.Int z) plain = (plain, inl refl)
marked-settled h ks value.Ellipsis plain = (plain, inl refl)
marked-settled h ks value.NotImplemented plain = (plain, inl refl)
marked-settled h ks (value.Obj id) plain = (plain, by (is_container (slice_get h id.0)) refl)
  where
    by : (b : Bool) → is_container (slice_get h id.0) ≡ b → (parts_of h (value.Obj id) ≡ []) ⊎ ((p : ℕ) × (value.Obj id ≡ at_place p) × IsMarked (if b then insert_key nat_eq ks id.0 else ks) p)
    by true e = inr (id.0, refl, insert-marked ks id.0)
    by false e = inl (no-parts h (slice_get h id.0) e)

pub settled-more : (h : List Object) (old new : List ℕ) (v : Value) → ((i p : ℕ) → slice_get old i ≡ Some p → slice_get new i ≡ Some p) → Settled h old v → Settled h new v
settled-more h old new v stay s = (s.0, elim s.1 [ inl none ↦ inl none | inr m ↦ inr (m.0, m.1, (m.2.0, stay m.2.0 m.0 m.2.1)) ])

-- none of the values is marked yet
pub marks-none : (h : List Object) (ks : List ℕ) (vs : List Value) → MarksFirst h ks ks vs 0
marks-none h ks vs = record {
  grows = omega arith;
  stay = λ i p at. at;
  added = λ i p at. inl at;
  settled = λ j v l at. absurd (omega (arith, l));
}

-- one more is
pub marks-one : (h : List Object) (old now new : List ℕ) (vs : List Value) (n : ℕ) (v : Value) → MarksFirst h old now vs n → slice_get vs n ≡ Some v → is_instance (operand_of h v) ≡ false → new ≡ with_mark h now v → MarksFirst h old new vs (n + 1)
marks-one h old now new vs n v m at plain e = subst (λ ks. MarksFirst h old ks vs (n + 1)) (sym e) record {
  grows = let more = marked-grows h now v in omega (arith, more, m.grows);
  stay = λ i p found. marked-stays h now v i p (m.stay i p found);
  added = λ i p found. elim (marked-added h now v i p found) [
    | inl before ↦ m.added i p before
    | inr new ↦ inr (omega (arith, new.0, m.grows), new.1, (n, at ∙ ap Some new.2))
  ];
  settled = λ j w l found. by-place j w l found;
}
  where
    by-place : (j : ℕ) (w : Value) → j < n + 1 → slice_get vs j ≡ Some w → Settled h (with_mark h now v) w
    by-place j w l found = elim (cases_lt j n) [
      | inl below ↦ settled-more h now (with_mark h now v) w (λ i p f. marked-stays h now v i p f) (m.settled j w below found)
      | inr above ↦
          let here : j ≡ n = omega (arith, l, above) in
          let both : Some w ≡ Some v = sym found ∙ ap (slice_get vs) here ∙ at in
          let equal : w ≡ v = cc in
          subst (λ x. Settled h (with_mark h now v) x) (sym equal) (marked-settled h now v plain)
    ]

value-within : (vs : List Value) (j : ℕ) (v : Value) → slice_get vs j ≡ Some v → j < length vs
value-within [] j v at = absurd cc
value-within (w ∷ vs) zero v at = omega arith
value-within (w ∷ vs) (suc j) v at = let l : j < length vs = value-within vs j v at in omega (arith, l)

mark-within : (ks : List ℕ) (i p : ℕ) → slice_get ks i ≡ Some p → i < length ks
mark-within [] i p at = absurd cc
mark-within (k ∷ ks) zero p at = omega arith
mark-within (k ∷ ks) (suc i) p at = let l : i < length ks = mark-within ks i p at in omega (arith, l)

same-mark : (ks : List ℕ) (i p q : ℕ) → slice_get ks i ≡ Some p → slice_get ks i ≡ Some q → p ≡ q
same-mark ks i p q e f = let both : Some p ≡ Some q = sym e ∙ f in cc

-- one place alone is marked
pub follows-start : (h : List Object) (p : ℕ) → is_instance (operand_of h (at_place p)) ≡ false → is_container (slice_get h p) ≡ true → Follows h (at_place p) (p ∷ []) 0
follows-start h p plain container = record {
  begins = (p, refl, (0, refl));
  leads = λ i q at. by i q at;
  closed = λ i q j w l at found. absurd (omega (arith, l));
}
  where
    by : (i q : ℕ) → slice_get (p ∷ []) i ≡ Some q → Leads h (at_place p) i q
    by zero q at =
        let same : p ≡ q = cc in
        subst (λ r. Leads h (at_place p) 0 r) same record {
          plain = plain;
          within = container-within h p container;
          reached = λ n e. subst (λ m. reaches h m (at_place p) ≡ true) (sym (add-zero n)) e;
        }
    by (suc i) q at = absurd cc

-- what is reached from one place more is marked
pub follows-more : (h : List Object) (v : Value) (ks new : List ℕ) (n place : ℕ) → Follows h v ks n → slice_get ks n ≡ Some place
    → MarksFirst h ks new (parts_of h (at_place place)) (length (parts_of h (at_place place))) → Follows h v new (n + 1)
follows-more h v ks new n place f here m = record {
  begins = (f.begins.0, f.begins.1, (f.begins.2.0, m.stay f.begins.2.0 f.begins.0 f.begins.2.1));
  leads = λ i p at. elim (m.added i p at) [ inl old ↦ f.leads i p old | inr added ↦ lead i p added ];
  closed = λ i p j w l at found. close i p j w l at found;
}
  where
    inside : n < length ks
    inside = mark-within ks n place here

    lead : (i p : ℕ) → (length ks ≤ i) × (p < length h) × ((j : ℕ) × (slice_get (parts_of h (at_place place)) j ≡ Some (at_place p))) → Leads h v i p
    lead i p added = record {
      plain = (m.settled added.2.0 (at_place p) (value-within (parts_of h (at_place place)) added.2.0 (at_place p) added.2.1) added.2.1).0;
      within = added.1;
      reached = λ k e.
          let one = in-part h k added.2.0 (at_place place) (at_place p) added.2.1 e in
          let start = (f.leads n place here).reached (suc k) one in
          steps-more h (suc k + n) (i - (n + 1)) (k + i) v (omega (arith, added.0, inside)) start;
    }

    close : (i p j : ℕ) (w : Value) → i < n + 1 → slice_get new i ≡ Some p → slice_get (parts_of h (at_place p)) j ≡ Some w → Settled h new w
    close i p j w l at found = elim (m.added i p at) [
      | inr added ↦ absurd (omega (arith, added.0, inside, l))
      | inl old ↦ elim (cases_lt i n) [
        | inl below ↦ settled-more h ks new w m.stay (f.closed i p j w below old found)
        | inr above ↦
            let last : i ≡ n = omega (arith, l, above) in
            let same : p ≡ place = same-mark ks n p place (ap (slice_get ks) (sym last) ∙ old) here in
            let there : slice_get (parts_of h (at_place place)) j ≡ Some w = ap (λ q. slice_get (parts_of h (at_place q)) j) (sym same) ∙ found in
            m.settled j w (value-within (parts_of h (at_place place)) j w there) there
      ]
    ]

none-settled : (h : List Object) (v : Value) (ks : List ℕ) (n : ℕ) → Follows h v ks n → length ks ≤ n → (k : ℕ) (w : Value) → Settled h ks w → reaches h k w ≡ false
unfolding reaches
none-settled h v ks n f all zero w s = s.0
none-settled h v ks n f all (suc k) w s = ap (λ c. c || any_of (reaches h k) (parts_of h w)) s.0 ∙ elim s.1 [
  | inl none ↦ ap (any_of (reaches h k)) none
  | inr m ↦ any-none (reaches h k) (parts_of h w) (λ j x at.
      let l : m.2.0 < n = let i = mark-within ks m.2.0 m.0 m.2.1 in omega (arith, i, all) in
      none-settled h v ks n f all k x (f.closed m.2.0 m.0 j x l m.2.1 (ap (λ y. slice_get (parts_of h y) j) (sym m.1) ∙ at)))
]

-- where all marked places were gone through, nothing is reached
pub none-reached : (h : List Object) (v : Value) (ks : List ℕ) (n : ℕ) → Follows h v ks n → length ks ≤ n → needs_help h v ≡ false
none-reached h v ks n f all =
    let b = f.begins in
    none-settled h v ks n f all (length h) v (ap (λ y. is_instance (operand_of h y)) b.1 ∙ (f.leads b.2.0 b.0 b.2.1).plain, inr (b.0, b.1, b.2))

-- an instance among the parts of a marked place
pub one-reached : (h : List Object) (v : Value) (ks : List ℕ) (n place : ℕ) → Follows h v ks n → n < length h → slice_get ks n ≡ Some place → has_instance h (parts_of h (at_place place)) ≡ true → needs_help h v ≡ true
one-reached h v ks n place f l here e =
    let one = (f.leads n place here).reached 1 (instance-reached h (at_place place) e) in
    steps-more h (1 + n) (length h - (1 + n)) (length h) v (omega (arith, l)) one

-- there are no more marked places than objects
pub marks-below : (h : List Object) (v : Value) (ks : List ℕ) (n : ℕ) → Follows h v ks n → IsDistinct nat_eq ks → length ks ≤ length h
marks-below h v ks n f distinct = length-le_from_distinct_below ks (length h) distinct (λ q e. let m = any-marked ks q e in (f.leads m.0 q m.1).within)

pub plain-value : (h : List Object) (v : Value) → is_instance (operand_of h v) ≡ false → parts_of h v ≡ [] → needs_help h v ≡ false
plain-value h v e none = nothing-inside h (length h) v e none

pub instance-needs : (h : List Object) (v : Value) → is_instance (operand_of h v) ≡ true → needs_help h v ≡ true
instance-needs h v e = instance-now h (length h) v e

pub uncontained : (h : List Object) (id : ObjId) → is_container (slice_get h id.0) ≡ false → parts_of h (value.Obj id) ≡ []
uncontained h id e = no-parts h (slice_get h id.0) e

pub any-first : (h : List Object) (v : Value) (vs : List Value) → is_instance (operand_of h v) ≡ false → has_instance h (v ∷ vs) ≡ has_instance h vs
any-first h v vs plain = ap (λ b. b || has_instance h vs) plain

pub past-end : (ks : List ℕ) (i : ℕ) → slice_get ks i ≡ None → length ks ≤ i
past-end [] i e = omega arith
past-end (k ∷ ks) zero e = absurd cc
past-end (k ∷ ks) (suc i) e = let l : length ks ≤ i = past-end ks i e in omega (arith, l)
