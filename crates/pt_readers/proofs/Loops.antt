-- Readers that repeat: a first item, and then, as long as a token says so, that token and another item.
use Rattle.std.proofs.Common.{◌≡◌, List, [], ◌∷◌, ◌++◌, Option, Some, None, true, false, inl, inr, refl, sym, subst}
use Rattle.pt_readers.specs.Reading.{next_of, Part, Alike, Found, Refused}
use Rattle.pt_readers.proofs.Readers.{Binds, Shifts, left, nothing_found, bad_refused}
use Rattle.pt_readers.proofs.Exits.{over_refused_at}

-- What is read so far is s. P ends with `fin s`, or goes on with a token t of J and an item of Q t, and then `next s t` of that.
module _ {T A B St : Type 0} (P : Part T A) (Tail : St → List T → A → List T → Type 0) (J : T → Type 0) (Q : T → Part T B)
    (next : St → T → B → St) (fin : St → A) where
  -- the two ways on
  pub data Out (s : St) : List T → A → List T → Type 0 where
    at_end : {ts : List T} → Out s ts (fin s) ts
    at_step : {t : T} {ts mid rest : List T} {b : B} {x : A} → J t → (Q t).reads ts b mid → Tail (next s t b) mid x rest → Out s (t ∷ ts) x rest

  pub record Repeats : Type 0 where
    pub done : (s : St) (ts : List T) → Tail s ts (fin s) ts
    pub step : (s : St) (t : T) (ts mid rest : List T) (b : B) (x : A) → J t → (Q t).reads ts b mid → Tail (next s t b) mid x rest → Tail s (t ∷ ts) x rest
    pub out : (s : St) (ts : List T) (x : A) (rest : List T) → Tail s ts x rest → Out s ts x rest
    pub ends : (x : A) (t : T) → P.stops x (Some t) → J t → ⊥
    pub stays : (s : St) (t : T) (b : B) (o : Option T) → P.stops (fin (next s t b)) o → (Q t).stops b o
    pub goes : (t : T) (b : B) (u : T) → J u → (Q t).stops b (Some u)
    pub shrinks : (s : St) (ts : List T) (x : A) (rest : List T) → Tail s ts x rest → P.fits x → P.fits (fin s)
    pub part : (s : St) (t : T) (b : B) → P.fits (fin (next s t b)) → (Q t).fits b
    pub far : (t : T) → J t → (w : List T) × (b : B) × ((z : List T) → (Q t).reads (w ++ z) b z)

  -- what follows a token of J
  pub data Right (s : St) (t : T) : List T → A → List T → Type 0 where
    right : {ts mid rest : List T} {b : B} {x : A} → (Q t).reads ts b mid → Tail (next s t b) mid x rest → Right s t ts x rest

  module _ (r : Repeats) where
    pub loop_shifts : (s : St) (t : T) → J t → Shifts t (left P (Right s t)) (left P (Tail s))
    loop_shifts s t j = record { intro = λ ts x rest k. into k; inv = λ ts x rest k n. (outof (r.out _ _ _ _ k) refl n, n); stop = λ x o n. n; up = λ x f. f; down = λ x f. f }
      where
        into : {ts rest : List T} {x : A} → Right s t ts x rest → Tail s (t ∷ ts) x rest
        into (right q k) = r.step s t _ _ _ _ _ j q k

        outof : {us ts rest : List T} {x : A} → Out s us x rest → us ≡ t ∷ ts → P.stops x (next_of rest) → Right s t ts x rest
        outof {ts = ts} at_end e n = absurd (r.ends _ t (subst (λ u. P.stops (fin s) (next_of u)) e n) j)
        outof {ts = ts} {rest = rest} {x = x} (at_step {t = u} {ts = us} i q k) e n =
            let h : us ≡ ts = cc in
            let g : u ≡ t = cc in
            subst (λ v. Right s t v x rest) h (subst (λ v. Right s v us x rest) g (right q k))

    item_stops : (s : St) (t : T) (b : B) {mid rest : List T} {x : A} → Out (next s t b) mid x rest → P.stops x (next_of rest) → (Q t).stops b (next_of mid)
    item_stops s t b at_end n = r.stays s t b _ n
    item_stops s t b (at_step {t = u} j q k) n = r.goes t b u j

    pub loop_binds : (s : St) (t : T) → ((b : B) → (Q t).fits b → P.fits (fin (next s t b))) → Binds (Q t) (λ b. Tail (next s t b)) (left P (Right s t))
    loop_binds s t grow = record {
      intro = λ ts y mid x rest q k. right q k;
      inv = λ ts x rest k n. outof k n;
      down = λ y mid x rest k f. r.part s t y (r.shrinks _ _ _ _ k f);
      finish = λ y f. ([], fin (next s t y), grow y f, λ z. r.done _ z);
      extend = λ y. ([], fin (next s t y), λ z. r.done _ z);
    }
      where
        outof : {ts rest : List T} {x : A} → Right s t ts x rest → P.stops x (next_of rest)
            → (y : B) × (mid : List T) × (Q t).reads ts y mid × (Q t).stops y (next_of mid) × Tail (next s t y) mid x rest
        outof (right {b = b} q k) n = (_, _, q, item_stops s t b (r.out _ _ _ _ k) n, k)

    -- no token of J is next
    pub loop_found : (s : St) (ts : List T) → ((t : T) → next_of ts ≡ Some t → J t → ⊥) → P.stops (fin s) (next_of ts) → P.fits (fin s) → Found (left P (Tail s)) ts (fin s) ts
    loop_found s ts n stops fits = nothing_found (left P (Tail s)) ts (fin s) (λ more. r.done s more) stops fits (λ more a x' rest' k m. outof a (r.out _ _ _ _ k))
      where
        outof : {more rest' : List T} {x' : A} → Alike more ts → Out s more x' rest' → (x' ≡ fin s) × (rest' ≡ more)
        outof a at_end = (refl, refl)
        outof (inl e) (at_step {t = t} j q k) = absurd (n t (sym e) j)
        outof (inr e) (at_step j q k) = cc

    -- neither a token of J is next nor what may stand behind the whole
    pub loop_bad : (s : St) (ts : List T) → ((t : T) → next_of ts ≡ Some t → J t → ⊥) → (P.stops (fin s) (next_of ts) → ⊥) → (P.stops (fin s) None → ⊥) → P.fits (fin s)
        → Refused (left P (Tail s)) false ts ts
    loop_bad s ts n bad no_end fits = bad_refused (left P (Tail s)) ts (λ more a x' rest' k m. outof a (r.out _ _ _ _ k) m) [] (fin s) fits (λ z. r.done s z)
      where
        outof : {more rest' : List T} {x' : A} → Alike more ts → Out s more x' rest' → P.stops x' (next_of rest') → ⊥
        outof (inl e) at_end m = bad (subst (P.stops (fin s)) e m)
        outof (inr e) at_end m = no_end (subst (λ u. P.stops (fin s) (next_of u)) e m)
        outof (inl e) (at_step {t = t} j q k) m = n t (sym e) j
        outof (inr e) (at_step j q k) m = cc

    -- a token of J is next, and what it makes is beyond the limits
    pub loop_over : (s : St) (t : T) (ts : List T) → next_of ts ≡ Some t → J t → P.fits (fin s) → ((b : B) → P.fits (fin (next s t b)) → ⊥) → Refused (left P (Tail s)) true ts ts
    loop_over s t ts h j fits over =
        let f = r.far t j in
        over_refused_at (left P (Tail s)) t ts h (λ more x' rest' k n g. outof (r.out _ _ _ _ k) refl n g)
        f.0 (fin (next s t f.1)) (λ z. r.step s t _ _ _ _ _ j (f.2 z) (r.done _ z)) [] (fin s) fits (λ z. r.done s z)
      where
        outof : {us more rest' : List T} {x' : A} → Out s us x' rest' → us ≡ t ∷ more → P.stops x' (next_of rest') → P.fits x' → ⊥
        outof at_end e n g = r.ends _ t (subst (λ u. P.stops (fin s) (next_of u)) e n) j
        outof (at_step {t = u} {b = b} i q k) e n g =
            let h : u ≡ t = cc in
            over b (subst (λ v. P.fits (fin (next s v b))) h (r.shrinks _ _ _ _ k g))

  -- the first item, with which s begins
  pub record Starts (start : A → St) (First : Part T A) : Type 0 where
    pub intro : (ts : List T) (a : A) (mid : List T) (x : A) (rest : List T) → First.reads ts a mid → Tail (start a) mid x rest → P.reads ts x rest
    pub inv : (ts : List T) (x : A) (rest : List T) → P.reads ts x rest → (a : A) × (mid : List T) × First.reads ts a mid × Tail (start a) mid x rest
    pub same : (a : A) → fin (start a) ≡ a
    pub stays : (a : A) (o : Option T) → P.stops a o → First.stops a o
    pub goes : (a : A) (u : T) → J u → First.stops a (Some u)
    pub fits : (a : A) → First.fits a → P.fits a
    pub part : (a : A) → P.fits a → First.fits a

  module _ (r : Repeats) {start : A → St} {First : Part T A} (b : Starts start First) where
    pub start_binds : Binds First (λ a. Tail (start a)) P
    start_binds = record {
      intro = b.intro;
      inv = λ ts x rest k n. let i = b.inv _ _ _ k in (i.0, i.1, i.2, first_stops i.0 (b.same i.0) (r.out _ _ _ _ i.3) n, i.3);
      down = λ y mid x rest k f. b.part y (subst P.fits (b.same y) (r.shrinks _ _ _ _ k f));
      finish = λ y f. ([], fin (start y), subst P.fits (sym (b.same y)) (b.fits y f), λ z. r.done _ z);
      extend = λ y. ([], fin (start y), λ z. r.done _ z);
    }
      where
        first_stops : (a : A) {mid rest : List T} {x : A} → fin (start a) ≡ a → Out (start a) mid x rest → P.stops x (next_of rest) → First.stops a (next_of mid)
        first_stops a {mid} e at_end n = b.stays a (next_of mid) (subst (λ u. P.stops u (next_of mid)) e n)
        first_stops a e (at_step {t = u} j q k) n = b.goes a u j
