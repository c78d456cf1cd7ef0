-- Lists of items with a token between them, and perhaps one behind the last.
use Rattle.std.proofs.Common.{◌≡◌, List, [], ◌∷◌, ◌++◌, Option, Some, None, Bool, true, false, inl, inr, refl, sym, ap, subst}
use Rattle.pt_readers.specs.Reading.{next_of, Part, Alike, Dead, Within, Found, Refused, Carries}
use Rattle.pt_readers.proofs.Readers.{Binds, Shifts, left, nothing_found, bad_refused}
use Rattle.pt_readers.proofs.Exits.{over_refused_at}

-- What is read so far is s. P ends with `open s`, or behind a token of J with `closed s`, or goes on behind it with an item of Q.
-- B says what begins an item.
module _ {T A I St : Type 0} (P : Part T A) (Tail : St → List T → A → List T → Type 0) (J : T → Type 0) (Q : Part T I) (B : Option T → Type 0)
    (next : St → I → St) (open_at closed_at : St → A) where
  pub data Out (s : St) : List T → A → List T → Type 0 where
    at_end : {ts : List T} → Out s ts (open_at s) ts
    at_last : {t : T} {ts : List T} → J t → Out s (t ∷ ts) (closed_at s) ts
    at_item : {t : T} {ts mid rest : List T} {b : I} {x : A} → J t → Q.reads ts b mid → Tail (next s b) mid x rest → Out s (t ∷ ts) x rest

  -- behind a token of J
  pub data Behind (s : St) : List T → A → List T → Type 0 where
    no_more : {ts : List T} → Behind s ts (closed_at s) ts
    one_more : {ts mid rest : List T} {b : I} {x : A} → Q.reads ts b mid → Tail (next s b) mid x rest → Behind s ts x rest

  -- an item, and what is behind it
  pub data Another (s : St) : List T → A → List T → Type 0 where
    another : {ts mid rest : List T} {b : I} {x : A} → Q.reads ts b mid → Tail (next s b) mid x rest → Another s ts x rest

  pub record Lists : Type 0 where
    pub done : (s : St) (ts : List T) → Tail s ts (open_at s) ts
    pub last : (s : St) (t : T) (ts : List T) → J t → Tail s (t ∷ ts) (closed_at s) ts
    pub step : (s : St) (t : T) (ts mid rest : List T) (b : I) (x : A) → J t → Q.reads ts b mid → Tail (next s b) mid x rest → Tail s (t ∷ ts) x rest
    pub out : (s : St) (ts : List T) (x : A) (rest : List T) → Tail s ts x rest → Out s ts x rest
    pub ends : (s : St) (t : T) → P.stops (open_at s) (Some t) → J t → ⊥
    pub closes : (s : St) (o : Option T) → P.stops (closed_at s) o → B o → ⊥
    pub begins : (ts mid : List T) (b : I) → Q.reads ts b mid → B (next_of ts)
    pub no_end : B None → ⊥
    pub far : (t : T) → B (Some t) → (w : List T) × (b : I) × ((z : List T) → Q.reads (t ∷ (w ++ z)) b z)
    -- what may stand behind the last item
    pub finale : List T
    pub at_last_end : (s : St) → P.stops (open_at s) (next_of finale)
    pub stays : (s : St) (b : I) (o : Option T) → P.stops (open_at (next s b)) o → Q.stops b o
    pub goes : (b : I) (u : T) → J u → Q.stops b (Some u)
    pub shrinks : (s : St) (ts : List T) (x : A) (rest : List T) → Tail s ts x rest → P.fits x → P.fits (open_at s)
    pub same : (s : St) → P.fits (open_at s) → P.fits (closed_at s)
    pub part : (s : St) (b : I) → P.fits (open_at (next s b)) → Q.fits b

  module _ (r : Lists) where
    item_stops : (s : St) (b : I) {mid rest : List T} {x : A} → Out (next s b) mid x rest → P.stops x (next_of rest) → Q.stops b (next_of mid)
    item_stops s b at_end n = r.stays s b _ n
    item_stops s b (at_last {t = u} j) n = r.goes b u j
    item_stops s b (at_item {t = u} j q k) n = r.goes b u j

    pub between_shifts : (s : St) (t : T) → J t → Shifts t (left P (Behind s)) (left P (Tail s))
    between_shifts s t j = record { intro = λ ts x rest k. into k; inv = λ ts x rest k n. (outof (r.out _ _ _ _ k) refl n, n); stop = λ x o n. n; up = λ x f. f; down = λ x f. f }
      where
        into : {ts rest : List T} {x : A} → Behind s ts x rest → Tail s (t ∷ ts) x rest
        into no_more = r.last s t _ j
        into (one_more q k) = r.step s t _ _ _ _ _ j q k

        outof : {us ts rest : List T} {x : A} → Out s us x rest → us ≡ t ∷ ts → P.stops x (next_of rest) → Behind s ts x rest
        outof {ts = ts} at_end e n = absurd (r.ends s t (subst (λ u. P.stops (open_at s) (next_of u)) e n) j)
        outof {ts = ts} (at_last {ts = us} i) e n = let h : us ≡ ts = cc in subst (λ v. Behind s v (closed_at s) us) h no_more
        outof {ts = ts} {rest = rest} {x = x} (at_item {ts = us} i q k) e n = let h : us ≡ ts = cc in subst (λ v. Behind s v x rest) h (one_more q k)

    begun : (s : St) (front : List T) {x : A} → ((more : List T) → Another s (front ++ more) x more) → (more : List T) → B (next_of (front ++ more))
    begun s [] reads more = absurd (r.no_end (first (reads [])))
      where
        first : {ts rest : List T} {x : A} → Another s ts x rest → B (next_of ts)
        first (another q k) = r.begins _ _ _ q
    begun s (t ∷ ts) reads more = first (reads [])
      where
        first : {us rest : List T} {x : A} → Another s us x rest → B (next_of us)
        first (another q k) = r.begins _ _ _ q

    -- where an item is next
    another_found : (s : St) (ts : List T) (x : A) (end : List T) → Found (left P (Another s)) ts x end → Found (left P (Behind s)) ts x end
    another_found s ts x end f = record {
      front = f.front;
      whole = f.whole;
      reads = λ more. into (f.reads more);
      stops = f.stops;
      fits = f.fits;
      only = λ more a x' rest' k n. f.only more a x' rest' (outof (begun s f.front f.reads more) k n) n;
    }
      where
        into : {more rest : List T} {y : A} → Another s more y rest → Behind s more y rest
        into (another q k) = one_more q k

        outof : {more rest : List T} {y : A} → B (next_of more) → Behind s more y rest → P.stops y (next_of rest) → Another s more y rest
        outof b (one_more q k) n = another q k
        outof {more = more} b no_more n = absurd (r.closes s (next_of more) n b)

    another_refused : (s : St) (ts : List T) → B (next_of ts) → (over : Bool) (end : List T) → Refused (left P (Another s)) over ts end → Refused (left P (Behind s)) over ts end
    another_refused s ts b over end f = record {
      front = f.front;
      whole = f.whole;
      dead = λ more h x' rest' k n g. f.dead more h x' rest' (outof (begins_so f.front end f.whole over more h f.dead) k n) n g;
      beyond = λ o. let v = f.beyond o in (v.0, v.1, v.2, v.3, λ z. into (v.4 z));
      completion = f.completion;
      completed = f.completed;
      fits = f.fits;
      completes = λ z. into (f.completes z);
    }
      where
        into : {more rest : List T} {y : A} → Another s more y rest → Behind s more y rest
        into (another q k) = one_more q k

        outof : {more rest : List T} {y : A} → B (next_of more) → Behind s more y rest → P.stops y (next_of rest) → Another s more y rest
        outof b (one_more q k) n = another q k
        outof {more = more} b no_more n = absurd (r.closes s (next_of more) n b)

        -- the first token of an item isn't refused
        never : (us : List T) → B (next_of us) → ((more : List T) → Dead false more us → (x' : A) (rest' : List T) → Another s more x' rest' → P.stops x' (next_of rest') → Unit {0} → ⊥) → ⊥
        never [] c dead = r.no_end c
        never (u ∷ us) c dead = let w = r.far u c in dead (u ∷ (w.0 ++ r.finale)) (inl refl) (open_at (next s w.1)) r.finale (another (w.2 r.finale) (r.done _ r.finale)) (r.at_last_end _) tt

        begins_so : (front end : List T) → ts ≡ front ++ end → (over : Bool) (more : List T) → Dead over more end
            → ((more : List T) → Dead over more end → (x' : A) (rest' : List T) → Another s (front ++ more) x' rest' → P.stops x' (next_of rest') → Within P.fits over x' → ⊥)
            → B (next_of (front ++ more))
        begins_so (t ∷ front) end w over more h dead = subst (λ u. B (next_of u)) w b
        begins_so [] end w true more h dead = subst B (sym h) (subst (λ u. B (next_of u)) w b)
        begins_so [] end w false more (inl e) dead = subst B (sym e) (subst (λ u. B (next_of u)) w b)
        begins_so [] end w false more (inr e) dead = absurd (never end (subst (λ u. B (next_of u)) w b) dead)

    pub another_carries : (s : St) (ts : List T) → B (next_of ts) → Carries (left P (Behind s)) ts (left P (Another s)) ts
    another_carries s ts b = record { found = λ x end f. another_found s ts x end f; refused = λ over end f. another_refused s ts b over end f }

    pub another_binds : (s : St) → ((b : I) → Q.fits b → P.fits (open_at (next s b))) → Binds Q (λ b. Tail (next s b)) (left P (Another s))
    another_binds s grow = record {
      intro = λ ts y mid x rest q k. another q k;
      inv = λ ts x rest k n. outof k n;
      down = λ y mid x rest k f. r.part s y (r.shrinks _ _ _ _ k f);
      finish = λ y f. ([], open_at (next s y), grow y f, λ z. r.done _ z);
      extend = λ y. ([], open_at (next s y), λ z. r.done _ z);
    }
      where
        outof : {ts rest : List T} {x : A} → Another s ts x rest → P.stops x (next_of rest) → (y : I) × (mid : List T) × Q.reads ts y mid × Q.stops y (next_of mid) × Tail (next s y) mid x rest
        outof (another {b = b} q k) n = (_, _, q, item_stops s b (r.out _ _ _ _ k) n, k)

    -- behind the last token of J
    pub last_found : (s : St) (ts : List T) → (B (next_of ts) → ⊥) → P.stops (closed_at s) (next_of ts) → P.fits (open_at s) → Found (left P (Behind s)) ts (closed_at s) ts
    last_found s ts n stops fits = nothing_found (left P (Behind s)) ts (closed_at s) (λ more. no_more) stops (r.same s fits) (λ more a x' rest' k m. outof a k)
      where
        outof : {more rest' : List T} {x' : A} → Alike more ts → Behind s more x' rest' → (x' ≡ closed_at s) × (rest' ≡ more)
        outof a no_more = (refl, refl)
        outof (inl e) (one_more q k) = absurd (n (subst B e (r.begins _ _ _ q)))
        outof (inr e) (one_more q k) = absurd (r.no_end (subst B (ap next_of e) (r.begins _ _ _ q)))

    -- no token of J is next
    pub list_found : (s : St) (ts : List T) → ((t : T) → next_of ts ≡ Some t → J t → ⊥) → P.stops (open_at s) (next_of ts) → P.fits (open_at s) → Found (left P (Tail s)) ts (open_at s) ts
    list_found s ts n stops fits = nothing_found (left P (Tail s)) ts (open_at s) (λ more. r.done s more) stops fits (λ more a x' rest' k m. outof a (r.out _ _ _ _ k))
      where
        outof : {more rest' : List T} {x' : A} → Alike more ts → Out s more x' rest' → (x' ≡ open_at s) × (rest' ≡ more)
        outof a at_end = (refl, refl)
        outof (inl e) (at_last {t = t} j) = absurd (n t (sym e) j)
        outof (inr e) (at_last j) = cc
        outof (inl e) (at_item {t = t} j q k) = absurd (n t (sym e) j)
        outof (inr e) (at_item j q k) = cc

    -- neither a token of J is next nor what may stand behind the whole
    pub list_bad : (s : St) (ts : List T) → ((t : T) → next_of ts ≡ Some t → J t → ⊥) → (P.stops (open_at s) (next_of ts) → ⊥) → (P.stops (open_at s) None → ⊥) → P.fits (open_at s)
        → Refused (left P (Tail s)) false ts ts
    list_bad s ts n bad no_end fits = bad_refused (left P (Tail s)) ts (λ more a x' rest' k m. outof a (r.out _ _ _ _ k) m) [] (open_at s) fits (λ z. r.done s z)
      where
        outof : {more rest' : List T} {x' : A} → Alike more ts → Out s more x' rest' → P.stops x' (next_of rest') → ⊥
        outof (inl e) at_end m = bad (subst (P.stops (open_at s)) e m)
        outof (inr e) at_end m = no_end (subst (λ u. P.stops (open_at s) (next_of u)) e m)
        outof (inl e) (at_last {t = t} j) m = n t (sym e) j
        outof (inr e) (at_last j) m = cc
        outof (inl e) (at_item {t = t} j q k) m = n t (sym e) j
        outof (inr e) (at_item j q k) m = cc

    -- behind a token of J neither an item is next nor what may stand behind the whole
    pub last_bad : (s : St) (ts : List T) → (B (next_of ts) → ⊥) → (P.stops (closed_at s) (next_of ts) → ⊥) → (P.stops (closed_at s) None → ⊥) → P.fits (open_at s)
        → Refused (left P (Behind s)) false ts ts
    last_bad s ts n bad no_end fits = bad_refused (left P (Behind s)) ts (λ more a x' rest' k m. outof a k m) [] (closed_at s) (r.same s fits) (λ z. no_more)
      where
        outof : {more rest' : List T} {x' : A} → Alike more ts → Behind s more x' rest' → P.stops x' (next_of rest') → ⊥
        outof (inl e) no_more m = bad (subst (P.stops (closed_at s)) e m)
        outof (inr e) no_more m = no_end (subst (λ u. P.stops (closed_at s) (next_of u)) e m)
        outof (inl e) (one_more q k) m = n (subst B e (r.begins _ _ _ q))
        outof (inr e) (one_more q k) m = r.no_end (subst B (ap next_of e) (r.begins _ _ _ q))

    -- an item too many is next
    pub list_over : (s : St) (t : T) (ts : List T) → next_of ts ≡ Some t → B (Some t) → P.fits (open_at s) → ((b : I) → P.fits (open_at (next s b)) → ⊥)
        → Refused (left P (Behind s)) true ts ts
    list_over s t ts h begin fits over =
        let w = r.far t begin in
        over_refused_at (left P (Behind s)) t ts h (λ more x' rest' k n g. outof k refl n g) w.0 (open_at (next s w.1)) (λ z. one_more (w.2 z) (r.done _ z)) [] (closed_at s) (r.same s fits) (λ z. no_more)
      where
        outof : {us more rest' : List T} {x' : A} → Behind s us x' rest' → us ≡ t ∷ more → P.stops x' (next_of rest') → P.fits x' → ⊥
        outof no_more e n g = r.closes s _ (subst (λ u. P.stops (closed_at s) (next_of u)) e n) begin
        outof (one_more {b = c} q k) e n g = over c (r.shrinks _ _ _ _ k g)

  -- the first item, with which `start` begins
  pub record Opens (start : I → St) : Type 0 where
    pub intro : (ts : List T) (b : I) (mid : List T) (x : A) (rest : List T) → Q.reads ts b mid → Tail (start b) mid x rest → P.reads ts x rest
    pub inv : (ts : List T) (x : A) (rest : List T) → P.reads ts x rest → (b : I) × (mid : List T) × Q.reads ts b mid × Tail (start b) mid x rest
    pub stays : (b : I) (o : Option T) → P.stops (open_at (start b)) o → Q.stops b o
    pub fits : (b : I) → Q.fits b → P.fits (open_at (start b))
    pub part : (b : I) → P.fits (open_at (start b)) → Q.fits b

  module _ (r : Lists) {start : I → St} (o : Opens start) where
    pub first_binds : Binds Q (λ b. Tail (start b)) P
    first_binds = record {
      intro = o.intro;
      inv = λ ts x rest k n. let i = o.inv _ _ _ k in (i.0, i.1, i.2, first_stops i.0 (r.out _ _ _ _ i.3) n, i.3);
      down = λ y mid x rest k f. o.part y (r.shrinks _ _ _ _ k f);
      finish = λ y f. ([], open_at (start y), o.fits y f, λ z. r.done _ z);
      extend = λ y. ([], open_at (start y), λ z. r.done _ z);
    }
      where
        first_stops : (b : I) {mid rest : List T} {x : A} → Out (start b) mid x rest → P.stops x (next_of rest) → Q.stops b (next_of mid)
        first_stops b at_end n = o.stays b _ n
        first_stops b (at_last {t = u} j) n = r.goes b u j
        first_stops b (at_item {t = u} j q k) n = r.goes b u j
