-- Lists of items with a token between them, and perhaps one behind the last, up to a token that closes them, where which items may come
-- depends on what was read.
use Rattle.std.proofs.Common.{◌≡◌, List, [], ◌∷◌, ◌++◌, Option, Some, None, Bool, true, false, inl, inr, refl, sym, ◌∙◌, ap, subst, append_assoc}
use Rattle.pt_readers.specs.Reading.{next_of, Part, Alike, Refused}
use Rattle.pt_readers.proofs.Readers.{Binds, Shifts, Narrows, left, bad_refused}
use Rattle.pt_readers.proofs.Exits.{over_refused_at}

-- What is read so far is s. P ends with End, here or behind a token of J, or goes on behind it with an item of Q s. C are the tokens
-- with which End begins, or before which it stands.
module _ {T A I St : Type 0} (P : Part T A) (Tail End : St → List T → A → List T → Type 0) (J : T → Type 0) (C : Option T → Bool)
    (Q : St → Part T I) (next : St → I → St) (fin : St → A) where
  pub data Out (s : St) : List T → A → List T → Type 0 where
    at_end : {ts rest : List T} {x : A} → End s ts x rest → Out s ts x rest
    at_last : {t : T} {ts rest : List T} {x : A} → J t → End s ts x rest → Out s (t ∷ ts) x rest
    at_item : {t : T} {ts mid rest : List T} {b : I} {x : A} → J t → (Q s).reads ts b mid → Tail (next s b) mid x rest → Out s (t ∷ ts) x rest

  -- behind a token of J
  pub data Behind (s : St) : List T → A → List T → Type 0 where
    no_more : {ts rest : List T} {x : A} → End s ts x rest → Behind s ts x rest
    one_more : {ts mid rest : List T} {b : I} {x : A} → (Q s).reads ts b mid → Tail (next s b) mid x rest → Behind s ts x rest

  -- an item, and what is behind it
  pub data Another (s : St) : List T → A → List T → Type 0 where
    another : {ts mid rest : List T} {b : I} {x : A} → (Q s).reads ts b mid → Tail (next s b) mid x rest → Another s ts x rest

  pub record StateLists : Type 0 where
    pub done : (s : St) → (w : List T) × ((z : List T) → End s (w ++ z) (fin s) z)
    pub end : (s : St) (ts : List T) (x : A) (rest : List T) → End s ts x rest → Tail s ts x rest
    pub last : (s : St) (t : T) (ts : List T) (x : A) (rest : List T) → J t → End s ts x rest → Tail s (t ∷ ts) x rest
    pub step : (s : St) (t : T) (ts mid rest : List T) (b : I) (x : A) → J t → (Q s).reads ts b mid → Tail (next s b) mid x rest → Tail s (t ∷ ts) x rest
    pub out : (s : St) (ts : List T) (x : A) (rest : List T) → Tail s ts x rest → Out s ts x rest
    pub closes : (s : St) (ts : List T) (x : A) (rest : List T) → End s ts x rest → P.stops x (next_of rest) → C (next_of ts) ≡ true
    pub none_closes : C None ≡ false
    pub between : (t : T) → J t → C (Some t) ≡ false
    pub begins : (s : St) (ts : List T) (b : I) (mid : List T) → (Q s).reads ts b mid → C (next_of ts) ≡ false
    pub no_item : (s : St) (b : I) (mid : List T) → (Q s).reads [] b mid → ⊥
    pub stays : (s : St) (b : I) (o : Option T) → C o ≡ true → (Q s).stops b o
    pub goes : (s : St) (b : I) (u : T) → J u → (Q s).stops b (Some u)
    pub shrinks : (s : St) (ts : List T) (x : A) (rest : List T) → Tail s ts x rest → P.fits x → P.fits (fin s)
    pub part : (s : St) (b : I) → P.fits (fin (next s b)) → (Q s).fits b

  module _ (r : StateLists) where
    item_stops : (s : St) (b : I) {mid rest : List T} {x : A} → Out (next s b) mid x rest → P.stops x (next_of rest) → (Q s).stops b (next_of mid)
    item_stops s b (at_end e) n = r.stays s b _ (r.closes _ _ _ _ e n)
    item_stops s b (at_last {t = u} j e) n = r.goes s b u j
    item_stops s b (at_item {t = u} j q k) n = r.goes s b u j

    -- nothing that looks like these tokens is closed where they aren't
    not_closed : (s : St) (ts : List T) → C (next_of ts) ≡ false → {more rest : List T} {x : A} → Alike more ts → End s more x rest → P.stops x (next_of rest) → ⊥
    not_closed s ts n (inl h) e m = let k = sym (r.closes _ _ _ _ e m) ∙ ap C h ∙ n in cc
    not_closed s ts n (inr h) e m = let k = sym (r.closes _ _ _ _ e m) ∙ ap (λ us. C (next_of us)) h ∙ r.none_closes in cc

    -- no item begins with what closes them
    not_begun : (s : St) (ts : List T) → C (next_of ts) ≡ true → {more mid : List T} {b : I} → Alike more ts → (Q s).reads more b mid → ⊥
    not_begun s ts c (inl h) q = let k = sym (r.begins _ _ _ _ q) ∙ ap C h ∙ c in cc
    not_begun s ts c {mid = mid} {b = b} (inr h) q = r.no_item s b mid (subst (λ us. (Q s).reads us b mid) h q)

    pub between_shifts : (s : St) (t : T) → J t → Shifts t (left P (Behind s)) (left P (Tail s))
    between_shifts s t j = record { intro = λ ts x rest k. into k; inv = λ ts x rest k n. (outof (r.out _ _ _ _ k) refl n, n); stop = λ x o n. n; up = λ x f. f; down = λ x f. f }
      where
        into : {ts rest : List T} {x : A} → Behind s ts x rest → Tail s (t ∷ ts) x rest
        into (no_more e) = r.last s t _ _ _ j e
        into (one_more q k) = r.step s t _ _ _ _ _ j q k

        outof : {us ts rest : List T} {x : A} → Out s us x rest → us ≡ t ∷ ts → P.stops x (next_of rest) → Behind s ts x rest
        outof (at_end e) h n = let k = sym (r.closes _ _ _ _ e n) ∙ ap (λ us. C (next_of us)) h ∙ r.between t j in absurd (cc)
        outof {ts = ts} {rest = rest} {x = x} (at_last {ts = us} i e) h n = let g : us ≡ ts = cc in subst (λ v. Behind s v x rest) g (no_more e)
        outof {ts = ts} {rest = rest} {x = x} (at_item {ts = us} i q k) h n = let g : us ≡ ts = cc in subst (λ v. Behind s v x rest) g (one_more q k)

    -- no token of J is next
    pub end_narrows : (s : St) (ts : List T) → ((t : T) → next_of ts ≡ Some t → J t → ⊥) → Narrows ts (left P (End s)) (left P (Tail s))
    end_narrows s ts n = record { into = λ more x rest k. r.end s _ _ _ k; out = λ more x rest a k m. (outof a (r.out _ _ _ _ k), m); stop = λ x o m. m; up = λ x f. f; down = λ x f. f }
      where
        outof : {more rest : List T} {x : A} → Alike more ts → Out s more x rest → End s more x rest
        outof a (at_end e) = e
        outof (inl h) (at_last {t = t} j e) = absurd (n t (sym h) j)
        outof (inr h) (at_last j e) = absurd (cc)
        outof (inl h) (at_item {t = t} j q k) = absurd (n t (sym h) j)
        outof (inr h) (at_item j q k) = absurd (cc)

    -- behind a token of J, where what closes them is next
    pub last_narrows : (s : St) (ts : List T) → C (next_of ts) ≡ true → Narrows ts (left P (End s)) (left P (Behind s))
    last_narrows s ts c = record { into = λ more x rest k. no_more k; out = λ more x rest a k m. (outof a k, m); stop = λ x o m. m; up = λ x f. f; down = λ x f. f }
      where
        outof : {more rest : List T} {x : A} → Alike more ts → Behind s more x rest → End s more x rest
        outof a (no_more e) = e
        outof a (one_more q k) = absurd (not_begun s ts c a q)

    -- and where it isn't
    pub another_narrows : (s : St) (ts : List T) → C (next_of ts) ≡ false → Narrows ts (left P (Another s)) (left P (Behind s))
    another_narrows s ts n = record { into = λ more x rest k. into k; out = λ more x rest a k m. (outof a k m, m); stop = λ x o m. m; up = λ x f. f; down = λ x f. f }
      where
        into : {more rest : List T} {x : A} → Another s more x rest → Behind s more x rest
        into (another q k) = one_more q k

        outof : {more rest : List T} {x : A} → Alike more ts → Behind s more x rest → P.stops x (next_of rest) → Another s more x rest
        outof a (no_more e) m = absurd (not_closed s ts n a e m)
        outof a (one_more q k) m = another q k

    pub another_binds : (s : St) → ((b : I) → (Q s).fits b → P.fits (fin (next s b))) → Binds (Q s) (λ b. Tail (next s b)) (left P (Another s))
    another_binds s grow = record {
      intro = λ ts y mid x rest q k. another q k;
      inv = λ ts x rest k n. outof k n;
      down = λ y mid x rest k f. r.part s y (r.shrinks _ _ _ _ k f);
      finish = λ y f. let w = r.done (next s y) in (w.0, fin (next s y), grow y f, λ z. r.end _ _ _ _ (w.1 z));
      extend = λ y. let w = r.done (next s y) in (w.0, fin (next s y), λ z. r.end _ _ _ _ (w.1 z));
    }
      where
        outof : {ts rest : List T} {x : A} → Another s ts x rest → P.stops x (next_of rest) → (y : I) × (mid : List T) × (Q s).reads ts y mid × (Q s).stops y (next_of mid) × Tail (next s y) mid x rest
        outof (another {b = b} q k) n = (_, _, q, item_stops s b (r.out _ _ _ _ k) n, k)

    -- neither a token of J nor what closes them is next
    pub tail_bad : (s : St) (ts : List T) → ((t : T) → next_of ts ≡ Some t → J t → ⊥) → C (next_of ts) ≡ false → P.fits (fin s) → Refused (left P (Tail s)) false ts ts
    tail_bad s ts n c fits = let w = r.done s in
        bad_refused (left P (Tail s)) ts (λ more a x rest k m. outof a (r.out _ _ _ _ k) m) w.0 (fin s) fits (λ z. r.end _ _ _ _ (w.1 z))
      where
        outof : {more rest : List T} {x : A} → Alike more ts → Out s more x rest → P.stops x (next_of rest) → ⊥
        outof a (at_end e) m = not_closed s ts c a e m
        outof (inl h) (at_last {t = t} j e) m = n t (sym h) j
        outof (inr h) (at_last j e) m = cc
        outof (inl h) (at_item {t = t} j q k) m = n t (sym h) j
        outof (inr h) (at_item j q k) m = cc

    -- behind a token of J neither an item that may come nor what closes them is next
    pub behind_bad : (s : St) (ts : List T) → ((more : List T) → Alike more ts → (b : I) (mid : List T) → (Q s).reads more b mid → ⊥) → C (next_of ts) ≡ false → P.fits (fin s)
        → Refused (left P (Behind s)) false ts ts
    behind_bad s ts n c fits = let w = r.done s in
        bad_refused (left P (Behind s)) ts (λ more a x rest k m. outof a k m) w.0 (fin s) fits (λ z. no_more (w.1 z))
      where
        outof : {more rest : List T} {x : A} → Alike more ts → Behind s more x rest → P.stops x (next_of rest) → ⊥
        outof a (no_more e) m = not_closed s ts c a e m
        outof {more = more} a (one_more {mid = mid} {b = b} q k) m = n more a b mid q

    -- an item too many is next
    pub behind_over : (s : St) (t : T) (ts : List T) → next_of ts ≡ Some t → (w : List T) (b : I) → ((z : List T) → (Q s).reads (t ∷ (w ++ z)) b z) → P.fits (fin s)
        → ((b : I) → P.fits (fin (next s b)) → ⊥) → Refused (left P (Behind s)) true ts ts
    behind_over s t ts h w b far fits over =
        let v = r.done s in
        let u = r.done (next s b) in
        over_refused_at (left P (Behind s)) t ts h (λ more x rest k n g. outof k refl n g) (w ++ u.0) (fin (next s b)) (λ z. rw append_assoc (one_more (far (u.0 ++ z)) (r.end _ _ _ _ (u.1 z))))
        v.0 (fin s) fits (λ z. no_more (v.1 z))
      where
        outof : {us more rest : List T} {x : A} → Behind s us x rest → us ≡ t ∷ more → P.stops x (next_of rest) → P.fits x → ⊥
        outof (no_more e) g n f = let k = sym (r.closes _ _ _ _ e n) ∙ ap (λ us. C (next_of us)) g ∙ r.begins _ _ _ _ (far []) in cc
        outof (one_more {b = c} q k) g n f = over c (r.shrinks _ _ _ _ k f)
