-- What may follow: nothing, or a token and more.
use Rattle.std.proofs.Common.{◌≡◌, List, [], ◌∷◌, ◌++◌, Some, true, inl, inr, refl, sym, subst}
use Rattle.pt_readers.specs.Reading.{next_of, Part, Alike, Found, Refused}
use Rattle.pt_readers.proofs.Readers.{Shifts, left, nothing_found}
use Rattle.pt_readers.proofs.Exits.{over_refused_at}

-- What is read is x, or what K makes behind a token t of J.
module _ {T A : Type 0} (P : Part T A) (Tail : List T → A → List T → Type 0) (J : T → Type 0) (K : T → List T → A → List T → Type 0) (x : A) where
  pub data Ways : List T → A → List T → Type 0 where
    no_way : {ts : List T} → Ways ts x ts
    one_way : {t : T} {ts rest : List T} {y : A} → J t → K t ts y rest → Ways (t ∷ ts) y rest

  pub record MayFollow : Type 0 where
    pub none : (ts : List T) → Tail ts x ts
    pub some : (t : T) (ts : List T) (y : A) (rest : List T) → J t → K t ts y rest → Tail (t ∷ ts) y rest
    pub out : (ts : List T) (y : A) (rest : List T) → Tail ts y rest → Ways ts y rest
    pub ends : (t : T) → P.stops x (Some t) → J t → ⊥

  module _ (r : MayFollow) where
    pub may_shift : (t : T) → J t → Shifts t (left P (K t)) (left P Tail)
    may_shift t j = record { intro = λ ts y rest k. r.some t ts y rest j k; inv = λ ts y rest k n. (outof (r.out _ _ _ k) refl n, n); stop = λ y o n. n; up = λ y f. f; down = λ y f. f }
      where
        outof : {us ts rest : List T} {y : A} → Ways us y rest → us ≡ t ∷ ts → P.stops y (next_of rest) → K t ts y rest
        outof no_way e n = absurd (r.ends t (subst (λ u. P.stops x (next_of u)) e n) j)
        outof {ts = ts} {rest = rest} {y = y} (one_way {t = u} {ts = us} i k) e n =
            let h : us ≡ ts = cc in
            let g : u ≡ t = cc in
            subst (λ v. K t v y rest) h (subst (λ v. K v us y rest) g k)

    -- no token of J is next
    pub may_none : (ts : List T) → ((t : T) → next_of ts ≡ Some t → J t → ⊥) → P.stops x (next_of ts) → P.fits x → Found (left P Tail) ts x ts
    may_none ts n stops fits = nothing_found (left P Tail) ts x (λ more. r.none more) stops fits (λ more a x' rest' k m. outof a (r.out _ _ _ k))
      where
        outof : {more rest' : List T} {x' : A} → Alike more ts → Ways more x' rest' → (x' ≡ x) × (rest' ≡ more)
        outof a no_way = (refl, refl)
        outof (inl e) (one_way {t = t} j k) = absurd (n t (sym e) j)
        outof (inr e) (one_way j k) = cc

    -- a token of J is next, and what it makes is beyond the limits
    pub may_over : (t : T) (ts : List T) → next_of ts ≡ Some t → J t → P.fits x → ((us : List T) (y : A) (rest : List T) → K t us y rest → P.fits y → ⊥)
        → (w : List T) (y : A) → ((z : List T) → K t (w ++ z) y z) → Refused (left P Tail) true ts ts
    may_over t ts h j fits over w y far =
        over_refused_at (left P Tail) t ts h (λ more x' rest' k n g. outof (r.out _ _ _ k) refl n g) w y (λ z. r.some t _ _ _ j (far z)) [] x fits (λ z. r.none z)
      where
        outof : {us more rest' : List T} {x' : A} → Ways us x' rest' → us ≡ t ∷ more → P.stops x' (next_of rest') → P.fits x' → ⊥
        outof no_way e n g = r.ends t (subst (λ u. P.stops x (next_of u)) e n) j
        outof {rest' = rest'} {x' = x'} (one_way {t = u} {ts = us} i k) e n g =
            let h : u ≡ t = cc in over us x' rest' (subst (λ v. K v us x' rest') h k) g
