-- What is often left of a part: a token of a kind and then more, and a last item.
use Rattle.std.proofs.Common.{◌≡◌, List, [], ◌∷◌, ◌++◌, Option, Some, false, inl, inr, sym}
use Rattle.pt_readers.specs.Reading.{next_of, behind, Part, Alike, Found, Refused, Carries}
use Rattle.pt_readers.proofs.Readers.{Binds, Shifts, left, Just, just, just_found, bad_refused}
use Rattle.pt_readers.proofs.Exits.{goes_on, shift_on}

-- a token of J, and then K
pub data Through {T A : Type 0} (J : T → Type 0) (K : List T → A → List T → Type 0) : List T → A → List T → Type 0 where
  through : {t : T} {ts rest : List T} {x : A} → J t → K ts x rest → Through J K (t ∷ ts) x rest

module _ {T A : Type 0} (P : Part T A) (J : T → Type 0) (K : List T → A → List T → Type 0) where
  pub through_shifts : (t : T) → J t → Shifts t (left P K) (left P (Through J K))
  through_shifts t j = record { intro = λ ts x rest k. through j k; inv = λ ts x rest k n. (out k, n); stop = λ x o n. n; up = λ x f. f; down = λ x f. f }
    where
      out : {ts rest : List T} {x : A} → Through J K (t ∷ ts) x rest → K ts x rest
      out (through i k) = k

  -- another token is next
  pub through_bad : (ts : List T) → ((t : T) → next_of ts ≡ Some t → J t → ⊥) → (t : T) → J t → (w : List T) (x : A) → P.fits x → ((z : List T) → K (w ++ z) x z)
      → Refused (left P (Through J K)) false ts ts
  through_bad ts n t j w x fits reads = bad_refused (left P (Through J K)) ts (λ more a x' rest' k s. out a k) (t ∷ w) x fits (λ z. through j (reads z))
    where
      out : {more rest' : List T} {x' : A} → Alike more ts → Through J K more x' rest' → ⊥
      out (inl e) (through {t = u} i k) = n u (sym e) i
      out (inr e) (through i k) = cc

-- an item of Q, of which P is made
pub data Made {T A B : Type 0} (Q : Part T B) (f : B → A) : List T → A → List T → Type 0 where
  made : {ts rest : List T} {b : B} → Q.reads ts b rest → Made Q f ts (f b) rest

module _ {T A B : Type 0} (P : Part T A) (Q : Part T B) (f : B → A) (stops : (b : B) (o : Option T) → P.stops (f b) o → Q.stops b o)
    (down : (b : B) → P.fits (f b) → Q.fits b) (up : (b : B) → Q.fits b → P.fits (f b)) where
  pub made_binds : Binds Q (λ b. Just (f b)) (left P (Made Q f))
  made_binds = record {
    intro = λ ts y mid x rest q j. into q j;
    inv = λ ts x rest k n. out k n;
    down = λ y mid x rest j g. fits_down j g;
    finish = λ y g. ([], f y, up y g, λ z. just);
    extend = λ y. ([], f y, λ z. just);
  }
    where
      into : {ts mid rest : List T} {y : B} {x : A} → Q.reads ts y mid → Just (f y) mid x rest → Made Q f ts x rest
      into q just = made q

      out : {ts rest : List T} {x : A} → Made Q f ts x rest → P.stops x (next_of rest)
          → (y : B) × (mid : List T) × Q.reads ts y mid × Q.stops y (next_of mid) × Just (f y) mid x rest
      out {rest = rest} (made {b = b} q) n = (_, _, q, stops b (next_of rest) n, just)

      fits_down : {mid rest : List T} {y : B} {x : A} → Just (f y) mid x rest → P.fits x → Q.fits y
      fits_down just g = down _ g

-- behind the last item
pub made_found : {T A B : Type 0} {P : Part T A} (R : Part T A) {Q : Part T B} {f : B → A} {ts mid rest : List T} {b : B}
    → Carries P ts (left R (Made Q f)) mid → Binds Q (λ b. Just (f b)) (left R (Made Q f)) → Found Q mid b rest → R.stops (f b) (next_of rest) → R.fits (f b) → Found P ts (f b) rest
made_found R {f = f} {rest = rest} {b = b} c m q stops fits = (goes_on c m q).found _ _ (just_found R (f b) rest stops fits)

-- behind a token of J, where nothing more is to come
pub ended : {T A : Type 0} {P : Part T A} (R : Part T A) {J : T → Type 0} {x : A} {ts mid rest : List T} {t : T}
    → Carries P ts (left R (Through J (Just x))) mid → next_of mid ≡ Some t → J t → rest ≡ behind mid → R.stops x (next_of rest) → R.fits x → Found P ts x rest
ended R {J = J} {x = x} {rest = rest} {t = t} c h j k stops fits = (shift_on c (through_shifts R J (Just x) t j) h k).found _ _ (just_found R x rest stops fits)
