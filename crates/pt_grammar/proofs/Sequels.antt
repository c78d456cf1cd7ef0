-- Parts one after another, and parts that begin with a token.
use Rattle.std.proofs.Common.{◌≡◌, List, [], ◌∷◌, ◌++◌, Some, false, true, Bool, inl, refl, sym, ◌∙◌, ap, subst}
use Rattle.pt_readers.specs.Reading.{next_of, Part, Alike, Dead, Within, Found, Refused, Carries}
use Rattle.pt_readers.proofs.Readers.{Binds, left, Just, just, bad_refused}
use Rattle.pt_grammar.specs.Behind.{Then, Starting, starting}

-- What stands behind the Q doesn't go on with it, the limits of P are those of Q too, and what is left can be completed.
pub record Leads {T A B : Type 0} (Q : Part T B) (K : B → List T → A → List T → Type 0) (P : Part T A) : Type 0 where
  pub apart : (y : B) (mid : List T) (x : A) (rest : List T) → K y mid x rest → P.stops x (next_of rest) → Q.stops y (next_of mid)
  pub down : (y : B) (mid : List T) (x : A) (rest : List T) → K y mid x rest → P.fits x → Q.fits y
  pub word : B → List T
  pub done : B → A
  pub up : (y : B) → Q.fits y → P.fits (done y)
  pub reads : (y : B) (z : List T) → K y (word y ++ z) (done y) z

pub then_binds : {T A B : Type 0} (P : Part T A) (Q : Part T B) (K : B → List T → A → List T → Type 0) → Leads Q K P → Binds Q K (left P (Then Q.reads K))
then_binds P Q K f = record {
  intro = λ ts y mid x rest q k. (y, mid, q, k);
  inv = λ ts x rest k n. (k.0, k.1, k.2, f.apart k.0 k.1 x rest k.3 n, k.3);
  down = λ y mid x rest k g. f.down y mid x rest k g;
  finish = λ y g. (f.word y, f.done y, f.up y g, λ z. f.reads y z);
  extend = λ y. (f.word y, f.done y, λ z. f.reads y z);
}

-- nothing more is to come, and what is next may not stand there
pub just_bad : {T A : Type 0} (P : Part T A) (x : A) (ts : List T) → P.fits x → ((more : List T) → Alike more ts → P.stops x (next_of more) → ⊥) → Refused (left P (Just x)) false ts ts
just_bad {T} {A} P x ts f n = bad_refused (left P (Just x)) ts (λ more a x' rest' k s. out a k s) [] x f (λ z. just)
  where
    out : {more rest' : List T} {x' : A} → Alike more ts → Just x more x' rest' → P.stops x' (next_of rest') → ⊥
    out {more} a just s = n more a s

pub unstarting : {T A : Type 0} {J : T → Type 0} {K : List T → A → List T → Type 0} {ts rest : List T} {x : A} → Starting J K ts x rest → K ts x rest
unstarting (starting j k) = k

-- Where this token of J is next, what Q decides is decided for what begins so: it is no Q of no tokens, and a Q begins with it.
module _ {T A : Type 0} (Q : Part T A) (J : T → Type 0) (t : T) (j : J t) (ends : (x : A) → Q.reads [] x [] → Q.stops x (Some t) → ⊥)
    (word : List T) (end : List T) (done : A) (reads : Q.reads (t ∷ word) done end) (stops : Q.stops done (next_of end)) (fits : Q.fits done) where
  start : (front rest : List T) {ts : List T} → next_of ts ≡ Some t → ts ≡ front ++ rest → (front ≡ [] → ⊥) → (more : List T) {x : A} {end : List T} → Q.reads (front ++ more) x end → Starting J Q.reads (front ++ more) x end
  start [] rest h w n more q = absurd (n refl)
  start (u ∷ front) rest h w n more q = let g : Some t ≡ Some u = sym h ∙ ap next_of w in let e : t ≡ u = cc in starting (subst J e j) q

  starting_found : (ts : List T) → next_of ts ≡ Some t → (x : A) (rest : List T) → Found Q ts x rest → Found (left Q (Starting J Q.reads)) ts x rest
  starting_found ts h x rest f = record {
    front = f.front;
    whole = f.whole;
    reads = λ more. start f.front rest h f.whole (λ e. some f.front f.whole f.reads e) more (f.reads more);
    stops = f.stops;
    fits = f.fits;
    only = λ more a x' rest' k n. f.only more a x' rest' (unstarting k) n;
  }
    where
      some : (front : List T) → ts ≡ front ++ rest → ((more : List T) → Q.reads (front ++ more) x more) → front ≡ [] → ⊥
      some [] w r e = ends x (r []) (subst (λ u. Q.stops x u) h (subst (λ u. Q.stops x (next_of u)) (sym w) f.stops))
      some (u ∷ front) w r e = cc

  all_within : (over : Bool) → Within Q.fits over done
  all_within true = fits
  all_within false = tt

  same_dead : (over : Bool) (ts rest : List T) → next_of ts ≡ Some t → ts ≡ rest → Dead over (t ∷ word) rest
  same_dead true ts rest h w = sym (subst (λ u. next_of u ≡ Some t) w h)
  same_dead false ts rest h w = inl (sym (subst (λ u. next_of u ≡ Some t) w h))

  starting_refused : (ts : List T) → next_of ts ≡ Some t → (over : Bool) (rest : List T) → Refused Q over ts rest → Refused (left Q (Starting J Q.reads)) over ts rest
  starting_refused ts h over rest f = record {
    front = f.front;
    whole = f.whole;
    dead = λ more a x' rest' k n g. f.dead more a x' rest' (unstarting k) n g;
    beyond = λ o. let v = f.beyond o in (v.0, v.1, v.2, v.3, λ z. start f.front rest h f.whole (λ e. some f.front f.whole f.dead e) (v.0 ∷ (v.1 ++ z)) (v.4 z));
    completion = f.completion;
    completed = f.completed;
    fits = f.fits;
    completes = λ z. start f.front rest h f.whole (λ e. some f.front f.whole f.dead e) (f.completion ++ z) (f.completes z);
  }
    where
      some : (front : List T) → ts ≡ front ++ rest
          → ((more : List T) → Dead over more rest → (x' : A) (rest' : List T) → Q.reads (front ++ more) x' rest' → Q.stops x' (next_of rest') → Within Q.fits over x' → ⊥) → front ≡ [] → ⊥
      some [] w dead e = dead (t ∷ word) (same_dead over ts rest h w) done end reads stops (all_within over)
      some (u ∷ front) w dead e = cc

  pub starting_carries : (ts : List T) → next_of ts ≡ Some t → Carries (left Q (Starting J Q.reads)) ts Q ts
  starting_carries ts h = record { found = λ x rest f. starting_found ts h x rest f; refused = λ over rest f. starting_refused ts h over rest f }
