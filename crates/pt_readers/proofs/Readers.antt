-- Readers from readers: one after another, behind a token, at an end, and at a token that doesn't fit.
use Rattle.std.proofs.Common.{◌≡◌, List, [], ◌∷◌, ◌++◌, Option, Some, Bool, true, false, inl, refl, sym, ap, subst, append_assoc}
use Rattle.pt_readers.specs.Reading.{next_of, Part, Alike, Dead, Within, Found, Refused, Carries}

pub next_behind : {T : Type 0} (front more rest : List T) → next_of more ≡ next_of rest → next_of (front ++ more) ≡ next_of (front ++ rest)
next_behind [] more rest h = h
next_behind (t ∷ ts) more rest h = refl

pub alike_behind : {T : Type 0} (front more rest : List T) → Alike more rest → Alike (front ++ more) (front ++ rest)
alike_behind [] more rest h = h
alike_behind (t ∷ ts) more rest h = inl refl

-- a front that isn't empty looks the same whatever stands behind it
pub dead_alike : {T : Type 0} (over : Bool) (more rest : List T) → Dead over more rest → Alike more rest
dead_alike true more rest h = inl h
dead_alike false more rest h = h

pub dead_behind : {T : Type 0} (over : Bool) (front more rest : List T) → Dead over more rest → Dead over (front ++ more) (front ++ rest)
dead_behind true front more rest h = next_behind front more rest h
dead_behind false front more rest h = alike_behind front more rest h

pub alike_at : {T : Type 0} {more rest rest' : List T} → rest ≡ rest' → Alike more rest → Alike more rest'
alike_at {more = more} e h = subst (λ r. Alike more r) e h

-- what is left of a part that stops and fits as P does
abbrev pub left : {T A : Type 0} → Part T A → (List T → A → List T → Type 0) → Part T A
left P K = record { reads = K; stops = P.stops; fits = P.fits }

-- A part P that is a first part Q and then K of what that is.
pub record Binds {T B A : Type 0} (Q : Part T B) (K : B → List T → A → List T → Type 0) (P : Part T A) : Type 0 where
  pub intro : (ts : List T) (y : B) (mid : List T) (x : A) (rest : List T) → Q.reads ts y mid → K y mid x rest → P.reads ts x rest
  pub inv : (ts : List T) (x : A) (rest : List T) → P.reads ts x rest → P.stops x (next_of rest)
      → (y : B) × (mid : List T) × Q.reads ts y mid × Q.stops y (next_of mid) × K y mid x rest
  pub down : (y : B) (mid : List T) (x : A) (rest : List T) → K y mid x rest → P.fits x → Q.fits y
  pub finish : (y : B) → Q.fits y → (w : List T) × (x : A) × P.fits x × ((z : List T) → K y (w ++ z) x z)
  pub extend : (y : B) → (w : List T) × (x : A) × ((z : List T) → K y (w ++ z) x z)

module _ {T B A : Type 0} {Q : Part T B} {K : B → List T → A → List T → Type 0} {P : Part T A} (b : Binds Q K P) where
  then_only : (ts : List T) (y : B) (mid : List T) → (f : Found Q ts y mid) → (front : List T) (more rest : List T) → mid ≡ front ++ rest → Alike more rest
      → (x' : A) (rest' : List T) → P.reads ((f.front ++ front) ++ more) x' rest' → P.stops x' (next_of rest') → K y (front ++ more) x' rest'
  then_only ts y mid f front more rest w h x' rest' l s =
      let i = b.inv _ x' rest' (rw append_assoc at l) s in
      let e = f.only (front ++ more) (alike_at (sym w) (alike_behind front more rest h)) i.0 i.1 i.2 i.3 in
      subst (λ u. K u (front ++ more) x' rest') e.0 (subst (λ v. K i.0 v x' rest') e.1 i.4)

  then_found : (ts : List T) (y : B) (mid : List T) (x : A) (rest : List T) → Found Q ts y mid → Found (left P (K y)) mid x rest → Found P ts x rest
  then_found ts y mid x rest f g = record {
    front = f.front ++ g.front;
    whole = rw (f.whole, g.whole, append_assoc) refl;
    reads = λ more. rw append_assoc (b.intro _ _ _ _ _ (f.reads (g.front ++ more)) (g.reads more));
    stops = g.stops;
    fits = g.fits;
    only = λ more h x' rest' l s. g.only more h x' rest' (then_only ts y mid f g.front more rest g.whole h x' rest' l s) s;
  }

  then_refused : (over : Bool) (ts : List T) (y : B) (mid : List T) (rest : List T) → Found Q ts y mid → Refused (left P (K y)) over mid rest → Refused P over ts rest
  then_refused over ts y mid rest f g = record {
    front = f.front ++ g.front;
    whole = rw (f.whole, g.whole, append_assoc) refl;
    dead = λ more h x' rest' l s.
        g.dead more h x' rest' (then_only ts y mid f g.front more rest g.whole (dead_alike over more rest h) x' rest' l s) s;
    beyond = λ o. let v = g.beyond o in
        (v.0, v.1, v.2, v.3, λ z. rw append_assoc (b.intro _ _ _ _ _ (f.reads _) (v.4 z)));
    completion = g.completion;
    completed = g.completed;
    fits = g.fits;
    completes = λ z. rw append_assoc (b.intro _ _ _ _ _ (f.reads _) (g.completes z));
  }

  within_down : (over : Bool) (y : B) (mid : List T) (x : A) (rest : List T) → K y mid x rest → Within P.fits over x → Within Q.fits over y
  within_down true y mid x rest k w = b.down y mid x rest k w
  within_down false y mid x rest k w = tt

  -- where the first part is refused, so is the whole
  pub first_refused : (over : Bool) (ts rest : List T) → Refused Q over ts rest → Refused P over ts rest
  first_refused over ts rest f =
      let end = b.finish f.completed f.fits in
      record {
        front = f.front;
        whole = f.whole;
        dead = λ more h x' rest' l s w.
            let i = b.inv _ x' rest' l s in
            f.dead more h i.0 i.1 i.2 i.3 (within_down over i.0 i.1 x' rest' i.4 w);
        beyond = λ o.
            let v = f.beyond o in
            let e = b.extend v.3 in
            (v.0, v.1 ++ e.0, v.2, e.1, λ z. rw append_assoc (b.intro _ _ _ _ _ (v.4 (e.0 ++ z)) (e.2 z)));
        completion = f.completion ++ end.0;
        completed = end.1;
        fits = end.2;
        completes = λ z. rw append_assoc (b.intro _ _ _ _ _ (f.completes (end.0 ++ z)) (end.3 z));
      }

  -- where the first part is read, what is left decides
  pub then_carries : (ts : List T) (y : B) (mid : List T) → Found Q ts y mid → Carries P ts (left P (K y)) mid
  then_carries ts y mid f = record {
    found = λ x end g. then_found ts y mid x end f g;
    refused = λ over end g. then_refused over ts y mid end f g;
  }

-- A part P that at the token t is that token and then Q.
pub record Shifts {T A : Type 0} (t : T) (Q P : Part T A) : Type 0 where
  pub intro : (ts : List T) (x : A) (rest : List T) → Q.reads ts x rest → P.reads (t ∷ ts) x rest
  pub inv : (ts : List T) (x : A) (rest : List T) → P.reads (t ∷ ts) x rest → P.stops x (next_of rest) → Q.reads ts x rest × Q.stops x (next_of rest)
  pub stop : (x : A) (next : Option T) → Q.stops x next → P.stops x next
  pub up : (x : A) → Q.fits x → P.fits x
  pub down : (x : A) → P.fits x → Q.fits x

module _ {T A : Type 0} {t : T} {Q P : Part T A} (b : Shifts t Q P) where
  within_shift : (over : Bool) (x : A) → Within P.fits over x → Within Q.fits over x
  within_shift true x w = b.down x w
  within_shift false x w = tt

  token_found : (ts : List T) (x : A) (rest : List T) → Found Q ts x rest → Found P (t ∷ ts) x rest
  token_found ts x rest f = record {
    front = t ∷ f.front;
    whole = ap (λ u. t ∷ u) f.whole;
    reads = λ more. b.intro _ _ _ (f.reads more);
    stops = b.stop _ _ f.stops;
    fits = b.up _ f.fits;
    only = λ more h x' rest' l s. let i = b.inv _ x' rest' l s in f.only more h x' rest' i.0 i.1;
  }

  token_refused : (over : Bool) (ts rest : List T) → Refused Q over ts rest → Refused P over (t ∷ ts) rest
  token_refused over ts rest f = record {
    front = t ∷ f.front;
    whole = ap (λ u. t ∷ u) f.whole;
    dead = λ more h x' rest' l s w. let i = b.inv _ x' rest' l s in f.dead more h x' rest' i.0 i.1 (within_shift over x' w);
    beyond = λ o. let v = f.beyond o in (v.0, v.1, v.2, v.3, λ z. b.intro _ _ _ (v.4 z));
    completion = f.completion;
    completed = f.completed;
    fits = b.up _ f.fits;
    completes = λ z. b.intro _ _ _ (f.completes z);
  }

  pub token_carries : (ts : List T) → Carries P (t ∷ ts) Q ts
  token_carries ts = record { found = λ x end g. token_found ts x end g; refused = λ over end g. token_refused over ts end g }

-- A part P that where these tokens are next is Q.
pub record Narrows {T A : Type 0} (ts : List T) (Q P : Part T A) : Type 0 where
  pub into : (more : List T) (x : A) (rest : List T) → Q.reads more x rest → P.reads more x rest
  pub out : (more : List T) (x : A) (rest : List T) → Alike more ts → P.reads more x rest → P.stops x (next_of rest) → Q.reads more x rest × Q.stops x (next_of rest)
  pub stop : (x : A) (next : Option T) → Q.stops x next → P.stops x next
  pub up : (x : A) → Q.fits x → P.fits x
  pub down : (x : A) → P.fits x → Q.fits x

module _ {T A : Type 0} {ts : List T} {Q P : Part T A} (b : Narrows ts Q P) where
  within_narrow : (over : Bool) (x : A) → Within P.fits over x → Within Q.fits over x
  within_narrow true x w = b.down x w
  within_narrow false x w = tt

  narrow_found : (x : A) (end : List T) → Found Q ts x end → Found P ts x end
  narrow_found x end f = record {
    front = f.front;
    whole = f.whole;
    reads = λ more. b.into _ _ _ (f.reads more);
    stops = b.stop _ _ f.stops;
    fits = b.up _ f.fits;
    only = λ more h x' rest' l s.
        let i = b.out _ _ _ (alike_at (sym f.whole) (alike_behind f.front more end h)) l s in f.only more h x' rest' i.0 i.1;
  }

  narrow_refused : (over : Bool) (end : List T) → Refused Q over ts end → Refused P over ts end
  narrow_refused over end f = record {
    front = f.front;
    whole = f.whole;
    dead = λ more h x' rest' l s w.
        let i = b.out _ _ _ (alike_at (sym f.whole) (alike_behind f.front more end (dead_alike over more end h))) l s in
        f.dead more h x' rest' i.0 i.1 (within_narrow over x' w);
    beyond = λ o. let v = f.beyond o in (v.0, v.1, v.2, v.3, λ z. b.into _ _ _ (v.4 z));
    completion = f.completion;
    completed = f.completed;
    fits = b.up _ f.fits;
    completes = λ z. b.into _ _ _ (f.completes z);
  }

  pub narrow_carries : Carries P ts Q ts
  narrow_carries = record { found = narrow_found; refused = narrow_refused }

-- one carrying behind another
pub then_on : {T A : Type 0} {P Q R : Part T A} {ts mid rest : List T} → Carries P ts Q mid → Carries Q mid R rest → Carries P ts R rest
then_on c d = record { found = λ x end g. c.found x end (d.found x end g); refused = λ over end g. c.refused over end (d.refused over end g) }

pub carries_all : {T A : Type 0} {P : Part T A} {ts : List T} → Carries P ts P ts
carries_all = record { found = λ x end g. g; refused = λ over end g. g }

-- A part that is nothing here.
pub nothing_found : {T A : Type 0} (P : Part T A) (ts : List T) (x : A) → ((more : List T) → P.reads more x more) → P.stops x (next_of ts) → P.fits x
    → ((more : List T) → Alike more ts → (x' : A) (rest' : List T) → P.reads more x' rest' → P.stops x' (next_of rest') → (x' ≡ x) × (rest' ≡ more))
    → Found P ts x ts
nothing_found P ts x here s fits only = record { front = []; whole = refl; reads = here; stops = s; fits = fits; only = only }

-- A part that can't go on with this token.
pub bad_refused : {T A : Type 0} (P : Part T A) (ts : List T)
    → ((more : List T) → Alike more ts → (x' : A) (rest' : List T) → P.reads more x' rest' → P.stops x' (next_of rest') → ⊥)
    → (w : List T) (x : A) → P.fits x → ((z : List T) → P.reads (w ++ z) x z) → Refused P false ts ts
bad_refused P ts dead w x fits comp = record {
  front = [];
  whole = refl;
  dead = λ more h x' rest' l s o. dead more h x' rest' l s;
  beyond = λ o. cc;
  completion = w;
  completed = x;
  fits = fits;
  completes = comp;
}

-- A part that goes on with this token beyond the limits alone.
pub over_refused : {T A : Type 0} (P : Part T A) (t : T) (ts : List T)
    → ((more : List T) (x' : A) (rest' : List T) → P.reads (t ∷ more) x' rest' → P.stops x' (next_of rest') → P.fits x' → ⊥)
    → (more : List T) (y : A) → ((z : List T) → P.reads (t ∷ (more ++ z)) y z)
    → (w : List T) (x : A) → P.fits x → ((z : List T) → P.reads (w ++ z) x z) → Refused P true (t ∷ ts) (t ∷ ts)
over_refused {T} {A} P t ts dead far y far_reads w x fits comp = record {
  front = [];
  whole = refl;
  dead = λ more h. at_head more h;
  beyond = λ o. (t, far, refl, y, far_reads);
  completion = w;
  completed = x;
  fits = fits;
  completes = comp;
}
  where
    at_head : (more : List T) → next_of more ≡ Some t → (x' : A) (rest' : List T) → P.reads more x' rest' → P.stops x' (next_of rest') → P.fits x' → ⊥
    at_head [] h x' rest' l s f = cc
    at_head (u ∷ us) h x' rest' l s f = let e : u ≡ t = cc in dead us x' rest' (subst (λ v. P.reads (v ∷ us) x' rest') e l) s f

-- nothing more: the part is x
pub data Just {T A : Type 0} (x : A) : List T → A → List T → Type 0 where
  just : {rest : List T} → Just x rest x rest

just_out : {T A : Type 0} {x x' : A} {more rest' : List T} → Just x more x' rest' → (x' ≡ x) × (rest' ≡ more)
just_out just = (refl, refl)

pub just_found : {T A : Type 0} (P : Part T A) (x : A) (ts : List T) → P.stops x (next_of ts) → P.fits x → Found (left P (Just x)) ts x ts
just_found P x ts s fits = nothing_found (left P (Just x)) ts x (λ more. just) s fits (λ more h x' rest' j s'. just_out j)
