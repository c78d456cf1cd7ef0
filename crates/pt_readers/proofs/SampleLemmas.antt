-- What the readers of the sample lean on.
use Rattle.std.proofs.Common.{◌≡◌, ◌≢◌, ℕ, suc, ◌-◌, ◌≤◌, max, List, [], ◌∷◌, Option, Some, true, false, inl, inr, refl, sym, ap, subst, arith}
use Rattle.pt_readers.specs.declared.sample.Mark.{Mark}
use Rattle.pt_readers.specs.declared.sample.Mark.TheVariants.{One, Plus, Open, Close}
use Rattle.pt_readers.specs.Reading.{next_of, behind, Alike, Found, Refused}
use Rattle.pt_readers.specs.Sample.{Item, one, group, Sum, item, plus, NoPlus, an_item, a_sum}
use Rattle.pt_readers.proofs.Readers.{Binds, Shifts, Just, just, left, nothing_found, bad_refused}
use Rattle.pt_readers.proofs.Pieces.{Through, through}
use Rattle.pt_readers.proofs.Exits.{found_at, at_next, over_refused_at}

-- what follows a sum's first items
pub data Tail : ℕ → List Mark → ℕ → List Mark → Type 0 where
  done : {d : ℕ} {ts : List Mark} → Tail d ts d ts
  step : {d e x : ℕ} {ts mid rest : List Mark} → Item ts e mid → Tail (max d e) mid x rest → Tail d (Plus ∷ ts) x rest

-- the same behind a plus
pub data Right (d : ℕ) : List Mark → ℕ → List Mark → Type 0 where
  right : {e x : ℕ} {ts mid rest : List Mark} → Item ts e mid → Tail (max d e) mid x rest → Right d ts x rest

-- what follows an opening parenthesis
pub data Inner : List Mark → ℕ → List Mark → Type 0 where
  inner : {d : ℕ} {ts rest : List Mark} → Sum ts d (Close ∷ rest) → Inner ts (suc d) rest

tail_snoc : {d x e : ℕ} {ts mid rest : List Mark} → Tail d ts x (Plus ∷ mid) → Item mid e rest → Tail d ts (max x e) rest
tail_snoc done i = step i done
tail_snoc (step j t) i = step j (tail_snoc t i)

tail_of : {x : ℕ} {ts rest : List Mark} → Sum ts x rest → (d : ℕ) × (mid : List Mark) × Item ts d mid × Tail d mid x rest
tail_of (item i) = (_, _, i, done)
tail_of (plus s i) = let t = tail_of s in (t.0, t.1, t.2, tail_snoc t.3 i)

tail_sum : {d x : ℕ} {ts mid rest : List Mark} → Sum ts d mid → Tail d mid x rest → Sum ts x rest
tail_sum s done = s
tail_sum s (step i t) = tail_sum (plus s i) t

tail_grows : {d x : ℕ} {ts rest : List Mark} → Tail d ts x rest → d ≤ x
tail_grows done = omega arith
tail_grows (step i t) = let h = tail_grows t in omega arith

pub sum_binds : (most : ℕ) → Binds (an_item most) Tail (a_sum most)
sum_binds most = record {
  intro = λ ts y mid x rest i t. tail_sum (item i) t;
  inv = λ ts x rest s n. let t = tail_of s in (t.0, t.1, t.2, tt, t.3);
  down = λ y mid x rest t f. omega (arith, tail_grows t);
  finish = λ y f. ([], y, f, λ z. done);
  extend = λ y. ([], y, λ z. done);
}

pub plus_shifts : (most d : ℕ) → Shifts Plus (left (a_sum most) (Right d)) (left (a_sum most) (Tail d))
plus_shifts most d = record { intro = λ ts x rest k. into k; inv = λ ts x rest t n. (out t n, n); stop = λ x next n. n; up = λ x f. f; down = λ x f. f }
  where
    into : {ts rest : List Mark} {x : ℕ} → Right d ts x rest → Tail d (Plus ∷ ts) x rest
    into (right i t) = step i t

    out : {ts rest : List Mark} {x : ℕ} → Tail d (Plus ∷ ts) x rest → NoPlus (next_of rest) → Right d ts x rest
    out done n = absurd n
    out (step i t) n = right i t

pub right_binds : (most d : ℕ) → d ≤ most → Binds (an_item most) (λ e. Tail (max d e)) (left (a_sum most) (Right d))
right_binds most d h = record {
  intro = λ ts y mid x rest i t. right i t;
  inv = λ ts x rest k n. out k;
  down = λ y mid x rest t f. omega (arith, tail_grows t);
  finish = λ y f. ([], max d y, omega arith, λ z. done);
  extend = λ y. ([], max d y, λ z. done);
}
  where
    out : {ts rest : List Mark} {x : ℕ} → Right d ts x rest → (y : ℕ) × (mid : List Mark) × Item ts y mid × Unit {0} × Tail (max d y) mid x rest
    out (right i t) = (_, _, i, tt, t)

no_plus : (next : Option Mark) → next ≢ Some Plus → NoPlus next
no_plus (Some Plus) n = n refl
no_plus _ n = tt

-- no plus is next
pub tail_found : (most d : ℕ) (ts : List Mark) → next_of ts ≢ Some Plus → d ≤ most → Found (left (a_sum most) (Tail d)) ts d ts
tail_found most d ts n h = nothing_found (left (a_sum most) (Tail d)) ts d (λ more. done) (no_plus _ n) h (λ more a x' rest' t s. out a t)
  where
    out : {more rest' : List Mark} {x' : ℕ} → Alike more ts → Tail d more x' rest' → (x' ≡ d) × (rest' ≡ more)
    out a done = (refl, refl)
    out (inl e) (step i t) = absurd (n (sym e))
    out (inr e) (step i t) = cc

item_one : {ts rest : List Mark} {x : ℕ} → Item (One ∷ ts) x rest → (x ≡ 0) × (rest ≡ ts)
item_one one = (refl, refl)

pub one_found : (most : ℕ) (ts : List Mark) → next_of ts ≡ Some One → Found (an_item most) ts 0 (behind ts)
one_found most ts h = found_at (at_next ts h) record { front = One ∷ []; whole = refl; reads = λ more. one; stops = tt; fits = omega arith; only = λ more a x' rest' i s. item_one i }

pub open_shifts : (most : ℕ) → Shifts Open (left (an_item most) Inner) (an_item most)
open_shifts most = record { intro = λ ts x rest k. into k; inv = λ ts x rest i s. (out i, tt); stop = λ x next s. tt; up = λ x f. f; down = λ x f. f }
  where
    into : {ts rest : List Mark} {x : ℕ} → Inner ts x rest → Item (Open ∷ ts) x rest
    into (inner s) = group s

    out : {ts rest : List Mark} {x : ℕ} → Item (Open ∷ ts) x rest → Inner ts x rest
    out (group s) = inner s

abbrev pub IsClose : Mark → Type 0
IsClose t = t ≡ Close

pub inner_binds : (most : ℕ) → most ≢ 0 → Binds (a_sum (most - 1)) (λ d. Through IsClose (Just (suc d))) (left (an_item most) Inner)
inner_binds most h = record {
  intro = λ ts y mid x rest s e. into s e;
  inv = λ ts x rest k s. out k;
  down = λ y mid x rest e f. depth e f;
  finish = λ y f. (Close ∷ [], suc y, omega arith, λ z. through refl just);
  extend = λ y. (Close ∷ [], suc y, λ z. through refl just);
}
  where
    into : {ts mid rest : List Mark} {y x : ℕ} → Sum ts y mid → Through IsClose (Just (suc y)) mid x rest → Inner ts x rest
    into {ts} {y = y} s (through {t = t} {ts = rest} h just) = inner (subst (λ u. Sum ts y (u ∷ rest)) h s)

    out : {ts rest : List Mark} {x : ℕ} → Inner ts x rest → (y : ℕ) × (mid : List Mark) × Sum ts y mid × NoPlus (next_of mid) × Through IsClose (Just (suc y)) mid x rest
    out (inner s) = (_, _, s, tt, through refl just)

    depth : {mid rest : List Mark} {y x : ℕ} → Through IsClose (Just (suc y)) mid x rest → x ≤ most → y ≤ most - 1
    depth (through h just) f = omega arith

-- an opening parenthesis too many
pub open_over : (ts : List Mark) → next_of ts ≡ Some Open → Refused (an_item 0) true ts ts
open_over ts h = over_refused_at (an_item 0) Open ts h (λ more x' rest' i s f. deep i f) (One ∷ (Close ∷ [])) 1 (λ z. group (item one)) (One ∷ []) 0 (omega arith) (λ z. one)
  where
    deep : {more rest' : List Mark} {x' : ℕ} → Item (Open ∷ more) x' rest' → x' ≤ 0 → ⊥
    deep (group s) f = omega arith

abbrev pub BeginsItem : Option Mark → Type 0
BeginsItem (Some One) = Unit {0}
BeginsItem (Some Open) = Unit {0}
BeginsItem _ = ⊥

item_begins : {ts rest : List Mark} {x : ℕ} → Item ts x rest → BeginsItem (next_of ts)
item_begins one = tt
item_begins (group s) = tt

-- no item begins so
pub item_bad : (most : ℕ) (ts : List Mark) → (BeginsItem (next_of ts) → ⊥) → Refused (an_item most) false ts ts
item_bad most ts n = bad_refused (an_item most) ts (λ more a x' rest' i s. out a (item_begins i)) (One ∷ []) 0 (omega arith) (λ z. one)
  where
    out : {more : List Mark} → Alike more ts → BeginsItem (next_of more) → ⊥
    out (inl e) b = n (subst BeginsItem e b)
    out (inr e) b = subst BeginsItem (ap next_of e) b

pub not_begun : (mark : Mark) → mark ≢ One → mark ≢ Open → BeginsItem (Some mark) → ⊥
not_begun One n m b = n refl
not_begun Open n m b = m refl
not_begun _ n m b = b
