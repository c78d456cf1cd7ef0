-- Names in tables, by their places and by whether they stand there.
use Rattle.std.proofs.Common.{◌≡◌, ◌∙◌, ◌+◌, ◌<◌, ◌≤◌, ℕ, zero, suc, Bool, true, false, cond, List, [], ◌∷◌, length, drop, get_or, map, position, Option, Some, None, refl, sym, ap, add-one, arith}
use Rattle.std.specs.Prelude.{◌||◌}
use Rattle.std.specs.List.{position_from}
use Rattle.std.specs.Str.{bytes_eq}
use Rattle.std.proofs.Math.Seq.{drop-cons}
use Rattle.std.proofs.lemmas.Iterator.Adapters.{position_from-zero}
use Rattle.std.proofs.lemmas.Slice.Eq.{bytes_eq-Decides}
use Rattle.std.specs.Borrow.{Bor}
use Rattle.pt_bind.specs.NameSets.{is_among}
use Rattle.pt_builtin_objects.specs.declared.Kind.{Kind}
use Rattle.pt_tables.specs.Rows.{numbered, value_of}

abbrev Rows : Type 0
Rows = List (Bor (List ℕ) × Kind)

abbrev names : Rows → List (List ℕ)
names rows = map (λ r. r.0.now) rows

pub from_start : (t : List ℕ → Bool) (rows : Rows) → position t (names rows) ≡ position_from t 0 (names rows)
from_start t rows = position_from-zero t (names rows)

pub found_at : (t : List ℕ → Bool) (rows : Rows) (at : ℕ) (d : Bor (List ℕ) × Kind) → at < length rows → t (get_or rows at d).0.now ≡ true → position_from t at (names (drop at rows)) ≡ Some at
found_at t rows at d h on =
    ap (λ l. position_from t at (names l)) (drop-cons rows at d h)
    ∙ ap (λ b. cond b (Some at) (position_from t (at + 1) (names (drop (suc at) rows)))) on

drop_all : (rows : Rows) (at : ℕ) → length rows ≤ at → drop at rows ≡ []
drop_all [] zero h = refl
drop_all [] (suc at) h = refl
drop_all (r ∷ rows) zero h = absurd (omega (arith, h))
drop_all (r ∷ rows) (suc at) h = drop_all rows at (omega (arith, h))

pub none_left : (t : List ℕ → Bool) (rows : Rows) (at : ℕ) → length rows ≤ at → position_from t at (names (drop at rows)) ≡ None
none_left t rows at h = ap (λ l. position_from t at (names l)) (drop_all rows at h)

-- names are compared either way
turned : (x y : List ℕ) → bytes_eq x y ≡ bytes_eq y x
turned x y = by (bytes_eq x y) (bytes_eq y x) refl refl
  where
    by : (a b : Bool) → bytes_eq x y ≡ a → bytes_eq y x ≡ b → a ≡ b
    by true true e f = refl
    by false false e f = refl
    by true false e f = sym ((bytes_eq-Decides y x).1 (sym ((bytes_eq-Decides x y).0 e))) ∙ f
    by false true e f = sym e ∙ (bytes_eq-Decides x y).1 (sym ((bytes_eq-Decides y x).0 f))

pub listed : (n : ℕ) (xs : List (List ℕ)) (x : List ℕ) (v : ℕ) → value_of (numbered n xs) x ≡ Some v → is_among xs x ≡ true
listed n [] x v e = absurd (cc)
listed n (y ∷ ys) x v e = by (λ h. listed (n + 1) ys x v h) (bytes_eq y x) (turned x y) e
  where
    by : (value_of (numbered (n + 1) ys) x ≡ Some v → is_among ys x ≡ true) → (b : Bool) → bytes_eq x y ≡ b → (cond b (Some n) (value_of (numbered (n + 1) ys) x)) ≡ Some v → (bytes_eq x y || is_among ys x) ≡ true
    by next true f g = ap (λ b. b || is_among ys x) f
    by next false f g = ap (λ b. b || is_among ys x) f ∙ next g

pub unlisted : (n : ℕ) (xs : List (List ℕ)) (x : List ℕ) → value_of (numbered n xs) x ≡ None → is_among xs x ≡ false
unlisted n [] x e = refl
unlisted n (y ∷ ys) x e = by (λ h. unlisted (n + 1) ys x h) (bytes_eq y x) (turned x y) e
  where
    by : (value_of (numbered (n + 1) ys) x ≡ None → is_among ys x ≡ false) → (b : Bool) → bytes_eq x y ≡ b → ◌≡◌ {A = Option ℕ} (cond b (Some n) (value_of (numbered (n + 1) ys) x)) None → (bytes_eq x y || is_among ys x) ≡ false
    by next true f g = absurd (cc)
    by next false f g = ap (λ b. b || is_among ys x) f ∙ next g
