-- Rows that are found by their names, and names beside the values that they are bound to.
use Rattle.std.proofs.Common.{◌≡◌, ◌∙◌, ◌+◌, ◌<◌, ◌≤◌, ℕ, zero, suc, Bool, true, cond, List, [], ◌∷◌, length, drop, get_or, map, position, Some, None, refl, ap, arith}
use Rattle.std.specs.List.{position_from}
use Rattle.std.specs.Borrow.{Bor}
use Rattle.std.proofs.Math.Seq.{drop-cons}
use Rattle.std.proofs.lemmas.Iterator.Adapters.{position_from-zero}
use Rattle.pt_helper_objects.specs.declared.HelperKind.{HelperKind}
use Rattle.pt_helper_objects.specs.Objects.{bindings}

abbrev Rows : Type 0
Rows = List (Bor (List ℕ) × HelperKind)

abbrev names : Rows → List (List ℕ)
names rows = map (λ r. r.0.now) rows

pub from_start : (t : List ℕ → Bool) (rows : Rows) → position t (names rows) ≡ position_from t 0 (names rows)
from_start t rows = position_from-zero t (names rows)

pub found_at : (t : List ℕ → Bool) (rows : Rows) (at : ℕ) (d : Bor (List ℕ) × HelperKind) → at < length rows → t (get_or rows at d).0.now ≡ true
    → position_from t at (names (drop at rows)) ≡ Some at
found_at t rows at d h on =
    ap (λ l. position_from t at (names l)) (drop-cons rows at d h)
    ∙ ap (λ b. cond b (Some at) (position_from t (at + 1) (names (drop (suc at) rows)))) on

drop_all : (rows : Rows) (at : ℕ) → length rows ≤ at → drop at rows ≡ []
drop_all [] zero h = refl
drop_all [] (suc at) h = refl
drop_all (r ∷ rows) zero h = absurd (omega (arith, h))
drop_all (r ∷ rows) (suc at) h = drop_all rows at (omega (arith, h))

pub none_left : (t : List ℕ → Bool) (rows : Rows) (at : ℕ) → length rows ≤ at → position_from t at (names (drop at rows)) ≡ None
none_left t rows at h = ap (λ l. position_from t at (names l)) (drop_all rows at h)

-- no name is bound without a value
pub bound-to-none : (xs : List (List ℕ)) → bindings xs [] ≡ []
bound-to-none [] = refl
bound-to-none (x ∷ xs) = refl
