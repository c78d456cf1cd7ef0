-- A row with one name more.
use Rattle.std.proofs.Common.{◌≡◌, ℕ, zero, suc, Bool, true, false, cond, List, [], ◌∷◌, Some, refl, ap, sym, ◌∙◌, arith}
use Rattle.std.specs.Prelude.{◌&&◌, ◌||◌, ◌==◌, slice_get, slice_set, bytes_eq, String}
use Rattle.std.specs.BTreeSet.{BTreeSet, contains_text}
use Rattle.std.proofs.lemmas.Bool.Decides.{nat_tests}
use Rattle.std.proofs.Math.Bool.{or-false}
use Rattle.pt_scopes.specs.NameSets.{has_name}
use Rattle.pt_tree.specs.Syntax.{Name}

either : (old hit : Bool) → cond hit true old ≡ (old || (true && hit))
either true true = refl
either true false = refl
either false true = refl
either false false = refl

untouched : (old hit test : Bool) → test ≡ false → old ≡ (old || (test && hit))
untouched old hit test is = sym (ap (λ (t : Bool). old || (t && hit)) is ∙ or-false old)

zero-suc : (r : ℕ) → (zero == suc r) ≡ false
zero-suc r = grind (arith, nat_tests)

suc-zero : (q : ℕ) → (suc q == zero) ≡ false
suc-zero q = grind (arith, nat_tests)

suc-suc : (q r : ℕ) → (q == r) ≡ (suc q == suc r)
suc-suc q r = grind (arith, nat_tests)

pub row-added : {Y : Type 0} (rows : List (BTreeSet (String Y))) (q r : ℕ) (old new : BTreeSet (String Y)) (name x : Name) → slice_get rows q ≡ Some old
    → contains_text new x ≡ cond (bytes_eq name x) true (contains_text old x)
    → has_name (slice_get (slice_set rows q new) r) x ≡ (has_name (slice_get rows r) x || ((q == r) && bytes_eq name x))
row-added [] q r old new name x found is = absurd (cc)
row-added (row ∷ rows) zero zero old new name x found is =
    let same : old ≡ row = cc in
    is ∙ ap (λ (s : BTreeSet (String _)). cond (bytes_eq name x) true (contains_text s x)) same ∙ either (contains_text row x) (bytes_eq name x)
row-added (row ∷ rows) zero (suc r) old new name x found is = untouched (has_name (slice_get rows r) x) (bytes_eq name x) (zero == suc r) (zero-suc r)
row-added (row ∷ rows) (suc q) zero old new name x found is = untouched (contains_text row x) (bytes_eq name x) (suc q == zero) (suc-zero q)
row-added (row ∷ rows) (suc q) (suc r) old new name x found is =
    row-added rows q r old new name x found is ∙ ap (λ (t : Bool). has_name (slice_get rows r) x || (t && bytes_eq name x)) (suc-suc q r)
