-- Texts so many times.
use Rattle.std.proofs.Common.{◌≡◌, ◌∙◌, ◌*◌, ◌≤◌, ℕ, ℤ, zero, suc, true, List, [], length, refl, sym, ap, arith}
use Rattle.std.specs.Str.{chars, IsUtf8}
use Rattle.std.proofs.Math.Nat.{mul-suc}
use Rattle.std.proofs.lemmas.Bool.Decides.{nat_tests}
use Rattle.std.proofs.lemmas.List.{nil_from_length}
use Rattle.std.proofs.lemmas.Str.{encodes-chars}
use Rattle.pt_strs.specs.Answer.{length_limit}
use Rattle.pt_strs.specs.Join.{copies}
use Rattle.pt_methods.specs.pt_sequences.Displays.{times}
use Rattle.pt_prims.specs.Sequences.{is_short}

pub copies_none : (n : ℕ) → copies n [] ≡ []
copies_none zero = refl
copies_none (suc n) = copies_none n

times_least : (n size : ℕ) → (size ≡ 0 → ⊥) → n ≤ n * size
times_least n zero h = absurd (h refl)
times_least n (suc size) h = omega (arith, mul-suc n size)

-- a text without characters has no bytes
no-chars : (t : List ℕ) → IsUtf8 t → length (chars t) ≡ 0 → t ≡ []
no-chars t u e = sym (encodes-chars t u) ∙ ap Rattle.std.specs.Prelude.encode_utf8_all (nil_from_length (chars t) e)

-- a text that has bytes isn't written more often than a text may have characters
pub few-times : (z : ℤ) (t : List ℕ) → IsUtf8 t → (t ≡ [] → ⊥) → is_short z t ≡ true → times z ≤ length_limit
few-times z t u some short =
    let least : times z ≤ times z * length (chars t) = times_least (times z) (length (chars t)) (λ e. some (no-chars t u e)) in
    let within : times z * length (chars t) ≤ length_limit = grind (arith, nat_tests, short) in
    omega (arith, least, within)
