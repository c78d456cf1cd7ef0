-- Items that are read in a row.
use Rattle.std.proofs.Common.{◌≡◌, ◌+◌, ◌-◌, ◌<◌, ℕ, suc, List, [], ◌∷◌, ◌++◌, refl, ap, arith, append_assoc}
use Rattle.std.specs.Prelude.{Result, Ok, Err, false, nat_eq}
use Rattle.std.proofs.lemmas.Bool.Decides.{nat_tests}
use Rattle.pt_code.specs.declared.parts.Bad.{Bad}
use Rattle.pt_code.specs.declared.parts.Bad.TheVariants as bad
use Rattle.pt_code.specs.declared.parts.Within.{Within}
use Rattle.pt_code.specs.Reading.{Read, Fails, items_at, with_front, instr_at, pass, ◌>>=◌}

pub fails_on : {A B : Type 0} (e : Bad) (read : Result A Bad) (f : A → Result B Bad) → Fails e read → Fails e (read >>= f)
fails_on bad.Memory read f fails = tt
fails_on bad.Short read f fails = rw fails refl
fails_on (bad.Field n) read f fails = rw fails refl
fails_on bad.Magic read f fails = rw fails refl
fails_on (bad.Version n) read f fails = rw fails refl
fails_on (bad.Trailing n) read f fails = rw fails refl

one_before : {A : Type 0} (front : List A) (x : A) (read : Read (List A)) → with_front (front ++ x ∷ []) read ≡ with_front front (read >>= λ more. Ok (x ∷ more.0, more.1))
one_before front x (Ok more) = ap (λ l. Ok (l, more.1)) (append_assoc front (x ∷ []) more.0)
one_before front x (Err e) = refl

-- one item more is read
pub one_more : {A : Type 0} (item : List ℕ → Read A) (front : List A) (count counter : ℕ) (rest behind : List ℕ) (x : A) → counter < count → item rest ≡ Ok (x, behind)
    → with_front (front ++ x ∷ []) (items_at item (count - (counter + 1)) behind) ≡ with_front front (items_at item (count - counter) rest)
one_more item front count counter rest behind x less is =
    let left : count - counter ≡ suc (count - (counter + 1)) = omega arith in
    rw (left, is) (one_before front x (items_at item (count - (counter + 1)) behind))

-- one instruction more is passed
pub passed : (within : Within) (count counter left less : ℕ) (rest behind : List ℕ) → counter < count → (left ≡ 0 → ⊥) → instr_at within left rest ≡ Ok (behind, less)
    → pass within (count - counter) left rest ≡ pass within (count - (counter + 1)) less behind
passed within count counter left less rest behind below some is =
    let more : count - counter ≡ suc (count - (counter + 1)) = omega arith in
    let not : nat_eq left 0 ≡ false = grind (arith, nat_tests) in
    rw (more, not, is) refl

-- an instruction that fails is where passing fails
pub pass_fails : (within : Within) (count counter left : ℕ) (rest : List ℕ) (e : Bad) → counter < count → (left ≡ 0 → ⊥) → Fails e (instr_at within left rest) → Fails e (pass within (count - counter) left rest)
pass_fails within count counter left rest e below some fails =
    let more : count - counter ≡ suc (count - (counter + 1)) = omega arith in
    let not : nat_eq left 0 ≡ false = grind (arith, nat_tests) in
    rw (more, not) (fails_on e (instr_at within left rest) (λ i. pass within (count - (counter + 1)) i.1 i.0) fails)

-- an item that fails is where the row fails
pub row_fails : {A : Type 0} (item : List ℕ → Read A) (front : List A) (count counter : ℕ) (rest : List ℕ) (e : Bad) → counter < count → Fails e (item rest) → Fails e (with_front front (items_at item (count - counter) rest))
row_fails {A} item front count counter rest e below fails =
    let more : count - counter ≡ suc (count - (counter + 1)) = omega arith in
    rw more (fails_on e (items_at item (suc (count - (counter + 1))) rest) (λ (m : List A × List ℕ). Ok (front ++ m.0, m.1))
    (fails_on e (item rest) (λ first. items_at item (count - (counter + 1)) first.1 >>= λ others. Ok (first.0 ∷ others.0, others.1)) fails))
