-- Bytes whose instructions are read one after the other.
use Rattle.std.proofs.Common.{◌≡◌, ◌≤◌, ◌<◌, ◌+◌, ◌-◌, ℕ, suc, List, [], ◌∷◌, ◌++◌, length, drop, Option, None, Some, refl, sym, ap, ◌∙◌, arith, append_assoc, length-drop, append-nil}
use Rattle.std.proofs.Math.Seq.{drop-append_seam}
use Rattle.std.proofs.lemmas.List.{drop-drop}
use Rattle.std.specs.List.{flat_map, AllByRecursion}
use Rattle.pt_instr.specs.declared.Instr.{Instr}
use Rattle.pt_instr.specs.Encoding.{code_of, spelled, encoding, Fits, StandsAt}

-- so many instructions are read, and the bytes behind them are those of the others
pub record Left (bytes : List ℕ) (all read : List Instr) (at : ℕ) : Type 0 where
  pub more : List Instr
  pub fits : AllByRecursion Fits more
  pub spelled : drop at bytes ≡ flat_map encoding more
  pub whole : read ++ more ≡ all

-- of all lists of instructions that spell the bytes
abbrev pub IsLeft : List ℕ → (read : List Instr) → (at : ℕ) → Type 0
IsLeft bytes read at = (is : List Instr) → AllByRecursion Fits is → bytes ≡ flat_map encoding is → Left bytes is read at

-- whichever instruction stands at a place, it is that one
abbrev pub IsOnly : List ℕ → (at : ℕ) → Option (Instr × ℕ) → Type 0
IsOnly bytes at o = (i : Instr) (end : ℕ) → Fits i → StandsAt bytes i at end → o ≡ Some (i, end)

pub none_read : (bytes : List ℕ) → IsLeft bytes [] 0
none_read bytes is fits spelled = record { more = is; fits = fits; spelled = spelled; whole = refl }

stands : (bytes : List ℕ) (at : ℕ) (j : Instr) (js : List Instr) → drop at bytes ≡ encoding j ++ flat_map encoding js
    → StandsAt bytes j at (at + length (encoding j))
stands bytes at j js e = (length (encoding j), (flat_map encoding js, e, refl), refl)

behind : (bytes : List ℕ) (at : ℕ) (xs ys : List ℕ) → drop at bytes ≡ xs ++ ys → drop (at + length xs) bytes ≡ ys
behind bytes at xs ys e = sym (drop-drop (length xs) at bytes) ∙ ap (drop (length xs)) e ∙ drop-append_seam xs ys

some_left : (bytes : List ℕ) (at : ℕ) → at < length bytes → drop at bytes ≡ [] → ⊥
some_left bytes at within e =
    let none : length (drop at bytes) ≡ 0 = ap length e in
    let many : length (drop at bytes) ≡ length bytes - at = length-drop at bytes in
    omega arith

none_is_some : (p : Instr × ℕ) (o : Option (Instr × ℕ)) → o ≡ None → o ≡ Some p → ⊥
none_is_some p o e f = cc

same_pair : (p q : Instr × ℕ) → Some p ≡ Some q → p ≡ q
same_pair p q e = cc

pub one_more : (bytes : List ℕ) (read : List Instr) (at end : ℕ) (i : Instr) → at < length bytes → IsLeft bytes read at
    → IsOnly bytes at (Some (i, end)) → IsLeft bytes (read ++ i ∷ []) end
one_more bytes read at end i within left only is fits spelled = let l = left is fits spelled in by_more l.more l.fits l.spelled l.whole
  where
    by_more : (more : List Instr) → AllByRecursion Fits more → drop at bytes ≡ flat_map encoding more → read ++ more ≡ is → Left bytes is (read ++ i ∷ []) end
    by_more [] f e w = absurd (some_left bytes at within e)
    by_more (j ∷ js) f e w =
        let found = only j (at + length (encoding j)) f.0 (stands bytes at j js e) in
        let same : i ≡ j = ap (λ p. p.0) (same_pair (i, end) (j, at + length (encoding j)) found) in
        let there : end ≡ at + length (encoding j) = ap (λ p. p.1) (same_pair (i, end) (j, at + length (encoding j)) found) in
        record {
          more = js;
          fits = f.1;
          spelled = rw there (behind bytes at (encoding j) (flat_map encoding js) e);
          whole = append_assoc read (i ∷ []) js ∙ ap (λ k. read ++ k ∷ js) same ∙ w;
        }

pub one_is_there : (bytes : List ℕ) (read is : List Instr) (at : ℕ) → at < length bytes → IsLeft bytes read at
    → IsOnly bytes at None → AllByRecursion Fits is → bytes ≡ flat_map encoding is → ⊥
one_is_there bytes read is at within left only fits spelled = let l = left is fits spelled in by_more l.more l.fits l.spelled
  where
    by_more : (more : List Instr) → AllByRecursion Fits more → drop at bytes ≡ flat_map encoding more → ⊥
    by_more [] f e = some_left bytes at within e
    by_more (j ∷ js) f e = none_is_some (j, at + length (encoding j)) None refl (only j (at + length (encoding j)) f.0 (stands bytes at j js e))

-- behind the last byte no instruction is left
pub all_read : (bytes : List ℕ) (read is : List Instr) (at : ℕ) → length bytes ≤ at → IsLeft bytes read at
    → AllByRecursion Fits is → bytes ≡ flat_map encoding is → read ≡ is
all_read bytes read is at past left fits are = let l = left is fits are in by_more l.more l.spelled l.whole
  where
    nothing : length (drop at bytes) ≡ 0
    nothing = omega (arith, length-drop at bytes, past)

    by_more : (more : List Instr) → drop at bytes ≡ flat_map encoding more → read ++ more ≡ is → read ≡ is
    by_more [] e w = sym (append-nil read) ∙ w
    by_more (j ∷ js) e w =
        let some : length (drop at bytes) ≡ suc (length (spelled (code_of j).operands ++ flat_map encoding js)) = ap length e in
        absurd (omega (arith, some, nothing))
