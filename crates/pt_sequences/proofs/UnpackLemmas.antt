-- Values of an unpacking, one after the other.
use Rattle.std.proofs.Common.{◌≡◌, ◌∙◌, ◌+◌, ◌*◌, ◌<◌, ◌≤◌, ℕ, zero, suc, List, [], ◌∷◌, ◌++◌, length, refl, sym, ap, arith, add-one, append_assoc}
use Rattle.std.specs.Prelude.{option_to_list}
use Rattle.std.proofs.lemmas.List.{append-nil}
use Rattle.std.proofs.Math.Nat.{mul-suc}
use Rattle.pt_heap.specs.declared.value.Value.{Value}
use Rattle.pt_heap.specs.declared.object.Range.{Range}
use Rattle.pt_sequences.specs.Ranges.{range_value}
use Rattle.pt_sequences.specs.Displays.{repeated}
use Rattle.pt_sequences.specs.Unpacking.{integers_from}

pub integers-more : (r : Range) (i n m : ℕ) → n ≡ m + 1 → integers_from r i n ≡ option_to_list (range_value r i) ++ integers_from r (i + 1) m
integers-more r i n m e = ap (integers_from r i) (e ∙ add-one m)

-- values once more
pub repeated_more : (n : ℕ) (vs : List Value) → repeated n vs ++ vs ≡ repeated (n + 1) vs
repeated_more n vs = more n ∙ ap (λ m. repeated m vs) (sym (add-one n))
  where
    more : (n : ℕ) → repeated n vs ++ vs ≡ repeated (suc n) vs
    more zero = sym (append-nil vs)
    more (suc n) = append_assoc vs (repeated n vs) vs ∙ ap (λ l. vs ++ l) (more n)

pub repeated_none : (n : ℕ) → repeated n [] ≡ []
repeated_none zero = refl
repeated_none (suc n) = repeated_none n

pub times_least : (n size : ℕ) → 0 < size → n ≤ n * size
times_least n zero h = absurd (omega arith)
times_least n (suc size) h = omega (arith, mul-suc n size)
