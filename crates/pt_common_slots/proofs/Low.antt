-- The sizes of the places at a limit and below.
use Rattle.std.proofs.Common.{◌≡◌, ℕ, ◌+◌, ◌<◌, ◌≤◌, Bool, false, true, if◌then◌else◌, List, [], ◌∷◌, ◌++◌, length, Option, None, refl, sym, ap, ◌∙◌, subst, arith, inl, inr, length-append}
use Rattle.std.specs.Prelude.{nat_le}
use Rattle.std.proofs.Math.Seq.{get_or-append_seam}
use Rattle.std.proofs.lemmas.List.{get_or_append_left}
use Rattle.std.proofs.lemmas.Bool.{le-leb}
use Rattle.std.proofs.lemmas.Bool.Decides.{nat_tests}
use Rattle.pt_sizes.specs.Flow.{entry}
use Rattle.pt_sizes.proofs.Tables.{entry_out}
use Rattle.pt_row_joins.proofs.Ranks.{below_or}
use Rattle.pt_common_slots.specs.Joins.{low_size, AreLowSizes}

abbrev no_size : Bool → Option ℕ
no_size t = if t then None else None

none_low : (limit pc : ℕ) → low_size limit pc None ≡ None
none_low limit pc = by (nat_le pc limit)
  where
    by : (t : Bool) → no_size t ≡ None
    by true = refl
    by false = refl

module _ (limit : ℕ) (sizes low : List (Option ℕ)) (are : AreLowSizes limit sizes low) where
  pub low_here : (pc : ℕ) → pc ≤ limit → entry low pc ≡ entry sizes pc
  low_here pc le = are.each pc ∙ ap (λ t. if t then entry sizes pc else None) (le-leb pc limit le)

  pub low_behind : (pc : ℕ) → limit < pc → entry low pc ≡ None
  low_behind pc lt = are.each pc ∙ ap (λ t. if t then entry sizes pc else None) (let h : nat_le pc limit ≡ false = grind (arith, nat_tests) in h)

-- one more size
module _ (limit : ℕ) (sizes low : List (Option ℕ)) (are : AreLowSizes limit sizes low) (x : Option ℕ) where
  abbrev last : Option ℕ
  last = low_size limit (length sizes) x

  each_more : (pc : ℕ) → entry (low ++ last ∷ []) pc ≡ low_size limit pc (entry (sizes ++ x ∷ []) pc)
  each_more pc = elim (below_or pc (length sizes)) [
    | inl lt ↦ get_or_append_left low (last ∷ []) None pc (let e = are.long in omega (arith, e, lt))
        ∙ (are.each pc ∙ ap (λ o. low_size limit pc o) (sym (get_or_append_left sizes (x ∷ []) None pc lt)))
    | inr le ↦ elim (below_or (length sizes) pc) [
      | inl lt ↦ entry_out (low ++ last ∷ []) pc (let e = are.long in let l = length-append low (last ∷ []) in omega (arith, e, l, lt))
          ∙ sym (ap (λ o. low_size limit pc o) (entry_out (sizes ++ x ∷ []) pc (let l = length-append sizes (x ∷ []) in omega (arith, l, lt)))
          ∙ none_low limit pc)
      | inr ge ↦ (let e : length sizes ≡ pc = omega (arith, le, ge) in
          let f : length low ≡ pc = are.long ∙ e in
          subst (λ n. entry (low ++ last ∷ []) n ≡ last) f (get_or-append_seam low last [] None)
          ∙ ap (λ n. low_size limit n x) e
          ∙ sym (ap (λ o. low_size limit pc o) (subst (λ n. entry (sizes ++ x ∷ []) n ≡ x) e (get_or-append_seam sizes x [] None))))
    ]
  ]

  pub low_more : AreLowSizes limit (sizes ++ x ∷ []) (low ++ last ∷ [])
  low_more = record {
    long = length-append low (last ∷ []) ∙ (ap (λ n. n + 1) are.long ∙ sym (length-append sizes (x ∷ [])));
    each = λ pc. each_more pc;
  }
