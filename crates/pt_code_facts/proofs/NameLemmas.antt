-- Names by number, in the lists of a block and in its facts.
use Rattle.std.proofs.Common.{◌≡◌, ◌∙◌, ◌+◌, ◌<◌, ◌≤◌, ◌-◌, ℕ, zero, suc, Bool, true, false, List, [], ◌∷◌, ◌++◌, length, None, refl, sym, ap, arith}
use Rattle.std.specs.Prelude.{nat_lt, slice_get, slice_index_or, if◌then◌else◌}
use Rattle.std.proofs.lemmas.Bool.Decides.{nat_tests}
use Rattle.pt_tree.specs.Syntax.{Name}
use Rattle.sem_control.specs.control.Turn as T
use Rattle.pt_instr.specs.declared.TextNo.{TextNo}
use Rattle.sem_code.specs.slots.BlockObject.{text_in, name_in, variable_in}
use Rattle.sem_code.specs.slots.CodeObject.{Pool, named}
use Rattle.pt_code_facts.specs.Facts.{named_texts, FactsKnowNames}

-- past the end there is no text
no_text : (texts : List Name) → text_in texts (length texts) ≡ []
no_text [] = refl
no_text (t ∷ ts) = no_text ts

names_at : (texts : List Name) (xs : List TextNo) (n : ℕ) → name_in texts xs n ≡ slice_index_or (named_texts texts xs) n []
names_at texts [] n = no_text texts
names_at texts (x ∷ xs) zero = refl
names_at texts (x ∷ xs) (suc n) = names_at texts xs n

length_named : (texts : List Name) (xs : List TextNo) → length (named_texts texts xs) ≡ length xs
length_named texts [] = refl
length_named texts (x ∷ xs) = ap suc (length_named texts xs)

-- names of two lists, one behind the other
pub among_first : (xs ys : List Name) (n : ℕ) → n < length xs → slice_index_or (xs ++ ys) n [] ≡ slice_index_or xs n []
among_first [] ys n h = absurd (omega (arith, h))
among_first (x ∷ xs) ys zero h = refl
among_first (x ∷ xs) ys (suc n) h = among_first xs ys n (omega (arith, h))

pub among_last : (xs ys : List Name) (n m : ℕ) → n ≡ length xs + m → slice_index_or (xs ++ ys) n [] ≡ slice_index_or ys m []
among_last [] ys n m e = ap (λ k. slice_index_or ys k []) (let h : n ≡ m = omega (arith, e) in h)
among_last (x ∷ xs) ys zero m e = absurd (omega (arith, e))
among_last (x ∷ xs) ys (suc n) m e = among_last xs ys n m (omega (arith, e))

-- past the end of a list there is no name
pub missing_text : (ts : List Name) (n : ℕ) → slice_get ts n ≡ None → slice_index_or ts n [] ≡ []
missing_text [] n e = refl
missing_text (t ∷ ts) zero e = absurd (cc)
missing_text (t ∷ ts) (suc n) e = missing_text ts n e

below_from : (a b : ℕ) → nat_lt a b ≡ true → a < b
below_from a b e = grind (arith, nat_tests)

above_from : (a b : ℕ) → nat_lt a b ≡ false → b ≤ a
above_from a b e = grind (arith, nat_tests)

-- the free names are counted behind the cell names
module _ (texts : List Name) (cs fs : List TextNo) (n : ℕ) where
  by_side : (b : Bool) → nat_lt n (length cs) ≡ b
      → (if b then named T.cell (name_in texts cs n) else named T.free (name_in texts fs (n - length cs)))
      ≡ named (if b then T.cell else T.free) (slice_index_or (named_texts texts cs ++ named_texts texts fs) n [])
  by_side true e = ap (λ x. named T.cell x) (names_at texts cs n
      ∙ sym (among_first (named_texts texts cs) (named_texts texts fs) n (omega (arith, below_from n (length cs) e, length_named texts cs))))
  by_side false e = ap (λ x. named T.free x) (names_at texts fs (n - length cs)
      ∙ sym (among_last (named_texts texts cs) (named_texts texts fs) n (n - length cs) (omega (arith, above_from n (length cs) e, length_named texts cs))))

  cells_at : variable_in texts cs fs n
      ≡ named (if nat_lt n (length (named_texts texts cs)) then T.cell else T.free) (slice_index_or (named_texts texts cs ++ named_texts texts fs) n [])
  cells_at = by_side (nat_lt n (length cs)) refl
      ∙ ap (λ m. named (if nat_lt n m then T.cell else T.free) (slice_index_or (named_texts texts cs ++ named_texts texts fs) n [])) (sym (length_named texts cs))

pub facts_know_names : FactsKnowNames
facts_know_names c b object e = record {
  local = λ n. ap (λ (p : Pool). p.local n) e ∙ names_at c.texts b.locals n;
  cell = λ n. ap (λ (p : Pool). p.cell n) e ∙ cells_at c.texts b.cells b.free n;
}
