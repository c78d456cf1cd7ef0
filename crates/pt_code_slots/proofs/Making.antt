-- The tables of blocks, block by block.
use Rattle.std.proofs.Common.{◌≡◌, ◌⊎◌, inl, inr, ℕ, zero, suc, ◌+◌, ◌<◌, ◌≤◌, List, [], ◌∷◌, ◌++◌, length, get_or, Option, Some, None, refl, sym, ap, ◌∙◌, subst, arith, length-append, true, false}
use Rattle.std.specs.Prelude.{nat_lt, slice_get, slice_index_or}
use Rattle.std.proofs.lemmas.Bool.Decides.{nat_tests}
use Rattle.std.proofs.lemmas.Option.{same_Some, slice_get-get_or}
use Rattle.pt_code.specs.declared.CodeBlock.{CodeBlock}
use Rattle.pt_code.specs.declared.Code.{Code}
use Rattle.pt_code.specs.View.{Ins, IsView}
use Rattle.sem_fits.specs.fits.Block.{block_of}
use Rattle.sem_fits.specs.fits.Fits.{AllFit, Fits}
use Rattle.pt_place_slots.specs.declared.tables.BlockSlots.{BlockSlots}
use Rattle.pt_place_slots.specs.Tables.{IsSound, TellsSlotsOf}
use Rattle.pt_code_slots.specs.declared.blocks.CodeSlots.{CodeSlots}
use Rattle.pt_code_slots.specs.Blocks.{HasTablesBelow, TellsCode}

none_some : {X : Type 0} (x : X) → None ≡ Some x → ⊥
none_some x e = cc

module _ {X : Type 0} where
  got_below : (xs : List X) (i : ℕ) (x : X) → slice_get xs i ≡ Some x → i < length xs
  got_below [] i x e = absurd (none_some x e)
  got_below (y ∷ xs) zero x e = omega arith
  got_below (y ∷ xs) (suc i) x e = let h = got_below xs i x e in omega (arith, h)

  got_left : (xs ys : List X) (i : ℕ) (x : X) → slice_get xs i ≡ Some x → slice_get (xs ++ ys) i ≡ Some x
  got_left [] ys i x e = absurd (none_some x e)
  got_left (y ∷ xs) ys zero x e = e
  got_left (y ∷ xs) ys (suc i) x e = got_left xs ys i x e

  got_last : (xs : List X) (x : X) → slice_get (xs ++ x ∷ []) (length xs) ≡ Some x
  got_last [] x = refl
  got_last (y ∷ xs) x = got_last xs x

  got_cases : (xs : List X) (x : X) (i : ℕ) (y : X) → slice_get (xs ++ x ∷ []) i ≡ Some y → (slice_get xs i ≡ Some y) ⊎ (x ≡ y)
  got_cases [] x zero y e = inr (same_Some _ _ e)
  got_cases [] x (suc i) y e = absurd (none_some y e)
  got_cases (z ∷ xs) x zero y e = inl e
  got_cases (z ∷ xs) x (suc i) y e = got_cases xs x i y e

below_or : (a b : ℕ) → a < b + 1 → (a < b) ⊎ (a ≡ b)
below_or zero zero h = inr refl
below_or zero (suc b) h = inl (omega arith)
below_or (suc a) zero h = absurd (omega (arith, h))
below_or (suc a) (suc b) h = elim (below_or a b (omega (arith, h))) [ inl l ↦ inl (omega (arith, l)) | inr e ↦ inr (ap (λ n. suc n) e) ]

pub no_tables : (c : Code) (all : List BlockSlots) → all ≡ [] → HasTablesBelow c all 0
no_tables c all e = record {
  long = ap length e;
  sound = λ n s h. absurd (none_some s (sym (ap (λ xs. slice_get xs n) e) ∙ h));
  each = λ n b lt h. absurd (omega (arith, lt));
}

pub tables_more : (c : Code) (all all' : List BlockSlots) (at : ℕ) (b : CodeBlock) (s : BlockSlots) → HasTablesBelow c all at
    → at < length c.blocks → b ≡ get_or c.blocks at b → all' ≡ all ++ s ∷ [] → IsSound s
    → ((view : ℕ → Option Ins) → IsView b view → Fits (block_of c b view) → TellsSlotsOf (block_of c b view) s) → HasTablesBelow c all' (at + 1)
tables_more c all all' at b s so lt is e sound tells = subst (λ xs. HasTablesBelow c xs (at + 1)) (sym e) (record {
  long = length-append all (s ∷ []) ∙ (let l = so.long in let x : length all + length (s ∷ []) ≡ at + 1 = omega (arith, l) in x);
  sound = λ n t h. elim (got_cases all s n t h) [ inl x ↦ so.sound n t x | inr x ↦ subst IsSound x sound ];
  each = λ n d low h. elim (below_or n at low) [
    | inl l ↦ (let k = so.each n d l h in record { slots = k.slots; is = got_left all (s ∷ []) n k.slots k.is; tells = k.tells })
    | inr same ↦ (let block : b ≡ d = same_Some b d (ap (λ x. Some x) is ∙ (sym (slice_get-get_or c.blocks at b lt) ∙ (ap (slice_get c.blocks) (sym same) ∙ h))) in
        record {
          slots = s;
          is = ap (slice_get (all ++ s ∷ [])) (same ∙ sym so.long) ∙ got_last all s;
          tells = subst (λ x. (view : ℕ → Option Ins) → IsView x view → Fits (block_of c x view) → TellsSlotsOf (block_of c x view) s) block tells;
        })
  ];
})

pub tells_code : (c : Code) (slots : CodeSlots) (count : ℕ) → HasTablesBelow c slots.blocks.items count → length c.blocks ≤ count → AllFit c → TellsCode c slots
tells_code c slots count has le fit n b is view v =
    let lt = got_below c.blocks n b is in
    let h = has.each n b (omega (arith, lt, le)) is in
    record { tables = h.slots; is = h.is; tells = h.tells view v (fit n b is view v) }

-- what a list lends is what stands there
is_less : (a b : ℕ) → true ≡ nat_lt a b → a < b
is_less a b e = grind (arith, nat_tests)

not_less : (a b : ℕ) → false ≡ nat_lt a b → b ≤ a
not_less a b e = grind (arith, nat_tests)

pub lent : (xs : List BlockSlots) (i : ℕ) (s : BlockSlots) → true ≡ nat_lt i (length xs) → s ≡ slice_index_or xs i s → slice_get xs i ≡ Some s
lent xs i s t e = slice_get-get_or xs i s (is_less i (length xs) t) ∙ ap (λ x. Some x) (sym e)

pub not_lent : (xs : List BlockSlots) (i : ℕ) (s : BlockSlots) → false ≡ nat_lt i (length xs) → slice_get xs i ≡ Some s → ⊥
not_lent xs i s t e = let lt = got_below xs i s e in let le = not_less i (length xs) t in omega (arith, lt, le)

-- the tables of a block are one
module _ (c : Code) (slots : CodeSlots) (told : TellsCode c slots) (n : ℕ) (b : CodeBlock) (is : slice_get c.blocks n ≡ Some b)
    (view : ℕ → Option Ins) (v : IsView b view) where
  pub these_tell : (s : BlockSlots) → slice_get slots.blocks.items n ≡ Some s → TellsSlotsOf (block_of c b view) s
  these_tell s e = let t = told n b is view v in subst (TellsSlotsOf (block_of c b view)) (same_Some t.tables s (sym t.is ∙ e)) t.tells

  pub some_there : false ≡ nat_lt n (length slots.blocks.items) → ⊥
  some_there t = let h = told n b is view v in not_lent slots.blocks.items n h.tables t h.is
