-- Rows among those of a block, and what is kept of lists or mapped.
use Rattle.std.proofs.Common.{◌≡◌, ℕ, ◌+◌, zero, suc, Bool, true, false, List, [], ◌∷◌, length, map, filter, Some, refl, sym, ap, subst, arith}
use Rattle.std.specs.Prelude.{cond, Contains, nat_eq}
use Rattle.std.proofs.lemmas.Bool.{false≢true}
use Rattle.std.proofs.lemmas.Option.{same_Some}
use Rattle.pt_ranges.specs.Rows.{covers}
use Rattle.pt_instr.specs.declared.Instr.{Instr}
use Rattle.pt_instr.specs.Encoding.{encoding}
use Rattle.pt_code.specs.declared.CodeBlock.{CodeBlock}
use Rattle.pt_code.specs.View.{Ins, ins_at, laid_from}
use Rattle.pt_row_joins.proofs.Lists.{none_in, some_none}

module _ {X : Type 0} (p : X → Bool) where
  pub kept : (xs : List X) (x : X) → Contains (filter p xs) x → Contains xs x × (p x ≡ true)
  kept [] x c = absurd (none_in x c)
  kept (y ∷ ys) x c = by_test (kept ys x) (p y) refl c
    where
      behind : Contains ys x → Contains (y ∷ ys) x
      behind (k, l, e) = (suc k, omega (arith, l), e)

      by_test : (Contains (filter p ys) x → Contains ys x × (p x ≡ true)) → (t : Bool) → p y ≡ t
          → Contains (cond t (y ∷ filter p ys) (filter p ys)) x
          → Contains (y ∷ ys) x × (p x ≡ true)
      by_test ih true w (zero, l, e) = ((zero, omega arith, e), subst (λ z. p z ≡ true) e w)
      by_test ih true w (suc k, l, e) = let (c, t) = ih (k, omega (arith, l), e) in (behind c, t)
      by_test ih false w c = let (d, t) = ih c in (behind d, t)

  pub keeps : (xs : List X) (x : X) → Contains xs x → p x ≡ true → Contains (filter p xs) x
  keeps [] x c t = absurd (none_in x c)
  keeps (y ∷ ys) x (zero, l, e) t = by_test (p y) (subst (λ z. p z ≡ true) (sym e) t)
    where
      by_test : (u : Bool) → u ≡ true → Contains (cond u (y ∷ filter p ys) (filter p ys)) x
      by_test true w = (zero, omega arith, e)
      by_test false w = absurd (false≢true w)
  keeps (y ∷ ys) x (suc k, l, e) t = by_test (keeps ys x (k, omega (arith, l), e) t) (p y)
    where
      by_test : Contains (filter p ys) x → (u : Bool) → Contains (cond u (y ∷ filter p ys) (filter p ys)) x
      by_test (j, m, g) true = (suc j, omega (arith, m), g)
      by_test c false = c

pub mapped : {X Y : Type 0} (f : X → Y) (xs : List X) (y : Y) → Contains (map f xs) y → (x : X) × (Contains xs x × (f x ≡ y))
mapped f [] y c = absurd (none_in y c)
mapped f (x ∷ xs) y (zero, l, e) = (x, ((zero, omega arith, refl), e))
mapped f (x ∷ xs) y (suc k, l, e) = let (z, ((j, m, g), h)) = mapped f xs y (k, omega (arith, l), e) in (z, ((suc j, omega (arith, m), g), h))

pub maps : {X Y : Type 0} (f : X → Y) (xs : List X) (x : X) → Contains xs x → Contains (map f xs) (f x)
maps f [] x c = absurd (none_in x c)
maps f (y ∷ ys) x (zero, l, e) = (zero, omega arith, ap f e)
maps f (y ∷ ys) x (suc k, l, e) = let (j, m, g) = maps f ys x (k, omega (arith, l), e) in (suc j, omega (arith, m), g)

-- the rows of an instruction as it is seen are those that cover it
pub rows_laid : (c : CodeBlock) (at : ℕ) (is : List Instr) (pc : ℕ) (i : Ins) → laid_from c at is pc ≡ Some i
    → i.rows ≡ filter (λ row. covers row (record { 0 = pc })) c.handlers
rows_laid c at [] pc i e = absurd (some_none i e)
rows_laid c at (j ∷ js) pc i e = by_place (λ f. rows_laid c (at + length (encoding j)) js pc i f) (nat_eq at pc) e
  where
    by_place : (laid_from c (at + length (encoding j)) js pc ≡ Some i → i.rows ≡ filter (λ row. covers row (record { 0 = pc })) c.handlers)
        → (t : Bool) → cond t (Some (ins_at c pc j)) (laid_from c (at + length (encoding j)) js pc) ≡ Some i
        → i.rows ≡ filter (λ row. covers row (record { 0 = pc })) c.handlers
    by_place ih true f = sym (ap (λ x. x.rows) (same_Some _ _ f))
    by_place ih false f = ih f
