-- Tools in their rows, and tools that are alike.
use Rattle.std.proofs.Common.{◌≡◌, ℕ, zero, suc, ◌<◌, ◌≤◌, List, [], ◌∷◌, length, get_or, set, refl, sym, ap, ◌∙◌, subst, arith}
use Rattle.sem_run.specs.run.Rows.{row_at, put_at}
use Rattle.sem_run.specs.run.Tools.{Tool, Tools, or_unused, with_tool}
use Rattle.pt_monitor.specs.Alike.{IsAlike, AreAlike, ToolsAlike}

module _ {V : Type 0} where
  pub row_read : (xs : List (Tool V)) (n : ℕ) (x : Tool V) → n < length xs → x ≡ get_or xs n x → or_unused (row_at n xs) ≡ x
  row_read [] n x l e = absurd (omega arith)
  row_read (y ∷ ys) zero x l e = sym e
  row_read (y ∷ ys) (suc n) x l e = row_read ys n x (omega arith) e

  put_set : (n : ℕ) (x : Tool V) (xs : List (Tool V)) → set xs n x ≡ put_at n x xs
  put_set n x [] = refl
  put_set zero x (y ∷ ys) = refl
  put_set (suc n) x (y ∷ ys) = ap (λ r. y ∷ r) (put_set n x ys)

  put_past : (n : ℕ) (x : Tool V) (xs : List (Tool V)) → length xs ≤ n → xs ≡ put_at n x xs
  put_past n x [] l = refl
  put_past zero x (y ∷ ys) l = absurd (omega arith)
  put_past (suc n) x (y ∷ ys) l = ap (λ r. y ∷ r) (put_past n x ys (omega arith))

  pub alike : (t : Tool V) → IsAlike t t
  alike t = record { name = refl; set = refl; local = λ b. refl; callbacks = λ b. refl }

  pub all_alike : (ts : List (Tool V)) → AreAlike ts ts
  all_alike ts = record { count = refl; tools = λ n. alike (or_unused (row_at n ts)) }

  length-put : (n : ℕ) (x : Tool V) (xs : List (Tool V)) → length (put_at n x xs) ≡ length xs
  length-put n x [] = refl
  length-put zero x (y ∷ ys) = refl
  length-put (suc n) x (y ∷ ys) = ap suc (length-put n x ys)

  rows_put : (n : ℕ) (t u : Tool V) (xs ys : List (Tool V)) → length xs ≡ length ys → ((m : ℕ) → IsAlike (or_unused (row_at m xs)) (or_unused (row_at m ys))) → IsAlike t u
      → (m : ℕ) → IsAlike (or_unused (row_at m (put_at n t xs))) (or_unused (row_at m (put_at n u ys)))
  rows_put n t u [] [] c f h m = f m
  rows_put n t u [] (y ∷ ys) c f h m = absurd (omega arith)
  rows_put n t u (x ∷ xs) [] c f h m = absurd (omega arith)
  rows_put zero t u (x ∷ xs) (y ∷ ys) c f h zero = h
  rows_put zero t u (x ∷ xs) (y ∷ ys) c f h (suc m) = f (suc m)
  rows_put (suc n) t u (x ∷ xs) (y ∷ ys) c f h zero = f zero
  rows_put (suc n) t u (x ∷ xs) (y ∷ ys) c f h (suc m) = rows_put n t u xs ys (omega arith) (λ k. f (suc k)) h m

  alike_put : (n : ℕ) (t u : Tool V) (xs ys : List (Tool V)) → AreAlike xs ys → IsAlike t u → AreAlike (put_at n t xs) (put_at n u ys)
  alike_put n t u xs ys h same = record {
    count = length-put n t xs ∙ h.count ∙ sym (length-put n u ys);
    tools = rows_put n t u xs ys h.count h.tools same;
  }

  -- a tool that is like another, put in its place
  alike_set : (n : ℕ) (t u : Tool V) (xs : List (Tool V)) → IsAlike t u → AreAlike (set xs n t) (put_at n u xs)
  alike_set n t u xs h = subst (λ ys. AreAlike ys (put_at n u xs)) (sym (put_set n t xs)) (alike_put n t u xs xs (all_alike xs) h)

  pub tools_alike : (ts : Tools V) → ToolsAlike ts ts
  tools_alike ts = record { tools = all_alike ts.tools; off = λ l. refl }

  pub alike_with : (n : ℕ) (t u : Tool V) (a b : Tools V) → ToolsAlike a b → IsAlike t u → ToolsAlike (with_tool n t a) (with_tool n u b)
  alike_with n t u a b h same = record { tools = alike_put n t u a.tools b.tools h.tools same; off = h.off }

  -- a write in its place, by a function of what stood there
  pub set_as : (f : Tool V → Tool V) (xs : List (Tool V)) (n : ℕ) (r t : Tool V) → n < length xs → r ≡ get_or xs n r → t ≡ f (get_or xs n r)
      → set xs n t ≡ put_at n (f (or_unused (row_at n xs))) xs
  set_as f xs n r t l is e = ap (set xs n) (e ∙ ap f (sym is ∙ sym (row_read xs n r l is))) ∙ put_set n (f (or_unused (row_at n xs))) xs

  pub alike_as : (f : Tool V → Tool V) (xs : List (Tool V)) (n : ℕ) (r t : Tool V) → n < length xs → r ≡ get_or xs n r → IsAlike t (f (get_or xs n r))
      → AreAlike (set xs n t) (put_at n (f (or_unused (row_at n xs))) xs)
  alike_as f xs n r t l is e = alike_set n t (f (or_unused (row_at n xs))) xs (subst (λ x. IsAlike t (f x)) (sym is ∙ sym (row_read xs n r l is)) e)

  -- nothing is put beyond the rows
  pub alike_past : (n : ℕ) (x : Tool V) (xs : List (Tool V)) → length xs ≤ n → AreAlike xs (put_at n x xs)
  alike_past n x xs l = subst (AreAlike xs) (put_past n x xs l) (all_alike xs)
