-- The first name that is a given one stands at its number where names are different, and so does the last one.
use Rattle.std.proofs.Common.{◌≡◌, ◌∙◌, ℕ, ◌<◌, ◌≤◌, zero, suc, Bool, true, false, cond, List, [], ◌∷◌, ◌++◌, length, drop, Option, Some, None, refl, sym, ap, arith}
use Rattle.std.specs.Prelude.{nat_lt, reverse, slice_get, slice_set, slice_index_or, if◌then◌else◌}
use Rattle.std.specs.List.{IsDistinct, AllByRecursion}
use Rattle.std.specs.Map.{lookup}
use Rattle.std.specs.Str.{bytes_eq}
use Rattle.std.proofs.lemmas.Bool.{false≢true}
use Rattle.std.proofs.lemmas.Bool.Decides.{nat_tests}
use Rattle.std.proofs.lemmas.List.{reverse-append}
use Rattle.std.proofs.lemmas.Slice.Eq.{bytes_eq-Decides}
use Rattle.indexmap.specs.IndexMap.{insert_entry}
use Rattle.pt_tree.specs.Syntax.{Name}
use Rattle.sem_control.specs.control.Turn as T
use Rattle.pt_names.specs.Names.{Named}
use Rattle.pt_host.specs.World.{CodeFacts}
use Rattle.pt_host.specs.Variables.{number_in}
use Rattle.sem_rows.specs.heap_rows.Views.{names_in, paired}
use Rattle.pt_heap.specs.declared.value.Value.{Value}
use Rattle.sem_rows.specs.variables.Numbers.{HasCells, LocalsStand, CellsStand, cell_name}

same : (x : Name) → bytes_eq x x ≡ true
same x = (bytes_eq-Decides x x).1 refl

turned : (x y : Name) → bytes_eq x y ≡ false → bytes_eq y x ≡ false
turned x y e = by (bytes_eq y x) refl
  where
    by : (b : Bool) → bytes_eq y x ≡ b → b ≡ false
    by false h = refl
    by true h = absurd (false≢true (sym e ∙ (bytes_eq-Decides x y).1 (sym ((bytes_eq-Decides y x).0 h))))

-- a name is none of those that are different from it
apart : (x : Name) (xs : List Name) (n : ℕ) → AllByRecursion (λ y. bytes_eq x y ≡ false) xs → n < length xs → bytes_eq (slice_index_or xs n []) x ≡ false
apart x [] n all h = absurd (omega arith)
apart x (y ∷ xs) zero all h = turned x y all.0
apart x (y ∷ xs) (suc n) all h = apart x xs n all.1 (omega arith)

module _ {A : Type 0} (ns : List (Name × A)) where
  pub read_at : (xs : List Name) (vs : List A) (n : ℕ) → IsDistinct bytes_eq xs → n < length xs → length xs ≤ length vs
      → lookup (bytes_eq (slice_index_or xs n [])) (paired xs vs ++ ns) ≡ slice_get vs n
  unfolding IsDistinct
  read_at [] vs n d h l = absurd (omega arith)
  read_at (x ∷ xs) [] n d h l = absurd (omega (arith, l))
  read_at (x ∷ xs) (v ∷ vs) zero d h l = ap (λ b. cond b (Some v) (lookup (bytes_eq x) (paired xs vs ++ ns))) (same x)
  read_at (x ∷ xs) (v ∷ vs) (suc n) d h l =
      ap (λ b. cond b (Some v) (lookup (bytes_eq (slice_index_or xs n [])) (paired xs vs ++ ns))) (apart x xs n d.0 (omega arith))
      ∙ read_at xs vs n d.1 (omega arith) (omega (arith, l))

  pub written_at : (xs : List Name) (vs : List A) (n : ℕ) (w : A) → IsDistinct bytes_eq xs → n < length xs → length xs ≤ length vs
      → insert_entry bytes_eq (paired xs vs ++ ns) (slice_index_or xs n []) w ≡ paired xs (slice_set vs n w) ++ ns
  unfolding IsDistinct
  written_at [] vs n w d h l = absurd (omega arith)
  written_at (x ∷ xs) [] n w d h l = absurd (omega (arith, l))
  written_at (x ∷ xs) (v ∷ vs) zero w d h l = ap (λ b. cond b ((x, w) ∷ (paired xs vs ++ ns)) ((x, v) ∷ insert_entry bytes_eq (paired xs vs ++ ns) x w)) (same x)
  written_at (x ∷ xs) (v ∷ vs) (suc n) w d h l =
      ap (λ b. cond b ((x, w) ∷ (paired xs vs ++ ns)) ((x, v) ∷ insert_entry bytes_eq (paired xs vs ++ ns) (slice_index_or xs n []) w)) (apart x xs n d.0 (omega arith))
      ∙ ap (λ es. (x, v) ∷ es) (written_at xs vs n w d.1 (omega arith) (omega (arith, l)))

-- names before others stand at their numbers, too
before : (xs ys : List Name) (n : ℕ) → n < length xs → slice_index_or (xs ++ ys) n [] ≡ slice_index_or xs n []
before [] ys n h = absurd (omega arith)
before (x ∷ xs) ys zero h = refl
before (x ∷ xs) ys (suc n) h = before xs ys n (omega (arith, h))

module _ {A : Type 0} where
  parted : (xs ys : List Name) (vs : List A) → length xs ≤ length vs → paired (xs ++ ys) vs ≡ paired xs vs ++ paired ys (drop (length xs) vs)
  parted [] ys vs l = refl
  parted (x ∷ xs) ys [] l = absurd (omega (arith, l))
  parted (x ∷ xs) ys (v ∷ vs) l = ap (λ es. (x, v) ∷ es) (parted xs ys vs (omega (arith, l)))

  parted_set : (xs ys : List Name) (vs : List A) (n : ℕ) (w : A) → n < length xs → length xs ≤ length vs
      → paired (xs ++ ys) (slice_set vs n w) ≡ paired xs (slice_set vs n w) ++ paired ys (drop (length xs) vs)
  parted_set [] ys vs n w h l = absurd (omega arith)
  parted_set (x ∷ xs) ys [] n w h l = absurd (omega (arith, l))
  parted_set (x ∷ xs) ys (v ∷ vs) zero w h l = ap (λ es. (x, w) ∷ es) (parted xs ys vs (omega (arith, l)))
  parted_set (x ∷ xs) ys (v ∷ vs) (suc n) w h l = ap (λ es. (x, v) ∷ es) (parted_set xs ys vs n w (omega (arith, h)) (omega (arith, l)))

  -- the last name that is a given one is found first from behind
  turned_over : (e : Name × A) (es : List (Name × A)) → reverse (e ∷ es) ≡ reverse es ++ e ∷ []
  turned_over e es = reverse-append (e ∷ []) es

  module _ (p : Name → Bool) where
    found_before : (es fs : List (Name × A)) (w : A) → lookup p es ≡ Some w → lookup p (es ++ fs) ≡ Some w
    found_before [] fs w e = absurd (cc)
    found_before (x ∷ es) fs w e = by (p x.0) e (found_before es fs w)
      where
        by : (b : Bool) → cond b (Some x.1) (lookup p es) ≡ Some w → (lookup p es ≡ Some w → lookup p (es ++ fs) ≡ Some w)
            → cond b (Some x.1) (lookup p (es ++ fs)) ≡ Some w
        by true h later = h
        by false h later = later h

    found_behind : (es : List (Name × A)) (f : Name × A) → lookup p es ≡ None → lookup p (es ++ f ∷ []) ≡ cond (p f.0) (Some f.1) None
    found_behind [] f e = refl
    found_behind (x ∷ es) f e = by (p x.0) e (found_behind es f)
      where
        by : (b : Bool) → cond b (Some x.1) (lookup p es) ≡ None → (lookup p es ≡ None → lookup p (es ++ f ∷ []) ≡ cond (p f.0) (Some f.1) None)
            → cond b (Some x.1) (lookup p (es ++ f ∷ [])) ≡ cond (p f.0) (Some f.1) None
        by true h later = absurd (cc)
        by false h later = later h

  none_is : (x : Name) (xs : List Name) (vs : List A) → AllByRecursion (λ y. bytes_eq x y ≡ false) xs → lookup (bytes_eq x) (reverse (paired xs vs)) ≡ None
  none_is x [] vs all = refl
  none_is x (y ∷ ys) [] all = refl
  none_is x (y ∷ ys) (v ∷ vs) all =
      ap (λ es. lookup (bytes_eq x) es) (turned_over (y, v) (paired ys vs))
      ∙ (found_behind (bytes_eq x) (reverse (paired ys vs)) (y, v) (none_is x ys vs all.1)
      ∙ ap (λ b. cond b (Some v) None) all.0)

  there : (vs : List A) (n : ℕ) → n < length vs → (w : A) × (slice_get vs n ≡ Some w)
  there [] n h = absurd (omega arith)
  there (v ∷ vs) zero h = (v, refl)
  there (v ∷ vs) (suc n) h = there vs n (omega (arith, h))

  -- it is found behind another one
  still_last : (x y : Name) (v : A) (xs : List Name) (vs : List A) (n : ℕ) → n < length vs
      → lookup (bytes_eq y) (reverse (paired xs vs)) ≡ slice_get vs n → lookup (bytes_eq y) (reverse (paired (x ∷ xs) (v ∷ vs))) ≡ slice_get vs n
  still_last x y v xs vs n h e =
      ap (λ es. lookup (bytes_eq y) es) (turned_over (x, v) (paired xs vs))
      ∙ (found_before (bytes_eq y) (reverse (paired xs vs)) ((x, v) ∷ []) (there vs n h).0 (e ∙ (there vs n h).1) ∙ sym (there vs n h).1)

  last_at : (ys : List Name) (vs : List A) (n : ℕ) → IsDistinct bytes_eq ys → n < length ys → length ys ≤ length vs
      → lookup (bytes_eq (slice_index_or ys n [])) (reverse (paired ys vs)) ≡ slice_get vs n
  unfolding IsDistinct
  last_at [] vs n d h l = absurd (omega arith)
  last_at (y ∷ ys) [] n d h l = absurd (omega (arith, l))
  last_at (y ∷ ys) (v ∷ vs) zero d h l =
      ap (λ es. lookup (bytes_eq y) es) (turned_over (y, v) (paired ys vs))
      ∙ (found_behind (bytes_eq y) (reverse (paired ys vs)) (y, v) (none_is y ys vs d.0)
      ∙ ap (λ b. cond b (Some v) None) (same y))
  last_at (y ∷ ys) (v ∷ vs) (suc n) d h l =
      still_last y (slice_index_or ys n []) v ys vs n (omega (arith, h, l)) (last_at ys vs n d.1 (omega (arith, h)) (omega (arith, l)))

  last_behind : (xs ys : List Name) (vs : List A) (n : ℕ) → IsDistinct bytes_eq ys → length xs ≤ n → n < length (xs ++ ys) → length (xs ++ ys) ≤ length vs
      → lookup (bytes_eq (slice_index_or (xs ++ ys) n [])) (reverse (paired (xs ++ ys) vs)) ≡ slice_get vs n
  last_behind [] ys vs n d m h l = last_at ys vs n d h l
  last_behind (x ∷ xs) ys vs zero d m h l = absurd (omega (arith, m))
  last_behind (x ∷ xs) ys [] (suc n) d m h l = absurd (omega (arith, l))
  last_behind (x ∷ xs) ys (v ∷ vs) (suc n) d m h l =
      still_last x (slice_index_or (xs ++ ys) n []) v (xs ++ ys) vs n (omega (arith, h, l))
      (last_behind xs ys vs n d (omega (arith, m)) (omega (arith, h)) (omega (arith, l)))

is_below : (n m : ℕ) → nat_lt n m ≡ true → n < m
is_below n m h = grind (arith, nat_tests)

isnt_below : (n m : ℕ) → nat_lt n m ≡ false → m ≤ n
isnt_below n m h = grind (arith, nat_tests)

parts_fit : (xs ys : List Name) (k : ℕ) → length (xs ++ ys) ≤ k → length xs ≤ k
parts_fit [] ys k h = omega arith
parts_fit (x ∷ xs) ys zero h = absurd (omega (arith, h))
parts_fit (x ∷ xs) ys (suc k) h = let l : length xs ≤ k = parts_fit xs ys k (omega (arith, h)) in omega (arith, l)

module _ (facts : CodeFacts) (locals : List (Option Value)) (cells : List ℕ) (of_class : Named) (n : ℕ) (has : HasCells facts cells) where
  fit : length facts.cells ≤ length cells
  fit = parts_fit facts.cells facts.frees (length cells) has.count

  cell_read : (b : Bool) → nat_lt n (length facts.cells) ≡ b → n < length (facts.cells ++ facts.frees)
      → number_in (if b then T.cell else T.free) (cell_name facts n) (names_in facts locals cells of_class) ≡ slice_get cells n
  cell_read true e h =
      ap (λ y. lookup (bytes_eq y) (paired (facts.cells ++ facts.frees) cells)) (before facts.cells facts.frees n (is_below _ _ e))
      ∙ (ap (λ es. lookup (bytes_eq (slice_index_or facts.cells n [])) es) (parted facts.cells facts.frees cells fit)
      ∙ read_at (paired facts.frees (drop (length facts.cells) cells)) facts.cells cells n has.are_different.0 (is_below _ _ e) fit)
  cell_read false e h = last_behind facts.cells facts.frees cells n has.are_different.1 (isnt_below _ _ e) h has.count

  cell_written : n < length facts.cells → (c : ℕ)
      → insert_entry bytes_eq (names_in facts locals cells of_class).cells (cell_name facts n) c ≡ (names_in facts locals (slice_set cells n c) of_class).cells
  cell_written h c =
      ap (λ y. insert_entry bytes_eq (paired (facts.cells ++ facts.frees) cells) y c) (before facts.cells facts.frees n h)
      ∙ (ap (λ es. insert_entry bytes_eq es (slice_index_or facts.cells n []) c) (parted facts.cells facts.frees cells fit)
      ∙ (written_at (paired facts.frees (drop (length facts.cells) cells)) facts.cells cells n c has.are_different.0 h fit
      ∙ sym (parted_set facts.cells facts.frees cells n c h fit)))

pub locals_stand : LocalsStand
locals_stand facts locals cells of_class n has h = record {
  read = read_at of_class facts.locals locals n has.are_different h has.count;
  written = λ v. written_at of_class facts.locals locals n v has.are_different h has.count;
}

pub cells_stand : CellsStand
cells_stand facts locals cells of_class n has h = record {
  read = cell_read facts locals cells of_class n has (nat_lt n (length facts.cells)) refl h;
  written = cell_written facts locals cells of_class n has;
}
