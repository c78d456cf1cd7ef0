-- The names of the running block, as its facts and its activation have them.
use Rattle.std.proofs.Common.{◌≡◌, ◌∙◌, ◌+◌, ◌<◌, ◌≤◌, ℕ, zero, suc, Bool, true, false, cond, List, [], ◌∷◌, ◌++◌, length, drop, get_or, Option, Some, None, refl, sym, ap, subst, add-one, arith}
use Rattle.std.proofs.Math.Seq.{drop-cons}
use Rattle.std.proofs.lemmas.List.{reverse-append}
use Rattle.std.specs.Prelude.{◌||◌, reverse, if◌then◌else◌, slice_get}
use Rattle.std.specs.Map.{lookup}
use Rattle.std.specs.Option.{option_flatten, option_or}
use Rattle.std.specs.Str.{bytes_eq}
use Rattle.pt_tree.specs.Syntax.{Name}
use Rattle.pt_heap.specs.declared.value.Value.{Value}
use Rattle.pt_names.specs.Names.{Named, name_value}
use Rattle.pt_bind.specs.NameSets.{is_among}
use Rattle.sem_run.specs.run.Host.{Here}
use Rattle.pt_moves.specs.sem_rows.pt_host.World.{Names, World, Stores, CodeFacts, Program, class_variable}
use Rattle.pt_moves.specs.sem_rows.pt_host.Variables.{cell_number, cell_value, free_number}
use Rattle.pt_moves.specs.sem_rows.pt_host.Supers.{class_around as host_class, first_value as host_value, value_here as host_value_here}
use Rattle.pt_moves.specs.sem_rows.heap_rows.Views.{paired, names_in}
use Rattle.pt_function_rows.specs.pt_code_facts.declared.facts.BlockFacts.{BlockFacts}
use Rattle.pt_function_rows.specs.pt_code_facts.Facts.{facts_view}
use Rattle.pt_class_rows.specs.Calls.{Running, Runs}
use Rattle.pt_class_rows.specs.Supers.{class_around, first_of, first_value, in_cell, last_from, value_here}

pub past : {A : Type 0} (ys : List A) (n : ℕ) → length ys ≤ n → drop n ys ≡ []
past [] zero h = refl
past [] (suc n) h = refl
past (y ∷ ys) zero h = absurd (omega (arith, h))
past (y ∷ ys) (suc n) h = past ys n (omega (arith, h))

unpaired : {A : Type 0} (xs : List Name) → paired {A = A} xs [] ≡ []
unpaired [] = refl
unpaired (x ∷ xs) = refl

-- the names from a place on, each with what stands at its place

module _ {A : Type 0} (xs : List Name) (vs : List A) (at : ℕ) where
  pairs_on : (d : Name) (e : A) → at < length xs → at < length vs
      → paired (drop at xs) (drop at vs) ≡ (get_or xs at d, get_or vs at e) ∷ paired (drop (at + 1) xs) (drop (at + 1) vs)
  pairs_on d e h k =
      ap (λ l. paired l (drop at vs)) (drop-cons xs at d h)
      ∙ (ap (λ l. paired (get_or xs at d ∷ drop (suc at) xs) l) (drop-cons vs at e k)
      ∙ (λ j. (get_or xs at d, get_or vs at e) ∷ paired (drop (sym (add-one at) j) xs) (drop (sym (add-one at) j) vs)))

  no_values_left : length vs ≤ at → paired (drop at xs) (drop at vs) ≡ []
  no_values_left h = ap (λ l. paired (drop at xs) l) (past vs at h) ∙ unpaired (drop at xs)

  no_names_left : length xs ≤ at → paired (drop at xs) (drop at vs) ≡ []
  no_names_left h = ap (λ l. paired l (drop at vs)) (past xs at h)

module _ (x : Name) (xs : List Name) (ns : List ℕ) (at : ℕ) where
  pub number_found : (y d : Name) (e : ℕ) → at < length xs → at < length ns → y ≡ get_or xs at d → bytes_eq x y ≡ true
      → lookup (bytes_eq x) (paired (drop at xs) (drop at ns)) ≡ Some (get_or ns at e)
  number_found y d e h k is on =
      ap (λ l. lookup (bytes_eq x) l) (pairs_on xs ns at d e h k)
      ∙ ap (λ b. cond b (Some (get_or ns at e)) (lookup (bytes_eq x) (paired (drop (at + 1) xs) (drop (at + 1) ns)))) (ap (λ z. bytes_eq x z) (sym is) ∙ on)

  pub number_next : (y d : Name) (e : ℕ) → at < length xs → at < length ns → y ≡ get_or xs at d → bytes_eq x y ≡ false
      → lookup (bytes_eq x) (paired (drop at xs) (drop at ns)) ≡ lookup (bytes_eq x) (paired (drop (at + 1) xs) (drop (at + 1) ns))
  number_next y d e h k is off =
      ap (λ l. lookup (bytes_eq x) l) (pairs_on xs ns at d e h k)
      ∙ ap (λ b. cond b (Some (get_or ns at e)) (lookup (bytes_eq x) (paired (drop (at + 1) xs) (drop (at + 1) ns)))) (ap (λ z. bytes_eq x z) (sym is) ∙ off)

  pub numbers_end : length ns ≤ at → lookup (bytes_eq x) (paired (drop at xs) (drop at ns)) ≡ None
  numbers_end h = ap (λ l. lookup (bytes_eq x) l) (no_values_left xs ns at h)

  pub names_end : length xs ≤ at → lookup (bytes_eq x) (paired (drop at xs) (drop at ns)) ≡ None
  names_end h = ap (λ l. lookup (bytes_eq x) l) (no_names_left xs ns at h)

  -- the last one
  module _ (n : Option ℕ) where
    last_on : (d : Name) (e : ℕ) → at < length xs → at < length ns
        → last_from n x (drop at xs) (drop at ns) ≡ last_from (if bytes_eq x (get_or xs at d) then Some (get_or ns at e) else n) x (drop (at + 1) xs) (drop (at + 1) ns)
    last_on d e h k =
        ap (λ l. last_from n x l (drop at ns)) (drop-cons xs at d h)
        ∙ (ap (λ l. last_from n x (get_or xs at d ∷ drop (suc at) xs) l) (drop-cons ns at e k)
        ∙ (λ j. last_from (if bytes_eq x (get_or xs at d) then Some (get_or ns at e) else n) x (drop (sym (add-one at) j) xs) (drop (sym (add-one at) j) ns)))

    pub last_found : (y d : Name) (e : ℕ) → at < length xs → at < length ns → y ≡ get_or xs at d → bytes_eq x y ≡ true
        → last_from n x (drop at xs) (drop at ns) ≡ last_from (Some (get_or ns at e)) x (drop (at + 1) xs) (drop (at + 1) ns)
    last_found y d e h k is on = last_on d e h k
        ∙ ap (λ b. last_from (if b then Some (get_or ns at e) else n) x (drop (at + 1) xs) (drop (at + 1) ns)) (ap (λ z. bytes_eq x z) (sym is) ∙ on)

    pub last_next : (y d : Name) (e : ℕ) → at < length xs → at < length ns → y ≡ get_or xs at d → bytes_eq x y ≡ false
        → last_from n x (drop at xs) (drop at ns) ≡ last_from n x (drop (at + 1) xs) (drop (at + 1) ns)
    last_next y d e h k is off = last_on d e h k
        ∙ ap (λ b. last_from (if b then Some (get_or ns at e) else n) x (drop (at + 1) xs) (drop (at + 1) ns)) (ap (λ z. bytes_eq x z) (sym is) ∙ off)

    ends : (ys : List Name) → last_from n x ys [] ≡ n
    ends [] = refl
    ends (y ∷ ys) = refl

    pub last_end : length ns ≤ at → last_from n x (drop at xs) (drop at ns) ≡ n
    last_end h = ap (λ l. last_from n x (drop at xs) l) (past ns at h) ∙ ends (drop at xs)

    pub last_names_end : length xs ≤ at → last_from n x (drop at xs) (drop at ns) ≡ n
    last_names_end h = ap (λ l. last_from n x l (drop at ns)) (past xs at h)

module _ (x : Name) (xs : List Name) (vs : List (Option Value)) (own : Named) (at : ℕ) where
  pub value_found : (y d : Name) (e : Option Value) → at < length xs → at < length vs → y ≡ get_or xs at d → bytes_eq x y ≡ true
      → name_value x (paired (drop at xs) (drop at vs) ++ own) ≡ get_or vs at e
  value_found y d e h k is on =
      ap (λ l. name_value x (l ++ own)) (pairs_on xs vs at d e h k)
      ∙ ap (λ b. option_flatten (cond b (Some (get_or vs at e)) (lookup (bytes_eq x) (paired (drop (at + 1) xs) (drop (at + 1) vs) ++ own))))
      (ap (λ z. bytes_eq x z) (sym is) ∙ on)

  pub value_next : (y d : Name) (e : Option Value) → at < length xs → at < length vs → y ≡ get_or xs at d → bytes_eq x y ≡ false
      → name_value x (paired (drop at xs) (drop at vs) ++ own) ≡ name_value x (paired (drop (at + 1) xs) (drop (at + 1) vs) ++ own)
  value_next y d e h k is off =
      ap (λ l. name_value x (l ++ own)) (pairs_on xs vs at d e h k)
      ∙ ap (λ b. option_flatten (cond b (Some (get_or vs at e)) (lookup (bytes_eq x) (paired (drop (at + 1) xs) (drop (at + 1) vs) ++ own))))
      (ap (λ z. bytes_eq x z) (sym is) ∙ off)

  pub values_end : length vs ≤ at → name_value x (paired (drop at xs) (drop at vs) ++ own) ≡ name_value x own
  values_end h = ap (λ l. name_value x (l ++ own)) (no_values_left xs vs at h)

  pub value_names_end : length xs ≤ at → name_value x (paired (drop at xs) (drop at vs) ++ own) ≡ name_value x own
  value_names_end h = ap (λ l. name_value x (l ++ own)) (no_names_left xs vs at h)

-- the cell names and those behind them

none_behind : (k : ℕ) → drop {A = ℕ} k [] ≡ []
none_behind zero = refl
none_behind (suc k) = refl

no_numbers : (n : Option ℕ) (x : Name) (xs : List Name) → last_from n x xs [] ≡ n
no_numbers n x [] = refl
no_numbers n x (y ∷ ys) = refl

last_behind : (n : Option ℕ) (x : Name) (xs ys : List Name) (ns : List ℕ)
    → last_from (last_from n x xs ns) x ys (drop (length xs) ns) ≡ last_from n x (xs ++ ys) ns
last_behind n x [] ys ns = refl
last_behind n x (z ∷ xs) ys [] = ap (λ l. last_from n x ys l) (none_behind (length (z ∷ xs))) ∙ no_numbers n x ys
last_behind n x (z ∷ xs) ys (m ∷ ms) = last_behind (if bytes_eq x z then Some m else n) x xs ys ms

module _ (r : Running) (cells : List (Option Value)) where
  pub class_found : (found n : Option ℕ) (along : List ℕ) (v : Option Value) → is_among r.facts.frees class_variable ≡ true
      → found ≡ last_from None class_variable r.facts.cells r.numbers → along ≡ drop (length r.facts.cells) r.numbers
      → n ≡ last_from found class_variable r.facts.frees along → v ≡ in_cell cells n → v ≡ class_around r cells
  class_found found n along v among first behind last is =
      is
      ∙ (ap (λ k. in_cell cells k) (last
      ∙ (ap (λ k. last_from k class_variable r.facts.frees along) first
      ∙ (ap (λ l. last_from (last_from None class_variable r.facts.cells r.numbers) class_variable r.facts.frees l) behind
      ∙ last_behind None class_variable r.facts.cells r.facts.frees r.numbers)))
      ∙ ap (λ b. if b then in_cell cells (last_from None class_variable (r.facts.cells ++ r.facts.frees) r.numbers) else None) (sym among))

  pub no_class : is_among r.facts.frees class_variable ≡ false → None ≡ class_around r cells
  no_class e = ap (λ b. if b then in_cell cells (last_from None class_variable (r.facts.cells ++ r.facts.frees) r.numbers) else None) (sym e)

  pub first_parameter : (x : Name) → slice_get r.facts.params.plain 0 ≡ Some x → value_here r cells x ≡ first_value r cells
  first_parameter x e = by r.facts.params.plain e
    where
      by : (xs : List Name) → slice_get xs 0 ≡ Some x → value_here r cells x ≡ first_of r cells xs
      by [] e = absurd (cc)
      by (y ∷ ys) e = let q : y ≡ x = cc in ap (λ z. value_here r cells z) (sym q)

  pub no_parameter : slice_get r.facts.params.plain 0 ≡ None → None ≡ first_value r cells
  no_parameter e = by r.facts.params.plain e
    where
      by : (xs : List Name) → slice_get xs 0 ≡ None → None ≡ first_of r cells xs
      by [] e = refl
      by (y ∷ ys) e = absurd (cc)

-- they are the names that a host has

lookup_behind : (t : Name → Bool) (ps : List (Name × ℕ)) (x : Name) (n : ℕ) → lookup t (ps ++ (x, n) ∷ []) ≡ option_or (lookup t ps) (if t x then Some n else None)
lookup_behind t [] x n = refl
lookup_behind t (p ∷ ps) x n = by (lookup_behind t ps x n) (t p.0)
  where
    by : lookup t (ps ++ (x, n) ∷ []) ≡ option_or (lookup t ps) (if t x then Some n else None) → (b : Bool)
        → cond b (Some p.1) (lookup t (ps ++ (x, n) ∷ [])) ≡ option_or (cond b (Some p.1) (lookup t ps)) (if t x then Some n else None)
    by below true = refl
    by below false = below

or_next : (o : Option ℕ) (b : Bool) (m : ℕ) (n : Option ℕ) → option_or (option_or o (if b then Some m else None)) n ≡ option_or o (if b then Some m else n)
or_next (Some k) b m n = refl
or_next None true m n = refl
or_next None false m n = refl

last_is : (n : Option ℕ) (x : Name) (xs : List Name) (ns : List ℕ) → option_or (lookup (bytes_eq x) (reverse (paired xs ns))) n ≡ last_from n x xs ns
last_is n x [] ns = refl
last_is n x (y ∷ ys) [] = refl
last_is n x (y ∷ ys) (m ∷ ms) =
    ap (λ l. option_or (lookup (bytes_eq x) l) n) (reverse-append ((y, m) ∷ []) (paired ys ms))
    ∙ (ap (λ o. option_or o n) (lookup_behind (bytes_eq x) (reverse (paired ys ms)) y m)
    ∙ (or_next (lookup (bytes_eq x) (reverse (paired ys ms))) (bytes_eq x y) m n
    ∙ last_is (if bytes_eq x y then Some m else n) x ys ms))

or_none : (o : Option ℕ) → option_or o None ≡ o
or_none (Some n) = refl
or_none None = refl

cell_is : (o : Option ℕ) (w : World) → cell_value o w ≡ in_cell w.cells o
cell_is (Some n) w = refl
cell_is None w = refl

among_first : (x : Name) (xs ys : List Name) (ns : List ℕ) → is_among xs x ≡ true
    → lookup (bytes_eq x) (paired (xs ++ ys) ns) ≡ lookup (bytes_eq x) (paired xs ns)
among_first x [] ys ns e = absurd (cc)
among_first x (z ∷ xs) ys [] e = refl
among_first x (z ∷ xs) ys (n ∷ ns) e = by (λ f. among_first x xs ys ns f) (bytes_eq x z) e
  where
    by : (is_among xs x ≡ true → lookup (bytes_eq x) (paired (xs ++ ys) ns) ≡ lookup (bytes_eq x) (paired xs ns)) → (b : Bool) → (b || is_among xs x) ≡ true
        → cond b (Some n) (lookup (bytes_eq x) (paired (xs ++ ys) ns)) ≡ cond b (Some n) (lookup (bytes_eq x) (paired xs ns))
    by below true e = refl
    by below false e = below e

module _ (r : Running) (program : Program) (h : Here Value) (st : Stores) (runs : Runs r program h st) where
  pub class_is : host_class (program.facts h.block) st ≡ class_around r st.world.cells
  class_is =
      ap (λ (f : CodeFacts). host_class f st) runs.facts
      ∙ (ap (λ (ns : Names). if is_among r.facts.frees class_variable then cell_value (free_number class_variable ns) st.world else None) runs.names
      ∙ ap (λ o. if is_among r.facts.frees class_variable then o else None)
      (cell_is (free_number class_variable (names_in (facts_view r.facts) r.locals r.numbers r.own)) st.world
      ∙ ap (λ o. in_cell st.world.cells o)
      (sym (or_none (lookup (bytes_eq class_variable) (reverse (paired (r.facts.cells ++ r.facts.frees) r.numbers))))
      ∙ last_is None class_variable (r.facts.cells ++ r.facts.frees) r.numbers)))

  here_by : (x : Name) (b : Bool) → is_among r.facts.cells x ≡ b
      → (if b then cell_value (cell_number x (names_in (facts_view r.facts) r.locals r.numbers r.own)) st.world
      else name_value x (names_in (facts_view r.facts) r.locals r.numbers r.own).values)
      ≡ (if b then in_cell st.world.cells (lookup (bytes_eq x) (paired r.facts.cells r.numbers)) else name_value x (paired r.facts.locals r.locals ++ r.own))
  here_by x true e =
      cell_is (cell_number x (names_in (facts_view r.facts) r.locals r.numbers r.own)) st.world
      ∙ ap (λ o. in_cell st.world.cells o) (among_first x r.facts.cells r.facts.frees r.numbers e)
  here_by x false e = refl

  value_is : (x : Name) → host_value_here (facts_view r.facts) st x ≡ value_here r st.world.cells x
  value_is x =
      ap (λ (ns : Names). if is_among r.facts.cells x then cell_value (cell_number x ns) st.world else name_value x ns.values) runs.names
      ∙ here_by x (is_among r.facts.cells x) refl

  first_is : (xs : List Name) → host_value (facts_view r.facts) st xs ≡ first_of r st.world.cells xs
  first_is [] = refl
  first_is (x ∷ xs) = value_is x

  pub parameter_is : host_value (program.facts h.block) st (program.facts h.block).params.plain ≡ first_value r st.world.cells
  parameter_is = ap (λ (f : CodeFacts). host_value f st f.params.plain) runs.facts ∙ first_is r.facts.params.plain
