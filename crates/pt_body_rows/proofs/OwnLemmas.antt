-- Names that the body of a class binds itself, by their places.
use Rattle.std.proofs.Common.{◌≡◌, ◌∙◌, ◌+◌, ◌<◌, ◌≤◌, ℕ, zero, suc, Bool, true, false, cond, List, [], ◌∷◌, ◌++◌, length, drop, get_or, Option, Some, None, refl, sym, ap, add-one, arith}
use Rattle.std.proofs.Math.Seq.{drop-cons}
use Rattle.std.specs.Prelude.{if◌then◌else◌}
use Rattle.std.specs.Option.{option_flatten, option_map}
use Rattle.std.specs.Map.{lookup}
use Rattle.std.specs.Str.{bytes_eq}
use Rattle.indexmap.specs.IndexMap.{insert_entry}
use Rattle.pt_tree.specs.Syntax.{Name}
use Rattle.pt_heap.specs.declared.value.Value.{Value}
use Rattle.pt_names.specs.Names.{Named, name_value}
use Rattle.pt_name_rows.specs.pt_moves.sem_rows.heap_rows.Views.{paired}
use Rattle.pt_body_rows.specs.Bodies.{place_in, value_by, own_value, locals_with, names_with}

-- the place among those from a number on
abbrev pub place_from : {A : Type 0} → ℕ → Name → List Name → List A → Option ℕ
place_from at x xs vs = option_map (λ n. n + at) (place_in x xs vs)

same_place : (o : Option ℕ) → o ≡ option_map (λ n. n + 0) o
same_place None = refl
same_place (Some n) = ap Some (let e : n ≡ n + 0 = omega arith in e)

one_on : (at : ℕ) (o : Option ℕ) → option_map (λ n. n + at) (option_map suc o) ≡ option_map (λ n. n + (at + 1)) o
one_on at None = refl
one_on at (Some n) = ap Some (let e : suc n + at ≡ n + (at + 1) = omega arith in e)

module _ (x : Name) (xs : List Name) (vs : List (Option Value)) where
  pub place_from_first : place_in x xs vs ≡ place_from 0 x (drop 0 xs) (drop 0 vs)
  place_from_first = same_place (place_in x xs vs)

  module _ (at : ℕ) where
    on_top : (d : Name) (e : Option Value) → at < length xs → at < length vs
        → place_from at x (drop at xs) (drop at vs)
        ≡ option_map (λ n. n + at) (if bytes_eq x (get_or xs at d) then Some 0 else option_map suc (place_in x (drop (suc at) xs) (drop (suc at) vs)))
    on_top d e h k = ap (λ l. place_from at x l (drop at vs)) (drop-cons xs at d h)
        ∙ ap (λ l. place_from at x (get_or xs at d ∷ drop (suc at) xs) l) (drop-cons vs at e k)

    pub place_found : (y d : Name) → at < length xs → at < length vs → y ≡ get_or xs at d → bytes_eq x y ≡ true → place_from at x (drop at xs) (drop at vs)
        ≡ Some at
    place_found y d h k is e = on_top d None h k
        ∙ (ap (λ b. option_map (λ n. n + at) (if b then Some 0 else option_map suc (place_in x (drop (suc at) xs) (drop (suc at) vs))))
        (ap (λ z. bytes_eq x z) (sym is) ∙ e)
        ∙ ap Some (let q : 0 + at ≡ at = omega arith in q))

    pub place_next : (y d : Name) → at < length xs → at < length vs → y ≡ get_or xs at d → bytes_eq x y ≡ false
        → place_from at x (drop at xs) (drop at vs) ≡ place_from (at + 1) x (drop (at + 1) xs) (drop (at + 1) vs)
    place_next y d h k is e = on_top d None h k
        ∙ (ap (λ b. option_map (λ n. n + at) (if b then Some 0 else option_map suc (place_in x (drop (suc at) xs) (drop (suc at) vs))))
        (ap (λ z. bytes_eq x z) (sym is) ∙ e)
        ∙ (one_on at (place_in x (drop (suc at) xs) (drop (suc at) vs))
        ∙ ap (λ k. place_from (at + 1) x (drop k xs) (drop k vs)) (sym (add-one at))))

    abbrev no_values : List (Option Value)
    no_values = []

    none_left : (ys : List Name) → place_in x ys no_values ≡ None
    none_left [] = refl
    none_left (y ∷ ys) = refl

    past : {A : Type 0} (ys : List A) (n : ℕ) → length ys ≤ n → drop n ys ≡ []
    past [] zero h = refl
    past [] (suc n) h = refl
    past (y ∷ ys) zero h = absurd (omega (arith, h))
    past (y ∷ ys) (suc n) h = past ys n (omega (arith, h))

    pub no_more_places : length vs ≤ at → place_from at x (drop at xs) (drop at vs) ≡ None
    no_more_places h = ap (λ l. place_from at x (drop at xs) l) (past vs at h) ∙ ap (option_map (λ n. n + at)) (none_left (drop at xs))

    pub no_more_names : length xs ≤ at → place_from at x (drop at xs) (drop at vs) ≡ None
    no_more_names h = ap (λ l. place_from at x l (drop at vs)) (past xs at h)

-- what is read and written by a name is what is read and written at its place, or by its text
module _ (x : Name) (own : Named) where
  shifted : (v : Option Value) (o : Option ℕ) (vs : List (Option Value)) → value_by (option_map suc o) x (v ∷ vs) own ≡ value_by o x vs own
  shifted v None vs = refl
  shifted v (Some n) vs = refl

  pub own_reads : (xs : List Name) (vs : List (Option Value)) → name_value x (paired xs vs ++ own) ≡ own_value xs x vs own
  own_reads [] vs = refl
  own_reads (y ∷ ys) [] = refl
  own_reads (y ∷ ys) (v ∷ vs) = by (own_reads ys vs) (bytes_eq x y)
    where
      by : name_value x (paired ys vs ++ own) ≡ own_value ys x vs own → (b : Bool)
          → option_flatten (cond b (Some v) (lookup (bytes_eq x) (paired ys vs ++ own)))
          ≡ value_by (if b then Some 0 else option_map suc (place_in x ys vs)) x (v ∷ vs) own
      by below true = refl
      by below false = below ∙ sym (shifted v (place_in x ys vs) vs)

  pub own_writes : (w : Option Value) (xs : List Name) (vs : List (Option Value))
      → insert_entry bytes_eq (paired xs vs ++ own) x w ≡ paired xs (locals_with (place_in x xs vs) w vs) ++ names_with (place_in x xs vs) x w own
  own_writes w [] vs = refl
  own_writes w (y ∷ ys) [] = refl
  own_writes w (y ∷ ys) (v ∷ vs) = by (own_writes w ys vs) (bytes_eq x y)
    where
      pushed : (o : Option ℕ) → (y, v) ∷ (paired ys (locals_with o w vs) ++ names_with o x w own)
          ≡ paired (y ∷ ys) (locals_with (option_map suc o) w (v ∷ vs)) ++ names_with (option_map suc o) x w own
      pushed None = refl
      pushed (Some n) = refl

      by : insert_entry bytes_eq (paired ys vs ++ own) x w ≡ paired ys (locals_with (place_in x ys vs) w vs) ++ names_with (place_in x ys vs) x w own
          → (b : Bool) → cond b ((y, w) ∷ (paired ys vs ++ own)) ((y, v) ∷ insert_entry bytes_eq (paired ys vs ++ own) x w)
          ≡ paired (y ∷ ys) (locals_with (if b then Some 0 else option_map suc (place_in x ys vs)) w (v ∷ vs))
          ++ names_with (if b then Some 0 else option_map suc (place_in x ys vs)) x w own
      by below true = refl
      by below false = ap (λ l. (y, v) ∷ l) below ∙ pushed (place_in x ys vs)
