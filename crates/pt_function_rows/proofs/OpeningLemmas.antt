-- What the names of a block begin with, by number and by name.
use Rattle.std.proofs.Common.{◌≡◌, ◌∙◌, ◌+◌, ◌<◌, ◌≤◌, ℕ, suc, Bool, true, false, cond, List, [], ◌∷◌, ◌++◌, length, drop, get_or, map, Option, Some, None, refl, sym, ap, append_assoc, add-one, length-append}
use Rattle.std.proofs.Math.Seq.{drop-cons}
use Rattle.std.specs.Map.{lookup}
use Rattle.pt_tree.specs.Syntax.{Name}
use Rattle.pt_heap.specs.declared.value.Value.{Value}
use Rattle.pt_heap.specs.declared.object.Function.{Function}
use Rattle.pt_moves.specs.sem_rows.pt_host.World.{World}
use Rattle.pt_moves.specs.sem_rows.pt_host.Calls.{cells_from, cells_along, names_from, parameters_given}
use Rattle.pt_moves.specs.sem_rows.heap_rows.Views.{paired, names_in}
use Rattle.pt_code_facts.specs.declared.facts.BlockFacts.{BlockFacts}
use Rattle.pt_code_facts.specs.Facts.{facts_view}
use Rattle.pt_function_rows.specs.Openings.{parameter_value, first_value_of, first_values_of, given_cells, numbers_from}
use Rattle.pt_function_rows.proofs.ArgumentLemmas.{drop_past}

values_paired : (g : Name → Option Value) (xs : List Name) → paired xs (map g xs) ++ [] ≡ map (λ x. (x, g x)) xs
values_paired g [] = refl
values_paired g (x ∷ xs) = ap (λ l. (x, g x) ∷ l) (values_paired g xs)

along_paired : (xs : List Name) (ns : List ℕ) → paired xs ns ≡ cells_along xs ns
along_paired [] ns = refl
along_paired (x ∷ xs) [] = refl
along_paired (x ∷ xs) (n ∷ ns) = ap (λ l. (x, n) ∷ l) (along_paired xs ns)

cells_paired : (n : ℕ) (xs ys : List Name) (ns : List ℕ) → paired (xs ++ ys) (numbers_from n xs ++ ns) ≡ cells_from n xs ++ cells_along ys ns
cells_paired n [] ys ns = along_paired ys ns
cells_paired n (x ∷ xs) ys ns = ap (λ l. (x, n) ∷ l) (cells_paired (n + 1) xs ys ns)

pub names_begin : (facts : BlockFacts) (f : Function) (vs : List (Option Value)) (w : World) (values : List (Option Value)) (cells : List ℕ)
    → values ≡ first_values_of facts vs facts.locals → cells ≡ numbers_from (length w.cells) facts.cells ++ f.cells
    → names_in (facts_view facts) values cells [] ≡ names_from (facts_view facts) f (parameters_given facts.locals vs) w
names_begin facts f vs w values cells e g = λ j. record {
  values = (ap (λ l. paired facts.locals l ++ []) e ∙ values_paired (λ x. first_value_of facts vs x) facts.locals) j;
  cells = (ap (λ l. paired (facts.cells ++ facts.frees) l) g ∙ cells_paired (length w.cells) facts.cells facts.frees f.cells) j;
}

-- the value of a parameter, one after the other

none_given : (xs : List Name) → parameters_given xs [] ≡ []
none_given [] = refl
none_given (x ∷ xs) = refl

module _ (t : Name → Bool) where
  module _ (xs : List Name) (vs : List (Option Value)) (at : ℕ) where
    pub given_next : (x d : Name) (e : Option Value) → at < length xs → at < length vs → x ≡ get_or xs at d → t x ≡ false
        → lookup t (parameters_given (drop at xs) (drop at vs)) ≡ lookup t (parameters_given (drop (at + 1) xs) (drop (at + 1) vs))
    given_next x d e h k is off =
        ap (λ l. lookup t (parameters_given l (drop at vs))) (drop-cons xs at d h)
        ∙ (ap (λ l. lookup t (parameters_given (get_or xs at d ∷ drop (suc at) xs) l)) (drop-cons vs at e k)
        ∙ (ap (λ b. cond b (Some (get_or vs at e)) (lookup t (parameters_given (drop (suc at) xs) (drop (suc at) vs)))) (sym (ap t is) ∙ off)
        ∙ (λ j. lookup t (parameters_given (drop (sym (add-one at) j) xs) (drop (sym (add-one at) j) vs)))))

    pub given_found : (x d : Name) (e : Option Value) → at < length xs → at < length vs → x ≡ get_or xs at d → t x ≡ true
        → lookup t (parameters_given (drop at xs) (drop at vs)) ≡ Some (get_or vs at e)
    given_found x d e h k is on =
        ap (λ l. lookup t (parameters_given l (drop at vs))) (drop-cons xs at d h)
        ∙ (ap (λ l. lookup t (parameters_given (get_or xs at d ∷ drop (suc at) xs) l)) (drop-cons vs at e k)
        ∙ ap (λ b. cond b (Some (get_or vs at e)) (lookup t (parameters_given (drop (suc at) xs) (drop (suc at) vs)))) (sym (ap t is) ∙ on))

    pub values_end : length vs ≤ at → lookup t (parameters_given (drop at xs) (drop at vs)) ≡ None
    values_end h = ap (λ l. lookup t (parameters_given (drop at xs) l)) (drop_past vs at h) ∙ ap (λ l. lookup t l) (none_given (drop at xs))

    pub names_end : length xs ≤ at → lookup t (parameters_given (drop at xs) (drop at vs)) ≡ None
    names_end h = ap (λ l. lookup t (parameters_given l (drop at vs))) (drop_past xs at h)

-- cells, one after the other
pub numbers_next : (ns : List ℕ) (cells : List (Option Value)) (v : Option Value) (xs : List Name) (at : ℕ) (d : Name) → at < length xs
    → (ns ++ length cells ∷ []) ++ numbers_from (length (cells ++ v ∷ [])) (drop (at + 1) xs) ≡ ns ++ numbers_from (length cells) (drop at xs)
numbers_next ns cells v xs at d h =
    append_assoc ns (length cells ∷ []) (numbers_from (length (cells ++ v ∷ [])) (drop (at + 1) xs))
    ∙ ap (λ l. ns ++ l) (
    (λ j. length cells ∷ numbers_from (length-append cells (v ∷ []) j) (drop (add-one at j) xs))
    ∙ sym (ap (λ l. numbers_from (length cells) l) (drop-cons xs at d h)))

pub cells_next : (facts : BlockFacts) (vs : List (Option Value)) (cells : List (Option Value)) (v : Option Value) (xs : List Name) (at : ℕ) (d : Name) → at < length xs
    → v ≡ parameter_value facts.locals vs (get_or xs at d) → (cells ++ v ∷ []) ++ given_cells facts vs (drop (at + 1) xs) ≡ cells ++ given_cells facts vs (drop at xs)
cells_next facts vs cells v xs at d h e =
    append_assoc cells (v ∷ []) (given_cells facts vs (drop (at + 1) xs))
    ∙ ap (λ l. cells ++ l) ((λ j. e j ∷ given_cells facts vs (drop (add-one at j) xs)) ∙ sym (ap (λ l. given_cells facts vs l) (drop-cons xs at d h)))

nothing_more : {A : Type 0} (xs : List A) → xs ++ [] ≡ xs
nothing_more [] = refl
nothing_more (x ∷ xs) = ap (λ l. x ∷ l) (nothing_more xs)

pub numbers_end : (ns : List ℕ) (n : ℕ) (xs : List Name) (at : ℕ) → length xs ≤ at → ns ++ numbers_from n (drop at xs) ≡ ns
numbers_end ns n xs at h = ap (λ l. ns ++ numbers_from n l) (drop_past xs at h) ∙ nothing_more ns

pub cells_end : (facts : BlockFacts) (vs : List (Option Value)) (cells : List (Option Value)) (xs : List Name) (at : ℕ) → length xs ≤ at → cells ++ given_cells facts vs (drop at xs) ≡ cells
cells_end facts vs cells xs at h = ap (λ l. cells ++ given_cells facts vs l) (drop_past xs at h) ∙ nothing_more cells
