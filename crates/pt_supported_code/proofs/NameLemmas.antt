-- Whether names are different is told by the numbers of their texts.
use Rattle.std.proofs.Common.{◌≡◌, ◌<◌, ℕ, Bool, false, List, [], ◌∷◌, length, map, refl, sym, ap, ◌∙◌, subst}
use Rattle.std.specs.Prelude.{nat_eq, Decides}
use Rattle.std.specs.List.{IsDistinct, AllByRecursion}
use Rattle.std.specs.Str.{bytes_eq}
use Rattle.std.specs.Ordering.{nat_cmp, eq_by_cmp}
use Rattle.std.specs.Cmp.{unsigned_tied, unsigned_ties, unsigned_Decides}
use Rattle.std.specs.BTreeSet as sorted
use Rattle.std.specs.BTreeSet.{BTreeSet}
use Rattle.std.proofs.lemmas.Cmp.{nat_cmp_total, eq_by_cmp_equiv}
use Rattle.std.proofs.lemmas.Map.Made.{IsDistinct-from_count, distinct_count-from_IsDistinct}
use Rattle.std.proofs.lemmas.Map.Views.{btree_set_len-from_list}
use Rattle.pt_tree.specs.Syntax.{Name}
use Rattle.pt_instr.specs.declared.TextNo.{TextNo}
use Rattle.sem_code.specs.slots.BlockObject.{text_in}
use Rattle.pt_standing.specs.Texts.{AreIds, id_at}
use Rattle.pt_supported_code.specs.Built.{named_by}

-- what two tests tell alike
module _ {A B X : Type 0} (e : A → A → Bool) (d : B → B → Bool) (f : X → A) (g : X → B) (P : X → Type 0)
    (alike : (x y : X) → P x → P y → e (f x) (f y) ≡ d (g x) (g y)) where
  none_alike : (x : X) (ys : List X) → P x → AllByRecursion P ys → AllByRecursion (λ y. e (f x) y ≡ false) (map f ys) → AllByRecursion (λ y. d (g x) y ≡ false) (map g ys)
  none_alike x [] p ps h = tt
  none_alike x (y ∷ ys) p ps h = (sym (alike x y p ps.0) ∙ h.0, none_alike x ys p ps.1 h.1)

  distinct_alike : (xs : List X) → AllByRecursion P xs → IsDistinct e (map f xs) → IsDistinct d (map g xs)
  unfolding IsDistinct
  distinct_alike [] ps h = tt
  distinct_alike (x ∷ xs) ps h = (none_alike x xs ps.0 ps.1 h.0, distinct_alike xs ps.1 h.1)

everywhere : {X : Type 0} (xs : List X) → AllByRecursion (λ (x : X). Unit {0}) xs
everywhere [] = tt
everywhere (x ∷ xs) = (tt, everywhere xs)

map_self : (xs : List ℕ) → map (λ x. x) xs ≡ xs
map_self [] = refl
map_self (x ∷ xs) = ap (λ ys. x ∷ ys) (map_self xs)

to_eq : (xs : List ℕ) → IsDistinct (eq_by_cmp nat_cmp) xs → IsDistinct nat_eq xs
to_eq xs h =
    subst (IsDistinct nat_eq) (map_self xs)
    (distinct_alike (eq_by_cmp nat_cmp) nat_eq (λ x. x) (λ x. x) (λ x. Unit {0}) (λ x y p q. unsigned_tied x y) xs (everywhere xs)
    (subst (IsDistinct (eq_by_cmp nat_cmp)) (sym (map_self xs)) h))

of_eq : (xs : List ℕ) → IsDistinct nat_eq xs → IsDistinct (eq_by_cmp nat_cmp) xs
of_eq xs h =
    subst (IsDistinct (eq_by_cmp nat_cmp)) (map_self xs)
    (distinct_alike nat_eq (eq_by_cmp nat_cmp) (λ x. x) (λ x. x) (λ x. Unit {0}) (λ x y p q. unsigned_ties x y) xs (everywhere xs)
    (subst (IsDistinct nat_eq) (sym (map_self xs)) h))

-- a set of all numbers has as many where they are different
pub set_tells : (xs : List ℕ) (set : BTreeSet ℕ) → sorted.IsFromIterResult nat_cmp xs set → Decides (nat_eq (sorted.btree_set_len set) (length xs)) (IsDistinct nat_eq xs)
set_tells xs set made =
    let laws = eq_by_cmp_equiv nat_cmp_total in
    let count = btree_set_len-from_list nat_cmp_total xs set made in
    let same = unsigned_Decides (sorted.btree_set_len set) (length xs) in (
      (λ e. to_eq xs (IsDistinct-from_count laws xs (sym count ∙ same.0 e))),
      (λ d. same.1 (count ∙ distinct_count-from_IsDistinct laws xs (of_eq xs d))),
    )

-- names by the numbers of their texts
module _ (texts : List Name) (ids : List ℕ) (are : AreIds texts ids) (xs : List TextNo)
    (there : AllByRecursion (λ (x : TextNo). x.0 < length texts) xs) where
  pub names_tell : (different : Bool) → Decides different (IsDistinct nat_eq (map (λ (x : TextNo). id_at ids x.0) xs))
      → Decides different (IsDistinct bytes_eq (named_by texts xs))
  names_tell different d = (
    (λ e. distinct_alike nat_eq bytes_eq (λ (x : TextNo). id_at ids x.0) (λ (x : TextNo). text_in texts x.0) (λ (x : TextNo). x.0 < length texts)
        (λ x y p q. are.same x.0 y.0 p q) xs there (d.0 e)),
    (λ h. d.1 (distinct_alike bytes_eq nat_eq (λ (x : TextNo). text_in texts x.0) (λ (x : TextNo). id_at ids x.0) (λ (x : TextNo). x.0 < length texts)
        (λ x y p q. sym (are.same x.0 y.0 p q)) xs there h)),
  )
