-- Lists of numbers as the keys of a sorted tree.
use Rattle.std.proofs.Common.{◌≡◌, ℕ, Bool, true, false, cond, List, Option, Vec, BTreeMap, bytes_eq, refl, sym, ◌∙◌, subst, nat_cmp, is_eq}
use Rattle.std.specs.BTreeMap as tree
use Rattle.std.specs.Cmp.{eq_by_cmp_equiv}
use Rattle.std.specs.Cmp.Lexicographic.{slice_cmp, nat_list_cmp_total, nat_list_eq_equiv}
use Rattle.std.specs.Map.{lookup, IsKeyTest, AreApart, KeepsOthers}
use Rattle.std.proofs.lemmas.Map.Text.{is_eq-slice_cmp}
use Rattle.std.proofs.lemmas.Slice.Eq.{bytes_eq-Decides}
use Rattle.pt_assembler.specs.Tables.{by_items}

apart : (bs cs ks : List ℕ) → bytes_eq bs cs ≡ false → is_eq (slice_cmp nat_cmp bs ks) ≡ true → is_eq (slice_cmp nat_cmp cs ks) ≡ false
apart bs cs ks n y =
    is_eq-slice_cmp cs ks ∙ nat_list_eq_equiv.symm cs ks ∙ sym (nat_list_eq_equiv.congr bs ks cs (sym (is_eq-slice_cmp bs ks) ∙ y)) ∙ n

others : {K X : Type 0} (eq : K → K → Bool) (test : K → Bool) (old new : List (K × X)) → KeepsOthers eq test old new → (other : K → Bool)
    → IsKeyTest eq other → AreApart test other → lookup other new ≡ lookup other old
unfolding KeepsOthers
others eq test old new h = h

module _ {Z : Type 0} (bs : List ℕ) where
  pub list_updates : (m n : BTreeMap (Vec ℕ Z) ℕ) (w : Option ℕ) → tree.UpdatesBy (λ x y. slice_cmp nat_cmp x.items y.items) (λ k. slice_cmp nat_cmp bs k.items) m n w
      → (cs : List ℕ) → by_items n cs ≡ cond (bytes_eq bs cs) w (by_items m cs)
  list_updates m n w h cs = by (bytes_eq bs cs) refl
    where
      by : (b : Bool) → bytes_eq bs cs ≡ b → by_items n cs ≡ cond b w (by_items m cs)
      by true e = subst (λ l. by_items n l ≡ w) ((bytes_eq-Decides bs cs).0 e) h.1
      by false e = others _ _ _ _ h.3 _ (λ x y. (eq_by_cmp_equiv nat_list_cmp_total).congr cs x.items y.items) (λ k. apart bs cs k.items e)
