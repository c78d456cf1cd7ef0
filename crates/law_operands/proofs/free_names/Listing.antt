-- A list of names begins with those that a block is said to have, in their order, and each of them once.
use Rattle.std.proofs.Common.{if◌then◌else◌, ◌≡◌, ℕ, suc, ◌<◌, Bool, true, false, List, [], ◌∷◌, ◌++◌, map, length, get_or, refl, sym, ap, ◌∙◌, subst, append_assoc, append-nil, bytes_eq}
use Rattle.std.specs.Prelude.{◌||◌}
use Rattle.std.specs.List.{AllByRecursion, list_any}
use Rattle.std.proofs.lemmas.Bool.Decides.{Decides-eqb}
use Rattle.std.proofs.lemmas.List.{map-append}
use Rattle.std.proofs.lemmas.Slice.Eq.{bytes_eq-Decides}
use Rattle.pt_tree.specs.Syntax.{Name}
use Rattle.pt_instr.specs.declared.TextNo.{TextNo}
use Rattle.sem_code.specs.slots.BlockObject.{text_in}
use Rattle.pt_assembler.specs.Tables.{Begins, is_text, kept, number_in}
use Rattle.pt_assembler.specs.Layout.{Written, number_of_text, with_text, keep_local, keep_cell, keep_free, with_local, with_cell, with_free}
use Rattle.pt_assembler.proofs.TableLemmas.{begins_get, begins_length, begins_then, bytes_same, item_kept, kept_begins, kept_item, text_same}
use Rattle.pt_assembler.proofs.Growth.{Tabled, only_then, text_only, local_only}
use Rattle.law_files.specs.sem_compile.compile.ScriptCode.{with_all}
use Rattle.law_files.proofs.sem_compile.compile.Blocks.{all_tabled, cell_tabled, free_tabled}
use Rattle.law_files.proofs.code_files.Each.{weaken, both}
use Rattle.law_files.proofs.code_files.Known.{text_in as text_is_in}
use Rattle.law_files.proofs.code_files.Sound.{Differs, Apart}
use Rattle.law_operands.proofs.free_names.Kept.{Choice, Holds, chosen, holds_on, the_cells, the_frees, the_locals}

abbrev text_at : List Name → ℕ → Name
text_at ts i = get_or ts i []

abbrev pub texts_of : List Name → List TextNo → List Name
texts_of ts xs = map (λ (x : TextNo). text_in ts x.0) xs

kept_new : {A : Type 0} (is : A → Bool) (a : A) (xs : List A) → AllByRecursion (λ x. is x ≡ false) xs → kept is a xs ≡ xs ++ a ∷ []
kept_new is a [] h = refl
kept_new is a (x ∷ xs) h =
    ap (λ (b : Bool). if b then x ∷ xs else x ∷ kept is a xs) h.0 ∙ ap (λ l. x ∷ l) (kept_new is a xs h.1)

any_kept : {A : Type 0} (is : A → Bool) (a : A) (xs : List A) → is a ≡ true → list_any is (kept is a xs) ≡ true
any_kept is a [] h = ap (λ (b : Bool). b || false) h
any_kept is a (x ∷ xs) h = by (is x) refl (any_kept is a xs h)
  where
    by : (b : Bool) → is x ≡ b → list_any is (kept is a xs) ≡ true → list_any is (if b then x ∷ xs else x ∷ kept is a xs) ≡ true
    by true e rest = ap (λ (b : Bool). b || list_any is xs) e
    by false e rest = ap (λ (b : Bool). b || list_any is (kept is a xs)) e ∙ rest

again : {A : Type 0} (is : A → Bool) (a : A) (xs : List A) → is a ≡ true → number_in is (kept is a xs) ≡ number_in is xs
again is a [] h = ap (λ (b : Bool). if b then 0 else 1) h
again is a (y ∷ ys) h = by (is y) refl (again is a ys h)
  where
    by : (b : Bool) → is y ≡ b → number_in is (kept is a ys) ≡ number_in is ys
        → number_in is (if b then y ∷ ys else y ∷ kept is a ys) ≡ (if b then 0 else suc (number_in is ys))
    by true e rest = ap (λ (b : Bool). if b then 0 else suc (number_in is ys)) e
    by false e rest = ap (λ (b : Bool). if b then 0 else suc (number_in is (kept is a ys))) e ∙ ap suc rest

not_true : (b : Bool) → (b ≡ true → ⊥) → b ≡ false
not_true true h = absurd (h refl)
not_true false h = refl

module _ (x : Name) (zs : List Name) (w : Written) where
  abbrev later : List Name
  later = (with_text x w).texts

  abbrev new : TextNo
  new = number_of_text x w

  new_is : text_at later new.0 ≡ x
  unfolding with_text
  new_is = kept_item (bytes_eq x) x w.texts [] (bytes_same x)

  stays : (s : TextNo) → s.0 < length w.texts → text_at later s.0 ≡ text_at w.texts s.0
  unfolding with_text
  stays s h = begins_get w.texts later s.0 [] (kept_begins (bytes_eq x) x w.texts) h

  counted : (s : TextNo) → s.0 < length w.texts → s.0 < length later
  unfolding with_text
  counted s h = begins_length w.texts later s.0 (kept_begins (bytes_eq x) x w.texts) h

  other : (s : TextNo) → (s.0 < length w.texts) × Differs (text_at w.texts s.0) (x ∷ zs) → is_text new s ≡ false
  other s h =
      not_true (is_text new s)
      (λ e. h.1.0 (sym (stays s h.0) ∙ ap (λ (t : TextNo). text_at later t.0) (text_same new s e) ∙ new_is))

  in_later : (ts : List Name) → Begins later ts → text_in ts new.0 ≡ x
  unfolding with_text
  in_later ts b = item_kept (bytes_eq x) x w.texts ts [] (bytes_same x) b

  -- the name has the same number where it is kept
  same_number : number_in (bytes_eq x) later ≡ new.0
  unfolding with_text
  same_number = again (bytes_eq x) x w.texts ((bytes_eq-Decides x x).1 refl)

  there : list_any (bytes_eq x) later ≡ true
  unfolding with_text
  there = any_kept (bytes_eq x) x w.texts ((bytes_eq-Decides x x).1 refl)

-- how a name comes into a list of the writer
pub record Lists (c : Choice) (f : Name → Written → Written) : Type 0 where
  pub is : (x : Name) (w : Written) → chosen c (f x w) ≡ kept (is_text (number_of_text x w)) (number_of_text x w) (chosen c w)
  pub texts : (x : Name) (w : Written) → (f x w).texts ≡ (with_text x w).texts
  pub tabled : (x : Name) (w : Written) → Tabled w (f x w)
  pub begins : (v w : Written) → Tabled v w → Begins (chosen c v) (chosen c w)

pub lists_local : Lists the_locals with_local
unfolding with_text keep_local
lists_local = record {
  is = λ x w. refl;
  texts = λ x w. refl;
  tabled = λ x w. (only_then w (with_text x w) (with_local x w) (text_only x w) (local_only (number_of_text x w) (with_text x w))).tables;
  begins = λ v w t. t.1.1.1.0;
}

pub lists_cell : Lists the_cells with_cell
unfolding with_text keep_cell
lists_cell = record { is = λ x w. refl; texts = λ x w. refl; tabled = cell_tabled; begins = λ v w t. t.1.1.1.1.0 }

pub lists_free : Lists the_frees with_free
unfolding with_text keep_free
lists_free = record { is = λ x w. refl; texts = λ x w. refl; tabled = free_tabled; begins = λ v w t. t.1.1.1.1.1.0 }

module _ (c : Choice) (f : Name → Written → Written) (l : Lists c f) where
  -- no name in the list is one of these
  abbrev pub Unnamed : List Name → Written → Type 0
  Unnamed zs w = AllByRecursion (λ (s : TextNo). (s.0 < length w.texts) × Differs (text_at w.texts s.0) zs) (chosen c w)

  end : (x : Name) (zs : List Name) (w : Written) → Unnamed (x ∷ zs) w → chosen c (f x w) ≡ chosen c w ++ number_of_text x w ∷ []
  end x zs w h =
      l.is x w ∙ kept_new (is_text (number_of_text x w)) (number_of_text x w) (chosen c w)
      (weaken (λ (s : TextNo). (s.0 < length w.texts) × Differs (text_at w.texts s.0) (x ∷ zs)) (λ s. is_text (number_of_text x w) s ≡ false) (other x zs w) (chosen c w) h)

  unnamed_on : (x : Name) (zs : List Name) (w : Written) → Differs x zs → Unnamed (x ∷ zs) w → Unnamed zs (f x w)
  unnamed_on x zs w d h =
      let ts = (with_text x w).texts in
      let Q : TextNo → Type 0 = λ s. (s.0 < length ts) × Differs (text_at ts s.0) zs in
      let old = weaken (λ (s : TextNo). (s.0 < length w.texts) × Differs (text_at w.texts s.0) (x ∷ zs)) Q
      (λ s g. (counted x zs w s g.0, subst (λ y. Differs y zs) (sym (stays x zs w s g.0)) g.1.1)) (chosen c w) h in
      let all = both Q (chosen c w) (number_of_text x w ∷ []) old ((text_is_in x w, subst (λ y. Differs y zs) (sym (new_is x zs w)) d), tt) in
      subst (λ ts. AllByRecursion (λ (s : TextNo). (s.0 < length ts) × Differs (text_at ts s.0) zs) (chosen c (f x w))) (sym (l.texts x w))
      (subst (AllByRecursion Q) (sym (end x zs w h)) all)

  -- the names stand behind those that are there
  pub listed : (zs : List Name) (w : Written) (ts : List Name) → Apart zs → Unnamed zs w → Begins (with_all f zs w).texts ts
      → texts_of ts (chosen c (with_all f zs w)) ≡ texts_of ts (chosen c w) ++ zs
  listed [] w ts a h b = sym (append-nil (texts_of ts (chosen c w)))
  listed (x ∷ zs) w ts a h b =
      let v = f x w in
      let grown : Begins (with_text x w).texts ts =
      subst (λ us. Begins us ts) (l.texts x w) (begins_then v.texts (with_all f zs v).texts ts (all_tabled f l.tabled zs v).0 b) in
      let one : texts_of ts (chosen c v) ≡ texts_of ts (chosen c w) ++ x ∷ [] =
      ap (texts_of ts) (end x zs w h) ∙ map-append (λ (x : TextNo). text_in ts x.0) (chosen c w) (number_of_text x w ∷ [])
      ∙ ap (λ y. texts_of ts (chosen c w) ++ y ∷ []) (in_later x zs w ts grown) in
      listed zs v ts a.1 (unnamed_on x zs w a.0 h) b ∙ ap (λ ys. ys ++ zs) one ∙ append_assoc (texts_of ts (chosen c w)) (x ∷ []) zs

  holds_new : (x : Name) (w : Written) → Holds c (f x w) x
  holds_new x w =
      let ts = l.texts x w in
      let t = number_of_text x w in
      record {
        text = subst (λ us. list_any (bytes_eq x) us ≡ true) (sym ts) (there x [] w);
        listed = subst (λ (n : ℕ). list_any (is_text (record { 0 = n })) (chosen c (f x w)) ≡ true)
            (sym (ap (number_in (bytes_eq x)) ts ∙ same_number x [] w))
            (ap (list_any (is_text t)) (l.is x w) ∙ any_kept (is_text t) t (chosen c w) ((Decides-eqb t.0 t.0).1 refl));
      }

  pub all_held : (xs : List Name) (w : Written) → AllByRecursion (Holds c (with_all f xs w)) xs
  all_held [] w = tt
  all_held (x ∷ xs) w =
      let v = f x w in
      let t = all_tabled f l.tabled xs v in
      (holds_on c v (with_all f xs v) x t (l.begins v (with_all f xs v) t) (holds_new x w), all_held xs v)
