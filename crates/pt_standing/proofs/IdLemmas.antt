-- Texts have one number where they are the same.
use Rattle.std.proofs.Common.{◌≡◌, ◌⊎◌, inl, inr, ℕ, ◌+◌, ◌<◌, Bool, true, false, nat_eq, if◌then◌else◌, List, [], ◌∷◌, ◌++◌, length, Some, None, refl, sym, ap, ◌∙◌, subst, arith, eqb-true, eq-eqb, length-append}
use Rattle.std.specs.Str.{bytes_eq}
use Rattle.std.specs.BTreeMap.{BTreeMap, get_by_text}
use Rattle.std.specs.declared.string.String.{String}
use Rattle.std.specs.declared.alloc.Global.{Global}
use Rattle.std.proofs.lemmas.List.{get_or_append_left}
use Rattle.std.proofs.lemmas.Option.{same_Some}
use Rattle.std.proofs.lemmas.Slice.Eq.{bytes_eq-Decides}
use Rattle.std.proofs.Math.Seq.{get_or-append_seam}
use Rattle.pt_tree.specs.Syntax.{Name}
use Rattle.pt_sizes.proofs.Tables.{below_or, some_or_none}
use Rattle.pt_standing.specs.Texts.{AreIds, IdGiven, Knows, id_at, text_at}

module _ (texts : List Name) (n : ℕ) (known known' : BTreeMap (String Global) ℕ) (ids : List ℕ) (id : ℕ) (k : Knows texts n known ids)
    (given : IdGiven known known' (text_at texts n) n id) where
  the_id : (t : ℕ) → t < n → text_at texts n ≡ text_at texts t → (get_by_text known (text_at texts n) ≡ Some id) ⊎ ((get_by_text known (text_at texts n) ≡ None) × (id ≡ n))
      → Some id ≡ Some (id_at ids t)
  the_id t lt same (inl e) = sym e ∙ (ap (get_by_text known) same ∙ k.found t lt)
  the_id t lt same (inr (none, e)) = absurd (some_or_none (id_at ids t) (sym (ap (get_by_text known) same ∙ k.found t lt) ∙ none))

  still : (t : ℕ) → t < n → (b : Bool) → bytes_eq (text_at texts n) (text_at texts t) ≡ b → get_by_text known' (text_at texts t) ≡ Some (id_at ids t)
  still t lt true e = given.others (text_at texts t) ∙ (ap (λ b. if b then Some id else get_by_text known (text_at texts t)) e
      ∙ the_id t lt ((bytes_eq-Decides (text_at texts n) (text_at texts t)).0 e) given.old_or_new)
  still t lt false e = given.others (text_at texts t) ∙ (ap (λ b. if b then Some id else get_by_text known (text_at texts t)) e ∙ k.found t lt)

  found : (t : ℕ) → (t < n) ⊎ (t ≡ n) → get_by_text known' (text_at texts t) ≡ Some (id_at (ids ++ id ∷ []) t)
  found t (inl low) = still t low (bytes_eq (text_at texts n) (text_at texts t)) refl
      ∙ ap (λ i. Some i) (sym (get_or_append_left ids (id ∷ []) 0 t (let l = k.long in omega (arith, l, low))))
  found t (inr e) = ap (λ m. get_by_text known' (text_at texts m)) e ∙ (given.here
      ∙ ap (λ i. Some i) (sym (ap (λ m. id_at (ids ++ id ∷ []) m) (e ∙ sym k.long) ∙ get_or-append_seam ids id [] 0)))

  of_new : (x : Name) (m : ℕ) → text_at texts n ≡ x → m ≡ id → (get_by_text known (text_at texts n) ≡ Some id) ⊎ ((get_by_text known (text_at texts n) ≡ None) × (id ≡ n))
      → (m < n + 1) × (text_at texts m ≡ x)
  of_new x m same e (inl h) = let s = k.sound (text_at texts n) id h in let low = s.0 in
      ((omega (arith, low, e)), ap (text_at texts) e ∙ (s.1 ∙ same))
  of_new x m same e (inr (none, h)) = ((omega (arith, e, h)), ap (text_at texts) (e ∙ h) ∙ same)

  sound : (x : Name) (m : ℕ) → get_by_text known' x ≡ Some m → (b : Bool) → bytes_eq (text_at texts n) x ≡ b → (m < n + 1) × (text_at texts m ≡ x)
  sound x m g true e = of_new x m ((bytes_eq-Decides (text_at texts n) x).0 e)
      (same_Some m id (sym g ∙ (given.others x ∙ ap (λ b. if b then Some id else get_by_text known x) e))) given.old_or_new
  sound x m g false e = let s = k.sound x m (sym (sym g ∙ (given.others x ∙ ap (λ b. if b then Some id else get_by_text known x) e))) in let low = s.0 in
      ((omega (arith, low)), s.1)

  pub knows_more : (more : List ℕ) → more ≡ ids ++ id ∷ [] → Knows texts (n + 1) known' more
  knows_more more e = subst (Knows texts (n + 1) known') (sym e) (record {
    long = let a = length-append ids (id ∷ []) in let l = k.long in omega (arith, a, l);
    found = λ t lt. found t (below_or t n lt);
    sound = λ x m g. sound x m g (bytes_eq (text_at texts n) x) refl;
  })

pub are_ids : (texts : List Name) (known : BTreeMap (String Global) ℕ) (ids : List ℕ) (n : ℕ) → n ≡ length texts → Knows texts n known ids → AreIds texts ids
are_ids texts known ids n e k = record {
  long = k.long ∙ e;
  low = λ t lt. let low = (k.sound (text_at texts t) (id_at ids t) (k.found t (omega (arith, lt, e)))).0 in omega (arith, low, e);
  same = λ s t ls lt. same s t (omega (arith, ls, e)) (omega (arith, lt, e)) (nat_eq (id_at ids s) (id_at ids t)) refl (bytes_eq (text_at texts s) (text_at texts t)) refl;
}
  where
    its : (t : ℕ) → t < n → text_at texts (id_at ids t) ≡ text_at texts t
    its t lt = (k.sound (text_at texts t) (id_at ids t) (k.found t lt)).1

    same : (s t : ℕ) → s < n → t < n → (a : Bool) → nat_eq (id_at ids s) (id_at ids t) ≡ a → (b : Bool) → bytes_eq (text_at texts s) (text_at texts t) ≡ b → a ≡ b
    same s t ls lt true f true g = refl
    same s t ls lt false f false g = refl
    same s t ls lt true f false g = sym ((bytes_eq-Decides (text_at texts s) (text_at texts t)).1
        (sym (its s ls) ∙ (ap (text_at texts) (eqb-true (id_at ids s) (id_at ids t) f) ∙ its t lt))) ∙ g
    same s t ls lt false f true g = sym f ∙ eq-eqb (id_at ids s) (id_at ids t)
        (same_Some (id_at ids s) (id_at ids t) (sym (k.found s ls) ∙ (ap (get_by_text known) ((bytes_eq-Decides (text_at texts s) (text_at texts t)).0 g) ∙ k.found t lt)))

-- what a map that has one more text knows
pub given_new : (old new : BTreeMap (String Global) ℕ) (text : Name) (n : ℕ) → get_by_text old text ≡ None
    → ((x : Name) → get_by_text new x ≡ (if bytes_eq text x then Some n else get_by_text old x)) → IdGiven old new text n n
given_new old new text n none u = record {
  here = u text ∙ ap (λ b. if b then Some n else get_by_text old text) ((bytes_eq-Decides text text).1 refl);
  old_or_new = inr (none, refl);
  others = u;
}
