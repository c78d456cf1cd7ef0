-- Always rows get their numbers.
use Rattle.std.proofs.Common.{◌≡◌, inl, inr, ℕ, ◌+◌, ◌<◌, Bool, true, false, if◌then◌else◌, List, [], ◌∷◌, ◌++◌, length, take, get_or, refl, sym, ap, ◌∙◌, subst, arith, length-take}
use Rattle.std.specs.Prelude.{Contains, slice_get}
use Rattle.std.proofs.lemmas.Bool.{false≢true}
use Rattle.std.proofs.lemmas.List.{take_more}
use Rattle.std.proofs.lemmas.List.Elements.{Contains-push, Contains-push_cases, Contains-append_left}
use Rattle.pt_ranges.specs.declared.handlers.Handler.{Handler}
use Rattle.pt_takers.specs.Numbers.{numbered, add_numbered, IsNumbered, AreNumbered}
use Rattle.pt_takers.proofs.Lists.{none_some, none_in, got_left, got_last, got_cases}

pub none_numbered : AreNumbered [] []
none_numbered = record { only = λ h c. absurd (none_in h c); all = λ n row e t. absurd (none_some row e) }

module _ (rows found : List Handler) (row : Handler) (n : ℕ) (at : n ≡ length rows) (low : n < 4294967296) (a : AreNumbered rows found) where
  earlier : (h : Handler) → IsNumbered rows h → IsNumbered (rows ++ row ∷ []) h
  earlier h i = record {
    number = i.number;
    row = i.row;
    stands = got_left rows (row ∷ []) i.number i.row i.stands;
    always = i.always;
    low = i.low;
    is = i.is;
  }

  latest : row.always ≡ true → (h : Handler) → numbered n row ≡ h → IsNumbered (rows ++ row ∷ []) h
  latest t h e = record {
    number = n;
    row = row;
    stands = ap (λ k. slice_get (rows ++ row ∷ []) k) at ∙ got_last rows row;
    always = t;
    low = low;
    is = sym e;
  }

  by_test : (t : Bool) → row.always ≡ t → AreNumbered (rows ++ row ∷ []) (if t then found ++ numbered n row ∷ [] else found)
  by_test true t = record {
    only = λ h c. elim (Contains-push_cases found (numbered n row) h c) [ inl x ↦ earlier h (a.only h x) | inr e ↦ latest t h e ];
    all = λ m r e always. elim (got_cases rows row m r e) [
      | inl x ↦ Contains-append_left found (numbered n row ∷ []) (numbered m r) (a.all m r x always)
      | inr (k, s) ↦ subst (λ x. Contains (found ++ numbered n row ∷ []) (numbered m x)) s
          (subst (λ j. Contains (found ++ numbered n row ∷ []) (numbered j row)) (at ∙ sym k) (Contains-push found (numbered n row)))
    ];
  }
  by_test false t = record {
    only = λ h c. earlier h (a.only h c);
    all = λ m r e always. elim (got_cases rows row m r e) [
      | inl x ↦ a.all m r x always
      | inr (k, s) ↦ absurd (false≢true (sym t ∙ (ap (λ x. x.always) s ∙ always)))
    ];
  }

  pub numbered_add : AreNumbered (rows ++ row ∷ []) (add_numbered found n row)
  numbered_add = by_test row.always refl

pub numbered_more : (rows : List Handler) (i n : ℕ) (d : Handler) → i < length rows → n ≡ i → n < 4294967296 → (found found' : List Handler)
    → AreNumbered (take i rows) found → found' ≡ add_numbered found n (get_or rows i d) → AreNumbered (take (i + 1) rows) found'
numbered_more rows i n d lt e low found found' a is =
    let long : n ≡ length (take i rows) = (let t = length-take i rows in omega (arith, t, lt, e)) in
    subst (λ xs. AreNumbered xs found') (sym (take_more rows i d lt))
    (subst (AreNumbered (take i rows ++ get_or rows i d ∷ [])) (sym is) (numbered_add (take i rows) found (get_or rows i d) n long low a))
