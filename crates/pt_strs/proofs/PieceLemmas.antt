-- One piece more of a text, and lists of texts that are none too long.
use Rattle.std.proofs.Common.{◌≡◌, ◌∙◌, ℕ, zero, suc, ◌+◌, ◌<◌, ◌≤◌, Bool, true, false, List, [], ◌∷◌, ◌++◌, Option, None, Some, length, drop, refl, sym, ap, subst, arith, append_assoc, if◌then◌else◌}
use Rattle.std.specs.Option.{option_map}
use Rattle.std.proofs.lemmas.List.{append-nil, length-append, drop_all}
use Rattle.pt_strs.specs.Answer.{counted}
use Rattle.pt_strs.specs.Cut.{begins_with, in_front, cut, pieces_at, pieces}
use Rattle.pt_strs.specs.Join.{joined}
use Rattle.pt_strs.proofs.CutLemmas.{begins-to}

-- the characters of a text that is cut
cut-whole : (sep cs : List ℕ) (p : List ℕ × List ℕ) → cut sep cs ≡ Some p → cs ≡ p.0 ++ (sep ++ p.1)
cut-whole sep [] p e = by (begins_with [] sep) refl e
  where
    by : (b : Bool) → begins_with [] sep ≡ b → (if b then Some ([], []) else None) ≡ Some p → [] ≡ p.0 ++ (sep ++ p.1)
    by true f e =
        let same : ([], []) ≡ p = cc in
        subst (λ (q : List ℕ × List ℕ). [] ≡ q.0 ++ (sep ++ q.1)) same (begins-to [] sep f ∙ ap (λ l. sep ++ l) (drop_all (length sep) [] (omega arith)))
    by false f e = cc
cut-whole sep (c ∷ cs) p e = by (begins_with (c ∷ cs) sep) refl e (cut sep cs) refl (cut-whole sep cs)
  where
    by : (b : Bool) → begins_with (c ∷ cs) sep ≡ b → (if b then Some ([], drop (length sep) (c ∷ cs)) else option_map (in_front c) (cut sep cs)) ≡ Some p → (o : Option (List ℕ × List ℕ)) → cut sep cs ≡ o → ((q : List ℕ × List ℕ) → cut sep cs ≡ Some q → cs ≡ q.0 ++ (sep ++ q.1)) → c ∷ cs ≡ p.0 ++ (sep ++ p.1)
    by true f e o g ih =
        let same : ([], drop (length sep) (c ∷ cs)) ≡ p = cc in
        subst (λ (q : List ℕ × List ℕ). c ∷ cs ≡ q.0 ++ (sep ++ q.1)) same (begins-to (c ∷ cs) sep f)
    by false f e None g ih = let none : None ≡ Some p = sym (ap (option_map (in_front c)) g) ∙ e in absurd cc
    by false f e (Some q) g ih =
        let some : Some (in_front c q) ≡ Some p = sym (ap (option_map (in_front c)) g) ∙ e in
        let same : in_front c q ≡ p = cc in
        subst (λ (r : List ℕ × List ℕ). c ∷ cs ≡ r.0 ++ (sep ++ r.1)) same (ap (λ l. c ∷ l) (ih q g))

module _ (sep : List ℕ) (some : 0 < length sep) (cs front rest : List ℕ) (e : cut sep cs ≡ Some (front, rest)) where
  pub cut-shorter : length rest < length cs
  cut-shorter = omega (arith, ap length (cut-whole sep cs (front, rest) e), length-append front (sep ++ rest), length-append sep rest)

  pub record More (most : ℕ) : Type 0 where
    pub less : ℕ
    pub fits : length rest ≤ less
    pub is : pieces most sep cs ≡ front ∷ pieces less sep rest

  -- a piece before the first separator
  pub pieces-more : (most : ℕ) → length cs ≤ most → More most
  pieces-more zero l = absurd (omega (arith, cut-shorter))
  pieces-more (suc most) l = record { less = most; fits = omega (arith, cut-shorter); is = ap (pieces_at (pieces most sep) cs) e }

-- the last piece
pub pieces-last : (sep cs : List ℕ) → cut sep cs ≡ None → (most : ℕ) → pieces most sep cs ≡ cs ∷ []
pieces-last sep cs e zero = refl
pieces-last sep cs e (suc most) = ap (pieces_at (pieces most sep) cs) e

joined-more : (new front sep rest : List ℕ) (most : ℕ) → joined new (front ∷ pieces most sep rest) ≡ front ++ (new ++ joined new (pieces most sep rest))
joined-more new front sep rest zero = refl
joined-more new front sep rest (suc most) = by (cut sep rest)
  where
    by : (o : Option (List ℕ × List ℕ)) → joined new (front ∷ pieces_at (pieces most sep) rest o) ≡ front ++ (new ++ joined new (pieces_at (pieces most sep) rest o))
    by None = refl
    by (Some p) = refl

joined-last : (new cs : List ℕ) → joined new (cs ∷ []) ≡ cs
joined-last new cs = append-nil cs

module _ (sep new : List ℕ) (some : 0 < length sep) (cs front rest : List ℕ) (e : cut sep cs ≡ Some (front, rest)) where
  joined-cut : (most : ℕ) (m : More sep some cs front rest e most) → joined new (pieces most sep cs) ≡ front ++ (new ++ joined new (pieces m.less sep rest))
  joined-cut most m = ap (joined new) m.is ∙ joined-more new front sep rest m.less

  -- a piece and the new part were written
  pub draft-more : (d d₁ d₂ whole : List ℕ) → (most : ℕ) × (length cs ≤ most) × (d ++ joined new (pieces most sep cs) ≡ whole) → d₁ ≡ d ++ front → d₂ ≡ d₁ ++ new → (most : ℕ) × (length rest ≤ most) × (d₂ ++ joined new (pieces most sep rest) ≡ whole)
  draft-more d d₁ d₂ whole inv f g =
      let m = pieces-more sep some cs front rest e inv.0 inv.1 in
      let J = joined new (pieces m.less sep rest) in
      (m.less, m.fits, ap (λ l. l ++ J) (g ∙ ap (λ l. l ++ new) f) ∙ append_assoc (d ++ front) new J ∙ append_assoc d front (new ++ J) ∙ ap (λ l. d ++ l) (sym (joined-cut inv.0 m)) ∙ inv.2)

  -- they were counted
  pub count-more : (n n₁ n₂ total : ℕ) → (most : ℕ) × (length cs ≤ most) × (counted (n + length (joined new (pieces most sep cs))) ≡ counted total) → n₁ ≡ counted (n + length front) → n₂ ≡ counted (n₁ + length new) → (most : ℕ) × (length rest ≤ most) × (counted (n₂ + length (joined new (pieces most sep rest))) ≡ counted total)
  count-more n n₁ n₂ total inv f g =
      let m = pieces-more sep some cs front rest e inv.0 inv.1 in
      let J = joined new (pieces m.less sep rest) in
      let size : length (joined new (pieces inv.0 sep cs)) ≡ length front + (length new + length J) = omega (arith, ap length (joined-cut inv.0 m), length-append front (new ++ J), length-append new J) in
      (m.less, m.fits, omega (arith, inv.2, size))

module _ (sep new : List ℕ) (cs : List ℕ) (e : cut sep cs ≡ None) where
  -- the last piece was written
  pub draft-last : (d d₁ whole : List ℕ) → (most : ℕ) × (length cs ≤ most) × (d ++ joined new (pieces most sep cs) ≡ whole) → d₁ ≡ d ++ cs → d₁ ≡ whole
  draft-last d d₁ whole inv f = f ∙ ap (λ l. d ++ l) (sym (ap (joined new) (pieces-last sep cs e inv.0) ∙ joined-last new cs)) ∙ inv.2

  -- it was counted
  pub count-last : (n n₁ total : ℕ) → (most : ℕ) × (length cs ≤ most) × (counted (n + length (joined new (pieces most sep cs))) ≡ counted total) → n₁ ≡ counted (n + length cs) → n₁ ≡ counted total
  count-last n n₁ total inv f = f ∙ ap (λ l. counted (n + length l)) (sym (ap (joined new) (pieces-last sep cs e inv.0) ∙ joined-last new cs)) ∙ inv.2
