-- Where a part first stands among the bytes of a text is where it first stands among its characters.
use Rattle.std.proofs.Common.{◌≡◌, ◌∙◌, ℕ, ◌+◌, ◌<◌, ◌≤◌, Bool, true, false, ◌==◌, ◌&&◌, List, [], ◌∷◌, ◌++◌, None, Some, length, drop, take, refl, sym, ap, subst, arith}
use Rattle.std.specs.Char.{encode_utf8}
use Rattle.std.specs.Option.{option_map}
use Rattle.std.specs.Str.{chars, IsUtf8, IsCharBoundary}
use Rattle.std.specs.Str.Pattern.{LacksTextAt}
use Rattle.std.proofs.lemmas.List.{drop_at, drop-drop, length-append, length-take, nil_from_length, take-append-drop}
use Rattle.std.proofs.lemmas.Bool.{eqb-true, eq-eqb}
use Rattle.std.proofs.lemmas.Str.{encodes-append, encodes-chars, chars-append, IsUtf8-take, length-encode, len_utf8_bounds}
use lib.Utf8.{encodes}
use Rattle.pt_strs.specs.Cut.{begins_with, in_front, cut}

and-split : (a b : Bool) → a && b ≡ true → (a ≡ true) × (b ≡ true)
and-split true b e = (refl, e)
and-split false b e = absurd cc

pub begins-from : (part rest : List ℕ) → begins_with (part ++ rest) part ≡ true
begins-from [] rest = refl
begins-from (p ∷ ps) rest = rw (eq-eqb p p refl) (begins-from ps rest)

pub begins-to : (cs part : List ℕ) → begins_with cs part ≡ true → cs ≡ part ++ drop (length part) cs
begins-to cs [] e = refl
begins-to [] (p ∷ ps) e = absurd cc
begins-to (c ∷ cs) (p ∷ ps) e =
    let both = and-split (c == p) (begins_with cs ps) e in
    ap (λ x. x ∷ cs) (eqb-true c p both.0) ∙ ap (λ l. p ∷ l) (begins-to cs ps both.1)

-- a part at the front
cut-front : (part rest : List ℕ) → cut part (part ++ rest) ≡ Some ([], rest)
cut-front part rest = by (part ++ rest) refl
  where
    by : (cs : List ℕ) → cs ≡ part ++ rest → cut part cs ≡ Some ([], rest)
    by [] e =
        let begins : begins_with [] part ≡ true = ap (λ l. begins_with l part) e ∙ begins-from part rest in
        let none : rest ≡ [] = nil_from_length rest (omega (arith, ap length e, length-append part rest)) in
        rw begins (ap (λ l. Some ([], l)) (sym none))
    by (c ∷ cs) e =
        let begins : begins_with (c ∷ cs) part ≡ true = ap (λ l. begins_with l part) e ∙ begins-from part rest in
        rw begins (ap (λ l. Some ([], l)) (ap (drop (length part)) e ∙ drop_at part rest (length part) refl))

drop-past : (xs ys : List ℕ) (k : ℕ) → drop (length xs + k) (xs ++ ys) ≡ drop k ys
drop-past xs ys k = sym (drop-drop k (length xs) (xs ++ ys)) ∙ ap (drop k) (drop_at xs ys (length xs) refl)

some-bytes : (c : ℕ) → 0 < length (encode_utf8 c)
some-bytes c = omega (arith, length-encode c, (len_utf8_bounds c).0)

-- a text that begins with a part has the part's bytes at its front
begins-bytes : (cs part : List ℕ) → begins_with cs part ≡ true → encodes cs ≡ encodes part ++ encodes (drop (length part) cs)
begins-bytes cs part e = ap encodes (begins-to cs part e) ∙ encodes-append part (drop (length part) cs)

cut-none : (part cs : List ℕ) → ((k : ℕ) → k ≤ length (encodes cs) → LacksTextAt (encodes part) (encodes cs) k) → cut part cs ≡ None
cut-none part [] lacks = by (begins_with [] part) refl
  where
    by : (b : Bool) → begins_with [] part ≡ b → cut part [] ≡ None
    by true e = absurd (lacks 0 (omega arith) _ (begins-bytes [] part e))
    by false e = rw e refl
cut-none part (c ∷ cs) lacks = by (begins_with (c ∷ cs) part) refl (cut-none part cs later)
  where
    later : (k : ℕ) → k ≤ length (encodes cs) → LacksTextAt (encodes part) (encodes cs) k
    later k l rest e = lacks (length (encode_utf8 c) + k) (omega (arith, length-append (encode_utf8 c) (encodes cs))) rest (drop-past (encode_utf8 c) (encodes cs) k ∙ e)

    by : (b : Bool) → begins_with (c ∷ cs) part ≡ b → cut part cs ≡ None → cut part (c ∷ cs) ≡ None
    by true e none = absurd (lacks 0 (omega arith) _ (begins-bytes (c ∷ cs) part e))
    by false e none = rw e (ap (option_map (in_front c)) none)

cut-some : (front part rest : List ℕ) → ((k : ℕ) → k < length (encodes front) → LacksTextAt (encodes part) (encodes (front ++ (part ++ rest))) k) → cut part (front ++ (part ++ rest)) ≡ Some (front, rest)
cut-some [] part rest lacks = cut-front part rest
cut-some (c ∷ front) part rest lacks = by (begins_with (c ∷ front ++ (part ++ rest)) part) refl (cut-some front part rest later)
  where
    later : (k : ℕ) → k < length (encodes front) → LacksTextAt (encodes part) (encodes (front ++ (part ++ rest))) k
    later k l more e = lacks (length (encode_utf8 c) + k) (omega (arith, length-append (encode_utf8 c) (encodes front))) more (drop-past (encode_utf8 c) (encodes (front ++ (part ++ rest))) k ∙ e)

    by : (b : Bool) → begins_with (c ∷ front ++ (part ++ rest)) part ≡ b → cut part (front ++ (part ++ rest)) ≡ Some (front, rest) → cut part (c ∷ front ++ (part ++ rest)) ≡ Some (c ∷ front, rest)
    by true e some = absurd (lacks 0 (omega (arith, length-append (encode_utf8 c) (encodes front), some-bytes c)) _ (begins-bytes (c ∷ front ++ (part ++ rest)) part e))
    by false e some = rw e (ap (option_map (in_front c)) some)

module _ (part bs now : List ℕ) (u : IsUtf8 part) (v : IsUtf8 bs) (view : chars bs ≡ now) where
  -- bytes that stand nowhere are characters that stand nowhere
  pub cut-nowhere : ((k : ℕ) → k ≤ length bs → LacksTextAt part bs k) → cut (chars part) now ≡ None
  cut-nowhere lacks =
      let ep = encodes-chars part u in
      let es = encodes-chars bs v in
      subst (λ l. cut (chars part) l ≡ None) view (cut-none (chars part) (chars bs) (λ k l rest e.
      lacks k (subst (λ (t : List ℕ). k ≤ length t) es l) rest (sym (ap (drop k) es) ∙ e ∙ ap (λ l. l ++ rest) ep)))

  -- the first place of the bytes is that of the characters
  pub cut-first : (i j : ℕ) → ((k : ℕ) → k < i → LacksTextAt part bs k) → drop i bs ≡ part ++ drop j bs → IsCharBoundary bs i → cut (chars part) now ≡ Some (chars (take i bs), chars (drop j bs))
  cut-first i j lacks at boundary =
      let A = chars (take i bs) in
      let P = chars part in
      let B = chars (drop j bs) in
      let w = IsUtf8-take bs i v boundary in
      let whole : chars bs ≡ A ++ (P ++ B) =
      ap chars (sym (take-append-drop i bs)) ∙ chars-append (take i bs) (drop i bs) w ∙ ap (λ l. A ++ l) (ap chars at ∙ chars-append part (drop j bs) u) in
      let ep = encodes-chars part u in
      let es : encodes (A ++ (P ++ B)) ≡ bs = ap encodes (sym whole) ∙ encodes-chars bs v in
      let ef : length (encodes A) ≤ i = omega (arith, ap length (encodes-chars (take i bs) w), length-take i bs) in
      sym (ap (cut P) (sym whole ∙ view)) ∙ cut-some A P B (λ k l rest e. lacks k (omega arith) rest (sym (ap (drop k) es) ∙ e ∙ ap (λ l. l ++ rest) ep))
