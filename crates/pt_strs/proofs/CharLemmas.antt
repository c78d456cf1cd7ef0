-- The characters of texts: what is pushed, and what is taken off an end.
use Rattle.std.proofs.Common.{◌≡◌, ◌∙◌, ℕ, ◌+◌, ◌-◌, ◌≤◌, List, [], ◌∷◌, ◌++◌, Option, None, Some, Result, Ok, Err, OnOk, OnErr, MatchOption, length, drop, take, refl, sym, ap, subst, arith}
use Rattle.std.specs.Char.{encode_utf8}
use Rattle.std.specs.Str.{chars, IsUtf8, IsCharBoundary}
use Rattle.std.proofs.lemmas.List.{append-nil, nil_from_length, drop_at, take_at, length-append}
use Rattle.std.proofs.lemmas.Str.{chars-nil, chars-append, chars_past_char, IsUtf8-append, IsUtf8-drop, IsCharBoundary-from_take, IsCharBoundary-at_seam, encodes-chars, encodes-append}
use lib.Utf8.{encodes}

module _ {A E : Type 0} (old more new : List ℕ) (u : IsUtf8 old) (v : IsUtf8 more) where
  -- what is pushed on a text leaves one
  pub pushed-utf8 : (r : Result A E) → OnOk r (new ≡ old ++ more) → OnErr r (new ≡ old) → IsUtf8 new
  pushed-utf8 (Ok x) ok err = subst (λ (l : List ℕ). IsUtf8 l) (sym ok) (IsUtf8-append old more u v)
  pushed-utf8 (Err e) ok err = subst (λ (l : List ℕ). IsUtf8 l) (sym err) u

  pub pushed-chars : (r : Result A E) (now : List ℕ) → chars old ≡ now → OnOk r (new ≡ old ++ more) → OnOk r (chars new ≡ now ++ chars more)
  pushed-chars (Ok x) now is ok = ap chars ok ∙ chars-append old more u ∙ ap (λ l. l ++ chars more) is
  pushed-chars (Err e) now is ok = tt

pub chars-encode : (c : ℕ) (bs : List ℕ) → IsUtf8 bs → bs ≡ encode_utf8 c → chars bs ≡ c ∷ []
chars-encode c bs u e = chars_past_char bs [] c u (e ∙ sym (append-nil (encode_utf8 c))) ∙ ap (λ l. c ∷ l) chars-nil

module _ {S : Type 0} (read : S → List ℕ) (s t : S) (bs rest now : List ℕ) (u : IsUtf8 bs) (v : IsUtf8 rest) (view : chars bs ≡ now) (from : read s ≡ bs) (to : rest ≡ read t) where
  ends : length (read s) ≡ 0 → t ≡ s → (now ≡ []) × (chars rest ≡ [])
  ends e same =
      let none : bs ≡ [] = sym from ∙ nil_from_length (read s) e in
      (sym view ∙ ap chars none ∙ chars-nil, ap chars (to ∙ ap read same ∙ from ∙ none) ∙ chars-nil)

  -- what is left of a text behind its first character
  pub next-seen : (o : Option ℕ) → MatchOption o ((length (read s) ≡ 0) × (t ≡ s)) (λ c. read s ≡ encode_utf8 c ++ read t) → MatchOption o ((now ≡ []) × (chars rest ≡ [])) (λ c. now ≡ c ∷ chars rest)
  next-seen None h = ends h.0 h.1
  next-seen (Some c) h = sym view ∙ chars_past_char bs rest c u (sym from ∙ h ∙ ap (λ l. encode_utf8 c ++ l) (sym to))

  -- the same before its last
  pub last-seen : (o : Option ℕ) → MatchOption o ((length (read s) ≡ 0) × (t ≡ s)) (λ c. read s ≡ read t ++ encode_utf8 c) → MatchOption o ((now ≡ []) × (chars rest ≡ [])) (λ c. now ≡ chars rest ++ c ∷ [])
  last-seen None h = ends h.0 h.1
  last-seen (Some c) h =
      let whole : bs ≡ rest ++ encode_utf8 c = sym from ∙ h ∙ ap (λ l. l ++ encode_utf8 c) (sym to) in
      let front : take (length rest) bs ≡ rest = ap (take (length rest)) whole ∙ take_at rest (encode_utf8 c) (length rest) refl in
      let back : drop (length rest) bs ≡ encode_utf8 c = ap (drop (length rest)) whole ∙ drop_at rest (encode_utf8 c) (length rest) refl in
      let within : length rest ≤ length bs = omega (arith, ap length whole, length-append rest (encode_utf8 c)) in
      let boundary = IsCharBoundary-from_take bs (length rest) u within (subst (λ (l : List ℕ). IsUtf8 l) (sym front) v) in
      let w : IsUtf8 (encode_utf8 c) = subst (λ (l : List ℕ). IsUtf8 l) back (IsUtf8-drop bs (length rest) u boundary) in
      sym view ∙ ap chars whole ∙ chars-append rest (encode_utf8 c) v ∙ ap (λ l. chars rest ++ l) (chars-encode c (encode_utf8 c) w refl)

-- a text that ends as another does is what stands before that, and then that
module _ (bs es front : List ℕ) (u : IsUtf8 bs) (v : IsUtf8 es) (ends_so : chars bs ≡ front ++ chars es) where
  until-whole : bs ≡ encodes front ++ es
  until-whole = sym (encodes-chars bs u) ∙ ap encodes ends_so ∙ encodes-append front (chars es) ∙ ap (λ l. encodes front ++ l) (encodes-chars es v)

  until-length : length bs ≡ length (encodes front) + length es
  until-length = ap length until-whole ∙ length-append (encodes front) es

  pub until-within : length es ≤ length bs
  until-within = omega (arith, until-length)

  until-at : length bs - length es ≡ length (encodes front)
  until-at = omega (arith, until-length)

  pub until-boundary : IsCharBoundary bs (length bs - length es)
  until-boundary = subst (λ n. IsCharBoundary bs n) (sym until-at) (IsCharBoundary-at_seam bs (encodes front) es until-whole v)

  pub until-text : (text : List ℕ) → IsUtf8 text → text ≡ take (length bs - length es - 0) (drop 0 bs) → chars bs ≡ chars text ++ chars es
  until-text text w e =
      let zero : length bs - length es - 0 ≡ length bs - length es = omega arith in
      let is : text ≡ encodes front = e ∙ ap (λ n. take n bs) (zero ∙ until-at) ∙ ap (take (length (encodes front))) until-whole ∙ take_at (encodes front) es (length (encodes front)) refl in
      ap chars (until-whole ∙ ap (λ l. l ++ es) (sym is)) ∙ chars-append text es w
