-- How an identifier begins in NFKC.
use Rattle.std.proofs.Common.{◌≡◌, ℕ, ◌<◌, true, List, [], ◌∷◌, ◌++◌, length, flat_map, chars, encode_utf8, encode_utf8_all, IsUtf8, refl, sym, ap, subst, ◌∙◌, arith, inl, inr, length-append}
use Rattle.std.proofs.lemmas.Bool.{cases_lt, and_parts}
use Rattle.std.proofs.lemmas.Str.{IsUtf8-nil, IsUtf8-encode, IsUtf8-append, length-encode, len_utf8_bounds, char_from_byte, chars_past_char}
use Rattle.std.specs.List.{list_all}
use Rattle.ucd_normal.specs.declared.forms.Form.TheVariants.{Nfkd}
use Rattle.unicode_normalization.specs.Decompose.{decompose}
use Rattle.unicode_normalization.specs.Forms.{decomposed, normalize, nfkd, nfkc}
use Rattle.unicode_normalization.specs.Order.{canonical_order}
use Rattle.unicode_normalization.proofs.FormsLemmas.{decomposed-passing, nfkd-nfkc, normalize-nil}
use Rattle.unicode_normalization.proofs.OrderLemmas.{canonical_order-cons, sink-starter}
use Rattle.pt_literals.specs.Source.{starts_name, continues_name}
use Rattle.pt_lexer.specs.Words.{is_identifier, in_nfkc}
use Rattle.law_front.specs.identifiers.Names.{begins, begins_name}
use Rattle.law_front.proofs.identifiers.Characters.{Begun, beyond-begins, of-name, start-scalar, continues-scalar, ascii-split, ascii-starter}

-- its first character comes from the first of the decomposition of that which starts it
decomposed-begins : (c : ℕ) (cs : List ℕ) (b : Begun c) → nfkd (c ∷ cs) ≡ b.first ∷ canonical_order (b.rest ++ flat_map (decompose Nfkd) cs)
unfolding normalize decomposed
decomposed-begins c cs b =
    ap (λ l. canonical_order (l ++ flat_map (decompose Nfkd) cs)) b.split ∙ canonical_order-cons b.first _ ∙ sink-starter b.first _ b.starter

ascii-stays : (h : ℕ) (r : List ℕ) → h < 128 → nfkd (h ∷ r) ≡ h ∷ nfkd r
unfolding normalize
ascii-stays h r low = decomposed-passing Nfkd h r (ascii-split h low) (ascii-starter h low)

composed-begins : (s h : ℕ) (ws r : List ℕ) → begins s ≡ true → nfkd (h ∷ r) ≡ s ∷ ws → begins h ≡ true
composed-begins s h ws r b e = elim (cases_lt h 128) [
  | inl low ↦ let same = sym (ascii-stays h r low) ∙ e in let k : h ≡ s = cc in subst (λ x. begins x ≡ true) (sym k) b
  | inr high ↦ beyond-begins h high
]

bytes-begin : (bs rest : List ℕ) (h : ℕ) → bs ≡ encode_utf8 h ++ rest → 0 < length bs → begins h ≡ true → begins_name bs ≡ true
bytes-begin [] rest h e some b = absurd (omega (arith, some))
bytes-begin (x ∷ bs) rest h e some b = elim (cases_lt x 128) [
  | inl low ↦ subst (λ y. begins y ≡ true) (char_from_byte (x ∷ bs) rest h e low some) b
  | inr high ↦ beyond-begins x high
]

some-bytes : (h : ℕ) (rest : List ℕ) → 0 < length (encode_utf8 h ++ rest)
some-bytes h rest = let n = len_utf8_bounds h in let m = length-encode h in let k = length-append (encode_utf8 h) rest in omega arith

text-begins : (s : ℕ) (ws zs : List ℕ) → begins s ≡ true → nfkd zs ≡ s ∷ ws → begins_name (encode_utf8_all zs) ≡ true
text-begins s ws [] b e = let k = sym (normalize-nil Nfkd) ∙ e in cc
text-begins s ws (h ∷ r) b e = bytes-begin (encode_utf8_all (h ∷ r)) (encode_utf8_all r) h refl (some-bytes h (encode_utf8_all r))
    (composed-begins s h ws r b e)

are-utf8 : (cs : List ℕ) → list_all continues_name cs ≡ true → IsUtf8 (encode_utf8_all cs)
unfolding continues_name
are-utf8 [] all = IsUtf8-nil
are-utf8 (c ∷ cs) all =
    let parts = and_parts (continues_name c) (list_all continues_name cs) all in
    IsUtf8-append (encode_utf8 c) (encode_utf8_all cs) (IsUtf8-encode c (continues-scalar c parts.0)) (are-utf8 cs parts.1)

pub identifier-begins : (cs : List ℕ) → is_identifier cs ≡ true → begins_name (in_nfkc (encode_utf8_all cs)) ≡ true
unfolding in_nfkc
identifier-begins [] h = cc
identifier-begins (c ∷ cs) h =
    let parts = and_parts (starts_name c) (list_all continues_name cs) h in
    let utf8 : IsUtf8 (encode_utf8_all (c ∷ cs)) =
    IsUtf8-append (encode_utf8 c) (encode_utf8_all cs) (IsUtf8-encode c (start-scalar c parts.0)) (are-utf8 cs parts.1) in
    let read : chars (encode_utf8_all (c ∷ cs)) ≡ c ∷ chars (encode_utf8_all cs) = chars_past_char _ _ c utf8 refl in
    let b = of-name c parts.0 in
    text-begins b.first _ (nfkc (chars (encode_utf8_all (c ∷ cs)))) b.begins
    (nfkd-nfkc (chars (encode_utf8_all (c ∷ cs))) ∙ ap nfkd read ∙ decomposed-begins c (chars (encode_utf8_all cs)) b)
