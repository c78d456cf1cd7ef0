-- An identifier in NFKC has no line end: no character but a line end is decomposed to one.
use Rattle.std.proofs.Common.{◌≡◌, ℕ, zero, suc, ◌+◌, ◌-◌, ◌/◌, ◌%◌, ◌<◌, ◌≤◌, Bool, true, false, not, ◌||◌, ◌==◌, List, [], ◌∷◌, ◌++◌, length, get_or, flat_map, chars, encode_utf8, encode_utf8_all, IsUtf8, refl, sym, ap, subst, ◌∙◌, arith, inl, inr, eqb-true, append-nil}
use Rattle.std.specs.List.{list_all}
use Rattle.std.specs.Char.{IsScalar}
use Rattle.std.proofs.lemmas.Bool.{cases_Bool, cases_eq, cases_lt, and_parts, and_from, cond-false, false≢true}
use Rattle.std.proofs.lemmas.List.Folds.{list_all-append}
use Rattle.std.proofs.lemmas.List.Sums.{list_all-from_AllPass}
use Rattle.std.proofs.lemmas.Str.{IsUtf8-nil, IsUtf8-encode, IsUtf8-append, chars_past_char, chars-nil, inside_one}
use Rattle.ucd_table.proofs.RangedFacts.{points_ok, Stepped-at_points}
use Rattle.ucd_normal.specs.Decomposition.{compatibility_decomposition, or_itself}
use Rattle.ucd_normal.proofs.Computing.{ucd_normal}
use Rattle.ucd_normal.proofs.CompositionLemmas.{is_empty}
use Rattle.ucd_normal.proofs.DecompositionLemmas.{compatibility_decomposition_stepped}
use Rattle.ucd_normal.specs.declared.forms.Form.TheVariants.{Nfkd}
use Rattle.unicode_ident.specs.Ident.{is_xid_start, is_xid_continue}
use Rattle.unicode_ident.proofs.IdentLemmas.{is_xid_start-ascii, is_xid_continue-ascii}
use Rattle.unicode_normalization.specs.Decompose.{decompose}
use Rattle.unicode_normalization.specs.Forms.{decomposed, normalize, nfkd, nfkc}
use Rattle.unicode_normalization.specs.Hangul.{is_syllable}
use Rattle.unicode_normalization.specs.Order.{canonical_order, is_reorderable, sink}
use Rattle.unicode_normalization.proofs.DecomposeLemmas.{decompose-final, decompose-syllable}
use Rattle.unicode_normalization.proofs.FormsLemmas.{nfkd-nfkc, is_final-Nfkd, quick_check-ascii}
use Rattle.unicode_normalization.proofs.HangulLemmas.{decompose_hangul-two, decompose_hangul-three}
use Rattle.unicode_normalization.proofs.OrderLemmas.{sink-past, sink-stays, sink-nil, canonical_order-cons, list_all-canonical_order}
use Rattle.pt_literals.specs.Source.{starts_name, continues_name}
use Rattle.pt_lexer.specs.Words.{is_identifier, in_nfkc}
use Rattle.law_block_names.proofs.Characters.{start-scalar, continues-scalar}
use Rattle.law_block_names.specs.Names.{HasNoLineEnd}

abbrev pub is_other : ℕ → Bool
is_other c = not (c == 10)

abbrev pub have_none : List ℕ → Bool
have_none cs = list_all is_other cs

large : (c : ℕ) → 11 ≤ c → is_other c ≡ true
large c l = elim (cases_Bool (c == 10)) [
  | inl t ↦ let same = eqb-true c 10 t in absurd (omega (arith, l, same))
  | inr f ↦ ap not f
]

-- ---- what a character is decomposed to

all_mapped : (c : ℕ) → is_empty (compatibility_decomposition c) ≡ false → have_none (compatibility_decomposition c) ≡ true
unfolding ucd_normal points_ok
all_mapped = Stepped-at_points compatibility_decomposition compatibility_decomposition_stepped is_empty (λ c parts. have_none parts) refl

by-parts : (c : ℕ) (parts : List ℕ) → is_other c ≡ true → (is_empty parts ≡ false → have_none parts ≡ true) → have_none (or_itself c parts) ≡ true
by-parts c [] o h = and_from (is_other c) true o refl
by-parts c (s ∷ ss) o h = h refl

syllable : (c : ℕ) → is_syllable c ≡ true → have_none (decompose Nfkd c) ≡ true
syllable c h =
    let n = c - 0xAC00 in
    let l = 0x1100 + n / 588 in
    let v = 0x1161 + n % 588 / 28 in
    let t = 0x11A7 + n % 28 in
    let first : is_other l ≡ true = large l (omega arith) in
    let second : is_other v ≡ true = large v (omega arith) in
    let third : is_other t ≡ true = large t (omega arith) in
    elim (cases_eq (n % 28) 0) [
      | inl two ↦ ap have_none (decompose-syllable Nfkd c h ∙ decompose_hangul-two c two) ∙ and_from (is_other l) _ first (and_from (is_other v) true second refl)
      | inr three ↦
          ap have_none (decompose-syllable Nfkd c h ∙ decompose_hangul-three c three)
          ∙ and_from (is_other l) _ first (and_from (is_other v) _ second (and_from (is_other t) true third refl))
    ]

decomposed-other : (c : ℕ) → is_other c ≡ true → have_none (decompose Nfkd c) ≡ true
unfolding decompose
decomposed-other c o = elim (cases_Bool (is_syllable c)) [
  | inl s ↦ syllable c s
  | inr other ↦ ap have_none (cond-false _ _ _ other) ∙ by-parts c (compatibility_decomposition c) o (all_mapped c)
]

both : (xs ys : List ℕ) → have_none xs ≡ true → have_none ys ≡ true → have_none (xs ++ ys) ≡ true
both xs ys h k = list_all-append is_other xs ys ∙ and_from (have_none xs) (have_none ys) h k

all-decomposed : (cs : List ℕ) → have_none cs ≡ true → have_none (flat_map (decompose Nfkd) cs) ≡ true
all-decomposed [] h = refl
all-decomposed (c ∷ cs) h =
    let parts = and_parts (is_other c) (have_none cs) h in
    both (decompose Nfkd c) (flat_map (decompose Nfkd) cs) (decomposed-other c parts.0) (all-decomposed cs parts.1)

nfkd-none : (cs : List ℕ) → have_none cs ≡ true → have_none (nfkd cs) ≡ true
unfolding normalize decomposed
nfkd-none cs h = list_all-canonical_order is_other (flat_map (decompose Nfkd) cs) (all-decomposed cs h)

-- ---- and back

sunk : (c : ℕ) (ds : List ℕ) → have_none (sink c ds) ≡ true → have_none (c ∷ ds) ≡ true
sunk c [] h = ap have_none (sym (sink-nil c)) ∙ h
sunk c (d ∷ ds) h = elim (cases_Bool (is_reorderable c d)) [
  | inl past ↦
      let parts = and_parts (is_other d) (have_none (sink c ds)) (ap have_none (sym (sink-past c d ds past)) ∙ h) in
      let more = and_parts (is_other c) (have_none ds) (sunk c ds parts.1) in
      and_from (is_other c) _ more.0 (and_from (is_other d) (have_none ds) parts.0 more.1)
  | inr stays ↦ ap have_none (sym (sink-stays c d ds stays)) ∙ h
]

ordered : (cs : List ℕ) → have_none (canonical_order cs) ≡ true → have_none cs ≡ true
ordered [] h = refl
ordered (c ∷ cs) h =
    let parts = and_parts (is_other c) (have_none (canonical_order cs)) (sunk c (canonical_order cs) (ap have_none (sym (canonical_order-cons c cs)) ∙ h)) in
    and_from (is_other c) (have_none cs) parts.0 (ordered cs parts.1)

line-end-stays : decompose Nfkd 10 ≡ 10 ∷ []
line-end-stays = decompose-final Nfkd 10 (is_final-Nfkd 10 (quick_check-ascii Nfkd 10 (omega arith)))

one-back : (c : ℕ) → have_none (decompose Nfkd c) ≡ true → is_other c ≡ true
one-back c h = elim (cases_Bool (c == 10)) [
  | inl t ↦ absurd (false≢true (ap have_none (sym (ap (decompose Nfkd) (eqb-true c 10 t) ∙ line-end-stays)) ∙ h))
  | inr f ↦ ap not f
]

all-back : (cs : List ℕ) → have_none (flat_map (decompose Nfkd) cs) ≡ true → have_none cs ≡ true
all-back [] h = refl
all-back (c ∷ cs) h =
    let rest = flat_map (decompose Nfkd) cs in
    let parts = and_parts (have_none (decompose Nfkd c)) (have_none rest) (sym (list_all-append is_other (decompose Nfkd c) rest) ∙ h) in
    and_from (is_other c) (have_none cs) (one-back c parts.0) (all-back cs parts.1)

nfkd-back : (cs : List ℕ) → have_none (nfkd cs) ≡ true → have_none cs ≡ true
unfolding normalize decomposed
nfkd-back cs h = all-back cs (ordered (flat_map (decompose Nfkd) cs) h)

-- ---- its bytes

same-default : (xs : List ℕ) (k d : ℕ) → k < length xs → get_or xs k 0 ≡ get_or xs k d
same-default [] k d l = absurd (omega arith)
same-default (x ∷ xs) zero d l = refl
same-default (x ∷ xs) (suc k) d l = same-default xs k d (omega arith)

byte-other : (c k : ℕ) → is_other c ≡ true → k < length (encode_utf8 c) → is_other (get_or (encode_utf8 c) k 0) ≡ true
byte-other c k o below = elim (cases_lt (get_or (encode_utf8 c) k 0) 128) [
  | inl low ↦ subst (λ x. is_other x ≡ true) (inside_one c [] (encode_utf8 c) k (sym (append-nil (encode_utf8 c))) below low) o
  | inr high ↦ large (get_or (encode_utf8 c) k 0) (omega arith)
]

encoded : (c : ℕ) → is_other c ≡ true → have_none (encode_utf8 c) ≡ true
encoded c o = list_all-from_AllPass is_other (encode_utf8 c) (λ k d below.
    subst (λ x. is_other x ≡ true) (same-default (encode_utf8 c) k d below) (byte-other c k o below))

all-encoded : (cs : List ℕ) → have_none cs ≡ true → have_none (encode_utf8_all cs) ≡ true
all-encoded [] h = refl
all-encoded (c ∷ cs) h =
    let parts = and_parts (is_other c) (have_none cs) h in
    both (encode_utf8 c) (encode_utf8_all cs) (encoded c parts.0) (all-encoded cs parts.1)

-- ---- the characters of an identifier

continues-other : (c : ℕ) → continues_name c ≡ true → is_other c ≡ true
unfolding continues_name
continues-other c h = elim (cases_Bool (c == 10)) [
  | inl t ↦
      let same = eqb-true c 10 t in
      absurd (false≢true (sym (is_xid_continue-ascii 10 (omega arith)) ∙ ap is_xid_continue (sym same) ∙ h))
  | inr f ↦ ap not f
]

starts-other : (c : ℕ) → starts_name c ≡ true → is_other c ≡ true
unfolding starts_name
starts-other c h = elim (cases_Bool (c == 10)) [
  | inl t ↦
      let same = eqb-true c 10 t in
      absurd (false≢true (sym (ap (λ b. b || false) (is_xid_start-ascii 10 (omega arith))) ∙ ap (λ x. is_xid_start x || (x == 95)) (sym same) ∙ h))
  | inr f ↦ ap not f
]

record Read (cs : List ℕ) : Type 0 where
  is_utf8 : IsUtf8 (encode_utf8_all cs)
  same : chars (encode_utf8_all cs) ≡ cs
  none : have_none cs ≡ true

one-more : (c : ℕ) (cs : List ℕ) → IsScalar c → is_other c ≡ true → Read cs → Read (c ∷ cs)
one-more c cs s o r =
    let utf8 : IsUtf8 (encode_utf8_all (c ∷ cs)) = IsUtf8-append (encode_utf8 c) (encode_utf8_all cs) (IsUtf8-encode c s) r.is_utf8 in
    record {
      is_utf8 = utf8;
      same = chars_past_char (encode_utf8_all (c ∷ cs)) (encode_utf8_all cs) c utf8 refl ∙ ap (λ xs. c ∷ xs) r.same;
      none = and_from (is_other c) (have_none cs) o r.none;
    }

rest-read : (cs : List ℕ) → list_all continues_name cs ≡ true → Read cs
unfolding continues_name
rest-read [] h = record { is_utf8 = IsUtf8-nil; same = chars-nil; none = refl }
rest-read (c ∷ cs) h =
    let parts = and_parts (continues_name c) (list_all continues_name cs) h in
    one-more c cs (continues-scalar c parts.0) (continues-other c parts.0) (rest-read cs parts.1)

read : (cs : List ℕ) → is_identifier cs ≡ true → Read cs
read [] h = absurd (false≢true h)
read (c ∷ cs) h =
    let parts = and_parts (starts_name c) (list_all continues_name cs) h in
    one-more c cs (start-scalar c parts.0) (starts-other c parts.0) (rest-read cs parts.1)

pub identifier-none : (cs : List ℕ) → is_identifier cs ≡ true → have_none (in_nfkc (encode_utf8_all cs)) ≡ true
unfolding in_nfkc
identifier-none cs h =
    let r = read cs h in
    let given : have_none (chars (encode_utf8_all cs)) ≡ true = ap have_none r.same ∙ r.none in
    let cs = chars (encode_utf8_all cs) in
    all-encoded (nfkc cs) (nfkd-back (nfkc cs) (ap have_none (nfkd-nfkc cs) ∙ nfkd-none cs given))

pub no-line-end : (x : List ℕ) → have_none x ≡ true → HasNoLineEnd x
no-line-end [] h = tt
no-line-end (c ∷ cs) h = let parts = and_parts (is_other c) (have_none cs) h in (is-false (c == 10) parts.0, no-line-end cs parts.1)
  where
    is-false : (b : Bool) → not b ≡ true → b ≡ false
    is-false false e = refl
    is-false true e = absurd (false≢true e)
