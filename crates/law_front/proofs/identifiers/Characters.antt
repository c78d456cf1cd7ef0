-- How a character that starts a name is decomposed, shown by computations over the tables.
use Rattle.std.proofs.Common.{◌≡◌, ℕ, ◌+◌, ◌-◌, ◌/◌, ◌%◌, ◌<◌, ◌≤◌, Bool, true, false, not, ◌&&◌, ◌||◌, ◌==◌, nat_le, nat_lt, lt-ltb, List, [], ◌∷◌, refl, sym, ap, subst, ◌∙◌, arith, inl, inr, eqb-true, le-leb, le-ltb}
use Rattle.std.proofs.lemmas.Bool.{cases_Bool, cases_eq, cases_lt, and_parts, or_left, or_right, cond-false, lt-leb}
use Rattle.std.specs.Char.{IsScalar, is_ascii_alphabetic}
use lib.Utf8.{scalar, low_scalar}
use Rattle.ucd_table.proofs.StepsLemmas.{step_value-nil, step_value-here, step_value-later}
use Rattle.ucd_table.proofs.Stepped.{Stepped, zip_stepped}
use Rattle.ucd_table.proofs.Facts.{Stepped-everywhere, tree_value, tree_of, tree_value-tree_of}
use Rattle.ucd_table.proofs.RangedFacts.{points_ok, Stepped-at_points}
use Rattle.ucd_normal.specs.CanonicalCombiningClass.{canonical_combining_class as ccc}
use Rattle.ucd_normal.specs.Decomposition.{compatibility_decomposition, or_itself}
use Rattle.ucd_normal.proofs.Computing.{ucd_normal}
use Rattle.ucd_normal.proofs.CanonicalCombiningClassLemmas.{canonical_combining_class_stepped}
use Rattle.ucd_normal.proofs.CompositionLemmas.{is_empty}
use Rattle.ucd_normal.proofs.DecompositionLemmas.{compatibility_decomposition_stepped}
use Rattle.ucd_normal.specs.declared.forms.Form.TheVariants.{Nfkd}
use Rattle.ucd_derived.proofs.BinaryLemmas.{is_xid_start_stepped, is_xid_continue_stepped}
use Rattle.unicode_ident.specs.Ident.{is_xid_start, is_xid_continue}
use Rattle.unicode_ident.proofs.Computing.{unicode_ident}
use Rattle.unicode_ident.proofs.IdentLemmas.{is_xid_start-ascii, is_xid_start-is_xid_continue}
use Rattle.unicode_normalization.specs.Decompose.{decompose}
use Rattle.unicode_normalization.specs.Hangul.{is_syllable}
use Rattle.unicode_normalization.proofs.DecomposeLemmas.{decompose-final, decompose-syllable}
use Rattle.unicode_normalization.proofs.FormsLemmas.{is_final-Nfkd, quick_check-ascii, class-latin}
use Rattle.unicode_normalization.proofs.HangulLemmas.{is_syllable-true, decompose_hangul-two, decompose_hangul-three}
use Rattle.unicode_normalization.proofs.TableFacts.{class_of_jamo, is_final}
use Rattle.pt_literals.specs.Source.{starts_name}
use Rattle.law_front.specs.identifiers.Names.{begins}

-- ---- each of them is a character

unfoldable scalar_stepped : Stepped scalar
scalar_stepped = record {
  default = false;
  steps = (0xD800, true) ∷ (0xE000, false) ∷ (0x110000, true) ∷ [];
  gives = λ c. elim (cases_lt c 0xD800) [
    | inl low ↦ low_scalar c low ∙ sym (step_value-here false (0xD800, true) _ c low)
    | inr from ↦
        let beyond : scalar c ≡ (nat_le 0xE000 c && nat_lt c 0x110000) = cond-false _ _ _ (le-ltb c 0xD800 from) in
        beyond ∙ elim (cases_lt c 0xE000) [
          | inl surrogate ↦
              ap (λ b. b && nat_lt c 0x110000) (lt-leb 0xE000 c surrogate)
              ∙ sym (step_value-later false (0xD800, true) _ c from ∙ step_value-here false (0xE000, false) _ c surrogate)
          | inr high ↦
              ap (λ b. b && nat_lt c 0x110000) (le-leb 0xE000 c high) ∙ elim (cases_lt c 0x110000) [
                | inl within ↦
                    lt-ltb c 0x110000 within ∙ sym (step_value-later false (0xD800, true) _ c from
                    ∙ step_value-later false (0xE000, false) _ c high ∙ step_value-here false (0x110000, true) [] c within)
                | inr after ↦
                    le-ltb c 0x110000 after ∙ sym (step_value-later false (0xD800, true) _ c from
                    ∙ step_value-later false (0xE000, false) _ c high ∙ step_value-later false (0x110000, true) [] c after ∙ step_value-nil false c)
              ]
        ]
  ];
}

pub continues-scalar : (c : ℕ) → is_xid_continue c ≡ true → IsScalar c
unfolding unicode_ident scalar_stepped
continues-scalar c h =
    let both = zip_stepped (λ a b. not a || b) is_xid_continue scalar is_xid_continue_stepped scalar_stepped in
    subst (λ a. (not a || scalar c) ≡ true) h (Stepped-everywhere _ both refl c)

-- ---- a character that starts a name is a starter, and so is the first of its decomposition, which begins a name

start-starter : (c : ℕ) → is_xid_start c ≡ true → (ccc c == 0) ≡ true
unfolding unicode_ident ucd_normal
start-starter c h =
    let both = zip_stepped (λ a n. not a || (n == 0)) is_xid_start ccc is_xid_start_stepped canonical_combining_class_stepped in
    subst (λ a. (not a || (ccc c == 0)) ≡ true) h (Stepped-everywhere _ both refl c)

pub beyond-begins : (c : ℕ) → 128 ≤ c → begins c ≡ true
beyond-begins c h = or_right (is_ascii_alphabetic c) _ (or_right (c == 95) _ (le-leb 128 c h))

start-begins : (c : ℕ) → is_xid_start c ≡ true → begins c ≡ true
start-begins c h = elim (cases_lt c 128) [
  | inl low ↦ or_left _ _ (sym (is_xid_start-ascii c low) ∙ h)
  | inr high ↦ beyond-begins c high
]

unfoldable first_ok : (ℕ → ℕ) → List ℕ → Bool
first_ok class [] = true
first_ok class (s ∷ ss) = (class s == 0) && begins s

abbrev mapped_ok : (ℕ → Bool) → (ℕ → ℕ) → ℕ → List ℕ → Bool
mapped_ok start class c parts = not (start c) || first_ok class parts

unfoldable start_by_tree : ℕ → Bool
unfolding unicode_ident
start_by_tree = tree_value is_xid_start_stepped.default (tree_of is_xid_start is_xid_start_stepped)

unfoldable class_by_tree : ℕ → ℕ
unfolding ucd_normal
class_by_tree = tree_value canonical_combining_class_stepped.default (tree_of ccc canonical_combining_class_stepped)

same_start : is_xid_start ≡ start_by_tree
unfolding start_by_tree
same_start = tree_value-tree_of is_xid_start is_xid_start_stepped

same_class : ccc ≡ class_by_tree
unfolding class_by_tree
same_class = tree_value-tree_of ccc canonical_combining_class_stepped

all_mapped : (c : ℕ) → is_empty (compatibility_decomposition c) ≡ false → mapped_ok start_by_tree class_by_tree c (compatibility_decomposition c) ≡ true
unfolding start_by_tree class_by_tree unicode_ident ucd_normal points_ok first_ok
all_mapped = Stepped-at_points compatibility_decomposition compatibility_decomposition_stepped is_empty (mapped_ok start_by_tree class_by_tree) refl

mapped-begins : (c : ℕ) → is_xid_start c ≡ true → is_empty (compatibility_decomposition c) ≡ false → first_ok ccc (compatibility_decomposition c) ≡ true
mapped-begins c h some =
    let parts = compatibility_decomposition c in
    let ok : mapped_ok is_xid_start ccc c parts ≡ true =
    ap (λ start. mapped_ok start ccc c parts) same_start ∙ ap (λ class. mapped_ok start_by_tree class c parts) same_class ∙ all_mapped c some in
    subst (λ a. (not a || first_ok ccc parts) ≡ true) h ok

-- the first character of a decomposition is a starter and begins a name
pub record Begun (c : ℕ) : Type 0 where
  pub first : ℕ
  pub rest : List ℕ
  pub split : decompose Nfkd c ≡ first ∷ rest
  pub starter : ccc first ≤ 0
  pub begins : begins first ≡ true

none : (n : ℕ) → (n == 0) ≡ true → n ≤ 0
none n h = let e = eqb-true n 0 h in omega arith

by-parts : (c : ℕ) (parts : List ℕ) → is_xid_start c ≡ true → decompose Nfkd c ≡ or_itself c parts → (is_empty parts ≡ false → first_ok ccc parts ≡ true)
    → Begun c
unfolding first_ok
by-parts c [] x e h = record { first = c; rest = []; split = e; starter = none _ (start-starter c x); begins = start-begins c x }
by-parts c (s ∷ ss) x e h =
    let ok = and_parts (ccc s == 0) (begins s) (h refl) in record { first = s; rest = ss; split = e; starter = none _ ok.0; begins = ok.1 }

syllable : (c : ℕ) → is_syllable c ≡ true → Begun c
syllable c h =
    let range = is_syllable-true c h in
    let l = 0x1100 + (c - 0xAC00) / 588 in
    let starter : ccc l ≤ 0 = none _ (class_of_jamo l (omega arith) (omega arith)) in
    let begins : begins l ≡ true = beyond-begins l (omega arith) in
    elim (cases_eq ((c - 0xAC00) % 28) 0) [
      | inl two ↦ record { first = l; rest = _; split = decompose-syllable Nfkd c h ∙ decompose_hangul-two c two; starter = starter; begins = begins }
      | inr three ↦ record { first = l; rest = _; split = decompose-syllable Nfkd c h ∙ decompose_hangul-three c three; starter = starter; begins = begins }
    ]

of-start : (c : ℕ) → is_xid_start c ≡ true → Begun c
unfolding decompose
of-start c h = elim (cases_Bool (is_syllable c)) [
  | inl s ↦ syllable c s
  | inr other ↦ by-parts c (compatibility_decomposition c) h (cond-false _ _ _ other) (mapped-begins c h)
]

pub ascii-split : (c : ℕ) → c < 128 → is_final Nfkd c ≡ true
ascii-split c low = is_final-Nfkd c (quick_check-ascii Nfkd c low)

pub ascii-starter : (c : ℕ) → c < 128 → ccc c ≤ 0
ascii-starter c low = let e = class-latin c (omega arith) in omega arith

underscore : Begun 95
underscore =
    record { first = 95; rest = []; split = decompose-final Nfkd 95 (ascii-split 95 (omega arith)); starter = ascii-starter 95 (omega arith); begins = refl }

pub of-name : (c : ℕ) → starts_name c ≡ true → Begun c
unfolding starts_name
of-name c h = elim (cases_Bool (is_xid_start c)) [
  | inl x ↦ of-start c x
  | inr other ↦ let e = eqb-true c 95 (subst (λ b. (b || (c == 95)) ≡ true) other h) in subst Begun (sym e) underscore
]

pub start-scalar : (c : ℕ) → starts_name c ≡ true → IsScalar c
unfolding starts_name
start-scalar c h = elim (cases_Bool (is_xid_start c)) [
  | inl x ↦ continues-scalar c (is_xid_start-is_xid_continue c x)
  | inr other ↦ let e = eqb-true c 95 (subst (λ b. (b || (c == 95)) ≡ true) other h) in subst IsScalar (sym e) refl
]
