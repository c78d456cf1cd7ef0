-- Each character of an identifier is one, shown by computations over the tables.
use Rattle.std.proofs.Common.{◌≡◌, ℕ, true, false, not, ◌&&◌, ◌||◌, ◌==◌, nat_le, nat_lt, lt-ltb, [], ◌∷◌, refl, sym, ap, subst, ◌∙◌, inl, inr, eqb-true, le-leb, le-ltb}
use Rattle.std.proofs.lemmas.Bool.{cases_Bool, cases_lt, cond-false, lt-leb}
use Rattle.std.specs.Char.{IsScalar}
use lib.Utf8.{scalar, low_scalar}
use Rattle.ucd_table.proofs.StepsLemmas.{step_value-nil, step_value-here, step_value-later}
use Rattle.ucd_table.proofs.Stepped.{Stepped, zip_stepped}
use Rattle.ucd_table.proofs.Facts.{Stepped-everywhere}
use Rattle.ucd_derived.proofs.BinaryLemmas.{is_xid_continue_stepped}
use Rattle.unicode_ident.specs.Ident.{is_xid_start, is_xid_continue}
use Rattle.unicode_ident.proofs.Computing.{unicode_ident}
use Rattle.unicode_ident.proofs.IdentLemmas.{is_xid_start-is_xid_continue}
use Rattle.pt_literals.specs.Source.{starts_name}

unfoldable scalar_stepped : Stepped scalar
scalar_stepped = record {
  default = false;
  steps = (0xD800, true) ∷ (0xE000, false) ∷ (0x110000, true) ∷ [];
  gives = λ c. elim (cases_lt c 0xD800) [
    | inl low ↦ low_scalar c low ∙ sym (step_value-here false (0xD800, true) _ c low)
    | inr from ↦
        let beyond : scalar c ≡ (nat_le 0xE000 c && nat_lt c 0x110000) = cond-false _ _ _ (le-ltb c 0xD800 from) in
        beyond ∙ elim (cases_lt c 0xE000) [
          | inl surrogate ↦
              ap (λ b. b && nat_lt c 0x110000) (lt-leb 0xE000 c surrogate)
              ∙ sym (step_value-later false (0xD800, true) _ c from ∙ step_value-here false (0xE000, false) _ c surrogate)
          | inr high ↦
              ap (λ b. b && nat_lt c 0x110000) (le-leb 0xE000 c high) ∙ elim (cases_lt c 0x110000) [
                | inl within ↦
                    lt-ltb c 0x110000 within ∙ sym (step_value-later false (0xD800, true) _ c from
                    ∙ step_value-later false (0xE000, false) _ c high ∙ step_value-here false (0x110000, true) [] c within)
                | inr after ↦
                    le-ltb c 0x110000 after ∙ sym (step_value-later false (0xD800, true) _ c from
                    ∙ step_value-later false (0xE000, false) _ c high ∙ step_value-later false (0x110000, true) [] c after ∙ step_value-nil false c)
              ]
        ]
  ];
}

pub continues-scalar : (c : ℕ) → is_xid_continue c ≡ true → IsScalar c
unfolding unicode_ident scalar_stepped
continues-scalar c h =
    let both = zip_stepped (λ a b. not a || b) is_xid_continue scalar is_xid_continue_stepped scalar_stepped in
    subst (λ a. (not a || scalar c) ≡ true) h (Stepped-everywhere _ both refl c)

pub start-scalar : (c : ℕ) → starts_name c ≡ true → IsScalar c
unfolding starts_name
start-scalar c h = elim (cases_Bool (is_xid_start c)) [
  | inl x ↦ continues-scalar c (is_xid_start-is_xid_continue c x)
  | inr other ↦ let e = eqb-true c 95 (subst (λ b. (b || (c == 95)) ≡ true) other h) in subst IsScalar (sym e) refl
]
