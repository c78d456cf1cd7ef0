use Rattle.std.proofs.Common.{◌≡◌, ◌∙◌, ◌<◌, ◌≤◌, ℕ, Bool, true, false, List, [], Option, None, Some, length, drop, get_or, nat_le, slice_get, if◌then◌else◌, inl, inr, refl, sym, ap, subst, arith, rules}
use Rattle.std.specs.Prelude.{◌||◌, nat_lt, IsCharBoundary}
use Rattle.std.specs.Str.{chars}
use Rattle.std.proofs.lemmas.Bool.{false≢true}
use Rattle.std.proofs.lemmas.Bool.Decides.{nat_tests}
use Rattle.std.proofs.lemmas.List.{drop_all}
use Rattle.std.proofs.lemmas.Option.{get_or_from_slice_get, slice_get_cases, slice_get_within}
use Rattle.pt_sequences.specs.Cursors.{begins_char, chars_from}
use Rattle.pt_views.proofs.items.from_byte.Goals as goal

-- a byte that begins a character is below 128 or no smaller than 192
begins : (x : ℕ) → (128 ≤ x → 192 ≤ x) → (nat_lt x 128 || nat_le 192 x) ≡ true
begins x h = by (nat_lt x 128) refl
  where
    by : (c : Bool) → nat_lt x 128 ≡ c → (c || nat_le 192 x) ≡ true
    by true e = refl
    by false e = let above : 192 ≤ x = h (grind (arith, nat_tests, e)) in grind (arith, nat_tests, above)

above : (x : ℕ) → (nat_lt x 128 || nat_le 192 x) ≡ true → 128 ≤ x → 192 ≤ x
above x h l = by (nat_lt x 128) refl h
  where
    by : (c : Bool) → nat_lt x 128 ≡ c → (c || nat_le 192 x) ≡ true → 192 ≤ x
    by true e f = absurd (let below : x < 128 = grind (arith, nat_tests, e) in omega (arith, below, l))
    by false e f = grind (arith, nat_tests, f)

past : (t : List ℕ) (p : ℕ) → slice_get t p ≡ None → length t ≤ p
past t p e = elim (slice_get_cases t p).1 [
  | inl w ↦ absurd (let there : slice_get t p ≡ Some w.0 = w.2 in cc)
  | inr w ↦ w.0
]

at-char : (t : List ℕ) (p : ℕ) → IsCharBoundary t p → chars (drop p t) ≡ chars_from t p
unfolding chars
at-char t p b = by (slice_get t p) refl
  where
    by : (o : Option ℕ) → slice_get t p ≡ o → chars (drop p t) ≡ (if begins_char o then chars (drop p t) else [])
    by None e = ap chars (drop_all p t (past t p e))
    by (Some x) e =
        let same : get_or t p 0 ≡ x = get_or_from_slice_get t p x 0 e in
        sym (ap (λ c. if c then chars (drop p t) else []) (begins x (subst (λ y. 128 ≤ y → 192 ≤ y) same (b.1 (slice_get_within t p x e)))))

within-char : (t : List ℕ) (p : ℕ) → (IsCharBoundary t p → ⊥) → [] ≡ chars_from t p
within-char t p n = by (slice_get t p) refl
  where
    by : (o : Option ℕ) → slice_get t p ≡ o → [] ≡ (if begins_char o then chars (drop p t) else [])
    by None e = refl
    by (Some x) e = test (begins_char (Some x)) refl
      where
        same : get_or t p 0 ≡ x
        same = get_or_from_slice_get t p x 0 e

        test : (c : Bool) → begins_char (Some x) ≡ c → [] ≡ (if c then chars (drop p t) else [])
        test true f = absurd (n (omega (arith, slice_get_within t p x e), λ l. subst (λ y. 128 ≤ y → 192 ≤ y) (sym same) (above x f)))
        test false f = refl

pub returns-in-Some : goal.returns-in-Some
returns-in-Some c =
    let rest : c.in-Some.rest.now ≡ drop c.args.place c.args.text.now = search rules in
    ap chars rest ∙ at-char c.args.text.now c.args.place (c.in-Some.ensures.variant.0 refl)

pub returns-in-None : goal.returns-in-None
unfolding chars
returns-in-None c = within-char c.args.text.now c.args.place (λ b. false≢true (c.in-None.ensures.variant.1 b))
