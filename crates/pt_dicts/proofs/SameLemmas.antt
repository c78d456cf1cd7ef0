-- A key is written so that no other is written so, whatever follows.
use Rattle.std.proofs.Common.{◌≡◌, ◌∙◌, ℕ, suc, ◌-◌, ◌^◌, ◌<◌, Bool, true, false, nat_lt, ℤ, pos, negsuc, List, [], ◌∷◌, ◌++◌, drop, refl, sym, ap, subst, arith, append_assoc}
use Rattle.std.specs.Fmt.{decimal, signed_decimal}
use Rattle.std.specs.Str.Parse.{digits_value, AllDigits}
use Rattle.std.proofs.lemmas.Bool.{ltb-true, ltb-false}
use Rattle.std.proofs.lemmas.Fmt.{decimal_is_IsNumeral_wide}
use Rattle.pt_dicts.specs.Codes.{KeyValue, KeyValues, none, ellipsis, not_implemented, number, text, tuple, object, no_keys, more_keys, escaped, bytes_codes, codes_of, list_codes, IsShort, AreShort, AllShort}

abbrev head : List ℕ → ℕ
head [] = 0
head (x ∷ xs) = x

decimal-same : (m n : ℕ) → m < 10 ^ 64 → n < 10 ^ 64 → decimal m ≡ decimal n → m ≡ n
decimal-same m n k l e = sym (decimal_is_IsNumeral_wide m k).1 ∙ ap (digits_value 10) e ∙ (decimal_is_IsNumeral_wide n l).1

no-minus : (n : ℕ) (ds : List ℕ) → n < 10 ^ 64 → decimal n ≡ 45 ∷ ds → ⊥
no-minus n ds h e = let digit = (subst (λ l. AllDigits 10 l) e (decimal_is_IsNumeral_wide n h).0.1).0 in omega arith

number-same : (y z : ℤ) → IsShort y → IsShort z → signed_decimal y ≡ signed_decimal z → y ≡ z
number-same (pos m) (pos n) k l e = ap pos (decimal-same m n k l e)
number-same (pos m) (negsuc n) k l e = absurd (no-minus m _ k e)
number-same (negsuc m) (pos n) k l e = absurd (no-minus n _ l (sym e))
number-same (negsuc m) (negsuc n) k l e = let same = decimal-same (suc m) (suc n) k l (ap (drop 1) e) in ap negsuc (omega arith)

-- a byte as it stands, or behind 254
abbrev written : Bool → ℕ → List ℕ
written true b = b ∷ []
written false b = 254 ∷ (b - 254) ∷ []

is-written : (b : ℕ) (x : Bool) → nat_lt b 254 ≡ x → escaped b ≡ written x b
is-written b true e = rw e refl
is-written b false e = rw e refl

byte-same : (a b : ℕ) (x y : Bool) → nat_lt a 254 ≡ x → nat_lt b 254 ≡ y → (r s : List ℕ) → written x a ++ r ≡ written y b ++ s → (a ≡ b) × (r ≡ s)
byte-same a b true true f g r s e = (ap head e, ap (drop 1) e)
byte-same a b true false f g r s e = absurd (omega (arith, ltb-true a 254 f, ap head e))
byte-same a b false true f g r s e = absurd (omega (arith, ltb-true b 254 g, ap head e))
byte-same a b false false f g r s e = let rest : a - 254 ≡ b - 254 = ap (λ l. head (drop 1 l)) e in (omega (arith, rest, ltb-false a 254 f, ltb-false b 254 g), ap (drop 2) e)

byte-no-end : (b : ℕ) (x : Bool) → nat_lt b 254 ≡ x → (r s : List ℕ) → written x b ++ r ≡ 255 ∷ s → ⊥
byte-no-end b true f r s e = omega (arith, ltb-true b 254 f, ap head e)
byte-no-end b false f r s e = omega (arith, ap head e)

bytes-same : (xs ys r s : List ℕ) → bytes_codes xs ++ r ≡ bytes_codes ys ++ s → (xs ≡ ys) × (r ≡ s)
bytes-same [] [] r s e = (refl, ap (drop 1) e)
bytes-same [] (y ∷ ys) r s e =
    absurd (byte-no-end y (nat_lt y 254) refl (bytes_codes ys ++ s) r (ap (λ l. l ++ (bytes_codes ys ++ s)) (sym (is-written y (nat_lt y 254) refl)) ∙ sym (append_assoc (escaped y) (bytes_codes ys) s) ∙ sym e))
bytes-same (x ∷ xs) [] r s e =
    absurd (byte-no-end x (nat_lt x 254) refl (bytes_codes xs ++ r) s (ap (λ l. l ++ (bytes_codes xs ++ r)) (sym (is-written x (nat_lt x 254) refl)) ∙ sym (append_assoc (escaped x) (bytes_codes xs) r) ∙ e))
bytes-same (x ∷ xs) (y ∷ ys) r s e =
    let R = bytes_codes xs ++ r in
    let S = bytes_codes ys ++ s in
    let apart : written (nat_lt x 254) x ++ R ≡ written (nat_lt y 254) y ++ S = ap (λ l. l ++ R) (sym (is-written x (nat_lt x 254) refl)) ∙ sym (append_assoc (escaped x) (bytes_codes xs) r) ∙ e ∙ append_assoc (escaped y) (bytes_codes ys) s ∙ ap (λ l. l ++ S) (is-written y (nat_lt y 254) refl) in
    let byte = byte-same x y (nat_lt x 254) (nat_lt y 254) refl refl R S apart in
    let rest = bytes-same xs ys r s byte.1 in
    (ap (λ z. z ∷ xs) byte.0 ∙ ap (λ zs. y ∷ zs) rest.0, rest.1)

-- no key begins with the end of a tuple
head-small : (a : KeyValue) (r : List ℕ) → head (codes_of a ++ r) < 255
head-small none r = omega arith
head-small ellipsis r = omega arith
head-small not_implemented r = omega arith
head-small (number z) r = omega arith
head-small (text t) r = omega arith
head-small (tuple k) r = omega arith
head-small (object p) r = omega arith

mutual
  key-same : (a b : KeyValue) (r s : List ℕ) → AreShort a → AreShort b → codes_of a ++ r ≡ codes_of b ++ s → (a ≡ b) × (r ≡ s)
  key-same none none r s k l e = (refl, ap (drop 1) e)
  key-same none ellipsis r s m l e = absurd (omega (arith, ap head e))
  key-same none not_implemented r s m l e = absurd (omega (arith, ap head e))
  key-same none (number z₂) r s m l e = absurd (omega (arith, ap head e))
  key-same none (text t₂) r s m l e = absurd (omega (arith, ap head e))
  key-same none (tuple k₂) r s m l e = absurd (omega (arith, ap head e))
  key-same none (object p₂) r s m l e = absurd (omega (arith, ap head e))
  key-same ellipsis none r s m l e = absurd (omega (arith, ap head e))
  key-same ellipsis ellipsis r s k l e = (refl, ap (drop 1) e)
  key-same ellipsis not_implemented r s m l e = absurd (omega (arith, ap head e))
  key-same ellipsis (number z₂) r s m l e = absurd (omega (arith, ap head e))
  key-same ellipsis (text t₂) r s m l e = absurd (omega (arith, ap head e))
  key-same ellipsis (tuple k₂) r s m l e = absurd (omega (arith, ap head e))
  key-same ellipsis (object p₂) r s m l e = absurd (omega (arith, ap head e))
  key-same not_implemented none r s m l e = absurd (omega (arith, ap head e))
  key-same not_implemented ellipsis r s m l e = absurd (omega (arith, ap head e))
  key-same not_implemented not_implemented r s k l e = (refl, ap (drop 1) e)
  key-same not_implemented (number z₂) r s m l e = absurd (omega (arith, ap head e))
  key-same not_implemented (text t₂) r s m l e = absurd (omega (arith, ap head e))
  key-same not_implemented (tuple k₂) r s m l e = absurd (omega (arith, ap head e))
  key-same not_implemented (object p₂) r s m l e = absurd (omega (arith, ap head e))
  key-same (number z) none r s m l e = absurd (omega (arith, ap head e))
  key-same (number z) ellipsis r s m l e = absurd (omega (arith, ap head e))
  key-same (number z) not_implemented r s m l e = absurd (omega (arith, ap head e))
  key-same (number z) (number z₂) r s k l e = let same = bytes-same (signed_decimal z) (signed_decimal z₂) r s (ap (drop 1) e) in (ap number (number-same z z₂ k l same.0), same.1)
  key-same (number z) (text t₂) r s m l e = absurd (omega (arith, ap head e))
  key-same (number z) (tuple k₂) r s m l e = absurd (omega (arith, ap head e))
  key-same (number z) (object p₂) r s m l e = absurd (omega (arith, ap head e))
  key-same (text t) none r s m l e = absurd (omega (arith, ap head e))
  key-same (text t) ellipsis r s m l e = absurd (omega (arith, ap head e))
  key-same (text t) not_implemented r s m l e = absurd (omega (arith, ap head e))
  key-same (text t) (number z₂) r s m l e = absurd (omega (arith, ap head e))
  key-same (text t) (text t₂) r s k l e = let same = bytes-same t t₂ r s (ap (drop 1) e) in (ap text same.0, same.1)
  key-same (text t) (tuple k₂) r s m l e = absurd (omega (arith, ap head e))
  key-same (text t) (object p₂) r s m l e = absurd (omega (arith, ap head e))
  key-same (tuple k) none r s m l e = absurd (omega (arith, ap head e))
  key-same (tuple k) ellipsis r s m l e = absurd (omega (arith, ap head e))
  key-same (tuple k) not_implemented r s m l e = absurd (omega (arith, ap head e))
  key-same (tuple k) (number z₂) r s m l e = absurd (omega (arith, ap head e))
  key-same (tuple k) (text t₂) r s m l e = absurd (omega (arith, ap head e))
  key-same (tuple k) (tuple k₂) r s m l e = let same = keys-same k k₂ r s m l (ap (drop 1) e) in (ap tuple same.0, same.1)
  key-same (tuple k) (object p₂) r s m l e = absurd (omega (arith, ap head e))
  key-same (object p) none r s m l e = absurd (omega (arith, ap head e))
  key-same (object p) ellipsis r s m l e = absurd (omega (arith, ap head e))
  key-same (object p) not_implemented r s m l e = absurd (omega (arith, ap head e))
  key-same (object p) (number z₂) r s m l e = absurd (omega (arith, ap head e))
  key-same (object p) (text t₂) r s m l e = absurd (omega (arith, ap head e))
  key-same (object p) (tuple k₂) r s m l e = absurd (omega (arith, ap head e))
  key-same (object p) (object p₂) r s k l e = let same = bytes-same (signed_decimal (pos p)) (signed_decimal (pos p₂)) r s (ap (drop 1) e) in (ap object (decimal-same p p₂ k l same.0), same.1)

  keys-same : (a b : KeyValues) (r s : List ℕ) → AllShort a → AllShort b → list_codes a ++ r ≡ list_codes b ++ s → (a ≡ b) × (r ≡ s)
  keys-same no_keys no_keys r s k l e = (refl, ap (drop 1) e)
  keys-same no_keys (more_keys b bs) r s k l e = absurd (omega (arith, ap head (e ∙ append_assoc (codes_of b) (list_codes bs) s), head-small b (list_codes bs ++ s)))
  keys-same (more_keys a us) no_keys r s k l e = absurd (omega (arith, ap head (sym e ∙ append_assoc (codes_of a) (list_codes us) r), head-small a (list_codes us ++ r)))
  keys-same (more_keys a us) (more_keys b bs) r s k l e =
      let first = key-same a b (list_codes us ++ r) (list_codes bs ++ s) k.0 l.0 (sym (append_assoc (codes_of a) (list_codes us) r) ∙ e ∙ append_assoc (codes_of b) (list_codes bs) s) in
      let rest = keys-same us bs r s k.1 l.1 first.1 in
      (ap (λ x. more_keys x us) first.0 ∙ ap (λ xs. more_keys b xs) rest.0, rest.1)

pub codes-same : (a b : KeyValue) → AreShort a → AreShort b → codes_of a ≡ codes_of b → a ≡ b
codes-same a b k l e = (key-same a b [] [] k l (ap (λ c. c ++ []) e)).0
