-- Reading and spelling: what is read is spelled so, and what is spelled is read.
use Rattle.std.proofs.Common.{◌≡◌, ℕ, zero, suc, ◌+◌, ◌<◌, ◌≤◌, Bool, true, false, cond, List, [], ◌∷◌, ◌++◌, length, get_or, take, drop, Result, Ok, Err, refl, sym, ap, subst, ◌∙◌, append_assoc, arith}
use Rattle.std.specs.Prelude.{nat_lt}
use Rattle.std.specs.List.{flat_map, AllByRecursion}
use Rattle.std.specs.Str.{is_utf8}
use Rattle.std.specs.Int.{w32, from_le_bytes, to_le_bytes}
use Rattle.std.proofs.lemmas.Nat.{le_bytes_4, from_le_bytes-to_le_bytes_4}
use Rattle.std.proofs.lemmas.Bool.{ltb-false, le-ltb}
use Rattle.std.proofs.lemmas.Bool.Decides.{nat_tests}
use Rattle.std.proofs.lemmas.List.{take_at, drop_at, take-append-drop, length-append, length-take, get_or-drop}
use Rattle.std.proofs.lemmas.List.Concat.{flat_map-cons}
use Rattle.std.proofs.lemmas.Str.{IsUtf8-from_is_utf8, is_utf8-from_IsUtf8}
use Rattle.pt_code.specs.declared.parts.Bad.{Bad}
use Rattle.pt_code.specs.declared.parts.Bad.TheVariants as bad
use Rattle.pt_code.specs.File.{number, listed, text, IsNumber, IsBelow, IsText, AreListed}
use Rattle.pt_code.specs.Reading.{Read, ◌>>=◌, both, made, kept, number_at, below_at, items_at, list_at, counted_at, taken_at, string_at, text_at}

abbrev pub AreBytes : List ℕ → Type 0
AreBytes bytes = (i : ℕ) → get_or bytes i 0 < 256

pub bytes_behind : (k : ℕ) (bytes : List ℕ) → AreBytes bytes → AreBytes (drop k bytes)
bytes_behind k bytes are i = rw get_or-drop (are (k + i))

pub rest_are : (b : ℕ) (bytes : List ℕ) → AreBytes (b ∷ bytes) → AreBytes bytes
rest_are b bytes are i = are (suc i)

-- what a reader takes from the front
pub record Takes (bytes text rest : List ℕ) : Type 0 where
  pub parts : bytes ≡ text ++ rest
  pub rest_fits : AreBytes rest

pub takes_then : (a x b y c : List ℕ) → Takes a x b → Takes b y c → Takes a (x ++ y) c
takes_then a x b y c p q = record { parts = p.parts ∙ ap (λ (t : List ℕ). x ++ t) q.parts ∙ sym (append_assoc x y c); rest_fits = q.rest_fits }

-- the value of a step that did not fail
pub bind_ok : {A B : Type 0} (r : Result A Bad) (f : A → Result B Bad) (y : B) → (r >>= f) ≡ Ok y → (x : A) × (r ≡ Ok x) × (f x ≡ Ok y)
bind_ok (Ok x) f y e = (x, refl, e)
bind_ok (Err d) f y e = absurd cc

-- a test that did not fail
pub guard_ok : {A : Type 0} (b : Bool) (d : Bad) (x y : A) → cond b (Ok x) (Err d) ≡ Ok y → (b ≡ true) × (x ≡ y)
guard_ok true d x y e = (refl, cc)
guard_ok false d x y e = absurd cc

abbrev done : {A : Type 0} → A → Result A Bad
done x = Ok x

pub ok_is : {A : Type 0} (x y : A) → done x ≡ done y → x ≡ y
ok_is x y e = cc

pub record IsCodec {A : Type 0} (W : A → Type 0) (s : A → List ℕ) (r : List ℕ → Read A) : Type 0 where
  -- what is read is spelled so
  pub takes : (bytes : List ℕ) (x : A) (rest : List ℕ) → AreBytes bytes → r bytes ≡ Ok (x, rest) → Takes bytes (s x) rest × W x
  -- what is spelled is read
  pub again : (x : A) (rest : List ℕ) → W x → r (s x ++ rest) ≡ Ok (x, rest)

pub same_codec : {A : Type 0} (W V : A → Type 0) (s : A → List ℕ) (r : List ℕ → Read A) → ((x : A) → W x → V x) → ((x : A) → V x → W x) → IsCodec W s r → IsCodec V s r
same_codec W V s r there back c = record {
  takes = λ bytes x rest fits e. let one = c.takes bytes x rest fits e in (one.0, there x one.1);
  again = λ x rest v. c.again x rest (back x v);
}

pub both_codec : {A B : Type 0} (V : A → Type 0) (W : A → B → Type 0) (s : A → List ℕ) (t : B → List ℕ) (r : List ℕ → Read A) (q : A → List ℕ → Read B)
    → IsCodec V s r → ((a : A) → V a → IsCodec (W a) t (q a)) → IsCodec {A = A × B} (λ p. V p.0 × W p.0 p.1) (λ p. s p.0 ++ t p.1) (both r q)
both_codec {A} {B} V W s t r q first second = record {
  takes = λ bytes x rest fits e.
      let a = bind_ok (r bytes) (λ a. q a.0 a.1 >>= λ b. Ok ((a.0, b.0), b.1)) (x, rest) e in
      let b = bind_ok (q a.0.0 a.0.1) (λ b. Ok ((a.0.0, b.0), b.1)) (x, rest) a.2 in
      let one = first.takes bytes a.0.0 a.0.1 fits a.1 in
      let two = (second a.0.0 one.1).takes a.0.1 b.0.0 b.0.1 one.0.rest_fits b.1 in
      let together = takes_then bytes (s a.0.0) a.0.1 (t b.0.0) b.0.1 one.0 two.0 in
      let found : (A × B) × List ℕ = ((a.0.0, b.0.0), b.0.1) in
      subst (λ (y : (A × B) × List ℕ). Takes bytes (s y.0.0 ++ t y.0.1) y.1 × (V y.0.0 × W y.0.0 y.0.1)) (ok_is found (x, rest) b.2) (together, (one.1, two.1));
  again = λ x rest w. ap (both r q) (append_assoc (s x.0) (t x.1) rest) ∙ rw (first.again x.0 (t x.1 ++ rest) w.0, (second x.0 w.0).again x.1 rest w.1) refl;
}

pub made_codec : {A B : Type 0} (W : A → Type 0) (s : A → List ℕ) (make : A → B) (view : B → A) (r : List ℕ → Read A)
    → ((b : B) → make (view b) ≡ b) → ((a : A) → view (make a) ≡ a) → IsCodec W s r → IsCodec {A = B} (λ b. W (view b)) (λ b. s (view b)) (made make r)
made_codec {A} {B} W s make view r there back c = record {
  takes = λ bytes x rest fits e.
      let a = bind_ok (r bytes) (λ a. Ok (make a.0, a.1)) (x, rest) e in
      let one = c.takes bytes a.0.0 a.0.1 fits a.1 in
      let found : B × List ℕ = (make a.0.0, a.0.1) in
      let seen = subst (λ (z : A). Takes bytes (s z) a.0.1 × W z) (sym (back a.0.0)) one in
      subst (λ (y : B × List ℕ). Takes bytes (s (view y.0)) y.1 × W (view y.0)) (ok_is found (x, rest) a.2) seen;
  again = λ x rest w. rw (c.again (view x) rest w) (λ k. Ok (there x k, rest));
}

pub kept_codec : {A : Type 0} (W : A → Type 0) (s : A → List ℕ) (test : A → Bool) (r : List ℕ → Read A) → IsCodec W s r → IsCodec {A = A} (λ a. W a × (test a ≡ true)) s (kept test r)
kept_codec {A} W s test r c = record {
  takes = λ bytes x rest fits e.
      let a = bind_ok (r bytes) (λ a. cond (test a.0) (Ok a) (Err (bad.Field (length bytes)))) (x, rest) e in
      let g = guard_ok (test a.0.0) (bad.Field (length bytes)) a.0 (x, rest) a.2 in
      let one = c.takes bytes a.0.0 a.0.1 fits a.1 in
      subst (λ (y : A × List ℕ). Takes bytes (s y.0) y.1 × (W y.0 × (test y.0 ≡ true))) g.1 (one.0, (one.1, g.0));
  again = λ x rest w. rw (c.again x rest w.0, w.1) refl;
}

-- ---- lists

items_take : {A : Type 0} (W : A → Type 0) (s : A → List ℕ) (r : List ℕ → Read A) → IsCodec W s r → (n : ℕ) (bytes : List ℕ) (x : List A × List ℕ) → AreBytes bytes → items_at r n bytes ≡ Ok x
    → Takes bytes (flat_map s x.0) x.1 × (length x.0 ≡ n) × AllByRecursion W x.0
items_take {A} W s r c zero bytes x fits e =
    let found : List A × List ℕ = ([], bytes) in
    subst (λ (y : List A × List ℕ). Takes bytes (flat_map s y.0) y.1 × (length y.0 ≡ 0) × AllByRecursion W y.0) (ok_is found x e) (record { parts = refl; rest_fits = fits }, refl, tt)
items_take {A} W s r c (suc n) bytes x fits e =
    let a = bind_ok (r bytes) (λ first. items_at r n first.1 >>= λ others. Ok (first.0 ∷ others.0, others.1)) x e in
    let b = bind_ok (items_at r n a.0.1) (λ others. Ok (a.0.0 ∷ others.0, others.1)) x a.2 in
    let first = c.takes bytes a.0.0 a.0.1 fits a.1 in
    let second = items_take W s r c n a.0.1 b.0 first.0.rest_fits b.1 in
    let together = takes_then bytes (s a.0.0) a.0.1 (flat_map s b.0.0) b.0.1 first.0 second.0 in
    let found : List A × List ℕ = (a.0.0 ∷ b.0.0, b.0.1) in
    subst (λ (y : List A × List ℕ). Takes bytes (flat_map s y.0) y.1 × (length y.0 ≡ suc n) × AllByRecursion W y.0) (ok_is found x b.2) (rw flat_map-cons together, ap suc second.1, (first.1, second.2))

items_again : {A : Type 0} (W : A → Type 0) (s : A → List ℕ) (r : List ℕ → Read A) → IsCodec W s r → (xs : List A) (rest : List ℕ) → AllByRecursion W xs → items_at r (length xs) (flat_map s xs ++ rest) ≡ Ok (xs, rest)
items_again W s r c [] rest all = refl
items_again W s r c (x ∷ xs) rest all =
    let regrouped : flat_map s (x ∷ xs) ++ rest ≡ s x ++ (flat_map s xs ++ rest) = ap (λ (l : List ℕ). l ++ rest) (flat_map-cons s x xs) ∙ append_assoc (s x) (flat_map s xs) rest in
    ap (items_at r (suc (length xs))) regrouped ∙ rw (c.again x (flat_map s xs ++ rest) all.0, items_again W s r c xs rest all.1) refl

-- so many items in a row
pub items_codec : {A : Type 0} (W : A → Type 0) (s : A → List ℕ) (r : List ℕ → Read A) → IsCodec W s r → (n : ℕ) → IsCodec {A = List A} (λ xs. (length xs ≡ n) × AllByRecursion W xs) (flat_map s) (items_at r n)
items_codec W s r c n = record {
  takes = λ bytes x rest fits e. let one = items_take W s r c n bytes (x, rest) fits e in (one.0, (one.1, one.2));
  again = λ x rest w. rw (← w.0) (items_again W s r c x rest w.1);
}

-- ---- numbers

first_four : (a b c d : ℕ) (bytes : List ℕ) → AreBytes (a ∷ b ∷ c ∷ d ∷ bytes) → AreBytes (a ∷ b ∷ c ∷ d ∷ [])
first_four a b c d bytes are zero = are 0
first_four a b c d bytes are (suc zero) = are 1
first_four a b c d bytes are (suc (suc zero)) = are 2
first_four a b c d bytes are (suc (suc (suc zero))) = are 3
first_four a b c d bytes are (suc (suc (suc (suc i)))) = omega arith

number_takes : (bytes : List ℕ) (n : ℕ) (rest : List ℕ) → AreBytes bytes → number_at bytes ≡ Ok (n, rest) → Takes bytes (number n) rest × IsNumber n
unfolding number_at number
number_takes (a ∷ b ∷ c ∷ d ∷ bytes) n rest fits e =
    let four = first_four a b c d bytes fits in
    let found : ℕ × List ℕ = (from_le_bytes w32 (a ∷ b ∷ c ∷ d ∷ []), bytes) in
    let back = le_bytes_4 (a ∷ b ∷ c ∷ d ∷ []) found.0 refl four refl in
    let front : Takes (a ∷ b ∷ c ∷ d ∷ bytes) (to_le_bytes w32 found.0) bytes = record { parts = sym (ap (λ (l : List ℕ). l ++ bytes) back); rest_fits = λ i. fits (suc (suc (suc (suc i)))) } in
    subst (λ (y : ℕ × List ℕ). Takes (a ∷ b ∷ c ∷ d ∷ bytes) (to_le_bytes w32 y.0) y.1 × IsNumber y.0) (ok_is found (n, rest) e) (front, omega (arith, four 0, four 1, four 2, four 3))
number_takes bytes n rest fits e = absurd cc

number_again : (n : ℕ) (rest : List ℕ) → IsNumber n → number_at (number n ++ rest) ≡ Ok (n, rest)
unfolding number_at number
number_again n rest small = λ k. Ok (from_le_bytes-to_le_bytes_4 n small k, rest)

pub number_codec : IsCodec IsNumber number number_at
number_codec = record { takes = number_takes; again = number_again }

pub list_codec : {A : Type 0} (W : A → Type 0) (s : A → List ℕ) (r : List ℕ → Read A) → IsCodec W s r → IsCodec {A = List A} (AreListed W) (listed s) (list_at r)
list_codec {A} W s r c = record {
  takes = λ bytes x rest fits e.
      let a = bind_ok (number_at bytes) (λ count. items_at r count.0 count.1) (x, rest) e in
      let one = number_codec.takes bytes a.0.0 a.0.1 fits a.1 in
      let two = items_take W s r c a.0.0 a.0.1 (x, rest) one.0.rest_fits a.2 in
      let together = takes_then bytes (number a.0.0) a.0.1 (flat_map s x) rest one.0 two.0 in
      (subst (λ (k : ℕ). Takes bytes (number k ++ flat_map s x) rest) (sym two.1) together, (subst IsNumber (sym two.1) one.1, two.2));
  again = λ x rest w. ap (list_at r) (append_assoc (number (length x)) (flat_map s x) rest) ∙ rw (number_codec.again (length x) (flat_map s x ++ rest) w.0) (items_again W s r c x rest w.1);
}

-- a list whose count passes a test
pub counted_codec : {A : Type 0} (W : A → Type 0) (s : A → List ℕ) (r : List ℕ → Read A) (test : ℕ → Bool) → IsCodec W s r → IsCodec {A = List A} (λ xs. AreListed W xs × (test (length xs) ≡ true)) (listed s) (counted_at test r)
counted_codec {A} W s r test c = record {
  takes = λ bytes x rest fits e.
      let a = bind_ok (kept test number_at bytes) (λ count. items_at r count.0 count.1) (x, rest) e in
      let one = (kept_codec IsNumber number test number_at number_codec).takes bytes a.0.0 a.0.1 fits a.1 in
      let two = items_take W s r c a.0.0 a.0.1 (x, rest) one.0.rest_fits a.2 in
      let together = takes_then bytes (number a.0.0) a.0.1 (flat_map s x) rest one.0 two.0 in
      (subst (λ (k : ℕ). Takes bytes (number k ++ flat_map s x) rest) (sym two.1) together, ((subst IsNumber (sym two.1) one.1.0, two.2), subst (λ (k : ℕ). test k ≡ true) (sym two.1) one.1.1));
  again = λ x rest w. ap (counted_at test r) (append_assoc (number (length x)) (flat_map s x) rest) ∙ rw ((kept_codec IsNumber number test number_at number_codec).again (length x) (flat_map s x ++ rest) (w.0.0, w.1)) (items_again W s r c x rest w.0.1);
}

below_from : (a b : ℕ) → nat_lt a b ≡ true → a < b
below_from a b e = grind (arith, nat_tests)

below_true : (a b : ℕ) → a < b → nat_lt a b ≡ true
below_true a b h = grind (arith, nat_tests)

pub below_codec : (bound : ℕ) → IsCodec (IsBelow bound) number (below_at bound)
unfolding below_at
below_codec bound =
    same_codec (λ n. IsNumber n × (nat_lt n bound ≡ true)) (IsBelow bound) number (below_at bound) (λ n w. (w.0, below_from n bound w.1)) (λ n w. (w.0, below_true n bound w.1))
    (kept_codec IsNumber number (λ n. nat_lt n bound) number_at number_codec)

-- ---- texts

guard_not : {A : Type 0} (b : Bool) (d : Bad) (x y : A) → cond b (Err d) (Ok x) ≡ Ok y → (b ≡ false) × (x ≡ y)
guard_not true d x y e = absurd cc
guard_not false d x y e = (refl, cc)

pub taken_codec : (n : ℕ) → IsCodec {A = List ℕ} (λ x. length x ≡ n) (λ x. x) (taken_at n)
unfolding taken_at
taken_codec n = record {
  takes = λ bytes x rest fits e.
      let g = guard_not (nat_lt (length bytes) n) bad.Short (take n bytes, drop n bytes) (x, rest) e in
      let long : n ≤ length bytes = ltb-false _ _ g.0 in
      subst (λ (y : List ℕ × List ℕ). Takes bytes y.0 y.1 × (length y.0 ≡ n)) g.1 (record { parts = sym (take-append-drop n bytes); rest_fits = bytes_behind n bytes fits }, omega (arith, length-take n bytes));
  again = λ x rest len.
      let long : nat_lt (length (x ++ rest)) n ≡ false = le-ltb _ _ (omega (arith, length-append x rest)) in
      rw (long, take_at x rest n len, drop_at x rest n len) refl;
}

string_codec : IsCodec {A = List ℕ} (λ x. IsNumber (length x)) text string_at
string_codec = record {
  takes = λ bytes x rest fits e.
      let a = bind_ok (number_at bytes) (λ count. taken_at count.0 count.1) (x, rest) e in
      let one = number_codec.takes bytes a.0.0 a.0.1 fits a.1 in
      let two = (taken_codec a.0.0).takes a.0.1 x rest one.0.rest_fits a.2 in
      let together = takes_then bytes (number a.0.0) a.0.1 x rest one.0 two.0 in
      (subst (λ (k : ℕ). Takes bytes (number k ++ x) rest) (sym two.1) together, subst IsNumber (sym two.1) one.1);
  again = λ x rest w. ap string_at (append_assoc (number (length x)) x rest) ∙ rw (number_codec.again (length x) (x ++ rest) w) ((taken_codec (length x)).again x rest refl);
}

pub text_codec : IsCodec IsText text text_at
unfolding text_at
text_codec =
    same_codec (λ x. IsNumber (length x) × (is_utf8 x ≡ true)) IsText text text_at (λ x w. (w.0, IsUtf8-from_is_utf8 x w.1)) (λ x w. (w.0, is_utf8-from_IsUtf8 x w.1))
    (kept_codec {A = List ℕ} (λ x. IsNumber (length x)) text is_utf8 string_at string_codec)
