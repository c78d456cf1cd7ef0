-- The longest word at the front of a text.
use Rattle.std.proofs.Common.{◌≡◌, ℕ, zero, suc, ◌+◌, ◌≤◌, ◌<◌, List, [], ◌∷◌, ◌++◌, Bool, true, false, Option, Some, None, MatchOption, Bor, refl, sym, ◌∙◌, ap, subst, arith, inl, inr, length, get_or, map, take, append-nil, nat_lt, nat_le, cond, length-take}
use Rattle.std.specs.Prelude.{◌&&◌, ◌||◌, ◌==◌, filter, encode_utf8, encode_utf8_all, is_some, if◌then◌else◌}
use Rattle.std.specs.List.{list_all, prefix_len}
use Rattle.std.specs.Str.{bytes_eq}
use Rattle.std.specs.Cmp.Lexicographic.{bytes_decides}
use Rattle.std.proofs.lemmas.Bool.{both_ways, and_parts, eq-eqb, cases_Bool, cases_eq, ltb-true, leb-true, le-leb, lt-leb, true≢false, and_from, or_left, or_right, and_left, and_right}
use Rattle.std.proofs.lemmas.List.{take_more, map-append, take-map}
use Rattle.std.proofs.lemmas.Str.{encodes-append}
use Rattle.pt_lexer.specs.declared.TheConstants.{OPERATORS}
use Rattle.pt_literals.specs.declared.source.Spot.{Spot}
use Rattle.pt_literals.specs.declared.token.TokenKind.TheVariants as kind
use Rattle.pt_literals.specs.Source.{chars_of}
use Rattle.pt_literals.specs.Source.{starts_name, continues_name}
use Rattle.pt_lexer.specs.Words.{is_listed, is_operator, is_keyword, all_ascii, is_identifier, Spells, LongestFront, has_operator}
use Rattle.std.specs.Char.{is_ascii}
use Rattle.std.proofs.lemmas.Str.{encode_ascii}
use Rattle.pt_tables.specs.Names.{keyword_names}
use Rattle.pt_tables.specs.Rows.{value_of, numbered}
use Rattle.pt_lexer.proofs.Fronts.{listed_passes}

one-add : (n : ℕ) → 1 + n ≡ suc n
one-add n = omega arith

abbrev pub spelt : List (Bor (List ℕ)) → List (List ℕ)
spelt ks = map (λ k. k.now) ks

neither : (a b : Bool) → (a || b) ≡ false → (a ≡ false) × (b ≡ false)
neither true b h = absurd (true≢false h)
neither false b h = (refl, h)

listed-append : (ks : List (List ℕ)) (k x : List ℕ) → is_listed ks x ≡ false → bytes_eq k x ≡ false → is_listed (ks ++ k ∷ []) x ≡ false
listed-append [] k x h e = ap (λ b. b || false) e
listed-append (y ∷ ks) k x h e =
    let parts = neither (bytes_eq y x) (is_listed ks x) h in
    rw parts.0 (listed-append ks k x parts.1 e)

differs : (k x : List ℕ) → (k ≡ x → ⊥) → bytes_eq k x ≡ false
differs k x n = elim (cases_Bool (bytes_eq k x)) [ inl h ↦ absurd (n ((bytes_decides k x).0 h)) | inr h ↦ h ]

pub listed_more : (ks : List (Bor (List ℕ))) (i : ℕ) (d : Bor (List ℕ)) (x : List ℕ) → i < length ks → is_listed (spelt (take i ks)) x ≡ false → ((get_or ks i d).now ≡ x → ⊥)
    → is_listed (spelt (take (i + 1) ks)) x ≡ false
listed_more ks i d x lt h n =
    rw (take_more ks i d lt, map-append) (listed-append (spelt (take i ks)) (get_or ks i d).now x h (differs _ x n))

pub listed_at : (ks : List (Bor (List ℕ))) (i : ℕ) (d : Bor (List ℕ)) (x : List ℕ) → i < length ks → (get_or ks i d).now ≡ x → is_listed (spelt ks) x ≡ true
listed_at [] i d x lt e = absurd (omega arith)
listed_at (k ∷ ks) zero d x lt e = or_left (bytes_eq k.now x) _ ((bytes_decides k.now x).1 e)
listed_at (k ∷ ks) (suc i) d x lt e = or_right (bytes_eq k.now x) _ (listed_at ks i d x (omega arith) e)

pub listed_is_some : (o : Option (Bor (List ℕ))) (b : Bool) (x : List ℕ) → MatchOption o (b ≡ false) (λ k. (k.now ≡ x) × (b ≡ true)) → is_some o ≡ b
listed_is_some None b x h = sym h
listed_is_some (Some k) b x h = sym h.1

pub listed_as : (o : Option (Bor (List ℕ))) (a b : Bool) (x : List ℕ) → a ≡ b → MatchOption o (a ≡ false) (λ k. (k.now ≡ x) × (a ≡ true)) → MatchOption o (b ≡ false) (λ k. (k.now ≡ x) × (b ≡ true))
listed_as o a b x e h = subst (λ y. MatchOption o (y ≡ false) (λ k. (k.now ≡ x) × (y ≡ true))) e h

-- a text is listed where it is listed among those of its length
other_length : (k x : List ℕ) (n : ℕ) → length x ≡ n → (length k == n) ≡ false → bytes_eq k x ≡ false
other_length k x n h d = differs k x (λ e. both_ways (length k == n) d (eq-eqb (length k) n (ap length e ∙ h)))

listed_by_length : (n : ℕ) (ks : List (List ℕ)) (x : List ℕ) → length x ≡ n → is_listed (filter (λ k. length k == n) ks) x ≡ is_listed ks x
listed_by_length n [] x h = refl
listed_by_length n (k ∷ ks) x h = go (listed_by_length n ks x h) (length k == n) refl
  where
    go : is_listed (filter (λ k. length k == n) ks) x ≡ is_listed ks x → (b : Bool) → (length k == n) ≡ b
        → is_listed (cond b (k ∷ filter (λ k. length k == n) ks) (filter (λ k. length k == n) ks)) x ≡ (bytes_eq k x || is_listed ks x)
    go e true d = ap (λ b. bytes_eq k x || b) e
    go e false d = rw (other_length k x n h d) e

pub operators_by_length : (n : ℕ) (x : List ℕ) → length x ≡ n → is_listed (filter (λ k. length k == n) (map (λ k. k.now) OPERATORS)) x ≡ is_operator x
unfolding is_operator
operators_by_length n x h = listed_by_length n (map (λ k. k.now) OPERATORS) x h

-- the identifier at the front
abbrev pub continues_at : Spot → Bool
continues_at s = continues_name s.char

abbrev RunPasses : List Spot → Type 0
RunPasses ss = list_all continues_name (take (prefix_len continues_at ss) (chars_of ss)) ≡ true

run_step : (s : Spot) (ss : List Spot) (b : Bool) → continues_name s.char ≡ b → RunPasses ss → RunPasses (s ∷ ss)
run_step s ss true h more = rw (h, one-add (prefix_len continues_at ss)) (and_from (continues_name s.char) _ h more)
run_step s ss false h more = rw h refl

run_passes : (ss : List Spot) → RunPasses ss
run_passes [] = refl
run_passes (s ∷ ss) = run_step s ss (continues_name s.char) refl (run_passes ss)

abbrev PastRun : List Spot → ℕ → Type 0
PastRun ss m = prefix_len continues_at ss < m → m ≤ length (chars_of ss) → list_all continues_name (take m (chars_of ss)) ≡ false

past_step : (s : Spot) (ss : List Spot) (m : ℕ) (b : Bool) → continues_name s.char ≡ b → PastRun ss m → PastRun (s ∷ ss) (suc m)
past_step s ss m true e more h k = let shorter = rw e at h in rw e (more (omega arith) (omega arith))
past_step s ss m false e more h k = rw e refl

past_run : (ss : List Spot) (m : ℕ) → PastRun ss m
past_run [] m h k = absurd (omega arith)
past_run (s ∷ ss) zero h k = absurd (omega arith)
past_run (s ∷ ss) (suc m) h k = past_step s ss m (continues_name s.char) refl (past_run ss m) h k

length-chars_of : (ss : List Spot) → length (chars_of ss) ≡ length ss
length-chars_of [] = refl
length-chars_of (s ∷ ss) = ap suc (length-chars_of ss)

prefix_within : (ss : List Spot) → prefix_len continues_at ss ≤ length (chars_of ss)
prefix_within [] = omega arith
prefix_within (s ∷ ss) = within_step (continues_name s.char) (prefix_len continues_at ss) (length (chars_of ss)) (prefix_within ss)
  where
    within_step : (b : Bool) (m n : ℕ) → m ≤ n → cond b (1 + m) 0 ≤ suc n
    within_step true m n h = omega arith
    within_step false m n h = omega arith

identifier_past : (s : Spot) (ss : List Spot) (m : ℕ) → 1 + prefix_len continues_at ss < m → m ≤ length (chars_of (s ∷ ss)) → is_identifier (take m (chars_of (s ∷ ss))) ≡ false
identifier_past s ss zero h k = absurd (omega arith)
identifier_past s ss (suc m) h k = and_right (starts_name s.char) _ (past_run ss m (omega arith) (omega arith))

-- The first character of an identifier, and all that go on with it, are the longest one.
pub longest_identifier : (s : Spot) (ss text : List Spot) → text ≡ s ∷ ss → starts_name s.char ≡ true → LongestFront is_identifier (chars_of text) (1 + prefix_len continues_at ss)
longest_identifier s ss text e h =
    subst (λ t. LongestFront is_identifier (chars_of t) (1 + prefix_len continues_at ss)) (sym e) (record {
      within = let w = prefix_within ss in omega arith;
      passes = λ p. rw one-add (and_from (starts_name s.char) _ h (run_passes ss));
      longest = identifier_past s ss;
    })

none_begins : (cs : List ℕ) (m : ℕ) → 0 < m → is_identifier (take m []) ≡ false
none_begins cs zero h = absurd (omega arith)
none_begins cs (suc m) h = refl

pub no_identifier_at_end : (text : List Spot) → length text ≡ 0 → LongestFront is_identifier (chars_of text) 0
no_identifier_at_end [] h = record { within = omega arith; passes = λ p. absurd (omega arith); longest = λ m p k. absurd (omega arith) }
no_identifier_at_end (s ∷ ss) h = absurd (omega arith)

stranger : (s : Spot) (ss : List Spot) (m : ℕ) → starts_name s.char ≡ false → 0 < m → is_identifier (take m (chars_of (s ∷ ss))) ≡ false
stranger s ss zero h k = absurd (omega arith)
stranger s ss (suc m) h k = and_left (starts_name s.char) _ h

pub no_identifier : (s : Spot) (ss text : List Spot) → text ≡ s ∷ ss → starts_name s.char ≡ false → LongestFront is_identifier (chars_of text) 0
no_identifier s ss text e h = subst (λ t. LongestFront is_identifier (chars_of t) 0) (sym e) (record {
  within = omega arith;
  passes = λ p. absurd (omega arith);
  longest = λ m p k. stranger s ss m h p;
})

-- operators have up to three characters
pub operator_short : (x : List ℕ) → is_operator x ≡ true → (0 < length x) × (length x ≤ 3)
unfolding is_operator
operator_short x h =
    let p = and_parts (nat_lt 0 (length x)) (nat_le (length x) 3) (listed_passes (λ y. nat_lt 0 (length y) && nat_le (length y) 3) (map (λ k. k.now) OPERATORS) x refl h) in
    (ltb-true 0 (length x) p.0, leb-true (length x) 3 p.1)

pub no_operator : (n : ℕ) (x : List ℕ) → (n ≡ 1 → ⊥) → (n ≡ 2 → ⊥) → (n ≡ 3 → ⊥) → length x ≡ n → false ≡ is_operator x
no_operator n x a b c h = elim (cases_Bool (is_operator x)) [ inl o ↦ absurd (let p = operator_short x o in omega (arith, p.0, p.1)) | inr o ↦ sym o ]

abbrev NoLonger : List ℕ → ℕ → Type 0
NoLonger cs n = (m : ℕ) → n < m → m ≤ length cs → is_operator (take m cs) ≡ false

none_above : (cs : List ℕ) → NoLonger cs 3
none_above cs m h k = elim (cases_Bool (is_operator (take m cs))) [
  | inr lacking ↦ lacking
  | inl held ↦ absurd (omega (arith, (operator_short (take m cs) held).1, length-take m cs))
]

one_lower : (cs : List ℕ) (n : ℕ) → has_operator cs (suc n) ≡ false → NoLonger cs (suc n) → NoLonger cs n
one_lower cs n lacking longer m h k = elim (cases_eq m (suc n)) [
  | inl e ↦ subst (λ x. is_operator (take x cs) ≡ false) (sym e) (lacks (suc n) cs (omega arith) lacking)
  | inr ne ↦ longer m (omega arith) k
]
  where
    lacks : (n : ℕ) (cs : List ℕ) → n ≤ length cs → has_operator cs n ≡ false → is_operator (take n cs) ≡ false
    lacks n cs w h = sym (ap (λ b. b && is_operator (take n cs)) (le-leb n (length cs) w)) ∙ h

found_at : (cs : List ℕ) (n : ℕ) → has_operator cs n ≡ true → NoLonger cs n → LongestFront is_operator cs n
found_at cs n h longer = let p = and_parts (nat_le n (length cs)) _ h in record { within = leb-true n (length cs) p.0; passes = λ _. p.1; longest = longer }

pub three : (cs : List ℕ) → has_operator cs 3 ≡ true → LongestFront is_operator cs 3
three cs h = found_at cs 3 h (none_above cs)

pub two : (cs : List ℕ) → has_operator cs 3 ≡ false → has_operator cs 2 ≡ true → LongestFront is_operator cs 2
two cs n h = found_at cs 2 h (one_lower cs 2 n (none_above cs))

pub one : (cs : List ℕ) → has_operator cs 3 ≡ false → has_operator cs 2 ≡ false → has_operator cs 1 ≡ true → LongestFront is_operator cs 1
one cs n m h = found_at cs 1 h (one_lower cs 1 m (one_lower cs 2 n (none_above cs)))

pub none : (cs : List ℕ) → has_operator cs 3 ≡ false → has_operator cs 2 ≡ false → has_operator cs 1 ≡ false → LongestFront is_operator cs 0
none cs n m k = record { within = omega arith; passes = λ p. absurd (omega arith); longest = one_lower cs 0 k (one_lower cs 1 m (one_lower cs 2 n (none_above cs))) }

-- one character more is written
pub written_more : (front : List Spot) (i : ℕ) (d : Spot) → i < length front
    → encode_utf8_all (chars_of (take (i + 1) front)) ≡ encode_utf8_all (chars_of (take i front)) ++ encode_utf8 (get_or front i d).char
written_more front i d h = rw (take_more front i d h, map-append, encodes-append, append-nil) refl

pub written_step : (front : List Spot) (i : ℕ) (d : Spot) (old new : List ℕ) → i < length front → old ≡ encode_utf8_all (chars_of (take i front))
    → new ≡ old ++ encode_utf8 (get_or front i d).char → new ≡ encode_utf8_all (chars_of (take (i + 1) front))
written_step front i d old new h e k = k ∙ (ap (λ b. b ++ encode_utf8 (get_or front i d).char) e ∙ sym (written_more front i d h))

pub take-chars_of : (ss : List Spot) (n : ℕ) → take n (chars_of ss) ≡ chars_of (take n ss)
take-chars_of ss n = take-map (λ s. s.char) n ss

pub length-chars : (ss : List Spot) → length (chars_of ss) ≡ length ss
length-chars ss = length-chars_of ss

pub has_from : (ss : List Spot) (n : ℕ) (b : Bool) → n ≤ length ss → b ≡ is_operator (chars_of (take n ss)) → b ≡ has_operator (chars_of ss) n
has_from ss n b w e =
    e ∙ (ap is_operator (sym (take-chars_of ss n)) ∙ sym (ap (λ a. a && is_operator (take n (chars_of ss))) (le-leb n (length (chars_of ss)) (omega (arith, length-chars ss)))))

pub has_none : (ss : List Spot) (n : ℕ) → length ss < n → false ≡ has_operator (chars_of ss) n
has_none ss n w = sym (and_left (nat_le n (length (chars_of ss))) _ (lt-leb n (length (chars_of ss)) (omega (arith, length-chars ss))))

-- keywords are listed with their places
value_listed : (names : List (List ℕ)) (n : ℕ) (x : List ℕ) → is_some (value_of (numbered n names) x) ≡ is_listed names x
value_listed [] n x = refl
value_listed (k ∷ names) n x = go (bytes_eq k x) (value_listed names (n + 1) x)
  where
    go : (b : Bool) → is_some (value_of (numbered (n + 1) names) x) ≡ is_listed names x → is_some (if b then Some n else value_of (numbered (n + 1) names) x) ≡ (b || is_listed names x)
    go true h = refl
    go false h = h

pub keyword_listed : (x : List ℕ) → is_some (value_of (numbered 0 keyword_names) x) ≡ is_keyword x
unfolding is_keyword
keyword_listed x = value_listed keyword_names 0 x

-- keywords are ASCII
keyword_ascii : (x : List ℕ) → is_keyword x ≡ true → list_all is_ascii x ≡ true
unfolding is_keyword
keyword_ascii x h = listed_passes (list_all is_ascii) keyword_names x refl h

spots_ascii : (ss : List Spot) → all_ascii ss ≡ list_all is_ascii (chars_of ss)
spots_ascii [] = refl
spots_ascii (s ∷ ss) = ap (λ b. is_ascii s.char && b) (spots_ascii ss)

pub no_keyword : (ss : List Spot) → all_ascii ss ≡ false → false ≡ is_keyword (chars_of ss)
no_keyword ss h = elim (cases_Bool (is_keyword (chars_of ss))) [
  | inl k ↦ absurd (both_ways (all_ascii ss) h (spots_ascii ss ∙ keyword_ascii (chars_of ss) k))
  | inr k ↦ sym k
]

ascii_text : (x : List ℕ) → list_all is_ascii x ≡ true → encode_utf8_all x ≡ x
ascii_text [] h = refl
ascii_text (c ∷ x) h =
    let p = and_parts (is_ascii c) _ h in
    ap (λ b. b ++ encode_utf8_all x) (encode_ascii c (ltb-true c 128 p.0)) ∙ ap (λ b. c ∷ b) (ascii_text x p.1)

pub keyword_text : (ss : List Spot) (text : List ℕ) (b : Bool) → all_ascii ss ≡ true → text ≡ encode_utf8_all (chars_of ss) → b ≡ is_keyword text → b ≡ is_keyword (chars_of ss)
keyword_text ss text b h e k = k ∙ ap is_keyword (e ∙ ascii_text (chars_of ss) (sym (spots_ascii ss) ∙ h))

keyword_spelling : (x text : List ℕ) → is_keyword x ≡ true → text ≡ encode_utf8_all x → text ≡ x
keyword_spelling x text h e = e ∙ ascii_text x (keyword_ascii x h)

-- a keyword is a sign, spelled as it is written
pub spells_keyword : (x text : List ℕ) (b : Bool) → b ≡ is_keyword x → b ≡ true → text ≡ encode_utf8_all x → Spells (kind.Sign text) x
spells_keyword x text b e h t = let k = sym e ∙ h in (keyword_spelling x text k t, or_right (is_operator x) _ k)
