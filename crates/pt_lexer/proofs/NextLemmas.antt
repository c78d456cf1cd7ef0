-- The longest identifier or operator is the word at the front.
use Rattle.std.proofs.Common.{◌≡◌, ℕ, zero, suc, ◌≤◌, ◌<◌, List, [], ◌∷◌, ◌++◌, Bool, true, false, Option, Some, None, MatchOption, refl, sym, ◌∙◌, ap, subst, arith, inl, inr, ◌⊎◌, length, take, drop, nat_lt, length-take, length-append}
use Rattle.std.specs.Prelude.{◌&&◌}
use Rattle.std.specs.Char.{is_ascii_alphabetic}
use Rattle.std.specs.List.{list_all}
use Rattle.std.proofs.lemmas.Bool.{and_parts, or_cases, both_ways, ltb-true, true≢false, and_from, or_left, cases_lt}
use Rattle.std.proofs.lemmas.List.{take-append-drop}
use Rattle.unicode_ident.specs.Ident.{is_xid_start}
use Rattle.unicode_ident.proofs.IdentLemmas.{is_xid_start-ascii, is_xid_start-is_xid_continue}
use Rattle.pt_tables.specs.Names.{keyword_names}
use Rattle.pt_literals.specs.declared.source.Spot.{Spot}
use Rattle.pt_literals.specs.declared.modes.Mode.{Mode}
use Rattle.pt_literals.specs.declared.token.Lexeme.{Lexeme}
use Rattle.pt_literals.specs.declared.token.TokenKind.{TokenKind}
use Rattle.pt_literals.specs.declared.token.TokenKind.TheVariants as kind
use Rattle.pt_literals.specs.Source.{chars_of}
use Rattle.pt_literals.specs.Source.{starts_name, continues_name}
use Rattle.pt_lexer.specs.Words.{is_operator, is_keyword, is_identifier, Spells, NoneSpelt, Longest, Next, plain, begun, string, LongestFront}
use Rattle.pt_lexer.proofs.LiteralLemmas.{Behind, beyond, front_tail, behind_shorter, known_behind, part_behind}
use Rattle.pt_lexer.proofs.Fronts.{listed_passes, operator_starts}
use Rattle.pt_lexer.proofs.WordLemmas.{operator_short, take-chars_of, length-chars}

-- keywords are identifiers
abbrev is_letter : ℕ → Bool
is_letter c = nat_lt c 128 && is_ascii_alphabetic c

letter_starts : (c : ℕ) → is_letter c ≡ true → is_xid_start c ≡ true
letter_starts c h = let p = and_parts (nat_lt c 128) _ h in is_xid_start-ascii c (ltb-true c 128 p.0) ∙ p.1

letter_begins : (c : ℕ) → is_letter c ≡ true → starts_name c ≡ true
unfolding starts_name
letter_begins c h = or_left (is_xid_start c) _ (letter_starts c h)

letter_continues : (c : ℕ) → is_letter c ≡ true → continues_name c ≡ true
unfolding continues_name
letter_continues c h = is_xid_start-is_xid_continue c (letter_starts c h)

letters_continue : (cs : List ℕ) → list_all is_letter cs ≡ true → list_all continues_name cs ≡ true
letters_continue [] h = refl
letters_continue (c ∷ cs) h =
    let p = and_parts (is_letter c) _ h in
    and_from (continues_name c) _ (letter_continues c p.0) (letters_continue cs p.1)

letters_identify : (cs : List ℕ) → (nat_lt 0 (length cs) && list_all is_letter cs) ≡ true → is_identifier cs ≡ true
letters_identify [] h = absurd (true≢false (sym h))
letters_identify (c ∷ cs) h =
    let p = and_parts (is_letter c) _ (and_parts (nat_lt 0 (length (c ∷ cs))) _ h).1 in
    and_from (starts_name c) _ (letter_begins c p.0) (letters_continue cs p.1)

pub keyword_identifier : (cs : List ℕ) → is_keyword cs ≡ true → is_identifier cs ≡ true
unfolding is_keyword
keyword_identifier cs h = letters_identify cs (listed_passes (λ x. nat_lt 0 (length x) && list_all is_letter x) keyword_names cs refl h)

-- a word is an identifier or an operator
word_is : (w : TokenKind) (cs : List ℕ) → Spells w cs → (is_identifier cs ≡ true) ⊎ (is_operator cs ≡ true)
word_is (kind.Name x) cs h = inl h.0
word_is (kind.Sign x) cs h = elim (or_cases (is_operator cs) (is_keyword cs) h.1) [ inl k ↦ inr k | inr k ↦ inl (keyword_identifier cs k) ]
word_is _ cs h = absurd h

-- a front, by its length
front_is : (text front rest : List Spot) → text ≡ front ++ rest → (take (length front) (chars_of text) ≡ chars_of front) × (length front ≤ length (chars_of text))
front_is text front rest e = (
  take-chars_of text (length front) ∙ ap chars_of (ap (take (length front)) e ∙ take_front front rest),
  let l = ap length e in omega (arith, length-chars text, length-append front rest),
)
  where
    take_front : (front rest : List Spot) → take (length front) (front ++ rest) ≡ front
    take_front [] rest = refl
    take_front (s ∷ ss) rest = ap (λ x. s ∷ x) (take_front ss rest)

-- the same test, at a front of the text
at_front : (test : List ℕ → Bool) (n : ℕ) (text front rest : List Spot) → LongestFront test (chars_of text) n → text ≡ front ++ rest → test (chars_of front) ≡ true → length front ≤ n
at_front test n text front rest l e h = elim (cases_lt n (length front)) [
  | inr le ↦ le
  | inl lt ↦ absurd (both_ways (test (chars_of front)) (subst (λ x. test x ≡ false) (front_is text front rest e).0 (l.longest (length front) lt (front_is text front rest e).1)) h)
]

begins_both : (cs ds : List ℕ) (m n : ℕ) → is_operator (take m cs) ≡ true → is_identifier (take n cs) ≡ true → ⊥
begins_both [] ds m n h k = empty_front m n h k
  where
    empty_front : (m n : ℕ) → is_operator (take m []) ≡ true → is_identifier (take n []) ≡ true → ⊥
    empty_front m zero h k = true≢false (sym k)
    empty_front m (suc n) h k = true≢false (sym k)
begins_both (c ∷ cs) ds zero n h k = absurd (omega (arith, (operator_short [] h).0))
begins_both (c ∷ cs) ds (suc m) zero h k = true≢false (sym k)
begins_both (c ∷ cs) ds (suc m) (suc n) h k = both_ways (starts_name c) (operator_starts c (take m cs) h) (and_parts (starts_name c) _ k).0

length_front : (text : List Spot) (n : ℕ) → n ≤ length (chars_of text) → length (take n text) ≡ n
length_front text n h = omega (arith, length-take n text, length-chars text)

pub next_name : (text : List Spot) (n : ℕ) (w : TokenKind) → LongestFront is_identifier (chars_of text) n → 0 < n → Spells w (chars_of (take n text)) → Longest text w (drop n text)
next_name text n w l p s = record {
  front = take n text;
  whole = sym (take-append-drop n text);
  spelled = s;
  longest = λ w' front' rest' e k. rw (length_front text n l.within) (elim (word_is w' (chars_of front') k) [
    | inl i ↦ at_front is_identifier n text front' rest' l e i
    | inr o ↦ absurd (begins_both (chars_of text) [] (length front') n (subst (λ x. is_operator x ≡ true) (sym (front_is text front' rest' e).0) o) (l.passes p))
  ]);
}

pub next_operator : (text : List Spot) (n : ℕ) (w : TokenKind) → LongestFront is_identifier (chars_of text) 0 → LongestFront is_operator (chars_of text) n → Spells w (chars_of (take n text)) → Longest text w (drop n text)
next_operator text n w i l s = record {
  front = take n text;
  whole = sym (take-append-drop n text);
  spelled = s;
  longest = λ w' front' rest' e k. rw (length_front text n l.within) (elim (word_is w' (chars_of front') k) [
    | inl h ↦ let z = at_front is_identifier 0 text front' rest' i e h in omega arith
    | inr o ↦ at_front is_operator n text front' rest' l e o
  ]);
}

pub no_word : (text : List Spot) (n : ℕ) → LongestFront is_identifier (chars_of text) 0 → LongestFront is_operator (chars_of text) n → is_operator (chars_of (take n text)) ≡ false → NoneSpelt text
no_word text n i l lacks w front rest e k = elim (word_is w (chars_of front) k) [
  | inl h ↦ nothing_short front h (at_front is_identifier 0 text front rest i e h)
  | inr o ↦ both_ways (is_operator (chars_of (take n text))) lacks (subst (λ x. is_operator x ≡ true) (take-chars_of text n) (l.passes (some_operator front o (at_front is_operator n text front rest l e o))))
]
  where
    some_operator : (front : List Spot) → is_operator (chars_of front) ≡ true → length front ≤ n → 0 < n
    some_operator front o h = omega (arith, (operator_short (chars_of front) o).0, length-chars front)

    nothing_short : (front : List Spot) → is_identifier (chars_of front) ≡ true → length front ≤ 0 → ⊥
    nothing_short [] h z = true≢false (sym h)
    nothing_short (s ∷ ss) h z = omega arith

-- a word takes some of the text
longest_behind : {text rest : List Spot} {w : TokenKind} → Longest text w rest → Behind text rest
longest_behind {text = text} {rest = rest} {w = w} n = go n.front (word_is w (chars_of n.front) n.spelled) n.whole
  where
    go : (front : List Spot) → (is_identifier (chars_of front) ≡ true) ⊎ (is_operator (chars_of front) ≡ true) → text ≡ front ++ rest → Behind text rest
    go [] (inl h) e = absurd (true≢false (sym h))
    go [] (inr h) e = absurd (omega (arith, (operator_short [] h).0))
    go (s ∷ ss) h e = subst (λ x. Behind x rest) (sym e) (beyond (front_tail ss rest))

pub next_behind : {m : Mode} {text rest : List Spot} {w : Lexeme} → Next m text w rest → Behind text rest
next_behind (plain l n) = longest_behind n
next_behind (begun {m = m} {text = text} e) = known_behind m text e
next_behind (string {m = m} {text = text} e i x) = part_behind m text e i

pub next_shorter : {m : Mode} {text rest : List Spot} {w : Lexeme} → Next m text w rest → length rest < length text
next_shorter n = behind_shorter (next_behind n)

-- the same, as the code has them
pub next_name_at : (text front rest : List Spot) (n : ℕ) (w : TokenKind) → LongestFront is_identifier (chars_of text) n → 0 < n → front ≡ take n text → rest ≡ drop n text → Spells w (chars_of front)
    → Longest text w rest
next_name_at text front rest n w l p e f s = subst (Longest text w) (sym f) (next_name text n w l p (subst (λ x. Spells w (chars_of x)) e s))

abbrev pub OperatorAnswer : Option TokenKind → List Spot → Type 0
OperatorAnswer o front = MatchOption o (is_operator (chars_of front) ≡ false) (λ w. Spells w (chars_of front))

pub next_operator_at : (text front rest : List Spot) (m n : ℕ) (o : Option TokenKind) (w : TokenKind) → LongestFront is_identifier (chars_of text) m → m ≤ 0 → LongestFront is_operator (chars_of text) n
    → front ≡ take n text → rest ≡ drop n text → OperatorAnswer o front → o ≡ Some w → Longest text w rest
next_operator_at text front rest m n o w i z l e f a is =
    let s : Spells w (chars_of front) = subst (λ x. OperatorAnswer x front) is a in
    let zero_long : m ≡ 0 = omega arith in
    subst (Longest text w) (sym f) (next_operator text n w (subst (LongestFront is_identifier (chars_of text)) zero_long i) l (subst (λ x. Spells w (chars_of x)) e s))

pub no_word_at : (text front : List Spot) (m n : ℕ) (o : Option TokenKind) → LongestFront is_identifier (chars_of text) m → m ≤ 0 → LongestFront is_operator (chars_of text) n
    → front ≡ take n text → OperatorAnswer o front → o ≡ None → NoneSpelt text
no_word_at text front m n o i z l e a is =
    let s : is_operator (chars_of front) ≡ false = subst (λ x. OperatorAnswer x front) is a in
    let zero_long : m ≡ 0 = omega arith in
    no_word text n (subst (LongestFront is_identifier (chars_of text)) zero_long i) l (subst (λ x. is_operator (chars_of x) ≡ false) e s)
