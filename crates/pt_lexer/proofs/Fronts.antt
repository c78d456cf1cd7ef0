-- What words begin with.
use Rattle.std.proofs.Common.{◌≡◌, ℕ, ◌<◌, List, [], ◌∷◌, ◌++◌, Bool, true, false, refl, sym, ◌∙◌, ap, subst, inl, inr, map, nat_lt}
use Rattle.std.specs.Prelude.{not, ◌==◌, ◌&&◌, ◌||◌}
use Rattle.std.specs.Char.{is_ascii_alphabetic}
use Rattle.std.specs.List.{list_all}
use Rattle.std.specs.Str.{bytes_eq}
use Rattle.std.specs.Cmp.Lexicographic.{bytes_decides}
use Rattle.std.proofs.lemmas.Bool.{and_parts, or_cases, both_ways, cases_Bool, eqb-true, ltb-true, true≢false, not-true}
use Rattle.unicode_ident.proofs.IdentLemmas.{is_xid_start-ascii}
use Rattle.pt_tables.specs.Names.{keyword_names}
use Rattle.pt_lexer.specs.declared.TheConstants.{OPERATORS}
use Rattle.pt_literals.specs.declared.source.Spot.{Spot}
use Rattle.pt_literals.specs.declared.token.TokenKind.{TokenKind}
use Rattle.pt_literals.specs.declared.token.TokenKind.TheVariants as kind
use Rattle.pt_literals.specs.Source.{chars_of}
use Rattle.pt_literals.specs.Source.{starts_name}
use Rattle.pt_lexer.specs.Words.{is_listed, is_operator, is_keyword, is_identifier, Spells, Longest, Next, plain, begun, string}
use Rattle.pt_literals.specs.declared.source.TextEnd.{TextEnd}
use Rattle.pt_literals.specs.declared.token.LexErr.{LexErr}
use Rattle.pt_literals.specs.declared.modes.Mode.{Mode}
use Rattle.pt_literals.specs.declared.token.Lexeme.{Lexeme}
use Rattle.pt_lexer.specs.Lines.{Nest, mode_of, has_words}
use Rattle.pt_literals.specs.Literals.{no_literal, literal}
use Rattle.pt_lexer.specs.Faults.{LiteralFails, at_once, in_string}
use Rattle.pt_literals.specs.Source.{is_blank}
use Rattle.pt_lexer.proofs.LiteralLemmas.{may_begin, no_literal_by, no_literal_at_end, no_or_faulty, no_or_known, no_or_holds}

-- what all listed texts pass
pub listed_passes : (p : List ℕ → Bool) (ks : List (List ℕ)) (x : List ℕ) → list_all p ks ≡ true → is_listed ks x ≡ true → p x ≡ true
listed_passes p [] x all h = absurd (true≢false (sym h))
listed_passes p (k ∷ ks) x all h =
    let parts = and_parts (p k) (list_all p ks) all in
    elim (or_cases (bytes_eq k x) (is_listed ks x) h) [
      | inl same ↦ subst (λ y. p y ≡ true) ((bytes_decides k x).0 same) parts.0
      | inr later ↦ listed_passes p ks x parts.1 later
    ]

-- the characters that begin a gap or end a line
abbrev pub parts_words : ℕ → Bool
parts_words c = is_blank c || ((c == 35) || ((c == 92) || ((c == 10) || (c == 13))))

abbrev begins_ascii_name : ℕ → Bool
begins_ascii_name b = is_ascii_alphabetic b || (b == 95)

starts_name-ascii : (c : ℕ) → c < 128 → starts_name c ≡ begins_ascii_name c
unfolding starts_name
starts_name-ascii c h = ap (λ b. b || (c == 95)) (is_xid_start-ascii c h)

-- a byte that begins an operator
abbrev begins_sign : ℕ → Bool
begins_sign b = nat_lt b 128 && (not (begins_ascii_name b) && not (parts_words b))

abbrev begins_by : (ℕ → Bool) → List ℕ → Bool
begins_by p [] = false
begins_by p (b ∷ bs) = p b

operators_begin : (x : List ℕ) → is_operator x ≡ true → begins_by begins_sign x ≡ true
unfolding is_operator
operators_begin x h = listed_passes (begins_by begins_sign) (map (λ k. k.now) OPERATORS) x refl h

abbrev begins_keyword : ℕ → Bool
begins_keyword b = nat_lt b 128 && (is_ascii_alphabetic b && not (parts_words b))

keywords_begin : (x : List ℕ) → is_keyword x ≡ true → begins_by begins_keyword x ≡ true
unfolding is_keyword
keywords_begin x h = listed_passes (begins_by begins_keyword) keyword_names x refl h

-- the first character of a text, and that it is apart from gaps
abbrev pub BeginsApart : List ℕ → Type 0
BeginsApart [] = ⊥
BeginsApart (c ∷ cs) = parts_words c ≡ false

-- one of a few numbers
gap_char : (p : ℕ → Bool) (c : ℕ) → p 32 ≡ true → p 9 ≡ true → p 12 ≡ true → p 35 ≡ true → p 92 ≡ true → p 10 ≡ true → p 13 ≡ true → parts_words c ≡ true → p c ≡ true
gap_char p c h32 h9 h12 h35 h92 h10 h13 h = elim (or_cases (is_blank c) _ h) [
  | inl b ↦ elim (or_cases (c == 32) _ b) [
    | inl e ↦ at 32 e h32
    | inr b' ↦ elim (or_cases (c == 9) _ b') [ inl e ↦ at 9 e h9 | inr e ↦ at 12 e h12 ]
  ]
  | inr k ↦ elim (or_cases (c == 35) _ k) [
    | inl e ↦ at 35 e h35
    | inr k' ↦ elim (or_cases (c == 92) _ k') [
      | inl e ↦ at 92 e h92
      | inr k'' ↦ elim (or_cases (c == 10) _ k'') [ inl e ↦ at 10 e h10 | inr e ↦ at 13 e h13 ]
    ]
  ]
]
  where
    at : (n : ℕ) → (c == n) ≡ true → p n ≡ true → p c ≡ true
    at n e h = subst (λ x. p x ≡ true) (sym (eqb-true c n e)) h

name_apart : (c : ℕ) → starts_name c ≡ true → parts_words c ≡ false
name_apart c h = elim (cases_Bool (parts_words c)) [
  | inr apart ↦ apart
  | inl gap ↦ absurd (both_ways (starts_name c) (not-true (starts_name c) (gap_char (λ b. not (starts_name b)) c (no 32 refl) (no 9 refl) (no 12 refl) (no 35 refl) (no 92 refl) (no 10 refl) (no 13 refl) gap)) h)
]
  where
    no : (k : ℕ) → (nat_lt k 128 && not (begins_ascii_name k)) ≡ true → not (starts_name k) ≡ true
    no k e = let parts = and_parts (nat_lt k 128) _ e in subst (λ b. not b ≡ true) (sym (starts_name-ascii k (ltb-true k 128 parts.0))) parts.1

begun_by : (p : ℕ → Bool) (c : ℕ) (cs : List ℕ) → begins_by (λ b. nat_lt b 128 && p b) (c ∷ cs) ≡ true → (c < 128) × (p c ≡ true)
begun_by p c cs h = let parts = and_parts (nat_lt c 128) (p c) h in (ltb-true c 128 parts.0, parts.1)

identifier_apart : (cs : List ℕ) → is_identifier cs ≡ true → BeginsApart cs
identifier_apart [] h = true≢false (sym h)
identifier_apart (c ∷ cs) h = name_apart c (and_parts (starts_name c) _ h).0

sign_apart : (cs : List ℕ) → (is_operator cs || is_keyword cs) ≡ true → BeginsApart cs
sign_apart [] h = elim (or_cases (is_operator []) (is_keyword []) h) [
  | inl k ↦ true≢false (sym (operators_begin [] k))
  | inr k ↦ true≢false (sym (keywords_begin [] k))
]
sign_apart (c ∷ cs) h = elim (or_cases (is_operator (c ∷ cs)) (is_keyword (c ∷ cs)) h) [
  | inl k ↦ not-true _ (and_parts _ _ (begun_by (λ b. not (begins_ascii_name b) && not (parts_words b)) c cs (operators_begin (c ∷ cs) k)).1).1
  | inr k ↦ not-true _ (and_parts _ _ (begun_by (λ b. is_ascii_alphabetic b && not (parts_words b)) c cs (keywords_begin (c ∷ cs) k)).1).1
]

-- a word begins apart from gaps and the ends of lines
pub word_apart : (w : TokenKind) (cs : List ℕ) → Spells w cs → BeginsApart cs
word_apart (kind.Name x) cs h = identifier_apart cs h.0
word_apart (kind.Sign x) cs h = sign_apart cs h.1
word_apart _ cs h = absurd h

front_apart : (ss us : List Spot) → BeginsApart (chars_of ss) → BeginsApart (chars_of (ss ++ us))
front_apart [] us h = absurd h
front_apart (s ∷ ss) us h = h

longest_apart : {text rest : List Spot} {w : TokenKind} → Longest text w rest → BeginsApart (chars_of text)
longest_apart {rest = rest} {w = w} n = subst (λ x. BeginsApart (chars_of x)) (sym n.whole) (front_apart n.front rest (word_apart w (chars_of n.front) n.spelled))

no_literal_in_gap : (m : Mode) (s : Spot) (ss : List Spot) → has_words m ≡ true → parts_words s.char ≡ true → literal m (s ∷ ss) ≡ no_literal
no_literal_in_gap m s ss w h = no_literal_by m s ss w (not-true (may_begin s.char) (gap_char (λ c. not (may_begin c)) s.char refl refl refl refl refl refl refl h))

pub literal_apart : (m : Mode) (text : List Spot) → has_words m ≡ true → (literal m text ≡ no_literal → ⊥) → BeginsApart (chars_of text)
literal_apart m [] w n = n (no_literal_at_end m w)
literal_apart m (s ∷ ss) w n = elim (cases_Bool (parts_words s.char)) [ inl gap ↦ absurd (n (no_literal_in_gap m s ss w gap)) | inr apart ↦ apart ]

pub next_apart : {m : Mode} {text rest : List Spot} {w : Lexeme} → has_words m ≡ true → Next m text w rest → BeginsApart (chars_of text)
next_apart v (plain l n) = longest_apart n
next_apart v (begun {m = m} {text = text} e) = literal_apart m text v (λ l. no_or_known l e)
next_apart v (string {m = m} {text = text} e i x) = literal_apart m text v (λ l. no_or_holds l e)

pub fault_apart : {end : TextEnd} {n : Nest} {text : List Spot} {e : LexErr} {at : ℕ} → has_words (mode_of n) ≡ true → LiteralFails end n text e at → BeginsApart (chars_of text)
fault_apart {n = n} v (at_once {text = text} h) = literal_apart (mode_of n) text v (λ l. no_or_faulty l h)
fault_apart {n = n} v (in_string {text = text} h f) = literal_apart (mode_of n) text v (λ l. no_or_holds l h)

-- no operator begins as an identifier
pub operator_starts : (c : ℕ) (cs : List ℕ) → is_operator (c ∷ cs) ≡ true → starts_name c ≡ false
operator_starts c cs h =
    let f = begun_by (λ b. not (begins_ascii_name b) && not (parts_words b)) c cs (operators_begin (c ∷ cs) h) in
    starts_name-ascii c f.0 ∙ not-true _ (and_parts _ _ f.1).0

operator_no_name : (cs : List ℕ) → is_operator cs ≡ true → is_identifier cs ≡ true → ⊥
operator_no_name [] h i = true≢false (sym i)
operator_no_name (c ∷ cs) h i = both_ways (starts_name c) (operator_starts c cs h) (and_parts (starts_name c) _ i).0

sign_no_name : (cs : List ℕ) → (is_operator cs || is_keyword cs) ≡ true → is_identifier cs ≡ true → is_keyword cs ≡ false → ⊥
sign_no_name cs h i n = elim (or_cases (is_operator cs) (is_keyword cs) h) [
  | inl k ↦ operator_no_name cs k i
  | inr k ↦ both_ways (is_keyword cs) n k
]

-- what is spelled so is one word
pub word_once : (v w : TokenKind) (cs : List ℕ) → Spells v cs → Spells w cs → v ≡ w
word_once (kind.Name x) (kind.Name y) cs h k = ap kind.Name (h.2 ∙ sym k.2)
word_once (kind.Name x) (kind.Sign y) cs h k = absurd (sign_no_name cs k.1 h.0 h.1)
word_once (kind.Sign x) (kind.Name y) cs h k = absurd (sign_no_name cs h.1 k.0 k.1)
word_once (kind.Sign x) (kind.Sign y) cs h k = ap kind.Sign (h.0 ∙ sym k.0)
word_once (kind.Name x) _ cs h k = absurd k
word_once (kind.Sign x) _ cs h k = absurd k
word_once _ w cs h k = absurd h
