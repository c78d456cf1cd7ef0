-- Words, each the longest at its place (Language Reference 2.3 to 2.6).
use Rattle.std.specs.Prelude.{◌≡◌, ℕ, ◌≤◌, ◌<◌, List, [], ◌∷◌, ◌++◌, length, map, take, Bool, true, false, nat_le, ◌&&◌, ◌||◌, chars, encode_utf8_all}
use Rattle.std.specs.Char.{is_ascii}
use Rattle.std.specs.List.{list_any, list_all}
use Rattle.std.specs.Str.{bytes_eq}
use Rattle.unicode_normalization.specs.Forms.{nfkc}
use Rattle.pt_tables.specs.Names.{keyword_names}
use Rattle.pt_lexer.specs.declared.TheConstants.{OPERATORS}
use Rattle.pt_literals.specs.declared.source.Spot.{Spot}
use Rattle.pt_literals.specs.declared.token.TokenKind.{TokenKind}
use Rattle.pt_literals.specs.declared.token.TokenKind.TheVariants as kind
use Rattle.pt_literals.specs.declared.modes.Mode.{Mode}
use Rattle.pt_literals.specs.declared.modes.Part.{Part}
use Rattle.pt_literals.specs.declared.modes.Part.TheVariants as part
use Rattle.pt_literals.specs.declared.token.Lexeme.{Lexeme}
use Rattle.pt_literals.specs.declared.token.Lexeme.TheVariants.{Word}
use Rattle.pt_literals.specs.Source.{chars_of, starts_name, continues_name}
use Rattle.pt_literals.specs.Literals.{literal, no_literal, known, holds}
use Rattle.pt_literals.specs.Strings.{Inside}

abbrev pub is_listed : List (List ℕ) → List ℕ → Bool
is_listed ks x = list_any (λ k. bytes_eq k x) ks

unfoldable pub is_operator : List ℕ → Bool
is_operator x = is_listed (map (λ k. k.now) OPERATORS) x

abbrev pub all_ascii : List Spot → Bool
all_ascii ss = list_all (λ s. is_ascii s.char) ss

unfoldable pub is_keyword : List ℕ → Bool
is_keyword x = is_listed keyword_names x

-- identifiers (Language Reference 2.3)
abbrev pub is_identifier : List ℕ → Bool
is_identifier [] = false
is_identifier (c ∷ cs) = starts_name c && list_all continues_name cs

unfoldable pub in_nfkc : List ℕ → List ℕ
in_nfkc bytes = encode_utf8_all (nfkc (chars bytes))

-- The word is spelled by these characters.
abbrev pub Spells : TokenKind → List ℕ → Type 0
Spells (kind.Name x) cs = (is_identifier cs ≡ true) × (is_keyword cs ≡ false) × (x ≡ in_nfkc (encode_utf8_all cs))
Spells (kind.Sign x) cs = (x ≡ cs) × ((is_operator cs || is_keyword cs) ≡ true)
Spells _ cs = ⊥

-- The text begins with this name, keyword or operator, and with no longer one.
pub record Longest (text : List Spot) (w : TokenKind) (rest : List Spot) : Type 0 where
  pub front : List Spot
  pub whole : text ≡ front ++ rest
  pub spelled : Spells w (chars_of front)
  pub longest : (w' : TokenKind) (front' rest' : List Spot) → text ≡ front' ++ rest' → Spells w' (chars_of front') → length front' ≤ length front

-- what the characters of a part of a string are
abbrev pub kind_of_part : Part → List ℕ → TokenKind
kind_of_part (part.Whole d) x = kind.Str x
kind_of_part (part.Text d) x = kind.FText x
kind_of_part (part.Spec d) x = kind.FText x

-- The word at the front, where the text is read in a mode: what is known by its beginning, or a part of a string up to
-- its end, or the longest name, keyword or operator.
pub data Next : Mode → List Spot → Lexeme → List Spot → Type 0 where
  plain : {m : Mode} {text rest : List Spot} {w : TokenKind} → literal m text ≡ no_literal → Longest text w rest → Next m text (Word w) rest
  begun : {m : Mode} {text rest : List Spot} {w : Lexeme} → literal m text ≡ known w rest → Next m text w rest
  string : {m : Mode} {text inner rest : List Spot} {p : Part} {vs x : List ℕ} → literal m text ≡ holds p inner → Inside p inner vs rest → x ≡ encode_utf8_all vs
      → Next m text (Word (kind_of_part p x)) rest

-- nothing is spelled so at the front
abbrev pub NoneSpelt : List Spot → Type 0
NoneSpelt text = (w : TokenKind) (front rest : List Spot) → text ≡ front ++ rest → Spells w (chars_of front) → ⊥

-- The text begins with no word, and with nothing that could become one.
pub record NoWord (m : Mode) (text : List Spot) : Type 0 where
  pub lacks : literal m text ≡ no_literal
  pub none : NoneSpelt text

-- So many characters at the front pass a test, and no more of them do; 0 where none do.
pub record LongestFront (test : List ℕ → Bool) (text : List ℕ) (n : ℕ) : Type 0 where
  pub within : n ≤ length text
  pub passes : 0 < n → test (take n text) ≡ true
  pub longest : (m : ℕ) → n < m → m ≤ length text → test (take m text) ≡ false

abbrev pub has_operator : List ℕ → ℕ → Bool
has_operator cs n = nat_le n (length cs) && is_operator (take n cs)
