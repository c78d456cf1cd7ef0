-- What strings hold (Language Reference 2.4.1).
use Rattle.std.specs.Prelude.{◌≡◌, ℕ, List, [], ◌∷◌, ◌++◌, Bool, true, false, length, take, drop, nat_lt, nat_le, ◌==◌, ◌&&◌, ◌||◌, if◌then◌else◌, Option, Some, None, is_some}
use Rattle.std.specs.Char.{is_digit}
use Rattle.std.specs.List.{prefix_len, list_all}
use Rattle.pt_literals.specs.declared.source.Spot.{Spot}
use Rattle.pt_literals.specs.declared.modes.Part.{Part}
use Rattle.pt_literals.specs.declared.modes.Part.TheVariants as part
use Rattle.pt_literals.specs.declared.strings.Chars.{Chars}
use Rattle.pt_literals.specs.declared.strings.Delimiter.{Delimiter}
use Rattle.pt_literals.specs.declared.token.LexErr.{LexErr}
use Rattle.pt_literals.specs.declared.token.LexErr.TheVariants as fault
use Rattle.pt_literals.specs.Source.{ends_line, behind_line_end}
use Rattle.pt_literals.specs.Numbers.{value_from, behind_one}
use Rattle.pt_literals.specs.Literals.{closes, is_brace, is_single}

-- at most two characters
abbrev pub one : ℕ → Chars
one c = record { first = Some c; second = None }

abbrev pub two : (c d : ℕ) → Chars
two c d = record { first = Some c; second = Some d }

abbrev pub nothing : Chars
nothing = record { first = None; second = None }

abbrev pub only : Option ℕ → List ℕ
only None = []
only (Some c) = c ∷ []

abbrev pub listed : Chars → List ℕ
listed p = only p.first ++ only p.second

-- What a place in a string stands for: characters, and the text behind it; or what is wrong with it.
pub data Piece : Type 0 where
  takes : Chars → List Spot → Piece
  fails : LexErr → Piece

-- the escapes of one letter or sign: \\ \' \" \a \b \f \n \r \t \v
abbrev pub simple : ℕ → Option ℕ
simple c =
    if c == 92 then Some 92
    else if c == 39 then Some 39
    else if c == 34 then Some 34
    else if c == 97 then Some 7
    else if c == 98 then Some 8
    else if c == 102 then Some 12
    else if c == 110 then Some 10
    else if c == 114 then Some 13
    else if c == 116 then Some 9
    else if c == 118 then Some 11
    else None

abbrev pub is_surrogate : ℕ → Bool
is_surrogate c = nat_le 0xd800 c && nat_le c 0xdfff

-- the character with a code, by the escape whose backslash is given
abbrev pub coded : Spot → ℕ → List Spot → Piece
coded s n rest =
    if nat_lt n 0x110000 then
    if is_surrogate n then fails (fault.Excluded s.line) else takes (one n) rest
    else fails (fault.BadChar s.at)

-- up to three octal digits
abbrev pub octal_len : List Spot → ℕ
octal_len text = prefix_len (λ t. is_digit t.char 8) (take 3 text)

abbrev pub octal : Spot → List Spot → Piece
octal s text = coded s (value_from 8 0 (take (octal_len text) text)) (drop (octal_len text) text)

-- so many hexadecimal digits
abbrev pub all_hex : List Spot → Bool
all_hex digits = list_all (λ t. is_digit t.char 16) digits

abbrev pub are_hex : ℕ → List Spot → Bool
are_hex n digits = (length digits == n) && all_hex digits

abbrev pub hex : Spot → ℕ → List Spot → Piece
hex s n text =
    if are_hex n (take n text) then coded s (value_from 16 0 (take n text)) (drop n text) else fails (fault.BadChar s.at)

-- \x \u \U \N; any other escape keeps its backslash
abbrev pub by_letter : (s t : Spot) → List Spot → Piece
by_letter s t us =
    if t.char == 120 then hex s 2 us
    else if t.char == 117 then hex s 4 us
    else if t.char == 85 then hex s 8 us
    else if t.char == 78 then fails (fault.Excluded s.line)
    else takes (one 92) (t ∷ us)

abbrev pub escaped : Option ℕ → (s t : Spot) → List Spot → Piece
escaped (Some c) s t us = takes (one c) us
escaped None s t us = if is_digit t.char 8 then octal s (t ∷ us) else by_letter s t us

-- what stands behind a backslash; a line end there is left out
abbrev pub escape : Spot → List Spot → Piece
escape s [] = takes (one 92) []
escape s (t ∷ us) = if ends_line t.char then takes nothing (behind_line_end (t ∷ us)) else escaped (simple t.char) s t us

-- In a raw string the backslash stays, and so does what stands behind it, unless that is a brace of an f-string.
abbrev pub raw_escape : (is_formatted : Bool) → List Spot → Piece
raw_escape f [] = takes (one 92) []
raw_escape f (t ∷ us) =
    if ends_line t.char then takes (two 92 10) (behind_line_end (t ∷ us))
    else if f && is_brace t.char then takes (one 92) (t ∷ us)
    else takes (two 92 t.char) us

-- a line end, which is one line feed
abbrev pub line_end_in : Delimiter → List Spot → Piece
line_end_in d text = if d.is_triple then takes (one 10) (behind_line_end text) else fails (fault.OpenString d.line)

abbrev pub piece_in : (is_formatted : Bool) → Delimiter → Spot → List Spot → Piece
piece_in f d s ss =
    if s.char == 92 then if d.is_raw then raw_escape f ss else escape s ss
    else if ends_line s.char then line_end_in d (s ∷ ss)
    else takes (one s.char) ss

-- in the literal text of an f-string two braces stand for one
abbrev pub piece_of_text : Delimiter → Spot → List Spot → Piece
piece_of_text d s ss = if is_brace s.char then takes (one s.char) (behind_one ss) else piece_in true d s ss

abbrev pub piece : Part → Spot → List Spot → Piece
piece (part.Whole d) s ss = piece_in false d s ss
piece (part.Text d) s ss = piece_of_text d s ss
piece (part.Spec d) s ss = piece_in true d s ss

-- the text from here on, if a part of an f-string ends here
abbrev pub stops_at : Bool → List Spot → Option (List Spot)
stops_at b text = if b then Some text else None

abbrev pub stops_text : Delimiter → Spot → List Spot → Bool
stops_text d s ss = is_some (closes d (s ∷ ss)) || is_single s ss

abbrev pub stops_spec : Delimiter → Spot → List Spot → Bool
stops_spec d s ss = is_some (closes d (s ∷ ss)) || is_brace s.char

-- What stands behind a part of a string that ends here. A part of an f-string ends before its quotes, and before the
-- brace of a field.
abbrev pub ends : Part → Spot → List Spot → Option (List Spot)
ends (part.Whole d) s ss = closes d (s ∷ ss)
ends (part.Text d) s ss = stops_at (stops_text d s ss) (s ∷ ss)
ends (part.Spec d) s ss = stops_at (stops_spec d s ss) (s ∷ ss)

-- The characters of a part of a string from here on, and the text behind it.
pub data Inside (p : Part) : List Spot → List ℕ → List Spot → Type 0 where
  closed : {s : Spot} {ss rest : List Spot} → ends p s ss ≡ Some rest → Inside p (s ∷ ss) [] rest
  more : {s : Spot} {ss mid rest : List Spot} {cs : Chars} {vs all : List ℕ} → ends p s ss ≡ None → piece p s ss ≡ takes cs mid → Inside p mid vs rest
      → all ≡ listed cs ++ vs → Inside p (s ∷ ss) all rest
