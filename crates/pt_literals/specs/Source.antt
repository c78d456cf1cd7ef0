-- A text as its characters, each with its place (Language Reference 2.1).
use Rattle.std.specs.Prelude.{ℕ, ◌+◌, List, [], ◌∷◌, map, Bool, not, ◌==◌, ◌&&◌, ◌||◌, if◌then◌else◌, length, take, chars}
use Rattle.std.specs.Char.{len_utf8}
use Rattle.std.specs.Str.Lossy.{utf8_valid_len}
use Rattle.unicode_ident.specs.Ident.{is_xid_start, is_xid_continue}
use Rattle.pt_literals.specs.declared.source.Spot.{Spot}
use Rattle.pt_literals.specs.declared.source.TextEnd.{TextEnd}

-- behind a line feed a line begins, and behind a carriage return, unless a line feed follows it
abbrev pub begins_line : (before c : ℕ) → Bool
begins_line before c = (before == 10) || ((before == 13) && not (c == 10))

abbrev pub line_at : (line before c : ℕ) → ℕ
line_at line before c = if begins_line before c then line + 1 else line

-- the characters from a place on, behind a character of a line
abbrev pub placed : (at line before : ℕ) → List ℕ → List Spot
placed at line before [] = []
placed at line before (c ∷ cs) =
    let l = line_at line before c in
    record { at = at; line = record { 0 = l }; char = c } ∷ placed (at + len_utf8 c) l c cs

abbrev pub end_behind : (at line before : ℕ) → List ℕ → Bool → TextEnd
end_behind at line before [] whole = record { at = at; line = record { 0 = line_at line before 0 }; is_whole = whole }
end_behind at line before (c ∷ cs) whole = end_behind (at + len_utf8 c) (line_at line before c) c cs whole

-- the characters of bytes, as far as they are UTF-8
abbrev pub read_chars : List ℕ → List ℕ
read_chars bytes = chars (take (utf8_valid_len bytes) bytes)

-- a byte order mark at the start is skipped
abbrev pub behind_mark : List Spot → List Spot
behind_mark [] = []
behind_mark (s ∷ ts) = if s.char == 0xfeff then ts else s ∷ ts

abbrev pub spots_of : List ℕ → List Spot
spots_of bytes = behind_mark (placed 0 1 0 (read_chars bytes))

abbrev pub end_of : List ℕ → TextEnd
end_of bytes = end_behind 0 1 0 (read_chars bytes) (utf8_valid_len bytes == length bytes)

abbrev pub chars_of : List Spot → List ℕ
chars_of ss = map (λ s. s.char) ss

abbrev pub is_blank : ℕ → Bool
is_blank c = (c == 32) || ((c == 9) || (c == 12))

-- identifiers (Language Reference 2.3): their first character, and the others
unfoldable pub starts_name : ℕ → Bool
starts_name c = is_xid_start c || (c == 95)

unfoldable pub continues_name : ℕ → Bool
continues_name c = is_xid_continue c

abbrev pub ends_line : ℕ → Bool
ends_line c = (c == 10) || (c == 13)

-- what stands behind the end of a physical line: LF, CR LF or CR
abbrev pub behind_feed : List Spot → List Spot
behind_feed [] = []
behind_feed (s ∷ ss) = if s.char == 10 then ss else s ∷ ss

abbrev pub behind_line_end : List Spot → List Spot
behind_line_end [] = []
behind_line_end (s ∷ ss) = if s.char == 13 then behind_feed ss else ss
