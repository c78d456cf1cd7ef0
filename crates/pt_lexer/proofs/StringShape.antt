-- Each f-string that starts ends in the same line.
use Rattle.std.proofs.Common.{◌≡◌, ℕ, suc, List, [], ◌∷◌, ◌++◌, Bool, true, false, Result, Ok, Err, IfOk, refl, sym, ◌∙◌, ap, subst, arith, length}
use Rattle.std.specs.Prelude.{codes, nat_lt, Option, Some, None, if◌then◌else◌}
use Rattle.pt_base.specs.declared.failure.Failure.{Failure}
use Rattle.pt_base.specs.declared.numbers.Line.{Line}
use Rattle.pt_literals.specs.declared.modes.Field.{Field}
use Rattle.pt_literals.specs.declared.modes.Mode.{Mode}
use Rattle.pt_literals.specs.declared.modes.Mode.TheVariants as mode
use Rattle.pt_literals.specs.declared.source.Spot.{Spot}
use Rattle.pt_literals.specs.declared.source.TextEnd.{TextEnd}
use Rattle.pt_literals.specs.declared.strings.Delimiter.{Delimiter}
use Rattle.pt_literals.specs.declared.token.LexErr.{LexErr}
use Rattle.pt_literals.specs.declared.token.Lexeme.{Lexeme}
use Rattle.pt_literals.specs.declared.token.Lexeme.TheVariants.{Word, Start}
use Rattle.pt_literals.specs.declared.token.Token.{Token}
use Rattle.pt_literals.specs.declared.token.TokenKind.{TokenKind}
use Rattle.pt_literals.specs.declared.token.TokenKind.TheVariants as kind
use Rattle.pt_lexer.specs.declared.token.Bracket.{Bracket}
use Rattle.pt_lexer.specs.declared.token.Bracket.TheVariants.{Curly}
use Rattle.pt_lexer.specs.declared.token.Column.{Column}
use Rattle.pt_lexer.specs.declared.token.Opening.{Opening}
use Rattle.pt_lexer.specs.Lines.{line_of, Nest, nest, mode_of, outside, opens, closes, same_bracket, is_excluded, shut, mode_behind, mode_in, opened_by, turned_by, turned_by_sign, turned_in_words, is_sign, turned_in_field, turned_in_text, is_spec, plain_bracket, as_brackets, turned_in_spec, turned, kind_of, Body, finish, word, Back, there, further, Turn, deeper, level, marks, closing, Lines, done, empty, full}
use Rattle.pt_lexer.specs.Faults.{IsTokens}
use Rattle.pt_lexer.specs.Shape.{IsWellFormed, PlacesRise, HasStrings, StringsEnd}
use Rattle.pt_lexer.proofs.LineLemmas.{rises_whole, Exact}
use Rattle.pt_lexer.proofs.ShapeLemmas.{IsWord, IsOf, next_word, is_word, lines_well, lines_rise}

-- one string more where a place stands in the text of one
abbrev with_text : Mode → ℕ → ℕ
with_text (mode.Text d) n = suc n
with_text m n = n

-- the strings in whose fields a place stands, and all that are open
abbrev in_fields : List Opening → ℕ
in_fields [] = 0
in_fields (x ∷ opened) = with_text x.mode (in_fields opened)

abbrev strings : Nest → ℕ
strings (nest m opened) = with_text m (in_fields opened)

-- a field, and the spec of a field, stand in a brace of the string
abbrev FitsIn : Mode → List Opening → Type 0
FitsIn (mode.Field f) opened = mode_in opened ≡ mode.Field f
FitsIn (mode.Spec f) opened = mode_in opened ≡ mode.Field f
FitsIn m opened = Unit {0}

abbrev AllFit : List Opening → Type 0
AllFit [] = Unit {0}
AllFit (x ∷ opened) = FitsIn x.mode opened × AllFit opened

abbrev Fits : Nest → Type 0
Fits (nest m opened) = FitsIn m opened × AllFit opened

-- no text of a string is read as words
no_text_behind : (m : Mode) (n : ℕ) → with_text (mode_behind m) n ≡ n
no_text_behind mode.Words n = refl
no_text_behind (mode.Text d) n = refl
no_text_behind (mode.Field f) n = refl
no_text_behind (mode.Spec f) n = refl

no_text_in : (opened : List Opening) (n : ℕ) → with_text (mode_in opened) n ≡ n
no_text_in [] n = refl
no_text_in (x ∷ opened) n = no_text_behind x.mode n

fits_behind : (m : Mode) (x : Opening) (opened : List Opening) → x.mode ≡ m → FitsIn (mode_behind m) (x ∷ opened)
fits_behind mode.Words x opened h = tt
fits_behind (mode.Text d) x opened h = ap mode_behind h
fits_behind (mode.Field f) x opened h = tt
fits_behind (mode.Spec f) x opened h = ap mode_behind h

fits_in : (opened : List Opening) → FitsIn (mode_in opened) opened
fits_in [] = tt
fits_in (x ∷ opened) = fits_behind x.mode x opened refl

-- A string that ends in a format spec was the one of its brace.
record OneLess (opened : List Opening) : Type 0 where
  less : in_fields opened ≡ suc (in_fields (as_brackets opened))
  fit : AllFit (as_brackets opened)

plain_less : (x : Opening) (opened : List Opening) → AllFit opened → (in_fields (plain_bracket x opened) ≡ in_fields opened) × AllFit (plain_bracket x opened)
plain_less x opened all = (no_text_in opened (in_fields opened), (fits_in opened, all))

bracket_less : (m : Mode) (x : Opening) (opened : List Opening) → x.mode ≡ m → (f : Field) → mode_behind m ≡ mode.Field f → FitsIn m opened → AllFit opened
    → ((g : Field) → mode_in opened ≡ mode.Field g → OneLess opened) → OneLess (x ∷ opened)
bracket_less mode.Words x opened is f h fits all below = absurd (cc)
bracket_less (mode.Text d) x opened is f h fits all below =
    let p = plain_less x opened all in
    record {
      less = rw (is) (ap suc (sym p.0));
      fit = rw (is) p.1;
    }
bracket_less (mode.Field g) x opened is f h fits all below = absurd (cc)
bracket_less (mode.Spec g) x opened is f h fits all below =
    let one = below g fits in
    let p = plain_less x (as_brackets opened) one.fit in
    record {
      less = rw (is) (one.less ∙ ap suc (sym p.0));
      fit = rw (is) p.1;
    }

one_less : (opened : List Opening) (f : Field) → mode_in opened ≡ mode.Field f → AllFit opened → OneLess opened
one_less [] f h all = absurd (cc)
one_less (x ∷ opened) f h all = bracket_less x.mode x opened refl f h all.0 all.1 (λ g e. one_less opened g e all.1)

-- how many strings are open behind a word
abbrev Counts : TokenKind → (old new : ℕ) → Type 0
Counts kind.FStart old new = new ≡ suc old
Counts kind.FEnd old new = old ≡ suc new
Counts _ old new = new ≡ old

abbrev Goes : TokenKind → ℕ → Nest → Type 0
Goes k old more = Fits more × Counts k old (strings more)

abbrev OkBy : (Nest → Type 0) → Result Nest LexErr → Type 0
OkBy P (Ok n) = P n
OkBy P (Err e) = Unit {0}

by_if : (P : Result Nest LexErr → Type 0) (b : Bool) {x y : Result Nest LexErr} → P x → P y → P (if b then x else y)
by_if P true p q = p
by_if P false p q = q

-- a sign leaves as many strings open
abbrev Keeps : ℕ → Result Nest LexErr → Type 0
Keeps n r = OkBy (λ more. Fits more × (strings more ≡ n)) r

shut_keeps : (opened : List Opening) (b : Bracket) (l : Line) → AllFit opened → Keeps (in_fields opened) (shut opened b l)
shut_keeps [] b l all = tt
shut_keeps (x ∷ opened) b l all = by_if (Keeps (in_fields (x ∷ opened))) (same_bracket x.bracket b) (all, refl) tt

open_keeps : (m : Mode) (opened : List Opening) (b : Bracket) (l : Line) → FitsIn m opened → AllFit opened → Keeps (with_text m (in_fields opened)) (opened_by m opened b l)
open_keeps m opened b l fits all =
    by_if (Keeps (with_text m (in_fields opened))) (nat_lt (length opened) 100)
    ((fits_behind m (record { bracket = b; line = l; mode = m }) opened refl, (fits, all)), no_text_behind m (with_text m (in_fields opened))) tt

-- among words
module _ (m : Mode) (opened : List Opening) (fits : FitsIn m opened) (all : AllFit opened) (words : (n : ℕ) → with_text m n ≡ n) where
  same_nest : Keeps (with_text m (in_fields opened)) (Ok (nest m opened))
  same_nest = ((fits, all), refl)

  brackets_keep : (o c : Option Bracket) (l : Line) → Keeps (with_text m (in_fields opened)) (turned_by m opened o c l)
  brackets_keep (Some b) c l = open_keeps m opened b l fits all
  brackets_keep None (Some b) l = subst (λ n. Keeps n (shut opened b l)) (sym (words (in_fields opened))) (shut_keeps opened b l all)
  brackets_keep None None l = same_nest

  words_go : (w : Lexeme) (l : Line) → IsOf mode.Words w → OkBy (Goes (kind_of w) (with_text m (in_fields opened))) (turned_in_words m opened w l)
  words_go (Word (kind.Sign x)) l is = by_if (Keeps (with_text m (in_fields opened))) (is_excluded x) tt (brackets_keep (opens x) (closes x) l)
  words_go (Word kind.FStart) l is = absurd is
  words_go (Word kind.FEnd) l is = absurd is
  words_go (Word _) l is = ((fits, all), refl)
  words_go (Start d) l is = ((tt, all), ap suc (sym (words (in_fields opened))))

field_goes : (f : Field) (opened : List Opening) (w : Lexeme) (l : Line) → Fits (nest (mode.Field f) opened) → IsOf mode.Words w
    → OkBy (Goes (kind_of w) (in_fields opened)) (turned_in_field f opened w l)
field_goes f opened (Word (kind.Sign x)) l fits is =
    by_if (Keeps (in_fields opened)) (is_sign (codes ":") (Word (kind.Sign x))) (fits, refl) (words_go (mode.Field f) opened fits.0 fits.1 (λ n. refl) (Word (kind.Sign x)) l is)
field_goes f opened w l fits is = words_go (mode.Field f) opened fits.0 fits.1 (λ n. refl) w l is

text_goes : (d : Delimiter) (opened : List Opening) (w : Lexeme) (l : Line) → Fits (nest (mode.Text d) opened) → IsOf (mode.Text d) w
    → OkBy (Goes (kind_of w) (suc (in_fields opened))) (turned_in_text d opened w l)
text_goes d opened (Word kind.FEnd) l fits is = ((fits_in opened, fits.1), ap suc (sym (no_text_in opened (in_fields opened))))
text_goes d opened (Word (kind.Sign x)) l fits is =
    by_if (Keeps (suc (in_fields opened))) (is_sign (codes "{") (Word (kind.Sign x))) (open_keeps (mode.Text d) opened Curly l tt fits.1) (fits, refl)
text_goes d opened (Word kind.FStart) l fits is = absurd is
text_goes d opened (Word _) l fits is = (fits, refl)
text_goes d opened (Start e) l fits is = absurd is

spec_goes : (f : Field) (opened : List Opening) (w : Lexeme) (l : Line) → Fits (nest (mode.Spec f) opened) → IsOf (mode.Spec f) w
    → OkBy (Goes (kind_of w) (in_fields opened)) (turned_in_spec f opened w l)
spec_goes f opened (Word kind.FEnd) l fits is = let one = one_less opened f fits.0 fits.1 in ((tt, one.fit), one.less)
spec_goes f opened (Word (kind.Sign x)) l fits is =
    by_if (Keeps (in_fields opened)) (is_sign (codes "{") (Word (kind.Sign x))) (by_if (Keeps (in_fields opened)) f.is_nested tt (open_keeps (mode.Spec f) opened Curly l fits.0 fits.1))
    (by_if (Keeps (in_fields opened)) (is_sign (codes "}") (Word (kind.Sign x))) (shut_keeps opened Curly l fits.1) (fits, refl))
spec_goes f opened (Word kind.FStart) l fits is = absurd is
spec_goes f opened (Word _) l fits is = (fits, refl)
spec_goes f opened (Start e) l fits is = absurd is

goes : (n : Nest) (w : Lexeme) (l : Line) → Fits n → IsOf (mode_of n) w → OkBy (Goes (kind_of w) (strings n)) (turned n w l)
goes (nest mode.Words opened) w l fits is = words_go mode.Words opened fits.0 fits.1 (λ n. refl) w l is
goes (nest (mode.Text d) opened) w l fits is = text_goes d opened w l fits is
goes (nest (mode.Field f) opened) w l fits is = field_goes f opened w l fits is
goes (nest (mode.Spec f) opened) w l fits is = spec_goes f opened w l fits is

counted : (k : TokenKind) (old new : ℕ) (follows : ℕ → Type 0) → IsWord k → Counts k old new → follows new → HasStrings k old follows
counted kind.FStart old new follows w c f = subst follows c f
counted kind.FEnd old new follows w c f = subst (λ n. HasStrings kind.FEnd n follows) (sym c) f
counted kind.Newline old new follows w c f = absurd w
counted _ old new follows w c f = subst follows c f

body_strings : {end : TextEnd} {n : Nest} {text stop rest : List Spot} {ws : List Token} (ts : List Token) → Body end n text ws stop rest → Fits n → StringsEnd ts 0 → StringsEnd (ws ++ ts) (strings n)
body_strings ts (finish g e) fits s = s
body_strings {end = end} ts (word {n = n} {more = more} {mid = mid} {w = w} {ws = ws} g k t b) fits s =
    let is = next_word k in
    let go = subst (OkBy (Goes (kind_of w) (strings n))) t (goes n w (line_of end mid) fits is) in
    counted (kind_of w) (strings n) (strings more) (StringsEnd (ws ++ ts)) (is_word (mode_of n) w is) go.1 (body_strings ts b go.0 s)

back_strings : {cols after : List Column} {k : Column} {ks : List TokenKind} (at : ℕ) (line : Line) (ts : List Token) → Back cols k after ks → StringsEnd ts 0 → StringsEnd (marks at line ks ++ ts) 0
back_strings at line ts (there h) s = s
back_strings at line ts (further h b) s = back_strings at line ts b s

turn_strings : {cols after : List Column} {k : Column} {ks : List TokenKind} (at : ℕ) (line : Line) (ts : List Token) → Turn cols k after ks → StringsEnd ts 0 → StringsEnd (marks at line ks ++ ts) 0
turn_strings at line ts (deeper h) s = s
turn_strings at line ts (level b) s = back_strings at line ts b s

closing_strings : (end : TextEnd) (cols : List Column) → StringsEnd (closing end cols) 0
closing_strings end [] = refl
closing_strings end (k ∷ []) = refl
closing_strings end (k ∷ (l ∷ cols)) = closing_strings end (l ∷ cols)

lines_strings : {end : TextEnd} {cols : List Column} {text : List Spot} {all : List Token} → Lines end cols text all → StringsEnd all 0
lines_strings {end = end} {cols = cols} (done w h) = subst (λ x. StringsEnd x 0) (sym h) (closing_strings end cols)
lines_strings (empty b l) = lines_strings l
lines_strings (full {w = w} {ws = ws} b t a d l h) =
    subst (λ x. StringsEnd x 0) (sym h) (turn_strings w.at w.line _ t (body_strings _ b (tt, tt) (refl, lines_strings l)))

abbrev HasShape : List Token → Type 0
HasShape all = IsWellFormed all 0 false × StringsEnd all 0 × PlacesRise 0 all

tokens_well : (bytes : List ℕ) (all : List Token) → IsTokens bytes all → HasShape all
tokens_well bytes all l = (lines_well l, lines_strings l, lines_rise 0 l (rises_whole bytes) (omega arith))

pub shape_of : (bytes : List ℕ) (r : Result (List Token) (Failure LexErr)) → Exact bytes r → IfOk r (λ all. IsWellFormed all 0 false × StringsEnd all 0 × PlacesRise 0 all)
shape_of bytes (Ok all) h = tokens_well bytes all h
shape_of bytes (Err e) h = tt
