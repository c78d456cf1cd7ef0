-- A word of a text is no sign that stands between lines or at their ends.
use Rattle.std.proofs.Common.{◌≡◌, ℕ, Bool, true, false, not, List, [], ◌∷◌, map, Option, Some, None, refl, sym, ap, ◌∙◌, if◌then◌else◌}
use Rattle.std.specs.List.{list_all}
use Rattle.std.specs.Str.{bytes_eq}
use Rattle.std.proofs.lemmas.Bool.{and_parts, true≢false}
use Rattle.pt_tables.specs.Rows.{value_of}
use Rattle.pt_literals.specs.declared.token.TokenKind.{TokenKind}
use Rattle.pt_literals.specs.declared.token.TokenKind.TheVariants as kind
use Rattle.pt_lexer.proofs.ShapeLemmas.{IsWord}
use Rattle.pt_grammar.specs.declared.sign.Sign.{Sign}
use Rattle.pt_grammar.specs.declared.sign.Sign.TheVariants.{Layout as layout}
use Rattle.pt_grammar.specs.declared.sign.TheConstants.{SIGNS}
use Rattle.pt_grammar.specs.Lexemes.{Lexeme, sign, lexeme_at, signed, spelled}
use Rattle.law_front.specs.token_lines.Rising.{is_between, is_newline}

abbrev is_layout : Sign → Bool
is_layout (layout y) = true
is_layout s = false

of_rows : (rows : List (List ℕ × Sign)) → list_all (λ r. not (is_layout r.1)) rows ≡ true → (x : List ℕ) (s : Sign) → value_of rows x ≡ Some s → is_layout s
    ≡ false
of_rows [] h x s e = let no : None ≡ Some s = e in cc
of_rows (r ∷ rows) h x s e = by (bytes_eq r.0 x) e (of_rows rows parts.1 x s)
  where
    parts : (not (is_layout r.1) ≡ true) × (list_all (λ r. not (is_layout r.1)) rows ≡ true)
    parts = and_parts (not (is_layout r.1)) (list_all (λ r. not (is_layout r.1)) rows) h

    none : (b : Bool) → not b ≡ true → b ≡ false
    none true f = absurd (true≢false (sym f))
    none false f = refl

    by : (b : Bool) → (if b then Some r.1 else value_of rows x) ≡ Some s → (value_of rows x ≡ Some s → is_layout s ≡ false) → is_layout s ≡ false
    by true f g = let same : r.1 ≡ s = (let there : Some r.1 ≡ Some s = f in cc) in ap is_layout (sym same) ∙ none (is_layout r.1) parts.0
    by false f g = g f

abbrev InLine : Lexeme → Type 0
InLine t = (is_between t ≡ false) × (is_newline t ≡ false)

a_sign : (l : ℕ) (s : Sign) → is_layout s ≡ false → InLine (sign l s)
a_sign l (layout y) h = absurd (true≢false h)
a_sign l s h = (refl, refl)

spelt : (l : ℕ) (o : Option Sign) → ((s : Sign) → o ≡ Some s → is_layout s ≡ false) → InLine (signed l o)
spelt l None h = (refl, refl)
spelt l (Some s) h = a_sign l s (h s refl)

pub words_in_line : (l : ℕ) (k : TokenKind) → IsWord k → InLine (lexeme_at l k)
words_in_line l kind.Newline h = absurd h
words_in_line l kind.Indent h = absurd h
words_in_line l kind.Dedent h = absurd h
words_in_line l kind.End h = absurd h
words_in_line l (kind.Sign x) h = spelt l (spelled x) (of_rows (map (λ r. (r.0.now, r.1)) SIGNS) refl x)
words_in_line l _ h = (refl, refl)
