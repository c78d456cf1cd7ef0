-- Strings and f-strings, as their readers take them apart (Language Reference 2.4.2, 2.4.3).
use Rattle.std.specs.Prelude.{◌≡◌, ◌≢◌, ℕ, suc, Bool, true, false, List, [], ◌∷◌, ◌++◌, Option, Some, None}
use Rattle.pt_tree.specs.declared.expression.Conversion.{Conversion}
use Rattle.pt_readers.specs.Reading.{Part}
use Rattle.pt_grammar.specs.declared.sign.Sign.TheVariants.{Mark as mark, Layout as layout}
use Rattle.pt_grammar.specs.declared.sign.Mark.TheVariants.{OpenBrace, Exclamation}
use Rattle.pt_grammar.specs.declared.sign.Layout.TheVariants.{FStart, FEnd}
use Rattle.pt_grammar.specs.Lexemes.{Lexeme, name, str, f_text, sign, sign_at}
use Rattle.pt_grammar.specs.Signs.{ends_formatted, conversion_of}
use Rattle.pt_grammar.specs.Grammar.{Formatted, Field, Converted, Specified}
use Rattle.pt_grammar.specs.Nodes.{OnePiece, text, Quoted, quoted}
use Rattle.pt_grammar.specs.Parts.{FitsPieces, FitsPiece}

-- a string or an f-string on this line, behind these
pub data OneString (l : ℕ) (q : Quoted) : List Lexeme → Quoted → List Lexeme → Type 0 where
  a_plain : {x : List ℕ} {rest : List Lexeme} → OneString l q (str l x ∷ rest) (quoted q.formatted (q.pieces ++ (text l x ∷ []))) rest
  a_formatted : {m : ℕ} {ps : List OnePiece} {ts rest : List Lexeme} → Formatted 2 q.pieces ts ps (sign m (layout FEnd) ∷ rest)
      → OneString l q (sign l (layout FStart) ∷ ts) (quoted true ps) rest

-- strings alone are no node around their parts
abbrev pub FitsQuoted : ℕ → Bool → List OnePiece → Type 0
FitsQuoted d true ps = FitsPieces d ps
FitsQuoted d false ps = Unit {0}

abbrev pub a_string : ℕ → ℕ → Quoted → Part Lexeme Quoted
a_string l d q = record { reads = OneString l q; stops = λ r next. Unit {0}; fits = λ r. FitsQuoted d r.formatted r.pieces }

-- text or a field; fields may stand so deep in the specs of one another
pub data PieceOf : ℕ → List Lexeme → OnePiece → List Lexeme → Type 0 where
  some_text : {n l : ℕ} {x : List ℕ} {rest : List Lexeme} → PieceOf n (f_text l x ∷ rest) (text l x) rest
  some_field : {n l : ℕ} {f : OnePiece} {ts rest : List Lexeme} → Field n l ts f rest → PieceOf (suc n) (sign l (mark OpenBrace) ∷ ts) f rest

abbrev pub a_piece : ℕ → ℕ → Part Lexeme OnePiece
a_piece n d = record { reads = PieceOf n; stops = λ p next. Unit {0}; fits = FitsPiece d }

abbrev pub IsLiteral : Option Lexeme → Type 0
IsLiteral (Some (f_text l x)) = Unit {0}
IsLiteral _ = ⊥

-- text is next, or a field where one may stand
abbrev pub BeginsPiece : ℕ → Option Lexeme → Type 0
BeginsPiece n (Some (f_text l x)) = Unit {0}
BeginsPiece (suc n) (Some (sign l (mark OpenBrace))) = Unit {0}
BeginsPiece n _ = ⊥

-- the name of a conversion
pub data ConversionName : List Lexeme → Conversion → List Lexeme → Type 0 where
  conversion_name : {m : ℕ} {x : List ℕ} {c : Conversion} {rest : List Lexeme} → conversion_of x ≡ Some c → ConversionName (name m x ∷ rest) c rest

abbrev pub a_conversion_name : Part Lexeme Conversion
a_conversion_name = record { reads = ConversionName; stops = λ c next. Unit {0}; fits = λ c. Unit {0} }

abbrev pub StopsConversion : Option Conversion → Option Lexeme → Type 0
StopsConversion None next = sign_at next ≢ Some (mark Exclamation)
StopsConversion (Some c) next = Unit {0}

abbrev pub a_conversion : Part Lexeme (Option Conversion)
a_conversion = record { reads = Converted; stops = StopsConversion; fits = λ c. Unit {0} }

abbrev pub a_spec : ℕ → ℕ → Part Lexeme (List OnePiece)
a_spec n d = record { reads = Specified n; stops = λ ps next. ends_formatted next ≡ true; fits = FitsPieces d }
