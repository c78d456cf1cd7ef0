-- What is left of the items of a `with` behind their first parts, and what parentheses hold with which they begin.
use Rattle.std.specs.Prelude.{◌≡◌, ◌≢◌, ◌⊎◌, ℕ, Bool, true, false, List, [], ◌∷◌, ◌++◌, Option, Some, None, map}
use Rattle.pt_wide.specs.Syntax as S
use Rattle.pt_wide.specs.Syntax.{Exp, Opt, absent, given}
use Rattle.pt_wide.specs.Fold.{all_of}
use Rattle.pt_readers.specs.Reading.{Part}
use Rattle.pt_grammar.specs.declared.part.Part.TheVariants.{Whole}
use Rattle.pt_grammar.specs.declared.sign.Sign.TheVariants.{Operator, Comparison, Mark as mark, Word as word, Keyword as keyword}
use Rattle.pt_grammar.specs.declared.sign.Mark.TheVariants.{Open, Close, OpenBracket, Comma, Dot}
use Rattle.pt_grammar.specs.declared.sign.Keyword.TheVariants.{As}
use Rattle.pt_grammar.specs.declared.sign.Word.TheVariants.{And, Or, Not, In, Is as is_word, If, For, Yield}
use Rattle.pt_grammar.specs.declared.sign.Sign.{Sign}
use Rattle.pt_grammar.specs.Lexemes.{Lexeme, sign, sign_at}
use Rattle.pt_grammar.specs.Parts.{ends_in_text}
use Rattle.pt_grammar.specs.Grammar.{Binary, MoreItems}
use Rattle.pt_grammar.specs.Nodes.{Listed, line_of}
use Rattle.pt_grammar.specs.Behind.{IsSign, Starting, InParentheses}
use Rattle.pt_grammar.specs.BehindAtom.{OfExpr}
use Rattle.pt_grammar.specs.Behind.{Inside}
use Rattle.pt_parser.specs.Forms.{Reads, Is, Then, The, Optional, More, UpTo}
use Rattle.pt_parser.specs.Simple.{comma, an_expression, a_place}
use Rattle.pt_parser.specs.Headings.{star_sign}
use Rattle.pt_parser.specs.With.{OneItem, item_of, WithItem, Enclosed, is_enclosed, holds_items, encloses, FitsItem}
use Rattle.pt_parser.specs.Limits.{FitsExp}
use Rattle.pt_parser.specs.Parts.{Each}

-- behind these items: { "," item }, which aren't enclosed
abbrev pub Rest : List OneItem → Reads (List OneItem)
Rest is ts js rest = More comma WithItem is ts js rest × (is_enclosed js ≡ false)

-- behind the expression of the first item: [ "as" target ] { "," item }
abbrev pub Entered : Exp → Reads (List OneItem)
Entered e = Then (Optional (keyword As) a_place.reads) (λ t. Rest (item_of e t ∷ []))

-- behind the atom in parentheses with which that expression begins
abbrev pub FromAtom : Exp → Reads (List OneItem)
FromAtom a = Then (OfExpr a) Entered

-- behind the "(" on this line with which they begin
pub data Opened (l : ℕ) : List Lexeme → List OneItem → List Lexeme → Type 0 where
  of_items : {is : List OneItem} {ts rest : List Lexeme} → Enclosed ts is rest → Opened l ts is rest
  of_atom : {is : List OneItem} {ts rest : List Lexeme} → Then (Inside l) FromAtom ts is rest → Opened l ts is rest

-- what stands behind a "(" and before its ")"
pub data Holding : Type 0 where
  -- items, one of which has a target
  targeted : (is : List OneItem) → Holding
  -- expressions, the first of which starts on this line, and whether a comma stands behind the last
  plain : (start : ℕ) (es : List Exp) (comma : Bool) → Holding
  -- what is no items, with its parentheses
  only : (a : Exp) → Holding

-- as one expression
abbrev pub whole : ℕ → List Exp → Bool → Exp
whole m (e ∷ []) false = e
whole m es b = S.tuple m (all_of es)

abbrev pub plain_item : Exp → OneItem
plain_item e = item_of e absent

abbrev pub plain_items : List Exp → List OneItem
plain_items es = map plain_item es

-- behind the "as" of an item with this expression, behind plain ones: target { "," item } [ "," ] ")"
abbrev pub Targeted : List Exp → Exp → Reads Holding
Targeted es e = Then a_place.reads (λ t. Then (UpTo comma (mark Close) WithItem (plain_items es ++ (item_of e (given t) ∷ []))) (λ is. Is (targeted is)))

-- behind items of which one has a star, in the parentheses on this line: { "," item } [ "," ] ")"
abbrev pub OfTuple : ℕ → ℕ → List Exp → Reads Holding
OfTuple l m es = Then (MoreItems Whole es) (λ x. Then (The (mark Close)) (λ k. Is (only (S.parenthesized l (S.tuple m (all_of x.items))))))

-- behind the star on this line, and these before it
abbrev pub Starred : ℕ → ℕ → ℕ → List Exp → Reads Holding
Starred l m k es = Then (Binary 6) (λ e. OfTuple l m (es ++ (S.starred k e ∷ [])))

mutual
  -- behind an expression, and these before it
  pub data BehindExp (l m : ℕ) : List Exp → Exp → List Lexeme → Holding → List Lexeme → Type 0 where
    with_target : {k : ℕ} {es : List Exp} {e : Exp} {c : Holding} {ts rest : List Lexeme} → Targeted es e ts c rest → BehindExp l m es e (sign k (keyword As) ∷ ts) c rest
    without : {es : List Exp} {e : Exp} {c : Holding} {ts rest : List Lexeme} → Sequel l m (es ++ (e ∷ [])) ts c rest → BehindExp l m es e ts c rest

  -- behind these, the last of which has no target
  pub data Sequel (l m : ℕ) : List Exp → List Lexeme → Holding → List Lexeme → Type 0 where
    closes : {k : ℕ} {es : List Exp} {rest : List Lexeme} → Sequel l m es (sign k (mark Close) ∷ rest) (plain m es false) rest
    goes_on : {k : ℕ} {es : List Exp} {c : Holding} {ts rest : List Lexeme} → Onward l m es ts c rest → Sequel l m es (sign k comma ∷ ts) c rest

  -- behind a comma
  pub data Onward (l m : ℕ) : List Exp → List Lexeme → Holding → List Lexeme → Type 0 where
    closes_behind : {k : ℕ} {es : List Exp} {rest : List Lexeme} → Onward l m es (sign k (mark Close) ∷ rest) (plain m es true) rest
    next_star : {k : ℕ} {es : List Exp} {c : Holding} {ts rest : List Lexeme} → Starred l m k es ts c rest → Onward l m es (sign k star_sign ∷ ts) c rest
    next_exp : {es : List Exp} {e : Exp} {c : Holding} {ts mid rest : List Lexeme} → an_expression.reads ts e mid → BehindExp l m es e mid c rest → Onward l m es ts c rest

-- behind the first expression
pub data First (l : ℕ) (e : Exp) : List Lexeme → Holding → List Lexeme → Type 0 where
  with_clauses : {a : Exp} {ts rest : List Lexeme} → Starting (IsSign (word For)) (InParentheses l e) ts a rest → First l e ts (only a) rest
  no_clauses : {c : Holding} {ts rest : List Lexeme} → BehindExp l (line_of e) [] e ts c rest → First l e ts c rest

-- a token with which no item begins, though parentheses may hold what it begins
pub data BeginsOnly : Lexeme → Type 0 where
  at_close : {k : ℕ} → BeginsOnly (sign k (mark Close))
  at_yield : {k : ℕ} → BeginsOnly (sign k (word Yield))
  at_star : {k : ℕ} → BeginsOnly (sign k star_sign)

-- behind the "(" on this line, with its ")"
pub data Held (l : ℕ) : List Lexeme → Holding → List Lexeme → Type 0 where
  no_items : {a : Exp} {ts rest : List Lexeme} → Starting BeginsOnly (Inside l) ts a rest → Held l ts (only a) rest
  some_exp : {e : Exp} {c : Holding} {ts mid rest : List Lexeme} → an_expression.reads ts e mid → First l e mid c rest → Held l ts c rest

-- Expressions are items, or the tuple that they are is the atom with which the first item begins.
pub data BehindPlain (l m : ℕ) (es : List Exp) (b : Bool) : List Lexeme → List OneItem → List Lexeme → Type 0 where
  as_items : {is : List OneItem} {ts rest : List Lexeme} → Is (plain_items es) ts is rest → BehindPlain l m es b ts is rest
  as_atom : {is : List OneItem} {ts rest : List Lexeme} → FromAtom (S.parenthesized l (whole m es b)) ts is rest → BehindPlain l m es b ts is rest

-- behind what the parentheses hold
abbrev pub BehindHeld : ℕ → Holding → Reads (List OneItem)
BehindHeld l (targeted is) = Is is
BehindHeld l (plain m es b) = BehindPlain l m es b
BehindHeld l (only a) = FromAtom a

-- The limits of what parentheses hold.
abbrev pub FitsHeld : Holding → Type 0
FitsHeld (targeted is) = Each FitsItem is
FitsHeld (plain m es b) = Each FitsExp es
FitsHeld (only a) = FitsExp a

abbrev pub what_is_held : ℕ → Part Lexeme Holding
what_is_held l = record { reads = Held l; stops = λ c next. Unit {0}; fits = FitsHeld }

-- What is known of what parentheses hold: expressions are items, and what is no items holds none.
abbrev pub Sound : Holding → Type 0
Sound (targeted is) = Unit {0}
Sound (plain m es b) = (es ≢ []) × (holds_items (whole m es b) ≡ true)
Sound (only a) = (ends_in_text a ≡ false) × (encloses a ≡ false)

-- A token is next with which no item begins, though parentheses may hold what it begins.
abbrev pub OnlyNext : Option Lexeme → Type 0
OnlyNext next = (sign_at next ≡ Some (mark Close)) ⊎ (sign_at next ≡ Some (word Yield)) ⊎ (sign_at next ≡ Some star_sign)

-- The next token goes on with an item behind its parentheses.
abbrev pub goes_on_sign : Sign → Bool
goes_on_sign (mark Dot) = true
goes_on_sign (mark Open) = true
goes_on_sign (mark OpenBracket) = true
goes_on_sign (mark Comma) = true
goes_on_sign (Operator o) = true
goes_on_sign (Comparison o) = true
goes_on_sign (word And) = true
goes_on_sign (word Or) = true
goes_on_sign (word Not) = true
goes_on_sign (word In) = true
goes_on_sign (word is_word) = true
goes_on_sign (word If) = true
goes_on_sign (keyword As) = true
goes_on_sign s = false

abbrev pub goes_on_at : Option Sign → Bool
goes_on_at None = false
goes_on_at (Some s) = goes_on_sign s
