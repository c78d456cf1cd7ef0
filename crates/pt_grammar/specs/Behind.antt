-- What is left of parts of the grammar behind the first thing in them.
use Rattle.std.specs.Prelude.{◌≡◌, ℕ, List, [], ◌∷◌}
use Rattle.pt_wide.specs.declared.expression.Comprehension.TheVariants as form
use Rattle.pt_wide.specs.Syntax as S
use Rattle.pt_wide.specs.Syntax.{Exp}
use Rattle.pt_wide.specs.Fold.{all_of}
use Rattle.pt_readers.proofs.Readers.{Just}
use Rattle.pt_readers.proofs.Pieces.{Through}
use Rattle.pt_grammar.specs.declared.part.Part.{Part}
use Rattle.pt_grammar.specs.declared.part.Part.TheVariants.{Whole}
use Rattle.pt_grammar.specs.declared.sign.Sign.{Sign}
use Rattle.pt_grammar.specs.declared.sign.Sign.TheVariants.{Mark as mark, Word as word}
use Rattle.pt_grammar.specs.declared.sign.Mark.{Mark}
use Rattle.pt_grammar.specs.declared.sign.Mark.TheVariants.{Close, CloseBracket, Comma}
use Rattle.pt_grammar.specs.declared.sign.Word.TheVariants.{For}
use Rattle.pt_grammar.specs.Lexemes.{Lexeme, sign}
use Rattle.pt_grammar.specs.Grammar.{MoreItems, Value, Expr, Clauses}
use Rattle.pt_grammar.specs.Nodes.{line_of, Listed, OneClause, clauses_of}
use Rattle.pt_grammar.specs.Parts.{item_rank}

pub data IsSign (s : Sign) : Lexeme → Type 0 where
  is_sign : {l : ℕ} → IsSign s (sign l s)

-- one part, and then another
abbrev pub Then : {T A B : Type 0} → (List T → B → List T → Type 0) → (B → List T → A → List T → Type 0) → List T → A → List T → Type 0
Then {T} {A} {B} Q K ts x rest = (y : B) × (mid : List T) × Q ts y mid × K y mid x rest

-- a part whose first token is of J
pub data Starting {T A : Type 0} (J : T → Type 0) (K : List T → A → List T → Type 0) : List T → A → List T → Type 0 where
  starting : {t : T} {ts rest : List T} {x : A} → J t → K (t ∷ ts) x rest → Starting J K (t ∷ ts) x rest

-- behind the first of expressions or targets with commas between them, as one expression
pub data Followed (p : Part) (e : Exp) : List Lexeme → Exp → List Lexeme → Type 0 where
  followed_end : {ts : List Lexeme} → Followed p e ts e ts
  followed_more : {l : ℕ} {x : Listed} {ts rest : List Lexeme} → MoreItems p (e ∷ []) (sign l (mark Comma) ∷ ts) x rest
      → Followed p e (sign l (mark Comma) ∷ ts) (S.tuple (line_of e) (all_of x.items)) rest

-- the clauses of a comprehension, and what closes its brackets
abbrev pub ByClauses : Mark → (List OneClause → Exp) → List Lexeme → Exp → List Lexeme → Type 0
ByClauses close node = Then (Starting (IsSign (word For)) (Clauses [])) (λ cs. Through (IsSign (mark close)) (Just (node cs)))

-- behind the first item in brackets: something else, or the clauses, where the item has no star
pub data Behind (e : Exp) (close : Mark) (node : List OneClause → Exp) (Other : List Lexeme → Exp → List Lexeme → Type 0) : List Lexeme → Exp → List Lexeme → Type 0 where
  otherwise : {ts rest : List Lexeme} {x : Exp} → Other ts x rest → Behind e close node Other ts x rest
  by_clauses : {ts rest : List Lexeme} {x : Exp} → item_rank Whole e ≡ 11 → ByClauses close node ts x rest → Behind e close node Other ts x rest

-- the closing parenthesis
abbrev pub Closed : ℕ → Exp → List Lexeme → Exp → List Lexeme → Type 0
Closed l y = Through (IsSign (mark Close)) (Just (S.parenthesized l y))

abbrev pub generator_of : ℕ → Exp → List OneClause → Exp
generator_of l e cs = S.parenthesized l (S.comprehension (line_of e) form.Generator e (clauses_of cs))

-- behind the opening parenthesis on this line, with the closing one
pub data Inside (l : ℕ) : List Lexeme → Exp → List Lexeme → Type 0 where
  nothing : {m : ℕ} {rest : List Lexeme} → Inside l (sign m (mark Close) ∷ rest) (S.parenthesized l (S.tuple l S.no_exps)) rest
  something : {m : ℕ} {ts rest : List Lexeme} {e : Exp} → Value ts e (sign m (mark Close) ∷ rest) → Inside l ts (S.parenthesized l e) rest
  generated : {k m : ℕ} {ts us rest : List Lexeme} {e : Exp} {cs : List OneClause} → Expr ts e (sign k (word For) ∷ us) → Clauses [] (sign k (word For) ∷ us) cs (sign m (mark Close) ∷ rest)
      → Inside l ts (generator_of l e cs) rest

-- behind the first item in parentheses
abbrev pub InParentheses : ℕ → Exp → List Lexeme → Exp → List Lexeme → Type 0
InParentheses l e = Behind e Close (generator_of l e) (Then (Followed Whole e) (Closed l))

-- the closing bracket of a list
abbrev pub Listing : ℕ → Listed → List Lexeme → Exp → List Lexeme → Type 0
Listing l y = Through (IsSign (mark CloseBracket)) (Just (S.list l (all_of y.items)))

abbrev pub list_comprehension_of : ℕ → Exp → List OneClause → Exp
list_comprehension_of l e cs = S.comprehension l form.List e (clauses_of cs)

-- behind the first item in the brackets of a list
abbrev pub InBrackets : ℕ → Exp → List Lexeme → Exp → List Lexeme → Type 0
InBrackets l e = Behind e CloseBracket (list_comprehension_of l e) (Then (MoreItems Whole (e ∷ [])) (Listing l))
