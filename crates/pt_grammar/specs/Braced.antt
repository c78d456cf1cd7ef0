-- What is left of a display in braces at the places between its parts (Language Reference 6.2.6, 6.2.7).
use Rattle.std.specs.Prelude.{ℕ, Bool, true, false, List, [], ◌∷◌, Option, Some}
use Rattle.pt_base.specs.declared.operators.BinOp.TheVariants.{Mul, Pow}
use Rattle.pt_wide.specs.declared.expression.WideBinOp.TheVariants.{Plain}
use Rattle.pt_wide.specs.declared.expression.Comprehension.TheVariants as form
use Rattle.pt_wide.specs.Syntax as S
use Rattle.pt_wide.specs.Syntax.{Exp, Entry}
use Rattle.pt_wide.specs.Fold.{all_of}
use Rattle.pt_readers.proofs.Readers.{Just}
use Rattle.pt_readers.proofs.Pieces.{Through}
use Rattle.pt_grammar.specs.declared.part.Part.TheVariants.{Whole}
use Rattle.pt_grammar.specs.declared.sign.Sign.TheVariants.{Operator, Mark as mark, Word as word}
use Rattle.pt_grammar.specs.declared.sign.Mark.TheVariants.{CloseBrace, Colon}
use Rattle.pt_grammar.specs.declared.sign.Word.TheVariants.{For}
use Rattle.pt_grammar.specs.Lexemes.{Lexeme, sign}
use Rattle.pt_grammar.specs.Signs.{begins_item}
use Rattle.pt_grammar.specs.Grammar.{MoreItems, Item, Expr, Clauses, MoreEntries, OneEntry}
use Rattle.pt_grammar.specs.Nodes.{Listed, OneClause, clauses_of, entries_of}
use Rattle.pt_grammar.specs.Behind.{IsSign}

-- what begins an entry of a dictionary
abbrev pub begins_entry : Option Lexeme → Bool
begins_entry (Some (sign l (Operator (Plain Pow)))) = true
begins_entry (Some (sign l (Operator (Plain Mul)))) = false
begins_entry next = begins_item Whole next

-- what begins the content of a display that isn't empty
abbrev pub begins_content : Option Lexeme → Bool
begins_content (Some (sign l (Operator (Plain Pow)))) = true
begins_content next = begins_item Whole next

-- Each of these ends with the closing brace, and its display starts on this line. Behind the first entry of a dictionary:
pub data Entered (l : ℕ) (g : Entry) : List Lexeme → Exp → List Lexeme → Type 0 where
  entered : {m : ℕ} {ts rest : List Lexeme} {gs : List Entry} → MoreEntries (g ∷ []) ts gs (sign m (mark CloseBrace) ∷ rest) → Entered l g ts (S.dict l (entries_of gs)) rest
  entered_for : {k m : ℕ} {ts rest : List Lexeme} {cs : List OneClause} → Clauses [] (sign k (word For) ∷ ts) cs (sign m (mark CloseBrace) ∷ rest)
      → Entered l g (sign k (word For) ∷ ts) (S.dict_comprehension l g (clauses_of cs)) rest

-- behind the first item of a set
pub data Members (l : ℕ) (e : Exp) : List Lexeme → Exp → List Lexeme → Type 0 where
  members : {m : ℕ} {ts rest : List Lexeme} {x : Listed} → MoreItems Whole (e ∷ []) ts x (sign m (mark CloseBrace) ∷ rest) → Members l e ts (S.set l (all_of x.items)) rest

-- behind an expression: the first key, or what a set is made of
pub data Opened (l : ℕ) (e : Exp) : List Lexeme → Exp → List Lexeme → Type 0 where
  opened_key : {k : ℕ} {ts mid rest : List Lexeme} {v x : Exp} → Expr ts v mid → Entered l (S.pair e v) mid x rest → Opened l e (sign k (mark Colon) ∷ ts) x rest
  opened_for : {k m : ℕ} {ts rest : List Lexeme} {cs : List OneClause} → Clauses [] (sign k (word For) ∷ ts) cs (sign m (mark CloseBrace) ∷ rest)
      → Opened l e (sign k (word For) ∷ ts) (S.comprehension l form.Set e (clauses_of cs)) rest
  opened_members : {ts rest : List Lexeme} {x : Exp} → Members l e ts x rest → Opened l e ts x rest

-- behind the opening brace, where something stands between the two
pub data Content (l : ℕ) : List Lexeme → Exp → List Lexeme → Type 0 where
  by_entry : {ts mid rest : List Lexeme} {g : Entry} {x : Exp} → OneEntry ts g mid → Entered l g mid x rest → Content l ts x rest
  by_item : {ts mid rest : List Lexeme} {e x : Exp} → Item Whole ts e mid → Members l e mid x rest → Content l ts x rest
  by_expr : {ts mid rest : List Lexeme} {e x : Exp} → Expr ts e mid → Opened l e mid x rest → Content l ts x rest

-- a node, and the brace that closes it
abbrev pub Closing : Exp → List Lexeme → Exp → List Lexeme → Type 0
Closing x = Through (IsSign (mark CloseBrace)) (Just x)
