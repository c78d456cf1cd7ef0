-- What tokens a simple statement of the wide grammar is (Language Reference 7).
use Rattle.std.specs.Prelude.{◌≡◌, ℕ, suc, ◌+◌, Bool, true, false, IsTrue, List, [], ◌∷◌, ◌++◌, Option, Some, None}
use Rattle.pt_base.specs.declared.operators.BinOp.{BinOp}
use Rattle.pt_base.specs.declared.operators.BinOp.TheVariants.{Mul}
use Rattle.pt_tree.specs.Syntax.{Name}
use Rattle.pt_tree.specs.declared.statement.Alias.{Alias}
use Rattle.pt_wide.specs.declared.expression.WideBinOp.TheVariants.{Plain}
use Rattle.pt_wide.specs.Syntax as S
use Rattle.pt_wide.specs.Syntax.{Exp, Exps, Opt, Stm}
use Rattle.pt_wide.specs.Fold.{all_of}
use Rattle.pt_readers.specs.Reading.{Part}
use Rattle.pt_grammar.specs.declared.sign.Sign.{Sign}
use Rattle.pt_grammar.specs.declared.sign.Sign.TheVariants.{Operator, Augmented, Singleton as singleton, Mark as mark, Word as word, Keyword as keyword, Layout as layout}
use Rattle.pt_grammar.specs.declared.sign.Singleton.TheVariants.{Ellipsis}
use Rattle.pt_grammar.specs.declared.sign.Mark.TheVariants.{Open, Close, Comma, Colon, Dot, Assign}
use Rattle.pt_grammar.specs.declared.sign.Word.TheVariants.{From}
use Rattle.pt_grammar.specs.declared.sign.Keyword.{Keyword}
use Rattle.pt_grammar.specs.declared.sign.Keyword.TheVariants.{As, Assert, Break, Continue, Del, Global, Import, Nonlocal, Pass, Raise, Return}
use Rattle.pt_grammar.specs.Nodes.{line_of}
use Rattle.pt_grammar.specs.Lexemes.{Lexeme, sign}
use Rattle.pt_grammar.specs.Nodes as L
use Rattle.pt_grammar.specs.declared.part.Part.TheVariants.{Whole, Target}
use Rattle.pt_grammar.specs.Parts.{a_bare, a_bor, a_value, an_expr, some_exprs}
use Rattle.pt_parser.specs.Forms.{Reads, Is, Then, The, Identifier, Optional, Separated, UpTo}

-- an expression may have so many nodes inside one another
abbrev pub max_depth : ℕ
max_depth = 500

-- The parts of the grammar of expressions.
abbrev pub an_expression : Part Lexeme Exp
an_expression = an_expr max_depth

abbrev pub a_place : Part Lexeme Exp
a_place = a_bor max_depth

abbrev pub expressions : Part Lexeme Exp
expressions = a_bare Whole max_depth

abbrev pub values : Part Lexeme Exp
values = a_value max_depth

abbrev pub places : Part Lexeme Exp
places = a_bare Target max_depth

-- the same, one by one
abbrev pub several_places : Part Lexeme L.Listed
several_places = some_exprs Target max_depth

abbrev pub comma : Sign
comma = mark Comma

-- names = NAME { "," NAME }
abbrev pub Names : Reads (List Name)
Names = Separated comma Identifier

-- [ "as" NAME ]
pub data Renamed : List Lexeme → Option Name → List Lexeme → Type 0 where
  not_renamed : {rest : List Lexeme} → Renamed rest None rest
  renamed : {l : ℕ} {x : Name} {ts rest : List Lexeme} → Identifier ts x rest → Renamed (sign l (keyword As) ∷ ts) (Some x) rest

-- NAME [ "as" NAME ]
abbrev pub Aliased : Reads Alias
Aliased = Then Identifier (λ x. Then Renamed (λ a. Is record { name = x; alias = a }))

-- imps = NAME [ "as" NAME ] { "," NAME [ "as" NAME ] }
abbrev pub Imports : Reads (List Alias)
Imports = Separated comma Aliased

-- dots, behind so many
pub data Dotted : ℕ → List Lexeme → ℕ → List Lexeme → Type 0 where
  no_dot : {n : ℕ} {rest : List Lexeme} → Dotted n rest n rest
  dot : {l n m : ℕ} {ts rest : List Lexeme} → Dotted (n + 1) ts m rest → Dotted n (sign l (mark Dot) ∷ ts) m rest
  dots : {l n m : ℕ} {ts rest : List Lexeme} → Dotted (n + 3) ts m rest → Dotted n (sign l (singleton Ellipsis) ∷ ts) m rest

-- "*" | imps | "(" imps [ "," ] ")"
pub data Imported : List Lexeme → Option (List Alias) → List Lexeme → Type 0 where
  star : {l : ℕ} {rest : List Lexeme} → Imported (sign l (Operator (Plain Mul)) ∷ rest) None rest
  listed : {xs : List Alias} {ts rest : List Lexeme} → Imports ts xs rest → Imported ts (Some xs) rest
  enclosed : {l : ℕ} {xs : List Alias} {ts rest : List Lexeme} → Then Aliased (λ a. UpTo comma (mark Close) Aliased (a ∷ [])) ts xs rest
      → Imported (sign l (mark Open) ∷ ts) (Some xs) rest

-- behind "from": dots NAME "import" and what is imported
abbrev pub ImportedFrom : ℕ → Reads Stm
ImportedFrom l = Then (Dotted 0) (λ n. Then Identifier (λ x. Then (The (keyword Import)) (λ m. Then Imported (λ xs. Is (S.import_from l n x xs)))))

-- behind "return": [ exprs ]
pub data Returned (l : ℕ) : List Lexeme → Stm → List Lexeme → Type 0 where
  returned_nothing : {rest : List Lexeme} → Returned l rest (S.return l S.absent) rest
  returned : {e : Exp} {ts rest : List Lexeme} → expressions.reads ts e rest → Returned l ts (S.return l (S.given e)) rest

-- behind "raise": [ expr [ "from" expr ] ]
pub data Raised (l : ℕ) : List Lexeme → Stm → List Lexeme → Type 0 where
  raised_again : {rest : List Lexeme} → Raised l rest (S.raise_again l) rest
  raised : {s : Stm} {ts rest : List Lexeme} → Then an_expression.reads (λ e. Then (Optional (word From) an_expression.reads) (λ c. Is (S.raise l e c))) ts s rest
      → Raised l ts s rest

pub data Nothing {A : Type 0} : List Lexeme → A → List Lexeme → Type 0 where

-- behind a keyword that begins a simple statement, which stands on this line
abbrev pub Behind : ℕ → Keyword → Reads Stm
Behind l Pass = Is (S.pass l)
Behind l Break = Is (S.break l)
Behind l Continue = Is (S.continue l)
Behind l Return = Returned l
Behind l Raise = Raised l
Behind l Global = Then Names (λ xs. Is (S.global l xs))
Behind l Nonlocal = Then Names (λ xs. Is (S.nonlocal l xs))
Behind l Del = Then several_places.reads (λ x. Is (S.del l (all_of x.items)))
Behind l Assert = Then an_expression.reads (λ e. Then (Optional comma an_expression.reads) (λ m. Is (S.assert l e m)))
Behind l Import = Then Imports (λ xs. Is (S.import l xs))
Behind l _ = Nothing

-- { targets "=" } value, behind these targets
pub data Assigned (l : ℕ) : List Exp → List Lexeme → Stm → List Lexeme → Type 0 where
  last_value : {ts rest : List Lexeme} {xs : List Exp} {v : Exp} → values.reads ts v rest → Assigned l xs ts (S.assign l (all_of xs) v) rest
  one_target : {m : ℕ} {ts mid rest : List Lexeme} {xs : List Exp} {t : Exp} {s : Stm} → places.reads ts t (sign m (mark Assign) ∷ mid)
      → Assigned l (xs ++ (t ∷ [])) mid s rest → Assigned l xs ts s rest

-- behind a target and ":": expr [ "=" value ]
abbrev pub Annotation : Exp → Reads Stm
Annotation t = Then an_expression.reads (λ a. Then (Optional (mark Assign) values.reads) (λ v. Is (S.annotated (line_of t) t a v)))

-- target ":" expr [ "=" value ] | target AUGMENT value | { targets "=" } value
pub data AssignmentOrExpression : List Lexeme → Stm → List Lexeme → Type 0 where
  annotated : {m : ℕ} {ts mid rest : List Lexeme} {t : Exp} {s : Stm} → a_place.reads ts t (sign m (mark Colon) ∷ mid) → Annotation t mid s rest → AssignmentOrExpression ts s rest
  augmented : {m : ℕ} {ts mid rest : List Lexeme} {t v : Exp} {o : BinOp} → a_place.reads ts t (sign m (Augmented o) ∷ mid) → values.reads mid v rest
      → AssignmentOrExpression ts (S.augmented (line_of t) t o v) rest
  assigned : {m : ℕ} {ts mid rest : List Lexeme} {t : Exp} {s : Stm} → places.reads ts t (sign m (mark Assign) ∷ mid) → Assigned (line_of t) (t ∷ []) mid s rest
      → AssignmentOrExpression ts s rest
  only_value : {ts rest : List Lexeme} {v : Exp} → values.reads ts v rest → AssignmentOrExpression ts (S.assign (line_of v) S.no_exps v) rest

-- simple, on the line of its first token
pub data Simple : List Lexeme → Stm → List Lexeme → Type 0 where
  keyword_statement : {l : ℕ} {k : Keyword} {ts rest : List Lexeme} {s : Stm} → Behind l k ts s rest → Simple (sign l (keyword k) ∷ ts) s rest
  imported_from : {l : ℕ} {ts rest : List Lexeme} {s : Stm} → ImportedFrom l ts s rest → Simple (sign l (word From) ∷ ts) s rest
  assignment_or_expression : {ts rest : List Lexeme} {s : Stm} → AssignmentOrExpression ts s rest → Simple ts s rest
