-- The parts of the grammar of statements: which tokens they are, which tokens go on with them, and the limits.
use Rattle.std.specs.Prelude.{◌≡◌, ◌≢◌, ◌⊎◌, ℕ, List, [], ◌∷◌, Option, Some, None}
use Rattle.pt_tree.specs.declared.statement.Alias.{Alias}
use Rattle.pt_wide.specs.Syntax.{Stm, absent}
use Rattle.pt_readers.specs.Reading.{Part}
use Rattle.pt_grammar.specs.declared.sign.Sign.{Sign}
use Rattle.pt_grammar.specs.declared.sign.Sign.TheVariants.{Augmented, Mark as mark, Word as word, Layout as layout, Keyword as keyword, Singleton as singleton}
use Rattle.pt_grammar.specs.declared.sign.Singleton.TheVariants.{Ellipsis}
use Rattle.pt_grammar.specs.declared.sign.Keyword.{Keyword}
use Rattle.pt_grammar.specs.declared.sign.Word.TheVariants.{Else, If, For}
use Rattle.pt_grammar.specs.declared.sign.Keyword.TheVariants.{As, Class, Def, Elif, Except, Finally, Try, While, With}
use Rattle.pt_base.specs.declared.operators.BinOp.{BinOp}
use Rattle.pt_grammar.specs.declared.sign.Mark.TheVariants.{Arrow, Colon, Semicolon, Dot, Close}
use Rattle.pt_grammar.specs.declared.sign.Layout.TheVariants.{Newline}
use Rattle.pt_grammar.specs.Lexemes.{Lexeme, sign_at}
use Rattle.pt_grammar.specs.Nodes.{params_of}
use Rattle.pt_tree.specs.Syntax.{Name}
use Rattle.pt_parser.specs.Forms.{Reads, Is, Then, Separated, UpTo, an_identifier, an_optional}
use Rattle.pt_parser.specs.Simple.{comma, an_expression, a_place, Renamed, Aliased, Imported, Dotted, Simple}
use Rattle.pt_parser.specs.Headings.{at_sign, OneDecorator, Decorated, OneSignature, Signature, OneBases, BehindOpen, OneCatch, Catch}
use Rattle.pt_parser.specs.With.{OneItem, WithItem, WithItems, FitsItem}
use Rattle.pt_parser.specs.Limits.{FitsExp, FitsOpt, FitsArgs, FitsParams, FitsStm, FitsStms}
use Rattle.pt_parser.specs.Grammar.{OneBranch, OneHandler, Block, Stmts, Stmt, Simples, Afterwards, Suite, Compound}
use Rattle.pt_wide.specs.StatementFold.{stms_from}

-- The next token ends a simple statement.
abbrev pub IsEnd : Option Lexeme → Type 0
IsEnd next = (sign_at next ≡ Some (mark Semicolon)) ⊎ (sign_at next ≡ Some (layout Newline))

-- nothing, before the end of a simple statement
abbrev pub an_end : Part Lexeme (Unit {0})
an_end = record { reads = Is tt; stops = λ u next. IsEnd next; fits = λ u. Unit {0} }

abbrev pub StopsAlias : Alias → Option Lexeme → Type 0
StopsAlias a next = a.alias ≡ None → sign_at next ≢ Some (keyword As)

-- how many dots a sign has, of those that may stand before the origin of an import
abbrev pub dots_in : Option Sign → ℕ
dots_in (Some (mark Dot)) = 1
dots_in (Some (singleton Ellipsis)) = 3
dots_in _ = 0

abbrev pub keyword_in : Option Sign → Option Keyword
keyword_in (Some (keyword k)) = Some k
keyword_in _ = None

abbrev pub operator_in : Option Sign → Option BinOp
operator_in (Some (Augmented o)) = Some o
operator_in _ = None

-- nothing, before this sign
abbrev pub a_sign_next : Sign → Part Lexeme (Unit {0})
a_sign_next s = record { reads = Is tt; stops = λ u next. sign_at next ≡ Some s; fits = λ u. Unit {0} }

abbrev pub a_renamed : Part Lexeme (Option Name)
a_renamed = record { reads = Renamed; stops = λ x next. x ≡ None → sign_at next ≢ Some (keyword As); fits = λ x. Unit {0} }

abbrev pub an_alias : Part Lexeme Alias
an_alias = record { reads = Aliased; stops = StopsAlias; fits = λ a. Unit {0} }

-- such parts with commas between them, up to the end of a simple statement
abbrev pub a_list : {A : Type 0} → Part Lexeme A → Part Lexeme (List A)
a_list Q = record { reads = Separated comma Q.reads; stops = λ xs next. IsEnd next; fits = λ xs. Unit {0} }

abbrev pub imported : Part Lexeme (Option (List Alias))
imported = record { reads = Imported; stops = λ xs next. IsEnd next; fits = λ xs. Unit {0} }

abbrev pub some_dots : ℕ → Part Lexeme ℕ
some_dots n = record { reads = Dotted n; stops = λ m next. dots_in (sign_at next) ≡ 0; fits = λ m. Unit {0} }

abbrev pub Each : {A : Type 0} → (A → Type 0) → List A → Type 0
Each F [] = Unit {0}
Each F (x ∷ xs) = F x × Each F xs

-- what is left of items that a sign closes
abbrev pub closing : {A : Type 0} → Part Lexeme A → Reads (List A) → Part Lexeme (List A)
closing Q K = record { reads = K; stops = λ xs next. Unit {0}; fits = Each Q.fits }

-- names that are imported, in parentheses, behind the opening one
abbrev pub an_enclosure : Part Lexeme (List Alias)
an_enclosure = closing an_alias (Then Aliased (λ a. UpTo comma (mark Close) Aliased (a ∷ [])))

abbrev pub a_simple : Part Lexeme Stm
a_simple = record { reads = Simple; stops = λ s next. IsEnd next; fits = FitsStm }

-- The limits of the statements of a block.
abbrev pub FitsBlock : List Stm → Type 0
FitsBlock ss = FitsStms (stms_from ss)

abbrev pub FitsBranch : OneBranch → Type 0
FitsBranch b = FitsExp b.test × FitsBlock b.body

abbrev pub FitsHandler : OneHandler → Type 0
FitsHandler h = FitsOpt h.class × FitsBlock h.body

abbrev pub FitsDecorator : OneDecorator → Type 0
FitsDecorator d = FitsExp d.value

-- behind the "@" on this line
abbrev pub some_decorators : ℕ → Part Lexeme (List OneDecorator)
some_decorators l = record { reads = Decorated l []; stops = λ ds next. sign_at next ≢ Some at_sign; fits = Each FitsDecorator }

abbrev pub a_signature : Part Lexeme OneSignature
a_signature = record { reads = Signature; stops = λ h next. (an_optional (mark Arrow) an_expression).stops h.returns next; fits = λ h. FitsParams (params_of h.parameters) × FitsOpt h.returns }

-- the arguments of a class behind "("
abbrev pub some_bases : Part Lexeme OneBases
some_bases = record { reads = BehindOpen; stops = λ b next. Unit {0}; fits = λ b. FitsArgs b.arguments }

-- up to the colon, which stays
abbrev pub a_catch : Part Lexeme OneCatch
a_catch = record { reads = Catch; stops = λ c next. sign_at next ≡ Some (mark Colon); fits = λ c. FitsOpt c.class }

-- an item of a `with`
abbrev pub a_with_item : Part Lexeme OneItem
a_with_item = record { reads = WithItem; stops = λ i next. (an_optional (keyword As) a_place).stops i.target next × (i.target ≡ absent → an_expression.stops i.context next); fits = FitsItem }

-- all of them, up to the colon, which stays
abbrev pub with_items : Part Lexeme (List OneItem)
with_items = record { reads = WithItems; stops = λ is next. sign_at next ≡ Some (mark Colon); fits = Each FitsItem }

-- The next token goes on with a compound statement before it.
abbrev pub IsClause : Option Lexeme → Type 0
IsClause next = (sign_at next ≡ Some (word Else)) ⊎ (sign_at next ≡ Some (keyword Elif)) ⊎ (sign_at next ≡ Some (keyword Except)) ⊎ (sign_at next ≡ Some (keyword Finally))

-- Another token is next.
abbrev pub Clear : Option Lexeme → Type 0
Clear None = ⊥
Clear (Some t) = IsClause (Some t) → ⊥

-- nothing, before such a token
abbrev pub no_clause : Part Lexeme (Unit {0})
no_clause = record { reads = Is tt; stops = λ u next. Clear next; fits = λ u. Unit {0} }

abbrev pub a_compound : Part Lexeme Stm
a_compound = record { reads = Compound; stops = λ s next. Clear next; fits = FitsStm }

-- a statement behind these
abbrev pub a_stmt : List Stm → Part Lexeme (List Stm)
a_stmt ss = record { reads = Stmt ss; stops = λ all next. Clear next; fits = FitsBlock }

-- simple statements behind these
abbrev pub some_simples : List Stm → Part Lexeme (List Stm)
some_simples ss = record { reads = Simples ss; stops = λ all next. Unit {0}; fits = FitsBlock }

-- statements behind these, up to this sign
abbrev pub some_stmts : Sign → List Stm → Part Lexeme (List Stm)
some_stmts close ss = record { reads = Stmts close ss; stops = λ all next. Unit {0}; fits = FitsBlock }

abbrev pub a_block : Part Lexeme (List Stm)
a_block = record { reads = Block; stops = λ ss next. Unit {0}; fits = FitsBlock }

-- the words of parts that stand behind all others
abbrev pub IsAfterwards : Sign → Type 0
IsAfterwards w = (w ≡ word Else) ⊎ (w ≡ keyword Finally)

abbrev pub an_afterwards : Sign → Part Lexeme (List Stm)
an_afterwards w = record { reads = Afterwards w; stops = λ ss next. Clear next; fits = FitsBlock }

abbrev pub an_otherwise : Part Lexeme (List Stm)
an_otherwise = an_afterwards (word Else)

-- ":" and a block
abbrev pub a_suite : Part Lexeme (List Stm)
a_suite = record { reads = Suite; stops = λ ss next. Unit {0}; fits = FitsBlock }

-- the same at the end of a statement
abbrev pub a_last : Part Lexeme (List Stm)
a_last = record { reads = Suite; stops = λ ss next. Clear next; fits = FitsBlock }

-- A compound statement is next.
abbrev pub BeginsCompound : Option Lexeme → Type 0
BeginsCompound next = (sign_at next ≡ Some (word If)) ⊎ (sign_at next ≡ Some (keyword While)) ⊎ (sign_at next ≡ Some (word For)) ⊎ (sign_at next ≡ Some (keyword Try))
    ⊎ (sign_at next ≡ Some (keyword Def)) ⊎ (sign_at next ≡ Some (keyword Class)) ⊎ (sign_at next ≡ Some at_sign) ⊎ (sign_at next ≡ Some (keyword With))
