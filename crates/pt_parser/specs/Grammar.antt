-- What tokens statements are by the wide grammar (Language Reference 8, 9.2), production by production.
use Rattle.std.specs.Prelude.{◌≡◌, ℕ, Bool, true, List, [], ◌∷◌, ◌++◌, Option}
use Rattle.pt_tree.specs.Syntax.{Name}
use Rattle.pt_wide.specs.Syntax as S
use Rattle.pt_wide.specs.Syntax.{Exp, Opt, Stm, Branches, Handlers}
use Rattle.pt_wide.specs.StatementFold.{stms_from}
use Rattle.pt_grammar.specs.declared.sign.Sign.{Sign}
use Rattle.pt_grammar.specs.declared.sign.Sign.TheVariants.{Mark as mark, Word as word, Keyword as keyword, Layout as layout}
use Rattle.pt_grammar.specs.declared.sign.Mark.TheVariants.{Colon, Semicolon}
use Rattle.pt_grammar.specs.declared.sign.Word.TheVariants.{If, Else, For, In}
use Rattle.pt_grammar.specs.declared.sign.Keyword.TheVariants.{Class, Def, Elif, Except, Finally, Try, While, With}
use Rattle.pt_grammar.specs.declared.sign.Layout.TheVariants.{Newline, Indent, Dedent}
use Rattle.pt_grammar.specs.Lexemes.{Lexeme, sign}
use Rattle.pt_grammar.specs.Nodes.{is_given, params_of}
use Rattle.pt_parser.specs.Forms.{Reads, Is, Then, The, Identifier, UpTo}
use Rattle.pt_parser.specs.Simple.{an_expression, expressions, places, Simple}
use Rattle.pt_parser.specs.With.{OneItem, items_from, WithItems}
use Rattle.pt_parser.specs.Headings.{at_sign, OneDecorator, decorators_from, Decorated, OneSignature, Signature, OneBases, Bases, OneCatch, Catch}

-- `if` or `elif`, the test and the block
pub record OneBranch : Type 0 where
  pub line : ℕ
  pub test : Exp
  pub body : List Stm

abbrev pub branches_of : List OneBranch → Branches
branches_of [] = S.no_branches
branches_of (b ∷ bs) = S.branch b.line b.test (stms_from b.body) (branches_of bs)

-- "except", what it catches and the block
pub record OneHandler : Type 0 where
  pub line : ℕ
  pub star : Bool
  pub class : Opt
  pub name : Option Name
  pub body : List Stm

abbrev pub handler_at : ℕ → OneCatch → List Stm → OneHandler
handler_at l c body = record { line = l; star = c.star; class = c.class; name = c.name; body = body }

abbrev pub handlers_from : List OneHandler → Handlers
handlers_from [] = S.no_handlers
handlers_from (h ∷ hs) = S.handler h.line h.star h.class h.name (stms_from h.body) (handlers_from hs)

-- Of simples, behind these statements: simple { ";" simple } [ ";" ] NEWLINE.
abbrev pub Simples : List Stm → Reads (List Stm)
Simples ss = Then Simple (λ s. UpTo (mark Semicolon) (layout Newline) Simple (ss ++ (s ∷ [])))

mutual
  -- block = simples | NEWLINE INDENT stmt { stmt } DEDENT
  pub data Block : List Lexeme → List Stm → List Lexeme → Type 0 where
    on_line : {ts rest : List Lexeme} {ss : List Stm} → Simples [] ts ss rest → Block ts ss rest
    indented : {l m : ℕ} {ts mid rest : List Lexeme} {ss all : List Stm} → Stmt [] ts ss mid → Stmts (layout Dedent) ss mid all rest
        → Block (sign l (layout Newline) ∷ (sign m (layout Indent) ∷ ts)) all rest

  -- { stmt } and the sign behind the last, behind these statements
  pub data Stmts : Sign → List Stm → List Lexeme → List Stm → List Lexeme → Type 0 where
    no_stmt : {l : ℕ} {close t : Sign} {ss : List Stm} {rest : List Lexeme} → t ≡ close → Stmts close ss (sign l t ∷ rest) ss rest
    one_stmt : {close : Sign} {ss some all : List Stm} {ts mid rest : List Lexeme} → Stmt ss ts some mid → Stmts close some mid all rest → Stmts close ss ts all rest

  -- stmt = compound | simples, behind these statements
  pub data Stmt : List Stm → List Lexeme → List Stm → List Lexeme → Type 0 where
    compound : {ss all : List Stm} {s : Stm} {ts rest : List Lexeme} → Compound ts s rest → all ≡ ss ++ (s ∷ []) → Stmt ss ts all rest
    simples : {ss all : List Stm} {ts rest : List Lexeme} → Simples ss ts all rest → Stmt ss ts all rest

  -- [ "else" ":" block ], and the same with "finally"
  pub data Afterwards : Sign → List Lexeme → List Stm → List Lexeme → Type 0 where
    nothing_after : {w : Sign} {rest : List Lexeme} → Afterwards w rest [] rest
    block_after : {l m : ℕ} {w t : Sign} {ss : List Stm} {ts rest : List Lexeme} → t ≡ w → Block ts ss rest → Afterwards w (sign l t ∷ (sign m (mark Colon) ∷ ts)) ss rest

  -- behind "if" or "elif" on this line, of the statement on that one, behind these branches: expr ":" block ..
  pub data Chosen : ℕ → ℕ → List OneBranch → List Lexeme → Stm → List Lexeme → Type 0 where
    chosen : {l m k : ℕ} {c : Exp} {body : List Stm} {bs : List OneBranch} {s : Stm} {ts mid end rest : List Lexeme} → an_expression.reads ts c (sign k (mark Colon) ∷ mid)
        → Block mid body end → Alternative l (bs ++ (record { line = m; test = c; body = body } ∷ [])) end s rest → Chosen l m bs ts s rest

  -- { "elif" expr ":" block } [ "else" ":" block ]
  pub data Alternative : ℕ → List OneBranch → List Lexeme → Stm → List Lexeme → Type 0 where
    elif : {l m : ℕ} {bs : List OneBranch} {s : Stm} {ts rest : List Lexeme} → Chosen l m bs ts s rest → Alternative l bs (sign m (keyword Elif) ∷ ts) s rest
    otherwise : {l : ℕ} {bs : List OneBranch} {els : List Stm} {ts rest : List Lexeme} → Afterwards (word Else) ts els rest → Alternative l bs ts (S.choice l (branches_of bs) (stms_from els)) rest

  pub data Compound : List Lexeme → Stm → List Lexeme → Type 0 where
    if_so : {l : ℕ} {s : Stm} {ts rest : List Lexeme} → Chosen l l [] ts s rest → Compound (sign l (word If) ∷ ts) s rest
    while_so : {l k : ℕ} {c : Exp} {body els : List Stm} {ts mid end rest : List Lexeme} → an_expression.reads ts c (sign k (mark Colon) ∷ mid) → Block mid body end
        → Afterwards (word Else) end els rest → Compound (sign l (keyword While) ∷ ts) (S.while l c (stms_from body) (stms_from els)) rest
    for_each : {l k m : ℕ} {t e : Exp} {body els : List Stm} {ts us mid end rest : List Lexeme} → places.reads ts t (sign k (word In) ∷ us)
        → expressions.reads us e (sign m (mark Colon) ∷ mid) → Block mid body end → Afterwards (word Else) end els rest
        → Compound (sign l (word For) ∷ ts) (S.for l t e (stms_from body) (stms_from els)) rest
    try_so : {l k : ℕ} {body : List Stm} {s : Stm} {ts mid rest : List Lexeme} → Block ts body mid → Tried l body mid s rest
        → Compound (sign l (keyword Try) ∷ (sign k (mark Colon) ∷ ts)) s rest
    with_so : {l k : ℕ} {is : List OneItem} {body : List Stm} {ts mid rest : List Lexeme} → WithItems ts is (sign k (mark Colon) ∷ mid) → Block mid body rest
        → Compound (sign l (keyword With) ∷ ts) (S.with l (items_from is) (stms_from body)) rest
    def_so : {l : ℕ} {s : Stm} {ts rest : List Lexeme} → FunctionDef l [] l ts s rest → Compound (sign l (keyword Def) ∷ ts) s rest
    class_so : {l : ℕ} {s : Stm} {ts rest : List Lexeme} → ClassDef l [] l ts s rest → Compound (sign l (keyword Class) ∷ ts) s rest
    with_decorators : {l : ℕ} {ds : List OneDecorator} {s : Stm} {ts mid rest : List Lexeme} → Decorated l [] ts ds mid → Definition l ds mid s rest
        → Compound (sign l at_sign ∷ ts) s rest

  -- behind the block of the "try" on this line: handlers [ "else" ":" block ] [ "finally" ":" block ] | "finally" ":" block
  pub data Tried : ℕ → List Stm → List Lexeme → Stm → List Lexeme → Type 0 where
    with_handlers : {l m : ℕ} {body : List Stm} {s : Stm} {ts rest : List Lexeme} → Handling l body m [] ts s rest → Tried l body (sign m (keyword Except) ∷ ts) s rest
    at_last : {l m k : ℕ} {body fin : List Stm} {ts rest : List Lexeme} → Block ts fin rest
        → Tried l body (sign m (keyword Finally) ∷ (sign k (mark Colon) ∷ ts)) (S.try l (stms_from body) S.no_handlers S.none (stms_from fin)) rest

  -- behind the "except" on this line, of the "try" on that one with this block, behind these handlers
  pub data Handling : ℕ → List Stm → ℕ → List OneHandler → List Lexeme → Stm → List Lexeme → Type 0 where
    handling : {l m k : ℕ} {body ss : List Stm} {c : OneCatch} {hs : List OneHandler} {s : Stm} {ts mid end rest : List Lexeme} → Catch ts c (sign k (mark Colon) ∷ mid)
        → Block mid ss end → Handled l body (is_given c.class) (hs ++ (handler_at m c ss ∷ [])) end s rest → Handling l body m hs ts s rest

  -- { handler } [ "else" ":" block ] [ "finally" ":" block ], behind these handlers; none follows one that catches all
  pub data Handled : ℕ → List Stm → Bool → List OneHandler → List Lexeme → Stm → List Lexeme → Type 0 where
    more_handlers : {l m : ℕ} {body : List Stm} {hs : List OneHandler} {s : Stm} {ts rest : List Lexeme} → Handling l body m hs ts s rest
        → Handled l body true hs (sign m (keyword Except) ∷ ts) s rest
    no_more_handlers : {l : ℕ} {b : Bool} {body els fin : List Stm} {hs : List OneHandler} {ts mid rest : List Lexeme} → Afterwards (word Else) ts els mid
        → Afterwards (keyword Finally) mid fin rest
        → Handled l body b hs ts (S.try l (stms_from body) (handlers_from hs) (stms_from els) (stms_from fin)) rest

  -- "def" .. | "class" .., of the statement on this line, behind these decorators
  pub data Definition : ℕ → List OneDecorator → List Lexeme → Stm → List Lexeme → Type 0 where
    of_function : {l m : ℕ} {ds : List OneDecorator} {s : Stm} {ts rest : List Lexeme} → FunctionDef l ds m ts s rest → Definition l ds (sign m (keyword Def) ∷ ts) s rest
    of_class : {l m : ℕ} {ds : List OneDecorator} {s : Stm} {ts rest : List Lexeme} → ClassDef l ds m ts s rest → Definition l ds (sign m (keyword Class) ∷ ts) s rest

  -- behind the "def" on that line: NAME "(" [ params ] ")" [ "->" expr ] ":" block
  pub data FunctionDef : ℕ → List OneDecorator → ℕ → List Lexeme → Stm → List Lexeme → Type 0 where
    function : {l m k : ℕ} {ds : List OneDecorator} {h : OneSignature} {body : List Stm} {ts mid rest : List Lexeme} → Signature ts h (sign k (mark Colon) ∷ mid) → Block mid body rest
        → FunctionDef l ds m ts (S.def l (decorators_from ds) m h.name (params_of h.parameters) h.returns (stms_from body)) rest

  -- behind the "class" on that line: NAME [ "(" [ args ] ")" ] ":" block
  pub data ClassDef : ℕ → List OneDecorator → ℕ → List Lexeme → Stm → List Lexeme → Type 0 where
    a_class : {l m k : ℕ} {ds : List OneDecorator} {x : Name} {b : OneBases} {body : List Stm} {ts us mid rest : List Lexeme} → Identifier ts x us
        → Bases us b (sign k (mark Colon) ∷ mid) → Block mid body rest
        → ClassDef l ds m ts (S.class l (decorators_from ds) m x b.arguments b.trailing_comma (stms_from body)) rest

abbrev pub Otherwise : Reads (List Stm)
Otherwise = Afterwards (word Else)

-- ":" block
abbrev pub Suite : Reads (List Stm)
Suite = Then (The (mark Colon)) (λ l. Block)

-- behind "while": expr ":" block [ "else" ":" block ]
abbrev pub Repetition : ℕ → Reads Stm
Repetition l = Then an_expression.reads (λ c. Then Suite (λ body. Then Otherwise (λ els. Is (S.while l c (stms_from body) (stms_from els)))))

-- behind "for": targets "in" exprs ":" block [ "else" ":" block ]
abbrev pub Iteration : ℕ → Reads Stm
Iteration l = Then places.reads (λ t. Then (The (word In)) (λ k. Then expressions.reads (λ e. Then Suite (λ body. Then Otherwise (λ els. Is (S.for l t e (stms_from body) (stms_from els)))))))

-- behind "with": items ":" block
abbrev pub Entering : ℕ → Reads Stm
Entering l = Then WithItems (λ is. Then Suite (λ body. Is (S.with l (items_from is) (stms_from body))))

-- behind "try"
abbrev pub Attempt : ℕ → Reads Stm
Attempt l = Then Suite (λ body. Tried l body)

-- behind the handlers of a "try"
abbrev pub Finishing : ℕ → List Stm → List OneHandler → List Stm → Reads Stm
Finishing l body hs els = Then (Afterwards (keyword Finally)) (λ fin. Is (S.try l (stms_from body) (handlers_from hs) (stms_from els) (stms_from fin)))

abbrev pub Closing : ℕ → List Stm → List OneHandler → Reads Stm
Closing l body hs = Then Otherwise (λ els. Finishing l body hs els)

-- behind the heading of a class
abbrev pub ClassBody : ℕ → List OneDecorator → ℕ → Name → OneBases → Reads Stm
ClassBody l ds m x b = Then Suite (λ body. Is (S.class l (decorators_from ds) m x b.arguments b.trailing_comma (stms_from body)))

-- behind the "@" on this line: expr NEWLINE { "@" expr NEWLINE } and what they stand before
abbrev pub Decoration : ℕ → Reads Stm
Decoration l = Then (Decorated l []) (λ ds. Definition l ds)
