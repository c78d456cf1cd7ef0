-- The names of statements are those of the tokens that they are, and statements have the parts that the grammar asks.
use Rattle.std.proofs.Common.{◌≡◌, ℕ, Bool, true, List, [], ◌∷◌, ◌++◌, Option, sym, subst}
use Rattle.std.specs.List.{AllByRecursion}
use Rattle.pt_tree.specs.Syntax.{Name}
use Rattle.pt_tree.specs.declared.statement.Alias.{Alias}
use Rattle.pt_wide.specs.Syntax as S
use Rattle.pt_wide.specs.Syntax.{Exp, Opt, Stm}
use Rattle.pt_wide.specs.StatementFold.{stms_from}
use Rattle.law_front.specs.parsed.Parsed as is
use Rattle.pt_grammar.specs.declared.sign.Sign.{Sign}
use Rattle.pt_grammar.specs.declared.sign.Keyword.{Keyword}
use Rattle.pt_grammar.specs.declared.sign.Keyword.TheVariants.{Assert, Break, Continue, Del, Global, Import, Nonlocal, Pass, Raise, Return}
use Rattle.pt_grammar.specs.Lexemes.{Lexeme}
use Rattle.pt_parser.specs.Forms as form
use Rattle.pt_parser.specs.Forms.{Reads, Then, The, Identifier, Optional, More, Separated, UpTo, Onward}
use Rattle.pt_parser.specs.Simple as simple
use Rattle.pt_parser.specs.Simple.{Renamed, Aliased, Imports, Dotted, Imported, ImportedFrom, Returned, Raised, Behind, Assigned, AssignmentOrExpression, Simple}
use Rattle.pt_parser.specs.With as with_items
use Rattle.pt_parser.specs.With.{OneItem, items_from, WithItem, WithItems, Bare, Enclosed}
use Rattle.pt_parser.specs.Headings as heading
use Rattle.pt_parser.specs.Headings.{OneDecorator, a_decorator, decorators_from, Decorated, MoreDecorators, OneSignature, Signature, OneBases, Bases, BehindOpen, OneCatch, Catch, Star, Caught}
use Rattle.pt_parser.specs.Grammar as G
use Rattle.pt_parser.specs.Grammar.{OneBranch, branches_of, OneHandler, handler_at, handlers_from, Simples, Block, Stmts, Stmt, Afterwards, Chosen, Alternative, Compound, Tried, Handling, Handled, Definition, FunctionDef, ClassDef}
use Rattle.law_front.specs.parsed_scripts.Laws.{Names, ScriptsAreParsed}
use Rattle.law_front.proofs.parsed_scripts.Parts as part
use Rattle.law_front.proofs.parsed_scripts.Parts.{all_snoc}
use Rattle.law_front.proofs.parsed_scripts.Expressions as read

-- ---- lists that are not empty

abbrev HasOne : {A : Type 0} → List A → Type 0
HasOne [] = ⊥
HasOne (x ∷ xs) = Unit {0}

one_more : {A : Type 0} (xs : List A) (x : A) → HasOne (xs ++ (x ∷ []))
one_more [] x = tt
one_more (y ∷ xs) x = tt

more_has : {A : Type 0} {s : Sign} {R : Reads A} {xs ys : List A} {ts rest : List Lexeme} → More s R xs ts ys rest → HasOne xs → HasOne ys
more_has form.no_more h = h
more_has (form.one_more {x = x} {xs = xs} e q k) h = more_has k (one_more xs x)

mutual
  up_to_has : {A : Type 0} {s close : Sign} {R : Reads A} {xs ys : List A} {ts rest : List Lexeme} → UpTo s close R xs ts ys rest → HasOne xs → HasOne ys
  up_to_has (form.closed e) h = h
  up_to_has (form.separated e k) h = onward_has k h

  onward_has : {A : Type 0} {s close : Sign} {R : Reads A} {xs ys : List A} {ts rest : List Lexeme} → Onward s close R xs ts ys rest → HasOne xs → HasOne ys
  onward_has (form.closed_behind e) h = h
  onward_has (form.item {x = x} {xs = xs} q k) h = up_to_has k (one_more xs x)

items_have : {xs : List OneItem} {ts rest : List Lexeme} → WithItems ts xs rest → HasOne xs
items_have (with_items.enclosed (i, mid, q, k)) = up_to_has k tt
items_have (with_items.not_enclosed (i, mid, q, k) e) = more_has k tt

simples_have : (ss : List Stm) {all : List Stm} {ts rest : List Lexeme} → Simples ss ts all rest → HasOne all
simples_have ss (s, mid, q, k) = up_to_has k (one_more ss s)

stmt_has : {ss all : List Stm} {ts rest : List Lexeme} → Stmt ss ts all rest → HasOne all
stmt_has (G.compound {ss = ss} {s = s} q e) = subst HasOne (sym e) (one_more ss s)
stmt_has (G.simples {ss = ss} q) = simples_have ss q

stmts_have : {close : Sign} {ss all : List Stm} {ts rest : List Lexeme} → Stmts close ss ts all rest → HasOne ss → HasOne all
stmts_have (G.no_stmt e) h = h
stmts_have (G.one_stmt q k) h = stmts_have k (stmt_has q)

block_has : {ss : List Stm} {ts rest : List Lexeme} → Block ts ss rest → HasOne ss
block_has (G.on_line q) = simples_have [] q
block_has (G.indented q k) = stmts_have k (stmt_has q)

module _ (Q : Name → Type 0) where
  abbrev N : List Lexeme → Type 0
  N ts = Names Q ts

  abbrev E : Exp → Type 0
  E e = is.ExpParsed Q e

  abbrev St : Stm → Type 0
  St s = is.StmParsed Q s

  abbrev Sts : List Stm → Type 0
  Sts ss = AllByRecursion (is.StmParsed Q) ss

  statements : (ss : List Stm) → Sts ss → is.StmsParsed Q (stms_from ss)
  statements [] h = tt
  statements (s ∷ ss) h = (h.0, statements ss h.1)

  -- ---- the forms of productions

  -- what a production reads is so
  abbrev Gives : {A : Type 0} → (A → Type 0) → Reads A → Type 0
  Gives {A} P R = (x : A) (ts rest : List Lexeme) → R ts x rest → N ts → P x × N rest

  more : {A : Type 0} (P : A → Type 0) {s : Sign} {R : Reads A} → Gives P R → {xs ys : List A} {ts rest : List Lexeme} → More s R xs ts ys rest → N ts
      → AllByRecursion P xs → AllByRecursion P ys × N rest
  more P g form.no_more n h = (h, n)
  more P g (form.one_more {x = x} {xs = xs} e q k) n h = let a = g x _ _ q n.1 in more P g k a.1 (all_snoc P xs x h a.0)

  mutual
    up_to : {A : Type 0} (P : A → Type 0) {s close : Sign} {R : Reads A} → Gives P R → {xs ys : List A} {ts rest : List Lexeme}
        → UpTo s close R xs ts ys rest → N ts
        → AllByRecursion P xs → AllByRecursion P ys × N rest
    up_to P g (form.closed e) n h = (h, n.1)
    up_to P g (form.separated e k) n h = onward P g k n.1 h

    onward : {A : Type 0} (P : A → Type 0) {s close : Sign} {R : Reads A} → Gives P R → {xs ys : List A} {ts rest : List Lexeme}
        → Onward s close R xs ts ys rest → N ts
        → AllByRecursion P xs → AllByRecursion P ys × N rest
    onward P g (form.closed_behind e) n h = (h, n.1)
    onward P g (form.item {x = x} {xs = xs} q k) n h = let a = g x _ _ q n in up_to P g k a.1 (all_snoc P xs x h a.0)

  separated : {A : Type 0} (P : A → Type 0) {s : Sign} {R : Reads A} → Gives P R → {xs : List A} {ts rest : List Lexeme} → Separated s R ts xs rest → N ts
      → AllByRecursion P xs × N rest
  separated P g (x, mid, q, k) n = let a = g x _ _ q n in more P g k a.1 (a.0, tt)

  listed_up_to : {A : Type 0} (P : A → Type 0) {s close : Sign} {R : Reads A} → Gives P R → {xs : List A} {ts rest : List Lexeme}
      → Then R (λ x. UpTo s close R (x ∷ [])) ts xs rest → N ts
      → AllByRecursion P xs × N rest
  listed_up_to P g (x, mid, q, k) n = let a = g x _ _ q n in up_to P g k a.1 (a.0, tt)

  optional : {s : Sign} {R : Reads Exp} → Gives (is.ExpParsed Q) R → {o : Opt} {ts rest : List Lexeme} → Optional s R ts o rest → N ts
      → is.OptParsed Q o × N rest
  optional g form.left_out n = (tt, n)
  optional g (form.written e q) n = g _ _ _ q n.1

  the : {s : Sign} {l : ℕ} {ts rest : List Lexeme} → The s ts l rest → N ts → N rest
  the (form.the e) n = n.1

  identifier : {x : Name} {ts rest : List Lexeme} → Identifier ts x rest → N ts → Q x × N rest
  identifier form.identifier n = n

  -- ---- simple statements

  an_expression : Gives (is.ExpParsed Q) simple.an_expression.reads
  an_expression e ts rest q n = read.expr Q q n

  a_place : Gives (is.ExpParsed Q) simple.a_place.reads
  a_place e ts rest q n = read.binary Q q n

  a_value : Gives (is.ExpParsed Q) simple.values.reads
  a_value e ts rest q n = read.value Q q n

  a_name : Gives Q Identifier
  a_name x ts rest q n = identifier q n

  renamed : {a : Option Name} {ts rest : List Lexeme} → Renamed ts a rest → N ts → is.OptionalName Q a × N rest
  renamed simple.not_renamed n = (tt, n)
  renamed (simple.renamed q) n = identifier q n.1

  an_alias : Gives (is.AliasParsed Q) Aliased
  an_alias x ts rest (y, mid, q, (a, end, k, form.is)) n = let b = identifier q n in let c = renamed k b.1 in ((b.0, c.0), c.1)

  dots : {k m : ℕ} {ts rest : List Lexeme} → Dotted k ts m rest → N ts → N rest
  dots simple.no_dot n = n
  dots (simple.dot q) n = dots q n.1
  dots (simple.dots q) n = dots q n.1

  imported : {xs : Option (List Alias)} {ts rest : List Lexeme} → Imported ts xs rest → N ts → is.ImportedParsed Q xs × N rest
  imported simple.star n = (tt, n.1)
  imported (simple.listed q) n = separated (is.AliasParsed Q) an_alias q n
  imported (simple.enclosed q) n = listed_up_to (is.AliasParsed Q) an_alias q n.1

  imported_from : {l : ℕ} {s : Stm} {ts rest : List Lexeme} → ImportedFrom l ts s rest → N ts → St s × N rest
  imported_from (d, m1, q, (x, m2, k, (i, m3, t, (xs, m4, j, form.is)))) n = let a = identifier k (dots q n) in let b = imported j (the t a.1) in
      ((a.0, b.0), b.1)

  returned : {l : ℕ} {s : Stm} {ts rest : List Lexeme} → Returned l ts s rest → N ts → St s × N rest
  returned simple.returned_nothing n = (tt, n)
  returned (simple.returned q) n = read.bare Q q n

  raised : {l : ℕ} {s : Stm} {ts rest : List Lexeme} → Raised l ts s rest → N ts → St s × N rest
  raised simple.raised_again n = (tt, n)
  raised (simple.raised (e, m1, q, (c, m2, k, form.is))) n = let a = read.expr Q q n in let b = optional an_expression k a.1 in ((a.0, b.0), b.1)

  behind : (l : ℕ) (k : Keyword) (s : Stm) (ts rest : List Lexeme) → Behind l k ts s rest → N ts → St s × N rest
  behind l Pass s ts rest form.is n = (tt, n)
  behind l Break s ts rest form.is n = (tt, n)
  behind l Continue s ts rest form.is n = (tt, n)
  behind l Return s ts rest q n = returned q n
  behind l Raise s ts rest q n = raised q n
  behind l Global s ts rest (xs, mid, q, form.is) n = separated Q a_name q n
  behind l Nonlocal s ts rest (xs, mid, q, form.is) n = separated Q a_name q n
  behind l Del s ts rest (x, mid, q, form.is) n = let a = read.exprs Q q n in (part.exps Q x.items a.0, a.1)
  behind l Assert s ts rest (e, m1, q, (m, m2, k, form.is)) n = let a = read.expr Q q n in let b = optional an_expression k a.1 in ((a.0, b.0), b.1)
  behind l Import s ts rest (xs, mid, q, form.is) n = separated (is.AliasParsed Q) an_alias q n
  behind l _ s ts rest q n = elim q [ ]

  assigned : {l : ℕ} {xs : List Exp} {s : Stm} {ts rest : List Lexeme} → Assigned l xs ts s rest → N ts → AllByRecursion (is.ExpParsed Q) xs → St s × N rest
  assigned (simple.last_value {xs = xs} q) n h = let a = read.value Q q n in ((part.exps Q xs h, a.0), a.1)
  assigned (simple.one_target {xs = xs} {t = t} q k) n h = let a = read.bare Q q n in assigned k a.1.1 (all_snoc (is.ExpParsed Q) xs t h a.0)

  assignment : {s : Stm} {ts rest : List Lexeme} → AssignmentOrExpression ts s rest → N ts → St s × N rest
  assignment (simple.annotated q (e, m1, k, (v, m2, o, form.is))) n =
      let a = read.binary Q q n in let b = read.expr Q k a.1.1 in let c = optional a_value o b.1 in ((a.0, b.0, c.0), c.1)
  assignment (simple.augmented q k) n = let a = read.binary Q q n in let b = read.value Q k a.1.1 in ((a.0, b.0), b.1)
  assignment (simple.assigned q k) n = let a = read.bare Q q n in assigned k a.1.1 (a.0, tt)
  assignment (simple.only_value q) n = let a = read.value Q q n in ((tt, a.0), a.1)

  a_simple : Gives (is.StmParsed Q) Simple
  a_simple s ts rest (simple.keyword_statement {l = l} {k = k} q) n = behind l k _ _ _ q n.1
  a_simple s ts rest (simple.imported_from q) n = imported_from q n.1
  a_simple s ts rest (simple.assignment_or_expression q) n = assignment q n

  simples : (ss : List Stm) {all : List Stm} {ts rest : List Lexeme} → Simples ss ts all rest → N ts → Sts ss → Sts all × N rest
  simples ss (s, mid, q, k) n h = let a = a_simple s _ _ q n in up_to (is.StmParsed Q) a_simple k a.1 (all_snoc (is.StmParsed Q) ss s h a.0)

  -- ---- headings

  abbrev DecoratorParsed : OneDecorator → Type 0
  DecoratorParsed d = E d.value

  decorators : (ds : List OneDecorator) → AllByRecursion DecoratorParsed ds → is.DecoratorsParsed Q (decorators_from ds)
  decorators [] h = tt
  decorators (d ∷ ds) h = (h.0, decorators ds h.1)

  mutual
    decorated : {l : ℕ} {ds all : List OneDecorator} {ts rest : List Lexeme} → Decorated l ds ts all rest → N ts → AllByRecursion DecoratorParsed ds
        → AllByRecursion DecoratorParsed all × N rest
    decorated {l = l} (heading.decorated {e = e} {ds = ds} q k) n h = let a = read.expr Q q n in more_decorators k a.1.1 (all_snoc DecoratorParsed ds
        (a_decorator l e) h a.0)

    more_decorators : {ds all : List OneDecorator} {ts rest : List Lexeme} → MoreDecorators ds ts all rest → N ts → AllByRecursion DecoratorParsed ds
        → AllByRecursion DecoratorParsed all × N rest
    more_decorators heading.no_more_decorators n h = (h, n)
    more_decorators (heading.more_decorators k) n h = decorated k n.1 h

  abbrev SignatureParsed : OneSignature → Type 0
  SignatureParsed h = Q h.name × part.GatheredParsed Q h.parameters × is.OptParsed Q h.returns

  signature : {h : OneSignature} {ts rest : List Lexeme} → Signature ts h rest → N ts → SignatureParsed h × N rest
  signature (x, m1, q, (k, m2, o, (g, m3, p, (m, m4, c, (r, m5, a, form.is))))) n =
      let i = identifier q n in let j = read.parameters Q p (the o i.1) in let e = optional an_expression a (the c j.1) in ((i.0, j.0, e.0), e.1)

  behind_open : {ts rest : List Lexeme} {b : OneBases} → BehindOpen ts b rest → N ts → is.ArgsParsed Q b.arguments × N rest
  behind_open (heading.behind_open q) n = read.arguments Q q n

  bases : {b : OneBases} {ts rest : List Lexeme} → Bases ts b rest → N ts → is.ArgsParsed Q b.arguments × N rest
  bases heading.no_bases n = (tt, n)
  bases (heading.bases q) n = behind_open q n.1

  abbrev CatchParsed : OneCatch → Type 0
  CatchParsed c = is.OptParsed Q c.class × is.OptionalName Q c.name

  star : {b : Bool} {ts rest : List Lexeme} → Star ts b rest → N ts → N rest
  star heading.no_star n = n
  star heading.a_star n = n.1

  caught : {b : Bool} {c : OneCatch} {ts rest : List Lexeme} → Caught b ts c rest → N ts → CatchParsed c × N rest
  caught heading.any_class n = ((tt, tt), n)
  caught (heading.some_class (e, m1, q, (x, m2, k, form.is))) n = let a = read.expr Q q n in let b = renamed k a.1 in ((a.0, b.0), b.1)

  catch : {c : OneCatch} {ts rest : List Lexeme} → Catch ts c rest → N ts → CatchParsed c × N rest
  catch (b, mid, s, k) n = caught k (star s n)

  -- ---- the items of a `with`

  abbrev ItemParsed : OneItem → Type 0
  ItemParsed i = E i.context × is.OptParsed Q i.target

  an_item : Gives ItemParsed WithItem
  an_item i ts rest (e, m1, q, (t, m2, k, form.is)) n = let a = read.expr Q q n in let b = optional a_place k a.1 in ((a.0, b.0), b.1)

  items : {xs : List OneItem} {ts rest : List Lexeme} → WithItems ts xs rest → N ts → AllByRecursion ItemParsed xs × N rest
  items (with_items.enclosed q) n = listed_up_to ItemParsed an_item q n.1
  items (with_items.not_enclosed q e) n = separated ItemParsed an_item q n

  more_items : (xs : List OneItem) → AllByRecursion ItemParsed xs → is.ItemsParsed Q (items_from xs)
  more_items [] h = tt
  more_items (i ∷ xs) h = (h.0.0, h.0.1, more_items xs h.1)

  entering : (l : ℕ) (xs : List OneItem) (body : List Stm) → HasOne xs → AllByRecursion ItemParsed xs → Sts body
      → St (S.with l (items_from xs) (stms_from body))
  entering l [] body z h k = absurd z
  entering l (i ∷ xs) body z h k = (h.0.0, h.0.1, more_items xs h.1, statements body k)

  -- ---- compound statements

  abbrev BranchParsed : OneBranch → Type 0
  BranchParsed b = E b.test × Sts b.body

  branches : (bs : List OneBranch) → AllByRecursion BranchParsed bs → is.BranchesParsed Q (branches_of bs)
  branches [] h = tt
  branches (b ∷ bs) h = (h.0.0, statements b.body h.0.1, branches bs h.1)

  abbrev HandlerParsed : OneHandler → Type 0
  HandlerParsed h = is.OptParsed Q h.class × is.OptionalName Q h.name × Sts h.body

  handlers : (hs : List OneHandler) → AllByRecursion HandlerParsed hs → is.HandlersParsed Q (handlers_from hs)
  handlers [] h = tt
  handlers (c ∷ hs) h = (h.0.0, h.0.1, statements c.body h.0.2, handlers hs h.1)

  attempt : (l : ℕ) (body : List Stm) (hs : List OneHandler) (els fin : List Stm) → HasOne body → Sts body → AllByRecursion HandlerParsed hs → Sts els → Sts fin
      → St (S.try l (stms_from body) (handlers_from hs) (stms_from els) (stms_from fin))
  attempt l [] hs els fin z b h e f = absurd z
  attempt l (s ∷ ss) hs els fin z b h e f = (b.0, statements ss b.1, handlers hs h, statements els e, statements fin f)

  mutual
    block : {ss : List Stm} {ts rest : List Lexeme} → Block ts ss rest → N ts → Sts ss × N rest
    block (G.on_line q) n = simples [] q n tt
    block (G.indented q k) n = let a = stmt q n.1.1 tt in stmts k a.1 a.0

    stmts : {close : Sign} {ss all : List Stm} {ts rest : List Lexeme} → Stmts close ss ts all rest → N ts → Sts ss → Sts all × N rest
    stmts (G.no_stmt e) n h = (h, n.1)
    stmts (G.one_stmt q k) n h = let a = stmt q n h in stmts k a.1 a.0

    stmt : {ss all : List Stm} {ts rest : List Lexeme} → Stmt ss ts all rest → N ts → Sts ss → Sts all × N rest
    stmt (G.compound {ss = ss} {s = s} q e) n h = let a = compound q n in (subst Sts (sym e) (all_snoc (is.StmParsed Q) ss s h a.0), a.1)
    stmt (G.simples {ss = ss} q) n h = simples ss q n h

    afterwards : {w : Sign} {ss : List Stm} {ts rest : List Lexeme} → Afterwards w ts ss rest → N ts → Sts ss × N rest
    afterwards G.nothing_after n = (tt, n)
    afterwards (G.block_after e q) n = block q n.1.1

    chosen : {l m : ℕ} {bs : List OneBranch} {s : Stm} {ts rest : List Lexeme} → Chosen l m bs ts s rest → N ts → AllByRecursion BranchParsed bs → St s × N rest
    chosen {m = m} (G.chosen {c = c} {body = body} {bs = bs} q b k) n h =
        let a = read.expr Q q n in let d = block b a.1.1 in
        alternative k d.1 (all_snoc BranchParsed bs (record { line = m; test = c; body = body }) h (a.0, d.0))

    alternative : {l : ℕ} {bs : List OneBranch} {s : Stm} {ts rest : List Lexeme} → Alternative l bs ts s rest → N ts → AllByRecursion BranchParsed bs
        → St s × N rest
    alternative (G.elif q) n h = chosen q n.1 h
    alternative (G.otherwise {bs = bs} {els = els} q) n h = let a = afterwards q n in ((branches bs h, statements els a.0), a.1)

    compound : {s : Stm} {ts rest : List Lexeme} → Compound ts s rest → N ts → St s × N rest
    compound (G.if_so q) n = chosen q n.1 tt
    compound (G.while_so {body = body} {els = els} q b o) n =
        let a = read.expr Q q n.1 in let c = block b a.1.1 in let d = afterwards o c.1 in ((a.0, statements body c.0, statements els d.0), d.1)
    compound (G.for_each {body = body} {els = els} q e b o) n =
        let a = read.bare Q q n.1 in let i = read.bare Q e a.1.1 in let c = block b i.1.1 in let d = afterwards o c.1 in
        ((a.0, i.0, statements body c.0, statements els d.0), d.1)
    compound (G.try_so b k) n = let a = block b n.1.1 in tried k a.1 (block_has b) a.0
    compound (G.with_so {l = l} {is = xs} {body = body} q b) n = let a = items q n.1 in let c = block b a.1.1 in (
      entering l xs body
          (items_have q) a.0 c.0,
      c.1,
    )
    compound (G.def_so q) n = function q n.1 tt
    compound (G.class_so q) n = a_class q n.1 tt
    compound (G.with_decorators q k) n = let a = decorated q n.1 tt in definition k a.1 a.0

    tried : {l : ℕ} {body : List Stm} {s : Stm} {ts rest : List Lexeme} → Tried l body ts s rest → N ts → HasOne body → Sts body → St s × N rest
    tried (G.with_handlers q) n z h = handling q n.1 z h tt
    tried {l = l} {body = body} (G.at_last {fin = fin} q) n z h = let a = block q n.1.1 in (attempt l body [] [] fin z h tt tt a.0, a.1)

    handling : {l m : ℕ} {body : List Stm} {hs : List OneHandler} {s : Stm} {ts rest : List Lexeme} → Handling l body m hs ts s rest → N ts → HasOne body
        → Sts body
        → AllByRecursion HandlerParsed hs → St s × N rest
    handling {m = m} (G.handling {ss = ss} {c = c} {hs = hs} q b k) n z h w =
        let a = catch q n in let d = block b a.1.1 in
        handled k d.1 z h (all_snoc HandlerParsed hs (handler_at m c ss) w (a.0.0, a.0.1, d.0))

    handled : {l : ℕ} {body : List Stm} {b : Bool} {hs : List OneHandler} {s : Stm} {ts rest : List Lexeme} → Handled l body b hs ts s rest → N ts
        → HasOne body → Sts body
        → AllByRecursion HandlerParsed hs → St s × N rest
    handled (G.more_handlers q) n z h w = handling q n.1 z h w
    handled {l = l} {body = body} (G.no_more_handlers {els = els} {fin = fin} {hs = hs} o f) n z h w =
        let a = afterwards o n in let b = afterwards f a.1 in (attempt l body hs els fin z h w a.0 b.0, b.1)

    definition : {l : ℕ} {ds : List OneDecorator} {s : Stm} {ts rest : List Lexeme} → Definition l ds ts s rest → N ts → AllByRecursion DecoratorParsed ds
        → St s × N rest
    definition (G.of_function q) n h = function q n.1 h
    definition (G.of_class q) n h = a_class q n.1 h

    function : {l m : ℕ} {ds : List OneDecorator} {s : Stm} {ts rest : List Lexeme} → FunctionDef l ds m ts s rest → N ts
        → AllByRecursion DecoratorParsed ds → St s × N rest
    function (G.function {ds = ds} {h = h} {body = body} q b) n w =
        let a = signature q n in let c = block b a.1.1 in
        ((decorators ds w, a.0.0, part.parameters Q h.parameters a.0.1, a.0.2, statements body c.0), c.1)

    a_class : {l m : ℕ} {ds : List OneDecorator} {s : Stm} {ts rest : List Lexeme} → ClassDef l ds m ts s rest → N ts → AllByRecursion DecoratorParsed ds
        → St s × N rest
    a_class (G.a_class {ds = ds} {body = body} i q b) n w =
        let x = identifier i n in let a = bases q x.1 in let c = block b a.1.1 in ((decorators ds w, x.0, a.0, statements body c.0), c.1)

pub parsed : ScriptsAreParsed
parsed is_name ts ss n a = let Q : Name → Type 0 = λ x. is_name x ≡ true in statements Q ss (stmts Q a n tt).0
