-- Statements start on lines of the tokens that they are.
use Rattle.std.proofs.Common.{◌≡◌, ℕ, suc, ◌≤◌, ◌<◌, Bool, List, [], ◌∷◌, ◌++◌, Option, refl, sym, subst, arith}
use Rattle.std.specs.List.{AllByRecursion}
use Rattle.pt_tree.specs.Syntax.{Name}
use Rattle.pt_tree.specs.declared.statement.Alias.{Alias}
use Rattle.pt_wide.specs.Syntax.{Exp, Opt, Stm}
use Rattle.pt_grammar.specs.declared.sign.Sign.{Sign}
use Rattle.pt_grammar.specs.declared.sign.Sign.TheVariants.{Mark as mark, Layout as layout}
use Rattle.pt_grammar.specs.declared.sign.Mark.TheVariants.{Semicolon}
use Rattle.pt_grammar.specs.declared.sign.Layout.TheVariants.{Newline}
use Rattle.pt_grammar.specs.declared.sign.Keyword.{Keyword}
use Rattle.pt_grammar.specs.declared.sign.Keyword.TheVariants.{Assert, Break, Continue, Del, Global, Import, Nonlocal, Pass, Raise, Return}
use Rattle.pt_grammar.specs.Lexemes.{Lexeme, sign}
use Rattle.pt_grammar.specs.Nodes.{line_of}
use Rattle.pt_parser.specs.Forms as form
use Rattle.pt_parser.specs.Forms.{Reads, Then, The, Identifier, Optional, More, Separated, UpTo, Onward}
use Rattle.pt_parser.specs.Simple as simple
use Rattle.pt_parser.specs.Simple.{Renamed, Aliased, Dotted, Imported, ImportedFrom, Returned, Raised, Behind, Assigned, AssignmentOrExpression, Simple}
use Rattle.pt_parser.specs.With as with_items
use Rattle.pt_parser.specs.With.{OneItem, items_from, WithItem, WithItems}
use Rattle.pt_parser.specs.Headings as heading
use Rattle.pt_parser.specs.Headings.{OneDecorator, Decorated, MoreDecorators, OneSignature, Signature, OneBases, BehindOpen, Bases, OneCatch, Catch, Star, Caught}
use Rattle.pt_parser.specs.Grammar as G
use Rattle.pt_parser.specs.Grammar.{OneBranch, branches_of, OneHandler, handler_at, handlers_from, Simples, Block, Stmts, Stmt, Afterwards, Chosen, Alternative, Compound, Tried, Handling, Handled, Definition, FunctionDef, ClassDef}
use Rattle.law_front.proofs.token_lines.Rising.{Rises, first, tail}
use Rattle.law_front.specs.statement_lines.OnLines.{IsBetween, HasBranch, StmOnLines, BranchesOnLines, HandlersOnLines}
use Rattle.law_front.specs.statement_lines.Laws.{StatementsAreOnLines}
use Rattle.law_front.proofs.statement_lines.Wider as wider
use Rattle.law_front.proofs.statement_lines.Wider.{On, all_of, snoc}
use Rattle.law_front.proofs.statement_lines.Expressions as read
use Rattle.law_front.proofs.statement_lines.Expressions.{on}

-- ---- the forms of productions: lines rise behind what is read

abbrev Keeps : {A : Type 0} → Reads A → Type 0
Keeps {A} R = (x : A) (ts rest : List Lexeme) → R ts x rest → (b : ℕ) → Rises b ts → Rises b rest

more : {A : Type 0} {b : ℕ} {s : Sign} {R : Reads A} → Keeps R → {xs ys : List A} {ts rest : List Lexeme} → More s R xs ts ys rest → Rises b ts → Rises b rest
more g form.no_more r = r
more g (form.one_more {x = x} e q k) r = more g k (g x _ _ q _ (tail r))

mutual
  up_to : {A : Type 0} {b : ℕ} {s close : Sign} {R : Reads A} → Keeps R → {xs ys : List A} {ts rest : List Lexeme} → UpTo s close R xs ts ys rest
      → Rises b ts → Rises b rest
  up_to g (form.closed e) r = tail r
  up_to g (form.separated e k) r = onward g k (tail r)

  onward : {A : Type 0} {b : ℕ} {s close : Sign} {R : Reads A} → Keeps R → {xs ys : List A} {ts rest : List Lexeme} → Onward s close R xs ts ys rest
      → Rises b ts → Rises b rest
  onward g (form.closed_behind e) r = tail r
  onward g (form.item {x = x} q k) r = up_to g k (g x _ _ q _ r)

separated : {A : Type 0} {b : ℕ} {s : Sign} {R : Reads A} → Keeps R → {xs : List A} {ts rest : List Lexeme} → Separated s R ts xs rest → Rises b ts
    → Rises b rest
separated g (x, mid, q, k) r = more g k (g x _ _ q _ r)

listed_up_to : {A : Type 0} {b : ℕ} {s close : Sign} {R : Reads A} → Keeps R → {xs : List A} {ts rest : List Lexeme}
    → Then R (λ x. UpTo s close R (x ∷ [])) ts xs rest → Rises b ts → Rises b rest
listed_up_to g (x, mid, q, k) r = up_to g k (g x _ _ q _ r)

optional : {b : ℕ} {s : Sign} {R : Reads Exp} → Keeps R → {o : Opt} {ts rest : List Lexeme} → Optional s R ts o rest → Rises b ts → Rises b rest
optional g form.left_out r = r
optional g (form.written {e = e} h q) r = g e _ _ q _ (tail r)

the : {b : ℕ} {s : Sign} {l : ℕ} {ts rest : List Lexeme} → The s ts l rest → Rises b ts → Rises b rest
the (form.the e) r = tail r

identifier : {b : ℕ} {x : Name} {ts rest : List Lexeme} → Identifier ts x rest → Rises b ts → Rises b rest
identifier form.identifier r = tail r

-- ---- simple statements

an_expression : Keeps simple.an_expression.reads
an_expression e ts rest q b r = on (read.expr q r)

a_place : Keeps simple.a_place.reads
a_place e ts rest q b r = on (read.binary q r)

a_value : Keeps simple.values.reads
a_value e ts rest q b r = on (read.value q r)

a_name : Keeps Identifier
a_name x ts rest q b r = identifier q r

renamed : {b : ℕ} {a : Option Name} {ts rest : List Lexeme} → Renamed ts a rest → Rises b ts → Rises b rest
renamed simple.not_renamed r = r
renamed (simple.renamed q) r = identifier q (tail r)

an_alias : Keeps Aliased
an_alias x ts rest (y, mid, q, (a, end, k, form.is)) b r = renamed k (identifier q r)

dots : {b k m : ℕ} {ts rest : List Lexeme} → Dotted k ts m rest → Rises b ts → Rises b rest
dots simple.no_dot r = r
dots (simple.dot q) r = dots q (tail r)
dots (simple.dots q) r = dots q (tail r)

imported : {b : ℕ} {xs : Option (List Alias)} {ts rest : List Lexeme} → Imported ts xs rest → Rises b ts → Rises b rest
imported simple.star r = tail r
imported (simple.listed q) r = separated an_alias q r
imported (simple.enclosed q) r = listed_up_to an_alias q (tail r)

-- a simple statement on a line
abbrev OnLine : (from line : ℕ) → Stm → List Lexeme → Type 0
OnLine b l s rest = StmOnLines b (suc l) s × Rises l rest

between : {b l : ℕ} → b ≤ l → IsBetween b (suc l) l
between h = (h, omega arith)

imported_from : {b l : ℕ} {s : Stm} {ts rest : List Lexeme} → ImportedFrom l ts s rest → b ≤ l → Rises l ts → OnLine b l s rest
imported_from (d, m1, q, (x, m2, k, (i, m3, t, (xs, m4, j, form.is)))) h r = (between h, imported j (the t (identifier k (dots q r))))

returned : {b l : ℕ} {s : Stm} {ts rest : List Lexeme} → Returned l ts s rest → b ≤ l → Rises l ts → OnLine b l s rest
returned simple.returned_nothing h r = (between h, r)
returned (simple.returned q) h r = (between h, on (read.bare q r))

raised : {b l : ℕ} {s : Stm} {ts rest : List Lexeme} → Raised l ts s rest → b ≤ l → Rises l ts → OnLine b l s rest
raised simple.raised_again h r = (between h, r)
raised (simple.raised (e, m1, q, (c, m2, k, form.is))) h r = (between h, optional an_expression k (on (read.expr q r)))

behind : {b : ℕ} (l : ℕ) (k : Keyword) (s : Stm) (ts rest : List Lexeme) → Behind l k ts s rest → b ≤ l → Rises l ts → OnLine b l s rest
behind l Pass s ts rest form.is h r = (between h, r)
behind l Break s ts rest form.is h r = (between h, r)
behind l Continue s ts rest form.is h r = (between h, r)
behind l Return s ts rest q h r = returned q h r
behind l Raise s ts rest q h r = raised q h r
behind l Global s ts rest (xs, mid, q, form.is) h r = (between h, separated a_name q r)
behind l Nonlocal s ts rest (xs, mid, q, form.is) h r = (between h, separated a_name q r)
behind l Del s ts rest (x, mid, q, form.is) h r = (between h, read.exprs q r)
behind l Assert s ts rest (e, m1, q, (m, m2, k, form.is)) h r = (between h, optional an_expression k (on (read.expr q r)))
behind l Import s ts rest (xs, mid, q, form.is) h r = (between h, separated an_alias q r)
behind l _ s ts rest q h r = elim q [ ]

assigned : {b l : ℕ} {xs : List Exp} {s : Stm} {ts rest : List Lexeme} → Assigned l xs ts s rest → b ≤ l → Rises l ts → OnLine b l s rest
assigned (simple.last_value q) h r = (between h, on (read.value q r))
assigned (simple.one_target q k) h r = assigned k h (tail (on (read.bare q r)))

-- one that is read from these tokens on
record OneLine (b : ℕ) (s : Stm) (rest : List Lexeme) : Type 0 where
  line : ℕ
  not_before : b ≤ line
  there : OnLine b line s rest

assignment : {b : ℕ} {s : Stm} {ts rest : List Lexeme} → AssignmentOrExpression ts s rest → Rises b ts → OneLine b s rest
assignment (simple.annotated {t = t} q (e, m1, k, (v, m2, o, form.is))) r =
    let a = read.binary q r in
    record { line = line_of t; not_before = a.not_before; there = (between a.not_before, optional a_value o (on (read.expr k (tail a.behind)))) }
assignment (simple.augmented {t = t} q k) r =
    let a = read.binary q r in record { line = line_of t; not_before = a.not_before; there = (between a.not_before, on (read.value k (tail a.behind))) }
assignment (simple.assigned {t = t} q k) r =
    let a = read.bare q r in record { line = line_of t; not_before = a.not_before; there = assigned k a.not_before (tail a.behind) }
assignment (simple.only_value {v = v} q) r = let a = read.value q r in record
    { line = line_of v; not_before = a.not_before; there = (between a.not_before, a.behind) }

a_simple : {b : ℕ} {s : Stm} {ts rest : List Lexeme} → Simple ts s rest → Rises b ts → OneLine b s rest
a_simple (simple.keyword_statement {l = l} {k = k} q) r =
    let f = first refl r in record { line = l; not_before = f.0; there = behind l k _ _ _ q f.0 f.1 }
a_simple (simple.imported_from {l = l} q) r = let f = first refl r in record { line = l; not_before = f.0; there = imported_from q f.0 f.1 }
a_simple (simple.assignment_or_expression q) r = assignment q r

-- what is read up to a line, from which on the lines rise behind it
record Until (c : ℕ) (P : ℕ → Type 0) (rest : List Lexeme) : Type 0 where
  to : ℕ
  holds : P to
  rises : Rises to rest
  later : c ≤ to

abbrev Simples_on : (from : ℕ) → List Stm → ℕ → Type 0
Simples_on a ss z = On a z ss

-- behind the NEWLINE of a line
closed : (a : ℕ) {c l : ℕ} {t : Sign} (xs : List Stm) {rest : List Lexeme} → t ≡ layout Newline → Rises c (sign l t ∷ rest) → On a (suc c) xs
    → Until (suc c) (Simples_on a xs) rest
closed a {c} {l} {t} xs {rest} e r h =
    let n : Rises c (sign l (layout Newline) ∷ rest) = subst (λ s. Rises c (sign l s ∷ rest)) e r in
    let k = n.rise.0 refl in
    record { to = suc l; holds = wider.all xs (omega arith) (omega (arith, k)) h; rises = record { rise = n.rise.1 }; later = omega (arith, k) }

mutual
  simples_up_to : {a c : ℕ} {xs ys : List Stm} {ts rest : List Lexeme} → UpTo (mark Semicolon) (layout Newline) Simple xs ts ys rest → a ≤ c → Rises c ts
      → On a (suc c) xs → Until (suc c) (Simples_on a ys) rest
  simples_up_to {a = a} (form.closed {xs = xs} e) p r h = closed a xs e r h
  simples_up_to (form.separated e k) p r h = simples_onward k p (tail r) h

  simples_onward : {a c : ℕ} {xs ys : List Stm} {ts rest : List Lexeme} → Onward (mark Semicolon) (layout Newline) Simple xs ts ys rest → a ≤ c → Rises c ts
      → On a (suc c) xs → Until (suc c) (Simples_on a ys) rest
  simples_onward {a = a} (form.closed_behind {xs = xs} e) p r h = closed a xs e r h
  simples_onward {a = a} (form.item {x = x} {xs = xs} q k) p r h =
      let s = a_simple q r in
      let n = s.not_before in
      let there = s.there in
      let u = simples_up_to k (omega (arith, p, n)) there.1
      (snoc (StmOnLines a (suc s.line)) xs x (wider.all xs (omega arith) (omega (arith, n)) h) (wider.stm x p (omega arith) there.0)) in
      let m = u.later in
      record { to = u.to; holds = u.holds; rises = u.rises; later = omega (arith, m, n) }

simples : {a c : ℕ} (ss : List Stm) {all : List Stm} {ts rest : List Lexeme} → Simples ss ts all rest → a ≤ c → Rises c ts → On a c ss
    → Until (suc c) (Simples_on a all) rest
simples {a} {c} ss (x, mid, q, k) p r h =
    let s = a_simple q r in
    let n = s.not_before in
    let there = s.there in
    let u = simples_up_to k (omega (arith, p, n)) there.1
    (snoc (StmOnLines a (suc s.line)) ss x (wider.all ss (omega arith) (omega (arith, n)) h) (wider.stm x p (omega arith) there.0)) in
    let m = u.later in
    record { to = u.to; holds = u.holds; rises = u.rises; later = omega (arith, m, n) }

-- ---- headings

mutual
  decorated : {b l : ℕ} {ds all : List OneDecorator} {ts rest : List Lexeme} → Decorated l ds ts all rest → Rises b ts → Rises b rest
  decorated (heading.decorated q k) r = more_decorators k (tail (on (read.expr q r)))

  more_decorators : {b : ℕ} {ds all : List OneDecorator} {ts rest : List Lexeme} → MoreDecorators ds ts all rest → Rises b ts → Rises b rest
  more_decorators heading.no_more_decorators r = r
  more_decorators (heading.more_decorators k) r = decorated k (tail r)

signature : {b : ℕ} {h : OneSignature} {ts rest : List Lexeme} → Signature ts h rest → Rises b ts → Rises b rest
signature (x, m1, q, (k, m2, o, (g, m3, p, (m, m4, c, (e, m5, a, form.is))))) r =
    optional an_expression a (the c (read.parameters p (the o (identifier q r))))

behind_open : {b : ℕ} {ts rest : List Lexeme} {x : OneBases} → BehindOpen ts x rest → Rises b ts → Rises b rest
behind_open (heading.behind_open q) r = read.arguments q r

bases : {b : ℕ} {x : OneBases} {ts rest : List Lexeme} → Bases ts x rest → Rises b ts → Rises b rest
bases heading.no_bases r = r
bases (heading.bases q) r = behind_open q (tail r)

star : {b : ℕ} {x : Bool} {ts rest : List Lexeme} → Star ts x rest → Rises b ts → Rises b rest
star heading.no_star r = r
star heading.a_star r = tail r

caught : {b : ℕ} {x : Bool} {c : OneCatch} {ts rest : List Lexeme} → Caught x ts c rest → Rises b ts → Rises b rest
caught heading.any_class r = r
caught (heading.some_class (e, m1, q, (x, m2, k, form.is))) r = renamed k (on (read.expr q r))

catch : {b : ℕ} {c : OneCatch} {ts rest : List Lexeme} → Catch ts c rest → Rises b ts → Rises b rest
catch (x, mid, s, k) r = caught k (star s r)

an_item : Keeps WithItem
an_item i ts rest (e, m1, q, (t, m2, k, form.is)) b r = optional a_place k (on (read.expr q r))

items : {b : ℕ} {xs : List OneItem} {ts rest : List Lexeme} → WithItems ts xs rest → Rises b ts → Rises b rest
items (with_items.enclosed q) r = listed_up_to an_item q (tail r)
items (with_items.not_enclosed q e) r = separated an_item q r

-- ---- compound statements

abbrev BranchOn : (from to : ℕ) → OneBranch → Type 0
BranchOn a z b = On a z b.body

abbrev HandlerOn : (from to : ℕ) → OneHandler → Type 0
HandlerOn a z h = On a z h.body

wider_branches : (a : ℕ) {y z : ℕ} (bs : List OneBranch) → y ≤ z → AllByRecursion (BranchOn a y) bs → AllByRecursion (BranchOn a z) bs
wider_branches a [] q h = tt
wider_branches a (b ∷ bs) q h = (wider.all b.body (omega arith) q h.0, wider_branches a bs q h.1)

wider_handlers : (a : ℕ) {y z : ℕ} (hs : List OneHandler) → y ≤ z → AllByRecursion (HandlerOn a y) hs → AllByRecursion (HandlerOn a z) hs
wider_handlers a [] q h = tt
wider_handlers a (c ∷ hs) q h = (wider.all c.body (omega arith) q h.0, wider_handlers a hs q h.1)

all_branches : (a z : ℕ) (bs : List OneBranch) → AllByRecursion (BranchOn a z) bs → BranchesOnLines a z (branches_of bs)
all_branches a z [] h = tt
all_branches a z (b ∷ bs) h = (all_of a z b.body h.0, all_branches a z bs h.1)

all_handlers : (a z : ℕ) (hs : List OneHandler) → AllByRecursion (HandlerOn a z) hs → HandlersOnLines a z (handlers_from hs)
all_handlers a z [] h = tt
all_handlers a z (c ∷ hs) h = (all_of a z c.body h.0, all_handlers a z hs h.1)

one_more_branch : (bs : List OneBranch) (b : OneBranch) → HasBranch (branches_of (bs ++ (b ∷ [])))
one_more_branch [] b = tt
one_more_branch (x ∷ bs) b = tt

-- a statement from a line on
abbrev Stm_on : (from : ℕ) → Stm → ℕ → Type 0
Stm_on a s z = StmOnLines a z s

later_until : {b c : ℕ} {P : ℕ → Type 0} {rest : List Lexeme} → b ≤ c → Until c P rest → Until b P rest
later_until h u = let k = u.later in record { to = u.to; holds = u.holds; rises = u.rises; later = omega (arith, h, k) }

mutual
  block : {b : ℕ} {ss : List Stm} {ts rest : List Lexeme} → Block ts ss rest → Rises b ts → Until (suc b) (Simples_on b ss) rest
  block (G.on_line q) r = simples [] q (omega arith) r tt
  block {b = b} (G.indented {l = l} q k) r =
      let n = r.rise.0 refl in
      let s = stmt {a = b} q (omega (arith, n)) (record { rise = (r.rise.1).1 }) tt in
      let m = s.later in
      later_until (omega (arith, n)) (later_until m (stmts k (omega (arith, n, m)) s.rises s.holds))

  stmts : {a c : ℕ} {close : Sign} {ss all : List Stm} {ts rest : List Lexeme} → Stmts close ss ts all rest → a ≤ c → Rises c ts → On a c ss
      → Until c (Simples_on a all) rest
  stmts {c = c} (G.no_stmt e) p r h = record { to = c; holds = h; rises = tail r; later = omega arith }
  stmts (G.one_stmt q k) p r h = let s = stmt q p r h in let m = s.later in later_until m (stmts k (omega (arith, p, m)) s.rises s.holds)

  stmt : {a c : ℕ} {ss all : List Stm} {ts rest : List Lexeme} → Stmt ss ts all rest → a ≤ c → Rises c ts → On a c ss → Until c (Simples_on a all) rest
  stmt {a = a} (G.compound {ss = ss} {s = s} q e) p r h =
      let u = compound q r in
      let m = u.later in
      record {
        to = u.to;
        holds = subst (On a u.to) (sym e) (snoc (StmOnLines a u.to) ss s (wider.all ss (omega arith) m h) (wider.stm s p (omega arith) u.holds));
        rises = u.rises;
        later = m;
      }
  stmt (G.simples {ss = ss} q) p r h = later_until (omega arith) (simples ss q p r h)

  afterwards : {c : ℕ} {w : Sign} {ss : List Stm} {ts rest : List Lexeme} → Afterwards w ts ss rest → Rises c ts → Until c (Simples_on c ss) rest
  afterwards {c = c} G.nothing_after r = record { to = c; holds = tt; rises = r; later = omega arith }
  afterwards (G.block_after e q) r = later_until (omega arith) (block q (tail (tail r)))

  chosen : {a c l m : ℕ} {bs : List OneBranch} {s : Stm} {ts rest : List Lexeme} → Chosen l m bs ts s rest → a ≤ l → l ≤ c → Rises c ts
      → AllByRecursion (BranchOn a c) bs → Until c (Stm_on a s) rest
  chosen {a = a} {m = m} (G.chosen {c = e} {body = body} {bs = bs} q d k) p n r h =
      let u = block d (tail (on (read.expr q r))) in
      let w = u.later in
      later_until (omega (arith, w)) (alternative k p (omega (arith, n, w)) u.rises
      (snoc (BranchOn a u.to) bs (record { line = m; test = e; body = body }) (wider_branches a bs (omega (arith, w)) h)
      (wider.all body (omega (arith, p, n)) (omega arith) u.holds))
      (one_more_branch bs (record { line = m; test = e; body = body })))

  alternative : {a c l : ℕ} {bs : List OneBranch} {s : Stm} {ts rest : List Lexeme} → Alternative l bs ts s rest → a ≤ l → l < c → Rises c ts
      → AllByRecursion (BranchOn a c) bs → HasBranch (branches_of bs) → Until c (Stm_on a s) rest
  alternative (G.elif q) p n r h z = chosen q p (omega (arith, n)) (tail r) h
  alternative (G.otherwise {bs = bs} {els = els} q) p n r h z =
      let u = afterwards q r in
      let w = u.later in
      record {
        to = u.to;
        holds = (
          (p, omega (arith, n, w)),
          z,
          all_branches _ _ bs (wider_branches _ bs w h),
          all_of _ _ els
              (wider.all els (omega (arith, p, n)) (omega arith) u.holds),
        );
        rises = u.rises;
        later = w;
      }

  compound : {b : ℕ} {s : Stm} {ts rest : List Lexeme} → Compound ts s rest → Rises b ts → Until b (Stm_on b s) rest
  compound (G.if_so q) r = let f = first refl r in later_until f.0 (chosen q f.0 (omega arith) f.1 tt)
  compound (G.while_so {body = body} {els = els} q d o) r =
      let f = first refl r in
      let u = block d (tail (on (read.expr q f.1))) in
      let v = afterwards o u.rises in
      let m = u.later in
      let n = v.later in
      let p = f.0 in
      record {
        to = v.to;
        holds = (
          (p, omega (arith, m, n)),
          all_of _ _ body (wider.all body p n u.holds),
          all_of _ _ els
              (wider.all els (omega (arith, p, m)) (omega arith) v.holds),
        );
        rises = v.rises;
        later = omega (arith, p, m, n);
      }
  compound (G.for_each {body = body} {els = els} q e d o) r =
      let f = first refl r in
      let u = block d (tail (on (read.bare e (tail (on (read.bare q f.1)))))) in
      let v = afterwards o u.rises in
      let m = u.later in
      let n = v.later in
      let p = f.0 in
      record {
        to = v.to;
        holds = (
          (p, omega (arith, m, n)),
          all_of _ _ body (wider.all body p n u.holds),
          all_of _ _ els
              (wider.all els (omega (arith, p, m)) (omega arith) v.holds),
        );
        rises = v.rises;
        later = omega (arith, p, m, n);
      }
  compound (G.try_so {body = body} d k) r =
      let f = first refl r in
      let u = block d (tail f.1) in
      let m = u.later in
      let p = f.0 in
      later_until (omega (arith, p, m)) (tried k p m u.rises (wider.all body p (omega arith) u.holds))
  compound (G.with_so {body = body} q d) r =
      let f = first refl r in
      let u = block d (tail (items q f.1)) in
      let m = u.later in
      let p = f.0 in
      record { to = u.to; holds = ((p, m), all_of _ _ body (wider.all body p (omega arith) u.holds)); rises = u.rises; later = omega (arith, p, m) }
  compound (G.def_so q) r = let f = first refl r in later_until f.0 (function q f.0 f.1)
  compound (G.class_so q) r = let f = first refl r in later_until f.0 (a_class q f.0 f.1)
  compound (G.with_decorators q k) r = let f = first refl r in later_until f.0 (definition k f.0 (decorated q f.1))

  -- behind the block of a `try` on this line
  tried : {a c l : ℕ} {body : List Stm} {s : Stm} {ts rest : List Lexeme} → Tried l body ts s rest → a ≤ l → l < c → Rises c ts → On a c body
      → Until c (Stm_on a s) rest
  tried (G.with_handlers q) p n r h = handling q p n (tail r) h tt
  tried {c = c} (G.at_last {body = body} {fin = fin} q) p n r h =
      let u = block q (tail (tail r)) in
      let w = u.later in
      record {
        to = u.to;
        holds = (
          (p, omega (arith, n, w)),
          all_of _ _ body (wider.all body (omega arith) (omega (arith, w)) h),
          (c, omega (arith, p, n), omega (arith, w), tt, tt),
          all_of _ _ fin (wider.all fin (omega (arith, p, n)) (omega arith) u.holds),
        );
        rises = u.rises;
        later = omega (arith, w);
      }

  handling : {a c l m : ℕ} {body : List Stm} {hs : List OneHandler} {s : Stm} {ts rest : List Lexeme} → Handling l body m hs ts s rest → a ≤ l → l < c
      → Rises c ts → On a c body → AllByRecursion (HandlerOn a c) hs → Until c (Stm_on a s) rest
  handling {a = a} {m = m} (G.handling {body = body} {ss = ss} {c = e} {hs = hs} q d k) p n r h g =
      let u = block d (tail (catch q r)) in
      let w = u.later in
      later_until (omega (arith, w)) (handled k p (omega (arith, n, w)) u.rises (wider.all body (omega arith) (omega (arith, w)) h)
      (snoc (HandlerOn a u.to) hs (handler_at m e ss) (wider_handlers a hs (omega (arith, w)) g) (wider.all ss (omega (arith, p, n)) (omega arith) u.holds)))

  handled : {a c l : ℕ} {body : List Stm} {b : Bool} {hs : List OneHandler} {s : Stm} {ts rest : List Lexeme} → Handled l body b hs ts s rest → a ≤ l → l < c
      → Rises c ts → On a c body → AllByRecursion (HandlerOn a c) hs → Until c (Stm_on a s) rest
  handled (G.more_handlers q) p n r h g = handling q p n (tail r) h g
  handled {c = c} (G.no_more_handlers {body = body} {els = els} {fin = fin} {hs = hs} o f) p n r h g =
      let u = afterwards o r in
      let v = afterwards f u.rises in
      let w = u.later in
      let x = v.later in
      record {
        to = v.to;
        holds = (
          (p, omega (arith, n, w, x)),
          all_of _ _ body (wider.all body (omega arith) (omega (arith, w, x)) h),
          (c, omega (arith, p, n), omega (arith, w, x), all_handlers _ _ hs g, all_of _ _ els (wider.all els (omega arith) x u.holds)),
          all_of _ _ fin (wider.all fin (omega (arith, p, n, w)) (omega arith) v.holds),
        );
        rises = v.rises;
        later = omega (arith, w, x);
      }

  definition : {a l : ℕ} {ds : List OneDecorator} {s : Stm} {ts rest : List Lexeme} → Definition l ds ts s rest → a ≤ l → Rises l ts → Until l (Stm_on a s) rest
  definition (G.of_function q) p r = function q p (tail r)
  definition (G.of_class q) p r = a_class q p (tail r)

  function : {a l m : ℕ} {ds : List OneDecorator} {s : Stm} {ts rest : List Lexeme} → FunctionDef l ds m ts s rest → a ≤ l → Rises l ts
      → Until l (Stm_on a s) rest
  function (G.function {body = body} q d) p r =
      let u = block d (tail (signature q r)) in
      let w = u.later in
      record { to = u.to; holds = ((p, w), all_of _ _ body (wider.all body p (omega arith) u.holds)); rises = u.rises; later = omega (arith, w) }

  a_class : {a l m : ℕ} {ds : List OneDecorator} {s : Stm} {ts rest : List Lexeme} → ClassDef l ds m ts s rest → a ≤ l → Rises l ts → Until l (Stm_on a s) rest
  a_class (G.a_class {body = body} i q d) p r =
      let u = block d (tail (bases q (identifier i r))) in
      let w = u.later in
      record { to = u.to; holds = ((p, w), all_of _ _ body (wider.all body p (omega arith) u.holds)); rises = u.rises; later = omega (arith, w) }

pub on_lines : StatementsAreOnLines
on_lines from ts ss r a = let u = stmts a (omega arith) (record { rise = r }) tt in (u.to, all_of _ _ ss u.holds)
