-- Blocks and the statements in them.
use Rattle.std.proofs.Common.{◌≡◌, ◌≢◌, ℕ, List, [], ◌∷◌, ◌++◌, Option, Some, None, Bool, true, false, ◌⊎◌, inl, inr, Result, Ok, Err, refl, sym, ◌∙◌, ap, subst, arith, length, length-append, ◌<◌}
use Rattle.pt_wide.specs.Syntax as S
use Rattle.pt_wide.specs.Syntax.{Exp, Stm, Stms}
use Rattle.pt_wide.specs.StatementFold.{stms_from}
use Rattle.pt_readers.specs.declared.halt.Halt.{Halt}
use Rattle.pt_readers.specs.Reading.{next_of, behind, Part, Alike, Found, Refused, Carries, Within}
use Rattle.pt_readers.specs.Settled.{Settled, Fails}
use Rattle.pt_readers.proofs.Readers.{Binds, Shifts, Narrows, left, nothing_found, bad_refused, narrow_carries, then_on}
use Rattle.pt_readers.proofs.Exits.{carried, first_fails}
use Rattle.pt_grammar.specs.declared.sign.Sign.{Sign}
use Rattle.pt_wide.specs.declared.expression.WideBinOp.TheVariants.{MatMul}
use Rattle.pt_grammar.specs.declared.sign.Sign.TheVariants.{Operator, Mark as mark, Word as word, Keyword as keyword, Layout as layout}
use Rattle.pt_grammar.specs.declared.sign.Mark.TheVariants.{Colon, Semicolon}
use Rattle.pt_grammar.specs.declared.sign.Word.TheVariants.{Else, From, If, For}
use Rattle.pt_grammar.specs.declared.sign.Keyword.{Keyword}
use Rattle.pt_grammar.specs.declared.sign.Keyword.TheVariants.{Class, Def, Elif, Except, Finally, Pass, Try, While, With}
use Rattle.pt_grammar.specs.declared.sign.Layout.TheVariants.{Newline, Indent, Dedent, End}
use Rattle.pt_grammar.specs.Lexemes.{Lexeme, name, int, str, f_text, sign, unknown, sign_at}
use Rattle.pt_parser.specs.Forms.{Reads, Is, is, Then, The, the, UpTo, closed, a_sign}
use Rattle.pt_parser.specs.Simple.{Simple, keyword_statement, imported_from, assignment_or_expression}
use Rattle.pt_parser.specs.Grammar.{Simples, Block, on_line, indented, Stmts, no_stmt, one_stmt, Stmt, compound, simples, Afterwards, nothing_after, block_after, Suite, Compound, if_so, while_so, for_each, try_so, def_so, class_so, with_decorators, with_so}
use Rattle.pt_parser.specs.Limits.{FitsStm, FitsStms}
use Rattle.pt_parser.specs.Parts.{IsEnd, IsClause, Clear, BeginsCompound, no_clause, Each, closing, FitsBlock, a_simple, some_simples, a_compound, a_stmt, some_stmts, a_block, IsAfterwards, an_afterwards, a_last, a_suite}
use Rattle.pt_parser.proofs.Tokens.{sign_next, not_sign}
use Rattle.pt_parser.proofs.Chains.{Ready, ready_is, ready_then, Follows, chain, is_found, within_all, within_one}
use Rattle.pt_parser.proofs.Ends.{nothing, before, before_binds, before_is}
use Rattle.pt_parser.proofs.UpTo.{Closable, Item, upto_keeps, each_before, each_behind}
use Rattle.pt_parser.proofs.SimpleLemmas.{BeginsSimple, simple_begins}

pub clear_no : (o : Option Lexeme) → Clear o → IsClause o → ⊥
clear_no None c h = c
clear_no (Some t) c h = c h

pub clear_of : (o : Option Lexeme) → (IsClause o → ⊥) → (o ≡ None → ⊥) → Clear o
clear_of None m n = n refl
clear_of (Some t) m n = m

-- the last test of a reader that gives x
pub before_all : {A X : Type 0} {P : Part Lexeme A} (S : Option Lexeme → Type 0) (F : A → Type 0) (x : A) {ts mid : List Lexeme} (rest : List Lexeme) → Carries P ts (before S F (Is x)) mid → F x
    → (r : Result X Halt) → Settled (nothing S) (λ u. tt) mid rest r → Settled P (λ u. x) ts rest r
before_all S F x rest c fits (Ok u) f = before_is S F c fits f
before_all S F x {mid = mid} rest c fits (Err e) f = carried rest e c (first_fails mid rest (before_binds S F x fits) e f)

-- the limits of a list of statements
pub block_each : (ss : List Stm) → FitsBlock ss → Each FitsStm ss
block_each [] f = tt
block_each (s ∷ ss) f = (f.0, block_each ss f.1)

pub each_block : (ss : List Stm) → Each FitsStm ss → FitsBlock ss
each_block [] f = tt
each_block (s ∷ ss) f = (f.0, each_block ss f.1)

pub block_snoc : (ss : List Stm) (s : Stm) → FitsBlock ss → FitsStm s → FitsBlock (ss ++ (s ∷ []))
block_snoc [] s f g = (g, tt)
block_snoc (x ∷ ss) s f g = (f.0, block_snoc ss s f.1 g)

block_before : (ss ys : List Stm) → FitsBlock (ss ++ ys) → FitsBlock ss
block_before [] ys f = tt
block_before (s ∷ ss) ys f = (f.0, block_before ss ys f.1)

block_last : (ss : List Stm) (s : Stm) → FitsBlock (ss ++ (s ∷ [])) → FitsStm s
block_last [] s f = f.0
block_last (x ∷ ss) s f = block_last ss s f.1

-- What signs do among statements: 1 begins a compound statement, 2 goes on with one, 3 closes a list of statements.
abbrev pub role : Sign → ℕ
role (word If) = 1
role (word For) = 1
role (keyword While) = 1
role (keyword Try) = 1
role (keyword Def) = 1
role (keyword Class) = 1
role (keyword With) = 1
role (Operator MatMul) = 1
role (word Else) = 2
role (keyword Elif) = 2
role (keyword Except) = 2
role (keyword Finally) = 2
role (layout Dedent) = 3
role (layout End) = 3
role _ = 0

abbrev pub role_at : Option Sign → ℕ
role_at (Some s) = role s
role_at None = 0

simple_role : (o : Option Lexeme) → BeginsSimple o → role_at (sign_at o) ≡ 0
simple_role (Some (sign l (word If))) b = absurd b
simple_role (Some (sign l (word For))) b = absurd b
simple_role (Some (sign l (keyword While))) b = absurd b
simple_role (Some (sign l (keyword Try))) b = absurd b
simple_role (Some (sign l (keyword Def))) b = absurd b
simple_role (Some (sign l (keyword Class))) b = absurd b
simple_role (Some (sign l (keyword With))) b = absurd b
simple_role (Some (sign l (Operator MatMul))) b = absurd b
simple_role (Some (sign l (word Else))) b = absurd b
simple_role (Some (sign l (keyword Elif))) b = absurd b
simple_role (Some (sign l (keyword Except))) b = absurd b
simple_role (Some (sign l (keyword Finally))) b = absurd b
simple_role (Some (sign l (layout Dedent))) b = absurd b
simple_role (Some (sign l (layout End))) b = absurd b
simple_role None b = refl
simple_role _ b = refl

compound_role : (o : Option Lexeme) → BeginsCompound o → role_at (sign_at o) ≡ 1
compound_role o (inl h) = ap role_at h
compound_role o (inr (inl h)) = ap role_at h
compound_role o (inr (inr (inl h))) = ap role_at h
compound_role o (inr (inr (inr (inl h)))) = ap role_at h
compound_role o (inr (inr (inr (inr (inl h))))) = ap role_at h
compound_role o (inr (inr (inr (inr (inr (inl h)))))) = ap role_at h
compound_role o (inr (inr (inr (inr (inr (inr (inl h))))))) = ap role_at h
compound_role o (inr (inr (inr (inr (inr (inr (inr h))))))) = ap role_at h

clause_role : (o : Option Lexeme) → IsClause o → role_at (sign_at o) ≡ 2
clause_role o (inl h) = ap role_at h
clause_role o (inr (inl h)) = ap role_at h
clause_role o (inr (inr (inl h))) = ap role_at h
clause_role o (inr (inr (inr h))) = ap role_at h

-- the signs that close statements
abbrev pub Closes : Sign → Type 0
Closes close = (close ≡ layout Dedent) ⊎ (close ≡ layout End)

close_role : {close : Sign} (o : Option Lexeme) → Closes close → sign_at o ≡ Some close → role_at (sign_at o) ≡ 3
close_role o (inl e) h = ap role_at (h ∙ ap (λ u. Some u) e)
close_role o (inr e) h = ap role_at (h ∙ ap (λ u. Some u) e)

-- how a statement begins
abbrev pub Starts : Option Lexeme → Type 0
Starts o = BeginsSimple o ⊎ BeginsCompound o

compound_begins : {ts rest : List Lexeme} {s : Stm} → Compound ts s rest → BeginsCompound (next_of ts)
compound_begins (if_so q) = inl refl
compound_begins (while_so q b o) = inr (inl refl)
compound_begins (for_each q p b o) = inr (inr (inl refl))
compound_begins (try_so b k) = inr (inr (inr (inl refl)))
compound_begins (def_so k) = inr (inr (inr (inr (inl refl))))
compound_begins (class_so k) = inr (inr (inr (inr (inr (inl refl)))))
compound_begins (with_decorators d k) = inr (inr (inr (inr (inr (inr (inl refl))))))
compound_begins (with_so q k) = inr (inr (inr (inr (inr (inr (inr refl))))))

stmt_starts : {ss all : List Stm} {ts rest : List Lexeme} → Stmt ss ts all rest → Starts (next_of ts)
stmt_starts (compound q e) = inr (compound_begins q)
stmt_starts (simples (s, mid, q, u)) = inl (simple_begins q)

no_simple_none : BeginsSimple None → ⊥
no_simple_none b = b

starts_clear : (o : Option Lexeme) → Starts o → Clear o
starts_clear None (inl b) = b
starts_clear None (inr b) = absurd (omega (arith, compound_role None b))
starts_clear (Some t) (inl b) = λ h. omega (arith, simple_role (Some t) b, clause_role (Some t) h)
starts_clear (Some t) (inr b) = λ h. omega (arith, compound_role (Some t) b, clause_role (Some t) h)

starts_no_close : {close : Sign} (o : Option Lexeme) → Closes close → Starts o → sign_at o ≡ Some close → ⊥
starts_no_close o c (inl b) h = omega (arith, simple_role o b, close_role o c h)
starts_no_close o c (inr b) h = omega (arith, compound_role o b, close_role o c h)

simple_no_newline : (o : Option Lexeme) → BeginsSimple o → sign_at o ≢ Some (layout Newline)
simple_no_newline (Some (sign l (layout Newline))) b h = b
simple_no_newline None b h = b
simple_no_newline (Some (name l x)) b h = cc
simple_no_newline (Some (int l n)) b h = cc
simple_no_newline (Some (str l x)) b h = cc
simple_no_newline (Some (f_text l x)) b h = cc
simple_no_newline (Some (unknown l)) b h = cc
simple_no_newline (Some (sign l s)) b h = other s b cc
  where
    other : (u : Sign) → BeginsSimple (Some (sign l u)) → u ≢ layout Newline
    other (layout Newline) b e = b
    other (keyword k) b e = cc
    other (word w) b e = cc
    other (mark m) b e = cc
    other (layout Indent) b e = cc
    other (layout Dedent) b e = cc
    other (layout End) b e = cc
    other _ b e = cc

-- simple statements on one line
simple_ready : (over : Bool) → Ready a_simple.fits over a_simple.reads
simple_ready over = record { word = sign 0 (keyword Pass) ∷ []; done = S.pass 0; fits = within_all a_simple.fits over (S.pass 0) tt; reads = λ z. keyword_statement is }

pub simples_closable : Closable (mark Semicolon) (layout Newline) a_simple
simples_closable = record {
  differ = λ h. cc;
  at_sign = λ s l. inl refl;
  at_close = λ s l. inr refl;
  begins = λ ts s rest q. simple_no_newline _ (simple_begins q);
  ready = simple_ready;
}

pub simples_narrow : (ss : List Stm) (ts : List Lexeme) → Narrows ts (closing a_simple (Item (mark Semicolon) (layout Newline) a_simple simples_closable ss)) (some_simples ss)
simples_narrow ss ts = record { into = λ more all rest k. k; out = λ more all rest a k n. (k, tt); stop = λ all o n. tt; up = λ all f. each_block all f; down = λ all f. block_each all f }

-- the limits of what was read before
simples_keep : (ss : List Stm) {all : List Stm} {ts rest : List Lexeme} → Simples ss ts all rest → FitsBlock all → FitsBlock ss
simples_keep ss {all} (s, mid, q, u) f =
    each_block ss (each_before FitsStm ss (s ∷ []) (upto_keeps (mark Semicolon) (layout Newline) a_simple simples_closable (ss ++ (s ∷ [])) u (block_each all f)))

stmt_keeps : (ss : List Stm) {all : List Stm} {ts rest : List Lexeme} → Stmt ss ts all rest → FitsBlock all → FitsBlock ss
stmt_keeps ss (compound {s = s} q e) f = block_before ss (s ∷ []) (subst FitsBlock e f)
stmt_keeps ss (simples u) f = simples_keep ss u f

stmts_keep : {close : Sign} (ss : List Stm) {all : List Stm} {ts rest : List Lexeme} → Stmts close ss ts all rest → FitsBlock all → FitsBlock ss
stmts_keep ss (no_stmt e) f = f
stmts_keep ss (one_stmt {some = some} q m) f = stmt_keeps ss q (stmts_keep some m f)

stmts_clear : {close : Sign} {ss all : List Stm} {ts rest : List Lexeme} → Closes close → Stmts close ss ts all rest → Clear (next_of ts)
stmts_clear c (no_stmt {l = l} {t = t} e) = λ h. omega (arith, clause_role (Some (sign l t)) h, close_role (Some (sign l t)) c (ap (λ u. Some u) e))
stmts_clear c (one_stmt q m) = starts_clear _ (stmt_starts q)

-- behind these statements a compound one
abbrev pub OneMore : List Stm → Reads (List Stm)
OneMore ss = Then Compound (λ s. Is (ss ++ (s ∷ [])))

alike_compound : {more : List Lexeme} (ts : List Lexeme) → Alike more ts → BeginsCompound (next_of ts) → BeginsSimple (next_of more) → ⊥
alike_compound ts (inl a) h b = omega (arith, simple_role _ b, compound_role _ (subst BeginsCompound (sym a) h))
alike_compound ts (inr a) h b = subst (λ u. BeginsSimple (next_of u)) a b

pub compound_narrow : (ss : List Stm) (ts : List Lexeme) → BeginsCompound (next_of ts) → Narrows ts (left (a_stmt ss) (OneMore ss)) (a_stmt ss)
compound_narrow ss ts h = record { into = λ more all rest k. into k; out = λ more all rest a k n. (out a k, n); stop = λ all o n. n; up = λ all f. f; down = λ all f. f }
  where
    one : {more rest : List Lexeme} (s : Stm) (mid : List Lexeme) {all : List Stm} → Compound more s mid → Is (ss ++ (s ∷ [])) mid all rest → Stmt ss more all rest
    one s mid q is = compound q refl

    into : {more rest : List Lexeme} {all : List Stm} → OneMore ss more all rest → Stmt ss more all rest
    into (s, mid, q, k) = one s mid q k

    out : {more rest : List Lexeme} {all : List Stm} → Alike more ts → Stmt ss more all rest → OneMore ss more all rest
    out {more = more} {rest = rest} a (compound {s = s} q e) = (s, rest, q, subst (λ u. Is (ss ++ (s ∷ [])) rest u rest) (sym e) is)
    out a (simples (s, mid, q, u)) = absurd (alike_compound ts a h (simple_begins q))

pub compound_binds : (ss : List Stm) → FitsBlock ss → Binds a_compound (λ s. Is (ss ++ (s ∷ []))) (left (a_stmt ss) (OneMore ss))
compound_binds ss f = chain (a_stmt ss) a_compound (λ s. Is (ss ++ (s ∷ []))) record {
  apart = λ s mid all rest k n. apart s k n;
  down = λ s mid all rest k g. down s k g;
  ready = λ over s g. ready_is FitsBlock over (ss ++ (s ∷ [])) (within_one FitsStm FitsBlock over s (ss ++ (s ∷ [])) (λ g. block_snoc ss s f g) g);
}
  where
    apart : (s : Stm) {all : List Stm} {mid rest : List Lexeme} → Is (ss ++ (s ∷ [])) mid all rest → Clear (next_of rest) → Clear (next_of mid)
    apart s is n = n

    down : (s : Stm) {all : List Stm} {mid rest : List Lexeme} → Is (ss ++ (s ∷ [])) mid all rest → FitsBlock all → FitsStm s
    down s is g = block_last ss s g

pub simples_stmt : (ss : List Stm) (ts : List Lexeme) → (BeginsCompound (next_of ts) → ⊥) → Narrows ts (left (a_stmt ss) (Then (Simples ss) (λ all. Is all))) (a_stmt ss)
simples_stmt ss ts h = record { into = λ more all rest k. into k; out = λ more all rest a k n. (out a k, n); stop = λ all o n. n; up = λ all f. f; down = λ all f. f }
  where
    into : {more rest : List Lexeme} {all : List Stm} → Then (Simples ss) (λ all. Is all) more all rest → Stmt ss more all rest
    into (all, mid, q, is) = simples q

    none : BeginsCompound (next_of []) → ⊥
    none b = omega (arith, compound_role None b)

    out : {more rest : List Lexeme} {all : List Stm} → Alike more ts → Stmt ss more all rest → Then (Simples ss) (λ all. Is all) more all rest
    out (inl a) (compound q e) = absurd (h (subst BeginsCompound a (compound_begins q)))
    out (inr a) (compound q e) = absurd (none (subst (λ u. BeginsCompound (next_of u)) a (compound_begins q)))
    out {rest = rest} {all = all} a (simples u) = (all, rest, u, is)

pub simples_binds : (ss : List Stm) → Binds (some_simples ss) (λ all. Is all) (left (a_stmt ss) (Then (Simples ss) (λ all. Is all)))
simples_binds ss = chain (a_stmt ss) (some_simples ss) (λ all. Is all) record {
  apart = λ ys mid all rest k n. tt;
  down = λ ys mid all rest k g. down k g;
  ready = λ over ys g. ready_is FitsBlock over ys g;
}
  where
    down : {ys all : List Stm} {mid rest : List Lexeme} → Is ys mid all rest → FitsBlock all → FitsBlock ys
    down is g = g

-- statements up to a sign
abbrev pub Next : Sign → List Stm → Reads (List Stm)
Next close ss = Then (Stmt ss) (λ some. Stmts close some)

pub close_shifts : (close : Sign) (ss : List Stm) (l : ℕ) → Closes close → Shifts (sign l close) (left (some_stmts close ss) (Is ss)) (some_stmts close ss)
close_shifts close ss l c = record { intro = λ ts all rest i. into i; inv = λ ts all rest u n. (out u, tt); stop = λ all o n. tt; up = λ all f. f; down = λ all f. f }
  where
    into : {ts rest : List Lexeme} {all : List Stm} → Is ss ts all rest → Stmts close ss (sign l close ∷ ts) all rest
    into is = no_stmt refl

    out : {ts rest : List Lexeme} {all : List Stm} → Stmts close ss (sign l close ∷ ts) all rest → Is ss ts all rest
    out (no_stmt e) = is
    out (one_stmt q m) = absurd (starts_no_close (Some (sign l close)) c (stmt_starts q) refl)

pub next_narrow : (close : Sign) (ss : List Stm) (ts : List Lexeme) → sign_at (next_of ts) ≢ Some close → Narrows ts (left (some_stmts close ss) (Next close ss)) (some_stmts close ss)
next_narrow close ss ts n = record { into = λ more all rest k. one_stmt k.2 k.3; out = λ more all rest a u m. (out (not_sign ts a n) u, tt); stop = λ all o k. tt; up = λ all f. f; down = λ all f. f }
  where
    out : {more rest : List Lexeme} {all : List Stm} → sign_at (next_of more) ≢ Some close → Stmts close ss more all rest → Next close ss more all rest
    out m (no_stmt e) = absurd (m (ap (λ u. Some u) e))
    out m (one_stmt q u) = (_, _, q, u)

pub next_binds : (close : Sign) (ss : List Stm) → Closes close → Binds (a_stmt ss) (λ some. Stmts close some) (left (some_stmts close ss) (Next close ss))
next_binds close ss c = chain (some_stmts close ss) (a_stmt ss) (λ some. Stmts close some) record {
  apart = λ some mid all rest u n. stmts_clear c u;
  down = λ some mid all rest u f. stmts_keep some u f;
  ready = λ over some f. record { word = sign 0 close ∷ []; done = some; fits = f; reads = λ z. no_stmt refl };
}

-- a block
abbrev pub Rest : Reads (List Stm)
Rest = Then (Stmt []) (λ ss. Stmts (layout Dedent) ss)

abbrev pub Lines : Reads (List Stm)
Lines = Then (The (layout Indent)) (λ l. Rest)

pub line_narrow : (ts : List Lexeme) → sign_at (next_of ts) ≢ Some (layout Newline) → Narrows ts (some_simples []) a_block
line_narrow ts n = record { into = λ more all rest k. on_line k; out = λ more all rest a b m. (out (not_sign ts a n) b, tt); stop = λ all o k. tt; up = λ all f. f; down = λ all f. f }
  where
    out : {more rest : List Lexeme} {all : List Stm} → sign_at (next_of more) ≢ Some (layout Newline) → Block more all rest → Simples [] more all rest
    out m (on_line u) = u
    out m (indented q u) = absurd (m refl)

pub lines_shifts : (l : ℕ) → Shifts (sign l (layout Newline)) (left a_block Lines) a_block
lines_shifts l = record { intro = λ ts all rest k. into k; inv = λ ts all rest b n. (out b, tt); stop = λ all o n. tt; up = λ all f. f; down = λ all f. f }
  where
    into : {ts rest : List Lexeme} {all : List Stm} → Lines ts all rest → Block (sign l (layout Newline) ∷ ts) all rest
    into {rest = rest} {all = all} (m, mid, the e, (ss, end, q, u)) = subst (λ t. Block (sign l (layout Newline) ∷ (sign m t ∷ mid)) all rest) (sym e) (indented q u)

    out : {ts rest : List Lexeme} {all : List Stm} → Block (sign l (layout Newline) ∷ ts) all rest → Lines ts all rest
    out (on_line (s, mid, q, u)) = absurd (simple_no_newline (Some (sign l (layout Newline))) (simple_begins q) refl)
    out (indented q u) = (_, _, the refl, (_, _, q, u))

stmt_ready : (over : Bool) → Ready FitsBlock over (Stmt [])
stmt_ready over = record { word = sign 0 (keyword Pass) ∷ (sign 0 (layout Newline) ∷ []); done = S.pass 0 ∷ []; fits = within_all FitsBlock over (S.pass 0 ∷ []) (tt, tt); reads = λ z. simples (_, _, keyword_statement is, closed refl) }

rest_ready : (over : Bool) → Ready FitsBlock over Rest
rest_ready over = ready_then FitsBlock over (a_stmt []) (λ ss. Stmts (layout Dedent) ss) (stmt_ready over)
    (λ ss f. record { word = sign 0 (layout Dedent) ∷ []; done = ss; fits = f; reads = λ z. no_stmt refl })

pub indent_binds : Binds (a_sign (layout Indent)) (λ l. Rest) (left a_block Lines)
indent_binds = chain a_block (a_sign (layout Indent)) (λ l. Rest) record { apart = λ l mid all rest k n. tt; down = λ l mid all rest k f. tt; ready = λ over l f. rest_ready over }

pub rest_binds : Binds (a_stmt []) (λ ss. Stmts (layout Dedent) ss) (left a_block Rest)
rest_binds = chain a_block (a_stmt []) (λ ss. Stmts (layout Dedent) ss) record {
  apart = λ ss mid all rest u n. stmts_clear (inl refl) u;
  down = λ ss mid all rest u f. stmts_keep ss u f;
  ready = λ over ss f. record { word = sign 0 (layout Dedent) ∷ []; done = ss; fits = f; reads = λ z. no_stmt refl };
}

pub block_ready : (over : Bool) → Ready FitsBlock over Block
block_ready over = record { word = sign 0 (keyword Pass) ∷ (sign 0 (layout Newline) ∷ []); done = S.pass 0 ∷ []; fits = within_all FitsBlock over (S.pass 0 ∷ []) (tt, tt); reads = λ z. on_line (_, _, keyword_statement is, closed refl) }

-- ":" and a block
pub suite_colon : Binds (a_sign (mark Colon)) (λ l. Block) a_suite
suite_colon = chain a_suite (a_sign (mark Colon)) (λ l. Block) record { apart = λ l mid all rest k n. tt; down = λ l mid all rest k f. tt; ready = λ over l f. block_ready over }

pub suite_ready : (over : Bool) → Ready FitsBlock over Suite
suite_ready over = ready_then FitsBlock over (a_sign (mark Colon)) (λ l. Block)
    record { word = sign 0 (mark Colon) ∷ []; done = 0; fits = within_all (a_sign (mark Colon)).fits over 0 tt; reads = λ z. the refl } (λ l f. block_ready over)

pub suite_next : {ss : List Stm} {ts rest : List Lexeme} → Suite ts ss rest → sign_at (next_of ts) ≡ Some (mark Colon)
suite_next (l, mid, the e, b) = ap (λ u. Some u) e

-- the block with which a statement ends
pub ending_binds : Binds a_suite (λ ss. Is ss) a_last
ending_binds = record {
  intro = λ ts y mid x rest q i. into q i;
  inv = λ ts x rest q n. (x, rest, q, tt, is);
  down = λ y mid x rest i f. down i f;
  finish = λ y f. ([], y, f, λ z. is);
  extend = λ y. ([], y, λ z. is);
}
  where
    into : {ts mid rest : List Lexeme} {y x : List Stm} → Suite ts y mid → Is y mid x rest → Suite ts x rest
    into q is = q

    down : {y x : List Stm} {mid rest : List Lexeme} → Is y mid x rest → FitsBlock x → FitsBlock y
    down is f = f

-- [ "else" ":" block ], and the same with "finally"
pub after_none : (w : Sign) (ts : List Lexeme) → sign_at (next_of ts) ≢ Some w → Narrows ts (before Clear FitsBlock (Is [])) (an_afterwards w)
after_none w ts n = record { into = λ more all rest k. into k; out = λ more all rest a o m. (out (not_sign ts a n) o, m); stop = λ all o k. k; up = λ all f. f; down = λ all f. f }
  where
    into : {more rest : List Lexeme} {all : List Stm} → Is [] more all rest → Afterwards w more all rest
    into is = nothing_after

    out : {more rest : List Lexeme} {all : List Stm} → sign_at (next_of more) ≢ Some w → Afterwards w more all rest → Is [] more all rest
    out m nothing_after = is
    out m (block_after e b) = absurd (m (ap (λ u. Some u) e))

pub clause_word : (w : Sign) → IsAfterwards w → (l : ℕ) → IsClause (Some (sign l w))
clause_word w (inl e) l = subst (λ u. IsClause (Some (sign l u))) (sym e) (inl refl)
clause_word w (inr e) l = subst (λ u. IsClause (Some (sign l u))) (sym e) (inr (inr (inr refl)))

pub after_shifts : (w : Sign) (l : ℕ) → IsAfterwards w → Shifts (sign l w) a_last (an_afterwards w)
after_shifts w l h = record { intro = λ ts all rest k. into k; inv = λ ts all rest o n. (out o n, n); stop = λ all o n. n; up = λ all f. f; down = λ all f. f }
  where
    into : {ts rest : List Lexeme} {all : List Stm} → Suite ts all rest → Afterwards w (sign l w ∷ ts) all rest
    into {rest = rest} {all = all} (m, mid, the e, b) = subst (λ t. Afterwards w (sign l w ∷ (sign m t ∷ mid)) all rest) (sym e) (block_after refl b)

    out : {ts rest : List Lexeme} {all : List Stm} → Afterwards w (sign l w ∷ ts) all rest → Clear (next_of rest) → Suite ts all rest
    out nothing_after n = absurd (n (clause_word w h l))
    out (block_after e b) n = (_, _, the refl, b)

pub after_ready : (w : Sign) (over : Bool) → Ready FitsBlock over (Afterwards w)
after_ready w over = record { word = []; done = []; fits = within_all FitsBlock over [] tt; reads = λ z. nothing_after }

pub otherwise_ready : (over : Bool) → Ready FitsBlock over (Afterwards (word Else))
otherwise_ready over = after_ready (word Else) over

pub last_ready : (over : Bool) → Ready a_last.fits over a_last.reads
last_ready over = suite_ready over

-- where its word was not taken
pub none_carries : {ts rest : List Lexeme} (w : Sign) → (sign_at (next_of ts) ≢ Some w) × (rest ≡ ts) → Carries (an_afterwards w) ts (before Clear FitsBlock (Is [])) rest
none_carries {ts} w n = subst (λ u. Carries (an_afterwards w) ts (before Clear FitsBlock (Is [])) u) (sym n.1) (narrow_carries (after_none w ts n.0))

-- where the closing sign was not taken
pub next_carries : {P : Part Lexeme (List Stm)} {ts mid rest : List Lexeme} (close : Sign) (ss : List Stm) → Carries P ts (some_stmts close ss) mid
    → (sign_at (next_of mid) ≢ Some close) × (rest ≡ mid) → Carries P ts (left (some_stmts close ss) (Next close ss)) rest
next_carries {P} {ts} {mid} close ss c n = subst (λ u. Carries P ts (left (some_stmts close ss) (Next close ss)) u) (sym n.1) (then_on c (narrow_carries (next_narrow close ss mid n.0)))

-- a statement takes a token
pub stmt_shorter : {ss all : List Stm} {ts rest : List Lexeme} → Found (a_stmt ss) ts all rest → length rest < length ts
stmt_shorter {ts = ts} {rest = rest} f = shorter f.front f.whole (stmt_starts (f.reads []))
  where
    shorter : (front : List Lexeme) → ts ≡ front ++ rest → Starts (next_of (front ++ [])) → length rest < length ts
    shorter [] w (inl b) = absurd b
    shorter [] w (inr b) = absurd (omega (arith, compound_role None b))
    shorter (t ∷ front) w s = omega (arith, ap length w, length-append front rest)
