-- How what is left of a `try` goes on.
use Rattle.std.proofs.Common.{◌≡◌, ◌≢◌, ℕ, List, [], ◌∷◌, ◌++◌, Option, Some, None, Bool, true, false, ◌⊎◌, inl, inr, refl, sym, ◌∙◌, ap, subst, arith}
use Rattle.pt_wide.specs.Syntax as S
use Rattle.pt_wide.specs.Syntax.{Opt, Stm}
use Rattle.pt_wide.specs.StatementFold.{stms_from}
use Rattle.pt_readers.specs.Reading.{next_of, behind, Part, Alike, Found, Refused, Carries, Within}
use Rattle.pt_readers.proofs.Readers.{Binds, Shifts, Narrows, left, bad_refused, narrow_carries, then_on}
use Rattle.pt_grammar.specs.declared.sign.Sign.{Sign}
use Rattle.pt_grammar.specs.declared.sign.Sign.TheVariants.{Mark as mark, Word as word, Keyword as keyword, Layout as layout}
use Rattle.pt_grammar.specs.declared.sign.Mark.TheVariants.{Colon}
use Rattle.pt_grammar.specs.declared.sign.Word.TheVariants.{Else}
use Rattle.pt_grammar.specs.declared.sign.Keyword.TheVariants.{Except, Finally, Pass, Try}
use Rattle.pt_grammar.specs.declared.sign.Layout.TheVariants.{Newline}
use Rattle.pt_grammar.specs.Lexemes.{Lexeme, sign, sign_at}
use Rattle.pt_grammar.specs.Nodes.{is_given}
use Rattle.pt_parser.specs.Forms.{Reads, Is, is, Then, The, the, closed}
use Rattle.pt_parser.specs.Simple.{keyword_statement}
use Rattle.pt_parser.specs.Headings.{OneCatch, Catch}
use Rattle.pt_parser.specs.Grammar.{OneHandler, handler_at, handlers_from, Block, on_line, Afterwards, nothing_after, block_after, Otherwise, Suite, Compound, try_so, Tried, with_handlers, at_last, Handling, handling, Handled, more_handlers, no_more_handlers, Attempt, Finishing, Closing}
use Rattle.pt_parser.specs.Limits.{FitsOpt, FitsStm, FitsHandlers}
use Rattle.pt_parser.specs.Parts.{Clear, Each, FitsBlock, FitsHandler, an_afterwards, a_catch, a_suite, a_last, a_compound}
use Rattle.pt_parser.proofs.Tokens.{not_sign}
use Rattle.pt_parser.proofs.Chains.{Ready, ready_is, ready_then, within_all, within_one, within_two, Follows, chain}
use Rattle.pt_parser.proofs.UpTo.{each_before, each_behind, each_snoc}
use Rattle.pt_parser.proofs.HeadLemmas.{catch_ready}
use Rattle.pt_parser.proofs.BlockLemmas.{after_ready, suite_next, suite_ready, last_ready}

-- the limits of handlers
pub each_handlers : (hs : List OneHandler) → FitsHandlers (handlers_from hs) → Each FitsHandler hs
each_handlers [] f = tt
each_handlers (h ∷ hs) f = ((f.0, f.1), each_handlers hs f.2)

pub handlers_fit : (hs : List OneHandler) → Each FitsHandler hs → FitsHandlers (handlers_from hs)
handlers_fit [] f = tt
handlers_fit (h ∷ hs) f = (f.0.0, f.0.1, handlers_fit hs f.1)

abbrev the_try : ℕ → List Stm → List OneHandler → List Stm → List Stm → Stm
the_try l body hs els fin = S.try l (stms_from body) (handlers_from hs) (stms_from els) (stms_from fin)

mutual
  handling_keeps : {l m : ℕ} {body : List Stm} (hs : List OneHandler) {s : Stm} {ts rest : List Lexeme} → Handling l body m hs ts s rest → FitsStm s → FitsBlock body × Each FitsHandler hs
  handling_keeps hs (handling {m = m} {ss = ss} {c = c} q b k) f =
      let g = handled_keeps (hs ++ (handler_at m c ss ∷ [])) k f in (g.0, each_before FitsHandler hs (handler_at m c ss ∷ []) g.1)

  pub handled_keeps : {l : ℕ} {b : Bool} {body : List Stm} (hs : List OneHandler) {s : Stm} {ts rest : List Lexeme} → Handled l body b hs ts s rest → FitsStm s → FitsBlock body × Each FitsHandler hs
  handled_keeps hs (more_handlers k) f = handling_keeps hs k f
  handled_keeps hs (no_more_handlers o p) f = (f.0, each_handlers hs f.1)

tried_keeps : {l : ℕ} (body : List Stm) {s : Stm} {ts rest : List Lexeme} → Tried l body ts s rest → FitsStm s → FitsBlock body
tried_keeps body (with_handlers k) f = (handling_keeps [] k f).0
tried_keeps body (at_last b) f = f.0

-- behind "try"
pub try_shifts : (l : ℕ) → Shifts (sign l (keyword Try)) (left a_compound (Attempt l)) a_compound
try_shifts l = record { intro = λ ts s rest k. into k; inv = λ ts s rest k n. (out k, n); stop = λ s o n. n; up = λ s f. f; down = λ s f. f }
  where
    into : {ts rest : List Lexeme} {s : Stm} → Attempt l ts s rest → Compound (sign l (keyword Try) ∷ ts) s rest
    into {rest = rest} {s = s} (body, m1, (k, m2, the e, b), t) = subst (λ u. Compound (sign l (keyword Try) ∷ (sign k u ∷ m2)) s rest) (sym e) (try_so b t)

    out : {ts rest : List Lexeme} {s : Stm} → Compound (sign l (keyword Try) ∷ ts) s rest → Attempt l ts s rest
    out (try_so b t) = (_, _, (_, _, the refl, b), t)

-- "finally" and a block
abbrev pub AtLast : ℕ → List Stm → Reads Stm
AtLast l body = Then Suite (λ fin. Is (S.try l (stms_from body) S.no_handlers S.none (stms_from fin)))

last_word : List Lexeme
last_word = sign 0 (keyword Finally) ∷ (sign 0 (mark Colon) ∷ (sign 0 (keyword Pass) ∷ (sign 0 (layout Newline) ∷ [])))

tried_ready : (over : Bool) (l : ℕ) (body : List Stm) → Within FitsBlock over body → Ready FitsStm over (Tried l body)
unfolding last_word
tried_ready over l body f = record {
  word = last_word;
  done = S.try l (stms_from body) S.no_handlers S.none (stms_from (S.pass 0 ∷ []));
  fits = within_one FitsBlock FitsStm over body (S.try l (stms_from body) S.no_handlers S.none (stms_from (S.pass 0 ∷ []))) (λ f. (f, tt, tt, (tt, tt))) f;
  reads = λ z. at_last (on_line (_, _, keyword_statement is, closed refl));
}

pub try_body : (l : ℕ) → Binds a_suite (λ body. Tried l body) (left a_compound (Attempt l))
try_body l = chain a_compound a_suite (λ body. Tried l body) record {
  apart = λ body mid s rest k n. tt;
  down = λ body mid s rest k f. tried_keeps body k f;
  ready = λ over body f. tried_ready over l body f;
}

pub last_shifts : (l m : ℕ) (body : List Stm) → Shifts (sign m (keyword Finally)) (left a_compound (AtLast l body)) (left a_compound (Tried l body))
last_shifts l m body = record { intro = λ ts s rest k. into k; inv = λ ts s rest k n. (out k, n); stop = λ s o n. n; up = λ s f. f; down = λ s f. f }
  where
    into : {ts rest : List Lexeme} {s : Stm} → AtLast l body ts s rest → Tried l body (sign m (keyword Finally) ∷ ts) s rest
    into {rest = rest} {s = s} (fin, m1, (k, m2, the e, b), is) = subst (λ u. Tried l body (sign m (keyword Finally) ∷ (sign k u ∷ m2)) s rest) (sym e) (at_last b)

    out : {ts rest : List Lexeme} {s : Stm} → Tried l body (sign m (keyword Finally) ∷ ts) s rest → AtLast l body ts s rest
    out (at_last b) = (_, _, (_, _, the refl, b), is)

pub last_block : (l : ℕ) (body : List Stm) → FitsBlock body → Binds a_last (λ fin. Is (S.try l (stms_from body) S.no_handlers S.none (stms_from fin))) (left a_compound (AtLast l body))
last_block l body f = chain a_compound a_last (λ fin. Is (S.try l (stms_from body) S.no_handlers S.none (stms_from fin))) record {
  apart = λ fin mid s rest k n. apart fin k n;
  down = λ fin mid s rest k g. down fin k g;
  ready = λ over fin g. ready_is FitsStm over _ (within_one FitsBlock FitsStm over fin (S.try l (stms_from body) S.no_handlers S.none (stms_from fin)) (λ g. (f, tt, tt, g)) g);
}
  where
    apart : (fin : List Stm) {s : Stm} {mid rest : List Lexeme} → Is (S.try l (stms_from body) S.no_handlers S.none (stms_from fin)) mid s rest → Clear (next_of rest) → Clear (next_of mid)
    apart fin is n = n

    down : (fin : List Stm) {s : Stm} {mid rest : List Lexeme} → Is (S.try l (stms_from body) S.no_handlers S.none (stms_from fin)) mid s rest → FitsStm s → FitsBlock fin
    down fin is g = g.3

-- "except"
pub first_handler : (l m : ℕ) (body : List Stm) → Shifts (sign m (keyword Except)) (left a_compound (Handling l body m [])) (left a_compound (Tried l body))
first_handler l m body = record { intro = λ ts s rest k. with_handlers k; inv = λ ts s rest k n. (out k, n); stop = λ s o n. n; up = λ s f. f; down = λ s f. f }
  where
    out : {ts rest : List Lexeme} {s : Stm} → Tried l body (sign m (keyword Except) ∷ ts) s rest → Handling l body m [] ts s rest
    out (with_handlers k) = k

pub tried_bad : (l : ℕ) (body : List Stm) (ts : List Lexeme) → FitsBlock body → sign_at (next_of ts) ≢ Some (keyword Finally) → sign_at (next_of ts) ≢ Some (keyword Except)
    → Refused (left a_compound (Tried l body)) false ts ts
tried_bad l body ts f m n = let r = tried_ready true l body f in
    bad_refused (left a_compound (Tried l body)) ts (λ more a s rest k o. out (not_sign ts a m) (not_sign ts a n) k) r.word r.done r.fits r.reads
  where
    out : {more rest : List Lexeme} {s : Stm} → sign_at (next_of more) ≢ Some (keyword Finally) → sign_at (next_of more) ≢ Some (keyword Except) → Tried l body more s rest → ⊥
    out a b (with_handlers k) = b refl
    out a b (at_last k) = a refl

-- a handler
abbrev pub HandlerBlock : ℕ → List Stm → ℕ → List OneHandler → OneCatch → Reads Stm
HandlerBlock l body m hs c = Then Suite (λ ss. Handled l body (is_given c.class) (hs ++ (handler_at m c ss ∷ [])))

pub handler_opens : (l : ℕ) (body : List Stm) (m : ℕ) (hs : List OneHandler) (ts : List Lexeme)
    → Narrows ts (left a_compound (Then Catch (HandlerBlock l body m hs))) (left a_compound (Handling l body m hs))
handler_opens l body m hs ts = record { into = λ more s rest k. into k; out = λ more s rest a k n. (out k, n); stop = λ s o n. n; up = λ s f. f; down = λ s f. f }
  where
    into : {more rest : List Lexeme} {s : Stm} → Then Catch (HandlerBlock l body m hs) more s rest → Handling l body m hs more s rest
    into {more = more} (c, m1, q, (ss, m2, (k, m3, the e, b), h)) = handling (subst (λ t. Catch more c (sign k t ∷ m3)) e q) b h

    out : {more rest : List Lexeme} {s : Stm} → Handling l body m hs more s rest → Then Catch (HandlerBlock l body m hs) more s rest
    out (handling q b h) = (_, _, q, (_, _, (_, _, the refl, b), h))

module _ (l : ℕ) (body : List Stm) (f : FitsBlock body) where
  within_try : (over : Bool) (hs : List OneHandler) (m : ℕ) (c : OneCatch) (ss : List Stm) → Each FitsHandler hs → Within a_catch.fits over c → Within FitsBlock over ss
      → Within FitsStm over (the_try l body (hs ++ (handler_at m c ss ∷ [])) [] [])
  within_try over hs m c ss g h i = within_two a_catch.fits FitsBlock FitsStm over c ss (the_try l body (hs ++ (handler_at m c ss ∷ [])) [] [])
      (λ h i. (f, handlers_fit (hs ++ (handler_at m c ss ∷ [])) (each_snoc FitsHandler hs (handler_at m c ss) g (h, i)), tt, tt)) h i

  handled_ready : (over : Bool) (hs : List OneHandler) (m : ℕ) (c : OneCatch) (ss : List Stm) → Each FitsHandler hs → Within a_catch.fits over c → Within FitsBlock over ss
      → Ready FitsStm over (Handled l body (is_given c.class) (hs ++ (handler_at m c ss ∷ [])))
  handled_ready over hs m c ss g h i = record { word = []; done = the_try l body (hs ++ (handler_at m c ss ∷ [])) [] []; fits = within_try over hs m c ss g h i; reads = λ z. no_more_handlers nothing_after nothing_after }

  pub handler_catch : (m : ℕ) (hs : List OneHandler) → Each FitsHandler hs → Binds a_catch (HandlerBlock l body m hs) (left a_compound (Then Catch (HandlerBlock l body m hs)))
  handler_catch m hs g = chain a_compound a_catch (HandlerBlock l body m hs) record {
    apart = λ c mid s rest k n. suite_next k.2;
    down = λ c mid s rest k h. (each_behind FitsHandler hs (handler_at m c k.0 ∷ []) (handled_keeps (hs ++ (handler_at m c k.0 ∷ [])) k.3 h).1).0.0;
    ready = λ over c h. ready_then FitsStm over a_suite (λ ss. Handled l body (is_given c.class) (hs ++ (handler_at m c ss ∷ []))) (suite_ready over) (λ ss i. handled_ready over hs m c ss g h i);
  }

  pub handler_block : (m : ℕ) (hs : List OneHandler) (c : OneCatch) → Each FitsHandler hs → a_catch.fits c
      → Binds a_suite (λ ss. Handled l body (is_given c.class) (hs ++ (handler_at m c ss ∷ []))) (left a_compound (HandlerBlock l body m hs c))
  handler_block m hs c g h = chain a_compound a_suite (λ ss. Handled l body (is_given c.class) (hs ++ (handler_at m c ss ∷ []))) record {
    apart = λ ss mid s rest k n. tt;
    down = λ ss mid s rest k i. (each_behind FitsHandler hs (handler_at m c ss ∷ []) (handled_keeps (hs ++ (handler_at m c ss ∷ [])) k i).1).0.1;
    ready = λ over ss i. handled_ready over hs m c ss g (within_all a_catch.fits over c h) i;
  }

  -- "else"
  finishing_ready : (over : Bool) (hs : List OneHandler) (els : List Stm) → Each FitsHandler hs → Within FitsBlock over els → Ready FitsStm over (Finishing l body hs els)
  finishing_ready over hs els g h = ready_then FitsStm over (an_afterwards (keyword Finally)) (λ fin. Is (the_try l body hs els fin)) (after_ready (keyword Finally) over)
      (λ fin i. ready_is FitsStm over _ (within_two FitsBlock FitsBlock FitsStm over els fin (the_try l body hs els fin) (λ h i. (f, handlers_fit hs g, h, i)) h i))

  pub else_block : (hs : List OneHandler) → Each FitsHandler hs → Binds a_suite (λ els. Finishing l body hs els) (left a_compound (Then Suite (λ els. Finishing l body hs els)))
  else_block hs g = chain a_compound a_suite (λ els. Finishing l body hs els) record {
    apart = λ els mid s rest k n. tt;
    down = λ els mid s rest k h. down els k h;
    ready = λ over els h. finishing_ready over hs els g h;
  }
    where
      down : (els : List Stm) {s : Stm} {mid rest : List Lexeme} → Finishing l body hs els mid s rest → FitsStm s → FitsBlock els
      down els (fin, end, k, is) h = h.2

  pub finally_binds : (hs : List OneHandler) (els : List Stm) → Each FitsHandler hs → FitsBlock els
      → Binds (an_afterwards (keyword Finally)) (λ fin. Is (the_try l body hs els fin)) (left a_compound (Finishing l body hs els))
  finally_binds hs els g h = chain a_compound (an_afterwards (keyword Finally)) (λ fin. Is (the_try l body hs els fin)) record {
    apart = λ fin mid s rest k n. apart fin k n;
    down = λ fin mid s rest k i. down fin k i;
    ready = λ over fin i. ready_is FitsStm over _ (within_one FitsBlock FitsStm over fin (the_try l body hs els fin) (λ i. (f, handlers_fit hs g, h, i)) i);
  }
    where
      apart : (fin : List Stm) {s : Stm} {mid rest : List Lexeme} → Is (the_try l body hs els fin) mid s rest → Clear (next_of rest) → Clear (next_of mid)
      apart fin is n = n

      down : (fin : List Stm) {s : Stm} {mid rest : List Lexeme} → Is (the_try l body hs els fin) mid s rest → FitsStm s → FitsBlock fin
      down fin is i = i.3

pub handler_shifts : (l m : ℕ) (body : List Stm) (b : Bool) (hs : List OneHandler) → b ≡ true → Shifts (sign m (keyword Except)) (left a_compound (Handling l body m hs)) (left a_compound (Handled l body b hs))
handler_shifts l m body b hs h = record { intro = λ ts s rest k. into k; inv = λ ts s rest k n. (out k n, n); stop = λ s o n. n; up = λ s f. f; down = λ s f. f }
  where
    into : {ts rest : List Lexeme} {s : Stm} → Handling l body m hs ts s rest → Handled l body b hs (sign m (keyword Except) ∷ ts) s rest
    into {ts = ts} {rest = rest} {s = s} k = subst (λ u. Handled l body u hs (sign m (keyword Except) ∷ ts) s rest) (sym h) (more_handlers k)

    else_not : keyword Except ≢ word Else
    else_not e = cc

    finally_not : keyword Except ≢ keyword Finally
    finally_not e = cc

    ends : {ts rest : List Lexeme} {fin : List Stm} → Afterwards (keyword Finally) (sign m (keyword Except) ∷ ts) fin rest → Clear (next_of rest) → ⊥
    ends nothing_after n = n (inr (inr (inl refl)))
    ends (block_after e k) n = finally_not e

    no_other : {ts mid rest : List Lexeme} {els fin : List Stm} → Afterwards (word Else) (sign m (keyword Except) ∷ ts) els mid → Afterwards (keyword Finally) mid fin rest → Clear (next_of rest) → ⊥
    no_other nothing_after p n = ends p n
    no_other (block_after e k) p n = else_not e

    out : {c : Bool} {ts rest : List Lexeme} {s : Stm} → Handled l body c hs (sign m (keyword Except) ∷ ts) s rest → Clear (next_of rest) → Handling l body m hs ts s rest
    out (more_handlers k) n = k
    out (no_more_handlers o p) n = absurd (no_other o p n)

-- behind the last handler
pub closing_narrows : (l : ℕ) (body : List Stm) (b : Bool) (hs : List OneHandler) (ts : List Lexeme) → (b ≡ false) ⊎ (sign_at (next_of ts) ≢ Some (keyword Except))
    → Narrows ts (left a_compound (Closing l body hs)) (left a_compound (Handled l body b hs))
closing_narrows l body b hs ts h = record { into = λ more s rest k. into k; out = λ more s rest a k n. (out (both a h) k, n); stop = λ s o n. n; up = λ s f. f; down = λ s f. f }
  where
    into : {more rest : List Lexeme} {s : Stm} → Closing l body hs more s rest → Handled l body b hs more s rest
    into (els, mid, o, (fin, end, p, is)) = no_more_handlers o p

    both : {more : List Lexeme} → Alike more ts → (b ≡ false) ⊎ (sign_at (next_of ts) ≢ Some (keyword Except)) → (b ≡ false) ⊎ (sign_at (next_of more) ≢ Some (keyword Except))
    both a (inl e) = inl e
    both a (inr n) = inr (not_sign ts a n)

    clash : {A : Type 0} → true ≡ false → A
    clash e = cc

    out : {c : Bool} {more rest : List Lexeme} {s : Stm} → (c ≡ false) ⊎ (sign_at (next_of more) ≢ Some (keyword Except)) → Handled l body c hs more s rest → Closing l body hs more s rest
    out (inl e) (more_handlers k) = clash e
    out (inr n) (more_handlers k) = absurd (n refl)
    out i (no_more_handlers o p) = (_, _, o, (_, _, p, is))

pub else_shifts : (l m : ℕ) (body : List Stm) (hs : List OneHandler) → Shifts (sign m (word Else)) (left a_compound (Then Suite (λ els. Finishing l body hs els))) (left a_compound (Closing l body hs))
else_shifts l m body hs = record { intro = λ ts s rest k. into k; inv = λ ts s rest k n. (out k n, n); stop = λ s o n. n; up = λ s f. f; down = λ s f. f }
  where
    into : {ts rest : List Lexeme} {s : Stm} → Then Suite (λ els. Finishing l body hs els) ts s rest → Closing l body hs (sign m (word Else) ∷ ts) s rest
    into (els, m1, (k, m2, the e, b), p) = (els, m1, subst (λ u. Afterwards (word Else) (sign m (word Else) ∷ (sign k u ∷ m2)) els m1) (sym e) (block_after refl b), p)

    finally_not : word Else ≢ keyword Finally
    finally_not e = cc

    ends : {ts rest : List Lexeme} {fin : List Stm} → Afterwards (keyword Finally) (sign m (word Else) ∷ ts) fin rest → Clear (next_of rest) → ⊥
    ends nothing_after n = n (inl refl)
    ends (block_after e k) n = finally_not e

    last : (fin els : List Stm) {s : Stm} {mid rest : List Lexeme} → Is (the_try l body hs els fin) mid s rest → Clear (next_of rest) → Clear (next_of mid)
    last fin els is n = n

    out : {ts rest : List Lexeme} {s : Stm} → Closing l body hs (sign m (word Else) ∷ ts) s rest → Clear (next_of rest) → Then Suite (λ els. Finishing l body hs els) ts s rest
    out (els, mid, nothing_after, (fin, end, p, i)) n = absurd (ends p (last fin els i n))
    out (els, mid, block_after e b, p) n = (els, mid, (_, _, the refl, b), p)

pub else_none : (l : ℕ) (body : List Stm) (hs : List OneHandler) (ts : List Lexeme) → sign_at (next_of ts) ≢ Some (word Else)
    → Narrows ts (left a_compound (Finishing l body hs [])) (left a_compound (Closing l body hs))
else_none l body hs ts n = record { into = λ more s rest k. ([], more, nothing_after, k); out = λ more s rest a k m. (out (not_sign ts a n) k, m); stop = λ s o m. m; up = λ s f. f; down = λ s f. f }
  where
    out : {more rest : List Lexeme} {s : Stm} → sign_at (next_of more) ≢ Some (word Else) → Closing l body hs more s rest → Finishing l body hs [] more s rest
    out m (els, mid, nothing_after, p) = p
    out m (els, mid, block_after e b, p) = absurd (m (ap (λ u. Some u) e))

-- where a word was not taken
pub closing_carries : {P : Part Lexeme Stm} {ts mid rest : List Lexeme} (l : ℕ) (body : List Stm) (b : Bool) (hs : List OneHandler) → Carries P ts (left a_compound (Handled l body b hs)) mid
    → (sign_at (next_of mid) ≢ Some (keyword Except)) × (rest ≡ mid) → Carries P ts (left a_compound (Closing l body hs)) rest
closing_carries {P} {ts} {mid} l body b hs c n = subst (λ u. Carries P ts (left a_compound (Closing l body hs)) u) (sym n.1) (then_on c (narrow_carries (closing_narrows l body b hs mid (inr n.0))))

pub last_carries : {P : Part Lexeme Stm} {ts mid : List Lexeme} (l : ℕ) (body : List Stm) (b : Bool) (hs : List OneHandler) → Carries P ts (left a_compound (Handled l body b hs)) mid → b ≡ false
    → Carries P ts (left a_compound (Closing l body hs)) mid
last_carries {mid = mid} l body b hs c e = then_on c (narrow_carries (closing_narrows l body b hs mid (inl e)))

pub finishing_carries : {P : Part Lexeme Stm} {ts mid rest : List Lexeme} (l : ℕ) (body : List Stm) (hs : List OneHandler) → Carries P ts (left a_compound (Closing l body hs)) mid
    → (sign_at (next_of mid) ≢ Some (word Else)) × (rest ≡ mid) → Carries P ts (left a_compound (Finishing l body hs [])) rest
finishing_carries {P} {ts} {mid} l body hs c n = subst (λ u. Carries P ts (left a_compound (Finishing l body hs [])) u) (sym n.1) (then_on c (narrow_carries (else_none l body hs mid n.0)))
