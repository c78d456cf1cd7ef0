-- How what is left of a simple statement goes on.
use Rattle.std.proofs.Common.{◌≡◌, ◌≢◌, ℕ, List, [], ◌∷◌, ◌++◌, Option, Some, None, Bool, true, false, inl, inr, refl, sym, ◌∙◌, ap, subst, ◌<◌, arith}
use Rattle.pt_wide.specs.Syntax as S
use Rattle.pt_wide.specs.Syntax.{Exp, Opt, Stm}
use Rattle.pt_readers.specs.Reading.{next_of, behind, Part, Alike, Found, Refused, Carries, Within}
use Rattle.pt_readers.proofs.Readers.{Binds, Shifts, Narrows, left, bad_refused}
use Rattle.pt_grammar.specs.declared.sign.Sign.{Sign}
use Rattle.pt_grammar.specs.declared.sign.Sign.TheVariants.{Mark as mark, Word as word, Keyword as keyword}
use Rattle.pt_grammar.specs.declared.sign.Mark.TheVariants.{Comma}
use Rattle.pt_grammar.specs.declared.sign.Keyword.{Keyword}
use Rattle.pt_grammar.specs.declared.sign.Keyword.TheVariants.{Assert, Break, Continue, Del, Global, Import, Nonlocal, Pass, Raise, Return}
use Rattle.pt_grammar.specs.declared.sign.Word.TheVariants.{From}
use Rattle.pt_grammar.specs.Lexemes.{Lexeme, name, int, str, f_text, sign, unknown, sign_at}
use Rattle.pt_grammar.specs.declared.part.Part.TheVariants.{Whole, Target}
use Rattle.pt_grammar.specs.Nodes.{Listed}
use Rattle.pt_grammar.specs.Parts.{IsComma, StopsItems, item_rank, last_of}
use Rattle.pt_grammar.specs.Signs.{begins_sign, begins_item}
use Rattle.pt_wide.specs.Fold.{all_of}
use Rattle.pt_parser.specs.Forms.{Reads, Is, is, Then, Optional, an_optional}
use Rattle.pt_parser.specs.Simple.{Behind, Nothing, ImportedFrom, AssignmentOrExpression, annotated, augmented, assigned, only_value, Simple, keyword_statement, imported_from, assignment_or_expression, comma, an_expression, expressions, several_places, Returned, returned_nothing, returned, Raised, raised_again, raised}
use Rattle.pt_parser.specs.Limits.{FitsExp, FitsOpt, FitsTargets, FitsStm}
use Rattle.pt_parser.specs.Parts.{IsEnd, keyword_in, a_list, a_simple}
use Rattle.pt_parser.proofs.Chains.{Ready, ready_is, ready_then, within_all, within_one, within_two, Follows, chain}
use Rattle.pt_parser.proofs.Follow.{Follow, Begins, begins_not, values_begins, place_value, target_value, expr_begins, expressions_begins, follow_stops, expr_follow, expr_comma, expr_ready, optional_ready, optional_follow}
use Rattle.pt_parser.proofs.Ends.{end_follow, end_items, end_not, not_end}

-- an optional expression before the end
pub optional_end : {s : Sign} (o : Opt) (next : Option Lexeme) → IsEnd next → (IsEnd next → sign_at next ≢ Some s) → (an_optional s an_expression).stops o next
optional_end S.absent next e n = n e
optional_end (S.given v) next e n = expr_follow v next (end_follow next e)

pub not_comma : (next : Option Lexeme) → IsEnd next → sign_at next ≢ Some comma
not_comma next e = end_not next e (λ k. cc) (λ k. cc)

-- "assert" expr [ "," expr ]
abbrev pub Message : ℕ → Exp → Reads Stm
Message l e = Then (Optional comma an_expression.reads) (λ m. Is (S.assert l e m))

pub assert_test : (l : ℕ) → Binds an_expression (Message l) (left a_simple (Then an_expression.reads (Message l)))
assert_test l = chain a_simple an_expression (Message l) record {
  apart = λ e mid x rest k n. optional_follow (k.2) (an_expression.stops e) (apart e k.3 n) (λ m. expr_comma e m);
  down = λ e mid x rest k f. down k f;
  ready = λ over e f. ready_then FitsStm over (an_optional comma an_expression) (λ m. Is (S.assert l e m)) (optional_ready comma an_expression over)
      (λ m g. ready_is FitsStm over _ (within_two FitsExp FitsOpt FitsStm over e m (S.assert l e m) (λ f g. (f, g)) f g));
}
  where
    apart : (e : Exp) {m : Opt} {mid rest : List Lexeme} {x : Stm} → Is (S.assert l e m) mid x rest → IsEnd (next_of rest) → an_expression.stops e (next_of mid)
    apart e is n = expr_follow e _ (end_follow _ n)

    down : {e : Exp} {mid rest : List Lexeme} {x : Stm} → Message l e mid x rest → FitsStm x → FitsExp e
    down (m, mid, o, is) f = f.0

pub assert_message : (l : ℕ) (e : Exp) → FitsExp e → Binds (an_optional comma an_expression) (λ m. Is (S.assert l e m)) (left a_simple (Message l e))
assert_message l e fe = chain a_simple (an_optional comma an_expression) (λ m. Is (S.assert l e m)) record {
  apart = λ m mid x rest i n. apart m i n;
  down = λ m mid x rest i f. down i f;
  ready = λ over m g. ready_is FitsStm over _ (within_one FitsOpt FitsStm over m (S.assert l e m) (λ g. (fe, g)) g);
}
  where
    apart : (m : Opt) {mid rest : List Lexeme} {x : Stm} → Is (S.assert l e m) mid x rest → IsEnd (next_of rest) → (an_optional comma an_expression).stops m (next_of mid)
    apart m is n = optional_end m _ n (not_comma _)

    down : {m : Opt} {mid rest : List Lexeme} {x : Stm} → Is (S.assert l e m) mid x rest → FitsStm x → FitsOpt m
    down is f = f.1

-- names up to the end
pub listed_binds : {A : Type 0} (Q : Part Lexeme A) (f : List A → Stm) → ((xs : List A) → FitsStm (f xs)) → Binds (a_list Q) (λ xs. Is (f xs)) (left a_simple (Then (a_list Q).reads (λ xs. Is (f xs))))
listed_binds {A} Q f fits = chain a_simple (a_list Q) (λ xs. Is (f xs)) record {
  apart = λ xs mid s rest k e. apart k e;
  down = λ xs mid s rest k g. tt;
  ready = λ over xs g. ready_is FitsStm over (f xs) (within_all FitsStm over (f xs) (fits xs));
}
  where
    apart : {xs : List A} {s : Stm} {ts rest : List Lexeme} → Is (f xs) ts s rest → IsEnd (next_of rest) → IsEnd (next_of ts)
    apart is e = e

-- targets with commas between them, before the end
rank_low : (e : Exp) → item_rank Target e < 12
rank_low (S.starred l e) = omega arith
rank_low _ = omega arith

end_no_comma : (o : Option Lexeme) → IsEnd o → IsComma o → ⊥
end_no_comma (Some (sign l (mark Comma))) e c = end_not {s = mark Comma} (Some (sign l (mark Comma))) e (λ k. cc) (λ k. cc) refl
end_no_comma _ e c = absurd c

begins_at : {s : Sign} (o : Option Lexeme) → sign_at o ≡ Some s → begins_sign Target s ≡ false → begins_item Target o ≡ false
begins_at {s} (Some (sign l u)) h f = let e : s ≡ u = cc in subst (λ v. begins_sign Target v ≡ false) e f
begins_at None h f = cc
begins_at (Some (name l x)) h f = cc
begins_at (Some (int l n)) h f = cc
begins_at (Some (str l x)) h f = cc
begins_at (Some (f_text l x)) h f = cc
begins_at (Some (unknown l)) h f = cc

end_stops : (b : Bool) (es : List Exp) (o : Option Lexeme) → IsEnd o → StopsItems Target b es o
end_stops true es o (inl h) = begins_at o h refl
end_stops true es o (inr h) = begins_at o h refl
end_stops false [] o e = end_no_comma o e
end_stops false (x ∷ es) o e = (follow_stops (item_rank Target (last_of x es)) (last_of x es) o (rank_low (last_of x es)) (end_follow o e), end_no_comma o e)

-- "del" targets
pub del_binds : (l : ℕ) → Binds several_places (λ x. Is (S.del l (all_of x.items))) (left a_simple (Then several_places.reads (λ x. Is (S.del l (all_of x.items)))))
del_binds l = chain a_simple several_places (λ x. Is (S.del l (all_of x.items))) record {
  apart = λ x mid s rest k e. apart x k e;
  down = λ x mid s rest k f. down x k f;
  ready = λ over x f. ready_is FitsStm over _ (within_one several_places.fits FitsStm over x (S.del l (all_of x.items)) (λ f. f) f);
}
  where
    apart : (x : Listed) {s : Stm} {ts rest : List Lexeme} → Is (S.del l (all_of x.items)) ts s rest → IsEnd (next_of rest) → several_places.stops x (next_of ts)
    apart x is e = end_stops x.comma x.items _ e

    down : (x : Listed) {s : Stm} {ts rest : List Lexeme} → Is (S.del l (all_of x.items)) ts s rest → FitsStm s → several_places.fits x
    down x is f = f

-- no expression begins with the end of a statement
pub begins_no_end : (o : Option Lexeme) → Begins o → IsEnd o → ⊥
begins_no_end o b (inl h) = begins_not o h b
begins_no_end o b (inr h) = begins_not o h b

pub alike_begins : {more : List Lexeme} (ts : List Lexeme) → Alike more ts → Begins (next_of more) → Begins (next_of ts)
alike_begins ts (inl e) b = subst Begins e b
alike_begins ts (inr e) b = absurd (subst (λ u. Begins (next_of u)) e b)

-- "return" [ exprs ]
abbrev pub Value : ℕ → Reads Stm
Value l = Then expressions.reads (λ e. Is (S.return l (S.given e)))

pub return_nothing : (l : ℕ) (ts : List Lexeme) → IsEnd (next_of ts) → Narrows ts (left a_simple (Is (S.return l S.absent))) (left a_simple (Returned l))
return_nothing l ts h = record { into = λ more s rest k. into k; out = λ more s rest a k e. (out a k, e); stop = λ s o e. e; up = λ s f. f; down = λ s f. f }
  where
    into : {more rest : List Lexeme} {s : Stm} → Is (S.return l S.absent) more s rest → Returned l more s rest
    into is = returned_nothing

    out : {more rest : List Lexeme} {s : Stm} → Alike more ts → Returned l more s rest → Is (S.return l S.absent) more s rest
    out a returned_nothing = is
    out a (returned q) = absurd (begins_no_end _ (alike_begins ts a (expressions_begins q)) h)

pub return_value : (l : ℕ) (ts : List Lexeme) → (IsEnd (next_of ts) → ⊥) → Narrows ts (left a_simple (Value l)) (left a_simple (Returned l))
return_value l ts n = record { into = λ more s rest k. into k; out = λ more s rest a k e. (out a k e, e); stop = λ s o e. e; up = λ s f. f; down = λ s f. f }
  where
    into : {more rest : List Lexeme} {s : Stm} → Value l more s rest → Returned l more s rest
    into (e, mid, q, is) = returned q

    out : {more rest : List Lexeme} {s : Stm} → Alike more ts → Returned l more s rest → IsEnd (next_of rest) → Value l more s rest
    out a returned_nothing e = absurd (not_end ts a n e)
    out a (returned q) e = (_, _, q, is)

pub value_binds : (l : ℕ) → Binds expressions (λ e. Is (S.return l (S.given e))) (left a_simple (Value l))
value_binds l = chain a_simple expressions (λ e. Is (S.return l (S.given e))) record {
  apart = λ e mid s rest k n. apart e k n;
  down = λ e mid s rest k f. down k f;
  ready = λ over e f. ready_is FitsStm over _ (within_one FitsExp FitsStm over e (S.return l (S.given e)) (λ f. f) f);
}
  where
    apart : (e : Exp) {s : Stm} {ts rest : List Lexeme} → Is (S.return l (S.given e)) ts s rest → IsEnd (next_of rest) → expressions.stops e (next_of ts)
    apart e is n = end_items Whole _ n

    down : {e : Exp} {s : Stm} {ts rest : List Lexeme} → Is (S.return l (S.given e)) ts s rest → FitsStm s → FitsExp e
    down is f = f

-- "raise" [ expr [ "from" expr ] ]
abbrev pub Cause : ℕ → Exp → Reads Stm
Cause l e = Then (Optional (word From) an_expression.reads) (λ c. Is (S.raise l e c))

abbrev pub Exception : ℕ → Reads Stm
Exception l = Then an_expression.reads (Cause l)

pub raise_nothing : (l : ℕ) (ts : List Lexeme) → IsEnd (next_of ts) → Narrows ts (left a_simple (Is (S.raise_again l))) (left a_simple (Raised l))
raise_nothing l ts h = record { into = λ more s rest k. into k; out = λ more s rest a k e. (out a k, e); stop = λ s o e. e; up = λ s f. f; down = λ s f. f }
  where
    into : {more rest : List Lexeme} {s : Stm} → Is (S.raise_again l) more s rest → Raised l more s rest
    into is = raised_again

    out : {more rest : List Lexeme} {s : Stm} → Alike more ts → Raised l more s rest → Is (S.raise_again l) more s rest
    out a raised_again = is
    out a (raised (e, mid, q, k)) = absurd (begins_no_end _ (alike_begins ts a (expr_begins q)) h)

pub raise_exception : (l : ℕ) (ts : List Lexeme) → (IsEnd (next_of ts) → ⊥) → Narrows ts (left a_simple (Exception l)) (left a_simple (Raised l))
raise_exception l ts n = record { into = λ more s rest k. raised k; out = λ more s rest a k e. (out a k e, e); stop = λ s o e. e; up = λ s f. f; down = λ s f. f }
  where
    out : {more rest : List Lexeme} {s : Stm} → Alike more ts → Raised l more s rest → IsEnd (next_of rest) → Exception l more s rest
    out a raised_again e = absurd (not_end ts a n e)
    out a (raised k) e = k

pub exception_binds : (l : ℕ) → Binds an_expression (Cause l) (left a_simple (Exception l))
exception_binds l = chain a_simple an_expression (Cause l) record {
  apart = λ e mid x rest k n. optional_follow k.2 (an_expression.stops e) (apart e k.3 n) (λ m. expr_follow e _ tt);
  down = λ e mid x rest k f. down k f;
  ready = λ over e f. ready_then FitsStm over (an_optional (word From) an_expression) (λ c. Is (S.raise l e c)) (optional_ready (word From) an_expression over)
      (λ m g. ready_is FitsStm over _ (within_two FitsExp FitsOpt FitsStm over e m (S.raise l e m) (λ f g. (f, g)) f g));
}
  where
    apart : (e : Exp) {m : Opt} {mid rest : List Lexeme} {x : Stm} → Is (S.raise l e m) mid x rest → IsEnd (next_of rest) → an_expression.stops e (next_of mid)
    apart e is n = expr_follow e _ (end_follow _ n)

    down : {e : Exp} {mid rest : List Lexeme} {x : Stm} → Cause l e mid x rest → FitsStm x → FitsExp e
    down (m, mid, o, is) f = f.0

pub cause_binds : (l : ℕ) (e : Exp) → FitsExp e → Binds (an_optional (word From) an_expression) (λ c. Is (S.raise l e c)) (left a_simple (Cause l e))
cause_binds l e fe = chain a_simple (an_optional (word From) an_expression) (λ c. Is (S.raise l e c)) record {
  apart = λ m mid x rest i n. apart m i n;
  down = λ m mid x rest i f. down i f;
  ready = λ over m g. ready_is FitsStm over _ (within_one FitsOpt FitsStm over m (S.raise l e m) (λ g. (fe, g)) g);
}
  where
    apart : (m : Opt) {mid rest : List Lexeme} {x : Stm} → Is (S.raise l e m) mid x rest → IsEnd (next_of rest) → (an_optional (word From) an_expression).stops m (next_of mid)
    apart m is n = optional_end m _ n (λ h. end_not _ h (λ k. cc) (λ k. cc))

    down : {m : Opt} {mid rest : List Lexeme} {x : Stm} → Is (S.raise l e m) mid x rest → FitsStm x → FitsOpt m
    down is f = f.1

-- no keyword of a statement, and no `from`, begins a value
stated_begins : {ts rest : List Lexeme} {s : Stm} → AssignmentOrExpression ts s rest → Begins (next_of ts)
stated_begins (annotated q k) = values_begins (place_value q)
stated_begins (augmented q p) = values_begins (place_value q)
stated_begins (assigned q a) = values_begins (target_value q)
stated_begins (only_value q) = values_begins q

pub keyword_shifts : (l : ℕ) (k : Keyword) → Shifts (sign l (keyword k)) (left a_simple (Behind l k)) a_simple
keyword_shifts l k = record { intro = λ ts s rest b. keyword_statement b; inv = λ ts s rest q n. (out q, n); stop = λ s o n. n; up = λ s f. f; down = λ s f. f }
  where
    out : {ts rest : List Lexeme} {s : Stm} → Simple (sign l (keyword k) ∷ ts) s rest → Behind l k ts s rest
    out (keyword_statement b) = b
    out (assignment_or_expression q) = absurd (stated_begins q)

pub from_shifts : (l : ℕ) → Shifts (sign l (word From)) (left a_simple (ImportedFrom l)) a_simple
from_shifts l = record { intro = λ ts s rest b. imported_from b; inv = λ ts s rest q n. (out q, n); stop = λ s o n. n; up = λ s f. f; down = λ s f. f }
  where
    out : {ts rest : List Lexeme} {s : Stm} → Simple (sign l (word From) ∷ ts) s rest → ImportedFrom l ts s rest
    out (imported_from b) = b
    out (assignment_or_expression q) = absurd (stated_begins q)

pub stated_narrows : (ts : List Lexeme) → keyword_in (sign_at (next_of ts)) ≡ None → sign_at (next_of ts) ≢ Some (word From) → Narrows ts (left a_simple AssignmentOrExpression) a_simple
stated_narrows ts m n = record { into = λ more s rest k. assignment_or_expression k; out = λ more s rest a k e. (out a k, e); stop = λ s o e. e; up = λ s f. f; down = λ s f. f }
  where
    no_keyword : {k : Keyword} → Some k ≡ keyword_in (sign_at (next_of ts)) → ⊥
    no_keyword h = cc

    out : {more rest : List Lexeme} {s : Stm} → Alike more ts → Simple more s rest → AssignmentOrExpression more s rest
    out a (assignment_or_expression k) = k
    out (inl a) (keyword_statement b) = absurd (no_keyword (ap (λ o. keyword_in (sign_at o)) a))
    out (inl a) (imported_from b) = absurd (n (sym (ap sign_at a)))
    out (inr a) (keyword_statement b) = cc
    out (inr a) (imported_from b) = cc

-- the other keywords begin no simple statement
not_led : (ts : List Lexeme) (s : Stm) (rest : List Lexeme) (l : ℕ) (k : Keyword) → k ≢ Pass → k ≢ Break → k ≢ Continue → k ≢ Return → k ≢ Raise → k ≢ Global → k ≢ Nonlocal → k ≢ Del → k ≢ Assert → k ≢ Import
    → Behind l k ts s rest → ⊥
not_led ts s rest l Pass a b c d e f g h i j q = a refl
not_led ts s rest l Break a b c d e f g h i j q = b refl
not_led ts s rest l Continue a b c d e f g h i j q = c refl
not_led ts s rest l Return a b c d e f g h i j q = d refl
not_led ts s rest l Raise a b c d e f g h i j q = e refl
not_led ts s rest l Global a b c d e f g h i j q = f refl
not_led ts s rest l Nonlocal a b c d e f g h i j q = g refl
not_led ts s rest l Del a b c d e f g h i j q = h refl
not_led ts s rest l Assert a b c d e f g h i j q = i refl
not_led ts s rest l Import a b c d e f g h i j q = j refl
not_led ts s rest l _ a b c d e f g h i j q = nothing_is q
  where
    nothing_is : Nothing ts s rest → ⊥
    nothing_is = elim [ ]

pub led_bad : (l : ℕ) (k : Keyword) (ts : List Lexeme) → next_of ts ≡ Some (sign l (keyword k))
    → k ≢ Pass → k ≢ Break → k ≢ Continue → k ≢ Return → k ≢ Raise → k ≢ Global → k ≢ Nonlocal → k ≢ Del → k ≢ Assert → k ≢ Import → Refused a_simple false ts ts
led_bad l k ts at a b c d e f g h i j = bad_refused a_simple ts (λ more r s rest q n. out r q) (sign 0 (keyword Pass) ∷ []) (S.pass 0) tt (λ z. keyword_statement is)
  where
    by_sign : {more rest : List Lexeme} {s : Stm} → sign_at (next_of more) ≡ Some (keyword k) → Simple more s rest → ⊥
    by_sign u (keyword_statement {k = k'} q) = let v : k ≡ k' = cc in not_led _ _ _ _ k' (λ w. a (v ∙ w)) (λ w. b (v ∙ w)) (λ w. c (v ∙ w)) (λ w. d (v ∙ w)) (λ w. e (v ∙ w)) (λ w. f (v ∙ w)) (λ w. g (v ∙ w)) (λ w. h (v ∙ w)) (λ w. i (v ∙ w)) (λ w. j (v ∙ w)) q
    by_sign u (imported_from q) = cc
    by_sign u (assignment_or_expression q) = begins_not _ u (stated_begins q)

    empty : {rest : List Lexeme} {s : Stm} (more : List Lexeme) → more ≡ [] → Simple more s rest → ⊥
    empty more u (keyword_statement q) = cc
    empty more u (imported_from q) = cc
    empty more u (assignment_or_expression q) = subst (λ v. Begins (next_of v)) u (stated_begins q)

    out : {more rest : List Lexeme} {s : Stm} → Alike more ts → Simple more s rest → ⊥
    out (inl u) q = by_sign (ap sign_at (u ∙ at)) q
    out {more = more} (inr u) q = empty more u q

-- the keywords that begin simple statements
abbrev pub Leads : Keyword → Type 0
Leads Pass = Unit {0}
Leads Break = Unit {0}
Leads Continue = Unit {0}
Leads Return = Unit {0}
Leads Raise = Unit {0}
Leads Global = Unit {0}
Leads Nonlocal = Unit {0}
Leads Del = Unit {0}
Leads Assert = Unit {0}
Leads Import = Unit {0}
Leads _ = ⊥

-- how a simple statement begins
abbrev pub BeginsSimple : Option Lexeme → Type 0
BeginsSimple (Some (sign l (keyword k))) = Leads k
BeginsSimple (Some (sign l (word From))) = Unit {0}
BeginsSimple o = Begins o

leads : (ts : List Lexeme) (s : Stm) (rest : List Lexeme) (l : ℕ) (k : Keyword) → Behind l k ts s rest → Leads k
leads ts s rest l Pass q = tt
leads ts s rest l Break q = tt
leads ts s rest l Continue q = tt
leads ts s rest l Return q = tt
leads ts s rest l Raise q = tt
leads ts s rest l Global q = tt
leads ts s rest l Nonlocal q = tt
leads ts s rest l Del q = tt
leads ts s rest l Assert q = tt
leads ts s rest l Import q = tt
leads ts s rest l _ q = nothing_is q
  where
    nothing_is : Nothing ts s rest → ⊥
    nothing_is = elim [ ]

begins_simple : (o : Option Lexeme) → Begins o → BeginsSimple o
begins_simple (Some (sign l (keyword k))) b = absurd b
begins_simple (Some (sign l (word From))) b = tt
begins_simple _ b = b

pub simple_begins : {ts rest : List Lexeme} {s : Stm} → Simple ts s rest → BeginsSimple (next_of ts)
simple_begins (keyword_statement {l = l} {k = k} q) = leads _ _ _ l k q
simple_begins (imported_from q) = tt
simple_begins (assignment_or_expression q) = begins_simple _ (stated_begins q)
