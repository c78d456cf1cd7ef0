-- How what parentheses hold goes on, with which the items of a `with` begin.
use Rattle.std.proofs.Common.{◌≡◌, ◌≢◌, ℕ, ◌-◌, ◌<◌, ◌≤◌, ◌⊎◌, List, [], ◌∷◌, ◌++◌, Option, Some, None, Bool, true, false, inl, inr, refl, sym, ◌∙◌, ap, subst, arith, append_assoc, length}
use Rattle.pt_wide.specs.Syntax as S
use Rattle.pt_wide.specs.Syntax.{Exp, Exps, Opt, absent, given}
use Rattle.pt_wide.specs.Fold.{all_of}
use Rattle.pt_wide.specs.Measure.{depth_exp, depth_all, width_all, count_exps}
use Rattle.pt_readers.specs.Reading.{next_of, behind, Part, Alike, Found, Refused, Carries, Within}
use Rattle.pt_readers.proofs.Readers.{Binds, Shifts, Narrows, left, bad_refused, nothing_found, Just, just, then_on, narrow_carries}
use Rattle.pt_readers.proofs.Pieces.{Through, through, Made, made, made_binds}
use Rattle.pt_readers.proofs.Exits.{over_refused_at, at_next}
use Rattle.pt_grammar.specs.declared.part.Part.TheVariants.{Whole, Target}
use Rattle.pt_grammar.specs.declared.sign.Sign.{Sign}
use Rattle.pt_grammar.specs.declared.sign.Sign.TheVariants.{Mark as mark, Word as word, Keyword as keyword}
use Rattle.pt_grammar.specs.declared.sign.Mark.TheVariants.{Open, Close, Comma}
use Rattle.pt_grammar.specs.declared.sign.Word.TheVariants.{For, In, Yield}
use Rattle.pt_grammar.specs.declared.sign.Keyword.TheVariants.{As}
use Rattle.pt_grammar.specs.Lexemes.{Lexeme, sign, sign_at, line_at}
use Rattle.pt_grammar.specs.Signs.{begins_item}
use Rattle.pt_grammar.specs.Grammar.{MoreItems, no_comma, last_comma, more_items, alone, operand, unstarred, starred, no_yield, a_yield, yield_none, clause, no_condition, no_clause, more_clauses, Clauses, Binary}
use Rattle.pt_grammar.specs.Nodes.{line_of, Listed, listed, OneClause, a_clause_of}
use Rattle.pt_grammar.specs.Behind.{IsSign, is_sign, Starting, starting, otherwise, by_clauses, InParentheses, generator_of, followed_end, followed_more}
use Rattle.pt_grammar.specs.Parts.{an_atom, a_bor, some_exprs, Fits, FitsItems, Stops, StopsItems, item_rank, ends_in_text, max_items}
use Rattle.pt_grammar.proofs.Begins.{some_name, some_exp, fits_name, name_expr, name_binary, name_disjunction, BeginsExpr, expr_begins as starts}
use Rattle.pt_grammar.proofs.Items.{expr_plain, items_list, item_begins, items_grow, count_more}
use Rattle.pt_grammar.proofs.Sequels.{starting_carries}
use Rattle.pt_grammar.proofs.Bares.{apart_sign, end_stops_items, bare_begins}
use Rattle.pt_grammar.specs.Behind.{Inside, nothing, something, generated}
use Rattle.pt_parser.specs.Forms.{Reads, Is, is, Then, The, the, Optional, UpTo, closed, separated, a_sign}
use Rattle.pt_parser.specs.Simple.{comma, an_expression, a_place, max_depth}
use Rattle.pt_parser.specs.Headings.{star_sign}
use Rattle.pt_parser.specs.Limits.{FitsExp}
use Rattle.pt_parser.specs.Parts.{Each, closing, a_with_item}
use Rattle.pt_parser.specs.With.{OneItem, item_of, WithItem, FitsItem}
use Rattle.pt_parser.specs.WithLeft.{Holding, targeted, plain, only, whole, plain_item, plain_items, Targeted, OfTuple, Starred, BehindExp, with_target, without, Sequel, closes, goes_on, Onward, closes_behind, next_star, next_exp, First, with_clauses, no_clauses, BeginsOnly, at_close, at_yield, at_star, OnlyNext, Held, no_items, some_exp as some_held, FitsHeld, what_is_held}
use Rattle.pt_parser.proofs.Tokens.{sign_next, not_sign}
use Rattle.pt_parser.proofs.Chains.{Ready, ready_is, within_one, within_all, Follows, chain}
use Rattle.pt_parser.proofs.Follow.{follow_at, follow_stops, expr_follow, expr_comma, place_ready}
use Rattle.pt_parser.proofs.UpTo.{each_snoc, each_before, each_behind, upto_keeps}
use Rattle.pt_parser.proofs.WithLemmas.{item_closable, as_expr, expr_ends, place_ends}
use Rattle.pt_parser.proofs.HeldLemmas.{fits_plain, plain_fits, tuple_fits}
use Rattle.pt_parser.proofs.HeldEnds.{only_no_expr}

-- what stands in parentheses of which an atom is made
abbrev pub an_inside : (Lexeme → Type 0) → Reads Exp → Part Lexeme Exp
an_inside J K = record { reads = Starting J K; stops = λ a next. Unit {0}; fits = FitsExp }

-- Where this token of J is next, what reads K decides it.
pub inside_carries : (J : Lexeme → Type 0) (K : Reads Exp) → ((ts : List Lexeme) (x : Exp) (rest : List Lexeme) → K ts x rest → ends_in_text x ≡ false) → (t : Lexeme) → J t
    → ((x : Exp) → K [] x [] → ⊥) → (w : List Lexeme) (x : Exp) → K (t ∷ w) x [] → FitsExp x → (ts : List Lexeme) → next_of ts ≡ Some t → Carries (an_inside J K) ts (left (an_atom 500) K) ts
inside_carries J K ends t j none w x k f ts h =
    then_on (starting_carries closed_part J t j (λ y q n. none y q) w [] x k tt f ts h) (narrow_carries whole)
  where
    closed_part : Part Lexeme Exp
    closed_part = record { reads = K; stops = λ a next. Unit {0}; fits = FitsExp }

    whole : Narrows ts (left (an_atom 500) K) closed_part
    whole = record { into = λ more y rest q. q; out = λ more y rest a q n. (q, rw (ends more y rest q) tt); stop = λ y o n. tt; up = λ y g. g; down = λ y g. g }

inside_text : (l : ℕ) (ts : List Lexeme) (x : Exp) (rest : List Lexeme) → Inside l ts x rest → ends_in_text x ≡ false
inside_text l ts x rest nothing = refl
inside_text l ts x rest (something k) = refl
inside_text l ts x rest (generated q k) = refl

inside_none : (l : ℕ) (x : Exp) → Inside l [] x [] → ⊥
inside_none l x (something (no_yield k)) = let h = bare_begins k in cc
inside_none l x (generated q k) = let h = item_begins (unstarred q) in cc

-- where only an atom can begin
pub only_carries : (l : ℕ) (ts : List Lexeme) → OnlyNext (next_of ts) → Carries (an_inside BeginsOnly (Inside l)) ts (left (an_atom 500) (Inside l)) ts
only_carries l ts (inl h) = inside_carries BeginsOnly (Inside l) (inside_text l) _ at_close (inside_none l) [] (S.parenthesized l (S.tuple l S.no_exps)) nothing (omega arith, omega arith) ts (sign_next ts h)
only_carries l ts (inr (inl h)) = inside_carries BeginsOnly (Inside l) (inside_text l) (sign k (word Yield)) at_yield (inside_none l) (sign 0 (mark Close) ∷ []) (S.parenthesized l (S.yield k absent))
    (something (a_yield yield_none)) (omega arith, omega arith) ts (sign_next ts h)
  where
    k : ℕ
    k = line_at (next_of ts)
only_carries l ts (inr (inr h)) = inside_carries BeginsOnly (Inside l) (inside_text l) (sign k star_sign) at_star (inside_none l) (some_name ∷ (sign 0 (mark Close) ∷ [])) (S.parenthesized l (S.starred k some_exp))
    (something (no_yield (alone (starred (name_binary 6))))) (omega arith, omega arith) ts (sign_next ts h)
  where
    k : ℕ
    k = line_at (next_of ts)

begins_at : (ts : List Lexeme) → OnlyNext (next_of ts) → (t : Lexeme) × (next_of ts ≡ Some t) × BeginsOnly t
begins_at ts (inl h) = (_, sign_next ts h, at_close)
begins_at ts (inr (inl h)) = (_, sign_next ts h, at_yield)
begins_at ts (inr (inr h)) = (_, sign_next ts h, at_star)

some_first : {ts rest : List Lexeme} {e : Exp} (t : Lexeme) → next_of ts ≡ Some t → BeginsOnly t → an_expression.reads ts e rest → ⊥
some_first {ts} {rest} {e} t h j q = only_no_expr j (subst (λ u. an_expression.reads u e rest) (at_next ts h) q)

none_first : {ts rest : List Lexeme} {e : Exp} → ts ≡ [] → an_expression.reads ts e rest → ⊥
none_first h q = let b = sym (item_begins (unstarred q)) ∙ ap (λ u. begins_item Whole (next_of u)) h in cc

pub only_narrows : (l : ℕ) (ts : List Lexeme) → OnlyNext (next_of ts) → Narrows ts (left (what_is_held l) (Made (an_inside BeginsOnly (Inside l)) only)) (what_is_held l)
only_narrows l ts n = record { into = λ more c rest k. into k; out = λ more c rest a k m. (out a k, tt); stop = λ c o m. tt; up = λ c f. f; down = λ c f. f }
  where
    into : {more rest : List Lexeme} {c : Holding} → Made (an_inside BeginsOnly (Inside l)) only more c rest → Held l more c rest
    into (made k) = no_items k

    never : {more rest : List Lexeme} {e : Exp} → Alike more ts → an_expression.reads more e rest → ⊥
    never (inl h) q = let b = begins_at ts n in some_first b.0 (h ∙ b.1) b.2 q
    never (inr h) q = none_first h q

    out : {more rest : List Lexeme} {c : Holding} → Alike more ts → Held l more c rest → Made (an_inside BeginsOnly (Inside l)) only more c rest
    out a (no_items k) = made k
    out a (some_held q k) = absurd (never a q)

pub only_binds : (l : ℕ) (J : Lexeme → Type 0) (K : Reads Exp) → Binds (an_inside J K) (λ a. Just (only a)) (left (what_is_held l) (Made (an_inside J K) only))
only_binds l J K = made_binds (what_is_held l) (an_inside J K) only (λ a o n. tt) (λ a f. f) (λ a f. f)

-- the first expression
close_follows : (e : Exp) (l m k : ℕ) (es : List Exp) {c : Holding} {ts rest : List Lexeme} → Sequel l m es ts c rest → an_expression.stops e (next_of ts)
close_follows e l m k es (closes {k = j}) = expr_ends e j (mark Close) tt
close_follows e l m k es (goes_on {k = j} o) = expr_ends e j comma tt

exp_follows : (e : Exp) (l m : ℕ) (es : List Exp) (d : Exp) {c : Holding} {ts rest : List Lexeme} → BehindExp l m es d ts c rest → an_expression.stops e (next_of ts)
exp_follows e l m es d (with_target {k = k} t) = as_expr e k refl
exp_follows e l m es d (without s) = close_follows e l m 0 (es ++ (d ∷ [])) s

targets_keep : (es : List Exp) (e : Exp) {c : Holding} {ts rest : List Lexeme} → Targeted es e ts c rest → FitsHeld c → Each FitsExp (es ++ (e ∷ []))
targets_keep es e (t, us, p, (js, vs, u, is)) f =
    let g = upto_keeps comma (mark Close) a_with_item item_closable (plain_items es ++ (item_of e (given t) ∷ [])) u f in
    each_snoc FitsExp es e (plain_fits es (each_before FitsItem (plain_items es) (item_of e (given t) ∷ []) g)) (each_behind FitsItem (plain_items es) (item_of e (given t) ∷ []) g).0.0

tuple_keeps : (l m : ℕ) (es : List Exp) {c : Holding} {ts rest : List Lexeme} → OfTuple l m es ts c rest → FitsHeld c → FitsItems 499 es
tuple_keeps l m es (x, us, k, (j, vs, the h, is)) f = (items_list Whole 499).shrinks es _ _ _ k (omega (arith, f.0), omega (arith, f.1), omega (arith, f.1))

items_each : (es : List Exp) → FitsItems 499 es → Each FitsExp es
items_each [] f = tt
items_each (e ∷ es) f = ((omega (arith, f.0), omega (arith, f.1)), items_each es (omega (arith, f.0), omega (arith, f.1), omega (arith, f.2)))

star_keeps : (l m k : ℕ) (es : List Exp) {c : Holding} {ts rest : List Lexeme} → Starred l m k es ts c rest → FitsHeld c → Each FitsExp es
star_keeps l m k es (e, us, q, t) f = each_before FitsExp es (S.starred k e ∷ []) (items_each (es ++ (S.starred k e ∷ [])) (tuple_keeps l m (es ++ (S.starred k e ∷ [])) t f))

mutual
  exp_keeps : (l m : ℕ) (es : List Exp) (e : Exp) {c : Holding} {ts rest : List Lexeme} → BehindExp l m es e ts c rest → FitsHeld c → Each FitsExp (es ++ (e ∷ []))
  exp_keeps l m es e (with_target t) f = targets_keep es e t f
  exp_keeps l m es e (without s) f = sequel_keeps l m (es ++ (e ∷ [])) s f

  sequel_keeps : (l m : ℕ) (es : List Exp) {c : Holding} {ts rest : List Lexeme} → Sequel l m es ts c rest → FitsHeld c → Each FitsExp es
  sequel_keeps l m es closes f = f
  sequel_keeps l m es (goes_on o) f = onward_keeps l m es o f

  onward_keeps : (l m : ℕ) (es : List Exp) {c : Holding} {ts rest : List Lexeme} → Onward l m es ts c rest → FitsHeld c → Each FitsExp es
  onward_keeps l m es closes_behind f = f
  onward_keeps l m es (next_star {k = k} t) f = star_keeps l m k es t f
  onward_keeps l m es (next_exp {e = e} q k) f = each_before FitsExp es (e ∷ []) (exp_keeps l m es e k f)

first_keeps : (l : ℕ) (e : Exp) {c : Holding} {ts rest : List Lexeme} → First l e ts c rest → FitsHeld c → FitsExp e
first_keeps l e (with_clauses (starting is_sign (by_clauses r (cs, vs, k, through is_sign just)))) f = (omega (arith, f.0), omega (arith, f.1))
first_keeps l e (with_clauses (starting is_sign (otherwise (y, vs, followed_end, through j just)))) f = f
first_keeps l e (no_clauses k) f = (exp_keeps l (line_of e) [] e k f).0

first_follows : (l : ℕ) (e : Exp) {c : Holding} {ts rest : List Lexeme} → First l e ts c rest → an_expression.stops e (next_of ts)
first_follows l e (with_clauses (starting (is_sign {l = k}) j)) = (omega arith, apart_sign (ends_in_text e) k (word For) (λ h. cc))
first_follows l e (no_clauses k) = exp_follows e l (line_of e) [] e k

pub exp_narrows : (l : ℕ) (ts : List Lexeme) → (OnlyNext (next_of ts) → ⊥) → Narrows ts (left (what_is_held l) (Then an_expression.reads (First l))) (what_is_held l)
exp_narrows l ts n = record { into = λ more c rest k. some_held k.2 k.3; out = λ more c rest a k m. (out a k, tt); stop = λ c o m. tt; up = λ c f. f; down = λ c f. f }
  where
    begun : {t : Lexeme} → BeginsOnly t → OnlyNext (Some t)
    begun at_close = inl refl
    begun at_yield = inr (inl refl)
    begun at_star = inr (inr refl)

    out : {more rest : List Lexeme} {c : Holding} → Alike more ts → Held l more c rest → Then an_expression.reads (First l) more c rest
    out (inl h) (no_items (starting j k)) = absurd (n (subst OnlyNext h (begun j)))
    out (inr h) (no_items (starting j k)) = cc
    out a (some_held q k) = (_, _, q, k)

pub exp_binds : (l : ℕ) → Binds an_expression (First l) (left (what_is_held l) (Then an_expression.reads (First l)))
exp_binds l = chain (what_is_held l) an_expression (First l) record {
  apart = λ e mid c rest k n. first_follows l e k;
  down = λ e mid c rest k f. first_keeps l e k f;
  ready = λ over e f. record { word = sign 0 (mark Close) ∷ []; done = plain (line_of e) (e ∷ []) false; fits = within_one FitsExp FitsHeld over e (plain (line_of e) (e ∷ []) false) (λ f. (f, tt)) f; reads = λ z. no_clauses (without closes) };
}

-- clauses
some_clauses : (k : ℕ) (z : List Lexeme) → Clauses [] (sign k (word For) ∷ (some_name ∷ (sign 0 (word In) ∷ (some_name ∷ z)))) (a_clause_of k some_exp some_exp [] ∷ []) z
some_clauses k z = more_clauses (clause (alone (operand (name_binary 6))) name_disjunction no_condition) no_clause

generated_by : (l k : ℕ) (e : Exp) (z : List Lexeme) → item_rank Whole e ≡ 11
    → InParentheses l e (sign k (word For) ∷ (some_name ∷ (sign 0 (word In) ∷ (some_name ∷ (sign 0 (mark Close) ∷ z))))) (generator_of l e (a_clause_of k some_exp some_exp [] ∷ [])) z
generated_by l k e z r = by_clauses r (_, _, starting is_sign (some_clauses k (sign 0 (mark Close) ∷ z)), through is_sign just)

exp_marks : (l m : ℕ) (es : List Exp) (e : Exp) {c : Holding} {ts rest : List Lexeme} → BehindExp l m es e ts c rest → sign_at (next_of ts) ≢ Some (word For)
exp_marks l m es e (with_target t) h = cc
exp_marks l m es e (without closes) h = cc
exp_marks l m es e (without (goes_on o)) h = cc

pub for_narrows : (l : ℕ) (e : Exp) (ts : List Lexeme) → sign_at (next_of ts) ≡ Some (word For) → Narrows ts (left (what_is_held l) (Made (an_inside (IsSign (word For)) (InParentheses l e)) only)) (left (what_is_held l) (First l e))
for_narrows l e ts h = record { into = λ more c rest k. into k; out = λ more c rest a k m. (out a k, tt); stop = λ c o m. tt; up = λ c f. f; down = λ c f. f }
  where
    into : {more rest : List Lexeme} {c : Holding} → Made (an_inside (IsSign (word For)) (InParentheses l e)) only more c rest → First l e more c rest
    into (made k) = with_clauses k

    none : {more rest : List Lexeme} {c : Holding} → more ≡ [] → BehindExp l (line_of e) [] e more c rest → ⊥
    none g (with_target t) = cc
    none g (without closes) = cc
    none g (without (goes_on o)) = cc

    out : {more rest : List Lexeme} {c : Holding} → Alike more ts → First l e more c rest → Made (an_inside (IsSign (word For)) (InParentheses l e)) only more c rest
    out a (with_clauses k) = made k
    out (inl g) (no_clauses k) = absurd (exp_marks l (line_of e) [] e k (ap sign_at g ∙ h))
    out (inr g) (no_clauses k) = absurd (none g k)

inner_text : (l : ℕ) (e : Exp) (ts : List Lexeme) (x : Exp) (rest : List Lexeme) → InParentheses l e ts x rest → ends_in_text x ≡ false
inner_text l e ts x rest (otherwise (y, us, k, through j just)) = refl
inner_text l e ts x rest (by_clauses r (cs, us, k, through j just)) = refl

inner_none : (l : ℕ) (e x : Exp) → InParentheses l e [] x [] → ⊥
inner_none l e x (otherwise (y, us, followed_end, k)) = none refl k
  where
    none : {us : List Lexeme} → us ≡ [] → Through (IsSign (mark Close)) (Just (S.parenthesized l e)) us x [] → ⊥
    none h (through j k) = cc
inner_none l e x (by_clauses r (cs, us, k, t)) = none refl k
  where
    none : {us vs : List Lexeme} {cs : List OneClause} → us ≡ [] → Starting (IsSign (word For)) (Clauses []) us cs vs → ⊥
    none h (starting j k) = cc

-- an expression is no item with a star
pub found_plain : {ts rest : List Lexeme} {e : Exp} → Found an_expression ts e rest → item_rank Whole e ≡ 11
found_plain {rest = rest} f = expr_plain (f.reads rest)

pub for_carries : (l : ℕ) (e : Exp) (ts : List Lexeme) → sign_at (next_of ts) ≡ Some (word For) → item_rank Whole e ≡ 11 → FitsExp e → depth_exp e < 500
    → Carries (an_inside (IsSign (word For)) (InParentheses l e)) ts (left (an_atom 500) (InParentheses l e)) ts
for_carries l e ts h r f d =
    inside_carries (IsSign (word For)) (InParentheses l e) (inner_text l e) (sign k (word For)) is_sign (inner_none l e) (some_name ∷ (sign 0 (word In) ∷ (some_name ∷ (sign 0 (mark Close) ∷ []))))
    (generator_of l e (a_clause_of k some_exp some_exp [] ∷ [])) (generated_by l k e [] r) (omega (arith, d), omega (arith, f.1)) ts (sign_next ts h)
  where
    k : ℕ
    k = line_at (next_of ts)

-- no room for a generator
pub first_over : (l : ℕ) (e : Exp) (ts : List Lexeme) → sign_at (next_of ts) ≡ Some (word For) → item_rank Whole e ≡ 11 → FitsExp e → 500 ≤ depth_exp e → Refused (left (what_is_held l) (First l e)) true ts ts
first_over l e ts h r f d = over_refused_at (left (what_is_held l) (First l e)) (sign k (word For)) ts (sign_next ts h) (λ more c rest j n g. dead j g)
    (some_name ∷ (sign 0 (word In) ∷ (some_name ∷ (sign 0 (mark Close) ∷ [])))) (only (generator_of l e (a_clause_of k some_exp some_exp [] ∷ []))) (λ z. with_clauses (starting is_sign (generated_by l k e z r)))
    (sign 0 (mark Close) ∷ []) (plain (line_of e) (e ∷ []) false) (f, tt) (λ z. no_clauses (without closes))
  where
    k : ℕ
    k = line_at (next_of ts)

    closing_for : {j : ℕ} → IsSign (mark Close) (sign j (word For)) → ⊥
    closing_for j = let g = other j in cc
      where
        other : {t : Lexeme} {s : Sign} → IsSign s t → sign_at (Some t) ≡ Some s
        other is_sign = refl

    dead : {more rest : List Lexeme} {c : Holding} → First l e (sign k (word For) ∷ more) c rest → FitsHeld c → ⊥
    dead (with_clauses (starting i (by_clauses r (cs, vs, j, through is_sign just)))) g = omega (arith, g.0, d)
    dead (with_clauses (starting i (otherwise (y, vs, followed_end, through j just)))) g = closing_for j
    dead (no_clauses j) g = exp_marks l (line_of e) [] e j refl

pub listed_narrows : (l : ℕ) (e : Exp) (ts : List Lexeme) → sign_at (next_of ts) ≢ Some (word For) → Narrows ts (left (what_is_held l) (BehindExp l (line_of e) [] e)) (left (what_is_held l) (First l e))
listed_narrows l e ts n = record { into = λ more c rest k. no_clauses k; out = λ more c rest a k m. (out (not_sign ts a n) k, tt); stop = λ c o m. tt; up = λ c f. f; down = λ c f. f }
  where
    out : {more rest : List Lexeme} {c : Holding} → sign_at (next_of more) ≢ Some (word For) → First l e more c rest → BehindExp l (line_of e) [] e more c rest
    out p (with_clauses (starting is_sign k)) = absurd (p refl)
    out p (no_clauses k) = k

pub each_on : (es fs : List Exp) (e : Exp) → Each FitsExp es → FitsExp e → fs ≡ es ++ (e ∷ []) → Each FitsExp fs
each_on es fs e f g h = subst (Each FitsExp) (sym h) (each_snoc FitsExp es e f g)

-- what is left behind an expression of those that parentheses hold
module _ (l m : ℕ) where
  abbrev pub Holds : Reads Holding → Part Lexeme Holding
  Holds K = left (what_is_held l) K

  sequel_marks : (es : List Exp) {c : Holding} {ts rest : List Lexeme} → Sequel l m es ts c rest → sign_at (next_of ts) ≢ Some (keyword As)
  sequel_marks es closes h = cc
  sequel_marks es (goes_on o) h = cc

  pub as_shifts : (es : List Exp) (e : Exp) (k : ℕ) → Shifts (sign k (keyword As)) (Holds (Targeted es e)) (Holds (BehindExp l m es e))
  as_shifts es e k = record { intro = λ ts c rest t. with_target t; inv = λ ts c rest t n. (out t, tt); stop = λ c o n. tt; up = λ c f. f; down = λ c f. f }
    where
      out : {ts rest : List Lexeme} {c : Holding} → BehindExp l m es e (sign k (keyword As) ∷ ts) c rest → Targeted es e ts c rest
      out (with_target t) = t
      out (without s) = absurd (sequel_marks (es ++ (e ∷ [])) s refl)

  pub without_narrows : (es : List Exp) (e : Exp) (ts : List Lexeme) → sign_at (next_of ts) ≢ Some (keyword As) → Narrows ts (Holds (Sequel l m (es ++ (e ∷ [])))) (Holds (BehindExp l m es e))
  without_narrows es e ts n = record { into = λ more c rest k. without k; out = λ more c rest a k s. (out (not_sign ts a n) k, tt); stop = λ c o s. tt; up = λ c f. f; down = λ c f. f }
    where
      out : {more rest : List Lexeme} {c : Holding} → sign_at (next_of more) ≢ Some (keyword As) → BehindExp l m es e more c rest → Sequel l m (es ++ (e ∷ [])) more c rest
      out p (with_target t) = absurd (p refl)
      out p (without s) = s

  pub close_shifts : (es : List Exp) (k : ℕ) → Shifts (sign k (mark Close)) (Holds (Is (plain m es false))) (Holds (Sequel l m es))
  close_shifts es k = record { intro = λ ts c rest i. into i; inv = λ ts c rest s n. (out s, tt); stop = λ c o n. tt; up = λ c f. f; down = λ c f. f }
    where
      into : {ts rest : List Lexeme} {c : Holding} → Is (plain m es false) ts c rest → Sequel l m es (sign k (mark Close) ∷ ts) c rest
      into is = closes

      out : {ts rest : List Lexeme} {c : Holding} → Sequel l m es (sign k (mark Close) ∷ ts) c rest → Is (plain m es false) ts c rest
      out closes = is

  pub comma_on : (es : List Exp) (k : ℕ) → Shifts (sign k comma) (Holds (Onward l m es)) (Holds (Sequel l m es))
  comma_on es k = record { intro = λ ts c rest o. goes_on o; inv = λ ts c rest s n. (out s, tt); stop = λ c o n. tt; up = λ c f. f; down = λ c f. f }
    where
      out : {ts rest : List Lexeme} {c : Holding} → Sequel l m es (sign k comma ∷ ts) c rest → Onward l m es ts c rest
      out (goes_on o) = o

  pub sequel_bad : (es : List Exp) (ts : List Lexeme) → Each FitsExp es → sign_at (next_of ts) ≢ Some (mark Close) → sign_at (next_of ts) ≢ Some comma → Refused (Holds (Sequel l m es)) false ts ts
  sequel_bad es ts f p q = bad_refused (Holds (Sequel l m es)) ts (λ more a c rest k n. out (not_sign ts a p) (not_sign ts a q) k) (sign 0 (mark Close) ∷ []) (plain m es false) f (λ z. closes)
    where
      out : {more rest : List Lexeme} {c : Holding} → sign_at (next_of more) ≢ Some (mark Close) → sign_at (next_of more) ≢ Some comma → Sequel l m es more c rest → ⊥
      out a b closes = a refl
      out a b (goes_on o) = b refl

  no_exp_at : {s : Sign} {k : ℕ} {ts rest : List Lexeme} {e : Exp} → BeginsOnly (sign k s) → an_expression.reads (sign k s ∷ ts) e rest → ⊥
  no_exp_at j q = only_no_expr j q

  pub behind_shifts : (es : List Exp) (k : ℕ) → Shifts (sign k (mark Close)) (Holds (Is (plain m es true))) (Holds (Onward l m es))
  behind_shifts es k = record { intro = λ ts c rest i. into i; inv = λ ts c rest s n. (out s, tt); stop = λ c o n. tt; up = λ c f. f; down = λ c f. f }
    where
      into : {ts rest : List Lexeme} {c : Holding} → Is (plain m es true) ts c rest → Onward l m es (sign k (mark Close) ∷ ts) c rest
      into is = closes_behind

      out : {ts rest : List Lexeme} {c : Holding} → Onward l m es (sign k (mark Close) ∷ ts) c rest → Is (plain m es true) ts c rest
      out closes_behind = is
      out (next_exp q t) = absurd (no_exp_at at_close q)

  pub star_shifts : (es : List Exp) (k : ℕ) → Shifts (sign k star_sign) (Holds (Starred l m k es)) (Holds (Onward l m es))
  star_shifts es k = record { intro = λ ts c rest t. next_star t; inv = λ ts c rest s n. (out s, tt); stop = λ c o n. tt; up = λ c f. f; down = λ c f. f }
    where
      out : {ts rest : List Lexeme} {c : Holding} → Onward l m es (sign k star_sign ∷ ts) c rest → Starred l m k es ts c rest
      out (next_star t) = t
      out (next_exp q t) = absurd (no_exp_at at_star q)

  pub next_narrows : (es : List Exp) (ts : List Lexeme) → sign_at (next_of ts) ≢ Some (mark Close) → sign_at (next_of ts) ≢ Some star_sign
      → Narrows ts (Holds (Then an_expression.reads (BehindExp l m es))) (Holds (Onward l m es))
  next_narrows es ts p q = record { into = λ more c rest k. next_exp k.2 k.3; out = λ more c rest a k s. (out (not_sign ts a p) (not_sign ts a q) k, tt); stop = λ c o s. tt; up = λ c f. f; down = λ c f. f }
    where
      out : {more rest : List Lexeme} {c : Holding} → sign_at (next_of more) ≢ Some (mark Close) → sign_at (next_of more) ≢ Some star_sign → Onward l m es more c rest → Then an_expression.reads (BehindExp l m es) more c rest
      out a b closes_behind = absurd (a refl)
      out a b (next_star t) = absurd (b refl)
      out a b (next_exp q t) = (_, _, q, t)

  pub next_exp_binds : (es : List Exp) → Each FitsExp es → Binds an_expression (BehindExp l m es) (Holds (Then an_expression.reads (BehindExp l m es)))
  next_exp_binds es f = chain (what_is_held l) an_expression (BehindExp l m es) record {
    apart = λ e mid c rest k n. exp_follows e l m es e k;
    down = λ e mid c rest k g. (each_behind FitsExp es (e ∷ []) (exp_keeps l m es e k g)).0;
    ready = λ over e g. record {
      word = sign 0 (mark Close) ∷ [];
      done = plain m (es ++ (e ∷ [])) false;
      fits = within_one FitsExp FitsHeld over e (plain m (es ++ (e ∷ [])) false) (λ g. each_snoc FitsExp es e f g) g;
      reads = λ z. without closes;
    };
  }

  -- a target
  pub place_binds : (es : List Exp) (e : Exp) → Each FitsExp es → FitsExp e
      → Binds a_place (λ t. Then (UpTo comma (mark Close) WithItem (plain_items es ++ (item_of e (given t) ∷ []))) (λ is. Is (targeted is))) (Holds (Targeted es e))
  place_binds es e f g = chain (what_is_held l) a_place (λ t. Then (UpTo comma (mark Close) WithItem (plain_items es ++ (item_of e (given t) ∷ []))) (λ is. Is (targeted is))) record {
    apart = λ t mid c rest k n. apart t k.2;
    down = λ t mid c rest k h. down t k h;
    ready = λ over t h. record {
      word = sign 0 (mark Close) ∷ [];
      done = targeted (plain_items es ++ (item_of e (given t) ∷ []));
      fits = within_one FitsExp FitsHeld over t (targeted (plain_items es ++ (item_of e (given t) ∷ []))) (λ h. each_snoc FitsItem (plain_items es) (item_of e (given t)) (fits_plain es f) (g, h)) h;
      reads = λ z. (_, _, closed refl, is);
    };
  }
    where
      apart : (t : Exp) {xs ys : List OneItem} {mid us : List Lexeme} → UpTo comma (mark Close) WithItem xs mid ys us → a_place.stops t (next_of mid)
      apart t (closed {l = k} h) = subst (λ u. a_place.stops t (Some (sign k u))) (sym h) (place_ends t k (mark Close) tt)
      apart t (separated {l = k} h o) = subst (λ u. a_place.stops t (Some (sign k u))) (sym h) (place_ends t k comma tt)

      down : (t : Exp) {c : Holding} {mid rest : List Lexeme} → Then (UpTo comma (mark Close) WithItem (plain_items es ++ (item_of e (given t) ∷ []))) (λ is. Is (targeted is)) mid c rest → FitsHeld c → FitsExp t
      down t (ys, us, u, is) h =
          (each_behind FitsItem (plain_items es) (item_of e (given t) ∷ []) (upto_keeps comma (mark Close) a_with_item item_closable (plain_items es ++ (item_of e (given t) ∷ [])) u h)).0.1

  pub upto_binds : (xs : List OneItem) → Binds (closing a_with_item (UpTo comma (mark Close) WithItem xs)) (λ is. Is (targeted is)) (Holds (Then (UpTo comma (mark Close) WithItem xs) (λ is. Is (targeted is))))
  upto_binds xs = chain (what_is_held l) (closing a_with_item (UpTo comma (mark Close) WithItem xs)) (λ is. Is (targeted is)) record {
    apart = λ ys mid c rest k n. tt;
    down = λ ys mid c rest k f. down k f;
    ready = λ over ys f. ready_is FitsHeld over (targeted ys) (within_one (Each FitsItem) FitsHeld over ys (targeted ys) (λ f. f) f);
  }
    where
      down : {ys : List OneItem} {c : Holding} {mid rest : List Lexeme} → Is (targeted ys) mid c rest → FitsHeld c → Each FitsItem ys
      down is f = f

  -- a star
  depth_each : (es : List Exp) → Each FitsExp es → width_all (all_of es) ≤ 4096
  depth_each [] f = omega arith
  depth_each (e ∷ es) f = omega (arith, f.0.1, depth_each es f.1)

  pub within_tuple : (es : List Exp) → Each FitsExp es → depth_all (all_of es) < 500 → count_exps (all_of es) < max_items → FitsItems 499 es
  within_tuple es f d n = (omega (arith, d), depth_each es f, omega (arith, n))

  pub sequel_on : {P : Part Lexeme Holding} {ts mid rest : List Lexeme} (es fs : List Exp) (e : Exp) → Carries P ts (Holds (BehindExp l m es e)) mid → (sign_at (next_of mid) ≢ Some (keyword As)) × (rest ≡ mid) → fs ≡ es ++ (e ∷ [])
      → Carries P ts (Holds (Sequel l m fs)) rest
  sequel_on {P} {ts} {mid} {rest} es fs e c n h = subst (λ u. Carries P ts (Holds (Sequel l m fs)) u) (sym n.1) (subst (λ u. Carries P ts (Holds (Sequel l m u)) mid) (sym h) (then_on c (narrow_carries (without_narrows es e mid n.0))))

  pub next_on : {P : Part Lexeme Holding} {ts mid rest : List Lexeme} (es : List Exp) → Carries P ts (Holds (Onward l m es)) mid → (sign_at (next_of mid) ≢ Some (mark Close)) × (rest ≡ mid) → sign_at (next_of rest) ≢ Some star_sign
      → Carries P ts (Holds (Then an_expression.reads (BehindExp l m es))) rest
  next_on {P} {ts} {mid} {rest} es c n s = subst (λ u. Carries P ts (Holds (Then an_expression.reads (BehindExp l m es))) u) (sym n.1)
      (then_on c (narrow_carries (next_narrows es mid n.0 (subst (λ u. sign_at (next_of u) ≢ Some star_sign) n.1 s))))

  -- a star
  deeper : (es : List Exp) (e : Exp) → depth_all (all_of es) ≤ depth_all (all_of (es ++ (e ∷ [])))
  deeper [] e = omega arith
  deeper (d ∷ es) e = omega (arith, deeper es e)

  last_fits : (es : List Exp) (e : Exp) → FitsItems 499 (es ++ (e ∷ [])) → Fits 499 e
  last_fits [] e f = (omega (arith, f.0), omega (arith, f.1))
  last_fits (d ∷ es) e f = last_fits es e (omega (arith, f.0), omega (arith, f.1), omega (arith, f.2))

  wider : (es : List Exp) (e : Exp) → width_all (all_of es) ≤ width_all (all_of (es ++ (e ∷ [])))
  wider [] e = omega arith
  wider (d ∷ es) e = omega (arith, wider es e)

  before : (es : List Exp) (e : Exp) → FitsItems 499 (es ++ (e ∷ [])) → FitsItems 499 es
  before es e f = (omega (arith, f.0, deeper es e), omega (arith, f.1, wider es e), omega (arith, f.2, count_more es e))

  pub star_over : (es : List Exp) (k : ℕ) (ts : List Lexeme) → next_of ts ≡ Some (sign k star_sign) → Each FitsExp es → (FitsItems 499 es → count_exps (all_of es) < max_items → ⊥) → Refused (Holds (Onward l m es)) true ts ts
  star_over es k ts h f over = over_refused_at (Holds (Onward l m es)) (sign k star_sign) ts h (λ more c rest j n g. dead j g)
      (some_name ∷ (sign 0 (mark Close) ∷ [])) (only (S.parenthesized l (S.tuple m (all_of (es ++ (S.starred k some_exp ∷ [])))))) (λ z. next_star (_, _, name_binary 6, (listed (es ++ (S.starred k some_exp ∷ [])) false, _, no_comma, (_, _, the refl, is))))
      (sign 0 (mark Close) ∷ []) (plain m es true) f (λ z. closes_behind)
    where
      over_at : (e : Exp) → FitsItems 499 (es ++ (S.starred k e ∷ [])) → ⊥
      over_at e g = over (before es (S.starred k e) g) (omega (arith, g.2, count_more es (S.starred k e)))

      dead : {more rest : List Lexeme} {c : Holding} → Onward l m es (sign k star_sign ∷ more) c rest → FitsHeld c → ⊥
      dead (next_star (e, us, q, t)) g = over_at e (tuple_keeps l m (es ++ (S.starred k e ∷ [])) t g)
      dead (next_exp q t) g = no_exp_at at_star q

  pub starred_binds : (es : List Exp) (k : ℕ) → FitsItems 499 es → count_exps (all_of es) < max_items → Binds (a_bor 499) (λ e. OfTuple l m (es ++ (S.starred k e ∷ []))) (Holds (Starred l m k es))
  starred_binds es k f n = chain (what_is_held l) (a_bor 499) (λ e. OfTuple l m (es ++ (S.starred k e ∷ []))) record {
    apart = λ e mid c rest t s. apart e t.2 t.3;
    down = λ e mid c rest t g. let h = last_fits es (S.starred k e) (tuple_keeps l m (es ++ (S.starred k e ∷ [])) t g) in (omega (arith, h.0), omega (arith, h.1));
    ready = λ over e g. record {
      word = sign 0 (mark Close) ∷ [];
      done = only (S.parenthesized l (S.tuple m (all_of (es ++ (S.starred k e ∷ [])))));
      fits = within_one (Fits 499) FitsHeld over e (only (S.parenthesized l (S.tuple m (all_of (es ++ (S.starred k e ∷ [])))))) (λ g. tuple_of (es ++ (S.starred k e ∷ [])) (items_grow 499 es (S.starred k e) f n (omega (arith, g.0), omega (arith, g.1)))) g;
      reads = λ z. (listed (es ++ (S.starred k e ∷ [])) false, _, no_comma, (_, _, the refl, is));
    };
  }
    where
      tuple_of : (fs : List Exp) → FitsItems 499 fs → FitsExp (S.tuple m (all_of fs))
      tuple_of fs g = (omega (arith, g.0), omega (arith, g.1, g.2))

      apart : (e : Exp) {fs : List Exp} {x : Listed} {c : Holding} {mid us rest : List Lexeme} → MoreItems Whole fs mid x us → Then (The (mark Close)) (λ k. Is (only (S.parenthesized l (S.tuple m (all_of x.items))))) us c rest
          → a_place.stops e (next_of mid)
      apart e no_comma (j, vs, the {l = i} h, is) = subst (λ u. a_place.stops e (Some (sign i u))) (sym h) (place_ends e i (mark Close) tt)
      apart e (last_comma {l = i}) t = place_ends e i comma tt
      apart e (more_items {l = i} q k) t = place_ends e i comma tt

  pub tuple_binds : (es : List Exp) → Binds (left (some_exprs Whole 499) (MoreItems Whole es)) (λ x. Then (The (mark Close)) (λ k. Is (only (S.parenthesized l (S.tuple m (all_of x.items)))))) (Holds (OfTuple l m es))
  tuple_binds es = chain (what_is_held l) (left (some_exprs Whole 499) (MoreItems Whole es)) (λ x. Then (The (mark Close)) (λ k. Is (only (S.parenthesized l (S.tuple m (all_of x.items)))))) record {
    apart = λ x mid c rest t s. apart x t.2;
    down = λ x mid c rest t g. down x t g;
    ready = λ over x g. record {
      word = sign 0 (mark Close) ∷ [];
      done = only (S.parenthesized l (S.tuple m (all_of x.items)));
      fits = within_one (λ y. FitsItems 499 y.items) FitsHeld over x (only (S.parenthesized l (S.tuple m (all_of x.items)))) (λ g. (omega (arith, g.0), omega (arith, g.1, g.2))) g;
      reads = λ z. (_, _, the refl, is);
    };
  }
    where
      apart : (x : Listed) {j : ℕ} {mid us : List Lexeme} → The (mark Close) mid j us → (some_exprs Whole 499).stops x (next_of mid)
      apart x (the {l = i} h) = subst (λ u. (some_exprs Whole 499).stops x (Some (sign i u))) (sym h) (end_stops_items Whole x.comma x.items (Some (sign i (mark Close))) refl)

      down : (x : Listed) {c : Holding} {mid rest : List Lexeme} → Then (The (mark Close)) (λ k. Is (only (S.parenthesized l (S.tuple m (all_of x.items))))) mid c rest → FitsHeld c → FitsItems 499 x.items
      down x (j, us, h, is) g = (omega (arith, g.0), omega (arith, g.1), omega (arith, g.1))

  pub close_binds : (x : Listed) → FitsItems 499 x.items → Binds (a_sign (mark Close)) (λ k. Is (only (S.parenthesized l (S.tuple m (all_of x.items))))) (Holds (Then (The (mark Close)) (λ k. Is (only (S.parenthesized l (S.tuple m (all_of x.items)))))))
  close_binds x f = chain (what_is_held l) (a_sign (mark Close)) (λ k. Is (only (S.parenthesized l (S.tuple m (all_of x.items))))) record {
    apart = λ j mid c rest t s. tt;
    down = λ j mid c rest t g. tt;
    ready = λ over j g. ready_is FitsHeld over (only (S.parenthesized l (S.tuple m (all_of x.items)))) (within_all FitsHeld over (only (S.parenthesized l (S.tuple m (all_of x.items)))) (omega (arith, f.0), omega (arith, f.1, f.2)));
  }
