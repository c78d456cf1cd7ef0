-- Parentheses, and displays of lists.
use Rattle.std.proofs.Common.{◌≡◌, ◌≢◌, ℕ, ◌-◌, ◌≤◌, ◌<◌, Bool, true, false, IsTrue, ◌↔◌, List, [], ◌∷◌, ◌++◌, Option, Some, inl, inr, refl, sym, ◌∙◌, ap, subst, arith, append_assoc}
use Rattle.pt_base.specs.declared.operators.BinOp.TheVariants.{Mul}
use Rattle.pt_wide.specs.declared.expression.WideBinOp.TheVariants.{Plain}
use Rattle.pt_wide.specs.Syntax as S
use Rattle.pt_wide.specs.Syntax.{Exp}
use Rattle.pt_wide.specs.Fold.{all_of}
use Rattle.pt_wide.specs.Measure.{depth_exp}
use Rattle.pt_readers.specs.Reading.{next_of, behind, Part, Alike, Found, Refused, Carries}
use Rattle.pt_readers.proofs.Readers.{Binds, Shifts, Narrows, Just, just, left, bad_refused}
use Rattle.pt_readers.proofs.Pieces.{Through, through, Made, made}
use Rattle.pt_readers.proofs.Exits.{over_refused_at, found_at, at_next, is_so}
use Rattle.pt_grammar.specs.declared.part.Part.TheVariants.{Whole}
use Rattle.pt_grammar.specs.declared.sign.Sign.{Sign}
use Rattle.pt_grammar.specs.declared.sign.Sign.TheVariants.{Operator, Mark as mark, Word as word}
use Rattle.pt_grammar.specs.declared.sign.Mark.{Mark}
use Rattle.pt_grammar.specs.declared.sign.Mark.TheVariants.{Open, Close, OpenBracket, CloseBracket, Comma}
use Rattle.pt_grammar.specs.declared.sign.Word.TheVariants.{In, For, Yield}
use Rattle.pt_grammar.specs.Lexemes.{Lexeme, sign, sign_at, line_at}
use Rattle.pt_grammar.specs.Signs.{begins_item, ends_items, ends_clauses_sign, ends_clauses}
use Rattle.pt_grammar.specs.Grammar.{Exprs, exprs, MoreItems, no_comma, last_comma, more_items, Item, starred, unstarred, operand, Bare, alone, a_tuple, Value, no_yield, a_yield, Expr, clause, no_condition, Clauses, no_clause, more_clauses, Atom, in_parentheses, no_tuple, a_generator, no_list, a_list, a_list_comprehension}
use Rattle.pt_grammar.specs.Nodes.{Listed, OneClause, a_clause_of}
use Rattle.pt_grammar.specs.Parts.{Fits, Stops, ends_in_text, item_rank, FitsItems, FitsClauses, an_atom, an_item, some_exprs, a_bare, a_value, some_clauses}
pub use Rattle.pt_grammar.specs.Behind.{Inside, nothing, something, generated}
use Rattle.pt_grammar.specs.Behind.{Then, Starting, starting, Followed, followed_end, followed_more, ByClauses, Behind, otherwise, by_clauses, Closed, generator_of, InParentheses, Listing, list_comprehension_of, InBrackets}
use Rattle.pt_grammar.proofs.Ranks.{IsSign, is_sign, signed_next}
use Rattle.pt_grammar.proofs.Atoms.{apart_mark}
use Rattle.pt_grammar.proofs.Begins.{some_name, some_exp, depth_some, name_binary, name_disjunction}
use Rattle.pt_grammar.proofs.Items.{item_begins, far_item, rank_small, expr_plain, items_list, opened, starred_shifts}
use Rattle.pt_grammar.proofs.Sequels.{then_binds, starting_carries}
use Rattle.pt_grammar.proofs.Bares.{apart_sign, end_stops_item, end_stops_items, bare_begins, bare_binds, followed_shrinks}

-- An item without a star is an expression.
item_expr : {ts rest : List Lexeme} {e : Exp} → item_rank Whole e ≡ 11 → Item Whole ts e rest → Expr ts e rest
item_expr h (starred k) = absurd (omega (arith, h))
item_expr h (unstarred k) = k

pub unstarred_rank : (d : ℕ) {ts rest : List Lexeme} {e : Exp} → Found (an_item Whole d) ts e rest → sign_at (next_of ts) ≢ Some (Operator (Plain Mul)) → item_rank Whole e ≡ 11
unstarred_rank d {rest = rest} {e = e} f n = rank (subst (λ u. Item Whole u e rest) (sym f.whole) (f.reads rest)) n
  where
    rank : {us end : List Lexeme} {x : Exp} → Item Whole us x end → sign_at (next_of us) ≢ Some (Operator (Plain Mul)) → item_rank Whole x ≡ 11
    rank (starred k) n = absurd (n refl)
    rank (unstarred k) n = expr_plain k

pub starred_rank : (d l : ℕ) {ts rest : List Lexeme} {e : Exp} → Found (an_item Whole d) ts e rest → next_of ts ≡ Some (sign l (Operator (Plain Mul))) → item_rank Whole e ≢ 11
starred_rank d l {ts = ts} {rest = rest} {e = e} f h r =
    other (((starred_shifts Whole d l).inv (behind ts) e rest (subst (λ u. Item Whole u e rest) (at_next ts h) (subst (λ u. Item Whole u e rest) (sym f.whole) (f.reads rest))) f.stops).0) r
  where
    other : {us end : List Lexeme} {x : Exp} {Q : Part Lexeme Exp} → Made Q (S.starred l) us x end → item_rank Whole x ≡ 11 → ⊥
    other (made k) r = omega (arith, r)

pub star_false : (d : ℕ) (b : Bool) {ts rest : List Lexeme} {e : Exp} → IsTrue b ↔ (sign_at (next_of ts) ≡ Some (Operator (Plain Mul))) → Found (an_item Whole d) ts e rest → item_rank Whole e ≡ 11 → b ≡ false
star_false d true i f r = let n = signed_next _ (is_so i refl) in absurd (starred_rank d n.0 f n.1 r)
star_false d false i f r = refl

-- the sign that is next, on the line that was asked for
pub lined_next : {s : Sign} {next : Option Lexeme} {l : ℕ} → sign_at next ≡ Some s → l ≡ line_at next → next ≡ Some (sign l s)
lined_next {s} {next} h e = let n = signed_next next h in n.1 ∙ ap (λ k. Some (sign k s)) (sym (e ∙ ap line_at n.1))

-- Clauses begin with a `for`.
for_next : {ts rest : List Lexeme} {cs : List OneClause} → Starting (IsSign (word For)) (Clauses []) ts cs rest → sign_at (next_of ts) ≡ Some (word For)
for_next (starting is_sign k) = refl

some_clause : (l : ℕ) (z : List Lexeme)
    → Clauses [] (sign l (word For) ∷ (some_name ∷ (sign 0 (word In) ∷ (some_name ∷ z)))) (a_clause_of l some_exp some_exp [] ∷ []) z
some_clause l z = more_clauses (clause (alone (operand (name_binary 6))) name_disjunction no_condition) no_clause

abbrev FromFor : ℕ → Part Lexeme (List OneClause)
FromFor d = left (some_clauses d) (Starting (IsSign (word For)) (Clauses []))

pub for_carries : (d : ℕ) → 0 < d → (ts : List Lexeme) (l : ℕ) → next_of ts ≡ Some (sign l (word For)) → Carries (FromFor d) ts (some_clauses d) ts
for_carries d some ts l h = starting_carries (some_clauses d) (IsSign (word For)) (sign l (word For)) is_sign (λ x k s. cc)
    (some_name ∷ (sign 0 (word In) ∷ (some_name ∷ (sign 0 (mark Close) ∷ [])))) (sign 0 (mark Close) ∷ []) (a_clause_of l some_exp some_exp [] ∷ []) (some_clause l (sign 0 (mark Close) ∷ [])) refl
    (omega (arith, some), omega arith) ts h

module _ (d : ℕ) (e : Exp) (close : Mark) (node : List OneClause → Exp) (Other : List Lexeme → Exp → List Lexeme → Type 0) where
  -- where no clauses can begin
  pub others_narrow : (ts : List Lexeme) → (sign_at (next_of ts) ≡ Some (word For) → item_rank Whole e ≡ 11 → ⊥) → Narrows ts (left (an_atom d) Other) (left (an_atom d) (Behind e close node Other))
  others_narrow ts n = record { into = λ more x rest k. otherwise k; out = λ more x rest a k s. (out a k, s); stop = λ x o s. s; up = λ x f. f; down = λ x f. f }
    where
      out : {more rest : List Lexeme} {x : Exp} → Alike more ts → Behind e close node Other more x rest → Other more x rest
      out a (otherwise k) = k
      out (inl h) (by_clauses r k) = absurd (n (sym (ap sign_at h) ∙ for_next (k.2)) r)
      out (inr h) (by_clauses r k) = let g = sym (ap (λ u. sign_at (next_of u)) h) ∙ for_next (k.2) in cc

  -- where they do
  pub clauses_narrow : (ts : List Lexeme) → sign_at (next_of ts) ≡ Some (word For) → item_rank Whole e ≡ 11
      → ((us : List Lexeme) (x : Exp) (rest : List Lexeme) → Other us x rest → (m : Mark) × (sign_at (next_of us) ≡ Some (mark m)))
      → Narrows ts (left (an_atom d) (ByClauses close node)) (left (an_atom d) (Behind e close node Other))
  clauses_narrow ts h r begins = record { into = λ more x rest k. by_clauses r k; out = λ more x rest a k s. (out a k, s); stop = λ x o s. s; up = λ x f. f; down = λ x f. f }
    where
      out : {more rest : List Lexeme} {x : Exp} → Alike more ts → Behind e close node Other more x rest → ByClauses close node more x rest
      out a (by_clauses r k) = k
      out {more} {rest} {x} (inl i) (otherwise k) = let b = begins more x rest k in let g = sym b.1 ∙ ap sign_at i ∙ h in cc
      out {more} {rest} {x} (inr i) (otherwise k) = let b = begins more x rest k in let g = sym b.1 ∙ ap (λ u. sign_at (next_of u)) i in cc

  pub clauses_bind : ends_clauses_sign (mark close) ≡ true → ((cs : List OneClause) → FitsClauses (d - 1) cs → Fits d (node cs)) → ((cs : List OneClause) → Fits d (node cs) → FitsClauses (d - 1) cs)
      → Binds (FromFor (d - 1)) (λ cs. Through (IsSign (mark close)) (Just (node cs))) (left (an_atom d) (ByClauses close node))
  clauses_bind c up down = then_binds (an_atom d) (FromFor (d - 1)) (λ cs. Through (IsSign (mark close)) (Just (node cs))) record {
    apart = λ y mid x rest k n. apart y k;
    down = λ y mid x rest k f. shrinks y k f;
    word = λ y. sign 0 (mark close) ∷ [];
    done = node;
    up = up;
    reads = λ y z. through is_sign just;
  }
    where
      apart : (y : List OneClause) {mid rest : List Lexeme} {x : Exp} → Through (IsSign (mark close)) (Just (node y)) mid x rest → ends_clauses (next_of mid) ≡ true
      apart y (through is_sign k) = c

      shrinks : (y : List OneClause) {mid rest : List Lexeme} {x : Exp} → Through (IsSign (mark close)) (Just (node y)) mid x rest → Fits d x → FitsClauses (d - 1) y
      shrinks y (through is_sign just) f = down y f

-- Clauses at a `for` are some.
clauses_more : {cs all : List OneClause} {ts rest : List Lexeme} → Clauses cs ts all rest → all ≡ [] → ts ≡ rest
clauses_more no_clause h = refl
clauses_more {cs} (more_clauses {c = c} q k) h = absurd (grows cs c k h)
  where
    snoc : (cs : List OneClause) (c : OneClause) → cs ++ (c ∷ []) ≡ [] → ⊥
    snoc [] c g = cc
    snoc (b ∷ cs) c g = cc

    kept : {cs all : List OneClause} {ts rest : List Lexeme} → Clauses cs ts all rest → (cs ≡ [] → ⊥) → all ≡ [] → ⊥
    kept no_clause n h = n h
    kept {cs} (more_clauses {c = c} q k) n h = kept k (snoc cs c) h

    grows : (cs : List OneClause) (c : OneClause) {all : List OneClause} {ts rest : List Lexeme} → Clauses (cs ++ (c ∷ [])) ts all rest → all ≡ [] → ⊥
    grows cs c k h = kept k (snoc cs c) h

pub clauses_some : (d l : ℕ) {ts rest : List Lexeme} {cs : List OneClause} → Found (some_clauses d) ts cs rest → next_of ts ≡ Some (sign l (word For)) → cs ≢ []
clauses_some d l {ts = ts} {rest = rest} {cs = cs} f h e =
    let k : ts ≡ rest = f.whole ∙ clauses_more (f.reads rest) e in
    let g = sym f.stops ∙ ap ends_clauses (sym (ap next_of k) ∙ h) in cc

yield_no_item : (next : Option Lexeme) → sign_at next ≡ Some (word Yield) → begins_item Whole next ≡ true → ⊥
yield_no_item next h b = let n = signed_next next h in let g = sym (ap (begins_item Whole) n.1) ∙ b in cc

module _ (d l : ℕ) where
  pub open_shifts : Shifts (sign l (mark Open)) (left (an_atom d) (Inside l)) (an_atom d)
  open_shifts = record { intro = λ ts x rest k. into k; inv = λ ts x rest k s. (out k, s); stop = λ x o s. s; up = λ x f. f; down = λ x f. f }
    where
      into : {ts rest : List Lexeme} {x : Exp} → Inside l ts x rest → Atom (sign l (mark Open) ∷ ts) x rest
      into nothing = no_tuple
      into (something k) = in_parentheses k
      into (generated q k) = a_generator q k

      out : {ts rest : List Lexeme} {x : Exp} → Atom (sign l (mark Open) ∷ ts) x rest → Inside l ts x rest
      out no_tuple = nothing
      out (in_parentheses k) = something k
      out (a_generator q k) = generated q k

  close_no_value : {m : ℕ} {ts rest : List Lexeme} {x : Exp} → Value (sign m (mark Close) ∷ ts) x rest → ⊥
  close_no_value (no_yield k) = let h = bare_begins k in cc

  pub nothing_found : (m : ℕ) → 0 < d → (ts : List Lexeme) → next_of ts ≡ Some (sign m (mark Close)) → Found (left (an_atom d) (Inside l)) ts (S.parenthesized l (S.tuple l S.no_exps)) (behind ts)
  nothing_found m some ts h = found_at (at_next ts h) record {
    front = sign m (mark Close) ∷ [];
    whole = refl;
    reads = λ more. nothing;
    stops = tt;
    fits = (omega (arith, some), omega arith);
    only = λ more a x' rest' k n. out k;
  }
    where
      out : {more rest' : List Lexeme} {x' : Exp} → Inside l (sign m (mark Close) ∷ more) x' rest' → (x' ≡ S.parenthesized l (S.tuple l S.no_exps)) × (rest' ≡ more)
      out nothing = (refl, refl)
      out (something k) = absurd (close_no_value k)
      out (generated q k) = let h = item_begins (unstarred q) in cc

  -- where `yield` is next
  pub value_narrows : (ts : List Lexeme) → sign_at (next_of ts) ≡ Some (word Yield) → Narrows ts (left (an_atom d) (Then Value (Closed l))) (left (an_atom d) (Inside l))
  value_narrows ts h = record { into = λ more x rest k. into (k.2) (k.3); out = λ more x rest a k s. (out a k, s); stop = λ x o s. s; up = λ x f. f; down = λ x f. f }
    where
      into : {more mid rest : List Lexeme} {y x : Exp} → Value more y mid → Closed l y mid x rest → Inside l more x rest
      into q (through is_sign just) = something q

      no_item : {more mid : List Lexeme} {y : Exp} → Alike more ts → Item Whole more y mid → ⊥
      no_item (inl e) q = yield_no_item (next_of ts) h (sym (ap (begins_item Whole) e) ∙ item_begins q)
      no_item (inr e) q = let g = sym (item_begins q) ∙ ap (λ u. begins_item Whole (next_of u)) e in cc

      out : {more rest : List Lexeme} {x : Exp} → Alike more ts → Inside l more x rest → Then Value (Closed l) more x rest
      out (inl e) nothing = let g = ap sign_at e ∙ h in cc
      out (inr e) nothing = cc
      out a (something k) = (_, _, k, through is_sign just)
      out a (generated q k) = absurd (no_item a (unstarred q))

  pub value_closes : Binds (a_value d) (Closed l) (left (an_atom d) (Then Value (Closed l)))
  value_closes = then_binds (an_atom d) (a_value d) (Closed l) record {
    apart = λ y mid x rest k n. apart k;
    down = λ y mid x rest k f. same k f;
    word = λ y. sign 0 (mark Close) ∷ [];
    done = λ y. S.parenthesized l y;
    up = λ y f. f;
    reads = λ y z. through is_sign just;
  }
    where
      apart : {mid rest : List Lexeme} {y x : Exp} → Closed l y mid x rest → ends_items Whole (next_of mid) ≡ true
      apart (through is_sign k) = refl

      same : {mid rest : List Lexeme} {y x : Exp} → Closed l y mid x rest → Fits d x → Fits d y
      same (through is_sign just) f = f

  pub followed_closes : (e : Exp) → Binds (left (a_bare Whole d) (Followed Whole e)) (Closed l) (left (an_atom d) (Then (Followed Whole e) (Closed l)))
  followed_closes e = then_binds (an_atom d) (left (a_bare Whole d) (Followed Whole e)) (Closed l) record {
    apart = λ y mid x rest k n. apart k;
    down = λ y mid x rest k f. same k f;
    word = λ y. sign 0 (mark Close) ∷ [];
    done = λ y. S.parenthesized l y;
    up = λ y f. f;
    reads = λ y z. through is_sign just;
  }
    where
      apart : {mid rest : List Lexeme} {y x : Exp} → Closed l y mid x rest → ends_items Whole (next_of mid) ≡ true
      apart (through is_sign k) = refl

      same : {mid rest : List Lexeme} {y x : Exp} → Closed l y mid x rest → Fits d x → Fits d y
      same (through is_sign just) f = f

  -- where an item is next, or nothing that is right
  pub items_narrow : (ts : List Lexeme) → sign_at (next_of ts) ≢ Some (mark Close) → sign_at (next_of ts) ≢ Some (word Yield)
      → Narrows ts (left (an_atom d) (Then (Item Whole) (InParentheses l))) (left (an_atom d) (Inside l))
  items_narrow ts n o = record { into = λ more x rest k. into (k.2) (k.3); out = λ more x rest a k s. (out a k, s); stop = λ x p s. s; up = λ x f. f; down = λ x f. f }
    where
      bared : {more mid us rest : List Lexeme} {e y x : Exp} → Item Whole more e mid → Followed Whole e mid y us → Closed l y us x rest → Inside l more x rest
      bared q k (through is_sign just) = something (no_yield ((bare_binds Whole d).intro _ _ _ _ _ q k))

      by_for : {more mid us rest : List Lexeme} {e x : Exp} {cs : List OneClause} → Expr more e mid → Starting (IsSign (word For)) (Clauses []) mid cs us
          → Through (IsSign (mark Close)) (Just (generator_of l e cs)) us x rest → Inside l more x rest
      by_for q (starting is_sign k) (through is_sign just) = generated q k

      into : {more mid rest : List Lexeme} {e x : Exp} → Item Whole more e mid → InParentheses l e mid x rest → Inside l more x rest
      into q (otherwise k) = bared q (k.2) (k.3)
      into q (by_clauses r k) = by_for (item_expr r q) (k.2) (k.3)

      first : {m : ℕ} {more rest : List Lexeme} {y : Exp} → Bare Whole more y (sign m (mark Close) ∷ rest) → Then (Item Whole) (InParentheses l) more (S.parenthesized l y) rest
      first (alone q) = (_, _, q, otherwise (_, _, followed_end, through is_sign just))
      first (a_tuple q k) = (_, _, q, otherwise (_, _, followed_more k, through is_sign just))

      out : {more rest : List Lexeme} {x : Exp} → Alike more ts → Inside l more x rest → Then (Item Whole) (InParentheses l) more x rest
      out (inl e) nothing = absurd (n (sym (ap sign_at e)))
      out (inr e) nothing = cc
      out a (something (no_yield k)) = first k
      out (inl e) (something (a_yield k)) = absurd (o (sym (ap sign_at e)))
      out (inr e) (something (a_yield k)) = cc
      out a (generated q k) = (_, _, unstarred q, by_clauses (expr_plain q) (_, _, starting is_sign k, through is_sign just))

  pub item_inside : Binds (an_item Whole d) (InParentheses l) (left (an_atom d) (Then (Item Whole) (InParentheses l)))
  item_inside = then_binds (an_atom d) (an_item Whole d) (InParentheses l) record {
    apart = λ y mid x rest k n. apart k;
    down = λ y mid x rest k f. shrinks k f;
    word = λ y. sign 0 (mark Close) ∷ [];
    done = λ y. S.parenthesized l y;
    up = λ y f. f;
    reads = λ y z. otherwise (_, _, followed_end, through is_sign just);
  }
    where
      followed_apart : {mid us rest : List Lexeme} {e y x : Exp} → Followed Whole e mid y us → Closed l y us x rest → Stops (item_rank Whole e) e (next_of mid)
      followed_apart {e = e} followed_end (through (is_sign {l = m}) k) = end_stops_item Whole e (Some (sign m (mark Close))) refl
      followed_apart {e = e} (followed_more {l = m} k) c = (omega (arith, rank_small Whole e), apart_mark (ends_in_text e) m Comma)

      for_apart : (e : Exp) {mid us : List Lexeme} {cs : List OneClause} → Starting (IsSign (word For)) (Clauses []) mid cs us → Stops (item_rank Whole e) e (next_of mid)
      for_apart e (starting (is_sign {l = m}) k) = (omega (arith, rank_small Whole e), apart_sign (ends_in_text e) m (word For) (λ h. cc))

      apart : {mid rest : List Lexeme} {e x : Exp} → InParentheses l e mid x rest → Stops (item_rank Whole e) e (next_of mid)
      apart (otherwise k) = followed_apart (k.2) (k.3)
      apart {e = e} (by_clauses r k) = for_apart e (k.2)

      followed_fits : {mid us rest : List Lexeme} {e y x : Exp} → Followed Whole e mid y us → Closed l y us x rest → Fits d x → Fits d e
      followed_fits k (through is_sign just) f = followed_shrinks Whole d k f

      for_fits : (e : Exp) (cs : List OneClause) {us rest : List Lexeme} {x : Exp} → Through (IsSign (mark Close)) (Just (generator_of l e cs)) us x rest → Fits d x → Fits d e
      for_fits e cs (through is_sign just) f = (omega (arith, f.0), omega (arith, f.1))

      shrinks : {mid rest : List Lexeme} {e x : Exp} → InParentheses l e mid x rest → Fits d x → Fits d e
      shrinks (otherwise k) f = followed_fits (k.2) (k.3) f
      shrinks {e = e} (by_clauses r k) f = for_fits e (k.0) (k.3) f

  pub followed_marks : (e : Exp) (us : List Lexeme) (x : Exp) (rest : List Lexeme) → Then (Followed Whole e) (Closed l) us x rest → (m : Mark) × (sign_at (next_of us) ≡ Some (mark m))
  followed_marks e us x rest k = marked (k.2) (k.3)
    where
      marked : {us mid rest : List Lexeme} {y x : Exp} → Followed Whole e us y mid → Closed l y mid x rest → (m : Mark) × (sign_at (next_of us) ≡ Some (mark m))
      marked followed_end (through is_sign k) = (Close, refl)
      marked (followed_more k) c = (Comma, refl)

  -- no room for a generator
  pub generator_over : (e : Exp) (k : ℕ) (ts : List Lexeme) → next_of ts ≡ Some (sign k (word For)) → item_rank Whole e ≡ 11 → Fits d e → d ≤ depth_exp e
      → Refused (left (an_atom d) (InParentheses l e)) true ts ts
  generator_over e k ts h r f deep =
      over_refused_at (left (an_atom d) (InParentheses l e)) (sign k (word For)) ts h (λ more x' rest' j s g. out j g)
      (some_name ∷ (sign 0 (word In) ∷ (some_name ∷ (sign 0 (mark Close) ∷ [])))) (generator_of l e (a_clause_of k some_exp some_exp [] ∷ []))
      (λ z. by_clauses r (_, _, starting is_sign (some_clause k (sign 0 (mark Close) ∷ z)), through is_sign just))
      (sign 0 (mark Close) ∷ []) (S.parenthesized l e) f (λ z. otherwise (_, _, followed_end, through is_sign just))
    where
      too_deep : (cs : List OneClause) {us rest : List Lexeme} {x : Exp} → Through (IsSign (mark Close)) (Just (generator_of l e cs)) us x rest → Fits d x → ⊥
      too_deep cs (through is_sign just) g = omega (arith, g.0, deep)

      out : {more rest : List Lexeme} {x : Exp} → InParentheses l e (sign k (word For) ∷ more) x rest → Fits d x → ⊥
      out {more} {rest} {x} (otherwise j) g = let b = followed_marks e _ x rest j in let i = b.1 in cc
      out (by_clauses r j) g = too_deep (j.0) (j.3) g

  pub generator_narrows : (e : Exp) (ts : List Lexeme) → sign_at (next_of ts) ≡ Some (word For) → item_rank Whole e ≡ 11
      → Narrows ts (left (an_atom d) (ByClauses Close (generator_of l e))) (left (an_atom d) (InParentheses l e))
  generator_narrows e ts h r = clauses_narrow d e Close (generator_of l e) (Then (Followed Whole e) (Closed l)) ts h r (followed_marks e)

  pub generator_binds : (e : Exp) → Fits d e → depth_exp e < d
      → Binds (FromFor (d - 1)) (λ cs. Through (IsSign (mark Close)) (Just (generator_of l e cs))) (left (an_atom d) (ByClauses Close (generator_of l e)))
  generator_binds e f small = clauses_bind d e Close (generator_of l e) (Then (Followed Whole e) (Closed l)) refl
      (λ cs g. (omega (arith, g.0, small), omega (arith, f.1, g.1))) (λ cs g. (omega (arith, g.0), omega (arith, g.1)))

-- lists
pub data Bracketed (l : ℕ) : List Lexeme → Exp → List Lexeme → Type 0 where
  empty : {m : ℕ} {rest : List Lexeme} → Bracketed l (sign m (mark CloseBracket) ∷ rest) (S.list l S.no_exps) rest
  full : {m : ℕ} {ts rest : List Lexeme} {x : Listed} → Exprs Whole ts x (sign m (mark CloseBracket) ∷ rest) → Bracketed l ts (S.list l (all_of x.items)) rest
  looped : {k m : ℕ} {ts us rest : List Lexeme} {e : Exp} {cs : List OneClause} → Expr ts e (sign k (word For) ∷ us) → Clauses [] (sign k (word For) ∷ us) cs (sign m (mark CloseBracket) ∷ rest)
      → Bracketed l ts (list_comprehension_of l e cs) rest

exprs_begin : {ts rest : List Lexeme} {x : Listed} → Exprs Whole ts x rest → begins_item Whole (next_of ts) ≡ true
exprs_begin (exprs q k) = item_begins q

module _ (d l : ℕ) where
  pub bracket_shifts : Shifts (sign l (mark OpenBracket)) (left (an_atom d) (Bracketed l)) (an_atom d)
  bracket_shifts = record { intro = λ ts x rest k. into k; inv = λ ts x rest k s. (out k, s); stop = λ x o s. s; up = λ x f. f; down = λ x f. f }
    where
      into : {ts rest : List Lexeme} {x : Exp} → Bracketed l ts x rest → Atom (sign l (mark OpenBracket) ∷ ts) x rest
      into empty = no_list
      into (full k) = a_list k
      into (looped q k) = a_list_comprehension q k

      out : {ts rest : List Lexeme} {x : Exp} → Atom (sign l (mark OpenBracket) ∷ ts) x rest → Bracketed l ts x rest
      out no_list = empty
      out (a_list k) = full k
      out (a_list_comprehension q k) = looped q k

  pub empty_found : (m : ℕ) → 0 < d → (ts : List Lexeme) → next_of ts ≡ Some (sign m (mark CloseBracket)) → Found (left (an_atom d) (Bracketed l)) ts (S.list l S.no_exps) (behind ts)
  empty_found m some ts h = found_at (at_next ts h) record {
    front = sign m (mark CloseBracket) ∷ [];
    whole = refl;
    reads = λ more. empty;
    stops = tt;
    fits = (omega (arith, some), omega arith);
    only = λ more a x' rest' k n. out k;
  }
    where
      out : {more rest' : List Lexeme} {x' : Exp} → Bracketed l (sign m (mark CloseBracket) ∷ more) x' rest' → (x' ≡ S.list l S.no_exps) × (rest' ≡ more)
      out empty = (refl, refl)
      out (full k) = let h = exprs_begin k in cc
      out (looped q k) = let h = item_begins (unstarred q) in cc

  -- neither an item nor the end is next
  pub list_bad : (ts : List Lexeme) → 0 < d → sign_at (next_of ts) ≢ Some (mark CloseBracket) → begins_item Whole (next_of ts) ≡ false → Refused (left (an_atom d) (Bracketed l)) false ts ts
  list_bad ts some n b = bad_refused (left (an_atom d) (Bracketed l)) ts (λ more a x' rest' k s. out a k) (sign 0 (mark CloseBracket) ∷ []) (S.list l S.no_exps) (omega (arith, some), omega arith) (λ z. empty)
    where
      begun : {more : List Lexeme} → Alike more ts → begins_item Whole (next_of more) ≡ true → ⊥
      begun (inl e) k = let g = sym k ∙ ap (begins_item Whole) e ∙ b in cc
      begun (inr e) k = let g = sym k ∙ ap (λ u. begins_item Whole (next_of u)) e in cc

      out : {more rest : List Lexeme} {x : Exp} → Alike more ts → Bracketed l more x rest → ⊥
      out (inl e) empty = n (sym (ap sign_at e))
      out (inr e) empty = cc
      out a (full k) = begun a (exprs_begin k)
      out a (looped q k) = begun a (item_begins (unstarred q))

  pub listed_narrow : (ts : List Lexeme) → sign_at (next_of ts) ≢ Some (mark CloseBracket) → Narrows ts (left (an_atom d) (Then (Item Whole) (InBrackets l))) (left (an_atom d) (Bracketed l))
  listed_narrow ts n = record { into = λ more x rest k. into (k.2) (k.3); out = λ more x rest a k s. (out a k, s); stop = λ x p s. s; up = λ x f. f; down = λ x f. f }
    where
      several : {more mid us rest : List Lexeme} {e x : Exp} {y : Listed} → Item Whole more e mid → MoreItems Whole (e ∷ []) mid y us → Listing l y us x rest → Bracketed l more x rest
      several q k (through is_sign just) = full (exprs q k)

      by_for : {more mid us rest : List Lexeme} {e x : Exp} {cs : List OneClause} → Expr more e mid → Starting (IsSign (word For)) (Clauses []) mid cs us
          → Through (IsSign (mark CloseBracket)) (Just (list_comprehension_of l e cs)) us x rest → Bracketed l more x rest
      by_for q (starting is_sign k) (through is_sign just) = looped q k

      into : {more mid rest : List Lexeme} {e x : Exp} → Item Whole more e mid → InBrackets l e mid x rest → Bracketed l more x rest
      into q (otherwise k) = several q (k.2) (k.3)
      into q (by_clauses r k) = by_for (item_expr r q) (k.2) (k.3)

      out : {more rest : List Lexeme} {x : Exp} → Alike more ts → Bracketed l more x rest → Then (Item Whole) (InBrackets l) more x rest
      out (inl e) empty = absurd (n (sym (ap sign_at e)))
      out (inr e) empty = cc
      out a (full (exprs q k)) = (_, _, q, otherwise (_, _, k, through is_sign just))
      out a (looped q k) = (_, _, unstarred q, by_clauses (expr_plain q) (_, _, starting is_sign k, through is_sign just))

  several_fit : {e x : Exp} {y : Listed} {mid us rest : List Lexeme} → MoreItems Whole (e ∷ []) mid y us → Listing l y us x rest → Fits d x → Fits (d - 1) e
  several_fit {e} k (through is_sign just) f =
      let g : FitsItems (d - 1) (e ∷ []) = (items_list Whole (d - 1)).shrinks (e ∷ []) _ _ _ k (omega (arith, f.0), omega (arith, f.1), omega (arith, f.1)) in
      (omega (arith, g.0), omega (arith, g.1))

  clauses_fit : (e : Exp) (cs : List OneClause) {x : Exp} {us rest : List Lexeme} → Through (IsSign (mark CloseBracket)) (Just (list_comprehension_of l e cs)) us x rest → Fits d x → Fits (d - 1) e
  clauses_fit e cs (through is_sign just) f = (omega (arith, f.0), omega (arith, f.1))

  item_fits : {e x : Exp} {mid rest : List Lexeme} → InBrackets l e mid x rest → Fits d x → Fits (d - 1) e
  item_fits (otherwise k) f = several_fit (k.2) (k.3) f
  item_fits {e = e} (by_clauses r k) f = clauses_fit e (k.0) (k.3) f

  pub item_listed : 0 < d → Binds (an_item Whole (d - 1)) (InBrackets l) (left (an_atom d) (Then (Item Whole) (InBrackets l)))
  item_listed some = then_binds (an_atom d) (an_item Whole (d - 1)) (InBrackets l) record {
    apart = λ y mid x rest k n. apart k;
    down = λ y mid x rest k f. item_fits k f;
    word = λ y. sign 0 (mark CloseBracket) ∷ [];
    done = λ y. S.list l (all_of (y ∷ []));
    up = λ y f. (omega (arith, f.0, some), omega (arith, f.1));
    reads = λ y z. otherwise (_, _, no_comma, through is_sign just);
  }
    where
      several_apart : {mid us rest : List Lexeme} {e x : Exp} {y : Listed} → MoreItems Whole (e ∷ []) mid y us → Listing l y us x rest → Stops (item_rank Whole e) e (next_of mid)
      several_apart {e = e} no_comma (through (is_sign {l = m}) k) = end_stops_item Whole e (Some (sign m (mark CloseBracket))) refl
      several_apart {e = e} (last_comma {l = m}) c = (omega (arith, rank_small Whole e), apart_mark (ends_in_text e) m Comma)
      several_apart {e = e} (more_items {l = m} q k) c = (omega (arith, rank_small Whole e), apart_mark (ends_in_text e) m Comma)

      for_apart : (e : Exp) {mid us : List Lexeme} {cs : List OneClause} → Starting (IsSign (word For)) (Clauses []) mid cs us → Stops (item_rank Whole e) e (next_of mid)
      for_apart e (starting (is_sign {l = m}) k) = (omega (arith, rank_small Whole e), apart_sign (ends_in_text e) m (word For) (λ h. cc))

      apart : {mid rest : List Lexeme} {e x : Exp} → InBrackets l e mid x rest → Stops (item_rank Whole e) e (next_of mid)
      apart (otherwise k) = several_apart (k.2) (k.3)
      apart {e = e} (by_clauses r k) = for_apart e (k.2)

  pub more_listed : (e : Exp) → 0 < d → Binds (left (some_exprs Whole (d - 1)) (MoreItems Whole (e ∷ []))) (Listing l) (left (an_atom d) (Then (MoreItems Whole (e ∷ [])) (Listing l)))
  more_listed e some = then_binds (an_atom d) (left (some_exprs Whole (d - 1)) (MoreItems Whole (e ∷ []))) (Listing l) record {
    apart = λ y mid x rest k n. apart y k;
    down = λ y mid x rest k f. fit y k f;
    word = λ y. sign 0 (mark CloseBracket) ∷ [];
    done = λ y. S.list l (all_of y.items);
    up = λ y f. (omega (arith, f.0, some), omega (arith, f.1, f.2));
    reads = λ y z. through is_sign just;
  }
    where
      apart : (y : Listed) {mid rest : List Lexeme} {x : Exp} → Listing l y mid x rest → (some_exprs Whole (d - 1)).stops y (next_of mid)
      apart y (through (is_sign {l = m}) k) = end_stops_items Whole y.comma y.items (Some (sign m (mark CloseBracket))) refl

      fit : (y : Listed) {mid rest : List Lexeme} {x : Exp} → Listing l y mid x rest → Fits d x → FitsItems (d - 1) y.items
      fit y (through is_sign just) f = (omega (arith, f.0), omega (arith, f.1), omega (arith, f.1))

  pub more_marks : (e : Exp) (us : List Lexeme) (x : Exp) (rest : List Lexeme) → Then (MoreItems Whole (e ∷ [])) (Listing l) us x rest → (m : Mark) × (sign_at (next_of us) ≡ Some (mark m))
  more_marks e us x rest k = marked (k.2) (k.3)
    where
      marked : {us mid rest : List Lexeme} {y : Listed} {x : Exp} → MoreItems Whole (e ∷ []) us y mid → Listing l y mid x rest → (m : Mark) × (sign_at (next_of us) ≡ Some (mark m))
      marked no_comma (through is_sign k) = (CloseBracket, refl)
      marked last_comma c = (Comma, refl)
      marked (more_items q k) c = (Comma, refl)

  pub comprehension_narrows : (e : Exp) (ts : List Lexeme) → sign_at (next_of ts) ≡ Some (word For) → item_rank Whole e ≡ 11
      → Narrows ts (left (an_atom d) (ByClauses CloseBracket (list_comprehension_of l e))) (left (an_atom d) (InBrackets l e))
  comprehension_narrows e ts h r = clauses_narrow d e CloseBracket (list_comprehension_of l e) (Then (MoreItems Whole (e ∷ [])) (Listing l)) ts h r (more_marks e)

  pub comprehension_binds : (e : Exp) → Fits (d - 1) e → 0 < d
      → Binds (FromFor (d - 1)) (λ cs. Through (IsSign (mark CloseBracket)) (Just (list_comprehension_of l e cs))) (left (an_atom d) (ByClauses CloseBracket (list_comprehension_of l e)))
  comprehension_binds e f some = clauses_bind d e CloseBracket (list_comprehension_of l e) (Then (MoreItems Whole (e ∷ [])) (Listing l)) refl
      (λ cs g. (omega (arith, f.0, g.0, some), omega (arith, f.1, g.1))) (λ cs g. (omega (arith, g.0), omega (arith, g.1)))

-- no room for an item
pub list_over : (l : ℕ) (ts : List Lexeme) (t : Lexeme) → next_of ts ≡ Some t → begins_item Whole (Some t) ≡ true → Refused (left (an_atom 1) (Bracketed l)) true ts ts
list_over l ts t h b =
    let w = far_item Whole t b in
    over_refused_at (left (an_atom 1) (Bracketed l)) t ts h (λ more x' rest' k s f. out refl k f) (w.0 ++ (sign 0 (mark CloseBracket) ∷ [])) (S.list l (all_of (w.1 ∷ [])))
    (λ z. rw append_assoc (full {x = opened (w.1 ∷ [])} (exprs (w.2 (sign 0 (mark CloseBracket) ∷ z)) no_comma)))
    (sign 0 (mark CloseBracket) ∷ []) (S.list l S.no_exps) (omega arith, omega arith) (λ z. empty)
  where
    first : {us rest : List Lexeme} {x : Listed} {e : Exp} → MoreItems Whole (e ∷ []) us x rest → Fits 1 (S.list l (all_of x.items)) → ⊥
    first {e = e} k f =
        let g : FitsItems 0 (e ∷ []) = (items_list Whole 0).shrinks (e ∷ []) _ _ _ k (omega (arith, f.0), omega (arith, f.1), omega (arith, f.1)) in
        omega (arith, g.0, depth_some e)

    deep : {us rest : List Lexeme} {x : Listed} → Exprs Whole us x rest → Fits 1 (S.list l (all_of x.items)) → ⊥
    deep (exprs q k) f = first k f

    out : {us more rest : List Lexeme} {x : Exp} → us ≡ t ∷ more → Bracketed l us x rest → Fits 1 x → ⊥
    out e (empty {m = m}) f = let i : begins_item Whole (Some (sign m (mark CloseBracket))) ≡ true = ap (λ u. begins_item Whole (next_of u)) e ∙ b in cc
    out e (full k) f = deep k f
    out e (looped {e = y} q k) f = omega (arith, f.0, depth_some y)
