-- An expression starts on the line of its first token, and the lines of the tokens behind it rise from there.
use Rattle.std.proofs.Common.{◌≡◌, ℕ, ◌≤◌, Bool, true, false, List, [], ◌∷◌, Option, Some, None, refl, sym, subst, arith}
use Rattle.pt_base.specs.declared.operators.UnOp.{UnOp}
use Rattle.pt_tree.specs.declared.expression.Conversion.{Conversion}
use Rattle.pt_wide.specs.Syntax.{Exp, Opt, Entry, Args}
use Rattle.pt_grammar.specs.declared.part.Part.{Part}
use Rattle.pt_grammar.specs.declared.sign.Sign.{Sign}
use Rattle.pt_grammar.specs.declared.sign.Sign.TheVariants.{Operator, Comparison, Augmented, Singleton as singleton, Mark as mark, Word as word, Keyword as keyword, Layout as layout}
use Rattle.pt_grammar.specs.Lexemes.{Lexeme, sign}
use Rattle.pt_grammar.specs.Signs.{unary_of}
use Rattle.pt_grammar.specs.Nodes.{line_of, compared, conjoined, disjoined, Link, Trailer, by_name, by_index, by_call, trailed_by, Listed, OneClause, OneArg, Order, OneParameter, Gathered, OnePiece, Quoted, string_at}
use Rattle.pt_grammar.specs.Grammar as G
use Rattle.pt_grammar.specs.Grammar.{Exprs, MoreItems, Item, Bare, Value, Yielded, Clause, Conditions, Clauses, Expr, Choice, Alternatives, Disjunction, Disjoined, Conjunction, Conjoined, Negation, Comparisons, Compared, Comparing, Binary, Operated, Factor, Power, Raised, Primary, Trailed, Trailing, Index, Bound, Step, Arguments, MoreArguments, Argument, Parameters, MoreParameters, Parameter, Annotation, Default, Atom, Dictionary, MoreEntries, OneEntry, Strings, Formatted, Field, Converted, Specified}
use Rattle.law_front.specs.token_lines.Rising.{is_between}
use Rattle.law_front.proofs.token_lines.Rising.{Rises, earlier, first, tail}

-- an expression that starts on a line from this one on, and what is behind it
pub record Starts (least : ℕ) (e : Exp) (rest : List Lexeme) : Type 0 where
  pub not_before : least ≤ line_of e
  pub behind : Rises (line_of e) rest

starts : {b : ℕ} {rest : List Lexeme} (e : Exp) → (b ≤ line_of e) × Rises (line_of e) rest → Starts b e rest
starts e h = record { not_before = h.0; behind = h.1 }

pub on : {b : ℕ} {e : Exp} {rest : List Lexeme} → Starts b e rest → Rises b rest
on s = earlier s.not_before s.behind

after : {b c : ℕ} {e : Exp} {rest : List Lexeme} → b ≤ c → Starts c e rest → Starts b e rest
after h s = let k = s.not_before in record { not_before = omega (arith, h, k); behind = s.behind }

of_line : {l : ℕ} {rest : List Lexeme} (e : Exp) → line_of e ≡ l → Rises l rest → Starts l e rest
of_line {rest = rest} e h r = record { not_before = omega (arith, h); behind = subst (λ n. Rises n rest) (sym h) r }

line_disjoined : (a : Exp) (es : List Exp) → line_of (disjoined a es) ≡ line_of a
line_disjoined a [] = refl
line_disjoined a (e ∷ es) = refl

line_conjoined : (a : Exp) (es : List Exp) → line_of (conjoined a es) ≡ line_of a
line_conjoined a [] = refl
line_conjoined a (e ∷ es) = refl

line_compared : (a : Exp) (cs : List Link) → line_of (compared a cs) ≡ line_of a
line_compared a [] = refl
line_compared a (c ∷ cs) = refl

line_trailed : (a : Exp) (t : Trailer) → line_of (trailed_by a t) ≡ line_of a
line_trailed a (by_name x) = refl
line_trailed a (by_index i) = refl
line_trailed a (by_call args) = refl

line_string : (l : ℕ) (b : Bool) (ps : List OnePiece) → line_of (string_at l b ps) ≡ l
line_string l true ps = refl
line_string l false ps = refl

unary_sign : (l : ℕ) (s : Sign) (o : UnOp) → unary_of s ≡ Some o → is_between (sign l s) ≡ false
unary_sign l (layout y) o e = let no : None ≡ Some o = e in cc
unary_sign l (Operator p) o e = refl
unary_sign l (Comparison p) o e = refl
unary_sign l (Augmented p) o e = refl
unary_sign l (singleton k) o e = refl
unary_sign l (mark m) o e = refl
unary_sign l (word w) o e = refl
unary_sign l (keyword k) o e = refl

mutual
  pub exprs : {b : ℕ} {p : Part} {ts rest : List Lexeme} {x : Listed} → Exprs p ts x rest → Rises b ts → Rises b rest
  exprs (G.exprs q m) r = more_items m (on (item q r))

  more_items : {b : ℕ} {p : Part} {es : List Exp} {ts rest : List Lexeme} {x : Listed} → MoreItems p es ts x rest → Rises b ts → Rises b rest
  more_items G.no_comma r = r
  more_items G.last_comma r = tail r
  more_items (G.more_items q m) r = more_items m (on (item q (tail r)))

  item : {b : ℕ} {p : Part} {ts rest : List Lexeme} {e : Exp} → Item p ts e rest → Rises b ts → Starts b e rest
  item (G.starred q) r = let f = first refl r in starts _ (f.0, on (binary q f.1))
  item (G.unstarred q) r = expr q r
  item (G.operand q) r = binary q r

  pub bare : {b : ℕ} {p : Part} {ts rest : List Lexeme} {e : Exp} → Bare p ts e rest → Rises b ts → Starts b e rest
  bare (G.alone q) r = item q r
  bare (G.a_tuple q m) r = let a = item q r in starts _ (a.not_before, more_items m a.behind)

  pub value : {b : ℕ} {ts rest : List Lexeme} {e : Exp} → Value ts e rest → Rises b ts → Starts b e rest
  value (G.no_yield q) r = bare q r
  value (G.a_yield q) r = let f = first refl r in after f.0 (yielded q f.1)

  yielded : {l : ℕ} {ts rest : List Lexeme} {e : Exp} → Yielded l ts e rest → Rises l ts → Starts l e rest
  yielded G.yield_none r = starts _ (omega arith, r)
  yielded (G.yield_from q) r = starts _ (omega arith, on (expr q (tail r)))
  yielded (G.yield_some q) r = starts _ (omega arith, on (bare q r))

  clause : {b l : ℕ} {ts rest : List Lexeme} {c : OneClause} → Clause l ts c rest → Rises b ts → Rises b rest
  clause (G.clause q r k) n = conditions k (on (disjunction r (tail (on (bare q n)))))

  conditions : {b : ℕ} {es all : List Exp} {ts rest : List Lexeme} → Conditions es ts all rest → Rises b ts → Rises b rest
  conditions G.no_condition r = r
  conditions (G.a_condition q k) r = conditions k (on (disjunction q (tail r)))

  clauses : {b : ℕ} {cs all : List OneClause} {ts rest : List Lexeme} → Clauses cs ts all rest → Rises b ts → Rises b rest
  clauses G.no_clause r = r
  clauses (G.more_clauses q k) r = clauses k (clause q (tail r))

  pub expr : {b : ℕ} {ts rest : List Lexeme} {e : Exp} → Expr ts e rest → Rises b ts → Starts b e rest
  expr (G.expr q k) r = let a = disjunction q r in after a.not_before (choice k a.behind)
  expr (G.lambda q k) r = let f = first refl r in starts _ (f.0, on (expr k (tail (parameters q f.1))))

  choice : {a e : Exp} {ts rest : List Lexeme} → Choice a ts e rest → Rises (line_of a) ts → Starts (line_of a) e rest
  choice G.no_choice r = starts _ (omega arith, r)
  choice (G.choice k) r = alternatives k (tail r)

  alternatives : {a e : Exp} {ts rest : List Lexeme} → Alternatives a ts e rest → Rises (line_of a) ts → Starts (line_of a) e rest
  alternatives (G.alternatives q k) r = starts _ (omega arith, on (expr k (tail (on (disjunction q r)))))

  disjunction : {b : ℕ} {ts rest : List Lexeme} {e : Exp} → Disjunction ts e rest → Rises b ts → Starts b e rest
  disjunction (G.disjunction q k) r = let a = conjunction q r in after a.not_before (disjoins k a.behind)

  disjoins : {a e : Exp} {es : List Exp} {ts rest : List Lexeme} → Disjoined a es ts e rest → Rises (line_of a) ts → Starts (line_of a) e rest
  disjoins (G.disjoined_end {a = a} {es = es}) r = of_line (disjoined a es) (line_disjoined a es) r
  disjoins (G.disjoined_more q d) r = disjoins d (on (conjunction q (tail r)))

  conjunction : {b : ℕ} {ts rest : List Lexeme} {e : Exp} → Conjunction ts e rest → Rises b ts → Starts b e rest
  conjunction (G.conjunction q k) r = let a = negation q r in after a.not_before (conjoins k a.behind)

  conjoins : {a e : Exp} {es : List Exp} {ts rest : List Lexeme} → Conjoined a es ts e rest → Rises (line_of a) ts → Starts (line_of a) e rest
  conjoins (G.conjoined_end {a = a} {es = es}) r = of_line (conjoined a es) (line_conjoined a es) r
  conjoins (G.conjoined_more q d) r = conjoins d (on (negation q (tail r)))

  negation : {b : ℕ} {ts rest : List Lexeme} {e : Exp} → Negation ts e rest → Rises b ts → Starts b e rest
  negation (G.not_so q) r = let f = first refl r in starts _ (f.0, on (negation q f.1))
  negation (G.comparison q) r = comparisons q r

  comparisons : {b : ℕ} {ts rest : List Lexeme} {e : Exp} → Comparisons ts e rest → Rises b ts → Starts b e rest
  comparisons (G.comparisons q k) r = let a = binary q r in after a.not_before (chain k a.behind)

  chain : {a e : Exp} {cs : List Link} {ts rest : List Lexeme} → Compared a cs ts e rest → Rises (line_of a) ts → Starts (line_of a) e rest
  chain (G.compared_end {a = a} {cs = cs}) r = of_line (compared a cs) (line_compared a cs) r
  chain (G.compared_more q d) r = chain d (comparing q (tail r))

  comparing : {b : ℕ} {s : Sign} {ts rest : List Lexeme} {c : Link} → Comparing s ts c rest → Rises b ts → Rises b rest
  comparing (G.by_sign q) r = on (binary q r)
  comparing (G.is_in q) r = on (binary q r)
  comparing (G.is_not_in q) r = on (binary q (tail r))
  comparing (G.is q) r = on (binary q r)
  comparing (G.is_not q) r = on (binary q (tail r))

  pub binary : {b k : ℕ} {ts rest : List Lexeme} {e : Exp} → Binary k ts e rest → Rises b ts → Starts b e rest
  binary (G.factor q) r = factor q r
  binary (G.binary q k) r = let a = binary q r in after a.not_before (operated k a.behind)

  operated : {k : ℕ} {a e : Exp} {ts rest : List Lexeme} → Operated k a ts e rest → Rises (line_of a) ts → Starts (line_of a) e rest
  operated G.operated_end r = starts _ (omega arith, r)
  operated (G.operated_more o q k) r = operated k (on (binary q (tail r)))

  factor : {b : ℕ} {ts rest : List Lexeme} {e : Exp} → Factor ts e rest → Rises b ts → Starts b e rest
  factor (G.unary {l = l} {s = s} {o = o} u q) r = let f = first (unary_sign l s o u) r in starts _ (f.0, on (factor q f.1))
  factor (G.no_unary q) r = power q r

  power : {b : ℕ} {ts rest : List Lexeme} {e : Exp} → Power ts e rest → Rises b ts → Starts b e rest
  power (G.power q k) r = let a = primary q r in after a.not_before (raised k a.behind)

  raised : {a e : Exp} {ts rest : List Lexeme} → Raised a ts e rest → Rises (line_of a) ts → Starts (line_of a) e rest
  raised G.not_raised r = starts _ (omega arith, r)
  raised (G.raised q) r = starts _ (omega arith, on (factor q (tail r)))

  primary : {b : ℕ} {ts rest : List Lexeme} {e : Exp} → Primary ts e rest → Rises b ts → Starts b e rest
  primary (G.primary q k) r = let a = atom q r in after a.not_before (trailed k a.behind)

  trailed : {a e : Exp} {ts rest : List Lexeme} → Trailed a ts e rest → Rises (line_of a) ts → Starts (line_of a) e rest
  trailed G.trailed_end r = starts _ (omega arith, r)
  trailed (G.trailed_more {a = a} {e = e} {t = t} {mid = mid} {rest = rest} q k) r =
      subst (λ l. Starts l e rest) (line_trailed a t) (trailed k (subst (λ l. Rises l mid) (sym (line_trailed a t)) (trailing q (tail r))))

  trailing : {b : ℕ} {s : Sign} {ts rest : List Lexeme} {t : Trailer} → Trailing s ts t rest → Rises b ts → Rises b rest
  trailing G.attribute r = tail r
  trailing (G.call q) r = arguments q r
  trailing (G.item q) r = tail (index q r)

  index : {b : ℕ} {ts rest : List Lexeme} {e : Exp} → Index ts e rest → Rises b ts → Rises b rest
  index (G.an_index q) r = on (bare q r)
  index (G.a_slice q s k) r = step k (bound s (tail (bound q r)))

  bound : {b : ℕ} {ts rest : List Lexeme} {o : Opt} → Bound ts o rest → Rises b ts → Rises b rest
  bound G.no_bound r = r
  bound (G.a_bound q) r = on (expr q r)

  step : {b : ℕ} {ts rest : List Lexeme} {o : Opt} → Step ts o rest → Rises b ts → Rises b rest
  step G.no_step r = r
  step (G.a_step q) r = bound q (tail r)

  pub arguments : {b : ℕ} {ts rest : List Lexeme} {args : Args} → Arguments ts args rest → Rises b ts → Rises b rest
  arguments G.no_arguments r = tail r
  arguments (G.a_generator_alone q k) r = tail (clauses k (on (expr q r)))
  arguments (G.arguments q k) r = more_arguments k (argument q r)

  more_arguments : {b : ℕ} {xs : List OneArg} {ts rest : List Lexeme} {args : Args} → MoreArguments xs ts args rest → Rises b ts → Rises b rest
  more_arguments G.arguments_end r = tail r
  more_arguments G.arguments_comma r = tail (tail r)
  more_arguments (G.more_arguments q k) r = more_arguments k (argument q (tail r))

  argument : {b : ℕ} {o : Order} {ts rest : List Lexeme} {a : OneArg} → Argument o ts a rest → Rises b ts → Rises b rest
  argument (G.by_place q) r = on (expr q r)
  argument (G.by_keyword q) r = on (expr q (tail (tail r)))
  argument (G.by_star s q) r = on (expr q (tail r))
  argument (G.by_double_star q) r = on (expr q (tail r))

  pub parameters : {b : ℕ} {d : Bool} {ts rest : List Lexeme} {g : Gathered} → Parameters d ts g rest → Rises b ts → Rises b rest
  parameters G.no_parameter r = r
  parameters (G.some_parameters a q k) r = more_parameters k (parameter q r)

  more_parameters : {b : ℕ} {d : Bool} {g h : Gathered} {ts rest : List Lexeme} → MoreParameters d g ts h rest → Rises b ts → Rises b rest
  more_parameters G.parameters_end r = r
  more_parameters G.parameters_comma r = tail r
  more_parameters (G.more_parameters a q k) r = more_parameters k (parameter q (tail r))

  parameter : {b : ℕ} {d : Bool} {ts rest : List Lexeme} {p : OneParameter} → Parameter d ts p rest → Rises b ts → Rises b rest
  parameter (G.a_formal q k) r = default k (annotation q (tail r))
  parameter G.a_slash r = tail r
  parameter G.a_bare_star r = tail r
  parameter G.a_star r = tail (tail r)
  parameter G.a_double_star r = tail (tail r)

  annotation : {b : ℕ} {d : Bool} {ts rest : List Lexeme} {o : Opt} → Annotation d ts o rest → Rises b ts → Rises b rest
  annotation G.no_annotation r = r
  annotation (G.an_annotation q) r = on (expr q (tail r))

  default : {b : ℕ} {ts rest : List Lexeme} {o : Opt} → Default ts o rest → Rises b ts → Rises b rest
  default G.no_default r = r
  default (G.a_default q) r = on (expr q (tail r))

  atom : {b : ℕ} {ts rest : List Lexeme} {e : Exp} → Atom ts e rest → Rises b ts → Starts b e rest
  atom G.a_name r = starts _ (first refl r)
  atom G.an_int r = starts _ (first refl r)
  atom (G.a_string {l = l} {q = q} k) r =
      let f = first refl r in after f.0 (of_line (string_at l q.formatted q.pieces) (line_string l q.formatted q.pieces) (strings k f.1))
  atom (G.an_f_string {l = l} {q = q} g k) r =
      let f = first refl r in
      after f.0 (of_line (string_at l q.formatted q.pieces) (line_string l q.formatted q.pieces) (strings k (tail (formatted g f.1))))
  atom G.a_singleton r = starts _ (first refl r)
  atom (G.in_parentheses q) r = let f = first refl r in starts _ (f.0, tail (on (value q f.1)))
  atom G.no_tuple r = let f = first refl r in starts _ (f.0, tail f.1)
  atom (G.a_generator q k) r = let f = first refl r in starts _ (f.0, tail (clauses k (on (expr q f.1))))
  atom G.no_list r = let f = first refl r in starts _ (f.0, tail f.1)
  atom (G.a_list q) r = let f = first refl r in starts _ (f.0, tail (exprs q f.1))
  atom (G.a_list_comprehension q k) r = let f = first refl r in starts _ (f.0, tail (clauses k (on (expr q f.1))))
  atom G.no_dict r = let f = first refl r in starts _ (f.0, tail f.1)
  atom (G.a_dict q) r = let f = first refl r in starts _ (f.0, tail (dictionary q f.1))
  atom (G.a_dict_comprehension q k) r = let f = first refl r in starts _ (f.0, tail (clauses k (entry q f.1)))
  atom (G.a_set q) r = let f = first refl r in starts _ (f.0, tail (exprs q f.1))
  atom (G.a_set_comprehension q k) r = let f = first refl r in starts _ (f.0, tail (clauses k (on (expr q f.1))))

  dictionary : {b : ℕ} {ts rest : List Lexeme} {gs : List Entry} → Dictionary ts gs rest → Rises b ts → Rises b rest
  dictionary (G.dictionary q k) r = more_entries k (entry q r)

  more_entries : {b : ℕ} {gs all : List Entry} {ts rest : List Lexeme} → MoreEntries gs ts all rest → Rises b ts → Rises b rest
  more_entries G.entries_end r = r
  more_entries G.entries_comma r = tail r
  more_entries (G.more_entries q k) r = more_entries k (entry q (tail r))

  entry : {b : ℕ} {ts rest : List Lexeme} {g : Entry} → OneEntry ts g rest → Rises b ts → Rises b rest
  entry (G.a_pair q k) r = on (expr k (tail (on (expr q r))))
  entry (G.a_spread_entry q) r = on (binary q (tail r))

  strings : {b : ℕ} {p q : Quoted} {ts rest : List Lexeme} → Strings p ts q rest → Rises b ts → Rises b rest
  strings G.strings_end r = r
  strings (G.one_string k) r = strings k (tail r)
  strings (G.one_f_string g k) r = strings k (tail (formatted g (tail r)))

  formatted : {b k : ℕ} {ps qs : List OnePiece} {ts rest : List Lexeme} → Formatted k ps ts qs rest → Rises b ts → Rises b rest
  formatted G.formatted_end r = r
  formatted (G.some_text k) r = formatted k (tail r)
  formatted (G.some_field q k) r = formatted k (a_field q (tail r))

  a_field : {b k l : ℕ} {ts rest : List Lexeme} {f : OnePiece} → Field k l ts f rest → Rises b ts → Rises b rest
  a_field (G.a_field q c s) r = tail (specified s (converted c (on (value q r))))

  converted : {b : ℕ} {ts rest : List Lexeme} {c : Option Conversion} → Converted ts c rest → Rises b ts → Rises b rest
  converted G.no_conversion r = r
  converted (G.a_conversion e) r = tail (tail r)

  specified : {b k : ℕ} {ts rest : List Lexeme} {ps : List OnePiece} → Specified k ts ps rest → Rises b ts → Rises b rest
  specified G.no_spec r = r
  specified (G.a_spec g) r = formatted g (tail r)
