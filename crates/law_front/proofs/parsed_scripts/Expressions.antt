-- The names of an expression are those of the tokens that it is, and so are those of the tokens behind it.
use Rattle.std.proofs.Common.{ℕ, Bool, List, Option}
use Rattle.std.specs.List.{AllByRecursion}
use Rattle.pt_tree.specs.Syntax.{Name}
use Rattle.pt_tree.specs.declared.expression.Conversion.{Conversion}
use Rattle.pt_wide.specs.Syntax.{Exp, Opt, Entry, Args}
use Rattle.law_front.specs.parsed.Parsed as is
use Rattle.pt_grammar.specs.declared.part.Part.{Part}
use Rattle.pt_grammar.specs.declared.sign.Sign.{Sign}
use Rattle.pt_grammar.specs.Lexemes.{Lexeme}
use Rattle.pt_grammar.specs.Nodes.{Link, Trailer, Listed, OneClause, OneArg, Order, OneParameter, Gathered, no_parameters, OnePiece, text, Quoted}
use Rattle.pt_grammar.specs.Grammar as G
use Rattle.pt_grammar.specs.Grammar.{Exprs, MoreItems, Item, Bare, Value, Yielded, Clause, Conditions, Clauses, Expr, Choice, Alternatives, Disjunction, Disjoined, Conjunction, Conjoined, Negation, Comparisons, Compared, Comparing, Binary, Operated, Factor, Power, Raised, Primary, Trailed, Trailing, Index, Bound, Step, Arguments, MoreArguments, Argument, Parameters, MoreParameters, Parameter, Annotation, Default, Atom, Dictionary, MoreEntries, OneEntry, Strings, Formatted, Field, Converted, Specified}
use Rattle.law_front.specs.parsed_scripts.Laws.{Names}
use Rattle.law_front.proofs.parsed_scripts.Parts as part
use Rattle.law_front.proofs.parsed_scripts.Parts.{all_snoc}

module _ (Q : Name → Type 0) where
  abbrev N : List Lexeme → Type 0
  N ts = Names Q ts

  abbrev E : Exp → Type 0
  E e = is.ExpParsed Q e

  abbrev Es : List Exp → Type 0
  Es es = AllByRecursion (is.ExpParsed Q) es

  mutual
    pub exprs : {p : Part} {ts rest : List Lexeme} {x : Listed} → Exprs p ts x rest → N ts → Es x.items × N rest
    exprs (G.exprs q m) n = let a = item q n in more_items m a.1 (a.0, tt)

    pub more_items : {p : Part} {es : List Exp} {ts rest : List Lexeme} {x : Listed} → MoreItems p es ts x rest → N ts → Es es → Es x.items × N rest
    more_items G.no_comma n h = (h, n)
    more_items G.last_comma n h = (h, n.1)
    more_items (G.more_items {es = es} {e = e} q m) n h = let a = item q n.1 in more_items m a.1 (all_snoc E es e h a.0)

    pub item : {p : Part} {ts rest : List Lexeme} {e : Exp} → Item p ts e rest → N ts → E e × N rest
    item (G.starred q) n = binary q n.1
    item (G.unstarred q) n = expr q n
    item (G.operand q) n = binary q n

    pub bare : {p : Part} {ts rest : List Lexeme} {e : Exp} → Bare p ts e rest → N ts → E e × N rest
    bare (G.alone q) n = item q n
    bare (G.a_tuple {x = x} q m) n = let a = item q n in let b = more_items m a.1 (a.0, tt) in (part.exps Q x.items b.0, b.1)

    pub value : {ts rest : List Lexeme} {e : Exp} → Value ts e rest → N ts → E e × N rest
    value (G.no_yield q) n = bare q n
    value (G.a_yield q) n = yielded q n.1

    yielded : {l : ℕ} {ts rest : List Lexeme} {e : Exp} → Yielded l ts e rest → N ts → E e × N rest
    yielded G.yield_none n = (tt, n)
    yielded (G.yield_from q) n = expr q n.1
    yielded (G.yield_some q) n = bare q n

    clause : {l : ℕ} {ts rest : List Lexeme} {c : OneClause} → Clause l ts c rest → N ts → part.ClauseParsed Q c × N rest
    clause (G.clause q r k) n = let a = bare q n in let b = disjunction r a.1.1 in let c = conditions k b.1 tt in ((a.0, b.0, c.0), c.1)

    conditions : {es all : List Exp} {ts rest : List Lexeme} → Conditions es ts all rest → N ts → Es es → Es all × N rest
    conditions G.no_condition n h = (h, n)
    conditions (G.a_condition {es = es} {e = e} q k) n h = let a = disjunction q n.1 in conditions k a.1 (all_snoc E es e h a.0)

    clauses : {cs all : List OneClause} {ts rest : List Lexeme} → Clauses cs ts all rest → N ts → AllByRecursion (part.ClauseParsed Q) cs
        → AllByRecursion (part.ClauseParsed Q) all × N rest
    clauses G.no_clause n h = (h, n)
    clauses (G.more_clauses {cs = cs} {c = c} q k) n h = let a = clause q n.1 in clauses k a.1 (all_snoc (part.ClauseParsed Q) cs c h a.0)

    pub expr : {ts rest : List Lexeme} {e : Exp} → Expr ts e rest → N ts → E e × N rest
    expr (G.expr q k) n = let a = disjunction q n in choice k a.1 a.0
    expr (G.lambda {g = g} q k) n = let a = parameters q n.1 in let b = expr k a.1.1 in ((part.parameters Q g a.0, b.0), b.1)

    choice : {a e : Exp} {ts rest : List Lexeme} → Choice a ts e rest → N ts → E a → E e × N rest
    choice G.no_choice n h = (h, n)
    choice (G.choice k) n h = alternatives k n.1 h

    alternatives : {a e : Exp} {ts rest : List Lexeme} → Alternatives a ts e rest → N ts → E a → E e × N rest
    alternatives (G.alternatives q k) n h = let c = disjunction q n in let b = expr k c.1.1 in ((c.0, h, b.0), b.1)

    disjunction : {ts rest : List Lexeme} {e : Exp} → Disjunction ts e rest → N ts → E e × N rest
    disjunction (G.disjunction q k) n = let a = conjunction q n in disjoined k a.1 a.0 tt

    disjoined : {a e : Exp} {es : List Exp} {ts rest : List Lexeme} → Disjoined a es ts e rest → N ts → E a → Es es → E e × N rest
    disjoined (G.disjoined_end {a = a} {es = es}) n h k = (part.of_disjoined Q a es h k, n)
    disjoined (G.disjoined_more {b = b} {es = es} q d) n h k = let c = conjunction q n.1 in disjoined d c.1 h (all_snoc E es b k c.0)

    conjunction : {ts rest : List Lexeme} {e : Exp} → Conjunction ts e rest → N ts → E e × N rest
    conjunction (G.conjunction q k) n = let a = negation q n in conjoined k a.1 a.0 tt

    conjoined : {a e : Exp} {es : List Exp} {ts rest : List Lexeme} → Conjoined a es ts e rest → N ts → E a → Es es → E e × N rest
    conjoined (G.conjoined_end {a = a} {es = es}) n h k = (part.of_conjoined Q a es h k, n)
    conjoined (G.conjoined_more {b = b} {es = es} q d) n h k = let c = negation q n.1 in conjoined d c.1 h (all_snoc E es b k c.0)

    negation : {ts rest : List Lexeme} {e : Exp} → Negation ts e rest → N ts → E e × N rest
    negation (G.not_so q) n = negation q n.1
    negation (G.comparison q) n = comparisons q n

    comparisons : {ts rest : List Lexeme} {e : Exp} → Comparisons ts e rest → N ts → E e × N rest
    comparisons (G.comparisons q k) n = let a = binary q n in chain k a.1 a.0 tt

    chain : {a e : Exp} {cs : List Link} {ts rest : List Lexeme} → Compared a cs ts e rest → N ts → E a → AllByRecursion (part.LinkParsed Q) cs → E e × N rest
    chain (G.compared_end {a = a} {cs = cs}) n h k = (part.of_compared Q a cs h k, n)
    chain (G.compared_more {c = c} {cs = cs} q d) n h k = let b = comparing q n.1 in chain d b.1 h (all_snoc (part.LinkParsed Q) cs c k b.0)

    comparing : {s : Sign} {ts rest : List Lexeme} {c : Link} → Comparing s ts c rest → N ts → part.LinkParsed Q c × N rest
    comparing (G.by_sign q) n = binary q n
    comparing (G.is_in q) n = binary q n
    comparing (G.is_not_in q) n = binary q n.1
    comparing (G.is q) n = binary q n
    comparing (G.is_not q) n = binary q n.1

    pub binary : {k : ℕ} {ts rest : List Lexeme} {e : Exp} → Binary k ts e rest → N ts → E e × N rest
    binary (G.factor q) n = factor q n
    binary (G.binary q k) n = let a = binary q n in operated k a.1 a.0

    operated : {k : ℕ} {a e : Exp} {ts rest : List Lexeme} → Operated k a ts e rest → N ts → E a → E e × N rest
    operated G.operated_end n h = (h, n)
    operated (G.operated_more r q k) n h = let b = binary q n.1 in operated k b.1 (h, b.0)

    factor : {ts rest : List Lexeme} {e : Exp} → Factor ts e rest → N ts → E e × N rest
    factor (G.unary u q) n = factor q n.1
    factor (G.no_unary q) n = power q n

    power : {ts rest : List Lexeme} {e : Exp} → Power ts e rest → N ts → E e × N rest
    power (G.power q k) n = let a = primary q n in raised k a.1 a.0

    raised : {a e : Exp} {ts rest : List Lexeme} → Raised a ts e rest → N ts → E a → E e × N rest
    raised G.not_raised n h = (h, n)
    raised (G.raised q) n h = let b = factor q n.1 in ((h, b.0), b.1)

    primary : {ts rest : List Lexeme} {e : Exp} → Primary ts e rest → N ts → E e × N rest
    primary (G.primary q k) n = let a = atom q n in trailed k a.1 a.0

    trailed : {a e : Exp} {ts rest : List Lexeme} → Trailed a ts e rest → N ts → E a → E e × N rest
    trailed G.trailed_end n h = (h, n)
    trailed (G.trailed_more {a = a} {t = t} q k) n h = let b = trailing q n.1 in trailed k b.1 (part.of_trailed Q a t h b.0)

    trailing : {s : Sign} {ts rest : List Lexeme} {t : Trailer} → Trailing s ts t rest → N ts → part.TrailerParsed Q t × N rest
    trailing G.attribute n = n
    trailing (G.call q) n = arguments q n
    trailing (G.item q) n = let a = index q n in (a.0, a.1.1)

    index : {ts rest : List Lexeme} {e : Exp} → Index ts e rest → N ts → E e × N rest
    index (G.an_index q) n = bare q n
    index (G.a_slice q r k) n = let a = bound q n in let b = bound r a.1.1 in let c = step k b.1 in ((a.0, b.0, c.0), c.1)

    bound : {ts rest : List Lexeme} {o : Opt} → Bound ts o rest → N ts → is.OptParsed Q o × N rest
    bound G.no_bound n = (tt, n)
    bound (G.a_bound q) n = expr q n

    step : {ts rest : List Lexeme} {o : Opt} → Step ts o rest → N ts → is.OptParsed Q o × N rest
    step G.no_step n = (tt, n)
    step (G.a_step q) n = bound q n.1

    pub arguments : {ts rest : List Lexeme} {args : Args} → Arguments ts args rest → N ts → is.ArgsParsed Q args × N rest
    arguments G.no_arguments n = (tt, n.1)
    arguments (G.a_generator_alone {cs = cs} q k) n = let a = expr q n in let b = clauses k a.1 tt in (((a.0, part.clauses Q cs b.0), tt), b.1.1)
    arguments (G.arguments q k) n = let a = argument q n in more_arguments k a.1 (a.0, tt)

    more_arguments : {xs : List OneArg} {ts rest : List Lexeme} {args : Args} → MoreArguments xs ts args rest → N ts → AllByRecursion (part.ArgumentParsed Q) xs
        → is.ArgsParsed Q args × N rest
    more_arguments (G.arguments_end {xs = xs}) n h = (part.arguments Q xs h, n.1)
    more_arguments (G.arguments_comma {xs = xs}) n h = (part.arguments Q xs h, n.1.1)
    more_arguments (G.more_arguments {xs = xs} {a = a} q k) n h = let b = argument q n.1 in more_arguments k b.1 (all_snoc (part.ArgumentParsed Q) xs a h b.0)

    argument : {o : Order} {ts rest : List Lexeme} {a : OneArg} → Argument o ts a rest → N ts → part.ArgumentParsed Q a × N rest
    argument (G.by_place q) n = expr q n
    argument (G.by_keyword q) n = let a = expr q n.1.1 in ((n.0, a.0), a.1)
    argument (G.by_star s q) n = expr q n.1
    argument (G.by_double_star q) n = expr q n.1

    pub parameters : {b : Bool} {ts rest : List Lexeme} {g : Gathered} → Parameters b ts g rest → N ts → part.GatheredParsed Q g × N rest
    parameters G.no_parameter n = (record { before = tt; plain = tt; star = tt; keyword_only = tt; double_star = tt }, n)
    parameters (G.some_parameters {p = p} a q k) n =
        let b = parameter q n in
        more_parameters k b.1 (part.of_gathered Q no_parameters p (record { before = tt; plain = tt; star = tt; keyword_only = tt; double_star = tt }) b.0)

    more_parameters : {b : Bool} {g h : Gathered} {ts rest : List Lexeme} → MoreParameters b g ts h rest → N ts → part.GatheredParsed Q g
        → part.GatheredParsed Q h × N rest
    more_parameters G.parameters_end n w = (w, n)
    more_parameters G.parameters_comma n w = (w, n.1)
    more_parameters (G.more_parameters {g = g} {p = p} a q k) n w = let b = parameter q n.1 in more_parameters k b.1 (part.of_gathered Q g p w b.0)

    parameter : {b : Bool} {ts rest : List Lexeme} {p : OneParameter} → Parameter b ts p rest → N ts → part.ParameterParsed Q p × N rest
    parameter (G.a_formal q k) n = let a = annotation q n.1 in let d = default k a.1 in ((n.0, a.0, d.0), d.1)
    parameter G.a_slash n = (tt, n.1)
    parameter G.a_bare_star n = (tt, n.1)
    parameter G.a_star n = n.1
    parameter G.a_double_star n = n.1

    annotation : {b : Bool} {ts rest : List Lexeme} {o : Opt} → Annotation b ts o rest → N ts → is.OptParsed Q o × N rest
    annotation G.no_annotation n = (tt, n)
    annotation (G.an_annotation q) n = expr q n.1

    default : {ts rest : List Lexeme} {o : Opt} → Default ts o rest → N ts → is.OptParsed Q o × N rest
    default G.no_default n = (tt, n)
    default (G.a_default q) n = expr q n.1

    atom : {ts rest : List Lexeme} {e : Exp} → Atom ts e rest → N ts → E e × N rest
    atom G.a_name n = n
    atom G.an_int n = (tt, n.1)
    atom (G.a_string {l = l} {q = q} k) n = let a = strings k n.1 (tt, tt) in (part.of_string Q l q.formatted q.pieces a.0, a.1)
    atom (G.an_f_string {l = l} {q = q} f k) n = let a = formatted f n.1 tt in let b = strings k a.1.1 a.0 in (part.of_string Q l q.formatted q.pieces b.0, b.1)
    atom G.a_singleton n = (tt, n.1)
    atom (G.in_parentheses q) n = let a = value q n.1 in (a.0, a.1.1)
    atom G.no_tuple n = (tt, n.1.1)
    atom (G.a_generator {cs = cs} q k) n = let a = expr q n.1 in let b = clauses k a.1 tt in ((a.0, part.clauses Q cs b.0), b.1.1)
    atom G.no_list n = (tt, n.1.1)
    atom (G.a_list {x = x} q) n = let a = exprs q n.1 in (part.exps Q x.items a.0, a.1.1)
    atom (G.a_list_comprehension {cs = cs} q k) n = let a = expr q n.1 in let b = clauses k a.1 tt in ((a.0, part.clauses Q cs b.0), b.1.1)
    atom G.no_dict n = (tt, n.1.1)
    atom (G.a_dict {gs = gs} q) n = let a = dictionary q n.1 in (part.entries Q gs a.0, a.1.1)
    atom (G.a_dict_comprehension {cs = cs} q k) n = let a = entry q n.1 in let b = clauses k a.1 tt in ((a.0, part.clauses Q cs b.0), b.1.1)
    atom (G.a_set {x = x} q) n = let a = exprs q n.1 in (part.exps Q x.items a.0, a.1.1)
    atom (G.a_set_comprehension {cs = cs} q k) n = let a = expr q n.1 in let b = clauses k a.1 tt in ((a.0, part.clauses Q cs b.0), b.1.1)

    dictionary : {ts rest : List Lexeme} {gs : List Entry} → Dictionary ts gs rest → N ts → AllByRecursion (is.EntryParsed Q) gs × N rest
    dictionary (G.dictionary q k) n = let a = entry q n in more_entries k a.1 (a.0, tt)

    more_entries : {gs all : List Entry} {ts rest : List Lexeme} → MoreEntries gs ts all rest → N ts → AllByRecursion (is.EntryParsed Q) gs
        → AllByRecursion (is.EntryParsed Q) all × N rest
    more_entries G.entries_end n h = (h, n)
    more_entries G.entries_comma n h = (h, n.1)
    more_entries (G.more_entries {gs = gs} {g = g} q k) n h = let a = entry q n.1 in more_entries k a.1 (all_snoc (is.EntryParsed Q) gs g h a.0)

    entry : {ts rest : List Lexeme} {g : Entry} → OneEntry ts g rest → N ts → is.EntryParsed Q g × N rest
    entry (G.a_pair q k) n = let a = expr q n in let b = expr k a.1.1 in ((a.0, b.0), b.1)
    entry (G.a_spread_entry q) n = binary q n.1

    strings : {q r : Quoted} {ts rest : List Lexeme} → Strings q ts r rest → N ts → AllByRecursion (part.PieceParsed Q) q.pieces
        → AllByRecursion (part.PieceParsed Q) r.pieces × N rest
    strings G.strings_end n h = (h, n)
    strings (G.one_string {l = l} {x = x} {q = q} k) n h = strings k n.1 (all_snoc (part.PieceParsed Q) q.pieces (text l x) h tt)
    strings (G.one_f_string f k) n h = let a = formatted f n.1 h in strings k a.1.1 a.0

    formatted : {k : ℕ} {ps qs : List OnePiece} {ts rest : List Lexeme} → Formatted k ps ts qs rest → N ts → AllByRecursion (part.PieceParsed Q) ps
        → AllByRecursion (part.PieceParsed Q) qs × N rest
    formatted G.formatted_end n h = (h, n)
    formatted (G.some_text {l = l} {x = x} {ps = ps} k) n h = formatted k n.1 (all_snoc (part.PieceParsed Q) ps (text l x) h tt)
    formatted (G.some_field {f = f} {ps = ps} q k) n h = let a = a_field q n.1 in formatted k a.1 (all_snoc (part.PieceParsed Q) ps f h a.0)

    a_field : {k l : ℕ} {ts rest : List Lexeme} {f : OnePiece} → Field k l ts f rest → N ts → part.PieceParsed Q f × N rest
    a_field (G.a_field {ps = ps} q c s) n = let a = value q n in let b = specified s (converted c a.1) in ((a.0, part.pieces Q ps b.0), b.1.1)

    converted : {ts rest : List Lexeme} {c : Option Conversion} → Converted ts c rest → N ts → N rest
    converted G.no_conversion n = n
    converted (G.a_conversion e) n = n.1.1

    specified : {k : ℕ} {ts rest : List Lexeme} {ps : List OnePiece} → Specified k ts ps rest → N ts → AllByRecursion (part.PieceParsed Q) ps × N rest
    specified G.no_spec n = (tt, n)
    specified (G.a_spec f) n = formatted f n.1 tt
