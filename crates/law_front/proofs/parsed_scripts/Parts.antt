-- What holds of the names in a list holds of those in the tree that is made of it.
use Rattle.std.proofs.Common.{ℕ, Bool, true, false, List, [], ◌∷◌, ◌++◌}
use Rattle.std.specs.List.{AllByRecursion}
use Rattle.pt_tree.specs.Syntax.{Name}
use Rattle.pt_wide.specs.Syntax as S
use Rattle.pt_wide.specs.Syntax.{Exp, Entry, Pieces}
use Rattle.pt_wide.specs.Fold.{all_of}
use Rattle.law_front.specs.parsed.Parsed as is
use Rattle.pt_grammar.specs.Nodes.{Link, links_of, compared, conjoined, disjoined, Trailer, by_name, by_index, by_call, trailed_by, OneClause, clauses_of, entries_of, OneArg, positional, named, spread, spread_named, args_of, Formal, formals_of, OneParameter, formal, slash, bare_star, star, double_star, Stage, plain, defaulted, keyword_only, over, Gathered, with_formal, gathered, params_of, OnePiece, text, field, text_before, pieces_of, string_at}

pub all_snoc : {A : Type 0} (P : A → Type 0) (xs : List A) (x : A) → AllByRecursion P xs → P x → AllByRecursion P (xs ++ (x ∷ []))
all_snoc P [] x h p = (p, tt)
all_snoc P (y ∷ xs) x h p = (h.0, all_snoc P xs x h.1 p)

module _ (Q : Name → Type 0) where
  abbrev pub ItemsParsed : List Exp → Type 0
  ItemsParsed es = AllByRecursion (is.ExpParsed Q) es

  pub exps : (es : List Exp) → ItemsParsed es → is.ExpsParsed Q (all_of es)
  exps [] h = tt
  exps (e ∷ es) h = (h.0, exps es h.1)

  abbrev pub LinkParsed : Link → Type 0
  LinkParsed c = is.ExpParsed Q c.right

  pub links : (cs : List Link) → AllByRecursion LinkParsed cs → is.LinksParsed Q (links_of cs)
  links [] h = tt
  links (c ∷ cs) h = (h.0, links cs h.1)

  pub of_compared : (a : Exp) (cs : List Link) → is.ExpParsed Q a → AllByRecursion LinkParsed cs → is.ExpParsed Q (compared a cs)
  of_compared a [] h k = h
  of_compared a (c ∷ cs) h k = (h, k.0, links cs k.1)

  pub of_conjoined : (a : Exp) (es : List Exp) → is.ExpParsed Q a → ItemsParsed es → is.ExpParsed Q (conjoined a es)
  of_conjoined a [] h k = h
  of_conjoined a (e ∷ es) h k = (h, exps (e ∷ es) k)

  pub of_disjoined : (a : Exp) (es : List Exp) → is.ExpParsed Q a → ItemsParsed es → is.ExpParsed Q (disjoined a es)
  of_disjoined a [] h k = h
  of_disjoined a (e ∷ es) h k = (h, exps (e ∷ es) k)

  abbrev pub TrailerParsed : Trailer → Type 0
  TrailerParsed (by_name x) = Q x
  TrailerParsed (by_index i) = is.ExpParsed Q i
  TrailerParsed (by_call args) = is.ArgsParsed Q args

  pub of_trailed : (a : Exp) (t : Trailer) → is.ExpParsed Q a → TrailerParsed t → is.ExpParsed Q (trailed_by a t)
  of_trailed a (by_name x) h k = (h, k)
  of_trailed a (by_index i) h k = (h, k)
  of_trailed a (by_call args) h k = (h, k)

  abbrev pub ClauseParsed : OneClause → Type 0
  ClauseParsed c = is.ExpParsed Q c.target × is.ExpParsed Q c.iterable × ItemsParsed c.conditions

  pub clauses : (cs : List OneClause) → AllByRecursion ClauseParsed cs → is.ClausesParsed Q (clauses_of cs)
  clauses [] h = tt
  clauses (c ∷ cs) h = (h.0.0, h.0.1, exps c.conditions h.0.2, clauses cs h.1)

  pub entries : (gs : List Entry) → AllByRecursion (is.EntryParsed Q) gs → is.EntriesParsed Q (entries_of gs)
  entries [] h = tt
  entries (g ∷ gs) h = (h.0, entries gs h.1)

  abbrev pub ArgumentParsed : OneArg → Type 0
  ArgumentParsed (positional e) = is.ExpParsed Q e
  ArgumentParsed (named l x e) = Q x × is.ExpParsed Q e
  ArgumentParsed (spread l e) = is.ExpParsed Q e
  ArgumentParsed (spread_named l e) = is.ExpParsed Q e

  pub arguments : (xs : List OneArg) → AllByRecursion ArgumentParsed xs → is.ArgsParsed Q (args_of xs)
  arguments [] h = tt
  arguments (positional e ∷ xs) h = (h.0, arguments xs h.1)
  arguments (named l x e ∷ xs) h = (h.0.0, h.0.1, arguments xs h.1)
  arguments (spread l e ∷ xs) h = (h.0, arguments xs h.1)
  arguments (spread_named l e ∷ xs) h = (h.0, arguments xs h.1)

  abbrev pub FormalParsed : Formal → Type 0
  FormalParsed f = Q f.name × is.OptParsed Q f.annotation × is.OptParsed Q f.default

  pub formals : (fs : List Formal) → AllByRecursion FormalParsed fs → is.FormalsParsed Q (formals_of fs)
  formals [] h = tt
  formals (f ∷ fs) h = (h.0.0, h.0.1, h.0.2, formals fs h.1)

  abbrev pub ParameterParsed : OneParameter → Type 0
  ParameterParsed (formal f) = FormalParsed f
  ParameterParsed (slash l) = Unit {0}
  ParameterParsed bare_star = Unit {0}
  ParameterParsed (star p) = Q p.name
  ParameterParsed (double_star p) = Q p.name

  pub record GatheredParsed (g : Gathered) : Type 0 where
    pub before : AllByRecursion FormalParsed g.positional_only
    pub plain : AllByRecursion FormalParsed g.positional
    pub star : is.OptionalParameter Q g.star
    pub keyword_only : AllByRecursion FormalParsed g.keyword_only
    pub double_star : is.OptionalParameter Q g.double_star

  of_positional : (s : Stage) (g : Gathered) (f : Formal) → GatheredParsed g → FormalParsed f → GatheredParsed (with_formal s g f)
  of_positional keyword_only g f h p =
      record { before = h.before; plain = h.plain; star = h.star; keyword_only = all_snoc FormalParsed g.keyword_only f h.keyword_only p; double_star = h.double_star }
  of_positional plain g f h p =
      record { before = h.before; plain = all_snoc FormalParsed g.positional f h.plain p; star = h.star; keyword_only = h.keyword_only; double_star = h.double_star }
  of_positional defaulted g f h p =
      record { before = h.before; plain = all_snoc FormalParsed g.positional f h.plain p; star = h.star; keyword_only = h.keyword_only; double_star = h.double_star }
  of_positional over g f h p =
      record { before = h.before; plain = all_snoc FormalParsed g.positional f h.plain p; star = h.star; keyword_only = h.keyword_only; double_star = h.double_star }

  pub of_gathered : (g : Gathered) (p : OneParameter) → GatheredParsed g → ParameterParsed p → GatheredParsed (gathered g p)
  of_gathered g (formal f) h p = of_positional g.stage g f h p
  of_gathered g (slash l) h p = record { before = h.plain; plain = tt; star = h.star; keyword_only = h.keyword_only; double_star = h.double_star }
  of_gathered g bare_star h p = record { before = h.before; plain = h.plain; star = h.star; keyword_only = h.keyword_only; double_star = h.double_star }
  of_gathered g (star q) h p = record { before = h.before; plain = h.plain; star = p; keyword_only = h.keyword_only; double_star = h.double_star }
  of_gathered g (double_star q) h p = record { before = h.before; plain = h.plain; star = h.star; keyword_only = h.keyword_only; double_star = p }

  pub parameters : (g : Gathered) → GatheredParsed g → is.ParamsParsed Q (params_of g)
  parameters g h = (formals g.positional_only h.before, formals g.positional h.plain, h.star, formals g.keyword_only h.keyword_only, h.double_star)

  abbrev pub PieceParsed : OnePiece → Type 0
  PieceParsed (text l t) = Unit {0}
  PieceParsed (field l e c s) = is.ExpParsed Q e × is.PiecesParsed Q s

  before_pieces : (l : ℕ) (t : List ℕ) (r : Pieces) → is.PiecesParsed Q r → is.PiecesParsed Q (text_before l t r)
  before_pieces l t (S.literal m u r) h = h
  before_pieces l [] S.no_pieces h = h
  before_pieces l (c ∷ t) S.no_pieces h = h
  before_pieces l [] (S.field m e c ps r) h = h
  before_pieces l (c ∷ t) (S.field m e k ps r) h = h

  pub pieces : (ps : List OnePiece) → AllByRecursion PieceParsed ps → is.PiecesParsed Q (pieces_of ps)
  pieces [] h = tt
  pieces (text l t ∷ ps) h = before_pieces l t (pieces_of ps) (pieces ps h.1)
  pieces (field l e c s ∷ ps) h = (h.0.0, h.0.1, pieces ps h.1)

  pub of_string : (l : ℕ) (b : Bool) (ps : List OnePiece) → AllByRecursion PieceParsed ps → is.ExpParsed Q (string_at l b ps)
  of_string l true ps h = pieces ps h
  of_string l false ps h = tt
