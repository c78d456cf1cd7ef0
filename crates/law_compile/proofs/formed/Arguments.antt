-- Arguments by name are plain in what is formed, whatever None is.
use Rattle.std.proofs.Common.{◌≡◌, ℕ, ◌+◌, Bool, true, false, cond, if◌then◌else◌, List, [], ◌∷◌, ◌++◌, map, Option, Some, None, refl, sym, ap, ◌∙◌}
use Rattle.pt_tree.specs.Syntax as S
use Rattle.pt_tree.specs.Syntax.{Name, Exp, Exps, Opt, Pieces, Entries, Links, Args, Made, Clauses, Place, Tgt, Tgts, Params, Formals, Decorators, Items, Stm, Stms, Branches, Handlers, none, more}
use Rattle.pt_tree.specs.Sizes.{size, pieces_size, joins, place_size, target_size, stm_size, stms_size}
use Rattle.pt_tree.specs.Blocks as B
use Rattle.pt_tree.specs.Blocks.{Code, first_statement, function_body, is_string}
use Rattle.sem_control.specs.control.Turn.{Around}
use Rattle.sem_control.specs.control.Expressions.{roles, target_names, clause_names}
use Rattle.sem_control.specs.control.Numbers.{tested_body, behind_body, for_body, for_else, try_handlers, try_else, try_finally, handler_body}
use Rattle.sem_control.specs.control.Statements.{places, all_places}
use Rattle.law_typed_pieces.specs.law_operands.law_files.sem_compile.emitter.Ops.{is_plain, are_plain}
use Rattle.law_typed_pieces.specs.law_operands.law_files.sem_compile.stm_pieces.Names.{AllOwn, Exp_named, Part_named, Exps_named, Pieces_named, Entries_named, Links_named, Operands_named, Args_named, Formals_named, Clauses_named, Made_named, Target_named, Targets_named, Place_named, Value_named, Opt_named, Changed_named, All_deleted_named, Definition_named, Parameters_named, Items_named, Stm_named, All_named, Branches_named, Handlers_named, Code_named}
use Rattle.law_typed_pieces.specs.law_operands.piece_names.Laws.{HasPlainArguments, all_local}
use Rattle.law_compile.specs.formed.Formed.{ExpFormed, ExpsFormed, OptFormed, PiecesFormed, EntriesFormed, LinksFormed, ArgsFormed, MadeFormed, ClausesFormed, PlaceFormed, TgtFormed, TgtsFormed, ParamsFormed, FormalsFormed, DecoratorsFormed, TakenFormed, ItemsFormed, StmFormed, StmsFormed, BranchesFormed, HandlersFormed}
use Rattle.law_compile.specs.formed.Laws.{ArgumentsArePlain}

-- the documentation string of a function
first_formed : (st : Stm) → StmFormed st → StmFormed (first_statement st)
first_formed (S.expr l e) h = by (is_string e)
  where
    by : (t : Bool) → StmFormed (cond t (S.docstring l) (S.expr l e))
    by true = tt
    by false = h
first_formed st h = h

pub body_formed : (ss : Stms) → StmsFormed ss → StmsFormed (function_body ss)
body_formed none h = h
body_formed (more st ss) h = (first_formed st h.0, h.1)

-- names of arguments that are plain one by one are so together
roles_plain : (r : Args) → ArgsFormed r → are_plain (roles (λ x. x) r) ≡ true
roles_plain S.no_args h = refl
roles_plain (S.positional e r) h = roles_plain r h.1
roles_plain (S.named x e r) h = ap (λ t. if t then are_plain (roles (λ x. x) r) else false) h.0 ∙ roles_plain r h.2
roles_plain (S.spread e r) h = roles_plain r h.1
roles_plain (S.spread_named e r) h = roles_plain r h.1

module _ {V : Type 0} (null : V) where
  abbrev a : Around V
  a = all_local null

  all_own : (v : List ℕ) (xs : List Name) → AllOwn (map (a.variable v) xs)
  all_own v [] = tt
  all_own v (x ∷ xs) = (tt, all_own v xs)

  -- parts that are named wherever they stand

  abbrev OptAnywhere : Opt → (v : List ℕ) → Type 0
  OptAnywhere S.absent v = Unit {0}
  OptAnywhere (S.given e) v = (n : ℕ) → Exp_named a e n v

  abbrev FormalsAnywhere : Formals → (v : List ℕ) → Type 0
  FormalsAnywhere S.no_formals v = Unit {0}
  FormalsAnywhere (S.formal l x t d r) v = OptAnywhere d v × FormalsAnywhere r v

  abbrev ClausesAnywhere : Clauses → (v : List ℕ) → Type 0
  ClausesAnywhere S.no_clauses v = Unit {0}
  ClausesAnywhere (S.only_if c cs) v = ((n : ℕ) → Exp_named a c n v) × ClausesAnywhere cs v
  ClausesAnywhere (S.for_each k t it cs) v = ((n : ℕ) → Target_named a t n v) × ((n : ℕ) → Exp_named a it n v) × ClausesAnywhere cs v

  part : (o : Opt) (n : ℕ) (v : List ℕ) (behind : ℕ → Type 0) → OptAnywhere o v → ((m : ℕ) → behind m) → Part_named a o n v behind
  part S.absent n v p h f = f n
  part (S.given e) n v p h f = (h n, f (n + size e))

  formals : (ps : Formals) (n : ℕ) (v : List ℕ) (behind : ℕ → Type 0) → FormalsAnywhere ps v → ((m : ℕ) → behind m) → Formals_named a ps n v behind
  formals S.no_formals n v p h f = f n
  formals (S.formal l x t S.absent r) n v p h f = formals r n v p h.1 f
  formals (S.formal l x t (S.given d) r) n v p h f = (h.0 n, formals r (n + size d) v p h.1 f)

  clauses : (cs : Clauses) (n : ℕ) (v : List ℕ) (item : ℕ → Type 0) → ClausesAnywhere cs v → ((m : ℕ) → item m) → Clauses_named a cs n v item
  clauses S.no_clauses n v p h f = f n
  clauses (S.only_if c cs) n v p h f = (h.0 n, clauses cs (n + size c + 1) v p h.1 f)
  clauses (S.for_each k t it cs) n v p h f = (h.1 n, h.0 (n + size it + 1 + 1), clauses cs (n + size it + 1 + 1 + target_size t) v p h.2 f)

  mutual
    exp : (e : Exp) (n : ℕ) (v : List ℕ) → ExpFormed e → Exp_named a e n v
    exp (S.constant l k) n v h = tt
    exp (S.name l x) n v h = tt
    exp (S.joined l ps) n v h = pieces ps n v h
    exp (S.tuple l es) n v h = exps es n v h
    exp (S.list l es) n v h = exps es n v h
    exp (S.set l es) n v h = exps es n v h
    exp (S.dict l r) n v h = entries r n v h
    exp (S.attribute l c x) n v h = exp c n v h
    exp (S.item l c i) n v h = (exp c n v h.0, exp i (n + size c) v h.1)
    exp (S.slice l c d e) n v h = part c n v _ (anywhere c v h.0) (λ m. part d m v _ (anywhere d v h.1) (λ m. part e m v _ (anywhere e v h.2) (λ m. tt)))
    exp (S.unary l o c) n v h = exp c n v h
    exp (S.not_of l c) n v h = exp c n v h
    exp (S.binary l o c d) n v h = (exp c n v h.0, exp d (n + size c) v h.1)
    exp (S.compare l c o d r) n v h = (exp c n v h.0, exp d (n + size c) v h.1, links r (n + size c + size d) v h.2)
    exp (S.and l c es) n v h = (exp c n v h.0, operands es (n + size c) v h.1)
    exp (S.or l c es) n v h = (exp c n v h.0, operands es (n + size c) v h.1)
    exp (S.conditional l t c d) n v h = (exp t n v h.0, exp c (n + size t + 1) v h.1, exp d (n + size t + 1 + size c) v h.2)
    exp (S.call l f args) n v h = (exp f n v h.0, roles_plain args h.1, arguments args (n + size f) v h.1)
    exp (S.lambda l k (S.parameters ps s ks d) e) n v h =
        formals ps n v _ (formals_anywhere ps v (h.0).0) (λ m. formals ks m v _ (formals_anywhere ks v (h.0).1) (λ m. tt))
    exp (S.comprehension l m k t it cs) n v h =
        let u = (n + size it + 1 + 1) ∷ v in (
          exp it n v h.2,
          all_own u (target_names t ++ clause_names cs),
          target t (n + size it + 1 + 1 + 1) u h.1,
          clauses cs (n + size it + 1 + 1 + 1 + target_size t) u _ (clauses_anywhere cs u h.3) (λ j. made m j u h.0),
        )
    exp (S.generator l k e j t it cs) n v h = exp it n v h.2
    exp (S.yield l S.absent) n v h = tt
    exp (S.yield l (S.given e)) n v h = exp e n v h
    exp (S.yield_from l e) n v h = exp e n v h

    exps : (es : Exps) (n : ℕ) (v : List ℕ) → ExpsFormed es → Exps_named a es n v
    exps S.no_exps n v h = tt
    exps (S.more_exps e es) n v h = (exp e n v h.0, exps es (n + size e) v h.1)

    pieces : (ps : Pieces) (n : ℕ) (v : List ℕ) → PiecesFormed ps → Pieces_named a ps n v
    pieces S.no_pieces n v h = tt
    pieces (S.literal l t r) n v h = pieces r (n + 1) v h
    pieces (S.field l e c sp r) n v h = (exp e n v h.0, pieces sp (n + size e) v h.1, pieces r (n + size e + pieces_size sp + joins sp + 1) v h.2)

    entries : (r : Entries) (n : ℕ) (v : List ℕ) → EntriesFormed r → Entries_named a r n v
    entries S.no_entries n v h = tt
    entries (S.entry c d r) n v h = (exp c n v h.0, exp d (n + size c) v h.1, entries r (n + size c + size d) v h.2)

    links : (r : Links) (n : ℕ) (v : List ℕ) → LinksFormed r → Links_named a r n v
    links S.no_links n v h = tt
    links (S.link p c r) n v h = (exp c (n + 1 + 1) v h.0, links r (n + 1 + 1 + size c) v h.1)

    operands : (es : Exps) (n : ℕ) (v : List ℕ) → ExpsFormed es → Operands_named a es n v
    operands S.no_exps n v h = tt
    operands (S.more_exps e es) n v h = (exp e (n + 1) v h.0, operands es (n + 1 + size e) v h.1)

    arguments : (r : Args) (n : ℕ) (v : List ℕ) → ArgsFormed r → Args_named a r n v
    arguments S.no_args n v h = tt
    arguments (S.positional e r) n v h = (exp e n v h.0, arguments r (n + size e) v h.1)
    arguments (S.named x e r) n v h = (exp e n v h.1, arguments r (n + size e) v h.2)
    arguments (S.spread e r) n v h = (exp e n v h.0, arguments r (n + size e + 1) v h.1)
    arguments (S.spread_named e r) n v h = (exp e n v h.0, arguments r (n + size e + 1) v h.1)

    anywhere : (o : Opt) (v : List ℕ) → OptFormed o → OptAnywhere o v
    anywhere S.absent v h = tt
    anywhere (S.given e) v h = λ n. exp e n v h

    formals_anywhere : (ps : Formals) (v : List ℕ) → FormalsFormed ps → FormalsAnywhere ps v
    formals_anywhere S.no_formals v h = tt
    formals_anywhere (S.formal l x t d r) v h = (anywhere d v h.0, formals_anywhere r v h.1)

    clauses_anywhere : (cs : Clauses) (v : List ℕ) → ClausesFormed cs → ClausesAnywhere cs v
    clauses_anywhere S.no_clauses v h = tt
    clauses_anywhere (S.only_if c cs) v h = ((λ n. exp c n v h.0), clauses_anywhere cs v h.1)
    clauses_anywhere (S.for_each k t it cs) v h = ((λ n. target t n v h.0), (λ n. exp it n v h.1), clauses_anywhere cs v h.2)

    made : (m : Made) (n : ℕ) (v : List ℕ) → MadeFormed m → Made_named a m n v
    made (S.a_list e) n v h = exp e n v h
    made (S.a_set e) n v h = exp e n v h
    made (S.a_dict k e) n v h = (exp k n v h.0, exp e (n + size k) v h.1)

    target : (t : Tgt) (n : ℕ) (v : List ℕ) → TgtFormed t → Target_named a t n v
    target (S.single p) n v h = place p n v h
    target (S.several l f ts) n v h = targets ts (n + 1) v h
    target (S.starred l t) n v h = target t n v h

    targets : (ts : Tgts) (n : ℕ) (v : List ℕ) → TgtsFormed ts → Targets_named a ts n v
    targets S.no_targets n v h = tt
    targets (S.more_targets t ts) n v h = (target t n v h.0, targets ts (n + target_size t) v h.1)

    place : (p : Place) (n : ℕ) (v : List ℕ) → PlaceFormed p → Place_named a p n v
    place (S.name_at l x) n v h = tt
    place (S.attribute_at l c x) n v h = exp c n v h
    place (S.item_at l c i) n v h = (exp c n v h.0, exp i (n + size c) v h.1)

  optional : (o : Opt) (n : ℕ) → OptFormed o → Opt_named a o n
  optional S.absent n h = tt
  optional (S.given e) n h = exp e n [] h

  changed : (p : Place) (e : Exp) (n : ℕ) → PlaceFormed p → ExpFormed e → Changed_named a p e n
  changed (S.name_at l x) e n h g = exp e (n + 1) [] g
  changed (S.attribute_at l c x) e n h g = (exp c n [] h, exp e (n + size c + 1) [] g)
  changed (S.item_at l c i) e n h g = (exp c n [] h.0, exp i (n + size c) [] h.1, exp e (n + size c + size i + 1) [] g)

  abbrev PlacesFormed : List Place → Type 0
  PlacesFormed [] = Unit {0}
  PlacesFormed (p ∷ ps) = PlaceFormed p × PlacesFormed ps

  both_formed : (ps qs : List Place) → PlacesFormed ps → PlacesFormed qs → PlacesFormed (ps ++ qs)
  both_formed [] qs h g = g
  both_formed (p ∷ ps) qs h g = (h.0, both_formed ps qs h.1 g)

  mutual
    places_formed : (t : Tgt) → TgtFormed t → PlacesFormed (places t)
    places_formed (S.single p) h = (h, tt)
    places_formed (S.several l f ts) h = all_places_formed ts h
    places_formed (S.starred l t) h = places_formed t h

    all_places_formed : (ts : Tgts) → TgtsFormed ts → PlacesFormed (all_places ts)
    all_places_formed S.no_targets h = tt
    all_places_formed (S.more_targets t ts) h = both_formed (places t) (all_places ts) (places_formed t h.0) (all_places_formed ts h.1)

  deleted : (ps : List Place) (n : ℕ) → PlacesFormed ps → All_deleted_named a ps n
  deleted [] n h = tt
  deleted (p ∷ ps) n h = (place p n [] h.0, deleted ps (n + place_size p) h.1)

  definition : (ds : Decorators) (made : ℕ → Type 0) (n : ℕ) → DecoratorsFormed ds → ((m : ℕ) → made m) → Definition_named a ds made n
  definition S.no_decorators p n h f = f n
  definition (S.decorator l e r) p n h f = (exp e n [] h.0, definition r p (n + size e) h.1 f)

  parameters : (ps : Params) (n : ℕ) → ParamsFormed ps → Parameters_named a ps n
  parameters (S.parameters ps s ks d) n h = formals ps n [] _ (formals_anywhere ps [] h.0) (λ m. formals ks m [] _ (formals_anywhere ks [] h.1) (λ m. tt))

  items : (is : Items) (body : ℕ → Type 0) (n : ℕ) → ItemsFormed is → ((m : ℕ) → body m) → Items_named a is body n
  items S.no_items p n h f = f n
  items (S.with_item l e None r) p n h f = (exp e n [] h.0, items r p (n + size e + 1) h.2 f)
  items (S.with_item l e (Some t) r) p n h f = (exp e n [] h.0, target t (n + size e + 1) [] h.1, items r p (n + size e + 1 + target_size t) h.2 f)

  abbrev BranchesAnywhere : Branches → Type 0
  BranchesAnywhere S.no_branches = Unit {0}
  BranchesAnywhere (S.branch l c body r) = ((n : ℕ) → Exp_named a c n []) × ((n : ℕ) → All_named a body n) × BranchesAnywhere r

  branches : (bs : Branches) (otherwise : ℕ → Type 0) (n : ℕ) → BranchesAnywhere bs → ((m : ℕ) → otherwise m) → Branches_named a bs otherwise n
  branches S.no_branches p n h f = f n
  branches (S.branch l c body r) p n h f = (h.0 n, h.1 (tested_body n c), branches r p (behind_body n c body) h.2 f)

  mutual
    stm : (st : Stm) (n : ℕ) → StmFormed st → Stm_named a st n
    stm (S.expr l e) n h = exp e n [] h
    stm (S.assign l ts e) n h = (exp e n [] h.1, targets ts (n + size e) [] h.0)
    stm (S.augmented l p o e) n h = changed p e n h.0 h.1
    stm (S.annotated l p c S.absent) n h = tt
    stm (S.annotated l p c (S.given e)) n h = (exp e n [] h.1, place p (n + size e) [] h.0)
    stm (S.assert l c m) n h = (exp c n [] h.0, optional m (n + size c + 1) h.1)
    stm (S.del l ts) n h = deleted (all_places ts) n (all_places_formed ts h)
    stm (S.return l e) n h = optional e n h
    stm (S.raise l e c) n h = (exp e n [] h.0, optional c (n + size e) h.1)
    stm (S.choice l bs els) n h = branches bs _ n (branches_anywhere bs h.0) (λ m. statements els m h.1)
    stm (S.while l c body els) n h = (exp c n [] h.0, statements body (tested_body n c) h.1, statements els (behind_body n c body) h.2)
    stm (S.for l t it body els) n h =
        (exp it n [] h.1, target t (n + size it + 1 + 1) [] h.0, statements body (for_body (n + size it + 1) t) h.2, statements els (for_else (n + size it + 1) t body) h.3)
    stm (S.try l body hs els fin) n h =
        (statements body (n + 1) h.1, handlers hs (try_handlers n body) h.2, statements els (try_else n body hs) h.3, statements fin (try_finally n body hs els) h.4)
    stm (S.with l is body) n h = items is _ n h.1 (λ m. statements body m h.2)
    stm (S.def l ds k c y ps e body) n h = definition ds _ n h.0 (λ m. parameters ps m h.1)
    stm (S.class l ds k c y base body) n h = definition ds _ n h.0 (λ m. optional base m h.1)
    stm st n h = tt

    statements : (ss : Stms) (n : ℕ) → StmsFormed ss → All_named a ss n
    statements none n h = tt
    statements (more st ss) n h = (stm st n h.0, statements ss (n + stm_size st) h.1)

    branches_anywhere : (bs : Branches) → BranchesFormed bs → BranchesAnywhere bs
    branches_anywhere S.no_branches h = tt
    branches_anywhere (S.branch l c body r) h = ((λ n. exp c n [] h.0), (λ n. statements body n h.1), branches_anywhere r h.2)

    handlers : (hs : Handlers) (n : ℕ) → HandlersFormed hs → Handlers_named a hs n
    handlers S.no_handlers n h = tt
    handlers (S.handler l S.absent y body r) n h = (statements body (handler_body n y) h.1, handlers r (handler_body n y + stms_size body) h.2)
    handlers (S.handler l (S.given c) y body r) n h =
        (exp c n [] h.0, statements body (handler_body (n + size c) y) h.1, handlers r (handler_body (n + size c) y + stms_size body) h.2)

pub arguments_plain : {V : Type 0} → ArgumentsArePlain V
arguments_plain null (B.of_module ss) h = statements null ss 0 h
arguments_plain null (B.of_function ss) h = statements null (function_body ss) 0 (body_formed ss h)
arguments_plain null (B.of_class ss) h = statements null ss 0 h
arguments_plain null (B.of_lambda l e) h = exp null e 0 [] h
arguments_plain null (B.of_generator l e k t cs) h = (target null t (0 + 1) [] h.1, clauses null cs (0 + 1 + target_size t) [] _ (clauses_anywhere null cs [] h.2) (λ m. exp null e m [] h.0))
