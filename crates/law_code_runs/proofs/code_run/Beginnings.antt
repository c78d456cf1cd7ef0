-- Where something begins in a nest, the exception that is active is that of the nest.
use Rattle.std.proofs.Common.{◌≡◌, ℕ, ◌+◌, List, [], ◌∷◌, Bool, false, None, refl}
use Rattle.pt_tree.specs.Syntax as S
use Rattle.pt_tree.specs.Syntax.{Exp, Formals, Params, Place, Tgt, Tgts, Items, Stm, Stms, Branches, none, more}
use Rattle.pt_tree.specs.Sizes.{stm_size}
use Rattle.pt_tree.specs.Blocks as B
use Rattle.pt_tree.specs.Blocks.{Code, function_body}
use Rattle.pt_tree.specs.declared.statement.Alias.{Alias}
use Rattle.sem_control.specs.control.Turn.{Around, Variable, Operation}
use Rattle.sem_control.specs.control.Frames as F
use Rattle.sem_control.specs.control.Frames.{Nest, Wait, Purpose, Operand, Control, Definition, a_function, a_class, Decorating}
use Rattle.sem_control.specs.control.Bases.{base, purpose_base, active}
use Rattle.sem_control.specs.control.Expressions.{begin_operation, begin_exp, begin_defaults, begin_function}
use Rattle.sem_control.specs.control.Statements.{all_places, begin_place, begin_deletes, begin_imports, begin_definition, begin_stm, begin_all}
use Rattle.sem_control.specs.control.Control.{context_at}
use Rattle.sem_control.specs.control.Reached.{start_code}

module _ {V : Type 0} (block : Around V) where
  operation_context : (xs : List Variable) (l n : ℕ) (g : Bool) (op : Operation) (vs : List V) (w : Wait V) → context_at (begin_operation block xs l n g op vs w) ≡ active (base w)
  operation_context [] l n g op vs w = refl
  operation_context (x ∷ xs) l n g op vs w = refl

  mutual
    exp_context : (e : Exp) (n : ℕ) (g : Bool) (w : Wait V) → context_at (begin_exp block e n g w) ≡ active (base w)
    exp_context (S.constant l k) n g w = refl
    exp_context (S.name l x) n g w = refl
    exp_context (S.joined l S.no_pieces) n g w = refl
    exp_context (S.joined l (S.literal k t r)) n g w = refl
    exp_context (S.joined l (S.field k e c sp r)) n g w = exp_context e n g _
    exp_context (S.tuple l S.no_exps) n g w = refl
    exp_context (S.tuple l (S.more_exps e es)) n g w = exp_context e n g _
    exp_context (S.list l S.no_exps) n g w = refl
    exp_context (S.list l (S.more_exps e es)) n g w = exp_context e n g _
    exp_context (S.set l S.no_exps) n g w = refl
    exp_context (S.set l (S.more_exps e es)) n g w = exp_context e n g _
    exp_context (S.dict l S.no_entries) n g w = refl
    exp_context (S.dict l (S.entry k v r)) n g w = exp_context k n g _
    exp_context (S.attribute l a x) n g w = exp_context a n g _
    exp_context (S.item l a i) n g w = exp_context a n g _
    exp_context (S.slice l S.absent S.absent S.absent) n g w = refl
    exp_context (S.slice l S.absent S.absent (S.given c)) n g w = exp_context c n g _
    exp_context (S.slice l S.absent (S.given b) c) n g w = exp_context b n g _
    exp_context (S.slice l (S.given a) b c) n g w = exp_context a n g _
    exp_context (S.unary l o a) n g w = exp_context a n g _
    exp_context (S.not_of l a) n g w = exp_context a n g _
    exp_context (S.binary l o a b) n g w = exp_context a n g _
    exp_context (S.compare l a o b r) n g w = exp_context a n g _
    exp_context (S.and l a es) n g w = exp_context a n g _
    exp_context (S.or l a es) n g w = exp_context a n g _
    exp_context (S.conditional l c a b) n g w = exp_context c n g _
    exp_context (S.call l f args) n g w = exp_context f n g _
    exp_context (S.lambda l b (S.parameters ps s ks d) e) n g w =
        defaults_context ps _ _ l n g w _ (defaults_context ks _ _ l n g w _ (operation_context (block.captured b) l n g _ [] w))
    exp_context (S.comprehension l m k t it cs) n g w = exp_context it n g _
    exp_context (S.generator l b e k t it cs) n g w = exp_context it n g _
    exp_context (S.yield l S.absent) n g w = refl
    exp_context (S.yield l (S.given e)) n g w = exp_context e n g _
    exp_context (S.yield_from l e) n g w = exp_context e n g _

    defaults_context : (ps : Formals) (os : List Operand) (op : Operation) (l n : ℕ) (g : Bool) (w : Wait V) (after : Control V)
        → context_at after ≡ active (base w) → context_at (begin_defaults block ps os op l n g w after) ≡ active (base w)
    defaults_context S.no_formals os op l n g w after h = h
    defaults_context (S.formal k x a S.absent r) os op l n g w after h = defaults_context r os op l n g w after h
    defaults_context (S.formal k x a (S.given d) r) os op l n g w after h = exp_context d n g _

  function_context : (b : ℕ) (ps : Params) (l n : ℕ) (w : Wait V) → context_at (begin_function block b ps l n w) ≡ active (base w)
  function_context b (S.parameters ps s ks d) l n w =
      defaults_context ps _ _ l n false w _ (defaults_context ks _ _ l n false w _ (operation_context (block.captured b) l n false _ [] w))

  place_context : (p : Place) (n : ℕ) (q : Purpose V) → context_at (begin_place block p n q) ≡ active (purpose_base q)
  place_context (S.name_at l x) n (F.storing v k) = refl
  place_context (S.name_at l x) n (F.deleting k) = refl
  place_context (S.name_at l x) n (F.changing_by j o e s) = refl
  place_context (S.attribute_at l a x) n q = exp_context a n false _
  place_context (S.item_at l a i) n q = exp_context a n false _

  deletes_context : (ps : List Place) (n : ℕ) (s : Nest V) (after : Control V) → context_at after ≡ active s → context_at (begin_deletes block ps n s after) ≡ active s
  deletes_context [] n s after h = h
  deletes_context (p ∷ ps) n s after h = place_context p n _

  imports_context : (l n : ℕ) (xs : List Alias) (s : Nest V) (after : Control V) → context_at after ≡ active s → context_at (begin_imports block l n xs s after) ≡ active s
  imports_context l n [] s after h = h
  imports_context l n (a ∷ xs) s after h = refl

  definition_context : (l n : ℕ) (x : S.Name) (d : Definition) (calls : List (Decorating V)) (s : Nest V)
      → context_at (begin_definition block l n x d calls s) ≡ active s
  definition_context l n x (a_function b ps) calls s = function_context b ps l n _
  definition_context l n x (a_class b S.absent) calls s = operation_context (block.captured b) l n false _ _ _
  definition_context l n x (a_class b (S.given e)) calls s = exp_context e n false _

  mutual
    stm_context : (st : Stm) (n : ℕ) (s : Nest V) (after : Control V) → context_at after ≡ active s → context_at (begin_stm block st n s after) ≡ active s
    stm_context (S.expr l e) n s after h = exp_context e n false _
    stm_context (S.assign l ts e) n s after h = exp_context e n false _
    stm_context (S.augmented l p o e) n s after h = place_context p n _
    stm_context (S.annotated l p a S.absent) n s after h = refl
    stm_context (S.annotated l p a (S.given e)) n s after h = exp_context e n false _
    stm_context (S.assert l c m) n s after h = exp_context c n false _
    stm_context (S.pass l) n s after h = refl
    stm_context (S.del l ts) n s after h = deletes_context (all_places ts) n s after h
    stm_context (S.return l S.absent) n s after h = refl
    stm_context (S.return l (S.given e)) n s after h = exp_context e n false _
    stm_context (S.raise l e c) n s after h = exp_context e n false _
    stm_context (S.raise_again l) n s after h = refl
    stm_context (S.break l) n s after h = refl
    stm_context (S.continue l) n s after h = refl
    stm_context (S.import l xs) n s after h = imports_context l n xs s after h
    stm_context (S.import_from l m xs) n s after h = refl
    stm_context (S.global l xs) n s after h = h
    stm_context (S.nonlocal l xs) n s after h = h
    stm_context (S.choice l S.no_branches els) n s after h = all_context els n s after h
    stm_context (S.choice l (S.branch k c body r) els) n s after h = exp_context c n false _
    stm_context (S.while l c body els) n s after h = exp_context c n false _
    stm_context (S.for l t it body els) n s after h = exp_context it n false _
    stm_context (S.try l body hs els fin) n s after h = refl
    stm_context (S.with l S.no_items body) n s after h = all_context body n s after h
    stm_context (S.with l (S.with_item k e t r) body) n s after h = exp_context e n false _
    stm_context (S.def l S.no_decorators k b x ps a body) n s after h = definition_context k n x (a_function b ps) [] s
    stm_context (S.def l (S.decorator j e r) k b x ps a body) n s after h = exp_context e n false _
    stm_context (S.class l S.no_decorators k b x base' body) n s after h = definition_context k n x (a_class b base') [] s
    stm_context (S.class l (S.decorator j e r) k b x base' body) n s after h = exp_context e n false _
    stm_context (S.docstring l) n s after h = h

    all_context : (ss : Stms) (n : ℕ) (s : Nest V) (after : Control V) → context_at after ≡ active s → context_at (begin_all block ss n s after) ≡ active s
    all_context none n s after h = h
    all_context (more st ss) n s after h =
        stm_context st n (F.rest (n + stm_size st) ss ∷ s) (begin_all block ss (n + stm_size st) s after) (all_context ss (n + stm_size st) s after h)

  -- nothing is active where a block begins
  pub start_context : (c : Code) (i : V) → context_at (start_code block c i) ≡ None
  start_context (B.of_module ss) i = all_context ss 0 [] _ refl
  start_context (B.of_function ss) i = all_context (function_body ss) 0 [] _ refl
  start_context (B.of_class ss) i = all_context ss 0 [] _ refl
  start_context (B.of_lambda l e) i = exp_context e 0 false _
  start_context (B.of_generator l e k t cs) i = refl
