-- In statements whose mentions are in their places, exits of loops stand in loops of their blocks.
use Rattle.std.proofs.Common.{◌≡◌, ℕ, zero, suc, Bool, true, false, cond, List, [], ◌∷◌, map, Some, None, refl, ap, subst, ◌∙◌}
use Rattle.std.specs.Prelude.{◌||◌, slice_get}
use Rattle.pt_scopes.specs.declared.region.Context.{Context}
use Rattle.pt_scopes.specs.declared.region.Role.TheVariants.{Bind}
use Rattle.pt_scopes.specs.Mentions.{places_branches, places_decorators, places_exp, places_handlers, places_items, places_named, places_opt, places_params, places_script, places_stm, places_stms, places_target, tells}
use Rattle.pt_scopes.specs.Places.{Part, ◌⨾◌, class_context, function_context, in_class, in_function, loop_context, module_context}
use Rattle.pt_scopes.specs.Refusals.{fault_of}
use Rattle.pt_scopes.specs.Scope.{facts}
use Rattle.pt_tree.specs.Syntax as S
use Rattle.pt_tree.specs.Syntax.{Name, Stm, Stms, Branches, Handlers}
use Rattle.pt_tree.specs.Blocks.{Block, blocks_branches, blocks_decorators, blocks_exp, blocks_handlers, blocks_items, blocks_opt, blocks_params, blocks_place, blocks_script, blocks_stm, blocks_stms, blocks_target, blocks_targets, first_statement, function_body, inside_class, is_string}
use Rattle.pt_assembler.specs.declared.operation.Exit.{Exit}
use Rattle.sem_compile.specs.stm_pieces.Needed.{exits, some_branch_exits, some_exits, some_handler_exits}
use Rattle.sem_compile.specs.stm_pieces.Laws.{NoExits, StandsInLoops}
use Rattle.law_pieces.proofs.script_pieces.Expressions.{both3, both4, AllStand, both, stand_decorators, stand_exp, stand_items, stand_opt, stand_params, stand_place, stand_target, stand_targets}
use Rattle.law_pieces.proofs.script_pieces.Placed.{AllPlaced, Placed, all_placed, in_a_loop, into_class, into_function, split}

neither : (b c : Bool) → b ≡ false → c ≡ false → (b || c) ≡ false
neither true c is h = is
neither false c is h = h

-- the last of several parts

second : (f g : Part) → Placed (f ⨾ g) → Placed g
second f g p = (split f g p).1

third : (f g h : Part) → Placed (f ⨾ (g ⨾ h)) → Placed h
third f g h p = second g h (second f (g ⨾ h) p)

mutual
  no_exits : (a : Context) → a.in_loop ≡ false → (c : Name) (st : Stm) → Placed (places_stm a c st) → (e : Exit) → exits e st ≡ false
  no_exits a outside c (S.break l) p e = in_a_loop a.in_loop a l outside p
  no_exits a outside c (S.continue l) p e = in_a_loop a.in_loop a l outside p
  no_exits a outside c (S.choice l bs els) p e =
      let parts : Placed (places_branches a c bs) × Placed (places_stms a c els) = split (places_branches a c bs) (places_stms a c els) p in
      neither (some_branch_exits e bs) (some_exits e els) (no_branch_exits a outside c bs parts.0 e) (none_exits a outside c els parts.1 e)
  no_exits a outside c (S.while l t body els) p e =
      none_exits a outside c els (third (places_exp a c t) (places_stms (loop_context a) c body) (places_stms a c els) p) e
  no_exits a outside c (S.for l t it body els) p e =
      none_exits a outside c els
      (third (places_exp a c it) (places_stms (loop_context a) c body) (places_stms a c els)
      (second (places_target a c t) (places_exp a c it ⨾ places_stms (loop_context a) c body ⨾ places_stms a c els) p)) e
  no_exits a outside c (S.try l body hs els fin) p e =
      let one = split (places_stms a c body) (places_handlers a c hs ⨾ places_stms a c els ⨾ places_stms a c fin) p in
      let two = split (places_handlers a c hs) (places_stms a c els ⨾ places_stms a c fin) one.1 in
      let three = split (places_stms a c els) (places_stms a c fin) two.1 in
      neither (some_exits e body) (some_handler_exits e hs || (some_exits e els || some_exits e fin)) (none_exits a outside c body one.0 e)
      (neither (some_handler_exits e hs) (some_exits e els || some_exits e fin) (no_handler_exits a outside c hs two.0 e)
      (neither (some_exits e els) (some_exits e fin) (none_exits a outside c els three.0 e) (none_exits a outside c fin three.1 e)))
  no_exits a outside c (S.with l is body) p e = none_exits a outside c body (second (places_items a c is) (places_stms a c body) p) e
  no_exits a outside c st p e = refl

  none_exits : (a : Context) → a.in_loop ≡ false → (c : Name) (ss : Stms) → Placed (places_stms a c ss) → (e : Exit) → some_exits e ss ≡ false
  none_exits a outside c S.none p e = refl
  none_exits a outside c (S.more st ss) p e =
      let parts : Placed (places_stm a c st) × Placed (places_stms a c ss) = split (places_stm a c st) (places_stms a c ss) p in
      neither (exits e st) (some_exits e ss) (no_exits a outside c st parts.0 e) (none_exits a outside c ss parts.1 e)

  no_branch_exits : (a : Context) → a.in_loop ≡ false → (c : Name) (bs : Branches) → Placed (places_branches a c bs) → (e : Exit)
      → some_branch_exits e bs ≡ false
  no_branch_exits a outside c S.no_branches p e = refl
  no_branch_exits a outside c (S.branch l t body r) p e =
      let rest = split (places_exp a c t) (places_stms a c body ⨾ places_branches a c r) p in
      let parts = split (places_stms a c body) (places_branches a c r) rest.1 in
      neither (some_exits e body) (some_branch_exits e r) (none_exits a outside c body parts.0 e) (no_branch_exits a outside c r parts.1 e)

  no_handler_exits : (a : Context) → a.in_loop ≡ false → (c : Name) (hs : Handlers) → Placed (places_handlers a c hs) → (e : Exit)
      → some_handler_exits e hs ≡ false
  no_handler_exits a outside c S.no_handlers p e = refl
  no_handler_exits a outside c (S.handler l t x body r) p e =
      let rest = third (places_opt a c t) (places_named a c l x) (places_stms a c body ⨾ places_handlers a c r) p in
      let parts = split (places_stms a c body) (places_handlers a c r) rest in
      neither (some_exits e body) (some_handler_exits e r) (none_exits a outside c body parts.0 e) (no_handler_exits a outside c r parts.1 e)

-- the documentation string of a function is no exit

text_exits : (b : Bool) (l : ℕ) (x : S.Exp) (e : Exit) → exits e (cond b (S.docstring l) (S.expr l x)) ≡ false
text_exits true l x e = refl
text_exits false l x e = refl

first_exits : (st : Stm) (e : Exit) → exits e (first_statement st) ≡ exits e st
first_exits (S.expr l x) e = text_exits (is_string x) l x e
first_exits st e = refl

body_exits : (ss : Stms) → NoExits ss → NoExits (function_body ss)
body_exits S.none h e = refl
body_exits (S.more st ss) h e = ap (λ (b : Bool). b || some_exits e ss) (first_exits st e) ∙ h e

-- the class around a block is nothing to the loops in it
inside : (x : Name) (bs : List Block) → AllStand bs → AllStand (map (inside_class x) bs)
inside x [] h = tt
inside x (b ∷ bs) h = (h.0, inside x bs h.1)

mutual
  stand_stm : (a : Context) (c : Name) (st : Stm) → Placed (places_stm a c st) → AllStand (blocks_stm st)
  stand_stm a c (S.expr l e) p = stand_exp e
  stand_stm a c (S.assign l ts e) p = both (blocks_targets ts) (blocks_exp e) (stand_targets ts) (stand_exp e)
  stand_stm a c (S.augmented l q o e) p = both (blocks_place q) (blocks_exp e) (stand_place q) (stand_exp e)
  stand_stm a c (S.annotated l q n v) p = both (blocks_place q) (blocks_opt v) (stand_place q) (stand_opt v)
  stand_stm a c (S.assert l t m) p = both (blocks_exp t) (blocks_opt m) (stand_exp t) (stand_opt m)
  stand_stm a c (S.pass l) p = tt
  stand_stm a c (S.del l ts) p = stand_targets ts
  stand_stm a c (S.return l v) p = stand_opt v
  stand_stm a c (S.raise l e f) p = both (blocks_exp e) (blocks_opt f) (stand_exp e) (stand_opt f)
  stand_stm a c (S.raise_again l) p = tt
  stand_stm a c (S.break l) p = tt
  stand_stm a c (S.continue l) p = tt
  stand_stm a c (S.import l xs) p = tt
  stand_stm a c (S.import_from l m xs) p = tt
  stand_stm a c (S.global l xs) p = tt
  stand_stm a c (S.nonlocal l xs) p = tt
  stand_stm a c (S.choice l bs els) p =
      let parts = split (places_branches a c bs) (places_stms a c els) p in
      both (blocks_branches bs) (blocks_stms els) (stand_branches a c bs parts.0) (stand_stms a c els parts.1)
  stand_stm a c (S.while l t body els) p =
      let rest = second (places_exp a c t) (places_stms (loop_context a) c body ⨾ places_stms a c els) p in
      let parts = split (places_stms (loop_context a) c body) (places_stms a c els) rest in
      both3 (blocks_exp t) (blocks_stms body) (blocks_stms els) (stand_exp t) (stand_stms (loop_context a) c body parts.0) (stand_stms a c els parts.1)
  stand_stm a c (S.for l t it body els) p =
      let rest = third (places_target a c t) (places_exp a c it) (places_stms (loop_context a) c body ⨾ places_stms a c els) p in
      let parts = split (places_stms (loop_context a) c body) (places_stms a c els) rest in
      both4 (blocks_target t) (blocks_exp it) (blocks_stms body) (blocks_stms els) (stand_target t) (stand_exp it)
      (stand_stms (loop_context a) c body parts.0) (stand_stms a c els parts.1)
  stand_stm a c (S.try l body hs els fin) p =
      let one = split (places_stms a c body) (places_handlers a c hs ⨾ places_stms a c els ⨾ places_stms a c fin) p in
      let two = split (places_handlers a c hs) (places_stms a c els ⨾ places_stms a c fin) one.1 in
      let three = split (places_stms a c els) (places_stms a c fin) two.1 in
      both4 (blocks_stms body) (blocks_handlers hs) (blocks_stms els) (blocks_stms fin) (stand_stms a c body one.0)
      (stand_handlers a c hs two.0) (stand_stms a c els three.0) (stand_stms a c fin three.1)
  stand_stm a c (S.with l is body) p =
      both (blocks_items is) (blocks_stms body) (stand_items is) (stand_stms a c body (second (places_items a c is) (places_stms a c body) p))
  stand_stm a c (S.def l ds dl n x ps r body) p =
      let made = third (places_decorators a c ds) (tells Bind a c x dl) (in_function a (λ b. places_params a b c ps ⨾ places_stms b c body)) p in
      let entered = into_function a (λ b. places_params a b c ps ⨾ places_stms b c body) made in
      let b = function_context entered.0 in
      let inner = second (places_params a b c ps) (places_stms b c body) entered.1 in
      both4 (blocks_decorators ds) (_ ∷ []) (blocks_params ps) (blocks_stms body) (stand_decorators ds)
      (body_exits body (none_exits b refl c body inner), tt) (stand_params ps) (stand_stms b c body inner)
  stand_stm a c (S.class l ds cl n x base body) p =
      let made = third (places_decorators a c ds) (tells Bind a c x cl) (in_class a (λ b. places_opt a c base ⨾ places_stms b x body)) p in
      let entered = into_class a (λ b. places_opt a c base ⨾ places_stms b x body) made in
      let b = class_context entered.0 in
      let inner = second (places_opt a c base) (places_stms b x body) entered.1 in
      both4 (blocks_decorators ds) (_ ∷ []) (blocks_opt base) (map (inside_class x) (blocks_stms body)) (stand_decorators ds)
      (none_exits b refl x body inner, tt) (stand_opt base) (inside x (blocks_stms body) (stand_stms b x body inner))
  stand_stm a c (S.docstring l) p = tt

  stand_stms : (a : Context) (c : Name) (ss : Stms) → Placed (places_stms a c ss) → AllStand (blocks_stms ss)
  stand_stms a c S.none p = tt
  stand_stms a c (S.more st ss) p =
      let parts = split (places_stm a c st) (places_stms a c ss) p in
      both (blocks_stm st) (blocks_stms ss) (stand_stm a c st parts.0) (stand_stms a c ss parts.1)

  stand_branches : (a : Context) (c : Name) (bs : Branches) → Placed (places_branches a c bs) → AllStand (blocks_branches bs)
  stand_branches a c S.no_branches p = tt
  stand_branches a c (S.branch l t body r) p =
      let rest = second (places_exp a c t) (places_stms a c body ⨾ places_branches a c r) p in
      let parts = split (places_stms a c body) (places_branches a c r) rest in
      both3 (blocks_exp t) (blocks_stms body) (blocks_branches r) (stand_exp t) (stand_stms a c body parts.0) (stand_branches a c r parts.1)

  stand_handlers : (a : Context) (c : Name) (hs : Handlers) → Placed (places_handlers a c hs) → AllStand (blocks_handlers hs)
  stand_handlers a c S.no_handlers p = tt
  stand_handlers a c (S.handler l t x body r) p =
      let rest = third (places_opt a c t) (places_named a c l x) (places_stms a c body ⨾ places_handlers a c r) p in
      let parts = split (places_stms a c body) (places_handlers a c r) rest in
      both3 (blocks_opt t) (blocks_stms body) (blocks_handlers r) (stand_opt t) (stand_stms a c body parts.0) (stand_handlers a c r parts.1)

stand_at : (bs : List Block) → AllStand bs → (i : ℕ) (k : Block) → slice_get bs i ≡ Some k → StandsInLoops k.code
stand_at [] h i k at = absurd (let same : None ≡ Some k = at in cc)
stand_at (b ∷ bs) h zero k at = let same : b ≡ k = (let there : Some b ≡ Some k = at in cc) in by b k same h.0
  where
    by : (b k : Block) → b ≡ k → StandsInLoops b.code → StandsInLoops k.code
    by b k same h = subst (λ (c : Block). StandsInLoops c.code) same h
stand_at (b ∷ bs) h (suc i) k at = stand_at bs h.1 i k at

stand_script : (ss : Stms) → AllPlaced (places_script ss).mentions → AllStand (blocks_script ss)
stand_script ss placed =
    let p : Placed (places_stms module_context [] ss) = (1, placed) in
    (none_exits module_context refl [] ss p, stand_stms module_context [] ss p)

pub exits_in_loops : (ss : Stms) (b : ℕ) (k : Block) → fault_of (places_script ss) ≡ None → slice_get (blocks_script ss) b ≡ Some k → StandsInLoops k.code
exits_in_loops ss b k none at =
    let g = places_script ss in
    stand_at (blocks_script ss) (stand_script ss (all_placed g.regions (facts g.mentions) [] g.mentions none)) b k at
