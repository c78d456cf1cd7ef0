-- The names in statements, and the blocks in them.
use Rattle.std.proofs.Common.{◌≡◌, ℕ, ◌+◌, Bool, true, false, cond, List, [], ◌∷◌, ◌++◌, map, Option, Some, None, refl, sym, ap, subst, append_assoc, append-nil, arith}
use Rattle.pt_scopes.specs.declared.region.Context.{Context}
use Rattle.pt_scopes.specs.Mentions.{bound_name, places_branches, places_decorators, places_exp, places_handlers, places_imports, places_items, places_named, places_opt, places_opt_target, places_params, places_place, places_stm, places_stms, places_target, places_targets}
use Rattle.pt_scopes.specs.Names.{mangled}
use Rattle.pt_scopes.specs.Places.{◌⨾◌, loop_context}
use Rattle.pt_tree.specs.declared.statement.Alias.{Alias}
use Rattle.pt_tree.specs.Syntax as S
use Rattle.pt_tree.specs.Syntax.{Name, Exp, Opt, Place, Tgt, Tgts, Decorators, Items, Stm, Stms, Branches, Handlers}
use Rattle.pt_tree.specs.Blocks as B
use Rattle.pt_tree.specs.Blocks.{Block, blocks_branches, blocks_decorators, blocks_place, blocks_exp, blocks_handlers, blocks_items, blocks_opt, blocks_params, blocks_stm, blocks_stms, blocks_target, blocks_targets, first_line_of, first_statement, function_body, inside_class, is_string, no_params}
use Rattle.pt_tree.specs.Sizes.{size, opt_size, place_size, target_size, deleted_size, all_deleted_size, decorators_size, stored_by, stm_size, stms_size, branches_size, handlers_size}
use Rattle.sem_control.specs.numbering.Numbered.{numbers_branches, numbers_decorators, numbers_exp, numbers_handlers, numbers_items, numbers_opt, numbers_params, numbers_place, numbers_stm, numbers_stms, numbers_target, numbers_targets}
use Rattle.sem_control.specs.control.Turn.{Around}
use Rattle.sem_control.specs.control.Statements.{all_places, places}
use Rattle.sem_names.specs.Around.{around_by}
use Rattle.sem_names.specs.Nexts.{behind_items, nexts_all_deleted, nexts_body, nexts_branches, nexts_decorators, nexts_deleted, nexts_exp, nexts_handlers, nexts_items, nexts_opt, nexts_params, nexts_place, nexts_stm, nexts_stms}
use Rattle.sem_names.specs.Script.{Naming, class_name_of}
use Rattle.law_files.specs.sem_compile.stm_pieces.Names.{All_deleted_named, All_named, Branches_named, Changed_named, Definition_named, Handlers_named, Items_named, Opt_named, Parameters_named, Stm_named, Target_named, Value_named}
use Rattle.law_operands.specs.piece_names.Laws.{all_local}
use Rattle.law_operands.proofs.piece_names.Standing.{class_walked, definition_list, function_walked, gives, leaf, names_walked, placed, regroup, same_lists, spelled_at, told, two, two_of}
use Rattle.law_operands.proofs.piece_names.Own.{Comprehends}
use Rattle.law_operands.proofs.piece_names.Expressions.{In, Leads, Named, Walk, exp, moved, params, place, target, targets}

-- branches without what stands behind them

branches_split : {V : Type 0} (r : Around V) (bs : Branches) (F : ℕ → Type 0) (n : ℕ) → Branches_named r bs F n
    → Branches_named r bs (λ j. Unit {0}) n × F (n + branches_size bs)
branches_split r S.no_branches F n h = let same : n ≡ n + 0 = omega arith in (tt, subst F same h)
branches_split r (S.branch l c body bs) F n h =
    let p = branches_split r bs F (n + size c + 1 + stms_size body) h.2 in
    let same : n + size c + 1 + stms_size body + branches_size bs ≡ n + (size c + 1 + stms_size body + branches_size bs) = omega arith in
    ((h.0, h.1, p.0), subst F same p.1)

branches_join : {V : Type 0} (r : Around V) (bs : Branches) (F : ℕ → Type 0) (n : ℕ) → Branches_named r bs (λ j. Unit {0}) n
    → F (n + branches_size bs) → Branches_named r bs F n
branches_join r S.no_branches F n h f = let same : n + 0 ≡ n = omega arith in subst F same f
branches_join r (S.branch l c body bs) F n h f =
    let same : n + (size c + 1 + stms_size body + branches_size bs) ≡ n + size c + 1 + stms_size body + branches_size bs = omega arith in
    (h.0, h.1, branches_join r bs F (n + size c + 1 + stms_size body) h.2 (subst F same f))

module _ {V : Type 0} (null : V) (g : Naming) (numbers : List ℕ) (all : Comprehends g) where
  value : (e : Exp) (n : ℕ) (a : Context) (c : Name) → In null g numbers all true a c (places_exp a c e) (nexts_exp true e n) (numbers_exp e) (blocks_exp e) (λ r. Value_named r e n)
  value e n a c = exp null g numbers all true e n [] a c

  option : (o : Opt) (n : ℕ) (a : Context) (c : Name) → In null g numbers all true a c (places_opt a c o) (nexts_opt true o n) (numbers_opt o) (blocks_opt o) (λ r. Opt_named r o n)
  option S.absent n a c = leaf (λ b at is h. tt)
  option (S.given e) n a c = value e n a c

  -- places that are deleted, in front of others
  mutual
    deleted : (t : Tgt) (ps : List Place) (n : ℕ) (a : Context) (c : Name) → Leads null g numbers all true a c (places_target a c t) (nexts_deleted t n) (numbers_target t) (blocks_target t)
        (λ r. All_deleted_named r ps (n + deleted_size t)) (λ r. All_deleted_named r (places t ++ ps) n)
    deleted (S.single p) ps n a c = gives (λ s f b at is h. (s b at is h.0, f b at is h.1)) (place null g numbers all true p n [] a c)
    deleted (S.several l f ts) ps n a c = all_deleted ts ps n a c
    deleted (S.starred l t) ps n a c = deleted t ps n a c

    all_deleted : (ts : Tgts) (ps : List Place) (n : ℕ) (a : Context) (c : Name) → Leads null g numbers all true a c (places_targets a c ts) (nexts_all_deleted ts n) (numbers_targets ts) (blocks_targets ts)
        (λ r. All_deleted_named r ps (n + all_deleted_size ts)) (λ r. All_deleted_named r (all_places ts ++ ps) n)
    all_deleted S.no_targets ps n a c = leaf (moved null g numbers all true a.home c (λ q j. All_deleted_named q ps j) (n + 0) n (omega arith))
    all_deleted (S.more_targets t ts) ps n a c =
        let same : n + (deleted_size t + all_deleted_size ts) ≡ n + deleted_size t + all_deleted_size ts = omega arith in
        gives (λ s f. subst (λ xs. Named null g numbers all true a.home c (λ r. All_deleted_named r xs n)) (sym (append_assoc (places t) (all_places ts) ps))
        (s.0 (s.1 (subst (λ m. Named null g numbers all true a.home c (λ r. All_deleted_named r ps m)) same f))))
        (two (deleted t (all_places ts ++ ps) n a c) (all_deleted ts ps (n + deleted_size t) a c))

  decorators : (ds : Decorators) (n : ℕ) (a : Context) (c : Name) (F : Around V → ℕ → Type 0) → Leads null g numbers all true a c (places_decorators a c ds) (nexts_decorators ds n)
      (numbers_decorators ds) (blocks_decorators ds) (λ r. F r (n + decorators_size ds)) (λ r. Definition_named r ds (F r) n)
  decorators S.no_decorators n a c F = leaf (moved null g numbers all true a.home c F (n + 0) n (omega arith))
  decorators (S.decorator l e d) n a c F =
      let same : n + (size e + decorators_size d) ≡ n + size e + decorators_size d = omega arith in
      gives (λ s f b at is h. (s.0 b at is h.0, s.1 (subst (λ m. Named null g numbers all true a.home c (λ r. F r m)) same f) b at is h.1))
      (two (value e n a c) (decorators d (n + size e) a c F))

  items : (is : Items) (n : ℕ) (a : Context) (c : Name) (F : Around V → ℕ → Type 0) → Leads null g numbers all true a c (places_items a c is) (nexts_items is n)
      (numbers_items is) (blocks_items is) (λ r. F r (behind_items is n)) (λ r. Items_named r is (F r) n)
  items S.no_items n a c F = leaf (λ f. f)
  items (S.with_item l e None r) n a c F =
      let same : n + size e + 1 + 0 ≡ n + size e + 1 = omega arith in
      gives (λ s f b at is h. (
        s.0.0 b at is h.0,
        moved null g numbers all true a.home c (λ q j. Items_named q r (F q) j) (n + size e + 1 + 0) (n + size e + 1) same (s.1 f) b at is h.1,
      ))
      (regroup (places_exp a c e) (places_opt_target a c None) (places_items a c r) (two (two (value e n a c) (leaf {P = Unit {0}} tt)) (items r (n + size e + 1 + 0) a c F)))
  items (S.with_item l e (Some t) r) n a c F = gives (λ s f b at is h. (s.0.0 b at is h.0, s.0.1 b at is h.1, s.1 f b at is h.2))
      (regroup (places_exp a c e) (places_opt_target a c (Some t)) (places_items a c r)
      (two (two (value e n a c) (target null g numbers all true t (n + size e + 1) [] a c)) (items r (n + size e + 1 + target_size t) a c F)))

  imports : (a : Context) (c : Name) (l : ℕ) (xs : List Alias) → Walk null g numbers all c (places_imports a c l xs) [] [] [] (Unit {0})
  imports a c l [] = leaf tt
  imports a c l (x ∷ xs) = two_of (told _ a (mangled c (bound_name x.name x.alias)) l tt) (imports a c l xs)

  named_as : (a : Context) (c : Name) (l : ℕ) (x : Option Name) → Walk null g numbers all c (places_named a c l x) [] [] [] (Unit {0})
  named_as a c l None = leaf tt
  named_as a c l (Some x) = told _ a (mangled c x) l tt

  changed : (p : Place) (e : Exp) (n : ℕ) (a : Context) (c : Name) → In null g numbers all true a c (places_place a c p ⨾ places_exp a c e)
      (nexts_place true p n ++ nexts_exp true e (n + place_size p)) (numbers_place p ++ numbers_exp e) (blocks_place p ++ blocks_exp e) (λ r. Changed_named r p e n)
  changed (S.name_at l y) e n a c = two_of (told _ a (mangled c y) l tt) (value e (n + 1) a c)
  changed (S.attribute_at l k y) e n a c =
      let same : n + (size k + 1) ≡ n + size k + 1 = omega arith in
      gives (λ s b at is h. (s.0 b at is h.0, moved null g numbers all true a.home c (λ q j. Value_named q e j) (n + (size k + 1)) (n + size k + 1) same s.1 b at is h.1))
      (two (value k n a c) (value e (n + (size k + 1)) a c))
  changed (S.item_at l k i) e n a c =
      let same : n + (size k + size i + 1) ≡ n + size k + size i + 1 = omega arith in
      gives (λ s b at is h. let p = s.0 b at is (h.0, h.1) in (p.0, p.1, subst (λ m. Named null g numbers all true a.home c (λ r. Value_named r e m)) same s.1 b at is h.2))
      (two (place null g numbers all true (S.item_at l k i) n [] a c) (value e (n + (size k + size i + 1)) a c))

  -- the first statement of a function's body may be its documentation string
  first_is : (st : Stm) (a : Context) (c : Name) → Named null g numbers all true a.home c (λ r. Stm_named r st 0) → Named null g numbers all true a.home c (λ r. Stm_named r (first_statement st) 0)
  first_is (S.expr l e) a c f = by (is_string e)
    where
      by : (s : Bool) → Named null g numbers all true a.home c (λ r. Stm_named r (cond s (S.docstring l) (S.expr l e)) 0)
      by true b at is h = tt
      by false b at is h = f b at is h
  first_is st a c f = f

  deletes : (ts : Tgts) (n : ℕ) (a : Context) (c : Name) → In null g numbers all true a c (places_targets a c ts) (nexts_all_deleted ts n) (numbers_targets ts) (blocks_targets ts)
      (λ r. All_deleted_named r (all_places ts) n)
  deletes ts n a c = gives (λ f. subst (λ xs. Named null g numbers all true a.home c (λ r. All_deleted_named r xs n)) (append-nil (all_places ts)) (f (λ b at is h. tt)))
      (all_deleted ts [] n a c)

  mutual
    stm : (st : Stm) (n : ℕ) (a : Context) (c : Name) → In null g numbers all true a c (places_stm a c st) (nexts_stm st n) (numbers_stm st) (blocks_stm st) (λ r. Stm_named r st n)
    stm (S.expr l e) n a c = value e n a c
    stm (S.assign l ts e) n a c = gives (λ s b at is h. (s.1 b at is h.0, s.0 b at is h.1)) (two (targets null g numbers all true ts (n + size e) [] a c) (value e n a c))
    stm (S.augmented l p o e) n a c = changed p e n a c
    stm (S.annotated l p k S.absent) n a c =
        same_lists (append-nil (nexts_place false p n)) refl refl (gives (λ s b at is h. tt) (two (place null g numbers all false p n [] a c) (leaf {P = Unit {0}} tt)))
    stm (S.annotated l p k (S.given e)) n a c =
        gives (λ s b at is h. (s.1 b at is h.0, s.0 b at is h.1)) (two (place null g numbers all true p (n + size e) [] a c) (value e n a c))
    stm (S.assert l e m) n a c = gives (λ s b at is h. (s.0 b at is h.0, s.1 b at is h.1)) (two (value e n a c) (option m (n + size e + 1) a c))
    stm (S.pass l) n a c = leaf (λ b at is h. tt)
    stm (S.del l ts) n a c = deletes ts n a c
    stm (S.return l v) n a c = two_of (placed a.may_give a l tt) (option v n a c)
    stm (S.raise l e f) n a c = gives (λ s b at is h. (s.0 b at is h.0, s.1 b at is h.1)) (two (value e n a c) (option f (n + size e) a c))
    stm (S.raise_again l) n a c = leaf (λ b at is h. tt)
    stm (S.break l) n a c = placed a.in_loop a l (λ b at is h. tt)
    stm (S.continue l) n a c = placed a.in_loop a l (λ b at is h. tt)
    stm (S.import l xs) n a c = gives (λ s b at is h. tt) (imports a c l xs)
    stm (S.import_from l m xs) n a c = gives (λ s b at is h. tt) (imports a c l xs)
    stm (S.global l xs) n a c = gives (λ s b at is h. tt) (names_walked _ a c l xs)
    stm (S.nonlocal l xs) n a c = gives (λ s b at is h. tt) (names_walked _ a c l xs)
    stm (S.choice l bs els) n a c =
        gives (λ s b at is h.
        let parts = branches_split (all_local null) bs (λ j. All_named (all_local null) els j) n h in
        branches_join (around_by null g b) bs (λ j. All_named (around_by null g b) els j) n (s.0 b at is parts.0) (s.1 b at is parts.1))
        (two (branches bs n a c) (stms els (n + branches_size bs) a c))
    stm (S.while l e body els) n a c = gives (λ s b at is h. (s.0.0 b at is h.0, s.0.1 b at is h.1, s.1 b at is h.2))
        (regroup (places_exp a c e) (places_stms (loop_context a) c body) (places_stms a c els)
        (two (two (value e n a c) (stms body (n + size e + 1) (loop_context a) c)) (stms els (n + size e + 1 + stms_size body) a c)))
    stm (S.for l t e body els) n a c =
        let one : n + size e + 2 ≡ n + size e + 1 + 1 = omega arith in
        let two_behind : n + size e + 2 + target_size t ≡ n + size e + 1 + 1 + target_size t = omega arith in
        let all_behind : n + size e + 2 + target_size t + stms_size body ≡ n + size e + 1 + 1 + target_size t + stms_size body = omega arith in
        gives (λ s b at is h. (
          s.0.0.1 b at is h.0,
          moved null g numbers all true a.home c (λ q j. Target_named q t j []) (n + size e + 2) (n + size e + 1 + 1) one s.0.0.0 b at is h.1,
          moved null g numbers all true a.home c (λ q j. All_named q body j) (n + size e + 2 + target_size t) (n + size e + 1 + 1 + target_size t) two_behind s.0.1 b at is h.2,
          moved null g numbers all true a.home c (λ q j. All_named q els j) (n + size e + 2 + target_size t + stms_size body)
              (n + size e + 1 + 1 + target_size t + stms_size body) all_behind s.1 b at is h.3,
        ))
        (regroup (places_target a c t) (places_exp a c e) (places_stms (loop_context a) c body ⨾ places_stms a c els)
        (regroup (places_target a c t ⨾ places_exp a c e) (places_stms (loop_context a) c body) (places_stms a c els)
        (two (two (two (target null g numbers all true t (n + size e + 2) [] a c) (value e n a c)) (stms body (n + size e + 2 + target_size t) (loop_context a) c))
        (stms els (n + size e + 2 + target_size t + stms_size body) a c))))
    stm (S.try l body hs els fin) n a c = gives (λ s b at is h. (s.0.0.0 b at is h.0, s.0.0.1 b at is h.1, s.0.1 b at is h.2, s.1 b at is h.3))
        (regroup (places_stms a c body) (places_handlers a c hs) (places_stms a c els ⨾ places_stms a c fin)
        (regroup (places_stms a c body ⨾ places_handlers a c hs) (places_stms a c els) (places_stms a c fin)
        (two (two (two (stms body (n + 1) a c) (handlers hs (n + 1 + stms_size body) a c)) (stms els (n + 1 + stms_size body + handlers_size hs) a c))
        (stms fin (n + 1 + stms_size body + handlers_size hs + stms_size els) a c))))
    stm (S.with l is body) n a c = gives (λ s. s.0 s.1) (two (items is n a c (λ r m. All_named r body m)) (stms body (behind_items is n) a c))
    stm (S.def l ds dl i x (S.parameters ps p ks d) r body) n a c =
        let k : Block = record { name = x; first_line = first_line_of ds dl; class = None; params = S.parameters ps p ks d; code = B.of_function body } in
        let m = n + decorators_size ds in
        let Q : Around V → ℕ → Type 0 = λ q j. Parameters_named q (S.parameters ps p ks d) j in
        same_lists (sym (append_assoc (nexts_decorators ds n) (None ∷ nexts_params true (S.parameters ps p ks d) m) (nexts_body body)))
        (definition_list (numbers_decorators ds) i (numbers_params (S.parameters ps p ks d)) (numbers_stms body))
        (definition_list (blocks_decorators ds) k (blocks_params (S.parameters ps p ks d)) (blocks_stms body))
        (gives (λ s. s.0 s.1) (two (decorators ds n a c Q) (two_of (told _ a (mangled c x) dl tt)
        (function_walked a (λ b. places_params a b c (S.parameters ps p ks d) ⨾ places_stms b c body) i k
        (λ b. Named null g numbers all true a.home c (λ q. Q q m) × Named null g numbers all true b.home c (λ q. All_named q (function_body body) 0))
        refl (λ b. two (params null g numbers all true ps p ks d m [] a b c) (function_stms body b c))
        (λ h t s b at shape q. s.1 b (spelled_at g b h c k at shape refl) refl q)
        (λ h t s. s.0)))))
    stm (S.class l ds cl i x base body) n a c =
        let k : Block = record { name = x; first_line = first_line_of ds cl; class = Some x; params = no_params; code = B.of_class body } in
        let m = n + decorators_size ds in
        let Q : Around V → ℕ → Type 0 = λ q j. Opt_named q base j in
        same_lists (sym (append_assoc (nexts_decorators ds n) (None ∷ nexts_opt true base m) (nexts_stms body 0)))
        (definition_list (numbers_decorators ds) i (numbers_opt base) (numbers_stms body))
        (definition_list (blocks_decorators ds) k (blocks_opt base) (map (inside_class x) (blocks_stms body)))
        (gives (λ s. s.0 s.1) (two (decorators ds n a c Q) (two_of (told _ a (mangled c x) cl tt)
        (class_walked x a (λ b. places_opt a c base) (λ b. places_stms b x body) i k
        (λ b. Named null g numbers all true b.home x (λ q. All_named q body 0))
        (λ b. option base m a c) (λ b. stms body 0 b x)
        refl (λ h t s b at shape q. s b (record { region = at; spelled = λ y. ap (λ o. mangled (class_name_of o) y) shape }) refl q)
        (λ h t s. s)))))
    stm (S.docstring l) n a c = leaf (λ b at is h. tt)

    pub stms : (ss : Stms) (n : ℕ) (a : Context) (c : Name) → In null g numbers all true a c (places_stms a c ss) (nexts_stms ss n) (numbers_stms ss) (blocks_stms ss) (λ r. All_named r ss n)
    stms S.none n a c = leaf (λ b at is h. tt)
    stms (S.more st ss) n a c = gives (λ s b at is h. (s.0 b at is h.0, s.1 b at is h.1)) (two (stm st n a c) (stms ss (n + stm_size st) a c))

    function_stms : (ss : Stms) (a : Context) (c : Name) → In null g numbers all true a c (places_stms a c ss) (nexts_body ss) (numbers_stms ss) (blocks_stms ss) (λ r. All_named r (function_body ss) 0)
    function_stms S.none a c = leaf (λ b at is h. tt)
    function_stms (S.more st ss) a c =
        let m = stm_size (first_statement st) in
        let same : m ≡ 0 + m = omega arith in
        gives (λ s b at is h. (first_is st a c s.0 b at is h.0, subst (λ j. Named null g numbers all true a.home c (λ r. All_named r ss j)) same s.1 b at is h.1))
        (two (stm st 0 a c) (stms ss m a c))

    branches : (bs : Branches) (n : ℕ) (a : Context) (c : Name) → In null g numbers all true a c (places_branches a c bs) (nexts_branches bs n)
        (numbers_branches bs) (blocks_branches bs) (λ r. Branches_named r bs (λ j. Unit {0}) n)
    branches S.no_branches n a c = leaf (λ b at is h. tt)
    branches (S.branch l e body r) n a c = gives (λ s b at is h. (s.0.0 b at is h.0, s.0.1 b at is h.1, s.1 b at is h.2))
        (regroup (places_exp a c e) (places_stms a c body) (places_branches a c r)
        (two (two (value e n a c) (stms body (n + size e + 1) a c)) (branches r (n + size e + 1 + stms_size body) a c)))

    handlers : (hs : Handlers) (n : ℕ) (a : Context) (c : Name) → In null g numbers all true a c (places_handlers a c hs) (nexts_handlers hs n) (numbers_handlers hs) (blocks_handlers hs) (λ r. Handlers_named r hs n)
    handlers S.no_handlers n a c = leaf (λ b at is h. tt)
    handlers (S.handler l S.absent None body r) n a c =
        let m = n + opt_size S.absent + 1 + stored_by None in
        let same : n + opt_size S.absent + 1 + stored_by None ≡ n + 1 = omega arith in
        let behind : n + opt_size S.absent + 1 + stored_by None + stms_size body ≡ n + 1 + stms_size body = omega arith in
        same_lists (sym (append_assoc (nexts_opt true S.absent n) (nexts_stms body m) (nexts_handlers r (m + stms_size body))))
        (sym (append_assoc (numbers_opt S.absent) (numbers_stms body) (numbers_handlers r)))
        (sym (append_assoc (blocks_opt S.absent) (blocks_stms body) (blocks_handlers r)))
        (gives (λ s b at is h. (
          moved null g numbers all true a.home c (λ q j. All_named q body j) m (n + 1) same s.1.1.0 b at is h.0,
          moved null g numbers all true a.home c (λ q j. Handlers_named q r j) (m + stms_size body) (n + 1 + stms_size body) behind s.1.1.1 b at is h.1,
        ))
        (two (option S.absent n a c) (two (named_as a c l None) (two (stms body m a c) (handlers r (m + stms_size body) a c)))))
    handlers (S.handler l S.absent (Some x) body r) n a c =
        let m = n + opt_size S.absent + 1 + stored_by (Some x) in
        let same : n + opt_size S.absent + 1 + stored_by (Some x) ≡ n + 1 + 1 = omega arith in
        let behind : n + opt_size S.absent + 1 + stored_by (Some x) + stms_size body ≡ n + 1 + 1 + stms_size body = omega arith in
        same_lists (sym (append_assoc (nexts_opt true S.absent n) (nexts_stms body m) (nexts_handlers r (m + stms_size body))))
        (sym (append_assoc (numbers_opt S.absent) (numbers_stms body) (numbers_handlers r)))
        (sym (append_assoc (blocks_opt S.absent) (blocks_stms body) (blocks_handlers r)))
        (gives (λ s b at is h. (
          moved null g numbers all true a.home c (λ q j. All_named q body j) m (n + 1 + 1) same s.1.1.0 b at is h.0,
          moved null g numbers all true a.home c (λ q j. Handlers_named q r j) (m + stms_size body) (n + 1 + 1 + stms_size body) behind s.1.1.1 b at is h.1,
        ))
        (two (option S.absent n a c) (two (named_as a c l (Some x)) (two (stms body m a c) (handlers r (m + stms_size body) a c)))))
    handlers (S.handler l (S.given e) None body r) n a c =
        let m = n + opt_size (S.given e) + 1 + stored_by None in
        let same : n + opt_size (S.given e) + 1 + stored_by None ≡ n + size e + 1 = omega arith in
        let behind : n + opt_size (S.given e) + 1 + stored_by None + stms_size body ≡ n + size e + 1 + stms_size body = omega arith in
        same_lists (sym (append_assoc (nexts_opt true (S.given e) n) (nexts_stms body m) (nexts_handlers r (m + stms_size body))))
        (sym (append_assoc (numbers_opt (S.given e)) (numbers_stms body) (numbers_handlers r)))
        (sym (append_assoc (blocks_opt (S.given e)) (blocks_stms body) (blocks_handlers r)))
        (gives (λ s b at is h. (
          s.0 b at is h.0,
          moved null g numbers all true a.home c (λ q j. All_named q body j) m (n + size e + 1) same s.1.1.0 b at is h.1,
          moved null g numbers all true a.home c (λ q j. Handlers_named q r j) (m + stms_size body) (n + size e + 1 + stms_size body) behind s.1.1.1 b at is h.2,
        ))
        (two (option (S.given e) n a c) (two (named_as a c l None) (two (stms body m a c) (handlers r (m + stms_size body) a c)))))
    handlers (S.handler l (S.given e) (Some x) body r) n a c =
        let m = n + opt_size (S.given e) + 1 + stored_by (Some x) in
        let same : n + opt_size (S.given e) + 1 + stored_by (Some x) ≡ n + size e + 1 + 1 = omega arith in
        let behind : n + opt_size (S.given e) + 1 + stored_by (Some x) + stms_size body ≡ n + size e + 1 + 1 + stms_size body = omega arith in
        same_lists (sym (append_assoc (nexts_opt true (S.given e) n) (nexts_stms body m) (nexts_handlers r (m + stms_size body))))
        (sym (append_assoc (numbers_opt (S.given e)) (numbers_stms body) (numbers_handlers r)))
        (sym (append_assoc (blocks_opt (S.given e)) (blocks_stms body) (blocks_handlers r)))
        (gives (λ s b at is h. (
          s.0 b at is h.0,
          moved null g numbers all true a.home c (λ q j. All_named q body j) m (n + size e + 1 + 1) same s.1.1.0 b at is h.1,
          moved null g numbers all true a.home c (λ q j. Handlers_named q r j) (m + stms_size body) (n + size e + 1 + 1 + stms_size body) behind s.1.1.1 b at is h.2,
        ))
        (two (option (S.given e) n a c) (two (named_as a c l (Some x)) (two (stms body m a c) (handlers r (m + stms_size body) a c)))))
