-- The numbers of Nexts in statements and in a script.
use Rattle.std.proofs.Common.{◌≡◌, ◌≤◌, ℕ, ◌+◌, true, false, cond, List, [], ◌∷◌, Option, Some, None, refl, sym, append_assoc, append-nil, le_refl, arith}
use Rattle.pt_scopes.specs.declared.region.Context.{Context}
use Rattle.pt_scopes.specs.declared.region.Role.{Role}
use Rattle.pt_scopes.specs.Mentions.{bound_name, places_branches, places_decorators, places_exp, places_handlers, places_imports, places_items, places_named, places_names, places_opt, places_opt_target, places_params, places_stm, places_stms, places_target, places_targets}
use Rattle.pt_scopes.specs.Names.{mangled}
use Rattle.pt_scopes.specs.Places.{◌⨾◌, loop_context}
use Rattle.pt_tree.specs.declared.statement.Alias.{Alias}
use Rattle.pt_tree.specs.Syntax as S
use Rattle.pt_tree.specs.Syntax.{Name, Exp, Tgt, Tgts, Decorators, Items, Stm, Stms, Branches, Handlers}
use Rattle.pt_tree.specs.Blocks.{first_statement, is_string}
use Rattle.pt_tree.specs.Sizes.{size, opt_size, place_size, target_size, deleted_size, all_deleted_size, decorators_size, opt_target_size, items_size, stored_by, stm_size, stms_size, branches_size, handlers_size}
use Rattle.sem_names.specs.Nexts.{behind_items, nexts_all_deleted, nexts_body, nexts_branches, nexts_decorators, nexts_deleted, nexts_exp, nexts_handlers, nexts_items, nexts_opt, nexts_opt_target, nexts_params, nexts_place, nexts_stm, nexts_stms}
use Rattle.law_names.proofs.next_numbers.Claims.{Numbers, back, named, next, none, regroup, same_numbers, unevaluated, wide}
use Rattle.law_names.proofs.next_numbers.Regions.{class_numbers, function_numbers}
use Rattle.law_names.proofs.next_numbers.Expressions.{in_exp, in_opt, in_params, in_place, in_target, in_targets, placed}

mutual
  in_deleted : (t : Tgt) (n : ℕ) (a : Context) (c : Name) → Numbers true a.home n (n + deleted_size t) (places_target a c t) (nexts_deleted t n)
  in_deleted (S.single p) n a c = in_place true p n a c
  in_deleted (S.several l f ts) n a c = in_all_deleted ts n a c
  in_deleted (S.starred l t) n a c = in_deleted t n a c

  in_all_deleted : (ts : Tgts) (n : ℕ) (a : Context) (c : Name) → Numbers true a.home n (n + all_deleted_size ts) (places_targets a c ts) (nexts_all_deleted ts n)
  in_all_deleted S.no_targets n a c = none (omega arith)
  in_all_deleted (S.more_targets t ts) n a c =
      wide (le_refl n) (omega arith) (next (le_refl (n + deleted_size t)) (in_deleted t n a c) (in_all_deleted ts (n + deleted_size t) a c))

in_decorators : (ds : Decorators) (n : ℕ) (a : Context) (c : Name) → Numbers true a.home n (n + decorators_size ds) (places_decorators a c ds) (nexts_decorators ds n)
in_decorators S.no_decorators n a c = none (omega arith)
in_decorators (S.decorator l e r) n a c =
    wide (le_refl n) (omega arith) (next (le_refl (n + size e)) (in_exp true e n a c) (in_decorators r (n + size e) a c))

in_opt_target : (t : Option Tgt) (n : ℕ) (a : Context) (c : Name) → Numbers true a.home n (n + opt_target_size t) (places_opt_target a c t) (nexts_opt_target t n)
in_opt_target None n a c = none (omega arith)
in_opt_target (Some t) n a c = in_target true t n a c

in_items : (is : Items) (n : ℕ) (a : Context) (c : Name) → Numbers true a.home n (behind_items is n) (places_items a c is) (nexts_items is n)
in_items S.no_items n a c = none (le_refl n)
in_items (S.with_item l e t is) n a c = regroup (places_exp a c e) (places_opt_target a c t) (places_items a c is)
    (next (le_refl (n + size e + 1 + opt_target_size t)) (next (omega arith) (in_exp true e n a c) (in_opt_target t (n + size e + 1) a c))
    (in_items is (n + size e + 1 + opt_target_size t) a c))

behind_all : (is : Items) (n k : ℕ) → behind_items is n + k ≤ n + items_size is k
behind_all S.no_items n k = le_refl (n + k)
behind_all (S.with_item l e t is) n k = let h = behind_all is (n + size e + 1 + opt_target_size t) k in omega arith

in_imports : {H n : ℕ} (a : Context) (c : Name) (l : ℕ) (xs : List Alias) → Numbers true H n n (places_imports a c l xs) []
in_imports {n = n} a c l [] = none (le_refl n)
in_imports {n = n} a c l (x ∷ xs) = next (le_refl n) (named _ a (mangled c (bound_name x.name x.alias)) l (le_refl n)) (in_imports a c l xs)

in_names : {H n : ℕ} (r : Role) (a : Context) (c : Name) (l : ℕ) (xs : List Name) → Numbers true H n n (places_names r a c l xs) []
in_names {n = n} r a c l [] = none (le_refl n)
in_names {n = n} r a c l (x ∷ xs) = next (le_refl n) (named r a (mangled c x) l (le_refl n)) (in_names r a c l xs)

in_named : {H n : ℕ} (a : Context) (c : Name) (l : ℕ) (x : Option Name) → Numbers true H n n (places_named a c l x) []
in_named {n = n} a c l None = none (le_refl n)
in_named {n = n} a c l (Some x) = named _ a (mangled c x) l (le_refl n)

-- a documentation string has no regions
in_string : (e : Exp) (a : Context) (c : Name) → is_string e ≡ true → Numbers true a.home 0 0 (places_exp a c e) (nexts_exp true e 0)
in_string (S.constant l k) a c is = none (le_refl 0)
in_string e a c is = absurd (let no : false ≡ true = is in cc)

-- the first statement of a function's body
in_first : (st : Stm) (a : Context) (c : Name) → Numbers true a.home 0 (0 + stm_size st) (places_stm a c st) (nexts_stm st 0)
    → Numbers true a.home 0 (stm_size (first_statement st)) (places_stm a c st) (nexts_stm st 0)
in_first (S.expr l e) a c s =
    elim (is_string e) as (λ b. is_string e ≡ b → Numbers true a.home 0 (stm_size (cond b (S.docstring l) (S.expr l e))) (places_exp a c e) (nexts_exp true e 0)) [
      | true ↦ λ is. in_string e a c is
      | false ↦ λ is. wide (le_refl 0) (omega arith) s
    ] refl
in_first st a c s = wide (le_refl 0) (omega arith) s

abbrev body_end : Stms → ℕ
body_end S.none = 0
body_end (S.more st ss) = stm_size (first_statement st) + stms_size ss

mutual
  in_stm : (st : Stm) (n : ℕ) (a : Context) (c : Name) → Numbers true a.home n (n + stm_size st) (places_stm a c st) (nexts_stm st n)
  in_stm (S.expr l e) n a c = wide (le_refl n) (omega arith) (in_exp true e n a c)
  in_stm (S.assign l ts e) n a c = wide (le_refl n) (omega arith) (back (le_refl (n + size e)) (in_targets true ts (n + size e) a c) (in_exp true e n a c))
  in_stm (S.augmented l p o e) n a c =
      wide (le_refl n) (omega arith) (next (le_refl (n + place_size p)) (in_place true p n a c) (in_exp true e (n + place_size p) a c))
  in_stm (S.annotated l p k S.absent) n a c = same_numbers (append-nil (nexts_place false p n))
      (next (le_refl (n + 1)) (unevaluated (omega arith) (in_place false p n a c)) (none (le_refl (n + 1))))
  in_stm (S.annotated l p k (S.given e)) n a c =
      wide (le_refl n) (omega arith) (back (le_refl (n + size e)) (in_place true p (n + size e) a c) (in_exp true e n a c))
  in_stm (S.assert l e m) n a c = wide (le_refl n) (omega arith) (next (omega arith) (in_exp true e n a c) (in_opt true m (n + size e + 1) a c))
  in_stm (S.pass l) n a c = none (omega arith)
  in_stm (S.del l ts) n a c = in_all_deleted ts n a c
  in_stm (S.return l v) n a c = wide (le_refl n) (omega arith) (next (le_refl n) (placed a.may_give a l (le_refl n)) (in_opt true v n a c))
  in_stm (S.raise l e f) n a c = wide (le_refl n) (omega arith) (next (le_refl (n + size e)) (in_exp true e n a c) (in_opt true f (n + size e) a c))
  in_stm (S.raise_again l) n a c = none (omega arith)
  in_stm (S.break l) n a c = placed a.in_loop a l (omega arith)
  in_stm (S.continue l) n a c = placed a.in_loop a l (omega arith)
  in_stm (S.import l xs) n a c = wide (le_refl n) (omega arith) (in_imports a c l xs)
  in_stm (S.import_from l m xs) n a c = wide (le_refl n) (omega arith) (in_imports a c l xs)
  in_stm (S.global l xs) n a c = wide (le_refl n) (omega arith) (in_names _ a c l xs)
  in_stm (S.nonlocal l xs) n a c = wide (le_refl n) (omega arith) (in_names _ a c l xs)
  in_stm (S.choice l bs els) n a c =
      wide (le_refl n) (omega arith) (next (le_refl (n + branches_size bs)) (in_branches bs n a c) (in_stms els (n + branches_size bs) a c))
  in_stm (S.while l e body els) n a c = wide (le_refl n) (omega arith) (regroup (places_exp a c e) (places_stms (loop_context a) c body) (places_stms a c els)
      (next (le_refl (n + size e + 1 + stms_size body)) (next (omega arith) (in_exp true e n a c) (in_stms body (n + size e + 1) (loop_context a) c))
      (in_stms els (n + size e + 1 + stms_size body) a c)))
  in_stm (S.for l t e body els) n a c = wide (le_refl n) (omega arith)
      (regroup (places_target a c t) (places_exp a c e) (places_stms (loop_context a) c body ⨾ places_stms a c els)
      (regroup (places_target a c t ⨾ places_exp a c e) (places_stms (loop_context a) c body) (places_stms a c els)
      (next (le_refl (n + size e + 2 + target_size t + stms_size body))
      (next (le_refl (n + size e + 2 + target_size t)) (back (omega arith) (in_target true t (n + size e + 2) a c) (in_exp true e n a c))
      (in_stms body (n + size e + 2 + target_size t) (loop_context a) c))
      (in_stms els (n + size e + 2 + target_size t + stms_size body) a c))))
  in_stm (S.try l body hs els fin) n a c = wide (omega arith) (omega arith)
      (regroup (places_stms a c body) (places_handlers a c hs) (places_stms a c els ⨾ places_stms a c fin)
      (regroup (places_stms a c body ⨾ places_handlers a c hs) (places_stms a c els) (places_stms a c fin)
      (next (le_refl (n + 1 + stms_size body + handlers_size hs + stms_size els))
      (next (le_refl (n + 1 + stms_size body + handlers_size hs))
      (next (le_refl (n + 1 + stms_size body)) (in_stms body (n + 1) a c) (in_handlers hs (n + 1 + stms_size body) a c))
      (in_stms els (n + 1 + stms_size body + handlers_size hs) a c))
      (in_stms fin (n + 1 + stms_size body + handlers_size hs + stms_size els) a c))))
  in_stm (S.with l is body) n a c = wide (le_refl n) (behind_all is n (stms_size body))
      (next (le_refl (behind_items is n)) (in_items is n a c) (in_stms body (behind_items is n) a c))
  in_stm (S.def l ds dl k x ps r body) n a c =
      same_numbers (sym (append_assoc (nexts_decorators ds n) (None ∷ nexts_params true ps (n + decorators_size ds)) (nexts_body body)))
      (wide (le_refl n) (omega arith) (next (le_refl (n + decorators_size ds)) (in_decorators ds n a c)
      (next (le_refl (n + decorators_size ds)) (named _ a (mangled c x) dl (le_refl (n + decorators_size ds)))
      (function_numbers a (λ b. places_params a b c ps) (λ b. places_stms b c body) (omega arith)
      (λ b. in_params true ps (n + decorators_size ds) a b c) (λ b. in_body body b c)))))
  in_stm (S.class l ds cl k x base body) n a c =
      same_numbers (sym (append_assoc (nexts_decorators ds n) (None ∷ nexts_opt true base (n + decorators_size ds)) (nexts_stms body 0)))
      (wide (le_refl n) (omega arith) (next (le_refl (n + decorators_size ds)) (in_decorators ds n a c)
      (next (le_refl (n + decorators_size ds)) (named _ a (mangled c x) cl (le_refl (n + decorators_size ds)))
      (class_numbers a (λ b. places_opt a c base) (λ b. places_stms b x body) (omega arith)
      (λ b. in_opt true base (n + decorators_size ds) a c) (λ b. in_stms body 0 b x)))))
  in_stm (S.docstring l) n a c = none (omega arith)

  pub in_stms : (ss : Stms) (n : ℕ) (a : Context) (c : Name) → Numbers true a.home n (n + stms_size ss) (places_stms a c ss) (nexts_stms ss n)
  in_stms S.none n a c = none (omega arith)
  in_stms (S.more st ss) n a c = wide (le_refl n) (omega arith) (next (le_refl (n + stm_size st)) (in_stm st n a c) (in_stms ss (n + stm_size st) a c))

  -- the body of a function, which may begin with its documentation string
  in_body : (ss : Stms) (a : Context) (c : Name) → Numbers true a.home 0 (body_end ss) (places_stms a c ss) (nexts_body ss)
  in_body S.none a c = none (le_refl 0)
  in_body (S.more st ss) a c = next (le_refl (stm_size (first_statement st))) (in_first st a c (in_stm st 0 a c)) (in_stms ss (stm_size (first_statement st)) a c)

  in_branches : (bs : Branches) (n : ℕ) (a : Context) (c : Name) → Numbers true a.home n (n + branches_size bs) (places_branches a c bs) (nexts_branches bs n)
  in_branches S.no_branches n a c = none (omega arith)
  in_branches (S.branch l e body r) n a c = wide (le_refl n) (omega arith) (regroup (places_exp a c e) (places_stms a c body) (places_branches a c r)
      (next (le_refl (n + size e + 1 + stms_size body)) (next (omega arith) (in_exp true e n a c) (in_stms body (n + size e + 1) a c))
      (in_branches r (n + size e + 1 + stms_size body) a c)))

  in_handlers : (hs : Handlers) (n : ℕ) (a : Context) (c : Name) → Numbers true a.home n (n + handlers_size hs) (places_handlers a c hs) (nexts_handlers hs n)
  in_handlers S.no_handlers n a c = none (omega arith)
  in_handlers (S.handler l e x body r) n a c =
      let at = n + opt_size e + 1 + stored_by x in
      same_numbers (sym (append_assoc (nexts_opt true e n) (nexts_stms body at) (nexts_handlers r (at + stms_size body))))
      (wide (le_refl n) (omega arith) (next (omega arith) (in_opt true e n a c) (next (le_refl at) (in_named a c l x)
      (next (le_refl (at + stms_size body)) (in_stms body at a c) (in_handlers r (at + stms_size body) a c)))))
