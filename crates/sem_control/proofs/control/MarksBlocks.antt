-- Where the rows of a list are the acts of a statement or a block, the acts of that part stand there.
use Rattle.std.proofs.Common.{◌≡◌, ℕ, ◌+◌, ◌≤◌, List, [], ◌∷◌, ◌++◌, length, Option, Some, None, refl, sym, ap, ◌∙◌, subst, arith, append_assoc}
use Rattle.pt_tree.specs.declared.act.ActRow.{ActRow}
use Rattle.pt_tree.specs.declared.act.ActKind.TheVariants as K
use Rattle.pt_tree.specs.declared.statement.Alias.{Alias}
use Rattle.pt_tree.specs.Syntax as S
use Rattle.pt_tree.specs.Syntax.{Exp, Opt, Place, Tgt, Tgts, Params, Decorators, Items, Stm, Stms, Branches, Handlers}
use Rattle.pt_tree.specs.Sizes.{size, place_size, target_size, params_size, items_size, stm_size, stms_size, handlers_size}
use Rattle.pt_tree.specs.Acts.{act, again, acts_exp, acts_opt, acts_place, acts_target, acts_targets, acts_params, acts_got, acts_put, acts_deleted_place, acts_deleted, acts_all_deleted, acts_decorators, acts_decorator_calls, acts_opt_target, acts_items, acts_imports, acts_import_names, acts_stm, acts_stms, acts_branches, acts_handlers}
use Rattle.pt_tree.proofs.Counts.{count_again, count_exp, count_target, count_params, count_deleted_place, count_items, count_stm, count_stms, count_handlers}
use Rattle.sem_control.specs.control.Statements.{places, all_places}
use Rattle.sem_control.specs.control.Jump.{Shape}
use Rattle.sem_control.proofs.control.MarksTree.{Numbering, Option_in, Delete_in, Deletes_in, Augmented_in, Imports_in, Decorators_in, Calls_in, Function_in, Class_in, Simple_in, Items_in, Stm_in, Stms_in, Branches_in, Handlers_in}
use Rattle.sem_control.proofs.control.MarksExpressions.{opt_then}
use Rattle.sem_control.proofs.control.MarksRows.{Saying, Holds, numbering, cut, cut₃, cut₄, cut₅, cut₆, regroup, plainly, tested}
use Rattle.sem_control.proofs.control.MarksActs.{exp_in, opt_in, place_in, target_in, targets_in, params_in}

-- an expression has an act
some_act : (e : Exp) → 1 ≤ size e
some_act (S.constant l k) = omega arith
some_act (S.name l x) = omega arith
some_act (S.joined l ps) = omega arith
some_act (S.tuple l es) = omega arith
some_act (S.list l es) = omega arith
some_act (S.set l es) = omega arith
some_act (S.dict l es) = omega arith
some_act (S.attribute l a x) = omega arith
some_act (S.item l a i) = omega arith
some_act (S.slice l a b c) = omega arith
some_act (S.unary l o a) = omega arith
some_act (S.not_of l a) = omega arith
some_act (S.binary l o a b) = omega arith
some_act (S.compare l a o b r) = omega arith
some_act (S.and l a es) = omega (arith, some_act a)
some_act (S.or l a es) = omega (arith, some_act a)
some_act (S.conditional l c a b) = omega arith
some_act (S.call l f xs) = omega arith
some_act (S.lambda l b ps e) = omega arith
some_act (S.comprehension l m k t it cs) = omega arith
some_act (S.generator l b e k t it cs) = omega arith
some_act (S.yield l v) = omega arith
some_act (S.yield_from l e) = omega arith

append_nil : (xs : List ActRow) → xs ++ [] ≡ xs
append_nil [] = refl
append_nil (x ∷ xs) = ap (λ u. x ∷ u) (append_nil xs)

-- the acts that delete each of several places
abbrev acts_places : List Place → List ActRow
acts_places [] = []
acts_places (p ∷ ps) = acts_deleted_place p ++ acts_places ps

places_append : (ps qs : List Place) → acts_places (ps ++ qs) ≡ acts_places ps ++ acts_places qs
places_append [] qs = refl
places_append (p ∷ ps) qs = ap (λ u. acts_deleted_place p ++ u) (places_append ps qs) ∙ sym (append_assoc (acts_deleted_place p) (acts_places ps) (acts_places qs))

mutual
  deleted_places : (t : Tgt) → acts_deleted t ≡ acts_places (places t)
  deleted_places (S.single p) = sym (append_nil (acts_deleted_place p))
  deleted_places (S.several l f ts) = all_deleted_places ts
  deleted_places (S.starred l t) = deleted_places t

  all_deleted_places : (ts : Tgts) → acts_all_deleted ts ≡ acts_places (all_places ts)
  all_deleted_places S.no_targets = refl
  all_deleted_places (S.more_targets t ts) =
      ap (λ u. u ++ acts_all_deleted ts) (deleted_places t) ∙ ap (λ u. acts_places (places t) ++ u) (all_deleted_places ts)
      ∙ sym (places_append (places t) (all_places ts))

-- lists in a row, grouped otherwise
inwards : (xs ds bs cs ks zs : List ActRow) → xs ++ ds ++ bs ++ (cs ++ ks) ++ zs ≡ xs ++ (ds ++ bs ++ cs ++ (ks ++ zs))
inwards xs ds bs cs ks zs = simp append_assoc

to_right : (os ms ns bs hs : List ActRow) → os ++ ms ++ ns ++ bs ++ hs ≡ os ++ (ms ++ ns ++ bs ++ hs)
to_right os ms ns bs hs = simp append_assoc

-- the calls of decorators on these lines
abbrev acts_calls : List ℕ → List ActRow
acts_calls [] = []
acts_calls (k ∷ ks) = act K.Call k ++ acts_calls ks

-- what stands behind may be weakened
module _ (R : Numbering) where
  decorators_then : (ds : Decorators) (n : ℕ) (ks : List ℕ) (Mid End : ℕ → List ℕ → Type 0)
      → ((m : ℕ) (js : List ℕ) → Mid m js → End m js) → Decorators_in R ds n ks Mid → Decorators_in R ds n ks End
  decorators_then S.no_decorators n ks Mid End to h = to n ks h
  decorators_then (S.decorator k e r) n ks Mid End to (he, h) = (he, decorators_then r (n + size e) (k ∷ ks) Mid End to h)

module _ (R : Shape → Numbering) where
  option_then : (t : Option Tgt) (n : ℕ) (at : ℕ → Shape) (Mid End : ℕ → Type 0)
      → ((m : ℕ) → Mid m → End m) → Option_in R t n at Mid → Option_in R t n at End
  option_then None n at Mid End to h = to n h
  option_then (Some t) n at Mid End to (ht, h) = (ht, to (n + target_size t) h)

  items_then : (is : Items) (k : ℕ) (Mid End : ℕ → Shape → Type 0) → ((m : ℕ) (u : Shape) → Mid m u → End m u)
      → (n : ℕ) (s : Shape) → Items_in R is k Mid n s → Items_in R is k End n s
  items_then S.no_items k Mid End to n s h = to n s h
  items_then (S.with_item l e t is) k Mid End to n s (he, h, ht) =
      (he, h, option_then t (n + size e + 1) _ _ _ (λ m u. (items_then is k Mid End to m _ u.0, u.1)) ht)

  branches_then : (bs : Branches) (n : ℕ) (s : Shape) (Mid End : ℕ → Type 0)
      → ((m : ℕ) → Mid m → End m) → Branches_in R bs n s Mid → Branches_in R bs n s End
  branches_then S.no_branches n s Mid End to h = to n h
  branches_then (S.branch k c body r) n s Mid End to (hc, h, hb, hr) =
      (hc, h, hb, branches_then r (n + size c + 1 + stms_size body) s Mid End to hr)

module _ (H : Saying) where
  delete_in : (p : Place) (n : ℕ) → Holds H n (acts_deleted_place p) → Delete_in (numbering H) p n
  delete_in (S.name_at l x) n h = h
  delete_in (S.attribute_at l a x) n h = let u = cut H (acts_exp a) (act K.DelAttr l) (size a) n (count_exp a) h in (exp_in H a n u.0, u.1)
  delete_in (S.item_at l a i) n h =
      let u = cut₃ H (acts_exp a) (acts_exp i) (act K.DelItem l) (size a) (size i) n (count_exp a) (count_exp i) h in
      (exp_in H a n u.0, exp_in H i (n + size a) u.1, u.2)

  deletes_in : (ps : List Place) (n : ℕ) → Holds H n (acts_places ps) → Deletes_in (numbering H) ps n
  deletes_in [] n h = tt
  deletes_in (p ∷ ps) n h =
      let u = cut H (acts_deleted_place p) (acts_places ps) (place_size p) n (count_deleted_place p) h in (delete_in p n u.0, deletes_in ps (n + place_size p) u.1)

  augmented_in : (l : ℕ) (p : Place) (e : Exp) (n : ℕ)
      → Holds H n (acts_got p ++ acts_exp e ++ act K.InPlace l ++ acts_put p) → Augmented_in (numbering H) l p e n
  augmented_in l (S.name_at k x) e n h =
      let u = cut₄ H (act K.Load k) (acts_exp e) (act K.InPlace l) (act K.Store k) 1 (size e) 1 n refl (count_exp e) refl h in
      (u.0, (exp_in H e (n + 1) u.1, u.2, u.3))
  augmented_in l (S.attribute_at k a x) e n h =
      let u = cut₅ H (acts_exp a) (act K.Attr k) (acts_exp e) (act K.InPlace l) (act K.SetAttr k) (size a) 1 (size e) 1 n
      (count_exp a) refl (count_exp e) refl h in
      (exp_in H a n u.0, u.1, (exp_in H e (n + size a + 1) u.2, u.3, u.4))
  augmented_in l (S.item_at k a i) e n h =
      let u = cut₆ H (acts_exp a) (acts_exp i) (act K.Item k) (acts_exp e) (act K.InPlace l) (act K.SetItem k) (size a) (size i) 1 (size e) 1 n
      (count_exp a) (count_exp i) refl (count_exp e) refl h in
      (exp_in H a n u.0, exp_in H i (n + size a) u.1, u.2, (exp_in H e (n + size a + size i + 1) u.3, u.4, u.5))

  imports_in : (l : ℕ) (xs : List Alias) (n : ℕ) → Holds H n (acts_imports l xs) → Imports_in (numbering H) K.Import l xs n
  imports_in l [] n h = tt
  imports_in l (x ∷ xs) n h =
      let u = cut₃ H (act K.Import l) (act K.Store l) (acts_imports l xs) 1 1 n refl refl h in (u.0, u.1, imports_in l xs (n + 1 + 1) u.2)

  import_names_in : (l : ℕ) (xs : List Alias) (n : ℕ) → Holds H n (acts_import_names l xs) → Imports_in (numbering H) K.ImportName l xs n
  import_names_in l [] n h = tt
  import_names_in l (x ∷ xs) n h =
      let u = cut₃ H (act K.ImportName l) (act K.Store l) (acts_import_names l xs) 1 1 n refl refl h in (u.0, u.1, import_names_in l xs (n + 1 + 1) u.2)

  calls_in : (l : ℕ) (ks : List ℕ) (n : ℕ) → Holds H n (acts_calls ks ++ act K.Store l) → Calls_in (numbering H) l ks n
  calls_in l [] n h = h
  calls_in l (k ∷ ks) n h =
      let u = cut H (act K.Call k) (acts_calls ks ++ act K.Store l) 1 n refl (regroup H (act K.Call k) (acts_calls ks) (act K.Store l) n h) in
      (u.0, calls_in l ks (n + 1) u.1)

  function_in : (l : ℕ) (ps : Params) (ks : List ℕ) (n : ℕ)
      → Holds H n (acts_params ps ++ act K.Function l ++ (acts_calls ks ++ act K.Store l)) → Function_in (numbering H) l ps n ks
  function_in l ps ks n h =
      let u = cut₃ H (acts_params ps) (act K.Function l) (acts_calls ks ++ act K.Store l) (params_size ps) 1 n (count_params ps) refl h in
      let v = cut H (acts_params ps ++ act K.Function l) (acts_calls ks ++ act K.Store l) _ n refl h in
      (params_in H ps (act K.Function l) n v.0, calls_in l ks (n + params_size ps + 1) u.2)

  class_in : (l : ℕ) (base : Opt) (ks : List ℕ) (n : ℕ)
      → Holds H n (acts_opt base ++ act K.Class l ++ (acts_calls ks ++ act K.Store l)) → Class_in (numbering H) l base n ks
  class_in l base ks n h =
      opt_then (numbering H) base n _ _
      (λ m i. let u = cut H (act K.Class l) (acts_calls ks ++ act K.Store l) 1 m refl i in (u.0, calls_in l ks (m + 1) u.1))
      (opt_in H base (act K.Class l ++ (acts_calls ks ++ act K.Store l)) n (regroup H (acts_opt base) (act K.Class l) (acts_calls ks ++ act K.Store l) n h))

  -- decorators, with what stands between them and their calls, and behind these
  decorators_in : (ds : Decorators) (ks : List ℕ) (between behind : List ActRow) (n : ℕ)
      → Holds H n (acts_decorators ds ++ between ++ acts_decorator_calls ds ++ (acts_calls ks ++ behind))
      → Decorators_in (numbering H) ds n ks (λ m js. Holds H m (between ++ (acts_calls js ++ behind)))
  decorators_in S.no_decorators ks between behind n h = regroup H between [] (acts_calls ks ++ behind) n h
  decorators_in (S.decorator k e r) ks between behind n h =
      let u = cut H (acts_exp e) (acts_decorators r ++ between ++ acts_decorator_calls r ++ (act K.Call k ++ (acts_calls ks ++ behind))) (size e) n (count_exp e)
      (subst (λ v. Holds H n v) (inwards (acts_exp e) (acts_decorators r) between (acts_decorator_calls r) (act K.Call k) (acts_calls ks ++ behind)) h) in
      (exp_in H e n u.0, decorators_in r (k ∷ ks) between behind (n + size e) u.1)

  -- the acts of a statement without statements in it
  pub simple_in : (st : Stm) (n : ℕ) → Holds H n (acts_stm st) → Simple_in (numbering H) st n
  simple_in (S.expr l e) n h = let u = cut H (acts_exp e) (act K.Discard l) (size e) n (count_exp e) h in (exp_in H e n u.0, u.1)
  simple_in (S.assign l ts e) n h =
      let u = cut H (acts_exp e) (acts_targets ts) (size e) n (count_exp e) h in (exp_in H e n u.0, targets_in H ts (n + size e) u.1)
  simple_in (S.augmented l p o e) n h = augmented_in l p e n h
  simple_in (S.annotated l p a S.absent) n h = h
  simple_in (S.annotated l p a (S.given e)) n h =
      let u = cut H (acts_exp e) (acts_place p) (size e) n (count_exp e) h in (exp_in H e n u.0, place_in H p (n + size e) u.1)
  simple_in (S.assert l c m) n h =
      let u = cut₃ H (acts_exp c) (act K.Branch l) (acts_opt m ++ act K.Raise l) (size c) 1 n (count_exp c) refl
      (regroup H (acts_exp c ++ act K.Branch l) (acts_opt m) (act K.Raise l) n h) in
      (exp_in H c n u.0, u.1, opt_in H m (act K.Raise l) (n + size c + 1) u.2)
  simple_in (S.pass l) n h = h
  simple_in (S.del l ts) n h = deletes_in (all_places ts) n (subst (λ u. Holds H n u) (all_deleted_places ts) h)
  simple_in (S.return l v) n h = opt_in H v (act K.Return l) n h
  simple_in (S.raise l e c) n h =
      let u = cut H (acts_exp e) (acts_opt c ++ act K.Raise l) (size e) n (count_exp e) (regroup H (acts_exp e) (acts_opt c) (act K.Raise l) n h) in
      (exp_in H e n u.0, opt_in H c (act K.Raise l) (n + size e) u.1)
  simple_in (S.raise_again l) n h = h
  simple_in (S.break l) n h = h
  simple_in (S.continue l) n h = h
  simple_in (S.import l xs) n h = imports_in l xs n h
  simple_in (S.import_from l o xs) n h = let u = cut H (act K.Import l) (acts_import_names l xs) 1 n refl h in (u.0, import_names_in l xs (n + 1) u.1)
  simple_in (S.def l ds k b x ps a body) n h =
      let g = subst (λ u. Holds H n (u ++ acts_decorator_calls ds ++ act K.Store k)) (append_assoc (acts_decorators ds) (acts_params ps) (act K.Function k)) h in
      decorators_then (numbering H) ds n [] _ _ (λ m js i. function_in k ps js m i)
      (decorators_in ds [] (acts_params ps ++ act K.Function k) (act K.Store k) n g)
  simple_in (S.class l ds k b x base body) n h =
      let g = subst (λ u. Holds H n (u ++ acts_decorator_calls ds ++ act K.Store k)) (append_assoc (acts_decorators ds) (acts_opt base) (act K.Class k)) h in
      decorators_then (numbering H) ds n [] _ _ (λ m js i. class_in k base js m i)
      (decorators_in ds [] (acts_opt base ++ act K.Class k) (act K.Store k) n g)
  simple_in st n h = tt

  -- whatever the nest
  abbrev everywhere : Shape → Numbering
  everywhere s = numbering H

  option_in : (t : Option Tgt) (zs : List ActRow) (n : ℕ) (at : ℕ → Shape)
      → Holds H n (acts_opt_target t ++ zs) → Option_in everywhere t n at (λ m. Holds H m zs)
  option_in None zs n at h = h
  option_in (Some t) zs n at h = let u = cut H (acts_target t) zs (target_size t) n (count_target t) h in (target_in H t n u.0, u.1)

  -- the items of a `with`, with the acts inside
  items_in : (is : Items) (inside : List ActRow) (k n : ℕ) (s : Shape) → length inside ≡ k
      → Holds H n (acts_items is inside) → Items_in everywhere is k (λ m u. Holds H m inside) n s
  items_in S.no_items inside k n s many h = h
  items_in (S.with_item l e t r) inside k n s many h =
      let g = regroup H (acts_exp e ++ act K.Enter l) (acts_opt_target t) (acts_items r inside ++ act K.Exit l) n
      (regroup H (acts_exp e ++ act K.Enter l ++ acts_opt_target t) (acts_items r inside) (act K.Exit l) n h) in
      let u = cut₃ H (acts_exp e) (act K.Enter l) (acts_opt_target t ++ (acts_items r inside ++ act K.Exit l)) (size e) 1 n (count_exp e) refl g in (
        exp_in H e n u.0,
        u.1,
        option_then everywhere t (n + size e + 1) _ _ _
            (λ m i. let v = cut H (acts_items r inside) (act K.Exit l) (items_size r k) m (count_items r inside ∙ ap (λ j. items_size r j) many) i in
            (items_in r inside k m _ many v.0, v.1))
            (option_in t (acts_items r inside ++ act K.Exit l) (n + size e + 1) _ u.2),
      )

  mutual
    stm_in : (st : Stm) (n : ℕ) (s : Shape) → Holds H n (acts_stm st) → Stm_in everywhere st n s
    stm_in (S.choice l bs els) n s h = branches_then everywhere bs n s _ _ (λ m i. stms_in els m s i) (branches_in bs (acts_stms els) n s h)
    stm_in (S.while l c body els) n s h =
        let many = count_again (acts_exp c) ∙ count_exp c in
        let u = cut₄ H (again (acts_exp c)) (act K.Branch l) (acts_stms body) (acts_stms els) (size c) 1 (stms_size body) n many refl (count_stms body) h in (
          exp_in H c n (plainly H (acts_exp c) n u.0),
          tested H (acts_exp c) n (omega (arith, some_act c, count_exp c)) u.0,
          u.1,
          stms_in body (n + size c + 1) _ u.2,
          stms_in els (n + size c + 1 + stms_size body) s u.3,
        )
    stm_in (S.for l t it body els) n s h =
        let u = cut₆ H (acts_exp it) (act K.Iter l) (again (act K.Next l)) (acts_target t) (acts_stms body) (acts_stms els) (size it) 1 1 (target_size t) (stms_size body) n
        (count_exp it) refl refl (count_target t) (count_stms body) h in (
          exp_in H it n u.0,
          u.1,
          plainly H (act K.Next l) (n + size it + 1) u.2,
          tested H (act K.Next l) (n + size it + 1) (omega arith) u.2,
          target_in H t (n + size it + 1 + 1) u.3,
          stms_in body (n + size it + 1 + 1 + target_size t) _ u.4,
          stms_in els (n + size it + 1 + 1 + target_size t + stms_size body) s u.5,
        )
    stm_in (S.try l body hds els fin) n s h =
        let u = cut₅ H (act K.Try l) (acts_stms body) (acts_handlers hds) (acts_stms els) (acts_stms fin) 1 (stms_size body) (handlers_size hds) (stms_size els) n
        refl (count_stms body) (count_handlers hds) (count_stms els) h in (
          u.0,
          stms_in body (n + 1) _ u.1,
          handlers_in _ hds (n + 1 + stms_size body) _ u.2,
          stms_in els (n + 1 + stms_size body + handlers_size hds) _ u.3,
          stms_in fin (n + 1 + stms_size body + handlers_size hds + stms_size els) _ u.4,
        )
    stm_in (S.with l is body) n s h =
        items_then everywhere is (stms_size body) _ _ (λ m u i. stms_in body m u i) n s
        (items_in is (acts_stms body) (stms_size body) n s (count_stms body) h)
    stm_in st n s h = simple_in st n h

    pub stms_in : (ss : Stms) (n : ℕ) (s : Shape) → Holds H n (acts_stms ss) → Stms_in everywhere ss n s
    stms_in S.none n s h = tt
    stms_in (S.more st ss) n s h =
        let u = cut H (acts_stm st) (acts_stms ss) (stm_size st) n (count_stm st) h in (stm_in st n _ u.0, stms_in ss (n + stm_size st) s u.1)

    branches_in : (bs : Branches) (zs : List ActRow) (n : ℕ) (s : Shape)
        → Holds H n (acts_branches bs ++ zs) → Branches_in everywhere bs n s (λ m. Holds H m zs)
    branches_in S.no_branches zs n s h = h
    branches_in (S.branch k c body r) zs n s h =
        let u = cut₄ H (acts_exp c) (act K.Branch k) (acts_stms body) (acts_branches r ++ zs) (size c) 1 (stms_size body) n (count_exp c) refl (count_stms body)
        (regroup H (acts_exp c ++ act K.Branch k ++ acts_stms body) (acts_branches r) zs n h) in
        (exp_in H c n u.0, u.1, stms_in body (n + size c + 1) s u.2, branches_in r zs (n + size c + 1 + stms_size body) s u.3)

    handlers_in : (k : ℕ) (hds : Handlers) (n : ℕ) (s : Shape) → Holds H n (acts_handlers hds) → Handlers_in everywhere k hds n s
    handlers_in k S.no_handlers n s h = tt
    handlers_in k (S.handler l c None body r) n s h =
        let g = subst (λ u. Holds H n u) (to_right (acts_opt c) (act K.Match l) [] (acts_stms body) (acts_handlers r)) h in
        opt_then (numbering H) c n _ _
        (λ m i. let u = cut₃ H (act K.Match l) (acts_stms body) (acts_handlers r) 1 (stms_size body) m refl (count_stms body) i in
        (u.0, (stms_in body (m + 1) _ u.1, handlers_in k r (m + 1 + stms_size body) s u.2)))
        (opt_in H c (act K.Match l ++ acts_stms body ++ acts_handlers r) n g)
    handlers_in k (S.handler l c (Some x) body r) n s h =
        let g = subst (λ u. Holds H n u) (to_right (acts_opt c) (act K.Match l) (act K.Store l) (acts_stms body) (acts_handlers r)) h in
        opt_then (numbering H) c n _ _
        (λ m i. let u = cut₄ H (act K.Match l) (act K.Store l) (acts_stms body) (acts_handlers r) 1 1 (stms_size body) m refl refl (count_stms body) i in
        (u.0, (u.1, (stms_in body (m + 1 + 1) _ u.2, handlers_in k r (m + 1 + 1 + stms_size body) s u.3))))
        (opt_in H c (act K.Match l ++ act K.Store l ++ acts_stms body ++ acts_handlers r) n g)
