-- When the acts of a part of a tree stand at the numbers from n on, counted as control counts them, each by the numbering of the nest in which it
-- stands. What stands behind several parts is a parameter, at the number where they end.
use Rattle.std.specs.Prelude.{ℕ, ◌+◌, List, [], ◌∷◌, Option, Some, None}
use Rattle.pt_tree.specs.declared.act.ActKind.{ActKind}
use Rattle.pt_tree.specs.declared.act.ActKind.TheVariants as K
use Rattle.pt_tree.specs.declared.statement.Alias.{Alias}
use Rattle.pt_tree.specs.Syntax as S
use Rattle.pt_tree.specs.Syntax.{Exp, Exps, Opt, Pieces, Entries, Links, Args, Made, Clauses, Place, Tgt, Tgts, Params, Formals, Decorators, Items, Stm, Stms, Branches, Handlers}
use Rattle.pt_tree.specs.Sizes.{joins, size, pieces_size, place_size, target_size, params_size, items_size, stm_size, stms_size}
use Rattle.sem_control.specs.control.Frames as F
use Rattle.sem_control.specs.control.Numbers.{tested_body, behind_body, for_body, for_else, try_handlers, try_else, try_finally}
use Rattle.sem_control.specs.control.Statements.{all_places}
use Rattle.sem_control.specs.control.Jump.{Shape}

-- which acts have which numbers, and with which a re-test begins
pub record Numbering : Type 1 where
  pub is : ActKind → (line number : ℕ) → Type 0
  pub again : ℕ → Type 0

module _ (R : Numbering) where
  -- behind the parts of a replacement field's spec, which begin at n and end at m
  abbrev pub Spec_end : Pieces → (l n m : ℕ) → Type 0
  Spec_end S.no_pieces l n m = R.is K.Format l m
  Spec_end (S.literal k t S.no_pieces) l n m = R.is K.Format l m
  Spec_end (S.field k e c sp S.no_pieces) l n m = R.is K.Format l m
  Spec_end (S.literal k t r) l n m = R.is K.Join l m × R.is K.Format l (n + 1 + pieces_size r + 1)
  Spec_end (S.field k e c sp r) l n m = R.is K.Join l m × R.is K.Format l (n + pieces_size (S.field k e c sp r) + 1)

  abbrev mutual
    pub Exp_in : Exp → ℕ → Type 0
    Exp_in (S.constant l k) n = R.is K.Const l n
    Exp_in (S.name l x) n = R.is K.Load l n
    Exp_in (S.joined l ps) n = Pieces_in ps n (λ m. R.is K.Join l m)
    Exp_in (S.tuple l es) n = Exps_in es n (λ m. R.is K.Build l m)
    Exp_in (S.list l es) n = Exps_in es n (λ m. R.is K.Build l m)
    Exp_in (S.set l es) n = Exps_in es n (λ m. R.is K.Build l m)
    Exp_in (S.dict l es) n = Entries_in es n (λ m. R.is K.Build l m)
    Exp_in (S.attribute l a x) n = Exp_in a n × R.is K.Attr l (n + size a)
    Exp_in (S.item l a i) n = Exp_in a n × Exp_in i (n + size a) × R.is K.Item l (n + size a + size i)
    Exp_in (S.slice l a b c) n = Opt_in a n (λ m. Opt_in b m (λ o. Opt_in c o (λ p. R.is K.Slice l p)))
    Exp_in (S.unary l o a) n = Exp_in a n × R.is K.Unary l (n + size a)
    Exp_in (S.not_of l a) n = Exp_in a n × R.is K.Not l (n + size a)
    Exp_in (S.binary l o a b) n = Exp_in a n × Exp_in b (n + size a) × R.is K.Binary l (n + size a + size b)
    Exp_in (S.compare l a o b r) n = Exp_in a n × Exp_in b (n + size a) × R.is K.Compare l (n + size a + size b) × Links_in l r (n + size a + size b + 1)
    Exp_in (S.and l a es) n = Exp_in a n × Decisions_in l es (n + size a)
    Exp_in (S.or l a es) n = Exp_in a n × Decisions_in l es (n + size a)
    Exp_in (S.conditional l c a b) n = Exp_in c n × R.is K.Branch l (n + size c) × Exp_in a (n + size c + 1) × Exp_in b (n + size c + 1 + size a)
    Exp_in (S.call l f args) n = Exp_in f n × Args_in l args (n + size f) (λ m. R.is K.Call l m)
    Exp_in (S.lambda l b ps e) n = Params_in ps n (λ m. R.is K.Function l m)
    Exp_in (S.comprehension l m k t it cs) n =
        Exp_in it n × R.is K.Iter k (n + size it) × R.is K.Build l (n + size it + 1) × R.is K.Next k (n + size it + 1 + 1)
        × Target_in t (n + size it + 1 + 1 + 1) × Clauses_in l cs (n + size it + 1 + 1 + 1 + target_size t) (λ o. Made_in l m o)
    Exp_in (S.generator l b e k t it cs) n = Exp_in it n × R.is K.Iter k (n + size it) × R.is K.Generator l (n + size it + 1)
    Exp_in (S.yield l v) n = Opt_in v n (λ m. R.is K.Yield l m)
    Exp_in (S.yield_from l e) n = Exp_in e n × R.is K.Iter l (n + size e) × R.is K.Delegate l (n + size e + 1)

    pub Exps_in : Exps → ℕ → (ℕ → Type 0) → Type 0
    Exps_in S.no_exps n End = End n
    Exps_in (S.more_exps e es) n End = Exp_in e n × Exps_in es (n + size e) End

    pub Decisions_in : (l : ℕ) → Exps → ℕ → Type 0
    Decisions_in l S.no_exps n = Unit {0}
    Decisions_in l (S.more_exps e es) n = R.is K.Branch l n × Exp_in e (n + 1) × Decisions_in l es (n + 1 + size e)

    pub Opt_in : Opt → ℕ → (ℕ → Type 0) → Type 0
    Opt_in S.absent n End = End n
    Opt_in (S.given e) n End = Exp_in e n × End (n + size e)

    pub Pieces_in : Pieces → ℕ → (ℕ → Type 0) → Type 0
    Pieces_in S.no_pieces n End = End n
    Pieces_in (S.literal k t r) n End = R.is K.Const k n × Pieces_in r (n + 1) End
    Pieces_in (S.field k e c sp r) n End =
        Exp_in e n × Pieces_in sp (n + size e) (λ m. Spec_end sp k (n + size e) m) × Pieces_in r (n + size e + pieces_size sp + joins sp + 1) End

    pub Entries_in : Entries → ℕ → (ℕ → Type 0) → Type 0
    Entries_in S.no_entries n End = End n
    Entries_in (S.entry k v r) n End = Exp_in k n × Exp_in v (n + size k) × Entries_in r (n + size k + size v) End

    pub Links_in : (l : ℕ) → Links → ℕ → Type 0
    Links_in l S.no_links n = Unit {0}
    Links_in l (S.link o b r) n = R.is K.Branch l n × Exp_in b (n + 1) × R.is K.Compare l (n + 1 + size b) × Links_in l r (n + 1 + size b + 1)

    pub Args_in : (l : ℕ) → Args → ℕ → (ℕ → Type 0) → Type 0
    Args_in l S.no_args n End = End n
    Args_in l (S.positional e r) n End = Exp_in e n × Args_in l r (n + size e) End
    Args_in l (S.named x e r) n End = Exp_in e n × Args_in l r (n + size e) End
    Args_in l (S.spread e r) n End = Exp_in e n × R.is K.Spread l (n + size e) × Args_in l r (n + size e + 1) End
    Args_in l (S.spread_named e r) n End = Exp_in e n × R.is K.Spread l (n + size e) × Args_in l r (n + size e + 1) End

    pub Made_in : (l : ℕ) → Made → ℕ → Type 0
    Made_in l (S.a_list e) n = Exp_in e n × R.is K.Add l (n + size e)
    Made_in l (S.a_set e) n = Exp_in e n × R.is K.Add l (n + size e)
    Made_in l (S.a_dict k v) n = Exp_in k n × Exp_in v (n + size k) × R.is K.Add l (n + size k + size v)

    pub Clauses_in : (l : ℕ) → Clauses → ℕ → (ℕ → Type 0) → Type 0
    Clauses_in l S.no_clauses n End = End n
    Clauses_in l (S.only_if c cs) n End = Exp_in c n × R.is K.Branch l (n + size c) × Clauses_in l cs (n + size c + 1) End
    Clauses_in l (S.for_each k t it cs) n End =
        Exp_in it n × R.is K.Iter k (n + size it) × R.is K.Next k (n + size it + 1) × Target_in t (n + size it + 1 + 1)
        × Clauses_in l cs (n + size it + 1 + 1 + target_size t) End

    pub Place_in : Place → ℕ → Type 0
    Place_in (S.name_at l x) n = R.is K.Store l n
    Place_in (S.attribute_at l a x) n = Exp_in a n × R.is K.SetAttr l (n + size a)
    Place_in (S.item_at l a i) n = Exp_in a n × Exp_in i (n + size a) × R.is K.SetItem l (n + size a + size i)

    pub Target_in : Tgt → ℕ → Type 0
    Target_in (S.single p) n = Place_in p n
    Target_in (S.several l f ts) n = R.is K.Unpack l n × Targets_in ts (n + 1)
    Target_in (S.starred l t) n = Target_in t n

    pub Targets_in : Tgts → ℕ → Type 0
    Targets_in S.no_targets n = Unit {0}
    Targets_in (S.more_targets t ts) n = Target_in t n × Targets_in ts (n + target_size t)

    pub Params_in : Params → ℕ → (ℕ → Type 0) → Type 0
    Params_in (S.parameters ps s ks d) n End = Formals_in ps n (λ m. Formals_in ks m End)

    pub Formals_in : Formals → ℕ → (ℕ → Type 0) → Type 0
    Formals_in S.no_formals n End = End n
    Formals_in (S.formal l x a d r) n End = Opt_in d n (λ m. Formals_in r m End)

  abbrev pub Delete_in : Place → ℕ → Type 0
  Delete_in (S.name_at l x) n = R.is K.Delete l n
  Delete_in (S.attribute_at l a x) n = Exp_in a n × R.is K.DelAttr l (n + size a)
  Delete_in (S.item_at l a i) n = Exp_in a n × Exp_in i (n + size a) × R.is K.DelItem l (n + size a + size i)

  abbrev pub Deletes_in : List Place → ℕ → Type 0
  Deletes_in [] n = Unit {0}
  Deletes_in (p ∷ ps) n = Delete_in p n × Deletes_in ps (n + place_size p)

  -- the other operand of an augmented assignment, its operator, and the act that stores
  abbrev pub Change_in : (store : ActKind) → (l k : ℕ) → Exp → ℕ → Type 0
  Change_in store l k e n = Exp_in e n × R.is K.InPlace l (n + size e) × R.is store k (n + size e + 1)

  abbrev pub Augmented_in : (l : ℕ) → Place → Exp → ℕ → Type 0
  Augmented_in l (S.name_at k x) e n = R.is K.Load k n × Change_in K.Store l k e (n + 1)
  Augmented_in l (S.attribute_at k a x) e n = Exp_in a n × R.is K.Attr k (n + size a) × Change_in K.SetAttr l k e (n + size a + 1)
  Augmented_in l (S.item_at k a i) e n =
      Exp_in a n × Exp_in i (n + size a) × R.is K.Item k (n + size a + size i) × Change_in K.SetItem l k e (n + size a + size i + 1)

  abbrev pub Imports_in : (kind : ActKind) → (l : ℕ) → List Alias → ℕ → Type 0
  Imports_in kind l [] n = Unit {0}
  Imports_in kind l (a ∷ as') n = R.is kind l n × R.is K.Store l (n + 1) × Imports_in kind l as' (n + 1 + 1)

  -- decorators, behind those on the lines ks, the last first
  abbrev pub Decorators_in : Decorators → ℕ → (ks : List ℕ) → (ℕ → List ℕ → Type 0) → Type 0
  Decorators_in S.no_decorators n ks End = End n ks
  Decorators_in (S.decorator k e r) n ks End = Exp_in e n × Decorators_in r (n + size e) (k ∷ ks) End

  abbrev pub Calls_in : (l : ℕ) → (ks : List ℕ) → ℕ → Type 0
  Calls_in l [] n = R.is K.Store l n
  Calls_in l (k ∷ ks) n = R.is K.Call k n × Calls_in l ks (n + 1)

  abbrev pub Function_in : (l : ℕ) → Params → ℕ → (ks : List ℕ) → Type 0
  Function_in l ps n ks = Params_in ps n (λ m. R.is K.Function l m) × Calls_in l ks (n + params_size ps + 1)

  abbrev pub Class_in : (l : ℕ) → Opt → ℕ → (ks : List ℕ) → Type 0
  Class_in l base n ks = Opt_in base n (λ m. R.is K.Class l m × Calls_in l ks (m + 1))

  -- a statement without statements in it
  abbrev pub Simple_in : Stm → ℕ → Type 0
  Simple_in (S.expr l e) n = Exp_in e n × R.is K.Discard l (n + size e)
  Simple_in (S.assign l ts e) n = Exp_in e n × Targets_in ts (n + size e)
  Simple_in (S.augmented l p o e) n = Augmented_in l p e n
  Simple_in (S.annotated l p a S.absent) n = R.is K.Pass l n
  Simple_in (S.annotated l p a (S.given e)) n = Exp_in e n × Place_in p (n + size e)
  Simple_in (S.assert l c m) n = Exp_in c n × R.is K.Branch l (n + size c) × Opt_in m (n + size c + 1) (λ o. R.is K.Raise l o)
  Simple_in (S.pass l) n = R.is K.Pass l n
  Simple_in (S.del l ts) n = Deletes_in (all_places ts) n
  Simple_in (S.return l v) n = Opt_in v n (λ m. R.is K.Return l m)
  Simple_in (S.raise l e c) n = Exp_in e n × Opt_in c (n + size e) (λ m. R.is K.Raise l m)
  Simple_in (S.raise_again l) n = R.is K.Raise l n
  Simple_in (S.break l) n = R.is K.Break l n
  Simple_in (S.continue l) n = R.is K.Continue l n
  Simple_in (S.import l xs) n = Imports_in K.Import l xs n
  Simple_in (S.import_from l o xs) n = R.is K.Import l n × Imports_in K.ImportName l xs (n + 1)
  Simple_in (S.def l ds k b x ps a body) n = Decorators_in ds n [] (λ m ks. Function_in k ps m ks)
  Simple_in (S.class l ds k b x base body) n = Decorators_in ds n [] (λ m ks. Class_in k base m ks)
  Simple_in st n = Unit {0}

-- by the nest in which each part stands
module _ (R : Shape → Numbering) where
  -- the target of a context that is entered, in a nest by the number behind it
  abbrev pub Option_in : Option Tgt → ℕ → (ℕ → Shape) → (ℕ → Type 0) → Type 0
  Option_in None n at End = End n
  Option_in (Some t) n at End = Target_in (R (at (n + target_size t))) t n × End (n + target_size t)

  -- a context that is entered: its target, the items and the acts inside, so many, and its Exit
  abbrev pub Items_in : Items → (inside : ℕ) → (ℕ → Shape → Type 0) → ℕ → Shape → Type 0
  Items_in S.no_items k Body n s = Body n s
  Items_in (S.with_item l e t is) k Body n s =
      Exp_in (R s) e n × (R s).is K.Enter l (n + size e)
      × Option_in t (n + size e + 1) (λ m. F.withing l (m + items_size is k) tt ∷ s)
      (λ m. Items_in is k Body m (F.withing l (m + items_size is k) tt ∷ s)
      × (R (F.exiting (m + items_size is k) tt F.normal ∷ s)).is K.Exit l (m + items_size is k))

  -- a handler's name, which is bound behind the Match at n
  abbrev pub Name_in : (l : ℕ) → Option (List ℕ) → ℕ → Shape → (ℕ → Shape → Type 0) → Type 0
  Name_in l None n s End = End (n + 1) (F.handling n tt ∷ s)
  Name_in l (Some x) n s End =
      (R (F.handling n tt ∷ s)).is K.Store l (n + 1) × End (n + 1 + 1) (F.naming x ∷ F.handling n tt ∷ s)

  abbrev mutual
    pub Stm_in : Stm → ℕ → Shape → Type 0
    Stm_in (S.choice l bs els) n s = Branches_in bs n s (λ m. Stms_in els m s)
    Stm_in (S.while l c body els) n s =
        Exp_in (R s) c n × (R s).again n × (R s).is K.Branch l (n + size c)
        × Stms_in body (tested_body n c) (F.looping l n c body els ∷ s) × Stms_in els (behind_body n c body) s
    Stm_in (S.for l t it body els) n s =
        Exp_in (R s) it n × (R s).is K.Iter l (n + size it)
        × (R (F.iterating l (n + size it + 1) tt t body els ∷ s)).is K.Next l (n + size it + 1)
        × (R (F.iterating l (n + size it + 1) tt t body els ∷ s)).again (n + size it + 1)
        × Target_in (R (F.iterating l (n + size it + 1) tt t body els ∷ s)) t (n + size it + 1 + 1)
        × Stms_in body (for_body (n + size it + 1) t) (F.iterating l (n + size it + 1) tt t body els ∷ s)
        × Stms_in els (for_else (n + size it + 1) t body) s
    Stm_in (S.try l body hs els fin) n s =
        (R s).is K.Try l n
        × Stms_in body (n + 1) (F.guarded (try_handlers n body) hs els ∷ F.ensuring n (try_finally n body hs els) fin ∷ s)
        × Handlers_in (try_handlers n body) hs (try_handlers n body) (F.ensuring n (try_finally n body hs els) fin ∷ s)
        × Stms_in els (try_else n body hs) (F.ensuring n (try_finally n body hs els) fin ∷ s)
        × Stms_in fin (try_finally n body hs els) (F.ending n F.normal ∷ s)
    Stm_in (S.with l is body) n s = Items_in is (stms_size body) (λ m u. Stms_in body m u) n s
    Stm_in st n s = Simple_in (R s) st n

    pub Stms_in : Stms → ℕ → Shape → Type 0
    Stms_in S.none n s = Unit {0}
    Stms_in (S.more st ss) n s = Stm_in st n (F.rest (n + stm_size st) ss ∷ s) × Stms_in ss (n + stm_size st) s

    pub Branches_in : Branches → ℕ → Shape → (ℕ → Type 0) → Type 0
    Branches_in S.no_branches n s End = End n
    Branches_in (S.branch k c body r) n s End =
        Exp_in (R s) c n × (R s).is K.Branch k (n + size c) × Stms_in body (tested_body n c) s × Branches_in r (behind_body n c body) s End

    -- k numbers the first handler's first act
    pub Handlers_in : (k : ℕ) → Handlers → ℕ → Shape → Type 0
    Handlers_in k S.no_handlers n s = Unit {0}
    Handlers_in k (S.handler l c x body r) n s =
        Opt_in (R (F.testing k tt ∷ s)) c n
        (λ m. (R (F.testing k tt ∷ s)).is K.Match l m
        × Name_in l x m s (λ o u. Stms_in body o u × Handlers_in k r (o + stms_size body) s))
