-- What a turn of code reads of how many slots lie at places: only what it cuts where it goes on with a jump.
use Rattle.std.proofs.Common.{◌≡◌, ℕ, zero, suc, ◌+◌, Bool, true, false, List, [], ◌∷◌, Option, Some, None, option_map, refl, ap, ◌∙◌, subst, if◌then◌else◌}
use Rattle.pt_ranges.specs.declared.handlers.Handler.{Handler}
use Rattle.pt_tree.specs.declared.expression.Constant.{Constant}
use Rattle.pt_tree.specs.declared.expression.Constant.TheVariants as constant
use Rattle.pt_instr.specs.declared.Instr.{Instr}
use Rattle.pt_instr.specs.declared.Instr.TheVariants as instr
use Rattle.pt_code.specs.View.{Ins}
use Rattle.sem_control.specs.control.Turn as T
use Rattle.sem_control.specs.control.Turn.{Mark, Operation, Ask, Answer, Reply, got, raised, Turn}
use Rattle.sem_code.specs.slots.Slots.{Abrupt, raise, return, jump_to, Completion, normal, by, value, cell, iterator, pending, exit, raise_of, left_of, Slots, State, on, thrown_to, reraises, off}
use Rattle.sem_code.specs.slots.CodeObject.{CodeObject, Extras, local, global, named}
use Rattle.sem_code.specs.slots.Landing.{cut, takes, held_by, land}
use Rattle.sem_code.specs.slots.Pops.{values, cells, one, two, three, an_iterator, movable, an_exception, a_completion, an_exit, the_value, giving}
use Rattle.sem_code.specs.slots.Steps.{mark_of, unmarked, after, asks, gives, does, throws, goes, leaves, known, gives_known, branches, with_item, delegated, delegates, lets_go}
use Rattle.sem_code.specs.slots.Instructions.{operates, jumps, perform}
use Rattle.sem_code.specs.slots.Machine.{turn, here, thrown_here, after_note}

-- the operations that no tree asks for
pub data Extra : Type 0 where
  tuple_join : Extra
  dict_merge : Extra
  super : Extra

abbrev pub operation : Extras → Extra → Operation
operation x tuple_join = x.tuple_join
operation x dict_merge = x.dict_merge
operation x super = x.super

-- a code object with other numbers of slots and other operations
module _ {V : Type 0} (code : CodeObject V) (depth_at : ℕ → ℕ) (extras : Extras) where
  abbrev pub other : CodeObject V
  other = record code { depth_at = depth_at; extras = extras }

  -- the same turn, or an act that asks for the operation of either
  pub data AlikeTurns : Turn (State V) V → Turn (State V) V → Type 0 where
    same : (t : Turn (State V) V) → AlikeTurns t t
    extra : (m : Option Mark) (x : Extra) (vs : List V) (k k' : Reply V V → State V)
        → AlikeTurns (T.act m (T.seek (T.operate (operation code.extras x) vs)) k) (T.act m (T.seek (T.operate (operation extras x) vs)) k')

  -- both know the same number of slots where a jump leads that goes on here
  abbrev pub HeldAlike : Completion V → Type 0
  HeldAlike (by (jump_to t)) = code.depth_at t ≡ depth_at t
  HeldAlike c = Unit {0}

  abbrev pub JumpsAlike : Instr → Slots V → Type 0
  JumpsAlike (instr.Leave t) ss = code.depth_at t.0 ≡ depth_at t.0
  JumpsAlike instr.EndFinally (pending c ∷ ss) = HeldAlike c
  JumpsAlike j ss = Unit {0}

  abbrev pub AlikeHere : Option Ins → Slots V → Type 0
  AlikeHere (Some i) ss = JumpsAlike i.instr ss
  AlikeHere None ss = Unit {0}

  abbrev pub AlikeAt : State V → Type 0
  AlikeAt (on pc ss) = AlikeHere (code.at pc) ss
  AlikeAt s = Unit {0}

  -- where what leaves a place lands
  raise_same : (rows : List Handler) (v : V) (ss : Slots V) → land code rows (raise v) ss ≡ land other rows (raise v) ss
  raise_same [] v ss = refl
  raise_same (row ∷ rows) v ss = refl

  return_same : (rows : List Handler) (v : V) (ss : Slots V) → land code rows (return v) ss ≡ land other rows (return v) ss
  return_same [] v ss = refl
  return_same (row ∷ rows) v ss =
      ap (λ s. if row.always then on row.target.0 (held_by row.always (return v) ∷ cut row.depth ss) else s) (return_same rows v ss)

  jump_same : (rows : List Handler) (t : ℕ) (ss : Slots V) → code.depth_at t ≡ depth_at t → land code rows (jump_to t) ss ≡ land other rows (jump_to t) ss
  jump_same [] t ss e = ap (λ d. on t (cut d ss)) e
  jump_same (row ∷ rows) t ss e =
      ap (λ s. if takes {V = V} row (jump_to t) then on row.target.0 (held_by row.always (jump_to t) ∷ cut row.depth ss) else s) (jump_same rows t ss e)

  module _ (pc : ℕ) (i : Ins) where
    after_same : {A : Type 0} (ss : Slots V) (next : A → State V) → after code i ss next ≡ after other i ss next
    after_same {A = A} ss next = λ j. λ r. by_reply r j
      where
        by_reply : (r : Reply V A) → after code i ss next r ≡ after other i ss next r
        by_reply (got a) = refl
        by_reply (raised v) = raise_same i.rows v ss

    asks_same : (a : Ask V) (ss : Slots V) (next : Answer V a → State V) → asks code i a ss next ≡ asks other i a ss next
    asks_same a ss next = λ j. T.act (option_map mark_of i.mark) a (after_same ss next j)

    gives_same : (a : T.Seek V) (ss : Slots V) → gives code i a ss ≡ gives other i a ss
    gives_same a ss = asks_same (T.seek a) ss _

    does_same : (d : T.Deed V) (ss : Slots V) → does code i d ss ≡ does other i d ss
    does_same d ss = asks_same (T.deed d) ss _

    throws_same : (t : T.Throw V) (ss : Slots V) → throws code i t ss ≡ throws other i t ss
    throws_same t ss = asks_same (T.throw t) ss _

    goes_same : (s : State V) (ss : Slots V) → goes code i s ss ≡ goes other i s ss
    goes_same s ss = λ j. unmarked i.mark s (asks_same (T.deed T.nothing) ss (λ u. s) j)

    leaves_same : (a : T.Leave V) (by_it : Abrupt V) (ss : Slots V) → land code i.rows by_it ss ≡ land other i.rows by_it ss
        → leaves code i a by_it ss ≡ leaves other i a by_it ss
    leaves_same a by_it ss e =
        ap (λ s. unmarked i.mark s (asks code i (T.leave a) ss (λ u. s))) e ∙
        (λ j. unmarked i.mark (land other i.rows by_it ss) (asks_same (T.leave a) ss (λ u. land other i.rows by_it ss) j))

    known_same : (k : Constant) → known code k ≡ known other k
    known_same constant.None = refl
    known_same (constant.Bool b) = refl
    known_same k = refl

    gives_known_same : (k : Constant) (o : Option V) (ss : Slots V) → gives_known code i k o ss ≡ gives_known other i k o ss
    gives_known_same k (Some v) ss = λ j. unmarked i.mark (on i.next (value v ∷ ss)) (gives_same (T.const k) ss j)
    gives_known_same k None ss = gives_same (T.const k) ss

    branches_same : (o : Option Bool) (f g : V → Slots V → State V) (v : V) (ss : Slots V) → branches code i o f g v ss ≡ branches other i o f g v ss
    branches_same (Some b) f g v ss = λ j. unmarked i.mark (if b then f v ss else g v ss) (asks_same (T.test (T.branch v)) ss (λ b. if b then f v ss else g v ss) j)
    branches_same None f g v ss = asks_same (T.test (T.branch v)) ss _

    jumps_same : (f g : V → Slots V → State V) (ss : Slots V) → jumps code pc i f g ss ≡ jumps other pc i f g ss
    jumps_same f g ss = λ j. one ss (λ v below. branches_same (code.is_truth v) f g v below j)

    operates_same : (o : Operation) (n : ℕ) (ss : Slots V) → operates code pc i o n ss ≡ operates other pc i o n ss
    operates_same o n ss = λ j. values n [] ss (λ vs below. gives_same (T.operate o vs) below j)

    item_same : (at_end : ℕ) (it : V) (ss : Slots V) (o : Option V) → with_item code i at_end it ss o ≡ with_item other i at_end it ss o
    item_same at_end it ss (Some v) = refl
    item_same at_end it ss None = refl

    next_same : (at_end : ℕ) (it : V) (ss : Slots V) → asks code i (T.next_of it) ss (with_item code i at_end it ss) ≡ asks other i (T.next_of it) ss (with_item other i at_end it ss)
    next_same at_end it ss = asks_same (T.next_of it) ss _ ∙ (λ j. asks other i (T.next_of it) ss (λ o. item_same at_end it ss o j))

    delegated_same : (it u : V) (ss : Slots V) (d : T.Delegated V) → delegated code pc i it u ss d ≡ delegated other pc i it u ss d
    delegated_same it u ss (T.returned v) = refl
    delegated_same it u ss (T.resumed (got v)) = refl
    delegated_same it u ss (T.resumed (raised e)) = refl

    delegates_same : (r : Reply V V) (it u : V) (ss : Slots V) → delegates code pc i r it u ss ≡ delegates other pc i r it u ss
    delegates_same r it u ss = asks_same (T.delegate it r) ss _ ∙ (λ j. asks other i (T.delegate it r) ss (λ d. delegated_same it u ss d j))

    lets_go_same : (c : Completion V) (ss : Slots V) → HeldAlike c → lets_go code i c ss ≡ lets_go other i c ss
    lets_go_same normal ss h = goes_same _ ss
    lets_go_same (by (raise e)) ss h = goes_same _ ss
    lets_go_same (by (return v)) ss h = ap (λ s. goes code i s ss) (return_same i.rows v ss) ∙ goes_same _ ss
    lets_go_same (by (jump_to t)) ss h = ap (λ s. goes code i s ss) (jump_same i.rows t ss h) ∙ goes_same _ ss

    end_same : (ss : Slots V) → JumpsAlike instr.EndFinally ss → perform code pc i instr.EndFinally ss ≡ perform other pc i instr.EndFinally ss
    end_same (pending c ∷ ss) h = lets_go_same c ss h
    end_same ss h = refl

    match_same : (ss : Slots V) → perform code pc i instr.Match ss ≡ perform other pc i instr.Match ss
    match_same ss = λ j. one ss (λ c below. an_exception below (λ e under. asks_same (T.test (T.matches e c)) below (λ b. on i.next (value (code.truth b) ∷ below)) j))

    exit_same : (ss : Slots V) → perform code pc i instr.Exit ss ≡ perform other pc i instr.Exit ss
    exit_same ss =
        λ j. a_completion ss (λ c below. an_exit below
        (λ w under. asks_same (T.test (T.exit_of w (raise_of c))) under (λ b. on i.next (pending (left_of b c) ∷ under)) j))

    -- operations of the extras apart
    abbrev AsksExtra : Instr → Type 0
    AsksExtra instr.TupleJoin = ⊥
    AsksExtra instr.DictMerge = ⊥
    AsksExtra instr.Super = ⊥
    AsksExtra k = Unit {0}

    performs_same : (k : Instr) (ss : Slots V) → JumpsAlike k ss → AsksExtra k → perform code pc i k ss ≡ perform other pc i k ss
    performs_same instr.Nop ss h x = goes_same _ ss
    performs_same (instr.Const k) ss h x = ap (λ o. gives_known code i (code.pool.constant k.0) o ss) (known_same (code.pool.constant k.0)) ∙ gives_known_same _ _ ss
    performs_same (instr.Local y) ss h x = gives_same _ ss
    performs_same (instr.SetLocal y) ss h x = λ j. one ss (λ v below. does_same (T.store (local (code.pool.local y.0)) v) below j)
    performs_same (instr.DelLocal y) ss h x = does_same _ ss
    performs_same (instr.FreshLocal y) ss h x = does_same _ ss
    performs_same (instr.Cell y) ss h x = gives_same _ ss
    performs_same (instr.SetCell y) ss h x = λ j. one ss (λ v below. does_same (T.store (code.pool.cell y.0) v) below j)
    performs_same (instr.DelCell y) ss h x = does_same _ ss
    performs_same (instr.FreshCell y) ss h x = does_same _ ss
    performs_same (instr.PushCell y) ss h x = asks_same (T.seek (T.cell_of (code.pool.cell y.0))) ss (λ v. on i.next (cell v ∷ ss))
    performs_same (instr.Global t) ss h x = gives_same _ ss
    performs_same (instr.SetGlobal t) ss h x = λ j. one ss (λ v below. does_same (T.store (global (code.pool.text t.0)) v) below j)
    performs_same (instr.DelGlobal t) ss h x = does_same _ ss
    performs_same (instr.Name t) ss h x = gives_same _ ss
    performs_same (instr.SetName t) ss h x = λ j. one ss (λ v below. does_same (T.store (named code.pool.name_scope (code.pool.text t.0)) v) below j)
    performs_same (instr.DelName t) ss h x = does_same _ ss
    performs_same instr.Pop ss h x = λ j. one ss (λ v below. unmarked i.mark (on i.next below) (does_same (T.discard v) below j))
    performs_same instr.Copy ss h x = λ j. one ss (λ v below. goes_same (on i.next (value v ∷ value v ∷ below)) below j)
    performs_same instr.Copy2 ss h x = λ j. two ss (λ a b below. goes_same (on i.next (value b ∷ value a ∷ value b ∷ value a ∷ below)) below j)
    performs_same instr.Swap ss h x = λ j. one ss (λ b below. movable below (λ a under. goes_same (on i.next (a ∷ value b ∷ under)) under j))
    performs_same instr.Rot3 ss h x = λ j. three ss (λ a b c below. goes_same (on i.next (value b ∷ value a ∷ value c ∷ below)) below j)
    performs_same (instr.Attr t) ss h x = operates_same _ 1 ss
    performs_same (instr.SetAttr t) ss h x = λ j. two ss (λ v a below. does_same (T.set_attribute (code.pool.text t.0) a v) below j)
    performs_same (instr.DelAttr t) ss h x = λ j. one ss (λ a below. does_same (T.delete_attribute (code.pool.text t.0) a) below j)
    performs_same instr.Item ss h x = operates_same _ 2 ss
    performs_same instr.SetItem ss h x = λ j. three ss (λ v a k below. does_same (T.set_item a k v) below j)
    performs_same instr.DelItem ss h x = λ j. two ss (λ a k below. does_same (T.delete_item a k) below j)
    performs_same instr.Slice ss h x = operates_same _ 3 ss
    performs_same (instr.Unary o) ss h x = operates_same _ 1 ss
    performs_same instr.Not ss h x = operates_same _ 1 ss
    performs_same (instr.Binary o) ss h x = operates_same _ 2 ss
    performs_same (instr.InPlace o) ss h x = operates_same _ 2 ss
    performs_same (instr.Compare o) ss h x = operates_same _ 2 ss
    performs_same (instr.Tuple n) ss h x = operates_same _ n ss
    performs_same (instr.List n) ss h x = operates_same _ n ss
    performs_same (instr.Set n) ss h x = operates_same _ n ss
    performs_same (instr.Dict n) ss h x = operates_same _ (n + n) ss
    performs_same (instr.ListAdd n) ss h x = λ j. one ss (λ v below. the_value n below (λ made. does_same (T.add_to_list made v) below j))
    performs_same (instr.SetAdd n) ss h x = λ j. one ss (λ v below. the_value n below (λ made. does_same (T.add_to_set made v) below j))
    performs_same (instr.DictAdd n) ss h x = λ j. two ss (λ k v below. the_value n below (λ made. does_same (T.add_to_dict made k v) below j))
    performs_same (instr.Format c) ss h x = operates_same _ 2 ss
    performs_same (instr.Join n) ss h x = operates_same _ n ss
    performs_same instr.TupleJoin ss h x = absurd x
    performs_same instr.DictMerge ss h x = absurd x
    performs_same (instr.Unpack n) ss h x = λ j. one ss (λ v below. asks_same (T.unpack v n None) below (λ vs. on i.next (giving n vs below)) j)
    performs_same (instr.UnpackStar n m) ss h x =
        λ j. one ss (λ v below. asks_same (T.unpack v (n + 1 + m) (Some n)) below (λ vs. on i.next (giving (n + 1 + m) vs below)) j)
    performs_same instr.Spread ss h x = operates_same _ 1 ss
    performs_same instr.SpreadMap ss h x = operates_same _ 1 ss
    performs_same (instr.Call n) ss h x = operates_same _ (suc n) ss
    performs_same (instr.CallKw n l) ss h x = operates_same _ (suc n) ss
    performs_same (instr.CallSpread n l) ss h x = operates_same _ (suc n) ss
    performs_same instr.Super ss h x = absurd x
    performs_same (instr.MakeFunction b n l) ss h x =
        λ j. cells (code.pool.captures b.0) [] ss
        (λ cs below. values n cs below (λ vs under. gives_same (T.operate (T.function b.0 (code.pool.texts l.0)) vs) under j))
    performs_same (instr.MakeClass b) ss h x =
        λ j. cells (code.pool.captures b.0) [] ss (λ cs below. one below (λ base under. gives_same (T.operate (T.class b.0) (base ∷ cs)) under j))
    performs_same (instr.MakeGenerator b) ss h x =
        λ j. cells (code.pool.captures b.0) [] ss (λ cs below. an_iterator below (λ it under. gives_same (T.operate (T.generator b.0) (it ∷ cs)) under j))
    performs_same instr.Iter ss h x = λ j. one ss (λ v below. asks_same (T.iter_of v) below (λ it. on i.next (iterator it ∷ below)) j)
    performs_same (instr.Next t) ss h x = λ j. an_iterator ss (λ it below. next_same t.0 it below j)
    performs_same (instr.Jump t) ss h x = goes_same _ ss
    performs_same (instr.JumpIf t) ss h x = jumps_same _ _ ss
    performs_same (instr.JumpUnless t) ss h x = jumps_same _ _ ss
    performs_same (instr.JumpIfKeep t) ss h x = jumps_same _ _ ss
    performs_same (instr.JumpUnlessKeep t) ss h x = jumps_same _ _ ss
    performs_same instr.Return ss h x = λ j. one ss (λ v below. leaves_same (T.returning v) (return v) below (return_same i.rows v below) j)
    performs_same instr.Yield ss h x = λ j. one ss (λ v below. gives_same (T.yielding v) below j)
    performs_same instr.Delegate ss h x = λ j. one ss (λ v below. an_iterator below (λ it under. delegates_same (got v) it v under j))
    performs_same instr.Raise ss h x = λ j. one ss (λ v below. throws_same (T.raising v None) below j)
    performs_same instr.RaiseFrom ss h x = λ j. two ss (λ v c below. throws_same (T.raising v (Some c)) below j)
    performs_same instr.RaiseAgain ss h x = throws_same _ ss
    performs_same (instr.AssertFail false) ss h x = throws_same _ ss
    performs_same (instr.AssertFail true) ss h x = λ j. one ss (λ m below. throws_same (T.failing (Some m)) below j)
    performs_same (instr.Leave t) ss h x = leaves_same T.jumping (jump_to t.0) ss (jump_same i.rows t.0 ss h)
    performs_same instr.Match ss h x = match_same ss
    performs_same instr.Caught ss h x = λ j. an_exception ss (λ e below. goes_same (on i.next (value e ∷ ss)) ss j)
    performs_same instr.EndHandler ss h x = λ j. an_exception ss (λ e below. goes_same (on i.next below) below j)
    performs_same instr.Rethrow ss h x = λ j. an_exception ss (λ e below. goes_same (reraises e i.rows below) below j)
    performs_same instr.Enter ss h x = λ j. one ss (λ v below. asks_same (T.enter v) below (λ p. on i.next (value p.1 ∷ exit p.0 ∷ below)) j)
    performs_same instr.Normal ss h x = goes_same _ ss
    performs_same instr.Exit ss h x = exit_same ss
    performs_same instr.EndFinally ss h x = end_same ss h
    performs_same (instr.Import t) ss h x = operates_same _ 0 ss
    performs_same (instr.ImportName t) ss h x =
        λ j. one ss (λ m below. asks_same (T.seek (T.operate (T.import_name (code.pool.text t.0)) (m ∷ []))) ss (λ v. on i.next (value v ∷ ss)) j)

    alike : (t u : Turn (State V) V) → t ≡ u → AlikeTurns t u
    alike t u e = subst (AlikeTurns t) e (same t)

    asks_extra : (x : Extra) (n : ℕ) (over : List V) (ss : Slots V)
        → AlikeTurns (values n over ss (λ vs below. gives code i (T.operate (operation code.extras x) vs) below))
        (values n over ss (λ vs below. gives other i (T.operate (operation extras x) vs) below))
    asks_extra x zero over ss = extra _ x over _ _
    asks_extra x (suc n) over (value v ∷ ss) = asks_extra x n (v ∷ over) ss
    asks_extra x (suc n) over ss = same T.stuck

    performs_alike : (k : Instr) (ss : Slots V) → JumpsAlike k ss → AlikeTurns (perform code pc i k ss) (perform other pc i k ss)
    performs_alike instr.TupleJoin ss h = asks_extra tuple_join 2 [] ss
    performs_alike instr.DictMerge ss h = asks_extra dict_merge 2 [] ss
    performs_alike instr.Super ss h = asks_extra super 2 [] ss
    performs_alike k ss h = alike _ _ (performs_same k ss h tt)

    thrown_same : (e : V) (ss : Slots V) → thrown_here code pc (Some i) e ss ≡ thrown_here other pc (Some i) e ss
    thrown_same e ss = λ j. one ss (λ u below. an_iterator below (λ it under. delegates_same (raised e) it u under j))

  here_alike : (pc : ℕ) (o : Option Ins) (ss : Slots V) → AlikeHere o ss → AlikeTurns (here code pc o ss) (here other pc o ss)
  here_alike pc (Some i) ss h = performs_alike pc i i.instr ss h
  here_alike pc None ss h = same T.stuck

  thrown_alike : (pc : ℕ) (o : Option Ins) (e : V) (ss : Slots V) → AlikeTurns (thrown_here code pc o e ss) (thrown_here other pc o e ss)
  thrown_alike pc (Some i) e ss = alike pc i _ _ (thrown_same pc i e ss)
  thrown_alike pc None e ss = same T.stuck

  noted_same : (e : V) (rows : List Handler) (ss : Slots V) (r : Reply V (Unit {0})) → after_note code e rows ss r ≡ after_note other e rows ss r
  noted_same e rows ss (got u) = raise_same rows e ss
  noted_same e rows ss (raised v) = raise_same rows v ss

  pub turns_alike : (s : State V) → AlikeAt s → AlikeTurns (turn code s) (turn other s)
  turns_alike (on pc ss) h = here_alike pc (code.at pc) ss h
  turns_alike (thrown_to pc e ss) h = thrown_alike pc (code.at pc) e ss
  turns_alike (reraises e rows ss) h =
      subst (λ f. AlikeTurns (T.note (T.raised_again e) (after_note code e rows ss)) (T.note (T.raised_again e) f)) (λ j. λ r. noted_same e rows ss r j) (same _)
  turns_alike (off e) h = same _
