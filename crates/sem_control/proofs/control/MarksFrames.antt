-- When the acts of what is left in a frame stand at the numbers that the frame has, by the numbering of the nest in which each stands.
use Rattle.std.specs.Prelude.{ℕ, ◌+◌, List, [], ◌∷◌, Option, true, ◌≡◌}
use Rattle.pt_tree.specs.declared.act.ActKind.{ActKind}
use Rattle.pt_tree.specs.declared.act.ActKind.TheVariants as K
use Rattle.pt_tree.specs.Syntax.{Exp, Clauses, Tgt, Items, Stms}
use Rattle.pt_tree.specs.Sizes.{joins, size, pieces_size, target_size, items_size, stms_size, handlers_size}
use Rattle.sem_control.specs.control.Turn.{Mark}
use Rattle.sem_control.specs.control.Frames as F
use Rattle.sem_control.specs.control.Frames.{Frame, Nest, Way, Wait, Over, Rounds, Control, Operand, Stores, Purpose, Address, Definition, Decorating}
use Rattle.sem_control.specs.control.Bases.{base, way_base, purpose_base, over_base, rounds_base, rounds_line}
use Rattle.sem_control.specs.control.Jump.{Shape, shape}
use Rattle.sem_control.specs.control.Numbers.{tested_body, behind_body, for_body, for_else}
use Rattle.sem_control.specs.control.Reached.{operation_kind, seek_kind, deed_kind, leave_kind, test_kind}
use Rattle.sem_control.proofs.control.MarksTree.{Numbering, Spec_end, Exp_in, Decisions_in, Opt_in, Pieces_in, Links_in, Made_in, Clauses_in, Target_in, Targets_in, Option_in, Deletes_in, Change_in, Imports_in, Decorators_in, Calls_in, Function_in, Class_in, Items_in, Stms_in, Branches_in, Handlers_in}

-- the act that stores to a place
abbrev pub store_kind : {V : Type 0} → Address V → ActKind
store_kind (F.a_name x) = K.Store
store_kind (F.an_attribute a x) = K.SetAttr
store_kind (F.an_item a i) = K.SetItem

-- the lines of decorators
abbrev pub lines : {V : Type 0} → List (Decorating V) → List ℕ
lines [] = []
lines (c ∷ cs) = c.line ∷ lines cs

module _ (R : Numbering) where
  abbrev pub Operands_in : List Operand → ℕ → (ℕ → Type 0) → Type 0
  Operands_in [] n End = End n
  Operands_in (F.missing ∷ os) n End = Operands_in os n End
  Operands_in (F.plain e ∷ os) n End = Exp_in R e n × Operands_in os (n + size e) End
  Operands_in (F.spread_of k e ∷ os) n End = Exp_in R e n × R.is K.Spread k (n + size e) × Operands_in os (n + size e + 1) End
  Operands_in (F.spread_named_of k e ∷ os) n End = Exp_in R e n × R.is K.Spread k (n + size e) × Operands_in os (n + size e + 1) End
  Operands_in (F.literal_of k t ∷ os) n End = R.is K.Const k n × Operands_in os (n + 1) End
  Operands_in (F.field_of k e c sp ∷ os) n End =
      Exp_in R e n × Pieces_in R sp (n + size e) (λ m. Spec_end R sp k (n + size e) m) × Operands_in os (n + size e + pieces_size sp + joins sp + 1) End

  abbrev pub Stores_in : {V : Type 0} → Stores V → ℕ → Type 0
  Stores_in F.no_more n = Unit {0}
  Stores_in (F.and_store t v st) n = Target_in R t n × Stores_in st (n + target_size t)

  abbrev pub Definition_in : (l : ℕ) → Definition → ℕ → (ks : List ℕ) → Type 0
  Definition_in l (F.a_function b ps) n ks = Function_in R l ps n ks
  Definition_in l (F.a_class b base) n ks = Class_in R l base n ks

  -- from the next item of a comprehension's clause
  abbrev pub Round_in : (l for_line n : ℕ) → Tgt → Clauses → (ℕ → Type 0) → Type 0
  Round_in l k n t cs End = R.is K.Next k n × Target_in R t (n + 1) × Clauses_in R l cs (n + 1 + target_size t) End

  -- what is made of an item
  abbrev pub Last_in : {V : Type 0} → Rounds V → ℕ → Type 0
  Last_in (F.collecting l k m v w) n = Made_in R l m n
  Last_in (F.generating l e s) n = Exp_in R e n × R.is K.Yield l (n + size e) × R.is K.Discard l (n + size e + 1)
  Last_in (F.round_of l k i t cs q) n = Last_in q n

  -- the act with a mark is of a kind, and where a re-test begins with it, the numbering says so
  abbrev pub Marked : Mark → ActKind → Type 0
  Marked m k = R.is k m.line m.act × (m.is_retest ≡ true → R.again m.act)

module _ (R : Shape → Numbering) where
  -- from the test of a `while`, from the next item of a `for`, from the target of a `with` item
  abbrev pub While_in : (l n : ℕ) → Exp → (body els : Stms) → Shape → Type 0
  While_in l n c body els s =
      Exp_in (R s) c n × (R s).again n × (R s).is K.Branch l (n + size c)
      × Stms_in R body (tested_body n c) (F.looping l n c body els ∷ s) × Stms_in R els (behind_body n c body) s

  abbrev pub For_in : (l n : ℕ) → Tgt → (body els : Stms) → Shape → Type 0
  For_in l n t body els s =
      (R (F.iterating l n tt t body els ∷ s)).is K.Next l n × (R (F.iterating l n tt t body els ∷ s)).again n
      × Target_in (R (F.iterating l n tt t body els ∷ s)) t (n + 1)
      × Stms_in R body (for_body n t) (F.iterating l n tt t body els ∷ s) × Stms_in R els (for_else n t body) s

  abbrev pub Entry_in : (l n : ℕ) → Option Tgt → Items → (body : Stms) → Shape → Type 0
  Entry_in l n t is body s =
      Option_in R t n (λ m. F.withing l (m + items_size is (stms_size body)) tt ∷ s)
      (λ m. Items_in R is (stms_size body) (λ o u. Stms_in R body o u) m (F.withing l (m + items_size is (stms_size body)) tt ∷ s)
      × (R (F.exiting (m + items_size is (stms_size body)) tt F.normal ∷ s)).is K.Exit l (m + items_size is (stms_size body)))

  -- a frame in a nest
  abbrev pub Frame_in : Frame (Unit {0}) → Shape → Type 0
  Frame_in (F.rest n ss) s = Stms_in R ss n s
  Frame_in (F.looping l n c body els) s = While_in l n c body els s
  Frame_in (F.iterating l n i t body els) s = For_in l n t body els s
  Frame_in (F.guarded n hs els) s = Handlers_in R n hs n s × Stms_in R els (n + handlers_size hs) s
  Frame_in (F.testing n e) s = Unit {0}
  Frame_in (F.handling n e) s = Unit {0}
  Frame_in (F.naming x) s = Unit {0}
  Frame_in (F.ensuring t n fin) s = Stms_in R fin n (F.ending t F.normal ∷ s)
  Frame_in (F.ending t held) s = Unit {0}
  Frame_in (F.withing l n w) s = (R (F.exiting n tt F.normal ∷ s)).is K.Exit l n
  Frame_in (F.exiting n w held) s = Unit {0}

  abbrev pub Shape_in : Shape → Type 0
  Shape_in [] = Unit {0}
  Shape_in (f ∷ s) = Frame_in f s × Shape_in s

  abbrev pub Nest_in : {V : Type 0} → Nest V → Type 0
  Nest_in s = Shape_in (shape s)

  -- the numbering in a nest
  abbrev pub numbers : {V : Type 0} → Nest V → Numbering
  numbers s = R (shape s)

  abbrev mutual
    pub Way_in : {V : Type 0} → Way V → Type 0
    Way_in (F.finished s) = Nest_in s
    Way_in (F.stms n ss s) = Stms_in R ss n (shape s) × Nest_in s
    Way_in (F.branches n bs els s) = Branches_in R bs n (shape s) (λ m. Stms_in R els m (shape s)) × Nest_in s
    Way_in (F.value n e w) = Exp_in (numbers (base w)) e n × Wait_in w
    Way_in (F.given v w) = Wait_in w
    Way_in (F.linked_on l n v o b r w) =
        Exp_in (numbers (base w)) b n × (numbers (base w)).is K.Compare l (n + size b) × Links_in (numbers (base w)) l r (n + size b + 1) × Wait_in w
    Way_in (F.lets_go c s) = Nest_in s
    Way_in (F.raises v s) = Nest_in s
    Way_in (F.unbinds x c s) = Nest_in s
    Way_in (F.made_anew xs l n i t cs r) =
        Round_in (numbers (rounds_base r)) (rounds_line r) l n t cs (λ m. Last_in (numbers (rounds_base r)) r m) × Rounds_in r
    Way_in (F.assigns n v ts s) = Targets_in (numbers s) ts n × Nest_in s
    Way_in (F.tests k n hs e s) = Handlers_in R k hs n (shape s) × Nest_in s
    Way_in (F.binding l n x v k s) = (numbers s).is K.Store l n × Way_in k × Nest_in s
    Way_in (F.stores n st k) = Stores_in (numbers (way_base k)) st n × Way_in k
    Way_in (F.deletes n ps s) = Deletes_in (numbers s) ps n × Nest_in s
    Way_in (F.imports l n xs s) = Imports_in (numbers s) K.Import l xs n × Nest_in s
    Way_in (F.imports_from l n xs m s) = Imports_in (numbers s) K.ImportName l xs n × Nest_in s
    Way_in (F.within_items n is body s) = Items_in R is (stms_size body) (λ m u. Stms_in R body m u) n (shape s) × Nest_in s
    Way_in (F.failed l n m s) = Opt_in (numbers s) m n (λ o. (numbers s).is K.Raise l o) × Nest_in s
    Way_in (F.round r) = Rounds_in r
    Way_in (F.clauses n cs r) =
        Clauses_in (numbers (rounds_base r)) (rounds_line r) cs n (λ m. Last_in (numbers (rounds_base r)) r m) × Rounds_in r

    pub Wait_in : {V : Type 0} → Wait V → Type 0
    Wait_in (F.operands l n op before behind w) =
        Operands_in (numbers (base w)) behind n (λ m. (numbers (base w)).is (operation_kind op) l m) × Wait_in w
    Wait_in (F.celled l n g op before behind w) =
        (numbers (base w)).is (operation_kind op) l n × (g ≡ true → (numbers (base w)).again n) × Wait_in w
    Wait_in (F.yielded l n w) = (numbers (base w)).is K.Yield l n × Wait_in w
    Wait_in (F.formatted l n c sp w) = Pieces_in (numbers (base w)) sp n (λ m. Spec_end (numbers (base w)) sp l n m) × Wait_in w
    Wait_in (F.comparing l n o b r w) =
        Exp_in (numbers (base w)) b n × (numbers (base w)).is K.Compare l (n + size b) × Links_in (numbers (base w)) l r (n + size b + 1) × Wait_in w
    Wait_in (F.compared l n v o r w) = (numbers (base w)).is K.Compare l n × Links_in (numbers (base w)) l r (n + 1) × Wait_in w
    Wait_in (F.linked l n v o b r w) =
        (numbers (base w)).is K.Branch l n × Exp_in (numbers (base w)) b (n + 1) × (numbers (base w)).is K.Compare l (n + 1 + size b)
        × Links_in (numbers (base w)) l r (n + 1 + size b + 1) × Wait_in w
    Wait_in (F.anded l n es w) = Decisions_in (numbers (base w)) l es n × Wait_in w
    Wait_in (F.ored l n es w) = Decisions_in (numbers (base w)) l es n × Wait_in w
    Wait_in (F.asked l n t f) = (numbers (way_base f)).is K.Branch l n × Way_in t × Way_in f
    Wait_in (F.iterated l n o) = (numbers (over_base o)).is K.Iter l n × Over_in o
    Wait_in (F.built_in l n k i t cs m w) = Round_in (numbers (base w)) l k n t cs (λ o. Made_in (numbers (base w)) l m o) × Wait_in w
    Wait_in (F.added_to_list l n v r) = (numbers (rounds_base r)).is K.Add l n × Rounds_in r
    Wait_in (F.added_to_set l n v r) = (numbers (rounds_base r)).is K.Add l n × Rounds_in r
    Wait_in (F.keyed l n e v r) = Exp_in (numbers (rounds_base r)) e n × (numbers (rounds_base r)).is K.Add l (n + size e) × Rounds_in r
    Wait_in (F.added_to_dict l n k v r) = (numbers (rounds_base r)).is K.Add l n × Rounds_in r
    Wait_in (F.item_yielded l n r) = (numbers (rounds_base r)).is K.Yield l n × (numbers (rounds_base r)).is K.Discard l (n + 1) × Rounds_in r
    Wait_in (F.item_sent l n r) = (numbers (rounds_base r)).is K.Discard l n × Rounds_in r
    Wait_in (F.dropped l n s) = (numbers s).is K.Discard l n × Nest_in s
    Wait_in (F.assigned n ts s) = Targets_in (numbers s) ts n × Nest_in s
    Wait_in (F.of_attribute l n x p) = Purpose_in p K.SetAttr K.DelAttr K.Attr l n
    Wait_in (F.of_item l n i p) = Exp_in (numbers (purpose_base p)) i n × Purpose_in p K.SetItem K.DelItem K.Item l (n + size i)
    Wait_in (F.at_item l n a p) = Purpose_in p K.SetItem K.DelItem K.Item l n
    Wait_in (F.changing l n k to o e s) = Change_in (numbers s) (store_kind to) l k e n × Nest_in s
    Wait_in (F.changed_by l n k to v o s) = (numbers s).is K.InPlace l n × (numbers s).is (store_kind to) k (n + 1) × Nest_in s
    Wait_in (F.change_stored n k to s) = (numbers s).is (store_kind to) k n × Nest_in s
    Wait_in (F.returned_by l n s) = (numbers s).is K.Return l n × Nest_in s
    Wait_in (F.thrown l n c s) = Opt_in (numbers s) c n (λ m. (numbers s).is K.Raise l m) × Nest_in s
    Wait_in (F.caused l n e s) = (numbers s).is K.Raise l n × Nest_in s
    Wait_in (F.message_of l n s) = (numbers s).is K.Raise l n × Nest_in s
    Wait_in (F.imported l n x xs s) = (numbers s).is K.Store l n × Imports_in (numbers s) K.Import l xs (n + 1) × Nest_in s
    Wait_in (F.imported_origin l n xs s) = Imports_in (numbers s) K.ImportName l xs n × Nest_in s
    Wait_in (F.imported_name l n x xs m s) = (numbers s).is K.Store l n × Imports_in (numbers s) K.ImportName l xs (n + 1) × Nest_in s
    Wait_in (F.matched l k n e t f) = (numbers (F.testing k e ∷ way_base f)).is K.Match l n × Way_in t × Way_in f
    Wait_in (F.entered l n t is body s) = (numbers s).is K.Enter l n × Entry_in l (n + 1) t is body (shape s) × Nest_in s
    Wait_in (F.decorated k n before behind l x what s) =
        Decorators_in (numbers s) behind n (k ∷ lines before) (λ m ks. Definition_in (numbers s) l what m ks) × Nest_in s
    Wait_in (F.defined l n x calls s) = Calls_in (numbers s) l (lines calls) n × Nest_in s

    -- by the kinds of the acts that store to the place, delete it and take its value
    pub Purpose_in : {V : Type 0} → Purpose V → (stores deletes takes : ActKind) → (l n : ℕ) → Type 0
    Purpose_in (F.storing v k) st dl tk l n = (numbers (way_base k)).is st l n × Way_in k
    Purpose_in (F.deleting k) st dl tk l n = (numbers (way_base k)).is dl l n × Way_in k
    Purpose_in (F.changing_by j o e s) st dl tk l n = (numbers s).is tk l n × Change_in (numbers s) st j l e (n + 1) × Nest_in s

    pub Over_in : {V : Type 0} → Over V → Type 0
    Over_in (F.for_over l n t body els s) = For_in l n t body els (shape s) × Nest_in s
    Over_in (F.comprehension_over l n k t cs m w) =
        (numbers (base w)).is K.Build l n × Round_in (numbers (base w)) l k (n + 1) t cs (λ o. Made_in (numbers (base w)) l m o) × Wait_in w
    Over_in (F.generator_over l n b w) = (numbers (base w)).is K.Generator l n × Wait_in w
    Over_in (F.clause_over l n t cs r) =
        Round_in (numbers (rounds_base r)) (rounds_line r) l n t cs (λ m. Last_in (numbers (rounds_base r)) r m) × Rounds_in r
    Over_in (F.delegated_over l n w) = (numbers (base w)).is K.Delegate l n × Wait_in w

    pub Rounds_in : {V : Type 0} → Rounds V → Type 0
    Rounds_in (F.collecting l n m v w) = Wait_in w
    Rounds_in (F.generating l e s) = Nest_in s
    Rounds_in (F.round_of l n i t cs r) =
        Round_in (numbers (rounds_base r)) (rounds_line r) l n t cs (λ m. Last_in (numbers (rounds_base r)) r m) × Rounds_in r

  abbrev pub Control_in : {V : Type 0} → Control V → Type 0
  Control_in (F.for_value m a w) = Marked (numbers (base w)) m (seek_kind a) × Wait_in w
  Control_in (F.for_deed m a k s) = Marked (numbers s) m (deed_kind a k) × Way_in k × Nest_in s
  Control_in (F.for_leave m a s) = Marked (numbers s) m (leave_kind a) × Nest_in s
  Control_in (F.for_throw m a s) = Marked (numbers s) m K.Raise × Nest_in s
  Control_in (F.for_truth m a t f s) = Marked (numbers s) m (test_kind a) × Way_in t × Way_in f × Nest_in s
  Control_in (F.for_iter m v o) = Marked (numbers (over_base o)) m K.Iter × Over_in o
  Control_in (F.for_item m i n t k f) = Marked (numbers (way_base k)) m K.Next × Target_in (numbers (way_base k)) t n × Way_in k × Way_in f
  Control_in (F.for_entry m v l n t is body s) = Marked (numbers s) m K.Enter × Entry_in l n t is body (shape s) × Nest_in s
  Control_in (F.for_unpack m v n ts k s) = Marked (numbers s) m K.Unpack × Targets_in (numbers (way_base k)) ts n × Way_in k × Nest_in s
  Control_in (F.for_delegate m i r w) = Marked (numbers (base w)) m K.Delegate × Wait_in w
  Control_in (F.silent_value a w) = Wait_in w
  Control_in (F.silent_deed a k s) = Way_in k × Nest_in s
  Control_in (F.noting a k s) = Way_in k × Nest_in s
  Control_in (F.closed e) = Unit {0}
