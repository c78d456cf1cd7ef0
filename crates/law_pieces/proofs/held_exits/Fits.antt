-- What is left of a block stands in the loops that its nests have: what its frames hold comes from there.
use Rattle.std.specs.Prelude.{◌≡◌, ℕ, ◌+◌, [], ◌∷◌, true, Option, Some, None}
use Rattle.pt_tree.specs.Syntax as S
use Rattle.pt_tree.specs.Syntax.{Tgt, Items, Stm, Stms, Branches, Handlers, none, more}
use Rattle.pt_tree.specs.Sizes.{size, target_size, stm_size, stms_size, handlers_size}
use Rattle.sem_control.specs.control.Frames as F
use Rattle.sem_control.specs.control.Frames.{by, Frame, Nest, Way, Wait, Purpose, Over, Rounds, Control}
use Rattle.sem_control.specs.control.Numbers.{tested_body, behind_body, for_body, for_else, try_handlers, try_else, try_finally, handler_body}
use Rattle.sem_control.specs.control.Jump.{body_at, behind_branches}
use Rattle.pt_assembler.specs.declared.operation.Exit.TheVariants.{Break, Continue}
use Rattle.law_pieces.specs.held_exits.Bodies.{Body, a_body, body_of, exits_in, ComesFrom}

-- the number behind a target
abbrev pub behind : Option Tgt → (n : ℕ) → ℕ
behind None n = n
behind (Some t) n = n + target_size t

module _ (bodies : ℕ → Option Body) where
  -- the loop around a `finally` part is that of the part
  abbrev pub Ensured : (finally : Stms) → (tried : ℕ) → Option Body → Type 0
  Ensured none t o = Unit {0}
  Ensured (more st ss) t o = bodies t ≡ o

  -- statements with this loop around them
  abbrev mutual
    pub Stm_fits : Stm → (n : ℕ) → Option Body → Type 0
    Stm_fits (S.break l) n o = exits_in Break o ≡ true
    Stm_fits (S.continue l) n o = exits_in Continue o ≡ true
    Stm_fits (S.choice l bs els) n o = Branches_fit bs n o × Stms_fit els (behind_branches bs n) o
    Stm_fits (S.while l c body els) n o =
        Stms_fit body (tested_body n c) (Some (a_body (tested_body n c) body)) × Stms_fit els (behind_body n c body) o
    Stm_fits (S.for l t it body els) n o =
        Stms_fit body (for_body (n + size it + 1) t) (Some (a_body (for_body (n + size it + 1) t) body)) × Stms_fit els (for_else (n + size it + 1) t body) o
    Stm_fits (S.try l body hs els fin) n o =
        Ensured fin n o × Stms_fit body (n + 1) o × Handlers_fit hs (try_handlers n body) o × Stms_fit els (try_else n body hs) o
        × Stms_fit fin (try_finally n body hs els) o
    Stm_fits (S.with l is body) n o = Stms_fit body (body_at is n) o
    Stm_fits st n o = Unit {0}

    pub Stms_fit : Stms → (n : ℕ) → Option Body → Type 0
    Stms_fit none n o = Unit {0}
    Stms_fit (more st ss) n o = Stm_fits st n o × Stms_fit ss (n + stm_size st) o

    pub Branches_fit : Branches → (n : ℕ) → Option Body → Type 0
    Branches_fit S.no_branches n o = Unit {0}
    Branches_fit (S.branch l c body r) n o = Stms_fit body (tested_body n c) o × Branches_fit r (behind_body n c body) o

    pub Handlers_fit : Handlers → (n : ℕ) → Option Body → Type 0
    Handlers_fit S.no_handlers n o = Unit {0}
    Handlers_fit (S.handler l S.absent x body r) n o = Stms_fit body (handler_body n x) o × Handlers_fit r (handler_body n x + stms_size body) o
    Handlers_fit (S.handler l (S.given c) x body r) n o =
        Stms_fit body (handler_body (n + size c) x) o × Handlers_fit r (handler_body (n + size c) x + stms_size body) o

  -- a loop in another one
  abbrev pub Loop_fits : (m : ℕ) (body : Stms) (k : ℕ) (els : Stms) → Option Body → Type 0
  Loop_fits m body k els o = Stms_fit body m (Some (a_body m body)) × Stms_fit els k o

  -- the items of a `with` behind a target, whose number this is, and its body
  abbrev pub Entry_fits : (n : ℕ) → Option Tgt → Items → (body : Stms) → Option Body → Type 0
  Entry_fits n t is body o = Stms_fit body (body_at is (behind t n)) o

  abbrev pub Frame_fits : {V : Type 0} → Frame V → Option Body → Type 0
  Frame_fits (F.rest n ss) o = Stms_fit ss n o
  Frame_fits (F.looping l n c body els) o = Loop_fits (tested_body n c) body (behind_body n c body) els o
  Frame_fits (F.iterating l n i t body els) o = Loop_fits (for_body n t) body (for_else n t body) els o
  Frame_fits (F.guarded n hs els) o = Handlers_fit hs n o × Stms_fit els (n + handlers_size hs) o
  Frame_fits (F.testing n e) o = Unit {0}
  Frame_fits (F.handling n e) o = Unit {0}
  Frame_fits (F.naming x) o = Unit {0}
  Frame_fits (F.ensuring t n fin) o = Ensured fin t o × Stms_fit fin n o
  Frame_fits (F.ending t held) o = (bodies t ≡ o) × ComesFrom held o
  Frame_fits (F.withing l n w) o = Unit {0}
  Frame_fits (F.exiting n w held) o = Unit {0}

  abbrev pub Nest_fits : {V : Type 0} → Nest V → Type 0
  Nest_fits [] = Unit {0}
  Nest_fits (f ∷ s) = Frame_fits f (body_of s) × Nest_fits s

  abbrev mutual
    pub Way_fits : {V : Type 0} → Way V → Type 0
    Way_fits (F.finished s) = Nest_fits s
    Way_fits (F.stms n ss s) = Stms_fit ss n (body_of s) × Nest_fits s
    Way_fits (F.branches n bs els s) = (Branches_fit bs n (body_of s) × Stms_fit els (behind_branches bs n) (body_of s)) × Nest_fits s
    Way_fits (F.value n e w) = Wait_fits w
    Way_fits (F.given v w) = Wait_fits w
    Way_fits (F.linked_on l n v o b r w) = Wait_fits w
    Way_fits (F.lets_go c s) = ComesFrom c (body_of s) × Nest_fits s
    Way_fits (F.raises v s) = Nest_fits s
    Way_fits (F.unbinds x c s) = ComesFrom c (body_of s) × Nest_fits s
    Way_fits (F.made_anew xs l n i t cs r) = Rounds_fit r
    Way_fits (F.assigns n v ts s) = Nest_fits s
    Way_fits (F.tests k n hs e s) = Handlers_fit hs n (body_of s) × Nest_fits s
    Way_fits (F.binding l n x v k s) = Way_fits k × Nest_fits s
    Way_fits (F.stores n st k) = Way_fits k
    Way_fits (F.deletes n ps s) = Nest_fits s
    Way_fits (F.imports l n xs s) = Nest_fits s
    Way_fits (F.imports_from l n xs m s) = Nest_fits s
    Way_fits (F.within_items n is body s) = Stms_fit body (body_at is n) (body_of s) × Nest_fits s
    Way_fits (F.failed l n m s) = Nest_fits s
    Way_fits (F.round r) = Rounds_fit r
    Way_fits (F.clauses n cs r) = Rounds_fit r

    pub Wait_fits : {V : Type 0} → Wait V → Type 0
    Wait_fits (F.operands l n op before behind w) = Wait_fits w
    Wait_fits (F.celled l n g op before behind w) = Wait_fits w
    Wait_fits (F.yielded l n w) = Wait_fits w
    Wait_fits (F.formatted l n c sp w) = Wait_fits w
    Wait_fits (F.comparing l n o b r w) = Wait_fits w
    Wait_fits (F.compared l n v o r w) = Wait_fits w
    Wait_fits (F.linked l n v o b r w) = Wait_fits w
    Wait_fits (F.anded l n es w) = Wait_fits w
    Wait_fits (F.ored l n es w) = Wait_fits w
    Wait_fits (F.asked l n t f) = Way_fits t × Way_fits f
    Wait_fits (F.iterated l n o) = Over_fits o
    Wait_fits (F.built_in l n k i t cs m w) = Wait_fits w
    Wait_fits (F.added_to_list l n v r) = Rounds_fit r
    Wait_fits (F.added_to_set l n v r) = Rounds_fit r
    Wait_fits (F.keyed l n e v r) = Rounds_fit r
    Wait_fits (F.added_to_dict l n k v r) = Rounds_fit r
    Wait_fits (F.item_yielded l n r) = Rounds_fit r
    Wait_fits (F.item_sent l n r) = Rounds_fit r
    Wait_fits (F.dropped l n s) = Nest_fits s
    Wait_fits (F.assigned n ts s) = Nest_fits s
    Wait_fits (F.of_attribute l n x p) = Purpose_fits p
    Wait_fits (F.of_item l n i p) = Purpose_fits p
    Wait_fits (F.at_item l n a p) = Purpose_fits p
    Wait_fits (F.changing l n k to o e s) = Nest_fits s
    Wait_fits (F.changed_by l n k to v o s) = Nest_fits s
    Wait_fits (F.change_stored n k to s) = Nest_fits s
    Wait_fits (F.returned_by l n s) = Nest_fits s
    Wait_fits (F.thrown l n c s) = Nest_fits s
    Wait_fits (F.caused l n e s) = Nest_fits s
    Wait_fits (F.message_of l n s) = Nest_fits s
    Wait_fits (F.imported l n x xs s) = Nest_fits s
    Wait_fits (F.imported_origin l n xs s) = Nest_fits s
    Wait_fits (F.imported_name l n x xs m s) = Nest_fits s
    Wait_fits (F.matched l k n e t f) = Way_fits t × Way_fits f
    Wait_fits (F.entered l n t is body s) = Entry_fits (n + 1) t is body (body_of s) × Nest_fits s
    Wait_fits (F.decorated k n before behind l x what s) = Nest_fits s
    Wait_fits (F.defined l n x calls s) = Nest_fits s

    pub Purpose_fits : {V : Type 0} → Purpose V → Type 0
    Purpose_fits (F.storing v k) = Way_fits k
    Purpose_fits (F.deleting k) = Way_fits k
    Purpose_fits (F.changing_by j o e s) = Nest_fits s

    pub Over_fits : {V : Type 0} → Over V → Type 0
    Over_fits (F.for_over l n t body els s) = Loop_fits (for_body n t) body (for_else n t body) els (body_of s) × Nest_fits s
    Over_fits (F.comprehension_over l n k t cs m w) = Wait_fits w
    Over_fits (F.generator_over l n b w) = Wait_fits w
    Over_fits (F.clause_over l n t cs r) = Rounds_fit r
    Over_fits (F.delegated_over l n w) = Wait_fits w

    pub Rounds_fit : {V : Type 0} → Rounds V → Type 0
    Rounds_fit (F.collecting l n m v w) = Wait_fits w
    Rounds_fit (F.generating l e s) = Nest_fits s
    Rounds_fit (F.round_of l n i t cs r) = Rounds_fit r

  abbrev pub Control_fits : {V : Type 0} → Control V → Type 0
  Control_fits (F.for_value m a w) = Wait_fits w
  Control_fits (F.for_deed m a k s) = Way_fits k × Nest_fits s
  Control_fits (F.for_leave m a s) = ComesFrom (by a) (body_of s) × Nest_fits s
  Control_fits (F.for_throw m a s) = Nest_fits s
  Control_fits (F.for_truth m a t f s) = Way_fits t × Way_fits f × Nest_fits s
  Control_fits (F.for_iter m v o) = Over_fits o
  Control_fits (F.for_item m i n t k f) = Way_fits k × Way_fits f
  Control_fits (F.for_entry m v l n t is body s) = Entry_fits n t is body (body_of s) × Nest_fits s
  Control_fits (F.for_unpack m v n ts k s) = Way_fits k × Nest_fits s
  Control_fits (F.for_delegate m i r w) = Wait_fits w
  Control_fits (F.silent_value a w) = Wait_fits w
  Control_fits (F.silent_deed a k s) = Way_fits k × Nest_fits s
  Control_fits (F.noting a k s) = Way_fits k × Nest_fits s
  Control_fits (F.closed e) = Unit {0}
