-- Where what goes on stands: in which nest, in which comprehensions, and with which exception.
use Rattle.std.specs.Prelude.{ℕ, List, [], ◌∷◌, Option, Some, None}
use Rattle.sem_control.specs.control.Frames as F
use Rattle.sem_control.specs.control.Frames.{Frame, Nest, Way, Wait, Purpose, Over, Rounds}

-- the nest to which a raise goes
abbrev mutual
  pub way_base : {V : Type 0} → Way V → Nest V
  way_base (F.finished s) = s
  way_base (F.stms n ss s) = s
  way_base (F.branches n bs els s) = s
  way_base (F.value n e w) = base w
  way_base (F.given v w) = base w
  way_base (F.linked_on l n v o b r w) = base w
  way_base (F.lets_go c s) = s
  way_base (F.tests k n hs e s) = s
  way_base (F.binding l n x v k s) = s
  way_base (F.stores n st k) = way_base k
  way_base (F.raises v s) = s
  way_base (F.unbinds x c s) = s
  way_base (F.made_anew xs l n i t cs r) = rounds_base r
  way_base (F.assigns n v ts s) = s
  way_base (F.deletes n ps s) = s
  way_base (F.imports l n xs s) = s
  way_base (F.imports_from l n xs m s) = s
  way_base (F.within_items n is body s) = s
  way_base (F.failed l n m s) = s
  way_base (F.round r) = rounds_base r
  way_base (F.clauses n cs r) = rounds_base r

  pub base : {V : Type 0} → Wait V → Nest V
  base (F.operands l n op before behind w) = base w
  base (F.celled l n g op before behind w) = base w
  base (F.yielded l n w) = base w
  base (F.formatted l n c sp w) = base w
  base (F.comparing l n o b r w) = base w
  base (F.compared l n a o r w) = base w
  base (F.linked l n v o b r w) = base w
  base (F.anded l n es w) = base w
  base (F.ored l n es w) = base w
  base (F.asked l n t f) = way_base f
  base (F.iterated l n o) = over_base o
  base (F.built_in l n fl i t cs m w) = base w
  base (F.added_to_list l n v r) = rounds_base r
  base (F.added_to_set l n v r) = rounds_base r
  base (F.keyed l n e v r) = rounds_base r
  base (F.added_to_dict l n k v r) = rounds_base r
  base (F.item_yielded l n r) = rounds_base r
  base (F.item_sent l n r) = rounds_base r
  base (F.dropped l n s) = s
  base (F.assigned n ts s) = s
  base (F.of_attribute l n x p) = purpose_base p
  base (F.of_item l n i p) = purpose_base p
  base (F.at_item l n a p) = purpose_base p
  base (F.changing l n tl to o e s) = s
  base (F.changed_by l n tl to v o s) = s
  base (F.change_stored n tl to s) = s
  base (F.returned_by l n s) = s
  base (F.thrown l n c s) = s
  base (F.caused l n e s) = s
  base (F.message_of l n s) = s
  base (F.imported l n x xs s) = s
  base (F.imported_origin l n xs s) = s
  base (F.imported_name l n x xs m s) = s
  -- a handler's class lies in the tests
  base (F.matched l k n e t f) = F.testing k e ∷ way_base f
  base (F.entered l n t is body s) = s
  base (F.decorated dl n before behind l x what s) = s
  base (F.defined l n x calls s) = s

  pub purpose_base : {V : Type 0} → Purpose V → Nest V
  purpose_base (F.storing v k) = way_base k
  purpose_base (F.deleting k) = way_base k
  purpose_base (F.changing_by l o e s) = s

  pub over_base : {V : Type 0} → Over V → Nest V
  over_base (F.for_over l n t body els s) = s
  over_base (F.comprehension_over l n fl t cs m w) = base w
  over_base (F.generator_over l n b w) = base w
  over_base (F.clause_over l n t cs r) = rounds_base r
  over_base (F.delegated_over l n w) = base w

  pub rounds_base : {V : Type 0} → Rounds V → Nest V
  rounds_base (F.collecting l n m v w) = base w
  rounds_base (F.generating l e s) = s
  rounds_base (F.round_of l n i t cs r) = rounds_base r

-- the comprehensions around, the innermost first (Language Reference 6.2.4: a first iterable is evaluated [])
abbrev mutual
  pub around_way : {V : Type 0} → Way V → List ℕ
  around_way (F.value n e w) = around w
  around_way (F.given v w) = around w
  around_way (F.linked_on l n v o b r w) = around w
  around_way (F.stores n st k) = around_way k
  around_way (F.round r) = around_rounds r
  around_way (F.clauses n cs r) = around_rounds r
  around_way k = []

  pub around : {V : Type 0} → Wait V → List ℕ
  around (F.operands l n op before behind w) = around w
  around (F.celled l n g op before behind w) = around w
  around (F.yielded l n w) = around w
  around (F.formatted l n c sp w) = around w
  around (F.comparing l n o b r w) = around w
  around (F.compared l n a o r w) = around w
  around (F.linked l n v o b r w) = around w
  around (F.anded l n es w) = around w
  around (F.ored l n es w) = around w
  around (F.asked l n t f) = around_way f
  around (F.iterated l n o) = around_over o
  around (F.built_in l n fl i t cs m w) = around w
  around (F.added_to_list l n v r) = around_rounds r
  around (F.added_to_set l n v r) = around_rounds r
  around (F.keyed l n e v r) = around_rounds r
  around (F.added_to_dict l n k v r) = around_rounds r
  around (F.item_yielded l n r) = around_rounds r
  around (F.item_sent l n r) = around_rounds r
  around (F.of_attribute l n x p) = around_purpose p
  around (F.of_item l n i p) = around_purpose p
  around (F.at_item l n a p) = around_purpose p
  around w = []

  pub around_purpose : {V : Type 0} → Purpose V → List ℕ
  around_purpose (F.storing v k) = around_way k
  around_purpose (F.deleting k) = around_way k
  around_purpose (F.changing_by l o e s) = []

  pub around_over : {V : Type 0} → Over V → List ℕ
  around_over (F.comprehension_over l n fl t cs m w) = around w
  around_over (F.generator_over l n b w) = around w
  around_over (F.clause_over l n t cs r) = around_rounds r
  around_over (F.delegated_over l n w) = around w
  around_over (F.for_over l n t body els s) = []

  pub around_rounds : {V : Type 0} → Rounds V → List ℕ
  around_rounds (F.collecting l n m v w) = n ∷ around w
  around_rounds (F.generating l e s) = []
  around_rounds (F.round_of l n i t cs r) = around_rounds r

-- the line on which a comprehension or generator expression starts
abbrev pub rounds_line : {V : Type 0} → Rounds V → ℕ
rounds_line (F.collecting l n m v w) = l
rounds_line (F.generating l e s) = l
rounds_line (F.round_of l n i t cs r) = rounds_line r

-- the exception that a frame is busy with: that of a handler or of the tests of handlers, or the raise that a `finally` part or an exit holds
-- (8.4.1, 8.4.4)
abbrev pub busy_with : {V : Type 0} → Frame V → Option V
busy_with (F.testing n e) = Some e
busy_with (F.handling n e) = Some e
busy_with (F.ending n (F.by (F.raise e))) = Some e
busy_with (F.exiting n w (F.by (F.raise e))) = Some e
busy_with f = None

abbrev pub or_else : {V : Type 0} → Option V → Option V → Option V
or_else (Some v) o = Some v
or_else None o = o

-- the exception that is active in a nest: that of its innermost frame that is busy with one
abbrev pub active : {V : Type 0} → Nest V → Option V
active [] = None
active (f ∷ s) = or_else (busy_with f) (active s)
