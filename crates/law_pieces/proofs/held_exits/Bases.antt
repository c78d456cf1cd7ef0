-- What goes on stands in the loops of the nest around it.
use Rattle.std.specs.Prelude.{ℕ, [], ◌∷◌, Option}
use Rattle.sem_control.specs.control.Frames as F
use Rattle.sem_control.specs.control.Frames.{Nest, Way, Wait, Purpose, Over, Rounds, Control}
use Rattle.sem_control.specs.control.Bases.{base, way_base, purpose_base, over_base, rounds_base}
use Rattle.sem_control.specs.control.Control.{nest_at}
use Rattle.law_pieces.specs.held_exits.Bodies.{Body, HoldsExits}
use Rattle.law_pieces.proofs.held_exits.Fits.{Nest_fits, Way_fits, Wait_fits, Purpose_fits, Over_fits, Rounds_fit, Control_fits}

module _ (bodies : ℕ → Option Body) {V : Type 0} where
  mutual
    pub way_base_fits : (k : Way V) → Way_fits bodies k → Nest_fits bodies (way_base k)
    way_base_fits (F.finished s) h = h
    way_base_fits (F.stms n ss s) h = h.1
    way_base_fits (F.branches n bs els s) h = h.1
    way_base_fits (F.value n e w) h = base_fits w h
    way_base_fits (F.given v w) h = base_fits w h
    way_base_fits (F.linked_on l n v o b r w) h = base_fits w h
    way_base_fits (F.lets_go c s) h = h.1
    way_base_fits (F.raises v s) h = h
    way_base_fits (F.unbinds x c s) h = h.1
    way_base_fits (F.made_anew xs l n i t cs r) h = rounds_base_fits r h
    way_base_fits (F.assigns n v ts s) h = h
    way_base_fits (F.tests k n hs e s) h = h.1
    way_base_fits (F.binding l n x v k s) h = h.1
    way_base_fits (F.stores n st k) h = way_base_fits k h
    way_base_fits (F.deletes n ps s) h = h
    way_base_fits (F.imports l n xs s) h = h
    way_base_fits (F.imports_from l n xs m s) h = h
    way_base_fits (F.within_items n is body s) h = h.1
    way_base_fits (F.failed l n m s) h = h
    way_base_fits (F.round r) h = rounds_base_fits r h
    way_base_fits (F.clauses n cs r) h = rounds_base_fits r h

    pub base_fits : (w : Wait V) → Wait_fits bodies w → Nest_fits bodies (base w)
    base_fits (F.operands l n op before behind w) h = base_fits w h
    base_fits (F.celled l n g op before behind w) h = base_fits w h
    base_fits (F.yielded l n w) h = base_fits w h
    base_fits (F.formatted l n c sp w) h = base_fits w h
    base_fits (F.comparing l n o b r w) h = base_fits w h
    base_fits (F.compared l n a o r w) h = base_fits w h
    base_fits (F.linked l n v o b r w) h = base_fits w h
    base_fits (F.anded l n es w) h = base_fits w h
    base_fits (F.ored l n es w) h = base_fits w h
    base_fits (F.asked l n t f) h = way_base_fits f h.1
    base_fits (F.iterated l n o) h = over_base_fits o h
    base_fits (F.built_in l n fl i t cs m w) h = base_fits w h
    base_fits (F.added_to_list l n v r) h = rounds_base_fits r h
    base_fits (F.added_to_set l n v r) h = rounds_base_fits r h
    base_fits (F.keyed l n e v r) h = rounds_base_fits r h
    base_fits (F.added_to_dict l n k v r) h = rounds_base_fits r h
    base_fits (F.item_yielded l n r) h = rounds_base_fits r h
    base_fits (F.item_sent l n r) h = rounds_base_fits r h
    base_fits (F.dropped l n s) h = h
    base_fits (F.assigned n ts s) h = h
    base_fits (F.of_attribute l n x p) h = purpose_base_fits p h
    base_fits (F.of_item l n i p) h = purpose_base_fits p h
    base_fits (F.at_item l n a p) h = purpose_base_fits p h
    base_fits (F.changing l n tl to o e s) h = h
    base_fits (F.changed_by l n tl to v o s) h = h
    base_fits (F.change_stored n tl to s) h = h
    base_fits (F.returned_by l n s) h = h
    base_fits (F.thrown l n c s) h = h
    base_fits (F.caused l n e s) h = h
    base_fits (F.message_of l n s) h = h
    base_fits (F.imported l n x xs s) h = h
    base_fits (F.imported_origin l n xs s) h = h
    base_fits (F.imported_name l n x xs m s) h = h
    base_fits (F.matched l k n e t f) h = (tt, way_base_fits f h.1)
    base_fits (F.entered l n t is body s) h = h.1
    base_fits (F.decorated dl n before behind l x what s) h = h
    base_fits (F.defined l n x calls s) h = h

    pub purpose_base_fits : (p : Purpose V) → Purpose_fits bodies p → Nest_fits bodies (purpose_base p)
    purpose_base_fits (F.storing v k) h = way_base_fits k h
    purpose_base_fits (F.deleting k) h = way_base_fits k h
    purpose_base_fits (F.changing_by j o e s) h = h

    pub over_base_fits : (o : Over V) → Over_fits bodies o → Nest_fits bodies (over_base o)
    over_base_fits (F.for_over l n t body els s) h = h.1
    over_base_fits (F.comprehension_over l n fl t cs m w) h = base_fits w h
    over_base_fits (F.generator_over l n b w) h = base_fits w h
    over_base_fits (F.clause_over l n t cs r) h = rounds_base_fits r h
    over_base_fits (F.delegated_over l n w) h = base_fits w h

    pub rounds_base_fits : (r : Rounds V) → Rounds_fit bodies r → Nest_fits bodies (rounds_base r)
    rounds_base_fits (F.collecting l n m v w) h = base_fits w h
    rounds_base_fits (F.generating l e s) h = h
    rounds_base_fits (F.round_of l n i t cs r) h = rounds_base_fits r h

  pub nest_fits_at : (c : Control V) → Control_fits bodies c → Nest_fits bodies (nest_at c)
  nest_fits_at (F.for_value m a w) h = base_fits w h
  nest_fits_at (F.for_deed m a k s) h = h.1
  nest_fits_at (F.for_leave m a s) h = h.1
  nest_fits_at (F.for_throw m a s) h = h
  nest_fits_at (F.for_truth m a t f s) h = h.2
  nest_fits_at (F.for_iter m v o) h = over_base_fits o h
  nest_fits_at (F.for_item m i n t k f) h = way_base_fits k h.0
  nest_fits_at (F.for_entry m v l n t is body s) h = h.1
  nest_fits_at (F.for_unpack m v n ts k s) h = h.1
  nest_fits_at (F.for_delegate m i r w) h = base_fits w h
  nest_fits_at (F.silent_value a w) h = base_fits w h
  nest_fits_at (F.silent_deed a k s) h = h.1
  nest_fits_at (F.noting a k s) h = h.1
  nest_fits_at (F.closed e) h = tt

  pub holds_exits : (s : Nest V) → Nest_fits bodies s → HoldsExits bodies s
  holds_exits [] h = tt
  holds_exits (F.rest n ss ∷ s) h = holds_exits s h.1
  holds_exits (F.looping l n c body els ∷ s) h = holds_exits s h.1
  holds_exits (F.iterating l n i t body els ∷ s) h = holds_exits s h.1
  holds_exits (F.guarded n hs els ∷ s) h = holds_exits s h.1
  holds_exits (F.testing n e ∷ s) h = holds_exits s h.1
  holds_exits (F.handling n e ∷ s) h = holds_exits s h.1
  holds_exits (F.naming x ∷ s) h = holds_exits s h.1
  holds_exits (F.ensuring t n fin ∷ s) h = holds_exits s h.1
  holds_exits (F.ending t held ∷ s) h = (h.0, holds_exits s h.1)
  holds_exits (F.withing l n w ∷ s) h = holds_exits s h.1
  holds_exits (F.exiting n w held ∷ s) h = holds_exits s h.1
