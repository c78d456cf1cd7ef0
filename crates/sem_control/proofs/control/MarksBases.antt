-- Where the acts of what goes on stand, those of the nest around it stand too.
use Rattle.std.proofs.Common.{ℕ, ◌+◌}
use Rattle.pt_tree.specs.declared.act.ActKind.{ActKind}
use Rattle.pt_tree.specs.Sizes.{size}
use Rattle.sem_control.specs.control.Frames as F
use Rattle.sem_control.specs.control.Frames.{Nest, Way, Wait, Purpose, Over, Rounds}
use Rattle.sem_control.specs.control.Bases.{base, way_base, purpose_base, over_base, rounds_base}
use Rattle.sem_control.specs.control.Jump.{Shape}
use Rattle.sem_control.proofs.control.MarksTree.{Numbering}
use Rattle.sem_control.proofs.control.MarksFrames.{Nest_in, Way_in, Wait_in, Purpose_in, Over_in, Rounds_in}

module _ (R : Shape → Numbering) {V : Type 0} where
  mutual
    pub way_base_in : (k : Way V) → Way_in R k → Nest_in R (way_base k)
    way_base_in (F.finished s) h = h
    way_base_in (F.stms n ss s) h = h.1
    way_base_in (F.branches n bs els s) h = h.1
    way_base_in (F.value n e w) h = base_in w h.1
    way_base_in (F.given v w) h = base_in w h
    way_base_in (F.linked_on l n v o b r w) h = base_in w h.3
    way_base_in (F.lets_go c s) h = h
    way_base_in (F.raises v s) h = h
    way_base_in (F.unbinds x c s) h = h
    way_base_in (F.made_anew xs l n i t cs r) h = rounds_base_in r h.1
    way_base_in (F.assigns n v ts s) h = h.1
    way_base_in (F.tests k n hs e s) h = h.1
    way_base_in (F.binding l n x v k s) h = h.2
    way_base_in (F.stores n st k) h = way_base_in k h.1
    way_base_in (F.deletes n ps s) h = h.1
    way_base_in (F.imports l n xs s) h = h.1
    way_base_in (F.imports_from l n xs m s) h = h.1
    way_base_in (F.within_items n is body s) h = h.1
    way_base_in (F.failed l n m s) h = h.1
    way_base_in (F.round r) h = rounds_base_in r h
    way_base_in (F.clauses n cs r) h = rounds_base_in r h.1

    pub base_in : (w : Wait V) → Wait_in R w → Nest_in R (base w)
    base_in (F.operands l n op before behind w) h = base_in w h.1
    base_in (F.celled l n g op before behind w) h = base_in w h.2
    base_in (F.yielded l n w) h = base_in w h.1
    base_in (F.formatted l n c sp w) h = base_in w h.1
    base_in (F.comparing l n o b r w) h = base_in w h.3
    base_in (F.compared l n a o r w) h = base_in w h.2
    base_in (F.linked l n v o b r w) h = base_in w h.4
    base_in (F.anded l n es w) h = base_in w h.1
    base_in (F.ored l n es w) h = base_in w h.1
    base_in (F.asked l n t f) h = way_base_in f h.2
    base_in (F.iterated l n o) h = over_base_in o h.1
    base_in (F.built_in l n fl i t cs m w) h = base_in w h.1
    base_in (F.added_to_list l n v r) h = rounds_base_in r h.1
    base_in (F.added_to_set l n v r) h = rounds_base_in r h.1
    base_in (F.keyed l n e v r) h = rounds_base_in r h.2
    base_in (F.added_to_dict l n k v r) h = rounds_base_in r h.1
    base_in (F.item_yielded l n r) h = rounds_base_in r h.2
    base_in (F.item_sent l n r) h = rounds_base_in r h.1
    base_in (F.dropped l n s) h = h.1
    base_in (F.assigned n ts s) h = h.1
    base_in (F.of_attribute l n x p) h = purpose_base_in p _ _ _ l n h
    base_in (F.of_item l n i p) h = purpose_base_in p _ _ _ l (n + size i) h.1
    base_in (F.at_item l n a p) h = purpose_base_in p _ _ _ l n h
    base_in (F.changing l n tl to o e s) h = h.1
    base_in (F.changed_by l n tl to v o s) h = h.2
    base_in (F.change_stored n tl to s) h = h.1
    base_in (F.returned_by l n s) h = h.1
    base_in (F.thrown l n c s) h = h.1
    base_in (F.caused l n e s) h = h.1
    base_in (F.message_of l n s) h = h.1
    base_in (F.imported l n x xs s) h = h.2
    base_in (F.imported_origin l n xs s) h = h.1
    base_in (F.imported_name l n x xs m s) h = h.2
    base_in (F.matched l k n e t f) h = (tt, way_base_in f h.2)
    base_in (F.entered l n t is body s) h = h.2
    base_in (F.decorated dl n before behind l x what s) h = h.1
    base_in (F.defined l n x calls s) h = h.1

    pub purpose_base_in : (p : Purpose V) (st dl tk : ActKind) (l n : ℕ) → Purpose_in R p st dl tk l n → Nest_in R (purpose_base p)
    purpose_base_in (F.storing v k) st dl tk l n h = way_base_in k h.1
    purpose_base_in (F.deleting k) st dl tk l n h = way_base_in k h.1
    purpose_base_in (F.changing_by j o e s) st dl tk l n h = h.2

    pub over_base_in : (o : Over V) → Over_in R o → Nest_in R (over_base o)
    over_base_in (F.for_over l n t body els s) h = h.1
    over_base_in (F.comprehension_over l n fl t cs m w) h = base_in w h.2
    over_base_in (F.generator_over l n b w) h = base_in w h.1
    over_base_in (F.clause_over l n t cs r) h = rounds_base_in r h.1
    over_base_in (F.delegated_over l n w) h = base_in w h.1

    pub rounds_base_in : (r : Rounds V) → Rounds_in R r → Nest_in R (rounds_base r)
    rounds_base_in (F.collecting l n m v w) h = base_in w h
    rounds_base_in (F.generating l e s) h = h
    rounds_base_in (F.round_of l n i t cs r) h = rounds_base_in r h.1
