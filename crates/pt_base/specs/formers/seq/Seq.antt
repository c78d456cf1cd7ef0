-- A `Seq` may hold the type that holds it: as a type former it is the list of its items.
use mathlib.Core.Path.{◌≡◌, refl, sym}
use mathlib.Core.List.{List, []}
use mathlib.Core.Former.{Former, this, list, via, children}
use base.Stored.{code_map}
use denote.RattleType.{RattleType}
use denote.HoleLaws.{Alike}
use denote.HolePlaces.{Recodes, struct_places, laid}
use denote.Hole.Carrier.{listed, list-listed}
use denote.Hole.Fix.{over}
use denote.Param.Weighed.{Weighed, w_list}
use denote.Model.Placed.{view_places}
use Rattle.std.specs.declared.alloc.Global.{Global}
use Rattle.std.specs.contracts.alloc.Global as global
use Rattle.std.specs.contracts.impls.GlobalAllocator.TheImpl.{ghosts}
use Rattle.std.specs.formers.vec.Vec as buffer
use Rattle.pt_base.specs.contracts.seq.Seq as outer
use Rattle.pt_base.specs.contracts.seq.Seq.TheInside as within
use Rattle.pt_base.specs.declared.seq.Seq.TheInside.{Inside}
use Rattle.pt_base.specs.declared.seq.Seq.TheView.{view, invariant}

abbrev pub the_former : Former {0} → Former {0}
the_former f = list f

abbrev pub the_weighed : {f : Former {0}} → Weighed f → Weighed (the_former f)
the_weighed weighed = w_list weighed

pub the_empty : List ⊥
the_empty = []

abbrev pub the_items : (T : Type 0) → List T → List T
the_items T d = d

pub the_items_listed : (T : Type 0) (d : List T) → listed _ (children (the_former this) T d) ≡ the_items T d
the_items_listed T d = list-listed T d

-- the one field: the buffer of the items
abbrev fields : Former {0}
fields = via (buffer.the_former this Global) Inside (λ T s. s.items) (λ T v. record { items = v }) (λ T s. refl) (λ T v. refl)

module _ (A B : RattleType) (h : A.Denot → B.Denot) where
  pub the_places : Alike A B h → Alike (outer.the_row A) (outer.the_row B) ((the_former this).map A.Denot B.Denot h)
  the_places alike = view_places fields (list this) view (λ S T k u. refl) (λ S u. refl) A.Denot B.Denot h (outer.the_row A).coded (outer.the_row B).coded
      (invariant A.Denot) (invariant B.Denot) (λ u p q. refl) (λ u p q. refl) (λ u e. tt) (λ u e. tt)
      (over (within.the_row A)) (over (within.the_row B))
      (struct_places (within.the_type A) (within.the_type B) (buffer.mapped h, tt) _ (λ d. refl) refl (laid _ _ _ (buffer.the_places global.the_row ghosts A B h alike), tt))

  pub the_codes_placed : Recodes A B h → Recodes (outer.the_row A) (outer.the_row B) ((the_former this).map A.Denot B.Denot h)
  the_codes_placed recodes d = sym (code_map A.coded.code B.coded.code h (λ x. sym (recodes x)) d)
