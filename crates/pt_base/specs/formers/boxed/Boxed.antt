-- A `Boxed` may hold the type that holds it: as a type former it is the value in it.
use mathlib.Core.Path.{refl}
use mathlib.Core.Former.{Former, this, const, pair, via}
use base.Stored.{gnil}
use base.Fml.{ftrue}
use denote.RattleType.{RattleType}
use denote.Memory.{part_of}
use denote.RawPtr.{Ptr}
use denote.Sharing.{nothing}
use denote.HoleLaws.{Alike}
use denote.HolePlaces.{Recodes, struct_places, laid, one_value}
use denote.Hole.Fix.{over}
use denote.Param.Weighed.{Weighed}
use denote.Model.Placed.{view_places}
use Rattle.std.specs.declared.alloc.Global.{Global}
use Rattle.std.specs.declared.boxed.Box.{Box}
use Rattle.std.specs.contracts.alloc.Global as global
use Rattle.std.specs.contracts.boxed.Box as owner
use Rattle.std.specs.contracts.impls.GlobalAllocator.TheImpl.{ghosts}
use Rattle.pt_base.specs.contracts.boxed.Boxed as outer
use Rattle.pt_base.specs.contracts.boxed.Boxed.TheInside as within
use Rattle.pt_base.specs.declared.boxed.Boxed.TheInside.{Inside}
use Rattle.pt_base.specs.declared.boxed.Boxed.TheView.{view, invariant}

abbrev pub the_former : Former {0} → Former {0}
the_former f = f

abbrev pub the_weighed : {f : Former {0}} → Weighed f → Weighed (the_former f)
the_weighed weighed = weighed

-- the fields: an address with its allocator, and the value
abbrev fields : Former {0}
fields = via (pair (const (Ptr × Global)) this) Inside (λ T b. ((b.inner.ptr, b.inner.alloc), b.inner.value))
    (λ T p. record { inner = record { ptr = p.0.0; alloc = p.0.1; value = p.1 } }) (λ T b. refl) (λ T p. refl)

abbrev holding : {S T : Type 0} → Box S Global → T → Box T Global
holding b v = record { ptr = b.ptr; alloc = b.alloc; value = v }

abbrev owner_of : RattleType → RattleType
owner_of A = owner.the_row A global.the_row ghosts

module _ (A B : RattleType) (h : A.Denot → B.Denot) where
  owner_places : Alike A B h → Alike (owner_of A) (owner_of B) (λ b. holding b (h b.value))
  unfolding part_of
  owner_places alike = record {
    mir_same = λ i. (owner_of (one_value A (alike.mir_same i) (λ _. ftrue) (λ _ _. nothing) gnil)).mir;
    own_same = λ b i. (owner_of (one_value A (alike.mir_same i) (alike.own_same b.value i) (alike.shr_same b.value i) gnil)).own_val (holding b tt);
    shr_same = λ b i. (owner_of (one_value A (alike.mir_same i) (alike.own_same b.value i) (alike.shr_same b.value i) gnil)).shr_at (holding b tt);
  }

  pub the_places : Alike A B h → Alike (outer.the_row A) (outer.the_row B) ((the_former this).map A.Denot B.Denot h)
  the_places alike = view_places fields this view (λ S T k u. refl) (λ S u. refl) A.Denot B.Denot h (outer.the_row A).coded (outer.the_row B).coded
      (invariant A.Denot) (invariant B.Denot) (λ u p q. refl) (λ u p q. refl) (λ u e. tt) (λ u e. tt)
      (over (within.the_row A)) (over (within.the_row B))
      (struct_places (within.the_type A) (within.the_type B) ((λ b. holding b (h b.value)), tt) _ (λ d. refl) refl (laid _ _ _ (owner_places alike), tt))

  pub the_codes_placed : Recodes A B h → Recodes (outer.the_row A) (outer.the_row B) ((the_former this).map A.Denot B.Denot h)
  the_codes_placed recodes d = recodes d
