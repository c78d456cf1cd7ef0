-- What is found over the classes of topmost slots is what slots hold.
use Rattle.std.proofs.Common.{◌≡◌, ℕ, suc, ◌-◌, ◌<◌, ◌≤◌, List, length, Option, Some, refl, sym, ap, ◌∙◌, subst, arith, ◌⊎◌, inl, inr}
use Rattle.std.specs.Prelude.{Contains}
use Rattle.std.proofs.lemmas.Option.{same_Some}
use Rattle.pt_instr.specs.declared.Instr.TheVariants.{Leave, EndFinally, Exit}
use Rattle.pt_instr.specs.Effects.{Kinds}
use Rattle.pt_ranges.specs.declared.handlers.Handler.{Handler}
use Rattle.pt_code.specs.View.{Ins}
use Rattle.pt_places.specs.declared.places.Place.{Place}
use Rattle.pt_places.specs.PlaceTable as T
use Rattle.pt_places.specs.PlaceTable.{HasPlaces}
use Rattle.pt_sizes.specs.Flow.{entry}
use Rattle.pt_sizes.proofs.Tables.{entry_in}
use Rattle.sem_fits.specs.fits.Block.{Block}
use Rattle.sem_fits.specs.fits.Places.{Reached}
use Rattle.sem_fits.specs.fits.Leaves as L
use Rattle.sem_fits.specs.fits.Leaves.{Common, Holds, taker}
use Rattle.pt_verify_depths.specs.PlaceTable.{AreSizesUpTo}
use Rattle.pt_joins.specs.declared.joins.Node.{Node}
use Rattle.pt_common_slots.specs.Common.{RowsLead, TellsCommon}
use Rattle.pt_common_slots.proofs.Law.{common_places}
use Rattle.pt_block_limits.specs.Limits.{IsBundled}
use Rattle.pt_closure.specs.Closure.{Pair, Derived, given, follows}
use Rattle.pt_top_slots.specs.declared.tops.TopSlots.{TopSlots}
use Rattle.pt_top_slots.specs.TopSlots.{AreTops}
use Rattle.pt_verify_leaves.specs.Gathering.{list_at}
use Rattle.pt_verify_leaves.specs.Onto.{rows_at, made_by, onto_by, onto, with_number, next_of, seed_by, seed_at, member_by, member_at, ended_at}
use Rattle.pt_verify_leaves.specs.Search.{HasSearched}
use Rattle.pt_verify_leaves.specs.Held.{LetsGoUpTo, HasHeldUpTo}
use Rattle.pt_verify_leaves.proofs.Parts.{Seen, seen, number_parts, with_it, the_one, seed_parts, Onward, ends, exits, onto_parts, member_parts, end_parts, in_flat, flat_parts}
use Rattle.pt_verify_leaves.proofs.Sized.{sized, stands, reached_with, end_sized, exit_sized, behind_sized, among, row_sized}

module _ (b : Block) (p : ℕ) (sizes : List (Option ℕ)) (are : AreSizesUpTo b p sizes) (lead : RowsLead b)
    (places : List (Option Place)) (shown : HasPlaces b.at places)
    (rows_are : (pc : ℕ) (i : Ins) → b.at pc ≡ Some i → i.rows ≡ rows_at b.handlers pc)
    (nodes : List Node) (t : TellsCommon b p nodes) (tops : TopSlots) (at : AreTops t.joins sizes tops) where
  abbrev classes : List (Option ℕ)
  classes = tops.classes.items

  same_class : (q r m n c : ℕ) → entry sizes q ≡ Some (suc m) → entry sizes r ≡ Some (suc n) → entry classes q ≡ Some c → entry classes r ≡ Some c
      → (m ≡ n) × Common b p m q r
  same_class q r m n c s s' k k' = let (e, j) = (at.exact q r m n c c s s' k k').0 refl in (e, (t.common.exact m q r).0 j)

  -- a place whose topmost slot is in common with that of another is in its class
  class_along : (q r m c : ℕ) → entry sizes q ≡ Some (suc m) → entry sizes r ≡ Some (suc m) → Common b p m q r → entry classes q ≡ Some c
      → entry classes r ≡ Some c
  class_along q r m c s s' common k =
      let h = at.whole r m s' in
      h.is ∙ ap (λ n. Some n) (sym ((at.exact q r m m c h.class s s' k h.is).1 (refl, (t.common.exact m q r).1 common)))

  class_low : (q c : ℕ) → entry classes q ≡ Some c → c < tops.count
  class_low q c k = let s = at.sound q c k in let h = at.whole q s.below s.is in
      subst (λ n. n < tops.count) (same_Some _ _ (sym h.is ∙ k)) h.low

  placed : (q : ℕ) (i : Ins) → b.at q ≡ Some i → T.entry places q ≡ Some (T.place_of i.instr i.mark i.next)
  placed q i e = shown q ∙ ap T.place_at e

  -- where a row takes what leaves a place
  made_is : (q : ℕ) (i : Ins) → b.at q ≡ Some i → (u : ℕ) (row : Handler) → taker i.rows u ≡ Some row
      → made_by classes (taker (rows_at b.handlers q) u) ≡ entry classes row.target.0
  made_is q i e u row f = ap (λ rs. made_by classes (taker rs u)) (sym (rows_are q i e)) ∙ ap (λ o. made_by classes o) f

  taken_from : (q : ℕ) (i : Ins) → b.at q ≡ Some i → (u : ℕ) (row : Handler) → taker (rows_at b.handlers q) u ≡ Some row → taker i.rows u ≡ Some row
  taken_from q i e u row f = ap (λ rs. taker rs u) (rows_are q i e) ∙ f

  module _ (count end : ℕ) (wide : count ≡ tops.count) (inside : (pc : ℕ) → pc < length sizes → pc ≤ p → pc < end) (low : (pc : ℕ) → pc < end → pc ≤ p)
      (bundles : List (List ℕ)) (held : List (Option ℕ)) (h : HasSearched places b.handlers classes count sizes end bundles held) where
    abbrev next : Pair → List Pair
    next = next_of b.handlers classes places h.members

    within : (q n : ℕ) → entry sizes q ≡ Some n → q ≤ p → q < end
    within q n s le = inside q (entry_in sizes q n s) le

    -- what is listed of places that are reached

    seed_is : (q n : ℕ) (i : Ins) → entry sizes q ≡ Some n → b.at q ≡ Some i → (u : ℕ) → i.instr ≡ Leave (record { 0 = u })
        → seed_at b.handlers classes q (entry places q) (entry sizes q) ≡ with_number u (made_by classes (taker (rows_at b.handlers q) u))
    seed_is q n i s e u is = ap (λ o. seed_at b.handlers classes q o (entry sizes q)) (placed q i e)
        ∙ (ap (λ o. seed_at b.handlers classes q (Some (T.place_of i.instr i.mark i.next)) o) s ∙ ap (λ j. seed_by b.handlers classes q j) is)

    seed_in : (q : ℕ) (i : Ins) (ks : Kinds) → Reached b p q i ks → (u : ℕ) → i.instr ≡ Leave (record { 0 = u }) → (row : Handler) → taker i.rows u ≡ Some row
        → (c : ℕ) → entry classes row.target.0 ≡ Some c → Contains h.seeds (c, u)
    seed_in q i ks reached u is row f c k =
        let s = sized b p sizes are q ks reached.gets in
        h.seeded.all (c, u) (record {
          pc = q;
          low = within q (length ks) s reached.low;
          among = subst (λ xs. Contains xs (c, u)) (sym (seed_is q (length ks) i s reached.stands u is))
              (with_it u c _ (made_is q i reached.stands u row f ∙ k));
        })

    record SeedFrom (x : Pair) : Type 0 where
      pc : ℕ
      ins : Ins
      kinds : Kinds
      reached : Reached b p pc ins kinds
      leaves : ins.instr ≡ Leave (record { 0 = x.1 })
      row : Handler
      takes : taker ins.rows x.1 ≡ Some row
      is : entry classes row.target.0 ≡ Some x.0

    seed_from : (x : Pair) → Contains h.seeds x → SeedFrom x
    seed_from x c =
        let o = h.seeded.only x c in
        let s = seed_parts b.handlers classes o.pc (entry places o.pc) (entry sizes o.pc) x o.among in
        let i = seen (b.at o.pc) s.p (sym (shown o.pc) ∙ s.stands) in
        let r = reached_with b p sizes are o.pc s.n i.ins s.sized (low o.pc o.low) i.is in
        record {
          pc = o.pc;
          ins = i.ins;
          kinds = r.kinds;
          reached = r.reached;
          leaves = sym i.instr ∙ s.leaves;
          row = s.made.row;
          takes = taken_from o.pc i.ins i.is x.1 s.made.row s.made.takes;
          is = s.made.is;
        }

    member_is : (q : ℕ) (i : Ins) → b.at q ≡ Some i → (i.instr ≡ EndFinally) ⊎ (i.instr ≡ Exit) → (c : ℕ) → entry classes q ≡ Some c
        → Contains (member_at (entry classes q) q (entry places q)) (c, q)
    member_is q i e which c k = subst (λ o. Contains (member_at (entry classes q) q o) (c, q)) (sym (placed q i e))
        (subst (λ o. Contains (member_by o q i.instr) (c, q)) (sym k) (elim which [
          | inl is ↦ subst (λ j. Contains (member_by (Some c) q j) (c, q)) (sym is) (the_one _)
          | inr is ↦ subst (λ j. Contains (member_by (Some c) q j) (c, q)) (sym is) (the_one _)
        ]))

    member_in : (q n : ℕ) (i : Ins) → entry sizes q ≡ Some n → q ≤ p → b.at q ≡ Some i → (i.instr ≡ EndFinally) ⊎ (i.instr ≡ Exit)
        → (c : ℕ) → entry classes q ≡ Some c → Contains (list_at h.members c) q
    member_in q n i s le e which c k = h.gathers.all c q (let lt = class_low q c k in omega (arith, lt, wide))
        (h.lists.all (c, q) (record { pc = q; low = within q n s le; among = member_is q i e which c k }))

    member_from : (c q : ℕ) → Contains (list_at h.members c) q → (entry classes q ≡ Some c) × (q ≤ p)
    member_from c q m =
        let o = h.lists.only (c, q) (h.gathers.only c q m) in
        let (k, same) = member_parts (entry classes o.pc) o.pc (entry places o.pc) (c, q) o.among in
        (ap (λ x. entry classes x) (sym same) ∙ k, subst (λ x. x ≤ p) same (low o.pc o.low))

    onto_end : (q : ℕ) (i : Ins) → b.at q ≡ Some i → i.instr ≡ EndFinally → (u : ℕ) (row : Handler) → taker i.rows u ≡ Some row
        → onto b.handlers classes u q (entry places q) ≡ entry classes row.target.0
    onto_end q i e is u row f = ap (λ o. onto b.handlers classes u q o) (placed q i e)
        ∙ (ap (λ j. onto_by b.handlers classes u q j i.next) is ∙ made_is q i e u row f)

    onto_exit : (q : ℕ) (i : Ins) → b.at q ≡ Some i → i.instr ≡ Exit → (u : ℕ) → onto b.handlers classes u q (entry places q) ≡ entry classes i.next
    onto_exit q i e is u = ap (λ o. onto b.handlers classes u q o) (placed q i e) ∙ ap (λ j. onto_by b.handlers classes u q j i.next) is

    next_in : (c u q d : ℕ) → Contains (list_at h.members c) q → onto b.handlers classes u q (entry places q) ≡ Some d → Contains (next (c, u)) (d, u)
    next_in c u q d m e = in_flat (λ pc. with_number u (onto b.handlers classes u pc (entry places pc))) (list_at h.members c) q (d, u) m (with_it u d _ e)

    -- what slots hold is found

    pub forward : (u q d : ℕ) → Holds b p u q d → (r c : ℕ) → entry sizes r ≡ Some (suc d) → Common b p d q r → entry classes r ≡ Some c
        → Derived next h.seeds (c, u)
    forward u _ _ (L.caught (L.leaves {q = q} {i = i} {ks = ks} reached is) row f) r c s common k =
        let w = row_sized b p sizes are q i ks reached lead row (among b p sizes are q i ks reached u row f) in
        given (seed_in q i ks reached u is row f c (class_along r row.target.0 row.depth c s w (L.back common) k))
    forward u _ _ (L.caught (L.let_go {q = q} {i = i} {ks = ks} reached is holds) row f) r c s common k =
        let w = row_sized b p sizes are q i ks reached lead row (among b p sizes are q i ks reached u row f) in
        let m = end_sized b p sizes are q i ks reached is in
        let a = at.whole q (length ks - 1) m in
        follows (forward u q (length ks - 1) holds q a.class m L.same a.is)
        (next_in a.class u q c (member_in q (suc (length ks - 1)) i m reached.low reached.stands (inl is) a.class a.is)
        (onto_end q i reached.stands is u row f ∙ class_along r row.target.0 row.depth c s w (L.back common) k))
    forward u _ _ (L.exited {q = q} {i = i} {ks = ks} reached is holds) r c s common k =
        let there = (common_places common).backward (stands b p sizes are r (suc (length ks - 2)) s) in
        let w = behind_sized b p sizes are q i ks reached is there in
        let m = exit_sized b p sizes are q i ks reached is in
        let a = at.whole q (length ks - 1) m in
        follows (forward u q (length ks - 1) holds q a.class m L.same a.is)
        (next_in a.class u q c (member_in q (suc (length ks - 1)) i m reached.low reached.stands (inr is) a.class a.is)
        (onto_exit q i reached.stands is u ∙ class_along r i.next (length ks - 2) c s w (L.back common) k))
    forward u _ d (L.shared {q = q} shares holds) r c s common k = forward u q d holds r c s (L.along shares common) k

    -- and nothing else

    shares : (u q m r n c : ℕ) → entry sizes q ≡ Some (suc m) → entry classes q ≡ Some c → entry sizes r ≡ Some (suc n) → entry classes r ≡ Some c
        → Holds b p u q m → Holds b p u r n
    shares u q m r n c s k s' k' holds = let (e, common) = same_class q r m n c s s' k k' in
        subst (λ d. Holds b p u r d) e (L.shared common holds)

    less_one : (m n : ℕ) → n ≡ suc m → m ≡ n - 1
    less_one m n e = omega (arith, e)

    onward : (u pc m c : ℕ) → entry sizes pc ≡ Some (suc m) → pc ≤ p → Holds b p u pc m → (pl : Place) (i : Seen (b.at pc) pl)
        → Onward b.handlers classes u pc pl.instr pl.next.0 c
        → (r n : ℕ) → entry sizes r ≡ Some (suc n) → entry classes r ≡ Some c → Holds b p u r n
    onward u pc m c s le holds pl i (ends is made) r n s' k' =
        let w = reached_with b p sizes are pc (suc m) i.ins s le i.is in
        let f = taken_from pc i.ins i.is u made.row made.takes in
        let here = subst (λ d. Holds b p u pc d) (less_one m (length w.kinds) w.long) holds in
        shares u made.row.target.0 made.row.depth r n c
        (row_sized b p sizes are pc i.ins w.kinds w.reached lead made.row (among b p sizes are pc i.ins w.kinds w.reached u made.row f)) made.is s' k'
        (L.caught (L.let_go w.reached (sym i.instr ∙ is) here) made.row f)
    onward u pc m c s le holds pl i (exits is there) r n s' k' =
        let w = reached_with b p sizes are pc (suc m) i.ins s le i.is in
        let here = subst (λ d. Holds b p u pc d) (less_one m (length w.kinds) w.long) holds in
        let k = ap (λ x. entry classes x) (sym i.next) ∙ there in
        let a = at.sound i.ins.next c k in
        shares u i.ins.next (length w.kinds - 2) r n c
        (behind_sized b p sizes are pc i.ins w.kinds w.reached (sym i.instr ∙ is) (stands b p sizes are i.ins.next (suc a.below) a.is)) k s' k'
        (L.exited w.reached (sym i.instr ∙ is) here)

    pub backward : (x : Pair) → Derived next h.seeds x → (r n : ℕ) → entry sizes r ≡ Some (suc n) → entry classes r ≡ Some x.0 → Holds b p x.1 r n
    backward _ (given {x = x} c) r n s k =
        let f = seed_from x c in
        shares x.1 f.row.target.0 f.row.depth r n x.0
        (row_sized b p sizes are f.pc f.ins f.kinds f.reached lead f.row (among b p sizes are f.pc f.ins f.kinds f.reached x.1 f.row f.takes)) f.is s k
        (L.caught (L.leaves f.reached f.leaves) f.row f.takes)
    backward _ (follows {x = x} {y = y} d c) r n s k =
        let w = flat_parts (λ pc. with_number x.1 (onto b.handlers classes x.1 pc (entry places pc))) (list_at h.members x.0) y c in
        let (e, same) = number_parts x.1 (onto b.handlers classes x.1 w.from (entry places w.from)) y w.gives in
        let (m, le) = member_from x.0 w.from w.among in
        let a = at.sound w.from x.0 m in
        let o = onto_parts b.handlers classes x.1 w.from (entry places w.from) y.0 e in
        subst (λ u. Holds b p u r n) same
        (onward x.1 w.from a.below y.0 a.is le (backward x d w.from a.below a.is m) o.p (seen (b.at w.from) o.p (sym (shown w.from) ∙ o.stands)) o.onward r n s k)

    -- so the table has what is let go

    bundled_goes : (pc u : ℕ) → IsBundled bundles held pc u → LetsGoUpTo b p pc u
    bundled_goes pc u i =
        let lt : pc < end = (let l = entry_in held pc i.bundle i.is in omega (arith, l, h.ended.long)) in
        let e = end_parts (entry classes pc) (entry places pc) i.bundle (sym (h.ended.each pc lt) ∙ i.is) in
        let s = seen (b.at pc) e.p (sym (shown pc) ∙ e.stands) in
        let a = at.sound pc i.bundle e.is in
        let w = reached_with b p sizes are pc (suc a.below) s.ins a.is (low pc lt) s.is in
        record {
          ins = s.ins;
          kinds = w.kinds;
          reached = w.reached;
          ends = sym s.instr ∙ e.ends;
          holds = subst (λ d. Holds b p u pc d) (less_one a.below (length w.kinds) w.long)
              (backward (i.bundle, u) (h.closed.sound (i.bundle, u) (h.bundled.only i.bundle u i.among)) pc a.below a.is e.is);
        }

    ended_is : (pc : ℕ) (i : Ins) → b.at pc ≡ Some i → i.instr ≡ EndFinally → pc < end → entry held pc ≡ entry classes pc
    ended_is pc i e is lt = h.ended.each pc lt ∙ (ap (λ o. ended_at (entry classes pc) o) (placed pc i e)
        ∙ ap (λ j. ended_at (entry classes pc) (Some (T.place_of j i.mark i.next))) is)

    goes_bundled : (pc u : ℕ) → LetsGoUpTo b p pc u → IsBundled bundles held pc u
    goes_bundled pc u g =
        let m = end_sized b p sizes are pc g.ins g.kinds g.reached g.ends in
        let a = at.whole pc (length g.kinds - 1) m in
        let lt = within pc (suc (length g.kinds - 1)) m g.reached.low in
        let d = forward u pc (length g.kinds - 1) g.holds pc a.class m L.same a.is in
        record {
          bundle = a.class;
          is = ended_is pc g.ins g.reached.stands g.ends lt ∙ a.is;
          among = h.bundled.all a.class u (let lw = a.low in omega (arith, lw, wide)) (h.closed.whole (a.class, u) d);
        }

    pub has_held : HasHeldUpTo b p bundles held
    has_held = record { sound = bundled_goes; whole = goes_bundled }
