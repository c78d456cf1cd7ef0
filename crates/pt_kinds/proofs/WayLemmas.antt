-- What the calls of a forest answer.
use Rattle.std.proofs.Common.{◌≡◌, ℕ, zero, suc, ◌+◌, ◌-◌, ◌<◌, ◌≤◌, Bool, true, false, List, [], ◌∷◌, ◌++◌, length, take, replicate, Some, None, refl, sym, ap, ◌∙◌, subst, arith, append_assoc, append-nil, length-append, ◌⊎◌, inl, inr}
use Rattle.std.specs.Prelude.{slice_get, MatchBool}
use Rattle.std.specs.Prelude.{nat_eq, nat_le, not}
use Rattle.std.proofs.lemmas.Bool.{eqb-true, leb-true}
use Rattle.std.proofs.lemmas.Bool.Decides.{nat_tests}
use Rattle.std.proofs.lemmas.List.{length-replicate}
use Rattle.std.proofs.lemmas.Option.{same_Some, slice_get_within}
use Rattle.pt_instr.specs.declared.kinds.Kind.{Kind}
use Rattle.pt_instr.specs.Effects.{Kinds}
use Rattle.pt_kinds.specs.declared.forest.Node.{Node}
use Rattle.pt_kinds.specs.declared.forest.Forest.{Forest}
use Rattle.pt_kinds.specs.declared.known.Known.{Known}
use Rattle.pt_kinds.specs.Known.{known_at, Adds, IsEmpty}
use Rattle.pt_kinds.specs.Forest.{list_in, lists_of, list_at, IsInside, Begins, IsApart, IsRun, IsRoot, AreNodes, IsForest, Has, IsFloor, IsStandingOn, IsLower, HasTop}
use Rattle.pt_kinds.proofs.RunLemmas.{last_same, replicate_last, replicate_more, take_all, take_front, take_run}
use Rattle.pt_kinds.proofs.ForestLemmas.{old_list, new_list, more_long, more_nodes, are_distinct}

-- the list of none is alone at first
pub root_forest : (nodes : List Node) (known : Known) (n : Node) → nodes ≡ n ∷ [] → IsRoot n → IsEmpty known → AreNodes nodes known
root_forest nodes known n e r none = subst (λ ns. AreNodes ns known) (sym e) (record {
  first = record { node = n; stands = refl; root = r; none = ap (λ c. replicate c n.kind) r.count };
  each = λ i m pos g. absurd (only i m pos g);
  sound = λ p c i k g. absurd (let h : None ≡ Some i = sym (none.none p c k) ∙ g in cc);
})
  where
    only : (i : ℕ) (m : Node) → 0 < i → slice_get (n ∷ []) i ≡ Some m → ⊥
    only zero m pos g = omega (arith, pos)
    only (suc i) m pos g = cc

pub root_none : (f : Forest) → IsForest f → list_at f 0 ≡ []
root_none f is = is.first.none

pub root_inside : (f : Forest) → IsForest f → IsInside f 0
root_inside f is = slice_get_within f.nodes.items 0 is.first.node is.first.stands

module _ (f : Forest) (is : IsForest f) where
  pub unchanged : (i : ℕ) (ks : Kinds) → IsInside f i → list_at f i ≡ ks → Has f f i ks
  unchanged i ks h e = record { forest = is; kept = λ j g. refl; more = omega arith; inside = h; is = e }

  pub known_has : (p c i : ℕ) (k : Kind) → known_at f.known p c k ≡ Some i → Has f f i (list_at f p ++ replicate c k)
  known_has p c i k e =
      let w = is.sound p c i k e in
      let r = is.each i w.node w.behind w.stands in
      unchanged i (list_at f p ++ replicate c k) (slice_get_within f.nodes.items i w.node w.stands)
      (r.is ∙ (ap (λ q. list_at f q ++ replicate w.node.count w.node.kind) w.parent_is ∙ (ap (λ m. list_at f p ++ replicate m w.node.kind) w.count_is ∙ ap (λ x. list_at f p ++ replicate c x) w.kind_is)))

  -- how many slots a node says that its list has, and on which it stands
  pub length_is : (i : ℕ) (n : Node) → slice_get f.nodes.items i ≡ Some n → n.length ≡ length (list_at f i)
  length_is zero n e = subst (λ m. m.length ≡ length (list_at f 0)) (same_Some is.first.node n (sym is.first.stands ∙ e)) (is.first.root.long ∙ sym (ap (λ ks. length ks) is.first.none))
  length_is (suc i) n e = (is.each (suc i) n (omega arith) e).long

  pub shortcut_inside : (i : ℕ) (n : Node) → slice_get f.nodes.items i ≡ Some n → n.shortcut < i + 1
  shortcut_inside zero n e = let j : n.shortcut ≡ 0 = subst (λ m. m.shortcut ≡ 0) (same_Some is.first.node n (sym is.first.stands ∙ e)) is.first.root.shortcut in omega (arith, j)
  shortcut_inside (suc i) n e = let j = (is.each (suc i) n (omega arith) e).before in omega (arith, j)

  pub parent_inside : (i : ℕ) (n : Node) → slice_get f.nodes.items i ≡ Some n → n.parent < i + 1
  parent_inside zero n e = let j : n.parent ≡ 0 = subst (λ m. m.parent ≡ 0) (same_Some is.first.node n (sym is.first.stands ∙ e)) is.first.root.parent in omega (arith, j)
  parent_inside (suc i) n e = let j = (is.each (suc i) n (omega arith) e).low in omega (arith, j)

  pub begins_itself : (i : ℕ) → Begins (list_at f i) (list_at f i)
  begins_itself i = record { more = []; is = sym (append-nil (list_at f i)) }

  pub shortcut_begins : (i : ℕ) (n : Node) → slice_get f.nodes.items i ≡ Some n → Begins (list_at f n.shortcut) (list_at f i)
  shortcut_begins zero n e = subst (λ j. Begins (list_at f j) (list_at f 0)) (sym (subst (λ m. m.shortcut ≡ 0) (same_Some is.first.node n (sym is.first.stands ∙ e)) is.first.root.shortcut)) (begins_itself 0)
  shortcut_begins (suc i) n e = (is.each (suc i) n (omega arith) e).begins

  pub parent_begins : (i : ℕ) (n : Node) → 0 < i → slice_get f.nodes.items i ≡ Some n → Begins (list_at f n.parent) (list_at f i)
  parent_begins i n pos e = record { more = replicate n.count n.kind; is = (is.each i n pos e).is }

  pub begins_twice : (i j k : ℕ) → Begins (list_at f i) (list_at f j) → Begins (list_at f j) (list_at f k) → Begins (list_at f i) (list_at f k)
  begins_twice i j k b d = record { more = b.more ++ d.more; is = d.is ∙ (ap (λ ks. ks ++ d.more) b.is ∙ append_assoc (list_at f i) b.more d.more) }

  -- whether a kind lies on top
  pub empty_apart : (i : ℕ) (k : Kind) → i ≡ 0 → IsApart (list_at f i) k
  empty_apart i k e ls g = no_last ls (sym (subst (λ j. list_at f j ≡ []) (sym e) is.first.none) ∙ g)
    where
      no_last : (ls : Kinds) → [] ≡ ls ++ k ∷ [] → ⊥
      no_last [] h = cc
      no_last (l ∷ ls) h = cc

  top_is : (i : ℕ) (n : Node) → 0 < i → slice_get f.nodes.items i ≡ Some n → (ls : Kinds) × (list_at f i ≡ ls ++ n.kind ∷ [])
  top_is i n pos e = by_count n.count (is.each i n pos e).some (is.each i n pos e).is
    where
      by_count : (c : ℕ) → 0 < c → list_at f i ≡ list_at f n.parent ++ replicate c n.kind → (ls : Kinds) × (list_at f i ≡ ls ++ n.kind ∷ [])
      by_count zero h g = absurd (omega (arith, h))
      by_count (suc c) h g = (
        list_at f n.parent ++ replicate c n.kind,
        g ∙ (ap (λ ks. list_at f n.parent ++ ks) (replicate_last c n.kind) ∙ sym (append_assoc (list_at f n.parent) (replicate c n.kind) (n.kind ∷ []))),
      )

  pub other_apart : (i : ℕ) (n : Node) (k : Kind) → 0 < i → slice_get f.nodes.items i ≡ Some n → (n.kind ≡ k → ⊥) → IsApart (list_at f i) k
  other_apart i n k pos e ne ls g = let t = top_is i n pos e in ne (last_same t.0 ls n.kind k (sym t.1 ∙ g)).1

  -- a run upon a run of the same
  pub joined : (i c : ℕ) (n : Node) (k : Kind) → 0 < i → slice_get f.nodes.items i ≡ Some n → n.kind ≡ k → list_at f n.parent ++ replicate (n.count + c) k ≡ list_at f i ++ replicate c k
  joined i c n k pos e same =
      ap (λ ks. list_at f n.parent ++ ks) (replicate_more n.count c k) ∙ (sym (append_assoc (list_at f n.parent) (replicate n.count k) (replicate c k))
      ∙ ap (λ ks. ks ++ replicate c k) (ap (λ x. list_at f n.parent ++ replicate n.count x) (sym same) ∙ sym (is.each i n pos e).is))

  pub top_apart : (i : ℕ) (n : Node) (k : Kind) → 0 < i → slice_get f.nodes.items i ≡ Some n → n.kind ≡ k → IsApart (list_at f n.parent) k
  top_apart i n k pos e same = subst (λ x. IsApart (list_at f n.parent) x) same (is.each i n pos e).apart

  pub top_some : (i : ℕ) (n : Node) → 0 < i → slice_get f.nodes.items i ≡ Some n → 0 < n.count
  top_some i n pos e = (is.each i n pos e).some

  pub low_inside : (i : ℕ) (n : Node) → IsInside f i → slice_get f.nodes.items i ≡ Some n → IsInside f n.parent
  low_inside i n h e = let p = parent_inside i n e in omega (arith, p, h)

  -- tests of calls

  pub told_same : (i j : ℕ) → IsInside f i → IsInside f j → (t : Bool) → nat_eq i j ≡ t → MatchBool t (list_at f i ≡ list_at f j) (list_at f i ≡ list_at f j → ⊥)
  told_same i j g h true e = ap (λ k. list_at f k) (eqb-true i j e)
  told_same i j g h false e = λ same. let k : i ≡ j = are_distinct f is i j g h same in absurd (grind (arith, nat_tests))

  pub told_apart : (i : ℕ) (n : Node) (k : Kind) → 0 < i → slice_get f.nodes.items i ≡ Some n → (t : Bool) → MatchBool t (n.kind ≡ k) (n.kind ≡ k → ⊥)
      → MatchBool (not t) (IsApart (list_at f i) k) (HasTop f i k)
  told_apart i n k pos e true same = record { top = n; stands = e; behind = pos; same = same }
  told_apart i n k pos e false ne = other_apart i n k pos e ne

  pub told_above : (i depth : ℕ) (n below : Node) → 0 < i → slice_get f.nodes.items i ≡ Some n → slice_get f.nodes.items n.parent ≡ Some below
      → (t : Bool) → nat_le depth below.length ≡ t → MatchBool t (IsStandingOn f i depth) (IsStandingOn f i depth → ⊥)
  told_above i depth n below pos e g true t = record { top = n; stands = e; behind = pos; enough = (let l = length_is n.parent below g in let h = leb-true depth below.length t in omega (arith, l, h)) }
  told_above i depth n below pos e g false t = λ s.
      let same : s.top ≡ n = same_Some s.top n (sym s.stands ∙ e) in
      let h : depth ≤ length (list_at f n.parent) = subst (λ m. depth ≤ length (list_at f m.parent)) same s.enough in
      let l = length_is n.parent below g in
      let k : depth ≤ below.length = omega (arith, l, h) in
      absurd (grind (arith, nat_tests))

  pub lower_parent : (i depth : ℕ) → IsStandingOn f i depth → (n : Node) → slice_get f.nodes.items i ≡ Some n → IsLower f i depth n.parent
  lower_parent i depth s n e = record {
    before = (is.each i n s.behind e).low;
    enough = subst (λ m. depth ≤ length (list_at f m.parent)) (same_Some s.top n (sym s.stands ∙ e)) s.enough;
    begins = parent_begins i n s.behind e;
  }

  pub lower_shortcut : (i depth : ℕ) → 0 < i → (n shortcut : Node) → slice_get f.nodes.items i ≡ Some n → slice_get f.nodes.items n.shortcut ≡ Some shortcut → depth ≤ shortcut.length → IsLower f i depth n.shortcut
  lower_shortcut i depth pos n shortcut e g h = record {
    before = (is.each i n pos e).before;
    enough = (let l = length_is n.shortcut shortcut g in omega (arith, l, h));
    begins = shortcut_begins i n e;
  }

  -- the lowest slots of a list, by the shortest list that has so many
  module _ (list depth i : ℕ) (floor : IsFloor f list depth i) (n : Node) (e : slice_get f.nodes.items i ≡ Some n) where
    pub floor_whole : n.length ≤ depth → Has f f i (take depth (list_at f list))
    floor_whole h = unchanged i (take depth (list_at f list)) floor.inside (by_enough floor.enough)
      where
        short : length (list_at f i) ≤ depth
        short = let l = length_is i n e in omega (arith, l, h)

        by_enough : (depth ≤ length (list_at f i)) ⊎ (i ≡ list) → list_at f i ≡ take depth (list_at f list)
        by_enough (inl g) = sym (subst (λ d. take d (list_at f list) ≡ list_at f i) (let z : length (list_at f i) ≡ depth = (let s = short in omega (arith, s, g)) in z)
            (ap (λ ks. take (length (list_at f i)) ks) floor.begins.is ∙ take_front (list_at f i) floor.begins.more))
        by_enough (inr same) = subst (λ j. list_at f i ≡ take depth (list_at f j)) same (sym (take_all depth (list_at f i) short))

    behind : depth < n.length → 0 < i
    behind h = by_place i e
      where
        by_place : (j : ℕ) → slice_get f.nodes.items j ≡ Some n → 0 < j
        by_place zero g = absurd (let l = length_is 0 n g in let z : length (list_at f 0) ≡ 0 = ap (λ ks. length ks) is.first.none in omega (arith, l, z, h))
        by_place (suc j) g = omega arith

    pub floor_behind : depth < n.length → 0 < i
    floor_behind h = behind h

    pub floor_part : depth < n.length → (below : ℕ) → below ≡ length (list_at f n.parent) → (below < depth)
        × (list_at f n.parent ++ replicate (depth - below) n.kind ≡ take depth (list_at f list))
    floor_part h below b = (lower, sym part)
      where
        r : IsRun f.nodes.items f.known i n
        r = is.each i n (behind h) e

        lower : below < depth
        lower = let l = floor.least (behind h) n e in omega (arith, l, b)

        long : length (list_at f i) ≡ length (list_at f n.parent) + n.count
        long = ap (λ ks. length ks) r.is ∙ (length-append (list_at f n.parent) (replicate n.count n.kind) ∙ ap (λ m. length (list_at f n.parent) + m) (length-replicate n.count n.kind))

        few : depth - below ≤ n.count
        few = let l = length_is i n e in let g = long in let w = lower in omega (arith, l, g, w, b, h)

        sum : length (list_at f n.parent) + (depth - below) ≡ depth
        sum = let w = lower in omega (arith, w, b)

        part : take depth (list_at f list) ≡ list_at f n.parent ++ replicate (depth - below) n.kind
        part = ap (λ ks. take depth ks) (floor.begins.is ∙ ap (λ ks. ks ++ floor.begins.more) r.is)
            ∙ subst (λ d. take d ((list_at f n.parent ++ replicate n.count n.kind) ++ floor.begins.more) ≡ list_at f n.parent ++ replicate (depth - below) n.kind) sum
            (take_run (depth - below) n.count (list_at f n.parent) floor.begins.more n.kind few)

-- a list that has a node has it where it is said to be other kinds
pub has_as : (old new : Forest) (i : ℕ) (ks ls : Kinds) → ks ≡ ls → Has old new i ks → Has old new i ls
has_as old new i ks ls e h = subst (λ x. Has old new i x) e h

-- a node comes
pub run_has : (old new : Forest) (n : Node) (node : ℕ) → IsForest old → IsInside old n.parent → 0 < n.count → IsApart (list_at old n.parent) n.kind
    → n.length ≡ length (list_at old n.parent) + n.count → n.shortcut < n.parent + 1 → Begins (list_at old n.shortcut) (list_at old n.parent)
    → known_at old.known n.parent n.count n.kind ≡ None → Adds old.known new.known n.parent n.count n.kind node → node ≡ length old.nodes.items → new.nodes.items ≡ old.nodes.items ++ n ∷ []
    → Has old new node (list_at old n.parent ++ replicate n.count n.kind)
run_has old new n node is low some apart long shortcut begins none adds at same = record {
  forest = subst (λ ns. AreNodes ns new.known) (sym same) (more_nodes old.nodes.items old.known new.known n is low some apart long shortcut begins none
      (subst (λ i. Adds old.known new.known n.parent n.count n.kind i) at adds));
  kept = λ i h. ap (λ ns. list_in (lists_of ns) i) same ∙ old_list old.nodes.items n i h;
  more = let l = grown in omega (arith, l);
  inside = let l = grown in omega (arith, l, at);
  is = ap (λ i. list_at new i) at ∙ (ap (λ ns. list_in (lists_of ns) (length old.nodes.items)) same ∙ new_list old.nodes.items n);
}
  where
    grown : length new.nodes.items ≡ length old.nodes.items + 1
    grown = ap (λ ns. length ns) same ∙ more_long old.nodes.items n
