-- A forest keeps its lists while it grows, and no two of them are the same.
use Rattle.std.proofs.Common.{◌≡◌, ℕ, zero, suc, ◌+◌, ◌<◌, List, [], ◌∷◌, ◌++◌, length, replicate, Some, None, refl, sym, ap, ◌∙◌, subst, arith, append_assoc, length-append, ◌⊎◌, inl, inr, get_or}
use Rattle.std.specs.Prelude.{slice_get}
use Rattle.std.proofs.lemmas.Bool.{cases_eq}
use Rattle.std.proofs.lemmas.List.{get_or_append_left, length-replicate}
use Rattle.std.proofs.lemmas.Option.{same_Some, slice_get-get_or, slice_get_within}
use Rattle.pt_instr.specs.declared.kinds.Kind.{Kind}
use Rattle.pt_instr.specs.Effects.{Kinds}
use Rattle.pt_kinds.specs.declared.forest.Node.{Node}
use Rattle.pt_kinds.specs.declared.forest.Forest.{Forest}
use Rattle.pt_kinds.specs.declared.known.Known.{Known}
use Rattle.pt_kinds.specs.Known.{known_at, rank, Adds}
use Rattle.pt_kinds.specs.Forest.{list_in, lists_from, lists_of, Begins, IsApart, IsRun, IsKnown, AreNodes, IsForest, AreDistinct}
use Rattle.pt_kinds.proofs.KnownLemmas.{one_rank}
use Rattle.pt_kinds.proofs.RunLemmas.{get_left, get_last, get_push, same_runs}

abbrev with_run : List Kinds → Node → Kinds
with_run before n = list_in before n.parent ++ replicate n.count n.kind

length_from : (before : List Kinds) (ns : List Node) → length (lists_from before ns) ≡ length before + length ns
length_from before [] = omega arith
length_from before (n ∷ ns) =
    let l : length (lists_from before (n ∷ ns)) ≡ length (before ++ with_run before n ∷ []) + length ns = length_from (before ++ with_run before n ∷ []) ns in
    let a : length (before ++ with_run before n ∷ []) ≡ length before + 1 = length-append before (with_run before n ∷ []) in
    omega (arith, l, a)

from_push : (before : List Kinds) (ns : List Node) (n : Node) → lists_from before (ns ++ n ∷ []) ≡ lists_from before ns ++ with_run (lists_from before ns) n ∷ []
from_push before [] n = refl
from_push before (m ∷ ns) n = from_push (before ++ with_run before m ∷ []) ns n

last_in : (ls : List Kinds) (ks : Kinds) → list_in (ls ++ ks ∷ []) (length ls) ≡ ks
last_in [] ks = refl
last_in (l ∷ ls) ks = last_in ls ks

long_lists : (nodes : List Node) → length (lists_of nodes) ≡ length nodes
long_lists nodes = let l = length_from [] nodes in omega (arith, l)

-- a node comes behind the others
module _ (nodes : List Node) (n : Node) where
  pub old_list : (i : ℕ) → i < length nodes → list_in (lists_of (nodes ++ n ∷ [])) i ≡ list_in (lists_of nodes) i
  old_list i h = ap (λ ls. list_in ls i) (from_push [] nodes n)
      ∙ get_or_append_left (lists_of nodes) (with_run (lists_of nodes) n ∷ []) [] i (let l = long_lists nodes in omega (arith, l, h))

  pub new_list : list_in (lists_of (nodes ++ n ∷ [])) (length nodes) ≡ list_in (lists_of nodes) n.parent ++ replicate n.count n.kind
  new_list = ap (λ ls. list_in ls (length nodes)) (from_push [] nodes n)
      ∙ subst (λ i. list_in (lists_of nodes ++ with_run (lists_of nodes) n ∷ []) i ≡ with_run (lists_of nodes) n) (long_lists nodes) (last_in (lists_of nodes) (with_run (lists_of nodes) n))

  pub more_long : length (nodes ++ n ∷ []) ≡ length nodes + 1
  more_long = length-append nodes (n ∷ [])

same_key : (p c q d : ℕ) (k l : Kind) → ((p ≡ q) × ((c ≡ d) × (k ≡ l))) ⊎ (p ≡ q → c ≡ d → k ≡ l → ⊥)
same_key p c q d k l = elim (cases_eq p q) [
  | inl a ↦ elim (cases_eq c d) [
    | inl e ↦ elim (cases_eq (rank k) (rank l)) [ inl r ↦ inl (a, (e, one_rank k l r)) | inr ne ↦ inr (λ x y z. ne (ap rank z)) ]
    | inr ne ↦ inr (λ x y z. ne y)
  ]
  | inr ne ↦ inr (λ x y z. ne x)
]

module _ (nodes : List Node) (known known' : Known) (n : Node) (are : AreNodes nodes known) (low : n.parent < length nodes) (some : 0 < n.count)
    (apart : IsApart (list_in (lists_of nodes) n.parent) n.kind) (long : n.length ≡ length (list_in (lists_of nodes) n.parent) + n.count) (shortcut : n.shortcut < n.parent + 1)
    (begins : Begins (list_in (lists_of nodes) n.shortcut) (list_in (lists_of nodes) n.parent)) (none : known_at known n.parent n.count n.kind ≡ None)
    (adds : Adds known known' n.parent n.count n.kind (length nodes)) where
  old : (i : ℕ) → i < length nodes → list_in (lists_of (nodes ++ n ∷ [])) i ≡ list_in (lists_of nodes) i
  old i h = old_list nodes n i h

  old_run : (i : ℕ) (m : Node) → i < length nodes → IsRun nodes known i m → IsRun (nodes ++ n ∷ []) known' i m
  old_run i m h r = record {
    low = r.low;
    some = r.some;
    apart = subst (λ ks. IsApart ks m.kind) (sym (old m.parent (omega (arith, h, r.low)))) r.apart;
    is = old i h ∙ (r.is ∙ ap (λ ks. ks ++ replicate m.count m.kind) (sym (old m.parent (omega (arith, h, r.low)))));
    long = r.long ∙ ap (λ ks. length ks) (sym (old i h));
    before = r.before;
    begins = subst (λ ks. Begins ks (list_in (lists_of (nodes ++ n ∷ [])) i)) (sym (old m.shortcut (omega (arith, h, r.before))))
        (subst (λ ks. Begins (list_in (lists_of nodes) m.shortcut) ks) (sym (old i h)) r.begins);
    found = adds.others m.parent m.count m.kind (λ a d e. differs a d e) ∙ r.found;
  }
    where
      differs : m.parent ≡ n.parent → m.count ≡ n.count → m.kind ≡ n.kind → ⊥
      differs a d e = let f : known_at known n.parent n.count n.kind ≡ Some i = subst (λ p. known_at known p n.count n.kind ≡ Some i) a
          (subst (λ q. known_at known m.parent q n.kind ≡ Some i) d (subst (λ k. known_at known m.parent m.count k ≡ Some i) e r.found)) in
          let g : None ≡ Some i = sym none ∙ f in cc

  new_run : IsRun (nodes ++ n ∷ []) known' (length nodes) n
  new_run = record {
    low = low;
    some = some;
    apart = subst (λ ks. IsApart ks n.kind) (sym (old n.parent low)) apart;
    is = new_list nodes n ∙ ap (λ ks. ks ++ replicate n.count n.kind) (sym (old n.parent low));
    long = long ∙ sym (ap (λ ks. length ks) (new_list nodes n) ∙ (length-append (list_in (lists_of nodes) n.parent) (replicate n.count n.kind)
        ∙ ap (λ m. length (list_in (lists_of nodes) n.parent) + m) (length-replicate n.count n.kind)));
    before = omega (arith, low, shortcut);
    begins = subst (λ ks. Begins ks (list_in (lists_of (nodes ++ n ∷ [])) (length nodes))) (sym (old n.shortcut (omega (arith, low, shortcut)))) (record {
      more = begins.more ++ replicate n.count n.kind;
      is = new_list nodes n ∙ (ap (λ ks. ks ++ replicate n.count n.kind) begins.is ∙ append_assoc (list_in (lists_of nodes) n.shortcut) begins.more (replicate n.count n.kind));
    });
    found = adds.here;
  }

  pub more_nodes : AreNodes (nodes ++ n ∷ []) known'
  more_nodes = record {
    first = record {
      node = are.first.node;
      stands = get_left nodes (n ∷ []) are.first.node 0 are.first.stands;
      root = are.first.root;
      none = old 0 (slice_get_within nodes 0 are.first.node are.first.stands) ∙ are.first.none;
    };
    each = λ i m pos e. elim (get_push nodes n m i e) [
      | inl (h, f) ↦ old_run i m h (are.each i m pos f)
      | inr (h, f) ↦ subst (λ j. IsRun (nodes ++ n ∷ []) known' j m) (sym h) (subst (λ x. IsRun (nodes ++ n ∷ []) known' (length nodes) x) f new_run)
    ];
    sound = λ p c i k e. elim (same_key p c n.parent n.count k n.kind) [
      | inl (a, (d, l)) ↦ at_new p c i k a d l e
      | inr ne ↦ at_old p c i k (are.sound p c i k (sym (adds.others p c k ne) ∙ e))
    ];
  }
    where
      at_old : (p c i : ℕ) (k : Kind) → IsKnown nodes p c k i → IsKnown (nodes ++ n ∷ []) p c k i
      at_old p c i k is = record { node = is.node; stands = get_left nodes (n ∷ []) is.node i is.stands; behind = is.behind; parent_is = is.parent_is; count_is = is.count_is; kind_is = is.kind_is }

      at_new : (p c i : ℕ) (k : Kind) → p ≡ n.parent → c ≡ n.count → k ≡ n.kind → known_at known' p c k ≡ Some i → IsKnown (nodes ++ n ∷ []) p c k i
      at_new p c i k a d l e =
          let f : known_at known' n.parent n.count n.kind ≡ Some i = subst (λ q. known_at known' q n.count n.kind ≡ Some i) a
          (subst (λ m. known_at known' p m n.kind ≡ Some i) d (subst (λ x. known_at known' p c x ≡ Some i) l e)) in
          let same : length nodes ≡ i = same_Some (length nodes) i (sym adds.here ∙ f) in
          record {
            node = n;
            stands = subst (λ j. slice_get (nodes ++ n ∷ []) j ≡ Some n) same (get_last nodes n);
            behind = subst (λ j. 0 < j) same (slice_get_within nodes 0 are.first.node are.first.stands);
            parent_is = sym a;
            count_is = sym d;
            kind_is = sym l;
          }

-- no two nodes have one list
module _ (nodes : List Node) (known : Known) (are : AreNodes nodes known) where
  pub node_at : (i : ℕ) → i < length nodes → (n : Node) × (slice_get nodes i ≡ Some n)
  node_at i h = (get_or nodes i are.first.node, slice_get-get_or nodes i are.first.node h)

  not_empty : (i : ℕ) → i < length nodes → 0 < i → list_in (lists_of nodes) i ≡ [] → ⊥
  not_empty i h pos e =
      let n = node_at i h in
      let r = are.each i n.0 pos n.1 in
      let l : 0 ≡ length (list_in (lists_of nodes) n.0.parent) + n.0.count = sym (ap (λ ks. length ks) e) ∙ (ap (λ ks. length ks) r.is
      ∙ (length-append (list_in (lists_of nodes) n.0.parent) (replicate n.0.count n.0.kind) ∙ ap (λ m. length (list_in (lists_of nodes) n.0.parent) + m) (length-replicate n.0.count n.0.kind))) in
      let s = r.some in omega (arith, l, s)

  one_node : (fuel i j : ℕ) → i < fuel → i < length nodes → j < length nodes → list_in (lists_of nodes) i ≡ list_in (lists_of nodes) j → i ≡ j
  one_node zero i j h g f e = absurd (omega (arith, h))
  one_node (suc fuel) zero zero h g f e = refl
  one_node (suc fuel) zero (suc j) h g f e = absurd (not_empty (suc j) f (omega arith) (sym e ∙ are.first.none))
  one_node (suc fuel) (suc i) zero h g f e = absurd (not_empty (suc i) g (omega arith) (e ∙ are.first.none))
  one_node (suc fuel) (suc i) (suc j) h g f e = same_nodes (λ p q low l m d. one_node fuel p q (omega (arith, low, h)) l m d) (node_at (suc i) g) (node_at (suc j) f)
    where
      same_nodes : ((p q : ℕ) → p < suc i → p < length nodes → q < length nodes → list_in (lists_of nodes) p ≡ list_in (lists_of nodes) q → p ≡ q)
          → (n : Node) × (slice_get nodes (suc i) ≡ Some n) → (m : Node) × (slice_get nodes (suc j) ≡ Some m) → suc i ≡ suc j
      same_nodes ih (n, a) (m, c) =
          let r = are.each (suc i) n (omega arith) a in
          let s = are.each (suc j) m (omega arith) c in
          let t = same_runs n.count m.count (list_in (lists_of nodes) n.parent) (list_in (lists_of nodes) m.parent) n.kind m.kind r.some s.some r.apart s.apart (sym r.is ∙ (e ∙ s.is)) in
          let p = ih n.parent m.parent r.low (let l = r.low in omega (arith, l, g)) (let l = s.low in omega (arith, l, f)) t.0 in
          same_Some (suc i) (suc j) (sym r.found ∙ (ap (λ q. known_at known q n.count n.kind) p ∙ (ap (λ d. known_at known m.parent d n.kind) t.1.0 ∙ (ap (λ k. known_at known m.parent m.count k) t.1.1 ∙ s.found))))

pub are_distinct : (f : Forest) → IsForest f → AreDistinct f
are_distinct f is i j g h e = one_node f.nodes.items f.known is (suc i) i j (omega arith) g h e
