-- Chains of stretches, level by level.
use Rattle.std.proofs.Common.{◌≡◌, ℕ, zero, suc, ◌+◌, ◌/◌, ◌<◌, ◌≤◌, List, [], ◌∷◌, ◌++◌, length, take, map, get_or, Option, None, refl, sym, ap, ◌∙◌, subst, arith}
use Rattle.std.specs.Prelude.{Vec, find}
use Rattle.std.proofs.lemmas.List.{take_more, get_or-map, map-append, length-map}
use Rattle.pt_ranges.specs.declared.handlers.Handler.{Handler}
use Rattle.pt_sizes.specs.Waiting.{Level, level_of, stretch_of}
use Rattle.pt_takers.specs.declared.sides.Side.{Side}
use Rattle.pt_takers.specs.Sides.{is_below}
use Rattle.pt_takers.specs.Chains.{Falls, IsChain}
use Rattle.pt_takers.specs.Stretches.{AreChainsOfLevel, no_stretch, one_stretch, AreChains, no_level, one_level, sooner, first_up}
use Rattle.pt_takers.proofs.ChainLemmas.{no_chain}

stretch_added : (side : Side) (rows chains : Level) (row chain : List Handler) → AreChainsOfLevel side rows chains → IsChain side row chain
    → AreChainsOfLevel side (rows ++ row ∷ []) (chains ++ chain ∷ [])
stretch_added side _ _ row chain no_stretch c = one_stretch c no_stretch
stretch_added side _ _ row chain (one_stretch {level = rows} {chains = chains} d a) c = one_stretch d (stretch_added side rows chains row chain a c)

level_added : (side : Side) (levels above : List Level) (rows chains : Level) → AreChains side levels above → AreChainsOfLevel side rows chains
    → AreChains side (levels ++ rows ∷ []) (above ++ chains ∷ [])
level_added side _ _ rows chains no_level c = one_level c no_level
level_added side _ _ rows chains (one_level {levels = levels} {above = above} d a) c = one_level d (level_added side levels above rows chains a c)

-- one more stretch of a level
pub stretch_more : {X : Type 0} (side : Side) (items : List (Vec Handler X)) (i : ℕ) (rows : Vec Handler X) → i < length items → rows ≡ get_or items i rows
    → (chains chains' : Level) (chain : List Handler) → AreChainsOfLevel side (map (λ r. r.items) (take i items)) chains → IsChain side rows.items chain
    → chains' ≡ chains ++ chain ∷ [] → AreChainsOfLevel side (map (λ r. r.items) (take (i + 1) items)) chains'
stretch_more side items i rows lt is chains chains' chain a c e =
    subst (λ xs. AreChainsOfLevel side (map (λ r. r.items) xs) chains')
    (sym (take_more items i rows lt ∙ ap (λ r. take i items ++ r ∷ []) (sym is)))
    (subst (λ xs. AreChainsOfLevel side xs chains') (sym (map-append (λ r. r.items) (take i items) (rows ∷ [])))
    (subst (AreChainsOfLevel side (map (λ r. r.items) (take i items) ++ rows.items ∷ [])) (sym e)
    (stretch_added side (map (λ r. r.items) (take i items)) chains rows.items chain a c)))

pub level_more : {X Y : Type 0} (side : Side) (items : List (Vec (Vec Handler X) Y)) (i : ℕ) (rows : Vec (Vec Handler X) Y) → i < length items → rows ≡ get_or items i rows
    → (above above' : List Level) (chains : Level) → AreChains side (map level_of (take i items)) above → AreChainsOfLevel side (level_of rows) chains
    → above' ≡ above ++ chains ∷ [] → AreChains side (map level_of (take (i + 1) items)) above'
level_more side items i rows lt is above above' chains a c e =
    subst (λ xs. AreChains side (map level_of xs) above')
    (sym (take_more items i rows lt ∙ ap (λ r. take i items ++ r ∷ []) (sym is)))
    (subst (λ xs. AreChains side xs above') (sym (map-append level_of (take i items) (rows ∷ [])))
    (subst (AreChains side (map level_of (take i items) ++ level_of rows ∷ [])) (sym e)
    (level_added side (map level_of (take i items)) above (level_of rows) chains a c)))

pub each_chain : (side : Side) (rows chains : Level) → AreChainsOfLevel side rows chains → (node : ℕ)
    → IsChain side (stretch_of rows node) (stretch_of chains node)
each_chain side _ _ no_stretch node = no_chain side
each_chain side _ _ (one_stretch c a) zero = c
each_chain side _ _ (one_stretch {level = rows} {chains = chains} c a) (suc node) = each_chain side rows chains a node

out_of : (level : Level) (node : ℕ) → length level ≤ node → stretch_of level node ≡ []
out_of [] node le = refl
out_of (rows ∷ level) zero le = absurd (omega (arith, le))
out_of (rows ∷ level) (suc node) le = out_of level node (omega (arith, le))

-- what a stretch beyond the last has
pub beyond : {X : Type 0} (side : Side) (bound : ℕ) (rows : Level) (items : List (Vec Handler X)) (node : ℕ)
    → AreChainsOfLevel side rows (map (λ r. r.items) items) → length items ≤ node → None ≡ find (is_below side bound) (stretch_of rows node)
beyond side bound rows items node a le =
    let c = each_chain side rows (map (λ r. r.items) items) a node in
    let long : length (map (λ r. r.items) items) ≤ node = simp length-map le in
    sym (ap (find (is_below side bound)) (out_of (map (λ r. r.items) items) node long)) ∙ c.first bound

pub within : {X : Type 0} (side : Side) (bound : ℕ) (rows : Level) (items : List (Vec Handler X)) (node : ℕ) (chain : Vec Handler X) (o : Option Handler)
    → AreChainsOfLevel side rows (map (λ r. r.items) items) → node < length items → chain ≡ get_or items node chain
    → (Falls side chain.items → o ≡ find (is_below side bound) chain.items) → o ≡ find (is_below side bound) (stretch_of rows node)
within side bound rows items node chain o a lt is f =
    let c = each_chain side rows (map (λ r. r.items) items) a node in
    let same : stretch_of (map (λ r. r.items) items) node ≡ chain.items = get_or-map (λ r. r.items) items node chain [] lt ∙ ap (λ r. r.items) (sym is) in
    f (subst (Falls side) same c.falls) ∙ (ap (find (is_below side bound)) (sym same) ∙ c.first bound)

-- up the levels
pub up_none : (side : Side) (bound : ℕ) (rows : List Level) (node : ℕ) → AreChains side rows [] → None ≡ first_up side bound rows node
up_none side bound _ node no_level = refl

pub up_more : (side : Side) (bound : ℕ) (rows : List Level) (chains : Level) (above : List Level) (node : ℕ) (o p q : Option Handler)
    → AreChains side rows (chains ∷ above)
    → ((rows : Level) → AreChainsOfLevel side rows chains → o ≡ find (is_below side bound) (stretch_of rows node))
    → ((levels : List Level) → AreChains side levels above → p ≡ first_up side bound levels (node / 2))
    → q ≡ sooner o p → q ≡ first_up side bound rows node
up_more side bound _ chains above node o p q (one_level {rows = rows} {levels = levels} c a) first later e =
    e ∙ (ap (λ x. sooner x p) (first rows c) ∙ ap (sooner (find (is_below side bound) (stretch_of rows node))) (later levels a))
