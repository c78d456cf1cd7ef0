-- Blocks are loaded one after the other.
use Rattle.std.proofs.Common.{◌≡◌, ◌<◌, ℕ, List, [], ◌∷◌, ◌++◌, length, ◌+◌, take, drop, get_or, sym, ap, ◌∙◌, subst, arith}
use Rattle.pt_tree.specs.Syntax.{Name}
use Rattle.pt_code.specs.declared.CodeBlock.{CodeBlock}
use Rattle.pt_code.specs.declared.Code.{Code}
use Rattle.pt_code_tables.specs.pt_machine_state.pt_code_facts.declared.facts.BlockFacts.{BlockFacts}
use Rattle.pt_code_tables.specs.pt_machine_state.pt_code_facts.Facts as facts
use Rattle.pt_code_tables.specs.pt_machine_state.declared.blocks.BlockCode.{BlockCode}
use Rattle.pt_code_loader.specs.Loaded.{IsLoaded, AreLoaded}
use Rattle.pt_code_loader.proofs.TextLemmas.{one_taken}

pub none_loaded : (c : Code) → AreLoaded c [] []
none_loaded c = tt

pub one_more : (c : Code) (bs : List CodeBlock) (ks : List BlockCode) (b : CodeBlock) (k : BlockCode) → AreLoaded c bs ks → IsLoaded c b k
    → AreLoaded c (bs ++ b ∷ []) (ks ++ k ∷ [])
one_more c [] [] b k h i = (i, tt)
one_more c [] (x ∷ ks) b k h i = absurd h
one_more c (x ∷ bs) [] b k h i = absurd h
one_more c (x ∷ bs) (y ∷ ks) b k h i = (h.0, one_more c bs ks b k h.1 i)

pub one_more_taken : (c : Code) (bs : List CodeBlock) (i : ℕ) (b : CodeBlock) (old : List BlockCode) (k : BlockCode) (new : List BlockCode) → i < length bs
    → b ≡ get_or bs i b → AreLoaded c (take i bs) old → IsLoaded c b k → new ≡ old ++ k ∷ [] → AreLoaded c (take (i + 1) bs) new
one_more_taken c bs i b old k new l e h is f =
    subst (λ xs. AreLoaded c xs new) (sym (one_taken bs i b l e))
    (subst (AreLoaded c (take i bs ++ b ∷ [])) (sym f) (one_more c (take i bs) old b k h is))

pub first_and_others : (c : Code) (bs : List CodeBlock) (b : CodeBlock) (k : BlockCode) (ks : List BlockCode) → 0 < length bs → IsLoaded c (get_or bs 0 b) k
    → AreLoaded c (drop 1 bs) ks → AreLoaded c bs (k ∷ ks)
first_and_others c [] b k ks h i rest = absurd (omega (arith, h))
first_and_others c (x ∷ bs) b k ks h i rest = (i, rest)

pub first_facts_and_others : (texts : List Name) (bs : List CodeBlock) (b : CodeBlock) (f : BlockFacts) (fs : List BlockFacts) → 0 < length bs
    → f ≡ facts.facts_of texts (get_or bs 0 b) → fs ≡ facts.blocks_of texts (drop 1 bs) → f ∷ fs ≡ facts.blocks_of texts bs
first_facts_and_others texts [] b f fs h i rest = absurd (omega (arith, h))
first_facts_and_others texts (x ∷ bs) b f fs h i rest = ap (λ g. g ∷ fs) i ∙ ap (λ gs. facts.facts_of texts x ∷ gs) rest
