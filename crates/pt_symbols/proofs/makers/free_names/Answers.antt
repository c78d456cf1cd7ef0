use Rattle.std.proofs.Common.{◌≡◌, ◌∷◌, ◌++◌, ◌+◌, [], List, ap, sym, take, filter, map, ◌∙◌, arith, if◌then◌else◌, ℕ}
use Rattle.std.proofs.lemmas.Grind.{common_steps}
use Rattle.sem_names.specs.BlockNames.{distinct, with_name}
use Rattle.sem_names.specs.Naming.{is_free_at}
use Rattle.pt_scopes.specs.declared.region.Mention.{Mention}
use Rattle.pt_symbols.proofs.TableLemmas.{free_more}
use Rattle.pt_symbols.proofs.makers.free_names.Goals as goal

pub loop-m-preserved : goal.loop-m-preserved
loop-m-preserved c = λ r.
    let m = c.m-item.result in
    let g = c.args.places.now in
    let ms = c.mentions-mentions.result.now in
    let i = c.loop-m.m-index in
    let cut : take (i + 1) ms ≡ take i ms ++ m ∷ [] = grind (arith, common_steps) in
    c.in_ok-note_free.ensures r
    ∙ ap (λ (ys : List (List ℕ)). if is_free_at g r m then with_name ys m.name else ys) (c.loop-m.invariant r)
    ∙ sym (free_more (is_free_at g r) (take i ms) m)
    ∙ ap (λ (ts : List Mention). distinct (map (λ (k : Mention). k.name) (filter (is_free_at g r) ts))) (sym cut)
