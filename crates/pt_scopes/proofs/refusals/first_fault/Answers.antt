use Rattle.std.proofs.Common.{◌≡◌, ℕ, false, is_some, ◌∷◌, ◌++◌, ◌+◌, [], List, None, ap, refl, sym, take, drop, ◌∙◌, arith}
use Rattle.std.proofs.lemmas.Grind.{common_steps}
use Rattle.pt_scopes.specs.declared.region.Earlier.{Earlier}
use Rattle.pt_scopes.specs.declared.region.Mention.{Mention}
use Rattle.pt_scopes.specs.Refusals.{earlier, fault, fault_at, first_fault, is_offered}
use Rattle.pt_scopes.specs.Tables.{earlier_in, facts_in, seen}
use Rattle.pt_scopes.proofs.SeenLemmas.{earlier-more, first_fault-further, none-there}
use Rattle.pt_scopes.proofs.refusals.first_fault.Goals as goal

pub loop-m-init : goal.loop-m-init
loop-m-init c = record { known = λ x r. c.new-seen.ensures x r c.args.table.now.regions (facts_in c.args.table.now.names); left = refl }

pub loop-m-preserved : goal.loop-m-preserved
loop-m-preserved c =
    let m = c.m-item.result in
    let rs = c.args.table.now.regions in
    let look = facts_in c.args.table.now.names in
    let ms = c.args.mentions.now in
    let i = c.loop-m.m-index in
    let cut : take (i + 1) ms ≡ take i ms ++ m ∷ [] = grind (arith, common_steps) in
    let rest : drop i ms ≡ m ∷ drop (i + 1) ms = grind (arith, common_steps) in
    let said : c.earlier-earlier.result ≡ earlier rs look (take i ms) m.name m.region =
    c.earlier-earlier.ensures ∙ ap (λ (n : List ℕ). earlier_in c.loop-m.seen n m.region) c.as_str.ensures ∙ c.loop-m.invariant.known m.name m.region in
    let off : is_some c.in_ok-found.found ≡ false = cc in
    let none : c.in_ok-found.found ≡ None = none-there c.in_ok-found.found off in
    let sound : fault_at rs look (take i ms) m ≡ None = ap (λ (e : Earlier). fault (is_offered rs (look m.name) m.region) e m m.role) (sym said) ∙ sym c.in_ok-found.ensures ∙ none in
    record {
      known = λ x r.
          c.in_ok-note.ensures x r
          ∙ ap (λ (e : Earlier). seen rs look m.role m x r e) (c.loop-m.invariant.known x r)
          ∙ sym (earlier-more rs look (take i ms) m x r)
          ∙ ap (λ (ts : List Mention). earlier rs look ts x r) (sym cut);
      left =
          ap (λ (ts : List Mention). first_fault rs look ts (drop (i + 1) ms)) cut
          ∙ sym (first_fault-further rs look (take i ms) m (drop (i + 1) ms) sound)
          ∙ ap (λ (ts : List Mention). first_fault rs look (take i ms) ts) (sym rest)
          ∙ c.loop-m.invariant.left;
    }
