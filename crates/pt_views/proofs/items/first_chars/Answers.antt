use Rattle.std.proofs.Common.{◌≡◌, ◌∙◌, ◌+◌, ◌-◌, ◌++◌, ◌<◌, ℕ, suc, List, [], ◌∷◌, map, take, sym, ap, arith, append_assoc}
use Rattle.pt_views.specs.declared.items.Item.{Item}
use Rattle.pt_views.specs.declared.items.Item.TheVariants.{Char}
use Rattle.pt_views.proofs.items.first_chars.Goals as goal

taken-more : (n i : ℕ) (items new : List Item) (left rest : List ℕ) (x : ℕ) → i < n → left ≡ x ∷ rest → new ≡ items ++ Char x ∷ []
    → new ++ map (λ c. Char c) (take (n - (i + 1)) rest) ≡ items ++ map (λ c. Char c) (take (n - i) left)
taken-more n i items new left rest x h e w =
    let more : n - i ≡ suc (n - (i + 1)) = omega (arith, h) in
    let behind : List Item = map (λ c. Char c) (take (n - (i + 1)) rest) in
    let step : take (n - i) left ≡ x ∷ take (n - (i + 1)) rest = ap (λ l. take (n - i) l) e ∙ ap (λ k. take k (x ∷ rest)) more in
    ap (λ l. l ++ behind) w ∙ append_assoc items (Char x ∷ []) behind ∙ ap (λ (l : List ℕ). items ++ map (λ c. Char c) l) (sym step)

pub loop-taken-preserved : goal.loop-taken-preserved
loop-taken-preserved c =
    taken-more c.args.most c.loop-taken._taken c.loop-taken.items c.push.new.self c.loop-taken.left c.next.new.self c.in-Some.c
    (omega (arith, c.loop-taken-test.true)) c.in-Some.ensures c.in_ok-push-in-Some.ensures.ok
    ∙ c.loop-taken.invariant
