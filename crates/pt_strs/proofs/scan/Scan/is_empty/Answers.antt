use Rattle.std.proofs.Common.{◌≡◌, ◌∙◌, Bool, ◌==◌, IsTrue, [], ℕ, List, ◌∷◌, length, sym, ap, suc, arith}
use Rattle.std.proofs.lemmas.Bool.{eqb-true}
use Rattle.std.specs.Str.{chars, IsUtf8}
use Rattle.std.proofs.lemmas.Str.{chars-nil, encodes-chars}
use lib.Utf8.{encodes}
use Rattle.pt_strs.proofs.scan.Scan.is_empty.Goals as goal

by : (bs now : List ℕ) (b : Bool) → IsUtf8 bs → chars bs ≡ now → b ≡ (length bs == 0) → (IsTrue b → now ≡ []) × (now ≡ [] → IsTrue b)
by [] now b u v e = (λ t. sym v ∙ chars-nil, λ t. e)
by (c ∷ cs) now b u v e =
    (λ t. absurd (omega (arith, eqb-true (suc (length cs)) 0 (sym e ∙ t))), λ t. absurd (let no : c ∷ cs ≡ [] = sym (encodes-chars (c ∷ cs) u) ∙ ap encodes (v ∙ t) in cc))

pub returns : goal.returns
returns c = by c.self.inside.rest.now c.args.self.now c.is_empty.result c.self.invariant c.self.view_is c.is_empty.ensures
