-- The ways on of an instruction, part by part.
use Rattle.std.proofs.Common.{◌≡◌, ℕ, true, List, [], ◌++◌, Option, sym, ap, ◌∙◌, if◌then◌else◌, append_assoc}
use Rattle.pt_instr.specs.declared.effects.Effect.{Effect}
use Rattle.pt_verify_depths.specs.Sizes.{SizeStep, is_enough, gives_onward, gives_aside, gives_again}
use Rattle.pt_single_sizes.specs.Single.{own_steps}

pub own_parts : (old : List SizeStep) (e : Effect) (n pc next : ℕ) (t : Option ℕ) → is_enough e n ≡ true
    → ((old ++ gives_onward e n next e.gives) ++ gives_aside e n t e.aside) ++ gives_again e n pc ≡ old ++ own_steps e n pc next t
own_parts old e n pc next t enough =
    append_assoc (old ++ gives_onward e n next e.gives) (gives_aside e n t e.aside) (gives_again e n pc)
    ∙ (append_assoc old (gives_onward e n next e.gives) (gives_aside e n t e.aside ++ gives_again e n pc)
    ∙ ap (λ u. old ++ (if u then gives_onward e n next e.gives ++ (gives_aside e n t e.aside ++ gives_again e n pc) else [])) (sym enough))
