-- What is given where two slots are swapped.
use Rattle.std.proofs.Common.{◌≡◌, ℕ, Bool, true, false, if◌then◌else◌, [], ◌∷◌, length, Some, None, refl, sym, ap, ◌∙◌}
use Rattle.std.proofs.lemmas.Bool.{false≢true}
use Rattle.std.proofs.lemmas.Option.{same_Some}
use Rattle.pt_instr.specs.declared.Instr.{Instr}
use Rattle.pt_instr.specs.declared.Instr.TheVariants as instr
use Rattle.pt_instr.specs.declared.effects.Effect.{Effect}
use Rattle.pt_instr.specs.declared.kinds.Kind.TheVariants as kind
use Rattle.pt_instr.specs.Effects.{Kinds, effect_of}
use Rattle.sem_fits.specs.fits.Steps.{taken, swapped, given_behind}

abbrev behind : Bool → (taken given : Kinds) → Kinds
behind t ts given = if t then swapped ts given else given

-- nothing else is swapped
pub given_plain : (e : Effect) (ks given : Kinds) → e.swaps ≡ false → given_behind e ks given ≡ given
given_plain e ks given n = ap (λ t. behind t (taken e ks) given) n

pub given_lifted : (e : Effect) (ks given : Kinds) → e.swaps ≡ true → taken e ks ≡ kind.Iter ∷ kind.Value ∷ []
    → given_behind e ks given ≡ kind.Value ∷ kind.Iter ∷ []
given_lifted e ks given s t = ap (λ t. behind t (taken e ks) given) s ∙ ap (λ ts. swapped ts given) t

-- of kinds that are taken what is given is as the row says
pub given_found : (j : Instr) (f : ℕ) (ks given : Kinds) → taken (effect_of j f) ks ≡ (effect_of j f).takes
    → (effect_of j f).gives ≡ Some given → given_behind (effect_of j f) ks given ≡ given
unfolding effect_of
given_found instr.Swap f ks given t g = ap (λ ts. swapped ts given) t
    ∙ same_Some (kind.Value ∷ kind.Value ∷ []) given g
given_found j f ks given t g = refl

pub swap_takes : (j : Instr) (f : ℕ) → (effect_of j f).swaps ≡ true
    → (effect_of j f).takes ≡ kind.Value ∷ kind.Value ∷ []
unfolding effect_of
swap_takes instr.Swap f e = refl
swap_takes j f e = absurd (false≢true e)

swap_gives_two : (j : Instr) (f : ℕ) (given : Kinds) → (effect_of j f).swaps ≡ true → (effect_of j f).gives ≡ Some given
    → length given ≡ 2
unfolding effect_of
swap_gives_two instr.Swap f given e g = sym (ap (λ o. elim o [ None ↦ 2 | Some ks ↦ length ks ]) g)
swap_gives_two j f given e g = absurd (false≢true e)

swapped_size : (ts given : Kinds) → length given ≡ 2 → length (swapped ts given) ≡ length given
swapped_size [] given e = refl
swapped_size (k ∷ []) given e = refl
swapped_size (k ∷ l ∷ []) given e = sym e
swapped_size (k ∷ l ∷ m ∷ ts) given e = refl

-- as many are given, whatever their kinds
pub given_size : (j : Instr) (f : ℕ) (ks given : Kinds) → (effect_of j f).gives ≡ Some given
    → length (given_behind (effect_of j f) ks given) ≡ length given
given_size j f ks given g = by (effect_of j f).swaps refl
  where
    by : (t : Bool) → (effect_of j f).swaps ≡ t → length (given_behind (effect_of j f) ks given) ≡ length given
    by true y = ap (λ t. length (behind t (taken (effect_of j f) ks) given)) y
        ∙ swapped_size (taken (effect_of j f) ks) given (swap_gives_two j f given y g)
    by false n = ap (λ t. length (behind t (taken (effect_of j f) ks) given)) n
