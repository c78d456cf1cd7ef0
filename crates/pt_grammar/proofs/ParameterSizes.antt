-- How each parameter changes the depth, the width and the number of parameters.
use Rattle.std.proofs.Common.{◌≡◌, ℕ, ◌+◌, max, ◌≤◌, Bool, true, List, Option, Some, None, refl, ap, arith}
use Rattle.pt_wide.specs.Measure.{depth_params, depth_opt, depth_formals, width_opt, width_formals, count_params, count_formals, count_named}
use Rattle.pt_grammar.specs.Grammar.{MoreParameters, parameters_end, parameters_comma, more_parameters}
use Rattle.pt_grammar.specs.Lexemes.{Lexeme}
use Rattle.pt_grammar.specs.Nodes.{Formal, formals_of, OneParameter, formal, slash, bare_star, star, double_star, Stage, plain, defaulted, keyword_only, over, Gathered, no_parameters, gathered, with_formal, is_allowed, allows_formal, allows_star, allows_double_star, allows_slash, params_of}
use Rattle.pt_grammar.specs.Parts.{FitsParams}
use Rattle.pt_grammar.proofs.Gathering.{depth_formals_snoc, width_formals_snoc, count_formals_snoc}
use Rattle.pt_grammar.specs.ParameterSteps.{Sound, Held}

abbrev pub number : Gathered → ℕ
number g = count_params (params_of g)

-- whether it is one of those that are counted
abbrev pub counted : OneParameter → ℕ
counted (formal f) = 1
counted (slash l) = 0
counted bare_star = 0
counted (star p) = 1
counted (double_star p) = 1

abbrev pub depth_one : OneParameter → ℕ
depth_one (formal f) = max (depth_opt f.annotation) (depth_opt f.default)
depth_one _ = 0

abbrev pub width_one : OneParameter → ℕ
width_one (formal f) = max (width_opt f.annotation) (width_opt f.default)
width_one _ = 0

-- the width of what stands in the parameters
abbrev pub inner : Gathered → ℕ
inner g = max (width_formals (formals_of g.positional_only)) (max (width_formals (formals_of g.positional)) (width_formals (formals_of g.keyword_only)))

pub record Sizes (g : Gathered) (n d w : ℕ) (h : Gathered) : Type 0 where
  pub number_is : number h ≡ number g + n
  pub depth_is : depth_params (params_of h) ≡ max (depth_params (params_of g)) d
  pub inner_is : inner h ≡ max (inner g) w

formal_sizes : (s : Stage) (g : Gathered) (f : Formal) → Sizes g 1 (depth_one (formal f)) (width_one (formal f)) (with_formal s g f)
formal_sizes keyword_only g f = record {
  number_is = omega (arith, count_formals_snoc g.keyword_only f);
  depth_is = omega (arith, depth_formals_snoc g.keyword_only f);
  inner_is = omega (arith, width_formals_snoc g.keyword_only f);
}
formal_sizes s g f = record {
  number_is = omega (arith, count_formals_snoc g.positional f);
  depth_is = omega (arith, depth_formals_snoc g.positional f);
  inner_is = omega (arith, width_formals_snoc g.positional f);
}

slash_once : (s : Stage) (o : Option ℕ) (fs : List Formal) → allows_slash s o fs ≡ true → o ≡ None
slash_once s None fs h = cc
slash_once s (Some l) fs h = cc

pub sizes : (g : Gathered) (p : OneParameter) → Sound g → is_allowed g p ≡ true → Sizes g (counted p) (depth_one p) (width_one p) (gathered g p)
sizes g (formal f) sound h = formal_sizes g.stage g f
sizes g (slash l) sound h = let e = sound.no_slash (slash_once g.stage g.slash g.positional h) in record {
  number_is = omega (arith, ap (λ fs. count_formals (formals_of fs)) e);
  depth_is = omega (arith, ap (λ fs. depth_formals (formals_of fs)) e);
  inner_is = omega (arith, ap (λ fs. width_formals (formals_of fs)) e);
}
sizes g bare_star sound h = record { number_is = omega arith; depth_is = omega arith; inner_is = omega arith }
sizes g (star p) sound h = record { number_is = omega (arith, ap count_named (sound.no_star h)); depth_is = omega arith; inner_is = omega arith }
sizes g (double_star p) sound h = record { number_is = omega (arith, ap count_named (sound.no_double_star h)); depth_is = omega arith; inner_is = omega arith }

-- `**` comes where `*` may
star_first : (s : Stage) → allows_star s ≡ true → allows_double_star s ≡ true
star_first plain h = refl
star_first defaulted h = refl
star_first keyword_only h = cc
star_first over h = cc

formal_sound : (s : Stage) (g : Gathered) (f : Formal) → g.stage ≡ s → Sound g → allows_formal s f ≡ true → Sound (with_formal s g f)
formal_sound plain g f e sound a = record { no_slash = sound.no_slash; no_star = λ k. sound.no_star (ap allows_star e); no_double_star = λ k. sound.no_double_star (ap allows_double_star e) }
formal_sound defaulted g f e sound a = record { no_slash = sound.no_slash; no_star = λ k. sound.no_star (ap allows_star e); no_double_star = λ k. sound.no_double_star (ap allows_double_star e) }
formal_sound keyword_only g f e sound a = record { no_slash = sound.no_slash; no_star = λ k. absurd (cc); no_double_star = λ k. sound.no_double_star (ap allows_double_star e) }
formal_sound over g f e sound a = absurd (cc)

pub sound_more : (g : Gathered) (p : OneParameter) → Sound g → is_allowed g p ≡ true → Sound (gathered g p)
sound_more g (formal f) sound h = formal_sound g.stage g f refl sound h
sound_more g (slash l) sound h = record { no_slash = λ k. absurd (cc); no_star = sound.no_star; no_double_star = sound.no_double_star }
sound_more g bare_star sound h = record { no_slash = sound.no_slash; no_star = λ k. absurd (cc); no_double_star = λ k. sound.no_double_star (star_first g.stage h) }
sound_more g (star p) sound h = record { no_slash = sound.no_slash; no_star = λ k. absurd (cc); no_double_star = λ k. sound.no_double_star (star_first g.stage h) }
sound_more g (double_star p) sound h = record { no_slash = sound.no_slash; no_star = λ k. absurd (cc); no_double_star = λ k. absurd (cc) }

pub none_held : (d : ℕ) → Held d no_parameters
none_held d = record { sound = record { no_slash = λ e. refl; no_star = λ e. refl; no_double_star = λ e. refl }; fits = (omega arith, omega arith) }

-- one more within the limits
pub held_more : (d : ℕ) (g : Gathered) (p : OneParameter) → Held d g → is_allowed g p ≡ true → number g + counted p ≤ 4096 → depth_one p ≤ d → width_one p ≤ 4096 → Held d (gathered g p)
held_more d g p held h n k w =
    let s = sizes g p held.sound h in record {
      sound = sound_more g p held.sound h;
      fits = (omega (arith, s.depth_is, held.fits.0), omega (arith, s.number_is, s.inner_is, held.fits.1));
    }

pub fits_one : (d : ℕ) (g : Gathered) (p : OneParameter) → Sound g → is_allowed g p ≡ true → FitsParams d (params_of (gathered g p)) → (number g + counted p ≤ 4096) × (depth_one p ≤ d) × (width_one p ≤ 4096)
fits_one d g p sound h f = let s = sizes g p sound h in (omega (arith, s.number_is, f.1), omega (arith, s.depth_is, f.0), omega (arith, s.inner_is, f.1))

fewer : (d : ℕ) (g : Gathered) (p : OneParameter) → Sound g → is_allowed g p ≡ true → FitsParams d (params_of (gathered g p)) → FitsParams d (params_of g)
fewer d g p sound h f = let s = sizes g p sound h in (omega (arith, s.depth_is, f.0), omega (arith, s.number_is, s.inner_is, f.1))

-- what is read behind them is within the limits only where they are
pub shrinks : {b : Bool} (d : ℕ) {g h : Gathered} {ts rest : List Lexeme} → Sound g → MoreParameters b g ts h rest → FitsParams d (params_of h) → FitsParams d (params_of g)
shrinks d sound parameters_end f = f
shrinks d sound parameters_comma f = f
shrinks d {g} sound (more_parameters {p = p} q a k) f = fewer d g p sound q (shrinks d (sound_more g p sound q) k f)
