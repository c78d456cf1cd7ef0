-- Parameters, and how each one more changes their depth and their number.
use Rattle.std.proofs.Common.{◌≡◌, ◌≢◌, ℕ, ◌+◌, max, Bool, false, List, [], ◌∷◌, ◌++◌, Option, Some, None, map, option_map, length, refl, sym, ◌∙◌, ap, arith}
use Rattle.std.specs.Option.{is_some}
use Rattle.pt_base.specs.declared.numbers.Line.{Line}
use Rattle.pt_tree.specs.Fold.{chained}
use Rattle.pt_wide.specs.declared.expression.WideParameter.{WideParameter}
use Rattle.pt_wide.specs.declared.expression.WideParameters.{WideParameters, out-WideParameters}
use Rattle.pt_wide.specs.Syntax as S
use Rattle.pt_wide.specs.Fold.{formal_of, parameters_of, line_of}
use Rattle.pt_wide.specs.Measure.{depth_params, depth_opt, depth_formals, width_opt, width_formals, count_formals}
use Rattle.pt_wide.proofs.Folds.{formal_of-parts, parameters_of-parts}
use Rattle.pt_grammar.specs.declared.deep.Parameters.{Parameters}
use Rattle.pt_grammar.specs.Nodes.{Formal, formals_of, Stage, plain, defaulted, keyword_only, over, Gathered, with_formal, has_default, allows_slash, allows_star, params_of}
use Rattle.pt_grammar.specs.Views.{formal_in, formals_in}
use Rattle.pt_grammar.specs.ReadViews.{gathered_read, stage_read}
use Rattle.pt_grammar.specs.ParameterViews.{tree_read, after, and_formal}

pub formals_same : (ps : List WideParameter) → chained S.no_formals (map formal_of ps) ≡ formals_of (formals_in ps)
formals_same [] = refl
formals_same (p ∷ ps) = formal_of-parts p _ ∙ ap (λ r. S.formal (formal_in p).line (formal_in p).name (formal_in p).annotation (formal_in p).default r) (formals_same ps)

line_same : (o : Option Line) → line_of o ≡ option_map (λ l. l.0) o
line_same None = refl
line_same (Some l) = refl

pub tree_same : (s : Stage) (t : WideParameters) → parameters_of t ≡ params_of (tree_read s t)
tree_same s t =
    let a = formals_same (out-WideParameters t).positional_only in
    let b = formals_same (out-WideParameters t).positional in
    let c = formals_same (out-WideParameters t).keyword_only in
    let l = line_same (out-WideParameters t).slash in
    parameters_of-parts t ∙ cc

pub parameters_same : (ps : Parameters) → parameters_of ps.tree ≡ params_of (gathered_read ps)
parameters_same ps = tree_same (stage_read ps.stage) ps.tree

pub exact_of : (s : Stage) (t : WideParameters) (d : ℕ) → d ≡ depth_params (params_of (tree_read s t)) → d ≡ depth_params (parameters_of t)
exact_of s t d e = e ∙ sym (ap depth_params (tree_same s t))

pub depth_formals_snoc : (fs : List Formal) (f : Formal) → depth_formals (formals_of (fs ++ (f ∷ []))) ≡ max (depth_formals (formals_of fs)) (max (depth_opt f.annotation) (depth_opt f.default))
depth_formals_snoc [] f = omega arith
depth_formals_snoc (g ∷ fs) f = omega (arith, depth_formals_snoc fs f)

pub width_formals_snoc : (fs : List Formal) (f : Formal) → width_formals (formals_of (fs ++ (f ∷ []))) ≡ max (width_formals (formals_of fs)) (max (width_opt f.annotation) (width_opt f.default))
width_formals_snoc [] f = omega arith
width_formals_snoc (g ∷ fs) f = omega (arith, width_formals_snoc fs f)

pub count_formals_snoc : (fs : List Formal) (f : Formal) → count_formals (formals_of (fs ++ (f ∷ []))) ≡ count_formals (formals_of fs) + 1
count_formals_snoc [] f = omega arith
count_formals_snoc (g ∷ fs) f = omega (arith, count_formals_snoc fs f)

pub count_length : (ps : List WideParameter) → count_formals (formals_of (formals_in ps)) ≡ length ps
count_length [] = refl
count_length (p ∷ ps) = omega (arith, count_length ps)

and_depth : (s : Stage) (g : Gathered) (f : Formal) → depth_params (params_of (and_formal s g f)) ≡ max (depth_params (params_of g)) (max (depth_opt f.annotation) (depth_opt f.default))
and_depth keyword_only g f = omega (arith, depth_formals_snoc g.keyword_only f)
and_depth s g f = omega (arith, depth_formals_snoc g.positional f)

-- how deep they are with one more
pub formal_exact : (ps : Parameters) (t : WideParameters) (s : Stage) (f : Formal) → ((r : Stage) → tree_read r t ≡ and_formal s (tree_read r ps.tree) f) → (d : ℕ)
    → d ≡ max ps.depth (max (depth_opt f.annotation) (depth_opt f.default)) → d ≡ depth_params (parameters_of t)
formal_exact ps t s f e d h =
    let k : ps.depth ≡ depth_params (params_of (tree_read plain ps.tree)) = ps.exact ∙ ap depth_params (tree_same plain ps.tree) in
    let m : depth_params (params_of (tree_read plain t)) ≡ depth_params (params_of (and_formal s (tree_read plain ps.tree) f)) = ap (λ g. depth_params (params_of g)) (e plain) in
    exact_of plain t d (omega (arith, h, k, m, and_depth s (tree_read plain ps.tree) f))

with_formal_is : (s : Stage) (t : WideParameters) (f : Formal) → and_formal s (tree_read (after s (has_default f)) t) f ≡ with_formal s (tree_read s t) f
with_formal_is plain t f = refl
with_formal_is defaulted t f = refl
with_formal_is keyword_only t f = refl
with_formal_is over t f = refl

pub formal_gathered : (ps : Parameters) (t : WideParameters) (r : Stage) (b : Bool) (f h : Formal) → ((r : Stage) → tree_read r t ≡ and_formal (stage_read ps.stage) (tree_read r ps.tree) f)
    → r ≡ after (stage_read ps.stage) b → b ≡ has_default h → f ≡ h → tree_read r t ≡ with_formal (stage_read ps.stage) (gathered_read ps) h
formal_gathered ps t r b f h e k i j =
    e r
    ∙ ap (λ (v : Stage). and_formal (stage_read ps.stage) (tree_read v ps.tree) f) (k ∙ ap (after (stage_read ps.stage)) i)
    ∙ ap (λ (v : Formal). and_formal (stage_read ps.stage) (tree_read (after (stage_read ps.stage) (has_default h)) ps.tree) v) j
    ∙ with_formal_is (stage_read ps.stage) ps.tree h

pub slash_allowed : (s : Stage) (o : Option Line) (ps : List WideParameter) → is_some o ≡ false → ps ≢ [] → allows_slash s (option_map (λ l. l.0) o) (formals_in ps) ≡ allows_star s
slash_allowed s (Some l) ps e n = cc
slash_allowed s None [] e n = absurd (n refl)
slash_allowed s None (p ∷ ps) e n = refl
