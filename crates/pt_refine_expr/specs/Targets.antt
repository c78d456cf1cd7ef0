-- What may stand in a target's place of the wide grammar, and where a star may (Language Reference 7.2).
use Rattle.std.specs.Prelude.{ℕ, Bool, true, false, ◌&&◌}
use Rattle.pt_wide.specs.declared.expression.Comprehension.{Comprehension}
use Rattle.pt_wide.specs.declared.expression.Comprehension.TheVariants as form
use Rattle.pt_refine_expr.specs.declared.stars.Stars.{Stars}
use Rattle.pt_refine_expr.specs.declared.stars.Stars.TheVariants.{Never, Inside, Here}
use Rattle.pt_wide.specs.Syntax as W
use Rattle.pt_wide.specs.Syntax.{Exp, Exps}

-- where stars may stand in what stands at this place alone: behind a star, in parentheses
abbrev pub alone : Stars → Stars
alone Never = Never
alone Inside = Inside
alone Here = Inside

-- among the items of a tuple or list that stands at this place
abbrev pub opened : Stars → Stars
opened Never = Never
opened Inside = Here
opened Here = Here

-- behind an item of a list: a list of targets has one star at most
abbrev pub behind_item : Stars → Exp → Stars
behind_item s (W.starred l e) = alone s
behind_item s e = s

-- whether brackets of a comprehension are its own
abbrev pub is_bracketed : Comprehension → Bool
is_bracketed form.List = true
is_bracketed form.Set = true
is_bracketed form.Generator = false

-- an operand of a comparison or of what binds closer, which is the last production of a target
abbrev pub is_operand : Exp → Bool
is_operand (W.constant l k) = true
is_operand (W.name l x) = true
is_operand (W.joined l ps) = true
is_operand (W.parenthesized l e) = true
is_operand (W.starred l e) = false
is_operand (W.tuple l es) = false
is_operand (W.list l es) = true
is_operand (W.set l es) = true
is_operand (W.dict l es) = true
is_operand (W.attribute l a x) = true
is_operand (W.item l a i) = true
is_operand (W.slice l a b c) = false
is_operand (W.unary l o a) = true
is_operand (W.not_of l a) = false
is_operand (W.binary l o a b) = true
is_operand (W.compare l a o b r) = false
is_operand (W.and l a es) = false
is_operand (W.or l a es) = false
is_operand (W.conditional l c a b) = false
is_operand (W.call l f args) = true
is_operand (W.lambda l ps e) = false
is_operand (W.comprehension l form e cs) = is_bracketed form
is_operand (W.dict_comprehension l g cs) = true
is_operand (W.yield l v) = false
is_operand (W.yield_from l e) = false

abbrev pub is_item : Exp → Bool
is_item (W.starred l e) = is_operand e
is_item e = is_operand e

abbrev pub are_items : Exps → Bool
are_items W.no_exps = true
are_items (W.more_exps e es) = is_item e && are_items es

-- Whether brackets hold targets of the wide grammar, one at least. Where they don't, they are an expression as a whole.
abbrev pub are_targets : Exps → Bool
are_targets W.no_exps = false
are_targets (W.more_exps e es) = is_item e && are_items es

abbrev pub is_inside_target : Exp → Bool
is_inside_target (W.tuple l es) = are_targets es
is_inside_target e = is_item e

abbrev pub exp_line : Exp → ℕ
exp_line (W.constant l k) = l
exp_line (W.name l x) = l
exp_line (W.joined l ps) = l
exp_line (W.parenthesized l e) = l
exp_line (W.starred l e) = l
exp_line (W.tuple l es) = l
exp_line (W.list l es) = l
exp_line (W.set l es) = l
exp_line (W.dict l es) = l
exp_line (W.attribute l a x) = l
exp_line (W.item l a i) = l
exp_line (W.slice l a b c) = l
exp_line (W.unary l o a) = l
exp_line (W.not_of l a) = l
exp_line (W.binary l o a b) = l
exp_line (W.compare l a o b r) = l
exp_line (W.and l a es) = l
exp_line (W.or l a es) = l
exp_line (W.conditional l c a b) = l
exp_line (W.call l f args) = l
exp_line (W.lambda l ps e) = l
exp_line (W.comprehension l form e cs) = l
exp_line (W.dict_comprehension l g cs) = l
exp_line (W.yield l v) = l
exp_line (W.yield_from l e) = l
