-- Arguments, and names among expressions.
use Rattle.std.proofs.Common.{◌≡◌, ◌≢◌, ℕ, max, List, [], ◌∷◌, ◌++◌, map, refl, sym, ◌∙◌, ap, subst, arith}
use Rattle.pt_tree.specs.Fold.{chained}
use Rattle.pt_wide.specs.declared.expression.WideArgument.{WideArgument, out-WideArgument}
use Rattle.pt_wide.specs.declared.expression.WideArgument.TheOpen as layer
use Rattle.pt_wide.specs.declared.expression.WideEntry.{WideEntry}
use Rattle.pt_wide.specs.declared.expression.WideNode.{WideNode}
use Rattle.pt_wide.specs.declared.expression.WideNode as wide
use Rattle.pt_wide.specs.declared.expression.WideNode.TheVariants as node
use Rattle.pt_wide.specs.declared.expression.WidePiece.{WidePiece}
use Rattle.pt_wide.specs.declared.expression.WideClause.{WideClause}
use Rattle.pt_wide.specs.declared.expression.WideComparison.{WideComparison}
use Rattle.pt_wide.specs.declared.expression.WideExpr.{WideExpr}
use Rattle.pt_wide.specs.declared.expression.WideParameter.{WideParameter}
use Rattle.pt_wide.specs.declared.expression.WideParameters.{WideParameters}
use Rattle.pt_wide.specs.Syntax as S
use Rattle.pt_wide.specs.Syntax.{Exp, Args}
use Rattle.pt_wide.specs.Fold.{exp_of, argument_of, expression_plain}
use Rattle.pt_wide.specs.Measure.{depth_exp, depth_args}
use Rattle.pt_wide.proofs.Folds.{argument_of-is, exp_of-is, node_of-is, opened-WideNode}
use Rattle.pt_grammar.specs.Nodes.{OneArg, positional, named, spread, spread_named, args_of, Order, order_from, order_behind}
use Rattle.pt_grammar.specs.CallViews.{exp_in, argument_in, arguments_in, open_argument}

-- with an argument in front of these
abbrev one_more : OneArg → Args → Args
one_more (positional e) r = S.positional e r
one_more (named l x e) r = S.named l x e r
one_more (spread l e) r = S.spread l e r
one_more (spread_named l e) r = S.spread_named l e r

more_is : (a : OneArg) (xs : List OneArg) → args_of (a ∷ xs) ≡ one_more a (args_of xs)
more_is (positional e) xs = refl
more_is (named l x e) xs = refl
more_is (spread l e) xs = refl
more_is (spread_named l e) xs = refl

opened_is : (p : layer.WideArgument-F WideArgument WideEntry WideNode WidePiece WideClause WideComparison WideExpr WideParameter WideParameters) (x : WideArgument) (r : Args)
    → out-WideArgument x ≡ p → argument_of x r ≡ one_more (open_argument p) r
opened_is (layer.Positional e) x r h = ap (λ (f : Args → Args). f r) (argument_of-is x) ∙ rw h refl
opened_is (layer.Named l n e) x r h = ap (λ (f : Args → Args). f r) (argument_of-is x) ∙ rw h refl
opened_is (layer.WideArgument::Spread l e) x r h = ap (λ (f : Args → Args). f r) (argument_of-is x) ∙ rw h refl
opened_is (layer.SpreadNamed l e) x r h = ap (λ (f : Args → Args). f r) (argument_of-is x) ∙ rw h refl

pub arguments_same : (xs : List WideArgument) → chained S.no_args (map argument_of xs) ≡ args_of (arguments_in xs)
arguments_same [] = refl
arguments_same (x ∷ xs) = opened_is (out-WideArgument x) x _ refl ∙ ap (one_more (argument_in x)) (arguments_same xs) ∙ sym (more_is (argument_in x) (arguments_in xs))

pub depth_args_snoc : (xs : List OneArg) (a : OneArg) → depth_args (args_of (xs ++ (a ∷ []))) ≡ max (depth_args (args_of xs)) (depth_exp (exp_in a))
depth_args_snoc [] (positional e) = omega arith
depth_args_snoc [] (named l x e) = omega arith
depth_args_snoc [] (spread l e) = omega arith
depth_args_snoc [] (spread_named l e) = omega arith
depth_args_snoc (positional e ∷ xs) a = omega (arith, depth_args_snoc xs a)
depth_args_snoc (named l x e ∷ xs) a = omega (arith, depth_args_snoc xs a)
depth_args_snoc (spread l e ∷ xs) a = omega (arith, depth_args_snoc xs a)
depth_args_snoc (spread_named l e ∷ xs) a = omega (arith, depth_args_snoc xs a)

pub order_snoc : (o : Order) (xs : List OneArg) (a : OneArg) → order_from o (xs ++ (a ∷ [])) ≡ order_behind (order_from o xs) a
order_snoc o [] a = refl
order_snoc o (b ∷ xs) a = order_snoc (order_behind o b) xs a

abbrev IsName : Exp → Type 0
IsName (S.name l x) = Unit {0}
IsName _ = ⊥

name_node : (n : WideNode) (k : ℕ) → IsName (expression_plain (opened-WideNode n) k) → (y : List ℕ) × (n ≡ node.Name y)
unfolding wide.out-WideNode denote.Hole.Carrier.out
name_node (node.Name y) k h = (y, refl)
name_node n k h = absurd h

-- what is no name by its node is none
pub no_name : (e : WideExpr) → ((y : List ℕ) → e.node ≢ node.Name y) → (l : ℕ) (x : List ℕ) → exp_of e ≢ S.name l x
no_name e n l x h =
    let g = exp_of-is e ∙ ap (λ (f : ℕ → Exp). f e.line.0) (node_of-is e.node) in
    let m = name_node e.node e.line.0 (subst IsName (sym h ∙ g) tt) in
    n m.0 m.1
