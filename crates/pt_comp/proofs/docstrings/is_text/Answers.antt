use Rattle.std.proofs.Common.{ap, sym, arith}
use Rattle.pt_tree.proofs.Folds.{exp_of-Constant, exp_of-Name, exp_of-Joined, exp_of-Tuple, exp_of-List, exp_of-Set, exp_of-Dict, exp_of-Attribute, exp_of-Item, exp_of-Slice, exp_of-Unary, exp_of-Not, exp_of-Binary, exp_of-Compare, exp_of-And, exp_of-Or, exp_of-Conditional, exp_of-Call, exp_of-Lambda, exp_of-ListComprehension, exp_of-SetComprehension, exp_of-DictComprehension, exp_of-Generator, exp_of-Yield, exp_of-YieldFrom}
use Rattle.pt_tree.specs.Blocks.{is_string}
use Rattle.pt_comp.proofs.docstrings.is_text.Goals as goal

pub returns-in-Constant : goal.returns-in-Constant
returns-in-Constant c = grind (arith, exp_of-Constant c.args.e.now _ c.in-Constant.is)

pub returns-in-Name : goal.returns-in-Name
returns-in-Name c = sym (ap (λ x. is_string x) (exp_of-Name c.args.e.now _ c.in-Name.is))

pub returns-in-Joined : goal.returns-in-Joined
returns-in-Joined c = sym (ap (λ x. is_string x) (exp_of-Joined c.args.e.now _ c.in-Joined.is))

pub returns-in-Tuple : goal.returns-in-Tuple
returns-in-Tuple c = sym (ap (λ x. is_string x) (exp_of-Tuple c.args.e.now _ c.in-Tuple.is))

pub returns-in-List : goal.returns-in-List
returns-in-List c = sym (ap (λ x. is_string x) (exp_of-List c.args.e.now _ c.in-List.is))

pub returns-in-Set : goal.returns-in-Set
returns-in-Set c = sym (ap (λ x. is_string x) (exp_of-Set c.args.e.now _ c.in-Set.is))

pub returns-in-Dict : goal.returns-in-Dict
returns-in-Dict c = sym (ap (λ x. is_string x) (exp_of-Dict c.args.e.now _ c.in-Dict.is))

pub returns-in-Attribute : goal.returns-in-Attribute
returns-in-Attribute c = sym (ap (λ x. is_string x) (exp_of-Attribute c.args.e.now _ _ c.in-Attribute.is))

pub returns-in-Item : goal.returns-in-Item
returns-in-Item c = sym (ap (λ x. is_string x) (exp_of-Item c.args.e.now _ _ c.in-Item.is))

pub returns-in-Slice : goal.returns-in-Slice
returns-in-Slice c = sym (ap (λ x. is_string x) (exp_of-Slice c.args.e.now _ _ _ c.in-Slice.is))

pub returns-in-Unary : goal.returns-in-Unary
returns-in-Unary c = sym (ap (λ x. is_string x) (exp_of-Unary c.args.e.now _ _ c.in-Unary.is))

pub returns-in-Not : goal.returns-in-Not
returns-in-Not c = sym (ap (λ x. is_string x) (exp_of-Not c.args.e.now _ c.in-Not.is))

pub returns-in-Binary : goal.returns-in-Binary
returns-in-Binary c = sym (ap (λ x. is_string x) (exp_of-Binary c.args.e.now _ _ _ c.in-Binary.is))

pub returns-in-Compare : goal.returns-in-Compare
returns-in-Compare c = sym (ap (λ x. is_string x) (exp_of-Compare c.args.e.now _ _ _ _ c.in-Compare.is))

pub returns-in-And : goal.returns-in-And
returns-in-And c = sym (ap (λ x. is_string x) (exp_of-And c.args.e.now _ _ c.in-And.is))

pub returns-in-Or : goal.returns-in-Or
returns-in-Or c = sym (ap (λ x. is_string x) (exp_of-Or c.args.e.now _ _ c.in-Or.is))

pub returns-in-Conditional : goal.returns-in-Conditional
returns-in-Conditional c = sym (ap (λ x. is_string x) (exp_of-Conditional c.args.e.now _ _ _ c.in-Conditional.is))

pub returns-in-Call : goal.returns-in-Call
returns-in-Call c = sym (ap (λ x. is_string x) (exp_of-Call c.args.e.now _ _ c.in-Call.is))

pub returns-in-Lambda : goal.returns-in-Lambda
returns-in-Lambda c = sym (ap (λ x. is_string x) (exp_of-Lambda c.args.e.now _ _ _ c.in-Lambda.is))

pub returns-in-ListComprehension : goal.returns-in-ListComprehension
returns-in-ListComprehension c = sym (ap (λ x. is_string x) (exp_of-ListComprehension c.args.e.now _ _ _ c.in-ListComprehension.is))

pub returns-in-SetComprehension : goal.returns-in-SetComprehension
returns-in-SetComprehension c = sym (ap (λ x. is_string x) (exp_of-SetComprehension c.args.e.now _ _ _ c.in-SetComprehension.is))

pub returns-in-DictComprehension : goal.returns-in-DictComprehension
returns-in-DictComprehension c = sym (ap (λ x. is_string x) (exp_of-DictComprehension c.args.e.now _ _ _ _ c.in-DictComprehension.is))

pub returns-in-Generator : goal.returns-in-Generator
returns-in-Generator c = sym (ap (λ x. is_string x) (exp_of-Generator c.args.e.now _ _ _ _ c.in-Generator.is))

pub returns-in-Yield : goal.returns-in-Yield
returns-in-Yield c = sym (ap (λ x. is_string x) (exp_of-Yield c.args.e.now _ c.in-Yield.is))

pub returns-in-YieldFrom : goal.returns-in-YieldFrom
returns-in-YieldFrom c = sym (ap (λ x. is_string x) (exp_of-YieldFrom c.args.e.now _ c.in-YieldFrom.is))
