use Rattle.std.proofs.Common.{sym, ap, ◌∙◌, map}
use Rattle.pt_wide.specs.Fold.{exp_of, all_of}
use Rattle.pt_parser.specs.Targets.{form_of, tuple}
use Rattle.pt_wide.proofs.Folds.{exp_of-Constant, exp_of-Name, exp_of-Joined, exp_of-Parenthesized, exp_of-Starred, exp_of-Tuple, exp_of-List, exp_of-Set, exp_of-Dict, exp_of-Attribute, exp_of-Item, exp_of-Slice, exp_of-Unary, exp_of-Not, exp_of-Binary, exp_of-Compare, exp_of-And, exp_of-Or, exp_of-Conditional, exp_of-Call, exp_of-Lambda, exp_of-Comprehension, exp_of-DictComprehension, exp_of-Yield, exp_of-YieldFrom}
use Rattle.pt_parser.proofs.targets.sort_of.Goals as goal

pub returns-in-Constant : goal.returns-in-Constant
returns-in-Constant c = sym (ap form_of (exp_of-Constant _ _ c.in-Constant.is))

pub returns-in-Name : goal.returns-in-Name
returns-in-Name c = sym (ap form_of (exp_of-Name _ _ c.in-Name.is))

pub returns-in-Joined : goal.returns-in-Joined
returns-in-Joined c = sym (ap form_of (exp_of-Joined _ _ c.in-Joined.is))

pub returns-in-Parenthesized : goal.returns-in-Parenthesized
returns-in-Parenthesized c = sym (ap form_of (exp_of-Parenthesized _ _ c.in-Parenthesized.is))

pub returns-in-Starred : goal.returns-in-Starred
returns-in-Starred c = sym (ap form_of (exp_of-Starred _ _ c.in-Starred.is))

pub returns-in-Tuple : goal.returns-in-Tuple
returns-in-Tuple c = ap (λ xs. tuple (all_of (map exp_of xs))) c.as_slice.ensures ∙ sym (ap form_of (exp_of-Tuple _ _ c.in-Tuple.is))

pub returns-in-List : goal.returns-in-List
returns-in-List c = sym (ap form_of (exp_of-List _ _ c.in-List.is))

pub returns-in-Set : goal.returns-in-Set
returns-in-Set c = sym (ap form_of (exp_of-Set _ _ c.in-Set.is))

pub returns-in-Dict : goal.returns-in-Dict
returns-in-Dict c = sym (ap form_of (exp_of-Dict _ _ c.in-Dict.is))

pub returns-in-Attribute : goal.returns-in-Attribute
returns-in-Attribute c = sym (ap form_of (exp_of-Attribute _ _ _ c.in-Attribute.is))

pub returns-in-Item : goal.returns-in-Item
returns-in-Item c = sym (ap form_of (exp_of-Item _ _ _ c.in-Item.is))

pub returns-in-Slice : goal.returns-in-Slice
returns-in-Slice c = sym (ap form_of (exp_of-Slice _ _ _ _ c.in-Slice.is))

pub returns-in-Unary : goal.returns-in-Unary
returns-in-Unary c = sym (ap form_of (exp_of-Unary _ _ _ c.in-Unary.is))

pub returns-in-Not : goal.returns-in-Not
returns-in-Not c = sym (ap form_of (exp_of-Not _ _ c.in-Not.is))

pub returns-in-Binary : goal.returns-in-Binary
returns-in-Binary c = sym (ap form_of (exp_of-Binary _ _ _ _ c.in-Binary.is))

pub returns-in-Compare : goal.returns-in-Compare
returns-in-Compare c = sym (ap form_of (exp_of-Compare _ _ _ _ _ c.in-Compare.is))

pub returns-in-And : goal.returns-in-And
returns-in-And c = sym (ap form_of (exp_of-And _ _ _ c.in-And.is))

pub returns-in-Or : goal.returns-in-Or
returns-in-Or c = sym (ap form_of (exp_of-Or _ _ _ c.in-Or.is))

pub returns-in-Conditional : goal.returns-in-Conditional
returns-in-Conditional c = sym (ap form_of (exp_of-Conditional _ _ _ _ c.in-Conditional.is))

pub returns-in-Call : goal.returns-in-Call
returns-in-Call c = sym (ap form_of (exp_of-Call _ _ _ c.in-Call.is))

pub returns-in-Lambda : goal.returns-in-Lambda
returns-in-Lambda c = sym (ap form_of (exp_of-Lambda _ _ _ c.in-Lambda.is))

pub returns-in-Comprehension : goal.returns-in-Comprehension
returns-in-Comprehension c = sym (ap form_of (exp_of-Comprehension _ _ _ _ _ c.in-Comprehension.is))

pub returns-in-DictComprehension : goal.returns-in-DictComprehension
returns-in-DictComprehension c = sym (ap form_of (exp_of-DictComprehension _ _ _ _ c.in-DictComprehension.is))

pub returns-in-Yield : goal.returns-in-Yield
returns-in-Yield c = sym (ap form_of (exp_of-Yield _ _ c.in-Yield.is))

pub returns-in-YieldFrom : goal.returns-in-YieldFrom
returns-in-YieldFrom c = sym (ap form_of (exp_of-YieldFrom _ _ c.in-YieldFrom.is))
