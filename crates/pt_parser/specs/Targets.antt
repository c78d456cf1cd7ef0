-- Which expressions were read as something that may stand in a target's place, seen from their trees (Language Reference 7.2).
use Rattle.std.specs.Prelude.{Bool, true, false, map}
use Rattle.pt_wide.specs.Syntax as S
use Rattle.pt_wide.specs.Syntax.{Exp, Exps}
use Rattle.pt_wide.specs.Fold.{exp_of, all_of}
use Rattle.pt_parser.specs.declared.targets.Sort.{Sort}
use Rattle.pt_parser.specs.declared.targets.Sort.TheVariants as sort

pub data Form : Type 0 where
  -- a `bor`
  place : Form
  -- a `bor` behind a star
  starred : Form
  -- a tuple without its parentheses
  tuple : (items : Exps) → Form
  -- what binds more loosely than a `bor`, and what stands in brackets alone
  looser : Form

abbrev pub form_of : Exp → Form
form_of (S.constant l k) = place
form_of (S.name l x) = place
form_of (S.joined l ps) = place
form_of (S.parenthesized l e) = place
form_of (S.starred l e) = starred
form_of (S.tuple l es) = tuple es
form_of (S.list l es) = place
form_of (S.set l es) = place
form_of (S.dict l es) = place
form_of (S.attribute l a x) = place
form_of (S.item l a i) = place
form_of (S.slice l a b c) = looser
form_of (S.unary l o a) = place
form_of (S.not_of l a) = looser
form_of (S.binary l o a b) = place
form_of (S.compare l a o b r) = looser
form_of (S.and l a es) = looser
form_of (S.or l a es) = looser
form_of (S.conditional l c a b) = looser
form_of (S.call l f args) = place
form_of (S.lambda l ps e) = looser
form_of (S.comprehension l form e cs) = place
form_of (S.dict_comprehension l g cs) = place
form_of (S.yield l v) = looser
form_of (S.yield_from l e) = looser

-- the form that code tells
abbrev pub form_in : Sort → Form
form_in sort.Place = place
form_in sort.Starred = starred
form_in (sort.Tuple items) = tuple (all_of (map exp_of items.now))
form_in sort.Looser = looser

abbrev pub place_form : Form → Bool
place_form place = true
place_form _ = false

abbrev pub starred_form : Form → Bool
starred_form place = true
starred_form starred = true
starred_form _ = false

abbrev pub both : Bool → Bool → Bool
both true b = b
both false b = false

abbrev pub is_place : Exp → Bool
is_place e = place_form (form_of e)

abbrev pub is_starred : Exp → Bool
is_starred e = starred_form (form_of e)

abbrev pub are_starred : Exps → Bool
are_starred S.no_exps = true
are_starred (S.more_exps e es) = both (is_starred e) (are_starred es)

abbrev pub target_form : Form → Bool
target_form (tuple es) = are_starred es
target_form f = starred_form f

-- places with commas between them, or one
abbrev pub is_target : Exp → Bool
is_target e = target_form (form_of e)
