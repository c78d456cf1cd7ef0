-- The items of a `with`, up to the colon, which stays (Language Reference 8.5).
use Rattle.std.specs.Prelude.{◌≡◌, ℕ, Bool, true, false, List, [], ◌∷◌, ◌++◌, Option, Some}
use Rattle.pt_wide.specs.declared.expression.Comprehension.TheVariants as form
use Rattle.pt_wide.specs.Syntax as S
use Rattle.pt_wide.specs.Syntax.{Exp, Exps, Opt, Items}
use Rattle.pt_readers.specs.Reading.{Part}
use Rattle.pt_grammar.specs.declared.sign.Sign.TheVariants.{Mark as mark, Keyword as keyword}
use Rattle.pt_grammar.specs.declared.sign.Mark.TheVariants.{Open, Close, Colon}
use Rattle.pt_grammar.specs.declared.sign.Keyword.TheVariants.{As}
use Rattle.pt_grammar.specs.Lexemes.{Lexeme, sign, sign_at}
use Rattle.pt_grammar.specs.Nodes.{line_of}
use Rattle.pt_parser.specs.Forms.{Reads, Is, Then, Optional, Separated, UpTo}
use Rattle.pt_parser.specs.Simple.{comma, an_expression, a_place}
use Rattle.pt_parser.specs.Limits.{FitsExp, FitsOpt}
use Rattle.pt_parser.specs.Targets.{both}

-- what is entered, and the target to which what it gives is stored
pub record OneItem : Type 0 where
  pub line : ℕ
  pub context : Exp
  pub target : Opt

abbrev pub item_at : ℕ → Exp → Opt → OneItem
item_at l e t = record { line = l; context = e; target = t }

-- an item starts where its expression does
abbrev pub item_of : Exp → Opt → OneItem
item_of e t = item_at (line_of e) e t

abbrev pub items_from : List OneItem → Items
items_from [] = S.no_items
items_from (i ∷ is) = S.with_item i.line i.context i.target (items_from is)

-- item = expr [ "as" target ]
abbrev pub WithItem : Reads OneItem
WithItem = Then an_expression.reads (λ e. Then (Optional (keyword As) a_place.reads) (λ t. Is (item_of e t)))

-- Whether what stands in parentheses, or between commas in them, is an expression as it is: no item with a star, no generator without
-- parentheses of its own, no `yield`.
abbrev pub is_plain : Exp → Bool
is_plain (S.starred l e) = false
is_plain (S.comprehension l form.Generator e cs) = false
is_plain (S.yield l v) = false
is_plain (S.yield_from l e) = false
is_plain e = true

abbrev pub are_plain : Exps → Bool
are_plain S.no_exps = true
are_plain (S.more_exps e es) = both (is_plain e) (are_plain es)

-- whether parentheses around it hold items
abbrev pub holds_items : Exp → Bool
holds_items (S.tuple l S.no_exps) = false
holds_items (S.tuple l (S.more_exps e es)) = are_plain (S.more_exps e es)
holds_items e = is_plain e

abbrev pub encloses : Exp → Bool
encloses (S.parenthesized l e) = holds_items e
encloses e = false

-- whether an item is nothing but parentheses that hold items themselves
abbrev pub is_parentheses : Exp → Opt → Bool
is_parentheses e S.absent = encloses e
is_parentheses e (S.given t) = false

abbrev pub is_enclosed : List OneItem → Bool
is_enclosed (i ∷ []) = is_parentheses i.context i.target
is_enclosed is = false

-- items = item { "," item }
abbrev pub Bare : Reads (List OneItem)
Bare = Separated comma WithItem

-- behind "(": items [ "," ] ")"
abbrev pub Enclosed : Reads (List OneItem)
Enclosed = Then WithItem (λ i. UpTo comma (mark Close) WithItem (i ∷ []))

-- "(" items [ "," ] ")" | items, of which the first holds where both fit
pub data WithItems : List Lexeme → List OneItem → List Lexeme → Type 0 where
  enclosed : {l : ℕ} {is : List OneItem} {ts rest : List Lexeme} → Enclosed ts is rest → WithItems (sign l (mark Open) ∷ ts) is rest
  not_enclosed : {is : List OneItem} {ts rest : List Lexeme} → Bare ts is rest → is_enclosed is ≡ false → WithItems ts is rest

abbrev pub FitsItem : OneItem → Type 0
FitsItem i = FitsExp i.context × FitsOpt i.target
