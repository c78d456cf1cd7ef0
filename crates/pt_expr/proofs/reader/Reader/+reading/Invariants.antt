use Rattle.std.proofs.Common.{◌+◌, ◌-◌, ◌*◌, ◌≤◌, false, [], ◌∷◌, map, length}
use Rattle.pt_wide.specs.Fold.{exp_of, entry_of}
use Rattle.pt_readers.specs.Reading.{next_of, Carries}
use Rattle.pt_readers.proofs.Readers.{left}
use Rattle.pt_grammar.specs.Grammar.{Formatted, MoreItems, Trailed, Operated, Compared, Conjoined, Disjoined, Conditions, Clauses, MoreEntries, MoreArguments}
use Rattle.pt_grammar.specs.Nodes.{compared, conjoined, disjoined, args_of}
use Rattle.pt_grammar.specs.Parts.{FitsItems, StopsItems, IsComma, some_exprs, some_parameters, Fits, Stops, Apart, ends_in_text, a_primary, a_binary, comparisons, a_conjunction, a_disjunction, FitsPieces, an_atom, some_formatted, FitsEntries, some_entries, FitsConditions, FitsClauses, some_conditions, some_clauses, FitsArgs, some_arguments}
use Rattle.pt_grammar.specs.Views.{links_in, clauses_in}
use Rattle.pt_grammar.specs.ReadViews.{link_read, gathered_read}
use Rattle.pt_grammar.specs.CallViews.{argument_read, arguments_in}
use Rattle.pt_grammar.specs.ParameterSteps.{Held, next_parameters}
use Rattle.pt_grammar.specs.QuotedViews.{parts_read, quoted_read}
use Rattle.pt_grammar.specs.Texts.{FitsQuoted}
use Rattle.pt_grammar.proofs.StringLemmas.{StringRest}
use Rattle.pt_expr.proofs.reader.Reader.+reading.Given as goal

abbrev pub decreases-atom : goal.decreases-atom
decreases-atom l = 64 * length l.self.now.lexemes + 1

abbrev pub decreases-primary : goal.decreases-primary
decreases-primary l = 64 * length l.self.now.lexemes + 2

abbrev pub decreases-power : goal.decreases-power
decreases-power l = 64 * length l.self.now.lexemes + 3

abbrev pub decreases-factor : goal.decreases-factor
decreases-factor l = 64 * length l.self.now.lexemes + 4

abbrev pub decreases-binary : goal.decreases-binary
decreases-binary l = 64 * length l.self.now.lexemes + 5 + l.level

abbrev pub decreases-link : goal.decreases-link
decreases-link l = 64 * length l.self.now.lexemes + 12

abbrev pub decreases-comparing : goal.decreases-comparing
decreases-comparing l = 64 * length l.self.now.lexemes + 13

abbrev pub decreases-comparisons : goal.decreases-comparisons
decreases-comparisons l = 64 * length l.self.now.lexemes + 14

abbrev pub decreases-negation : goal.decreases-negation
decreases-negation l = 64 * length l.self.now.lexemes + 15

abbrev pub decreases-conjunction : goal.decreases-conjunction
decreases-conjunction l = 64 * length l.self.now.lexemes + 16

abbrev pub decreases-disjunction : goal.decreases-disjunction
decreases-disjunction l = 64 * length l.self.now.lexemes + 17

abbrev pub decreases-expr : goal.decreases-expr
decreases-expr l = 64 * length l.self.now.lexemes + 18

abbrev pub decreases-item : goal.decreases-item
decreases-item l = 64 * length l.self.now.lexemes + 20

abbrev pub decreases-unstarred : goal.decreases-unstarred
decreases-unstarred l = 64 * length l.self.now.lexemes + 19

abbrev pub decreases-more_items : goal.decreases-more_items
decreases-more_items l = 64 * length l.self.now.lexemes + 21

abbrev pub invariant-more_items-more : goal.invariant-more_items-more
invariant-more_items-more l = record {
  shorter : length l.self.lexemes ≤ length l.fn.self.lexemes;
  fits : FitsItems l.room (map exp_of l.items.items);
  stops : (IsComma (next_of l.self.lexemes) → ⊥) → StopsItems l.part false (map exp_of l.items.items) (next_of l.self.lexemes);
  carries : Carries (left (some_exprs l.part l.room) (MoreItems l.part (map exp_of l.fn.items.items))) l.fn.self.lexemes (left (some_exprs l.part l.room) (MoreItems l.part (map exp_of l.items.items))) l.self.lexemes;
}

abbrev pub decreases-more_items-more : goal.decreases-more_items-more
decreases-more_items-more l = length l.self.lexemes

abbrev pub invariant-more_trailers-more : goal.invariant-more_trailers-more
invariant-more_trailers-more l = record {
  shorter : length l.self.lexemes ≤ length l.fn.self.lexemes;
  fits : Fits l.room (exp_of l.object.tree);
  stops : Apart (ends_in_text (exp_of l.object.tree)) (next_of l.self.lexemes);
  carries : Carries (left (a_primary l.room) (Trailed (exp_of l.fn.object.tree))) l.fn.self.lexemes (left (a_primary l.room) (Trailed (exp_of l.object.tree))) l.self.lexemes;
}

abbrev pub decreases-more_trailers-more : goal.decreases-more_trailers-more
decreases-more_trailers-more l = length l.self.lexemes

abbrev pub invariant-more_operands-more : goal.invariant-more_operands-more
invariant-more_operands-more l = record {
  shorter : length l.self.lexemes ≤ length l.fn.self.lexemes;
  fits : Fits l.room (exp_of l.left.tree);
  stops : Stops l.level (exp_of l.left.tree) (next_of l.self.lexemes);
  carries : Carries (left (a_binary l.level l.room) (Operated (l.level - 1) (exp_of l.fn.first.tree))) l.fn.self.lexemes (left (a_binary l.level l.room) (Operated (l.level - 1) (exp_of l.left.tree))) l.self.lexemes;
}

abbrev pub decreases-more_operands-more : goal.decreases-more_operands-more
decreases-more_operands-more l = length l.self.lexemes

abbrev pub invariant-more_comparisons-more : goal.invariant-more_comparisons-more
invariant-more_comparisons-more l = record {
  shorter : length l.self.lexemes ≤ length l.fn.self.lexemes;
  fits : Fits l.room (compared (exp_of l.operand.tree) (link_read l.first ∷ links_in l.more.items));
  stops : Stops 7 (compared (exp_of l.operand.tree) (link_read l.first ∷ links_in l.more.items)) (next_of l.self.lexemes);
  carries : Carries (left (comparisons l.room) (Compared (exp_of l.operand.tree) [])) l.fn.self.lexemes (left (comparisons l.room) (Compared (exp_of l.operand.tree) (link_read l.first ∷ links_in l.more.items))) l.self.lexemes;
}

abbrev pub decreases-more_comparisons-more : goal.decreases-more_comparisons-more
decreases-more_comparisons-more l = length l.self.lexemes

abbrev pub invariant-more_conjuncts-more : goal.invariant-more_conjuncts-more
invariant-more_conjuncts-more l = record {
  shorter : length l.self.lexemes ≤ length l.fn.self.lexemes;
  fits : Fits l.room (conjoined (exp_of l.first.tree) (map exp_of l.more.items));
  stops : Stops 8 (conjoined (exp_of l.first.tree) (map exp_of l.more.items)) (next_of l.self.lexemes);
  carries : Carries (left (a_conjunction l.room) (Conjoined (exp_of l.first.tree) [])) l.fn.self.lexemes (left (a_conjunction l.room) (Conjoined (exp_of l.first.tree) (map exp_of l.more.items))) l.self.lexemes;
}

abbrev pub decreases-more_conjuncts-more : goal.decreases-more_conjuncts-more
decreases-more_conjuncts-more l = length l.self.lexemes

abbrev pub invariant-more_disjuncts-more : goal.invariant-more_disjuncts-more
invariant-more_disjuncts-more l = record {
  shorter : length l.self.lexemes ≤ length l.fn.self.lexemes;
  fits : Fits l.room (disjoined (exp_of l.first.tree) (map exp_of l.more.items));
  stops : Stops 9 (disjoined (exp_of l.first.tree) (map exp_of l.more.items)) (next_of l.self.lexemes);
  carries : Carries (left (a_disjunction l.room) (Disjoined (exp_of l.first.tree) [])) l.fn.self.lexemes (left (a_disjunction l.room) (Disjoined (exp_of l.first.tree) (map exp_of l.more.items))) l.self.lexemes;
}

abbrev pub decreases-more_disjuncts-more : goal.decreases-more_disjuncts-more
decreases-more_disjuncts-more l = length l.self.lexemes

abbrev pub decreases-parenthesized : goal.decreases-parenthesized
decreases-parenthesized l = 64 * length l.self.now.lexemes

abbrev pub decreases-inside : goal.decreases-inside
decreases-inside l = 64 * length l.self.now.lexemes + 28

abbrev pub decreases-list : goal.decreases-list
decreases-list l = 64 * length l.self.now.lexemes

abbrev pub decreases-trailer : goal.decreases-trailer
decreases-trailer l = 64 * length l.self.now.lexemes + 32

abbrev pub decreases-index : goal.decreases-index
decreases-index l = 64 * length l.self.now.lexemes + 31

abbrev pub decreases-arguments : goal.decreases-arguments
decreases-arguments l = 64 * length l.self.now.lexemes + 31

abbrev pub decreases-slice : goal.decreases-slice
decreases-slice l = 64 * length l.self.now.lexemes + 30

abbrev pub decreases-bound : goal.decreases-bound
decreases-bound l = 64 * length l.self.now.lexemes + 20

abbrev pub decreases-step : goal.decreases-step
decreases-step l = 64 * length l.self.now.lexemes + 22

abbrev pub decreases-more_arguments : goal.decreases-more_arguments
decreases-more_arguments l = 64 * length l.self.now.lexemes + 28

abbrev pub decreases-argument : goal.decreases-argument
decreases-argument l = 64 * length l.self.now.lexemes + 24

abbrev pub decreases-placed : goal.decreases-placed
decreases-placed l = 64 * length l.self.now.lexemes + 22

abbrev pub decreases-keyword : goal.decreases-keyword
decreases-keyword l = 64 * length l.self.now.lexemes + 22

abbrev pub decreases-argument_value : goal.decreases-argument_value
decreases-argument_value l = 64 * length l.self.now.lexemes + 20

abbrev pub invariant-more_arguments-more : goal.invariant-more_arguments-more
invariant-more_arguments-more l = record {
  shorter : length l.self.lexemes ≤ length l.fn.self.lexemes;
  fits : FitsArgs l.room (args_of (arguments_in l.arguments.items));
  carries : Carries (left (some_arguments l.room) (MoreArguments (argument_read l.fn.first ∷ []))) l.fn.self.lexemes (left (some_arguments l.room) (MoreArguments (arguments_in l.arguments.items))) l.self.lexemes;
}

abbrev pub decreases-more_arguments-more : goal.decreases-more_arguments-more
decreases-more_arguments-more l = length l.self.lexemes

abbrev pub decreases-exprs : goal.decreases-exprs
decreases-exprs l = 64 * length l.self.now.lexemes + 25

abbrev pub decreases-behind_item : goal.decreases-behind_item
decreases-behind_item l = 64 * length l.self.now.lexemes + 22

abbrev pub decreases-value : goal.decreases-value
decreases-value l = 64 * length l.self.now.lexemes + 26

abbrev pub decreases-yielded : goal.decreases-yielded
decreases-yielded l = 64 * length l.self.now.lexemes + 26

abbrev pub decreases-yielded_from : goal.decreases-yielded_from
decreases-yielded_from l = 64 * length l.self.now.lexemes

abbrev pub decreases-generator : goal.decreases-generator
decreases-generator l = 64 * length l.self.now.lexemes + 27

abbrev pub decreases-list_comprehension : goal.decreases-list_comprehension
decreases-list_comprehension l = 64 * length l.self.now.lexemes + 27

abbrev pub decreases-clauses : goal.decreases-clauses
decreases-clauses l = 64 * length l.self.now.lexemes

-- lambdas and parameters
abbrev pub decreases-lambda : goal.decreases-lambda
decreases-lambda l = 64 * length l.self.now.lexemes

abbrev pub decreases-annotation : goal.decreases-annotation
decreases-annotation l = 64 * length l.self.now.lexemes

abbrev pub decreases-formal : goal.decreases-formal
decreases-formal l = 64 * length l.self.now.lexemes

abbrev pub decreases-parameter : goal.decreases-parameter
decreases-parameter l = 64 * length l.self.now.lexemes + 1

abbrev pub decreases-parameters : goal.decreases-parameters
decreases-parameters l = 64 * length l.self.now.lexemes + 2

abbrev pub invariant-parameters-more : goal.invariant-parameters-more
invariant-parameters-more l = record {
  shorter : length l.self.lexemes ≤ length l.fn.self.lexemes;
  held : Held l.room (gathered_read l.parameters);
  carries : Carries (some_parameters l.annotated l.room) l.fn.self.lexemes (next_parameters l.annotated l.room (gathered_read l.parameters)) l.self.lexemes;
}

abbrev pub decreases-parameters-more : goal.decreases-parameters-more
decreases-parameters-more l = length l.self.lexemes

abbrev pub decreases-indexed : goal.decreases-indexed
decreases-indexed l = 64 * length l.self.now.lexemes + 30

abbrev pub decreases-conditions : goal.decreases-conditions
decreases-conditions l = 64 * length l.self.now.lexemes

abbrev pub invariant-conditions-more : goal.invariant-conditions-more
invariant-conditions-more l = record {
  shorter : length l.self.lexemes ≤ length l.fn.self.lexemes;
  fits : FitsConditions l.room (map exp_of l.conditions.items);
  carries : Carries (some_conditions l.room) l.fn.self.lexemes (left (some_conditions l.room) (Conditions (map exp_of l.conditions.items))) l.self.lexemes;
}

abbrev pub decreases-conditions-more : goal.decreases-conditions-more
decreases-conditions-more l = length l.self.lexemes

abbrev pub decreases-clause : goal.decreases-clause
decreases-clause l = 64 * length l.self.now.lexemes + 26

abbrev pub decreases-strings : goal.decreases-strings
decreases-strings l = 64 * length l.self.now.lexemes

abbrev pub decreases-string : goal.decreases-string
decreases-string l = 64 * length l.self.now.lexemes - 1

abbrev pub decreases-formatted : goal.decreases-formatted
decreases-formatted l = 64 * length l.self.now.lexemes + 29

abbrev pub decreases-piece : goal.decreases-piece
decreases-piece l = 64 * length l.self.now.lexemes + 28

abbrev pub decreases-field : goal.decreases-field
decreases-field l = 64 * length l.self.now.lexemes + 27

abbrev pub decreases-spec : goal.decreases-spec
decreases-spec l = 64 * length l.self.now.lexemes

abbrev pub invariant-strings-more : goal.invariant-strings-more
invariant-strings-more l = record {
  shorter : length l.self.lexemes ≤ length l.fn.self.lexemes;
  fits : FitsPieces (l.room - 1) (parts_read l.quotes.pieces);
  quoted : FitsQuoted (l.room - 1) l.quotes.formatted (parts_read l.quotes.pieces);
  carries : Carries (an_atom l.room) l.fn.self.lexemes (left (an_atom l.room) (StringRest l.line.0 (quoted_read l.quotes))) l.self.lexemes;
}

abbrev pub decreases-strings-more : goal.decreases-strings-more
decreases-strings-more l = length l.self.lexemes

abbrev pub invariant-formatted-more : goal.invariant-formatted-more
invariant-formatted-more l = record {
  shorter : length l.self.lexemes ≤ length l.fn.self.lexemes;
  fits : FitsPieces l.room (parts_read l.pieces);
  carries : Carries (some_formatted l.fields l.room (parts_read l.fn.pieces)) l.fn.self.lexemes (left (some_formatted l.fields l.room (parts_read l.fn.pieces)) (Formatted l.fields (parts_read l.pieces))) l.self.lexemes;
}

abbrev pub decreases-formatted-more : goal.decreases-formatted-more
decreases-formatted-more l = length l.self.lexemes

abbrev pub invariant-clauses-more : goal.invariant-clauses-more
invariant-clauses-more l = record {
  shorter : length l.self.lexemes ≤ length l.fn.self.lexemes;
  fits : FitsClauses l.room (clauses_in l.clauses.items);
  carries : Carries (some_clauses l.room) l.fn.self.lexemes (left (some_clauses l.room) (Clauses (clauses_in l.clauses.items))) l.self.lexemes;
}

abbrev pub decreases-clauses-more : goal.decreases-clauses-more
decreases-clauses-more l = length l.self.lexemes

abbrev pub decreases-braces : goal.decreases-braces
decreases-braces l = 64 * length l.self.now.lexemes

abbrev pub decreases-pair : goal.decreases-pair
decreases-pair l = 64 * length l.self.now.lexemes + 19

abbrev pub decreases-entry : goal.decreases-entry
decreases-entry l = 64 * length l.self.now.lexemes + 20

abbrev pub decreases-more_entries : goal.decreases-more_entries
decreases-more_entries l = 64 * length l.self.now.lexemes

abbrev pub invariant-more_entries-more : goal.invariant-more_entries-more
invariant-more_entries-more l = record {
  shorter : length l.self.lexemes ≤ length l.fn.self.lexemes;
  fits : FitsEntries l.room (map entry_of l.entries.items);
  carries : Carries (left (some_entries l.room) (MoreEntries (entry_of l.fn.first.tree ∷ []))) l.fn.self.lexemes (left (some_entries l.room) (MoreEntries (map entry_of l.entries.items))) l.self.lexemes;
}

abbrev pub decreases-more_entries-more : goal.decreases-more_entries-more
decreases-more_entries-more l = length l.self.lexemes

abbrev pub decreases-dictionary : goal.decreases-dictionary
decreases-dictionary l = 64 * length l.self.now.lexemes + 2

abbrev pub decreases-more_of_dictionary : goal.decreases-more_of_dictionary
decreases-more_of_dictionary l = 64 * length l.self.now.lexemes + 1

abbrev pub decreases-entry_clauses : goal.decreases-entry_clauses
decreases-entry_clauses l = 64 * length l.self.now.lexemes + 1

abbrev pub decreases-item_clauses : goal.decreases-item_clauses
decreases-item_clauses l = 64 * length l.self.now.lexemes + 1

abbrev pub decreases-members : goal.decreases-members
decreases-members l = 64 * length l.self.now.lexemes + 22

abbrev pub decreases-opened : goal.decreases-opened
decreases-opened l = 64 * length l.self.now.lexemes + 23

abbrev pub decreases-content : goal.decreases-content
decreases-content l = 64 * length l.self.now.lexemes + 24

abbrev pub decreases-generator_alone : goal.decreases-generator_alone
decreases-generator_alone l = 64 * length l.self.now.lexemes + 28

-- what is left of expressions behind their first parts
abbrev pub decreases-more_trailers : goal.decreases-more_trailers
decreases-more_trailers l = 64 * length l.self.now.lexemes

abbrev pub decreases-raising : goal.decreases-raising
decreases-raising l = 64 * length l.self.now.lexemes

abbrev pub decreases-more_operands : goal.decreases-more_operands
decreases-more_operands l = 64 * length l.self.now.lexemes

abbrev pub decreases-more_comparisons : goal.decreases-more_comparisons
decreases-more_comparisons l = 64 * length l.self.now.lexemes

abbrev pub decreases-more_conjuncts : goal.decreases-more_conjuncts
decreases-more_conjuncts l = 64 * length l.self.now.lexemes

abbrev pub decreases-more_disjuncts : goal.decreases-more_disjuncts
decreases-more_disjuncts l = 64 * length l.self.now.lexemes

abbrev pub decreases-choosing : goal.decreases-choosing
decreases-choosing l = 64 * length l.self.now.lexemes
