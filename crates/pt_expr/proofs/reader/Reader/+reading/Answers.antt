use Rattle.std.proofs.Common.{◌≡◌, ◌≢◌, ℕ, suc, ◌-◌, ◌≤◌, ◌<◌, Bool, List, [], ◌∷◌, Some, true, false, map, length, refl, sym, ◌∙◌, ap, subst, arith, add-one, ◌++◌, inl, inr, ◌⊎◌}
use Rattle.pt_base.specs.declared.operators.BinOp.TheVariants.{Pow, Mul}
use Rattle.pt_base.specs.declared.operators.CompareOp.TheVariants as relation
use Rattle.pt_wide.specs.declared.expression.WideBinOp.TheVariants.{Plain}
use Rattle.pt_wide.specs.declared.expression.WideClause.{WideClause}
use Rattle.pt_wide.specs.declared.expression.WideExpr.{WideExpr}
use Rattle.pt_wide.specs.Syntax as S
use Rattle.pt_wide.specs.Syntax.{Exp, Opt, Entry}
use Rattle.pt_wide.specs.Fold.{exp_of, all_of, entry_of}
use Rattle.pt_wide.specs.Measure.{depth_exp, depth_params, count_args}
use Rattle.pt_readers.specs.Reading.{next_of, behind, Found, Carries}
use Rattle.pt_readers.proofs.Readers.{left, Just, just, just_found, carries_all, narrow_carries, then_on}
use Rattle.pt_readers.proofs.Pieces.{Through, through_shifts, through_bad, ended, Made, made, made_found}
use Rattle.pt_readers.proofs.Exits.{passed, carried, fails_at, goes_on, shift_on, carried_all, found_shorter, some_more, is_not, is_so}
use Rattle.pt_grammar.specs.declared.sign.Sign.TheVariants.{Operator, Mark as mark, Word as word, Layout as layout}
use Rattle.pt_grammar.specs.declared.sign.Mark.TheVariants.{Open, Close, OpenBracket, CloseBracket, Colon, Assign, CloseBrace, OpenBrace}
use Rattle.pt_grammar.specs.declared.sign.Word.TheVariants.{If, Else, Lambda, Yield, In, For}
use Rattle.pt_grammar.specs.Lexemes.{Lexeme, name, sign, sign_at, line_at}
use Rattle.pt_grammar.specs.Signs.{begins_item, ends_formatted}
use Rattle.pt_grammar.specs.Grammar.{Raised, Choice, Alternatives, MoreItems, no_condition}
use Rattle.pt_grammar.specs.Parts.{an_atom, an_item, a_power, a_factor, a_link, a_comparing, a_negation, an_expr, some_parameters, IsComma, some_exprs, a_yielded, a_value, a_field, Fits, FitsEntry, a_bare, a_clause, an_entry, some_clauses, FitsArgs, max_items, an_index, an_argument, some_arguments, a_trailer}
use Rattle.pt_grammar.specs.Views.{links_in, clauses_in, clause_in}
use Rattle.pt_grammar.specs.ReadViews.{link_read, listed_read, gathered_read, clauses_read, arguments_read}
use Rattle.pt_grammar.specs.ParameterViews.{given_read}
use Rattle.pt_grammar.specs.Nodes.{Gathered, allows_double_star, Quoted, quoted, field, pieces_of, Listed, OneClause, a_clause_of, args_of, order_of, any_next, named_next, spread_named_next, may_spread}
use Rattle.pt_grammar.specs.ParameterSteps.{next_parameters, Held, NameNext, an_annotation}
use Rattle.pt_grammar.proofs.Gathering.{parameters_same}
use Rattle.pt_grammar.specs.declared.sign.Sign.{Sign}
use Rattle.pt_grammar.specs.declared.part.Part.TheVariants.{Whole, Target}
use Rattle.pt_grammar.specs.declared.sign.Layout.TheVariants.{FStart, FEnd}
use Rattle.pt_wide.specs.declared.expression.WideEntry.{WideEntry}
use Rattle.pt_grammar.specs.Braced.{begins_content, Entered, Members, Opened, Content}
use Rattle.pt_wide.specs.declared.expression.WideArgument.{WideArgument}
use Rattle.pt_grammar.specs.CallViews.{trailer_read, argument_read, argument_in, arguments_in, order_read, opt_read}
use Rattle.pt_grammar.proofs.Options.{may_shift, may_none, may_over}
use Rattle.pt_grammar.proofs.Ranks.{IsSign, is_sign, signed_next, not_signed, rank_up, no_rank}
use Rattle.pt_grammar.proofs.Begins.{some_name, some_exp, fits_name, name_factor, name_disjunction, name_expr, depth_some}
use Rattle.pt_grammar.proofs.Atoms.{atom_bad, sign_bad}
use Rattle.pt_grammar.proofs.Items.{item_token, starred_shifts, starred_binds, expr_narrows, operand_narrows, items_comma, items_another, items_next, items_last, items_end, items_over, not_comma, stops_last, items_grow, count_length}
use Rattle.pt_grammar.proofs.Trailers.{trailer_shifts, trailer_binds, trailed_found, trailed_over, primary_binds, trailer_grows, trailer_apart, index_binds, call_binds, only_open}
use Rattle.pt_grammar.proofs.Factors.{power_of, power_binds, raised_may, raised_binds, raised_deep, RaisedTo, not_pow, unary_shifts, unary_binds, power_narrows, unary_over, unary_next}
use Rattle.pt_grammar.proofs.Levels.{factors, binary_binds, operator_shifts, operand_binds, operated_found, operated_over}
use Rattle.pt_grammar.proofs.Relations.{link_binds, in_narrows, sign_narrows, not_in_shifts, not_bad, is_not_shifts, is_narrows, compared_stops, compared_grows, next_shifts, next_binds as next_binds_of_relations, chain_found, chain_over, chain_binds}
use Rattle.pt_grammar.proofs.Chains.{conjunctions_shift, conjunctions_bind, conjunctions_found, conjunctions_over, conjunctions_stop, conjunction_binds, disjunctions_shift, disjunctions_bind, disjunctions_found, disjunctions_over, disjunctions_stop, disjunction_binds, joined_grows}
use Rattle.pt_grammar.proofs.Choices.{not_shifts, not_binds, not_over, comparisons_narrow, expr_binds, choice_may, choice_deep, choice_far, conditional_of, test_binds, otherwise_binds, not_if, expr_carries}
use Rattle.pt_grammar.specs.CallParts.{alone_of, ends_bound, begins_argument, a_bound, a_step, a_value_of_argument, a_keyword}
use Rattle.pt_grammar.proofs.Slices.{alike_set, bound_none, bound_narrows, bound_binds, bound_bad, bound_over, only_close, step_none, step_shifts, step_binds, not_close, slice_binds, slice_ends, slice_fits, colon_shifts as colon_shifts_of_slices}
use Rattle.pt_grammar.proofs.Arguments.{value_binds as value_binds_of_arguments, not_ended, star_shifts, star_binds as star_binds_of_arguments, stars_shifts, stars_binds, keyword_binds, assign_bad, keyword_shifts, named_binds, keyword_narrows, placed_narrows, placed_binds, placed_found, placed_bad, assign_shifts as assign_shifts_of_arguments, assigned_binds}
use Rattle.pt_grammar.proofs.CallLists.{AnotherArgument, one_fits, args_grow, count_length as args_length, comma_shifts as comma_shifts_of_call_lists, closing_narrows, next_narrows, end_narrows_to, next_binds as next_binds_of_call_lists, end_bad, next_bad as next_none, next_over, none_found as none_found_of_call_lists, star_narrows}
use Rattle.pt_grammar.proofs.Sequels.{just_bad as just_bad_of_sequels}
use Rattle.pt_grammar.proofs.Indices.{star_index, bare_index, indexing_narrows, indexing_binds, listed_narrows, listed_binds, start_shifts, start_over}
use Rattle.pt_grammar.proofs.CallStarts.{generated_narrows, generated_binds, generated_over, Opening, opening_narrows, opening_binds, put_narrows, put_binds, stars_no_expr, double_no_expr}
use Rattle.pt_grammar.proofs.Bares.{ends_bad, bare_binds, followed_ends, followed_bad, followed_over, comma_carries, several_narrows, several_binds, several_found, several_bad, bare_narrows, yield_shifts, yield_ends, yield_bad, from_shifts, from_binds, some_narrows, some_binds, from_over, some_over}
use Rattle.pt_grammar.specs.Behind.{generator_of, list_comprehension_of}
use Rattle.pt_grammar.proofs.Enclosed.{unstarred_rank, star_false, lined_next, clauses_some, for_carries, others_narrow, Inside as Inside_of_enclosed, open_shifts, nothing_found, value_narrows, value_closes, followed_closes, items_narrow, item_inside, generator_over, generator_narrows, generator_binds, Bracketed, bracket_shifts, empty_found, list_bad, listed_narrow, item_listed, more_listed, comprehension_narrows, comprehension_binds, list_over}
use Rattle.pt_grammar.proofs.Lambdas.{Nameless, lambda_of, lambda_shifts, lambda_over, lambda_binds, body_binds, colon_next}
use Rattle.pt_grammar.proofs.StepExits.{step_fails, none_ok, held_at}
use Rattle.pt_grammar.proofs.ParameterSizes.{number, none_held}
use Rattle.pt_grammar.proofs.ParameterLists.{parameters_start, next_found, more_found, more_bad, comma_shifts as comma_shifts_of_parameter_lists, next_bad, nothing_begins}
use Rattle.pt_grammar.proofs.FormalParameters.{allowed_default, allowed_plain, formal_bad, formal_over, formal_shifts, formal_held, Named, Annotated, Defaulted, annotation_binds, assign_shifts as assign_shifts_of_formal_parameters, default_binds, default_bad, undefaulted_carries, none_found as none_found_of_formal_parameters, absent_found, colon_shifts as colon_shifts_of_formal_parameters, value_binds as value_binds_of_formal_parameters}
use Rattle.pt_grammar.specs.PieceViews.{piece_read}
use Rattle.pt_grammar.specs.QuotedViews.{parts_read, quoted_read}
use Rattle.pt_grammar.specs.Texts.{BeginsPiece, a_string, a_conversion}
use Rattle.pt_grammar.proofs.StringLemmas.{quotes_none, none_fit, begun, again, another_binds, string_fits, string_shorter, strings_found, string_shifts, Inside as Inside_of_string_lemmas, inside_binds, one_more, piece_binds, piece_shorter, pieces_grow, formatted_found, formatted_bad, may_open, field_over, field_shifts, value_binds as value_binds_of_string_lemmas, conversion_binds, spec_binds, AfterConversion, field_fits, spec_shifts, spec_bad, no_spec_found}
use Rattle.pt_grammar.proofs.ClauseReaders.{Iterating, iterating, clause_fits, target_binds, iterable_binds, conditions_made, conditions_shift, conditions_bind, conditions_found, conditions_bad, conditions_grow, clauses_shift, clauses_bind, clauses_found, clauses_bad, clauses_grow}
use Rattle.pt_grammar.proofs.BraceLemmas.{pair_fits, just_bad as just_bad_of_brace_lemmas, spread_shifts, spread_made, keyed_narrows, key_binds, value_made, count_of_entries, entries_one, entries_grow, entries_comma_shifts, entries_another, entries_next, entries_last, entries_last_bad, entries_over, entries_found, entries_bad, unclosed, closed_found, set_of, a_set_left, members_narrows, members_binds, set_fits, clauses_not_none, dict_for, dict_of, a_dict_left, dict_for_fits, dict_fits, entered_for_carries, entered_for_binds, entered_narrows, entered_binds, set_for, set_for_fits, colon_shifts as colon_shifts_of_brace_lemmas, valued_binds, opened_for_carries, opened_for_binds, opened_narrows, content_spread, spread_binds, content_star, star_binds as star_binds_of_brace_lemmas, content_expr, expr_opens, brace_shifts, empty_dict, content_narrows, braces_bad, braces_over}
use Rattle.pt_expr.proofs.reader.Reader.+reading.Goals as goal

pub atom-returns-in_default-sign : goal.atom-returns-in_default-sign
atom-returns-in_default-sign t c = atom_bad c.args.room c.requires.some _ (λ b. sign_bad (next_of c.args.self.now.lexemes) c.in-Some.sign (sym c.in-Some.ensures.value) (λ e. is_not c.same.ensures c.if-same.false e)
    (λ e. is_not c.same-2.ensures c.if-same-2.false e) (λ e. is_not c.same-3.ensures c.if-same-3.false e) (λ e. is_not c.same-4.ensures c.if-same-4.false e) c.in_default-sign.not-Singleton b)

pub primary-returns-in_err-object : goal.primary-returns-in_err-object
primary-returns-in_err-object t c = fails_at _ _ _ _ _ _ c.from_residual.ensures.1 carries_all (primary_binds c.args.room) c.in_err-object.ensures

pub primary-returns : goal.primary-returns
primary-returns t c = carried_all (λ e. exp_of e.tree) _ _ (goes_on carries_all (primary_binds c.args.room) c.in_ok-object.ensures) c.more_trailers.ensures

pub more_trailers-more-init : goal.more_trailers-more-init
more_trailers-more-init t c = record { shorter = omega arith; fits = c.requires.fits; stops = c.requires.apart; carries = carries_all }

pub more_trailers-returns-then-object-room : goal.more_trailers-returns-then-object-room
more_trailers-returns-then-object-room t c = let n = signed_next _ c.in-Some.ensures.value.0 in
    c.more.invariant.carries.refused true _ (trailed_over c.args.room (exp_of c.more.object.tree) _ n.0 c.in-Some.sign n.1 c.in-Some.ensures.value.1 c.more.invariant.fits (omega (arith, c.more.object.exact, c.if-object-room.true)))

pub more_trailers-returns-in_err-trailer : goal.more_trailers-returns-in_err-trailer
more_trailers-returns-in_err-trailer t c = let n = signed_next _ c.in-Some.ensures.value.0 in
    fails_at _ _ _ _ _ _ c.from_residual.ensures.1 (shift_on c.more.invariant.carries (trailer_shifts c.args.room (exp_of c.more.object.tree) n.0 c.in-Some.sign c.in-Some.ensures.value.1) n.1 c.skip.ensures.value)
    (trailer_binds c.args.room (exp_of c.more.object.tree) n.0 c.in-Some.sign c.more.invariant.fits (omega (arith, c.more.object.exact, c.if-object-room.false))) c.in_err-trailer.ensures

pub more_trailers-more-preserved : goal.more_trailers-more-preserved
more_trailers-more-preserved t c = let n = signed_next _ c.in-Some.ensures.value.0 in
    let g = c.in_ok-trailer.ensures in
    let h : depth_exp (exp_of c.more.object.tree) < c.args.room = omega (arith, c.more.object.exact, c.if-object-room.false) in record {
      shorter = omega (arith, c.more.invariant.shorter, found_shorter g, ap length c.skip.ensures.value, some_more _ n.1);
      fits = rw c.in_ok-object.ensures (trailer_grows c.args.room (exp_of c.more.object.tree) (trailer_read c.in_ok-trailer.trailer) c.more.invariant.fits h g.fits);
      stops = rw c.in_ok-object.ensures (trailer_apart (exp_of c.more.object.tree) (trailer_read c.in_ok-trailer.trailer) _);
      carries = rw c.in_ok-object.ensures (goes_on (shift_on c.more.invariant.carries (trailer_shifts c.args.room (exp_of c.more.object.tree) n.0 c.in-Some.sign c.in-Some.ensures.value.1) n.1 c.skip.ensures.value)
          (trailer_binds c.args.room (exp_of c.more.object.tree) n.0 c.in-Some.sign c.more.invariant.fits h) g);
    }

pub more_trailers-returns : goal.more_trailers-returns
more_trailers-returns t c = c.more.invariant.carries.found _ _ (trailed_found c.args.room (exp_of c.more.object.tree) _ c.in_default.ensures.value c.more.invariant.stops c.more.invariant.fits)

pub power-returns-in_err-base : goal.power-returns-in_err-base
power-returns-in_err-base t c = fails_at _ _ _ _ _ _ c.from_residual.ensures.1 carries_all (power_binds c.args.room) c.in_err-base.ensures

pub power-returns : goal.power-returns
power-returns t c = carried_all (λ e. exp_of e.tree) _ _ (goes_on carries_all (power_binds c.args.room) c.in_ok-base.ensures) c.raising.ensures

pub raising-returns-then-not-is : goal.raising-returns-then-not-is
raising-returns-then-not-is t c =
    let a = exp_of c.args.base.tree in
    let n : sign_at (next_of c.args.self.now.lexemes) ≢ Some (Operator (Plain Pow)) = is_not c.is.ensures.value (grind arith) in
    may_none (a_power c.args.room) (Raised a) (IsSign (Operator (Plain Pow))) (RaisedTo c.args.room a) a (raised_may c.args.room a) _ (not_signed _ n) (not_pow a _ n c.requires.stops) c.requires.fits

pub raising-returns-then-base-room : goal.raising-returns-then-base-room
raising-returns-then-base-room t c =
    let a = exp_of c.args.base.tree in
    let n = signed_next _ (is_so c.is.ensures.value (grind arith)) in
    let deep : c.args.room ≤ depth_exp a = omega (arith, c.args.base.exact, c.if-base-room.true) in
    may_over (a_power c.args.room) (Raised a) (IsSign (Operator (Plain Pow))) (RaisedTo c.args.room a) a (raised_may c.args.room a) _ _ n.1 is_sign c.requires.fits (raised_deep c.args.room a deep)
    (some_name ∷ []) (power_of a some_exp) (λ z. made name_factor)

-- behind `**`
in_power : {d l : ℕ} (a : Exp) {mid rest : List Lexeme} → next_of mid ≡ Some (sign l (Operator (Plain Pow))) → rest ≡ behind mid
    → Carries (left (a_power d) (Raised a)) mid (left (a_power d) (Made (a_factor (d - 1)) (power_of a))) rest
in_power {d} {l} a h k = shift_on carries_all (may_shift (a_power d) (Raised a) (IsSign (Operator (Plain Pow))) (RaisedTo d a) a (raised_may d a) (sign l (Operator (Plain Pow))) is_sign) h k

pub raising-returns-in_err-exponent : goal.raising-returns-in_err-exponent
raising-returns-in_err-exponent t c =
    let n = signed_next _ (is_so c.is.ensures.value (grind arith)) in
    fails_at _ _ _ _ _ _ c.from_residual.ensures.1 (in_power (exp_of c.args.base.tree) n.1 c.skip.ensures.value)
    (raised_binds c.args.room (exp_of c.args.base.tree) c.requires.fits (omega (arith, c.args.base.exact, c.if-base-room.false))) c.in_err-exponent.ensures

pub raising-returns : goal.raising-returns
raising-returns t c =
    let g = c.in_ok-exponent.ensures in
    let n = signed_next _ (is_so c.is.ensures.value (grind arith)) in
    rw c.in_ok-binary.ensures (made_found (a_power c.args.room) (in_power (exp_of c.args.base.tree) n.1 c.skip.ensures.value)
    (raised_binds c.args.room (exp_of c.args.base.tree) c.requires.fits (omega (arith, c.args.base.exact, c.if-base-room.false))) g g.stops
    (omega (arith, c.requires.fits.0, g.fits.0, c.args.base.exact, c.if-base-room.false), omega (arith, c.requires.fits.1, g.fits.1)))

pub factor-returns-in_default : goal.factor-returns-in_default
factor-returns-in_default t c = carried_all (λ e. exp_of e.tree) _ _ (narrow_carries (power_narrows c.args.room _ (sym c.in_default.ensures.value))) c.power.ensures

pub factor-returns-then-room-eq1 : goal.factor-returns-then-room-eq1
factor-returns-then-room-eq1 t c = let n = unary_next _ _ (sym c.in-Some.ensures.value) in
    rw c.if-room-eq1.true (unary_over _ n.0 n.1 _ n.2 n.3)

pub factor-returns-in_err-operand : goal.factor-returns-in_err-operand
factor-returns-in_err-operand t c = let n = unary_next _ _ (sym c.in-Some.ensures.value) in
    fails_at _ _ _ _ _ _ c.from_residual.ensures.1 (shift_on carries_all (unary_shifts c.args.room n.0 n.1 c.in-Some.operator n.3) n.2 c.skip.ensures.value) (unary_binds c.args.room n.0 _ c.requires.some) c.in_err-operand.ensures

pub factor-returns : goal.factor-returns
factor-returns t c = let n = unary_next _ _ (sym c.in-Some.ensures.value) in
    let g = c.in_ok-operand.ensures in
    rw (c.in_ok-unary.ensures, c.line-line.ensures, ap line_at n.2)
    (made_found (a_factor c.args.room) (shift_on carries_all (unary_shifts c.args.room n.0 n.1 c.in-Some.operator n.3) n.2 c.skip.ensures.value) (unary_binds c.args.room n.0 _ c.requires.some) g g.stops
    (omega (arith, g.fits.0), g.fits.1))

pub binary-returns-then-level-eq0 : goal.binary-returns-then-level-eq0
binary-returns-then-level-eq0 t c = carried_all (λ e. exp_of e.tree) _ _ (narrow_carries (factors c.args.level c.args.room c.if-level-eq0.true _)) c.factor.ensures

pub binary-returns-in_err-first : goal.binary-returns-in_err-first
binary-returns-in_err-first t c = fails_at _ _ _ _ _ _ c.from_residual.ensures.1 carries_all (binary_binds c.args.level (c.args.level - 1) c.args.room (omega (arith, c.if-level-eq0.false))) c.in_err-first.ensures

pub binary-returns : goal.binary-returns
binary-returns t c = carried_all (λ e. exp_of e.tree) _ _ (goes_on carries_all (binary_binds c.args.level (c.args.level - 1) c.args.room (omega (arith, c.if-level-eq0.false))) c.in_ok-first.ensures) c.more_operands.ensures

pub more_operands-more-init : goal.more_operands-more-init
more_operands-more-init t c = record { shorter = omega arith; fits = c.requires.fits; stops = c.requires.stops; carries = carries_all }

pub more_operands-returns-then-left-room : goal.more_operands-returns-then-left-room
more_operands-returns-then-left-room t c = let n = signed_next _ c.in-Some.ensures.value.0 in
    c.more.invariant.carries.refused true _
    (operated_over c.args.level (c.args.level - 1) c.args.room (omega (arith, c.requires.some_level)) _ _ n.0 c.in-Some.operator n.1 (c.in-Some.ensures.value.1 ∙ add-one _) c.more.invariant.fits (omega (arith, c.more.left.exact, c.if-left-room.true)))

pub more_operands-returns-in_err-right : goal.more_operands-returns-in_err-right
more_operands-returns-in_err-right t c = let n = signed_next _ c.in-Some.ensures.value.0 in
    fails_at _ _ _ _ _ _ c.from_residual.ensures.1 (shift_on c.more.invariant.carries (operator_shifts c.args.level (c.args.level - 1) c.args.room (omega (arith, c.requires.some_level)) _ n.0 c.in-Some.operator (c.in-Some.ensures.value.1 ∙ add-one _)) n.1 c.skip.ensures.value)
    (operand_binds c.args.level (c.args.level - 1) c.args.room (omega (arith, c.requires.some_level)) _ n.0 c.in-Some.operator c.more.invariant.fits (omega (arith, c.more.left.exact, c.if-left-room.false))) c.in_err-right.ensures

pub more_operands-more-preserved : goal.more_operands-more-preserved
more_operands-more-preserved t c = let n = signed_next _ c.in-Some.ensures.value.0 in
    let g = c.in_ok-right.ensures in record {
      shorter = omega (arith, c.more.invariant.shorter, found_shorter g, ap length c.skip.ensures.value, some_more _ n.1);
      fits = rw c.in_ok-left.ensures (omega (arith, c.more.invariant.fits.0, g.fits.0, c.more.left.exact, c.if-left-room.false), omega (arith, c.more.invariant.fits.1, g.fits.1));
      stops = rw c.in_ok-left.ensures (omega (arith, g.stops.0), g.stops.1);
      carries = rw c.in_ok-left.ensures (goes_on (shift_on c.more.invariant.carries (operator_shifts c.args.level (c.args.level - 1) c.args.room (omega (arith, c.requires.some_level)) _ n.0 c.in-Some.operator (c.in-Some.ensures.value.1 ∙ add-one _)) n.1 c.skip.ensures.value)
          (operand_binds c.args.level (c.args.level - 1) c.args.room (omega (arith, c.requires.some_level)) _ n.0 c.in-Some.operator c.more.invariant.fits (omega (arith, c.more.left.exact, c.if-left-room.false))) g);
    }

pub more_operands-returns : goal.more_operands-returns
more_operands-returns t c = c.more.invariant.carries.found _ _ (operated_found c.args.level (c.args.level - 1) c.args.room (omega (arith, c.requires.some_level)) _ _ (λ o e k. c.in_default.ensures.value o e (k ∙ sym (add-one c.args.level)))
    (rank_up (suc c.args.level) (omega arith) (omega arith) (next_of c.more.self.lexemes) (omega (arith, c.more.invariant.stops.0)) (λ o e k. c.in_default.ensures.value o e (k ∙ sym (add-one c.args.level))), c.more.invariant.stops.1) c.more.invariant.fits)

pub link-returns-in_err-right : goal.link-returns-in_err-right
link-returns-in_err-right t c = fails_at _ _ _ _ _ _ c.from_residual.ensures.1 carries_all (link_binds c.args.operator c.args.room) c.in_err-right.ensures

pub link-returns : goal.link-returns
link-returns t c = let f = c.in_ok-right.ensures in (goes_on carries_all (link_binds c.args.operator c.args.room) f).found _ _ (just_found (a_link c.args.operator c.args.room) _ _ f.stops f.fits)

pub comparing-returns-then-same : goal.comparing-returns-then-same
comparing-returns-then-same t c = carried_all link_read _ _ (narrow_carries (in_narrows c.args.room c.args.sign _ (is_so c.same.ensures c.if-same.true))) c.link.ensures

pub comparing-returns-then-not-take : goal.comparing-returns-then-not-take
comparing-returns-then-not-take t c = let m = c.take.ensures.none (grind arith) in rw m.1 (not_bad c.args.room c.args.sign _ c.requires.some (is_so c.same-2.ensures c.if-same-2.true) m.0)

pub comparing-returns-then-same-2 : goal.comparing-returns-then-same-2
comparing-returns-then-same-2 t c = let m = c.take.ensures.found (grind arith) in let n = signed_next _ m.0 in carried_all link_read _ _ (shift_on carries_all (not_in_shifts c.args.room c.args.sign n.0 (is_so c.same-2.ensures c.if-same-2.true)) n.1 m.1) c.link-then-same-2.ensures

pub comparing-returns-then-take : goal.comparing-returns-then-take
comparing-returns-then-take t c = let m = c.take-then-same-3.ensures.found (grind arith) in let n = signed_next _ m.0 in carried_all link_read _ _ (shift_on carries_all (is_not_shifts c.args.room c.args.sign n.0 (is_so c.same-3.ensures c.if-same-3.true)) n.1 m.1) c.link-then-take.ensures

pub comparing-returns-then-same-3 : goal.comparing-returns-then-same-3
comparing-returns-then-same-3 t c = let m = c.take-then-same-3.ensures.none (grind arith) in
    carried_all link_read _ _ (subst (λ u. Carries (a_comparing c.args.room c.args.sign) c.args.self.now.lexemes (a_link relation.Is c.args.room) u) (sym m.1)
    (narrow_carries (is_narrows c.args.room c.args.sign _ (is_so c.same-3.ensures c.if-same-3.true) m.0))) c.link-then-same-3.ensures

pub comparing-returns : goal.comparing-returns
comparing-returns t c = carried_all link_read _ _ (narrow_carries (sign_narrows c.args.room c.args.sign c.in-Comparison.operator _ c.in-Comparison.is)) c.link-in-Comparison.ensures

pub comparisons-returns-in_err-left : goal.comparisons-returns-in_err-left
comparisons-returns-in_err-left t c = fails_at _ _ _ _ _ _ c.from_residual.ensures.1 carries_all (chain_binds c.args.room) c.in_err-left.ensures

pub comparisons-returns : goal.comparisons-returns
comparisons-returns t c = carried_all (λ e. exp_of e.tree) _ _ (goes_on carries_all (chain_binds c.args.room) c.in_ok-left.ensures) c.more_comparisons.ensures

pub more_comparisons-returns-in_default : goal.more_comparisons-returns-in_default
more_comparisons-returns-in_default t c = chain_found c.args.room _ [] _ c.in_default.ensures.value (no_rank 8 (omega arith) (next_of c.args.self.now.lexemes) (omega (arith, c.requires.stops.0)) c.in_default.ensures.value, c.requires.stops.1) c.requires.fits

pub more_comparisons-returns-then-operand-room : goal.more_comparisons-returns-then-operand-room
more_comparisons-returns-then-operand-room t c = let n = signed_next _ c.in-Some.ensures.value.0 in
    chain_over c.args.room _ [] _ n.0 c.in-Some.sign n.1 c.in-Some.ensures.value.1 c.requires.fits (omega (arith, c.args.operand.exact, c.if-operand-room.true))

pub more_comparisons-returns-in_err-first : goal.more_comparisons-returns-in_err-first
more_comparisons-returns-in_err-first t c = let n = signed_next _ c.in-Some.ensures.value.0 in
    fails_at _ _ _ _ _ _ c.from_residual.ensures.1 (shift_on carries_all (next_shifts c.args.room _ [] n.0 c.in-Some.sign c.in-Some.ensures.value.1) n.1 c.skip.ensures.value)
    (next_binds_of_relations c.args.room _ [] n.0 c.in-Some.sign (omega (arith, c.args.operand.exact, c.if-operand-room.false)) c.requires.fits) c.in_err-first.ensures

pub more_comparisons-more-init : goal.more_comparisons-more-init
more_comparisons-more-init t c =
    let g = c.in_ok-first.ensures in
    let n = signed_next _ c.in-Some.ensures.value.0 in
    let h : depth_exp (exp_of c.args.operand.tree) < c.args.room = omega (arith, c.args.operand.exact, c.if-operand-room.false) in record {
      shorter = omega (arith, found_shorter g, ap length c.skip.ensures.value, some_more _ n.1);
      fits = rw c.new-more.ensures (compared_grows c.args.room (exp_of c.args.operand.tree) [] (link_read c.in_ok-first.first) h c.requires.fits g.fits);
      stops = rw c.new-more.ensures (compared_stops (exp_of c.args.operand.tree) [] (link_read c.in_ok-first.first) _ g.stops);
      carries = rw c.new-more.ensures (goes_on (shift_on carries_all (next_shifts c.args.room _ [] n.0 c.in-Some.sign c.in-Some.ensures.value.1) n.1 c.skip.ensures.value)
          (next_binds_of_relations c.args.room _ [] n.0 c.in-Some.sign (omega (arith, c.args.operand.exact, c.if-operand-room.false)) c.requires.fits) g);
    }

pub more_comparisons-returns-in_err-next : goal.more_comparisons-returns-in_err-next
more_comparisons-returns-in_err-next t c = let n = signed_next _ c.in-Some-comparing_sign.ensures.value.0 in
    fails_at _ _ _ _ _ _ c.from_residual-in_err-next.ensures.1 (shift_on c.more.invariant.carries (next_shifts c.args.room _ _ n.0 c.in-Some-comparing_sign.sign c.in-Some-comparing_sign.ensures.value.1) n.1 c.skip-in-Some-comparing_sign.ensures.value)
    (next_binds_of_relations c.args.room _ _ n.0 c.in-Some-comparing_sign.sign (omega (arith, c.args.operand.exact, c.if-operand-room.false)) c.more.invariant.fits) c.in_err-next.ensures

pub more_comparisons-more-preserved : goal.more_comparisons-more-preserved
more_comparisons-more-preserved t c =
    let n = signed_next _ c.in-Some-comparing_sign.ensures.value.0 in
    let g = c.in_ok-next.ensures in
    let a = exp_of c.args.operand.tree in
    let cs = link_read c.in_ok-first.first ∷ links_in c.more.more.items in
    let h : depth_exp a < c.args.room = omega (arith, c.args.operand.exact, c.if-operand-room.false) in record {
      shorter = omega (arith, c.more.invariant.shorter, found_shorter g, ap length c.skip-in-Some-comparing_sign.ensures.value, some_more _ n.1);
      fits = rw c.in_ok-more.ensures (compared_grows c.args.room a cs (link_read c.in_ok-next.next) h c.more.invariant.fits g.fits);
      stops = rw c.in_ok-more.ensures (compared_stops a cs (link_read c.in_ok-next.next) _ g.stops);
      carries = rw c.in_ok-more.ensures (goes_on (shift_on c.more.invariant.carries (next_shifts c.args.room _ _ n.0 c.in-Some-comparing_sign.sign c.in-Some-comparing_sign.ensures.value.1) n.1 c.skip-in-Some-comparing_sign.ensures.value)
          (next_binds_of_relations c.args.room _ _ n.0 c.in-Some-comparing_sign.sign (omega (arith, c.args.operand.exact, c.if-operand-room.false)) c.more.invariant.fits) g);
    }

pub more_comparisons-returns : goal.more_comparisons-returns
more_comparisons-returns t c = rw c.in_ok-comparison.ensures
    (c.more.invariant.carries.found _ _
    (chain_found c.args.room _ _ _ c.in_default-comparing_sign.ensures.value
    (no_rank 8 (omega arith) (next_of c.more.self.lexemes) (omega (arith, c.more.invariant.stops.0)) c.in_default-comparing_sign.ensures.value, c.more.invariant.stops.1) c.more.invariant.fits))

pub negation-returns-then-not-is : goal.negation-returns-then-not-is
negation-returns-then-not-is t c = carried_all (λ e. exp_of e.tree) _ _ (narrow_carries (comparisons_narrow c.args.room _ (λ e. is_not c.is.ensures.value (grind arith) e))) c.comparisons.ensures

pub negation-returns-then-room-eq1 : goal.negation-returns-then-room-eq1
negation-returns-then-room-eq1 t c = let n = signed_next _ (is_so c.is.ensures.value (grind arith)) in rw c.if-room-eq1.true (not_over _ n.0 n.1)

pub negation-returns-in_err-operand : goal.negation-returns-in_err-operand
negation-returns-in_err-operand t c = let n = signed_next _ (is_so c.is.ensures.value (grind arith)) in
    fails_at _ _ _ _ _ _ c.from_residual.ensures.1 (shift_on carries_all (not_shifts c.args.room n.0) n.1 c.skip.ensures.value) (not_binds c.args.room n.0 c.requires.some) c.in_err-operand.ensures

pub negation-returns : goal.negation-returns
negation-returns t c = let n = signed_next _ (is_so c.is.ensures.value (grind arith)) in
    let g = c.in_ok-operand.ensures in
    rw (c.in_ok-negation.ensures, c.line-line.ensures, ap line_at n.1) (made_found (a_negation c.args.room) (shift_on carries_all (not_shifts c.args.room n.0) n.1 c.skip.ensures.value) (not_binds c.args.room n.0 c.requires.some) g g.stops (omega (arith, g.fits.0), g.fits.1))

pub conjunction-returns-in_err-first : goal.conjunction-returns-in_err-first
conjunction-returns-in_err-first t c = fails_at _ _ _ _ _ _ c.from_residual.ensures.1 carries_all (conjunction_binds c.args.room) c.in_err-first.ensures

pub conjunction-returns : goal.conjunction-returns
conjunction-returns t c = carried_all (λ e. exp_of e.tree) _ _ (goes_on carries_all (conjunction_binds c.args.room) c.in_ok-first.ensures) c.more_conjuncts.ensures

pub more_conjuncts-more-init : goal.more_conjuncts-more-init
more_conjuncts-more-init t c = record { shorter = omega arith; fits = rw c.new-more.ensures c.requires.fits; stops = rw c.new-more.ensures c.requires.stops; carries = rw c.new-more.ensures carries_all }

pub more_conjuncts-returns-then-first-room : goal.more_conjuncts-returns-then-first-room
more_conjuncts-returns-then-first-room t c = let n = signed_next _ (is_so c.is.ensures.value c.more-test.true) in
    c.more.invariant.carries.refused true _ (conjunctions_over c.args.room _ _ _ n.0 n.1 c.more.invariant.fits (omega (arith, c.args.first.exact, c.if-first-room.true)))

pub more_conjuncts-returns-in_err-next : goal.more_conjuncts-returns-in_err-next
more_conjuncts-returns-in_err-next t c = let n = signed_next _ (is_so c.is.ensures.value c.more-test.true) in
    fails_at _ _ _ _ _ _ c.from_residual.ensures.1 (shift_on c.more.invariant.carries (conjunctions_shift c.args.room _ _ n.0) n.1 c.skip.ensures.value)
    (conjunctions_bind c.args.room _ _ n.0 (omega (arith, c.args.first.exact, c.if-first-room.false)) c.more.invariant.fits) c.in_err-next.ensures

pub more_conjuncts-more-preserved : goal.more_conjuncts-more-preserved
more_conjuncts-more-preserved t c = let n = signed_next _ (is_so c.is.ensures.value c.more-test.true) in
    let g = c.in_ok-next.ensures in record {
      shorter = omega (arith, c.more.invariant.shorter, found_shorter g, ap length c.skip.ensures.value, some_more _ n.1);
      fits = rw c.in_ok-more.ensures
          (joined_grows S.and (λ l b es. refl) (λ l b es. refl) (λ l b es. refl) c.args.room (exp_of c.args.first.tree) (map exp_of c.more.more.items) (exp_of c.in_ok-next.next.tree) (omega (arith, c.args.first.exact, c.if-first-room.false)) c.more.invariant.fits g.fits);
      stops = rw c.in_ok-more.ensures (conjunctions_stop (exp_of c.args.first.tree) (map exp_of c.more.more.items) (exp_of c.in_ok-next.next.tree) _ g.stops);
      carries = rw c.in_ok-more.ensures (goes_on (shift_on c.more.invariant.carries (conjunctions_shift c.args.room _ _ n.0) n.1 c.skip.ensures.value)
          (conjunctions_bind c.args.room _ _ n.0 (omega (arith, c.args.first.exact, c.if-first-room.false)) c.more.invariant.fits) g);
    }

pub more_conjuncts-returns : goal.more_conjuncts-returns
more_conjuncts-returns t c = rw c.in_ok-conjunction.ensures
    (c.more.invariant.carries.found _ _ (conjunctions_found c.args.room _ _ _ (λ e. is_not c.is.ensures.value c.more-test.false e) c.more.invariant.stops c.more.invariant.fits))

pub disjunction-returns-in_err-first : goal.disjunction-returns-in_err-first
disjunction-returns-in_err-first t c = fails_at _ _ _ _ _ _ c.from_residual.ensures.1 carries_all (disjunction_binds c.args.room) c.in_err-first.ensures

pub disjunction-returns : goal.disjunction-returns
disjunction-returns t c = carried_all (λ e. exp_of e.tree) _ _ (goes_on carries_all (disjunction_binds c.args.room) c.in_ok-first.ensures) c.more_disjuncts.ensures

pub more_disjuncts-more-init : goal.more_disjuncts-more-init
more_disjuncts-more-init t c = record { shorter = omega arith; fits = rw c.new-more.ensures c.requires.fits; stops = rw c.new-more.ensures c.requires.stops; carries = rw c.new-more.ensures carries_all }

pub more_disjuncts-returns-then-first-room : goal.more_disjuncts-returns-then-first-room
more_disjuncts-returns-then-first-room t c = let n = signed_next _ (is_so c.is.ensures.value c.more-test.true) in
    c.more.invariant.carries.refused true _ (disjunctions_over c.args.room _ _ _ n.0 n.1 c.more.invariant.fits (omega (arith, c.args.first.exact, c.if-first-room.true)))

pub more_disjuncts-returns-in_err-next : goal.more_disjuncts-returns-in_err-next
more_disjuncts-returns-in_err-next t c = let n = signed_next _ (is_so c.is.ensures.value c.more-test.true) in
    fails_at _ _ _ _ _ _ c.from_residual.ensures.1 (shift_on c.more.invariant.carries (disjunctions_shift c.args.room _ _ n.0) n.1 c.skip.ensures.value)
    (disjunctions_bind c.args.room _ _ n.0 (omega (arith, c.args.first.exact, c.if-first-room.false)) c.more.invariant.fits) c.in_err-next.ensures

pub more_disjuncts-more-preserved : goal.more_disjuncts-more-preserved
more_disjuncts-more-preserved t c = let n = signed_next _ (is_so c.is.ensures.value c.more-test.true) in
    let g = c.in_ok-next.ensures in record {
      shorter = omega (arith, c.more.invariant.shorter, found_shorter g, ap length c.skip.ensures.value, some_more _ n.1);
      fits = rw c.in_ok-more.ensures
          (joined_grows S.or (λ l b es. refl) (λ l b es. refl) (λ l b es. refl) c.args.room (exp_of c.args.first.tree) (map exp_of c.more.more.items) (exp_of c.in_ok-next.next.tree) (omega (arith, c.args.first.exact, c.if-first-room.false)) c.more.invariant.fits g.fits);
      stops = rw c.in_ok-more.ensures (disjunctions_stop (exp_of c.args.first.tree) (map exp_of c.more.more.items) (exp_of c.in_ok-next.next.tree) _ g.stops);
      carries = rw c.in_ok-more.ensures (goes_on (shift_on c.more.invariant.carries (disjunctions_shift c.args.room _ _ n.0) n.1 c.skip.ensures.value)
          (disjunctions_bind c.args.room _ _ n.0 (omega (arith, c.args.first.exact, c.if-first-room.false)) c.more.invariant.fits) g);
    }

pub more_disjuncts-returns : goal.more_disjuncts-returns
more_disjuncts-returns t c = rw c.in_ok-disjunction.ensures
    (c.more.invariant.carries.found _ _ (disjunctions_found c.args.room _ _ _ (λ e. is_not c.is.ensures.value c.more-test.false e) c.more.invariant.stops c.more.invariant.fits))

pub expr-returns-in_err-body : goal.expr-returns-in_err-body
expr-returns-in_err-body t c = fails_at (an_expr c.args.room) (λ e. exp_of e.tree) _ _ _ _ c.from_residual.ensures.1 (expr_carries c.args.room _ (is_not c.is.ensures.value (grind arith))) (expr_binds c.args.room) c.in_err-body.ensures

pub expr-returns : goal.expr-returns
expr-returns t c = carried_all (λ e. exp_of e.tree) _ _ (goes_on (expr_carries c.args.room _ (is_not c.is.ensures.value (grind arith))) (expr_binds c.args.room) c.in_ok-body.ensures) c.choosing.ensures

pub choosing-returns-then-not-is : goal.choosing-returns-then-not-is
choosing-returns-then-not-is t c =
    let a = exp_of c.args.body.tree in
    let n : sign_at (next_of c.args.self.now.lexemes) ≢ Some (word If) = is_not c.is.ensures.value (grind arith) in
    may_none (an_expr c.args.room) (Choice a) (IsSign (word If)) (λ t. Alternatives a) a (choice_may c.args.room a) _ (not_signed _ n) (not_if a _ n c.requires.stops) c.requires.fits

pub choosing-returns-then-body-room : goal.choosing-returns-then-body-room
choosing-returns-then-body-room t c =
    let n = signed_next _ (is_so c.is.ensures.value (grind arith)) in
    let deep : c.args.room ≤ depth_exp (exp_of c.args.body.tree) = omega (arith, c.args.body.exact, c.if-body-room.true) in
    may_over (an_expr c.args.room) (Choice _) (IsSign (word If)) (λ t. Alternatives _) _ (choice_may c.args.room _) _ _ n.1 is_sign c.requires.fits (choice_deep c.args.room (exp_of c.args.body.tree) deep) (some_name ∷ (sign 0 (word Else) ∷ (some_name ∷ []))) (conditional_of (exp_of c.args.body.tree) some_exp some_exp) (choice_far (exp_of c.args.body.tree))

-- behind `if`
in_choice : {d l : ℕ} (a : Exp) {mid rest : List Lexeme} → next_of mid ≡ Some (sign l (word If)) → rest ≡ behind mid
    → Carries (left (an_expr d) (Choice a)) mid (left (an_expr d) (Alternatives a)) rest
in_choice {d} {l} a h k = shift_on carries_all (may_shift (an_expr d) (Choice a) (IsSign (word If)) (λ t. Alternatives a) a (choice_may d a) (sign l (word If)) is_sign) h k

pub choosing-returns-in_err-test : goal.choosing-returns-in_err-test
choosing-returns-in_err-test t c =
    let n = signed_next _ (is_so c.is.ensures.value (grind arith)) in
    fails_at _ _ _ _ _ _ c.from_residual.ensures.1 (in_choice (exp_of c.args.body.tree) n.1 c.skip.ensures.value) (test_binds c.args.room (exp_of c.args.body.tree) c.requires.fits (omega (arith, c.args.body.exact, c.if-body-room.false))) c.in_err-test.ensures

pub choosing-returns-then-not-take : goal.choosing-returns-then-not-take
choosing-returns-then-not-take t c =
    let g = c.in_ok-test.ensures in
    let n = signed_next _ (is_so c.is.ensures.value (grind arith)) in
    let m = c.take.ensures.none (grind arith) in
    rw m.1 ((goes_on (in_choice (exp_of c.args.body.tree) n.1 c.skip.ensures.value) (test_binds c.args.room (exp_of c.args.body.tree) c.requires.fits (omega (arith, c.args.body.exact, c.if-body-room.false))) g).refused false _
    (through_bad (an_expr c.args.room) (IsSign (word Else)) (Made (an_expr (c.args.room - 1)) (conditional_of (exp_of c.args.body.tree) (exp_of c.in_ok-test.test.tree))) _ (not_signed _ m.0) (sign 0 (word Else)) is_sign (some_name ∷ []) (conditional_of (exp_of c.args.body.tree) (exp_of c.in_ok-test.test.tree) some_exp)
    (omega (arith, c.requires.fits.0, g.fits.0, c.args.body.exact, c.if-body-room.false, depth_some (exp_of c.in_ok-test.test.tree)), omega (arith, c.requires.fits.1, g.fits.1)) (λ z. made name_expr)))

pub choosing-returns-in_err-otherwise : goal.choosing-returns-in_err-otherwise
choosing-returns-in_err-otherwise t c =
    let g = c.in_ok-test.ensures in
    let n = signed_next _ (is_so c.is.ensures.value (grind arith)) in
    let m = c.take.ensures.found (grind arith) in
    let k = signed_next _ m.0 in
    fails_at _ _ _ _ _ _ c.from_residual-in_err-otherwise.ensures.1 (shift_on (goes_on (in_choice (exp_of c.args.body.tree) n.1 c.skip.ensures.value) (test_binds c.args.room (exp_of c.args.body.tree) c.requires.fits (omega (arith, c.args.body.exact, c.if-body-room.false))) g) (through_shifts (an_expr c.args.room) (IsSign (word Else)) (Made (an_expr (c.args.room - 1)) (conditional_of (exp_of c.args.body.tree) (exp_of c.in_ok-test.test.tree))) (sign k.0 (word Else)) is_sign) k.1 m.1)
    (otherwise_binds c.args.room (exp_of c.args.body.tree) (exp_of c.in_ok-test.test.tree) c.requires.fits (omega (arith, c.args.body.exact, c.if-body-room.false)) g.fits (omega (arith, g.fits.0, depth_some (exp_of c.in_ok-test.test.tree)))) c.in_err-otherwise.ensures

pub choosing-returns : goal.choosing-returns
choosing-returns t c =
    let g = c.in_ok-test.ensures in
    let o = c.in_ok-otherwise.ensures in
    let n = signed_next _ (is_so c.is.ensures.value (grind arith)) in
    let m = c.take.ensures.found (grind arith) in
    let k = signed_next _ m.0 in
    rw c.in_ok-conditional.ensures (made_found (an_expr c.args.room) (shift_on (goes_on (in_choice (exp_of c.args.body.tree) n.1 c.skip.ensures.value) (test_binds c.args.room (exp_of c.args.body.tree) c.requires.fits (omega (arith, c.args.body.exact, c.if-body-room.false))) g) (through_shifts (an_expr c.args.room) (IsSign (word Else)) (Made (an_expr (c.args.room - 1)) (conditional_of (exp_of c.args.body.tree) (exp_of c.in_ok-test.test.tree))) (sign k.0 (word Else)) is_sign) k.1 m.1)
    (otherwise_binds c.args.room (exp_of c.args.body.tree) (exp_of c.in_ok-test.test.tree) c.requires.fits (omega (arith, c.args.body.exact, c.if-body-room.false)) g.fits (omega (arith, g.fits.0, depth_some (exp_of c.in_ok-test.test.tree)))) o o.stops
    (omega (arith, c.requires.fits.0, g.fits.0, o.fits.0, c.args.body.exact, c.if-body-room.false), omega (arith, c.requires.fits.1, g.fits.1, o.fits.1)))

-- the tokens that are left grow fewer
pub more_operands-binary-requires : goal.more_operands-binary-requires
more_operands-binary-requires t c = omega (arith, depth_some (exp_of c.more.left.tree), c.more.invariant.shorter, c.in-Some.ensures.some, c.skip.ensures.shorter)

pub more_comparisons-comparing-requires : goal.more_comparisons-comparing-requires
more_comparisons-comparing-requires t c = omega (arith, c.in-Some.ensures.value.1, depth_some (exp_of c.args.operand.tree), c.in-Some.ensures.some, c.skip.ensures.shorter)

pub more_comparisons-comparing-requires-in-Some-comparing_sign : goal.more_comparisons-comparing-requires-in-Some-comparing_sign
more_comparisons-comparing-requires-in-Some-comparing_sign t c = omega (arith, c.in-Some-comparing_sign.ensures.value.1, depth_some (exp_of c.args.operand.tree), c.more.invariant.shorter, c.in-Some-comparing_sign.ensures.some, c.skip-in-Some-comparing_sign.ensures.shorter)

pub more_conjuncts-negation-requires : goal.more_conjuncts-negation-requires
more_conjuncts-negation-requires t c = omega (arith, depth_some (exp_of c.args.first.tree), c.more.invariant.shorter, c.is.ensures.some c.more-test.true, c.skip.ensures.shorter)

pub more_disjuncts-conjunction-requires : goal.more_disjuncts-conjunction-requires
more_disjuncts-conjunction-requires t c = omega (arith, depth_some (exp_of c.args.first.tree), c.more.invariant.shorter, c.is.ensures.some c.more-test.true, c.skip.ensures.shorter)

pub choosing-disjunction-requires : goal.choosing-disjunction-requires
choosing-disjunction-requires t c = omega (arith, depth_some (exp_of c.args.body.tree), c.is.ensures.some (grind arith), c.skip.ensures.shorter)

pub choosing-expr-requires : goal.choosing-expr-requires
choosing-expr-requires t c = omega (arith, depth_some (exp_of c.args.body.tree), c.is.ensures.some (grind arith), c.skip.ensures.shorter, found_shorter c.in_ok-test.ensures, c.take.ensures.shorter (grind arith))

pub raising-factor-requires : goal.raising-factor-requires
raising-factor-requires t c = omega (arith, depth_some (exp_of c.args.base.tree), c.is.ensures.some (grind arith), c.skip.ensures.shorter)

-- items and displays
pub unstarred-returns-in-Whole : goal.unstarred-returns-in-Whole
unstarred-returns-in-Whole t c = rw c.in-Whole.is (carried_all (λ e. exp_of e.tree) _ _ (narrow_carries (expr_narrows c.args.room _ c.requires.none)) c.expr.ensures)

pub unstarred-returns-in-Target : goal.unstarred-returns-in-Target
unstarred-returns-in-Target t c = rw c.in-Target.is (carried_all (λ e. exp_of e.tree) _ _ (narrow_carries (operand_narrows c.args.room _ c.requires.none)) c.binary.ensures)

pub item-returns-in_err-value : goal.item-returns-in_err-value
item-returns-in_err-value t c = let n = signed_next _ (is_so c.is.ensures.value (grind arith)) in
    fails_at _ _ _ _ _ _ c.from_residual.ensures.1 (shift_on carries_all (starred_shifts c.args.part c.args.room n.0) n.1 c.skip.ensures.value) (starred_binds c.args.part c.args.room n.0) c.in_err-value.ensures

pub item-returns : goal.item-returns
item-returns t c = let n = signed_next _ (is_so c.is.ensures.value (grind arith)) in
    let g = c.in_ok-value.ensures in
    rw (c.in_ok-starred.ensures, c.line-line.ensures, ap line_at n.1)
    (made_found (an_item c.args.part c.args.room) (shift_on carries_all (starred_shifts c.args.part c.args.room n.0) n.1 c.skip.ensures.value) (starred_binds c.args.part c.args.room n.0) g g.stops g.fits)

pub more_items-more-init : goal.more_items-more-init
more_items-more-init t c = record { shorter = omega arith; fits = c.requires.fits; stops = c.requires.stops; carries = carries_all }

pub more_items-returns-then-not-begins_item : goal.more_items-returns-then-not-begins_item
more_items-returns-then-not-begins_item t c =
    let m = c.take.ensures.found c.more-test.true in
    let n = signed_next _ m.0 in
    let b : c.begins_item.result ≡ false = grind arith in
    (shift_on c.more.invariant.carries (items_comma c.args.part c.args.room _ n.0) n.1 m.1).found _ _ (items_last c.args.part c.args.room _ _ (sym c.begins_item.ensures ∙ b) c.more.invariant.fits)

pub more_items-returns-then-len-ge-MAX_ITEMS : goal.more_items-returns-then-len-ge-MAX_ITEMS
more_items-returns-then-len-ge-MAX_ITEMS t c =
    let m = c.take.ensures.found c.more-test.true in
    let n = signed_next _ m.0 in
    let b : c.begins_item.result ≡ true = grind arith in
    (shift_on c.more.invariant.carries (items_comma c.args.part c.args.room _ n.0) n.1 m.1).refused true _
    (items_over c.args.part c.args.room (map exp_of c.more.items.items) _ (sym c.begins_item.ensures ∙ b) c.more.invariant.fits (omega (arith, c.if-len-ge-MAX_ITEMS.true, c.len.ensures, count_length exp_of c.more.items.items)))

pub more_items-returns-in_err-next : goal.more_items-returns-in_err-next
more_items-returns-in_err-next t c =
    let m = c.take.ensures.found c.more-test.true in
    let n = signed_next _ m.0 in
    let b : c.begins_item.result ≡ true = grind arith in
    fails_at _ _ _ _ _ _ c.from_residual.ensures.1 (then_on (shift_on c.more.invariant.carries (items_comma c.args.part c.args.room (map exp_of c.more.items.items) n.0) n.1 m.1) (items_another c.args.part c.args.room (map exp_of c.more.items.items) _ (sym c.begins_item.ensures ∙ b)))
    (items_next c.args.part c.args.room (map exp_of c.more.items.items) c.more.invariant.fits (omega (arith, c.if-len-ge-MAX_ITEMS.false, c.len.ensures, count_length exp_of c.more.items.items))) c.in_err-next.ensures

pub more_items-more-preserved : goal.more_items-more-preserved
more_items-more-preserved t c =
    let m = c.take.ensures.found c.more-test.true in
    let n = signed_next _ m.0 in
    let b : c.begins_item.result ≡ true = grind arith in
    let g = c.in_ok-next.ensures in record {
      shorter = omega (arith, c.more.invariant.shorter, found_shorter g, c.take.ensures.not_longer);
      fits = rw c.in_ok-items.ensures (items_grow c.args.room (map exp_of c.more.items.items) (exp_of c.in_ok-next.next.tree) c.more.invariant.fits (omega (arith, c.if-len-ge-MAX_ITEMS.false, c.len.ensures, count_length exp_of c.more.items.items)) g.fits);
      stops = rw c.in_ok-items.ensures (λ h. stops_last c.args.part (map exp_of c.more.items.items) (exp_of c.in_ok-next.next.tree) _ g.stops h);
      carries = rw c.in_ok-items.ensures (goes_on (then_on (shift_on c.more.invariant.carries (items_comma c.args.part c.args.room (map exp_of c.more.items.items) n.0) n.1 m.1) (items_another c.args.part c.args.room (map exp_of c.more.items.items) _ (sym c.begins_item.ensures ∙ b)))
          (items_next c.args.part c.args.room (map exp_of c.more.items.items) c.more.invariant.fits (omega (arith, c.if-len-ge-MAX_ITEMS.false, c.len.ensures, count_length exp_of c.more.items.items))) g);
    }

pub more_items-returns : goal.more_items-returns
more_items-returns t c =
    let m = c.take.ensures.none c.more-test.false in
    rw m.1 (c.more.invariant.carries.found _ _ (items_end c.args.part c.args.room (map exp_of c.more.items.items) _ m.0 (c.more.invariant.stops (not_comma _ m.0)) c.more.invariant.fits))

pub trailer-returns-in_err-name : goal.trailer-returns-in_err-name
trailer-returns-in_err-name t c = rw (is_so c.same.ensures c.if-same.true) (passed _ _ _ _ _ _ c.from_residual.ensures.1 (c.in_err-name.ensures.value c.args.room))

pub trailer-returns-then-same : goal.trailer-returns-then-same
trailer-returns-then-same t c = rw (is_so c.same.ensures c.if-same.true) (c.in_ok-name.ensures.value c.args.room)

pub trailer-returns-in_err-index : goal.trailer-returns-in_err-index
trailer-returns-in_err-index t c = rw (is_so c.same-2.ensures c.if-same-2.true) (fails_at _ _ _ _ _ _ c.from_residual-in_err-index.ensures.1 carries_all (index_binds c.args.room) c.in_err-index.ensures)

pub trailer-returns-then-same-2 : goal.trailer-returns-then-same-2
trailer-returns-then-same-2 t c = let g = c.in_ok-index.ensures in
    let n = signed_next _ g.stops in
    rw (is_so c.same-2.ensures c.if-same-2.true) (ended (a_trailer c.args.room (mark OpenBracket)) (goes_on carries_all (index_binds c.args.room) g) n.1 is_sign c.skip.ensures.value tt g.fits)

pub trailer-returns-in_err-arguments : goal.trailer-returns-in_err-arguments
trailer-returns-in_err-arguments t c = rw (only_open c.args.sign c.requires.sign (λ e. is_not c.same.ensures c.if-same.false e) (λ e. is_not c.same-2.ensures c.if-same-2.false e))
    (fails_at _ _ _ _ _ _ c.from_residual-in_err-arguments.ensures.1 carries_all (call_binds c.args.room) c.in_err-arguments.ensures)

pub trailer-returns : goal.trailer-returns
trailer-returns t c = let g = c.in_ok-arguments.ensures in
    rw (only_open c.args.sign c.requires.sign (λ e. is_not c.same.ensures c.if-same.false e) (λ e. is_not c.same-2.ensures c.if-same-2.false e))
    ((goes_on carries_all (call_binds c.args.room) g).found _ _ (just_found (a_trailer c.args.room (mark Open)) _ _ tt g.fits))

pub more_trailers-trailer-requires : goal.more_trailers-trailer-requires
more_trailers-trailer-requires t c = omega (arith, c.in-Some.ensures.value.1, depth_some (exp_of c.more.object.tree), c.more.invariant.shorter, c.in-Some.ensures.some, c.skip.ensures.shorter)

-- slices
pub index-returns-then-take : goal.index-returns-then-take
index-returns-then-take t c = let m = c.take.ensures.found (grind arith) in
    let n = signed_next _ m.0 in
    carried_all (λ e. exp_of e.tree) _ _ (shift_on carries_all (colon_shifts_of_slices c.args.room c.line-line.result.0) (n.1 ∙ ap (λ l. Some (sign l (mark Colon))) (sym (c.line-line.ensures ∙ ap line_at n.1))) m.1) c.slice.ensures

pub slice-returns-in_err-stop : goal.slice-returns-in_err-stop
slice-returns-in_err-stop t c = fails_at _ _ _ _ _ _ c.from_residual.ensures.1 carries_all (slice_binds c.args.room c.args.colon.0 (opt_read c.args.start) c.requires.some c.requires.fits) c.in_err-stop.ensures

pub slice-returns-in_err-step : goal.slice-returns-in_err-step
slice-returns-in_err-step t c = let f = c.in_ok-stop.ensures in
    fails_at _ _ _ _ _ _ c.from_residual-in_err-step.ensures.1 (goes_on carries_all (slice_binds c.args.room c.args.colon.0 (opt_read c.args.start) c.requires.some c.requires.fits) f)
    (slice_ends c.args.room c.args.colon.0 (opt_read c.args.start) c.requires.some c.requires.fits (opt_read c.in_ok-stop.stop) f.fits) c.in_err-step.ensures

pub slice-returns : goal.slice-returns
slice-returns t c = let f = c.in_ok-stop.ensures in
    let g = c.in_ok-step.ensures in
    rw c.in_ok-slice.ensures (made_found (an_index c.args.room) (goes_on carries_all (slice_binds c.args.room c.args.colon.0 (opt_read c.args.start) c.requires.some c.requires.fits) f)
    (slice_ends c.args.room c.args.colon.0 (opt_read c.args.start) c.requires.some c.requires.fits (opt_read c.in_ok-stop.stop) f.fits) g g.stops
    (slice_fits c.args.room c.args.colon.0 (opt_read c.args.start) c.requires.some c.requires.fits (opt_read c.in_ok-stop.stop) (opt_read c.in_ok-step.step) f.fits g.fits))

pub bound-returns-then-ends_bound : goal.bound-returns-then-ends_bound
bound-returns-then-ends_bound t c = let b : c.ends_bound.result ≡ true = grind arith in bound_none c.args.room _ (sym c.ends_bound.ensures ∙ b)

pub bound-returns-then-not-begins_expr : goal.bound-returns-then-not-begins_expr
bound-returns-then-not-begins_expr t c =
    let b : c.ends_bound.result ≡ false = grind arith in
    let e : c.begins_expr.result ≡ false = grind arith in
    bound_bad c.args.room _ (sym c.ends_bound.ensures ∙ b) (sym c.begins_expr.ensures ∙ e)

pub bound-returns-then-room-eq0 : goal.bound-returns-then-room-eq0
bound-returns-then-room-eq0 t c =
    let b : c.ends_bound.result ≡ false = grind arith in
    let e : c.begins_expr.result ≡ true = grind arith in
    rw c.if-room-eq0.true (bound_over _ (sym c.ends_bound.ensures ∙ b) (sym c.begins_expr.ensures ∙ e))

pub bound-returns-in_err-value : goal.bound-returns-in_err-value
bound-returns-in_err-value t c =
    let b : c.ends_bound.result ≡ false = grind arith in
    fails_at _ _ _ _ _ _ c.from_residual.ensures.1 (narrow_carries (bound_narrows c.args.room _ (sym c.ends_bound.ensures ∙ b))) (bound_binds c.args.room) c.in_err-value.ensures

pub bound-returns-then-not-ends_bound : goal.bound-returns-then-not-ends_bound
bound-returns-then-not-ends_bound t c =
    let b : c.ends_bound.result ≡ false = grind arith in
    let e : c.ends_bound-2.result ≡ false = grind arith in
    let g = c.in_ok-value.ensures in
    (goes_on (narrow_carries (bound_narrows c.args.room _ (sym c.ends_bound.ensures ∙ b))) (bound_binds c.args.room) g).refused false _
    (just_bad_of_sequels (a_bound c.args.room) (S.given (exp_of c.in_ok-value.value.tree)) _ g.fits (λ more a s. alike_set ends_bound refl _ a (sym c.ends_bound-2.ensures ∙ e) s))

pub bound-returns : goal.bound-returns
bound-returns t c =
    let b : c.ends_bound.result ≡ false = grind arith in
    let e : c.ends_bound-2.result ≡ true = grind arith in
    let g = c.in_ok-value.ensures in
    made_found (a_bound c.args.room) (narrow_carries (bound_narrows c.args.room _ (sym c.ends_bound.ensures ∙ b))) (bound_binds c.args.room) g (sym c.ends_bound-2.ensures ∙ e) g.fits

pub step-returns-then-not-is : goal.step-returns-then-not-is
step-returns-then-not-is t c = step_none c.args.room _ (only_close _ c.requires.next (λ e. is_not c.is.ensures.value (grind arith) e))

pub step-returns-in_err-step : goal.step-returns-in_err-step
step-returns-in_err-step t c = let n = signed_next _ (is_so c.is.ensures.value (grind arith)) in
    fails_at _ _ _ _ _ _ c.from_residual.ensures.1 (shift_on carries_all (step_shifts c.args.room n.0) n.1 c.skip.ensures.value) (step_binds c.args.room) c.in_err-step.ensures

pub step-returns-then-not-is-2 : goal.step-returns-then-not-is-2
step-returns-then-not-is-2 t c = let n = signed_next _ (is_so c.is.ensures.value (grind arith)) in
    let g = c.in_ok-step.ensures in
    (goes_on (shift_on carries_all (step_shifts c.args.room n.0) n.1 c.skip.ensures.value) (step_binds c.args.room) g).refused false _
    (just_bad_of_sequels (a_step c.args.room) (opt_read c.in_ok-step.step) _ g.fits (λ more a s. not_close _ (λ e. is_not c.is-2.ensures.value (grind arith) e) a s))

pub step-returns : goal.step-returns
step-returns t c = let n = signed_next _ (is_so c.is.ensures.value (grind arith)) in
    let g = c.in_ok-step.ensures in
    (goes_on (shift_on carries_all (step_shifts c.args.room n.0) n.1 c.skip.ensures.value) (step_binds c.args.room) g).found _ _
    (just_found (a_step c.args.room) _ _ (is_so c.is-2.ensures.value (grind arith)) g.fits)

-- arguments
pub arguments-returns-then-take : goal.arguments-returns-then-take
arguments-returns-then-take t c = let m = c.take.ensures.found (grind arith) in
    let n = signed_next _ m.0 in
    rw (c.finish.ensures, c.new.ensures, m.1) (none_found_of_call_lists c.args.room _ n.0 n.1)

first_carries : {d : ℕ} {ts mid : List Lexeme} → mid ≡ ts → sign_at (next_of ts) ≢ Some (mark Close) → ((sign_at (next_of mid) ≡ Some (Operator (Plain Mul))) ⊎ (sign_at (next_of mid) ≡ Some (Operator (Plain Pow))))
    → Carries (some_arguments d) ts (left (some_arguments d) (AnotherArgument d [])) mid
first_carries {d} {ts} e n (inl s) = let h = ap (λ us. sign_at (next_of us)) (sym e) ∙ s in
    subst (λ u. Carries (some_arguments d) ts (left (some_arguments d) (AnotherArgument d [])) u) (sym e) (narrow_carries (star_narrows d ts (stars_no_expr (next_of ts) h) n))
first_carries {d} {ts} e n (inr s) = let h = ap (λ us. sign_at (next_of us)) (sym e) ∙ s in
    subst (λ u. Carries (some_arguments d) ts (left (some_arguments d) (AnotherArgument d [])) u) (sym e) (narrow_carries (star_narrows d ts (double_no_expr (next_of ts) h) n))

no_arguments_fit : (d : ℕ) → FitsArgs d (args_of [])
no_arguments_fit d = (omega arith, omega arith, omega arith)

pub arguments-returns-in_err-first : goal.arguments-returns-in_err-first
arguments-returns-in_err-first t c = let m = c.take.ensures.none (grind arith) in
    fails_at _ _ _ _ _ _ c.from_residual.ensures.1 (first_carries m.1 m.0 (is_so c.is_stars.ensures (grind arith))) (next_binds_of_call_lists c.args.room [] (no_arguments_fit c.args.room) (omega arith)) c.in_err-first.ensures

pub arguments-returns-then-is_stars : goal.arguments-returns-then-is_stars
arguments-returns-then-is_stars t c = let m = c.take.ensures.none (grind arith) in
    carried_all arguments_read _ _ (goes_on (first_carries m.1 m.0 (is_so c.is_stars.ensures (grind arith))) (next_binds_of_call_lists c.args.room [] (no_arguments_fit c.args.room) (omega arith)) c.in_ok-first.ensures) c.more_arguments.ensures

opens : {d : ℕ} {ts mid : List Lexeme} → mid ≡ ts → sign_at (next_of ts) ≢ Some (mark Close) → (((sign_at (next_of mid) ≡ Some (Operator (Plain Mul))) ⊎ (sign_at (next_of mid) ≡ Some (Operator (Plain Pow)))) → ⊥)
    → Carries (some_arguments d) ts (left (some_arguments d) Opening) mid
opens {d} {ts} e n s = subst (λ u. Carries (some_arguments d) ts (left (some_arguments d) Opening) u) (sym e)
    (narrow_carries (opening_narrows d ts (λ h. s (inl (ap (λ us. sign_at (next_of us)) e ∙ h))) (λ h. s (inr (ap (λ us. sign_at (next_of us)) e ∙ h))) n))

pub arguments-returns-in_err-value : goal.arguments-returns-in_err-value
arguments-returns-in_err-value t c = let m = c.take.ensures.none (grind arith) in
    fails_at _ _ _ _ _ _ c.from_residual-in_err-value.ensures.1 (opens m.1 m.0 (λ s. is_not c.is_stars.ensures (grind arith) s)) (opening_binds c.args.room) c.in_err-value.ensures

pub arguments-returns-then-is : goal.arguments-returns-then-is
arguments-returns-then-is t c = let m = c.take.ensures.none (grind arith) in
    carried_all arguments_read _ _ (goes_on (opens m.1 m.0 (λ s. is_not c.is_stars.ensures (grind arith) s)) (opening_binds c.args.room) c.in_ok-value.ensures) c.generator_alone.ensures

pub arguments-returns-in_err-first-2 : goal.arguments-returns-in_err-first-2
arguments-returns-in_err-first-2 t c = let m = c.take.ensures.none (grind arith) in
    fails_at _ _ _ _ _ _ c.from_residual-in_err-first-2.ensures.1
    (then_on (goes_on (opens m.1 m.0 (λ s. is_not c.is_stars.ensures (grind arith) s)) (opening_binds c.args.room) c.in_ok-value.ensures)
    (narrow_carries (put_narrows c.args.room (exp_of c.in_ok-value.value.tree) _ (λ e. is_not c.is.ensures.value (grind arith) e)))) (put_binds c.args.room (exp_of c.in_ok-value.value.tree)) c.in_err-first-2.ensures

pub arguments-returns : goal.arguments-returns
arguments-returns t c = let m = c.take.ensures.none (grind arith) in
    carried_all arguments_read _ _ (goes_on (then_on (goes_on (opens m.1 m.0 (λ s. is_not c.is_stars.ensures (grind arith) s)) (opening_binds c.args.room) c.in_ok-value.ensures)
    (narrow_carries (put_narrows c.args.room (exp_of c.in_ok-value.value.tree) _ (λ e. is_not c.is.ensures.value (grind arith) e)))) (put_binds c.args.room (exp_of c.in_ok-value.value.tree)) c.in_ok-first-2.ensures) c.more_arguments-2.ensures

pub more_arguments-more-init : goal.more_arguments-more-init
more_arguments-more-init t c =
    let h : arguments_in c.in_ok-arguments.arguments.items ≡ argument_read c.args.first ∷ [] = c.in_ok-arguments.ensures ∙ ap (λ (u : List WideArgument). arguments_in u ++ (argument_read c.args.first ∷ [])) c.new.ensures in
    record { shorter = omega arith; fits = rw h (one_fits c.args.room (argument_read c.args.first) c.requires.fits); carries = rw h carries_all }

pub more_arguments-returns-then-is : goal.more_arguments-returns-then-is
more_arguments-returns-then-is t c =
    let m = c.take.ensures.found c.more-test.true in
    let n = signed_next _ m.0 in
    let h = is_so c.is.ensures.value c.if-is.true in
    let k = signed_next _ h in
    rw c.finish.ensures (ended (some_arguments c.args.room) (then_on (shift_on c.more.invariant.carries (comma_shifts_of_call_lists c.args.room (arguments_in c.more.arguments.items) n.0) n.1 m.1)
    (narrow_carries (closing_narrows c.args.room (arguments_in c.more.arguments.items) _ h))) k.1 is_sign c.skip.ensures.value tt c.more.invariant.fits)

pub more_arguments-returns-then-not-begins_argument : goal.more_arguments-returns-then-not-begins_argument
more_arguments-returns-then-not-begins_argument t c =
    let m = c.take.ensures.found c.more-test.true in
    let n = signed_next _ m.0 in
    let b : c.begins_argument.result ≡ false = grind arith in
    (shift_on c.more.invariant.carries (comma_shifts_of_call_lists c.args.room (arguments_in c.more.arguments.items) n.0) n.1 m.1).refused false _
    (next_none c.args.room (arguments_in c.more.arguments.items) _ (ap (λ o. begins_argument o (next_of c.take.new.self)) (sym c.more.arguments.ordered) ∙ sym c.begins_argument.ensures ∙ b) (λ e. is_not c.is.ensures.value c.if-is.false e) c.more.invariant.fits)

pub more_arguments-returns-then-len-ge-MAX_ITEMS : goal.more_arguments-returns-then-len-ge-MAX_ITEMS
more_arguments-returns-then-len-ge-MAX_ITEMS t c =
    let m = c.take.ensures.found c.more-test.true in
    let n = signed_next _ m.0 in
    let b : c.begins_argument.result ≡ true = grind arith in
    (shift_on c.more.invariant.carries (comma_shifts_of_call_lists c.args.room (arguments_in c.more.arguments.items) n.0) n.1 m.1).refused true _
    (next_over c.args.room (arguments_in c.more.arguments.items) _ (ap (λ o. begins_argument o (next_of c.take.new.self)) (sym c.more.arguments.ordered) ∙ sym c.begins_argument.ensures ∙ b) c.more.invariant.fits
    (omega (arith, c.if-len-ge-MAX_ITEMS.true, c.len.ensures, args_length argument_in c.more.arguments.items)))

pub more_arguments-returns-in_err-next : goal.more_arguments-returns-in_err-next
more_arguments-returns-in_err-next t c =
    let m = c.take.ensures.found c.more-test.true in
    let n = signed_next _ m.0 in
    let xs = arguments_in c.more.arguments.items in
    fails_at _ _ _ _ _ _ c.from_residual-in_err-next.ensures.1 (then_on (shift_on c.more.invariant.carries (comma_shifts_of_call_lists c.args.room xs n.0) n.1 m.1) (narrow_carries (next_narrows c.args.room xs _ (λ e. is_not c.is.ensures.value c.if-is.false e))))
    (next_binds_of_call_lists c.args.room xs c.more.invariant.fits (omega (arith, c.if-len-ge-MAX_ITEMS.false, c.len.ensures, args_length argument_in c.more.arguments.items))) (rw c.more.arguments.ordered at c.in_err-next.ensures)

pub more_arguments-more-preserved : goal.more_arguments-more-preserved
more_arguments-more-preserved t c =
    let m = c.take.ensures.found c.more-test.true in
    let n = signed_next _ m.0 in
    let xs = arguments_in c.more.arguments.items in
    let g : Found (an_argument (order_of xs) c.args.room) _ (argument_read c.in_ok-next.next) _ = rw c.more.arguments.ordered at c.in_ok-next.ensures in
    let h : count_args (args_of xs) < max_items = omega (arith, c.if-len-ge-MAX_ITEMS.false, c.len.ensures, args_length argument_in c.more.arguments.items) in record {
      shorter = omega (arith, c.more.invariant.shorter, found_shorter g, c.take.ensures.not_longer);
      fits = rw c.in_ok-arguments-2.ensures (args_grow c.args.room xs (argument_read c.in_ok-next.next) c.more.invariant.fits h g.fits);
      carries = rw c.in_ok-arguments-2.ensures (goes_on (then_on (shift_on c.more.invariant.carries (comma_shifts_of_call_lists c.args.room xs n.0) n.1 m.1) (narrow_carries (next_narrows c.args.room xs _ (λ e. is_not c.is.ensures.value c.if-is.false e))))
          (next_binds_of_call_lists c.args.room xs c.more.invariant.fits h) g);
    }

pub more_arguments-returns-then-not-take : goal.more_arguments-returns-then-not-take
more_arguments-returns-then-not-take t c =
    let m = c.take.ensures.none c.more-test.false in
    let k = c.take-2.ensures.none (grind arith) in
    let n : sign_at (next_of c.more.self.lexemes) ≢ Some (mark Close) = rw m.1 at k.0 in
    rw (k.1, m.1) (c.more.invariant.carries.refused false _ (end_bad c.args.room (arguments_in c.more.arguments.items) c.more.self.lexemes m.0 n c.more.invariant.fits))

pub more_arguments-returns : goal.more_arguments-returns
more_arguments-returns t c =
    let m = c.take.ensures.none c.more-test.false in
    let k = c.take-2.ensures.found (grind arith) in
    let h : sign_at (next_of c.more.self.lexemes) ≡ Some (mark Close) = rw m.1 at k.0 in
    let j = signed_next _ h in
    rw c.finish-2.ensures (ended (some_arguments c.args.room) (then_on c.more.invariant.carries (narrow_carries (end_narrows_to c.args.room (arguments_in c.more.arguments.items) c.more.self.lexemes m.0))) j.1 is_sign (rw m.1 at k.1) tt c.more.invariant.fits)

pub argument-returns-in_err-items : goal.argument-returns-in_err-items
argument-returns-in_err-items t c = let m = is_so c.spreads.ensures (grind arith) in
    let n = signed_next _ m.0 in
    fails_at _ _ _ _ _ _ c.from_residual.ensures.1 (shift_on carries_all (star_shifts c.args.room n.0 (order_read c.args.order) m.1) n.1 c.skip.ensures.value) (star_binds_of_arguments c.args.room n.0 (order_read c.args.order)) c.in_err-items.ensures

pub argument-returns-then-spreads : goal.argument-returns-then-spreads
argument-returns-then-spreads t c = let m = is_so c.spreads.ensures (grind arith) in
    let n = signed_next _ m.0 in
    let g = c.in_ok-items.ensures in
    rw (c.line-line.ensures, ap line_at n.1) (made_found (an_argument (order_read c.args.order) c.args.room) (shift_on carries_all (star_shifts c.args.room n.0 (order_read c.args.order) m.1) n.1 c.skip.ensures.value) (star_binds_of_arguments c.args.room n.0 (order_read c.args.order)) g g.stops
    (omega (arith, g.fits.0), omega (arith, g.fits.1)))

pub argument-returns-in_err-mapping : goal.argument-returns-in_err-mapping
argument-returns-in_err-mapping t c = let n = signed_next _ (is_so c.is.ensures.value (grind arith)) in
    fails_at _ _ _ _ _ _ c.from_residual-in_err-mapping.ensures.1 (shift_on carries_all (stars_shifts c.args.room n.0 (order_read c.args.order)) n.1 c.skip-then-is.ensures.value) (stars_binds c.args.room n.0 (order_read c.args.order)) c.in_err-mapping.ensures

pub argument-returns-then-is : goal.argument-returns-then-is
argument-returns-then-is t c = let n = signed_next _ (is_so c.is.ensures.value (grind arith)) in
    let g = c.in_ok-mapping.ensures in
    rw (c.line-line.ensures, ap line_at n.1) (made_found (an_argument (order_read c.args.order) c.args.room) (shift_on carries_all (stars_shifts c.args.room n.0 (order_read c.args.order)) n.1 c.skip-then-is.ensures.value) (stars_binds c.args.room n.0 (order_read c.args.order)) g g.stops
    (omega (arith, g.fits.0), omega (arith, g.fits.1)))

pub argument-returns-in_err-value-in-Any : goal.argument-returns-in_err-value-in-Any
argument-returns-in_err-value-in-Any t c = rw c.in-Any.is (fails_at _ _ _ _ _ _ c.from_residual-in_err-value-in-Any.ensures.1
    (narrow_carries (placed_narrows c.args.room _ (λ h. is_not c.spreads.ensures (grind arith) (h, ap (λ o. may_spread (order_read o)) c.in-Any.is)) (λ h. is_not c.is.ensures.value (grind arith) h))) (placed_binds c.args.room) c.in_err-value-in-Any.ensures)

pub argument-returns-in_ok-value-in-Any : goal.argument-returns-in_ok-value-in-Any
argument-returns-in_ok-value-in-Any t c = rw c.in-Any.is (carried_all argument_read _ _
    (goes_on (narrow_carries (placed_narrows c.args.room _ (λ h. is_not c.spreads.ensures (grind arith) (h, ap (λ o. may_spread (order_read o)) c.in-Any.is)) (λ h. is_not c.is.ensures.value (grind arith) h))) (placed_binds c.args.room) c.in_ok-value-in-Any.ensures) c.placed.ensures)

pub argument-returns-in-Named : goal.argument-returns-in-Named
argument-returns-in-Named t c = rw c.in-Named.is (carried_all argument_read _ _
    (narrow_carries (keyword_narrows c.args.room named_next _ (λ e. cc) (λ h k. is_not c.spreads.ensures (grind arith) (h, ap (λ o. may_spread (order_read o)) c.in-Named.is)) (λ h. is_not c.is.ensures.value (grind arith) h))) c.keyword.ensures)

pub argument-returns-in-SpreadNamed : goal.argument-returns-in-SpreadNamed
argument-returns-in-SpreadNamed t c = rw c.in-SpreadNamed.is (carried_all argument_read _ _
    (narrow_carries (keyword_narrows c.args.room spread_named_next _ (λ e. cc) (λ h k. cc) (λ h. is_not c.is.ensures.value (grind arith) h))) c.keyword-in-SpreadNamed.ensures)

pub placed-returns-then-ends_argument : goal.placed-returns-then-ends_argument
placed-returns-then-ends_argument t c = let b : c.ends_argument.result ≡ true = grind arith in placed_found c.args.room (exp_of c.args.value.tree) _ (sym c.ends_argument.ensures ∙ b) c.requires.fits

pub placed-returns-then-not-is : goal.placed-returns-then-not-is
placed-returns-then-not-is t c = let b : c.ends_argument.result ≡ false = grind arith in
    placed_bad c.args.room (exp_of c.args.value.tree) _ (sym c.ends_argument.ensures ∙ b) (λ h l x. absurd (is_not c.is.ensures.value (grind arith) h)) c.requires.fits

pub placed-returns-in_default : goal.placed-returns-in_default
placed-returns-in_default t c = let b : c.ends_argument.result ≡ false = grind arith in
    placed_bad c.args.room (exp_of c.args.value.tree) _ (sym c.ends_argument.ensures ∙ b) (λ h l x. c.in_default.ensures l x) c.requires.fits

pub placed-returns-in_err-expression : goal.placed-returns-in_err-expression
placed-returns-in_err-expression t c = let n = signed_next _ (is_so c.is.ensures.value (grind arith)) in
    rw c.in-Some.ensures (fails_at _ _ _ _ _ _ c.from_residual.ensures.1 (shift_on carries_all (assign_shifts_of_arguments c.args.room c.in-Some.name.0.0 n.0 c.in-Some.name.1) n.1 c.skip.ensures.value) (assigned_binds c.args.room c.in-Some.name.0.0 c.in-Some.name.1) c.in_err-expression.ensures)

pub placed-returns : goal.placed-returns
placed-returns t c = let n = signed_next _ (is_so c.is.ensures.value (grind arith)) in
    let g = c.in_ok-expression.ensures in
    rw c.in-Some.ensures (made_found (an_argument any_next c.args.room) (shift_on carries_all (assign_shifts_of_arguments c.args.room c.in-Some.name.0.0 n.0 c.in-Some.name.1) n.1 c.skip.ensures.value) (assigned_binds c.args.room c.in-Some.name.0.0 c.in-Some.name.1) g g.stops
    (omega (arith, g.fits.0), omega (arith, g.fits.1)))

pub keyword-returns-in_err-name : goal.keyword-returns-in_err-name
keyword-returns-in_err-name t c = fails_at _ _ _ _ _ _ c.from_residual.ensures.1 carries_all (keyword_binds c.args.room c.requires.some) c.in_err-name.ensures

pub keyword-returns-then-not-take : goal.keyword-returns-then-not-take
keyword-returns-then-not-take t c = let m = c.take.ensures.none (grind arith) in
    rw m.1 ((goes_on carries_all (keyword_binds c.args.room c.requires.some) c.in_ok-name.ensures).refused false _ (assign_bad c.args.room _ _ c.requires.some m.0))

pub keyword-returns-in_err-value : goal.keyword-returns-in_err-value
keyword-returns-in_err-value t c = let m = c.take.ensures.found (grind arith) in
    let n = signed_next _ m.0 in
    fails_at _ _ _ _ _ _ c.from_residual-in_err-value.ensures.1 (shift_on (goes_on carries_all (keyword_binds c.args.room c.requires.some) c.in_ok-name.ensures) (keyword_shifts c.args.room n.0 _) n.1 m.1) (named_binds c.args.room _ _) c.in_err-value.ensures

pub keyword-returns : goal.keyword-returns
keyword-returns t c = let m = c.take.ensures.found (grind arith) in
    let n = signed_next _ m.0 in
    let g = c.in_ok-value.ensures in
    made_found (a_keyword c.args.room) (shift_on (goes_on carries_all (keyword_binds c.args.room c.requires.some) c.in_ok-name.ensures) (keyword_shifts c.args.room n.0 _) n.1 m.1) (named_binds c.args.room _ _) g g.stops (omega (arith, g.fits.0), omega (arith, g.fits.1))

pub argument_value-returns-in_err-value : goal.argument_value-returns-in_err-value
argument_value-returns-in_err-value t c = fails_at _ _ _ _ _ _ c.from_residual.ensures.1 carries_all (value_binds_of_arguments c.args.room) c.in_err-value.ensures

pub argument_value-returns-then-not-ends_argument : goal.argument_value-returns-then-not-ends_argument
argument_value-returns-then-not-ends_argument t c = let b : c.ends_argument.result ≡ false = grind arith in
    let f = c.in_ok-value.ensures in
    (goes_on carries_all (value_binds_of_arguments c.args.room) f).refused false _ (just_bad_of_sequels (a_value_of_argument c.args.room) _ _ f.fits (λ more a s. not_ended _ (sym c.ends_argument.ensures ∙ b) a s))

pub argument_value-returns : goal.argument_value-returns
argument_value-returns t c = let b : c.ends_argument.result ≡ true = grind arith in
    let f = c.in_ok-value.ensures in
    (goes_on carries_all (value_binds_of_arguments c.args.room) f).found _ _ (just_found (a_value_of_argument c.args.room) _ _ (sym c.ends_argument.ensures ∙ b) f.fits)

-- expressions with commas between them, as one
pub exprs-returns-in_err-first : goal.exprs-returns-in_err-first
exprs-returns-in_err-first t c = fails_at _ _ _ _ _ _ c.from_residual.ensures.1 carries_all (bare_binds c.args.part c.args.room) c.in_err-first.ensures

pub exprs-returns : goal.exprs-returns
exprs-returns t c = carried_all (λ e. exp_of e.tree) _ _ (goes_on carries_all (bare_binds c.args.part c.args.room) c.in_ok-first.ensures) c.behind_item.ensures

pub behind_item-returns-then-not-ends_items : goal.behind_item-returns-then-not-ends_items
behind_item-returns-then-not-ends_items t c = let b : c.ends_items.result ≡ false = grind arith in
    followed_bad c.args.part c.args.room (exp_of c.args.first.tree) _ (λ e. is_not c.is.ensures.value (grind arith) e) (sym c.ends_items.ensures ∙ b) c.requires.fits

pub behind_item-returns-then-not-is : goal.behind_item-returns-then-not-is
behind_item-returns-then-not-is t c = let b : c.ends_items.result ≡ true = grind arith in
    followed_ends c.args.part c.args.room (exp_of c.args.first.tree) _ (λ e. is_not c.is.ensures.value (grind arith) e) (sym c.ends_items.ensures ∙ b) c.requires.fits

pub behind_item-returns-then-first-room : goal.behind_item-returns-then-first-room
behind_item-returns-then-first-room t c = let n = signed_next _ (is_so c.is.ensures.value (grind arith)) in
    followed_over c.args.part c.args.room (exp_of c.args.first.tree) _ n.0 n.1 c.requires.fits (omega (arith, c.args.first.exact, c.if-first-room.true))

pub behind_item-more_items-requires : goal.behind_item-more_items-requires
behind_item-more_items-requires t c = let n = signed_next _ (is_so c.is.ensures.value (grind arith)) in
    let e = exp_of c.args.first.tree in
    let small : depth_exp e < c.args.room = omega (arith, c.args.first.exact, c.if-first-room.false) in
    let h : map exp_of c.in_ok-items.items.items ≡ e ∷ [] = c.in_ok-items.ensures ∙ ap (λ (u : List WideExpr). map exp_of u ++ (e ∷ [])) c.new.ensures in
    (omega arith, (omega (arith, small, depth_some e), (omega (arith, c.requires.few), (rw h (omega (arith, small), omega (arith, c.requires.fits.1), omega arith), λ m. absurd (m (subst (λ u. IsComma u) (sym n.1) tt))))))

pub behind_item-returns-in_err-listed : goal.behind_item-returns-in_err-listed
behind_item-returns-in_err-listed t c = let n = signed_next _ (is_so c.is.ensures.value (grind arith)) in
    let e = exp_of c.args.first.tree in
    let small : depth_exp e < c.args.room = omega (arith, c.args.first.exact, c.if-first-room.false) in
    let h : map exp_of c.in_ok-items.items.items ≡ e ∷ [] = c.in_ok-items.ensures ∙ ap (λ (u : List WideExpr). map exp_of u ++ (e ∷ [])) c.new.ensures in
    fails_at _ _ _ _ _ _ c.from_residual-in_err-listed.ensures.1 (narrow_carries (several_narrows c.args.part c.args.room e _ n.0 n.1)) (several_binds c.args.part c.args.room e small)
    (carried _ _ (comma_carries c.args.part c.args.room e _ n.0 n.1 c.requires.fits small) (rw h at c.in_err-listed.ensures))

pub behind_item-returns-then-not-ends_items-2 : goal.behind_item-returns-then-not-ends_items-2
behind_item-returns-then-not-ends_items-2 t c = let n = signed_next _ (is_so c.is.ensures.value (grind arith)) in
    let e = exp_of c.args.first.tree in
    let b : c.ends_items-2.result ≡ false = grind arith in
    let h : map exp_of c.in_ok-items.items.items ≡ e ∷ [] = c.in_ok-items.ensures ∙ ap (λ (u : List WideExpr). map exp_of u ++ (e ∷ [])) c.new.ensures in
    several_bad c.args.part c.args.room e _ _ _ n.0 n.1 c.requires.fits (omega (arith, c.args.first.exact, c.if-first-room.false)) (rw h at c.in_ok-listed.ensures) (sym c.ends_items-2.ensures ∙ b)

pub behind_item-returns : goal.behind_item-returns
behind_item-returns t c = let n = signed_next _ (is_so c.is.ensures.value (grind arith)) in
    let e = exp_of c.args.first.tree in
    let b : c.ends_items-2.result ≡ true = grind arith in
    let h : map exp_of c.in_ok-items.items.items ≡ e ∷ [] = c.in_ok-items.ensures ∙ ap (λ (u : List WideExpr). map exp_of u ++ (e ∷ [])) c.new.ensures in
    rw (c.in_ok-tuple.ensures, c.line-line.ensures)
    (several_found c.args.part c.args.room e _ _ _ n.0 n.1 c.requires.fits (omega (arith, c.args.first.exact, c.if-first-room.false)) (rw h at c.in_ok-listed.ensures) (sym c.ends_items-2.ensures ∙ b))

-- `yield`
pub value-returns-then-not-is : goal.value-returns-then-not-is
value-returns-then-not-is t c = carried_all (λ e. exp_of e.tree) _ _ (narrow_carries (bare_narrows c.args.room _ (λ e. is_not c.is.ensures.value (grind arith) e))) c.exprs.ensures

pub value-returns : goal.value-returns
value-returns t c = let n = signed_next _ (is_so c.is.ensures.value (grind arith)) in
    carried_all (λ e. exp_of e.tree) _ _ (shift_on carries_all (yield_shifts c.args.room _) (n.1 ∙ ap (λ l. Some (sign l (word Yield))) (sym (c.line-line.ensures ∙ ap line_at n.1))) c.skip.ensures.value) c.yielded.ensures

pub yielded-returns-then-ends_items : goal.yielded-returns-then-ends_items
yielded-returns-then-ends_items t c = let b : c.ends_items.result ≡ true = grind arith in
    rw c.in_ok-yield_nothing.ensures (yield_ends c.args.line.0 c.args.room c.requires.some _ (sym c.ends_items.ensures ∙ b))

pub yielded-returns-then-not-begins_item : goal.yielded-returns-then-not-begins_item
yielded-returns-then-not-begins_item t c =
    let s : c.ends_items.result ≡ false = grind arith in
    let b : c.begins_item.result ≡ false = grind arith in
    yield_bad c.args.line.0 c.args.room c.requires.some _ (sym c.ends_items.ensures ∙ s) (λ e. is_not c.is.ensures.value (grind arith) e) (sym c.begins_item.ensures ∙ b)

pub yielded-returns-then-room-eq1 : goal.yielded-returns-then-room-eq1
yielded-returns-then-room-eq1 t c =
    let b : c.begins_item.result ≡ true = grind arith in
    let i = sym c.begins_item.ensures ∙ b in
    let k = item_token Whole _ i in
    rw c.if-room-eq1.true (some_over c.args.line.0 _ k.0 k.1 (sym (ap (begins_item Whole) k.1) ∙ i))

pub yielded-returns-in_err-value : goal.yielded-returns-in_err-value
yielded-returns-in_err-value t c = let b : c.begins_item.result ≡ true = grind arith in
    fails_at _ _ _ _ _ _ c.from_residual-in_err-value.ensures.1 (narrow_carries (some_narrows c.args.line.0 c.args.room _ (sym c.begins_item.ensures ∙ b))) (some_binds c.args.line.0 c.args.room c.requires.some) c.in_err-value.ensures

pub yielded-returns : goal.yielded-returns
yielded-returns t c =
    let b : c.begins_item.result ≡ true = grind arith in
    let g = c.in_ok-value.ensures in
    rw c.in_ok-yield_value.ensures (made_found (a_yielded c.args.line.0 c.args.room) (narrow_carries (some_narrows c.args.line.0 c.args.room _ (sym c.begins_item.ensures ∙ b))) (some_binds c.args.line.0 c.args.room c.requires.some) g g.stops
    (omega (arith, g.fits.0, c.requires.some), g.fits.1))

pub yielded_from-returns-then-room-eq1 : goal.yielded_from-returns-then-room-eq1
yielded_from-returns-then-room-eq1 t c = let n = signed_next _ c.requires.from in rw c.if-room-eq1.true (from_over c.args.line.0 n.0 _ n.1)

pub yielded_from-returns-in_err-iterable : goal.yielded_from-returns-in_err-iterable
yielded_from-returns-in_err-iterable t c = let n = signed_next _ c.requires.from in
    fails_at _ _ _ _ _ _ c.from_residual.ensures.1 (shift_on carries_all (from_shifts c.args.line.0 c.args.room n.0) n.1 c.skip.ensures.value) (from_binds c.args.line.0 c.args.room c.requires.some) c.in_err-iterable.ensures

pub yielded_from-returns-then-not-ends_items : goal.yielded_from-returns-then-not-ends_items
yielded_from-returns-then-not-ends_items t c =
    let n = signed_next _ c.requires.from in
    let b : c.ends_items.result ≡ false = grind arith in
    let g = c.in_ok-iterable.ensures in
    (goes_on (shift_on carries_all (from_shifts c.args.line.0 c.args.room n.0) n.1 c.skip.ensures.value) (from_binds c.args.line.0 c.args.room c.requires.some) g).refused false _
    (ends_bad (a_yielded c.args.line.0 c.args.room) Whole _ _ (omega (arith, g.fits.0, c.requires.some), g.fits.1) (sym c.ends_items.ensures ∙ b) (λ o k. k))

pub yielded_from-returns : goal.yielded_from-returns
yielded_from-returns t c =
    let n = signed_next _ c.requires.from in
    let b : c.ends_items.result ≡ true = grind arith in
    let g = c.in_ok-iterable.ensures in
    rw c.in_ok-yield_from.ensures (made_found (a_yielded c.args.line.0 c.args.room) (shift_on carries_all (from_shifts c.args.line.0 c.args.room n.0) n.1 c.skip.ensures.value) (from_binds c.args.line.0 c.args.room c.requires.some) g (sym c.ends_items.ensures ∙ b)
    (omega (arith, g.fits.0, c.requires.some), g.fits.1))

-- parentheses
pub parenthesized-inside-requires : goal.parenthesized-inside-requires
parenthesized-inside-requires t c =
    let n = signed_next _ c.requires.open in
    (omega (arith, c.skip.ensures.shorter, some_more _ n.1), (c.requires.some, omega (arith, c.requires.few)))

pub parenthesized-returns : goal.parenthesized-returns
parenthesized-returns t c = carried_all (λ e. exp_of e.tree) _ _ (shift_on carries_all (open_shifts c.args.room _) (lined_next c.requires.open c.line-line.ensures) c.skip.ensures.value) c.inside.ensures

-- where the parenthesis isn't closed at once
not_closed : {d l : ℕ} {ts mid : List Lexeme} → mid ≡ ts → Carries (left (an_atom d) (Inside_of_enclosed l)) ts (left (an_atom d) (Inside_of_enclosed l)) mid
not_closed {d} {l} {ts} e = subst (λ u. Carries (left (an_atom d) (Inside_of_enclosed l)) ts (left (an_atom d) (Inside_of_enclosed l)) u) (sym e) carries_all

still : {s : Sign} {ts mid : List Lexeme} → sign_at (next_of ts) ≢ Some s → mid ≡ ts → sign_at (next_of mid) ≢ Some s
still {s} n e = subst (λ u. sign_at (next_of u) ≢ Some s) (sym e) n

pub inside-returns-then-take : goal.inside-returns-then-take
inside-returns-then-take t c =
    let m = c.take.ensures.found (grind arith) in
    let k = signed_next _ m.0 in
    rw (c.in_ok-parenthesized.ensures, c.in_ok-nothing.ensures, c.new.ensures, m.1)
    (nothing_found c.args.room _ k.0 c.requires.some _ k.1)

pub inside-returns-in_err-value : goal.inside-returns-in_err-value
inside-returns-in_err-value t c =
    let m = c.take.ensures.none (grind arith) in
    fails_at _ _ _ _ _ _ c.from_residual-in_err-value.ensures.1 (then_on (not_closed m.1) (narrow_carries (value_narrows c.args.room _ _ (is_so c.is.ensures.value (grind arith)))))
    (value_closes c.args.room _) c.in_err-value.ensures

pub inside-returns-then-is : goal.inside-returns-then-is
inside-returns-then-is t c =
    let m = c.take.ensures.none (grind arith) in
    let g = c.in_ok-value.ensures in
    carried_all (λ e. exp_of e.tree) _ _ (goes_on (then_on (not_closed m.1) (narrow_carries (value_narrows c.args.room _ _ (is_so c.is.ensures.value (grind arith)))))
    (value_closes c.args.room _) g) (c.closed.ensures c.args.room g.fits)

pub inside-returns-in_err-first : goal.inside-returns-in_err-first
inside-returns-in_err-first t c =
    let m = c.take.ensures.none (grind arith) in
    fails_at _ _ _ _ _ _ c.from_residual-in_err-first.ensures.1 (then_on (not_closed m.1) (narrow_carries (items_narrow c.args.room _ _ (still m.0 m.1) (λ e. is_not c.is.ensures.value (grind arith) e))))
    (item_inside c.args.room _) c.in_err-first.ensures

pub inside-generator-requires : goal.inside-generator-requires
inside-generator-requires t c =
    let k = is_so c.begins_clauses.ensures c.if-begins_clauses.true in
    let f = c.in_ok-first.ensures in
    (omega (arith, found_shorter f, c.take.ensures.not_longer), (k.1, (unstarred_rank c.args.room f (λ e. is_not c.is_star-starred.ensures k.0 e), (omega (arith, c.requires.few), f.fits))))

pub inside-returns-then-begins_clauses : goal.inside-returns-then-begins_clauses
inside-returns-then-begins_clauses t c =
    let m = c.take.ensures.none (grind arith) in
    carried_all (λ e. exp_of e.tree) _ _ (goes_on (then_on (not_closed m.1) (narrow_carries (items_narrow c.args.room _ _ (still m.0 m.1) (λ e. is_not c.is.ensures.value (grind arith) e))))
    (item_inside c.args.room _) c.in_ok-first.ensures) c.generator.ensures

pub inside-returns-in_err-items : goal.inside-returns-in_err-items
inside-returns-in_err-items t c =
    let m = c.take.ensures.none (grind arith) in
    let f = c.in_ok-first.ensures in
    fails_at _ _ _ _ _ _ c.from_residual-in_err-items.ensures.1
    (then_on (goes_on (then_on (not_closed m.1) (narrow_carries (items_narrow c.args.room _ _ (still m.0 m.1) (λ e. is_not c.is.ensures.value (grind arith) e)))) (item_inside c.args.room _) f)
    (narrow_carries (others_narrow c.args.room (exp_of c.in_ok-first.first.tree) Close _ _ _ (λ e r. is_not c.begins_clauses.ensures (grind arith) (star_false c.args.room c.is_star-starred.result c.is_star-starred.ensures f r, e)))))
    (followed_closes c.args.room _ (exp_of c.in_ok-first.first.tree)) c.in_err-items.ensures

pub inside-returns : goal.inside-returns
inside-returns t c =
    let m = c.take.ensures.none (grind arith) in
    let f = c.in_ok-first.ensures in
    let g = c.in_ok-items.ensures in
    carried_all (λ e. exp_of e.tree) _ _ (goes_on
    (then_on (goes_on (then_on (not_closed m.1) (narrow_carries (items_narrow c.args.room _ _ (still m.0 m.1) (λ e. is_not c.is.ensures.value (grind arith) e)))) (item_inside c.args.room _) f)
    (narrow_carries (others_narrow c.args.room (exp_of c.in_ok-first.first.tree) Close _ _ _ (λ e r. is_not c.begins_clauses.ensures (grind arith) (star_false c.args.room c.is_star-starred.result c.is_star-starred.ensures f r, e)))))
    (followed_closes c.args.room _ (exp_of c.in_ok-first.first.tree)) g) (c.closed-2.ensures c.args.room g.fits)

pub generator-returns-then-item-room : goal.generator-returns-then-item-room
generator-returns-then-item-room t c = let n = signed_next _ c.requires.first in
    generator_over c.args.room c.args.line.0 (exp_of c.args.item.tree) n.0 _ n.1 c.requires.unstarred c.requires.fits (omega (arith, c.args.item.exact, c.if-item-room.true))

pub generator-clauses-requires : goal.generator-clauses-requires
generator-clauses-requires t c = (omega arith, (c.requires.first, (omega (arith, depth_some (exp_of c.args.item.tree), c.args.item.exact, c.if-item-room.false), omega (arith, c.requires.few))))

pub generator-comprehension-requires-clause-some : goal.generator-comprehension-requires-clause-some
generator-comprehension-requires-clause-some t c = let n = signed_next _ c.requires.first in
    λ e. clauses_some (c.args.room - 1) n.0 c.in_ok-clauses.ensures n.1 (ap (λ (u : List WideClause). clauses_in u) e)

pub generator-returns-in_err-clauses : goal.generator-returns-in_err-clauses
generator-returns-in_err-clauses t c =
    let n = signed_next _ c.requires.first in
    let e = exp_of c.args.item.tree in
    let small : depth_exp e < c.args.room = omega (arith, c.args.item.exact, c.if-item-room.false) in
    fails_at _ _ _ _ _ _ c.from_residual.ensures.1 (narrow_carries (generator_narrows c.args.room c.args.line.0 e _ c.requires.first c.requires.unstarred)) (generator_binds c.args.room c.args.line.0 e c.requires.fits small)
    (carried _ _ (for_carries (c.args.room - 1) (omega (arith, small, depth_some e)) _ n.0 n.1) c.in_err-clauses.ensures)

pub generator-returns-then-not-take : goal.generator-returns-then-not-take
generator-returns-then-not-take t c =
    let n = signed_next _ c.requires.first in
    let e = exp_of c.args.item.tree in
    let small : depth_exp e < c.args.room = omega (arith, c.args.item.exact, c.if-item-room.false) in
    let g = c.in_ok-clauses.ensures in
    let m = c.take.ensures.none (grind arith) in
    rw m.1 ((goes_on (narrow_carries (generator_narrows c.args.room c.args.line.0 e _ c.requires.first c.requires.unstarred)) (generator_binds c.args.room c.args.line.0 e c.requires.fits small)
    ((for_carries (c.args.room - 1) (omega (arith, small, depth_some e)) _ n.0 n.1).found _ _ g)).refused false _
    (through_bad (an_atom c.args.room) (IsSign (mark Close)) (Just (generator_of c.args.line.0 e (clauses_read c.in_ok-clauses.clauses))) _ (not_signed _ m.0) (sign 0 (mark Close)) is_sign [] _
    (omega (arith, g.fits.0, small), omega (arith, c.requires.fits.1, g.fits.1)) (λ z. just)))

pub generator-returns : goal.generator-returns
generator-returns t c =
    let n = signed_next _ c.requires.first in
    let e = exp_of c.args.item.tree in
    let small : depth_exp e < c.args.room = omega (arith, c.args.item.exact, c.if-item-room.false) in
    let g = c.in_ok-clauses.ensures in
    let m = c.take.ensures.found (grind arith) in
    let k = signed_next _ m.0 in
    rw (c.in_ok-parenthesized.ensures, c.in_ok-node.ensures, c.line-start.ensures)
    (ended (an_atom c.args.room) (goes_on (narrow_carries (generator_narrows c.args.room c.args.line.0 e _ c.requires.first c.requires.unstarred)) (generator_binds c.args.room c.args.line.0 e c.requires.fits small)
    ((for_carries (c.args.room - 1) (omega (arith, small, depth_some e)) _ n.0 n.1).found _ _ g)) k.1 is_sign m.1 tt (omega (arith, g.fits.0, small), omega (arith, c.requires.fits.1, g.fits.1)))

-- lists
-- behind an opening bracket that isn't closed at once
in_list : {d l : ℕ} {ts skipped mid : List Lexeme} → next_of ts ≡ Some (sign l (mark OpenBracket)) → skipped ≡ behind ts → mid ≡ skipped → Carries (an_atom d) ts (left (an_atom d) (Bracketed l)) mid
in_list {d} {l} {ts} h k e = subst (λ u. Carries (an_atom d) ts (left (an_atom d) (Bracketed l)) u) (sym e) (shift_on carries_all (bracket_shifts d l) h k)

pub list-returns-then-take : goal.list-returns-then-take
list-returns-then-take t c =
    let h = lined_next c.requires.open c.line-line.ensures in
    let m = c.take.ensures.found (grind arith) in
    let k = signed_next _ m.0 in
    rw (c.in_ok-list.ensures, c.new.ensures, m.1) ((shift_on carries_all (bracket_shifts c.args.room _) h c.skip.ensures.value).found _ _ (empty_found c.args.room _ k.0 c.requires.some _ k.1))

pub list-returns-then-not-begins_item : goal.list-returns-then-not-begins_item
list-returns-then-not-begins_item t c =
    let h = lined_next c.requires.open c.line-line.ensures in
    let m = c.take.ensures.none (grind arith) in
    let b : c.begins_item.result ≡ false = grind arith in
    (in_list h c.skip.ensures.value m.1).refused false _ (list_bad c.args.room _ _ c.requires.some (still m.0 m.1) (sym c.begins_item.ensures ∙ b))

pub list-returns-then-room-eq1 : goal.list-returns-then-room-eq1
list-returns-then-room-eq1 t c =
    let h = lined_next c.requires.open c.line-line.ensures in
    let m = c.take.ensures.none (grind arith) in
    let b : c.begins_item.result ≡ true = grind arith in
    let i = sym c.begins_item.ensures ∙ b in
    let k = item_token Whole _ i in
    rw c.if-room-eq1.true ((in_list h c.skip.ensures.value m.1).refused true _ (list_over _ _ k.0 k.1 (sym (ap (begins_item Whole) k.1) ∙ i)))

pub list-returns-in_err-first : goal.list-returns-in_err-first
list-returns-in_err-first t c =
    let h = lined_next c.requires.open c.line-line.ensures in
    let m = c.take.ensures.none (grind arith) in
    fails_at _ _ _ _ _ _ c.from_residual-in_err-first.ensures.1 (then_on (in_list h c.skip.ensures.value m.1) (narrow_carries (listed_narrow c.args.room _ _ (still m.0 m.1)))) (item_listed c.args.room _ c.requires.some) c.in_err-first.ensures

pub list-list_comprehension-requires : goal.list-list_comprehension-requires
list-list_comprehension-requires t c =
    let n = signed_next _ c.requires.open in
    let k = is_so c.begins_clauses.ensures c.if-begins_clauses.true in
    let f = c.in_ok-first.ensures in (
      omega (arith, found_shorter f, c.take.ensures.not_longer, c.skip.ensures.shorter, some_more _ n.1),
      (k.1, (unstarred_rank (c.args.room - 1) f (λ e. is_not c.is_star-starred.ensures k.0 e), (omega (arith, c.requires.some, c.if-room-eq1.false), (omega (arith, c.requires.few), f.fits)))),
    )

pub list-more_items-requires : goal.list-more_items-requires
list-more_items-requires t c =
    let n = signed_next _ c.requires.open in
    let f = c.in_ok-first.ensures in
    let e = exp_of c.in_ok-first.first.tree in
    let i : map exp_of c.in_ok-items.items.items ≡ e ∷ [] = c.in_ok-items.ensures ∙ ap (λ (u : List WideExpr). map exp_of u ++ (e ∷ [])) c.new-2.ensures in (
      omega (arith, found_shorter f, c.take.ensures.not_longer, c.skip.ensures.shorter, some_more _ n.1),
      (omega (arith, c.requires.some, c.if-room-eq1.false), (omega (arith, c.requires.few), (rw i (omega (arith, f.fits.0), omega (arith, f.fits.1), omega arith), rw i (λ m. (f.stops, m))))),
    )

pub list-returns-then-begins_clauses : goal.list-returns-then-begins_clauses
list-returns-then-begins_clauses t c =
    let h = lined_next c.requires.open c.line-line.ensures in
    let m = c.take.ensures.none (grind arith) in
    carried_all (λ e. exp_of e.tree) _ _ (goes_on (then_on (in_list h c.skip.ensures.value m.1) (narrow_carries (listed_narrow c.args.room _ _ (still m.0 m.1)))) (item_listed c.args.room _ c.requires.some) c.in_ok-first.ensures)
    c.list_comprehension.ensures

pub list-returns-in_err-listed : goal.list-returns-in_err-listed
list-returns-in_err-listed t c =
    let h = lined_next c.requires.open c.line-line.ensures in
    let m = c.take.ensures.none (grind arith) in
    let f = c.in_ok-first.ensures in
    let e = exp_of c.in_ok-first.first.tree in
    let i : map exp_of c.in_ok-items.items.items ≡ e ∷ [] = c.in_ok-items.ensures ∙ ap (λ (u : List WideExpr). map exp_of u ++ (e ∷ [])) c.new-2.ensures in
    fails_at _ _ _ _ _ _ c.from_residual-in_err-listed.ensures.1
    (then_on (goes_on (then_on (in_list h c.skip.ensures.value m.1) (narrow_carries (listed_narrow c.args.room _ _ (still m.0 m.1)))) (item_listed c.args.room _ c.requires.some) f)
    (narrow_carries (others_narrow c.args.room e CloseBracket _ _ _ (λ j r. is_not c.begins_clauses.ensures (grind arith) (star_false (c.args.room - 1) c.is_star-starred.result c.is_star-starred.ensures f r, j)))))
    (more_listed c.args.room _ e c.requires.some) (rw i at c.in_err-listed.ensures)

pub list-returns-then-not-take : goal.list-returns-then-not-take
list-returns-then-not-take t c =
    let h = lined_next c.requires.open c.line-line.ensures in
    let m = c.take.ensures.none (grind arith) in
    let f = c.in_ok-first.ensures in
    let e = exp_of c.in_ok-first.first.tree in
    let i : map exp_of c.in_ok-items.items.items ≡ e ∷ [] = c.in_ok-items.ensures ∙ ap (λ (u : List WideExpr). map exp_of u ++ (e ∷ [])) c.new-2.ensures in
    let g : Found (left (some_exprs Whole (c.args.room - 1)) (MoreItems Whole (e ∷ []))) _ (listed_read c.in_ok-listed.listed) _ = rw i at c.in_ok-listed.ensures in
    let k = c.take-2.ensures.none (grind arith) in
    rw k.1 ((goes_on
    (then_on (goes_on (then_on (in_list h c.skip.ensures.value m.1) (narrow_carries (listed_narrow c.args.room _ _ (still m.0 m.1)))) (item_listed c.args.room _ c.requires.some) f)
    (narrow_carries (others_narrow c.args.room e CloseBracket _ _ _ (λ j r. is_not c.begins_clauses.ensures (grind arith) (star_false (c.args.room - 1) c.is_star-starred.result c.is_star-starred.ensures f r, j)))))
    (more_listed c.args.room _ e c.requires.some) g).refused false _
    (through_bad (an_atom c.args.room) (IsSign (mark CloseBracket)) (Just (S.list _ (all_of (listed_read c.in_ok-listed.listed).items))) _ (not_signed _ k.0) (sign 0 (mark CloseBracket)) is_sign [] _
    (omega (arith, g.fits.0, c.requires.some), omega (arith, g.fits.1, g.fits.2)) (λ z. just)))

pub list-returns : goal.list-returns
list-returns t c =
    let h = lined_next c.requires.open c.line-line.ensures in
    let m = c.take.ensures.none (grind arith) in
    let f = c.in_ok-first.ensures in
    let e = exp_of c.in_ok-first.first.tree in
    let i : map exp_of c.in_ok-items.items.items ≡ e ∷ [] = c.in_ok-items.ensures ∙ ap (λ (u : List WideExpr). map exp_of u ++ (e ∷ [])) c.new-2.ensures in
    let g : Found (left (some_exprs Whole (c.args.room - 1)) (MoreItems Whole (e ∷ []))) _ (listed_read c.in_ok-listed.listed) _ = rw i at c.in_ok-listed.ensures in
    let k = c.take-2.ensures.found (grind arith) in
    let j = signed_next _ k.0 in
    rw c.in_ok-list-2.ensures (ended (an_atom c.args.room) (goes_on
    (then_on (goes_on (then_on (in_list h c.skip.ensures.value m.1) (narrow_carries (listed_narrow c.args.room _ _ (still m.0 m.1)))) (item_listed c.args.room _ c.requires.some) f)
    (narrow_carries (others_narrow c.args.room e CloseBracket _ _ _ (λ j r. is_not c.begins_clauses.ensures (grind arith) (star_false (c.args.room - 1) c.is_star-starred.result c.is_star-starred.ensures f r, j)))))
    (more_listed c.args.room _ e c.requires.some) g) j.1 is_sign k.1 tt (omega (arith, g.fits.0, c.requires.some), omega (arith, g.fits.1, g.fits.2)))

pub list_comprehension-returns-in_err-clauses : goal.list_comprehension-returns-in_err-clauses
list_comprehension-returns-in_err-clauses t c =
    let n = signed_next _ c.requires.first in
    let e = exp_of c.args.item.tree in
    fails_at _ _ _ _ _ _ c.from_residual.ensures.1 (narrow_carries (comprehension_narrows c.args.room c.args.line.0 e _ c.requires.first c.requires.unstarred)) (comprehension_binds c.args.room c.args.line.0 e c.requires.fits (omega (arith, c.requires.some)))
    (carried _ _ (for_carries (c.args.room - 1) (omega (arith, c.requires.some)) _ n.0 n.1) c.in_err-clauses.ensures)

pub list_comprehension-returns-then-not-take : goal.list_comprehension-returns-then-not-take
list_comprehension-returns-then-not-take t c =
    let n = signed_next _ c.requires.first in
    let e = exp_of c.args.item.tree in
    let g = c.in_ok-clauses.ensures in
    let m = c.take.ensures.none (grind arith) in
    rw m.1 ((goes_on (narrow_carries (comprehension_narrows c.args.room c.args.line.0 e _ c.requires.first c.requires.unstarred)) (comprehension_binds c.args.room c.args.line.0 e c.requires.fits (omega (arith, c.requires.some)))
    ((for_carries (c.args.room - 1) (omega (arith, c.requires.some)) _ n.0 n.1).found _ _ g)).refused false _
    (through_bad (an_atom c.args.room) (IsSign (mark CloseBracket)) (Just (list_comprehension_of c.args.line.0 e (clauses_read c.in_ok-clauses.clauses))) _ (not_signed _ m.0) (sign 0 (mark CloseBracket)) is_sign [] _
    (omega (arith, g.fits.0, c.requires.fits.0, c.requires.some), omega (arith, c.requires.fits.1, g.fits.1)) (λ z. just)))

pub list_comprehension-returns : goal.list_comprehension-returns
list_comprehension-returns t c =
    let n = signed_next _ c.requires.first in
    let e = exp_of c.args.item.tree in
    let g = c.in_ok-clauses.ensures in
    let m = c.take.ensures.found (grind arith) in
    let k = signed_next _ m.0 in
    rw c.in_ok-comprehension.ensures
    (ended (an_atom c.args.room) (goes_on (narrow_carries (comprehension_narrows c.args.room c.args.line.0 e _ c.requires.first c.requires.unstarred)) (comprehension_binds c.args.room c.args.line.0 e c.requires.fits (omega (arith, c.requires.some)))
    ((for_carries (c.args.room - 1) (omega (arith, c.requires.some)) _ n.0 n.1).found _ _ g)) k.1 is_sign m.1 tt (omega (arith, g.fits.0, c.requires.fits.0, c.requires.some), omega (arith, c.requires.fits.1, g.fits.1)))

pub list_comprehension-comprehension-requires-clause-some : goal.list_comprehension-comprehension-requires-clause-some
list_comprehension-comprehension-requires-clause-some t c = let n = signed_next _ c.requires.first in
    λ e. clauses_some (c.args.room - 1) n.0 c.in_ok-clauses.ensures n.1 (ap (λ (u : List WideClause). clauses_in u) e)

-- strings and f-strings
pub strings-returns-in_err-quotes : goal.strings-returns-in_err-quotes
strings-returns-in_err-quotes t c =
    let l = line_at (next_of c.args.self.now.lexemes) in
    fails_at _ _ _ _ _ _ c.from_residual.ensures.1 (begun c.args.room c.args.self.now.lexemes (quoted_read c.new.result) (quotes_none c.new.ensures.formatted c.new.ensures.pieces) c.requires.begins)
    (another_binds c.args.room l l (quoted_read c.new.result) c.requires.some) c.in_err-quotes.ensures

pub strings-more-init : goal.strings-more-init
strings-more-init t c =
    let f = c.in_ok-quotes.ensures in
    let l = line_at (next_of c.args.self.now.lexemes) in record {
      shorter = found_shorter f;
      fits = string_fits (c.args.room - 1) (f.reads []) (none_fit (c.args.room - 1) c.new.ensures.pieces) f.fits;
      quoted = f.fits;
      carries = rw c.line-line.ensures (goes_on (begun c.args.room c.args.self.now.lexemes (quoted_read c.new.result) (quotes_none c.new.ensures.formatted c.new.ensures.pieces) c.requires.begins)
          (another_binds c.args.room l l (quoted_read c.new.result) c.requires.some) f);
    }

pub strings-returns-in_err-quotes-2 : goal.strings-returns-in_err-quotes-2
strings-returns-in_err-quotes-2 t c =
    let b = is_so c.begins_string.ensures c.more-test.true in
    let q = quoted_read c.more.quotes in
    fails_at _ _ _ _ _ _ c.from_residual-in_err-quotes-2.ensures.1 (then_on c.more.invariant.carries (again c.args.room c.line-line.result.0 q c.more.self.lexemes b))
    (another_binds c.args.room c.line-line.result.0 (line_at (next_of c.more.self.lexemes)) q c.requires.some) c.in_err-quotes-2.ensures

pub strings-more-smaller : goal.strings-more-smaller
strings-more-smaller t c = string_shorter c.in_ok-quotes-2.ensures

pub strings-more-preserved : goal.strings-more-preserved
strings-more-preserved t c =
    let b = is_so c.begins_string.ensures c.more-test.true in
    let q = quoted_read c.more.quotes in
    let f = c.in_ok-quotes-2.ensures in record {
      shorter = omega (arith, c.more.invariant.shorter, found_shorter f);
      fits = string_fits (c.args.room - 1) (f.reads []) c.more.invariant.fits f.fits;
      quoted = f.fits;
      carries = goes_on (then_on c.more.invariant.carries (again c.args.room c.line-line.result.0 q c.more.self.lexemes b)) (another_binds c.args.room c.line-line.result.0 (line_at (next_of c.more.self.lexemes)) q c.requires.some) f;
    }

pub strings-returns : goal.strings-returns
strings-returns t c = rw c.in_ok-string.ensures
    (c.more.invariant.carries.found _ _
    (strings_found c.args.room c.line-line.result.0 (quoted_read c.more.quotes) c.more.self.lexemes c.requires.some (λ b. is_not c.begins_string.ensures c.more-test.false b) c.more.invariant.quoted))

pub string-returns-in_err-plain : goal.string-returns-in_err-plain
string-returns-in_err-plain t c =
    let m = c.take.ensures.none (grind arith) in
    passed _ _ _ _ _ _ c.from_residual.ensures.1 (rw m.1 at (c.in_err-plain.ensures c.args.room (quoted_read c.args.quotes) c.requires.fits))

pub string-returns-then-not-take : goal.string-returns-then-not-take
string-returns-then-not-take t c =
    let m = c.take.ensures.none (grind arith) in
    rw c.in_ok-pieces.ensures (rw m.1 at (c.in_ok-plain.ensures c.args.room (quoted_read c.args.quotes) c.requires.fits))

-- behind the token with which an f-string begins
in_string : {d l : ℕ} {q : Quoted} {ts rest : List Lexeme} → next_of ts ≡ Some (sign l (layout FStart)) → rest ≡ behind ts → Carries (a_string l d q) ts (left (a_string l d q) (Inside_of_string_lemmas q)) rest
in_string {d} {l} {q} h k = shift_on carries_all (string_shifts l d q) h k

pub string-returns-in_err-pieces-2 : goal.string-returns-in_err-pieces-2
string-returns-in_err-pieces-2 t c =
    let m = c.take.ensures.found (grind arith) in
    let n = signed_next _ m.0 in
    let q = quoted_read c.args.quotes in
    rw (ap line_at n.1) (fails_at _ _ _ _ _ _ c.from_residual-in_err-pieces-2.ensures.1 (in_string {d = c.args.room} {q = q} n.1 m.1) (inside_binds n.0 c.args.room q) c.in_err-pieces-2.ensures)

pub string-returns-then-not-take-2 : goal.string-returns-then-not-take-2
string-returns-then-not-take-2 t c =
    let m = c.take.ensures.found (grind arith) in
    let n = signed_next _ m.0 in
    let q = quoted_read c.args.quotes in
    let f = c.in_ok-pieces-2.ensures in
    let k = c.take-2.ensures.none (grind arith) in
    let x = quoted true (parts_read c.in_ok-pieces-2.pieces) in
    rw (ap line_at n.1, k.1) ((goes_on (in_string {d = c.args.room} {q = q} n.1 m.1) (inside_binds n.0 c.args.room q) f).refused false _
    (through_bad (a_string n.0 c.args.room q) (IsSign (layout FEnd)) (Just x) _ (not_signed _ k.0) (sign 0 (layout FEnd)) is_sign [] x f.fits (λ z. just)))

pub string-returns : goal.string-returns
string-returns t c =
    let m = c.take.ensures.found (grind arith) in
    let n = signed_next _ m.0 in
    let q = quoted_read c.args.quotes in
    let f = c.in_ok-pieces-2.ensures in
    let k = c.take-2.ensures.found (grind arith) in
    let o = signed_next _ k.0 in
    rw (ap line_at n.1) (ended (a_string n.0 c.args.room q) (goes_on (in_string {d = c.args.room} {q = q} n.1 m.1) (inside_binds n.0 c.args.room q) f) o.1 is_sign k.1 tt f.fits)

pub formatted-returns-in_err-piece : goal.formatted-returns-in_err-piece
formatted-returns-in_err-piece t c =
    let b = is_so c.begins_piece.ensures c.more-test.true in
    let os = parts_read c.args.pieces in
    let ps = parts_read c.more.pieces in
    fails_at _ _ _ _ _ _ c.from_residual.ensures.1 (then_on c.more.invariant.carries (one_more c.args.fields c.args.room os ps c.more.self.lexemes b)) (piece_binds c.args.fields c.args.room os ps c.more.invariant.fits) c.in_err-piece.ensures

pub formatted-more-smaller : goal.formatted-more-smaller
formatted-more-smaller t c = piece_shorter c.in_ok-piece.ensures

pub formatted-more-preserved : goal.formatted-more-preserved
formatted-more-preserved t c =
    let b = is_so c.begins_piece.ensures c.more-test.true in
    let os = parts_read c.args.pieces in
    let ps = parts_read c.more.pieces in
    let f = c.in_ok-piece.ensures in record {
      shorter = omega (arith, c.more.invariant.shorter, found_shorter f);
      fits = rw c.in_ok-pieces.ensures (pieces_grow c.args.room ps (piece_read c.in_ok-piece.piece.piece) c.more.invariant.fits f.fits);
      carries = rw c.in_ok-pieces.ensures (goes_on (then_on c.more.invariant.carries (one_more c.args.fields c.args.room os ps c.more.self.lexemes b)) (piece_binds c.args.fields c.args.room os ps c.more.invariant.fits) f);
    }

pub formatted-returns-then-not-ends_formatted : goal.formatted-returns-then-not-ends_formatted
formatted-returns-then-not-ends_formatted t c =
    let e : c.ends_formatted.result ≡ false = grind arith in
    c.more.invariant.carries.refused false _
    (formatted_bad c.args.fields c.args.room (parts_read c.args.pieces) (parts_read c.more.pieces) c.more.self.lexemes (λ b. is_not c.begins_piece.ensures c.more-test.false b) (sym c.ends_formatted.ensures ∙ e) c.more.invariant.fits)

pub formatted-returns : goal.formatted-returns
formatted-returns t c =
    let e : c.ends_formatted.result ≡ true = grind arith in
    c.more.invariant.carries.found _ _
    (formatted_found c.args.fields c.args.room (parts_read c.args.pieces) (parts_read c.more.pieces) c.more.self.lexemes (λ b. is_not c.begins_piece.ensures c.more-test.false b) (sym c.ends_formatted.ensures ∙ e) c.more.invariant.fits)

pub piece-returns-then-not-is : goal.piece-returns-then-not-is
piece-returns-then-not-is t c = c.literal_text.ensures c.args.fields c.args.room

pub piece-returns-then-room-eq0 : goal.piece-returns-then-room-eq0
piece-returns-then-room-eq0 t c =
    let n = signed_next _ (is_so c.is.ensures.value (grind arith)) in
    rw c.if-room-eq0.true (field_over c.args.fields (c.args.fields - 1) n.0 c.args.self.now.lexemes (may_open c.args.fields n.0 (subst (BeginsPiece c.args.fields) n.1 c.requires.begins)) n.1)

pub piece-returns : goal.piece-returns
piece-returns t c =
    let n = signed_next _ (is_so c.is.ensures.value (grind arith)) in
    carried_all (λ p. piece_read p.piece) _ _ (shift_on carries_all (field_shifts c.args.fields (c.args.fields - 1) c.args.room n.0 (may_open c.args.fields n.0 (subst (BeginsPiece c.args.fields) n.1 c.requires.begins))) n.1 c.skip.ensures.value)
    (rw (c.line-line.ensures, ap line_at n.1) at c.field.ensures)

pub field-returns-in_err-value : goal.field-returns-in_err-value
field-returns-in_err-value t c = fails_at _ _ _ _ _ _ c.from_residual.ensures.1 carries_all (value_binds_of_string_lemmas c.args.fields c.args.line.0 c.args.room) c.in_err-value.ensures

pub field-returns-in_err-conversion : goal.field-returns-in_err-conversion
field-returns-in_err-conversion t c =
    let f = c.in_ok-value.ensures in
    let e = exp_of c.in_ok-value.value.tree in
    fails_at _ _ _ _ _ _ c.from_residual-in_err-conversion.ensures.1 (goes_on carries_all (value_binds_of_string_lemmas c.args.fields c.args.line.0 c.args.room) f) (conversion_binds c.args.fields c.args.line.0 c.args.room e f.fits) c.in_err-conversion.ensures

-- behind a value and its conversion
in_field : {n l d : ℕ} {e : Exp} {v : _} {ts mid rest : List Lexeme} → Found (a_value d) ts e mid → Found a_conversion mid v rest → Carries (a_field n l d) ts (left (a_field n l d) (AfterConversion n l e v)) rest
in_field {n} {l} {d} {e} f g = goes_on (goes_on carries_all (value_binds_of_string_lemmas n l d) f) (conversion_binds n l d e f.fits) g

pub field-returns-in_err-spec : goal.field-returns-in_err-spec
field-returns-in_err-spec t c =
    let f = c.in_ok-value.ensures in
    let e = exp_of c.in_ok-value.value.tree in
    fails_at _ _ _ _ _ _ c.from_residual-in_err-spec.ensures.1 (in_field f c.in_ok-conversion.ensures) (spec_binds c.args.fields c.args.line.0 c.args.room e c.in_ok-conversion.conversion f.fits) c.in_err-spec.ensures

pub field-returns-then-not-take : goal.field-returns-then-not-take
field-returns-then-not-take t c =
    let f = c.in_ok-value.ensures in
    let h = c.in_ok-spec.ensures in
    let e = exp_of c.in_ok-value.value.tree in
    let v = c.in_ok-conversion.conversion in
    let ps = parts_read c.in_ok-spec.spec in
    let x = field c.args.line.0 e v (pieces_of ps) in
    let m = c.take.ensures.none (grind arith) in
    rw m.1 ((goes_on (in_field f c.in_ok-conversion.ensures) (spec_binds c.args.fields c.args.line.0 c.args.room e v f.fits) h).refused false _
    (through_bad (a_field c.args.fields c.args.line.0 c.args.room) (IsSign (mark CloseBrace)) (Just x) _ (not_signed _ m.0) (sign 0 (mark CloseBrace)) is_sign [] x (field_fits c.args.room c.args.line.0 e v ps f.fits h.fits) (λ z. just)))

pub field-returns : goal.field-returns
field-returns t c =
    let f = c.in_ok-value.ensures in
    let h = c.in_ok-spec.ensures in
    let e = exp_of c.in_ok-value.value.tree in
    let v = c.in_ok-conversion.conversion in
    let ps = parts_read c.in_ok-spec.spec in
    let m = c.take.ensures.found (grind arith) in
    let n = signed_next _ m.0 in
    rw c.in_ok-field.ensures (ended (a_field c.args.fields c.args.line.0 c.args.room) (goes_on (in_field f c.in_ok-conversion.ensures) (spec_binds c.args.fields c.args.line.0 c.args.room e v f.fits) h) n.1 is_sign m.1 tt (field_fits c.args.room c.args.line.0 e v ps f.fits h.fits))

pub field-spec-requires : goal.field-spec-requires
field-spec-requires t c = omega (arith, found_shorter c.in_ok-value.ensures, found_shorter c.in_ok-conversion.ensures)

pub spec-returns-then-take : goal.spec-returns-then-take
spec-returns-then-take t c =
    let m = c.take.ensures.found (grind arith) in
    let n = signed_next _ m.0 in
    carried_all parts_read _ _ (shift_on carries_all (spec_shifts c.args.fields c.args.room n.0) n.1 m.1) (rw c.new-pieces.ensures at c.formatted.ensures)

pub spec-returns-then-not-ends_formatted : goal.spec-returns-then-not-ends_formatted
spec-returns-then-not-ends_formatted t c =
    let m = c.take.ensures.none (grind arith) in
    let e : c.ends_formatted.result ≡ false = grind arith in
    rw m.1 (spec_bad c.args.fields c.args.room c.args.self.now.lexemes m.0 (ap (λ u. ends_formatted (next_of u)) (sym m.1) ∙ sym c.ends_formatted.ensures ∙ e))

pub spec-returns : goal.spec-returns
spec-returns t c =
    let m = c.take.ensures.none (grind arith) in
    let e : c.ends_formatted.result ≡ true = grind arith in
    rw (c.new-pieces.ensures, m.1) (no_spec_found c.args.fields c.args.room c.args.self.now.lexemes m.0 (ap (λ u. ends_formatted (next_of u)) (sym m.1) ∙ sym c.ends_formatted.ensures ∙ e))

-- clauses of comprehensions
pub conditions-returns-in_err-next : goal.conditions-returns-in_err-next
conditions-returns-in_err-next t c = let n = signed_next _ (is_so c.is.ensures.value c.more-test.true) in
    fails_at _ _ _ _ _ _ c.from_residual.ensures.1 (shift_on c.more.invariant.carries (conditions_shift c.args.room _ n.0) n.1 c.skip.ensures.value)
    (conditions_bind c.args.room _ n.0 c.more.invariant.fits) c.in_err-next.ensures

pub conditions-more-preserved : goal.conditions-more-preserved
conditions-more-preserved t c = let n = signed_next _ (is_so c.is.ensures.value c.more-test.true) in
    let g = c.in_ok-next.ensures in record {
      shorter = omega (arith, c.more.invariant.shorter, found_shorter g, ap length c.skip.ensures.value, some_more _ n.1);
      fits = rw c.in_ok-conditions.ensures (conditions_grow c.args.room (map exp_of c.more.conditions.items) (exp_of c.in_ok-next.next.tree) c.more.invariant.fits g.fits);
      carries = rw c.in_ok-conditions.ensures (goes_on (shift_on c.more.invariant.carries (conditions_shift c.args.room _ n.0) n.1 c.skip.ensures.value) (conditions_bind c.args.room _ n.0 c.more.invariant.fits) g);
    }

pub conditions-returns-then-not-ends_clause : goal.conditions-returns-then-not-ends_clause
conditions-returns-then-not-ends_clause t c =
    let b : c.ends_clause.result ≡ false = grind arith in
    c.more.invariant.carries.refused false _ (conditions_bad c.args.room _ _ (λ e. is_not c.is.ensures.value c.more-test.false e) (sym c.ends_clause.ensures ∙ b) c.more.invariant.fits)

pub conditions-returns : goal.conditions-returns
conditions-returns t c =
    let b : c.ends_clause.result ≡ true = grind arith in
    c.more.invariant.carries.found _ _ (conditions_found c.args.room _ _ (λ e. is_not c.is.ensures.value c.more-test.false e) (sym c.ends_clause.ensures ∙ b) c.more.invariant.fits)

pub clause-returns-in_err-target : goal.clause-returns-in_err-target
clause-returns-in_err-target t c = fails_at _ _ _ _ _ _ c.from_residual.ensures.1 carries_all (target_binds c.args.room c.args.line.0 c.requires.some) c.in_err-target.ensures

pub clause-returns-then-not-take : goal.clause-returns-then-not-take
clause-returns-then-not-take t c =
    let f = c.in_ok-target.ensures in
    let m = c.take.ensures.none (grind arith) in
    let x = exp_of c.in_ok-target.target.tree in
    rw m.1 ((goes_on carries_all (target_binds c.args.room c.args.line.0 c.requires.some) f).refused false _
    (through_bad (a_clause c.args.line.0 c.args.room) (IsSign (word In)) (Iterating c.args.line.0 x) _ (not_signed _ m.0) (sign 0 (word In)) is_sign (some_name ∷ []) (a_clause_of c.args.line.0 x some_exp [])
    (clause_fits c.args.room c.args.line.0 x some_exp [] f.fits (fits_name c.args.room c.requires.some) (omega arith, omega arith)) (λ z. iterating name_disjunction no_condition)))

-- behind a target and "in"
in_clause : {d l m : ℕ} {t : Exp} {ts mid rest : List Lexeme} → 0 < d → Found (a_bare Target d) ts t mid → next_of mid ≡ Some (sign m (word In)) → rest ≡ behind mid
    → Carries (a_clause l d) ts (left (a_clause l d) (Iterating l t)) rest
in_clause {d} {l} {m} {t} h f e k = shift_on (goes_on carries_all (target_binds d l h) f) (through_shifts (a_clause l d) (IsSign (word In)) (Iterating l t) (sign m (word In)) is_sign) e k

pub clause-returns-in_err-iterable : goal.clause-returns-in_err-iterable
clause-returns-in_err-iterable t c =
    let f = c.in_ok-target.ensures in
    let m = c.take.ensures.found (grind arith) in
    let n = signed_next _ m.0 in
    fails_at _ _ _ _ _ _ c.from_residual-in_err-iterable.ensures.1 (in_clause c.requires.some f n.1 m.1) (iterable_binds c.args.room c.args.line.0 (exp_of c.in_ok-target.target.tree) f.fits) c.in_err-iterable.ensures

pub clause-returns-in_err-conditions : goal.clause-returns-in_err-conditions
clause-returns-in_err-conditions t c =
    let f = c.in_ok-target.ensures in
    let g = c.in_ok-iterable.ensures in
    let m = c.take.ensures.found (grind arith) in
    let n = signed_next _ m.0 in
    fails_at _ _ _ _ _ _ c.from_residual-in_err-conditions.ensures.1 (goes_on (in_clause c.requires.some f n.1 m.1) (iterable_binds c.args.room c.args.line.0 (exp_of c.in_ok-target.target.tree) f.fits) g)
    (conditions_made c.args.room c.args.line.0 (exp_of c.in_ok-target.target.tree) (exp_of c.in_ok-iterable.iterable.tree) f.fits g.fits) c.in_err-conditions.ensures

pub clause-returns : goal.clause-returns
clause-returns t c =
    let f = c.in_ok-target.ensures in
    let g = c.in_ok-iterable.ensures in
    let h = c.in_ok-conditions.ensures in
    let m = c.take.ensures.found (grind arith) in
    let n = signed_next _ m.0 in
    rw c.new.ensures (made_found (a_clause c.args.line.0 c.args.room) (goes_on (in_clause c.requires.some f n.1 m.1) (iterable_binds c.args.room c.args.line.0 (exp_of c.in_ok-target.target.tree) f.fits) g)
    (conditions_made c.args.room c.args.line.0 (exp_of c.in_ok-target.target.tree) (exp_of c.in_ok-iterable.iterable.tree) f.fits g.fits) h h.stops
    (clause_fits c.args.room c.args.line.0 (exp_of c.in_ok-target.target.tree) (exp_of c.in_ok-iterable.iterable.tree) (map exp_of c.in_ok-conditions.conditions.items) f.fits g.fits h.fits))

pub clauses-returns-in_err-next : goal.clauses-returns-in_err-next
clauses-returns-in_err-next t c = let n = signed_next _ (is_so c.is.ensures.value c.more-test.true) in
    fails_at _ _ _ _ _ _ c.from_residual.ensures.1 (shift_on c.more.invariant.carries (clauses_shift c.args.room _ n.0) n.1 c.skip.ensures.value)
    (clauses_bind c.args.room _ n.0 c.more.invariant.fits) (rw (sym (c.line-line.ensures ∙ ap line_at n.1)) c.in_err-next.ensures)

pub clauses-more-preserved : goal.clauses-more-preserved
clauses-more-preserved t c = let n = signed_next _ (is_so c.is.ensures.value c.more-test.true) in
    let g = subst (λ l. Found (a_clause l c.args.room) c.skip.new.self (clause_in c.in_ok-next.next.tree) c.clause.new.self.lexemes) (c.line-line.ensures ∙ ap line_at n.1) c.in_ok-next.ensures in record {
      shorter = omega (arith, c.more.invariant.shorter, found_shorter g, ap length c.skip.ensures.value, some_more _ n.1);
      fits = rw c.in_ok-clauses.ensures (clauses_grow c.args.room (clauses_in c.more.clauses.items) (clause_in c.in_ok-next.next.tree) c.more.invariant.fits g.fits);
      carries = rw c.in_ok-clauses.ensures (goes_on (shift_on c.more.invariant.carries (clauses_shift c.args.room _ n.0) n.1 c.skip.ensures.value) (clauses_bind c.args.room _ n.0 c.more.invariant.fits) g);
    }

pub clauses-returns-then-not-ends_clauses : goal.clauses-returns-then-not-ends_clauses
clauses-returns-then-not-ends_clauses t c =
    let b : c.ends_clauses.result ≡ false = grind arith in
    c.more.invariant.carries.refused false _ (clauses_bad c.args.room _ _ (λ e. is_not c.is.ensures.value c.more-test.false e) (sym c.ends_clauses.ensures ∙ b) c.more.invariant.fits)

pub clauses-returns : goal.clauses-returns
clauses-returns t c =
    let b : c.ends_clauses.result ≡ true = grind arith in
    c.more.invariant.carries.found _ _ (clauses_found c.args.room _ _ (λ e. is_not c.is.ensures.value c.more-test.false e) (sym c.ends_clauses.ensures ∙ b) c.more.invariant.fits)

-- displays of sets and dictionaries
pub pair-returns-in_err-value : goal.pair-returns-in_err-value
pair-returns-in_err-value t c = fails_at _ _ _ _ _ _ c.from_residual.ensures.1 carries_all (value_made c.args.room (exp_of c.args.key.tree) c.requires.fits) c.in_err-value.ensures

pub pair-returns-then-not-ends_entry : goal.pair-returns-then-not-ends_entry
pair-returns-then-not-ends_entry t c =
    let b : c.ends_entry.result ≡ false = grind arith in
    let g = c.in_ok-value.ensures in
    let k = exp_of c.args.key.tree in
    (goes_on carries_all (value_made c.args.room k c.requires.fits) g).refused false _
    (just_bad_of_brace_lemmas (an_entry c.args.room) (S.pair k (exp_of c.in_ok-value.value.tree)) _ (λ s. let h = sym s ∙ (sym c.ends_entry.ensures ∙ b) in cc) (λ s. cc) (pair_fits c.args.room k (exp_of c.in_ok-value.value.tree) c.requires.fits g.fits))

pub pair-returns : goal.pair-returns
pair-returns t c =
    let b : c.ends_entry.result ≡ true = grind arith in
    let g = c.in_ok-value.ensures in
    let k = exp_of c.args.key.tree in
    rw c.pair.ensures (made_found (an_entry c.args.room) carries_all (value_made c.args.room k c.requires.fits) g (sym c.ends_entry.ensures ∙ b) (pair_fits c.args.room k (exp_of c.in_ok-value.value.tree) c.requires.fits g.fits))

pub entry-returns-in_err-key : goal.entry-returns-in_err-key
entry-returns-in_err-key t c =
    let n : sign_at (next_of c.args.self.now.lexemes) ≢ Some (Operator (Plain Pow)) = is_not c.is.ensures.value (grind arith) in
    fails_at _ _ _ _ _ _ c.from_residual.ensures.1 (narrow_carries (keyed_narrows c.args.room _ n)) (key_binds c.args.room c.requires.some) c.in_err-key.ensures

pub entry-returns-then-not-take : goal.entry-returns-then-not-take
entry-returns-then-not-take t c =
    let n : sign_at (next_of c.args.self.now.lexemes) ≢ Some (Operator (Plain Pow)) = is_not c.is.ensures.value (grind arith) in
    let f = c.in_ok-key.ensures in
    let k = exp_of c.in_ok-key.key.tree in
    let m = c.take.ensures.none (grind arith) in
    rw m.1 ((goes_on (narrow_carries (keyed_narrows c.args.room _ n)) (key_binds c.args.room c.requires.some) f).refused false _
    (through_bad (an_entry c.args.room) (IsSign (mark Colon)) (Made (an_expr c.args.room) (S.pair k)) _ (not_signed _ m.0) (sign 0 (mark Colon)) is_sign (some_name ∷ []) (S.pair k some_exp)
    (pair_fits c.args.room k some_exp f.fits (fits_name c.args.room c.requires.some)) (λ z. made name_expr)))

-- behind a key and its colon
in_pair : {d l : ℕ} {k : Exp} {ts mid rest : List Lexeme} → 0 < d → sign_at (next_of ts) ≢ Some (Operator (Plain Pow)) → Found (an_expr d) ts k mid → next_of mid ≡ Some (sign l (mark Colon)) → rest ≡ behind mid
    → Carries (an_entry d) ts (left (an_entry d) (Made (an_expr d) (S.pair k))) rest
in_pair {d} {l} {k} {ts} some n f h e = shift_on (goes_on (narrow_carries (keyed_narrows d ts n)) (key_binds d some) f) (through_shifts (an_entry d) (IsSign (mark Colon)) (Made (an_expr d) (S.pair k)) (sign l (mark Colon)) is_sign) h e

pub entry-returns-then-not-is : goal.entry-returns-then-not-is
entry-returns-then-not-is t c =
    let n : sign_at (next_of c.args.self.now.lexemes) ≢ Some (Operator (Plain Pow)) = is_not c.is.ensures.value (grind arith) in
    let m = c.take.ensures.found (grind arith) in
    let j = signed_next _ m.0 in
    carried_all (λ g. entry_of g.tree) _ _ (in_pair c.requires.some n c.in_ok-key.ensures j.1 m.1) c.pair.ensures

pub entry-returns-in_err-mapping : goal.entry-returns-in_err-mapping
entry-returns-in_err-mapping t c = let n = signed_next _ (is_so c.is.ensures.value (grind arith)) in
    fails_at _ _ _ _ _ _ c.from_residual-in_err-mapping.ensures.1 (shift_on carries_all (spread_shifts c.args.room n.0) n.1 c.skip.ensures.value) (spread_made c.args.room n.0) c.in_err-mapping.ensures

pub entry-returns-then-not-ends_entry : goal.entry-returns-then-not-ends_entry
entry-returns-then-not-ends_entry t c = let n = signed_next _ (is_so c.is.ensures.value (grind arith)) in
    let b : c.ends_entry.result ≡ false = grind arith in
    let g = c.in_ok-mapping.ensures in
    (goes_on (shift_on carries_all (spread_shifts c.args.room n.0) n.1 c.skip.ensures.value) (spread_made c.args.room n.0) g).refused false _
    (just_bad_of_brace_lemmas (an_entry c.args.room) (S.spread_entry n.0 (exp_of c.in_ok-mapping.mapping.tree)) _ (λ s. let h = sym s ∙ (sym c.ends_entry.ensures ∙ b) in cc) (λ s. cc) g.fits)

pub entry-returns : goal.entry-returns
entry-returns t c = let n = signed_next _ (is_so c.is.ensures.value (grind arith)) in
    let b : c.ends_entry.result ≡ true = grind arith in
    let g = c.in_ok-mapping.ensures in
    rw (c.spread.ensures, c.line-line.ensures, ap line_at n.1)
    (made_found (an_entry c.args.room) (shift_on carries_all (spread_shifts c.args.room n.0) n.1 c.skip.ensures.value) (spread_made c.args.room n.0) g (sym c.ends_entry.ensures ∙ b) g.fits)

pub more_entries-more-init : goal.more_entries-more-init
more_entries-more-init t c =
    let h : map entry_of c.in_ok-entries.entries.items ≡ entry_of c.args.first.tree ∷ [] = c.in_ok-entries.ensures ∙ ap (λ (u : List WideEntry). map entry_of u ++ (entry_of c.args.first.tree ∷ [])) c.new.ensures in record {
      shorter = omega arith;
      fits = rw h (entries_one c.args.room (entry_of c.args.first.tree) c.requires.fits);
      carries = rw h carries_all;
    }

pub more_entries-returns-then-is : goal.more_entries-returns-then-is
more_entries-returns-then-is t c =
    let m = c.take.ensures.found c.more-test.true in
    let n = signed_next _ m.0 in
    (shift_on c.more.invariant.carries (entries_comma_shifts c.args.room (map entry_of c.more.entries.items) n.0) n.1 m.1).found _ _
    (entries_last c.args.room (map entry_of c.more.entries.items) _ (is_so c.is.ensures.value (grind arith)) c.more.invariant.fits)

pub more_entries-returns-then-not-begins_entry : goal.more_entries-returns-then-not-begins_entry
more_entries-returns-then-not-begins_entry t c =
    let m = c.take.ensures.found c.more-test.true in
    let n = signed_next _ m.0 in
    let b : c.begins_entry.result ≡ false = grind arith in
    (shift_on c.more.invariant.carries (entries_comma_shifts c.args.room (map entry_of c.more.entries.items) n.0) n.1 m.1).refused false _
    (entries_last_bad c.args.room (map entry_of c.more.entries.items) _ (sym c.begins_entry.ensures ∙ b) (is_not c.is.ensures.value (grind arith)) c.more.invariant.fits)

pub more_entries-returns-then-len-ge-MAX_ITEMS : goal.more_entries-returns-then-len-ge-MAX_ITEMS
more_entries-returns-then-len-ge-MAX_ITEMS t c =
    let m = c.take.ensures.found c.more-test.true in
    let n = signed_next _ m.0 in
    let b : c.begins_entry.result ≡ true = grind arith in
    (shift_on c.more.invariant.carries (entries_comma_shifts c.args.room (map entry_of c.more.entries.items) n.0) n.1 m.1).refused true _
    (entries_over c.args.room (map entry_of c.more.entries.items) _ (sym c.begins_entry.ensures ∙ b) c.more.invariant.fits (omega (arith, c.if-len-ge-MAX_ITEMS.true, c.len.ensures, count_of_entries entry_of c.more.entries.items)))

pub more_entries-returns-in_err-next : goal.more_entries-returns-in_err-next
more_entries-returns-in_err-next t c =
    let m = c.take.ensures.found c.more-test.true in
    let n = signed_next _ m.0 in
    let b : c.begins_entry.result ≡ true = grind arith in
    fails_at _ _ _ _ _ _ c.from_residual-in_err-next.ensures.1 (then_on (shift_on c.more.invariant.carries (entries_comma_shifts c.args.room (map entry_of c.more.entries.items) n.0) n.1 m.1) (entries_another c.args.room (map entry_of c.more.entries.items) _ (sym c.begins_entry.ensures ∙ b)))
    (entries_next c.args.room (map entry_of c.more.entries.items) c.more.invariant.fits (omega (arith, c.if-len-ge-MAX_ITEMS.false, c.len.ensures, count_of_entries entry_of c.more.entries.items))) c.in_err-next.ensures

pub more_entries-more-preserved : goal.more_entries-more-preserved
more_entries-more-preserved t c =
    let m = c.take.ensures.found c.more-test.true in
    let n = signed_next _ m.0 in
    let b : c.begins_entry.result ≡ true = grind arith in
    let g = c.in_ok-next.ensures in record {
      shorter = omega (arith, c.more.invariant.shorter, found_shorter g, c.take.ensures.not_longer);
      fits = rw c.in_ok-entries-2.ensures (entries_grow c.args.room (map entry_of c.more.entries.items) (entry_of c.in_ok-next.next.tree) c.more.invariant.fits (omega (arith, c.if-len-ge-MAX_ITEMS.false, c.len.ensures, count_of_entries entry_of c.more.entries.items)) g.fits);
      carries = rw c.in_ok-entries-2.ensures (goes_on (then_on (shift_on c.more.invariant.carries (entries_comma_shifts c.args.room (map entry_of c.more.entries.items) n.0) n.1 m.1) (entries_another c.args.room (map entry_of c.more.entries.items) _ (sym c.begins_entry.ensures ∙ b)))
          (entries_next c.args.room (map entry_of c.more.entries.items) c.more.invariant.fits (omega (arith, c.if-len-ge-MAX_ITEMS.false, c.len.ensures, count_of_entries entry_of c.more.entries.items))) g);
    }

pub more_entries-returns-then-not-is : goal.more_entries-returns-then-not-is
more_entries-returns-then-not-is t c =
    let m = c.take.ensures.none c.more-test.false in
    rw m.1 (c.more.invariant.carries.refused false _ (entries_bad c.args.room (map entry_of c.more.entries.items) _ m.0 (λ e. is_not c.is-2.ensures.value (grind arith) (ap (λ u. sign_at (next_of u)) m.1 ∙ e)) c.more.invariant.fits))

pub more_entries-returns : goal.more_entries-returns
more_entries-returns t c =
    let m = c.take.ensures.none c.more-test.false in
    rw m.1 (c.more.invariant.carries.found _ _ (entries_found c.args.room (map entry_of c.more.entries.items) _ m.0 (sym (ap (λ u. sign_at (next_of u)) m.1) ∙ is_so c.is-2.ensures.value (grind arith)) c.more.invariant.fits))

-- behind the first entry
pub more_of_dictionary-returns-in_err-entries : goal.more_of_dictionary-returns-in_err-entries
more_of_dictionary-returns-in_err-entries t c =
    let g = entry_of c.args.first.tree in
    fails_at _ _ _ _ _ _ c.from_residual.ensures.1 (narrow_carries (entered_narrows c.args.room c.args.line.0 g c.requires.some c.requires.fits _ c.requires.none)) (entered_binds c.args.room c.args.line.0 g c.requires.some c.requires.fits) c.in_err-entries.ensures

-- all entries
in_entries : {d l : ℕ} {g : Entry} {gs : List Entry} {ts mid : List Lexeme} → 1 < d → FitsEntry (d - 1) g → sign_at (next_of ts) ≢ Some (word For) → Found (a_dict_left g d) ts gs mid
    → Carries (left (an_atom d) (Entered l g)) ts (left (an_atom d) (Through (IsSign (mark CloseBrace)) (Just (dict_of l gs)))) mid
in_entries {d} {l} {g} {gs} {ts} some f n h = goes_on (narrow_carries (entered_narrows d l g some f ts n)) (entered_binds d l g some f) h

pub more_of_dictionary-returns-then-not-take : goal.more_of_dictionary-returns-then-not-take
more_of_dictionary-returns-then-not-take t c =
    let m = c.take.ensures.none (grind arith) in
    rw m.1 (unclosed (in_entries c.requires.some c.requires.fits c.requires.none c.in_ok-entries.ensures) m.0 (dict_fits c.args.room c.args.line.0 (map entry_of c.in_ok-entries.entries.items) (omega (arith, c.requires.some)) c.in_ok-entries.ensures.fits))

pub more_of_dictionary-returns : goal.more_of_dictionary-returns
more_of_dictionary-returns t c =
    let m = c.take.ensures.found (grind arith) in
    rw c.in_ok-dict.ensures (closed_found (in_entries c.requires.some c.requires.fits c.requires.none c.in_ok-entries.ensures) m.0 m.1 refl (dict_fits c.args.room c.args.line.0 (map entry_of c.in_ok-entries.entries.items) (omega (arith, c.requires.some)) c.in_ok-entries.ensures.fits))

pub entry_clauses-returns-in_err-clauses : goal.entry_clauses-returns-in_err-clauses
entry_clauses-returns-in_err-clauses t c =
    let n = signed_next _ c.requires.first in
    let g = entry_of c.args.entry.tree in
    fails_at _ _ _ _ _ _ c.from_residual.ensures.1 (entered_for_carries c.args.room c.args.line.0 g c.requires.some c.requires.fits n.0 _ n.1) (entered_for_binds c.args.room c.args.line.0 g c.requires.some c.requires.fits) c.in_err-clauses.ensures

-- all clauses
in_entry_clauses : {d l k : ℕ} {g : Entry} {cs : List OneClause} {ts mid : List Lexeme} → 1 < d → FitsEntry (d - 1) g → next_of ts ≡ Some (sign k (word For)) → Found (some_clauses (d - 1)) ts cs mid
    → Carries (left (an_atom d) (Entered l g)) ts (left (an_atom d) (Through (IsSign (mark CloseBrace)) (Just (dict_for l g cs)))) mid
in_entry_clauses {d} {l} {k} {g} {cs} {ts} some f n h = goes_on (entered_for_carries d l g some f k ts n) (entered_for_binds d l g some f) h

pub entry_clauses-returns : goal.entry_clauses-returns
entry_clauses-returns t c =
    let n = signed_next _ c.requires.first in
    carried_all (λ e. exp_of e.tree) _ _ (in_entry_clauses c.requires.some c.requires.fits n.1 c.in_ok-clauses.ensures)
    (c.closed_entry.ensures c.args.room (dict_for_fits c.args.room c.args.line.0 (entry_of c.args.entry.tree) (clauses_in c.in_ok-clauses.clauses.items) (omega (arith, c.requires.some)) c.requires.fits c.in_ok-clauses.ensures.fits))

pub entry_clauses-closed_entry-requires-clause-some : goal.entry_clauses-closed_entry-requires-clause-some
entry_clauses-closed_entry-requires-clause-some t c =
    let n = signed_next _ c.requires.first in
    λ e. clauses_not_none n.1 c.in_ok-clauses.ensures (ap clauses_in e)

-- behind the first item of a set
pub members-returns-in_err-listed : goal.members-returns-in_err-listed
members-returns-in_err-listed t c =
    let e = exp_of c.args.first.tree in
    let h : map exp_of c.in_ok-items.items.items ≡ e ∷ [] = c.in_ok-items.ensures ∙ ap (λ (u : List WideExpr). map exp_of u ++ (e ∷ [])) c.new.ensures in
    fails_at _ _ _ _ _ _ c.from_residual-in_err-listed.ensures.1 (narrow_carries (members_narrows c.args.room c.args.line.0 e _)) (members_binds c.args.room c.args.line.0 e (omega (arith, c.requires.some))) (rw h at c.in_err-listed.ensures)

-- all items of a set
in_members : {d l : ℕ} {e : Exp} {x : Listed} {ts mid : List Lexeme} → 1 < d → Found (a_set_left e d) ts x mid
    → Carries (left (an_atom d) (Members l e)) ts (left (an_atom d) (Through (IsSign (mark CloseBrace)) (Just (set_of l x)))) mid
in_members {d} {l} {e} {x} {ts} some f = goes_on (narrow_carries (members_narrows d l e ts)) (members_binds d l e (omega (arith, some))) f

pub members-returns-then-not-take : goal.members-returns-then-not-take
members-returns-then-not-take t c =
    let e = exp_of c.args.first.tree in
    let h : map exp_of c.in_ok-items.items.items ≡ e ∷ [] = c.in_ok-items.ensures ∙ ap (λ (u : List WideExpr). map exp_of u ++ (e ∷ [])) c.new.ensures in
    let m = c.take.ensures.none (grind arith) in
    let f : Found (a_set_left e c.args.room) c.args.self.now.lexemes (listed_read c.in_ok-listed.listed) c.more_items.new.self.lexemes = rw h at c.in_ok-listed.ensures in
    rw m.1 (unclosed (in_members c.requires.some f) m.0 (set_fits c.args.room c.args.line.0 (listed_read c.in_ok-listed.listed) (omega (arith, c.requires.some)) f.fits))

pub members-returns : goal.members-returns
members-returns t c =
    let e = exp_of c.args.first.tree in
    let h : map exp_of c.in_ok-items.items.items ≡ e ∷ [] = c.in_ok-items.ensures ∙ ap (λ (u : List WideExpr). map exp_of u ++ (e ∷ [])) c.new.ensures in
    let m = c.take.ensures.found (grind arith) in
    let f : Found (a_set_left e c.args.room) c.args.self.now.lexemes (listed_read c.in_ok-listed.listed) c.more_items.new.self.lexemes = rw h at c.in_ok-listed.ensures in
    rw c.in_ok-set.ensures (closed_found (in_members c.requires.some f) m.0 m.1 refl (set_fits c.args.room c.args.line.0 (listed_read c.in_ok-listed.listed) (omega (arith, c.requires.some)) f.fits))

-- behind an expression
pub item_clauses-returns-in_err-clauses : goal.item_clauses-returns-in_err-clauses
item_clauses-returns-in_err-clauses t c =
    let n = signed_next _ c.requires.first in
    let e = exp_of c.args.item.tree in
    fails_at _ _ _ _ _ _ c.from_residual.ensures.1 (opened_for_carries c.args.room c.args.line.0 e c.requires.some c.requires.fits n.0 _ n.1) (opened_for_binds c.args.room c.args.line.0 e c.requires.some c.requires.fits) c.in_err-clauses.ensures

-- all clauses
in_set_clauses : {d l k : ℕ} {e : Exp} {cs : List OneClause} {ts mid : List Lexeme} → 1 < d → Fits (d - 1) e → next_of ts ≡ Some (sign k (word For)) → Found (some_clauses (d - 1)) ts cs mid
    → Carries (left (an_atom d) (Opened l e)) ts (left (an_atom d) (Through (IsSign (mark CloseBrace)) (Just (set_for l e cs)))) mid
in_set_clauses {d} {l} {k} {e} {cs} {ts} some f n g = goes_on (opened_for_carries d l e some f k ts n) (opened_for_binds d l e some f) g

pub item_clauses-returns-then-not-take : goal.item_clauses-returns-then-not-take
item_clauses-returns-then-not-take t c =
    let n = signed_next _ c.requires.first in
    let m = c.take.ensures.none (grind arith) in
    rw m.1 (unclosed (in_set_clauses c.requires.some c.requires.fits n.1 c.in_ok-clauses.ensures) m.0 (set_for_fits c.args.room c.args.line.0 (exp_of c.args.item.tree) (clauses_in c.in_ok-clauses.clauses.items) (omega (arith, c.requires.some)) c.requires.fits c.in_ok-clauses.ensures.fits))

pub item_clauses-returns : goal.item_clauses-returns
item_clauses-returns t c =
    let n = signed_next _ c.requires.first in
    let m = c.take.ensures.found (grind arith) in
    rw c.in_ok-comprehension.ensures (closed_found (in_set_clauses c.requires.some c.requires.fits n.1 c.in_ok-clauses.ensures) m.0 m.1 refl (set_for_fits c.args.room c.args.line.0 (exp_of c.args.item.tree) (clauses_in c.in_ok-clauses.clauses.items) (omega (arith, c.requires.some)) c.requires.fits c.in_ok-clauses.ensures.fits))

pub item_clauses-comprehension-requires-clause-some : goal.item_clauses-comprehension-requires-clause-some
item_clauses-comprehension-requires-clause-some t c =
    let n = signed_next _ c.requires.first in
    λ e. clauses_not_none n.1 c.in_ok-clauses.ensures (ap clauses_in e)

pub opened-returns-in_err-entry : goal.opened-returns-in_err-entry
opened-returns-in_err-entry t c =
    let m = c.take.ensures.found (grind arith) in
    let n = signed_next _ m.0 in
    let e = exp_of c.args.first.tree in
    fails_at _ _ _ _ _ _ c.from_residual.ensures.1 (shift_on carries_all (colon_shifts_of_brace_lemmas c.args.room c.args.line.0 e c.requires.some c.requires.fits n.0) n.1 m.1) (valued_binds c.args.room c.args.line.0 e c.requires.some c.requires.fits) c.in_err-entry.ensures

pub opened-returns : goal.opened-returns
opened-returns t c =
    let m = c.take.ensures.found (grind arith) in
    let n = signed_next _ m.0 in
    let e = exp_of c.args.first.tree in
    carried_all (λ e. exp_of e.tree) _ _ (goes_on (shift_on carries_all (colon_shifts_of_brace_lemmas c.args.room c.args.line.0 e c.requires.some c.requires.fits n.0) n.1 m.1) (valued_binds c.args.room c.args.line.0 e c.requires.some c.requires.fits) c.in_ok-entry.ensures) c.dictionary.ensures

-- no colon is next, which leaves the reader there
stays_opened : {d l : ℕ} {e : Exp} {K : List Lexeme → Exp → List Lexeme → Type 0} {ts us : List Lexeme} → us ≡ ts → Carries (left (an_atom d) (Opened l e)) ts (left (an_atom d) K) ts → Carries (left (an_atom d) (Opened l e)) ts (left (an_atom d) K) us
stays_opened {d} {l} {e} {K} {ts} {us} h k = subst (λ v. Carries (left (an_atom d) (Opened l e)) ts (left (an_atom d) K) v) (sym h) k

pub opened-returns-then-not-take : goal.opened-returns-then-not-take
opened-returns-then-not-take t c =
    let m = c.take.ensures.none (grind arith) in
    let n : sign_at (next_of c.args.self.now.lexemes) ≢ Some (word For) = is_not c.is.ensures.value (grind arith) in
    carried_all (λ e. exp_of e.tree) _ _ (stays_opened m.1 (narrow_carries (opened_narrows c.args.room c.args.line.0 (exp_of c.args.first.tree) c.requires.some c.requires.fits _ m.0 n))) c.members.ensures

-- what stands between the braces
pub content-returns-in_err-first : goal.content-returns-in_err-first
content-returns-in_err-first t c = fails_at _ _ _ _ _ _ c.from_residual.ensures.1 (narrow_carries (content_spread c.args.room c.args.line.0 _ (is_so c.is.ensures.value (grind arith)))) (spread_binds c.args.room c.args.line.0 c.requires.some) c.in_err-first.ensures

pub content-returns-then-is : goal.content-returns-then-is
content-returns-then-is t c = carried_all (λ e. exp_of e.tree) _ _ (goes_on (narrow_carries (content_spread c.args.room c.args.line.0 _ (is_so c.is.ensures.value (grind arith)))) (spread_binds c.args.room c.args.line.0 c.requires.some) c.in_ok-first.ensures) c.dictionary.ensures

pub content-returns-in_err-first-2 : goal.content-returns-in_err-first-2
content-returns-in_err-first-2 t c = fails_at _ _ _ _ _ _ c.from_residual-in_err-first-2.ensures.1 (narrow_carries (content_star c.args.room c.args.line.0 _ (is_so c.is-2.ensures.value (grind arith)))) (star_binds_of_brace_lemmas c.args.room c.args.line.0 c.requires.some) c.in_err-first-2.ensures

pub content-returns-then-is-2 : goal.content-returns-then-is-2
content-returns-then-is-2 t c = carried_all (λ e. exp_of e.tree) _ _ (goes_on (narrow_carries (content_star c.args.room c.args.line.0 _ (is_so c.is-2.ensures.value (grind arith)))) (star_binds_of_brace_lemmas c.args.room c.args.line.0 c.requires.some) c.in_ok-first-2.ensures) c.members.ensures

pub content-returns-in_err-first-3 : goal.content-returns-in_err-first-3
content-returns-in_err-first-3 t c = fails_at _ _ _ _ _ _ c.from_residual-in_err-first-3.ensures.1 (narrow_carries (content_expr c.args.room c.args.line.0 _ (is_not c.is.ensures.value (grind arith)) (is_not c.is-2.ensures.value (grind arith)))) (expr_opens c.args.room c.args.line.0 c.requires.some) c.in_err-first-3.ensures

pub content-returns : goal.content-returns
content-returns t c = carried_all (λ e. exp_of e.tree) _ _ (goes_on (narrow_carries (content_expr c.args.room c.args.line.0 _ (is_not c.is.ensures.value (grind arith)) (is_not c.is-2.ensures.value (grind arith)))) (expr_opens c.args.room c.args.line.0 c.requires.some) c.in_ok-first-3.ensures) c.opened.ensures

pub braces-returns-then-take : goal.braces-returns-then-take
braces-returns-then-take t c =
    let n = signed_next _ c.requires.open in
    let m = c.take.ensures.found (grind arith) in
    let k = signed_next _ m.0 in
    rw (c.in_ok-dict.ensures, c.new-none.ensures, c.line-line.ensures, ap line_at n.1, m.1)
    ((shift_on carries_all (brace_shifts c.args.room n.0) n.1 c.skip.ensures.value).found _ _ (empty_dict c.args.room n.0 k.0 c.requires.some _ k.1))

pub braces-returns-then-not-begins_content : goal.braces-returns-then-not-begins_content
braces-returns-then-not-begins_content t c =
    let n = signed_next _ c.requires.open in
    let m = c.take.ensures.none (grind arith) in
    let b : c.begins_content.result ≡ false = grind arith in
    rw m.1 ((shift_on carries_all (brace_shifts c.args.room n.0) n.1 c.skip.ensures.value).refused false _
    (braces_bad c.args.room n.0 _ c.requires.some m.0 (ap (λ u. begins_content (next_of u)) (sym m.1) ∙ sym c.begins_content.ensures ∙ b)))

pub braces-returns-then-room-eq1 : goal.braces-returns-then-room-eq1
braces-returns-then-room-eq1 t c =
    let n = signed_next _ c.requires.open in
    let m = c.take.ensures.none (grind arith) in
    let b : c.begins_content.result ≡ true = grind arith in
    rw (m.1, c.if-room-eq1.true) ((shift_on carries_all (brace_shifts 1 n.0) n.1 c.skip.ensures.value).refused true _ (braces_over n.0 _ m.0 (ap (λ u. begins_content (next_of u)) (sym m.1) ∙ sym c.begins_content.ensures ∙ b)))

-- behind an opening brace that isn't closed at once
in_braces : {d l : ℕ} {ts skipped mid : List Lexeme} → next_of ts ≡ Some (sign l (mark OpenBrace)) → skipped ≡ behind ts → sign_at (next_of skipped) ≢ Some (mark CloseBrace) → mid ≡ skipped
    → Carries (an_atom d) ts (left (an_atom d) (Content l)) mid
in_braces {d} {l} {ts} {skipped} h k n e =
    subst (λ u. Carries (an_atom d) ts (left (an_atom d) (Content l)) u) (sym e) (then_on (shift_on carries_all (brace_shifts d l) h k) (narrow_carries (content_narrows d l skipped n)))

pub braces-returns : goal.braces-returns
braces-returns t c =
    let n = signed_next _ c.requires.open in
    let m = c.take.ensures.none (grind arith) in
    carried_all (λ e. exp_of e.tree) _ _ (in_braces n.1 c.skip.ensures.value m.0 m.1) (rw (c.line-line.ensures, ap line_at n.1) at c.content.ensures)

-- lambdas
-- behind "lambda"
in_lambda : {d l : ℕ} {ts mid : List Lexeme} → next_of ts ≡ Some (sign l (word Lambda)) → mid ≡ behind ts → Carries (an_expr d) ts (left (an_expr d) (Nameless l)) mid
in_lambda {d} {l} h k = shift_on carries_all (lambda_shifts d l) h k

-- behind its parameters and the colon
in_body : {d l : ℕ} {g : Gathered} {ts mid us rest : List Lexeme} → 1 < d → next_of ts ≡ Some (sign l (word Lambda)) → mid ≡ behind ts → Found (some_parameters false (d - 1)) mid g us → rest ≡ behind us
    → Carries (an_expr d) ts (left (an_expr d) (Made (an_expr (d - 1)) (lambda_of l g))) rest
in_body {d} {l} {g} {us = us} r h k f j =
    let m = signed_next _ (colon_next (next_of us) f.stops) in
    shift_on (goes_on (in_lambda h k) (lambda_binds d l r) f) (through_shifts (an_expr d) (IsSign (mark Colon)) (Made (an_expr (d - 1)) (lambda_of l g)) (sign m.0 (mark Colon)) is_sign) m.1 j

pub lambda-returns-then-room-eq1 : goal.lambda-returns-then-room-eq1
lambda-returns-then-room-eq1 t c = let n = signed_next _ c.requires.first in rw c.if-room-eq1.true (lambda_over _ n.0 n.1)

pub lambda-returns-in_err-parameters : goal.lambda-returns-in_err-parameters
lambda-returns-in_err-parameters t c = let n = signed_next _ c.requires.first in
    fails_at _ _ _ _ _ _ c.from_residual.ensures.1 (in_lambda n.1 c.skip.ensures.value) (lambda_binds c.args.room n.0 (omega (arith, c.requires.some, c.if-room-eq1.false))) c.in_err-parameters.ensures

pub lambda-returns-in_err-body : goal.lambda-returns-in_err-body
lambda-returns-in_err-body t c = let n = signed_next _ c.requires.first in
    let f = c.in_ok-parameters.ensures in
    let r : 1 < c.args.room = omega (arith, c.requires.some, c.if-room-eq1.false) in
    fails_at _ _ _ _ _ _ c.from_residual-in_err-body.ensures.1 (in_body r n.1 c.skip.ensures.value f c.skip-2.ensures.value) (body_binds c.args.room n.0 (gathered_read c.in_ok-parameters.parameters) r f.fits) c.in_err-body.ensures

pub lambda-returns : goal.lambda-returns
lambda-returns t c = let n = signed_next _ c.requires.first in
    let f = c.in_ok-parameters.ensures in
    let g = c.in_ok-body.ensures in
    let r : 1 < c.args.room = omega (arith, c.requires.some, c.if-room-eq1.false) in
    rw (c.in_ok-lambda.ensures, c.line-line.ensures, ap line_at n.1)
    (made_found (an_expr c.args.room) (in_body r n.1 c.skip.ensures.value f c.skip-2.ensures.value) (body_binds c.args.room n.0 (gathered_read c.in_ok-parameters.parameters) r f.fits) g g.stops
    (omega (arith, f.fits.0, g.fits.0), omega (arith, f.fits.1, g.fits.1)))

pub lambda-lambda-requires-clause-parameters : goal.lambda-lambda-requires-clause-parameters
lambda-lambda-requires-clause-parameters t c =
    omega (arith, c.in_ok-parameters.ensures.fits.0, c.in_ok-parameters.parameters.exact, ap depth_params (parameters_same c.in_ok-parameters.parameters), c.requires.few)

-- parameters
pub annotation-returns-then-not-annotated : goal.annotation-returns-then-not-annotated
annotation-returns-then-not-annotated t c = none_found_of_formal_parameters c.args.annotated c.args.room _ (grind arith)

pub annotation-returns-then-not-take : goal.annotation-returns-then-not-take
annotation-returns-then-not-take t c =
    let e : c.args.annotated ≡ true = grind arith in
    let m = c.take.ensures.none (grind arith) in
    rw m.1 (absent_found c.args.annotated c.args.room _ e m.0)

pub annotation-returns-in_err-value : goal.annotation-returns-in_err-value
annotation-returns-in_err-value t c =
    let e : c.args.annotated ≡ true = grind arith in
    let m = c.take.ensures.found (grind arith) in
    let n = signed_next _ m.0 in
    fails_at (an_annotation c.args.annotated c.args.room) given_read _ _ _ _ c.from_residual.ensures.1 (shift_on carries_all (colon_shifts_of_formal_parameters c.args.annotated c.args.room n.0 e) n.1 m.1) (value_binds_of_formal_parameters c.args.annotated c.args.room) c.in_err-value.ensures

pub annotation-returns : goal.annotation-returns
annotation-returns t c =
    let e : c.args.annotated ≡ true = grind arith in
    let m = c.take.ensures.found (grind arith) in
    let n = signed_next _ m.0 in
    let g = c.in_ok-value.ensures in
    made_found (an_annotation c.args.annotated c.args.room) (shift_on carries_all (colon_shifts_of_formal_parameters c.args.annotated c.args.room n.0 e) n.1 m.1) (value_binds_of_formal_parameters c.args.annotated c.args.room) g g.stops g.fits

-- behind a parameter's name
in_name : {b : Bool} {d l : ℕ} {x : List ℕ} {g : Gathered} {ts mid : List Lexeme} → next_of ts ≡ Some (name l x) → mid ≡ behind ts
    → Carries (next_parameters b d g) ts (left (some_parameters b d) (Named b g l x)) mid
in_name {b} {d} {l} {x} {g} h k = shift_on carries_all (formal_shifts b d g l x) h k

pub formal-returns-then-not-takes_more : goal.formal-returns-then-not-takes_more
formal-returns-then-not-takes_more t c =
    let e : c.takes_more.result ≡ false = grind arith in record {
      value = formal_bad c.args.annotated c.args.room (gathered_read c.args.parameters) c.args.parameter.line.0 c.args.parameter.name _ c.requires.name (sym c.takes_more.ensures ∙ e) c.requires.held.fits;
      held = tt;
      shorter = tt;
    }

pub formal-returns-then-count-ge-MAX_ITEMS : goal.formal-returns-then-count-ge-MAX_ITEMS
formal-returns-then-count-ge-MAX_ITEMS t c =
    let e : c.takes_more.result ≡ true = grind arith in record {
      value = formal_over c.args.annotated c.args.room (gathered_read c.args.parameters) c.args.parameter.line.0 c.args.parameter.name _ c.requires.name (sym c.takes_more.ensures ∙ e) c.requires.held (omega (arith, c.count.ensures, c.if-count-ge-MAX_ITEMS.true));
      held = tt;
      shorter = tt;
    }

pub formal-returns-in_err-annotation : goal.formal-returns-in_err-annotation
formal-returns-in_err-annotation t c =
    let e : c.takes_more.result ≡ true = grind arith in record {
      value = step_fails _ _ _ _ _ _ c.from_residual.ensures.1 (in_name c.requires.name c.skip.ensures.value)
          (annotation_binds c.args.annotated c.args.room (gathered_read c.args.parameters) c.args.parameter.line.0 c.args.parameter.name c.requires.some c.requires.held (sym c.takes_more.ensures ∙ e) (omega (arith, c.count.ensures, c.if-count-ge-MAX_ITEMS.false))) c.in_err-annotation.ensures;
      held = none_ok _ _ _ c.from_residual.ensures.1;
      shorter = none_ok _ _ _ c.from_residual.ensures.1;
    }

-- behind its annotation
in_annotation : {b : Bool} {d l : ℕ} {x : List ℕ} {g : Gathered} {a : Opt} {ts mid rest : List Lexeme} → next_of ts ≡ Some (name l x) → mid ≡ behind ts → 0 < d → Held d g → allows_double_star g.stage ≡ true → number g < 4096
    → Found (an_annotation b d) mid a rest → Carries (next_parameters b d g) ts (left (some_parameters b d) (Annotated b g l x a)) rest
in_annotation {b} {d} {l} {x} {g} h k room held q n f = goes_on (in_name h k) (annotation_binds b d g l x room held q n) f

-- behind its "="
in_default_of : {b : Bool} {d l : ℕ} {x : List ℕ} {g : Gathered} {a : Opt} {ts mid us rest : List Lexeme} → next_of ts ≡ Some (name l x) → mid ≡ behind ts → 0 < d → Held d g → allows_double_star g.stage ≡ true → number g < 4096
    → Found (an_annotation b d) mid a us → sign_at (next_of us) ≡ Some (mark Assign) → rest ≡ behind us → Carries (next_parameters b d g) ts (left (some_parameters b d) (Defaulted b g l x a)) rest
in_default_of {b} {d} {l} {x} {g} {a} h k room held q n f e j = let m = signed_next _ e in shift_on (in_annotation h k room held q n f) (assign_shifts_of_formal_parameters b d g l x a m.0 q) m.1 j

pub formal-returns-in_err-default : goal.formal-returns-in_err-default
formal-returns-in_err-default t c =
    let e : c.takes_more.result ≡ true = grind arith in
    let q = sym c.takes_more.ensures ∙ e in
    let few : number (gathered_read c.args.parameters) < 4096 = omega (arith, c.count.ensures, c.if-count-ge-MAX_ITEMS.false) in
    let m = c.take.ensures.found (grind arith) in
    let f = c.in_ok-annotation.ensures in record {
      value = step_fails _ _ _ _ _ _ c.from_residual-in_err-default.ensures.1 (in_default_of c.requires.name c.skip.ensures.value c.requires.some c.requires.held q few f m.0 m.1)
          (default_binds c.args.annotated c.args.room (gathered_read c.args.parameters) c.args.parameter.line.0 c.args.parameter.name (given_read c.in_ok-annotation.annotation) c.requires.held q few f.fits) c.in_err-default.ensures;
      held = none_ok _ _ _ c.from_residual-in_err-default.ensures.1;
      shorter = none_ok _ _ _ c.from_residual-in_err-default.ensures.1;
    }

pub formal-returns-then-take : goal.formal-returns-then-take
formal-returns-then-take t c =
    let e : c.takes_more.result ≡ true = grind arith in
    let q = sym c.takes_more.ensures ∙ e in
    let few : number (gathered_read c.args.parameters) < 4096 = omega (arith, c.count.ensures, c.if-count-ge-MAX_ITEMS.false) in
    let m = c.take.ensures.found (grind arith) in
    let f = c.in_ok-annotation.ensures in
    let g = c.in_ok-default.ensures in record {
      value = rw c.in_ok-with_formal.ensures (goes_on (in_default_of c.requires.name c.skip.ensures.value c.requires.some c.requires.held q few f m.0 m.1)
          (default_binds c.args.annotated c.args.room (gathered_read c.args.parameters) c.args.parameter.line.0 c.args.parameter.name (given_read c.in_ok-annotation.annotation) c.requires.held q few f.fits) g);
      held = rw c.in_ok-with_formal.ensures (formal_held c.args.room (gathered_read c.args.parameters) c.args.parameter.line.0 c.args.parameter.name (given_read c.in_ok-annotation.annotation) (S.given (exp_of c.in_ok-default.default.tree)) c.requires.held
          (allowed_default (gathered_read c.args.parameters).stage _ q refl) few f.fits g.fits);
      shorter = omega (arith, found_shorter f, found_shorter g, ap length c.skip.ensures.value, some_more _ c.requires.name, c.take.ensures.not_longer);
    }

pub formal-returns-then-needs_default : goal.formal-returns-then-needs_default
formal-returns-then-needs_default t c =
    let e : c.takes_more.result ≡ true = grind arith in
    let q = sym c.takes_more.ensures ∙ e in
    let few : number (gathered_read c.args.parameters) < 4096 = omega (arith, c.count.ensures, c.if-count-ge-MAX_ITEMS.false) in
    let m = c.take.ensures.none (grind arith) in
    let f = c.in_ok-annotation.ensures in record {
      value = rw m.1 ((in_annotation c.requires.name c.skip.ensures.value c.requires.some c.requires.held q few f).refused false _
          (default_bad c.args.annotated c.args.room (gathered_read c.args.parameters) c.args.parameter.line.0 c.args.parameter.name (given_read c.in_ok-annotation.annotation) _ m.0 (is_so c.needs_default.ensures (grind arith)) c.requires.some c.requires.held few f.fits));
      held = tt;
      shorter = tt;
    }

pub formal-returns : goal.formal-returns
formal-returns t c =
    let e : c.takes_more.result ≡ true = grind arith in
    let q = sym c.takes_more.ensures ∙ e in
    let few : number (gathered_read c.args.parameters) < 4096 = omega (arith, c.count.ensures, c.if-count-ge-MAX_ITEMS.false) in
    let m = c.take.ensures.none (grind arith) in
    let f = c.in_ok-annotation.ensures in
    let a = allowed_plain (gathered_read c.args.parameters).stage _ q (is_not c.needs_default.ensures (grind arith)) in record {
      value = rw (c.in_ok-with_formal-2.ensures, m.1) (then_on (in_annotation c.requires.name c.skip.ensures.value c.requires.some c.requires.held q few f)
          (undefaulted_carries c.args.annotated c.args.room (gathered_read c.args.parameters) c.args.parameter.line.0 c.args.parameter.name (given_read c.in_ok-annotation.annotation) _ m.0 a));
      held = rw c.in_ok-with_formal-2.ensures (formal_held c.args.room (gathered_read c.args.parameters) c.args.parameter.line.0 c.args.parameter.name (given_read c.in_ok-annotation.annotation) S.absent c.requires.held a few f.fits (omega arith, omega arith));
      shorter = omega (arith, found_shorter f, ap length c.skip.ensures.value, some_more _ c.requires.name, c.take.ensures.not_longer);
    }

pub parameter-returns-then-is : goal.parameter-returns-then-is
parameter-returns-then-is t c = record {
  value = c.slash.ensures.value c.args.annotated c.args.room c.requires.held;
  held = held_at gathered_read (gathered_read c.args.parameters) _ c.args.room c.requires.held c.slash.ensures.held;
  shorter = c.slash.ensures.shorter;
}

pub parameter-returns-then-is-2 : goal.parameter-returns-then-is-2
parameter-returns-then-is-2 t c = record {
  value = c.star.ensures.value c.args.annotated c.args.room c.requires.held;
  held = held_at gathered_read (gathered_read c.args.parameters) _ c.args.room c.requires.held c.star.ensures.held;
  shorter = c.star.ensures.shorter;
}

pub parameter-returns-then-is-3 : goal.parameter-returns-then-is-3
parameter-returns-then-is-3 t c = record {
  value = c.double_star.ensures.value c.args.annotated c.args.room c.requires.held;
  held = held_at gathered_read (gathered_read c.args.parameters) _ c.args.room c.requires.held c.double_star.ensures.held;
  shorter = c.double_star.ensures.shorter;
}

pub parameter-returns-in_default : goal.parameter-returns-in_default
parameter-returns-in_default t c = record {
  value = next_bad c.args.annotated c.args.room (gathered_read c.args.parameters) _ c.requires.more
      (λ p h q. nothing_begins _ (subst (λ o. NameNext (next_of c.args.self.now.lexemes) o) c.in_default.is c.in_ok-parameter.ensures) (is_not c.is.ensures.value (grind arith)) (is_not c.is-2.ensures.value (grind arith)) (is_not c.is-3.ensures.value (grind arith)) p h) c.requires.held.fits;
  held = tt;
  shorter = tt;
}

pub parameters-more-init : goal.parameters-more-init
parameters-more-init t c = record {
  shorter = omega arith;
  held = rw c.new-parameters.ensures (none_held c.args.room);
  carries = rw c.new-parameters.ensures (parameters_start c.args.annotated c.args.room _);
}

pub parameters-returns-in_err-parameters : goal.parameters-returns-in_err-parameters
parameters-returns-in_err-parameters t c =
    passed (some_parameters c.args.annotated c.args.room) gathered_read _ _ _ _ c.from_residual.ensures.1 (carried _ _ c.more.invariant.carries c.in_err-parameters.ensures.value)

pub parameters-returns-then-ends_parameters : goal.parameters-returns-then-ends_parameters
parameters-returns-then-ends_parameters t c =
    let e : c.ends_parameters-in-more.result ≡ true = grind arith in
    (then_on c.more.invariant.carries c.in_ok-parameters.ensures.value).found _ _ (more_found c.args.annotated c.args.room (gathered_read c.in_ok-parameters.parameters) _ (sym c.ends_parameters-in-more.ensures ∙ e) c.in_ok-parameters.ensures.held.fits)

pub parameters-returns-then-not-take : goal.parameters-returns-then-not-take
parameters-returns-then-not-take t c =
    let e : c.ends_parameters-in-more.result ≡ false = grind arith in
    let m = c.take.ensures.none (grind arith) in
    rw m.1 ((then_on c.more.invariant.carries c.in_ok-parameters.ensures.value).refused false _ (more_bad c.args.annotated c.args.room (gathered_read c.in_ok-parameters.parameters) _ (sym c.ends_parameters-in-more.ensures ∙ e) m.0 c.in_ok-parameters.ensures.held.fits))

pub parameters-more-preserved : goal.parameters-more-preserved
parameters-more-preserved t c =
    let m = c.take.ensures.found (grind arith) in
    let n = signed_next _ m.0 in record {
      shorter = omega (arith, c.more.invariant.shorter, c.in_ok-parameters.ensures.shorter, c.take.ensures.not_longer);
      held = c.in_ok-parameters.ensures.held;
      carries = shift_on (then_on c.more.invariant.carries c.in_ok-parameters.ensures.value) (comma_shifts_of_parameter_lists c.args.annotated c.args.room (gathered_read c.in_ok-parameters.parameters) n.0) n.1 m.1;
    }

pub parameters-returns : goal.parameters-returns
parameters-returns t c = c.more.invariant.carries.found _ _ (next_found c.args.annotated c.args.room (gathered_read c.more.parameters) _ (sym c.ends_parameters.ensures ∙ c.more-test.false) c.more.invariant.held.fits)

-- indices
at_same : {d : ℕ} {ts mid : List Lexeme} {K : List Lexeme → Exp → List Lexeme → Type 0} → mid ≡ ts → Carries (an_index d) mid (left (an_index d) K) mid → Carries (an_index d) ts (left (an_index d) K) mid
at_same {d} {ts} {mid} {K} e c = subst (λ u. Carries (an_index d) u (left (an_index d) K) mid) e c

pub index-returns-in_err-items : goal.index-returns-in_err-items
index-returns-in_err-items t c = let m = c.take.ensures.none (grind arith) in
    fails_at _ _ _ _ _ _ c.from_residual.ensures.1 (at_same m.1 (narrow_carries (star_index c.args.room _ (is_so c.is.ensures.value (grind arith))))) (bare_index c.args.room) c.in_err-items.ensures

pub index-returns-then-not-is : goal.index-returns-then-not-is
index-returns-then-not-is t c = let m = c.take.ensures.none (grind arith) in
    let g = c.in_ok-items.ensures in
    (goes_on (at_same m.1 (narrow_carries (star_index c.args.room _ (is_so c.is.ensures.value (grind arith))))) (bare_index c.args.room) g).refused false _
    (just_bad_of_sequels (an_index c.args.room) _ _ g.fits (λ more a s. not_close _ (λ e. is_not c.is-then-is.ensures.value (grind arith) e) a s))

pub index-returns-then-is : goal.index-returns-then-is
index-returns-then-is t c = let m = c.take.ensures.none (grind arith) in
    let g = c.in_ok-items.ensures in
    (goes_on (at_same m.1 (narrow_carries (star_index c.args.room _ (is_so c.is.ensures.value (grind arith))))) (bare_index c.args.room) g).found _ _
    (just_found (an_index c.args.room) _ _ (is_so c.is-then-is.ensures.value (grind arith)) g.fits)

still_not : {s : Sign} {ts mid : List Lexeme} → sign_at (next_of ts) ≢ Some s → mid ≡ ts → sign_at (next_of mid) ≢ Some s
still_not {s} n e = subst (λ u. sign_at (next_of u) ≢ Some s) (sym e) n

pub index-returns-in_err-first : goal.index-returns-in_err-first
index-returns-in_err-first t c = let m = c.take.ensures.none (grind arith) in
    fails_at _ _ _ _ _ _ c.from_residual-in_err-first.ensures.1 (at_same m.1 (narrow_carries (indexing_narrows c.args.room _ (λ e. is_not c.is.ensures.value (grind arith) e) (still_not m.0 m.1)))) (indexing_binds c.args.room) c.in_err-first.ensures

pub index-returns : goal.index-returns
index-returns t c = let m = c.take.ensures.none (grind arith) in
    carried_all (λ e. exp_of e.tree) _ _ (goes_on (at_same m.1 (narrow_carries (indexing_narrows c.args.room _ (λ e. is_not c.is.ensures.value (grind arith) e) (still_not m.0 m.1)))) (indexing_binds c.args.room) c.in_ok-first.ensures) c.indexed.ensures

pub indexed-returns-in_err-items : goal.indexed-returns-in_err-items
indexed-returns-in_err-items t c = fails_at _ _ _ _ _ _ c.from_residual.ensures.1 (narrow_carries (listed_narrows c.args.room (exp_of c.args.first.tree) _ (λ e. is_not c.is.ensures.value (grind arith) e)))
    (listed_binds c.args.room (exp_of c.args.first.tree)) c.in_err-items.ensures

pub indexed-returns-then-not-is-2 : goal.indexed-returns-then-not-is-2
indexed-returns-then-not-is-2 t c = let g = c.in_ok-items.ensures in
    (goes_on (narrow_carries (listed_narrows c.args.room (exp_of c.args.first.tree) _ (λ e. is_not c.is.ensures.value (grind arith) e))) (listed_binds c.args.room (exp_of c.args.first.tree)) g).refused false _
    (just_bad_of_sequels (an_index c.args.room) _ _ g.fits (λ more a s. not_close _ (λ e. is_not c.is-then-not-is.ensures.value (grind arith) e) a s))

pub indexed-returns-then-not-is : goal.indexed-returns-then-not-is
indexed-returns-then-not-is t c = let g = c.in_ok-items.ensures in
    (goes_on (narrow_carries (listed_narrows c.args.room (exp_of c.args.first.tree) _ (λ e. is_not c.is.ensures.value (grind arith) e))) (listed_binds c.args.room (exp_of c.args.first.tree)) g).found _ _
    (just_found (an_index c.args.room) _ _ (is_so c.is-then-not-is.ensures.value (grind arith)) g.fits)

pub indexed-returns-then-first-room : goal.indexed-returns-then-first-room
indexed-returns-then-first-room t c = let n = signed_next _ (is_so c.is.ensures.value (grind arith)) in
    start_over c.args.room (exp_of c.args.first.tree) _ n.0 n.1 c.requires.fits (omega (arith, c.args.first.exact, c.if-first-room.true))

pub indexed-returns : goal.indexed-returns
indexed-returns t c = let n = signed_next _ (is_so c.is.ensures.value (grind arith)) in
    carried_all (λ e. exp_of e.tree) _ _ (shift_on carries_all (start_shifts c.args.room (exp_of c.args.first.tree) c.line-colon.result.0) (n.1 ∙ ap (λ l. Some (sign l (mark Colon))) (sym (c.line-colon.ensures ∙ ap line_at n.1))) c.skip.ensures.value) c.slice.ensures

-- a generator alone
pub generator_alone-returns-then-item-room : goal.generator_alone-returns-then-item-room
generator_alone-returns-then-item-room t c = let n = signed_next _ c.requires.first in
    generated_over c.args.room (exp_of c.args.item.tree) _ n.0 n.1 c.requires.fits (omega (arith, c.args.item.exact, c.if-item-room.true))

pub generator_alone-clauses-requires : goal.generator_alone-clauses-requires
generator_alone-clauses-requires t c = (omega arith, (c.requires.first, (omega (arith, depth_some (exp_of c.args.item.tree), c.args.item.exact, c.if-item-room.false), omega (arith, c.requires.few))))

pub generator_alone-comprehension-requires-clause-some : goal.generator_alone-comprehension-requires-clause-some
generator_alone-comprehension-requires-clause-some t c = let n = signed_next _ c.requires.first in
    λ e. clauses_some (c.args.room - 1) n.0 c.in_ok-clauses.ensures n.1 (ap (λ (u : List WideClause). clauses_in u) e)

pub generator_alone-returns-in_err-clauses : goal.generator_alone-returns-in_err-clauses
generator_alone-returns-in_err-clauses t c =
    let n = signed_next _ c.requires.first in
    let e = exp_of c.args.item.tree in
    let small : depth_exp e < c.args.room = omega (arith, c.args.item.exact, c.if-item-room.false) in
    fails_at _ _ _ _ _ _ c.from_residual.ensures.1 (narrow_carries (generated_narrows c.args.room e _ c.requires.first)) (generated_binds c.args.room e c.requires.fits small)
    (carried _ _ (for_carries (c.args.room - 1) (omega (arith, small, depth_some e)) _ n.0 n.1) c.in_err-clauses.ensures)

pub generator_alone-returns-then-not-take : goal.generator_alone-returns-then-not-take
generator_alone-returns-then-not-take t c =
    let n = signed_next _ c.requires.first in
    let e = exp_of c.args.item.tree in
    let small : depth_exp e < c.args.room = omega (arith, c.args.item.exact, c.if-item-room.false) in
    let g = c.in_ok-clauses.ensures in
    let m = c.take.ensures.none (grind arith) in
    rw m.1 ((goes_on (narrow_carries (generated_narrows c.args.room e _ c.requires.first)) (generated_binds c.args.room e c.requires.fits small)
    ((for_carries (c.args.room - 1) (omega (arith, small, depth_some e)) _ n.0 n.1).found _ _ g)).refused false _
    (through_bad (some_arguments c.args.room) (IsSign (mark Close)) (Just (alone_of e (clauses_read c.in_ok-clauses.clauses))) _ (not_signed _ m.0) (sign 0 (mark Close)) is_sign [] _
    (omega (arith, g.fits.0, small), omega (arith, c.requires.fits.1, g.fits.1), omega arith) (λ z. just)))

pub generator_alone-returns : goal.generator_alone-returns
generator_alone-returns t c =
    let n = signed_next _ c.requires.first in
    let e = exp_of c.args.item.tree in
    let small : depth_exp e < c.args.room = omega (arith, c.args.item.exact, c.if-item-room.false) in
    let g = c.in_ok-clauses.ensures in
    let m = c.take.ensures.found (grind arith) in
    let k = signed_next _ m.0 in
    rw (c.finish.ensures, c.in_ok-arguments.ensures, c.new.ensures, c.in_ok-node.ensures, c.line-start.ensures)
    (ended (some_arguments c.args.room) (goes_on (narrow_carries (generated_narrows c.args.room e _ c.requires.first)) (generated_binds c.args.room e c.requires.fits small)
    ((for_carries (c.args.room - 1) (omega (arith, small, depth_some e)) _ n.0 n.1).found _ _ g)) k.1 is_sign m.1 tt (omega (arith, g.fits.0, small), omega (arith, c.requires.fits.1, g.fits.1), omega arith))
