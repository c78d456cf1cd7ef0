-- The arguments of the form as they are built, and how names lead to them.
use Rattle.std.proofs.Common.{◌≡◌, true, false, List, [], Some, None, codes, refl}
use Rattle.std.specs.Str.{bytes_eq}
use Rattle.clap.specs.Walk.{Rule, Text, arg_by_id, arg_by_index, arg_by_long}
use Rattle.clap.specs.Simple.{Shape, built, filled, is_simple, names_of, with_index}
use Rattle.clap.specs.Faults.{is_simple_and_free}
use Rattle.pt_words.specs.Form.{form, files_arg, steps_arg, events_arg, stats_arg}

abbrev pub top : Shape
top = (built form).top

abbrev pub rules : List Rule
rules = top.rules

abbrev pub files_rule : Rule
files_rule = with_index 1 (filled files_arg)

abbrev pub steps_rule : Rule
steps_rule = with_index 2 (filled steps_arg)

abbrev pub events_rule : Rule
events_rule = with_index 2 (filled events_arg)

abbrev pub stats_rule : Rule
stats_rule = with_index 2 (filled stats_arg)

pub is_simple_form : is_simple form ≡ true
is_simple_form = refl

pub is_free_form : is_simple_and_free form ≡ true
is_free_form = refl

pub no_names : names_of (built form) ≡ []
no_names = refl

pub by_index : arg_by_index rules 1 ≡ Some files_rule
by_index = refl

pub files_by_id : arg_by_id rules (codes "files") ≡ Some files_rule
files_by_id = refl

pub steps_by_id : arg_by_id rules (codes "steps") ≡ Some steps_rule
steps_by_id = refl

module _ (name : Text) where
  pub steps_by_name : bytes_eq (codes "steps") name ≡ true → arg_by_long rules name ≡ Some steps_rule
  steps_by_name e = rw e refl

  pub events_by_name : bytes_eq (codes "steps") name ≡ false → bytes_eq (codes "events") name ≡ true → arg_by_long rules name ≡ Some events_rule
  events_by_name e f = rw (e, f) refl

  pub stats_by_name : bytes_eq (codes "steps") name ≡ false → bytes_eq (codes "events") name ≡ false → bytes_eq (codes "stats") name ≡ true
      → arg_by_long rules name ≡ Some stats_rule
  stats_by_name e f g = rw (e, f, g) refl

  pub none_by_name : bytes_eq (codes "steps") name ≡ false → bytes_eq (codes "events") name ≡ false → bytes_eq (codes "stats") name ≡ false
      → arg_by_long rules name ≡ None
  none_by_name e f g = rw (e, f, g) refl
