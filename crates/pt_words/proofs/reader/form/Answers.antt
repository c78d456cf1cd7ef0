use Rattle.std.proofs.Common.{rules, ap, ap₂, codes, true, ◌≡◌, ◌∙◌}
use Rattle.std.proofs.lemmas.Result.{IfOk-weaker}
use Rattle.clap.specs.Walk.{rule_of}
use Rattle.clap.specs.Simple.{App, Shape, app_of, app_of_fields, new_app, on_top, with_rule}
use Rattle.clap.specs.declared.builder.command.Command.{Command}
use Rattle.clap.specs.declared.builder.command.Command.TheOpen.{Command-F}
use Rattle.pt_words.specs.Form.{events_arg, files_arg, stats_arg, steps_arg}
use Rattle.pt_words.proofs.reader.form.Goals as goal

abbrev plain : App
plain = on_top (λ s. record s { no_binary_name = true; disable_help_flag = true }) (new_app (codes "pt"))

pub returns : goal.returns
returns c =
    let files_is : rule_of c.action-files.result ≡ files_arg = search rules in
    let steps_is : rule_of c.action-steps.result ≡ steps_arg = search rules in
    let events_is : rule_of c.action-events.result ≡ events_arg = search rules in
    let stats_is : rule_of c.action-stats.result ≡ stats_arg = search rules in
    let plain_is : app_of c.disable_help_flag.result ≡ plain =
    ap app_of_fields (c.disable_help_flag.ensures ∙ ap (λ (f : Command-F Command). record f { disable_help_flag = true }) c.no_binary_name.ensures)
    ∙ ap (on_top (λ (s : Shape). record s { no_binary_name = true; disable_help_flag = true })) c.new-5.ensures.app in
    IfOk-weaker c.arg-4.result _ _
    (λ form h.
    h.shape (search rules)
    ∙ ap₂ with_rule (c.in_ok-arg-3.ensures.shape (search rules)
    ∙ ap₂ with_rule (c.in_ok-arg-2.ensures.shape (search rules)
    ∙ ap₂ with_rule (c.in_ok-arg.ensures.shape (search rules) ∙ ap₂ with_rule plain_is files_is) steps_is) events_is) stats_is)
    c.arg-4.ensures
