use Rattle.std.proofs.Common.{rules, codes, ◌≡◌, ◌∙◌, ap₂}
use Rattle.clap.specs.Words.{app_of, new_app, with_rule}
use Rattle.asl_line.specs.Line.{steps_rule, words_rule, files_rule}
use Rattle.asl_line.proofs.commands.exec_command.Goals as goal

pub returns-clause-shape : goal.returns-clause-shape
returns-clause-shape c =
    let bare : app_of c.new.result ≡ new_app (codes "exec") = search rules in
    let one = c.in_ok-arg.ensures.shape c.steps_arg.ensures.local ∙ ap₂ with_rule bare c.steps_arg.ensures.rule in
    let two = c.in_ok-arg-2.ensures.shape c.words_arg.ensures.local ∙ ap₂ with_rule one c.words_arg.ensures.rule in
    c.in_ok-arg-3.ensures.shape c.files_arg.ensures.local ∙ ap₂ with_rule two c.files_arg.ensures.rule
