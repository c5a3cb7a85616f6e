use Rattle.std.proofs.Common.{◌∙◌, ap, sym}
use Rattle.std.proofs.lemmas.Result.{IfOk-weaker}
use Rattle.asl_rules.specs.report.Report.{answer, on_words_read}
use Rattle.asl_rules.specs.report.Texts.{placed}
use Rattle.asl_answer.proofs.texts.list_fault_text.Goals as goal

pub returns : goal.returns
returns c =
    let name = c.args.name.now in
    let line = c.code_and_line-code.result.1 in
    IfOk-weaker c.placed_text.result _ _ (λ text written r says go.
    ap (λ z. on_words_read name z go) (c.code_and_line-code.ensures r says)
    ∙ ap (λ code. answer (placed name line 1 0 code) 1) (sym c.text.ensures)
    ∙ ap (λ x. answer x 1) (sym written))
    c.placed_text.ensures
