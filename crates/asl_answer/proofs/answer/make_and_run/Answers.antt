use Rattle.std.proofs.Common.{◌≡◌, map, Ok, Err, ap, subst}
use Rattle.asl_syn.specs.declared.place.Source.{Source}
use Rattle.asl_grammar.specs.Reading.{Reads}
use Rattle.asl_rules.specs.report.Made.{made_text}
use Rattle.asl_rules.specs.report.Report.{answer, made_file}
use Rattle.asl_rules.specs.report.Texts.{fault_line}
use Rattle.asl_answer.specs.private.Model.{file_of}
use Rattle.asl_answer.specs.private.Writes.{Answers}
use Rattle.asl_answer.proofs.Programs.{made_read}
use Rattle.asl_answer.proofs.answer.make_and_run.Goals as goal

pub returns-in-Ok-clause-answer : goal.returns-in-Ok-clause-answer
returns-in-Ok-clause-answer g c = λ t u read is.
    let source : Source = record { name = c.in_ok-name.name; bytes = c.in_ok-bytes.bytes } in
    let text_is = c.in_ok-bytes.ensures.text in
    let name_is = c.in_ok-name.ensures.ok in
    let file_is : file_of source ≡ made_file (made_text c.args.number c.args.size) = cc (text_is, name_is) in
    let reads = subst (λ sources. Reads (map file_of sources) (Ok c.in-Ok.program.decls)) c.from_ref.ensures.value c.in-Ok.ensures.program in
    made_read t read is c.args.number c.args.size (made_text c.args.number c.args.size) c.in_ok-bytes.bytes.items (file_of source) (Ok c.in-Ok.program.decls) c.check_made.result _ _
    text_is file_is reads (c.check_made.ensures.answer t u)

pub returns-in-Err-At-clause-answer : goal.returns-in-Err-At-clause-answer
returns-in-Err-At-clause-answer g c = λ t u read is.
    let source : Source = record { name = c.in_ok-name.name; bytes = c.in_ok-bytes.bytes } in
    let fault = c.in-Err-At.fault in
    let text_is = c.in_ok-bytes.ensures.text in
    let name_is = c.in_ok-name.ensures.ok in
    let file_is : file_of source ≡ made_file (made_text c.args.number c.args.size) = cc (text_is, name_is) in
    let reads = subst (λ sources. Reads (map file_of sources) (Err fault)) c.from_ref.ensures.value (c.in-Err-At.ensures.fault fault (ap (λ z. Err z) c.in-Err-At.field-0-is)) in
    let written = subst (λ sources. Answers c.refuse.result (g.K.Sink.written c.args.out.now) (g.K.Sink.written c.refuse.new.out) (answer (fault_line (map file_of sources) fault) 1)) c.from_ref-in-Err-At.ensures.value c.refuse.ensures.answer in
    made_read t read is c.args.number c.args.size (made_text c.args.number c.args.size) c.in_ok-bytes.bytes.items (file_of source) (Err fault) c.refuse.result _ _
    text_is file_is reads written
