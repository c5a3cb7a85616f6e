use Rattle.std.proofs.Common.{◌≡◌, ◌∙◌, [], ◌∷◌, length, map, refl, ap, subst, arith}
use Rattle.std.proofs.lemmas.Result.{err_from_is_err_and}
use Rattle.asl_io.proofs.ToldLemmas.{Takes-none}
use Rattle.asl_syn.specs.Command.{default_steps}
use Rattle.asl_rules.specs.declarations.Programs.{environment}
use Rattle.asl_rules.specs.report.Report.{begun, made_answer}
use Rattle.asl_rules.specs.report.Texts.{made_words}
use Rattle.asl_rules.specs.declared.entry.Entry.TheVariants.{Main}
use Rattle.asl_answer.specs.private.Model.{file_of}
use Rattle.asl_answer.specs.private.Writes.{Answers}
use Rattle.asl_answer.proofs.Programs.{answered, starts}
use Rattle.asl_answer.proofs.answer.check_made.Goals as goal

pub returns-in_err-words-in-Ok-clause-answer : goal.returns-in_err-words-in-Ok-clause-answer
returns-in_err-words-in-Ok-clause-answer g c = λ t u.
    let p = err_from_is_err_and c.from_residual.result c.from_residual.ensures.1 in
    rw p.1 ([], _, refl, Takes-none _)

pub returns-in_ok-words-in-Ok-clause-answer : goal.returns-in_ok-words-in-Ok-clause-answer
returns-in_ok-words-in-Ok-clause-answer g c = λ t u.
    let decls = c.args.program.decls in
    let bytes = c.args.source.now.bytes.items in
    let files = file_of c.args.source.now ∷ [] in
    let words = made_words c.args.number c.args.size (length bytes) (length decls) in
    let bytes_are : c.len.result ≡ length bytes = omega (arith, c.args.source.now.bytes.ok.0) in
    let declarations_are : c.len-declarations.result ≡ length decls = omega arith in
    let words_are : c.as_bytes.result.now ≡ words =
    c.as_bytes.ensures.value ∙ c.in_ok-words-in-Ok.ensures
    ∙ ap (λ n. made_words c.args.number c.args.size n c.len-declarations.result) bytes_are
    ∙ ap (λ n. made_words c.args.number c.args.size (length bytes) n) declarations_are in
    answered t Main files decls c.in-Ok.checked (λ ds found. begun (made_answer words files) (environment t ds) default_steps found.main) c.run_made.result _ _ (c.in-Ok.ensures t u)
    (subst (λ text. Answers c.run_made.result (g.K.Sink.written c.args.out.now) (g.K.Sink.written c.run_made.new.out) (begun (made_answer text files) (environment t c.in-Ok.checked.decls) default_steps c.in-Ok.checked.entries.main)) words_are
    (subst (λ sources. Answers c.run_made.result (g.K.Sink.written c.args.out.now) (g.K.Sink.written c.run_made.new.out) (begun (made_answer c.as_bytes.result.now (map file_of sources)) (environment t c.in-Ok.checked.decls) default_steps c.in-Ok.checked.entries.main)) c.from_ref-sources.ensures.value
    (c.run_made.ensures.answer t u)))

pub run_made-requires-clause-accepted : goal.run_made-requires-clause-accepted
run_made-requires-clause-accepted g c = λ t u. starts t u c.args.program.decls c.in-Ok.checked c.requires.grown (c.in-Ok.ensures t u)
