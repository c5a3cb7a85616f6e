use Rattle.std.proofs.Common.{◌≡◌, List, ℕ, subst, sym, string_bytes, IsTrue}
use Rattle.std.specs.List.{All}
use Rattle.std.proofs.lemmas.Result.{err_from_is_err_and}
use Rattle.asl_line.specs.private.Model.{meaning_of}
use Rattle.asl_answer.specs.declared.status.Stop.TheVariants.{Fault}
use Rattle.asl_cmd.proofs.ReadingLemmas.{All-unmap, sources_sure}
use Rattle.asl_cmd.proofs.reading.read_line.Goals as goal

pub returns-in_err-sources-clause-sure : goal.returns-in_err-sources-clause-sure
returns-in_err-sources-clause-sure g c sure failed =
    let P = λ (name : List ℕ). IsTrue (g.F.Files.sure c.args.files.now name) in
    let all_sure = All-unmap P string_bytes c.source_names-names.result.now (subst (All P) (sym c.source_names-names.ensures) (sources_sure P (meaning_of c.args.line.now) sure)) in
    let p = err_from_is_err_and c.from_residual.result c.from_residual.ensures.1 in
    let same : c.in_err-sources.field-0.0 ≡ Fault = cc in
    c.in_err-sources.ensures.sure all_sure (cc)
