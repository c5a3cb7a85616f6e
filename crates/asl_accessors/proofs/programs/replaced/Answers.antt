use Rattle.std.proofs.Common.{◌≡◌, List, ap, get_or, ◌∙◌}
use Rattle.asl_syn.specs.declared.read.ReadDecl.{ReadDecl}
use Rattle.asl_accessors.specs.declared.matching.Part.TheVariants.{Stays}
use Rattle.asl_accessors.specs.private.Parts.{parts_in}
use Rattle.asl_accessors.specs.private.Standing.{final_for}
use Rattle.asl_accessors.proofs.ProgramsCopied.{final_on, replaced_are}
use Rattle.asl_accessors.proofs.programs.replaced.Goals as goal

pub loop-place-preserved : goal.loop-place-preserved
loop-place-preserved c =
    let all = c.args.program.now.decls in
    let parts = c.as_slice-part-items.result.now in
    let i = c.loop-place.place in
    let are : parts ≡ parts_in all all = c.as_slice-part-items.ensures.value ∙ c.in_ok-parts.ensures.each ∙ ap (λ (ds : List ReadDecl). parts_in ds ds) c.as_slice-all.ensures in
    final_on all parts i Stays c.loop-place.decls c.push_copy.new.decls _ are c.loop-place-test.true
    (c.final_at.ensures ∙ ap (final_for (get_or parts i Stays) i) c.as_slice-all.ensures) c.in_ok-push_copy.ensures c.loop-place.invariant

pub returns-clause-made : goal.returns-clause-made
returns-clause-made c =
    let all = c.args.program.now.decls in
    let parts = c.as_slice-part-items.result.now in
    let are : parts ≡ parts_in all all = c.as_slice-part-items.ensures.value ∙ c.in_ok-parts.ensures.each ∙ ap (λ (ds : List ReadDecl). parts_in ds ds) c.as_slice-all.ensures in
    replaced_are all parts c.loop-place.place c.loop-place.decls are c.loop-place-test.false c.loop-place.invariant
