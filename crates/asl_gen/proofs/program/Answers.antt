use Rattle.std.proofs.Common.{ap, arith, codes, length}
use Rattle.asl_rules.specs.report.Made.{declarations, made_text, statements}
use Rattle.asl_gen.proofs.Lengths.{length-program}
use Rattle.asl_gen.proofs.Pieces.{four}
use Rattle.asl_gen.proofs.program.Goals as goal

pub returns-clause-text : goal.returns-clause-text
unfolding made_text
returns-clause-text c =
    four _ _ _ _ _ (declarations c.args.number c.args.size) (codes "func main() => integer begin\nvar s = 0;\n") (statements c.args.number c.args.size) (codes "return s;\nend;\n")
    c.new-text.ensures.items c.in_ok-push_declarations.ensures c.in_ok-extend_from_slice.ensures.items c.in_ok-push_statements.ensures c.in_ok-extend_from_slice-2.ensures.items

pub returns-clause-short : goal.returns-clause-short
returns-clause-short c =
    let e = ap length (returns-clause-text c) in
    let within = length-program c.args.number c.args.size c.requires.few in
    omega (arith, e, within, c.extend_from_slice-2.new.self.ok.0)
