use Rattle.std.proofs.Common.{map, refl, sym, subst}
use Rattle.asl_syn.specs.declared.tree.Ident.{Ident}
use Rattle.asl_rules.specs.declarations.Names.{labels_of}
use Rattle.asl_rules.specs.declarations.Scopes.{subprogram}
use Rattle.asl_judge.specs.private.Brought.{labels_brought}
use Rattle.asl_judge.specs.private.Settling.{StandFor}
use Rattle.asl_judge.proofs.Settling.{labels_stand}
use Rattle.asl_judge.proofs.judging.judge_type.Goals as goal

pub returns-clause-stands : goal.returns-clause-stands
returns-clause-stands c =
    let name = c.as_slice-name.result.now in
    let labels = labels_of c.args.d.now.def in (
      c.as_slice-name.ensures,
      refl,
      subst (λ is. StandFor (map (λ (i : Ident). subprogram i.text) labels) (labels_brought is name c.in_ok-ty.ty)) (sym c.labels_in.ensures.labels)
          (labels_stand labels name c.in_ok-ty.ty),
    )
