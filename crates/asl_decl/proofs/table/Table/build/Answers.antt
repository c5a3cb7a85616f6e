use Rattle.std.proofs.Common.{map, sym, subst}
use Rattle.asl_types.specs.private.Answers.{Met}
use Rattle.asl_decl.specs.Heads.{declared_of}
use Rattle.asl_decl.proofs.TableLemmas.{table_then}
use Rattle.asl_decl.proofs.table.Table.build.Goals as goal

pub returns-clause-rule : goal.returns-clause-rule
returns-clause-rule c t s =
    subst (λ r. Met declared_of c.with_funcs.result r)
    (sym (table_then t c.args.decls.now c.in_ok-names.names (map (λ f. f.now) c.in_ok-funcs.funcs) (c.in_ok-names.ensures.rule t s) (c.in_ok-names.ensures.names t s) c.in_ok-funcs.ensures))
    (c.with_funcs.ensures.rule t s)
