use Rattle.std.proofs.Common.{◌≡◌, ◌++◌, map, sym, subst}
use Rattle.asl_rules.specs.declarations.WrittenOut.{joined}
use Rattle.asl_rules.specs.report.MaskTables.{cases_in, body_of, tables_from}
use Rattle.asl_table.proofs.Appending.{two, on_ok, joined_append}
use Rattle.asl_table.proofs.walk.add_decl.Goals as goal

pub returns-in_ok-add_stmts-in-Accessor : goal.returns-in_ok-add_stmts-in-Accessor
returns-in_ok-add_stmts-in-Accessor c =
    on_ok c.add_stmts-in-Accessor-2.result (λ h.
    subst (λ d. c.add_stmts-in-Accessor-2.new.tables ≡ c.args.tables.now ++ tables_from (joined (map cases_in (body_of d)))) (sym c.in-Accessor.is)
    (subst (λ l. c.add_stmts-in-Accessor-2.new.tables ≡ c.args.tables.now ++ tables_from l)
    (joined_append cases_in c.in-Accessor.accessor.getter c.in-Accessor.accessor.setter)
    (two c.args.tables.now c.add_stmts-in-Accessor.new.tables c.add_stmts-in-Accessor-2.new.tables
    (joined (map cases_in c.in-Accessor.accessor.getter)) (joined (map cases_in c.in-Accessor.accessor.setter))
    (subst (λ l. c.add_stmts-in-Accessor.new.tables ≡ c.args.tables.now ++ tables_from (joined (map cases_in l))) c.as_slice-in-Accessor.ensures
    c.in_ok-add_stmts-in-Accessor.ensures)
    (subst (λ l. c.add_stmts-in-Accessor-2.new.tables ≡ c.add_stmts-in-Accessor.new.tables ++ tables_from (joined (map cases_in l)))
    c.as_slice-in-Accessor-2.ensures h))))
    c.add_stmts-in-Accessor-2.ensures
