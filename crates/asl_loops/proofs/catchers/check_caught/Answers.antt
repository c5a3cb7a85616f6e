use Rattle.std.proofs.Common.{rules, ◌≡◌, Ok, Err, refl, ap, ◌∙◌, map, take, length}
use Rattle.asl_rules.specs.statements.Acting.{listed}
use Rattle.asl_rules.specs.statements.Branches.{with_caught}
use Rattle.asl_rules.specs.Faults.{◌>>=◌}
use Rattle.asl_rules.specs.declarations.Scopes.{handling}
use Rattle.asl_blocks.specs.private.Views.{body_of, listed_of}
use Rattle.asl_blocks.specs.private.Walks.{shut, walk_stmt}
use Rattle.asl_blocks.proofs.Parted.{caught_all, caught_stop, stop}
use Rattle.asl_blocks.proofs.Turns.{caught_cut}
use Rattle.asl_loops.proofs.catchers.check_caught.Goals as goal

pub returns-in_err-declare_caught-clause-rule : goal.returns-in_err-declare_caught-clause-rule
returns-in_err-declare_caught-clause-rule g c = λ t s.
    let x : c.declare_caught.result ≡ Err c.in_err-declare_caught.field-0.0 = search rules in
    let q : c.from_residual.result ≡ Err c.in_err-declare_caught.field-0.0 = search rules in
    stop (λ _. body_of c.declare_caught.new.names c.args.body.now) (listed_of c.args.names.now) c.in_err-declare_caught.field-0.0 c.declare_caught.result c.from_residual.result
    (with_caught c.args.name.now c.args.ty (body_of c.args.names.now c.args.body.now)) _
    (λ C. shut (map (walk_stmt t) c.args.stmts.now) (handling C) >>= λ l. Ok (listed c.args.names.now l.effect l.acts))
    x q refl (c.declare_caught.ensures (body_of c.args.names.now c.args.body.now))

pub returns-in_err-list-clause-rule : goal.returns-in_err-list-clause-rule
returns-in_err-list-clause-rule g c = λ t s.
    let x : c.check_inside.result ≡ Err c.in_err-list.field-0.0 = search rules in
    let q : c.from_residual-in_err-list.result ≡ Err c.in_err-list.field-0.0 = search rules in
    caught_stop _ (listed_of c.args.names.now) c.in_err-list.field-0.0 c.check_inside.result c.from_residual-in_err-list.result c.args.name.now c.args.ty (map (walk_stmt t) c.args.stmts.now) (body_of c.args.names.now c.args.body.now) (body_of c.declare_caught.new.names c.args.body.now)
    (body_of c.declare_caught.new.names c.in_ok-inner.inner)
    x q (c.in_ok-declare_caught.ensures (body_of c.args.names.now c.args.body.now)) (c.in_ok-inner.ensures c.declare_caught.new.names) (c.check_inside.ensures.rule t s)

pub returns-clause-rule : goal.returns-clause-rule
returns-clause-rule g c = λ t s.
    caught_all c.args.name.now c.args.ty (map (walk_stmt t) c.args.stmts.now) (body_of c.args.names.now c.args.body.now) (body_of c.declare_caught.new.names c.args.body.now)
    (body_of c.declare_caught.new.names c.in_ok-inner.inner) (listed_of c.declare_caught.new.names c.in_ok-list.list)
    (c.in_ok-declare_caught.ensures (body_of c.args.names.now c.args.body.now)) (c.in_ok-inner.ensures c.declare_caught.new.names) (c.in_ok-list.ensures.rule t s)

pub returns-clause-kept : goal.returns-clause-kept
returns-clause-kept g c =
    c.truncate.ensures ∙ ap (λ n. take n c.check_inside.new.names) c.len-height.ensures
    ∙ ap (take (length c.args.names.now)) c.in_ok-list.ensures.kept
    ∙ caught_cut c.args.name.now c.args.ty (body_of c.args.names.now c.args.body.now) (body_of c.declare_caught.new.names c.args.body.now)
    (c.in_ok-declare_caught.ensures (body_of c.args.names.now c.args.body.now))
