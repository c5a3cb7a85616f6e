use Rattle.std.proofs.Common.{rules, ◌≡◌, Err, ap, ◌∙◌, map}
use Rattle.asl_rules.specs.declarations.Scopes.{handling}
use Rattle.asl_blocks.specs.private.Views.{body_of, done_of, listed_of, last_listed_of}
use Rattle.asl_loops.specs.private.CatcherViews.{catchers_of}
use Rattle.asl_blocks.specs.private.Walks.{walk_stmt, walk_catcher, walk_otherwise}
use Rattle.asl_blocks.proofs.Parted.{try_catchers_stop, try_last_stop, try_all}
use Rattle.asl_loops.proofs.catchers.check_try.Goals as goal

pub returns-in_err-catchers : goal.returns-in_err-catchers
returns-in_err-catchers g c = λ t s.
    let x : c.check_catchers.result ≡ Err c.in_err-catchers.field-0.0 = search rules in
    let q : c.from_residual-in_err-catchers.result ≡ Err c.in_err-catchers.field-0.0 = search rules in
    try_catchers_stop _ (done_of c.check_catchers.new.names) c.in_err-catchers.field-0.0 c.check_catchers.result c.from_residual-in_err-catchers.result c.args.trying.now.span (map (walk_stmt t) c.args.trying.now.stmts.now) (map (walk_catcher t) c.args.trying.now.catchers.now) (walk_otherwise t c.args.trying.now.last.now)
    (body_of c.args.names.now c.args.body.now) (body_of c.check_inside.new.names c.args.body.now) _
    x q (c.in_ok-list.ensures.rule t s) (ap (λ n. body_of n c.args.body.now) c.in_ok-list.ensures.kept) (c.check_catchers.ensures.rule t s)

pub returns-in_err-last : goal.returns-in_err-last
returns-in_err-last g c = λ t s.
    let x : c.check_otherwise.result ≡ Err c.in_err-last.field-0.0 = search rules in
    let q : c.from_residual-in_err-last.result ≡ Err c.in_err-last.field-0.0 = search rules in
    let both = c.in_ok-catchers.ensures.kept ∙ c.in_ok-list.ensures.kept in
    try_last_stop _ (done_of c.check_otherwise.new.names) c.in_err-last.field-0.0 c.check_otherwise.result c.from_residual-in_err-last.result c.args.trying.now.span (map (walk_stmt t) c.args.trying.now.stmts.now) (map (walk_catcher t) c.args.trying.now.catchers.now) (walk_otherwise t c.args.trying.now.last.now)
    (body_of c.args.names.now c.args.body.now) (body_of c.check_inside.new.names c.args.body.now) (body_of c.check_catchers.new.names c.in_ok-inner.inner) _ _
    x q (c.in_ok-list.ensures.rule t s) (ap (λ n. body_of n c.args.body.now) c.in_ok-list.ensures.kept) (c.in_ok-catchers.ensures.rule t s)
    (c.in_ok-inner.ensures c.check_catchers.new.names ∙ ap (λ n. handling (body_of n c.args.body.now)) both) (c.check_otherwise.ensures.rule t s)

pub returns : goal.returns
returns g c = λ t s.
    let both = c.in_ok-catchers.ensures.kept ∙ c.in_ok-list.ensures.kept in
    let whole = c.in_ok-last.ensures.kept ∙ c.in_ok-catchers.ensures.kept ∙ c.in_ok-list.ensures.kept in
    try_all (done_of c.check_otherwise.new.names) c.end_try.result c.args.trying.now.span (map (walk_stmt t) c.args.trying.now.stmts.now) (map (walk_catcher t) c.args.trying.now.catchers.now) (walk_otherwise t c.args.trying.now.last.now)
    (body_of c.args.names.now c.args.body.now) (body_of c.check_inside.new.names c.args.body.now) (body_of c.check_catchers.new.names c.in_ok-inner.inner) (body_of c.check_otherwise.new.names c.args.body.now)
    (listed_of c.args.names.now c.in_ok-list.list) (listed_of c.check_otherwise.new.names c.in_ok-list.list) (catchers_of c.in_ok-catchers.catchers) (last_listed_of c.in_ok-last.last)
    (c.in_ok-list.ensures.rule t s) (ap (λ n. body_of n c.args.body.now) c.in_ok-list.ensures.kept) (c.in_ok-catchers.ensures.rule t s)
    (c.in_ok-inner.ensures c.check_catchers.new.names ∙ ap (λ n. handling (body_of n c.args.body.now)) both) (c.in_ok-last.ensures.rule t s)
    (ap (λ n. body_of n c.args.body.now) whole) (ap (λ n. listed_of n c.in_ok-list.list) whole)
    (c.end_try.ensures c.check_otherwise.new.names)
