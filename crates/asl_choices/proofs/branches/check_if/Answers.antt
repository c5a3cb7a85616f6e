use Rattle.std.proofs.Common.{◌≡◌, rules, Err, ap, ◌∙◌, map, sym}
use Rattle.asl_tree.specs.View.{operand_of}
use Rattle.asl_blocks.specs.private.Views.{body_of, done_of, listed_of}
use Rattle.asl_choices.specs.private.PartViews.{branches_of}
use Rattle.asl_blocks.specs.private.Walks.{first_branch, walk_stmt, walk_branch}
use Rattle.asl_blocks.proofs.Parted.{if_others_stop, if_last_stop, if_all}
use Rattle.asl_choices.proofs.branches.check_if.Goals as goal

pub returns-in_err-check_branches : goal.returns-in_err-check_branches
returns-in_err-check_branches g c = λ t s.
    let x : c.check_branches.result ≡ Err c.in_err-check_branches.field-0.0 = search rules in
    let q : c.from_residual-in_err-check_branches.result ≡ Err c.in_err-check_branches.field-0.0 = search rules in
    let n = c.args.names.now in
    if_others_stop _ (done_of c.check_branches.new.names) c.in_err-check_branches.field-0.0 c.check_branches.result c.from_residual-in_err-check_branches.result t c.args.branching.now.span c.args.branching.now.condition.now
    (map (walk_stmt t) c.args.branching.now.first.now) (map (walk_branch t) c.args.branching.now.others.now) (map (walk_stmt t) c.args.branching.now.last.now)
    (body_of n c.args.body.now) (body_of c.check_inside.new.names c.args.body.now) (operand_of c.in_ok-condition.condition) (listed_of n c.in_ok-first.first) (branches_of c.new-branches.result) x q
    (c.in_ok-condition.ensures t s) (c.in_ok-first.ensures.rule t s) (ap (λ m. body_of m c.args.body.now) c.in_ok-first.ensures.kept)
    (c.new-branches.ensures n ∙ ap (λ e. first_branch (operand_of e) (listed_of n c.in_ok-first.first)) c.get.ensures)
    (c.check_branches.ensures.rule t s)

pub returns-in_err-last : goal.returns-in_err-last
returns-in_err-last g c = λ t s.
    let x : c.check_inside-2.result ≡ Err c.in_err-last.field-0.0 = search rules in
    let q : c.from_residual-in_err-last.result ≡ Err c.in_err-last.field-0.0 = search rules in
    let n = c.args.names.now in
    if_last_stop _ (done_of c.check_inside-2.new.names) c.in_err-last.field-0.0 c.check_inside-2.result c.from_residual-in_err-last.result t c.args.branching.now.span c.args.branching.now.condition.now
    (map (walk_stmt t) c.args.branching.now.first.now) (map (walk_branch t) c.args.branching.now.others.now) (map (walk_stmt t) c.args.branching.now.last.now)
    (body_of n c.args.body.now) (body_of c.check_inside.new.names c.args.body.now) (body_of c.check_branches.new.names c.args.body.now) (operand_of c.in_ok-condition.condition) (listed_of n c.in_ok-first.first) (branches_of c.new-branches.result) (branches_of c.check_branches.new.so_far) x q
    (c.in_ok-condition.ensures t s) (c.in_ok-first.ensures.rule t s) (ap (λ m. body_of m c.args.body.now) c.in_ok-first.ensures.kept)
    (c.new-branches.ensures n ∙ ap (λ e. first_branch (operand_of e) (listed_of n c.in_ok-first.first)) c.get.ensures)
    (c.in_ok-check_branches.ensures.rule t s) (ap (λ m. body_of m c.args.body.now) (c.in_ok-check_branches.ensures.kept ∙ c.in_ok-first.ensures.kept))
    (c.check_inside-2.ensures.rule t s)

pub returns : goal.returns
returns g c = λ t s.
    let n = c.args.names.now in
    let m = c.check_inside-2.new.names in
    let two = c.in_ok-check_branches.ensures.kept ∙ c.in_ok-first.ensures.kept in
    let three = c.in_ok-last.ensures.kept ∙ c.in_ok-check_branches.ensures.kept ∙ c.in_ok-first.ensures.kept in
    if_all (done_of m) c.end_if.result t c.args.branching.now.span c.args.branching.now.condition.now
    (map (walk_stmt t) c.args.branching.now.first.now) (map (walk_branch t) c.args.branching.now.others.now) (map (walk_stmt t) c.args.branching.now.last.now)
    (body_of n c.args.body.now) (body_of c.check_inside.new.names c.args.body.now) (body_of c.check_branches.new.names c.args.body.now) (body_of m c.args.body.now)
    (operand_of c.in_ok-condition.condition) (listed_of n c.in_ok-first.first) (listed_of m c.in_ok-first.first) (listed_of c.check_branches.new.names c.in_ok-last.last) (listed_of m c.in_ok-last.last)
    (branches_of c.new-branches.result) (branches_of c.check_branches.new.so_far)
    (c.in_ok-condition.ensures t s) (c.in_ok-first.ensures.rule t s) (ap (λ k. body_of k c.args.body.now) c.in_ok-first.ensures.kept)
    (c.new-branches.ensures n ∙ ap (λ e. first_branch (operand_of e) (listed_of n c.in_ok-first.first)) c.get.ensures)
    (c.in_ok-check_branches.ensures.rule t s) (ap (λ k. body_of k c.args.body.now) two) (c.in_ok-last.ensures.rule t s)
    (ap (λ k. body_of k c.args.body.now) three) (ap (λ k. listed_of k c.in_ok-first.first) three) (ap (λ k. listed_of k c.in_ok-last.last) c.in_ok-last.ensures.kept)
    (c.end_if.ensures m)
