use Rattle.std.proofs.Common.{[], map, refl, ◌∙◌}
use Rattle.asl_rules.specs.statements.Acting.{Listed, listed}
use Rattle.asl_rules.specs.declared.effect.Effect.TheVariants.{Pure}
use Rattle.asl_tree.specs.Acts.{acts_from}
use Rattle.asl_blocks.specs.private.Views.{body_of, listing_of, listed_of}
use Rattle.asl_blocks.specs.private.Walks.{Listing, walk_stmt}
use Rattle.asl_stmt.proofs.Reported.{met_on}
use Rattle.asl_stmt.proofs.Walked.{list_is, in_order_is}
use Rattle.asl_stmt.proofs.lists.check_stmts.Goals as goal

pub returns : goal.returns
returns c = λ t s.
    let B = body_of c.args.names.now c.args.body.now in
    met_on (listing_of c.check_list.new.names) (listed_of c.check_list.new.names) (λ (x : Listing). listed x.names x.effect (acts_from x.acts)) c.check_list.result _ _
    (λ l. refl) (list_is t c.args.stmts.now Pure B ∙ in_order_is B (map (walk_stmt t) c.args.stmts.now) Pure) (c.check_list.ensures t s)
