use Rattle.asl_const.specs.private.Giving.{given_names}
use Rattle.asl_const.proofs.GivenLemmas.{given_some}
use Rattle.asl_const.proofs.constructing.given_value.Goals as goal

pub returns-in-Some : goal.returns-in-Some
returns-in-Some c = given_some (λ x. x.now) c.at.result c.args.name.now (given_names c.args.given.fields.now) c.args.given.values.now c.args.given.firsts.now c.place_of.result c.in-Some.place c.requires c.place_of.ensures c.in-Some.is c.at.ensures
