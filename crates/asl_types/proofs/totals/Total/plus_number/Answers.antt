use Rattle.std.proofs.Common.{◌≡◌, ap, ◌∙◌, arith}
use Rattle.std.specs.Prelude.{pos}
use Rattle.asl_poly.specs.Poly.{constant_map}
use Rattle.asl_types.proofs.TotalLemmas.{number_answer}
use Rattle.asl_types.proofs.totals.Total.plus_number.Goals as goal

pub returns : goal.returns
returns c x h =
    let same : c.from.result ≡ c.args.number = omega arith in
    let e = c.in_ok-p.ensures ∙ ap (λ n. constant_map (pos n)) same in
    number_answer c.args.self.within c.with_width.result x c.args.number c.in_ok-p.p e h (c.with_width.ensures x h)
