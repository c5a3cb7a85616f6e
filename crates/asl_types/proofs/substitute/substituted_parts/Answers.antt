use Rattle.std.proofs.Common.{option_map, sym, ap, ◌∙◌}
use Rattle.asl_types.proofs.SubstituteLemmas.{all_of_them}
use Rattle.asl_types.proofs.substitute.substituted_parts.Goals as goal

pub returns-in_ok-from_parts-in-Some : goal.returns-in_ok-from_parts-in-Some
returns-in_ok-from_parts-in-Some c =
    all_of_them c.args.by.now c.args.parts.now c.in-Some.made.items c.in_ok-from_parts-in-Some.field-0 c.requires
    (ap (option_map (λ v. v.items)) (sym c.in-Some.is) ∙ c.in_ok-made.ensures) c.in_ok-from_parts-in-Some.ensures
