use Rattle.std.proofs.Common.{sym, ap, ◌∙◌}
use Rattle.asl_types.specs.private.FieldPlaces.{fields_of_form, places_in}
use Rattle.asl_types.proofs.PlaceLemmas.{found_in}
use Rattle.asl_types.proofs.ty.Ty.field_named.Goals as goal

pub returns-in-Record : goal.returns-in-Record
returns-in-Record c =
    c.field_at.ensures
    ∙ found_in c.args.name.now c.self.inside.form (places_in c.self.inside.places) c.in-Record.fields c.as_slice.result.now c.args.self.now c.place_in.result
    (c.as_slice.ensures ∙ c.get.ensures) (sym (ap fields_of_form c.in-Record.is)) c.self.view_is c.self.invariant.placed c.place_in.ensures

pub returns-in-Exception : goal.returns-in-Exception
returns-in-Exception c =
    c.field_at-in-Exception.ensures
    ∙ found_in c.args.name.now c.self.inside.form (places_in c.self.inside.places) c.in-Exception.fields c.as_slice-in-Exception.result.now c.args.self.now c.place_in-in-Exception.result
    (c.as_slice-in-Exception.ensures ∙ c.get-in-Exception.ensures) (sym (ap fields_of_form c.in-Exception.is)) c.self.view_is c.self.invariant.placed c.place_in-in-Exception.ensures
