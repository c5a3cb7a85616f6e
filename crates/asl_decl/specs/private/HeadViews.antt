-- The types of a subprogram, as the code holds them.
use Rattle.asl_decl.specs.declared.heads.HeadTypes.{HeadTypes}
use Rattle.asl_decl.specs.private.HeadTypes as rules

abbrev pub types_of : HeadTypes → rules.HeadTypes
types_of h = record { params = h.params; formals = h.formals; result = h.result }
