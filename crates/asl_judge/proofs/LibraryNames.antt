-- The subprograms of the library: what a scope has of them.
use Rattle.std.proofs.Common.{◌≡◌, [], map, refl}
use Rattle.asl_rules.specs.declarations.Names.{library}
use Rattle.asl_rules.specs.declarations.Scopes.{subprogram, with_entries}

pub library_is : with_entries (map subprogram library) [] ≡ map subprogram library
library_is = refl
