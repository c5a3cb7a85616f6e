-- What constructions and steps into values stand for.
use Rattle.std.specs.Prelude.{List, map}
use Rattle.asl_rules.specs.private.ByPlace as places
use Rattle.asl_rules.specs.runs.Trees as trees
use Rattle.asl_value.specs.declared.parts.Shell.{Shell}
use Rattle.asl_value.specs.declared.parts.Shell.TheVariants as shell
use Rattle.asl_value.specs.declared.replacing.Step.{Step}
use Rattle.asl_value.specs.declared.replacing.Step.TheVariants as step
use Rattle.asl_value.specs.View.{value_of, all_slices}

abbrev pub shell_of : Shell → trees.Shell
shell_of (shell.Record name) = trees.record_shell name
shell_of (shell.Exception own supers name) = trees.exception_shell own supers name

abbrev pub step_of : Step → places.Step
step_of (step.Field span i) = places.into_field span i
step_of (step.Bitfield span f) = places.into_bitfield span f
step_of (step.Bitfields span fs) = places.into_bitfields span fs
step_of (step.Slices span ss xs) = places.into_slices span (all_slices ss) (map value_of xs)
step_of (step.Element span x) = places.into_element span (value_of x)

abbrev pub all_steps : List Step → List places.Step
all_steps ss = map step_of ss
