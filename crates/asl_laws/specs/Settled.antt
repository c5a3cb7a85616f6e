-- Declarations in turns: what was judged stays as it was judged, and what has come of each at the end.
use Rattle.std.specs.Prelude.{◌≡◌, ◌⊎◌, true, ◌&&◌, if◌then◌else◌, List, [], ◌∷◌}
use Rattle.asl_syn.specs.declared.tree.Decl.{Decl}
use Rattle.asl_rules.specs.Tests.{Tests}
use Rattle.asl_rules.specs.declarations.Scopes.{Entry}
use Rattle.asl_rules.specs.declarations.Turns.{Judged, Waiting, is_fine, SoFar, names_so_far, takes_turn, all_fine, decl_judged}
use Rattle.asl_rules.specs.private.Judgements.{EachJudged}

-- what was judged by the first state is the same in the second, and is judged so where these names are visible
abbrev pub StaysJudged : Tests → List Entry → List Decl → SoFar → SoFar → Type 0
StaysJudged t names [] [] [] = Unit {0}
StaysJudged t names [] [] (k ∷ ks) = ⊥
StaysJudged t names [] (j ∷ js) ks = ⊥
StaysJudged t names (d ∷ ds) [] ks = ⊥
StaysJudged t names (d ∷ ds) (j ∷ js) [] = ⊥
StaysJudged t names (d ∷ ds) (j ∷ js) (k ∷ ks) =
    ((j ≡ Waiting) ⊎ ((j ≡ k) × (decl_judged t d names ≡ j))) × StaysJudged t names ds js ks

-- what a declaration comes to by these outcomes: where all that it uses is well formed, and it takes a turn, what its rule says
abbrev pub outcome : Tests → List Decl → SoFar → Decl → Judged
outcome t ds js d = if takes_turn d && all_fine d ds js then decl_judged t d (names_so_far ds js) else Waiting

-- each declaration has come to what its rule says of it by these outcomes
abbrev pub Settled : Tests → List Decl → SoFar → Type 0
Settled t ds js = EachJudged (λ d j. j ≡ outcome t ds js d) ds js

-- each declaration that takes a turn is well formed
abbrev pub AllWell : List Decl → SoFar → Type 0
AllWell ds js = EachJudged (λ d j. takes_turn d ≡ true → is_fine j ≡ true) ds js
