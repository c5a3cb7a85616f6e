-- How many free places of a frame are enough for the names that statements declare. A statement gives its names the next places, which are free again where its
-- scope ends.
use Rattle.std.specs.Prelude.{ℕ, suc, ◌+◌, ◌-◌, max, ◌≤◌, Bool, true, false, List, [], ◌∷◌}
use Rattle.asl_rules.specs.runs.Trees.{Act, Acts, Branches, Alternatives, Catchers, Last, Taken, Pass, Unreachable, Assert, Declare, DeclareFirst, Assign, Invoke, If, Case, For, While, Repeat, Return, Throw, Try, Print, no_act, act_and, no_branch, branch_and, no_alternative, alternative_and, no_catcher, catcher_and, none_last, otherwise, nothing, whole, in_parts}

-- ---- names

-- how many parts are taken
abbrev pub parts_taken : List Bool → ℕ
parts_taken [] = 0
parts_taken (true ∷ bs) = suc (parts_taken bs)
parts_taken (false ∷ bs) = parts_taken bs

abbrev pub names_taken : Taken → ℕ
names_taken nothing = 0
names_taken whole = 1
names_taken (in_parts bs) = parts_taken bs

-- how many names a statement declares in the scope that it stands in
abbrev pub declared : Act → ℕ
declared (Pass span) = 0
declared (Unreachable span) = 0
declared (Assert span e) = 0
declared (Declare span T b e) = names_taken b
declared (DeclareFirst span n at T es) = n
declared (Assign span ps e) = 0
declared (Invoke span f is ps es) = 0
declared (If span e first others last) = 0
declared (Case span e alternatives last) = 0
declared (For span a d b l body) = 0
declared (While span e l body) = 0
declared (Repeat span body e l) = 0
declared (Return span e) = 0
declared (Throw span e) = 0
declared (Try span body cs last) = 0
declared (Print span kind is) = 0

-- the name of an exception that is caught, where it has one
abbrev pub name_caught : Bool → ℕ
name_caught true = 1
name_caught false = 0

-- ---- room

-- so many free places are enough: in a list each statement has those that the ones before it leave, and the counter of a `for` and the name of an exception that
-- is caught take one in front of their list
abbrev mutual
  pub FitsAct : ℕ → Act → Type 0
  FitsAct r (Pass span) = Unit {0}
  FitsAct r (Unreachable span) = Unit {0}
  FitsAct r (Assert span e) = Unit {0}
  FitsAct r (Declare span T b e) = names_taken b ≤ r
  FitsAct r (DeclareFirst span n at T es) = n ≤ r
  FitsAct r (Assign span ps e) = Unit {0}
  FitsAct r (Invoke span f is ps es) = Unit {0}
  FitsAct r (If span e first others last) = FitsList r first × (FitsBranches r others × FitsList r last)
  FitsAct r (Case span e alternatives last) = FitsAlternatives r alternatives × FitsLast r last
  FitsAct r (For span a d b l body) = (1 ≤ r) × FitsList (r - 1) body
  FitsAct r (While span e l body) = FitsList r body
  FitsAct r (Repeat span body e l) = FitsList r body
  FitsAct r (Return span e) = Unit {0}
  FitsAct r (Throw span e) = Unit {0}
  FitsAct r (Try span body cs last) = FitsList r body × (FitsCatchers r cs × FitsLast r last)
  FitsAct r (Print span kind is) = Unit {0}

  pub FitsList : ℕ → Acts → Type 0
  FitsList r no_act = Unit {0}
  FitsList r (act_and s ss) = FitsAct r s × FitsList (r - declared s) ss

  pub FitsBranches : ℕ → Branches → Type 0
  FitsBranches r no_branch = Unit {0}
  FitsBranches r (branch_and e ss bs) = FitsList r ss × FitsBranches r bs

  pub FitsAlternatives : ℕ → Alternatives → Type 0
  FitsAlternatives r no_alternative = Unit {0}
  FitsAlternatives r (alternative_and ps es e ss more) = FitsList r ss × FitsAlternatives r more

  pub FitsCatchers : ℕ → Catchers → Type 0
  FitsCatchers r no_catcher = Unit {0}
  FitsCatchers r (catcher_and is_named name ss cs) = (name_caught is_named ≤ r) × (FitsList (r - name_caught is_named) ss × FitsCatchers r cs)

  pub FitsLast : ℕ → Last → Type 0
  FitsLast r none_last = Unit {0}
  FitsLast r (otherwise ss) = FitsList r ss

-- ---- the least number of free places that is enough

abbrev mutual
  pub act_room : Act → ℕ
  act_room (Pass span) = 0
  act_room (Unreachable span) = 0
  act_room (Assert span e) = 0
  act_room (Declare span T b e) = names_taken b
  act_room (DeclareFirst span n at T es) = n
  act_room (Assign span ps e) = 0
  act_room (Invoke span f is ps es) = 0
  act_room (If span e first others last) = max (list_room first) (max (branches_room others) (list_room last))
  act_room (Case span e alternatives last) = max (alternatives_room alternatives) (last_room last)
  act_room (For span a d b l body) = 1 + list_room body
  act_room (While span e l body) = list_room body
  act_room (Repeat span body e l) = list_room body
  act_room (Return span e) = 0
  act_room (Throw span e) = 0
  act_room (Try span body cs last) = max (list_room body) (max (catchers_room cs) (last_room last))
  act_room (Print span kind is) = 0

  pub list_room : Acts → ℕ
  list_room no_act = 0
  list_room (act_and s ss) = max (act_room s) (declared s + list_room ss)

  pub branches_room : Branches → ℕ
  branches_room no_branch = 0
  branches_room (branch_and e ss bs) = max (list_room ss) (branches_room bs)

  pub alternatives_room : Alternatives → ℕ
  alternatives_room no_alternative = 0
  alternatives_room (alternative_and ps es e ss more) = max (list_room ss) (alternatives_room more)

  pub catchers_room : Catchers → ℕ
  catchers_room no_catcher = 0
  catchers_room (catcher_and is_named name ss cs) = max (name_caught is_named + list_room ss) (catchers_room cs)

  pub last_room : Last → ℕ
  last_room none_last = 0
  last_room (otherwise ss) = list_room ss
