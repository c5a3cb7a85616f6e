-- What a command line asks for. The crates that read the command line, answer it and state the answer share it.
use Rattle.std.specs.Prelude.{ℕ, List, [], ◌∷◌, ◌++◌}

-- `usage` where the words are no command; `check` with the names of the source files; `run` with the number of steps before these; `exec` with the number of
-- steps and the name of the word list before these; `self` with the number and the size of the text that is made; `masks` with the budget of splits before the
-- names of the source files
pub data Command : Type 0 where
  usage : Command
  check : List (List ℕ) → Command
  run : ℕ → List (List ℕ) → Command
  exec : ℕ → List ℕ → List (List ℕ) → Command
  self : ℕ → ℕ → Command
  masks : ℕ → List (List ℕ) → Command

-- the steps of a run where the words give no number
abbrev pub default_steps : ℕ
default_steps = 1000000

-- the splits of masks where the words give no number
abbrev pub default_budget : ℕ
default_budget = 100000

-- the names of the source files of a command, in order
abbrev pub sources_of : Command → List (List ℕ)
sources_of usage = []
sources_of (check names) = names
sources_of (run steps names) = names
sources_of (exec steps list names) = names
sources_of (self number size) = []
sources_of (masks budget names) = names

-- the names of all files that a command reads, in order: a word list is the last
abbrev pub names_of : Command → List (List ℕ)
names_of usage = []
names_of (check names) = names
names_of (run steps names) = names
names_of (exec steps list names) = names ++ list ∷ []
names_of (self number size) = []
names_of (masks budget names) = names
