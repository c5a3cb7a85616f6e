-- So many free places are enough for statements exactly where they are at least their room, and then more are too.
use Rattle.std.proofs.Common.{◌≡◌, ℕ, suc, ◌+◌, ◌-◌, ◌≤◌, ◌<◌, ◌^◌, max, Bool, true, false, arith}
use Rattle.std.proofs.Math.Nat.{le-max_left, le-max_right, max-le}
use Rattle.asl_rules.specs.runs.Trees.{Act, Acts, Branches, Alternatives, Catchers, Last, Pass, Unreachable, Assert, Declare, DeclareFirst, Assign, Invoke, If, Case, For, While, Repeat, Return, Throw, Try, Print, no_act, act_and, no_branch, branch_and, no_alternative, alternative_and, no_catcher, catcher_and, none_last, otherwise}
use Rattle.asl_tree.specs.private.Room.{names_taken, name_caught, declared, FitsAct, FitsList, FitsBranches, FitsAlternatives, FitsCatchers, FitsLast, act_room, list_room, branches_room, alternatives_room, catchers_room, last_room}

one : (a b : ℕ) {r : ℕ} → max a b ≤ r → a ≤ r
one a b le = omega (arith, le, le-max_left a b)

other : (a b : ℕ) {r : ℕ} → max a b ≤ r → b ≤ r
other a b le = omega (arith, le, le-max_right a b)

-- a statement's names are among those that it needs places for
pub declared_within : (s : Act) → declared s ≤ act_room s
declared_within (Pass span) = omega arith
declared_within (Unreachable span) = omega arith
declared_within (Assert span e) = omega arith
declared_within (Declare span T b e) = omega arith
declared_within (DeclareFirst span n at T es) = omega arith
declared_within (Assign span ps e) = omega arith
declared_within (Invoke span f is ps es) = omega arith
declared_within (If span e first others last) = omega arith
declared_within (Case span e alternatives last) = omega arith
declared_within (For span a d b l body) = omega arith
declared_within (While span e l body) = omega arith
declared_within (Repeat span body e l) = omega arith
declared_within (Return span e) = omega arith
declared_within (Throw span e) = omega arith
declared_within (Try span body cs last) = omega arith
declared_within (Print span kind is) = omega arith

mutual
  pub room_fits_act : (r : ℕ) (s : Act) → act_room s ≤ r → FitsAct r s
  room_fits_act r (Pass span) le = tt
  room_fits_act r (Unreachable span) le = tt
  room_fits_act r (Assert span e) le = tt
  room_fits_act r (Declare span T b e) le = le
  room_fits_act r (DeclareFirst span n at T es) le = le
  room_fits_act r (Assign span ps e) le = tt
  room_fits_act r (Invoke span f is ps es) le = tt
  room_fits_act r (If span e first others last) le =
      let rest : max (branches_room others) (list_room last) ≤ r = other (list_room first) _ le in
      (room_fits r first (one _ _ le), (room_fits_branches r others (one _ _ rest), room_fits r last (other (branches_room others) _ rest)))
  room_fits_act r (Case span e alternatives last) le =
      (room_fits_alternatives r alternatives (one _ _ le), room_fits_last r last (other (alternatives_room alternatives) _ le))
  room_fits_act r (For span a d b l body) le = (omega (arith, le), room_fits (r - 1) body (omega (arith, le)))
  room_fits_act r (While span e l body) le = room_fits r body le
  room_fits_act r (Repeat span body e l) le = room_fits r body le
  room_fits_act r (Return span e) le = tt
  room_fits_act r (Throw span e) le = tt
  room_fits_act r (Try span body cs last) le =
      let rest : max (catchers_room cs) (last_room last) ≤ r = other (list_room body) _ le in
      (room_fits r body (one _ _ le), (room_fits_catchers r cs (one _ _ rest), room_fits_last r last (other (catchers_room cs) _ rest)))
  room_fits_act r (Print span kind is) le = tt

  pub room_fits : (r : ℕ) (ss : Acts) → list_room ss ≤ r → FitsList r ss
  room_fits r no_act le = tt
  room_fits r (act_and s ss) le = (room_fits_act r s (one _ _ le), room_fits (r - declared s) ss (omega (arith, other (act_room s) _ le)))

  room_fits_branches : (r : ℕ) (bs : Branches) → branches_room bs ≤ r → FitsBranches r bs
  room_fits_branches r no_branch le = tt
  room_fits_branches r (branch_and e ss bs) le = (room_fits r ss (one _ _ le), room_fits_branches r bs (other (list_room ss) _ le))

  room_fits_alternatives : (r : ℕ) (more : Alternatives) → alternatives_room more ≤ r → FitsAlternatives r more
  room_fits_alternatives r no_alternative le = tt
  room_fits_alternatives r (alternative_and ps es e ss more) le =
      (room_fits r ss (one _ _ le), room_fits_alternatives r more (other (list_room ss) _ le))

  room_fits_catchers : (r : ℕ) (cs : Catchers) → catchers_room cs ≤ r → FitsCatchers r cs
  room_fits_catchers r no_catcher le = tt
  room_fits_catchers r (catcher_and is_named name ss cs) le =
      let own : name_caught is_named + list_room ss ≤ r = one _ _ le in
      let rest : catchers_room cs ≤ r = other (name_caught is_named + list_room ss) _ le in
      (omega (arith, own), (room_fits (r - name_caught is_named) ss (omega (arith, own)), room_fits_catchers r cs rest))

  room_fits_last : (r : ℕ) (last : Last) → last_room last ≤ r → FitsLast r last
  room_fits_last r none_last le = tt
  room_fits_last r (otherwise ss) le = room_fits r ss le

mutual
  pub fits_room_act : (r : ℕ) (s : Act) → FitsAct r s → act_room s ≤ r
  fits_room_act r (Pass span) fits = omega arith
  fits_room_act r (Unreachable span) fits = omega arith
  fits_room_act r (Assert span e) fits = omega arith
  fits_room_act r (Declare span T b e) fits = fits
  fits_room_act r (DeclareFirst span n at T es) fits = fits
  fits_room_act r (Assign span ps e) fits = omega arith
  fits_room_act r (Invoke span f is ps es) fits = omega arith
  fits_room_act r (If span e first others last) fits =
      max-le (fits_room r first fits.0) (max-le (fits_room_branches r others fits.1.0) (fits_room r last fits.1.1))
  fits_room_act r (Case span e alternatives last) fits =
      max-le (fits_room_alternatives r alternatives fits.0) (fits_room_last r last fits.1)
  fits_room_act r (For span a d b l body) fits = omega (arith, fits.0, fits_room (r - 1) body fits.1)
  fits_room_act r (While span e l body) fits = fits_room r body fits
  fits_room_act r (Repeat span body e l) fits = fits_room r body fits
  fits_room_act r (Return span e) fits = omega arith
  fits_room_act r (Throw span e) fits = omega arith
  fits_room_act r (Try span body cs last) fits =
      max-le (fits_room r body fits.0) (max-le (fits_room_catchers r cs fits.1.0) (fits_room_last r last fits.1.1))
  fits_room_act r (Print span kind is) fits = omega arith

  pub fits_room : (r : ℕ) (ss : Acts) → FitsList r ss → list_room ss ≤ r
  fits_room r no_act fits = omega arith
  fits_room r (act_and s ss) fits =
      let own : act_room s ≤ r = fits_room_act r s fits.0 in
      max-le own (omega (arith, own, declared_within s, fits_room (r - declared s) ss fits.1))

  fits_room_branches : (r : ℕ) (bs : Branches) → FitsBranches r bs → branches_room bs ≤ r
  fits_room_branches r no_branch fits = omega arith
  fits_room_branches r (branch_and e ss bs) fits = max-le (fits_room r ss fits.0) (fits_room_branches r bs fits.1)

  fits_room_alternatives : (r : ℕ) (more : Alternatives) → FitsAlternatives r more → alternatives_room more ≤ r
  fits_room_alternatives r no_alternative fits = omega arith
  fits_room_alternatives r (alternative_and ps es e ss more) fits = max-le (fits_room r ss fits.0) (fits_room_alternatives r more fits.1)

  fits_room_catchers : (r : ℕ) (cs : Catchers) → FitsCatchers r cs → catchers_room cs ≤ r
  fits_room_catchers r no_catcher fits = omega arith
  fits_room_catchers r (catcher_and is_named name ss cs) fits =
      max-le (omega (arith, fits.0, fits_room (r - name_caught is_named) ss fits.1.0)) (fits_room_catchers r cs fits.1.1)

  fits_room_last : (r : ℕ) (last : Last) → FitsLast r last → last_room last ≤ r
  fits_room_last r none_last fits = omega arith
  fits_room_last r (otherwise ss) fits = fits_room r ss fits

more : {a r q : ℕ} → a ≤ r → r ≤ q → a ≤ q
more le up = omega (arith, le, up)

pub fits_more : (r q : ℕ) (ss : Acts) → r ≤ q → FitsList r ss → FitsList q ss
fits_more r q ss up fits = room_fits q ss (more (fits_room r ss fits) up)

pub fits_more_act : (r q : ℕ) (s : Act) → r ≤ q → FitsAct r s → FitsAct q s
fits_more_act r q s up fits = room_fits_act q s (more (fits_room_act r s fits) up)

pub fits_more_branches : (r q : ℕ) (bs : Branches) → r ≤ q → FitsBranches r bs → FitsBranches q bs
fits_more_branches r q bs up fits = room_fits_branches q bs (more (fits_room_branches r bs fits) up)

pub fits_more_alternatives : (r q : ℕ) (others : Alternatives) → r ≤ q → FitsAlternatives r others → FitsAlternatives q others
fits_more_alternatives r q others up fits = room_fits_alternatives q others (more (fits_room_alternatives r others fits) up)

pub fits_more_catchers : (r q : ℕ) (cs : Catchers) → r ≤ q → FitsCatchers r cs → FitsCatchers q cs
fits_more_catchers r q cs up fits = room_fits_catchers q cs (more (fits_room_catchers r cs fits) up)

pub fits_more_last : (r q : ℕ) (last : Last) → r ≤ q → FitsLast r last → FitsLast q last
fits_more_last r q last up fits = room_fits_last q last (more (fits_room_last r last fits) up)

-- where more places than a number counts are needed, no number of places is enough
pub wants_more : (ss : Acts) → ¬ (list_room ss < 2 ^ 32) → ¬ FitsList (2 ^ 32 - 1) ss
wants_more ss far fits = far (omega (arith, fits_room (2 ^ 32 - 1) ss fits))
