-- Statements part by part: what the rule of one gives once its first parts were found, also where the names before a part are those before the statement again.
use Rattle.std.proofs.Common.{◌≡◌, List, [], ◌∷◌, Option, Result, Ok, Err, refl, sym, ap, ◌∙◌, subst}
use Rattle.asl_syn.specs.declared.token.Span.{Span}
use Rattle.asl_syn.specs.declared.code.Fault.{Fault}
use Rattle.asl_syn.specs.declared.code.Refused.{Refused}
use Rattle.asl_syn.specs.declared.tree.Direction.{Direction}
use Rattle.asl_syn.specs.declared.tree.Expr.{Expr}
use Rattle.asl_syn.specs.declared.tree.Ident.{Ident}
use Rattle.asl_rules.specs.declared.effect.Effect.{Effect}
use Rattle.asl_rules.specs.Faults.{◌>>=◌, ◌>>◌}
use Rattle.asl_rules.specs.Tests.{Tests}
use Rattle.asl_rules.specs.types.Types.{Ty}
use Rattle.asl_rules.specs.runs.Trees as tree
use Rattle.asl_rules.specs.runs.Trees.{Act}
use Rattle.asl_rules.specs.declarations.Scopes.{Body, Entry, handling}
use Rattle.asl_rules.specs.expressions.Typing.{Operand}
use Rattle.asl_rules.specs.statements.Acting.{Done, FoundStmt, FoundOtherwise, Listed, LastListed, listed, ended, operand_of}
use Rattle.asl_rules.specs.statements.Branches.{FoundBranch, FoundAlternative, FoundCatcher, limit_typed, for_ended, while_ended, repeat_ended, with_caught}
use Rattle.asl_types.specs.private.Answers.{Met}
use Rattle.asl_blocks.specs.private.Walks.{after, shut, last_shut, Gathered, branch_step, first_branch, if_ended, if_walk, alternative_step, nothing_gathered, case_ended, case_walk, Bounds, bounds_typed, index_declared, counted_shut, for_walk, while_walk, repeat_walk, caught_shut, catcher_step, caught, try_walk}
use Rattle.asl_blocks.proofs.Turns.{met_then}

abbrev seen : {A B : Type 0} → (A → B) → Result B Fault → Result A Refused → Type 0
seen v r x = Met v x r

-- a fault at a part is that of the whole
pub stop : {A B C D : Type 0} (v : A → B) (w : C → D) (e : Refused) (old : Result A Refused) (new : Result C Refused) (r : Result B Fault) (s : Result D Fault) (k : B → Result D Fault) →
    old ≡ Err e → new ≡ Err e → s ≡ (r >>= k) → Met v old r → Met w new s
stop v w e old new r s k xe qe is h = subst (seen w s) (sym qe) (met_then v w e r s k is (subst (seen v r) xe h))

-- ---- the end of a statement behind conditions that hold

pub ended_after : {A : Type 0} (w : A → Done) (r : Result A Refused) (c : Result (Unit {0}) Fault) (x : Unit {0}) (E F : Result Done Fault) → c ≡ Ok x → E ≡ F → Met w r E → Met w r (c >> F)
ended_after w r c x E F held e h = subst (Met w r) (λ i. sym held i >> e i) h

-- ---- `if`

if_begun : (t : Tests) (span : Span) (x : Expr) (first : List FoundStmt) (others : List FoundBranch) (last : List FoundStmt) (B : Body) (o : Operand) (f : Listed) →
    operand_of t x B.scope ≡ Ok o → shut first B ≡ Ok f →
    if_walk t span x first others last B ≡ (after (branch_step t B) others (first_branch o f) >>= λ bs. shut last B >>= λ l. if_ended span o f bs l B)
if_begun t span x first others last B o f p q =
    ap (λ r. r >>= λ o. shut first B >>= λ f. after (branch_step t B) others (first_branch o f) >>= λ bs. shut last B >>= λ l. if_ended span o f bs l B) p
    ∙ ap (λ r. r >>= λ f. after (branch_step t B) others (first_branch o f) >>= λ bs. shut last B >>= λ l. if_ended span o f bs l B) q

pub if_others_stop : {A C : Type 0} (v : A → Gathered tree.Branches) (w : C → Done) (e : Refused) (old : Result A Refused) (new : Result C Refused) (t : Tests) (span : Span) (x : Expr) (first : List FoundStmt) (others : List FoundBranch) (last : List FoundStmt) (B D : Body) (o : Operand) (f : Listed) (g : Gathered tree.Branches) → old ≡ Err e → new ≡ Err e →
    operand_of t x B.scope ≡ Ok o → shut first B ≡ Ok f → D ≡ B → g ≡ first_branch o f → Met v old (after (branch_step t D) others g) → Met w new (if_walk t span x first others last B)
if_others_stop v w e old new t span x first others last B D o f g xe qe p q same begun h =
    stop v w e old new (after (branch_step t B) others (first_branch o f)) _ (λ bs. shut last B >>= λ l. if_ended span o f bs l B) xe qe (if_begun t span x first others last B o f p q)
    (subst (Met v old) (λ i. after (branch_step t (same i)) others (begun i)) h)

if_parted : (t : Tests) (span : Span) (x : Expr) (first : List FoundStmt) (others : List FoundBranch) (last : List FoundStmt) (B D : Body) (o : Operand) (f : Listed) (g bs : Gathered tree.Branches) →
    operand_of t x B.scope ≡ Ok o → shut first B ≡ Ok f → D ≡ B → g ≡ first_branch o f → after (branch_step t D) others g ≡ Ok bs →
    if_walk t span x first others last B ≡ (shut last B >>= λ l. if_ended span o f bs l B)
if_parted t span x first others last B D o f g bs p q same begun h =
    if_begun t span x first others last B o f p q
    ∙ ap (λ r. r >>= λ bs. shut last B >>= λ l. if_ended span o f bs l B) (sym (λ i. after (branch_step t (same i)) others (begun i)) ∙ h)

pub if_last_stop : {A C : Type 0} (v : A → Listed) (w : C → Done) (e : Refused) (old : Result A Refused) (new : Result C Refused) (t : Tests) (span : Span) (x : Expr) (first : List FoundStmt) (others : List FoundBranch) (last : List FoundStmt) (B D F : Body) (o : Operand) (f : Listed) (g bs : Gathered tree.Branches) → old ≡ Err e → new ≡ Err e →
    operand_of t x B.scope ≡ Ok o → shut first B ≡ Ok f → D ≡ B → g ≡ first_branch o f → after (branch_step t D) others g ≡ Ok bs →
    F ≡ B → Met v old (shut last F) → Met w new (if_walk t span x first others last B)
if_last_stop v w e old new t span x first others last B D F o f g bs xe qe p q same begun found again h =
    stop v w e old new (shut last B) _ (λ l. if_ended span o f bs l B) xe qe (if_parted t span x first others last B D o f g bs p q same begun found)
    (subst (λ (y : Body). Met v old (shut last y)) again h)

pub if_all : {C : Type 0} (w : C → Done) (r : Result C Refused) (t : Tests) (span : Span) (x : Expr) (first : List FoundStmt) (others : List FoundBranch) (last : List FoundStmt) (B D F G : Body) (o : Operand) (f f1 l l1 : Listed) (g bs : Gathered tree.Branches) →
    operand_of t x B.scope ≡ Ok o → shut first B ≡ Ok f → D ≡ B → g ≡ first_branch o f → after (branch_step t D) others g ≡ Ok bs → F ≡ B → shut last F ≡ Ok l →
    G ≡ B → f1 ≡ f → l1 ≡ l → Met w r (if_ended span o f1 bs l1 G) → Met w r (if_walk t span x first others last B)
if_all w r t span x first others last B D F G o f f1 l l1 g bs p q same begun found again end third e1 e2 h =
    subst (Met w r)
    (sym (if_parted t span x first others last B D o f g bs p q same begun found
    ∙ ap (λ r. r >>= λ l. if_ended span o f bs l B) (ap (λ (y : Body). shut last y) (sym again) ∙ end)
    ∙ λ i. if_ended span o (sym e1 i) bs (sym e2 i) (sym third i)))
    h

-- ---- `case`

case_begun : (t : Tests) (span : Span) (x : Expr) (first : List FoundAlternative) (last : FoundOtherwise) (B : Body) (o : Operand) (xs : Gathered tree.Alternatives) →
    operand_of t x B.scope ≡ Ok o → after (alternative_step t o.typed.ty B) first nothing_gathered ≡ Ok xs →
    case_walk t span x first last B ≡ (last_shut last B >>= λ l. case_ended span o.typed xs l B)
case_begun t span x first last B o xs p q =
    ap (λ r. r >>= λ o. after (alternative_step t o.typed.ty B) first nothing_gathered >>= λ xs. last_shut last B >>= λ l. case_ended span o.typed xs l B) p
    ∙ ap (λ r. r >>= λ xs. last_shut last B >>= λ l. case_ended span o.typed xs l B) q

pub case_last_stop : {A C : Type 0} (v : A → LastListed) (w : C → Done) (e : Refused) (old : Result A Refused) (new : Result C Refused) (t : Tests) (span : Span) (x : Expr) (first : List FoundAlternative) (last : FoundOtherwise) (B D : Body) (o : Operand) (xs : Gathered tree.Alternatives) → old ≡ Err e → new ≡ Err e →
    operand_of t x B.scope ≡ Ok o → after (alternative_step t o.typed.ty B) first nothing_gathered ≡ Ok xs → D ≡ B → Met v old (last_shut last D) → Met w new (case_walk t span x first last B)
case_last_stop v w e old new t span x first last B D o xs xe qe p q same h =
    stop v w e old new (last_shut last B) _ (λ l. case_ended span o.typed xs l B) xe qe (case_begun t span x first last B o xs p q) (subst (λ (y : Body). Met v old (last_shut last y)) same h)

pub case_all : {C : Type 0} (w : C → Done) (r : Result C Refused) (t : Tests) (span : Span) (x : Expr) (first : List FoundAlternative) (last : FoundOtherwise) (B D F : Body) (o : Operand) (xs : Gathered tree.Alternatives) (l : LastListed) →
    operand_of t x B.scope ≡ Ok o → after (alternative_step t o.typed.ty B) first nothing_gathered ≡ Ok xs → D ≡ B → last_shut last D ≡ Ok l → F ≡ B →
    Met w r (case_ended span o.typed xs l F) → Met w r (case_walk t span x first last B)
case_all w r t span x first last B D F o xs l p q same end again h =
    subst (Met w r)
    (sym (case_begun t span x first last B o xs p q
    ∙ ap (λ r. r >>= λ l. case_ended span o.typed xs l B) (ap (λ (y : Body). last_shut last y) (sym same) ∙ end)
    ∙ ap (λ (y : Body). case_ended span o.typed xs l y) (sym again)))
    h

-- ---- loops

pub for_all : {C : Type 0} (w : C → Done) (r : Result C Refused) (t : Tests) (span : Span) (i : Ident) (a : Expr) (d : Direction) (b : Expr) (limit : Option Expr) (ss : List FoundStmt) (B F : Body) (x : Bounds) (l l1 : Listed) →
    bounds_typed t a b limit B.scope ≡ Ok x → counted_shut t i d a b x ss B ≡ Ok l → F ≡ B → l1 ≡ l →
    Met w r (for_ended span x.from.typed d x.to.typed x.limit l1 F) → Met w r (for_walk t span i a d b limit ss B)
for_all w r t span i a d b limit ss B F x l l1 p q same e h =
    subst (Met w r)
    (sym (ap (λ r. r >>= λ x. counted_shut t i d a b x ss B >>= λ body. for_ended span x.from.typed d x.to.typed x.limit body B) p
    ∙ ap (λ r. r >>= λ body. for_ended span x.from.typed d x.to.typed x.limit body B) q
    ∙ λ j. for_ended span x.from.typed d x.to.typed x.limit (sym e j) (sym same j)))
    h

pub while_all : {C : Type 0} (w : C → Done) (r : Result C Refused) (t : Tests) (span : Span) (c : Expr) (limit : Option Expr) (ss : List FoundStmt) (B F : Body) (o : Operand) (n : Option Operand) (l l1 : Listed) →
    operand_of t c B.scope ≡ Ok o → limit_typed t limit B.scope ≡ Ok n → shut ss B ≡ Ok l → F ≡ B → l1 ≡ l →
    Met w r (while_ended span o n l1 F) → Met w r (while_walk t span c limit ss B)
while_all w r t span c limit ss B F o n l l1 p q found same e h =
    subst (Met w r)
    (sym (ap (λ r. r >>= λ C. limit_typed t limit B.scope >>= λ l. shut ss B >>= λ body. while_ended span C l body B) p
    ∙ ap (λ r. r >>= λ l. shut ss B >>= λ body. while_ended span o l body B) q
    ∙ ap (λ r. r >>= λ body. while_ended span o n body B) found
    ∙ λ j. while_ended span o n (sym e j) (sym same j)))
    h

repeat_begun : (t : Tests) (span : Span) (ss : List FoundStmt) (c : Expr) (limit : Option Expr) (B : Body) (l : Listed) → shut ss B ≡ Ok l →
    repeat_walk t span ss c limit B ≡ (operand_of t c B.scope >>= λ C. limit_typed t limit B.scope >>= λ n. repeat_ended span l C n B)
repeat_begun t span ss c limit B l p = ap (λ r. r >>= λ body. operand_of t c B.scope >>= λ C. limit_typed t limit B.scope >>= λ l. repeat_ended span body C l B) p

pub repeat_condition_stop : {A C : Type 0} (v : A → Operand) (w : C → Done) (e : Refused) (old : Result A Refused) (new : Result C Refused) (t : Tests) (span : Span) (ss : List FoundStmt) (c : Expr) (limit : Option Expr) (B D : Body) (l : Listed) → old ≡ Err e → new ≡ Err e →
    shut ss B ≡ Ok l → D ≡ B → Met v old (operand_of t c D.scope) → Met w new (repeat_walk t span ss c limit B)
repeat_condition_stop v w e old new t span ss c limit B D l xe qe p same h =
    stop v w e old new (operand_of t c B.scope) _ (λ C. limit_typed t limit B.scope >>= λ n. repeat_ended span l C n B) xe qe (repeat_begun t span ss c limit B l p) (subst (λ (y : Body). Met v old (operand_of t c y.scope)) same h)

repeat_parted : (t : Tests) (span : Span) (ss : List FoundStmt) (c : Expr) (limit : Option Expr) (B D : Body) (l : Listed) (o : Operand) → shut ss B ≡ Ok l → D ≡ B → operand_of t c D.scope ≡ Ok o →
    repeat_walk t span ss c limit B ≡ (limit_typed t limit B.scope >>= λ n. repeat_ended span l o n B)
repeat_parted t span ss c limit B D l o p same q =
    repeat_begun t span ss c limit B l p ∙ ap (λ r. r >>= λ C. limit_typed t limit B.scope >>= λ n. repeat_ended span l C n B) (ap (λ (y : Body). operand_of t c y.scope) (sym same) ∙ q)

pub repeat_limit_stop : {A C : Type 0} (v : A → Option Operand) (w : C → Done) (e : Refused) (old : Result A Refused) (new : Result C Refused) (t : Tests) (span : Span) (ss : List FoundStmt) (c : Expr) (limit : Option Expr) (B D : Body) (l : Listed) (o : Operand) → old ≡ Err e → new ≡ Err e →
    shut ss B ≡ Ok l → D ≡ B → operand_of t c D.scope ≡ Ok o → Met v old (limit_typed t limit D.scope) → Met w new (repeat_walk t span ss c limit B)
repeat_limit_stop v w e old new t span ss c limit B D l o xe qe p same q h =
    stop v w e old new (limit_typed t limit B.scope) _ (λ n. repeat_ended span l o n B) xe qe (repeat_parted t span ss c limit B D l o p same q) (subst (λ (y : Body). Met v old (limit_typed t limit y.scope)) same h)

pub repeat_all : {C : Type 0} (w : C → Done) (r : Result C Refused) (t : Tests) (span : Span) (ss : List FoundStmt) (c : Expr) (limit : Option Expr) (B D : Body) (l l1 : Listed) (o : Operand) (n : Option Operand) →
    shut ss B ≡ Ok l → D ≡ B → operand_of t c D.scope ≡ Ok o → limit_typed t limit D.scope ≡ Ok n → l1 ≡ l → Met w r (repeat_ended span l1 o n D) → Met w r (repeat_walk t span ss c limit B)
repeat_all w r t span ss c limit B D l l1 o n p same q m e h =
    subst (Met w r)
    (sym (repeat_parted t span ss c limit B D l o p same q
    ∙ ap (λ r. r >>= λ n. repeat_ended span l o n B) (ap (λ (y : Body). limit_typed t limit y.scope) (sym same) ∙ m)
    ∙ λ j. repeat_ended span (sym e j) o n (sym same j)))
    h

-- ---- `try`

try_begun : (span : Span) (ss : List FoundStmt) (cs : List FoundCatcher) (last : FoundOtherwise) (B : Body) (b : Listed) → shut ss B ≡ Ok b →
    try_walk span ss cs last B ≡ (after (catcher_step B) cs nothing_gathered >>= λ xs. last_shut last (handling B) >>= λ l. caught span b xs l B)
try_begun span ss cs last B b p = ap (λ r. r >>= λ body. after (catcher_step B) cs nothing_gathered >>= λ xs. last_shut last (handling B) >>= λ l. caught span body xs l B) p

pub try_catchers_stop : {A C : Type 0} (v : A → Gathered tree.Catchers) (w : C → Done) (e : Refused) (old : Result A Refused) (new : Result C Refused) (span : Span) (ss : List FoundStmt) (cs : List FoundCatcher) (last : FoundOtherwise) (B D : Body) (b : Listed) → old ≡ Err e → new ≡ Err e →
    shut ss B ≡ Ok b → D ≡ B → Met v old (after (catcher_step D) cs nothing_gathered) → Met w new (try_walk span ss cs last B)
try_catchers_stop v w e old new span ss cs last B D b xe qe p same h =
    stop v w e old new (after (catcher_step B) cs nothing_gathered) _ (λ xs. last_shut last (handling B) >>= λ l. caught span b xs l B) xe qe (try_begun span ss cs last B b p)
    (subst (λ (y : Body). Met v old (after (catcher_step y) cs nothing_gathered)) same h)

try_parted : (span : Span) (ss : List FoundStmt) (cs : List FoundCatcher) (last : FoundOtherwise) (B D : Body) (b : Listed) (xs : Gathered tree.Catchers) → shut ss B ≡ Ok b → D ≡ B → after (catcher_step D) cs nothing_gathered ≡ Ok xs →
    try_walk span ss cs last B ≡ (last_shut last (handling B) >>= λ l. caught span b xs l B)
try_parted span ss cs last B D b xs p same q =
    try_begun span ss cs last B b p ∙ ap (λ r. r >>= λ xs. last_shut last (handling B) >>= λ l. caught span b xs l B) (ap (λ (y : Body). after (catcher_step y) cs nothing_gathered) (sym same) ∙ q)

pub try_last_stop : {A C : Type 0} (v : A → LastListed) (w : C → Done) (e : Refused) (old : Result A Refused) (new : Result C Refused) (span : Span) (ss : List FoundStmt) (cs : List FoundCatcher) (last : FoundOtherwise) (B D F : Body) (b : Listed) (xs : Gathered tree.Catchers) → old ≡ Err e → new ≡ Err e →
    shut ss B ≡ Ok b → D ≡ B → after (catcher_step D) cs nothing_gathered ≡ Ok xs → F ≡ handling B → Met v old (last_shut last F) → Met w new (try_walk span ss cs last B)
try_last_stop v w e old new span ss cs last B D F b xs xe qe p same q inner h =
    stop v w e old new (last_shut last (handling B)) _ (λ l. caught span b xs l B) xe qe (try_parted span ss cs last B D b xs p same q) (subst (λ (y : Body). Met v old (last_shut last y)) inner h)

pub try_all : {C : Type 0} (w : C → Done) (r : Result C Refused) (span : Span) (ss : List FoundStmt) (cs : List FoundCatcher) (last : FoundOtherwise) (B D F G : Body) (b b1 : Listed) (xs : Gathered tree.Catchers) (l : LastListed) →
    shut ss B ≡ Ok b → D ≡ B → after (catcher_step D) cs nothing_gathered ≡ Ok xs → F ≡ handling B → last_shut last F ≡ Ok l → G ≡ B → b1 ≡ b →
    Met w r (caught span b1 xs l G) → Met w r (try_walk span ss cs last B)
try_all w r span ss cs last B D F G b b1 xs l p same q inner end again e h =
    subst (Met w r)
    (sym (try_parted span ss cs last B D b xs p same q
    ∙ ap (λ r. r >>= λ l. caught span b xs l B) (ap (λ (y : Body). last_shut last y) (sym inner) ∙ end)
    ∙ λ j. caught span (sym e j) xs l (sym again j)))
    h

-- ---- lists that see a name

pub caught_all : (i : Option Ident) (T : Ty) (ss : List FoundStmt) (B C D : Body) (l : Listed) → with_caught i T B ≡ Ok C → D ≡ handling C → shut ss D ≡ Ok l → caught_shut i T ss B ≡ Ok (listed B.scope.names l.effect l.acts)
caught_all i T ss B C D l p inner q =
    ap (λ r. r >>= λ C. shut ss (handling C) >>= λ l. Ok (listed B.scope.names l.effect l.acts)) p
    ∙ ap (λ r. r >>= λ l. Ok (listed B.scope.names l.effect l.acts)) (ap (λ (y : Body). shut ss y) (sym inner) ∙ q)

pub caught_stop : {A C : Type 0} (v : A → Listed) (w : C → Listed) (e : Refused) (old : Result A Refused) (new : Result C Refused) (i : Option Ident) (T : Ty) (ss : List FoundStmt) (B E D : Body) → old ≡ Err e → new ≡ Err e → with_caught i T B ≡ Ok E → D ≡ handling E → Met v old (shut ss D) → Met w new (caught_shut i T ss B)
caught_stop v w e old new i T ss B E D xe qe p inner h =
    stop v w e old new (shut ss (handling E)) _ (λ l. Ok (listed B.scope.names l.effect l.acts)) xe qe
    (ap (λ r. r >>= λ C. shut ss (handling C) >>= λ l. Ok (listed B.scope.names l.effect l.acts)) p)
    (subst (λ (y : Body). Met v old (shut ss y)) inner h)
