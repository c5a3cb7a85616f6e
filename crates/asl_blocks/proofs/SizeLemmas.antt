-- What stands in a list has no more statements than the list.
use Rattle.std.proofs.Common.{◌≡◌, ℕ, suc, zero, ◌+◌, ◌<◌, ◌≤◌, List, [], ◌∷◌, map, length, get_or, arith, ap}
use Rattle.asl_syn.specs.declared.tree.Alternative.{Alternative}
use Rattle.asl_syn.specs.declared.tree.Catcher.{Catcher}
use Rattle.asl_syn.specs.declared.tree.ElseIf.{ElseIf}
use Rattle.asl_syn.specs.declared.tree.Stmt.{Stmt}
use Rattle.asl_blocks.specs.private.Sizes.{total, stmt_size, branch_size, alternative_size, catcher_size, stmts_size, branches_size, alternatives_size, catchers_size}

one_of : {A : Type 0} (f : A → ℕ) (xs : List A) (i : ℕ) (x : A) → i < length xs → f (get_or xs i x) ≤ total (map f xs)
one_of f [] i x h = omega arith
one_of f (y ∷ ys) zero x h = omega arith
one_of f (y ∷ ys) (suc i) x h = let k : i < length ys = omega arith in let e : f (get_or ys i x) ≤ total (map f ys) = one_of f ys i x k in omega arith

at_most_all : {A : Type 0} (f : A → ℕ) (xs : List A) (i : ℕ) (x : A) → i < length xs → x ≡ get_or xs i x → f x ≤ total (map f xs)
at_most_all f xs i x h is =
    let e : f (get_or xs i x) ≤ total (map f xs) = one_of f xs i x h in
    let same : f x ≡ f (get_or xs i x) = ap f is in
    omega arith

pub stmt_inside : (ss : List Stmt) (i : ℕ) (s : Stmt) → i < length ss → s ≡ get_or ss i s → stmt_size s ≤ stmts_size ss
stmt_inside ss i s h is = at_most_all stmt_size ss i s h is

pub branch_inside : (bs : List ElseIf) (i : ℕ) (b : ElseIf) (n : ℕ) → i < length bs → b ≡ get_or bs i b → branches_size bs < n → branch_size b < n
branch_inside bs i b n h is below = let e : branch_size b ≤ branches_size bs = at_most_all branch_size bs i b h is in omega arith

pub alternative_inside : (xs : List Alternative) (i : ℕ) (x : Alternative) (n : ℕ) → i < length xs → x ≡ get_or xs i x → alternatives_size xs < n → alternative_size x < n
alternative_inside xs i x n h is below = let e : alternative_size x ≤ alternatives_size xs = at_most_all alternative_size xs i x h is in omega arith

pub catcher_inside : (cs : List Catcher) (i : ℕ) (c : Catcher) (n : ℕ) → i < length cs → c ≡ get_or cs i c → catchers_size cs < n → catcher_size c < n
catcher_inside cs i c n h is below = let e : catcher_size c ≤ catchers_size cs = at_most_all catcher_size cs i c h is in omega arith
