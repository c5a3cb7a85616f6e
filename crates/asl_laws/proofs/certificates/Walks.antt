-- The lines of statements with each list gone through once are the lines of statements.
use Rattle.std.proofs.Common.{◌≡◌, List, [], ◌∷◌, ◌++◌, map, Option, Some, None, Result, Ok, Err, refl, sym, ap, ◌∙◌, subst, append_assoc}
use Rattle.asl_syn.specs.declared.code.Fault.{Fault}
use Rattle.asl_syn.specs.declared.tree.Ident.{Ident}
use Rattle.asl_syn.specs.declared.tree.Alternative.{Alternative, roll-Alternative}
use Rattle.asl_syn.specs.declared.tree.Catcher.{Catcher, roll-Catcher}
use Rattle.asl_syn.specs.declared.tree.ElseIf.{ElseIf, roll-ElseIf}
use Rattle.asl_syn.specs.declared.tree.Otherwise.{Otherwise, roll-Otherwise}
use Rattle.asl_syn.specs.declared.tree.Stmt.{Stmt, roll-Stmt}
use Rattle.asl_syn.specs.declared.tree.Alternative.TheOpen as st
use Rattle.asl_syn.specs.declared.tree.Alternative.TheFolds.{fold-Alternative, fold-Catcher, fold-ElseIf, fold-Otherwise}
use Rattle.asl_syn.specs.declared.tree.Alternative.TheFolds.{fold-roll-Alternative, fold-roll-Catcher, fold-roll-ElseIf}
use Rattle.asl_syn.specs.declared.tree.Alternative.TheFolds.{fold-roll-Otherwise, fold-roll-Stmt, para-Alternative, para-Catcher}
use Rattle.asl_syn.specs.declared.tree.Alternative.TheFolds.{para-ElseIf, para-Otherwise, para-roll-Alternative, para-roll-Catcher}
use Rattle.asl_syn.specs.declared.tree.Alternative.TheFolds.{para-roll-ElseIf, para-roll-Otherwise, para-roll-Stmt, map-Alternative}
use Rattle.asl_syn.specs.declared.tree.Alternative.TheFolds.{map-Catcher, map-ElseIf, map-Otherwise, map-Stmt, ind-Stmt}
use Rattle.asl_syn.specs.declared.code.StaticCode.TheVariants.{T02, T21}
use Rattle.asl_rules.specs.declared.effect.Effect.{Effect}
use Rattle.asl_rules.specs.declared.effect.Effect.TheVariants.{Pure}
use Rattle.asl_rules.specs.Faults.{◌>>=◌, ◌>>◌, need, found_or}
use Rattle.asl_rules.specs.Tests.{Tests}
use Rattle.asl_rules.specs.types.Types.{Ty}
use Rattle.asl_rules.specs.types.Effects.{greater}
use Rattle.std.specs.Prelude.{not}
use Rattle.asl_rules.specs.declarations.Scopes.{is_absent, Body, body_names, handling, type_of_name}
use Rattle.asl_rules.specs.statements.Acting.{Done, FoundStmt, FoundOtherwise, act_first, in_order, block, last_block, operand_of}
use Rattle.asl_rules.specs.statements.Acting.{reading_scope}
use Rattle.asl_rules.specs.runs.Trees.{otherwise}
use Rattle.asl_rules.specs.statements.Branches.{FoundBranch, FoundAlternative, FoundCatcher, branch_rule, branches, all_patterns}
use Rattle.asl_rules.specs.statements.Branches.{where_rule, alternative_rule, alternatives, branching, choosing, while_ended, repeat_ended}
use Rattle.asl_rules.specs.statements.Branches.{for_ended, try_ended, limit_typed, index_rule, index_type, with_index, is_exception}
use Rattle.asl_rules.specs.statements.Branches.{with_caught, catcher_rule, catchers}
use Rattle.asl_rules.specs.statements.Stmts.{stmt_layer_rule, alternative_found, catcher_found, branch_found, otherwise_found, found_stmt}
use Rattle.asl_rules.proofs.basics.Inversions.{bind_ok, then_ok, ok_ok}
use Rattle.asl_laws.specs.certificates.Texts.{Place, of_stmt, Line}
use Rattle.asl_laws.specs.certificates.Lines.{Lined, Failure, lined, gives, after, ◌into◌, ◌and◌, of_done, joined, expr_sites, maybe_sites}
use Rattle.asl_laws.specs.certificates.Lines.{all_sites, patterns_sites, target_sites, item_sites, site_lines, Places, all_places}
use Rattle.asl_laws.specs.certificates.Lines.{stmt_places, first_of, Inside, StmtIn, list_places, stmt_node, stmt_lines, list_lines}
use Rattle.asl_laws.specs.certificates.Lines.{unless_fault, sites_at, limit_lines, all_inside, index_found, caught_in, Catching}
use Rattle.asl_laws.specs.certificates.Lines.{all_catching, InsideLast, stmt_inside, alternative_inside, catcher_inside, branch_inside}
use Rattle.asl_laws.specs.certificates.Lines.{otherwise_inside, inside_stmt, with_inside}
use Rattle.asl_laws.proofs.certificates.Lines.{ok_is, err_isnt}
use Rattle.asl_laws.specs.certificates.Walks as walk
use Rattle.asl_laws.specs.certificates.Walks.{known_as, InsideWalk, Walked, own_line, stmt_walk, list_walk, walked_places, all_walk}
use Rattle.asl_laws.specs.certificates.Walks.{catching_walk, AlternativeWalk, BranchWalk, LastWalk, stmt_walk_layer, alternative_walk_layer}
use Rattle.asl_laws.specs.certificates.Walks.{catcher_walk_layer, branch_walk_layer, otherwise_walk_layer, inside_walk, with_walk}
use Rattle.asl_laws.proofs.certificates.Statements.{into_ok}

-- ---- lines one behind another

append_none : {A : Type 0} (xs : List A) → xs ++ [] ≡ xs
append_none [] = refl
append_none (x ∷ xs) = ap (λ z. x ∷ z) (append_none xs)

after_gives : {A : Type 0} (ls : List Line) (o : Result A Failure) → after ls o (λ x. gives x) ≡ lined ls o
after_gives ls (Ok x) = ap (λ z. lined z (Ok x)) (append_none ls)
after_gives ls (Err f) = refl

pub into_gives : {A : Type 0} (l : Lined A) → (l into (λ x. gives x)) ≡ l
into_gives l = after_gives l.lines l.outcome

after_append : {A B : Type 0} (ls ms : List Line) (o : Result A Failure) (g : A → Lined B) →
    after (ls ++ ms) o g ≡ lined (ls ++ (after ms o g).lines) (after ms o g).outcome
after_append ls ms (Ok x) g = ap (λ z. lined z (g x).outcome) (append_assoc ls ms (g x).lines)
after_append ls ms (Err f) g = refl

after_after : {A B C : Type 0} (ls : List Line) (o : Result A Failure) (f : A → Lined B) (g : B → Lined C) →
    after (after ls o f).lines (after ls o f).outcome g ≡ after ls o (λ x. f x into g)
after_after ls (Ok x) f g = after_append ls (f x).lines (f x).outcome g
after_after ls (Err e) f g = refl

pub into_into : {A B C : Type 0} (l : Lined A) (f : A → Lined B) (g : B → Lined C) → ((l into f) into g) ≡ (l into (λ x. f x into g))
into_into l f g = after_after l.lines l.outcome f g

after_same : {A B : Type 0} (ls : List Line) (o : Result A Failure) (f g : A → Lined B) → ((x : A) → o ≡ Ok x → f x ≡ g x) →
    after ls o f ≡ after ls o g
after_same ls (Ok x) f g h = ap (λ z. after ls (Ok x) (λ _. z)) (h x refl)
after_same ls (Err e) f g h = refl

pub into_same : {A B : Type 0} (l : Lined A) (f g : A → Lined B) → ((x : A) → l.outcome ≡ Ok x → f x ≡ g x) → (l into f) ≡ (l into g)
into_same l f g h = after_same l.lines l.outcome f g h

-- ---- lines with what they give, beside lines that give nothing

abbrev nothing : {A : Type 0} → A → Lined (Unit {0})
nothing x = gives tt

record Good {A : Type 0} (w : Lined A) (l : Lined (Unit {0})) (Same : A → Type 0) : Type 0 where
  forget : (w into (λ x. nothing x)) ≡ l
  same : (x : A) → w.outcome ≡ Ok x → Same x

good_gives : {A : Type 0} (Same : A → Type 0) (x : A) → Same x → Good (gives x) (gives tt) Same
good_gives Same x s = record { forget = refl; same = λ y h. subst Same (ok_is x y h) s }

-- whatever is done behind what is given
behind_good : {A B : Type 0} (w : Lined A) (l : Lined (Unit {0})) (Same : A → Type 0) (g : A → Lined B) (h : Lined B) → Good w l Same →
    ((x : A) → Same x → g x ≡ h) → (w into g) ≡ (l and h)
behind_good w l Same g h p k =
    into_same w g (λ x. h) (λ x e. k x (p.same x e)) ∙ (sym (into_into w (λ x. nothing x) (λ _. h)) ∙ ap (λ z. z into (λ _. h)) p.forget)

good_then : {A C : Type 0} (w : Lined A) (l m : Lined (Unit {0})) (Same : A → Type 0) (Then : C → Type 0) (g : A → Lined C) →
    Good w l Same → ((x : A) → Same x → Good (g x) m Then) → Good (w into g) (l and m) Then
good_then w l m Same Then g p k = record {
  forget = into_into w g (λ x. nothing x) ∙ behind_good w l Same (λ x. g x into (λ x. nothing x)) m p (λ x s. (k x s).forget);
  same = λ y h. let a = into_ok w g y h in (k a.value (p.same a.value a.first)).same y a.then;
}

good_last : {A C : Type 0} (w : Lined A) (l : Lined (Unit {0})) (Same : A → Type 0) (Then : C → Type 0) (f : A → C) → Good w l Same →
    ((x : A) → Same x → Then (f x)) → Good (w into (λ x. gives (f x))) l Then
good_last w l Same Then f p k = record {
  forget = into_into w (λ x. gives (f x)) (λ x. nothing x) ∙ p.forget;
  same = λ y h. let a = into_ok w (λ x. gives (f x)) y h in subst Then (ok_is (f a.value) y a.then) (k a.value (p.same a.value a.first));
}

-- behind lines that stand on both sides
good_into : {A B : Type 0} (s : Lined A) (w : A → Lined B) (l : A → Lined (Unit {0})) (Same : B → Type 0) →
    ((x : A) → s.outcome ≡ Ok x → Good (w x) (l x) Same) → Good (s into w) (s into l) Same
good_into s w l Same k = record {
  forget = into_into s w (λ x. nothing x) ∙ into_same s (λ x. w x into (λ x. nothing x)) l (λ x e. (k x e).forget);
  same = λ y h. let a = into_ok s w y h in (k a.value a.first).same y a.then;
}

good_and : {B : Type 0} (s : Lined (Unit {0})) (w : Lined B) (l : Lined (Unit {0})) (Same : B → Type 0) → Good w l Same →
    Good (s and w) (s and l) Same
good_and s w l Same p = good_into s (λ _. w) (λ _. l) Same (λ x e. p)

-- lines behind which something is given
good_after : {B : Type 0} (s : Lined (Unit {0})) (Same : B → Type 0) (x : B) → Same x → Good (s and gives x) s Same
good_after s Same x k = record {
  forget = into_into s (λ _. gives x) (λ x. nothing x) ∙ into_gives s;
  same = λ y h. let a = into_ok s (λ _. gives x) y h in subst Same (ok_is x y a.then) k;
}

module _ (t : Tests) where
  -- ---- what is found at trees, and the lines inside them

  abbrev found_alternative : Alternative → FoundAlternative
  found_alternative = fold-Alternative FoundAlternative FoundCatcher FoundBranch FoundOtherwise FoundStmt alternative_found catcher_found
      branch_found otherwise_found (stmt_layer_rule t)

  abbrev found_catcher : Catcher → FoundCatcher
  found_catcher = fold-Catcher FoundAlternative FoundCatcher FoundBranch FoundOtherwise FoundStmt alternative_found catcher_found
      branch_found otherwise_found (stmt_layer_rule t)

  abbrev found_branch : ElseIf → FoundBranch
  found_branch = fold-ElseIf FoundAlternative FoundCatcher FoundBranch FoundOtherwise FoundStmt alternative_found catcher_found branch_found
      otherwise_found (stmt_layer_rule t)

  abbrev found_otherwise : Otherwise → FoundOtherwise
  found_otherwise = fold-Otherwise FoundAlternative FoundCatcher FoundBranch FoundOtherwise FoundStmt alternative_found catcher_found
      branch_found otherwise_found (stmt_layer_rule t)

  abbrev alternative_in : Alternative → Inside
  alternative_in = para-Alternative Inside (Places × Catching) Inside InsideLast Inside (alternative_inside t) (catcher_inside t)
      (branch_inside t) (otherwise_inside t) (stmt_inside t)

  abbrev catcher_in : Catcher → Places × Catching
  catcher_in = para-Catcher Inside (Places × Catching) Inside InsideLast Inside (alternative_inside t) (catcher_inside t) (branch_inside t)
      (otherwise_inside t) (stmt_inside t)

  abbrev branch_in : ElseIf → Inside
  branch_in = para-ElseIf Inside (Places × Catching) Inside InsideLast Inside (alternative_inside t) (catcher_inside t) (branch_inside t)
      (otherwise_inside t) (stmt_inside t)

  abbrev otherwise_in : Otherwise → InsideLast
  otherwise_in = para-Otherwise Inside (Places × Catching) Inside InsideLast Inside (alternative_inside t) (catcher_inside t)
      (branch_inside t) (otherwise_inside t) (stmt_inside t)

  abbrev alternative_walk : Alternative → AlternativeWalk
  alternative_walk = para-Alternative AlternativeWalk (Places × walk.Catching) BranchWalk LastWalk InsideWalk (alternative_walk_layer t)
      (catcher_walk_layer t) (branch_walk_layer t) (otherwise_walk_layer t) (stmt_walk_layer t)

  abbrev catcher_walk : Catcher → Places × walk.Catching
  catcher_walk = para-Catcher AlternativeWalk (Places × walk.Catching) BranchWalk LastWalk InsideWalk (alternative_walk_layer t)
      (catcher_walk_layer t) (branch_walk_layer t) (otherwise_walk_layer t) (stmt_walk_layer t)

  abbrev branch_walk : ElseIf → BranchWalk
  branch_walk = para-ElseIf AlternativeWalk (Places × walk.Catching) BranchWalk LastWalk InsideWalk (alternative_walk_layer t)
      (catcher_walk_layer t) (branch_walk_layer t) (otherwise_walk_layer t) (stmt_walk_layer t)

  abbrev otherwise_walk : Otherwise → LastWalk
  otherwise_walk = para-Otherwise AlternativeWalk (Places × walk.Catching) BranchWalk LastWalk InsideWalk (alternative_walk_layer t)
      (catcher_walk_layer t) (branch_walk_layer t) (otherwise_walk_layer t) (stmt_walk_layer t)

  -- ---- what is given is as good as what was judged

  abbrev SameList : List FoundStmt → Body → List FoundStmt → Type 0
  SameList fs B zs = (k : Effect) → in_order zs k B ≡ in_order fs k B

  abbrev SameAlternative : FoundAlternative → Body → FoundAlternative → Type 0
  SameAlternative f B x = (T : Ty) → alternative_rule t x T B ≡ alternative_rule t f T B

  abbrev SameCatcher : FoundCatcher → Body → FoundCatcher → Type 0
  SameCatcher f B x = catcher_rule x B ≡ catcher_rule f B

  abbrev SameBranch : FoundBranch → Body → FoundBranch → Type 0
  SameBranch f B x = branch_rule t x.condition x.body B ≡ branch_rule t f.condition f.body B

  abbrev SameLast : FoundOtherwise → Body → FoundOtherwise → Type 0
  SameLast f B x = last_block x B ≡ last_block f B

  abbrev SameStmt : FoundStmt → Body → Result Done Fault → Type 0
  SameStmt f B r = r ≡ f B

  abbrev AlternativeGood : Alternative → Type 0
  AlternativeGood x = (B : Body) → Good (alternative_walk x B) (alternative_in x B) (SameAlternative (found_alternative x) B)

  -- a catcher has the same places in both
  record CatcherGood (x : Catcher) : Type 0 where
    places : (catcher_walk x).0 ≡ (catcher_in x).0
    good : (behind : Place) (B : Body) → Good ((catcher_walk x).1 behind B) ((catcher_in x).1 behind B) (SameCatcher (found_catcher x) B)

  abbrev ElseIfGood : ElseIf → Type 0
  ElseIfGood x = (B : Body) → Good (branch_walk x B) (branch_in x B) (SameBranch (found_branch x) B)

  record OtherwiseGood (x : Otherwise) : Type 0 where
    places : (otherwise_walk x).0 ≡ (otherwise_in x).0
    good : (B : Body) → Good ((otherwise_walk x).1 B) ((otherwise_in x).1 B) (SameLast (found_otherwise x) B)

  abbrev StmtGood : Stmt → Type 0
  StmtGood x = (B : Body) → Good (inside_walk t x B) (inside_stmt t x B) (SameStmt (found_stmt t x) B)

  abbrev AA : Type 0
  AA = (x : Alternative) × AlternativeGood x

  abbrev CC : Type 0
  CC = (x : Catcher) × CatcherGood x

  abbrev BB : Type 0
  BB = (x : ElseIf) × ElseIfGood x

  abbrev OO : Type 0
  OO = (x : Otherwise) × OtherwiseGood x

  abbrev SS : Type 0
  SS = (x : Stmt) × StmtGood x

  abbrev paired : Stmt → StmtIn
  paired s = (s, inside_stmt t s)

  abbrev walked : Stmt → Walked
  walked s = (s, inside_walk t s)

  abbrev trees : List SS → List Stmt
  trees ss = map (λ (x : SS). x.0) ss

  -- ---- lists

  own_names : (s : Stmt) (B : Body) (r : Result Done Fault) → (own_line t s B r into (λ (d : Done). gives d.names)) ≡ of_done t s B r
  own_names s B (Ok d) = refl
  own_names s B (Err f) = refl

  own_ok : (s : Stmt) (B : Body) (r : Result Done Fault) (d : Done) → (own_line t s B r).outcome ≡ Ok d → r ≡ Ok d
  own_ok s B (Ok x) d h = ap Ok (ok_is x d h)
  own_ok s B (Err f) d h = err_isnt _ d h

  stmt_names : (s : SS) (B : Body) → (stmt_walk t (walked s.0) B into (λ (d : Done). gives d.names)) ≡ stmt_lines t (paired s.0) B
  stmt_names s B =
      into_into (inside_walk t s.0 B) (λ r. own_line t s.0 B r) (λ d. gives d.names) ∙
      behind_good (inside_walk t s.0 B) (inside_stmt t s.0 B) (SameStmt (found_stmt t s.0) B)
      (λ r. own_line t s.0 B r into (λ (d : Done). gives d.names)) (stmt_node t s.0 B) (s.1 B)
      (λ r e. own_names s.0 B r ∙ ap (λ z. of_done t s.0 B z) e)

  stmt_found : (s : SS) (B : Body) (d : Done) → (stmt_walk t (walked s.0) B).outcome ≡ Ok d → found_stmt t s.0 B ≡ Ok d
  stmt_found s B d h =
      let a = into_ok (inside_walk t s.0 B) (λ r. own_line t s.0 B r) d h in
      sym ((s.1 B).same a.value a.first) ∙ own_ok s.0 B a.value d a.then

  list_good : (ss : List SS) (B : Body) → Good (list_walk t (map walked (trees ss)) B) (list_lines t (map paired (trees ss)) B)
      (SameList (map (found_stmt t) (trees ss)) B)
  list_good [] B = good_gives (SameList [] B) [] (λ k. refl)
  list_good (s ∷ ss) B =
      let w = stmt_walk t (walked s.0) B in
      let more : Done → Lined (List FoundStmt) = λ d. list_walk t (map walked (trees ss)) (body_names B d.names) in
      let put : Done → List FoundStmt → Lined (List FoundStmt) = λ d zs. gives (known_as d ∷ zs) in
      record {
        forget =
            into_into w (λ d. more d into put d) (λ x. nothing x) ∙
            (into_same w (λ d. (more d into put d) into (λ x. nothing x)) (λ d. list_lines t (map paired (trees ss)) (body_names B d.names))
            (λ d e. into_into (more d) (put d) (λ x. nothing x) ∙ (list_good ss (body_names B d.names)).forget) ∙
            (sym (into_into w (λ d. gives d.names) (λ names. list_lines t (map paired (trees ss)) (body_names B names))) ∙
            ap (λ l. l into (λ names. list_lines t (map paired (trees ss)) (body_names B names))) (stmt_names s B)));
        same = λ zs h k.
            let a = into_ok w (λ d. more d into put d) zs h in
            let b = into_ok (more a.value) (put a.value) zs a.then in
            subst (λ z. in_order z k B ≡ in_order (map (found_stmt t) (trees (s ∷ ss))) k B) (ok_is (known_as a.value ∷ b.value) zs b.then)
            (ap (λ r. r >>= λ l. Ok (act_first a.value.act l))
            ((list_good ss (body_names B a.value.names)).same b.value b.first (greater k a.value.effect)) ∙
            ap (λ r. r >>= λ d. in_order (map (found_stmt t) (trees ss)) (greater k d.effect) (body_names B d.names)
            >>= λ l. Ok (act_first d.act l)) (sym (stmt_found s B a.value a.first)));
      }

  abbrev branch_list : List BB → List ElseIf
  branch_list bs = map (λ (x : BB). x.0) bs

  branches_good : (bs : List BB) (B : Body) → Good
      (all_walk (map (λ (b : ElseIf × BranchWalk). b.1) (map (λ (b : ElseIf). (b, branch_walk b)) (branch_list bs))) B)
      (all_inside (map (λ (b : ElseIf × Inside). b.1) (map (λ (b : ElseIf). (b, branch_in b)) (branch_list bs))) B)
      (λ zs. branches t zs B ≡ branches t (map found_branch (branch_list bs)) B)
  branches_good [] B = good_gives (λ zs. branches t zs B ≡ branches t [] B) [] refl
  branches_good (b ∷ bs) B =
      good_then (branch_walk b.0 B) (branch_in b.0 B) _ (SameBranch (found_branch b.0) B)
      (λ zs. branches t zs B ≡ branches t (map found_branch (branch_list (b ∷ bs))) B)
      (λ x. all_walk (map (λ (b : ElseIf × BranchWalk). b.1) (map (λ (b : ElseIf). (b, branch_walk b)) (branch_list bs))) B
      into (λ xs. gives (x ∷ xs))) (b.1 B)
      (λ x s. good_last _ _ (λ zs. branches t zs B ≡ branches t (map found_branch (branch_list bs)) B)
      (λ zs. branches t zs B ≡ branches t (map found_branch (branch_list (b ∷ bs))) B) (λ xs. x ∷ xs) (branches_good bs B)
      (λ xs k. ap (λ r. r >>= λ y. branches t xs B >>= λ ys. Ok (y ∷ ys)) s
      ∙ ap (λ r. branch_rule t (found_branch b.0).condition (found_branch b.0).body B >>= λ y. r >>= λ ys. Ok (y ∷ ys)) k))

  abbrev alternative_list : List AA → List Alternative
  alternative_list xs = map (λ (x : AA). x.0) xs

  alternatives_good : (xs : List AA) (B : Body) →
      Good (all_walk (map (λ (b : Alternative × AlternativeWalk). b.1)
      (map (λ (b : Alternative). (b, alternative_walk b)) (alternative_list xs))) B)
      (all_inside (map (λ (b : Alternative × Inside). b.1) (map (λ (b : Alternative). (b, alternative_in b)) (alternative_list xs))) B)
      (λ zs. (T : Ty) → alternatives t zs T B ≡ alternatives t (map found_alternative (alternative_list xs)) T B)
  alternatives_good [] B = good_gives (λ zs. (T : Ty) → alternatives t zs T B ≡ alternatives t [] T B) [] (λ T. refl)
  alternatives_good (b ∷ bs) B =
      good_then (alternative_walk b.0 B) (alternative_in b.0 B) _ (SameAlternative (found_alternative b.0) B)
      (λ zs. (T : Ty) → alternatives t zs T B ≡ alternatives t (map found_alternative (alternative_list (b ∷ bs))) T B)
      (λ x. all_walk (map (λ (b : Alternative × AlternativeWalk). b.1)
      (map (λ (b : Alternative). (b, alternative_walk b)) (alternative_list bs))) B into (λ xs. gives (x ∷ xs))) (b.1 B)
      (λ x s. good_last _ _ (λ zs. (T : Ty) → alternatives t zs T B ≡ alternatives t (map found_alternative (alternative_list bs)) T B)
      (λ zs. (T : Ty) → alternatives t zs T B ≡ alternatives t (map found_alternative (alternative_list (b ∷ bs))) T B) (λ xs. x ∷ xs)
      (alternatives_good bs B)
      (λ xs k T. ap (λ r. r >>= λ y. alternatives t xs T B >>= λ ys. Ok (y ∷ ys)) (s T)
      ∙ ap (λ r. alternative_rule t (found_alternative b.0) T B >>= λ y. r >>= λ ys. Ok (y ∷ ys)) (k T)))

  abbrev catcher_list : List CC → List Catcher
  catcher_list cs = map (λ (x : CC). x.0) cs

  same_places : (cs : List CC) → all_places (map (λ (d : Catcher × (Places × walk.Catching)). d.1.0)
      (map (λ (c : Catcher). (c, catcher_walk c)) (catcher_list cs)))
      ≡ all_places (map (λ (d : Catcher × (Places × Catching)). d.1.0) (map (λ (c : Catcher). (c, catcher_in c)) (catcher_list cs)))
  same_places [] = refl
  same_places (c ∷ cs) =
      ap (λ z. z ++ all_places (map (λ (d : Catcher × (Places × walk.Catching)). d.1.0)
      (map (λ (c : Catcher). (c, catcher_walk c)) (catcher_list cs)))) c.1.places ∙ ap (λ z. (catcher_in c.0).0 ++ z) (same_places cs)

  catchers_good : (cs : List CC) (behind : Place) (B : Body) →
      Good (catching_walk (map (λ (c : Catcher). (c, catcher_walk c)) (catcher_list cs)) behind B)
      (all_catching (map (λ (c : Catcher). (c, catcher_in c)) (catcher_list cs)) behind B)
      (λ zs. catchers zs B ≡ catchers (map found_catcher (catcher_list cs)) B)
  catchers_good [] behind B = good_gives (λ zs. catchers zs B ≡ catchers [] B) [] refl
  catchers_good (c ∷ cs) behind B =
      let at = first_of (all_places
      (map (λ (d : Catcher × (Places × walk.Catching)). d.1.0) (map (λ (c : Catcher). (c, catcher_walk c)) (catcher_list cs)))) behind in
      subst (λ ps. Good (catching_walk (map (λ (c : Catcher). (c, catcher_walk c)) (catcher_list (c ∷ cs))) behind B)
      ((catcher_in c.0).1 (first_of ps behind) B and all_catching (map (λ (c : Catcher). (c, catcher_in c)) (catcher_list cs)) behind B)
      (λ zs. catchers zs B ≡ catchers (map found_catcher (catcher_list (c ∷ cs))) B)) (same_places cs)
      (good_then ((catcher_walk c.0).1 at B) ((catcher_in c.0).1 at B) _ (SameCatcher (found_catcher c.0) B)
      (λ zs. catchers zs B ≡ catchers (map found_catcher (catcher_list (c ∷ cs))) B)
      (λ x. catching_walk (map (λ (c : Catcher). (c, catcher_walk c)) (catcher_list cs)) behind B into (λ xs. gives (x ∷ xs)))
      (c.1.good at B)
      (λ x s. good_last _ _ (λ zs. catchers zs B ≡ catchers (map found_catcher (catcher_list cs)) B)
      (λ zs. catchers zs B ≡ catchers (map found_catcher (catcher_list (c ∷ cs))) B) (λ xs. x ∷ xs) (catchers_good cs behind B)
      (λ xs k. ap (λ r. r >>= λ y. catchers xs B >>= λ ys. Ok (y ∷ ys)) s
      ∙ ap (λ r. catcher_rule (found_catcher c.0) B >>= λ y. r >>= λ ys. Ok (y ∷ ys)) k)))

  list_places_same : (ss : List Stmt) → walked_places (map walked ss) ≡ list_places (map paired ss)
  list_places_same [] = refl
  list_places_same (s ∷ ss) = ap (λ z. stmt_places s ++ z) (list_places_same ss)

  -- ---- layers

  abbrev alternative_trees : st.Alternative-F AA CC BB OO SS → st.Alternative-F Alternative Catcher ElseIf Otherwise Stmt
  alternative_trees = map-Alternative AA CC BB OO SS Alternative Catcher ElseIf Otherwise Stmt (λ x. x.0) (λ x. x.0) (λ x. x.0) (λ x. x.0)
      (λ x. x.0)

  abbrev alternative_opened : st.Alternative-F Alternative Catcher ElseIf Otherwise Stmt →
      st.Alternative-F FoundAlternative FoundCatcher FoundBranch FoundOtherwise FoundStmt
  alternative_opened = map-Alternative Alternative Catcher ElseIf Otherwise Stmt FoundAlternative FoundCatcher FoundBranch FoundOtherwise
      FoundStmt found_alternative found_catcher found_branch found_otherwise (found_stmt t)

  abbrev alternative_paired : st.Alternative-F Alternative Catcher ElseIf Otherwise Stmt →
      st.Alternative-F (Alternative × Inside) (Catcher × (Places × Catching)) (ElseIf × Inside) (Otherwise × InsideLast) StmtIn
  alternative_paired = map-Alternative Alternative Catcher ElseIf Otherwise Stmt (Alternative × Inside) (Catcher × (Places × Catching))
      (ElseIf × Inside) (Otherwise × InsideLast) StmtIn (λ b. (b, alternative_in b)) (λ c. (c, catcher_in c)) (λ b. (b, branch_in b))
      (λ o. (o, otherwise_in o)) paired

  abbrev catcher_trees : st.Catcher-F AA CC BB OO SS → st.Catcher-F Alternative Catcher ElseIf Otherwise Stmt
  catcher_trees = map-Catcher AA CC BB OO SS Alternative Catcher ElseIf Otherwise Stmt (λ x. x.0) (λ x. x.0) (λ x. x.0) (λ x. x.0)
      (λ x. x.0)

  abbrev catcher_opened : st.Catcher-F Alternative Catcher ElseIf Otherwise Stmt →
      st.Catcher-F FoundAlternative FoundCatcher FoundBranch FoundOtherwise FoundStmt
  catcher_opened = map-Catcher Alternative Catcher ElseIf Otherwise Stmt FoundAlternative FoundCatcher FoundBranch FoundOtherwise FoundStmt
      found_alternative found_catcher found_branch found_otherwise (found_stmt t)

  abbrev catcher_paired : st.Catcher-F Alternative Catcher ElseIf Otherwise Stmt →
      st.Catcher-F (Alternative × Inside) (Catcher × (Places × Catching)) (ElseIf × Inside) (Otherwise × InsideLast) StmtIn
  catcher_paired = map-Catcher Alternative Catcher ElseIf Otherwise Stmt (Alternative × Inside) (Catcher × (Places × Catching))
      (ElseIf × Inside) (Otherwise × InsideLast) StmtIn (λ b. (b, alternative_in b)) (λ c. (c, catcher_in c)) (λ b. (b, branch_in b))
      (λ o. (o, otherwise_in o)) paired

  abbrev branch_trees : st.ElseIf-F AA CC BB OO SS → st.ElseIf-F Alternative Catcher ElseIf Otherwise Stmt
  branch_trees = map-ElseIf AA CC BB OO SS Alternative Catcher ElseIf Otherwise Stmt (λ x. x.0) (λ x. x.0) (λ x. x.0) (λ x. x.0) (λ x. x.0)

  abbrev branch_opened : st.ElseIf-F Alternative Catcher ElseIf Otherwise Stmt →
      st.ElseIf-F FoundAlternative FoundCatcher FoundBranch FoundOtherwise FoundStmt
  branch_opened = map-ElseIf Alternative Catcher ElseIf Otherwise Stmt FoundAlternative FoundCatcher FoundBranch FoundOtherwise FoundStmt
      found_alternative found_catcher found_branch found_otherwise (found_stmt t)

  abbrev branch_paired : st.ElseIf-F Alternative Catcher ElseIf Otherwise Stmt →
      st.ElseIf-F (Alternative × Inside) (Catcher × (Places × Catching)) (ElseIf × Inside) (Otherwise × InsideLast) StmtIn
  branch_paired = map-ElseIf Alternative Catcher ElseIf Otherwise Stmt (Alternative × Inside) (Catcher × (Places × Catching))
      (ElseIf × Inside) (Otherwise × InsideLast) StmtIn (λ b. (b, alternative_in b)) (λ c. (c, catcher_in c)) (λ b. (b, branch_in b))
      (λ o. (o, otherwise_in o)) paired

  abbrev otherwise_trees : st.Otherwise-F AA CC BB OO SS → st.Otherwise-F Alternative Catcher ElseIf Otherwise Stmt
  otherwise_trees = map-Otherwise AA CC BB OO SS Alternative Catcher ElseIf Otherwise Stmt (λ x. x.0) (λ x. x.0) (λ x. x.0) (λ x. x.0)
      (λ x. x.0)

  abbrev otherwise_opened : st.Otherwise-F Alternative Catcher ElseIf Otherwise Stmt →
      st.Otherwise-F FoundAlternative FoundCatcher FoundBranch FoundOtherwise FoundStmt
  otherwise_opened = map-Otherwise Alternative Catcher ElseIf Otherwise Stmt FoundAlternative FoundCatcher FoundBranch FoundOtherwise
      FoundStmt found_alternative found_catcher found_branch found_otherwise (found_stmt t)

  abbrev otherwise_paired : st.Otherwise-F Alternative Catcher ElseIf Otherwise Stmt →
      st.Otherwise-F (Alternative × Inside) (Catcher × (Places × Catching)) (ElseIf × Inside) (Otherwise × InsideLast) StmtIn
  otherwise_paired = map-Otherwise Alternative Catcher ElseIf Otherwise Stmt (Alternative × Inside) (Catcher × (Places × Catching))
      (ElseIf × Inside) (Otherwise × InsideLast) StmtIn (λ b. (b, alternative_in b)) (λ c. (c, catcher_in c)) (λ b. (b, branch_in b))
      (λ o. (o, otherwise_in o)) paired

  abbrev stmt_trees : st.Stmt-F AA CC BB OO SS → st.Stmt-F Alternative Catcher ElseIf Otherwise Stmt
  stmt_trees = map-Stmt AA CC BB OO SS Alternative Catcher ElseIf Otherwise Stmt (λ x. x.0) (λ x. x.0) (λ x. x.0) (λ x. x.0) (λ x. x.0)

  abbrev stmt_opened : st.Stmt-F Alternative Catcher ElseIf Otherwise Stmt →
      st.Stmt-F FoundAlternative FoundCatcher FoundBranch FoundOtherwise FoundStmt
  stmt_opened = map-Stmt Alternative Catcher ElseIf Otherwise Stmt FoundAlternative FoundCatcher FoundBranch FoundOtherwise FoundStmt
      found_alternative found_catcher found_branch found_otherwise (found_stmt t)

  abbrev stmt_paired : st.Stmt-F Alternative Catcher ElseIf Otherwise Stmt →
      st.Stmt-F (Alternative × Inside) (Catcher × (Places × Catching)) (ElseIf × Inside) (Otherwise × InsideLast) StmtIn
  stmt_paired = map-Stmt Alternative Catcher ElseIf Otherwise Stmt (Alternative × Inside) (Catcher × (Places × Catching)) (ElseIf × Inside)
      (Otherwise × InsideLast) StmtIn (λ b. (b, alternative_in b)) (λ c. (c, catcher_in c)) (λ b. (b, branch_in b))
      (λ o. (o, otherwise_in o)) paired

  abbrev alternative_walked : st.Alternative-F Alternative Catcher ElseIf Otherwise Stmt →
      st.Alternative-F (Alternative × AlternativeWalk) (Catcher × (Places × walk.Catching)) (ElseIf × BranchWalk) (Otherwise × LastWalk)
      Walked
  alternative_walked = map-Alternative Alternative Catcher ElseIf Otherwise Stmt (Alternative × AlternativeWalk)
      (Catcher × (Places × walk.Catching)) (ElseIf × BranchWalk) (Otherwise × LastWalk) Walked (λ b. (b, alternative_walk b))
      (λ c. (c, catcher_walk c)) (λ b. (b, branch_walk b)) (λ o. (o, otherwise_walk o)) walked

  abbrev catcher_walked : st.Catcher-F Alternative Catcher ElseIf Otherwise Stmt →
      st.Catcher-F (Alternative × AlternativeWalk) (Catcher × (Places × walk.Catching)) (ElseIf × BranchWalk) (Otherwise × LastWalk) Walked
  catcher_walked = map-Catcher Alternative Catcher ElseIf Otherwise Stmt (Alternative × AlternativeWalk)
      (Catcher × (Places × walk.Catching)) (ElseIf × BranchWalk) (Otherwise × LastWalk) Walked (λ b. (b, alternative_walk b))
      (λ c. (c, catcher_walk c)) (λ b. (b, branch_walk b)) (λ o. (o, otherwise_walk o)) walked

  abbrev branch_walked : st.ElseIf-F Alternative Catcher ElseIf Otherwise Stmt →
      st.ElseIf-F (Alternative × AlternativeWalk) (Catcher × (Places × walk.Catching)) (ElseIf × BranchWalk) (Otherwise × LastWalk) Walked
  branch_walked = map-ElseIf Alternative Catcher ElseIf Otherwise Stmt (Alternative × AlternativeWalk) (Catcher × (Places × walk.Catching))
      (ElseIf × BranchWalk) (Otherwise × LastWalk) Walked (λ b. (b, alternative_walk b)) (λ c. (c, catcher_walk c))
      (λ b. (b, branch_walk b)) (λ o. (o, otherwise_walk o)) walked

  abbrev otherwise_walked : st.Otherwise-F Alternative Catcher ElseIf Otherwise Stmt →
      st.Otherwise-F (Alternative × AlternativeWalk) (Catcher × (Places × walk.Catching)) (ElseIf × BranchWalk) (Otherwise × LastWalk)
      Walked
  otherwise_walked = map-Otherwise Alternative Catcher ElseIf Otherwise Stmt (Alternative × AlternativeWalk)
      (Catcher × (Places × walk.Catching)) (ElseIf × BranchWalk) (Otherwise × LastWalk) Walked (λ b. (b, alternative_walk b))
      (λ c. (c, catcher_walk c)) (λ b. (b, branch_walk b)) (λ o. (o, otherwise_walk o)) walked

  abbrev stmt_walked : st.Stmt-F Alternative Catcher ElseIf Otherwise Stmt →
      st.Stmt-F (Alternative × AlternativeWalk) (Catcher × (Places × walk.Catching)) (ElseIf × BranchWalk) (Otherwise × LastWalk) Walked
  stmt_walked = map-Stmt Alternative Catcher ElseIf Otherwise Stmt (Alternative × AlternativeWalk) (Catcher × (Places × walk.Catching))
      (ElseIf × BranchWalk) (Otherwise × LastWalk) Walked (λ b. (b, alternative_walk b)) (λ c. (c, catcher_walk c))
      (λ b. (b, branch_walk b)) (λ o. (o, otherwise_walk o)) walked

  alternative_good : (y : st.Alternative-F AA CC BB OO SS) (B : Body) →
      Good (alternative_walk_layer t (alternative_walked (alternative_trees y)) B)
      (alternative_inside t (alternative_paired (alternative_trees y)) B)
      (SameAlternative (alternative_found (alternative_opened (alternative_trees y))) B)
  alternative_good (st.When ps e ss) B =
      good_and (sites_at t (patterns_sites ps) B) _ _ _ (good_and (site_lines t (maybe_sites e) (reading_scope B.scope)) _ _ _
      (good_last _ _ (SameList (map (found_stmt t) (trees ss)) B) _ (λ zs. record { patterns = ps; condition = e; body = zs })
      (list_good ss B)
      (λ zs s T. ap (λ r. all_patterns t ps T B.scope >>= λ ms. where_rule t e B.scope >>= λ w. r
      >>= λ l. Ok (record { patterns = ms; condition = w; body = l })) (s Pure))))

  unless_ok : {A : Type 0} (r : Result A Fault) (p : Place) (x : A) → (unless_fault r p).outcome ≡ Ok x → r ≡ Ok x
  unless_ok (Ok y) p x h = ap Ok (ok_is y x h)
  unless_ok (Err f) p x h = err_isnt _ x h

  caught_known : (i : Option Ident) (ty : Ident) (B C : Body) (zs : List FoundStmt) → caught_in i ty B ≡ Ok C →
      catcher_rule (record { name = i; ty = ty; body = zs }) B
      ≡ (block zs C >>= λ l. Ok (record { has_name = not (is_absent i); ty = ty.text; body = l }))
  caught_known i ty B C zs h =
      let T = bind_ok (found_or (type_of_name ty.text B.scope.names) T02 ty.span) _ C h in
      let n = then_ok (need (is_exception T.value) T21 ty.span) _ C T.then in
      let D = bind_ok (with_caught i T.value B) _ C n.then in
      ap (λ r. r >>= λ T. need (is_exception T) T21 ty.span >> with_caught i T B >>= λ C. block zs (handling C)
      >>= λ l. Ok (record { has_name = not (is_absent i); ty = ty.text; body = l })) T.first ∙
      (ap (λ r. r >> with_caught i T.value B >>= λ C. block zs (handling C)
      >>= λ l. Ok (record { has_name = not (is_absent i); ty = ty.text; body = l })) n.first ∙
      (ap (λ r. r >>= λ C. block zs (handling C) >>= λ l. Ok (record { has_name = not (is_absent i); ty = ty.text; body = l })) D.first ∙
      ap (λ C. block zs C >>= λ l. Ok (record { has_name = not (is_absent i); ty = ty.text; body = l }))
      (ok_ok (handling D.value) C D.then)))

  catcher_good : (y : st.Catcher-F AA CC BB OO SS) (behind : Place) (B : Body) →
      Good ((catcher_walk_layer t (catcher_walked (catcher_trees y))).1 behind B)
      ((catcher_inside t (catcher_paired (catcher_trees y))).1 behind B) (SameCatcher (catcher_found (catcher_opened (catcher_trees y))) B)
  catcher_good (st.Catch i ty ss) behind B =
      let W : Body → Lined FoundCatcher = λ C. list_walk t (map walked (trees ss)) C
      into (λ zs. gives (record { name = i; ty = ty; body = zs })) in
      let L : Body → Lined (Unit {0}) = λ C. list_lines t (map paired (trees ss)) C in
      let f : FoundCatcher = record { name = i; ty = ty; body = map (found_stmt t) (trees ss) } in
      subst (λ ps. Good (unless_fault (caught_in i ty B) (first_of (walked_places (map walked (trees ss))) behind) into W)
      (unless_fault (caught_in i ty B) (first_of ps behind) into L) (SameCatcher f B)) (list_places_same (trees ss))
      (good_into (unless_fault (caught_in i ty B) (first_of (walked_places (map walked (trees ss))) behind)) W L (SameCatcher f B) (λ C h.
      good_last (list_walk t (map walked (trees ss)) C) (L C) (SameList (map (found_stmt t) (trees ss)) C) (SameCatcher f B)
      (λ zs. record { name = i; ty = ty; body = zs }) (list_good ss C)
      (λ zs s. let k = unless_ok (caught_in i ty B) _ C h in
      caught_known i ty B C zs k ∙ (ap (λ r. r >>= λ l. Ok (record { has_name = not (is_absent i); ty = ty.text; body = l })) (s Pure)
      ∙ sym (caught_known i ty B C (map (found_stmt t) (trees ss)) k)))))

  branch_good : (y : st.ElseIf-F AA CC BB OO SS) (B : Body) →
      Good (branch_walk_layer t (branch_walked (branch_trees y)) B) (branch_inside t (branch_paired (branch_trees y)) B)
      (SameBranch (branch_found (branch_opened (branch_trees y))) B)
  branch_good (st.ElseIf c ss) B =
      good_and (sites_at t (expr_sites c) B) _ _ _
      (good_last _ _ (SameList (map (found_stmt t) (trees ss)) B) _ (λ zs. record { condition = c; body = zs }) (list_good ss B)
      (λ zs s. ap (λ r. operand_of t c B.scope >>= λ o. r >>= λ l. Ok (record { condition = o; body = l })) (s Pure)))

  otherwise_good : (y : st.Otherwise-F AA CC BB OO SS) (B : Body) →
      Good ((otherwise_walk_layer t (otherwise_walked (otherwise_trees y))).1 B)
      ((otherwise_inside t (otherwise_paired (otherwise_trees y))).1 B)
      (SameLast (otherwise_found (otherwise_opened (otherwise_trees y))) B)
  otherwise_good st.NoOtherwise B = good_gives _ None refl
  otherwise_good (st.Otherwise ss) B = good_last _ _ (SameList (map (found_stmt t) (trees ss)) B) _ (λ zs. Some zs) (list_good ss B)
      (λ zs s. ap (λ r. r >>= λ l. Ok (record { effect = l.effect; last = otherwise l.acts })) (s Pure))

  stmt_good : (y : st.Stmt-F AA CC BB OO SS) (B : Body) →
      Good (stmt_walk_layer t (stmt_walked (stmt_trees y)) B) (stmt_inside t (stmt_paired (stmt_trees y)) B)
      (SameStmt (stmt_layer_rule t (stmt_opened (stmt_trees y))) B)
  stmt_good (st.Pass span) B = good_gives _ _ refl
  stmt_good (st.Unreachable span) B = good_gives _ _ refl
  stmt_good (st.Assert span e) B = good_after (site_lines t (expr_sites e) (reading_scope B.scope)) _ _ refl
  stmt_good (st.Local span kind b ty e) B = good_after (sites_at t (expr_sites e) B) _ _ refl
  stmt_good (st.LocalVars span is ty) B = good_gives _ _ refl
  stmt_good (st.Assign span target e) B = good_after (sites_at t (target_sites target ++ expr_sites e) B) _ _ refl
  stmt_good (st.Invoke span i ps es) B = good_after (sites_at t (all_sites es) B) _ _ refl
  stmt_good (st.If span c first others last) B =
      good_and (sites_at t (expr_sites c) B) _ _ _
      (good_then _ _ _ (SameList (map (found_stmt t) (trees first)) B) _ _ (list_good first B) (λ ss s.
      good_then _ _ _ (λ zs. branches t zs B ≡ branches t (map found_branch (branch_list others)) B) _ _ (branches_good others B) (λ bs q.
      good_last _ _ (SameList (map (found_stmt t) (trees last)) B) _ (λ ls. stmt_layer_rule t (st.If span c ss bs ls) B) (list_good last B)
      (λ ls k.
      ap (λ r. (operand_of t c B.scope >>= λ o. r >>= λ l. Ok (record { condition = o; body = l })) >>= λ b. branches t bs B
      >>= λ xs. block ls B >>= λ l. branching span b xs l B) (s Pure) ∙
      (ap (λ r. branch_rule t c (map (found_stmt t) (trees first)) B >>= λ b. r >>= λ xs. block ls B >>= λ l. branching span b xs l B) q ∙
      ap (λ r. branch_rule t c (map (found_stmt t) (trees first)) B >>= λ b. branches t (map found_branch (branch_list others)) B
      >>= λ xs. r >>= λ l. branching span b xs l B) (k Pure))))))
  stmt_good (st.Case span e alts last) B =
      good_and (sites_at t (expr_sites e) B) _ _ _
      (good_then _ _ _ (λ zs. (T : Ty) → alternatives t zs T B ≡ alternatives t (map found_alternative (alternative_list alts)) T B) _ _
      (alternatives_good alts B) (λ xs s.
      good_last _ _ (SameLast (found_otherwise last.0) B) _ (λ o. stmt_layer_rule t (st.Case span e xs o) B) (last.1.good B) (λ o k.
      (λ j. operand_of t e B.scope >>= λ v. s v.typed.ty j >>= λ ys. last_block o B >>= λ l. choosing span v.typed ys l B) ∙
      (λ j. operand_of t e B.scope >>= λ v. alternatives t (map found_alternative (alternative_list alts)) v.typed.ty B >>= λ ys. k j
      >>= λ l. choosing span v.typed ys l B))))
  stmt_good (st.For span i a d b limit ss) B =
      let C = with_index i (index_type t d a b B.scope) B in
      let W : Lined (Result Done Fault) = list_walk t (map walked (trees ss)) C
      into (λ zs. gives (stmt_layer_rule t (st.For span i a d b limit zs) B)) in
      let L : Lined (Unit {0}) = list_lines t (map paired (trees ss)) C in
      let R : Result Done Fault → Type 0 = λ r. r ≡ stmt_layer_rule t (st.For span i a d b limit (map (found_stmt t) (trees ss))) B in
      good_and (sites_at t (expr_sites a ++ expr_sites b) B) _ _ R (good_and (limit_lines t limit B) _ _ R
      (subst (λ ps. Good (unless_fault (index_found t i a b B) (first_of (walked_places (map walked (trees ss))) (of_stmt span)) and W)
      (unless_fault (index_found t i a b B) (first_of ps (of_stmt span)) and L) R) (list_places_same (trees ss))
      (good_and (unless_fault (index_found t i a b B) (first_of (walked_places (map walked (trees ss))) (of_stmt span))) W L R
      (good_last (list_walk t (map walked (trees ss)) C) L (SameList (map (found_stmt t) (trees ss)) C) R
      (λ zs. stmt_layer_rule t (st.For span i a d b limit zs) B) (list_good ss C)
      (λ zs s. ap (λ r. operand_of t a B.scope >>= λ S. operand_of t b B.scope >>= λ T. limit_typed t limit B.scope
      >>= λ l. index_rule i S T B >> r >>= λ body. for_ended span S.typed d T.typed l body B) (s Pure))))))
  stmt_good (st.While span c limit ss) B =
      good_and (sites_at t (expr_sites c) B) _ _ _ (good_and (limit_lines t limit B) _ _ _
      (good_last _ _ (SameList (map (found_stmt t) (trees ss)) B) _ (λ zs. stmt_layer_rule t (st.While span c limit zs) B) (list_good ss B)
      (λ zs s. ap (λ r. operand_of t c B.scope >>= λ C. limit_typed t limit B.scope >>= λ l. r >>= λ body. while_ended span C l body B)
      (s Pure))))
  stmt_good (st.Repeat span ss c limit) B =
      good_then _ _ _ (SameList (map (found_stmt t) (trees ss)) B) _ _ (list_good ss B) (λ zs s.
      good_and (sites_at t (expr_sites c) B) _ _ _
      (good_after (limit_lines t limit B) _ _
      (ap (λ r. r >>= λ body. operand_of t c B.scope >>= λ C. limit_typed t limit B.scope >>= λ l. repeat_ended span body C l B)
      (s Pure))))
  stmt_good (st.Return span e) B = good_after (sites_at t (maybe_sites e) B) _ _ refl
  stmt_good (st.Throw span e) B = good_after (sites_at t (maybe_sites e) B) _ _ refl
  stmt_good (st.Try span ss cs last) B =
      let R : Result Done Fault → Type 0 = λ r. r ≡ stmt_layer_rule t
      (st.Try span (map (found_stmt t) (trees ss)) (map found_catcher (catcher_list cs)) (found_otherwise last.0)) B in
      let behind = first_of (otherwise_walk last.0).0 (of_stmt span) in
      good_then (list_walk t (map walked (trees ss)) B) (list_lines t (map paired (trees ss)) B) _
      (SameList (map (found_stmt t) (trees ss)) B) R _ (list_good ss B) (λ zs s.
      subst (λ ps. Good (catching_walk (map (λ (c : Catcher). (c, catcher_walk c)) (catcher_list cs)) behind B
      into (λ xs. (otherwise_walk last.0).1 (handling B) into (λ o. gives (stmt_layer_rule t (st.Try span zs xs o) B))))
      (all_catching (map (λ (c : Catcher). (c, catcher_in c)) (catcher_list cs)) (first_of ps (of_stmt span)) B
      and (otherwise_in last.0).1 (handling B)) R) last.1.places
      (good_then (catching_walk (map (λ (c : Catcher). (c, catcher_walk c)) (catcher_list cs)) behind B)
      (all_catching (map (λ (c : Catcher). (c, catcher_in c)) (catcher_list cs)) behind B) ((otherwise_in last.0).1 (handling B))
      (λ xs. catchers xs B ≡ catchers (map found_catcher (catcher_list cs)) B) R
      (λ xs. (otherwise_walk last.0).1 (handling B) into (λ o. gives (stmt_layer_rule t (st.Try span zs xs o) B)))
      (catchers_good cs behind B) (λ xs q.
      good_last ((otherwise_walk last.0).1 (handling B)) ((otherwise_in last.0).1 (handling B))
      (SameLast (found_otherwise last.0) (handling B)) R (λ o. stmt_layer_rule t (st.Try span zs xs o) B) (last.1.good (handling B))
      (λ o k.
      ap (λ r. r >>= λ body. catchers xs B >>= λ ys. last_block o (handling B) >>= λ l. try_ended span body ys l B) (s Pure) ∙
      (ap (λ r. block (map (found_stmt t) (trees ss)) B >>= λ body. r >>= λ ys. last_block o (handling B)
      >>= λ l. try_ended span body ys l B) q ∙
      ap (λ r. block (map (found_stmt t) (trees ss)) B >>= λ body. catchers (map found_catcher (catcher_list cs)) B >>= λ ys. r
      >>= λ l. try_ended span body ys l B) k)))))
  stmt_good (st.Print span kind is) B = good_after (sites_at t (joined (map item_sites is)) B) _ _ refl

  catcher_same_places : (y : st.Catcher-F AA CC BB OO SS) →
      (catcher_walk_layer t (catcher_walked (catcher_trees y))).0 ≡ (catcher_inside t (catcher_paired (catcher_trees y))).0
  catcher_same_places (st.Catch i ty ss) = list_places_same (trees ss)

  otherwise_same_places : (y : st.Otherwise-F AA CC BB OO SS) →
      (otherwise_walk_layer t (otherwise_walked (otherwise_trees y))).0 ≡ (otherwise_inside t (otherwise_paired (otherwise_trees y))).0
  otherwise_same_places st.NoOtherwise = refl
  otherwise_same_places (st.Otherwise ss) = list_places_same (trees ss)

  -- ---- by induction over trees

  alternative_step : (x : st.Alternative-F Alternative Catcher ElseIf Otherwise Stmt) (y : st.Alternative-F AA CC BB OO SS) →
      alternative_trees y ≡ x → AlternativeGood (roll-Alternative x)
  alternative_step x y is B =
      subst (λ (f : AlternativeWalk). Good (f B) (alternative_in (roll-Alternative x) B)
      (SameAlternative (found_alternative (roll-Alternative x)) B))
      (sym (para-roll-Alternative AlternativeWalk (Places × walk.Catching) BranchWalk LastWalk InsideWalk (alternative_walk_layer t)
      (catcher_walk_layer t) (branch_walk_layer t) (otherwise_walk_layer t) (stmt_walk_layer t) x))
      (subst (λ (f : Inside). Good (alternative_walk_layer t (alternative_walked x) B) (f B)
      (SameAlternative (found_alternative (roll-Alternative x)) B))
      (sym (para-roll-Alternative Inside (Places × Catching) Inside InsideLast Inside (alternative_inside t) (catcher_inside t)
      (branch_inside t) (otherwise_inside t) (stmt_inside t) x))
      (subst (λ f. Good (alternative_walk_layer t (alternative_walked x) B) (alternative_inside t (alternative_paired x) B)
      (SameAlternative f B)) (sym
      (fold-roll-Alternative FoundAlternative FoundCatcher FoundBranch FoundOtherwise FoundStmt alternative_found catcher_found
      branch_found otherwise_found (stmt_layer_rule t) x))
      (subst (λ z. Good (alternative_walk_layer t (alternative_walked z) B) (alternative_inside t (alternative_paired z) B)
      (SameAlternative (alternative_found (alternative_opened z)) B)) is (alternative_good y B))))

  catcher_step : (x : st.Catcher-F Alternative Catcher ElseIf Otherwise Stmt) (y : st.Catcher-F AA CC BB OO SS) → catcher_trees y ≡ x →
      CatcherGood (roll-Catcher x)
  catcher_step x y is = record {
    places =
        ap (λ (p : Places × walk.Catching). p.0)
        (para-roll-Catcher AlternativeWalk (Places × walk.Catching) BranchWalk LastWalk InsideWalk (alternative_walk_layer t)
        (catcher_walk_layer t) (branch_walk_layer t) (otherwise_walk_layer t) (stmt_walk_layer t) x) ∙
        (subst (λ z. (catcher_walk_layer t (catcher_walked z)).0 ≡ (catcher_inside t (catcher_paired z)).0) is (catcher_same_places y) ∙
        sym (ap (λ (p : Places × Catching). p.0)
        (para-roll-Catcher Inside (Places × Catching) Inside InsideLast Inside (alternative_inside t) (catcher_inside t) (branch_inside t)
        (otherwise_inside t) (stmt_inside t) x)));
    good = λ behind B.
        subst (λ (f : Places × walk.Catching). Good (f.1 behind B) ((catcher_in (roll-Catcher x)).1 behind B)
        (SameCatcher (found_catcher (roll-Catcher x)) B))
        (sym (para-roll-Catcher AlternativeWalk (Places × walk.Catching) BranchWalk LastWalk InsideWalk (alternative_walk_layer t)
        (catcher_walk_layer t) (branch_walk_layer t) (otherwise_walk_layer t) (stmt_walk_layer t) x))
        (subst (λ (f : Places × Catching). Good ((catcher_walk_layer t (catcher_walked x)).1 behind B) (f.1 behind B)
        (SameCatcher (found_catcher (roll-Catcher x)) B))
        (sym (para-roll-Catcher Inside (Places × Catching) Inside InsideLast Inside (alternative_inside t) (catcher_inside t)
        (branch_inside t) (otherwise_inside t) (stmt_inside t) x))
        (subst (λ f. Good ((catcher_walk_layer t (catcher_walked x)).1 behind B) ((catcher_inside t (catcher_paired x)).1 behind B)
        (SameCatcher f B)) (sym
        (fold-roll-Catcher FoundAlternative FoundCatcher FoundBranch FoundOtherwise FoundStmt alternative_found catcher_found branch_found
        otherwise_found (stmt_layer_rule t) x))
        (subst (λ z. Good ((catcher_walk_layer t (catcher_walked z)).1 behind B) ((catcher_inside t (catcher_paired z)).1 behind B)
        (SameCatcher (catcher_found (catcher_opened z)) B)) is (catcher_good y behind B))));
  }

  branch_step : (x : st.ElseIf-F Alternative Catcher ElseIf Otherwise Stmt) (y : st.ElseIf-F AA CC BB OO SS) → branch_trees y ≡ x →
      ElseIfGood (roll-ElseIf x)
  branch_step x y is B =
      subst (λ (f : BranchWalk). Good (f B) (branch_in (roll-ElseIf x) B) (SameBranch (found_branch (roll-ElseIf x)) B))
      (sym (para-roll-ElseIf AlternativeWalk (Places × walk.Catching) BranchWalk LastWalk InsideWalk (alternative_walk_layer t)
      (catcher_walk_layer t) (branch_walk_layer t) (otherwise_walk_layer t) (stmt_walk_layer t) x))
      (subst (λ (f : Inside). Good (branch_walk_layer t (branch_walked x) B) (f B) (SameBranch (found_branch (roll-ElseIf x)) B))
      (sym (para-roll-ElseIf Inside (Places × Catching) Inside InsideLast Inside (alternative_inside t) (catcher_inside t)
      (branch_inside t) (otherwise_inside t) (stmt_inside t) x))
      (subst (λ f. Good (branch_walk_layer t (branch_walked x) B) (branch_inside t (branch_paired x) B) (SameBranch f B))
      (sym (fold-roll-ElseIf FoundAlternative FoundCatcher FoundBranch FoundOtherwise FoundStmt alternative_found catcher_found
      branch_found otherwise_found (stmt_layer_rule t) x))
      (subst (λ z. Good (branch_walk_layer t (branch_walked z) B) (branch_inside t (branch_paired z) B)
      (SameBranch (branch_found (branch_opened z)) B)) is (branch_good y B))))

  otherwise_step : (x : st.Otherwise-F Alternative Catcher ElseIf Otherwise Stmt) (y : st.Otherwise-F AA CC BB OO SS) →
      otherwise_trees y ≡ x → OtherwiseGood (roll-Otherwise x)
  otherwise_step x y is = record {
    places =
        ap (λ (p : LastWalk). p.0) (para-roll-Otherwise AlternativeWalk (Places × walk.Catching) BranchWalk LastWalk InsideWalk
        (alternative_walk_layer t) (catcher_walk_layer t) (branch_walk_layer t) (otherwise_walk_layer t) (stmt_walk_layer t) x) ∙
        (subst (λ z. (otherwise_walk_layer t (otherwise_walked z)).0 ≡ (otherwise_inside t (otherwise_paired z)).0) is
        (otherwise_same_places y) ∙
        sym (ap (λ (p : InsideLast). p.0)
        (para-roll-Otherwise Inside (Places × Catching) Inside InsideLast Inside (alternative_inside t) (catcher_inside t)
        (branch_inside t) (otherwise_inside t) (stmt_inside t) x)));
    good = λ B.
        subst (λ (f : LastWalk). Good (f.1 B) ((otherwise_in (roll-Otherwise x)).1 B) (SameLast (found_otherwise (roll-Otherwise x)) B))
        (sym (para-roll-Otherwise AlternativeWalk (Places × walk.Catching) BranchWalk LastWalk InsideWalk (alternative_walk_layer t)
        (catcher_walk_layer t) (branch_walk_layer t) (otherwise_walk_layer t) (stmt_walk_layer t) x))
        (subst (λ (f : InsideLast). Good ((otherwise_walk_layer t (otherwise_walked x)).1 B) (f.1 B)
        (SameLast (found_otherwise (roll-Otherwise x)) B))
        (sym (para-roll-Otherwise Inside (Places × Catching) Inside InsideLast Inside (alternative_inside t) (catcher_inside t)
        (branch_inside t) (otherwise_inside t) (stmt_inside t) x))
        (subst (λ f. Good ((otherwise_walk_layer t (otherwise_walked x)).1 B) ((otherwise_inside t (otherwise_paired x)).1 B)
        (SameLast f B)) (sym
        (fold-roll-Otherwise FoundAlternative FoundCatcher FoundBranch FoundOtherwise FoundStmt alternative_found catcher_found
        branch_found otherwise_found (stmt_layer_rule t) x))
        (subst (λ z. Good ((otherwise_walk_layer t (otherwise_walked z)).1 B) ((otherwise_inside t (otherwise_paired z)).1 B)
        (SameLast (otherwise_found (otherwise_opened z)) B)) is (otherwise_good y B))));
  }

  stmt_step : (x : st.Stmt-F Alternative Catcher ElseIf Otherwise Stmt) (y : st.Stmt-F AA CC BB OO SS) → stmt_trees y ≡ x →
      StmtGood (roll-Stmt x)
  stmt_step x y is B =
      subst (λ (f : InsideWalk). Good (f B) (inside_stmt t (roll-Stmt x) B) (SameStmt (found_stmt t (roll-Stmt x)) B))
      (sym (para-roll-Stmt AlternativeWalk (Places × walk.Catching) BranchWalk LastWalk InsideWalk (alternative_walk_layer t)
      (catcher_walk_layer t) (branch_walk_layer t) (otherwise_walk_layer t) (stmt_walk_layer t) x))
      (subst (λ (f : Inside). Good (stmt_walk_layer t (stmt_walked x) B) (f B) (SameStmt (found_stmt t (roll-Stmt x)) B))
      (sym (para-roll-Stmt Inside (Places × Catching) Inside InsideLast Inside (alternative_inside t) (catcher_inside t) (branch_inside t)
      (otherwise_inside t) (stmt_inside t) x))
      (subst (λ f. Good (stmt_walk_layer t (stmt_walked x) B) (stmt_inside t (stmt_paired x) B) (SameStmt f B))
      (sym (fold-roll-Stmt FoundAlternative FoundCatcher FoundBranch FoundOtherwise FoundStmt alternative_found catcher_found branch_found
      otherwise_found (stmt_layer_rule t) x))
      (subst (λ z. Good (stmt_walk_layer t (stmt_walked z) B) (stmt_inside t (stmt_paired z) B)
      (SameStmt (stmt_layer_rule t (stmt_opened z)) B)) is (stmt_good y B))))

  stmt_is_good : (s : Stmt) → StmtGood s
  stmt_is_good = ind-Stmt AlternativeGood CatcherGood ElseIfGood OtherwiseGood StmtGood alternative_step catcher_step branch_step
      otherwise_step stmt_step

  -- the lines of a statement, with what it gives, where each list is gone through once
  pub one_walk : (s : Stmt) (B : Body) → (stmt_walk t (s, inside_walk t s) B into (λ (d : Done). gives d.names))
      ≡ stmt_lines t (s, inside_stmt t s) B
  one_walk s B = stmt_names (s, stmt_is_good s) B

  -- and that is what its rule finds
  pub one_walk_found : (s : Stmt) (B : Body) (d : Done) → (stmt_walk t (s, inside_walk t s) B).outcome ≡ Ok d → found_stmt t s B ≡ Ok d
  one_walk_found s B d h = stmt_found (s, stmt_is_good s) B d h

  known : List Stmt → List SS
  known [] = []
  known (s ∷ ss) = (s, stmt_is_good s) ∷ known ss

  known_trees : (ss : List Stmt) → trees (known ss) ≡ ss
  unfolding known
  known_trees [] = refl
  known_trees (s ∷ ss) = ap (λ z. s ∷ z) (known_trees ss)

  -- the same of a list
  pub one_list_walk : (ss : List Stmt) (B : Body) →
      (list_walk t (with_walk t ss) B into (λ (zs : List FoundStmt). gives tt)) ≡ list_lines t (with_inside t ss) B
  one_list_walk ss B = subst (λ zs. (list_walk t (with_walk t zs) B into (λ (xs : List FoundStmt). gives tt))
      ≡ list_lines t (with_inside t zs) B) (known_trees ss) (list_good (known ss) B).forget

  pub one_list_found : (ss : List Stmt) (B : Body) (zs : List FoundStmt) (k : Effect) → (list_walk t (with_walk t ss) B).outcome ≡ Ok zs →
      in_order zs k B ≡ in_order (map (found_stmt t) ss) k B
  one_list_found ss B zs k = subst (λ ws. (list_walk t (with_walk t ws) B).outcome ≡ Ok zs →
      in_order zs k B ≡ in_order (map (found_stmt t) ws) k B) (known_trees ss) (λ h. (list_good (known ss) B).same zs h k)
