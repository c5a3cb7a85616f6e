-- What holds of subprograms' names and of stand-ins, and of what is judged where it holds of all names that are visible, holds of each name
-- after any number of turns.
use Rattle.std.proofs.Common.{◌≡◌, ℕ, Bool, true, false, cond, inl, inr, List, [], ◌∷◌, ◌++◌, map, Some, Ok, Err, refl, subst}
use Rattle.std.specs.Prelude.{Result}
use Rattle.std.specs.Str.{bytes_eq}
use Rattle.asl_syn.specs.declared.code.Fault.{Fault}
use Rattle.asl_syn.specs.declared.tree.Ident.{Ident}
use Rattle.asl_syn.specs.declared.tree.StorageDecl.{StorageDecl}
use Rattle.asl_syn.specs.declared.tree.Decl.{Decl}
use Rattle.asl_syn.specs.declared.tree.Decl.TheVariants as dc
use Rattle.asl_rules.specs.Tests.{Tests}
use Rattle.asl_rules.specs.types.Types.{boolean}
use Rattle.asl_rules.specs.values.Values.{bool}
use Rattle.asl_rules.specs.declarations.Names.{library, labels_of}
use Rattle.asl_rules.specs.declarations.Scopes.{Entry, Standing, subprogram, global, standing_of}
use Rattle.asl_rules.specs.declarations.Declarations.{in_names, is_var, decl_rule}
use Rattle.asl_rules.specs.declarations.Turns.{judged, SoFar, reserved, entries_or, entries, names_so_far, turns, all_waiting}
use Rattle.asl_rules.specs.private.Judgements.{EachJudged}
use Rattle.asl_rules.proofs.basics.Tests.{some_same, none_some, same_name}
use Rattle.asl_rules.proofs.scopes.EachOnce.{entries_keep}
use Rattle.asl_rules.proofs.verdict.Distinct.{In}
use Rattle.asl_rules.proofs.verdict.Turning.{turns_hold}

abbrev pub EachName : (Entry → Type 0) → List Entry → Type 0
EachName P [] = Unit {0}
EachName P (e ∷ es) = P e × EachName P es

pub name_more : (P : Entry → Type 0) (xs ys : List Entry) → EachName P xs → EachName P ys → EachName P (xs ++ ys)
name_more P [] ys a b = b
name_more P (x ∷ xs) ys a b = (a.0, name_more P xs ys a.1 b)

-- of what a name stands for
pub name_has : (P : List ℕ → Standing → Type 0) (es : List Entry) (n : List ℕ) (st : Standing) → EachName (λ e. P e.name e.standing) es →
    standing_of n es ≡ Some st → P n st
name_has P [] n st a h = none_some st h
name_has P (e ∷ es) n st a h = by (bytes_eq e.name n) refl h (name_has P es n st a.1)
  where
    by : (b : Bool) → bytes_eq e.name n ≡ b → cond b (Some e.standing) (standing_of n es) ≡ Some st →
        (standing_of n es ≡ Some st → P n st) → P n st
    by true q k next = subst (P n) (some_same e.standing st k) (subst (λ m. P m e.standing) (same_name e.name n q) a.0)
    by false q k next = next k

module _ (P : Entry → Type 0) where
  -- what stands in the places of these declarations
  pub entries_have : (ds : List Decl) (js : SoFar) → EachJudged (λ d j. EachName P (entries_or d j)) ds js → EachName P (entries ds js)
  entries_have [] [] a = tt
  entries_have [] (j ∷ js) a = absurd a
  entries_have (d ∷ ds) [] a = absurd a
  entries_have (d ∷ ds) (j ∷ js) a = name_more P (entries_or d j) (entries ds js) a.0 (entries_have ds js a.1)

  module _ (subprograms : (n : List ℕ) → P (subprogram n)) where
    all_subprograms : (ns : List (List ℕ)) → EachName P (map subprogram ns)
    all_subprograms [] = tt
    all_subprograms (n ∷ ns) = (subprograms n, all_subprograms ns)

    labels_have : (is : List Ident) → EachName P (map (λ (i : Ident). subprogram i.text) is)
    labels_have [] = tt
    labels_have (i ∷ is) = (subprograms i.text, labels_have is)

    pub names_have : (ds : List Decl) (js : SoFar) → EachJudged (λ d j. EachName P (entries_or d j)) ds js → EachName P (names_so_far ds js)
    names_have ds js a =
        entries_keep (EachName P) (name_more P) (λ e es h. ((h.0, tt), h.1)) (entries ds js) (map subprogram library)
        (entries_have ds js a) (all_subprograms library)

    module _ (t : Tests) (ds : List Decl)
        (stand_in : (d : StorageDecl) → In (dc.Storage d) ds → P (global d.name.text boolean (is_var d.kind) (bool false)))
        (brings : (d : Decl) → In d ds → (names : List Entry) → EachName P names →
        (es : List Entry) → decl_rule t d (in_names names) ≡ Ok es → EachName P es) where
      reserved_have : (d : Decl) → In d ds → EachName P (reserved d)
      reserved_have (dc.Type d) i = (subprograms d.name.text, labels_have (labels_of d.def))
      reserved_have (dc.Storage d) i = (stand_in d i, tt)
      reserved_have (dc.Func f) i = (subprograms f.name.text, tt)

      waiting_have : (es : List Decl) → ((d : Decl) → In d es → In d ds) →
          EachJudged (λ d j. EachName P (entries_or d j)) es (all_waiting es)
      waiting_have [] f = tt
      waiting_have (e ∷ es) f = (reserved_have e (f e (inl refl)), waiting_have es (λ d i. f d (inr i)))

      judged_has : (d : Decl) → In d ds → (r : Result (List Entry) Fault) → ((es : List Entry) → r ≡ Ok es → EachName P es) →
          EachName P (entries_or d (judged r))
      judged_has d i (Ok es) f = f es refl
      judged_has d i (Err e) f = reserved_have d i

      -- of what stands in the places of each declaration, after any number of turns
      pub all_have : (n : ℕ) → EachJudged (λ d j. EachName P (entries_or d j)) ds (turns t n ds (all_waiting ds))
      all_have n =
          turns_hold t ds (λ d j. EachName P (entries_or d j))
          (λ js a d i r.
          let names = names_so_far ds js in
          judged_has d i (decl_rule t d (in_names names)) (brings d i names (names_have ds js a)))
          n (all_waiting ds) (waiting_have ds (λ d i. i))

      -- and so of each name that is visible then
      pub visible_have : (n : ℕ) → EachName P (names_so_far ds (turns t n ds (all_waiting ds)))
      visible_have n = names_have ds (turns t n ds (all_waiting ds)) (all_have n)
