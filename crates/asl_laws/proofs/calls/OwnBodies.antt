-- What the rules say of the body of a subprogram, in the frame of a call.
use Rattle.std.proofs.Common.{◌≡◌, ℕ, suc, ◌<◌, ◌≤◌, Bool, true, false, cond, ◌&&◌, List, [], ◌∷◌, ◌++◌, Option, Some, None, Ok, refl, sym, ap, ◌∙◌, subst, arith, map, append_assoc}
use Rattle.std.specs.Str.{bytes_eq}
use Rattle.asl_syn.specs.declared.code.StaticCode.TheVariants.{T17}
use Rattle.asl_syn.specs.declared.tree.Decl.{Decl}
use Rattle.asl_syn.specs.declared.tree.Formal.{Formal}
use Rattle.asl_syn.specs.declared.tree.Func.{Func}
use Rattle.asl_syn.specs.declared.tree.Param.{Param as WrittenParam}
use Rattle.asl_rules.specs.declared.effect.Effect.TheVariants.{Pure}
use Rattle.asl_rules.specs.Faults.{need}
use Rattle.asl_rules.specs.Tests.{Tests, IsRight}
use Rattle.asl_rules.specs.types.Types.{Ty, Parts, no_part, part, same_kinds}
use Rattle.asl_rules.specs.types.Closed.{Assignment}
use Rattle.asl_rules.specs.declarations.Scopes.{Entry, Signature, Param, Chosen, next_atom, choose_from, fixed}
use Rattle.asl_rules.specs.runs.Trees.{TreeFunc}
use Rattle.asl_rules.specs.statements.Acting.{Listed, in_order}
use Rattle.asl_rules.specs.statements.Stmts.{found_stmt}
use Rattle.asl_rules.specs.statements.Locals.{itself}
use Rattle.asl_rules.specs.declarations.Programs.{Head, body_scope, body_of, may_end, tree_func, body_rule, signature_rule, params_rule, param_written, param_entry, with_formals}
use Rattle.asl_rules.specs.private.Agreement.{types_in, SameOn}
use Rattle.asl_rules.proofs.basics.Inversions.{ok_ok, bind_ok, then_ok, need_ok}
use Rattle.asl_rules.proofs.basics.Tests.{some_same, none_some}
use Rattle.asl_rules.proofs.widths.Counting.{no_fewer}
use Rattle.asl_laws.proofs.widths.Omitted.{atoms_last}
use Rattle.asl_laws.proofs.widths.TypesOver.{Over, Never}
use Rattle.asl_laws.proofs.scopes.OverScope.{IsAtomOf, SubsOver, NamesOver}
use Rattle.asl_laws.proofs.scopes.ScopesOver.{type_moved}
use Rattle.asl_laws.proofs.scopes.NamesOutside.{NamesOutside, outside_over}
use Rattle.asl_laws.proofs.scopes.BodiesOver.{params_over, signature_over}
use Rattle.asl_laws.proofs.scopes.ScopesKept.{head_scope}
use Rattle.asl_rules.proofs.scopes.Naming.{WellNamed, well_declared}
use Rattle.asl_laws.proofs.scopes.WellTyped as well
use Rattle.asl_laws.proofs.scopes.WellTyped.{FormedSubs}
use Rattle.asl_laws.proofs.expressions.Claims.{FormedResult, result_at}
use Rattle.asl_laws.proofs.expressions.TreePlans.{append_nil}
use Rattle.asl_laws.proofs.calls.OwnCalls.{BodyOk}
use Rattle.asl_laws.proofs.calls.OwnChosen.{HeadIs, head_is}
use Rattle.asl_laws.proofs.calls.OwnArguments.{AtomsFrom}

no_less : (m n k : ℕ) → m ≤ n → n ≤ k → m ≤ k
no_less m n k h i = omega (arith, h, i)

below_on : (l m n : ℕ) → l < m → m ≤ n → l < n
below_on l m n h i = omega (arith, h, i)

same_count : (n : ℕ) → n ≤ n
same_count n = omega arith

-- the names of formals come behind those of the parameters
formals_more : (fs : List Formal) (Ts : Parts) (names : List Entry) → next_atom names ≤ next_atom (with_formals fs Ts names)
formals_more [] no_part names = same_count (next_atom names)
formals_more [] (part T Ts) names = same_count (next_atom names)
formals_more (f ∷ fs) no_part names = same_count (next_atom names)
formals_more (f ∷ fs) (part T Ts) names =
    let more : List Entry = fixed f.name.text T (itself T names) ∷ [] in
    no_less (next_atom names) (next_atom (names ++ more)) (next_atom (with_formals fs Ts (names ++ more))) (no_fewer names more) (formals_more fs Ts (names ++ more))

-- parameters have their atoms two by two
record Behind (pre : List Param) (n : ℕ) (all : List Param) : Type 0 where
  pub rest : List Param
  pub is : pre ++ rest ≡ all
  pub atoms : AtomsFrom n rest

params_behind : (t : Tests) (ps : List WrittenParam) (pre : List Param) (names : List Entry) (r : List Param × List Entry) → params_rule t ps pre names ≡ Ok r → Behind pre (next_atom names) r.0
params_behind t [] pre names r h = record { rest = []; is = append_nil pre ∙ ap (λ (z : List Param × List Entry). z.0) (ok_ok (pre, names) r h); atoms = tt }
params_behind t (p ∷ ps) pre names r h =
    let v = bind_ok (param_written t p.ty names) _ r h in
    let q : Param = record { atom = next_atom names; ty = v.value } in
    let e = param_entry p.name.text v.value (next_atom names) in
    let k = params_behind t ps (pre ++ q ∷ []) (names ++ e ∷ []) r v.then in
    record { rest = q ∷ k.rest; is = sym (append_assoc pre (q ∷ []) k.rest) ∙ k.is; atoms = (refl, subst (λ n. AtomsFrom n k.rest) (atoms_last names e refl) k.atoms) }

pub params_atoms : (t : Tests) (ps : List WrittenParam) (base : List Entry) (r : List Param × List Entry) → next_atom base ≡ 0 → params_rule t ps [] base ≡ Ok r → AtomsFrom 0 r.0
params_atoms t ps base r z h = let k = params_behind t ps [] base r h in subst (AtomsFrom 0) k.is (subst (λ n. AtomsFrom n k.rest) z k.atoms)

module _ (tests : Tests) (right : IsRight tests) (ds : List Decl) (base : List Entry) (subs : List Signature) (loose : Bool) (funcs : List TreeFunc) (w : WellNamed base) where
  -- the result of a subprogram that is chosen is well formed
  chosen_by : (b : Bool) (n : ℕ) (f : Signature) (o : Option Chosen) (c : Chosen) → FormedResult (types_in base) f.result → (o ≡ Some c → FormedResult (types_in base) c.signature.result) → cond b (Some (record { number = n; signature = f })) o ≡ Some c → FormedResult (types_in base) c.signature.result
  chosen_by true n f o c r next h = subst (λ (z : Chosen). FormedResult (types_in base) z.signature.result) (some_same (record { number = n; signature = f }) c h) r
  chosen_by false n f o c r next h = next h

  formed_same : (T : Option Ty) → well.FormedResult tests right (types_in base) (well_declared base w) T → FormedResult (types_in base) T
  formed_same None h = tt
  formed_same (Some T) h = h

  pub chosen_formed : (n : ℕ) (name : List ℕ) (Ts : Parts) (fs : List Signature) (c : Chosen) → FormedSubs tests right (types_in base) (well_declared base w) fs → choose_from n name Ts fs ≡ Some c → FormedResult (types_in base) c.signature.result
  chosen_formed n name Ts [] c s h = none_some c h
  chosen_formed n name Ts (f ∷ fs) c s h =
      chosen_by (bytes_eq f.name name && same_kinds f.formals Ts) n f (choose_from (suc n) name Ts fs) c (formed_same f.result s.0) (λ k. chosen_formed (suc n) name Ts fs c s.1 k) h

  -- the atoms of the parameters are those of names of the body
  params_below : (f : Func) (h : Head) → NamesOver (IsAtomOf []) base → HeadIs tests base f h → (n : ℕ) → IsAtomOf h.signature.params n → n < next_atom h.names
  params_below f h g i =
      subst (λ (z : Head). (n : ℕ) → IsAtomOf z.signature.params n → n < next_atom z.names) i.is
      (λ n k. below_on n (next_atom i.params.1) (next_atom (with_formals f.formals i.formals i.params.1)) ((params_over tests f.params [] base i.params g (λ m j. absurd j) i.params_are).1 n k) (formals_more f.formals i.formals i.params.1))

  result_same : (T : Option Ty) (ps : List Param) (names : List Entry) (a b : Assignment) → ((U : Ty) → T ≡ Some U → Over (IsAtomOf ps) U) → ((n : ℕ) → IsAtomOf ps n → n < next_atom names) → SameOn names a b → result_at b T ≡ result_at a T
  result_same None ps names a b o l s = refl
  result_same (Some T) ps names a b o l s = ap Some (sym (type_moved (IsAtomOf ps) a b (λ n i. s n (l n i)) T (o T refl)))

  -- a body with its list of typed trees
  pub record BodyWith (h : Head) (t : TreeFunc) (a : Assignment) : Type 0 where
    pub list : Listed
    pub ok : BodyOk tests right ds base subs loose funcs w h list a
    pub is : tree_func h list.acts ≡ t

  pub body_ok : (f : Func) (h : Head) (t : TreeFunc) (a : Assignment) → NamesOutside base → SubsOver subs → FormedResult (types_in base) h.signature.result → signature_rule tests base f ≡ Ok h → body_rule tests subs h ≡ Ok t → BodyWith h t a
  body_ok f h t a out over formed judged body =
      let l = bind_ok (in_order (map (found_stmt tests) h.func.body) Pure (body_of subs h)) _ t body in
      let e = then_ok (need (may_end h.signature.result h.func) T17 h.func.name.span) (Ok (tree_func h l.value.acts)) t l.then in
      let head = signature_over tests base f h (outside_over base out Never) judged in
      record {
        list = l.value;
        ok = record {
          judged = l.first;
          ends = need_ok (may_end h.signature.result h.func) T17 h.func.name.span tt e.first;
          formed = formed;
          scope_good = head_scope tests base out f h (body_scope subs h) refl over judged;
          result_is = λ b s. result_same h.signature.result h.signature.params h.names a b head.result (params_below f h (outside_over base out (IsAtomOf [])) (head_is tests base f h judged)) s;
        };
        is = ok_ok (tree_func h l.value.acts) t e.then;
      }
