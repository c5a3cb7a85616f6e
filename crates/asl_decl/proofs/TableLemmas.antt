-- What declarations bring: the judgements of all, and the signatures over the names outside bodies.
use Rattle.std.proofs.Common.{◌≡◌, List, [], Result, Ok, Err, refl, sym, ap, ◌∙◌}
use Rattle.asl_syn.specs.declared.code.Fault.{Fault}
use Rattle.asl_syn.specs.declared.tree.Decl.{Decl}
use Rattle.asl_syn.specs.declared.tree.Func.{Func}
use Rattle.asl_rules.specs.Faults.{◌>>=◌, ◌>>◌}
use Rattle.asl_rules.specs.Tests.{Tests}
use Rattle.asl_rules.specs.declarations.Names.{names_rule, all_declared}
use Rattle.asl_rules.specs.declarations.Uses.{cycles_rule}
use Rattle.asl_rules.specs.declarations.Scopes.{Entry, Signature}
use Rattle.asl_rules.specs.declarations.Turns.{final, faults_rule, names_of_program}
use Rattle.asl_rules.specs.declarations.Programs.{Head, funcs_of, signatures_rule, overloads_rule}
use Rattle.asl_judge.specs.Tables.{declarations_rule}
use Rattle.asl_subprograms.specs.private.Apart.{apart_rule}
use Rattle.asl_decl.specs.Heads.{heads_of, Declared, declared_with, declared_rule}
use Rattle.asl_decl.specs.private.Signatures.{signatures_found, declared_found}
use Rattle.asl_decl.proofs.ApartLemmas.{overloads_are}
use Rattle.asl_decl.proofs.SignatureLemmas.{heads_are, signatures_are}

-- ---- subprograms

module _ (t : Tests) (fs : List Func) (N : List Entry) where
  abbrev subprograms_rule : Result Declared Fault
  subprograms_rule = signatures_rule t N fs >>= λ hs. overloads_rule [] hs >> Ok (declared_with N hs)

  by_found : (r : Result (List Signature) Fault) → ((r >>= λ ss. Ok (heads_of N fs ss)) >>= λ (hs : List Head). overloads_rule [] hs >> Ok (declared_with N hs)) ≡ (r >>= λ ss. apart_rule fs ss >> Ok (declared_with N (heads_of N fs ss)))
  by_found (Ok ss) = ap (λ q. q >> Ok (declared_with N (heads_of N fs ss))) (overloads_are N fs ss)
  by_found (Err f) = refl

  subprograms_are : subprograms_rule ≡ declared_found t fs N
  subprograms_are =
      ap (λ (r : Result (List Head) Fault). r >>= λ hs. overloads_rule [] hs >> Ok (declared_with N hs)) (heads_are t fs N)
      ∙ by_found (signatures_found t fs N)
      ∙ ap (λ (r : Result (List Signature) Fault). r >>= λ ss. apart_rule fs ss >> Ok (declared_with N (heads_of N fs ss))) (sym (signatures_are t fs N))

-- ---- the rule, in two steps

module _ (t : Tests) (ds : List Decl) where
  three_steps : (a b c : Result (Unit {0}) Fault) (N : List Entry) (f : List Entry → Result Declared Fault) → (a >> b >> (c >> Ok N) >>= f) ≡ (((a >> b) >> c) >> f N)
  three_steps (Ok x) (Ok y) (Ok z) N f = refl
  three_steps (Ok x) (Ok y) (Err e) N f = refl
  three_steps (Ok x) (Err e) c N f = refl
  three_steps (Err e) b c N f = refl

  declared_is : declared_rule t ds ≡ (declarations_rule t ds >> subprograms_rule t (funcs_of ds) (names_of_program t ds))
  declared_is = three_steps (names_rule [] (all_declared ds)) (cycles_rule ds ds) (faults_rule (final t ds)) (names_of_program t ds) (subprograms_rule t (funcs_of ds))

  -- where names, order, types and storage are well formed, what is left is found over the names outside bodies
  pub table_then : (names : List Entry) (fs : List Func) → declarations_rule t ds ≡ Ok tt → names ≡ names_of_program t ds → fs ≡ funcs_of ds → declared_rule t ds ≡ declared_found t fs names
  table_then names fs h n e =
      declared_is
      ∙ ap (λ r. r >> subprograms_rule t (funcs_of ds) (names_of_program t ds)) h
      ∙ subprograms_are t (funcs_of ds) (names_of_program t ds)
      ∙ ap (declared_found t (funcs_of ds)) (sym n)
      ∙ ap (λ gs. declared_found t gs names) (sym e)
