-- The verdict on what is read, by those on the programs that come of it.
use Rattle.std.specs.Prelude.{IsErrAnd}
use Rattle.std.proofs.Common.{◌≡◌, inl, inr, List, Result, Ok, Err, refl, sym, ap, ◌∙◌, subst}
use Rattle.asl_syn.specs.declared.code.Fault.{Fault}
use Rattle.asl_syn.specs.declared.code.Refused.{Refused}
use Rattle.asl_syn.specs.declared.code.Refused.TheVariants.{At, NoMemory}
use Rattle.asl_syn.specs.declared.read.ReadDecl.{ReadDecl}
use Rattle.asl_rules.specs.declared.entry.Entry.{Entry}
use Rattle.asl_rules.specs.Faults.{◌>>=◌, ◌>>◌}
use Rattle.asl_rules.specs.Tests.{Tests}
use Rattle.asl_rules.specs.declarations.Replacing.{bodies_matched}
use Rattle.asl_rules.specs.declarations.Programs as rules
use Rattle.asl_rules.specs.declarations.Programs.{default_decls, final_decls, read_verdict, verdict}
use Rattle.asl_rules.specs.private.Grown.{AreGrown, AreReadGrown}
use Rattle.asl_laws.proofs.scopes.GrownTexts.{written_grown}
use Rattle.asl_laws.proofs.verdict.ReadVerdict.{of_fault}
use Rattle.asl_tree.specs.Sealed.{Sealed}
use Rattle.asl_types.specs.private.Answers.{Met}
use Rattle.asl_accessors.specs.Judged.{Both, final_of, IsMatched}
use Rattle.asl_check.specs.declared.program.Accepted.{Accepted}
use Rattle.asl_check.specs.private.Verdicts.{accepted_of, both_verdict, IsReadVerdict, IsVerdict, Seals}

pub final_grown : (ds : List ReadDecl) (b : Both) → final_of b ≡ final_decls ds → AreReadGrown ds → AreGrown (final_of b)
final_grown ds b h g = written_grown ds (final_of b) (inr h) g

-- ---- the two programs

-- the program with the bodies that may be replaced has a fault, or memory is lacking
pub refused_first : (t : Tests) (e : Entry) (b : Both) (r : Refused) → (let x : Result Accepted Refused = Err r in Met (accepted_of e) x (verdict e b.defaults t)) →
    Seals e (final_of b) (both_verdict e b t) (Err r)
refused_first t e b (At f) v = ap (λ r. r >>= λ a. verdict e (final_of b) t) v
refused_first t e b NoMemory v = tt

-- it is accepted
pub accepted_first : (t : Tests) (e : Entry) (b : Both) (a : rules.Accepted) (r : Result Sealed Refused) → verdict e b.defaults t ≡ Ok a → IsVerdict t e (final_of b) r →
    Seals e (final_of b) (both_verdict e b t) r
accepted_first t e b a r v w = subst (λ v. Seals e (final_of b) v r) (sym (ap (λ r. r >>= λ a. verdict e (final_of b) t) v)) w

-- ---- what is read

-- a body that replaces another has a fault, or memory is lacking
unmatched : (t : Tests) (e : Entry) (ds : List ReadDecl) (r : Refused) → (let x : Result Both Refused = Err r in IsMatched ds x) → IsReadVerdict t e ds (Err r)
unmatched t e ds (At f) m = of_fault e ds t f (inl m)
unmatched t e ds NoMemory m = tt

pub handed_on : (t : Tests) (e : Entry) (ds : List ReadDecl) (r : Result Sealed Refused) (x : Refused) → (let y : Result Both Refused = Err x in IsMatched ds y) →
    IsErrAnd r (λ y. y ≡ x) → IsReadVerdict t e ds r
handed_on t e ds (Ok c) x m h = absurd h
handed_on t e ds (Err y) x m h = subst (λ (y : Refused). IsReadVerdict t e ds (Err y)) (sym h) (unmatched t e ds x m)

read_is : (t : Tests) (e : Entry) (ds : List ReadDecl) (b : Both) → bodies_matched ds ≡ Ok tt → b.defaults ≡ default_decls ds → final_of b ≡ final_decls ds →
    read_verdict e ds t ≡ both_verdict e b t
unfolding read_verdict
read_is t e ds b m h k =
    ap (λ r. r >> (verdict e (default_decls ds) t >>= λ a. verdict e (final_decls ds) t)) m
    ∙ ap (λ es. verdict e es t >>= λ a. verdict e (final_decls ds) t) (sym h)
    ∙ ap (λ fs. verdict e b.defaults t >>= λ a. verdict e fs t) (sym k)

-- both programs that come of it are judged
pub judged_both : (t : Tests) (e : Entry) (ds : List ReadDecl) (b : Both) (r : Result Sealed Refused) →
    bodies_matched ds ≡ Ok tt → b.defaults ≡ default_decls ds → final_of b ≡ final_decls ds → Seals e (final_of b) (both_verdict e b t) r → IsReadVerdict t e ds r
judged_both t e ds b r m h k w =
    subst (λ fs. Seals e fs (read_verdict e ds t) r) k (subst (λ v. Seals e (final_of b) v r) (sym (read_is t e ds b m h k)) w)

twice : {A : Type 0} (r : Result A Fault) → (r >>= λ x. r) ≡ r
twice (Ok x) = refl
twice (Err f) = refl

once_is : (t : Tests) (e : Entry) (b : Both) → final_of b ≡ b.defaults → both_verdict e b t ≡ verdict e (final_of b) t
once_is t e b q = ap (λ es. verdict e es t >>= λ a. verdict e (final_of b) t) (sym q) ∙ twice (verdict e (final_of b) t)

-- where no body replaces another, both are one program
pub judged_once : (t : Tests) (e : Entry) (ds : List ReadDecl) (b : Both) (r : Result Sealed Refused) →
    bodies_matched ds ≡ Ok tt → b.defaults ≡ default_decls ds → final_of b ≡ final_decls ds → final_of b ≡ b.defaults → IsVerdict t e (final_of b) r → IsReadVerdict t e ds r
judged_once t e ds b r m h k q w = judged_both t e ds b r m h k (subst (λ v. Seals e (final_of b) v r) (sym (once_is t e b q)) w)
