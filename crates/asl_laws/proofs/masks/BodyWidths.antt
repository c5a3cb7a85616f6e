-- Each body of declarations that are accepted is judged in one of the two programs that come of them, so the masks of a `case` have one
-- width in all of them.
use Rattle.std.proofs.Common.{◌≡◌, Bool, true, false, not, ◌&&◌, if◌then◌else◌, List, [], ◌∷◌, ◌++◌, map, Option, Some, None, Result, Ok, refl, sym, ◌∙◌, ap, subst, append_assoc}
use Rattle.std.specs.Str.{bytes_eq}
use Rattle.asl_syn.specs.declared.code.Fault.{Fault}
use Rattle.asl_syn.specs.declared.code.StaticCode.TheVariants.{T26, T27}
use Rattle.asl_syn.specs.declared.tree.Func.{Func}
use Rattle.asl_syn.specs.declared.tree.Decl.{Decl}
use Rattle.asl_syn.specs.declared.read.BodyWord.{BodyWord}
use Rattle.asl_syn.specs.declared.read.BodyWord.TheVariants.{NoWord, ImpDef, Implementation}
use Rattle.asl_syn.specs.declared.read.ReadStmt.{ReadStmt}
use Rattle.asl_syn.specs.declared.read.ReadDecl.{ReadDecl}
use Rattle.asl_syn.specs.declared.read.ReadDecl.TheVariants as rd
use Rattle.asl_rules.specs.declared.entry.Entry.{Entry}
use Rattle.asl_rules.specs.declared.effect.Effect.TheVariants.{Pure}
use Rattle.asl_rules.specs.Faults.{need}
use Rattle.asl_rules.specs.Tests.{Tests, IsRight}
use Rattle.asl_rules.specs.runs.Trees.{TreeFunc}
use Rattle.asl_rules.specs.declarations.Scopes.{Body, Signature, Entry as Names}
use Rattle.asl_rules.specs.declarations.Keys.{Key}
use Rattle.asl_rules.specs.declarations.WrittenOut.{joined, written_out, list_written, func_written, getter_of, setter_of}
use Rattle.asl_rules.specs.declarations.Replacing.{Header, header_of, is_impdef, is_implementation, has_word, has_header, first_with, some_with, header_matched, headers_matched, bodies_matched, without_word, without_implementations, defaults, or_itself, in_place, replaced}
use Rattle.asl_rules.specs.declarations.Programs.{Accepted, Head, funcs_of, signature_rule, signatures_rule, body_of as body_in, body_rule, bodies_rule, verdict, read_verdict}
use Rattle.asl_rules.specs.statements.Acting.{Listed, in_order}
use Rattle.asl_rules.specs.statements.Stmts.{found_stmt}
use Rattle.asl_rules.specs.report.MaskTables.{Cases, cases_in, body_of, cases_of}
use Rattle.asl_rules.proofs.basics.Inversions.{bind_ok, then_ok, ok_ok, need_ok}
use Rattle.asl_rules.proofs.basics.Tests.{no, both, same_name, name_is}
use Rattle.asl_laws.proofs.basics.Lists.{AllOf}
use Rattle.asl_laws.proofs.masks.CaseWidths.{CaseEven, AllEven, body_even}
use Rattle.asl_laws.proofs.certificates.Sites.{all_append}
use Rattle.asl_laws.proofs.soundness.SoundnessFacts.{facts_of, head_func}
use Rattle.asl_laws.proofs.verdict.ReadVerdict.{steps_of}

-- ---- the subprograms of a program that is accepted

module _ (t : Tests) where
  -- a body is judged
  record Judged (f : Func) : Type 0 where
    scope : Body
    listed : Listed
    is : in_order (map (found_stmt t) f.body) Pure scope ≡ Ok listed

  all_judged : (names : List Names) (subs : List Signature) (fs : List Func) (hs : List Head) (trees : List TreeFunc) →
      signatures_rule t names fs ≡ Ok hs → bodies_rule t subs hs ≡ Ok trees → AllOf Judged fs
  all_judged names subs [] hs trees h b = tt
  all_judged names subs (f ∷ fs) hs trees h b =
      let u = bind_ok (signature_rule t names f) _ hs h in
      let v = bind_ok (signatures_rule t names fs) _ hs u.then in
      let e : u.value ∷ v.value ≡ hs = ok_ok (u.value ∷ v.value) hs v.then in
      let x = bind_ok (body_rule t subs u.value) _ trees (subst (λ z. bodies_rule t subs z ≡ Ok trees) (sym e) b) in
      let y = bind_ok (bodies_rule t subs v.value) _ trees x.then in
      let l = bind_ok (in_order (map (found_stmt t) u.value.func.body) Pure (body_in subs u.value)) _ x.value x.first in (
        subst Judged (sym (head_func t names f u.value u.first)) (record { scope = body_in subs u.value; listed = l.value; is = l.first }),
        all_judged names subs fs v.value y.value v.first y.first,
      )

  accepted_judged : (e : Entry) (ds : List Decl) (a : Accepted) → verdict e ds t ≡ Ok a → AllOf Judged (funcs_of ds)
  accepted_judged e ds a h =
      let f = facts_of t e ds a h in
      all_judged _ _ (funcs_of ds) f.heads f.trees f.heads_are f.bodies

  -- ---- what was read of them

  -- the masks of each `case` in its bodies have one width
  DeclEven : ReadDecl → Type 0
  DeclEven d = AllEven t (joined (map cases_in (body_of d)))

  two_bodies : (xs ys : List ReadStmt) → AllEven t (joined (map cases_in xs)) → AllEven t (joined (map cases_in ys)) →
      AllEven t (joined (map cases_in (xs ++ ys)))
  two_bodies [] ys h k = k
  two_bodies (x ∷ xs) ys h k = behind (cases_in x) h (λ l. two_bodies xs ys l k)
    where
      behind : (cs : Cases) → AllEven t (cs ++ joined (map cases_in xs)) →
          (AllEven t (joined (map cases_in xs)) → AllEven t (joined (map cases_in (xs ++ ys)))) →
          AllEven t (cs ++ joined (map cases_in (xs ++ ys)))
      behind [] h k = k h
      behind (c ∷ cs) h k = (h.0, behind cs h.1 k)

  module _ (right : IsRight t) where
    list_even : (f : Func) (ss : List ReadStmt) → f.body ≡ list_written ss → Judged f → AllEven t (joined (map cases_in ss))
    list_even f ss is j =
        body_even t right ss Pure j.scope j.listed (subst (λ xs. in_order (map (found_stmt t) xs) Pure j.scope ≡ Ok j.listed) is j.is)

    written_even : (ds : List ReadDecl) → AllOf Judged (funcs_of (written_out ds)) → AllOf DeclEven ds
    unfolding DeclEven
    written_even [] h = tt
    written_even (rd.Type d ∷ ds) h = (tt, written_even ds h)
    written_even (rd.Storage d ∷ ds) h = (tt, written_even ds h)
    written_even (rd.Func f ∷ ds) h = (list_even (func_written f) f.body refl h.0, written_even ds h.1)
    written_even (rd.Accessor a ∷ ds) h =
        let getter = list_even (getter_of a) a.getter refl h.0 in
        let setter = list_even (setter_of a) a.setter refl h.1.0 in
        (two_bodies a.getter a.setter getter setter, written_even ds h.1.1)

    accepted_even : (e : Entry) (ds : List ReadDecl) (a : Accepted) → verdict e (written_out ds) t ≡ Ok a → AllOf DeclEven ds
    accepted_even e ds a h = written_even ds (accepted_judged e (written_out ds) a h)

-- ---- which declarations stand in the two programs

module _ (P : ReadDecl → Type 0) (bare : (d : ReadDecl) → P (without_word d) → P d) where
  -- each that replaces no other stands there as it is made there
  stands : (make : ReadDecl → ReadDecl) (ds : List ReadDecl) → AllOf P (without_implementations make ds) →
      AllOf (λ d. has_word is_implementation (header_of d) ≡ false → P (make d)) ds
  stands make [] h = tt
  stands make (d ∷ ds) h = by (has_word is_implementation (header_of d)) (stands make ds) h
    where
      Behind : Type 0
      Behind = AllOf (λ d. has_word is_implementation (header_of d) ≡ false → P (make d)) ds

      by : (b : Bool) → (AllOf P (without_implementations make ds) → Behind) →
          AllOf P (if b then without_implementations make ds else (without_word (make d) ∷ without_implementations make ds)) →
          (b ≡ false → P (make d)) × Behind
      by true more h = ((λ e. no (sym e)), more h)
      by false more h = ((λ e. bare (make d) h.0), more h.1)

  module _ (all : List ReadDecl) where
    abbrev Placed : ReadDecl → Type 0
    Placed d = has_word is_implementation (header_of d) ≡ false → P (in_place all d (header_of d))

    impdef_only : (w : BodyWord) → is_impdef w ≡ true → is_implementation w ≡ false
    impdef_only NoWord h = refl
    impdef_only ImpDef h = refl
    impdef_only Implementation h = no h

    in_place_is : (b : Bool) (d : ReadDecl) (o : Option ReadDecl) → b ≡ true → P (if b then or_itself d o else d) → P (or_itself d o)
    in_place_is true d o e h = h
    in_place_is false d o e h = no e

    -- in place of a declaration that has the key and may be replaced stands the first that has it and replaces
    replaces : (d : ReadDecl) (k : Key) (o : Option Header) → has_header is_impdef k o ≡ true →
        (has_word is_implementation o ≡ false → P (in_place all d o)) → P (or_itself d (first_with is_implementation k all))
    replaces d k None h p = no h
    replaces d k (Some x) h p =
        let b = both (is_impdef x.word) (bytes_eq x.key k) h in
        let r = in_place_is (is_impdef x.word) d (first_with is_implementation x.key all) b.0 (p (impdef_only x.word b.0)) in
        subst (λ n. P (or_itself d (first_with is_implementation n all))) (same_name x.key k b.1) r

    found : (k : Key) (ds : List ReadDecl) → AllOf Placed ds → some_with is_impdef k ds ≡ true →
        (d : ReadDecl) × P (or_itself d (first_with is_implementation k all))
    found k [] h s = no s
    found k (d ∷ ds) h s = by (has_header is_impdef k (header_of d)) refl (found k ds h.1) s
      where
        by : (b : Bool) → has_header is_impdef k (header_of d) ≡ b →
            (some_with is_impdef k ds ≡ true → (d : ReadDecl) × P (or_itself d (first_with is_implementation k all))) →
            (if b then true else some_with is_impdef k ds) ≡ true → (d : ReadDecl) × P (or_itself d (first_with is_implementation k all))
        by true e more s = (d, replaces d k (header_of d) e h.0)
        by false e more s = more s

    -- the first that has the key is this one, where none before it has
    first_is : (before rest : List ReadDecl) (d : ReadDecl) (k : Key) → some_with is_implementation k before ≡ false →
        has_header is_implementation k (header_of d) ≡ true → first_with is_implementation k (before ++ d ∷ rest) ≡ Some d
    first_is [] rest d k none h = ap (λ b. if b then Some d else first_with is_implementation k rest) h
    first_is (c ∷ before) rest d k none h = by (has_header is_implementation k (header_of c)) (λ l. first_is before rest d k l h) none
      where
        by : (b : Bool) → (some_with is_implementation k before ≡ false → first_with is_implementation k (before ++ d ∷ rest) ≡ Some d) →
            (if b then true else some_with is_implementation k before) ≡ false →
            (if b then Some c else first_with is_implementation k (before ++ d ∷ rest)) ≡ Some d
        by true more none = no (sym none)
        by false more none = more none

    not_back : (b : Bool) → not b ≡ true → b ≡ false
    not_back true h = no h
    not_back false h = refl

    where_so : (b : Bool) (r : Result (Unit {0}) Fault) → b ≡ true → (if b then r else Ok tt) ≡ Ok tt → r ≡ Ok tt
    where_so true r w m = m
    where_so false r w m = no w

    -- a declaration that replaces another, behind these and before those, if it has no fault
    replacing : (before rest : List ReadDecl) (d : ReadDecl) → all ≡ before ++ d ∷ rest → AllOf Placed all → (o : Option Header) →
        header_of d ≡ o → header_matched all before o ≡ Ok tt → has_word is_implementation o ≡ true → P d
    replacing before rest d is h None e m w = no w
    replacing before rest d is h (Some x) e m w =
        let c = where_so (is_implementation x.word) _ w m in
        let n = then_ok (need (some_with is_impdef x.key all) T26 x.at) _ tt c in
        let u = found x.key all h (need_ok (some_with is_impdef x.key all) T26 x.at tt n.first) in
        let none = not_back (some_with is_implementation x.key before)
        (need_ok (not (some_with is_implementation x.key before)) T27 x.at tt n.then) in
        let f = first_is before rest d x.key none (ap (has_header is_implementation x.key) e ∙ has_own) in
        subst (λ o. P (or_itself u.0 o)) (ap (first_with is_implementation x.key) is ∙ f) u.1
      where
        has_own : (is_implementation x.word && bytes_eq x.key x.key) ≡ true
        has_own = ap (λ b. b && bytes_eq x.key x.key) w ∙ name_is x.key

    all_replacing : (before rest : List ReadDecl) → all ≡ before ++ rest → AllOf Placed all → headers_matched all before rest ≡ Ok tt →
        AllOf (λ d. has_word is_implementation (header_of d) ≡ true → P d) rest
    all_replacing before [] is h m = tt
    all_replacing before (d ∷ rest) is h m =
        let n = then_ok (header_matched all before (header_of d)) _ tt m in (
          replacing before rest d is h (header_of d) refl n.first,
          all_replacing (before ++ d ∷ []) rest (is ∙ sym (append_assoc before (d ∷ []) rest)) h n.then,
        )

  either_way : (b : Bool) (d : ReadDecl) → (b ≡ false → P d) → (b ≡ true → P d) → P d
  either_way true d h k = k refl
  either_way false d h k = h refl

  merged : (ds : List ReadDecl) → AllOf (λ d. has_word is_implementation (header_of d) ≡ false → P d) ds →
      AllOf (λ d. has_word is_implementation (header_of d) ≡ true → P d) ds → AllOf P ds
  merged [] h k = tt
  merged (d ∷ ds) h k = (either_way (has_word is_implementation (header_of d)) d h.0 k.0, merged ds h.1 k.1)

  -- what holds of all declarations of both programs holds of all that were read
  pub all_stand : (ds : List ReadDecl) → bodies_matched ds ≡ Ok tt → AllOf P (defaults ds) → AllOf P (replaced ds) → AllOf P ds
  unfolding bodies_matched defaults replaced
  all_stand ds m h k =
      merged ds (stands (λ d. d) ds h) (all_replacing ds [] ds refl (stands (λ d. in_place ds d (header_of d)) ds k) m)

-- ---- all bodies

module _ (t : Tests) (right : IsRight t) where
  bare_even : (d : ReadDecl) → DeclEven t (without_word d) → DeclEven t d
  unfolding DeclEven
  bare_even (rd.Type d) h = h
  bare_even (rd.Storage d) h = h
  bare_even (rd.Func f) h = h
  bare_even (rd.Accessor a) h = h

  together : (ds : List ReadDecl) → AllOf (DeclEven t) ds → AllEven t (cases_of ds)
  unfolding DeclEven
  together [] h = tt
  together (d ∷ ds) h = all_append (CaseEven t) (joined (map cases_in (body_of d))) (cases_of ds) h.0 (together ds h.1)

  pub cases_even : (e : Entry) (ds : List ReadDecl) (a : Accepted) → read_verdict e ds t ≡ Ok a → AllEven t (cases_of ds)
  cases_even e ds a h =
      let s = steps_of e ds t a h in
      together ds (all_stand (DeclEven t) bare_even ds s.matched (accepted_even t right e (defaults ds) s.first s.default_is)
      (accepted_even t right e (replaced ds) a s.final_is))
