-- What a program that is well formed says of its parts: its names, its signatures and its bodies, and each subprogram by its number.
use Rattle.std.proofs.Common.{◌≡◌, ℕ, zero, suc, List, [], ◌∷◌, Some, Ok, refl, sym, ap, ◌∙◌, subst}
use Rattle.std.specs.Prelude.{slice_get}
use Rattle.asl_syn.specs.declared.tree.Decl.{Decl}
use Rattle.asl_syn.specs.declared.tree.Func.{Func}
use Rattle.asl_rules.specs.declared.entry.Entry.{Entry as Asked}
use Rattle.asl_rules.specs.Tests.{Tests}
use Rattle.asl_rules.specs.declarations.Names.{names_rule, all_declared}
use Rattle.asl_rules.specs.declarations.Uses.{cycles_rule}
use Rattle.asl_rules.specs.declarations.Scopes.{Entry, Signature}
use Rattle.asl_rules.specs.runs.Trees.{TreeFunc}
use Rattle.asl_rules.specs.declarations.Turns.{names_of_program, globals_rule}
use Rattle.asl_rules.specs.declarations.Programs.{Entries, funcs_of, Head, params_free, formals_free, params_rule, formals_rule, result_rule, limit_typed, params_are_integers, limit_rule, signature_rule, signatures_rule, signatures, overloads_rule, body_rule, bodies_rule, entry_rule, verdict, Accepted, accepted}
use Rattle.asl_rules.proofs.basics.Inversions.{ok_ok, bind_ok, then_ok}
use Rattle.asl_rules.proofs.basics.Tests.{some_same, none_some}
use Rattle.asl_laws.proofs.scopes.Globals.{names_same}

-- the parts of a program that is accepted
pub record Facts (t : Tests) (ds : List Decl) (a : Accepted) : Type 0 where
  pub heads : List Head
  pub trees : List TreeFunc
  pub asked : Asked
  pub main : Entries
  pub apart : names_rule [] (all_declared ds) ≡ Ok tt
  pub globals : globals_rule t ds ≡ Ok (names_of_program t ds)
  pub heads_are : signatures_rule t (names_of_program t ds) (funcs_of ds) ≡ Ok heads
  pub overloads : overloads_rule [] heads ≡ Ok tt
  pub bodies : bodies_rule t (signatures heads) heads ≡ Ok trees
  pub entry : entry_rule asked (signatures heads) ≡ Ok main
  pub is : accepted asked main (signatures heads) trees (names_of_program t ds) ≡ a

pub facts_of : (t : Tests) (e : Asked) (ds : List Decl) (a : Accepted) → verdict e ds t ≡ Ok a → Facts t ds a
unfolding verdict
facts_of t e ds a ok =
    let p = then_ok (names_rule [] (all_declared ds)) _ a ok in
    let c = then_ok (cycles_rule ds ds) _ a p.then in
    let n = bind_ok (globals_rule t ds) _ a c.then in
    let s = bind_ok (signatures_rule t n.value (funcs_of ds)) _ a n.then in
    let o = then_ok (overloads_rule [] s.value) _ a s.then in
    let b = bind_ok (bodies_rule t (signatures s.value) s.value) _ a o.then in
    let m = bind_ok (entry_rule e (signatures s.value)) _ a b.then in
    let same : n.value ≡ names_of_program t ds = sym (names_same t ds n.value n.first) in
    record {
      heads = s.value;
      trees = b.value;
      asked = e;
      main = m.value;
      apart = p.first;
      globals = n.first ∙ ap (λ ns. Ok ns) same;
      heads_are = subst (λ ns. signatures_rule t ns (funcs_of ds) ≡ Ok s.value) same s.first;
      overloads = o.first;
      bodies = b.first;
      entry = m.first;
      is = ap (λ ns. accepted e m.value (signatures s.value) b.value ns) (sym same) ∙ ok_ok _ a m.then;
    }

-- a subprogram by its number
pub record Numbered (t : Tests) (base : List Entry) (subs : List Signature) (fs : List Func) (trees : List TreeFunc) (id : ℕ) (s : Signature) : Type 0 where
  pub head : Head
  pub is_func : slice_get fs id ≡ Some head.func
  pub is_head : signature_rule t base head.func ≡ Ok head
  pub is_signature : head.signature ≡ s
  pub tree : TreeFunc
  pub is_tree : slice_get trees id ≡ Some tree
  pub body : body_rule t subs head ≡ Ok tree

-- the head of a subprogram is its own
pub head_func : (t : Tests) (base : List Entry) (f : Func) (h : Head) → signature_rule t base f ≡ Ok h → f ≡ h.func
head_func t base f h k =
    let a = bind_ok (params_free f.params [] base) _ h k in
    let b = then_ok (formals_free f.formals a.value base) _ h a.then in
    let c = bind_ok (params_rule t f.params [] base) _ h b.then in
    let d = bind_ok (formals_rule t f.formals c.value.1) _ h c.then in
    let e = bind_ok (result_rule t f.result c.value.1) _ h d.then in
    let g = bind_ok (limit_typed t f.limit base) _ h e.then in
    let i = then_ok (params_are_integers t f.params c.value.0) _ h g.then in
    let l = bind_ok (limit_rule t f.limit g.value base) _ h i.then in
    ap (λ (z : Head). z.func) (ok_ok _ h l.then)

module _ (t : Tests) (base : List Entry) (subs : List Signature) where
  pub numbered : (fs : List Func) (hs : List Head) (trees : List TreeFunc) (id : ℕ) (s : Signature) → signatures_rule t base fs ≡ Ok hs → bodies_rule t subs hs ≡ Ok trees → slice_get (signatures hs) id ≡ Some s → Numbered t base subs fs trees id s
  numbered [] hs trees id s h b k = none_some s (subst (λ z. slice_get (signatures z) id ≡ Some s) (sym (ok_ok [] hs h)) k)
  numbered (f ∷ fs) hs trees id s h b k =
      let u = bind_ok (signature_rule t base f) _ hs h in
      let v = bind_ok (signatures_rule t base fs) _ hs u.then in
      let e : u.value ∷ v.value ≡ hs = ok_ok (u.value ∷ v.value) hs v.then in
      let x = bind_ok (body_rule t subs u.value) _ trees (subst (λ z. bodies_rule t subs z ≡ Ok trees) (sym e) b) in
      let y = bind_ok (bodies_rule t subs v.value) _ trees x.then in
      subst (λ z. Numbered t base subs (f ∷ fs) z id s) (ok_ok (x.value ∷ y.value) trees y.then)
      (by id u.value v.value x.value y.value u.first x.first (λ n q. numbered fs v.value y.value n s v.first y.first q) (subst (λ z. slice_get (signatures z) id ≡ Some s) (sym e) k))
    where
      by : (id : ℕ) (head : Head) (others : List Head) (tree : TreeFunc) (more : List TreeFunc) → signature_rule t base f ≡ Ok head → body_rule t subs head ≡ Ok tree → ((n : ℕ) → slice_get (signatures others) n ≡ Some s → Numbered t base subs fs more n s) →
          slice_get (signatures (head ∷ others)) id ≡ Some s → Numbered t base subs (f ∷ fs) (tree ∷ more) id s
      by zero head others tree more h b next k =
          let q : f ≡ head.func = head_func t base f head h in
          record {
            head = head;
            is_func = ap (λ z. Some z) q;
            is_head = subst (λ z. signature_rule t base z ≡ Ok head) q h;
            is_signature = some_same head.signature s k;
            tree = tree;
            is_tree = refl;
            body = b;
          }
      by (suc n) head others tree more h b next k =
          let m = next n k in
          record { head = m.head; is_func = m.is_func; is_head = m.is_head; is_signature = m.is_signature; tree = m.tree; is_tree = m.is_tree; body = m.body }
