-- A state with one more name in the frame agrees with one more name behind those that are visible, at the same integers of the atoms.
use Rattle.std.proofs.Common.{◌≡◌, ℕ, Bool, true, false, cond, List, [], ◌∷◌, ◌++◌, Option, Some, None, refl, sym, ap, ◌∙◌, append_assoc}
use Rattle.asl_rules.specs.types.Types.{Ty}
use Rattle.asl_rules.specs.types.Closed.{Assignment}
use Rattle.asl_rules.specs.declarations.Scopes.{Entry, Standing, standing_of, is_absent, is_free}
use Rattle.asl_rules.specs.values.Values.{Value}
use Rattle.asl_rules.specs.runs.States.{Under, Binding, Core}
use Rattle.asl_rules.specs.runs.Evaluation.{declared}
use Rattle.asl_rules.specs.private.Agreement.{types_in, local_matches, FrameMatches, IsPlain, AllPlain, AllFresh, Agrees}
use Rattle.asl_rules.specs.private.TypedMeaning.{with_next}
use Rattle.asl_rules.specs.private.Erasure.{erased, values_of}
use Rattle.asl_rules.proofs.basics.Tests.{no, none_some}

frame_snoc : (d : List ℕ → Option Ty) (a : Assignment) (es : List Entry) (bs : List Binding) (e : Entry) (b : Binding) → FrameMatches d a es bs → local_matches d a e.name e.standing b → FrameMatches d a (es ++ e ∷ []) (bs ++ b ∷ [])
frame_snoc d a [] [] e b m k = (k, tt)
frame_snoc d a [] (f ∷ bs) e b m k = absurd m
frame_snoc d a (f ∷ es) [] e b m k = absurd m
frame_snoc d a (f ∷ es) (g ∷ bs) e b m k = (m.0, frame_snoc d a es bs e b m.1 k)

fresh_snoc : (base es : List Entry) (e : Entry) → AllFresh base es → standing_of e.name base ≡ None → AllFresh base (es ++ e ∷ [])
fresh_snoc base [] e f h = (h, tt)
fresh_snoc base (d ∷ es) e f h = (f.0, fresh_snoc base es e f.1 h)

plain_snoc : (es : List Entry) (e : Entry) → AllPlain es → IsPlain e.standing → AllPlain (es ++ e ∷ [])
plain_snoc [] e f h = (h, tt)
plain_snoc (d ∷ es) e f h = (f.0, plain_snoc es e f.1 h)

absent_none : {A : Type 0} (o : Option A) → is_absent o ≡ true → o ≡ None
absent_none None h = refl
absent_none (Some x) h = no h

-- a name that isn't visible stands for nothing outside
front_none : (d : Bool) (st : Standing) (o p : Option Standing) → cond d (Some st) p ≡ None → (p ≡ None → o ≡ None) → cond d (Some st) o ≡ None
front_none true st o p h f = none_some st (sym h)
front_none false st o p h f = f h

first_none : (es fs : List Entry) (name : List ℕ) → standing_of name (es ++ fs) ≡ None → standing_of name es ≡ None
first_none [] fs name h = refl
first_none (e ∷ es) fs name h = front_none _ e.standing (standing_of name es) (standing_of name (es ++ fs)) h (first_none es fs name)

-- the entry of the new name, and the binding that it gets
pub declared_agrees : (base names : List Entry) (a : Assignment) (c : Core) (e : Entry) (x : Value) (u : Under) (m : Bool) → Agrees base names a c → is_free e.name names ≡ true → IsPlain e.standing →
    local_matches (types_in base) a e.name e.standing (record { name = e.name; value = x; under = u; is_mutable = m }) → Agrees base (names ++ e ∷ []) a (declared e.name x u m c)
declared_agrees base names a c e x u m g f p k =
    let free : standing_of e.name (base ++ g.locals) ≡ None = ap (standing_of e.name) (sym g.names_are) ∙ absent_none (standing_of e.name names) f in
    record {
      locals = g.locals ++ e ∷ [];
      names_are = ap (λ ns. ns ++ e ∷ []) g.names_are ∙ append_assoc base g.locals (e ∷ []);
      fresh = fresh_snoc base g.locals e g.fresh (first_none base g.locals e.name free);
      plain = plain_snoc g.locals e g.plain p;
      frame = frame_snoc (types_in base) a g.locals c.frame e (record { name = e.name; value = x; under = u; is_mutable = m }) g.frame k;
      globals = g.globals;
      handled = g.handled;
      callers = g.callers;
    }

values_snoc : (bs : List Binding) (b : Binding) → values_of (bs ++ b ∷ []) ≡ values_of bs ++ b.value ∷ []
values_snoc [] b = refl
values_snoc (c ∷ bs) b = ap (λ xs. c.value ∷ xs) (values_snoc bs b)

-- without names and types it is one more value in the next place
pub erased_declared : (name : List ℕ) (x : Value) (u : Under) (m : Bool) (c : Core) → erased (declared name x u m c) ≡ with_next (x ∷ []) (erased c)
erased_declared name x u m c = ap (λ xs. record (erased c) { frame = xs }) (values_snoc c.frame (record { name = name; value = x; under = u; is_mutable = m }))
