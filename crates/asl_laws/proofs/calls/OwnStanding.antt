-- Where the body of a subprogram stands that is called: whose body it is, and for which call the caller's frame waits.
use Rattle.std.proofs.Common.{◌≡◌, inr, ℕ, suc, ◌+◌, Bool, true, false, cond, List, [], ◌∷◌, Some, refl, sym, ap, ◌∙◌, subst, arith}
use Rattle.std.specs.Prelude.{◌&&◌, slice_get}
use Rattle.std.specs.Str.{bytes_eq}
use Rattle.asl_rules.specs.declared.effect.Effect.{Effect}
use Rattle.asl_rules.specs.declared.effect.Effect.TheVariants.{Pure, Readonly, Writes}
use Rattle.asl_rules.specs.Tests.{Tests}
use Rattle.asl_rules.specs.types.Types.{Parts, same_kinds}
use Rattle.asl_rules.specs.types.Effects.{at_most}
use Rattle.asl_rules.specs.declarations.Scopes.{Entry, Signature, Chosen, choose, choose_from}
use Rattle.asl_rules.specs.runs.States.{Core, entered}
use Rattle.asl_rules.proofs.basics.Tests.{none_some, some_same}
use Rattle.asl_laws.proofs.expressions.Claims.{Here, around_of, Caller, caller_at, IsCaller, Waiting, StandsOver, Bound, Stands, At, Around}
use Rattle.asl_rules.specs.private.Agreement.{Agrees}
use Rattle.asl_laws.proofs.scopes.ScopesKept.{Ruled}
use Rattle.asl_laws.specs.Soundness.{waiting}

-- ---- the signature of the subprogram that is chosen

later_place : (m n : ℕ) → suc m + n ≡ m + suc n
later_place m n = omega arith

first_place : (n : ℕ) → 0 + n ≡ n
first_place n = omega arith

no_more : (n : ℕ) → n ≡ n + 0
no_more n = omega arith

chosen_from : (all : List Signature) (n : ℕ) (name : List ℕ) (Ts : Parts) (fs : List Signature) (q : Chosen) → ((m : ℕ) → slice_get fs m ≡ slice_get all (m + n)) → choose_from n name Ts fs ≡ Some q → slice_get all q.number ≡ Some q.signature
chosen_from all n name Ts [] q at h = none_some q h
chosen_from all n name Ts (f ∷ fs) q at h = by (bytes_eq f.name name && same_kinds f.formals Ts) h (chosen_from all (suc n) name Ts fs q (λ m. at (suc m) ∙ ap (slice_get all) (later_place m n)))
  where
    by : (b : Bool) → cond b (Some (record { number = n; signature = f })) (choose_from (suc n) name Ts fs) ≡ Some q → (choose_from (suc n) name Ts fs ≡ Some q → slice_get all q.number ≡ Some q.signature) → slice_get all q.number ≡ Some q.signature
    by true e next = subst (λ (z : Chosen). slice_get all z.number ≡ Some z.signature) (some_same (record { number = n; signature = f }) q e) (ap (slice_get all) (sym (first_place n)) ∙ sym (at 0))
    by false e next = next e

pub chosen_at : (name : List ℕ) (Ts : Parts) (subs : List Signature) (q : Chosen) → choose name Ts subs ≡ Some q → slice_get subs q.number ≡ Some q.signature
chosen_at name Ts subs q h = chosen_from subs 0 name Ts subs q (λ m. ap (slice_get subs) (no_more m)) h

-- what is allowed of the subprogram that is chosen is allowed of that of its number
pub chosen_below : (name : List ℕ) (Ts : Parts) (subs : List Signature) (q : Chosen) (class : Effect) → choose name Ts subs ≡ Some q →
    at_most q.signature.class class ≡ true → (s : Signature) → slice_get subs q.number ≡ Some s → at_most s.class class ≡ true
chosen_below name Ts subs q class h k s e =
    subst (λ (z : Signature). at_most z.class class ≡ true) (some_same q.signature s (sym (chosen_at name Ts subs q h) ∙ e)) k

-- ---- a body

pub itself_below : (k : Effect) → at_most k k ≡ true
itself_below Pure = refl
itself_below Readonly = refl
itself_below Writes = refl

module _ (tests : Tests) (base : List Entry) (subs : List Signature) (loose : Bool) where
  -- here a call of the subprogram of this number stands
  pub record Opens (H : Here) (id : ℕ) : Type 0 where
    pub caller : Caller
    pub at : caller_at caller ≡ H
    pub is_caller : IsCaller tests base subs loose caller id
    pub allowed : (s : Signature) → slice_get subs id ≡ Some s → at_most s.class H.scope.class ≡ true

  waits : (H : Here) (id : ℕ) (c : Core) → (k : Opens H id) → At tests base subs loose H c → Waiting tests base subs loose (record { names = c.frame; handled = c.handled }) c.callers id c.live
  waits H id c k a = record {
    caller = k.caller;
    is_caller = k.is_caller;
    globals = c.globals;
    agrees = subst (λ (z : Here). Agrees base z.scope.names z.present (waiting c.globals (record { names = c.frame; handled = c.handled }) c.callers c.live)) (sym k.at)
        (record { locals = a.agrees.locals; names_are = a.agrees.names_are; fresh = a.agrees.fresh; plain = a.agrees.plain; frame = a.agrees.frame; globals = a.agrees.globals; handled = a.agrees.handled; callers = a.agrees.callers });
    subs_are = ap (λ (z : Here). z.scope.subs) k.at ∙ a.subs_are;
    counted = subst (λ (z : Here). Bound tests base subs loose (Ruled z.scope.names z.scope.subs)) (sym k.at) a.counted;
    around_is = a.around_is ∙ sym (ap (λ (z : Here). z.around) k.at);
  }

  -- in the frame that is opened
  pub opened_stands : (H : Here) (id : ℕ) (s : Signature) (c : Core) → Opens H id → slice_get subs id ≡ Some s → At tests base subs loose H c → Stands tests base subs loose s.class (around_of (entered id c))
  unfolding waits
  opened_stands H id s c k i a =
      inr (
        (s, i, itself_below s.class),
        inr (
          waits H id c k a,
          subst (λ (z : Here). Bound tests base subs loose (StandsOver tests base subs loose z.scope.class c.callers c.live)) (sym k.at)
              (subst (λ (r : Around). Stands tests base subs loose H.scope.class r) (sym a.around_is) a.stands),
        ),
      )
