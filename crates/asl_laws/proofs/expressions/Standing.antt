-- Where a node stands: what is known of its body is known in each lesser class too, what comes out in a lesser class comes out in each
-- greater one, and what is around its frame is there again behind what a catcher handles.
use Rattle.std.proofs.Common.{◌≡◌, inl, inr, ℕ, Bool, true, List, [], ◌∷◌, refl, ap, subst}
use Rattle.asl_rules.specs.declared.effect.Effect.{Effect}
use Rattle.asl_rules.specs.declared.effect.Effect.TheVariants.{Pure, Readonly, Writes}
use Rattle.asl_rules.specs.Tests.{Tests}
use Rattle.asl_rules.specs.types.Effects.{at_most, greater, lesser}
use Rattle.asl_rules.specs.types.Closed.{Assignment}
use Rattle.asl_rules.specs.declarations.Scopes.{Entry, Signature}
use Rattle.asl_rules.specs.values.Values.{Value}
use Rattle.asl_rules.specs.runs.States.{Frame, Core}
use Rattle.asl_rules.proofs.basics.Tests.{no}
use Rattle.asl_laws.proofs.expressions.Claims.{Around, around_of, Over, StandsOver, Stands}

pub lesser_below : (k : Effect) → at_most (lesser k Readonly) k ≡ true
lesser_below Pure = refl
lesser_below Readonly = refl
lesser_below Writes = refl

pub below_both : (k l m : Effect) → at_most k l ≡ true → at_most l m ≡ true → at_most k m ≡ true
below_both Pure l m h i = refl
below_both Readonly Pure m h i = no h
below_both Readonly Readonly m h i = i
below_both Readonly Writes Pure h i = i
below_both Readonly Writes Readonly h i = refl
below_both Readonly Writes Writes h i = refl
below_both Writes Pure m h i = no h
below_both Writes Readonly m h i = no h
below_both Writes Writes m h i = i

-- each of two effects is at most the greater of them
pub first_below : (k l : Effect) → at_most k (greater k l) ≡ true
first_below Pure l = refl
first_below Readonly Pure = refl
first_below Readonly Readonly = refl
first_below Readonly Writes = refl
first_below Writes l = refl

pub second_below : (k l : Effect) → at_most l (greater k l) ≡ true
second_below Pure Pure = refl
second_below Pure Readonly = refl
second_below Pure Writes = refl
second_below Readonly Pure = refl
second_below Readonly Readonly = refl
second_below Readonly Writes = refl
second_below Writes Pure = refl
second_below Writes Readonly = refl
second_below Writes Writes = refl

module _ (tests : Tests) (base : List Entry) (subs : List Signature) (loose : Bool) where
  over_lesser : (k l : Effect) (fs : List Frame) (ids : List ℕ) → at_most k l ≡ true → StandsOver tests base subs loose l fs ids → StandsOver tests base subs loose k fs ids
  over_lesser k l [] ids h s = s
  over_lesser k l (f ∷ fs) [] h s = s
  over_lesser k l (f ∷ fs) (id ∷ ids) h s = ((s.0.0, s.0.1, below_both k l s.0.0.class h s.0.2), s.1)

  pub stands_lesser : (k l : Effect) (r : Around) → at_most k l ≡ true → Stands tests base subs loose l r → Stands tests base subs loose k r
  stands_lesser k l r h (inl e) = inl e
  stands_lesser k l r h (inr s) = inr (over_lesser k l r.callers r.live h s)

  -- what comes out in a lesser class comes out in this one too
  pub thrown_lesser : (k l : Effect) (names : List Entry) (a : Assignment) (r : Around) (x : Value) (c : Core) → at_most k l ≡ true →
      Over tests base subs loose k names a r x c → Over tests base subs loose l names a r x c
  thrown_lesser k l names a r x c h o = record {
    raised = o.raised;
    writes = below_both Writes k l o.writes h;
    more = o.more;
    later = o.later;
    same = o.same;
    agrees = o.agrees;
    around_is = o.around_is;
  }

-- what was being handled is handled again
pub around_again : (r : Around) (x : Value) (c c1 : Core) → around_of c ≡ r → around_of c1 ≡ record r { handled = x ∷ r.handled } → around_of (record c1 { handled = c.handled }) ≡ r
around_again r x c c1 a e =
    subst (λ (q : Around). around_of c1 ≡ record q { handled = x ∷ q.handled } → around_of (record c1 { handled = c.handled }) ≡ q) a (λ i. ap (λ (q : Around). record q { handled = c.handled }) i) e
