use Rattle.std.proofs.lemmas.Bool.{eqb-true}
use Rattle.asl_table.proofs.LowWords.{low_apart, not_true, not_false}
use Rattle.asl_table.proofs.lowest.may_meet.Goals as goal

pub returns-then-a-b-eq0-clause-yes : goal.returns-then-a-b-eq0-clause-yes
returns-then-a-b-eq0-clause-yes c = λ h. not_true _ h

pub returns-then-a-b-eq0-clause-no : goal.returns-then-a-b-eq0-clause-no
returns-then-a-b-eq0-clause-no c = λ m n l p q s h. absurd (not_false _ s h)

pub returns-else-a-b-eq0-clause-yes : goal.returns-else-a-b-eq0-clause-yes
returns-else-a-b-eq0-clause-yes c = λ h. absurd (c.if-a-b-eq0.false (eqb-true _ _ h))

pub returns-else-a-b-eq0-clause-no : goal.returns-else-a-b-eq0-clause-no
returns-else-a-b-eq0-clause-no c = λ m n l p q s h. low_apart m n _ _ _ _ l p.1 q.1 p.2 q.2 c.if-a-b-eq0.false
