-- One more token behind others.
use Rattle.std.proofs.Common.{◌≡◌, List, [], ◌∷◌, ◌++◌, Option, Some, Ok, refl, sym, subst}
use Rattle.asl_syn.specs.declared.token.Token.{Token}
use Rattle.asl_grammar.specs.lexemes.Tokens.{Scan, Yields, Front, NextGives}

pub Front_more : (s x y : Scan) (ts : List Token) (t : Token) → Front s ts x → Yields x t y → Front s (ts ++ t ∷ []) y
Front_more s x y [] t f g = (y, subst (λ z. Yields z t y) (sym f) g, refl)
Front_more s x y (u ∷ ts) t (n, a, f) g = (n, a, Front_more n x y ts t f g)

pub yields_of : (s x : Scan) (o : Option Token) (t : Token) → o ≡ Some t → NextGives s (Ok o) x → Yields s t x
yields_of s x o t e g = subst (λ z. NextGives s (Ok z) x) e g
