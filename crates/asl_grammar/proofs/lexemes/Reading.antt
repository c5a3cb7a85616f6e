-- One step of the reading.
use Rattle.std.proofs.Common.{◌≡◌, ℕ, ◌≤◌, ◌^◌, List, Some, true, refl, nat_le, rules}
use Rattle.asl_syn.specs.declared.code.StaticCode.TheVariants.{L04}
use Rattle.asl_syn.specs.declared.token.TokenKind.TheVariants as kinds
use Rattle.asl_grammar.specs.lexemes.Refusals.{refusal}

pub large_refused : (limit n : ℕ) (text : List ℕ) (given : ℕ) → 2 ^ 127 ≤ n → refusal limit (kinds.Int n) text given ≡ Some L04
large_refused limit n text given h = let e : nat_le (2 ^ 127) n ≡ true = search rules in rw e refl
