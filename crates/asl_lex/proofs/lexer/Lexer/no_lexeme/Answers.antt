use Rattle.std.proofs.Common.{sym}
use Rattle.asl_lex.proofs.Faults.{malformed_here, stray_here}
use Rattle.asl_lex.proofs.lexer.Lexer.no_lexeme.Goals as goal

pub returns-in-Some : goal.returns-in-Some
returns-in-Some c =
    let len = rw c.after_first.ensures.after at c.quote_reach-reach.ensures.len in
    malformed_here _ c.args.self.now c.self.view_is c.fault.result c.in-Some.state (rw (sym len) c.fault.ensures) (sym c.in-Some.ensures) c.requires.apart c.requires.none

pub returns-in-None : goal.returns-in-None
returns-in-None c =
    stray_here _ c.args.self.now c.self.view_is c.fault-in-None.result c.fault-in-None.ensures (sym c.in-None.ensures) c.requires.some c.requires.apart c.requires.none
