use Rattle.asl_cons.proofs.EndsAsWidths.{widths_ok, widths_large}
use Rattle.asl_cons.proofs.ends.widths.Goals as goal

pub returns-in-Ok : goal.returns-in-Ok
returns-in-Ok c = rw c.shown.ensures (widths_ok c.args.op c.args.e.now c.args.f.now c.in-Ok.p c.in-Ok.ensures)

pub returns-in-Err-TooLarge : goal.returns-in-Err-TooLarge
returns-in-Err-TooLarge c = widths_large c.args.op c.args.e.now c.args.f.now (rw (c.in-Err-TooLarge.is, c.in-Err-TooLarge.field-0-is) at c.on_widths.ensures)
