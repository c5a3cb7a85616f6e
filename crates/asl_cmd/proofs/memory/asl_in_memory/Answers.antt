use Rattle.std.proofs.Common.{rules, ◌≡◌, Some}
use Rattle.asl_io.specs.Faults.{room_where_none_fails}
use Rattle.asl_answer.specs.declared.status.Status.TheVariants as status
use Rattle.asl_cmd.proofs.Roomy.{risen, roomy, settled}
use Rattle.asl_cmd.proofs.memory.asl_in_memory.Goals as goal

pub returns : goal.returns
returns c = λ t u read is short.
    let out = c.asl-status.new.out in
    let empty = c.in_ok-sink.ensures.empty in
    let holds = c.new-files.ensures.held in
    let unread : c.asl-status.result ≡ status.ReadFault → ⊥ = search rules in
    let full : room_where_none_fails out.fails.items out.room ≡ Some c.args.room = search rules in
    let prefix = c.asl-status.ensures.prefix t u read is _ holds unread in
    let unfilled : c.asl-status.result ≡ status.WriteFault → ⊥ = λ e.
    roomy _ out.bytes.items out.fails.items out.room c.args.room out.faults _ _ empty out.bytes.ok.0 out.full full (risen _ _ c.in_ok-sink.ensures.count (c.asl-status.ensures.write_fault e)) short prefix in
    settled c.asl-status.result _ _ _ _ empty unread unfilled (c.asl-status.ensures.whole t u read is _ holds)
