use Rattle.std.proofs.Common.{◌≡◌, ap, rules, set}
use Rattle.asl_store.proofs.store.put.Goals as goal

pub returns : goal.returns
returns c =
    let is : c.replace-old.new.dest ≡ c.args.value = search rules in
    ap (set c.args.values.now.items c.args.at) is
