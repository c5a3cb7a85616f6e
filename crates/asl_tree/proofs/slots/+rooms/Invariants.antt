use Rattle.std.proofs.Common.{◌≡◌, ◌+◌, ◌<◌, ◌≤◌, ◌^◌, max, drop}
use Rattle.asl_tree.specs.Acts.{all_acts, all_branches, all_alternatives, all_catchers}
use Rattle.asl_tree.specs.private.Room.{list_room, branches_room, alternatives_room, catchers_room}
use Rattle.asl_tree.proofs.slots.+rooms.Given as goal

abbrev pub invariant-list_slots-loop-act : goal.invariant-list_slots-loop-act
invariant-list_slots-loop-act l = record {
  rest : max l.most (l.height + list_room (all_acts (drop l.act-index l.acts))) ≡ list_room (all_acts l.acts);
  below : l.height ≤ l.most;
  fits : l.most < 2 ^ 32;
}

abbrev pub invariant-branch_slots-loop-branch : goal.invariant-branch_slots-loop-branch
invariant-branch_slots-loop-branch l = record {
  rest : max l.most (branches_room (all_branches (drop l.branch-index l.branches))) ≡ branches_room (all_branches l.branches);
  fits : l.most < 2 ^ 32;
}

abbrev pub invariant-alternative_slots-loop-alternative : goal.invariant-alternative_slots-loop-alternative
invariant-alternative_slots-loop-alternative l = record {
  rest :
      max l.most (alternatives_room (all_alternatives (drop l.alternative-index l.alternatives)))
      ≡ alternatives_room (all_alternatives l.alternatives);
  fits : l.most < 2 ^ 32;
}

abbrev pub invariant-catcher_slots-loop-catcher : goal.invariant-catcher_slots-loop-catcher
invariant-catcher_slots-loop-catcher l = record {
  rest : max l.most (catchers_room (all_catchers (drop l.catcher-index l.catchers))) ≡ catchers_room (all_catchers l.catchers);
  fits : l.most < 2 ^ 32;
}
