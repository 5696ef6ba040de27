-- `graph::settle`: `Walk` says where the walk is. Its end, or a way as long as there are types, decides.
use Rattle.std.proofs.Common.{◌+◌, ◌-◌, length, drop, ap, ◌∙◌, arith, length-drop}
use Rattle.std.proofs.Math.Seq.{take_all}
use Rattle.std.proofs.Math.ListN.{length-set}
use Rattle.rules.proofs.05-Descent.{members_most}
use Rattle.type_set.specs.Set.{has}
use Rattle.lookup.proofs.Parents.{parent_below}
use Rattle.graph.specs.Graph.{reached}
use Rattle.graph.proofs.Laws.{walk_none, walk_up, walk_done, walk_down, settles_more, reached_none, reached_set, reached_below, too_long}
use Rattle.graph.proofs.settle.Goals as goal

pub loop-at-init : goal.loop-at-init
loop-at-init c =
    let long = c.requires.way_len in record {
      most = omega arith;
      long = long;
      walk = walk_none _ c.args.t c.args.way.now long c.requires.grounded;
      here = reached_none c.args.t c.args.way.now 128 (omega arith);
    }

pub unsettled_parent-requires : goal.unsettled_parent-requires
unsettled_parent-requires c =
    let l = c.loop-at in
    (c.requires.parental.0, reached_below c.requires.parental.0 c.args.t c.requires.parental.1 l.invariant.walk l.invariant.here)

pub overflow_cast-way : goal.overflow_cast-way
overflow_cast-way c = omega (arith, parent_below c.requires.parental.0 c.in-Some.ensures.parent)

pub loop-at-preserved-in-Some : goal.loop-at-preserved-in-Some
loop-at-preserved-in-Some c =
    let l = c.loop-at in
    let up = c.in-Some.ensures in record {
      most = omega arith;
      long = length-set l.way (l.at - 1) c.in-Some.a ∙ l.invariant.long;
      walk = walk_up l.invariant.walk l.invariant.here (omega arith) (omega arith) up.parent up.out;
      here = reached_set c.args.t l.way (l.at - 1) c.in-Some.a (omega arith);
    }

pub add-settled-requires : goal.add-settled-requires
add-settled-requires c =
    let l = c.loop-at in
    reached_below c.requires.parental.0 c.args.t c.requires.parental.1 l.invariant.walk l.invariant.here

pub returns-then-at-eq-TYPES : goal.returns-then-at-eq-TYPES
returns-then-at-eq-TYPES c =
    let l = c.loop-at in
    walk_done l.invariant.walk l.invariant.here c.in_default.ensures c.add-settled.ensures (omega arith)

pub loop-at-smaller : goal.loop-at-smaller
loop-at-smaller c =
    let l = c.loop-at in
    let small = reached_below c.requires.parental.0 c.args.t c.requires.parental.1 l.invariant.walk l.invariant.here in
    let more = settles_more l.invariant.walk l.invariant.here c.in_default.ensures c.add-settled.ensures (omega arith) small in
    omega (arith, members_most (has c.add-settled.result))

pub loop-at-preserved : goal.loop-at-preserved
loop-at-preserved c =
    let l = c.loop-at in record {
      most = omega arith;
      long = l.invariant.long;
      walk = walk_down l.invariant.walk l.invariant.here c.in_default.ensures c.add-settled.ensures (omega arith);
      here =
          c.reached-c.ensures
          ∙ ap (reached c.args.t) (take_all (length l.way - (l.at + 1)) (drop (l.at + 1) l.way) (omega (arith, length-drop (l.at + 1) l.way)));
    }

pub returns : goal.returns
returns c =
    let l = c.loop-at in
    too_long c.requires.parental.0 c.args.t c.requires.parental.1 l.invariant.walk l.invariant.long (omega arith)
