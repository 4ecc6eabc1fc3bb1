use Rattle.route_least.proofs.{Added.added, Guesses.guesses_kept, PlaceLists.node_within}
use Rattle.route_least.proofs.places.add_row.Goals as goal

pub push_arc-requires : goal.push_arc-requires
push_arc-requires c =
    let new = c.guessed_seat-2.new.places.items in
    node_within new c.in_ok-low.low c.args.row.now.low
    (c.in_ok-high.ensures.seated.kept c.in_ok-low.low c.args.row.now.low c.in_ok-low.ensures.seated.there)

pub push_arc-requires-2 : goal.push_arc-requires-2
push_arc-requires-2 c =
    let new = c.push_arc.new.places.items in
    node_within new c.in_ok-high.high c.args.row.now.high
    (c.in_ok-push_arc.ensures.nodes c.in_ok-high.high c.args.row.now.high c.in_ok-high.ensures.seated.there)

pub returns-clause-added : goal.returns-clause-added
returns-clause-added c =
    added c.args.places.now.items c.guessed_seat.new.places.items c.guessed_seat-2.new.places.items
    c.push_arc.new.places.items c.push_arc-2.new.places.items
    c.args.row.now c.args.index c.in_ok-low.low c.in_ok-high.high c.arc_of.result c.arc_of-2.result
    c.in_ok-low.ensures.seated c.in_ok-high.ensures.seated
    (record {
      row = c.arc_of.ensures.row;
      head = c.arc_of.ensures.head;
      link = c.arc_of.ensures.link;
      metric =
          c.arc_of.ensures.metric;
    })
    (record {
      row = c.arc_of-2.ensures.row;
      head = c.arc_of-2.ensures.head;
      link = c.arc_of-2.ensures.link;
      metric =
          c.arc_of-2.ensures.metric;
    })
    c.in_ok-push_arc.ensures c.in_ok-push_arc-2.ensures

pub returns-clause-guesses : goal.returns-clause-guesses
returns-clause-guesses c =
    let two = c.guessed_seat-2.new.places.items in
    let three = c.push_arc.new.places.items in
    let guesses = c.guessed_seat-2.new.guesses in
    guesses_kept three c.push_arc-2.new.places.items guesses c.in_ok-push_arc-2.ensures.nodes
    c.in_ok-push_arc-2.ensures.same
    (guesses_kept two three guesses c.in_ok-push_arc.ensures.nodes c.in_ok-push_arc.ensures.same
    c.in_ok-high.ensures.guesses)
