use Rattle.std.proofs.{Common.{◌≤◌, ◌<◌, ◌∷◌, [], length, sym, ap, ◌∙◌, subst, take, arith}, Math.Seq.map-set_same, lemmas.List.take_more_set, ByRecursion.All-append}
use Rattle.round_rules.specs.States.{StationState}
use Rattle.fleet.specs.{Commands.but_room, Posting.HaveRoom}
use Rattle.fleet.proofs.posts.make_room.Goals as goal

pub loop-station-preserved : goal.loop-station-preserved
loop-station-preserved c =
    let xs = c.loop-station.stations in
    let i = c.loop-station.station-index in
    let y = c.make_room.new.self in
    let within : i < length xs = omega (arith, c.loop-station-test.true, c.loop-station.auto.stations) in
    record {
      room =
          subst (HaveRoom c.args.items) (sym (take_more_set xs i y within))
          (All-append (λ (s : StationState). c.args.items ≤ s.spare) (take i xs) (y ∷ []) c.loop-station.invariant.room
          (c.in_ok-make_room.ensures.ok, tt));
      same =
          map-set_same but_room xs i y c.station-item.result
          (ap but_room c.make_room.ensures.same) ∙ c.loop-station.invariant.same;
    }
