use Rattle.std.proofs.Common.{◌≡◌, map, take}
use Rattle.fleet.specs.{Commands.but_room, Posting.HaveRoom}
use Rattle.fleet.proofs.posts.make_room.Given as goal

abbrev pub invariant-loop-station : goal.invariant-loop-station
invariant-loop-station l = record {
  room : HaveRoom l.items (take l.station-index l.stations);
  same : map but_room l.stations ≡ map but_room l.fn.stations;
}
