-- What a Path, a Resv and a PathTear say, and where they come from: u is the sender. A message of another kind says
-- nothing of it.
use Rattle.std.specs.Prelude.{Option, Some, None}
use Rattle.ason_base.specs.{declared.ids.NodeId.NodeId, declared.messages.Msg.Msg, declared.messages.Msg.TheVariants.{Path, Resv, PathTear, PathErr, Notify}}
use Rattle.mesh_rules.specs.{declared.arrivals.Arrival.Arrival, declared.arrivals.GivenLabel.GivenLabel, Messages.arrival, Paths.PathRequest}

-- a message that names the link that it comes by
abbrev pub arrival_of : NodeId → Msg → Option Arrival
arrival_of u (Path l e k route set up r) = Some (arrival l e u k)
arrival_of u (Resv l e k x) = Some (arrival l e u k)
arrival_of u (PathTear l e k) = Some (arrival l e u k)
arrival_of u (PathErr l e at gone code) = None
arrival_of u (Notify l e at k code) = None

abbrev pub path_request : NodeId → Msg → Option PathRequest
path_request u (Path l e k route set up r) =
    Some (record { arrival = arrival l e u k; route = route; set = set; upstream = up; role = r })
path_request u (Resv l e k x) = None
path_request u (PathTear l e k) = None
path_request u (PathErr l e at gone code) = None
path_request u (Notify l e at k code) = None

abbrev pub given_label : NodeId → Msg → Option GivenLabel
given_label u (Path l e k route set up r) = None
given_label u (Resv l e k x) = Some (record { arrival = arrival l e u k; label = x })
given_label u (PathTear l e k) = None
given_label u (PathErr l e at gone code) = None
given_label u (Notify l e at k code) = None

abbrev pub torn_arrival : NodeId → Msg → Option Arrival
torn_arrival u (Path l e k route set up r) = None
torn_arrival u (Resv l e k x) = None
torn_arrival u (PathTear l e k) = Some (arrival l e u k)
torn_arrival u (PathErr l e at gone code) = None
torn_arrival u (Notify l e at k code) = None
