-- A station may go to another thread.
use denote.Param.Send.{IsSend, recorded_send, struct_send, view_send}
use denote.Struct.Declared.{shape}
use Rattle.std.proofs.alloc.Global.TheSendSync as global
use Rattle.std.proofs.option.Option.TheSendSync as option
use Rattle.mgmt_view.specs.contracts.publisher.Publisher
use Rattle.mgmt_view.proofs.Sent.{publisher-send}
use Rattle.station.proofs.parts.Parts.TheSendSync as parts
use Rattle.station.specs.contracts.station.Station.{the_row}
use Rattle.station.specs.contracts.station.Station.TheInside as inside

pub station-send : IsSend the_row
station-send =
    view_send inside.the_row _ _ _ _
    (recorded_send inside.the_field.row _ _ inside.the_type.to_one
    (struct_send (shape inside.the_type) (
      global.the_field_send,
      (parts.the_field_send, (option.the_field_send Publisher.the_row publisher-send, tt)),
    )))
