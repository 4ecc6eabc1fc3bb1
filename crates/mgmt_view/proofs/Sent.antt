-- A publisher may go to another thread.
use denote.Param.Send.{IsSend, sendable}
use Rattle.std.proofs.Crossing.{crosses}
use Rattle.std.proofs.alloc.Global.TheSendSync as global
use Rattle.std.proofs.option.Option.TheSendSync as option
use Rattle.left_right.proofs.desk.Desk.TheSendSync as desk
use Rattle.left_right.proofs.reader.Factory.TheSendSync as factory
use Rattle.left_right.proofs.writer.Writer.TheSendSync as writer
use Rattle.mgmt_view.proofs.node_table.NodeTable.TheSendSync as table
use Rattle.mgmt_view.proofs.past.Past.TheLaws.TheKnot as past
use Rattle.mgmt_view.specs.contracts.publisher.Publisher.{the_row}

pub publisher-send : IsSend the_row
publisher-send = search (
  option.the_field_send,
  desk.the_field_send,
  factory.the_field_send,
  writer.the_field_send,
  writer.the_send,
  table.the_field_send,
  table.the_send,
  table.the_field_sync,
  global.the_field_send,
  global.the_send,
  global.the_field_sync,
  global.the_sync,
  crosses,
  past.crosses,
  sendable,
) depth 60 fits 20000
