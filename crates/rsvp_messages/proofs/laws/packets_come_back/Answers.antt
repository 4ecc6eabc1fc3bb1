use Rattle.rsvp_messages.proofs.Packed.{packet_again}
use Rattle.rsvp_messages.proofs.laws.packets_come_back.Goals as goal

pub returns : goal.returns
returns c = packet_again (record {
  session = c.sessions_come_back.ensures;
  sender = c.senders_come_back.ensures;
  hop = c.hops_come_back.ensures;
  error = c.errors_come_back.ensures.if_id;
  label = c.labels_come_back.ensures;
  request = c.requests_come_back.ensures;
  route = c.routes_come_back.ensures;
  id = c.ids_come_back.ensures;
  set = c.label_sets_come_back.ensures;
  protection = c.protections_come_back.ensures;
  association = c.associations_come_back.ensures;
})
