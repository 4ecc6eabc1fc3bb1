use Rattle.round_laws.proofs.{InOrder.{hits-in_order, in-order_sweeps}, ByOne.{by-one_since, one-worker_goes}}
use Rattle.round_laws.proofs.in_order.every_round_in_order.Goals as goal

pub returns : goal.returns
returns c = record {
  one_worker = one-worker_goes;
  sweeps = λ t lines old new es valid is is_new leads whole have order.
      in-order_sweeps t valid c.every_world_run.ensures.topology c.every_world_run.ensures.image c.every_run.ensures.home
      lines old new es is is_new leads whole have order;
  soon = λ t es old posted new g k valid is leads none calm post is_posted rounds.
      hits-in_order t valid c.every_world_run.ensures.topology c.every_world_run.ensures.image
      c.every_run.ensures.home c.every_run.ensures.in_order c.every_world_run.ensures.quiet es old posted new g k is leads
      none calm post is_posted rounds;
  alone = λ t es old posted new g k valid is leads none calm post is_posted rounds.
      hits-in_order t valid c.every_world_run.ensures.topology c.every_world_run.ensures.image
      c.every_run.ensures.home c.every_run.ensures.in_order c.every_world_run.ensures.quiet es old posted new g k is leads
      none calm post is_posted
      (by-one_since t valid old k posted new is_posted rounds);
}
