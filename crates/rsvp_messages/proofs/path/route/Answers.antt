use Rattle.std.proofs.Common.{rules}
use Rattle.rsvp_messages.specs.Seen.{all_seen}
use Rattle.rsvp_messages.proofs.{Lookups.optional_at, Paths.{has_route, no_route, route_here}}
use Rattle.rsvp_messages.proofs.path.route.Goals as goal

pub returns-in-Some-Some : goal.returns-in-Some-Some
returns-in-Some-Some c = record {
  found = has_route (all_seen c.args.objects.now) c.in-Some-Some.body.now
      (optional_at 20 1 (all_seen c.args.objects.now) _ _ c.in-Some-Some.ensures.found c.in-Some-Some.field-0-is)
      _ c.read_route.ensures.found;
  only = λ route has. c.read_route.ensures.only route (route_here (all_seen c.args.objects.now) c.in-Some-Some.body.now
      (optional_at 20 1 (all_seen c.args.objects.now) _ _ c.in-Some-Some.ensures.found c.in-Some-Some.field-0-is)
      route has);
  not_message = λ e route has. c.read_route.ensures.not_message e route
      (route_here (all_seen c.args.objects.now) c.in-Some-Some.body.now
      (optional_at 20 1 (all_seen c.args.objects.now) _ _ c.in-Some-Some.ensures.found c.in-Some-Some.field-0-is)
      route has);
}

pub returns-in-None : goal.returns-in-None
returns-in-None c = record {
  found = search rules;
  only = search rules;
  not_message = λ e. no_route (all_seen c.args.objects.now) c.in-None.ensures.only;
}
