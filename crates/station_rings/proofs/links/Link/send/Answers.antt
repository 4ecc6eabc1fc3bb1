use Rattle.std.proofs.Common.{◌≡◌, ◌≤◌, ◌+◌, sym, subst, arith}
use Rattle.std.specs.List.{AllByRecursion}
use Rattle.station_rings.specs.{declared.parcel.Parcel.Parcel, Links.with_parcel, LinkStates.{LinkState, view_of}}
use Rattle.station_rings.proofs.{Ordered.{all-then, numbers-below}, Sending.{not-less, sent-dropped}}
use Rattle.station_rings.proofs.links.Link.send.Goals as goal

pub invariant_of-self : goal.invariant_of-self
invariant_of-self c = record {
  few = omega (arith, c.put.ensures.longer, c.self.invariant.few);
  most = omega (arith, c.if-self-lt-MOST_FRAMES.true, c.self.invariant.most);
  order = c.put.ensures.order;
  numbers =
      subst (AllByRecursion (λ (p : Parcel). p.number ≤ c.self.inside.sent + 1)) (sym c.put.ensures.gone)
      (all-then (λ (p : Parcel). p.number ≤ c.self.inside.sent + 1) _ _
      (numbers-below c.self.inside.sent _ c.self.invariant.numbers) (omega arith));
  early_few = c.self.invariant.early_few;
  bears = c.self.invariant.bears;
}

pub invariant_of-self-else-self-lt-MOST_FRAMES : goal.invariant_of-self-else-self-lt-MOST_FRAMES
invariant_of-self-else-self-lt-MOST_FRAMES c = record {
  few = c.self.invariant.few;
  most = c.self.invariant.most;
  order = c.self.invariant.order;
  numbers = numbers-below c.self.inside.sent _ c.self.invariant.numbers;
  early_few = c.self.invariant.early_few;
  bears = c.self.invariant.bears;
}

pub returns-else-self-lt-MOST_FRAMES-clause-sent : goal.returns-else-self-lt-MOST_FRAMES-clause-sent
returns-else-self-lt-MOST_FRAMES-clause-sent c =
    let v : LinkState = record {
      peer = c.self.inside.peer;
      used = c.self.inside.used;
      sent = c.self.inside.sent;
      standing = c.self.inside.standing;
      out = c.self.inside.out;
      backlog = c.self.inside.backlog;
      into = c.self.inside.into;
      early = c.self.inside.early;
    } in
    subst
    (λ (l : LinkState). view_of (record v { sent = v.sent + 1 })
    ≡ with_parcel c.args.stamp c.args.frame (view_of l))
    c.self.view_is (sent-dropped v c.args.stamp c.args.frame
    (not-less c.self.inside.standing c.if-self-lt-MOST_FRAMES.false))
