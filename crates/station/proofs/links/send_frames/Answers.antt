use Rattle.std.proofs.{Common.{◌≡◌, ◌-◌, ◌∷◌, ◌∙◌, [], List, rules, length, refl, sym, ap, subst, take, arith}, lemmas.List.length-append}
use Rattle.std.specs.Vec.Iter.{drain_items}
use Rattle.round_rules.specs.Moves.{AreApart}
use Rattle.station.proofs.Sending.{may-still, sent-more, sent-peers, sent-start}
use Rattle.station.proofs.links.send_frames.Goals as goal

all-taken : {X : Type 0} (xs : List X) → take (length xs) xs ≡ xs
all-taken [] = refl
all-taken (x ∷ xs) = ap (λ ys. x ∷ ys) (all-taken xs)

pub loop-frame-init : goal.loop-frame-init
loop-frame-init c =
    let items = c.args.frames.now.items in
    let len : c.args.frames.now.len ≡ length items = search rules in
    let count : c.args.frames.now.len - 0 ≡ length items = omega (arith, len) in
    let all : drain_items c.into_iter-frame-iterator.result ≡ items =
    ap drain_items c.into_iter-frame-iterator.ensures.into_iter_gives ∙ c.drain-frame-items.ensures.rest
    ∙ ap (λ n. take n items) count ∙ all-taken items in
    record { sent = sent-start c.args.stamp c.args.links.now.items; many = omega (arith, ap length all) }

pub send_frame-requires-clause-apart : goal.send_frame-requires-clause-apart
send_frame-requires-clause-apart c =
    subst AreApart
    (sym (sent-peers c.args.stamp c.loop-frame.yielded c.args.links.now.items c.loop-frame.links.items
    c.loop-frame.invariant.sent)) c.requires.apart

pub send_frame-requires-clause-may : goal.send_frame-requires-clause-may
send_frame-requires-clause-may c =
    may-still c.args.stamp (length c.args.frames.now.items) c.loop-frame.yielded c.args.links.now.items
    c.loop-frame.links.items
    (omega (arith, c.loop-frame.invariant.many, ap length c.in-Some.ensures.steps.0)) c.loop-frame.invariant.sent
    c.requires.may

pub loop-frame-preserved : goal.loop-frame-preserved
loop-frame-preserved c = record {
  sent =
      sent-more c.args.stamp c.loop-frame.yielded c.in-Some.frame c.args.links.now.items c.loop-frame.links.items
      c.send_frame.new.links.items c.loop-frame.invariant.sent c.send_frame.ensures;
  many =
      omega (
        arith,
        c.loop-frame.invariant.many,
        ap length c.in-Some.ensures.steps.0,
        length-append c.loop-frame.yielded
            (c.in-Some.frame ∷ []),
      );
}
