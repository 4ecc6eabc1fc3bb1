use Rattle.std.proofs.{Common.{◌≡◌, ◌∙◌, ◌++◌, ◌∷◌, [], ◌<◌, false, true, length, set, sym, subst, ap, arith, length-set}, lemmas.List.{length-replicate, nil_from_length}, lemmas.List.Elements.{All-contains, Contains-push}}
use Rattle.std.specs.List.{Contains}
use Rattle.route_least.specs.{Costs.is_place_marked, Marking.{AreMarking, Crosses}}
use Rattle.route_least.proofs.AllMarked.{all_marked, first_marking, marked_round, round_fewer, round_len}
use Rattle.route_least.proofs.leading.leading.Goals as goal

pub loop-place-init : goal.loop-place-init
loop-place-init c =
    let goes = Crosses c.args.places.now c.args.closed.now in
    let n = length c.args.places.now in
    record {
      len = length-set c.in_ok-marks.marks.items c.args.end true ∙ ap length c.in_ok-marks.ensures ∙
          length-replicate n false;
      marking = subst (λ waiting. AreMarking goes c.args.costs.now c.args.end
          (set c.in_ok-marks.marks.items c.args.end true) waiting) (sym c.in_ok-push.ensures.items)
          (subst (λ marks. AreMarking goes c.args.costs.now c.args.end (set marks c.args.end true)
          (c.new-waiting.result.items ++ c.args.end ∷ [])) (sym c.in_ok-marks.ensures)
          (first_marking goes c.args.costs.now n c.args.end c.new-waiting.result.items c.new-waiting.ensures.items
          c.requires.end));
    }

pub mark_before-requires-clause-place : goal.mark_before-requires-clause-place
mark_before-requires-clause-place c =
    let m = c.loop-place.invariant.marking in
    let waits = subst (λ xs. Contains xs c.in-Some.place) (sym c.in-Some.ensures.items)
    (Contains-push c.pop.new.self.items c.in-Some.place) in
    subst (λ n. c.in-Some.place < n) c.loop-place.invariant.len
    (All-contains (λ p. p < length c.loop-place.marks.items) c.loop-place.waiting.items c.in-Some.place m.within
    waits)

pub mark_before-requires-clause-marks : goal.mark_before-requires-clause-marks
mark_before-requires-clause-marks c = ap length c.deref_mut.ensures.value ∙ c.loop-place.invariant.len

pub mark_before-requires-clause-marked : goal.mark_before-requires-clause-marked
mark_before-requires-clause-marked c =
    let m = c.loop-place.invariant.marking in
    let waits = subst (λ xs. Contains xs c.in-Some.place) (sym c.in-Some.ensures.items)
    (Contains-push c.pop.new.self.items c.in-Some.place) in
    subst (λ marks. is_place_marked marks c.in-Some.place ≡ true) (sym c.deref_mut.ensures.value)
    (m.marked c.in-Some.place waits)

pub loop-place-smaller : goal.loop-place-smaller
loop-place-smaller c =
    round_fewer c.loop-place.marks.len c.in-Some.place c.loop-place.marks.items c.deref_mut.result.now
    c.mark_before.new.marks c.loop-place.waiting.items c.pop.new.self.items c.mark_before.new.waiting.items
    c.in-Some.ensures.items c.deref_mut.ensures.value c.deref_mut.ensures.len c.mark_before.auto.marks
    c.in_ok-mark_before.ensures.marked

pub loop-place-preserved : goal.loop-place-preserved
loop-place-preserved c = record {
  len =
      round_len c.loop-place.marks.len c.in-Some.place c.loop-place.marks.items c.deref_mut.result.now
      c.mark_before.new.marks c.loop-place.waiting.items c.pop.new.self.items c.mark_before.new.waiting.items
      c.in-Some.ensures.items c.deref_mut.ensures.value c.deref_mut.ensures.len c.mark_before.auto.marks
      c.in_ok-mark_before.ensures.marked
      ∙ c.loop-place.invariant.len;
  marking =
      marked_round c.loop-place.marks.len c.in-Some.place c.loop-place.marks.items c.deref_mut.result.now
      c.mark_before.new.marks c.loop-place.waiting.items c.pop.new.self.items c.mark_before.new.waiting.items
      c.in-Some.ensures.items c.deref_mut.ensures.value c.deref_mut.ensures.len c.mark_before.auto.marks
      c.in_ok-mark_before.ensures.marked
      (Crosses c.args.places.now c.args.closed.now) c.args.costs.now c.args.end c.loop-place.invariant.marking
      (c.in_ok-mark_before.ensures.onward c.args.end) c.in_ok-mark_before.ensures.before;
}

pub returns-clause-len : goal.returns-clause-len
returns-clause-len c = c.loop-place.invariant.len

pub returns-clause-marked : goal.returns-clause-marked
returns-clause-marked c =
    all_marked (Crosses c.args.places.now c.args.closed.now) c.args.costs.now c.args.end c.loop-place.marks.items
    c.loop-place.waiting.items (nil_from_length c.loop-place.waiting.items
    (let z = c.in_default.ensures.cases.0 in let e : length c.loop-place.waiting.items ≡ 0 =
    omega (arith, z) in e)) c.loop-place.invariant.marking
