-- What turns make of a link, one after the other.
use Rattle.std.proofs.{Common.{◌≡◌, ◌+◌, ◌-◌, List, ◌++◌, length, sym, ap, ◌∙◌, append_assoc}, lemmas.List.{append_cancel_right, length-map, map-append}, lemmas.List.FromFn.length-range_with_len}
use Rattle.std.specs.{Prelude.min, List.AllZip}
use Rattle.ason_base.specs.declared.limits.TheConstants.{MOST_FRAMES}
use Rattle.rtrb.specs.Ring.{received}
use Rattle.station_rings.specs.{declared.parcel.Parcel.Parcel, LinkStates.{AreEnds, LinkState, SameEnds}}
use Rattle.round_rules.specs.{Doings.Doing, Rings.got_from, Moves.{HasMoved, IsDrained}, States.{IsTakenFrom, parcel_numbers}}
use Rattle.round_rules.proofs.{Draining.drained-on, Moving.moved-then, Choosing.{ThroughMiddle, zip-more, zip-then}}

-- what came out of the ring meanwhile comes after what had come
pub came-more : (a b : LinkState) (m : HasMoved a b) → received b.into ≡ received a.into ++ m.came
came-more a b m = m.into

-- Ends

-- both ends of both rings stay where they are
pub ends-stay : (a b c d : LinkState) → AreEnds a b → SameEnds a c → SameEnds b d → AreEnds c d
ends-stay a b c d are f g = record {
  there = (
    g.into.0.0 ∙ are.there.0 ∙ sym f.out.0.0,
    g.into.0.1 ∙ are.there.1 ∙ sym f.out.0.1,
    g.into.0.2 ∙ are.there.2 ∙ sym f.out.0.2,
    g.into.0.3 ∙ are.there.3 ∙ sym f.out.0.3,
  );
  back = (
    f.into.0.0 ∙ are.back.0 ∙ sym g.out.0.0,
    f.into.0.1 ∙ are.back.1 ∙ sym g.out.0.1,
    f.into.0.2 ∙ are.back.2 ∙ sym g.out.0.2,
    f.into.0.3 ∙ are.back.3 ∙ sym g.out.0.3,
  );
  wide = f.out.1 ∙ are.wide;
  wide_back = g.out.1 ∙ are.wide_back;
}

-- Sending

-- how many frames went to the ring
pub sends-count : (a b : LinkState) (m : HasMoved a b) →
    length m.sends ≡ min (b.sent - a.sent) (MOST_FRAMES - a.standing)
sends-count a b m =
    sym (length-map m.sends (λ (p : Parcel). p.number)) ∙ ap length m.numbers
    ∙ length-range_with_len (a.sent + 1) (min (b.sent - a.sent) (MOST_FRAMES - a.standing))

-- all links moved, and then moved on
pub all-moved-twice : (xs ys zs : List LinkState) → AllZip HasMoved xs ys → AllZip HasMoved ys zs →
    AllZip HasMoved xs zs
all-moved-twice xs ys zs f g =
    zip-more (ThroughMiddle HasMoved HasMoved) HasMoved (λ a c b. moved-then a b.mid c b.one b.two) xs zs
    (zip-then HasMoved HasMoved xs ys zs f g)

-- what was drained stays so, whatever turns follow
pub all-drained-moved : (xs ys zs : List LinkState) → AllZip IsDrained xs ys → AllZip HasMoved ys zs →
    AllZip IsDrained xs zs
all-drained-moved xs ys zs f g =
    zip-more (ThroughMiddle IsDrained HasMoved) IsDrained (λ a c b. drained-on a b.mid c b.one b.two) xs zs
    (zip-then IsDrained HasMoved xs ys zs f g)

-- Taking

-- what was taken of the link is what its node took
pub taken-more : (ds es : List Doing) (a b : LinkState) → IsTakenFrom ds a → IsTakenFrom es b → (m : HasMoved a b) →
    got_from b.peer es ≡ got_from a.peer ds ++ parcel_numbers m.takes
taken-more ds es a b f g m =
    sym g.numbers ∙ ap parcel_numbers same ∙ map-append (λ (p : Parcel). p.number) f.taken m.takes
    ∙ ap (λ xs. xs ++ parcel_numbers m.takes) f.numbers
  where
    same : g.taken ≡ f.taken ++ m.takes
    same =
        append_cancel_right g.taken (f.taken ++ m.takes) b.early
        (sym g.came ∙ came-more a b m ∙ ap (λ ps. ps ++ m.came) f.came ∙ append_assoc f.taken a.early m.came
        ∙ ap (λ ps. f.taken ++ ps) m.taken ∙ sym (append_assoc f.taken m.takes b.early))
