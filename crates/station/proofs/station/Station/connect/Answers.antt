use Rattle.std.proofs.Common.{◌≡◌, ◌∷◌, [], ◌++◌, refl, sym, ap, ◌∙◌, subst}
use Rattle.std.specs.Prelude.{IsTrue}
use Rattle.mesh_nodes.specs.LocalNodes.{is_neighbour}
use Rattle.station_rings.specs.LinkStates.{IsNew}
use Rattle.round_rules.specs.{Entered.me_of, States.StationState}
use Rattle.station.specs.{Fits.station_state, Joined.{IsApartFrom, with_link}, Watched.with_publisher}
use Rattle.station.proofs.Joining.{joined-parts}
use Rattle.station.proofs.station.Station.connect.Goals as goal

pub invariant_of-a-2 : goal.invariant_of-a-2
invariant_of-a-2 c =
    let a = c.a.inside.parts in
    let n = me_of c.args.b.now in
    let me : c.b.inside.parts.me ≡ n = c.b.invariant.me ∙ ap me_of c.b.view_is in
    joined-parts a _ n c.in_ok-here.here (subst (λ m. IsNew m c.in_ok-here.here) me c.in_ok-here.ensures.first)
    (subst (λ (s : StationState). IsTrue (is_neighbour s.controller.node.place n)) (sym c.a.view_is) c.requires.there)
    (subst (IsApartFrom n) (sym c.a.view_is) c.requires.apart)
    (λ i. record (station_state a) {
      links = (c.attach.ensures
          ∙ ap (λ ls. ls ++ c.in_ok-here.here ∷ []) c.reserve.ensures.items) i;
    })
    refl c.a.invariant

pub invariant_of-b-2 : goal.invariant_of-b-2
invariant_of-b-2 c =
    let b = c.b.inside.parts in
    let n = me_of c.args.a.now in
    let me : c.a.inside.parts.me ≡ n = c.a.invariant.me ∙ ap me_of c.a.view_is in
    joined-parts b _ n c.in_ok-here.there (subst (λ m. IsNew m c.in_ok-here.there) me c.in_ok-here.ensures.second)
    (subst (λ (s : StationState). IsTrue (is_neighbour s.controller.node.place n)) (sym c.b.view_is) c.requires.back)
    (subst (IsApartFrom n) (sym c.b.view_is) c.requires.apart_back)
    (λ i. record (station_state b) {
      links = (c.attach-2.ensures
          ∙ ap (λ ls. ls ++ c.in_ok-here.there ∷ []) c.reserve-2.ensures.items) i;
    })
    refl c.b.invariant

pub returns-clause-ok : goal.returns-clause-ok
returns-clause-ok c =
    let a = c.a.inside.parts in
    let b = c.b.inside.parts in
    record {
      here = c.in_ok-here.here;
      there = c.in_ok-here.there;
      ends = c.in_ok-here.ensures.ends;
      first =
          (λ i. record (with_publisher (station_state a) c.a.inside.publisher) {
            links = (c.attach.ensures
                ∙ ap (λ ls. ls ++ c.in_ok-here.here ∷ []) c.reserve.ensures.items) i;
          })
          ∙ ap (λ s. with_link s c.in_ok-here.here) c.a.view_is;
      second =
          (λ i. record (with_publisher (station_state b) c.b.inside.publisher) {
            links = (c.attach-2.ensures
                ∙ ap (λ ls. ls ++ c.in_ok-here.there ∷ []) c.reserve-2.ensures.items) i;
          })
          ∙ ap (λ s. with_link s c.in_ok-here.there) c.b.view_is;
      new =
          subst (λ m. IsNew m c.in_ok-here.here) (c.b.invariant.me ∙ ap me_of c.b.view_is)
          c.in_ok-here.ensures.first;
      new_back =
          subst (λ m. IsNew m c.in_ok-here.there) (c.a.invariant.me ∙ ap me_of c.a.view_is)
          c.in_ok-here.ensures.second;
    }
