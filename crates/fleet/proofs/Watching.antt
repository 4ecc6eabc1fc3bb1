-- A node that is watched from now on.
use Rattle.std.proofs.Common.{◌≡◌, refl, sym, ap, ◌∙◌, subst}
use Rattle.std.specs.Prelude.{Result, Ok, Err, slice_set}
use Rattle.ason_base.specs.declared.ids.NodeId.{NodeId}
use Rattle.mgmt_view.specs.Viewing.{ViewerState}
use Rattle.round_rules.specs.States.{StationState}
use Rattle.station.specs.{Watched.{Watches, with_publisher}, declared.watching.WatchFault.WatchFault}
use Rattle.station.specs.declared.watching.WatchFault.TheVariants as fault
use Rattle.fleet.specs.{Commands.FleetStandsOn, Standing.{FleetState, StandsFor}, Views.WatchesAt}
use Rattle.fleet.proofs.{Places.zip-set, Published.{SameBut, published-stands}}

-- its links stay
pub watches-links : (r : Result ViewerState WatchFault) (x y : StationState) → Watches r x y → y.links ≡ x.links
watches-links (Ok v) x y is = ap (λ (s : StationState). s.links) is.station
watches-links (Err fault.Watched) x y is = ap (λ (s : StationState). s.links) is.1
watches-links (Err fault.OutOfMemory) x y is = ap (λ (s : StationState). s.links) is.1

-- nothing differs but what it publishes
watches_but : (r : Result ViewerState WatchFault) (x y : StationState) → Watches r x y → SameBut x y
watches_but (Ok v) x y is =
    is.station ∙ ap (with_publisher x) (sym (ap (λ (s : StationState). s.publisher) is.station))
watches_but (Err fault.Watched) x y is =
    is.1 ∙ ap (with_publisher x) (sym (ap (λ (s : StationState). s.publisher) is.1))
watches_but (Err fault.OutOfMemory) x y is =
    is.1 ∙ ap (with_publisher x) (sym (ap (λ (s : StationState). s.publisher) is.1))

-- so the fleet stands for the same records
pub watches-stand : (n : NodeId) (r : Result ViewerState WatchFault) (old new : FleetState) → WatchesAt n r old new →
    FleetStandsOn old new
watches-stand n r old new is t lines made s =
    subst (λ x. StandsFor t lines x made) (sym is.fleet)
    (published-stands t lines old made (slice_set old.stations is.place is.after)
    (zip-set SameBut (λ x. refl) old.stations is.place is.before is.after is.there
    (watches_but r is.before is.after is.watches)) s)
