-- Parcels that are held see a tick more.
use Rattle.std.proofs.Common.{◌≡◌, ◌≤◌, ◌<◌, ◌+◌, ◌^◌, ℕ, List, [], ◌∷◌, map, sym, ap, ◌∙◌, subst, arith}
use Rattle.std.specs.List.{AllByRecursion}
use Rattle.ason_base.specs.declared.limits.TheConstants.{MOST_EVENTS}
use Rattle.mesh_rules.specs.LocalNodes.{LocalNode}
use Rattle.round_rules.specs.{Entered.me_of, Stands.parcel_ticked, declared.held.HeldParcel.HeldParcel}
use Rattle.station.specs.{declared.parts.Parts.Parts, Fits.{HeldKeeps, PartsFit, StationFits, station_state}}

-- ticks can be counted
pub may-age : (p : LocalNode) (steps : ℕ) (hs : List HeldParcel) → steps ≤ MOST_EVENTS →
    AllByRecursion (HeldKeeps p steps) hs → AllByRecursion (λ (h : HeldParcel). h.ticks + 1 < 2 ^ 64) hs
may-age p steps [] most all = tt
may-age p steps (h ∷ hs) most all = (omega (arith, most, all.0.ticks), may-age p steps hs most all.1)

aged_keeps : (p q : LocalNode) (steps more : ℕ) (hs : List HeldParcel) → steps + 1 ≤ more →
    AllByRecursion (HeldKeeps q steps) hs → AllByRecursion (HeldKeeps p more) hs →
    AllByRecursion (HeldKeeps p more) (map parcel_ticked hs)
aged_keeps p q steps more [] le before all = tt
aged_keeps p q steps more (h ∷ hs) le before all = (
  record { near = all.0.near; ticks = omega (arith, le, before.0.ticks); bears = all.0.bears },
  aged_keeps p q steps more hs le before.1 all.1,
)

-- what is held apart, the parts are as they were
kept_parts : (old new : Parts) (held : List HeldParcel) → PartsFit old →
    station_state new ≡ record (station_state old) { held = held } → new.me ≡ old.me →
    AllByRecursion (HeldKeeps old.controller.node.place old.controller.steps) held → PartsFit new
kept_parts old new held fit same me keeps = record {
  station = subst StationFits (sym same) (record {
    most = fit.station.most;
    count = fit.station.count;
    apart = fit.station.apart;
    links = fit.station.links;
    held = keeps;
  });
  me = me ∙ fit.me ∙ ap me_of (sym same);
}

-- once the node ticked, so that its controller made a step more
pub aged-parts : (old mid new : Parts) → PartsFit old → PartsFit mid →
    mid.controller.steps ≡ old.controller.steps + 1 → mid.held.items ≡ old.held.items →
    new.held.items ≡ map parcel_ticked mid.held.items →
    station_state new ≡ record (station_state mid) { held = new.held.items } → new.me ≡ mid.me → PartsFit new
aged-parts old mid new before fit steps held aged same me =
    kept_parts mid new new.held.items fit same me
    (subst (AllByRecursion (HeldKeeps mid.controller.node.place mid.controller.steps)) (sym aged)
    (aged_keeps mid.controller.node.place old.controller.node.place old.controller.steps mid.controller.steps
    mid.held.items (omega (arith, steps))
    (subst (AllByRecursion (HeldKeeps old.controller.node.place old.controller.steps)) (sym held)
    before.station.held) fit.station.held))

-- Parcels that are let go

-- without the first
pub held-parts : (p new : Parts) (h : HeldParcel) (rest : List HeldParcel) → p.held.items ≡ h ∷ rest →
    station_state new ≡ record (station_state p) { held = rest } → new.me ≡ p.me → PartsFit p → PartsFit new
held-parts p new h rest first same me fit =
    kept_parts p new rest fit same me
    (subst (AllByRecursion (HeldKeeps p.controller.node.place p.controller.steps)) first fit.station.held).1
