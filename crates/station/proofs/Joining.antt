-- Stations that are made, joined and looked at.
use Rattle.std.proofs.{Common.{◌≡◌, ◌≤◌, ◌*◌, ◌^◌, ℕ, false, nat_eq, List, [], ◌∷◌, ◌++◌, refl, sym, ap, ◌∙◌, subst, arith}, ByRecursion.All-append}
use Rattle.std.specs.{Prelude.{slice_get, slice_set, Some, IsTrue}, List.AllByRecursion}
use Rattle.ason_base.specs.declared.ids.NodeId.{NodeId}
use Rattle.mesh_nodes.specs.LocalNodes.{is_neighbour}
use Rattle.station_rings.specs.{declared.parcel.Parcel.Parcel, LinkStates.{IsLooked, IsNew, LinkState}}
use Rattle.round_rules.specs.{Entered.me_of, Moves.{AreApart, IsChangedAt, peers_of}, States.StationState}
use Rattle.round_rules.proofs.Places.{changed-peers, changed-set}
use Rattle.station.specs.{declared.parts.Parts.Parts, Fits.{LinkKeeps, PartsFit, StationFits, station_state}, Joined.{IsApartFrom, with_link, with_link_at}}
use Rattle.station.proofs.Fitting.{LinkStays, changed-keeps}
use Rattle.ason_base.proofs.Numbers.{apart-turned}

-- A new station

-- A link more

apart_more : (ns : List NodeId) (n : NodeId) → AreApart ns →
    AllByRecursion (λ (m : NodeId). nat_eq m.0 n.0 ≡ false) ns → AreApart (ns ++ n ∷ [])
apart_more [] n apart from = (tt, tt)
apart_more (m ∷ ns) n apart from = (
  All-append (λ (k : NodeId). nat_eq k.0 m.0 ≡ false) ns (n ∷ []) apart.0 (apart-turned m.0 n.0 from.0, tt),
  apart_more ns n apart.1 from.1,
)

peers_more : (links : List LinkState) (l : LinkState) → peers_of (links ++ l ∷ []) ≡ peers_of links ++ l.peer ∷ []
peers_more [] l = refl
peers_more (k ∷ links) l = ap (λ ns. k.peer ∷ ns) (peers_more links l)

pub joined-fits : (s : StationState) (n : NodeId) (l : LinkState) → IsNew n l →
    IsTrue (is_neighbour s.controller.node.place n) → IsApartFrom n s → StationFits s → StationFits (with_link s l)
joined-fits s n l new near apart fit = record {
  most = fit.most;
  count = fit.count;
  apart =
      subst AreApart (sym (peers_more s.links l))
      (subst (λ m. AreApart (peers_of s.links ++ m ∷ [])) (sym new.peer)
      (apart_more (peers_of s.links) n fit.apart apart));
  links =
      All-append (LinkKeeps s.controller.node.place s.controller.steps s.clock) s.links (l ∷ []) fit.links (
        record {
          near = subst (λ m. IsTrue (is_neighbour s.controller.node.place m)) (sym new.peer) near;
          few = subst (λ k. k ≤ 2 ^ 40 * s.controller.steps) (sym new.sent) (omega arith);
          old = subst (AllByRecursion (λ (q : Parcel). q.stamp ≤ s.clock)) (sym new.gone) tt;
        },
        tt,
      );
  held = fit.held;
}

-- A look

abbrev LookedFrom : LinkState → LinkState → Type 0
LookedFrom l m = (k : LinkState) × (j : LinkState) × IsLooked l m k j

looked_stays : (l m : LinkState) → LookedFrom l m → LinkStays l m
looked_stays l m is = record { peer = is.2.peer; sent = is.2.sent; gone = is.2.gone }

pub looked-fits : (s : StationState) (place : ℕ) (l m k j : LinkState) → slice_get s.links place ≡ Some l →
    IsLooked l m k j → StationFits s → StationFits (with_link_at s place m)
looked-fits s place l m k j at is fit = record {
  most = fit.most;
  count = fit.count;
  apart =
      subst AreApart
      (sym (changed-peers LookedFrom (λ a b f. f.2.peer) place s.links (slice_set s.links place m) changed)) fit.apart;
  links =
      changed-keeps LookedFrom looked_stays s.controller.node.place s.controller.steps s.clock place s.links
      (slice_set s.links place m) changed fit.links;
  held = fit.held;
}
  where
    changed : IsChangedAt LookedFrom place s.links (slice_set s.links place m)
    changed = changed-set LookedFrom s.links place l m at (k, j, is)

-- Parts

pub joined-parts : (p new : Parts) (n : NodeId) (l : LinkState) → IsNew n l →
    IsTrue (is_neighbour p.controller.node.place n) → IsApartFrom n (station_state p) →
    station_state new ≡ with_link (station_state p) l → new.me ≡ p.me → PartsFit p → PartsFit new
joined-parts p new n l is near apart same me fit = record {
  station = subst StationFits (sym same) (joined-fits (station_state p) n l is near apart fit.station);
  me = me ∙ fit.me ∙ ap me_of (sym same);
}

pub looked-parts : (p new : Parts) (place : ℕ) (l m k j : LinkState) → slice_get p.links.items place ≡ Some l →
    IsLooked l m k j → station_state new ≡ with_link_at (station_state p) place m → new.me ≡ p.me → PartsFit p →
    PartsFit new
looked-parts p new place l m k j at is same me fit = record {
  station = subst StationFits (sym same) (looked-fits (station_state p) place l m k j at is fit.station);
  me = me ∙ fit.me ∙ ap me_of (sym same);
}
