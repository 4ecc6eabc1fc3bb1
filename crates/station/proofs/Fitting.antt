-- What holds of every station holds after each event.
use Rattle.std.proofs.{Common.{◌≡◌, ◌≤◌, ◌<◌, ◌+◌, ◌*◌, ◌^◌, ◌⊎◌, inl, inr, ℕ, zero, suc, Bool, true, false, nat_lt, List, [], ◌∷◌, length, refl, sym, ap, ◌∙◌, subst, arith}, lemmas.List.length-append, lemmas.Option.{none-some, same_Some}}
use Rattle.std.specs.{Prelude.{◌&&◌, slice_get, Some, IsTrue}, List.{AllByRecursion, AllZip}}
use Rattle.ason_base.specs.{declared.limits.TheConstants.MOST_EVENTS, declared.commands.Event.Event, declared.ids.NodeId.NodeId}
use Rattle.hop_reliable.proofs.Members.{each-more}
use Rattle.mesh_nodes.specs.LocalNodes.{is_neighbour}
use Rattle.mesh_rules.specs.LocalNodes.{LocalNode}
use Rattle.control_channels.specs.{declared.frames.Frame.Frame, declared.inputs.CoreInput.CoreInput, Controllers.{ControllerState, IsControllerStep}, Frames.{AllSpelled, Sending, frames_to}}
use Rattle.control_channels.specs.declared.inputs.CoreInput.TheVariants as input
use Rattle.station_rings.specs.{declared.parcel.Parcel.Parcel, LinkStates.{LinkState, gone_of}}
use Rattle.round_rules.specs.{Entered.{HasEntered, able}, PartLimits.IsAtLimit, Moves.{AreApart, IsChangedAt, IsSentOver, peers_of}, States.StationState, declared.held.HeldParcel.HeldParcel}
use Rattle.round_rules.proofs.Moving.{moved-sent}
use Rattle.station.specs.{declared.parts.Parts.Parts, Fits.{HeldKeeps, LinkKeeps, PartsFit, StationFits, station_state}, Desks.DeskState, Leads.IsInputRead, Sending.{BearsAll, MaySend}}
use Rattle.station.proofs.Sending.{over-below, over-sent, sent-peers}

-- Frames that a controller sends

spelled_all : (me : NodeId) (ss : List Sending) → AllSpelled me ss → BearsAll (frames_to me ss)
spelled_all me [] all = tt
spelled_all me (s ∷ ss) all = ((s.content, all.0), spelled_all me ss all.1)

-- each bears something
pub frames-bear : (c d : ControllerState) (i : CoreInput) (frames : List Frame) → IsInputRead i →
    IsControllerStep c d i frames →
    BearsAll frames
frames-bear c d (input.Frame u bytes) frames read is = elim read [
  | inl some ↦ (let m = (is.reaction.0 some.0 some.1).made in
      subst BearsAll (sym m.frames) (spelled_all c.node.place.id _ m.spelled))
  | inr none ↦ subst BearsAll (sym (is.reaction.1 none).made.frames) tt
]
frames-bear c d input.Tick frames read is =
    subst BearsAll (sym is.reaction.made.frames) (spelled_all c.node.place.id _ is.reaction.made.spelled)
frames-bear c d (input.Desk i) frames read is =
    subst BearsAll (sym is.reaction.made.frames) (spelled_all c.node.place.id _ is.reaction.made.spelled)

-- Links

higher : (a b : ℕ) (ps : List Parcel) → a ≤ b → AllByRecursion (λ (p : Parcel). p.stamp ≤ a) ps →
    AllByRecursion (λ (p : Parcel). p.stamp ≤ b) ps
higher a b [] le all = tt
higher a b (p ∷ ps) le all = (omega (arith, le, all.0), higher a b ps le all.1)

-- frames can be sent
pub may-send : (p : LocalNode) (steps clock stamp count : ℕ) (links : List LinkState) → steps < MOST_EVENTS →
    count ≤ 2 ^ 40 → clock ≤ stamp → AllByRecursion (LinkKeeps p steps clock) links →
    AllByRecursion (MaySend count stamp) links
may-send p steps clock stamp count [] few most le all = tt
may-send p steps clock stamp count (l ∷ links) few most le all = (
  record {
    numbers = less l.sent all.0.few;
    stamps = higher clock stamp (gone_of l) le all.0.old;
  },
  may-send p steps clock stamp count links few most le all.1,
)
  where
    less : (a : ℕ) → a ≤ 2 ^ 40 * steps → a + count < 2 ^ 64
    less a h = omega (arith, h, few, most)

links_fit : (p : LocalNode) (steps clock stamp : ℕ) (fs : List Frame) (xs ys : List LinkState) →
    clock ≤ stamp → length fs ≤ 2 ^ 40 → AllZip (IsSentOver stamp fs) xs ys →
    AllByRecursion (LinkKeeps p steps clock) xs → AllByRecursion (LinkKeeps p (steps + 1) stamp) ys
links_fit p steps clock stamp fs [] [] le most sent all = tt
links_fit p steps clock stamp fs [] (y ∷ ys) le most sent all = absurd sent
links_fit p steps clock stamp fs (x ∷ xs) [] le most sent all = absurd sent
links_fit p steps clock stamp fs (x ∷ xs) (y ∷ ys) le most sent all = (
  record {
    near =
        subst (λ (n : NodeId). IsTrue (is_neighbour p n)) (sym (moved-sent stamp fs x y sent.0).0.peer) all.0.near;
    few = more y.sent x.sent (length fs) (over-sent stamp fs x y sent.0) most all.0.few;
    old = over-below stamp fs x y sent.0 (higher clock stamp (gone_of x) le all.0.old);
  },
  links_fit p steps clock stamp fs xs ys le most sent.1 all.1,
)
  where
    more : (a b c : ℕ) → a ≤ b + c → c ≤ 2 ^ 40 → b ≤ 2 ^ 40 * steps → a ≤ 2 ^ 40 * (steps + 1)
    more a b c h i j = omega (arith, h, i, j)

held_later : (p : LocalNode) (steps : ℕ) (h : HeldParcel) → HeldKeeps p steps h → HeldKeeps p (steps + 1) h
held_later p steps h is = record { near = is.near; ticks = omega (arith, is.ticks); bears = is.bears }

-- an event of the station
pub entered-fits : (i : CoreInput) (e : Event) (stamp : ℕ) (old new : StationState)
    (r : HasEntered i e stamp old new) → length r.frames ≤ 2 ^ 40 →
    new.controller.node.place ≡ old.controller.node.place → StationFits old → StationFits new
entered-fits i e stamp old new r most place fit = record {
  most = omega (arith, r.few, r.step.steps);
  count =
      ap length r.log ∙ length-append old.log _ ∙ ap (λ k. k + 1) fit.count ∙ sym r.step.steps;
  apart = subst AreApart (sym (sent-peers stamp r.frames old.links new.links r.links)) fit.apart;
  links =
      subst (λ (p : LocalNode). AllByRecursion (LinkKeeps p new.controller.steps new.clock) new.links) (sym place)
      (subst (λ k. AllByRecursion (LinkKeeps old.controller.node.place k new.clock) new.links) (sym r.step.steps)
      (subst (λ k. AllByRecursion (LinkKeeps old.controller.node.place (old.controller.steps + 1) k) new.links)
      (sym r.clock)
      (links_fit old.controller.node.place old.controller.steps old.clock stamp r.frames old.links new.links
      (omega (arith, r.above)) most r.links fit.links)));
  held =
      subst (λ (p : LocalNode). AllByRecursion (HeldKeeps p new.controller.steps) new.held) (sym place)
      (subst (λ k. AllByRecursion (HeldKeeps old.controller.node.place k) new.held) (sym r.step.steps)
      (subst (AllByRecursion (HeldKeeps old.controller.node.place (old.controller.steps + 1))) (sym r.held)
      (each-more (HeldKeeps old.controller.node.place old.controller.steps)
      (HeldKeeps old.controller.node.place (old.controller.steps + 1))
      (held_later old.controller.node.place old.controller.steps) old.held fit.held)));
}

-- Parts

pub parts-entered : (i : CoreInput) (e : Event) (stamp : ℕ) (old new : Parts)
    (r : HasEntered i e stamp (station_state old) (station_state new)) → length r.frames ≤ 2 ^ 40 →
    new.controller.node.place ≡ old.controller.node.place → new.me ≡ old.me → PartsFit old → PartsFit new
parts-entered i e stamp old new r most place me fit = record {
  station = entered-fits i e stamp (station_state old) (station_state new) r most place fit.station;
  me = me ∙ fit.me ∙ ap (λ (p : LocalNode). p.id) (sym place);
}

-- with another desk
pub desk-fits : (p : Parts) (d : DeskState) → PartsFit p → PartsFit (record p { desk = d })
desk-fits p d fit = record {
  station = record {
    most = fit.station.most;
    count = fit.station.count;
    apart = fit.station.apart;
    links = fit.station.links;
    held = fit.station.held;
  };
  me = fit.me;
}

-- a log that has room for a line has fewer than 50,000
pub able-few : (lines stamp : ℕ) → able lines stamp ≡ true → lines < MOST_EVENTS
able-few lines stamp e = go (nat_lt lines MOST_EVENTS) refl e
  where
    below : nat_lt lines MOST_EVENTS ≡ true → lines < MOST_EVENTS
    below h = grind (arith, h)

    go : (b : Bool) → nat_lt lines MOST_EVENTS ≡ b → (b && nat_lt stamp (2 ^ 64)) ≡ true → lines < MOST_EVENTS
    go true f h = below f
    go false f h = absurd (cc (h))

fewer : (a b : ℕ) → a ≡ b → a < MOST_EVENTS → b < MOST_EVENTS
fewer a b e h = omega (arith, e, h)

-- so its controller makes another step
pub few-steps : (s : StationState) (stamp : ℕ) → able (length s.log) stamp ≡ true → StationFits s →
    s.controller.steps < MOST_EVENTS
few-steps s stamp e fit =
    fewer (length s.log) s.controller.steps fit.count (able-few (length s.log) stamp e)

-- Places

-- the link at this place leads to a neighbour
pub near-at : (p : LocalNode) (steps clock i : ℕ) (u : NodeId) (links : List LinkState) →
    AllByRecursion (LinkKeeps p steps clock) links → slice_get (peers_of links) i ≡ Some u →
    IsTrue (is_neighbour p u)
near-at p steps clock i u [] all at = absurd (none-some u at)
near-at p steps clock zero u (l ∷ links) all at =
    subst (λ (n : NodeId). IsTrue (is_neighbour p n)) (same_Some l.peer u at) all.0.near
near-at p steps clock (suc i) u (l ∷ links) all at = near-at p steps clock i u links all.1 at

-- a change that leaves the neighbour and what was sent
pub record LinkStays (l m : LinkState) : Type 0 where
  pub peer : m.peer ≡ l.peer
  pub sent : m.sent ≡ l.sent
  pub gone : gone_of m ≡ gone_of l

keeps_still : (p : LocalNode) (steps clock : ℕ) (l m : LinkState) → LinkStays l m → LinkKeeps p steps clock l →
    LinkKeeps p steps clock m
keeps_still p steps clock l m s is = record {
  near = subst (λ (n : NodeId). IsTrue (is_neighbour p n)) (sym s.peer) is.near;
  few = subst (λ k. k ≤ 2 ^ 40 * steps) (sym s.sent) is.few;
  old = subst (AllByRecursion (λ (q : Parcel). q.stamp ≤ clock)) (sym s.gone) is.old;
}

pub changed-keeps : (R : LinkState → LinkState → Type 0) → ((l m : LinkState) → R l m → LinkStays l m) →
    (p : LocalNode) (steps clock i : ℕ) (links after : List LinkState) → IsChangedAt R i links after →
    AllByRecursion (LinkKeeps p steps clock) links → AllByRecursion (LinkKeeps p steps clock) after
changed-keeps R f p steps clock i [] after is all = absurd is
changed-keeps R f p steps clock i (l ∷ links) [] is all = absurd is
changed-keeps R f p steps clock zero (l ∷ links) (m ∷ after) is all = (
  keeps_still p steps clock l m (f l m is.0) all.0,
  subst (AllByRecursion (LinkKeeps p steps clock)) (sym is.1) all.1,
)
changed-keeps R f p steps clock (suc i) (l ∷ links) (m ∷ after) is all = (
  subst (LinkKeeps p steps clock) (sym is.0) all.0,
  changed-keeps R f p steps clock i links after is.1 all.1,
)

-- The limit

-- a log that has no room for a line, or a stamp that isn't one of 64 bits
pub full-or-last : (lines stamp : ℕ) → able lines stamp ≡ false → (MOST_EVENTS ≤ lines) ⊎ (2 ^ 64 ≤ stamp)
full-or-last lines stamp e = go (nat_lt lines MOST_EVENTS) (nat_lt stamp (2 ^ 64)) refl refl e
  where
    past : (a b : ℕ) → nat_lt a b ≡ false → b ≤ a
    past a b h = grind (arith, h)

    go : (b c : Bool) → nat_lt lines MOST_EVENTS ≡ b → nat_lt stamp (2 ^ 64) ≡ c → (b && c) ≡ false →
        (MOST_EVENTS ≤ lines) ⊎ (2 ^ 64 ≤ stamp)
    go false c f g h = inl (past lines MOST_EVENTS f)
    go true false f g h = inr (past stamp (2 ^ 64) g)
    go true true f g h = absurd (cc (h))

-- an input that would have taken the next stamp
pub next-limit : (s : StationState) → able (length s.log) (s.clock + 1) ≡ false → IsAtLimit s
next-limit s e = elim (full-or-last (length s.log) (s.clock + 1) e) [ inl full ↦ inl full | inr last ↦ inr (inl last) ]
