-- The clock and the deeds of doings, and parcels that stay held.
use Rattle.std.proofs.{Common.{◌≡◌, ◌≢◌, ℕ, List, [], ◌∷◌, ◌++◌, drop, fold, map, refl, sym, ap, ◌∙◌, subst, append-nil}, lemmas.List.Elements.Contains-append_left, lemmas.List.Sums.fold-append, ByRecursion.All-append}
use Rattle.std.specs.{Prelude.{Option, Some, None}, List.{AllByRecursion, AllZip, Contains}}
use Rattle.ason_base.specs.{declared.ids.NodeId.NodeId, declared.commands.DisturbKind.DisturbKind, declared.commands.DisturbKind.TheVariants.{Lose, Repeat, Hold}}
use Rattle.ason_base.proofs.Members.{there-map}
use Rattle.hop_reliable.proofs.Members.{each-more}
use Rattle.control_channels.specs.declared.frames.Frame.{Frame}
use Rattle.world_merge.specs.Deeds.{Deed, stamp_of}
use Rattle.station_rings.specs.{declared.parcel.Parcel.Parcel, Links.{HasGot, LinkView, link_after_frames}}
use Rattle.station_rings.proofs.{Besides.{IsGot, got-of}, Linking.kept-link}
use Rattle.round_rules.specs.{Doings.{Did, Doing, deeds_in}, Functions.clock_of, Held.{HeldFrame, held_by_line, ticked_once}, Stands.{CameFrom, IsHeldOf, frame_of, parcel_ticked}, declared.held.HeldParcel.HeldParcel}
use Rattle.round_rules.proofs.Desks.{deeds-more}

-- Clock and deeds

-- after a deed the clock is its stamp
pub clock-did : (ds : List Doing) (d : Deed) → clock_of (ds ++ Did d ∷ []) ≡ stamp_of d
clock-did ds d =
    ap (fold (λ (s : ℕ) (e : Deed). stamp_of e) 0) (deeds-more ds (Did d ∷ []))
    ∙ fold-append (λ (s : ℕ) (e : Deed). stamp_of e) 0 (deeds_in ds) (d ∷ [])

-- what is no deed leaves the deeds
pub deeds-same : (ds es : List Doing) → deeds_in es ≡ [] → deeds_in (ds ++ es) ≡ deeds_in ds
deeds-same ds es none = deeds-more ds es ∙ ap (λ xs. deeds_in ds ++ xs) none ∙ append-nil (deeds_in ds)

-- and the clock
pub clock-same : (ds es : List Doing) → deeds_in es ≡ [] → clock_of (ds ++ es) ≡ clock_of ds
clock-same ds es none = ap (fold (λ (s : ℕ) (e : Deed). stamp_of e) 0) (deeds-same ds es none)

-- Held parcels came out of a ring

came_sent : (stamp : ℕ) (fs : List Frame) (links : List LinkView) (u : NodeId) (p : Parcel) → CameFrom links u p →
    CameFrom (map (link_after_frames stamp fs) links) u p
came_sent stamp fs links u p is = record {
  link = link_after_frames stamp fs is.link;
  there = there-map (link_after_frames stamp fs) links is.link is.there;
  peer = (kept-link stamp fs is.link).peer ∙ is.peer;
  came = subst (λ ps. Contains ps p) (sym (kept-link stamp fs is.link).came) is.came;
  content = is.content;
  spells = is.spells;
}

came_got : (before after : List LinkView) → AllZip HasGot before after → (u : NodeId) (p : Parcel) →
    CameFrom before u p → CameFrom after u p
came_got before after all u p is = record {
  link = g.link;
  there = g.there;
  peer = g.got.peer ∙ is.peer;
  came = subst (λ ps. Contains ps p) (sym g.got.came) (Contains-append_left is.link.came g.got.more p is.came);
  content = is.content;
  spells = is.spells;
}
  where
    g : IsGot after is.link
    g = got-of before after is.link all is.there

-- after frames were sent
pub kept-sending : (stamp : ℕ) (fs : List Frame) (links after : List LinkView) (hs : List HeldParcel) →
    after ≡ map (link_after_frames stamp fs) links → AllByRecursion (IsHeldOf links) hs →
    AllByRecursion (IsHeldOf after) hs
kept-sending stamp fs links after hs e all =
    subst (λ ls. AllByRecursion (IsHeldOf ls) hs) (sym e)
    (each-more (IsHeldOf links) (IsHeldOf (map (link_after_frames stamp fs) links))
    (λ h is. came_sent stamp fs links h.from h.parcel is) hs all)

-- after others came
pub kept-listening : (before after : List LinkView) (hs : List HeldParcel) → AllZip HasGot before after →
    AllByRecursion (IsHeldOf before) hs → AllByRecursion (IsHeldOf after) hs
kept-listening before after hs all =
    each-more (IsHeldOf before) (IsHeldOf after) (λ h is. came_got before after all h.from h.parcel is) hs

-- What is held

pub frames-ticked : (hs : List HeldParcel) →
    map frame_of (map parcel_ticked hs) ≡ map ticked_once (map frame_of hs)
frames-ticked [] = refl
frames-ticked (h ∷ hs) = ap (λ xs. frame_of (parcel_ticked h) ∷ xs) (frames-ticked hs)

pub kept-ticked : (links : List LinkView) (hs : List HeldParcel) → AllByRecursion (IsHeldOf links) hs →
    AllByRecursion (IsHeldOf links) (map parcel_ticked hs)
kept-ticked links [] all = tt
kept-ticked links (h ∷ hs) all = (
  record {
    link = all.0.link;
    there = all.0.there;
    peer = all.0.peer;
    came = all.0.came;
    content = all.0.content;
    spells = all.0.spells;
  },
  kept-ticked links hs all.1,
)

pub frames-more : (hs : List HeldParcel) (h : HeldParcel) →
    map frame_of (hs ++ h ∷ []) ≡ map frame_of hs ++ frame_of h ∷ []
frames-more [] h = refl
frames-more (x ∷ hs) h = ap (λ xs. frame_of x ∷ xs) (frames-more hs h)

pub kept-more : (links : List LinkView) (hs : List HeldParcel) (h : HeldParcel) →
    AllByRecursion (IsHeldOf links) hs → IsHeldOf links h → AllByRecursion (IsHeldOf links) (hs ++ h ∷ [])
kept-more links hs h all is = All-append (IsHeldOf links) hs (h ∷ []) all (is, tt)

pub frames-dropped : (hs : List HeldParcel) → map frame_of (drop 1 hs) ≡ drop 1 (map frame_of hs)
frames-dropped [] = refl
frames-dropped (h ∷ hs) = refl

pub kept-dropped : (links : List LinkView) (hs : List HeldParcel) → AllByRecursion (IsHeldOf links) hs →
    AllByRecursion (IsHeldOf links) (drop 1 hs)
kept-dropped links [] all = tt
kept-dropped links (h ∷ hs) all = all.1

-- a frame that isn't to be held
pub none-held : (o : Option DisturbKind) (u : NodeId) (k : ℕ) (hs : List HeldFrame) → o ≢ Some Hold →
    hs ++ held_by_line u k o ≡ hs
none-held None u k hs not = append-nil hs
none-held (Some Lose) u k hs not = append-nil hs
none-held (Some Repeat) u k hs not = append-nil hs
none-held (Some Hold) u k hs not = absurd (not refl)
