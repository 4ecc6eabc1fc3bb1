-- Looks and places between the turns of one worker.
use Rattle.std.proofs.Common.{◌≡◌, ℕ, zero, suc, true, false, nat_eq, List, [], ◌∷◌, ◌++◌, refl, sym, ap, ◌∙◌, subst, append_assoc, inl, inr}
use Rattle.std.specs.{Prelude.{◌⊎◌, Some, slice_get, slice_set}, List.{AllByRecursion, AllZip}}
use mathlib.Core.List.{IsPrefix}
use Rattle.rtrb.specs.Ring.{known_items, received}
use Rattle.ason_base.specs.{declared.ids.NodeId.NodeId, Network.Network}
use Rattle.ason_base.proofs.{Numbers.{apart-turned, self-number}, Places.all-at}
use Rattle.world_rules.specs.WorldRuns.{is_world_channel}
use Rattle.station_rings.specs.LinkStates.{LinkState, gone_of}
use Rattle.round_rules.specs.{OneWorker.ids_of, Fleets.{HasBegun, IsStationAt, Wires, AllBegun}, Looks.{AreLooked, AreStill}, FleetOneWorker.{LooksGoOn, LooksHadBegun, StationsArePlaced}, Moves.AreApart}
use Rattle.round_rules.proofs.{Looking.{known-have-begun, looks-stand, looks-tell}, Nodes.apart-ids}

pub looks-had-begun : LooksHadBegun
looks-had-begun w v u d is = (
  is.there.more ++ known_items (v d.0 u.0).into,
  sym (append_assoc (received (w d.0 u.0).into) is.there.more (known_items (v d.0 u.0).into))
      ∙ ap (λ ps. ps ++ known_items (v d.0 u.0).into) is.there.came ∙ is.there.whole,
)

still_begun : (w v : Wires) (u d : NodeId) → AreStill w v u d → HasBegun w u d → HasBegun v u d
still_begun w v u d still begun =
    subst (λ (l : LinkState). IsPrefix (received l.into) (gone_of (v u.0 d.0))) (sym still.back)
    (subst (λ (l : LinkState). IsPrefix (received (w d.0 u.0).into) (gone_of l)) (sym still.there) begun)

all_begun : (t : Network) (w v : Wires) → AllBegun t w →
    ((u d : NodeId) → is_world_channel t u d ≡ true → AreStill w v u d ⊎ AreLooked w v u d) → AllBegun t v
all_begun t w v begun looks u d joined = elim (looks u d joined) [
  | inl still ↦ still_begun w v u d still (begun u d joined)
  | inr looked ↦ known-have-begun v u d (looks-tell w v u d looked)
]

pub looks-go-on : LooksGoOn
looks-go-on t lines before ns q w v xs ys way kept links looks = record {
  stands = looks-stand t lines q w v xs ys way.stands kept links looks;
  begun = all_begun t w v way.begun looks;
  part = way.part;
  exact = way.exact;
}

-- Places

abbrev Placed : {Y : Type 0} → (NodeId → Y → Type 0) → NodeId → Y → NodeId → Y → Type 0
Placed P n new m s = (nat_eq m.0 n.0 ≡ true → s ≡ new) × (nat_eq m.0 n.0 ≡ false → P m s)

others_placed : {Y : Type 0} (P : NodeId → Y → Type 0) (n : NodeId) (new : Y) (ns : List NodeId) (ys : List Y) →
    AllByRecursion (λ (m : NodeId). nat_eq m.0 n.0 ≡ false) ns → AllZip P ns ys → AllZip (Placed P n new) ns ys
others_placed P n new [] [] apart all = tt
others_placed P n new [] (y ∷ ys) apart all = absurd all
others_placed P n new (m ∷ ns) [] apart all = absurd all
others_placed P n new (m ∷ ns) (y ∷ ys) apart all =
    (((λ e. absurd (cc (e, apart.0))), (λ e. all.0)), others_placed P n new ns ys apart.1 all.1)

placed_set : {Y : Type 0} (P : NodeId → Y → Type 0) (n : NodeId) (new : Y) (ns : List NodeId) (ys : List Y)
    (place : ℕ) →
    AreApart ns → AllZip P ns ys → slice_get ns place ≡ Some n →
    AllZip (Placed P n new) ns (slice_set ys place new)
placed_set P n new [] [] place apart all at = absurd (cc (at))
placed_set P n new [] (y ∷ ys) place apart all at = absurd all
placed_set P n new (m ∷ ns) [] place apart all at = absurd all
placed_set P n new (m ∷ ns) (y ∷ ys) zero apart all at =
    let same : m ≡ n = cc (at) in
    let test : nat_eq m.0 n.0 ≡ true = ap (λ (k : NodeId). nat_eq m.0 k.0) (sym same) ∙ self-number m.0 in (
      ((λ e. refl), (λ e. absurd (cc (e, test)))),
      others_placed P n new ns ys
          (subst (λ (k : NodeId). AllByRecursion (λ (j : NodeId). nat_eq j.0 k.0 ≡ false) ns) same apart.0) all.1,
    )
placed_set P n new (m ∷ ns) (y ∷ ys) (suc place) apart all at =
    let other : nat_eq m.0 n.0 ≡ false =
    apart-turned n.0 m.0 (all-at (λ (k : NodeId). nat_eq k.0 m.0 ≡ false) ns place n apart.0 at) in
    (((λ e. absurd (cc (e, other))), (λ e. all.0)), placed_set P n new ns ys place apart.1 all.1 at)

pub stations-are-placed : StationsArePlaced
stations-are-placed t lines r w xs place n new all at =
    placed_set (IsStationAt t lines r w) n new (ids_of t) xs place (apart-ids t all.valid) all.each at
