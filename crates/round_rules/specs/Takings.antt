-- What a station does with a frame that it takes from a ring.
use Rattle.std.specs.{Prelude.{◌≡◌, ℕ, List, [], ◌∷◌, map, Option, Some, None}, List.{AllByRecursion, flat_map}}
use Rattle.ason_base.specs.{declared.ids.NodeId.NodeId, declared.commands.Disturb.Disturb, declared.commands.DisturbKind.DisturbKind, declared.commands.DisturbKind.TheVariants.{Lose, Repeat, Hold}}
use Rattle.flood.specs.declared.frames.Content.{Content}
use Rattle.world_merge.specs.Deeds.{Took}
use Rattle.round_rules.specs.{Doings.{Did, Doing, Got}, Lines.says}

-- a frame that is taken, and the stamps of its deliveries, which follow at once
pub record Taking : Type 0 where
  pub from : NodeId
  pub number : ℕ
  pub says : Option DisturbKind
  pub stamps : List ℕ
  pub content : Content

abbrev pub doings_of : Taking → List Doing
doings_of g = Got g.from g.number g.says ∷ map (λ s. Did (Took s g.from g.number g.content)) g.stamps

-- it is delivered once; twice where a line says `repeat`; not now where it says `lose` or `hold`
abbrev pub AreDeliveries : Option DisturbKind → List ℕ → Type 0
AreDeliveries None stamps = (s : ℕ) × (stamps ≡ s ∷ [])
AreDeliveries (Some Repeat) stamps = (s : ℕ) × (r : ℕ) × (stamps ≡ s ∷ r ∷ [])
AreDeliveries (Some Lose) stamps = stamps ≡ []
AreDeliveries (Some Hold) stamps = stamps ≡ []

-- a frame is delivered as it is taken, once or twice
abbrev pub IsDelivered : Option DisturbKind → Type 0
IsDelivered None = Unit {0}
IsDelivered (Some Repeat) = Unit {0}
IsDelivered (Some Lose) = ⊥
IsDelivered (Some Hold) = ⊥

pub record IsTaking (lines : List Disturb) (n : NodeId) (g : Taking) : Type 0 where
  pub says : g.says ≡ says lines g.from n g.number
  pub deliveries : AreDeliveries g.says g.stamps

abbrev pub AreTakings : List Disturb → NodeId → List Taking → Type 0
AreTakings lines n gs = AllByRecursion (IsTaking lines n) gs

abbrev pub all_doings : List Taking → List Doing
all_doings gs = flat_map doings_of gs
