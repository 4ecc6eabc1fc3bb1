-- A frame that is delivered leaves what no message changes.
use Rattle.std.proofs.Common.{◌≡◌, ℕ, List, [], ◌∷◌, refl}
use Rattle.std.specs.Prelude.{Option, Some, None}
use Rattle.ason_base.specs.{declared.ids.NodeId.NodeId, declared.messages.Msg.Msg, Network.Network}
use Rattle.flood.specs.{declared.frames.Content.Content, declared.frames.Content.TheVariants.{Message, Flood}}
use Rattle.world_rules.specs.Worlds.{World, delivered, handed_up, handled, packet_taken}

-- The parts that `IsUntouched` doesn't speak of stay too.
pub record IsWorldKept (w v : World) (m : ℕ) : Type 0 where
  pub desk : v.desks m ≡ w.desks m
  pub made : v.made m ≡ w.made m
  pub posted : v.posted ≡ w.posted
  pub failed : v.failed ≡ w.failed

kept_handled : (t : Network) (w : World) (d u : NodeId) (ms : List Msg) (m : ℕ) → IsWorldKept w (handled t w d u ms) m
kept_handled t w d u [] m = record { desk = refl; made = refl; posted = refl; failed = refl }
kept_handled t w d u (x ∷ xs) m = record { desk = refl; made = refl; posted = refl; failed = refl }

-- a frame that is delivered leaves all desks, counts and posts, those of its taker too
pub kept-delivered : (t : Network) (w : World) (d u : NodeId) (o : Option Content) (m : ℕ) →
    IsWorldKept w (delivered t w d u o) m
kept-delivered t w d u None m = record { desk = refl; made = refl; posted = refl; failed = refl }
kept-delivered t w d u (Some (Message p)) m =
    let f = kept_handled t (packet_taken w d u p) d u (handed_up w d u p) m in
    record { desk = f.desk; made = f.made; posted = f.posted; failed = f.failed }
kept-delivered t w d u (Some (Flood f)) m = record { desk = refl; made = refl; posted = refl; failed = refl }
