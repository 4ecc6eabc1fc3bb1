-- Whatever a node does, its hop hands up no less than it does of the frames that it takes.
use Rattle.std.proofs.Common.{◌≡◌, ℕ, Bool, true, false, cond, nat_eq, List, [], ◌∷◌, ◌++◌, refl, sym, ap, ◌∙◌, append_assoc}
use Rattle.std.specs.Prelude.{◌&&◌, Some}
use Rattle.ason_base.specs.{declared.ids.NodeId.NodeId, declared.commands.Command.Command, declared.commands.Command.TheVariants.{Setup, Release, Protect, Retry, Revert, Fail, Repair}, declared.messages.Msg.Msg, declared.messages.Packet.Packet, Network.Network}
use Rattle.ason_base.proofs.Numbers.{self-number}
use Rattle.flood.specs.{declared.frames.Content.Content, declared.frames.Content.TheVariants.{Message, Flood}}
use Rattle.hop_reliable.specs.Schedules.{HopEnd, end_sends, end_takes, end_ticks}
use Rattle.mesh_rules.specs.{Changes.Answer, Events.on_first_item, LocalNodes.local_node, Machine.sent_to, Messages.on_message, Waits.on_tick}
use Rattle.world_rules.specs.{Worlds.{World, world_commit, delivered, floods_ticked, handed_up, handled, hops_ticked, sends_all, packet_taken, with_event}, WorldRuns.{world_posted, world_without_item}}
use Rattle.world_merge.specs.Deeds.{Deed, Handled, Heard, Posted, Ticked, Took, alone_from, done}
use Rattle.round_laws.specs.Rings.{climb}
use Rattle.round_laws.proofs.Climbing.{climb-append}

-- what the node took from the neighbour u
abbrev from_deed : ℕ → Deed → List Content
from_deed u (Took s v k x) = cond (nat_eq u v.0) (x ∷ []) []
from_deed u (Ticked s) = []
from_deed u (Handled s) = []
from_deed u (Heard s v bytes) = []
from_deed u (Posted s c) = []

-- what the deeds take from u
abbrev pub heard_from : ℕ → List Deed → List Content
heard_from u [] = []
heard_from u (d ∷ ds) = from_deed u d ++ heard_from u ds

abbrev up_of : World → ℕ → ℕ → ℕ
up_of w n u = (w.ends n u).hop.handed_up

up_sends : (ms : List Msg) (x : HopEnd) → (sends_all ms x).hop.handed_up ≡ x.hop.handed_up
up_sends [] x = refl
up_sends (m ∷ ms) x = up_sends ms (end_sends m x)

if_sends : (b : Bool) (ms : List Msg) (x : HopEnd) → (cond b (sends_all ms x) x).hop.handed_up ≡ x.hop.handed_up
if_sends true ms x = up_sends ms x
if_sends false ms x = refl

if_ticks : (b : Bool) (x : HopEnd) → (cond b (end_ticks x) x).hop.handed_up ≡ x.hop.handed_up
if_ticks true x = refl
if_ticks false x = refl

up_commit : (w : World) (n : ℕ) (a : Answer) (m u : ℕ) → up_of (world_commit w n a) m u ≡ up_of w m u
up_commit w n a m u = if_sends (nat_eq m n) (sent_to u a.sent) (w.ends m u)

up_handled : (t : Network) (w : World) (d u : NodeId) (ms : List Msg) (a b : ℕ) →
    up_of (handled t w d u ms) a b ≡ up_of w a b
up_handled t w d u [] a b = refl
up_handled t w d u (m ∷ ms) a b = up_commit w d.0 (on_message (local_node t d) (w.nodes d.0) u m) a b

if_takes : (b : Bool) (p : Packet) (x : HopEnd) →
    (cond b (end_takes (Some p) x) x).hop.handed_up ≡ climb x.hop.handed_up (cond b (Message p ∷ []) [])
if_takes true p x = refl
if_takes false p x = refl

-- a frame is delivered
pub up_delivered : (t : Network) (w : World) (n v : NodeId) (x : Content) (u : ℕ) →
    up_of (delivered t w n v (Some x)) n.0 u ≡ climb (up_of w n.0 u) (cond (nat_eq u v.0) (x ∷ []) [])
up_delivered t w n v (Message p) u =
    up_handled t (packet_taken w n v p) n v (handed_up w n v p) n.0 u
    ∙ ap (λ b. (cond (b && nat_eq u v.0) (end_takes (Some p) (w.ends n.0 u)) (w.ends n.0 u)).hop.handed_up) (self-number n.0)
    ∙ if_takes (nat_eq u v.0) p (w.ends n.0 u)
up_delivered t w n v (Flood m) u = go (nat_eq u v.0)
  where
    go : (b : Bool) → up_of w n.0 u ≡ climb (up_of w n.0 u) (cond b (Flood m ∷ []) [])
    go true = refl
    go false = refl

up_posted : (t : Network) (w : World) (c : Command) (a b : ℕ) → up_of (world_posted t w c) a b ≡ up_of w a b
up_posted t w (Setup n from to protected both via backup) a b = refl
up_posted t w (Release n from) a b = refl
up_posted t w (Protect n from) a b = refl
up_posted t w (Retry n from) a b = refl
up_posted t w (Revert n from) a b = refl
up_posted t w (Fail g) a b = refl
up_posted t w (Repair g) a b = refl

-- one deed
pub deed_hears : (t : Network) (n : NodeId) (w : World) (d : Deed) (u : ℕ) →
    up_of (done t n w d) n.0 u ≡ climb (up_of w n.0 u) (from_deed u d)
deed_hears t n w (Ticked s) u =
    up_commit (floods_ticked (hops_ticked (with_event w n.0) n.0) n.0) n.0
    (on_tick (local_node t n) (w.nodes n.0)) n.0 u
    ∙ if_ticks (nat_eq n.0 n.0) (w.ends n.0 u)
deed_hears t n w (Handled s) u =
    up_commit (world_without_item (with_event w n.0) n.0) n.0 (on_first_item (local_node t n) (w.nodes n.0)
    (w.desks n.0)) n.0 u
deed_hears t n w (Took s v k x) u = up_delivered t (with_event w n.0) n v x u
deed_hears t n w (Heard s v bytes) u = refl
deed_hears t n w (Posted s c) u = up_posted t w c n.0 u

-- what it hands up is what it does of these, one after the other
pub deeds_hear : (t : Network) (n : NodeId) (w : World) (ds : List Deed) (u : ℕ) →
    up_of (alone_from t n w ds) n.0 u ≡ climb (up_of w n.0 u) (heard_from u ds)
deeds_hear t n w [] u = refl
deeds_hear t n w (d ∷ ds) u =
    deeds_hear t n (done t n w d) ds u
    ∙ ap (λ h. climb h (heard_from u ds)) (deed_hears t n w d u)
    ∙ sym (climb-append (up_of w n.0 u) (from_deed u d) (heard_from u ds))

-- of some deeds, and then others
pub heard-append : (u : ℕ) (ds es : List Deed) → heard_from u (ds ++ es) ≡ heard_from u ds ++ heard_from u es
heard-append u [] es = refl
heard-append u (d ∷ ds) es =
    ap (λ xs. from_deed u d ++ xs) (heard-append u ds es)
    ∙ sym (append_assoc (from_deed u d) (heard_from u ds) (heard_from u es))
