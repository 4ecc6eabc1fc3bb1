-- The stamp with which a frame was sent: it is that of the deed that sent it, and stays.
use Rattle.std.specs.Prelude.{◌≡◌, ◌<◌, ◌≤◌, ℕ, nat_le, List, [], ◌∷◌, ◌++◌, length, if◌then◌else◌}
use Rattle.ason_base.specs.{declared.ids.NodeId.NodeId, Network.Network}
use Rattle.world_rules.specs.Worlds.{World, world_start}
use Rattle.world_merge.specs.Deeds.{Deed, done, sent_by, stamp_of}

-- the stamp of the deed with which the channel from u to d came to have k frames, from this world on
abbrev pub sent_stamp_from : Network → NodeId → ℕ → ℕ → World → List Deed → ℕ
sent_stamp_from t u d k w [] = 0
sent_stamp_from t u d k w (e ∷ es) =
    if nat_le k (length ((done t u w e).channels u.0 d)) then stamp_of e else sent_stamp_from t u d k (done t u w e) es

-- the stamp of the frame with number k that the node u sent to the node with number d, where u did this
abbrev pub sent_stamp : Network → NodeId → List Deed → ℕ → ℕ → ℕ
sent_stamp t u ds d k = sent_stamp_from t u d k (world_start t) ds

abbrev pub SentStays : Type 0
SentStays =
    (t : Network) (u : NodeId) (d k : ℕ) (ds : List Deed) (e : Deed) → 0 < k → k ≤ length (sent_by t u ds d) →
    sent_stamp t u (ds ++ e ∷ []) d k ≡ sent_stamp t u ds d k

abbrev pub SentNow : Type 0
SentNow =
    (t : Network) (u : NodeId) (d k : ℕ) (ds : List Deed) (e : Deed) → length (sent_by t u ds d) < k →
    k ≤ length (sent_by t u (ds ++ e ∷ []) d) → sent_stamp t u (ds ++ e ∷ []) d k ≡ stamp_of e
