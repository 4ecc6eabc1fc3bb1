-- What a node adds of frames, and what stands in a ring.
use Rattle.std.proofs.Common.{◌≡◌, ◌≤◌, ℕ, true, false, not, List, ◌++◌, sym, ap, ◌∙◌, subst, arith}
use Rattle.std.specs.List.{range_with_len}
use Rattle.ason_base.specs.{declared.ids.NodeId.NodeId, Network.{Network, is_node_id}}
use Rattle.world_rules.specs.{Worlds.{World, world_start}, WorldRuns.is_world_channel}
use Rattle.world_merge.specs.Deeds.{alone, alone_from}
use Rattle.world_merge.proofs.Splitting.{alone-more}
use Rattle.round_rules.specs.{Doings.{Doing, deeds_in}, Records.{Record, deeds_at}, Rings.{count_of, got_from, handed, is_number_in, standing}, Rounds.NumbersRise}
use Rattle.round_rules.proofs.{Desks.deeds-more, Numbers.in_range, FleetNumbers.rises-filter}
use Rattle.round_laws.specs.Rings.{channel_of, climb, handed_up_at, last_sent_to}
use Rattle.round_laws.proofs.{Hearing.{deeds_hear, heard_from}, Numbers.{in_filter, of_filter, of_range, rise_range}, Sending.{BringsMore, deeds_bring}}

-- a channel joins nodes
pub sender-is : (t : Network) (u d : NodeId) → is_world_channel t u d ≡ true → is_node_id t.nodes u ≡ true
sender-is t u d on = grind (arith, on)

-- and what it leads to is one too
pub receiver-is : (t : Network) (u d : NodeId) → is_world_channel t u d ≡ true → is_node_id t.nodes d ≡ true
receiver-is t u d on = grind (arith, on)

-- What one node added

with_added : (t : Network) (n : NodeId) (before after : Record) (added : List Doing) →
    after.doings n.0 ≡ before.doings n.0 ++ added →
    alone t n (deeds_at after n.0) ≡ alone_from t n (alone t n (deeds_at before n.0)) (deeds_in added)
with_added t n before after added all =
    ap (λ ds. alone t n (deeds_in ds)) all ∙ ap (alone t n) (deeds-more (before.doings n.0) added)
    ∙ alone-more t n (world_start t) (deeds_at before n.0) (deeds_in added)

-- what the sender adds to a channel
pub sends-on : (t : Network) (u d : NodeId) (before after : Record) (added : List Doing) →
    after.doings u.0 ≡ before.doings u.0 ++ added →
    BringsMore (channel_of t before u d) (channel_of t after u d) (last_sent_to t before u d) (last_sent_to t after u d)
sends-on t u d before after added all =
    let w : World = alone t u (deeds_at before u.0) in
    subst (λ (v : World). BringsMore (w.channels u.0 d.0) (v.channels u.0 d.0) (w.ends u.0 d.0).hop.sent
    (v.ends u.0 d.0).hop.sent) (sym (with_added t u before after added all))
    (deeds_bring t u w (deeds_in added) u.0 d.0)

-- what the receiver hands up more
pub hears-on : (t : Network) (u d : NodeId) (before after : Record) (added : List Doing) →
    after.doings d.0 ≡ before.doings d.0 ++ added →
    handed_up_at t after d u ≡ climb (handed_up_at t before d u) (heard_from u.0 (deeds_in added))
hears-on t u d before after added all =
    ap (λ (v : World). (v.ends d.0 u.0).hop.handed_up) (with_added t d before after added all)
    ∙ deeds_hear t d (alone t d (deeds_at before d.0)) (deeds_in added) u.0

-- What stands in a ring

-- frames stand in order of number
pub standing_rises : (t : Network) (r : Record) (u d : NodeId) → NumbersRise 0 (standing t r u d)
standing_rises t r u d =
    rises-filter (λ n. not (is_number_in (got_from u (r.doings d.0)) n)) 0 (handed t r u d)
    (rises-filter (λ n. not (is_number_in (r.dropped u.0 d.0) n)) 0 (range_with_len 1 (count_of t r u d))
    (rise_range 0 (count_of t r u d)))

-- each was sent
pub standing_within : (t : Network) (r : Record) (u d : NodeId) (k : ℕ) → is_number_in (standing t r u d) k ≡ true →
    k ≤ count_of t r u d
standing_within t r u d k is =
    let h : is_number_in (handed t r u d) k ≡ true =
    of_filter (λ n. not (is_number_in (got_from u (r.doings d.0)) n)) (handed t r u d) k is in
    let s : is_number_in (range_with_len 1 (count_of t r u d)) k ≡ true =
    of_filter (λ n. not (is_number_in (r.dropped u.0 d.0) n)) (range_with_len 1 (count_of t r u d)) k h in
    let r = of_range 1 (count_of t r u d) k s in
    omega (arith, r.1)

-- what was sent, and neither taken nor dropped, stands there
pub stands : (t : Network) (r : Record) (u d : NodeId) (k : ℕ) → 1 ≤ k → k ≤ count_of t r u d →
    is_number_in (got_from u (r.doings d.0)) k ≡ false → is_number_in (r.dropped u.0 d.0) k ≡ false →
    is_number_in (standing t r u d) k ≡ true
stands t r u d k low high got dropped =
    in_filter (λ n. not (is_number_in (got_from u (r.doings d.0)) n)) (handed t r u d) k
    (in_filter (λ n. not (is_number_in (r.dropped u.0 d.0) n)) (range_with_len 1 (count_of t r u d)) k
    (in_range 1 (count_of t r u d) k low (omega (arith, high))) (ap not dropped)) (ap not got)
