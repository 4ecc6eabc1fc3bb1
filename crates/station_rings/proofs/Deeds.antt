-- One deed more, with a stamp above those before it.
use Rattle.std.proofs.{Common.{◌≡◌, ◌<◌, ◌≤◌, ◌+◌, ℕ, Bool, true, false, cond, nat_lt, List, [], ◌∷◌, ◌++◌, length, refl, ap, ◌∙◌, arith}, lemmas.List.length-append}
use Rattle.std.specs.{Prelude.{◌&&◌, Some}, List.AllByRecursion}
use Rattle.ason_base.specs.{declared.limits.TheConstants.MOST_EVENTS, declared.ids.NodeId.NodeId, declared.commands.Command.Command, declared.commands.Event.TheVariants.Post, Network.{Network, is_node_id}}
use Rattle.mesh_rules.specs.Events.{has_first}
use Rattle.world_rules.specs.{WorldRuns.{is_world_channel, world_step}, Worlds.{World, world_start, with_event}}
use Rattle.world_rules.proofs.{Counted.made_posted, Delivered.kept-delivered, Untouched.made-once}
use Rattle.world_merge.specs.{Deeds.{AreDoable, Deed, Handled, Heard, IsDoable, Posted, Ticked, Took, alone_from, done, stamp_of, upto}, Logs.{RisesAbove, line_of, log_of}}
use Rattle.station_rings.specs.{Links.LinkView, Parcels.{AreStamped, IsStamped, clock_after}, Stations.{LogsAreCounted, LogsAreFew}}

pub upto-more : (s : ℕ) (ds : List Deed) (e : Deed) → s < stamp_of e → upto s (ds ++ e ∷ []) ≡ upto s ds
upto-more s [] e lt =
    let past : nat_lt s (stamp_of e) ≡ true = grind (arith, lt) in
    ap (λ b. cond b [] (e ∷ [])) past
upto-more s (d ∷ ds) e lt = ap (λ xs. cond (nat_lt s (stamp_of d)) [] (d ∷ xs)) (upto-more s ds e lt)

-- what was done later
pub record UptoRest (s : ℕ) (ds : List Deed) : Type 0 where
  pub rest : List Deed
  pub all : ds ≡ upto s ds ++ rest

pub upto-rest : (s : ℕ) (ds : List Deed) → UptoRest s ds
upto-rest s [] = record { rest = []; all = refl }
upto-rest s (d ∷ ds) = let r = go (nat_lt s (stamp_of d)) (upto-rest s ds) in record { rest = r.0; all = r.1 }
  where
    go : (b : Bool) → UptoRest s ds → (rest : List Deed) × (d ∷ ds ≡ cond b [] (d ∷ upto s ds) ++ rest)
    go true r = (d ∷ ds, refl)
    go false r = (r.rest, ap (λ xs. d ∷ xs) r.all)

-- up to a stamp below which all was done
pub upto-all : (s : ℕ) (ds : List Deed) → AllByRecursion (λ (d : Deed). stamp_of d ≤ s) ds → upto s ds ≡ ds
upto-all s [] all = refl
upto-all s (d ∷ ds) all =
    let within : nat_lt s (stamp_of d) ≡ false = grind (arith, all.0) in
    ap (λ b. cond b [] (d ∷ upto s ds)) within ∙ ap (λ xs. d ∷ xs) (upto-all s ds all.1)

pub rises-more : (s c : ℕ) (ds : List Deed) (e : Deed) → RisesAbove s ds →
    AllByRecursion (λ (d : Deed). stamp_of d ≤ c) ds → s ≤ c → c < stamp_of e → RisesAbove s (ds ++ e ∷ [])
rises-more s c [] e up all le lt = (omega (arith, le, lt), tt)
rises-more s c (d ∷ ds) e up all le lt = (up.0, rises-more (stamp_of d) c ds e up.1 all.1 all.0 lt)

pub doable-more : (t : Network) (n : NodeId) (w : World) (ds : List Deed) (e : Deed) → AreDoable t n w ds →
    IsDoable t n (alone_from t n w ds) e → AreDoable t n w (ds ++ e ∷ [])
doable-more t n w [] e all may = (may, tt)
doable-more t n w (d ∷ ds) e all may = (all.0, doable-more t n (done t n w d) ds e all.1 may)

-- Stamps

pub clock-more : (c : ℕ) (ds : List Deed) (e : Deed) → clock_after c (ds ++ e ∷ []) ≡ stamp_of e
clock-more c [] e = refl
clock-more c (d ∷ ds) e = clock-more (stamp_of d) ds e

pub stamped-more : (links : List LinkView) (c : ℕ) (ds : List Deed) (e : Deed) → AreStamped links c ds →
    IsStamped links (clock_after c ds) e → AreStamped links c (ds ++ e ∷ [])
stamped-more links c [] e all is = (is, tt)
stamped-more links c (d ∷ ds) e all is = (all.0, stamped-more links (stamp_of d) ds e all.1 is)

-- over other links, over which the same came at least
pub stamped-over : (links after : List LinkView) → ((c : ℕ) (d : Deed) → IsStamped links c d → IsStamped after c d) →
    (c : ℕ) (ds : List Deed) → AreStamped links c ds → AreStamped after c ds
stamped-over links after f c [] all = tt
stamped-over links after f c (d ∷ ds) all = (f c d all.0, stamped-over links after f (stamp_of d) ds all.1)

-- Logs

pub log-more : (n : NodeId) (ds es : List Deed) → log_of n (ds ++ es) ≡ log_of n ds ++ log_of n es
log-more n [] es = refl
log-more n (Ticked s ∷ ds) es = ap (λ xs. line_of n (Ticked s) ∷ xs) (log-more n ds es)
log-more n (Handled s ∷ ds) es = ap (λ xs. line_of n (Handled s) ∷ xs) (log-more n ds es)
log-more n (Took s u k x ∷ ds) es = ap (λ xs. line_of n (Took s u k x) ∷ xs) (log-more n ds es)
log-more n (Heard s u bytes ∷ ds) es = ap (λ xs. line_of n (Heard s u bytes) ∷ xs) (log-more n ds es)
log-more n (Posted s c ∷ ds) es = log-more n ds es

-- a post isn't
pub made-still : (t : Network) (w : World) (c : Command) (n : ℕ) → (world_step t w (Post c)).made n ≡ w.made n
made-still t w c n = ap (λ (f : ℕ → ℕ). f n) (made_posted t w c)

-- as many lines more as the log has of a deed
made_by : (t : Network) (n : NodeId) (w : World) (d : Deed) →
    (done t n w d).made n.0 ≡ w.made n.0 + length (log_of n (d ∷ []))
made_by t n w (Ticked s) = made-once w n
made_by t n w (Handled s) = made-once w n
made_by t n w (Took s u k x) = (kept-delivered t (with_event w n.0) n u (Some x) n.0).made ∙ made-once w n
made_by t n w (Heard s u bytes) = made-once w n
made_by t n w (Posted s c) = made-still t w c n.0 ∙ omega arith

counted : (t : Network) (n : NodeId) (w : World) (ds : List Deed) →
    (alone_from t n w ds).made n.0 ≡ w.made n.0 + length (log_of n ds)
counted t n w [] = omega arith
counted t n w (d ∷ ds) =
    counted t n (done t n w d) ds ∙ ap (λ k. k + length (log_of n ds)) (made_by t n w d) ∙ together
  where
    lines : length (log_of n (d ∷ ds)) ≡ length (log_of n (d ∷ [])) + length (log_of n ds)
    lines = ap length (log-more n (d ∷ []) ds) ∙ length-append (log_of n (d ∷ [])) (log_of n ds)

    together : (w.made n.0 + length (log_of n (d ∷ []))) + length (log_of n ds) ≡
        w.made n.0 + length (log_of n (d ∷ ds))
    together = omega (arith, lines)

pub logs-are-counted : LogsAreCounted
logs-are-counted t n ds = counted t n (world_start t) ds ∙ omega arith

-- an event is made where fewer than 50,000 were

below : (a b : Bool) (k : ℕ) → (a && nat_lt k MOST_EVENTS) ≡ true → k < MOST_EVENTS
below a b k h = grind (arith, h)

below_more : (a b : Bool) (k : ℕ) → ((a && nat_lt k MOST_EVENTS) && b) ≡ true → k < MOST_EVENTS
below_more a b k h = grind (arith, h)

few_done : (t : Network) (n : NodeId) (w : World) (d : Deed) → w.made n.0 ≤ MOST_EVENTS → IsDoable t n w d →
    (done t n w d).made n.0 ≤ MOST_EVENTS
few_done t n w (Ticked s) few may =
    let lt = below (is_node_id t.nodes n) true (w.made n.0) may in
    let one = made_by t n w (Ticked s) in omega (arith, lt, one)
few_done t n w (Handled s) few may =
    let lt = below_more (is_node_id t.nodes n) (has_first (w.desks n.0)) (w.made n.0) may in
    let one = made_by t n w (Handled s) in omega (arith, lt, one)
few_done t n w (Took s u k x) few may =
    let lt = below_more (is_node_id t.nodes n) (is_world_channel t u n) (w.made n.0) may in
    let one = made_by t n w (Took s u k x) in omega (arith, lt, one)
few_done t n w (Heard s u bytes) few may =
    let lt = below_more (is_node_id t.nodes n) (is_world_channel t u n) (w.made n.0) may.0 in
    let one = made_by t n w (Heard s u bytes) in omega (arith, lt, one)
few_done t n w (Posted s c) few may = let one = made_by t n w (Posted s c) in omega (arith, few, one)

few_from : (t : Network) (n : NodeId) (w : World) (ds : List Deed) → w.made n.0 ≤ MOST_EVENTS → AreDoable t n w ds →
    (alone_from t n w ds).made n.0 ≤ MOST_EVENTS
few_from t n w [] few may = few
few_from t n w (d ∷ ds) few may = few_from t n (done t n w d) ds (few_done t n w d few may.0) may.1

pub logs-are-few : LogsAreFew
logs-are-few t n ds may =
    let few : (alone_from t n (world_start t) ds).made n.0 ≤ MOST_EVENTS =
    few_from t n (world_start t) ds (omega arith) may in
    let all = logs-are-counted t n ds in omega (arith, few, all)
