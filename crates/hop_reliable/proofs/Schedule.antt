-- Every schedule.
use Rattle.std.proofs.{Common.{◌≡◌, ℕ, ◌+◌, ◌<◌, ◌≤◌, inl, inr, suc, Option, Some, None, List, [], ◌∷◌, ◌++◌, length, take, drop, refl, ap, ◌∙◌, subst, arith, take-append-drop}, Math.Seq.take-length}
use Rattle.std.specs.List.{slice_get, Any}
use Rattle.ason_base.specs.{declared.messages.Msg.Msg, declared.messages.Packet.Packet}
use Rattle.ason_base.proofs.Places.{all-at, there-at}
use Rattle.hop_reliable.specs.{declared.unacked.Unacked.Unacked, Schedules.{HopEnd, HopPair, idle, pair_start, Happening, West, East, Sends, Ticks, Takes, end_takes, happens, after_schedule, BothWays, IsInOrder, IsKept, IsSettled, HandedUpInOrder, NothingIsLost, SettledIsDelivered}}
use Rattle.hop_reliable.proofs.{Members.length-take_within, Flow.{IsOwnFrame, AcksUpTo, Has, Flow}, Sending.{flow-sends_from, flow-sends_to, flow-ticks_from, flow-ticks_to}, Taking.{flow-takes_from, flow-takes_to}}

pub record Flows (s : HopPair) : Type 0 where
  pub eastward : Flow s.west s.east
  pub westward : Flow s.east s.west

flow-idle : Flow idle idle
flow-idle = record {
  count = refl;
  prefix = refl;
  within = omega arith;
  own = tt;
  waiting = tt;
  kept = λ k m there above. absurd (cc);
  acks = tt;
}

comes_from : (x y : HopEnd) (k : ℕ) (o : Option Packet) → slice_get y.frames k ≡ o → Flow x y → Flow (end_takes o x) y
comes_from x y k None e f = f
comes_from x y k (Some p) e f = flow-takes_from x y p (all-at (AcksUpTo y.hop.handed_up) y.frames k p f.acks e) f

comes_to : (x y : HopEnd) (k : ℕ) (o : Option Packet) → slice_get x.frames k ≡ o → Flow x y → Flow x (end_takes o y)
comes_to x y k None e f = f
comes_to x y k (Some p) e f = flow-takes_to x y p (all-at (IsOwnFrame x.given) x.frames k p f.own e) f

flows-happens : (s : HopPair) (e : Happening) → Flows s → Flows (happens s e)
flows-happens s (Sends West m) f = record {
  eastward = flow-sends_from s.west s.east m f.eastward;
  westward =
      flow-sends_to s.east s.west m f.westward;
}
flows-happens s (Sends East m) f = record {
  eastward = flow-sends_to s.west s.east m f.eastward;
  westward =
      flow-sends_from s.east s.west m f.westward;
}
flows-happens s (Ticks West) f = record {
  eastward = flow-ticks_from s.west s.east f.eastward;
  westward =
      flow-ticks_to s.east s.west f.westward;
}
flows-happens s (Ticks East) f = record {
  eastward = flow-ticks_to s.west s.east f.eastward;
  westward =
      flow-ticks_from s.east s.west f.westward;
}
flows-happens s (Takes West k) f = record {
  eastward = comes_from s.west s.east k (slice_get s.east.frames k) refl f.eastward;
  westward = comes_to s.east s.west k (slice_get s.east.frames k) refl f.westward;
}
flows-happens s (Takes East k) f = record {
  eastward = comes_to s.west s.east k (slice_get s.west.frames k) refl f.eastward;
  westward = comes_from s.east s.west k (slice_get s.west.frames k) refl f.westward;
}

flows-after : (s : HopPair) (es : List Happening) → Flows s → Flows (after_schedule s es)
flows-after s [] f = f
flows-after s (e ∷ es) f = flows-after (happens s e) es (flows-happens s e f)

pub flows-run : (es : List Happening) → Flows (after_schedule pair_start es)
flows-run es = flows-after pair_start es (record { eastward = flow-idle; westward = flow-idle })

-- What follows.

flow-in_order : (x y : HopEnd) → Flow x y → IsInOrder x y
flow-in_order x y f = (
  drop y.hop.handed_up x.given,
  ap (λ (up : List Msg). up ++ drop y.hop.handed_up x.given) f.prefix ∙
      take-append-drop y.hop.handed_up x.given,
)

has-any : (n : ℕ) (m : Msg) (ws : List Unacked) → Has n m ws → Any (λ w. (w.number ≡ n) × (w.msg ≡ m)) ws
has-any n m [] h = elim h [ ]
has-any n m (w ∷ ws) (inl here) = (0, w, omega arith, refl, here)
has-any n m (w ∷ ws) (inr there) =
    let later : Any (λ v. (v.number ≡ n) × (v.msg ≡ m)) ws = has-any n m ws there in
    (suc later.0, later.1, (let less : later.0 < length ws = later.2 in omega arith), later.3, later.4)

flow-kept : (x y : HopEnd) → Flow x y → IsKept x y
flow-kept x y f k m there above =
    let shown : length y.up ≡ y.hop.handed_up = ap length f.prefix ∙
    length-take_within x.given y.hop.handed_up f.within in
    has-any (k + 1) m x.hop.unacked (f.kept k m there (omega arith))

flow-settled : (x y : HopEnd) → Flow x y → IsSettled x y
flow-settled x y f none =
    let not_less : y.hop.handed_up < length x.given → ⊥ =
    λ less. let next : (m : Msg) × (slice_get x.given y.hop.handed_up ≡ Some m) =
    there-at x.given y.hop.handed_up less in
    subst (λ ws. Has (y.hop.handed_up + 1) next.0 ws) none (f.kept y.hop.handed_up next.0 next.1 (omega arith))
    in
    let within : y.hop.handed_up ≤ length x.given = f.within in
    let all : y.hop.handed_up ≡ length x.given = omega arith in
    f.prefix ∙ ap (λ n. take n x.given) all ∙ take-length x.given

-- what holds of each flow holds both ways under every schedule
both-ways : (P : HopEnd → HopEnd → Type 0) → ((x y : HopEnd) → Flow x y → P x y) → (es : List Happening) →
    BothWays P (after_schedule pair_start es)
both-ways P each es =
    let f : Flows (after_schedule pair_start es) = flows-run es in (each _ _ f.eastward, each _ _ f.westward)

pub handed_up_in_order : HandedUpInOrder
handed_up_in_order es = both-ways IsInOrder flow-in_order es

pub nothing_is_lost : NothingIsLost
nothing_is_lost es = both-ways IsKept flow-kept es

pub settled_is_delivered : SettledIsDelivered
settled_is_delivered es = both-ways IsSettled flow-settled es
