-- What a packet that comes shows of a mesh: the message that it hands up, or nothing.
use Rattle.std.proofs.Common.{◌≡◌, ◌≢◌, ℕ, Bool, true, false, cond, nat_eq, List, [], ◌∷◌, ◌++◌, length, drop, refl, sym, ap, ◌∙◌, arith, append-nil}
use Rattle.std.specs.{Prelude.{◌&&◌, Option, Some, None}, Option.option_to_list}
use Rattle.ason_base.specs.{declared.ids.NodeId.NodeId, declared.messages.Msg.Msg, declared.messages.Packet.Packet, Network.Network}
use Rattle.ason_base.proofs.Numbers.{two-numbers, self-number}
use Rattle.hop_reliable.specs.{declared.heard.Heard.Heard, declared.heard.Heard.TheVariants.{Acked, Unnumbered, Ahead, Repeat, Next}, Hop.{heard_as, handed_up_of}, Schedules.{HopEnd, HandedUpInOrder, IsInOrder, end_takes, end_ticks}}
use Rattle.mesh_rules.specs.{declared.events.MeshEvent.MeshEvent, Changes.Answer, Events.{has_first, on_first}, LocalNodes.local_node, Machine.{Mesh, sent_to}, Messages.on_message}
use Rattle.mesh_rules.specs.Events as mesh_runs
use Rattle.mesh_rules.specs.Machine as mesh
use Rattle.world_rules.specs.{Worlds.{World, world_commit, handed_up, handled, hops_ticked, packet_taken}, Images.{image, taken_of}}
use Rattle.world_rules.proofs.{Reached.{AreReached, in-order}, Ways.{way-after, way-before, way-same, way-sends}}

pub image-commit : HandedUpInOrder → (w : World) → AreReached w → (n : ℕ) (a : Answer) →
    image (world_commit w n a) ≡ mesh.commit (image w) n a
image-commit law w r n a = λ i. record {
  nodes = (image (world_commit w n a)).nodes;
  desks = w.desks;
  mail = λ u d. way-sends (nat_eq u n) (nat_eq d n) (sent_to d a.sent) (sent_to u a.sent) (w.ends u d) (w.ends d u)
      (in-order law w r u d) i;
  posted = w.posted;
  failed = w.failed;
}

pub image-hops : (w : World) (n : ℕ) → image (hops_ticked w n) ≡ image w
image-hops w n = λ i. record {
  nodes = w.nodes;
  desks = w.desks;
  mail = λ u d. way-same (w.ends u d) (w.ends d u) (end u d) (end d u) (given (nat_eq u n) (w.ends u d))
      (up (nat_eq d n) (w.ends d u)) i;
  posted = w.posted;
  failed = w.failed;
}
  where
    end : ℕ → ℕ → HopEnd
    end u d = cond (nat_eq u n) (end_ticks (w.ends u d)) (w.ends u d)

    given : (b : Bool) (x : HopEnd) → (cond b (end_ticks x) x).given ≡ x.given
    given true x = refl
    given false x = refl

    up : (b : Bool) (x : HopEnd) → (cond b (end_ticks x) x).up ≡ x.up
    up true x = refl
    up false x = refl

given_taken : (b : Bool) (p : Packet) (x : HopEnd) → (cond b (end_takes (Some p) x) x).given ≡ x.given
given_taken true p x = refl
given_taken false p x = refl

-- nothing is handed up
up_same : (w : World) (d u : NodeId) (p : Packet) → handed_up w d u p ≡ [] → (a b : ℕ) →
    (cond (nat_eq a d.0 && nat_eq b u.0) (end_takes (Some p) (w.ends a b)) (w.ends a b)).up ≡ (w.ends a b).up
up_same w d u p none a b = by_test (nat_eq a d.0 && nat_eq b u.0) refl
  where
    by_test : (c : Bool) → (nat_eq a d.0 && nat_eq b u.0) ≡ c →
        (cond c (end_takes (Some p) (w.ends a b)) (w.ends a b)).up ≡ (w.ends a b).up
    by_test true h =
        let is = two-numbers a b u.0 d.0 h in
        ap (λ n. (w.ends a b).up ++ handed_up_of (heard_as (w.ends n b).hop p) p) is.0
        ∙ ap (λ n. (w.ends a b).up ++ handed_up_of (heard_as (w.ends d.0 n).hop p) p) is.1
        ∙ ap (λ (ms : List Msg). (w.ends a b).up ++ ms) none ∙ append-nil (w.ends a b).up
    by_test false h = refl

pub image_unmoved : (w : World) (d u : NodeId) (p : Packet) → handed_up w d u p ≡ [] →
    image (packet_taken w d u p) ≡ image w
image_unmoved w d u p none = λ i. record {
  nodes = w.nodes;
  desks = w.desks;
  mail = λ a b. way-same (w.ends a b) (w.ends b a) ((packet_taken w d u p).ends a b) ((packet_taken w d u p).ends b a)
      (given_taken (nat_eq a d.0 && nat_eq b u.0) p (w.ends a b)) (up_same w d u p none b a) i;
  posted = w.posted;
  failed = w.failed;
}

-- A message is handed up: it was the first under way, and the others are left.
record IsFirst (w : World) (d u : NodeId) (p : Packet) (m : Msg) : Type 0 where
  pub rest : List Msg
  pub before : (image w).mail u.0 d.0 ≡ m ∷ rest
  pub after : (image (packet_taken w d u p)).mail u.0 d.0 ≡ rest

here : (w : World) (d u : NodeId) (p : Packet) →
    (packet_taken w d u p).ends d.0 u.0 ≡ end_takes (Some p) (w.ends d.0 u.0)
here w d u p = rw (self-number d.0, self-number u.0) refl

there : (w : World) (d u : NodeId) (p : Packet) → nat_eq u.0 d.0 ≡ false →
    (packet_taken w d u p).ends u.0 d.0 ≡ w.ends u.0 d.0
there w d u p other = rw other refl

is_first : HandedUpInOrder → (w : World) (d u : NodeId) (p : Packet) (m : Msg) → nat_eq u.0 d.0 ≡ false →
    AreReached (packet_taken w d u p) →
    handed_up w d u p ≡ m ∷ [] → IsFirst w d u p m
is_first law w d u p m other r one =
    let taker = w.ends d.0 u.0 in
    let sender = w.ends u.0 d.0 in
    let up : ((packet_taken w d u p).ends d.0 u.0).up ≡ taker.up ++ m ∷ [] = ap (λ (e : HopEnd). e.up) (here w d u p) ∙
    ap (λ (h : List Msg). taker.up ++ h) one in
    let given : ((packet_taken w d u p).ends u.0 d.0).given ≡ sender.given =
    ap (λ (e : HopEnd). e.given) (there w d u p other) in
    let f : IsInOrder ((packet_taken w d u p).ends u.0 d.0) ((packet_taken w d u p).ends d.0 u.0) =
    in-order law (packet_taken w d u p) r u.0 d.0 in
    let split : (taker.up ++ m ∷ []) ++ f.0 ≡ sender.given = ap (λ (ms : List Msg). ms ++ f.0) (sym up) ∙ f.1 ∙ given in
    record {
      rest = f.0;
      before = way-before sender.given taker.up f.0 m split;
      after = ap (λ (ms : List Msg). drop (length ms) ((packet_taken w d u p).ends u.0 d.0).given) up
          ∙ ap (drop (length (taker.up ++ m ∷ []))) given ∙ way-after sender.given taker.up f.0 m split;
    }

image_taken : HandedUpInOrder → (w : World) (d u : NodeId) (p : Packet) (m : Msg) → IsFirst w d u p m →
    image (packet_taken w d u p) ≡ mesh.without_first (image w) u.0 d.0
image_taken law w d u p m first = λ i. record {
  nodes = w.nodes;
  desks = w.desks;
  mail = λ a b. by_test a b (nat_eq a u.0 && nat_eq b d.0) refl i;
  posted = w.posted;
  failed = w.failed;
}
  where
    swapped : (a b c d : ℕ) → (nat_eq a b && nat_eq c d) ≡ false → (nat_eq c d && nat_eq a b) ≡ false
    swapped a b c d e = grind arith

    by_test : (a b : ℕ) (c : Bool) → (nat_eq a u.0 && nat_eq b d.0) ≡ c →
        (image (packet_taken w d u p)).mail a b ≡ cond c (drop 1 ((image w).mail a b)) ((image w).mail a b)
    by_test a b true e =
        let is = two-numbers a b d.0 u.0 e in
        ap (λ n. (image (packet_taken w d u p)).mail n b) is.0
        ∙ ap (λ n. (image (packet_taken w d u p)).mail u.0 n) is.1
        ∙ first.after ∙ sym (ap (drop 1) first.before)
        ∙ ap (λ n. drop 1 ((image w).mail n d.0)) (sym is.0) ∙ ap (λ n. drop 1 ((image w).mail a n)) (sym is.1)
    by_test a b false e =
        way-same (w.ends a b) (w.ends b a) ((packet_taken w d u p).ends a b) ((packet_taken w d u p).ends b a)
        (given_taken (nat_eq a d.0 && nat_eq b u.0) p (w.ends a b))
        (ap (λ c. (cond c (end_takes (Some p) (w.ends b a)) (w.ends b a)).up) (swapped a u.0 b d.0 e))

pub record ShowsRun (t : Network) (s : Mesh) (es : List MeshEvent) (s' : Mesh) : Type 0 where
  pub run : mesh_runs.IsRun t s es
  pub leads : mesh_runs.after t s es ≡ s'

pub shows_handled : HandedUpInOrder → (t : Network) (w : World) (d u : NodeId) (p : Packet) (h : List Msg) →
    nat_eq u.0 d.0 ≡ false →
    AreReached (packet_taken w d u p) → handed_up w d u p ≡ h → ((m : Msg) (ms : List Msg) → h ≡ m ∷ ms → ms ≡ []) →
    ShowsRun t (image w) (taken_of d u h) (image (handled t (packet_taken w d u p) d u h))
shows_handled law t w d u p [] other r is one = record { run = tt; leads = sym (image_unmoved w d u p is) }
shows_handled law t w d u p (m ∷ ms) other r is one =
    let first : IsFirst w d u p m = is_first law w d u p m other r (is ∙ ap (λ ns. m ∷ ns) (one m ms refl)) in
    let rule : Answer = on_message (local_node t d) (w.nodes d.0) u m in
    let answer : on_first (local_node t d) (w.nodes d.0) u ((image w).mail u.0 d.0) ≡ rule =
    ap (on_first (local_node t d) (w.nodes d.0) u) first.before
    in
    record {
      run = (ap has_first first.before, tt);
      leads = ap (mesh.commit (mesh.without_first (image w) u.0 d.0) d.0) answer
          ∙ ap (λ s. mesh.commit s d.0 rule) (sym (image_taken law w d u p m first))
          ∙ sym (image-commit law (packet_taken w d u p) r d.0 rule);
    }

-- at most one message is handed up of a packet
one_of : (o : Option Msg) (m : Msg) (ms : List Msg) → option_to_list o ≡ m ∷ ms → ms ≡ []
one_of None m ms e = absurd (cc (e))
one_of (Some x) m ms e = cc

pub at_most_one : (v : Heard) (p : Packet) (m : Msg) (ms : List Msg) → handed_up_of v p ≡ m ∷ ms → ms ≡ []
at_most_one Next p m ms e = one_of p.body m ms e
at_most_one Acked p m ms e = absurd (cc (e))
at_most_one Unnumbered p m ms e = absurd (cc (e))
at_most_one Ahead p m ms e = absurd (cc (e))
at_most_one Repeat p m ms e = absurd (cc (e))

pub nothing_up : (v : Heard) (p : Packet) → v ≢ Next → handed_up_of v p ≡ []
nothing_up Next p other = absurd (other refl)
nothing_up Acked p other = refl
nothing_up Unnumbered p other = refl
nothing_up Ahead p other = refl
nothing_up Repeat p other = refl

pub handled_none : (t : Network) (w : World) (d u : NodeId) (ms : List Msg) → ms ≡ [] → handled t w d u ms ≡ w
handled_none t w d u [] e = refl
handled_none t w d u (m ∷ ms) e = absurd (cc (e))
