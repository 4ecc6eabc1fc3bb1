-- What stands on the channels from a node after it sent.
use Rattle.std.proofs.{Common.{◌≡◌, ◌-◌, ℕ, zero, suc, Bool, true, false, cond, nat_eq, List, [], ◌∷◌, ◌++◌, map, filter, set, refl, sym, ap, ◌∙◌, subst, arith, append-nil, append_assoc, eqb-true}, lemmas.List.map-append, lemmas.List.Folds.{find-set, find_past}, lemmas.Option.{get_or_from_slice_get, slice_get-map}, ByRecursion.All-append}
use Rattle.std.specs.{Prelude.{◌&&◌, ◌||◌, Option, Some, None, is_some, not, position, slice_get}, List.{AllByRecursion, list_any}, Option.option_map}
use Rattle.ason_base.specs.{declared.ids.NodeId.NodeId, declared.network.NodeSpec.NodeSpec, Network.{Network, are_ends, is_node_id}}
use Rattle.ason_base.proofs.{Numbers.number-flip, Finding.{found-passes, found-nowhere}}
use Rattle.flood.specs.{declared.frames.Content.Content, Frames.{IsFrame, frame_bytes}}
use Rattle.control_channels.specs.{declared.frames.Frame.Frame, Frames.{AllSpelled, Sending, frames_to}}
use Rattle.world_core.specs.Channels.{AreSent, ChannelState, HasFrames, IsChannelChangedAt, after_frame, after_frames, channel_to, frame_numbered, leads_to, new_channel, receivers, with_frame}
use Rattle.world_rules.specs.{WorldRuns.is_world_channel, Standing.contents_to, Worlds.numbered_at}
use Rattle.world_core.proofs.Finding.{IsFirst, also-found, is-first}

-- One frame

same_map : (f : ChannelState → ChannelState) (o : Option ChannelState) → ((c : ChannelState) → o ≡ Some c → f c ≡ c) →
    o ≡ option_map f o
same_map f None each = refl
same_map f (Some c) each = ap Some (sym (each c refl))

pub frame-pushed : (f : Frame) (before after : List ChannelState) (i : ℕ) → position (leads_to f.to.0) before ≡ Some i →
    IsChannelChangedAt before i (with_frame f.bytes) after → AreSent (f ∷ []) before after
frame-pushed f before after i at changes d = go (nat_eq d f.to.0) refl
  where
    n : ℕ
    n = f.to.0

    first : IsFirst (leads_to n) before i
    first = is-first (leads_to n) before i at

    new : ChannelState
    new = with_frame f.bytes first.item

    is : after ≡ set before i new
    is = changes first.item first.there

    here : channel_to after n ≡ option_map (after_frame f) (channel_to before n)
    here =
        ap (λ cs. channel_to cs n) is ∙ find-set (leads_to n) before i new first.place first.within first.passes
        ∙ sym (ap (option_map (after_frame f)) first.found ∙ ap (λ b. Some (cond b new first.item)) first.passes)

    other : (a b c : ℕ) → nat_eq a c ≡ true → nat_eq b c ≡ false → nat_eq a b ≡ false
    other a b c p q = grind arith

    go : (b : Bool) → nat_eq d n ≡ b → channel_to after d ≡ option_map (after_frame f) (channel_to before d)
    go true e =
        subst (λ k. channel_to after k ≡ option_map (after_frame f) (channel_to before k))
        (sym (eqb-true d n e)) here
    go false e =
        let elsewhere : leads_to d first.item ≡ false = other first.item.to.0 d n first.passes e in
        ap (λ cs. channel_to cs d) is
        ∙ find_past (leads_to d) before i new first.item
        (ap (leads_to d) (get_or_from_slice_get before i first.item first.item first.there) ∙ elsewhere) elsewhere
        ∙ same_map (after_frame f) (channel_to before d) (λ c found.
        ap (λ b. cond b (with_frame f.bytes c) c) (other c.to.0 n d (found-passes (leads_to d) before c found)
        (number-flip d n false e)))

-- no channel leads to the node
pub frame-unsent : (f : Frame) (before : List ChannelState) → position (leads_to f.to.0) before ≡ None →
    AreSent (f ∷ []) before before
frame-unsent f before none d = same_map (after_frame f) (channel_to before d)
    (λ c found. go c found (leads_to f.to.0 c) refl)
  where
    go : (c : ChannelState) → channel_to before d ≡ Some c → (b : Bool) → leads_to f.to.0 c ≡ b →
        cond b (with_frame f.bytes c) c ≡ c
    go c found true e =
        absurd (also-found (leads_to d) (leads_to f.to.0) before c found e (found-nowhere (leads_to f.to.0) before none))
    go c found false e = refl

-- Frames

pub sent-none : (channels : List ChannelState) → AreSent [] channels channels
sent-none channels d = same_map (after_frames []) (channel_to channels d) (λ c found. refl)

more : (fs : List Frame) (f : Frame) (c : ChannelState) →
    after_frames (fs ++ f ∷ []) c ≡ after_frame f (after_frames fs c)
more [] f c = refl
more (g ∷ fs) f c = more fs f (after_frame g c)

pub sent-more : (fs : List Frame) (f : Frame) (first before after : List ChannelState) → AreSent fs first before →
    AreSent (f ∷ []) before after → AreSent (fs ++ f ∷ []) first after
sent-more fs f first before after is then d =
    then d ∙ ap (option_map (after_frames (f ∷ []))) (is d) ∙ joined (channel_to first d)
  where
    joined : (o : Option ChannelState) →
        option_map (after_frames (f ∷ [])) (option_map (after_frames fs) o) ≡ option_map (after_frames (fs ++ f ∷ [])) o
    joined None = refl
    joined (Some c) = ap Some (sym (more fs f c))

-- a channel stays there
pub still-there : (fs : List Frame) (before after : List ChannelState) → AreSent fs before after → (d : ℕ) →
    is_some (channel_to after d) ≡ is_some (channel_to before d)
still-there fs before after sent d = ap is_some (sent d) ∙ go (channel_to before d)
  where
    go : (o : Option ChannelState) → is_some (option_map (after_frames fs) o) ≡ is_some o
    go None = refl
    go (Some c) = refl

-- What frames bear

abbrev bytes_from : NodeId → List Content → List (List ℕ)
bytes_from u cs = map (frame_bytes u) cs

frames-sent : (u : NodeId) (ss : List Sending) (c : ChannelState) →
    (after_frames (frames_to u ss) c).frames ≡ c.frames ++ bytes_from u (contents_to c.to.0 ss)
frames-sent u [] c = sym (append-nil c.frames)
frames-sent u (s ∷ ss) c = go (nat_eq s.to.0 c.to.0) refl (frames-sent u ss)
  where
    bytes : List ℕ
    bytes = frame_bytes u s.content

    packets : (b : Bool) → nat_eq s.to.0 c.to.0 ≡ b →
        contents_to c.to.0 (s ∷ ss) ≡ cond b (s.content ∷ contents_to c.to.0 ss) (contents_to c.to.0 ss)
    packets true h = rw h refl
    packets false h = rw h refl

    go : (b : Bool) → nat_eq s.to.0 c.to.0 ≡ b →
        ((k : ChannelState) → (after_frames (frames_to u ss) k).frames ≡ k.frames ++
        bytes_from u (contents_to k.to.0 ss)) →
        (after_frames (frames_to u ss) (cond (nat_eq c.to.0 s.to.0) (with_frame bytes c) c)).frames
        ≡ c.frames ++ bytes_from u (contents_to c.to.0 (s ∷ ss))
    go true e rest =
        ap (λ b. (after_frames (frames_to u ss) (cond b (with_frame bytes c) c)).frames) (number-flip s.to.0 c.to.0 true e)
        ∙ rest (with_frame bytes c) ∙ append_assoc c.frames (bytes ∷ []) (bytes_from u (contents_to c.to.0 ss))
        ∙ sym (ap (λ ps. c.frames ++ bytes_from u ps) (packets true e))
    go false e rest =
        ap (λ b. (after_frames (frames_to u ss) (cond b (with_frame bytes c) c)).frames) (number-flip s.to.0 c.to.0 false e)
        ∙ rest c ∙ sym (ap (λ ps. c.frames ++ bytes_from u ps) (packets false e))

-- each spells what it bears
spelled-to : (u : NodeId) (d : ℕ) (ss : List Sending) → AllSpelled u ss →
    AllByRecursion (λ (c : Content). IsFrame (frame_bytes u c) c) (contents_to d ss)
spelled-to u d [] all = tt
spelled-to u d (s ∷ ss) all = go (nat_eq s.to.0 d) (spelled-to u d ss all.1)
  where
    go : (b : Bool) → AllByRecursion (λ (c : Content). IsFrame (frame_bytes u c) c) (contents_to d ss) →
        AllByRecursion (λ (c : Content). IsFrame (frame_bytes u c) c)
        (map (λ (x : Sending). x.content)
        (cond b (s ∷ filter (λ (x : Sending). nat_eq x.to.0 d) ss) (filter (λ (x : Sending). nat_eq x.to.0 d) ss)))
    go true rest = (all.0, rest)
    go false rest = rest

pub has-sent : (u : NodeId) (contents : List Content) (c : ChannelState) (d : ℕ) (ss : List Sending) → c.to.0 ≡ d →
    AllSpelled u ss → HasFrames u contents c.frames →
    HasFrames u (contents ++ contents_to d ss) (after_frames (frames_to u ss) c).frames
has-sent u contents c d ss to all is = record {
  bytes = frames-sent u ss c ∙ ap (λ n. c.frames ++ bytes_from u (contents_to n ss)) to
      ∙ ap (λ fs. fs ++ bytes_from u (contents_to d ss)) is.bytes
      ∙ sym (map-append (frame_bytes u) contents (contents_to d ss));
  spelled = All-append (λ (x : Content). IsFrame (frame_bytes u x) x) contents (contents_to d ss) is.spelled
      (spelled-to u d ss all);
}

-- The frame with a number

-- it spells what the world has there
pub record IsNumberedFrame (contents : List Content) (k : ℕ) (bytes : List ℕ) : Type 0 where
  pub content : Content
  pub there : numbered_at contents k ≡ Some content
  pub bears : IsFrame bytes content

later_number : (frames : List (List ℕ)) (k : ℕ) → frame_numbered frames (suc k) ≡ slice_get frames k
later_number frames k =
    let less : suc k - 1 ≡ k = omega arith in
    let past : nat_eq (suc k) 0 ≡ false = grind arith in
    ap (λ b. cond b None (slice_get frames (suc k - 1))) past ∙ ap (λ j. slice_get frames j) less

all-at : (P : Content → Type 0) (xs : List Content) (i : ℕ) (x : Content) → AllByRecursion P xs →
    slice_get xs i ≡ Some x → P x
all-at P [] i x all e = absurd (cc (e))
all-at P (y ∷ ys) zero x all e = let same : y ≡ x = cc (e) in subst P same all.0
all-at P (y ∷ ys) (suc i) x all e = all-at P ys i x all.1 e

pub is-numbered : (u : NodeId) (contents : List Content) (frames : List (List ℕ)) (k : ℕ) (bytes : List ℕ) →
    HasFrames u contents frames → frame_numbered frames k ≡ Some bytes → IsNumberedFrame contents k bytes
is-numbered u contents frames zero bytes is e = absurd (cc (e))
is-numbered u contents frames (suc k) bytes is e =
    go (slice_get contents k) refl
    (sym (slice_get-map (frame_bytes u) contents k) ∙ ap (λ fs. slice_get fs k) (sym is.bytes) ∙
    sym (later_number frames k) ∙ e)
  where
    go : (o : Option Content) → slice_get contents k ≡ o → option_map (frame_bytes u) o ≡ Some bytes →
        IsNumberedFrame contents (suc k) bytes
    go None at h = absurd (cc (h))
    go (Some x) at h =
        let same : frame_bytes u x ≡ bytes = cc (h) in
        record {
          content = x;
          there = at;
          bears = subst (λ b. IsFrame b x) same (all-at (λ (y : Content). IsFrame (frame_bytes u y) y) contents k x
              is.spelled at);
        }

-- and where there is none, the world has none
pub not-numbered : (u : NodeId) (contents : List Content) (frames : List (List ℕ)) (k : ℕ) →
    HasFrames u contents frames →
    frame_numbered frames k ≡ None → is_some (numbered_at contents k) ≡ false
not-numbered u contents frames zero is e = refl
not-numbered u contents frames (suc k) is e =
    go (slice_get contents k)
    (sym (slice_get-map (frame_bytes u) contents k) ∙ ap (λ fs. slice_get fs k) (sym is.bytes) ∙
    sym (later_number frames k) ∙ e)
  where
    go : (o : Option Content) → option_map (frame_bytes u) o ≡ None → is_some o ≡ false
    go None h = refl
    go (Some x) h = absurd (cc (h))

-- New channels

made_of : (q : NodeId → Bool) (d : NodeId) (ms : List NodeSpec) →
    is_some (channel_to (map new_channel (map (λ (m : NodeSpec). m.id) (filter (λ (m : NodeSpec). q m.id) ms))) d.0)
    ≡ (is_node_id ms d && q d)
made_of q d [] = refl
made_of q d (m ∷ ms) = go (q m.id) (nat_eq m.id.0 d.0) refl refl (made_of q d ms)
  where
    rest : List ChannelState
    rest = map new_channel (map (λ (k : NodeSpec). k.id) (filter (λ (k : NodeSpec). q k.id) ms))

    never : (a : Bool) → false ≡ (a && false)
    never true = refl
    never false = refl

    go : (b c : Bool) → q m.id ≡ b → nat_eq m.id.0 d.0 ≡ c → is_some (channel_to rest d.0) ≡ (is_node_id ms d && q d) →
        is_some (channel_to (map new_channel (map (λ (k : NodeSpec). k.id)
        (cond b (m ∷ filter (λ (k : NodeSpec). q k.id) ms) (filter (λ (k : NodeSpec). q k.id) ms)))) d.0)
        ≡ ((c || is_node_id ms d) && q d)
    go true true t e later =
        let same : m.id.0 ≡ d.0 = eqb-true m.id.0 d.0 e in
        rw e (sym (ap (λ n. q (record { 0 = n })) (sym same) ∙ t))
    go true false t e later = rw e later
    go false true t e later =
        let same : m.id.0 ≡ d.0 = eqb-true m.id.0 d.0 e in
        let none : q d ≡ false = ap (λ n. q (record { 0 = n })) (sym same) ∙ t in
        later ∙ ap (λ x. is_node_id ms d && x) none ∙ sym (never (is_node_id ms d)) ∙ sym none
    go false false t e later = later

pub new-there : (t : Network) (n d : NodeId) →
    is_some (channel_to (map new_channel (receivers t n)) d.0) ≡ is_world_channel t n d
new-there t n d =
    made_of (λ k. is_world_channel t n k) d t.nodes
    ∙ absorbed (is_node_id t.nodes n) (is_node_id t.nodes d) (not (nat_eq n.0 d.0))
    (list_any (λ l. are_ends l.low l.high n d) t.links)
  where
    absorbed : (a b c e : Bool) → (b && (a && b && c && e)) ≡ (a && b && c && e)
    absorbed true true c e = refl
    absorbed true false c e = refl
    absorbed false true c e = refl
    absorbed false false c e = refl

pub new-frames : (us : List NodeId) (d : ℕ) (c : ChannelState) → channel_to (map new_channel us) d ≡ Some c →
    c.frames ≡ []
new-frames [] d c e = absurd (cc (e))
new-frames (u ∷ us) d c e = go (nat_eq u.0 d) (new-frames us d c) e
  where
    go : (b : Bool) → (channel_to (map new_channel us) d ≡ Some c → c.frames ≡ []) →
        cond b (Some (new_channel u)) (channel_to (map new_channel us) d) ≡ Some c → c.frames ≡ []
    go true later h = let same : new_channel u ≡ c = cc (h) in ap (λ (k : ChannelState). k.frames) (sym same)
    go false later h = later h
