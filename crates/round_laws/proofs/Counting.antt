-- What a run of a world tells of the events of the mesh that it gives: how many messages are taken, and items handled.
use Rattle.std.proofs.Common.{◌≡◌, ◌≤◌, ◌+◌, ℕ, Bool, true, false, cond, nat_eq, List, [], ◌∷◌, ◌++◌, map, refl, sym, ap, ◌∙◌, subst, arith}
use Rattle.std.specs.{Prelude.{Option, Some, None}, Option.option_to_list, List.AllByRecursion}
use Rattle.ason_base.specs.{declared.ids.NodeId.NodeId, declared.messages.Msg.Msg, declared.messages.Packet.Packet, declared.commands.Entry.Entry, declared.commands.Event.Event, declared.commands.Event.TheVariants.{Deliver, Noise, Tick, Desk, Post}, declared.network.TeRow.TeRow, Network.Network}
use Rattle.flood.specs.{declared.frames.Content.Content, declared.frames.Content.TheVariants.{Message, Flood}, State.learnt_of}
use Rattle.hop_reliable.specs.{declared.heard.Heard.Heard, declared.heard.Heard.TheVariants.{Acked, Unnumbered, Ahead, Repeat, Next}, Hop.{handed_up_after, handed_up_of, heard_body, heard_id}, Schedules.HopEnd}
use Rattle.mesh_rules.specs.{declared.events.MeshEvent.MeshEvent, declared.events.MeshEvent.TheVariants.Take}
use Rattle.world_rules.specs.{Images.{given_by, given_by_frame, learnt_by, mesh_events, taken_of}, Standing.IsUntouched, Worlds.{World, delivered, frame_at, handed_up, with_event}, WorldRuns.{world_after, is_event_of, world_step}}
use Rattle.ason_base.proofs.Numbers.{self-number}
use Rattle.mesh_laws.specs.{SoonLaw.PostsNothing, Sweeps.{handled_at, taken_count, takes_one}}
use Rattle.world_rules.proofs.Untouched.{others-are-untouched}
use Rattle.world_merge.specs.{Deeds.{Deed, Handled, Heard as HeardNoise, Posted, Ticked, Took}, Logs.{is_posted, line_of}, Histories.at, Merges.{concerns, events_of, is_line_at, part}}
use Rattle.round_laws.specs.Rings.{climb, climb_one}
use Rattle.round_laws.proofs.Hearing.{deed_hears, up_delivered}

taken_append : (u d : ℕ) (es fs : List MeshEvent) → taken_count u d (es ++ fs) ≡ taken_count u d es + taken_count u d fs
taken_append u d [] fs = omega arith
taken_append u d (e ∷ es) fs = let r = taken_append u d es fs in omega (arith, r)

handled_append : (n : ℕ) (es fs : List MeshEvent) → handled_at n (es ++ fs) ≡ handled_at n es + handled_at n fs
handled_append n [] fs = omega arith
handled_append n (e ∷ es) fs = let r = handled_append n es fs in omega (arith, r)

-- A message that is handed up is taken

one_taken : (d u : NodeId) → takes_one u.0 d.0 (Take d u) ≡ 1
one_taken d u = rw (self-number u.0, self-number d.0) refl

by_heard : (h : ℕ) (v : Heard) (d u : NodeId) (p : Packet) (m : Msg) → p.body ≡ Some m →
    handed_up_after h v ≤ h + taken_count u.0 d.0 (taken_of d u (handed_up_of v p))
by_heard h Next d u p m is =
    let all : taken_count u.0 d.0 (taken_of d u (handed_up_of Next p)) ≡ 1 =
    ap (λ o. taken_count u.0 d.0 (taken_of d u (option_to_list o))) is ∙ one_more (one_taken d u) in
    omega (arith, all)
  where
    one_more : {a : ℕ} → a ≡ 1 → a + 0 ≡ 1
    one_more e = omega (arith, e)
by_heard h Acked d u p m is = omega arith
by_heard h Unnumbered d u p m is = omega arith
by_heard h Ahead d u p m is = omega arith
by_heard h Repeat d u p m is = omega arith

by_body : (h : ℕ) (d u : NodeId) (p : Packet) (o : Option Msg) → p.body ≡ o →
    handed_up_after h (heard_body h p.id o) ≤ h + taken_count u.0 d.0
    (taken_of d u (handed_up_of (heard_body h p.id o) p))
by_body h d u p None is = omega arith
by_body h d u p (Some m) is = by_heard h (heard_id h p.id) d u p m is

abbrev Up : World → ℕ → ℕ → ℕ
Up w d u = (w.ends d u).hop.handed_up

from_frame : (t : Network) (w : World) (d u : NodeId) (o : Option Content) → (b : ℕ) →
    Up (delivered t (with_event w d.0) d u o) d.0 b ≤
    Up w d.0 b + taken_count b d.0 (given_by_frame w d u o)
from_frame t w d u None b = omega arith
from_frame t w d u (Some (Message p)) b = go (nat_eq b u.0) refl (up_delivered t (with_event w d.0) d u (Message p) b)
  where
    es : List MeshEvent
    es = given_by_frame w d u (Some (Message p))

    new : ℕ
    new = Up (delivered t (with_event w d.0) d u (Some (Message p))) d.0 b

    go : (c : Bool) → nat_eq b u.0 ≡ c → new ≡ climb (Up w d.0 b) (cond c (Message p ∷ []) []) →
        new ≤ Up w d.0 b + taken_count b d.0 es
    go true e is =
        let same : b ≡ u.0 = grind (arith, e) in
        let low : climb_one (Up w d.0 u.0) (Message p) ≤ Up w d.0 u.0 + taken_count u.0 d.0 es =
        by_body (Up w d.0 u.0) d u p p.body refl in
        let high : climb_one (Up w d.0 b) (Message p) ≤ Up w d.0 b + taken_count b d.0 es =
        subst (λ a. climb_one (Up w d.0 a) (Message p) ≤ Up w d.0 a + taken_count a d.0 es) (sym same) low in
        omega (arith, is, high)
    go false e is = omega (arith, is)
from_frame t w d u (Some (Flood m)) b = go (nat_eq b u.0) (up_delivered t (with_event w d.0) d u (Flood m) b)
  where
    es : List MeshEvent
    es = given_by_frame w d u (Some (Flood m))

    new : ℕ
    new = Up (delivered t (with_event w d.0) d u (Some (Flood m))) d.0 b

    go : (c : Bool) → new ≡ climb (Up w d.0 b) (cond c (Flood m ∷ []) []) → new ≤ Up w d.0 b + taken_count b d.0 es
    go true is = omega (arith, is)
    go false is = omega (arith, is)

abbrev Grows : Network → World → Event → ℕ → ℕ → Type 0
Grows t w e d u = Up (world_step t w e) d u ≤ Up w d u + taken_count u d (given_by w e)

elsewhere : (t : Network) (w : World) (e : Event) (d u : ℕ) → is_event_of d e ≡ false → Grows t w e d u
elsewhere t w e d u other =
    let f : IsUntouched w (world_step t w e) d = others-are-untouched t w e d other in
    let same : Up (world_step t w e) d u ≡ Up w d u = ap (λ (x : HopEnd). x.hop.handed_up) (f.ends u) in
    omega (arith, same)

one_event : (t : Network) (w : World) (e : Event) (d u : ℕ) → Grows t w e d u
one_event t w (Deliver n v k) d u = go (nat_eq n.0 d) refl
  where
    go : (b : Bool) → nat_eq n.0 d ≡ b → Grows t w (Deliver n v k) d u
    go true e =
        let same : n.0 ≡ d = grind (arith, e) in
        subst (λ a. Grows t w (Deliver n v k) a u) same (from_frame t w n v (frame_at w v n k) u)
    go false e = elsewhere t w (Deliver n v k) d u e
one_event t w (Noise n v bytes) d u = go (nat_eq n.0 d) refl
  where
    go : (b : Bool) → nat_eq n.0 d ≡ b → Grows t w (Noise n v bytes) d u
    go true e = omega arith
    go false e = elsewhere t w (Noise n v bytes) d u e
one_event t w (Tick n) d u = go (nat_eq n.0 d) refl
  where
    go : (b : Bool) → nat_eq n.0 d ≡ b → Grows t w (Tick n) d u
    go true e =
        let same : n.0 ≡ d = grind (arith, e) in
        let is : Up (world_step t w (Tick n)) n.0 u ≡ Up w n.0 u = deed_hears t n w (Ticked 0) u in
        subst (λ a. Grows t w (Tick n) a u) same (omega (arith, is))
    go false e = elsewhere t w (Tick n) d u e
one_event t w (Desk n) d u = go (nat_eq n.0 d) refl
  where
    go : (b : Bool) → nat_eq n.0 d ≡ b → Grows t w (Desk n) d u
    go true e =
        let same : n.0 ≡ d = grind (arith, e) in
        let is : Up (world_step t w (Desk n)) n.0 u ≡ Up w n.0 u = deed_hears t n w (Handled 0) u in
        subst (λ a. Grows t w (Desk n) a u) same (omega (arith, is))
    go false e = elsewhere t w (Desk n) d u e
one_event t w (Post c) d u = elsewhere t w (Post c) d u refl

-- what is handed up in a run is taken in the mesh
pub run_takes : (t : Network) (w : World) (es : List Event) (d u : ℕ) →
    Up (world_after t w es) d u ≤ Up w d u + taken_count u d (mesh_events t w es)
run_takes t w [] d u = omega arith
run_takes t w (e ∷ es) d u =
    let one = one_event t w e d u in
    let rest = run_takes t (world_step t w e) es d u in
    let both = taken_append u d (given_by w e) (mesh_events t (world_step t w e) es) in
    omega (arith, one, rest, both)

-- Desks

abbrev desk_one : ℕ → Event → ℕ
desk_one n (Deliver d u k) = 0
desk_one n (Noise d u bytes) = 0
desk_one n (Tick m) = 0
desk_one n (Desk m) = cond (nat_eq m.0 n) 1 0
desk_one n (Post c) = 0

-- so many items of the desk are handled in these events of a world
abbrev pub desk_count : ℕ → List Event → ℕ
desk_count n [] = 0
desk_count n (e ∷ es) = desk_one n e + desk_count n es

desk_given : (w : World) (e : Event) (n : ℕ) → desk_one n e ≤ handled_at n (given_by w e)
desk_given w (Deliver d u k) n = omega arith
desk_given w (Noise d u bytes) n = omega arith
desk_given w (Tick m) n = omega arith
desk_given w (Desk m) n = omega arith
desk_given w (Post c) n = omega arith

-- each is one in the events of the mesh that they give
pub run_handles : (t : Network) (w : World) (es : List Event) (n : ℕ) →
    desk_count n es ≤ handled_at n (mesh_events t w es)
run_handles t w [] n = omega arith
run_handles t w (e ∷ es) n =
    let one = desk_given w e n in
    let rest = run_handles t (world_step t w e) es n in
    let both = handled_append n (given_by w e) (mesh_events t (world_step t w e) es) in
    omega (arith, one, rest, both)

-- those of one node's part are in the list
pub part_desks : (n : ℕ) (m : List Entry) → desk_count n (events_of (part n m)) ≤ desk_count n (events_of m)
part_desks n [] = omega arith
part_desks n (e ∷ m) = go (concerns n e) (part_desks n m)
  where
    go : (b : Bool) → desk_count n (events_of (part n m)) ≤ desk_count n (events_of m) →
        desk_count n (events_of (cond b (e ∷ part n m) (part n m))) ≤ desk_one n e.event + desk_count n (events_of m)
    go true rest = omega (arith, rest)
    go false rest = omega (arith, rest)

abbrev handled_one : Deed → ℕ
handled_one (Handled s) = 1
handled_one (Ticked s) = 0
handled_one (Took s u k x) = 0
handled_one (HeardNoise s u bytes) = 0
handled_one (Posted s c) = 0

-- so many are handled by a node's deeds
abbrev pub handled_in : List Deed → ℕ
handled_in [] = 0
handled_in (d ∷ ds) = handled_one d + handled_in ds

line_desk : (n : ℕ) (d : Deed) → handled_one d ≡ desk_one n (line_of (at n) d).event
line_desk n (Handled s) = sym (ap (λ b. cond b 1 0) (self-number n))
line_desk n (Ticked s) = refl
line_desk n (Took s u k x) = refl
line_desk n (HeardNoise s u bytes) = refl
line_desk n (Posted s c) = refl

-- as many as its lines have
pub lines_desks : (n : ℕ) (ds : List Deed) → handled_in ds ≡ desk_count n (events_of (map (line_of (at n)) ds))
lines_desks n [] = refl
lines_desks n (d ∷ ds) = let one = line_desk n d in let rest = lines_desks n ds in omega (arith, one, rest)

-- of some deeds, and then others
pub handled_in_append : (ds es : List Deed) → handled_in (ds ++ es) ≡ handled_in ds + handled_in es
handled_in_append [] es = omega arith
handled_in_append (d ∷ ds) es = let r = handled_in_append ds es in omega (arith, r)

-- Posts

-- nothing is posted
abbrev pub IsNoPost : Event → Type 0
IsNoPost (Deliver d u k) = Unit {0}
IsNoPost (Noise d u bytes) = Unit {0}
IsNoPost (Tick n) = Unit {0}
IsNoPost (Desk n) = Unit {0}
IsNoPost (Post c) = ⊥

-- what holds of each line of each part holds of each line
pub of_parts : (P : Entry → Type 0) (m : List Entry) → ((n : ℕ) → AllByRecursion P (part n m)) → AllByRecursion P m
of_parts P [] all = tt
of_parts P (e ∷ m) all = (here e.node refl, of_parts P m (λ n. later n (concerns n e) (all n)))
  where
    head : (n : ℕ) → concerns n e ≡ true → P e
    head n is = (subst (λ b. AllByRecursion P (cond b (e ∷ part n m) (part n m))) is (all n)).0

    here : (o : Option NodeId) → e.node ≡ o → P e
    here None is = head 0 (ap (is_line_at 0) is)
    here (Some k) is = head k.0 (ap (is_line_at k.0) is ∙ self-number k.0)

    later : (n : ℕ) (b : Bool) → AllByRecursion P (cond b (e ∷ part n m) (part n m)) → AllByRecursion P (part n m)
    later n true all = all.1
    later n false all = all

-- lines of deeds that post nothing post nothing
pub line_posts : (n : NodeId) (ds : List Deed) → AllByRecursion (λ (d : Deed). is_posted d ≡ false) ds →
    AllByRecursion (λ (e : Entry). IsNoPost e.event) (map (line_of n) ds)
line_posts n [] none = tt
line_posts n (Handled s ∷ ds) none = (tt, line_posts n ds none.1)
line_posts n (Ticked s ∷ ds) none = (tt, line_posts n ds none.1)
line_posts n (Took s u k x ∷ ds) none = (tt, line_posts n ds none.1)
line_posts n (HeardNoise s u bytes ∷ ds) none = (tt, line_posts n ds none.1)
line_posts n (Posted s c ∷ ds) none = absurd (cc (none.0))

all_append : (es fs : List MeshEvent) → AllByRecursion PostsNothing es → AllByRecursion PostsNothing fs →
    AllByRecursion PostsNothing (es ++ fs)
all_append [] fs p q = q
all_append (e ∷ es) fs p q = (p.0, all_append es fs p.1 q)

given_posts : (w : World) (e : Event) → IsNoPost e → AllByRecursion PostsNothing (given_by w e)
given_posts w (Deliver d u k) is = go (frame_at w u d k)
  where
    message : (ms : List Msg) → AllByRecursion PostsNothing (taken_of d u ms)
    message [] = tt
    message (m ∷ ms) = (tt, tt)

    row : (o : Option TeRow) → AllByRecursion PostsNothing (learnt_by d o)
    row None = tt
    row (Some r) = (tt, tt)

    go : (o : Option Content) → AllByRecursion PostsNothing (given_by_frame w d u o)
    go None = tt
    go (Some (Message p)) = message (handed_up w d u p)
    go (Some (Flood m)) = row (learnt_of (w.floods d.0) m)
given_posts w (Noise d u bytes) is = tt
given_posts w (Tick n) is = (tt, tt)
given_posts w (Desk n) is = (tt, tt)
given_posts w (Post c) is = absurd is

-- nor do the events of the mesh that they give
pub run_posts : (t : Network) (w : World) (m : List Entry) → AllByRecursion (λ (e : Entry). IsNoPost e.event) m →
    AllByRecursion PostsNothing (mesh_events t w (events_of m))
run_posts t w [] none = tt
run_posts t w (e ∷ m) none =
    all_append (given_by w e.event) (mesh_events t (world_step t w e.event) (events_of m))
    (given_posts w e.event none.0)
    (run_posts t (world_step t w e.event) m none.1)
