-- How many frames a flood makes, and that they go to neighbours.
use Rattle.std.proofs.{Common.{◌≡◌, ◌≤◌, ◌+◌, ◌*◌, ◌^◌, suc, Bool, true, false, cond, not, List, [], ◌∷◌, ◌++◌, length, map, filter, sym, ap, ◌∙◌, subst, arith, Contains}, lemmas.List.{length-append, length-map}, lemmas.List.Sums.sum_by-cons, ByRecursion.All-append}
use Rattle.std.specs.{Prelude.{Some, sum_by}, List.{AllByRecursion, flat_map}}
use Rattle.ason_base.specs.{declared.limits.TheConstants.{MOST_EVENTS, MOST_LINKS}, declared.ids.NodeId.NodeId, declared.network.TeRow.TeRow}
use Rattle.flood.specs.{declared.due.Due.Due, declared.messages.FloodMsg.FloodMsg, declared.messages.FloodMsg.TheVariants.{Row, Ack}, State.{FloodState, IsCounted, NeighbourState, due_to, first_sending, first_sendings, goes_at, is_from, is_new, older_due, pending_count, sending, sends_after, sent_at_tick, rows_sent_to}}
use Rattle.flood.proofs.Counting.{total-most}
use Rattle.mesh_nodes.specs.LocalNodes.{is_neighbour}
use Rattle.mesh_rules.specs.LocalNodes.{LocalNode}
use Rattle.control_channels.specs.{declared.adjacencies.Adjacency.Adjacency, Adjacencies.{again_to, neighbours}, Controllers.floods_to, Frames.{Sending, frames_to}, declared.frames.Frame.Frame, ReadyControllers.unacknowledged}
use Rattle.control_channels.proofs.{Counting.due-few, Reaching.{each-numbered, number-near}}

NearSends : LocalNode → List (NodeId × FloodMsg) → Type 0
NearSends p sends = AllByRecursion (λ (s : NodeId × FloodMsg). is_neighbour p s.0 ≡ true) sends

NearNeighbours : LocalNode → List NeighbourState → Type 0
NearNeighbours p ns = AllByRecursion (λ (n : NeighbourState). is_neighbour p n.id ≡ true) ns

sends-near : (p : LocalNode) (sends : List (NodeId × FloodMsg)) → NearSends p sends →
    AllByRecursion (λ (s : Sending). is_neighbour p s.to ≡ true) (floods_to sends)
unfolding NearSends
sends-near p [] h = tt
sends-near p (s ∷ sends) h = (h.0, sends-near p sends h.1)

neighbours-near : (p : LocalNode) (ns : List NeighbourState) →
    map (λ (n : NeighbourState). n.id.0) ns ≡ neighbours p → NearNeighbours p ns
unfolding NearNeighbours
neighbours-near p ns e =
    each-numbered (λ k. is_neighbour p (record { 0 = k }) ≡ true) (λ (n : NeighbourState). n.id.0) ns
    (λ k there. number-near p k (subst (λ ks. Contains ks k) e there))

due-near : (p : LocalNode) (n : NodeId) (ds : List Due) → is_neighbour p n ≡ true → NearSends p (map (sending n) ds)
unfolding NearSends
due-near p n [] h = tt
due-near p n (d ∷ ds) h = (h, due-near p n ds h)

tick-near : (p : LocalNode) (ns : List NeighbourState) → NearNeighbours p ns → NearSends p (flat_map rows_sent_to ns)
unfolding NearSends NearNeighbours
tick-near p [] h = tt
tick-near p (n ∷ ns) h =
    All-append (λ (s : NodeId × FloodMsg). is_neighbour p s.0 ≡ true) (rows_sent_to n) (flat_map rows_sent_to ns)
    (due-near p n.id (filter (λ d. goes_at d.age) (map older_due n.due)) h.0) (tick-near p ns h.1)

pub floods-near : (p : LocalNode) (f : FloodState) → map (λ (n : NeighbourState). n.id.0) f.neighbours ≡ neighbours p →
    AllByRecursion (λ (s : Sending). is_neighbour p s.to ≡ true) (floods_to (sent_at_tick f))
floods-near p f e = sends-near p (sent_at_tick f) (tick-near p f.neighbours (neighbours-near p f.neighbours e))

first-near : (p : LocalNode) (u origin : NodeId) (row : TeRow) (ns : List NeighbourState) → NearNeighbours p ns →
    NearSends p (first_sendings u origin row ns)
unfolding NearSends NearNeighbours
first-near p u origin row [] h = tt
first-near p u origin row (n ∷ ns) h = go (not (is_from (Some u) n)) (first-near p u origin row ns h.1)
  where
    rest : List NeighbourState
    rest = filter (λ m. not (is_from (Some u) m)) ns

    go : (b : Bool) → NearSends p (map (first_sending origin row) rest) →
        NearSends p (map (first_sending origin row) (cond b (n ∷ rest) rest))
    go true later = (h.0, later)
    go false later = later

answer-near : (p : LocalNode) (f : FloodState) (u : NodeId) (m : FloodMsg) → NearNeighbours p f.neighbours →
    is_neighbour p u ≡ true → NearSends p (sends_after f u m)
unfolding NearSends
answer-near p f u (Ack number) near from = tt
answer-near p f u (Row number origin row) near from = (from, go (is_new f row))
  where
    go : (b : Bool) → NearSends p (cond b (first_sendings u origin row f.neighbours) [])
    go true = first-near p u origin row f.neighbours near
    go false = tt

pub answers-near : (p : LocalNode) (f : FloodState) (u : NodeId) (m : FloodMsg) →
    map (λ (n : NeighbourState). n.id.0) f.neighbours ≡ neighbours p → is_neighbour p u ≡ true →
    AllByRecursion (λ (s : Sending). is_neighbour p s.to ≡ true) (floods_to (sends_after f u m))
answers-near p f u m e from =
    sends-near p (sends_after f u m) (answer-near p f u m (neighbours-near p f.neighbours e) from)

due-count : (n : NodeId) (ds : List Due) → length (due_to n ds) ≤ length ds
due-count n [] = omega arith
due-count n (d ∷ ds) = go (goes_at (older_due d).age) (due-count n ds)
  where
    rest : List Due
    rest = filter (λ e. goes_at e.age) (map older_due ds)

    go : (b : Bool) → length (map (sending n) rest) ≤ length ds →
        length (map (sending n) (cond b (older_due d ∷ rest) rest)) ≤ suc (length ds)
    go true h = omega arith
    go false h = omega arith

tick-count : (ns : List NeighbourState) → length (flat_map rows_sent_to ns) ≤ sum_by (λ n. length n.due) ns
tick-count [] = omega arith
tick-count (n ∷ ns) =
    let one : length (rows_sent_to n) ≤ length n.due = due-count n.id n.due in
    let later : length (flat_map rows_sent_to ns) ≤ sum_by (λ m. length m.due) ns = tick-count ns in
    let both : length (rows_sent_to n ++ flat_map rows_sent_to ns)
    ≡ length (rows_sent_to n) + length (flat_map rows_sent_to ns) =
    length-append (rows_sent_to n) (flat_map rows_sent_to ns) in
    subst (λ k. length (rows_sent_to n ++ flat_map rows_sent_to ns) ≤ k)
    (sym (sum_by-cons {X = NeighbourState} (λ m. length m.due) n ns)) (omega arith)

pub rows-few : (f : FloodState) → IsCounted (length f.rows) f.neighbours → pending_count f ≤ 2 ^ 40
rows-few f counted =
    let hops : length f.neighbours ≤ 2 ^ 32 = counted.hops in
    let most : sum_by (λ n. length n.due) f.neighbours ≤ MOST_LINKS * length f.neighbours =
    total-most (length f.rows) f.neighbours counted.few counted.sent counted.due in
    omega arith

pub first-few : (p : LocalNode) (xs : List Adjacency) (f : FloodState) →
    unacknowledged xs ≤ MOST_LINKS * (65536 * MOST_EVENTS) →
    length (neighbours p) ≤ MOST_LINKS → map (λ (n : NeighbourState). n.id.0) f.neighbours ≡ neighbours p →
    IsCounted (length f.rows) f.neighbours →
    length (flat_map again_to xs ++ floods_to (sent_at_tick f)) ≤ MOST_LINKS * (65536 * (MOST_EVENTS + 1))
first-few p xs f waiting narrow ids counted =
    let hops : length (flat_map again_to xs) ≤ unacknowledged xs = due-few xs in
    let same : length (floods_to (sent_at_tick f)) ≡ length (sent_at_tick f) = length-map (sent_at_tick f) _ in
    let rows : length (sent_at_tick f) ≤ sum_by (λ n. length n.due) f.neighbours = tick-count f.neighbours in
    let most : sum_by (λ n. length n.due) f.neighbours ≤ MOST_LINKS * length f.neighbours =
    total-most (length f.rows) f.neighbours counted.few counted.sent counted.due in
    let count : length f.neighbours ≡ length (neighbours p) =
    sym (length-map f.neighbours (λ (n : NeighbourState). n.id.0)) ∙ ap length ids in
    rw (length-append (flat_map again_to xs) (floods_to (sent_at_tick f))) (omega arith)

first-count : (u origin : NodeId) (row : TeRow) (ns : List NeighbourState) →
    length (first_sendings u origin row ns) ≤ length ns
first-count u origin row [] = omega arith
first-count u origin row (n ∷ ns) = go (not (is_from (Some u) n)) (first-count u origin row ns)
  where
    rest : List NeighbourState
    rest = filter (λ m. not (is_from (Some u) m)) ns

    go : (b : Bool) → length (map (first_sending origin row) rest) ≤ length ns →
        length (map (first_sending origin row) (cond b (n ∷ rest) rest)) ≤ suc (length ns)
    go true h = omega arith
    go false h = omega arith

pub answer-count : (f : FloodState) (u : NodeId) (m : FloodMsg) →
    length (sends_after f u m) ≤ 1 + length f.neighbours
answer-count f u (Ack number) = omega arith
answer-count f u (Row number origin row) = go (is_new f row) (first-count u origin row f.neighbours)
  where
    go : (b : Bool) → length (first_sendings u origin row f.neighbours) ≤ length f.neighbours →
        length ((u, Ack number) ∷ cond b (first_sendings u origin row f.neighbours) []) ≤ 1 + length f.neighbours
    go true h = omega arith
    go false h = omega arith

pub answer-frames : (me id : NodeId) (sends after : List (NodeId × FloodMsg)) (none frames : List Frame) → none ≡ [] →
    me ≡ id → sends ≡ after → frames ≡ none ++ frames_to me (floods_to sends) → frames ≡ frames_to id (floods_to after)
answer-frames me id sends after none frames start same is framed =
    framed ∙ ap (λ fs. fs ++ frames_to me (floods_to sends)) start ∙ ap (λ n. frames_to n (floods_to sends)) same
    ∙ ap (λ ss. frames_to id (floods_to ss)) is

pub answer-few : (id : NodeId) (f : FloodState) (u : NodeId) (m : FloodMsg) (frames : List Frame) →
    IsCounted (length f.rows) f.neighbours → frames ≡ frames_to id (floods_to (sends_after f u m)) →
    length frames ≤ 2 ^ 40
answer-few id f u m frames counted is =
    let all : length frames ≡ length (frames_to id (floods_to (sends_after f u m))) = ap length is in
    let framed : length (frames_to id (floods_to (sends_after f u m))) ≡ length (floods_to (sends_after f u m)) =
    length-map (floods_to (sends_after f u m)) _ in
    let sent : length (floods_to (sends_after f u m)) ≡ length (sends_after f u m) = length-map (sends_after f u m) _ in
    let count : length (sends_after f u m) ≤ 1 + length f.neighbours = answer-count f u m in
    let hops : length f.neighbours ≤ 2 ^ 32 = counted.hops in
    omega arith
