-- A tick where nothing waits changes nothing and sends nothing.
use Rattle.std.proofs.{Common.{◌≡◌, ℕ, true, List, [], ◌∷◌, ◌++◌, length, map, refl, sym, ap, ◌∙◌, subst, arith}, lemmas.List.append-nil, lemmas.Bool.and_parts}
use Rattle.std.specs.{Prelude.◌==◌, List.{flat_map, list_all}}
use Rattle.flood.specs.{declared.due.Due.Due, State.{FloodState, NeighbourState, older_due as older_row, older_neighbour, sent_at_tick, rows_sent_to, ticked_flood as flood_ticked}}
use Rattle.hop_reliable.specs.{declared.unacked.Unacked.Unacked, Hop.older}
use Rattle.mesh_rules.specs.Changes.{Answer, changed, nothing}
use Rattle.mesh_nodes.specs.declared.inputs.Input.TheVariants as input
use Rattle.mesh_nodes.specs.Nodes.{NodeView, answer_to}
use Rattle.control_channels.specs.{declared.adjacencies.Adjacency.Adjacency, declared.frames.Frame.Frame, Adjacencies.{again_to, aged, hop_at, packets_on, rested, with_hop}, Controllers.{IsMade, after_tick, floods_to}, Frames.{AllSpelled, Sending, frames_to}}
use Rattle.control_channels.proofs.{Preparing.none-prepared, Resting.resting-committed}
use Rattle.controller.specs.Waiting.{has_acked, has_all}
use Rattle.controller.proofs.Taking.{ticked-made}

is_zero : (n : ℕ) → (n == 0) ≡ true → n ≡ 0
is_zero n e = grind (arith, e)

none_there : {X : Type 0} (xs : List X) → (length xs == 0) ≡ true → xs ≡ []
none_there [] e = refl
none_there (x ∷ xs) e = let none = is_zero (length (x ∷ xs)) e in absurd (omega (arith, none))

-- Messages

acked_aged : (a : Adjacency) → a.hop.state.unacked ≡ [] → aged a ≡ a
acked_aged a none = ap with_unacked (ap (map older) none ∙ sym none)
  where
    with_unacked : List Unacked → Adjacency
    with_unacked ws = with_hop (record {
      state = record { sent = a.hop.state.sent; handed_up = a.hop.state.handed_up; unacked = ws };
      prepared = a.hop.prepared;
    }) a

-- no hop is older after a tick
acked-aged : (xs : List Adjacency) → list_all has_acked xs ≡ true → xs ≡ map aged xs
acked-aged [] all = refl
acked-aged (a ∷ xs) all =
    let here = and_parts (has_acked a) (list_all has_acked xs) all in
    λ i. (sym (acked_aged a (none_there a.hop.state.unacked here.0)) i) ∷ (acked-aged xs here.1 i)

-- and nothing goes again
acked-again : (xs : List Adjacency) → list_all has_acked xs ≡ true → flat_map again_to xs ≡ []
acked-again [] all = refl
acked-again (a ∷ xs) all =
    let here = and_parts (has_acked a) (list_all has_acked xs) all in
    ap (λ ss. again_to a ++ ss) (acked-again xs here.1)
    ∙ append-nil (again_to a) ∙ none_again (none_there a.hop.state.unacked here.0)
  where
    none_again : a.hop.state.unacked ≡ [] → again_to a ≡ []
    none_again none = rw none refl

-- Rows

told_older : (n : NeighbourState) → n.due ≡ [] → older_neighbour n ≡ n
told_older n none = ap with_due (ap (map older_row) none ∙ sym none)
  where
    with_due : List Due → NeighbourState
    with_due ds = record { id = n.id; sent = n.sent; due = ds }

told_all : (ns : List NeighbourState) → list_all has_all ns ≡ true → map older_neighbour ns ≡ ns
told_all [] all = refl
told_all (n ∷ ns) all =
    let here = and_parts (has_all n) (list_all has_all ns) all in
    λ i. (told_older n (none_there n.due here.0) i) ∷ (told_all ns here.1 i)

-- no row is older after a tick
pub told-ticked : (f : FloodState) → list_all has_all f.neighbours ≡ true → f ≡ flood_ticked f
told-ticked f all = λ i. record { me = f.me; rows = f.rows; neighbours = sym (told_all f.neighbours all) i }

told_sent : (n : NeighbourState) → n.due ≡ [] → rows_sent_to n ≡ []
told_sent n none = rw none refl

-- and none goes out
told_again : (ns : List NeighbourState) → list_all has_all ns ≡ true → flat_map rows_sent_to ns ≡ []
told_again [] all = refl
told_again (n ∷ ns) all =
    let here = and_parts (has_all n) (list_all has_all ns) all in
    ap (λ ss. rows_sent_to n ++ ss) (told_again ns here.1)
    ∙ append-nil (rows_sent_to n) ∙ told_sent n (none_there n.due here.0)

-- The tick

-- it is made where nothing is changed and no frame goes out
pub rested-made : (n : NodeView) (xs : List Adjacency) (f : FloodState) (frames : List Frame) →
    answer_to n input.Tick ≡ nothing → list_all has_acked xs ≡ true → list_all has_all f.neighbours ≡ true →
    map rested xs ≡ xs → frames ≡ [] → IsMade n n xs xs (after_tick n.place n.state xs f) frames
rested-made n xs f frames idle acked told rest none =
    ticked-made n n n.place.id xs xs xs xs f frames frames frames frames
    (sym (ap (λ (a : Answer). record { place = n.place; state = changed n.state a }) idle))
    (none-prepared (answer_to n input.Tick).sent xs (ap (λ (a : Answer). a.sent) idle) rest) refl
    (acked-aged xs acked) (resting-committed xs rest) none refl (nothing_more again) (nothing_more rows)
    (sym (ap (λ (a : Answer). frames ++ frames_to n.place.id (packets_on (hop_at xs) a.sent)) idle
    ∙ append-nil frames))
    (spelled again) (spelled rows)
    (subst (λ (a : Answer). AllSpelled n.place.id (packets_on (hop_at xs) a.sent)) (sym idle) tt)
  where
    again : flat_map again_to xs ≡ []
    again = acked-again xs acked

    rows : floods_to (sent_at_tick f) ≡ []
    rows = ap floods_to (told_again f.neighbours told)

    nothing_more : {ss : List Sending} → ss ≡ [] → frames ≡ frames ++ frames_to n.place.id ss
    nothing_more e = sym (ap (λ ss. frames ++ frames_to n.place.id ss) e ∙ append-nil frames)

    spelled : {ss : List Sending} → ss ≡ [] → AllSpelled n.place.id ss
    spelled e = subst (AllSpelled n.place.id) (sym e) tt
