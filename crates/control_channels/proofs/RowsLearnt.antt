-- A row that a flood brings: that the node may learn it, and what it knows then.
use Rattle.std.proofs.{Common.{◌≡◌, ◌≢◌, ◌≤◌, ◌+◌, ◌-◌, ℕ, Bool, true, false, cond, not, nat_eq, List, [], ◌∷◌, ◌++◌, length, take, refl, sym, ap, ◌∙◌, subst, arith}, lemmas.List.length-append}
use Rattle.std.specs.Prelude.{◌&&◌, ◌||◌, Some, None}
use Rattle.ason_base.specs.{declared.ids.NodeId.NodeId, declared.network.TeRow.TeRow, Walks.HaveFewEnds}
use Rattle.flood.specs.{declared.messages.FloodMsg.FloodMsg, declared.messages.FloodMsg.TheVariants.{Row, Ack}, Messages.SpellsFlood, State.{FloodState, has_room, is_end, is_known, is_new, learnt_of}}
use Rattle.flood.proofs.{FewEnds.room_is_for_few, ReadAgain.read_is_writable}
use Rattle.mesh_nodes.specs.{Learnt.MayLearn, Routes.IsElsewhere, Nodes.{NodeView, stepped, without_last}}
use Rattle.mesh_rules.specs.{Changes.{Answer, changed, learns, learnt_after, nothing}, KnownRows.{has_row, known_rows}, LocalNodes.LocalNode, State.NodeState}
use Rattle.mesh_nodes.specs.declared.inputs.Input.TheVariants as input
use Rattle.control_channels.specs.{Controllers.with_learnt, ReadyControllers.FloodFits}

-- Where it goes

-- How much it is

-- It can be written

-- What is new may be learnt

pub record NewFacts (f : FloodState) (row : TeRow) : Type 0 where
  pub unknown : is_known f.rows row.link ≡ false
  pub elsewhere : is_end f.me row ≡ false
  pub room : has_room f.rows row ≡ true

three : (a b c : Bool) → (not a && not b && c) ≡ true → (a ≡ false) × (b ≡ false) × (c ≡ true)
three false false c h = (refl, refl, h)
three false true c h = absurd (cc h)
three true false c h = absurd (cc h)
three true true c h = absurd (cc h)

pub new-facts : (f : FloodState) (row : TeRow) → is_new f row ≡ true → NewFacts f row
new-facts f row h =
    let facts = three (is_known f.rows row.link) (is_end f.me row) (has_room f.rows row) h in
    record { unknown = facts.0; elsewhere = facts.1; room = facts.2 }

not-low : (a b n : ℕ) → (nat_eq a n || nat_eq b n) ≡ false → a ≢ n
not-low a b n h e = absurd (grind arith)

not-high : (a b n : ℕ) → (nat_eq a n || nat_eq b n) ≡ false → b ≢ n
not-high a b n h e = absurd (grind arith)

not-end : (n : NodeId) (row : TeRow) → is_end n row ≡ false → IsElsewhere n row
not-end n row h = (
  λ e. not-low row.low.0 row.high.0 n.0 h (ap (λ (m : NodeId). m.0) e),
  λ e. not-high row.low.0 row.high.0 n.0 h (ap (λ (m : NodeId). m.0) e),
)

pub may-learn : (p : LocalNode) (s : NodeState) (f : FloodState) (bytes : List ℕ) (number : ℕ) (origin : NodeId)
    (row : TeRow) → FloodFits p s f → SpellsFlood bytes (Row number origin row) → is_new f row ≡ true →
    MayLearn p s row
may-learn p s f bytes number origin row fits spelled new =
    let written = read_is_writable bytes (Row number origin row) spelled in
    let facts = new-facts f row new in
    record {
      metric = (written.positive, written.small);
      ends = subst (λ rows. HaveFewEnds (rows ++ row ∷ [])) fits.rows (room_is_for_few f.rows row facts.room);
      elsewhere = λ unknown. not-end p.id row (ap (λ n. is_end n row) (sym fits.me) ∙ facts.elsewhere);
    }

-- What the node knows after it

pub learnt-rows : (p : LocalNode) (s : NodeState) (f : FloodState) (row : TeRow) → f.rows ≡ known_rows p s →
    is_new f row ≡ true → (with_learnt p s (Some row) ≡ changed s (learns row))
learnt-rows p s f row same new =
    let unknown : has_row (known_rows p s) row.link ≡ false =
    ap (λ rows. is_known rows row.link) (sym same) ∙ (new-facts f row new).unknown in
    ap (λ b. changed s (cond b nothing (learns row))) unknown

-- Neighbours that change

-- Frames at the end of a list

-- What is known before and after

-- a row that is learnt comes last, and without it the node is as it was
pub unlearnt : (n m : NodeView) (row : TeRow) → has_row (known_rows n.place n.state) row.link ≡ false →
    m ≡ stepped n (input.Learn row) → without_last m ≡ n
unlearnt n m row unknown step =
    ap without_last (step ∙ ap (λ b. record {
      place = n.place;
      state = changed n.state (cond b nothing (learns row));
    }) unknown)
    ∙ ap (λ rows. record { place = n.place; state = record n.state { learnt = rows } }) (without n.state.learnt row)
  where
    without : (rows : List TeRow) (r : TeRow) → take (length (rows ++ r ∷ []) - 1) (rows ++ r ∷ []) ≡ rows
    without rows r =
        let long : length (rows ++ r ∷ []) - 1 ≡ length rows =
        (let count : length (rows ++ r ∷ []) ≡ length rows + length (r ∷ []) = length-append rows (r ∷ []) in
        omega arith) in
        ap (λ k. take k (rows ++ r ∷ [])) long ∙ front rows
      where
        front : (xs : List TeRow) → take (length xs) (xs ++ r ∷ []) ≡ xs
        front [] = refl
        front (x ∷ xs) = ap (λ ys. x ∷ ys) (front xs)

-- and it learnt one at least
pub one-learnt : (n m : NodeView) (row : TeRow) → has_row (known_rows n.place n.state) row.link ≡ false →
    m ≡ stepped n (input.Learn row) → 1 ≤ length m.state.learnt
one-learnt n m row unknown step =
    let is : length m.state.learnt ≡ length (n.state.learnt ++ row ∷ []) =
    ap (λ (k : NodeView). length k.state.learnt) step
    ∙ ap (λ b. length (changed n.state (cond b nothing (learns row))).learnt) unknown in
    let count : length (n.state.learnt ++ row ∷ []) ≡ length n.state.learnt + length (row ∷ []) =
    length-append n.state.learnt (row ∷ []) in
    omega arith

-- a row that a message makes known has an unknown link
pub learnt-unknown : (p : LocalNode) (s : NodeState) (f : FloodState) (m : FloodMsg) (row : TeRow) →
    f.rows ≡ known_rows p s → learnt_of f m ≡ Some row → has_row (known_rows p s) row.link ≡ false
learnt-unknown p s f (Ack number) row same new = absurd (cc new)
learnt-unknown p s f (Row number origin r) row same new = go (is_new f r) refl new
  where
    go : (b : Bool) → is_new f r ≡ b → cond b (Some r) None ≡ Some row → has_row (known_rows p s) row.link ≡ false
    go true is e =
        let here : r ≡ row = cc e in
        ap (λ rows. is_known rows row.link) (sym same)
        ∙ ap (λ (x : TeRow). is_known f.rows x.link) (sym here) ∙ (new-facts f r is).unknown
    go false is e = absurd (cc e)

-- and the node may learn it
pub learnt-may : (p : LocalNode) (s : NodeState) (f : FloodState) (bytes : List ℕ) (m : FloodMsg) (row : TeRow) →
    FloodFits p s f → SpellsFlood bytes m → learnt_of f m ≡ Some row → MayLearn p s row
learnt-may p s f bytes (Ack number) row fits spelled new = absurd (cc new)
learnt-may p s f bytes (Row number origin r) row fits spelled new = go (is_new f r) refl new
  where
    go : (b : Bool) → is_new f r ≡ b → cond b (Some r) None ≡ Some row → MayLearn p s row
    go true is e =
        let here : r ≡ row = cc e in
        subst (MayLearn p s) here (may-learn p s f bytes number origin r fits spelled is)
    go false is e = absurd (cc e)

-- A step of which nothing is learnt

pub same-learnt : (s t : NodeState) (a : Answer) → a.rows ≡ [] → t ≡ changed s a → t.learnt ≡ s.learnt
same-learnt s t a none is =
    ap (λ (u : NodeState). u.learnt) is ∙ ap (λ rows. learnt_after rows s.learnt) none

-- The frames of an answer to a flood message
