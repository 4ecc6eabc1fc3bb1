-- After a turn the desk is empty.
use Rattle.std.proofs.Common.{◌≡◌, ◌+◌, ℕ, suc, cond, List, [], ◌∷◌, ◌++◌, drop, length, map, refl, sym, ap, ◌∙◌, subst, arith}
use Rattle.std.specs.Prelude.{Some}
use Rattle.ason_base.specs.{declared.ids.NodeId.NodeId, declared.commands.DeskItem.DeskItem, Network.Network}
use Rattle.ason_base.proofs.Numbers.{self-number}
use Rattle.flood.specs.declared.frames.Content.{Content}
use Rattle.world_rules.specs.Worlds.{World, world_start, with_event}
use Rattle.world_merge.specs.Deeds.{Handled, Took, alone, alone_from, done}
use Rattle.world_rules.proofs.Delivered.{kept-delivered}
use Rattle.world_merge.proofs.Splitting.{alone-more}
use Rattle.round_rules.specs.{Doings.{Did, Doing, Freed, Got, Left, Lost, deeds_in}, Takings.{Taking, all_doings}, Turns.{AreHandled, items_after}}

pub deeds-more : (xs ys : List Doing) → deeds_in (xs ++ ys) ≡ deeds_in xs ++ deeds_in ys
deeds-more [] ys = refl
deeds-more (Did d ∷ xs) ys = ap (λ ds. d ∷ ds) (deeds-more xs ys)
deeds-more (Got u k says ∷ xs) ys = deeds-more xs ys
deeds-more (Freed ∷ xs) ys = deeds-more xs ys
deeds-more (Lost u k ∷ xs) ys = deeds-more xs ys
deeds-more (Left i ∷ xs) ys = deeds-more xs ys

less_one : (items : List DeskItem) (k : ℕ) → length items ≡ suc k → length (drop 1 items) ≡ k
less_one [] k e = absurd (omega (arith, e))
less_one (i ∷ items) k e = omega (arith, e)

handled_all : (t : Network) (n : NodeId) (ds : List Doing) (w : World) (k : ℕ) → AreHandled ds →
    length (w.desks n.0) ≡ length ds + k → length ((alone_from t n w (deeds_in ds)).desks n.0) ≡ k
handled_all t n [] w k all e = omega (arith, e)
handled_all t n (d ∷ ds) w k all e =
    subst (λ x. length ((alone_from t n w (deeds_in (x ∷ ds))).desks n.0) ≡ k) (sym all.0.1)
    (handled_all t n ds (done t n w (Handled all.0.0)) k all.1
    (ap length (ap (λ b. cond b (drop 1 (w.desks n.0)) (w.desks n.0)) (self-number n.0))
    ∙ less_one (w.desks n.0) (length ds + k) (omega (arith, e))))

delivered_all : (t : Network) (n u : NodeId) (k : ℕ) (x : Content) (stamps : List ℕ) (rest : List Doing) (w : World) →
    ((v : World) → v.desks n.0 ≡ w.desks n.0 → (alone_from t n v (deeds_in rest)).desks n.0 ≡ w.desks n.0) →
    (v : World) → v.desks n.0 ≡ w.desks n.0 →
    (alone_from t n v (deeds_in (map (λ s. Did (Took s u k x)) stamps ++ rest))).desks n.0 ≡ w.desks n.0
delivered_all t n u k x [] rest w go v e = go v e
delivered_all t n u k x (s ∷ stamps) rest w go v e =
    delivered_all t n u k x stamps rest w go (done t n v (Took s u k x))
    ((kept-delivered t (with_event v n.0) n u (Some x) n.0).desk ∙ e)

taken_all : (t : Network) (n : NodeId) (gs : List Taking) (w v : World) → v.desks n.0 ≡ w.desks n.0 →
    (alone_from t n v (deeds_in (all_doings gs))).desks n.0 ≡ w.desks n.0
taken_all t n [] w v e = e
taken_all t n (g ∷ gs) w v e =
    delivered_all t n g.from g.number g.content g.stamps (all_doings gs) w (λ z f. taken_all t n gs w z f) v e

-- so many items were on the desk and were handled, and then frames were taken
pub empty-after : (t : Network) (n : NodeId) (before items : List Doing) (gs : List Taking) → AreHandled items →
    length items ≡ items_after t n before → items_after t n (before ++ (items ++ all_doings gs)) ≡ 0
empty-after t n before items gs all count =
    ap (λ ds. length ((alone t n ds).desks n.0)) deeds
    ∙ ap (λ (w : World). length (w.desks n.0)) (alone-more t n (world_start t) (deeds_in before)
    (deeds_in items ++ deeds_in (all_doings gs)))
    ∙ ap (λ (w : World). length (w.desks n.0)) (alone-more t n (alone t n (deeds_in before)) (deeds_in items)
    (deeds_in (all_doings gs)))
    ∙ ap length (taken_all t n gs items_done items_done refl)
    ∙ handled_all t n items (alone t n (deeds_in before)) 0 all (sym count ∙ omega arith)
  where
    items_done : World
    items_done = alone_from t n (alone t n (deeds_in before)) (deeds_in items)

    deeds : deeds_in (before ++ (items ++ all_doings gs)) ≡
        deeds_in before ++ (deeds_in items ++ deeds_in (all_doings gs))
    deeds = deeds-more before (items ++ all_doings gs)
        ∙ ap (λ ds. deeds_in before ++ ds) (deeds-more items (all_doings gs))
