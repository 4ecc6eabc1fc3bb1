-- What a change at one place of a route leaves of the whole route.
use Rattle.std.proofs.{Common.{◌≡◌, ◌≢◌, ◌<◌, ◌≤◌, ℕ, suc, true, List, [], ◌++◌, sym, ◌∙◌, arith, inl, inr, append-nil}, lemmas.Bool.cases_lt}
use Rattle.std.specs.Prelude.{◌⊎◌, Option, None}
use Rattle.ason_base.specs.{Network.Network, declared.ids.Lsp.Lsp, declared.ids.NodeId.NodeId, declared.messages.Msg.Msg, declared.tables.Leg.Leg}
use Rattle.ason_base.proofs.JoinedEnds.{same-node}
use Rattle.lsp_laws.proofs.{hops.Plans.{Plan, hops, node_at, IsPlanRoute, distinct}, hops.Purposes.{Purpose, has_path}, hops.Chain.{PlaceFits, ChainHop, HopAt, IsPlace, OnRoute, IsFirstPathAt, IsVacant, Chain, at_or_else, is_or_not}}

-- a step at the node d: its leg is c, and these messages go out; nothing else changes but what goes to d
pub record Changed (d : NodeId) (c : Option Leg) (sent : NodeId → List Msg) (leg leg' : NodeId → Option Leg)
    (mail mail' : NodeId → NodeId → List Msg) : Type 0 where
  pub here : leg' d ≡ c
  pub there : (n : NodeId) → n.0 ≢ d.0 → leg' n ≡ leg n
  pub sends : (b : NodeId) → mail' d b ≡ mail d b ++ sent b
  pub keeps : (a b : NodeId) → a.0 ≢ d.0 → b.0 ≢ d.0 → mail' a b ≡ mail a b

-- the node before the place or after it
abbrev pub IsNext : Plan → ℕ → NodeId → Type 0
IsNext p j b = ((j < hops p) × (b.0 ≡ (node_at p (suc j)).0)) ⊎ ((k : ℕ) × (suc k ≡ j) × (b.0 ≡ (node_at p k).0))

-- what is sent at a place goes back to the place before and on to the place after
pub record SendsAlong (p : Plan) (j : ℕ) (sent : NodeId → List Msg) (back on : List Msg) : Type 0 where
  pub to_prev : (k : ℕ) → suc k ≡ j → sent (node_at p k) ≡ back
  pub to_next : j < hops p → sent (node_at p (suc j)) ≡ on
  pub goes : (b : NodeId) → (sent b ≡ []) ⊎ IsNext p j b

pub place_changed : (t : Network) (q : Purpose) (l : Lsp) (from : NodeId) (p : Plan) (leg leg' : NodeId → Option Leg)
    (mail mail' : NodeId → NodeId → List Msg) (j : ℕ) (c : Option Leg) (sent : NodeId → List Msg) (back on : List Msg) →
    IsPlanRoute t from p → Chain t q l p leg mail → j ≤ hops p →
    Changed (node_at p j) c sent leg leg' mail mail' → SendsAlong p j sent back on → PlaceFits t q l p j c →
    ((a : NodeId) → a.0 ≢ (node_at p j).0 → (mail' a (node_at p j) ≡ []) ⊎ OnRoute p a (node_at p j)) →
    -- the hop before and the hop after
    ((k : ℕ) → suc k ≡ j →
    ChainHop q p k (leg (node_at p k)) c (mail' (node_at p k) (node_at p j))
    (mail (node_at p j) (node_at p k) ++ back)) →
    (j < hops p →
    ChainHop q p j c (leg (node_at p (suc j))) (mail (node_at p j) (node_at p (suc j)) ++ on)
    (mail' (node_at p (suc j)) (node_at p j))) →
    -- the first Path
    ((k : ℕ) → k < j → IsFirstPathAt p leg' mail' k → ⊥) →
    (j < hops p → leg (node_at p (suc j)) ≡ None → has_path (mail (node_at p j) (node_at p (suc j)) ++ on) ≡ true →
    (m : ℕ) → j < m → m ≤ hops p → IsVacant p leg mail m) →
    Chain t q l p leg' mail'
place_changed t q l from p leg leg' mail mail' j c sent back on route chain within ch sends fits
    arrives before after quiet vacant = record {
      fits = λ k small. at_or_else (λ k. PlaceFits t q l p k (leg' (node_at p k))) k j
          (λ e. rw ch.here fits) (λ ne. rw (leg_is k small ne) (chain.fits k small));
      legs = λ n. stands n (is_or_not n.0 (node_at p j).0);
      ways = λ a b. goes a b (is_or_not a.0 (node_at p j).0) (is_or_not b.0 (node_at p j).0);
      each = λ k small. hop k small (is_or_not k j) (is_or_not (suc k) j);
      fresh = λ k small first. later k small first (is_or_not k j) (cases_lt k j);
    }
  where
    leg_is : (k : ℕ) → k ≤ hops p → k ≢ j → leg' (node_at p k) ≡ leg (node_at p k)
    leg_is k small ne = ch.there (node_at p k) (distinct t from p route k j small within ne)

    stands : (n : NodeId) → (n.0 ≡ (node_at p j).0) ⊎ (n.0 ≢ (node_at p j).0) → (leg' n ≡ None) ⊎ IsPlace p n
    stands n (inl e) = inr (j, within, e)
    stands n (inr ne) = rw (ch.there n ne) (chain.legs n)

    sent_there : (a b : NodeId) → a.0 ≡ (node_at p j).0 → (sent b ≡ []) ⊎ IsNext p j b →
        (mail' a b ≡ []) ⊎ OnRoute p a b
    sent_there a b e (inl none) =
        let is = same-node a (node_at p j) e in rw (is, ch.sends b, none, append-nil) (chain.ways (node_at p j) b)
    sent_there a b e (inr (inl next)) = inr (j, next.0, inl (e, next.1))
    sent_there a b e (inr (inr (k, f, prev))) = inr (k, (omega arith), inr ((rw f e), prev))

    goes : (a b : NodeId) → (a.0 ≡ (node_at p j).0) ⊎ (a.0 ≢ (node_at p j).0) →
        (b.0 ≡ (node_at p j).0) ⊎ (b.0 ≢ (node_at p j).0) → (mail' a b ≡ []) ⊎ OnRoute p a b
    goes a b (inl e) to = sent_there a b e (sends.goes b)
    goes a b (inr ne) (inl f) = let is = same-node b (node_at p j) f in rw is (arrives a ne)
    goes a b (inr ne) (inr nf) = rw (ch.keeps a b ne nf) (chain.ways a b)

    down_is : (k : ℕ) → k < hops p → k ≢ j → suc k ≢ j →
        mail' (node_at p k) (node_at p (suc k)) ≡ mail (node_at p k) (node_at p (suc k))
    down_is k small ne ns =
        ch.keeps (node_at p k) (node_at p (suc k)) (distinct t from p route k j (omega arith) within ne)
        (distinct t from p route (suc k) j small within ns)

    up_is : (k : ℕ) → k < hops p → k ≢ j → suc k ≢ j →
        mail' (node_at p (suc k)) (node_at p k) ≡ mail (node_at p (suc k)) (node_at p k)
    up_is k small ne ns =
        ch.keeps (node_at p (suc k)) (node_at p k) (distinct t from p route (suc k) j small within ns)
        (distinct t from p route k j (omega arith) within ne)

    hop : (k : ℕ) → k < hops p → (k ≡ j) ⊎ (k ≢ j) → (suc k ≡ j) ⊎ (suc k ≢ j) → HopAt q p leg' mail' k
    hop k small (inl e) _ =
        let small' : j < hops p = omega arith in
        rw (e, ch.here, leg_is (suc j) small' (omega arith), ch.sends (node_at p (suc j)), sends.to_next small')
        (after small')
    hop k small (inr ne) (inl f) =
        rw (leg_is k (omega arith) ne, f, ch.here, ch.sends (node_at p k), sends.to_prev k f) (before k f)
    hop k small (inr ne) (inr nf) =
        rw (leg_is k (omega arith) ne, leg_is (suc k) small nf, down_is k small ne nf, up_is k small ne nf)
        (chain.each k small)

    still : (m : ℕ) → j < m → m ≤ hops p → IsVacant p leg mail m → IsVacant p leg' mail' m
    still m beyond small v = record {
      no_leg = rw (leg_is m small (omega arith)) v.no_leg;
      no_down = λ more. rw (down_is m more (omega arith) (omega arith)) (v.no_down more);
      no_up = λ more. rw (up_is m more (omega arith) (omega arith)) (v.no_up more);
    }

    here : (k : ℕ) → k ≡ j → k < hops p → IsFirstPathAt p leg' mail' k → (m : ℕ) → k < m → m ≤ hops p →
        IsVacant p leg' mail' m
    here k e small first m beyond small' =
        let below : j < hops p = omega arith in
        let gone' : leg' (node_at p (suc j)) ≡ None = rw e at first.gone in
        let gone : leg (node_at p (suc j)) ≡ None = sym (leg_is (suc j) below (omega arith)) ∙ gone' in
        let path : has_path (mail (node_at p j) (node_at p (suc j)) ++ on) ≡ true =
        rw (e, ch.sends (node_at p (suc j)), sends.to_next below) at first.path in
        still m (omega arith) small' (vacant below gone path m (omega arith) small')

    later : (k : ℕ) → k < hops p → IsFirstPathAt p leg' mail' k → (k ≡ j) ⊎ (k ≢ j) → (k < j) ⊎ (j ≤ k) →
        (m : ℕ) → k < m → m ≤ hops p → IsVacant p leg' mail' m
    later k small first _ (inl less) m beyond small' = absurd (quiet k less first)
    later k small first (inl e) (inr more) m beyond small' = here k e small first m beyond small'
    later k small first (inr ne) (inr more) m beyond small' =
        let was : IsFirstPathAt p leg mail k = record {
          gone = sym (leg_is (suc k) small (omega arith)) ∙ first.gone;
          path = rw (down_is k small ne (omega arith)) at first.path;
        } in
        still m (omega arith) small' (chain.fresh k small was m beyond small')
