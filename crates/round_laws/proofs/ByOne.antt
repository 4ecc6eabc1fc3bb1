-- With one worker a round is in order: nothing of what is sent to a later node is left, and of what a later one sends in it
-- nothing is taken.
use Rattle.std.proofs.Common.{◌≡◌, ◌≤◌, ◌<◌, filter, inl, inr, ℕ, zero, suc, Bool, true, false, cond, nat_eq, List, [], ◌∷◌, ◌++◌, length, refl, sym, ap, ◌∙◌, subst, arith}
use Rattle.std.specs.{Prelude.{◌||◌, None, not}, List.{AllByRecursion, range_with_len}}
use Rattle.ason_base.specs.{declared.commands.Disturb.Disturb, declared.ids.NodeId.NodeId, Network.{IsTopology, Network, is_node_id}}
use Rattle.mesh_laws.proofs.{Numbered.rises, soon.InOrder.ascend}
use Rattle.world_rules.specs.WorldRuns.{is_world_channel}
use Rattle.world_merge.specs.{Deeds.sent_by, Histories.at}
use Rattle.round_rules.specs.{Doings.{Did, Doing, Freed, Got, Left, Lost, deeds_in}, OneWorker.{all_popped, one_round}, Records.Record, Rings.{count_of, got_from, handed, is_number_in, standing, without_numbers}, Rounds.IsRound, PossibleRecords.IsRecord}
use Rattle.round_laws.specs.RoundsInOrder.{AreByOneSince, AreInOrderSince, IsFromBefore, IsRoundInOrder, OneWorkerGoesInOrder}
use Rattle.round_laws.proofs.{Numbers.{in_either, in_filter, in_right, of_filter}, Popping.{all-popped_stood, all-standing_popped, popped_numbers}, Standing.{receiver-is, standing_within}, OneWorker.{TurnAt, turn-took, turns}}
use Rattle.round_rules.proofs.Numbers.{in-first}

no-members : (ks : List ℕ) → ((k : ℕ) → is_number_in ks k ≡ true → ⊥) → ks ≡ []
no-members [] none = refl
no-members (k ∷ ks) none =
    absurd (none k (let same : nat_eq k k ≡ true = grind arith in ap (λ b. b || is_number_in ks k) same))

passes : (p : ℕ → Bool) (ks : List ℕ) (k : ℕ) → is_number_in (filter p ks) k ≡ true → p k ≡ true
passes p [] k is = absurd (cc is)
passes p (j ∷ ks) k is = go (p j) refl is (λ later. passes p ks k later)
  where
    go : (b : Bool) → p j ≡ b → is_number_in (cond b (j ∷ filter p ks) (filter p ks)) k ≡ true →
        (is_number_in (filter p ks) k ≡ true → p k ≡ true) → p k ≡ true
    go true e is later = by (nat_eq j k) (λ h. grind (arith, h)) is
      where
        by : (c : Bool) → (c ≡ true → j ≡ k) → (c || is_number_in (filter p ks) k) ≡ true → p k ≡ true
        by true same is = subst (λ i. p i ≡ true) (same refl) e
        by false same is = later is
    go false e is later = later is

handed-is : (t : Network) (a b : Record) (u d : NodeId) → a.doings u.0 ≡ b.doings u.0 →
    a.dropped u.0 d.0 ≡ b.dropped u.0 d.0 → handed t a u d ≡ handed t b u d
handed-is t a b u d doings dropped =
    λ i. without_numbers (dropped i) (range_with_len 1 (length (sent_by t u (deeds_in (doings i)) d.0)))

-- each frame that a node took from a later one, where it is so by number
all-from : (t : Network) (old : Record) (n : NodeId) (ds : List Doing) →
    ((u : NodeId) (k : ℕ) → is_number_in (got_from u ds) k ≡ true → is_world_channel t u n ≡ true → n.0 < u.0 →
    k ≤ count_of t old u n) → AllByRecursion (IsFromBefore t old n) ds
all-from t old n [] each = tt
all-from t old n (Got v k says ∷ ds) each = (each v k here, all-from t old n ds (λ u j is. each u j (there u j is)))
  where
    here : is_number_in (got_from v (Got v k says ∷ ds)) k ≡ true
    here =
        let a : nat_eq v.0 v.0 ≡ true = grind arith in
        let b : nat_eq k k ≡ true = grind arith in
        ap (λ c. is_number_in (cond c (k ∷ got_from v ds) (got_from v ds)) k) a
        ∙ ap (λ c. c || is_number_in (got_from v ds) k) b

    there : (u : NodeId) (j : ℕ) → is_number_in (got_from u ds) j ≡ true →
        is_number_in (got_from u (Got v k says ∷ ds)) j ≡ true
    there u j is = go (nat_eq v.0 u.0)
      where
        right : (a b : Bool) → b ≡ true → (a || b) ≡ true
        right true b e = refl
        right false b e = e

        go : (c : Bool) → is_number_in (cond c (k ∷ got_from u ds) (got_from u ds)) j ≡ true
        go true = right (nat_eq k j) (is_number_in (got_from u ds) j) is
        go false = is
all-from t old n (Did d ∷ ds) each = (tt, all-from t old n ds each)
all-from t old n (Freed ∷ ds) each = (tt, all-from t old n ds each)
all-from t old n (Lost u k ∷ ds) each = (tt, all-from t old n ds each)
all-from t old n (Left i ∷ ds) each = (tt, all-from t old n ds each)

-- In order

module _ (t : Network) (valid : IsTopology t) (lines : List Disturb) (old new : Record) (round : IsRound t lines old new)
    (is_old : IsRecord t old)
    (one : one_round t lines old ≡ record { made = new; stopped = None }) where
  turn : (n : ℕ) → is_node_id t.nodes (at n) ≡ true → TurnAt t lines old new n
  turn n known =
      turns t lines t.nodes 0 (ascend 0 0 t.nodes (omega arith) (rises t valid)) old new old one (λ m most. refl) n known

  none-left : (u d : NodeId) → is_world_channel t u d ≡ true → u.0 < d.0 → (k : ℕ) →
      is_number_in (standing t new u d) k ≡ true → ⊥
  none-left u d on less k is = go (is_number_in (got_from u (b.doings d.0)) k) refl
    where
      at_turn : TurnAt t lines old new d.0
      at_turn = turn d.0 (receiver-is t u d on)

      b : Record
      b = at_turn.before

      found : is_number_in (got_from u (new.doings d.0)) k ≡ true → ⊥
      found has =
          let not_got : not (is_number_in (got_from u (new.doings d.0)) k) ≡ true =
          passes (λ n. not (is_number_in (got_from u (new.doings d.0)) n)) (handed t new u d) k is in
          cc (sym (ap not has) ∙ not_got)

      took : got_from u (new.doings d.0) ≡
          got_from u (at_turn.before.doings d.0) ++ popped_numbers u (all_popped t at_turn.before d)
      took = turn-took t lines old new d.0 at_turn u

      was-handed : is_number_in (handed t at_turn.before u d) k ≡ true
      was-handed =
          let same = at_turn.earlier u.0 less in
          sym (ap (λ ks. is_number_in ks k) (handed-is t new at_turn.before u d same.doings (same.dropped d.0)))
          ∙ of_filter (λ n. not (is_number_in (got_from u (new.doings d.0)) n)) (handed t new u d) k is

      go : (c : Bool) → is_number_in (got_from u (at_turn.before.doings d.0)) k ≡ c → ⊥
      go true e =
          found (ap (λ ks. is_number_in ks k) took
          ∙ in-first (got_from u (at_turn.before.doings d.0)) (popped_numbers u (all_popped t at_turn.before d)) k e)
      go false e =
          let stood : is_number_in (standing t at_turn.before u d) k ≡ true =
          in_filter (λ n. not (is_number_in (got_from u (at_turn.before.doings d.0)) n)) (handed t at_turn.before u d) k was-handed
          (ap not e) in
          found (ap (λ ks. is_number_in ks k) took
          ∙ in_right (got_from u (at_turn.before.doings d.0)) (popped_numbers u (all_popped t at_turn.before d)) k
          (all-standing_popped t at_turn.before d u on k stood))

  from-before : (n u : NodeId) (k : ℕ) → is_number_in (got_from u (new.doings n.0)) k ≡ true →
      is_world_channel t u n ≡ true →
      n.0 < u.0 → k ≤ count_of t old u n
  from-before n u k is on less =
      let at_turn = turn n.0 (receiver-is t u n on) in
      let b : Record = at_turn.before in
      let took : got_from u (new.doings n.0) ≡ got_from u (b.doings n.0) ++ popped_numbers u (all_popped t b n) =
      turn-took t lines old new n.0 at_turn u in
      elim (in_either (got_from u (b.doings n.0)) (popped_numbers u (all_popped t b n)) k
      (sym (ap (λ ks. is_number_in ks k) took) ∙ is)) [
        | inl had ↦
            (is_old.only u n on).got k (sym (ap (λ ds. is_number_in (got_from u ds) k) (at_turn.later n.0 (omega arith))) ∙ had)
        | inr popped ↦
            (let most = standing_within t b u n k (all-popped_stood t b n u k popped) in
            let same : count_of t b u n ≡ count_of t old u n =
            ap (λ ds. length (sent_by t u (deeds_in ds) n.0)) (at_turn.later u.0 (omega (arith, less))) in
            omega (arith, most, same))
      ]

  -- A round with one worker is in order.
  pub one-worker_in_order : IsRoundInOrder t old new
  one-worker_in_order = record {
    earlier = λ u d on less. no-members (standing t new u d) (none-left u d on less);
    later = λ n. all-from t old n (new.doings n.0) (from-before n);
  }

-- Such rounds are in order.
pub one-worker_goes : OneWorkerGoesInOrder
one-worker_goes t lines old new valid is_old is =
    one-worker_in_order t valid lines old new is.round is_old (is.one refl)

pub by-one_since : (t : Network) → IsTopology t → (since : Record) (k : ℕ) (old new : Record) → IsRecord t old →
    AreByOneSince t since k old new → AreInOrderSince t since k old new
by-one_since t valid since zero old new is_old rounds = rounds
by-one_since t valid since (suc k) old new is_old rounds = (
  rounds.0,
  rounds.1,
  rounds.2,
  one-worker_goes t rounds.0 old rounds.1 valid is_old rounds.3,
  rounds.4,
  by-one_since t valid since k rounds.1 new rounds.4 rounds.5,
)
