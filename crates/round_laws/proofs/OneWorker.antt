-- With one worker the nodes take their turns in order of number: what each finds, and what of it is left.
use Rattle.std.proofs.Common.{◌≡◌, ◌≢◌, ◌≤◌, ◌<◌, ℕ, suc, Bool, true, false, cond, nat_eq, List, [], ◌∷◌, ◌++◌, fold, map, refl, sym, ap, ◌∙◌, subst, arith}
use Rattle.std.specs.Prelude.{◌&&◌, ◌||◌, Some, None, is_some}
use Rattle.ason_base.specs.{declared.commands.Disturb.Disturb, declared.ids.NodeId.NodeId, declared.network.NodeSpec.NodeSpec, Network.{Network, is_node_id}}
use Rattle.mesh_laws.proofs.soon.InOrder.{Ascend}
use Rattle.world_rules.specs.WorldRuns.{is_world_channel}
use Rattle.world_merge.specs.Histories.{at}
use Rattle.round_rules.specs.{Doings.Doing, Functions.{tick_if, turn_after}, Held.due_in, OneWorker.{RoundEnd, after_turns, all_popped, due_popped, node_end, node_round, turns_to}, Records.Record, Rings.got_from}
use Rattle.round_rules.proofs.Ending.{turns-end}
use Rattle.round_laws.proofs.Popping.{popped_numbers, turn-got}

module _ (t : Network) (lines : List Disturb) where
  -- once a node came to its limit the others do nothing
  stopped : (ns : List NodeId) (r : Record) (m : NodeId) →
      fold (node_round t lines) (record { made = r; stopped = Some m }) ns ≡ record { made = r; stopped = Some m }
  stopped [] r m = refl
  stopped (n ∷ ns) r m = stopped ns r m

  -- What a node did and dropped stays where greater ones make their turns.
  pub record Untouched (a b : Record) (m : ℕ) : Type 0 where
    pub doings : a.doings m ≡ b.doings m
    pub dropped : (d : ℕ) → a.dropped m d ≡ b.dropped m d

  no-drops : {X : Type 0} (b c : Bool) (x y : X) → b ≡ false → cond (b && c) x y ≡ y
  no-drops true c x y e = absurd (cc e)
  no-drops false c x y e = refl

  end-untouched : (r : Record) (n : NodeId) (ds : List Doing) (m : ℕ) → m < n.0 → Untouched (after_turns t r n ds) r m
  end-untouched r n ds m less =
      let other : nat_eq m n.0 ≡ false = grind (arith, less) in
      record {
        doings = ap (λ b. cond b ds (r.doings m)) other;
        dropped = λ d. no-drops (nat_eq m n.0) (is_world_channel t n (record { 0 = d })) _ _ other;
      }

  one-untouched : (e : RoundEnd) (n : NodeId) (m : ℕ) → m < n.0 → Untouched (node_round t lines e n).made e.made m
  one-untouched e n m less = go (is_some e.stopped)
    where
      go : (b : Bool) → Untouched (cond b e (node_end t e.made n (turns_to t lines e.made n))).made e.made m
      go true = record { doings = refl; dropped = λ d. refl }
      go false = end-untouched e.made n (turns_to t lines e.made n).doings m less

  untouched : (ns : List NodeSpec) (x : ℕ) → Ascend x ns → (m : ℕ) → m < x → (e : RoundEnd) →
      Untouched (fold (node_round t lines) e (map (λ n. n.id) ns)).made e.made m
  untouched [] x rise m less e = record { doings = refl; dropped = λ d. refl }
  untouched (n ∷ ns) x rise m less e =
      let low = rise.0 in
      let rest = untouched ns (suc n.id.0) rise.1 m (omega (arith, less, low)) (node_round t lines e n.id) in
      let one = one-untouched e n.id m (omega (arith, less, low)) in
      record { doings = rest.doings ∙ one.doings; dropped = λ d. rest.dropped d ∙ one.dropped d }

  -- The node's turn: from this record, in which the lesser ones made theirs and the others didn't yet.
  pub record TurnAt (old new : Record) (n : ℕ) : Type 0 where
    pub before : Record
    pub doings : new.doings n ≡ turn_after t lines (at n) true (before.doings n)
        (due_popped t before (at n) (due_in (tick_if true (before.doings n)))) (all_popped t before (at n))
    pub earlier : (m : ℕ) → m < n → Untouched new before m
    pub later : (m : ℕ) → n ≤ m → before.doings m ≡ old.doings m

  -- it took all that stood in its rings
  pub turn-took : (old new : Record) (n : ℕ) (a : TurnAt old new n) (u : NodeId) → got_from u (new.doings n) ≡
      got_from u (a.before.doings n) ++ popped_numbers u (all_popped t a.before (at n))
  turn-took old new n a u =
      ap (got_from u) a.doings
      ∙ turn-got u t lines (at n) true (a.before.doings n)
      (due_popped t a.before (at n) (due_in (tick_if true (a.before.doings n)))) (all_popped t a.before (at n))

  abbrev ended : Record → RoundEnd
  ended r = record { made = r; stopped = None }

  -- the turn of a later node, once this one made its own
  abbrev TurnLater : NodeSpec → List NodeSpec → Record → Record → Record → ℕ → Type 0
  TurnLater k ns old new r n =
      fold (node_round t lines) (ended (after_turns t r k.id (turns_to t lines r k.id).doings)) (map (λ n. n.id) ns) ≡
      ended new →
      ((m : ℕ) → suc k.id.0 ≤ m → (after_turns t r k.id (turns_to t lines r k.id).doings).doings m ≡ old.doings m) →
      is_node_id ns (at n) ≡ true → TurnAt old new n

  -- Each node has its turn.
  pub turns : (ns : List NodeSpec) (x : ℕ) → Ascend x ns → (old new r : Record) →
      fold (node_round t lines) (ended r) (map (λ n. n.id) ns) ≡ ended new →
      ((m : ℕ) → x ≤ m → r.doings m ≡ old.doings m) → (n : ℕ) → is_node_id ns (at n) ≡ true → TurnAt old new n
  turns [] x rise old new r leads yet n is = absurd (cc is)
  turns (k ∷ ns) x rise old new r leads yet n is =
      go (turns_to t lines r k.id).halted refl
      (λ more stay there. turns ns (suc k.id.0) rise.1 old new (after_turns t r k.id (turns_to t lines r k.id).doings) more
      stay n there)
    where
      ends : (b : Bool) → (turns_to t lines r k.id).halted ≡ b → node_round t lines (ended r) k.id ≡
          record { made = after_turns t r k.id (turns_to t lines r k.id).doings; stopped = cond b (Some k.id) None }
      ends b e =
          λ i. record {
            made = after_turns t r k.id (turns_to t lines r k.id).doings;
            stopped = cond (e i) (Some k.id) None;
          }

      low : x ≤ k.id.0
      low = rise.0

      go : (b : Bool) → (turns_to t lines r k.id).halted ≡ b → TurnLater k ns old new r n → TurnAt old new n
      go true e again =
          let all : record { made = after_turns t r k.id (turns_to t lines r k.id).doings; stopped = Some k.id } ≡
          ended new =
          sym (stopped (map (λ n. n.id) ns) (after_turns t r k.id (turns_to t lines r k.id).doings) k.id)
          ∙ sym (ap (λ (z : RoundEnd). fold (node_round t lines) z (map (λ n. n.id) ns)) (ends true e)) ∙ leads in
          absurd (let never : Some k.id ≡ None = ap (λ (z : RoundEnd). z.stopped) all in cc never)
      go false e again = by-number (nat_eq k.id.0 n) (λ h. grind (arith, h)) (λ h. grind (arith, h)) is
        where
          rest : fold (node_round t lines)
              (ended (after_turns t r k.id (turns_to t lines r k.id).doings)) (map (λ n. n.id) ns) ≡ ended new
          rest =
              sym (ap (λ (z : RoundEnd). fold (node_round t lines) z (map (λ n. n.id) ns)) (ends false e)) ∙ leads

          -- what it did is in its turn
          own : new.doings k.id.0 ≡ (turns_to t lines r k.id).doings
          own =
              let same : nat_eq k.id.0 k.id.0 ≡ true = grind arith in
              sym (ap (λ (z : RoundEnd). z.made.doings k.id.0) rest)
              ∙ (untouched ns (suc k.id.0) rise.1 k.id.0 (omega arith)
              (ended (after_turns t r k.id (turns_to t lines r k.id).doings))).doings
              ∙ ap (λ b. cond b (turns_to t lines r k.id).doings (r.doings k.id.0)) same

          here : TurnAt old new k.id.0
          here = record {
            before = r;
            doings = own ∙ turns-end t lines k.id true (r.doings k.id.0)
                (due_popped t r k.id (due_in (tick_if true (r.doings k.id.0)))) (all_popped t r k.id) e;
            earlier = λ m less.
                let u = untouched (k ∷ ns) k.id.0 (omega arith, rise.1) m less (ended r) in
                record {
                  doings = sym (ap (λ (z : RoundEnd). z.made.doings m) leads) ∙ u.doings;
                  dropped = λ d. sym (ap (λ (z : RoundEnd). z.made.dropped m d) leads) ∙ u.dropped d;
                };
            later = λ m most. yet m (omega (arith, low, most));
          }

          by-number : (b : Bool) → (b ≡ true → k.id.0 ≡ n) → (b ≡ false → k.id.0 ≢ n) →
              (b || is_node_id ns (at n)) ≡ true → TurnAt old new n
          by-number true same other is = subst (TurnAt old new) (same refl) here
          by-number false same other is =
              again rest
              (λ m most. let apart : nat_eq m k.id.0 ≡ false = grind (arith, most) in
              ap (λ b. cond b (turns_to t lines r k.id).doings (r.doings m)) apart
              ∙ yet m (omega (arith, low, most))) is
