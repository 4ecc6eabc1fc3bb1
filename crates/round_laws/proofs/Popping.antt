-- What a turn takes from a ring: just the frames that it pops, which are all that stand there.
use Rattle.std.proofs.Common.{◌≡◌, ◌≤◌, ◌<◌, ℕ, zero, suc, Bool, true, false, cond, nat_eq, List, [], ◌∷◌, ◌++◌, filter, length, map, refl, sym, ap, ◌∙◌, subst, append-nil, append_assoc, arith, inl, inr, eqb-true}
use Rattle.std.specs.{Prelude.{◌+◌, ◌||◌, max, Option, Some, None}, List.flat_map}
use Rattle.ason_base.specs.{declared.commands.Disturb.Disturb, declared.commands.DisturbKind.DisturbKind, declared.commands.DisturbKind.TheVariants.{Lose, Repeat, Hold}, declared.ids.NodeId.NodeId, declared.network.NodeSpec.NodeSpec, Network.{Network, is_node_id}}
use Rattle.flood.specs.declared.frames.Content.{Content}
use Rattle.world_rules.specs.{WorldRuns.is_world_channel, Worlds.numbered_at}
use Rattle.world_merge.specs.{Deeds.{Deed, Took, sent_by}, Stamps.sent_stamp}
use Rattle.round_rules.specs.{Doings.{Did, Doing, Freed, Got}, Functions.{Popped, all_freed, all_handled, all_taken, clock_of, with_delivered, with_freed, got, with_handled, with_taken, taken_as, tick_if, turn_after}, OneWorker.{all_popped, popped_as, popped_from, popped_of}, Records.{Record, deeds_at}, Rings.{got_from, is_number_in, standing}, Turns.items_after}
use Rattle.round_rules.proofs.Numbers.{got-append, in-first}
use Rattle.round_laws.proofs.{Climbing.in_above, Numbers.{in_either, in_right}, Standing.{sender-is, standing_rises, standing_within}}

-- of these frames, the numbers of those from u
abbrev pub popped_numbers : NodeId → List Popped → List ℕ
popped_numbers u [] = []
popped_numbers u (p ∷ ps) = cond (nat_eq p.from.0 u.0) (p.number ∷ popped_numbers u ps) (popped_numbers u ps)

numbers-append : (u : NodeId) (ps qs : List Popped) →
    popped_numbers u (ps ++ qs) ≡ popped_numbers u ps ++ popped_numbers u qs
numbers-append u [] qs = refl
numbers-append u (p ∷ ps) qs = go (nat_eq p.from.0 u.0) (numbers-append u ps qs)
  where
    go : (b : Bool) → popped_numbers u (ps ++ qs) ≡ popped_numbers u ps ++ popped_numbers u qs →
        cond b (p.number ∷ popped_numbers u (ps ++ qs)) (popped_numbers u (ps ++ qs)) ≡
        cond b (p.number ∷ popped_numbers u ps) (popped_numbers u ps) ++ popped_numbers u qs
    go true rest = ap (λ ks. p.number ∷ ks) rest
    go false rest = rest

-- A turn

module _ (u : NodeId) where
  did-got : (ds : List Doing) (d : Deed) → got_from u (ds ++ Did d ∷ []) ≡ got_from u ds
  did-got ds d = got-append u ds (Did d ∷ []) ∙ append-nil (got_from u ds)

  tick-got : (tick : Bool) (ds : List Doing) → got_from u (tick_if tick ds) ≡ got_from u ds
  tick-got true ds = did-got ds _
  tick-got false ds = refl

  freed-got : (ds : List Doing) (ps : List Popped) → got_from u (all_freed ds ps) ≡ got_from u ds
  freed-got ds [] = refl
  freed-got ds (p ∷ ps) =
      freed-got (with_freed ds p) ps ∙ did-got (ds ++ Freed ∷ []) _ ∙ got-append u ds (Freed ∷ [])
      ∙ append-nil (got_from u ds)

  handled-got : (k : ℕ) (ds : List Doing) → got_from u (all_handled k ds) ≡ got_from u ds
  handled-got zero ds = refl
  handled-got (suc k) ds = handled-got k (with_handled ds) ∙ did-got ds _

  delivered-got : (ds : List Doing) (p : Popped) → got_from u (with_delivered ds p) ≡ got_from u ds
  delivered-got ds p = did-got ds (Took (max (clock_of ds) p.stamp + 1) p.from p.number p.content)

  one-got : (o : Option DisturbKind) (ds : List Doing) (p : Popped) →
      got_from u (taken_as o ds p) ≡ got_from u ds ++ cond (nat_eq p.from.0 u.0) (p.number ∷ []) []
  one-got None ds p = delivered-got (got ds p None) p ∙ got-append u ds (Got p.from p.number None ∷ [])
  one-got (Some Repeat) ds p =
      delivered-got (with_delivered (got ds p (Some Repeat)) p) p ∙ delivered-got (got ds p (Some Repeat)) p
      ∙ got-append u ds (Got p.from p.number (Some Repeat) ∷ [])
  one-got (Some Lose) ds p = got-append u ds (Got p.from p.number (Some Lose) ∷ [])
  one-got (Some Hold) ds p = got-append u ds (Got p.from p.number (Some Hold) ∷ [])

  one-more : (b : Bool) (k : ℕ) (ks : List ℕ) → cond b (k ∷ []) [] ++ ks ≡ cond b (k ∷ ks) ks
  one-more true k ks = refl
  one-more false k ks = refl

  taken-got : (lines : List Disturb) (n : NodeId) (ds : List Doing) (ps : List Popped) →
      got_from u (all_taken lines n ds ps) ≡ got_from u ds ++ popped_numbers u ps
  taken-got lines n ds [] = sym (append-nil (got_from u ds))
  taken-got lines n ds (p ∷ ps) =
      taken-got lines n (with_taken lines n ds p) ps ∙ ap (λ ks. ks ++ popped_numbers u ps) (one-got _ ds p)
      ∙ append_assoc (got_from u ds) (cond (nat_eq p.from.0 u.0) (p.number ∷ []) []) (popped_numbers u ps)
      ∙ ap (λ ks. got_from u ds ++ ks) (one-more (nat_eq p.from.0 u.0) p.number (popped_numbers u ps))

  -- A turn takes what it pops.
  pub turn-got : (t : Network) (lines : List Disturb) (n : NodeId) (tick : Bool) (ds : List Doing)
      (due pops : List Popped) →
      got_from u (turn_after t lines n tick ds due pops) ≡ got_from u ds ++ popped_numbers u pops
  turn-got t lines n tick ds due pops =
      taken-got lines n (all_handled (items_after t n here) here) pops
      ∙ ap (λ ks. ks ++ popped_numbers u pops) (handled-got (items_after t n here) here
      ∙ freed-got (tick_if tick ds) due ∙ tick-got tick ds)
    where
      here : List Doing
      here = all_freed (tick_if tick ds) due

-- What is popped

module _ (t : Network) (r : Record) (n u : NodeId) where
  one-only : (v : NodeId) (k s j : ℕ) (o : Option Content) →
      is_number_in (popped_numbers u (popped_as v k s o)) j ≡ true →
      (nat_eq v.0 u.0 ≡ true) × (k ≡ j)
  one-only v k s j None is = absurd (cc is)
  one-only v k s j (Some x) is = go (nat_eq v.0 u.0) refl is
    where
      go : (b : Bool) → nat_eq v.0 u.0 ≡ b → is_number_in (cond b (k ∷ []) []) j ≡ true →
          (nat_eq v.0 u.0 ≡ true) × (k ≡ j)
      go true e is = (e, last (nat_eq k j) (λ h. grind (arith, h)) is)
        where
          last : (c : Bool) → (c ≡ true → k ≡ j) → (c || false) ≡ true → k ≡ j
          last true same is = same refl
          last false same is = absurd (cc is)
      go false e is = absurd (cc is)

  ring-only : (v : NodeId) (ks : List ℕ) (j : ℕ) →
      is_number_in (popped_numbers u (flat_map (popped_of t r n v) ks)) j ≡ true →
      (nat_eq v.0 u.0 ≡ true) × (is_number_in ks j ≡ true)
  ring-only v [] j is = absurd (cc is)
  ring-only v (k ∷ ks) j is =
      elim (in_either (popped_numbers u (popped_of t r n v k)) (popped_numbers u (flat_map (popped_of t r n v) ks)) j
      (sym (ap (λ js. is_number_in js j) (numbers-append u (popped_of t r n v k) (flat_map (popped_of t r n v) ks)))
      ∙ is)) [
        | inl here ↦
            (let one = one-only v k _ j _ here in
            (one.0, (let e : nat_eq k j ≡ true = (let same = one.1 in grind (arith, same)) in ap (λ b. b || is_number_in ks j) e)))
        | inr later ↦ (let rest = ring-only v ks j later in (rest.0, right (nat_eq k j) (is_number_in ks j) rest.1))
      ]
    where
      right : (a b : Bool) → b ≡ true → (a || b) ≡ true
      right true b e = refl
      right false b e = e

  -- only what stands there is popped
  popped-only : (us : List NodeId) (j : ℕ) →
      is_number_in (popped_numbers u (flat_map (popped_from t r n) us)) j ≡ true →
      is_number_in (standing t r u n) j ≡ true
  popped-only [] j is = absurd (cc is)
  popped-only (v ∷ us) j is =
      elim (in_either (popped_numbers u (popped_from t r n v)) (popped_numbers u (flat_map (popped_from t r n) us)) j
      (sym (ap (λ js. is_number_in js j) (numbers-append u (popped_from t r n v) (flat_map (popped_from t r n) us)))
      ∙ is)) [
        | inl here ↦
            (let one = ring-only v (standing t r v n) j here in
            let same : v.0 ≡ u.0 = eqb-true v.0 u.0 one.0 in
            subst (λ k. is_number_in (standing t r (record { 0 = k }) n) j ≡ true) same one.1)
        | inr later ↦ popped-only us j later
      ]

  pub all-popped_stood : (j : ℕ) → is_number_in (popped_numbers u (all_popped t r n)) j ≡ true →
      is_number_in (standing t r u n) j ≡ true
  all-popped_stood j is = popped-only _ j is

  -- All of it is

  numbered-there : (cs : List Content) (j : ℕ) → 0 < j → j ≤ length cs → (x : Content) × (numbered_at cs j ≡ Some x)
  numbered-there cs zero low high = absurd (omega (arith, low))
  numbered-there [] (suc j) low high = absurd (omega (arith, high))
  numbered-there (c ∷ cs) (suc zero) low high = (c, refl)
  numbered-there (c ∷ cs) (suc (suc j)) low high = numbered-there cs (suc j) (omega arith) (omega (arith, high))

  one-there : (k s : ℕ) (x : Content) → is_number_in (popped_numbers u (popped_as u k s (Some x))) k ≡ true
  one-there k s x =
      let a : nat_eq u.0 u.0 ≡ true = grind arith in
      let b : nat_eq k k ≡ true = grind arith in
      ap (λ c. is_number_in (cond c (k ∷ []) []) k) a ∙ ap (λ c. c || false) b

  ring-there : (ks : List ℕ) (j : ℕ) → is_number_in ks j ≡ true → 0 < j →
      j ≤ length (sent_by t u (deeds_at r u.0) n.0) →
      is_number_in (popped_numbers u (flat_map (popped_of t r n u) ks)) j ≡ true
  ring-there [] j is low high = absurd (cc is)
  ring-there (k ∷ ks) j is low high =
      ap (λ js. is_number_in js j) (numbers-append u (popped_of t r n u k) (flat_map (popped_of t r n u) ks))
      ∙ go (nat_eq k j) (λ e. grind (arith, e)) is (λ later. ring-there ks j later low high)
    where
      first : List ℕ
      first = popped_numbers u (popped_of t r n u k)

      rest : List ℕ
      rest = popped_numbers u (flat_map (popped_of t r n u) ks)

      go : (b : Bool) → (b ≡ true → k ≡ j) → (b || is_number_in ks j) ≡ true →
          (is_number_in ks j ≡ true → is_number_in rest j ≡ true) →
          is_number_in (first ++ rest) j ≡ true
      go true same is later =
          let x = numbered-there (sent_by t u (deeds_at r u.0) n.0) j low high in
          in-first first rest j
          (subst (λ i. is_number_in (popped_numbers u (popped_of t r n u i)) j ≡ true) (sym (same refl))
          (ap (λ o. is_number_in (popped_numbers u (popped_as u j (sent_stamp t u (deeds_at r u.0) n.0 j) o)) j) x.1
          ∙ one-there j (sent_stamp t u (deeds_at r u.0) n.0 j) x.0))
      go false same is later = in_right first rest j (later is)

  abbrev numbers-of : List NodeId → List ℕ
  numbers-of us = popped_numbers u (flat_map (popped_from t r n) us)

  -- the nodes from which channels lead there, the first of which may be one
  abbrev ids-with : Bool → NodeSpec → List NodeSpec → List NodeId
  ids-with b m ms = map (λ k. k.id)
      (cond b (m ∷ filter (λ k. is_world_channel t k.id n) ms) (filter (λ k. is_world_channel t k.id n) ms))

  nodes-there : (ms : List NodeSpec) (j : ℕ) → is_node_id ms u ≡ true → is_world_channel t u n ≡ true →
      is_number_in (popped_numbers u (popped_from t r n u)) j ≡ true →
      is_number_in (numbers-of (map (λ m. m.id) (filter (λ m. is_world_channel t m.id n) ms))) j ≡ true
  nodes-there [] j is on there = absurd (cc is)
  nodes-there (m ∷ ms) j is on there =
      go (is_world_channel t m.id n) (nat_eq m.id.0 u.0) refl (λ e. eqb-true m.id.0 u.0 e) is
      (λ later. nodes-there ms j later on there)
    where
      others : List NodeId
      others = map (λ k. k.id) (filter (λ k. is_world_channel t k.id n) ms)

      first : is_number_in (popped_numbers u (popped_from t r n m.id)
          ++ numbers-of (map (λ k. k.id) (filter (λ k. is_world_channel t k.id n) ms))) j ≡ true →
          is_number_in (numbers-of (ids-with true m ms)) j ≡ true
      first is = ap (λ js. is_number_in js j) (numbers-append u (popped_from t r n m.id) (flat_map (popped_from t r n) others)) ∙ is

      go : (b c : Bool) → is_world_channel t m.id n ≡ b → (c ≡ true → m.id.0 ≡ u.0) → (c || is_node_id ms u) ≡ true →
          (is_node_id ms u ≡ true → is_number_in (numbers-of (map (λ k. k.id) (filter (λ k. is_world_channel t k.id n) ms))) j ≡ true)
          → is_number_in (numbers-of (ids-with b m ms)) j ≡ true
      go true true e same is later =
          first (in-first (popped_numbers u (popped_from t r n m.id)) (numbers-of others) j
          (subst (λ k. is_number_in (popped_numbers u (popped_from t r n (record { 0 = k }))) j ≡ true)
          (sym (same refl)) there))
      go true false e same is later =
          first (in_right (popped_numbers u (popped_from t r n m.id)) (numbers-of others) j (later is))
      go false true e same is later =
          absurd (let on' : is_world_channel t m.id n ≡ true =
          subst (λ k. is_world_channel t (record { 0 = k }) n ≡ true) (sym (same refl)) on in cc (e, on'))
      go false false e same is later = later is

  pub all-standing_popped : is_world_channel t u n ≡ true → (j : ℕ) → is_number_in (standing t r u n) j ≡ true →
      is_number_in (popped_numbers u (all_popped t r n)) j ≡ true
  all-standing_popped on j is =
      nodes-there t.nodes j (sender-is t u n on) on
      (ring-there (standing t r u n) j is (in_above 0 (standing t r u n) (standing_rises t r u n) j is)
      (standing_within t r u n j is))
