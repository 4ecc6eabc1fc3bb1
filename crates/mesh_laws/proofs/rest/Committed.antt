-- The work after a step at one node: something is taken, the rule's answer is carried out, and what it sends is at the
-- ends of the lists.
use Rattle.std.proofs.Common.{◌≡◌, ◌≤◌, ◌<◌, ℕ, ◌+◌, ◌-◌, Bool, true, false, cond, nat_eq, List, [], ◌∷◌, ◌++◌, drop, refl, ap, arith, eqb-true}
use Rattle.std.specs.Prelude.{◌&&◌, filter, map}
use Rattle.ason_base.specs.{declared.messages.Msg.Msg, declared.tables.Out.Out}
use Rattle.mesh_rules.specs.{Changes.Answer, Machine.{Mesh, commit, without_first, sent_to}}
use Rattle.mesh_laws.specs.{Weights.{FirstRoutes, weight}, Work.{Spot, Desk, Way, total, amount, AreSpotsApart, WorkIsWithin}}
use Rattle.mesh_laws.proofs.rest.Works.{total-append, total-four, NoHeavier, total-lighter, total-none, once, once-most, work-moved}

-- What is sent

-- the messages of an answer, each by the node to which it goes
abbrev pub sent_weight : (ℕ → Msg → ℕ) → List Out → ℕ
sent_weight f outs = total (λ (o : Out). f o.to.0 o.msg) outs

-- what comes at a spot
abbrev pub gain : ℕ → (ℕ → Msg → ℕ) → List Out → Spot → ℕ
gain n f outs (Desk m) = 0
gain n f outs (Way a b) = cond (nat_eq a n) (total (f b) (sent_to b outs)) 0

one-gain : (n : ℕ) (f : ℕ → Msg → ℕ) (o : Out) (outs : List Out) (p : Spot) →
    gain n f (o ∷ outs) p + 0 ≤ once (Way n o.to.0) (f o.to.0 o.msg) p + gain n f outs p
one-gain n f o outs (Desk m) = omega arith
one-gain n f o outs (Way a b) = go (nat_eq a n) (nat_eq b o.to.0) (nat_eq o.to.0 b) refl refl refl
  where
    go : (x y z : Bool) → nat_eq a n ≡ x → nat_eq b o.to.0 ≡ y → nat_eq o.to.0 b ≡ z →
        cond x (total (f b) (map (λ (o : Out). o.msg)
        (cond z (o ∷ filter (λ (o : Out). nat_eq o.to.0 b) outs)
        (filter (λ (o : Out). nat_eq o.to.0 b) outs)))) 0 + 0 ≤
        cond (x && y) (f o.to.0 o.msg) 0 + cond x (total (f b) (sent_to b outs)) 0
    go true true true ex ey ez = let same : f b o.msg ≡ f o.to.0 o.msg =
        ap (λ (x : ℕ). f x o.msg) (eqb-true b o.to.0 ey) in omega arith
    go true true false ex ey ez = absurd (let is : b ≡ o.to.0 = eqb-true b o.to.0 ey in grind arith)
    go true false true ex ey ez = absurd (let is : o.to.0 ≡ b = eqb-true o.to.0 b ez in grind arith)
    go true false false ex ey ez = omega arith
    go false y z ex ey ez = omega arith

-- What the ways gain by the messages that are sent is at most what these weigh.
pub gains-within : (n : ℕ) (f : ℕ → Msg → ℕ) (outs : List Out) (ps : List Spot) → AreSpotsApart ps →
    total (gain n f outs) ps ≤ sent_weight f outs
gains-within n f [] ps apart = let h = total-none (gain n f []) ps nothing in omega arith
  where
    nothing : (p : Spot) → gain n f [] p ≡ 0
    nothing (Desk m) = refl
    nothing (Way a b) = go (nat_eq a n)
      where
        go : (x : Bool) → ◌≡◌ {A = ℕ} (cond x 0 0) 0
        go true = refl
        go false = refl
gains-within n f (o ∷ outs) ps apart =
    let a = total-four (gain n f (o ∷ outs)) (λ p. 0) (once (Way n o.to.0) (f o.to.0 o.msg)) (gain n f outs) ps
    (one-gain n f o outs) in
    let b = once-most (Way n o.to.0) (f o.to.0 o.msg) ps apart in
    let c = gains-within n f outs ps apart in
    omega arith

-- A message is taken

-- The mesh once the first message from u to d is taken with this answer.
abbrev pub taken_mesh : Mesh → ℕ → ℕ → Answer → Mesh
taken_mesh s u d a = commit (without_first s u d) d a

-- No message that stays gets heavier.
abbrev pub StayLight : FirstRoutes → Mesh → FirstRoutes → Mesh → Mesh → Type 0
StayLight o s o' s' left = (a b : ℕ) → NoHeavier (weight o s a b) (weight o' s' a b) (left.mail a b)

module _ (o o' : FirstRoutes) (s : Mesh) (u d : ℕ) (m : Msg) (rest : List Msg) (was : s.mail u d ≡ m ∷ rest)
    (a : Answer) where
  abbrev f : Spot → ℕ
  f = amount o s

  abbrev f' : Spot → ℕ
  f' = amount o' (taken_mesh s u d a)

  taken-each : StayLight o s o' (taken_mesh s u d a) (without_first s u d) → (p : Spot) →
      f' p + once (Way u d) (weight o s u d m) p ≤ f p + gain d (weight o' (taken_mesh s u d a) d) a.sent p
  taken-each stay (Desk n) = omega arith
  taken-each stay (Way x y) = go (nat_eq x u) (nat_eq y d) (nat_eq x d) refl refl refl (stay x y)
    where
      g : Msg → ℕ
      g = weight o s x y

      g' : Msg → ℕ
      g' = weight o' (taken_mesh s u d a) x y

      left : Bool → List Msg
      left b = cond b (drop 1 (s.mail x y)) (s.mail x y)

      -- without what is sent
      kept : (b c : Bool) → nat_eq x u ≡ b → nat_eq y d ≡ c → NoHeavier g g' (left (b && c)) →
          total g' (left (b && c)) + cond (b && c) (weight o s u d m) 0 ≤ total g (s.mail x y)
      kept true true e h light =
          let x_is : x ≡ u = eqb-true x u e in
          let y_is : y ≡ d = eqb-true y d h in
          let is : s.mail x y ≡ m ∷ rest = rw (x_is, y_is) was in
          let l = total-lighter g g' (drop 1 (s.mail x y)) light in
          let first : total g (s.mail x y) ≡ g m + total g (drop 1 (s.mail x y)) = rw is refl in
          let same : weight o s x y m ≡ weight o s u d m = rw (x_is, y_is) refl in
          omega arith
      kept true false e h light = let l = total-lighter g g' (s.mail x y) light in omega arith
      kept false c e h light = let l = total-lighter g g' (s.mail x y) light in omega arith

      go : (b c n : Bool) → nat_eq x u ≡ b → nat_eq y d ≡ c → nat_eq x d ≡ n →
          NoHeavier g g' (left (b && c)) →
          total g' (cond n (left (b && c) ++ sent_to y a.sent) (left (b && c))) + cond (b && c) (weight o s u d m) 0 ≤
          total g (s.mail x y) + cond n (total (weight o' (taken_mesh s u d a) d y) (sent_to y a.sent)) 0
      go b c true e h i light =
          let k = kept b c e h light in
          let x_is : x ≡ d = eqb-true x d i in
          let both = total-append g' (left (b && c)) (sent_to y a.sent) in
          let same : total g' (sent_to y a.sent) ≡ total (weight o' (taken_mesh s u d a) d y) (sent_to y a.sent) =
          rw x_is refl in
          omega arith
      go b c false e h i light = let k = kept b c e h light in omega arith

  -- a message is taken that outweighs what is sent
  pub taken-lightens : StayLight o s o' (taken_mesh s u d a) (without_first s u d) → (w : ℕ) → WorkIsWithin o s w →
      (more : ℕ) → sent_weight (weight o' (taken_mesh s u d a) d) a.sent ≤ more → more < weight o s u d m →
      (left : ℕ) × WorkIsWithin o' (taken_mesh s u d a) left × (left + weight o s u d m ≡ w + more)
  taken-lightens stay w within more sent pays =
      let there : total (amount o s) (Way u d ∷ []) ≤ w = within (Way u d ∷ []) (refl, tt) in
      let first : total (weight o s u d) (s.mail u d) ≡ weight o s u d m + total (weight o s u d) rest =
      rw was refl in (
        (w + more) - weight o s u d m,
        λ ps apart.
            (let h = work-moved (amount o s) f' (gain d (weight o' (taken_mesh s u d a) d) a.sent) (Way u d)
            (weight o s u d m) (sent_weight (weight o' (taken_mesh s u d a) d) a.sent) w (taken-each stay) (omega arith)
            (gains-within d (weight o' (taken_mesh s u d a) d) a.sent) within ps apart in
            omega arith),
        omega arith,
      )
